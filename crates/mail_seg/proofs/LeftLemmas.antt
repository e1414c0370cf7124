-- One box at the close.
use Rattle.std.proofs.Common.{◌≡◌, ◌≢◌, ℕ, zero, suc, ◌+◌, ◌-◌, ◌<◌, ◌≤◌, inl, inr, List, [], ◌∷◌, ◌++◌, length, set, map, get_or, drop, sym, ap, subst, refl, ◌∙◌, arith, append_assoc}
use Rattle.std.proofs.lemmas.Bool.{cases_eq, cases_lt}
use Rattle.std.proofs.lemmas.List.{map-set, map_push, get_or-map, length-map, length-set, get_or-set_same, get_or-set_other, append-nil}
use lib.Seq.{drop-append_seam}
use Rattle.std.specs.Global.{Vec}
use Rattle.mail_seg.specs.declared.row.Row.{Row}
use Rattle.room_kinds.specs.declared.message.Msg.{Msg}
use Rattle.mail_core.specs.SetUp.{at_priority}
use Rattle.mail_core.proofs.DrainLemmas.{at_priority-same}
use Rattle.mail_seg.specs.Sides.{Sent, Side, side, from_sender, getting, AllTaken, IsEmptied}
use Rattle.mail_seg.specs.Ends.{first_list}
use Rattle.mail_seg.specs.Rows.{row_at}
use Rattle.mail_seg.specs.Left.{queues_of, Fronts, gathered, IsBox, left_in, IsSettled, lists_of, list_at, TookMore, Drained}
use Rattle.mail_seg.specs.Wires.{party_of, poster_count}
use Rattle.mail_seg.proofs.PosterLemmas.{count-most, posters-some, posters-none}
use Rattle.mail_seg.proofs.SideLemmas.{from_sender-append, from_sender-own, from_sender-other}
use Rattle.mail_seg.proofs.EndLemmas.{own_taken}

-- what the tables say of the list at a place
pub queue_at-here : (rows : List Row) (at : ℕ) (v : Row) → at < length rows → v ≡ get_or rows at v → row_at (queues_of rows) at ≡ map side v.passes.items
queue_at-here rows at v h e = get_or-map (λ (x : Row). map side x.passes.items) rows at v [] h ∙ ap (λ (x : Row). map side x.passes.items) (sym e)

pub list_at-here : (lists : List (Vec Msg)) (at : ℕ) (v : Vec Msg) → at < length lists → v ≡ get_or lists at v → list_at (lists_of lists) at ≡ v.items
list_at-here lists at v h e = get_or-map (λ (x : Vec Msg). x.items) lists at v [] h ∙ ap (λ (x : Vec Msg). x.items) (sym e)

pub ruleset table_steps = (queue_at-here, map-set)

pub ruleset list_steps = (list_at-here, map-set)

pub Fronts-none : (k : ℕ) (rows : List (List Side)) → Fronts k k rows rows
Fronts-none k rows = record { count = refl; those = λ s h l. absurd (omega arith); below = λ s h. refl; above = λ s h. refl }

pub Fronts-more : {from k : ℕ} {old rows rows' : List (List Side)} → Fronts from k old rows → from ≤ k → k < length old → rows' ≡ set rows k (drop 1 (row_at rows k)) → Fronts from (k + 1) old rows'
Fronts-more {from = from} {k = k} {old = old} {rows = rows} {rows' = rows'} d order inside e =
    let here : row_at rows' k ≡ drop 1 (row_at rows k) = ap (λ rs. row_at rs k) e ∙ get_or-set_same rows k _ [] (omega (arith, d.count)) in
    let there = λ (s : ℕ) (other : s ≢ k). ap (λ rs. row_at rs s) e ∙ get_or-set_other rows k s (drop 1 (row_at rows k)) [] other in
    record {
      count = ap length e ∙ length-set rows k _ ∙ d.count;
      those = λ s h l. elim (cases_eq s k) [
        | inl same ↦ subst (λ j. row_at rows' j ≡ drop 1 (row_at old j)) (sym same) (here ∙ ap (drop 1) (d.above k (omega arith)))
        | inr other ↦ there s other ∙ d.those s h (omega arith)
      ];
      below = λ s h. there s (λ e. absurd (omega arith)) ∙ d.below s h;
      above = λ s h. there s (λ e. absurd (omega arith)) ∙ d.above s (omega arith);
    }

-- the receiver's pass first, then those before it and those after it
pub Fronts-all : (n r : ℕ) (rows0 rows1 rows2 rows3 : List (List Side)) → r < n → n ≤ length rows0 → rows1 ≡ set rows0 r (drop 1 (row_at rows0 r)) → Fronts 0 r rows1 rows2 → Fronts (r + 1) n rows2 rows3 → Fronts 0 n rows0 rows3
Fronts-all n r rows0 rows1 rows2 rows3 inside long e d d' =
    let here : row_at rows1 r ≡ drop 1 (row_at rows0 r) = ap (λ rs. row_at rs r) e ∙ get_or-set_same rows0 r _ [] (omega arith) in
    let there = λ (s : ℕ) (other : s ≢ r). ap (λ rs. row_at rs s) e ∙ get_or-set_other rows0 r s (drop 1 (row_at rows0 r)) [] other in
    record {
      count = d'.count ∙ d.count ∙ ap length e ∙ length-set rows0 r _;
      those = λ s h l. elim (cases_eq s r) [
        | inl same ↦ subst (λ j. row_at rows3 j ≡ drop 1 (row_at rows0 j)) (sym same) (d'.below r (omega arith) ∙ d.above r (omega arith) ∙ here)
        | inr other ↦ elim (cases_lt s r) [
          | inl before ↦ d'.below s (omega arith) ∙ d.those s h before ∙ ap (drop 1) (there s other)
          | inr past ↦ d'.those s (omega (arith, other, past)) l ∙ ap (drop 1) (d.above s past ∙ there s other)
        ]
      ];
      below = λ s h. absurd (omega arith);
      above = λ s h. d'.above s h ∙ d.above s (omega arith) ∙ there s (λ e. absurd (omega arith));
    }

-- one pass more
pub gathered-more : (f : ℕ → Side) (from k : ℕ) → from ≤ k → gathered f from ((k + 1) - from) ≡ gathered f from (k - from) ++ (f k).posts
gathered-more f from k h =
    let next : (k + 1) - from ≡ suc (k - from) = omega arith in
    let at : from + (k - from) ≡ k = omega arith in
    ap (gathered f from) next ∙ ap (λ i. gathered f from (k - from) ++ (f i).posts) at

pub gathered-same : (f g : ℕ → Side) (from k : ℕ) → ((s : ℕ) → from ≤ s → s < from + k → f s ≡ g s) → gathered f from k ≡ gathered g from k
gathered-same f g from zero h = refl
gathered-same f g from (suc k) h = ap (λ l. l ++ (f (from + k)).posts) (gathered-same f g from k (λ s a b. h s a (omega arith))) ∙ ap (λ (x : Side). gathered g from k ++ x.posts) (h (from + k) (omega arith) (omega arith))

-- what is taken of all is taken of each
AllTaken-left : (got : List Msg) (xs ys : List Sent) → AllTaken got (xs ++ ys) → AllTaken got xs
AllTaken-left got [] ys all = tt
AllTaken-left got (x ∷ xs) ys all = (all.0, AllTaken-left got xs ys all.1)

AllTaken-right : (got : List Msg) (xs ys : List Sent) → AllTaken got (xs ++ ys) → AllTaken got ys
AllTaken-right got [] ys all = all
AllTaken-right got (x ∷ xs) ys all = AllTaken-right got xs ys all.1

AllTaken-gathered : (got : List Msg) (f : ℕ → Side) (from k s : ℕ) → AllTaken got (gathered f from k) → from ≤ s → s < from + k → AllTaken got (f s).posts
AllTaken-gathered got f from zero s all h l = absurd (omega arith)
AllTaken-gathered got f from (suc k) s all h l = elim (cases_eq s (from + k)) [
  | inl same ↦ subst (λ j. AllTaken got (f j).posts) (sym same) (AllTaken-right got (gathered f from k) (f (from + k)).posts all)
  | inr other ↦ AllTaken-gathered got f from k s (AllTaken-left got (gathered f from k) (f (from + k)).posts all) h (omega (arith, l, other))
]

-- nothing taken yet, and one message more
pub TookMore-none : {a : Side} {lists : List (List Msg)} → TookMore a a lists lists
TookMore-none {a = a} {lists = lists} = record {
  left = [];
  side_is = ap (λ (l : List Msg). record a { got = l }) (sym (append-nil a.got));
  count = refl;
  lists = λ s h. sym (append-nil (list_at lists s));
}

pub TookMore-one : {a b c : Side} {old mid new : List (List Msg)} (m : Msg) → TookMore a b old mid → c ≡ getting b m → m.from.0 < length mid → new ≡ set mid m.from.0 (list_at mid m.from.0 ++ m ∷ []) → TookMore a c old new
TookMore-one {a = a} {b = b} {c = c} {old = old} {mid = mid} {new = new} m t took inside e =
    let l' = t.left ++ m ∷ [] in
    record {
      left = l';
      side_is = took ∙ ap (λ x. getting x m) t.side_is ∙ ap (λ (l : List Msg). record a { got = l }) (append_assoc a.got t.left (m ∷ []));
      count = ap length e ∙ length-set mid m.from.0 _ ∙ t.count;
      lists = λ s h. elim (cases_eq s m.from.0) [
        | inl same ↦
            let mine : list_at new m.from.0 ≡ list_at mid m.from.0 ++ m ∷ [] = ap (λ ls. list_at ls m.from.0) e ∙ get_or-set_same mid m.from.0 _ [] inside in
            let own : from_sender s (m ∷ []) ≡ m ∷ [] = from_sender-own s m (sym same) in
            ap (list_at new) same ∙ mine
            ∙ ap (λ j. list_at mid j ++ m ∷ []) (sym same)
            ∙ ap (λ ms. ms ++ m ∷ []) (t.lists s h)
            ∙ append_assoc (list_at old s) (from_sender s t.left) (m ∷ [])
            ∙ ap (λ ms. list_at old s ++ (from_sender s t.left ++ ms)) (sym own)
            ∙ ap (λ ms. list_at old s ++ ms) (sym (from_sender-append s t.left (m ∷ [])))
        | inr other ↦
            let none : from_sender s (m ∷ []) ≡ [] = from_sender-other s m (λ x. other (sym x)) in
            ap (λ ls. list_at ls s) e ∙ get_or-set_other mid m.from.0 s _ [] other ∙ t.lists s h
            ∙ ap (λ ms. list_at old s ++ ms) (sym (append-nil (from_sender s t.left)) ∙ ap (λ ms. from_sender s t.left ++ ms) (sym none) ∙ sym (from_sender-append s t.left (m ∷ [])))
      ];
    }

pub Drained-from : {a b c : Side} {old new : List (List Msg)} → TookMore a b old new → c ≡ b → IsEmptied b → Drained a c old new
Drained-from {a = a} {b = b} {c = c} {old = old} {new = new} t e all = record {
  more = subst (λ x. TookMore a x old new) (sym e) t;
  emptied = subst IsEmptied (sym e) all;
}

pub ruleset drain_steps = (TookMore-none, TookMore-one, Drained-from)

-- the rest of a list after its front
rest_is : (front rest all : List Msg) → front ++ rest ≡ all → drop (length front) all ≡ rest
rest_is front rest all e = ap (drop (length front)) (sym e) ∙ drop-append_seam front rest

-- a pass that posts for nobody
nobody_posted : (xs : List Sent) → map party_of xs ≡ [] → first_list xs ≡ []
nobody_posted [] e = refl
nobody_posted (x ∷ xs) e = absurd (cc)

-- the receiver's pass knows of no more than all parties
pub next-most : (n r : ℕ) (passes : ℕ → Side) → IsBox n r passes → r < n → (passes r).next ≤ n
next-most n r passes is_box inside = let is = ((is_box.wires r inside).own refl).1 in let most = count-most n is_box.prio in omega (arith, is, most)

-- all passes of a box were taken in, and it was drained
module _ (n r : ℕ) (passes : ℕ → Side) (is_box : IsBox n r passes) (inside : r < n) (own own' : Side)
    (whole : own ≡ record (passes r) { posts = ((passes r).posts ++ gathered passes 0 r) ++ gathered passes (r + 1) (n - (r + 1)) }) (lists lists' : List (List Msg)) (d : Drained own own' lists lists') where
  abbrev left_list : List Msg
  left_list = d.more.left

  got_is : own'.got ≡ (passes r).got ++ left_list
  got_is = ap (λ (a : Side). a.got) d.more.side_is ∙ ap (λ (a : Side). a.got ++ left_list) whole

  posts_are : own'.posts ≡ ((passes r).posts ++ gathered passes 0 r) ++ gathered passes (r + 1) (n - (r + 1))
  posts_are = ap (λ (a : Side). a.posts) d.more.side_is ∙ ap (λ (a : Side). a.posts) whole

  all_of : (s : ℕ) → s < n → AllTaken own'.got (passes s).posts
  all_of s h =
      let all : AllTaken own'.got (((passes r).posts ++ gathered passes 0 r) ++ gathered passes (r + 1) (n - (r + 1))) = subst (AllTaken own'.got) posts_are d.emptied.all in
      let first = AllTaken-left own'.got ((passes r).posts ++ gathered passes 0 r) (gathered passes (r + 1) (n - (r + 1))) all in
      elim (cases_eq s r) [
        | inl same ↦ subst (λ j. AllTaken own'.got (passes j).posts) (sym same) (AllTaken-left own'.got (passes r).posts (gathered passes 0 r) first)
        | inr other ↦ elim (cases_lt s r) [
          | inl before ↦ AllTaken-gathered own'.got passes 0 r s (AllTaken-right own'.got (passes r).posts (gathered passes 0 r) first) (omega arith) (omega arith)
          | inr past ↦ AllTaken-gathered own'.got passes (r + 1) (n - (r + 1)) s (AllTaken-right own'.got ((passes r).posts ++ gathered passes 0 r) (gathered passes (r + 1) (n - (r + 1))) all) (omega (arith, other, past)) (omega arith)
        ]
      ]

  next_is : own'.next ≡ poster_count n is_box.prio
  next_is = ap (λ (a : Side). a.next) d.more.side_is ∙ ap (λ (a : Side). a.next) whole ∙ ((is_box.wires r inside).own refl).1

  -- what was posted in all is what was taken in all
  taken_of : (s : ℕ) → s < n → from_sender s own'.got ≡ first_list (passes s).posts
  taken_of s h =
      let parties = (is_box.wires s h).parties in
      elim (cases_lt s (poster_count n is_box.prio)) [
        | inl posts ↦ sym (own_taken s own'.got (passes s).posts (parties ∙ posters-some n is_box.prio s posts) (all_of s h))
        | inr past ↦
            let none : from_sender s own'.got ≡ [] = d.emptied.none s (omega (arith, next_is, past)) in
            none ∙ sym (nobody_posted (passes s).posts (parties ∙ posters-none n is_box.prio s past))
      ]

  taken_and_left : (s : ℕ) → s < n → from_sender s (passes r).got ++ from_sender s left_list ≡ first_list (passes s).posts
  taken_and_left s h = sym (from_sender-append s (passes r).got left_list) ∙ ap (from_sender s) (sym got_is) ∙ taken_of s h

  left_is : (s : ℕ) → s < n → left_in passes r s ≡ from_sender s left_list
  left_is s h = rest_is (from_sender s (passes r).got) (from_sender s left_list) (first_list (passes s).posts) (taken_and_left s h)

  pub settled : (s : ℕ) → s < n → IsSettled passes r s
  settled s h = ap (λ ms. from_sender s (passes r).got ++ ms) (left_is s h) ∙ taken_and_left s h

  pub listed : length lists ≡ n → ((s : ℕ) → s < n → list_at lists s ≡ []) → at_priority n (list_at lists') ≡ at_priority n (left_in passes r)
  listed count empty = at_priority-same n (list_at lists') (left_in passes r) (omega arith) (λ s h. d.more.lists s (rw count h) ∙ ap (λ l. l ++ from_sender s left_list) (empty s h) ∙ sym (left_is s h))
