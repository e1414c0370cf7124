-- Passes given to the parties, box after box.
use Rattle.std.proofs.Common.{◌≡◌, ◌≢◌, ℕ, ◌+◌, ◌-◌, ◌*◌, ◌<◌, ◌≤◌, ◌==◌, if◌then◌else◌, inl, inr, List, [], ◌∷◌, ◌++◌, length, set, map, get_or, replicate, sym, ap, subst, refl, ◌∙◌, arith}
use Rattle.std.proofs.lemmas.Bool.{cases_eq, cases_lt, eq-eqb, ne_eqb, lt-ltb, le-ltb}
use Rattle.std.proofs.lemmas.Nat.{same_from_place}
use Rattle.std.proofs.lemmas.List.{get_or-map, map-set, map_push, length-set, length_push, get_or-set_same, get_or-set_other, get_or_push, get_or_append_left, get_or-replicate, length-replicate}
use Rattle.std.specs.Global.{Vec}
use Rattle.mail_seg.specs.declared.shared_box.BoxPass.{BoxPass}
use Rattle.mail_seg.specs.Sides.{Side, side, poster_side, idle_side}
use Rattle.mail_seg.specs.Wires.{poster_count}
use Rattle.mail_seg.specs.Ends.{side_at, no_side}
use Rattle.mail_seg.specs.Rows.{row_at, rows_of, Dealt, reader_side, new_side, AddedBox, RowsTo}
use Rattle.mail_seg.proofs.PosterLemmas.{count-level, count-other, controller-posts}

-- what the table says of the list at a place
pub row_at-here : (rows : List (Vec BoxPass)) (at : ℕ) (v : Vec BoxPass) → at < length rows → v ≡ get_or rows at v → row_at (rows_of rows) at ≡ map side v.items
row_at-here rows at v h e = get_or-map (λ (x : Vec BoxPass). map side x.items) rows at v [] h ∙ ap (λ (x : Vec BoxPass). map side x.items) (sym e)

pub ruleset table_steps = (row_at-here, map-set, map_push)

pub Dealt-none : (k : ℕ) (pass : ℕ → Side) (rows : List (List Side)) → Dealt k k pass rows rows
Dealt-none k pass rows = record { count = refl; those = λ s h l. absurd (omega arith); below = λ s h. refl; above = λ s h. refl }

pub Dealt-push : {from k : ℕ} {pass : ℕ → Side} {old rows rows' : List (List Side)} → Dealt from k pass old rows → from ≤ k → k < length old → rows' ≡ set rows k (row_at rows k ++ pass k ∷ []) → Dealt from (k + 1) pass old rows'
Dealt-push {from = from} {k = k} {pass = pass} {old = old} {rows = rows} {rows' = rows'} d order inside e =
    let here : row_at rows' k ≡ row_at rows k ++ pass k ∷ [] = ap (λ rs. row_at rs k) e ∙ get_or-set_same rows k _ [] (omega (arith, d.count)) in
    let there = λ (s : ℕ) (other : s ≢ k). ap (λ rs. row_at rs s) e ∙ get_or-set_other rows k s (row_at rows k ++ pass k ∷ []) [] other in
    record {
      count = ap length e ∙ length-set rows k _ ∙ d.count;
      those = λ s h l. elim (cases_eq s k) [
        | inl same ↦ subst (λ j. row_at rows' j ≡ row_at old j ++ pass j ∷ []) (sym same) (here ∙ ap (λ l. l ++ pass k ∷ []) (d.above k (omega arith)))
        | inr other ↦ there s other ∙ d.those s h (omega arith)
      ];
      below = λ s h. there s (λ e. absurd (omega arith)) ∙ d.below s h;
      above = λ s h. there s (λ e. absurd (omega arith)) ∙ d.above s (omega arith);
    }

new_side-own : (n r p : ℕ) (q : ℕ × ℕ) → new_side n r p q r ≡ reader_side n r p q
new_side-own n r p q = rw (eq-eqb r r refl) refl

new_side-posts : (n r p : ℕ) (q : ℕ × ℕ) (s : ℕ) → (s ≡ r → ⊥) → s < poster_count n p → new_side n r p q s ≡ poster_side r p q s
new_side-posts n r p q s h l = rw (ne_eqb s r h, lt-ltb s (poster_count n p) l) refl

new_side-idle : (n r p : ℕ) (q : ℕ × ℕ) (s : ℕ) → (s ≡ r → ⊥) → poster_count n p ≤ s → new_side n r p q s ≡ idle_side r p q
new_side-idle n r p q s h l = rw (ne_eqb s r h, le-ltb s (poster_count n p) l) refl

-- idle passes for those that don't post
pub Dealt-idle : (n p : ℕ) (pass : Side) (rows rows' : List (List Side)) → 0 < n → length rows ≡ n → p ≡ 0 → rows' ≡ set rows (n - 1) (row_at rows (n - 1) ++ pass ∷ []) → Dealt (poster_count n p) n (λ s. pass) rows rows'
Dealt-idle n p pass rows rows' some len level e =
    let last : (n - 1) + 1 ≡ n = omega (arith, some) in
    let one : Dealt (n - 1) ((n - 1) + 1) (λ s. pass) rows rows' = Dealt-push (Dealt-none (n - 1) (λ s. pass) rows) (omega arith) (omega (arith, some, len)) e in
    subst (λ k. Dealt k n (λ s. pass) rows rows') (sym (count-level n p level)) (subst (λ k. Dealt (n - 1) k (λ s. pass) rows rows') last one)

pub Dealt-all : (n p : ℕ) (pass : Side) (rows : List (List Side)) → (p ≡ 0 → ⊥) → Dealt (poster_count n p) n (λ s. pass) rows rows
Dealt-all n p pass rows other = subst (λ k. Dealt k n (λ s. pass) rows rows) (sym (count-other n p other)) (Dealt-none n (λ s. pass) rows)

-- passes for the parties before the receiver, for those after it that post, for those that don't, and for the receiver
pub AddedBox-from : (n r p : ℕ) (q : ℕ × ℕ) (rows0 rows1 rows2 rows3 rows4 : List (List Side)) → r + 1 < n → length rows0 ≡ n →
    Dealt 0 r (poster_side r p q) rows0 rows1 → Dealt (r + 1) (poster_count n p) (poster_side r p q) rows1 rows2 →
    Dealt (poster_count n p) n (λ s. idle_side r p q) rows2 rows3 → rows4 ≡ set rows3 r (row_at rows3 r ++ reader_side n r p q ∷ []) → AddedBox n r p q rows0 rows4
AddedBox-from n r p q rows0 rows1 rows2 rows3 rows4 inside len d1 d2 d3 e4 =
    let f = poster_side r p q in
    let posts : r < poster_count n p = controller-posts n p r inside in
    let three : length rows3 ≡ n = d3.count ∙ d2.count ∙ d1.count ∙ len in
    let last : row_at rows4 r ≡ row_at rows3 r ++ reader_side n r p q ∷ [] = ap (λ rs. row_at rs r) e4 ∙ get_or-set_same rows3 r _ [] (omega (arith, three, inside)) in
    let fourth = λ (s : ℕ) (other : s ≢ r). ap (λ rs. row_at rs s) e4 ∙ get_or-set_other rows3 r s (row_at rows3 r ++ reader_side n r p q ∷ []) [] other in
    record {
      count = ap length e4 ∙ length-set rows3 r _ ∙ d3.count ∙ d2.count ∙ d1.count;
      each = λ s h. elim (cases_eq s r) [
        | inl same ↦
            let was : row_at rows3 r ≡ row_at rows0 r = d3.below r posts ∙ d2.below r (omega arith) ∙ d1.above r (omega arith) in
            subst (λ j. row_at rows4 j ≡ row_at rows0 j ++ new_side n r p q j ∷ []) (sym same)
            (last ∙ ap (λ l. l ++ reader_side n r p q ∷ []) was ∙ ap (λ x. row_at rows0 r ++ x ∷ []) (sym (new_side-own n r p q)))
        | inr other ↦ fourth s other ∙ elim (cases_lt s (poster_count n p)) [
          | inl some ↦
              let back : row_at rows0 s ++ f s ∷ [] ≡ row_at rows0 s ++ new_side n r p q s ∷ [] = ap (λ x. row_at rows0 s ++ x ∷ []) (sym (new_side-posts n r p q s other some)) in
              d3.below s some ∙ elim (cases_lt s r) [
                | inl before ↦ d2.below s (omega (arith, before)) ∙ d1.those s (omega arith) before ∙ back
                | inr past ↦ d2.those s (omega (arith, other, past)) some ∙ ap (λ l. l ++ f s ∷ []) (d1.above s past) ∙ back
              ]
          | inr idle ↦
              let after : r + 1 ≤ s = omega (arith, posts, idle) in
              d3.those s idle h ∙ ap (λ l. l ++ idle_side r p q ∷ []) (d2.above s idle ∙ d1.above s (omega (arith, after)))
              ∙ ap (λ x. row_at rows0 s ++ x ∷ []) (sym (new_side-idle n r p q s other idle))
        ]
      ];
    }

pub RowsTo-none : (n : ℕ) → RowsTo 0 n (replicate n [])
RowsTo-none n = record {
  queue = λ i. (0, 0);
  count = length-replicate n [];
  len = λ s h. ap length (get_or-replicate n s [] [] h);
  each = λ s r b h l k. absurd (omega arith);
}

-- one box more
pub RowsTo-step : {k n r b p : ℕ} {q : ℕ × ℕ} {rows rows' : List (List Side)} → RowsTo k n rows → AddedBox n r p q rows rows' → k ≡ r * 6 + b → b < 6 → p ≡ 5 - b → RowsTo (k + 1) n rows'
RowsTo-step {k = k} {n = n} {r = r} {b = b} {p = p} {q = q} {rows = rows} {rows' = rows'} all box at low prio =
    let queue' : ℕ → ℕ × ℕ = λ i. if i == k then q else all.queue i in
    record {
      queue = queue';
      count = box.count ∙ all.count;
      len = λ s h. ap length (box.each s h) ∙ length_push (row_at rows s) _ ∙ ap (λ l. l + 1) (all.len s h);
      each = λ s r' b' h low' inside. elim (cases_eq (r' * 6 + b') k) [
        | inl same ↦
            let both = same_from_place r' b' r b 6 low' low (same ∙ at) in
            let found : side_at (row_at rows' s) (r' * 6 + b') ≡ new_side n r p q s =
            ap (λ l. side_at l (r' * 6 + b')) (box.each s h) ∙ get_or_push (row_at rows s) (new_side n r p q s) no_side (r' * 6 + b') (all.len s h ∙ sym same) in
            let queue_is : queue' (r' * 6 + b') ≡ q = rw (eq-eqb (r' * 6 + b') k same) refl in
            found ∙ ap (λ x. new_side n x p q s) (sym both.0) ∙ ap (λ x. new_side n r' x q s) (prio ∙ ap (λ x. 5 - x) (sym both.1)) ∙ ap (λ x. new_side n r' (5 - b') x s) (sym queue_is)
        | inr other ↦
            let under : r' * 6 + b' < k = omega (arith, inside, other) in
            let queue_is : queue' (r' * 6 + b') ≡ all.queue (r' * 6 + b') = rw (ne_eqb (r' * 6 + b') k other) refl in
            ap (λ l. side_at l (r' * 6 + b')) (box.each s h)
            ∙ get_or_append_left (row_at rows s) (new_side n r p q s ∷ []) no_side (r' * 6 + b') (omega (arith, all.len s h, under))
            ∙ all.each s r' b' h low' under
            ∙ ap (λ x. new_side n r' (5 - b') x s) (sym queue_is)
      ];
    }
