-- Turns of a walk, one after another.
use Rattle.std.proofs.Common.{◌≡◌, ◌≢◌, ◌⊎◌, inl, inr, ℕ, zero, suc, ◌+◌, ◌<◌, ◌≤◌, Bool, true, false, nat_eq, List, [], ◌∷◌, ◌++◌, length, get_or, take, drop, ◌-◌, set, length-set, map, Option, Some, None, Bor, refl, sym, ap, ◌∙◌, subst, arith, reverse}
use Rattle.std.specs.Prelude.{slice_index, slice_set, ◌||◌, is_none}
use Rattle.std.specs.Global.{Vec}
use Rattle.std.specs.List.{list_any, slice_index_or, sum_by}
use Rattle.std.proofs.lemmas.Bool.{cases_eq, cases_lt}
use Rattle.std.proofs.lemmas.List.{reverse-append, length-append, take_all}
use Rattle.std.proofs.lemmas.List.Sums.{sum_by-set, sum_by-cons}
use Rattle.number_graphs.specs.class_containment.Containment.{parts_of, has_part, Contains, NoneContainsItself, IsContainmentOrder, contains_itself}
use Rattle.number_graphs.specs.class_containment.Walks.{at, is_in, is_settled, is_open, unsettled, work, work_left, IsChain, Passed, Stands, IsKnown, IsSorted, Walking, is_untouched, KeepsReached, Looks, reaches, passes, circles, Turns, leaves, drops, looks, Searches, Rests, SearchesFrom, parts_left, Orders, ContainsItself}
use Rattle.number_graphs.specs.declared.class_containment.Walk.{Walk}
use Rattle.number_graphs.specs.declared.class_containment.Progress.{Progress}
use Rattle.number_graphs.specs.declared.class_containment.Progress.TheVariants.{Untouched, Open, Settled}
use Rattle.number_graphs.proofs.class_containment.Steps.{reached, reached_keeps, passed, passed_keeps, left, left_keeps, dropped, in_range, in_first, at-set}
use Rattle.number_graphs.proofs.class_containment.Chains.{circle, no_circle, circle_is_seen, order_is_seen}

-- what a turn does to a walk, or the circle that it finds
abbrev Turned : List (List ℕ) → Walk → Walk → Bool → Type 0
Turned classes old new true = (i : ℕ) × Contains classes i i
Turned classes old new false = Walking classes new.progress.items (reverse new.path.items) new.order.items × KeepsReached old.progress.items new.progress.items

-- what is known of the walk is known of equal lists
pub walking_as : (classes : List (List ℕ)) (pr pr' : List Progress) (up up' order order' : List ℕ) → pr' ≡ pr → up' ≡ up → order' ≡ order → Walking classes pr up order → Walking classes pr' up' order'
walking_as classes pr pr' up up' order order' a b c h =
    let P : List Progress → Type 0 = λ x. Walking classes x up' order' in
    let Q : List ℕ → Type 0 = λ x. Walking classes pr x order' in
    let R : List ℕ → Type 0 = λ x. Walking classes pr up x in
    subst P (sym a) (subst Q (sym b) (subst R (sym c) h))

keeps_as : (old pr new : List Progress) → new ≡ pr → KeepsReached old pr → KeepsReached old new
keeps_as old pr new e h = let P : List Progress → Type 0 = λ x. KeepsReached old x in subst P (sym e) h

module _ (classes : List (List ℕ)) (old new : Walk) (top : ℕ) (w : Walking classes old.progress.items (top ∷ reverse old.path.items) old.order.items) where
  turned_look : (rest left : Bor (List ℕ)) (part : ℕ) (found : Bool) → at old.progress.items top ≡ Open rest → rest.now ≡ part ∷ left.now → has_part classes top part ≡ true → Looks old new top part left found → Turned classes old new found
  turned_look rest tail part found open_at first has (reaches parts fresh progress order path) = (
    walking_as classes _ _ _ _ _ _ progress (ap reverse path ∙ reverse-append (old.path.items ++ top ∷ []) (part ∷ []) ∙ ap (λ xs. part ∷ xs) (reverse-append old.path.items (top ∷ []))) order
        (reached classes old.progress.items (top ∷ reverse old.path.items) old.order.items part parts w fresh (has, w.chain)),
    keeps_as _ _ _ progress (reached_keeps classes old.progress.items (top ∷ reverse old.path.items) old.order.items part parts w fresh),
  )
  turned_look rest tail part found open_at first has (passes done progress order path) = (
    walking_as classes _ _ _ _ _ _ progress (ap reverse path ∙ reverse-append old.path.items (top ∷ [])) order
        (passed classes old.progress.items (top ∷ reverse old.path.items) old.order.items top rest tail part w open_at first done),
    keeps_as _ _ _ progress (passed_keeps classes old.progress.items (top ∷ reverse old.path.items) old.order.items top rest tail part w open_at first done),
  )
  turned_look rest tail part found open_at first has (circles parts open_part) = (part, circle classes top (reverse old.path.items) part w.chain (stands_in parts open_part) has)
    where
      stands_in : (parts : Bor (List ℕ)) → at old.progress.items part ≡ Open parts → is_in (top ∷ reverse old.path.items) part ≡ true
      stands_in parts open_part = let P : Progress → Type 0 = λ p. IsKnown classes old.progress.items (top ∷ reverse old.path.items) old.order.items part p in (subst P open_part (w.known part)).0

  known_top : (rest : Bor (List ℕ)) → at old.progress.items top ≡ Open rest → IsKnown classes old.progress.items (top ∷ reverse old.path.items) old.order.items top (Open rest)
  known_top rest e = let P : Progress → Type 0 = λ p. IsKnown classes old.progress.items (top ∷ reverse old.path.items) old.order.items top p in subst P e (w.known top)

  pub turned : (found : Bool) → Turns old new top found → Turned classes old new found
  turned found (leaves rest open_at over progress order path) = (
    walking_as classes _ _ _ _ _ _ progress (ap reverse path) order (left classes old.progress.items (reverse old.path.items) old.order.items top rest w open_at over),
    keeps_as _ _ _ progress (left_keeps classes old.progress.items (reverse old.path.items) old.order.items top rest w open_at over),
  )
  turned found (drops shut progress order path) =
      (walking_as classes _ _ _ _ _ _ progress (ap reverse path) order (dropped classes old.progress.items (reverse old.path.items) old.order.items top w shut), keeps_as _ _ _ progress (λ i h. h))
  turned found (looks rest tail part _ open_at first look) =
      turned_look rest tail part found open_at first ((known_top rest open_at).2 part (ap (λ xs. is_in xs part) first ∙ here part tail.now)) look
    where
      here : (x : ℕ) (xs : List ℕ) → is_in (x ∷ xs) x ≡ true
      here x xs = in_first x xs

-- ---- the work that is left

push_len : (xs : List ℕ) (x : ℕ) → length (xs ++ x ∷ []) ≡ length xs + 1
push_len xs x = length-append xs (x ∷ [])

work_of : (p : Progress) (rest : Bor (List ℕ)) → p ≡ Open rest → work p ≡ 1 + length rest.now
work_of p rest e = ap work e

less_at : (pr pr' : List Progress) (x : ℕ) (v : Progress) → x < length pr → pr' ≡ slice_set pr x v → sum_by work pr' + work (at pr x) ≡ sum_by work pr + work v
less_at pr pr' x v lt e = ap (λ ys. sum_by work ys + work (at pr x)) e ∙ sum_by-set work pr x v (Settled 0) lt

-- a turn leaves less work than there was before its class was taken from the path
pub less_work : (old new : Walk) (top : ℕ) → Turns old new top false → work_left new.progress.items new.path.items < work_left old.progress.items (old.path.items ++ top ∷ [])
less_work old new top (leaves rest open_at over progress order path) =
    let e = less_at old.progress.items new.progress.items top (Settled (length old.order.items)) (in_range old.progress.items top (ap is_settled open_at)) progress in
    let f : work (at old.progress.items top) ≡ 1 + length rest.now = work_of _ rest open_at in
    let g : length new.path.items ≡ length old.path.items = ap length path in
    omega (arith, e, f, g, push_len old.path.items top)
less_work old new top (drops shut progress order path) =
    let e : sum_by work new.progress.items ≡ sum_by work old.progress.items = ap (sum_by work) progress in
    let g : length new.path.items ≡ length old.path.items = ap length path in
    omega (arith, e, g, push_len old.path.items top)
less_work old new top (looks rest tail part _ open_at first (reaches parts fresh progress order path)) =
    let e = less_at old.progress.items new.progress.items part (Open parts) (in_range old.progress.items part (ap is_settled fresh)) progress in
    let f : work (at old.progress.items part) ≡ 3 + length parts.now = ap work fresh in
    let g : length new.path.items ≡ length ((old.path.items ++ top ∷ []) ++ part ∷ []) = ap length path in
    omega (arith, e, f, g, push_len old.path.items top, push_len (old.path.items ++ top ∷ []) part)
less_work old new top (looks rest tail part _ open_at first (passes done progress order path)) =
    let e = less_at old.progress.items new.progress.items top (Open tail) (in_range old.progress.items top (ap is_settled open_at)) progress in
    let f : work (at old.progress.items top) ≡ 1 + length rest.now = work_of _ rest open_at in
    let h : length rest.now ≡ 1 + length tail.now = ap length first ∙ omega arith in
    let g : length new.path.items ≡ length (old.path.items ++ top ∷ []) = ap length path in
    omega (arith, e, f, h, g)

-- ---- a search from one class

keeps_both : (a b c : List Progress) → KeepsReached a b → KeepsReached b c → KeepsReached a c
keeps_both a b c f g i h = f i (g i h)

not_true : (b : Bool) → (b ≡ true → ⊥) → b ≡ false
not_true true h = absurd (h refl)
not_true false h = refl

module _ (classes : List (List ℕ)) (old mid new : Walk) (class : ℕ) (parts : Bor (List ℕ)) (rests : Rests classes old) (fresh : at old.progress.items class ≡ Untouched parts) (progress : mid.progress.items ≡ slice_set old.progress.items class (Open parts))
    (path : mid.path.items ≡ old.path.items ++ class ∷ []) (order : mid.order.items ≡ old.order.items) where
  pub begun : Walking classes mid.progress.items (reverse mid.path.items) mid.order.items
  begun =
      walking_as classes _ _ _ _ _ _ progress (ap reverse (path ∙ ap (λ xs. xs ++ class ∷ []) rests.1)) order
      (reached classes old.progress.items [] old.order.items class parts rests.0 fresh tt)

  begun_keeps : KeepsReached old.progress.items mid.progress.items
  begun_keeps = keeps_as _ _ _ progress (reached_keeps classes old.progress.items [] old.order.items class parts rests.0 fresh)

  opened : is_untouched (at mid.progress.items class) ≡ false
  opened =
      ap (λ xs. is_untouched (at xs class)) progress
      ∙ ap is_untouched (at-set old.progress.items class (Open parts) (in_range old.progress.items class (ap is_settled fresh)))

  pub searched : (found : Bool) → Searches classes mid new found → SearchesFrom classes old new class found
  searched true h = h
  searched false h =
      ((h.0, h.1), keeps_both _ _ _ begun_keeps h.2, not_true _ (λ e. clash (h.2 class e)))
    where
      clash : is_untouched (at mid.progress.items class) ≡ true → ⊥
      clash e = let f : true ≡ false = sym e ∙ opened in cc

pub skipped : (classes : List (List ℕ)) (walk : Walk) (class : ℕ) → Rests classes walk → is_untouched (at walk.progress.items class) ≡ false → SearchesFrom classes walk walk class false
skipped classes walk class rests h = (rests, λ i e. e, h)

-- ---- before the first search

left_at : (pr : List Progress) (cs : List (List ℕ)) (i : ℕ) → map parts_left pr ≡ map (λ (c : List ℕ). Some c) cs → i < length cs → parts_left (at pr i) ≡ Some (parts_of cs i)
left_at pr [] i e lt = absurd (omega arith)
left_at [] (c ∷ cs) i e lt = absurd cc
left_at (p ∷ ps) (c ∷ cs) zero e lt = cc
left_at (p ∷ ps) (c ∷ cs) (suc i) e lt = let f : map parts_left ps ≡ map (λ (c : List ℕ). Some c) cs = cc in left_at ps cs i f (omega arith)

same_size : (pr : List Progress) (cs : List (List ℕ)) → map parts_left pr ≡ map (λ (c : List ℕ). Some c) cs → length pr ≡ length cs
same_size [] [] e = refl
same_size [] (c ∷ cs) e = absurd cc
same_size (p ∷ ps) [] e = absurd cc
same_size (p ∷ ps) (c ∷ cs) e = let f : map parts_left ps ≡ map (λ (c : List ℕ). Some c) cs = cc in ap suc (same_size ps cs f)

one_unsettled : (p : Progress) (c : List ℕ) → parts_left p ≡ Some c → unsettled p ≡ 1
one_unsettled (Untouched ps) c e = refl
one_unsettled (Open ps) c e = absurd cc
one_unsettled (Settled place) c e = absurd cc

all_unsettled : (pr : List Progress) (cs : List (List ℕ)) → map parts_left pr ≡ map (λ (c : List ℕ). Some c) cs → sum_by unsettled pr ≡ length cs
all_unsettled [] [] e = refl
all_unsettled [] (c ∷ cs) e = absurd cc
all_unsettled (p ∷ ps) [] e = absurd cc
all_unsettled (p ∷ ps) (c ∷ cs) e =
    let f : map parts_left ps ≡ map (λ (c : List ℕ). Some c) cs = cc in
    let g : parts_left p ≡ Some c = cc in
    let h : unsettled p ≡ 1 = one_unsettled p c g in
    let k : sum_by unsettled ps ≡ length cs = all_unsettled ps cs f in
    let whole : unsettled p + sum_by unsettled ps ≡ suc (length cs) = omega (arith, h, k) in
    sum_by-cons unsettled p ps ∙ whole

known_first : (cs : List (List ℕ)) (pr : List Progress) (i : ℕ) (p : Progress) → (i < length cs → parts_left p ≡ Some (parts_of cs i)) → (length cs ≤ i → p ≡ Settled 0) → IsKnown cs pr [] [] i p
known_first cs pr i p within beyond = elim (cases_lt i (length cs)) [ inl lt ↦ inside p (within lt) | inr ge ↦ outside p (beyond ge) ge ]
  where
    inside : (p : Progress) → parts_left p ≡ Some (parts_of cs i) → IsKnown cs pr [] [] i p
    inside (Untouched ps) e = cc
    inside (Open ps) e = absurd cc
    inside (Settled place) e = absurd cc

    outside : (p : Progress) → p ≡ Settled 0 → length cs ≤ i → IsKnown cs pr [] [] i p
    outside (Untouched ps) e ge = absurd cc
    outside (Open ps) e ge = absurd cc
    outside (Settled place) e ge = λ lt. absurd (omega arith)

beyond_at : (pr : List Progress) (i : ℕ) → length pr ≤ i → at pr i ≡ Settled 0
beyond_at [] i ge = refl
beyond_at (p ∷ ps) zero ge = absurd (omega arith)
beyond_at (p ∷ ps) (suc i) ge = beyond_at ps i (omega arith)

pub started : (cs : List (List ℕ)) (pr : List Progress) → map parts_left pr ≡ map (λ (c : List ℕ). Some c) cs → Walking cs pr [] []
started cs pr e = record {
  size = same_size pr cs e;
  known = λ i. known_first cs pr i (at pr i) (λ lt. left_at pr cs i e lt) (λ ge. beyond_at pr i (omega (arith, same_size pr cs e, ge)));
  sorted = λ k j lt part within. absurd (omega arith);
  chain = tt;
  room = let k : sum_by unsettled pr ≡ length cs = all_unsettled pr cs e in omega (arith, k);
}

-- ---- after the last search

stands_at : (cs : List (List ℕ)) (pr : List Progress) (order : List ℕ) (i : ℕ) (p : Progress) → IsKnown cs pr [] order i p → is_untouched p ≡ false → i < length cs → (k : ℕ) × (k < length order) × (slice_index order k ≡ i)
stands_at cs pr order i (Untouched ps) h e lt = absurd cc
stands_at cs pr order i (Open ps) h e lt = let f : false ≡ true = h.0 in absurd cc
stands_at cs pr order i (Settled place) h e lt = let s = h lt in (place, s.0, s.1)

pub finished : (cs : List (List ℕ)) (walk : Walk) → Rests cs walk → ((i : ℕ) → i < length cs → is_untouched (at walk.progress.items i) ≡ false) → IsContainmentOrder cs walk.order.items
finished cs walk rests done = record {
  whole = λ i lt. stands_at cs walk.progress.items walk.order.items i (at walk.progress.items i) (rests.0.known i) (done i lt) lt;
  sorted = rests.0.sorted;
  short = let r = rests.0.room in omega (arith, r);
}

pub ordered : (cs : List (List ℕ)) (walk : Walk) → Rests cs walk → ((i : ℕ) → i < length cs → is_untouched (at walk.progress.items i) ≡ false) → IsContainmentOrder cs walk.order.items × NoneContainsItself cs
ordered cs walk rests done = let o = finished cs walk rests done in (o, no_circle cs walk.order.items o)

-- ---- what the code reads

pub read_at : (items seen : List Progress) (i : ℕ) (r p : Progress) → seen ≡ items → r ≡ at seen i → r ≡ p → at items i ≡ p
read_at items seen i r p e f g = ap (λ xs. at xs i) (sym e) ∙ sym f ∙ g

pub none_left : (xs : List ℕ) → length xs < 1 → xs ≡ []
none_left [] lt = refl
none_left (x ∷ xs) lt = absurd (omega arith)

-- ---- the loop of a search

popped : (classes : List (List ℕ)) (pr : List Progress) (order before after : List ℕ) (top : ℕ) → before ≡ after ++ top ∷ [] → Walking classes pr (reverse before) order → Walking classes pr (top ∷ reverse after) order
popped classes pr order before after top e w = let P : List ℕ → Type 0 = λ xs. Walking classes pr xs order in subst P (ap reverse e ∙ reverse-append after (top ∷ [])) w

module _ (classes : List (List ℕ)) (old new : Walk) (before : List ℕ) (top : ℕ) (found : Bool) (e : before ≡ old.path.items ++ top ∷ []) (w : Walking classes old.progress.items (reverse before) old.order.items) (turns : Turns old new top found) where
  turned_here : Turned classes old new found
  turned_here = turned classes old new top (popped classes old.progress.items old.order.items before old.path.items top e w) found turns

  pub search_circle : found ≡ true → (i : ℕ) × Contains classes i i
  search_circle h = let P : Bool → Type 0 = λ b. Turned classes old new b in subst P h turned_here

  pub search_on : (first : List Progress) → KeepsReached first old.progress.items → found ≡ false → Walking classes new.progress.items (reverse new.path.items) new.order.items × KeepsReached first new.progress.items
  search_on first keeps h = let P : Bool → Type 0 = λ b. Turned classes old new b in let t = subst P h turned_here in (t.0, keeps_both _ _ _ keeps t.1)

pub search_less : (old new : Walk) (before : List ℕ) (top : ℕ) (found : Bool) → before ≡ old.path.items ++ top ∷ [] → Turns old new top found → found ≡ false → work_left new.progress.items new.path.items < work_left old.progress.items before
search_less old new before top found e turns h =
    let P : Bool → Type 0 = λ b. Turns old new top b in
    let less : work_left new.progress.items new.path.items < work_left old.progress.items (old.path.items ++ top ∷ []) = less_work old new top (subst P h turns) in
    let Q : List ℕ → Type 0 = λ xs. work_left new.progress.items new.path.items < work_left old.progress.items xs in
    subst Q (sym e) less

-- ---- from one class

pub from_one : (old mid new : Walk) (class : ℕ) (parts : Bor (List ℕ)) (found : Bool) → at old.progress.items class ≡ Untouched parts → mid.progress.items ≡ slice_set old.progress.items class (Open parts) → mid.path.items ≡ old.path.items ++ class ∷ [] → mid.order.items ≡ old.order.items
    → ((classes : List (List ℕ)) → Walking classes mid.progress.items (reverse mid.path.items) mid.order.items → Searches classes mid new found) → (classes : List (List ℕ)) → Rests classes old → SearchesFrom classes old new class found
from_one old mid new class parts found fresh progress path order search classes rests =
    searched classes old mid new class parts rests fresh progress path order found (search classes (begun classes old mid new class parts rests fresh progress path order))

-- ---- the loop over all classes

pub next_class : (classes : List (List ℕ)) (old new : Walk) (class : ℕ) (found : Bool) → Rests classes old × ((j : ℕ) → j < class → is_untouched (at old.progress.items j) ≡ false) → (Rests classes old → SearchesFrom classes old new class found) → found ≡ false
    → Rests classes new × ((j : ℕ) → j < class + 1 → is_untouched (at new.progress.items j) ≡ false)
next_class classes old new class found before search h =
    let P : Bool → Type 0 = λ b. SearchesFrom classes old new class b in
    let s : SearchesFrom classes old new class false = subst P h (search before.0) in (
      s.0,
      λ j lt. elim (cases_eq j class) [
        | inl e ↦ let Q : ℕ → Type 0 = λ n. is_untouched (at new.progress.items n) ≡ false in subst Q (sym e) s.2
        | inr ne ↦ not_true _ (λ u. let f : true ≡ false = sym (s.1 j u) ∙ before.1 j (omega (arith, ne, lt)) in cc)
      ],
    )

pub first_and_rest : (xs : List ℕ) → 1 ≤ length xs → xs ≡ get_or xs 0 0 ∷ take (length xs - 1) (drop 1 xs)
first_and_rest [] le = absurd (omega arith)
first_and_rest (x ∷ xs) le = ap (λ ys. x ∷ ys) (sym (take_all (suc (length xs) - 1) xs (omega arith)))

-- ---- the test

pub test_of : (classes : List (List ℕ)) (order : Option (Vec ℕ)) (b : Bool) → Orders classes order → b ≡ is_none order → b ≡ contains_itself classes
test_of classes (Some order) b h e = e ∙ sym (order_is_seen classes order.items h.0)
test_of classes None b h e = e ∙ sym (circle_is_seen classes h.0 h.1)

pub fact_of : (classes : List (List ℕ)) (order : Option (Vec ℕ)) (b : Bool) → Orders classes order → b ≡ is_none order → ContainsItself classes b
fact_of classes (Some order) b h e = let P : Bool → Type 0 = λ x. ContainsItself classes x in subst P (sym e) h.1
fact_of classes None b h e = let P : Bool → Type 0 = λ x. ContainsItself classes x in subst P (sym e) h
