-- Sorting trails one after another gives for each slot those that lead to it.
use Rattle.std.proofs.Common.{◌≡◌, ◌≢◌, ◌∙◌, ℕ, zero, suc, ◌+◌, ◌-◌, ◌<◌, ◌≤◌, true, false, nat_eq, List, [], ◌∷◌, ◌++◌, Option, Some, None, length, map, set, get_or, take, drop, replicate, add-one, append-nil, append_assoc, refl, sym, ap, arith}
use Rattle.std.specs.List.{filter_map, cons_option, range_with_len}
use Rattle.std.proofs.lemmas.List.Elements.{filter_map-append}
use Rattle.std.proofs.lemmas.Bool.Decides.{nat_tests}
use Rattle.wiring_slots.specs.declared.slot_tree.names.MappingPlan.{MappingPlan}
use Rattle.wiring_slots.specs.declared.slot_tree.names.StepPlan.{StepPlan}
use Rattle.wiring_slots.specs.declared.slot_tree.owners.Trail.{Trail}
use Rattle.wiring_slots.specs.slot_tree.Owners.{next_step, goes_on, trails_at}
use Rattle.wiring_slots.specs.declared.slot_tree.runs.Run.{Run}
use Rattle.wiring_slots.specs.slot_tree.Leading.{added_at, added_to_each, added_by_index, through, trails_through, by_reference, by_index, SortsByReference, SortsByIndex}
use Rattle.wiring_slots.specs.slot_tree.MappingOrders.{IsGroup}
use Rattle.wiring_slots.specs.slot_tree.Runs.{trail_at, trails_between, trails_of, AreAlike}
use Rattle.wiring_slots.proofs.slot_tree.Cutting.{cut_at}

-- functions that agree from a number on give the same lists from there on
same_from : {Y : Type 0} (f g : ℕ → Y) (s n : ℕ) → ((k : ℕ) → s ≤ k → f k ≡ g k) → map f (range_with_len s n) ≡ map g (range_with_len s n)
same_from f g s zero same = refl
same_from {Y} f g s (suc n) same =
    ap (λ (y : Y). y ∷ map f (range_with_len (s + 1) n)) (same s (omega arith)) ∙ ap (λ (ys : List Y). g s ∷ ys) (same_from f g (s + 1) n (λ k le. same k (omega arith)))

-- more items in one of the lists
at_one : {X : Type 0} (f g : ℕ → List X) (xs : List X) (p s j n : ℕ) → p ≡ s + j → g p ≡ f p ++ xs → ((k : ℕ) → k ≢ p → f k ≡ g k) → added_at j xs (map f (range_with_len s n)) ≡ map g (range_with_len s n)
at_one f g xs p s j zero is own others = refl
at_one {X} f g xs p s zero (suc n) is own others =
    let here : s ≡ p = omega arith in
    let first : f s ++ xs ≡ g s = rw here (sym own) in
    ap (λ (l : List X). l ∷ map f (range_with_len (s + 1) n)) first ∙ ap (λ (ls : List (List X)). g s ∷ ls) (same_from f g (s + 1) n (λ k le. others k (λ e. absurd (omega arith))))
at_one {X} f g xs p s (suc j) (suc n) is own others =
    ap (λ (l : List X). l ∷ added_at j xs (map f (range_with_len (s + 1) n))) (others s (λ e. absurd (omega arith)))
    ∙ ap (λ (ls : List (List X)). g s ∷ ls) (at_one f g xs p (s + 1) j n (omega arith) own others)

-- more items in each of the lists
at_each : {X : Type 0} (f g : ℕ → List X) (xs : List X) (s n : ℕ) → ((k : ℕ) → g k ≡ f k ++ xs) → added_to_each xs (map f (range_with_len s n)) ≡ map g (range_with_len s n)
at_each f g xs s zero each = refl
at_each {X} f g xs s (suc n) each =
    ap (λ (l : List X). l ∷ added_to_each xs (map f (range_with_len (s + 1) n))) (sym (each s)) ∙ ap (λ (ls : List (List X)). g s ∷ ls) (at_each f g xs (s + 1) n each)

each_at : {Y : Type 0} (f : Y → Y) (old : List Y) (i : ℕ) (y d : Y) → i < length old → y ≡ get_or (map f (take i old) ++ drop i old) i d → set (map f (take i old) ++ drop i old) i (f y) ≡ map f (take (suc i) old) ++ drop (suc i) old
each_at f [] i y d lt is = absurd (omega arith)
each_at {Y} f (z ∷ zs) zero y d lt is = ap (λ (x : Y). f x ∷ zs) is
each_at {Y} f (z ∷ zs) (suc i) y d lt is = ap (λ (ys : List Y). f z ∷ ys) (each_at f zs i y d (omega arith) is)

-- one more list has more items
pub each_more : {X : Type 0} (xs : List X) (old lists : List (List X)) (i : ℕ) (l new d : List X) → lists ≡ added_to_each xs (take i old) ++ drop i old → i < length old → l ≡ get_or lists i d → new ≡ l ++ xs
    → set lists i new ≡ added_to_each xs (take (i + 1) old) ++ drop (i + 1) old
each_more {X} xs old lists i l new d so_far lt is grown =
    rw add-one (
    ap (λ (n : List X). set lists i n) grown
    ∙ ap (λ (ls : List (List X)). set ls i (l ++ xs)) so_far
    ∙ each_at (λ (k : List X). k ++ xs) old i l d lt (is ∙ ap (λ (ls : List (List X)). get_or ls i d) so_far)
    )

-- no items
none_at : {X : Type 0} (s n : ℕ) → replicate n (let none : List X = [] in none) ≡ map (λ (k : ℕ). let none : List X = [] in none) (range_with_len s n)
none_at s zero = refl
none_at {X} s (suc n) = ap (λ (ls : List (List X)). [] ∷ ls) (none_at (s + 1) n)

-- ---- what is picked from a run
picked_all : {X : Type 0} (pick : Trail → Option X) (found : ℕ → X) (steps first n : ℕ) → ((j : ℕ) → first ≤ j → j < first + n → pick (trail_at steps j) ≡ Some (found j))
    → filter_map pick (map (trail_at steps) (range_with_len first n)) ≡ map found (range_with_len first n)
picked_all pick found steps first zero each = refl
picked_all {X} pick found steps first (suc n) each =
    ap (λ (o : Option X). cons_option o (filter_map pick (map (trail_at steps) (range_with_len (first + 1) n)))) (each first (omega arith) (omega arith))
    ∙ ap (λ (xs : List X). found first ∷ xs) (picked_all pick found steps (first + 1) n (λ j low high. each j (omega arith) (omega arith)))

picked_none : {X : Type 0} (pick : Trail → Option X) (steps first n : ℕ) → ((j : ℕ) → first ≤ j → j < first + n → pick (trail_at steps j) ≡ None) → filter_map pick (map (trail_at steps) (range_with_len first n)) ≡ []
picked_none pick steps first zero each = refl
picked_none {X} pick steps first (suc n) each =
    ap (λ (o : Option X). cons_option o (filter_map pick (map (trail_at steps) (range_with_len (first + 1) n)))) (each first (omega arith) (omega arith))
    ∙ picked_none pick steps (first + 1) n (λ j low high. each j (omega arith) (omega arith))

module _ {X : Type 0} (pick : Trail → Option X) (ts us : List Trail) where
  some_more : (xs : List X) → filter_map pick us ≡ xs → filter_map pick (ts ++ us) ≡ filter_map pick ts ++ xs
  some_more xs e = filter_map-append pick ts us ∙ ap (λ (ys : List X). filter_map pick ts ++ ys) e

  none_more : filter_map pick us ≡ [] → filter_map pick ts ≡ filter_map pick (ts ++ us)
  none_more e = sym (some_more [] e ∙ append-nil (filter_map pick ts))

module _ (mappings : List MappingPlan) where
  -- how all trails of a run go on
  abbrev GoOn : Run → Option StepPlan → Type 0
  GoOn g o = (j : ℕ) → g.first ≤ j → j < g.first + (g.end - g.first) → next_step mappings (trail_at g.steps j) ≡ o

  go_on : (g : Run) (o : Option StepPlan) → AreAlike mappings g → next_step mappings (trail_at g.steps g.first) ≡ o → GoOn g o
  go_on g o alike head j low high = alike j low (omega (arith, low, high)) ∙ head

  -- a group and the rest behind it are what is left of a run
  whole_run : (run g : Run) (first : ℕ) → IsGroup mappings run first g → trails_of g ++ trails_between run.steps g.end run.end ≡ trails_between run.steps first run.end
  whole_run run g first h =
      let more = h.more in
      ap (λ k. trails_between g.steps k g.end ++ trails_between run.steps g.end run.end) h.begins
      ∙ ap (λ k. trails_between k first g.end ++ trails_between run.steps g.end run.end) h.steps
      ∙ sym (cut_at run.steps first g.end run.end (omega (arith, more)) h.within)

  -- ---- by reference
  pub none_by_reference : (n : ℕ) (lists : List (List Trail)) → lists ≡ replicate n [] → lists ≡ by_reference mappings n []
  unfolding by_reference
  none_by_reference n lists e = e ∙ none_at 0 n

  own_reference : (s : StepPlan) (t : Trail) (k : ℕ) → s.reference ≡ k → next_step mappings t ≡ Some s → through mappings k t ≡ Some t
  own_reference s t k is e = let test : nat_eq s.reference k ≡ true = grind (arith, nat_tests) in rw (e, test) refl

  other_reference : (s : StepPlan) (t : Trail) (k : ℕ) → k ≢ s.reference → next_step mappings t ≡ Some s → through mappings k t ≡ None
  other_reference s t k ne e = let test : nat_eq s.reference k ≡ false = grind (arith, nat_tests) in rw (e, test) refl

  no_reference : (t : Trail) (k : ℕ) → next_step mappings t ≡ None → through mappings k t ≡ None
  no_reference t k e = rw e refl

  added_by_reference : (g : Run) (s : StepPlan) (old new : List (List Trail)) → GoOn g (Some s) → new ≡ added_at s.reference (trails_of g) old → SortsByReference mappings (trails_of g) old new
  unfolding by_reference
  added_by_reference g s old new on is n done so_far =
      is
      ∙ ap (λ (ls : List (List Trail)). added_at s.reference (trails_of g) ls) so_far
      ∙ at_one (trails_through mappings done) (trails_through mappings (done ++ trails_of g)) (trails_of g) s.reference 0 s.reference n (omega arith)
      (some_more (through mappings s.reference) done (trails_of g) (trails_of g)
      (picked_all (through mappings s.reference) (trail_at g.steps) g.steps g.first (g.end - g.first) (λ j low high. own_reference s (trail_at g.steps j) s.reference refl (on j low high))))
      (λ k ne. none_more (through mappings k) done (trails_of g)
      (picked_none (through mappings k) g.steps g.first (g.end - g.first) (λ j low high. other_reference s (trail_at g.steps j) k ne (on j low high))))

  ended_by_reference : (g : Run) (old : List (List Trail)) → GoOn g None → SortsByReference mappings (trails_of g) old old
  unfolding by_reference
  ended_by_reference g old on n done so_far =
      so_far
      ∙ same_from (trails_through mappings done) (trails_through mappings (done ++ trails_of g)) 0 n
      (λ k le. none_more (through mappings k) done (trails_of g)
      (picked_none (through mappings k) g.steps g.first (g.end - g.first) (λ j low high. no_reference (trail_at g.steps j) k (on j low high))))

  pub group_by_reference : (g : Run) (s : StepPlan) (old new : List (List Trail)) → AreAlike mappings g → next_step mappings (trail_at g.steps g.first) ≡ Some s → new ≡ added_at s.reference (trails_of g) old
      → SortsByReference mappings (trails_of g) old new
  group_by_reference g s old new alike head is = added_by_reference g s old new (go_on g (Some s) alike head) is

  pub no_group_by_reference : (g : Run) (old : List (List Trail)) → AreAlike mappings g → next_step mappings (trail_at g.steps g.first) ≡ None → SortsByReference mappings (trails_of g) old old
  no_group_by_reference g old alike head = ended_by_reference g old (go_on g None alike head)

  -- ---- a run, group by group: what sorts the rest behind what is sorted sorts the whole
  pub nothing_by_reference : (lists : List (List Trail)) (ts : List Trail) → ts ≡ [] → SortsByReference mappings ts lists lists
  nothing_by_reference lists ts e n done so_far = so_far ∙ ap (λ (us : List Trail). by_reference mappings n us) (sym (append-nil done) ∙ ap (λ (us : List Trail). done ++ us) (sym e))

  pub then_by_reference : (run g : Run) (first : ℕ) (old now new : List (List Trail)) → IsGroup mappings run first g → SortsByReference mappings (trails_of g) old now
      → SortsByReference mappings (trails_between run.steps g.end run.end) now new → SortsByReference mappings (trails_between run.steps first run.end) old new
  then_by_reference run g first old now new h one rest n done so_far =
      rest n (done ++ trails_of g) (one n done so_far)
      ∙ ap (λ (ts : List Trail). by_reference mappings n ts) (append_assoc done (trails_of g) (trails_between run.steps g.end run.end) ∙ ap (λ (ts : List Trail). done ++ ts) (whole_run run g first h))

  -- ---- by index
  module _ (r : ℕ) where
    pub none_by_index : (n : ℕ) (lists : List (List Trail)) → lists ≡ replicate n [] → lists ≡ by_index mappings r n []
    unfolding by_index trails_at
    none_by_index n lists e = e ∙ none_at 0 n

    placed : (g : Run) (s : StepPlan) (index : Option ℕ) (old new : List (List Trail)) → GoOn g (Some s) → nat_eq s.reference r ≡ true → s.index ≡ index
        → new ≡ added_by_index index (trails_of (record { first = g.first; end = g.end; steps = g.steps + 1 })) old → SortsByIndex mappings r (trails_of g) old new
    unfolding by_index trails_at
    placed g s (Some i) old new on own at is n done so_far =
        let us = trails_of g in
        let more = trails_of (record { first = g.first; end = g.end; steps = g.steps + 1 }) in
        is
        ∙ ap (λ (ls : List (List Trail)). added_at i more ls) so_far
        ∙ at_one (λ k. filter_map (goes_on mappings r k) done) (λ k. filter_map (goes_on mappings r k) (done ++ us)) more i 0 i n (omega arith)
        (some_more (goes_on mappings r i) done us more
        (picked_all (goes_on mappings r i) (trail_at (g.steps + 1)) g.steps g.first (g.end - g.first)
        (λ j low high. let next = on j low high in let test : nat_eq i i ≡ true = grind (arith, nat_tests) in rw (next, own, at, test) refl)))
        (λ k ne. none_more (goes_on mappings r k) done us
        (picked_none (goes_on mappings r k) g.steps g.first (g.end - g.first)
        (λ j low high. let next = on j low high in let test : nat_eq i k ≡ false = grind (arith, nat_tests) in rw (next, own, at, test) refl)))
    placed g s None old new on own at is n done so_far =
        let us = trails_of g in
        let more = trails_of (record { first = g.first; end = g.end; steps = g.steps + 1 }) in
        is
        ∙ ap (λ (ls : List (List Trail)). added_to_each more ls) so_far
        ∙ at_each (λ k. filter_map (goes_on mappings r k) done) (λ k. filter_map (goes_on mappings r k) (done ++ us)) more 0 n
        (λ k. some_more (goes_on mappings r k) done us more
        (picked_all (goes_on mappings r k) (trail_at (g.steps + 1)) g.steps g.first (g.end - g.first) (λ j low high. let next = on j low high in rw (next, own, at) refl)))

    not_through : (g : Run) (old : List (List Trail)) → ((k j : ℕ) → g.first ≤ j → j < g.first + (g.end - g.first) → goes_on mappings r k (trail_at g.steps j) ≡ None) → SortsByIndex mappings r (trails_of g) old old
    unfolding by_index trails_at
    not_through g old none n done so_far =
        so_far
        ∙ same_from (λ k. filter_map (goes_on mappings r k) done) (λ k. filter_map (goes_on mappings r k) (done ++ trails_of g)) 0 n
        (λ k le. none_more (goes_on mappings r k) done (trails_of g) (picked_none (goes_on mappings r k) g.steps g.first (g.end - g.first) (none k)))

    pub group_by_index : (g : Run) (s : StepPlan) (old new : List (List Trail)) → AreAlike mappings g → next_step mappings (trail_at g.steps g.first) ≡ Some s → s.reference ≡ r
        → new ≡ added_by_index s.index (trails_of (record { first = g.first; end = g.end; steps = g.steps + 1 })) old → SortsByIndex mappings r (trails_of g) old new
    group_by_index g s old new alike head own is = let test : nat_eq s.reference r ≡ true = grind (arith, nat_tests) in placed g s s.index old new (go_on g (Some s) alike head) test refl is

    pub other_by_index : (g : Run) (s : StepPlan) (old : List (List Trail)) → AreAlike mappings g → next_step mappings (trail_at g.steps g.first) ≡ Some s → s.reference ≢ r → SortsByIndex mappings r (trails_of g) old old
    other_by_index g s old alike head other =
        let test : nat_eq s.reference r ≡ false = grind (arith, nat_tests) in
        not_through g old (λ k j low high. let next = go_on g (Some s) alike head j low high in rw (next, test) refl)

    pub no_group_by_index : (g : Run) (old : List (List Trail)) → AreAlike mappings g → next_step mappings (trail_at g.steps g.first) ≡ None → SortsByIndex mappings r (trails_of g) old old
    no_group_by_index g old alike head = not_through g old (λ k j low high. let next = go_on g None alike head j low high in rw next refl)

    pub nothing_by_index : (lists : List (List Trail)) (ts : List Trail) → ts ≡ [] → SortsByIndex mappings r ts lists lists
    nothing_by_index lists ts e n done so_far = so_far ∙ ap (λ (us : List Trail). by_index mappings r n us) (sym (append-nil done) ∙ ap (λ (us : List Trail). done ++ us) (sym e))

    pub then_by_index : (run g : Run) (first : ℕ) (old now new : List (List Trail)) → IsGroup mappings run first g → SortsByIndex mappings r (trails_of g) old now
        → SortsByIndex mappings r (trails_between run.steps g.end run.end) now new → SortsByIndex mappings r (trails_between run.steps first run.end) old new
    then_by_index run g first old now new h one rest n done so_far =
        rest n (done ++ trails_of g) (one n done so_far)
        ∙ ap (λ (ts : List Trail). by_index mappings r n ts) (append_assoc done (trails_of g) (trails_between run.steps g.end run.end) ∙ ap (λ (ts : List Trail). done ++ ts) (whole_run run g first h))
