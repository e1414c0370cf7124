-- The steps of a walk.
use Rattle.std.proofs.Common.{◌≡◌, ◌≢◌, ◌⊎◌, inl, inr, ℕ, zero, suc, ◌+◌, ◌<◌, ◌≤◌, Bool, true, false, nat_eq, List, [], ◌∷◌, ◌++◌, length, get_or, set, length-set, Bor, refl, sym, ap, ◌∙◌, subst, arith}
use Rattle.std.specs.Prelude.{slice_index, ◌||◌}
use Rattle.std.specs.List.{list_any, slice_index_or, sum_by}
use Rattle.std.proofs.lemmas.Bool.{cases_eq, or_cases, eqb-true, eq-eqb}
use Rattle.std.proofs.lemmas.Grind.{get_or-set_at}
use Rattle.std.proofs.lemmas.List.{get_or-set_other, length-append}
use Rattle.std.proofs.lemmas.List.Sums.{sum_by-set}
use Rattle.number_graphs.specs.class_containment.Containment.{parts_of, has_part, Contains, directly, through}
use Rattle.number_graphs.specs.class_containment.Walks.{at, is_in, is_settled, is_open, unsettled, work, IsChain, Passed, AreParts, Stands, IsKnown, IsSorted, Walking, is_untouched, KeepsReached}
use Rattle.number_graphs.specs.declared.class_containment.Progress.{Progress}
use Rattle.number_graphs.specs.declared.class_containment.Progress.TheVariants.{Untouched, Open, Settled}

-- ---- changing one class's progress

pub at-set : (pr : List Progress) (x : ℕ) (v : Progress) → x < length pr → at (set pr x v) x ≡ v
at-set pr x v lt = get_or-set_at pr x x v (Settled 0) refl lt

pub at-other : (pr : List Progress) (x i : ℕ) (v : Progress) → i ≢ x → at (set pr x v) i ≡ at pr i
at-other pr x i v ne = get_or-set_other pr x i v (Settled 0) ne

-- what holds of the new value and of the other classes holds of each class
each_set : (P : ℕ → Progress → Type 0) (pr : List Progress) (x : ℕ) (v : Progress) → x < length pr → P x v → ((i : ℕ) → i ≢ x → P i (at pr i)) → (i : ℕ) → P i (at (set pr x v) i)
each_set P pr x v lt here others i =
    elim (cases_eq i x) [
      | inl e ↦ let Q : ℕ → Type 0 = λ n. P n (at (set pr x v) n) in subst Q (sym e) (let R : Progress → Type 0 = λ p. P x p in subst R (sym (at-set pr x v lt)) here)
      | inr ne ↦ let R : Progress → Type 0 = λ p. P i p in subst R (sym (at-other pr x i v ne)) (others i ne)
    ]

-- a settled class stays settled, where another one changes or this one is settled
settled_stays : (pr : List Progress) (x j : ℕ) (v : Progress) → x < length pr → (is_settled (at pr x) ≡ true → is_settled v ≡ true) → is_settled (at pr j) ≡ true → is_settled (at (set pr x v) j) ≡ true
settled_stays pr x j v lt kept h =
    elim (cases_eq j x) [
      | inl e ↦ let Q : ℕ → Type 0 = λ n. is_settled (at pr n) ≡ true → is_settled (at (set pr x v) n) ≡ true in subst Q (sym e) (λ g. ap is_settled (at-set pr x v lt) ∙ kept g) h
      | inr ne ↦ ap is_settled (at-other pr x j v ne) ∙ h
    ]

passed_stays : (classes : List (List ℕ)) (pr : List Progress) (x i : ℕ) (v : Progress) (rest : List ℕ) → x < length pr → (is_settled (at pr x) ≡ true → is_settled v ≡ true) → Passed classes pr i rest → Passed classes (set pr x v) i rest
passed_stays classes pr x i v rest lt kept h j part = elim (h j part) [ inl r ↦ inl r | inr s ↦ inr (settled_stays pr x j v lt kept s) ]

-- ---- the classes that were reached

in_more : (y : ℕ) (ys : List ℕ) (i : ℕ) → is_in ys i ≡ true → is_in (y ∷ ys) i ≡ true
in_more y ys i h = or_right (nat_eq i y) (is_in ys i) h
  where
    or_right : (a b : Bool) → b ≡ true → (a || b) ≡ true
    or_right true b e = refl
    or_right false b e = e

pub in_first : (y : ℕ) (ys : List ℕ) → is_in (y ∷ ys) y ≡ true
in_first y ys = ap (λ b. b || is_in ys y) (eq-eqb y y refl)

in_rest : (y : ℕ) (ys : List ℕ) (i : ℕ) → i ≢ y → is_in (y ∷ ys) i ≡ true → is_in ys i ≡ true
in_rest y ys i ne h = elim (or_cases (nat_eq i y) (is_in ys i) h) [ inl e ↦ absurd (ne (eqb-true i y e)) | inr e ↦ e ]

-- what is known of a class stays known where the walk goes on elsewhere
known_on : (classes : List (List ℕ)) (pr new : List Progress) (up up' order order' : List ℕ) (i : ℕ) (p : Progress) → (is_in up i ≡ true → is_in up' i ≡ true) → ((rest : List ℕ) → Passed classes pr i rest → Passed classes new i rest) → ((place : ℕ) → Stands order place i → Stands order' place i)
    → IsKnown classes pr up order i p → IsKnown classes new up' order' i p
known_on classes pr new up up' order order' i (Untouched ps) ups pass stand h = h
known_on classes pr new up up' order order' i (Open rest) ups pass stand h = (ups h.0, pass rest.now h.1, h.2)
known_on classes pr new up up' order order' i (Settled place) ups pass stand h = λ lt. stand place (h lt)

pub in_range : (pr : List Progress) (x : ℕ) → is_settled (at pr x) ≡ false → x < length pr
in_range [] x h = absurd cc
in_range (p ∷ ps) zero h = omega arith
in_range (p ∷ ps) (suc x) h = omega (arith, in_range ps x h)

-- ---- a class is reached

module _ (classes : List (List ℕ)) (pr : List Progress) (up order : List ℕ) (x : ℕ) (ps : Bor (List ℕ)) (w : Walking classes pr up order) (fresh : at pr x ≡ Untouched ps) where
  reach_range : x < length pr
  reach_range = in_range pr x (ap is_settled fresh)

  not_settled : is_settled (at pr x) ≡ true → is_settled (Open ps) ≡ true
  not_settled h = sym (ap is_settled fresh) ∙ h

  all_left : ps.now ≡ parts_of classes x
  all_left = let Q : Progress → Type 0 = λ p. IsKnown classes pr up order x p in subst Q fresh (w.known x)

  all_passed : Passed classes (set pr x (Open ps)) x ps.now
  all_passed j part = inl (ap (λ xs. is_in xs j) all_left ∙ part)

  reach_known : (i : ℕ) → IsKnown classes (set pr x (Open ps)) (x ∷ up) order i (at (set pr x (Open ps)) i)
  reach_known =
      each_set (λ i p. IsKnown classes (set pr x (Open ps)) (x ∷ up) order i p) pr x (Open ps) reach_range (in_first x up, all_passed, λ j h. ap (λ xs. is_in xs j) (sym all_left) ∙ h)
      (λ i ne. known_on classes pr (set pr x (Open ps)) up (x ∷ up) order order i (at pr i) (in_more x up i) (λ rest h. passed_stays classes pr x i (Open ps) rest reach_range not_settled h) (λ place h. h) (w.known i))

  reach_room : length order + sum_by unsettled (set pr x (Open ps)) ≡ length classes
  reach_room =
      let e : sum_by unsettled (set pr x (Open ps)) + unsettled (at pr x) ≡ sum_by unsettled pr + 1 = sum_by-set unsettled pr x (Open ps) (Settled 0) reach_range in
      let f : unsettled (at pr x) ≡ 1 = ap unsettled fresh in
      omega (arith, e, f, w.room)

  pub reached : IsChain classes (x ∷ up) → Walking classes (set pr x (Open ps)) (x ∷ up) order
  reached chain = record { size = length-set pr x (Open ps) ∙ w.size; known = reach_known; sorted = w.sorted; chain = chain; room = reach_room }

  pub reached_keeps : KeepsReached pr (set pr x (Open ps))
  reached_keeps i h =
      elim (cases_eq i x) [
        | inl e ↦ let Q : ℕ → Type 0 = λ n. is_untouched (at pr n) ≡ true in subst Q (sym e) (ap is_untouched fresh)
        | inr ne ↦ sym (ap is_untouched (at-other pr x i (Open ps) ne)) ∙ h
      ]

-- ---- a part is passed

module _ (classes : List (List ℕ)) (pr : List Progress) (up order : List ℕ) (x : ℕ) (rest left : Bor (List ℕ)) (part : ℕ) (w : Walking classes pr up order) (open_at : at pr x ≡ Open rest) (first : rest.now ≡ part ∷ left.now) (done : is_settled (at pr part) ≡ true) where
  pass_range : x < length pr
  pass_range = in_range pr x (ap is_settled open_at)

  pass_kept : is_settled (at pr x) ≡ true → is_settled (Open left) ≡ true
  pass_kept h = sym (ap is_settled open_at) ∙ h

  here_known : IsKnown classes pr up order x (Open rest)
  here_known = let Q : Progress → Type 0 = λ p. IsKnown classes pr up order x p in subst Q open_at (w.known x)

  one_fewer : Passed classes (set pr x (Open left)) x left.now
  one_fewer j has =
      elim (here_known.1 j has) [
        | inl r ↦ pick j (or_cases (nat_eq j part) (is_in left.now j) (sym (ap (λ xs. is_in xs j) first) ∙ r))
        | inr s ↦ inr (settled_stays pr x j (Open left) pass_range pass_kept s)
      ]
    where
      pick : (j : ℕ) → (nat_eq j part ≡ true) ⊎ (is_in left.now j ≡ true) → (is_in left.now j ≡ true) ⊎ (is_settled (at (set pr x (Open left)) j) ≡ true)
      pick j (inl e) = inr (settled_stays pr x j (Open left) pass_range pass_kept (let Q : ℕ → Type 0 = λ n. is_settled (at pr n) ≡ true in subst Q (sym (eqb-true j part e)) done))
      pick j (inr e) = inl e

  pass_known : (i : ℕ) → IsKnown classes (set pr x (Open left)) up order i (at (set pr x (Open left)) i)
  pass_known =
      each_set (λ i p. IsKnown classes (set pr x (Open left)) up order i p) pr x (Open left) pass_range (here_known.0, one_fewer, λ j h. here_known.2 j (ap (λ xs. is_in xs j) first ∙ in_more part left.now j h))
      (λ i ne. known_on classes pr (set pr x (Open left)) up up order order i (at pr i) (λ h. h) (λ r h. passed_stays classes pr x i (Open left) r pass_range pass_kept h) (λ place h. h) (w.known i))

  pass_room : length order + sum_by unsettled (set pr x (Open left)) ≡ length classes
  pass_room =
      let e : sum_by unsettled (set pr x (Open left)) + unsettled (at pr x) ≡ sum_by unsettled pr + 1 = sum_by-set unsettled pr x (Open left) (Settled 0) pass_range in
      let f : unsettled (at pr x) ≡ 1 = ap unsettled open_at in
      omega (arith, e, f, w.room)

  pub passed : Walking classes (set pr x (Open left)) up order
  passed = record { size = length-set pr x (Open left) ∙ w.size; known = pass_known; sorted = w.sorted; chain = w.chain; room = pass_room }

  pub passed_keeps : KeepsReached pr (set pr x (Open left))
  passed_keeps i h =
      elim (cases_eq i x) [
        | inl e ↦ absurd (untouched_open i e h)
        | inr ne ↦ sym (ap is_untouched (at-other pr x i (Open left) ne)) ∙ h
      ]
    where
      untouched_open : (i : ℕ) → i ≡ x → is_untouched (at (set pr x (Open left)) i) ≡ true → ⊥
      untouched_open i e h =
          let Q : ℕ → Type 0 = λ n. is_untouched (at (set pr x (Open left)) n) ≡ true in
          let g : is_untouched (at (set pr x (Open left)) x) ≡ true = subst Q e h in
          let f : false ≡ true = sym (ap is_untouched (at-set pr x (Open left) pass_range)) ∙ g in
          cc

-- ---- a class is left

slice_before : (xs : List ℕ) (y k : ℕ) → k < length xs → slice_index (xs ++ y ∷ []) k ≡ slice_index xs k
slice_before [] y k lt = absurd (omega arith)
slice_before (x ∷ xs) y zero lt = refl
slice_before (x ∷ xs) y (suc k) lt = slice_before xs y k (omega arith)

slice_last : (xs : List ℕ) (y : ℕ) → slice_index (xs ++ y ∷ []) (length xs) ≡ y
slice_last [] y = refl
slice_last (x ∷ xs) y = slice_last xs y

length_push : (xs : List ℕ) (y : ℕ) → length (xs ++ y ∷ []) ≡ length xs + 1
length_push xs y = length-append xs (y ∷ [])

chain_rest : (classes : List (List ℕ)) (x : ℕ) (up : List ℕ) → IsChain classes (x ∷ up) → IsChain classes up
chain_rest classes x [] h = tt
chain_rest classes x (y ∷ ys) h = h.1

module _ (classes : List (List ℕ)) (pr : List Progress) (up order : List ℕ) (x : ℕ) (rest : Bor (List ℕ)) (w : Walking classes pr (x ∷ up) order) (open_at : at pr x ≡ Open rest) (over : rest.now ≡ []) where
  leave_range : x < length pr
  leave_range = in_range pr x (ap is_settled open_at)

  leave_here : IsKnown classes pr (x ∷ up) order x (Open rest)
  leave_here = let Q : Progress → Type 0 = λ p. IsKnown classes pr (x ∷ up) order x p in subst Q open_at (w.known x)

  stands_on : (i place : ℕ) → Stands order place i → Stands (order ++ x ∷ []) place i
  stands_on i place h = (omega (arith, h.0, length_push order x), slice_before order x place h.0 ∙ h.1)

  stands_last : Stands (order ++ x ∷ []) (length order) x
  stands_last = (omega (arith, length_push order x), slice_last order x)

  leave_known : (i : ℕ) → IsKnown classes (set pr x (Settled (length order))) up (order ++ x ∷ []) i (at (set pr x (Settled (length order))) i)
  leave_known =
      each_set (λ i p. IsKnown classes (set pr x (Settled (length order))) up (order ++ x ∷ []) i p) pr x (Settled (length order)) leave_range (λ lt. stands_last)
      (λ i ne. known_on classes pr (set pr x (Settled (length order))) (x ∷ up) up order (order ++ x ∷ []) i (at pr i) (in_rest x up i ne) (λ r h. passed_stays classes pr x i (Settled (length order)) r leave_range (λ h'. refl) h) (stands_on i) (w.known i))

  -- a settled class of the model stands in the order
  stands : (j : ℕ) (p : Progress) → at pr j ≡ p → is_settled p ≡ true → j < length classes → (e : ℕ) × Stands order e j
  stands j (Untouched ps) is h lt = absurd cc
  stands j (Open ps) is h lt = absurd cc
  stands j (Settled place) is h lt = (place, (let Q : Progress → Type 0 = λ p. IsKnown classes pr (x ∷ up) order j p in subst Q is (w.known j)) lt)

  no_rest : (j : ℕ) → is_in rest.now j ≡ true → ⊥
  no_rest j h = let f : false ≡ true = sym (ap (λ xs. is_in xs j) over) ∙ h in cc

  part_left : (j : ℕ) → has_part classes x j ≡ true → j < length classes → (e : ℕ) × Stands order e j
  part_left j part lt = elim (leave_here.1 j part) [ inl r ↦ absurd (no_rest j r) | inr s ↦ stands j (at pr j) refl s lt ]

  sorted_more : IsSorted classes (order ++ x ∷ [])
  sorted_more k j lt part within =
      elim (cases_eq k (length order)) [
        | inl e ↦ last k e part
        | inr ne ↦ earlier k (omega (arith, ne, lt, length_push order x)) part
      ]
    where
      last : (k : ℕ) → k ≡ length order → has_part classes (slice_index (order ++ x ∷ []) k) j ≡ true → (e : ℕ) × (e < k) × (slice_index (order ++ x ∷ []) e ≡ j)
      last k e part =
          let Q : ℕ → Type 0 = λ n. has_part classes (slice_index (order ++ x ∷ []) n) j ≡ true in
          let R : ℕ → Type 0 = λ n. has_part classes n j ≡ true in
          let g : has_part classes x j ≡ true = subst R (slice_last order x) (subst Q e part) in
          let s = part_left j g within in
          (s.0, omega (arith, e, s.1.0), slice_before order x s.0 s.1.0 ∙ s.1.1)

      earlier : (k : ℕ) → k < length order → has_part classes (slice_index (order ++ x ∷ []) k) j ≡ true → (e : ℕ) × (e < k) × (slice_index (order ++ x ∷ []) e ≡ j)
      earlier k less part =
          let R : ℕ → Type 0 = λ n. has_part classes n j ≡ true in
          let s = w.sorted k j less (subst R (slice_before order x k less) part) within in
          (s.0, s.1, slice_before order x s.0 (omega (arith, s.1, less)) ∙ s.2)

  leave_room : length (order ++ x ∷ []) + sum_by unsettled (set pr x (Settled (length order))) ≡ length classes
  leave_room =
      let e : sum_by unsettled (set pr x (Settled (length order))) + unsettled (at pr x) ≡ sum_by unsettled pr + 0 = sum_by-set unsettled pr x (Settled (length order)) (Settled 0) leave_range in
      let f : unsettled (at pr x) ≡ 1 = ap unsettled open_at in
      omega (arith, e, f, w.room, length_push order x)

  pub left : Walking classes (set pr x (Settled (length order))) up (order ++ x ∷ [])
  left = record { size = length-set pr x (Settled (length order)) ∙ w.size; known = leave_known; sorted = sorted_more; chain = chain_rest classes x up w.chain; room = leave_room }

  pub left_keeps : KeepsReached pr (set pr x (Settled (length order)))
  left_keeps i h =
      elim (cases_eq i x) [
        | inl e ↦ absurd (untouched_left i e h)
        | inr ne ↦ sym (ap is_untouched (at-other pr x i (Settled (length order)) ne)) ∙ h
      ]
    where
      untouched_left : (i : ℕ) → i ≡ x → is_untouched (at (set pr x (Settled (length order))) i) ≡ true → ⊥
      untouched_left i e h =
          let Q : ℕ → Type 0 = λ n. is_untouched (at (set pr x (Settled (length order))) n) ≡ true in
          let g : is_untouched (at (set pr x (Settled (length order))) x) ≡ true = subst Q e h in
          let f : false ≡ true = sym (ap is_untouched (at-set pr x (Settled (length order)) leave_range)) ∙ g in
          cc

-- ---- a class that stands among those reached, and isn't open, is dropped there

both : {b : Bool} → b ≡ true → b ≡ false → ⊥
both e f = let g : true ≡ false = sym e ∙ f in cc

module _ (classes : List (List ℕ)) (pr : List Progress) (up order : List ℕ) (x : ℕ) (w : Walking classes pr (x ∷ up) order) where
  drop_known : (i : ℕ) (p : Progress) → at pr i ≡ p → is_open (at pr x) ≡ false → IsKnown classes pr (x ∷ up) order i p → IsKnown classes pr up order i p
  drop_known i (Untouched ps) is not_open h = h
  drop_known i (Open rest) is not_open h = (in_rest x up i (λ e. both (ap is_open (ap (at pr) (sym e) ∙ is)) not_open) h.0, h.1, h.2)
  drop_known i (Settled place) is not_open h = h

  pub dropped : is_open (at pr x) ≡ false → Walking classes pr up order
  dropped not_open = record { size = w.size; known = λ i. drop_known i (at pr i) refl not_open (w.known i); sorted = w.sorted; chain = chain_rest classes x up w.chain; room = w.room }
