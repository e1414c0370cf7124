-- The owner that is found along a way is the one of the longest mapped path.
use Rattle.std.proofs.Common.{◌≡◌, ◌∙◌, ◌⊎◌, inl, inr, ℕ, zero, suc, ◌+◌, ◌≤◌, ◌<◌, ◌==◌, ◌&&◌, nat_le, nat_lt, le-leb, Bool, true, false, cond, List, [], ◌∷◌, ◌++◌, append_assoc, append-nil, length, length-append, map, Option, Some, None, slice_get, refl, sym, ap, subst, arith}
use Rattle.std.specs.Prelude.{option_and_then, unwrap_or}
use Rattle.std.specs.List.{cons_option, filter_map, range_with_len}
use Rattle.std.specs.Option.{option_map_or}
use Rattle.std.proofs.lemmas.Bool.{and_parts, and_from, eqb-true, eq-eqb}
use Rattle.std.proofs.lemmas.Bool.Decides.{nat_tests}
use Rattle.std.proofs.lemmas.Option.{same_Some, slice_get_within}
use Rattle.room_kinds.specs.declared.numbers.ControllerId.{ControllerId}
use Rattle.wiring_slots.specs.declared.slot_tree.names.MappingPlan.{MappingPlan}
use Rattle.wiring_slots.specs.declared.slot_tree.names.StepPlan.{StepPlan}
use Rattle.wiring_slots.specs.slot_tree.Owners.{step_fits, stepped, goes_on, trails_at, mapped_at, owner_at}
use Rattle.law_definitions.specs.Owners.{Way, goes_along, leads_along, NoneLeads, IsOwnerOf, Trail, owner_along, OwnersHaveTheLongestMapping}

-- ---- steps along a way

-- a way is gone by the first steps
abbrev follows : Way → List StepPlan → Bool
follows [] ss = true
follows (x ∷ w) [] = false
follows (x ∷ w) (s ∷ ss) = step_fits s x.0 x.1 && follows w ss

and_true : (b : Bool) → (b && true) ≡ b
and_true true = refl
and_true false = refl

follow_more : (w : Way) (x : ℕ × ℕ) (ss : List StepPlan) → follows w ss ≡ true
    → follows (w ++ x ∷ []) ss ≡ option_map_or (λ (s : StepPlan). step_fits s x.0 x.1) (slice_get ss (length w)) false
follow_more [] x [] h = refl
follow_more [] x (s ∷ ss) h = and_true (step_fits s x.0 x.1)
follow_more (y ∷ w) x [] h = absurd cc
follow_more (y ∷ w) x (s ∷ ss) h =
    let both = and_parts (step_fits s y.0 y.1) (follows w ss) h in
    ap (λ b. b && follows (w ++ x ∷ []) ss) both.0 ∙ follow_more w x ss both.1

follow_less : (w : Way) (x : ℕ × ℕ) (ss : List StepPlan) → follows w ss ≡ false → follows (w ++ x ∷ []) ss ≡ false
follow_less [] x ss h = absurd cc
follow_less (y ∷ w) x [] h = refl
follow_less (y ∷ w) x (s ∷ ss) h = by_step (step_fits s y.0 y.1) h (λ k. follow_less w x ss k)
  where
    by_step : (b : Bool) → (b && follows w ss) ≡ false → (follows w ss ≡ false → follows (w ++ x ∷ []) ss ≡ false) → (b && follows (w ++ x ∷ []) ss) ≡ false
    by_step true k next = next k
    by_step false k next = refl

-- ---- paths along a way

along_short : (ss : List StepPlan) (w : Way) → goes_along ss w ≡ true → length ss ≤ length w
along_short [] w h = omega arith
along_short (s ∷ ss) [] h = absurd cc
along_short (s ∷ ss) (x ∷ w) h =
    let short = along_short ss w (and_parts (step_fits s x.0 x.1) (goes_along ss w) h).1 in omega (arith, short)

along_longer : (ss : List StepPlan) (w : Way) (x : ℕ × ℕ) → goes_along ss w ≡ true → goes_along ss (w ++ x ∷ []) ≡ true
along_longer [] w x h = refl
along_longer (s ∷ ss) [] x h = absurd cc
along_longer (s ∷ ss) (y ∷ w) x h =
    let both = and_parts (step_fits s y.0 y.1) (goes_along ss w) h in and_from (step_fits s y.0 y.1) (goes_along ss (w ++ x ∷ [])) both.0 (along_longer ss w x both.1)

-- a path that ends at the end of a way
EndsAt : Way → List StepPlan → Type 0
EndsAt w ss = (follows w ss ≡ true) × (length ss ≡ length w)

ends_along : (w : Way) (ss : List StepPlan) → EndsAt w ss → goes_along ss w ≡ true
unfolding EndsAt
ends_along [] [] h = refl
ends_along [] (s ∷ ss) h = let long = h.1 in absurd (omega (arith, long))
ends_along (x ∷ w) [] h = absurd cc
ends_along (x ∷ w) (s ∷ ss) h =
    let long = h.1 in
    let both = and_parts (step_fits s x.0 x.1) (follows w ss) h.0 in
    and_from (step_fits s x.0 x.1) (goes_along ss w) both.0 (ends_along w ss (both.1, omega (arith, long)))

along_ends : (w : Way) (ss : List StepPlan) → goes_along ss w ≡ true → length ss ≡ length w → EndsAt w ss
unfolding EndsAt
along_ends [] [] h long = (refl, refl)
along_ends [] (s ∷ ss) h long = absurd cc
along_ends (x ∷ w) [] h long = absurd (omega (arith, long))
along_ends (x ∷ w) (s ∷ ss) h long =
    let both = and_parts (step_fits s x.0 x.1) (goes_along ss w) h in
    let later = along_ends w ss both.1 (omega (arith, long)) in
    (and_from (step_fits s x.0 x.1) (follows w ss) both.0 later.0, long)

-- what leads along a longer way leads along it but for its end, or ends there
along_shorter : (ss : List StepPlan) (w : Way) (x : ℕ × ℕ) → goes_along ss (w ++ x ∷ []) ≡ true → (goes_along ss w ≡ true) ⊎ (length ss ≡ suc (length w))
along_shorter [] w x h = inl refl
along_shorter (s ∷ []) [] x h = inr refl
along_shorter (s ∷ t ∷ ss) [] x h = let rest = (and_parts (step_fits s x.0 x.1) (goes_along (t ∷ ss) []) h).1 in absurd cc
along_shorter (s ∷ ss) (y ∷ w) x h =
    let both = and_parts (step_fits s y.0 y.1) (goes_along ss (w ++ x ∷ [])) h in by_rest both.0 (along_shorter ss w x both.1)
  where
    by_rest : step_fits s y.0 y.1 ≡ true → (goes_along ss w ≡ true) ⊎ (length ss ≡ suc (length w)) → (goes_along (s ∷ ss) (y ∷ w) ≡ true) ⊎ (length (s ∷ ss) ≡ suc (length (y ∷ w)))
    by_rest fits (inl k) = inl (and_from (step_fits s y.0 y.1) (goes_along ss w) fits k)
    by_rest fits (inr k) = inr (ap suc k)

-- ---- what is kept of the mappings

module _ (mappings : List MappingPlan) where
  steps_at : ℕ → List StepPlan
  steps_at i = option_map_or (λ (m : MappingPlan). m.steps) (slice_get mappings i) []

  pub kept : Way → ℕ → Option Trail
  kept w i = cond (follows w (steps_at i)) (Some (record { mapping = i; steps = length w })) None

  -- of so many mappings those that lead on from the end of a way
  abbrev pub trails_for : Way → ℕ → ℕ → List Trail
  trails_for w a n = filter_map (kept w) (range_with_len a n)

  goes_kept : (w : Way) (x : ℕ × ℕ) (i : ℕ) (o : Option MappingPlan) → slice_get mappings i ≡ o → follows w (steps_at i) ≡ true
      → goes_on mappings x.0 x.1 (record { mapping = i; steps = length w }) ≡ kept (w ++ x ∷ []) i
  unfolding steps_at kept
  goes_kept w x i None e h =
      let none : steps_at i ≡ [] = ap (λ o. option_map_or (λ (m : MappingPlan). m.steps) o []) e in
      ap (λ o. option_and_then (stepped (record { mapping = i; steps = length w }) x.0 x.1) (option_and_then (λ (m : MappingPlan). slice_get m.steps (length w)) o)) e
      ∙ sym (ap (λ b. cond b (Some (record { mapping = i; steps = length (w ++ x ∷ []) })) None) (ap (follows (w ++ x ∷ [])) none ∙ none_follows w x))
    where
      none_follows : (v : Way) (y : ℕ × ℕ) → follows (v ++ y ∷ []) [] ≡ false
      none_follows [] y = refl
      none_follows (z ∷ v) y = refl
  goes_kept w x i (Some m) e h =
      let is : steps_at i ≡ m.steps = ap (λ o. option_map_or (λ (n : MappingPlan). n.steps) o []) e in
      let more = follow_more w x m.steps (subst (λ ss. follows w ss ≡ true) is h) in
      let long : length (w ++ x ∷ []) ≡ length w + 1 = length-append w (x ∷ []) in
      ap (λ o. option_and_then (stepped (record { mapping = i; steps = length w }) x.0 x.1) (option_and_then (λ (n : MappingPlan). slice_get n.steps (length w)) o)) e
      ∙ by_step (slice_get m.steps (length w))
      ∙ ap (λ b. cond b (Some (record { mapping = i; steps = length w + 1 })) None) (sym more ∙ ap (follows (w ++ x ∷ [])) (sym is))
      ∙ ap (λ k. cond (follows (w ++ x ∷ []) (steps_at i)) (Some (record { mapping = i; steps = k })) None) (sym long)
    where
      by_step : (o : Option StepPlan) → option_and_then (stepped (record { mapping = i; steps = length w }) x.0 x.1) o
          ≡ cond (option_map_or (λ (s : StepPlan). step_fits s x.0 x.1) o false) (Some (record { mapping = i; steps = length w + 1 })) None
      by_step None = refl
      by_step (Some s) = refl

  one_kept : (w : Way) (x : ℕ × ℕ) (i : ℕ) (rest : List Trail)
      → filter_map (goes_on mappings x.0 x.1) (cons_option (kept w i) rest) ≡ cons_option (kept (w ++ x ∷ []) i) (filter_map (goes_on mappings x.0 x.1) rest)
  unfolding kept
  one_kept w x i rest = by_test (follows w (steps_at i)) refl
    where
      by_test : (b : Bool) → follows w (steps_at i) ≡ b
          → filter_map (goes_on mappings x.0 x.1) (cons_option (cond b (Some (record { mapping = i; steps = length w })) None) rest)
          ≡ cons_option (kept (w ++ x ∷ []) i) (filter_map (goes_on mappings x.0 x.1) rest)
      by_test true e = ap (λ o. cons_option o (filter_map (goes_on mappings x.0 x.1) rest)) (goes_kept w x i (slice_get mappings i) refl e)
      by_test false e =
          ap (λ b. cons_option (cond b (Some (record { mapping = i; steps = length (w ++ x ∷ []) })) None) (filter_map (goes_on mappings x.0 x.1) rest)) (sym (follow_less w x (steps_at i) e))

  pub all_kept : (w : Way) (x : ℕ × ℕ) (a n : ℕ) → trails_at mappings x.0 x.1 (trails_for w a n) ≡ trails_for (w ++ x ∷ []) a n
  unfolding trails_at
  all_kept w x a zero = refl
  all_kept w x a (suc n) = one_kept w x a (trails_for w (a + 1) n) ∙ ap (cons_option (kept (w ++ x ∷ []) a)) (all_kept w x (a + 1) n)

  pub all_begin : (a n : ℕ) → map (λ i. let t : Trail = record { mapping = i; steps = 0 } in t) (range_with_len a n) ≡ trails_for [] a n
  unfolding kept
  all_begin a zero = refl
  all_begin a (suc n) = ap (λ ts. (record { mapping = a; steps = 0 }) ∷ ts) (all_begin (a + 1) n)

  -- ---- the last mapping that ends at the end of a way

  -- no mapping from here to there ends
  NoneEnds : Way → ℕ → ℕ → Type 0
  NoneEnds w a b = (j : ℕ) (m : MappingPlan) → slice_get mappings j ≡ Some m → a ≤ j → j < b → EndsAt w m.steps → ⊥

  IsLast : Way → ControllerId → ℕ → ℕ → ControllerId → Type 0
  IsLast w owner a b c =
      ((k : ℕ) × (m : MappingPlan) × (slice_get mappings k ≡ Some m) × (a ≤ k) × (k < b) × EndsAt w m.steps × NoneEnds w (k + 1) b × (c ≡ m.controller))
      ⊎ (NoneEnds w a b × (c ≡ owner))

  -- whether a mapping ends, and the owner behind it
  IsOne : Way → ControllerId → ℕ → ControllerId → Type 0
  IsOne w owner a c =
      ((m : MappingPlan) × (slice_get mappings a ≡ Some m) × EndsAt w m.steps × (c ≡ m.controller))
      ⊎ (((m : MappingPlan) → slice_get mappings a ≡ Some m → EndsAt w m.steps → ⊥) × (c ≡ owner))

  mapped_one : (w : Way) (owner : ControllerId) (a : ℕ) → follows w (steps_at a) ≡ true
      → IsOne w owner a (unwrap_or (mapped_at mappings (record { mapping = a; steps = length w })) owner)
  unfolding steps_at EndsAt IsOne
  mapped_one w owner a gone = by_mapping (slice_get mappings a) refl
    where
      by_end : (m : MappingPlan) → slice_get mappings a ≡ Some m → follows w m.steps ≡ true → (b : Bool) → (length w == length m.steps) ≡ b
          → IsOne w owner a (unwrap_or (cond b (Some m.controller) None) owner)
      by_end m e here true same = inl (m, e, (here, sym (eqb-true (length w) (length m.steps) same)), refl)
      by_end m e here false other = inr (
        (λ n f ends.
            let is : m ≡ n = same_Some m n (sym e ∙ f) in
            let long : length w ≡ length m.steps = sym (subst (λ (q : MappingPlan). length q.steps ≡ length w) (sym is) ends.1) in
            let both : true ≡ false = sym (eq-eqb (length w) (length m.steps) long) ∙ other in absurd cc),
        refl,
      )

      by_mapping : (o : Option MappingPlan) → slice_get mappings a ≡ o
          → IsOne w owner a (unwrap_or (option_and_then (λ (m : MappingPlan). cond (length w == length m.steps) (Some m.controller) None) (slice_get mappings a)) owner)
      by_mapping None e =
          subst (λ o. IsOne w owner a (unwrap_or (option_and_then (λ (m : MappingPlan). cond (length w == length m.steps) (Some m.controller) None) o) owner)) (sym e)
          (inr ((λ m f ends. none_some m (sym e ∙ f)), refl))
        where
          none_some : (m : MappingPlan) → ◌≡◌ {A = Option MappingPlan} None (Some m) → ⊥
          none_some m f = cc
      by_mapping (Some m) e =
          subst (λ o. IsOne w owner a (unwrap_or (option_and_then (λ (q : MappingPlan). cond (length w == length q.steps) (Some q.controller) None) o) owner)) (sym e)
          (by_end m e (subst (λ o. follows w (option_map_or (λ (q : MappingPlan). q.steps) o []) ≡ true) e gone) (length w == length m.steps) refl)

  unmapped_one : (w : Way) (owner : ControllerId) (a : ℕ) → follows w (steps_at a) ≡ false → IsOne w owner a owner
  unfolding steps_at EndsAt IsOne
  unmapped_one w owner a gone = inr (
    (λ m e ends.
        let here : follows w m.steps ≡ false = subst (λ o. follows w (option_map_or (λ (q : MappingPlan). q.steps) o []) ≡ false) e gone in
        let both : true ≡ false = sym ends.0 ∙ here in absurd cc),
    refl,
  )

  order : (a b : ℕ) → (a < b) ⊎ (b ≤ a)
  order a b = by_test (nat_lt a b) refl
    where
      by_test : (t : Bool) → nat_lt a b ≡ t → (a < b) ⊎ (b ≤ a)
      by_test true e = inl (grind (arith, nat_tests))
      by_test false e = inr (grind (arith, nat_tests))

  join_last : (w : Way) (owner c r : ControllerId) (a b : ℕ) → a < b → IsOne w owner a c → IsLast w c (a + 1) b r → IsLast w owner a b r
  unfolding IsOne IsLast NoneEnds
  join_last w owner c r a b below one (inl k) =
      let above = k.3 in inl (k.0, k.1, k.2, omega (arith, above), k.4, k.5, k.6, k.7)
  join_last w owner c r a b below (inl m) (inr none) = inl (a, m.0, m.1, omega arith, below, m.2, none.0, none.1 ∙ m.3)
  join_last w owner c r a b below (inr never) (inr none) = inr ((λ j m e least most ends. by_order j m e least most ends (order j (a + 1))), none.1 ∙ never.1)
    where
      by_order : (j : ℕ) (m : MappingPlan) → slice_get mappings j ≡ Some m → a ≤ j → j < b → EndsAt w m.steps → (j < a + 1) ⊎ (a + 1 ≤ j) → ⊥
      by_order j m e least most ends (inl low) =
          let is : j ≡ a = omega (arith, low, least) in never.0 m (subst (λ i. slice_get mappings i ≡ Some m) is e) ends
      by_order j m e least most ends (inr high) = none.0 j m e high most ends

  last_of : (w : Way) (owner : ControllerId) (a n : ℕ) → IsLast w owner a (a + n) (owner_at mappings owner (trails_for w a n))
  unfolding IsLast NoneEnds kept
  last_of w owner a zero = inr ((λ j m e least most ends. omega (arith, least, most)), refl)
  last_of w owner a (suc n) =
      let far : (a + 1) + n ≡ a + suc n = omega arith in
      by_test far (follows w (steps_at a)) refl (λ c. last_of w c (a + 1) n)
    where
      by_test : (a + 1) + n ≡ a + suc n → (b : Bool) → follows w (steps_at a) ≡ b
          → ((c : ControllerId) → IsLast w c (a + 1) ((a + 1) + n) (owner_at mappings c (trails_for w (a + 1) n)))
          → IsLast w owner a (a + suc n) (owner_at mappings owner (cons_option (cond b (Some (record { mapping = a; steps = length w })) None) (trails_for w (a + 1) n)))
      by_test far true e later =
          let c = unwrap_or (mapped_at mappings (record { mapping = a; steps = length w })) owner in
          let r = owner_at mappings c (trails_for w (a + 1) n) in
          join_last w owner c r a (a + suc n) (omega arith) (mapped_one w owner a e) (subst (λ b. IsLast w c (a + 1) b r) far (later c))
      by_test far false e later =
          let r = owner_at mappings owner (trails_for w (a + 1) n) in
          join_last w owner owner r a (a + suc n) (omega arith) (unmapped_one w owner a e) (subst (λ b. IsLast w owner (a + 1) b r) far (later owner))

  -- ---- one step further along a way

  leads : (ss : List StepPlan) (w : Way) → 1 ≤ length ss → goes_along ss w ≡ true → leads_along ss w ≡ true
  leads ss w some goes = and_from (nat_le 1 (length ss)) (goes_along ss w) (le-leb 1 (length ss) some) goes

  some_steps : (ss : List StepPlan) (w : Way) → leads_along ss w ≡ true → 1 ≤ length ss
  some_steps ss w h = let least = (and_parts (nat_le 1 (length ss)) (goes_along ss w) h).0 in grind (arith, nat_tests)

  goes : (ss : List StepPlan) (w : Way) → leads_along ss w ≡ true → goes_along ss w ≡ true
  goes ss w h = (and_parts (nat_le 1 (length ss)) (goes_along ss w) h).1

  module _ (w : Way) (x : ℕ × ℕ) where
    long : length (w ++ x ∷ []) ≡ suc (length w)
    long = let parts = length-append w (x ∷ []) in omega (arith, parts)

    -- what leads along the longer way led along the shorter one, where none ends
    led : NoneEnds (w ++ x ∷ []) 0 (length mappings) → (j : ℕ) (n : MappingPlan) → slice_get mappings j ≡ Some n → leads_along n.steps (w ++ x ∷ []) ≡ true → leads_along n.steps w ≡ true
    unfolding NoneEnds
    led none j n e h = by_end (along_shorter n.steps w x (goes n.steps (w ++ x ∷ []) h))
      where
        by_end : (goes_along n.steps w ≡ true) ⊎ (length n.steps ≡ suc (length w)) → leads_along n.steps w ≡ true
        by_end (inl k) = leads n.steps w (some_steps n.steps (w ++ x ∷ []) h) k
        by_end (inr k) =
            absurd (none j n e (omega arith) (slice_get_within mappings j n e) (along_ends (w ++ x ∷ []) n.steps (goes n.steps (w ++ x ∷ []) h) (k ∙ sym long)))

    goes_further : (owner c : ControllerId) → IsOwnerOf mappings w owner → IsLast (w ++ x ∷ []) owner 0 (length mappings) c → IsOwnerOf mappings (w ++ x ∷ []) c
    unfolding IsLast NoneEnds EndsAt
    goes_further owner c old (inl k) =
        let many = k.5.1 in
        let far = long in
        inl (
          k.0,
          k.1,
          record {
            is = k.2;
            leads = leads k.1.steps (w ++ x ∷ []) (omega (arith, many, far)) (ends_along (w ++ x ∷ []) k.1.steps k.5);
            longest = λ j n e h. let short = along_short n.steps (w ++ x ∷ []) (goes n.steps (w ++ x ∷ []) h) in omega (arith, many, short);
            last = λ j n e h same. by_order j n e h same (order k.0 j);
          },
          k.7,
        )
      where
        by_order : (j : ℕ) (n : MappingPlan) → slice_get mappings j ≡ Some n → leads_along n.steps (w ++ x ∷ []) ≡ true → length n.steps ≡ length k.1.steps → (k.0 < j) ⊎ (j ≤ k.0) → j ≤ k.0
        by_order j n e h same (inl later) =
            absurd (k.6 j n e (omega (arith, later)) (slice_get_within mappings j n e) (along_ends (w ++ x ∷ []) n.steps (goes n.steps (w ++ x ∷ []) h) (same ∙ k.5.1)))
        by_order j n e h same (inr low) = low
    goes_further owner c (inl k) (inr none) = inl (
      k.0,
      k.1,
      record {
        is = k.2.is;
        leads = leads k.1.steps (w ++ x ∷ []) (some_steps k.1.steps w k.2.leads) (along_longer k.1.steps w x (goes k.1.steps w k.2.leads));
        longest = λ j n e h. k.2.longest j n e (led none.0 j n e h);
        last = λ j n e h same. k.2.last j n e (led none.0 j n e h) same;
      },
      none.1 ∙ k.3,
    )
    goes_further owner c (inr never) (inr none) = inr ((λ j n e. by_test j n e (leads_along n.steps (w ++ x ∷ [])) refl), none.1 ∙ never.1)
      where
        by_test : (j : ℕ) (n : MappingPlan) → slice_get mappings j ≡ Some n → (b : Bool) → leads_along n.steps (w ++ x ∷ []) ≡ b → b ≡ false
        by_test j n e true h = let both : true ≡ false = sym (led none.0 j n e h) ∙ never.0 j n e in absurd cc
        by_test j n e false h = refl

  -- a slot that is reached one step further has the owner that stands there
  pub owned_next : (w : Way) (x : ℕ × ℕ) (owner : ControllerId) → IsOwnerOf mappings w owner
      → IsOwnerOf mappings (w ++ x ∷ []) (owner_at mappings owner (trails_for (w ++ x ∷ []) 0 (length mappings)))
  owned_next w x owner h =
      let next = trails_for (w ++ x ∷ []) 0 (length mappings) in
      let all : 0 + length mappings ≡ length mappings = omega arith in
      goes_further w x owner (owner_at mappings owner next) h
      (subst (λ b. IsLast (w ++ x ∷ []) owner 0 b (owner_at mappings owner next)) all (last_of (w ++ x ∷ []) owner 0 (length mappings)))

  along : (way so_far : Way) (owner : ControllerId) → IsOwnerOf mappings so_far owner
      → IsOwnerOf mappings (so_far ++ way) (owner_along mappings owner (trails_for so_far 0 (length mappings)) way)
  along [] so_far owner h = subst (λ v. IsOwnerOf mappings v owner) (sym (append-nil so_far)) h
  along (x ∷ way) so_far owner h =
      let next = trails_for (so_far ++ x ∷ []) 0 (length mappings) in
      let there = along way (so_far ++ x ∷ []) (owner_at mappings owner next) (owned_next so_far x owner h) in
      subst (λ ts. IsOwnerOf mappings (so_far ++ x ∷ way) (owner_along mappings (owner_at mappings owner ts) ts way)) (sym (all_kept so_far x 0 (length mappings)))
      (subst (λ v. IsOwnerOf mappings v (owner_along mappings (owner_at mappings owner next) next way)) (append_assoc so_far (x ∷ []) way) there)

  pub nowhere : NoneLeads mappings []
  nowhere j n e = none n.steps
    where
      none : (ss : List StepPlan) → leads_along ss [] ≡ false
      none [] = refl
      none (s ∷ ss) = off (nat_le 1 (length (s ∷ ss)))
        where
          off : (b : Bool) → (b && false) ≡ false
          off true = refl
          off false = refl

pub longest_mapping : OwnersHaveTheLongestMapping
longest_mapping mappings way =
    subst (λ ts. IsOwnerOf mappings way (owner_along mappings (record { 0 = 0 }) ts way)) (sym (all_begin mappings 0 (length mappings)))
    (along mappings way [] (record { 0 = 0 }) (inr (nowhere mappings, refl)))
