-- The ends that are kept of mappings.
use Rattle.std.proofs.Common.{◌≡◌, ◌≢◌, ◌∙◌, ℕ, zero, suc, ◌<◌, ◌≤◌, Bool, true, false, nat_eq, nat_lt, List, [], ◌∷◌, ◌++◌, Option, Some, None, length, set, get_or, length-append, subst, refl, sym, ap, arith}
use Rattle.std.specs.Prelude.{option_and_then, slice_get}
use Rattle.std.proofs.lemmas.Option.{none-some, get_or_from_slice_get}
use Rattle.std.proofs.lemmas.Bool.Decides.{nat_tests}
use Rattle.wiring_slots.specs.declared.slot_tree.names.MappingPlan.{MappingPlan}
use Rattle.wiring_slots.specs.declared.slot_tree.names.StepPlan.{StepPlan}
use Rattle.wiring_slots.specs.declared.slot_tree.owners.Trail.{Trail}
use Rattle.wiring_slots.specs.slot_tree.Owners.{next_step}
use Rattle.wiring_slots.specs.slot_tree.Runs.{trail_at}
use Rattle.wiring_slots.specs.slot_tree.MappingOrders.{EndsAlike, AreEnds}

pub no_ends : AreEnds [] []
no_ends = record { room = omega arith; fresh = λ i le. refl; alike = λ first j steps s low high e. absurd (omega arith) }

-- ---- one more mapping
pub known_on : {X : Type 0} (xs ys : List X) (i : ℕ) (x : X) → slice_get xs i ≡ Some x → slice_get (xs ++ ys) i ≡ Some x
known_on [] ys i x e = absurd (none-some x e)
known_on (z ∷ zs) ys zero x e = e
known_on (z ∷ zs) ys (suc i) x e = known_on zs ys i x e

known_before : {X : Type 0} (xs ys : List X) (i : ℕ) → i < length xs → slice_get (xs ++ ys) i ≡ slice_get xs i
known_before [] ys i lt = absurd (omega arith)
known_before (z ∷ zs) ys zero lt = refl
known_before (z ∷ zs) ys (suc i) lt = known_before zs ys i (omega arith)

module _ (plans more : List MappingPlan) where
  goes_on : (t : Trail) (s : StepPlan) → next_step plans t ≡ Some s → next_step (plans ++ more) t ≡ Some s
  goes_on t s e = go (slice_get plans t.mapping) refl e
    where
      go : (o : Option MappingPlan) → slice_get plans t.mapping ≡ o → option_and_then (λ (m : MappingPlan). slice_get m.steps t.steps) o ≡ Some s → next_step (plans ++ more) t ≡ Some s
      go None is e = absurd (none-some s e)
      go (Some m) is e = ap (option_and_then (λ (m : MappingPlan). slice_get m.steps t.steps)) (known_on plans more t.mapping m is) ∙ e

  went_on : (t : Trail) → t.mapping < length plans → next_step (plans ++ more) t ≡ next_step plans t
  went_on t lt = ap (option_and_then (λ (m : MappingPlan). slice_get m.steps t.steps)) (known_before plans more t.mapping lt)

get_or-push : (ends : List ℕ) (i : ℕ) → get_or (ends ++ 0 ∷ []) i 0 ≡ get_or ends i 0
get_or-push [] zero = refl
get_or-push [] (suc i) = refl
get_or-push (x ∷ xs) zero = refl
get_or-push (x ∷ xs) (suc i) = get_or-push xs i

pub one_end : (plans : List MappingPlan) (ends : List ℕ) → AreEnds plans ends → AreEnds plans (ends ++ 0 ∷ [])
one_end plans ends h = record {
  room = let room = h.room in omega (arith, room, length-append ends (0 ∷ []));
  fresh = λ i le. get_or-push ends i ∙ h.fresh i le;
  alike = λ first. subst (λ n. EndsAlike plans first n) (sym (get_or-push ends first)) (h.alike first);
}

pub one_plan : (plans : List MappingPlan) (ends : List ℕ) (p : MappingPlan) → AreEnds plans ends → length plans < length ends → AreEnds (plans ++ p ∷ []) ends
one_plan plans ends p h lt = record {
  room = let long = length-append plans (p ∷ []) in omega (arith, lt, long);
  fresh = λ i le. h.fresh i (let long = length-append plans (p ∷ []) in omega (arith, le, long));
  alike = λ first. pick first (nat_lt first (length plans)) refl;
}
  where
    pick : (first : ℕ) (b : Bool) → nat_lt first (length plans) ≡ b → EndsAlike (plans ++ p ∷ []) first (get_or ends first 0)
    pick first true is j steps s low high e =
        let there : first < length plans = grind (arith, nat_tests) in
        goes_on plans (p ∷ []) (trail_at steps j) s (h.alike first j steps s low high (sym (went_on plans (p ∷ []) (trail_at steps first) there) ∙ e))
    pick first false is j steps s low high e =
        let past : length plans ≤ first = grind (arith, nat_tests) in
        let none = h.fresh first past in
        absurd (omega (arith, high, none))

pub pushed : (plans : List MappingPlan) (ends : List ℕ) (p : MappingPlan) → AreEnds plans ends → AreEnds (plans ++ p ∷ []) (ends ++ 0 ∷ [])
pushed plans ends p h = one_plan plans (ends ++ 0 ∷ []) p (one_end plans ends h) (let room = h.room in omega (arith, room, length-append ends (0 ∷ [])))

-- ---- an end
set_own : (ends : List ℕ) (k e : ℕ) → k < length ends → get_or (set ends k e) k 0 ≡ e
set_own [] k e lt = absurd (omega arith)
set_own (x ∷ xs) zero e lt = refl
set_own (x ∷ xs) (suc k) e lt = set_own xs k e (omega arith)

set_other : (ends : List ℕ) (i k e : ℕ) → i ≢ k → get_or (set ends k e) i 0 ≡ get_or ends i 0
set_other [] i k e ne = refl
set_other (x ∷ xs) zero zero e ne = absurd (ne refl)
set_other (x ∷ xs) zero (suc k) e ne = refl
set_other (x ∷ xs) (suc i) zero e ne = refl
set_other (x ∷ xs) (suc i) (suc k) e ne = set_other xs i k e (λ q. ne (ap suc q))

length-set_at : (ends : List ℕ) (k e : ℕ) → length (set ends k e) ≡ length ends
length-set_at [] k e = refl
length-set_at (x ∷ xs) zero e = refl
length-set_at (x ∷ xs) (suc k) e = ap suc (length-set_at xs k e)

pub closed : (plans : List MappingPlan) (ends : List ℕ) (k e : ℕ) → AreEnds plans ends → k < length plans → EndsAlike plans k e → AreEnds plans (set ends k e)
closed plans ends k e h lt alike = record {
  room = let room = h.room in omega (arith, room, length-set_at ends k e);
  fresh = λ i le. set_other ends i k e (λ q. absurd (omega (arith, lt, le, q))) ∙ h.fresh i le;
  alike = λ first. pick first (nat_eq first k) refl;
}
  where
    inside : k < length ends
    inside = let room = h.room in omega (arith, room, lt)

    pick : (first : ℕ) (b : Bool) → nat_eq first k ≡ b → EndsAlike plans first (get_or (set ends k e) first 0)
    pick first true is =
        let own : k ≡ first = grind (arith, nat_tests) in
        subst (λ n. EndsAlike plans n (get_or (set ends k e) n 0)) own (subst (λ n. EndsAlike plans k n) (sym (set_own ends k e inside)) alike)
    pick first false is =
        let other : first ≢ k = λ q. absurd (grind (arith, nat_tests)) in
        subst (λ n. EndsAlike plans first n) (sym (set_other ends first k e other)) (h.alike first)

-- what is kept of a mapping
pub end_kept : (plans : List MappingPlan) (ends : List ℕ) (first : ℕ) (o : Option ℕ) (e : ℕ) → AreEnds plans ends → o ≡ slice_get ends first → o ≡ Some e → EndsAlike plans first e
end_kept plans ends first o e h is some j steps s low high next =
    let there : slice_get ends first ≡ Some e = sym is ∙ some in
    let value : get_or ends first 0 ≡ e = get_or_from_slice_get ends first e 0 there in
    h.alike first j steps s low (subst (λ n. j < n) (sym value) high) next

pub nothing_kept : (plans : List MappingPlan) (first : ℕ) → EndsAlike plans first 0
nothing_kept plans first j steps s low high next = absurd (omega arith)
