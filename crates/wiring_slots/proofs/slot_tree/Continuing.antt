-- Mappings of which what each adds to the path before it is kept.
use Rattle.std.proofs.Common.{◌≡◌, ◌∙◌, ℕ, zero, suc, ◌+◌, ◌-◌, ◌<◌, ◌≤◌, ◌^◌, List, [], ◌∷◌, ◌++◌, Option, Some, None, Bool, true, false, length, set, take, length-append, subst, refl, sym, ap, arith}
use Rattle.std.specs.Prelude.{◌==◌, OnSome, option_map, option_and_then, slice_get, if◌then◌else◌}
use Rattle.std.proofs.lemmas.Option.{none-some, same_Some, slice_get_past, slice_get_within}
use Rattle.std.proofs.lemmas.List.{length-take-le}
use Rattle.wiring_slots.specs.declared.slot_tree.mapping_order.Continued.{Continued}
use Rattle.wiring_slots.specs.declared.slot_tree.names.MappingPlan.{MappingPlan}
use Rattle.wiring_slots.specs.declared.slot_tree.names.StepPlan.{StepPlan}
use Rattle.wiring_slots.specs.slot_tree.Owners.{next_step, mapped_at}
use Rattle.wiring_slots.specs.slot_tree.Runs.{trail_at}
use Rattle.wiring_slots.specs.slot_tree.MappingOrders.{EndsAlike, AreEnds}
use Rattle.wiring_slots.specs.slot_tree.Continuing.{whole_steps, whole, plans_behind, last_steps, AreContinued, IsOrder}
use Rattle.wiring_slots.proofs.slot_tree.MappingOrders.{no_ends, one_end, one_plan, closed}

pub no_order : IsOrder [] []
no_order = record { continued = tt; ended = no_ends }

pub count_of : (before : List StepPlan) (cs : List Continued) → length (plans_behind before cs) ≡ length cs
count_of before [] = refl
count_of before (c ∷ cs) = ap suc (count_of (whole_steps before c) cs)

pub count_is : (cs : List Continued) → length cs ≡ length (plans_behind [] cs)
count_is cs = sym (count_of [] cs)

-- ---- one more mapping
pub plans_more : (before : List StepPlan) (cs : List Continued) (c : Continued) → plans_behind before (cs ++ c ∷ []) ≡ plans_behind before cs ++ whole (last_steps before (plans_behind before cs)) c ∷ []
plans_more before [] c = refl
plans_more before (x ∷ xs) c = ap (λ (ms : List MappingPlan). whole before x ∷ ms) (plans_more (whole_steps before x) xs c)

continued_more : (before : List StepPlan) (cs : List Continued) (c : Continued) → AreContinued before cs → c.kept ≤ length (last_steps before (plans_behind before cs)) → c.kept + length c.own.steps < 2 ^ 64
    → AreContinued before (cs ++ c ∷ [])
continued_more before [] c h there few = (there, few, tt)
continued_more before (x ∷ xs) c h there few = (h.0, h.1, continued_more (whole_steps before x) xs c h.2 there few)

pub order_on : (cs : List Continued) (ends : List ℕ) (c : Continued) → IsOrder cs ends → c.kept ≤ length (last_steps [] (plans_behind [] cs)) → c.kept + length c.own.steps < 2 ^ 64 → IsOrder (cs ++ c ∷ []) (ends ++ 0 ∷ [])
order_on cs ends c h there few =
    let old = plans_behind [] cs in
    let p = whole (last_steps [] old) c in
    let room = h.ended.room in
    let ended = one_plan old (ends ++ 0 ∷ []) p (one_end old ends h.ended) (omega (arith, room, length-append ends (0 ∷ []))) in
    record {
      continued = continued_more [] cs c h.continued there few;
      ended = subst (λ (ms : List MappingPlan). AreEnds ms (ends ++ 0 ∷ [])) (sym (plans_more [] cs c)) ended;
    }

pub order_open : (cs : List Continued) (ends : List ℕ) → IsOrder cs ends → IsOrder cs (ends ++ 0 ∷ [])
order_open cs ends h = record { continued = h.continued; ended = one_end (plans_behind [] cs) ends h.ended }

-- ---- a mapping that is kept
-- what is known of the mapping with this number, and of the one before it
pub record Found (before : List StepPlan) (plans : List MappingPlan) (i : ℕ) (c : Continued) : Type 0 where
  pub prior : List StepPlan
  pub there : slice_get plans i ≡ Some (whole prior c)
  pub kept : c.kept ≤ length prior
  pub few : c.kept + length c.own.steps < 2 ^ 64
  pub first : i ≡ 0 → prior ≡ before
  pub later : (j : ℕ) → i ≡ suc j → option_map (λ (m : MappingPlan). m.steps) (slice_get plans j) ≡ Some prior

later_on : (before : List StepPlan) (x : Continued) (plans : List MappingPlan) (i : ℕ) (c : Continued) (f : Found (whole_steps before x) plans i c) (j : ℕ) → suc i ≡ suc j
    → option_map (λ (m : MappingPlan). m.steps) (slice_get (whole before x ∷ plans) j) ≡ Some f.prior
later_on before x plans zero c f zero e = ap (λ (ss : List StepPlan). Some ss) (sym (f.first refl))
later_on before x plans zero c f (suc j) e = absurd (omega (arith, e))
later_on before x plans (suc i) c f zero e = absurd (omega (arith, e))
later_on before x plans (suc i) c f (suc j) e = f.later j (omega (arith, e))

found : (before : List StepPlan) (cs : List Continued) (i : ℕ) (c : Continued) → AreContinued before cs → slice_get cs i ≡ Some c → Found before (plans_behind before cs) i c
found before [] i c h e = absurd (none-some c e)
found before (x ∷ xs) zero c h e =
    let same : x ≡ c = same_Some x c e in
    record {
      prior = before;
      there = ap (λ (q : Continued). Some (whole before q)) same;
      kept = subst (λ (q : Continued). q.kept ≤ length before) same h.0;
      few = subst (λ (q : Continued). q.kept + length q.own.steps < 2 ^ 64) same h.1;
      first = λ _. refl;
      later = λ j z. absurd (omega (arith, z));
    }
found before (x ∷ xs) (suc i) c h e =
    let f = found (whole_steps before x) xs i c h.2 e in
    record {
      prior = f.prior;
      there = f.there;
      kept = f.kept;
      few = f.few;
      first = λ z. absurd (omega (arith, z));
      later = later_on before x (plans_behind (whole_steps before x) xs) i c f;
    }

-- ---- a step of a path
get_behind : {X : Type 0} (xs ys : List X) (k : ℕ) → length xs ≤ k → slice_get (xs ++ ys) k ≡ slice_get ys (k - length xs)
get_behind {X} [] ys k le = let e : k ≡ k - 0 = omega arith in ap (λ n. slice_get ys n) e
get_behind (x ∷ xs) ys zero le = absurd (omega arith)
get_behind {X} (x ∷ xs) ys (suc k) le = let e : k - length xs ≡ suc k - suc (length xs) = omega arith in get_behind xs ys k (omega arith) ∙ ap (λ n. slice_get ys n) e

get_taken : {X : Type 0} (n : ℕ) (xs ys : List X) (k : ℕ) → k < n → n ≤ length xs → slice_get (take n xs ++ ys) k ≡ slice_get xs k
get_taken zero xs ys k lt le = absurd (omega arith)
get_taken (suc n) [] ys k lt le = absurd (omega arith)
get_taken (suc n) (x ∷ xs) ys zero lt le = refl
get_taken (suc n) (x ∷ xs) ys (suc k) lt le = get_taken n xs ys k (omega arith) (omega arith)

module _ (old : List MappingPlan) (cs : List Continued) (ends : List ℕ) (seen : plans_behind [] cs ≡ old) (h : IsOrder cs ends) (i : ℕ) (c : Continued) (is : slice_get cs i ≡ Some c) where
  of : Found [] (plans_behind [] cs) i c
  of = found [] cs i c h.continued is

  long : length (take c.kept of.prior) ≡ c.kept
  long = length-take-le c.kept of.prior of.kept

  seen_next : (k j : ℕ) → next_step old (trail_at k j) ≡ next_step (plans_behind [] cs) (trail_at k j)
  seen_next k j = sym (ap (λ (ms : List MappingPlan). next_step ms (trail_at k j)) seen)

  -- a step of its own
  pub own_step : (k : ℕ) → c.kept ≤ k → slice_get c.own.steps (k - c.kept) ≡ next_step old (trail_at k i)
  own_step k le =
      sym (
      seen_next k i
      ∙ ap (option_and_then (λ (m : MappingPlan). slice_get m.steps k)) of.there
      ∙ get_behind (take c.kept of.prior) c.own.steps k (omega (arith, long, le))
      ∙ ap (λ n. slice_get c.own.steps (k - n)) long
      )

  -- there are few steps
  own_few : (k : ℕ) (s : StepPlan) → c.kept ≤ k → slice_get c.own.steps (k - c.kept) ≡ Some s → k + 1 < 2 ^ 64
  own_few k s le e = let lt = slice_get_within c.own.steps (k - c.kept) s e in let few = of.few in omega (arith, lt, few, le)

  pub few_steps : (k : ℕ) (r : Option StepPlan) → c.kept ≤ k → r ≡ slice_get c.own.steps (k - c.kept) → OnSome r (k + 1 < 2 ^ 64)
  few_steps k None le e = tt
  few_steps k (Some s) le e = own_few k s le (sym e)

  -- a step that the mapping before it has
  pub not_first : (k : ℕ) → k < c.kept → 0 < i
  not_first k lt = go i refl
    where
      go : (n : ℕ) → i ≡ n → 0 < i
      go zero e = let none = ap length (of.first e) in let kept = of.kept in absurd (omega (arith, none, kept, lt))
      go (suc n) e = omega (arith, e)

  pub prior_step : (k j : ℕ) → k < c.kept → i ≡ suc j → next_step old (trail_at k j) ≡ next_step old (trail_at k i)
  prior_step k j lt e =
      seen_next k j ∙ go (slice_get (plans_behind [] cs) j) refl
      ∙ sym (seen_next k i ∙ ap (option_and_then (λ (m : MappingPlan). slice_get m.steps k)) of.there ∙ get_taken c.kept of.prior c.own.steps k lt of.kept)
    where
      go : (p : Option MappingPlan) → slice_get (plans_behind [] cs) j ≡ p → next_step (plans_behind [] cs) (trail_at k j) ≡ slice_get of.prior k
      go None q = absurd (none-some of.prior (sym (ap (option_map (λ (m : MappingPlan). m.steps)) q) ∙ of.later j e))
      go (Some m) q =
          ap (option_and_then (λ (m : MappingPlan). slice_get m.steps k)) q
          ∙ ap (λ (ss : List StepPlan). slice_get ss k) (same_Some m.steps of.prior (sym (ap (option_map (λ (m : MappingPlan). m.steps)) q) ∙ of.later j e))

  -- whether it has so many steps, and who it is mapped to
  pub mapped_is : (k : ℕ) → (if k == c.kept + length c.own.steps then Some c.own.controller else None) ≡ mapped_at old (trail_at k i)
  mapped_is k =
      let size : c.kept + length c.own.steps ≡ length (take c.kept of.prior ++ c.own.steps) =
      sym (length-append (take c.kept of.prior) c.own.steps ∙ ap (λ n. n + length c.own.steps) long)
      in
      ap (λ n. if k == n then Some c.own.controller else None) size
      ∙ sym (sym (ap (λ (ms : List MappingPlan). mapped_at ms (trail_at k i)) seen) ∙ ap (option_and_then (λ (m : MappingPlan). if k == length m.steps then Some m.controller else None)) of.there)

  pub mapped_here : (k : ℕ) (b : Bool) → b ≡ true → b ≡ (k == c.kept + length c.own.steps) → Some c.own.controller ≡ mapped_at old (trail_at k i)
  mapped_here k b holds told = ap (λ (t : Bool). if t then Some c.own.controller else None) (sym holds ∙ told) ∙ mapped_is k

  pub mapped_on : (k : ℕ) (b : Bool) → b ≡ false → b ≡ (k == c.kept + length c.own.steps) → None ≡ mapped_at old (trail_at k i)
  mapped_on k b fails told = ap (λ (t : Bool). if t then Some c.own.controller else None) (sym fails ∙ told) ∙ mapped_is k

-- no mapping has this number
module _ (old : List MappingPlan) (cs : List Continued) (seen : plans_behind [] cs ≡ old) (i k : ℕ) (past : length cs ≤ i) where
  none_there : slice_get old i ≡ None
  none_there = slice_get_past old i (let size = ap length seen in omega (arith, past, size, count_of [] cs))

  pub none_mapped : None ≡ mapped_at old (trail_at k i)
  none_mapped = sym (ap (option_and_then (λ (m : MappingPlan). if k == length m.steps then Some m.controller else None)) none_there)

  pub none_next : None ≡ next_step old (trail_at k i)
  none_next = sym (ap (option_and_then (λ (m : MappingPlan). slice_get m.steps k)) none_there)

-- ---- by what is seen of the mappings
pub order_pushed : (old : List MappingPlan) (cs : List Continued) (ends : List ℕ) (c : Continued) → plans_behind [] cs ≡ old → IsOrder cs ends → c.kept ≤ length (last_steps [] old) → c.kept + length c.own.steps < 2 ^ 64
    → IsOrder (cs ++ c ∷ []) (ends ++ 0 ∷ [])
order_pushed old cs ends c seen h there few = order_on cs ends c h (subst (λ (ms : List MappingPlan). c.kept ≤ length (last_steps [] ms)) (sym seen) there) few

pub plans_pushed : (old : List MappingPlan) (cs : List Continued) (c : Continued) → plans_behind [] cs ≡ old → plans_behind [] (cs ++ c ∷ []) ≡ old ++ whole (last_steps [] old) c ∷ []
plans_pushed old cs c seen = plans_more [] cs c ∙ ap (λ (ms : List MappingPlan). ms ++ whole (last_steps [] ms) c ∷ []) seen

pub order_closed : (old : List MappingPlan) (cs : List Continued) (ends : List ℕ) (k e : ℕ) → plans_behind [] cs ≡ old → IsOrder cs ends → k < length old → EndsAlike old k e → IsOrder cs (set ends k e)
order_closed old cs ends k e seen h inside alike = record {
  continued = h.continued;
  ended = closed (plans_behind [] cs) ends k e h.ended (subst (λ (ms : List MappingPlan). k < length ms) (sym seen) inside) (subst (λ (ms : List MappingPlan). EndsAlike ms k e) (sym seen) alike);
}
