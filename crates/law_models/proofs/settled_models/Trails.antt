-- Where all mappings end where they may, the container of an optional slot that another controller owns lives from the start.
use Rattle.std.proofs.Common.{◌≡◌, ◌∙◌, ℕ, zero, suc, ◌+◌, Bool, true, false, cond, List, [], ◌∷◌, ◌++◌, length, map, drop, Option, Some, None, slice_get, refl, sym, ap, subst, arith}
use Rattle.std.specs.Prelude.{◌==◌, ◌&&◌, ◌||◌, option_and_then, unwrap_or}
use Rattle.std.specs.List.{AllByRecursion as Each, enumerate_from, flat_map, range_with_len, filter_map, cons_option}
use Rattle.std.specs.Option.{option_map_or}
use Rattle.std.proofs.lemmas.Bool.{eqb-true, eq-eqb}
use Rattle.std.proofs.lemmas.Option.{same_Some}
use Rattle.room_kinds.specs.declared.numbers.ControllerId.{ControllerId}
use Rattle.room_kinds.specs.declared.numbers.SlotId.{SlotId}
use Rattle.room_kinds.specs.declared.structure.ReferenceKind.{ReferenceKind}
use Rattle.room_kinds.specs.declared.structure.ReferenceKind.TheVariants as kinds
use Rattle.room_kinds.specs.Structure.{is_imported}
use Rattle.check_mappings.specs.mapping_rules.Rules.{may_end_with}
use Rattle.check_mappings.specs.mapping_rules.Walks.{is_optional as is_walk_optional}
use Rattle.room_wiring.specs.Slots.{slot_at}
use Rattle.room_wiring.specs.declared.slot.Slot.{Slot}
use Rattle.room_wiring.specs.declared.tables.Tables.{Tables}
use Rattle.wiring_plan.specs.declared.structure_plan.plan.ReferencePlan.{ReferencePlan}
use Rattle.wiring_plan.specs.declared.structure_plan.plan.StructurePlan.{StructurePlan}
use Rattle.wiring_slots.specs.declared.slot_tree.names.MappingPlan.{MappingPlan}
use Rattle.wiring_slots.specs.declared.slot_tree.names.StepPlan.{StepPlan}
use Rattle.wiring_slots.specs.declared.slot_tree.names.ReferenceLabel.{ReferenceLabel}
use Rattle.wiring_slots.specs.declared.slot_tree.names.SlotNames.{SlotNames}
use Rattle.wiring_slots.specs.slot_tree.Orders.{in_order}
use Rattle.wiring_slots.specs.slot_tree.Owners.{index_fits, step_fits, stepped, goes_on, trails_at, mapped_at, owner_at}
use Rattle.wiring_slots.specs.slot_tree.Slots.{owner_of, pending_at, slots_of_reference, slots_of_references, above_in, labels_of_class, references_of_class, inside, subtree, top, top_slots, slots_of}
use Rattle.actor_duties.specs.Words.{is_optional_kind, is_fixed_kind, is_optional, is_fixed, container_number, container_of, owner_of as owner_in}
use Rattle.actor_world.specs.Start.{is_fixed_up, lives_from_start}
use Rattle.law_agreement.specs.Bodies.{OthersLiveFromStart}
use Rattle.law_models.proofs.settled_models.Types.{Trail, Above, Pending}
use Rattle.law_models.proofs.settled_models.Paths.{deeper, ends_well, EndsWell}

-- ---- trails

module _ (plan : StructurePlan) (mappings : List MappingPlan) where
  -- what is left of a trail ends where it may
  abbrev Goes : List ReferencePlan → Bool → Option ReferenceKind → Trail → Type 0
  Goes refs below kind t = (m : MappingPlan) → slice_get mappings t.mapping ≡ Some m → ends_well plan refs below kind (drop t.steps m.steps) ≡ true

  drop_at : {X : Type 0} (xs : List X) (i : ℕ) (x : X) → slice_get xs i ≡ Some x → drop i xs ≡ x ∷ drop (i + 1) xs
  drop_at [] i x e = absurd cc
  drop_at (y ∷ ys) zero x e = ap (λ z. z ∷ ys) (same_Some y x e)
  drop_at (y ∷ ys) (suc i) x e =
      let next : suc (i + 1) ≡ suc i + 1 = omega arith in
      subst (λ k. drop (suc i) (y ∷ ys) ≡ x ∷ drop k (y ∷ ys)) next (drop_at ys i x e)

  drop_all : {X : Type 0} (xs : List X) → drop (length xs) xs ≡ []
  drop_all [] = refl
  drop_all (x ∷ xs) = drop_all xs

  module _ (refs : List ReferencePlan) (below : Bool) (kind : Option ReferenceKind) (n i : ℕ) (r : ReferencePlan) (at : slice_get refs n ≡ Some r) where
    abbrev Next : Trail → Type 0
    Next = Goes (references_of_class plan r.class) (deeper below kind) (Some r.kind)

    -- a trail that goes on with a reference leads on to where it may end
    goes_next : (t u : Trail) → Goes refs below kind t → goes_on mappings n i t ≡ Some u → Next u
    goes_next t u goes e = by_mapping (slice_get mappings t.mapping) refl e
      where
        fits : (m : MappingPlan) → slice_get mappings t.mapping ≡ Some m → (s : StepPlan) → slice_get m.steps t.steps ≡ Some s → (b : Bool) → step_fits s n i ≡ b
            → cond b (Some (record { mapping = t.mapping; steps = t.steps + 1 })) None ≡ Some u → Next u
        fits m here s step false f k = absurd cc
        fits m here s step true f k =
            let is : s.reference ≡ n = eqb-true s.reference n (first_true (s.reference == n) (index_fits s.index i) f) in
            let all = goes m here in
            let on : ends_well plan refs below kind (s ∷ drop (t.steps + 1) m.steps) ≡ true = ap (ends_well plan refs below kind) (sym (drop_at m.steps t.steps s step)) ∙ all in
            let found : slice_get refs s.reference ≡ Some r = ap (slice_get refs) is ∙ at in
            let left : ends_well plan (references_of_class plan r.class) (deeper below kind) (Some r.kind) (drop (t.steps + 1) m.steps) ≡ true =
            ap (λ (o : Option ReferencePlan). option_map_or (λ (x : ReferencePlan). ends_well plan (references_of_class plan x.class) (deeper below kind) (Some x.kind) (drop (t.steps + 1) m.steps)) o true) (sym found) ∙ on in
            subst Next (same_Some (record { mapping = t.mapping; steps = t.steps + 1 }) u k)
            (λ m' e'. subst (λ (z : MappingPlan). ends_well plan (references_of_class plan r.class) (deeper below kind) (Some r.kind) (drop (t.steps + 1) z.steps) ≡ true) (same_Some m m' (sym here ∙ e')) left)
          where
            first_true : (a b : Bool) → (a && b) ≡ true → a ≡ true
            first_true true b h = refl
            first_true false b h = absurd cc

        by_step : (m : MappingPlan) → slice_get mappings t.mapping ≡ Some m → (o : Option StepPlan) → slice_get m.steps t.steps ≡ o → option_and_then (stepped t n i) o ≡ Some u → Next u
        by_step m here None step k = absurd cc
        by_step m here (Some s) step k = fits m here s step (step_fits s n i) refl k

        by_mapping : (o : Option MappingPlan) → slice_get mappings t.mapping ≡ o → option_and_then (stepped t n i) (option_and_then (λ (m : MappingPlan). slice_get m.steps t.steps) o) ≡ Some u → Next u
        by_mapping None here k = absurd cc
        by_mapping (Some m) here k = by_step m here (slice_get m.steps t.steps) refl k

    first_and_all : (o : Option Trail) (us : List Trail) → ((u : Trail) → o ≡ Some u → Next u) → Each Next us → Each Next (cons_option o us)
    first_and_all None us one h = h
    first_and_all (Some u) us one h = (one u refl, h)

    pub all_next : (ts : List Trail) → Each (Goes refs below kind) ts → Each Next (trails_at mappings n i ts)
    unfolding trails_at
    all_next [] h = tt
    all_next (t ∷ ts) h = first_and_all (goes_on mappings n i t) (filter_map (goes_on mappings n i) ts) (λ u e. goes_next t u h.0 e) (all_next ts h.1)

    -- below an optional reference no trail ends at an optional one
    none_mapped : deeper below kind ≡ true → r.kind ≡ kinds.Optional → (t : Trail) → Next t → mapped_at mappings t ≡ None
    none_mapped deep optional t next = by_mapping (slice_get mappings t.mapping) refl
      where
        by_end : (m : MappingPlan) → slice_get mappings t.mapping ≡ Some m → (b : Bool) → (t.steps == length m.steps) ≡ b → cond b (Some m.controller) None ≡ None
        by_end m here false e = refl
        by_end m here true e =
            let over : drop t.steps m.steps ≡ [] = ap (λ k. drop k m.steps) (eqb-true t.steps (length m.steps) e) ∙ drop_all m.steps in
            let may : ends_well plan (references_of_class plan r.class) (deeper below kind) (Some r.kind) [] ≡ true =
            ap (ends_well plan (references_of_class plan r.class) (deeper below kind) (Some r.kind)) (sym over) ∙ next m here in
            let never : false ≡ true = ap (λ (b : Bool). may_end_with b kinds.Optional) (sym deep) ∙ ap (may_end_with (deeper below kind)) (sym optional) ∙ may in
            absurd cc

        by_mapping : (o : Option MappingPlan) → slice_get mappings t.mapping ≡ o → option_and_then (λ (m : MappingPlan). cond (t.steps == length m.steps) (Some m.controller) None) o ≡ None
        by_mapping None here = refl
        by_mapping (Some m) here = by_end m here (t.steps == length m.steps) refl

    -- and so it is owned by its container's controller
    owner_kept : deeper below kind ≡ true → r.kind ≡ kinds.Optional → (o : ControllerId) (ts : List Trail) → Each Next ts → owner_at mappings o ts ≡ o
    owner_kept deep optional o [] h = refl
    owner_kept deep optional o (t ∷ ts) h =
        ap (λ (z : Option ControllerId). owner_at mappings (unwrap_or z o) ts) (none_mapped deep optional t h.0) ∙ owner_kept deep optional o ts h.1

-- ---- slots

-- these slots have the numbers from n on
abbrev pub Stand : Tables → ℕ → List Slot → Type 0
Stand t n [] = Unit {0}
Stand t n (x ∷ xs) = (slot_at t n ≡ Some x) × Stand t (n + 1) xs

pub all_stand : (t : Tables) (n : ℕ) (xs : List Slot) → ((i : ℕ) → slot_at t (n + i) ≡ slice_get xs i) → Stand t n xs
all_stand t n [] h = tt
all_stand t n (x ∷ xs) h =
    (subst (λ k. slot_at t k ≡ Some x) (omega arith) (h 0), all_stand t (n + 1) xs (λ i. subst (λ k. slot_at t k ≡ slice_get xs i) (omega arith) (h (suc i))))

pub stand_both : (t : Tables) (n : ℕ) (xs ys : List Slot) → Stand t n (xs ++ ys) → Stand t n xs × Stand t (n + length xs) ys
stand_both t n [] ys h = (tt, subst (λ k. Stand t k ys) (omega arith) h)
stand_both t n (x ∷ xs) ys h =
    let rest = stand_both t (n + 1) xs ys h.1 in
    ((h.0, rest.0), subst (λ k. Stand t k ys) (omega arith) rest.1)

-- a slot is fixed, and so is all above
abbrev Clear : Tables → ℕ → Type 0
Clear t s = (up : ℕ) → is_fixed_up t up s ≡ true

-- where this is an optional slot, its container has the same owner, or lives from the start
abbrev Good : Tables → Slot → Type 0
Good t x = is_optional_kind x.kind ≡ true → (c : ℕ) → container_number x ≡ Some c → (owner_in t c == x.owner.0) ≡ false → lives_from_start t c ≡ true

-- the number of what is above
abbrev pub number_above : Above → Option ℕ
number_above above = option_map_or (λ (s : SlotId). Some s.0) above.parent None

module _ (t : Tables) (plan : StructurePlan) (names : SlotNames) (mappings : List MappingPlan) where
  -- what is known of what slots have from their container: its references, whether one above it is optional, and its kind
  record Over (above : Above) (refs : List ReferencePlan) (below : Bool) (kind : Option ReferenceKind) : Type 0 where
    trails : Each (Goes plan mappings refs below kind) above.trails
    owned : (c : ℕ) → number_above above ≡ Some c → owner_in t c ≡ above.owner.0
    clear : deeper below kind ≡ false → (c : ℕ) → number_above above ≡ Some c → Clear t c

  -- what is known of a slot that waits
  record Waits (p : Pending) : Type 0 where
    below : Bool
    trails : Each (Goes plan mappings (references_of_class plan p.slot.class) below (Some p.slot.kind)) p.trails
    clear : below ≡ false → (c : ℕ) → container_number p.slot ≡ Some c → Clear t c
    good : Good t p.slot

  module _ (above : Above) (labels : List ReferenceLabel) (refs : List ReferencePlan) (below : Bool) (kind : Option ReferenceKind) (over : Over above refs below kind) where
    one_waits : (n : ℕ) (r : ReferencePlan) (i : ℕ) → slice_get refs n ≡ Some r → Waits (pending_at mappings above labels n r i)
    unfolding pending_at lives_from_start
    one_waits n r i at =
        let ts = trails_at mappings n i above.trails in
        let next = all_next plan mappings refs below kind n i r at above.trails over.trails in
        record { below = deeper below kind; trails = next; clear = over.clear; good = λ optional c is other. by_depth (deeper below kind) refl (optional_is r.kind optional) c is other }
      where
        optional_is : (k : ReferenceKind) → is_optional_kind k ≡ true → k ≡ kinds.Optional
        optional_is kinds.Fixed h = absurd cc
        optional_is kinds.Optional h = refl
        optional_is kinds.Imported h = absurd cc

        by_depth : (b : Bool) → deeper below kind ≡ b → r.kind ≡ kinds.Optional → (c : ℕ) → number_above above ≡ Some c
            → (owner_in t c == (owner_of mappings above.owner r.kind (trails_at mappings n i above.trails)).0) ≡ false → lives_from_start t c ≡ true
        by_depth false deep optional c is other = over.clear deep c is (length t.slots)
        by_depth true deep optional c is other =
            let next = all_next plan mappings refs below kind n i r at above.trails over.trails in
            let kept : owner_of mappings above.owner r.kind (trails_at mappings n i above.trails) ≡ above.owner =
            ap (λ k. owner_of mappings above.owner k (trails_at mappings n i above.trails)) optional
            ∙ owner_kept plan mappings refs below kind n i r at deep optional above.owner (trails_at mappings n i above.trails) next in
            let same : owner_in t c ≡ (owner_of mappings above.owner r.kind (trails_at mappings n i above.trails)).0 = over.owned c is ∙ ap (λ (o : ControllerId). o.0) (sym kept) in
            let never : true ≡ false = sym (eq-eqb (owner_in t c) (owner_of mappings above.owner r.kind (trails_at mappings n i above.trails)).0 same) ∙ other in
            absurd cc

    indexes_wait : (n : ℕ) (r : ReferencePlan) → slice_get refs n ≡ Some r → (i k : ℕ) → Each Waits (map (pending_at mappings above labels n r) (range_with_len i k))
    indexes_wait n r at i zero = tt
    indexes_wait n r at i (suc k) = (one_waits n r i at, indexes_wait n r at (i + 1) k)

    each_both : (ps qs : List Pending) → Each Waits ps → Each Waits qs → Each Waits (ps ++ qs)
    each_both [] qs h k = k
    each_both (p ∷ ps) qs h k = (h.0, each_both ps qs h.1 k)

    references_wait : (j : ℕ) (rs : List ReferencePlan) → ((i : ℕ) (r : ReferencePlan) → slice_get rs i ≡ Some r → slice_get refs (j + i) ≡ Some r)
        → Each Waits (flat_map (slots_of_reference mappings above labels) (enumerate_from j rs))
    references_wait j [] at = tt
    references_wait j (r ∷ rs) at =
        each_both (slots_of_reference mappings above labels (j, r)) (flat_map (slots_of_reference mappings above labels) (enumerate_from (j + 1) rs))
        (indexes_wait j r (subst (λ k. slice_get refs k ≡ Some r) (omega arith) (at 0 r refl)) 0 r.count)
        (references_wait (j + 1) rs (λ i x e. subst (λ k. slice_get refs k ≡ Some x) (omega arith) (at (suc i) x e)))

    all_wait : Each Waits (slots_of_references mappings above labels refs)
    unfolding slots_of_references
    all_wait = references_wait 0 refs (λ i r e. subst (λ k. slice_get refs k ≡ Some r) (omega arith) e)

  -- what is inside a slot waits
  inside_waits : (d n : ℕ) (p : Pending) → slot_at t n ≡ Some p.slot → Waits p → Each Waits (inside plan names mappings d n p)
  unfolding owner_in is_fixed container_of
  inside_waits d n p at h = by_kind p.slot.kind refl
    where
      in_slot : is_imported p.slot.kind ≡ false → (deeper h.below (Some p.slot.kind) ≡ false → Clear t n) → Each Waits (inside plan names mappings d n p)
      in_slot own clear =
          subst (λ b. Each Waits (cond b [] (slots_of_references mappings (above_in d n p) (labels_of_class names p.slot.class) (references_of_class plan p.slot.class)))) (sym own)
          (all_wait (above_in d n p) (labels_of_class names p.slot.class) (references_of_class plan p.slot.class) h.below (Some p.slot.kind) (record {
            trails = h.trails;
            owned = owned;
            clear = λ deep c is. subst (Clear t) (same_Some n c is) (clear deep);
          }))
        where
          owned : (c : ℕ) → Some n ≡ Some c → owner_in t c ≡ p.slot.owner.0
          owned c is = subst (λ k. option_map_or (λ (x : Slot). x.owner.0) (slot_at t k) 0 ≡ p.slot.owner.0) (same_Some n c is) (ap (λ (o : Option Slot). option_map_or (λ (x : Slot). x.owner.0) o 0) at)

      fixed : p.slot.kind ≡ kinds.Fixed → is_fixed t n ≡ true
      fixed k = ap (λ (o : Option Slot). option_map_or (λ (x : Slot). is_fixed_kind x.kind) o false) at ∙ ap is_fixed_kind k

      container : container_of t n ≡ container_number p.slot
      container = ap (option_and_then container_number) at

      clear_up : p.slot.kind ≡ kinds.Fixed → h.below ≡ false → Clear t n
      clear_up k b zero = fixed k
      clear_up k b (suc up) = both (is_fixed t n) (fixed k) (container_number p.slot) container (h.clear b)
        where
          both : (f : Bool) → f ≡ true → (o : Option ℕ) → container_of t n ≡ o → ((c : ℕ) → o ≡ Some c → Clear t c) → (f && option_map_or (λ c. is_fixed_up t up c) (container_of t n) true) ≡ true
          both false e o is all = absurd cc
          both true e None is all = ap (λ (z : Option ℕ). option_map_or (λ c. is_fixed_up t up c) z true) is
          both true e (Some c) is all = ap (λ (z : Option ℕ). option_map_or (λ c. is_fixed_up t up c) z true) is ∙ all c refl up

      not_deep : (a b : Bool) → (a || b) ≡ false → a ≡ false
      not_deep false b e = refl
      not_deep true b e = absurd cc

      by_kind : (k : ReferenceKind) → p.slot.kind ≡ k → Each Waits (inside plan names mappings d n p)
      by_kind kinds.Fixed e = in_slot (ap is_imported e) (λ deep. clear_up e (not_deep h.below (is_walk_optional p.slot.kind) deep))
      by_kind kinds.Optional e = in_slot (ap is_imported e) (λ deep. never (not_below h.below (is_walk_optional p.slot.kind) deep) (ap is_walk_optional e))
        where
          not_below : (a b : Bool) → (a || b) ≡ false → b ≡ false
          not_below false b e = e
          not_below true b e = absurd cc

          never : is_walk_optional p.slot.kind ≡ false → is_walk_optional p.slot.kind ≡ true → Clear t n
          never a b = let not : false ≡ true = sym a ∙ b in absurd cc
      by_kind kinds.Imported e =
          subst (λ b. Each Waits (cond b [] (slots_of_references mappings (above_in d n p) (labels_of_class names p.slot.class) (references_of_class plan p.slot.class)))) (sym (ap is_imported e)) tt

  good_both : (xs ys : List Slot) → Each (Good t) xs → Each (Good t) ys → Each (Good t) (xs ++ ys)
  good_both [] ys h k = k
  good_both (x ∷ xs) ys h k = (h.0, good_both xs ys h.1 k)

  order_good : (make : ℕ → Pending → List Slot) → ((n : ℕ) (p : Pending) → Waits p → Stand t n (make n p) → Each (Good t) (make n p))
      → (n : ℕ) (ps : List Pending) → Each Waits ps → Stand t n (in_order make n ps) → Each (Good t) (in_order make n ps)
  order_good make one n [] h at = tt
  order_good make one n (p ∷ ps) h at =
      let next = n + length (make n p) in
      let split = stand_both t n (make n p) (in_order make next ps) at in
      good_both (make n p) (in_order make next ps) (one n p h.0 split.0) (order_good make one next ps h.1 split.1)

  subtree_good : (d n : ℕ) (p : Pending) → Waits p → Stand t n (subtree plan names mappings d n p) → Each (Good t) (subtree plan names mappings d n p)
  subtree_good zero n p h at = (h.good, tt)
  subtree_good (suc d) n p h at =
      (h.good, order_good (subtree plan names mappings d) (λ k q w s. subtree_good d k q w s) (n + 1) (inside plan names mappings d n p) (inside_waits d n p at.0 h) at.1)

  -- where each mapping ends where it may, and the tables have these slots
  module _ (same : t.slots ≡ slots_of plan names mappings) (well : Each (EndsWell plan) mappings) where
    at_place : (ms : List MappingPlan) (i : ℕ) (m : MappingPlan) → Each (EndsWell plan) ms → slice_get ms i ≡ Some m → EndsWell plan m
    at_place [] i m h e = absurd cc
    at_place (x ∷ xs) zero m h e = subst (EndsWell plan) (same_Some x m e) h.0
    at_place (x ∷ xs) (suc i) m h e = at_place xs i m h.1 e

    abbrev first_of : ℕ → Trail
    first_of j = record { mapping = j; steps = 0 }

    tops_go : (i k : ℕ) → Each (Goes plan mappings plan.subsystem.references false None) (map first_of (range_with_len i k))
    tops_go i zero = tt
    tops_go i (suc k) = (λ m e. at_place mappings i m well e, tops_go (i + 1) k)

    over_top : Over (top plan mappings) plan.subsystem.references false None
    over_top = record { trails = tops_go 0 (length mappings); owned = λ c is. absurd cc; clear = λ deep c is. absurd cc }

    all_good : Each (Good t) t.slots
    unfolding slots_of
    all_good =
        subst (Each (Good t)) (sym same)
        (order_good (subtree plan names mappings (length plan.classes)) (λ n p w s. subtree_good (length plan.classes) n p w s) 0 (top_slots plan names mappings)
        (all_wait (top plan mappings) names.subsystem plan.subsystem.references false None over_top)
        (all_stand t 0 (slots_of plan names mappings) (λ i. subst (λ k. slot_at t k ≡ slice_get (slots_of plan names mappings) i) (omega arith) (ap (λ l. slice_get l i) same))))

    good_at : (xs : List Slot) (i : ℕ) (x : Slot) → Each (Good t) xs → slice_get xs i ≡ Some x → Good t x
    good_at [] i x h e = absurd cc
    good_at (y ∷ ys) zero x h e = subst (Good t) (same_Some y x e) h.0
    good_at (y ∷ ys) (suc i) x h e = good_at ys i x h.1 e

    pub others_live : OthersLiveFromStart t
    unfolding is_optional container_of owner_in
    others_live s c = by_slot (slot_at t s) refl
      where
        by_slot : (o : Option Slot) → slot_at t s ≡ o → is_optional t s ≡ true → container_of t s ≡ Some c → (owner_in t c == owner_in t s) ≡ false → lives_from_start t c ≡ true
        by_slot None at optional is other =
            let none : false ≡ true = ap (λ (o : Option Slot). option_map_or (λ (x : Slot). is_optional_kind x.kind) o false) (sym at) ∙ optional in
            absurd cc
        by_slot (Some x) at optional is other =
            good_at t.slots s x all_good at
            (ap (λ (o : Option Slot). option_map_or (λ (x : Slot). is_optional_kind x.kind) o false) (sym at) ∙ optional)
            c
            (ap (option_and_then container_number) (sym at) ∙ is)
            (ap (λ (o : Option Slot). owner_in t c == option_map_or (λ (x : Slot). x.owner.0) o 0) (sym at) ∙ other)
