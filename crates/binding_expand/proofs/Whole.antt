-- The wiring of a model, or its lowest fault.
use Rattle.std.proofs.Common.{◌≡◌, ◌∙◌, ℕ, ◌<◌, ◌≤◌, true, false, List, length, Ok, Err, None, refl, sym, subst, arith}
use Rattle.room_ast.specs.Trees.{ModelTree}
use Rattle.room_wiring.specs.declared.slot.Slot.{Slot}
use Rattle.room_wiring.specs.declared.tables.Tables.{Tables}
use Rattle.structure_check.specs.List.{all_rules}
use Rattle.structure_check.specs.Rules.{first_broken}
use Rattle.structure_check.proofs.KeptRules.{all_few}
use Rattle.wiring_plan.specs.structure_plan.Plans.{plan_of}
use Rattle.wiring_slots.specs.slot_tree.Places.{has_too_many_places}
use Rattle.wiring_slots.specs.model_slots.Answers.{slots_in, wired}
use Rattle.wiring_slots.specs.declared.model_slots.slots.WiredSlots.{WiredSlots}
use Rattle.wiring_places.specs.place_rules.Pairs.{lacks_place}
use Rattle.wiring_joins.specs.place_joins.Joined.{ShowsJoins}
use Rattle.binding_expand.proofs.FewPorts.{has_few_ports}
use Rattle.binding_expand.proofs.pair_laws.Models.{model_slots, model_paired_once}
use Rattle.wiring_joins.specs.joined_places.Wired.{counts_in, spans_in, places_in, pairs_in, partners_by, partners_in, HasSoundPairs, HasFewPlaces}
use Rattle.wiring_joins.proofs.joined_places.Counted.{places_counted, partners_counted}
use Rattle.wiring_joins.proofs.joined_places.Shown.{pairs_shown}
use Rattle.wiring_joins.proofs.place_bounds.Totals.{has_few_places}
use Rattle.wiring_joins.specs.declared.joined_places.places.WiredPlaces.{WiredPlaces}
use Rattle.wiring_joins.proofs.join_laws.Found.{sockets_found, no_sockets, away_found, none_away}
use Rattle.wiring_joins.proofs.join_laws.Looks.{relay_told}
use Rattle.binding_expand.specs.Wirings.{places_of, pairs_of, ArePartnersOf, IsWiringOf}
use Rattle.binding_expand.specs.Faults.{number, HasFault, HasNoFault}
use Rattle.binding_expand.specs.Answers.{Expands, Fits}
use Rattle.binding_expand.specs.Steps.{AreWired, FindsSlots, FindsPlaces, Completes, pairs_sockets, joins_away}
use Rattle.binding_expand.specs.declared.fault.WiringFault.{WiringFault}
use Rattle.binding_expand.specs.declared.fault.WiringFault.TheVariants as wiring_faults
use Rattle.binding_expand.specs.declared.fault.ExpandFault.{ExpandFault}
use Rattle.binding_expand.specs.declared.fault.ExpandFault.TheVariants as faults
use Rattle.binding_expand.proofs.Kept.{known, finite, layers, few_threads}

module _ (m : ModelTree) (keeps : first_broken all_rules m ≡ None) where
  sound : HasSoundPairs (plan_of m) (slots_in m)
  unfolding counts_in spans_in places_in pairs_in
  sound = let once = model_paired_once m (known m keeps) (finite m keeps) (layers m keeps) (all_few m keeps) in record { matching = once.0; below = once.1; inner = once.2 }

  shows : ShowsJoins (places_of m) (pairs_of m) (partners_in (plan_of m) (slots_in m))
  shows = pairs_shown (plan_of m) (slots_in m) sound

  partners_are : ArePartnersOf (places_of m) (pairs_of m) (partners_in (plan_of m) (slots_in m))
  unfolding partners_by
  partners_are = record {
    complete = partners_counted (plan_of m) (slots_in m) ∙ sym (places_counted (plan_of m) (slots_in m));
    joined = shows;
    relays = λ i x e relay. relay_told (places_of m) _ i x e relay;
  }

  of_model : (t : Tables) → Completes (wired m) t → IsWiringOf m t
  unfolding counts_in spans_in
  of_model t c = subst (IsWiringOf m) (sym c.is) (record { slots = refl; controllers = refl; classes = refl; first_ports = refl; ports = refl; partners = partners_are; told = c.says })

  -- ---- faults

  -- none of the faults below a number, where each such test fails
  lower_free : (k : ℕ) → (1 < k → length (slots_in m) ≤ 4096) → (2 < k → has_too_many_places (plan_of m) (slots_in m) ≡ false) → (3 < k → lacks_place (plan_of m) (slots_in m) ≡ false)
      → (4 < k → pairs_sockets (plan_of m) (slots_in m) ≡ false) → (5 < k → joins_away (plan_of m) (slots_in m) ≡ false) → (lower : WiringFault) → number lower < k → HasFault m lower → ⊥
  lower_free k few places lacks sockets away wiring_faults.TooManySlots lt has = let h = few lt in omega arith
  lower_free k few places lacks sockets away wiring_faults.TooManyPlaces lt has = let no : true ≡ false = sym has ∙ places lt in cc
  lower_free k few places lacks sockets away wiring_faults.NoFreePlace lt has = let no : true ≡ false = sym has ∙ lacks lt in cc
  lower_free k few places lacks sockets away wiring_faults.SocketPair lt has = no_sockets (places_of m) (pairs_of m) (partners_in (plan_of m) (slots_in m)) shows (sockets lt) has
  lower_free k few places lacks sockets away wiring_faults.SocketAway lt has = none_away (places_of m) (pairs_of m) (partners_in (plan_of m) (slots_in m)) shows (slots_in m) (away lt) has

  pub slots_refused : (e : ExpandFault) → FindsSlots m (Err e) → Expands m (Err e)
  slots_refused (faults.Wiring wiring_faults.TooManySlots) h = record { has = h; lowest = lower_free 1 (λ lt. absurd (omega arith)) (λ lt. absurd (omega arith)) (λ lt. absurd (omega arith)) (λ lt. absurd (omega arith)) (λ lt. absurd (omega arith)) }
  slots_refused (faults.Wiring wiring_faults.TooManyPlaces) h = record { has = h.1; lowest = lower_free 2 (λ lt. h.0) (λ lt. absurd (omega arith)) (λ lt. absurd (omega arith)) (λ lt. absurd (omega arith)) (λ lt. absurd (omega arith)) }
  slots_refused (faults.Wiring wiring_faults.NoFreePlace) h = absurd h
  slots_refused (faults.Wiring wiring_faults.SocketPair) h = absurd h
  slots_refused (faults.Wiring wiring_faults.SocketAway) h = absurd h
  slots_refused faults.Memory h = tt

  module _ (few : length (slots_in m) ≤ 4096) (places : has_too_many_places (plan_of m) (slots_in m) ≡ false) where
    places_refused : (e : ExpandFault) → FindsPlaces (plan_of m) (slots_in m) (Err e) → Expands m (Err e)
    places_refused (faults.Wiring wiring_faults.TooManySlots) h = absurd h
    places_refused (faults.Wiring wiring_faults.TooManyPlaces) h = absurd h
    places_refused (faults.Wiring wiring_faults.NoFreePlace) h = record { has = h; lowest = lower_free 3 (λ lt. few) (λ lt. places) (λ lt. absurd (omega arith)) (λ lt. absurd (omega arith)) (λ lt. absurd (omega arith)) }
    places_refused (faults.Wiring wiring_faults.SocketPair) h = record {
      has = sockets_found (places_of m) (pairs_of m) (partners_in (plan_of m) (slots_in m)) shows h.1;
      lowest = lower_free 4 (λ lt. few) (λ lt. places) (λ lt. h.0) (λ lt. absurd (omega arith)) (λ lt. absurd (omega arith));
    }
    places_refused (faults.Wiring wiring_faults.SocketAway) h = record {
      has = away_found (places_of m) (pairs_of m) (partners_in (plan_of m) (slots_in m)) shows (slots_in m) h.2;
      lowest = lower_free 5 (λ lt. few) (λ lt. places) (λ lt. h.0) (λ lt. h.1) (λ lt. absurd (omega arith));
    }
    places_refused faults.Memory h = tt

    faultless : (p : WiredPlaces) → FindsPlaces (plan_of m) (slots_in m) (Ok p) → HasNoFault m
    faultless p h = λ fault has. lower_free 6 (λ lt. few) (λ lt. places) (λ lt. h.0.pairing) (λ lt. h.1) (λ lt. h.2) fault (below_six fault) has
      where
        below_six : (fault : WiringFault) → number fault < 6
        below_six wiring_faults.TooManySlots = omega arith
        below_six wiring_faults.TooManyPlaces = omega arith
        below_six wiring_faults.NoFreePlace = omega arith
        below_six wiring_faults.SocketPair = omega arith
        below_six wiring_faults.SocketAway = omega arith

  -- ---- the whole

  -- slots of the model are sound
  pub are_wired : (w : WiredSlots) → FindsSlots m (Ok w) → AreWired w
  are_wired w h = record { model = m; known = known m keeps; threads = few_threads m keeps; is = h.0; few = h.1 }

  -- within the limits the model has few places
  pub places_few : (w : WiredSlots) (slots : List Slot) → FindsSlots m (Ok w) → slots ≡ w.slots → HasFewPlaces w.plan slots
  places_few w slots h same =
      let few : HasFewPlaces (plan_of m) (slots_in m) = has_few_places (plan_of m) (slots_in m) (model_slots m (known m keeps) (finite m keeps) (layers m keeps) (all_few m keeps)) (has_few_ports m (all_few m keeps)) h.2 h.1 sound.below in
      subst (λ (xs : List Slot). HasFewPlaces w.plan xs) (sym same) (subst (λ (x : WiredSlots). HasFewPlaces x.plan x.slots) (sym h.0) few)

  pub places_told : (w : WiredSlots) (slots : List Slot) (e : ExpandFault) → FindsSlots m (Ok w) → slots ≡ w.slots → FindsPlaces w.plan slots (Err e) → Expands m (Err e)
  places_told w slots e h same f = places_refused h.1 h.2 e (subst (λ (x : WiredSlots). FindsPlaces x.plan x.slots (Err e)) h.0 (subst (λ (xs : List Slot). FindsPlaces w.plan xs (Err e)) same f))

  pub wiring_told : (w : WiredSlots) (slots : List Slot) (p : WiredPlaces) (t : Tables) → FindsSlots m (Ok w) → slots ≡ w.slots → FindsPlaces w.plan slots (Ok p) → Completes w t → Expands m (Ok t)
  wiring_told w slots p t h same f c =
      let found = subst (λ (xs : List Slot). FindsPlaces w.plan xs (Ok p)) same f in
      (of_model t (subst (λ (x : WiredSlots). Completes x t) h.0 c), faultless h.1 h.2 p (subst (λ (x : WiredSlots). FindsPlaces x.plan x.slots (Ok p)) h.0 found))

  -- a wiring that is answered fits
  pub fits_told : (t : Tables) → Expands m (Ok t) → Fits t
  fits_told t h = record { model = m; keeps = keeps; faultless = h.1; wiring = h.0 }
