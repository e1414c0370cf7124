-- What is known of slots and their places before the tables are put together.
use Rattle.std.proofs.Common.{◌≡◌, ◌∙◌, ℕ, ◌≤◌, true, List, Bool, Option, Some, length, sym, ap, subst}
use Rattle.std.specs.Option.{MatchOption}
use Rattle.room_wiring.specs.Consistent.{IsConsistent}
use Rattle.room_wiring.specs.declared.slot.Partner.{Partner}
use Rattle.room_wiring.specs.declared.slot.Slot.{Slot}
use Rattle.room_wiring.specs.declared.tables.Tables.{Tables}
use Rattle.room_ast.specs.Trees.{ModelTree}
use Rattle.wiring_plan.specs.structure_plan.Plans.{plan_of}
use Rattle.wiring_plan.specs.declared.structure_plan.plan.StructurePlan.{StructurePlan}
use Rattle.wiring_places.specs.declared.place_rules.place.LayerJoin.{LayerJoin}
use Rattle.wiring_places.specs.declared.place_rules.place.Place.{Place}
use Rattle.wiring_places.specs.place_rules.Counts.{counts, spans_from}
use Rattle.wiring_places.specs.place_rules.Layers.{layer_joins}
use Rattle.wiring_places.specs.place_rules.Pairs.{lacks_place}
use Rattle.wiring_slots.specs.model_slots.Answers.{slots_in, wired}
use Rattle.wiring_slots.specs.declared.model_slots.slots.WiredSlots.{WiredSlots}
use Rattle.wiring_slots.proofs.wired_laws.Sound.{names_what_is}
use Rattle.wiring_joins.specs.joined_places.Wired.{counts_in, spans_in, places_in, partners_in, ArePlacesOf}
use Rattle.wiring_joins.specs.declared.joined_places.places.WiredPlaces.{WiredPlaces}
use Rattle.wiring_joins.proofs.joined_places.Counted.{places_counted, partners_counted}
use Rattle.wiring_joins.specs.tellings.Told.{SaysWhoIsTold}
use Rattle.binding_expand.specs.wiring_tables.Assembled.{assembled, AreComplete}
use Rattle.binding_expand.proofs.wiring_tables.Consistent.{assembled_consistent}
use Rattle.binding_expand.specs.Steps.{AreWired, Completes}

-- there are as many partners as places
pub same_count : (plan : StructurePlan) (slots : List Slot) (p : WiredPlaces) → ArePlacesOf plan slots p → length p.places.items ≡ length p.partners
same_count plan slots p are = ap length are.places ∙ places_counted plan slots ∙ sym (partners_counted plan slots) ∙ ap length (sym are.partners)

-- there are few controllers
pub few_controllers : (w : WiredSlots) → AreWired w → length w.controllers ≤ 255
few_controllers w are = subst (λ (x : WiredSlots). length x.controllers ≤ 255) (sym are.is) (names_what_is are.model are.known are.threads).few_controllers

-- there are few slots
pub few_slots : (w : WiredSlots) → AreWired w → length w.slots ≤ 4096
few_slots w are = subst (λ (x : WiredSlots). length x.slots ≤ 4096) (sym are.is) are.few

-- each place has a partner, and each slot an answer for each controller
complete : (m : ModelTree) (told : List (List Bool)) → SaysWhoIsTold (slots_in m) (places_in (plan_of m) (slots_in m)) (partners_in (plan_of m) (slots_in m)) (length (wired m).controllers) told
    → AreComplete (wired m) (layer_joins (plan_of m) (slots_in m)) (partners_in (plan_of m) (slots_in m)) told
unfolding counts_in
complete m told says = record { joined = partners_counted (plan_of m) (slots_in m); answered = says.answered; rows = says.rows }

-- the tables that are put together are consistent
pub put_together : (w : WiredSlots) (told : List (List Bool)) → AreWired w → SaysWhoIsTold w.slots (places_in w.plan w.slots) (partners_in w.plan w.slots) (length w.controllers) told
    → IsConsistent (assembled w (layer_joins w.plan w.slots) (partners_in w.plan w.slots) told)
put_together w told are says = subst P (sym are.is) of_model says
  where
    P : WiredSlots → Type 0
    P = λ x. SaysWhoIsTold x.slots (places_in x.plan x.slots) (partners_in x.plan x.slots) (length x.controllers) told → IsConsistent (assembled x (layer_joins x.plan x.slots) (partners_in x.plan x.slots) told)

    of_model : P (wired are.model)
    of_model = λ s. assembled_consistent are.model (layer_joins (plan_of are.model) (slots_in are.model)) (partners_in (plan_of are.model) (slots_in are.model)) told are.known are.threads are.few (complete are.model told s)

-- what is put together completes the slots
pub made : (w : WiredSlots) (p : WiredPlaces) (t : Tables) (slots : List Slot) (places : List Place) (partners : List Partner) (controllers : ℕ) (told : List (List Bool)) → ArePlacesOf w.plan w.slots p
    → slots ≡ w.slots → places ≡ p.places.items → partners ≡ p.partners → controllers ≡ length w.controllers → SaysWhoIsTold slots places partners controllers told
    → ((joins : List LayerJoin) → p.spans ≡ spans_from 0 (counts w.plan w.slots joins) → t ≡ assembled w joins p.partners told) → Completes w t
unfolding spans_in counts_in
made w p t slots places partners controllers told are slots_are places_are partners_are controllers_are says put =
    let joins = layer_joins w.plan w.slots in
    let with_slots = subst (λ (xs : List Slot). SaysWhoIsTold xs places partners controllers told) slots_are says in
    let with_places = subst (λ (xs : List Place). SaysWhoIsTold w.slots xs partners controllers told) (places_are ∙ are.places) with_slots in
    let with_partners = subst (λ (xs : List Partner). SaysWhoIsTold w.slots (places_in w.plan w.slots) xs controllers told) (partners_are ∙ are.partners) with_places in
    record {
      told = told;
      is = put joins are.spans ∙ ap (λ (ps : List Partner). assembled w joins ps told) are.partners;
      says = subst (λ (n : ℕ). SaysWhoIsTold w.slots (places_in w.plan w.slots) (partners_in w.plan w.slots) n told) controllers_are with_partners;
    }

pub consistent : (w : WiredSlots) (t : Tables) → AreWired w → Completes w t → IsConsistent t
consistent w t are c = subst IsConsistent (sym c.is) (put_together w c.told are c.says)

-- places that are found have as many partners
pub same_count_found : (plan : StructurePlan) (slots : List Slot) (o : Option WiredPlaces) (p : WiredPlaces) → o ≡ Some p → MatchOption o (lacks_place plan slots ≡ true) (λ q. ArePlacesOf plan slots q) → length p.places.items ≡ length p.partners
same_count_found plan slots o p is found = same_count plan slots p (subst P is found)
  where
    P : Option WiredPlaces → Type 0
    P = λ x. MatchOption x (lacks_place plan slots ≡ true) (λ q. ArePlacesOf plan slots q)
