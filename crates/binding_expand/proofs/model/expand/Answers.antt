use Rattle.std.proofs.Common.{subst, sym}
use Rattle.std.proofs.lemmas.Result.{err_from_is_err_and}
use Rattle.room_ast.specs.Trees.{model_view}
use Rattle.structure_check.proofs.KeptRules.{all_few}
use Rattle.wiring_places.specs.place_rules.Parts.{HasFewPorts}
use Rattle.wiring_slots.specs.declared.model_slots.slots.WiredSlots.{WiredSlots}
use Rattle.binding_expand.proofs.FewPorts.{has_few_ports}
use Rattle.binding_expand.proofs.Whole.{are_wired, places_few, slots_refused, places_told, wiring_told, fits_told}
use Rattle.binding_expand.proofs.model.expand.Goals as goal

pub returns-in_err-slots-clause-expands : goal.returns-in_err-slots-clause-expands
returns-in_err-slots-clause-expands c =
    let p = err_from_is_err_and c.from_residual.result c.from_residual.ensures.1 in
    rw (p.1, p.2) (slots_refused (model_view c.args.checked.now.model.now) c.requires c.in_err-slots.field-0.0 c.in_err-slots.ensures)

pub joined_places-requires-clause-ports : goal.joined_places-requires-clause-ports
joined_places-requires-clause-ports c =
    let m = model_view c.args.checked.now.model.now in
    subst (λ (w : WiredSlots). HasFewPorts w.plan) (sym c.in_ok-slots.ensures.0) (has_few_ports m (all_few m c.requires))

pub joined_places-requires-clause-places : goal.joined_places-requires-clause-places
joined_places-requires-clause-places c =
    places_few (model_view c.args.checked.now.model.now) c.requires c.in_ok-slots.slots c.as_slice.result.now c.in_ok-slots.ensures c.as_slice.ensures

pub returns-in_err-places-clause-expands : goal.returns-in_err-places-clause-expands
returns-in_err-places-clause-expands c =
    let p = err_from_is_err_and c.from_residual-in_err-places.result c.from_residual-in_err-places.ensures.1 in
    rw (p.1, p.2) (places_told (model_view c.args.checked.now.model.now) c.requires c.in_ok-slots.slots c.as_slice.result.now c.in_err-places.field-0.0 c.in_ok-slots.ensures c.as_slice.ensures c.in_err-places.ensures)

pub wiring_with-requires-clause-wired : goal.wiring_with-requires-clause-wired
wiring_with-requires-clause-wired c = are_wired (model_view c.args.checked.now.model.now) c.requires c.in_ok-slots.slots c.in_ok-slots.ensures

pub returns-clause-expands : goal.returns-clause-expands
returns-clause-expands c =
    wiring_told (model_view c.args.checked.now.model.now) c.requires c.in_ok-slots.slots c.as_slice.result.now c.in_ok-places.places c.in_ok-wiring.wiring c.in_ok-slots.ensures c.as_slice.ensures c.in_ok-places.ensures
    c.in_ok-wiring.ensures

pub returns-clause-fits : goal.returns-clause-fits
returns-clause-fits c = fits_told (model_view c.args.checked.now.model.now) c.requires c.in_ok-wiring.wiring (returns-clause-expands c)
