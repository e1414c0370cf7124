use Rattle.std.proofs.Common.{◌∙◌, ℕ, List, [], Some, ap}
use Rattle.std.specs.List.{flat_map}
use Rattle.wiring_slots.specs.slot_names.Names.{controllers_of}
use Rattle.wiring_slots.specs.slot_names.Ways.{item_mappings}
use Rattle.wiring_slots.specs.slot_names.Wireds.{wired_view}
use Rattle.wiring_slots.proofs.slot_names.Tops.{same_names}
use Rattle.wiring_slots.proofs.slot_names.names.names_with.Goals as goal

pub returns : goal.returns
returns c =
    let actors = c.args.actors.now in
    let w = wired_view c.args.wired in
    same_names actors w c.from.result c.in_ok-subsystem.subsystem c.in_ok-mappings.mappings c.from-2.result (c.from.ensures ∙ c.in_ok-classes.ensures) c.in_ok-subsystem.ensures
    (c.in_ok-mappings.ensures ∙ ap (λ (ts : List (List ℕ)). flat_map (item_mappings actors ts (record { steps = []; place = Some w.container })) w.items) c.in_ok-threads.ensures)
    (c.from-2.ensures ∙ c.in_ok-controllers.ensures ∙ ap (λ (ts : List (List ℕ)). controllers_of ts) c.in_ok-threads.ensures)
