-- A wiring without slots, for the tests.
use Rattle.std.proofs.Common.{◌≡◌, ◌≤◌, ℕ, List, [], length, Option, Some, option_and_then, sym, ap, subst, arith}
use Rattle.std.specs.Option.{option_map_or}
use Rattle.std.proofs.lemmas.Option.{slice_get_within, slice_get_past}
use Rattle.chart_run.specs.declared.chart_tables.tables.Tables.{Tables as ChartTables}
use Rattle.room_wiring.specs.declared.slot.Slot.{Slot}
use Rattle.room_wiring.specs.declared.tables.Tables.{Tables}
use Rattle.room_wiring.specs.declared.names.ClassNames.{ClassNames}
use Rattle.room_wiring.specs.Slots.{class_at, class_of}
use Rattle.room_wiring.specs.Places.{port_count}
use Rattle.service_messages.proofs.slot_runs.RunLemmas.{contained_there}
use Rattle.controller_actors.specs.PlantParts.{AreOfPlant}

-- tables without slots have no ports
bare_ports : (t : Tables) → length t.slots ≡ 0 → (s : ℕ) → port_count t s ≤ 65536
unfolding port_count class_of
bare_ports t none s =
    subst (λ (o : Option Slot). option_map_or (λ (c : ClassNames). length c.ports) (option_and_then (λ (x : Slot). class_at t x.class) o) 0 ≤ 65536)
    (sym (slice_get_past t.slots s (omega (arith, none)))) (omega arith)

pub bare_plant : (wiring : Tables) (tables : List (Option ChartTables)) → 1 ≤ length wiring.controllers → length wiring.controllers ≤ 254 → wiring.slots ≡ [] → tables ≡ [] → AreOfPlant wiring tables
bare_plant wiring tables some few no_slot no_table =
    let no_slots : length wiring.slots ≡ 0 = ap (λ (z : List Slot). length z) no_slot in
    let no_tables : length tables ≡ 0 = ap (λ (z : List (Option ChartTables)). length z) no_table in
    record {
      some_controller = some;
      few_controllers = few;
      sound = λ class v at. let within = slice_get_within tables class (Some v) at in absurd (omega arith);
      order = record {
        behind = λ s c h. let within = contained_there wiring s c h in absurd (omega arith);
        between = λ s c u h after before. let within = contained_there wiring s c h in absurd (omega arith);
      };
      ports = bare_ports wiring no_slots;
      owners = λ s x at. let within = slice_get_within wiring.slots s x at in absurd (omega arith);
      ranked = λ class v at. let within = slice_get_within tables class (Some v) at in absurd (omega arith);
    }
