-- The tables of the classes of slots.
use Rattle.std.proofs.Common.{◌≡◌, ℕ, ◌≤◌, List, length, Option, Some, None, slice_get, option_and_then, sym, ap, ◌∙◌}
use Rattle.std.specs.Option.{option_map_or}
use Rattle.std.proofs.lemmas.Option.{slice_get_past}
use Rattle.room_wiring.specs.declared.tables.Tables.{Tables as Wiring}
use Rattle.room_wiring.specs.declared.slot.Slot.{Slot}
use Rattle.room_wiring.specs.Slots.{slot_at}
use Rattle.actor_duties.specs.Words.{class_number}
use Rattle.chart_run.specs.chart_tables.Tables.{IsSound}
use Rattle.chart_run.specs.declared.chart_tables.tables.Tables.{Tables}
use Rattle.chart_behaviour.specs.ModelCharts.{class_tables, tables_at}
use Rattle.controller_actors.specs.declared.plant.Plant.{Plant}
use Rattle.controller_actors.specs.Plants.{IsPlant}

-- a slot that isn't there has no tables
pub no_class : (t : Wiring) (classes : List (Option Tables)) (s : ℕ) → length t.slots ≤ s → None ≡ tables_at t classes s
unfolding tables_at
no_class t classes s l =
    sym (ap (λ (o : Option Slot). option_and_then (class_tables classes) (option_map_or (λ (x : Slot). Some x.class) o None)) (slice_get_past t.slots s l))

-- one that is there has those of its class
pub class_tables_at : (t : Wiring) (classes : List (Option Tables)) (s : ℕ) (x : Slot) (o : Option Tables) → slot_at t s ≡ Some x → o ≡ class_tables classes x.class → o ≡ tables_at t classes s
unfolding tables_at
class_tables_at t classes s x o here is =
    is ∙ sym (ap (λ (y : Option Slot). option_and_then (class_tables classes) (option_map_or (λ (z : Slot). Some z.class) y None)) here)

some_here : (o : Option (Option Tables)) (v : Tables) → option_and_then (λ (u : Option Tables). u) o ≡ Some v → o ≡ Some (Some v)
some_here None v e = absurd (let no : ◌≡◌ {A = Option Tables} None (Some v) = e in cc)
some_here (Some u) v e = ap (λ x. Some x) e

class_sound : (p : Plant) → IsPlant p → (n : Option ℕ) (v : Tables) → option_and_then (class_tables p.tables.items) n ≡ Some v → IsSound v
class_sound p h None v e = absurd (let no : ◌≡◌ {A = Option Tables} None (Some v) = e in cc)
class_sound p h (Some c) v e = h.sound c v (some_here (slice_get p.tables.items c) v e)

-- and they are sound
pub slot_sound : (p : Plant) → IsPlant p → (s : ℕ) (v : Tables) → tables_at p.wiring p.tables.items s ≡ Some v → IsSound v
unfolding tables_at
slot_sound p h s v e = class_sound p h (class_number p.wiring s) v e
