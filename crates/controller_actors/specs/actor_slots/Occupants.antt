-- What stands in a slot, as the world's definitions see it, and how it begins and handles messages.
use Rattle.std.specs.Prelude.{◌≡◌, Option, Some, None}
use Rattle.room_kinds.specs.declared.message.Msg.{Msg}
use Rattle.room_kinds.specs.declared.numbers.Incarnation.{Incarnation}
use Rattle.chart_run.specs.chart_tables.Tables.{IsSound}
use Rattle.chart_run.specs.declared.chart_tables.tables.Tables.{Tables}
use Rattle.chart_run.specs.declared.machine.Machine.{Machine}
use Rattle.chart_run.specs.Machines.{Fits, standing_of, result_view}
use Rattle.chart_behaviour.specs.ModelCharts.{Actor, begins, handles, handling_of, state_number}
use Rattle.controller_actors.specs.declared.actor_slots.occupant.Occupant.{Occupant}
use Rattle.controller_actors.specs.declared.actor_slots.occupant.Occupant.TheVariants as occupants
use Rattle.controller_actors.specs.declared.actor_slots.occupant.Reaction.{Reaction}
use Rattle.controller_actors.specs.declared.actor_slots.occupant.Beginning.{Beginning}

-- the actor that stands there; none without a chart
abbrev pub actor_of : Occupant → Actor
actor_of occupants.Nobody = None
actor_of occupants.Chartless = None
actor_of (occupants.Charted m) = Some (standing_of m)

-- the same, if anybody stands there
abbrev pub actor_in : Occupant → Option Actor
actor_in occupants.Nobody = None
actor_in occupants.Chartless = Some None
actor_in (occupants.Charted m) = Some (Some (standing_of m))

-- the tables of a class are sound, if it has any
abbrev pub AreSound : Option Tables → Type 0
AreSound o = (v : Tables) → o ≡ Some v → IsSound v

-- a machine fits the tables of its class, if there are any
abbrev pub MachineFits : Option Tables → Machine → Type 0
MachineFits o m = (v : Tables) → o ≡ Some v → Fits v m

-- what stands there fits the tables of its class
abbrev pub HasTables : Option Tables → Occupant → Type 0
HasTables o occupants.Nobody = Unit {0}
HasTables o occupants.Chartless = Unit {0}
HasTables o (occupants.Charted m) = MachineFits o m

-- what stands there, if it has a machine, is this incarnation's
abbrev pub IsOf : Incarnation → Occupant → Type 0
IsOf x occupants.Nobody = Unit {0}
IsOf x occupants.Chartless = Unit {0}
IsOf x (occupants.Charted m) = m.me ≡ x

-- a machine handled a message, as an actor of its class does
pub record MachineReacts (m : Msg) (o : Option Tables) (old new : Machine) (r : Reaction) : Type 0 where
  pub handled : handles old.me m o (Some (standing_of old))
      ≡ record { machine = Some (standing_of new); result = handling_of (result_view r.outcome.result); notes = r.outcome.effects.notes; commands = r.outcome.effects.commands }
  pub state : r.state ≡ new.leaf
  pub me : new.me ≡ old.me
  pub fits : MachineFits o new

-- an actor handled a message, as one of its class does
pub record Reacts (m : Msg) (o : Option Tables) (old new : Occupant) (r : Reaction) : Type 0 where
  pub stood : actor_in old ≡ Some (actor_of old)
  pub stands : actor_in new ≡ Some (actor_of new)
  pub handled : (x : Incarnation) → IsOf x old
      → handles x m o (actor_of old) ≡ record { machine = actor_of new; result = handling_of (result_view r.outcome.result); notes = r.outcome.effects.notes; commands = r.outcome.effects.commands }
  pub state : r.state ≡ state_number (actor_of new)
  pub me : (x : Incarnation) → IsOf x old → IsOf x new
  pub fits : HasTables o new

-- an actor began, as one of its class does
pub record Begins (x : Incarnation) (o : Option Tables) (r : Beginning) : Type 0 where
  pub stands : actor_in r.occupant ≡ Some (actor_of r.occupant)
  pub began : begins x o ≡ record { machine = actor_of r.occupant; notes = r.effects.notes; commands = r.effects.commands }
  pub state : r.state ≡ state_number (actor_of r.occupant)
  pub me : IsOf x r.occupant
  pub fits : HasTables o r.occupant
