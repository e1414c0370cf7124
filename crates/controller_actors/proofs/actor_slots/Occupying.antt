-- Machines as actors.
use Rattle.std.proofs.Common.{◌≡◌, ℕ, [], Option, Some, None, refl, ◌∙◌, subst}
use Rattle.room_kinds.specs.declared.message.Msg.{Msg}
use Rattle.room_kinds.specs.declared.numbers.Incarnation.{Incarnation}
use Rattle.action_program.specs.declared.moment.Effects.{Effects}
use Rattle.chart_run.specs.declared.chart_tables.tables.Tables.{Tables}
use Rattle.chart_run.specs.declared.machine.Machine.{Machine}
use Rattle.chart_run.specs.declared.outcome.Outcome.{Outcome}
use Rattle.chart_run.specs.declared.outcome.Handling.TheVariants as handlings
use Rattle.chart_run.specs.Machines.{Fits, Acts, Starts, standing_of, result_view}
use Rattle.chart_behaviour.specs.ModelCharts.{begins, handles, handling_of}
use Rattle.chart_behaviour.proofs.Charts.{machines_begin, machines_handle}
use Rattle.controller_actors.specs.declared.actor_slots.occupant.Occupant.TheVariants as occupants
use Rattle.controller_actors.specs.declared.actor_slots.occupant.Reaction.{Reaction}
use Rattle.controller_actors.specs.actor_slots.Occupants.{MachineFits, MachineReacts, Reacts, Begins}

-- tables that are there are these tables
fits_here : (v : Tables) (m : Machine) → Fits v m → MachineFits (Some v) m
fits_here v m f u e = subst (λ (w : Tables). Fits w m) (let same : v ≡ u = cc in same) f

-- a machine with tables
pub machine_reacts : (v : Tables) (old new : Machine) (m : Msg) (o : Outcome) (state : ℕ) → Acts v old new m o → Fits v new → state ≡ new.leaf
    → MachineReacts m (Some v) old new (record { outcome = o; state = state })
machine_reacts v old new m o state a f s = record {
  handled = machines_handle v old.me old new m o a refl;
  state = s;
  me = a.me;
  fits = fits_here v new f;
}

-- what comes of a message that isn't handled
abbrev unhandled : Outcome
unhandled = record { result = handlings.Unhandled; effects = record { notes = []; commands = [] } }

-- a machine whose class has no tables
pub machine_passes : (old : Machine) (m : Msg) (state : ℕ) → state ≡ old.leaf
    → MachineReacts m None old old (record { outcome = unhandled; state = state })
unfolding handles
machine_passes old m state s = record { handled = refl; state = s; me = refl; fits = λ v e. absurd (let no : ◌≡◌ {A = Option Tables} None (Some v) = e in cc) }

-- an actor without a chart handles nothing, whatever the tables
passes_without : (x : Incarnation) (m : Msg) (o : Option Tables)
    → handles x m o None ≡ record { machine = None; result = handling_of (result_view handlings.Unhandled); notes = []; commands = [] }
unfolding handles
passes_without x m None = refl
passes_without x m (Some v) = refl

pub chartless_reacts : (m : Msg) (o : Option Tables) → Reacts m o occupants.Chartless occupants.Chartless (record { outcome = unhandled; state = 65535 })
chartless_reacts m o = record { stood = refl; stands = refl; handled = λ x h. passes_without x m o; state = refl; me = λ x h. h; fits = tt }

-- an actor with a machine handles what its machine does
pub charted_reacts : (m : Msg) (o : Option Tables) (old new : Machine) (r : Reaction) → MachineReacts m o old new r → Reacts m o (occupants.Charted old) (occupants.Charted new) r
charted_reacts m o old new r h = record {
  stood = refl;
  stands = refl;
  handled = λ x e. subst (λ y. handles y m o (Some (standing_of old)) ≡ record { machine = Some (standing_of new); result = handling_of (result_view r.outcome.result); notes = r.outcome.effects.notes; commands = r.outcome.effects.commands }) e h.handled;
  state = h.state;
  me = λ x e. h.me ∙ e;
  fits = h.fits;
}

-- an actor without a chart begins
pub chartless_begins : (x : Incarnation) → Begins x None (record { occupant = occupants.Chartless; state = 65535; effects = record { notes = []; commands = [] } })
unfolding begins
chartless_begins x = record { stands = refl; began = refl; state = refl; me = tt; fits = tt }

-- one with a machine begins
pub charted_begins : (x : Incarnation) (v : Tables) (m : Machine) (effects : Effects) (state : ℕ) → Starts v x m effects → Fits v m → state ≡ m.leaf
    → Begins x (Some v) (record { occupant = occupants.Charted m; state = state; effects = effects })
charted_begins x v m effects state s f e = record {
  stands = refl;
  began = machines_begin v x m effects s;
  state = e;
  me = s.own;
  fits = fits_here v m f;
}
