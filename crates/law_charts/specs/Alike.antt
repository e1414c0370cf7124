-- Two behaviours that do the same, over two kinds of machine, and what that means for whole runs.
-- Machines of the two are related slot by slot; where they are, they begin and handle messages
-- with the same results, notes and commands, and have states of the same numbers. Then journals
-- that are a run of the one are a run of the other.
use Rattle.std.specs.Prelude.{◌≡◌, ℕ, Bool, List}
use Rattle.room_kinds.specs.declared.message.Msg.{Msg}
use Rattle.room_kinds.specs.declared.numbers.Incarnation.{Incarnation}
use Rattle.journal.specs.declared.entry.Entry.{Entry}
use Rattle.journal.specs.declared.entry.Left.{Left}
use Rattle.room_wiring.specs.declared.tables.Tables.{Tables}
use Rattle.actor_merge.specs.Parties.{Line}
use Rattle.actor_merge.specs.World.{World}
use Rattle.actor_world.specs.Behaviour.{Behaviour, Begun, Outcome}
use Rattle.actor_world.specs.Body.{Body}
use Rattle.actor_world.specs.Journals.{Item, IsLawfulRun, IsEnded}
use Rattle.actor_world.specs.Start.{plant_of}

-- two machines begin alike
pub record BeginAlike {M N : Type 0} (R : M → N → Type 0) (a : Begun M) (b : Begun N) : Type 0 where
  pub machine : R a.machine b.machine
  pub notes : a.notes ≡ b.notes
  pub commands : a.commands ≡ b.commands

-- two machines handle a message alike
pub record HandleAlike {M N : Type 0} (R : M → N → Type 0) (a : Outcome M) (b : Outcome N) : Type 0 where
  pub machine : R a.machine b.machine
  pub result : a.result ≡ b.result
  pub notes : a.notes ≡ b.notes
  pub commands : a.commands ≡ b.commands

-- two behaviours do the same, where machines of a slot are related like this
pub record DoAlike {M N : Type 0} (R : ℕ → M → N → Type 0) (one : Behaviour M) (other : Behaviour N) : Type 0 where
  pub begin : (x : Incarnation) → BeginAlike (R x.slot.0) (one.begin x) (other.begin x)
  pub handle : (x : Incarnation) (a : M) (b : N) (m : Msg) → R x.slot.0 a b → HandleAlike (R x.slot.0) (one.handle x a m) (other.handle x b m)
  pub state : (slot : ℕ) (a : M) (b : N) → R slot a b → one.state a ≡ other.state b

-- the journals are those of a run of this behaviour, which ended so
pub record IsRunOf {M : Type 0} (model : Behaviour M) (t : Tables) (lines : List Line) (items : List Item) (fuel : ℕ) (journals : ℕ → List Entry) (left_over : List Left) (unposted : List ℕ) (done : Bool) : Type 0 where
  pub world : World (Body M)
  pub lawful : IsLawfulRun model t lines fuel journals left_over world
  pub ended : IsEnded (plant_of model t lines) items fuel world left_over unposted done
