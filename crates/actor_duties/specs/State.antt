-- What a controller keeps of actors, of its directory, and of who is joined to whom while a run
-- goes: the components that duties and commands change. Slots, ports and places are numbers.
-- Each row of the tables of duties and commands is one function from a component of the state to
-- the new component and the messages sent, in order (`Done`). What a row doesn't name stays,
-- because the row is given nothing else.
-- The components: the lives of slots; the directory, what the owners of other slots told; the
-- import places; the plugs of each home, oldest first; registrations; links in order of place; and
-- the name table.
use Rattle.std.specs.Prelude.{ℕ, Bool, List, [], Option}
use Rattle.room_kinds.specs.declared.message.Msg.{Msg}
use Rattle.room_kinds.specs.declared.numbers.Incarnation.{Incarnation}
use Rattle.room_kinds.specs.declared.numbers.Endpoint.{Endpoint}

-- for each slot of the controller the last generation, 0 before the first, and whether it lives
pub record Lives : Type 0 where
  pub generation : ℕ → ℕ
  pub lives : ℕ → Bool

-- what an imported slot of a live container holds (this project's own)
pub data ImportPlace : Type 0 where
  Empty : ImportPlace
  Asking Held Leaving : (home : Incarnation) → ImportPlace

-- the frame service's state: the lives of actors, and what is lent to whom
pub record Frame : Type 0 where
  pub lives : Lives
  -- the directory: for each slot of another owner the generation told last, 0 for none
  pub told : ℕ → ℕ
  -- for each imported slot of the controller's own containers what it holds
  pub places : ℕ → ImportPlace
  -- for each slot of the controller the plugs of what stands there: the import places, as imported
  -- slots in the generation of their containers, that hold it, oldest first
  pub plugs : ℕ → List Incarnation

-- how far a service point is registered under a name
pub data Registration : Type 0 where
  Unnamed Asked Registered Leaving : Registration

-- a place of a service point, and the endpoint that it is linked to by a name
pub record Link : Type 0 where
  pub place : ℕ
  pub peer : Endpoint

-- for each slot of the controller and each of its ports, of what stands there: the registration,
-- and the links in order of place
pub record Links : Type 0 where
  pub registrations : ℕ → ℕ → Registration
  pub linked : ℕ → ℕ → List Link

-- a registered service access point, and the place of the provider that it is linked to
pub record User : Type 0 where
  pub at : Endpoint
  pub linked : Option ℕ

-- a registered service provision point, and the place that its next link takes
pub record Provider : Type 0 where
  pub at : Endpoint
  pub next : ℕ

-- the service of one name and protocol: at most one provider, and the users in order of registration
pub record Service : Type 0 where
  pub name : ℕ
  pub protocol : ℕ
  pub provider : Option Provider
  pub users : List User

-- the name table of controller 0: its services, in the order in which they were first named
abbrev pub NameTable : Type 0
NameTable = List Service

-- what a row gives: the new component, and the messages that go to the outbox, in order
pub record Done (C : Type 0) : Type 0 where
  pub now : C
  pub sent : List Msg

-- nothing is done
abbrev pub unchanged : {C : Type 0} → C → Done C
unchanged c = record { now = c; sent = [] }
