-- Wirings whose names tell things apart, so that texts that name things can be read back.
use Rattle.std.specs.Prelude.{◌≡◌, ℕ, ◌≤◌, ◌&&◌, ◌||◌, ◌==◌, nat_le, Bool, IsTrue, false, List, [], ◌∷◌, ◌++◌, ◌⊎◌, All, Some, length, slice_get}
use Rattle.std.specs.List.{list_all, join_with_byte}
use Rattle.room_wiring.specs.declared.tables.Tables.{Tables}
use Rattle.room_wiring.specs.declared.slot.Slot.{Slot}
use Rattle.room_wiring.specs.declared.names.ClassNames.{ClassNames}
use Rattle.room_wiring.specs.declared.names.PortNames.{PortNames}
use Rattle.room_wiring.specs.declared.names.SignalNames.{SignalNames}

-- `A` to `Z`, `a` to `z` or `_`
abbrev pub begins_ident : ℕ → Bool
begins_ident b = (nat_le 65 b && nat_le b 90) || (nat_le 97 b && nat_le b 122) || (b == 95)

-- `0` to `9`
abbrev pub is_digit : ℕ → Bool
is_digit b = nat_le 48 b && nat_le b 57

-- a letter or `_`, and then letters, digits and `_`
abbrev pub is_ident : List ℕ → Bool
is_ident [] = false
is_ident (b ∷ bs) = begins_ident b && list_all (λ c. begins_ident c || is_digit c) bs

-- an identifier
pub record IsIdent (text : List ℕ) : Type 0 where
  pub ident : IsTrue (is_ident text)

-- a name, or a name with an index: `name:12`
pub record IsSegment (text : List ℕ) : Type 0 where
  pub name : List ℕ
  pub index : List ℕ
  pub named : IsIdent name
  pub digits : IsTrue (list_all is_digit index)
  pub text_is : (text ≡ name) ⊎ ((1 ≤ length index) × (text ≡ name ++ 58 ∷ index))

-- segments joined by `/`
pub record IsPath (text : List ℕ) : Type 0 where
  pub segments : List (List ℕ)
  pub some : 1 ≤ length segments
  pub each : All IsSegment segments
  pub joined : text ≡ join_with_byte 47 segments

-- names joined by `.`
pub record IsStateLabel (text : List ℕ) : Type 0 where
  pub names : List (List ℕ)
  pub some : 1 ≤ length names
  pub each : All IsIdent names
  pub joined : text ≡ join_with_byte 46 names

-- items at different places have different names
abbrev pub NamesDiffer : {A : Type 0} → (A → List ℕ) → List A → Type 0
NamesDiffer {A} name xs =
    (i j : ℕ) (x y : A) → slice_get xs i ≡ Some x → slice_get xs j ≡ Some y → name x ≡ name y → i ≡ j

-- the signals of a port, incoming ones first
abbrev pub signals_of : PortNames → List SignalNames
signals_of p = p.incoming ++ p.outgoing

-- a port with a name, whose signals have different names
pub record IsWellNamedPort (p : PortNames) : Type 0 where
  pub name : IsIdent p.name
  pub signals : All (λ (x : SignalNames). IsIdent x.name) (signals_of p)
  pub signals_differ : NamesDiffer (λ (x : SignalNames). x.name) (signals_of p)

-- a class whose ports have different names and whose states have different labels
pub record IsWellNamedClass (c : ClassNames) : Type 0 where
  pub ports : All IsWellNamedPort c.ports
  pub ports_differ : NamesDiffer (λ (x : PortNames). x.name) c.ports
  pub states : All IsStateLabel c.states
  pub states_differ : NamesDiffer (λ (x : List ℕ). x) c.states

-- slots have different paths, the ports of a class different names, the signals of a port
-- different names and the states of a class different labels, and all are formed from identifiers,
-- as are the names of the controllers
pub record IsWellNamed (t : Tables) : Type 0 where
  pub controllers : All IsIdent t.controllers
  pub paths : All (λ (x : Slot). IsPath x.path) t.slots
  pub paths_differ : NamesDiffer (λ (x : Slot). x.path) t.slots
  pub classes : All IsWellNamedClass t.classes
