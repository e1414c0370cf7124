-- The lines of a snapshot.
use Rattle.std.specs.Prelude.{ℕ, ℤ, List, [], ◌∷◌, codes, decimal}
use Rattle.room_kinds.specs.declared.message.Msg.{Msg}
use Rattle.room_kinds.specs.declared.numbers.Incarnation.{Incarnation}
use Rattle.room_kinds.specs.declared.place_state.PlaceState.{PlaceState}
use Rattle.room_kinds.specs.declared.place_state.PlaceState.TheVariants as holds
use Rattle.room_wiring.specs.declared.tables.Tables.{Tables}
use Rattle.room_wiring.specs.Slots.{path_text, port_text}
use Rattle.room_outside.specs.line_text.Lines.{line, numbers_text}
use Rattle.journal.specs.Names.{party_text, endpoint_parts}
use Rattle.journal.specs.Lines.{signal_parts, standing_parts}
use Rattle.room_show.specs.declared.snapshot.PeerView.{PeerView}
use Rattle.room_show.specs.declared.snapshot.PlaceView.{PlaceView}

-- `at <stamp>`
abbrev pub at_line : ℕ → List ℕ
at_line at = line (codes "at " ∷ decimal at ∷ [])

-- `controller <number> <clock> <turns>`
abbrev pub controller_line : ℕ → ℕ → ℕ → List ℕ
controller_line c clock turns = line (codes "controller " ∷ decimal c ∷ codes " " ∷ decimal clock ∷ codes " " ∷ decimal turns ∷ [])

-- `actor <incarnation> <state>`
abbrev pub actor_line : Tables → Incarnation → ℕ → List ℕ
actor_line t who state = line (codes "actor " ∷ standing_parts t who state)

-- `attr <name> <numbers>`
abbrev pub attribute_line : List ℕ → List ℤ → List ℕ
attribute_line name numbers = line (codes "attr " ∷ name ∷ numbers_text numbers ∷ [])

-- `deferred <from>@<sent> <signal> <numbers>`
abbrev pub deferred_line : Tables → Msg → List ℕ
deferred_line t m = line (codes "deferred " ∷ party_text t m.from.0 ∷ codes "@" ∷ decimal m.stamp.0 ∷ signal_parts t m)

-- `bind <port>[<place>] <endpoint>`, of an actor in this slot
abbrev pub peer_line : Tables → ℕ → PeerView → List ℕ
peer_line t s p =
    line (codes "bind " ∷ port_text t s p.port ∷ codes "[" ∷ decimal p.place ∷ codes "] " ∷ endpoint_parts t p.peer)

-- what an import place holds, after a blank: `empty`, `asking <id>`, `held <id>` or `leaving <id>`
abbrev pub held_parts : PlaceState → List (List ℕ)
held_parts holds.Empty = codes " empty" ∷ []
held_parts (holds.Asking id) = codes " asking " ∷ decimal id ∷ []
held_parts (holds.Held id) = codes " held " ∷ decimal id ∷ []
held_parts (holds.Leaving id) = codes " leaving " ∷ decimal id ∷ []

-- `place <path> <state>`
abbrev pub place_line : Tables → PlaceView → List ℕ
place_line t p = line (codes "place " ∷ path_text t p.slot.0 ∷ held_parts p.state)
