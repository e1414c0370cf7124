-- To whom a place leads: the peer of an end place (ROOM: bindings, layer connections and imports;
-- the order of the cases is this project's own).
-- The cases in order: the endpoint that the place is linked to by name; the joined end place;
-- through an imported slot the same place of the home that it holds; where it is joined to
-- nothing, what a plug of its actor leads to; else nobody. An end place counts where its slot's
-- generation is known: what lives there at its owner, what the directory tells elsewhere.
use Rattle.std.specs.Prelude.{ℕ, ◌==◌, List, find, Option, Some, None, option_map, if◌then◌else◌}
use Rattle.room_kinds.specs.declared.numbers.Incarnation.{Incarnation}
use Rattle.room_kinds.specs.declared.numbers.Endpoint.{Endpoint}
use Rattle.room_wiring.specs.declared.tables.Tables.{Tables}
use Rattle.room_wiring.specs.declared.slot.Partner.{Partner}
use Rattle.room_wiring.specs.declared.slot.Partner.TheVariants as partners
use Rattle.actor_duties.specs.Words.{endpoint, is_own, joined_at, is_end}
use Rattle.actor_duties.specs.State.{Frame, ImportPlace, Empty, Asking, Held, Leaving, Link, Links}
use Rattle.actor_duties.specs.Lives.{standing}

-- the generation that a controller knows in a slot, 0 for none: what lives there if it is its own,
-- else what its directory tells
unfoldable pub known : Tables → ℕ → Frame → ℕ → ℕ
known t me f s = if is_own t me s then standing f.lives s else f.told s

-- an end place of what is known in its slot; nobody where nothing is known there
abbrev pub known_end : Tables → ℕ → Frame → ℕ → ℕ → ℕ → Option Endpoint
known_end t me f s p k = if known t me f s == 0 then None else Some (endpoint s (known t me f s) p k)

-- behind an imported slot stands the home that it holds
abbrev pub held_end : ImportPlace → ℕ → ℕ → Option Endpoint
held_end (Held home) p k = Some (endpoint home.slot.0 home.generation.0 p k)
held_end Empty p k = None
held_end (Asking home) p k = None
held_end (Leaving home) p k = None

-- the oldest plug whose place is joined to an end place
abbrev pub fitting_plug : Tables → List Incarnation → ℕ → ℕ → Option Incarnation
fitting_plug t plugs p k = find (λ (i : Incarnation). is_end (joined_at t i.slot.0 p k)) plugs

-- the end place that a partner is
abbrev pub end_of_partner : Tables → ℕ → Frame → Partner → Option Endpoint
end_of_partner t me f (partners.End s p k) = known_end t me f s.0 p k
end_of_partner t me f (partners.Socket s p k) = None
end_of_partner t me f partners.Nobody = None

-- where an actor is lent to an import place, that place's partner is the peer
abbrev pub through_plug : Tables → ℕ → Frame → ℕ → ℕ → Option Incarnation → Option Endpoint
through_plug t me f p k None = None
through_plug t me f p k (Some i) = end_of_partner t me f (joined_at t i.slot.0 p k)

-- the peer of a place by what it is joined to: the joined end place; through an imported slot the
-- place of the home that it holds; and where it is joined to nothing, what a plug of its actor leads to
abbrev pub peer_by : Tables → ℕ → Frame → Endpoint → Partner → Option Endpoint
peer_by t me f e (partners.End s p k) = known_end t me f s.0 p k
peer_by t me f e (partners.Socket s p k) = held_end (f.places s.0) p k
peer_by t me f e partners.Nobody = through_plug t me f e.port e.place (fitting_plug t (f.plugs e.slot.0) e.port e.place)

-- the peer of a place of a live actor but for links by name
unfoldable pub frame_peer : Tables → ℕ → Frame → Endpoint → Option Endpoint
frame_peer t me f e = peer_by t me f e (joined_at t e.slot.0 e.port e.place)

-- the link of a place
abbrev pub link_at : ℕ → List Link → Option Link
link_at k links = find (λ (x : Link). x.place == k) links

-- the endpoint that a place is linked to by name
unfoldable pub link_peer : Links → Endpoint → Option Endpoint
link_peer l e = option_map (λ (x : Link). x.peer) (link_at e.place (l.linked e.slot.0 e.port))

-- a link goes first, and all else after it
abbrev pub or_else : {A : Type 0} → Option A → Option A → Option A
or_else (Some x) other = Some x
or_else None other = other

-- the peer of a place of a live actor
unfoldable pub peer : Tables → ℕ → Frame → Links → Endpoint → Option Endpoint
peer t me f l e = or_else (link_peer l e) (frame_peer t me f e)
