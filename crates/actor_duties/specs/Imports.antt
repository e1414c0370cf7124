-- The rows on imports: an actor of one container, the home, is lent to an imported slot of another
-- (ROOM; the messages and the states of an import place are this project's own).
-- `import` is refused with 4 where the home doesn't live, with 5 where a port is taken.
use Rattle.std.specs.Prelude.{ℕ, ℤ, ◌&&◌, ◌||◌, Bool, false, not, List, [], ◌∷◌, ◌++◌, map, filter, Option, Some, None, if◌then◌else◌}
use Rattle.std.specs.Option.{option_map_or}
use Rattle.std.specs.List.{list_any}
use Rattle.room_kinds.specs.declared.message.Msg.{Msg}
use Rattle.room_kinds.specs.declared.numbers.Incarnation.{Incarnation}
use Rattle.room_kinds.specs.declared.numbers.Endpoint.{Endpoint}
use Rattle.room_kinds.specs.declared.system.SysKind.TheVariants as kinds
use Rattle.room_wiring.specs.declared.tables.Tables.{Tables}
use Rattle.actor_duties.specs.Words.{updated, frame_at, frame_of, whose, id_of, is_incarnation, slots_of, is_imported, container_of, is_part_of, joined_at, is_end, is_joined, ports_of, places_of}
use Rattle.actor_duties.specs.Messages.{reply, to_owner, told_of, Imported, Ended, Deported, Refused, coded, is_code, StaleId, PortTaken}
use Rattle.actor_duties.specs.State.{Lives, ImportPlace, Empty, Asking, Held, Leaving, Done}
use Rattle.actor_duties.specs.Lives.{is_live}

-- whether an import place asks for this home
abbrev pub is_asking : Incarnation → ImportPlace → Bool
is_asking h (Asking x) = is_incarnation x h
is_asking h Empty = false
is_asking h (Held x) = false
is_asking h (Leaving x) = false

-- whether an import place holds this home
abbrev pub is_held : Incarnation → ImportPlace → Bool
is_held h (Held x) = is_incarnation x h
is_held h Empty = false
is_held h (Asking x) = false
is_held h (Leaving x) = false

-- whether an import place gives this home back
abbrev pub is_leaving : Incarnation → ImportPlace → Bool
is_leaving h (Leaving x) = is_incarnation x h
is_leaving h Empty = false
is_leaving h (Asking x) = false
is_leaving h (Held x) = false

-- the home that an import place asks for or holds
abbrev pub tied_home : ImportPlace → Option Incarnation
tied_home (Asking h) = Some h
tied_home (Held h) = Some h
tied_home (Leaving h) = None
tied_home Empty = None

-- the container of an import place: what stands in the imported slot's container, in the generation
-- that the place has
abbrev pub container_frame : Tables → Endpoint → Endpoint
container_frame t i = frame_at (option_map_or (λ c. c) (container_of t i.slot.0) 0) i.generation.0

-- whether the container of an import place lives
abbrev pub is_container_live : Tables → Lives → Endpoint → Bool
is_container_live t l i = is_live l (whose (container_frame t i))

-- whether place k of port p stands in the way of lending h to import place i: i's place is joined to
-- an end place, and h's own place is joined to something, or the same place of another plug is joined
-- to an end place
abbrev pub is_taken_at : Tables → List Incarnation → Incarnation → Incarnation → ℕ → ℕ → Bool
is_taken_at t plugs i h p k =
    is_end (joined_at t i.slot.0 p k)
    && (is_joined (joined_at t h.slot.0 p k)
    || list_any (λ (q : Incarnation). not (is_incarnation q i) && is_end (joined_at t q.slot.0 p k)) plugs)

-- whether any place does
unfoldable pub is_port_taken : Tables → List Incarnation → Incarnation → Incarnation → Bool
is_port_taken t plugs i h = list_any (λ p. list_any (is_taken_at t plugs i h p) (places_of t i.slot.0 p)) (ports_of t i.slot.0)

-- row 5, Import: import place i asks for home h. If h doesn't live, the answer is 4; if a port is
-- taken, 5; else the plug is added at the end
unfoldable pub import : Tables → ℕ → Lives → (ℕ → List Incarnation) → Msg → Endpoint → Endpoint → Done (ℕ → List Incarnation)
import t me l plugs m i h =
    if not (is_live l (whose h)) then record { now = plugs; sent = reply me m kinds.ImportRefused h i (coded StaleId) ∷ [] }
    else if is_port_taken t (plugs h.slot.0) (whose i) (whose h) then record { now = plugs; sent = reply me m kinds.ImportRefused h i (coded PortTaken) ∷ [] }
    else record {
      now = updated plugs h.slot.0 (plugs h.slot.0 ++ whose i ∷ []);
      sent = reply me m kinds.ImportDone h i [] ∷ [];
    }

-- a reply to an import place: where its container lives and the place is as the reply needs it, the
-- place becomes another one and the container is told; else nothing
abbrev pub heard : Tables → Lives → (ℕ → ImportPlace) → Endpoint → Bool → ImportPlace → Msg → Done (ℕ → ImportPlace)
heard t l places i fits next tell =
    if is_container_live t l i && fits
    then record { now = updated places i.slot.0 next; sent = tell ∷ [] }
    else record { now = places; sent = [] }

-- row 6, ImportDone: who asked for h holds it
unfoldable pub import_done : Tables → ℕ → Lives → (ℕ → ImportPlace) → Endpoint → Endpoint → Done (ℕ → ImportPlace)
import_done t me l places h i =
    heard t l places i (is_asking (whose h) (places i.slot.0)) (Held (whose h))
    (told_of t me Imported h (container_frame t i) i.slot.0 (id_of (whose h)))

-- row 7, ImportRefused, with the code 4 or 5: who asked for h holds nothing
unfoldable pub import_refused : Tables → ℕ → Lives → (ℕ → ImportPlace) → Endpoint → Endpoint → ℤ → Done (ℕ → ImportPlace)
import_refused t me l places h i code =
    heard t l places i ((is_code StaleId code || is_code PortTaken code) && is_asking (whose h) (places i.slot.0)) Empty
    (told_of t me Refused h (container_frame t i) i.slot.0 code)

-- row 8, ImportEnded: who holds h holds nothing
unfoldable pub import_ended : Tables → ℕ → Lives → (ℕ → ImportPlace) → Endpoint → Endpoint → Done (ℕ → ImportPlace)
import_ended t me l places h i =
    heard t l places i (is_held (whose h) (places i.slot.0)) Empty
    (told_of t me Ended h (container_frame t i) i.slot.0 (id_of (whose h)))

-- row 9, Deport: the plug goes, if it is there
unfoldable pub deport : ℕ → Lives → (ℕ → List Incarnation) → Msg → Endpoint → Endpoint → Done (ℕ → List Incarnation)
deport me l plugs m i h = record {
  now =
      if is_live l (whose h)
      then updated plugs h.slot.0 (filter (λ (q : Incarnation). not (is_incarnation q (whose i))) (plugs h.slot.0))
      else plugs;
  sent = reply me m kinds.DeportDone h i [] ∷ [];
}

-- row 10, DeportDone: who gave h back holds nothing
unfoldable pub deport_done : Tables → ℕ → Lives → (ℕ → ImportPlace) → Endpoint → Endpoint → Done (ℕ → ImportPlace)
deport_done t me l places h i =
    heard t l places i (is_leaving (whose h) (places i.slot.0)) Empty
    (told_of t me Deported h (container_frame t i) i.slot.0 (id_of (whose h)))

-- the imported slots of a container, in slot order
abbrev pub imported_parts : Tables → ℕ → List ℕ
imported_parts t s = filter (λ i. is_imported t i && is_part_of t i s) (slots_of t)

-- an actor that ends tells each of its plugs that its import has ended, oldest first
abbrev pub ended_plugs : Tables → ℕ → Incarnation → List Incarnation → List Msg
ended_plugs t me x plugs = map (λ (i : Incarnation). to_owner t me kinds.ImportEnded (frame_of x) (frame_of i) []) plugs

-- it gives back what one of its import places asks for or holds
abbrev pub given_back : Tables → ℕ → Incarnation → ImportPlace → List Msg
given_back t me i place = option_map_or (λ (h : Incarnation). to_owner t me kinds.Deport (frame_of i) (frame_of h) [] ∷ []) (tied_home place) []
