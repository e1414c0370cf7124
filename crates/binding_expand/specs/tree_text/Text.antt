-- The text of a wiring: its slots, then its joined places, then its sockets.
use Rattle.std.specs.Prelude.{ℕ, List, [], ◌∷◌, ◌++◌, ◌&&◌, ◌||◌, ◌==◌, nat_lt, min, not, Bool, false, if◌then◌else◌, length, codes, decimal}
use Rattle.std.specs.Option.{option_map_or}
use Rattle.room_kinds.specs.Structure.{is_imported}
use Rattle.room_wiring.specs.declared.tables.Tables.{Tables}
use Rattle.room_wiring.specs.declared.slot.Slot.{Slot}
use Rattle.room_wiring.specs.declared.slot.Partner.{Partner}
use Rattle.room_wiring.specs.declared.slot.Partner.TheVariants as partners
use Rattle.room_wiring.specs.Slots.{slot_at}
use Rattle.room_wiring.specs.Places.{port_count, place_count, partner_at}
use Rattle.room_outside.specs.line_text.Lines.{line}
use Rattle.binding_expand.specs.declared.tree_text.place.Place.{Place}
use Rattle.binding_expand.specs.declared.tree_text.place.Tie.{Tie}
use Rattle.binding_expand.specs.declared.tree_text.place.Tie.TheVariants as ties
use Rattle.binding_expand.specs.tree_text.Names.{class_text, kind_text, place_parts}
use Rattle.binding_expand.specs.tree_text.Walk.{texts_from}

-- `slot <number> <owner> <kind> `
abbrev pub slot_parts : ℕ → Slot → List (List ℕ)
slot_parts s x = codes "slot " ∷ decimal s ∷ codes " " ∷ decimal x.owner.0 ∷ codes " " ∷ kind_text x.kind ∷ codes " " ∷ []

-- `<path> <class>`
abbrev pub path_and_class : Tables → Slot → List (List ℕ)
path_and_class t x = x.path ∷ codes " " ∷ class_text t x.class ∷ []

-- `slot <number> <owner> <kind> <path> <class>`
abbrev pub slot_line : Tables → ℕ → Slot → List ℕ
slot_line t s x = line (slot_parts s x ++ path_and_class t x)

-- the line of the slot of a number
unfoldable pub slot_text : Tables → ℕ → List ℕ
slot_text t s = option_map_or (slot_line t s) (slot_at t s) []

unfoldable pub is_socket : Tables → ℕ → Bool
is_socket t s = option_map_or (λ (x : Slot). is_imported x.kind) (slot_at t s) false

-- whether a place stands before another one: by slot, port and place
abbrev pub is_before : Place → Place → Bool
is_before a b =
    nat_lt a.slot.0 b.slot.0 || ((a.slot.0 == b.slot.0) && (nat_lt a.port b.port || ((a.port == b.port) && nat_lt a.place b.place)))

-- `join` or `socket`, and two places
abbrev pub tie_line : Tables → List ℕ → Place → Place → List ℕ
tie_line t word a b = line (word ∷ (place_parts t a ++ (codes " " ∷ place_parts t b)))

-- an end place beside a later one that it is joined to
abbrev pub join_text : Tables → Place → Partner → List ℕ
join_text t a partners.Nobody = []
join_text t a (partners.End slot port place) =
    let b : Place = record { slot = slot; port = port; place = place } in
    if is_before a b then tie_line t (codes "join ") a b else []
join_text t a (partners.Socket slot port place) = []

-- an imported place beside the place that it is joined to
abbrev pub socket_text : Tables → Place → Partner → List ℕ
socket_text t a partners.Nobody = []
socket_text t a (partners.End slot port place) = tie_line t (codes "socket ") a (record { slot = slot; port = port; place = place })
socket_text t a (partners.Socket slot port place) = tie_line t (codes "socket ") a (record { slot = slot; port = port; place = place })

-- which of both is told
abbrev pub tie_text : Tables → Tie → Place → Partner → List ℕ
tie_text t ties.Join a b = join_text t a b
tie_text t ties.Socket a b = socket_text t a b

-- whether a slot's places are told so: those of imported slots are sockets, and no others are
abbrev pub has_ties : Tie → Bool → Bool
has_ties ties.Join imported = not imported
has_ties ties.Socket imported = imported

-- what is told of a place
unfoldable pub place_text : Tables → Tie → ℕ → ℕ → ℕ → List ℕ
place_text t tie s p k = tie_text t tie (record { slot = record { 0 = s }; port = p; place = k }) (partner_at t s p k)

-- of the places of a port, in order
unfoldable pub port_ties : Tables → Tie → ℕ → ℕ → List ℕ
port_ties t tie s p = texts_from (place_text t tie s p) 0 (place_count t s p)

-- how many ports of a slot have a number, of 16 bits
abbrev pub ports_told : Tables → ℕ → ℕ
ports_told t s = min (port_count t s) 65536

-- of the ports of a slot, in order
unfoldable pub ports_ties : Tables → Tie → ℕ → List ℕ
ports_ties t tie s = texts_from (port_ties t tie s) 0 (ports_told t s)

-- of a slot, if its places are told so
unfoldable pub slot_ties : Tables → Tie → ℕ → List ℕ
slot_ties t tie s = if has_ties tie (is_socket t s) then ports_ties t tie s else []

-- of all places, slot by slot
unfoldable pub ties_text : Tables → Tie → List ℕ
ties_text t tie = texts_from (slot_ties t tie) 0 (length t.slots)

-- the slots in order of number
unfoldable pub slots_text : Tables → List ℕ
slots_text t = texts_from (slot_text t) 0 (length t.slots)

-- the slots; each joined pair of end places, ordered by the lesser place, which stands first; each imported place that is joined, in order
unfoldable pub tree_text : Tables → List ℕ
tree_text t = slots_text t ++ (ties_text t ties.Join ++ ties_text t ties.Socket)
