-- A world in which all controllers agree: what the trails of system messages lead to.
-- That is: directories, imports, links and peers. `law_agreement` has the laws that say of a
-- quiet world what is agreed in it.
use Rattle.std.specs.Prelude.{◌≡◌, ℕ, ◌≤◌, ◌<◌, ◌⊎◌, ◌↔◌, Bool, true, count_by, Contains, length, Option, Some}
use Rattle.room_kinds.specs.declared.numbers.Incarnation.{Incarnation}
use Rattle.room_kinds.specs.declared.numbers.Endpoint.{Endpoint}
use Rattle.room_wiring.specs.declared.tables.Tables.{Tables}
use Rattle.room_wiring.specs.Places.{is_told}
use Rattle.actor_merge.specs.World.{World}
use Rattle.actor_duties.specs.Words.{frame_of, whose, is_incarnation, owner_of, is_imported}
use Rattle.actor_duties.specs.State.{ImportPlace, Empty, Held, User, Provider, Service, NameTable, Frame}
use Rattle.actor_duties.specs.Lives.{standing, is_live}
use Rattle.actor_duties.specs.Imports.{container_frame}
use Rattle.actor_duties.specs.Peers.{peer, link_peer}
use Rattle.actor_duties.specs.Names.{at_place}
use Rattle.actor_world.specs.Body.{Body}

-- the frame service of the owner of a slot
abbrev pub frame_at : {M : Type 0} → Tables → World (Body M) → ℕ → Frame
frame_at t w s = (w.controllers (owner_of t s)).body.frame

-- whether an incarnation lives, at its owner
abbrev pub lives_in : {M : Type 0} → Tables → World (Body M) → Incarnation → Bool
lives_in t w x = is_live (frame_at t w x.slot.0).lives x

-- each directory tells of each slot that is announced to it what stands there, 0 for nobody
abbrev pub DirectoriesAgree : {M : Type 0} → Tables → World (Body M) → Type 0
DirectoriesAgree t w =
    (s d : ℕ) → s < length t.slots → d < length t.controllers → is_told t s d ≡ true
    → (w.controllers d).body.frame.told s ≡ standing (frame_at t w s).lives s

-- the import place of an imported slot, and the incarnation of its container that it belongs to
abbrev pub place_of : {M : Type 0} → Tables → World (Body M) → ℕ → ImportPlace
place_of t w i = (frame_at t w i).places i

-- how often an import place stands among the plugs of a home, at the home's owner
abbrev pub plugged : {M : Type 0} → Tables → World (Body M) → Incarnation → Incarnation → ℕ
plugged t w i h = count_by (is_incarnation i) ((frame_at t w h.slot.0).plugs h.slot.0)

-- whether the container of an import place lives
abbrev pub has_container : {M : Type 0} → Tables → World (Body M) → Incarnation → Bool
has_container t w i = lives_in t w (whose (container_frame t (frame_of i)))

-- each import place of a live container is empty or holds a home; it holds a home exactly where the
-- home lives and has the place among its plugs, where it stands once; and every plug is an import place
-- of a live container
pub record ImportsAgree {M : Type 0} (t : Tables) (w : World (Body M)) : Type 0 where
  pub settled : (i : Incarnation) → is_imported t i.slot.0 ≡ true → has_container t w i ≡ true
      → (place_of t w i.slot.0 ≡ Empty) ⊎ ((h : Incarnation) × (place_of t w i.slot.0 ≡ Held h))
  pub held : (i h : Incarnation) → is_imported t i.slot.0 ≡ true → has_container t w i ≡ true
      → (place_of t w i.slot.0 ≡ Held h) ↔ ((lives_in t w h ≡ true) × (plugged t w i h ≡ 1))
  pub once : (i h : Incarnation) → plugged t w i h ≤ 1
  pub plugs : (i h : Incarnation) → 1 ≤ plugged t w i h → (is_imported t i.slot.0 ≡ true) × (has_container t w i ≡ true)

-- a user of a service that has a provider is linked to this place of it
pub record IsLinked (table : NameTable) (provider user : Endpoint) (k : ℕ) : Type 0 where
  pub service : Service
  pub stands : Contains table service
  pub next : ℕ
  pub provides : service.provider ≡ Some (record { at = provider; next = next })
  pub uses : Contains service.users (record { at = user; linked = Some k })

-- the table links two endpoints, seen from either side
abbrev pub TableLinks : NameTable → Endpoint → Endpoint → Type 0
TableLinks table a b =
    ((p : Endpoint) × (k : ℕ) × (a ≡ at_place p k) × IsLinked table p b k)
    ⊎ ((p : Endpoint) × (k : ℕ) × (b ≡ at_place p k) × IsLinked table p a k)

-- the links of live actors are those of the name table, seen from both sides, and each endpoint that
-- stands in the table is of a live actor
pub record LinksAgree {M : Type 0} (t : Tables) (w : World (Body M)) : Type 0 where
  pub links : (a b : Endpoint) → lives_in t w (whose a) ≡ true
      → (link_peer (w.controllers (owner_of t a.slot.0)).body.links a ≡ Some b) ↔ TableLinks (w.controllers 0).body.table a b
  pub users : (s : Service) (u : User) → Contains (w.controllers 0).body.table s → Contains s.users u → lives_in t w (whose u.at) ≡ true
  pub providers : (s : Service) (p : Provider) → Contains (w.controllers 0).body.table s → s.provider ≡ Some p → lives_in t w (whose p.at) ≡ true

-- the peer of an end place, as its owner sees it
abbrev pub peer_in : {M : Type 0} → Tables → World (Body M) → Endpoint → Option Endpoint
peer_in t w e = let c = owner_of t e.slot.0 in peer t c (w.controllers c).body.frame (w.controllers c).body.links e

-- where the peer of a live actor's end place is a live actor's, that one's peer is the first
abbrev pub PeersAgree : {M : Type 0} → Tables → World (Body M) → Type 0
PeersAgree t w =
    (a b : Endpoint) → lives_in t w (whose a) ≡ true → lives_in t w (whose b) ≡ true → peer_in t w a ≡ Some b → peer_in t w b ≡ Some a

-- all controllers agree
pub record IsAgreed {M : Type 0} (t : Tables) (w : World (Body M)) : Type 0 where
  pub directories : DirectoriesAgree t w
  pub imports : ImportsAgree t w
  pub links : LinksAgree t w
  pub peers : PeersAgree t w
