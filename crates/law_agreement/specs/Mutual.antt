-- Peers are mutual: where the peer of a place of a live actor is a place of a live actor, that one's peer
-- is the first. The law `peers_agree` says so of any world in which directories, imports and links agree,
-- by the cases of the peer on both sides: a link by name, a joined end place, a socket whose imported slot
-- holds a home, and a plug.
-- Its premises on the wiring are in `IsMutual`; those on the world are in `IsOrderly`: what lives, what is
-- lent, and what is linked by name. The law `only_homes_live` gives the first of every run.
use Rattle.std.specs.Prelude.{◌≡◌, ◌≢◌, ℕ, ◌≤◌, ◌<◌, true, false, List, length, Some, if◌then◌else◌}
use Rattle.room_kinds.specs.declared.numbers.SlotId.{SlotId}
use Rattle.room_kinds.specs.declared.numbers.Endpoint.{Endpoint}
use Rattle.room_wiring.specs.declared.tables.Tables.{Tables}
use Rattle.room_wiring.specs.declared.slot.Partner.{Partner}
use Rattle.room_wiring.specs.declared.slot.Partner.TheVariants as partners
use Rattle.room_wiring.specs.Places.{is_told, place_count}
use Rattle.actor_merge.specs.Parties.{Line}
use Rattle.actor_merge.specs.World.{World, Placed}
use Rattle.actor_duties.specs.Words.{owner_of, is_imported, is_home, is_sap, is_spp, is_joined, joined_at, container_of}
use Rattle.actor_duties.specs.State.{Lives, NameTable}
use Rattle.actor_world.specs.Behaviour.{Behaviour}
use Rattle.actor_world.specs.Body.{Body}
use Rattle.actor_world.specs.Directories.{IsOpen, AreOpen}
use Rattle.actor_world.specs.Agreed.{IsLinked, DirectoriesAgree, ImportsAgree, LinksAgree, PeersAgree}
use Rattle.service_messages.specs.slot_runs.Runs.{IsDepthFirst}
use Rattle.law_agreement.specs.Trails.{RunsTo}
use Rattle.law_agreement.specs.Imports.{PlacesAreLocal, OwnersAreThere, LendsToTheLiving}
use Rattle.law_agreement.specs.Plugs.{PlugsFit}

-- a place as its partner sees it: a socket where its slot is imported, else an end place
abbrev pub seen_as : Tables → ℕ → ℕ → ℕ → Partner
seen_as t s p k =
    if is_imported t s then partners.Socket (record { 0 = s }) p k else partners.End (record { 0 = s }) p k

-- partners are each other's, and who may have to know of a slot is told of it
pub record IsMutual (t : Tables) : Type 0 where
  -- the partner of a place's partner is the place
  pub ends : (s p k : ℕ) (x : SlotId) (q j : ℕ) → joined_at t s p k ≡ partners.End x q j → joined_at t x.0 q j ≡ seen_as t s p k
  pub sockets : (s p k : ℕ) (x : SlotId) (q j : ℕ) → joined_at t s p k ≡ partners.Socket x q j → joined_at t x.0 q j ≡ seen_as t s p k
  -- a socket's slot is imported, and what is joined to it has the owner of that slot
  pub imported : (s p k : ℕ) (x : SlotId) (q j : ℕ) → joined_at t s p k ≡ partners.Socket x q j → is_imported t x.0 ≡ true
  pub local : (s p k : ℕ) (x : SlotId) (q j : ℕ) → joined_at t s p k ≡ partners.Socket x q j → owner_of t x.0 ≡ owner_of t s
  -- of a slot with a place that is joined to an end place that end place's controller is told, and of one
  -- with a place that is joined to a socket every controller, but for the slot's own
  pub ends_told : (s p k : ℕ) (x : SlotId) (q j : ℕ) → is_imported t s ≡ false → joined_at t s p k ≡ partners.End x q j
      → owner_of t x.0 ≢ owner_of t s → is_told t s (owner_of t x.0) ≡ true
  pub sockets_told : (s p k : ℕ) (x : SlotId) (q j d : ℕ) → is_imported t s ≡ false → joined_at t s p k ≡ partners.Socket x q j
      → d < length t.controllers → d ≢ owner_of t s → is_told t s d ≡ true
  -- an imported slot has a container, and no service point of it is joined
  pub contained : (s : ℕ) → is_imported t s ≡ true → (c : ℕ) × (container_of t s ≡ Some c)
  pub ports : (s p k : ℕ) → is_imported t s ≡ true → is_joined (joined_at t s p k) ≡ true → (is_sap t s p ≡ false) × (is_spp t s p ≡ false)

-- at a controller only fixed and optional slots live, each in a generation from 1 on
pub record LivesInHomes (t : Tables) (l : Lives) : Type 0 where
  pub homes : (s : ℕ) → l.lives s ≡ true → is_home t s ≡ true
  pub counted : (s : ℕ) → l.lives s ≡ true → 1 ≤ l.generation s

-- over every run of the world: it is so at each controller
abbrev pub RunsLiveInHomes : Type 0 → Type 0
RunsLiveInHomes M =
    (model : Behaviour M) (t : Tables) (lines : List Line) → IsOpen model → AreOpen lines → IsDepthFirst t
    → (xs : List Placed) (end : World (Body M)) → RunsTo model t lines xs end
    → (c : ℕ) → LivesInHomes t (end.controllers c).body.frame.lives

-- the name table links users that are joined to nothing to providers, behind their static places
pub record LinksFreePlaces (t : Tables) (table : NameTable) : Type 0 where
  pub providers : (p u : Endpoint) (k : ℕ) → IsLinked table p u k → (is_spp t p.slot.0 p.port ≡ true) × (place_count t p.slot.0 p.port ≤ k)
  pub users : (p u : Endpoint) (k : ℕ) → IsLinked table p u k → (is_sap t u.slot.0 u.port ≡ true) × (is_joined (joined_at t u.slot.0 u.port u.place) ≡ false)

-- a world in which what lives, what is lent and what is linked is as in every run
pub record IsOrderly {M : Type 0} (t : Tables) (w : World (Body M)) : Type 0 where
  pub lives : (c : ℕ) → LivesInHomes t (w.controllers c).body.frame.lives
  pub living : (c : ℕ) → LendsToTheLiving t (w.controllers c).body.frame
  pub lent : (c : ℕ) → PlugsFit t (w.controllers c).body.frame
  pub linked : LinksFreePlaces t (w.controllers 0).body.table

-- over every orderly world in which directories, imports and links agree: so do peers
abbrev pub OrderlyPeersAgree : Type 0 → Type 0
OrderlyPeersAgree M =
    (t : Tables) (w : World (Body M)) → IsMutual t → OwnersAreThere t → PlacesAreLocal t → IsOrderly t w
    → DirectoriesAgree t w → ImportsAgree t w → LinksAgree t w → PeersAgree t w
