-- The peers that a snapshot shows.
use Rattle.std.specs.Prelude.{◌≡◌, true, Contains}
use Rattle.room_kinds.specs.declared.numbers.Endpoint.{Endpoint}
use Rattle.room_kinds.specs.declared.numbers.Incarnation.{Incarnation}
use Rattle.room_wiring.specs.declared.tables.Tables.{Tables}
use Rattle.actor_duties.specs.Commands.{all_places}
use Rattle.actor_duties.specs.Words.{owner_of, whose}
use Rattle.actor_merge.specs.World.{World}
use Rattle.actor_world.specs.Body.{Body}
use Rattle.room_show.specs.declared.snapshot.ActorView.{ActorView}
use Rattle.room_show.specs.declared.snapshot.ControllerView.{ControllerView}
use Rattle.room_show.specs.declared.snapshot.Snapshot.{Snapshot}
use Rattle.room_verify.specs.Shown.{is_end_port}

-- it shows an actor, at some controller
pub record ShowsActor (s : Snapshot) (x : Incarnation) : Type 0 where
  pub controller : ControllerView
  pub there : Contains s.controllers controller
  pub view : ActorView
  pub among : Contains controller.actors view
  pub who : view.who ≡ x

-- it shows where a place of an actor leads
pub record ShowsPeer (s : Snapshot) (a b : Endpoint) : Type 0 where
  pub actor : ShowsActor s (whose a)
  pub leads : Contains actor.view.peers (record { port = a.port; place = a.place; peer = b })

-- an end place of its slot in a world: one that the wiring gives to a port with end places, or one that is linked by name
pub record IsEndPlace {M : Type 0} (t : Tables) (w : World (Body M)) (e : Endpoint) : Type 0 where
  pub port : is_end_port t e.slot.0 e.port ≡ true
  pub place : Contains (all_places t (w.controllers (owner_of t e.slot.0)).body.links e.slot.0 e.port) e.place

-- the peers in a snapshot of a world are each other's
pub record ArePeersMutual {M : Type 0} (t : Tables) (w : World (Body M)) (s : Snapshot) : Type 0 where
  -- where a place leads to an end place of an actor that is shown, that one is shown to lead back
  pub back : (a b : Endpoint) → ShowsPeer s a b → ShowsActor s (whose b) → IsEndPlace t w b → ShowsPeer s b a
  -- and where it leads to a place that is shown to lead somewhere, that one leads nowhere else
  pub nowhere_else : (a b c : Endpoint) → ShowsPeer s a b → ShowsPeer s b c → c ≡ a
