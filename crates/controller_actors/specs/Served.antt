-- The services of a controller.
use Rattle.std.specs.Prelude.{◌≡◌, ℕ}
use Rattle.room_wiring.specs.declared.tables.Tables.{Tables}
use Rattle.actor_duties.specs.State.{Links}
use Rattle.frame_service.specs.State.{IsFrameOf}
use Rattle.layer_service.specs.layer_links.Kept.{links_of}
use Rattle.controller_actors.specs.declared.services.ActorServices.{ActorServices}

-- these are the services of controller me of this wiring
pub record Serves (t : Tables) (me : ℕ) (s : ActorServices) : Type 0 where
  pub fits : IsFrameOf t s.frame
  pub owner : s.frame.me.0 ≡ me

-- the registrations and links of a controller's service points
abbrev pub links_in : ActorServices → Links
links_in s = links_of s.links
