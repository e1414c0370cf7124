-- Journals whose merge is let happen again, entry by entry.
use Rattle.std.specs.Prelude.{◌≡◌, ℕ, ◌+◌, ◌<◌, nat_le, Bool, true, false, List, [], ◌∷◌, ◌++◌, map, length, Option, Some, None}
use Rattle.std.specs.List.{AllByRecursion}
use Rattle.room_kinds.specs.declared.numbers.ControllerId.{ControllerId}
use Rattle.room_kinds.specs.declared.numbers.Stamp.{Stamp}
use Rattle.journal.specs.declared.entry.Entry.{Entry}
use Rattle.journal.specs.declared.entry.Journals.{Journals}
use Rattle.actor_merge.specs.Mail.{stamp_of}
use Rattle.actor_merge.specs.World.{World, Placed}
use Rattle.actor_merge.specs.Merge.{entries_of}
use Rattle.actor_world.specs.Body.{Body}
use Rattle.actor_world.specs.Journals.{lines_of}
use Rattle.chart_behaviour.specs.ModelCharts.{Actor}
use Rattle.inject_reader.specs.declared.inject_lines.accepted.Line.{Line}
use Rattle.controller_actors.specs.Plants.{model_of}
use Rattle.controller_actors.specs.declared.plant.Plant.{Plant}
use Rattle.model_run.specs.part_posts.Items.{items_of}
use Rattle.room_verify.specs.Heads.{left_of_party}
use Rattle.room_verify.specs.Steps.{Reaches, IsRefused}
use Rattle.room_verify.specs.Worlds.{plan, world_in, Replays}
use Rattle.room_verify.specs.declared.merging.Outcome.{Outcome}
use Rattle.room_verify.specs.declared.merging.Outcome.TheVariants as outcomes
use Rattle.room_verify.specs.declared.replay.Replay.{Replay}

-- the entries in front of the merge lead to this world, and these are behind them
abbrev pub ReachesIn : Plant → List Line → Journals → List Placed → List Placed → World (Body Actor) → Type 0
ReachesIn plant lines j front behind w = Reaches (model_of plant) plant.wiring (lines_of (items_of plant.wiring lines)) j front behind w

-- how many entries of each journal are passed where all that happened are its starts; none of the environment's
abbrev pub passed_at_start : List (List Entry) → List ℕ
passed_at_start starts = map (λ (es : List Entry). length es) starts ++ 0 ∷ []

-- so many entries of each journal are passed, and the replay stands where they lead
pub record HasPassed (plant : Plant) (lines : List Line) (j : Journals) (passed : List ℕ) (r : Replay) : Type 0 where
  pub front : List Placed
  pub behind : List Placed
  pub reaches : ReachesIn plant lines j front behind (world_in plant r)
  pub replays : Replays plant lines r
  pub count : length passed ≡ length plant.wiring.controllers + 1
  pub left : (party : ℕ) → party < length plant.wiring.controllers + 1 → entries_of party behind ≡ left_of_party j passed party

-- the first entry of the merge that is refused, of this party with this stamp
pub record RefusedAt (plant : Plant) (lines : List Line) (j : Journals) (party : ControllerId) (stamp : Stamp) : Type 0 where
  pub e : Entry
  pub is : stamp.0 ≡ stamp_of e
  pub front : List Placed
  pub behind : List Placed
  pub w : World (Body Actor)
  pub reaches : ReachesIn plant lines j front (record { party = party.0; entry = e } ∷ behind) w
  pub refused : IsRefused (plan plant lines) w party.0 e

-- whether a stamp is at most this one; each is where there is none
abbrev pub is_up_to : Option ℕ → ℕ → Bool
is_up_to None stamp = true
is_up_to (Some last) stamp = nat_le stamp last

-- each of these entries has a stamp of which this answer is right, whether it is at most this one
abbrev pub AreUpTo : Option ℕ → Bool → List Placed → Type 0
AreUpTo until answer xs = AllByRecursion (λ (x : Placed). is_up_to until (stamp_of x.entry) ≡ answer) xs

-- so many entries of each journal are passed, each of them with a stamp of at most this one
pub record HasPassedUpTo (plant : Plant) (lines : List Line) (j : Journals) (until : Option ℕ) (passed : List ℕ) (r : Replay) : Type 0 where
  pub passing : HasPassed plant lines j passed r
  pub low : AreUpTo until true passing.front

-- the whole merge leads to where the replay stands
pub record ReachedIn (plant : Plant) (lines : List Line) (j : Journals) (r : Replay) : Type 0 where
  pub merge : List Placed
  pub reaches : ReachesIn plant lines j merge [] (world_in plant r)
  pub replays : Replays plant lines r

-- the entries of the merge with a stamp of at most this one lead to where the replay stands; all, where there is none
pub record ReachedUpTo (plant : Plant) (lines : List Line) (j : Journals) (until : Option ℕ) (r : Replay) : Type 0 where
  pub front : List Placed
  pub behind : List Placed
  pub reaches : ReachesIn plant lines j front behind (world_in plant r)
  pub replays : Replays plant lines r
  pub low : AreUpTo until true front
  pub high : AreUpTo until false behind

-- what came of it
abbrev pub CameTo : Plant → List Line → Journals → Option ℕ → Outcome → Type 0
CameTo plant lines j until (outcomes.Refused party stamp) = RefusedAt plant lines j party stamp × (is_up_to until stamp.0 ≡ true)
CameTo plant lines j until (outcomes.Reached r) = ReachedUpTo plant lines j until r
