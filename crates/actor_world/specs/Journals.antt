-- What the journals of a whole run must be: lawful, prompt and ended.
-- `IsLawfulRun`: each journal begins with its controller's start, and what follows is one run of
-- the world; no controller takes more turns than the fuel; what is told as left is left.
-- `IsPrompt`: before each turn a controller has fetched all that it had posted to itself, or 64
-- messages. `IsEnded`: all is quiet and every line was posted (done), or every controller for
-- which a message waits has taken as many turns as the fuel allows (spent).
use Rattle.std.specs.Prelude.{◌≡◌, ℕ, zero, suc, ◌<◌, ◌≤◌, ◌+◌, ◌==◌, ◌-◌, nat_le, ◌⊎◌, Bool, true, false, List, [], ◌∷◌, ◌++◌, map, flat_map, length, slice_get, Some, if◌then◌else◌}
use Rattle.std.specs.Option.{option_map_or}
use Rattle.std.specs.List.{range_with_len}
use Rattle.room_kinds.specs.declared.message.Msg.{Msg}
use Rattle.journal.specs.declared.entry.Entry.{Entry}
use Rattle.journal.specs.declared.entry.Entry.TheVariants as entry
use Rattle.journal.specs.declared.entry.Left.{Left}
use Rattle.room_wiring.specs.declared.tables.Tables.{Tables}
use Rattle.actor_merge.specs.Mail.{lane, taken, given}
use Rattle.actor_merge.specs.Parties.{State, Line, Plant}
use Rattle.actor_merge.specs.World.{World, IsQuiet}
use Rattle.actor_merge.specs.History.{IsLawful}
use Rattle.actor_world.specs.Behaviour.{Behaviour}
use Rattle.actor_world.specs.Body.{Body}
use Rattle.actor_world.specs.Start.{start_entries, plant_of}

-- a line of an injection text, with its number: a message, or `settle`, which ends a part
pub data Item : Type 0 where
  Message : (number : ℕ) (message : Msg) → Item
  Settle : (number : ℕ) → Item

-- the messages with their parts, the first of which has this number
abbrev pub lines_from : ℕ → List Item → List Line
lines_from part [] = []
lines_from part (Message number m ∷ items) = record { part = part; message = m } ∷ lines_from part items
lines_from part (Settle number ∷ items) = lines_from (part + 1) items

-- the lines of an injection text; parts are numbered from 1
abbrev pub lines_of : List Item → List Line
lines_of items = lines_from 1 items

-- the number of a line of the text
abbrev pub number_of : Item → ℕ
number_of (Message number m) = number
number_of (Settle number) = number

-- the numbers of the lines from the `settle` that ends this part on, where the first line is in part 1;
-- none where no `settle` ends it
abbrev pub unposted_from : ℕ → List Item → List ℕ
unposted_from part [] = []
unposted_from part (Message number m ∷ items) = unposted_from part items
unposted_from part (Settle number ∷ items) = if nat_le part 1 then number ∷ map number_of items else unposted_from (part - 1) items

-- all priorities, ascending
abbrev pub priorities : List ℕ
priorities = range_with_len 0 6

-- a message that is left for a controller, pending or in a lane
abbrev pub left : ℕ → Bool → Msg → Left
left c pending m = record { to = record { 0 = c }; pending = pending; msg = m }

-- what is left for one controller: its pending lists by priority, and then the lanes to it by
-- priority, the environment's first and then the controllers' ascending
abbrev pub left_for : {B : Type 0} → Plant B → World B → ℕ → List Left
left_for plant w c =
    flat_map (λ p. map (left c true) ((w.controllers c).pending p)) priorities
    ++ flat_map (λ p. flat_map (λ s. map (left c false) (w.lanes (lane s c p))) (plant.controllers ∷ range_with_len 0 plant.controllers)) priorities

-- what is left in a world, by receiver
abbrev pub left_of : {B : Type 0} → Plant B → World B → List Left
left_of plant w = flat_map (left_for plant w) (range_with_len 0 plant.controllers)

-- lawful: each journal begins with its controller's start, what follows is one run of the world of
-- this model, which leads to this world, no controller took more turns than the fuel, and what is told
-- as left is left
pub record IsLawfulRun {M : Type 0} (model : Behaviour M) (t : Tables) (lines : List Line) (fuel : ℕ) (journals : ℕ → List Entry) (left_over : List Left) (w : World (Body M)) : Type 0 where
  pub events : ℕ → List Entry
  pub begins : (c : ℕ) → c < length t.controllers → journals c ≡ start_entries model t c ++ events c
  pub environment : journals (length t.controllers) ≡ events (length t.controllers)
  pub run : IsLawful (plant_of model t lines) events w
  pub fuelled : (c : ℕ) → c < length t.controllers → (w.controllers c).turns ≤ fuel
  pub left_is : left_over ≡ left_of (plant_of model t lines) w

-- spent: a controller has taken as many turns as the fuel allows
abbrev pub IsSpent : {B : Type 0} → ℕ → State B → Type 0
IsSpent fuel s = fuel ≤ s.turns

-- a message waits for a controller: in a lane to it, a pending list or its outbox
pub data HasMessage {B : Type 0} (w : World B) (c : ℕ) : Type 0 where
  in_lane : (sender priority : ℕ) → 0 < length (w.lanes (lane sender c priority)) → HasMessage w c
  in_pending : (priority : ℕ) → 0 < length ((w.controllers c).pending priority) → HasMessage w c
  in_outbox : 0 < length (w.controllers c).outbox → HasMessage w c

-- whether an entry is a turn
abbrev pub is_turn : Entry → Bool
is_turn (entry.Turn stamp from sent did notes) = true
is_turn (entry.Start who state notes) = false
is_turn (entry.Fetch stamp m) = false
is_turn (entry.Post stamp m) = false

-- whether an entry fetches at this priority
abbrev pub fetches_at : ℕ → Entry → Bool
fetches_at p (entry.Fetch stamp m) = m.prio.0 == p
fetches_at p (entry.Turn stamp from sent did notes) = false
fetches_at p (entry.Start who state notes) = false
fetches_at p (entry.Post stamp m) = false

-- how many of these entries fetch at a priority after the last turn, when so many did before them
abbrev pub fetches_since : ℕ → ℕ → List Entry → ℕ
fetches_since p so_far [] = so_far
fetches_since p so_far (e ∷ es) = fetches_since p (if is_turn e then 0 else if fetches_at p e then so_far + 1 else so_far) es

-- prompt: at each turn, and for each priority, the controller has fetched all that it had posted to
-- itself, or at least 64 messages since its turn before
pub record IsPrompt (controllers : ℕ) (journals : ℕ → List Entry) : Type 0 where
  pub at_turns : (c p : ℕ) (before after : List Entry) (e : Entry) → c < controllers → p < 6
      → journals c ≡ before ++ e ∷ after → is_turn e ≡ true
      → (given (lane c c p) c before ≡ taken (lane c c p) c before) ⊎ (64 ≤ fetches_since p 0 before)

-- the part of the last line posted, or 1 if none was
abbrev pub last_part : List Line → ℕ → ℕ
last_part lines zero = 1
last_part lines (suc posted) = option_map_or (λ (l : Line). l.part) (slice_get lines posted) 1

-- done: the run ended because all is quiet and every line was posted; nothing is left
pub record IsDone {B : Type 0} (plant : Plant B) (w : World B) (left_over : List Left) (unposted : List ℕ) : Type 0 where
  pub quiet : IsQuiet plant w
  pub all_posted : w.environment.posted ≡ length plant.lines
  pub none_left : left_over ≡ []
  pub none_unposted : unposted ≡ []

-- stopped by the fuel: not quiet, every controller that has a message is spent, the environment has
-- posted all lines of the parts so far, and the lines after them are unposted
pub record IsStopped {B : Type 0} (plant : Plant B) (items : List Item) (fuel : ℕ) (w : World B) (unposted : List ℕ) : Type 0 where
  pub busy : IsQuiet plant w → ⊥
  pub spent : (c : ℕ) → c < plant.controllers → HasMessage w c → IsSpent fuel (w.controllers c)
  pub part_posted : (line : ℕ) (l : Line) → slice_get plant.lines line ≡ Some l → l.part ≤ last_part plant.lines w.environment.posted → line < w.environment.posted
  pub unposted_is : unposted ≡ unposted_from (last_part plant.lines w.environment.posted) items

-- ended: every outbox is empty, and the run is done or stopped, as it says
pub record IsEnded {B : Type 0} (plant : Plant B) (items : List Item) (fuel : ℕ) (w : World B) (left_over : List Left) (unposted : List ℕ) (done : Bool) : Type 0 where
  pub posted : (c : ℕ) → c < plant.controllers → (w.controllers c).outbox ≡ []
  pub is_done : done ≡ true → IsDone plant w left_over unposted
  pub is_stopped : done ≡ false → IsStopped plant items fuel w unposted
