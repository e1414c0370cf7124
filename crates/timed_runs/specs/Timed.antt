-- Timed runs: runs over lines that move virtual time on.
-- The lines that are given come to other lines, their expansion, once it is known when timers are due (`room_timer`). A
-- timed run is one run of the world over the expansion: lawful and prompt, and ended as runs over lines without
-- `advance` are. What wasn't posted is told in the numbers of the lines that were given: from the first `settle` or
-- `advance` on that wasn't finished. A `settle` is finished when all is quiet there, and an `advance` when all is quiet
-- at the `settle` with which its expansion ends.
use Rattle.std.specs.Prelude.{◌≡◌, ℕ, ◌+◌, true, List, [], ◌∷◌, map}
use Rattle.journal.specs.declared.entry.Journals.{Journals}
use Rattle.room_wiring.specs.declared.tables.Tables.{Tables}
use Rattle.inject_reader.specs.declared.inject_lines.accepted.Line.{Line}
use Rattle.inject_reader.specs.declared.inject_lines.accepted.What.TheVariants as whats
use Rattle.inject_reader.specs.Fitting.{LinesFit}
use Rattle.actor_merge.specs.World.{Placed}
use Rattle.actor_merge.specs.Merge.{IsMerge}
use Rattle.controller_actors.specs.declared.plant.Plant.{Plant}
use Rattle.model_run.specs.run_ends.Runs.{IsRun}
use Rattle.room_timer.specs.Expansion.{events_of, Point, beginning, saw_all, further, is_message, Advances, IsExpansion}
use Rattle.room_timer.specs.Laws.{AreLater}

-- the numbers of lines
abbrev pub numbers_of : List Line → List ℕ
numbers_of lines = map (λ (l : Line). l.number) lines

-- These journals are those of a run of this plant over these lines, which may move the time on, with so much fuel: they
-- are a run over the expansion of the lines, whatever numbers it would tell as unposted. Told are those of the lines
-- from the first on that wasn't finished; where the run is done, there are none.
pub record IsTimedRun (plant : Plant) (lines : List Line) (fuel : ℕ) (j : Journals) : Type 0 where
  pub expansion : List Line
  pub left : List Line
  pub is : IsExpansion plant.wiring lines j expansion left
  -- each line of it names what the wiring has
  pub fits : LinesFit plant.wiring expansion
  -- the numbers of the lines of the expansion that weren't posted
  pub unposted_of_it : List ℕ
  pub run : IsRun plant expansion fuel (record j { unposted = unposted_of_it })
  pub unposted : j.unposted ≡ numbers_of left
  pub whole : j.done ≡ true → left ≡ []

-- ---- where lines lead

-- lines that come to their end lead from a point to the one behind the last of them
pub data LeadsTo (t : Tables) : Point → List Line → Point → Type 0 where
  nothing : (p : Point) → LeadsTo t p [] p
  message : (p q : Point) (l : Line) (lines : List Line)
      → is_message l.what ≡ true → LeadsTo t (further 1 p) lines q → LeadsTo t p (l ∷ lines) q
  settled : (p q : Point) (l : Line) (lines : List Line)
      → l.what ≡ whats.Settle → LeadsTo t p lines q → LeadsTo t p (l ∷ lines) q
  advanced : (p q r : Point) (l : Line) (time : ℕ) (lines ms : List Line)
      → l.what ≡ whats.Advance time → Advances t l.number (p.timers.time + time) p ms q true
      → LeadsTo t q lines r → LeadsTo t p (l ∷ lines) r

-- at the end of lines no armed timer is due: with all seen that happened, each is due later than the time to which the
-- lines led
pub record NoneIsDue (t : Tables) (lines : List Line) (j : Journals) : Type 0 where
  pub merge : List Placed
  pub is : IsMerge (events_of t j) merge
  pub end : Point
  pub leads : LeadsTo t (beginning merge) lines end
  pub later : AreLater (saw_all t end.timers end.ahead)
