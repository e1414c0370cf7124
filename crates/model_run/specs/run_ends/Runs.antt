-- The run of a plant over lines: lawful, prompt and ended.
-- `IsRun` is what `run_local` answers: a world to which the journals lead (`IsLawfulRun`), prompt
-- turns (`IsPrompt`), and an end (`IsEnded`), as `actor_world` defines them. `RanThrough` says the same of
-- lines that came part by part, with whatever lines are left of them.
use Rattle.std.specs.Prelude.{◌≡◌, ℕ, Bool, true, false, List, [], ◌∷◌, ◌++◌, map, length, slice_index_or, nat_lt, if◌then◌else◌}
use Rattle.journal.specs.declared.entry.Entry.{Entry}
use Rattle.journal.specs.declared.entry.Journals.{Journals}
use Rattle.inject_reader.specs.declared.inject_lines.accepted.Line.{Line}
use Rattle.actor_merge.specs.World.{World}
use Rattle.actor_world.specs.Body.{Body}
use Rattle.actor_world.specs.Journals.{lines_of, IsLawfulRun, IsPrompt, IsEnded}
use Rattle.chart_behaviour.specs.ModelCharts.{Actor}
use Rattle.controller_actors.specs.Plants.{model_of}
use Rattle.controller_actors.specs.declared.plant.Plant.{Plant}
use Rattle.controller.specs.Controllers.{run_plant}
use Rattle.model_run.specs.part_posts.Items.{items_of}
use Rattle.model_run.specs.part_source.Parts.{is_message}

-- the journal of a party; the environment is the party after the last controller
abbrev pub journal_of : Journals → ℕ → List Entry
journal_of j party = if nat_lt party (length j.controllers) then slice_index_or j.controllers party [] else if◌then◌else◌ (nat_lt (length j.controllers) party) [] j.environment

-- these journals are those of a run of this plant over these lines with so much fuel: there is a world to
-- which they lead, merged by stamp and party; each controller looked for its own mail before each turn;
-- and the run ended because all is quiet and posted, or because the fuel is spent
pub record IsRun (plant : Plant) (lines : List Line) (fuel : ℕ) (j : Journals) : Type 0 where
  pub world : World (Body Actor)
  pub count : length j.controllers ≡ length plant.wiring.controllers
  pub lawful : IsLawfulRun (model_of plant) plant.wiring (lines_of (items_of plant.wiring lines)) fuel (journal_of j) j.left world
  pub prompt : IsPrompt (length plant.wiring.controllers) (journal_of j)
  pub ended : IsEnded (run_plant plant (lines_of (items_of plant.wiring lines))) (items_of plant.wiring lines) fuel world j.left j.unposted j.done

-- what may be left of the lines where a run ended: nothing; or, where it isn't done, lines from one without a message on
pub data MayBeLeft : Bool → List Line → Type 0 where
  nothing : {done : Bool} → MayBeLeft done []
  from_settle : (l : Line) (rest : List Line) → is_message l.what ≡ false → MayBeLeft false (l ∷ rest)

-- These journals are those of a run that went through the lines that were given, and told these numbers of
-- lines as left: of a run over these lines and any others that may be left. If it is done, nothing is left.
pub record RanThrough (plant : Plant) (given : List Line) (left : List ℕ) (fuel : ℕ) (j : Journals) : Type 0 where
  pub runs : (rest : List Line) → MayBeLeft j.done rest → IsRun plant (given ++ rest) fuel (record j { unposted = map (λ (l : Line). l.number) rest })
  pub unposted : j.unposted ≡ left
  pub whole : j.done ≡ true → left ≡ []
