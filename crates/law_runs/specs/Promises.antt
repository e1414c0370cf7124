-- What a run promises, sentence by sentence.
-- Each field says one thing of the journals of a run, which a reader of the printed text can follow:
-- of messages (`Mail`), stamps (`Stamps`), the lives of actors (`Lives`), turns (`Turns`) and lines
-- (`Lines`). The law `runs_keep_their_promises`: the journals of every run keep them.
use Rattle.std.specs.Prelude.{◌≡◌, ℕ, ◌≤◌, ◌<◌, true, List, [], length}
use Rattle.journal.specs.declared.entry.Journals.{Journals}
use Rattle.inject_reader.specs.declared.inject_lines.accepted.Line.{Line}
use Rattle.controller_actors.specs.declared.plant.Plant.{Plant}
use Rattle.model_run.specs.run_ends.Runs.{journal_of, IsRun}
use Rattle.law_runs.specs.Lines.{asked, posted_as_asked}
use Rattle.law_runs.specs.Lives.{LivesAreKept}
use Rattle.law_runs.specs.Mail.{IsPrefix, MailIsKept, AllIsFetched}
use Rattle.law_runs.specs.Stamps.{StampsAreKept}
use Rattle.law_runs.specs.Turns.{TurnsAreKept, AllHadTurns, turns_in}

-- nothing is left of a run over these lines
pub record NothingIsLeft (plant : Plant) (lines : List Line) (j : Journals) : Type 0 where
  -- every line was posted
  pub all_posted : posted_as_asked j.environment ≡ asked plant.wiring lines
  -- every posted message was fetched
  pub all_fetched : AllIsFetched (journal_of j)
  -- every fetched message had a turn
  pub all_had_turns : (c : ℕ) → c < length j.controllers → AllHadTurns (journal_of j c)
  -- and the text tells of no message that is left, and of no line
  pub none_left : j.left ≡ []
  pub none_unposted : j.unposted ≡ []

-- what the journals of a run of a plant over lines promise, where each controller may take so many turns
pub record RunPromises (plant : Plant) (lines : List Line) (fuel : ℕ) (j : Journals) : Type 0 where
  -- what is sent between two ports at a priority arrives in order, and once
  pub mail : MailIsKept (length j.controllers) (journal_of j)
  -- what happens to a party is stamped later than all before, and a fetch later than its post
  pub stamps : StampsAreKept (journal_of j)
  -- each actor lives once, on the controller of its slot, and messages are dispatched to it only then
  pub lives : LivesAreKept plant.wiring (length j.controllers) (journal_of j)
  -- each turn takes the most urgent message that waits, and of its priority the oldest
  pub turns : (c : ℕ) → c < length j.controllers → TurnsAreKept (journal_of j c)
  -- no controller takes more turns than the fuel allows
  pub fuelled : (c : ℕ) → c < length j.controllers → turns_in (journal_of j c) ≤ fuel
  -- the environment posts what the lines ask for, in order
  pub lines_in_order : IsPrefix (posted_as_asked j.environment) (asked plant.wiring lines)
  -- where the run is done, nothing is left
  pub done : j.done ≡ true → NothingIsLeft plant lines j

-- the journals of every run keep their promises
abbrev pub RunsKeepPromises : Type 0
RunsKeepPromises = (plant : Plant) (lines : List Line) (fuel : ℕ) (j : Journals) → IsRun plant lines fuel j → RunPromises plant lines fuel j
