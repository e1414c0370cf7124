-- The journals of runs are tied: each fetch is told by the post that it names.
use Rattle.std.specs.Prelude.{ℕ, List}
use Rattle.journal.specs.declared.entry.Journals.{Journals}
use Rattle.tied_journals.specs.Tied.{Tied}
use Rattle.inject_reader.specs.declared.inject_lines.accepted.Line.{Line}
use Rattle.controller_actors.specs.declared.plant.Plant.{Plant}
use Rattle.model_run.specs.run_ends.Runs.{IsRun}

-- over every run of every plant, over any lines
abbrev pub RunsAreTied : Type 0
RunsAreTied = (plant : Plant) (lines : List Line) (fuel : ℕ) (j : Journals) → IsRun plant lines fuel j → Tied j
