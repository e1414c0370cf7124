-- The texts of a made model, which nobody had to write into files: what is said of its run is what is said of the run of two files on a shelf that has these texts.
use Rattle.std.specs.Prelude.{ℕ, Some, None, if◌then◌else◌, codes}
use Rattle.room_outside.specs.Shown.{Shown}
use Rattle.made_model.specs.Texts.{model_text, injections_text}
use Rattle.room_run.specs.Words.{Files, is_word}

-- the files of a made model
abbrev pub made_files : Files
made_files = record { model = codes "model"; injections = codes "injections" }

-- a shelf that has the made model of so many actors and its injections in these files, and nothing else; no read of it has failed
abbrev pub made_shelf : ℕ → Shown
made_shelf actors = record {
  text = λ name.
      if is_word name made_files.model then Some (model_text actors)
      else if is_word name made_files.injections then Some (injections_text actors)
      else None;
  faults = λ name. 0;
}
