-- The files that words name.
use Rattle.std.specs.Prelude.{ℕ, List, Option, Some, None, option_map}
use Rattle.room_run.specs.Words.{Asked, Check, Tree, Run, Convert, Verify, Show, Made}
use Rattle.room_run.specs.declared.named.NamedFiles.{NamedFiles as CodeNamed}

-- the names of the model and of the injections that are read
pub record NamedFiles : Type 0 where
  pub model : Option (List ℕ)
  pub injections : Option (List ℕ)

-- those of what is asked for; a made model stands in no file
abbrev pub named_by : Asked → NamedFiles
named_by (Check model) = record { model = Some model; injections = None }
named_by (Tree model) = record { model = Some model; injections = None }
named_by (Run files fuel) = record { model = Some files.model; injections = Some files.injections }
named_by (Convert files) = record { model = Some files.model; injections = None }
named_by (Verify files fuel) = record { model = Some files.run.model; injections = Some files.run.injections }
named_by (Show files at) = record { model = Some files.run.model; injections = Some files.run.injections }
named_by (Made actors) = record { model = None; injections = None }

abbrev pub named_view : CodeNamed → NamedFiles
named_view named = record {
  model = option_map (λ name. name.now) named.model;
  injections = option_map (λ name. name.now) named.injections;
}
