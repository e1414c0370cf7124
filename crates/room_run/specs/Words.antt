-- What the words of a call ask for.
use Rattle.std.specs.Prelude.{ℕ, List, [], ◌∷◌, Bool, ◌&&◌, Option, Some, None, option_map, if◌then◌else◌, nat_eq, codes}
use lib.Pointwise.{pointwise}
use Rattle.text_reading.specs.Numerals.{plain_in}
use Rattle.room_run.specs.declared.asked.Asked.{Asked as CodeAsked}
use Rattle.room_run.specs.declared.asked.Asked.TheVariants as code
use Rattle.room_run.specs.declared.asked.Files.{Files as CodeFiles}
use Rattle.room_run.specs.declared.asked.Judged.{Judged as CodeJudged}
use Rattle.room_run.specs.declared.asked.Record.{Record as CodeRecord}

-- the names of the two files of a run
pub record Files : Type 0 where
  pub model : List ℕ
  pub injections : List ℕ

-- the names of the files of a model and of journals
pub record Record : Type 0 where
  pub model : List ℕ
  pub journals : List ℕ

-- the names of the files of a run, and of the journals that are judged or shown by them
pub record Judged : Type 0 where
  pub run : Files
  pub journals : List ℕ

-- what is asked for, of the files of these names, or of a made model of so many actors
pub data Asked : Type 0 where
  Check : (model : List ℕ) → Asked
  Tree : (model : List ℕ) → Asked
  Run : (files : Files) (fuel : ℕ) → Asked
  Convert : (files : Record) → Asked
  Verify : (files : Judged) (fuel : ℕ) → Asked
  Show : (files : Judged) (at : ℕ) → Asked
  Made : (actors : ℕ) → Asked

-- whether a word is this one
abbrev pub is_word : List ℕ → List ℕ → Bool
is_word = pointwise nat_eq

-- the fuel of a run whose words name none
abbrev pub usual_fuel : ℕ
usual_fuel = 10000

-- the fuel that a word names, from 1 to 100,000
abbrev pub fuel_of : List ℕ → Option ℕ
fuel_of word = plain_in 100000 word

-- the stamp that a word names, from 0 to 9,223,372,036,854,775,807
abbrev pub stamp_of : List ℕ → Option ℕ
stamp_of word = if is_word word (codes "0") then Some 0 else plain_in 9223372036854775807 word

-- how many actors a word names, from 1 to 4,000
abbrev pub actors_of : List ℕ → Option ℕ
actors_of word = plain_in 4000 word

-- what a word asks for of a model, or of so many actors
abbrev pub asked_of : List ℕ → List ℕ → Option Asked
asked_of command word =
    if is_word command (codes "check") then Some (Check word)
    else if is_word command (codes "tree") then Some (Tree word)
    else if is_word command (codes "made") then option_map Made (actors_of word)
    else None

-- a run of these files
abbrev pub run_asked : List ℕ → List ℕ → ℕ → Asked
run_asked model injections fuel = Run (record { model = model; injections = injections }) fuel

-- the text in form 2 of the journals of these files
abbrev pub convert_asked : List ℕ → List ℕ → Asked
convert_asked model journals = Convert (record { model = model; journals = journals })

-- what three words ask for
abbrev pub asked_of_files : List ℕ → List ℕ → List ℕ → Option Asked
asked_of_files command model second =
    if is_word command (codes "run") then Some (run_asked model second usual_fuel)
    else if is_word command (codes "convert") then Some (convert_asked model second)
    else None

-- the verdict on journals, by a run of these files
abbrev pub verify_asked : List ℕ → List ℕ → List ℕ → ℕ → Asked
verify_asked model injections journals fuel =
    Verify (record { run = record { model = model; injections = injections }; journals = journals }) fuel

-- what four words ask for
abbrev pub asked_of_journals : List ℕ → List ℕ → List ℕ → List ℕ → Option Asked
asked_of_journals command model injections journals =
    if is_word command (codes "verify") then Some (verify_asked model injections journals usual_fuel) else None

-- what five words ask for
abbrev pub asked_with : List ℕ → List ℕ → List ℕ → List ℕ → List ℕ → Option Asked
asked_with command model injections flag fuel =
    if is_word command (codes "run") && is_word flag (codes "--fuel") then option_map (run_asked model injections) (fuel_of fuel) else None

-- the system at a stamp of journals, by a run of these files
abbrev pub show_asked : List ℕ → List ℕ → List ℕ → ℕ → Asked
show_asked model injections journals at =
    Show (record { run = record { model = model; injections = injections }; journals = journals }) at

-- what six words ask for
abbrev pub asked_of_journals_with : List ℕ → List ℕ → List ℕ → List ℕ → List ℕ → List ℕ → Option Asked
asked_of_journals_with command model injections journals flag word =
    if is_word command (codes "verify") && is_word flag (codes "--fuel") then option_map (verify_asked model injections journals) (fuel_of word)
    else if is_word command (codes "show") && is_word flag (codes "--at") then option_map (show_asked model injections journals) (stamp_of word)
    else None

-- `check MODEL` asks whether a model keeps all rules and its wiring and charts have no fault, `tree MODEL` for its slots and joined places, `run MODEL INJECT` for the run of a model over injections with the usual fuel, `run MODEL INJECT --fuel N` for the same with this one, `convert MODEL JOURNALS` for journals of a model in form 2, `verify MODEL INJECT JOURNALS` for the verdict on journals by the run of a model over injections with the usual fuel, or with the one that `--fuel N` behind it names, `show MODEL INJECT JOURNALS --at S` for the system after all that happened by journals up to a stamp, and `made N` for the summary of the run of a made model of N actors; no other list of words asks for anything
abbrev pub asked_by : List (List ℕ) → Option Asked
asked_by (command ∷ word ∷ []) = asked_of command word
asked_by (command ∷ model ∷ second ∷ []) = asked_of_files command model second
asked_by (command ∷ model ∷ injections ∷ journals ∷ []) = asked_of_journals command model injections journals
asked_by (command ∷ model ∷ injections ∷ flag ∷ fuel ∷ []) = asked_with command model injections flag fuel
asked_by (command ∷ model ∷ injections ∷ journals ∷ flag ∷ word ∷ []) =
    asked_of_journals_with command model injections journals flag word
asked_by words = None

-- the names that the code keeps
abbrev pub files_view : CodeFiles → Files
files_view files = record { model = files.model.now; injections = files.injections.now }

abbrev pub record_view : CodeRecord → Record
record_view files = record { model = files.model.now; journals = files.journals.now }

abbrev pub judged_view : CodeJudged → Judged
judged_view files = record { run = files_view files.run; journals = files.journals.now }

abbrev pub asked_view : CodeAsked → Asked
asked_view (code.Check name) = Check name.now
asked_view (code.Tree name) = Tree name.now
asked_view (code.Run files fuel) = Run (files_view files) fuel
asked_view (code.Convert files) = Convert (record_view files)
asked_view (code.Verify files fuel) = Verify (judged_view files) fuel
asked_view (code.Show files at) = Show (judged_view files) at
asked_view (code.Made actors) = Made actors
