-- What a source of parts saw of a run when it was asked: the journals of a run that is done with all lines so far.
use Rattle.std.specs.Prelude.{◌≡◌, ℕ, true, List, [], ◌++◌, map, slice_index_or}
use Rattle.journal.specs.declared.entry.Entry.{Entry}
use Rattle.journal.specs.declared.entry.Journals.{Journals}
use Rattle.inject_reader.specs.declared.inject_lines.accepted.Line.{Line}
use Rattle.controller_mail.specs.MailState.{EnvironmentState}
use Rattle.controller_actors.specs.declared.plant.Plant.{Plant}
use Rattle.controller.specs.View.{Controller}
use Rattle.model_run.specs.run_ends.Runs.{IsRun}

-- the journals of all controllers, in order, and of the environment
pub record Seen : Type 0 where
  pub controllers : List (List Entry)
  pub environment : List Entry

abbrev pub seen : List Controller → EnvironmentState → Seen
seen ks env = record { controllers = map (λ (k : Controller). k.mail.journal) ks; environment = env.journal }

abbrev pub seen_in : Journals → Seen
seen_in j = record { controllers = j.controllers; environment = j.environment }

-- each journal is the same or has entries more
pub record Grew (old new : Seen) : Type 0 where
  pub controllers : (c : ℕ) → (more : List Entry) × (slice_index_or new.controllers c [] ≡ slice_index_or old.controllers c [] ++ more)
  pub environment : (more : List Entry) × (new.environment ≡ old.environment ++ more)

-- what a run that is done tells whose journals are these: nothing is left of it
abbrev pub told_done : Seen → Journals
told_done s = record { controllers = s.controllers; environment = s.environment; left = []; unposted = []; done = true }

-- the journals so far are those of a run over the lines so far, and it is done
pub record StoodQuiet (plant : Plant) (given : List Line) (fuel : ℕ) (journals : Seen) : Type 0 where
  pub run : IsRun plant given fuel (told_done journals)

-- a source was asked, or not, while the journals stood so
pub data MayAsk {S : Type 0} (goes_on : S → Seen → S → Type 0) (stood : S → Seen → Type 0) (old : S) (journals : Seen) : S → Type 0 where
  not_asked : MayAsk goes_on stood old journals old
  asked : (new : S) → stood old journals → goes_on old journals new → MayAsk goes_on stood old journals new

-- and then the journals grew
pub record Asks {S : Type 0} (goes_on : S → Seen → S → Type 0) (stood : S → Seen → Type 0) (old new : S) (before after : Seen) : Type 0 where
  pub may : MayAsk goes_on stood old before new
  pub grew : Grew before after

-- all calls of a source up to these journals: at each it saw the journals as they stood then
pub data Asked {S : Type 0} (goes_on : S → Seen → S → Type 0) (stood : S → Seen → Type 0) (start : S) : S → Seen → Type 0 where
  never : (journals : Seen) → Asked goes_on stood start start journals
  once_more : (mid now : S) (before journals : Seen) → Asked goes_on stood start mid before → stood mid before → goes_on mid before now → Grew before journals
      → Asked goes_on stood start now journals
