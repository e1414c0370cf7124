-- What a run over a source of timed lines answers.
use Rattle.std.proofs.Common.{◌≡◌, ℕ, true, List, ◌++◌, drop, Result, IfOk, sym, ap, subst}
use Rattle.std.specs.List.{AllByRecursion}
use Rattle.std.specs.declared.alloc.AllocError.{AllocError}
use Rattle.mail_core.proofs.DrainLemmas.{IfOk-both}
use Rattle.journal.specs.declared.entry.Journals.{Journals}
use Rattle.room_wiring.specs.declared.tables.Tables.{Tables}
use Rattle.inject_reader.specs.declared.inject_lines.accepted.Line.{Line}
use Rattle.inject_reader.specs.Fitting.{LinesFit}
use Rattle.controller_actors.specs.declared.plant.Plant.{Plant}
use Rattle.model_run.specs.part_source.Calls.{Seen, seen_in, Asked}
use Rattle.model_run.specs.part_source.Parts.{IsPart}
use Rattle.model_run.specs.run_ends.Runs.{IsRun, RanThrough}
use Rattle.model_run.proofs.fixed_lines.FixedLaw.{messages_in_front as in_front}
use Rattle.model_run.proofs.part_posts.FitLaw.{fit_take}
use Rattle.room_timer.specs.Timers.{Timers}
use Rattle.room_timer.specs.Laws.{AllHear, IsPlain}
use Rattle.timed_runs.specs.Passed.{messages_in_front}
use Rattle.timed_runs.specs.Shown.{shown}
use Rattle.timed_runs.specs.Timed.{numbers_of, IsTimedRun, NoneIsDue}
use Rattle.timed_runs.specs.Walks.{Walk, given_by, Begins, Fits, Goes, Stood}
use Rattle.timed_runs.specs.declared.timed_lines.TimedLines.{TimedLines}
use Rattle.timed_runs.proofs.Later.{none_is_due}
use Rattle.timed_runs.proofs.Mapping.{asked_map}
use Rattle.timed_runs.proofs.Whole.{timed, plain_run}

module _ (t : Tables) (lines : List Line) (w : Walk) (begins : Begins t lines w) where
  -- all that was given so far is the first part
  pub first_given : given_by w ≡ w.part
  first_given = ap (λ (z : List Line). z ++ w.part) begins.gone

  pub first_part : IsPart w.part
  first_part = subst IsPart (sym begins.part) (in_front lines)

  pub first_fits : LinesFit t lines → Fits t w
  first_fits fit = record {
    wiring = begins.wiring;
    lines = subst (LinesFit t) (sym begins.lines_are) fit;
    part = subst (LinesFit t) (sym begins.part) (fit_take t (messages_in_front lines) lines fit);
    hears = subst (λ (ts : Timers). AllHear t ts) (sym begins.timers) tt;
  }

-- a run that asked this source went through all that it gave
abbrev pub Ran : Plant → ℕ → TimedLines → Journals → Type 0
Ran plant fuel end j =
    RanThrough plant (given_by (shown end.walk)) (numbers_of (drop end.walk.to end.walk.lines.now)) fuel j

-- and these were all calls of it
abbrev pub Called : Plant → ℕ → TimedLines → TimedLines → Journals → Type 0
Called plant fuel first end j =
    Asked (λ (old : TimedLines) (js : Seen) (new : TimedLines). Goes (shown old.walk) js (shown new.walk))
    (λ (s : TimedLines) (js : Seen). Stood plant fuel (shown s.walk) js) first end (seen_in j)

module _ (plant : Plant) (lines : List Line) (fuel : ℕ) (first end : TimedLines) (begins : Begins plant.wiring lines (shown first.walk)) where
  asked_walks : (j : Journals) → Called plant fuel first end j → Asked Goes (Stood plant fuel) (shown first.walk) (shown end.walk) (seen_in j)
  asked_walks j asked = asked_map (λ (s : TimedLines). shown s.walk) Goes (Stood plant fuel) first end (seen_in j) asked

  timed_of : LinesFit plant.wiring lines → (j : Journals) → Ran plant fuel end j → Called plant fuel first end j → IsTimedRun plant lines fuel j
  timed_of fit j ran asked = timed plant lines fuel j (shown first.walk) (shown end.walk) begins (asked_walks j asked) ran fit

  module _ (r : Result Journals AllocError) (ran : IfOk r (Ran plant fuel end)) (asked : IfOk r (Called plant fuel first end)) where
    pub is_timed : LinesFit plant.wiring lines → IfOk r (λ j. IsTimedRun plant lines fuel j)
    is_timed fit = IfOk-both r _ _ _ (timed_of fit) ran asked

    pub is_later : LinesFit plant.wiring lines → IfOk r (λ j. j.done ≡ true → NoneIsDue plant.wiring lines j)
    is_later fit =
        IfOk-both r _ _ _
        (λ j went called done.
        let t : IsTimedRun plant lines fuel j = timed_of fit j went called in
        none_is_due plant.wiring lines t.expansion t.left j t.is done (t.whole done))
        ran asked

    pub is_run_where_plain : IfOk r (λ j. AllByRecursion IsPlain lines → IsRun plant lines fuel j)
    is_run_where_plain =
        IfOk-both r _ _ _
        (λ j went called plain. plain_run plant lines fuel j (shown first.walk) (shown end.walk) begins (asked_walks j called) went plain)
        ran asked
