-- A walk as a source of parts, from one part to the next.
use Rattle.std.proofs.Common.{◌≡◌, Bool, false, List, [], map, drop, refl, sym, ap, ◌∙◌, subst}
use Rattle.room_wiring.specs.declared.tables.Tables.{Tables}
use Rattle.inject_reader.specs.declared.inject_lines.accepted.Line.{Line}
use Rattle.inject_reader.specs.Fitting.{LinesFit}
use Rattle.model_run.specs.part_source.Calls.{Seen}
use Rattle.model_run.specs.part_source.Parts.{NextPart}
use Rattle.model_run.proofs.part_posts.FitLaw.{fit_drop}
use Rattle.room_timer.specs.Expansion.{saw_all}
use Rattle.room_timer.specs.Laws.{AllHear}
use Rattle.timed_runs.specs.Passed.{messages_in_front}
use Rattle.timed_runs.specs.Walks.{Walk, given_by, standing, Walks, Fits}
use Rattle.timed_runs.proofs.Fitting.{StandsFit, all_fit, all_hear}
use Rattle.timed_runs.proofs.Passing.{FollowsLater, next_part}
use Rattle.timed_runs.proofs.Path.{follows_of}

module _ (old new : Walk) (js : Seen) (more : Bool) (w : Walks old.wiring old js new more) (ends : messages_in_front (drop old.to old.lines) ≡ 0) where
  follows : FollowsLater (given_by old) (standing new more)
  follows = follows_of old.wiring old new js more w ends

  -- the next line isn't a message
  pub ends_again : messages_in_front (drop new.to new.lines) ≡ 0
  ends_again = follows.follows.ends

  pub part_follows : NextPart (given_by old) (given_by new) new.part more
  part_follows = next_part (given_by old) new.gone new.part more (standing new more) follows refl refl refl

  -- where no part is left, no line is
  pub none_left : more ≡ false → map (λ (l : Line). l.number) (drop new.to new.lines) ≡ []
  none_left e = ap (λ (ls : List Line). map (λ (l : Line). l.number) ls) (follows.follows.all e)

pub fits_again : (t : Tables) (old new : Walk) (js : Seen) (more : Bool) → Walks old.wiring old js new more → Fits t old → Fits t new
fits_again t old new js more w f = record {
  wiring = w.wiring ∙ f.wiring;
  lines = subst (LinesFit t) (sym w.lines) f.lines;
  part = stands.part;
  hears = stands.hears;
}
  where
    hears : AllHear t (saw_all old.wiring old.timers w.found)
    hears =
        subst (λ (z : Tables). AllHear t (saw_all z old.timers w.found)) (sym f.wiring) (all_hear t old.timers w.found f.hears)

    behind_fits : LinesFit t (drop old.to old.lines)
    behind_fits = fit_drop t old.to old.lines f.lines

    stands : StandsFit t (standing new more)
    stands = subst (StandsFit t) w.goes (all_fit t old.left (drop old.to old.lines) (given_by old) (saw_all old.wiring old.timers w.found) behind_fits hears)
