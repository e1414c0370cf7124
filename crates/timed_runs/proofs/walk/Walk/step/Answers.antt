use Rattle.std.proofs.Common.{length, refl}
use Rattle.std.proofs.lemmas.Option.{slice_get_read}
use Rattle.std.proofs.lemmas.Result.{IfOk-weaker}
use Rattle.timed_runs.specs.Shown.{shown}
use Rattle.timed_runs.proofs.Stepping.{advance_in_hand}
use Rattle.timed_runs.proofs.walk.Walk.step.Goals as goal

pub returns-in-Some : goal.returns-in-Some
returns-in-Some c =
    let lines = c.args.self.now.lines.now in
    let here = slice_get_read lines (length lines) c.args.self.now.to c.index-lines-self.result refl c.requires.within c.index-lines-self.is in
    IfOk-weaker c.advance.result _ _
    (λ begun a.
    advance_in_hand (shown c.args.self.now) (shown c.advance.new.self) c.index-lines-self.result here c.requires.empty
    c.in-Some.time begun c.in-Some.is a)
    c.advance.ensures
