use Rattle.std.proofs.Common.{refl, sym, ap, ◌∙◌}
use Rattle.std.proofs.lemmas.Result.{IfOk-weaker}
use Rattle.inject_reader.specs.declared.inject_lines.accepted.What.TheVariants as whats
use Rattle.model_run.specs.part_source.Parts.{is_message}
use Rattle.timed_runs.specs.Shown.{shown}
use Rattle.timed_runs.proofs.Stepping.{settled, fresh_advance, taken}
use Rattle.timed_runs.proofs.walk.Walk.pass_line.Goals as goal

pub returns-in_ok-pass-in-Settle : goal.returns-in_ok-pass-in-Settle
returns-in_ok-pass-in-Settle c =
    settled (shown c.args.self.now) (shown c.pass.new.self) c.args.line.now c.requires.here c.requires.empty
    c.in_ok-pass-in-Settle.ensures c.requires.fresh c.in-Settle.is

pub returns-in-Advance : goal.returns-in-Advance
returns-in-Advance c =
    IfOk-weaker c.advance.result _ _
    (λ begun a.
    fresh_advance (shown c.args.self.now) (shown c.advance.new.self) c.args.line.now c.requires.here c.requires.empty c.from.result begun
    c.requires.fresh (c.in-Advance.is ∙ ap (λ time. whats.Advance time) (sym c.from.ensures)) a)
    c.advance.ensures

pub returns-in_ok-take_messages-in-Message : goal.returns-in_ok-take_messages-in-Message
returns-in_ok-take_messages-in-Message c =
    taken (shown c.args.self.now) (shown c.take_messages.new.self) c.args.line.now c.requires.here c.requires.empty c.args.line.now.what
    (ap is_message c.in-Message.is) c.requires.fresh refl c.in_ok-take_messages-in-Message.ensures
