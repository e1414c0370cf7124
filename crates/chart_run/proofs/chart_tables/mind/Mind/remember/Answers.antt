use Rattle.std.proofs.Common.{ℕ, Option, ap, length-set}
use Rattle.action_program.specs.Meaning.{Ran, ran}
use Rattle.chart_model.specs.chart_plan.Handling.{Memory, put, remember}
use Rattle.chart_run.proofs.chart_tables.MindLemmas.{remembers}
use Rattle.chart_run.proofs.chart_tables.mind.Mind.remember.Goals as goal

pub returns : goal.returns
unfolding remember put
returns c = record {
  seen =
      let f : (ℕ → Option ℕ) → Memory ℕ Ran = λ f. record { past = f; ran = ran c.args.self.now.vars c.args.self.now.effects } in
      rw c.from.ensures (ap f (remembers c.args.self.now.past.items c.args.state c.args.leaf c.requires));
  size = simp length-set;
}
