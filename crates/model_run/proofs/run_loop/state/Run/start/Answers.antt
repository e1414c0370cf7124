use Rattle.std.proofs.Common.{sym, subst}
use Rattle.controller_mail.specs.MailState.{EnvironmentState}
use Rattle.model_run.specs.part_posts.Items.{items_of}
use Rattle.model_run.specs.run_loop.Plays.{BeforePart}
use Rattle.model_run.proofs.run_loop.PlayLaw.{before_first}
use Rattle.model_run.proofs.run_loop.state.Run.start.Goals as goal

pub returns : goal.returns
returns c = λ part of. record {
  before = λ e. subst (λ (z : EnvironmentState). BeforePart c.args.plant.now (items_of c.args.plant.now.wiring part) part c.args.fuel c.in_ok-controllers.controllers.items z) (sym c.new.ensures)
      (before_first c.args.plant.now c.args.fuel part c.in_ok-controllers.controllers.items of c.in_ok-controllers.ensures);
  within = λ e. absurd cc;
}
