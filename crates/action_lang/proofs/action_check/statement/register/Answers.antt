use Rattle.action_lang.proofs.action_check.Known.{name_grows}
use Rattle.action_lang.proofs.action_check.statement.register.Goals as goal

pub returns-clause-grown : goal.returns-clause-grown
returns-clause-grown c = rw c.in_ok-name.ensures.names (name_grows c.args.names.now c.args.name.now)
