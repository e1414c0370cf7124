use Rattle.action_lang.proofs.action_check.Known.{look_up}
use Rattle.action_lang.proofs.action_check.names.number_in.Goals as goal

pub returns : goal.returns
returns c = look_up c.get_index_of.result c.args.known.now.keys c.args.name.now c.get_index_of.ensures.index
