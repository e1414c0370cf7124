use Rattle.std.proofs.Common.{◌∙◌}
use Rattle.name_tables.proofs.name_numbers.Lists.{position_names}
use Rattle.name_tables.proofs.name_numbers.Numbers.number_of.Goals as goal

pub returns : goal.returns
returns c = rw (← c.self.view_is) (c.get_index_of.ensures.index ∙ position_names c.args.name.now c.self.inside.names.keys)
