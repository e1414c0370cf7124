use Rattle.std.proofs.Common.{◌∙◌}
use Rattle.name_tables.proofs.name_numbers.Lists.{any_names}
use Rattle.name_tables.proofs.name_numbers.Numbers.has.Goals as goal

pub returns : goal.returns
returns c = rw (← c.self.view_is) (c.contains.ensures ∙ any_names c.args.name.now c.self.inside.names.keys)
