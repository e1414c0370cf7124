use Rattle.name_tables.proofs.name_numbers.Lists.{any_names}
use Rattle.name_tables.proofs.name_numbers.Numbers.add.Goals as goal

pub returns-clause-new : goal.returns-clause-new
returns-clause-new c = rw (← c.self.view_is, ← any_names c.args.name.now c.self.inside.names.keys) c.insert.ensures.added
