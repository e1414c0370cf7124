use Rattle.std.proofs.Common.{◌∙◌, ap}
use Rattle.name_tables.specs.name_numbers.Names.{same}
use Rattle.std.specs.Prelude.{is_some}
use Rattle.name_tables.proofs.name_index.Lists.{some_place}
use Rattle.name_tables.proofs.name_index.NameIndex.has.Goals as goal

pub returns : goal.returns
returns c = c.is_some.ensures ∙ ap is_some c.place_of.ensures ∙ some_place (same c.args.name.now) c.args.self.now
