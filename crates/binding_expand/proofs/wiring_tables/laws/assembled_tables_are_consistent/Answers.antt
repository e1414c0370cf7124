use Rattle.binding_expand.proofs.wiring_tables.Consistent.{assembled_consistent}
use Rattle.binding_expand.proofs.wiring_tables.laws.assembled_tables_are_consistent.Goals as goal

pub returns : goal.returns
returns c = λ m joins partners told known few limit complete. assembled_consistent m joins partners told known few limit complete
