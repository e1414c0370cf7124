use Rattle.law_models.proofs.class_laws.Models.{charts_name, tables_name}
use Rattle.law_models.proofs.class_laws.charts_name_their_class.Goals as goal

pub returns-clause-charts : goal.returns-clause-charts
returns-clause-charts c = charts_name

pub returns-clause-tables : goal.returns-clause-tables
returns-clause-tables c = tables_name
