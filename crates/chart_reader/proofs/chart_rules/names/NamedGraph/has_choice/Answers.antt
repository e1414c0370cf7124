use Rattle.std.proofs.Common.{◌∙◌, ap}
use Rattle.name_tables.specs.name_numbers.Names.{is_among}
use Rattle.chart_model.specs.Chart.{Name}
use Rattle.chart_reader.proofs.chart_rules.names.NamedGraph.has_choice.Goals as goal

pub returns : goal.returns
returns c =
    c.has.ensures ∙ ap (λ (n : Name). is_among c.args.self.now.choices n) c.as_bytes.ensures ∙ ap (λ ns. is_among ns c.args.name.now) c.args.self.now.choices_are
