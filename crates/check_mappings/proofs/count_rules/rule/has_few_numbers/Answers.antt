use Rattle.std.proofs.Common.{map, ap, ◌∙◌}
use Rattle.std.specs.List.{list_all, filter_map}
use Rattle.room_ast.specs.Trees.{class_view, model_view}
use Rattle.room_ast.specs.model_parts.Classes.{as_actor}
use Rattle.check_classes.proofs.class_sizes.RuleLaws.{none_is_finite}
use Rattle.check_mappings.specs.count_rules.Counting.{numbers_fit}
use Rattle.check_mappings.proofs.count_rules.NumberLaws.{few_by_sizes, some_sizes, no_sizes}
use Rattle.check_mappings.proofs.count_rules.rule.has_few_numbers.Goals as goal

pub returns-in-Some : goal.returns-in-Some
returns-in-Some c = λ finite.
    few_by_sizes (model_view c.args.model.now) c.args.tables.now c.as_slice.result.now c.in-Some.sizes.items (filter_map as_actor (map class_view c.as_slice-classes.result.now)) _ c.requires c.as_slice.ensures
    (some_sizes _ _ _ c.in_ok-sizes.ensures c.in-Some.is) (ap (λ cs. filter_map as_actor (map class_view cs)) c.as_slice-classes.ensures)
    (c.all_numbers_fit.ensures ∙ ap (λ sizes. list_all (numbers_fit c.args.tables.now.names.data_classes sizes) (filter_map as_actor (map class_view c.as_slice-classes.result.now))) c.as_slice-in-Some.ensures.value)

pub returns-in-None : goal.returns-in-None
returns-in-None c = λ finite. absurd (none_is_finite (model_view c.args.model.now) c.args.tables.now c.as_slice.result.now c.requires c.as_slice.ensures (no_sizes _ _ c.in_ok-sizes.ensures c.in-None.is) finite)
