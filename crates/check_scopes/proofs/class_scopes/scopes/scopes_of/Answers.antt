use Rattle.std.proofs.Common.{map, refl, ap, ◌∙◌}
use Rattle.std.specs.List.{filter_map}
use Rattle.room_ast.specs.Trees.{class_view, model_view}
use Rattle.room_ast.specs.model_parts.Classes.{as_actor}
use Rattle.check_scopes.specs.class_scopes.Making.{tables_view, actor_views}
use Rattle.check_scopes.proofs.class_scopes.ScopeLaws.{scopes_are, references_few, messages_few, ports_few, all_numbers_few, made_scopes}
use Rattle.check_scopes.proofs.class_scopes.scopes.scopes_of.Goals as goal

pub scopes_by-requires-clause-signals : goal.scopes_by-requires-clause-signals
scopes_by-requires-clause-signals c = messages_few (model_view c.args.model.now) (tables_view c.in_ok-made.made) c.in_ok-made.ensures c.requires.few

pub scopes_by-requires-clause-numbers : goal.scopes_by-requires-clause-numbers
scopes_by-requires-clause-numbers c =
    all_numbers_few (model_view c.args.model.now) c.args.tables.now (tables_view c.in_ok-made.made) (actor_views c.as_slice-2.result.now) c.args.tables.now.names.data_classes c.requires.tables refl c.in_ok-made.ensures c.requires.fitting c.requires.few
    (ap actor_views c.as_slice-2.ensures.value ∙ c.in_ok-classes.ensures ∙ ap (λ cs. filter_map as_actor (map class_view cs)) c.as_slice.ensures)

pub scopes_by-requires-clause-entries : goal.scopes_by-requires-clause-entries
scopes_by-requires-clause-entries c = ports_few (model_view c.args.model.now) c.args.tables.now c.as_slice-3.result.now c.requires.tables c.as_slice-3.ensures c.requires.few

pub scopes_by-requires-clause-references : goal.scopes_by-requires-clause-references
scopes_by-requires-clause-references c =
    references_few (model_view c.args.model.now) (actor_views c.as_slice-2.result.now) (ap actor_views c.as_slice-2.ensures.value ∙ c.in_ok-classes.ensures ∙ ap (λ cs. filter_map as_actor (map class_view cs)) c.as_slice.ensures) c.requires.few

pub returns : goal.returns
returns c =
    made_scopes c.scopes_by.result _ _
    (scopes_are (model_view c.args.model.now) c.args.tables.now (tables_view c.in_ok-made.made) (actor_views c.as_slice-2.result.now) c.as_slice-3.result.now c.args.tables.now.names.data_classes _ c.requires.tables c.in_ok-made.ensures c.requires.fitting
    (ap actor_views c.as_slice-2.ensures.value ∙ c.in_ok-classes.ensures ∙ ap (λ cs. filter_map as_actor (map class_view cs)) c.as_slice.ensures) c.as_slice-3.ensures refl refl)
    c.scopes_by.ensures
