use Rattle.std.proofs.Common.{length, ◌++◌, map, reverse, sym, ap, ◌∙◌}
use Rattle.std.specs.List.{filter_map}
use Rattle.std.proofs.lemmas.List.{append-nil, length-map}
use Rattle.name_tables.specs.name_numbers.Names.{names_of}
use Rattle.check_scopes.specs.class_scopes.Fields.{field_view, kept_attribute}
use Rattle.check_scopes.specs.class_scopes.Views.{attribute_view}
use Rattle.check_scopes.specs.class_scopes.Walks.{walk_view, pending_view, pending_at}
use Rattle.check_scopes.proofs.class_scopes.WalkLaws.{all_numbers}
use Rattle.check_scopes.proofs.class_scopes.numbers.attributes_of.Goals as goal

pub returns : goal.returns
returns c =
    all_numbers (map (map field_view) c.args.fields.now) (filter_map (kept_attribute c.args.names.now c.args.kinds.now) c.args.items.now) (length c.args.fields.now)
    (walk_view (record { path = c.new.result; pending = c.push_fields.new.pending; numbers = c.new-3.result })) (map attribute_view c.walk_all.new.walk.numbers.items) (sym (length-map c.args.fields.now (map field_view)))
    (ap names_of c.new.ensures.items) (ap (map attribute_view) c.new-3.ensures.items)
    (c.in_ok-push_fields.ensures ∙ ap (λ ps. map (pending_at (length c.args.fields.now) 0) (map field_view c.as_slice.result.now) ++ reverse (map pending_view ps)) c.new-2.ensures.items ∙ append-nil _
    ∙ ap (λ fs. map (pending_at (length c.args.fields.now) 0) (map field_view fs)) c.as_slice.ensures.value ∙ ap (map (pending_at (length c.args.fields.now) 0)) c.in_ok-attributes.ensures)
    c.in_ok-walk_all.ensures
