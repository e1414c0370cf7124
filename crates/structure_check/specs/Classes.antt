-- The actor classes that a checked model keeps.
use Rattle.std.specs.Prelude.{◌≡◌}
use Rattle.room_ast.specs.Trees.{model_view}
use Rattle.room_ast.specs.model_parts.Classes.{actors}
use Rattle.check_scopes.specs.class_scopes.Making.{actor_views}
use Rattle.structure_check.specs.declared.checked_model.Checked.{Checked}

-- The classes that a checked model keeps are the actor classes of its model, by number.
abbrev pub HasClasses : Checked → Type 0
HasClasses c = actor_views c.classes.items ≡ actors (model_view c.model.now)
