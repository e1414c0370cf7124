-- The names in a model whose classes have all that they have from their bases: no others than in the model.
use Rattle.room_ast.specs.Trees.{ModelTree}
use Rattle.room_ast.specs.Tokens.{model_tokens}
use Rattle.room_tokens.specs.token_names.Names.{HasNames}
use Rattle.room_inherit.specs.Flat.{flat}

-- where the names in a model are names of the language, so are those in the model without bases
abbrev pub FlatKeepsNames : Type 0
FlatKeepsNames = (m : ModelTree) → HasNames (model_tokens m) → HasNames (model_tokens (flat m))
