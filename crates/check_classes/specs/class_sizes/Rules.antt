-- The rule on the size of data classes.
use Rattle.std.specs.Prelude.{ℕ, Bool, List, length, nat_le}
use Rattle.std.specs.List.{list_all}
use Rattle.room_ast.specs.Trees.{ModelTree}
use Rattle.room_ast.specs.model_parts.Types.{data_types}
use Rattle.check_classes.specs.class_sizes.Sizes.{sizes_within}

-- Rule 8. A data class stands for at most 64 numbers. Classes are looked into as deep as there are classes, which is deep enough where none contains itself.
unfoldable pub has_small_classes : ModelTree → Bool
has_small_classes m = list_all (λ ts. nat_le (sizes_within (length (data_types m)) (data_types m) ts) 64) (data_types m)
