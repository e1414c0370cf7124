-- The texts of names.
use Rattle.std.specs.Prelude.{ℕ, nat_lt, List, [], if◌then◌else◌}
use Rattle.std.specs.List.{list_all}

-- The text of a name. Names are ASCII, as every text's are; one that isn't has an empty text.
unfoldable pub label_of : List ℕ → List ℕ
label_of name = if list_all (λ b. nat_lt b 128) name then name else []
