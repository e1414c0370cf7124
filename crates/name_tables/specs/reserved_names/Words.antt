-- Names that no class and no part of an actor class may have.
use Rattle.std.specs.Prelude.{ℕ, List, [], ◌∷◌, codes}

-- the names of the types of numbers
unfoldable pub type_names : List (List ℕ)
type_names = codes "int8" ∷ codes "int16" ∷ codes "int32" ∷ codes "uint8" ∷ codes "uint16" ∷ codes "uint32" ∷ codes "boolean" ∷ []

-- what no part of an actor class may be called: the port of the frame service, and the words of the action language
unfoldable pub part_words : List (List ℕ)
part_words =
    codes "frame" ∷ codes "if" ∷ codes "else" ∷ codes "repeat" ∷ codes "at" ∷ codes "defer" ∷ codes "recall" ∷ codes "recallAll" ∷ codes "incarnate"
    ∷ codes "destroy" ∷ codes "import" ∷ codes "deport" ∷ codes "register" ∷ codes "as" ∷ codes "withdraw" ∷ codes "panic" ∷ codes "high" ∷ codes "general"
    ∷ codes "low" ∷ codes "background" ∷ codes "true" ∷ codes "false" ∷ codes "data" ∷ codes "place" ∷ codes "self" ∷ []
