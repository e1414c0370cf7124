-- Names that are gained at the end alone.
use Rattle.std.proofs.Common.{ℕ, List, [], ◌++◌, sym}
use Rattle.std.proofs.lemmas.List.{append-nil}
use Rattle.action_lang.specs.action_check.Answers.{Grows}

-- none is gained
pub none_grown : (names : List (List ℕ)) → Grows names names
none_grown names = ([], sym (append-nil names))
