-- The names in the tree of a text are names of the language.
use Rattle.std.proofs.Common.{List, ℕ, sym, subst}
use Rattle.room_ast.specs.Trees.{ModelTree}
use Rattle.room_ast.specs.Tokens.{model_tokens}
use Rattle.room_inherit.proofs.NamesLaw.{names_stay}
use Rattle.room_lexer.specs.declared.token.Token.{Token}
use Rattle.room_tokens.specs.Single.{values}
use Rattle.room_tokens.specs.token_names.Names.{HasNames}
use Rattle.room_tokens.proofs.token_names.NamesLaw.{named as tokens_named}
use Rattle.room_run.specs.Models.{IsWritten, HasTree}

-- as it is written
names_written : (text : List ℕ) (written : ModelTree) → IsWritten text written → HasNames (model_tokens written)
names_written text written h =
    subst HasNames (sym h.spelled) (subst (λ (ts : List Token). HasNames (values text ts)) (sym h.cut.placed) (tokens_named text h.cut.pieces h.cut.cut))

-- and without bases
pub names_read : (text : List ℕ) (tree : ModelTree) → HasTree text tree → HasNames (model_tokens tree)
names_read text tree h =
    subst (λ (m : ModelTree). HasNames (model_tokens m)) (sym h.flat_is) (names_stay h.written (names_written text h.written h.is))
