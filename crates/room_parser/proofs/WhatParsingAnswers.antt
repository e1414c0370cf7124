-- What parsing answers follows from what is read.
use Rattle.std.proofs.Common.{◌≡◌, ℕ, List, Option, Some, None, Result, Ok, Err, sym, ap, ◌∙◌}
use Rattle.room_ast.specs.Values.{TokenValue}
use Rattle.room_ast.specs.Tokens.{model_tokens}
use Rattle.room_ast.specs.Trees.{ModelTree, model_view}
use Rattle.room_ast.specs.declared.model.Model.{Model}
use Rattle.room_tokens.specs.Reader.{Fails}
use Rattle.room_tokens.specs.declared.fault.ReadFault.{ReadFault}
use Rattle.room_tokens.specs.declared.fault.ReadFault.TheVariants as reads
use Rattle.room_tokens.proofs.Whole.{Reading, one_tree}
use Rattle.room_parser.specs.declared.fault.ParseFault.{ParseFault}
use Rattle.room_parser.specs.declared.fault.ParseFault.TheVariants as faults
use Rattle.room_parser.specs.Classes.{model}
use Rattle.room_parser.specs.Parsed.{IsOnlyModel, HasNoModel, IsParsed}
use Rattle.room_parser.proofs.ExactClasses.{reading}

-- no two models have the same tokens
pub same_tokens_same_model : (s t : ModelTree) → model_tokens s ≡ model_tokens t → s ≡ t
same_tokens_same_model s t e = one_tree reading s t e

pub found : (ts : List TokenValue) (m : Model) → model ts ≡ Some (model_view m) → IsParsed ts (Ok m)
found ts m e =
    let tokens : ts ≡ model_tokens (model_view m) = reading.takes ts (model_view m) e in
    record { tokens = sym tokens; only = λ s same. same_tokens_same_model s (model_view m) (same ∙ tokens) }

none_read : (r : Option ModelTree) (e : ReadFault) (place : ℕ) → e ≡ reads.Syntax place → Fails e r → r ≡ None
none_read r reads.Memory place is none = absurd cc
none_read r (reads.Syntax other) place is none = none

pub refused : (ts : List TokenValue) (line : ℕ) (e : ReadFault) (place : ℕ) → e ≡ reads.Syntax place → Fails e (model ts) → IsParsed ts (Err (faults.Syntax line))
refused ts line e place is none =
    let empty : model ts ≡ None = none_read (model ts) e place is none in
    λ t same. let some : Some t ≡ None = sym (reading.again t) ∙ ap model same ∙ empty in absurd cc
