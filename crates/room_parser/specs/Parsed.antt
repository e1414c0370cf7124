-- What parsing answers.
use Rattle.std.specs.Prelude.{◌≡◌, List, Result, Ok, Err}
use Rattle.room_ast.specs.Values.{TokenValue}
use Rattle.room_ast.specs.Tokens.{model_tokens}
use Rattle.room_ast.specs.Trees.{ModelTree, model_view}
use Rattle.room_ast.specs.declared.model.Model.{Model}
use Rattle.room_parser.specs.declared.fault.ParseFault.{ParseFault}
use Rattle.room_parser.specs.declared.fault.ParseFault.TheVariants as faults

-- no model has these tokens
abbrev pub HasNoModel : List TokenValue → Type 0
HasNoModel ts = (t : ModelTree) → model_tokens t ≡ ts → ⊥

-- the one model that has these tokens
pub record IsOnlyModel (ts : List TokenValue) (t : ModelTree) : Type 0 where
  pub tokens : model_tokens t ≡ ts
  pub only : (s : ModelTree) → model_tokens s ≡ ts → s ≡ t

-- What parsing answers: the one model; or that there is none.
abbrev pub IsParsed : List TokenValue → Result Model ParseFault → Type 0
IsParsed ts (Ok m) = IsOnlyModel ts (model_view m)
IsParsed ts (Err (faults.Syntax line)) = HasNoModel ts
IsParsed ts (Err faults.Memory) = Unit {0}
