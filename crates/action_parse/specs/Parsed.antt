-- What parsing answers.
use Rattle.std.specs.Prelude.{◌≡◌, ◌≤◌, ℕ, List, Bool, true, false, Result, Ok, Err}
use Rattle.room_tokens.specs.action_tokens.Values.{Value}
use Rattle.action_program.specs.declared.fault.ActionFault.{ActionFault}
use Rattle.action_program.specs.declared.fault.ActionFault.TheVariants as faults
use Rattle.action_program.specs.declared.program.Expr.{Expr}
use Rattle.action_program.specs.declared.program.Program.{Program}
use Rattle.action_program.specs.Named.{ExprTree, Stmts, expr_view, program_view}
use Rattle.action_parse.specs.action_reading.Tokens.{expr_tokens, stmts_tokens}
use Rattle.action_parse.specs.action_reading.Written.{IsExpr, AreStmts, IsProgramOf, IsConditionOf, IsWithinLimits, repeats_within, expr_nesting}
use Rattle.room_tokens.specs.declared.fault.ReadFault.{ReadFault}
use Rattle.room_tokens.specs.declared.fault.ReadFault.TheVariants as reading

-- The program of the text, within the limits; or that it has none; or one beyond the limits.
abbrev pub IsParsed : List ℕ → Result Program ActionFault → Type 0
IsParsed bytes (Ok p) = IsProgramOf bytes (program_view p) × IsWithinLimits (program_view p)
IsParsed bytes (Err faults.Syntax) = (t : Stmts) → IsProgramOf bytes t → ⊥
IsParsed bytes (Err faults.NestTooDeep) = (t : Stmts) × IsProgramOf bytes t × (IsWithinLimits t → ⊥)
IsParsed bytes (Err faults.Memory) = Unit {0}
IsParsed bytes (Err faults.UnknownName) = ⊥
IsParsed bytes (Err faults.WrongPort) = ⊥
IsParsed bytes (Err faults.WrongArgs) = ⊥

-- The condition of the text, nested at most 64 deep; or that it has none; or one that nests deeper.
abbrev pub IsParsedCondition : List ℕ → Result Expr ActionFault → Type 0
IsParsedCondition bytes (Ok e) = IsConditionOf bytes (expr_view e) × (expr_nesting (expr_view e) ≤ 64)
IsParsedCondition bytes (Err faults.Syntax) = (e : ExprTree) → IsConditionOf bytes e → ⊥
IsParsedCondition bytes (Err faults.NestTooDeep) = (e : ExprTree) × IsConditionOf bytes e × (expr_nesting e ≤ 64 → ⊥)
IsParsedCondition bytes (Err faults.Memory) = Unit {0}
IsParsedCondition bytes (Err faults.UnknownName) = ⊥
IsParsedCondition bytes (Err faults.WrongPort) = ⊥
IsParsedCondition bytes (Err faults.WrongArgs) = ⊥

-- a program has these tokens
abbrev pub HasProgram : List Value → Type 0
HasProgram ts = (t : Stmts) × AreStmts t × (ts ≡ stmts_tokens t)

-- a condition has these tokens
abbrev pub HasCondition : List Value → Type 0
HasCondition ts = (e : ExprTree) × IsExpr e × (ts ≡ expr_tokens e)

-- whether it holds
abbrev pub Decided : Bool → Type 0 → Type 0
Decided true P = P
Decided false P = P → ⊥

abbrev pub told : ReadFault → ActionFault
told (reading.Syntax at) = faults.Syntax
told reading.Memory = faults.Memory

-- Whether what was refused is there, deeper than the limit.
abbrev pub IsRefused : Type 0 → ActionFault → Type 0
IsRefused P faults.NestTooDeep = P
IsRefused P faults.Syntax = P → ⊥
IsRefused P faults.Memory = Unit {0}
IsRefused P faults.UnknownName = ⊥
IsRefused P faults.WrongPort = ⊥
IsRefused P faults.WrongArgs = ⊥

-- The program itself, where its repetitions are within the limits.
abbrev pub IsLimited : Stmts → Result Program ActionFault → Type 0
IsLimited t (Ok p) = (program_view p ≡ t) × (repeats_within t 2 ≡ true)
IsLimited t (Err faults.NestTooDeep) = repeats_within t 2 ≡ false
IsLimited t (Err faults.Syntax) = ⊥
IsLimited t (Err faults.Memory) = ⊥
IsLimited t (Err faults.UnknownName) = ⊥
IsLimited t (Err faults.WrongPort) = ⊥
IsLimited t (Err faults.WrongArgs) = ⊥
