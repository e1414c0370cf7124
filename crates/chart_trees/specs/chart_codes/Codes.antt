-- The programs and conditions that codes are, and what they are in a class.
use Rattle.std.specs.Prelude.{ℕ, pos, List, map, Option, Some, None, option_map, option_and_then, unwrap_or, is_none, is_some, if◌then◌else◌, Bool, true, nat_le}
use Rattle.std.specs.List.{join_with_byte}
use Rattle.std.specs.Option.{option_map_or}
use Rattle.room_tokens.specs.Reader.{to_end}
use Rattle.room_ast.specs.declared.chart.Code.{Code}
use Rattle.room_ast.specs.declared.chart.Code.TheVariants as codes
use Rattle.room_ast.specs.declared.chart.CodeText.{CodeText}
use Rattle.room_ast.specs.declared.chart.CodeText.TheVariants as texts
use Rattle.room_ast.specs.declared.scope.Scope.{Scope}
use Rattle.room_tokens.specs.action_tokens.Values.{Value, action_values}
use Rattle.action_program.specs.Named as named
use Rattle.action_program.specs.Numbered as numbered
use Rattle.action_parse.specs.action_reading.Written.{repeats_within}
use Rattle.action_parse.specs.action_reading.ExprReading.{expression}
use Rattle.action_parse.specs.action_reading.StmtReading.{stmts_at, statement}
use Rattle.action_lang.specs.action_check.Faults.{expr_fault, stmts_fault}
use Rattle.action_lang.specs.action_check.Numbering.{numbered_expr, numbered_stmts, stmts_names}

-- ---- the text of a code

abbrev pub text_bytes : CodeText → List ℕ
text_bytes (texts.Str t) = t
text_bytes (texts.Block t) = t

-- its texts, joined by line feeds
abbrev pub code_bytes : Code → List ℕ
code_bytes (codes.Texts ts) = join_with_byte 10 (map text_bytes ts)
code_bytes (codes.Single t) = text_bytes t

-- ---- what a text is

-- a program that repeats within the limits
abbrev pub limited : named.Stmts → Option named.Stmts
limited p = if repeats_within p 2 then Some p else None

-- The program of a text, if it has one within the limits of the language.
unfoldable pub program_of : List ℕ → Option named.Stmts
program_of bytes = option_and_then (λ ts. option_and_then limited (to_end (stmts_at (statement 64)) ts)) (action_values bytes)

-- The condition of a text, if it has one within the limits of the language.
unfoldable pub condition_of : List ℕ → Option named.ExprTree
condition_of bytes = option_and_then (λ ts. to_end (expression 64) ts) (action_values bytes)

-- ---- what it is in a class

-- a condition, if each of its names is the class's
abbrev pub bound_condition : Scope → named.ExprTree → Option numbered.ExprTree
bound_condition scope e = if is_none (expr_fault scope e) then Some (numbered_expr scope e) else None

abbrev pub condition_in : Scope → Code → Option numbered.ExprTree
condition_in scope code = option_and_then (bound_condition scope) (condition_of (code_bytes code))

-- A guard or a condition that may be missing; 0 in place of one that isn't the class's.
abbrev pub guard_of : Scope → Option Code → Option numbered.ExprTree
guard_of scope None = None
guard_of scope (Some code) = Some (unwrap_or (condition_in scope code) (numbered.a_number (pos 0)))

abbrev pub guard_fits : Scope → Option Code → Bool
guard_fits scope None = true
guard_fits scope (Some code) = is_some (condition_in scope code)

-- A program, where these service names came before it; the empty one in place of one that isn't the class's.
abbrev pub bound_of : Scope → List (List ℕ) → named.Stmts → numbered.Stmts
bound_of scope names p = if is_none (stmts_fault scope p) then numbered_stmts scope names p else numbered.no_stmt

-- the service names after it, if each of its names is the class's
abbrev pub names_bound : Scope → List (List ℕ) → named.Stmts → Option (List (List ℕ))
names_bound scope names p = if is_none (stmts_fault scope p) then Some (stmts_names p names) else None

-- An action that may be missing, where these service names came before it, if each code before it was the class's.
abbrev pub action_of : Scope → Option (List (List ℕ)) → Option Code → numbered.Stmts
action_of scope names None = numbered.no_stmt
action_of scope None (Some code) = numbered.no_stmt
action_of scope (Some names) (Some code) = option_map_or (bound_of scope names) (program_of (code_bytes code)) numbered.no_stmt

-- the service names after it, if each code up to it is the class's
abbrev pub names_after : Scope → Option (List (List ℕ)) → Option Code → Option (List (List ℕ))
names_after scope names None = names
names_after scope None (Some code) = None
names_after scope (Some names) (Some code) = option_and_then (names_bound scope names) (program_of (code_bytes code))
