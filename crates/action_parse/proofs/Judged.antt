-- What the readers, the recogniser and the limits say together.
use Rattle.std.proofs.Common.{◌≡◌, ℕ, true, false, List, Some, None, Result, Ok, Err, sym, ap, ◌∙◌, subst, arith}
use Rattle.std.specs.Prelude.{[], ◌∷◌}
use Rattle.room_tokens.specs.Reader.{to_end, Fails}
use Rattle.room_tokens.specs.declared.fault.ReadFault.{ReadFault}
use Rattle.room_tokens.specs.declared.fault.ReadFault.TheVariants as reading
use Rattle.room_tokens.specs.action_tokens.Values.{Value, action_values}
use Rattle.action_program.specs.declared.fault.ActionFault.{ActionFault}
use Rattle.action_program.specs.declared.fault.ActionFault.TheVariants as faults
use Rattle.action_program.specs.declared.program.Expr.{Expr}
use Rattle.action_program.specs.declared.program.Program.{Program}
use Rattle.action_program.specs.Named.{ExprTree, Stmts, expr_view}
use Rattle.action_parse.specs.action_reading.Tokens.{expr_tokens, stmts_tokens}
use Rattle.action_parse.specs.action_reading.Written.{IsExpr, AreStmts, IsProgramOf, IsConditionOf, IsWithinLimits}
use Rattle.action_parse.specs.action_reading.ExprReading.{expression}
use Rattle.action_parse.specs.action_reading.StmtReading.{stmts_at, statement}
use Rattle.action_parse.proofs.action_reading.Whole.{program_tokens, program_fits, program_again, condition_tokens, condition_fits, condition_again}
use Rattle.action_parse.specs.declared.goal.Goal.TheVariants.{Operand, Operators, Statements}
use Rattle.action_parse.specs.Expected.{Accepted}
use Rattle.action_parse.specs.Parsed.{IsParsed, IsParsedCondition, IsRefused, IsLimited, told}
use Rattle.action_parse.proofs.Derived.{program_of, condition_of}
use Rattle.action_parse.proofs.Complete.{program_accepted, condition_accepted}

some_is : {A : Type 0} (x y : A) → Some x ≡ Some y → x ≡ y
some_is x y e = cc

-- ---- programs

pub no_tokens : (f : ReadFault) (bytes : List ℕ) → Fails f (action_values bytes) → IsParsed bytes (Err (told f))
no_tokens reading.Memory bytes h = tt
no_tokens (reading.Syntax at) bytes h = λ t p. let no : Some (stmts_tokens t) ≡ None = sym p.tokens ∙ h in absurd cc

is_program : (bytes : List ℕ) (ts : List Value) (t : Stmts) → action_values bytes ≡ Some ts → AreStmts t → ts ≡ stmts_tokens t → IsProgramOf bytes t
is_program bytes ts t h are e = record { formed = are; tokens = h ∙ ap (λ us. Some us) e }

pub found_program : (bytes : List ℕ) (ts : List Value) (t : Stmts) (r : Result Program ActionFault) → action_values bytes ≡ Some ts → to_end (stmts_at (statement 64)) ts ≡ Some t → IsLimited t r → IsParsed bytes r
found_program bytes ts t (Ok p) h read limited =
    let fits = program_fits 64 ts t read in
    let program = is_program bytes ts t h fits.0 (program_tokens 64 ts t read) in
    subst (λ (u : Stmts). IsProgramOf bytes u × IsWithinLimits u) (sym limited.0) (program, (omega (arith, fits.1), limited.1))
found_program bytes ts t (Err faults.NestTooDeep) h read limited =
    let fits = program_fits 64 ts t read in
    (t, is_program bytes ts t h fits.0 (program_tokens 64 ts t read), λ within. let no : true ≡ false = sym within.1 ∙ limited in absurd cc)
found_program bytes ts t (Err faults.Syntax) h read limited = absurd limited
found_program bytes ts t (Err faults.Memory) h read limited = tt
found_program bytes ts t (Err faults.UnknownName) h read limited = limited
found_program bytes ts t (Err faults.WrongPort) h read limited = limited
found_program bytes ts t (Err faults.WrongArgs) h read limited = limited

pub refused_program : (bytes : List ℕ) (ts : List Value) (f : ActionFault) → action_values bytes ≡ Some ts → to_end (stmts_at (statement 64)) ts ≡ None → IsRefused (Accepted (Statements ∷ []) ts) f → IsParsed bytes (Err f)
refused_program bytes ts faults.NestTooDeep h none refused =
    let t = program_of ts refused in
    (t.0, is_program bytes ts t.0 h t.1 t.2, λ within. let no : Some t.0 ≡ None = sym (program_again 64 t.0 t.1 within.0) ∙ ap (to_end (stmts_at (statement 64))) (sym t.2) ∙ none in absurd cc)
refused_program bytes ts faults.Syntax h none refused = λ t p. refused (subst (λ (us : List Value). Accepted (Statements ∷ []) us) (some_is (stmts_tokens t) ts (sym p.tokens ∙ h)) (program_accepted t p.formed))
refused_program bytes ts faults.Memory h none refused = tt
refused_program bytes ts faults.UnknownName h none refused = refused
refused_program bytes ts faults.WrongPort h none refused = refused
refused_program bytes ts faults.WrongArgs h none refused = refused

-- ---- conditions

pub no_condition_tokens : (f : ReadFault) (bytes : List ℕ) → Fails f (action_values bytes) → IsParsedCondition bytes (Err (told f))
no_condition_tokens reading.Memory bytes h = tt
no_condition_tokens (reading.Syntax at) bytes h = λ e p. let no : Some (expr_tokens e) ≡ None = sym p.tokens ∙ h in absurd cc

is_condition : (bytes : List ℕ) (ts : List Value) (e : ExprTree) → action_values bytes ≡ Some ts → IsExpr e → ts ≡ expr_tokens e → IsConditionOf bytes e
is_condition bytes ts e h is same = record { formed = is; tokens = h ∙ ap (λ us. Some us) same }

pub found_condition : (bytes : List ℕ) (ts : List Value) (e : Expr) → action_values bytes ≡ Some ts → to_end (expression 64) ts ≡ Some (expr_view e) → IsParsedCondition bytes (Ok e)
found_condition bytes ts e h read =
    let fits = condition_fits 64 ts (expr_view e) read in (is_condition bytes ts (expr_view e) h fits.0 (condition_tokens 64 ts (expr_view e) read), omega (arith, fits.1))

pub refused_condition : (bytes : List ℕ) (ts : List Value) (f : ActionFault) → action_values bytes ≡ Some ts → to_end (expression 64) ts ≡ None → IsRefused (Accepted (Operand ∷ Operators ∷ []) ts) f → IsParsedCondition bytes (Err f)
refused_condition bytes ts faults.NestTooDeep h none refused =
    let e = condition_of ts refused in
    (e.0, is_condition bytes ts e.0 h e.1 e.2, λ within. let no : Some e.0 ≡ None = sym (condition_again 64 e.0 e.1 within) ∙ ap (to_end (expression 64)) (sym e.2) ∙ none in absurd cc)
refused_condition bytes ts faults.Syntax h none refused = λ e p. refused (subst (λ (us : List Value). Accepted (Operand ∷ Operators ∷ []) us) (some_is (expr_tokens e) ts (sym p.tokens ∙ h)) (condition_accepted e p.formed))
refused_condition bytes ts faults.Memory h none refused = tt
refused_condition bytes ts faults.UnknownName h none refused = refused
refused_condition bytes ts faults.WrongPort h none refused = refused
refused_condition bytes ts faults.WrongArgs h none refused = refused
