-- The programs and conditions of texts: what the readers give, and what parsing answers.
use Rattle.std.proofs.Common.{◌≡◌, ℕ, Bool, true, false, List, Option, Some, None, Result, Ok, Err, refl, sym, ap, ◌∙◌, subst, arith, cond, ◌≤◌}
use Rattle.std.specs.Prelude.{option_and_then}
use Rattle.room_tokens.specs.Reader.{to_end}
use Rattle.room_tokens.specs.action_tokens.Values.{Value, action_values}
use Rattle.action_program.specs.declared.fault.ActionFault.{ActionFault}
use Rattle.action_program.specs.declared.fault.ActionFault.TheVariants as faults
use Rattle.action_program.specs.declared.program.Expr.{Expr}
use Rattle.action_program.specs.declared.program.Program.{Program}
use Rattle.action_program.specs.Named.{ExprTree, Stmts, expr_view, program_view}
use Rattle.action_parse.specs.action_reading.Tokens.{expr_tokens, stmts_tokens}
use Rattle.action_parse.specs.action_reading.Written.{IsProgramOf, IsConditionOf, IsWithinLimits, repeats_within, expr_nesting}
use Rattle.action_parse.specs.action_reading.ExprReading.{expression}
use Rattle.action_parse.specs.action_reading.StmtReading.{stmts_at, statement}
use Rattle.action_parse.proofs.action_reading.Whole.{program_tokens, program_fits, program_again, one_program, condition_tokens, condition_fits, condition_again, one_condition}
use Rattle.action_parse.specs.Parsed.{IsParsed, IsParsedCondition}
use Rattle.chart_trees.specs.chart_codes.Codes.{limited, program_of, condition_of}

some_is : {A : Type 0} (x y : A) → Some x ≡ Some y → x ≡ y
some_is x y e = cc

none_is : {A : Type 0} (o : Option A) → ((x : A) → o ≡ Some x → ⊥) → None ≡ o
none_is None h = refl
none_is (Some x) h = absurd (h x refl)

-- ---- programs

-- a text has the program that is its own and within the limits
pub program_found : (bytes : List ℕ) (t : Stmts) → IsProgramOf bytes t → IsWithinLimits t → program_of bytes ≡ Some t
unfolding program_of
program_found bytes t is within =
    ap (λ o. option_and_then (λ ts. option_and_then limited (to_end (stmts_at (statement 64)) ts)) o) is.tokens
    ∙ ap (option_and_then limited) (program_again 64 t is.formed within.0)
    ∙ ap (λ b. cond b (Some t) None) within.1

limited_is : (b : Bool) (u t : Stmts) → cond b (Some u) None ≡ Some t → (b ≡ true) × (u ≡ t)
limited_is true u t e = (refl, some_is u t e)
limited_is false u t e = absurd cc

-- and no other one
pub program_is : (bytes : List ℕ) (t : Stmts) → program_of bytes ≡ Some t → IsProgramOf bytes t × IsWithinLimits t
unfolding program_of
program_is bytes t e = tokens (action_values bytes) refl e
  where
    tree : (ts : List Value) → action_values bytes ≡ Some ts → (o : Option Stmts) → to_end (stmts_at (statement 64)) ts ≡ o → option_and_then limited o ≡ Some t → IsProgramOf bytes t × IsWithinLimits t
    tree ts h None read f = absurd cc
    tree ts h (Some u) read f =
        let parts = limited_is (repeats_within u 2) u t f in
        let fits = program_fits 64 ts u read in
        let is : IsProgramOf bytes u = record { formed = fits.0; tokens = h ∙ ap (λ us. Some us) (program_tokens 64 ts u read) } in
        subst (λ (x : Stmts). IsProgramOf bytes x × IsWithinLimits x) parts.1 (is, (omega (arith, fits.1), parts.0))

    tokens : (o : Option (List Value)) → action_values bytes ≡ o → option_and_then (λ ts. option_and_then limited (to_end (stmts_at (statement 64)) ts)) o ≡ Some t → IsProgramOf bytes t × IsWithinLimits t
    tokens None h f = absurd cc
    tokens (Some ts) h f = tree ts h (to_end (stmts_at (statement 64)) ts) refl f

pub some_program : (bytes : List ℕ) (t : Stmts) → IsProgramOf bytes t → IsWithinLimits t → Some t ≡ program_of bytes
some_program bytes t is within = sym (program_found bytes t is within)

-- a text whose program can't be read has none within the limits
pub no_program : (bytes : List ℕ) (f : ActionFault) → IsParsed bytes (Err f) → (f ≡ faults.Memory → ⊥) → None ≡ program_of bytes
no_program bytes faults.Memory h other = absurd (other refl)
no_program bytes faults.Syntax h other = none_is (program_of bytes) (λ t e. h t (program_is bytes t e).0)
no_program bytes faults.NestTooDeep h other = none_is (program_of bytes) (λ t e. let is = program_is bytes t e in h.2 (subst IsWithinLimits (one_program bytes t h.0 is.0 h.1) is.1))
no_program bytes faults.UnknownName h other = absurd h
no_program bytes faults.WrongPort h other = absurd h
no_program bytes faults.WrongArgs h other = absurd h

-- ---- conditions

pub condition_found : (bytes : List ℕ) (e : ExprTree) → IsConditionOf bytes e → expr_nesting e ≤ 64 → condition_of bytes ≡ Some e
unfolding condition_of
condition_found bytes e is within = ap (λ o. option_and_then (λ ts. to_end (expression 64) ts) o) is.tokens ∙ condition_again 64 e is.formed within

pub some_condition : (bytes : List ℕ) (e : ExprTree) → IsConditionOf bytes e → expr_nesting e ≤ 64 → Some e ≡ condition_of bytes
some_condition bytes e is within = sym (condition_found bytes e is within)

pub condition_is : (bytes : List ℕ) (e : ExprTree) → condition_of bytes ≡ Some e → IsConditionOf bytes e × (expr_nesting e ≤ 64)
unfolding condition_of
condition_is bytes e h = tokens (action_values bytes) refl h
  where
    tokens : (o : Option (List Value)) → action_values bytes ≡ o → option_and_then (λ ts. to_end (expression 64) ts) o ≡ Some e → IsConditionOf bytes e × (expr_nesting e ≤ 64)
    tokens None g f = absurd cc
    tokens (Some ts) g f =
        let fits = condition_fits 64 ts e f in
        let is : IsConditionOf bytes e = record { formed = fits.0; tokens = g ∙ ap (λ us. Some us) (condition_tokens 64 ts e f) } in
        (is, omega (arith, fits.1))

pub no_condition : (bytes : List ℕ) (f : ActionFault) → IsParsedCondition bytes (Err f) → (f ≡ faults.Memory → ⊥) → None ≡ condition_of bytes
no_condition bytes faults.Memory h other = absurd (other refl)
no_condition bytes faults.Syntax h other = none_is (condition_of bytes) (λ t e. h t (condition_is bytes t e).0)
no_condition bytes faults.NestTooDeep h other = none_is (condition_of bytes) (λ t e. let is = condition_is bytes t e in h.2 (subst (λ (x : ExprTree). expr_nesting x ≤ 64) (one_condition bytes t h.0 is.0 h.1) is.1))
no_condition bytes faults.UnknownName h other = absurd h
no_condition bytes faults.WrongPort h other = absurd h
no_condition bytes faults.WrongArgs h other = absurd h
