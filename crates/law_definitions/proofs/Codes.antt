-- The one program of a text.
use Rattle.std.proofs.Common.{◌≡◌, ◌∙◌, ℕ, ◌≤◌, cond, List, Some, None, ap, subst, arith}
use Rattle.std.specs.Prelude.{option_and_then}
use Rattle.std.proofs.lemmas.Option.{cond_some, option_and_then_some}
use Rattle.room_tokens.specs.Reader.{to_end}
use Rattle.room_tokens.specs.action_tokens.Values.{action_values}
use Rattle.action_program.specs.Named.{ExprTree, Stmts}
use Rattle.action_parse.specs.action_reading.Written.{IsProgramOf, IsConditionOf, IsWithinLimits, expr_nesting, repeats_within}
use Rattle.action_parse.specs.action_reading.ExprReading.{expression}
use Rattle.action_parse.specs.action_reading.StmtReading.{stmts_at, statement}
use Rattle.action_parse.proofs.action_reading.Whole.{program_tokens, program_fits, program_again, one_program, condition_tokens, condition_fits, condition_again, one_condition}
use Rattle.chart_trees.specs.chart_codes.Codes.{limited, program_of, condition_of}
use Rattle.law_definitions.specs.Codes.{CodesHaveOneProgram}

Found : List ℕ → Stmts → Type 0
Found text p = IsProgramOf text p × IsWithinLimits p

has_program : (text : List ℕ) (p : Stmts) → program_of text ≡ Some p → Found text p
unfolding program_of Found
has_program text p e =
    option_and_then_some (λ ts. option_and_then limited (to_end (stmts_at (statement 64)) ts)) (action_values text) p e
    (λ ts at is. option_and_then_some limited (to_end (stmts_at (statement 64)) ts) p is
    (λ t read fits.
    let kept = cond_some (repeats_within t 2) t p fits in
    let whole = program_fits 64 ts t read in
    let deep = whole.1 in
    subst (Found text) kept.1
    (record { formed = whole.0; tokens = at ∙ ap (λ us. Some us) (program_tokens 64 ts t read) }, (omega (arith, deep), kept.0))))

is_program : (text : List ℕ) (p : Stmts) → Found text p → program_of text ≡ Some p
unfolding program_of Found
is_program text p h =
    ap (option_and_then (λ ts. option_and_then limited (to_end (stmts_at (statement 64)) ts))) h.0.tokens
    ∙ ap (option_and_then limited) (program_again 64 p h.0.formed h.1.0)
    ∙ ap (λ b. cond b (Some p) None) h.1.1

Condition : List ℕ → ExprTree → Type 0
Condition text e = IsConditionOf text e × (expr_nesting e ≤ 64)

has_condition : (text : List ℕ) (e : ExprTree) → condition_of text ≡ Some e → Condition text e
unfolding condition_of Condition
has_condition text e h =
    option_and_then_some (λ ts. to_end (expression 64) ts) (action_values text) e h
    (λ ts at is.
    let whole = condition_fits 64 ts e is in
    let deep = whole.1 in
    (record { formed = whole.0; tokens = at ∙ ap (λ us. Some us) (condition_tokens 64 ts e is) }, omega (arith, deep)))

is_condition : (text : List ℕ) (e : ExprTree) → Condition text e → condition_of text ≡ Some e
unfolding condition_of Condition
is_condition text e h = ap (option_and_then (λ ts. to_end (expression 64) ts)) h.0.tokens ∙ condition_again 64 e h.0.formed h.1

pub one_each : CodesHaveOneProgram
unfolding Found Condition
one_each = record {
  programs = λ text p. (has_program text p, is_program text p);
  one_program = one_program;
  conditions = λ text e. (has_condition text e, is_condition text e);
  one_condition = one_condition;
}
