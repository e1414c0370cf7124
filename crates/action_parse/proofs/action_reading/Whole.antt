-- What the reader of programs says of the trees that have the tokens.
use Rattle.std.proofs.Common.{◌≡◌, ℕ, suc, ◌≤◌, max, false, List, [], ◌∷◌, ◌++◌, Option, Some, None, refl, sym, ap, ◌∙◌, append-nil, arith}
use Rattle.std.specs.Prelude.{option_and_then}
use Rattle.room_tokens.specs.Reader.{Reader, to_end, if_last}
use Rattle.room_tokens.proofs.Readers.{last_takes}
use Rattle.room_tokens.specs.action_tokens.Values.{Value}
use Rattle.action_program.specs.Named.{ExprTree, Stmts}
use Rattle.action_parse.specs.action_reading.Tokens.{expr_tokens, stmts_tokens}
use Rattle.action_parse.specs.action_reading.Written.{IsExpr, AreStmts, expr_nesting, nesting, IsProgramOf, IsConditionOf}
use Rattle.action_parse.specs.action_reading.ExprReading.{op_at, expression}
use Rattle.action_parse.specs.action_reading.StmtReading.{goes_on, stmts_at, statement}
use Rattle.room_tokens.specs.action_tokens.Single.{comes}
use Rattle.action_parse.proofs.action_reading.ExprSound.{Fits}
use Rattle.action_parse.proofs.action_reading.ExprAgain.{Follows, expr_back}
use Rattle.action_parse.proofs.action_reading.StmtSound.{stmts_sound, statement_sound, expression_sound}
use Rattle.action_parse.proofs.action_reading.StmtAlways.{StmtsFit, program_always, expression_always}
use Rattle.action_parse.proofs.action_reading.StmtAgain.{stmts_again}

some_is : {A : Type 0} (x y : A) → Some x ≡ Some y → x ≡ y
some_is x y e = cc

-- ---- the whole list

last_holds : {A : Type 0} (Good : A → Type 0) (r : Option (A × List Value)) (x : A) → ((z : A × List Value) → r ≡ Some z → Good z.0) → option_and_then if_last r ≡ Some x → Good x
last_holds Good None x h e = absurd cc
last_holds Good (Some (a, [])) x h e = let same : a ≡ x = cc in rw (← same) (h (a, []) refl)
last_holds Good (Some (a, t ∷ us)) x h e = absurd cc

all_again : {A : Type 0} (p : Reader Value A) (ts : List Value) (x : A) → p (ts ++ []) ≡ Some (x, []) → to_end p ts ≡ Some x
all_again p ts x h = let same : ts ++ [] ≡ ts = append-nil ts in rw (rw same at h) refl

-- ---- programs

pub program_tokens : (depth : ℕ) (ts : List Value) (t : Stmts) → to_end (stmts_at (statement depth)) ts ≡ Some t → ts ≡ stmts_tokens t
program_tokens depth ts t e = last_takes stmts_tokens ts (stmts_at (statement depth) ts) t (λ z i. (stmts_sound (statement_sound depth)).takes ts z i) e

pub program_fits : (depth : ℕ) (ts : List Value) (t : Stmts) → to_end (stmts_at (statement depth)) ts ≡ Some t → StmtsFit (suc depth) t
program_fits depth ts t e = last_holds (StmtsFit (suc depth)) (stmts_at (statement depth) ts) t (λ z i. (program_always depth).holds ts z i) e

nothing_goes : goes_on [] ≡ false
unfolding goes_on
nothing_goes = refl

pub program_again : (depth : ℕ) (t : Stmts) → AreStmts t → nesting t ≤ depth → to_end (stmts_at (statement depth)) (stmts_tokens t) ≡ Some t
program_again depth t are fits = all_again (stmts_at (statement depth)) (stmts_tokens t) t ((stmts_again t depth are fits).again [] nothing_goes)

-- no two programs have the same tokens
pub same_programs : (t u : Stmts) → AreStmts t → AreStmts u → stmts_tokens t ≡ stmts_tokens u → t ≡ u
same_programs t u are_t are_u e =
    let depth = max (nesting t) (nesting u) in
    some_is t u (sym (program_again depth t are_t (omega arith)) ∙ ap (to_end (stmts_at (statement depth))) e ∙ program_again depth u are_u (omega arith))

pub one_program : (bytes : List ℕ) (t u : Stmts) → IsProgramOf bytes t → IsProgramOf bytes u → t ≡ u
one_program bytes t u p q = same_programs t u p.formed q.formed (some_is (stmts_tokens t) (stmts_tokens u) (sym p.tokens ∙ q.tokens))

-- ---- conditions

pub condition_tokens : (depth : ℕ) (ts : List Value) (e : ExprTree) → to_end (expression depth) ts ≡ Some e → ts ≡ expr_tokens e
condition_tokens depth ts e h = last_takes expr_tokens ts (expression depth ts) e (λ z i. (expression_sound depth).takes ts z i) h

pub condition_fits : (depth : ℕ) (ts : List Value) (e : ExprTree) → to_end (expression depth) ts ≡ Some e → Fits 5 (suc depth) e
condition_fits depth ts e h = last_holds (Fits 5 (suc depth)) (expression depth ts) e (λ z i. (expression_always depth).holds ts z i) h

nothing_follows : Follows 5 []
unfolding op_at comes
nothing_follows = record { no_op = λ j lt. refl; no_dot = refl; no_bracket = refl }

pub condition_again : (depth : ℕ) (e : ExprTree) → IsExpr e → expr_nesting e ≤ depth → to_end (expression depth) (expr_tokens e) ≡ Some e
condition_again depth e is fits = all_again (expression depth) (expr_tokens e) e (expr_back e 5 depth [] is fits nothing_follows)

pub same_conditions : (d e : ExprTree) → IsExpr d → IsExpr e → expr_tokens d ≡ expr_tokens e → d ≡ e
same_conditions d e is_d is_e h =
    let depth = max (expr_nesting d) (expr_nesting e) in
    some_is d e (sym (condition_again depth d is_d (omega arith)) ∙ ap (to_end (expression depth)) h ∙ condition_again depth e is_e (omega arith))

pub one_condition : (bytes : List ℕ) (d e : ExprTree) → IsConditionOf bytes d → IsConditionOf bytes e → d ≡ e
one_condition bytes d e p q = same_conditions d e p.formed q.formed (some_is (expr_tokens d) (expr_tokens e) (sym p.tokens ∙ q.tokens))
