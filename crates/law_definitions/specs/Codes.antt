-- The program of a text, in the words of the action language.
-- `program_of` and `condition_of` read a text's tokens one after another. The law
-- `codes_have_one_program`: what they give is the one program, or condition, whose tokens are those of the
-- text, and which is within the limits of nesting and repetition; and they give none exactly where there is none.
use Rattle.std.specs.Prelude.{◌≡◌, ◌↔◌, ℕ, ◌≤◌, List, Some}
use Rattle.action_program.specs.Named.{ExprTree, Stmts}
use Rattle.action_parse.specs.action_reading.Written.{IsProgramOf, IsConditionOf, IsWithinLimits, expr_nesting}
use Rattle.chart_trees.specs.chart_codes.Codes.{program_of, condition_of}

pub record CodesHaveOneProgram : Type 0 where
  -- a program is that of a text exactly where its tokens are the text's and it is within the limits
  pub programs : (text : List ℕ) (p : Stmts) → program_of text ≡ Some p ↔ (IsProgramOf text p × IsWithinLimits p)
  -- no text is that of two programs
  pub one_program : (text : List ℕ) (p q : Stmts) → IsProgramOf text p → IsProgramOf text q → p ≡ q
  -- the same of conditions, whose parentheses and signs nest 64 deep at most
  pub conditions : (text : List ℕ) (e : ExprTree) → condition_of text ≡ Some e ↔ (IsConditionOf text e × (expr_nesting e ≤ 64))
  pub one_condition : (text : List ℕ) (d e : ExprTree) → IsConditionOf text d → IsConditionOf text e → d ≡ e
