-- A choice point whose condition divides by zero, and one whose second condition isn't looked at.
use Rattle.std.specs.Prelude.{◌≡◌, ℕ, ℤ, pos, List, [], ◌∷◌, Some, None, codes}
use Rattle.room_kinds.specs.declared.note.Note.TheVariants as notes
use Rattle.chart_model.specs.Chart.{from_state, from_choice, to_state, to_choice, Chart}
use Rattle.chart_model.specs.Acting.{Handled, Unhandled, starts}
use Rattle.action_program.specs.declared.operator.BinaryOp.TheVariants as ops
use Rattle.action_program.specs.Numbered.{ExprTree, a_number, an_attribute, a_chain, no_step, a_step, no_stmt}
use Rattle.worked_examples.specs.charts.Writing.{at_start, plain, begins_at, goes, on, seen}
use Rattle.worked_examples.specs.charts.History.{step}

abbrev a : List ℕ
a = codes "A"

abbrev b : List ℕ
b = codes "B"

abbrev c : List ℕ
c = codes "C"

abbrev point : List ℕ
point = codes "c"

-- `1 / x`
abbrev part : ExprTree
part = a_chain (a_number (pos 1)) (a_step ops.Divide (an_attribute 0) no_step)

-- a kick leads from `A` to a choice point: to `B` where `1 / x` isn't 0, then to `B` where it isn't 0 again, else to `C`
abbrev pub choosing : ℤ → Chart
choosing x = record {
  graphs =
      record {
        owner = [];
        states = plain a ∷ plain b ∷ plain c ∷ [];
        points = [];
        choices = point ∷ [];
        transitions =
            begins_at (to_state a)
            ∷ on 0 (from_state a) (to_choice point) no_stmt
            ∷ goes (from_choice point) (to_state b) (Some part) no_stmt
            ∷ goes (from_choice point) (to_state c) None no_stmt
            ∷ [];
      }
      ∷ [];
  values = x ∷ [];
}

-- with 0 the default is taken, with a note; with 1 the branch; a stop (1) has no transition
pub record ChoiceIsComputed : Type 0 where
  pub zero : seen (step (choosing (pos 0)) 0 (starts (choosing (pos 0)) at_start)) ≡ record { result = Handled; path = c ∷ []; sends = []; notes = notes.Zero ∷ [] }
  pub one : seen (step (choosing (pos 1)) 0 (starts (choosing (pos 1)) at_start)) ≡ record { result = Handled; path = b ∷ []; sends = []; notes = [] }
  pub stop : seen (step (choosing (pos 0)) 1 (starts (choosing (pos 0)) at_start)) ≡ record { result = Unhandled; path = a ∷ []; sends = []; notes = [] }
