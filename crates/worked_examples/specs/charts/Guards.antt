-- Guards are tested from the innermost state outward, and their notes are kept, also where nothing is enabled.
use Rattle.std.specs.Prelude.{◌≡◌, ℕ, pos, List, [], ◌∷◌, codes}
use Rattle.room_kinds.specs.declared.note.Note.TheVariants as notes
use Rattle.chart_model.specs.Chart.{from_state, to_state, Chart}
use Rattle.chart_model.specs.Acting.{Handled, Unhandled, starts}
use Rattle.action_program.specs.declared.operator.BinaryOp.TheVariants as ops
use Rattle.action_program.specs.Numbered.{ExprTree, a_number, a_chain, no_step, a_step, no_stmt}
use Rattle.worked_examples.specs.charts.Writing.{at_start, plain, begins_at, on, on_if, seen}
use Rattle.worked_examples.specs.charts.History.{step}

abbrev a : List ℕ
a = codes "A"

abbrev b : List ℕ
b = codes "B"

abbrev i : List ℕ
i = codes "I"

-- `0 / 0`, which is 0 with a note
abbrev nothing : ExprTree
nothing = a_chain (a_number (pos 0)) (a_step ops.Divide (a_number (pos 0)) no_step)

-- `I` stands in `A`. A 0 is refused by the guard in `I` and by one in `A`; a 1 is refused in `I` and accepted in `A`.
abbrev pub guarded : Chart
guarded = record {
  graphs =
      record {
        owner = [];
        states = plain a ∷ plain b ∷ [];
        points = [];
        choices = [];
        transitions =
            begins_at (to_state a) ∷ on_if 0 nothing (from_state a) (to_state b) no_stmt ∷ on 1 (from_state a) (to_state b) no_stmt ∷ on 1 (from_state a) (to_state a) no_stmt ∷ [];
      }
      ∷ record {
        owner = a ∷ [];
        states = plain i ∷ [];
        points = [];
        choices = [];
        transitions = begins_at (to_state i) ∷ on_if 0 nothing (from_state i) (to_state i) no_stmt ∷ on_if 1 nothing (from_state i) (to_state i) no_stmt ∷ [];
      }
      ∷ [];
  values = [];
}

pub record GuardsAreComputed : Type 0 where
  pub refused : seen (step guarded 0 (starts guarded at_start)) ≡ record { result = Unhandled; path = i ∷ a ∷ []; sends = []; notes = notes.Zero ∷ notes.Zero ∷ [] }
  pub outer : seen (step guarded 1 (starts guarded at_start)) ≡ record { result = Handled; path = b ∷ []; sends = []; notes = notes.Zero ∷ [] }
  pub other : seen (step guarded 2 (starts guarded at_start)) ≡ record { result = Unhandled; path = i ∷ a ∷ []; sends = []; notes = [] }
