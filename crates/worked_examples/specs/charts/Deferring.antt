-- A message is deferred in one state, and recalled by the transition to another.
use Rattle.std.specs.Prelude.{◌≡◌, ℕ, List, [], ◌∷◌, codes}
use Rattle.room_kinds.specs.declared.command.Command.TheVariants as commands
use Rattle.chart_model.specs.Chart.{from_state, to_state, Chart}
use Rattle.chart_model.specs.Acting.{Handled, Deferred, starts}
use Rattle.action_program.specs.Numbered.{no_stmt, a_stmt, defer, recall_all}
use Rattle.worked_examples.specs.charts.Writing.{at_start, plain, begins_at, on, seen}
use Rattle.worked_examples.specs.charts.History.{step}

abbrev a : List ℕ
a = codes "A"

abbrev b : List ℕ
b = codes "B"

-- in `A` the message 2 is deferred and a kick recalls all and leads to `B`; there 2 is handled
abbrev pub deferring : Chart
deferring = record {
  graphs =
      record {
        owner = [];
        states = plain a ∷ plain b ∷ [];
        points = [];
        choices = [];
        transitions =
            begins_at (to_state a)
            ∷ on 2 (from_state a) (to_state a) (a_stmt defer no_stmt)
            ∷ on 0 (from_state a) (to_state b) (a_stmt recall_all no_stmt)
            ∷ on 2 (from_state b) (to_state b) no_stmt
            ∷ [];
      }
      ∷ [];
  values = [];
}

pub record DeferringIsComputed : Type 0 where
  pub deferred : seen (step deferring 2 (starts deferring at_start)) ≡ record { result = Deferred; path = a ∷ []; sends = []; notes = [] }
  pub recalled : seen (step deferring 0 (starts deferring at_start)) ≡ record { result = Handled; path = b ∷ []; sends = []; notes = [] }
  pub asked : (step deferring 0 (starts deferring at_start)).commands ≡ commands.RecallAll ∷ []
  pub handled : seen (step deferring 2 (step deferring 0 (starts deferring at_start))) ≡ record { result = Handled; path = b ∷ []; sends = []; notes = [] }
