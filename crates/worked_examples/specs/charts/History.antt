-- A state of states of states: a group transition leaves them from inner to outer, and coming back enters the states that were left.
use Rattle.std.specs.Prelude.{◌≡◌, ℕ, List, [], ◌∷◌, codes}
use Rattle.chart_model.specs.Chart.{Path, from_state, to_state, Chart}
use Rattle.chart_model.specs.Acting.{Handled, Acted, handles, starts}
use Rattle.action_program.specs.Numbered.{no_stmt}
use Rattle.worked_examples.specs.charts.Writing.{at_start, begins_at, event, on, plain, seen, standing, tell, told, with_message}

abbrev s : List ℕ
s = codes "S"

abbrev u : List ℕ
u = codes "U"

abbrev v : List ℕ
v = codes "V"

abbrev w : List ℕ
w = codes "W"

abbrev x : List ℕ
x = codes "X"

-- The top graph begins at a state. `S` tells 1 on exit; its state `U` tells 2 on exit; in `U`, `V` tells 4 on
-- entry and 3 on exit, and `W` tells 5 on entry. A kick (0) leads from `S` to `X` and tells 9; a back (1)
-- leads from `V` to `W`, and from `X` to `S`.
abbrev pub nested : List ℕ → Chart
nested first = record {
  graphs =
      record {
        owner = [];
        states = record { name = s; entry = no_stmt; exit = tell 1 } ∷ plain x ∷ [];
        points = [];
        choices = [];
        transitions = begins_at (to_state first) ∷ on 0 (from_state s) (to_state x) (tell 9) ∷ on 1 (from_state x) (to_state s) no_stmt ∷ [];
      }
      ∷ record {
        owner = s ∷ [];
        states = record { name = u; entry = no_stmt; exit = tell 2 } ∷ [];
        points = [];
        choices = [];
        transitions = begins_at (to_state u) ∷ [];
      }
      ∷ record {
        owner = u ∷ s ∷ [];
        states = record { name = v; entry = tell 4; exit = tell 3 } ∷ record { name = w; entry = tell 5; exit = no_stmt } ∷ [];
        points = [];
        choices = [];
        transitions = begins_at (to_state v) ∷ on 1 (from_state v) (to_state w) no_stmt ∷ [];
      }
      ∷ [];
  values = [];
}

abbrev pub nested_path : List ℕ → Path
nested_path inner = inner ∷ u ∷ s ∷ []

-- one step after another
abbrev pub step : Chart → ℕ → Acted Path → Acted Path
step chart signal before = handles chart with_message (event signal) (standing before)

-- the start, then back, kick, back
pub record HistoryIsComputed : Type 0 where
  pub at_first : seen (starts (nested s) at_start) ≡ record { result = Handled; path = nested_path v; sends = told (4 ∷ []); notes = [] }
  pub back : seen (step (nested s) 1 (starts (nested s) at_start)) ≡ record { result = Handled; path = nested_path w; sends = told (3 ∷ 5 ∷ []); notes = [] }
  pub kick : seen (step (nested s) 0 (step (nested s) 1 (starts (nested s) at_start))) ≡ record { result = Handled; path = x ∷ []; sends = told (2 ∷ 1 ∷ 9 ∷ []); notes = [] }
  pub again : seen (step (nested s) 1 (step (nested s) 0 (step (nested s) 1 (starts (nested s) at_start)))) ≡ record { result = Handled; path = nested_path w; sends = told (5 ∷ []); notes = [] }

-- a border that was never left: its initial transition is taken
pub record NoHistoryIsComputed : Type 0 where
  pub at_first : seen (starts (nested x) at_start) ≡ record { result = Handled; path = x ∷ []; sends = []; notes = [] }
  pub back : seen (step (nested x) 1 (starts (nested x) at_start)) ≡ record { result = Handled; path = nested_path v; sends = told (4 ∷ []); notes = [] }
