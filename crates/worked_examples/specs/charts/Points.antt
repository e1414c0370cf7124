-- Entry, exit and transition points, and a transition that leads from a state to itself.
use Rattle.std.specs.Prelude.{◌≡◌, ℕ, List, [], ◌∷◌, None, codes}
use Rattle.chart_model.specs.Chart.{Path, from_state, from_point, from_entry, from_exit, to_state, to_point, to_entry, to_exit, a_transition_point, an_entry_point, an_exit_point, Chart}
use Rattle.chart_model.specs.Acting.{Handled, Acted, starts}
use Rattle.action_program.specs.Numbered.{no_stmt}
use Rattle.worked_examples.specs.charts.Writing.{at_start, tell, told, plain, begins_at, goes, on, seen}
use Rattle.worked_examples.specs.charts.History.{step}

abbrev a : List ℕ
a = codes "A"

abbrev s : List ℕ
s = codes "S"

abbrev i : List ℕ
i = codes "I"

abbrev j : List ℕ
j = codes "J"

abbrev e : List ℕ
e = codes "e"

abbrev x : List ℕ
x = codes "x"

abbrev t : List ℕ
t = codes "t"

-- From `A` a 0 leads to the entry point `e` of `S`, whose continuation tells 2 and leads to `J`; `S` tells 1 on
-- entry and 3 on exit, `J` tells 4 on entry and 5 on exit. In `S` a 0 leads from `J` to the exit point `x`, whose
-- continuation tells 6 and leads to `A`. A 1 leads from `J` to itself and tells 7; from the transition point `t`
-- it leads to `I` and tells 8; a 2 does so alone. From `A` a 2 leads to the transition point `t` of `S`.
abbrev pub pointed : Chart
pointed = record {
  graphs =
      record {
        owner = [];
        states = plain a ∷ record { name = s; entry = tell 1; exit = tell 3 } ∷ [];
        points = [];
        choices = [];
        transitions =
            begins_at (to_state a)
            ∷ on 0 (from_state a) (to_entry e s) no_stmt
            ∷ on 2 (from_state a) (to_point t s) no_stmt
            ∷ goes (from_exit x s) (to_state a) None (tell 6)
            ∷ [];
      }
      ∷ record {
        owner = s ∷ [];
        states = plain i ∷ record { name = j; entry = tell 4; exit = tell 5 } ∷ [];
        points = record { kind = an_entry_point; name = e } ∷ record { kind = an_exit_point; name = x } ∷ record { kind = a_transition_point; name = t } ∷ [];
        choices = [];
        transitions =
            on 1 (from_point t) (to_state i) (tell 8)
            ∷ on 2 (from_point t) (to_state i) (tell 8)
            ∷ begins_at (to_state i)
            ∷ goes (from_entry e) (to_state j) None (tell 2)
            ∷ on 1 (from_state j) (to_state j) (tell 7)
            ∷ on 0 (from_state j) (to_exit x) no_stmt
            ∷ [];
      }
      ∷ [];
  values = [];
}

abbrev pub inside : Acted Path
inside = step pointed 0 (starts pointed at_start)

pub record PointsAreComputed : Type 0 where
  -- the entry action runs before the continuation of the entry point
  pub entered : seen inside ≡ record { result = Handled; path = j ∷ s ∷ []; sends = told (1 ∷ 2 ∷ 4 ∷ []); notes = [] }
  -- a state's own transition goes before that of a transition point, and leaves the state and enters it
  pub itself : seen (step pointed 1 inside) ≡ record { result = Handled; path = j ∷ s ∷ []; sends = told (5 ∷ 7 ∷ 4 ∷ []); notes = [] }
  -- a transition point leads from each state of its graph
  pub any : seen (step pointed 2 inside) ≡ record { result = Handled; path = i ∷ s ∷ []; sends = told (5 ∷ 8 ∷ []); notes = [] }
  -- the exit action runs before the continuation of the exit point
  pub left : seen (step pointed 0 inside) ≡ record { result = Handled; path = a ∷ []; sends = told (5 ∷ 3 ∷ 6 ∷ []); notes = [] }
  -- a transition point of a state leads to the state: to its history, where it has one
  pub back : seen (step pointed 2 (step pointed 0 inside)) ≡ record { result = Handled; path = j ∷ s ∷ []; sends = told (1 ∷ 4 ∷ []); notes = [] }
  pub first : seen (step pointed 2 (starts pointed at_start)) ≡ record { result = Handled; path = i ∷ s ∷ []; sends = told (1 ∷ []); notes = [] }
