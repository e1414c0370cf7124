-- What a chain changes, as the code keeps it.
use Rattle.std.specs.Prelude.{◌≡◌, ◌+◌, ℕ, Bool, List, Option, Some, None, length, option_map, slice_index_or}
use Rattle.action_program.specs.declared.moment.Moment.{Moment}
use Rattle.action_program.specs.Meaning.{Ran, ran}
use Rattle.chart_model.specs.chart_plan.Handling.{Memory, Next, Ends, Goes, first_of, or_default, holds, triggers_fit}
use Rattle.chart_model.specs.Chart.{Event}
use Rattle.chart_model.specs.Named.{same_event}
use Rattle.chart_model.specs.Acting.{acting}
use Rattle.chart_run.specs.declared.chart_tables.mind.Mind.{Mind}
use Rattle.chart_run.specs.declared.chart_tables.chain.Step.{Step}
use Rattle.chart_run.specs.declared.chart_tables.chain.Step.TheVariants as steps
use Rattle.chart_run.specs.declared.chart_tables.tries.Taken.{Taken}
use Rattle.chart_run.specs.chart_tables.Tables.{ArrowTree, arrow_view}

-- the history of each state, and what programs changed
abbrev pub memory_of : Mind → Memory ℕ Ran
memory_of m = record { past = λ s. slice_index_or m.past.items s None; ran = ran m.vars m.effects }

-- a call changed the mind to m
pub record Becomes (old new : Mind) (m : Memory ℕ Ran) : Type 0 where
  pub seen : memory_of new ≡ m
  pub size : length new.past.items ≡ length old.past.items

-- a call answered r and changed the mind, as x says
pub record Gives {A : Type 0} (old new : Mind) (r : A) (x : A × Memory ℕ Ran) : Type 0 where
  pub seen : (r, memory_of new) ≡ x
  pub size : length new.past.items ≡ length old.past.items

-- one of an arrow's triggers fits
unfoldable pub arrow_fits : Moment → Event → ArrowTree → Memory ℕ Ran → Bool × Memory ℕ Ran
arrow_fits at event t m = triggers_fit (acting at) same_event event t.triggers m

-- a transition that is taken, and how many states it leaves
abbrev pub taken_view : Option Taken → Option (ℕ × ArrowTree)
taken_view t = option_map (λ (x : Taken). (x.leaves, arrow_view x.arrow.now)) t

-- a branch's condition holds
unfoldable pub arrow_holds : Moment → ArrowTree → Memory ℕ Ran → Bool × Memory ℕ Ran
arrow_holds at t m = holds (acting at) t.condition m

-- the first branch whose condition holds, else the default
unfoldable pub arrow_chosen : Moment → ArrowTree → List ArrowTree → Memory ℕ Ran → ArrowTree × Memory ℕ Ran
arrow_chosen at d ts m = or_default d (first_of (arrow_holds at) ts m)

-- where a chain goes on
abbrev pub next_of : Step → Next ℕ ArrowTree
next_of (steps.Ends s) = Ends s
next_of (steps.Goes t) = Goes (arrow_view t.now)
