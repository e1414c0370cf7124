-- Machines by numbers are machines by names.
use Rattle.std.proofs.Common.{◌≡◌, ℕ, Bool, List, ℤ, Option, Some, None, length, subst, sym, ◌∙◌, ap, refl}
use Rattle.room_kinds.specs.declared.message.Msg.{Msg}
use Rattle.room_kinds.specs.declared.numbers.Incarnation.{Incarnation}
use Rattle.action_program.specs.Meaning.{Ran}
use Rattle.action_program.specs.declared.moment.Effects.{Effects}
use Rattle.action_program.specs.declared.moment.Moment.{Moment}
use Rattle.chart_model.specs.chart_plan.Handling.{Memory, Outcome, handling, starting}
use Rattle.chart_model.specs.chart_plan.Same.{Maybe, absent, present, SamePlan, SameMemory, SameOutcome}
use Rattle.chart_model.proofs.chart_plan.SameRuns.{handling-same, starting-same}
use Rattle.chart_model.specs.Acting.{Standing, Acted, Handled, acting, acted, acted_by, result_of, memory_of, quiet, handles_by, handles, starts_by}
use Rattle.chart_model.specs.Chart.{Path, Event, Chart}
use Rattle.chart_model.specs.Named.{Placed, plan_of}
use Rattle.chart_run.specs.chart_tables.Tables.{ArrowTree, arrow_view, plan}
use Rattle.chart_run.specs.declared.chart_tables.tables.Tables.{Tables}
use Rattle.chart_run.specs.Machines.{acted_of, result_view, moment_of, moment_at_start, event_of, standing_of}
use Rattle.chart_run.specs.declared.machine.Machine.{Machine}
use Rattle.chart_run.specs.declared.outcome.Outcome.{Outcome as CodeOutcome}
use Rattle.chart_run.specs.ByName.{ActsAsChart, StartsAsChart, Names, IsPath, IsNode, IsTransition, IsStanding, IsActed, Shows, state_count}

module _ (v : Tables) (names : Names) (chart : Chart) (shows : Shows v names chart) (at : Moment) where
  same_acted : (a : Outcome ℕ Ran) (b : Outcome Path Ran) → SameOutcome (IsPath (state_count v) names) a b → IsActed (state_count v) names (acted_by at a) (acted_by at b)
  same_acted a b s = record {
    result = ap (λ e. result_of at e a.memory.ran.commands) s.enabled ∙ ap (λ r. result_of at b.enabled r.commands) s.memory.ran;
    leaf = s.leaf;
    past = s.memory.past;
    vars = ap (λ r. r.vars) s.memory.ran;
    notes = ap (λ r. r.notes) s.memory.ran;
    commands = ap (λ r. r.commands) s.memory.ran;
  }

  pub acts_named : (event : Event) (m : Standing ℕ) (actor : Standing Path) → IsStanding (state_count v) names m actor → IsActed (state_count v) names (handles_by (plan v) at event m) (handles_by (plan_of chart) at event actor)
  unfolding handles_by
  acts_named event m actor s =
      let before : SameMemory (IsPath (state_count v) names) (memory_of m) (memory_of actor) = record { past = s.past; ran = ap quiet s.vars } in
      same_acted _ _ (handling-same (IsPath (state_count v) names) (IsNode names) (IsTransition names) (plan v) (plan_of chart) shows (acting at) m.leaf actor.leaf s.leaf event (memory_of m) (memory_of actor) before)

  pub starts_named : (a : ArrowTree) (t : Placed) (values : List ℤ) → IsTransition names a t → IsActed (state_count v) names (starts_by (plan v) at a values) (starts_by (plan_of chart) at t values)
  unfolding starts_by
  starts_named a t values i =
      let end = starting-same (IsPath (state_count v) names) (IsNode names) (IsTransition names) (plan v) (plan_of chart) shows (acting at) a t i (quiet values) in
      record {
        result = refl;
        leaf = end.0;
        past = end.1.past;
        vars = ap (λ r. r.vars) end.1.ran;
        notes = ap (λ r. r.notes) end.1.ran;
        commands = ap (λ r. r.commands) end.1.ran;
      }

pub acts_as_chart : (v : Tables) (old new : Machine) (m : Msg) (outcome : CodeOutcome) → acted_of (result_view outcome.result) new outcome.effects ≡ handles_by (plan v) (moment_of old.me m) (event_of m) (standing_of old) → ActsAsChart v old new m outcome
acts_as_chart v old new m outcome e = record {
  as_chart = λ chart names actor shows standing.
      let A : Acted ℕ → Type 0 = λ a. IsActed (state_count v) names a (handles chart (moment_of old.me m) (event_of m) actor) in
      subst A (sym e) (acts_named v names chart shows (moment_of old.me m) (event_of m) (standing_of old) actor standing);
}

pub starts_as_chart : (v : Tables) (me : Incarnation) (m : Machine) (effects : Effects) → acted_of Handled m effects ≡ starts_by (plan v) (moment_at_start me) (arrow_view v.initial) v.values.items → StartsAsChart v me m effects
starts_as_chart v me m effects e = record {
  as_chart = λ chart names t shows is values.
      let A : Acted ℕ → Type 0 = λ a. IsActed (state_count v) names a (starts_by (plan_of chart) (moment_at_start me) t chart.values) in
      let V : List ℤ → Type 0 = λ x. IsActed (state_count v) names (starts_by (plan v) (moment_at_start me) (arrow_view v.initial) v.values.items) (starts_by (plan_of chart) (moment_at_start me) t x) in
      subst A (sym e) (subst V values (starts_named v names chart shows (moment_at_start me) (arrow_view v.initial) t v.values.items is));
}
