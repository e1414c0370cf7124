-- A message is deferred exactly where the commands of its handling have a `defer`.
use Rattle.std.proofs.Common.{◌≡◌, ℕ, ◌||◌, Bool, true, false, cond, List, [], ◌∷◌, Option, Some, None, refl, sym, ap, ◌∙◌}
use Rattle.std.specs.List.{list_any}
use Rattle.room_kinds.specs.declared.message.Msg.{Msg}
use Rattle.room_kinds.specs.declared.command.Command.{Command}
use Rattle.room_kinds.specs.declared.command.Command.TheVariants as commands
use Rattle.room_kinds.specs.declared.numbers.Incarnation.{Incarnation}
use Rattle.chart_model.specs.chart_plan.Handling.{handling}
use Rattle.chart_model.specs.Acting.{acting, Standing, Result, memory_of, result_of, handles_by}
use Rattle.chart_model.specs.Acting as charts
use Rattle.chart_run.specs.chart_tables.Tables.{plan}
use Rattle.chart_run.specs.declared.chart_tables.tables.Tables.{Tables}
use Rattle.chart_run.specs.Machines.{moment_of, event_of}
use Rattle.chart_behaviour.proofs.chart_asks.Chains.{asks_nothing}
use Rattle.actor_world.specs.world_laws.Whereabouts.{is_defer, is_kept}
use Rattle.chart_behaviour.specs.ModelCharts.{Actor, tables_at, handling_of, handles}
use Rattle.chart_behaviour.specs.chart_defers.Laws.{ChartsTellDefers}

same_defer : (c : Command) → charts.is_defer c ≡ is_defer c
same_defer (commands.Send p k signal payload prio) = refl
same_defer commands.Defer = refl
same_defer commands.Recall = refl
same_defer commands.RecallAll = refl
same_defer (commands.Frame c) = refl
same_defer (commands.Name c) = refl

same_defers : (cs : List Command) → list_any charts.is_defer cs ≡ list_any is_defer cs
same_defers [] = refl
same_defers (c ∷ cs) = ap (λ b. b || list_any charts.is_defer cs) (same_defer c) ∙ ap (λ b. is_defer c || b) (same_defers cs)

-- a message is deferred where a `defer` was asked for; where nothing is enabled, nothing was
kept_is : (x : Incarnation) (m : Msg) (enabled : Bool) (cs : List Command) → (result_of (moment_of x m) enabled cs ≡ charts.Unhandled → cs ≡ [])
    → is_kept (handling_of (result_of (moment_of x m) enabled cs)) ≡ list_any is_defer cs
kept_is x m false cs h = sym (ap (list_any is_defer) (h refl))
kept_is x m true cs h =
    elim (list_any charts.is_defer cs) as (λ b. is_kept (handling_of (cond b charts.Deferred charts.Handled)) ≡ b) [ true ↦ refl | false ↦ refl ]
    ∙ same_defers cs

acts_tell : (x : Incarnation) (m : Msg) (v : Tables) (actor : Standing ℕ) → ((handles_by (plan v) (moment_of x m) (event_of m) actor).result ≡ charts.Unhandled → (handles_by (plan v) (moment_of x m) (event_of m) actor).commands ≡ [])
    → is_kept (handling_of (handles_by (plan v) (moment_of x m) (event_of m) actor).result) ≡ list_any is_defer (handles_by (plan v) (moment_of x m) (event_of m) actor).commands
unfolding handles_by
acts_tell x m v actor h =
    let moved = handling (plan v) (acting (moment_of x m)) actor.leaf (event_of m) (memory_of actor) in
    kept_is x m moved.enabled moved.memory.ran.commands h

handles_tells : (x : Incarnation) (m : Msg) (o : Option Tables) (actor : Actor) → is_kept (handles x m o actor).result ≡ list_any is_defer (handles x m o actor).commands
unfolding handles
handles_tells x m None actor = refl
handles_tells x m (Some v) None = refl
handles_tells x m (Some v) (Some actor) = acts_tell x m v actor (asks_nothing v (moment_of x m) (event_of m) actor)

pub tell_defers : ChartsTellDefers
tell_defers w classes x actor m = handles_tells x m (tables_at w classes x.slot.0) actor
