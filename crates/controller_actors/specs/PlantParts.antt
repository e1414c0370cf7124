-- What is known of the parts of every plant: its wiring and, class by class, its tables.
-- A plant carries this fact, so it has one proof at most; that is what the lemmas say.
use Rattle.std.specs.Prelude.{◌≡◌, ◌≤◌, ℕ, List, Option, Some, length, slice_get, slice_index}
use Rattle.std.specs.List.{AllByRecursion-prop}
use Rattle.std.specs.Coded.{Coded-set, coded_ℕ, ×_prop, Π_prop, Unit-prop, le_prop}
use mathlib.Core.Bool.{Bool-set}
use Rattle.action_program.specs.Numbered.{StmtTree, empty, assign, choose, repeat, send, defer, recall, recall_all, frame, import_at, register, withdraw, Stmts, no_stmt, a_stmt, Branches, no_branch, a_branch}
use Rattle.chart_model.specs.chart_plan.Plan.{Kind, Simple, Border, Choice, Entry, Exit}
use Rattle.chart_run.specs.chart_tables.Tables.{ArrowTree, Follows, LeadsLower, IsSound, arrow_view, plan, up_at}
use Rattle.chart_run.specs.declared.chart_tables.tables.Tables.{Tables as ChartTables}
use Rattle.room_wiring.specs.declared.tables.Tables.{Tables as Wiring}
use Rattle.service_messages.specs.slot_runs.Runs.{IsDepthFirst, IsRunEnd, AreRunEnds}
use Rattle.frame_service.specs.frame_imports.Numbered.{ArePortsNumbered}
use Rattle.chart_behaviour.specs.Asked.{ClassesAsk}
use Rattle.chart_behaviour.specs.chart_asks.Asking.{StatementAsks, ProgramAsks, BranchesAsk, ArrowAsks, GoesOn, TablesAsk}
use Rattle.chart_behaviour.specs.sends.Sends.{OwnersAreThere, is_ranked}

-- a wiring and tables on which controllers run: there are 1 to 254 of them, so that they and the environment
-- have numbers of 8 bits; the tables are sound, and their programs send at the six priorities; the slots are
-- numbered depth first and are owned by controllers, and the ports have numbers
pub record AreOfPlant (wiring : Wiring) (tables : List (Option ChartTables)) : Type 0 where
  pub some_controller : 1 ≤ length wiring.controllers
  pub few_controllers : length wiring.controllers ≤ 254
  pub sound : (class : ℕ) (v : ChartTables) → slice_get tables class ≡ Some (Some v) → IsSound v
  pub order : IsDepthFirst wiring
  pub ports : ArePortsNumbered wiring
  pub owners : OwnersAreThere wiring
  pub ranked : ClassesAsk is_ranked tables

-- ---- it has one proof at most

Follows-prop : (count n : ℕ) (t : ArrowTree) → IsProp (Follows count n t)
Follows-prop count n t x y = λ j. record { lower = le_prop x.lower y.lower j; known = le_prop x.known y.known j }

LeadsLower-prop : (count n : ℕ) (k : Kind ℕ ArrowTree) → IsProp (LeadsLower count n k)
LeadsLower-prop count n (Simple s) = Unit-prop
LeadsLower-prop count n (Border s t) = Follows-prop count n t
LeadsLower-prop count n (Choice ts t) = ×_prop (AllByRecursion-prop _ (Follows-prop count n) ts) (Follows-prop count n t)
LeadsLower-prop count n (Entry s t) = Follows-prop count n t
LeadsLower-prop count n (Exit s t) = Follows-prop count n t

IsSound-prop : (v : ChartTables) → IsProp (IsSound v)
IsSound-prop v x y = λ j. record {
  few = le_prop x.few y.few j;
  lines = Π_prop (λ s. AllByRecursion-prop _ (λ q. le_prop) (up_at v s)) x.lines y.lines j;
  lower = Π_prop (λ n. LeadsLower-prop (length v.nodes.items) n ((plan v).node n)) x.lower y.lower j;
}

IsDepthFirst-prop : (t : Wiring) → IsProp (IsDepthFirst t)
IsDepthFirst-prop t x y = λ j. record {
  behind = Π_prop (λ s. Π_prop (λ c. Π_prop (λ e. le_prop))) x.behind y.behind j;
  between = Π_prop (λ s. Π_prop (λ c. Π_prop (λ u. Π_prop (λ e. Π_prop (λ after. Π_prop (λ before. Bool-set _ _)))))) x.between y.between j;
}

IsRunEnd-prop : (t : Wiring) (s e : ℕ) → IsProp (IsRunEnd t s e)
IsRunEnd-prop t s e x y = λ j. record {
  behind = le_prop x.behind y.behind j;
  there = le_prop x.there y.there j;
  inside = Π_prop (λ u. Π_prop (λ after. Π_prop (λ before. Bool-set _ _))) x.inside y.inside j;
  ends = Bool-set _ _ x.ends y.ends j;
}

-- a plant carries that it has the runs of its slots, so this has one proof at most too
pub AreRunEnds-prop : (t : Wiring) (ends : List ℕ) → IsProp (AreRunEnds t ends)
AreRunEnds-prop t ends x y = λ j. record {
  numbered = le_prop x.numbered y.numbered j;
  count = Coded-set coded_ℕ (length ends) (length t.slots) x.count y.count j;
  each = Π_prop (λ s. Π_prop (λ l. IsRunEnd-prop t s (slice_index ends s))) x.each y.each j;
}

mutual
  StatementAsks-prop : (s : StmtTree) → IsProp (StatementAsks is_ranked s)
  StatementAsks-prop empty = Unit-prop
  StatementAsks-prop (assign k kind e) = Unit-prop
  StatementAsks-prop (choose branches otherwise) = ×_prop (BranchesAsk-prop branches) (ProgramAsks-prop otherwise)
  StatementAsks-prop (repeat n body) = ProgramAsks-prop body
  StatementAsks-prop (send s) = Π_prop (λ vars. Π_prop (λ at. Bool-set _ _))
  StatementAsks-prop defer = Bool-set _ _
  StatementAsks-prop recall = Bool-set _ _
  StatementAsks-prop recall_all = Bool-set _ _
  StatementAsks-prop (frame verb reference e) = Π_prop (λ index. Bool-set _ _)
  StatementAsks-prop (import_at reference e f) = Π_prop (λ index. Π_prop (λ id. Bool-set _ _))
  StatementAsks-prop (register port name) = Bool-set _ _
  StatementAsks-prop (withdraw port) = Bool-set _ _

  ProgramAsks-prop : (ss : Stmts) → IsProp (ProgramAsks is_ranked ss)
  ProgramAsks-prop no_stmt = Unit-prop
  ProgramAsks-prop (a_stmt s rest) = ×_prop (StatementAsks-prop s) (ProgramAsks-prop rest)

  BranchesAsk-prop : (bs : Branches) → IsProp (BranchesAsk is_ranked bs)
  BranchesAsk-prop no_branch = Unit-prop
  BranchesAsk-prop (a_branch e body rest) = ×_prop (ProgramAsks-prop body) (BranchesAsk-prop rest)

ArrowAsks-prop : (t : ArrowTree) → IsProp (ArrowAsks is_ranked t)
ArrowAsks-prop t = ProgramAsks-prop t.action

GoesOn-prop : (k : Kind ℕ ArrowTree) → IsProp (GoesOn (ArrowAsks is_ranked) k)
GoesOn-prop (Simple s) = Unit-prop
GoesOn-prop (Border s t) = ArrowAsks-prop t
GoesOn-prop (Choice ts t) = ×_prop (AllByRecursion-prop _ ArrowAsks-prop ts) (ArrowAsks-prop t)
GoesOn-prop (Entry s t) = ArrowAsks-prop t
GoesOn-prop (Exit s t) = ArrowAsks-prop t

TablesAsk-prop : (v : ChartTables) → IsProp (TablesAsk is_ranked v)
TablesAsk-prop v x y = λ j. record {
  entry = Π_prop (λ s. ProgramAsks-prop ((plan v).entry s)) x.entry y.entry j;
  exit = Π_prop (λ s. ProgramAsks-prop ((plan v).exit s)) x.exit y.exit j;
  tried = Π_prop (λ s. AllByRecursion-prop _ ArrowAsks-prop ((plan v).tried s)) x.tried y.tried j;
  nodes = Π_prop (λ n. GoesOn-prop ((plan v).node n)) x.nodes y.nodes j;
  initial = ArrowAsks-prop (arrow_view v.initial) x.initial y.initial j;
}

pub AreOfPlant-prop : (wiring : Wiring) (tables : List (Option ChartTables)) → IsProp (AreOfPlant wiring tables)
AreOfPlant-prop wiring tables x y = λ j. record {
  some_controller = le_prop x.some_controller y.some_controller j;
  few_controllers = le_prop x.few_controllers y.few_controllers j;
  sound = Π_prop (λ class. Π_prop (λ v. Π_prop (λ e. IsSound-prop v))) x.sound y.sound j;
  order = IsDepthFirst-prop wiring x.order y.order j;
  ports = Π_prop (λ s. le_prop) x.ports y.ports j;
  owners = Π_prop (λ s. Π_prop (λ o. Π_prop (λ e. le_prop))) x.owners y.owners j;
  ranked = Π_prop (λ class. Π_prop (λ v. Π_prop (λ e. TablesAsk-prop v))) x.ranked y.ranked j;
}
