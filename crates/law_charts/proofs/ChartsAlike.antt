-- What actors do by tables they do by the charts that the tables show.
use Rattle.std.proofs.Common.{◌≡◌, ℕ, zero, suc, ◌+◌, ◌<◌, nat_lt, Bool, true, false, not, cond, List, [], ◌∷◌, length, slice_get, Option, Some, None, option_map, option_and_then, refl, sym, ap, ◌∙◌, subst, lt-ltb, eq-eqb, arith}
use Rattle.std.specs.List.{position_or_len}
use Rattle.std.specs.Option.{unwrap_or}
use Rattle.std.proofs.lemmas.Bool.{ne_eqb}
use Rattle.room_kinds.specs.declared.message.Msg.{Msg}
use Rattle.room_kinds.specs.declared.numbers.Incarnation.{Incarnation}
use Rattle.room_wiring.specs.declared.tables.Tables.{Tables as Wiring}
use Rattle.action_program.specs.declared.moment.Moment.{Moment}
use Rattle.chart_model.specs.chart_plan.Same.{Maybe, absent, present}
use Rattle.chart_model.specs.Acting as acting
use Rattle.chart_model.specs.Acting.{Standing, Acted, Result, starts, starts_by, starts_with, handles_by}
use Rattle.chart_model.specs.Chart.{Path, Chart}
use Rattle.chart_model.specs.Named.{same_path, plan_of}
use Rattle.chart_model.specs.States.{states_of, state_number}
use Rattle.chart_run.specs.ByName.{IsPath, IsStanding, IsActed, state_count}
use Rattle.chart_run.specs.Machines.{moment_of, moment_at_start, event_of}
use Rattle.chart_run.specs.chart_tables.Tables.{plan, arrow_view}
use Rattle.chart_run.specs.declared.chart_tables.tables.Tables.{Tables}
use Rattle.chart_run.proofs.Naming.{acts_named, starts_named}
use Rattle.actor_duties.specs.Words.{class_number}
use Rattle.chart_behaviour.specs.ModelCharts as tables
use Rattle.chart_behaviour.specs.ModelCharts.{class_tables, tables_at, handling_of, behaviour_of}
use Rattle.chart_compile.specs.chart_parts.Compiled.{Compiles}
use Rattle.law_charts.specs.Alike.{BeginAlike, HandleAlike, DoAlike}
use Rattle.law_charts.specs.Charts.{ChartActor, Actor, class_chart, chart_at, stands_after, begins, handles_by_chart, number_of, behaviour_by_charts, ShowsChart, ShowCharts}

-- the first place that passes a test
first_place : {X : Type 0} (p : X → Bool) (xs : List X) (s : ℕ) (y : X) → slice_get xs s ≡ Some y → p y ≡ true
    → ((i : ℕ) (x : X) → i < s → slice_get xs i ≡ Some x → p x ≡ false) → position_or_len p xs ≡ s
first_place p [] s y h k before = absurd cc
first_place p (x ∷ xs) zero y h k before =
    let same : x ≡ y = cc in
    ap (λ (b : Bool). cond (not b) (1 + position_or_len p xs) 0) (ap p same ∙ k)
first_place {X} p (x ∷ xs) (suc s) y h k before =
    let rest : position_or_len p xs ≡ s = first_place p xs s y h k (λ i z low at. before (suc i) z (omega arith) at) in
    ap (λ (b : Bool). cond (not b) (1 + position_or_len p xs) 0) (before 0 x (omega arith) refl) ∙ omega (arith, rest)

-- the number of a state
numbered : (v : Tables) (chart : Chart) (k : Compiles v chart) (s : ℕ) (leaf : Path) → IsPath (state_count v) k.names s leaf → unwrap_or (state_number chart leaf) 65535 ≡ s
numbered v chart k s leaf is =
    let known : s < length v.states.items = is.known in
    let count = k.count in
    let here : slice_get (states_of chart) s ≡ Some leaf = k.paths s is.known ∙ ap (λ (z : Path). Some z) is.is in
    let at : position_or_len (same_path leaf) (states_of chart) ≡ s =
    first_place (same_path leaf) (states_of chart) s leaf here (sym (k.shows.same s leaf s leaf is is) ∙ eq-eqb s s refl)
    (λ i x low there.
    let inside : i < length v.states.items = omega (arith, low, known) in
    let named : Some (k.names.paths i) ≡ Some x = sym (k.paths i inside) ∙ there in
    let path : k.names.paths i ≡ x = cc in
    sym (k.shows.same s leaf i x is (record { known = inside; is = path })) ∙ ne_eqb s i (λ e. omega (arith, low, e))) in
    ap (λ (n : ℕ). unwrap_or (cond (nat_lt n (length (states_of chart))) (Some n) None) 65535) at
    ∙ ap (λ (b : Bool). unwrap_or (cond b (Some s) None) 65535) (lt-ltb s (length (states_of chart)) (omega (arith, known, count)))

-- an actor by tables and one by the chart that they show
pub data IsNamed (o : Option Tables) (c : Option Chart) : tables.Actor → Actor → Type 0 where
  no_actor : IsNamed o c None None
  an_actor : {m : Standing ℕ} {actor : ChartActor} (v : Tables) (chart : Chart) (k : Compiles v chart) → o ≡ Some v → c ≡ Some chart → actor.chart ≡ chart
      → IsStanding (state_count v) k.names m actor.at → IsNamed o c (Some m) (Some actor)

same_number : (o : Option Tables) (c : Option Chart) (a : tables.Actor) (b : Actor) → IsNamed o c a b → tables.state_number a ≡ number_of b
same_number o c a b no_actor = refl
same_number o c a b (an_actor {m} {actor} v chart k vo co same stands) =
    sym (ap (λ (z : Chart). unwrap_or (state_number z actor.at.leaf) 65535) same ∙ numbered v chart k m.leaf actor.at.leaf stands.leaf)

-- after a chain
named_after : (v : Tables) (chart : Chart) (k : Compiles v chart) (a : Acted ℕ) (b : Acted Path) → IsActed (state_count v) k.names a b
    → IsNamed (Some v) (Some chart) (tables.standing_after a) (stands_after chart b)
named_after v chart k a b h = go a.leaf b.leaf h.leaf
  where
    go : (l : Option ℕ) (p : Option Path) → Maybe (IsPath (state_count v) k.names) l p
        → IsNamed (Some v) (Some chart) (option_map (tables.standing_at a) l) (option_map (λ (leaf : Path). record { chart = chart; at = record { leaf = leaf; past = b.past; vars = b.vars } }) p)
    go l p absent = no_actor
    go l p (present leaf) = an_actor v chart k refl refl refl (record { leaf = leaf; past = h.past; vars = h.vars })

begin_alike : (x : Incarnation) (o : Option Tables) (c : Option Chart) → ShowsChart o c → BeginAlike (IsNamed o c) (tables.begins x o) (begins x c)
unfolding tables.begins
begin_alike x None None h = record { machine = no_actor; notes = refl; commands = refl }
begin_alike x (Some v) None h = absurd h
begin_alike x None (Some chart) h = absurd h
begin_alike x (Some v) (Some chart) k =
    let at : Moment = moment_at_start x in
    let acted : IsActed (state_count v) k.names (starts_by (plan v) (moment_at_start x) (arrow_view v.initial) v.values.items) (starts_by (plan_of chart) (moment_at_start x) k.start v.values.items) =
    starts_named v k.names chart k.shows (moment_at_start x) (arrow_view v.initial) k.start v.values.items k.initial in
    let by : starts_by (plan_of chart) (moment_at_start x) k.start v.values.items ≡ starts chart (moment_at_start x) =
    ap (starts_by (plan_of chart) (moment_at_start x) k.start) k.values ∙ sym (ap (starts_with chart (moment_at_start x)) k.starts.1) in
    let same = subst (λ (z : Acted Path). IsActed (state_count v) k.names (starts_by (plan v) (moment_at_start x) (arrow_view v.initial) v.values.items) z) by acted in
    record { machine = named_after v chart k _ _ same; notes = same.notes; commands = same.commands }

handle_alike : (x : Incarnation) (o : Option Tables) (c : Option Chart) (a : tables.Actor) (b : Actor) (m : Msg) → IsNamed o c a b → ShowsChart o c
    → HandleAlike (IsNamed o c) (tables.handles x m o a) (handles_by_chart x m c b)
unfolding tables.handles
handle_alike x None None a b m no_actor h = record { machine = no_actor; result = refl; notes = refl; commands = refl }
handle_alike x (Some v) None a b m no_actor h = absurd h
handle_alike x None (Some chart) a b m no_actor h = absurd h
handle_alike x (Some v) (Some chart) a b m no_actor h = record { machine = no_actor; result = refl; notes = refl; commands = refl }
handle_alike x o c a b m (an_actor {m = s} {actor} v chart k vo co same stands) h =
    let acted : IsActed (state_count v) k.names (handles_by (plan v) (moment_of x m) (event_of m) s) (acting.handles chart (moment_of x m) (event_of m) actor.at) =
    acts_named v k.names chart k.shows (moment_of x m) (event_of m) s actor.at stands in
    let direct : HandleAlike (IsNamed (Some v) (Some chart)) (tables.handles x m (Some v) (Some s)) (handles_by_chart x m (Some chart) (Some actor)) =
    record {
      machine = named_after v chart k (handles_by (plan v) (moment_of x m) (event_of m) s) (acting.handles chart (moment_of x m) (event_of m) actor.at) acted;
      result = ap handling_of acted.result;
      notes = acted.notes;
      commands = acted.commands;
    } in
    subst (λ (z : Option Tables). HandleAlike (IsNamed z c) (tables.handles x m z (Some s)) (handles_by_chart x m c (Some actor))) (sym vo)
    (subst (λ (z : Option Chart). HandleAlike (IsNamed (Some v) z) (tables.handles x m (Some v) (Some s)) (handles_by_chart x m z (Some actor))) (sym co) direct)

-- class by class, and slot by slot
class_stands : (vs : List (Option Tables)) (cs : List (Option Chart)) → ShowCharts vs cs → (n : ℕ) → ShowsChart (class_tables vs n) (class_chart cs n)
class_stands [] [] h n = tt
class_stands (v ∷ vs) [] h n = absurd h
class_stands [] (c ∷ cs) h n = absurd h
class_stands (v ∷ vs) (c ∷ cs) h zero = h.0
class_stands (v ∷ vs) (c ∷ cs) h (suc n) = class_stands vs cs h.1 n

slot_stands : (w : Wiring) (vs : List (Option Tables)) (cs : List (Option Chart)) → ShowCharts vs cs → (slot : ℕ) → ShowsChart (tables_at w vs slot) (chart_at w cs slot)
unfolding tables_at chart_at
slot_stands w vs cs h slot = go (class_number w slot)
  where
    go : (n : Option ℕ) → ShowsChart (option_and_then (class_tables vs) n) (option_and_then (class_chart cs) n)
    go None = tt
    go (Some n) = class_stands vs cs h n

-- the actors of a slot, by both
abbrev pub AreNamed : Wiring → List (Option Tables) → List (Option Chart) → ℕ → tables.Actor → Actor → Type 0
AreNamed w vs cs slot = IsNamed (tables_at w vs slot) (chart_at w cs slot)

pub charts_alike : (w : Wiring) (vs : List (Option Tables)) (cs : List (Option Chart)) → ShowCharts vs cs → DoAlike (AreNamed w vs cs) (behaviour_of w vs) (behaviour_by_charts w cs)
charts_alike w vs cs h = record {
  begin = λ x. begin_alike x (tables_at w vs x.slot.0) (chart_at w cs x.slot.0) (slot_stands w vs cs h x.slot.0);
  handle = λ x a b m r. handle_alike x (tables_at w vs x.slot.0) (chart_at w cs x.slot.0) a b m r (slot_stands w vs cs h x.slot.0);
  state = λ slot a b r. same_number (tables_at w vs slot) (chart_at w cs slot) a b r;
}
