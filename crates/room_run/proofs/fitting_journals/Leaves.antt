-- Where an actor stands: at a state of its chart, between any two messages.
use Rattle.std.proofs.Common.{◌≡◌, ℕ, zero, suc, ◌<◌, Bool, true, false, cond, List, [], ◌∷◌, length, Option, Some, None, option_map, refl, sym, ap, ◌∙◌, subst, arith, ◌⊎◌, inl, inr}
use Rattle.std.specs.List.{AllByRecursion}
use Rattle.std.proofs.lemmas.List.{length-map}
use Rattle.room_kinds.specs.declared.message.Msg.{Msg}
use Rattle.room_kinds.specs.declared.numbers.Incarnation.{Incarnation}
use Rattle.room_wiring.specs.declared.names.ClassNames.{ClassNames}
use Rattle.action_program.specs.declared.moment.Moment.{Moment}
use Rattle.action_program.specs.Meaning.{Ran}
use Rattle.chart_model.specs.chart_plan.Plan.{Kind, Simple, Border, Choice, Entry, Exit}
use Rattle.chart_model.specs.chart_plan.Handling.{Memory, Next, Ends, Goes, holds, first_of, or_default, chosen, enabled, enter, arrive, border, follow, segments, chain, runs, taken, handling, starting}
use Rattle.chart_model.specs.chart_plan.Same.{Maybe, absent, present}
use Rattle.chart_model.specs.Acting as acts
use Rattle.chart_model.specs.Acting.{Standing, Acted, acting, starts_by, handles_by, memory_of}
use Rattle.chart_model.specs.Chart.{Path, Event, Chart}
use Rattle.chart_model.specs.Named.{plan_of}
use Rattle.chart_model.specs.States.{states_of, state_label}
use Rattle.chart_run.specs.ByName.{IsPath, IsStanding, IsActed, state_count}
use Rattle.chart_run.specs.Machines.{moment_of, moment_at_start, event_of}
use Rattle.chart_run.specs.chart_tables.Tables.{ArrowTree, arrow_view, plan, Follows, LeadsLower, IsSound}
use Rattle.chart_run.specs.declared.chart_tables.tables.Tables.{Tables}
use Rattle.chart_run.proofs.Naming.{acts_named, starts_named}
use Rattle.chart_behaviour.specs.ModelCharts.{Actor, standing_at, standing_after, begins, handles, state_number}
use Rattle.chart_compile.specs.chart_parts.Compiled.{Compiles}
use Rattle.room_run.specs.fitting_plants.Plants.{HasLabels}

-- something is there
abbrev IsThere : {A : Type 0} → Option A → Type 0
IsThere None = ⊥
IsThere (Some x) = Unit {0}

-- ---- chains end at a state

-- the transition that goes on, if one does, has this in common with others
abbrev NextIn : (ArrowTree → Type 0) → Next ℕ ArrowTree → Type 0
NextIn P (Ends s) = Unit {0}
NextIn P (Goes t) = P t

abbrev FoundIn : (ArrowTree → Type 0) → Option ArrowTree → Type 0
FoundIn P None = Unit {0}
FoundIn P (Some t) = P t

module _ (try : ArrowTree → Memory ℕ Ran → Bool × Memory ℕ Ran) (P : ArrowTree → Type 0) where
  found : (t : ArrowTree) (b : Bool) (m : Memory ℕ Ran) (rest : Option ArrowTree × Memory ℕ Ran) → P t → FoundIn P rest.0 → FoundIn P (cond b (Some t, m) rest).0
  found t true m rest h k = h
  found t false m rest h k = k

  first_in : (ts : List ArrowTree) (m : Memory ℕ Ran) → AllByRecursion P ts → FoundIn P (first_of try ts m).0
  unfolding first_of
  first_in [] m h = tt
  first_in (t ∷ ts) m h = found t (try t m).0 (try t m).1 (first_of try ts (try t m).1) h.0 (first_in ts (try t m).1 h.1)

  defaulted : (d : ArrowTree) (r : Option ArrowTree × Memory ℕ Ran) → FoundIn P r.0 → P d → P (or_default d r).0
  defaulted d (None, m) a b = b
  defaulted d (Some t, m) a b = a

module _ (v : Tables) (at : Moment) (began : Option ℕ) where
  border_in : (P : ArrowTree → Type 0) (s : ℕ) (t : ArrowTree) (m : Memory ℕ Ran) (r : Option ℕ) → P t → NextIn P (border (plan v) (acting at) s t m r).0
  unfolding border
  border_in P s t m None h = h
  border_in P s t m (Some leaf) h = tt

  arrive_in : (n : ℕ) (k : Kind ℕ ArrowTree) (m : Memory ℕ Ran) → LeadsLower (length v.nodes.items) n k → NextIn (Follows (length v.nodes.items) n) (arrive (plan v) (acting at) began k m).0
  unfolding arrive chosen
  arrive_in n (Simple s) m h = tt
  arrive_in n (Border s t) m h = border_in (Follows (length v.nodes.items) n) s t (enter (plan v) (acting at) s m) (m.past s) h
  arrive_in n (Choice ts d) m h =
      let P : ArrowTree → Type 0 = Follows (length v.nodes.items) n in
      let try : ArrowTree → Memory ℕ Ran → Bool × Memory ℕ Ran = λ t now. holds (acting at) t.condition now in
      defaulted try P d (first_of try ts m) (first_in try P ts m h.0) h.1
  arrive_in n (Entry s t) m h = h
  arrive_in n (Exit s t) m h = h

  follow_ends : (P : ArrowTree → Type 0) (again : ArrowTree → Memory ℕ Ran → Option ℕ × Memory ℕ Ran) → ((t : ArrowTree) (m : Memory ℕ Ran) → P t → IsThere (again t m).0)
      → (x : Next ℕ ArrowTree × Memory ℕ Ran) → NextIn P x.0 → IsThere (follow (plan v) (acting at) again x).0
  unfolding follow
  follow_ends P again h (Ends s, m) k = tt
  follow_ends P again h (Goes t, m) k = h t m k

  -- each next transition leads to a lower node
  segments_end : IsSound v → (n : ℕ) (t : ArrowTree) (m : Memory ℕ Ran) → t.target < n → IsThere (segments (plan v) (acting at) n began t m).0
  unfolding segments
  segments_end sound zero t m low = absurd (omega (arith, low))
  segments_end sound (suc n) t m low =
      follow_ends (Follows (length v.nodes.items) t.target) (segments (plan v) (acting at) n began)
      (λ u now f. segments_end sound n u now (let lower = f.lower in omega (arith, low, lower)))
      (arrive (plan v) (acting at) began ((plan v).node t.target) (runs (acting at) t.action m))
      (arrive_in t.target ((plan v).node t.target) (runs (acting at) t.action m) (sound.lower t.target))

  chain_ends : IsSound v → (t : ArrowTree) (m : Memory ℕ Ran) → IsThere (chain (plan v) (acting at) began t m).0
  unfolding chain segments
  chain_ends sound t m =
      follow_ends (Follows (length v.nodes.items) t.target) (segments (plan v) (acting at) (length v.nodes.items) began)
      (λ u now f. segments_end sound (length v.nodes.items) u now f.known)
      (arrive (plan v) (acting at) began ((plan v).node t.target) (runs (acting at) t.action m))
      (arrive_in t.target ((plan v).node t.target) (runs (acting at) t.action m) (sound.lower t.target))

start_ends : (v : Tables) (at : Moment) → IsSound v → IsThere (starts_by (plan v) at (arrow_view v.initial) v.values.items).leaf
unfolding starts_by starting
start_ends v at sound = chain_ends v at None sound (arrow_view v.initial) (record { past = λ s. None; ran = acts.quiet v.values.items })

taken_ends : (v : Tables) (at : Moment) (leaf : ℕ) → IsSound v → (x : Option (ℕ × ArrowTree) × Memory ℕ Ran) → IsThere (taken (plan v) (acting at) leaf x).leaf
unfolding taken
taken_ends v at leaf sound (None, m) = tt
taken_ends v at leaf sound (Some (k, t), m) = chain_ends v at (Some leaf) sound t _

handle_ends : (v : Tables) (at : Moment) (event : Event) (actor : Standing ℕ) → IsSound v → IsThere (handles_by (plan v) at event actor).leaf
unfolding handles_by handling
handle_ends v at event actor sound =
    taken_ends v at actor.leaf sound (enabled (plan v) (acting at) event 0 ((plan v).up actor.leaf) (memory_of actor))

-- ---- actors

-- an actor of a class with these tables, if it has a chart: it stands at one of the chart's states
pub data Stands (o : Option Tables) : Actor → Type 0 where
  no_chart : o ≡ None → Stands o None
  at_state : {m : Standing ℕ} (v : Tables) (chart : Chart) (k : Compiles v chart) (named : Standing Path) → o ≡ Some v
      → IsStanding (state_count v) k.names m named → Stands o (Some m)

-- tables that are compiled from a chart
abbrev pub AreCompiled : Option Tables → Type 0
AreCompiled None = Unit {0}
AreCompiled (Some v) = (chart : Chart) × Compiles v chart

stands_after : (v : Tables) (chart : Chart) (k : Compiles v chart) (a : Acted ℕ) (b : Acted Path) → IsActed (state_count v) k.names a b → IsThere a.leaf
    → Stands (Some v) (standing_after a)
stands_after v chart k a b h there = go a.leaf b.leaf h.leaf there
  where
    go : (l : Option ℕ) (p : Option Path) → Maybe (IsPath (state_count v) k.names) l p → IsThere l → Stands (Some v) (option_map (standing_at a) l)
    go l p absent t = absurd t
    go l p (present {y = leaf} is) t = at_state v chart k (record { leaf = leaf; past = b.past; vars = b.vars }) refl (record { leaf = is; past = h.past; vars = h.vars })

pub begin_stands : (x : Incarnation) (o : Option Tables) → AreCompiled o → Stands o (begins x o).machine
unfolding begins
begin_stands x None h = no_chart refl
begin_stands x (Some v) (chart, k) =
    stands_after v chart k (starts_by (plan v) (moment_at_start x) (arrow_view v.initial) v.values.items)
    (starts_by (plan_of chart) (moment_at_start x) k.start v.values.items)
    (starts_named v k.names chart k.shows (moment_at_start x) (arrow_view v.initial) k.start v.values.items k.initial)
    (start_ends v (moment_at_start x) k.sound)

pub handle_stands : (x : Incarnation) (m : Msg) (o : Option Tables) (a : Actor) → Stands o a → Stands o (handles x m o a).machine
unfolding handles
handle_stands x m o a (no_chart e) = subst (λ (z : Option Tables). Stands z (handles x m z None).machine) (sym e) (no_chart refl)
handle_stands x m o a (at_state {m = s} v chart k named e stands) =
    subst (λ (z : Option Tables). Stands z (handles x m z (Some s)).machine) (sym e)
    (stands_after v chart k (handles_by (plan v) (moment_of x m) (event_of m) s) (acts.handles chart (moment_of x m) (event_of m) named)
    (acts_named v k.names chart k.shows (moment_of x m) (event_of m) s named stands)
    (handle_ends v (moment_of x m) (event_of m) s k.sound))

-- the number of an actor's state is that of a label of its class, 65,535 where the class has none
pub state_stands : (c : ClassNames) (o : Option Tables) (a : Actor) → HasLabels c o → Stands o a
    → (state_number a < length c.states) ⊎ ((c.states ≡ []) × (state_number a ≡ 65535))
state_stands c o a labels (no_chart e) = inr (subst (HasLabels c) e labels, refl)
state_stands c o a labels (at_state {m = s} v chart k named e stands) =
    let has : HasLabels c (Some v) = subst (HasLabels c) e labels in
    let many : length c.states ≡ length (states_of has.0) = ap length has.2 ∙ length-map (states_of has.0) state_label in
    let count = has.1.count in
    let known : s.leaf < length v.states.items = stands.leaf.known in
    inl (omega (arith, many, count, known))
