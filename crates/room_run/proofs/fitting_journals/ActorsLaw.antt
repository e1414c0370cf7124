-- What the journals of a run of a plant that fits tell of actors is so of the wiring.
use Rattle.std.proofs.Common.{◌≡◌, ℕ, zero, suc, ◌+◌, ◌<◌, ◌&&◌, ◌||◌, nat_lt, Bool, true, false, if◌then◌else◌, List, [], ◌∷◌, ◌++◌, map, length, Option, Some, None, option_and_then, slice_get, refl, sym, ap, ◌∙◌, subst, ltb-true, leb-true, arith, ◌⊎◌, inl, inr}
use Rattle.std.specs.Prelude.{nat_le}
use Rattle.std.specs.List.{AllByRecursion as Each, list_all}
use Rattle.std.specs.Option.{option_map_or}
use Rattle.std.proofs.lemmas.Bool.{and_parts}
use Rattle.std.proofs.lemmas.List.{length-map, length-append}
use Rattle.std.proofs.lemmas.List.Elements.{All-from_recursion}
use Rattle.std.proofs.lemmas.Option.{slice_get_within}
use Rattle.room_kinds.specs.declared.command.Command.{Command}
use Rattle.room_kinds.specs.declared.command.Command.TheVariants as commands
use Rattle.room_kinds.specs.declared.command.NameCommand.TheVariants as names
use Rattle.room_kinds.specs.declared.message.Msg.{Msg}
use Rattle.room_kinds.specs.declared.numbers.Incarnation.{Incarnation}
use Rattle.room_kinds.specs.declared.structure.PortKind.{PortKind}
use Rattle.room_kinds.specs.declared.structure.PortKind.TheVariants as ports
use Rattle.room_ast.specs.Trees.{ModelTree, ActorTree}
use Rattle.room_ast.specs.declared.scope.Scope.{Scope}
use Rattle.room_ast.specs.model_parts.Charts.{chart_of as machine_of}
use Rattle.room_ast.specs.model_parts.Classes.{actors}
use Rattle.room_wiring.specs.Consistent.{IsConsistent}
use Rattle.room_wiring.specs.Places.{port_count}
use Rattle.room_wiring.specs.Slots.{class_at, class_of, port_at}
use Rattle.room_wiring.specs.WellNamed.{signals_of}
use Rattle.room_wiring.specs.declared.names.ClassNames.{ClassNames}
use Rattle.room_wiring.specs.declared.names.PortNames.{PortNames}
use Rattle.room_wiring.specs.declared.slot.Slot.{Slot}
use Rattle.room_wiring.specs.declared.tables.Tables.{Tables as Wired}
use Rattle.wiring_plan.specs.wiring_classes.Classes.{class_names, classes_of}
use Rattle.action_lang.specs.action_check.Faults.{takes_names}
use Rattle.chart_model.specs.Chart.{Name, Chart}
use Rattle.chart_reader.specs.model_charts.Charts.{HasCharts, chart_in}
use Rattle.chart_reader.specs.model_charts.Written.{names_after, written_from}
use Rattle.chart_run.specs.Machines.{moment_of, moment_at_start, event_of}
use Rattle.chart_run.specs.declared.chart_tables.tables.Tables.{Tables}
use Rattle.journal.specs.Fits.{FitsState}
use Rattle.journal.specs.declared.entry.Entry.{Entry}
use Rattle.journal.specs.declared.entry.Journals.{Journals}
use Rattle.inject_reader.specs.declared.inject_lines.accepted.Line.{Line}
use Rattle.actor_duties.specs.Words.{class_number, is_sap_kind, is_spp_kind, is_sap, is_spp, port_at as seen_port}
use Rattle.actor_merge.proofs.Back.{run_projects}
use Rattle.actor_merge.specs.Merge.{entries_of}
use Rattle.actor_merge.specs.World.{start}
use Rattle.actor_world.specs.Journals.{lines_of}
use Rattle.actor_world.specs.Start.{start_entries, plant_of}
use Rattle.chart_behaviour.proofs.chart_asks.Chains.{note_zeros}
use Rattle.chart_behaviour.specs.ModelCharts.{Actor, class_tables, tables_at, begins, handles, state_number}
use Rattle.chart_behaviour.specs.chart_asks.Laws.{is_zero}
use Rattle.controller_actors.specs.Plants.{model_of}
use Rattle.controller_actors.specs.declared.plant.Plant.{Plant}
use Rattle.law_models.proofs.settled_models.Wired.{wiring_consistent}
use Rattle.law_models.specs.class_laws.Commands.{goes_out, can_ask, can_send_at, can_register}
use Rattle.law_models.specs.class_laws.Programs.{going, first_going}
use Rattle.model_run.specs.part_posts.Items.{items_of}
use Rattle.model_run.specs.run_ends.Runs.{journal_of, IsRun}
use Rattle.law_charts.specs.Charts.{ShowsChart, ShowCharts}
use Rattle.law_runs.proofs.run_journals.InPlaceLaw.{journal_is}
use Rattle.law_runs.specs.run_journals.InPlace.{OfControllers}
use Rattle.room_run.specs.fitting_plants.Plants.{PlantFits, IsFitting}
use Rattle.room_run.specs.fitting_journals.Actors.{TellsOfActors}
use Rattle.room_run.proofs.fitting_plants.Plants.{plants_fit}
use Rattle.room_run.proofs.fitting_journals.Acting.{StandsWell, start_tells, replay_tells}
use Rattle.room_run.proofs.fitting_journals.Signals.{is_service_point}
use Rattle.room_run.proofs.fitting_journals.Leaves.{Stands, AreCompiled, begin_stands, handle_stands, state_stands}
use Rattle.room_run.proofs.fitting_journals.Speaking.{AsksAt}

-- ---- one list of tables for one list of classes

pub item_there : {X : Type 0} (xs : List X) (k : ℕ) → k < length xs → (x : X) × (slice_get xs k ≡ Some x)
item_there [] k low = absurd (omega (arith, low))
item_there (x ∷ xs) zero low = (x, refl)
item_there (x ∷ xs) (suc k) low = item_there xs k (omega (arith, low))

-- lists that are seen as one are of one length
as_many_seen : {X Y Z : Type 0} (f : X → Z) (g : Y → Z) (xs : List X) (ys : List Y) → map f xs ≡ map g ys → length xs ≡ length ys
as_many_seen f g xs ys same = sym (length-map xs f) ∙ ap length same ∙ length-map ys g

as_many_written : (scopes : List Scope) (classes : List ActorTree) (names : List Name) → length scopes ≡ length classes
    → length (written_from names scopes classes) ≡ length classes
as_many_written [] [] names e = refl
as_many_written [] (a ∷ others) names e = absurd (omega (arith, e))
as_many_written (s ∷ ss) [] names e = absurd (omega (arith, e))
as_many_written (s ∷ ss) (a ∷ others) names e =
    let more = as_many_written ss others (names_after s names (machine_of a)) (omega (arith, e)) in omega (arith, more)

as_many_shown : (vs : List (Option Tables)) (cs : List (Option Chart)) → ShowCharts vs cs → length vs ≡ length cs
as_many_shown [] [] h = refl
as_many_shown (v ∷ vs) [] h = absurd h
as_many_shown [] (c ∷ cs) h = absurd h
as_many_shown (v ∷ vs) (c ∷ cs) h = let more = as_many_shown vs cs h.1 in omega (arith, more)

as_many_charts : (m : ModelTree) (charts : List (Option Chart)) → HasCharts m charts → length charts ≡ length (actors m)
as_many_charts m charts has =
    ap length has.charts_are ∙ length-map has.all chart_in ∙ ap length has.written.written
    ∙ as_many_written has.written.scopes (actors m) [] (as_many_seen _ _ has.written.scopes (actors m) has.written.seen)

as_many_classes : (m : ModelTree) → length (classes_of m) ≡ length (actors m)
unfolding classes_of
as_many_classes m = length-map (actors m) (class_names m)

-- the tables of a class are compiled from its chart
one_compiled : (v : Option Tables) (c : Option Chart) → ShowsChart v c → AreCompiled v
one_compiled None c h = tt
one_compiled (Some v) None h = absurd h
one_compiled (Some v) (Some chart) h = (chart, h)

class_compiled : (vs : List (Option Tables)) (cs : List (Option Chart)) → ShowCharts vs cs → (n : ℕ) → AreCompiled (class_tables vs n)
class_compiled [] [] h n = tt
class_compiled (v ∷ vs) [] h n = absurd h
class_compiled [] (c ∷ cs) h n = absurd h
class_compiled (v ∷ vs) (c ∷ cs) h zero = one_compiled v c h.0
class_compiled (v ∷ vs) (c ∷ cs) h (suc n) = class_compiled vs cs h.1 n

slot_compiled : (w : Wired) (vs : List (Option Tables)) (cs : List (Option Chart)) → ShowCharts vs cs → (slot : ℕ) → AreCompiled (tables_at w vs slot)
unfolding tables_at
slot_compiled w vs cs h slot = go (class_number w slot)
  where
    go : (n : Option ℕ) → AreCompiled (option_and_then (class_tables vs) n)
    go None = tt
    go (Some n) = class_compiled vs cs h n

-- ---- what actors note and ask for

zeros_begun : (x : Incarnation) (o : Option Tables) → list_all is_zero (begins x o).notes ≡ true
unfolding begins
zeros_begun x None = refl
zeros_begun x (Some v) = note_zeros.starts v (moment_at_start x)

zeros_handled : (x : Incarnation) (m : Msg) (o : Option Tables) (a : Actor) → list_all is_zero (handles x m o a).notes ≡ true
unfolding handles
zeros_handled x m None a = refl
zeros_handled x m (Some v) None = refl
zeros_handled x m (Some v) (Some actor) = note_zeros.handles v (moment_of x m) (event_of m) actor

nothing_begun : (x : Incarnation) (t : Wired) → Each (AsksAt t x.slot.0) (begins x None).commands
unfolding begins
nothing_begun x t = tt

nothing_handled : (x : Incarnation) (m : Msg) (a : Actor) (t : Wired) → Each (AsksAt t x.slot.0) (handles x m None a).commands
unfolding handles
nothing_handled x m a t = tt

pub ports_many : (t : Wired) (s : ℕ) (c : ClassNames) → class_of t s ≡ Some c → port_count t s ≡ length c.ports
unfolding port_count
ports_many t s c is = ap (λ (o : Option ClassNames). option_map_or (λ (c : ClassNames). length c.ports) o 0) is

-- a test of what an option holds
held_there : {A : Type 0} (f : A → Bool) (o : Option A) → option_map_or f o false ≡ true → (x : A) × (o ≡ Some x) × (f x ≡ true)
held_there f None h = absurd cc
held_there f (Some x) h = (x, refl, h)

pub port_found : (t : Wired) (s : ℕ) (c : ClassNames) (port : ℕ) (x : PortNames) → class_of t s ≡ Some c → slice_get c.ports port ≡ Some x → port_at t s port ≡ Some x
unfolding port_at
port_found t s c port x is at = ap (λ (o : Option ClassNames). option_and_then (λ (c : ClassNames). slice_get c.ports port) o) is ∙ at

-- the same as the duties see it
duty_port : (t : Wired) (s : ℕ) (c : ClassNames) (port : ℕ) (x : PortNames) → class_of t s ≡ Some c → slice_get c.ports port ≡ Some x → seen_port t s port ≡ Some x
unfolding seen_port
duty_port t s c port x is at = ap (λ (o : Option ClassNames). option_and_then (λ (c : ClassNames). slice_get c.ports port) o) is ∙ at

-- a kind that takes names is a service point's
point_kind : (k : PortKind) → takes_names k ≡ true → (is_sap_kind k || is_spp_kind k) ≡ true
point_kind ports.Frame h = absurd cc
point_kind ports.Relay h = absurd cc
point_kind ports.End h = absurd cc
point_kind ports.Internal h = absurd cc
point_kind ports.Sap h = refl
point_kind ports.Spp h = refl

-- a message that goes out at a port is one of the port's
goes_known : (x : PortNames) (n : ℕ) → goes_out n x ≡ true → n < length (signals_of x)
goes_known x n h =
    go x.conjugated (ltb-true n (first_going x + length (going x)) (and_parts (nat_le (first_going x) n) (nat_lt n (first_going x + length (going x))) h).1)
    (length-append x.incoming x.outgoing)
  where
    go : (b : Bool) → n < (if b then 0 else length x.incoming) + length (if b then x.incoming else x.outgoing)
        → length (x.incoming ++ x.outgoing) ≡ length x.incoming + length x.outgoing → n < length (x.incoming ++ x.outgoing)
    go true low many = omega (arith, low, many)
    go false low many = omega (arith, low, many)

module _ (t : Wired) (s : ℕ) (c : ClassNames) (is : class_of t s ≡ Some c) where
  own_port : (port : ℕ) → can_register c port ≡ true → port < port_count t s
  own_port port h =
      let has = held_there _ (slice_get c.ports port) h in
      let within : port < length c.ports = slice_get_within c.ports port has.0 has.1 in
      let many = ports_many t s c is in
      omega (arith, within, many)

  -- what takes a name is a service point
  own_point : (port : ℕ) → can_register c port ≡ true → is_service_point t s port ≡ true
  unfolding is_sap is_spp
  own_point port h =
      let has = held_there _ (slice_get c.ports port) h in
      ap (λ (o : Option PortNames). option_map_or (λ (x : PortNames). is_sap_kind x.kind) o false || option_map_or (λ (x : PortNames). is_spp_kind x.kind) o false)
      (duty_port t s c port has.0 is has.1)
      ∙ point_kind has.0.kind has.2

  one_asks : (x : Command) → can_ask c x ≡ true → AsksAt t s x
  one_asks (commands.Send port place signal payload prio) h =
      let parts = and_parts (can_send_at c port signal) (nat_le 1 prio.0 && nat_le prio.0 5) h in
      let has = held_there _ (slice_get c.ports port) parts.0 in
      let within : port < length c.ports = slice_get_within c.ports port has.0 has.1 in
      let many = ports_many t s c is in
      let goes = (and_parts _ (goes_out signal has.0) has.2).1 in (
        omega (arith, within, many),
        record { port = has.0; port_is = port_found t s c port has.0 is has.1; known = goes_known has.0 signal goes },
        leb-true 1 prio.0 (and_parts (nat_le 1 prio.0) (nat_le prio.0 5) parts.1).0,
      )
  one_asks commands.Defer h = tt
  one_asks commands.Recall h = tt
  one_asks commands.RecallAll h = tt
  one_asks (commands.Frame f) h = tt
  one_asks (commands.Name (names.Register port name)) h = (own_port port h, own_point port h)
  one_asks (commands.Name (names.Withdraw port)) h = (own_port port h, own_point port h)

  all_ask : (xs : List Command) → list_all (can_ask c) xs ≡ true → Each (AsksAt t s) xs
  all_ask [] h = tt
  all_ask (x ∷ xs) h = let parts = and_parts (can_ask c x) (list_all (can_ask c) xs) h in (one_asks x parts.0, all_ask xs parts.1)

-- ---- the actors of a plant

module _ (plant : Plant) (fits : PlantFits plant) where
  pub fitting : IsFitting plant
  fitting = plants_fit plant fits

  consistent : IsConsistent plant.wiring
  consistent = wiring_consistent fits.model plant.wiring fits.wired fits.keeps fits.flawless

  as_many : length plant.tables.items ≡ length plant.wiring.classes
  as_many =
      as_many_shown plant.tables.items fits.charts fits.tables ∙ as_many_charts fits.model fits.charts fits.faultless
      ∙ sym (ap length fits.wired.classes ∙ as_many_classes fits.model)

  -- the class of a slot, with its tables
  pub record ClassOf (s : ℕ) : Type 0 where
    pub number : ℕ
    pub class : ClassNames
    pub tables : Option Tables
    pub class_is : class_of plant.wiring s ≡ Some class
    pub there : slice_get plant.wiring.classes number ≡ Some class
    pub has : slice_get plant.tables.items number ≡ Some tables
    pub tables_are : tables_at plant.wiring plant.tables.items s ≡ tables

  pub class_has : (s : ℕ) → s < length plant.wiring.slots → ClassOf s
  unfolding class_of tables_at
  class_has s low =
      let slot = item_there plant.wiring.slots s low in
      let known = consistent.classes_known s slot.0 slot.1 in
      let class = item_there plant.wiring.classes slot.0.class known in
      let many = as_many in
      let tables = item_there plant.tables.items slot.0.class (omega (arith, known, many)) in
      record {
        number = slot.0.class;
        class = class.0;
        tables = tables.0;
        class_is = ap (λ (o : Option Slot). option_and_then (λ (x : Slot). class_at plant.wiring x.class) o) slot.1 ∙ class.1;
        there = class.1;
        has = tables.1;
        tables_are =
            ap (λ (o : Option Slot). option_and_then (class_tables plant.tables.items) (option_map_or (λ (x : Slot). Some x.class) o None)) slot.1
            ∙ ap (λ (o : Option (Option Tables)). option_and_then (λ (v : Option Tables). v) o) tables.1;
      }

  -- no tables stand for what is no slot
  in_slots : (s : ℕ) → (s < length plant.wiring.slots) ⊎ (tables_at plant.wiring plant.tables.items s ≡ None)
  unfolding tables_at
  in_slots s = go (slice_get plant.wiring.slots s) refl
    where
      go : (o : Option Slot) → slice_get plant.wiring.slots s ≡ o
          → (s < length plant.wiring.slots) ⊎ (option_and_then (class_tables plant.tables.items) (option_map_or (λ (x : Slot). Some x.class) o None) ≡ None)
      go None e = inr refl
      go (Some x) e = inl (slice_get_within plant.wiring.slots s x e)

  -- an actor of a slot stands at a state of its class's chart
  abbrev pub StandsThere : ℕ → Actor → Type 0
  StandsThere s a = Stands (tables_at plant.wiring plant.tables.items s) a

  state_fits : (s : ℕ) (a : Actor) → s < length plant.wiring.slots → StandsThere s a → FitsState plant.wiring s (state_number a)
  state_fits s a low h =
      let c = class_has s low in
      record {
        class = c.class;
        class_is = c.class_is;
        known = state_stands c.class c.tables a (fitting.labelled c.number c.class c.tables c.there c.has) (subst (λ (o : Option Tables). Stands o a) c.tables_are h);
      }

  module _ (x : Incarnation) (c : ClassOf x.slot.0) where
    begun_by : (o : Option Tables) → slice_get plant.tables.items c.number ≡ Some o → Each (AsksAt plant.wiring x.slot.0) (begins x o).commands
    begun_by None at = nothing_begun x plant.wiring
    begun_by (Some v) at =
        all_ask plant.wiring x.slot.0 c.class c.class_is (begins x (Some v)).commands ((fitting.asks_what_it_can c.number c.class v c.there at).begin x)

    handled_by : (m : Msg) (a : Actor) (o : Option Tables) → slice_get plant.tables.items c.number ≡ Some o → Each (AsksAt plant.wiring x.slot.0) (handles x m o a).commands
    handled_by m a None at = nothing_handled x m a plant.wiring
    handled_by m a (Some v) at =
        all_ask plant.wiring x.slot.0 c.class c.class_is (handles x m (Some v) a).commands ((fitting.asks_what_it_can c.number c.class v c.there at).handle x m a)

  begun_asks : (x : Incarnation) → Each (AsksAt plant.wiring x.slot.0) (begins x (tables_at plant.wiring plant.tables.items x.slot.0)).commands
  begun_asks x = go (in_slots x.slot.0)
    where
      go : (x.slot.0 < length plant.wiring.slots) ⊎ (tables_at plant.wiring plant.tables.items x.slot.0 ≡ None)
          → Each (AsksAt plant.wiring x.slot.0) (begins x (tables_at plant.wiring plant.tables.items x.slot.0)).commands
      go (inl low) =
          let c = class_has x.slot.0 low in
          subst (λ (o : Option Tables). Each (AsksAt plant.wiring x.slot.0) (begins x o).commands) (sym c.tables_are) (begun_by x c c.tables c.has)
      go (inr none) = subst (λ (o : Option Tables). Each (AsksAt plant.wiring x.slot.0) (begins x o).commands) (sym none) (nothing_begun x plant.wiring)

  handled_asks : (x : Incarnation) (a : Actor) (m : Msg) → Each (AsksAt plant.wiring x.slot.0) (handles x m (tables_at plant.wiring plant.tables.items x.slot.0) a).commands
  handled_asks x a m = go (in_slots x.slot.0)
    where
      go : (x.slot.0 < length plant.wiring.slots) ⊎ (tables_at plant.wiring plant.tables.items x.slot.0 ≡ None)
          → Each (AsksAt plant.wiring x.slot.0) (handles x m (tables_at plant.wiring plant.tables.items x.slot.0) a).commands
      go (inl low) =
          let c = class_has x.slot.0 low in
          subst (λ (o : Option Tables). Each (AsksAt plant.wiring x.slot.0) (handles x m o a).commands) (sym c.tables_are) (handled_by x c m a c.tables c.has)
      go (inr none) =
          subst (λ (o : Option Tables). Each (AsksAt plant.wiring x.slot.0) (handles x m o a).commands) (sym none) (nothing_handled x m a plant.wiring)

  -- the actors of the plant stand where they may
  pub stand_well : StandsWell plant.wiring StandsThere (model_of plant)
  stand_well = record {
    begin = λ x. begin_stands x (tables_at plant.wiring plant.tables.items x.slot.0) (slot_compiled plant.wiring plant.tables.items fits.charts fits.tables x.slot.0);
    handle = λ x a m h. handle_stands x m (tables_at plant.wiring plant.tables.items x.slot.0) a h;
    state = state_fits;
    begin_notes = λ x. zeros_begun x (tables_at plant.wiring plant.tables.items x.slot.0);
    handle_notes = λ x a m. zeros_handled x m (tables_at plant.wiring plant.tables.items x.slot.0) a;
    begin_asks = begun_asks;
    handle_asks = handled_asks;
  }

  -- ---- its runs

  each_both : (P : Entry → Type 0) (a b : List Entry) → Each P a → Each P b → Each P (a ++ b)
  each_both P [] b h k = k
  each_both P (e ∷ a) b h k = (h.0, each_both P a b h.1 k)

  module _ (lines : List Line) (fuel : ℕ) (j : Journals) (run : IsRun plant lines fuel j) where
    one_told : (c : ℕ) → c < length plant.wiring.controllers → Each (TellsOfActors plant.wiring) (journal_of j c)
    one_told c below =
        let lawful = run.lawful in
        let happened = entries_of c run.lawful.run.merge in
        let told = replay_tells plant.wiring StandsThere (model_of plant) stand_well c (lines_of (items_of plant.wiring lines)) happened (run.lawful.run.end.controllers c)
        ((run_projects (plant_of (model_of plant) plant.wiring (lines_of (items_of plant.wiring lines))) (start (plant_of (model_of plant) plant.wiring (lines_of (items_of plant.wiring lines))))
        run.lawful.run.merge run.lawful.run.end run.lawful.run.run).controllers c below) in
        subst (Each (TellsOfActors plant.wiring)) (sym (run.lawful.begins c below))
        (each_both (TellsOfActors plant.wiring) (start_entries (model_of plant) plant.wiring c) (run.lawful.events c)
        (start_tells plant.wiring StandsThere (model_of plant) stand_well c)
        (subst (Each (TellsOfActors plant.wiring)) (run.lawful.run.is.whole c) told))

    pub actors_told : OfControllers j (λ c. TellsOfActors plant.wiring)
    actors_told c es there =
        let low = slice_get_within j.controllers c es there in
        let count = run.count in
        All-from_recursion (TellsOfActors plant.wiring) es
        (subst (Each (TellsOfActors plant.wiring)) (journal_is plant lines fuel j run c es there) (one_told c (omega (arith, low, count))))
