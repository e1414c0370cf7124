-- The actors of a model without a fault register service points alone.
use Rattle.std.proofs.Common.{◌≡◌, ◌∙◌, ℕ, ◌||◌, true, false, List, [], ◌∷◌, Option, Some, None, slice_get, option_and_then, refl, sym, ap, arith, inl, inr}
use Rattle.std.specs.List.{list_all}
use Rattle.std.specs.Option.{option_map_or}
use Rattle.std.proofs.lemmas.Bool.{and_parts}
use Rattle.std.proofs.lemmas.Option.{slice_get_cases}
use Rattle.room_kinds.specs.declared.command.Command.{Command}
use Rattle.room_kinds.specs.declared.command.Command.TheVariants as commands
use Rattle.room_kinds.specs.declared.command.NameCommand.TheVariants as names
use Rattle.room_kinds.specs.declared.message.Msg.{Msg}
use Rattle.room_kinds.specs.declared.numbers.Incarnation.{Incarnation}
use Rattle.room_kinds.specs.declared.structure.PortKind.{PortKind}
use Rattle.room_kinds.specs.declared.structure.PortKind.TheVariants as ports
use Rattle.room_ast.specs.Trees.{ModelTree}
use Rattle.room_wiring.specs.declared.names.ClassNames.{ClassNames}
use Rattle.room_wiring.specs.declared.names.PortNames.{PortNames}
use Rattle.room_wiring.specs.declared.slot.Slot.{Slot}
use Rattle.room_wiring.specs.declared.tables.Tables.{Tables}
use Rattle.room_wiring.specs.Slots.{slot_at, class_at, class_of}
use Rattle.structure_check.specs.Rules.{first_broken}
use Rattle.structure_check.specs.List.{all_rules}
use Rattle.action_lang.specs.action_check.Faults.{takes_names}
use Rattle.chart_model.specs.Chart.{Chart}
use Rattle.chart_run.specs.declared.chart_tables.tables.Tables.{Tables as ChartTables}
use Rattle.chart_reader.specs.model_charts.Charts.{HasCharts}
use Rattle.chart_behaviour.specs.ModelCharts.{Actor, class_tables, tables_at, begins, handles, behaviour_of}
use Rattle.law_models.specs.class_laws.Commands.{can_register, can_ask, AsksWhatItCan}
use Rattle.law_models.proofs.class_laws.Models.{actors_can}
use Rattle.binding_expand.specs.Wirings.{IsWiringOf}
use Rattle.binding_expand.specs.Faults.{HasNoFault}
use Rattle.actor_duties.specs.Words.{is_sap_kind, is_spp_kind, is_sap, is_spp, port_at}
use Rattle.law_names.specs.Asking.{AllAsk}
use Rattle.law_names.specs.Registrations.{is_point_port, IsOfPoint, RegistersPoints}
use Rattle.law_models.specs.settled_models.Agreeing.{AreCompiled}
use Rattle.law_models.proofs.settled_models.Wired.{wiring_consistent}

-- a kind that takes names is a service point's
point_kind : (k : PortKind) → takes_names k ≡ true → (is_sap_kind k || is_spp_kind k) ≡ true
point_kind ports.Frame h = absurd cc
point_kind ports.Relay h = absurd cc
point_kind ports.End h = absurd cc
point_kind ports.Internal h = absurd cc
point_kind ports.Sap h = refl
point_kind ports.Spp h = refl

module _ (m : ModelTree) (t : Tables) (charts : List (Option Chart)) (classes : List (Option ChartTables)) (keeps : first_broken all_rules m ≡ None) (w : IsWiringOf m t)
    (flawless : HasNoFault m) (has : HasCharts m charts) (compiled : AreCompiled classes charts) where
  -- what an actor of a class can register is a service point of its slot
  module _ (x : Incarnation) (c : ClassNames) (is : class_of t x.slot.0 ≡ Some c) where
    register_point : (p : ℕ) → can_register c p ≡ true → is_point_port t x.slot.0 p ≡ true
    unfolding is_sap is_spp port_at
    register_point p h =
        ap (λ (o : Option ClassNames). option_map_or (λ (y : PortNames). is_sap_kind y.kind) (option_and_then (λ (k : ClassNames). slice_get k.ports p) o) false
        || option_map_or (λ (y : PortNames). is_spp_kind y.kind) (option_and_then (λ (k : ClassNames). slice_get k.ports p) o) false) is
        ∙ go (slice_get c.ports p) h
      where
        go : (o : Option PortNames) → option_map_or (λ (y : PortNames). takes_names y.kind) o false ≡ true
            → (option_map_or (λ (y : PortNames). is_sap_kind y.kind) o false || option_map_or (λ (y : PortNames). is_spp_kind y.kind) o false) ≡ true
        go None e = absurd cc
        go (Some y) e = point_kind y.kind e

    all_points : (cs : List Command) → list_all (can_ask c) cs ≡ true → AllAsk (IsOfPoint t x) cs
    all_points [] h = tt
    all_points (commands.Name (names.Register p name) ∷ cs) h =
        let both = and_parts (can_register c p) (list_all (can_ask c) cs) h in (register_point p both.0, all_points cs both.1)
    all_points (commands.Name (names.Withdraw p) ∷ cs) h =
        let both = and_parts (can_register c p) (list_all (can_ask c) cs) h in (tt, all_points cs both.1)
    all_points (commands.Send p k signal payload prio ∷ cs) h = all_points cs (and_parts (can_ask c (commands.Send p k signal payload prio)) (list_all (can_ask c) cs) h).1
    all_points (commands.Defer ∷ cs) h = all_points cs h
    all_points (commands.Recall ∷ cs) h = all_points cs h
    all_points (commands.RecallAll ∷ cs) h = all_points cs h
    all_points (commands.Frame f ∷ cs) h = all_points cs (and_parts (can_ask c (commands.Frame f)) (list_all (can_ask c) cs) h).1

  -- the class of a slot whose actors have tables, which ask for what the class can
  record HasClass (s : ℕ) (v : ChartTables) : Type 0 where
    c : ClassNames
    is : class_of t s ≡ Some c
    asks : AsksWhatItCan c v

  class_found : (s : ℕ) (v : ChartTables) → tables_at t classes s ≡ Some v → HasClass s v
  unfolding tables_at class_of
  class_found s v e = by_slot (slot_at t s) refl e
    where
      by_class : (x : Slot) → slot_at t s ≡ Some x → slice_get classes x.class ≡ Some (Some v) → HasClass s v
      by_class x at here =
          let below = (wiring_consistent m t w keeps flawless).classes_known s x at in
          let chart = compiled x.class v here in
          elim (slice_get_cases t.classes x.class).1 [
            | inl k ↦ record {
              c = k.0;
              is = ap (option_and_then (λ (z : Slot). class_at t z.class)) at ∙ k.2;
              asks = actors_can m charts has x.class k.0 chart.0 v (ap (λ cs. slice_get cs x.class) (sym w.classes) ∙ k.2) chart.1 chart.2;
            }
            | inr past ↦ let end = past.0 in absurd (omega (arith, below, end))
          ]

      by_tables : (x : Slot) → slot_at t s ≡ Some x → (o : Option (Option ChartTables)) → slice_get classes x.class ≡ o → option_and_then (λ (u : Option ChartTables). u) o ≡ Some v → HasClass s v
      by_tables x at None here k = absurd (let no : ◌≡◌ {A = Option ChartTables} None (Some v) = k in cc)
      by_tables x at (Some u) here k = by_class x at (here ∙ ap (λ z. Some z) k)

      by_slot : (o : Option Slot) → slot_at t s ≡ o → option_and_then (class_tables classes) (option_map_or (λ (x : Slot). Some x.class) o None) ≡ Some v → HasClass s v
      by_slot None at k = absurd (let no : ◌≡◌ {A = Option ChartTables} None (Some v) = k in cc)
      by_slot (Some x) at k = by_tables x at (slice_get classes x.class) refl k

  begins_points : (x : Incarnation) (o : Option ChartTables) → tables_at t classes x.slot.0 ≡ o → AllAsk (IsOfPoint t x) (begins x o).commands
  unfolding begins
  begins_points x None e = tt
  begins_points x (Some v) e = let k = class_found x.slot.0 v e in all_points x k.c k.is (begins x (Some v)).commands (k.asks.begin x)

  handles_points : (x : Incarnation) (msg : Msg) (actor : Actor) (o : Option ChartTables) → tables_at t classes x.slot.0 ≡ o → AllAsk (IsOfPoint t x) (handles x msg o actor).commands
  unfolding handles
  handles_points x msg actor None e = tt
  handles_points x msg actor (Some v) e = let k = class_found x.slot.0 v e in all_points x k.c k.is (handles x msg (Some v) actor).commands (k.asks.handle x msg actor)

  pub registers_points : RegistersPoints t (behaviour_of t classes)
  registers_points = record {
    begin = λ x. begins_points x (tables_at t classes x.slot.0) refl;
    handle = λ x actor msg. handles_points x msg actor (tables_at t classes x.slot.0) refl;
  }
