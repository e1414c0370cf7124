-- A path adds its own steps behind those that lead to where it begins.
use Rattle.std.proofs.Common.{◌≡◌, ◌∙◌, ℕ, List, [], ◌∷◌, ◌++◌, Option, Some, None, length, take, append_assoc, append-nil, refl, sym, ap, arith}
use Rattle.std.specs.Prelude.{option_map, option_and_then}
use Rattle.std.specs.Option.{option_map_or}
use Rattle.std.proofs.lemmas.List.{take-append-le, take_all}
use Rattle.room_ast.specs.MappingTree.{MappingOf, no_braces, in_braces, Mappings}
use Rattle.room_ast.specs.declared.system.MappingPath.{MappingPath}
use Rattle.room_ast.specs.declared.system.Segment.{Segment}
use Rattle.check_tables.specs.declared.class_tables.container.Container.{Container}
use Rattle.wiring_plan.specs.structure_plan.Parts.{number_of, class_behind}
use Rattle.wiring_slots.specs.declared.slot_tree.names.MappingPlan.{MappingPlan}
use Rattle.wiring_slots.specs.declared.slot_tree.names.StepPlan.{StepPlan}
use Rattle.wiring_slots.specs.declared.slot_names.ways.Way.{Way}
use Rattle.wiring_slots.specs.slot_names.Ways.{WayTree, stepped, step_in, further, walked, path_end, controller_of, mappings_of, mapped_to, all_mappings}
use Rattle.wiring_slots.specs.slot_names.Behind.{behind, LeadsBehind, LastBegins, AddsBehind}
use Rattle.wiring_slots.specs.slot_names.Wireds.{way_view}
use Rattle.wiring_slots.specs.slot_tree.Continuing.{last_steps, with_mapping}
use Rattle.wiring_slots.proofs.slot_names.Braces.{longer_on, Closes, closes}

module _ (actors : List Container) (before : List StepPlan) where
  stepped_behind : (w : WayTree) (s : Segment) (c : Container) (o : Option ℕ) → option_map (stepped actors (behind before w) s.index c) o ≡ option_map (behind before) (option_map (stepped actors w s.index c) o)
  stepped_behind w s c None = refl
  stepped_behind w s c (Some r) =
      let one : List StepPlan = record { reference = r; index = s.index } ∷ [] in
      ap (λ (ss : List StepPlan). let v : WayTree = record { steps = ss; place = class_behind actors c r } in Some v) (append_assoc before w.steps one)

  further_behind : (w : WayTree) (s : Segment) → further actors (behind before w) s ≡ option_map (behind before) (further actors w s)
  unfolding further
  further_behind w s = go w.place
    where
      go : (o : Option Container) → option_and_then (step_in actors (behind before w) s) o ≡ option_map (behind before) (option_and_then (step_in actors w s) o)
      go None = refl
      go (Some c) = stepped_behind w s c (number_of c.reference_names s.name)

  then_behind : (ss : List Segment) → ((v : WayTree) → walked actors (behind before v) ss ≡ option_map (behind before) (walked actors v ss)) → (o : Option WayTree)
      → option_and_then (λ (v : WayTree). walked actors v ss) (option_map (behind before) o) ≡ option_map (behind before) (option_and_then (λ (v : WayTree). walked actors v ss) o)
  then_behind ss each None = refl
  then_behind ss each (Some v) = each v

  walked_behind : (ss : List Segment) (w : WayTree) → walked actors (behind before w) ss ≡ option_map (behind before) (walked actors w ss)
  walked_behind [] w = refl
  walked_behind (s ∷ ss) w = ap (option_and_then (λ (v : WayTree). walked actors v ss)) (further_behind w s) ∙ then_behind ss (λ v. walked_behind ss v) (further actors w s)

pub led_behind : (actors : List Container) (place : Option Container) (path : MappingPath) (w : WayTree) (end : Option WayTree) → w ≡ record { steps = []; place = place } → end ≡ path_end actors w path → LeadsBehind actors place path end
led_behind actors place path w end start is = record {
  leads = λ before.
      let from = walked_behind actors before (path.first ∷ path.others) w in
      let at : WayTree = record { steps = before; place = place } in
      let begins : at ≡ behind before w = rw (start, append-nil before) refl in
      ap (λ (v : WayTree). path_end actors v path) begins ∙ from ∙ ap (option_map (behind before)) (sym is);
}

-- ---- adding mappings behind a start
last_more : (before : List StepPlan) (ms : List MappingPlan) (m : MappingPlan) → last_steps before (ms ++ m ∷ []) ≡ m.steps
last_more before [] m = refl
last_more before (x ∷ xs) m = last_more x.steps xs m

-- every path begins with no steps
pub begins_all : (plans : List MappingPlan) → LastBegins [] plans
begins_all plans = record { rest = last_steps [] plans; is = refl }

-- the kept steps are these
kept_is : (before : List StepPlan) (old : List MappingPlan) → LastBegins before old → take (length before) (last_steps [] old) ≡ before
kept_is before old there = ap (take (length before)) there.is ∙ take-append-le (length before) before there.rest (omega arith) ∙ take_all (length before) before (omega arith)

module _ (actors : List Container) (threads : List (List ℕ)) (old : List MappingPlan) (before : List StepPlan) (place : Option Container) (path : MappingPath) (thread : List ℕ) (r : Option Way)
    (leads : LeadsBehind actors place path (option_map way_view r)) (there : LastBegins before old) where
  abbrev start : WayTree
  start = record { steps = before; place = place }

  led : path_end actors start path ≡ option_map (behind before) (option_map way_view r)
  led = leads.leads before

  module _ (w : Way) (some : r ≡ Some w) (own : MappingPlan) (owned : own ≡ record { steps = w.steps.items; controller = controller_of threads thread }) (new : List MappingPlan) (pushed : new ≡ with_mapping (length before) own old) where
    abbrev end : WayTree
    end = behind before (way_view w)

    abbrev first : MappingPlan
    first = record { steps = end.steps; controller = controller_of threads thread }

    ends : path_end actors start path ≡ Some end
    ends = led ∙ ap (λ (o : Option Way). option_map (behind before) (option_map way_view o)) some

    whole_is : new ≡ old ++ first ∷ []
    whole_is =
        pushed ∙ ap (λ (m : MappingPlan). with_mapping (length before) m old) owned
        ∙ ap (λ (ss : List StepPlan). let m : MappingPlan = record { steps = ss ++ w.steps.items; controller = controller_of threads thread } in old ++ m ∷ []) (kept_is before old there)

    last_is : last_steps [] new ≡ end.steps
    last_is = ap (last_steps []) whole_is ∙ last_more [] old first

    pub one_added : AddsBehind before old new (mappings_of actors threads start (MappingOf path thread no_braces))
    one_added = record {
      added = whole_is ∙ sym (ap (λ (o : Option WayTree). old ++ option_map_or (mapped_to actors threads thread no_braces) o []) ends);
      begins = record { rest = w.steps.items; is = last_is };
    }

    -- in the braces, paths go on behind the whole path
    module _ (inside : List StepPlan) (deep : inside ≡ before ++ w.steps.items) where
      pub inside_there : LastBegins inside new
      inside_there = record { rest = []; is = last_is ∙ sym deep ∙ sym (append-nil inside) }

      module _ (ms : Mappings) (later : List MappingPlan) (inner : AddsBehind inside new later (all_mappings actors threads (record { steps = inside; place = option_map (λ c. c.now) w.place }) ms)) where
        within : later ≡ (old ++ first ∷ []) ++ all_mappings actors threads end ms
        within =
            inner.added ∙ ap (λ (ss : List StepPlan). new ++ all_mappings actors threads (record { steps = ss; place = option_map (λ c. c.now) w.place }) ms) deep
            ∙ ap (λ (ps : List MappingPlan). ps ++ all_mappings actors threads end ms) whole_is

        pub all_added : AddsBehind before old later (mappings_of actors threads start (MappingOf path thread (in_braces ms)))
        all_added = record {
          added =
              within ∙ append_assoc old (first ∷ []) (all_mappings actors threads end ms)
              ∙ sym (ap (λ (o : Option WayTree). old ++ option_map_or (mapped_to actors threads thread (in_braces ms)) o []) ends);
          begins = longer_on before inside (last_steps [] later) (record { rest = w.steps.items; is = deep }) inner.begins;
        }

        pub braces_close : (at : ℕ) → at ≡ length old → Closes later at
        braces_close at is = closes actors threads end ms old later first at is refl within
