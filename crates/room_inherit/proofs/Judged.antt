-- Charts that are taken in an order in which bases come first, and let go after their last use.
use Rattle.std.proofs.Common.{◌≡◌, inl, inr, ℕ, zero, suc, ◌+◌, ◌<◌, ◌≤◌, Bool, true, false, List, [], ◌∷◌, length, map, Option, Some, None, refl, sym, ap, ◌∙◌, arith}
use Rattle.std.specs.Prelude.{nat_le, option_map, slice_get, slice_set, slice_index, if◌then◌else◌}
use Rattle.std.specs.Global.{Vec}
use Rattle.std.specs.List.{list_all}
use Rattle.std.specs.Option.{option_map_or, option_and_then}
use Rattle.std.proofs.lemmas.Bool.{cases_eq, cases_lt, leb-true, le-leb, ltb-false}
use Rattle.number_graphs.specs.class_containment.Containment.{IsContainmentOrder}
use Rattle.room_ast.specs.ChartTree.{GraphItems, no_items, graph_view}
use Rattle.room_ast.specs.Trees.{ClassTree, AnActor, ActorTree, BehaviorTree}
use Rattle.room_ast.specs.declared.chart.GraphItem.{GraphItem}
use Rattle.room_ast.specs.model_parts.Classes.{class_name}
use Rattle.room_inherit.specs.Filling.{there_at, base_there, none_taken}
use Rattle.derived_classes.specs.Derived.{derived_machine, derived_behavior, chart_over, graph_of, chart_is_known}
use Rattle.room_inherit.specs.Flat.{base_number, actor_at, base_in, over_base, flat_actor}
use Rattle.room_inherit.specs.Judging.{above, above_at, HasLastUses, noted, is_needed_later, let_go, keep, known_there, with_chart_of, with_chart, judged}
use Rattle.derived_classes.specs.Refining.{followed_by, other_items, refined, refinements}
use Rattle.room_inherit.specs.Rules.{extended, of_actor, names_known}
use Rattle.room_inherit.specs.Views.{charts_view}
use Rattle.derived_classes.proofs.Graphs.{followed_none}
use Rattle.derived_classes.proofs.Nothing.{unrefined}
use Rattle.derived_classes.proofs.Lists.{none_some, some_same, got_past}
use Rattle.room_inherit.proofs.Places.{actor_is, actor_within, set_length, there_same, there_other, unfolds, Way, Taken, Next, no_actor, one_actor, begun, base_is, passes_is, IsRest, whole_rest, next_rest, rest_within, rest_first, one_fails, all_passed}

-- ---- lists

pub set_past : (xs : List ℕ) (k v : ℕ) → length xs ≤ k → slice_set xs k v ≡ xs
set_past [] k v le = refl
set_past (x ∷ xs) zero v le = absurd (omega arith)
set_past (x ∷ xs) (suc k) v le = ap (λ ys. x ∷ ys) (set_past xs k v (omega arith))

index_same : (xs : List ℕ) (k v : ℕ) → k < length xs → slice_index (slice_set xs k v) k ≡ v
index_same [] k v lt = absurd (omega arith)
index_same (x ∷ xs) zero v lt = refl
index_same (x ∷ xs) (suc k) v lt = index_same xs k v (omega arith)

index_other : (xs : List ℕ) (k j v : ℕ) → (j ≡ k → ⊥) → slice_index (slice_set xs k v) j ≡ slice_index xs j
index_other [] k j v ne = refl
index_other (x ∷ xs) zero zero v ne = absurd (ne refl)
index_other (x ∷ xs) zero (suc j) v ne = refl
index_other (x ∷ xs) (suc k) zero v ne = refl
index_other (x ∷ xs) (suc k) (suc j) v ne = index_other xs k j v (λ e. ne (ap suc e))

pub chart_got : (cs : List (Option (Vec GraphItem))) (k : ℕ) → slice_get (charts_view cs) k ≡ option_map (λ (c : Option (Vec GraphItem)). option_map (λ (v : Vec GraphItem). graph_view v.items) c) (slice_get cs k)
chart_got [] k = refl
chart_got (c ∷ cs) zero = refl
chart_got (c ∷ cs) (suc k) = chart_got cs k

pub chart_set : (cs : List (Option (Vec GraphItem))) (k : ℕ) (c : Option (Vec GraphItem)) → charts_view (slice_set cs k c) ≡ slice_set (charts_view cs) k (option_map (λ (v : Vec GraphItem). graph_view v.items) c)
chart_set [] k c = refl
chart_set (d ∷ cs) zero c = refl
chart_set (d ∷ cs) (suc k) c = ap (λ ds. option_map (λ (v : Vec GraphItem). graph_view v.items) d ∷ ds) (chart_set cs k c)

pub chart_past : (cs : List (Option (Vec GraphItem))) (k : ℕ) (g : Option GraphItems) → length cs ≤ k → slice_set (charts_view cs) k g ≡ charts_view cs
chart_past [] k g le = refl
chart_past (d ∷ cs) zero g le = absurd (omega arith)
chart_past (d ∷ cs) (suc k) g le = ap (λ ds. option_map (λ (v : Vec GraphItem). graph_view v.items) d ∷ ds) (chart_past cs k g (omega arith))

-- ---- the last uses

pub no_uses : (names : List (List ℕ)) (classes : List ClassTree) (order last : List ℕ) → length last ≡ length classes → HasLastUses names classes order 0 last
no_uses names classes order last sized = record { sized = sized; latest = λ e b lt above within. absurd (omega (arith, lt)) }

pub one_more_use : (names : List (List ℕ)) (classes : List ClassTree) (order last : List ℕ) (n : ℕ) (at : Option ℕ) → HasLastUses names classes order n last → at ≡ above_at names classes (slice_index order n) → HasLastUses names classes order (n + 1) (noted last n at)
one_more_use names classes order last n None uses same = record {
  sized = uses.sized;
  latest = λ e b lt there within. elim (cases_eq e n) [
    | inl here ↦ none_some b (same ∙ sym (ap (λ k. above_at names classes (slice_index order k)) here) ∙ there)
    | inr before ↦ uses.latest e b (omega (arith, lt, before)) there within
  ];
}
one_more_use names classes order last n (Some c) uses same = record {
  sized = kept ∙ uses.sized;
  latest = λ e b lt there within.
      let inside : b < length last = omega (arith, within, kept) in
      elim (cases_eq b c) [
        | inl hit ↦ let now : slice_index (slice_set last c n) b ≡ n = ap (slice_index (slice_set last c n)) hit ∙ index_same last c n (omega (arith, inside, hit)) in omega (arith, lt, now)
        | inr miss ↦
            let then_too : slice_index (slice_set last c n) b ≡ slice_index last b = index_other last c b n miss in
            elim (cases_eq e n) [
              | inl here ↦ absurd (miss (some_same b c (sym there ∙ ap (λ k. above_at names classes (slice_index order k)) here ∙ sym same)))
              | inr before ↦ let old : e ≤ slice_index last b = uses.latest e b (omega (arith, lt, before)) there inside in omega (arith, old, then_too)
            ]
      ];
}
  where
    kept : length (slice_set last c n) ≡ length last
    kept = set_length last c n

-- ---- the chart of a class over its base's

over_machine : (base own : Option GraphItems) → option_map_or (λ g. g) (derived_machine base own) no_items ≡ followed_by (refined (option_map_or refinements own []) (option_map_or (λ g. g) base no_items)) (other_items (option_map_or (λ g. g) own no_items))
over_machine None None = refl
over_machine None (Some own) = refl
over_machine (Some base) None = sym (followed_none (refined [] base) ∙ unrefined base [])
over_machine (Some base) (Some own) = refl

abbrev machine_in : Option BehaviorTree → Option GraphItems
machine_in b = option_and_then (λ (c : BehaviorTree). c.machine) b

over_behavior : (base own : Option BehaviorTree) → machine_in (derived_behavior base own) ≡ derived_machine (machine_in base) (machine_in own)
over_behavior None None = refl
over_behavior None (Some own) = refl
over_behavior (Some base) None = alone base.machine
  where
    alone : (m : Option GraphItems) → m ≡ derived_machine m None
    alone None = refl
    alone (Some g) = refl
over_behavior (Some base) (Some own) = refl

graph_over : (a : ActorTree) (base : Option ActorTree) → graph_of (over_base a base) ≡ chart_over a (option_map graph_of base)
graph_over a None = refl
graph_over a (Some base) = ap (λ m. option_map_or (λ g. g) m no_items) (over_behavior base.behavior a.behavior) ∙ over_machine (machine_in base.behavior) (machine_in a.behavior)

-- ---- one more class

-- the chart of each flat class, which is there to its last use
abbrev charts_way : List ClassTree → List ℕ → Way GraphItems
charts_way cs last = record { value = λ a. graph_of (flat_actor cs a); tells = chart_is_known; wanted = λ k j. nat_le k (slice_index last j) }

falls : (cs : List ClassTree) (last : List ℕ) (k j : ℕ) → nat_le (k + 1) (slice_index last j) ≡ true → nat_le k (slice_index last j) ≡ true
falls cs last k j want = let le : k + 1 ≤ slice_index last j = leb-true (k + 1) (slice_index last j) want in le-leb k (slice_index last j) (omega (arith, le))

module _ (cs : List ClassTree) (order : List ℕ) (is : IsContainmentOrder (map (extended cs) cs) order) (last : List ℕ) (uses : HasLastUses (map class_name cs) cs order (length order) last) where
  needed : (k i b : ℕ) (a : ActorTree) → k < length order → slice_index order k ≡ i → actor_at cs i ≡ Some a → base_number cs a ≡ Some b → b < length cs → nat_le k (slice_index last b) ≡ true
  needed k i b a lt at here above within =
      le-leb k (slice_index last b) (uses.latest k b lt (ap (λ n. above_at (map class_name cs) cs n) at ∙ ap (option_and_then (λ (x : ActorTree). base_number cs x)) here ∙ above) (omega (arith, within, uses.sized)))

  -- without a chart that isn't needed later
  gone : (k : ℕ) (at : Option ℕ) (charts : List (Option GraphItems)) (j : ℕ) → nat_le (k + 1) (slice_index last j) ≡ true → there_at (let_go last k at charts) j ≡ there_at charts j
  gone k None charts j want = refl
  gone k (Some b) charts j want = tested (is_needed_later last k b) refl
    where
      tested : (t : Bool) → is_needed_later last k b ≡ t → there_at (if t then charts else slice_set charts b None) j ≡ there_at charts j
      tested true e = refl
      tested false e = there_other charts b j None (λ same.
          let le : k + 1 ≤ slice_index last j = leb-true (k + 1) (slice_index last j) want in
          let past : slice_index last b ≤ k = ltb-false k (slice_index last b) e in
          omega (arith, le, past, ap (slice_index last) same))

  gone_length : (k : ℕ) (at : Option ℕ) (charts : List (Option GraphItems)) → length (let_go last k at charts) ≡ length charts
  gone_length k None charts = refl
  gone_length k (Some b) charts = tested (is_needed_later last k b)
    where
      tested : (t : Bool) → length (if t then charts else slice_set charts b None) ≡ length charts
      tested true = refl
      tested false = set_length charts b None

  -- what is there now was there before
  gone_only : (k : ℕ) (at : Option ℕ) (charts : List (Option GraphItems)) (j : ℕ) (g : GraphItems) → there_at (let_go last k at charts) j ≡ Some g → there_at charts j ≡ Some g
  gone_only k None charts j g got = got
  gone_only k (Some b) charts j g got = tested (is_needed_later last k b) got
    where
      at_it : slice_get charts b ≡ slice_get charts b → (lt : b < length charts) → there_at (slice_set charts b None) b ≡ Some g → there_at charts b ≡ Some g
      at_it e lt here = none_some g (sym (there_same charts b None lt) ∙ here)

      tested : (t : Bool) → there_at (if t then charts else slice_set charts b None) j ≡ Some g → there_at charts j ≡ Some g
      tested true e = e
      tested false e = elim (cases_eq j b) [
        | inr ne ↦ sym (there_other charts b j None ne) ∙ e
        | inl same ↦ elim (cases_lt b (length charts)) [
          | inl lt ↦ none_some g (sym (there_same charts b None lt) ∙ sym (ap (there_at (slice_set charts b None)) same) ∙ e)
          | inr past ↦ none_some g (sym (ap (option_and_then (λ (x : Option GraphItems). x)) (got_past (slice_set charts b None) j (omega (arith, past, same, set_length charts b None)))) ∙ e)
        ]
      ]

  keep_next : (k i : ℕ) (a : ActorTree) (v : GraphItems) (at : Option ℕ) (charts : List (Option GraphItems)) → Taken (charts_way cs last) cs order k charts → actor_at cs i ≡ Some a → Next (charts_way cs last) cs k i v charts (keep last k i v (let_go last k at charts))
  keep_next k i a v at charts taken here = tested (is_needed_later last k i) refl
    where
      mid : List (Option GraphItems)
      mid = let_go last k at charts

      sized : length (let_go last k at charts) ≡ length charts
      sized = gone_length k at charts

      within : i < length (let_go last k at charts)
      within = omega (arith, sized, taken.sized, actor_within cs i a here)

      tested : (t : Bool) → is_needed_later last k i ≡ t → Next (charts_way cs last) cs k i v charts (if t then slice_set (let_go last k at charts) i (Some v) else let_go last k at charts)
      tested true e = record {
        sized = set_length (let_go last k at charts) i (Some v) ∙ sized;
        others = λ j ne want. there_other (let_go last k at charts) i j (Some v) ne ∙ gone k at charts j want;
        itself = λ want. there_same (let_go last k at charts) i (Some v) within;
        only = λ j g got. elim (cases_eq j i) [
          | inl same ↦ inr (same, some_same g v (sym got ∙ ap (there_at (slice_set (let_go last k at charts) i (Some v))) same ∙ there_same (let_go last k at charts) i (Some v) within))
          | inr ne ↦ inl (gone_only k at charts j g (sym (there_other (let_go last k at charts) i j (Some v) ne) ∙ got))
        ];
      }
      tested false e = record {
        sized = sized;
        others = λ j ne want. gone k at charts j want;
        itself = λ want.
            let le : k + 1 ≤ slice_index last i = leb-true (k + 1) (slice_index last i) want in
            let past : slice_index last i ≤ k = ltb-false k (slice_index last i) e in
            absurd (omega (arith, le, past));
        only = λ j g got. inl (gone_only k at charts j g got);
      }

  abbrev StepOutcome : ℕ → Option (List (Option GraphItems)) → Type 0
  StepOutcome k (Some charts) = Taken (charts_way cs last) cs order k charts
  StepOutcome k None = list_all (of_actor (names_known cs)) cs ≡ false

  mapped_twice : (o : Option ActorTree) → option_map graph_of (option_map (flat_actor cs) o) ≡ option_map (λ a. graph_of (flat_actor cs a)) o
  mapped_twice None = refl
  mapped_twice (Some a) = refl

  step : (k i : ℕ) (charts : List (Option GraphItems)) → Taken (charts_way cs last) cs order k charts → k < length order → slice_index order k ≡ i → StepOutcome (k + 1) (with_chart (map class_name cs) cs last k charts i)
  step k i charts taken lt at = go (actor_at cs i) refl
    where
      value : (a : ActorTree) → actor_at cs i ≡ Some a → chart_over a (base_there (map class_name cs) charts a) ≡ graph_of (flat_actor cs a)
      value a here =
          ap (chart_over a) (base_is (charts_way cs last) cs order is needed k i a charts taken lt at here ∙ sym (mapped_twice (base_in cs a)))
          ∙ sym (graph_over a (option_map (flat_actor cs) (base_in cs a))) ∙ sym (ap graph_of (unfolds cs order is k i a lt at here))

      tested : (a : ActorTree) → actor_at cs i ≡ Some a → (t : Bool) → known_there a (base_there (map class_name cs) charts a) ≡ t
          → StepOutcome (k + 1) (if t then Some (keep last k i (chart_over a (base_there (map class_name cs) charts a)) (let_go last k (above (map class_name cs) a) charts)) else None)
      tested a here true known =
          let v = chart_over a (base_there (map class_name cs) charts a) in
          one_actor (charts_way cs last) cs (falls cs last) order k i a v charts (keep last k i v (let_go last k (above (map class_name cs) a) charts)) taken at here
          (sym (passes_is (charts_way cs last) cs order is needed k i a charts taken lt at here) ∙ known) (value a here) (keep_next k i a v (above (map class_name cs) a) charts taken here)
      tested a here false known =
          one_fails (of_actor (names_known cs)) cs i (AnActor a) (actor_is (slice_get cs i) a here) (sym (passes_is (charts_way cs last) cs order is needed k i a charts taken lt at here) ∙ known)

      go : (o : Option ActorTree) → actor_at cs i ≡ o → StepOutcome (k + 1) (with_chart_of (map class_name cs) last k charts i o)
      go None here = no_actor (charts_way cs last) cs (falls cs last) order k i charts taken at here
      go (Some a) here = tested a here (known_there a (base_there (map class_name cs) charts a)) refl

  -- ---- all of them

  on_step : (next : List (Option GraphItems) → Bool) (k : ℕ) (o : Option (List (Option GraphItems))) → StepOutcome k o → ((charts : List (Option GraphItems)) → Taken (charts_way cs last) cs order k charts → next charts ≡ list_all (of_actor (names_known cs)) cs)
      → option_map_or next o false ≡ list_all (of_actor (names_known cs)) cs
  on_step next k None fails goes = sym fails
  on_step next k (Some charts) taken goes = goes charts taken

  judges : (rest : List ℕ) (k : ℕ) (charts : List (Option GraphItems)) → IsRest order k rest → Taken (charts_way cs last) cs order k charts → judged (map class_name cs) cs last k rest charts ≡ list_all (of_actor (names_known cs)) cs
  judges [] k charts h taken = sym (all_passed (charts_way cs last) cs order is charts k (omega (arith, h.sized)) taken)
  judges (i ∷ rest) k charts h taken =
      on_step (judged (map class_name cs) cs last (k + 1) rest) (k + 1) (with_chart (map class_name cs) cs last k charts i) (step k i charts taken (rest_within order k i rest h) (rest_first order k i rest h)) (λ more good. judges rest (k + 1) more (next_rest order k i rest h) good)

-- what is judged is whether each refinement names what the flat chart of its class's base has
pub judges_rightly : (cs : List ClassTree) (order : List ℕ) → IsContainmentOrder (map (extended cs) cs) order → (last : List ℕ) → HasLastUses (map class_name cs) cs order (length order) last
    → judged (map class_name cs) cs last 0 order (none_taken cs) ≡ list_all (of_actor (names_known cs)) cs
judges_rightly cs order is last uses = judges cs order is last uses order 0 (none_taken cs) (whole_rest order) (begun (charts_way cs last) cs order)
