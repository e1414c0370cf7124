-- Nodes of tables lead to lower ones where those that they stand for do.
use Rattle.std.proofs.Common.{◌≡◌, ◌⊎◌, inl, inr, ℕ, ◌<◌, ◌≤◌, true, List, [], ◌∷◌, length, refl, sym, ap, ◌∙◌, subst, arith, Option, Some, option_map}
use Rattle.std.specs.Prelude.{slice_get, position, ◌&&◌}
use Rattle.std.specs.List.{filter, list_all}
use Rattle.std.specs.Option.{option_map_or}
use Rattle.std.proofs.lemmas.Bool.{cases_lt}
use Rattle.std.proofs.lemmas.Bool.Decides.{nat_tests}
use Rattle.std.proofs.lemmas.Option.{slice_get-map}
use Rattle.name_tables.specs.name_numbers.Names.{same}
use Rattle.chart_model.specs.chart_plan.Plan.{Kind, Simple, Border, Choice, Entry, Exit}
use Rattle.chart_model.specs.chart_plan.Same.{Each, none, more, SameKind, simple, border, choice, entry, exit}
use Rattle.chart_model.specs.Chart.{Path}
use Rattle.chart_model.specs.Named.{Node, a_state, a_choice, an_entry, an_exit}
use Rattle.chart_run.specs.chart_tables.Tables.{ArrowTree, kind}
use Rattle.chart_run.specs.declared.chart_tables.tables.Node.{Node as CodeNode}
use Rattle.chart_reader.specs.chart_nodes.Steps.{StepTree}
use Rattle.chart_reader.proofs.chart_nodes.Members.{In, Contains-from_In}
use Rattle.chart_compile.specs.chart_places.Groups.{picked}
use Rattle.chart_compile.specs.chart_parts.Parts.{IsArrow, IsState, from_key, target_of}
use Rattle.chart_compile.specs.chart_parts.Nodes.{IsNode, by_first, has_condition, has_none, is_lower, kind_by, leads_lower, node_after}
use Rattle.chart_compile.specs.chart_parts.Compiled.{node_kind}
use Rattle.chart_compile.proofs.chart_compiled.Naming.{each_at, each_past}
use Rattle.chart_compile.specs.chart_numbers.Order.{AreNumbered}
use Rattle.chart_compile.specs.Joined.{AreKeyed}
use Rattle.chart_compile.proofs.chart_numbers.Counting.{picked_In}
use Rattle.chart_compile.proofs.chart_numbers.Members.{In-filter, In-slice_get, place_of}

-- arrows of these steps lead below p
abbrev Below : List (List ℕ) → ℕ → List StepTree → Type 0
Below keys p ss = (a : ArrowTree) (t : StepTree) → In ss t → IsArrow keys a t → is_lower p a ≡ true

each_below : (keys : List (List ℕ)) (p : ℕ) (xs : List ArrowTree) (ss : List StepTree) → Each (IsArrow keys) xs ss → Below keys p ss → list_all (is_lower p) xs ≡ true
each_below keys p _ _ none f = refl
each_below keys p _ _ (more {x} {y} {xs} {ys} r e) f = ap (λ b. b && list_all (is_lower p) xs) (f x y (inl refl) r) ∙ each_below keys p xs ys e (λ a t h. f a t (inr h))

module _ (RS : ℕ → Path → Type 0) (keys : List (List ℕ)) (p : ℕ) where
  choice_below : (graph : Path) (bs ds : List StepTree) (k : Kind ℕ ArrowTree) → SameKind RS (IsArrow keys) k (by_first graph (λ d. Choice bs d) ds) → Below keys p bs → Below keys p ds → leads_lower p k ≡ true
  choice_below graph bs [] _ (simple r) f g = refl
  choice_below graph bs (d ∷ ds) _ (choice {ts} {t = a} e r) f g = ap (λ b. b && is_lower p a) (each_below keys p ts bs e f) ∙ g a d (inl refl) r

  state_below : (path : Path) (ss : List StepTree) (k : Kind ℕ ArrowTree) → SameKind RS (IsArrow keys) k (by_first path (λ s. Border path s) ss) → Below keys p ss → leads_lower p k ≡ true
  state_below path [] _ (simple r) f = refl
  state_below path (s ∷ ss) _ (border {t = a} e r) f = f a s (inl refl) r

  entry_below : (path : Path) (ss : List StepTree) (k : Kind ℕ ArrowTree) → SameKind RS (IsArrow keys) k (by_first path (λ s. Entry path s) ss) → Below keys p ss → leads_lower p k ≡ true
  entry_below path [] _ (simple r) f = refl
  entry_below path (s ∷ ss) _ (entry {t = a} e r) f = f a s (inl refl) r

  exit_below : (path : Path) (ss : List StepTree) (k : Kind ℕ ArrowTree) → SameKind RS (IsArrow keys) k (by_first path (λ s. Exit path s) ss) → Below keys p ss → leads_lower p k ≡ true
  exit_below path [] _ (simple r) f = refl
  exit_below path (s ∷ ss) _ (exit {t = a} e r) f = f a s (inl refl) r

  outside_below : (k : Kind ℕ ArrowTree) → SameKind RS (IsArrow keys) k (Simple []) → leads_lower p k ≡ true
  outside_below _ (simple r) = refl

  kind_below : (node : Node) (ss : List StepTree) (k : Kind ℕ ArrowTree) → SameKind RS (IsArrow keys) k (kind_by node ss) → Below keys p ss → leads_lower p k ≡ true
  kind_below (a_state path) ss k e f = state_below path ss k e f
  kind_below (a_choice graph c) ss k e f = choice_below graph (filter has_condition ss) (filter has_none ss) k e (λ a t h. f a t (In-filter has_condition ss t h).0) (λ a t h. f a t (In-filter has_none ss t h).0)
  kind_below (an_entry owner x) ss k e f = entry_below owner ss k e f
  kind_below (an_exit [] x) ss k e f = outside_below k e
  kind_below (an_exit (s ∷ owner) x) ss k e f = exit_below (s ∷ owner) ss k e f

same_number : (o : Option ℕ) (i k : ℕ) → o ≡ Some i → o ≡ Some k → i ≡ k
same_number o i k e f = cc

-- the arrows of the steps at a node lead to lower numbers
arrow_below : (steps : List StepTree) (keys : List (List ℕ)) (targets : List ℕ) (p : ℕ) (s : StepTree) → AreNumbered steps keys targets → AreKeyed steps → slice_get (picked steps targets) p ≡ Some s → s.target ≡ target_of s
    → (a : ArrowTree) (t : StepTree) → In (from_key (target_of s) steps) t → IsArrow keys a t → is_lower p a ≡ true
arrow_below steps keys targets p s numbers keyed at own a t there arrow =
    let found = In-filter (λ (t : StepTree). same t.origin (target_of s)) steps t there in
    let at_t = place_of steps t found.0 in
    let key : slice_get keys p ≡ Some (target_of s) = ap (λ l. slice_get l p) numbers.named ∙ slice_get-map (λ (s : StepTree). s.target) (picked steps targets) p ∙ ap (option_map (λ (s : StepTree). s.target)) at ∙ ap Some own in
    let r = numbers.lower p (target_of s) t key (Contains-from_In steps t found.0) found.1 in
    let one : r.0 ≡ a.target = same_number (position (same t.target) keys) r.0 a.target r.1 (ap (λ k. position (same k) keys) (keyed at_t.0 t at_t.1) ∙ arrow.target) in
    let below : a.target < p = omega (arith, one, r.2) in
    grind (arith, nat_tests)

picked_own : (steps : List StepTree) (targets : List ℕ) (s : StepTree) → AreKeyed steps → In (picked steps targets) s → s.target ≡ target_of s
picked_own steps targets s keyed h = let at = place_of steps s (picked_In steps targets s h) in keyed at.0 s at.1

-- nodes of tables that stand for numbered nodes lead to lower ones
pub lead_lower : (states keys : List (List ℕ)) (steps : List StepTree) (targets : List ℕ) (made : List CodeNode) → AreNumbered steps keys targets → AreKeyed steps → Each (IsNode states keys steps) made (picked steps targets) → (n : ℕ) → leads_lower n (node_kind made n) ≡ true
lead_lower states keys steps targets made numbers keyed e n = split (cases_lt n (length (picked steps targets)))
  where
    split : (n < length (picked steps targets)) ⊎ (length (picked steps targets) ≤ n) → leads_lower n (node_kind made n) ≡ true
    split (inl l) =
        let at = each_at n l e in
        let s = at.1 in
        let own = picked_own steps targets s keyed (In-slice_get (picked steps targets) n s at.3) in
        subst (λ o. leads_lower n (option_map_or kind o (Simple 0)) ≡ true) (sym at.2) (kind_below (IsState states) keys n (node_after s) (from_key (target_of s) steps) (kind at.0) at.4 (arrow_below steps keys targets n s numbers keyed at.3 own))
    split (inr l) = subst (λ o. leads_lower n (option_map_or kind o (Simple 0)) ≡ true) (sym (each_past n l e)) refl
