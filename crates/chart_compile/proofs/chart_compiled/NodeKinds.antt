-- What nodes are, by names.
use Rattle.std.proofs.Common.{◌≡◌, ℕ, Bool, true, false, cond, List, [], ◌∷◌, map, refl, sym, ap, subst}
use Rattle.std.specs.List.{filter}
use Rattle.chart_model.specs.chart_plan.Plan.{Kind, Simple, Border, Choice, Entry, Exit}
use Rattle.chart_model.specs.chart_plan.Same.{SameKind, simple, border, choice, entry, exit}
use Rattle.chart_model.specs.Chart.{Path, Chart}
use Rattle.chart_model.specs.Named as named
use Rattle.chart_model.specs.Named.{Placed, Node, a_state, a_choice, an_entry, an_exit, kind_of}
use Rattle.chart_model.specs.Valid.{onward}
use Rattle.chart_run.specs.chart_tables.Tables.{ArrowTree}
use Rattle.chart_reader.specs.chart_nodes.Steps.{StepTree}
use Rattle.chart_compile.specs.chart_parts.Nodes.{by_first, has_condition, has_none, kind_by}
use Rattle.chart_compile.proofs.chart_compiled.Naming.{each_made}

-- what a node is, by the transitions at which a chain goes on
abbrev pub kind_from : Node → List Placed → Kind Path Placed
kind_from (a_state path) ts = named.by_first path (λ t. Border path t) ts
kind_from (a_choice graph c) ts = named.by_first graph (λ d. Choice (filter named.has_condition ts) d) (filter named.has_none ts)
kind_from (an_entry owner e) ts = named.by_first owner (λ t. Entry owner t) ts
kind_from (an_exit [] x) ts = Simple []
kind_from (an_exit (s ∷ owner) x) ts = named.by_first (s ∷ owner) (λ t. Exit (s ∷ owner) t) ts

pub kind_is : (chart : Chart) (n : Node) → kind_from n (onward chart n) ≡ kind_of chart n
kind_is chart (a_state path) = refl
kind_is chart (a_choice graph c) = refl
kind_is chart (an_entry owner e) = refl
kind_is chart (an_exit [] x) = refl
kind_is chart (an_exit (s ∷ owner) x) = refl

pub filter_made : {A B : Type 0} (p : B → Bool) (f : A → B) (xs : List A) → filter p (map f xs) ≡ map f (filter (λ x. p (f x)) xs)
filter_made p f [] = refl
filter_made p f (x ∷ xs) = split p f x xs (p (f x)) (filter_made p f xs)
  where
    split : {A B : Type 0} (p : B → Bool) (f : A → B) (x : A) (xs : List A) (b : Bool) → filter p (map f xs) ≡ map f (filter (λ x. p (f x)) xs) → cond b (f x ∷ filter p (map f xs)) (filter p (map f xs)) ≡ map f (cond b (x ∷ filter (λ x. p (f x)) xs) (filter (λ x. p (f x)) xs))
    split p f x xs true e = ap (λ l. f x ∷ l) e
    split p f x xs false e = e

abbrev pub placed : List StepTree → List Placed
placed ss = map (λ (s : StepTree). s.placed) ss

module _ {RS RS' : ℕ → Path → Type 0} {RT : ArrowTree → StepTree → Type 0} {RT' : ArrowTree → Placed → Type 0} (states : (n : ℕ) (path : Path) → RS n path → RS' n path) (arrows : (a : ArrowTree) (s : StepTree) → RT a s → RT' a s.placed) where
  choice_named : (graph : Path) (branches ds : List StepTree) (k : Kind ℕ ArrowTree) → SameKind RS RT k (by_first graph (λ d. Choice branches d) ds) → SameKind RS' RT' k (named.by_first graph (λ d. Choice (placed branches) d) (placed ds))
  choice_named graph branches [] _ (simple {s} r) = simple (states s graph r)
  choice_named graph branches (d ∷ ds) _ (choice {ts} {ts'} {t} {t'} e r) = choice (each_made (λ (s : StepTree). s.placed) arrows e) (arrows t d r)

  pub kind_named : (n : Node) (ss : List StepTree) (k : Kind ℕ ArrowTree) → SameKind RS RT k (kind_by n ss) → SameKind RS' RT' k (kind_from n (placed ss))
  kind_named (a_state path) [] _ (simple {s} r) = simple (states s path r)
  kind_named (a_state path) (d ∷ ss) _ (border {s} {s'} {t} {t'} r q) = border (states s path r) (arrows t d q)
  kind_named (a_choice graph c) ss k h =
      subst (λ ds. SameKind RS' RT' k (named.by_first graph (λ d. Choice (filter named.has_condition (placed ss)) d) ds)) (sym (filter_made named.has_none (λ (s : StepTree). s.placed) ss))
      (subst (λ bs. SameKind RS' RT' k (named.by_first graph (λ d. Choice bs d) (placed (filter has_none ss)))) (sym (filter_made named.has_condition (λ (s : StepTree). s.placed) ss)) (choice_named graph (filter has_condition ss) (filter has_none ss) k h))
  kind_named (an_entry owner e) [] _ (simple {s} r) = simple (states s owner r)
  kind_named (an_entry owner e) (d ∷ ss) _ (entry {s} {s'} {t} {t'} r q) = entry (states s owner r) (arrows t d q)
  kind_named (an_exit [] x) ss _ (simple {s} r) = simple (states s [] r)
  kind_named (an_exit (n ∷ owner) x) [] _ (simple {s} r) = simple (states s (n ∷ owner) r)
  kind_named (an_exit (n ∷ owner) x) (d ∷ ss) _ (exit {s} {s'} {t} {t'} r q) = exit (states s (n ∷ owner) r) (arrows t d q)
