-- Graphs by their keys, and states in order.
use Rattle.std.proofs.Common.{◌≡◌, ℕ, zero, suc, ◌+◌, ◌-◌, ◌<◌, ◌≤◌, List, [], ◌∷◌, ◌++◌, length, get_or, drop, map, refl, sym, ap, ◌∙◌, subst, arith, Option, Some, None, option_map, append_assoc, Bor}
use Rattle.std.specs.Prelude.{position, option_and_then, slice_get}
use Rattle.std.specs.List.{flat_map}
use Rattle.std.specs.Option.{option_map_or}
use Rattle.std.proofs.lemmas.List.{drop_all, drop_more, append-nil, map-append}
use Rattle.std.proofs.lemmas.Option.{slice_get-map}
use Rattle.name_tables.specs.name_numbers.Names.{same}
use Rattle.chart_model.specs.Chart.{Path, State, Graph, Chart}
use Rattle.chart_model.specs.Named.{first, graph_at, same_path}
use Rattle.chart_model.specs.States.{states_below, states_of}
use Rattle.chart_trees.specs.chart_graphs.Views.{graph_view}
use Rattle.chart_trees.specs.declared.chart_graphs.Graph.{Graph as CodeGraph}
use Rattle.chart_reader.proofs.chart_nodes.KeyLaws.{same_codes}
use Rattle.chart_reader.proofs.chart_nodes.Onward.{path_is}
use Rattle.chart_reader.proofs.chart_nodes.GraphKeys.{first_passes, graph_is}
use Rattle.chart_compile.specs.declared.chart_places.places.Place.{Place}
use Rattle.chart_compile.specs.chart_places.Places.{FoundAt, keys_of, shared_key, place_of, place_view, places_below, places_of, states_at, PlaceTree}

-- ---- graphs by their keys

read_made : {A B : Type 0} (f : A → B) (xs : List A) (o : Option ℕ) → option_map f (option_and_then (λ i. slice_get xs i) o) ≡ option_and_then (λ i. slice_get (map f xs) i) o
read_made f xs None = refl
read_made f xs (Some i) = sym (slice_get-map f xs i)

pub graph_found : (gs : List CodeGraph) (keys : List (List ℕ)) (key : List ℕ) (path : Path) (found : Option CodeGraph) → keys ≡ keys_of (map graph_view gs) → key ≡ shared_key path → found ≡ option_and_then (λ i. slice_get gs i) (position (same key) keys)
    → option_map graph_view found ≡ first (λ (g : Graph). same_path g.owner path) (map graph_view gs)
graph_found gs keys key path found e f h =
    let graphs = map graph_view gs in
    ap (option_map graph_view) h ∙ read_made graph_view gs (position (same key) keys) ∙ ap (λ k. option_and_then (λ i. slice_get graphs i) (position (same k) keys)) f
    ∙ ap (λ ks. option_and_then (λ i. slice_get graphs i) (position (same (shared_key path)) ks)) e ∙ graph_is shared_key same_codes graphs path

pub owner_is : (chart : Chart) (path : Path) (g : Graph) → graph_at chart path ≡ Some g → g.owner ≡ path
owner_is chart path g e = path_is g.owner path (first_passes (λ (g : Graph). same_path g.owner path) chart.graphs g e)

pub graph_again : (chart : Chart) (path : Path) (g : Graph) → graph_at chart path ≡ Some g → graph_at chart g.owner ≡ Some g
graph_again chart path g e = subst (λ p. graph_at chart p ≡ Some g) (sym (owner_is chart path g e)) e

at_found : (chart : Chart) (path : Path) (r : Option (Bor CodeGraph)) → option_map graph_view (option_map (λ (g : Bor CodeGraph). g.now) r) ≡ graph_at chart path → FoundAt chart path r
at_found chart path None e = sym e
at_found chart path (Some g) e = (graph_again chart path (graph_view g.now) (sym e), owner_is chart path (graph_view g.now) (sym e))

-- a graph found by its key
pub found_at : (chart : Chart) (gs : List CodeGraph) (keys : List (List ℕ)) (key key' : List ℕ) (path : Path) (r : Option (Bor CodeGraph)) → chart.graphs ≡ map graph_view gs → keys ≡ keys_of (map graph_view gs) → key' ≡ key → key ≡ shared_key path
    → option_map (λ (g : Bor CodeGraph). g.now) r ≡ option_and_then (λ i. slice_get gs i) (position (same key') keys) → FoundAt chart path r
found_at chart gs keys key key' path r c e k f h =
    at_found chart path r (graph_found gs keys key' path (option_map (λ (g : Bor CodeGraph). g.now) r) e (k ∙ f) h ∙ ap (first (λ (g : Graph). same_path g.owner path)) (sym c))

-- ---- states in order

pub below_none : (chart : Chart) (n : ℕ) (path : Path) → graph_at chart path ≡ None → places_below chart n path ≡ []
unfolding places_below
below_none chart zero path e = refl
below_none chart (suc n) path e = ap (λ o. flat_map (λ (s : State). place_of path s ∷ places_below chart n (s.name ∷ path)) (option_map_or (λ (g : Graph). g.states) o [])) e

pub below_zero : (chart : Chart) (n : ℕ) (path : Path) → n ≡ 0 → places_below chart n path ≡ []
unfolding places_below
below_zero chart zero path e = refl
below_zero chart (suc n) path e = absurd (omega arith)

pub below_some : (chart : Chart) (n : ℕ) (path : Path) (g : Graph) → (n ≡ 0 → ⊥) → graph_at chart path ≡ Some g → places_below chart n path ≡ flat_map (λ (s : State). place_of path s ∷ places_below chart (n - 1) (s.name ∷ path)) g.states
unfolding places_below
below_some chart zero path g h e = absurd (h refl)
below_some chart (suc n) path g h e =
    let less : n ≡ suc n - 1 = omega arith in
    ap (λ o. flat_map (λ (s : State). place_of path s ∷ places_below chart n (s.name ∷ path)) (option_map_or (λ (g : Graph). g.states) o [])) e ∙ ap (λ m. flat_map (λ (s : State). place_of path s ∷ places_below chart m (s.name ∷ path)) g.states) less

pub pushed_place : (old new : List Place) (x : Place) (p : PlaceTree) → new ≡ old ++ x ∷ [] → place_view x ≡ p → map place_view new ≡ map place_view old ++ p ∷ []
pushed_place old new x p e f = ap (map place_view) e ∙ map-append place_view old (x ∷ []) ∙ ap (λ t. map place_view old ++ t ∷ []) f

pub state_some : (chart : Chart) (n : ℕ) (owner path : Path) (out pushed final : List PlaceTree) (p : PlaceTree) → pushed ≡ out ++ p ∷ [] → owner ≡ path → final ≡ pushed ++ places_below chart n owner → final ≡ out ++ p ∷ places_below chart n path
state_some chart n owner path out pushed final p e o f = f ∙ ap (λ l. l ++ places_below chart n owner) e ∙ append_assoc out (p ∷ []) (places_below chart n owner) ∙ ap (λ q. out ++ p ∷ places_below chart n q) o

pub state_none : (chart : Chart) (n : ℕ) (path : Path) (out pushed : List PlaceTree) (p : PlaceTree) → pushed ≡ out ++ p ∷ [] → graph_at chart path ≡ None → pushed ≡ out ++ p ∷ places_below chart n path
state_none chart n path out pushed p e o = e ∙ ap (λ l. out ++ p ∷ l) (sym (below_none chart n path o))

-- one more item of a list that is made of parts
pub parts_more : {A B C : Type 0} (f : B → List C) (v : A → B) (out out' first : List C) (xs : List A) (i : ℕ) (x : A) → i < length xs → x ≡ get_or xs i x → out' ≡ out ++ f (v x) → out ++ flat_map f (map v (drop i xs)) ≡ first → out' ++ flat_map f (map v (drop (i + 1) xs)) ≡ first
parts_more f v out out' first xs i x h is e before =
    let there : drop i xs ≡ x ∷ drop (i + 1) xs = drop_more xs i x h ∙ ap (λ y. y ∷ drop (i + 1) xs) (sym is) in
    ap (λ l. l ++ flat_map f (map v (drop (i + 1) xs))) e ∙ append_assoc out (f (v x)) (flat_map f (map v (drop (i + 1) xs))) ∙ ap (λ l. out ++ flat_map f (map v l)) (sym there) ∙ before

pub parts_done : {A B C : Type 0} (f : B → List C) (v : A → B) (out first : List C) (xs : List A) (i : ℕ) → length xs ≤ i → out ++ flat_map f (map v (drop i xs)) ≡ first → out ≡ first
parts_done f v out first xs i h e = sym (append-nil out) ∙ ap (λ l. out ++ flat_map f (map v l)) (sym (drop_all i xs h)) ∙ e

-- ---- the paths of places are those of the states

map_parts : {A B C : Type 0} (g : B → C) (f : A → List B) (h : A → List C) → ((x : A) → map g (f x) ≡ h x) → (xs : List A) → map g (flat_map f xs) ≡ flat_map h xs
map_parts g f h same [] = refl
map_parts g f h same (x ∷ xs) = map-append g (f x) (flat_map f xs) ∙ ap (λ l. l ++ map g (flat_map f xs)) (same x) ∙ ap (λ l. h x ++ l) (map_parts g f h same xs)

paths_below : (chart : Chart) (n : ℕ) (owner : Path) → map (λ (p : PlaceTree). p.path) (places_below chart n owner) ≡ states_below chart n owner
unfolding places_below states_below
paths_below chart zero owner = refl
paths_below chart (suc n) owner =
    map_parts (λ (p : PlaceTree). p.path) (λ (s : State). place_of owner s ∷ places_below chart n (s.name ∷ owner)) (λ (s : State). (s.name ∷ owner) ∷ states_below chart n (s.name ∷ owner)) (λ s. ap (λ l. (s.name ∷ owner) ∷ l) (paths_below chart n (s.name ∷ owner))) (states_at chart owner)

-- the places are the states, in their order
pub paths_are : (chart : Chart) → map (λ (p : PlaceTree). p.path) (places_of chart) ≡ states_of chart
unfolding states_of
paths_are chart = paths_below chart (length chart.graphs) []
