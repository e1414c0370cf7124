-- The states of a valid chart, by their places.
use Rattle.std.proofs.Common.{◌≡◌, ◌⊎◌, inl, inr, ℕ, zero, suc, Bool, true, false, cond, List, [], ◌∷◌, ◌++◌, length, map, refl, ap, subst, Option, Some, None}
use Rattle.std.specs.List.{AllByRecursion, IsDistinct, flat_map}
use Rattle.std.specs.Option.{option_map_or}
use Rattle.std.proofs.lemmas.List.Elements.{All-contains}
use lib.Pointwise.{bytes_decides}
use Rattle.chart_model.specs.Chart.{Name, Path, State, Graph, Chart}
use Rattle.chart_model.specs.Named.{first, graph_at, same_name, same_path, state_at}
use Rattle.chart_model.specs.Valid.{HasRightNames, IsValid, names_in}
use Rattle.chart_reader.proofs.chart_nodes.Members.{In, Contains-from_In}
use Rattle.chart_compile.specs.chart_places.Places.{PlaceTree, place_of, places_below, places_of, states_at}
use Rattle.chart_reader.proofs.NestedGraphs.{In-first, of_all}

In_parts : {A B : Type 0} (f : A → List B) (xs : List A) (y : B) → In (flat_map f xs) y → (x : A) × In xs x × In (f x) y
In_parts f [] y h = absurd h
In_parts f (x ∷ xs) y h = elim (In_append (f x) (flat_map f xs) y h) [ inl i ↦ (x, inl refl, i) | inr i ↦ (let r = In_parts f xs y i in (r.0, inr r.1, r.2)) ]
  where
    In_append : {B : Type 0} (xs ys : List B) (z : B) → In (xs ++ ys) z → In xs z ⊎ In ys z
    In_append [] ys z h = inr h
    In_append (x ∷ xs) ys z (inl e) = inl (inl e)
    In_append (x ∷ xs) ys z (inr h) = elim (In_append xs ys z h) [ inl i ↦ inl (inr i) | inr i ↦ inr i ]

-- a place is that of a state in the graph at some path
abbrev pub IsPlace : Chart → PlaceTree → Type 0
IsPlace chart p = (owner : Path) × (s : State) × In (states_at chart owner) s × (place_of owner s ≡ p)

place_split : (chart : Chart) (n : ℕ) (owner : Path) (s : State) (p : PlaceTree) → In (states_at chart owner) s → (In (places_below chart n (s.name ∷ owner)) p → IsPlace chart p) → In (place_of owner s ∷ places_below chart n (s.name ∷ owner)) p → IsPlace chart p
place_split chart n owner s p i again (inl e) = (owner, s, i, e)
place_split chart n owner s p i again (inr h) = again h

place_below : (chart : Chart) (n : ℕ) (owner : Path) (p : PlaceTree) → In (places_below chart n owner) p → IsPlace chart p
unfolding places_below
place_below chart zero owner p h = absurd h
place_below chart (suc n) owner p h =
    let r = In_parts (λ (s : State). place_of owner s ∷ places_below chart n (s.name ∷ owner)) (states_at chart owner) p h in
    place_split chart n owner r.0 p r.1 (place_below chart n (r.0.name ∷ owner) p) r.2

pub place_is : (chart : Chart) (p : PlaceTree) → In (places_of chart) p → IsPlace chart p
place_is chart p h = place_below chart (length chart.graphs) [] p h

-- ---- a state is found by its path

pub In-name : (states : List State) (rest : List Name) (s : State) → In states s → In (map (λ (s : State). s.name) states ++ rest) s.name
In-name [] rest s h = absurd h
In-name (d ∷ ds) rest s (inl e) = inl (ap (λ (s : State). s.name) e)
In-name (d ∷ ds) rest s (inr i) = inr (In-name ds rest s i)

first_distinct : (states : List State) (rest : List Name) (s : State) → IsDistinct same_name (map (λ (s : State). s.name) states ++ rest) → In states s → first (λ (d : State). same_name d.name s.name) states ≡ Some s
unfolding IsDistinct
first_distinct [] rest s d h = absurd h
first_distinct (x ∷ xs) rest s d (inl e) = let own : same_name x.name s.name ≡ true = (bytes_decides x.name s.name).1 (ap (λ (s : State). s.name) e) in rw own (ap Some e)
first_distinct (x ∷ xs) rest s d (inr i) = rw (of_all x.name (map (λ (s : State). s.name) xs ++ rest) s.name d.0 (In-name xs rest s i)) (first_distinct xs rest s d.1 i)

at_graph : (o : Option Graph) (s : State) → ((g : Graph) → o ≡ Some g → IsDistinct same_name (names_in g)) → In (option_map_or (λ (g : Graph). g.states) o []) s → option_map_or (λ (g : Graph). first (λ (d : State). same_name d.name s.name) g.states) o None ≡ Some s
at_graph None s d h = absurd h
at_graph (Some g) s d h = first_distinct g.states _ s (d g refl) h

pub state_found : (chart : Chart) (p : PlaceTree) → IsValid chart → IsPlace chart p → state_at chart p.path ≡ Some p.state
state_found chart p valid (owner, s, i, e) =
    let distinct : (g : Graph) → graph_at chart owner ≡ Some g → IsDistinct same_name (names_in g) = λ g f.
    (All-contains (HasRightNames chart) chart.graphs g valid.names (Contains-from_In chart.graphs g (In-first (λ (g : Graph). same_path g.owner owner) chart.graphs g f))).distinct
    in
    subst (λ (p : PlaceTree). state_at chart p.path ≡ Some p.state) e (at_graph (graph_at chart owner) s distinct i)
