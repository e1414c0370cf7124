-- The states of a valid chart have different keys.
use Rattle.std.proofs.Common.{◌≡◌, ◌⊎◌, inl, inr, ℕ, zero, suc, Bool, true, false, cond, List, [], ◌∷◌, ◌++◌, length, map, refl, sym, ap, ◌∙◌, subst, arith, Option, Some, None, append_assoc}
use Rattle.std.specs.List.{AllByRecursion, IsDistinct, flat_map}
use Rattle.std.specs.Option.{option_map_or}
use Rattle.std.proofs.lemmas.List.{length-append}
use Rattle.std.proofs.lemmas.List.Elements.{All-contains}
use lib.Pointwise.{bytes_decides}
use Rattle.name_tables.specs.name_numbers.Names.{same, AreDistinct}
use Rattle.chart_model.specs.Chart.{Name, Path, State, Graph, Chart}
use Rattle.chart_model.specs.Named.{graph_at, same_name, same_path}
use Rattle.chart_model.specs.States.{states_below, states_of}
use Rattle.chart_model.specs.Valid.{HasRightNames, IsValid, names_in}
use Rattle.chart_reader.proofs.chart_nodes.KeyLaws.{same_codes}
use Rattle.chart_reader.proofs.chart_nodes.Members.{In, Contains-from_In}
use Rattle.chart_reader.proofs.chart_nodes.Onward.{path_is}
use Rattle.chart_compile.specs.chart_places.Places.{PlaceTree, places_of, state_key}
use Rattle.chart_compile.proofs.chart_places.PlaceLaws.{paths_are}
use Rattle.chart_reader.proofs.NestedGraphs.{In-first, of_all, In_append, under_deep, not_longer}
use Rattle.chart_compile.proofs.chart_compiled.States.{In-name}

-- the key of a state
abbrev pub key_of : PlaceTree → List ℕ
key_of p = state_key p.path

-- ---- lists without repetition

abbrev Unique : {A : Type 0} → List A → Type 0
Unique [] = Unit {0}
Unique {A} (x ∷ xs) = ((y : A) → In xs y → x ≡ y → ⊥) × Unique xs

unique_append : {A : Type 0} (xs ys : List A) → Unique xs → Unique ys → ((x y : A) → In xs x → In ys y → x ≡ y → ⊥) → Unique (xs ++ ys)
unique_append [] ys u v apart = v
unique_append (x ∷ xs) ys u v apart =
    (λ y h e. elim (In_append xs ys y h) [ inl i ↦ u.0 y i e | inr i ↦ apart x y (inl refl) i e ], unique_append xs ys u.1 v (λ a b i j e. apart a b (inr i) j e))

pub In_parts : {A B : Type 0} (f : A → List B) (xs : List A) (y : B) → In (flat_map f xs) y → (x : A) × In xs x × In (f x) y
In_parts f [] y h = absurd h
In_parts f (x ∷ xs) y h = elim (In_append (f x) (flat_map f xs) y h) [ inl i ↦ (x, inl refl, i) | inr i ↦ (let r = In_parts f xs y i in (r.0, inr r.1, r.2)) ]

-- ---- paths under a graph

-- a path is one of the state with a name in the graph at owner, or of one inside it
abbrev Under : Path → Name → Path → Type 0
Under owner n path = (inside : Path) × (path ≡ inside ++ n ∷ owner)

under_same : (owner inside outside : Path) (m n : Name) → inside ++ m ∷ owner ≡ outside ++ n ∷ owner → m ≡ n
under_same owner [] [] m n e = cc
under_same owner [] (x ∷ xs) m n e = absurd (omega (arith, ap length e, length-append xs (n ∷ owner)))
under_same owner (x ∷ xs) [] m n e = absurd (omega (arith, ap length e, length-append xs (m ∷ owner)))
under_same owner (x ∷ xs) (y ∷ ys) m n e = under_same owner xs ys m n (let s : xs ++ m ∷ owner ≡ ys ++ n ∷ owner = cc in s)

abbrev states_in : Option Graph → List State
states_in o = option_map_or (λ (g : Graph). g.states) o []

below_under : (chart : Chart) (n : ℕ) (owner path : Path) → In (states_below chart n owner) path → (m : Name) × Under owner m path
unfolding states_below
below_under chart zero owner path h = absurd h
below_under chart (suc n) owner path h =
    let r = In_parts (λ (s : State). (s.name ∷ owner) ∷ states_below chart n (s.name ∷ owner)) (states_in (graph_at chart owner)) path h in
    elim r.2 [ inl e ↦ (r.0.name, ([], sym e)) | inr i ↦ (let deep = below_under chart n (r.0.name ∷ owner) path i in (r.0.name, under_deep owner r.0.name deep.0 path deep.1)) ]

-- the paths of a state and of those inside it
abbrev line_of : Chart → ℕ → Path → State → List Path
line_of chart n owner s = (s.name ∷ owner) ∷ states_below chart n (s.name ∷ owner)

line_under : (chart : Chart) (n : ℕ) (owner : Path) (s : State) (path : Path) → In (line_of chart n owner s) path → Under owner s.name path
line_under chart n owner s path (inl e) = ([], sym e)
line_under chart n owner s path (inr i) = let deep = below_under chart n (s.name ∷ owner) path i in under_deep owner s.name deep.0 path deep.1

name_apart : (m n : Name) → same_name m n ≡ false → m ≡ n → ⊥
name_apart m n e is = let own : same_name m n ≡ true = (bytes_decides m n).1 is in cc

lines_unique : (chart : Chart) (n : ℕ) (owner : Path) (states : List State) (rest : List Name) → IsDistinct same_name (map (λ (s : State). s.name) states ++ rest) → ((s : State) → Unique (states_below chart n (s.name ∷ owner))) → Unique (flat_map (line_of chart n owner) states)
unfolding IsDistinct
lines_unique chart n owner [] rest d f = tt
lines_unique chart n owner (s ∷ states) rest d f =
    unique_append (line_of chart n owner s) (flat_map (line_of chart n owner) states)
    (λ path h e. let deep = below_under chart n (s.name ∷ owner) path h in not_longer owner deep.1.0 deep.0 s.name (e ∙ deep.1.1), f s)
    (lines_unique chart n owner states rest d.1 f)
    (λ x y i j e. let r = In_parts (line_of chart n owner) states y j in
    let u = line_under chart n owner s x i in
    let w = line_under chart n owner r.0 y r.2 in
    name_apart s.name r.0.name (of_all s.name (map (λ (s : State). s.name) states ++ rest) r.0.name d.0 (In-name states rest r.0 r.1)) (under_same owner u.0 w.0 s.name r.0.name (sym u.1 ∙ e ∙ w.1)))

-- ---- the states of a valid chart

graph_unique : (chart : Chart) (n : ℕ) (owner : Path) (o : Option Graph) → ((g : Graph) → o ≡ Some g → IsDistinct same_name (names_in g)) → ((s : State) → Unique (states_below chart n (s.name ∷ owner))) → Unique (flat_map (line_of chart n owner) (states_in o))
graph_unique chart n owner None d f = tt
graph_unique chart n owner (Some g) d f = lines_unique chart n owner g.states _ (d g refl) f

below_unique : (chart : Chart) → IsValid chart → (n : ℕ) (owner : Path) → Unique (states_below chart n owner)
unfolding states_below
below_unique chart valid zero owner = tt
below_unique chart valid (suc n) owner =
    graph_unique chart n owner (graph_at chart owner)
    (λ g f. (All-contains (HasRightNames chart) chart.graphs g valid.names (Contains-from_In chart.graphs g (In-first (λ (g : Graph). same_path g.owner owner) chart.graphs g f))).distinct)
    (λ s. below_unique chart valid n (s.name ∷ owner))

key_apart : (p q : Path) → (p ≡ q → ⊥) → same (state_key p) (state_key q) ≡ false
key_apart p q apart = split (same (state_key p) (state_key q)) refl
  where
    split : (b : Bool) → same (state_key p) (state_key q) ≡ b → same (state_key p) (state_key q) ≡ false
    split false e = e
    split true e = absurd (apart (path_is p q (sym (same_codes p q) ∙ e)))

apart_all : (p : Path) (paths : List Path) → ((q : Path) → In paths q → p ≡ q → ⊥) → AllByRecursion (λ k. same (state_key p) k ≡ false) (map state_key paths)
apart_all p [] f = tt
apart_all p (q ∷ paths) f = (key_apart p q (f q (inl refl)), apart_all p paths (λ r i. f r (inr i)))

keys_distinct : (paths : List Path) → Unique paths → IsDistinct same (map state_key paths)
unfolding IsDistinct
keys_distinct [] u = tt
keys_distinct (p ∷ paths) u = (apart_all p paths u.0, keys_distinct paths u.1)

pub keys_of_paths : (places : List PlaceTree) → map key_of places ≡ map state_key (map (λ (p : PlaceTree). p.path) places)
keys_of_paths [] = refl
keys_of_paths (p ∷ places) = ap (λ l. state_key p.path ∷ l) (keys_of_paths places)

pub states_distinct : (chart : Chart) → IsValid chart → AreDistinct (map key_of (places_of chart))
unfolding states_of
states_distinct chart valid = subst AreDistinct (sym (keys_of_paths (places_of chart) ∙ ap (map state_key) (paths_are chart))) (keys_distinct (states_of chart) (below_unique chart valid (length chart.graphs) []))

pub states_distinct_as : (chart : Chart) (places : List PlaceTree) (keys : List (List ℕ)) → IsValid chart → places ≡ places_of chart → keys ≡ map key_of places → AreDistinct keys
states_distinct_as chart places keys valid p k = subst AreDistinct (sym (k ∙ ap (map key_of) p)) (states_distinct chart valid)
