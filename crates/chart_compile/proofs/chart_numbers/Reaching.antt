-- In a chart whose graphs are those of its states each state and each graph has a number, and each step stands in a graph that counts.
use Rattle.std.proofs.Common.{◌≡◌, ◌⊎◌, inl, inr, ℕ, zero, suc, ◌+◌, ◌-◌, ◌<◌, ◌≤◌, Bool, true, false, cond, List, [], ◌∷◌, ◌++◌, length, map, refl, sym, ap, ◌∙◌, subst, arith, Option, Some, None}
use Rattle.std.specs.Prelude.{◌||◌, nat_le}
use Rattle.std.specs.List.{flat_map}
use Rattle.std.specs.Option.{option_map_or}
use Rattle.std.proofs.lemmas.Bool.Decides.{nat_tests}
use Rattle.std.proofs.lemmas.List.{length-map}
use Rattle.std.proofs.lemmas.List.Folds.{list_any-append}
use lib.Pointwise.{bytes_decides}
use Rattle.name_tables.specs.name_numbers.Names.{same, is_among}
use Rattle.chart_model.specs.Chart.{Name, Path, Transition, State, Graph, Chart}
use Rattle.chart_model.specs.Named.{first, graph_at, same_name, same_path}
use Rattle.chart_model.specs.States.{states_below, states_of}
use Rattle.chart_model.specs.Valid.{has_state}
use Rattle.chart_reader.specs.Whole.{AreOfStates}
use Rattle.chart_reader.specs.chart_nodes.Keys.{codes}
use Rattle.chart_reader.specs.chart_nodes.Steps.{StepTree, step_of, steps_in, steps_behind}
use Rattle.chart_reader.proofs.chart_nodes.Members.{In, In_any, any_In}
use Rattle.chart_reader.proofs.chart_nodes.Onward.{path_is, path_own}
use Rattle.chart_compile.specs.chart_places.Places.{PlaceTree, keys_of, places_of, shared_key, state_key}
use Rattle.chart_compile.specs.chart_parts.Parts.{ArePlaced, HasShortNumber, HasNumber, HaveShortNumbers, LeadTo, key_of, outer}
use Rattle.chart_compile.specs.chart_numbers.Order.{AllNumbered}
use Rattle.chart_compile.specs.Joined.{AreKeyed}
use Rattle.chart_compile.proofs.chart_places.PlaceLaws.{owner_is, paths_are}
use Rattle.chart_compile.proofs.chart_numbers.Counting.{In-map, In_whole, of_graph}
use Rattle.chart_reader.proofs.NestedGraphs.{In-first, In_append}
use Rattle.chart_compile.proofs.chart_numbers.Distinct.{In_parts, keys_of_paths}
use Rattle.chart_compile.proofs.chart_numbers.Members.{In-slice_get}
use Rattle.chart_compile.proofs.chart_numbers.Ordering.{key_own, number_among}

-- ---- a state of a graph is among all states

-- the state with a name
has_In : (g : Graph) (n : Name) → has_state g n ≡ true → (s : State) × In g.states s × (s.name ≡ n)
has_In g n e = let r = any_In (λ (d : State). same_name d.name n) g.states e in (r.0, r.1, (bytes_decides r.0.name n).0 r.2)

abbrev line_of : Chart → ℕ → Path → State → List Path
line_of chart n owner s = (s.name ∷ owner) ∷ states_below chart n (s.name ∷ owner)

-- a state of a graph and those inside it are among those in the graph
line : (chart : Chart) (n : ℕ) (owner : Path) (g : Graph) (s : State) (path : Path) → graph_at chart owner ≡ Some g → In g.states s → In (line_of chart n owner s) path → In (states_below chart (suc n) owner) path
unfolding states_below
line chart n owner g s path e i h =
    subst (λ (o : Option Graph). In (flat_map (line_of chart n owner) (option_map_or (λ (g : Graph). g.states) o [])) path) (sym e) (In_whole (line_of chart n owner) g.states s path i h)

-- the states inside a state are among all, if graphs are looked into deep enough
climb : (chart : Chart) → AreOfStates chart → (owner : Path) (g : Graph) → graph_at chart owner ≡ Some g → (m : ℕ) (path : Path) → In (states_below chart (suc m) owner) path → In (states_below chart (length owner + suc m) []) path
climb chart f [] g e m path h = let same_depth : suc m ≡ 0 + suc m = omega arith in subst (λ n. In (states_below chart n []) path) same_depth h
climb chart f (s ∷ owner) g e m path h =
    let r = f s owner g e in
    let d = has_In r.0 s r.2 in
    let up : In (states_below chart (suc (suc m)) owner) path = line chart (suc m) owner r.0 d.0 path r.1 d.1 (inr (subst (λ n. In (states_below chart (suc m) (n ∷ owner)) path) (sym d.2) h)) in
    let same_depth : length owner + suc (suc m) ≡ suc (length owner) + suc m = omega arith in
    subst (λ n. In (states_below chart n []) path) same_depth (climb chart f owner r.0 r.1 (suc m) path up)

-- how many items pass a test
count : {A : Type 0} → (A → Bool) → List A → ℕ
count p [] = 0
count p (x ∷ xs) = cond (p x) 1 0 + count p xs

one_more : (a b : Bool) → (a ≡ true → b ≡ true) → cond a 1 0 ≤ cond b 1 0
one_more false false f = omega arith
one_more false true f = omega arith
one_more true false f = absurd (let e : false ≡ true = f refl in cc)
one_more true true f = omega arith

one_less : (a : Bool) → cond a 1 0 ≤ 1
one_less false = omega arith
one_less true = omega arith

count_all : {A : Type 0} (p : A → Bool) (xs : List A) → count p xs ≤ length xs
unfolding count
count_all p [] = omega arith
count_all p (x ∷ xs) = omega (arith, one_less (p x), count_all p xs)

count_more : {A : Type 0} (p q : A → Bool) (xs : List A) → ((x : A) → p x ≡ true → q x ≡ true) → count p xs ≤ count q xs
unfolding count
count_more p q [] f = omega arith
count_more p q (x ∷ xs) f = omega (arith, one_more (p x) (q x) (f x), count_more p q xs f)

count_one : {A : Type 0} (p : A → Bool) (xs : List A) (y : A) → In xs y → p y ≡ true → 0 < count p xs
unfolding count
count_one p [] y h e = absurd h
count_one p (x ∷ xs) y (inl s) e = let t : p x ≡ true = subst (λ z. p z ≡ true) (sym s) e in rw t (omega arith)
count_one p (x ∷ xs) y (inr h) e = omega (arith, count_one p xs y h e)

count_new : {A : Type 0} (p q : A → Bool) (xs : List A) (y : A) → ((x : A) → p x ≡ true → q x ≡ true) → In xs y → p y ≡ false → q y ≡ true → count p xs < count q xs
unfolding count
count_new p q [] y f h e t = absurd h
count_new p q (x ∷ xs) y f (inl s) e t =
    let no : p x ≡ false = subst (λ z. p z ≡ false) (sym s) e in
    let yes : q x ≡ true = subst (λ z. q z ≡ true) (sym s) t in
    let rest = count_more p q xs f in
    rw (no, yes) (omega (arith, rest))
count_new p q (x ∷ xs) y f (inr h) e t = omega (arith, one_more (p x) (q x) (f x), count_new p q xs y f h e t)

abbrev is_within : ℕ → Graph → Bool
is_within n g = nat_le (length g.owner) n

-- there are more graphs than names in the path of one of them
deep : (chart : Chart) → AreOfStates chart → (owner : Path) (g : Graph) → graph_at chart owner ≡ Some g → length owner < count (is_within (length owner)) chart.graphs
deep chart f [] g e =
    let here : length g.owner ≡ 0 = ap length (owner_is chart [] g e) in
    let yes : nat_le (length g.owner) 0 ≡ true = grind (arith, nat_tests) in
    count_one (is_within 0) chart.graphs g (In-first (λ (g : Graph). same_path g.owner []) chart.graphs g e) yes
deep chart f (s ∷ owner) g e =
    let r = f s owner g e in
    let before = deep chart f owner r.0 r.1 in
    let here : length g.owner ≡ suc (length owner) = ap length (owner_is chart (s ∷ owner) g e) in
    let no : nat_le (length g.owner) (length owner) ≡ false = grind (arith, nat_tests) in
    let yes : nat_le (length g.owner) (suc (length owner)) ≡ true = grind (arith, nat_tests) in
    let more = count_new (is_within (length owner)) (is_within (suc (length owner))) chart.graphs g (deeper (length owner)) (In-first (λ (g : Graph). same_path g.owner (s ∷ owner)) chart.graphs g e) no yes in
    omega (arith, before, more)
  where
    deeper : (n : ℕ) (x : Graph) → is_within n x ≡ true → is_within (suc n) x ≡ true
    deeper n x h = grind (arith, nat_tests)

pub reached : (chart : Chart) → AreOfStates chart → (owner : Path) (g : Graph) (n : Name) → graph_at chart owner ≡ Some g → has_state g n ≡ true → In (states_of chart) (n ∷ owner)
unfolding states_of
reached chart f owner g n e t =
    let enough : length owner < length chart.graphs = omega (arith, deep chart f owner g e, count_all (is_within (length owner)) chart.graphs) in
    let m = length chart.graphs - length owner - 1 in
    let depth : length owner + suc m ≡ length chart.graphs = omega (arith, enough) in
    let d = has_In g n t in
    subst (λ k. In (states_below chart k []) (n ∷ owner)) depth (climb chart f owner g e m (n ∷ owner) (line chart m owner g d.0 (n ∷ owner) e d.1 (inl (ap (λ x. x ∷ owner) d.2))))

-- the state that has the graph at a path
pub reached_owner : (chart : Chart) → AreOfStates chart → (owner : Path) (g : Graph) → graph_at chart owner ≡ Some g → 0 < length owner → In (states_of chart) owner
reached_owner chart f [] g e l = absurd (omega arith)
reached_owner chart f (s ∷ owner) g e l = let r = f s owner g e in reached chart f owner r.0 s r.1 r.2

-- ---- where states stand

some_graph : (o : Option Graph) (s : State) → In (option_map_or (λ (g : Graph). g.states) o []) s → (g : Graph) × (o ≡ Some g)
some_graph None s h = absurd h
some_graph (Some g) s h = (g, refl)

-- a state stands in a graph, which is the outermost or that of a state
abbrev Stands : Chart → ℕ → Path → Path → Type 0
Stands chart n owner path = (s : Name) × (outside : Path) × (g : Graph) × (path ≡ s ∷ outside) × (graph_at chart outside ≡ Some g) × ((outside ≡ owner) ⊎ In (states_below chart n owner) outside)

stands : (chart : Chart) (n : ℕ) (owner path : Path) → In (states_below chart n owner) path → Stands chart n owner path
unfolding states_below
stands chart zero owner path h = absurd h
stands chart (suc n) owner path h =
    let all = option_map_or (λ (g : Graph). g.states) (graph_at chart owner) [] in
    let r = In_parts (line_of chart n owner) all path h in
    let g = some_graph (graph_at chart owner) r.0 r.1 in
    elim r.2 [
      | inl e ↦ (r.0.name, owner, g.0, sym e, g.1, inl refl)
      | inr i ↦ (let q = stands chart n (r.0.name ∷ owner) path i in (
        q.0,
        q.1,
        q.2,
        q.3,
        q.4,
        elim q.5 [
          | inl e ↦ inr (In_whole (line_of chart n owner) all r.0 q.1 r.1 (inl (sym e)))
          | inr j ↦ inr (In_whole (line_of chart n owner) all r.0 q.1 r.1 (inr j))
        ],
      ))
    ]

-- ---- numbers

pub has_number : (keys : List (List ℕ)) (key : List ℕ) → is_among keys key ≡ true → HasNumber keys key
has_number keys key e = let r = number_among keys key e in (r.0, r.1)

pub has_short_number : (keys : List (List ℕ)) (key : List ℕ) → is_among keys key ≡ true → length keys ≤ 65535 → HasShortNumber keys key
has_short_number keys key e few = let r = number_among keys key e in (r.0, r.1, omega (arith, r.2, few))

-- each step leads to a node with a number
pub lead_to : (steps : List StepTree) (keys : List (List ℕ)) → AllNumbered steps keys → AreKeyed steps → LeadTo keys steps
lead_to steps keys all keyed = λ i s e. has_number keys _ (subst (λ k. is_among keys k ≡ true) (keyed i s e) (all i s e))

module _ (chart : Chart) (places : List PlaceTree) (states graphs : List (List ℕ)) (p : places ≡ places_of chart) (k : states ≡ map key_of places) (gk : graphs ≡ keys_of chart.graphs) (few : length places ≤ 65535) where
  keys_are : states ≡ map state_key (states_of chart)
  keys_are = k ∙ ap (map key_of) p ∙ keys_of_paths (places_of chart) ∙ ap (map state_key) (paths_are chart)

  pub state_numbered : (path : Path) → In (states_of chart) path → HasShortNumber states (state_key path)
  state_numbered path h =
      let there : In states (state_key path) = subst (λ (l : List (List ℕ)). In l (state_key path)) (sym keys_are) (In-map state_key (states_of chart) path h) in
      has_short_number states (state_key path) (In_any (same (state_key path)) states (state_key path) there (key_own (state_key path))) (omega (arith, ap length k, length-map places key_of, few))

  graph_numbered : (path : Path) (g : Graph) → graph_at chart path ≡ Some g → HasNumber graphs (shared_key path)
  graph_numbered path g e =
      let i : In chart.graphs g = In-first (λ (g : Graph). same_path g.owner path) chart.graphs g e in
      let there : In graphs (shared_key path) =
      subst (λ (l : List (List ℕ)). In l (shared_key path)) (sym gk) (subst (λ q. In (keys_of chart.graphs) (shared_key q)) (owner_is chart path g e) (In-map (λ (g : Graph). shared_key g.owner) chart.graphs g i))
      in
      has_number graphs (shared_key path) (In_any (same (shared_key path)) graphs (shared_key path) there (key_own (shared_key path)))

  up_numbered : (path : Path) → In (states_of chart) path → HaveShortNumbers states path
  unfolding states_of
  up_numbered [] h = tt
  up_numbered (s ∷ owner) h =
      let r = stands chart (length chart.graphs) [] (s ∷ owner) h in
      let own : owner ≡ r.1 = (let e : s ∷ owner ≡ r.0 ∷ r.1 = r.3 in cc) in
      (state_numbered (s ∷ owner) h, elim r.5 [ inl e ↦ subst (HaveShortNumbers states) (sym (own ∙ e)) tt | inr j ↦ up_numbered owner (subst (In (states_below chart (length chart.graphs) [])) (sym own) j) ])

  path_placed : (path : Path) → In (states_of chart) path → HasNumber graphs (shared_key (outer path))
  unfolding states_of
  path_placed [] h = let r = stands chart (length chart.graphs) [] [] h in absurd (let e : [] ≡ r.0 ∷ r.1 = r.3 in cc)
  path_placed (s ∷ owner) h =
      let r = stands chart (length chart.graphs) [] (s ∷ owner) h in
      let own : owner ≡ r.1 = (let e : s ∷ owner ≡ r.0 ∷ r.1 = r.3 in cc) in
      graph_numbered owner r.2 (subst (λ q. graph_at chart q ≡ Some r.2) (sym own) r.4)

  pub are_placed : ArePlaced states graphs places
  are_placed = λ i q e.
      let there : In (states_of chart) q.path =
      subst (λ (l : List Path). In l q.path) (ap (map (λ (x : PlaceTree). x.path)) p ∙ paths_are chart) (In-map (λ (x : PlaceTree). x.path) places q (In-slice_get places i q e))
      in
      record { up = up_numbered q.path there; graph = path_placed q.path there }

-- ---- the graph of a step is the first at its path

abbrev pub IsFirstStep : List (List ℕ) → List Graph → StepTree → Type 0
IsFirstStep seen graphs s =
    (g : Graph) × (t : Transition) × (first (λ (g : Graph). same_path g.owner s.placed.graph) graphs ≡ Some g) × In g.transitions t × (step_of g.owner t ≡ s) × (is_among seen (codes s.placed.graph) ≡ false)

or_none : (a b : Bool) → (a || (b || false)) ≡ false → (a ≡ false) × (b ≡ false)
or_none false false e = (refl, refl)
or_none false true e = absurd cc
or_none true b e = absurd cc

elsewhere : (p q : Path) (b : Bool) → same_path p q ≡ b → (p ≡ q → ⊥) → same_path p q ≡ false
elsewhere p q false e apart = e
elsewhere p q true e apart = absurd (apart (path_is p q e))

module _ (seen : List (List ℕ)) (g : Graph) (gs : List Graph) (s : StepTree) (again : In (steps_behind seen gs) s → IsFirstStep seen gs s) (again' : In (steps_behind (seen ++ codes g.owner ∷ []) gs) s → IsFirstStep (seen ++ codes g.owner ∷ []) gs s) where
  later : (g.owner ≡ s.placed.graph → ⊥) → is_among seen (codes s.placed.graph) ≡ false → (q : List (List ℕ)) → IsFirstStep q gs s → IsFirstStep seen (g ∷ gs) s
  later apart new q r =
      (r.0, r.1, ap (λ b. cond b (Some g) (first (λ (g : Graph). same_path g.owner s.placed.graph) gs)) (elsewhere g.owner s.placed.graph (same_path g.owner s.placed.graph) refl apart) ∙ r.2, r.3, r.4, new)

  step_split : (b : Bool) → is_among seen (codes g.owner) ≡ b → In (cond b (steps_behind seen gs) (steps_in g ++ steps_behind (seen ++ codes g.owner ∷ []) gs)) s → IsFirstStep seen (g ∷ gs) s
  step_split true e h =
      let r = again h in
      later (λ one. let no : is_among seen (codes g.owner) ≡ false = subst (λ q. is_among seen (codes q) ≡ false) (sym one) r.5 in cc) r.5 seen r
  step_split false e h =
      elim (In_append (steps_in g) (steps_behind (seen ++ codes g.owner ∷ []) gs) s h) [
        | inl i ↦ (let r = of_graph g.owner g.transitions s i in
            let own : g.owner ≡ s.placed.graph = ap (λ (x : StepTree). x.placed.graph) r.2 in
            let yes : same_path g.owner s.placed.graph ≡ true = subst (λ q. same_path g.owner q ≡ true) own (path_own g.owner) in
            (g, r.0, ap (λ b. cond b (Some g) (first (λ (g : Graph). same_path g.owner s.placed.graph) gs)) yes, r.1, r.2, subst (λ q. is_among seen (codes q) ≡ false) own e))
        | inr i ↦ (let r = again' i in
            let both = or_none (is_among seen (codes s.placed.graph)) (same (codes s.placed.graph) (codes g.owner)) (sym (list_any-append (same (codes s.placed.graph)) seen (codes g.owner ∷ [])) ∙ r.5) in
            later (λ one. let yes : same (codes s.placed.graph) (codes g.owner) ≡ true = subst (λ q. same (codes s.placed.graph) (codes q) ≡ true) (sym one) (key_own (codes s.placed.graph)) in let no = both.1 in cc) both.0 (seen ++ codes g.owner ∷ []) r)
      ]

pub step_first : (seen : List (List ℕ)) (graphs : List Graph) (s : StepTree) → In (steps_behind seen graphs) s → IsFirstStep seen graphs s
unfolding steps_behind
step_first seen [] s h = absurd h
step_first seen (g ∷ gs) s h = step_split seen g gs s (step_first seen gs s) (step_first (seen ++ codes g.owner ∷ []) gs s) (is_among seen (codes g.owner)) refl h
