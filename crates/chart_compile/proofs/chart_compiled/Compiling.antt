-- The tables of a valid chart show it.
use Rattle.std.proofs.Common.{◌≡◌, ◌⊎◌, inl, inr, ℕ, zero, suc, ◌<◌, ◌≤◌, Bool, true, false, List, [], ◌∷◌, ◌++◌, length, map, refl, sym, ap, ◌∙◌, subst, arith, Some, option_map}
use Rattle.std.specs.Prelude.{slice_get, ◌&&◌, sum}
use Rattle.std.specs.List.{filter, list_all, AllByRecursion}
use Rattle.std.specs.Option.{option_map_or}
use Rattle.std.specs.Global.{Vec}
use Rattle.std.proofs.lemmas.Bool.{cases_lt}
use Rattle.std.proofs.lemmas.Bool.Decides.{nat_tests}
use Rattle.std.proofs.lemmas.List.{length-map}
use Rattle.std.proofs.lemmas.List.Quantifiers.{position-Some}
use Rattle.std.proofs.lemmas.Option.{slice_get-map, slice_get_past}
use lib.Pointwise.{bytes_decides}
use Rattle.action_program.specs.Numbered.{no_stmt, program_view}
use Rattle.name_tables.specs.name_numbers.Names.{same, AreDistinct}
use Rattle.chart_model.specs.chart_plan.Plan.{Kind, Simple, Border, Choice, Entry, Exit}
use Rattle.chart_model.specs.chart_plan.Same.{Each, none, more, SameKind, simple}
use Rattle.chart_model.specs.Chart.{Name, Path, State, Chart}
use Rattle.chart_model.specs.Named as named
use Rattle.chart_model.specs.Named.{Placed, Node, from, is_from_point, is_from_state, is_initial, kind_of, nodes_in, outward, state_at, tried}
use Rattle.chart_model.specs.States.{states_of}
use Rattle.chart_model.specs.Valid.{IsValid, onward}
use Rattle.chart_run.specs.chart_tables.Tables.{ArrowTree, arrow_view, arrow_views, Follows, IsSound, LeadsLower, kind, own_at, plan, row_at, shared_at, up_at}
use Rattle.chart_run.specs.declared.chart_tables.tables.Arrow.{Arrow}
use Rattle.chart_run.specs.declared.chart_tables.tables.Row.{Row}
use Rattle.chart_run.specs.declared.chart_tables.tables.Tables.{Tables}
use Rattle.chart_run.specs.ByName.{Names, IsPath, IsNode, IsTransition, Shows}
use Rattle.chart_reader.specs.chart_nodes.Keys.{codes}
use Rattle.chart_reader.specs.chart_nodes.Steps.{StepTree, steps_of}
use Rattle.chart_reader.proofs.chart_nodes.CircleLaws.{target_is}
use Rattle.chart_reader.proofs.chart_nodes.Members.{In}
use Rattle.chart_reader.proofs.chart_nodes.Onward.{from_is, initial_key, onward_is}
use Rattle.chart_reader.proofs.chart_nodes.Onward as onwards
use Rattle.chart_compile.specs.chart_places.Places.{PlaceTree, keys_of, places_of, shared_key, state_key}
use Rattle.chart_compile.proofs.chart_places.PlaceLaws.{paths_are}
use Rattle.chart_compile.specs.chart_parts.Parts.{IsArrow, IsNumber, IsRow, IsState, from_key, key_of, outer, target_of}
use Rattle.chart_compile.specs.chart_parts.Nodes.{IsFirst, is_lower, leads_lower, node_after}
use Rattle.chart_compile.specs.chart_parts.Compiled.{Compiles, IsAssembled, node_kind}
use Rattle.chart_compile.proofs.chart_compiled.Naming.{absent, arrow_named, arrows_named, each_at, each_join, each_length, each_map, each_past, get_of, item_at, names_of, none_fresh, path_at, same_named, state_named}
use Rattle.chart_compile.proofs.chart_compiled.States.{place_is, state_found}
use Rattle.chart_compile.proofs.chart_compiled.NodeKinds.{kind_from, kind_is, kind_named}
use Rattle.chart_compile.proofs.chart_numbers.Members.{In-slice_get}

-- ---- nodes lead lower

lower_is : (count n : ℕ) (a : ArrowTree) → n < count → is_lower n a ≡ true → Follows count n a
lower_is count n a h e = let below : a.target < n = grind (arith, nat_tests) in record { lower = below; known = omega arith }

both : (a b : Bool) → (a && b) ≡ true → (a ≡ true) × (b ≡ true)
both true b e = (refl, e)
both false b e = absurd cc

all_lower : (count n : ℕ) (xs : List ArrowTree) → n < count → list_all (is_lower n) xs ≡ true → AllByRecursion (Follows count n) xs
all_lower count n [] h e = tt
all_lower count n (x ∷ xs) h e = let s = both (is_lower n x) (list_all (is_lower n) xs) e in (lower_is count n x h s.0, all_lower count n xs h s.1)

kind_lower : (count n : ℕ) (k : Kind ℕ ArrowTree) → n < count → leads_lower n k ≡ true → LeadsLower count n k
kind_lower count n (Simple s) h e = tt
kind_lower count n (Border s a) h e = lower_is count n a h e
kind_lower count n (Choice bs d) h e = let s = both (list_all (is_lower n) bs) (is_lower n d) e in (all_lower count n bs h s.0, lower_is count n d h s.1)
kind_lower count n (Entry s a) h e = lower_is count n a h e
kind_lower count n (Exit s a) h e = lower_is count n a h e

-- ---- the first transition

first_of : (nodes : List (List ℕ)) (a : Arrow) (ss : List StepTree) → IsFirst nodes (Some a) ss → (s : StepTree) × (rest : List StepTree) × (ss ≡ s ∷ rest) × IsArrow nodes (arrow_view a) s
first_of nodes a [] h = absurd h
first_of nodes a (s ∷ ss) h = (s, ss, refl, h)

module _ (chart : Chart) (v : Tables) (targets : List StepTree) (valid : IsValid chart)
    (built : IsAssembled (map key_of (places_of chart)) (keys_of chart.graphs) (map target_of targets) (steps_of chart) (places_of chart) targets (sum (map nodes_in chart.graphs)) v)
    (distinct : AreDistinct (map key_of (places_of chart))) (some : 0 < length (places_of chart)) (few : length (places_of chart) ≤ 65535) where
  abbrev places : List PlaceTree
  places = places_of chart

  abbrev names : Names
  names = names_of chart (places_of chart) targets

  abbrev nodes : List (List ℕ)
  nodes = map target_of targets

  abbrev count : ℕ
  count = length v.states.items

  abbrev Known : ℕ → Path → Type 0
  Known = IsPath (length v.states.items) (names_of chart (places_of chart) targets)

  size : length v.states.items ≡ length (places_of chart)
  size = each_length built.rows

  -- the row of a state
  abbrev HasRow : ℕ → Path → Type 0
  HasRow s path = (r : Row) × (p : PlaceTree) × (row_at v s ≡ Some r) × (p.path ≡ path) × In (places_of chart) p × IsRow (map key_of (places_of chart)) (keys_of chart.graphs) (map target_of targets) (steps_of chart) r p

  has_row : (s : ℕ) (path : Path) → Known s path → HasRow s path
  has_row s path h =
      let at = each_at s (let l : s < length (places_of chart) = omega (arith, h.known, size) in l) built.rows in
      (at.0, at.1, at.2, sym (ap (λ o. option_map_or (λ (p : PlaceTree). p.path) o []) at.3) ∙ h.is, In-slice_get (places_of chart) s at.1 at.3, at.4)

  ups : (s : ℕ) (path : Path) → HasRow s path → Each Known (up_at v s) (outward path)
  ups s path (r, p, e, f, i, row) =
      subst (λ o. Each Known (option_map_or (λ (r : Row). r.up.items) o []) (outward path)) (sym e) (subst (λ q. Each Known r.up.items (outward q)) f (each_map (λ n q. state_named chart (places_of chart) targets (length v.states.items) n q size) row.up))

  the_state : (s : ℕ) (path : Path) (p : PlaceTree) → p.path ≡ path → In (places_of chart) p → state_at chart path ≡ Some p.state
  the_state s path p f i = subst (λ q. state_at chart q ≡ Some p.state) f (state_found chart p valid (place_is chart p i))

  entries : (s : ℕ) (path : Path) → HasRow s path → (plan v).entry s ≡ option_map_or (λ (d : State). d.entry) (state_at chart path) no_stmt
  entries s path (r, p, e, f, i, row) = ap (λ o. option_map_or (λ (r : Row). program_view r.entry) o no_stmt) e ∙ row.entry ∙ ap (λ o. option_map_or (λ (d : State). d.entry) o no_stmt) (sym (the_state s path p f i))

  exits : (s : ℕ) (path : Path) → HasRow s path → (plan v).exit s ≡ option_map_or (λ (d : State). d.exit) (state_at chart path) no_stmt
  exits s path (r, p, e, f, i, row) = ap (λ o. option_map_or (λ (r : Row). program_view r.exit) o no_stmt) e ∙ row.exit ∙ ap (λ o. option_map_or (λ (d : State). d.exit) o no_stmt) (sym (the_state s path p f i))

  -- arrows from the place with a key are the transitions from there
  from_place : (xs : List ArrowTree) (key : List ℕ) (ts : List Placed) → Each (IsArrow (map target_of targets)) xs (from_key key (steps_of chart)) → ts ≡ map (λ (s : StepTree). s.placed) (from_key key (steps_of chart)) → Each (IsTransition names) xs ts
  from_place xs key ts h e = subst (λ l. Each (IsTransition names) xs l) (sym e) (arrows_named chart (places_of chart) targets xs (from_key key (steps_of chart)) h)

  owns : (s : ℕ) (n : Name) (owner : Path) (r : Row) (p : PlaceTree) → row_at v s ≡ Some r → p.path ≡ n ∷ owner → IsRow (map key_of (places_of chart)) (keys_of chart.graphs) (map target_of targets) (steps_of chart) r p → Each (IsTransition names) (own_at v s) (from (is_from_state n) chart owner)
  owns s n owner r p e f row =
      subst (λ o. Each (IsTransition names) (option_map_or (λ (r : Row). arrow_views r.own.items) o []) (from (is_from_state n) chart owner)) (sym e)
      (from_place (arrow_views r.own.items) (state_key (n ∷ owner)) (from (is_from_state n) chart owner) (subst (λ q. Each (IsArrow (map target_of targets)) (arrow_views r.own.items) (from_key (state_key q) (steps_of chart))) f row.own) (from_is (is_from_state n) owner (state_key (n ∷ owner)) (onwards.state_key n owner) chart))

  graph_shared : (g : ℕ) (key : List ℕ) → IsNumber (keys_of chart.graphs) key g → (arrows : Vec Arrow) × (slice_get v.graphs.items g ≡ Some arrows) × Each (IsArrow (map target_of targets)) (arrow_views arrows.items) (from_key key (steps_of chart))
  graph_shared g key e =
      let found = position-Some (same key) (keys_of chart.graphs) g [] e in
      let at = each_at g found.0 built.shared in
      let one : key ≡ at.1 = (bytes_decides key at.1).0 (subst (λ k. same key k ≡ true) (get_of (keys_of chart.graphs) g at.1 [] at.3) found.1) in
      (at.0, at.2, subst (λ k. Each (IsArrow (map target_of targets)) (arrow_views (at.0).items) (from_key k (steps_of chart))) (sym one) at.4)

  shares : (s : ℕ) (n : Name) (owner : Path) (r : Row) (p : PlaceTree) → row_at v s ≡ Some r → p.path ≡ n ∷ owner → IsRow (map key_of (places_of chart)) (keys_of chart.graphs) (map target_of targets) (steps_of chart) r p → Each (IsTransition names) (shared_at v s) (from is_from_point chart owner)
  shares s n owner r p e f row =
      let g = graph_shared r.graph (shared_key owner) (subst (λ q. IsNumber (keys_of chart.graphs) (shared_key (outer q)) r.graph) f row.graph) in
      subst (λ l. Each (IsTransition names) l (from is_from_point chart owner)) (sym (ap (λ o. option_map_or (λ (r : Row). option_map_or (λ (arrows : Vec Arrow). arrow_views arrows.items) (slice_get v.graphs.items r.graph) []) o []) e ∙ ap (λ o. option_map_or (λ (arrows : Vec Arrow). arrow_views arrows.items) o []) g.1))
      (from_place (arrow_views (g.0).items) (shared_key owner) (from is_from_point chart owner) g.2 (from_is is_from_point owner (shared_key owner) (onwards.shared_key owner) chart))

  tries : (s : ℕ) (path : Path) → HasRow s path → Each (IsTransition names) (own_at v s ++ shared_at v s) (tried chart path)
  tries s path (r, p, e, f, i, row) =
      let is = place_is chart p i in
      let d = is.1 in
      let owner = is.0 in
      let named_ : p.path ≡ d.name ∷ owner = ap (λ (p : PlaceTree). p.path) (sym is.3) in
      subst (λ q. Each (IsTransition names) (own_at v s ++ shared_at v s) (tried chart q)) (sym named_ ∙ f) (each_join (owns s d.name owner r p e named_ row) (shares s d.name owner r p e named_ row))

  -- ---- nodes

  node_at : (n : ℕ) → n < length targets → SameKind Known (IsTransition names) (node_kind v.nodes.items n) (kind_of chart (names.nodes n))
  node_at n h =
      let at = each_at n h built.nodes_are in
      let t = at.1 in
      let node = node_after t in
      let here : node_kind v.nodes.items n ≡ kind at.0 = built.padded n ∙ ap (λ o. option_map_or kind o (Simple 0)) at.2 in
      let named_ : names.nodes n ≡ node = ap (λ o. option_map_or node_after o (absent chart (places_of chart))) at.3 in
      let steps : map (λ (s : StepTree). s.placed) (from_key (target_of t) (steps_of chart)) ≡ onward chart node =
      ap (λ k. map (λ (s : StepTree). s.placed) (from_key k (steps_of chart))) (target_is t.placed.graph t.placed.transition.target) ∙ sym (onward_is chart node)
      in
      let shown = kind_named {RS = IsState (map key_of (places_of chart))} {RS' = Known} {RT = IsArrow (map target_of targets)} {RT' = IsTransition names} (λ k q. state_named chart (places_of chart) targets (length v.states.items) k q size) (arrow_named chart (places_of chart) targets) node (from_key (target_of t) (steps_of chart)) (kind at.0) at.4 in
      let whole : kind_from node (map (λ (s : StepTree). s.placed) (from_key (target_of t) (steps_of chart))) ≡ kind_of chart (names.nodes n) = ap (kind_from node) steps ∙ kind_is chart node ∙ ap (kind_of chart) (sym named_) in
      subst (λ k. SameKind Known (IsTransition names) k (kind_of chart (names.nodes n))) (sym here) (subst (λ k. SameKind Known (IsTransition names) (kind at.0) k) whole shown)

  node_past : (n : ℕ) → length targets ≤ n → SameKind Known (IsTransition names) (node_kind v.nodes.items n) (kind_of chart (names.nodes n))
  node_past n h =
      let first : Path = path_at (places_of chart) 0 in
      let here : node_kind v.nodes.items n ≡ Simple 0 = built.padded n ∙ ap (λ o. option_map_or kind o (Simple 0)) (each_past n h built.nodes_are) in
      let away : names.nodes n ≡ (absent chart (places_of chart)) = ap (λ o. option_map_or node_after o (absent chart (places_of chart))) (slice_get_past targets n h) in
      let whole : Simple first ≡ kind_of chart (names.nodes n) =
      sym (ap (λ (b : List Placed). named.by_first first (λ d. Choice (filter named.has_condition b) d) (filter named.has_none b)) (none_fresh chart first)) ∙ ap (kind_of chart) (sym away)
      in
      subst (λ k. SameKind Known (IsTransition names) k (kind_of chart (names.nodes n))) (sym here) (subst (λ k. SameKind Known (IsTransition names) (Simple 0) k) whole (simple (record { known = omega (arith, some, size); is = refl })))

  node_is : (n : ℕ) (node : Node) → IsNode names n node → SameKind Known (IsTransition names) (node_kind v.nodes.items n) (kind_of chart node)
  node_is n node h = subst (λ m. SameKind Known (IsTransition names) (node_kind v.nodes.items n) (kind_of chart m)) h.is (split (cases_lt n (length targets)))
    where
      split : (n < length targets) ⊎ (length targets ≤ n) → SameKind Known (IsTransition names) (node_kind v.nodes.items n) (kind_of chart (names.nodes n))
      split (inl l) = node_at n l
      split (inr l) = node_past n l

  shows : Shows v names chart
  shows = record {
    same = λ a p b q h k. same_named (places_of chart) a b p q distinct (omega (arith, h.known, size)) (omega (arith, k.known, size)) h.is k.is;
    up = λ s path h. ups s path (has_row s path h);
    entry = λ s path h. entries s path (has_row s path h);
    exit = λ s path h. exits s path (has_row s path h);
    tried = λ s path h. tries s path (has_row s path h);
    triggers = λ a t h. h.triggers;
    same_event = refl;
    condition = λ a t h. h.condition;
    action = λ a t h. h.action;
    target = λ a t h. h.target;
    node = node_is;
    most = ap suc built.size;
  }

  -- ---- soundness

  known_all : (xs : List ℕ) (ps : List Path) → Each (IsState (map key_of (places_of chart))) xs ps → AllByRecursion (λ q. q < length v.states.items) xs
  known_all _ _ none = tt
  known_all _ _ (more {x} {y} r e) = ((state_named chart (places_of chart) targets (length v.states.items) x y size r).known, known_all _ _ e)

  line_split : (s : ℕ) → (s < length (places_of chart)) ⊎ (length (places_of chart) ≤ s) → AllByRecursion (λ q. q < length v.states.items) (up_at v s)
  line_split s (inl l) =
      let at = each_at s l built.rows in
      subst (λ o. AllByRecursion (λ q. q < length v.states.items) (option_map_or (λ (r : Row). r.up.items) o [])) (sym at.2) (known_all (at.0).up.items (outward (at.1).path) (at.4).up)
  line_split s (inr l) = subst (λ o. AllByRecursion (λ q. q < length v.states.items) (option_map_or (λ (r : Row). r.up.items) o [])) (sym (each_past s l built.rows)) tt

  lower_split : (n : ℕ) → (n < length v.nodes.items) ⊎ (length v.nodes.items ≤ n) → LeadsLower (length v.nodes.items) n (node_kind v.nodes.items n)
  lower_split n (inl l) = kind_lower (length v.nodes.items) n (node_kind v.nodes.items n) l (built.lower n)
  lower_split n (inr l) = subst (λ o. LeadsLower (length v.nodes.items) n (option_map_or kind o (Simple 0))) (sym (slice_get_past v.nodes.items n l)) tt

  sound : IsSound v
  sound = record { few = omega (arith, few, size); lines = λ s. line_split s (cases_lt s (length (places_of chart))); lower = λ n. lower_split n (cases_lt n (length v.nodes.items)) }

  -- ---- the whole

  states_there : (s : ℕ) → s < length v.states.items → slice_get (states_of chart) s ≡ Some (names.paths s)
  states_there s h =
      let at = item_at (places_of chart) s (let l : s < length (places_of chart) = omega (arith, h, size) in l) in
      ap (λ l. slice_get l s) (sym (paths_are chart)) ∙ slice_get-map (λ (p : PlaceTree). p.path) (places_of chart) s ∙ ap (option_map (λ (p : PlaceTree). p.path)) at.1 ∙ sym (ap (λ o. Some (option_map_or (λ (p : PlaceTree). p.path) o [])) at.1)

  pub compiled : v.values.items ≡ chart.values → Compiles v chart
  compiled values =
      let first = first_of (map target_of targets) v.initial (from_key (0 ∷ codes []) (steps_of chart)) built.first in
      let s = first.0 in
      record {
        sound = sound;
        names = names;
        shows = shows;
        count = size ∙ sym (length-map (places_of chart) (λ (p : PlaceTree). p.path)) ∙ ap length (paths_are chart);
        paths = states_there;
        start = s.placed;
        starts = (map (λ (s : StepTree). s.placed) first.1, from_is is_initial [] (0 ∷ codes []) (initial_key []) chart ∙ ap (map (λ (s : StepTree). s.placed)) first.2);
        initial = arrow_named chart (places_of chart) targets (arrow_view v.initial) s first.3;
        values = values;
      }

-- the tables as the code has made them
pub compiled_from : (chart : Chart) (v : Tables) (targets steps : List StepTree) (places : List PlaceTree) (states graphs nodes : List (List ℕ)) (count : ℕ) → IsValid chart
    → steps ≡ steps_of chart → places ≡ places_of chart → states ≡ map key_of places → graphs ≡ keys_of chart.graphs → nodes ≡ map target_of targets → count ≡ sum (map nodes_in chart.graphs)
    → IsAssembled states graphs nodes steps places targets count v → AreDistinct states → 0 < length places → length places ≤ 65535 → v.values.items ≡ chart.values → Compiles v chart
compiled_from chart v targets steps found states graphs keys_of_nodes count valid es ps ks kg kn c built distinct some few values =
    let keys : states ≡ map key_of (places_of chart) = ks ∙ ap (map key_of) ps in
    compiled chart v targets valid
    (subst (λ n. IsAssembled (map key_of (places_of chart)) (keys_of chart.graphs) (map target_of targets) (steps_of chart) (places_of chart) targets n v) c
    (subst (λ k. IsAssembled (map key_of (places_of chart)) (keys_of chart.graphs) k (steps_of chart) (places_of chart) targets count v) kn
    (subst (λ k. IsAssembled (map key_of (places_of chart)) k keys_of_nodes (steps_of chart) (places_of chart) targets count v) kg
    (subst (λ k. IsAssembled k graphs keys_of_nodes (steps_of chart) (places_of chart) targets count v) keys (subst (λ e. IsAssembled states graphs keys_of_nodes e (places_of chart) targets count v) es (subst (λ p. IsAssembled states graphs keys_of_nodes steps p targets count v) ps built))))))
    (subst AreDistinct keys distinct) (subst (λ (p : List PlaceTree). 0 < length p) ps some) (subst (λ (p : List PlaceTree). length p ≤ 65535) ps few) values
