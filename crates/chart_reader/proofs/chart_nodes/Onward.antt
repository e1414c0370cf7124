-- The transitions from a place are the steps with its key.
use Rattle.std.proofs.Common.{◌≡◌, ℕ, Bool, true, false, cond, List, [], ◌∷◌, ◌++◌, map, refl, sym, ap, ◌∙◌, subst, Option, Some}
use Rattle.std.specs.Prelude.{◌||◌, ◌&&◌}
use Rattle.std.specs.List.{filter}
use Rattle.std.specs.Option.{option_map_or}
use Rattle.std.proofs.lemmas.List.{append-nil}
use Rattle.std.proofs.lemmas.List.Elements.{filter-append}
use Rattle.std.proofs.lemmas.List.Folds.{list_any-append}
use lib.Pointwise.{bytes_decides, pointwise_decides}
use Rattle.name_tables.specs.name_numbers.Names.{same, is_among}
use Rattle.chart_model.specs.Chart.{Name, Path, Source, initial, from_state, from_point, from_choice, from_entry, from_exit, Transition, Graph, Chart}
use Rattle.chart_model.specs.Named.{same_name, same_path, Placed, Node, a_state, a_choice, an_entry, an_exit, first, from, is_initial, is_from_state, is_from_point, is_from_choice, is_from_entry, is_from_exit}
use Rattle.chart_model.specs.Valid.{onward}
use Rattle.chart_reader.specs.chart_nodes.Keys.{codes, origin_key, node_key}
use Rattle.chart_reader.specs.chart_nodes.Steps.{StepTree, step_of, steps_in, steps_behind, steps_of}
use Rattle.chart_reader.proofs.chart_nodes.KeyLaws.{same_codes}

pub path_is : (p q : Path) → same_path p q ≡ true → p ≡ q
path_is p q = (pointwise_decides bytes_decides p q).0

pub path_own : (p : Path) → same_path p p ≡ true
path_own p = (pointwise_decides bytes_decides p p).1 refl

same_back : (p q : Path) → same_path p q ≡ false → same_path q p ≡ false
same_back p q e = split (same_path q p) refl
  where
    split : (b : Bool) → same_path q p ≡ b → same_path q p ≡ false
    split false f = f
    split true f = let own : same_path p q ≡ true = subst (λ r. same_path r q ≡ true) (path_is q p f) (path_own q) in absurd cc

or_true : (b : Bool) → (b || true) ≡ true
or_true true = refl
or_true false = refl

module _ (test : Source → Bool) (path : Path) (key : List ℕ) (keyed : (g : Path) (s : Source) → same (origin_key g s) key ≡ (test s && same_path g path)) where
  abbrev pub has_key : StepTree → Bool
  has_key s = same s.origin key

  abbrev at_path : List Transition → List Placed
  at_path ts = map (λ (t : Transition). record { graph = path; transition = t }) (filter (λ (t : Transition). test t.source) ts)

  other_split : (g : Path) (t : Transition) (ts : List Transition) (b : Bool) → filter has_key (map (step_of g) ts) ≡ [] → cond (b && false) (step_of g t ∷ filter has_key (map (step_of g) ts)) (filter has_key (map (step_of g) ts)) ≡ []
  other_split g t ts true e = e
  other_split g t ts false e = e

  -- no step of another graph has the key
  in_other : (g : Path) (ts : List Transition) → same_path g path ≡ false → filter has_key (map (step_of g) ts) ≡ []
  in_other g [] e = refl
  in_other g (t ∷ ts) e = rw (keyed g t.source, e) (other_split g t ts (test t.source) (in_other g ts e))

  own_split : (t : Transition) (ts : List Transition) (b : Bool) → map (λ (s : StepTree). s.placed) (filter has_key (map (step_of path) ts)) ≡ at_path ts
      → map (λ (s : StepTree). s.placed) (cond (b && true) (step_of path t ∷ filter has_key (map (step_of path) ts)) (filter has_key (map (step_of path) ts))) ≡ map (λ (t : Transition). record { graph = path; transition = t }) (cond b (t ∷ filter (λ (t : Transition). test t.source) ts) (filter (λ (t : Transition). test t.source) ts))
  own_split t ts true e = ap (λ l. record { graph = path; transition = t } ∷ l) e
  own_split t ts false e = e

  in_own : (ts : List Transition) → map (λ (s : StepTree). s.placed) (filter has_key (map (step_of path) ts)) ≡ at_path ts
  in_own [] = refl
  in_own (t ∷ ts) = rw (keyed path t.source, path_own path) (own_split t ts (test t.source) (in_own ts))

  -- ---- graph by graph

  abbrev seen_with : List (List ℕ) → Graph → List (List ℕ)
  seen_with seen g = seen ++ codes g.owner ∷ []

  still_seen : (seen : List (List ℕ)) (g : Graph) → is_among seen (codes path) ≡ true → is_among (seen_with seen g) (codes path) ≡ true
  still_seen seen g e = list_any-append (same (codes path)) seen (codes g.owner ∷ []) ∙ ap (λ b. b || (same (codes path) (codes g.owner) || false)) e

  still_new : (seen : List (List ℕ)) (g : Graph) → is_among seen (codes path) ≡ false → same_path g.owner path ≡ false → is_among (seen_with seen g) (codes path) ≡ false
  still_new seen g e other = list_any-append (same (codes path)) seen (codes g.owner ∷ []) ∙ ap (λ b. b || (same (codes path) (codes g.owner) || false)) e ∙ ap (λ b. b || false) (same_codes path g.owner ∙ same_back g.owner path other)

  now_seen : (seen : List (List ℕ)) (g : Graph) → g.owner ≡ path → is_among (seen_with seen g) (codes path) ≡ true
  now_seen seen g e =
      list_any-append (same (codes path)) seen (codes g.owner ∷ []) ∙ ap (λ b. is_among seen (codes path) || (b || false)) (same_codes path g.owner ∙ ap (λ r. same_path path r) e ∙ path_own path) ∙ or_true (is_among seen (codes path))

  -- a graph that was seen is no longer to come
  other_than : (seen : List (List ℕ)) (g : Graph) (b : Bool) → is_among seen (codes path) ≡ true → is_among seen (codes g.owner) ≡ false → same_path g.owner path ≡ b → b ≡ false
  other_than seen g true e n s = let u : is_among seen (codes g.owner) ≡ true = ap (λ r. is_among seen (codes r)) (path_is g.owner path s) ∙ e in absurd cc
  other_than seen g false e n s = refl

  none_split : (seen : List (List ℕ)) (g : Graph) (gs : List Graph) (b : Bool) → is_among seen (codes g.owner) ≡ b → is_among seen (codes path) ≡ true → filter has_key (steps_behind seen gs) ≡ [] → filter has_key (steps_behind (seen_with seen g) gs) ≡ []
      → filter has_key (cond b (steps_behind seen gs) (steps_in g ++ steps_behind (seen_with seen g) gs)) ≡ []
  none_split seen g gs true s e old new = old
  none_split seen g gs false s e old new =
      let other : same_path g.owner path ≡ false = other_than seen g (same_path g.owner path) e s refl in
      filter-append has_key (steps_in g) (steps_behind (seen_with seen g) gs) ∙ ap (λ l. l ++ filter has_key (steps_behind (seen_with seen g) gs)) (in_other g.owner g.transitions other) ∙ new

  none_left : (seen : List (List ℕ)) (gs : List Graph) → is_among seen (codes path) ≡ true → filter has_key (steps_behind seen gs) ≡ []
  unfolding steps_behind
  none_left seen [] e = refl
  none_left seen (g ∷ gs) e = none_split seen g gs (is_among seen (codes g.owner)) refl e (none_left seen gs e) (none_left (seen_with seen g) gs (still_seen seen g e))

  abbrev placed_at : Option Graph → List Placed
  placed_at o = at_path (option_map_or (λ (g : Graph). g.transitions) o [])

  abbrev placed_of : List StepTree → List Placed
  placed_of steps = map (λ (s : StepTree). s.placed) (filter has_key steps)

  own_graph : (g : Graph) → g.owner ≡ path → placed_of (steps_in g) ≡ at_path g.transitions
  own_graph g e = ap (λ o. placed_of (map (step_of o) g.transitions)) e ∙ in_own g.transitions

  new_split : (seen : List (List ℕ)) (g : Graph) (gs : List Graph) (b own : Bool) → is_among seen (codes g.owner) ≡ b → same_path g.owner path ≡ own → is_among seen (codes path) ≡ false
      → (own ≡ false → placed_of (steps_behind seen gs) ≡ placed_at (first (λ (g : Graph). same_path g.owner path) gs))
      → (own ≡ false → placed_of (steps_behind (seen_with seen g) gs) ≡ placed_at (first (λ (g : Graph). same_path g.owner path) gs))
      → placed_of (cond b (steps_behind seen gs) (steps_in g ++ steps_behind (seen_with seen g) gs)) ≡ placed_at (cond own (Some g) (first (λ (g : Graph). same_path g.owner path) gs))
  new_split seen g gs true true s o e old new = let u : is_among seen (codes g.owner) ≡ false = ap (λ r. is_among seen (codes r)) (path_is g.owner path o) ∙ e in absurd cc
  new_split seen g gs true false s o e old new = old refl
  new_split seen g gs false true s o e old new =
      let is = path_is g.owner path o in
      ap (λ l. map (λ (s : StepTree). s.placed) l) (filter-append has_key (steps_in g) (steps_behind (seen_with seen g) gs) ∙ ap (λ l. filter has_key (steps_in g) ++ l) (none_left (seen_with seen g) gs (now_seen seen g is)) ∙ append-nil (filter has_key (steps_in g))) ∙ own_graph g is
  new_split seen g gs false false s o e old new =
      ap (λ l. map (λ (s : StepTree). s.placed) l) (filter-append has_key (steps_in g) (steps_behind (seen_with seen g) gs) ∙ ap (λ l. l ++ filter has_key (steps_behind (seen_with seen g) gs)) (in_other g.owner g.transitions o)) ∙ new refl

  all_left : (seen : List (List ℕ)) (gs : List Graph) → is_among seen (codes path) ≡ false → placed_of (steps_behind seen gs) ≡ placed_at (first (λ (g : Graph). same_path g.owner path) gs)
  unfolding steps_behind
  all_left seen [] e = refl
  all_left seen (g ∷ gs) e = new_split seen g gs (is_among seen (codes g.owner)) (same_path g.owner path) refl refl e (λ o. all_left seen gs e) (λ o. all_left (seen_with seen g) gs (still_new seen g e o))

  -- the transitions from a place are the steps with its key
  pub from_is : (chart : Chart) → from test chart path ≡ map (λ (s : StepTree). s.placed) (filter has_key (steps_of chart))
  from_is chart = sym (all_left [] chart.graphs refl)

-- ---- where no transition begins

none_there : (key : List ℕ) → ((g : Path) (s : Source) → same (origin_key g s) key ≡ false) → (g : Path) (ts : List Transition) → filter (λ (s : StepTree). same s.origin key) (map (step_of g) ts) ≡ []
none_there key never g [] = refl
none_there key never g (t ∷ ts) = rw (never g t.source) (none_there key never g ts)

none_split_at : (key : List ℕ) (b : Bool) (xs ys zs : List StepTree) → filter (λ (s : StepTree). same s.origin key) xs ≡ [] → filter (λ (s : StepTree). same s.origin key) ys ≡ [] → filter (λ (s : StepTree). same s.origin key) zs ≡ [] → filter (λ (s : StepTree). same s.origin key) (cond b xs (ys ++ zs)) ≡ []
none_split_at key true xs ys zs ex ey ez = ex
none_split_at key false xs ys zs ex ey ez = filter-append (λ (s : StepTree). same s.origin key) ys zs ∙ ap (λ l. l ++ filter (λ (s : StepTree). same s.origin key) zs) ey ∙ ez

none_behind : (key : List ℕ) → ((g : Path) (s : Source) → same (origin_key g s) key ≡ false) → (seen : List (List ℕ)) (gs : List Graph) → filter (λ (s : StepTree). same s.origin key) (steps_behind seen gs) ≡ []
unfolding steps_behind
none_behind key never seen [] = refl
none_behind key never seen (g ∷ gs) =
    none_split_at key (is_among seen (codes g.owner)) (steps_behind seen gs) (steps_in g) (steps_behind (seen ++ codes g.owner ∷ []) gs) (none_behind key never seen gs) (none_there key never g.owner g.transitions) (none_behind key never (seen ++ codes g.owner ∷ []) gs)

-- ---- the kinds of places

and_assoc : (a b c : Bool) → (a && (b && c)) ≡ ((a && b) && c)
and_assoc true b c = refl
and_assoc false b c = refl

pub initial_key : (path g : Path) (s : Source) → same (origin_key g s) (0 ∷ codes path) ≡ (is_initial s && same_path g path)
initial_key path g initial = same_codes g path
initial_key path g (from_state r) = refl
initial_key path g (from_point p) = refl
initial_key path g (from_choice d) = refl
initial_key path g (from_entry d) = refl
initial_key path g (from_exit y r) = refl

pub state_key : (n : Name) (path g : Path) (s : Source) → same (origin_key g s) (1 ∷ codes (n ∷ path)) ≡ (is_from_state n s && same_path g path)
state_key n path g initial = refl
state_key n path g (from_state r) = same_codes (r ∷ g) (n ∷ path)
state_key n path g (from_point p) = refl
state_key n path g (from_choice d) = refl
state_key n path g (from_entry d) = refl
state_key n path g (from_exit y r) = refl

pub shared_key : (path g : Path) (s : Source) → same (origin_key g s) (2 ∷ codes path) ≡ (is_from_point s && same_path g path)
shared_key path g initial = refl
shared_key path g (from_state r) = refl
shared_key path g (from_point p) = same_codes g path
shared_key path g (from_choice d) = refl
shared_key path g (from_entry d) = refl
shared_key path g (from_exit y r) = refl

pub choice_key : (c : Name) (path g : Path) (s : Source) → same (origin_key g s) (3 ∷ codes (c ∷ path)) ≡ (is_from_choice c s && same_path g path)
choice_key c path g initial = refl
choice_key c path g (from_state r) = refl
choice_key c path g (from_point p) = refl
choice_key c path g (from_choice d) = same_codes (d ∷ g) (c ∷ path)
choice_key c path g (from_entry d) = refl
choice_key c path g (from_exit y r) = refl

pub entry_key : (e : Name) (path g : Path) (s : Source) → same (origin_key g s) (4 ∷ codes (e ∷ path)) ≡ (is_from_entry e s && same_path g path)
entry_key e path g initial = refl
entry_key e path g (from_state r) = refl
entry_key e path g (from_point p) = refl
entry_key e path g (from_choice d) = refl
entry_key e path g (from_entry d) = same_codes (d ∷ g) (e ∷ path)
entry_key e path g (from_exit y r) = refl

pub exit_key : (x n : Name) (path g : Path) (s : Source) → same (origin_key g s) (5 ∷ codes (x ∷ n ∷ path)) ≡ (is_from_exit x n s && same_path g path)
exit_key x n path g initial = refl
exit_key x n path g (from_state r) = refl
exit_key x n path g (from_point p) = refl
exit_key x n path g (from_choice d) = refl
exit_key x n path g (from_entry d) = refl
exit_key x n path g (from_exit y r) = same_codes (y ∷ r ∷ g) (x ∷ n ∷ path) ∙ and_assoc (same_name y x) (same_name r n) (same_path g path)

and_none : (b : Bool) → (b && false) ≡ false
and_none true = refl
and_none false = refl

top_exit_key : (x : Name) (g : Path) (s : Source) → same (origin_key g s) (5 ∷ codes (x ∷ [])) ≡ false
top_exit_key x g initial = refl
top_exit_key x g (from_state r) = refl
top_exit_key x g (from_point p) = refl
top_exit_key x g (from_choice d) = refl
top_exit_key x g (from_entry d) = refl
top_exit_key x g (from_exit y r) = same_codes (y ∷ r ∷ g) (x ∷ []) ∙ and_none (same_name y x)

-- the transitions at which a chain goes on at a node are the steps with its key
pub onward_is : (chart : Chart) (n : Node) → onward chart n ≡ map (λ (s : StepTree). s.placed) (filter (λ (s : StepTree). same s.origin (node_key n)) (steps_of chart))
onward_is chart (a_state path) = from_is is_initial path (0 ∷ codes path) (initial_key path) chart
onward_is chart (a_choice graph c) = from_is (is_from_choice c) graph (3 ∷ codes (c ∷ graph)) (choice_key c graph) chart
onward_is chart (an_entry owner e) = from_is (is_from_entry e) owner (4 ∷ codes (e ∷ owner)) (entry_key e owner) chart
onward_is chart (an_exit [] x) = sym (ap (λ l. map (λ (s : StepTree). s.placed) l) (none_behind (5 ∷ codes (x ∷ [])) (top_exit_key x) [] chart.graphs))
onward_is chart (an_exit (s ∷ owner) x) = from_is (is_from_exit x s) owner (5 ∷ codes (x ∷ s ∷ owner)) (exit_key x s owner) chart
