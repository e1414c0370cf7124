-- The steps of a chart, as the code collects them.
use Rattle.std.proofs.Common.{◌≡◌, ℕ, ◌+◌, ◌<◌, ◌≤◌, Bool, true, false, cond, not, List, [], ◌∷◌, ◌++◌, length, get_or, drop, map, refl, sym, ap, ◌∙◌, subst, append_assoc}
use Rattle.std.proofs.lemmas.List.{drop_all, drop_more, append-nil, get_or-map}
use Rattle.name_tables.specs.name_numbers.Names.{is_among}
use Rattle.chart_model.specs.Chart.{Graph}
use Rattle.chart_trees.specs.chart_graphs.Views.{graph_view}
use Rattle.chart_trees.specs.declared.chart_graphs.Graph.{Graph as CodeGraph}
use Rattle.chart_reader.specs.chart_nodes.Keys.{codes}
use Rattle.chart_reader.specs.chart_nodes.Steps.{StepTree, steps_in, steps_behind}

-- one more item at the end of a list that is made of another
pub more_made : {A B : Type 0} (f : A → B) (out : List B) (xs : List A) (i : ℕ) (d : A) → i < length xs → (out ++ f (get_or xs i d) ∷ []) ++ map f (drop (i + 1) xs) ≡ out ++ map f (drop i xs)
more_made f out xs i d h = append_assoc out (f (get_or xs i d) ∷ []) (map f (drop (i + 1) xs)) ∙ ap (λ l. out ++ map f l) (sym (drop_more xs i d h))

behind_end : (seen : List (List ℕ)) → steps_behind seen [] ≡ []
unfolding steps_behind
behind_end seen = refl

pub graphs_end : (out : List StepTree) (seen : List (List ℕ)) → out ++ steps_behind seen [] ≡ out
graphs_end out seen = ap (λ l. out ++ l) (behind_end seen) ∙ append-nil out

behind_cons : (seen : List (List ℕ)) (g : Graph) (gs : List Graph) (b : Bool) → b ≡ not (is_among seen (codes g.owner)) → steps_behind seen (g ∷ gs) ≡ cond b (steps_in g ++ steps_behind (seen ++ codes g.owner ∷ []) gs) (steps_behind seen gs)
unfolding steps_behind
behind_cons seen g gs b e = turned (is_among seen (codes g.owner)) b e (steps_behind seen gs) (steps_in g ++ steps_behind (seen ++ codes g.owner ∷ []) gs)
  where
    turned : (a b : Bool) → b ≡ not a → (x y : List StepTree) → cond a x y ≡ cond b y x
    turned true b e x y = rw e refl
    turned false b e x y = rw e refl

map_twice : {A B C : Type 0} (f : B → C) (g : A → B) (xs : List A) → map f (map g xs) ≡ map (λ x. f (g x)) xs
map_twice f g [] = refl
map_twice f g (x ∷ xs) = ap (λ l. f (g x) ∷ l) (map_twice f g xs)

-- a list that is made of another, at its end
pub made_done : {A B C : Type 0} (f : B → C) (g : A → B) (out first : List C) (xs ys : List A) (n : ℕ) → length xs ≤ n → xs ≡ ys → out ++ map (λ x. f (g x)) (drop n ys) ≡ first ++ map (λ x. f (g x)) ys → out ≡ first ++ map f (map g ys)
made_done f g out first xs ys n h e i =
    let past : length ys ≤ n = subst (λ (l : List _). length l ≤ n) e h in
    sym (append-nil out) ∙ ap (λ l. out ++ map (λ x. f (g x)) l) (sym (drop_all n ys past)) ∙ i ∙ ap (λ l. first ++ l) (sym (map_twice f g ys))

-- the steps of one more graph
pub graphs_more : (out out' all : List StepTree) (seen new : List (List ℕ)) (gs : List CodeGraph) (i : ℕ) (g : CodeGraph) (b : Bool) (key : List ℕ) → i < length gs → g ≡ get_or gs i g → key ≡ codes g.owner → b ≡ not (is_among seen key) → new ≡ cond b (seen ++ key ∷ []) seen
    → out' ≡ out ++ cond b (steps_in (graph_view g)) [] → out ++ steps_behind seen (map graph_view (drop i gs)) ≡ all → out' ++ steps_behind new (map graph_view (drop (i + 1) gs)) ≡ all
graphs_more out out' all seen new gs i g b key h is k e n o before =
    let rest = map graph_view (drop (i + 1) gs) in
    let turned : b ≡ not (is_among seen (codes g.owner)) = e ∙ ap (λ l. not (is_among seen l)) k in
    let next : new ≡ cond b (seen ++ codes g.owner ∷ []) seen = n ∙ ap (λ l. cond b (seen ++ l ∷ []) seen) k in
    let there : drop i gs ≡ g ∷ drop (i + 1) gs = drop_more gs i g h ∙ ap (λ x. x ∷ drop (i + 1) gs) (sym is) in
    ap (λ l. l ++ steps_behind new rest) o ∙ ap (λ s. (out ++ cond b (steps_in (graph_view g)) []) ++ steps_behind s rest) next ∙ split b (graph_view g) rest out seen ∙ ap (λ l. out ++ l) (sym (behind_cons seen (graph_view g) rest b turned)) ∙ ap (λ l. out ++ steps_behind seen (map graph_view l)) (sym there) ∙ before
  where
    split : (b : Bool) (g : Graph) (rest : List Graph) (out : List StepTree) (seen : List (List ℕ))
        → (out ++ cond b (steps_in g) []) ++ steps_behind (cond b (seen ++ codes g.owner ∷ []) seen) rest ≡ out ++ cond b (steps_in g ++ steps_behind (seen ++ codes g.owner ∷ []) rest) (steps_behind seen rest)
    split true g rest out seen = append_assoc out (steps_in g) (steps_behind (seen ++ codes g.owner ∷ []) rest)
    split false g rest out seen = ap (λ l. l ++ steps_behind seen rest) (append-nil out)

-- the key of a graph among the keys of all
pub key_at : (keys : List (List ℕ)) (gs gs' : List CodeGraph) (i : ℕ) (key : List ℕ) (g : CodeGraph) → keys ≡ map (λ (g : CodeGraph). codes g.owner) gs' → gs' ≡ gs → i < length gs → g ≡ get_or gs i g → key ≡ get_or keys i key → key ≡ codes g.owner
key_at keys gs gs' i key g e f h is k =
    k ∙ ap (λ l. get_or l i key) (e ∙ ap (λ l. map (λ (g : CodeGraph). codes g.owner) l) f) ∙ get_or-map (λ (g : CodeGraph). codes g.owner) gs i g key h ∙ ap (λ (g : CodeGraph). codes g.owner) (sym is)

-- whether the steps of a graph were added
pub were_added : (out new «in» : List StepTree) (b : Bool) → new ≡ out ++ «in» → b ≡ true → new ≡ out ++ cond b «in» []
were_added out new «in» b e t = e ∙ ap (λ b. out ++ cond b «in» []) (sym t)

pub were_not : (out new «in» : List StepTree) (b : Bool) → new ≡ out → b ≡ false → new ≡ out ++ cond b «in» []
were_not out new «in» b e t = e ∙ sym (append-nil out) ∙ ap (λ b. out ++ cond b «in» []) (sym t)

pub graphs_done : (out all : List StepTree) (seen : List (List ℕ)) (gs gs' : List CodeGraph) (n : ℕ) → length gs' ≤ n → gs' ≡ gs → out ++ steps_behind seen (map graph_view (drop n gs)) ≡ all → out ≡ all
graphs_done out all seen gs gs' n h e i =
    let past : length gs ≤ n = subst (λ (l : List CodeGraph). length l ≤ n) e h in
    sym (graphs_end out seen) ∙ ap (λ l. out ++ steps_behind seen (map graph_view l)) (sym (drop_all n gs past)) ∙ i
