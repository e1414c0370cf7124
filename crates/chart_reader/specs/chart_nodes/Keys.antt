-- Keys: bytes that tell apart where transitions begin, and the nodes to which they lead. A node has the key of the places where a chain goes on from it.
use Rattle.std.specs.Prelude.{ℕ, List, [], ◌∷◌, ◌++◌}
use Rattle.chart_model.specs.Chart.{Name, Path, Source, initial, from_state, from_point, from_choice, from_entry, from_exit, Target, to_state, to_choice, to_point, to_entry, to_exit}
use Rattle.chart_model.specs.Named.{Node, a_state, a_choice, an_entry, an_exit}

-- a name within a key: each byte behind a 1, and a 0 at the end
unfoldable pub code : Name → List ℕ
code [] = 0 ∷ []
code (b ∷ bs) = 1 ∷ b ∷ code bs

-- names within a key
unfoldable pub codes : List Name → List ℕ
codes [] = []
codes (n ∷ ns) = code n ++ codes ns

-- the place where transitions of the graph at a path begin; all transition points of a graph are one place
abbrev pub origin_key : Path → Source → List ℕ
origin_key graph initial = 0 ∷ codes graph
origin_key graph (from_state s) = 1 ∷ codes (s ∷ graph)
origin_key graph (from_point p) = 2 ∷ codes graph
origin_key graph (from_choice c) = 3 ∷ codes (c ∷ graph)
origin_key graph (from_entry e) = 4 ∷ codes (e ∷ graph)
origin_key graph (from_exit x s) = 5 ∷ codes (x ∷ s ∷ graph)

-- the place where a chain goes on from a node
abbrev pub node_key : Node → List ℕ
node_key (a_state path) = 0 ∷ codes path
node_key (a_choice graph c) = 3 ∷ codes (c ∷ graph)
node_key (an_entry owner e) = 4 ∷ codes (e ∷ owner)
node_key (an_exit owner x) = 5 ∷ codes (x ∷ owner)

-- the key of the node that a target of a transition in a graph stands for
abbrev pub target_key : Path → Target → List ℕ
target_key graph (to_state s) = 0 ∷ codes (s ∷ graph)
target_key graph (to_choice c) = 3 ∷ codes (c ∷ graph)
target_key graph (to_point p s) = 0 ∷ codes (s ∷ graph)
target_key graph (to_entry e s) = 4 ∷ codes (e ∷ s ∷ graph)
target_key graph (to_exit x) = 5 ∷ codes (x ∷ graph)
