-- Graphs by the paths of the states that have them.
use Rattle.std.proofs.Common.{◌≡◌, ◌∙◌, Bool, true, false, cond, List, [], ◌∷◌, ◌++◌, append_assoc, length, length-append, Some, None, refl, sym, ap, subst, arith}
use Rattle.std.specs.List.{AllByRecursion as Each}
use Rattle.chart_model.specs.Chart.{Name, Path, Graph}
use Rattle.chart_model.specs.Named.{first, same_path}
use Rattle.chart_reader.proofs.chart_nodes.Onward.{path_is, path_own}

-- a path is that of a state, or leads on from there
pub record Within (owner path : Path) : Type 0 where
  pub front : Path
  pub is : path ≡ front ++ owner

-- no graph of these is that of a state, or lies inside the state
abbrev pub Away : Path → List Graph → Type 0
Away owner gs = Each (λ (g : Graph). Within owner g.owner → ⊥) gs

pub within_itself : (owner : Path) → Within owner owner
within_itself owner = record { front = []; is = refl }

pub within_outer : (n : Name) (owner path : Path) → Within (n ∷ owner) path → Within owner path
within_outer n owner path w = record { front = w.front ++ n ∷ []; is = w.is ∙ sym (append_assoc w.front (n ∷ []) owner) }

pub not_inside : (n : Name) (owner : Path) → Within (n ∷ owner) owner → ⊥
not_inside n owner w =
    let long = ap length w.is in
    let parts = length-append w.front (n ∷ owner) in
    omega (arith, long, parts)

same_end : (f g : Path) (m n : Name) (owner : Path) → f ++ m ∷ owner ≡ g ++ n ∷ owner → m ≡ n
same_end [] [] m n owner e = cc
same_end [] (y ∷ g) m n owner e =
    let long = ap length e in
    let parts = length-append g (n ∷ owner) in
    absurd (omega (arith, long, parts))
same_end (x ∷ f) [] m n owner e =
    let long = ap length e in
    let parts = length-append f (m ∷ owner) in
    absurd (omega (arith, long, parts))
same_end (x ∷ f) (y ∷ g) m n owner e = let rest : f ++ m ∷ owner ≡ g ++ n ∷ owner = cc in same_end f g m n owner rest

-- what lies in two states of one graph lies in one state
pub same_child : (m n : Name) (owner path : Path) → Within (m ∷ owner) path → Within (n ∷ owner) path → m ≡ n
same_child m n owner path a b = same_end a.front b.front m n owner (sym a.is ∙ b.is)

pub each_so : {X : Type 0} (P Q : X → Type 0) (xs : List X) → ((x : X) → P x → Q x) → Each P xs → Each Q xs
each_so P Q [] f h = tt
each_so P Q (x ∷ xs) f h = (f x h.0, each_so P Q xs f h.1)

pub away_inside : (n : Name) (owner : Path) (gs : List Graph) → Away owner gs → Away (n ∷ owner) gs
away_inside n owner gs h = each_so (λ (g : Graph). Within owner g.owner → ⊥) (λ (g : Graph). Within (n ∷ owner) g.owner → ⊥) gs (λ g away w. away (within_outer n owner g.owner w)) h

-- ---- look-ups

other_path : (path : Path) (g : Graph) → (Within path g.owner → ⊥) → same_path g.owner path ≡ false
other_path path g away = by_test (same_path g.owner path) refl
  where
    by_test : (b : Bool) → same_path g.owner path ≡ b → b ≡ false
    by_test true e = absurd (away (subst (λ p. Within path p) (sym (path_is g.owner path e)) (within_itself path)))
    by_test false e = refl

-- no graph is found under a path
pub missed : (path : Path) (gs : List Graph) → Away path gs → first (λ (g : Graph). same_path g.owner path) gs ≡ None
missed path [] h = refl
missed path (g ∷ gs) h =
    ap (λ b. cond b (Some g) (first (λ (x : Graph). same_path x.owner path) gs)) (other_path path g h.0) ∙ missed path gs h.1

-- the one that is there is found
pub found : (path : Path) (before : List Graph) (g : Graph) (after : List Graph) → Away path before → g.owner ≡ path
    → first (λ (x : Graph). same_path x.owner path) (before ++ g ∷ after) ≡ Some g
found path [] g after h is =
    ap (λ b. cond b (Some g) (first (λ (x : Graph). same_path x.owner path) after)) (subst (λ p. same_path p path ≡ true) (sym is) (path_own path))
found path (x ∷ before) g after h is =
    ap (λ b. cond b (Some x) (first (λ (y : Graph). same_path y.owner path) (before ++ g ∷ after))) (other_path path x h.0) ∙ found path before g after h.1 is
