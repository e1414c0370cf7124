-- Faces that lists of pairs have.
use Rattle.std.specs.Prelude.{◌≡◌, ◌⊎◌, ℕ, List, [], ◌∷◌}
use Rattle.number_graphs.specs.declared.face_chains.FacePair.{FacePair}

-- one of the pairs has the face
abbrev pub HasFace : List FacePair → ℕ → Type 0
HasFace [] f = ⊥
HasFace (p ∷ ps) f = (p.left ≡ f) ⊎ ((p.right ≡ f) ⊎ HasFace ps f)

-- no face is in both lists
abbrev pub AreApart : List FacePair → List FacePair → Type 0
AreApart xs ys = (f : ℕ) → HasFace xs f → HasFace ys f → ⊥
