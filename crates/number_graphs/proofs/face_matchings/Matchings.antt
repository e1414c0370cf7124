-- Matchings put together from parts.
use Rattle.std.proofs.Common.{◌≢◌, ◌⊎◌, inl, inr, ℕ, ◌<◌, List, [], ◌∷◌, ◌++◌, refl}
use Rattle.number_graphs.specs.declared.face_chains.FacePair.{FacePair}
use Rattle.number_graphs.specs.face_chains.Chains.{IsPaired, IsFree, IsMatching, AreBelow}
use Rattle.number_graphs.specs.face_matchings.Faces.{HasFace, AreApart}

pub free_from : (ps : List FacePair) (f : ℕ) → (HasFace ps f → ⊥) → IsFree ps f
free_from [] f never = tt
free_from (p ∷ ps) f never = (λ e. never (inl e), λ e. never (inr (inl e)), free_from ps f (λ h. never (inr (inr h))))

pub has_either : (xs ys : List FacePair) (f : ℕ) → HasFace (xs ++ ys) f → HasFace xs f ⊎ HasFace ys f
has_either [] ys f h = inr h
has_either (x ∷ xs) ys f (inl e) = inl (inl e)
has_either (x ∷ xs) ys f (inr (inl e)) = inl (inr (inl e))
has_either (x ∷ xs) ys f (inr (inr h)) = elim (has_either xs ys f h) [
  | inl a ↦ inl (inr (inr a))
  | inr b ↦ inr b
]

free_both : (xs ys : List FacePair) (f : ℕ) → IsFree xs f → IsFree ys f → IsFree (xs ++ ys) f
free_both [] ys f hx hy = hy
free_both (x ∷ xs) ys f hx hy = (hx.0, hx.1, free_both xs ys f hx.2 hy)

pub matching_both : (xs ys : List FacePair) → IsMatching xs → IsMatching ys → AreApart xs ys → IsMatching (xs ++ ys)
matching_both [] ys mx my apart = my
matching_both (x ∷ xs) ys mx my apart = (
  mx.0,
  free_both xs ys x.left mx.1 (free_from ys x.left (apart x.left (inl refl))),
  free_both xs ys x.right mx.2 (free_from ys x.right (apart x.right (inr (inl refl)))),
  matching_both xs ys mx.3 my (λ f h. apart f (inr (inr h))),
)

pub matching_more : (p : FacePair) (ps : List FacePair) → p.left ≢ p.right → (HasFace ps p.left → ⊥) → (HasFace ps p.right → ⊥) → IsMatching ps → IsMatching (p ∷ ps)
matching_more p ps ne no_left no_right m = (ne, free_from ps p.left no_left, free_from ps p.right no_right, m)

pub below_from : (n : ℕ) (ps : List FacePair) → ((f : ℕ) → HasFace ps f → f < n) → AreBelow n ps
below_from n [] each = tt
below_from n (p ∷ ps) each = (each p.left (inl refl), each p.right (inr (inl refl)), below_from n ps (λ f h. each f (inr (inr h))))

-- both faces of a pair are faces
pub paired_has : (ps : List FacePair) (f g : ℕ) → IsPaired ps f g → HasFace ps g
paired_has [] f g h = absurd h
paired_has (p ∷ ps) f g (inl (inl both)) = inr (inl both.1)
paired_has (p ∷ ps) f g (inl (inr both)) = inl both.0
paired_has (p ∷ ps) f g (inr h) = inr (inr (paired_has ps f g h))
