-- A list that is cut in two ways.
use Rattle.std.proofs.Common.{◌≡◌, List, [], ◌∷◌, ◌++◌, refl, sym, ap, ◌∙◌}

-- the first cut is within the front of the second, or behind it
pub data Cut {X : Type 0} (front rest before after : List X) : Type 0 where
  within : (more : List X) → front ≡ before ++ more → after ≡ more ++ rest → Cut front rest before after
  behind : (more : List X) → before ≡ front ++ more → rest ≡ more ++ after → Cut front rest before after

pub cut : {X : Type 0} (front rest before after : List X) → front ++ rest ≡ before ++ after → Cut front rest before after
cut [] rest before after h = behind before refl h
cut (x ∷ front) rest [] after h = within (x ∷ front) refl (sym h)
cut {X} (x ∷ front) rest (y ∷ before) after h = go (cut front rest before after (tail h))
  where
    tail : x ∷ (front ++ rest) ≡ y ∷ (before ++ after) → front ++ rest ≡ before ++ after
    tail e = cc

    head : x ∷ (front ++ rest) ≡ y ∷ (before ++ after) → x ≡ y
    head e = cc

    go : Cut front rest before after → Cut (x ∷ front) rest (y ∷ before) after
    go (within more a b) = within more (ap (λ (z : List X). x ∷ z) a ∙ ap (λ (z : X). z ∷ (before ++ more)) (head h)) b
    go (behind more a b) = behind more (ap (λ (z : List X). y ∷ z) a ∙ ap (λ (z : X). z ∷ (front ++ more)) (sym (head h))) b
