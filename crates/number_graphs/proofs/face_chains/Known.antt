-- Chains that are followed from a face, pair by pair, and what is known of far ends while faces are paired.
use Rattle.std.proofs.Common.{◌≡◌, ◌≢◌, ◌⊎◌, ℕ, ◌<◌, List, [], ◌∷◌, length, refl, slice_index, inl, inr}
use Rattle.number_graphs.specs.declared.face_chains.FacePair.{FacePair}
use Rattle.number_graphs.specs.face_chains.Chains.{IsPair, IsPaired, IsFree}

-- from a face on, each next pair beginning across the last, the chain goes as far as a face: one that no pair has, or one that lies across itself
pub data Goes (across : List ℕ) (pairs : List FacePair) : ℕ → ℕ → Type 0 where
  stops : (f : ℕ) → IsFree pairs f → Goes across pairs f f
  ends : (f g : ℕ) → IsPaired pairs f g → slice_index across g ≡ g → Goes across pairs f g
  passes : (f g u : ℕ) → IsPaired pairs f g → slice_index across g ≢ g → Goes across pairs (slice_index across g) u → Goes across pairs f u

-- a face at which a chain ends
abbrev pub IsTerminal : List ℕ → List FacePair → ℕ → Type 0
IsTerminal across pairs t = (slice_index across t ≡ t) ⊎ IsFree pairs t

-- the far ends of the faces at which chains end
pub record AreFarEnds (across : List ℕ) (pairs : List FacePair) (far : List ℕ) : Type 0 where
  pub size : length far ≡ length across
  pub within : (t : ℕ) → t < length across → IsTerminal across pairs t → slice_index far t < length across
  pub terminal : (t : ℕ) → t < length across → IsTerminal across pairs t → IsTerminal across pairs (slice_index far t)
  pub back : (t : ℕ) → t < length across → IsTerminal across pairs t → slice_index far (slice_index far t) ≡ t
  pub chain : (t : ℕ) → t < length across → IsTerminal across pairs t → Goes across pairs (slice_index across t) (slice_index far t)
  pub alone : (t : ℕ) → t < length across → IsTerminal across pairs t → slice_index far t ≡ t → (slice_index across t ≡ t) × IsFree pairs t

pub pair_sym : (p : FacePair) (f g : ℕ) → IsPair p f g → IsPair p g f
pair_sym p f g (inl h) = inr h
pair_sym p f g (inr h) = inl h

pub paired_sym : (ps : List FacePair) (f g : ℕ) → IsPaired ps f g → IsPaired ps g f
paired_sym [] f g h = h
paired_sym (p ∷ ps) f g (inl h) = inl (pair_sym p f g h)
paired_sym (p ∷ ps) f g (inr h) = inr (paired_sym ps f g h)

pub free_paired : (ps : List FacePair) (f g : ℕ) → IsFree ps f → IsPaired ps f g → ⊥
free_paired [] f g free h = h
free_paired (p ∷ ps) f g free (inl (inl h)) = free.0 h.0
free_paired (p ∷ ps) f g free (inl (inr h)) = free.1 h.1
free_paired (p ∷ ps) f g free (inr h) = free_paired ps f g free.2 h

-- from a face that no pair has the chain goes nowhere
pub goes_free : (across : List ℕ) (ps : List FacePair) (f u : ℕ) → IsFree ps f → Goes across ps f u → u ≡ f
goes_free across ps f u free (stops _ _) = refl
goes_free across ps f u free (ends _ _ h e) = absurd (free_paired ps f u free h)
goes_free across ps f u free (passes _ g _ h ne w) = absurd (free_paired ps f g free h)
