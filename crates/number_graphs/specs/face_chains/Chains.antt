-- Chains of paired faces. Faces are numbered. Each face has a face across it: the other face of a place that passes messages on, and the face itself where a chain ends.
use Rattle.std.specs.Prelude.{◌≡◌, ◌≢◌, ◌⊎◌, ℕ, ◌<◌, List, [], ◌∷◌, length, slice_index, slice_set}
use Rattle.number_graphs.specs.declared.face_chains.FacePair.{FacePair}

-- these two faces are the pair's, in one order or the other
abbrev pub IsPair : FacePair → ℕ → ℕ → Type 0
IsPair p f g = ((p.left ≡ f) × (p.right ≡ g)) ⊎ ((p.left ≡ g) × (p.right ≡ f))

-- one of the pairs is of these two faces
abbrev pub IsPaired : List FacePair → ℕ → ℕ → Type 0
IsPaired [] f g = ⊥
IsPaired (p ∷ ps) f g = IsPair p f g ⊎ IsPaired ps f g

-- a list of pairs leads from a face to a face: each next pair begins across the face at which the last one ended
pub data Leads (across : List ℕ) (pairs : List FacePair) : ℕ → ℕ → Type 0 where
  paired : (f g : ℕ) → IsPaired pairs f g → Leads across pairs f g
  passes : (f g h : ℕ) → IsPaired pairs f g → slice_index across g ≢ g → Leads across pairs (slice_index across g) h → Leads across pairs f h

-- no pair has the face
abbrev pub IsFree : List FacePair → ℕ → Type 0
IsFree [] f = Unit {0}
IsFree (p ∷ ps) f = (p.left ≢ f) × (p.right ≢ f) × IsFree ps f

-- no face stands in two pairs, nor twice in one
abbrev pub IsMatching : List FacePair → Type 0
IsMatching [] = Unit {0}
IsMatching (p ∷ ps) = (p.left ≢ p.right) × IsFree ps p.left × IsFree ps p.right × IsMatching ps

-- the pairs are of faces with numbers below a bound
abbrev pub AreBelow : ℕ → List FacePair → Type 0
AreBelow n [] = Unit {0}
AreBelow n (p ∷ ps) = (p.left < n) × (p.right < n) × AreBelow n ps

-- the face across a face is one of the faces, and the first face is across that
pub record IsInvolution (across : List ℕ) : Type 0 where
  pub within : (f : ℕ) → f < length across → slice_index across f < length across
  pub back : (f : ℕ) → f < length across → slice_index across (slice_index across f) ≡ f

-- the far ends after two faces are paired: the faces at the far ends of both become far ends of one another
unfoldable pub far_ends_joined : List ℕ → FacePair → List ℕ
far_ends_joined far p =
    let a = slice_index far p.left in
    let b = slice_index far p.right in
    slice_set (slice_set far a b) b a

-- the face at the far end of the chain that begins across each face
unfoldable pub far_ends : List ℕ → List FacePair → List ℕ
far_ends across [] = across
far_ends across (p ∷ ps) = far_ends_joined (far_ends across ps) p

-- The far ends say where chains lead: from a face that lies across itself to another one of that kind leads a list of pairs exactly where the second is the first one's far end.
pub record ShowsChains (across : List ℕ) (pairs : List FacePair) (far : List ℕ) : Type 0 where
  pub leads : (e h : ℕ) → e < length across → slice_index across e ≡ e → slice_index across h ≡ h → slice_index far e ≡ h → h ≢ e → Leads across pairs e h
  pub led : (e h : ℕ) → e < length across → slice_index across e ≡ e → slice_index across h ≡ h → Leads across pairs e h → (slice_index far e ≡ h) × (h ≢ e)
