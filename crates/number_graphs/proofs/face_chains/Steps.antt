-- Pairing faces one after another.
use Rattle.std.proofs.Common.{◌≡◌, ℕ, ◌-◌, ◌<◌, ◌≤◌, List, [], ◌∷◌, length, drop, suc, zero, refl, arith, subst}
use Rattle.std.specs.Prelude.{slice_index_or}
use Rattle.number_graphs.specs.declared.face_chains.FacePair.{FacePair}
use Rattle.number_graphs.specs.face_chains.Chains.{far_ends, far_ends_joined}

-- before the first pair
pub far_ends_none : (across : List ℕ) (pairs : List FacePair) → far_ends across (drop (length pairs) pairs) ≡ across
unfolding far_ends
far_ends_none across [] = refl
far_ends_none across (p ∷ ps) = far_ends_none across ps

far_ends_drop : (across : List ℕ) (pairs : List FacePair) (k : ℕ) (d : FacePair) → k < length pairs → far_ends across (drop k pairs) ≡ far_ends_joined (far_ends across (drop (suc k) pairs)) (slice_index_or pairs k d)
unfolding far_ends
far_ends_drop across [] k d lt = absurd (omega arith)
far_ends_drop across (p ∷ ps) zero d lt = refl
far_ends_drop across (p ∷ ps) (suc k) d lt = far_ends_drop across ps k d (omega arith)

-- one more pair, before the others
pub far_ends_before : (across : List ℕ) (pairs : List FacePair) (left : ℕ) (d : FacePair) → 0 < left → left ≤ length pairs → far_ends across (drop (left - 1) pairs) ≡ far_ends_joined (far_ends across (drop left pairs)) (slice_index_or pairs (left - 1) d)
far_ends_before across pairs zero d pos within = absurd (omega arith)
far_ends_before across pairs (suc k) d pos within =
    let e : k ≡ suc k - 1 = omega arith in
    let Q : ℕ → Type 0 = λ n. far_ends across (drop n pairs) ≡ far_ends_joined (far_ends across (drop (suc k) pairs)) (slice_index_or pairs n d) in
    subst Q e (far_ends_drop across pairs k d (omega arith))
