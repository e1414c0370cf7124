-- Across from a face lies the face itself or the other face of its place.
use Rattle.std.proofs.Common.{◌≡◌, ◌≢◌, ◌∙◌, ℕ, zero, suc, ◌+◌, ◌*◌, ◌<◌, Bool, true, false, List, [], ◌∷◌, length, slice_index, refl, arith}
use Rattle.std.specs.Prelude.{if◌then◌else◌}
use Rattle.wiring_places.specs.declared.place_rules.place.Place.{Place}
use Rattle.wiring_places.specs.place_rules.Partners.{is_relay_role, across_from}

-- the second is the other face of the place that the first is one of, counted from the first face
abbrev pub IsOther : ℕ → ℕ → ℕ → Type 0
IsOther face f g = (i : ℕ) × (d : ℕ) × (d < 2) × (f ≡ 2 * i + d) × (g + d ≡ face + (2 * i + 1))

outer_turned : (face : ℕ) (b : Bool) → (if b then face + 1 else face) ≢ face + 0 → IsOther face 0 (if b then face + 1 else face)
outer_turned face true ne = (0, 0, omega arith, omega arith, omega arith)
outer_turned face false ne = absurd (ne (omega arith))

inner_turned : (face : ℕ) (b : Bool) → (if b then face else face + 1) ≢ face + 1 → IsOther face 1 (if b then face else face + 1)
inner_turned face true ne = (0, 1, omega arith, omega arith, omega arith)
inner_turned face false ne = absurd (ne refl)

further : (face f g : ℕ) → IsOther (face + 2) f g → IsOther face (suc (suc f)) g
further face f g h = let number = h.3 in let other = h.4 in (suc h.0, h.1, h.2, omega (arith, number), omega (arith, other))

pub turned : (face : ℕ) (xs : List Place) (f : ℕ) → f < 2 * length xs → slice_index (across_from face xs) f ≢ face + f → IsOther face f (slice_index (across_from face xs) f)
unfolding across_from
turned face [] f lt ne = absurd (omega (arith, lt))
turned face (x ∷ xs) zero lt ne = outer_turned face (is_relay_role x.role) ne
turned face (x ∷ xs) (suc zero) lt ne = inner_turned face (is_relay_role x.role) ne
turned face (x ∷ xs) (suc (suc f)) lt ne =
    further face f (slice_index (across_from (face + 2) xs) f)
    (turned (face + 2) xs f (omega (arith, lt)) (λ e. ne (let same : (face + 2) + f ≡ face + suc (suc f) = omega arith in e ∙ same)))
