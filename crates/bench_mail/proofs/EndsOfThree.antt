-- The ends of three parties, of which the first two are taken from the front.
use Rattle.std.proofs.Common.{◌≡◌, List, [], ◌∷◌, length, get_or, slice_get, Some, sym, ap, ◌∙◌, arith}
use Rattle.std.specs.List.{remove}

pub first_two : {X : Type 0} (all rest : List X) (a b : X) → length all ≡ 3 → a ≡ get_or all 0 a → rest ≡ remove all 0 → b ≡ get_or rest 0 b → (slice_get all 0 ≡ Some a) × (slice_get all 1 ≡ Some b)
first_two [] rest a b count is_a cut is_b = absurd (omega arith)
first_two (x ∷ []) rest a b count is_a cut is_b = absurd (omega arith)
first_two (x ∷ (y ∷ ys)) rest a b count is_a cut is_b = (
  ap Some (sym is_a),
  ap Some (sym (is_b ∙ ap (λ l. get_or l 0 b) cut)),
)
