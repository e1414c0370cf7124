-- Places of parts of a row.
use Rattle.std.proofs.Common.{◌≡◌, ◌∙◌, ℕ, zero, suc, ◌+◌, ◌<◌, List, [], ◌∷◌, Option, Some, sum, refl, ap, arith}
use Rattle.std.specs.Prelude.{slice_get, slice_index}
use Rattle.std.proofs.lemmas.List.Sums.{sum_by-cons}
use Rattle.number_graphs.specs.face_matchings.Offsets.{offset}

some_same : (m n : ℕ) → (let a : Option ℕ = Some m in a) ≡ Some n → m ≡ n
some_same m n e = cc

pub place_below : (ns : List ℕ) (i n k : ℕ) → slice_get ns i ≡ Some n → k < n → offset ns i + k < sum ns
place_below [] i n k e lt = absurd cc
place_below (m ∷ ns) zero n k e lt =
    let same = some_same m n e in
    omega (arith, same, lt, sum_by-cons (λ x. x) m ns)
place_below (m ∷ ns) (suc i) n k e lt =
    let more = place_below ns i n k e lt in
    omega (arith, more, sum_by-cons (λ x. x) m ns)

pub same_place : (ns : List ℕ) (i j m n k l : ℕ) → slice_get ns i ≡ Some m → slice_get ns j ≡ Some n → k < m → l < n → offset ns i + k ≡ offset ns j + l → (i ≡ j) × (k ≡ l)
same_place [] i j m n k l ei ej lk ll e = absurd cc
same_place (x ∷ xs) zero zero m n k l ei ej lk ll e = (refl, omega (arith, e))
same_place (x ∷ xs) zero (suc j) m n k l ei ej lk ll e =
    let same = some_same x m ei in
    absurd (omega (arith, same, lk, e))
same_place (x ∷ xs) (suc i) zero m n k l ei ej lk ll e =
    let same = some_same x n ej in
    absurd (omega (arith, same, ll, e))
same_place (x ∷ xs) (suc i) (suc j) m n k l ei ej lk ll e =
    let rest : offset xs i + k ≡ offset xs j + l = omega (arith, e) in
    let both = same_place xs i j m n k l ei ej lk ll rest in
    (ap suc both.0, both.1)

-- the next part begins behind a part
pub offset_next : (ns : List ℕ) (i : ℕ) → offset ns (i + 1) ≡ offset ns i + slice_index ns i
offset_next [] i = refl
offset_next (n ∷ ns) zero = let e = offset_first ns in omega (arith, e)
  where
    offset_first : (ms : List ℕ) → offset ms 0 ≡ 0
    offset_first [] = refl
    offset_first (m ∷ ms) = refl
offset_next (n ∷ ns) (suc i) =
    let more = offset_next ns i in
    let at : offset (n ∷ ns) (suc (i + 1)) ≡ offset (n ∷ ns) (suc i) + slice_index ns i = omega (arith, more) in
    let is : suc i + 1 ≡ suc (i + 1) = omega arith in
    ap (offset (n ∷ ns)) is ∙ at
