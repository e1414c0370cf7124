-- Names of small bytes are ASCII.
use Rattle.std.proofs.Common.{◌≡◌, ℕ, zero, suc, ◌<◌, Bool, true, false, List, [], ◌∷◌, refl, arith}
use Rattle.std.specs.Prelude.{◌&&◌, nat_lt, slice_index, IsAscii}
use Rattle.std.specs.List.{list_all}
use Rattle.std.proofs.lemmas.Bool.Decides.{nat_tests}

first_of : (a b : Bool) → (a && b) ≡ true → a ≡ true
first_of true b h = refl
first_of false b h = absurd cc

rest_of : (a b : Bool) → (a && b) ≡ true → b ≡ true
rest_of true b h = h
rest_of false b h = absurd cc

byte_small : (b : ℕ) → nat_lt b 128 ≡ true → b < 128
byte_small b h = grind (arith, nat_tests)

small_at : (bs : List ℕ) → list_all (λ b. nat_lt b 128) bs ≡ true → (i : ℕ) → slice_index bs i < 128
small_at [] h i = omega arith
small_at (b ∷ bs) h zero = byte_small b (first_of (nat_lt b 128) (list_all (λ b. nat_lt b 128) bs) h)
small_at (b ∷ bs) h (suc i) = small_at bs (rest_of (nat_lt b 128) (list_all (λ b. nat_lt b 128) bs) h) i

pub ascii_from_all : (bs : List ℕ) (b : Bool) → b ≡ list_all (λ b. nat_lt b 128) bs → b ≡ true → IsAscii bs
ascii_from_all bs b is e = small_at bs (cc)
