-- Hashes of paths, byte by byte.
use Rattle.std.proofs.Common.{◌≡◌, ℕ, ◌+◌, ◌*◌, ◌%◌, ◌^◌, ◌<◌, ◌≤◌, List, ◌∷◌, length, drop, get_or, sym, ap, ◌∙◌, arith}
use Rattle.std.proofs.lemmas.List.{drop_more, drop_all}
use Rattle.room_wiring.specs.Paths.{hash_behind}

-- the sum of a remainder has the remainder of the whole sum
whole_sum : (n b : ℕ) → (n % 2 ^ 64 + b) % 2 ^ 64 ≡ (n + b) % 2 ^ 64
whole_sum n b = omega arith

-- the hash of bytes, of which the first stands behind others
pub next_hash : (front h i b d : ℕ) (bytes : List ℕ) → i < length bytes → hash_behind h (drop i bytes) ≡ hash_behind front bytes → b ≡ get_or bytes i d
    → hash_behind ((h * 1099511628211 % 2 ^ 64 + b) % 2 ^ 64) (drop (i + 1) bytes) ≡ hash_behind front bytes
unfolding hash_behind
next_hash front h i b d bytes lt so_far is =
    let more : hash_behind h (get_or bytes i d ∷ drop (i + 1) bytes) ≡ hash_behind front bytes = sym (ap (hash_behind h) (drop_more bytes i d lt)) ∙ so_far in
    ap (λ (n : ℕ). hash_behind n (drop (i + 1) bytes)) (whole_sum (h * 1099511628211) b ∙ ap (λ (n : ℕ). (h * 1099511628211 + n) % 2 ^ 64) is) ∙ more

-- the hash where no byte is left
pub whole_hash : (front h i : ℕ) (bytes : List ℕ) → length bytes ≤ i → hash_behind h (drop i bytes) ≡ hash_behind front bytes → h ≡ hash_behind front bytes
unfolding hash_behind
whole_hash front h i bytes all so_far = sym (ap (hash_behind h) (drop_all i bytes all)) ∙ so_far
