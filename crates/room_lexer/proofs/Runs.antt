-- Runs of bytes that pass a test.
use Rattle.std.proofs.Common.{◌≡◌, ℕ, suc, ◌+◌, ◌≤◌, Bool, true, false, cond, List, [], ◌∷◌, ◌++◌, length, take, drop, refl, arith}
use Rattle.std.specs.List.{prefix_len}
use Rattle.room_lexer.specs.Cut.{Each, Stops}

-- n bytes pass, and what is behind them stops
pub record Splits (p : ℕ → Bool) (bytes : List ℕ) (n : ℕ) : Type 0 where
  pub passes : Each p (take n bytes)
  pub stops : Stops p (drop n bytes)
  pub short : n ≤ length bytes

pub prefix_splits : (p : ℕ → Bool) (bytes : List ℕ) → Splits p bytes (prefix_len p bytes)
prefix_splits p [] = record { passes = tt; stops = tt; short = omega arith }
prefix_splits p (b ∷ bs) = one_more p b bs (p b) refl (prefix_splits p bs)
  where
    one_more : (p : ℕ → Bool) (b : ℕ) (bs : List ℕ) (t : Bool) → p b ≡ t → Splits p bs (prefix_len p bs) → Splits p (b ∷ bs) (cond t (1 + prefix_len p bs) 0)
    one_more p b bs true h s =
        let n : 1 + prefix_len p bs ≡ suc (prefix_len p bs) = omega arith in
        rw n (record { passes = (h, s.passes); stops = s.stops; short = omega (arith, s.short) })
    one_more p b bs false h s = record { passes = tt; stops = h; short = omega arith }

-- a front that passes, where what is behind it stops
pub prefix_of : (p : ℕ → Bool) (xs rest : List ℕ) → Each p xs → Stops p rest → prefix_len p (xs ++ rest) ≡ length xs
prefix_of p [] [] each stops = refl
prefix_of p [] (b ∷ bs) each stops = rw stops refl
prefix_of p (x ∷ xs) rest each stops = rw (each.0, prefix_of p xs rest each.1 stops) (omega arith)
