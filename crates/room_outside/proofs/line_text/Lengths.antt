-- How long the texts of numbers are.
use Rattle.std.proofs.Common.{ℕ, ◌^◌, ◌<◌, ◌≤◌, length, arith}
use Rattle.std.specs.Prelude.{decimal}
use Rattle.std.proofs.lemmas.Fmt.{length-decimal-le}

pub number_length : (n : ℕ) → n < 2 ^ 64 → length (decimal n) ≤ 20
number_length n h = length-decimal-le 20 n (omega arith) (omega arith) h
