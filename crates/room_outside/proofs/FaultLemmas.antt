-- How counts of faults rise over several calls.
use Rattle.std.proofs.Common.{ℕ, ◌≤◌, arith}
use Rattle.room_outside.specs.Faults.{Rose}

-- what rose in a later call rose in all
pub Rose-later : {a b c : ℕ} → a ≤ b → Rose b c → Rose a c
Rose-later h r = record { higher = λ below. omega (arith, h, r.higher below) }

-- what rose in an earlier call rose in all
pub Rose-earlier : {a b c : ℕ} → Rose a b → b ≤ c → Rose a c
Rose-earlier r h = record { higher = λ below. omega (arith, h, r.higher (omega arith)) }
