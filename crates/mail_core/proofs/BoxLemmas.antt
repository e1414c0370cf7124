-- The lane of a box.
use Rattle.std.proofs.Common.{ℕ, ◌-◌, ◌*◌, ◌/◌, ◌%◌, ◌<◌, ◌≡◌, arith}
use Rattle.mail_core.specs.Boxes.{IsLaneBox}
use Rattle.mail_core.specs.BoxLaws.{sender_place-last, sender_place-other}

row : (n b : ℕ) → 0 < n → b < n * 6 → b / n < 6
row n b some h = grind arith

-- the environment's box, and a controller's
pub IsLaneBox-first : (n b : ℕ) → 0 < n → b < n * 6 → b % n ≡ 0 → IsLaneBox n b (n - 1) (5 - b / n)
IsLaneBox-first n b some h e =
    let r = row n b some h in
    let k : 5 - (5 - b / n) ≡ b / n = omega arith in
    let last = sender_place-last n (n - 1) (omega arith) in
    record {
      sender = omega arith;
      prio = omega arith;
      place = rw (k, last) (omega arith);
    }

pub IsLaneBox-later : (n b : ℕ) → 0 < n → b < n * 6 → (b % n ≡ 0 → ⊥) → IsLaneBox n b (b % n - 1) (5 - b / n)
IsLaneBox-later n b some h e =
    let r = row n b some h in
    let k : 5 - (5 - b / n) ≡ b / n = omega arith in
    let other = sender_place-other n (b % n - 1) (omega arith) in
    record {
      sender = omega arith;
      prio = omega arith;
      place = rw (k, other) (omega arith);
    }

pub ruleset lane_boxes_steps = (IsLaneBox-first, IsLaneBox-later)
