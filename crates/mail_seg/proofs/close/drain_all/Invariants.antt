use Rattle.std.proofs.Common.{ℕ, ◌≡◌, ◌+◌, ◌-◌, ◌*◌, ◌<◌, length, map, slice_get, Some}
use Rattle.mail_core.specs.SetUp.{in_poll_order}
use Rattle.mail_seg.specs.Left.{queues_of, pass_at, Shifted, left_in, IsSettled}
use Rattle.mail_seg.proofs.close.drain_all.Given as goal

abbrev pub invariant-loop-receiver : goal.invariant-loop-receiver
invariant-loop-receiver g l =
    let rows = queues_of l.fn.rows.items in
    record {
      count : length l.all.items ≡ l.receiver;
      shifted : Shifted (l.receiver * 6) l.parties rows (queues_of l.rows.items);
      each : (r : ℕ) → r < l.receiver → slice_get (map (λ x. x.items) l.all.items) r ≡ Some (in_poll_order l.parties (λ s p. left_in (pass_at rows (r * 6 + (5 - p))) r s));
      settled : (s r b : ℕ) → s < l.parties → r < l.receiver → b < 6 → IsSettled (pass_at rows (r * 6 + b)) r s;
    }
