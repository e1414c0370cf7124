use Rattle.std.proofs.Common.{ℕ, ◌≡◌, ◌-◌, ◌<◌, ◌++◌}
use Rattle.mail_core.specs.SetUp.{priorities}
use Rattle.mail_seg.specs.Left.{queues_of, pass_at, Shifted, left_in, IsSettled}
use Rattle.mail_seg.proofs.close.drain_receiver.Given as goal

abbrev pub invariant-loop-b : goal.invariant-loop-b
invariant-loop-b g l =
    let rows = queues_of l.fn.rows.items in
    record {
      shifted : Shifted l._b l.parties rows (queues_of l.rows.items);
      list : l.list.items ≡ l.fn.list.items ++ priorities l.parties (λ s p. left_in (pass_at rows (5 - p)) l.receiver s) l._b;
      settled : (s b : ℕ) → s < l.parties → b < l._b → IsSettled (pass_at rows b) l.receiver s;
    }
