use Rattle.std.proofs.Common.{ℕ, ◌≡◌, ◌<◌, ◌≤◌, length, map, slice_get, Some}
use Rattle.mail_core.specs.Lanes.{lane_of}
use Rattle.mail_core.specs.SetUp.{in_poll_order}
use Rattle.mail_core.proofs.ends.LocalOffice.drain_all.Given as goal

abbrev pub invariant-loop-receiver : goal.invariant-loop-receiver
invariant-loop-receiver l =
    let n = l.fn.self.parties in
    let before = λ (s : ℕ) (r : ℕ) (p : ℕ). lane_of l.fn.self.lanes.items n s r p in
    let now = λ (s : ℕ) (r : ℕ) (p : ℕ). lane_of l.self.lanes.items n s r p in
    record {
      parties : l.self.parties ≡ n;
      count : length l.all.items ≡ l.receiver;
      each : (r : ℕ) → r < l.receiver → slice_get (map (λ x. x.items) l.all.items) r ≡ Some (in_poll_order n (λ s p. before s r p));
      rest : (s r p : ℕ) → s < n → p < 6 → l.receiver ≤ r → now s r p ≡ before s r p;
    }
