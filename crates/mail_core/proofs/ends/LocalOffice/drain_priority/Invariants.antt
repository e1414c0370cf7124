use Rattle.std.proofs.Common.{ℕ, ◌≡◌, ◌+◌, ◌<◌, ◌≤◌, ◌++◌}
use Rattle.mail_core.specs.Lanes.{lane_of}
use Rattle.mail_core.specs.SetUp.{of_controllers}
use Rattle.mail_core.proofs.ends.LocalOffice.drain_priority.Given as goal

abbrev pub invariant-loop-sender : goal.invariant-loop-sender
invariant-loop-sender l =
    let n = l.fn.self.parties in
    let before = λ (s : ℕ) (r : ℕ) (p : ℕ). lane_of l.fn.self.lanes.items n s r p in
    let now = λ (s : ℕ) (r : ℕ) (p : ℕ). lane_of l.self.lanes.items n s r p in
    record {
      parties : l.self.parties ≡ n;
      environment : l.environment + 1 ≡ n;
      list : l.list.items ≡ l.fn.list.items ++ (before l.environment l.receiver l.prio ++ of_controllers (λ s. before s l.receiver l.prio) l.sender);
      rest : (s : ℕ) → l.sender ≤ s → s < l.environment → now s l.receiver l.prio ≡ before s l.receiver l.prio;
      others : (s r p : ℕ) → s < n → p < 6 → ((r ≡ l.receiver) × (p ≡ l.prio) → ⊥) → now s r p ≡ before s r p;
    }
