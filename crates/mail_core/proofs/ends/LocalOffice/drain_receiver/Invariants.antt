use Rattle.std.proofs.Common.{ℕ, ◌≡◌, ◌+◌, ◌<◌, ◌++◌}
use Rattle.mail_core.specs.Lanes.{lane_of}
use Rattle.mail_core.specs.SetUp.{priorities}
use Rattle.mail_core.proofs.ends.LocalOffice.drain_receiver.Given as goal

abbrev pub invariant-loop-step : goal.invariant-loop-step
invariant-loop-step l =
    let n = l.fn.self.parties in
    let before = λ (s : ℕ) (r : ℕ) (p : ℕ). lane_of l.fn.self.lanes.items n s r p in
    let now = λ (s : ℕ) (r : ℕ) (p : ℕ). lane_of l.self.lanes.items n s r p in
    record {
      parties : l.self.parties ≡ n;
      list : l.list.items ≡ l.fn.list.items ++ priorities n (λ s p. before s l.receiver p) l.step;
      rest : (s p : ℕ) → s < n → p + l.step < 6 → now s l.receiver p ≡ before s l.receiver p;
      others : (s r p : ℕ) → s < n → p < 6 → (r ≡ l.receiver → ⊥) → now s r p ≡ before s r p;
    }
