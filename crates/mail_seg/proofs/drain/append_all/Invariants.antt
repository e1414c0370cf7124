use Rattle.std.proofs.Common.{ℕ, ◌≡◌, ◌+◌, ◌≤◌, ◌<◌, ◌++◌, length}
use Rattle.mail_core.specs.SetUp.{of_controllers}
use Rattle.mail_seg.specs.Left.{lists_of, list_at}
use Rattle.mail_seg.proofs.drain.append_all.Given as goal

abbrev pub invariant-loop-sender : goal.invariant-loop-sender
invariant-loop-sender l =
    let f = list_at (lists_of l.fn.lists.items) in
    record {
      environment : l.environment + 1 ≡ l.parties;
      count : length l.lists.items ≡ l.parties;
      list : l.list.items ≡ l.fn.list.items ++ (f l.environment ++ of_controllers f l.sender);
      rest : (s : ℕ) → l.sender ≤ s → s + 1 < l.parties → list_at (lists_of l.lists.items) s ≡ f s;
    }
