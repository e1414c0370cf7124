use Rattle.std.proofs.Common.{ℕ, ◌≡◌, ◌<◌, length, map}
use Rattle.mail_core.specs.EndLog.{fresh}
use Rattle.mail_core.specs.Lanes.{log_at}
use Rattle.mail_core.specs.Local.{log_of}
use Rattle.mail_core.proofs.ends.MailLocal.all.Given as goal

abbrev pub invariant-loop-party : goal.invariant-loop-party
invariant-loop-party l = record {
  count : length l.ends.items ≡ l.party;
  each : (j : ℕ) → j < l.party → log_at (map log_of l.ends.items) j ≡ fresh l.parties j;
}
