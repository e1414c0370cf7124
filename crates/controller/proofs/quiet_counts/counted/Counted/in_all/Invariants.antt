use Rattle.std.proofs.Common.{◌≡◌, ◌<◌, ◌^◌, ◌+◌, ◌*◌, take}
use Rattle.std.specs.List.{sum_by, count_by}
use Rattle.controller.specs.View.{Controller}
use Rattle.controller.specs.quiet_counts.Counts.{is_counted}
use Rattle.controller.proofs.quiet_counts.counted.Counted.in_all.Given as goal

abbrev pub invariant-loop-controller : goal.invariant-loop-controller
invariant-loop-controller l = record {
  counted : l.count ≡ count_by (is_counted l.self) l.environment.journal + sum_by (λ (k : Controller). count_by (is_counted l.self) k.mail.journal) (take l.controller-index l.all);
  small : l.count < 2 ^ 64 * (l.controller-index + 1);
}
