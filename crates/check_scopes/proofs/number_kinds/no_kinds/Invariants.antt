use Rattle.std.proofs.Common.{◌≡◌, length}
use Rattle.check_scopes.proofs.number_kinds.no_kinds.Given as goal

abbrev pub invariant-loop : goal.invariant-loop
invariant-loop l = length l.table.items ≡ l.counter
