use Rattle.std.proofs.Common.{ℕ, ◌≡◌, ◌≤◌, length}
use Rattle.mail_seg.specs.Rows.{EndsTo, rows_of, row_at}
use Rattle.mail_seg.proofs.make.ends_of.Given as goal

abbrev pub invariant-loop-party : goal.invariant-loop-party
invariant-loop-party l = record {
  ends : EndsTo l.party l.parties (rows_of l.fn.rows.items) l.ends.items;
  count : length l.rows.items ≡ l.parties;
  rows : (j : ℕ) → l.party ≤ j → row_at (rows_of l.rows.items) j ≡ row_at (rows_of l.fn.rows.items) j;
}
