use Rattle.std.proofs.Common.{◌≤◌, ◌+◌, ◌-◌, vec_len}
use Rattle.room_outside.proofs.ShelfLemmas.{ReadsFront}
use Rattle.room_outside.proofs.shelf.read_limit.Given as goal

abbrev pub invariant-loop-piece : goal.invariant-loop-piece
invariant-loop-piece g l =
    record {
      reads : ReadsFront (g.S.Shelf.shown l.fn.shelf) (g.S.Shelf.shown l.shelf) l.name l.text.items;
      short : vec_len l.text ≤ l.limit + 65536;
    }

abbrev pub decreases-loop-piece : goal.decreases-loop-piece
decreases-loop-piece g l = l.limit + 65536 - vec_len l.text
