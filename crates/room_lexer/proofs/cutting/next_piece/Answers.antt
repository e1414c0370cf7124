use Rattle.std.proofs.Common.{List, ◌≡◌, ◌<◌, ◌≤◌, ℕ, Result, Ok, Err, length, sym}
use Rattle.std.specs.Prelude.{IfOk}
use Rattle.room_lexer.specs.Front.{front}
use Rattle.room_lexer.specs.declared.piece.Kind.{Kind}
use Rattle.room_lexer.specs.declared.piece.Cause.{Cause}
use Rattle.room_lexer.proofs.Cut.{front_within}
use Rattle.room_lexer.proofs.cutting.next_piece.Goals as goal

within : (r : Result (Kind × ℕ) Cause) (bytes : List ℕ) → r ≡ front bytes → IfOk r (λ x. (0 < x.1) × (x.1 ≤ length bytes))
within (Ok x) bytes e = front_within bytes x.0 x.1 (sym e)
within (Err e) bytes h = tt

pub returns-clause-within : goal.returns-clause-within
returns-clause-within c = within c.front.result c.args.bytes.now c.front.ensures
