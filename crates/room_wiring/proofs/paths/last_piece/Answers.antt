use Rattle.std.proofs.Common.{ℕ, Option, sym, subst}
use Rattle.std.specs.Option.{option_copied}
use Rattle.room_wiring.specs.Paths.{paths_of, IsLast}
use Rattle.room_wiring.proofs.PathLaws.{last_at}
use Rattle.room_wiring.proofs.paths.last_piece.Goals as goal

pub returns-in-Some : goal.returns-in-Some
returns-in-Some c =
    let found = option_copied c.piece_with.result in
    subst (λ (o : Option ℕ). IsLast (paths_of c.args.pieces.now) o found) (sym c.in-Some.is) (last_at c.args.pieces.now c.in-Some.number found c.requires c.piece_with.ensures)
