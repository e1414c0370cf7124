use Rattle.room_wiring.proofs.PathLaws.{piece_at}
use Rattle.room_wiring.proofs.path.piece_at.Goals as goal

pub returns-clause-path : goal.returns-clause-path
returns-clause-path c = (piece_at c.args.pieces.now c.args.number c.index-pieces-number.result c.requires.pieces c.requires.there c.index-pieces-number.is).path

pub returns-clause-behind : goal.returns-clause-behind
returns-clause-behind c = (piece_at c.args.pieces.now c.args.number c.index-pieces-number.result c.requires.pieces c.requires.there c.index-pieces-number.is).behind

pub returns-clause-hash : goal.returns-clause-hash
returns-clause-hash c = (piece_at c.args.pieces.now c.args.number c.index-pieces-number.result c.requires.pieces c.requires.there c.index-pieces-number.is).hash
