use Rattle.std.proofs.Common.{◌∙◌, ◌<◌, ℕ, List, [], Some, length, ap, subst, sym}
use Rattle.std.specs.List.{slice_index_or}
use Rattle.std.specs.Prelude.{slice_get}
use Rattle.room_wiring.specs.declared.paths.Piece.{Piece}
use Rattle.room_wiring.specs.Paths.{paths_of}
use Rattle.room_wiring.proofs.PathLaws.{path_there, piece_there}
use Rattle.room_wiring.proofs.paths.SharedPaths.path.Goals as goal

pub of-requires-clause-there : goal.of-requires-clause-there
of-requires-clause-there c =
    let within = subst (λ (ps : List (List ℕ)). c.args.number < length ps) (sym c.self.view_is) c.requires in
    subst (λ (ps : List Piece). c.args.number < length ps) (sym c.in_ok-share.ensures) (piece_there c.self.inside.pieces c.args.number within)

pub returns : goal.returns
returns c =
    let within = subst (λ (ps : List (List ℕ)). c.args.number < length ps) (sym c.self.view_is) c.requires in
    ap (λ (ps : List (List ℕ)). slice_get ps c.args.number) (sym c.self.view_is)
    ∙ path_there c.self.inside.pieces c.args.number within
    ∙ ap Some (ap (λ (ps : List Piece). slice_index_or (paths_of ps) c.args.number []) (sym c.in_ok-share.ensures) ∙ sym c.of.ensures)
