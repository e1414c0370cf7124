use Rattle.std.proofs.Common.{◌≡◌, ◌∙◌, ℕ, List, Option, [], ◌∷◌, ◌++◌, ap, subst, sym}
use Rattle.room_wiring.specs.declared.paths.Piece.{Piece}
use Rattle.room_wiring.specs.Paths.{path_at, paths_of, ArePieces, Ends}
use Rattle.room_wiring.proofs.PathLaws.{paths_more, pieces_more}
use Rattle.room_wiring.proofs.paths.Paths.add.Goals as goal

ends : (before now : List Piece) (from : Option ℕ) (end : List ℕ) (p : Piece) → now ≡ before → Ends (paths_of now) (path_at (paths_of now) from) end p → Ends (paths_of before) (path_at (paths_of before) from) end p
ends before now from end p same e = subst (λ (ps : List Piece). Ends (paths_of ps) (path_at (paths_of ps) from) end p) same e

pub invariant_of-self-2 : goal.invariant_of-self-2
invariant_of-self-2 c =
    let items = c.self.inside.pieces.items in
    let e = ends items c.as_slice.result.now c.args.before c.args.end.now c.in_ok-piece.piece c.as_slice.ensures.value c.in_ok-piece.ensures in
    subst (λ (ps : List Piece). ArePieces [] ps) (sym c.in_ok-push.ensures.items) (pieces_more [] items c.in_ok-piece.piece c.self.invariant e.piece)

pub returns : goal.returns
returns c =
    let items = c.self.inside.pieces.items in
    let e = ends items c.as_slice.result.now c.args.before c.args.end.now c.in_ok-piece.piece c.as_slice.ensures.value c.in_ok-piece.ensures in
    ap (λ (ps : List Piece). paths_of ps) c.in_ok-push.ensures.items
    ∙ paths_more [] items c.in_ok-piece.piece ∙ ap (λ (p : List ℕ). paths_of items ++ p ∷ []) e.path
    ∙ ap (λ (old : List (List ℕ)). old ++ (path_at old c.args.before ++ c.args.end.now) ∷ []) c.self.view_is
