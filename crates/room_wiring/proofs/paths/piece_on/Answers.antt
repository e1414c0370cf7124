use Rattle.std.proofs.Common.{◌∙◌, ◌++◌, ℕ, List, refl, ap}
use Rattle.room_wiring.proofs.PathLaws.{joined_on, alone_on}
use Rattle.room_wiring.proofs.paths.piece_on.Goals as goal

pub returns-then-end-front : goal.returns-then-end-front
returns-then-end-front c = λ paths is.
    joined_on paths c.args.before c.args.last.now _ c.args.end.now is refl
    (c.in_ok-text.ensures ∙ ap (λ (xs : List ℕ). xs ++ c.args.end.now) c.as_slice-front.ensures.value) c.hash_behind-hash.ensures

pub returns : goal.returns
returns c = λ paths is. alone_on paths c.args.before c.args.last.now _ c.args.end.now is refl c.in_ok-text-2.ensures.items c.hash_behind-hash.ensures
