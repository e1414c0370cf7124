use Rattle.std.proofs.Common.{◌≡◌, ◌∙◌, ◌++◌, [], List, ℕ, Option, Bool, true, false, length, refl, ap, sym, arith, length-drop}
use Rattle.std.specs.List.{slice_index_or}
use Rattle.std.specs.Prelude.{nat_eq, not}
use lib.Pointwise.{pointwise}
use Rattle.room_wiring.specs.Paths.{path_at, paths_of}
use Rattle.room_wiring.proofs.PathLaws.{ends_alike, ends_apart}
use Rattle.room_wiring.proofs.path.+has_path.Goals as goal

yes : (b : Bool) → false ≡ not b → b ≡ true
yes true e = refl
yes false e = e

no : (b : Bool) → true ≡ not b → b ≡ false
no false e = refl
no true e = e

pub returns-then-ne : goal.returns-then-ne
returns-then-ne t c =
    let whole = paths_of c.args.pieces.now in
    let piece = c.piece_at-piece.result.now in
    let text = piece.text.items in
    let back = c.split_at.result.1.now in
    let differ : pointwise nat_eq back text ≡ false = ap (λ (ys : List ℕ). pointwise nat_eq back ys) (sym c.as_slice.ensures.value) ∙ no (pointwise nat_eq back c.as_slice.result.now) c.if-ne.ensures in
    let size = ap length c.split_at.ensures.back ∙ length-drop c.in-Some.cut c.args.bytes.now in
    let whole_text = sym (ap length c.as_slice.ensures.value) ∙ c.as_slice.ensures.len in
    let long : length back ≡ length text = grind (arith, size, whole_text, c.in-Some.ensures, c.len.ensures) in
    ends_apart _ (path_at whole piece.before) text c.split_at.result.0.now back c.args.bytes.now c.in-Some.cut c.piece_at-piece.ensures.path c.split_at.ensures.front c.split_at.ensures.back long differ

pub returns-in-Some-before : goal.returns-in-Some-before
returns-in-Some-before t c =
    let whole = paths_of c.args.pieces.now in
    let text = c.piece_at-piece.result.now.text.items in
    let back = c.split_at.result.1.now in
    let path = c.piece_at-piece.ensures.path ∙ ap (λ (o : Option ℕ). path_at whole o ++ text) c.in-Some-before.is in
    let same : pointwise nat_eq back text ≡ true = ap (λ (ys : List ℕ). pointwise nat_eq back ys) (sym c.as_slice.ensures.value) ∙ yes (pointwise nat_eq back c.as_slice.result.now) c.if-ne.ensures in
    ends_alike _ (slice_index_or whole c.in-Some-before.before []) text c.split_at.result.0.now back c.args.bytes.now c.in-Some.cut c.has_path.result path c.split_at.ensures.front c.split_at.ensures.back same c.has_path.ensures
