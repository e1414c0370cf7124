use Rattle.std.proofs.Common.{◌∙◌, ◌++◌, ℕ, List, Option, Some, ap, sym, subst}
use Rattle.std.proofs.lemmas.Result.{err_from_is_err_and}
use Rattle.room_outside.specs.line_text.Output.{Puts, Breaks}
use Rattle.room_outside.proofs.line_text.OutputLemmas.{breaks_first, puts_second}
use Rattle.room_wiring.specs.Paths.{path_at, paths_of}
use Rattle.room_wiring.proofs.path.+put_path.Goals as goal

pub returns-in_err-put_path-in-Some : goal.returns-in_err-put_path-in-Some
returns-in_err-put_path-in-Some g t c =
    let whole = paths_of c.args.pieces.now in
    let text = c.piece_at-piece.result.now.text.items in
    let path = c.piece_at-piece.ensures.path ∙ ap (λ (o : Option ℕ). path_at whole o ++ text) c.in-Some.is in
    let p = err_from_is_err_and c.from_residual.result c.from_residual.ensures.1 in
    rw p.1 (subst (λ (bytes : List ℕ). Breaks (record { written = g.K.Sink.written c.args.sink.now; held = c.args.out.now }) (record { written = g.K.Sink.written c.put_path.new.sink; taken = c.put_path.new.out.taken }) bytes) (sym path) (breaks_first _ _ _ text c.in_err-put_path-in-Some.ensures))

pub returns-in_ok-put_path-in-Some : goal.returns-in_ok-put_path-in-Some
returns-in_ok-put_path-in-Some g t c =
    let whole = paths_of c.args.pieces.now in
    let text = c.piece_at-piece.result.now.text.items in
    let path = c.piece_at-piece.ensures.path ∙ ap (λ (o : Option ℕ). path_at whole o ++ text) c.in-Some.is in
    let after : Puts c.put.result (record { written = g.K.Sink.written c.put_path.new.sink; held = c.put_path.new.out }) (record { written = g.K.Sink.written c.put.new.sink; held = c.put.new.self }) text =
    subst (λ (ys : List ℕ). Puts c.put.result (record { written = g.K.Sink.written c.put_path.new.sink; held = c.put_path.new.out }) (record { written = g.K.Sink.written c.put.new.sink; held = c.put.new.self }) ys) c.as_slice-text.ensures.value c.put.ensures
    in
    subst (λ (bytes : List ℕ). Puts c.put.result (record { written = g.K.Sink.written c.args.sink.now; held = c.args.out.now }) (record { written = g.K.Sink.written c.put.new.sink; held = c.put.new.self }) bytes) (sym path)
    (puts_second c.put.result _ _ _ (path_at whole (Some c.in-Some.before)) text c.in_ok-put_path-in-Some.ensures after)
