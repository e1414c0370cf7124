use Rattle.std.proofs.Common.{List, ℕ, [], ◌∷◌, ◌++◌, codes}
use Rattle.std.specs.List.{concat}
use Rattle.std.proofs.lemmas.Result.{err_from_is_err_and}
use Rattle.journal.specs.Names.{incarnation_parts, state_text}
use Rattle.room_outside.proofs.line_text.OutputLemmas.{puts_second, breaks_first}
use Rattle.room_outside.proofs.line_text.PartLemmas.{parts_two, parts_break_first, parts_break_second}
use Rattle.journal.proofs.lines.end_standing_line.Goals as goal

pub returns-in_err-put_named : goal.returns-in_err-put_named
returns-in_err-put_named g c =
    let p = err_from_is_err_and c.from_residual.result c.from_residual.ensures.1 in
    let t = c.args.wiring.now in
    let named : List (List ℕ) = c.args.word.now ∷ incarnation_parts t c.args.who in
    let state : List (List ℕ) = codes " " ∷ state_text t c.args.who.slot.0 c.args.state ∷ [] in
    rw p.1 (breaks_first _ _ (concat (named ++ state)) (10 ∷ []) (parts_break_first _ _ named state c.in_err-put_named.ensures))

pub returns-in_err-put_two : goal.returns-in_err-put_two
returns-in_err-put_two g c =
    let p = err_from_is_err_and c.from_residual-in_err-put_two.result c.from_residual-in_err-put_two.ensures.1 in
    let t = c.args.wiring.now in
    let named : List (List ℕ) = c.args.word.now ∷ incarnation_parts t c.args.who in
    let state : List (List ℕ) = codes " " ∷ state_text t c.args.who.slot.0 c.args.state ∷ [] in
    let fault = rw c.state_label-label.ensures at c.in_err-put_two.ensures in
    rw p.1 (breaks_first _ _ (concat (named ++ state)) (10 ∷ []) (parts_break_second _ _ _ named state c.in_ok-put_named.ensures fault))

pub returns : goal.returns
returns g c =
    let t = c.args.wiring.now in
    let named : List (List ℕ) = c.args.word.now ∷ incarnation_parts t c.args.who in
    let state : List (List ℕ) = codes " " ∷ state_text t c.args.who.slot.0 c.args.state ∷ [] in
    let put = rw c.state_label-label.ensures at c.in_ok-put_two.ensures in
    puts_second _ _ _ _ (concat (named ++ state)) (10 ∷ []) (parts_two _ _ _ named state c.in_ok-put_named.ensures put) c.end_line.ensures
