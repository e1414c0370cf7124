use Rattle.std.proofs.Common.{[], ◌∷◌, ◌++◌, codes}
use Rattle.std.proofs.lemmas.Result.{err_from_is_err_and}
use Rattle.room_outside.specs.line_text.Lines.{line}
use Rattle.journal.specs.Text.{controllers_text, journal_text, left_text, unposted_text, end_line, text_of}
use Rattle.room_outside.proofs.line_text.OutputLemmas.{puts_second, breaks_first, breaks_second}
use Rattle.journal.proofs.entries.write_text.Goals as goal

pub returns-in_err-write_line : goal.returns-in_err-write_line
unfolding text_of
returns-in_err-write_line g c =
    let p = err_from_is_err_and c.from_residual.result c.from_residual.ensures.1 in
    let t = c.args.wiring.now in
    let j = c.args.journals.now in
    let title = line (codes "room-journal 1" ∷ []) in
    let controllers = controllers_text t 0 j.controllers in
    let heading = line (codes "environment" ∷ []) in
    let environment = journal_text t j.environment in
    let left = left_text t j.left in
    let unposted = unposted_text j.unposted in
    let end = end_line j.done in
    rw p.1 (breaks_first _ _ title (controllers ++ (heading ++ (environment ++ (left ++ (unposted ++ end))))) c.in_err-write_line.ensures)

pub returns-in_err-write_controllers : goal.returns-in_err-write_controllers
unfolding text_of
returns-in_err-write_controllers g c =
    let p = err_from_is_err_and c.from_residual-in_err-write_controllers.result c.from_residual-in_err-write_controllers.ensures.1 in
    let t = c.args.wiring.now in
    let j = c.args.journals.now in
    let title = line (codes "room-journal 1" ∷ []) in
    let controllers = controllers_text t 0 j.controllers in
    let heading = line (codes "environment" ∷ []) in
    let environment = journal_text t j.environment in
    let left = left_text t j.left in
    let unposted = unposted_text j.unposted in
    let end = end_line j.done in
    rw p.1 (breaks_second _ _ _ title (controllers ++ (heading ++ (environment ++ (left ++ (unposted ++ end))))) c.in_ok-write_line.ensures (breaks_first _ _ controllers (heading ++ (environment ++ (left ++ (unposted ++ end)))) (rw c.as_slice.ensures at c.in_err-write_controllers.ensures)))

pub returns-in_err-write_line-2 : goal.returns-in_err-write_line-2
unfolding text_of
returns-in_err-write_line-2 g c =
    let p = err_from_is_err_and c.from_residual-in_err-write_line-2.result c.from_residual-in_err-write_line-2.ensures.1 in
    let t = c.args.wiring.now in
    let j = c.args.journals.now in
    let title = line (codes "room-journal 1" ∷ []) in
    let controllers = controllers_text t 0 j.controllers in
    let heading = line (codes "environment" ∷ []) in
    let environment = journal_text t j.environment in
    let left = left_text t j.left in
    let unposted = unposted_text j.unposted in
    let end = end_line j.done in
    rw p.1 (breaks_second _ _ _ title (controllers ++ (heading ++ (environment ++ (left ++ (unposted ++ end))))) c.in_ok-write_line.ensures (breaks_second _ _ _ controllers (heading ++ (environment ++ (left ++ (unposted ++ end)))) (rw c.as_slice.ensures at c.in_ok-write_controllers.ensures) (breaks_first _ _ heading (environment ++ (left ++ (unposted ++ end))) c.in_err-write_line-2.ensures)))

pub returns-in_err-write_journal : goal.returns-in_err-write_journal
unfolding text_of
returns-in_err-write_journal g c =
    let p = err_from_is_err_and c.from_residual-in_err-write_journal.result c.from_residual-in_err-write_journal.ensures.1 in
    let t = c.args.wiring.now in
    let j = c.args.journals.now in
    let title = line (codes "room-journal 1" ∷ []) in
    let controllers = controllers_text t 0 j.controllers in
    let heading = line (codes "environment" ∷ []) in
    let environment = journal_text t j.environment in
    let left = left_text t j.left in
    let unposted = unposted_text j.unposted in
    let end = end_line j.done in
    rw p.1 (breaks_second _ _ _ title (controllers ++ (heading ++ (environment ++ (left ++ (unposted ++ end))))) c.in_ok-write_line.ensures (breaks_second _ _ _ controllers (heading ++ (environment ++ (left ++ (unposted ++ end)))) (rw c.as_slice.ensures at c.in_ok-write_controllers.ensures) (breaks_second _ _ _ heading (environment ++ (left ++ (unposted ++ end))) c.in_ok-write_line-2.ensures (breaks_first _ _ environment (left ++ (unposted ++ end)) (rw c.as_slice-2.ensures at c.in_err-write_journal.ensures)))))

pub returns-in_err-write_left : goal.returns-in_err-write_left
unfolding text_of
returns-in_err-write_left g c =
    let p = err_from_is_err_and c.from_residual-in_err-write_left.result c.from_residual-in_err-write_left.ensures.1 in
    let t = c.args.wiring.now in
    let j = c.args.journals.now in
    let title = line (codes "room-journal 1" ∷ []) in
    let controllers = controllers_text t 0 j.controllers in
    let heading = line (codes "environment" ∷ []) in
    let environment = journal_text t j.environment in
    let left = left_text t j.left in
    let unposted = unposted_text j.unposted in
    let end = end_line j.done in
    rw p.1 (breaks_second _ _ _ title (controllers ++ (heading ++ (environment ++ (left ++ (unposted ++ end))))) c.in_ok-write_line.ensures (breaks_second _ _ _ controllers (heading ++ (environment ++ (left ++ (unposted ++ end)))) (rw c.as_slice.ensures at c.in_ok-write_controllers.ensures) (breaks_second _ _ _ heading (environment ++ (left ++ (unposted ++ end))) c.in_ok-write_line-2.ensures (breaks_second _ _ _ environment (left ++ (unposted ++ end)) (rw c.as_slice-2.ensures at c.in_ok-write_journal.ensures) (breaks_first _ _ left (unposted ++ end) (rw c.as_slice-3.ensures at c.in_err-write_left.ensures))))))

pub returns-in_err-write_unposted : goal.returns-in_err-write_unposted
unfolding text_of
returns-in_err-write_unposted g c =
    let p = err_from_is_err_and c.from_residual-in_err-write_unposted.result c.from_residual-in_err-write_unposted.ensures.1 in
    let t = c.args.wiring.now in
    let j = c.args.journals.now in
    let title = line (codes "room-journal 1" ∷ []) in
    let controllers = controllers_text t 0 j.controllers in
    let heading = line (codes "environment" ∷ []) in
    let environment = journal_text t j.environment in
    let left = left_text t j.left in
    let unposted = unposted_text j.unposted in
    let end = end_line j.done in
    rw p.1 (breaks_second _ _ _ title (controllers ++ (heading ++ (environment ++ (left ++ (unposted ++ end))))) c.in_ok-write_line.ensures (breaks_second _ _ _ controllers (heading ++ (environment ++ (left ++ (unposted ++ end)))) (rw c.as_slice.ensures at c.in_ok-write_controllers.ensures) (breaks_second _ _ _ heading (environment ++ (left ++ (unposted ++ end))) c.in_ok-write_line-2.ensures (breaks_second _ _ _ environment (left ++ (unposted ++ end)) (rw c.as_slice-2.ensures at c.in_ok-write_journal.ensures) (breaks_second _ _ _ left (unposted ++ end) (rw c.as_slice-3.ensures at c.in_ok-write_left.ensures) (breaks_first _ _ unposted end (rw c.as_slice-4.ensures at c.in_err-write_unposted.ensures)))))))

pub returns : goal.returns
unfolding text_of
returns g c =
    let t = c.args.wiring.now in
    let j = c.args.journals.now in
    let title = line (codes "room-journal 1" ∷ []) in
    let controllers = controllers_text t 0 j.controllers in
    let heading = line (codes "environment" ∷ []) in
    let environment = journal_text t j.environment in
    let left = left_text t j.left in
    let unposted = unposted_text j.unposted in
    let end = end_line j.done in
    puts_second _ _ _ _ title (controllers ++ (heading ++ (environment ++ (left ++ (unposted ++ end))))) c.in_ok-write_line.ensures (puts_second _ _ _ _ controllers (heading ++ (environment ++ (left ++ (unposted ++ end)))) (rw c.as_slice.ensures at c.in_ok-write_controllers.ensures) (puts_second _ _ _ _ heading (environment ++ (left ++ (unposted ++ end))) c.in_ok-write_line-2.ensures (puts_second _ _ _ _ environment (left ++ (unposted ++ end)) (rw c.as_slice-2.ensures at c.in_ok-write_journal.ensures) (puts_second _ _ _ _ left (unposted ++ end) (rw c.as_slice-3.ensures at c.in_ok-write_left.ensures) (puts_second _ _ _ _ unposted end (rw c.as_slice-4.ensures at c.in_ok-write_unposted.ensures) c.write_end.ensures)))))
