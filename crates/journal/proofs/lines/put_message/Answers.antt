use Rattle.std.proofs.Common.{List, ℕ, [], ◌∷◌, ◌++◌, codes}
use Rattle.std.proofs.lemmas.Result.{err_from_is_err_and}
use Rattle.journal.specs.Names.{source_parts, endpoint_parts}
use Rattle.journal.specs.Lines.{priority_parts, signal_parts}
use Rattle.room_outside.proofs.line_text.PartLemmas.{parts_second, parts_break_first, parts_break_second}
use Rattle.journal.proofs.lines.put_message.Goals as goal

pub returns-in_err-put_priority : goal.returns-in_err-put_priority
returns-in_err-put_priority g c =
    let p = err_from_is_err_and c.from_residual.result c.from_residual.ensures.1 in
    let prio = priority_parts c.args.msg.now.prio.0 in
    let source = source_parts c.args.wiring.now c.args.msg.now.source in
    let blank : List (List ℕ) = codes " " ∷ [] in
    let target = endpoint_parts c.args.wiring.now c.args.msg.now.target in
    let signal = signal_parts c.args.wiring.now c.args.msg.now in
    rw p.1 (parts_break_first _ _ prio (source ++ (blank ++ (target ++ signal))) c.in_err-put_priority.ensures)

pub returns-in_err-put_source : goal.returns-in_err-put_source
returns-in_err-put_source g c =
    let p = err_from_is_err_and c.from_residual-in_err-put_source.result c.from_residual-in_err-put_source.ensures.1 in
    let prio = priority_parts c.args.msg.now.prio.0 in
    let source = source_parts c.args.wiring.now c.args.msg.now.source in
    let blank : List (List ℕ) = codes " " ∷ [] in
    let target = endpoint_parts c.args.wiring.now c.args.msg.now.target in
    let signal = signal_parts c.args.wiring.now c.args.msg.now in
    rw p.1 (parts_break_second _ _ _ prio (source ++ (blank ++ (target ++ signal))) c.in_ok-put_priority.ensures (parts_break_first _ _ source (blank ++ (target ++ signal)) c.in_err-put_source.ensures))

pub returns-in_err-put_one : goal.returns-in_err-put_one
returns-in_err-put_one g c =
    let p = err_from_is_err_and c.from_residual-in_err-put_one.result c.from_residual-in_err-put_one.ensures.1 in
    let prio = priority_parts c.args.msg.now.prio.0 in
    let source = source_parts c.args.wiring.now c.args.msg.now.source in
    let blank : List (List ℕ) = codes " " ∷ [] in
    let target = endpoint_parts c.args.wiring.now c.args.msg.now.target in
    let signal = signal_parts c.args.wiring.now c.args.msg.now in
    rw p.1 (parts_break_second _ _ _ prio (source ++ (blank ++ (target ++ signal))) c.in_ok-put_priority.ensures (parts_break_second _ _ _ source (blank ++ (target ++ signal)) c.in_ok-put_source.ensures (parts_break_first _ _ blank (target ++ signal) c.in_err-put_one.ensures)))

pub returns-in_err-put_endpoint : goal.returns-in_err-put_endpoint
returns-in_err-put_endpoint g c =
    let p = err_from_is_err_and c.from_residual-in_err-put_endpoint.result c.from_residual-in_err-put_endpoint.ensures.1 in
    let prio = priority_parts c.args.msg.now.prio.0 in
    let source = source_parts c.args.wiring.now c.args.msg.now.source in
    let blank : List (List ℕ) = codes " " ∷ [] in
    let target = endpoint_parts c.args.wiring.now c.args.msg.now.target in
    let signal = signal_parts c.args.wiring.now c.args.msg.now in
    rw p.1 (parts_break_second _ _ _ prio (source ++ (blank ++ (target ++ signal))) c.in_ok-put_priority.ensures (parts_break_second _ _ _ source (blank ++ (target ++ signal)) c.in_ok-put_source.ensures (parts_break_second _ _ _ blank (target ++ signal) c.in_ok-put_one.ensures (parts_break_first _ _ target (signal) c.in_err-put_endpoint.ensures))))

pub returns : goal.returns
returns g c =
    let prio = priority_parts c.args.msg.now.prio.0 in
    let source = source_parts c.args.wiring.now c.args.msg.now.source in
    let blank : List (List ℕ) = codes " " ∷ [] in
    let target = endpoint_parts c.args.wiring.now c.args.msg.now.target in
    let signal = signal_parts c.args.wiring.now c.args.msg.now in
    parts_second _ _ _ _ prio (source ++ (blank ++ (target ++ signal))) c.in_ok-put_priority.ensures (parts_second _ _ _ _ source (blank ++ (target ++ signal)) c.in_ok-put_source.ensures (parts_second _ _ _ _ blank (target ++ signal) c.in_ok-put_one.ensures (parts_second _ _ _ _ target signal c.in_ok-put_endpoint.ensures c.put_signal.ensures)))
