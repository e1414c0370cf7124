use Rattle.std.proofs.Common.{ℕ, map, ◌∙◌, ap, [], ◌∷◌, ◌++◌, arith}
use Rattle.std.proofs.lemmas.Bool.Decides.{nat_tests}
use Rattle.room_kinds.specs.declared.numbers.Endpoint.{Endpoint}
use Rattle.inject_reader.specs.declared.inject_lines.accepted.Line.{Line}
use Rattle.room_timer.specs.Timers.{timeout_line}
use Rattle.room_timer.specs.Turns.{due_run}
use Rattle.room_timer.proofs.Order.{passed_over, passed_on, passed_all, passed_time, due_listed}
use Rattle.room_timer.proofs.due_queue.DueQueue.lines_at.Goals as goal

-- the line of a place
abbrev line : ℕ → ℕ → Endpoint → Line
line number time at = timeout_line number (record { at = at; due = time })

pub returns-then-time-key : goal.returns-then-time-key
returns-then-time-key c =
    passed_time (line c.args.number c.args.time) c.args.time (map (λ p. line c.args.number c.args.time p.1) (due_run c.args.time c.args.self.now))
    c.loop-key.lines.items c.loop-key.key-iterator c.next.new.self c.in-Some.key.now c.in-Some.at.now c.in-Some.ensures.steps c.if-time-key.true c.loop-key.invariant
    ∙ due_listed (line c.args.number c.args.time) c.args.time c.args.self.now

pub loop-key-preserved-in-Continue-1 : goal.loop-key-preserved-in-Continue-1
loop-key-preserved-in-Continue-1 c =
    passed_on (line c.args.number c.args.time) c.args.time (map (λ p. line c.args.number c.args.time p.1) (due_run c.args.time c.args.self.now))
    c.loop-key.lines.items c.push.new.self.items c.loop-key.key-iterator c.next.new.self c.in-Some.key.now c.in-Some.at.now c.in-Some.ensures.steps
    (grind (arith, nat_tests, c.if-key-time.true))
    (c.in_ok-push.ensures.items ∙ ap (λ (l : Line). c.loop-key.lines.items ++ l ∷ []) c.timeout_line.ensures) c.loop-key.invariant

pub loop-key-preserved : goal.loop-key-preserved
loop-key-preserved c =
    passed_over (line c.args.number c.args.time) c.args.time (map (λ p. line c.args.number c.args.time p.1) (due_run c.args.time c.args.self.now))
    c.loop-key.lines.items c.loop-key.key-iterator c.next.new.self c.in-Some.key.now c.in-Some.at.now c.in-Some.ensures.steps
    (grind (arith, nat_tests, c.if-key-time.false)) c.loop-key.invariant

pub returns : goal.returns
returns c =
    passed_all (line c.args.number c.args.time) c.args.time (map (λ p. line c.args.number c.args.time p.1) (due_run c.args.time c.args.self.now))
    c.loop-key.lines.items c.loop-key.key-iterator c.in-None.ensures.steps.0 c.loop-key.invariant
    ∙ due_listed (line c.args.number c.args.time) c.args.time c.args.self.now
