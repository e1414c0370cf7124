use Rattle.std.proofs.Common.{◌<◌, ◌≤◌, arith}
use Rattle.std.proofs.lemmas.Result.{err_from_is_err_and}
use Rattle.room_outside.proofs.line_text.Going.{going_on, going_breaks}
use Rattle.binding_expand.specs.tree_text.Text.{port_ties, ports_ties, ports_told}
use Rattle.binding_expand.proofs.tree_text.Walking.{going_from_none, going_number, going_numbers_end}
use Rattle.binding_expand.proofs.tree_text.text.write_ports.Goals as goal

pub loop-port-init : goal.loop-port-init
loop-port-init g c = going_from_none (port_ties c.args.wiring.now c.args.tie c.args.s.0) _ _

pub loop-port-preserved : goal.loop-port-preserved
loop-port-preserved g c =
    let more : c.loop-port.port < (ports_told c.args.wiring.now c.args.s.0) = omega (arith, c.ports_told-port-end.ensures) in
    going_on _ _ _ _ _ _ (going_number (port_ties c.args.wiring.now c.args.tie c.args.s.0) _ _ _ _ _ more c.loop-port.invariant) c.in_ok-write_port.ensures

pub returns : goal.returns
unfolding ports_ties
returns g c =
    let none : (ports_told c.args.wiring.now c.args.s.0) ≤ c.loop-port.port = omega (arith, c.ports_told-port-end.ensures) in
    going_numbers_end (port_ties c.args.wiring.now c.args.tie c.args.s.0) _ _ _ _ _ none c.loop-port.invariant

pub returns-in_err-write_port : goal.returns-in_err-write_port
unfolding ports_ties
returns-in_err-write_port g c =
    let p = err_from_is_err_and c.from_residual.result c.from_residual.ensures.1 in
    let more : c.loop-port.port < (ports_told c.args.wiring.now c.args.s.0) = omega (arith, c.ports_told-port-end.ensures) in
    rw p.1 (going_breaks _ _ _ _ _ _ (going_number (port_ties c.args.wiring.now c.args.tie c.args.s.0) _ _ _ _ _ more c.loop-port.invariant) c.in_err-write_port.ensures)
