use Rattle.check_scopes.specs.class_scopes.Views.{signal_view}
use Rattle.check_scopes.proofs.class_scopes.PortLaws.{more_ports, all_ports}
use Rattle.check_scopes.proofs.class_scopes.TableLaws.{first_seen, first_few}
use Rattle.check_scopes.proofs.class_scopes.ports.ports_in.Goals as goal

pub port_with-requires : goal.port_with-requires
port_with-requires c = first_few signal_view c.args.table.now c.loop-names.entries.now _ c.at.result.now c.requires c.at.ensures

pub loop-names-preserved : goal.loop-names-preserved
loop-names-preserved c =
    more_ports _ c.loop-names.names.now c.loop-names.entries.now _ _ c.loop-names.ports.items _ _ _ _ c.in-len1-up.len_at_least c.in-len1-up-entries.len_at_least c.loop-names.invariant (first_seen signal_view c.args.table.now c.loop-names.entries.now _ c.at.result.now c.at.ensures)
    c.in_ok-port_with.ensures c.in_ok-push.ensures.items

pub returns : goal.returns
returns c = all_ports _ c.loop-names.names.now c.loop-names.entries.now c.loop-names.ports.items _ c.in_default.len_below c.loop-names.invariant
