use Rattle.std.proofs.Common.{◌≡◌, ◌++◌, length, map}
use Rattle.name_tables.specs.name_numbers.Names.{names_of}
use Rattle.check_scopes.specs.class_scopes.Scopes.{ports_in}
use Rattle.check_scopes.specs.class_scopes.Signals.{map_table}
use Rattle.check_scopes.specs.class_scopes.Views.{port_view, signal_view}
use Rattle.check_scopes.proofs.class_scopes.ports.ports_in.Given as goal

abbrev pub invariant-loop-names : goal.invariant-loop-names
invariant-loop-names l =
    map port_view l.ports.items ++ ports_in (map_table signal_view l.table) (names_of l.names) l.entries
    ≡ ports_in (map_table signal_view l.table) (names_of l.fn.names) l.fn.entries

abbrev pub decreases-loop-names : goal.decreases-loop-names
decreases-loop-names l = length l.names
