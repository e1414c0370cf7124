use Rattle.std.proofs.Common.{◌≡◌, map, drop}
use Rattle.std.specs.List.{list_all}
use Rattle.check_mappings.specs.mapping_rules.Rules.{subsystem_allowed}
use Rattle.check_mappings.specs.mapping_rules.Wireds.{wired_view}
use Rattle.check_mappings.proofs.mapping_rules.allowed.all_subsystems_allowed.Given as goal

abbrev pub invariant-loop-subsystem : goal.invariant-loop-subsystem
invariant-loop-subsystem l = list_all (subsystem_allowed l.classes) (map wired_view (drop l.subsystem-index l.wired)) ≡ list_all (subsystem_allowed l.classes) (map wired_view l.wired)
