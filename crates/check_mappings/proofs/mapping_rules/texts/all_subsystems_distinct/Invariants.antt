use Rattle.std.proofs.Common.{◌≡◌, map, drop}
use Rattle.std.specs.List.{list_all}
use Rattle.name_tables.specs.distinct_names.Distinct.{is_distinct}
use Rattle.check_mappings.specs.mapping_rules.Rules.{Wired, mapped_texts}
use Rattle.check_mappings.specs.mapping_rules.Wireds.{wired_view}
use Rattle.check_mappings.proofs.mapping_rules.texts.all_subsystems_distinct.Given as goal

abbrev pub invariant-loop-subsystem : goal.invariant-loop-subsystem
invariant-loop-subsystem l =
    list_all (λ (s : Wired). is_distinct (mapped_texts s.items)) (map wired_view (drop l.subsystem-index l.wired))
    ≡ list_all (λ (s : Wired). is_distinct (mapped_texts s.items)) (map wired_view l.wired)
