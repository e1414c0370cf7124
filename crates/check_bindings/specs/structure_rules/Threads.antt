-- The threads of subsystem classes.
use Rattle.std.specs.Prelude.{ℕ, Bool, true, ◌&&◌, nat_le, List, length}
use Rattle.std.specs.List.{list_all}
use Rattle.name_tables.specs.distinct_names.Distinct.{is_distinct}
use Rattle.room_ast.specs.Trees.{ModelTree, ClassTree, ASystem, ASubsystem, AnActor, AProtocol, AData}
use Rattle.check_mappings.specs.mapping_rules.Rules.{thread_names}

-- Names of threads are distinct, and there are at most 32.
abbrev pub are_few : List (List ℕ) → Bool
are_few names = nat_le (length names) 32 && is_distinct names

-- The threads of a SubSystemClass have distinct names, and there are at most 32. Other classes have no threads.
abbrev pub has_few_threads : ClassTree → Bool
has_few_threads (ASystem s) = true
has_few_threads (ASubsystem s) = are_few (thread_names s.items)
has_few_threads (AnActor a) = true
has_few_threads (AProtocol p) = true
has_few_threads (AData d) = true

-- The threads of each SubSystemClass have distinct names, and there are at most 32.
unfoldable pub threads_are_few : ModelTree → Bool
threads_are_few m = list_all has_few_threads m.classes
