use Rattle.std.proofs.Common.{◌≡◌, take}
use Rattle.name_tables.specs.name_numbers.Names.{names_of}
use Rattle.check_classes.specs.class_rules.Names.{message_names}
use Rattle.check_classes.proofs.class_rules.names.names_of_messages.Given as goal

abbrev pub invariant-loop-message : goal.invariant-loop-message
invariant-loop-message l = names_of l.names.items ≡ message_names (take l.message-index l.messages)
