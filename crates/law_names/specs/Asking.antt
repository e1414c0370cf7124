-- What the actors of a model ask of the layer service.
use Rattle.std.specs.Prelude.{List, [], ◌∷◌}
use Rattle.room_kinds.specs.declared.command.Command.{Command}
use Rattle.room_kinds.specs.declared.command.Command.TheVariants as commands
use Rattle.room_kinds.specs.declared.command.NameCommand.{NameCommand}

-- commands of which each one on names is so
abbrev pub AllAsk : (NameCommand → Type 0) → List Command → Type 0
AllAsk P [] = Unit {0}
AllAsk P (commands.Name c ∷ cs) = P c × AllAsk P cs
AllAsk P (commands.Send p k signal payload prio ∷ cs) = AllAsk P cs
AllAsk P (commands.Defer ∷ cs) = AllAsk P cs
AllAsk P (commands.Recall ∷ cs) = AllAsk P cs
AllAsk P (commands.RecallAll ∷ cs) = AllAsk P cs
AllAsk P (commands.Frame c ∷ cs) = AllAsk P cs
