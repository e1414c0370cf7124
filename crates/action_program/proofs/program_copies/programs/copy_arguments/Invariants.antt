use Rattle.std.proofs.Common.{◌≡◌, map, take}
use Rattle.action_program.specs.Numbered.{argument_view}
use Rattle.action_program.proofs.program_copies.programs.copy_arguments.Given as goal

abbrev pub invariant-loop-argument : goal.invariant-loop-argument
invariant-loop-argument l = map argument_view l.copies.items ≡ map argument_view (take l.argument-index l.arguments)
