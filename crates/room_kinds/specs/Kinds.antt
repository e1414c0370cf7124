-- The numbers of the kinds of system messages.
use Rattle.std.specs.Prelude.{ℕ}
use Rattle.room_kinds.specs.declared.system.SysKind.{SysKind}
use Rattle.room_kinds.specs.declared.system.SysKind.TheVariants as kinds

-- from 0, in order of declaration
abbrev pub number_of : SysKind → ℕ
number_of kinds.Create = 0
number_of kinds.CreateDone = 1
number_of kinds.CreateRefused = 2
number_of kinds.Destroy = 3
number_of kinds.DestroyDone = 4
number_of kinds.Import = 5
number_of kinds.ImportDone = 6
number_of kinds.ImportRefused = 7
number_of kinds.ImportEnded = 8
number_of kinds.Deport = 9
number_of kinds.DeportDone = 10
number_of kinds.Announce = 11
number_of kinds.Register = 12
number_of kinds.Withdraw = 13
number_of kinds.Bound = 14
number_of kinds.Ended = 15
number_of kinds.NameReply = 16
number_of kinds.PartMake = 17
number_of kinds.PartEnd = 18
