-- The form of the messages of each kind, as a whole: from whom to whom, and how many numbers.
use Rattle.std.specs.Prelude.{ℕ, ℤ, pos, ◌==◌, ◌&&◌, Bool, false, not, List, [], ◌∷◌, length}
use Rattle.room_kinds.specs.declared.numbers.Endpoint.{Endpoint}
use Rattle.room_kinds.specs.declared.system.SysKind.{SysKind}
use Rattle.room_kinds.specs.declared.system.SysKind.TheVariants as kinds
use Rattle.room_wiring.specs.declared.tables.Tables.{Tables}
use Rattle.actor_duties.specs.Frame.{is_request, is_answer, is_forth, is_back, is_announced, is_part_told}

-- whether a message of a kind may go from this source to that target
abbrev pub may_go : Tables → ℕ → SysKind → Endpoint → Endpoint → Bool
may_go t me kinds.Create x o = is_request t me x o
may_go t me kinds.CreateDone o x = is_answer t me o x && not (o.generation.0 == 0)
may_go t me kinds.CreateRefused o x = is_answer t me o x && (o.generation.0 == 0)
may_go t me kinds.Destroy x o = is_request t me x o
may_go t me kinds.DestroyDone o x = is_answer t me o x
may_go t me kinds.Import i h = is_forth t me i h
may_go t me kinds.ImportDone h i = is_back t me h i
may_go t me kinds.ImportRefused h i = is_back t me h i
may_go t me kinds.ImportEnded h i = is_back t me h i
may_go t me kinds.Deport i h = is_forth t me i h
may_go t me kinds.DeportDone h i = is_back t me h i
may_go t me kinds.Announce x y = is_announced t me x y
may_go t me kinds.Register x y = false
may_go t me kinds.Withdraw x y = false
may_go t me kinds.Bound x y = false
may_go t me kinds.Ended x y = false
may_go t me kinds.NameReply x y = false
may_go t me kinds.PartMake o again = is_part_told t me o again
may_go t me kinds.PartEnd o again = is_part_told t me o again

-- how many numbers a message of a kind has
abbrev pub numbers_of : SysKind → ℕ
numbers_of kinds.Create = 0
numbers_of kinds.CreateDone = 0
numbers_of kinds.CreateRefused = 1
numbers_of kinds.Destroy = 0
numbers_of kinds.DestroyDone = 1
numbers_of kinds.Import = 0
numbers_of kinds.ImportDone = 0
numbers_of kinds.ImportRefused = 1
numbers_of kinds.ImportEnded = 0
numbers_of kinds.Deport = 0
numbers_of kinds.DeportDone = 0
numbers_of kinds.Announce = 1
numbers_of kinds.Register = 0
numbers_of kinds.Withdraw = 0
numbers_of kinds.Bound = 0
numbers_of kinds.Ended = 0
numbers_of kinds.NameReply = 0
numbers_of kinds.PartMake = 0
numbers_of kinds.PartEnd = 0

-- whether a message is of the form of its kind
abbrev pub has_form : Tables → ℕ → SysKind → List ℤ → Endpoint → Endpoint → Bool
has_form t me kind numbers x y = (length numbers == numbers_of kind) && may_go t me kind x y

-- the first of the numbers; 0 where there is none
abbrev pub first_number : List ℤ → ℤ
first_number [] = pos 0
first_number (n ∷ ns) = n
