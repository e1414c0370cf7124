-- The names of the kinds of system messages.
use Rattle.std.specs.Prelude.{ℕ, List, [], ◌∷◌, Option, nat_eq, find, slice_get, codes}
use lib.Pointwise.{pointwise}
use Rattle.room_kinds.specs.declared.system.SysKind.{SysKind}
use Rattle.room_kinds.specs.declared.system.SysKind.TheVariants as kinds

-- the kinds, in order of number
abbrev pub all_kinds : List SysKind
all_kinds =
    kinds.Create ∷ kinds.CreateDone ∷ kinds.CreateRefused ∷ kinds.Destroy ∷ kinds.DestroyDone
    ∷ kinds.Import ∷ kinds.ImportDone ∷ kinds.ImportRefused ∷ kinds.ImportEnded ∷ kinds.Deport
    ∷ kinds.DeportDone ∷ kinds.Announce ∷ kinds.Register ∷ kinds.Withdraw ∷ kinds.Bound
    ∷ kinds.Ended ∷ kinds.NameReply ∷ kinds.PartMake ∷ kinds.PartEnd ∷ []

-- the name of a kind
abbrev pub name_of : SysKind → List ℕ
name_of kinds.Create = codes "Create"
name_of kinds.CreateDone = codes "CreateDone"
name_of kinds.CreateRefused = codes "CreateRefused"
name_of kinds.Destroy = codes "Destroy"
name_of kinds.DestroyDone = codes "DestroyDone"
name_of kinds.Import = codes "Import"
name_of kinds.ImportDone = codes "ImportDone"
name_of kinds.ImportRefused = codes "ImportRefused"
name_of kinds.ImportEnded = codes "ImportEnded"
name_of kinds.Deport = codes "Deport"
name_of kinds.DeportDone = codes "DeportDone"
name_of kinds.Announce = codes "Announce"
name_of kinds.Register = codes "Register"
name_of kinds.Withdraw = codes "Withdraw"
name_of kinds.Bound = codes "Bound"
name_of kinds.Ended = codes "Ended"
name_of kinds.NameReply = codes "NameReply"
name_of kinds.PartMake = codes "PartMake"
name_of kinds.PartEnd = codes "PartEnd"

-- the kind with a name
unfoldable pub kind_named : List ℕ → Option SysKind
kind_named name = find (λ kind. pointwise nat_eq (name_of kind) name) all_kinds

-- the kind of a number
unfoldable pub kind_at : ℕ → Option SysKind
kind_at n = slice_get all_kinds n
