-- The kinds of system messages: each has its number and its name.
use Rattle.std.proofs.Common.{◌≡◌, ℕ, Bool, true, false, cond, List, [], ◌∷◌, ◌≤◌, refl, subst}
use Rattle.std.specs.Prelude.{Option, Some, None, find, slice_get, nat_eq}
use Rattle.std.proofs.lemmas.Option.{slice_get_past}
use lib.Pointwise.{pointwise, bytes_decides}
use Rattle.room_kinds.specs.declared.system.SysKind.{SysKind}
use Rattle.room_kinds.specs.declared.system.SysKind.TheVariants as kinds
use Rattle.room_kinds.specs.Kinds.{number_of}
use Rattle.room_kinds.specs.Names.{all_kinds, name_of, kind_named, kind_at}

-- the kind of a kind's number is that kind
pub number_back : (kind : SysKind) (n : ℕ) → number_of kind ≡ n → kind_at n ≡ Some kind
unfolding kind_at
number_back kind n h = subst (λ m. slice_get all_kinds m ≡ Some kind) h (own kind)
  where
    own : (k : SysKind) → slice_get all_kinds (number_of k) ≡ Some k
    own kinds.Create = refl
    own kinds.CreateDone = refl
    own kinds.CreateRefused = refl
    own kinds.Destroy = refl
    own kinds.DestroyDone = refl
    own kinds.Import = refl
    own kinds.ImportDone = refl
    own kinds.ImportRefused = refl
    own kinds.ImportEnded = refl
    own kinds.Deport = refl
    own kinds.DeportDone = refl
    own kinds.Announce = refl
    own kinds.Register = refl
    own kinds.Withdraw = refl
    own kinds.Bound = refl
    own kinds.Ended = refl
    own kinds.NameReply = refl
    own kinds.PartMake = refl
    own kinds.PartEnd = refl

-- no kind has a number from 19 on
pub none_from : (n : ℕ) → 19 ≤ n → kind_at n ≡ None
unfolding kind_at
none_from n h = slice_get_past all_kinds n h

-- the kind of a kind's name is that kind
pub name_back : (kind : SysKind) (name : List ℕ) → name_of kind ≡ name → kind_named name ≡ Some kind
unfolding kind_named
name_back kind name h = subst (λ w. kind_named w ≡ Some kind) h (own kind)
  where
    own : (k : SysKind) → kind_named (name_of k) ≡ Some k
    own kinds.Create = refl
    own kinds.CreateDone = refl
    own kinds.CreateRefused = refl
    own kinds.Destroy = refl
    own kinds.DestroyDone = refl
    own kinds.Import = refl
    own kinds.ImportDone = refl
    own kinds.ImportRefused = refl
    own kinds.ImportEnded = refl
    own kinds.Deport = refl
    own kinds.DeportDone = refl
    own kinds.Announce = refl
    own kinds.Register = refl
    own kinds.Withdraw = refl
    own kinds.Bound = refl
    own kinds.Ended = refl
    own kinds.NameReply = refl
    own kinds.PartMake = refl
    own kinds.PartEnd = refl

found_here : (p : SysKind → Bool) (x kind : SysKind) (rest : Option SysKind) (b : Bool) → p x ≡ b → (rest ≡ Some kind → p kind ≡ true) → cond b (Some x) rest ≡ Some kind → p kind ≡ true
found_here p x kind rest true e later h = cc
found_here p x kind rest false e later h = later h

found : (p : SysKind → Bool) (xs : List SysKind) (kind : SysKind) → find p xs ≡ Some kind → p kind ≡ true
found p [] kind h = absurd cc
found p (x ∷ xs) kind h = found_here p x kind (find p xs) (p x) refl (found p xs kind) h

-- the kind with a name has that name
pub named_so : (name : List ℕ) (kind : SysKind) → kind_named name ≡ Some kind → name_of kind ≡ name
unfolding kind_named
named_so name kind h = (bytes_decides (name_of kind) name).0 (found (λ k. pointwise nat_eq (name_of k) name) all_kinds kind h)
