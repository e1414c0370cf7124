-- What the controllers of a run that has ended tell.
use Rattle.std.specs.Prelude.{◌≡◌, ℕ, ◌+◌, true, List, [], ◌∷◌, ◌++◌, map, length}
use Rattle.journal.specs.declared.entry.Entry.{Entry}
use Rattle.journal.specs.declared.entry.Left.{Left}
use Rattle.actor_world.specs.Journals.{left}
use Rattle.controller_mail.specs.MailState.{messages_in}
use Rattle.controller.specs.View.{Controller}

-- the journals of controllers, in order
abbrev pub journals_in : List Controller → List (List Entry)
journals_in ks = map (λ (k : Controller). k.mail.journal) ks

-- what waits for controllers, the first of which has this number
abbrev pub left_from : ℕ → List Controller → List Left
left_from c [] = []
left_from c (k ∷ ks) = map (left c true) (messages_in k.mail.pending) ++ left_from (c + 1) ks

-- a controller keeps a list for each of the six priorities
abbrev pub HasSixLists : Controller → Type 0
HasSixLists k = length k.mail.pending ≡ 6

-- the same of each of them
abbrev pub AllHaveSix : List Controller → Type 0
AllHaveSix [] = Unit {0}
AllHaveSix (k ∷ ks) = HasSixLists k × AllHaveSix ks

-- of these controllers all before number c have told their journals and what waits for them, and the rest
-- have not
pub record AreTold (c : ℕ) (ks rest : List Controller) (journals : List (List Entry)) (lefts : List Left) : Type 0 where
  pub count : c + length rest ≡ length ks
  pub journals_are : journals ++ journals_in rest ≡ journals_in ks
  pub left_is : lefts ++ left_from c rest ≡ left_from 0 ks
  pub six : AllHaveSix rest → AllHaveSix ks
