-- What becomes of two messages of a controller to itself.
use Rattle.std.specs.Prelude.{◌≡◌, List, [], ◌∷◌, ◌++◌, Option, Some, None}
use Rattle.room_kinds.specs.declared.message.Msg.{Msg}

-- what a look gave, as a list
abbrev pub given : Option Msg → List Msg
given None = []
given (Some m) = m ∷ []

-- the first look finds the first message; what the second finds, and then what is left, is the second message
pub record Exchanges (m n : Msg) (first second : Option Msg) (answer : List (List Msg)) : Type 0 where
  pub left : List Msg
  pub found : first ≡ Some m
  pub rest : given second ++ left ≡ n ∷ []
  pub lists : answer ≡ left ∷ []
