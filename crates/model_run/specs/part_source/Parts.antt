-- Parts of the lines of a run, as a source gives them one after another.
use Rattle.std.specs.Prelude.{◌≡◌, ◌<◌, Bool, true, false, List, [], ◌++◌, length, All}
use Rattle.inject_reader.specs.declared.inject_lines.accepted.Line.{Line}
use Rattle.inject_reader.specs.declared.inject_lines.accepted.What.{What}
use Rattle.inject_reader.specs.declared.inject_lines.accepted.What.TheVariants as whats

-- whether a line asks for a message; else it is `settle` or `advance`, which end a part
abbrev pub is_message : What → Bool
is_message whats.Settle = false
is_message (whats.Advance time) = false
is_message (whats.Message target signal payload prio) = true

-- each line of a part asks for a message
abbrev pub IsPart : List Line → Type 0
IsPart lines = All (λ (l : Line). is_message l.what ≡ true) lines

-- each of these lines is `settle` or `advance`
abbrev pub AreSettles : List Line → Type 0
AreSettles lines = All (λ (l : Line). is_message l.what ≡ false) lines

-- how the lines so far become more: by some lines without a message, and behind at least one of them a part with
-- at least one line; or, where no part is left, by those lines alone
pub record NextPart (before after part : List Line) (more : Bool) : Type 0 where
  pub settles : List Line
  pub are : AreSettles settles
  pub is : after ≡ before ++ (settles ++ part)
  pub of : IsPart part
  pub ends : more ≡ true → 0 < length settles
  pub begins : more ≡ true → 0 < length part
  pub over : more ≡ false → part ≡ []
