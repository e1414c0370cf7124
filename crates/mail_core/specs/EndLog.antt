-- What an end of the mail has done, as contracts see it.
use Rattle.std.specs.Prelude.{ℕ, ◌+◌, ◌-◌, ◌^◌, ◌<◌, ◌≡◌, ◌==◌, ◌&&◌, min, if◌then◌else◌, List, [], ◌∷◌, ◌++◌, Option, Some, None}
use Rattle.room_kinds.specs.declared.message.Msg.{Msg}

-- which party of how many it is; the messages posted, by receiver and priority; those taken, by sender and priority;
-- and how often it looked at each box
pub record EndLog : Type 0 where
  pub party : ℕ
  pub parties : ℕ
  pub posted : ℕ → ℕ → List Msg
  pub taken : ℕ → ℕ → List Msg
  pub looks : ℕ → ℕ

-- the lists with a message more at the end of one lane
abbrev pub gained : (ℕ → ℕ → List Msg) → ℕ → ℕ → Msg → ℕ → ℕ → List Msg
gained lists k p m k' p' = if (k' == k) && (p' == p) then lists k' p' ++ m ∷ [] else lists k' p'

-- the counts with one look more at a box; a count stays at its last value
abbrev pub looked : (ℕ → ℕ) → ℕ → ℕ → ℕ
looked looks b b' = if b' == b then min (looks b' + 1) (2 ^ 64 - 1) else looks b'

-- after a message was posted
unfoldable pub posting : EndLog → Msg → EndLog
posting log m = record log { posted = gained log.posted m.to.0 m.prio.0 m }

-- after a look at a box that gave a message, or none
unfoldable pub taking : EndLog → ℕ → Option Msg → EndLog
taking log b None = record log { looks = looked log.looks b }
taking log b (Some m) = record log { taken = gained log.taken m.from.0 m.prio.0 m; looks = looked log.looks b }

-- an end that did nothing yet
abbrev pub fresh : ℕ → ℕ → EndLog
fresh n k = record { party = k; parties = n; posted = λ _ _. []; taken = λ _ _. []; looks = λ _. 0 }

-- after messages were posted in order
abbrev pub posting_all : EndLog → List Msg → EndLog
posting_all log [] = log
posting_all log (m ∷ ms) = posting_all (posting log m) ms

-- this party, of so many, may post this message
pub record CanPost (party parties : ℕ) (m : Msg) : Type 0 where
  pub from : m.from.0 ≡ party
  pub to : m.to.0 + 1 < parties
  pub prio : m.prio.0 < 6

abbrev pub CanPostAll : ℕ → ℕ → List Msg → Type 0
CanPostAll party parties [] = Unit {0}
CanPostAll party parties (m ∷ ms) = CanPost party parties m × CanPostAll party parties ms
