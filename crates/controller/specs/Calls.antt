-- What the calls of a controller do.
-- All of the outbox was posted; a poll's messages were fetched, promptly; messages that were left
-- were fetched, in order; one turn was taken, or none where nothing waits for its turn; the
-- environment posted a message. After want of memory a controller gives no other answer.
use Rattle.std.specs.Prelude.{◌≡◌, ℕ, ◌+◌, ◌<◌, ◌≤◌, ◌⊎◌, Bool, true, false, List, [], ◌∷◌, ◌++◌, length, All, None}
use Rattle.room_kinds.specs.declared.message.Msg.{Msg}
use Rattle.journal.specs.declared.entry.Entry.{Entry}
use Rattle.journal.specs.declared.entry.Entry.TheVariants as entry
use Rattle.mail_core.specs.EndLog.{EndLog, posting}
use Rattle.mail_core.specs.Takes.{PollsBoxes}
use Rattle.actor_merge.specs.Parties.{next_of, stamped}
use Rattle.actor_world.specs.Journals.{is_turn, fetches_since}
use Rattle.controller_mail.specs.MailState.{EnvironmentState, pending_of}
use Rattle.controller_mail.specs.Steps.{environment_after}
use Rattle.controller_mail.specs.Within.{IsWithin}
use Rattle.controller_actors.specs.declared.plant.Plant.{Plant}
use Rattle.controller.specs.Controllers.{Goes, EndGoes}
use Rattle.controller.specs.View.{Controller}

-- an entry posts
abbrev pub is_post : Entry → Bool
is_post (entry.Post stamp m) = true
is_post (entry.Fetch stamp m) = false
is_post (entry.Turn stamp from sent did notes) = false
is_post (entry.Start who state notes) = false

-- an entry fetches
abbrev pub is_fetch : Entry → Bool
is_fetch (entry.Fetch stamp m) = true
is_fetch (entry.Post stamp m) = false
is_fetch (entry.Turn stamp from sent did notes) = false
is_fetch (entry.Start who state notes) = false

-- entries that fetch these messages, one each, in order
pub data AreFetches : List Msg → List Entry → Type 0 where
  no_fetches : AreFetches [] []
  one_more : {ms : List Msg} {es : List Entry} (e : Entry) (m : Msg) → (s : _) × (e ≡ entry.Fetch s m) → AreFetches ms es → AreFetches (m ∷ ms) (e ∷ es)

-- an entry that posts does so to one of so many controllers, at one of the six priorities
abbrev pub IsPostWithin : ℕ → Entry → Type 0
IsPostWithin controllers (entry.Post stamp m) = IsWithin controllers m
IsPostWithin controllers (entry.Fetch stamp m) = Unit {0}
IsPostWithin controllers (entry.Turn stamp from sent did notes) = Unit {0}
IsPostWithin controllers (entry.Start who state notes) = Unit {0}

-- the same of each of these entries
abbrev pub PostsWithin : ℕ → List Entry → Type 0
PostsWithin controllers [] = Unit {0}
PostsWithin controllers (e ∷ es) = IsPostWithin controllers e × PostsWithin controllers es

-- all of the outbox was posted, to controllers that there are
pub record PostsAll (plant : Plant) (old new : Controller) (log log' : EndLog) : Type 0 where
  pub entries : List Entry
  pub goes : Goes plant old new entries
  pub end : EndGoes old.me.0 log log' entries
  pub posts : All (λ e. is_post e ≡ true) entries
  pub within : PostsWithin (length plant.wiring.controllers) entries
  pub empty : new.mail.outbox ≡ []

-- a poll of so many boxes: the messages that it gave were fetched; at each priority the end has taken
-- all that it had posted to its own party, or 64 messages were fetched
pub record Polls (plant : Plant) (in_box : ℕ → ℕ → ℕ → ℕ → Type 0) (boxes : ℕ) (old new : Controller) (log log' : EndLog) (count : ℕ) : Type 0 where
  pub gave : List Msg
  pub entries : List Entry
  pub goes : Goes plant old new entries
  pub end : EndGoes old.me.0 log log' entries
  pub fetches : AreFetches gave entries
  pub counted : count ≡ length gave
  pub looks : PollsBoxes in_box boxes log log' gave
  pub prompt : (p : ℕ) → p < 6 → (log'.posted old.me.0 p ≡ log'.taken old.me.0 p) ⊎ (64 ≤ fetches_since p 0 entries)
  pub outbox : new.mail.outbox ≡ old.mail.outbox
  pub turns : new.mail.turns ≡ old.mail.turns

-- a poll that was refused: what the end took was fetched, but for at most the message that it took last
pub record IsCutOff (old new : Controller) (log log' : EndLog) : Type 0 where
  pub entries : List Entry
  pub unfetched : List Entry
  pub few : length unfetched ≤ 1
  pub journal : new.mail.journal ≡ old.mail.journal ++ entries
  pub end : EndGoes old.me.0 log log' (entries ++ unfetched)

-- these messages were fetched, in order
pub record FetchesLeft (plant : Plant) (old new : Controller) (left : List Msg) : Type 0 where
  pub entries : List Entry
  pub goes : Goes plant old new entries
  pub fetches : AreFetches left entries
  pub outbox : new.mail.outbox ≡ old.mail.outbox
  pub turns : new.mail.turns ≡ old.mail.turns

-- one turn was taken, or none, where no message waits for its turn
pub data Turns (plant : Plant) (old new : Controller) (took : Bool) : Type 0 where
  took_one : (e : Entry) → took ≡ true → is_turn e ≡ true → Goes plant old new (e ∷ []) → new.mail.turns ≡ old.mail.turns + 1 → Turns plant old new took
  took_none : took ≡ false → next_of (pending_of old.mail.pending) ≡ None → new ≡ old → Turns plant old new took

-- the environment, party me, posted this message
pub record PostsLine (me : ℕ) (old new : EnvironmentState) (log log' : EndLog) (m : Msg) : Type 0 where
  pub state : new ≡ environment_after old (stamped me (old.clock + 1) m)
  pub end : log' ≡ posting log (stamped me (old.clock + 1) m)
