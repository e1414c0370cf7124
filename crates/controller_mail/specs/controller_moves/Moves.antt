-- What a controller's mail posts and fetches at its end of the mailboxes.
-- `PostsFrom`: what left the outbox is what the end posted meanwhile. `PollsInto`: what the boxes
-- gave in a poll was fetched, and at each priority the end has taken all that it had posted to its
-- own party, or 64 messages were fetched.
use Rattle.std.specs.Prelude.{◌≡◌, ℕ, ◌<◌, ◌≤◌, ◌==◌, ◌⊎◌, List, [], ◌∷◌, length}
use Rattle.std.specs.List.{count_by}
use Rattle.room_kinds.specs.declared.message.Msg.{Msg}
use Rattle.mail_core.specs.EndLog.{EndLog, posting_all}
use Rattle.mail_core.specs.Takes.{PollsBox, PollsBoxes}
use Rattle.controller_mail.specs.MailState.{MailState}
use Rattle.controller_mail.specs.Within.{AreWithin}
use Rattle.controller_mail.specs.Steps.{Fetches, Posts}

-- controller c posts these messages from its outbox, one after another, each as it goes on its way
abbrev pub PostsEach : ℕ → MailState → List Msg → MailState → Type 0
PostsEach c old [] new = new ≡ old
PostsEach c old (m ∷ ms) new = (mid : MailState) × Posts c old mid m × PostsEach c mid ms new

-- these messages are fetched, one after another
abbrev pub FetchesEach : MailState → List Msg → MailState → Type 0
FetchesEach old [] new = new ≡ old
FetchesEach old (m ∷ ms) new = (mid : MailState) × Fetches old mid m × FetchesEach mid ms new

-- what controller c, one of so many, posts from its outbox is what its end posts meanwhile, and it goes to
-- controllers that there are, at priorities that there are
pub record PostsFrom (c controllers : ℕ) (old new : MailState) (log log' : EndLog) : Type 0 where
  pub messages : List Msg
  pub posts : PostsEach c old messages new
  pub logged : log' ≡ posting_all log messages
  pub within : AreWithin controllers messages

-- a poll of one box, whose messages were fetched, one after another
pub record PollsBoxInto (in_box : ℕ → ℕ → ℕ → ℕ → Type 0) (b : ℕ) (old new : MailState) (log log' : EndLog) : Type 0 where
  pub gave : List Msg
  pub fetches : FetchesEach old gave new
  pub looks : PollsBox in_box b log log' gave

-- how many of these messages are of a priority
abbrev pub count_at : ℕ → List Msg → ℕ
count_at p ms = count_by (λ (m : Msg). m.prio.0 == p) ms

-- a poll of so many boxes: what they give is fetched; and at each priority the end has taken all that it
-- had posted to its own party, or 64 messages were fetched
pub record PollsInto (in_box : ℕ → ℕ → ℕ → ℕ → Type 0) (boxes : ℕ) (old new : MailState) (log log' : EndLog) (count : ℕ) : Type 0 where
  pub gave : List Msg
  pub fetches : FetchesEach old gave new
  pub counted : count ≡ length gave
  pub looks : PollsBoxes in_box boxes log log' gave
  pub prompt : (p : ℕ) → p < 6 → (log'.posted log.party p ≡ log'.taken log.party p) ⊎ (64 ≤ count_at p gave)
