-- Prompt controllers: before each turn all that a controller had posted to itself was fetched, or 64
-- messages of the priority.
use Rattle.std.specs.Prelude.{◌≡◌, ℕ, ◌<◌, ◌≤◌, ◌⊎◌, true, List, [], ◌∷◌, ◌++◌}
use Rattle.room_kinds.specs.declared.message.Msg.{Msg}
use Rattle.journal.specs.declared.entry.Entry.{Entry}
use Rattle.mail_core.specs.EndLog.{EndLog}
use Rattle.actor_merge.specs.Mail.{lane, given, taken}
use Rattle.actor_world.specs.Journals.{is_turn, fetches_since}

-- after these entries controller c may take a turn
abbrev pub MayTurn : ℕ → List Entry → Type 0
MayTurn c before = (p : ℕ) → p < 6 → (given (lane c c p) c before ≡ taken (lane c c p) c before) ⊎ (64 ≤ fetches_since p 0 before)

-- the turns among these entries, which stand behind those before, were prompt
abbrev pub PromptFrom : ℕ → List Entry → List Entry → Type 0
PromptFrom c before [] = Unit {0}
PromptFrom c before (e ∷ es) = (is_turn e ≡ true → MayTurn c before) × PromptFrom c (before ++ e ∷ []) es

-- all that controller c posted to itself was fetched
pub record OwnFetched (c : ℕ) (es : List Entry) : Type 0 where
  pub all : (p : ℕ) → p < 6 → given (lane c c p) c es ≡ taken (lane c c p) c es

-- of what controller c posted to itself and fetched, the last is what its end posted and took, and what was
-- before is the same
pub record EndsAs (c : ℕ) (before : List Entry) (log : EndLog) : Type 0 where
  pub lists : (p : ℕ) → p < 6 → (x : List Msg) × (given (lane c c p) c before ≡ x ++ log.posted c p) × (taken (lane c c p) c before ≡ x ++ log.taken c p)
