use Rattle.std.proofs.Common.{◌≡◌, ℕ, All, length}
use Rattle.controller_mail.specs.MailState.{MailState, HasPriority}
use Rattle.controller_mail.specs.Within.{IsAnswerable, WaitsWithin}
use Rattle.controller_mail.specs.controller_moves.Moves.{FetchesEach}
use Rattle.controller.proofs.moves.fetching.fetch_all.Given as goal

abbrev pub invariant-loop-m : goal.invariant-loop-m
invariant-loop-m l = record {
  within : All HasPriority l.queue.items;
  answerable : (n : ℕ) → All (IsAnswerable n) l.fn.messages.items → All (IsAnswerable n) l.queue.items;
  waits : (n : ℕ) → All (IsAnswerable n) l.fn.messages.items → WaitsWithin n l.fn.controller.mail → WaitsWithin n l.controller.mail;
  rest : (new : MailState) → FetchesEach l.controller.mail l.queue.items new → FetchesEach l.fn.controller.mail l.fn.messages.items new;
  me : l.controller.me ≡ l.fn.controller.me;
  others : l.controller ≡ record l.fn.controller { mail = l.controller.mail };
}

abbrev pub decreases-loop-m : goal.decreases-loop-m
decreases-loop-m l = length l.queue.items
