-- Posts one after another, at a mail and at its end.
use Rattle.std.proofs.Common.{◌≡◌, ℕ, ◌+◌, ◌<◌, List, [], ◌∷◌, ◌++◌, length, Option, Some, refl, sym, ap, ◌∙◌, subst, arith}
use Rattle.std.specs.Option.{option_map_or}
use Rattle.room_kinds.specs.declared.message.Msg.{Msg}
use Rattle.journal.specs.declared.entry.Entry.{Entry}
use Rattle.journal.specs.declared.entry.Entry.TheVariants as entry
use Rattle.actor_merge.specs.Parties.{State, post, post_front, stamped}
use Rattle.actor_merge.proofs.Steps.{same_entry}
use Rattle.mail_core.specs.EndLog.{EndLog, posting, posting_all}
use Rattle.controller_mail.specs.MailState.{MailState, mail_alone}
use Rattle.controller_mail.specs.Steps.{Posts}
use Rattle.controller_mail.specs.Within.{IsWithin, AreWithin}
use Rattle.controller_mail.specs.controller_moves.Moves.{PostsEach, PostsFrom}
use Rattle.controller_mail.proofs.Waiting.{posts_within, posts_on}

-- what a post did: the message goes from its controller, and the outbox is shorter by it
pub record Went (c : ℕ) (old new : List Msg) (m : Msg) : Type 0 where
  pub from : m.from.0 ≡ c
  pub shorter : length new < length old

abbrev outbox_or : List Msg → Option (State (Unit {0}) × Entry) → List Msg
outbox_or d o = option_map_or (λ (r : State (Unit {0}) × Entry). r.0.outbox) o d

pub Posts-went : {c : ℕ} {old new : MailState} {m : Msg} → Posts c old new m → Went c old.outbox new.outbox m
unfolding post
Posts-went {c} {old} {new} {m} p = front_went old.outbox p.state
  where
    front_went : (o : List Msg) → post_front c (mail_alone old) o ≡ Some (mail_alone new, entry.Post m.stamp m) → Went c o new.outbox m
    front_went [] e = absurd cc
    front_went (x ∷ rest) e =
        let same : stamped c (old.clock + 1) x ≡ m = cc (same_entry e) in
        let left : rest ≡ new.outbox = ap (outbox_or []) e in
        record {
          from = sym (ap (λ (y : Msg). y.from.0) same);
          shorter = subst (λ o. length o < length (x ∷ rest)) left (omega arith);
        }

PostsEach-push : (c : ℕ) (old mid new : MailState) (ms : List Msg) (m : Msg) → PostsEach c old ms mid → Posts c mid new m → PostsEach c old (ms ++ m ∷ []) new
PostsEach-push c old mid new [] m r p = (new, subst (λ k. Posts c k new m) r p, refl)
PostsEach-push c old mid new (x ∷ ms) m r p = (r.0, r.1, PostsEach-push c r.0 mid new ms m r.2 p)

posting_all-push : (log : EndLog) (ms : List Msg) (m : Msg) → posting_all log (ms ++ m ∷ []) ≡ posting (posting_all log ms) m
posting_all-push log [] m = refl
posting_all-push log (x ∷ ms) m = posting_all-push (posting log x) ms m

-- nothing was posted
pub PostsFrom-none : {c n : ℕ} {k : MailState} {log : EndLog} → PostsFrom c n k k log log
PostsFrom-none = record { messages = []; posts = refl; logged = refl; within = tt }

within-push : (n : ℕ) (ms : List Msg) (m : Msg) → AreWithin n ms → IsWithin n m → AreWithin n (ms ++ m ∷ [])
within-push n [] m h k = (k, tt)
within-push n (x ∷ ms) m h k = (h.0, within-push n ms m h.1 k)

-- one message more
pub PostsFrom-more : {c n : ℕ} {old mid new : MailState} {log log' log'' : EndLog} (m : Msg) → PostsFrom c n old mid log log' → Posts c mid new m → log'' ≡ posting log' m → IsWithin n m
    → PostsFrom c n old new log log''
PostsFrom-more {c} {n} {old} {mid} {new} {log} m f p e within = record {
  messages = f.messages ++ m ∷ [];
  posts = PostsEach-push c old mid new f.messages m f.posts p;
  logged = e ∙ ap (λ l. posting l m) f.logged ∙ sym (posting_all-push log f.messages m);
  within = within-push n f.messages m f.within within;
}

pub ruleset posted_steps = (Posts-went, PostsFrom-none, PostsFrom-more, posts_within, posts_on)
