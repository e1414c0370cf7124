-- What commands, initial transitions and withdrawals do to what controllers are told of each other:
-- nothing. They tell of no life, and what actors keep for later isn't the system's.
use Rattle.std.proofs.Common.{◌≡◌, ℕ, ◌==◌, Bool, true, false, if◌then◌else◌, List, [], ◌∷◌, ◌++◌, Option, Some, None, ℤ, refl, sym, ap, ◌∙◌, append-nil, append_assoc}
use Rattle.std.specs.List.{AllByRecursion}
use Rattle.room_kinds.specs.declared.message.Msg.{Msg}
use Rattle.room_kinds.specs.declared.numbers.Incarnation.{Incarnation}
use Rattle.room_kinds.specs.declared.command.Command.{Command}
use Rattle.room_kinds.specs.declared.command.Command.TheVariants as commands
use Rattle.room_kinds.specs.declared.command.FrameCommand.{FrameCommand}
use Rattle.room_kinds.specs.declared.command.FrameCommand.TheVariants as frames
use Rattle.room_wiring.specs.declared.tables.Tables.{Tables}
use Rattle.actor_duties.specs.Words.{updated}
use Rattle.actor_duties.specs.State.{Frame}
use Rattle.actor_duties.specs.Frame.{FrameDone, frame_request}
use Rattle.actor_duties.specs.Links.{name_request, end_of}
use Rattle.actor_duties.specs.Commands.{Content, Kept, defer, recall, recall_all}
use Rattle.actor_world.specs.Behaviour.{Behaviour}
use Rattle.actor_world.specs.Body.{Body, Doing, sent_at, apply_all}
use Rattle.actor_world.specs.Turns.{doing, begun, all_begun, gone, all_gone, closing, with_frame}
use Rattle.actor_world.specs.Directories.{SendsOpenly, IsOpen}
use Rattle.law_agreement.proofs.Plain.{IsPlain, AllPlain, plain_append, plain_request, plain_name_request, plain_end_of, plain_send, plain_broadcast}
use Rattle.law_agreement.proofs.Lists.{all_append}
use Rattle.actor_world.proofs.TrueTurns.{request_told}

-- messages of which none is the system's
abbrev pub NotSystem : List Msg → Type 0
NotSystem ms = AllByRecursion (λ (m : Msg). (m.prio.0 == 0) ≡ false) ms

-- what actors keep for later isn't the system's, and what comes back of it
abbrev pub KeepsOpen : {M : Type 0} → Doing M → Type 0
KeepsOpen d = NotSystem d.back × ((n : ℕ) → NotSystem (d.body.deferred n))

-- from d to e the frame service's lives and directory stay, and what is sent tells of no life
pub record Carries {M : Type 0} (d e : Doing M) : Type 0 where
  pub lives : e.body.frame.lives ≡ d.body.frame.lives
  pub told : e.body.frame.told ≡ d.body.frame.told
  pub more : List Msg
  pub sent : e.sent ≡ d.sent ++ more
  pub plain : AllPlain more
  pub kept : KeepsOpen d → KeepsOpen e

pub carries_same : {M : Type 0} (d : Doing M) → Carries d d
carries_same d = record { lives = refl; told = refl; more = []; sent = sym (append-nil d.sent); plain = tt; kept = λ h. h }

pub carries_two : {M : Type 0} (d e f : Doing M) → Carries d e → Carries e f → Carries d f
carries_two d e f h k =
    record {
      lives = k.lives ∙ h.lives;
      told = k.told ∙ h.told;
      more = h.more ++ k.more;
      sent = k.sent ∙ ap (λ (z : List Msg). z ++ k.more) h.sent ∙ append_assoc d.sent h.more k.more;
      plain = plain_append h.more k.more h.plain k.plain;
      kept = λ q. k.kept (h.kept q);
    }

pub updated_open : (f : ℕ → List Msg) (at : ℕ) (ms : List Msg) → ((n : ℕ) → NotSystem (f n)) → NotSystem ms → (n : ℕ) → NotSystem (updated f at ms n)
unfolding updated
updated_open f at ms h k n = go (n == at)
  where
    go : (b : Bool) → NotSystem (if b then ms else f n)
    go true = k
    go false = h n

-- the message in hand, if there is one, isn't the system's
abbrev pub HandOpen : Option Msg → Type 0
HandOpen None = Unit {0}
HandOpen (Some m) = (m.prio.0 == 0) ≡ false

abbrev pub KeptOpen : Kept → Type 0
KeptOpen k = NotSystem k.deferred × NotSystem k.back

defer_open : (b : Bool) (m : Option Msg) (ms : List Msg) → HandOpen m → NotSystem ms → KeptOpen (defer b m ms)
unfolding defer
defer_open true m ms h k = (k, tt)
defer_open false (Some m) ms h k = (all_append _ ms (m ∷ []) k (h, tt), tt)
defer_open false None ms h k = (k, tt)

recall_open : (ms : List Msg) → NotSystem ms → KeptOpen (recall ms)
unfolding recall
recall_open [] h = (tt, tt)
recall_open (m ∷ ms) h = (h.1, (h.0, tt))

recall_all_open : (ms : List Msg) → NotSystem ms → KeptOpen (recall_all ms)
unfolding recall_all
recall_all_open ms h = (tt, h)

keeping_open : {M : Type 0} (d : Doing M) (slot : ℕ) (k : Kept) → KeepsOpen d → KeptOpen k
    → NotSystem (k.back ++ d.back) × ((n : ℕ) → NotSystem (updated d.body.deferred slot k.deferred n))
keeping_open d slot k h q = (all_append _ k.back d.back q.1 h.0, updated_open d.body.deferred slot k.deferred h.1 q.0)

pub request_lives : (t : Tables) (me : ℕ) (f : Frame) (x : Incarnation) (c : FrameCommand) → (frame_request t me f x c).now.lives ≡ f.lives
request_lives t me f x (frames.Incarnate reference index) = refl
request_lives t me f x (frames.Destroy reference index) = refl
request_lives t me f x (frames.Import reference index id) = refl
request_lives t me f x (frames.Deport reference index) = refl

module _ {M : Type 0} (t : Tables) (me : ℕ) where
  sent_at_plain : (d : Doing M) (x : Incarnation) (p : ℕ) (k : Option ℤ) (c : Content) → (c.prio.0 == 0) ≡ false → AllPlain (sent_at t me d x p k c).messages
  sent_at_plain d x p (Some k) c h = plain_send t me d.body.frame d.body.links x p k c h
  sent_at_plain d x p None c h = plain_broadcast t me d.body.frame d.body.links x p c h

  pub apply_all_carries : (x : Incarnation) (m : Option Msg) → HandOpen m → (cs : List Command) → SendsOpenly cs → (d : Doing M) → Carries d (apply_all t me x m cs d)
  apply_all_carries x m hand [] clear d = carries_same d
  apply_all_carries x m hand (commands.Send p k signal payload prio ∷ cs) clear d =
      let c : Content = record { signal = signal; payload = payload; prio = prio } in
      carries_two d _ _
      (record { lives = refl; told = refl; more = (sent_at t me d x p k c).messages; sent = refl; plain = sent_at_plain d x p k c clear.0; kept = λ h. h })
      (apply_all_carries x m hand cs clear.1 _)
  apply_all_carries x m hand (commands.Defer ∷ cs) clear d =
      carries_two d _ _
      (record {
        lives = refl;
        told = refl;
        more = [];
        sent = sym (append-nil d.sent);
        plain = tt;
        kept = λ h. keeping_open d x.slot.0 (defer d.kept m (d.body.deferred x.slot.0)) h (defer_open d.kept m (d.body.deferred x.slot.0) hand (h.1 x.slot.0));
      })
      (apply_all_carries x m hand cs clear _)
  apply_all_carries x m hand (commands.Recall ∷ cs) clear d =
      carries_two d _ _
      (record {
        lives = refl;
        told = refl;
        more = [];
        sent = sym (append-nil d.sent);
        plain = tt;
        kept = λ h. keeping_open d x.slot.0 (recall (d.body.deferred x.slot.0)) h (recall_open (d.body.deferred x.slot.0) (h.1 x.slot.0));
      })
      (apply_all_carries x m hand cs clear _)
  apply_all_carries x m hand (commands.RecallAll ∷ cs) clear d =
      carries_two d _ _
      (record {
        lives = refl;
        told = refl;
        more = [];
        sent = sym (append-nil d.sent);
        plain = tt;
        kept = λ h. keeping_open d x.slot.0 (recall_all (d.body.deferred x.slot.0)) h (recall_all_open (d.body.deferred x.slot.0) (h.1 x.slot.0));
      })
      (apply_all_carries x m hand cs clear _)
  apply_all_carries x m hand (commands.Frame c ∷ cs) clear d =
      carries_two d _ _
      (record {
        lives = request_lives t me d.body.frame x c;
        told = request_told t me d.body.frame x c;
        more = (frame_request t me d.body.frame x c).sent;
        sent = refl;
        plain = plain_request t me d.body.frame x c;
        kept = λ h. h;
      })
      (apply_all_carries x m hand cs clear _)
  apply_all_carries x m hand (commands.Name c ∷ cs) clear d =
      carries_two d _ _
      (record {
        lives = refl;
        told = refl;
        more = (name_request t me d.body.links x c).sent;
        sent = refl;
        plain = plain_name_request t me d.body.links x c;
        kept = λ h. h;
      })
      (apply_all_carries x m hand cs clear _)

-- a message that closes a duty tells of no life
abbrev pub IsPlainLast : Option Msg → Type 0
IsPlainLast None = Unit {0}
IsPlainLast (Some m) = IsPlain m

module _ {M : Type 0} (model : Behaviour M) (clear : IsOpen model) (t : Tables) (me : ℕ) where
  begun_carries : (x : Incarnation) (d : Doing M) → Carries d (begun model t me x d)
  begun_carries x d =
      let k = apply_all_carries t me x None tt (model.begin x).commands (clear.begin x) _ in
      record {
        lives = k.lives;
        told = k.told;
        more = k.more;
        sent = k.sent;
        plain = k.plain;
        kept = λ h. k.kept (h.0, updated_open d.body.deferred x.slot.0 [] h.1 tt);
      }

  all_begun_carries : (xs : List Incarnation) (d : Doing M) → Carries d (all_begun model t me xs d)
  all_begun_carries [] d = carries_same d
  all_begun_carries (x ∷ xs) d = carries_two d _ _ (begun_carries x d) (all_begun_carries xs (begun model t me x d))

  gone_carries : (x : Incarnation) (d : Doing M) → Carries d (gone t me x d)
  gone_carries x d =
      record {
        lives = refl;
        told = refl;
        more = (end_of t me d.body.links x).sent;
        sent = refl;
        plain = plain_end_of t me d.body.links x;
        kept = λ h. (h.0, updated_open d.body.deferred x.slot.0 [] h.1 tt);
      }

  all_gone_carries : (xs : List Incarnation) (d : Doing M) → Carries d (all_gone t me xs d)
  all_gone_carries [] d = carries_same d
  all_gone_carries (x ∷ xs) d = carries_two d _ _ (gone_carries x d) (all_gone_carries xs (gone t me x d))

  closing_carries : (d : Doing M) (o : Option Msg) → IsPlainLast o → Carries d (closing d o)
  closing_carries d None h = carries_same d
  closing_carries d (Some m) h = record { lives = refl; told = refl; more = m ∷ []; sent = refl; plain = (h, tt); kept = λ q. q }

  -- what follows a duty of the frame service
  pub frame_carries : (b : Body M) (r : FrameDone) → IsPlainLast r.last
      → Carries (record (doing b) { body = record b { frame = r.frame }; sent = r.sent }) (with_frame model t me b r)
  frame_carries b r h =
      carries_two _ _ _ (carries_two _ _ _ (all_begun_carries r.made _) (all_gone_carries r.ended _)) (closing_carries _ r.last h)
