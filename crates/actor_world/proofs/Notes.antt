-- Notes of lives, and commands, which note nothing of lives.
use Rattle.std.proofs.Common.{◌≡◌, ℕ, ◌+◌, Bool, true, false, List, [], ◌∷◌, ◌++◌, Option, Some, None, ℤ, pos, negsuc, refl, sym, ap, ◌∙◌, arith, add_assoc}
use Rattle.room_kinds.specs.declared.message.Msg.{Msg}
use Rattle.room_kinds.specs.declared.note.Note.{Note}
use Rattle.room_kinds.specs.declared.note.Note.TheVariants as notes
use Rattle.room_kinds.specs.declared.command.Command.{Command}
use Rattle.room_kinds.specs.declared.command.Command.TheVariants as commands
use Rattle.room_kinds.specs.declared.command.FrameCommand.{FrameCommand}
use Rattle.room_kinds.specs.declared.command.FrameCommand.TheVariants as frame
use Rattle.room_kinds.specs.declared.numbers.Incarnation.{Incarnation}
use Rattle.room_kinds.specs.declared.numbers.Endpoint.{Endpoint}
use Rattle.room_wiring.specs.declared.tables.Tables.{Tables}
use Rattle.actor_duties.specs.Words.{endpoint}
use Rattle.actor_duties.specs.State.{Frame, Links}
use Rattle.actor_duties.specs.Frame.{frame_request}
use Rattle.actor_duties.specs.Peers.{peer}
use Rattle.actor_duties.specs.Commands.{Content, send, send_to, send_each, broadcast, broadcast_places, defer, recall, recall_all}
use Rattle.actor_world.specs.Life.{once, ups, downs, SaysNothing}
use Rattle.actor_world.specs.Body.{Doing, sent_at, apply, apply_all}

pub ups-append : (x : Incarnation) (a b : List Note) → ups x (a ++ b) ≡ ups x a + ups x b
ups-append x [] b = omega arith
ups-append x (notes.Up who state ∷ ns) b = ap (λ k. once who x + k) (ups-append x ns b) ∙ sym (add_assoc (once who x) (ups x ns) (ups x b))
ups-append x (notes.Down who lost ∷ ns) b = ups-append x ns b
ups-append x (notes.Zero ∷ ns) b = ups-append x ns b
ups-append x (notes.NoMessage ∷ ns) b = ups-append x ns b
ups-append x (notes.Unbound port place ∷ ns) b = ups-append x ns b
ups-append x (notes.Recall count ∷ ns) b = ups-append x ns b

pub downs-append : (x : Incarnation) (a b : List Note) → downs x (a ++ b) ≡ downs x a + downs x b
downs-append x [] b = omega arith
downs-append x (notes.Down who lost ∷ ns) b = ap (λ k. once who x + k) (downs-append x ns b) ∙ sym (add_assoc (once who x) (downs x ns) (downs x b))
downs-append x (notes.Up who state ∷ ns) b = downs-append x ns b
downs-append x (notes.Zero ∷ ns) b = downs-append x ns b
downs-append x (notes.NoMessage ∷ ns) b = downs-append x ns b
downs-append x (notes.Unbound port place ∷ ns) b = downs-append x ns b
downs-append x (notes.Recall count ∷ ns) b = downs-append x ns b

-- notes that say nothing of lives
pub record IsPlain (ns : List Note) : Type 0 where
  pub ups : (x : Incarnation) → ups x ns ≡ 0
  pub downs : (x : Incarnation) → downs x ns ≡ 0

pub plain_none : IsPlain []
plain_none = record { ups = λ x. refl; downs = λ x. refl }

pub plain_append : (a b : List Note) → IsPlain a → IsPlain b → IsPlain (a ++ b)
plain_append a b p q = record {
  ups = λ x. let h = ups-append x a b in let k = p.ups x in let l = q.ups x in omega arith;
  downs = λ x. let h = downs-append x a b in let k = p.downs x in let l = q.downs x in omega arith;
}

pub plain_said : (ns : List Note) → SaysNothing ns → IsPlain ns
plain_said ns h = record { ups = λ x. (h x).0; downs = λ x. (h x).1 }

plain_send_to : (t : Tables) (me : ℕ) (source : Endpoint) (c : Content) (o : Option Endpoint) → IsPlain (send_to t me source c o).notes
plain_send_to t me source c None = record { ups = λ x. refl; downs = λ x. refl }
plain_send_to t me source c (Some target) = plain_none

plain_send : (t : Tables) (me : ℕ) (f : Frame) (l : Links) (x : Incarnation) (p : ℕ) (k : ℤ) (c : Content) → IsPlain (send t me f l x p k c).notes
unfolding send
plain_send t me f l x p (pos k) c = plain_send_to t me (endpoint x.slot.0 x.generation.0 p k) c (peer t me f l (endpoint x.slot.0 x.generation.0 p k))
plain_send t me f l x p (negsuc k) c = record { ups = λ x. refl; downs = λ x. refl }

plain_send_each : (t : Tables) (me : ℕ) (f : Frame) (l : Links) (x : Incarnation) (p : ℕ) (c : Content) (ks : List ℕ) → IsPlain (send_each t me f l x p c ks).notes
plain_send_each t me f l x p c [] = plain_none
plain_send_each t me f l x p c (k ∷ ks) =
    plain_append (send t me f l x p (pos k) c).notes (send_each t me f l x p c ks).notes (plain_send t me f l x p (pos k) c) (plain_send_each t me f l x p c ks)

plain_broadcast : (t : Tables) (me : ℕ) (f : Frame) (l : Links) (x : Incarnation) (p : ℕ) (c : Content) → IsPlain (broadcast t me f l x p c).notes
unfolding broadcast
plain_broadcast t me f l x p c = plain_send_each t me f l x p c (broadcast_places t l x.slot.0 p)

plain_defer : (b : Bool) (m : Option Msg) (d : List Msg) → IsPlain (defer b m d).notes
unfolding defer
plain_defer true m d = plain_none
plain_defer false (Some m) d = plain_none
plain_defer false None d = record { ups = λ x. refl; downs = λ x. refl }

plain_recall : (d : List Msg) → IsPlain (recall d).notes
unfolding recall
plain_recall [] = record { ups = λ x. refl; downs = λ x. refl }
plain_recall (m ∷ ms) = record { ups = λ x. refl; downs = λ x. refl }

plain_recall_all : (d : List Msg) → IsPlain (recall_all d).notes
unfolding recall_all
plain_recall_all d = record { ups = λ x. refl; downs = λ x. refl }

-- a command on the frame service leaves lives alone
request_lives : (t : Tables) (me : ℕ) (f : Frame) (x : Incarnation) (c : FrameCommand) → (frame_request t me f x c).now.lives ≡ f.lives
request_lives t me f x (frame.Incarnate reference index) = refl
request_lives t me f x (frame.Destroy reference index) = refl
request_lives t me f x (frame.Import reference index id) = refl
request_lives t me f x (frame.Deport reference index) = refl

-- lives stay, and what is noted of them
pub record Keeps {M : Type 0} (d e : Doing M) : Type 0 where
  pub lives : e.body.frame.lives ≡ d.body.frame.lives
  pub ups : (x : Incarnation) → ups x e.notes ≡ ups x d.notes
  pub downs : (x : Incarnation) → downs x e.notes ≡ downs x d.notes

keeps_same : {M : Type 0} (d : Doing M) → Keeps d d
keeps_same d = record { lives = refl; ups = λ x. refl; downs = λ x. refl }

keeps_two : {M : Type 0} (d e f : Doing M) → Keeps d e → Keeps e f → Keeps d f
keeps_two d e f h k = record { lives = k.lives ∙ h.lives; ups = λ x. k.ups x ∙ h.ups x; downs = λ x. k.downs x ∙ h.downs x }

-- more notes that say nothing of lives
more_notes : (x : Incarnation) (a b : List Note) → IsPlain b → (ups x (a ++ b) ≡ ups x a) × (downs x (a ++ b) ≡ downs x a)
more_notes x a b p =
    let h = ups-append x a b in let k = p.ups x in let l = downs-append x a b in let m = p.downs x in (omega arith, omega arith)

plain_sent_at : {M : Type 0} (t : Tables) (me : ℕ) (d : Doing M) (x : Incarnation) (p : ℕ) (k : Option ℤ) (c : Content) → IsPlain (sent_at t me d x p k c).notes
plain_sent_at t me d x p (Some k) c = plain_send t me d.body.frame d.body.links x p k c
plain_sent_at t me d x p None c = plain_broadcast t me d.body.frame d.body.links x p c

pub apply_keeps : {M : Type 0} (t : Tables) (me : ℕ) (x : Incarnation) (m : Option Msg) (d : Doing M) (c : Command) → Keeps d (apply t me x m d c)
apply_keeps t me x m d (commands.Send p k signal payload prio) =
    let s = sent_at t me d x p k (record { signal = signal; payload = payload; prio = prio }) in
    let h = plain_sent_at t me d x p k (record { signal = signal; payload = payload; prio = prio }) in
    record { lives = refl; ups = λ y. (more_notes y d.notes s.notes h).0; downs = λ y. (more_notes y d.notes s.notes h).1 }
apply_keeps t me x m d commands.Defer =
    let h = plain_defer d.kept m (d.body.deferred x.slot.0) in
    record { lives = refl; ups = λ y. (more_notes y d.notes _ h).0; downs = λ y. (more_notes y d.notes _ h).1 }
apply_keeps t me x m d commands.Recall =
    let h = plain_recall (d.body.deferred x.slot.0) in
    record { lives = refl; ups = λ y. (more_notes y d.notes _ h).0; downs = λ y. (more_notes y d.notes _ h).1 }
apply_keeps t me x m d commands.RecallAll =
    let h = plain_recall_all (d.body.deferred x.slot.0) in
    record { lives = refl; ups = λ y. (more_notes y d.notes _ h).0; downs = λ y. (more_notes y d.notes _ h).1 }
apply_keeps t me x m d (commands.Frame c) = record { lives = request_lives t me d.body.frame x c; ups = λ y. refl; downs = λ y. refl }
apply_keeps t me x m d (commands.Name c) = record { lives = refl; ups = λ y. refl; downs = λ y. refl }

pub apply_all_keeps : {M : Type 0} (t : Tables) (me : ℕ) (x : Incarnation) (m : Option Msg) (cs : List Command) (d : Doing M) → Keeps d (apply_all t me x m cs d)
apply_all_keeps t me x m [] d = keeps_same d
apply_all_keeps t me x m (c ∷ cs) d =
    keeps_two d (apply t me x m d c) (apply_all t me x m cs (apply t me x m d c)) (apply_keeps t me x m d c) (apply_all_keeps t me x m cs (apply t me x m d c))
