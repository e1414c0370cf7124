-- The notes of actors: each names who speaks, and ports of who speaks.
use Rattle.std.proofs.Common.{◌≡◌, ℕ, ◌<◌, ◌≤◌, Bool, true, false, List, [], ◌∷◌, ◌++◌, length, Option, Some, None, ℤ, pos, negsuc, refl, sym, ap, ◌∙◌, subst}
use Rattle.std.specs.List.{AllByRecursion as Each, list_all}
use Rattle.std.proofs.lemmas.Bool.{and_parts}
use Rattle.room_kinds.specs.declared.message.Msg.{Msg}
use Rattle.room_kinds.specs.declared.note.Note.{Note}
use Rattle.room_kinds.specs.declared.note.Note.TheVariants as notes
use Rattle.room_kinds.specs.declared.command.Command.{Command}
use Rattle.room_kinds.specs.declared.command.Command.TheVariants as commands
use Rattle.room_kinds.specs.declared.command.NameCommand.TheVariants as names
use Rattle.room_kinds.specs.declared.numbers.Endpoint.{Endpoint}
use Rattle.room_kinds.specs.declared.numbers.Incarnation.{Incarnation}
use Rattle.room_kinds.specs.declared.numbers.SlotId.{SlotId}
use Rattle.room_wiring.specs.Places.{port_count}
use Rattle.room_wiring.specs.declared.tables.Tables.{Tables}
use Rattle.journal.specs.Fits.{FitsStanding, FitsNote, FitsNotes, HasSignal}
use Rattle.journal.specs.Lines.{speaker_after}
use Rattle.actor_duties.specs.Commands.{Content, send, send_to, send_each, broadcast, broadcast_places, defer, recall, recall_all}
use Rattle.actor_duties.specs.Peers.{peer}
use Rattle.actor_duties.specs.State.{Frame, Links}
use Rattle.actor_duties.specs.Words.{endpoint}
use Rattle.actor_world.specs.Body.{Doing, apply, apply_all}
use Rattle.chart_behaviour.specs.chart_asks.Laws.{is_zero}
use Rattle.room_run.proofs.fitting_journals.Signals.{is_service_point}

-- ---- notes in a row

-- who speaks after notes
abbrev pub speaker_then : Bool → Option SlotId → List Note → Option SlotId
speaker_then duty speaker [] = speaker
speaker_then duty speaker (n ∷ ns) = speaker_then duty (speaker_after duty speaker n) ns

-- a note that an actor may make as it speaks
abbrev pub IsSaid : Tables → Incarnation → Note → Type 0
IsSaid t x notes.Zero = Unit {0}
IsSaid t x notes.NoMessage = Unit {0}
IsSaid t x (notes.Unbound port place) = port < port_count t x.slot.0
IsSaid t x (notes.Recall count) = Unit {0}
IsSaid t x (notes.Up who state) = ⊥
IsSaid t x (notes.Down who lost) = ⊥

abbrev pub AreSaid : Tables → Incarnation → List Note → Type 0
AreSaid t x ns = Each (IsSaid t x) ns

said_both : (t : Tables) (x : Incarnation) (a b : List Note) → AreSaid t x a → AreSaid t x b → AreSaid t x (a ++ b)
said_both t x [] b h k = k
said_both t x (n ∷ a) b h k = (h.0, said_both t x a b h.1 k)

pub said_zeros : (t : Tables) (x : Incarnation) (ns : List Note) → list_all is_zero ns ≡ true → AreSaid t x ns
said_zeros t x [] h = tt
said_zeros t x (n ∷ ns) h = let parts = and_parts (is_zero n) (list_all is_zero ns) h in (one n parts.0, said_zeros t x ns parts.1)
  where
    one : (n : Note) → is_zero n ≡ true → IsSaid t x n
    one notes.Zero e = tt
    one notes.NoMessage e = tt
    one (notes.Unbound port place) e = absurd cc
    one (notes.Recall count) e = tt
    one (notes.Up who state) e = absurd cc
    one (notes.Down who lost) e = absurd cc

-- the notes fit, and x speaks after them
pub record Speaks (t : Tables) (duty : Bool) (from : Option SlotId) (x : Incarnation) (ns : List Note) : Type 0 where
  pub fit : FitsNotes t duty from ns
  pub speaker : speaker_then duty from ns ≡ Some x.slot

pub fits_both : (t : Tables) (duty : Bool) (from : Option SlotId) (a b : List Note) → FitsNotes t duty from a → FitsNotes t duty (speaker_then duty from a) b
    → FitsNotes t duty from (a ++ b)
fits_both t duty from [] b h k = k
fits_both t duty from (n ∷ a) b h k = (h.0, fits_both t duty (speaker_after duty from n) a b h.1 k)

then_both : (duty : Bool) (from : Option SlotId) (a b : List Note) → speaker_then duty from (a ++ b) ≡ speaker_then duty (speaker_then duty from a) b
then_both duty from [] b = refl
then_both duty from (n ∷ a) b = then_both duty (speaker_after duty from n) a b

module _ (t : Tables) (duty : Bool) (x : Incarnation) (there : x.slot.0 < length t.slots) where
  one_said : (n : Note) → IsSaid t x n → FitsNote t (Some x.slot) n × (speaker_after duty (Some x.slot) n ≡ Some x.slot)
  one_said notes.Zero h = (tt, go duty)
    where
      go : (b : Bool) → speaker_after b (Some x.slot) notes.Zero ≡ Some x.slot
      go true = refl
      go false = refl
  one_said notes.NoMessage h = (tt, go duty)
    where
      go : (b : Bool) → speaker_after b (Some x.slot) notes.NoMessage ≡ Some x.slot
      go true = refl
      go false = refl
  one_said (notes.Unbound port place) h = ((there, h), go duty)
    where
      go : (b : Bool) → speaker_after b (Some x.slot) (notes.Unbound port place) ≡ Some x.slot
      go true = refl
      go false = refl
  one_said (notes.Recall count) h = (tt, go duty)
    where
      go : (b : Bool) → speaker_after b (Some x.slot) (notes.Recall count) ≡ Some x.slot
      go true = refl
      go false = refl
  one_said (notes.Up who state) h = absurd h
  one_said (notes.Down who lost) h = absurd h

  -- what an actor says as it speaks fits, and it speaks on
  said_fit : (ns : List Note) → AreSaid t x ns → Speaks t duty (Some x.slot) x ns
  said_fit [] h = record { fit = tt; speaker = refl }
  said_fit (n ∷ ns) h =
      let first = one_said n h.0 in
      let rest = said_fit ns h.1 in
      record {
        fit = (first.0, subst (λ (o : Option SlotId). FitsNotes t duty o ns) (sym first.1) rest.fit);
        speaker = ap (λ (o : Option SlotId). speaker_then duty o ns) first.1 ∙ rest.speaker;
      }

  pub speaks_on : (from : Option SlotId) (a b : List Note) → Speaks t duty from x a → AreSaid t x b → Speaks t duty from x (a ++ b)
  speaks_on from a b h said =
      let more = said_fit b said in
      record {
        fit = fits_both t duty from a b h.fit (subst (λ (o : Option SlotId). FitsNotes t duty o b) (sym h.speaker) more.fit);
        speaker = then_both duty from a b ∙ ap (λ (o : Option SlotId). speaker_then duty o b) h.speaker ∙ more.speaker;
      }

-- an actor that came up speaks
pub up_speaks : (t : Tables) (from : Option SlotId) (ns : List Note) (x : Incarnation) (state : ℕ) → FitsNotes t true from ns → FitsStanding t x state
    → Speaks t true from x (ns ++ notes.Up x state ∷ [])
up_speaks t from ns x state h stands = record {
  fit = fits_both t true from ns (notes.Up x state ∷ []) h (stands, tt);
  speaker = then_both true from ns (notes.Up x state ∷ []);
}

-- ---- commands

-- a send names a port of who asks for it and a signal of the port, at a priority that actions have; a request on a
-- service name names a service point
abbrev pub AsksAt : Tables → ℕ → Command → Type 0
AsksAt t s (commands.Send port place signal payload prio) = (port < port_count t s) × HasSignal t s port signal × (1 ≤ prio.0)
AsksAt t s commands.Defer = Unit {0}
AsksAt t s commands.Recall = Unit {0}
AsksAt t s commands.RecallAll = Unit {0}
AsksAt t s (commands.Frame c) = Unit {0}
AsksAt t s (commands.Name (names.Register port name)) = (port < port_count t s) × (is_service_point t s port ≡ true)
AsksAt t s (commands.Name (names.Withdraw port)) = (port < port_count t s) × (is_service_point t s port ≡ true)

module _ (t : Tables) (me : ℕ) (x : Incarnation) where
  said_send_to : (source : Endpoint) (c : Content) → source.port < port_count t x.slot.0 → (o : Option Endpoint) → AreSaid t x (send_to t me source c o).notes
  said_send_to source c h None = (h, tt)
  said_send_to source c h (Some target) = tt

  said_send : (f : Frame) (l : Links) (p : ℕ) (k : ℤ) (c : Content) → p < port_count t x.slot.0 → AreSaid t x (send t me f l x p k c).notes
  unfolding send
  said_send f l p (pos k) c h =
      said_send_to (endpoint x.slot.0 x.generation.0 p k) c h (peer t me f l (endpoint x.slot.0 x.generation.0 p k))
  said_send f l p (negsuc k) c h = (h, tt)

  said_send_each : (f : Frame) (l : Links) (p : ℕ) (c : Content) (ks : List ℕ) → p < port_count t x.slot.0 → AreSaid t x (send_each t me f l x p c ks).notes
  said_send_each f l p c [] h = tt
  said_send_each f l p c (k ∷ ks) h =
      said_both t x (send t me f l x p (pos k) c).notes (send_each t me f l x p c ks).notes (said_send f l p (pos k) c h) (said_send_each f l p c ks h)

  said_broadcast : (f : Frame) (l : Links) (p : ℕ) (c : Content) → p < port_count t x.slot.0 → AreSaid t x (broadcast t me f l x p c).notes
  unfolding broadcast
  said_broadcast f l p c h = said_send_each f l p c (broadcast_places t l x.slot.0 p) h

  said_defer : (b : Bool) (m : Option Msg) (ms : List Msg) → AreSaid t x (defer b m ms).notes
  unfolding defer
  said_defer true m ms = tt
  said_defer false (Some m) ms = tt
  said_defer false None ms = (tt, tt)

  said_recall : (ms : List Msg) → AreSaid t x (recall ms).notes
  unfolding recall
  said_recall [] = (tt, tt)
  said_recall (m ∷ ms) = (tt, tt)

  said_recall_all : (ms : List Msg) → AreSaid t x (recall_all ms).notes
  unfolding recall_all
  said_recall_all ms = (tt, tt)

  module _ (duty : Bool) (there : x.slot.0 < length t.slots) (from : Option SlotId) {M : Type 0} (m : Option Msg) where
    one_applied : (d : Doing M) (c : Command) → AsksAt t x.slot.0 c → Speaks t duty from x d.notes → Speaks t duty from x (apply t me x m d c).notes
    one_applied d (commands.Send p (Some k) signal payload prio) h s =
        speaks_on t duty x there from d.notes _ s (said_send d.body.frame d.body.links p k (record { signal = signal; payload = payload; prio = prio }) h.0)
    one_applied d (commands.Send p None signal payload prio) h s =
        speaks_on t duty x there from d.notes _ s (said_broadcast d.body.frame d.body.links p (record { signal = signal; payload = payload; prio = prio }) h.0)
    one_applied d commands.Defer h s = speaks_on t duty x there from d.notes _ s (said_defer d.kept m (d.body.deferred x.slot.0))
    one_applied d commands.Recall h s = speaks_on t duty x there from d.notes _ s (said_recall (d.body.deferred x.slot.0))
    one_applied d commands.RecallAll h s = speaks_on t duty x there from d.notes _ s (said_recall_all (d.body.deferred x.slot.0))
    one_applied d (commands.Frame c) h s = s
    one_applied d (commands.Name c) h s = s

    pub all_applied : (cs : List Command) (d : Doing M) → Each (AsksAt t x.slot.0) cs → Speaks t duty from x d.notes
        → Speaks t duty from x (apply_all t me x m cs d).notes
    all_applied [] d h s = s
    all_applied (c ∷ cs) d h s = all_applied cs (apply t me x m d c) h.1 (one_applied d c h.0 s)
