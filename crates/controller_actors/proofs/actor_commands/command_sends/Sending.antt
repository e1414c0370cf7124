-- A send, by whether its place has a peer.
use Rattle.std.proofs.Common.{◌≡◌, ℕ, ℤ, pos, negsuc, ◌<ℤ◌, [], ◌∷◌, ◌++◌, Some, None, sym, ap, ◌∙◌, subst, arith}
use Rattle.std.proofs.lemmas.Int.{ints}
use Rattle.std.proofs.lemmas.List.{append-nil}
use Rattle.room_kinds.specs.declared.message.Msg.{Msg}
use Rattle.room_kinds.specs.declared.note.Note.TheVariants as notes
use Rattle.room_kinds.specs.declared.numbers.Incarnation.{Incarnation}
use Rattle.room_kinds.specs.declared.numbers.Endpoint.{Endpoint}
use Rattle.room_wiring.specs.declared.tables.Tables.{Tables}
use Rattle.actor_duties.specs.Words.{endpoint}
use Rattle.actor_duties.specs.State.{Frame, Links}
use Rattle.actor_duties.specs.Peers.{peer}
use Rattle.actor_duties.specs.Commands.{Content, message, send_to, send}
use Rattle.controller_actors.specs.declared.actor_commands.output.Output.{Output}
use Rattle.controller_actors.specs.actor_commands.command_sends.Adding.{Adds}

-- to a peer
pub adds_message : (t : Tables) (me : ℕ) (f : Frame) (l : Links) (x : Incarnation) (p k : ℕ) (c : Content) (target : Endpoint) (m : Msg) (old new : Output)
    → peer t me f l (endpoint x.slot.0 x.generation.0 p k) ≡ Some target → m ≡ message t me (endpoint x.slot.0 x.generation.0 p k) target c
    → new.messages ≡ old.messages ++ m ∷ [] → new.notes ≡ old.notes → new.back ≡ old.back
    → Adds (send t me f l x p (pos k) c) old new
unfolding send
adds_message t me f l x p k c target m old new found is output told back =
    subst (λ o. Adds (send_to t me (endpoint x.slot.0 x.generation.0 p k) c o) old new) (sym found)
    (record { messages = output ∙ ap (λ y. old.messages ++ y ∷ []) is; notes = told ∙ sym (append-nil old.notes); back = back })

-- to nobody
pub adds_note : (t : Tables) (me : ℕ) (f : Frame) (l : Links) (x : Incarnation) (p k : ℕ) (z : ℤ) (c : Content) (old new : Output)
    → z ≡ pos k → peer t me f l (endpoint x.slot.0 x.generation.0 p k) ≡ None
    → new.messages ≡ old.messages → new.notes ≡ old.notes ++ notes.Unbound p z ∷ [] → new.back ≡ old.back
    → Adds (send t me f l x p (pos k) c) old new
unfolding send
adds_note t me f l x p k z c old new e found output told back =
    subst (λ o. Adds (send_to t me (endpoint x.slot.0 x.generation.0 p k) c o) old new) (sym found)
    (record { messages = output ∙ sym (append-nil old.messages); notes = told ∙ ap (λ y. old.notes ++ notes.Unbound p y ∷ []) e; back = back })

-- at a negative place
pub adds_note_below : (t : Tables) (me : ℕ) (f : Frame) (l : Links) (x : Incarnation) (p : ℕ) (z : ℤ) (c : Content) (old new : Output)
    → z <ℤ pos 0 → new.messages ≡ old.messages → new.notes ≡ old.notes ++ notes.Unbound p z ∷ [] → new.back ≡ old.back
    → Adds (send t me f l x p z c) old new
unfolding send
adds_note_below t me f l x p (pos k) c old new below output told back = absurd (omega (arith, ints, below))
adds_note_below t me f l x p (negsuc k) c old new below output told back = record { messages = output ∙ sym (append-nil old.messages); notes = told; back = back }
