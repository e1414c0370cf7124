-- Commands, as steps of what is done on any body.
use Rattle.std.proofs.Common.{◌≡◌, ℕ, ℤ, Bool, true, false, List, [], ◌∷◌, ◌++◌, Option, Some, None, length, refl, sym, ap, ◌∙◌, subst, inl, inr, arith}
use Rattle.std.proofs.Math.Path.{fun_ext}
use Rattle.std.proofs.lemmas.Bool.{cases_eq}
use Rattle.std.proofs.lemmas.List.{append-nil}
use Rattle.room_kinds.specs.declared.message.Msg.{Msg}
use Rattle.room_kinds.specs.declared.note.Note.{Note}
use Rattle.room_kinds.specs.declared.command.Command.{Command}
use Rattle.room_kinds.specs.declared.command.FrameCommand.{FrameCommand}
use Rattle.room_kinds.specs.declared.command.NameCommand.{NameCommand}
use Rattle.room_kinds.specs.declared.command.Command.TheVariants as commands
use Rattle.room_kinds.specs.declared.numbers.Incarnation.{Incarnation}
use Rattle.room_kinds.specs.declared.numbers.Priority.{Priority}
use Rattle.room_wiring.specs.declared.tables.Tables.{Tables}
use Rattle.actor_duties.specs.Words.{updated}
use Rattle.actor_duties.specs.State.{Frame, Links}
use Rattle.actor_duties.specs.Commands.{Sent, Kept, defer, recall, recall_all}
use Rattle.actor_world.specs.Body.{Body, Doing as WorldDoing, keeping, sending, apply_all}
use Rattle.frame_lives.proofs.Rows.{updated_here, updated_else}
use Rattle.chart_behaviour.specs.ModelCharts.{Actor}
use Rattle.controller_actors.specs.declared.actor_commands.output.Output.{Output}
use Rattle.controller_actors.specs.actor_commands.command_sends.Adding.{Adds}
use Rattle.controller_actors.specs.actor_commands.command_sends.Asking.{FrameAsked, NameAsked}
use Rattle.controller_actors.specs.actor_commands.deferred_messages.Steps.{Applies as KeptStep}
use Rattle.controller_actors.specs.actor_commands.Doings.{Doing, doing_on, sent_at, Keeps, Applies, AppliesAll, AppliesNow, IsInHand}

-- ---- functions that are updated twice

pub updated_twice : {A : Type 0} (f : ℕ → A) (s : ℕ) (a b : A) → updated (updated f s a) s b ≡ updated f s b
updated_twice f s a b = fun_ext (λ n. elim (cases_eq n s) [
  | inl e ↦ updated_here (updated f s a) s n b e ∙ sym (updated_here f s n b e)
  | inr other ↦ updated_else (updated f s a) s n b other ∙ updated_else f s n a other ∙ sym (updated_else f s n b other)
])

-- ---- lists

pub nothing_left : (cs : List Command) → length cs ≡ 0 → cs ≡ []
nothing_left [] none = refl
nothing_left (c ∷ cs) none = absurd (omega (arith, none))

-- ---- steps on what is kept

-- a step that takes nothing back from what is kept
pub keeps_here : (k : Kept) (old : Doing) (deferred : List Msg) (told : List Note) → KeptStep k deferred [] [] old.output.notes told
    → Keeps k true old (record { deferred = deferred; output = record { messages = old.output.messages; notes = told; back = old.output.back }; kept = true })
keeps_here k old deferred told h = record {
  deferred = h.deferred;
  messages = refl;
  notes = h.notes;
  back = ap (λ (ms : List Msg). ms ++ old.output.back) (h.back ∙ append-nil k.back);
  kept = refl;
}

-- a step by which messages may come back
pub keeps_back : (k : Kept) (old : Doing) (deferred back : List Msg) (told : List Note) → KeptStep k deferred old.output.back back old.output.notes told
    → Keeps k old.kept old (record { deferred = deferred; output = record { messages = old.output.messages; notes = told; back = back }; kept = old.kept })
keeps_back k old deferred back told h = record { deferred = h.deferred; messages = refl; notes = h.notes; back = h.back; kept = refl }

-- equal parts make equal states
same_doing : (f : Frame) (l : Links) (b : Body Actor) {held held' : ℕ → List Msg} {sent sent' back back' : List Msg} {notes notes' : List Note} {kept kept' : Bool}
    → held ≡ held' → sent ≡ sent' → back ≡ back' → notes ≡ notes' → kept ≡ kept'
    → ◌≡◌ {A = WorldDoing Actor}
    (record { body = record b { frame = f; links = l; deferred = held }; sent = sent; back = back; notes = notes; kept = kept })
    (record { body = record b { frame = f; links = l; deferred = held' }; sent = sent'; back = back'; notes = notes'; kept = kept' })
same_doing f l b p q r s u = cc

-- the same, with another state of the services and more messages
same_asked : (b : Body Actor) (s : ℕ) (old : Doing) {f f' : Frame} {l l' : Links} {sent sent' : List Msg} → f ≡ f' → l ≡ l' → sent ≡ sent'
    → ◌≡◌ {A = WorldDoing Actor}
    (record { body = record b { frame = f; links = l; deferred = updated b.deferred s old.deferred }; sent = sent; back = old.output.back; notes = old.output.notes; kept = old.kept })
    (record { body = record b { frame = f'; links = l'; deferred = updated b.deferred s old.deferred }; sent = sent'; back = old.output.back; notes = old.output.notes; kept = old.kept })
same_asked b s old p q r = cc

module _ (t : Tables) (me : ℕ) (f : Frame) (l : Links) (x : Incarnation) (m : Option Msg) where
  keeping_on : (b : Body Actor) (k : Kept) (kept : Bool) (old new : Doing) → Keeps k kept old new
      → keeping (doing_on f l b x.slot.0 old) x.slot.0 kept k ≡ doing_on f l b x.slot.0 new
  keeping_on b k kept old new h =
      same_doing f l b
      (updated_twice b.deferred x.slot.0 old.deferred k.deferred ∙ ap (updated b.deferred x.slot.0) (sym h.deferred))
      (sym h.messages) (sym h.back) (sym h.notes) (sym h.kept)

  -- what is kept in the slot
  held_here : (b : Body Actor) (ds : List Msg) → updated b.deferred x.slot.0 ds x.slot.0 ≡ ds
  held_here b ds = updated_here b.deferred x.slot.0 x.slot.0 ds refl

  defers : (old new : Doing) → Keeps (defer old.kept m old.deferred) true old new → Applies t me f l f l x m commands.Defer old new
  defers old new h = record {
    on = λ b.
        ap (λ ds. keeping (doing_on f l b x.slot.0 old) x.slot.0 true (defer old.kept m ds)) (held_here b old.deferred)
        ∙ keeping_on b (defer old.kept m old.deferred) true old new h;
  }

  recalls : (old new : Doing) → Keeps (recall old.deferred) old.kept old new → Applies t me f l f l x m commands.Recall old new
  recalls old new h = record {
    on = λ b.
        ap (λ ds. keeping (doing_on f l b x.slot.0 old) x.slot.0 old.kept (recall ds)) (held_here b old.deferred)
        ∙ keeping_on b (recall old.deferred) old.kept old new h;
  }

  recalls_all : (old new : Doing) → Keeps (recall_all old.deferred) old.kept old new → Applies t me f l f l x m commands.RecallAll old new
  recalls_all old new h = record {
    on = λ b.
        ap (λ ds. keeping (doing_on f l b x.slot.0 old) x.slot.0 old.kept (recall_all ds)) (held_here b old.deferred)
        ∙ keeping_on b (recall_all old.deferred) old.kept old new h;
  }

  -- ---- sends

  sending_on : (b : Body Actor) (s : Sent) (old : Doing) (output : Output) → Adds s old.output output
      → sending (doing_on f l b x.slot.0 old) s ≡ doing_on f l b x.slot.0 (record old { output = output })
  sending_on b s old output h = same_doing f l b refl (sym h.messages) (sym h.back) (sym h.notes) refl

  sends : (p : ℕ) (k : Option ℤ) (signal : ℕ) (payload : List ℤ) (prio : Priority) (old : Doing) (output : Output)
      → Adds (sent_at t me f l x p k (record { signal = signal; payload = payload; prio = prio })) old.output output
      → Applies t me f l f l x m (commands.Send p k signal payload prio) old (record old { output = output })
  sends p (Some k) signal payload prio old output h = record { on = λ b. sending_on b _ old output h }
  sends p None signal payload prio old output h = record { on = λ b. sending_on b _ old output h }

  -- ---- what is asked of the frame service

  asks_frame : (c : FrameCommand) (f' : Frame) (l' : Links) (old : Doing) (out : List Msg) → FrameAsked t me x c f l f' l' old.output.messages out
      → Applies t me f l f' l' x m (commands.Frame c) old (record old { output = record { messages = out; notes = old.output.notes; back = old.output.back } })
  asks_frame c f' l' old out h = record {
    on = λ b. same_asked b x.slot.0 old (sym h.frame) (sym h.links) (sym h.sent);
  }

  -- ---- what is asked of the layer service

  asks_name : (c : NameCommand) (f' : Frame) (l' : Links) (old : Doing) (out : List Msg) → NameAsked t me x c f l f' l' old.output.messages out
      → Applies t me f l f' l' x m (commands.Name c) old (record old { output = record { messages = out; notes = old.output.notes; back = old.output.back } })
  asks_name c f' l' old out h = record {
    on = λ b. same_asked b x.slot.0 old (sym h.frame) (sym h.links) (sym h.sent);
  }

module _ (t : Tables) (me : ℕ) (f : Frame) (l : Links) (x : Incarnation) where
  -- ---- the same with what is in hand

  -- what was in hand when it was kept doesn't matter any more
  same_defer : (kept : Bool) (hand m : Option Msg) (ds : List Msg) → IsInHand m kept hand → defer kept hand ds ≡ defer kept m ds
  unfolding defer
  same_defer true hand m ds h = refl
  same_defer false hand m ds h = ap (λ (o : Option Msg). defer false o ds) (h refl)

  pub defers_now : (hand hand' : Option Msg) (old new : Doing) → Keeps (defer old.kept hand old.deferred) true old new → AppliesNow t me f l f l x commands.Defer hand old hand' new
  defers_now hand hand' old new h = record {
    on = λ m i. defers t me f l x m old new (subst (λ (k : Kept). Keeps k true old new) (same_defer old.kept hand m old.deferred i) h);
    left = λ m i e. absurd (let no : ◌≡◌ {A = Bool} true false = sym h.kept ∙ e in cc);
  }

  pub recalls_now : (hand : Option Msg) (old new : Doing) → Keeps (recall old.deferred) old.kept old new → AppliesNow t me f l f l x commands.Recall hand old hand new
  recalls_now hand old new h = record { on = λ m i. recalls t me f l x m old new h; left = λ m i e. i (sym h.kept ∙ e) }

  pub recalls_all_now : (hand : Option Msg) (old new : Doing) → Keeps (recall_all old.deferred) old.kept old new → AppliesNow t me f l f l x commands.RecallAll hand old hand new
  recalls_all_now hand old new h = record { on = λ m i. recalls_all t me f l x m old new h; left = λ m i e. i (sym h.kept ∙ e) }

  -- the same, by what they do to the messages that are kept
  pub recalls_here : (hand : Option Msg) (deferred deferred' back : List Msg) (told : List Note) (old : Output) (kept : Bool) → KeptStep (recall deferred) deferred' old.back back old.notes told
      → AppliesNow t me f l f l x commands.Recall hand (record { deferred = deferred; output = old; kept = kept }) hand
      (record { deferred = deferred'; output = record { messages = old.messages; notes = told; back = back }; kept = kept })
  recalls_here hand deferred deferred' back told old kept h =
      let from : Doing = record { deferred = deferred; output = old; kept = kept } in
      recalls_now hand from (record { deferred = deferred'; output = record { messages = old.messages; notes = told; back = back }; kept = kept })
      (keeps_back (recall deferred) from deferred' back told h)

  pub recalls_all_here : (hand : Option Msg) (deferred deferred' back : List Msg) (told : List Note) (old : Output) (kept : Bool) → KeptStep (recall_all deferred) deferred' old.back back old.notes told
      → AppliesNow t me f l f l x commands.RecallAll hand (record { deferred = deferred; output = old; kept = kept }) hand
      (record { deferred = deferred'; output = record { messages = old.messages; notes = told; back = back }; kept = kept })
  recalls_all_here hand deferred deferred' back told old kept h =
      let from : Doing = record { deferred = deferred; output = old; kept = kept } in
      recalls_all_now hand from (record { deferred = deferred'; output = record { messages = old.messages; notes = told; back = back }; kept = kept })
      (keeps_back (recall_all deferred) from deferred' back told h)

  pub sends_now : (p : ℕ) (k : Option ℤ) (signal : ℕ) (payload : List ℤ) (prio : Priority) (hand : Option Msg) (old : Doing) (output : Output)
      → Adds (sent_at t me f l x p k (record { signal = signal; payload = payload; prio = prio })) old.output output
      → AppliesNow t me f l f l x (commands.Send p k signal payload prio) hand old hand (record old { output = output })
  sends_now p k signal payload prio hand old output h = record { on = λ m i. sends t me f l x m p k signal payload prio old output h; left = λ m i. i }

  pub asks_frame_now : (c : FrameCommand) (f' : Frame) (l' : Links) (hand : Option Msg) (old : Doing) (out : List Msg) → FrameAsked t me x c f l f' l' old.output.messages out
      → AppliesNow t me f l f' l' x (commands.Frame c) hand old hand (record old { output = record { messages = out; notes = old.output.notes; back = old.output.back } })
  asks_frame_now c f' l' hand old out h = record { on = λ m i. asks_frame t me f l x m c f' l' old out h; left = λ m i. i }

  pub asks_name_now : (c : NameCommand) (f' : Frame) (l' : Links) (hand : Option Msg) (old : Doing) (out : List Msg) → NameAsked t me x c f l f' l' old.output.messages out
      → AppliesNow t me f l f' l' x (commands.Name c) hand old hand (record old { output = record { messages = out; notes = old.output.notes; back = old.output.back } })
  asks_name_now c f' l' hand old out h = record { on = λ m i. asks_name t me f l x m c f' l' old out h; left = λ m i. i }

  -- ---- one after another

  pub none_applied : (m : Option Msg) (d : Doing) → AppliesAll t me f l f l x m [] d d
  none_applied m d = record { on = λ b. refl }

  pub first_applied : (m : Option Msg) (f' : Frame) (l' : Links) (f'' : Frame) (l'' : Links) (c : Command) (cs : List Command) (first old new : Doing)
      → Applies t me f l f' l' x m c first old → AppliesAll t me f' l' f'' l'' x m cs old new → AppliesAll t me f l f'' l'' x m (c ∷ cs) first new
  first_applied m f' l' f'' l'' c cs first old new h k = record { on = λ b. ap (apply_all t me x m cs) (h.on b) ∙ k.on b }
