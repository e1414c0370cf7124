-- A turn by the cases of the definition.
use Rattle.std.proofs.Common.{◌≡◌, ℕ, ◌==◌, ◌&&◌, ◌||◌, not, Bool, slice_get, true, false, [], set, All, Some, None, refl, sym, ap, ◌∙◌, subst}
use Rattle.std.proofs.lemmas.Bool.{and_from, cond-true, cond-false}
use Rattle.std.proofs.lemmas.List.Elements.{All-nil}
use Rattle.room_kinds.specs.declared.message.Msg.{Msg}
use Rattle.room_kinds.specs.declared.numbers.SlotId.{SlotId}
use Rattle.room_kinds.specs.declared.numbers.Incarnation.{Incarnation}
use Rattle.room_wiring.specs.declared.tables.Tables.{Tables as Wiring}
use Rattle.journal.specs.declared.entry.Did.TheVariants as did
use Rattle.actor_duties.specs.Words.{is_own, whose}
use Rattle.actor_duties.specs.Lives.{last_of}
use Rattle.actor_world.specs.Behaviour.{Behaviour}
use Rattle.actor_world.specs.Body.{Body}
use Rattle.actor_world.specs.Turns.{doing, treated, is_meant, nobody_there, handled, all_kinds, system_done, dispatched, dispatch, treat}
use Rattle.frame_service.specs.State.{frame_in}
use Rattle.chart_behaviour.specs.ModelCharts.{Actor, tables_at, handles}
use Rattle.controller_mail.specs.MailState.{IsForActors, with_body}
use Rattle.controller_mail.specs.declared.mail_queues.TurnResult.{TurnResult}
use Rattle.controller_actors.specs.Served.{Serves, links_in}
use Rattle.controller_actors.specs.declared.actor_slots.actor_slot.ActorSlot.{ActorSlot}
use Rattle.controller_actors.specs.actor_slots.Occupants.{actor_in, actor_of}
use Rattle.controller_actors.specs.actor_slots.Slots.{SlotTurns, slot_body, turned, treated_on}
use Rattle.controller_actors.specs.declared.plant.Plant.{Plant}
use Rattle.controller_actors.specs.declared.actors.Actors.{Actors}
use Rattle.controller_actors.specs.Plants.{model_of}
use Rattle.controller_actors.specs.Rows.{own_below}
use Rattle.controller_actors.specs.Bodies.{IsWell, body_of, done_of, lives_of, slot_at}
use Rattle.controller_actors.specs.Steps.{Dispatches, IsLast}
use Rattle.controller_actors.proofs.OwnRows.{HasRow}
use Rattle.controller_actors.proofs.Bodies.{body_same, body_set, has_slots_set, empty_set}

-- ---- the cases of a dispatch, over any behaviour

module _ {M : Type 0} (model : Behaviour M) (t : Wiring) (me : ℕ) (b : Body M) (m : Msg) where
  dispatch_nobody : (is_own t me m.target.slot.0 && b.frame.lives.lives m.target.slot.0) ≡ false → dispatch model t me b m ≡ nobody_there b m
  unfolding dispatch
  dispatch_nobody e = cond-true _ _ _ (ap not e)

  dispatch_stale : (is_own t me m.target.slot.0 && b.frame.lives.lives m.target.slot.0) ≡ true → is_meant b.frame m ≡ false
      → dispatch model t me b m ≡ treated (doing b) (did.Stale (whose m.target))
  unfolding dispatch
  dispatch_stale e h = cond-false _ _ _ (ap not e) ∙ cond-true _ _ _ (ap not h)

  dispatch_handled : (is_own t me m.target.slot.0 && b.frame.lives.lives m.target.slot.0) ≡ true → is_meant b.frame m ≡ true
      → dispatch model t me b m ≡ dispatched model t me b m (b.machines m.target.slot.0)
  unfolding dispatch
  dispatch_handled e h = cond-false _ _ _ (ap not e) ∙ cond-false _ _ _ (ap not h)

  pub treat_dispatch : (m.prio.0 == 0) ≡ false → treat model t me b m ≡ dispatch model t me b m
  unfolding treat
  treat_dispatch e = cond-false _ _ _ e

  pub treat_duty : (m.prio.0 == 0) ≡ true → treat model t me b m ≡ treated (system_done model t me b m (slice_get all_kinds m.signal)) did.Duty
  unfolding treat
  treat_duty e = cond-true _ _ _ e

-- ---- the same of the actors of a controller

-- whether an actor lives in a message's slot
abbrev is_here : Wiring → ℕ → Msg → Actors → Bool
is_here t me m a = is_own t me m.target.slot.0 && (lives_of a).lives m.target.slot.0

-- whether it is meant
abbrev is_for : Msg → Actors → Bool
is_for m a = is_meant (frame_in a.services.frame) m

module _ (p : Plant) (me : ℕ) (m : Msg) (old : Actors) where
  -- the frame service's state of the body
  frame_is : (body_of p me old).frame ≡ frame_in old.services.frame
  unfolding body_of
  frame_is = refl

  machine_is : (s : ℕ) → (body_of p me old).machines s ≡ actor_in (slot_at p.wiring me old.slots.items s).occupant
  unfolding body_of
  machine_is s = refl

  pub sends_nobody : (done : TurnResult) → is_here p.wiring me m old ≡ false → done ≡ record { sent = []; back = []; did = did.Empty (whose m.target); notes = [] }
      → dispatch (model_of p) p.wiring me (body_of p me old) m ≡ with_body (done_of done) (body_of p me old)
  unfolding body_of
  sends_nobody done e is =
      dispatch_nobody (model_of p) p.wiring me (body_of p me old) m e
      ∙ ap (λ (d : TurnResult). with_body (done_of d) (body_of p me old)) (sym is)

  -- an actor that lives in the message's slot
  module _ (who : Incarnation) (slot : who.slot ≡ m.target.slot) (last : IsLast p.wiring me (lives_of old) who) (own : is_own p.wiring me m.target.slot.0 ≡ true) where
    here : is_here p.wiring me m old ≡ true
    here = and_from (is_own p.wiring me m.target.slot.0) ((lives_of old).lives m.target.slot.0) own (subst (λ (s : SlotId). (lives_of old).lives s.0 ≡ true) slot last.live)

    -- whether the message is meant
    meant : is_for m old ≡ ((m.target.generation.0 == 0) || (m.target.generation.0 == who.generation.0))
    meant =
        ap (λ g. (m.target.generation.0 == 0) || (m.target.generation.0 == g))
        (ap (λ (s : SlotId). (lives_of old).generation s.0) (sym slot) ∙ ap (λ (x : Incarnation). x.generation.0) last.last)

    pub sends_stale : (done : TurnResult) → ((m.target.generation.0 == 0) || (m.target.generation.0 == who.generation.0)) ≡ false
        → done ≡ record { sent = []; back = []; did = did.Stale (whose m.target); notes = [] }
        → dispatch (model_of p) p.wiring me (body_of p me old) m ≡ with_body (done_of done) (body_of p me old)
    unfolding body_of
    sends_stale done h is =
        dispatch_stale (model_of p) p.wiring me (body_of p me old) m here (meant ∙ h)
        ∙ ap (λ (d : TurnResult). with_body (done_of d) (body_of p me old)) (sym is)

    pub sends_handled : (new : Actors) (done : TurnResult) → ((m.target.generation.0 == 0) || (m.target.generation.0 == who.generation.0)) ≡ true → Dispatches p me m old new done
        → dispatch (model_of p) p.wiring me (body_of p me old) m ≡ with_body (done_of done) (body_of p me new)
    unfolding body_of
    sends_handled new done h d = dispatch_handled (model_of p) p.wiring me (body_of p me old) m here (meant ∙ h) ∙ d.turn

  -- nobody stands in the slot
  pub dispatches_nobody : (done : TurnResult) → actor_in (slot_at p.wiring me old.slots.items m.target.slot.0).occupant ≡ None → done ≡ record { sent = []; back = []; did = did.Empty (whose m.target); notes = [] }
      → IsWell p me old → Dispatches p me m old old done
  dispatches_nobody done e is well = record {
    turn =
        ap (dispatched (model_of p) p.wiring me (body_of p me old) m) (machine_is m.target.slot.0 ∙ e)
        ∙ ap (λ (d : TurnResult). with_body (done_of d) (body_of p me old)) (sym is);
    well = well;
    back = subst (λ (d : TurnResult). All IsForActors d.back) (sym is) (All-nil IsForActors);
  }

  -- the machine of a behaviour handles the message
  handled_is : (actor : Actor) → handled (model_of p) p.wiring me (body_of p me old) (last_of (lives_of old) m.target.slot.0) m actor
      ≡ turned p.wiring me (body_of p me old) (last_of (lives_of old) m.target.slot.0) m (handles (last_of (lives_of old) m.target.slot.0) m (tables_at p.wiring p.tables.items m.target.slot.0) actor)
  unfolding handled
  handled_is actor = refl

  dispatched_is : (actor : Actor) → dispatched (model_of p) p.wiring me (body_of p me old) m (Some actor)
      ≡ handled (model_of p) p.wiring me (body_of p me old) (last_of (lives_of old) m.target.slot.0) m actor
  unfolding body_of
  dispatched_is actor = refl

  -- an actor stands in the slot
  pub dispatches_actor : (new : Actors) (before after : ActorSlot) (done : TurnResult) → HasRow p.wiring me old.slots.items m.target.slot.0
      → before ≡ slot_at p.wiring me old.slots.items m.target.slot.0 → new.table ≡ old.table → new.slots.items ≡ set old.slots.items (own_below p.wiring me m.target.slot.0) after → Serves p.wiring me new.services
      → SlotTurns p.wiring me (frame_in old.services.frame) (links_in old.services) (frame_in new.services.frame) (links_in new.services) (last_of (lives_of old) m.target.slot.0) m (tables_at p.wiring p.tables.items m.target.slot.0) before after done
      → (lives_of old).lives m.target.slot.0 ≡ true → IsWell p me old → Dispatches p me m old new done
  dispatches_actor new before after done l is table slots serves h live well =
      let s = m.target.slot.0 in
      let x = last_of (lives_of old) s in
      let f = frame_in old.services.frame in
      let b = body_of p me old in
      let r = handles x m (tables_at p.wiring p.tables.items s) (actor_of before.occupant) in
      record {
        turn =
            ap (dispatched (model_of p) p.wiring me b m) (machine_is s ∙ ap (λ (y : ActorSlot). actor_in y.occupant) (sym is) ∙ h.stood)
            ∙ dispatched_is (actor_of before.occupant)
            ∙ handled_is (actor_of before.occupant)
            ∙ ap (λ (c : Body Actor). turned p.wiring me c x m r) (body_same p me old s ∙ ap (slot_body f (links_in old.services) b s) (sym is))
            ∙ h.turn b
            ∙ ap (treated_on done) (sym (body_set p me old new s after l table slots));
        well = record {
          has_slots = has_slots_set p me old new s after l h.lives slots serves well.has_slots h.fits;
          empty = empty_set p me old new s after l h.lives slots live [] well.empty;
        };
        back = h.back;
      }
