-- What is read of a slot before its actor does something.
use Rattle.std.proofs.Common.{◌≡◌, ℕ, ◌<◌, [], true, get_or, set, All, Option, None, sym, ap, ◌∙◌, subst, arith}
use Rattle.std.specs.Vec.{vec_len}
use Rattle.std.proofs.lemmas.List.{get_or_read}
use Rattle.room_kinds.specs.declared.message.Msg.{Msg}
use Rattle.room_kinds.specs.declared.numbers.Incarnation.{Incarnation}
use Rattle.journal.specs.declared.entry.Did.TheVariants as did
use Rattle.actor_duties.specs.Words.{is_own, whose}
use Rattle.actor_duties.specs.Lives.{last_of}
use Rattle.chart_run.specs.declared.chart_tables.tables.Tables.{Tables}
use Rattle.chart_behaviour.specs.ModelCharts.{tables_at}
use Rattle.controller_mail.specs.MailState.{IsForActors, with_body}
use Rattle.controller_mail.specs.declared.mail_queues.TurnResult.{TurnResult}
use Rattle.controller_actors.specs.declared.services.ActorServices.{ActorServices}
use Rattle.controller_actors.specs.Served.{Serves, links_in}
use Rattle.frame_service.specs.State.{frame_in}
use Rattle.controller_actors.specs.declared.actor_slots.actor_slot.ActorSlot.{ActorSlot}
use Rattle.controller_actors.specs.actor_slots.Occupants.{AreSound, actor_in}
use Rattle.controller_actors.specs.actor_slots.Slots.{SlotFits, slot_body}
use Rattle.controller_actors.specs.declared.plant.Plant.{Plant}
use Rattle.controller_actors.specs.declared.actors.Actors.{Actors}
use Rattle.controller_actors.specs.Plants.{IsPlant}
use Rattle.controller_actors.specs.Rows.{own_below}
use Rattle.controller_actors.specs.Bodies.{HasSlots, IsWell, body_of, done_of, lives_of, slot_at, vacant}
use Rattle.controller_actors.specs.Steps.{Dispatches}
use Rattle.controller_actors.proofs.Tabled.{slot_sound}
use Rattle.controller_actors.proofs.OwnRows.{HasRow, at_own, has_row}
use Rattle.controller_actors.proofs.Bodies.{body_same, body_set, has_slots_set, empty_set}
use Rattle.controller_actors.proofs.Turning.{dispatches_nobody}

-- the row of an own slot is there
pub row_within : (p : Plant) (me : ℕ) (a : Actors) (s at : ℕ) → HasSlots p me a → is_own p.wiring me s ≡ true → at ≡ own_below p.wiring me s → at < vec_len a.slots
row_within p me a s at has_slots own e =
    let row = has_row p.wiring me a.slots.items s has_slots.count own in
    let within = row.within in
    omega (arith, within, e, a.slots.ok.0)

-- what is read in it stands there
pub slot_read : (p : Plant) (me : ℕ) (a : Actors) (s at : ℕ) (actor_slot : ActorSlot) → HasSlots p me a → is_own p.wiring me s ≡ true → at ≡ own_below p.wiring me s
    → actor_slot ≡ get_or a.slots.items at actor_slot → actor_slot ≡ slot_at p.wiring me a.slots.items s
slot_read p me a s at actor_slot has_slots own e is =
    let row = has_row p.wiring me a.slots.items s has_slots.count own in
    let within = row.within in
    get_or_read a.slots.items at actor_slot (omega (arith, within, e)) is vacant
    ∙ ap (λ i. get_or a.slots.items i vacant) e ∙ sym (at_own p.wiring me a.slots.items s own)

-- the tables of its class are sound
pub read_sound : (p : Plant) → IsPlant p → (s : ℕ) (o : Option Tables) → o ≡ tables_at p.wiring p.tables.items s → AreSound o
read_sound p h s o is = λ v e. slot_sound p h s v (sym is ∙ e)

-- it fits
pub read_fits : (p : Plant) (me : ℕ) (a : Actors) (s : ℕ) (x : Incarnation) (o : Option Tables) (actor_slot : ActorSlot) → HasSlots p me a
    → x ≡ last_of (lives_of a) s → o ≡ tables_at p.wiring p.tables.items s → actor_slot ≡ slot_at p.wiring me a.slots.items s → SlotFits x o actor_slot
read_fits p me a s x o actor_slot has_slots who tables is =
    subst (λ y. SlotFits y o actor_slot) (sym who)
    (subst (λ (v : Option Tables). SlotFits (last_of (lives_of a) s) v actor_slot) (sym tables)
    (subst (λ (y : ActorSlot). SlotFits (last_of (lives_of a) s) (tables_at p.wiring p.tables.items s) y) (sym is) (has_slots.each s)))

-- what it keeps has priorities
pub read_kept : (p : Plant) (me : ℕ) (a : Actors) (s : ℕ) (actor_slot : ActorSlot) → HasSlots p me a → actor_slot ≡ slot_at p.wiring me a.slots.items s → All IsForActors actor_slot.deferred
read_kept p me a s actor_slot has_slots is = subst (λ (y : ActorSlot). All IsForActors y.deferred) (sym is) (has_slots.each s).kept

-- nobody stands in the slot of a message, which stays as it was
pub dispatches_none : (p : Plant) (me : ℕ) (m : Msg) (old new : Actors) (before after : ActorSlot) (done : TurnResult) → HasRow p.wiring me old.slots.items m.target.slot.0
    → before ≡ slot_at p.wiring me old.slots.items m.target.slot.0 → new.services ≡ old.services → new.table ≡ old.table → new.slots.items ≡ set old.slots.items (own_below p.wiring me m.target.slot.0) after
    → actor_in before.occupant ≡ None → after ≡ before → done ≡ record { sent = []; back = []; did = did.Empty (whose m.target); notes = [] }
    → (lives_of old).lives m.target.slot.0 ≡ true → IsWell p me old → Dispatches p me m old new done
dispatches_none p me m old new before after done l read services table slots none stays is live well =
    let s = m.target.slot.0 in
    let b = body_of p me old in
    let same : after ≡ slot_at p.wiring me old.slots.items s = stays ∙ read in
    let lives : lives_of new ≡ lives_of old = ap (λ (x : ActorServices). (frame_in x.frame).lives) services in
    let there = dispatches_nobody p me m old done (ap (λ (y : ActorSlot). actor_in y.occupant) (sym read) ∙ none) is well in
    record {
      turn =
          there.turn
          ∙ ap (with_body (done_of done))
          (body_same p me old s ∙ ap (slot_body (frame_in old.services.frame) (links_in old.services) b s) (sym same)
          ∙ ap (λ (x : ActorServices). slot_body (frame_in x.frame) (links_in x) b s after) (sym services)
          ∙ sym (body_set p me old new s after l table slots));
      well = record {
        has_slots = has_slots_set p me old new s after l lives slots (subst (Serves p.wiring me) (sym services) well.has_slots.serves) well.has_slots
            (subst (λ (y : ActorSlot). SlotFits (last_of (lives_of old) s) (tables_at p.wiring p.tables.items s) y) (sym same) (well.has_slots.each s));
        empty = empty_set p me old new s after l lives slots live [] well.empty;
      };
      back = there.back;
    }
