use Rattle.std.proofs.Common.{◌≡◌, ℕ, [], ◌∷◌, ◌++◌, length, set, refl, ap, ◌∙◌}
use Rattle.room_kinds.specs.declared.note.Note.TheVariants as notes
use Rattle.std.specs.Vec.{with_item}
use Rattle.actor_world.proofs.Slots.{own_in_range}
use Rattle.controller_actors.specs.declared.actors.Actors.{Actors}
use Rattle.controller_actors.specs.declared.actor_slots.actor_slot.ActorSlot.{ActorSlot}
use Rattle.controller_actors.specs.Rows.{own_below}
use Rattle.controller_actors.specs.Bodies.{slot_at}
use Rattle.controller_actors.proofs.OwnRows.{has_row}
use Rattle.controller_actors.proofs.SlotReads.{row_within, slot_read}
use Rattle.controller_actors.proofs.Moving.{goes_down}
use Rattle.controller_actors.proofs.Bodies.{empty_vacated}
use Rattle.controller_actors.proofs.actors.Actors.go_down.Goals as goal

pub row_of-requires : goal.row_of-requires
row_of-requires c = own_in_range c.args.plant.now.wiring c.args.me.0 c.args.who.slot.0 c.requires.own

pub index_mut-actor_slot-requires : goal.index_mut-actor_slot-requires
index_mut-actor_slot-requires c =
    row_within c.args.plant.now c.args.me.0 c.args.self.now c.args.who.slot.0 c.row_of.result c.requires.has_slots c.requires.own (c.row_of.ensures c.args.me.0 c.requires.own)

pub returns-clause-moves : goal.returns-clause-moves
returns-clause-moves c =
    let old = c.args.self.now in
    let x = c.args.who in
    let p = c.args.plant.now in
    let me = c.args.me.0 in
    let own = c.requires.own in
    let row = own_below p.wiring me x.slot.0 in
    let at : c.row_of.result ≡ row = c.row_of.ensures me own in
    let read : c.index_mut-actor_slot.result.now ≡ slot_at p.wiring me old.slots.items x.slot.0 =
    slot_read p me old x.slot.0 c.row_of.result c.index_mut-actor_slot.result.now c.requires.has_slots own at c.index_mut-actor_slot.ensures.value in
    goes_down p me old _ x c.args.output.now _ (has_row p.wiring me old.slots.items x.slot.0 c.requires.has_slots.count own) refl c.in_ok-end_of.ensures.now refl
    (ap (λ i. set old.slots.items i c.vacate-lost.new.self) at ∙ ap (set old.slots.items row) c.vacate-lost.ensures.vacant)
    c.in_ok-end_of.ensures.sent refl
    (c.in_ok-push.ensures.ok ∙ ap (λ (n : ℕ). c.args.output.now.notes ++ notes.Down x n ∷ []) (c.vacate-lost.ensures.lost ∙ ap (λ (y : ActorSlot). length y.deferred) read))
    c.requires.has_slots

pub returns-clause-empty : goal.returns-clause-empty
returns-clause-empty c =
    let old = c.args.self.now in
    let x = c.args.who in
    let p = c.args.plant.now in
    let me = c.args.me.0 in
    let own = c.requires.own in
    let new : Actors = record { alloc = old.alloc; services = record { frame = old.services.frame; links = c.end_of.new.self }; table = old.table; slots = with_item old.slots c.row_of.result c.vacate-lost.new.self } in
    empty_vacated p me old new x (has_row p.wiring me old.slots.items x.slot.0 c.requires.has_slots.count own) refl
    (ap (λ i. set old.slots.items i c.vacate-lost.new.self) (c.row_of.ensures me own) ∙ ap (set old.slots.items (own_below p.wiring me x.slot.0)) c.vacate-lost.ensures.vacant)
