use Rattle.std.proofs.Common.{◌≡◌, Option, set, refl, ap, subst}
use Rattle.std.specs.Option.{option_copied}
use Rattle.actor_world.proofs.Slots.{own_in_range}
use Rattle.chart_run.specs.declared.chart_tables.tables.Tables.{Tables}
use Rattle.frame_service.specs.State.{frame_in}
use Rattle.std.specs.Vec.{with_item}
use Rattle.controller_actors.specs.Served.{links_in}
use Rattle.controller_actors.specs.Rows.{own_below}
use Rattle.controller_actors.specs.declared.actors.Actors.{Actors}
use Rattle.controller_actors.specs.actor_slots.Slots.{SlotComesUp}
use Rattle.controller_actors.proofs.OwnRows.{has_row}
use Rattle.controller_actors.proofs.SlotReads.{read_sound, row_within, slot_read}
use Rattle.controller_actors.proofs.Moving.{comes_up}
use Rattle.controller_actors.proofs.Bodies.{empty_set}
use Rattle.controller_actors.proofs.actors.Actors.come_up.Goals as goal

pub row_of-requires : goal.row_of-requires
row_of-requires c = own_in_range c.args.plant.now.wiring c.args.me.0 c.args.who.slot.0 c.requires.last.own

pub index_mut-actor_slot-requires : goal.index_mut-actor_slot-requires
index_mut-actor_slot-requires c =
    let own = c.requires.last.own in
    row_within c.args.plant.now c.args.me.0 c.args.self.now c.args.who.slot.0 c.row_of.result c.requires.has_slots own (c.row_of.ensures c.args.me.0 own)

pub come_up-requires-clause-there : goal.come_up-requires-clause-there
come_up-requires-clause-there c = own_in_range c.args.plant.now.wiring c.args.me.0 c.args.who.slot.0 c.requires.last.own

pub come_up-requires-clause-sound : goal.come_up-requires-clause-sound
come_up-requires-clause-sound c = read_sound c.args.plant.now c.args.plant.now.fits c.args.who.slot.0 (option_copied c.tables_of-tables.result) c.tables_of-tables.ensures

pub returns-clause-moves : goal.returns-clause-moves
returns-clause-moves c =
    let p = c.args.plant.now in
    let old = c.args.self.now in
    let x = c.args.who in
    let f = frame_in old.services.frame in
    let g = frame_in c.come_up.new.services.frame in
    let l = links_in old.services in
    let k = links_in c.come_up.new.services in
    let before = c.index_mut-actor_slot.result.now in
    let after = c.come_up.new.self in
    let first = c.args.output.now in
    let last = c.come_up.new.output in
    let me = c.args.me.0 in
    let own = c.requires.last.own in
    let at : c.row_of.result ≡ own_below p.wiring me x.slot.0 = c.row_of.ensures me own in
    comes_up p me old _ x before after first last (has_row p.wiring me old.slots.items x.slot.0 c.requires.has_slots.count own)
    (slot_read p me old x.slot.0 c.row_of.result before c.requires.has_slots own at c.index_mut-actor_slot.ensures.value) refl
    (ap (λ i. set old.slots.items i after) at) c.in_ok-come_up.ensures.serves
    (subst (λ (o : Option Tables). SlotComesUp p.wiring c.args.me.0 f l g k x o before after first last) c.tables_of-tables.ensures c.in_ok-come_up.ensures.up)
    c.requires.has_slots c.requires.last

pub returns-clause-empty : goal.returns-clause-empty
returns-clause-empty c =
    let p = c.args.plant.now in
    let me = c.args.me.0 in
    let old = c.args.self.now in
    let s = c.args.who.slot.0 in
    let own = c.requires.last.own in
    let after = c.come_up.new.self in
    let new : Actors = record { alloc = old.alloc; services = c.come_up.new.services; table = old.table; slots = with_item old.slots c.row_of.result after } in
    empty_set p me old new s after (has_row p.wiring me old.slots.items s c.requires.has_slots.count own) c.in_ok-come_up.ensures.up.lives
    (ap (λ i. set old.slots.items i after) (c.row_of.ensures me own)) c.requires.last.live
