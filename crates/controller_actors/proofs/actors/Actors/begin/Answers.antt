use Rattle.std.proofs.Common.{◌≡◌, Option, set, refl, ap, subst, sym}
use Rattle.std.specs.Option.{option_copied}
use Rattle.room_kinds.specs.declared.numbers.Incarnation.{Incarnation}
use Rattle.actor_duties.specs.Lives.{last_of}
use Rattle.actor_world.proofs.Slots.{own_in_range}
use Rattle.chart_run.specs.declared.chart_tables.tables.Tables.{Tables}
use Rattle.frame_service.specs.State.{frame_in}
use Rattle.controller_actors.specs.Served.{links_in}
use Rattle.controller_actors.specs.Rows.{own_below}
use Rattle.controller_actors.specs.Bodies.{lives_of}
use Rattle.controller_actors.specs.actor_slots.Slots.{SlotBegins}
use Rattle.controller_actors.proofs.Beginnings.{actors_begin}
use Rattle.controller_actors.proofs.OwnRows.{has_row}
use Rattle.controller_actors.proofs.SlotReads.{read_kept, read_sound, row_within, slot_read}
use Rattle.controller_actors.proofs.actors.Actors.begin.Goals as goal

pub row_of-requires : goal.row_of-requires
row_of-requires c = own_in_range c.args.plant.now.wiring c.args.me.0 c.args.who.slot.0 c.requires.last.own

pub index_mut-actor_slot-requires : goal.index_mut-actor_slot-requires
index_mut-actor_slot-requires c =
    let own = c.requires.last.own in
    row_within c.args.plant.now c.args.me.0 c.args.self.now c.args.who.slot.0 c.row_of.result c.requires.has_slots own (c.row_of.ensures c.args.me.0 own)

pub begin-requires-clause-there : goal.begin-requires-clause-there
begin-requires-clause-there c = own_in_range c.args.plant.now.wiring c.args.me.0 c.args.who.slot.0 c.requires.last.own

pub begin-requires-clause-kept : goal.begin-requires-clause-kept
begin-requires-clause-kept c =
    let p = c.args.plant.now in
    let me = c.args.me.0 in
    let old = c.args.self.now in
    let s = c.args.who.slot.0 in
    let own = c.requires.last.own in
    let before = c.index_mut-actor_slot.result.now in
    read_kept p me old s before c.requires.has_slots
    (slot_read p me old s c.row_of.result before c.requires.has_slots own (c.row_of.ensures me own) c.index_mut-actor_slot.ensures.value)

pub begin-requires-clause-sound : goal.begin-requires-clause-sound
begin-requires-clause-sound c = read_sound c.args.plant.now c.args.plant.now.fits c.args.who.slot.0 (option_copied c.tables_of-tables.result) c.tables_of-tables.ensures

pub returns : goal.returns
returns c =
    let p = c.args.plant.now in
    let old = c.args.self.now in
    let s = c.args.who.slot.0 in
    let f = frame_in old.services.frame in
    let g = frame_in c.begin.new.services.frame in
    let l = links_in old.services in
    let k = links_in c.begin.new.services in
    let before = c.index_mut-actor_slot.result.now in
    let after = c.begin.new.self in
    let first = c.args.output.now in
    let last = c.begin.new.output in
    let state = c.in_ok-state.state in
    let own = c.requires.last.own in
    let at : c.row_of.result ≡ own_below p.wiring c.args.me.0 s = c.row_of.ensures c.args.me.0 own in
    actors_begin p c.args.me.0 old _ s before after first last state (has_row p.wiring c.args.me.0 old.slots.items s c.requires.has_slots.count own)
    (slot_read p c.args.me.0 old s c.row_of.result before c.requires.has_slots own at c.index_mut-actor_slot.ensures.value) refl
    (ap (λ i. set old.slots.items i after) at) c.in_ok-state.ensures.serves
    (subst (λ (o : Option Tables). SlotBegins p.wiring c.args.me.0 f l g k (last_of (lives_of old) s) o before after first last state) c.tables_of-tables.ensures
    (subst (λ (x : Incarnation). SlotBegins p.wiring c.args.me.0 f l g k x (option_copied c.tables_of-tables.result) before after first last state) (sym c.requires.last.last) c.in_ok-state.ensures.begins))
    c.requires.last.live c.requires.has_slots
