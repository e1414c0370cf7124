use Rattle.std.proofs.Common.{◌≡◌, true, [], Option, None, set, refl, sym, ap, ◌∙◌, subst}
use Rattle.std.specs.Option.{option_copied}
use Rattle.room_kinds.specs.declared.numbers.SlotId.{SlotId}
use Rattle.room_kinds.specs.declared.numbers.Incarnation.{Incarnation}
use Rattle.journal.specs.declared.entry.Did.TheVariants as did
use Rattle.actor_duties.specs.Words.{is_own}
use Rattle.actor_duties.specs.Lives.{last_of}
use Rattle.actor_world.proofs.Slots.{own_in_range}
use Rattle.chart_run.specs.declared.chart_tables.tables.Tables.{Tables}
use Rattle.chart_behaviour.specs.ModelCharts.{tables_at}
use Rattle.frame_service.specs.State.{frame_in}
use Rattle.controller_actors.specs.Served.{links_in}
use Rattle.controller_actors.specs.Rows.{own_below}
use Rattle.controller_actors.specs.Bodies.{lives_of}
use Rattle.controller_actors.specs.actor_slots.Occupants.{actor_in}
use Rattle.controller_actors.specs.actor_slots.Slots.{SlotTurns}
use Rattle.controller_actors.proofs.Turning.{dispatches_actor}
use Rattle.controller_actors.proofs.OwnRows.{has_row}
use Rattle.controller_actors.proofs.SlotReads.{dispatches_none, read_fits, read_sound, row_within, slot_read}
use Rattle.controller_actors.proofs.actors.Actors.handle.Goals as goal

pub row_of-requires : goal.row_of-requires
row_of-requires c = own_in_range c.args.plant.now.wiring c.args.me.0 c.args.who.slot.0 c.requires.last.own

pub index_mut-actor_slot-requires : goal.index_mut-actor_slot-requires
index_mut-actor_slot-requires c =
    let own = c.requires.last.own in
    row_within c.args.plant.now c.args.me.0 c.args.self.now c.args.who.slot.0 c.row_of.result c.requires.well.has_slots own (c.row_of.ensures c.args.me.0 own)

pub handle-requires-clause-there : goal.handle-requires-clause-there
handle-requires-clause-there c = own_in_range c.args.plant.now.wiring c.args.me.0 c.args.who.slot.0 c.requires.last.own

pub handle-requires-clause-fits : goal.handle-requires-clause-fits
handle-requires-clause-fits c =
    let p = c.args.plant.now in
    let me = c.args.me.0 in
    let old = c.args.self.now in
    let s = c.args.who.slot.0 in
    let own = c.requires.last.own in
    let before = c.index_mut-actor_slot.result.now in
    read_fits p me old s c.args.who (option_copied c.tables_of-tables.result) before c.requires.well.has_slots (sym c.requires.last.last) c.tables_of-tables.ensures
    (slot_read p me old s c.row_of.result before c.requires.well.has_slots own (c.row_of.ensures me own) c.index_mut-actor_slot.ensures.value)

pub handle-requires-clause-sound : goal.handle-requires-clause-sound
handle-requires-clause-sound c = read_sound c.args.plant.now c.args.plant.now.fits c.args.who.slot.0 (option_copied c.tables_of-tables.result) c.tables_of-tables.ensures

pub returns-in-Ok-Some : goal.returns-in-Ok-Some
returns-in-Ok-Some c =
    let p = c.args.plant.now in
    let old = c.args.self.now in
    let m = c.args.m in
    let s = m.target.slot.0 in
    let same : c.args.who.slot.0 ≡ s = ap (λ (n : SlotId). n.0) c.requires.target in
    let f = frame_in old.services.frame in
    let g = frame_in c.handle.new.services.frame in
    let l = links_in old.services in
    let k = links_in c.handle.new.services in
    let before = c.index_mut-actor_slot.result.now in
    let after = c.handle.new.self in
    let done = c.in-Ok-Some.done in
    let me = c.args.me.0 in
    let own : is_own p.wiring me s ≡ true = subst (λ n. is_own p.wiring me n ≡ true) same c.requires.last.own in
    let row = has_row p.wiring me old.slots.items s c.requires.well.has_slots.count own in
    let at : c.row_of.result ≡ own_below p.wiring me s = c.row_of.ensures me c.requires.last.own ∙ ap (own_below p.wiring me) same in
    let who : c.args.who ≡ last_of (lives_of old) s = sym (subst (λ n. last_of (lives_of old) n ≡ c.args.who) same c.requires.last.last) in
    let live : (lives_of old).lives s ≡ true = subst (λ n. (lives_of old).lives n ≡ true) same c.requires.last.live in
    let tables : option_copied c.tables_of-tables.result ≡ tables_at p.wiring p.tables.items s = c.tables_of-tables.ensures ∙ ap (tables_at p.wiring p.tables.items) same in
    let h : SlotTurns p.wiring c.args.me.0 f l g k c.args.who m (option_copied c.tables_of-tables.result) before after done = rw c.in-Ok-Some.field-0-is at c.in-Ok-Some.ensures.turns in
    dispatches_actor p c.args.me.0 m old _ before after done row
    (slot_read p me old s c.row_of.result before c.requires.well.has_slots own at c.index_mut-actor_slot.ensures.value) refl
    (ap (λ i. set old.slots.items i after) at) c.in-Ok-Some.ensures.serves
    (subst (λ (o : Option Tables). SlotTurns p.wiring c.args.me.0 f l g k (last_of (lives_of old) s) m o before after done) tables
    (subst (λ (x : Incarnation). SlotTurns p.wiring c.args.me.0 f l g k x m (option_copied c.tables_of-tables.result) before after done) who h))
    live c.requires.well

pub returns-in-Ok-None : goal.returns-in-Ok-None
returns-in-Ok-None c =
    let p = c.args.plant.now in
    let old = c.args.self.now in
    let m = c.args.m in
    let s = m.target.slot.0 in
    let same : c.args.who.slot.0 ≡ s = ap (λ (n : SlotId). n.0) c.requires.target in
    let before = c.index_mut-actor_slot.result.now in
    let after = c.handle.new.self in
    let me = c.args.me.0 in
    let own : is_own p.wiring me s ≡ true = subst (λ n. is_own p.wiring me n ≡ true) same c.requires.last.own in
    let row = has_row p.wiring me old.slots.items s c.requires.well.has_slots.count own in
    let at : c.row_of.result ≡ own_below p.wiring me s = c.row_of.ensures me c.requires.last.own ∙ ap (own_below p.wiring me) same in
    let live : (lives_of old).lives s ≡ true = subst (λ n. (lives_of old).lives n ≡ true) same c.requires.last.live in
    let h : (actor_in before.occupant ≡ None) × (after ≡ before) × (c.handle.new.services ≡ old.services) = rw c.in-Ok-None.field-0-is at c.in-Ok-None.ensures.turns in
    dispatches_none p c.args.me.0 m old _ before after c.nobody_there.result row
    (slot_read p me old s c.row_of.result before c.requires.well.has_slots own at c.index_mut-actor_slot.ensures.value) h.2 refl
    (ap (λ i. set old.slots.items i after) at) h.0 h.1
    (c.nobody_there.ensures ∙ ap (λ (x : Incarnation). record { sent = []; back = []; did = did.Empty x; notes = [] }) c.whose-target.ensures) live c.requires.well
