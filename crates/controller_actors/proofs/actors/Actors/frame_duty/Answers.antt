use Rattle.std.proofs.Common.{refl}
use Rattle.controller_actors.specs.declared.actors.Actors.{Actors}
use Rattle.controller_actors.proofs.Finishing.{own_done, duty_has_slots, duty_empty, duty_made, duty_ended, has_duty}
use Rattle.controller_actors.proofs.actors.Actors.frame_duty.Goals as goal

pub finish-requires-clause-has_slots : goal.finish-requires-clause-has_slots
finish-requires-clause-has_slots c =
    let p = c.args.plant.now in
    let me = c.args.me.0 in
    let m = c.args.m.now in
    let old = c.args.self.now in
    let mid : Actors = record { alloc = old.alloc; services = record { frame = c.duty.new.self; links = old.services.links }; table = old.table; slots = old.slots } in
    let left = c.in_ok-left.left in
    let h = own_done p me m c.args.kind old.services.frame c.duty.new.self c.new-sent.result c.duty.new.out left c.requires.well.has_slots.serves.owner c.new-sent.ensures (c.in_ok-left.ensures.done c.args.kind c.requires.kind) in
    duty_has_slots p me m c.args.kind old mid c.duty.new.out left c.requires.well refl refl refl h

pub finish-requires-clause-empty : goal.finish-requires-clause-empty
finish-requires-clause-empty c =
    let p = c.args.plant.now in
    let me = c.args.me.0 in
    let m = c.args.m.now in
    let old = c.args.self.now in
    let mid : Actors = record { alloc = old.alloc; services = record { frame = c.duty.new.self; links = old.services.links }; table = old.table; slots = old.slots } in
    let left = c.in_ok-left.left in
    let h = own_done p me m c.args.kind old.services.frame c.duty.new.self c.new-sent.result c.duty.new.out left c.requires.well.has_slots.serves.owner c.new-sent.ensures (c.in_ok-left.ensures.done c.args.kind c.requires.kind) in
    duty_empty p me m c.args.kind old mid c.duty.new.out left c.requires.well refl refl refl h

pub finish-requires-clause-made : goal.finish-requires-clause-made
finish-requires-clause-made c =
    let p = c.args.plant.now in
    let me = c.args.me.0 in
    let m = c.args.m.now in
    let old = c.args.self.now in
    let mid : Actors = record { alloc = old.alloc; services = record { frame = c.duty.new.self; links = old.services.links }; table = old.table; slots = old.slots } in
    let left = c.in_ok-left.left in
    let h = own_done p me m c.args.kind old.services.frame c.duty.new.self c.new-sent.result c.duty.new.out left c.requires.well.has_slots.serves.owner c.new-sent.ensures (c.in_ok-left.ensures.done c.args.kind c.requires.kind) in
    duty_made p me m c.args.kind old mid c.duty.new.out left c.requires.well refl refl refl h

pub finish-requires-clause-ended : goal.finish-requires-clause-ended
finish-requires-clause-ended c =
    let p = c.args.plant.now in
    let me = c.args.me.0 in
    let m = c.args.m.now in
    let old = c.args.self.now in
    let mid : Actors = record { alloc = old.alloc; services = record { frame = c.duty.new.self; links = old.services.links }; table = old.table; slots = old.slots } in
    let left = c.in_ok-left.left in
    let h = own_done p me m c.args.kind old.services.frame c.duty.new.self c.new-sent.result c.duty.new.out left c.requires.well.has_slots.serves.owner c.new-sent.ensures (c.in_ok-left.ensures.done c.args.kind c.requires.kind) in
    duty_ended p me m c.args.kind old mid c.duty.new.out left c.requires.well refl refl refl h

pub returns : goal.returns
returns c =
    let p = c.args.plant.now in
    let me = c.args.me.0 in
    let m = c.args.m.now in
    let old = c.args.self.now in
    let mid : Actors = record { alloc = old.alloc; services = record { frame = c.duty.new.self; links = old.services.links }; table = old.table; slots = old.slots } in
    let left = c.in_ok-left.left in
    let h = own_done p me m c.args.kind old.services.frame c.duty.new.self c.new-sent.result c.duty.new.out left c.requires.well.has_slots.serves.owner c.new-sent.ensures (c.in_ok-left.ensures.done c.args.kind c.requires.kind) in
    has_duty p me m c.args.kind old mid c.duty.new.out left c.requires.well refl refl refl h c.finish.new.self c.in_ok-done.done c.requires.frame c.in_ok-done.ensures
