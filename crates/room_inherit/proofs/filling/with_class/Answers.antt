use Rattle.room_inherit.proofs.Bases.{taken_there}
use Rattle.room_inherit.proofs.filling.with_class.Goals as goal

pub returns-in-Some-2-clause-flats : goal.returns-in-Some-2-clause-flats
returns-in-Some-2-clause-flats c =
    taken_there _ _ c.args.flats.now.items c.as_slice.result.now c.args.number _ c.base_of.result _ c.in_ok-flat.field-0 c.in-Some-2.flat _ c.in-Some.ensures c.base_of.ensures c.flat_there-base.ensures c.as_slice.ensures.value c.in_ok-flat.ensures c.in-Some-2.is c.put_new-after.ensures.flats
