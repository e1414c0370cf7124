use Rattle.std.proofs.Common.{◌≡◌, map, take}
use Rattle.room_wiring.specs.wiring_names.Lookup.{numbering}
use Rattle.room_wiring.proofs.wiring_names.named.add_all.Given as goal

abbrev pub invariant-loop-item : goal.invariant-loop-item
invariant-loop-item g l = l.numbers ≡ numbering l.initial.numbers (map g.T.Named.name_of (take l.item-index l.items))
