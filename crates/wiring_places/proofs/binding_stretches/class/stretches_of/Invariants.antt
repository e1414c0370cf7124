use Rattle.std.proofs.Common.{◌≡◌, ◌++◌, drop}
use Rattle.wiring_places.specs.place_rules.Stretches.{stretches_from, taken_from, none_taken}
use Rattle.wiring_places.specs.binding_stretches.Taken.{taken_in}
use Rattle.wiring_places.proofs.binding_stretches.class.stretches_of.Given as goal

abbrev pub invariant-loop-binding : goal.invariant-loop-binding
invariant-loop-binding l = record {
  stretches : l.stretches.items ++ stretches_from l.plan l.class (taken_in l.taken) (drop l.binding-index l.bindings) ≡ stretches_from l.plan l.class none_taken l.bindings;
  taken : taken_from l.plan l.class (taken_in l.taken) (drop l.binding-index l.bindings) ≡ taken_from l.plan l.class none_taken l.bindings;
}
