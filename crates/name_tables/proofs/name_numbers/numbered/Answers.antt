use Rattle.std.proofs.Common.{ℕ, List, [], Bor}
use Rattle.name_tables.proofs.name_numbers.Lists.{distinct_none, number_next, number_twice}
use Rattle.name_tables.proofs.name_numbers.numbered.Goals as goal

abbrev nothing : Bor (List ℕ)
nothing = record { ref_ptr = (0, 0); now = [] }

pub loop-name-init : goal.loop-name-init
loop-name-init c = (c.new-numbers.ensures, rw c.new-numbers.ensures distinct_none)

pub loop-name-preserved : goal.loop-name-preserved
loop-name-preserved c =
    number_next c.args.names.now c.loop-name.name-index nothing c.in_ok-add.field-0 c.loop-name.numbers c.add.new.self c.loop-name-test.true c.loop-name.invariant c.if-not-branch.false c.in_ok-add.ensures.new c.in_ok-add.ensures.names

pub returns-then-not-branch : goal.returns-then-not-branch
returns-then-not-branch c =
    number_twice c.args.names.now c.loop-name.name-index nothing c.in_ok-add.field-0 c.loop-name.numbers c.loop-name-test.true c.loop-name.invariant c.if-not-branch.true c.in_ok-add.ensures.new
