use Rattle.std.proofs.Common.{◌≡◌, ℕ, ◌<◌, List, length, subst, get_or, refl}
use Rattle.check_mappings.specs.mapping_rules.TextTrees.{text_in}
use Rattle.check_mappings.proofs.mapping_rules.TextTrees.{seen_none, seen_more, seen_twice, seen_all}
use Rattle.check_mappings.proofs.mapping_rules.text_tree.TextTree.are_distinct.Goals as goal

-- no text has two numbers
abbrev One : List (List ℕ) → Type 0
One texts = (i j : ℕ) → i < length texts → j < length texts → text_in texts i ≡ text_in texts j → i ≡ j

pub loop-number-init : goal.loop-number-init
loop-number-init c = seen_none c.args.self.now c.args.numbers.now c.new-seen.result.keys c.new-seen.ensures.empty

pub returns-then-not-branch : goal.returns-then-not-branch
returns-then-not-branch c =
    seen_twice c.args.self.now (subst One c.self.view_is c.self.invariant.distinct) c.args.numbers.now c.loop-number.number-index c.loop-number.seen.keys (get_or c.args.numbers.now c.loop-number.number-index 0) c.requires c.loop-number.invariant c.loop-number-test.true refl
    c.in_ok-insert.field-0 c.in_ok-insert.ensures.added c.if-not-branch.true

pub loop-number-preserved : goal.loop-number-preserved
loop-number-preserved c =
    seen_more c.args.self.now (subst One c.self.view_is c.self.invariant.distinct) c.args.numbers.now c.loop-number.number-index c.loop-number.seen.keys (get_or c.args.numbers.now c.loop-number.number-index 0) c.requires c.loop-number.invariant c.loop-number-test.true refl
    c.in_ok-insert.field-0 c.insert.new.self.keys c.in_ok-insert.ensures.added c.if-not-branch.false c.in_ok-insert.ensures.keys

pub returns : goal.returns
returns c = seen_all c.args.self.now (subst One c.self.view_is c.self.invariant.distinct) c.args.numbers.now c.loop-number.number-index c.loop-number.seen.keys c.loop-number.invariant c.loop-number-test.false
