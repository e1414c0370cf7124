use Rattle.std.proofs.Common.{refl}
use Rattle.chart_run.specs.chart_tables.Tables.{arrow_view}
use Rattle.chart_run.proofs.chart_tables.Chains.{chain_ends, chain_goes, chain_lower}
use Rattle.chart_run.proofs.chart_tables.mind.Mind.chain.Goals as goal

pub returns-in-Ends : goal.returns-in-Ends
returns-in-Ends c =
    chain_ends c.args.tables.now c.args.at.now c.args.began (arrow_view c.args.first.now) (arrow_view c.loop-self.arrow.now) c.args.self.now c.loop-self.self c.run.new.self c.go_to.new.self c.in_ok-state.field-0 c.requires.sound c.loop-self.invariant
    c.in_ok-run.ensures c.in_ok-state.ensures c.in-Ends.state c.in-Ends.is

pub loop-self-smaller : goal.loop-self-smaller
loop-self-smaller c =
    chain_lower c.args.tables.now c.args.at.now c.args.began (arrow_view c.args.first.now) (arrow_view c.loop-self.arrow.now) c.args.self.now c.loop-self.self c.run.new.self c.go_to.new.self c.in_ok-state.field-0 c.requires.sound c.loop-self.invariant
    c.in_ok-run.ensures c.in_ok-state.ensures c.in-Goes.next c.in-Goes.is

pub loop-self-preserved : goal.loop-self-preserved
loop-self-preserved c =
    chain_goes c.args.tables.now c.args.at.now c.args.began (arrow_view c.args.first.now) (arrow_view c.loop-self.arrow.now) c.args.self.now c.loop-self.self c.run.new.self c.go_to.new.self c.in_ok-state.field-0 c.requires.sound c.loop-self.invariant
    c.in_ok-run.ensures c.in_ok-state.ensures c.in-Goes.next.now c.in-Goes.next c.in-Goes.is refl
