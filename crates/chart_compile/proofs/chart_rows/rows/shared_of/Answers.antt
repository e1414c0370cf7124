use Rattle.std.proofs.Common.{◌≡◌, ◌+◌, ℕ, List, map, take, sym, subst, true}
use Rattle.chart_model.specs.chart_plan.Same.{Each}
use Rattle.chart_reader.specs.chart_nodes.Steps.{step_view}
use Rattle.chart_compile.specs.chart_parts.Parts.{IsShared}
use Rattle.name_tables.specs.name_numbers.Names.{is_among}
use Rattle.chart_compile.proofs.chart_numbers.Known.{among_keys}
use Rattle.chart_compile.proofs.chart_rows.Listing.{each_more_plain, each_start_plain, taken_all, taken_more}
use Rattle.chart_compile.proofs.chart_rows.rows.shared_of.Goals as goal

pub loop-key-init : goal.loop-key-init
loop-key-init c = each_start_plain (IsShared c.args.nodes.now (map step_view c.args.steps.now)) c.new-shared.result.items c.new-shared.ensures.items

pub make_shared-requires-clause-known : goal.make_shared-requires-clause-known
make_shared-requires-clause-known c =
    let keys = c.args.keys.now in
    let k = c.key-item.result in
    subst (λ (key : List ℕ). is_among c.args.graphs.now key ≡ true) (sym c.as_slice.ensures)
    (subst (λ (all : List (List ℕ)). is_among all k ≡ true) (sym c.requires.keyed) (among_keys keys c.loop-key.key-index k c.loop-key-test.true c.key-item.is))

pub loop-key-preserved : goal.loop-key-preserved
loop-key-preserved c =
    let keys = c.args.keys.now in
    let i = c.loop-key.key-index in
    let k = c.key-item.result in
    let made = subst (λ k. IsShared c.args.nodes.now (map step_view c.args.steps.now) c.in_ok-arrows.arrows k) c.as_slice.ensures c.in_ok-arrows.ensures in
    each_more_plain (IsShared c.args.nodes.now (map step_view c.args.steps.now)) c.loop-key.shared.items c.push.new.self.items c.in_ok-arrows.arrows (take i keys) (take (i + 1) keys) k c.in_ok-push.ensures.items (taken_more keys i k c.loop-key-test.true c.key-item.is) made c.loop-key.invariant

pub returns : goal.returns
returns c = subst (λ (l : List (List ℕ)). Each (IsShared c.args.nodes.now (map step_view c.args.steps.now)) c.loop-key.shared.items l) (taken_all c.args.keys.now c.loop-key.key-index c.loop-key-test.false) c.loop-key.invariant
