use Rattle.std.proofs.Common.{◌≡◌, ◌+◌, ℕ, List, map, take, sym, subst, true}
use Rattle.chart_model.specs.chart_plan.Same.{Each}
use Rattle.chart_reader.specs.chart_nodes.Steps.{step_view}
use Rattle.chart_compile.specs.chart_places.Places.{place_view}
use Rattle.chart_compile.specs.declared.chart_places.places.Place.{Place}
use Rattle.chart_compile.specs.chart_parts.Parts.{IsRow, key_of}
use Rattle.name_tables.specs.name_numbers.Names.{is_among}
use Rattle.chart_compile.proofs.chart_numbers.Known.{among_made, view_at}
use Rattle.chart_compile.proofs.chart_rows.Listing.{each_more_plain, each_start_plain, made_more, taken_all}
use Rattle.chart_compile.proofs.chart_rows.rows.rows_of.Goals as goal

pub loop-place-init : goal.loop-place-init
loop-place-init c = each_start_plain (IsRow c.args.states.now c.args.graphs.now c.args.nodes.now (map step_view c.args.steps.now)) c.new-rows.result.items c.new-rows.ensures.items

pub make_row-requires-clause-known : goal.make_row-requires-clause-known
make_row-requires-clause-known c =
    let p = c.place-item.result in
    subst (λ (keys : List (List ℕ)). is_among keys (key_of (place_view p)) ≡ true) (sym c.requires.keyed) (among_made key_of place_view c.args.places.now c.loop-place.place-index p c.loop-place-test.true c.place-item.is)

pub make_row-requires-clause-placed : goal.make_row-requires-clause-placed
make_row-requires-clause-placed c =
    let p = c.place-item.result in
    c.requires.placed c.loop-place.place-index (place_view p) (view_at place_view c.args.places.now c.loop-place.place-index p c.loop-place-test.true c.place-item.is)

pub loop-place-preserved : goal.loop-place-preserved
loop-place-preserved c =
    let places = c.args.places.now in
    let i = c.loop-place.place-index in
    let p = c.place-item.result in
    each_more_plain (IsRow c.args.states.now c.args.graphs.now c.args.nodes.now (map step_view c.args.steps.now)) c.loop-place.rows.items c.push.new.self.items c.in_ok-row.row (map place_view (take i places)) (map place_view (take (i + 1) places)) (place_view p) c.in_ok-push.ensures.items (made_more place_view places i p c.loop-place-test.true c.place-item.is) c.in_ok-row.ensures c.loop-place.invariant

pub returns : goal.returns
returns c =
    subst (λ (l : List Place). Each (IsRow c.args.states.now c.args.graphs.now c.args.nodes.now (map step_view c.args.steps.now)) c.loop-place.rows.items (map place_view l)) (taken_all c.args.places.now c.loop-place.place-index c.loop-place-test.false) c.loop-place.invariant
