use Rattle.std.proofs.Common.{ℕ, true, List, length, Some, sym, ap, ◌∙◌, subst, arith}
use Rattle.std.proofs.lemmas.Bool.{leb-true}
use Rattle.std.proofs.lemmas.List.FromFn.{length-map-range_with_len}
use Rattle.journal.specs.declared.entry.Entry.{Entry}
use Rattle.actor_merge.specs.World.{Placed}
use Rattle.actor_world.specs.Journals.{lines_of}
use Rattle.actor_world.specs.Start.{start_entries}
use Rattle.controller_actors.specs.Plants.{model_of}
use Rattle.model_run.specs.part_posts.Items.{items_of}
use Rattle.room_verify.specs.Merging.{AreUpTo}
use Rattle.room_verify.specs.Worlds.{world_in}
use Rattle.room_verify.proofs.JudgeLaw.{order_else, start_else, passed_nothing, entry_else}
use Rattle.room_verify.proofs.UntilLaw.{low_of, high_of}
use Rattle.room_verify.proofs.showing.show.Goals as goal

pub first_out_of_order-requires : goal.first_out_of_order-requires
first_out_of_order-requires c = omega (arith, c.requires.count, c.controller_count-count.ensures.count)

pub returns-in-Some : goal.returns-in-Some
returns-in-Some c =
    let plant = c.args.plant.now in
    record {
      early = tt;
      is = λ (fuel : ℕ). order_else (model_of plant) plant.wiring (items_of plant.wiring c.args.lines.now) fuel c.args.j.now c.requires.count c.in-Some.party c.in-Some.ensures;
    }

pub first_wrong_start-requires-clause-count : goal.first_wrong_start-requires-clause-count
first_wrong_start-requires-clause-count c =
    let plant = c.args.plant.now in
    ap (λ (z : List (List Entry)). length z) (c.as_slice-starts.ensures.value ∙ c.in_ok-begun.ensures.entries)
    ∙ length-map-range_with_len (start_entries (model_of plant) plant.wiring) 0 (length plant.wiring.controllers) ∙ sym c.requires.count

pub first_wrong_start-requires-clause-few : goal.first_wrong_start-requires-clause-few
first_wrong_start-requires-clause-few c = omega (arith, c.requires.count, c.controller_count-count.ensures.count)

pub returns-in-Some-first_wrong_start : goal.returns-in-Some-first_wrong_start
returns-in-Some-first_wrong_start c =
    let plant = c.args.plant.now in
    record {
      early = tt;
      is = λ (fuel : ℕ).
          start_else (model_of plant) plant.wiring (items_of plant.wiring c.args.lines.now) fuel c.args.j.now c.requires.count
          (rw c.in_default.is at c.first_out_of_order.ensures) c.as_slice-starts.result.now (c.as_slice-starts.ensures.value ∙ c.in_ok-begun.ensures.entries) c.in-Some-first_wrong_start.c
          c.in-Some-first_wrong_start.ensures;
    }

pub replay_merge-requires-clause-passed : goal.replay_merge-requires-clause-passed
replay_merge-requires-clause-passed c =
    let plant = c.args.plant.now in
    let h = passed_nothing plant c.args.lines.now 0 c.args.j.now c.requires.count c.as_slice-starts.result.now (c.as_slice-starts.ensures.value ∙ c.in_ok-begun.ensures.entries)
    (rw c.in_default.is at c.first_out_of_order.ensures) (rw c.in_default-first_wrong_start.is at c.first_wrong_start.ensures) c.in_ok-begun.begun.replay
    (c.in_ok-begun.ensures.world (lines_of (items_of plant.wiring c.args.lines.now))) (c.in_ok-begun.ensures.replays c.args.lines.now) c.in_ok-passed.passed.items c.in_ok-passed.ensures in
    record { passing = h.0; low = subst (λ (z : List Placed). AreUpTo (Some c.args.at) true z) (sym h.1) tt }

pub returns-in-Refused : goal.returns-in-Refused
returns-in-Refused c =
    let came = rw c.in-Refused.is at c.in_ok-outcome.ensures in
    record {
      early = leb-true c.in-Refused.stamp.0 c.args.at came.1;
      is = λ (fuel : ℕ). entry_else c.args.plant.now c.args.lines.now fuel c.args.j.now c.requires.count c.in-Refused.party c.in-Refused.stamp came.0;
    }

pub view-requires : goal.view-requires
view-requires c = let came = rw c.in-Reached.is at c.in_ok-outcome.ensures in came.replays.stands

pub returns : goal.returns
returns c =
    let came = rw c.in-Reached.is at c.in_ok-outcome.ensures in
    record {
      front = came.front;
      behind = came.behind;
      w = world_in c.args.plant.now c.in-Reached.replay;
      reaches = came.reaches;
      low = low_of c.args.at came.front came.low;
      high = high_of c.args.at came.behind came.high;
      is = c.in_ok-snapshot-in-Reached.ensures;
    }
