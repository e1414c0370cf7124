use Rattle.std.proofs.Common.{◌≡◌, [], length, map, replicate, take}
use Rattle.std.specs.List.{fold}
use Rattle.chart_reader.specs.chart_nodes.Steps.{step_view}
use Rattle.chart_compile.specs.chart_places.Groups.{picked, put_by}
use Rattle.chart_compile.proofs.chart_places.groups.group_by.Given as goal

abbrev pub invariant-loop-i : goal.invariant-loop-i
invariant-loop-i l =
    (map (picked (map step_view l.steps)) l.groups.items ≡ fold (put_by l.places) (replicate (length l.places) []) (map step_view (take l.i l.steps)))
    × (length l.groups.items ≡ length l.places)
