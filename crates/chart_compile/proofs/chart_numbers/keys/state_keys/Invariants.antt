use Rattle.std.proofs.Common.{◌≡◌, map, take}
use Rattle.chart_compile.specs.chart_places.Places.{PlaceTree, place_view, state_key}
use Rattle.chart_compile.proofs.chart_numbers.keys.state_keys.Given as goal

abbrev pub invariant-loop-place : goal.invariant-loop-place
invariant-loop-place l = l.keys.items ≡ map (λ (p : PlaceTree). state_key p.path) (map place_view (take l.place-index l.places))
