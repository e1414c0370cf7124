use Rattle.std.proofs.Common.{ap, arith, length, map}
use Rattle.std.proofs.lemmas.List.{length-map}
use Rattle.chart_compile.specs.chart_places.Places.{place_view}
use Rattle.chart_compile.specs.chart_parts.Parts.{key_of}
use Rattle.chart_compile.proofs.assemble.state_rows.Goals as goal

pub group_by-requires : goal.group_by-requires
group_by-requires c = omega (arith, ap length c.requires.keyed, length-map (map place_view c.args.places.now) key_of, length-map c.args.places.now place_view)
