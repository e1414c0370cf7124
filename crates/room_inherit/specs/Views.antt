-- What flat classes and charts in memory stand for.
use Rattle.std.specs.Prelude.{List, map, Option}
use Rattle.std.specs.Prelude.{option_map}
use Rattle.std.specs.Global.{Vec}
use Rattle.room_ast.specs.ChartTree.{GraphItems, graph_view}
use Rattle.room_ast.specs.declared.chart.GraphItem.{GraphItem}
use Rattle.room_ast.specs.Trees.{ActorTree, actor_view}
use Rattle.room_ast.specs.declared.actor.ActorClass.{ActorClass}
use Rattle.room_inherit.specs.Filling.{FillingTree, AllTaken, OneUnknown, TooLarge}
use Rattle.room_inherit.specs.declared.filling.Filling.{Filling}
use Rattle.room_inherit.specs.declared.filling.Filling.TheVariants as fillings

abbrev pub flat_views : List (Option ActorClass) → List (Option ActorTree)
flat_views fs = map (λ f. option_map actor_view f) fs

abbrev pub filling_view : Filling → FillingTree
filling_view (fillings.Flats v) = AllTaken (flat_views v.items)
filling_view fillings.Unknown = OneUnknown
filling_view fillings.TooMany = TooLarge

abbrev pub charts_view : List (Option (Vec GraphItem)) → List (Option GraphItems)
charts_view cs = map (λ c. option_map (λ v. graph_view v.items) c) cs
