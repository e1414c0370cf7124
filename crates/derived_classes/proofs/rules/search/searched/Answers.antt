use Rattle.std.proofs.Common.{◌≡◌, List, Option, IfOk, option_map, refl, subst}
use Rattle.std.specs.Global.{Vec}
use Rattle.room_ast.specs.ChartTree.{graph_view}
use Rattle.derived_classes.specs.Searching.{SearchTree, no_names, note_items}
use Rattle.derived_classes.specs.Views.{refining_views, search_views}
use Rattle.derived_classes.specs.declared.rules.search.Search.{Search}
use Rattle.derived_classes.proofs.Found.{searched_is}
use Rattle.derived_classes.proofs.rules.search.searched.Goals as goal

pub returns : goal.returns
returns c =
    let g = graph_view c.args.graph.now in
    subst (λ (ss : Option (List SearchTree)). IfOk c.passed_on.result (λ found. option_map (λ (v : Vec Search). search_views v.items) found ≡ ss))
    (searched_is g (refining_views c.args.sought.now) _ _ _ _ (note_items g no_names) _ c.in_ok-states.ensures c.as_slice.ensures.value c.as_slice-2.ensures.value c.in_ok-names.ensures refl refl) c.passed_on.ensures
