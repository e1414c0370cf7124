-- The graphs of a chart are found by the keys of their borders.
use Rattle.std.proofs.Common.{◌≡◌, ℕ, List, ◌∷◌, Option, ap, ◌∙◌}
use Rattle.std.specs.Prelude.{position, option_and_then, slice_get}
use Rattle.name_tables.specs.name_numbers.Names.{same}
use Rattle.chart_model.specs.Chart.{Path, Graph, Chart}
use Rattle.chart_model.specs.Named.{graph_at}
use Rattle.chart_reader.specs.chart_nodes.Keys.{codes}
use Rattle.chart_reader.specs.chart_rules.Index.{border_keys}
use Rattle.chart_reader.proofs.chart_nodes.KeyLaws.{same_codes}
use Rattle.chart_reader.proofs.chart_nodes.GraphKeys.{graph_is}

pub graph_found : (chart : Chart) (graphs : List Graph) (keys : List (List ℕ)) (key : List ℕ) (found : Option Graph) → graphs ≡ chart.graphs → keys ≡ border_keys chart.graphs → found ≡ option_and_then (λ i. slice_get graphs i) (position (same key) keys)
    → (path : Path) → key ≡ 0 ∷ codes path → found ≡ graph_at chart path
graph_found chart graphs keys key found g k f path e =
    f ∙ ap (λ gs. option_and_then (λ i. slice_get gs i) (position (same key) keys)) g
    ∙ ap (λ ks. option_and_then (λ i. slice_get chart.graphs i) (position (same key) ks)) k
    ∙ ap (λ q. option_and_then (λ i. slice_get chart.graphs i) (position (same q) (border_keys chart.graphs))) e
    ∙ graph_is (λ p. 0 ∷ codes p) same_codes chart.graphs path
