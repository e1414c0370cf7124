use Rattle.view_pictures.proofs.charts.Sketch.+add_graph.Given as goal

-- graphs are drawn so deep in graphs at most
abbrev pub decreases-add_graph : goal.decreases-add_graph
decreases-add_graph l = l.deep
