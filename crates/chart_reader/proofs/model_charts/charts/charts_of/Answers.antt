use Rattle.std.proofs.Common.{◌≡◌, ◌<◌, [], ◌∷◌, ◌++◌, length, map, drop, ◌+◌, refl, length-append, sym, ap, ◌∙◌, subst, arith}
use Rattle.std.specs.Prelude.{option_map}
use Rattle.std.proofs.lemmas.List.{map-append, length-map}
use Rattle.room_ast.specs.Trees.{model_view}
use Rattle.room_ast.specs.model_parts.Classes.{actors}
use Rattle.check_scopes.specs.class_scopes.Scopes.{scope_of}
use Rattle.chart_trees.specs.chart_graphs.Views.{chart_view}
use Rattle.chart_reader.specs.model_charts.Written.{written_from}
use Rattle.chart_reader.specs.model_charts.Charts.{IsFirstFaulty}
use Rattle.chart_reader.specs.model_charts.Making.{IsRead}
use Rattle.chart_reader.proofs.model_charts.Few.{few_actors, few_states}
use Rattle.chart_reader.proofs.model_charts.Steps.{as_many, next_read, next_refused, first_answered, all_read, none_behind, valid_when_read}
use Rattle.chart_reader.proofs.model_charts.charts.charts_of.Goals as goal

pub overflow_cast-class : goal.overflow_cast-class
overflow_cast-class c =
    let few = few_actors (model_view c.args.checked.now.model.now) c.requires.rules in
    let many = as_many (scope_of (model_view c.args.checked.now.model.now)) c.args.checked.now.scopes.items (actors (model_view c.args.checked.now.model.now)) c.args.checked.now.scoped in
    let lt : c.loop-scope.scope-index < length c.args.checked.now.scopes.items = rw c.deref-scope-items.ensures.value at c.loop-scope-test.true in
    omega (arith, few, many, lt)

pub returns-in-Err-Chart-clause-reads : goal.returns-in-Err-Chart-clause-reads
returns-in-Err-Chart-clause-reads c =
    let many = as_many (scope_of (model_view c.args.checked.now.model.now)) c.args.checked.now.scopes.items (actors (model_view c.args.checked.now.model.now)) c.args.checked.now.scoped in
    let here : c.len-class.result ≡ c.loop-scope.scope-index = omega arith in
    let place : length (map (option_map chart_view) c.loop-scope.charts.items) ≡ c.len-class.result = length-map c.loop-scope.charts.items (option_map chart_view) ∙ c.loop-scope.invariant.count ∙ sym here in
    let all = written_from [] c.args.checked.now.scopes.items (actors (model_view c.args.checked.now.model.now)) in
    first_answered (model_view c.args.checked.now.model.now) all c.len-class.result c.in-Err-Chart.fault c.told.result
    (record { scopes = c.args.checked.now.scopes.items; seen = c.args.checked.now.scoped; written = refl })
    (subst (λ n. IsFirstFaulty all n c.in-Err-Chart.fault) place
    (next_refused all c.loop-scope.names c.args.checked.now.scopes.items (actors (model_view c.args.checked.now.model.now)) c.loop-scope.scope-index c.scope-item.result _ _ (rw c.deref-scope-items.ensures.value at c.loop-scope-test.true) many (rw c.deref-scope-items.ensures.value at c.scope-item.is) (rw here at c.chart.ensures) c.loop-scope.invariant.read c.chart_of.new.names c.in-Err-Chart.fault (rw c.in-Err-Chart.field-0-is at c.in-Err-Chart.ensures)))
    (rw c.in-Err-Chart.field-0-is at c.told.ensures)

pub loop-scope-preserved : goal.loop-scope-preserved
loop-scope-preserved c =
    let many = as_many (scope_of (model_view c.args.checked.now.model.now)) c.args.checked.now.scopes.items (actors (model_view c.args.checked.now.model.now)) c.args.checked.now.scoped in
    let here : c.len-class.result ≡ c.loop-scope.scope-index = omega arith in
    let more : map (option_map chart_view) c.add.new.charts.items ≡ map (option_map chart_view) c.loop-scope.charts.items ++ option_map chart_view c.in-Ok.chart ∷ [] =
    ap (map (option_map chart_view)) c.in_ok-add-in-Ok.ensures ∙ map-append (option_map chart_view) c.loop-scope.charts.items (c.in-Ok.chart ∷ []) in
    record {
      read =
          subst
          (λ cs. IsRead (written_from [] c.args.checked.now.scopes.items (actors (model_view c.args.checked.now.model.now))) (written_from c.chart_of.new.names (drop (c.loop-scope.scope-index + 1) c.args.checked.now.scopes.items) (drop (c.loop-scope.scope-index + 1) (actors (model_view c.args.checked.now.model.now)))) cs)
          (sym more)
          (next_read (written_from [] c.args.checked.now.scopes.items (actors (model_view c.args.checked.now.model.now))) c.loop-scope.names c.args.checked.now.scopes.items (actors (model_view c.args.checked.now.model.now)) c.loop-scope.scope-index c.scope-item.result _ _ (rw c.deref-scope-items.ensures.value at c.loop-scope-test.true) many (rw c.deref-scope-items.ensures.value at c.scope-item.is) (rw here at c.chart.ensures) c.loop-scope.invariant.read c.chart_of.new.names c.in-Ok.chart c.in-Ok.ensures);
      count = ap length c.in_ok-add-in-Ok.ensures ∙ length-append c.loop-scope.charts.items (c.in-Ok.chart ∷ []) ∙ ap (λ n. n + 1) c.loop-scope.invariant.count;
    }

pub returns-clause-valid : goal.returns-clause-valid
returns-clause-valid c =
    valid_when_read c.args.checked.now.scopes.items (actors (model_view c.args.checked.now.model.now)) (map (option_map chart_view) c.loop-scope.charts.items)
    (few_states (model_view c.args.checked.now.model.now) c.requires.rules)
    (all_read (written_from [] c.args.checked.now.scopes.items (actors (model_view c.args.checked.now.model.now))) _ (map (option_map chart_view) c.loop-scope.charts.items) c.loop-scope.invariant.read
    (none_behind c.loop-scope.names c.args.checked.now.scopes.items (actors (model_view c.args.checked.now.model.now)) c.loop-scope.scope-index (rw c.deref-scope-items.ensures.value at c.loop-scope-test.false)))
