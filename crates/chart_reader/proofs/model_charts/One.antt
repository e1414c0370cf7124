-- A model has its charts, or one first fault.
use Rattle.std.proofs.Common.{◌≡◌, ℕ, zero, suc, Bool, true, false, List, [], ◌∷◌, map, Option, Some, None, refl, sym, ap, ◌∙◌, subst}
use Rattle.std.specs.Prelude.{option_map, is_some, slice_get, unwrap_or}
use mathlib.Core.Path.{fun_ext}
use Rattle.room_ast.specs.declared.scope.Scope.{Scope}
use Rattle.room_ast.specs.ChartTree.{GraphItems}
use Rattle.room_ast.specs.Trees.{ModelTree, ActorTree}
use Rattle.room_ast.specs.model_parts.Charts.{chart_of as machine_of}
use Rattle.room_ast.specs.model_parts.Classes.{actors}
use Rattle.check_scopes.specs.class_scopes.Views.{scope_view}
use Rattle.chart_model.specs.Chart.{Name, Chart}
use Rattle.chart_trees.specs.chart_codes.Progress.{Progress}
use Rattle.chart_trees.specs.Reading.{chart_of, reading}
use Rattle.chart_reader.specs.Faults.{names_fault}
use Rattle.chart_reader.specs.Reads.{IsLowestFault}
use Rattle.chart_reader.specs.declared.fault.ChartFault.{ChartFault}
use Rattle.chart_reader.specs.declared.fault.ChartFault.TheVariants as faults
use Rattle.chart_reader.proofs.scope_laws.Reading.{same_written}
use Rattle.chart_reader.specs.model_charts.Written.{Written, written, names_after, written_from, AreWritten}
use Rattle.chart_reader.specs.model_charts.Charts.{HasFault, NoneIsFaulty, IsFirstFaulty, chart_in, HasCharts, HasFaultyChart}
use Rattle.chart_reader.specs.model_charts.Laws.{AreOne}

-- ---- what is written

written_one : (s t : Scope) (names : List Name) (is : GraphItems) → scope_view s ≡ scope_view t → written s names is ≡ written t names is
written_one s t names is e =
    let same = same_written s t names is e in
    ap (λ c. record { chart = c; events_fit = (reading s names is).events_fit; codes_fit = is_some (reading s names is).names }) same.0
    ∙ ap (λ (p : Progress). record { chart = chart_of t names is; events_fit = p.events_fit; codes_fit = is_some p.names }) same.1

after_one : (s t : Scope) (names : List Name) (o : Option GraphItems) → scope_view s ≡ scope_view t → names_after s names o ≡ names_after t names o
after_one s t names None e = refl
after_one s t names (Some is) e = ap (λ (p : Progress). unwrap_or p.names names) (same_written s t names is e).1

written_same : (names : List Name) (ss ts : List Scope) (ks : List ActorTree) → map scope_view ss ≡ map scope_view ts → written_from names ss ks ≡ written_from names ts ks
written_same names [] [] ks e = refl
written_same names [] (t ∷ ts) ks e = absurd cc
written_same names (s ∷ ss) [] ks e = absurd cc
written_same names (s ∷ ss) (t ∷ ts) [] e = refl
written_same names (s ∷ ss) (t ∷ ts) (a ∷ ks) e =
    let h : scope_view s ≡ scope_view t = cc in
    let rest : map scope_view ss ≡ map scope_view ts = cc in
    ap (λ f. option_map f (machine_of a) ∷ written_from (names_after s names (machine_of a)) ss ks) (fun_ext (λ is. written_one s t names is h))
    ∙ ap (λ n. option_map (written t names) (machine_of a) ∷ written_from n ss ks) (after_one s t names (machine_of a) h)
    ∙ ap (λ ws. option_map (written t names) (machine_of a) ∷ ws) (written_same (names_after t names (machine_of a)) ss ts ks rest)

one_written : (m : ModelTree) (ws vs : List (Option Written)) → AreWritten m ws → AreWritten m vs → ws ≡ vs
one_written m ws vs h k = h.written ∙ written_same [] h.scopes k.scopes (actors m) (h.seen ∙ sym k.seen) ∙ sym k.written

-- ---- the lowest fault of a chart is one

-- the fault among the first five, if it is one of them
abbrev of_names : Option ChartFault → Option ChartFault
of_names None = None
of_names (Some faults.DepthAbove16) = Some faults.DepthAbove16
of_names (Some faults.BadPoint) = Some faults.BadPoint
of_names (Some faults.TwoInitials) = Some faults.TwoInitials
of_names (Some faults.NoInitial) = Some faults.NoInitial
of_names (Some faults.NoDefault) = Some faults.NoDefault
of_names (Some faults.ChoiceCycle) = None
of_names (Some faults.BadTrigger) = None
of_names (Some faults.BadAction) = None

names_told : (c : Chart) (e k : Bool) (o : Option ChartFault) → IsLowestFault c e k o → names_fault c ≡ of_names o
names_told c e k None h = h.0
names_told c e k (Some faults.DepthAbove16) h = h
names_told c e k (Some faults.BadPoint) h = h
names_told c e k (Some faults.TwoInitials) h = h
names_told c e k (Some faults.NoInitial) h = h
names_told c e k (Some faults.NoDefault) h = h
names_told c e k (Some faults.ChoiceCycle) h = h.0
names_told c e k (Some faults.BadTrigger) h = h.0
names_told c e k (Some faults.BadAction) h = h.0

is_of_names : (o : Option ChartFault) (f : ChartFault) → of_names o ≡ Some f → o ≡ Some f
is_of_names None f h = absurd cc
is_of_names (Some faults.DepthAbove16) f h = h
is_of_names (Some faults.BadPoint) f h = h
is_of_names (Some faults.TwoInitials) f h = h
is_of_names (Some faults.NoInitial) f h = h
is_of_names (Some faults.NoDefault) f h = h
is_of_names (Some faults.ChoiceCycle) f h = absurd cc
is_of_names (Some faults.BadTrigger) f h = absurd cc
is_of_names (Some faults.BadAction) f h = absurd cc

bad : {A : Type 0} (b : Bool) → b ≡ true → b ≡ false → A
bad b h k = let e : true ≡ false = sym h ∙ k in absurd cc

-- two lowest faults that aren't among the first five
one_late : (c : Chart) (e k : Bool) (o p : Option ChartFault) → of_names o ≡ None → of_names p ≡ None → IsLowestFault c e k o → IsLowestFault c e k p → o ≡ p
one_late c e k None None a b h j = refl
one_late c e k None (Some faults.ChoiceCycle) a b h j = absurd (h.1 j.1.0 j.1.1)
one_late c e k None (Some faults.BadTrigger) a b h j = bad e h.2 j.2
one_late c e k None (Some faults.BadAction) a b h j = bad k h.3 j.3
one_late c e k (Some faults.ChoiceCycle) None a b h j = absurd (j.1 h.1.0 h.1.1)
one_late c e k (Some faults.ChoiceCycle) (Some faults.ChoiceCycle) a b h j = refl
one_late c e k (Some faults.ChoiceCycle) (Some faults.BadTrigger) a b h j = absurd (j.1 h.1.0 h.1.1)
one_late c e k (Some faults.ChoiceCycle) (Some faults.BadAction) a b h j = absurd (j.1 h.1.0 h.1.1)
one_late c e k (Some faults.BadTrigger) None a b h j = bad e j.2 h.2
one_late c e k (Some faults.BadTrigger) (Some faults.ChoiceCycle) a b h j = absurd (h.1 j.1.0 j.1.1)
one_late c e k (Some faults.BadTrigger) (Some faults.BadTrigger) a b h j = refl
one_late c e k (Some faults.BadTrigger) (Some faults.BadAction) a b h j = bad e j.2 h.2
one_late c e k (Some faults.BadAction) None a b h j = bad k j.3 h.3
one_late c e k (Some faults.BadAction) (Some faults.ChoiceCycle) a b h j = absurd (h.1 j.1.0 j.1.1)
one_late c e k (Some faults.BadAction) (Some faults.BadTrigger) a b h j = bad e h.2 j.2
one_late c e k (Some faults.BadAction) (Some faults.BadAction) a b h j = refl
one_late c e k (Some faults.DepthAbove16) p a b h j = absurd cc
one_late c e k (Some faults.BadPoint) p a b h j = absurd cc
one_late c e k (Some faults.TwoInitials) p a b h j = absurd cc
one_late c e k (Some faults.NoInitial) p a b h j = absurd cc
one_late c e k (Some faults.NoDefault) p a b h j = absurd cc
one_late c e k o (Some faults.DepthAbove16) a b h j = absurd cc
one_late c e k o (Some faults.BadPoint) a b h j = absurd cc
one_late c e k o (Some faults.TwoInitials) a b h j = absurd cc
one_late c e k o (Some faults.NoInitial) a b h j = absurd cc
one_late c e k o (Some faults.NoDefault) a b h j = absurd cc

one_lowest : (c : Chart) (e k : Bool) (o p : Option ChartFault) → IsLowestFault c e k o → IsLowestFault c e k p → o ≡ p
one_lowest c e k o p h j = by_names (names_fault c) refl
  where
    by_names : (n : Option ChartFault) → names_fault c ≡ n → o ≡ p
    by_names None s = one_late c e k o p (sym (names_told c e k o h) ∙ s) (sym (names_told c e k p j) ∙ s) h j
    by_names (Some f) s = is_of_names o f (sym (names_told c e k o h) ∙ s) ∙ sym (is_of_names p f (sym (names_told c e k p j) ∙ s))

one_fault : (w : Option Written) (o p : Option ChartFault) → HasFault w o → HasFault w p → o ≡ p
one_fault None o p h j = h ∙ sym j
one_fault (Some w) o p h j = one_lowest w.chart w.events_fit w.codes_fit o p h j

-- ---- the first fault is one

not_none : {A : Type 0} (w : Option Written) (f : ChartFault) → HasFault w None → HasFault w (Some f) → A
not_none w f h j = let e : None ≡ Some f = one_fault w None (Some f) h j in absurd cc

record IsSame (i j : ℕ) (f g : ChartFault) : Type 0 where
  place : i ≡ j
  fault : f ≡ g

same_fault : (w : Option Written) (f g : ChartFault) → HasFault w (Some f) → HasFault w (Some g) → f ≡ g
same_fault w f g h j = let e : Some f ≡ Some g = one_fault w (Some f) (Some g) h j in cc

one_first : (ws : List (Option Written)) (i j : ℕ) (f g : ChartFault) → IsFirstFaulty ws i f → IsFirstFaulty ws j g → IsSame i j f g
one_first [] i j f g h k = absurd h
one_first (w ∷ ws) zero zero f g h k = record { place = refl; fault = same_fault w f g h k }
one_first (w ∷ ws) zero (suc j) f g h k = not_none w f k.0 h
one_first (w ∷ ws) (suc i) zero f g h k = not_none w g h.0 k
one_first (w ∷ ws) (suc i) (suc j) f g h k = let same = one_first ws i j f g h.1 k.1 in record { place = ap suc same.place; fault = same.fault }

none_first : (ws : List (Option Written)) (i : ℕ) (f : ChartFault) → NoneIsFaulty ws → IsFirstFaulty ws i f → ⊥
none_first [] i f h k = k
none_first (w ∷ ws) zero f h k = not_none w f h.0 k
none_first (w ∷ ws) (suc i) f h k = none_first ws i f h.1 k.1

-- ---- of a model

charts_one : (m : ModelTree) (cs ds : List (Option Chart)) → HasCharts m cs → HasCharts m ds → cs ≡ ds
charts_one m cs ds h k = h.charts_are ∙ ap (map chart_in) (one_written m h.all k.all h.written k.written) ∙ sym k.charts_are

first_one : (m : ModelTree) (c d : Name) (f g : ChartFault) → HasFaultyChart m c f → HasFaultyChart m d g → (c ≡ d) × (f ≡ g)
first_one m c d f g h j =
    let here : IsFirstFaulty j.all h.place f = subst (λ ws. IsFirstFaulty ws h.place f) (one_written m h.all j.all h.written j.written) h.first in
    let same = one_first j.all h.place j.place f g here j.first in
    let names : Some c ≡ Some d = sym h.named ∙ ap (λ i. option_map (λ (a : ActorTree). a.name) (slice_get (actors m) i)) same.place ∙ j.named in
    let class : c ≡ d = cc in
    (class, same.fault)

not_both_one : (m : ModelTree) (cs : List (Option Chart)) (c : Name) (f : ChartFault) → HasCharts m cs → HasFaultyChart m c f → ⊥
not_both_one m cs c f h j = none_first j.all j.place f (subst NoneIsFaulty (one_written m h.all j.all h.written j.written) h.faultless) j.first

pub are_one : (m : ModelTree) → AreOne m
are_one m = record { charts = charts_one m; first = first_one m; not_both = not_both_one m }
