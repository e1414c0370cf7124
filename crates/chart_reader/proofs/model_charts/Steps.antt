-- Reading class after class.
use Rattle.std.proofs.Common.{◌≡◌, ℕ, zero, suc, ◌+◌, ◌<◌, ◌≤◌, List, [], ◌∷◌, ◌++◌, length, drop, get_or, map, Option, Some, None, Ok, Err, refl, sym, ap, ◌∙◌, subst, arith, append_assoc, add-one}
use Rattle.std.specs.Prelude.{option_map, option_and_then, slice_get}
use Rattle.std.specs.Option.{option_map_or}
use Rattle.std.proofs.lemmas.List.{map-append, length-map, append-nil, drop_all}
use Rattle.room_ast.specs.declared.scope.Scope.{Scope}
use Rattle.room_ast.specs.ChartTree.{GraphItems}
use Rattle.room_ast.specs.Trees.{ModelTree, ActorTree}
use Rattle.room_ast.specs.model_parts.Charts.{chart_of as machine_of, states_in}
use Rattle.chart_trees.specs.declared.chart_graphs.Chart.{Chart as CodeChart}
use Rattle.chart_trees.specs.chart_graphs.Views.{chart_view}
use Rattle.chart_model.specs.Chart.{Name, Chart}
use Rattle.chart_reader.proofs.Lowest.{valid_told}
use Rattle.chart_reader.proofs.NestedGraphs.{whole_told}
use Rattle.chart_reader.proofs.model_charts.Few.{HaveFewStates}
use Rattle.chart_reader.specs.declared.fault.ChartFault.{ChartFault}
use Rattle.chart_reader.specs.declared.fault.ReadFault.TheVariants as read_faults
use Rattle.check_scopes.specs.class_scopes.Views.{ScopeView, scope_view}
use Rattle.chart_reader.specs.declared.model_charts.fault.ChartsFault.{ChartsFault}
use Rattle.chart_reader.specs.declared.model_charts.fault.ChartsFault.TheVariants as faults
use Rattle.chart_reader.specs.model_charts.Written.{Written, written, names_after, written_from, AreWritten}
use Rattle.chart_reader.specs.model_charts.Charts.{HasFault, NoneIsFaulty, IsFirstFaulty, chart_in, AreValid, HasCharts}
use Rattle.chart_reader.specs.model_charts.Making.{ReadsClass, TellsClass, IsRead}
use Rattle.chart_reader.specs.model_charts.Reads.{ReadsCharts}

-- ---- class after class

opens : (names : List Name) (ss : List Scope) (ks : List ActorTree) (i : ℕ) (s : Scope) → i < length ss → length ss ≡ length ks → s ≡ get_or ss i s → written_from names (drop i ss) (drop i ks) ≡ option_map (written s names) (option_and_then machine_of (slice_get ks i)) ∷ written_from (names_after s names (option_and_then machine_of (slice_get ks i))) (drop (suc i) ss) (drop (suc i) ks)
opens names [] ks i s lt same is = absurd (omega arith)
opens names (x ∷ ss) [] i s lt same is = absurd (omega arith)
opens names (x ∷ ss) (a ∷ ks) zero s lt same is = ap (λ (y : Scope). option_map (written y names) (machine_of a) ∷ written_from (names_after y names (machine_of a)) ss ks) (sym is)
opens names (x ∷ ss) (a ∷ ks) (suc i) s lt same is = opens names ss ks i s (omega arith) (omega arith) is

-- what is written behind the classes before a number begins with what this class writes
pub rest_opens : (names : List Name) (ss : List Scope) (ks : List ActorTree) (i : ℕ) (s : Scope) (machine : Option GraphItems) → i < length ss → length ss ≡ length ks → s ≡ get_or ss i s → machine ≡ option_and_then machine_of (slice_get ks i)
    → written_from names (drop i ss) (drop i ks) ≡ option_map (written s names) machine ∷ written_from (names_after s names machine) (drop (i + 1) ss) (drop (i + 1) ks)
rest_opens names ss ks i s machine lt same is m = subst P (sym m) (rw add-one (opens names ss ks i s lt same is))
  where
    P : Option GraphItems → Type 0
    P = λ o. written_from names (drop i ss) (drop i ks) ≡ option_map (written s names) o ∷ written_from (names_after s names o) (drop (i + 1) ss) (drop (i + 1) ks)

faultless_more : (ws : List (Option Written)) (w : Option Written) → NoneIsFaulty ws → HasFault w None → NoneIsFaulty (ws ++ w ∷ [])
faultless_more [] w h k = (k, tt)
faultless_more (x ∷ ws) w h k = (h.0, faultless_more ws w h.1 k)

-- a chart more without a fault
pub one_more : (all rest more : List (Option Written)) (w : Option Written) (charts : List (Option Chart)) (c : Option Chart) → IsRead all rest charts → rest ≡ w ∷ more → HasFault w None → c ≡ chart_in w → IsRead all more (charts ++ c ∷ [])
one_more all rest more w charts c h opened fine is = record {
  done = h.done ++ w ∷ [];
  split = h.split ∙ ap (λ ws. h.done ++ ws) opened ∙ sym (append_assoc h.done (w ∷ []) more);
  faultless = faultless_more h.done w h.faultless fine;
  charts_are = ap (λ cs. cs ++ c ∷ []) h.charts_are ∙ ap (λ x. map chart_in h.done ++ x ∷ []) is ∙ sym (map-append chart_in h.done (w ∷ []));
}

first_at : (done more : List (Option Written)) (w : Option Written) (f : ChartFault) → NoneIsFaulty done → HasFault w (Some f) → IsFirstFaulty (done ++ w ∷ more) (length done) f
first_at [] more w f h k = k
first_at (x ∷ done) more w f h k = (h.0, first_at done more w f h.1 k)

-- a chart with a fault behind charts without
pub first_found : (all rest more : List (Option Written)) (w : Option Written) (charts : List (Option Chart)) (f : ChartFault) → IsRead all rest charts → rest ≡ w ∷ more → HasFault w (Some f) → IsFirstFaulty all (length charts) f
first_found all rest more w charts f h opened bad =
    let whole : all ≡ h.done ++ w ∷ more = h.split ∙ ap (λ ws. h.done ++ ws) opened in
    let count : length charts ≡ length h.done = ap length h.charts_are ∙ length-map h.done chart_in in
    let at : IsFirstFaulty all (length h.done) f = subst (λ ws. IsFirstFaulty ws (length h.done) f) (sym whole) (first_at h.done more w f h.faultless bad) in
    subst (λ n. IsFirstFaulty all n f) (sym count) at

-- ---- a class more

-- there are as many scopes as classes
pub as_many : (f : ActorTree → ScopeView) (ss : List Scope) (ks : List ActorTree) → map scope_view ss ≡ map f ks → length ss ≡ length ks
as_many f ss ks e = sym (length-map ss scope_view) ∙ ap length e ∙ length-map ks f

module _ (all : List (Option Written)) (names : List Name) (ss : List Scope) (ks : List ActorTree) (i : ℕ) (s : Scope) (machine : Option GraphItems) (charts : List (Option Chart))
    (lt : i < length ss) (many : length ss ≡ length ks) (is : s ≡ get_or ss i s) (m : machine ≡ option_and_then machine_of (slice_get ks i)) (inv : IsRead all (written_from names (drop i ss) (drop i ks)) charts) where
  -- the class has no fault
  pub next_read : (new : List Name) (c : Option CodeChart) → ReadsClass s names new machine (Ok c) → IsRead all (written_from new (drop (i + 1) ss) (drop (i + 1) ks)) (charts ++ option_map chart_view c ∷ [])
  next_read new c h =
      one_more all (written_from names (drop i ss) (drop i ks)) (written_from new (drop (i + 1) ss) (drop (i + 1) ks)) (option_map (written s names) machine) charts (option_map chart_view c) inv
      (rest_opens names ss ks i s machine lt many is m ∙ ap (λ n. option_map (written s names) machine ∷ written_from n (drop (i + 1) ss) (drop (i + 1) ks)) h.2) h.0 h.1

  -- the class has a fault
  pub next_refused : (new : List Name) (f : ChartFault) → ReadsClass s names new machine (Err (read_faults.Chart f)) → IsFirstFaulty all (length charts) f
  next_refused new f h =
      first_found all (written_from names (drop i ss) (drop i ks)) (written_from (names_after s names machine) (drop (i + 1) ss) (drop (i + 1) ks)) (option_map (written s names) machine) charts f inv (rest_opens names ss ks i s machine lt many is m) h

-- nothing is read yet
pub begun : (all : List (Option Written)) → IsRead all all []
begun all = record { done = []; split = refl; faultless = tt; charts_are = refl }

-- ---- all classes

pub record AllRead (all : List (Option Written)) (charts : List (Option Chart)) : Type 0 where
  pub faultless : NoneIsFaulty all
  pub charts_are : charts ≡ map chart_in all

pub all_read : (all rest : List (Option Written)) (charts : List (Option Chart)) → IsRead all rest charts → rest ≡ [] → AllRead all charts
all_read all rest charts h none =
    let whole : all ≡ h.done = h.split ∙ ap (λ ws. h.done ++ ws) none ∙ append-nil h.done in
    record {
      faultless = subst NoneIsFaulty (sym whole) h.faultless;
      charts_are = h.charts_are ∙ ap (map chart_in) (sym whole);
    }

valid_one : (scope : Scope) (names : List Name) (machine : Option GraphItems) (ws : List (Option Written)) → option_map_or states_in machine 0 ≤ 60000
    → HasFault (option_map (written scope names) machine) None → AreValid (map chart_in ws) → AreValid (map chart_in (option_map (written scope names) machine ∷ ws))
valid_one scope names None ws rule f h = h
valid_one scope names (Some is) ws rule f h = (whole_told scope names is (valid_told (written scope names is).chart (written scope names is).events_fit (written scope names is).codes_fit f) rule, h)

valid_all : (names : List Name) (ss : List Scope) (ks : List ActorTree) → HaveFewStates ks → NoneIsFaulty (written_from names ss ks) → AreValid (map chart_in (written_from names ss ks))
valid_all names [] ks rules h = tt
valid_all names (s ∷ ss) [] rules h = tt
valid_all names (s ∷ ss) (a ∷ ks) rules h =
    valid_one s names (machine_of a) (written_from (names_after s names (machine_of a)) ss ks) rules.0 h.0 (valid_all (names_after s names (machine_of a)) ss ks rules.1 h.1)

pub valid_when_read : (ss : List Scope) (ks : List ActorTree) (charts : List (Option Chart)) → HaveFewStates ks → AllRead (written_from [] ss ks) charts → AreValid charts
valid_when_read ss ks charts rules h = subst AreValid (sym h.charts_are) (valid_all [] ss ks rules h.faultless)

-- nothing is written behind the last class
pub none_behind : (names : List Name) (ss : List Scope) (ks : List ActorTree) (i : ℕ) → length ss ≤ i → written_from names (drop i ss) (drop i ks) ≡ []
none_behind names ss ks i h = rw (drop_all i ss h) refl

-- ---- what is answered

pub all_answered : (m : ModelTree) (all : List (Option Written)) (charts : List (Option Chart)) → AreWritten m all → AllRead all charts → HasCharts m charts
all_answered m all charts w h = record { all = all; written = w; faultless = h.faultless; charts_are = h.charts_are }

-- what was told of the first fault
pub first_answered : (m : ModelTree) (all : List (Option Written)) (place : ℕ) (f : ChartFault) (e : ChartsFault) → AreWritten m all → IsFirstFaulty all place f → TellsClass m place f e → ReadsCharts m (Err e)
first_answered m all place f (faults.Chart class g) w first t = record { all = all; written = w; place = place; first = subst (IsFirstFaulty all place) (sym t.1) first; named = t.0 }
first_answered m all place f faults.Memory w first t = tt
