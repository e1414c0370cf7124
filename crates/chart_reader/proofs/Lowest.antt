-- The lowest fault of a chart, and of the text that writes it.
use Rattle.std.proofs.Common.{◌≡◌, ℕ, Bool, true, false, cond, List, Option, Some, None, Ok, Err, refl, sym, ap, ◌∙◌, subst}
use Rattle.std.specs.Prelude.{is_some}
use Rattle.room_ast.specs.declared.scope.Scope.{Scope}
use Rattle.room_ast.specs.ChartTree.{GraphItems}
use Rattle.chart_model.specs.Chart.{Chart}
use Rattle.chart_model.specs.Valid.{IsValid}
use Rattle.chart_reader.specs.chart_nodes.Circles.{HasCircle}
use Rattle.chart_reader.specs.chart_rules.Rules.{nests_within, has_right_names, has_one_initial_at_most, has_initials, has_defaults}
use Rattle.chart_reader.proofs.chart_rules.Law.{is_valid}
use Rattle.chart_trees.specs.declared.chart_codes.marks.Marks.{Marks}
use Rattle.chart_trees.specs.chart_codes.Progress.{Progress, progress}
use Rattle.chart_trees.specs.declared.chart_graphs.Chart.{Chart as CodeChart}
use Rattle.chart_trees.specs.chart_graphs.Views.{chart_view}
use Rattle.chart_trees.specs.Reading.{chart_of, reading}
use Rattle.chart_reader.specs.declared.fault.ChartFault.{ChartFault}
use Rattle.chart_reader.specs.declared.fault.ChartFault.TheVariants as faults
use Rattle.chart_reader.specs.declared.fault.ReadFault.{ReadFault}
use Rattle.chart_reader.specs.declared.fault.ReadFault.TheVariants as read_faults
use Rattle.chart_reader.specs.Faults.{names_fault}
use Rattle.chart_reader.specs.Reads.{IsLowestFault, HasFault, Reads}

-- ---- the rules 1 to 5

abbrev chain : Bool → Bool → Bool → Bool → Bool → Option ChartFault
chain a b c d e = cond a (cond b (cond c (cond d (cond e None (Some faults.NoDefault)) (Some faults.NoInitial)) (Some faults.TwoInitials)) (Some faults.BadPoint)) (Some faults.DepthAbove16)

-- one of the faults 1 to 5, or none
abbrev IsNamesFault : Option ChartFault → Type 0
IsNamesFault None = Unit {0}
IsNamesFault (Some faults.DepthAbove16) = Unit {0}
IsNamesFault (Some faults.BadPoint) = Unit {0}
IsNamesFault (Some faults.TwoInitials) = Unit {0}
IsNamesFault (Some faults.NoInitial) = Unit {0}
IsNamesFault (Some faults.NoDefault) = Unit {0}
IsNamesFault (Some faults.ChoiceCycle) = ⊥
IsNamesFault (Some faults.BadTrigger) = ⊥
IsNamesFault (Some faults.BadAction) = ⊥

of_chain : (a b c d e : Bool) → IsNamesFault (chain a b c d e)
of_chain false b c d e = tt
of_chain true false c d e = tt
of_chain true true false d e = tt
of_chain true true true false e = tt
of_chain true true true true false = tt
of_chain true true true true true = tt

is_names_fault : (chart : Chart) → IsNamesFault (names_fault chart)
unfolding names_fault
is_names_fault chart = of_chain (nests_within chart) (has_right_names chart) (has_one_initial_at_most chart) (has_initials chart) (has_defaults chart)

record AllTrue (a b c d e : Bool) : Type 0 where
  first : a ≡ true
  second : b ≡ true
  third : c ≡ true
  fourth : d ≡ true
  fifth : e ≡ true

all_true : (a b c d e : Bool) → chain a b c d e ≡ None → AllTrue a b c d e
all_true false b c d e h = absurd cc
all_true true false c d e h = absurd cc
all_true true true false d e h = absurd cc
all_true true true true false e h = absurd cc
all_true true true true true false h = absurd cc
all_true true true true true true h = record { first = refl; second = refl; third = refl; fourth = refl; fifth = refl }

names_kept : (chart : Chart) → names_fault chart ≡ None → AllTrue (nests_within chart) (has_right_names chart) (has_one_initial_at_most chart) (has_initials chart) (has_defaults chart)
unfolding names_fault
names_kept chart h = all_true (nests_within chart) (has_right_names chart) (has_one_initial_at_most chart) (has_initials chart) (has_defaults chart) h

-- ---- the lowest fault

pub names_told : (chart : Chart) (events codes : Bool) (f : ChartFault) → Some f ≡ names_fault chart → IsLowestFault chart events codes (Some f)
names_told chart events codes faults.DepthAbove16 h = sym h
names_told chart events codes faults.BadPoint h = sym h
names_told chart events codes faults.TwoInitials h = sym h
names_told chart events codes faults.NoInitial h = sym h
names_told chart events codes faults.NoDefault h = sym h
names_told chart events codes faults.ChoiceCycle h = absurd (subst IsNamesFault (sym h) (is_names_fault chart))
names_told chart events codes faults.BadTrigger h = absurd (subst IsNamesFault (sym h) (is_names_fault chart))
names_told chart events codes faults.BadAction h = absurd (subst IsNamesFault (sym h) (is_names_fault chart))

pub circle_told : (chart : Chart) (events codes b : Bool) → names_fault chart ≡ None → HasCircle chart b → b ≡ true → IsLowestFault chart events codes (Some faults.ChoiceCycle)
circle_told chart events codes true h circle e = (h, circle)
circle_told chart events codes false h circle e = absurd cc

pub trigger_told : (chart : Chart) (events codes b : Bool) → names_fault chart ≡ None → HasCircle chart b → b ≡ false → events ≡ false → IsLowestFault chart events codes (Some faults.BadTrigger)
trigger_told chart events codes false h circle e f = (h, circle, f)
trigger_told chart events codes true h circle e f = absurd cc

pub action_told : (chart : Chart) (events codes b : Bool) → names_fault chart ≡ None → HasCircle chart b → b ≡ false → events ≡ true → codes ≡ false → IsLowestFault chart events codes (Some faults.BadAction)
action_told chart events codes false h circle e f g = (h, circle, f, g)
action_told chart events codes true h circle e f g = absurd cc

pub none_told : (chart : Chart) (events codes b : Bool) → names_fault chart ≡ None → HasCircle chart b → b ≡ false → events ≡ true → codes ≡ true → IsLowestFault chart events codes None
none_told chart events codes false h circle e f g = (h, circle, f, g)
none_told chart events codes true h circle e f g = absurd cc

-- ---- of a text

codes_told : (m : Marks) (names : List (List ℕ)) → is_some (progress m names).names ≡ m.codes_fit
codes_told m names = go m.codes_fit
  where
    go : (b : Bool) → is_some (cond b (Some names) None) ≡ b
    go true = refl
    go false = refl

fault_is : (scope : Scope) (names new : List (List ℕ)) (is : GraphItems) (chart : Chart) (m : Marks) (o : Option ChartFault) → chart ≡ chart_of scope names is → progress m new ≡ reading scope names is → IsLowestFault chart m.events_fit m.codes_fit o → HasFault scope names is o
fault_is scope names new is chart m o c p h =
    let events : m.events_fit ≡ (reading scope names is).events_fit = ap (λ (q : Progress). q.events_fit) p in
    let codes : m.codes_fit ≡ is_some (reading scope names is).names = sym (codes_told m new) ∙ ap (λ (q : Progress). is_some q.names) p in
    let by_chart : IsLowestFault (chart_of scope names is) m.events_fit m.codes_fit o = subst (λ (d : Chart). IsLowestFault d m.events_fit m.codes_fit o) c h in
    let by_events : IsLowestFault (chart_of scope names is) (reading scope names is).events_fit m.codes_fit o = subst (λ (b : Bool). IsLowestFault (chart_of scope names is) b m.codes_fit o) events by_chart in
    subst (λ (b : Bool). IsLowestFault (chart_of scope names is) (reading scope names is).events_fit b o) codes by_events

pub fault_told : (scope : Scope) (names new : List (List ℕ)) (is : GraphItems) (chart : Chart) (m : Marks) (f : ChartFault) → chart ≡ chart_of scope names is → progress m new ≡ reading scope names is → IsLowestFault chart m.events_fit m.codes_fit (Some f) → Reads scope names is (Err (read_faults.Chart f))
fault_told scope names new is chart m f c p h = fault_is scope names new is chart m (Some f) c p h

pub memory_told : (scope : Scope) (names : List (List ℕ)) (is : GraphItems) (f : ReadFault) → f ≡ read_faults.Memory → Reads scope names is (Err f)
memory_told scope names is f e = subst (λ (g : ReadFault). Reads scope names is (Err g)) (sym e) tt

pub chart_told : (scope : Scope) (names new : List (List ℕ)) (is : GraphItems) (c : CodeChart) (m : Marks) → chart_view c ≡ chart_of scope names is → progress m new ≡ reading scope names is → IsLowestFault (chart_view c) m.events_fit m.codes_fit None → Reads scope names is (Ok c)
chart_told scope names new is c m e p h = (fault_is scope names new is (chart_view c) m None e p h, e)

pub valid_told : (chart : Chart) (events codes : Bool) → IsLowestFault chart events codes None → IsValid chart
valid_told chart events codes h =
    let kept = names_kept chart h.0 in
    is_valid chart kept.first kept.second kept.third kept.fourth kept.fifth h.1

pub names_now : (scope : Scope) (names new : List (List ℕ)) (is : GraphItems) (chart : Chart) (m : Marks) → progress m new ≡ reading scope names is → IsLowestFault chart m.events_fit m.codes_fit None → (reading scope names is).names ≡ Some new
names_now scope names new is chart m p h = sym (ap (λ (q : Progress). q.names) p) ∙ ap (λ b. cond b (Some new) None) h.3

pub valid_when : (chart : Chart) (events codes : Bool) (o : Option ChartFault) → o ≡ None → IsLowestFault chart events codes o → IsValid chart
valid_when chart events codes None e h = valid_told chart events codes h
valid_when chart events codes (Some f) e h = absurd cc
