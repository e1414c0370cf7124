-- What marks say of progress.
use Rattle.std.proofs.Common.{◌≡◌, ℕ, Bool, true, false, cond, List, Option, Some, None, refl, ap, ◌∙◌}
use Rattle.std.specs.Prelude.{◌&&◌}
use Rattle.room_ast.specs.declared.chart.Code.{Code}
use Rattle.room_ast.specs.declared.chart.Trigger.{Trigger}
use Rattle.room_ast.specs.declared.scope.Scope.{Scope}
use Rattle.chart_trees.specs.declared.chart_codes.marks.Marks.{Marks}
use Rattle.chart_trees.specs.chart_codes.Codes.{guard_fits}
use Rattle.chart_trees.specs.chart_codes.Events.{events_fit, guards_fit}
use Rattle.chart_trees.specs.chart_codes.Progress.{Progress, progress, after_guard, after_triggers, marks_after_guard}

abbrev made : Bool → Option (List (List ℕ)) → Progress
made events names = record { events_fit = events; names = names }

-- the same progress
pub same_progress : (a b : Bool) (x y : Option (List (List ℕ))) → a ≡ b → x ≡ y → made a x ≡ made b y
same_progress a b x y e f = ap (λ c. made c x) e ∙ ap (λ z. made b z) f

and_if : (a b : Bool) → (a && b) ≡ cond b a false
and_if true true = refl
and_if true false = refl
and_if false true = refl
and_if false false = refl

names_if : (names : List (List ℕ)) (c g : Bool) → cond (c && g) (Some names) None ≡ cond g (cond c (Some names) None) None
names_if names true true = refl
names_if names true false = refl
names_if names false true = refl
names_if names false false = refl

pub guard_met : (scope : Scope) (m : Marks) (code : Option Code) (names : List (List ℕ)) → progress (marks_after_guard scope m code) names ≡ after_guard scope (progress m names) code
guard_met scope m code names = same_progress m.events_fit m.events_fit (cond (m.codes_fit && guard_fits scope code) (Some names) None) (cond (guard_fits scope code) (cond m.codes_fit (Some names) None) None) refl (names_if names m.codes_fit (guard_fits scope code))

pub triggers_met : (scope : Scope) (old new : Marks) (ts : List Trigger) (names : List (List ℕ)) → new.events_fit ≡ (old.events_fit && events_fit scope ts) → new.codes_fit ≡ (old.codes_fit && guards_fit scope ts) → progress new names ≡ after_triggers scope (progress old names) ts
triggers_met scope old new ts names e f =
    same_progress new.events_fit (cond (events_fit scope ts) old.events_fit false) (cond new.codes_fit (Some names) None) (cond (guards_fit scope ts) (cond old.codes_fit (Some names) None) None)
    (e ∙ and_if old.events_fit (events_fit scope ts)) (ap (λ b. cond b (Some names) None) f ∙ names_if names old.codes_fit (guards_fit scope ts))
