-- What the code's steps do to a mind.
use Rattle.std.proofs.Common.{◌≡◌, ℕ, Bool, true, false, cond, not, ◌&&◌, List, [], ◌∷◌, Option, Some, None, ◌++◌, ◌<◌, ◌≤◌, length, get_or, set, subst, inl, inr, nat_eq, eq-eqb, refl, ap, sym, ◌∙◌}
use Rattle.std.specs.Prelude.{slice_index_or}
use Rattle.std.specs.List.{AllByRecursion, list_any}
use Rattle.std.proofs.lemmas.Bool.{eqb-true, cases_eq, or_cases}
use Rattle.std.proofs.lemmas.Grind.{get_or-set_at}
use Rattle.std.proofs.lemmas.List.{get_or-set_other}
use mathlib.Core.Path.{fun_ext}
use Rattle.std.proofs.lemmas.Option.{slice_get_past}
use Rattle.room_kinds.specs.declared.note.Note.{Note}
use Rattle.action_program.specs.Arithmetic.{is_true}
use Rattle.action_program.specs.Meaning.{Ran, ran, value_of, notes_of}
use Rattle.action_program.specs.Numbered.{expr_view, Stmts, no_stmt}
use Rattle.action_program.specs.declared.bound.BoundExpr.{BoundExpr}
use Rattle.action_program.specs.declared.moment.Effects.{Effects}
use Rattle.action_program.specs.declared.moment.Moment.{Moment}
use Rattle.chart_model.specs.chart_plan.Handling.{Memory, runs, holds, enter, is_inside}
use Rattle.chart_model.specs.Acting.{acting}
use Rattle.chart_run.specs.chart_tables.Tables.{plan, up_at, IsSound}
use Rattle.chart_run.specs.chart_tables.Minds.{Becomes, Gives, memory_of}
use Rattle.chart_run.specs.declared.chart_tables.mind.Mind.{Mind}
use Rattle.chart_run.specs.declared.chart_tables.tables.Tables.{Tables}

-- the empty program changes nothing
nothing_runs : (at : Moment) (m : Memory ℕ Ran) → m ≡ runs (acting at) no_stmt m
unfolding runs
nothing_runs at m = refl

-- where there is no such state, no action runs
pub unknown_enters : (v : Tables) (at : Moment) (s : ℕ) (m : Mind) → length v.states.items ≤ s → Becomes m m (enter (plan v) (acting at) s (memory_of m))
unfolding enter
unknown_enters v at s m h = record { seen = rw (slice_get_past v.states.items s h) (nothing_runs at (memory_of m)); size = refl }

pub unknown_exits : (v : Tables) (at : Moment) (s : ℕ) (m : Mind) → length v.states.items ≤ s → Becomes m m (runs (acting at) ((plan v).exit s) (memory_of m))
unknown_exits v at s m h = record { seen = rw (slice_get_past v.states.items s h) (nothing_runs at (memory_of m)); size = refl }

-- a condition was tested
pub condition_held : (at : Moment) (c : BoundExpr) (m : Mind) (out : Effects) (b : Bool) → b ≡ is_true (value_of (expr_view c) m.vars at) → out.notes ≡ m.effects.notes ++ notes_of (expr_view c) m.vars at → out.commands ≡ m.effects.commands
    → Gives m (record { past = m.past; vars = m.vars; effects = out }) b (holds (acting at) (Some (expr_view c)) (memory_of m))
unfolding holds
condition_held at c m out b value notes commands = record { seen = rw (value, notes, commands) refl; size = refl }

-- ---- history

is_false : (b : Bool) → (b ≡ true → ⊥) → b ≡ false
is_false true n = absurd (n refl)
is_false false n = refl

-- a write to the table is a change of the map
pub remembers : (xs : List (Option ℕ)) (s leaf : ℕ) → s < length xs → ◌≡◌ {A = ℕ → Option ℕ} (λ q. slice_index_or (set xs s (Some leaf)) q None) (λ q. cond (nat_eq q s) (Some leaf) (slice_index_or xs q None))
remembers xs s leaf h = fun_ext (λ q. elim (cases_eq q s) [
  | inl e ↦ get_or-set_at xs s q (Some leaf) None e h ∙ sym (ap (λ b. cond b (Some leaf) (get_or xs q None)) (eq-eqb q s e))
  | inr n ↦ get_or-set_other xs s q (Some leaf) None n ∙ sym (ap (λ b. cond b (Some leaf) (get_or xs q None)) (is_false (nat_eq q s) (λ t. n (eqb-true q s t))))
])

-- a state on a path is in the tables
found_in : (P : ℕ → Type 0) (s : ℕ) (qs : List ℕ) → AllByRecursion P qs → list_any (λ q. nat_eq q s) qs ≡ true → P s
found_in P s [] all h = absurd cc
found_in P s (q ∷ qs) all h = elim (or_cases (nat_eq q s) (list_any (λ r. nat_eq r s) qs) h) [
  | inl e ↦ subst P (eqb-true q s e) all.0
  | inr e ↦ found_in P s qs all.1 e
]

both_first : (a b : Bool) → (a && b) ≡ true → a ≡ true
both_first true b h = refl
both_first false b h = h

pub inside_known : (v : Tables) (leaf s : ℕ) → IsSound v → is_inside (plan v) leaf s ≡ true → s < length v.states.items
unfolding is_inside
inside_known v leaf s sound h = found_in (λ q. q < length v.states.items) s (up_at v leaf) (sound.lines leaf) (both_first (list_any (λ q. nat_eq q s) (up_at v leaf)) (not (nat_eq s leaf)) h)
