-- Taking a transition, and the start.
use Rattle.std.proofs.Common.{◌≡◌, ℕ, zero, suc, get_or, Bool, true, false, List, [], Option, Some, None, length, take, replicate, sym, ◌∙◌, ap, refl}
use Rattle.std.specs.Prelude.{slice_index_or}
use Rattle.room_kinds.specs.declared.numbers.Incarnation.{Incarnation}
use Rattle.action_program.specs.declared.moment.Moment.{Moment}
use mathlib.Core.Path.{fun_ext}
use Rattle.chart_model.specs.chart_plan.Handling.{enabled, handling, starting, taken, leave_all, chain}
use Rattle.chart_model.specs.Acting.{Result, Handled, acting, acted, quiet, starts_by, acted_by, result_of, handles_by, memory_of as memory_of_standing}
use Rattle.chart_model.specs.Chart.{Event}
use Rattle.chart_run.specs.chart_tables.Minds.{Becomes, Gives, memory_of, taken_view}
use Rattle.chart_run.specs.chart_tables.Tables.{ArrowTree, plan, arrow_view, up_at}
use Rattle.chart_run.specs.declared.chart_tables.mind.Mind.{Mind}
use Rattle.chart_run.specs.declared.chart_tables.tables.Tables.{Tables}
use Rattle.chart_run.specs.Machines.{handled_at, acted_of, standing_of, moment_at_start}
use Rattle.chart_run.specs.declared.machine.Machine.{Machine}

module _ (v : Tables) (at : Moment) (event : Event) (leaf : ℕ) (old now : Mind) (r : Option (ℕ × ArrowTree)) (found : Gives old now r (enabled (plan v) (acting at) event 0 (up_at v leaf) (memory_of old))) where
  pub not_enabled : r ≡ None → handled_at false leaf now ≡ handling (plan v) (acting at) leaf event (memory_of old)
  unfolding handling taken
  not_enabled e = sym (ap (taken (plan v) (acting at) leaf) (sym found.seen ∙ ap (λ r. (r, memory_of now)) e))

  pub taken_up : (k : ℕ) (t : ArrowTree) (mid last : Mind) (s : ℕ) → r ≡ Some (k, t) → Becomes now mid (leave_all (plan v) (acting at) (Some leaf) (take k (up_at v leaf)) (memory_of now))
      → Gives mid last (Some s) (chain (plan v) (acting at) (Some leaf) t (memory_of mid)) → handled_at true s last ≡ handling (plan v) (acting at) leaf event (memory_of old)
  unfolding handling taken
  taken_up k t mid last s e left ended =
      sym (ap (taken (plan v) (acting at) leaf) (sym found.seen ∙ ap (λ r. (r, memory_of now)) e)
      ∙ ap (λ m. record { enabled = true; leaf = (chain (plan v) (acting at) (Some leaf) t m).0; memory = (chain (plan v) (acting at) (Some leaf) t m).1 }) (sym left.seen)
      ∙ ap (λ x. record { enabled = true; leaf = x.0; memory = x.1 }) (sym ended.seen))

-- a message was taken, and its effects handed out
pub acted_up : (v : Tables) (at : Moment) (event : Event) (old : Machine) (mid : Mind) (leaf : ℕ) (enabled : Bool) (result : Result) (new : Machine)
    → old.mind.effects.notes ≡ [] → old.mind.effects.commands ≡ [] → handled_at enabled leaf mid ≡ handling (plan v) (acting at) old.leaf event (memory_of old.mind)
    → result ≡ result_of at enabled mid.effects.commands → new.leaf ≡ leaf → new.mind.past ≡ mid.past → new.mind.vars ≡ mid.vars
    → acted_of result new mid.effects ≡ handles_by (plan v) at event (standing_of old)
unfolding handles_by
acted_up v at event old mid leaf enabled result new notes commands handled is l p w =
    let quiet_before : memory_of old.mind ≡ memory_of_standing (standing_of old) = rw (notes, commands) refl in
    rw (is, l, p, w) (ap (acted_by at) (handled ∙ ap (handling (plan v) (acting at) old.leaf event) quiet_before))

-- ---- the start

nothing_past : (n s : ℕ) → ◌≡◌ {A = Option ℕ} (get_or (replicate n None) s None) None
nothing_past zero s = refl
nothing_past (suc n) zero = refl
nothing_past (suc n) (suc s) = nothing_past n s

pub started : (v : Tables) (me : Incarnation) (first last : Mind) (leaf : ℕ) (m : Machine) → first.past.items ≡ replicate (length v.states.items) None → first.vars ≡ v.values.items → first.effects.notes ≡ [] → first.effects.commands ≡ []
    → Gives first last (Some leaf) (chain (plan v) (acting (moment_at_start me)) None (arrow_view v.initial) (memory_of first)) → m.leaf ≡ leaf → m.mind.past ≡ last.past → m.mind.vars ≡ last.vars
    → acted_of Handled m last.effects ≡ starts_by (plan v) (moment_at_start me) (arrow_view v.initial) v.values.items
unfolding starts_by starting
started v me first last leaf m past vars notes commands ended l p w =
    let before : memory_of first ≡ record { past = λ s. None; ran = quiet v.values.items } =
    rw (past, vars, notes, commands) (ap (λ (f : ℕ → Option ℕ). record { past = f; ran = quiet v.values.items }) (fun_ext (nothing_past (length v.states.items)))) in
    rw (l, p, w) (ap (λ x. acted Handled x.0 x.1) (ended.seen ∙ ap (chain (plan v) (acting (moment_at_start me)) None (arrow_view v.initial)) before))
