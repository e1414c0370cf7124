-- The loops over triggers and transitions that are tried.
use Rattle.std.proofs.Common.{◌≡◌, ℕ, suc, zero, ◌+◌, ◌<◌, ◌≤◌, Bool, true, false, cond, List, [], ◌∷◌, Option, Some, None, length, map, option_map, ◌++◌, get_or, drop, drop-cons, add-one, sym, ◌∙◌, ap, refl, arith}
use Rattle.std.specs.Prelude.{◌||◌}
use Rattle.std.specs.List.{list_any}
use Rattle.std.specs.Option.{is_some}
use Rattle.std.proofs.lemmas.List.{drop_all, get_or-map}
use Rattle.action_program.specs.declared.moment.Moment.{Moment}
use Rattle.action_program.specs.Meaning.{Ran}
use Rattle.action_program.specs.Numbered.{expr_view}
use Rattle.chart_model.specs.chart_plan.Handling.{Memory, first_of, holds, trigger_fits, triggers_fit, fits, enabled, enabled_after}
use Rattle.chart_model.specs.Chart.{Event}
use Rattle.chart_model.specs.Named.{same_event}
use Rattle.chart_model.specs.Acting.{acting}
use Rattle.chart_run.specs.chart_tables.Tables.{ArrowTree, event_view, trigger_view, arrow_view, arrow_views, own_at, shared_at, up_at, plan}
use Rattle.chart_run.specs.chart_tables.Minds.{Gives, memory_of, arrow_fits}
use Rattle.chart_run.specs.declared.chart_tables.mind.Mind.{Mind}
use Rattle.chart_run.specs.declared.chart_tables.tables.Arrow.{Arrow}
use Rattle.chart_run.specs.declared.chart_tables.tables.Tables.{Tables}
use Rattle.chart_run.specs.declared.chart_tables.tables.Event.{Event as CodeEvent}
use Rattle.chart_run.specs.declared.chart_tables.tables.Trigger.{Trigger as CodeTrigger}

-- the items of X below i were tried, each seen by view
pub record Tried {X T : Type 0} (view : X → T) (try : T → Memory ℕ Ran → Bool × Memory ℕ Ran) (xs : List X) (i : ℕ) (first now : Mind) : Type 0 where
  pub seen : first_of try (map view (drop i xs)) (memory_of now) ≡ first_of try (map view xs) (memory_of first)
  pub size : length now.past.items ≡ length first.past.items

module _ {X T : Type 0} (view : X → T) (try : T → Memory ℕ Ran → Bool × Memory ℕ Ran) (xs : List X) (i : ℕ) (first now next : Mind) (b : Bool) (x : X) where
  passes : i < length xs → x ≡ get_or xs i x → Gives now next b (try (view x) (memory_of now))
      → first_of try (map view (drop i xs)) (memory_of now) ≡ cond b (Some (view x), memory_of next) (first_of try (map view (drop (i + 1) xs)) (memory_of next))
  unfolding first_of
  passes l e g = rw (add-one, drop-cons xs i x, ← e) (ap (λ v. cond v.0 (Some (view x), v.1) (first_of try (map view (drop (suc i) xs)) v.1)) (sym g.seen))

  pub tried_hit : Tried view try xs i first now → i < length xs → x ≡ get_or xs i x → Gives now next b (try (view x) (memory_of now)) → b ≡ true
      → Gives first next (Some (view x)) (first_of try (map view xs) (memory_of first))
  tried_hit inv l e g q = record {
    seen = sym (passes l e g ∙ ap (λ b. cond b (Some (view x), memory_of next) (first_of try (map view (drop (i + 1) xs)) (memory_of next))) q) ∙ inv.seen;
    size = g.size ∙ inv.size;
  }

  pub tried_miss : Tried view try xs i first now → i < length xs → x ≡ get_or xs i x → Gives now next b (try (view x) (memory_of now)) → b ≡ false
      → Tried view try xs (i + 1) first next
  tried_miss inv l e g q = record {
    seen = sym (passes l e g ∙ ap (λ b. cond b (Some (view x), memory_of next) (first_of try (map view (drop (i + 1) xs)) (memory_of next))) q) ∙ inv.seen;
    size = g.size ∙ inv.size;
  }

module _ {X T : Type 0} (view : X → T) (try : T → Memory ℕ Ran → Bool × Memory ℕ Ran) (xs : List X) where
  pub tried_none : (i : ℕ) (first now : Mind) → Tried view try xs i first now → length xs ≤ i → Gives first now None (first_of try (map view xs) (memory_of first))
  unfolding first_of
  tried_none i first now inv l = record { seen = rw (← inv.seen, drop_all i xs l) refl; size = inv.size }

  pub tried_start : (m : Mind) → Tried view try xs 0 m m
  tried_start m = record { seen = refl; size = refl }

-- events are compared one by one
pub any_event : (f : Event → Bool) (es : List CodeEvent) → list_any (λ e. f (event_view e)) es ≡ list_any f (map event_view es)
any_event f [] = refl
any_event f (e ∷ es) = ap (λ b. f (event_view e) || b) (any_event f es)

module _ (at : Moment) (event : Event) (t : CodeTrigger) (has : Bool) (is : has ≡ list_any (λ e. same_event event (event_view e)) t.events.items) (old : Mind) where
  pub trigger_tested : (new : Mind) (b : Bool) → has ≡ true → Gives old new b (holds (acting at) (option_map expr_view t.guard) (memory_of old)) → Gives old new b (trigger_fits (acting at) same_event event (trigger_view t) (memory_of old))
  unfolding trigger_fits
  trigger_tested new b it_has g = rw (← any_event (same_event event) t.events.items, ← is, it_has) g

  pub trigger_missed : has ≡ false → Gives old old false (trigger_fits (acting at) same_event event (trigger_view t) (memory_of old))
  unfolding trigger_fits
  trigger_missed it_has = rw (← any_event (same_event event) t.events.items, ← is, it_has) (record { seen = refl; size = refl })

-- whether something was found
abbrev answered : {T : Type 0} → Option T × Memory ℕ Ran → Bool × Memory ℕ Ran
answered x = (is_some x.0, x.1)

module _ (at : Moment) (event : Event) (ts : List CodeTrigger) (i : ℕ) (first now : Mind) where
  pub fitting_hit : (next : Mind) (b : Bool) (t : CodeTrigger) (arrow : ArrowTree) → arrow.triggers ≡ map trigger_view ts
      → Tried trigger_view (trigger_fits (acting at) same_event event) ts i first now → i < length ts → t ≡ get_or ts i t
      → Gives now next b (trigger_fits (acting at) same_event event (trigger_view t) (memory_of now)) → b ≡ true
      → Gives first next true (arrow_fits at event arrow (memory_of first))
  unfolding arrow_fits triggers_fit
  fitting_hit next b t arrow of inv l e g q =
      let found = tried_hit trigger_view (trigger_fits (acting at) same_event event) ts i first now next b t inv l e g q in
      record { seen = ap answered found.seen ∙ ap (λ x. answered (first_of (trigger_fits (acting at) same_event event) x (memory_of first))) (sym of); size = found.size }

  pub fitting_none : (arrow : ArrowTree) → arrow.triggers ≡ map trigger_view ts → Tried trigger_view (trigger_fits (acting at) same_event event) ts i first now → length ts ≤ i
      → Gives first now false (arrow_fits at event arrow (memory_of first))
  unfolding arrow_fits triggers_fit
  fitting_none arrow of inv l =
      let found = tried_none trigger_view (trigger_fits (acting at) same_event event) ts i first now inv l in
      record { seen = ap answered found.seen ∙ ap (λ x. answered (first_of (trigger_fits (acting at) same_event event) x (memory_of first))) (sym of); size = found.size }

-- ---- the transitions of a state

-- the first of two lists that passes
abbrev or_else : {T : Type 0} → (Memory ℕ Ran → Option T × Memory ℕ Ran) → Option T × Memory ℕ Ran → Option T × Memory ℕ Ran
or_else next (Some t, m) = (Some t, m)
or_else next (None, m) = next m

pushed : {T : Type 0} (b : Bool) (x : Option T × Memory ℕ Ran) (y z : Option T × Memory ℕ Ran) (next : Memory ℕ Ran → Option T × Memory ℕ Ran) → y ≡ or_else next x → or_else next z ≡ z → cond b z y ≡ or_else next (cond b z x)
pushed true x y z next e f = sym f
pushed false x y z next e f = e

first_append : {T : Type 0} (try : T → Memory ℕ Ran → Bool × Memory ℕ Ran) (xs ys : List T) (m : Memory ℕ Ran) → first_of try (xs ++ ys) m ≡ or_else (first_of try ys) (first_of try xs m)
unfolding first_of
first_append try [] ys m = refl
first_append try (x ∷ xs) ys m = pushed (try x m).0 (first_of try xs (try x m).1) (first_of try (xs ++ ys) (try x m).1) (Some x, (try x m).1) (first_of try ys) (first_append try xs ys (try x m).1) refl

module _ (v : Tables) (s : ℕ) (at : Moment) (event : Event) (first : Mind) where
  -- what is tried in a state, by the plan and by the code
  same_tries : first_of (fits (plan v) (acting at) event) ((plan v).tried s) (memory_of first) ≡ or_else (first_of (arrow_fits at event) (shared_at v s)) (first_of (arrow_fits at event) (own_at v s) (memory_of first))
  unfolding fits arrow_fits
  same_tries = first_append (fits (plan v) (acting at) event) (own_at v s) (shared_at v s) (memory_of first)

  pub tried_own : (own : List Arrow) (r : Option ArrowTree) (t : ArrowTree) (next : Mind) → arrow_views own ≡ own_at v s → Gives first next r (first_of (arrow_fits at event) (arrow_views own) (memory_of first)) → r ≡ Some t
      → Gives first next (Some t) (first_of (fits (plan v) (acting at) event) ((plan v).tried s) (memory_of first))
  tried_own own r t next of g e = record {
    seen = sym (same_tries ∙ ap (λ arrows. or_else (first_of (arrow_fits at event) (shared_at v s)) (first_of (arrow_fits at event) arrows (memory_of first))) (sym of)
        ∙ ap (or_else (first_of (arrow_fits at event) (shared_at v s))) (sym g.seen ∙ ap (λ x. (x, memory_of next)) e));
    size = g.size;
  }

  pub tried_shared : (own shared : List Arrow) (r q : Option ArrowTree) (mid next : Mind) → arrow_views own ≡ own_at v s → arrow_views shared ≡ shared_at v s → Gives first mid r (first_of (arrow_fits at event) (arrow_views own) (memory_of first)) → r ≡ None
      → Gives mid next q (first_of (arrow_fits at event) (arrow_views shared) (memory_of mid)) → Gives first next q (first_of (fits (plan v) (acting at) event) ((plan v).tried s) (memory_of first))
  tried_shared own shared r q mid next of also g e h = record {
    seen = h.seen ∙ ap (λ arrows. first_of (arrow_fits at event) arrows (memory_of mid)) also
        ∙ sym (same_tries ∙ ap (λ arrows. or_else (first_of (arrow_fits at event) (shared_at v s)) (first_of (arrow_fits at event) arrows (memory_of first))) (sym of)
        ∙ ap (or_else (first_of (arrow_fits at event) (shared_at v s))) (sym g.seen ∙ ap (λ x. (x, memory_of mid)) e));
    size = h.size ∙ g.size;
  }

-- ---- the states of the active path

-- the states below i were tried
pub record Searched (v : Tables) (at : Moment) (event : Event) (ss : List ℕ) (i : ℕ) (first now : Mind) : Type 0 where
  pub seen : enabled (plan v) (acting at) event i (drop i ss) (memory_of now) ≡ enabled (plan v) (acting at) event 0 ss (memory_of first)
  pub size : length now.past.items ≡ length first.past.items

module _ (v : Tables) (at : Moment) (event : Event) (ss : List ℕ) where
  pub enabled_start : (m : Mind) → Searched v at event ss 0 m m
  enabled_start m = record { seen = refl; size = refl }

  enabled_at : (i : ℕ) (m n : Memory ℕ Ran) (r : Option ArrowTree) → i < length ss → (r, n) ≡ first_of (fits (plan v) (acting at) event) ((plan v).tried (get_or ss i 0)) m
      → enabled (plan v) (acting at) event i (drop i ss) m ≡ enabled_after (plan v) (acting at) (r, n) i (λ later. enabled (plan v) (acting at) event (i + 1) (drop (i + 1) ss) later)
  unfolding enabled
  enabled_at i m n r l g = rw (add-one, drop-cons ss i 0) (ap (λ x. enabled_after (plan v) (acting at) x i (λ later. enabled (plan v) (acting at) event (suc i) (drop (suc i) ss) later)) (sym g))

  module _ (i : ℕ) (first now : Mind) (inv : Searched v at event ss i first now) where
    pub enabled_hit : (next : Mind) (r : Option ArrowTree) (t : ArrowTree) → i < length ss → Gives now next r (first_of (fits (plan v) (acting at) event) ((plan v).tried (get_or ss i 0)) (memory_of now)) → r ≡ Some t
        → Gives first next (Some (i + 1, t)) (enabled (plan v) (acting at) event 0 ss (memory_of first))
    unfolding enabled_after
    enabled_hit next r t l g e = record {
      seen = rw add-one (sym (enabled_at i _ _ (Some t) l (ap (λ x. (x, memory_of next)) (sym e) ∙ g.seen))) ∙ inv.seen;
      size = g.size ∙ inv.size;
    }

    pub enabled_miss : (next : Mind) (r : Option ArrowTree) → i < length ss → Gives now next r (first_of (fits (plan v) (acting at) event) ((plan v).tried (get_or ss i 0)) (memory_of now)) → r ≡ None
        → Searched v at event ss (i + 1) first next
    unfolding enabled_after
    enabled_miss next r l g e = record {
      seen = sym (enabled_at i _ _ None l (ap (λ x. (x, memory_of next)) (sym e) ∙ g.seen)) ∙ inv.seen;
      size = g.size ∙ inv.size;
    }

    pub enabled_none : length ss ≤ i → Gives first now None (enabled (plan v) (acting at) event 0 ss (memory_of first))
    unfolding enabled
    enabled_none l = record { seen = rw (← inv.seen, drop_all i ss l) refl; size = inv.size }
