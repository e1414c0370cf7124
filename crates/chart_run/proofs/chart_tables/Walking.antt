-- The loops over states that are left and entered, and over branches.
use Rattle.std.proofs.Common.{◌≡◌, ℕ, suc, zero, ◌+◌, ◌<◌, ◌≤◌, Bool, true, List, [], ◌∷◌, ◌++◌, Option, Some, None, length, map, get_or, take, reverse, sym, ◌∙◌, ap, refl, arith}
use Rattle.std.proofs.lemmas.List.{take_more, reverse-append}
use Rattle.action_program.specs.declared.moment.Moment.{Moment}
use Rattle.action_program.specs.Meaning.{Ran}
use Rattle.chart_model.specs.chart_plan.Handling.{Memory, or_default, first_of, enter, enter_all, leave, leave_all}
use Rattle.chart_model.specs.Acting.{acting}
use Rattle.chart_run.specs.chart_tables.Tables.{ArrowTree, plan, arrow_view, arrow_views}
use Rattle.chart_run.specs.chart_tables.Minds.{Becomes, Gives, memory_of, arrow_holds, arrow_chosen}
use Rattle.chart_run.specs.declared.chart_tables.mind.Mind.{Mind}
use Rattle.chart_run.specs.declared.chart_tables.tables.Arrow.{Arrow}
use Rattle.chart_run.specs.declared.chart_tables.tables.Tables.{Tables}
use Rattle.chart_run.proofs.chart_tables.Trying.{Tried, tried_hit, tried_none}

-- the first i states of ss were left
module _ (v : Tables) (at : Moment) (leaf : ℕ) where
  pub leave_start : (m : Mind) → Becomes m m (leave_all (plan v) (acting at) (Some leaf) [] (memory_of m))
  unfolding leave_all
  leave_start m = record { seen = refl; size = refl }

  left_more : (ss : List ℕ) (s : ℕ) (m : Memory ℕ Ran) → leave_all (plan v) (acting at) (Some leaf) (ss ++ s ∷ []) m ≡ leave (plan v) (acting at) (Some leaf) s (leave_all (plan v) (acting at) (Some leaf) ss m)
  unfolding leave_all
  left_more [] s m = refl
  left_more (x ∷ ss) s m = left_more ss s (leave (plan v) (acting at) (Some leaf) x m)

  pub leave_more : (ss : List ℕ) (i : ℕ) (first now next : Mind) → i < length ss → Becomes first now (leave_all (plan v) (acting at) (Some leaf) (take i ss) (memory_of first))
      → Becomes now next (leave (plan v) (acting at) (Some leaf) (get_or ss i 0) (memory_of now)) → Becomes first next (leave_all (plan v) (acting at) (Some leaf) (take (i + 1) ss) (memory_of first))
  leave_more ss i first now next l a b = record {
    seen = b.seen ∙ ap (leave (plan v) (acting at) (Some leaf) (get_or ss i 0)) a.seen ∙ sym (rw (take_more ss i 0 l) (left_more (take i ss) (get_or ss i 0) (memory_of first)));
    size = b.size ∙ a.size;
  }

-- the states of ss below i are still to be entered, of so many
pub record Entered (v : Tables) (at : Moment) (ss : List ℕ) (i count : ℕ) (first now : Mind) : Type 0 where
  pub seen : enter_all (plan v) (acting at) (reverse (take i ss)) (memory_of now) ≡ enter_all (plan v) (acting at) (reverse (take count ss)) (memory_of first)
  pub size : length now.past.items ≡ length first.past.items

module _ (v : Tables) (at : Moment) (ss : List ℕ) where
  pub enter_start : (n : ℕ) (m : Mind) → Entered v at ss n n m m
  enter_start n m = record { seen = refl; size = refl }

  pub enter_more : (i n : ℕ) (first now next : Mind) → i < length ss → Entered v at ss (i + 1) n first now → Becomes now next (enter (plan v) (acting at) (get_or ss i 0) (memory_of now))
      → Entered v at ss i n first next
  unfolding enter_all
  enter_more i n first now next l inv b = record {
    seen = ap (enter_all (plan v) (acting at) (reverse (take i ss))) b.seen ∙ sym (rw (take_more ss i 0 l, reverse-append) refl) ∙ inv.seen;
    size = b.size ∙ inv.size;
  }

  pub enter_end : (n : ℕ) (first now : Mind) → Entered v at ss 0 n first now → Becomes first now (enter_all (plan v) (acting at) (reverse (take n ss)) (memory_of first))
  unfolding enter_all
  enter_end n first now inv = record { seen = inv.seen; size = inv.size }

-- a branch is chosen, or the default
module _ (at : Moment) (d : Arrow) (branches : List Arrow) (i : ℕ) (first now : Mind) (inv : Tried arrow_view (arrow_holds at) branches i first now) where
  pub chosen_hit : (next : Mind) (b : Bool) (t : Arrow) → i < length branches → t ≡ get_or branches i t → Gives now next b (arrow_holds at (arrow_view t) (memory_of now)) → b ≡ true
      → Gives first next (arrow_view t) (arrow_chosen at (arrow_view d) (arrow_views branches) (memory_of first))
  unfolding arrow_chosen
  chosen_hit next b t l e g q = let found = tried_hit arrow_view (arrow_holds at) branches i first now next b t inv l e g q in record { seen = ap (or_default (arrow_view d)) found.seen; size = found.size }

  pub chosen_none : length branches ≤ i → Gives first now (arrow_view d) (arrow_chosen at (arrow_view d) (arrow_views branches) (memory_of first))
  unfolding arrow_chosen
  chosen_none l = let found = tried_none arrow_view (arrow_holds at) branches i first now inv l in record { seen = ap (or_default (arrow_view d)) found.seen; size = found.size }
