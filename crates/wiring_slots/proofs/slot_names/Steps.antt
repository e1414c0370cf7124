-- The loop over the segments of a path.
use Rattle.std.proofs.Common.{◌≡◌, ℕ, ◌+◌, ◌<◌, ◌≤◌, List, Option, Some, None, length, get_or, drop, drop-cons, add-one, sym, ◌∙◌, ap, refl}
use Rattle.std.specs.Prelude.{option_map, option_and_then}
use Rattle.std.proofs.lemmas.List.{drop_all}
use Rattle.room_ast.specs.declared.system.Segment.{Segment}
use Rattle.check_tables.specs.declared.class_tables.container.Container.{Container}
use Rattle.wiring_slots.specs.slot_names.Ways.{WayTree, further, walked}
use Rattle.wiring_slots.specs.slot_names.Wireds.{way_view}
use Rattle.wiring_slots.specs.declared.slot_names.ways.Way.{Way}

-- what is left to walk leads where the whole leads
pub record Walked (classes : List Container) (first now : Way) (ss : List Segment) (i : ℕ) : Type 0 where
  pub left : walked classes (way_view now) (drop i ss) ≡ walked classes (way_view first) ss

pub walk_start : (classes : List Container) (first : Way) (ss : List Segment) → Walked classes first first ss 0
walk_start classes first ss = record { left = refl }

module _ (classes : List Container) (first now : Way) (ss : List Segment) (i : ℕ) (inv : Walked classes first now ss i) where
  at : (s : Segment) → i < length ss → s ≡ get_or ss i s → walked classes (way_view now) (drop i ss) ≡ option_and_then (λ (q : WayTree). walked classes q (drop (i + 1) ss)) (further classes (way_view now) s)
  at s l e = rw (add-one, drop-cons ss i s, ← e) refl

  pub walk_more : (s : Segment) (r : Option Way) (next : Way) → i < length ss → s ≡ get_or ss i s → option_map way_view r ≡ further classes (way_view now) s → r ≡ Some next → Walked classes first next ss (i + 1)
  walk_more s r next l e f g = record {
    left = sym (at s l e ∙ ap (option_and_then (λ (q : WayTree). walked classes q (drop (i + 1) ss))) (sym f ∙ ap (option_map way_view) g)) ∙ inv.left;
  }

  pub walk_stops : (s : Segment) (r : Option Way) → i < length ss → s ≡ get_or ss i s → option_map way_view r ≡ further classes (way_view now) s → r ≡ None → None ≡ walked classes (way_view first) ss
  walk_stops s r l e f g = sym (at s l e ∙ ap (option_and_then (λ (q : WayTree). walked classes q (drop (i + 1) ss))) (sym f ∙ ap (option_map way_view) g)) ∙ inv.left

  pub walk_ends : length ss ≤ i → Some (way_view now) ≡ walked classes (way_view first) ss
  walk_ends l = rw (← inv.left, drop_all i ss l) refl
