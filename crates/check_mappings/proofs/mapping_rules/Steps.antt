-- The loop over the segments of a path.
use Rattle.std.proofs.Common.{◌≡◌, ℕ, ◌+◌, ◌<◌, ◌≤◌, List, Option, Some, None, length, get_or, drop, drop-cons, add-one, sym, ◌∙◌, ap, refl}
use Rattle.std.specs.Prelude.{option_map, option_and_then}
use Rattle.std.proofs.lemmas.List.{drop_all}
use Rattle.room_ast.specs.declared.system.Segment.{Segment}
use Rattle.check_tables.specs.declared.class_tables.container.Container.{Container}
use Rattle.check_mappings.specs.mapping_rules.Walks.{Place, step, walk}
use Rattle.check_mappings.specs.mapping_rules.Places.{place_view}
use Rattle.check_mappings.specs.declared.mapping_rules.walk.Place.{Place as CodePlace}

-- what is left to walk leads where the whole leads
pub record Walked (classes : List Container) (first now : CodePlace) (ss : List Segment) (i : ℕ) : Type 0 where
  pub left : walk classes (place_view now) (drop i ss) ≡ walk classes (place_view first) ss

pub walk_start : (classes : List Container) (first : CodePlace) (ss : List Segment) → Walked classes first first ss 0
walk_start classes first ss = record { left = refl }

module _ (classes : List Container) (first now : CodePlace) (ss : List Segment) (i : ℕ) (inv : Walked classes first now ss i) where
  at : (s : Segment) → i < length ss → s ≡ get_or ss i s → walk classes (place_view now) (drop i ss) ≡ option_and_then (λ (q : Place). walk classes q (drop (i + 1) ss)) (step classes (place_view now) s)
  at s l e = rw (add-one, drop-cons ss i s, ← e) refl

  pub walk_more : (s : Segment) (r : Option CodePlace) (next : CodePlace) → i < length ss → s ≡ get_or ss i s → option_map place_view r ≡ step classes (place_view now) s → r ≡ Some next → Walked classes first next ss (i + 1)
  walk_more s r next l e f g = record {
    left = sym (at s l e ∙ ap (option_and_then (λ (q : Place). walk classes q (drop (i + 1) ss))) (sym f ∙ ap (option_map place_view) g)) ∙ inv.left;
  }

  pub walk_stops : (s : Segment) (r : Option CodePlace) → i < length ss → s ≡ get_or ss i s → option_map place_view r ≡ step classes (place_view now) s → r ≡ None → None ≡ walk classes (place_view first) ss
  walk_stops s r l e f g = sym (at s l e ∙ ap (option_and_then (λ (q : Place). walk classes q (drop (i + 1) ss))) (sym f ∙ ap (option_map place_view) g)) ∙ inv.left

  pub walk_ends : length ss ≤ i → Some (place_view now) ≡ walk classes (place_view first) ss
  walk_ends l = rw (← inv.left, drop_all i ss l) refl
