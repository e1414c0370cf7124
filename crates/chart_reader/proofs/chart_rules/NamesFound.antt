-- What is found in the tables of a graph is what the graph has.
use Rattle.std.proofs.Common.{◌≡◌, Bool, true, false, cond, List, [], ◌∷◌, map, Some, None, refl, sym, ap, ◌∙◌}
use Rattle.std.specs.Prelude.{◌||◌, ◌&&◌}
use Rattle.std.specs.List.{list_any, filter_map, cons_option}
use lib.Pointwise.{bytes_decides}
use Rattle.name_tables.specs.name_numbers.Names.{same, is_among}
use Rattle.chart_model.specs.Chart.{Name, PointKind, State, Point, Graph}
use Rattle.chart_model.specs.Valid.{is_kind, has_state, has_point}
use Rattle.chart_reader.specs.chart_rules.Index.{name_of_state, name_of_kind, point_names}

-- names are the same either way round
pub same_turn : (a b : Name) → same a b ≡ same b a
same_turn a b = split (same a b) (same b a) refl refl
  where
    split : (s t : Bool) → same a b ≡ s → same b a ≡ t → s ≡ t
    split true true e f = refl
    split true false e f = let own : same b a ≡ true = (bytes_decides b a).1 (sym ((bytes_decides a b).0 e)) in absurd cc
    split false true e f = let own : same a b ≡ true = (bytes_decides a b).1 (sym ((bytes_decides b a).0 f)) in absurd cc
    split false false e f = refl

states_any : (n : Name) (ss : List State) → list_any (same n) (map name_of_state ss) ≡ list_any (λ (d : State). same d.name n) ss
states_any n [] = refl
states_any n (s ∷ ss) = ap (λ b. b || list_any (same n) (map name_of_state ss)) (same_turn n s.name) ∙ ap (λ b. same s.name n || b) (states_any n ss)

pub state_found : (g : Graph) (names : List Name) (n : Name) → names ≡ map name_of_state g.states → is_among names n ≡ has_state g n
state_found g names n e = ap (λ l. is_among l n) e ∙ states_any n g.states

point_split : (kind : PointKind) (n : Name) (p : Point) (names : List Name) (rest b : Bool) → list_any (same n) names ≡ rest → list_any (same n) (cons_option (cond b (Some p.name) None) names) ≡ ((b && same p.name n) || rest)
point_split kind n p names rest true e = ap (λ t. t || list_any (same n) names) (same_turn n p.name) ∙ ap (λ t. same p.name n || t) e
point_split kind n p names rest false e = e

points_any : (kind : PointKind) (n : Name) (ps : List Point) → list_any (same n) (filter_map (name_of_kind kind) ps) ≡ list_any (λ (q : Point). is_kind kind q.kind && same q.name n) ps
points_any kind n [] = refl
points_any kind n (p ∷ ps) = point_split kind n p (filter_map (name_of_kind kind) ps) (list_any (λ (q : Point). is_kind kind q.kind && same q.name n) ps) (is_kind kind p.kind) (points_any kind n ps)

pub point_found : (kind : PointKind) (g : Graph) (names : List Name) (n : Name) → names ≡ point_names kind g → is_among names n ≡ has_point kind g n
point_found kind g names n e = ap (λ l. is_among l n) e ∙ points_any kind n g.points
