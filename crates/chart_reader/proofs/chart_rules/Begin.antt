-- The transitions that begin at a place are as many as the steps with its key.
use Rattle.std.proofs.Common.{◌≡◌, ℕ, ◌+◌, Bool, true, false, cond, List, [], ◌∷◌, length, map, refl, sym, ap, ◌∙◌, arith}
use Rattle.std.specs.Prelude.{◌&&◌}
use Rattle.std.specs.List.{filter}
use Rattle.std.proofs.lemmas.List.{length-map}
use Rattle.std.proofs.lemmas.List.Sums.{length-filter, sum_by-cons}
use Rattle.name_tables.specs.name_numbers.Names.{same}
use Rattle.chart_model.specs.Chart.{Name, Path, Chart}
use Rattle.chart_model.specs.Named.{Placed, Node, a_state, from, has_none, is_from_choice}
use Rattle.chart_model.specs.Valid.{initials_at, onward}
use Rattle.chart_reader.specs.chart_nodes.Keys.{codes, node_key}
use Rattle.chart_reader.specs.chart_nodes.Steps.{StepTree, steps_of}
use Rattle.chart_reader.specs.chart_rules.Index.{beginning, beginning_plainly}
use Rattle.chart_reader.proofs.chart_nodes.Onward.{from_is, choice_key, onward_is}

abbrev placed : StepTree → Placed
placed s = s.placed

as_many : (steps : List StepTree) (key : List ℕ) → length (map placed (filter (λ (s : StepTree). same s.origin key) steps)) ≡ beginning steps key
as_many steps key = length-map (filter (λ (s : StepTree). same s.origin key) steps) placed ∙ length-filter (λ (s : StepTree). same s.origin key) steps

-- as many transitions go on at a node as steps begin at its place
pub onward_counted : (chart : Chart) (n : Node) → beginning (steps_of chart) (node_key n) ≡ length (onward chart n)
onward_counted chart n = sym (ap length (onward_is chart n) ∙ as_many (steps_of chart) (node_key n))

pub initials_counted : (chart : Chart) (path : Path) → beginning (steps_of chart) (0 ∷ codes path) ≡ initials_at chart path
initials_counted chart path = onward_counted chart (a_state path)

-- ---- those without a condition

one_more : (p : Placed) (ps : List Placed) (n : ℕ) (b : Bool) → length ps ≡ n → length (cond b (p ∷ ps) ps) ≡ cond b 1 0 + n
one_more p ps n true e = omega (arith, e)
one_more p ps n false e = omega (arith, e)

plain_split : (s : StepTree) (steps : List StepTree) (n : ℕ) (here : Bool) → length (filter has_none (map placed steps)) ≡ n → length (filter has_none (map placed (cond here (s ∷ steps) steps))) ≡ cond (here && has_none s.placed) 1 0 + n
plain_split s steps n true e = one_more s.placed (filter has_none (map placed steps)) n (has_none s.placed) e
plain_split s steps n false e = omega (arith, e)

plain_many : (steps : List StepTree) (key : List ℕ) → length (filter has_none (map placed (filter (λ (s : StepTree). same s.origin key) steps))) ≡ beginning_plainly steps key
plain_many [] key = refl
plain_many (s ∷ steps) key =
    plain_split s (filter (λ (s : StepTree). same s.origin key) steps) (beginning_plainly steps key) (same s.origin key) (plain_many steps key)
    ∙ sym (sum_by-cons (λ (s : StepTree). cond (same s.origin key && has_none s.placed) 1 0) s steps)

pub defaults_counted : (chart : Chart) (path : Path) (c : Name) → beginning_plainly (steps_of chart) (3 ∷ codes (c ∷ path)) ≡ length (filter has_none (from (is_from_choice c) chart path))
defaults_counted chart path c =
    sym (ap (λ (ps : List Placed). length (filter has_none ps)) (from_is (is_from_choice c) path (3 ∷ codes (c ∷ path)) (choice_key c path) chart) ∙ plain_many (steps_of chart) (3 ∷ codes (c ∷ path)))
