-- Steps by their numbers, copies, and lines of states.
use Rattle.std.proofs.Common.{◌≡◌, ℕ, ◌+◌, ◌<◌, List, [], ◌∷◌, ◌++◌, length, get_or, take, map, refl, arith, sym, ap, ◌∙◌, subst, true, Option, Some, None, option_map, Bor, append_assoc}
use Rattle.std.specs.Prelude.{slice_get, position, option_and_then}
use Rattle.std.proofs.lemmas.List.{append-nil, map-append, take_more}
use Rattle.std.proofs.lemmas.Option.{slice_get-get_or}
use Rattle.name_tables.specs.name_numbers.Names.{same, is_among}
use Rattle.action_program.specs.Numbered.{ExprTree, expr_view}
use Rattle.chart_model.specs.chart_plan.Plan.{Trigger}
use Rattle.chart_model.specs.chart_plan.Same.{Each, none, more}
use Rattle.chart_model.specs.Chart.{Event, Name, Path}
use Rattle.chart_model.specs.Named.{outward}
use Rattle.chart_run.specs.chart_tables.Tables.{arrow_view, arrow_views, event_view, trigger_view}
use Rattle.chart_run.specs.declared.chart_tables.tables.Arrow.{Arrow}
use Rattle.chart_run.specs.declared.chart_tables.tables.Event.{Event as CodeEvent}
use Rattle.chart_run.specs.declared.chart_tables.tables.Trigger.{Trigger as CodeTrigger}
use Rattle.chart_reader.specs.chart_nodes.Steps.{StepTree}
use Rattle.chart_compile.specs.chart_places.Groups.{IsGrouped, picked}
use Rattle.chart_compile.proofs.chart_places.GroupLaws.{group_at, groups_many}
use Rattle.chart_compile.proofs.chart_numbers.Ordering.{number_among}
use Rattle.chart_compile.specs.chart_parts.Parts.{AddsArrow, IsArrow, IsState, from_key}
use Rattle.chart_compile.proofs.chart_rows.Listing.{each_more}

-- ---- groups

pub group_found : (keys : List (List ℕ)) (groups : List (List ℕ)) (key : List ℕ) (r : Option (Bor (List ℕ))) (g : Bor (List ℕ)) (group : List ℕ) (steps : List StepTree) → option_map (λ (g : Bor (List ℕ)). g.now) r ≡ option_and_then (λ i. slice_get groups i) (position (same key) keys) → r ≡ Some g → group ≡ g.now → IsGrouped keys groups steps → picked steps group ≡ from_key key steps
group_found keys groups key r g group steps e is own grouped = split (position (same key) keys) refl
  where
    there : option_and_then (λ i. slice_get groups i) (position (same key) keys) ≡ Some group
    there = sym e ∙ ap (option_map (λ (g : Bor (List ℕ)). g.now)) is ∙ ap Some (sym own)

    split : (o : Option ℕ) → position (same key) keys ≡ o → picked steps group ≡ from_key key steps
    split (Some k) p = group_at keys steps groups k group key grouped p (sym (ap (option_and_then (λ i. slice_get groups i)) p) ∙ there)
    split None p = let no : ◌≡◌ {A = Option (List ℕ)} None (Some group) = sym (ap (option_and_then (λ i. slice_get groups i)) p) ∙ there in absurd cc

-- a key among keys has a group
pub group_there : (keys groups : List (List ℕ)) (key : List ℕ) (r : Option (Bor (List ℕ))) (steps : List StepTree) → option_map (λ (g : Bor (List ℕ)). g.now) r ≡ option_and_then (λ i. slice_get groups i) (position (same key) keys) → r ≡ None → IsGrouped keys groups steps → is_among keys key ≡ true → ⊥
group_there keys groups key r steps e is grouped known =
    let found = number_among keys key known in
    let many : length groups ≡ length keys = groups_many keys groups steps grouped in
    let there : slice_get groups found.0 ≡ Some (get_or groups found.0 []) = slice_get-get_or groups found.0 [] (omega (arith, many, found.2)) in
    let no : ◌≡◌ {A = Option (List ℕ)} None (Some (get_or groups found.0 [])) =
    sym (ap (option_map (λ (g : Bor (List ℕ)). g.now)) is) ∙ e ∙ ap (option_and_then (λ i. slice_get groups i)) found.1 ∙ there in
    absurd cc

-- ---- arrows

-- the arrow of a step, or of none
pub arrow_more : (keys : List (List ℕ)) (old new : List Arrow) (a : Arrow) (o : Option StepTree) (s : StepTree) → o ≡ Some s → new ≡ old ++ a ∷ [] → IsArrow keys (arrow_view a) s → AddsArrow keys o old new
arrow_more keys old new a o s is e r =
    subst (λ (o : Option StepTree). AddsArrow keys o old new) (sym is) (λ ss before. each_more (IsArrow keys) arrow_view old new a ss (ss ++ s ∷ []) s e refl r before)

pub arrow_missing : (keys : List (List ℕ)) (old : List Arrow) (o : Option StepTree) → o ≡ None → AddsArrow keys o old old
arrow_missing keys old o is =
    subst (λ (o : Option StepTree). AddsArrow keys o old old) (sym is) (λ ss before. subst (λ (l : List StepTree). Each (IsArrow keys) (arrow_views old) l) (sym (append-nil ss)) before)

-- ---- copies

pub trigger_copied : (copy t : CodeTrigger) → copy.events.items ≡ t.events.items → option_map expr_view copy.guard ≡ option_map expr_view t.guard → trigger_view copy ≡ trigger_view t
trigger_copied copy t e f =
    ap (λ (l : List CodeEvent). let r : Trigger Event ExprTree = record { events = map event_view l; guard = option_map expr_view copy.guard } in r) e ∙ ap (λ (g : Option ExprTree). let r : Trigger Event ExprTree = record { events = map event_view t.events.items; guard = g } in r) f

pub copied_more : {A B : Type 0} (f : A → B) (old new : List A) (a x : A) (xs : List A) (i : ℕ) → i < length xs → x ≡ get_or xs i x → new ≡ old ++ a ∷ [] → f a ≡ f x → map f old ≡ map f (take i xs) → map f new ≡ map f (take (i + 1) xs)
copied_more f old new a x xs i h is e same before =
    ap (map f) e ∙ map-append f old (a ∷ []) ∙ ap (λ y. map f old ++ y ∷ []) same ∙ ap (λ l. l ++ f x ∷ []) before ∙ sym (ap (map f) (take_more xs i x h ∙ ap (λ y. take i xs ++ y ∷ []) (sym is)) ∙ map-append f (take i xs) (x ∷ []))

-- ---- lines of states

pub line_start : (states : List (List ℕ)) (own : ℕ) (up : List ℕ) (rest : Path) (n : Name) → up ≡ own ∷ [] → IsState states own (n ∷ rest) → (qs : List ℕ) → Each (IsState states) qs (outward rest) → Each (IsState states) (up ++ qs) (outward (n ∷ rest))
line_start states own up rest n e h qs f = subst (λ (l : List ℕ). Each (IsState states) (l ++ qs) (outward (n ∷ rest))) (sym e) (more h f)

pub line_more : (states : List (List ℕ)) (next : ℕ) (up new : List ℕ) (line : List Path) (rest others : Path) (n : Name) → rest ≡ n ∷ others → new ≡ up ++ next ∷ [] → IsState states next (n ∷ others) → ((qs : List ℕ) → Each (IsState states) qs (outward rest) → Each (IsState states) (up ++ qs) line)
    → (qs : List ℕ) → Each (IsState states) qs (outward others) → Each (IsState states) (new ++ qs) line
line_more states next up new line rest others n r e h before qs f =
    let all = before (next ∷ qs) (subst (λ (p : Path). Each (IsState states) (next ∷ qs) (outward p)) (sym r) (more h f)) in
    subst (λ (l : List ℕ). Each (IsState states) (l ++ qs) line) (sym e) (subst (λ (l : List ℕ). Each (IsState states) l line) (sym (append_assoc up (next ∷ []) qs)) all)

pub line_done : (states : List (List ℕ)) (up : List ℕ) (line : List Path) (rest : Path) → rest ≡ [] → ((qs : List ℕ) → Each (IsState states) qs (outward rest) → Each (IsState states) (up ++ qs) line) → Each (IsState states) up line
line_done states up line rest e before = subst (λ (l : List ℕ). Each (IsState states) l line) (append-nil up) (before [] (subst (λ (p : Path). Each (IsState states) [] (outward p)) (sym e) none))

pub nothing_left : (xs : Path) → length xs ≡ 0 → xs ≡ []
nothing_left [] e = refl
nothing_left (x ∷ xs) e = absurd (omega arith)
