-- What the code makes of nodes.
use Rattle.std.proofs.Common.{◌≡◌, ℕ, ◌+◌, ◌<◌, ◌≤◌, Bool, true, false, cond, List, [], ◌∷◌, ◌++◌, length, get_or, take, drop, refl, sym, ap, ◌∙◌, subst, arith, Option, Some, None, option_map}
use Rattle.std.specs.Prelude.{slice_get, nat_lt, ◌&&◌}
use Rattle.std.specs.List.{filter, cons_option, list_all}
use Rattle.std.specs.Option.{is_some}
use Rattle.std.proofs.lemmas.List.{append-nil, drop_more, take-append-drop}
use Rattle.std.proofs.lemmas.List.Elements.{filter-append, filter_map-append}
use Rattle.chart_model.specs.chart_plan.Plan.{Simple, Border, Choice, Entry, Exit}
use Rattle.chart_model.specs.chart_plan.Same.{Each, SameKind, simple, border, choice, entry, exit}
use Rattle.chart_model.specs.Chart.{Name, Path}
use Rattle.chart_model.specs.Named.{a_choice, a_state, an_entry, an_exit}
use Rattle.chart_run.specs.chart_tables.Tables.{ArrowTree, arrow_view, arrow_views}
use Rattle.chart_run.specs.declared.chart_tables.tables.Arrow.{Arrow}
use Rattle.chart_reader.specs.chart_nodes.Steps.{StepTree}
use Rattle.chart_compile.specs.chart_places.Groups.{picked}
use Rattle.chart_compile.specs.chart_parts.Parts.{IsArrow, IsState}
use Rattle.chart_compile.specs.chart_parts.Nodes.{AddsBranch, IsFirst, by_first, has_condition, has_none, is_lower, kind_by}
use Rattle.chart_compile.proofs.chart_rows.Listing.{each_more, failed_more, passed_more, picked_next, taken_all}

-- ---- the first of some steps

-- the step with a number, or none
pub at_none : (keys : List (List ℕ)) (o : Option StepTree) → o ≡ None → IsFirst keys None (cons_option o [])
at_none keys o e = subst (λ (o : Option StepTree). IsFirst keys None (cons_option o [])) (sym e) tt

pub at_some : (keys : List (List ℕ)) (o : Option StepTree) (s : StepTree) (a : Arrow) → o ≡ Some s → IsArrow keys (arrow_view a) s → IsFirst keys (Some a) (cons_option o [])
at_some keys o s a e h = subst (λ (o : Option StepTree). IsFirst keys (Some a) (cons_option o [])) (sym e) h

-- the same where it is without a condition
pub default_missing : (keys : List (List ℕ)) (o : Option StepTree) → o ≡ None → IsFirst keys None (filter has_none (cons_option o []))
default_missing keys o e = subst (λ (o : Option StepTree). IsFirst keys None (filter has_none (cons_option o []))) (sym e) tt

pub default_other : (keys : List (List ℕ)) (o : Option StepTree) (s : StepTree) → o ≡ Some s → has_none s ≡ false → IsFirst keys None (filter has_none (cons_option o []))
default_other keys o s e t =
    subst (λ (o : Option StepTree). IsFirst keys None (filter has_none (cons_option o []))) (sym e) (subst (λ b. IsFirst keys None (cond b (s ∷ []) [])) (sym t) tt)

pub default_here : (keys : List (List ℕ)) (o : Option StepTree) (s : StepTree) (a : Arrow) → o ≡ Some s → has_none s ≡ true → IsArrow keys (arrow_view a) s → IsFirst keys (Some a) (filter has_none (cons_option o []))
default_here keys o s a e t h =
    subst (λ (o : Option StepTree). IsFirst keys (Some a) (filter has_none (cons_option o []))) (sym e) (subst (λ b. IsFirst keys (Some a) (cond b (s ∷ []) [])) (sym t) h)

-- there is none, or it stays the first
none_first : (keys : List (List ℕ)) (o : Option Arrow) (xs : List StepTree) → is_some o ≡ false → IsFirst keys o xs → xs ≡ []
none_first keys (Some a) xs e h = absurd cc
none_first keys None [] e h = refl
none_first keys None (x ∷ xs) e h = absurd h

first_stays : (keys : List (List ℕ)) (o : Option Arrow) (xs ys : List StepTree) → is_some o ≡ true → IsFirst keys o xs → IsFirst keys o (xs ++ ys)
first_stays keys None xs ys e h = absurd cc
first_stays keys (Some a) [] ys e h = absurd h
first_stays keys (Some a) (x ∷ xs) ys e h = h

pub some_first : (keys : List (List ℕ)) (o : Option Arrow) (xs : List StepTree) → IsFirst keys o xs → o ≡ None → 0 < length xs → ⊥
some_first keys (Some a) xs h e l = absurd cc
some_first keys None [] h e l = absurd (omega arith)
some_first keys None (x ∷ xs) h e l = absurd h

cons_split : (o : Option StepTree) (xs : List StepTree) → cons_option o xs ≡ cons_option o [] ++ xs
cons_split None xs = refl
cons_split (Some x) xs = refl

picked_around : (steps : List StepTree) (group : List ℕ) (i : ℕ) → i < length group
    → picked steps group ≡ picked steps (take i group) ++ (cons_option (slice_get steps (get_or group i 0)) [] ++ picked steps (drop (i + 1) group))
picked_around steps group i h =
    let number = get_or group i 0 in
    let rest = drop (i + 1) group in
    let cut : group ≡ take i group ++ number ∷ rest = sym (take-append-drop i group) ∙ ap (λ l. take i group ++ l) (drop_more group i 0 h) in
    ap (picked steps) cut ∙ filter_map-append (λ j. slice_get steps j) (take i group) (number ∷ rest) ∙ ap (λ l. picked steps (take i group) ++ l) (cons_split (slice_get steps number) (picked steps rest))

-- no step so far, or the first one
pub group_none : (keys : List (List ℕ)) (steps : List StepTree) (group : List ℕ) (i : ℕ) (o : Option Arrow) → i < length group → picked steps (take i group) ≡ [] → is_some o ≡ false → IsFirst keys o (cons_option (slice_get steps (get_or group i 0)) []) → picked steps (take (i + 1) group) ≡ []
group_none keys steps group i o h e t n =
    picked_next steps group i h ∙ ap (λ l. l ++ cons_option (slice_get steps (get_or group i 0)) []) e ∙ none_first keys o (cons_option (slice_get steps (get_or group i 0)) []) t n

pub group_first : (keys : List (List ℕ)) (steps : List StepTree) (group : List ℕ) (i : ℕ) (o : Option Arrow) → i < length group → picked steps (take i group) ≡ [] → is_some o ≡ true → IsFirst keys o (cons_option (slice_get steps (get_or group i 0)) []) → IsFirst keys o (picked steps group)
group_first keys steps group i o h e t f =
    let here = cons_option (slice_get steps (get_or group i 0)) [] in
    let after = picked steps (drop (i + 1) group) in
    subst (λ (l : List StepTree). IsFirst keys o l) (sym (picked_around steps group i h ∙ ap (λ l. l ++ (here ++ after)) e)) (first_stays keys o here after t f)

pub group_empty : (keys : List (List ℕ)) (steps : List StepTree) (group : List ℕ) (i : ℕ) → length group ≤ i → picked steps (take i group) ≡ [] → IsFirst keys None (picked steps group)
group_empty keys steps group i h e = subst (λ l. IsFirst keys None l) (sym (ap (picked steps) (sym (taken_all group i h)) ∙ e)) tt

-- the same of those without a condition
pub default_later : (keys : List (List ℕ)) (steps : List StepTree) (group : List ℕ) (i : ℕ) (o : Option Arrow) → i < length group → filter has_none (picked steps (take i group)) ≡ [] → is_some o ≡ false → IsFirst keys o (filter has_none (cons_option (slice_get steps (get_or group i 0)) []))
    → filter has_none (picked steps (take (i + 1) group)) ≡ []
default_later keys steps group i o h e t n =
    let here = cons_option (slice_get steps (get_or group i 0)) [] in
    ap (filter has_none) (picked_next steps group i h) ∙ filter-append has_none (picked steps (take i group)) here ∙ ap (λ l. l ++ filter has_none here) e ∙ none_first keys o (filter has_none here) t n

pub default_first : (keys : List (List ℕ)) (steps : List StepTree) (group : List ℕ) (i : ℕ) (o : Option Arrow) → i < length group → filter has_none (picked steps (take i group)) ≡ [] → is_some o ≡ true → IsFirst keys o (filter has_none (cons_option (slice_get steps (get_or group i 0)) []))
    → IsFirst keys o (filter has_none (picked steps group))
default_first keys steps group i o h e t f =
    let here = cons_option (slice_get steps (get_or group i 0)) [] in
    let after = picked steps (drop (i + 1) group) in
    let cut : filter has_none (picked steps group) ≡ filter has_none here ++ filter has_none after =
    ap (filter has_none) (picked_around steps group i h) ∙ filter-append has_none (picked steps (take i group)) (here ++ after)
    ∙ ap (λ l. l ++ filter has_none (here ++ after)) e ∙ filter-append has_none here after in
    subst (λ (l : List StepTree). IsFirst keys o l) (sym cut) (first_stays keys o (filter has_none here) (filter has_none after) t f)

-- ---- nodes

pub border_some : (keys : List (List ℕ)) (a : Arrow) (ss : List StepTree) (state : ℕ) → IsFirst keys (Some a) ss → (states : List (List ℕ)) (path : Path) → IsState states state path → SameKind (IsState states) (IsArrow keys) (Border state (arrow_view a)) (kind_by (a_state path) ss)
border_some keys a [] state h states path e = absurd h
border_some keys a (s ∷ ss) state h states path e = border e h

pub border_none : (keys : List (List ℕ)) (ss : List StepTree) (state : ℕ) → IsFirst keys None ss → (states : List (List ℕ)) (path : Path) → IsState states state path → SameKind (IsState states) (IsArrow keys) (Simple state) (kind_by (a_state path) ss)
border_none keys [] state h states path e = simple e
border_none keys (s ∷ ss) state h states path e = absurd h

pub entry_some : (keys : List (List ℕ)) (a : Arrow) (ss : List StepTree) (state : ℕ) → IsFirst keys (Some a) ss → (states : List (List ℕ)) (path : Path) (e : Name) → IsState states state path → SameKind (IsState states) (IsArrow keys) (Entry state (arrow_view a)) (kind_by (an_entry path e) ss)
entry_some keys a [] state h states path e i = absurd h
entry_some keys a (s ∷ ss) state h states path e i = entry i h

pub exit_some : (keys : List (List ℕ)) (a : Arrow) (ss : List StepTree) (state : ℕ) → IsFirst keys (Some a) ss → (states : List (List ℕ)) (s x : Name) (owner : Path) → IsState states state (s ∷ owner) → SameKind (IsState states) (IsArrow keys) (Exit state (arrow_view a)) (kind_by (an_exit (s ∷ owner) x) ss)
exit_some keys a [] state h states s x owner i = absurd h
exit_some keys a (t ∷ ss) state h states s x owner i = exit i h

pub entry_none : (keys : List (List ℕ)) (ss : List StepTree) (state : ℕ) → IsFirst keys None ss → (states : List (List ℕ)) (path : Path) (e : Name) → IsState states state path → SameKind (IsState states) (IsArrow keys) (Simple state) (kind_by (an_entry path e) ss)
entry_none keys [] state h states path e i = simple i
entry_none keys (s ∷ ss) state h states path e i = absurd h

pub exit_none : (keys : List (List ℕ)) (ss : List StepTree) (state : ℕ) → IsFirst keys None ss → (states : List (List ℕ)) (s x : Name) (owner : Path) → IsState states state (s ∷ owner) → SameKind (IsState states) (IsArrow keys) (Simple state) (kind_by (an_exit (s ∷ owner) x) ss)
exit_none keys [] state h states s x owner i = simple i
exit_none keys (t ∷ ss) state h states s x owner i = absurd h

choice_of : (keys : List (List ℕ)) (branches : List ArrowTree) (a : Arrow) (bs ds : List StepTree) (states : List (List ℕ)) (graph : Path) → Each (IsArrow keys) branches bs → IsFirst keys (Some a) ds → SameKind (IsState states) (IsArrow keys) (Choice branches (arrow_view a)) (by_first graph (λ d. Choice bs d) ds)
choice_of keys branches a bs [] states graph e h = absurd h
choice_of keys branches a bs (d ∷ ds) states graph e h = choice e h

pub choice_some : (keys : List (List ℕ)) (branches : List ArrowTree) (a : Arrow) (ss : List StepTree) → Each (IsArrow keys) branches (filter has_condition ss) → IsFirst keys (Some a) (filter has_none ss) → (states : List (List ℕ)) (graph : Path) (c : Name) → SameKind (IsState states) (IsArrow keys) (Choice branches (arrow_view a)) (kind_by (a_choice graph c) ss)
choice_some keys branches a ss e h states graph c = choice_of keys branches a (filter has_condition ss) (filter has_none ss) states graph e h

pub some_view : {A B : Type 0} (f : A → B) (o : Option A) → is_some (option_map f o) ≡ is_some o
some_view f (Some x) = refl
some_view f None = refl

-- ---- the first that passes a test

pub first_passed : (keys : List (List ℕ)) (p : StepTree → Bool) (before after : List StepTree) (s : StepTree) (a : Arrow) → filter p before ≡ [] → p s ≡ true → IsArrow keys (arrow_view a) s → IsFirst keys (Some a) (filter p (before ++ s ∷ after))
first_passed keys p before after s a e t h =
    subst (λ l. IsFirst keys (Some a) l) (sym (filter-append p before (s ∷ after))) (subst (λ l. IsFirst keys (Some a) (l ++ filter p (s ∷ after))) (sym e) (subst (λ b. IsFirst keys (Some a) (cond b (s ∷ filter p after) (filter p after))) (sym t) h))

pub default_none : (keys : List (List ℕ)) (steps : List StepTree) (group : List ℕ) (i : ℕ) → length group ≤ i → filter has_none (picked steps (take i group)) ≡ [] → IsFirst keys None (filter has_none (picked steps group))
default_none keys steps group i h e = subst (λ l. IsFirst keys None l) (sym (ap (λ (g : List ℕ). filter has_none (picked steps g)) (sym (taken_all group i h)) ∙ e)) tt

-- a branch with a condition, one without, or none
pub branch_with : (keys : List (List ℕ)) (old new : List Arrow) (a : Arrow) (o : Option StepTree) (s : StepTree) → o ≡ Some s → new ≡ old ++ a ∷ [] → has_condition s ≡ true → IsArrow keys (arrow_view a) s → AddsBranch keys o old new
branch_with keys old new a o s is e t r =
    subst (λ (o : Option StepTree). AddsBranch keys o old new) (sym is)
    (λ ss before. each_more (IsArrow keys) arrow_view old new a (filter has_condition ss) (filter has_condition (ss ++ s ∷ [])) s e (passed_more has_condition ss (ss ++ s ∷ []) s refl t) r before)

pub branch_without : (keys : List (List ℕ)) (old : List Arrow) (o : Option StepTree) (s : StepTree) → o ≡ Some s → has_condition s ≡ false → AddsBranch keys o old old
branch_without keys old o s is t =
    subst (λ (o : Option StepTree). AddsBranch keys o old old) (sym is)
    (λ ss before. subst (λ l. Each (IsArrow keys) (arrow_views old) l) (sym (failed_more has_condition ss (ss ++ s ∷ []) s refl t)) before)

pub branch_missing : (keys : List (List ℕ)) (old : List Arrow) (o : Option StepTree) → o ≡ None → AddsBranch keys o old old
branch_missing keys old o is =
    subst (λ (o : Option StepTree). AddsBranch keys o old old) (sym is)
    (λ ss before. subst (λ (l : List StepTree). Each (IsArrow keys) (arrow_views old) (filter has_condition l)) (sym (append-nil ss)) before)

pub all_views : (n : ℕ) (xs : List Arrow) → list_all (λ (a : Arrow). nat_lt a.target n) xs ≡ list_all (is_lower n) (arrow_views xs)
all_views n [] = refl
all_views n (x ∷ xs) = ap (λ b. nat_lt x.target n && b) (all_views n xs)
