-- How far a loop has come that writes attributes or controllers.
use Rattle.std.proofs.Common.{add-one, ◌≡◌, ℕ, ℤ, ◌+◌, ◌<◌, ◌≤◌, List, ◌∷◌, ◌++◌, length, get_or, take, drop, refl, ◌∙◌, ap}
use Rattle.std.proofs.lemmas.List.{at_drop_more, at_drop_all}
use Rattle.room_wiring.specs.declared.tables.Tables.{Tables}
use Rattle.room_wiring.specs.declared.names.AttrNames.{AttrNames}
use Rattle.room_outside.specs.line_text.Output.{Output, Put}
use Rattle.room_outside.proofs.line_text.Going.{Going, going_end}
use Rattle.room_show.specs.declared.snapshot.ControllerView.{ControllerView}
use Rattle.room_show.specs.Lines.{attribute_line}
use Rattle.room_show.specs.Text.{attribute_lines, controller_text, controllers_text}

-- the attributes that are left over the numbers that are left
abbrev pub lines_over : List ℤ → List AttrNames → List ℕ
lines_over numbers xs = attribute_lines xs numbers

-- the attributes that are left, the next one in front
pub going_attribute : (numbers : List ℤ) (a b : Output) (whole : List ℕ) (xs : List AttrNames) (i : ℕ) (x : AttrNames)
    → i < length xs → x ≡ get_or xs i x → Going a b whole (attribute_lines (drop i xs) numbers)
    → Going a b whole (attribute_line x.name (take x.numbers numbers) ++ attribute_lines (drop (i + 1) xs) (drop x.numbers numbers))
going_attribute numbers a b whole xs i x h e g =
    let next = at_drop_more (lines_over numbers) xs i x h in
    let more : attribute_lines (get_or xs i x ∷ drop (i + 1) xs) numbers
    ≡ attribute_line x.name (take x.numbers numbers) ++ attribute_lines (drop (i + 1) xs) (drop x.numbers numbers) =
    rw (← e) refl in
    record { done = g.done; put = g.put; split = g.split ∙ ap (λ l. g.done ++ l) (next ∙ more) }

-- no attribute is left
pub going_attributes_end : (numbers : List ℤ) (a b : Output) (whole : List ℕ) (xs : List AttrNames) (i : ℕ)
    → length xs ≤ i → Going a b whole (attribute_lines (drop i xs) numbers) → Put a b whole
going_attributes_end numbers a b whole xs i h g =
    let over = at_drop_all (lines_over numbers) xs i h in
    going_end a b whole (record { done = g.done; put = g.put; split = g.split ∙ ap (λ l. g.done ++ l) over })

-- the controllers that are left, the next one in front
pub going_controller : (t : Tables) (a b : Output) (whole : List ℕ) (vs : List ControllerView) (i : ℕ) (x : ControllerView)
    → i < length vs → x ≡ get_or vs i x → Going a b whole (controllers_text t i (drop i vs))
    → Going a b whole (controller_text t i x ++ controllers_text t (i + 1) (drop (i + 1) vs))
going_controller t a b whole vs i x h e g =
    let next = at_drop_more (controllers_text t i) vs i x h in
    let more : controllers_text t i (get_or vs i x ∷ drop (i + 1) vs) ≡ controller_text t i x ++ controllers_text t (i + 1) (drop (i + 1) vs) =
    rw (add-one, ← e) refl in
    record { done = g.done; put = g.put; split = g.split ∙ ap (λ l. g.done ++ l) (next ∙ more) }

-- no controller is left
pub going_controllers_end : (t : Tables) (a b : Output) (whole : List ℕ) (vs : List ControllerView) (i : ℕ)
    → length vs ≤ i → Going a b whole (controllers_text t i (drop i vs)) → Put a b whole
going_controllers_end t a b whole vs i h g =
    let over = at_drop_all (controllers_text t i) vs i h in
    going_end a b whole (record { done = g.done; put = g.put; split = g.split ∙ ap (λ l. g.done ++ l) over })
