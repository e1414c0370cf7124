-- How far a loop has come that writes entries or controllers in form 2.
use Rattle.std.proofs.Common.{Bool, add-one, ◌≡◌, ℕ, ◌+◌, ◌<◌, ◌≤◌, List, ◌∷◌, ◌++◌, length, get_or, drop, refl, sym, ◌∙◌, ap, Result}
use Rattle.std.proofs.lemmas.List.{at_drop_more, at_drop_all}
use Rattle.room_wiring.specs.declared.tables.Tables.{Tables}
use Rattle.room_outside.specs.line_text.Output.{Output, Put, Puts}
use Rattle.room_outside.proofs.line_text.OutputLemmas.{puts_second}
use Rattle.room_outside.proofs.line_text.Going.{Going, going_end}
use Rattle.journal.specs.declared.entry.Entry.{Entry}
use Rattle.tied_journals.specs.Text.{is_fetch, fetches_end, tied_entry_text, tied_entries_text, tied_controller_text, tied_controllers_text}

-- the entries that are left, the next one in front
pub going_entry : (t : Tables) (begun : Bool) (a b : Output) (whole : List ℕ) (es : List Entry) (i : ℕ) (e : Entry)
    → i < length es → e ≡ get_or es i e → Going a b whole (tied_entries_text t begun (drop i es))
    → Going a b whole (tied_entry_text t begun e ++ tied_entries_text t (is_fetch e) (drop (i + 1) es))
going_entry t begun a b whole es i e h is g =
    let next = at_drop_more (tied_entries_text t begun) es i e h in
    let more : tied_entries_text t begun (get_or es i e ∷ drop (i + 1) es) ≡ tied_entry_text t begun e ++ tied_entries_text t (is_fetch e) (drop (i + 1) es) =
    ap (λ (x : Entry). tied_entries_text t begun (x ∷ drop (i + 1) es)) (sym is) in
    record { done = g.done; put = g.put; split = g.split ∙ ap (λ l. g.done ++ l) (next ∙ more) }

-- no entry is left: the line of fetches is, if one stands open
pub going_entries_end : (t : Tables) (begun : Bool) (a b : Output) (whole : List ℕ) (es : List Entry) (i : ℕ)
    → length es ≤ i → Going a b whole (tied_entries_text t begun (drop i es)) → Going a b whole (fetches_end begun)
going_entries_end t begun a b whole es i h g =
    let over = at_drop_all (tied_entries_text t begun) es i h in
    record { done = g.done; put = g.put; split = g.split ∙ ap (λ l. g.done ++ l) over }

-- the controllers that are left, the next one in front
pub going_controller : (t : Tables) (a b : Output) (whole : List ℕ) (js : List (List Entry)) (i : ℕ) (x : List Entry)
    → i < length js → x ≡ get_or js i x → Going a b whole (tied_controllers_text t i (drop i js))
    → Going a b whole (tied_controller_text t i x ++ tied_controllers_text t (i + 1) (drop (i + 1) js))
going_controller t a b whole js i x h e g =
    let next = at_drop_more (tied_controllers_text t i) js i x h in
    let more : tied_controllers_text t i (get_or js i x ∷ drop (i + 1) js) ≡ tied_controller_text t i x ++ tied_controllers_text t (i + 1) (drop (i + 1) js) =
    rw (add-one, ← e) refl in
    record { done = g.done; put = g.put; split = g.split ∙ ap (λ l. g.done ++ l) (next ∙ more) }

-- no controller is left
pub going_controllers_end : (t : Tables) (a b : Output) (whole : List ℕ) (js : List (List Entry)) (i : ℕ)
    → length js ≤ i → Going a b whole (tied_controllers_text t i (drop i js)) → Put a b whole
going_controllers_end t a b whole js i h g =
    let over = at_drop_all (tied_controllers_text t i) js i h in
    going_end a b whole (record { done = g.done; put = g.put; split = g.split ∙ ap (λ l. g.done ++ l) over })

-- the last call of a text puts what is left
pub going_puts : {E : Type 0} (r : Result Unit E) (a b c : Output) (whole x : List ℕ) → Going a b whole x → Puts r b c x → Puts r a c whole
going_puts r a b c whole x g p = rw g.split (puts_second r a b c g.done x g.put p)
