-- How far a loop has come that writes notes or controllers.
use Rattle.std.proofs.Common.{Bool, Option, add-one, ◌≡◌, ℕ, ◌+◌, ◌<◌, ◌≤◌, List, ◌∷◌, ◌++◌, length, get_or, drop, refl, ◌∙◌, ap}
use Rattle.std.proofs.lemmas.List.{at_drop_more, at_drop_all}
use Rattle.room_kinds.specs.declared.note.Note.{Note}
use Rattle.room_kinds.specs.declared.numbers.SlotId.{SlotId}
use Rattle.room_wiring.specs.declared.tables.Tables.{Tables}
use Rattle.room_outside.specs.line_text.Output.{Output, Put}
use Rattle.room_outside.proofs.line_text.Going.{Going, going_end}
use Rattle.journal.specs.declared.entry.Entry.{Entry}
use Rattle.journal.specs.Lines.{note_line, note_lines, speaker_after}
use Rattle.journal.specs.Text.{controller_text, controllers_text}

-- the notes that are left, the next one in front
pub going_note : (t : Tables) (duty : Bool) (speaker : Option SlotId) (a b : Output) (whole : List ℕ) (ns : List Note) (i : ℕ) (d : Note)
    → i < length ns → Going a b whole (note_lines t duty speaker (drop i ns))
    → Going a b whole (note_line t speaker (get_or ns i d) ++ note_lines t duty (speaker_after duty speaker (get_or ns i d)) (drop (i + 1) ns))
going_note t duty speaker a b whole ns i d h g =
    let next = at_drop_more (note_lines t duty speaker) ns i d h in
    record { done = g.done; put = g.put; split = g.split ∙ ap (λ l. g.done ++ l) next }

-- no note is left
pub going_notes_end : (t : Tables) (duty : Bool) (speaker : Option SlotId) (a b : Output) (whole : List ℕ) (ns : List Note) (i : ℕ)
    → length ns ≤ i → Going a b whole (note_lines t duty speaker (drop i ns)) → Put a b whole
going_notes_end t duty speaker a b whole ns i h g =
    let over = at_drop_all (note_lines t duty speaker) ns i h in
    going_end a b whole (record { done = g.done; put = g.put; split = g.split ∙ ap (λ l. g.done ++ l) over })

-- the controllers that are left, the next one in front
pub going_controller : (t : Tables) (a b : Output) (whole : List ℕ) (js : List (List Entry)) (i : ℕ) (x : List Entry)
    → i < length js → x ≡ get_or js i x → Going a b whole (controllers_text t i (drop i js))
    → Going a b whole (controller_text t i x ++ controllers_text t (i + 1) (drop (i + 1) js))
going_controller t a b whole js i x h e g =
    let next = at_drop_more (controllers_text t i) js i x h in
    let more : controllers_text t i (get_or js i x ∷ drop (i + 1) js) ≡ controller_text t i x ++ controllers_text t (i + 1) (drop (i + 1) js) =
    rw (add-one, ← e) refl in
    record { done = g.done; put = g.put; split = g.split ∙ ap (λ l. g.done ++ l) (next ∙ more) }

-- no controller is left
pub going_controllers_end : (t : Tables) (a b : Output) (whole : List ℕ) (js : List (List Entry)) (i : ℕ)
    → length js ≤ i → Going a b whole (controllers_text t i (drop i js)) → Put a b whole
going_controllers_end t a b whole js i h g =
    let over = at_drop_all (controllers_text t i) js i h in
    going_end a b whole (record { done = g.done; put = g.put; split = g.split ∙ ap (λ l. g.done ++ l) over })
