-- What turns did, and notes, read back.
use Rattle.std.proofs.Common.{◌≡◌, ℕ, ◌<◌, true, List, [], ◌∷◌, ◌++◌, refl, ap, ◌∙◌, arith, append-nil, Option, Some, None}
use Rattle.std.specs.Prelude.{codes, decimal, ℤ}
use Rattle.std.specs.Fmt.{signed_decimal}
use Rattle.std.specs.List.{concat}
use Rattle.room_kinds.specs.declared.numbers.Incarnation.{Incarnation}
use Rattle.room_kinds.specs.declared.numbers.SlotId.{SlotId}
use Rattle.room_kinds.specs.declared.note.Note.{Note}
use Rattle.room_kinds.specs.declared.note.Note.TheVariants as notes
use Rattle.room_wiring.specs.declared.tables.Tables.{Tables}
use Rattle.journal.specs.declared.entry.Did.{Did}
use Rattle.journal.specs.declared.entry.Did.TheVariants as outcomes
use Rattle.room_wiring.specs.Slots.{path_text, port_text}
use Rattle.journal.specs.Names.{state_text}
use Rattle.journal.specs.Lines.{did_parts, note_line, speaking_port_text}
use Rattle.journal.specs.Fits.{FitsIncarnation, FitsStanding, FitsDid, FitsSpeaker, FitsNote}
use Rattle.journal_reader.specs.journal_lines.Numerals.{upto, past, number_in, signed_in}
use Rattle.journal_reader.specs.journal_lines.Fields.{incarnation_in, after_incarnation, state_in, speaking_port_in}
use Rattle.journal_reader.specs.journal_lines.Messages.{state_after, did_in, unbound_in, down_in, note_in}
use Rattle.journal_reader.proofs.journal_lines.Cutting.{lacks, upto_at, past_at}
use Rattle.journal_reader.specs.journal_texts.InRange.{InRangeIncarnation, InRangeStanding, InRangeDid, InRangeNote, IsSigned64}
use Rattle.journal_reader.proofs.journal_texts.NumbersBack.{lacks_kind, lacks-append, number_lacks, number_back, signed_back, signed_lacks}
use Rattle.journal_reader.proofs.journal_texts.NamesText.{word_byte, path_byte}
use Rattle.journal_reader.proofs.journal_texts.NamesBack.{path_known, port_known, state_known, state_byte}
use Rattle.journal_reader.proofs.journal_texts.FieldsBack.{Sized, incarnation_text, incarnation_then, incarnation_back, incarnation_end}

-- ---- actors and their states

-- `<incarnation> <state>`
abbrev pub standing_text : Tables → Incarnation → ℕ → List ℕ
standing_text t who state = incarnation_then t who (state_text t who.slot.0 state)

pub standing_back : (t : Tables) (who : Incarnation) (state : ℕ) → Sized t → FitsStanding t who state → InRangeStanding who state → (incarnation_in t (standing_text t who state) ≡ who) × (state_after t (standing_text t who state) ≡ state)
standing_back t who state sized fits range =
    let label = state_text t who.slot.0 state in
    let back = incarnation_back t who label sized fits.actor range.actor in
    let known = state_known t who.slot.0 state sized.named fits.stands range.state_fits in (
      back.0,
      ap (λ (w : Incarnation). state_in t w.slot.0 (after_incarnation (incarnation_then t who label))) back.0 ∙ ap (state_in t who.slot.0) back.1 ∙ known.back,
    )

incarnation_lacks : (t : Tables) (who : Incarnation) → Sized t → FitsIncarnation t who → InRangeIncarnation who → lacks 10 (incarnation_text t who) ≡ true
incarnation_lacks t who sized fits range =
    let known = path_known t who.slot.0 sized.named sized.slots fits.slot in
    lacks-append 10 (path_text t who.slot.0) (35 ∷ decimal who.generation.0) (lacks_kind path_byte 10 (path_text t who.slot.0) known.bytes refl) (number_lacks 10 who.generation.0 (omega (arith, range.generation)) refl)

then_lacks : (t : Tables) (who : Incarnation) (r : List ℕ) → Sized t → FitsIncarnation t who → InRangeIncarnation who → lacks 10 r ≡ true → lacks 10 (incarnation_then t who r) ≡ true
then_lacks t who r sized fits range h =
    let known = path_known t who.slot.0 sized.named sized.slots fits.slot in
    lacks-append 10 (path_text t who.slot.0) (35 ∷ (decimal who.generation.0 ++ 32 ∷ r)) (lacks_kind path_byte 10 (path_text t who.slot.0) known.bytes refl)
    (lacks-append 10 (decimal who.generation.0) (32 ∷ r) (number_lacks 10 who.generation.0 (omega (arith, range.generation)) refl) h)

pub standing_lacks : (t : Tables) (who : Incarnation) (state : ℕ) → Sized t → FitsStanding t who state → InRangeStanding who state → lacks 10 (standing_text t who state) ≡ true
standing_lacks t who state sized fits range =
    let known = state_known t who.slot.0 state sized.named fits.stands range.state_fits in
    then_lacks t who (state_text t who.slot.0 state) sized fits.actor range.actor (lacks_kind state_byte 10 (state_text t who.slot.0 state) known.bytes refl)

-- ---- what a turn did

abbrev pub did_text : Tables → Did → List ℕ
did_text t outcomes.Duty = codes "duty"
did_text t (outcomes.Handled who state) = codes "handled " ++ standing_text t who state
did_text t (outcomes.Deferred who state) = codes "deferred " ++ standing_text t who state
did_text t (outcomes.Unhandled who state) = codes "unhandled " ++ standing_text t who state
did_text t (outcomes.Stale target) = codes "stale " ++ incarnation_text t target
did_text t (outcomes.Empty target) = codes "empty " ++ incarnation_text t target

-- the texts of an actor and its state, and of an actor, with nothing behind
pub standing_shape : (t : Tables) (who : Incarnation) (state : ℕ) → path_text t who.slot.0 ++ 35 ∷ (decimal who.generation.0 ++ 32 ∷ (state_text t who.slot.0 state ++ [])) ≡ standing_text t who state
standing_shape t who state = ap (λ (x : List ℕ). path_text t who.slot.0 ++ 35 ∷ (decimal who.generation.0 ++ 32 ∷ x)) (append-nil (state_text t who.slot.0 state))

incarnation_shape : (t : Tables) (who : Incarnation) → path_text t who.slot.0 ++ 35 ∷ (decimal who.generation.0 ++ []) ≡ incarnation_text t who
incarnation_shape t who = ap (λ (x : List ℕ). path_text t who.slot.0 ++ 35 ∷ x) (append-nil (decimal who.generation.0))

pub did_shape : (t : Tables) (did : Did) → concat (did_parts t did) ≡ 32 ∷ did_text t did
did_shape t outcomes.Duty = refl
did_shape t (outcomes.Handled who state) = ap (λ (x : List ℕ). codes " handled " ++ x) (standing_shape t who state)
did_shape t (outcomes.Deferred who state) = ap (λ (x : List ℕ). codes " deferred " ++ x) (standing_shape t who state)
did_shape t (outcomes.Unhandled who state) = ap (λ (x : List ℕ). codes " unhandled " ++ x) (standing_shape t who state)
did_shape t (outcomes.Stale target) = ap (λ (x : List ℕ). codes " stale " ++ x) (incarnation_shape t target)
did_shape t (outcomes.Empty target) = ap (λ (x : List ℕ). codes " empty " ++ x) (incarnation_shape t target)

two : {A : Type 0} (f : Incarnation → ℕ → A) (w v : Incarnation) (s r : ℕ) → w ≡ v → s ≡ r → f w s ≡ f v r
two f w v s r e h = ap (λ (x : Incarnation). f x s) e ∙ ap (f v) h

pub did_back : (t : Tables) (did : Did) → Sized t → FitsDid t did → InRangeDid did → did_in t (did_text t did) ≡ did
unfolding did_in
did_back t outcomes.Duty sized fits range = refl
did_back t (outcomes.Handled who state) sized fits range = let b = standing_back t who state sized fits range in two outcomes.Handled _ who _ state b.0 b.1
did_back t (outcomes.Deferred who state) sized fits range = let b = standing_back t who state sized fits range in two outcomes.Deferred _ who _ state b.0 b.1
did_back t (outcomes.Unhandled who state) sized fits range = let b = standing_back t who state sized fits range in two outcomes.Unhandled _ who _ state b.0 b.1
did_back t (outcomes.Stale target) sized fits range = ap outcomes.Stale (incarnation_end t target sized fits range)
did_back t (outcomes.Empty target) sized fits range = ap outcomes.Empty (incarnation_end t target sized fits range)

pub did_lacks : (t : Tables) (did : Did) → Sized t → FitsDid t did → InRangeDid did → lacks 10 (did_text t did) ≡ true
did_lacks t outcomes.Duty sized fits range = refl
did_lacks t (outcomes.Handled who state) sized fits range = standing_lacks t who state sized fits range
did_lacks t (outcomes.Deferred who state) sized fits range = standing_lacks t who state sized fits range
did_lacks t (outcomes.Unhandled who state) sized fits range = standing_lacks t who state sized fits range
did_lacks t (outcomes.Stale target) sized fits range = incarnation_lacks t target sized fits range
did_lacks t (outcomes.Empty target) sized fits range = incarnation_lacks t target sized fits range

-- ---- notes

-- `<port>[<place>]`
abbrev unbound_text : Tables → Option SlotId → ℕ → ℤ → List ℕ
unbound_text t speaker port place = speaking_port_text t speaker port ++ 91 ∷ (signed_decimal place ++ 93 ∷ [])

abbrev pub note_text : Tables → Option SlotId → Note → List ℕ
note_text t speaker notes.Zero = codes "zero"
note_text t speaker notes.NoMessage = codes "nomessage"
note_text t speaker (notes.Unbound port place) = codes "unbound " ++ unbound_text t speaker port place
note_text t speaker (notes.Recall count) = codes "recall " ++ decimal count
note_text t speaker (notes.Up who state) = codes "up " ++ standing_text t who state
note_text t speaker (notes.Down who lost) = codes "down " ++ incarnation_then t who (decimal lost)

pub note_shape : (t : Tables) (speaker : Option SlotId) (n : Note) → note_line t speaker n ≡ (codes "note " ++ note_text t speaker n) ++ 10 ∷ []
note_shape t speaker notes.Zero = refl
note_shape t speaker notes.NoMessage = refl
note_shape t speaker (notes.Unbound port place) = refl
note_shape t speaker (notes.Recall count) = ap (λ (x : List ℕ). (codes "note recall " ++ x) ++ 10 ∷ []) (append-nil (decimal count))
note_shape t speaker (notes.Up who state) = ap (λ (x : List ℕ). (codes "note up " ++ x) ++ 10 ∷ []) (standing_shape t who state)
note_shape t speaker (notes.Down who lost) = ap (λ (x : List ℕ). (codes "note down " ++ (path_text t who.slot.0 ++ 35 ∷ (decimal who.generation.0 ++ 32 ∷ x))) ++ 10 ∷ []) (append-nil (decimal lost))

unbound_back : (t : Tables) (s : SlotId) (port : ℕ) (place : ℤ) → Sized t → FitsSpeaker t (Some s) port → port < 65536 → IsSigned64 place → unbound_in t (Some s) (unbound_text t (Some s) port place) ≡ notes.Unbound port place
unfolding speaking_port_in
unbound_back t s port place sized fits small signed =
    let name = port_text t s.0 port in
    let known = port_known t s.0 port sized.named fits.1 small in
    let tail : List ℕ = signed_decimal place ++ 93 ∷ [] in
    let no_open : lacks 91 name ≡ true = lacks_kind word_byte 91 name known.bytes refl in
    let no_close : lacks 93 (signed_decimal place) ≡ true = signed_lacks 93 place signed refl refl in
    ap (λ (w : List ℕ). notes.Unbound (speaking_port_in t (Some s) w) (signed_in (upto 93 (past 91 (name ++ 91 ∷ tail))))) (upto_at 91 name tail no_open)
    ∙ ap (λ (p : ℕ). notes.Unbound p (signed_in (upto 93 (past 91 (name ++ 91 ∷ tail))))) known.back
    ∙ ap (λ (r : List ℕ). notes.Unbound port (signed_in (upto 93 r))) (past_at 91 name tail no_open)
    ∙ ap (λ (w : List ℕ). notes.Unbound port (signed_in w)) (upto_at 93 (signed_decimal place) [] no_close) ∙ ap (notes.Unbound port) (signed_back place signed)

down_back : (t : Tables) (who : Incarnation) (lost : ℕ) → Sized t → FitsIncarnation t who → InRangeIncarnation who → lost < 18446744073709551616 → down_in t (incarnation_then t who (decimal lost)) ≡ notes.Down who lost
down_back t who lost sized fits range small =
    let back = incarnation_back t who (decimal lost) sized fits range in
    two notes.Down _ who _ lost back.0 (ap number_in back.1 ∙ number_back lost small)

pub note_back : (t : Tables) (speaker : Option SlotId) (n : Note) → Sized t → FitsNote t speaker n → InRangeNote n → note_in t speaker (note_text t speaker n) ≡ n
unfolding note_in
note_back t speaker notes.Zero sized fits range = refl
note_back t speaker notes.NoMessage sized fits range = refl
note_back t None (notes.Unbound port place) sized fits range = absurd fits
note_back t (Some s) (notes.Unbound port place) sized fits range = unbound_back t s port place sized fits range.0 range.1
note_back t speaker (notes.Recall count) sized fits range = ap notes.Recall (number_back count range)
note_back t speaker (notes.Up who state) sized fits range = let b = standing_back t who state sized fits range in two notes.Up _ who _ state b.0 b.1
note_back t speaker (notes.Down who lost) sized fits range = down_back t who lost sized fits range.0 range.1

pub note_lacks : (t : Tables) (speaker : Option SlotId) (n : Note) → Sized t → FitsNote t speaker n → InRangeNote n → lacks 10 (note_text t speaker n) ≡ true
note_lacks t speaker notes.Zero sized fits range = refl
note_lacks t speaker notes.NoMessage sized fits range = refl
note_lacks t None (notes.Unbound port place) sized fits range = absurd fits
note_lacks t (Some s) (notes.Unbound port place) sized fits range =
    let known = port_known t s.0 port sized.named fits.1 range.0 in
    lacks-append 10 (port_text t s.0 port) (91 ∷ (signed_decimal place ++ 93 ∷ [])) (lacks_kind word_byte 10 (port_text t s.0 port) known.bytes refl)
    (lacks-append 10 (signed_decimal place) (93 ∷ []) (signed_lacks 10 place range.1 refl refl) refl)
note_lacks t speaker (notes.Recall count) sized fits range = number_lacks 10 count range refl
note_lacks t speaker (notes.Up who state) sized fits range = standing_lacks t who state sized fits range
note_lacks t speaker (notes.Down who lost) sized fits range = then_lacks t who (decimal lost) sized fits range.0 (number_lacks 10 lost range.1 refl)
