-- Duties by whether their message is of the form of its kind.
use Rattle.std.proofs.Common.{◌≡◌, ◌≢◌, ℕ, suc, ◌<◌, ◌==◌, ◌&&◌, Bool, true, false, not, cond, List, [], ◌∷◌, length, ℤ, pos, negsuc, Option, Some, None, refl, ap, arith, inl, inr}
use Rattle.std.specs.Option.{option_map_or}
use Rattle.std.proofs.lemmas.Bool.{and_parts, cases_lt, ne_eqb}
use Rattle.std.proofs.lemmas.Bool.Decides.{nat_tests}
use Rattle.std.proofs.lemmas.Option.{slice_get_within}
use Rattle.room_kinds.specs.declared.message.Msg.{Msg}
use Rattle.room_kinds.specs.declared.numbers.Incarnation.{Incarnation}
use Rattle.room_kinds.specs.declared.numbers.Endpoint.{Endpoint}
use Rattle.room_kinds.specs.declared.system.SysKind.{SysKind}
use Rattle.room_kinds.specs.declared.system.SysKind.TheVariants as kinds
use Rattle.room_wiring.specs.declared.tables.Tables.{Tables}
use Rattle.room_wiring.specs.declared.slot.Slot.{Slot}
use Rattle.room_wiring.specs.Slots.{slot_at}
use Rattle.room_wiring.specs.Places.{is_told}
use Rattle.room_wiring.specs.Consistent.{IsConsistent}
use Rattle.actor_duties.specs.Words.{is_frame, is_endpoint, is_own, is_optional, is_imported, is_home, is_part_of, is_imported_kind}
use Rattle.actor_duties.specs.State.{Frame}
use Rattle.actor_duties.specs.Lives.{destroy_done, announce, has_part}
use Rattle.actor_duties.specs.Frame.{FrameDone, nothing, only_sends, with_told, plainly, with_number, of_natural, frame_duty_of, is_request, is_forth, is_announced, is_part_told}
use Rattle.frame_service.proofs.frame_imports.frame_forms.Told.{told_past, optional_there}
use Rattle.frame_service.specs.Forms.{may_go, has_form, first_number}

not_empty : (n : ℕ) → (suc n == 0) ≡ false
not_empty n = grind (arith, nat_tests)

not_one : (n : ℕ) → (suc (suc n) == 1) ≡ false
not_one n = grind (arith, nat_tests)

unlike : (a b : Bool) → a ≡ false → (a && b) ≡ true → ⊥
unlike true b e h = absurd cc
unlike false b e h = absurd cc

-- a duty without numbers
pub plain_fit : (f : Frame) (fits : Bool) (ns : List ℤ) (done : FrameDone) → ((length ns == 0) && fits) ≡ true → plainly f fits ns done ≡ done
plain_fit f fits [] done h = ap (λ b. cond b done (nothing f)) h
plain_fit f fits (n ∷ ns) done h = absurd (unlike (suc (length ns) == 0) fits (not_empty (length ns)) h)

plain_unfit : (f : Frame) (fits : Bool) (ns : List ℤ) (done : FrameDone) → ((length ns == 0) && fits) ≡ false → plainly f fits ns done ≡ nothing f
plain_unfit f fits [] done h = ap (λ b. cond b done (nothing f)) h
plain_unfit f fits (n ∷ ns) done h = refl

-- a duty with one number
pub number_fit : (f : Frame) (fits : Bool) (ns : List ℤ) (done : ℤ → FrameDone) → ((length ns == 1) && fits) ≡ true → with_number f fits ns done ≡ done (first_number ns)
number_fit f fits [] done h = absurd cc
number_fit f fits (n ∷ []) done h = ap (λ b. cond b (done n) (nothing f)) h
number_fit f fits (n ∷ (k ∷ ns)) done h = absurd (unlike (suc (suc (length ns)) == 1) fits (not_one (length ns)) h)

number_unfit : (f : Frame) (fits : Bool) (ns : List ℤ) (done : ℤ → FrameDone) → ((length ns == 1) && fits) ≡ false → with_number f fits ns done ≡ nothing f
number_unfit f fits [] done h = refl
number_unfit f fits (n ∷ []) done h = ap (λ b. cond b (done n) (nothing f)) h
number_unfit f fits (n ∷ (k ∷ ns)) done h = refl

-- nothing is done at a message that isn't of the form of its kind
pub unformed : (t : Tables) (me : ℕ) (f : Frame) (m : Msg) (kind : SysKind) (x y : Endpoint) → has_form t me kind m.payload x y ≡ false → frame_duty_of t me f m kind x y ≡ nothing f
unformed t me f m kinds.Create x y h = plain_unfit f (may_go t me kinds.Create x y) m.payload _ h
unformed t me f m kinds.CreateDone x y h = plain_unfit f (may_go t me kinds.CreateDone x y) m.payload _ h
unformed t me f m kinds.CreateRefused x y h = number_unfit f (may_go t me kinds.CreateRefused x y) m.payload _ h
unformed t me f m kinds.Destroy x y h = plain_unfit f (may_go t me kinds.Destroy x y) m.payload _ h
unformed t me f m kinds.DestroyDone x y h = number_unfit f (may_go t me kinds.DestroyDone x y) m.payload _ h
unformed t me f m kinds.Import x y h = plain_unfit f (may_go t me kinds.Import x y) m.payload _ h
unformed t me f m kinds.ImportDone x y h = plain_unfit f (may_go t me kinds.ImportDone x y) m.payload _ h
unformed t me f m kinds.ImportRefused x y h = number_unfit f (may_go t me kinds.ImportRefused x y) m.payload _ h
unformed t me f m kinds.ImportEnded x y h = plain_unfit f (may_go t me kinds.ImportEnded x y) m.payload _ h
unformed t me f m kinds.Deport x y h = plain_unfit f (may_go t me kinds.Deport x y) m.payload _ h
unformed t me f m kinds.DeportDone x y h = plain_unfit f (may_go t me kinds.DeportDone x y) m.payload _ h
unformed t me f m kinds.Announce x y h = number_unfit f (may_go t me kinds.Announce x y) m.payload _ h
unformed t me f m kinds.Register x y h = refl
unformed t me f m kinds.Withdraw x y h = refl
unformed t me f m kinds.Bound x y h = refl
unformed t me f m kinds.Ended x y h = refl
unformed t me f m kinds.NameReply x y h = refl
unformed t me f m kinds.PartMake x y h = plain_unfit f (may_go t me kinds.PartMake x y) m.payload _ h
unformed t me f m kinds.PartEnd x y h = plain_unfit f (may_go t me kinds.PartEnd x y) m.payload _ h

-- a slot of which a test is true is there
there_by : (t : Tables) (test : Slot → Bool) (s : ℕ) → option_map_or test (slot_at t s) false ≡ true → s < length t.slots
there_by t test s h = go (slot_at t s) refl h
  where
    go : (o : Option Slot) → slot_at t s ≡ o → option_map_or test o false ≡ true → s < length t.slots
    go None e k = absurd cc
    go (Some x) e k = slice_get_within t.slots s x e

own_there : (t : Tables) (me s : ℕ) → is_own t me s ≡ true → s < length t.slots
unfolding is_own
own_there t me s h = there_by t (λ (x : Slot). x.owner.0 == me) s h

imported_there : (t : Tables) (s : ℕ) → is_imported t s ≡ true → s < length t.slots
unfolding is_imported
imported_there t s h = there_by t (λ (x : Slot). is_imported_kind x.kind) s h

-- the slots that a message names, where it is of its form
pub asked_there : (t : Tables) (me : ℕ) (ns : List ℤ) (kind : SysKind) (x o : Endpoint) → ((length ns == 0) && is_request t me x o) ≡ true → o.slot.0 < length t.slots
asked_there t me ns kind x o h =
    let form = (and_parts (length ns == 0) (is_request t me x o) h).1 in
    let front = (and_parts (is_frame x && is_frame o && (o.generation.0 == 0) && is_optional t o.slot.0 && is_own t me o.slot.0) (is_part_of t o.slot.0 x.slot.0) form).0 in
    own_there t me o.slot.0 (and_parts (is_frame x && is_frame o && (o.generation.0 == 0) && is_optional t o.slot.0) (is_own t me o.slot.0) front).1

-- the slot of a PartMake or a PartEnd
pub part_there : (t : Tables) (me : ℕ) (ns : List ℤ) (o again : Endpoint) → ((length ns == 0) && is_part_told t me o again) ≡ true → o.slot.0 < length t.slots
part_there t me ns o again h =
    let form = (and_parts (length ns == 0) (is_part_told t me o again) h).1 in
    let slot = (and_parts (is_frame o && is_endpoint o again && not (o.generation.0 == 0)) (is_optional t o.slot.0 && (not (is_own t me o.slot.0) && has_part t me o.slot.0)) form).1 in
    optional_there t o.slot.0 (and_parts (is_optional t o.slot.0) (not (is_own t me o.slot.0) && has_part t me o.slot.0) slot).0

-- the import place of an Import or a Deport
pub forth_there : (t : Tables) (me : ℕ) (ns : List ℤ) (i h : Endpoint) → ((length ns == 0) && is_forth t me i h) ≡ true → i.slot.0 < length t.slots
forth_there t me ns i h e =
    let form = (and_parts (length ns == 0) (is_forth t me i h) e).1 in
    let all = and_parts (is_frame i && is_frame h && is_imported t i.slot.0 && is_home t h.slot.0) (is_own t me h.slot.0) form in
    let front = (and_parts (is_frame i && is_frame h && is_imported t i.slot.0) (is_home t h.slot.0) all.0).0 in
    imported_there t i.slot.0 (and_parts (is_frame i && is_frame h) (is_imported t i.slot.0) front).1

-- the actor of an announcement
pub announced_there : (t : Tables) → IsConsistent t → (me : ℕ) (ns : List ℤ) (x y : Endpoint) → ((length ns == 1) && is_announced t me x y) ≡ true → x.slot.0 < length t.slots
announced_there t c me ns x y h =
    let form = (and_parts (length ns == 1) (is_announced t me x y) h).1 in
    let told = (and_parts (is_frame x && is_endpoint x y) (is_told t x.slot.0 me) form).1 in
    elim (cases_lt x.slot.0 (length t.slots)) [
      | inl l ↦ l
      | inr past ↦ let none = told_past t x.slot.0 me c past in absurd cc
    ]

-- a DestroyDone with another code says nothing
pub silent_code : (t : Tables) (me : ℕ) (f : Frame) (gone x : Endpoint) (z : ℤ) → z ≢ pos 0 → z ≢ pos 3
    → of_natural f z (λ code. only_sends f (destroy_done t me gone x code)) ≡ nothing f
unfolding destroy_done
silent_code t me f gone x (negsuc n) a b = refl
silent_code t me f gone x (pos n) a b =
    let zero_not : (n == 0) ≡ false = ne_eqb n 0 (λ e. a (ap pos e)) in
    let three_not : (n == 3) ≡ false = ne_eqb n 3 (λ e. b (ap pos e)) in
    rw (zero_not, three_not) refl

-- an Announce with another number says nothing
pub silent_up : (f : Frame) (x : Incarnation) (z : ℤ) → z ≢ pos 1 → z ≢ pos 0
    → of_natural f z (λ up. with_told f (announce f.told x up)) ≡ nothing f
unfolding announce
silent_up f x (negsuc n) a b = refl
silent_up f x (pos n) a b =
    let one_not : (n == 1) ≡ false = ne_eqb n 1 (λ e. a (ap pos e)) in
    let zero_not : (n == 0) ≡ false = ne_eqb n 0 (λ e. b (ap pos e)) in
    rw (one_not, zero_not) refl
