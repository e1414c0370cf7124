-- What came of duties and commands, by the part of the state that they change.
use Rattle.std.proofs.Common.{◌≡◌, ℕ, List, [], ◌∷◌, ◌++◌, refl, sym, ap, ◌∙◌}
use Rattle.std.proofs.lemmas.List.{append-nil}
use Rattle.room_kinds.specs.declared.message.Msg.{Msg}
use Rattle.room_kinds.specs.declared.numbers.Incarnation.{Incarnation}
use Rattle.room_wiring.specs.declared.tables.Tables.{Tables}
use Rattle.actor_duties.specs.State as rows
use Rattle.actor_duties.specs.State.{Lives, Frame, ImportPlace}
use Rattle.actor_duties.specs.Lives.{Lived}
use Rattle.actor_duties.specs.Frame as duties
use Rattle.actor_duties.specs.Frame.{FrameDone, nothing, only_sends}
use Rattle.frame_lives.specs.declared.row.Row.{Row}
use Rattle.frame_lives.specs.declared.done.DutyDone.{DutyDone}
use Rattle.frame_lives.specs.Known.{Known}
use Rattle.frame_lives.specs.Shown.{shown, with_lives, with_told}
use Rattle.frame_lives.specs.Done.{done_of}
use Rattle.frame_service.specs.frame_imports.frame_peers.Parts.{frame_by}
use Rattle.frame_service.specs.frame_endings.Ends.{left_of}
use Rattle.frame_service.specs.frame_imports.import_places.Lending.{Kept, Lending, lending, with_places, with_plugs}
use Rattle.frame_service.specs.declared.state.FrameState.{FrameState}
use Rattle.frame_service.specs.State.{frame_in, IsFrameOf}
use Rattle.frame_service.specs.Done.{nothing_left, IsDone, IsRequested}
use Rattle.frame_service.proofs.StateLemmas.{lives_fit, imports_fit}

-- nothing is done
pub nothing_done : (t : Tables) (s : FrameState) (r : FrameDone) (out : List Msg) (d : DutyDone) → IsFrameOf t s → r ≡ nothing (frame_in s) → d ≡ nothing_left → IsDone t s s r out out d
nothing_done t s r out d fits is left = record {
  fits = fits;
  me = refl;
  frame = sym (ap (λ (x : FrameDone). x.frame) is);
  sent = sym (append-nil out) ∙ sym (ap (λ (x : FrameDone). out ++ x.sent) is);
  done = left ∙ sym (ap left_of is);
}

-- messages are sent
pub sent_done : (t : Tables) (s : FrameState) (ms : List Msg) (r : FrameDone) (before out : List Msg) (d : DutyDone) → IsFrameOf t s
    → out ≡ before ++ ms → r ≡ only_sends (frame_in s) ms → d ≡ nothing_left → IsDone t s s r before out d
sent_done t s ms r before out d fits sent is left = record {
  fits = fits;
  me = refl;
  frame = sym (ap (λ (x : FrameDone). x.frame) is);
  sent = sent ∙ sym (ap (λ (x : FrameDone). before ++ x.sent) is);
  done = left ∙ sym (ap left_of is);
}

-- the state with other tables of what is lent
abbrev pub lends : FrameState → Kept → FrameState
lends s k = record s { imports = k }

-- the state with other rows of slots
abbrev pub knows : FrameState → List Row → FrameState
knows s rows = record s { lives = rows }

frame_lends : (s : FrameState) (k : Kept) (l : Lending) → lending k ≡ l → frame_in (lends s k) ≡ frame_by (shown s.lives) l.places l.plugs
unfolding frame_in
frame_lends s k l now = ap (λ (l : Lending). frame_by (shown s.lives) l.places l.plugs) now

frame_knows : (s : FrameState) (rows : List Row) (k : Known) → shown rows ≡ k → frame_in (knows s rows) ≡ frame_by k (lending s.imports).places (lending s.imports).plugs
unfolding frame_in
frame_knows s rows k now = ap (λ (k : Known). frame_by k (lending s.imports).places (lending s.imports).plugs) now

-- plugs come or go
pub plugs_done : (t : Tables) (s : FrameState) (k : Kept) (step : rows.Done (ℕ → List Incarnation)) (r : FrameDone) (before out : List Msg) (d : DutyDone) → IsFrameOf t s
    → lending k ≡ with_plugs (lending s.imports) step.now → out ≡ before ++ step.sent → r ≡ duties.with_plugs (frame_in s) step → d ≡ nothing_left → IsDone t s (lends s k) r before out d
unfolding frame_in
plugs_done t s k step r before out d fits now sent is left = record {
  fits = imports_fit t s k fits;
  me = refl;
  frame = frame_lends s k (with_plugs (lending s.imports) step.now) now ∙ sym (ap (λ (x : FrameDone). x.frame) is);
  sent = sent ∙ sym (ap (λ (x : FrameDone). before ++ x.sent) is);
  done = left ∙ sym (ap left_of is);
}

-- import places change
pub places_done : (t : Tables) (s : FrameState) (k : Kept) (step : rows.Done (ℕ → ImportPlace)) (r : FrameDone) (before out : List Msg) (d : DutyDone) → IsFrameOf t s
    → lending k ≡ with_places (lending s.imports) step.now → out ≡ before ++ step.sent → r ≡ duties.with_places (frame_in s) step → d ≡ nothing_left → IsDone t s (lends s k) r before out d
unfolding frame_in
places_done t s k step r before out d fits now sent is left = record {
  fits = imports_fit t s k fits;
  me = refl;
  frame = frame_lends s k (with_places (lending s.imports) step.now) now ∙ sym (ap (λ (x : FrameDone). x.frame) is);
  sent = sent ∙ sym (ap (λ (x : FrameDone). before ++ x.sent) is);
  done = left ∙ sym (ap left_of is);
}

-- actors are made
pub lives_done : (t : Tables) (s : FrameState) (rows : List Row) (step : Lived) (r : FrameDone) (before out : List Msg) (d : DutyDone) → IsFrameOf t s
    → shown rows ≡ with_lives (shown s.lives) step.lives → out ≡ before ++ step.sent → d ≡ done_of step → r ≡ duties.with_lives (frame_in s) step → IsDone t s (knows s rows) r before out d
unfolding frame_in
lives_done t s rows step r before out d fits now sent left is = record {
  fits = lives_fit t s rows fits (ap (λ (k : Known). k.slots) now);
  me = refl;
  frame = frame_knows s rows (with_lives (shown s.lives) step.lives) now ∙ sym (ap (λ (x : FrameDone). x.frame) is);
  sent = sent ∙ sym (ap (λ (x : FrameDone). before ++ x.sent) is);
  done = left ∙ sym (ap left_of is);
}

-- the directory tells something else
pub told_done : (t : Tables) (s : FrameState) (rows : List Row) (told : ℕ → ℕ) (r : FrameDone) (out : List Msg) (d : DutyDone) → IsFrameOf t s
    → shown rows ≡ with_told (shown s.lives) told → r ≡ duties.with_told (frame_in s) told → d ≡ nothing_left → IsDone t s (knows s rows) r out out d
unfolding frame_in
told_done t s rows told r out d fits now is left = record {
  fits = lives_fit t s rows fits (ap (λ (k : Known). k.slots) now);
  me = refl;
  frame = frame_knows s rows (with_told (shown s.lives) told) now ∙ sym (ap (λ (x : FrameDone). x.frame) is);
  sent = sym (append-nil out) ∙ sym (ap (λ (x : FrameDone). out ++ x.sent) is);
  done = left ∙ sym (ap left_of is);
}

-- a command that only sends
pub only_requested : (t : Tables) (s : FrameState) (m : Msg) (before out : List Msg) → IsFrameOf t s → out ≡ before ++ m ∷ [] → IsRequested t s s (record { now = frame_in s; sent = m ∷ [] }) before out
only_requested t s m before out fits sent = record { fits = fits; me = refl; frame = refl; sent = sent }

-- a command that changes import places
pub places_requested : (t : Tables) (s : FrameState) (k : Kept) (step : rows.Done (ℕ → ImportPlace)) (before out : List Msg) → IsFrameOf t s
    → lending k ≡ with_places (lending s.imports) step.now → out ≡ before ++ step.sent
    → IsRequested t s (lends s k) (record { now = record (frame_in s) { places = step.now }; sent = step.sent }) before out
unfolding frame_in
places_requested t s k step before out fits now sent = record {
  fits = imports_fit t s k fits;
  me = refl;
  frame = frame_lends s k (with_places (lending s.imports) step.now) now;
  sent = sent;
}
