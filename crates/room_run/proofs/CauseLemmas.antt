-- From what was read to what runs, and why a call is refused.
use Rattle.std.proofs.Common.{◌≡◌, ℕ, ◌≤◌, List, length, Option, Some, None, IfSome, Result, Ok, Err, refl, subst}
use Rattle.std.specs.Prelude.{IfOk, IfErr}
use Rattle.std.specs.Global.{Vec}
use Rattle.room_outside.specs.Shown.{Shown, Keeps}
use Rattle.room_outside.proofs.ShelfLemmas.{IfSome-before, Rose-before}
use Rattle.controller_actors.specs.declared.plant.Plant.{Plant}
use Rattle.room_run.specs.Words.{Files}
use Rattle.room_wiring.specs.declared.tables.Tables.{Tables}
use Rattle.room_run.specs.Models.{IsModel, IsSound, SoundCauses, most_bytes}
use Rattle.inject_reader.specs.declared.inject_lines.accepted.Line.{Line}
use Rattle.inject_reader.specs.Answer.{answer}
use Rattle.inject_reader.specs.declared.inject_lines.accepted.Advances.{Advances}
use Rattle.inject_reader.specs.declared.inject_lines.accepted.Advances.TheVariants.{Taken, Refused}
use Rattle.inject_reader.specs.Gives.{Fails}
use Rattle.inject_reader.specs.declared.fault.InjectFault.{InjectFault}
use Rattle.inject_reader.specs.declared.fault.InjectFault.TheVariants as inject_faults
use Rattle.room_run.specs.Causes.{IsInjections, HasBadLine, TextIs, AreOf, ModelCauses, model_refused, LinesCauses, faulty_line, no_memory_for_lines, refusal_of_lines, InjectionsCauses, injections_unread, injections_long, bad_line, injections_no_memory, RunCauses, of_injections}
use Rattle.room_run.specs.declared.model_fault.ModelFault.{ModelFault}
use Rattle.room_run.specs.declared.refusal.Refusal.{Refusal}
use Rattle.room_run.specs.declared.refusal.Refusal.TheVariants as refusals

-- ---- the model

-- what is so of the bytes that were read is so of the text that is shown
pub found_fact : (P : List ℕ → Type 0) (o : Option (List ℕ)) (bytes : List ℕ) → IfSome o (λ text. bytes ≡ text) → P bytes → IfSome o P
found_fact P None bytes is h = tt
found_fact P (Some text) bytes is h = subst P is h

some_wiring : (o : Option (List ℕ)) (w : Tables) → IfSome o (λ text. IsSound text w) → IfSome o (λ text. (x : Tables) × IsSound text x)
some_wiring None w h = tt
some_wiring (Some text) w h = (w, h)

-- what has this wiring has a wiring
pub model_sound : (shelf : Shown) (name : List ℕ) (w : Tables) → TextIs shelf name (λ text. IsSound text w) → TextIs shelf name (λ text. (x : Tables) × IsSound text x)
model_sound shelf name w h = some_wiring (shelf.text name) w h

-- the text was read, and is refused
pub cause_found : (before after : Shown) (name bytes : List ℕ) (fault : ModelFault) → IfSome (before.text name) (λ text. bytes ≡ text) → SoundCauses bytes fault → ModelCauses before after name (refusals.Model fault)
cause_found before after name bytes fault is h = model_refused fault (found_fact (λ text. SoundCauses text fault) (before.text name) bytes is h)

-- ---- the injections

-- what was found of the lines is so of the text that is shown
pub found_lines : (shelf : Shown) (name bytes : List ℕ) (k : Advances) (w : Tables) (r : Result (Vec Line) Refusal) → IfSome (shelf.text name) (λ text. bytes ≡ text) → IfOk r (λ lines. IsInjections k w bytes lines.items) → IfOk r (λ lines. TextIs shelf name (λ text. IsInjections k w text lines.items))
found_lines shelf name bytes k w (Ok lines) is h = found_fact (λ text. IsInjections k w text lines.items) (shelf.text name) bytes is h
found_lines shelf name bytes k w (Err why) is h = tt

-- the text was read, and its lines are refused
pub lines_cause : (before after : Shown) (name bytes : List ℕ) (k : Advances) (w : Tables) (r : Result (Vec Line) Refusal) → IfSome (before.text name) (λ text. bytes ≡ text) → IfErr r (λ why. LinesCauses k w bytes why) → IfErr r (λ why. InjectionsCauses before after name k w why)
lines_cause before after name bytes k w (Ok lines) is h = tt
lines_cause before after name bytes k w (Err _) is (faulty_line number fault h) =
    bad_line number fault (found_fact (λ text. HasBadLine k w text number fault) (before.text name) bytes is h) refl
lines_cause before after name bytes k w (Err _) is no_memory_for_lines = injections_no_memory refl

-- a line is faulty
pub line_told : (k : Advances) (w : Tables) (bytes : List ℕ) (e : InjectFault) → length bytes ≤ most_bytes → Fails e (answer k w bytes) → LinesCauses k w bytes (refusal_of_lines e)
line_told k w bytes (inject_faults.Code n fault) short h = faulty_line n fault (record { short = short; faulty = h })
line_told k w bytes inject_faults.Memory short h = no_memory_for_lines

-- ---- both

pub lines_causes_before : {a b c : Shown} {name : List ℕ} {advances : Advances} {w : Tables} {why : Refusal} → Keeps a b → InjectionsCauses b c name advances w why → InjectionsCauses a c name advances w why
lines_causes_before {a} {b} {c} {name} k (injections_unread r is) = injections_unread (Rose-before name k r) is
lines_causes_before {a} {b} {c} {name} k (injections_long h is) = injections_long (IfSome-before name _ k h) is
lines_causes_before {a} {b} {c} {name} k (bad_line number fault h is) = bad_line number fault (IfSome-before name _ k h) is
lines_causes_before k (injections_no_memory is) = injections_no_memory is

-- the model was read, and the injections are refused
pub refused_lines : (before middle after : Shown) (files : Files) (p : Plant) (why : Refusal) → TextIs before files.model (λ text. IsModel text p) → Keeps before middle → InjectionsCauses middle after files.injections Taken p.wiring why → RunCauses before after files why
refused_lines before middle after files p why accepted k h = of_injections p accepted (lines_causes_before k h)

-- both were read
pub both_read : (before middle : Shown) (files : Files) (p : Plant) (lines : List Line) → TextIs before files.model (λ text. IsModel text p) → Keeps before middle → TextIs middle files.injections (λ text. IsInjections Taken p.wiring text lines) → AreOf before files p lines
both_read before middle files p lines accepted k read = record { model_accepted = accepted; lines_accepted = IfSome-before files.injections _ k read }
