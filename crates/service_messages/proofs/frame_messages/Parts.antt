-- A message to one other part after another.
use Rattle.std.proofs.Common.{◌≡◌, ℕ, ◌+◌, ◌==◌, ◌&&◌, Bool, true, false, not, List, [], ◌∷◌, ◌++◌, map, length, sym, ap, ◌∙◌, append_assoc, arith}
use Rattle.std.proofs.lemmas.List.{map-append}
use Rattle.room_kinds.specs.declared.message.Msg.{Msg}
use Rattle.room_kinds.specs.declared.numbers.Incarnation.{Incarnation}
use Rattle.room_kinds.specs.declared.system.SysKind.{SysKind}
use Rattle.room_wiring.specs.declared.tables.Tables.{Tables}
use Rattle.actor_duties.specs.Lives.{has_part, part_controllers, part_told_to, parts_told}
use Rattle.service_messages.specs.Shown.{is_other_part}
use Rattle.service_messages.proofs.slot_runs.Kept.{kept, kept_one, kept_none}

-- the messages to those of the first n controllers that have another part
abbrev pub told_below : Tables → ℕ → SysKind → Incarnation → ℕ → List Msg
told_below t me kind x n = map (part_told_to me kind x) (kept (is_other_part t me x.slot.0) n)

-- all controllers
pub all_told : (t : Tables) (me : ℕ) (kind : SysKind) (x : Incarnation) (n : ℕ) → n ≡ length t.controllers → parts_told t me kind x ≡ told_below t me kind x n
unfolding parts_told part_controllers
all_told t me kind x n h = ap (told_below t me kind x) (sym h)

pub told_on : (t : Tables) (me : ℕ) (kind : SysKind) (x : Incarnation) (before out after : List Msg) (n : ℕ)
    → out ≡ before ++ told_below t me kind x n → after ≡ out ++ part_told_to me kind x n ∷ [] → is_other_part t me x.slot.0 n ≡ true
    → after ≡ before ++ told_below t me kind x (n + 1)
told_on t me kind x before out after n so_far is h =
    is ∙ ap (λ (ms : List Msg). ms ++ part_told_to me kind x n ∷ []) so_far ∙ append_assoc before (told_below t me kind x n) (part_told_to me kind x n ∷ [])
    ∙ ap (λ (ms : List Msg). before ++ ms)
    (sym (ap (map (part_told_to me kind x)) (kept_one (is_other_part t me x.slot.0) n h)
    ∙ map-append (part_told_to me kind x) (kept (is_other_part t me x.slot.0) n) (n ∷ [])))

pub passed_on : (t : Tables) (me : ℕ) (kind : SysKind) (x : Incarnation) (before out : List Msg) (n : ℕ)
    → out ≡ before ++ told_below t me kind x n → is_other_part t me x.slot.0 n ≡ false → out ≡ before ++ told_below t me kind x (n + 1)
passed_on t me kind x before out n so_far h =
    so_far
    ∙ ap (λ (ns : List ℕ). before ++ map (part_told_to me kind x) ns)
    (sym (kept_none (is_other_part t me x.slot.0) n (n + 1) (omega arith)
    (λ u a b. let same : u ≡ n = omega arith in ap (is_other_part t me x.slot.0) same ∙ h)))
