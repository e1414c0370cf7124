-- What an actor gives back, found among its parts.
use Rattle.std.proofs.Common.{◌≡◌, ℕ, ◌+◌, ◌<◌, ◌≤◌, false, cond, List, [], ◌∷◌, ◌++◌, length, refl, sym, ap, ◌∙◌, append_assoc, arith, inl, inr}
use Rattle.std.specs.List.{flat_map}
use Rattle.std.proofs.lemmas.Bool.{and_right, cases_Bool}
use Rattle.std.proofs.lemmas.List.{flat_map_more}
use Rattle.room_kinds.specs.declared.message.Msg.{Msg}
use Rattle.room_kinds.specs.declared.numbers.Incarnation.{Incarnation}
use Rattle.room_wiring.specs.declared.tables.Tables.{Tables}
use Rattle.actor_duties.specs.Words.{is_imported, is_part_of}
use Rattle.actor_duties.specs.State.{ImportPlace}
use Rattle.service_messages.specs.slot_runs.Runs.{IsDepthFirst, IsRunEnd}
use Rattle.service_messages.proofs.slot_runs.Kept.{kept, kept_one, kept_none}
use Rattle.service_messages.proofs.slot_runs.RunLemmas.{false_from, part_in_run, part_not_between, run_nested}
use Rattle.frame_service.specs.frame_imports.import_places.Lending.{is_import_of}
use Rattle.frame_service.specs.frame_endings.Ends.{back_at, back_if_own, all_given_back}
use Rattle.service_messages.proofs.frame_messages.Announced.{append_nothing}

-- three steps, one after another
pub three_parts : (out a b c : List Msg) → ((out ++ a) ++ b) ++ c ≡ out ++ (a ++ (b ++ c))
three_parts out a b c = append_assoc (out ++ a) b c ∙ append_assoc out a (b ++ c)

-- what the imported slots below n give back is sent; n is the next part, or the end
pub record GivingBack (t : Tables) (me : ℕ) (places : ℕ → ImportPlace) (x : Incarnation) (e : ℕ) (before out : List Msg) (n : ℕ) : Type 0 where
  pub behind : x.slot.0 < n
  pub within : n ≤ e
  pub sent : out ≡ before ++ flat_map (back_at t me places x) (kept (is_import_of t x.slot.0) n)

pub not_import : (t : Tables) (s i : ℕ) → is_part_of t i s ≡ false → is_import_of t s i ≡ false
not_import t s i h = and_right (is_imported t i) (is_part_of t i s) h

pub giving_begun : (t : Tables) → IsDepthFirst t → (me : ℕ) (places : ℕ → ImportPlace) (x : Incarnation) (e : ℕ) (before : List Msg) → IsRunEnd t x.slot.0 e
    → GivingBack t me places x e before before (x.slot.0 + 1)
giving_begun t first me places x e before run =
    let s = x.slot.0 in
    let behind = run.behind in
    let none : kept (is_import_of t s) (s + 1) ≡ [] =
    kept_none (is_import_of t s) 0 (s + 1) (omega arith)
    (λ u a b. not_import t s u (false_from (is_part_of t u s) (λ h. let p = part_in_run t first s e u run h in let less = p.0 in absurd (omega arith)))) in
    record {
      behind = omega arith;
      within = omega arith;
      sent = sym (ap (λ (is : List ℕ). before ++ flat_map (back_at t me places x) is) none ∙ append_nothing before);
    }

pub giving_on : (t : Tables) (me : ℕ) (places : ℕ → ImportPlace) (x : Incarnation) (e : ℕ) (before out after : List Msg) (n f : ℕ)
    → IsRunEnd t x.slot.0 e → IsRunEnd t n f → n < e → after ≡ out ++ back_if_own t me places x n → GivingBack t me places x e before out n → GivingBack t me places x e before after f
giving_on t me places x e before out after n f run skipped l is w =
    let s = x.slot.0 in
    let behind = w.behind in
    let ends = skipped.behind in
    let passed : kept (is_import_of t s) f ≡ kept (is_import_of t s) (n + 1) =
    kept_none (is_import_of t s) (n + 1) f (omega arith) (λ u a b. not_import t s u (part_not_between t s n f u skipped behind (omega arith) b)) in
    let so_far : after ≡ (before ++ flat_map (back_at t me places x) (kept (is_import_of t s) n)) ++ back_if_own t me places x n =
    is ∙ ap (λ (ms : List Msg). ms ++ back_if_own t me places x n) w.sent in
    let one : (before ++ flat_map (back_at t me places x) (kept (is_import_of t s) n)) ++ back_if_own t me places x n
    ≡ before ++ flat_map (back_at t me places x) (kept (is_import_of t s) (n + 1)) =
    elim (cases_Bool (is_import_of t s n)) [
      | inl own ↦
          ap (λ b. (before ++ flat_map (back_at t me places x) (kept (is_import_of t s) n)) ++ cond b (back_at t me places x n) []) own
          ∙ flat_map_more (back_at t me places x) before (kept (is_import_of t s) n) n
          ∙ sym (ap (λ (is : List ℕ). before ++ flat_map (back_at t me places x) is) (kept_one (is_import_of t s) n own))
      | inr other ↦
          ap (λ b. (before ++ flat_map (back_at t me places x) (kept (is_import_of t s) n)) ++ cond b (back_at t me places x n) []) other
          ∙ append_nothing (before ++ flat_map (back_at t me places x) (kept (is_import_of t s) n))
          ∙ sym (ap (λ (is : List ℕ). before ++ flat_map (back_at t me places x) is) (kept_none (is_import_of t s) n (n + 1) (omega arith) (λ u a b. let same : u ≡ n = omega arith in ap (is_import_of t s) same ∙ other)))
    ] in
    record {
      behind = omega arith;
      within = run_nested t s e n f run skipped behind l;
      sent = so_far ∙ one ∙ sym (ap (λ (is : List ℕ). before ++ flat_map (back_at t me places x) is) passed);
    }

pub giving_done : (t : Tables) → IsDepthFirst t → (me : ℕ) (places : ℕ → ImportPlace) (x : Incarnation) (e : ℕ) (before out : List Msg) (n : ℕ)
    → IsRunEnd t x.slot.0 e → e ≤ n → GivingBack t me places x e before out n → out ≡ before ++ all_given_back t me places x
giving_done t first me places x e before out n run l w =
    let s = x.slot.0 in
    let within = w.within in
    let there = run.there in
    let all : kept (is_import_of t s) (length t.slots) ≡ kept (is_import_of t s) n =
    kept_none (is_import_of t s) n (length t.slots) (omega arith)
    (λ u a b. not_import t s u (false_from (is_part_of t u s) (λ h. let p = part_in_run t first s e u run h in let to = p.1 in absurd (omega arith)))) in
    w.sent ∙ sym (ap (λ (is : List ℕ). before ++ flat_map (back_at t me places x) is) all)
