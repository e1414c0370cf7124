-- A test by which a message fits the wiring: that of journals which have nothing but this message left.
use Rattle.std.proofs.Common.{◌≡◌, ℕ, zero, suc, ◌+◌, ◌≤◌, ◌==◌, ◌&&◌, Bool, true, false, not, if◌then◌else◌, List, [], ◌∷◌, length, map, slice_get, Some, refl, sym, ap, ◌∙◌, eqb-true, arith}
use Rattle.std.specs.List.{AllByRecursion as Each}
use Rattle.std.proofs.lemmas.List.Elements.{All-nil, All-cons, All-head, All-same}
use Rattle.std.proofs.lemmas.List.Sorted.{IsNonDecreasingBy-short}
use Rattle.room_kinds.specs.declared.message.Msg.{Msg}
use Rattle.room_wiring.specs.declared.tables.Tables.{Tables}
use Rattle.journal.specs.Fits.{FitsMessage, FitsEntry, FitsEnvironment, FitsLeft, left_rank, Fits}
use Rattle.journal.specs.declared.entry.Entry.{Entry}
use Rattle.journal.specs.declared.entry.Journals.{Journals}
use Rattle.journal.specs.declared.entry.Left.{Left}
use Rattle.journal_reader.specs.journal_fits.Judge.{fits}
use Rattle.journal_reader.proofs.journal_fits.Meaning.{fits_mean}
use Rattle.actor_world.specs.world_laws.Counting.{count, of_priority}

-- so many empty journals
abbrev empties : ℕ → List (List Entry)
empties zero = []
empties (suc n) = [] ∷ empties n

empties_many : (n : ℕ) → length (empties n) ≡ n
empties_many zero = refl
empties_many (suc n) = ap suc (empties_many n)

empties_empty : (n c : ℕ) (es : List Entry) → slice_get (empties n) c ≡ Some es → es ≡ []
empties_empty zero c es e = absurd cc
empties_empty (suc n) zero es e = let same : ◌≡◌ {A = List Entry} [] es = cc in sym same
empties_empty (suc n) (suc c) es e = empties_empty n c es e

-- the message, left to its receiver
abbrev alone : Msg → Left
alone m = record { to = m.to; pending = true; msg = m }

-- journals that have nothing but this message left
abbrev left_alone : Tables → Msg → Journals
left_alone t m = record {
  controllers = empties (length t.controllers);
  environment = [];
  left = alone m ∷ [];
  unposted = [];
  done = true;
}

pub passes : (t : Tables) (m : Msg) → FitsMessage t m → m.prio.0 ≤ 5 → fits t (left_alone t m) ≡ true
passes t m h low = (fits_mean t (left_alone t m)).1 (record {
  journals = empties_many (length t.controllers);
  entries = λ c es there. All-same (FitsEntry t c) es [] (empties_empty (length t.controllers) c es there) (All-nil (FitsEntry t c));
  environment = All-nil (FitsEnvironment t);
  left = All-cons (FitsLeft t) (alone m) [] (record { message = h; receiver = refl; priority = low }) (All-nil (FitsLeft t));
  left_in_order = IsNonDecreasingBy-short (λ (n : ℕ). n) (map (left_rank t) (alone m ∷ [])) (omega arith);
})

pub passed : (t : Tables) (m : Msg) → fits t (left_alone t m) ≡ true → FitsMessage t m
passed t m e =
    let f : Fits t (left_alone t m) = (fits_mean t (left_alone t m)).0 e in
    let l : FitsLeft t (alone m) = All-head (FitsLeft t) (alone m) [] f.left in l.message

-- whether a message fits
abbrev pub is_fit : Tables → Msg → Bool
is_fit t m = fits t (left_alone t m)

-- of messages of a priority none is counted that doesn't pass, where each passes
pub none_counted_at : (p : ℕ) (ok : Msg → Bool) (ms : List Msg) → Each (λ (m : Msg). m.prio.0 ≡ p → ok m ≡ true) ms
    → count (of_priority p (λ (m : Msg). not (ok m))) ms ≡ 0
none_counted_at p ok [] h = refl
none_counted_at p ok (m ∷ ms) h = go (m.prio.0 == p) refl (none_counted_at p ok ms h.1)
  where
    passing : ok m ≡ true → (if true && not (ok m) then 1 else 0) + count (of_priority p (λ (m : Msg). not (ok m))) ms ≡ 0 + count (of_priority p (λ (m : Msg). not (ok m))) ms
    passing e = ap (λ (q : Bool). (if not q then 1 else 0) + count (of_priority p (λ (m : Msg). not (ok m))) ms) e

    go : (b : Bool) → (m.prio.0 == p) ≡ b → count (of_priority p (λ (m : Msg). not (ok m))) ms ≡ 0
        → count (of_priority p (λ (m : Msg). not (ok m))) (m ∷ ms) ≡ 0
    go true e z =
        let one : count (of_priority p (λ (m : Msg). not (ok m))) (m ∷ ms) ≡ 0 + count (of_priority p (λ (m : Msg). not (ok m))) ms =
        ap (λ (b : Bool). (if b && not (ok m) then 1 else 0) + count (of_priority p (λ (m : Msg). not (ok m))) ms) e
        ∙ passing (h.0 (eqb-true m.prio.0 p e)) in
        omega (arith, one, z)
    go false e z =
        let one : count (of_priority p (λ (m : Msg). not (ok m))) (m ∷ ms) ≡ 0 + count (of_priority p (λ (m : Msg). not (ok m))) ms =
        ap (λ (b : Bool). (if b && not (ok m) then 1 else 0) + count (of_priority p (λ (m : Msg). not (ok m))) ms) e in
        omega (arith, one, z)
