-- Steps of the loops over digits, numbers and lines.
use Rattle.std.proofs.Common.{◌≡◌, ℕ, zero, suc, ◌+◌, ◌-◌, ◌<◌, ◌≤◌, Bool, true, false, cond, List, [], ◌∷◌, ◌++◌, length, refl, sym, ap, ◌∙◌, arith, append_assoc, ℤ, Option, Some}
use Rattle.std.specs.Prelude.{◌==◌, unwrap_or}
use Rattle.text_reading.specs.Cuts.{cut_at}
use Rattle.std.proofs.lemmas.List.{length_push, append-nil}
use Rattle.std.proofs.lemmas.Bool.{ne_eqb}
use Rattle.room_wiring.specs.declared.tables.Tables.{Tables}
use Rattle.journal_reader.specs.declared.journal_lines.draft.Draft.{Draft}
use Rattle.journal_reader.specs.journal_lines.Numerals.{upto, past, signed_in}
use Rattle.journal_reader.specs.journal_lines.Messages.{numbers_from}
use Rattle.journal_reader.specs.journal_lines.Reading.{taking, reading}
use Rattle.journal_reader.proofs.journal_lines.Cutting.{next_line, end_read}

-- what stands behind a byte is shorter
past_in : (c b : ℕ) (bs : List ℕ) (t : Bool) → length (past c bs) ≤ length bs → (let cut : List ℕ × Option (List ℕ) = cond t ([], Some bs) (b ∷ (cut_at c bs).0, (cut_at c bs).1) in length (unwrap_or cut.1 []) ≤ length bs)
past_in c b bs true h = omega arith
past_in c b bs false h = h

past_no_longer : (c : ℕ) (s : List ℕ) → length (past c s) ≤ length s
past_no_longer c [] = omega arith
past_no_longer c (b ∷ bs) = let inside : length (past c (b ∷ bs)) ≤ length bs = past_in c b bs (b == c) (past_no_longer c bs) in omega arith

pub past_shorter : (c : ℕ) (s : List ℕ) → 0 < length s → length (past c s) < length s
past_shorter c [] h = absurd (omega arith)
past_shorter c (b ∷ bs) h = let inside : length (past c (b ∷ bs)) ≤ length bs = past_in c b bs (b == c) (past_no_longer c bs) in omega arith

-- numbers that were read from the front of a text, at most 64, and what is left of it
pub record IsReading (done : List ℤ) (rest bytes : List ℕ) : Type 0 where
  pub all : done ++ numbers_from (64 - length done) rest ≡ numbers_from 64 bytes
  pub few : length done ≤ 64

pub reading_begins : (done : List ℤ) (rest bytes : List ℕ) → done ≡ [] → rest ≡ bytes → IsReading done rest bytes
reading_begins done rest bytes none whole = record { all = rw (none, whole) refl; few = rw none (omega arith) }

-- one more number
next_number : (done : List ℤ) (n : ℕ) (s : List ℕ) → n < 64 → 0 < length s → (done ++ signed_in (upto 32 s) ∷ []) ++ numbers_from (64 - (n + 1)) (past 32 s) ≡ done ++ numbers_from (64 - n) s
unfolding numbers_from
next_number done n s few some =
    let left : 64 - n ≡ suc (64 - (n + 1)) = omega arith in
    let test : (length s == 0) ≡ false = ne_eqb (length s) 0 (λ e. omega arith) in
    rw (left, test) (append_assoc done (signed_in (upto 32 s) ∷ []) (numbers_from (64 - (n + 1)) (past 32 s)))

pub reading_goes_on : (done new : List ℤ) (s rest bytes word : List ℕ) (z : ℤ) → IsReading done s bytes → length done < 64 → 0 < length s → word ≡ upto 32 s → rest ≡ past 32 s → z ≡ signed_in word → new ≡ done ++ z ∷ [] → IsReading new rest bytes
reading_goes_on done new s rest bytes word z h few some word_is rest_is z_is new_is =
    let number : z ≡ signed_in (upto 32 s) = z_is ∙ ap signed_in word_is in
    let whole : new ≡ done ++ signed_in (upto 32 s) ∷ [] = new_is ∙ ap (λ (x : ℤ). done ++ x ∷ []) number in
    let longer : length new ≡ length done + 1 = ap length whole ∙ length_push done (signed_in (upto 32 s)) in
    record {
      all = rw (longer, whole, rest_is) (next_number done (length done) s few some ∙ h.all);
      few = omega arith;
    }

-- no number is left
no_number : (n : ℕ) (s : List ℕ) → length s ≡ 0 → numbers_from n s ≡ []
unfolding numbers_from
no_number zero s e = refl
no_number (suc n) s e = rw e refl

no_place : (s : List ℕ) → numbers_from 0 s ≡ []
unfolding numbers_from
no_place s = refl

ends_at : (done : List ℤ) (s bytes : List ℕ) → IsReading done s bytes → numbers_from (64 - length done) s ≡ [] → done ≡ numbers_from 64 bytes
ends_at done s bytes h none = sym (append-nil done) ∙ ap (λ (zs : List ℤ). done ++ zs) (sym none) ∙ h.all

pub reading_ends_empty : (done : List ℤ) (s bytes : List ℕ) → IsReading done s bytes → length s ≡ 0 → done ≡ numbers_from 64 bytes
reading_ends_empty done s bytes h e = ends_at done s bytes h (no_number (64 - length done) s e)

pub reading_ends_full : (done : List ℤ) (s bytes : List ℕ) → IsReading done s bytes → 64 ≤ length done → done ≡ numbers_from 64 bytes
reading_ends_full done s bytes h full =
    let none : 64 - length done ≡ 0 = omega arith in
    ends_at done s bytes h (ap (λ (n : ℕ). numbers_from n s) none ∙ no_place s)

-- ---- lines

pub lines_go_on : (t : Tables) (d next whole : Draft) (s rest line : List ℕ) → reading t d s ≡ whole → line ≡ upto 10 s → rest ≡ past 10 s → next ≡ taking t d line → reading t next rest ≡ whole
lines_go_on t d next whole s rest line h line_is rest_is next_is =
    let step : reading t next rest ≡ reading t (taking t d (upto 10 s)) (past 10 s) =
    ap (λ (x : Draft). reading t x rest) next_is ∙ ap (λ (w : List ℕ). reading t (taking t d w) rest) line_is ∙ ap (λ (r : List ℕ). reading t (taking t d (upto 10 s)) r) rest_is in
    step ∙ sym (next_line t d s) ∙ h

empty_is : (s : List ℕ) → length s ≡ 0 → s ≡ []
empty_is [] e = refl
empty_is (b ∷ bs) e = absurd (omega arith)

pub lines_end : (t : Tables) (d whole : Draft) (s : List ℕ) → reading t d s ≡ whole → length s ≡ 0 → d ≡ whole
lines_end t d whole s h e = sym (end_read t d) ∙ ap (λ (x : List ℕ). reading t d x) (sym (empty_is s e)) ∙ h
