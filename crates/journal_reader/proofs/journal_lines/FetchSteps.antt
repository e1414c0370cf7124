-- Steps of the loop over the further fetches of a line.
use Rattle.std.proofs.Common.{◌≡◌, ℕ, zero, suc, ◌<◌, ◌≤◌, Bool, false, cond, List, [], ◌∷◌, length, refl, sym, ap, ◌∙◌, arith}
use Rattle.std.specs.Prelude.{◌==◌}
use Rattle.std.proofs.lemmas.Bool.{ne_eqb}
use Rattle.room_kinds.specs.declared.message.Msg.{Msg}
use Rattle.room_wiring.specs.declared.tables.Tables.{Tables}
use Rattle.journal.specs.declared.entry.Entry.TheVariants as entries
use Rattle.journal_reader.specs.declared.journal_lines.draft.Draft.{Draft}
use Rattle.journal_reader.specs.journal_lines.Numerals.{upto, past}
use Rattle.journal_reader.specs.journal_lines.Drafts.{entered}
use Rattle.journal_reader.specs.journal_lines.Fetches.{outline_in, fetched_after, further}
use Rattle.journal_reader.proofs.journal_lines.NumberSteps.{past_shorter}

-- a message was fetched directly after a fetch at `before`
abbrev pub fetched_at : Draft → ℕ → Msg → Draft
fetched_at d before m = entered d (entries.Fetch (record { 0 = fetched_after before m.stamp.0 }) m)

-- one more fetch
pub further_next : (n : ℕ) (t : Tables) (d : Draft) (before : ℕ) (s : List ℕ) → 0 < length s
    → further (suc n) t d before s ≡ further n t (fetched_at d before (outline_in t d.party (upto 32 s))) (fetched_after before (outline_in t d.party (upto 32 s)).stamp.0) (past 32 s)
further_next n t d before s some =
    let test : (length s == 0) ≡ false = ne_eqb (length s) 0 (λ e. omega arith) in
    let m = outline_in t d.party (upto 32 s) in
    ap (λ (b : Bool). cond b d (further n t (fetched_at d before m) (fetched_after before m.stamp.0) (past 32 s))) test

-- nothing is left
pub further_none : (n : ℕ) (t : Tables) (d : Draft) (before : ℕ) → further n t d before [] ≡ d
further_none zero t d before = refl
further_none (suc n) t d before = refl

-- the limit doesn't matter where the text is no longer
pub further_enough : (n m : ℕ) (t : Tables) (d : Draft) (before : ℕ) (s : List ℕ) → length s ≤ n → length s ≤ m → further n t d before s ≡ further m t d before s
further_enough n m t d before [] low high = further_none n t d before ∙ sym (further_none m t d before)
further_enough zero m t d before (x ∷ xs) low high = absurd (let no : ⊥ = omega arith in no)
further_enough (suc n) zero t d before (x ∷ xs) low high = absurd (let no : ⊥ = omega arith in no)
further_enough (suc n) (suc m) t d before (x ∷ xs) low high =
    let s : List ℕ = x ∷ xs in
    let some : 0 < length s = omega arith in
    let shorter : length (past 32 s) < length s = past_shorter 32 s some in
    let msg = outline_in t d.party (upto 32 s) in
    further_next n t d before s some
    ∙ further_enough n m t (fetched_at d before msg) (fetched_after before msg.stamp.0) (past 32 s) (omega arith) (omega arith)
    ∙ sym (further_next m t d before s some)

-- the loop goes on
pub further_goes_on : (t : Tables) (d next whole : Draft) (before after : ℕ) (s rest word : List ℕ) (m : Msg)
    → further (length s) t d before s ≡ whole → 0 < length s → word ≡ upto 32 s → rest ≡ past 32 s → m ≡ outline_in t d.party word
    → after ≡ fetched_after before m.stamp.0 → next ≡ entered d (entries.Fetch (record { 0 = after }) m) → further (length rest) t next after rest ≡ whole
further_goes_on t d next whole before after s rest word m h some word_is rest_is m_is after_is next_is =
    let msg = outline_in t d.party (upto 32 s) in
    let is : m ≡ msg = m_is ∙ ap (λ (w : List ℕ). outline_in t d.party w) word_is in
    let later : after ≡ fetched_after before msg.stamp.0 = after_is ∙ ap (λ (x : Msg). fetched_after before x.stamp.0) is in
    let made : next ≡ fetched_at d before msg =
    next_is ∙ ap (λ (n : ℕ). entered d (entries.Fetch (record { 0 = n }) m)) after_is ∙ ap (λ (x : Msg). fetched_at d before x) is in
    let shorter : length (past 32 s) < length s = past_shorter 32 s some in
    ap (λ (x : Draft). further (length rest) t x after rest) made
    ∙ ap (λ (n : ℕ). further (length rest) t (fetched_at d before msg) n rest) later
    ∙ ap (λ (r : List ℕ). further (length r) t (fetched_at d before msg) (fetched_after before msg.stamp.0) r) rest_is
    ∙ further_enough (length (past 32 s)) (length s) t (fetched_at d before msg) (fetched_after before msg.stamp.0) (past 32 s) (omega arith) (omega arith)
    ∙ sym (further_next (length s) t d before s some)
    ∙ further_enough (suc (length s)) (length s) t d before s (omega arith) (omega arith) ∙ h

pub further_ends : (t : Tables) (d whole : Draft) (before : ℕ) (s : List ℕ) → further (length s) t d before s ≡ whole → length s ≡ 0 → d ≡ whole
further_ends t d whole before [] h e = h
further_ends t d whole before (x ∷ xs) h e = absurd (let no : ⊥ = omega arith in no)
