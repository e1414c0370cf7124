-- Texts in form 2, read back: of the fetches the outlines.
use Rattle.std.proofs.Common.{◌≡◌, ℕ, suc, ◌<◌, ◌≤◌, Bool, true, false, cond, List, [], ◌∷◌, ◌++◌, length, map, refl, sym, ap, ◌∙◌, arith, append-nil, append_assoc, subst, Some, None, length-append}
use Rattle.std.specs.Prelude.{All, codes, decimal, slice_get}
use Rattle.std.specs.List.{concat}
use Rattle.std.proofs.Math.Nat.{min-eq_left}
use Rattle.std.proofs.lemmas.Option.{get_or_from_slice_get, slice_get_within}
use Rattle.room_kinds.specs.declared.numbers.ControllerId.{ControllerId}
use Rattle.room_kinds.specs.declared.numbers.Stamp.{Stamp}
use Rattle.room_kinds.specs.declared.message.Msg.{Msg}
use Rattle.room_wiring.specs.declared.tables.Tables.{Tables}
use Rattle.room_outside.specs.line_text.Lines.{line}
use Rattle.journal.specs.declared.entry.Entry.{Entry}
use Rattle.journal.specs.declared.entry.Entry.TheVariants as entries
use Rattle.journal.specs.declared.entry.Journals.{Journals}
use Rattle.journal.specs.Names.{party_text}
use Rattle.journal.specs.Lines.{entry_text}
use Rattle.journal.specs.Text.{title_of}
use Rattle.journal.specs.Fits.{IsParty, FitsEntry, Fits}
use Rattle.tied_journals.specs.Tied.{next_fetch, journal_of, AreTied, Tied}
use Rattle.tied_journals.specs.Text.{sent_parts, fetch_parts, tied_entries_text, tied_journal_text, tied_controller_text, tied_controllers_text, below_text, rest_text, tied_text_of}
use Rattle.tied_journals.proofs.UntiedSteps.{of_controller}
use Rattle.journal_reader.specs.declared.journal_lines.draft.Draft.{Draft}
use Rattle.journal_reader.specs.declared.journal_lines.draft.Head.{Head}
use Rattle.journal_reader.specs.declared.journal_lines.draft.Head.TheVariants as heads
use Rattle.journal_reader.specs.journal_lines.Numerals.{upto, past, number_in}
use Rattle.journal_reader.specs.journal_lines.Fields.{party_in}
use Rattle.journal_reader.specs.journal_lines.Drafts.{closed_at, closed, entered, nothing_read, finished, journals_of}
use Rattle.journal_reader.specs.journal_lines.Fetches.{outline, outline_in, fetched_after, further, fetches}
use Rattle.journal_reader.specs.journal_lines.Reading.{any_fetched, fetched, timed, worded, taking, reading, journals_in}
use Rattle.journal_reader.specs.journal_texts.InRange.{InRangeMsg, InRangeEntry, IsInRange}
use Rattle.journal_reader.specs.journal_texts.Outlines.{outlined, outlined_entries, outlined_journals}
use Rattle.journal_reader.proofs.journal_lines.Cutting.{lacks, upto_at, past_at, upto_all, past_all, end_read}
use Rattle.journal_reader.proofs.journal_lines.FetchSteps.{fetched_at, further_next, further_none, further_enough}
use Rattle.journal_reader.proofs.journal_texts.NumbersBack.{lacks-append, number_lacks, number_back}
use Rattle.journal_reader.proofs.journal_texts.NamesText.{All-head, All-tail}
use Rattle.journal_reader.proofs.journal_texts.FieldsBack.{Sized, party_back, party_lacks}
use Rattle.journal_reader.proofs.journal_texts.EntriesBack.{Plain, settled, settled_closed, Leads, LeadsOn, no_text, then_text, one_line, timed_line, party_stays, form_stays, closed_entered, entry_leads}
use Rattle.journal_reader.proofs.journal_texts.JournalsBack.{environment_line, listed, ReadsAs, ReadFrom, each_of_all, own_range, below, body_leads}

-- ---- a word

-- `<from>@<sent>`
abbrev told : Tables → Msg → List ℕ
told t m = party_text t m.from.0 ++ 64 ∷ decimal m.stamp.0

no_blank : (t : Tables) (m : Msg) → InRangeMsg m → lacks 32 (told t m) ≡ true
no_blank t m range = lacks-append 32 (party_text t m.from.0) (64 ∷ decimal m.stamp.0) (party_lacks 32 t m.from.0 range.from refl refl) (number_lacks 32 m.stamp.0 range.stamp refl)

no_end : (t : Tables) (m : Msg) → InRangeMsg m → lacks 10 (told t m) ≡ true
no_end t m range = lacks-append 10 (party_text t m.from.0) (64 ∷ decimal m.stamp.0) (party_lacks 10 t m.from.0 range.from refl refl) (number_lacks 10 m.stamp.0 range.stamp refl)

-- a word isn't empty
some_word : (t : Tables) (m : Msg) (r : List ℕ) → 0 < length (told t m ++ r)
some_word t m r =
    let tail : List ℕ = 64 ∷ decimal m.stamp.0 in
    omega (arith, length-append (told t m) r, length-append (party_text t m.from.0) tail)

-- the message as which a line tells it
abbrev outline_of : Msg → Msg
outline_of m = outline m.from.0 m.to m.stamp.0

outline_back : (t : Tables) (to : ControllerId) (m : Msg) → IsParty t m.from.0 → InRangeMsg m → to.0 ≡ m.to.0 → outline_in t to (told t m) ≡ outline_of m
unfolding outline_in
outline_back t to m party range same =
    let no_at : lacks 64 (party_text t m.from.0) ≡ true = party_lacks 64 t m.from.0 range.from refl refl in
    let tail : List ℕ = decimal m.stamp.0 in
    let from : party_in t (upto 64 (told t m)) ≡ m.from.0 = ap (party_in t) (upto_at 64 (party_text t m.from.0) tail no_at) ∙ party_back t m.from.0 party range.from in
    let sent : number_in (past 64 (told t m)) ≡ m.stamp.0 = ap number_in (past_at 64 (party_text t m.from.0) tail no_at) ∙ number_back m.stamp.0 range.stamp in
    ap (λ (n : ℕ). outline n to (number_in (past 64 (told t m)))) from ∙ ap (λ (n : ℕ). outline m.from.0 to n) sent
    ∙ ap (λ (n : ℕ). outline m.from.0 (record { 0 = n }) m.stamp.0) same

source_shape : (t : Tables) (m : Msg) → concat (sent_parts t m) ≡ 32 ∷ told t m
source_shape t m = ap (λ (x : List ℕ). 32 ∷ (party_text t m.from.0 ++ 64 ∷ x)) (append-nil (decimal m.stamp.0))

-- the first fetch of a line
abbrev first_word : Tables → ℕ → Msg → List ℕ
first_word t stamp m = decimal stamp ++ 32 ∷ (codes "fetch " ++ told t m)

fetch_shape : (t : Tables) (stamp : ℕ) (m : Msg) → concat (fetch_parts t stamp m) ≡ first_word t stamp m
fetch_shape t stamp m = ap (λ (x : List ℕ). decimal stamp ++ (codes " fetch" ++ x)) (source_shape t m)

-- ---- a line of fetches that isn't at its end

-- read from `d0` on, the line w leads to `d`, where the last fetch was at `before`, and further fetches go on from there
pub record Begun (t : Tables) (d0 : Draft) (w : List ℕ) (d : Draft) (before : ℕ) : Type 0 where
  pub free : lacks 10 w ≡ true
  pub ends : taking t d0 w ≡ d
  pub goes : (s : List ℕ) (n : ℕ) → length s ≤ n → taking t d0 (w ++ 32 ∷ s) ≡ further n t d before s

-- the draft with one more fetch
abbrev with_fetch : Draft → Stamp → Msg → Draft
with_fetch d stamp m = entered d (entries.Fetch stamp (outline_of m))

fetches_read : (t : Tables) (d : Draft) (stamp : Stamp) (m : Msg) (x s : List ℕ) → IsParty t m.from.0 → InRangeMsg m → d.party.0 ≡ m.to.0 → upto 32 x ≡ told t m → past 32 x ≡ s
    → fetches t d stamp.0 x ≡ further (length s) t (with_fetch d stamp m) stamp.0 s
unfolding fetches
fetches_read t d stamp m x s party range to word rest =
    ap (λ (w : List ℕ). further (length (past 32 x)) t (entered d (entries.Fetch stamp (outline_in t d.party w))) stamp.0 (past 32 x)) word
    ∙ ap (λ (y : Msg). further (length (past 32 x)) t (entered d (entries.Fetch stamp y)) stamp.0 (past 32 x)) (outline_back t d.party m party range to)
    ∙ ap (λ (r : List ℕ). further (length r) t (with_fetch d stamp m) stamp.0 r) rest

first_read : (t : Tables) (d : Draft) (stamp : Stamp) (x : List ℕ) → stamp.0 < 18446744073709551616 → d.tied ≡ true → taking t d (decimal stamp.0 ++ 32 ∷ (codes "fetch " ++ x)) ≡ fetches t d stamp.0 x
unfolding timed any_fetched
first_read t d stamp x small tied =
    timed_line t d stamp.0 (codes "fetch " ++ x) small ∙ ap (λ (b : Bool). cond b (fetches t d stamp.0 x) (fetched t d stamp.0 x)) tied

begun_first : (t : Tables) (d : Draft) (stamp : Stamp) (m : Msg) → IsParty t m.from.0 → InRangeMsg m → stamp.0 < 18446744073709551616 → d.party.0 ≡ m.to.0 → d.tied ≡ true
    → Begun t d (first_word t stamp.0 m) (with_fetch d stamp m) stamp.0
begun_first t d stamp m party range small to tied = record {
  free = lacks-append 10 (decimal stamp.0) (32 ∷ (codes "fetch " ++ told t m)) (number_lacks 10 stamp.0 small refl) (no_end t m range);
  ends =
      first_read t d stamp (told t m) small tied
      ∙ fetches_read t d stamp m (told t m) [] party range to (upto_all 32 (told t m) (no_blank t m range)) (past_all 32 (told t m) (no_blank t m range));
  goes = λ s n h.
      ap (taking t d) (append_assoc (decimal stamp.0) (32 ∷ (codes "fetch " ++ told t m)) (32 ∷ s))
      ∙ first_read t d stamp (told t m ++ 32 ∷ s) small tied
      ∙ fetches_read t d stamp m (told t m ++ 32 ∷ s) s party range to (upto_at 32 (told t m) s (no_blank t m range)) (past_at 32 (told t m) s (no_blank t m range))
      ∙ further_enough (length s) n t (with_fetch d stamp m) stamp.0 s (omega arith) h;
}

-- one further fetch
one_further : (t : Tables) (d : Draft) (before : ℕ) (stamp : Stamp) (m : Msg) (x s : List ℕ) (n : ℕ) → IsParty t m.from.0 → InRangeMsg m → stamp.0 < 18446744073709551616 → d.party.0 ≡ m.to.0
    → stamp.0 ≡ next_fetch before m.stamp.0 → 0 < length x → upto 32 x ≡ told t m → past 32 x ≡ s → further (suc n) t d before x ≡ further n t (with_fetch d stamp m) stamp.0 s
one_further t d before stamp m x s n party range small to follows some word rest =
    let at : fetched_after before m.stamp.0 ≡ stamp.0 = min-eq_left (let low : next_fetch before m.stamp.0 ≤ 18446744073709551615 = omega arith in low) ∙ sym follows in
    let is : outline_in t d.party (upto 32 x) ≡ outline_of m = ap (λ (w : List ℕ). outline_in t d.party w) word ∙ outline_back t d.party m party range to in
    further_next n t d before x some
    ∙ ap (λ (y : Msg). further n t (fetched_at d before y) (fetched_after before y.stamp.0) (past 32 x)) is
    ∙ ap (λ (k : ℕ). further n t (entered d (entries.Fetch (record { 0 = k }) (outline_of m))) k (past 32 x)) at
    ∙ ap (λ (r : List ℕ). further n t (with_fetch d stamp m) stamp.0 r) rest

begun_more : (t : Tables) (d0 d : Draft) (w : List ℕ) (before : ℕ) (stamp : Stamp) (m : Msg) → Begun t d0 w d before → IsParty t m.from.0 → InRangeMsg m → stamp.0 < 18446744073709551616 → d.party.0 ≡ m.to.0
    → stamp.0 ≡ next_fetch before m.stamp.0 → Begun t d0 (w ++ 32 ∷ told t m) (with_fetch d stamp m) stamp.0
begun_more t d0 d w before stamp m b party range small to follows = record {
  free = lacks-append 10 w (32 ∷ told t m) b.free (no_end t m range);
  ends =
      let some : 0 < length (told t m) = subst (λ (x : List ℕ). 0 < length x) (append-nil (told t m)) (some_word t m []) in
      b.goes (told t m) (suc (length (told t m))) (omega arith)
      ∙ one_further t d before stamp m (told t m) [] (length (told t m)) party range small to follows some (upto_all 32 (told t m) (no_blank t m range)) (past_all 32 (told t m) (no_blank t m range))
      ∙ further_none (length (told t m)) t (with_fetch d stamp m) stamp.0;
  goes = λ s n h.
      let x : List ℕ = told t m ++ 32 ∷ s in
      let long : length s ≤ length x = omega (arith, length-append (told t m) (32 ∷ s)) in
      ap (taking t d0) (append_assoc w (32 ∷ told t m) (32 ∷ s))
      ∙ b.goes x (suc (length x)) (omega arith)
      ∙ one_further t d before stamp m x s (length x) party range small to follows (some_word t m (32 ∷ s)) (upto_at 32 (told t m) s (no_blank t m range)) (past_at 32 (told t m) s (no_blank t m range))
      ∙ further_enough (length x) n t (with_fetch d stamp m) stamp.0 s long h;
}

-- ---- a controller's journal

-- where the entries of a controller's journal were read so far
abbrev here : List (List Entry) → ControllerId → List Entry → Draft
here cs p es = settled true cs true p es [] [] false

-- the entries are read, whether a line of fetches stands begun or not
pub record Leading (t : Tables) (j : Journals) (cs : List (List Entry)) (p : ControllerId) (es : List Entry) : Type 0 where
  pub fresh : (done : List Entry) → AreTied j None es → LeadsOn t (here cs p done) (tied_entries_text t false es) (here cs p (done ++ map outlined es))
  pub begun : (done : List Entry) (d0 d : Draft) (w : List ℕ) (before : ℕ) → Begun t d0 w d before → closed d ≡ here cs p done → AreTied j (Some before) es
      → Leads t d0 (w ++ tied_entries_text t true es) (here cs p (done ++ map outlined es))

-- another entry ends the line
begun_other : (t : Tables) (d0 d : Draft) (w : List ℕ) (before : ℕ) (text : List ℕ) (a b : Draft) → Begun t d0 w d before → closed d ≡ a → LeadsOn t a text b → Leads t d0 (w ++ 10 ∷ text) b
begun_other t d0 d w before text a b st is leads =
    let on = leads d is in
    record {
      next = on.next;
      lines = λ r. ap (λ (x : List ℕ). reading t d0 x) (append_assoc w (10 ∷ text) r ∙ sym (append_assoc w (10 ∷ []) (text ++ r))) ∙ one_line t d0 d w st.free st.ends (text ++ r) ∙ on.lines r;
      closes = on.closes;
    }

fresh_other : (t : Tables) (cs : List (List Entry)) (p : ControllerId) (done : List Entry) (e : Entry) (xs : List Entry) (text : List ℕ) → Sized t → Plain true e → FitsEntry t p.0 e → InRangeEntry e
    → LeadsOn t (here cs p (done ++ e ∷ [])) text (here cs p ((done ++ e ∷ []) ++ xs)) → LeadsOn t (here cs p done) (entry_text t e ++ text) (here cs p (done ++ e ∷ xs))
fresh_other t cs p done e xs text sized same fits range rest =
    subst (λ (ys : List Entry). LeadsOn t (here cs p done) (entry_text t e ++ text) (here cs p ys)) (append_assoc done (e ∷ []) xs)
    (then_text t (here cs p done) (here cs p (done ++ e ∷ [])) (here cs p ((done ++ e ∷ []) ++ xs)) (entry_text t e) text (entry_leads t e true cs true p done [] [] false sized same fits range) rest)

-- an entry that is no fetch
other_leading : (t : Tables) (j : Journals) (cs : List (List Entry)) (p : ControllerId) (e : Entry) (es : List Entry) → Sized t → Plain true e → FitsEntry t p.0 e → InRangeEntry e → Leading t j cs p es
    → (done : List Entry) → AreTied j None es → LeadsOn t (here cs p done) (entry_text t e ++ tied_entries_text t false es) (here cs p (done ++ e ∷ map outlined es))
other_leading t j cs p e es sized same fits range rest done tied =
    fresh_other t cs p done e (map outlined es) (tied_entries_text t false es) sized same fits range (rest.fresh (done ++ e ∷ []) tied)

-- what is known of a draft whose entry is closed
at_party : (cs : List (List Entry)) (p : ControllerId) (done : List Entry) (d : Draft) (m : Msg) → closed d ≡ here cs p done → m.to.0 ≡ p.0 → d.party.0 ≡ m.to.0
at_party cs p done d m e to = sym (ap (λ (x : ControllerId). x.0) (party_stays d)) ∙ ap (λ (x : Draft). x.party.0) e ∙ sym to

is_tied : (cs : List (List Entry)) (p : ControllerId) (done : List Entry) (d : Draft) → closed d ≡ here cs p done → d.tied ≡ true
is_tied cs p done d e = sym (form_stays d) ∙ ap (λ (x : Draft). x.tied) e

pub leading : (t : Tables) (j : Journals) (cs : List (List Entry)) (p : ControllerId) (es : List Entry) → Sized t → All (FitsEntry t p.0) es → All InRangeEntry es → Leading t j cs p es
leading t j cs p [] sized fits range = record {
  fresh = λ done tied. subst (λ (x : List Entry). LeadsOn t (here cs p done) [] (here cs p x)) (sym (append-nil done)) (no_text t (here cs p done));
  begun = λ done d0 d w before st is tied. record { next = d; lines = one_line t d0 d w st.free st.ends; closes = is ∙ ap (here cs p) (sym (append-nil done)) };
}
leading t j cs p (entries.Start who state ns ∷ es) sized fits range =
    let e : Entry = entries.Start who state ns in
    let rest = leading t j cs p es sized (All-tail (FitsEntry t p.0) e es fits) (All-tail InRangeEntry e es range) in
    let on = other_leading t j cs p e es sized tt (All-head (FitsEntry t p.0) e es fits) (All-head InRangeEntry e es range) rest in
    record {
      fresh = λ done tied. on done tied.1;
      begun = λ done d0 d w before st is tied. begun_other t d0 d w before (entry_text t e ++ tied_entries_text t false es) (here cs p done) (here cs p (done ++ e ∷ map outlined es)) st is (on done tied.1);
    }
leading t j cs p (entries.Turn stamp from sent did ns ∷ es) sized fits range =
    let e : Entry = entries.Turn stamp from sent did ns in
    let rest = leading t j cs p es sized (All-tail (FitsEntry t p.0) e es fits) (All-tail InRangeEntry e es range) in
    let on = other_leading t j cs p e es sized tt (All-head (FitsEntry t p.0) e es fits) (All-head InRangeEntry e es range) rest in
    record {
      fresh = λ done tied. on done tied.1;
      begun = λ done d0 d w before st is tied. begun_other t d0 d w before (entry_text t e ++ tied_entries_text t false es) (here cs p done) (here cs p (done ++ e ∷ map outlined es)) st is (on done tied.1);
    }
leading t j cs p (entries.Post stamp m ∷ es) sized fits range =
    let e : Entry = entries.Post stamp m in
    let rest = leading t j cs p es sized (All-tail (FitsEntry t p.0) e es fits) (All-tail InRangeEntry e es range) in
    let on = other_leading t j cs p e es sized tt (All-head (FitsEntry t p.0) e es fits) (All-head InRangeEntry e es range) rest in
    record {
      fresh = λ done tied. on done tied.1;
      begun = λ done d0 d w before st is tied. begun_other t d0 d w before (entry_text t e ++ tied_entries_text t false es) (here cs p done) (here cs p (done ++ e ∷ map outlined es)) st is (on done tied.1);
    }
leading t j cs p (entries.Fetch stamp m ∷ es) sized fits range =
    let e : Entry = entries.Fetch stamp m in
    let x : Entry = entries.Fetch stamp (outline_of m) in
    let own : FitsEntry t p.0 e = All-head (FitsEntry t p.0) e es fits in
    let sized_own : InRangeEntry e = All-head InRangeEntry e es range in
    let rest = leading t j cs p es sized (All-tail (FitsEntry t p.0) e es fits) (All-tail InRangeEntry e es range) in
    let T : List ℕ = tied_entries_text t true es in
    record {
      fresh = λ done tied d is.
          let st = begun_first t d stamp m own.1.from sized_own.1 sized_own.0 (at_party cs p done d m is own.0) (is_tied cs p done d is) in
          let closes : closed (with_fetch d stamp m) ≡ here cs p (done ++ x ∷ []) = closed_entered d x true cs true p done [] [] false is in
          let on : Leads t d (first_word t stamp.0 m ++ T) (here cs p ((done ++ x ∷ []) ++ map outlined es)) = rest.begun (done ++ x ∷ []) d (with_fetch d stamp m) (first_word t stamp.0 m) stamp.0 st closes tied.1 in
          subst (λ (ys : List Entry). Leads t d (concat (fetch_parts t stamp.0 m) ++ T) (here cs p ys)) (append_assoc done (x ∷ []) (map outlined es))
          (subst (λ (w : List ℕ). Leads t d (w ++ T) (here cs p ((done ++ x ∷ []) ++ map outlined es))) (sym (fetch_shape t stamp.0 m)) on);
      begun = λ done d0 d w before st is tied.
          let st2 = begun_more t d0 d w before stamp m st own.1.from sized_own.1 sized_own.0 (at_party cs p done d m is own.0) tied.0.follows in
          let closes : closed (with_fetch d stamp m) ≡ here cs p (done ++ x ∷ []) = closed_entered d x true cs true p done [] [] false is in
          let on : Leads t d0 ((w ++ 32 ∷ told t m) ++ T) (here cs p ((done ++ x ∷ []) ++ map outlined es)) = rest.begun (done ++ x ∷ []) d0 (with_fetch d stamp m) (w ++ 32 ∷ told t m) stamp.0 st2 closes tied.1 in
          subst (λ (ys : List Entry). Leads t d0 (w ++ (concat (sent_parts t m) ++ T)) (here cs p ys)) (append_assoc done (x ∷ []) (map outlined es))
          (subst (λ (y : List ℕ). Leads t d0 (w ++ (y ++ T)) (here cs p ((done ++ x ∷ []) ++ map outlined es))) (sym (source_shape t m))
          (subst (λ (y : List ℕ). Leads t d0 y (here cs p ((done ++ x ∷ []) ++ map outlined es))) (append_assoc w (32 ∷ told t m) T) on));
    }

-- ---- the whole text

tied_reads : (t : Tables) (j : Journals) (c : ℕ) (es : List Entry) → Sized t → All (FitsEntry t c) es → All InRangeEntry es → AreTied j None es → ReadsAs t true (tied_journal_text t) outlined_entries c es
unfolding tied_journal_text
tied_reads t j c es sized fits range tied cs = (leading t j cs (record { 0 = c }) es sized fits range).fresh [] tied

listed_is : (t : Tables) (c : ℕ) (ess : List (List Entry)) → listed t (tied_journal_text t) c ess ≡ tied_controllers_text t c ess
unfolding tied_controller_text
listed_is t c [] = refl
listed_is t c (es ∷ ess) = ap (λ (x : List ℕ). (title_of t c ++ tied_journal_text t es) ++ x) (listed_is t (suc c) ess)

own_tied : (j : Journals) (k : ℕ) (es : List Entry) → Tied j → slice_get j.controllers k ≡ Some es → AreTied j None es
own_tied j k es tied e =
    let is : journal_of j k ≡ es = sym (of_controller j k [] (slice_get_within j.controllers k es e)) ∙ get_or_from_slice_get j.controllers k es [] e in
    subst (λ (x : List Entry). AreTied j None x) is (tied.entries k)

closed_form : (d : Draft) → closed (record d { tied = true }) ≡ record (closed d) { tied = true }
unfolding closed
closed_form d = by_head d d.head
  where
    by_head : (d : Draft) (h : Head) → closed_at (record d { tied = true }) h ≡ record (closed_at d h) { tied = true }
    by_head d heads.Nothing = refl
    by_head d (heads.Start who state) = refl
    by_head d (heads.Turn stamp from sent did) = refl

title_taken : (t : Tables) (d : Draft) → taking t d (codes "room-journal 2") ≡ record d { tied = true }
unfolding taking worded
title_taken t d = refl

title_leads : (t : Tables) → LeadsOn t (settled false [] false (record { 0 = 0 }) [] [] [] false) (line (codes "room-journal 2" ∷ [])) (settled true [] false (record { 0 = 0 }) [] [] [] false)
title_leads t d e = record {
  next = record d { tied = true };
  lines = one_line t d (record d { tied = true }) (codes "room-journal 2") refl (title_taken t d);
  closes = closed_form d ∙ ap (λ (x : Draft). record x { tied = true }) e;
}

whole_tied_text : (t : Tables) (j : Journals) → Sized t → Fits t j → IsInRange j → Tied j
    → LeadsOn t (settled false [] false (record { 0 = 0 }) [] [] [] false) (tied_text_of t j) (settled true (map outlined_entries j.controllers) true (record { 0 = length t.controllers }) j.environment j.left j.unposted j.done)
unfolding tied_text_of rest_text below_text
whole_tied_text t j sized fits range tied =
    let start : Draft = settled false [] false (record { 0 = 0 }) [] [] [] false in
    let begun : Draft = settled true [] false (record { 0 = 0 }) [] [] [] false in
    let done : Draft = settled true (map outlined_entries j.controllers) true (record { 0 = length t.controllers }) j.environment j.left j.unposted j.done in
    let each : ReadFrom t true (tied_journal_text t) outlined_entries 0 j.controllers =
    each_of_all t true (tied_journal_text t) outlined_entries j.controllers
    (λ k es e. tied_reads t j k es sized (fits.entries k es e) (own_range j k es range e) (own_tied j k es tied e)) (omega (arith, fits.journals)) in
    let body = body_leads t true (tied_journal_text t) outlined_entries j sized fits range each in
    then_text t start begun done (line (codes "room-journal 2" ∷ [])) (tied_controllers_text t 0 j.controllers ++ (environment_line ++ below t j)) (title_leads t)
    (subst (λ (x : List ℕ). LeadsOn t begun (x ++ (environment_line ++ below t j)) done) (listed_is t 0 j.controllers) body)

-- what the text of tied journals is read as are their outlines
pub tied_reads_back : (t : Tables) (j : Journals) → Sized t → Fits t j → IsInRange j → Tied j → journals_in t (tied_text_of t j) ≡ outlined_journals j
unfolding journals_in
tied_reads_back t j sized fits range tied =
    let read = whole_tied_text t j sized fits range tied nothing_read (settled_closed false [] false (record { 0 = 0 }) [] [] [] false) in
    let end : reading t nothing_read (tied_text_of t j) ≡ read.next = ap (λ (x : List ℕ). reading t nothing_read x) (sym (append-nil (tied_text_of t j))) ∙ read.lines [] ∙ end_read t read.next in
    ap finished end ∙ ap journals_of read.closes
