-- Entries, read back line by line.
use Rattle.std.proofs.Common.{◌≡◌, ℕ, ◌<◌, Bool, true, false, cond, List, [], ◌∷◌, ◌++◌, refl, sym, ap, ◌∙◌, arith, append-nil, append_assoc, subst, Option, Some, None}
use Rattle.std.specs.Prelude.{All, codes, decimal, fold}
use Rattle.room_kinds.specs.declared.numbers.Incarnation.{Incarnation}
use Rattle.room_kinds.specs.declared.numbers.ControllerId.{ControllerId}
use Rattle.room_kinds.specs.declared.numbers.Stamp.{Stamp}
use Rattle.room_kinds.specs.declared.numbers.SlotId.{SlotId}
use Rattle.room_kinds.specs.declared.message.Msg.{Msg}
use Rattle.room_kinds.specs.declared.note.Note.{Note}
use Rattle.room_wiring.specs.declared.tables.Tables.{Tables}
use Rattle.journal.specs.declared.entry.Did.{Did}
use Rattle.journal.specs.declared.entry.Left.{Left}
use Rattle.journal.specs.declared.entry.Entry.{Entry}
use Rattle.journal.specs.declared.entry.Entry.TheVariants as entries
use Rattle.journal.specs.Names.{party_text}
use Rattle.journal.specs.Lines.{note_lines, speaker_after, is_duty, speaker_of, start_line, fetch_line, turn_line, post_line, entry_text}
use Rattle.journal.specs.Fits.{IsParty, FitsMessage, FitsStanding, FitsDid, FitsNote, FitsNotes, FitsEntry, FitsPost}
use Rattle.journal.specs.Text.{journal_text}
use Rattle.journal_reader.specs.declared.journal_lines.draft.Draft.{Draft}
use Rattle.journal_reader.specs.declared.journal_lines.draft.Head.{Head}
use Rattle.journal_reader.specs.declared.journal_lines.draft.Head.TheVariants as heads
use Rattle.journal_reader.specs.journal_lines.Numerals.{upto, past, number_in, byte_in}
use Rattle.journal_reader.specs.journal_lines.Fields.{party_in}
use Rattle.journal_reader.specs.journal_lines.Messages.{message_in, did_in, state_after}
use Rattle.journal_reader.specs.journal_lines.Fetches.{fetches}
use Rattle.journal_reader.specs.journal_lines.Drafts.{closed_at, closed, opened, entered, duty_open, annotated}
use Rattle.journal_reader.specs.journal_lines.Reading.{fetched, any_fetched, turned, posted, timed, started, worded, taking, reading}
use Rattle.journal_reader.proofs.journal_lines.Cutting.{lacks, upto_at, past_at, line_read}
use Rattle.journal_reader.specs.journal_texts.InRange.{InRangeMsg, InRangeStanding, InRangeDid, InRangeNote, InRangeTurn, InRangeEntry}
use Rattle.journal_reader.proofs.journal_texts.NumbersBack.{lacks-append, number_lacks, number_back, number_begins, byte_back}
use Rattle.journal_reader.proofs.journal_texts.NamesText.{All-head, All-tail}
use Rattle.journal_reader.proofs.journal_texts.FieldsBack.{Sized, party_back, party_lacks}
use Rattle.journal_reader.proofs.journal_texts.MessagesBack.{message_text, message_shape, message_back, message_lacks}
use Rattle.journal_reader.proofs.journal_texts.NotesBack.{standing_text, standing_shape, standing_back, standing_lacks, did_text, did_shape, did_back, did_lacks, note_text, note_shape, note_back, note_lacks}

-- ---- drafts in which no entry stands begun

abbrev pub settled : Bool → List (List Entry) → Bool → ControllerId → List Entry → List Left → List ℕ → Bool → Draft
settled fo controllers titled party es left unposted done = record {
  tied = fo;
  controllers = controllers;
  titled = titled;
  party = party;
  entries = es;
  head = heads.Nothing;
  notes = [];
  speaker = None;
  left = left;
  unposted = unposted;
  done = done;
}

-- a text leads from a draft to one that is this one as soon as its entry is closed
pub record Leads (t : Tables) (d : Draft) (text : List ℕ) (after : Draft) : Type 0 where
  pub next : Draft
  pub lines : (r : List ℕ) → reading t d (text ++ r) ≡ reading t next r
  pub closes : closed next ≡ after

-- it leads there from each draft that is this one as soon as its entry is closed
abbrev pub LeadsOn : Tables → Draft → List ℕ → Draft → Type 0
LeadsOn t before text after = (d : Draft) → closed d ≡ before → Leads t d text after

pub no_text : (t : Tables) (d : Draft) → LeadsOn t d [] d
no_text t d x e = record { next = x; lines = λ r. refl; closes = e }

pub then_text : (t : Tables) (a b c : Draft) (xs ys : List ℕ) → LeadsOn t a xs b → LeadsOn t b ys c → LeadsOn t a (xs ++ ys) c
then_text t a b c xs ys f g d e =
    let first = f d e in
    let second = g first.next first.closes in
    record {
      next = second.next;
      lines = λ r. ap (λ (x : List ℕ). reading t d x) (append_assoc xs ys r) ∙ first.lines (ys ++ r) ∙ second.lines r;
      closes = second.closes;
    }

-- one line
pub one_line : (t : Tables) (d next : Draft) (w : List ℕ) → lacks 10 w ≡ true → taking t d w ≡ next → (r : List ℕ) → reading t d ((w ++ 10 ∷ []) ++ r) ≡ reading t next r
one_line t d next w free e r = ap (λ (x : List ℕ). reading t d x) (append_assoc w (10 ∷ []) r) ∙ line_read t d w r free ∙ ap (λ (x : Draft). reading t x r) e

-- ---- notes

noted_line : (t : Tables) (d : Draft) (n : Note) → Sized t → FitsNote t d.speaker n → InRangeNote n → taking t d (codes "note " ++ note_text t d.speaker n) ≡ annotated d n
unfolding taking worded
noted_line t d n sized fits range = ap (annotated d) (note_back t d.speaker n sized fits range)

noted : (t : Tables) (d : Draft) (ns : List Note) → Sized t → FitsNotes t (duty_open d.head) d.speaker ns → All InRangeNote ns → (r : List ℕ) → reading t d (note_lines t (duty_open d.head) d.speaker ns ++ r) ≡ reading t (fold annotated d ns) r
noted t d [] sized fits range r = refl
noted t d (n ∷ ns) sized fits range r =
    let own : InRangeNote n = All-head InRangeNote n ns range in
    let w : List ℕ = codes "note " ++ note_text t d.speaker n in
    let free : lacks 10 w ≡ true = note_lacks t d.speaker n sized fits.0 own in
    let more : List ℕ = note_lines t (duty_open d.head) (speaker_after (duty_open d.head) d.speaker n) ns in
    ap (λ (x : List ℕ). reading t d ((x ++ more) ++ r)) (note_shape t d.speaker n) ∙ ap (λ (x : List ℕ). reading t d x) (append_assoc (w ++ 10 ∷ []) more r)
    ∙ one_line t d (annotated d n) w free (noted_line t d n sized fits.0 own) (more ++ r)
    ∙ noted t (annotated d n) ns sized fits.1 (All-tail InRangeNote n ns range) r

-- notes change nothing but the notes and who speaks
pub record Annotates (d : Draft) (ns : List Note) (next : Draft) : Type 0 where
  pub speaks : Option SlotId
  pub changes : next ≡ record d { notes = d.notes ++ ns; speaker = speaks }

annotates : (d : Draft) (ns : List Note) → Annotates d ns (fold annotated d ns)
annotates d [] = record { speaks = d.speaker; changes = ap (λ (xs : List Note). record d { notes = xs }) (sym (append-nil d.notes)) }
annotates d (n ∷ ns) =
    let rest = annotates (annotated d n) ns in
    record { speaks = rest.speaks; changes = rest.changes ∙ ap (λ (xs : List Note). record d { notes = xs; speaker = rest.speaks }) (append_assoc d.notes (n ∷ []) ns) }

-- ---- entries with notes

closed_start : (d : Draft) (who : Incarnation) (state : ℕ) (s r : Option SlotId) (ns : List Note) (fo : Bool) (cs : List (List Entry)) (ti : Bool) (p : ControllerId) (es : List Entry) (ls : List Left) (us : List ℕ) (dn : Bool)
    → d ≡ settled fo cs ti p es ls us dn → closed (record (record d { head = heads.Start who state; speaker = s }) { notes = d.notes ++ ns; speaker = r }) ≡ settled fo cs ti p (es ++ entries.Start who state ns ∷ []) ls us dn
unfolding closed
closed_start d who state s r ns fo cs ti p es ls us dn e =
    ap (λ (x : Draft). closed (record (record x { head = heads.Start who state; speaker = s }) { notes = x.notes ++ ns; speaker = r })) e

closed_turn : (d : Draft) (stamp : Stamp) (from : ControllerId) (sent : Stamp) (did : Did) (s r : Option SlotId) (ns : List Note) (fo : Bool) (cs : List (List Entry)) (ti : Bool) (p : ControllerId) (es : List Entry) (ls : List Left) (us : List ℕ) (dn : Bool)
    → d ≡ settled fo cs ti p es ls us dn → closed (record (record d { head = heads.Turn stamp from sent did; speaker = s }) { notes = d.notes ++ ns; speaker = r }) ≡ settled fo cs ti p (es ++ entries.Turn stamp from sent did ns ∷ []) ls us dn
unfolding closed
closed_turn d stamp from sent did s r ns fo cs ti p es ls us dn e =
    ap (λ (x : Draft). closed (record (record x { head = heads.Turn stamp from sent did; speaker = s }) { notes = x.notes ++ ns; speaker = r })) e

start_taken : (t : Tables) (d : Draft) (who : Incarnation) (state : ℕ) → Sized t → FitsStanding t who state → InRangeStanding who state → taking t d (codes "start " ++ standing_text t who state) ≡ opened d (heads.Start who state) (Some who.slot)
unfolding taking worded started
start_taken t d who state sized fits range =
    let b = standing_back t who state sized fits range in
    ap (λ (w : Incarnation). opened d (heads.Start w (state_after t (standing_text t who state))) (Some w.slot)) b.0 ∙ ap (λ (n : ℕ). opened d (heads.Start who n) (Some who.slot)) b.1

start_shape : (t : Tables) (who : Incarnation) (state : ℕ) → start_line t who state ≡ (codes "start " ++ standing_text t who state) ++ 10 ∷ []
start_shape t who state = ap (λ (x : List ℕ). (codes "start " ++ x) ++ 10 ∷ []) (standing_shape t who state)

start_leads : (t : Tables) (who : Incarnation) (state : ℕ) (ns : List Note) (fo : Bool) (cs : List (List Entry)) (ti : Bool) (p : ControllerId) (es : List Entry) (ls : List Left) (us : List ℕ) (dn : Bool)
    → Sized t → FitsStanding t who state → FitsNotes t false (Some who.slot) ns → InRangeStanding who state → All InRangeNote ns
    → LeadsOn t (settled fo cs ti p es ls us dn) (entry_text t (entries.Start who state ns)) (settled fo cs ti p (es ++ entries.Start who state ns ∷ []) ls us dn)
start_leads t who state ns fo cs ti p es ls us dn sized fits fits_notes range range_notes d e =
    let w : List ℕ = codes "start " ++ standing_text t who state in
    let begun : Draft = opened d (heads.Start who state) (Some who.slot) in
    let more : List ℕ = note_lines t false (Some who.slot) ns in
    let free : lacks 10 w ≡ true = standing_lacks t who state sized fits range in
    let added = annotates begun ns in
    record {
      next = fold annotated begun ns;
      lines = λ r.
          ap (λ (x : List ℕ). reading t d ((x ++ more) ++ r)) (start_shape t who state) ∙ ap (λ (x : List ℕ). reading t d x) (append_assoc (w ++ 10 ∷ []) more r)
          ∙ one_line t d begun w free (start_taken t d who state sized fits range) (more ++ r) ∙ noted t begun ns sized fits_notes range_notes r;
      closes = ap closed added.changes ∙ closed_start (closed d) who state (Some who.slot) added.speaks ns fo cs ti p es ls us dn e;
    }

-- a line that begins with a stamp
pub timed_line : (t : Tables) (d : Draft) (stamp : ℕ) (s : List ℕ) → stamp < 18446744073709551616 → taking t d (decimal stamp ++ 32 ∷ s) ≡ timed t d stamp s
unfolding taking
timed_line t d stamp s small =
    let w = decimal stamp in
    let no_blank : lacks 32 w ≡ true = number_lacks 32 stamp small refl in
    ap (λ (b : Bool). cond b (timed t d (number_in (upto 32 (w ++ 32 ∷ s))) (past 32 (w ++ 32 ∷ s))) (worded t d (upto 32 (w ++ 32 ∷ s)) (past 32 (w ++ 32 ∷ s)))) (number_begins stamp (32 ∷ s) small)
    ∙ ap (λ (x : List ℕ). timed t d (number_in x) (past 32 (w ++ 32 ∷ s))) (upto_at 32 w s no_blank) ∙ ap (λ (n : ℕ). timed t d n (past 32 (w ++ 32 ∷ s))) (number_back stamp small)
    ∙ ap (timed t d stamp) (past_at 32 w s no_blank)

-- `<from>@<sent> `, and then a text
abbrev pub sent_then : Tables → ℕ → ℕ → List ℕ → List ℕ
sent_then t from sent r = party_text t from ++ 64 ∷ (decimal sent ++ 32 ∷ r)

pub record SentBack (t : Tables) (from sent : ℕ) (r : List ℕ) : Type 0 where
  pub party : party_in t (upto 64 (sent_then t from sent r)) ≡ from
  pub stamp : number_in (upto 32 (past 64 (sent_then t from sent r))) ≡ sent
  pub rest : past 32 (past 64 (sent_then t from sent r)) ≡ r

pub sent_back : (t : Tables) (from sent : ℕ) (r : List ℕ) → IsParty t from → from < 256 → sent < 18446744073709551616 → SentBack t from sent r
sent_back t from sent r party small fits =
    let tail : List ℕ = decimal sent ++ 32 ∷ r in
    let no_at : lacks 64 (party_text t from) ≡ true = party_lacks 64 t from small refl refl in
    let no_blank : lacks 32 (decimal sent) ≡ true = number_lacks 32 sent fits refl in
    let back : past 64 (sent_then t from sent r) ≡ tail = past_at 64 (party_text t from) tail no_at in
    record {
      party = ap (party_in t) (upto_at 64 (party_text t from) tail no_at) ∙ party_back t from party small;
      stamp = ap (λ (x : List ℕ). number_in (upto 32 x)) back ∙ ap number_in (upto_at 32 (decimal sent) r no_blank) ∙ number_back sent fits;
      rest = ap (past 32) back ∙ past_at 32 (decimal sent) r no_blank;
    }

pub sent_lacks : (t : Tables) (from sent : ℕ) (r : List ℕ) → from < 256 → sent < 18446744073709551616 → lacks 10 r ≡ true → lacks 10 (sent_then t from sent r) ≡ true
sent_lacks t from sent r small fits h =
    lacks-append 10 (party_text t from) (64 ∷ (decimal sent ++ 32 ∷ r)) (party_lacks 10 t from small refl refl) (lacks-append 10 (decimal sent) (32 ∷ r) (number_lacks 10 sent fits refl) h)

-- ---- turns

turn_taken : (t : Tables) (d : Draft) (stamp : Stamp) (from : ControllerId) (sent : Stamp) (did : Did) → Sized t → IsParty t from.0 → FitsDid t did → stamp.0 < 18446744073709551616 → from.0 < 256 → sent.0 < 18446744073709551616 → InRangeDid did
    → taking t d (decimal stamp.0 ++ 32 ∷ (codes "turn " ++ sent_then t from.0 sent.0 (did_text t did))) ≡ opened d (heads.Turn stamp from sent did) (speaker_of did)
unfolding timed turned
turn_taken t d stamp from sent did sized party fits stamp_fits small sent_fits range =
    let s : List ℕ = sent_then t from.0 sent.0 (did_text t did) in
    let back = sent_back t from.0 sent.0 (did_text t did) party small sent_fits in
    let what : did_in t (past 32 (past 64 s)) ≡ did = ap (did_in t) back.rest ∙ did_back t did sized fits range in
    timed_line t d stamp.0 (codes "turn " ++ s) stamp_fits
    ∙ ap (λ (x : Did). opened d (heads.Turn stamp (record { 0 = party_in t (upto 64 s) }) (record { 0 = number_in (upto 32 (past 64 s)) }) x) (speaker_of x)) what
    ∙ ap (λ (n : ℕ). opened d (heads.Turn stamp (record { 0 = n }) (record { 0 = number_in (upto 32 (past 64 s)) }) did) (speaker_of did)) back.party
    ∙ ap (λ (n : ℕ). opened d (heads.Turn stamp from (record { 0 = n }) did) (speaker_of did)) back.stamp

turn_shape : (t : Tables) (stamp from sent : ℕ) (did : Did) → turn_line t stamp from sent did ≡ (decimal stamp ++ 32 ∷ (codes "turn " ++ sent_then t from sent (did_text t did))) ++ 10 ∷ []
turn_shape t stamp from sent did = ap (λ (x : List ℕ). (decimal stamp ++ 32 ∷ (codes "turn " ++ (party_text t from ++ 64 ∷ (decimal sent ++ x)))) ++ 10 ∷ []) (did_shape t did)

turn_leads : (t : Tables) (stamp : Stamp) (from : ControllerId) (sent : Stamp) (did : Did) (ns : List Note) (fo : Bool) (cs : List (List Entry)) (ti : Bool) (p : ControllerId) (es : List Entry) (ls : List Left) (us : List ℕ) (dn : Bool)
    → Sized t → IsParty t from.0 → FitsDid t did → FitsNotes t (is_duty did) (speaker_of did) ns → InRangeTurn stamp.0 from.0 sent.0 did ns
    → LeadsOn t (settled fo cs ti p es ls us dn) (entry_text t (entries.Turn stamp from sent did ns)) (settled fo cs ti p (es ++ entries.Turn stamp from sent did ns ∷ []) ls us dn)
turn_leads t stamp from sent did ns fo cs ti p es ls us dn sized party fits fits_notes range d e =
    let w : List ℕ = decimal stamp.0 ++ 32 ∷ (codes "turn " ++ sent_then t from.0 sent.0 (did_text t did)) in
    let begun : Draft = opened d (heads.Turn stamp from sent did) (speaker_of did) in
    let more : List ℕ = note_lines t (is_duty did) (speaker_of did) ns in
    let free : lacks 10 w ≡ true =
    lacks-append 10 (decimal stamp.0) (32 ∷ (codes "turn " ++ sent_then t from.0 sent.0 (did_text t did))) (number_lacks 10 stamp.0 range.stamped refl)
    (sent_lacks t from.0 sent.0 (did_text t did) range.sender range.posted (did_lacks t did sized fits range.outcome)) in
    let added = annotates begun ns in
    record {
      next = fold annotated begun ns;
      lines = λ r.
          ap (λ (x : List ℕ). reading t d ((x ++ more) ++ r)) (turn_shape t stamp.0 from.0 sent.0 did) ∙ ap (λ (x : List ℕ). reading t d x) (append_assoc (w ++ 10 ∷ []) more r)
          ∙ one_line t d begun w free (turn_taken t d stamp from sent did sized party fits range.stamped range.sender range.posted range.outcome) (more ++ r) ∙ noted t begun ns sized fits_notes range.notes r;
      closes = ap closed added.changes ∙ closed_turn (closed d) stamp from sent did (speaker_of did) added.speaks ns fo cs ti p es ls us dn e;
    }

-- ---- entries without notes

pub settled_closed : (fo : Bool) (cs : List (List Entry)) (ti : Bool) (p : ControllerId) (es : List Entry) (ls : List Left) (us : List ℕ) (dn : Bool) → closed (settled fo cs ti p es ls us dn) ≡ settled fo cs ti p es ls us dn
unfolding closed
settled_closed fo cs ti p es ls us dn = refl

pub closed_entered : (d : Draft) (x : Entry) (fo : Bool) (cs : List (List Entry)) (ti : Bool) (p : ControllerId) (es : List Entry) (ls : List Left) (us : List ℕ) (dn : Bool)
    → closed d ≡ settled fo cs ti p es ls us dn → closed (entered d x) ≡ settled fo cs ti p (es ++ x ∷ []) ls us dn
closed_entered d x fo cs ti p es ls us dn e = ap (λ (y : Draft). closed (record y { entries = y.entries ++ x ∷ [] })) e ∙ settled_closed fo cs ti p (es ++ x ∷ []) ls us dn

-- whose journal is being read is the same while its entry is begun
pub party_stays : (d : Draft) → (closed d).party ≡ d.party
unfolding closed
party_stays d = by_head d d.head
  where
    by_head : (d : Draft) (h : Head) → (closed_at d h).party ≡ d.party
    by_head d heads.Nothing = refl
    by_head d (heads.Start who state) = refl
    by_head d (heads.Turn stamp from sent did) = refl

-- nor does its form change
pub form_stays : (d : Draft) → (closed d).tied ≡ d.tied
unfolding closed
form_stays d = by_head d d.head
  where
    by_head : (d : Draft) (h : Head) → (closed_at d h).tied ≡ d.tied
    by_head d heads.Nothing = refl
    by_head d (heads.Start who state) = refl
    by_head d (heads.Turn stamp from sent did) = refl

fetch_taken : (t : Tables) (d : Draft) (stamp : Stamp) (m : Msg) → Sized t → FitsMessage t m → stamp.0 < 18446744073709551616 → InRangeMsg m → d.party.0 ≡ m.to.0 → d.tied ≡ false
    → taking t d (decimal stamp.0 ++ 32 ∷ (codes "fetch " ++ sent_then t m.from.0 m.stamp.0 (message_text t m))) ≡ entered d (entries.Fetch stamp m)
unfolding timed any_fetched fetched
fetch_taken t d stamp m sized fits stamp_fits range to plain =
    let s : List ℕ = sent_then t m.from.0 m.stamp.0 (message_text t m) in
    let back = sent_back t m.from.0 m.stamp.0 (message_text t m) fits.from range.from range.stamp in
    let is : message_in t (party_in t (upto 64 s)) d.party.0 (number_in (upto 32 (past 64 s))) (past 32 (past 64 s)) ≡ m =
    rw (back.party, back.stamp, back.rest, to) (message_back t m sized fits range) in
    timed_line t d stamp.0 (codes "fetch " ++ s) stamp_fits ∙ ap (λ (b : Bool). cond b (fetches t d stamp.0 s) (fetched t d stamp.0 s)) plain ∙ ap (λ (x : Msg). entered d (entries.Fetch stamp x)) is

fetch_shape : (t : Tables) (stamp : ℕ) (m : Msg) → fetch_line t stamp m ≡ (decimal stamp ++ 32 ∷ (codes "fetch " ++ sent_then t m.from.0 m.stamp.0 (message_text t m))) ++ 10 ∷ []
fetch_shape t stamp m = ap (λ (x : List ℕ). (decimal stamp ++ 32 ∷ (codes "fetch " ++ (party_text t m.from.0 ++ 64 ∷ (decimal m.stamp.0 ++ 32 ∷ x)))) ++ 10 ∷ []) (message_shape t m)

fetch_leads : (t : Tables) (stamp : Stamp) (m : Msg) (fo : Bool) (cs : List (List Entry)) (ti : Bool) (p : ControllerId) (es : List Entry) (ls : List Left) (us : List ℕ) (dn : Bool)
    → Sized t → FitsMessage t m → stamp.0 < 18446744073709551616 → InRangeMsg m → m.to.0 ≡ p.0 → fo ≡ false
    → LeadsOn t (settled fo cs ti p es ls us dn) (entry_text t (entries.Fetch stamp m)) (settled fo cs ti p (es ++ entries.Fetch stamp m ∷ []) ls us dn)
fetch_leads t stamp m fo cs ti p es ls us dn sized fits stamp_fits range to plain d e =
    let s : List ℕ = codes "fetch " ++ sent_then t m.from.0 m.stamp.0 (message_text t m) in
    let w : List ℕ = decimal stamp.0 ++ 32 ∷ s in
    let party : d.party.0 ≡ m.to.0 = sym (ap (λ (x : ControllerId). x.0) (party_stays d)) ∙ ap (λ (x : Draft). x.party.0) e ∙ sym to in
    let unmarked : d.tied ≡ false = sym (form_stays d) ∙ ap (λ (x : Draft). x.tied) e ∙ plain in
    let free : lacks 10 w ≡ true =
    lacks-append 10 (decimal stamp.0) (32 ∷ s) (number_lacks 10 stamp.0 stamp_fits refl) (sent_lacks t m.from.0 m.stamp.0 (message_text t m) range.from range.stamp (message_lacks t m sized fits range)) in
    record {
      next = entered d (entries.Fetch stamp m);
      lines = λ r. ap (λ (x : List ℕ). reading t d (x ++ r)) (fetch_shape t stamp.0 m) ∙ one_line t d (entered d (entries.Fetch stamp m)) w free (fetch_taken t d stamp m sized fits stamp_fits range party unmarked) r;
      closes = closed_entered d (entries.Fetch stamp m) fo cs ti p es ls us dn e;
    }

post_taken : (t : Tables) (d : Draft) (stamp : Stamp) (m : Msg) → Sized t → FitsMessage t m → stamp.0 < 18446744073709551616 → InRangeMsg m → d.party.0 ≡ m.from.0 → stamp.0 ≡ m.stamp.0
    → taking t d (decimal stamp.0 ++ 32 ∷ (codes "post " ++ (decimal m.to.0 ++ 32 ∷ message_text t m))) ≡ entered d (entries.Post stamp m)
unfolding timed posted
post_taken t d stamp m sized fits stamp_fits range from stamped =
    let s : List ℕ = decimal m.to.0 ++ 32 ∷ message_text t m in
    let no_blank : lacks 32 (decimal m.to.0) ≡ true = number_lacks 32 m.to.0 (omega (arith, range.to)) refl in
    let to : byte_in (upto 32 s) ≡ m.to.0 = ap byte_in (upto_at 32 (decimal m.to.0) (message_text t m) no_blank) ∙ byte_back m.to.0 range.to in
    let rest : past 32 s ≡ message_text t m = past_at 32 (decimal m.to.0) (message_text t m) no_blank in
    let is : message_in t d.party.0 (byte_in (upto 32 s)) stamp.0 (past 32 s) ≡ m = rw (from, to, stamped, rest) (message_back t m sized fits range) in
    timed_line t d stamp.0 (codes "post " ++ s) stamp_fits ∙ ap (λ (x : Msg). entered d (entries.Post stamp x)) is

post_shape : (t : Tables) (stamp : ℕ) (m : Msg) → post_line t stamp m ≡ (decimal stamp ++ 32 ∷ (codes "post " ++ (decimal m.to.0 ++ 32 ∷ message_text t m))) ++ 10 ∷ []
post_shape t stamp m = ap (λ (x : List ℕ). (decimal stamp ++ 32 ∷ (codes "post " ++ (decimal m.to.0 ++ 32 ∷ x))) ++ 10 ∷ []) (message_shape t m)

post_leads : (t : Tables) (stamp : Stamp) (m : Msg) (fo : Bool) (cs : List (List Entry)) (ti : Bool) (p : ControllerId) (es : List Entry) (ls : List Left) (us : List ℕ) (dn : Bool)
    → Sized t → FitsPost t p.0 stamp.0 m → stamp.0 < 18446744073709551616 → InRangeMsg m
    → LeadsOn t (settled fo cs ti p es ls us dn) (entry_text t (entries.Post stamp m)) (settled fo cs ti p (es ++ entries.Post stamp m ∷ []) ls us dn)
post_leads t stamp m fo cs ti p es ls us dn sized fits stamp_fits range d e =
    let s : List ℕ = codes "post " ++ (decimal m.to.0 ++ 32 ∷ message_text t m) in
    let w : List ℕ = decimal stamp.0 ++ 32 ∷ s in
    let party : d.party.0 ≡ m.from.0 = sym (ap (λ (x : ControllerId). x.0) (party_stays d)) ∙ ap (λ (x : Draft). x.party.0) e ∙ sym fits.own in
    let free : lacks 10 w ≡ true =
    lacks-append 10 (decimal stamp.0) (32 ∷ s) (number_lacks 10 stamp.0 stamp_fits refl)
    (lacks-append 10 (decimal m.to.0) (32 ∷ message_text t m) (number_lacks 10 m.to.0 (omega (arith, range.to)) refl) (message_lacks t m sized fits.message range)) in
    record {
      next = entered d (entries.Post stamp m);
      lines = λ r. ap (λ (x : List ℕ). reading t d (x ++ r)) (post_shape t stamp.0 m) ∙ one_line t d (entered d (entries.Post stamp m)) w free (post_taken t d stamp m sized fits.message stamp_fits range party (sym fits.stamped)) r;
      closes = closed_entered d (entries.Post stamp m) fo cs ti p es ls us dn e;
    }

-- ---- journals

-- an entry whose line is the same in this form as in form 1
abbrev pub Plain : Bool → Entry → Type 0
Plain fo (entries.Start who state ns) = Unit {0}
Plain fo (entries.Fetch stamp m) = fo ≡ false
Plain fo (entries.Turn stamp from sent did ns) = Unit {0}
Plain fo (entries.Post stamp m) = Unit {0}

-- in form 1 every entry is
pub plain : (x : Entry) → Plain false x
plain (entries.Start who state ns) = tt
plain (entries.Fetch stamp m) = refl
plain (entries.Turn stamp from sent did ns) = tt
plain (entries.Post stamp m) = tt

pub entry_leads : (t : Tables) (x : Entry) (fo : Bool) (cs : List (List Entry)) (ti : Bool) (p : ControllerId) (es : List Entry) (ls : List Left) (us : List ℕ) (dn : Bool)
    → Sized t → Plain fo x → FitsEntry t p.0 x → InRangeEntry x → LeadsOn t (settled fo cs ti p es ls us dn) (entry_text t x) (settled fo cs ti p (es ++ x ∷ []) ls us dn)
entry_leads t (entries.Start who state ns) fo cs ti p es ls us dn sized same fits range = start_leads t who state ns fo cs ti p es ls us dn sized fits.0 fits.1 range.0 range.1
entry_leads t (entries.Fetch stamp m) fo cs ti p es ls us dn sized same fits range = fetch_leads t stamp m fo cs ti p es ls us dn sized fits.1 range.0 range.1 fits.0 same
entry_leads t (entries.Turn stamp from sent did ns) fo cs ti p es ls us dn sized same fits range = turn_leads t stamp from sent did ns fo cs ti p es ls us dn sized fits.0 fits.1 fits.2 range
entry_leads t (entries.Post stamp m) fo cs ti p es ls us dn sized same fits range = post_leads t stamp m fo cs ti p es ls us dn sized fits range.0 range.1

pub journal_leads : (t : Tables) (xs : List Entry) (fo : Bool) (cs : List (List Entry)) (ti : Bool) (p : ControllerId) (es : List Entry) (ls : List Left) (us : List ℕ) (dn : Bool)
    → Sized t → All (Plain fo) xs → All (FitsEntry t p.0) xs → All InRangeEntry xs → LeadsOn t (settled fo cs ti p es ls us dn) (journal_text t xs) (settled fo cs ti p (es ++ xs) ls us dn)
unfolding journal_text
journal_leads t [] fo cs ti p es ls us dn sized same fits range =
    subst (λ (x : List Entry). LeadsOn t (settled fo cs ti p es ls us dn) [] (settled fo cs ti p x ls us dn)) (sym (append-nil es)) (no_text t (settled fo cs ti p es ls us dn))
journal_leads t (x ∷ xs) fo cs ti p es ls us dn sized same fits range =
    let first = entry_leads t x fo cs ti p es ls us dn sized (All-head (Plain fo) x xs same) (All-head (FitsEntry t p.0) x xs fits) (All-head InRangeEntry x xs range) in
    let rest = journal_leads t xs fo cs ti p (es ++ x ∷ []) ls us dn sized (All-tail (Plain fo) x xs same) (All-tail (FitsEntry t p.0) x xs fits) (All-tail InRangeEntry x xs range) in
    subst (λ (y : List Entry). LeadsOn t (settled fo cs ti p es ls us dn) (entry_text t x ++ journal_text t xs) (settled fo cs ti p y ls us dn)) (append_assoc es (x ∷ []) xs)
    (then_text t (settled fo cs ti p es ls us dn) (settled fo cs ti p (es ++ x ∷ []) ls us dn) (settled fo cs ti p ((es ++ x ∷ []) ++ xs) ls us dn) (entry_text t x) (journal_text t xs) first rest)
