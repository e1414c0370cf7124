-- The journals of a run, read back.
use Rattle.std.proofs.Common.{◌≡◌, ℕ, suc, ◌+◌, ◌<◌, ◌≤◌, Bool, true, false, cond, List, [], ◌∷◌, ◌++◌, length, map, refl, sym, ap, ◌∙◌, arith, append-nil, append_assoc, subst, Some}
use Rattle.std.specs.Prelude.{All, codes, decimal, slice_get}
use Rattle.std.specs.List.{slice_index_or, list_all}
use Rattle.std.proofs.lemmas.Option.{get_or_from_slice_get}
use Rattle.std.proofs.lemmas.List.{map-id}
use Rattle.name_tables.specs.name_numbers.Names.{same}
use Rattle.room_kinds.specs.declared.numbers.ControllerId.{ControllerId}
use Rattle.room_kinds.specs.declared.message.Msg.{Msg}
use Rattle.room_wiring.specs.declared.tables.Tables.{Tables}
use Rattle.room_wiring.specs.WellNamed.{IsIdent}
use Rattle.room_wiring.proofs.wiring_names.Found.{all_at}
use Rattle.journal.specs.declared.entry.Left.{Left}
use Rattle.journal.specs.declared.entry.Entry.{Entry}
use Rattle.journal.specs.declared.entry.Entry.TheVariants as entries
use Rattle.journal.specs.declared.entry.Journals.{Journals}
use Rattle.journal.specs.Names.{party_text}
use Rattle.room_outside.specs.line_text.Lines.{line}
use Rattle.journal.specs.Lines.{message_parts, controller_line, where_text, left_line, unposted_line}
use Rattle.journal.specs.Text.{title_of, journal_text, controller_text, controllers_text, end_line, left_text, unposted_text, text_of}
use Rattle.journal.specs.Fits.{FitsMessage, FitsEntry, FitsEnvironment, FitsLeft, Fits}
use Rattle.journal_reader.specs.declared.journal_lines.draft.Draft.{Draft}
use Rattle.journal_reader.specs.declared.journal_lines.draft.Head.{Head}
use Rattle.journal_reader.specs.declared.journal_lines.draft.Head.TheVariants as heads
use Rattle.journal_reader.specs.journal_lines.Numerals.{upto, past, number_in, byte_in}
use Rattle.journal_reader.specs.journal_lines.Fields.{party_in}
use Rattle.journal_reader.specs.journal_lines.Messages.{message_in}
use Rattle.journal_reader.specs.journal_lines.Drafts.{nothing_read, closed_at, closed, shelved, titled_by, with_left, with_unposted, with_done, journals_of, finished}
use Rattle.journal_reader.specs.journal_lines.Reading.{left_message, worded, taking, reading, journals_in}
use Rattle.journal_reader.proofs.journal_lines.Cutting.{lacks, upto_at, past_at, end_read}
use Rattle.journal_reader.specs.journal_texts.InRange.{InRangeMsg, InRangeEntry, InRangeLeft, Is32Bit, IsInRange}
use Rattle.journal_reader.proofs.journal_texts.NumbersBack.{lacks_kind, lacks-append, number_lacks, byte_back, word_back}
use Rattle.journal_reader.proofs.journal_texts.NamesText.{word_byte, ident_bytes, All-head, All-tail}
use Rattle.journal_reader.proofs.journal_texts.NamesBack.{slice_there}
use Rattle.journal_reader.proofs.journal_texts.FieldsBack.{Sized}
use Rattle.journal_reader.proofs.journal_texts.MessagesBack.{message_text, message_shape, message_back, message_lacks}
use Rattle.journal_reader.proofs.journal_texts.EntriesBack.{Plain, plain, settled, settled_closed, Leads, LeadsOn, no_text, then_text, one_line, sent_then, sent_back, sent_lacks, journal_leads}

-- ---- lines above journals

-- the line of a party: the journal before it is a controller's
titled : (t : Tables) (d : Draft) (w : List ℕ) (p : ControllerId) (fo : Bool) (cs : List (List Entry)) (ti : Bool) (q : ControllerId) (es : List Entry) (ls : List Left) (us : List ℕ) (dn : Bool) (after : Draft)
    → lacks 10 w ≡ true → taking t d w ≡ titled_by d p → closed d ≡ settled fo cs ti q es ls us dn → titled_by (settled fo cs ti q es ls us dn) p ≡ after → closed after ≡ after → Leads t d (w ++ 10 ∷ []) after
unfolding closed
titled t d w p fo cs ti q es ls us dn after free taken e is stays =
    let next : titled_by d p ≡ after = ap (λ (x : Draft). record (shelved x) { titled = true; party = p }) e ∙ is in
    record {
      next = after;
      lines = one_line t d after w free (taken ∙ next);
      closes = stays;
    }

controller_taken : (t : Tables) (d : Draft) (c : ℕ) (name : List ℕ) → c < 256 → taking t d (codes "controller " ++ (decimal c ++ 32 ∷ name)) ≡ titled_by d (record { 0 = c })
unfolding taking worded
controller_taken t d c name small =
    let no_blank : lacks 32 (decimal c) ≡ true = number_lacks 32 c (omega arith) refl in
    ap (λ (n : ℕ). titled_by d (record { 0 = n })) (ap byte_in (upto_at 32 (decimal c) name no_blank) ∙ byte_back c small)

environment_taken : (t : Tables) (d : Draft) → taking t d (codes "environment") ≡ titled_by d (record { 0 = length t.controllers })
unfolding taking worded
environment_taken t d = refl

title_shape : (c : ℕ) (name : List ℕ) → controller_line c name ≡ (codes "controller " ++ (decimal c ++ 32 ∷ name)) ++ 10 ∷ []
title_shape c name = ap (λ (x : List ℕ). (codes "controller " ++ (decimal c ++ 32 ∷ x)) ++ 10 ∷ []) (append-nil name)

name_lacks : (t : Tables) (c : ℕ) → Sized t → c < length t.controllers → lacks 10 (slice_index_or t.controllers c []) ≡ true
name_lacks t c sized h =
    let there = slice_there t.controllers c h in
    let name : List ℕ = there.0 in
    let is : slice_index_or t.controllers c [] ≡ name = get_or_from_slice_get t.controllers c name [] there.1 in
    let bytes : list_all word_byte name ≡ true = ident_bytes name (all_at IsIdent t.controllers c name sized.named.controllers there.1) in
    subst (λ (w : List ℕ). lacks 10 w ≡ true) (sym is) (lacks_kind word_byte 10 name bytes refl)

title_lacks : (t : Tables) (c : ℕ) → Sized t → c < length t.controllers → lacks 10 (codes "controller " ++ (decimal c ++ 32 ∷ slice_index_or t.controllers c [])) ≡ true
title_lacks t c sized h =
    let small : c < 18446744073709551616 = omega (arith, sized.controllers) in
    lacks-append 10 (decimal c) (32 ∷ slice_index_or t.controllers c []) (number_lacks 10 c small refl) (name_lacks t c sized h)

-- ---- controllers

-- the line of the environment
abbrev pub environment_line : List ℕ
environment_line = line (codes "environment" ∷ [])

-- the journals of the controllers from number c on, each under its line, where f is the text of a journal
abbrev pub listed : Tables → (List Entry → List ℕ) → ℕ → List (List Entry) → List ℕ
listed t f c [] = []
listed t f c (es ∷ ess) = (title_of t c ++ f es) ++ listed t f (suc c) ess

-- a controller's journal is read as `g` gives it
abbrev pub ReadsAs : Tables → Bool → (List Entry → List ℕ) → (List Entry → List Entry) → ℕ → List Entry → Type 0
ReadsAs t fo f g c es =
    (cs : List (List Entry)) → LeadsOn t (settled fo cs true (record { 0 = c }) [] [] [] false) (f es) (settled fo cs true (record { 0 = c }) (g es) [] [] false)

-- so are the journals of the controllers from number c on
abbrev pub ReadFrom : Tables → Bool → (List Entry → List ℕ) → (List Entry → List Entry) → ℕ → List (List Entry) → Type 0
ReadFrom t fo f g c [] = Unit {0}
ReadFrom t fo f g c (es ∷ ess) = (c < length t.controllers) × (ReadsAs t fo f g c es × ReadFrom t fo f g (suc c) ess)

-- the text of the journals from one on: its line, its entries, and the others
first_controller : (t : Tables) (f : List Entry → List ℕ) (c : ℕ) (es : List Entry) (ess : List (List Entry))
    → ((codes "controller " ++ (decimal c ++ 32 ∷ slice_index_or t.controllers c [])) ++ 10 ∷ []) ++ (f es ++ (listed t f (suc c) ess ++ environment_line)) ≡ listed t f c (es ∷ ess) ++ environment_line
first_controller t f c es ess =
    let rest : List ℕ = listed t f (suc c) ess in
    let title : List ℕ = (codes "controller " ++ (decimal c ++ 32 ∷ slice_index_or t.controllers c [])) ++ 10 ∷ [] in
    ap (λ (x : List ℕ). title ++ x) (sym (append_assoc (f es) rest environment_line)) ∙ sym (append_assoc title (f es ++ rest) environment_line)
    ∙ ap (λ (x : List ℕ). x ++ environment_line) (sym (append_assoc title (f es) rest))
    ∙ ap (λ (x : List ℕ). ((x ++ f es) ++ rest) ++ environment_line) (sym (title_shape c (slice_index_or t.controllers c [])))

-- one journal was read to its end, and others follow
more_controllers : (t : Tables) (fo : Bool) (f : List Entry → List ℕ) (g : List Entry → List Entry) (ess : List (List Entry)) (c : ℕ) (cs : List (List Entry)) (p : ControllerId) (es : List Entry)
    → Sized t → ReadFrom t fo f g c ess
    → LeadsOn t (settled fo cs true p es [] [] false) (listed t f c ess ++ environment_line) (settled fo (cs ++ es ∷ map g ess) true (record { 0 = length t.controllers }) [] [] [] false)
unfolding closed
more_controllers t fo f g [] c cs p es sized each d e =
    let after : Draft = settled fo (cs ++ es ∷ []) true (record { 0 = length t.controllers }) [] [] [] false in
    titled t d (codes "environment") (record { 0 = length t.controllers }) fo cs true p es [] [] false after refl (environment_taken t d) e refl (settled_closed fo (cs ++ es ∷ []) true (record { 0 = length t.controllers }) [] [] [] false)
more_controllers t fo f g (js ∷ ess) c cs p es sized each d e =
    let me : ControllerId = record { 0 = c } in
    let last : ControllerId = record { 0 = length t.controllers } in
    let before : Draft = settled fo cs true p es [] [] false in
    let begun : Draft = settled fo (cs ++ es ∷ []) true me [] [] [] false in
    let read : Draft = settled fo (cs ++ es ∷ []) true me (g js) [] [] false in
    let done : Draft = settled fo ((cs ++ es ∷ []) ++ map g (js ∷ ess)) true last [] [] [] false in
    let rest : List ℕ = listed t f (suc c) ess ++ environment_line in
    let small : c < 256 = omega (arith, sized.controllers, each.0) in
    let w : List ℕ = codes "controller " ++ (decimal c ++ 32 ∷ slice_index_or t.controllers c []) in
    let first : LeadsOn t before (w ++ 10 ∷ []) begun =
    λ x is. titled t x w me fo cs true p es [] [] false begun (title_lacks t c sized each.0) (controller_taken t x c (slice_index_or t.controllers c []) small) is refl (settled_closed fo (cs ++ es ∷ []) true me [] [] [] false) in
    let second : LeadsOn t begun (f js) read = each.1.0 (cs ++ es ∷ []) in
    let third : LeadsOn t read rest done = more_controllers t fo f g ess (suc c) (cs ++ es ∷ []) me (g js) sized each.1.1 in
    let whole : LeadsOn t before ((w ++ 10 ∷ []) ++ (f js ++ rest)) done =
    then_text t before begun done (w ++ 10 ∷ []) (f js ++ rest) first (then_text t begun read done (f js) rest second third) in
    subst (λ (x : List (List Entry)). LeadsOn t before (listed t f c (js ∷ ess) ++ environment_line) (settled fo x true last [] [] [] false)) (append_assoc cs (es ∷ []) (map g (js ∷ ess)))
    (subst (λ (x : List ℕ). LeadsOn t before x done) (first_controller t f c js ess) whole) d e

-- the journals of all controllers, and the line of the environment
pub all_controllers : (t : Tables) (fo : Bool) (f : List Entry → List ℕ) (g : List Entry → List Entry) (ess : List (List Entry)) → Sized t → ReadFrom t fo f g 0 ess
    → LeadsOn t (settled fo [] false (record { 0 = 0 }) [] [] [] false) (listed t f 0 ess ++ environment_line) (settled fo (map g ess) true (record { 0 = length t.controllers }) [] [] [] false)
unfolding closed
all_controllers t fo f g [] sized each d e =
    let after : Draft = settled fo [] true (record { 0 = length t.controllers }) [] [] [] false in
    titled t d (codes "environment") (record { 0 = length t.controllers }) fo [] false (record { 0 = 0 }) [] [] [] false after refl (environment_taken t d) e refl (settled_closed fo [] true (record { 0 = length t.controllers }) [] [] [] false)
all_controllers t fo f g (js ∷ ess) sized each d e =
    let me : ControllerId = record { 0 = 0 } in
    let before : Draft = settled fo [] false me [] [] [] false in
    let begun : Draft = settled fo [] true me [] [] [] false in
    let read : Draft = settled fo [] true me (g js) [] [] false in
    let done : Draft = settled fo (map g (js ∷ ess)) true (record { 0 = length t.controllers }) [] [] [] false in
    let rest : List ℕ = listed t f 1 ess ++ environment_line in
    let w : List ℕ = codes "controller " ++ (decimal 0 ++ 32 ∷ slice_index_or t.controllers 0 []) in
    let first : LeadsOn t before (w ++ 10 ∷ []) begun =
    λ x is. titled t x w me fo [] false me [] [] [] false begun (title_lacks t 0 sized each.0) (controller_taken t x 0 (slice_index_or t.controllers 0 []) (omega arith)) is refl (settled_closed fo [] true me [] [] [] false) in
    let second : LeadsOn t begun (f js) read = each.1.0 [] in
    let third : LeadsOn t read rest done = more_controllers t fo f g ess 1 [] me (g js) sized each.1.1 in
    let whole : LeadsOn t before ((w ++ 10 ∷ []) ++ (f js ++ rest)) done =
    then_text t before begun done (w ++ 10 ∷ []) (f js ++ rest) first (then_text t begun read done (f js) rest second third) in
    subst (λ (x : List ℕ). LeadsOn t before x done) (first_controller t f 0 js ess) whole d e

-- ---- what was left

closed_left : (d : Draft) (l : Left) → closed (with_left d l) ≡ with_left (closed d) l
unfolding closed
closed_left d l = by_head d l d.head
  where
    by_head : (d : Draft) (l : Left) (h : Head) → closed_at (with_left d l) h ≡ with_left (closed_at d h) l
    by_head d l heads.Nothing = refl
    by_head d l (heads.Start who state) = refl
    by_head d l (heads.Turn stamp from sent did) = refl

closed_unposted : (d : Draft) (n : ℕ) → closed (with_unposted d n) ≡ with_unposted (closed d) n
unfolding closed
closed_unposted d n = by_head d n d.head
  where
    by_head : (d : Draft) (n : ℕ) (h : Head) → closed_at (with_unposted d n) h ≡ with_unposted (closed_at d h) n
    by_head d n heads.Nothing = refl
    by_head d n (heads.Start who state) = refl
    by_head d n (heads.Turn stamp from sent did) = refl

closed_done : (d : Draft) → closed (with_done d) ≡ with_done (closed d)
unfolding closed
closed_done d = by_head d d.head
  where
    by_head : (d : Draft) (h : Head) → closed_at (with_done d) h ≡ with_done (closed_at d h)
    by_head d heads.Nothing = refl
    by_head d (heads.Start who state) = refl
    by_head d (heads.Turn stamp from sent did) = refl

-- where a message was left, before a blank
abbrev place_text : Bool → List ℕ
place_text pending = cond pending (codes "pending ") (codes "lane ")

left_shape : (t : Tables) (to : ℕ) (pending : Bool) (m : Msg)
    → line (codes "left " ∷ decimal to ∷ where_text pending ∷ party_text t m.from.0 ∷ codes "@" ∷ decimal m.stamp.0 ∷ codes " " ∷ message_parts t m) ≡ (codes "left " ++ (decimal to ++ 32 ∷ (place_text pending ++ sent_then t m.from.0 m.stamp.0 (message_text t m)))) ++ 10 ∷ []
left_shape t to true m = ap (λ (x : List ℕ). (codes "left " ++ (decimal to ++ (codes " pending " ++ (party_text t m.from.0 ++ 64 ∷ (decimal m.stamp.0 ++ 32 ∷ x))))) ++ 10 ∷ []) (message_shape t m)
left_shape t to false m = ap (λ (x : List ℕ). (codes "left " ++ (decimal to ++ (codes " lane " ++ (party_text t m.from.0 ++ 64 ∷ (decimal m.stamp.0 ++ 32 ∷ x))))) ++ 10 ∷ []) (message_shape t m)

place_back : (pending : Bool) (r : List ℕ) → (same (upto 32 (place_text pending ++ r)) (codes "pending") ≡ pending) × (past 32 (place_text pending ++ r) ≡ r)
place_back true r = (refl, refl)
place_back false r = (refl, refl)

left_made : (t : Tables) (d : Draft) (to : ℕ) (pending : Bool) (m : Msg) → Sized t → FitsMessage t m → InRangeMsg m → to ≡ m.to.0
    → left_message t d to pending (sent_then t m.from.0 m.stamp.0 (message_text t m)) ≡ with_left d (record { to = record { 0 = to }; pending = pending; msg = m })
unfolding left_message
left_made t d to pending m sized fits range receiver =
    let s : List ℕ = sent_then t m.from.0 m.stamp.0 (message_text t m) in
    let back = sent_back t m.from.0 m.stamp.0 (message_text t m) fits.from range.from range.stamp in
    let is : message_in t (party_in t (upto 64 s)) to (number_in (upto 32 (past 64 s))) (past 32 (past 64 s)) ≡ m =
    ap (λ (n : ℕ). message_in t n to (number_in (upto 32 (past 64 s))) (past 32 (past 64 s))) back.party
    ∙ ap (λ (n : ℕ). message_in t m.from.0 to n (past 32 (past 64 s))) back.stamp
    ∙ ap (message_in t m.from.0 to m.stamp.0) back.rest ∙ ap (λ (n : ℕ). message_in t m.from.0 n m.stamp.0 (message_text t m)) receiver ∙ message_back t m sized fits range in
    ap (λ (x : Msg). with_left d (record { to = record { 0 = to }; pending = pending; msg = x })) is

place_lacks : (pending : Bool) → lacks 10 (place_text pending) ≡ true
place_lacks true = refl
place_lacks false = refl

left_taken : (t : Tables) (d : Draft) (to : ℕ) (pending : Bool) (m : Msg) → Sized t → FitsMessage t m → InRangeMsg m → to ≡ m.to.0 → to < 256
    → taking t d (codes "left " ++ (decimal to ++ 32 ∷ (place_text pending ++ sent_then t m.from.0 m.stamp.0 (message_text t m)))) ≡ with_left d (record { to = record { 0 = to }; pending = pending; msg = m })
unfolding taking worded
left_taken t d to pending m sized fits range receiver small =
    let s : List ℕ = sent_then t m.from.0 m.stamp.0 (message_text t m) in
    let rest : List ℕ = place_text pending ++ s in
    let body : List ℕ = decimal to ++ 32 ∷ rest in
    let no_blank : lacks 32 (decimal to) ≡ true = number_lacks 32 to (omega arith) refl in
    let to_is : byte_in (upto 32 body) ≡ to = ap byte_in (upto_at 32 (decimal to) rest no_blank) ∙ byte_back to small in
    let rest_is : past 32 body ≡ rest = past_at 32 (decimal to) rest no_blank in
    let place = place_back pending s in
    ap (λ (n : ℕ). left_message t d n (same (upto 32 (past 32 body)) (codes "pending")) (past 32 (past 32 body))) to_is
    ∙ ap (λ (x : List ℕ). left_message t d to (same (upto 32 x) (codes "pending")) (past 32 x)) rest_is
    ∙ ap (λ (b : Bool). left_message t d to b (past 32 rest)) place.0 ∙ ap (left_message t d to pending) place.1
    ∙ left_made t d to pending m sized fits range receiver

left_leads : (t : Tables) (l : Left) (fo : Bool) (cs : List (List Entry)) (ti : Bool) (p : ControllerId) (es : List Entry) (ls : List Left) (us : List ℕ) (dn : Bool)
    → Sized t → FitsLeft t l → InRangeLeft l → LeadsOn t (settled fo cs ti p es ls us dn) (left_line t l) (settled fo cs ti p es (ls ++ l ∷ []) us dn)
left_leads t l fo cs ti p es ls us dn sized fits range d e =
    let m = l.msg in
    let body : List ℕ = decimal l.to.0 ++ 32 ∷ (place_text l.pending ++ sent_then t m.from.0 m.stamp.0 (message_text t m)) in
    let w : List ℕ = codes "left " ++ body in
    let message_free : lacks 10 (sent_then t m.from.0 m.stamp.0 (message_text t m)) ≡ true =
    sent_lacks t m.from.0 m.stamp.0 (message_text t m) range.message.from range.message.stamp (message_lacks t m sized fits.message range.message) in
    let free : lacks 10 w ≡ true =
    lacks-append 10 (decimal l.to.0) (32 ∷ (place_text l.pending ++ sent_then t m.from.0 m.stamp.0 (message_text t m))) (number_lacks 10 l.to.0 (omega (arith, range.receiver)) refl)
    (lacks-append 10 (place_text l.pending) (sent_then t m.from.0 m.stamp.0 (message_text t m)) (place_lacks l.pending) message_free) in
    record {
      next = with_left d l;
      lines = λ r. ap (λ (x : List ℕ). reading t d (x ++ r)) (left_shape t l.to.0 l.pending m) ∙ one_line t d (with_left d l) w free (left_taken t d l.to.0 l.pending m sized fits.message range.message (sym fits.receiver) range.receiver) r;
      closes = closed_left d l ∙ ap (λ (x : Draft). with_left x l) e;
    }

lefts_lead : (t : Tables) (xs : List Left) (fo : Bool) (cs : List (List Entry)) (ti : Bool) (p : ControllerId) (es : List Entry) (ls : List Left) (us : List ℕ) (dn : Bool)
    → Sized t → All (FitsLeft t) xs → All InRangeLeft xs → LeadsOn t (settled fo cs ti p es ls us dn) (left_text t xs) (settled fo cs ti p es (ls ++ xs) us dn)
unfolding left_text
lefts_lead t [] fo cs ti p es ls us dn sized fits range =
    subst (λ (x : List Left). LeadsOn t (settled fo cs ti p es ls us dn) [] (settled fo cs ti p es x us dn)) (sym (append-nil ls)) (no_text t (settled fo cs ti p es ls us dn))
lefts_lead t (x ∷ xs) fo cs ti p es ls us dn sized fits range =
    let first = left_leads t x fo cs ti p es ls us dn sized (All-head (FitsLeft t) x xs fits) (All-head InRangeLeft x xs range) in
    let rest = lefts_lead t xs fo cs ti p es (ls ++ x ∷ []) us dn sized (All-tail (FitsLeft t) x xs fits) (All-tail InRangeLeft x xs range) in
    subst (λ (y : List Left). LeadsOn t (settled fo cs ti p es ls us dn) (left_line t x ++ left_text t xs) (settled fo cs ti p es y us dn)) (append_assoc ls (x ∷ []) xs)
    (then_text t (settled fo cs ti p es ls us dn) (settled fo cs ti p es (ls ++ x ∷ []) us dn) (settled fo cs ti p es ((ls ++ x ∷ []) ++ xs) us dn) (left_line t x) (left_text t xs) first rest)

-- ---- lines that were not posted

unposted_taken : (t : Tables) (d : Draft) (n : ℕ) → n < 4294967296 → taking t d (codes "unposted " ++ decimal n) ≡ with_unposted d n
unfolding taking worded
unposted_taken t d n small = ap (with_unposted d) (word_back n small)

unposted_leads : (t : Tables) (n : ℕ) (fo : Bool) (cs : List (List Entry)) (ti : Bool) (p : ControllerId) (es : List Entry) (ls : List Left) (us : List ℕ) (dn : Bool)
    → n < 4294967296 → LeadsOn t (settled fo cs ti p es ls us dn) (unposted_line n) (settled fo cs ti p es ls (us ++ n ∷ []) dn)
unposted_leads t n fo cs ti p es ls us dn small d e =
    let w : List ℕ = codes "unposted " ++ decimal n in
    let shape : unposted_line n ≡ w ++ 10 ∷ [] = ap (λ (x : List ℕ). (codes "unposted " ++ x) ++ 10 ∷ []) (append-nil (decimal n)) in
    let free : lacks 10 w ≡ true = number_lacks 10 n (omega arith) refl in
    record {
      next = with_unposted d n;
      lines = λ r. ap (λ (x : List ℕ). reading t d (x ++ r)) shape ∙ one_line t d (with_unposted d n) w free (unposted_taken t d n small) r;
      closes = closed_unposted d n ∙ ap (λ (x : Draft). with_unposted x n) e;
    }

unposted_lead : (t : Tables) (ns : List ℕ) (fo : Bool) (cs : List (List Entry)) (ti : Bool) (p : ControllerId) (es : List Entry) (ls : List Left) (us : List ℕ) (dn : Bool)
    → All Is32Bit ns → LeadsOn t (settled fo cs ti p es ls us dn) (unposted_text ns) (settled fo cs ti p es ls (us ++ ns) dn)
unfolding unposted_text
unposted_lead t [] fo cs ti p es ls us dn range =
    subst (λ (x : List ℕ). LeadsOn t (settled fo cs ti p es ls us dn) [] (settled fo cs ti p es ls x dn)) (sym (append-nil us)) (no_text t (settled fo cs ti p es ls us dn))
unposted_lead t (n ∷ ns) fo cs ti p es ls us dn range =
    let first = unposted_leads t n fo cs ti p es ls us dn (All-head Is32Bit n ns range) in
    let rest = unposted_lead t ns fo cs ti p es ls (us ++ n ∷ []) dn (All-tail Is32Bit n ns range) in
    subst (λ (y : List ℕ). LeadsOn t (settled fo cs ti p es ls us dn) (unposted_line n ++ unposted_text ns) (settled fo cs ti p es ls y dn)) (append_assoc us (n ∷ []) ns)
    (then_text t (settled fo cs ti p es ls us dn) (settled fo cs ti p es ls (us ++ n ∷ []) dn) (settled fo cs ti p es ls ((us ++ n ∷ []) ++ ns) dn) (unposted_line n) (unposted_text ns) first rest)

-- ---- the first and the last line

done_taken : (t : Tables) (d : Draft) → taking t d (codes "done") ≡ with_done d
unfolding taking worded
done_taken t d = refl

spent_taken : (t : Tables) (d : Draft) → taking t d (codes "spent") ≡ d
unfolding taking worded
spent_taken t d = refl

first_taken : (t : Tables) (d : Draft) → taking t d (codes "room-journal 1") ≡ d
unfolding taking worded
first_taken t d = refl

end_leads : (t : Tables) (done : Bool) (fo : Bool) (cs : List (List Entry)) (ti : Bool) (p : ControllerId) (es : List Entry) (ls : List Left) (us : List ℕ)
    → LeadsOn t (settled fo cs ti p es ls us false) (end_line done) (settled fo cs ti p es ls us done)
end_leads t true fo cs ti p es ls us d e =
    record { next = with_done d; lines = one_line t d (with_done d) (codes "done") refl (done_taken t d); closes = closed_done d ∙ ap with_done e }
end_leads t false fo cs ti p es ls us d e = record { next = d; lines = one_line t d d (codes "spent") refl (spent_taken t d); closes = e }

first_leads : (t : Tables) (a : Draft) → LeadsOn t a (line (codes "room-journal 1" ∷ [])) a
first_leads t a d e = record { next = d; lines = one_line t d d (codes "room-journal 1") refl (first_taken t d); closes = e }

-- ---- the whole text

only_posts : (t : Tables) (x : Entry) → FitsEnvironment t x → FitsEntry t (length t.controllers) x
only_posts t (entries.Start who state ns) h = absurd h
only_posts t (entries.Fetch stamp m) h = absurd h
only_posts t (entries.Turn stamp from sent did ns) h = absurd h
only_posts t (entries.Post stamp m) h = h

posts_plain : (t : Tables) (fo : Bool) (x : Entry) → FitsEnvironment t x → Plain fo x
posts_plain t fo (entries.Start who state ns) h = absurd h
posts_plain t fo (entries.Fetch stamp m) h = absurd h
posts_plain t fo (entries.Turn stamp from sent did ns) h = absurd h
posts_plain t fo (entries.Post stamp m) h = tt

-- what stands below the line of the environment
abbrev pub below : Tables → Journals → List ℕ
below t j = journal_text t j.environment ++ (left_text t j.left ++ (unposted_text j.unposted ++ end_line j.done))

pub below_leads : (t : Tables) (fo : Bool) (cs : List (List Entry)) (j : Journals) → Sized t → Fits t j → IsInRange j
    → LeadsOn t (settled fo cs true (record { 0 = length t.controllers }) [] [] [] false) (below t j) (settled fo cs true (record { 0 = length t.controllers }) j.environment j.left j.unposted j.done)
below_leads t fo cs j sized fits range =
    let last : ControllerId = record { 0 = length t.controllers } in
    let all_read : Draft = settled fo cs true last [] [] [] false in
    let posted_read : Draft = settled fo cs true last j.environment [] [] false in
    let kept : Draft = settled fo cs true last j.environment j.left [] false in
    let told : Draft = settled fo cs true last j.environment j.left j.unposted false in
    let done : Draft = settled fo cs true last j.environment j.left j.unposted j.done in
    let end : List ℕ = end_line j.done in
    let not_posted : List ℕ = unposted_text j.unposted in
    let left : List ℕ = left_text t j.left in
    let environment : List ℕ = journal_text t j.environment in
    let environment_fits : All (FitsEntry t (length t.controllers)) j.environment = λ k d lt. only_posts t (slice_index_or j.environment k d) (fits.environment k d lt) in
    let environment_plain : All (Plain fo) j.environment = λ k d lt. posts_plain t fo (slice_index_or j.environment k d) (fits.environment k d lt) in
    let a : LeadsOn t told end done = end_leads t j.done fo cs true last j.environment j.left j.unposted in
    let b : LeadsOn t kept (not_posted ++ end) done = then_text t kept told done not_posted end (unposted_lead t j.unposted fo cs true last j.environment j.left [] false range.unposted) a in
    let c : LeadsOn t posted_read (left ++ (not_posted ++ end)) done =
    then_text t posted_read kept done left (not_posted ++ end) (lefts_lead t j.left fo cs true last j.environment [] [] false sized fits.left range.left) b in
    then_text t all_read posted_read done environment (left ++ (not_posted ++ end)) (journal_leads t j.environment fo cs true last [] [] [] false sized environment_plain environment_fits range.environment) c

-- the controllers' journals in any form, and what stands below them
pub body_leads : (t : Tables) (fo : Bool) (f : List Entry → List ℕ) (g : List Entry → List Entry) (j : Journals) → Sized t → Fits t j → IsInRange j → ReadFrom t fo f g 0 j.controllers
    → LeadsOn t (settled fo [] false (record { 0 = 0 }) [] [] [] false) (listed t f 0 j.controllers ++ (environment_line ++ below t j))
    (settled fo (map g j.controllers) true (record { 0 = length t.controllers }) j.environment j.left j.unposted j.done)
body_leads t fo f g j sized fits range each =
    let last : ControllerId = record { 0 = length t.controllers } in
    let start : Draft = settled fo [] false (record { 0 = 0 }) [] [] [] false in
    let all_read : Draft = settled fo (map g j.controllers) true last [] [] [] false in
    let done : Draft = settled fo (map g j.controllers) true last j.environment j.left j.unposted j.done in
    let controllers : List ℕ = listed t f 0 j.controllers in
    let whole : LeadsOn t start ((controllers ++ environment_line) ++ below t j) done =
    then_text t start all_read done (controllers ++ environment_line) (below t j) (all_controllers t fo f g j.controllers sized each) (below_leads t fo (map g j.controllers) j sized fits range) in
    subst (λ (x : List ℕ). LeadsOn t start x done) (append_assoc controllers environment_line (below t j)) whole

-- ---- form 1

abbrev same_list : List Entry → List Entry
same_list es = es

listed_is : (t : Tables) (c : ℕ) (ess : List (List Entry)) → listed t (journal_text t) c ess ≡ controllers_text t c ess
unfolding controller_text
listed_is t c [] = refl
listed_is t c (es ∷ ess) = ap (λ (x : List ℕ). (title_of t c ++ journal_text t es) ++ x) (listed_is t (suc c) ess)

-- each controller's journal by itself
each_from : (t : Tables) (fo : Bool) (f : List Entry → List ℕ) (g : List Entry → List Entry) (ess : List (List Entry)) (c : ℕ)
    → ((k : ℕ) (es : List Entry) → slice_get ess k ≡ Some es → ReadsAs t fo f g (c + k) es) → c + length ess ≤ length t.controllers → ReadFrom t fo f g c ess
each_from t fo f g [] c each within = tt
each_from t fo f g (es ∷ ess) c each within =
    let own : ReadsAs t fo f g c es = subst (λ (n : ℕ). ReadsAs t fo f g n es) (let none : c + 0 ≡ c = omega arith in none) (each 0 es refl) in
    (omega arith, (own, each_from t fo f g ess (suc c) (λ k xs e. subst (λ (n : ℕ). ReadsAs t fo f g n xs) (let next : c + suc k ≡ suc c + k = omega arith in next) (each (suc k) xs e)) (omega arith)))

pub each_of_all : (t : Tables) (fo : Bool) (f : List Entry → List ℕ) (g : List Entry → List Entry) (ess : List (List Entry))
    → ((k : ℕ) (es : List Entry) → slice_get ess k ≡ Some es → ReadsAs t fo f g k es) → length ess ≤ length t.controllers → ReadFrom t fo f g 0 ess
each_of_all t fo f g ess each within =
    each_from t fo f g ess 0 (λ k es e. subst (λ (n : ℕ). ReadsAs t fo f g n es) (let is : k ≡ 0 + k = omega arith in is) (each k es e)) (omega arith)

-- the entries of a controller's journal are in range
pub own_range : (j : Journals) (k : ℕ) (es : List Entry) → IsInRange j → slice_get j.controllers k ≡ Some es → All InRangeEntry es
own_range j k es range e = all_at (λ (xs : List Entry). All InRangeEntry xs) j.controllers k es range.controllers e

all_plain : (es : List Entry) → All (Plain false) es
all_plain es = λ k d lt. plain (slice_index_or es k d)

whole_text : (t : Tables) (j : Journals) → Sized t → Fits t j → IsInRange j
    → LeadsOn t (settled false [] false (record { 0 = 0 }) [] [] [] false) (text_of t j) (settled false j.controllers true (record { 0 = length t.controllers }) j.environment j.left j.unposted j.done)
unfolding text_of
whole_text t j sized fits range =
    let start : Draft = settled false [] false (record { 0 = 0 }) [] [] [] false in
    let each : ReadFrom t false (journal_text t) same_list 0 j.controllers =
    each_of_all t false (journal_text t) same_list j.controllers
    (λ k es e cs. journal_leads t es false cs true (record { 0 = k }) [] [] [] false sized (all_plain es) (fits.entries k es e) (own_range j k es range e)) (omega (arith, fits.journals)) in
    let body = body_leads t false (journal_text t) same_list j sized fits range each in
    let done : List (List Entry) → Draft = λ cs. settled false cs true (record { 0 = length t.controllers }) j.environment j.left j.unposted j.done in
    let read : LeadsOn t start (listed t (journal_text t) 0 j.controllers ++ (environment_line ++ below t j)) (done j.controllers) =
    subst (λ (cs : List (List Entry)). LeadsOn t start (listed t (journal_text t) 0 j.controllers ++ (environment_line ++ below t j)) (done cs)) (map-id j.controllers) body in
    then_text t start start (done j.controllers) (line (codes "room-journal 1" ∷ [])) (controllers_text t 0 j.controllers ++ (environment_line ++ below t j)) (first_leads t start)
    (subst (λ (x : List ℕ). LeadsOn t start (x ++ (environment_line ++ below t j)) (done j.controllers)) (listed_is t 0 j.controllers) read)

-- what the text of journals is read as are these journals
pub reads_back : (t : Tables) (j : Journals) → Sized t → Fits t j → IsInRange j → journals_in t (text_of t j) ≡ j
unfolding journals_in
reads_back t j sized fits range =
    let read = whole_text t j sized fits range nothing_read (settled_closed false [] false (record { 0 = 0 }) [] [] [] false) in
    let end : reading t nothing_read (text_of t j) ≡ read.next = ap (λ (x : List ℕ). reading t nothing_read x) (sym (append-nil (text_of t j))) ∙ read.lines [] ∙ end_read t read.next in
    ap finished end ∙ ap journals_of read.closes

-- journals with one text are the same
pub texts_differ : (t : Tables) (i j : Journals) → Sized t → Fits t i → IsInRange i → Fits t j → IsInRange j → text_of t i ≡ text_of t j → i ≡ j
texts_differ t i j sized fits_i range_i fits_j range_j same_text = sym (reads_back t i sized fits_i range_i) ∙ ap (journals_in t) same_text ∙ reads_back t j sized fits_j range_j
