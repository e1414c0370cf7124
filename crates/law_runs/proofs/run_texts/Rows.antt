-- The text of journals, line by line.
-- Each line ends with the one line feed in it, so texts that are the same have the same lines. The lines
-- of a journal are those of its entries and their notes: an event's line begins with its stamp, a start's
-- with `start`, and a note's with `note`; no other line of the text begins so. What the lines tell of the
-- events is read from them (`told_in`): of a fetch the word that names its post, of a post its stamp and its
-- priority.
use Rattle.std.proofs.Common.{◌≡◌, ℕ, suc, Bool, true, false, ◌&&◌, ◌||◌, ◌==◌, List, [], ◌∷◌, ◌++◌, map, drop, length, Option, Some, refl, sym, ap, ◌∙◌, subst, arith, append_assoc, append-nil, cond}
use Rattle.std.specs.Prelude.{codes, decimal}
use Rattle.std.specs.Fmt.{signed_decimal}
use Rattle.std.specs.List.{AllByRecursion as Each, concat, flat_map, slice_index_or, slice_split}
use Rattle.std.proofs.lemmas.Bool.{or_left}
use Rattle.room_kinds.specs.declared.numbers.ControllerId.{ControllerId}
use Rattle.room_kinds.specs.declared.numbers.Incarnation.{Incarnation}
use Rattle.room_kinds.specs.declared.numbers.SlotId.{SlotId}
use Rattle.room_kinds.specs.declared.numbers.Stamp.{Stamp}
use Rattle.room_kinds.specs.declared.message.Msg.{Msg}
use Rattle.room_kinds.specs.declared.note.Note.{Note}
use Rattle.room_kinds.specs.declared.note.Note.TheVariants as notes
use Rattle.room_wiring.specs.declared.tables.Tables.{Tables}
use Rattle.room_wiring.specs.WellNamed.{IsWellNamed}
use Rattle.room_outside.specs.line_text.Lines.{line}
use Rattle.journal.specs.declared.entry.Did.{Did}
use Rattle.journal.specs.declared.entry.Entry.{Entry}
use Rattle.journal.specs.declared.entry.Entry.TheVariants as entry
use Rattle.journal.specs.declared.entry.Left.{Left}
use Rattle.journal.specs.declared.entry.Journals.{Journals}
use Rattle.journal.specs.Names.{party_text, source_parts, endpoint_parts, incarnation_parts}
use Rattle.journal.specs.Lines.{message_parts, signal_parts, standing_parts, did_parts, turn_parts, where_text, speaking_port_text, note_line, note_lines, speaker_after, speaker_of, is_duty, entry_text, left_line, unposted_line}
use Rattle.journal.specs.Text.{journal_text, left_text, unposted_text, end_line}
use Rattle.tied_journals.specs.Text.{sent_parts, fetch_parts, tied_entries_text, tied_journal_text, tied_controller_text, tied_controllers_text, below_text, rest_text, tied_text_of}
use Rattle.law_runs.specs.run_journals.InPlace.{IsPost}
use Rattle.journal_reader.specs.journal_lines.Numerals.{upto, past, begins, begins_digit}
use Rattle.journal_reader.proofs.journal_lines.Cutting.{lacks, upto_at, past_at, split_at, split_none}
use Rattle.journal_reader.proofs.journal_texts.NumbersBack.{lacks-append}
use Rattle.law_runs.proofs.run_texts.Plain.{AllPlain, plain_append, plain_concat, number_lacks, number_begins, signed_plain, party_lacks, name_plain, message_plain, standing_plain, incarnation_plain, did_plain, speaking_plain}

-- ---- texts as lines

-- lines, each with its end
abbrev unlines : List (List ℕ) → List ℕ
unlines [] = []
unlines (w ∷ ws) = w ++ 10 ∷ unlines ws

-- a text has these lines
record HasLines (ws : List (List ℕ)) (text : List ℕ) : Type 0 where
  is : text ≡ unlines ws
  plain : AllPlain ws

unlines_append : (a b : List (List ℕ)) → unlines (a ++ b) ≡ unlines a ++ unlines b
unlines_append [] b = refl
unlines_append (w ∷ a) b = ap (λ (x : List ℕ). w ++ 10 ∷ x) (unlines_append a b) ∙ sym (append_assoc w (10 ∷ unlines a) (unlines b))

no_lines : HasLines [] []
no_lines = record { is = refl; plain = tt }

one_line : (parts : List (List ℕ)) → AllPlain parts → HasLines (concat parts ∷ []) (line parts)
one_line parts h = record { is = refl; plain = (plain_concat parts h, tt) }

more_lines : (a b : List (List ℕ)) (x y : List ℕ) → HasLines a x → HasLines b y → HasLines (a ++ b) (x ++ y)
more_lines a b x y h k = record {
  is = ap (λ (z : List ℕ). z ++ y) h.is ∙ ap (λ (z : List ℕ). unlines a ++ z) k.is ∙ sym (unlines_append a b);
  plain = plain_append a b h.plain k.plain;
}

not_none : (w r : List ℕ) → [] ≡ w ++ 10 ∷ r → ⊥
not_none [] r e = cc
not_none (b ∷ w) r e = cc

same_lines : (a b : List (List ℕ)) → AllPlain a → AllPlain b → unlines a ≡ unlines b → a ≡ b
same_lines [] [] h k e = refl
same_lines [] (w ∷ b) h k e = absurd (not_none w (unlines b) e)
same_lines (w ∷ a) [] h k e = absurd (not_none w (unlines a) (sym e))
same_lines (w ∷ a) (v ∷ b) h k e =
    let head : w ≡ v = sym (upto_at 10 w (unlines a) h.0) ∙ ap (upto 10) e ∙ upto_at 10 v (unlines b) k.0 in
    let tail : a ≡ b = same_lines a b h.1 k.1 (sym (past_at 10 w (unlines a) h.0) ∙ ap (past 10) e ∙ past_at 10 v (unlines b) k.0) in
    λ i. head i ∷ tail i

one_text : (a b : List (List ℕ)) (x y : List ℕ) → HasLines a x → HasLines b y → x ≡ y → a ≡ b
one_text a b x y h k e = same_lines a b h.plain k.plain (sym h.is ∙ e ∙ k.is)

-- ---- what lines tell of events

-- what a line tells of an event: of a fetch the word `<from>@<sent>`, of a post its stamp and its priority
pub data Told : Type 0 where
  Fetched : (word : List ℕ) → Told
  Turned : Told
  Posted : (stamp prio : List ℕ) → Told

-- `<from>@<sent>`
abbrev pub word : Tables → Msg → List ℕ
word t m = party_text t m.from.0 ++ 64 ∷ decimal m.stamp.0

-- what a journal's lines tell of its events
abbrev pub told : Tables → List Entry → List Told
told t [] = []
told t (entry.Start who state ns ∷ es) = told t es
told t (entry.Fetch stamp m ∷ es) = Fetched (word t m) ∷ told t es
told t (entry.Turn stamp from sent did ns ∷ es) = Turned ∷ told t es
told t (entry.Post stamp m ∷ es) = Posted (decimal stamp.0) (decimal m.prio.0) ∷ told t es

abbrev words : List ℕ → List (List ℕ)
words s = slice_split (λ b. b == 32) s

-- what stands behind the first blank of an event's line tells
abbrev told_behind : List ℕ → List ℕ → List Told
told_behind stamp r =
    cond (begins 102 r) (map Fetched (words (past 32 r))) (cond (begins 116 r) (Turned ∷ []) (Posted stamp (upto 32 (past 32 (past 32 r))) ∷ []))

abbrev told_by : List ℕ → List Told
told_by w = cond (begins_digit w) (told_behind (upto 32 w) (past 32 w)) []

abbrev told_in : List (List ℕ) → List Told
told_in [] = []
told_in (w ∷ ws) = told_by w ++ told_in ws

told_append : (a b : List (List ℕ)) → told_in (a ++ b) ≡ told_in a ++ told_in b
told_append [] b = refl
told_append (w ∷ a) b = ap (λ (z : List Told). told_by w ++ z) (told_append a b) ∙ sym (append_assoc (told_by w) (told_in a) (told_in b))

-- a line that begins with a stamp
told_line : (stamp : ℕ) (r : List ℕ) → told_by (decimal stamp ++ 32 ∷ r) ≡ told_behind (decimal stamp) r
told_line stamp r =
    let no_blank : lacks 32 (decimal stamp) ≡ true = number_lacks 32 stamp refl in
    ap (λ (b : Bool). cond b (told_behind (upto 32 (decimal stamp ++ 32 ∷ r)) (past 32 (decimal stamp ++ 32 ∷ r))) []) (number_begins stamp (32 ∷ r))
    ∙ ap (λ (z : List ℕ). told_behind z (past 32 (decimal stamp ++ 32 ∷ r))) (upto_at 32 (decimal stamp) r no_blank)
    ∙ ap (told_behind (decimal stamp)) (past_at 32 (decimal stamp) r no_blank)

-- what stands in a post's line behind the priority
abbrev post_end : Tables → Msg → List ℕ
post_end t m = concat (source_parts t m.source ++ ((codes " " ∷ []) ++ (endpoint_parts t m.target ++ signal_parts t m)))

post_told : (t : Tables) (stamp : ℕ) (m : Msg) → told_by (concat (decimal stamp ∷ codes " post " ∷ decimal m.to.0 ∷ codes " " ∷ message_parts t m)) ≡ Posted (decimal stamp) (decimal m.prio.0) ∷ []
post_told t stamp m =
    let last : List ℕ = decimal m.prio.0 ++ 32 ∷ post_end t m in
    let behind : List ℕ = decimal m.to.0 ++ 32 ∷ last in
    let prio : upto 32 (past 32 behind) ≡ decimal m.prio.0 =
    ap (upto 32) (past_at 32 (decimal m.to.0) last (number_lacks 32 m.to.0 refl)) ∙ upto_at 32 (decimal m.prio.0) (post_end t m) (number_lacks 32 m.prio.0 refl) in
    told_line stamp (codes "post " ++ behind)
    ∙ ap (λ (z : List ℕ). Posted (decimal stamp) (upto 32 (past 32 z)) ∷ []) (past_at 32 (codes "post") behind refl)
    ∙ ap (λ (z : List ℕ). Posted (decimal stamp) z ∷ []) prio

turn_told : (t : Tables) (stamp from sent : ℕ) (did : Did) → told_by (concat (turn_parts t stamp from sent ++ did_parts t did)) ≡ Turned ∷ []
turn_told t stamp from sent did = told_line stamp (codes "turn " ++ concat (party_text t from ∷ codes "@" ∷ decimal sent ∷ did_parts t did))

-- words, each behind a blank
abbrev blanks : List (List ℕ) → List ℕ
blanks [] = []
blanks (v ∷ vs) = 32 ∷ (v ++ blanks vs)

-- no blank stands in these words
abbrev NoBlanks : List (List ℕ) → Type 0
NoBlanks [] = Unit {0}
NoBlanks (v ∷ vs) = (lacks 32 v ≡ true) × NoBlanks vs

words_back : (v : List ℕ) (us : List (List ℕ)) → lacks 32 v ≡ true → NoBlanks us → words (v ++ blanks us) ≡ v ∷ us
words_back v [] h k = ap words (append-nil v) ∙ split_none 32 v h
words_back v (u ∷ us) h k = split_at 32 v (u ++ blanks us) h ∙ ap (λ (z : List (List ℕ)). v ∷ z) (words_back u us k.0 k.1)

-- a line of fetches
abbrev fetch_line : ℕ → List (List ℕ) → List ℕ
fetch_line stamp vs = decimal stamp ++ 32 ∷ (codes "fetch" ++ blanks vs)

fetch_told : (stamp : ℕ) (v : List ℕ) (us : List (List ℕ)) → lacks 32 v ≡ true → NoBlanks us → told_by (fetch_line stamp (v ∷ us)) ≡ map Fetched (v ∷ us)
fetch_told stamp v us h k =
    told_line stamp (codes "fetch" ++ blanks (v ∷ us))
    ∙ ap (λ (z : List ℕ). map Fetched (words z)) (past_at 32 (codes "fetch") (v ++ blanks us) refl) ∙ ap (map Fetched) (words_back v us h k)

-- ---- the lines of entries

-- whether a line may stand in a journal: it begins with a digit, as `note` or as `start`
abbrev pub is_entry_line : List ℕ → Bool
is_entry_line w = begins_digit w || (begins 110 w || (begins 115 w && begins 116 (drop 1 w)))

abbrev EachLine : (List ℕ → Bool) → List (List ℕ) → Type 0
EachLine p [] = Unit {0}
EachLine p (w ∷ ws) = (p w ≡ true) × EachLine p ws

each_append : (p : List ℕ → Bool) (a b : List (List ℕ)) → EachLine p a → EachLine p b → EachLine p (a ++ b)
each_append p [] b h k = k
each_append p (w ∷ a) b h k = (h.0, each_append p a b h.1 k)

-- these are the lines of a journal with these entries
record AreOf (t : Tables) (es : List Entry) (ws : List (List ℕ)) : Type 0 where
  tells : told_in ws ≡ told t es
  each : EachLine is_entry_line ws

-- lines of a text that may stand in a journal, and what they tell of events
record Telling (text : List ℕ) (what : List Told) : Type 0 where
  ws : List (List ℕ)
  lines : HasLines ws text
  tells : told_in ws ≡ what
  each : EachLine is_entry_line ws

nothing_told : Telling [] []
nothing_told = record { ws = []; lines = no_lines; tells = refl; each = tt }

more_told : (x y : List ℕ) (a b : List Told) → Telling x a → Telling y b → Telling (x ++ y) (a ++ b)
more_told x y a b h k = record {
  ws = h.ws ++ k.ws;
  lines = more_lines h.ws k.ws x y h.lines k.lines;
  tells = told_append h.ws k.ws ∙ ap (λ (z : List Told). z ++ told_in k.ws) h.tells ∙ ap (λ (z : List Told). a ++ z) k.tells;
  each = each_append is_entry_line h.ws k.ws h.each k.each;
}

-- a line without a digit at its front
quiet_line : (parts : List (List ℕ)) → AllPlain parts → told_by (concat parts) ≡ [] → is_entry_line (concat parts) ≡ true → Telling (line parts) []
quiet_line parts h quiet may = record {
  ws = concat parts ∷ [];
  lines = one_line parts h;
  tells = ap (λ (z : List Told). z ++ []) quiet;
  each = (may, tt);
}

-- a line that begins with a digit may stand in a journal
digit_line : (w : List ℕ) → begins_digit w ≡ true → is_entry_line w ≡ true
digit_line w h = or_left (begins_digit w) _ h

-- the line of fetches that stands open has these words behind its stamp
record Open (w : List ℕ) (v : List ℕ) (us : List (List ℕ)) : Type 0 where
  stamp : ℕ
  is : w ≡ fetch_line stamp (v ∷ us)
  first : lacks 32 v ≡ true
  others : NoBlanks us
  plain : lacks 10 w ≡ true

-- the entries of a controller's journal, where no line of fetches stands open, and where one does
record Both (t : Tables) (es : List Entry) : Type 0 where
  fresh : Telling (tied_entries_text t false es) (told t es)
  begun : (w v : List ℕ) (us : List (List ℕ)) → Open w v us → Telling (w ++ tied_entries_text t true es) (map Fetched (v ∷ us) ++ told t es)

module _ (t : Tables) (named : IsWellNamed t) where
  one_note : (speaker : Option SlotId) (n : Note) → Telling (note_line t speaker n) []
  one_note speaker notes.Zero = quiet_line (codes "note zero" ∷ []) (refl, tt) refl refl
  one_note speaker notes.NoMessage = quiet_line (codes "note nomessage" ∷ []) (refl, tt) refl refl
  one_note speaker (notes.Unbound port place) =
      quiet_line (codes "note unbound " ∷ speaking_port_text t speaker port ∷ codes "[" ∷ signed_decimal place ∷ codes "]" ∷ [])
      (refl, (speaking_plain t named speaker port, (refl, (signed_plain place, (refl, tt))))) refl refl
  one_note speaker (notes.Recall count) = quiet_line (codes "note recall " ∷ decimal count ∷ []) (refl, (number_lacks 10 count refl, tt)) refl refl
  one_note speaker (notes.Up who state) = quiet_line (codes "note up " ∷ standing_parts t who state) (refl, standing_plain t named who state) refl refl
  one_note speaker (notes.Down who lost) =
      quiet_line (codes "note down " ∷ (incarnation_parts t who ++ (codes " " ∷ decimal lost ∷ [])))
      (refl, plain_append (incarnation_parts t who) (codes " " ∷ decimal lost ∷ []) (incarnation_plain t named who) (refl, (number_lacks 10 lost refl, tt))) refl refl

  notes_of : (duty : Bool) (ns : List Note) (speaker : Option SlotId) → Telling (note_lines t duty speaker ns) []
  notes_of duty [] speaker = nothing_told
  notes_of duty (n ∷ ns) speaker =
      more_told (note_line t speaker n) (note_lines t duty (speaker_after duty speaker n) ns) [] [] (one_note speaker n) (notes_of duty ns (speaker_after duty speaker n))

  -- an event's line
  event_line : (parts : List (List ℕ)) (what : Told) → AllPlain parts → begins_digit (concat parts) ≡ true → told_by (concat parts) ≡ what ∷ [] → Telling (line parts) (what ∷ [])
  event_line parts what h digit tells = record {
    ws = concat parts ∷ [];
    lines = one_line parts h;
    tells = ap (λ (z : List Told). z ++ []) tells;
    each = (digit_line (concat parts) digit, tt);
  }

  start_told : (who : Incarnation) (state : ℕ) (ns : List Note) → Telling (entry_text t (entry.Start who state ns)) []
  start_told who state ns =
      more_told (line (codes "start " ∷ standing_parts t who state)) (note_lines t false (Some who.slot) ns) [] []
      (quiet_line (codes "start " ∷ standing_parts t who state) (refl, standing_plain t named who state) refl refl) (notes_of false ns (Some who.slot))

  turned_told : (stamp : Stamp) (from : ControllerId) (sent : Stamp) (did : Did) (ns : List Note) → Telling (entry_text t (entry.Turn stamp from sent did ns)) (Turned ∷ [])
  turned_told stamp from sent did ns =
      let parts : List (List ℕ) = turn_parts t stamp.0 from.0 sent.0 ++ did_parts t did in
      more_told (line parts) (note_lines t (is_duty did) (speaker_of did) ns) (Turned ∷ []) []
      (event_line parts Turned (number_lacks 10 stamp.0 refl, (refl, (party_lacks 10 t from.0 refl refl, (refl, (number_lacks 10 sent.0 refl, did_plain t named did)))))
      (number_begins stamp.0 _) (turn_told t stamp.0 from.0 sent.0 did))
      (notes_of (is_duty did) ns (speaker_of did))

  posted_told : (stamp : Stamp) (m : Msg) → Telling (entry_text t (entry.Post stamp m)) (Posted (decimal stamp.0) (decimal m.prio.0) ∷ [])
  posted_told stamp m =
      event_line (decimal stamp.0 ∷ codes " post " ∷ decimal m.to.0 ∷ codes " " ∷ message_parts t m) (Posted (decimal stamp.0) (decimal m.prio.0))
      (number_lacks 10 stamp.0 refl, (refl, (number_lacks 10 m.to.0 refl, (refl, message_plain t named m)))) (number_begins stamp.0 _) (post_told t stamp.0 m)

  -- what the environment posts
  posts_told : (es : List Entry) → Each IsPost es → Telling (journal_text t es) (told t es)
  unfolding journal_text
  posts_told [] h = nothing_told
  posts_told (entry.Start who state ns ∷ es) h = absurd h.0
  posts_told (entry.Fetch stamp m ∷ es) h = absurd h.0
  posts_told (entry.Turn stamp from sent did ns ∷ es) h = absurd h.0
  posts_told (entry.Post stamp m ∷ es) h =
      more_told (entry_text t (entry.Post stamp m)) (flat_map (entry_text t) es) (Posted (decimal stamp.0) (decimal m.prio.0) ∷ []) (told t es) (posted_told stamp m) (posts_told es h.1)

  -- ---- lines of fetches

  word_plain : (m : Msg) → lacks 10 (word t m) ≡ true
  word_plain m = lacks-append 10 (party_text t m.from.0) (64 ∷ decimal m.stamp.0) (party_lacks 10 t m.from.0 refl refl) (number_lacks 10 m.stamp.0 refl)

  word_whole : (m : Msg) → lacks 32 (word t m) ≡ true
  word_whole m = lacks-append 32 (party_text t m.from.0) (64 ∷ decimal m.stamp.0) (party_lacks 32 t m.from.0 refl refl) (number_lacks 32 m.stamp.0 refl)

  sent_shape : (m : Msg) → concat (sent_parts t m) ≡ 32 ∷ word t m
  sent_shape m = ap (λ (x : List ℕ). 32 ∷ (party_text t m.from.0 ++ 64 ∷ x)) (append-nil (decimal m.stamp.0))

  blanks_more : (vs : List (List ℕ)) (u : List ℕ) → blanks vs ++ 32 ∷ u ≡ blanks (vs ++ u ∷ [])
  blanks_more [] u = ap (λ (z : List ℕ). 32 ∷ z) (sym (append-nil u))
  blanks_more (v ∷ vs) u = ap (λ (z : List ℕ). 32 ∷ z) (append_assoc v (blanks vs) (32 ∷ u) ∙ ap (λ (z : List ℕ). v ++ z) (blanks_more vs u))

  no_blanks_more : (vs : List (List ℕ)) (u : List ℕ) → NoBlanks vs → lacks 32 u ≡ true → NoBlanks (vs ++ u ∷ [])
  no_blanks_more [] u h k = (k, tt)
  no_blanks_more (v ∷ vs) u h k = (h.0, no_blanks_more vs u h.1 k)

  opened : (stamp : ℕ) (m : Msg) → Open (concat (fetch_parts t stamp m)) (word t m) []
  opened stamp m =
      let shape : concat (fetch_parts t stamp m) ≡ fetch_line stamp (word t m ∷ []) =
      ap (λ (x : List ℕ). decimal stamp ++ (codes " fetch" ++ x)) (sent_shape m ∙ ap (λ (x : List ℕ). 32 ∷ x) (sym (append-nil (word t m)))) in
      record {
        stamp = stamp;
        is = shape;
        first = word_whole m;
        others = tt;
        plain = plain_concat (fetch_parts t stamp m) (number_lacks 10 stamp refl, (refl, (refl, (party_lacks 10 t m.from.0 refl refl, (refl, (number_lacks 10 m.stamp.0 refl, tt))))));
      }

  lengthened : (w v : List ℕ) (us : List (List ℕ)) (m : Msg) → Open w v us → Open (w ++ concat (sent_parts t m)) v (us ++ word t m ∷ [])
  lengthened w v us m o =
      let tail : List ℕ = 32 ∷ word t m in
      record {
        stamp = o.stamp;
        is = ap (λ (z : List ℕ). w ++ z) (sent_shape m) ∙ ap (λ (z : List ℕ). z ++ tail) o.is
            ∙ append_assoc (decimal o.stamp) (32 ∷ (codes "fetch" ++ blanks (v ∷ us))) tail
            ∙ ap (λ (z : List ℕ). decimal o.stamp ++ 32 ∷ (codes "fetch" ++ z)) (blanks_more (v ∷ us) (word t m));
        first = o.first;
        others = no_blanks_more us (word t m) o.others (word_whole m);
        plain = subst (λ (z : List ℕ). lacks 10 (w ++ z) ≡ true) (sym (sent_shape m)) (lacks-append 10 w tail o.plain (word_plain m));
      }

  -- the open line ends
  closed_line : (w v : List ℕ) (us : List (List ℕ)) → Open w v us → Telling (w ++ 10 ∷ []) (map Fetched (v ∷ us))
  closed_line w v us o = record {
    ws = w ∷ [];
    lines = record { is = refl; plain = (o.plain, tt) };
    tells = append-nil (told_by w) ∙ ap told_by o.is ∙ fetch_told o.stamp v us o.first o.others;
    each = (digit_line w (ap begins_digit o.is ∙ number_begins o.stamp (32 ∷ (codes "fetch" ++ blanks (v ∷ us)))), tt);
  }

  -- an entry that isn't a fetch ends the open line
  closing : (w v : List ℕ) (us : List (List ℕ)) (text : List ℕ) (what : List Told) → Open w v us → Telling text what → Telling (w ++ 10 ∷ text) (map Fetched (v ∷ us) ++ what)
  closing w v us text what o more =
      subst (λ (z : List ℕ). Telling z (map Fetched (v ∷ us) ++ what)) (append_assoc w (10 ∷ []) text)
      (more_told (w ++ 10 ∷ []) text (map Fetched (v ∷ us)) what (closed_line w v us o) more)

  map_more : (us : List (List ℕ)) (u : List ℕ) (what : List Told) → map Fetched (us ++ u ∷ []) ++ what ≡ map Fetched us ++ Fetched u ∷ what
  map_more [] u what = refl
  map_more (v ∷ us) u what = ap (λ (z : List Told). Fetched v ∷ z) (map_more us u what)

  tied_lines : (es : List Entry) → Both t es
  tied_lines [] = record {
    fresh = nothing_told;
    begun = λ w v us o. subst (Telling (w ++ 10 ∷ [])) (sym (append-nil (map Fetched (v ∷ us)))) (closed_line w v us o);
  }
  tied_lines (entry.Start who state ns ∷ es) =
      let own = more_told (entry_text t (entry.Start who state ns)) (tied_entries_text t false es) [] (told t es) (start_told who state ns) (tied_lines es).fresh in
      record { fresh = own; begun = λ w v us o. closing w v us (entry_text t (entry.Start who state ns) ++ tied_entries_text t false es) (told t es) o own }
  tied_lines (entry.Turn stamp from sent did ns ∷ es) =
      let own = more_told (entry_text t (entry.Turn stamp from sent did ns)) (tied_entries_text t false es) (Turned ∷ []) (told t es) (turned_told stamp from sent did ns) (tied_lines es).fresh in
      record { fresh = own; begun = λ w v us o. closing w v us (entry_text t (entry.Turn stamp from sent did ns) ++ tied_entries_text t false es) (Turned ∷ told t es) o own }
  tied_lines (entry.Post stamp m ∷ es) =
      let own = more_told (entry_text t (entry.Post stamp m)) (tied_entries_text t false es) (Posted (decimal stamp.0) (decimal m.prio.0) ∷ []) (told t es) (posted_told stamp m) (tied_lines es).fresh in
      record { fresh = own; begun = λ w v us o. closing w v us (entry_text t (entry.Post stamp m) ++ tied_entries_text t false es) (Posted (decimal stamp.0) (decimal m.prio.0) ∷ told t es) o own }
  tied_lines (entry.Fetch stamp m ∷ es) =
      let rest = tied_lines es in
      record {
        fresh = rest.begun (concat (fetch_parts t stamp.0 m)) (word t m) [] (opened stamp.0 m);
        begun = λ w v us o.
            subst (λ (z : List ℕ). Telling z (map Fetched (v ∷ us) ++ told t (entry.Fetch stamp m ∷ es))) (append_assoc w (concat (sent_parts t m)) (tied_entries_text t true es))
            (subst (Telling ((w ++ concat (sent_parts t m)) ++ tied_entries_text t true es)) (map_more (v ∷ us) (word t m) (told t es))
            (rest.begun (w ++ concat (sent_parts t m)) v (us ++ word t m ∷ []) (lengthened w v us m o)));
      }

-- ---- the lines of all journals

-- no line of a journal comes next
abbrev Stops : List (List ℕ) → Type 0
Stops [] = Unit {0}
Stops (w ∷ ws) = is_entry_line w ≡ false

-- a journal's lines end where others begin
cut_here : (a b r s : List (List ℕ)) → EachLine is_entry_line a → EachLine is_entry_line b → Stops r → Stops s → a ++ r ≡ b ++ s
    → (a ≡ b) × (r ≡ s)
cut_here [] [] r s h k x y e = (refl, e)
cut_here [] (w ∷ b) [] s h k x y e = absurd cc
cut_here [] (w ∷ b) (v ∷ r) s h k x y e =
    let same : v ≡ w = cc in let both : is_entry_line v ≡ is_entry_line w = ap is_entry_line same in absurd cc
cut_here (w ∷ a) [] r [] h k x y e = absurd cc
cut_here (w ∷ a) [] r (v ∷ s) h k x y e =
    let same : w ≡ v = cc in let both : is_entry_line w ≡ is_entry_line v = ap is_entry_line same in absurd cc
cut_here (w ∷ a) (v ∷ b) r s h k x y e =
    let head : w ≡ v = cc in
    let tail : a ++ r ≡ b ++ s = cc in
    let rest = cut_here a b r s h.1 k.1 x y tail in
    ((λ i. head i ∷ rest.0 i), rest.1)

-- these are the lines of controllers with these journals, each under its title
abbrev AreOfAll : Tables → List (List Entry) → List (List ℕ) → Type 0
AreOfAll t [] ws = ws ≡ []
AreOfAll t (es ∷ ess) ws =
    (title : List ℕ) × (own : List (List ℕ)) × (more : List (List ℕ)) × (ws ≡ title ∷ (own ++ more)) × (is_entry_line title ≡ false) × AreOf t es own × AreOfAll t ess more

record Controllers (t : Tables) (ess : List (List Entry)) (text : List ℕ) : Type 0 where
  ws : List (List ℕ)
  lines : HasLines ws text
  are : AreOfAll t ess ws

controllers_lines : (t : Tables) (named : IsWellNamed t) (ess : List (List Entry)) (c : ℕ) → Controllers t ess (tied_controllers_text t c ess)
unfolding tied_controller_text tied_journal_text
controllers_lines t named [] c = record { ws = []; lines = no_lines; are = refl }
controllers_lines t named (es ∷ ess) c =
    let parts : List (List ℕ) = codes "controller " ∷ decimal c ∷ codes " " ∷ slice_index_or t.controllers c [] ∷ [] in
    let title = one_line parts (refl, (number_lacks 10 c refl, (refl, (name_plain t named c, tt)))) in
    let own = (tied_lines t named es).fresh in
    let more = controllers_lines t named ess (suc c) in
    record {
      ws = (concat parts ∷ own.ws) ++ more.ws;
      lines = more_lines (concat parts ∷ own.ws) more.ws (line parts ++ tied_entries_text t false es) (tied_controllers_text t (suc c) ess)
          (more_lines (concat parts ∷ []) own.ws (line parts) (tied_entries_text t false es) title own.lines) more.lines;
      are = (concat parts, own.ws, more.ws, refl, refl, record { tells = own.tells; each = own.each }, more.are);
    }

-- journal by journal the same events are told
abbrev pub SameTold : Tables → List (List Entry) → List (List Entry) → Type 0
SameTold t [] [] = Unit {0}
SameTold t [] (fs ∷ fss) = ⊥
SameTold t (es ∷ ess) [] = ⊥
SameTold t (es ∷ ess) (fs ∷ fss) = (told t es ≡ told t fs) × SameTold t ess fss

stops_before : (t : Tables) (ess : List (List Entry)) (ws r : List (List ℕ)) → AreOfAll t ess ws → Stops r → Stops (ws ++ r)
stops_before t [] ws r h x = subst (λ (z : List (List ℕ)). Stops (z ++ r)) (sym h) x
stops_before t (es ∷ ess) ws r h x = subst (λ (z : List (List ℕ)). Stops (z ++ r)) (sym h.3) h.4

same_journal : (t : Tables) (es fs : List Entry) (a b : List (List ℕ)) → AreOf t es a → AreOf t fs b → a ≡ b → told t es ≡ told t fs
same_journal t es fs a b h k e = sym h.tells ∙ ap told_in e ∙ k.tells

same_controllers : (t : Tables) (ess fss : List (List Entry)) (a b r s : List (List ℕ)) → length ess ≡ length fss → AreOfAll t ess a
    → AreOfAll t fss b → Stops r → Stops s
    → a ++ r ≡ b ++ s → SameTold t ess fss × (r ≡ s)
same_controllers t [] [] a b r s n h k x y e =
    (tt, ap (λ (z : List (List ℕ)). z ++ r) (sym h) ∙ e ∙ ap (λ (z : List (List ℕ)). z ++ s) k)
same_controllers t [] (fs ∷ fss) a b r s n h k x y e = absurd (omega (arith, n))
same_controllers t (es ∷ ess) [] a b r s n h k x y e = absurd (omega (arith, n))
same_controllers t (es ∷ ess) (fs ∷ fss) a b r s n h k x y e =
    let whole : h.0 ∷ ((h.1 ++ h.2) ++ r) ≡ k.0 ∷ ((k.1 ++ k.2) ++ s) =
    ap (λ (z : List (List ℕ)). z ++ r) (sym h.3) ∙ e ∙ ap (λ (z : List (List ℕ)). z ++ s) k.3 in
    let tail : (h.1 ++ h.2) ++ r ≡ (k.1 ++ k.2) ++ s = cc in
    let apart : h.1 ++ (h.2 ++ r) ≡ k.1 ++ (k.2 ++ s) = sym (append_assoc h.1 h.2 r) ∙ tail ∙ append_assoc k.1 k.2 s in
    let cut = cut_here h.1 k.1 (h.2 ++ r) (k.2 ++ s) h.5.each k.5.each (stops_before t ess h.2 r h.6 x) (stops_before t fss k.2 s k.6 y) apart in
    let rest = same_controllers t ess fss h.2 k.2 r s (omega (arith, n)) h.6 k.6 x y cut.1 in
    ((same_journal t es fs h.1 k.1 h.5 k.5 cut.0, rest.0), rest.1)

-- ---- the lines behind the journals

-- lines of which none may stand in a journal come first
record Tail (text : List ℕ) : Type 0 where
  ws : List (List ℕ)
  lines : HasLines ws text
  stops : Stops ws

-- a line, and more
tail_line : (parts : List (List ℕ)) (text : List ℕ) → AllPlain parts → is_entry_line (concat parts) ≡ false → Tail text
    → Tail (line parts ++ text)
tail_line parts text h stop more = record {
  ws = concat parts ∷ more.ws;
  lines = more_lines (concat parts ∷ []) more.ws (line parts) text (one_line parts h) more.lines;
  stops = stop;
}

end_tail : (done : Bool) → Tail (end_line done)
end_tail true = record { ws = codes "done" ∷ []; lines = one_line (codes "done" ∷ []) (refl, tt); stops = refl }
end_tail false = record { ws = codes "spent" ∷ []; lines = one_line (codes "spent" ∷ []) (refl, tt); stops = refl }

unposted_tail : (ns : List ℕ) (text : List ℕ) → Tail text → Tail (unposted_text ns ++ text)
unfolding unposted_text
unposted_tail [] text more = more
unposted_tail (n ∷ ns) text more =
    let parts : List (List ℕ) = codes "unposted " ∷ decimal n ∷ [] in
    subst Tail (sym (append_assoc (line parts) (flat_map unposted_line ns) text))
    (tail_line parts (flat_map unposted_line ns ++ text) (refl, (number_lacks 10 n refl, tt)) refl (unposted_tail ns text more))

where_plain : (pending : Bool) → lacks 10 (where_text pending) ≡ true
where_plain true = refl
where_plain false = refl

left_tail : (t : Tables) (named : IsWellNamed t) (ls : List Left) (text : List ℕ) → Tail text → Tail (left_text t ls ++ text)
unfolding left_text
left_tail t named [] text more = more
left_tail t named (l ∷ ls) text more =
    let parts : List (List ℕ) =
    codes "left " ∷ decimal l.to.0 ∷ where_text l.pending ∷ party_text t l.msg.from.0 ∷ codes "@" ∷ decimal l.msg.stamp.0 ∷ codes " " ∷ message_parts t l.msg in
    let plain : AllPlain parts =
    (refl, (number_lacks 10 l.to.0 refl, (where_plain l.pending, (party_lacks 10 t l.msg.from.0 refl refl, (refl, (number_lacks 10 l.msg.stamp.0 refl, (refl, message_plain t named l.msg))))))) in
    subst Tail (sym (append_assoc (line parts) (flat_map (left_line t) ls) text))
    (tail_line parts (flat_map (left_line t) ls ++ text) plain refl (left_tail t named ls text more))

-- ---- the whole text

-- the lines of a whole text
record Whole (t : Tables) (j : Journals) : Type 0 where
  controllers : List (List ℕ)
  environment : List (List ℕ)
  behind : List (List ℕ)
  lines : HasLines (codes "room-journal 2" ∷ (controllers ++ (codes "environment" ∷ (environment ++ behind)))) (tied_text_of t j)
  are : AreOfAll t j.controllers controllers
  own : AreOf t j.environment environment
  stops : Stops behind

whole_lines : (t : Tables) (named : IsWellNamed t) (j : Journals) → Each IsPost j.environment → Whole t j
unfolding tied_text_of rest_text below_text
whole_lines t named j posts =
    let cs = controllers_lines t named j.controllers 0 in
    let es = posts_told t named j.environment posts in
    let tail = left_tail t named j.left (unposted_text j.unposted ++ end_line j.done) (unposted_tail j.unposted (end_line j.done) (end_tail j.done)) in
    let tail_text : List ℕ = left_text t j.left ++ (unposted_text j.unposted ++ end_line j.done) in
    let behind : HasLines (es.ws ++ tail.ws) (journal_text t j.environment ++ tail_text) =
    more_lines es.ws tail.ws (journal_text t j.environment) tail_text es.lines tail.lines in
    let outside : HasLines (codes "environment" ∷ (es.ws ++ tail.ws)) (line (codes "environment" ∷ []) ++ (journal_text t j.environment ++ tail_text)) =
    more_lines (codes "environment" ∷ []) (es.ws ++ tail.ws) (line (codes "environment" ∷ [])) (journal_text t j.environment ++ tail_text)
    (one_line (codes "environment" ∷ []) (refl, tt)) behind in
    let all : HasLines (cs.ws ++ (codes "environment" ∷ (es.ws ++ tail.ws))) (tied_controllers_text t 0 j.controllers ++ (line (codes "environment" ∷ []) ++ (journal_text t j.environment ++ tail_text))) =
    more_lines cs.ws (codes "environment" ∷ (es.ws ++ tail.ws)) (tied_controllers_text t 0 j.controllers) (line (codes "environment" ∷ []) ++ (journal_text t j.environment ++ tail_text)) cs.lines outside in
    record {
      controllers = cs.ws;
      environment = es.ws;
      behind = tail.ws;
      lines = more_lines (codes "room-journal 2" ∷ []) (cs.ws ++ (codes "environment" ∷ (es.ws ++ tail.ws))) (line (codes "room-journal 2" ∷ []))
          (tied_controllers_text t 0 j.controllers ++ (line (codes "environment" ∷ []) ++ (journal_text t j.environment ++ tail_text)))
          (one_line (codes "room-journal 2" ∷ []) (refl, tt)) all;
      are = cs.are;
      own = record { tells = es.tells; each = es.each };
      stops = tail.stops;
    }

-- the text of journals in form 2 tells the events of each controller and of the environment, where that posts alone
pub same_told : (t : Tables) → IsWellNamed t → (i j : Journals) → length i.controllers ≡ length j.controllers → Each IsPost i.environment → Each IsPost j.environment
    → tied_text_of t i ≡ tied_text_of t j → SameTold t i.controllers j.controllers × (told t i.environment ≡ told t j.environment)
same_told t named i j n i_posts j_posts e =
    let a = whole_lines t named i i_posts in
    let b = whole_lines t named j j_posts in
    let whole = one_text (codes "room-journal 2" ∷ (a.controllers ++ (codes "environment" ∷ (a.environment ++ a.behind))))
    (codes "room-journal 2" ∷ (b.controllers ++ (codes "environment" ∷ (b.environment ++ b.behind)))) (tied_text_of t i) (tied_text_of t j) a.lines b.lines e in
    let tails : a.controllers ++ (codes "environment" ∷ (a.environment ++ a.behind)) ≡ b.controllers ++ (codes "environment" ∷ (b.environment ++ b.behind)) = ap (drop 1) whole in
    let cs = same_controllers t i.controllers j.controllers a.controllers b.controllers (codes "environment" ∷ (a.environment ++ a.behind)) (codes "environment" ∷ (b.environment ++ b.behind))
    n a.are b.are refl refl tails in
    let outside : a.environment ++ a.behind ≡ b.environment ++ b.behind = ap (drop 1) cs.1 in
    let cut = cut_here a.environment b.environment a.behind b.behind a.own.each b.own.each a.stops b.stops outside in
    (cs.0, same_journal t i.environment j.environment a.environment b.environment a.own b.own cut.0)
