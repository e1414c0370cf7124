-- What a text is read as has its numbers in the ranges of their types.
use Rattle.std.proofs.Common.{◌≡◌, ℕ, zero, suc, ◌-◌, ◌<◌, ◌≤◌, nat_lt, nat_le, ◌==◌, ◌&&◌, Bool, true, false, if◌then◌else◌, List, [], ◌∷◌, ◌++◌, length, Option, Some, None, ℤ, pos, negsuc, refl, leb-true, arith}
use Rattle.std.specs.Prelude.{All, codes, fold, unwrap_or, option_map, option_and_then, position}
use Rattle.std.specs.List.{AllByRecursion as Each, slice_split, slice_index_or}
use Rattle.std.specs.Option.{option_map_or}
use Rattle.std.proofs.lemmas.Bool.{ltb-true, and_parts}
use Rattle.std.proofs.lemmas.List.Elements.{All-nil, All-push, All-map, All-weaker, All-from_recursion, recursion_from_All}
use Rattle.name_tables.specs.name_numbers.Names.{same}
use Rattle.text_reading.specs.Numerals.{are_digits, value_of, minus, positive_in, negative_in, number_in as numeral_in}
use Rattle.room_kinds.specs.Kinds.{number_of}
use Rattle.room_kinds.specs.Names.{kind_named}
use Rattle.room_kinds.specs.declared.system.SysKind.{SysKind}
use Rattle.room_kinds.specs.declared.system.SysKind.TheVariants as kinds
use Rattle.room_kinds.specs.declared.numbers.ControllerId.{ControllerId}
use Rattle.room_kinds.specs.declared.numbers.Endpoint.{Endpoint}
use Rattle.room_kinds.specs.declared.numbers.SlotId.{SlotId}
use Rattle.room_kinds.specs.declared.message.Msg.{Msg}
use Rattle.room_kinds.specs.declared.note.Note.{Note}
use Rattle.room_wiring.specs.declared.tables.Tables.{Tables}
use Rattle.room_wiring.specs.declared.names.ClassNames.{ClassNames}
use Rattle.room_wiring.specs.declared.names.PortNames.{PortNames}
use Rattle.room_wiring.specs.Consistent.{IsConsistent}
use Rattle.room_wiring.specs.Slots.{class_of}
use Rattle.room_wiring.specs.wiring_names.Lookup.{narrowed, place_of, port_in, state_in as label_in, signal_in as signal_of, port_of, port_called, state_called, signal_called}
use Rattle.journal.specs.declared.entry.Entry.{Entry}
use Rattle.journal.specs.declared.entry.Entry.TheVariants as entries
use Rattle.journal.specs.declared.entry.Left.{Left}
use Rattle.journal.specs.declared.entry.Journals.{Journals}
use Rattle.tied_journals.specs.Tied.{journal_of, posted_at}
use Rattle.tied_journals.specs.PostTables.{kept_of, only_of}
use Rattle.journal_reader.specs.declared.journal_lines.draft.Draft.{Draft}
use Rattle.journal_reader.specs.declared.journal_lines.draft.Head.{Head}
use Rattle.journal_reader.specs.declared.journal_lines.draft.Head.TheVariants as heads
use Rattle.journal_reader.specs.journal_lines.Numerals.{upto, past, begins, begins_digit, below, number_in, byte_in, word_in, signed_in}
use Rattle.journal_reader.specs.journal_lines.Fields.{party_in, incarnation_in, endpoint_in, source_in, after_source, state_in, kind_in, signal_in, speaking_port_in}
use Rattle.journal_reader.specs.journal_lines.Messages.{numbers_from, numbers_in, message_in, did_in, note_in}
use Rattle.journal_reader.specs.journal_lines.Fetches.{outline_in, fetched_after, further, fetches}
use Rattle.journal_reader.specs.journal_lines.Drafts.{nothing_read, with_entry, closed_at, closed, opened, entered, annotated, shelved, titled_by, in_form, with_left, with_unposted, with_done}
use Rattle.journal_reader.specs.journal_lines.Reading.{fetched, any_fetched, turned, posted, timed, started, left_message, worded, taking, reading, journals_in}
use Rattle.journal_reader.specs.journal_texts.InRange.{Is8Bit, Is16Bit, Is32Bit, Is64Bit, IsSigned64, InRangeIncarnation, InRangeEndpoint, InRangeSource, InRangeMsg, InRangeStanding, InRangeNote, InRangeDid, InRangeEntry, InRangeLeft, IsInRange}
use Rattle.journal_reader.specs.journal_texts.Filled.{filled_message, filled_entry, filled_entries, filled, tied_journals_in}

-- one of two
either : {A : Type 0} (P : A → Type 0) (b : Bool) (x y : A) → P x → P y → P (if b then x else y)
either P true x y h k = h
either P false x y h k = k

-- ---- numbers

number_small : (s : List ℕ) → Is64Bit (number_in s)
unfolding number_in
number_small s = omega arith

below_small : (limit n : ℕ) → 0 < limit → below limit n < limit
below_small limit n some = go (nat_lt n limit) refl
  where
    go : (b : Bool) → nat_lt n limit ≡ b → (if b then n else 0) < limit
    go true e = ltb-true n limit e
    go false e = some

byte_small : (s : List ℕ) → Is8Bit (byte_in s)
unfolding byte_in
byte_small s = below_small 256 (number_in s) (omega arith)

word_small : (s : List ℕ) → Is32Bit (word_in s)
unfolding word_in
word_small s = below_small 4294967296 (number_in s) (omega arith)

-- the number of digits, if they are one
abbrev SignedIf : Option ℤ → Type 0
SignedIf o = IsSigned64 (unwrap_or o (pos 0))

minus_small : (n : ℕ) → n ≤ 9223372036854775808 → IsSigned64 (minus n)
minus_small n h = go (n == 0)
  where
    go : (b : Bool) → IsSigned64 (if b then pos 0 else negsuc (n - 1))
    go true = omega arith
    go false = omega (arith, h)

positive_small : (s : List ℕ) → SignedIf (positive_in s)
positive_small s = go (are_digits s && nat_lt (value_of s) 9223372036854775808) refl
  where
    go : (b : Bool) → (are_digits s && nat_lt (value_of s) 9223372036854775808) ≡ b
        → SignedIf (if b then Some (pos (value_of s)) else None)
    go true e = ltb-true (value_of s) 9223372036854775808 (and_parts (are_digits s) (nat_lt (value_of s) 9223372036854775808) e).1
    go false e = omega arith

negative_small : (s : List ℕ) → SignedIf (negative_in s)
negative_small s = go (are_digits s && nat_le (value_of s) 9223372036854775808) refl
  where
    go : (b : Bool) → (are_digits s && nat_le (value_of s) 9223372036854775808) ≡ b
        → SignedIf (if b then Some (minus (value_of s)) else None)
    go true e = minus_small (value_of s) (leb-true (value_of s) 9223372036854775808 (and_parts (are_digits s) (nat_le (value_of s) 9223372036854775808) e).1)
    go false e = omega arith

signed_small : (s : List ℕ) → IsSigned64 (signed_in s)
unfolding signed_in numeral_in
signed_small [] = omega arith
signed_small (b ∷ bs) = either SignedIf (b == 45) (negative_in bs) (positive_in (b ∷ bs)) (negative_small bs) (positive_small (b ∷ bs))

numbers_small : (n : ℕ) (s : List ℕ) → Each IsSigned64 (numbers_from n s)
unfolding numbers_from
numbers_small zero s = tt
numbers_small (suc n) s = go (length s == 0) (signed_small (upto 32 s)) (numbers_small n (past 32 s))
  where
    go : (b : Bool) → IsSigned64 (signed_in (upto 32 s)) → Each IsSigned64 (numbers_from n (past 32 s))
        → Each IsSigned64 (if b then [] else signed_in (upto 32 s) ∷ numbers_from n (past 32 s))
    go true h k = tt
    go false h k = (h, k)

numbers_few : (n : ℕ) (s : List ℕ) → length (numbers_from n s) ≤ n
unfolding numbers_from
numbers_few zero s = omega arith
numbers_few (suc n) s = go (length s == 0) (numbers_few n (past 32 s))
  where
    go : (b : Bool) → length (numbers_from n (past 32 s)) ≤ n → length (if b then [] else signed_in (upto 32 s) ∷ numbers_from n (past 32 s)) ≤ suc n
    go true h = omega arith
    go false h = omega (arith, h)

-- ---- names

narrowed_small : (o : Option ℕ) → Is16Bit (narrowed o)
narrowed_small None = omega arith
narrowed_small (Some i) = below_small 65536 i (omega arith)

place_small : (names : List (List ℕ)) (name : List ℕ) → Is16Bit (place_of names name)
unfolding place_of
place_small names name = narrowed_small (position (same name) names)

port_small : (t : Tables) (s : ℕ) (name : List ℕ) → Is16Bit (port_called t s name)
unfolding port_called
port_small t s name = go (class_of t s)
  where
    go : (o : Option ClassNames) → Is16Bit (option_map_or (port_in name) o 0)
    go None = omega arith
    go (Some c) = place_small _ name

label_small : (t : Tables) (s : ℕ) (label : List ℕ) → Is16Bit (state_called t s label)
unfolding state_called
label_small t s label = go (class_of t s)
  where
    go : (o : Option ClassNames) → Is16Bit (option_map_or (label_in label) o 0)
    go None = omega arith
    go (Some c) = place_small _ label

port_signal_small : (t : Tables) (s p : ℕ) (name : List ℕ) → Is16Bit (signal_called t s p name)
unfolding signal_called
port_signal_small t s p name = go (option_and_then (port_of p) (class_of t s))
  where
    go : (o : Option PortNames) → Is16Bit (option_map_or (signal_of name) o 0)
    go None = omega arith
    go (Some x) = place_small _ name

party_small : (t : Tables) (w : List ℕ) → length t.controllers ≤ 255 → Is8Bit (party_in t w)
unfolding party_in
party_small t w few = either Is8Bit (same w (codes "env")) (length t.controllers) (byte_in w) (omega (arith, few)) (byte_small w)

incarnation_small : (t : Tables) (s : List ℕ) → InRangeIncarnation (incarnation_in t s)
unfolding incarnation_in
incarnation_small t s = record { slot = place_small _ (upto 35 s); generation = word_small (upto 32 (past 35 s)) }

endpoint_small : (t : Tables) (s : List ℕ) → InRangeEndpoint (endpoint_in t s)
unfolding endpoint_in
endpoint_small t s = record {
  slot = place_small _ (upto 35 s);
  generation = word_small _;
  port = port_small t _ _;
  place = word_small _;
}

source_small : (t : Tables) (s : List ℕ) → InRangeSource (source_in t s)
unfolding source_in
source_small t s = either InRangeSource (begins 45 s) None (Some (endpoint_in t s)) tt (endpoint_small t s)

state_small : (t : Tables) (slot : ℕ) (w : List ℕ) → Is16Bit (state_in t slot w)
unfolding state_in
state_small t slot w = either Is16Bit (same w (codes "-")) 65535 (state_called t slot w) (omega arith) (label_small t slot w)

kind_number_small : (k : SysKind) → Is16Bit (number_of k)
kind_number_small kinds.Create = omega arith
kind_number_small kinds.CreateDone = omega arith
kind_number_small kinds.CreateRefused = omega arith
kind_number_small kinds.Destroy = omega arith
kind_number_small kinds.DestroyDone = omega arith
kind_number_small kinds.Import = omega arith
kind_number_small kinds.ImportDone = omega arith
kind_number_small kinds.ImportRefused = omega arith
kind_number_small kinds.ImportEnded = omega arith
kind_number_small kinds.Deport = omega arith
kind_number_small kinds.DeportDone = omega arith
kind_number_small kinds.Announce = omega arith
kind_number_small kinds.Register = omega arith
kind_number_small kinds.Withdraw = omega arith
kind_number_small kinds.Bound = omega arith
kind_number_small kinds.Ended = omega arith
kind_number_small kinds.NameReply = omega arith
kind_number_small kinds.PartMake = omega arith
kind_number_small kinds.PartEnd = omega arith

kind_small : (w : List ℕ) → Is16Bit (kind_in w)
unfolding kind_in
kind_small w = go (kind_named w)
  where
    go : (o : Option SysKind) → Is16Bit (unwrap_or (option_map number_of o) 0)
    go None = omega arith
    go (Some k) = kind_number_small k

signal_small : (t : Tables) (prio : ℕ) (target : Endpoint) (w : List ℕ) → Is16Bit (signal_in t prio target w)
unfolding signal_in
signal_small t prio target w = either Is16Bit (prio == 0) (kind_in w) (signal_called t target.slot.0 target.port w) (kind_small w) (port_signal_small t target.slot.0 target.port w)

speaking_port_small : (t : Tables) (o : Option SlotId) (w : List ℕ) → Is16Bit (speaking_port_in t o w)
unfolding speaking_port_in
speaking_port_small t None w = omega arith
speaking_port_small t (Some s) w = port_small t s.0 w

-- ---- messages, what turns did, notes

message_small : (t : Tables) (from to stamp : ℕ) (s : List ℕ) → Is8Bit from → Is8Bit to → Is64Bit stamp → InRangeMsg (message_in t from to stamp s)
unfolding message_in numbers_in
message_small t from to stamp s sender receiver posted = record {
  from = sender;
  to = receiver;
  prio = byte_small (upto 32 s);
  stamp = posted;
  source = source_small t (past 32 s);
  target = endpoint_small t (after_source (past 32 s));
  signal = signal_small t (byte_in (upto 32 s)) (endpoint_in t (after_source (past 32 s))) _;
  numbers = All-from_recursion IsSigned64 _ (numbers_small 64 _);
  few = numbers_few 64 _;
}

standing_small : (t : Tables) (s w : List ℕ) → InRangeStanding (incarnation_in t s) (state_in t (incarnation_in t s).slot.0 w)
standing_small t s w = record { actor = incarnation_small t s; state_fits = state_small t (incarnation_in t s).slot.0 w }

did_small : (t : Tables) (s : List ℕ) → InRangeDid (did_in t s)
unfolding did_in
did_small t s =
    either InRangeDid (same (upto 32 s) (codes "duty")) _ _ tt
    (either InRangeDid (same (upto 32 s) (codes "handled")) _ _ (standing_small t (past 32 s) _)
    (either InRangeDid (same (upto 32 s) (codes "deferred")) _ _ (standing_small t (past 32 s) _)
    (either InRangeDid (same (upto 32 s) (codes "unhandled")) _ _ (standing_small t (past 32 s) _)
    (either InRangeDid (same (upto 32 s) (codes "stale")) _ _ (incarnation_small t (past 32 s)) (incarnation_small t (past 32 s))))))

note_small : (t : Tables) (speaker : Option SlotId) (s : List ℕ) → InRangeNote (note_in t speaker s)
unfolding note_in
note_small t speaker s =
    either InRangeNote (same (upto 32 s) (codes "zero")) _ _ tt
    (either InRangeNote (same (upto 32 s) (codes "nomessage")) _ _ tt
    (either InRangeNote (same (upto 32 s) (codes "unbound")) _ _ (speaking_port_small t speaker _, signed_small _)
    (either InRangeNote (same (upto 32 s) (codes "recall")) _ _ (number_small (past 32 s))
    (either InRangeNote (same (upto 32 s) (codes "up")) _ _ (standing_small t (past 32 s) _) (incarnation_small t (past 32 s), number_small _)))))

-- ---- what was read so far

abbrev HeadSmall : Head → Type 0
HeadSmall heads.Nothing = Unit {0}
HeadSmall (heads.Start who state) = InRangeStanding who state
HeadSmall (heads.Turn stamp from sent did) = Is64Bit stamp.0 × Is8Bit from.0 × Is64Bit sent.0 × InRangeDid did

record Small (d : Draft) : Type 0 where
  controllers : All (λ (es : List Entry). All InRangeEntry es) d.controllers
  party : Is8Bit d.party.0
  entries : All InRangeEntry d.entries
  head : HeadSmall d.head
  notes : All InRangeNote d.notes
  left : All InRangeLeft d.left
  unposted : All Is32Bit d.unposted

nothing_small : Small nothing_read
nothing_small = record {
  controllers = All-nil (λ (es : List Entry). All InRangeEntry es);
  party = omega arith;
  entries = All-nil InRangeEntry;
  head = tt;
  notes = All-nil InRangeNote;
  left = All-nil InRangeLeft;
  unposted = All-nil Is32Bit;
}

with_entry_small : (d : Draft) (e : Entry) → Small d → InRangeEntry e → Small (with_entry d e)
with_entry_small d e h k = record {
  controllers = h.controllers;
  party = h.party;
  entries = All-push InRangeEntry d.entries e h.entries k;
  head = tt;
  notes = All-nil InRangeNote;
  left = h.left;
  unposted = h.unposted;
}

closed_small : (d : Draft) → Small d → Small (closed d)
unfolding closed
closed_small d h = go d.head h.head
  where
    go : (x : Head) → HeadSmall x → Small (closed_at d x)
    go heads.Nothing k = h
    go (heads.Start who state) k = with_entry_small d (entries.Start who state d.notes) h (k, h.notes)
    go (heads.Turn stamp from sent did) k =
        with_entry_small d (entries.Turn stamp from sent did d.notes) h
        (record { stamped = k.0; sender = k.1; posted = k.2; outcome = k.3; notes = h.notes })

opened_small : (d : Draft) (x : Head) (speaker : Option SlotId) → Small d → HeadSmall x → Small (opened d x speaker)
opened_small d x speaker h k =
    let c = closed_small d h in
    record { controllers = c.controllers; party = c.party; entries = c.entries; head = k; notes = c.notes; left = c.left; unposted = c.unposted }

entered_small : (d : Draft) (e : Entry) → Small d → InRangeEntry e → Small (entered d e)
entered_small d e h k =
    let c = closed_small d h in
    record {
      controllers = c.controllers;
      party = c.party;
      entries = All-push InRangeEntry (closed d).entries e c.entries k;
      head = c.head;
      notes = c.notes;
      left = c.left;
      unposted = c.unposted;
    }

annotated_small : (d : Draft) (n : Note) → Small d → InRangeNote n → Small (annotated d n)
annotated_small d n h k = record {
  controllers = h.controllers;
  party = h.party;
  entries = h.entries;
  head = h.head;
  notes = All-push InRangeNote d.notes n h.notes k;
  left = h.left;
  unposted = h.unposted;
}

shelved_small : (d : Draft) → Small d → Small (shelved d)
shelved_small d h = either Small d.titled _ d (record {
  controllers = All-push (λ (es : List Entry). All InRangeEntry es) d.controllers d.entries h.controllers h.entries;
  party = h.party;
  entries = All-nil InRangeEntry;
  head = h.head;
  notes = h.notes;
  left = h.left;
  unposted = h.unposted;
}) h

titled_small : (d : Draft) (party : ControllerId) → Small d → Is8Bit party.0 → Small (titled_by d party)
titled_small d party h k =
    let c = shelved_small (closed d) (closed_small d h) in
    record { controllers = c.controllers; party = k; entries = c.entries; head = c.head; notes = c.notes; left = c.left; unposted = c.unposted }

form_small : (d : Draft) (form : List ℕ) → Small d → Small (in_form d form)
form_small d form h = either Small (same form (codes "2")) _ d (record {
  controllers = h.controllers;
  party = h.party;
  entries = h.entries;
  head = h.head;
  notes = h.notes;
  left = h.left;
  unposted = h.unposted;
}) h

left_small : (d : Draft) (l : Left) → Small d → InRangeLeft l → Small (with_left d l)
left_small d l h k = record {
  controllers = h.controllers;
  party = h.party;
  entries = h.entries;
  head = h.head;
  notes = h.notes;
  left = All-push InRangeLeft d.left l h.left k;
  unposted = h.unposted;
}

unposted_small : (d : Draft) (n : ℕ) → Small d → Is32Bit n → Small (with_unposted d n)
unposted_small d n h k = record {
  controllers = h.controllers;
  party = h.party;
  entries = h.entries;
  head = h.head;
  notes = h.notes;
  left = h.left;
  unposted = All-push Is32Bit d.unposted n h.unposted k;
}

done_small : (d : Draft) → Small d → Small (with_done d)
done_small d h = record {
  controllers = h.controllers;
  party = h.party;
  entries = h.entries;
  head = h.head;
  notes = h.notes;
  left = h.left;
  unposted = h.unposted;
}

-- ---- lines

module _ (t : Tables) (few : length t.controllers ≤ 255) where
  fetched_small : (d : Draft) (stamp : ℕ) (s : List ℕ) → Small d → Is64Bit stamp → Small (fetched t d stamp s)
  unfolding fetched
  fetched_small d stamp s h k =
      entered_small d _ h (k, message_small t _ d.party.0 _ _ (party_small t (upto 64 s) few) h.party (number_small (upto 32 (past 64 s))))

  outline_small : (d : Draft) (w : List ℕ) → Small d → InRangeMsg (outline_in t d.party w)
  unfolding outline_in
  outline_small d w h = record {
    from = party_small t (upto 64 w) few;
    to = h.party;
    prio = omega arith;
    stamp = number_small (past 64 w);
    source = tt;
    target = record { slot = omega arith; generation = omega arith; port = omega arith; place = omega arith };
    signal = omega arith;
    numbers = All-nil IsSigned64;
    few = omega arith;
  }

  after_small : (before sent : ℕ) → Is64Bit (fetched_after before sent)
  after_small before sent = omega arith

  further_small : (n : ℕ) (d : Draft) (before : ℕ) (s : List ℕ) → Small d → Small (further n t d before s)
  further_small zero d before s h = h
  further_small (suc n) d before s h =
      let m : Msg = outline_in t d.party (upto 32 s) in
      let at : ℕ = fetched_after before m.stamp.0 in
      either Small (length s == 0) d _ h
      (further_small n (entered d (entries.Fetch (record { 0 = at }) m)) at (past 32 s)
      (entered_small d (entries.Fetch (record { 0 = at }) m) h (after_small before m.stamp.0, outline_small d (upto 32 s) h)))

  fetches_small : (d : Draft) (stamp : ℕ) (s : List ℕ) → Small d → Is64Bit stamp → Small (fetches t d stamp s)
  unfolding fetches
  fetches_small d stamp s h k =
      further_small (length (past 32 s)) (entered d (entries.Fetch (record { 0 = stamp }) (outline_in t d.party (upto 32 s)))) stamp (past 32 s)
      (entered_small d (entries.Fetch (record { 0 = stamp }) (outline_in t d.party (upto 32 s))) h (k, outline_small d (upto 32 s) h))

  any_fetched_small : (d : Draft) (stamp : ℕ) (s : List ℕ) → Small d → Is64Bit stamp → Small (any_fetched t d stamp s)
  unfolding any_fetched
  any_fetched_small d stamp s h k = either Small d.tied (fetches t d stamp s) (fetched t d stamp s) (fetches_small d stamp s h k) (fetched_small d stamp s h k)

  turned_small : (d : Draft) (stamp : ℕ) (s : List ℕ) → Small d → Is64Bit stamp → Small (turned t d stamp s)
  unfolding turned
  turned_small d stamp s h k =
      opened_small d _ _ h (k, party_small t (upto 64 s) few, number_small (upto 32 (past 64 s)), did_small t (past 32 (past 64 s)))

  posted_small : (d : Draft) (stamp : ℕ) (s : List ℕ) → Small d → Is64Bit stamp → Small (posted t d stamp s)
  unfolding posted
  posted_small d stamp s h k = entered_small d _ h (k, message_small t d.party.0 _ stamp (past 32 s) h.party (byte_small (upto 32 s)) k)

  timed_small : (d : Draft) (stamp : ℕ) (s : List ℕ) → Small d → Is64Bit stamp → Small (timed t d stamp s)
  unfolding timed
  timed_small d stamp s h k =
      either Small (same (upto 32 s) (codes "fetch")) (any_fetched t d stamp (past 32 s)) _ (any_fetched_small d stamp (past 32 s) h k)
      (either Small (same (upto 32 s) (codes "turn")) (turned t d stamp (past 32 s)) _ (turned_small d stamp (past 32 s) h k)
      (either Small (same (upto 32 s) (codes "post")) (posted t d stamp (past 32 s)) d (posted_small d stamp (past 32 s) h k) h))

  started_small : (d : Draft) (s : List ℕ) → Small d → Small (started t d s)
  unfolding started
  started_small d s h = opened_small d _ _ h (standing_small t s _)

  left_message_small : (d : Draft) (to : ℕ) (pending : Bool) (s : List ℕ) → Small d → Is8Bit to → Small (left_message t d to pending s)
  unfolding left_message
  left_message_small d to pending s h k = left_small d _ h (record {
    receiver = k;
    message = message_small t _ to _ _ (party_small t (upto 64 s) few) k (number_small (upto 32 (past 64 s)));
  })

  worded_small : (d : Draft) (word s : List ℕ) → Small d → Small (worded t d word s)
  unfolding worded
  worded_small d word s h =
      either Small (same word (codes "note")) (annotated d (note_in t d.speaker s)) _ (annotated_small d (note_in t d.speaker s) h (note_small t d.speaker s))
      (either Small (same word (codes "start")) (started t d s) _ (started_small d s h)
      (either Small (same word (codes "left")) _ _ (left_message_small d (byte_in (upto 32 s)) _ _ h (byte_small (upto 32 s)))
      (either Small (same word (codes "unposted")) (with_unposted d (word_in s)) _ (unposted_small d (word_in s) h (word_small s))
      (either Small (same word (codes "controller")) _ _ (titled_small d (record { 0 = byte_in (upto 32 s) }) h (byte_small (upto 32 s)))
      (either Small (same word (codes "environment")) _ _ (titled_small d (record { 0 = length t.controllers }) h (omega (arith, few)))
      (either Small (same word (codes "done")) (with_done d) _ (done_small d h)
      (either Small (same word (codes "room-journal")) (in_form d s) d (form_small d s h) h)))))))

  taking_small : (d : Draft) (line : List ℕ) → Small d → Small (taking t d line)
  unfolding taking
  taking_small d line h =
      either Small (begins_digit line) (timed t d (number_in (upto 32 line)) (past 32 line)) (worded t d (upto 32 line) (past 32 line))
      (timed_small d (number_in (upto 32 line)) (past 32 line) h (number_small (upto 32 line))) (worded_small d (upto 32 line) (past 32 line) h)

  lines_small : (ws : List (List ℕ)) (d : Draft) → Small d → Small (fold (taking t) d ws)
  lines_small [] d h = h
  lines_small (w ∷ ws) d h = lines_small ws (taking t d w) (taking_small d w h)

  read_small : (bytes : List ℕ) → IsInRange (journals_in t bytes)
  unfolding journals_in reading
  read_small bytes =
      let c = closed_small (reading t nothing_read bytes) (lines_small (slice_split (λ b. b == 10) bytes) nothing_read nothing_small) in
      record { controllers = c.controllers; environment = c.entries; left = c.left; unposted = c.unposted }

pub read_in_range : (t : Tables) (bytes : List ℕ) → IsConsistent t → IsInRange (journals_in t bytes)
read_in_range t bytes consistent = read_small t consistent.controllers_numbered bytes

-- ---- messages taken from posts

module _ (j : Journals) (range : IsInRange j) where
  -- the journal of one of the parties
  one_of_all : (ess : List (List Entry)) (k : ℕ) → Each (λ (es : List Entry). All InRangeEntry es) ess → All InRangeEntry (slice_index_or ess k [])
  one_of_all [] k h = All-nil InRangeEntry
  one_of_all (es ∷ ess) zero h = h.0
  one_of_all (es ∷ ess) (suc k) h = one_of_all ess k h.1

  pub journal_in_range : (party : ℕ) → All InRangeEntry (journal_of j party)
  journal_in_range party =
      either (All InRangeEntry) (nat_lt party (length j.controllers)) (slice_index_or j.controllers party []) _
      (one_of_all j.controllers party (recursion_from_All (λ (es : List Entry). All InRangeEntry es) j.controllers range.controllers))
      (either (All InRangeEntry) (nat_lt (length j.controllers) party) [] j.environment (All-nil InRangeEntry) range.environment)

  posts_small : (sent : ℕ) (es : List Entry) → Each InRangeEntry es → Each InRangeMsg (posted_at sent es)
  posts_small sent [] h = tt
  posts_small sent (entries.Start who state ns ∷ es) h = posts_small sent es h.1
  posts_small sent (entries.Fetch stamp m ∷ es) h = posts_small sent es h.1
  posts_small sent (entries.Turn stamp from taken did ns ∷ es) h = posts_small sent es h.1
  posts_small sent (entries.Post stamp m ∷ es) h = go (stamp.0 == sent) h.0.1 (posts_small sent es h.1)
    where
      go : (b : Bool) → InRangeMsg m → Each InRangeMsg (posted_at sent es) → Each InRangeMsg ((if b then m ∷ [] else []) ++ posted_at sent es)
      go true k rest = (k, rest)
      go false k rest = rest

  only_small : (ms : List Msg) (m : Msg) → Each InRangeMsg ms → InRangeMsg m → InRangeMsg (unwrap_or (only_of (kept_of ms)) m)
  only_small [] m h k = k
  only_small (x ∷ []) m h k = h.0
  only_small (x ∷ y ∷ ms) m h k = k

  filled_message_small : (m : Msg) → InRangeMsg m → InRangeMsg (filled_message j m)
  filled_message_small m h =
      only_small (posted_at m.stamp.0 (journal_of j m.from.0)) m
      (posts_small m.stamp.0 (journal_of j m.from.0) (recursion_from_All InRangeEntry (journal_of j m.from.0) (journal_in_range m.from.0))) h

  filled_entry_small : (e : Entry) → InRangeEntry e → InRangeEntry (filled_entry j e)
  filled_entry_small (entries.Start who state ns) h = h
  filled_entry_small (entries.Fetch stamp m) h = (h.0, filled_message_small m h.1)
  filled_entry_small (entries.Turn stamp from sent did ns) h = h
  filled_entry_small (entries.Post stamp m) h = h

  filled_entries_small : (es : List Entry) → All InRangeEntry es → All InRangeEntry (filled_entries j es)
  filled_entries_small es h =
      All-map InRangeEntry (filled_entry j) es (All-weaker InRangeEntry (λ (e : Entry). InRangeEntry (filled_entry j e)) filled_entry_small es h)

  filled_small : IsInRange (filled j)
  filled_small = record {
    controllers =
        All-map (λ (es : List Entry). All InRangeEntry es) (filled_entries j) j.controllers
        (All-weaker (λ (es : List Entry). All InRangeEntry es) (λ (es : List Entry). All InRangeEntry (filled_entries j es)) filled_entries_small j.controllers range.controllers);
    environment = range.environment;
    left = range.left;
    unposted = range.unposted;
  }

pub tied_read_in_range : (t : Tables) (bytes : List ℕ) → IsConsistent t → IsInRange (tied_journals_in t bytes)
tied_read_in_range t bytes consistent = filled_small (journals_in t bytes) (read_in_range t bytes consistent)
