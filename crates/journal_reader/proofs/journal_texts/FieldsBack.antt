-- Fields of lines, read back.
use Rattle.std.proofs.Common.{inl, inr, ◌≡◌, ℕ, ◌<◌, ◌≤◌, Bool, true, false, cond, List, [], ◌∷◌, ◌++◌, length, refl, ap, ◌∙◌, arith, subst, Option, Some, None}
use Rattle.std.specs.Prelude.{◌==◌, nat_lt, codes, decimal}
use Rattle.std.specs.List.{list_all}
use Rattle.std.specs.Char.{is_ascii_digit}
use Rattle.std.proofs.lemmas.Bool.{ltb-false, ne_eqb, eq-eqb}
use Rattle.name_tables.specs.name_numbers.Names.{same}
use Rattle.room_kinds.specs.declared.numbers.Incarnation.{Incarnation}
use Rattle.room_kinds.specs.declared.numbers.Endpoint.{Endpoint}
use Rattle.room_wiring.specs.declared.tables.Tables.{Tables}
use Rattle.room_wiring.specs.WellNamed.{IsWellNamed}
use Rattle.room_wiring.specs.wiring_names.Lookup.{slot_called, port_called}
use Rattle.room_wiring.proofs.wiring_names.Fresh.{same_not}
use Rattle.room_wiring.specs.Slots.{path_text, port_text}
use Rattle.journal.specs.Names.{party_text, kind_text, port_signal_text}
use Rattle.journal.specs.Fits.{IsParty, FitsIncarnation, FitsEndpoint, FitsSource, FitsSignal}
use Rattle.journal_reader.specs.journal_lines.Numerals.{upto, past, begins, word_in}
use Rattle.journal_reader.specs.journal_lines.Fields.{party_in, incarnation_in, after_incarnation, after_path, after_generation, after_port, endpoint_in, after_endpoint, source_in, after_source, signal_in}
use Rattle.journal_reader.proofs.journal_lines.Cutting.{lacks, upto_at, past_at, upto_all}
use Rattle.journal_reader.specs.journal_texts.InRange.{InRangeIncarnation, InRangeEndpoint, InRangeSource}
use Rattle.journal_reader.proofs.journal_texts.NumbersBack.{lacks_kind, begins_other, number_lacks, byte_back, word_back}
use Rattle.text_reading.proofs.Decimals.{digits_of_number}
use Rattle.journal_reader.proofs.journal_texts.NamesText.{word_byte, path_byte}
use Rattle.journal_reader.proofs.journal_texts.NamesBack.{path_known, port_known, signal_known, kind_known}

-- what is known of a wiring throughout: its names tell things apart, and its slots and controllers have numbers
pub record Sized (t : Tables) : Type 0 where
  pub named : IsWellNamed t
  pub slots : length t.slots ≤ 65536
  pub controllers : length t.controllers ≤ 255

-- ---- parties

party_by : (t : Tables) (c : ℕ) (inside : Bool) → nat_lt c (length t.controllers) ≡ inside → c ≤ length t.controllers → c < 256 → party_in t (cond inside (decimal c) (codes "env")) ≡ c
unfolding party_in
party_by t c true e h small =
    let other : same (decimal c) (codes "env") ≡ false =
    same_not (decimal c) (codes "env") _ (λ eq. let bad : list_all is_ascii_digit (codes "env") ≡ true = subst (λ (w : List ℕ). list_all is_ascii_digit w ≡ true) eq (digits_of_number c (omega arith)) in cc) refl in
    rw other (byte_back c small)
party_by t c false e h small = let after_last : length t.controllers ≤ c = ltb-false c (length t.controllers) e in omega arith

pub party_back : (t : Tables) (c : ℕ) → IsParty t c → c < 256 → party_in t (party_text t c) ≡ c
party_back t c h small = party_by t c (nat_lt c (length t.controllers)) refl h.known small

party_lacks_by : (s c : ℕ) (inside : Bool) → c < 256 → is_ascii_digit s ≡ false → lacks s (codes "env") ≡ true → lacks s (cond inside (decimal c) (codes "env")) ≡ true
party_lacks_by s c true small none free = number_lacks s c (omega arith) none
party_lacks_by s c false small none free = free

pub party_lacks : (s : ℕ) (t : Tables) (c : ℕ) → c < 256 → is_ascii_digit s ≡ false → lacks s (codes "env") ≡ true → lacks s (party_text t c) ≡ true
party_lacks s t c small none free = party_lacks_by s c (nat_lt c (length t.controllers)) small none free

-- ---- incarnations

incarnation_made : (t : Tables) (s : List ℕ) (who : Incarnation) → slot_called t (upto 35 s) ≡ who.slot.0 → word_in (upto 32 (past 35 s)) ≡ who.generation.0 → incarnation_in t s ≡ who
unfolding incarnation_in
incarnation_made t s who slot generation = rw (slot, generation) refl

-- `path#generation`
abbrev pub incarnation_text : Tables → Incarnation → List ℕ
incarnation_text t who = path_text t who.slot.0 ++ 35 ∷ decimal who.generation.0

-- an incarnation and a blank, and then a text
abbrev pub incarnation_then : Tables → Incarnation → List ℕ → List ℕ
incarnation_then t who r = path_text t who.slot.0 ++ 35 ∷ (decimal who.generation.0 ++ 32 ∷ r)

pub incarnation_back : (t : Tables) (who : Incarnation) (r : List ℕ) → Sized t → FitsIncarnation t who → InRangeIncarnation who → (incarnation_in t (incarnation_then t who r) ≡ who) × (after_incarnation (incarnation_then t who r) ≡ r)
incarnation_back t who r sized fits range =
    let path = path_text t who.slot.0 in
    let known = path_known t who.slot.0 sized.named sized.slots fits.slot in
    let tail : List ℕ = decimal who.generation.0 ++ 32 ∷ r in
    let no_hash : lacks 35 path ≡ true = lacks_kind path_byte 35 path known.bytes refl in
    let front : upto 35 (path ++ 35 ∷ tail) ≡ path = upto_at 35 path tail no_hash in
    let back : past 35 (path ++ 35 ∷ tail) ≡ tail = past_at 35 path tail no_hash in
    let no_blank : lacks 32 (decimal who.generation.0) ≡ true = number_lacks 32 who.generation.0 (omega (arith, range.generation)) refl in (
      incarnation_made t (path ++ 35 ∷ tail) who (ap (slot_called t) front ∙ known.back)
          (ap (λ (x : List ℕ). word_in (upto 32 x)) back ∙ ap word_in (upto_at 32 (decimal who.generation.0) r no_blank) ∙ word_back who.generation.0 range.generation),
      ap (past 32) back ∙ past_at 32 (decimal who.generation.0) r no_blank,
    )

pub incarnation_end : (t : Tables) (who : Incarnation) → Sized t → FitsIncarnation t who → InRangeIncarnation who → incarnation_in t (incarnation_text t who) ≡ who
incarnation_end t who sized fits range =
    let path = path_text t who.slot.0 in
    let known = path_known t who.slot.0 sized.named sized.slots fits.slot in
    let tail : List ℕ = decimal who.generation.0 in
    let no_hash : lacks 35 path ≡ true = lacks_kind path_byte 35 path known.bytes refl in
    let front : upto 35 (path ++ 35 ∷ tail) ≡ path = upto_at 35 path tail no_hash in
    let back : past 35 (path ++ 35 ∷ tail) ≡ tail = past_at 35 path tail no_hash in
    let no_blank : lacks 32 tail ≡ true = number_lacks 32 who.generation.0 (omega (arith, range.generation)) refl in
    incarnation_made t (path ++ 35 ∷ tail) who (ap (slot_called t) front ∙ known.back) (ap (λ (x : List ℕ). word_in (upto 32 x)) back ∙ ap word_in (upto_all 32 tail no_blank) ∙ word_back who.generation.0 range.generation)

-- ---- endpoints

endpoint_made : (t : Tables) (s : List ℕ) (e : Endpoint) → slot_called t (upto 35 s) ≡ e.slot.0 → word_in (upto 46 (after_path s)) ≡ e.generation.0 → port_called t e.slot.0 (upto 91 (after_generation s)) ≡ e.port → word_in (upto 93 (after_port s)) ≡ e.place → endpoint_in t s ≡ e
unfolding endpoint_in
endpoint_made t s e slot generation port place = rw (slot, generation, port, place) refl

-- an endpoint and a blank, and then a text
abbrev pub endpoint_then : Tables → Endpoint → List ℕ → List ℕ
endpoint_then t e r =
    path_text t e.slot.0 ++ 35 ∷ (decimal e.generation.0 ++ 46 ∷ (port_text t e.slot.0 e.port ++ 91 ∷ (decimal e.place ++ 93 ∷ (32 ∷ r))))

pub endpoint_back : (t : Tables) (e : Endpoint) (r : List ℕ) → Sized t → FitsEndpoint t e → InRangeEndpoint e → (endpoint_in t (endpoint_then t e r) ≡ e) × (after_endpoint (endpoint_then t e r) ≡ r)
endpoint_back t e r sized fits range =
    let path = path_text t e.slot.0 in
    let port = port_text t e.slot.0 e.port in
    let path_is = path_known t e.slot.0 sized.named sized.slots fits.slot in
    let port_is = port_known t e.slot.0 e.port sized.named fits.port range.port in
    let fourth : List ℕ = decimal e.place ++ 93 ∷ (32 ∷ r) in
    let third : List ℕ = port ++ 91 ∷ fourth in
    let second : List ℕ = decimal e.generation.0 ++ 46 ∷ third in
    let first : List ℕ = path ++ 35 ∷ second in
    let no_hash : lacks 35 path ≡ true = lacks_kind path_byte 35 path path_is.bytes refl in
    let no_dot : lacks 46 (decimal e.generation.0) ≡ true = number_lacks 46 e.generation.0 (omega (arith, range.generation)) refl in
    let no_open : lacks 91 port ≡ true = lacks_kind word_byte 91 port port_is.bytes refl in
    let no_close : lacks 93 (decimal e.place) ≡ true = number_lacks 93 e.place (omega (arith, range.place)) refl in
    let at_path : past 35 first ≡ second = past_at 35 path second no_hash in
    let at_generation : past 46 (past 35 first) ≡ third = ap (past 46) at_path ∙ past_at 46 (decimal e.generation.0) third no_dot in
    let at_port : past 91 (past 46 (past 35 first)) ≡ fourth = ap (past 91) at_generation ∙ past_at 91 port fourth no_open in
    let at_place : past 93 (past 91 (past 46 (past 35 first))) ≡ 32 ∷ r = ap (past 93) at_port ∙ past_at 93 (decimal e.place) (32 ∷ r) no_close in (
      endpoint_made t first e (ap (slot_called t) (upto_at 35 path second no_hash) ∙ path_is.back)
          (ap (λ (x : List ℕ). word_in (upto 46 x)) at_path ∙ ap word_in (upto_at 46 (decimal e.generation.0) third no_dot) ∙ word_back e.generation.0 range.generation)
          (ap (λ (x : List ℕ). port_called t e.slot.0 (upto 91 x)) at_generation ∙ ap (port_called t e.slot.0) (upto_at 91 port fourth no_open) ∙ port_is.back)
          (ap (λ (x : List ℕ). word_in (upto 93 x)) at_port ∙ ap word_in (upto_at 93 (decimal e.place) (32 ∷ r) no_close) ∙ word_back e.place range.place),
      ap (past 32) at_place ∙ past_at 32 [] r refl,
    )

-- ---- sources

-- a source and a blank, and then a text
abbrev pub source_then : Tables → Option Endpoint → List ℕ → List ℕ
source_then t None r = 45 ∷ 32 ∷ r
source_then t (Some e) r = endpoint_then t e r

pub source_back : (t : Tables) (o : Option Endpoint) (r : List ℕ) → Sized t → FitsSource t o → InRangeSource o → (source_in t (source_then t o r) ≡ o) × (after_source (source_then t o r) ≡ r)
unfolding source_in after_source
source_back t None r sized fits range = (refl, past_at 32 (45 ∷ []) r refl)
source_back t (Some e) r sized fits range =
    let path_is = path_known t e.slot.0 sized.named sized.slots fits.slot in
    let tail : List ℕ = decimal e.generation.0 ++ 46 ∷ (port_text t e.slot.0 e.port ++ 91 ∷ (decimal e.place ++ 93 ∷ (32 ∷ r))) in
    let plain : begins 45 (endpoint_then t e r) ≡ false = begins_other path_byte 45 (path_text t e.slot.0) (35 ∷ tail) path_is.bytes refl refl in
    let back = endpoint_back t e r sized fits range in
    (rw plain (ap Some back.0), rw plain back.1)

-- ---- signals

-- the name of a signal, by its priority and the target
abbrev pub signal_name : Tables → ℕ → Endpoint → ℕ → List ℕ
signal_name t prio target n = cond (prio == 0) (kind_text n) (port_signal_text t target.slot.0 target.port n)

pub record NameKnown (t : Tables) (prio : ℕ) (target : Endpoint) (n : ℕ) : Type 0 where
  pub bytes : list_all word_byte (signal_name t prio target n) ≡ true
  pub back : signal_in t prio target (signal_name t prio target n) ≡ n

pub signal_back_at : (t : Tables) (prio : ℕ) (target : Endpoint) (n : ℕ) → IsWellNamed t → FitsSignal t prio target n → n < 65536 → NameKnown t prio target n
unfolding signal_in
signal_back_at t prio target n named fits small =
    elim fits [
      | inl kind ↦
          let known = kind_known n kind.1 in
          let test : (prio == 0) ≡ true = eq-eqb prio 0 kind.0 in
          record { bytes = rw test known.bytes; back = rw test known.back }
      | inr signal ↦
          let known = signal_known t target.slot.0 target.port n named signal.1 small in
          let test : (prio == 0) ≡ false = ne_eqb prio 0 (λ e. omega (arith, signal.0)) in
          record { bytes = rw test known.bytes; back = rw test known.back }
    ]
