-- Messages, read back.
use Rattle.std.proofs.Common.{◌≡◌, ℕ, zero, suc, ◌<◌, ◌≤◌, Bool, true, false, cond, List, [], ◌∷◌, ◌++◌, length, refl, ap, ◌∙◌, arith, append-nil, Option, Some, None, ℤ, pos, negsuc}
use Rattle.std.specs.Prelude.{◌==◌, All, codes, decimal}
use Rattle.std.specs.Fmt.{signed_decimal}
use Rattle.std.specs.List.{concat}
use Rattle.std.proofs.lemmas.Bool.{ne_eqb}
use Rattle.std.proofs.lemmas.Fmt.{decimal_nonempty}
use Rattle.room_kinds.specs.declared.numbers.Endpoint.{Endpoint}
use Rattle.room_kinds.specs.declared.message.Msg.{Msg}
use Rattle.room_wiring.specs.declared.tables.Tables.{Tables}
use Rattle.room_outside.specs.line_text.Lines.{numbers_text}
use Rattle.room_wiring.specs.Slots.{path_text, port_text}
use Rattle.journal.specs.Names.{source_parts, endpoint_parts}
use Rattle.journal.specs.Lines.{signal_parts, message_parts}
use Rattle.journal.specs.Fits.{FitsEndpoint, FitsSource, FitsMessage}
use Rattle.journal_reader.specs.journal_lines.Numerals.{upto, past, byte_in, signed_in}
use Rattle.journal_reader.specs.journal_lines.Fields.{endpoint_in, after_endpoint, source_in, after_source, signal_in}
use Rattle.journal_reader.specs.journal_lines.Messages.{numbers_from, numbers_in, message_in}
use Rattle.journal_reader.proofs.journal_lines.Cutting.{lacks, upto_at, past_at, upto_all, past_all}
use Rattle.journal_reader.specs.journal_texts.InRange.{IsSigned64, InRangeEndpoint, InRangeSource, InRangeMsg}
use Rattle.journal_reader.proofs.journal_texts.NumbersBack.{lacks_kind, lacks-append, number_lacks, byte_back, signed_back, signed_lacks}
use Rattle.journal_reader.proofs.journal_texts.NamesText.{word_byte, path_byte, All-head, All-tail}
use Rattle.journal_reader.proofs.journal_texts.NamesBack.{path_known, port_known}
use Rattle.journal_reader.proofs.journal_texts.FieldsBack.{Sized, endpoint_then, endpoint_back, source_then, source_back, signal_name, signal_back_at}

-- ---- numbers

-- the numbers behind the first blank
abbrev pub numbers_tail : List ℤ → List ℕ
numbers_tail [] = []
numbers_tail (z ∷ zs) = signed_decimal z ++ numbers_text zs

-- a word before numbers
word_before : (w : List ℕ) (zs : List ℤ) → lacks 32 w ≡ true → (upto 32 (w ++ numbers_text zs) ≡ w) × (past 32 (w ++ numbers_text zs) ≡ numbers_tail zs)
word_before w [] h = (ap (upto 32) (append-nil w) ∙ upto_all 32 w h, ap (past 32) (append-nil w) ∙ past_all 32 w h)
word_before w (z ∷ zs) h = (upto_at 32 w (signed_decimal z ++ numbers_text zs) h, past_at 32 w (signed_decimal z ++ numbers_text zs) h)

longer : (xs ys : List ℕ) → 0 < length xs → 0 < length (xs ++ ys)
longer [] ys h = absurd (omega arith)
longer (x ∷ xs) ys h = omega arith

signed_some : (z : ℤ) → IsSigned64 z → 0 < length (signed_decimal z)
signed_some (pos n) h = decimal_nonempty n (omega arith)
signed_some (negsuc n) h = omega arith

numbers_back : (k : ℕ) (zs : List ℤ) → length zs ≤ k → All IsSigned64 zs → numbers_from k (numbers_tail zs) ≡ zs
unfolding numbers_from
numbers_back zero [] few all = refl
numbers_back zero (z ∷ zs) few all = absurd (omega arith)
numbers_back (suc k) [] few all = refl
numbers_back (suc k) (z ∷ zs) few all =
    let s : List ℕ = signed_decimal z ++ numbers_text zs in
    let own : IsSigned64 z = All-head IsSigned64 z zs all in
    let word = word_before (signed_decimal z) zs (signed_lacks 32 z own refl refl) in
    let some : 0 < length s = longer (signed_decimal z) (numbers_text zs) (signed_some z own) in
    let test : (length s == 0) ≡ false = ne_eqb (length s) 0 (λ e. omega arith) in
    ap (λ (b : Bool). cond b [] (signed_in (upto 32 s) ∷ numbers_from k (past 32 s))) test
    ∙ ap (λ (w : List ℕ). signed_in w ∷ numbers_from k (past 32 s)) word.0 ∙ ap (λ (x : ℤ). x ∷ numbers_from k (past 32 s)) (signed_back z own)
    ∙ ap (λ (r : List ℕ). z ∷ numbers_from k r) word.1 ∙ ap (λ (ys : List ℤ). z ∷ ys) (numbers_back k zs (omega arith) (All-tail IsSigned64 z zs all))

numbers_lack : (zs : List ℤ) → All IsSigned64 zs → lacks 10 (numbers_text zs) ≡ true
numbers_lack [] all = refl
numbers_lack (z ∷ zs) all = lacks-append 10 (signed_decimal z) (numbers_text zs) (signed_lacks 10 z (All-head IsSigned64 z zs all) refl refl) (numbers_lack zs (All-tail IsSigned64 z zs all))

-- ---- messages

-- `<signal> <numbers>`
abbrev tail_text : Tables → Msg → List ℕ
tail_text t m = signal_name t m.prio.0 m.target m.signal ++ numbers_text m.payload

-- `<prio> <source> <target> <signal> <numbers>`
abbrev pub message_text : Tables → Msg → List ℕ
message_text t m = decimal m.prio.0 ++ 32 ∷ source_then t m.source (endpoint_then t m.target (tail_text t m))

source_concat : (t : Tables) (o : Option Endpoint) (rest : List (List ℕ)) → concat (source_parts t o ++ codes " " ∷ rest) ≡ source_then t o (concat rest)
source_concat t None rest = refl
source_concat t (Some e) rest = refl

pub message_shape : (t : Tables) (m : Msg) → concat (message_parts t m) ≡ message_text t m
message_shape t m =
    ap (λ (x : List ℕ). decimal m.prio.0 ++ 32 ∷ x) (source_concat t m.source (endpoint_parts t m.target ++ signal_parts t m))
    ∙ ap (λ (x : List ℕ). decimal m.prio.0 ++ 32 ∷ source_then t m.source (endpoint_then t m.target (signal_name t m.prio.0 m.target m.signal ++ x))) (append-nil (numbers_text m.payload))

message_made : (t : Tables) (s : List ℕ) (m : Msg) → byte_in (upto 32 s) ≡ m.prio.0 → source_in t (past 32 s) ≡ m.source → endpoint_in t (after_source (past 32 s)) ≡ m.target
    → signal_in t m.prio.0 m.target (upto 32 (after_endpoint (after_source (past 32 s)))) ≡ m.signal → numbers_in (past 32 (after_endpoint (after_source (past 32 s)))) ≡ m.payload
    → message_in t m.from.0 m.to.0 m.stamp.0 s ≡ m
unfolding message_in
message_made t s m prio source target signal numbers = rw (prio, source, target, signal, numbers) refl

payload_back : (zs : List ℤ) → length zs ≤ 64 → All IsSigned64 zs → numbers_in (numbers_tail zs) ≡ zs
unfolding numbers_in
payload_back zs few all = numbers_back 64 zs few all

pub message_back : (t : Tables) (m : Msg) → Sized t → FitsMessage t m → InRangeMsg m → message_in t m.from.0 m.to.0 m.stamp.0 (message_text t m) ≡ m
message_back t m sized fits range =
    let name = signal_name t m.prio.0 m.target m.signal in
    let fourth : List ℕ = name ++ numbers_text m.payload in
    let third : List ℕ = endpoint_then t m.target fourth in
    let second : List ℕ = source_then t m.source third in
    let first : List ℕ = decimal m.prio.0 ++ 32 ∷ second in
    let no_blank : lacks 32 (decimal m.prio.0) ≡ true = number_lacks 32 m.prio.0 (omega (arith, range.prio)) refl in
    let source_is = source_back t m.source third sized fits.source range.source in
    let target_is = endpoint_back t m.target fourth sized fits.target range.target in
    let known = signal_back_at t m.prio.0 m.target m.signal sized.named fits.signal range.signal in
    let word = word_before name m.payload (lacks_kind word_byte 32 name known.bytes refl) in
    let at_prio : past 32 first ≡ second = past_at 32 (decimal m.prio.0) second no_blank in
    let at_source : after_source (past 32 first) ≡ third = ap after_source at_prio ∙ source_is.1 in
    let at_target : after_endpoint (after_source (past 32 first)) ≡ fourth = ap after_endpoint at_source ∙ target_is.1 in
    message_made t first m (ap byte_in (upto_at 32 (decimal m.prio.0) second no_blank) ∙ byte_back m.prio.0 range.prio)
    (ap (source_in t) at_prio ∙ source_is.0)
    (ap (endpoint_in t) at_source ∙ target_is.0)
    (ap (λ (x : List ℕ). signal_in t m.prio.0 m.target (upto 32 x)) at_target ∙ ap (signal_in t m.prio.0 m.target) word.0 ∙ known.back)
    (ap (λ (x : List ℕ). numbers_in (past 32 x)) at_target ∙ ap numbers_in word.1 ∙ payload_back m.payload range.few range.numbers)

-- ---- no line feed stands in a message

endpoint_lacks : (t : Tables) (e : Endpoint) (r : List ℕ) → Sized t → FitsEndpoint t e → InRangeEndpoint e → lacks 10 r ≡ true → lacks 10 (endpoint_then t e r) ≡ true
endpoint_lacks t e r sized fits range h =
    let path_is = path_known t e.slot.0 sized.named sized.slots fits.slot in
    let port_is = port_known t e.slot.0 e.port sized.named fits.port range.port in
    let fourth : List ℕ = decimal e.place ++ 93 ∷ (32 ∷ r) in
    let third : List ℕ = port_text t e.slot.0 e.port ++ 91 ∷ fourth in
    let second : List ℕ = decimal e.generation.0 ++ 46 ∷ third in
    lacks-append 10 (path_text t e.slot.0) (35 ∷ second) (lacks_kind path_byte 10 (path_text t e.slot.0) path_is.bytes refl)
    (lacks-append 10 (decimal e.generation.0) (46 ∷ third) (number_lacks 10 e.generation.0 (omega (arith, range.generation)) refl)
    (lacks-append 10 (port_text t e.slot.0 e.port) (91 ∷ fourth) (lacks_kind word_byte 10 (port_text t e.slot.0 e.port) port_is.bytes refl)
    (lacks-append 10 (decimal e.place) (93 ∷ (32 ∷ r)) (number_lacks 10 e.place (omega (arith, range.place)) refl) h)))

source_lacks : (t : Tables) (o : Option Endpoint) (r : List ℕ) → Sized t → FitsSource t o → InRangeSource o → lacks 10 r ≡ true → lacks 10 (source_then t o r) ≡ true
source_lacks t None r sized fits range h = h
source_lacks t (Some e) r sized fits range h = endpoint_lacks t e r sized fits range h

pub message_lacks : (t : Tables) (m : Msg) → Sized t → FitsMessage t m → InRangeMsg m → lacks 10 (message_text t m) ≡ true
message_lacks t m sized fits range =
    let name = signal_name t m.prio.0 m.target m.signal in
    let known = signal_back_at t m.prio.0 m.target m.signal sized.named fits.signal range.signal in
    let tail : lacks 10 (tail_text t m) ≡ true = lacks-append 10 name (numbers_text m.payload) (lacks_kind word_byte 10 name known.bytes refl) (numbers_lack m.payload range.numbers) in
    lacks-append 10 (decimal m.prio.0) (32 ∷ source_then t m.source (endpoint_then t m.target (tail_text t m))) (number_lacks 10 m.prio.0 (omega (arith, range.prio)) refl)
    (source_lacks t m.source (endpoint_then t m.target (tail_text t m)) sized fits.source range.source (endpoint_lacks t m.target (tail_text t m) sized fits.target range.target tail))
