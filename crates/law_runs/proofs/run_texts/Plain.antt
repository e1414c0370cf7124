-- No line feed stands within a line of a journal, whatever numbers its entries have: names are made of
-- letters, digits and marks, and numbers of digits.
use Rattle.std.proofs.Common.{◌≡◌, ℕ, zero, suc, ◌+◌, ◌<◌, ◌/◌, ◌%◌, ◌==◌, Bool, true, false, cond, List, [], ◌∷◌, ◌++◌, Option, Some, None, ℤ, pos, negsuc, refl, arith, mod-lt, lt-ltb, le-leb, nat_lt, length, subst, slice_get, slice_index_or}
use Rattle.std.specs.Prelude.{codes, decimal, unwrap_or, option_map, option_and_then}
use Rattle.std.specs.Fmt.{signed_decimal}
use Rattle.std.specs.List.{list_all, concat}
use Rattle.std.specs.Char.{is_ascii_digit}
use Rattle.std.specs.Fmt.{digit_glyph, digits_onto, digits}
use Rattle.std.proofs.lemmas.Bool.{and_from}
use Rattle.std.proofs.lemmas.Option.{option_and_then_some, unwrap_or-slice_get}
use Rattle.room_kinds.specs.declared.numbers.Incarnation.{Incarnation}
use Rattle.room_kinds.specs.declared.numbers.SlotId.{SlotId}
use Rattle.room_kinds.specs.declared.numbers.Endpoint.{Endpoint}
use Rattle.room_kinds.specs.declared.message.Msg.{Msg}
use Rattle.room_kinds.specs.declared.system.SysKind.{SysKind}
use Rattle.room_kinds.specs.declared.system.SysKind.TheVariants as kinds
use Rattle.room_kinds.specs.Names.{name_of, kind_at}
use Rattle.room_wiring.specs.declared.tables.Tables.{Tables}
use Rattle.room_wiring.specs.declared.slot.Slot.{Slot}
use Rattle.room_wiring.specs.declared.names.ClassNames.{ClassNames}
use Rattle.room_wiring.specs.declared.names.PortNames.{PortNames}
use Rattle.room_wiring.specs.declared.names.SignalNames.{SignalNames}
use Rattle.room_wiring.specs.Slots.{slot_at, class_of, port_at, path_text, port_text}
use Rattle.room_wiring.specs.WellNamed.{IsWellNamed, IsWellNamedPort, IsPath, IsIdent, IsStateLabel, signals_of}
use Rattle.room_wiring.proofs.wiring_names.Found.{all_at}
use Rattle.room_wiring.proofs.wiring_names.Back.{class_named}
use Rattle.room_outside.specs.line_text.Lines.{numbers_text}
use Rattle.journal.specs.declared.entry.Did.{Did}
use Rattle.journal.specs.declared.entry.Did.TheVariants as outcomes
use Rattle.journal.specs.Names.{party_text, state_text, kind_text, signal_of_port_text, port_signal_text, signal_text, incarnation_parts, endpoint_parts, source_parts}
use Rattle.journal.specs.Lines.{message_parts, signal_parts, standing_parts, did_parts, speaking_port_text}
use Rattle.journal_reader.specs.journal_lines.Numerals.{begins_digit}
use Rattle.journal_reader.proofs.journal_lines.Cutting.{lacks}
use Rattle.journal_reader.proofs.journal_texts.NumbersBack.{lacks_kind, lacks-append}
use Rattle.journal_reader.proofs.journal_texts.NamesText.{word_byte, path_byte, label_byte, ident_bytes, path_bytes, label_bytes}

-- ---- numbers

is_digit : (n : ℕ) → is_ascii_digit (digit_glyph false (n % 10)) ≡ true
is_digit n =
    let small : n % 10 < 10 = mod-lt n (omega arith) in
    rw (lt-ltb (n % 10) 10 small, le-leb 48 (48 + n % 10) (omega arith), le-leb (48 + n % 10) 57 (omega arith)) refl

digits_all : (k n : ℕ) (acc : List ℕ) → list_all is_ascii_digit acc ≡ true → list_all is_ascii_digit (digits_onto k 10 false n acc) ≡ true
digits_all zero n acc h = h
digits_all (suc k) n acc h =
    let one = and_from (is_ascii_digit (digit_glyph false (n % 10))) (list_all is_ascii_digit acc) (is_digit n) h in
    go (n / 10 == 0) one (digits_all k (n / 10) (digit_glyph false (n % 10) ∷ acc) one)
  where
    go : (b : Bool) → list_all is_ascii_digit (digit_glyph false (n % 10) ∷ acc) ≡ true
        → list_all is_ascii_digit (digits_onto k 10 false (n / 10) (digit_glyph false (n % 10) ∷ acc)) ≡ true
        → list_all is_ascii_digit (cond b (digit_glyph false (n % 10) ∷ acc) (digits_onto k 10 false (n / 10) (digit_glyph false (n % 10) ∷ acc))) ≡ true
    go true a c = a
    go false a c = c

digits_only : (n : ℕ) → list_all is_ascii_digit (decimal n) ≡ true
unfolding digits
digits_only n = digits_all 64 n [] refl

begins_all : (k n b : ℕ) (bs r : List ℕ) → is_ascii_digit b ≡ true → begins_digit (digits_onto k 10 false n (b ∷ bs) ++ r) ≡ true
begins_all zero n b bs r h = h
begins_all (suc k) n b bs r h = go (n / 10 == 0) (is_digit n) (begins_all k (n / 10) (digit_glyph false (n % 10)) (b ∷ bs) r (is_digit n))
  where
    go : (t : Bool) → is_ascii_digit (digit_glyph false (n % 10)) ≡ true
        → begins_digit (digits_onto k 10 false (n / 10) (digit_glyph false (n % 10) ∷ (b ∷ bs)) ++ r) ≡ true
        → begins_digit (cond t (digit_glyph false (n % 10) ∷ (b ∷ bs)) (digits_onto k 10 false (n / 10) (digit_glyph false (n % 10) ∷ (b ∷ bs))) ++ r) ≡ true
    go true a c = a
    go false a c = c

pub number_begins : (n : ℕ) (r : List ℕ) → begins_digit (decimal n ++ r) ≡ true
unfolding digits
number_begins n r = go (n / 10 == 0) (is_digit n) (begins_all 63 (n / 10) (digit_glyph false (n % 10)) [] r (is_digit n))
  where
    go : (t : Bool) → is_ascii_digit (digit_glyph false (n % 10)) ≡ true
        → begins_digit (digits_onto 63 10 false (n / 10) (digit_glyph false (n % 10) ∷ []) ++ r) ≡ true
        → begins_digit (cond t (digit_glyph false (n % 10) ∷ []) (digits_onto 63 10 false (n / 10) (digit_glyph false (n % 10) ∷ [])) ++ r) ≡ true
    go true a c = a
    go false a c = c

pub number_lacks : (c n : ℕ) → is_ascii_digit c ≡ false → lacks c (decimal n) ≡ true
number_lacks c n none = lacks_kind is_ascii_digit c (decimal n) (digits_only n) none

pub signed_plain : (z : ℤ) → lacks 10 (signed_decimal z) ≡ true
signed_plain (pos n) = number_lacks 10 n refl
signed_plain (negsuc n) = number_lacks 10 (suc n) refl

numbers_plain : (zs : List ℤ) → lacks 10 (numbers_text zs) ≡ true
numbers_plain [] = refl
numbers_plain (z ∷ zs) = lacks-append 10 (signed_decimal z) (numbers_text zs) (signed_plain z) (numbers_plain zs)

-- a party's number, or `env`
pub party_lacks : (c : ℕ) (t : Tables) (p : ℕ) → is_ascii_digit c ≡ false → lacks c (codes "env") ≡ true → lacks c (party_text t p) ≡ true
party_lacks c t p none free = go (nat_lt p (length t.controllers))
  where
    go : (b : Bool) → lacks c (cond b (decimal p) (codes "env")) ≡ true
    go true = number_lacks c p none
    go false = free

-- ---- texts in parts

-- no line feed stands in these texts
abbrev pub AllPlain : List (List ℕ) → Type 0
AllPlain [] = Unit {0}
AllPlain (w ∷ ws) = (lacks 10 w ≡ true) × AllPlain ws

pub plain_append : (a b : List (List ℕ)) → AllPlain a → AllPlain b → AllPlain (a ++ b)
plain_append [] b h k = k
plain_append (w ∷ a) b h k = (h.0, plain_append a b h.1 k)

pub plain_concat : (parts : List (List ℕ)) → AllPlain parts → lacks 10 (concat parts) ≡ true
plain_concat [] h = refl
plain_concat (w ∷ ws) h = lacks-append 10 w (concat ws) h.0 (plain_concat ws h.1)

-- ---- names

kind_plain : (k : SysKind) → lacks 10 (name_of k) ≡ true
kind_plain kinds.Create = refl
kind_plain kinds.CreateDone = refl
kind_plain kinds.CreateRefused = refl
kind_plain kinds.Destroy = refl
kind_plain kinds.DestroyDone = refl
kind_plain kinds.Import = refl
kind_plain kinds.ImportDone = refl
kind_plain kinds.ImportRefused = refl
kind_plain kinds.ImportEnded = refl
kind_plain kinds.Deport = refl
kind_plain kinds.DeportDone = refl
kind_plain kinds.Announce = refl
kind_plain kinds.Register = refl
kind_plain kinds.Withdraw = refl
kind_plain kinds.Bound = refl
kind_plain kinds.Ended = refl
kind_plain kinds.NameReply = refl
kind_plain kinds.PartMake = refl
kind_plain kinds.PartEnd = refl

kind_text_plain : (n : ℕ) → lacks 10 (kind_text n) ≡ true
unfolding kind_text
kind_text_plain n = go (kind_at n)
  where
    go : (o : Option SysKind) → lacks 10 (unwrap_or (option_map name_of o) []) ≡ true
    go None = refl
    go (Some k) = kind_plain k

ident_plain : (w : List ℕ) → IsIdent w → lacks 10 w ≡ true
ident_plain w h = lacks_kind word_byte 10 w (ident_bytes w h) refl

signal_in_plain : (p : PortNames) (n : ℕ) → IsWellNamedPort p → lacks 10 (signal_of_port_text p n) ≡ true
unfolding signal_of_port_text
signal_in_plain p n well = go (slice_get (signals_of p) n) refl
  where
    go : (o : Option SignalNames) → slice_get (signals_of p) n ≡ o
        → lacks 10 (unwrap_or (option_map (λ (x : SignalNames). x.name) o) []) ≡ true
    go None e = refl
    go (Some x) e = ident_plain x.name (all_at (λ (y : SignalNames). IsIdent y.name) (signals_of p) n x well.signals e)

module _ (t : Tables) (named : IsWellNamed t) where
  path_plain : (s : ℕ) → lacks 10 (path_text t s) ≡ true
  unfolding path_text
  path_plain s = go (slot_at t s) refl
    where
      go : (o : Option Slot) → slot_at t s ≡ o → lacks 10 (unwrap_or (option_map (λ (x : Slot). x.path) o) []) ≡ true
      go None e = refl
      go (Some x) e =
          lacks_kind path_byte 10 x.path (path_bytes x.path (all_at (λ (y : Slot). IsPath y.path) t.slots s x named.paths e)) refl

  -- a port that a slot has is well named
  port_well : (s p : ℕ) (x : PortNames) → port_at t s p ≡ Some x → IsWellNamedPort x
  unfolding port_at
  port_well s p x e =
      option_and_then_some (λ (c : ClassNames). slice_get c.ports p) (class_of t s) x e
      (λ c class_is port_is. all_at IsWellNamedPort c.ports p x (class_named t s c named class_is).ports port_is)

  port_plain : (s p : ℕ) → lacks 10 (port_text t s p) ≡ true
  unfolding port_text
  port_plain s p = go (port_at t s p) refl
    where
      go : (o : Option PortNames) → port_at t s p ≡ o → lacks 10 (unwrap_or (option_map (λ (x : PortNames). x.name) o) []) ≡ true
      go None e = refl
      go (Some x) e = ident_plain x.name (port_well s p x e).name

  port_signal_plain : (s p n : ℕ) → lacks 10 (port_signal_text t s p n) ≡ true
  unfolding port_signal_text
  port_signal_plain s p n = go (port_at t s p) refl
    where
      go : (o : Option PortNames) → port_at t s p ≡ o
          → lacks 10 (unwrap_or (option_map (λ (x : PortNames). signal_of_port_text x n) o) []) ≡ true
      go None e = refl
      go (Some x) e = signal_in_plain x n (port_well s p x e)

  state_plain : (s n : ℕ) → lacks 10 (state_text t s n) ≡ true
  unfolding state_text
  state_plain s n = go (class_of t s) refl
    where
      label : (c : ClassNames) → class_of t s ≡ Some c → (o : Option (List ℕ)) → slice_get c.states n ≡ o
          → lacks 10 (unwrap_or o (codes "-")) ≡ true
      label c is None e = refl
      label c is (Some x) e =
          lacks_kind label_byte 10 x (label_bytes x (all_at IsStateLabel c.states n x (class_named t s c named is).states e)) refl

      go : (o : Option ClassNames) → class_of t s ≡ o
          → lacks 10 (unwrap_or (option_and_then (λ (c : ClassNames). slice_get c.states n) o) (codes "-")) ≡ true
      go None e = refl
      go (Some c) e = label c e (slice_get c.states n) refl

  pub name_plain : (c : ℕ) → lacks 10 (slice_index_or t.controllers c []) ≡ true
  name_plain c = subst (λ (w : List ℕ). lacks 10 w ≡ true) (unwrap_or-slice_get t.controllers c []) (go (slice_get t.controllers c) refl)
    where
      go : (o : Option (List ℕ)) → slice_get t.controllers c ≡ o → lacks 10 (unwrap_or o []) ≡ true
      go None e = refl
      go (Some w) e = ident_plain w (all_at IsIdent t.controllers c w named.controllers e)

  signal_plain : (m : Msg) → lacks 10 (signal_text t m) ≡ true
  signal_plain m = go (m.prio.0 == 0)
    where
      go : (b : Bool) → lacks 10 (cond b (kind_text m.signal) (port_signal_text t m.target.slot.0 m.target.port m.signal)) ≡ true
      go true = kind_text_plain m.signal
      go false = port_signal_plain m.target.slot.0 m.target.port m.signal

  -- ---- parts of lines

  pub incarnation_plain : (i : Incarnation) → AllPlain (incarnation_parts t i)
  incarnation_plain i = (path_plain i.slot.0, (refl, (number_lacks 10 i.generation.0 refl, tt)))

  endpoint_plain : (e : Endpoint) → AllPlain (endpoint_parts t e)
  endpoint_plain e =
      (path_plain e.slot.0, (refl, (number_lacks 10 e.generation.0 refl, (refl, (port_plain e.slot.0 e.port, (refl, (number_lacks 10 e.place refl, (refl, tt))))))))

  source_plain : (o : Option Endpoint) → AllPlain (source_parts t o)
  source_plain None = (refl, tt)
  source_plain (Some e) = endpoint_plain e

  pub message_plain : (m : Msg) → AllPlain (message_parts t m)
  message_plain m =
      let tail : AllPlain (signal_parts t m) = (refl, (signal_plain m, (numbers_plain m.payload, tt))) in
      let target : AllPlain (codes " " ∷ (endpoint_parts t m.target ++ signal_parts t m)) =
      (refl, plain_append (endpoint_parts t m.target) (signal_parts t m) (endpoint_plain m.target) tail) in
      (number_lacks 10 m.prio.0 refl, (refl, plain_append (source_parts t m.source) (codes " " ∷ (endpoint_parts t m.target ++ signal_parts t m)) (source_plain m.source) target))

  pub standing_plain : (who : Incarnation) (state : ℕ) → AllPlain (standing_parts t who state)
  standing_plain who state =
      plain_append (incarnation_parts t who) (codes " " ∷ state_text t who.slot.0 state ∷ []) (incarnation_plain who) (refl, (state_plain who.slot.0 state, tt))

  pub did_plain : (did : Did) → AllPlain (did_parts t did)
  did_plain outcomes.Duty = (refl, tt)
  did_plain (outcomes.Handled who state) = (refl, standing_plain who state)
  did_plain (outcomes.Deferred who state) = (refl, standing_plain who state)
  did_plain (outcomes.Unhandled who state) = (refl, standing_plain who state)
  did_plain (outcomes.Stale target) = (refl, incarnation_plain target)
  did_plain (outcomes.Empty target) = (refl, incarnation_plain target)

  pub speaking_plain : (o : Option SlotId) (p : ℕ) → lacks 10 (speaking_port_text t o p) ≡ true
  speaking_plain None p = refl
  speaking_plain (Some s) p = port_plain s.0 p
