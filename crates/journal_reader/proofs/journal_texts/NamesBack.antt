-- Names that a wiring has, read back.
use Rattle.std.proofs.Common.{inl, inr, ◌≡◌, ℕ, zero, suc, ◌<◌, ◌≤◌, Bool, true, false, List, [], ◌∷◌, length, refl, sym, ap, ◌∙◌, arith, subst, Option, Some, None}
use Rattle.std.specs.Prelude.{◌==◌, ◌||◌, slice_get, option_map, option_and_then, unwrap_or, codes}
use Rattle.std.specs.Option.{option_map_or}
use Rattle.std.specs.List.{list_all}
use Rattle.std.proofs.lemmas.Bool.{and_parts}
use Rattle.std.proofs.lemmas.Option.{option_and_then_some}
use Rattle.name_tables.specs.name_numbers.Names.{same}
use Rattle.room_kinds.specs.Names.{kind_named, kind_at}
use Rattle.room_wiring.specs.declared.tables.Tables.{Tables}
use Rattle.room_wiring.specs.declared.slot.Slot.{Slot}
use Rattle.room_wiring.specs.declared.names.ClassNames.{ClassNames}
use Rattle.room_wiring.specs.declared.names.PortNames.{PortNames}
use Rattle.room_wiring.specs.declared.names.SignalNames.{SignalNames}
use Rattle.room_wiring.specs.Slots.{class_of, port_at, path_text, port_text}
use Rattle.room_wiring.specs.Places.{port_count}
use Rattle.room_wiring.specs.WellNamed.{IsWellNamed, IsWellNamedPort, IsPath, IsIdent, IsStateLabel, signals_of}
use Rattle.room_wiring.specs.wiring_names.Lookup.{slot_called, port_called, signal_called}
use Rattle.room_wiring.proofs.wiring_names.Found.{all_at}
use Rattle.room_wiring.proofs.wiring_names.Fresh.{same_not}
use Rattle.room_wiring.proofs.wiring_names.Back.{slot_back, class_named, port_back, state_back, signal_back}
use Rattle.journal.specs.Names.{state_text, kind_text, signal_of_port_text, port_signal_text}
use Rattle.journal.specs.Fits.{HasSignal, FitsState}
use Rattle.journal_reader.specs.journal_lines.Fields.{state_in, kind_in}
use Rattle.journal_reader.proofs.journal_texts.NamesText.{word_byte, path_byte, label_byte, ident_bytes, path_bytes, label_bytes}

pub slice_there : {A : Type 0} (xs : List A) (i : ℕ) → i < length xs → (x : A) × (slice_get xs i ≡ Some x)
slice_there [] i h = absurd (omega arith)
slice_there (x ∷ xs) zero h = (x, refl)
slice_there (x ∷ xs) (suc i) h = slice_there xs i (omega arith)

-- ---- slots

pub record PathKnown (t : Tables) (s : ℕ) : Type 0 where
  pub bytes : list_all path_byte (path_text t s) ≡ true
  pub back : slot_called t (path_text t s) ≡ s

pub path_known : (t : Tables) (s : ℕ) → IsWellNamed t → length t.slots ≤ 65536 → s < length t.slots → PathKnown t s
unfolding path_text
path_known t s named sized h =
    let there = slice_there t.slots s h in
    let x : Slot = there.0 in
    let small : s < 65536 = omega arith in
    let is : path_text t s ≡ x.path = ap (λ (o : Option Slot). unwrap_or (option_map (λ (y : Slot). y.path) o) []) there.1 in
    record {
      bytes = subst (λ (w : List ℕ). list_all path_byte w ≡ true) (sym is) (path_bytes x.path (all_at (λ (y : Slot). IsPath y.path) t.slots s x named.paths there.1));
      back = ap (slot_called t) is ∙ slot_back t s x named there.1 small;
    }

-- ---- ports

pub record PortKnown (t : Tables) (s p : ℕ) : Type 0 where
  pub bytes : list_all word_byte (port_text t s p) ≡ true
  pub back : port_called t s (port_text t s p) ≡ p

port_in_class : (t : Tables) (s p : ℕ) (c : ClassNames) (x : PortNames) → IsWellNamed t → class_of t s ≡ Some c → slice_get c.ports p ≡ Some x → p < 65536 → PortKnown t s p
unfolding port_text port_at
port_in_class t s p c x named class_is port_is small =
    let is : port_text t s p ≡ x.name =
    ap (λ (co : Option ClassNames). unwrap_or (option_map (λ (y : PortNames). y.name) (option_and_then (λ (k : ClassNames). slice_get k.ports p) co)) []) class_is
    ∙ ap (λ (o : Option PortNames). unwrap_or (option_map (λ (y : PortNames). y.name) o) []) port_is in
    let well : IsWellNamedPort x = all_at IsWellNamedPort c.ports p x (class_named t s c named class_is).ports port_is in
    record {
      bytes = subst (λ (w : List ℕ). list_all word_byte w ≡ true) (sym is) (ident_bytes x.name well.name);
      back = ap (port_called t s) is ∙ port_back t s p c x named class_is port_is small;
    }

port_by_class : (t : Tables) (s p : ℕ) (co : Option ClassNames) → IsWellNamed t → class_of t s ≡ co → p < option_map_or (λ (c : ClassNames). length c.ports) co 0 → p < 65536 → PortKnown t s p
port_by_class t s p None named class_is h small = absurd (omega arith)
port_by_class t s p (Some c) named class_is h small = let there = slice_there c.ports p h in port_in_class t s p c there.0 named class_is there.1 small

pub port_known : (t : Tables) (s p : ℕ) → IsWellNamed t → p < port_count t s → p < 65536 → PortKnown t s p
unfolding port_count
port_known t s p named h small = port_by_class t s p (class_of t s) named refl h small

-- ---- signals

pub record SignalKnown (t : Tables) (s p n : ℕ) : Type 0 where
  pub bytes : list_all word_byte (port_signal_text t s p n) ≡ true
  pub back : signal_called t s p (port_signal_text t s p n) ≡ n

signal_at_port : (t : Tables) (s p n : ℕ) (c : ClassNames) (x : PortNames) → IsWellNamed t → port_at t s p ≡ Some x → class_of t s ≡ Some c → slice_get c.ports p ≡ Some x → n < length (signals_of x) → n < 65536 → SignalKnown t s p n
unfolding port_signal_text signal_of_port_text
signal_at_port t s p n c x named at class_is port_is h small =
    let there = slice_there (signals_of x) n h in
    let y : SignalNames = there.0 in
    let is : port_signal_text t s p n ≡ y.name =
    ap (λ (o : Option PortNames). unwrap_or (option_map (λ (z : PortNames). unwrap_or (option_map (λ (w : SignalNames). w.name) (slice_get (signals_of z) n)) []) o) []) at
    ∙ ap (λ (o : Option SignalNames). unwrap_or (option_map (λ (w : SignalNames). w.name) o) []) there.1 in
    let well : IsWellNamedPort x = all_at IsWellNamedPort c.ports p x (class_named t s c named class_is).ports port_is in
    record {
      bytes = subst (λ (w : List ℕ). list_all word_byte w ≡ true) (sym is) (ident_bytes y.name (all_at (λ (z : SignalNames). IsIdent z.name) (signals_of x) n y well.signals there.1));
      back = ap (signal_called t s p) is ∙ signal_back t s p n c x y named class_is port_is there.1 small;
    }

pub signal_known : (t : Tables) (s p n : ℕ) → IsWellNamed t → HasSignal t s p n → n < 65536 → SignalKnown t s p n
unfolding port_at
signal_known t s p n named h small =
    option_and_then_some (λ (c : ClassNames). slice_get c.ports p) (class_of t s) h.port h.port_is
    (λ c class_is port_is. signal_at_port t s p n c h.port named h.port_is class_is port_is h.known small)

-- ---- kinds

pub record KindKnown (n : ℕ) : Type 0 where
  pub bytes : list_all word_byte (kind_text n) ≡ true
  pub back : kind_in (kind_text n) ≡ n

pub kind_known : (n : ℕ) → n < 19 → KindKnown n
unfolding kind_text kind_in kind_at kind_named
kind_known zero h = record { bytes = refl; back = refl }
kind_known (suc zero) h = record { bytes = refl; back = refl }
kind_known (suc (suc zero)) h = record { bytes = refl; back = refl }
kind_known (suc (suc (suc zero))) h = record { bytes = refl; back = refl }
kind_known (suc (suc (suc (suc zero)))) h = record { bytes = refl; back = refl }
kind_known (suc (suc (suc (suc (suc zero))))) h = record { bytes = refl; back = refl }
kind_known (suc (suc (suc (suc (suc (suc zero)))))) h = record { bytes = refl; back = refl }
kind_known (suc (suc (suc (suc (suc (suc (suc zero))))))) h = record { bytes = refl; back = refl }
kind_known (suc (suc (suc (suc (suc (suc (suc (suc zero)))))))) h = record { bytes = refl; back = refl }
kind_known (suc (suc (suc (suc (suc (suc (suc (suc (suc zero))))))))) h = record { bytes = refl; back = refl }
kind_known (suc (suc (suc (suc (suc (suc (suc (suc (suc (suc zero)))))))))) h = record { bytes = refl; back = refl }
kind_known (suc (suc (suc (suc (suc (suc (suc (suc (suc (suc (suc zero))))))))))) h = record { bytes = refl; back = refl }
kind_known (suc (suc (suc (suc (suc (suc (suc (suc (suc (suc (suc (suc zero)))))))))))) h = record { bytes = refl; back = refl }
kind_known (suc (suc (suc (suc (suc (suc (suc (suc (suc (suc (suc (suc (suc zero))))))))))))) h = record { bytes = refl; back = refl }
kind_known (suc (suc (suc (suc (suc (suc (suc (suc (suc (suc (suc (suc (suc (suc zero)))))))))))))) h = record { bytes = refl; back = refl }
kind_known (suc (suc (suc (suc (suc (suc (suc (suc (suc (suc (suc (suc (suc (suc (suc zero))))))))))))))) h = record { bytes = refl; back = refl }
kind_known (suc (suc (suc (suc (suc (suc (suc (suc (suc (suc (suc (suc (suc (suc (suc (suc zero)))))))))))))))) h = record { bytes = refl; back = refl }
kind_known (suc (suc (suc (suc (suc (suc (suc (suc (suc (suc (suc (suc (suc (suc (suc (suc (suc zero))))))))))))))))) h = record { bytes = refl; back = refl }
kind_known (suc (suc (suc (suc (suc (suc (suc (suc (suc (suc (suc (suc (suc (suc (suc (suc (suc (suc zero)))))))))))))))))) h = record { bytes = refl; back = refl }
kind_known (suc (suc (suc (suc (suc (suc (suc (suc (suc (suc (suc (suc (suc (suc (suc (suc (suc (suc (suc n))))))))))))))))))) h = absurd (omega arith)

-- ---- states

-- the bytes of labels, and `-`
abbrev pub state_byte : ℕ → Bool
state_byte b = label_byte b || b == 45

pub record StateKnown (t : Tables) (s n : ℕ) : Type 0 where
  pub bytes : list_all state_byte (state_text t s n) ≡ true
  pub back : state_in t s (state_text t s n) ≡ n

label_is_state : (w : List ℕ) → list_all label_byte w ≡ true → list_all state_byte w ≡ true
label_is_state [] h = refl
label_is_state (b ∷ bs) h =
    let parts = and_parts (label_byte b) (list_all label_byte bs) h in
    let known : label_byte b ≡ true = parts.0 in
    rw known (label_is_state bs parts.1)

no_dash : (w : List ℕ) → list_all label_byte w ≡ true → same w (45 ∷ []) ≡ false
no_dash w h = same_not w (45 ∷ []) _ (λ e. let bad : list_all label_byte (45 ∷ []) ≡ true = subst (λ (x : List ℕ). list_all label_byte x ≡ true) e h in cc) refl

state_of_label : (t : Tables) (s n : ℕ) (c : ClassNames) (label : List ℕ) → IsWellNamed t → class_of t s ≡ Some c → slice_get c.states n ≡ Some label → n < 65536 → StateKnown t s n
unfolding state_text state_in
state_of_label t s n c label named class_is e small =
    let is : state_text t s n ≡ label =
    ap (λ (co : Option ClassNames). unwrap_or (option_and_then (λ (k : ClassNames). slice_get k.states n) co) (codes "-")) class_is
    ∙ ap (λ (o : Option (List ℕ)). unwrap_or o (codes "-")) e in
    let bytes : list_all label_byte label ≡ true = label_bytes label (all_at IsStateLabel c.states n label (class_named t s c named class_is).states e) in
    let plain : same label (codes "-") ≡ false = no_dash label bytes in
    record {
      bytes = subst (λ (w : List ℕ). list_all state_byte w ≡ true) (sym is) (label_is_state label bytes);
      back = ap (state_in t s) is ∙ rw plain (state_back t s n c label named class_is e small);
    }

state_missing : (t : Tables) (s n : ℕ) (c : ClassNames) → class_of t s ≡ Some c → c.states ≡ [] → n ≡ 65535 → StateKnown t s n
unfolding state_text state_in
state_missing t s n c class_is none is_last =
    let is : state_text t s n ≡ 45 ∷ [] =
    ap (λ (co : Option ClassNames). unwrap_or (option_and_then (λ (k : ClassNames). slice_get k.states n) co) (codes "-")) class_is
    ∙ ap (λ (ls : List (List ℕ)). unwrap_or (slice_get ls n) (codes "-")) none in
    record {
      bytes = subst (λ (w : List ℕ). list_all state_byte w ≡ true) (sym is) refl;
      back = ap (state_in t s) is ∙ sym is_last;
    }

pub state_known : (t : Tables) (s n : ℕ) → IsWellNamed t → FitsState t s n → n < 65536 → StateKnown t s n
state_known t s n named h small =
    elim h.known [
      | inl inside ↦ let there = slice_there h.class.states n inside in state_of_label t s n h.class there.0 named h.class_is there.1 small
      | inr last ↦ state_missing t s n h.class h.class_is last.0 last.1
    ]
