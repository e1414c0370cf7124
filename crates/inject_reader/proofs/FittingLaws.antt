-- What is read names what the wiring has.
use Rattle.std.proofs.Common.{◌≡◌, ℕ, suc, ◌+◌, ◌<◌, ◌≤◌, Bool, true, false, cond, List, [], ◌∷◌, ◌++◌, length, refl, sym, ap, ◌∙◌, subst, arith, Option, Some, None, Result, Ok, Err, ℤ, codes, nat_lt, nat_le}
use Rattle.std.specs.Prelude.{◌&&◌, ◌==◌, IsTrue, slice_get, position, option_map, option_and_then}
use Rattle.std.specs.List.{AllByRecursion}
use Rattle.std.specs.Option.{option_map_or}
use Rattle.std.proofs.lemmas.Bool.{and_parts}
use Rattle.std.proofs.lemmas.Bool.Decides.{nat_tests}
use Rattle.name_tables.specs.name_numbers.Names.{same}
use Rattle.room_wiring.specs.WellNamed.{is_ident}
use Rattle.room_kinds.specs.declared.number_type.NumberType.{NumberType}
use Rattle.room_kinds.specs.Structure.{is_end}
use Rattle.room_wiring.specs.declared.tables.Tables.{Tables}
use Rattle.room_wiring.specs.declared.slot.Slot.{Slot}
use Rattle.room_wiring.specs.declared.names.PortNames.{PortNames}
use Rattle.room_wiring.specs.declared.names.SignalNames.{SignalNames}
use Rattle.room_wiring.specs.Slots.{slot_at, class_of, slot_named}
use Rattle.room_wiring.specs.Places.{place_count}
use Rattle.room_wiring.specs.wiring_names.Lookup.{port_of}
use Rattle.inject_reader.specs.declared.inject_lines.accepted.Advances.{Advances}
use Rattle.inject_reader.specs.declared.inject_lines.accepted.Advances.TheVariants.{Taken, Refused}
use Rattle.inject_reader.specs.declared.inject_lines.accepted.What.{What}
use Rattle.inject_reader.specs.declared.inject_lines.accepted.What.TheVariants as whats
use Rattle.inject_reader.specs.declared.inject_lines.accepted.Line.{Line}
use Rattle.text_reading.specs.Numerals.{value_of, number_in}
use Rattle.inject_reader.specs.inject_lines.Forms.{LoadForm, MessageForm, LineForm, Settle, Advance, Message, loaded, with_number, priority_in, priority_of, load_in, target_in, time_in, advance_in, message_in, longer_in, form_of, form_in}
use Rattle.inject_reader.specs.inject_lines.Fields.{fields}
use Rattle.inject_reader.specs.Meaning.{Fault, ◌>>=◌, coded, is_own, own_slot, slot_meant, end_place, port_named, port_in_class, port_meant, coming, first_coming, coming_at, signal_meant, reduced_all, payload_meant, whoever, message_meant, advance_meant, form_meant, line_meant}
use Rattle.inject_reader.specs.Answer.{is_passed_over, numbered, entry_at, entries_from, answer}
use Rattle.inject_reader.specs.declared.fault.InjectFault.{InjectFault}
use Rattle.inject_reader.specs.Gives.{Gives}
use Rattle.std.specs.Str.Lines.{lines}
use Rattle.std.specs.Result.{IfOk}
use Rattle.inject_reader.specs.Fitting.{IsOwnSlot, ComesIn, FitsWhat, FitLines, StandsStill, AreUntimed}

bind_ok : {A B : Type 0} (r : Result A Fault) (f : A → Result B Fault) (y : B) → (r >>= f) ≡ Ok y → (x : A) × (r ≡ Ok x) × (f x ≡ Ok y)
bind_ok (Ok x) f y h = (x, refl, h)
bind_ok (Err e) f y h = absurd cc

coded_ok : {A : Type 0} (line code : ℕ) (o : Option A) (x : A) → coded line code o ≡ Ok x → o ≡ Some x
coded_ok line code (Some y) x h = cc
coded_ok line code None x h = absurd cc

chosen : {A : Type 0} (t : Bool) (x y : A) → cond t (Some x) None ≡ Some y → (t ≡ true) × (x ≡ y)
chosen true x y h = (refl, cc)
chosen false x y h = absurd cc

then_some : {A B : Type 0} (f : A → Option B) (o : Option A) (y : B) → option_and_then f o ≡ Some y → (x : A) × (o ≡ Some x) × (f x ≡ Some y)
then_some f None y h = absurd cc
then_some f (Some x) y h = (x, refl, h)

own_at : (t : Tables) (s : ℕ) (o : Option Slot) → slot_at t s ≡ o → option_map_or (λ (x : Slot). is_own x.kind) o false ≡ true → IsOwnSlot t s
own_at t s None e h = absurd cc
own_at t s (Some x) e h = record { slot = x; slot_is = e; own = h }

own_meant : (t : Tables) (path : List ℕ) (s : ℕ) → slot_meant t path ≡ Some s → IsOwnSlot t s
unfolding slot_meant
own_meant t path s h =
    let found = then_some (own_slot t) (slot_named t path) s h in
    let test = chosen (option_map_or (λ (x : Slot). is_own x.kind) (slot_at t found.0) false) found.0 s found.2 in
    subst (λ (n : ℕ). IsOwnSlot t n) test.1 (own_at t found.0 (slot_at t found.0) refl test.0)

below_true : (a b : ℕ) → nat_lt a b ≡ true → a < b
below_true a b h = grind (arith, nat_tests)

true_is : (b : Bool) → b ≡ true → IsTrue b
true_is b h = h

-- what an end place that was found is
record FoundEnd (t : Tables) (s place p : ℕ) (x : PortNames) : Type 0 where
  port_is : option_and_then (port_of p) (class_of t s) ≡ Some x
  end : IsTrue (is_end x.kind)
  inside : place < place_count t s p

end_at : (t : Tables) (s place p q : ℕ) (x y : PortNames) → end_place t s place p x ≡ Some (q, y) → (p ≡ q) × (x ≡ y) × IsTrue (is_end x.kind) × (place < place_count t s p)
end_at t s place p q x y h =
    let test = chosen (is_end x.kind && nat_lt place (place_count t s p)) (p, x) (q, y) h in
    let parts = and_parts (is_end x.kind) (nat_lt place (place_count t s p)) test.0 in
    (ap (λ (r : ℕ × PortNames). r.0) test.1, ap (λ (r : ℕ × PortNames). r.1) test.1, true_is (is_end x.kind) parts.0, below_true place (place_count t s p) parts.1)

end_meant : (t : Tables) (s place q : ℕ) (name : List ℕ) (y : PortNames) → port_meant t s name place ≡ Some (q, y) → FoundEnd t s place q y
unfolding port_meant
end_meant t s place q name y h =
    let class = then_some (port_in_class t s name place) (class_of t s) (q, y) h in
    let number = then_some (λ (p : ℕ). option_and_then (end_place t s place p) (slice_get class.0.ports p)) (port_named class.0 name) (q, y) class.2 in
    let port = then_some (end_place t s place number.0) (slice_get class.0.ports number.0) (q, y) number.2 in
    let end = end_at t s place number.0 q port.0 y port.2 in
    let here : option_and_then (port_of number.0) (class_of t s) ≡ Some port.0 = ap (option_and_then (port_of number.0)) class.1 ∙ port.1 in
    let found : FoundEnd t s place number.0 port.0 = record { port_is = here; end = end.2; inside = end.3 } in
    subst (λ (x : PortNames). FoundEnd t s place q x) end.1 (subst (λ (n : ℕ). FoundEnd t s place n port.0) end.0 found)

signal_found : (x : PortNames) (name : List ℕ) (n : ℕ) (y : SignalNames) → signal_meant x name ≡ Some (n, y) → ComesIn x n (length y.numbers)
unfolding signal_meant
signal_found x name n y h =
    let place = then_some (coming_at x) (position (λ (z : SignalNames). same z.name name) (coming x)) (n, y) h in
    let names = then_some (λ (z : SignalNames). cond (nat_lt (first_coming x + place.0) 65536) (Some (first_coming x + place.0, z)) None) (slice_get (coming x) place.0) (n, y) place.2 in
    let test = chosen (nat_lt (first_coming x + place.0) 65536) (first_coming x + place.0, names.0) (n, y) names.2 in
    let number : first_coming x + place.0 ≡ n = ap (λ (r : ℕ × SignalNames). r.0) test.1 in
    let same_names : names.0 ≡ y = ap (λ (r : ℕ × SignalNames). r.1) test.1 in
    record { place = place.0; names = y; names_is = names.1 ∙ ap Some same_names; number = sym number; carries = refl }

pub reduced_short : (types : List NumberType) (zs : List ℤ) → length (reduced_all types zs) ≤ length zs
reduced_short [] zs = omega arith
reduced_short (k ∷ ks) [] = omega arith
reduced_short (k ∷ ks) (z ∷ zs) = let rest : length (reduced_all ks zs) ≤ length zs = reduced_short ks zs in omega arith

zip_length : (types : List NumberType) (zs : List ℤ) → length zs ≡ length types → length (reduced_all types zs) ≡ length types
zip_length [] zs h = refl
zip_length (k ∷ ks) [] h = absurd (omega arith)
zip_length (k ∷ ks) (z ∷ zs) h = ap suc (zip_length ks zs (omega arith))

equal_true : (a b : ℕ) → (a == b) ≡ true → a ≡ b
equal_true a b h = grind (arith, nat_tests)

payload_found : (types : List NumberType) (zs payload : List ℤ) → payload_meant types zs ≡ Some payload → length payload ≡ length types
unfolding payload_meant
payload_found types zs payload h =
    let test = chosen ((length zs == length types) && nat_le (length zs) 64) (reduced_all types zs) payload h in
    let parts = and_parts (length zs == length types) (nat_le (length zs) 64) test.0 in
    ap length (sym test.1) ∙ zip_length types zs (equal_true (length zs) (length types) parts.0)

-- ---- the priority of a form

abbrev InRange : ℕ → Type 0
InRange p = (1 ≤ p) × (p ≤ 5)

pick : (t : Bool) (k : ℕ) (o : Option ℕ) (p : ℕ) → InRange k → (o ≡ Some p → InRange p) → cond t (Some k) o ≡ Some p → InRange p
pick true k o p h g e = let is : k ≡ p = cc in subst InRange is h
pick false k o p h g e = g e

none_in : (p : ℕ) → None ≡ Some p → InRange p
none_in p e = absurd cc

priority_range : (w : List ℕ) (p : ℕ) → priority_in w ≡ Some p → InRange p
unfolding priority_in
priority_range w p =
    pick (same w (codes "panic")) 1 _ p (omega arith, omega arith) (pick (same w (codes "high")) 2 _ p (omega arith, omega arith) (pick (same w (codes "general")) 3 _ p (omega arith, omega arith)
    (pick (same w (codes "low")) 4 _ p (omega arith, omega arith) (pick (same w (codes "background")) 5 None p (omega arith, omega arith) (none_in p)))))

alone_range : (ws : List (List ℕ)) (p : ℕ) → priority_of ws ≡ Some p → InRange p
alone_range [] p h = none_in p h
alone_range (w ∷ []) p h = priority_range w p h
alone_range (w ∷ v ∷ more) p h = none_in p h

map_some : {A B : Type 0} (f : A → B) (o : Option A) (y : B) → option_map f o ≡ Some y → (x : A) × (o ≡ Some x) × (f x ≡ y)
map_some f None y h = absurd cc
map_some f (Some x) y h = (x, refl, cc)

load_range : (ws : List (List ℕ)) (l : LoadForm) → load_in ws ≡ Some l → InRange l.prio
load_range [] l h = let is : loaded [] 3 ≡ l = cc in subst (λ (k : LoadForm). InRange k.prio) is (omega arith, omega arith)
load_range (w ∷ ws) l h = by_test (same w (codes "at")) (λ k e. load_range ws k e) h
  where
    by_test : (t : Bool) → ((k : LoadForm) → load_in ws ≡ Some k → InRange k.prio)
        → cond t (option_map (loaded []) (priority_of ws)) (option_and_then (λ z. option_map (with_number z) (load_in ws)) (number_in w)) ≡ Some l → InRange l.prio
    by_test true go e =
        let p = map_some (loaded []) (priority_of ws) l e in
        subst (λ (k : LoadForm). InRange k.prio) p.2 (alone_range ws p.0 p.1)
    by_test false go e =
        let z = then_some (λ (z : ℤ). option_map (with_number z) (load_in ws)) (number_in w) l e in
        let k = map_some (with_number z.0) (load_in ws) l z.2 in
        subst (λ (j : LoadForm). InRange j.prio) k.2 (go k.0 k.1)

abbrev PrioritySound : LineForm → Type 0
PrioritySound Settle = Unit {0}
PrioritySound (Advance time) = Unit {0}
PrioritySound (Message m) = InRange m.load.prio

chosen_form : {A : Type 0} (t : Bool) (o : Option A) (y : A) → cond t o None ≡ Some y → o ≡ Some y
chosen_form true o y h = h
chosen_form false o y h = absurd cc

message_range : (w v : List ℕ) (ws : List (List ℕ)) (f : LineForm) → message_in w v ws ≡ Some f → PrioritySound f
message_range w v ws f h =
    let whole = chosen_form (is_ident v) (option_and_then (λ t. option_map (λ l. Message (record { target = t; signal = v; load = l })) (load_in ws)) (target_in w)) f h in
    let target = then_some (λ t. option_map (λ l. Message (record { target = t; signal = v; load = l })) (load_in ws)) (target_in w) f whole in
    let load = map_some (λ l. Message (record { target = target.0; signal = v; load = l })) (load_in ws) f target.2 in
    subst PrioritySound load.2 (load_range ws load.0 load.1)

advance_range : (v : List ℕ) (ws : List (List ℕ)) (f : LineForm) → advance_in v ws ≡ Some f → PrioritySound f
advance_range v [] f h = let time = map_some Advance (time_in v) f h in subst PrioritySound time.2 tt
advance_range v (w ∷ ws) f h = absurd cc

longer_range : (w v : List ℕ) (ws : List (List ℕ)) (f : LineForm) → longer_in w v ws ≡ Some f → PrioritySound f
longer_range w v ws f = by_test (same w (codes "advance"))
  where
    by_test : (t : Bool) → cond t (advance_in v ws) (message_in w v ws) ≡ Some f → PrioritySound f
    by_test true h = advance_range v ws f h
    by_test false h = message_range w v ws f h

form_range : (ws : List (List ℕ)) (f : LineForm) → form_of ws ≡ Some f → PrioritySound f
form_range [] f h = absurd cc
form_range (w ∷ []) f h =
    let is = chosen (same w (codes "settle")) Settle f h in
    subst PrioritySound is.1 tt
form_range (w ∷ v ∷ ws) f h = longer_range w v ws f h

-- ---- a line, and all lines

message_fits : (t : Tables) (line : ℕ) (m : MessageForm) (w : What) → InRange m.load.prio → message_meant t line m ≡ Ok w → FitsWhat t w
unfolding message_meant
message_fits t line m w range h =
    let place = value_of m.target.place in
    let a = bind_ok (coded line 2 (slot_meant t m.target.path)) _ w h in
    let b = bind_ok (coded line 3 (port_meant t a.0 m.target.port place)) _ w a.2 in
    let c = bind_ok (coded line 4 (signal_meant b.0.1 m.signal)) _ w b.2 in
    let d = bind_ok (coded line 5 (payload_meant c.0.1.numbers m.load.numbers)) _ w c.2 in
    let end = end_meant t a.0 place b.0.0 m.target.port b.0.1 (coded_ok line 3 _ b.0 b.1) in
    let signal = signal_found b.0.1 m.signal c.0.0 c.0.1 (coded_ok line 4 _ c.0 c.1) in
    let carried : length d.0 ≡ length c.0.1.numbers = payload_found c.0.1.numbers m.load.numbers d.0 (coded_ok line 5 _ d.0 d.1) in
    let what : whats.Message (whoever a.0 b.0.0 place) c.0.0 d.0 (record { 0 = m.load.prio }) ≡ w = cc in
    let fits : FitsWhat t (whats.Message (whoever a.0 b.0.0 place) c.0.0 d.0 (record { 0 = m.load.prio })) = record {
      port = b.0.1;
      target_fits = record { slot = own_meant t m.target.path a.0 (coded_ok line 2 _ a.0 a.1); port_is = end.port_is; end = end.end; place = end.inside; whoever = refl };
      signal_fits = subst (λ (n : ℕ). ComesIn b.0.1 c.0.0 n) (sym carried) signal;
      least = range.0;
      most = range.1;
    } in
    subst (FitsWhat t) what fits

advance_fits : (advances : Advances) (t : Tables) (line time : ℕ) (w : What) → advance_meant advances line time ≡ Ok w → FitsWhat t w
advance_fits Taken t line time w h = let what : whats.Advance time ≡ w = cc in subst (FitsWhat t) what tt
advance_fits Refused t line time w h = absurd cc

form_fits : (advances : Advances) (t : Tables) (line : ℕ) (f : LineForm) (w : What) → PrioritySound f → form_meant advances t line f ≡ Ok w → FitsWhat t w
form_fits advances t line Settle w s h = let what : whats.Settle ≡ w = cc in subst (FitsWhat t) what tt
form_fits advances t line (Advance time) w s h = advance_fits advances t line time w h
form_fits advances t line (Message m) w s h = message_fits t line m w s h

line_fits : (advances : Advances) (t : Tables) (line : ℕ) (text : List ℕ) (w : What) → line_meant advances t line text ≡ Ok w → FitsWhat t w
unfolding line_meant form_in
line_fits advances t line text w h =
    let form = bind_ok (coded line 1 (form_in text)) (form_meant advances t line) w h in
    form_fits advances t line form.0 w (form_range (fields text) form.0 (coded_ok line 1 _ form.0 form.1)) form.2

-- ---- no line moves time on where that is refused

message_still : (t : Tables) (line : ℕ) (m : MessageForm) (w : What) → message_meant t line m ≡ Ok w → StandsStill w
unfolding message_meant
message_still t line m w h =
    let place = value_of m.target.place in
    let a = bind_ok (coded line 2 (slot_meant t m.target.path)) _ w h in
    let b = bind_ok (coded line 3 (port_meant t a.0 m.target.port place)) _ w a.2 in
    let c = bind_ok (coded line 4 (signal_meant b.0.1 m.signal)) _ w b.2 in
    let d = bind_ok (coded line 5 (payload_meant c.0.1.numbers m.load.numbers)) _ w c.2 in
    let what : whats.Message (whoever a.0 b.0.0 place) c.0.0 d.0 (record { 0 = m.load.prio }) ≡ w = cc in
    subst StandsStill what tt

form_still : (t : Tables) (line : ℕ) (f : LineForm) (w : What) → form_meant Refused t line f ≡ Ok w → StandsStill w
form_still t line Settle w h = let what : whats.Settle ≡ w = cc in subst StandsStill what tt
form_still t line (Advance time) w h = absurd cc
form_still t line (Message m) w h = message_still t line m w h

line_still : (t : Tables) (line : ℕ) (text : List ℕ) (w : What) → line_meant Refused t line text ≡ Ok w → StandsStill w
unfolding line_meant
line_still t line text w h =
    let form = bind_ok (coded line 1 (form_in text)) (form_meant Refused t line) w h in
    form_still t line form.0 w form.2

-- ---- what is so of each accepted line is so of all

abbrev AllAsk : (What → Type 0) → List Line → Type 0
AllAsk P ls = AllByRecursion (λ (l : Line). P l.what) ls

both_ask : (P : What → Type 0) (xs ys : List Line) → AllAsk P xs → AllAsk P ys → AllAsk P (xs ++ ys)
both_ask P [] ys h k = k
both_ask P (x ∷ xs) ys h k = (h.0, both_ask P xs ys h.1 k)

module _ (P : What → Type 0) (advances : Advances) (t : Tables) (each : (n : ℕ) (text : List ℕ) (w : What) → line_meant advances t n text ≡ Ok w → P w) where
  entry_asks : (n : ℕ) (text : List ℕ) (ls : List Line) → entry_at advances t n text ≡ Ok ls → AllAsk P ls
  unfolding entry_at
  entry_asks n text ls = by_test (is_passed_over text)
    where
      by_test : (p : Bool) → cond p (Ok []) (line_meant advances t n text >>= λ what. Ok (numbered n what)) ≡ Ok ls → AllAsk P ls
      by_test true h = let none : [] ≡ ls = cc in subst (AllAsk P) none tt
      by_test false h =
          let what = bind_ok (line_meant advances t n text) (λ what. Ok (numbered n what)) ls h in
          let one : numbered n what.0 ≡ ls = cc in
          subst (AllAsk P) one (each n text what.0 what.1, tt)

  entries_ask : (n : ℕ) (texts : List (List ℕ)) (ls : List Line) → entries_from advances t n texts ≡ Ok ls → AllAsk P ls
  entries_ask n [] ls h = let none : [] ≡ ls = cc in subst (AllAsk P) none tt
  entries_ask n (text ∷ more) ls h =
      let front = bind_ok (entry_at advances t n text) (λ front. entries_from advances t (n + 1) more >>= λ back. Ok (front ++ back)) ls h in
      let back = bind_ok (entries_from advances t (n + 1) more) (λ back. Ok (front.0 ++ back)) ls front.2 in
      let whole : front.0 ++ back.0 ≡ ls = cc in
      subst (AllAsk P) whole (both_ask P front.0 back.0 (entry_asks n text front.0 front.1) (entries_ask (n + 1) more back.0 back.1))

  answer_asks : (bytes : List ℕ) (ls : List Line) → answer advances t bytes ≡ Ok ls → AllAsk P ls
  unfolding answer
  answer_asks bytes ls = by_test (nat_lt 10000 (length (lines bytes)))
    where
      by_test : (b : Bool) → cond b (Err (10001, 6)) (entries_from advances t 1 (lines bytes)) ≡ Ok ls → AllAsk P ls
      by_test true h = absurd cc
      by_test false h = entries_ask 1 (lines bytes) ls h

  -- the same of a reader's answer
  given_asks : {V : Type 0} (items : V → List Line) (bytes : List ℕ) (r : Result V InjectFault) → Gives items r (answer advances t bytes) → IfOk r (λ v. AllAsk P (items v))
  given_asks items bytes (Ok v) h = answer_asks bytes (items v) h
  given_asks items bytes (Err e) h = tt

pub given_fit : {V : Type 0} (advances : Advances) (items : V → List Line) (t : Tables) (bytes : List ℕ) (r : Result V InjectFault) → Gives items r (answer advances t bytes) → IfOk r (λ v. FitLines t (items v))
given_fit advances items t bytes r h = given_asks (FitsWhat t) advances t (line_fits advances t) items bytes r h

pub given_untimed : {V : Type 0} (items : V → List Line) (t : Tables) (bytes : List ℕ) (r : Result V InjectFault) → Gives items r (answer Refused t bytes) → IfOk r (λ v. AreUntimed (items v))
given_untimed items t bytes r h = given_asks StandsStill Refused t (line_still t) items bytes r h
