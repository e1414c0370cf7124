-- Timeouts come in where they go.
use Rattle.std.proofs.Common.{◌≡◌, ℕ, ◌+◌, ◌==◌, nat_lt, Bool, true, false, not, ◌&&◌, if◌then◌else◌, List, [], ◌∷◌, map, length, Option, Some, None, refl, sym, ap, ◌∙◌, subst, ltb-true, eqb-true, arith}
use Rattle.std.specs.Prelude.{filter, option_map, slice_get, codes}
use Rattle.std.specs.List.{AllByRecursion}
use Rattle.std.specs.Option.{option_map_or}
use Rattle.std.proofs.lemmas.Bool.{and_parts}
use Rattle.room_kinds.specs.declared.numbers.Endpoint.{Endpoint}
use Rattle.journal.specs.declared.entry.Entry.{Entry}
use Rattle.room_wiring.specs.declared.names.PortNames.{PortNames}
use Rattle.room_wiring.specs.declared.names.SignalNames.{SignalNames}
use Rattle.room_wiring.specs.declared.slot.Slot.{Slot}
use Rattle.room_wiring.specs.declared.tables.Tables.{Tables}
use Rattle.room_wiring.specs.Slots.{slot_at, port_at}
use Rattle.room_wiring.specs.Places.{place_count}
use Rattle.inject_reader.specs.declared.inject_lines.accepted.Line.{Line}
use Rattle.inject_reader.specs.Fitting.{has_end_places, ComesIn, MessageFits, LinesFit}
use Rattle.inject_reader.specs.Meaning.{is_own}
use Rattle.room_timer.specs.declared.timer.Timer.{Timer}
use Rattle.room_timer.specs.Services.{is_named, are_requests, are_answers, speaks_of_time, is_timed, hears_timeout}
use Rattle.room_timer.specs.Timers.{Timers, saw, due_by, is_due, timeout_line, expired, moment}
use Rattle.room_timer.specs.Laws.{AllHear}
use Rattle.room_timer.proofs.Later.{seen, all_filtered}

-- what passes a test is there
there : {A : Type 0} (test : A → Bool) (o : Option A) → option_map_or test o false ≡ true → (x : A) × (o ≡ Some x) × (test x ≡ true)
there test None h = absurd cc
there test (Some x) h = (x, refl, h)

two_requests : (xs : List SignalNames) → are_requests xs ≡ true → length xs ≡ 2
two_requests [] h = absurd cc
two_requests (start ∷ []) h = absurd cc
two_requests (start ∷ kill ∷ []) h = refl
two_requests (start ∷ kill ∷ more ∷ rest) h = absurd cc

one_answer : (xs : List SignalNames) → are_answers xs ≡ true → (x : SignalNames) × (xs ≡ x ∷ []) × (length x.numbers ≡ 0)
one_answer [] h = absurd cc
one_answer (x ∷ []) h = (x, refl, eqb-true (length x.numbers) 0 (and_parts (is_named x.name (codes "timeout")) (length x.numbers == 0) h).1)
one_answer (x ∷ more ∷ rest) h = absurd cc

-- the signal that comes in is the timeout
timeout_comes : (port : PortNames) → is_timed port ≡ true → ComesIn port 2 0
timeout_comes port h =
    let ends = and_parts (has_end_places port.kind && port.conjugated) (speaks_of_time port) h in
    let side : port.conjugated ≡ true = (and_parts (has_end_places port.kind) port.conjugated ends.0).1 in
    let speaks = and_parts (option_map_or (λ (n : List ℕ). is_named n (codes "PTimer")) port.protocol_name false && are_requests port.incoming) (are_answers port.outgoing) ends.1 in
    let requests : are_requests port.incoming ≡ true =
    (and_parts (option_map_or (λ (n : List ℕ). is_named n (codes "PTimer")) port.protocol_name false) (are_requests port.incoming) speaks.0).1 in
    let answer = one_answer port.outgoing speaks.1 in
    let two : length port.incoming ≡ 2 = two_requests port.incoming requests in
    record {
      place = 0;
      names = answer.0;
      names_is = ap (λ (b : Bool). slice_get (if b then port.outgoing else port.incoming) 0) side ∙ ap (λ (xs : List SignalNames). slice_get xs 0) answer.1;
      number = sym (ap (λ (k : ℕ). k + 0) (ap (λ (b : Bool). if b then length port.incoming else 0) side ∙ two));
      carries = sym answer.2;
    }

pub timeout_fits : (t : Tables) (e : Endpoint) → hears_timeout t e ≡ true → MessageFits t (record e { generation = record { 0 = 0 } }) 2 [] 3
unfolding hears_timeout port_at
timeout_fits t e h =
    let parts = and_parts
    (option_map_or (λ (x : Slot). is_own x.kind) (slot_at t e.slot.0) false && option_map_or is_timed (port_at t e.slot.0 e.port) false)
    (nat_lt e.place (place_count t e.slot.0 e.port)) h in
    let both = and_parts (option_map_or (λ (x : Slot). is_own x.kind) (slot_at t e.slot.0) false) (option_map_or is_timed (port_at t e.slot.0 e.port) false) parts.0 in
    let slot = there (λ (x : Slot). is_own x.kind) (slot_at t e.slot.0) both.0 in
    let port = there is_timed (port_at t e.slot.0 e.port) both.1 in
    let ends = and_parts (has_end_places port.0.kind && port.0.conjugated) (speaks_of_time port.0) port.2 in
    record {
      port = port.0;
      target_fits = record {
        slot = record { slot = slot.0; slot_is = slot.1; own = slot.2 };
        port_is = port.1;
        kind = (and_parts (has_end_places port.0.kind) port.0.conjugated ends.0).0;
        place = ltb-true _ _ parts.1;
        whoever = refl;
      };
      signal_fits = timeout_comes port.0 port.2;
      least = omega arith;
      most = omega arith;
    }

pub seen_hears : (t : Tables) (ts : Timers) (party : ℕ) (e : Entry) → AllHear t ts → AllHear t (saw t ts party e)
seen_hears t ts party e h =
    seen (λ (us : Timers) (x : Timer). hears_timeout t x.at ≡ true) t (λ us at delay hears. hears) (λ us xs x k. k) ts party e h

lines_fit : (t : Tables) (number time : ℕ) (xs : List Timer) → AllByRecursion (λ (x : Timer). hears_timeout t x.at ≡ true) xs
    → LinesFit t (map (timeout_line number) (filter (is_due time) xs))
lines_fit t number time xs h = each (filter (is_due time) xs) (all_filtered (λ (x : Timer). hears_timeout t x.at ≡ true) (is_due time) xs h)
  where
    each : (ys : List Timer) → AllByRecursion (λ (x : Timer). hears_timeout t x.at ≡ true) ys → LinesFit t (map (timeout_line number) ys)
    each [] k = tt
    each (y ∷ ys) k = (timeout_fits t y.at k.0, each ys k.1)

pub moment_fits : (t : Tables) (number : ℕ) (ts next : Timers) (until : ℕ) (ms : List Line) → AllHear t ts
    → moment number ts until ≡ Some (ms, next) → AllHear t next × LinesFit t ms
moment_fits t number ts next until ms h is = go (due_by until ts.armed) is
  where
    go : (o : Option ℕ) → option_map (expired number ts) o ≡ Some (ms, next) → AllHear t next × LinesFit t ms
    go None e = absurd cc
    go (Some time) e =
        let p : List Line × Timers = expired number ts time in
        let q : List Line × Timers = (ms, next) in
        let same : p ≡ q = cc in (
          subst (AllHear t) (ap (λ (z : List Line × Timers). z.1) same)
              (all_filtered (λ (x : Timer). hears_timeout t x.at ≡ true) (λ x. not (is_due time x)) ts.armed h),
          subst (LinesFit t) (ap (λ (z : List Line × Timers). z.0) same) (lines_fit t number time ts.armed h),
        )
