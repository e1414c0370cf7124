-- The messages of a port, by a table.
use Rattle.std.proofs.Common.{◌≡◌, ℕ, zero, suc, ◌+◌, ◌<◌, ◌^◌, Bool, true, false, cond, List, [], ◌∷◌, length, get_or, map, Option, Some, None, refl, sym, ap, ◌∙◌, arith}
use Rattle.std.specs.Prelude.{◌&&◌, nat_lt, unwrap_or, slice_get, option_and_then}
use Rattle.std.specs.List.{list_all}
use Rattle.std.proofs.lemmas.Bool.{and_parts}
use Rattle.std.proofs.lemmas.Bool.Decides.{nat_tests}
use Rattle.std.proofs.lemmas.List.{length-map}
use Rattle.room_ast.specs.declared.model_parts.entries.PortEntry.{PortEntry}
use Rattle.check_scopes.specs.declared.class_scopes.signals.Signals.{Signals}
use Rattle.check_scopes.specs.declared.class_scopes.signals.SignalTable.{SignalTable}
use Rattle.check_scopes.specs.class_scopes.Making.{signals_few, table_is_few}
use Rattle.check_scopes.specs.class_scopes.Signals.{is_frame, signals_at, map_signals, map_table}

-- ---- the same of each message

mapped_at : {X Y : Type 0} (f : X → Y) (xs : List X) (d : X) (n : ℕ) → unwrap_or (slice_get (map f xs) n) (f d) ≡ f (unwrap_or (slice_get xs n) d)
mapped_at f [] d n = refl
mapped_at f (x ∷ xs) d zero = refl
mapped_at f (x ∷ xs) d (suc n) = mapped_at f xs d n

-- what a port has in the table of the same of each message
at_mapped : {S T : Type 0} (f : S → T) (t : SignalTable S) (p : PortEntry) → signals_at (map_table f t) p ≡ map_signals f (signals_at t p)
at_mapped f t p = pick (is_frame p.kind) p.protocol
  where
    pick : (b : Bool) (o : Option ℕ) → cond b (map_signals f t.frame) (unwrap_or (option_and_then (slice_get (map (map_signals f) t.protocols)) o) (map_signals f t.none)) ≡ map_signals f (cond b t.frame (unwrap_or (option_and_then (slice_get t.protocols) o) t.none))
    pick true o = refl
    pick false None = refl
    pick false (Some n) = mapped_at (map_signals f) t.protocols t.none n

at_seen : {S T : Type 0} (f : S → T) (t : SignalTable S) (p : PortEntry) (s : Signals S) → s ≡ signals_at t p → map_signals f s ≡ signals_at (map_table f t) p
at_seen f t p s is = ap (map_signals f) is ∙ sym (at_mapped f t p)

-- ---- how many messages a port has

passes_at : {X : Type 0} (p : X → Bool) (xs : List X) (d : X) (n : ℕ) → list_all p xs ≡ true → p d ≡ true → p (unwrap_or (slice_get xs n) d) ≡ true
passes_at p [] d n all none = none
passes_at p (x ∷ xs) d zero all none = (and_parts (p x) (list_all p xs) all).0
passes_at p (x ∷ xs) d (suc n) all none = passes_at p xs d n (and_parts (p x) (list_all p xs) all).1 none

few_in : {S : Type 0} (t : SignalTable S) (p : PortEntry) → table_is_few t ≡ true → signals_few (signals_at t p) ≡ true
few_in t p few = pick (is_frame p.kind) p.protocol
  where
    outer : (signals_few t.frame && signals_few t.none ≡ true) × (list_all signals_few t.protocols ≡ true)
    outer = and_parts (signals_few t.frame && signals_few t.none) (list_all signals_few t.protocols) few

    inner : (signals_few t.frame ≡ true) × (signals_few t.none ≡ true)
    inner = and_parts (signals_few t.frame) (signals_few t.none) outer.0

    pick : (b : Bool) (o : Option ℕ) → signals_few (cond b t.frame (unwrap_or (option_and_then (slice_get t.protocols) o) t.none)) ≡ true
    pick true o = inner.0
    pick false None = inner.1
    pick false (Some n) = passes_at signals_few t.protocols t.none n outer.1 inner.1

few_enough : (a b c d : ℕ) → a ≡ c → b ≡ d → nat_lt (a + b) 65536 ≡ true → c + d < 2 ^ 16
few_enough a b c d e f few = grind (arith, nat_tests)

few_at : {S T : Type 0} (f : S → T) (t : SignalTable S) (p : PortEntry) (s : Signals S) → table_is_few (map_table f t) ≡ true → s ≡ signals_at t p → length s.incoming + length s.outgoing < 2 ^ 16
few_at f t p s few is =
    let seen : signals_few (map_signals f s) ≡ true = ap signals_few (at_seen f t p s is) ∙ few_in (map_table f t) p few in
    few_enough (length (map f s.incoming)) (length (map f s.outgoing)) (length s.incoming) (length s.outgoing) (length-map s.incoming f) (length-map s.outgoing f) seen

-- ---- the first of ports

pub first_seen : {S T : Type 0} (f : S → T) (t : SignalTable S) (ps : List PortEntry) (d : PortEntry) (s : Signals S) → s ≡ signals_at t (get_or ps 0 d) → map_signals f s ≡ signals_at (map_table f t) (get_or ps 0 d)
first_seen f t ps d s is = at_seen f t (get_or ps 0 d) s is

-- two bytes number its messages
pub first_few : {S T : Type 0} (f : S → T) (t : SignalTable S) (ps : List PortEntry) (d : PortEntry) (s : Signals S) → table_is_few (map_table f t) ≡ true → s ≡ signals_at t (get_or ps 0 d) → length s.incoming + length s.outgoing < 2 ^ 16
first_few f t ps d s few is = few_at f t (get_or ps 0 d) s few is
