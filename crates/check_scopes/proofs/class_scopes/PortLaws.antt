-- Ports with their messages.
use Rattle.std.proofs.Common.{◌≡◌, ℕ, suc, ◌+◌, ◌-◌, ◌<◌, ◌≤◌, List, [], ◌∷◌, ◌++◌, length, take, drop, get_or, map, Bor, refl, sym, ap, ◌∙◌, arith, append_assoc}
use Rattle.std.specs.List.{zip}
use Rattle.std.proofs.lemmas.List.{map-append, append-nil, take_all}
use Rattle.name_tables.specs.name_numbers.Names.{names_of}
use Rattle.room_ast.specs.declared.scope.ScopePort.{ScopePort}
use Rattle.room_ast.specs.declared.model_parts.entries.PortEntry.{PortEntry}
use Rattle.check_scopes.specs.declared.class_scopes.signals.Signals.{Signals}
use Rattle.check_scopes.specs.declared.class_scopes.signals.SignalTable.{SignalTable}
use Rattle.check_scopes.specs.class_scopes.Scopes.{port_with, ports_in}
use Rattle.check_scopes.specs.class_scopes.Signals.{signals_at}
use Rattle.check_scopes.specs.class_scopes.Views.{SignalView, PortView, port_view}

pub no_zip : {X Y : Type 0} (xs : List X) (ys : List Y) → length ys < 1 → zip xs ys ≡ []
no_zip [] ys lt = refl
no_zip (x ∷ xs) [] lt = refl
no_zip (x ∷ xs) (y ∷ ys) lt = absurd (omega arith)

-- without entries there are no more ports
pub no_entries : (table : SignalTable SignalView) (names : List (List ℕ)) (entries : List PortEntry) → length entries < 1 → ports_in table names entries ≡ []
no_entries table names entries lt = ap (map (λ (x : List ℕ × PortEntry). port_with x.0 x.1 (signals_at table x.1))) (no_zip names entries lt)

ports_first : (table : SignalTable SignalView) (ns : List (Bor (List ℕ))) (es : List PortEntry) (d : Bor (List ℕ)) (de : PortEntry) → 1 ≤ length ns → 1 ≤ length es
    → ports_in table (names_of ns) es ≡ port_with (get_or ns 0 d).now (get_or es 0 de) (signals_at table (get_or es 0 de)) ∷ ports_in table (names_of (take (length ns - 1) (drop 1 ns))) (take (length es - 1) (drop 1 es))
ports_first table [] es d de some more = absurd (omega arith)
ports_first table (n ∷ ns) [] d de some more = absurd (omega arith)
ports_first table (n ∷ ns) (e ∷ es) d de some more =
    ap (λ xs. port_with n.now e (signals_at table e) ∷ ports_in table (names_of xs) es) (sym (take_all (suc (length ns) - 1) ns (omega arith)))
    ∙ ap (λ xs. port_with n.now e (signals_at table e) ∷ ports_in table (names_of (take (suc (length ns) - 1) ns)) xs) (sym (take_all (suc (length es) - 1) es (omega arith)))

-- one more port
pub more_ports : (table : SignalTable SignalView) (ns : List (Bor (List ℕ))) (es : List PortEntry) (d : Bor (List ℕ)) (de : PortEntry) (ports new : List ScopePort) (port : ScopePort) (signals : Signals SignalView) (all : List PortView) → 1 ≤ length ns → 1 ≤ length es
    → map port_view ports ++ ports_in table (names_of ns) es ≡ all → signals ≡ signals_at table (get_or es 0 de) → port_view port ≡ port_with (get_or ns 0 d).now (get_or es 0 de) signals → new ≡ ports ++ port ∷ []
    → map port_view new ++ ports_in table (names_of (take (length ns - 1) (drop 1 ns))) (take (length es - 1) (drop 1 es)) ≡ all
more_ports table ns es d de ports new port signals all some more so_far these is e =
    let rest : List PortView = ports_in table (names_of (take (length ns - 1) (drop 1 ns))) (take (length es - 1) (drop 1 es)) in
    ap (λ ps. map port_view ps ++ rest) e ∙ ap (λ ps. ps ++ rest) (map-append port_view ports (port ∷ [])) ∙ append_assoc (map port_view ports) (port_view port ∷ []) rest
    ∙ ap (λ p. map port_view ports ++ (p ∷ rest)) (is ∙ ap (port_with (get_or ns 0 d).now (get_or es 0 de)) these) ∙ ap (λ ps. map port_view ports ++ ps) (sym (ports_first table ns es d de some more)) ∙ so_far

-- without names there are no more ports
pub all_ports : (table : SignalTable SignalView) (ns : List (Bor (List ℕ))) (es : List PortEntry) (ports : List ScopePort) (all : List PortView) → length ns < 1 → map port_view ports ++ ports_in table (names_of ns) es ≡ all → map port_view ports ≡ all
all_ports table [] es ports all none so_far = sym (append-nil (map port_view ports)) ∙ so_far
all_ports table (n ∷ ns) es ports all none so_far = absurd (omega arith)
