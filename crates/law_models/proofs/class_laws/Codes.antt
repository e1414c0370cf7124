-- The programs, conditions and triggers of a class's text name what the class has.
use Rattle.std.proofs.Common.{◌≡◌, ℕ, Bool, true, false, cond, pos, List, [], ◌∷◌, map, Option, Some, None, option_map, slice_get, refl, subst}
use Rattle.std.specs.Prelude.{option_and_then, is_none, is_some, unwrap_or}
use Rattle.std.specs.List.{AllByRecursion as Each, list_all}
use Rattle.std.specs.Option.{option_map_or}
use Rattle.std.proofs.lemmas.Bool.{and_parts}
use Rattle.std.proofs.lemmas.Option.{cond_some, option_and_then_some}
use Rattle.room_ast.specs.declared.chart.Code.{Code}
use Rattle.room_ast.specs.declared.chart.Event.{Event as EventTree}
use Rattle.room_ast.specs.declared.chart.Trigger.{Trigger as TriggerTree}
use Rattle.room_ast.specs.declared.scope.Scope.{Scope}
use Rattle.room_ast.specs.declared.scope.ScopePort.{ScopePort}
use Rattle.room_ast.specs.declared.scope.ScopeSignal.{ScopeSignal}
use Rattle.room_ast.specs.Found.{same_name, found_port, found_received}
use Rattle.room_wiring.specs.declared.names.ClassNames.{ClassNames}
use Rattle.room_tokens.specs.Reader.{to_end}
use Rattle.room_tokens.specs.action_tokens.Values.{action_values}
use Rattle.action_program.specs.declared.fault.ActionFault.{ActionFault}
use Rattle.action_program.specs.Named as named
use Rattle.action_program.specs.Numbered as numbered
use Rattle.action_parse.specs.action_reading.Written.{AreStmts, repeats_within}
use Rattle.action_parse.specs.action_reading.StmtReading.{stmts_at, statement}
use Rattle.action_parse.proofs.action_reading.Whole.{program_fits}
use Rattle.action_lang.specs.action_check.Faults.{expr_fault, stmts_fault}
use Rattle.action_lang.specs.action_check.Numbering.{numbered_expr, numbered_stmts}
use Rattle.chart_model.specs.Chart.{Event}
use Rattle.chart_trees.specs.chart_codes.Codes.{code_bytes, limited, program_of, condition_of, bound_condition, guard_of, bound_of, action_of}
use Rattle.chart_trees.specs.chart_codes.Events.{takes_messages, message_name, event_at, event_of, event_fits, no_event, events, events_fit, trigger_of}
use Rattle.law_models.specs.class_laws.Programs.{CanReceive, ExpressionNames, IfAnyNames, ProgramNames, TriggerNames}
use Rattle.law_models.proofs.class_laws.Scopes.{IsScopeOf, found_number, received_found}
use Rattle.law_models.proofs.class_laws.Named.{numbers_in, expression_named, program_named}

-- the program of a text is well formed
pub program_is : (bytes : List ℕ) (p : named.Stmts) → program_of bytes ≡ Some p → AreStmts p
unfolding program_of
program_is bytes p e =
    option_and_then_some (λ ts. option_and_then limited (to_end (stmts_at (statement 64)) ts)) (action_values bytes) p e
    (λ ts at is. option_and_then_some limited (to_end (stmts_at (statement 64)) ts) p is
    (λ t read fits. subst AreStmts (cond_some (repeats_within t 2) t p fits).1 (program_fits 64 ts t read).0))

module _ (scope : Scope) (c : ClassNames) (fits : IsScopeOf scope c) where
  -- ---- actions and guards

  pub action_named : (names : Option (List (List ℕ))) (code : Option Code) → ProgramNames c (numbers_in scope) (action_of scope names code)
  action_named None None = tt
  action_named (Some names) None = tt
  action_named None (Some code) = tt
  action_named (Some names) (Some code) = by_program (program_of (code_bytes code)) refl
    where
      bound : (p : named.Stmts) → AreStmts p → (f : Option ActionFault) → stmts_fault scope p ≡ f
          → ProgramNames c (numbers_in scope) (cond (is_none f) (numbered_stmts scope names p) numbered.no_stmt)
      bound p formed None e = program_named scope c fits names p formed e
      bound p formed (Some f) e = tt

      by_program : (o : Option named.Stmts) → program_of (code_bytes code) ≡ o → ProgramNames c (numbers_in scope) (option_map_or (bound_of scope names) o numbered.no_stmt)
      by_program None e = tt
      by_program (Some p) e = bound p (program_is (code_bytes code) p e) (stmts_fault scope p) refl

  pub guard_named : (code : Option Code) → IfAnyNames (numbers_in scope) (guard_of scope code)
  guard_named None = tt
  guard_named (Some code) = by_condition (condition_of (code_bytes code))
    where
      bound : (e : named.ExprTree) (f : Option ActionFault) → expr_fault scope e ≡ f
          → ExpressionNames (numbers_in scope) (unwrap_or (cond (is_none f) (Some (numbered_expr scope e)) None) (numbered.a_number (pos 0)))
      bound e None h = expression_named scope c fits e h
      bound e (Some f) h = tt

      by_condition : (o : Option named.ExprTree) → ExpressionNames (numbers_in scope) (unwrap_or (option_and_then (bound_condition scope) o) (numbered.a_number (pos 0)))
      by_condition None = tt
      by_condition (Some e) = bound e (expr_fault scope e) refl

  -- ---- triggers

  event_named : (e : EventTree) → event_fits scope e ≡ true → CanReceive c (event_of scope e)
  event_named e h = by_port (found_port scope e.port) refl h
    where
      received : (p : ℕ × ScopePort) → slice_get scope.ports.items p.0 ≡ Some p.1 → takes_messages p.1.kind ≡ true
          → (m : Option (ℕ × ScopeSignal)) → found_received p.1 (message_name e.message) ≡ m
          → is_some (option_map (λ (s : ℕ × ScopeSignal). let made : Event = record { port = p.0; signal = s.0 } in made) m) ≡ true
          → CanReceive c (unwrap_or (option_map (λ (s : ℕ × ScopeSignal). let made : Event = record { port = p.0; signal = s.0 } in made) m) no_event)
      received p at takes None is k = absurd cc
      received p at takes (Some m) is k =
          let x = fits.ports p.0 p.1 at in
          let y = received_found p.1 x.0 x.2 (message_name e.message) m is in
          record {
            names = x.0;
            has = record { is = x.1; kind = subst (λ q. takes_messages q ≡ true) x.2.kind takes };
            received = y.0;
            comes = y.1;
          }

      by_kind : (p : ℕ × ScopePort) → slice_get scope.ports.items p.0 ≡ Some p.1 → (b : Bool) → takes_messages p.1.kind ≡ b
          → is_some (cond b (option_map (λ (s : ℕ × ScopeSignal). let made : Event = record { port = p.0; signal = s.0 } in made) (found_received p.1 (message_name e.message))) None) ≡ true
          → CanReceive c (unwrap_or (cond b (option_map (λ (s : ℕ × ScopeSignal). let made : Event = record { port = p.0; signal = s.0 } in made) (found_received p.1 (message_name e.message))) None) no_event)
      by_kind p at true takes k = received p at takes (found_received p.1 (message_name e.message)) refl k
      by_kind p at false takes k = absurd cc

      by_port : (o : Option (ℕ × ScopePort)) → found_port scope e.port ≡ o → is_some (event_at (message_name e.message) o) ≡ true
          → CanReceive c (unwrap_or (event_at (message_name e.message) o) no_event)
      by_port None is k = absurd cc
      by_port (Some p) is k = by_kind p (found_number (λ (a : ScopePort). same_name a.name e.port) scope.ports.items p is) (takes_messages p.1.kind) refl k

  events_named : (es : List EventTree) → list_all (event_fits scope) es ≡ true → Each (CanReceive c) (map (event_of scope) es)
  events_named [] h = tt
  events_named (e ∷ es) h = let both = and_parts (event_fits scope e) (list_all (event_fits scope) es) h in (event_named e both.0, events_named es both.1)

  pub triggers_named : (ts : List TriggerTree) → events_fit scope ts ≡ true → Each (TriggerNames c (numbers_in scope)) (map (trigger_of scope) ts)
  triggers_named [] h = tt
  triggers_named (t ∷ ts) h =
      let both = and_parts (list_all (event_fits scope) (events t)) (events_fit scope ts) h in
      (record { events = events_named (events t) both.0; guard = guard_named t.guard }, triggers_named ts both.1)
