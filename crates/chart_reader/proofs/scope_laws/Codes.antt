-- Codes and events in two scopes that are seen alike.
use Rattle.std.proofs.Common.{◌≡◌, ℕ, Bool, false, cond, List, map, Option, Some, None, refl, ap, ◌∙◌}
use Rattle.std.specs.Prelude.{pos, option_map, option_and_then, unwrap_or, is_none, is_some}
use Rattle.std.specs.List.{list_all}
use Rattle.std.specs.Option.{option_map_or}
use mathlib.Core.Path.{fun_ext}
use Rattle.room_ast.specs.declared.chart.Code.{Code}
use Rattle.room_ast.specs.declared.chart.Event.{Event as EventTree}
use Rattle.room_ast.specs.declared.chart.Trigger.{Trigger as TriggerTree}
use Rattle.room_ast.specs.declared.chart.Triggers.{Triggers}
use Rattle.room_ast.specs.declared.scope.Scope.{Scope}
use Rattle.room_ast.specs.declared.scope.ScopePort.{ScopePort}
use Rattle.room_ast.specs.declared.scope.ScopeSignal.{ScopeSignal}
use Rattle.room_ast.specs.Found.{found_port, found_received}
use Rattle.action_program.specs.Named as named
use Rattle.action_program.specs.Numbered as numbered
use Rattle.action_lang.specs.action_check.Faults.{expr_fault, stmts_fault}
use Rattle.action_lang.specs.action_check.Numbering.{numbered_expr, numbered_stmts, stmts_names}
use Rattle.chart_model.specs.chart_plan.Plan.{Trigger}
use Rattle.chart_model.specs.Chart.{Event}
use Rattle.chart_trees.specs.chart_codes.Codes.{code_bytes, program_of, condition_of, bound_condition, condition_in, guard_of, guard_fits, bound_of, names_bound, action_of, names_after}
use Rattle.chart_trees.specs.chart_codes.Events.{takes_messages, message_name, event_at, event_in, event_of, event_fits, no_event, events, trigger_of, triggers_of, trigger_list, events_fit, guards_fit}
use Rattle.chart_trees.specs.chart_codes.Progress.{Progress, after_action, after_guard, after_triggers}
use Rattle.check_scopes.specs.class_scopes.Views.{PortView, signal_view, port_view, scope_view}
use Rattle.chart_reader.proofs.scope_laws.Found.{seen, through, ports_alike, received_in, received_seen}
use Rattle.chart_reader.proofs.scope_laws.Programs.{expr_same, expr_fault_same, stmts_same, stmts_fault_same}

module _ (s t : Scope) (e : scope_view s ≡ scope_view t) where
  -- ---- conditions and programs

  bound_condition_same : (x : named.ExprTree) → bound_condition s x ≡ bound_condition t x
  bound_condition_same x = ap (λ o. cond (is_none o) (Some (numbered_expr s x)) None) (expr_fault_same s t e x) ∙ ap (λ y. cond (is_none (expr_fault t x)) (Some y) None) (expr_same s t e x)

  condition_same : (code : Code) → condition_in s code ≡ condition_in t code
  condition_same code = ap (λ f. option_and_then f (condition_of (code_bytes code))) (fun_ext bound_condition_same)

  pub guard_same : (o : Option Code) → guard_of s o ≡ guard_of t o
  guard_same None = refl
  guard_same (Some code) = ap (λ o. Some (unwrap_or o (numbered.a_number (pos 0)))) (condition_same code)

  guard_fits_same : (o : Option Code) → guard_fits s o ≡ guard_fits t o
  guard_fits_same None = refl
  guard_fits_same (Some code) = ap is_some (condition_same code)

  bound_same : (names : List (List ℕ)) (p : named.Stmts) → bound_of s names p ≡ bound_of t names p
  bound_same names p = ap (λ o. cond (is_none o) (numbered_stmts s names p) numbered.no_stmt) (stmts_fault_same s t e p) ∙ ap (λ y. cond (is_none (stmts_fault t p)) y numbered.no_stmt) (stmts_same s t e names p)

  names_bound_same : (names : List (List ℕ)) (p : named.Stmts) → names_bound s names p ≡ names_bound t names p
  names_bound_same names p = ap (λ o. cond (is_none o) (Some (stmts_names p names)) None) (stmts_fault_same s t e p)

  pub action_same : (names : Option (List (List ℕ))) (o : Option Code) → action_of s names o ≡ action_of t names o
  action_same None None = refl
  action_same (Some names) None = refl
  action_same None (Some code) = refl
  action_same (Some names) (Some code) = ap (λ f. option_map_or f (program_of (code_bytes code)) numbered.no_stmt) (fun_ext (bound_same names))

  names_after_same : (names : Option (List (List ℕ))) (o : Option Code) → names_after s names o ≡ names_after t names o
  names_after_same None None = refl
  names_after_same (Some names) None = refl
  names_after_same None (Some code) = refl
  names_after_same (Some names) (Some code) = ap (λ f. option_and_then f (program_of (code_bytes code))) (fun_ext (names_bound_same names))

  -- ---- events

  abbrev signal_numbered : {A : Type 0} → ℕ → Option (ℕ × A) → Option Event
  signal_numbered port o = option_map (λ x. record { port = port; signal = x.0 }) o

  event_seen : List ℕ → Option (ℕ × PortView) → Option Event
  event_seen message None = None
  event_seen message (Some p) = cond (takes_messages p.1.kind) (signal_numbered p.0 (received_in p.1 message)) None

  numbered_seen : (port : ℕ) (o : Option (ℕ × ScopeSignal)) → signal_numbered port o ≡ signal_numbered port (option_map (seen signal_view) o)
  numbered_seen port None = refl
  numbered_seen port (Some x) = refl

  event_by : (message : List ℕ) (o : Option (ℕ × ScopePort)) → event_at message o ≡ event_seen message (option_map (seen port_view) o)
  unfolding event_seen
  event_by message None = refl
  event_by message (Some p) = ap (λ o. cond (takes_messages p.1.kind) o None) (numbered_seen p.0 (found_received p.1 message) ∙ ap (signal_numbered p.0) (received_seen p.1 message))

  event_in_same : (x : EventTree) → event_in s x ≡ event_in t x
  event_in_same x = through port_view (event_at (message_name x.message)) (event_seen (message_name x.message)) (found_port s x.port) (found_port t x.port) (event_by (message_name x.message)) (ports_alike s t e x.port)

  event_of_same : (x : EventTree) → event_of s x ≡ event_of t x
  event_of_same x = ap (λ o. unwrap_or o no_event) (event_in_same x)

  event_fits_same : (x : EventTree) → event_fits s x ≡ event_fits t x
  event_fits_same x = ap is_some (event_in_same x)

  -- ---- triggers

  trigger_made : {a b : List Event} {c d : Option numbered.ExprTree} → a ≡ b → c ≡ d → ◌≡◌ {A = Trigger Event numbered.ExprTree} (record { events = a; guard = c }) (record { events = b; guard = d })
  trigger_made {a} {b} {c} {d} p q = ap (λ x. record { events = x; guard = c }) p ∙ ap (λ y. record { events = b; guard = y }) q

  trigger_same : (x : TriggerTree) → trigger_of s x ≡ trigger_of t x
  trigger_same x = trigger_made (ap (λ f. map f (events x)) (fun_ext event_of_same)) (guard_same x.guard)

  pub triggers_same : (ts : Option Triggers) → triggers_of s ts ≡ triggers_of t ts
  triggers_same ts = ap (λ f. map f (trigger_list ts)) (fun_ext trigger_same)

  events_fit_same : (ts : List TriggerTree) → events_fit s ts ≡ events_fit t ts
  events_fit_same ts = ap (λ f. list_all (λ (x : TriggerTree). list_all f (events x)) ts) (fun_ext event_fits_same)

  guards_fit_same : (ts : List TriggerTree) → guards_fit s ts ≡ guards_fit t ts
  guards_fit_same ts = ap (λ f. list_all (λ (x : TriggerTree). f x.guard) ts) (fun_ext guard_fits_same)

  -- ---- how far reading has come

  progress_made : {a b : Bool} {c d : Option (List (List ℕ))} → a ≡ b → c ≡ d → ◌≡◌ {A = Progress} (record { events_fit = a; names = c }) (record { events_fit = b; names = d })
  progress_made {a} {b} {c} {d} p q = ap (λ x. record { events_fit = x; names = c }) p ∙ ap (λ y. record { events_fit = b; names = y }) q

  pub after_action_same : (p : Progress) (o : Option Code) → after_action s p o ≡ after_action t p o
  after_action_same p o = progress_made refl (names_after_same p.names o)

  pub after_guard_same : (p : Progress) (o : Option Code) → after_guard s p o ≡ after_guard t p o
  after_guard_same p o = progress_made refl (ap (λ b. cond b p.names None) (guard_fits_same o))

  pub after_triggers_same : (p : Progress) (ts : List TriggerTree) → after_triggers s p ts ≡ after_triggers t p ts
  after_triggers_same p ts = progress_made (ap (λ b. cond b p.events_fit false) (events_fit_same ts)) (ap (λ b. cond b p.names None) (guards_fit_same ts))
