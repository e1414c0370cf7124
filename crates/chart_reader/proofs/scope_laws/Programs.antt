-- Programs and conditions in two scopes that are seen alike.
use Rattle.std.proofs.Common.{◌≡◌, ℕ, Bool, cond, List, [], ◌∷◌, length, Option, Some, None, refl, ap, ◌∙◌}
use Rattle.std.specs.Prelude.{◌==◌, option_map, option_and_then}
use Rattle.room_kinds.specs.declared.number_type.NumberType.{NumberType}
use Rattle.room_kinds.specs.declared.number_type.NumberType.TheVariants as types
use Rattle.room_kinds.specs.declared.structure.ReferenceKind.{ReferenceKind}
use Rattle.room_ast.specs.declared.scope.Scope.{Scope}
use Rattle.room_ast.specs.declared.scope.ScopeAttribute.{ScopeAttribute}
use Rattle.room_ast.specs.declared.scope.ScopePort.{ScopePort}
use Rattle.room_ast.specs.declared.scope.ScopeReference.{ScopeReference}
use Rattle.room_ast.specs.declared.scope.ScopeSignal.{ScopeSignal}
use Rattle.room_ast.specs.Found.{found_attribute, found_port, found_reference, found_sent}
use Rattle.action_program.specs.declared.fault.ActionFault.{ActionFault}
use Rattle.action_program.specs.declared.fault.ActionFault.TheVariants as faults
use Rattle.action_program.specs.Named as named
use Rattle.action_program.specs.Numbered as numbered
use Rattle.action_lang.specs.action_check.Faults.{◌then◌, attribute_fault, expr_fault, steps_fault, index_fault, exprs_fault, can_send, takes_names, takes_verb, takes_import, message_fault, port_fault, send_fault, reference_fault, naming_fault, stmt_fault, stmts_fault, branches_fault, else_fault}
use Rattle.action_lang.specs.action_check.Numbering.{number, type_of, types_of, numbered_expr, numbered_steps, numbered_index, numbered_arguments, priority_of, sent, numbered_send, stmt_names, stmts_names, branches_names, numbered_stmt, numbered_stmts, numbered_branches, numbered_else}
use Rattle.action_lang.specs.action_check.ServiceNames.{number_of}
use Rattle.room_ast.specs.model_parts.Attributes.{ClassNumber}
use Rattle.check_scopes.specs.class_scopes.Views.{SignalView, PortView, ReferenceView, attribute_view, signal_view, port_view, reference_view, scope_view}
use Rattle.chart_reader.proofs.scope_laws.Found.{seen, Alike, through, attributes_alike, ports_alike, references_alike, sent_in, sent_seen}

-- ---- what is read off an answer

pub number_alike : {A V : Type 0} (v : A → V) (o p : Option (ℕ × A)) → Alike v o p → number o ≡ number p
number_alike {A} {V} v o p h = through v (number {A = A}) (number {A = V}) o p by h
  where
    by : (q : Option (ℕ × A)) → number q ≡ number (option_map (seen v) q)
    by None = refl
    by (Some x) = refl

kind_seen : Option (ℕ × ClassNumber) → NumberType
kind_seen None = types.Plain
kind_seen (Some a) = a.1.kind

type_alike : (o p : Option (ℕ × ScopeAttribute)) → Alike attribute_view o p → type_of o ≡ type_of p
unfolding kind_seen
type_alike o p h = through attribute_view type_of kind_seen o p by h
  where
    by : (q : Option (ℕ × ScopeAttribute)) → type_of q ≡ kind_seen (option_map (seen attribute_view) q)
    by None = refl
    by (Some x) = refl

types_seen : Option (ℕ × SignalView) → List NumberType
types_seen None = []
types_seen (Some m) = m.1.numbers

types_alike : (o p : Option (ℕ × ScopeSignal)) → Alike signal_view o p → types_of o ≡ types_of p
unfolding types_seen
types_alike o p h = through signal_view types_of types_seen o p by h
  where
    by : (q : Option (ℕ × ScopeSignal)) → types_of q ≡ types_seen (option_map (seen signal_view) q)
    by None = refl
    by (Some x) = refl

attribute_seen : Option (ℕ × ClassNumber) → Option ActionFault
attribute_seen None = Some faults.UnknownName
attribute_seen (Some a) = None

attribute_fault_alike : (o p : Option (ℕ × ScopeAttribute)) → Alike attribute_view o p → attribute_fault o ≡ attribute_fault p
unfolding attribute_seen
attribute_fault_alike o p h = through attribute_view attribute_fault attribute_seen o p by h
  where
    by : (q : Option (ℕ × ScopeAttribute)) → attribute_fault q ≡ attribute_seen (option_map (seen attribute_view) q)
    by None = refl
    by (Some x) = refl

reference_seen : (ReferenceKind → Bool) → Option (ℕ × ReferenceView) → Option ActionFault
reference_seen fits None = Some faults.UnknownName
reference_seen fits (Some r) = cond (fits r.1.kind) None (Some faults.UnknownName)

reference_fault_alike : (fits : ReferenceKind → Bool) (o p : Option (ℕ × ScopeReference)) → Alike reference_view o p → reference_fault fits o ≡ reference_fault fits p
unfolding reference_seen
reference_fault_alike fits o p h = through reference_view (reference_fault fits) (reference_seen fits) o p by h
  where
    by : (q : Option (ℕ × ScopeReference)) → reference_fault fits q ≡ reference_seen fits (option_map (seen reference_view) q)
    by None = refl
    by (Some x) = refl

naming_seen : Option (ℕ × PortView) → Option ActionFault
naming_seen None = Some faults.UnknownName
naming_seen (Some p) = cond (takes_names p.1.kind) None (Some faults.WrongPort)

naming_fault_alike : (o p : Option (ℕ × ScopePort)) → Alike port_view o p → naming_fault o ≡ naming_fault p
unfolding naming_seen
naming_fault_alike o p h = through port_view naming_fault naming_seen o p by h
  where
    by : (q : Option (ℕ × ScopePort)) → naming_fault q ≡ naming_seen (option_map (seen port_view) q)
    by None = refl
    by (Some x) = refl

sent_alike : (name : List ℕ) (o p : Option (ℕ × ScopePort)) → Alike port_view o p → Alike signal_view (option_and_then (λ (q : ℕ × ScopePort). found_sent q.1 name) o) (option_and_then (λ (q : ℕ × ScopePort). found_sent q.1 name) p)
sent_alike name o p h = through port_view (λ x. option_map (seen signal_view) (option_and_then (λ (q : ℕ × ScopePort). found_sent q.1 name) x)) (option_and_then (λ (q : ℕ × PortView). sent_in q.1 name)) o p by h
  where
    by : (x : Option (ℕ × ScopePort)) → option_map (seen signal_view) (option_and_then (λ (q : ℕ × ScopePort). found_sent q.1 name) x) ≡ option_and_then (λ (q : ℕ × PortView). sent_in q.1 name) (option_map (seen port_view) x)
    by None = refl
    by (Some q) = sent_seen q.1 name

then_same : {a b c d : Option ActionFault} → a ≡ b → c ≡ d → (a then c) ≡ (b then d)
then_same {a} {b} {c} {d} h k = ap (λ x. x then c) h ∙ ap (λ y. b then y) k

module _ (s t : Scope) (e : scope_view s ≡ scope_view t) where
  mutual
    pub expr_same : (x : named.ExprTree) → numbered_expr s x ≡ numbered_expr t x
    expr_same (named.a_number n) = refl
    expr_same named.the_true = refl
    expr_same named.the_false = refl
    expr_same (named.a_datum None) = refl
    expr_same (named.a_datum (Some k)) = refl
    expr_same named.the_place = refl
    expr_same named.the_self = refl
    expr_same (named.an_attribute path) = ap numbered.an_attribute (number_alike attribute_view _ _ (attributes_alike s t e path))
    expr_same (named.a_paren x) = expr_same x
    expr_same (named.a_unary op x) = ap (numbered.a_unary op) (expr_same x)
    expr_same (named.a_chain x steps) = ap (λ y. numbered.a_chain y (numbered_steps s steps)) (expr_same x) ∙ ap (numbered.a_chain (numbered_expr t x)) (steps_same steps)

    steps_same : (steps : named.Steps) → numbered_steps s steps ≡ numbered_steps t steps
    steps_same named.no_step = refl
    steps_same (named.a_step op x steps) = ap (λ y. numbered.a_step op y (numbered_steps s steps)) (expr_same x) ∙ ap (numbered.a_step op (numbered_expr t x)) (steps_same steps)

  mutual
    pub expr_fault_same : (x : named.ExprTree) → expr_fault s x ≡ expr_fault t x
    expr_fault_same (named.a_number n) = refl
    expr_fault_same named.the_true = refl
    expr_fault_same named.the_false = refl
    expr_fault_same (named.a_datum k) = refl
    expr_fault_same named.the_place = refl
    expr_fault_same named.the_self = refl
    expr_fault_same (named.an_attribute path) = attribute_fault_alike _ _ (attributes_alike s t e path)
    expr_fault_same (named.a_paren x) = expr_fault_same x
    expr_fault_same (named.a_unary op x) = expr_fault_same x
    expr_fault_same (named.a_chain x steps) = then_same (expr_fault_same x) (steps_fault_same steps)

    steps_fault_same : (steps : named.Steps) → steps_fault s steps ≡ steps_fault t steps
    steps_fault_same named.no_step = refl
    steps_fault_same (named.a_step op x steps) = then_same (expr_fault_same x) (steps_fault_same steps)

  index_same : (o : Option named.ExprTree) → numbered_index s o ≡ numbered_index t o
  index_same None = refl
  index_same (Some x) = expr_same x

  index_fault_same : (o : Option named.ExprTree) → index_fault s o ≡ index_fault t o
  index_fault_same None = refl
  index_fault_same (Some x) = expr_fault_same x

  arguments_same : (ts : List NumberType) (xs : List named.ExprTree) → numbered_arguments s ts xs ≡ numbered_arguments t ts xs
  arguments_same [] xs = refl
  arguments_same (k ∷ ts) [] = refl
  arguments_same (k ∷ ts) (x ∷ xs) = ap (λ y. record { kind = k; value = y } ∷ numbered_arguments s ts xs) (expr_same x) ∙ ap (λ ys. record { kind = k; value = numbered_expr t x } ∷ ys) (arguments_same ts xs)

  exprs_fault_same : (xs : List named.ExprTree) → exprs_fault s xs ≡ exprs_fault t xs
  exprs_fault_same [] = refl
  exprs_fault_same (x ∷ xs) = then_same (expr_fault_same x) (exprs_fault_same xs)

  -- ---- sends

  place_same : (o : Option named.ExprTree) → option_map (numbered_expr s) o ≡ option_map (numbered_expr t) o
  place_same None = refl
  place_same (Some x) = ap Some (expr_same x)

  sent_same : (x : named.SendTree) → Alike signal_view (sent s x) (sent t x)
  sent_same x = sent_alike x.signal (found_port s x.port) (found_port t x.port) (ports_alike s t e x.port)

  send_same : (x : named.SendTree) → numbered_send s x ≡ numbered_send t x
  send_same x =
      let port = number_alike port_view (found_port s x.port) (found_port t x.port) (ports_alike s t e x.port) in
      let place = place_same x.place in
      let signal = number_alike signal_view (sent s x) (sent t x) (sent_same x) in
      let arguments : numbered_arguments s (types_of (sent s x)) x.arguments ≡ numbered_arguments t (types_of (sent t x)) x.arguments = arguments_same (types_of (sent s x)) x.arguments ∙ ap (λ ts. numbered_arguments t ts x.arguments) (types_alike (sent s x) (sent t x) (sent_same x)) in
      made port place signal arguments
    where
      made : {a b : ℕ} {c d : Option numbered.ExprTree} {f g : ℕ} {h k : List numbered.ArgumentTree} → a ≡ b → c ≡ d → f ≡ g → h ≡ k → ◌≡◌ {A = numbered.SendTree} (record { port = a; place = c; signal = f; arguments = h; prio = priority_of x.prio }) (record { port = b; place = d; signal = g; arguments = k; prio = priority_of x.prio })
      made {a} {b} {c} {d} {f} {g} {h} {k} p q r w = ap (λ y. record { port = y; place = c; signal = f; arguments = h; prio = priority_of x.prio }) p ∙ ap (λ y. record { port = b; place = y; signal = f; arguments = h; prio = priority_of x.prio }) q ∙ ap (λ y. record { port = b; place = d; signal = y; arguments = h; prio = priority_of x.prio }) r ∙ ap (λ y. record { port = b; place = d; signal = g; arguments = y; prio = priority_of x.prio }) w

  message_same : (xs : List named.ExprTree) (o : Option (ℕ × ScopeSignal)) → message_fault s xs o ≡ message_fault t xs o
  message_same xs None = refl
  message_same xs (Some m) = ap (λ y. cond (length xs == length m.1.numbers.items) y (Some faults.WrongArgs)) (exprs_fault_same xs)

  port_same : (x : named.SendTree) (o : Option (ℕ × ScopePort)) → port_fault s x o ≡ port_fault t x o
  port_same x None = refl
  port_same x (Some p) = ap (λ y. cond (can_send p.1.kind) y (Some faults.WrongPort)) (then_same (index_fault_same x.place) (message_same x.arguments (found_sent p.1 x.signal)))

  message_seen : List named.ExprTree → Option (ℕ × SignalView) → Option ActionFault
  message_seen xs None = Some faults.WrongPort
  message_seen xs (Some m) = cond (length xs == length m.1.numbers) (exprs_fault t xs) (Some faults.WrongArgs)

  message_by : (xs : List named.ExprTree) (o : Option (ℕ × ScopeSignal)) → message_fault t xs o ≡ message_seen xs (option_map (seen signal_view) o)
  unfolding message_seen
  message_by xs None = refl
  message_by xs (Some m) = refl

  port_seen : named.SendTree → Option (ℕ × PortView) → Option ActionFault
  port_seen x None = Some faults.UnknownName
  port_seen x (Some p) = cond (can_send p.1.kind) (index_fault t x.place then message_seen x.arguments (sent_in p.1 x.signal)) (Some faults.WrongPort)

  port_by : (x : named.SendTree) (o : Option (ℕ × ScopePort)) → port_fault t x o ≡ port_seen x (option_map (seen port_view) o)
  unfolding port_seen
  port_by x None = refl
  port_by x (Some p) = ap (λ y. cond (can_send p.1.kind) (index_fault t x.place then y) (Some faults.WrongPort)) (message_by x.arguments (found_sent p.1 x.signal) ∙ ap (message_seen x.arguments) (sent_seen p.1 x.signal))

  send_fault_same : (x : named.SendTree) → send_fault s x ≡ send_fault t x
  send_fault_same x = port_same x (found_port s x.port) ∙ through port_view (port_fault t x) (port_seen x) (found_port s x.port) (found_port t x.port) (port_by x) (ports_alike s t e x.port)

  -- ---- statements

  mutual
    pub stmt_same : (names : List (List ℕ)) (x : named.StmtTree) → numbered_stmt s names x ≡ numbered_stmt t names x
    stmt_same names named.empty = refl
    stmt_same names (named.assign path x) =
        ap (λ n. numbered.assign n (type_of (found_attribute s path)) (numbered_expr s x)) (number_alike attribute_view _ _ (attributes_alike s t e path))
        ∙ ap (λ k. numbered.assign (number (found_attribute t path)) k (numbered_expr s x)) (type_alike _ _ (attributes_alike s t e path))
        ∙ ap (numbered.assign (number (found_attribute t path)) (type_of (found_attribute t path))) (expr_same x)
    stmt_same names (named.choose branches otherwise) =
        ap (λ y. numbered.choose y (numbered_else s (branches_names branches names) otherwise)) (branches_same names branches)
        ∙ ap (numbered.choose (numbered_branches t names branches)) (else_same (branches_names branches names) otherwise)
    stmt_same names (named.repeat n body) = ap (numbered.repeat n) (stmts_same names body)
    stmt_same names (named.send x) = ap numbered.send (send_same x)
    stmt_same names named.defer = refl
    stmt_same names named.recall = refl
    stmt_same names named.recall_all = refl
    stmt_same names (named.frame verb reference index) =
        ap (λ n. numbered.frame verb n (numbered_index s index)) (number_alike reference_view _ _ (references_alike s t e reference))
        ∙ ap (numbered.frame verb (number (found_reference t reference))) (index_same index)
    stmt_same names (named.import_at reference index id) =
        ap (λ n. numbered.import_at n (numbered_index s index) (numbered_expr s id)) (number_alike reference_view _ _ (references_alike s t e reference))
        ∙ ap (λ y. numbered.import_at (number (found_reference t reference)) y (numbered_expr s id)) (index_same index)
        ∙ ap (numbered.import_at (number (found_reference t reference)) (numbered_index t index)) (expr_same id)
    stmt_same names (named.register port name) = ap (λ n. numbered.register n (number_of names name)) (number_alike port_view _ _ (ports_alike s t e port))
    stmt_same names (named.withdraw port) = ap numbered.withdraw (number_alike port_view _ _ (ports_alike s t e port))

    pub stmts_same : (names : List (List ℕ)) (xs : named.Stmts) → numbered_stmts s names xs ≡ numbered_stmts t names xs
    stmts_same names named.no_stmt = refl
    stmts_same names (named.a_stmt x rest) =
        ap (λ y. numbered.a_stmt y (numbered_stmts s (stmt_names x names) rest)) (stmt_same names x)
        ∙ ap (numbered.a_stmt (numbered_stmt t names x)) (stmts_same (stmt_names x names) rest)

    branches_same : (names : List (List ℕ)) (xs : named.Branches) → numbered_branches s names xs ≡ numbered_branches t names xs
    branches_same names named.no_branch = refl
    branches_same names (named.a_branch x body rest) =
        ap (λ y. numbered.a_branch y (numbered_stmts s names body) (numbered_branches s (stmts_names body names) rest)) (expr_same x)
        ∙ ap (λ y. numbered.a_branch (numbered_expr t x) y (numbered_branches s (stmts_names body names) rest)) (stmts_same names body)
        ∙ ap (numbered.a_branch (numbered_expr t x) (numbered_stmts t names body)) (branches_same (stmts_names body names) rest)

    else_same : (names : List (List ℕ)) (o : named.Otherwise) → numbered_else s names o ≡ numbered_else t names o
    else_same names named.no_else = refl
    else_same names (named.an_else body) = stmts_same names body

  mutual
    stmt_fault_same : (x : named.StmtTree) → stmt_fault s x ≡ stmt_fault t x
    stmt_fault_same named.empty = refl
    stmt_fault_same (named.assign path x) = then_same (attribute_fault_alike _ _ (attributes_alike s t e path)) (expr_fault_same x)
    stmt_fault_same (named.choose branches otherwise) = then_same (branches_fault_same branches) (else_fault_same otherwise)
    stmt_fault_same (named.repeat n body) = stmts_fault_same body
    stmt_fault_same (named.send x) = send_fault_same x
    stmt_fault_same named.defer = refl
    stmt_fault_same named.recall = refl
    stmt_fault_same named.recall_all = refl
    stmt_fault_same (named.frame verb reference index) = then_same (reference_fault_alike (takes_verb verb) _ _ (references_alike s t e reference)) (index_fault_same index)
    stmt_fault_same (named.import_at reference index id) = then_same (reference_fault_alike takes_import _ _ (references_alike s t e reference)) (then_same (index_fault_same index) (expr_fault_same id))
    stmt_fault_same (named.register port name) = naming_fault_alike _ _ (ports_alike s t e port)
    stmt_fault_same (named.withdraw port) = naming_fault_alike _ _ (ports_alike s t e port)

    pub stmts_fault_same : (xs : named.Stmts) → stmts_fault s xs ≡ stmts_fault t xs
    stmts_fault_same named.no_stmt = refl
    stmts_fault_same (named.a_stmt x rest) = then_same (stmt_fault_same x) (stmts_fault_same rest)

    branches_fault_same : (xs : named.Branches) → branches_fault s xs ≡ branches_fault t xs
    branches_fault_same named.no_branch = refl
    branches_fault_same (named.a_branch x body rest) = then_same (expr_fault_same x) (then_same (stmts_fault_same body) (branches_fault_same rest))

    else_fault_same : (o : named.Otherwise) → else_fault s o ≡ else_fault t o
    else_fault_same named.no_else = refl
    else_fault_same (named.an_else body) = stmts_fault_same body
