-- The tokens of a tree are accepted.
use Rattle.std.proofs.Common.{◌≡◌, ℕ, ◌≤◌, true, false, List, [], ◌∷◌, ◌++◌, Option, Some, None, refl, sym, ap, ◌∙◌, subst, append_assoc, append-nil, arith}
use Rattle.room_kinds.specs.declared.numbers.Priority.{Priority}
use Rattle.room_lexer.specs.declared.token.Mark.{Mark}
use Rattle.room_lexer.specs.declared.token.Mark.TheVariants as marks
use Rattle.room_ast.specs.Tokens.{each}
use Rattle.room_tokens.specs.Reader.{◌⊕◌, reads_as}
use Rattle.room_tokens.proofs.Readers.{Reads, Reads-⊕, Reads-as, Anything}
use Rattle.room_tokens.specs.action_tokens.Values.{Value, AWord, AName, ANumber, AMark}
use Rattle.room_tokens.specs.action_tokens.Single.{comes, comes_word, mark, name_at, number_at}
use Rattle.room_tokens.specs.declared.action_tokens.word.ActionWord.TheVariants as words
use Rattle.room_tokens.proofs.action_tokens.Singles.{comes_here, mark_reads, name_reads}
use Rattle.action_program.specs.Named.{ExprTree, a_number, the_true, the_false, a_datum, the_place, the_self, an_attribute, a_paren, a_unary, a_chain, Steps, no_step, a_step, SendTree, StmtTree, empty, assign, choose, repeat, send, defer, recall, recall_all, frame, import_at, register, withdraw, Stmts, no_stmt, a_stmt, Branches, no_branch, a_branch, Otherwise, no_else, an_else}
use Rattle.action_program.specs.declared.operator.UnaryOp.{UnaryOp}
use Rattle.action_program.specs.declared.operator.UnaryOp.TheVariants as unary
use Rattle.action_program.specs.declared.operator.BinaryOp.{BinaryOp}
use Rattle.action_program.specs.declared.operator.FrameVerb.{FrameVerb}
use Rattle.action_program.specs.declared.operator.FrameVerb.TheVariants as verbs
use Rattle.action_parse.specs.action_reading.Tokens.{operator_mark, part, expr_tokens, steps_tokens, index_tokens, arguments_tokens, prio_tokens, stmt_tokens, stmts_tokens, more_tokens, else_tokens}
use Rattle.action_parse.specs.action_reading.Written.{AtLevel, StepsAt, IsExpr, IsIndex, AreExprs, IsPrio, IsStmt, AreStmts, AreBranches, IsElse, expr_nesting}
use Rattle.action_parse.specs.action_reading.ExprReading.{operator_comes, path_at, level, operand}
use Rattle.action_parse.specs.action_reading.StmtReading.{is_send, else_if_comes, goes_on}
use Rattle.action_parse.proofs.action_reading.ExprAgain.{operator_again, op_no_dot, op_no_bracket, path_again, expr_back}
use Rattle.action_parse.proofs.action_reading.StmtSound.{block_tokens, branch_tokens}
use Rattle.action_parse.proofs.action_reading.StmtAgain.{prio_again, register_again, withdraw_again, sends, assigns, expr_opens, stmts_no_else, grouped}
use Rattle.action_parse.specs.declared.goal.Goal.{Goal}
use Rattle.action_parse.specs.declared.goal.Goal.TheVariants as goals
use Rattle.action_parse.specs.declared.goal.Goal.TheVariants.{Take, Prio, Index, Message, Operand, Operators, Arguments, Statements}
use Rattle.action_parse.specs.Expected.{and_block, and_branch, ends_message, if_message, message_goals, operand_goals, otherwise_goals, named_goals, statements_goals, Accepted, done, goes}
use Rattle.action_parse.proofs.Derived.{comma_text, message_text}

along : (gs : List Goal) (ts us : List Value) → ts ≡ us → Accepted gs us → Accepted gs ts
along gs ts us e a = subst (λ (vs : List Value). Accepted gs vs) (sym e) a

take_in : (m : Mark) (gs : List Goal) (rest : List Value) → Accepted gs rest → Accepted (Take m ∷ gs) (AMark m ∷ rest)
take_in m gs rest a = goes (Take m) [] gs (AMark m ∷ rest) rest ((Reads-as (λ (x : Unit {0}). []) (mark_reads m)).again rest tt) a

-- ---- expressions

-- neither a dot nor a bracket comes
record Ends (rest : List Value) : Type 0 where
  no_dot : comes marks.Dot rest ≡ false
  no_bracket : comes marks.OpenBracket rest ≡ false

-- and no operator
record Stops (rest : List Value) : Type 0 where
  ends : Ends rest
  no_operator : operator_comes rest ≡ false

module _ (rest : List Value) where
  close_stops : Stops (AMark marks.CloseParen ∷ rest)
  unfolding operator_comes comes
  close_stops = record { ends = record { no_dot = refl; no_bracket = refl }; no_operator = refl }

  bracket_stops : Stops (AMark marks.CloseBracket ∷ rest)
  unfolding operator_comes comes
  bracket_stops = record { ends = record { no_dot = refl; no_bracket = refl }; no_operator = refl }

  comma_stops : Stops (AMark marks.Comma ∷ rest)
  unfolding operator_comes comes
  comma_stops = record { ends = record { no_dot = refl; no_bracket = refl }; no_operator = refl }

  end_stops : Stops (AMark marks.Semicolon ∷ rest)
  unfolding operator_comes comes
  end_stops = record { ends = record { no_dot = refl; no_bracket = refl }; no_operator = refl }

nothing_stops : Stops []
unfolding operator_comes comes
nothing_stops = record { ends = record { no_dot = refl; no_bracket = refl }; no_operator = refl }

stop_in : (gs : List Goal) (rest : List Value) → operator_comes rest ≡ false → Accepted gs rest → Accepted (Operators ∷ gs) rest
stop_in gs rest off a = goes Operators [] gs rest rest (rw off refl) a

operand_back : (e : ExprTree) (rest : List Value) → AtLevel e 0 → expr_nesting e ≤ 0 → Ends rest → operand 0 (expr_tokens e ++ rest) ≡ Some (e, rest)
unfolding level
operand_back e rest at flat ends = expr_back e 0 0 rest at flat (record { no_op = λ j lt. absurd (omega arith); no_dot = ends.no_dot; no_bracket = ends.no_bracket })

abbrev OneIn : ExprTree → Type 0
OneIn e = (gs : List Goal) (rest : List Value) → AtLevel e 0 → Ends rest → Accepted gs rest → Accepted (Operand ∷ gs) (expr_tokens e ++ rest)

abbrev ExprIn : ExprTree → Type 0
ExprIn e = (k : ℕ) (gs : List Goal) (rest : List Value) → AtLevel e k → Ends rest → Accepted (Operators ∷ gs) rest → Accepted (Operand ∷ Operators ∷ gs) (expr_tokens e ++ rest)

abbrev StepsIn : Steps → Type 0
StepsIn steps = (j : ℕ) (gs : List Goal) (rest : List Value) → StepsAt steps j → Ends rest → Accepted (Operators ∷ gs) rest → Accepted (Operators ∷ gs) (steps_tokens steps ++ rest)

atom_in : (e : ExprTree) (gs : List Goal) (rest : List Value) → AtLevel e 0 → expr_nesting e ≤ 0 → Ends rest → operand_goals (expr_tokens e ++ rest) ≡ reads_as (λ x. []) (operand 0) (expr_tokens e ++ rest) → Accepted gs rest → Accepted (Operand ∷ gs) (expr_tokens e ++ rest)
atom_in e gs rest at flat ends same a =
    let read : operand 0 (expr_tokens e ++ rest) ≡ Some (e, rest) = operand_back e rest at flat ends in
    let found : reads_as (λ (x : ExprTree). []) (operand 0) (expr_tokens e ++ rest) ≡ Some ([], rest) = rw read refl in
    goes Operand [] gs (expr_tokens e ++ rest) rest (same ∙ found) a

path_in : (path : List (List ℕ)) → OneIn (an_attribute path)
unfolding operand_goals
path_in [] gs rest at ends a = absurd at
path_in (n ∷ ns) gs rest at ends a = atom_in (an_attribute (n ∷ ns)) gs rest at (omega arith) ends refl a

atoms_in : (e : ExprTree) → OneIn e → (k : ℕ) → (AtLevel e k → AtLevel e 0) → (gs : List Goal) (rest : List Value) → AtLevel e k → Ends rest → Accepted (Operators ∷ gs) rest → Accepted (Operand ∷ Operators ∷ gs) (expr_tokens e ++ rest)
atoms_in e one k down gs rest at ends a = one (Operators ∷ gs) rest (down at) ends a

whole_in : (e : ExprTree) → ExprIn e → (gs : List Goal) (rest : List Value) → IsExpr e → Stops rest → Accepted gs rest → Accepted (Operand ∷ Operators ∷ gs) (expr_tokens e ++ rest)
whole_in e expr gs rest is stops a = expr 5 gs rest is stops.ends (stop_in gs rest stops.no_operator a)

paren_in : (e : ExprTree) → ExprIn e → OneIn (a_paren e)
unfolding operand_goals
paren_in e expr gs rest at ends a =
    let closed = take_in marks.CloseParen gs rest a in
    let inner = whole_in e expr (Take marks.CloseParen ∷ gs) (AMark marks.CloseParen ∷ rest) at (close_stops rest) closed in
    goes Operand (Operand ∷ Operators ∷ Take marks.CloseParen ∷ []) gs (AMark marks.OpenParen ∷ ((expr_tokens e ++ (AMark marks.CloseParen ∷ [])) ++ rest)) ((expr_tokens e ++ (AMark marks.CloseParen ∷ [])) ++ rest) refl
    (along (Operand ∷ Operators ∷ Take marks.CloseParen ∷ gs) ((expr_tokens e ++ (AMark marks.CloseParen ∷ [])) ++ rest) (expr_tokens e ++ (AMark marks.CloseParen ∷ rest)) (append_assoc (expr_tokens e) (AMark marks.CloseParen ∷ []) rest) inner)

unary_in : (op : UnaryOp) (e : ExprTree) → OneIn e → OneIn (a_unary op e)
unfolding operand_goals
unary_in unary.Negate e one gs rest at ends a = goes Operand (Operand ∷ []) gs (AMark marks.Minus ∷ (expr_tokens e ++ rest)) (expr_tokens e ++ rest) refl (one gs rest at ends a)
unary_in unary.Not e one gs rest at ends a = goes Operand (Operand ∷ []) gs (AMark marks.Bang ∷ (expr_tokens e ++ rest)) (expr_tokens e ++ rest) refl (one gs rest at ends a)

operator_on : (op : BinaryOp) (us : List Value) → operator_comes (AMark (operator_mark op) ∷ us) ≡ true
unfolding operator_comes
operator_on op us = rw (operator_again op) refl

steps_end : (steps : Steps) (rest : List Value) → Ends rest → Ends (steps_tokens steps ++ rest)
steps_end no_step rest ends = ends
steps_end (a_step op e steps) rest ends = let us = (expr_tokens e ++ steps_tokens steps) ++ rest in record { no_dot = op_no_dot op us; no_bracket = op_no_bracket op us }

chain_in : (e : ExprTree) (steps : Steps) → ExprIn e → StepsIn steps → ExprIn (a_chain e steps)
chain_in e steps expr others k gs rest at ends a =
    along (Operand ∷ Operators ∷ gs) ((expr_tokens e ++ steps_tokens steps) ++ rest) (expr_tokens e ++ (steps_tokens steps ++ rest)) (append_assoc (expr_tokens e) (steps_tokens steps) rest)
    (expr at.0 gs (steps_tokens steps ++ rest) at.3 (steps_end steps rest ends) (others at.0 gs rest at.4 ends a))

step_in : (op : BinaryOp) (e : ExprTree) (steps : Steps) → ExprIn e → StepsIn steps → StepsIn (a_step op e steps)
step_in op e steps expr others j gs rest at ends a =
    let us = (expr_tokens e ++ steps_tokens steps) ++ rest in
    let on = operator_on op us in
    goes Operators (Operand ∷ Operators ∷ []) gs (AMark (operator_mark op) ∷ us) us (rw on refl)
    (along (Operand ∷ Operators ∷ gs) us (expr_tokens e ++ (steps_tokens steps ++ rest)) (append_assoc (expr_tokens e) (steps_tokens steps) rest) (expr j gs (steps_tokens steps ++ rest) at.1 (steps_end steps rest ends) (others j gs rest at.2 ends a)))

mutual
  unfolding operand_goals

  one_in : (e : ExprTree) → OneIn e
  one_in (a_number n) gs rest at ends a = atom_in (a_number n) gs rest tt (omega arith) ends refl a
  one_in the_true gs rest at ends a = atom_in the_true gs rest tt (omega arith) ends refl a
  one_in the_false gs rest at ends a = atom_in the_false gs rest tt (omega arith) ends refl a
  one_in (a_datum n) gs rest at ends a = atom_in (a_datum n) gs rest at (omega arith) ends refl a
  one_in the_place gs rest at ends a = atom_in the_place gs rest tt (omega arith) ends refl a
  one_in the_self gs rest at ends a = atom_in the_self gs rest tt (omega arith) ends refl a
  one_in (an_attribute path) gs rest at ends a = path_in path gs rest at ends a
  one_in (a_paren e) gs rest at ends a = paren_in e (expr_in e) gs rest at ends a
  one_in (a_unary op e) gs rest at ends a = unary_in op e (one_in e) gs rest at ends a
  one_in (a_chain e steps) gs rest at ends a = absurd (omega (arith, at.1))

  expr_in : (e : ExprTree) → ExprIn e
  expr_in (a_number n) k gs rest at ends a = atom_in (a_number n) (Operators ∷ gs) rest tt (omega arith) ends refl a
  expr_in the_true k gs rest at ends a = atom_in the_true (Operators ∷ gs) rest tt (omega arith) ends refl a
  expr_in the_false k gs rest at ends a = atom_in the_false (Operators ∷ gs) rest tt (omega arith) ends refl a
  expr_in (a_datum n) k gs rest at ends a = atom_in (a_datum n) (Operators ∷ gs) rest at (omega arith) ends refl a
  expr_in the_place k gs rest at ends a = atom_in the_place (Operators ∷ gs) rest tt (omega arith) ends refl a
  expr_in the_self k gs rest at ends a = atom_in the_self (Operators ∷ gs) rest tt (omega arith) ends refl a
  expr_in (an_attribute path) k gs rest at ends a = path_in path (Operators ∷ gs) rest at ends a
  expr_in (a_paren e) k gs rest at ends a = paren_in e (expr_in e) (Operators ∷ gs) rest at ends a
  expr_in (a_unary op e) k gs rest at ends a = unary_in op e (one_in e) (Operators ∷ gs) rest at ends a
  expr_in (a_chain e steps) k gs rest at ends a = chain_in e steps (expr_in e) (steps_in steps) k gs rest at ends a

  steps_in : (steps : Steps) → StepsIn steps
  steps_in no_step j gs rest at ends a = a
  steps_in (a_step op e steps) j gs rest at ends a = step_in op e steps (expr_in e) (steps_in steps) j gs rest at ends a

-- a whole expression is accepted, before what stops it
whole : (e : ExprTree) (gs : List Goal) (rest : List Value) → IsExpr e → Stops rest → Accepted gs rest → Accepted (Operand ∷ Operators ∷ gs) (expr_tokens e ++ rest)
whole e gs rest is stops a = whole_in e (expr_in e) gs rest is stops a

-- ---- parts of statements

index_in : (o : Option ExprTree) (gs : List Goal) (rest : List Value) → IsIndex o → comes marks.OpenBracket rest ≡ false → Accepted gs rest → Accepted (goals.Index ∷ gs) (index_tokens o ++ rest)
index_in None gs rest is off a = goes goals.Index [] gs rest rest (rw off refl) a
index_in (Some e) gs rest is off a =
    let us = (expr_tokens e ++ (AMark marks.CloseBracket ∷ [])) ++ rest in
    let on = comes_here marks.OpenBracket us in
    goes goals.Index (Operand ∷ Operators ∷ Take marks.CloseBracket ∷ []) gs (AMark marks.OpenBracket ∷ us) us (rw on refl)
    (along (Operand ∷ Operators ∷ Take marks.CloseBracket ∷ gs) us (expr_tokens e ++ (AMark marks.CloseBracket ∷ rest)) (append_assoc (expr_tokens e) (AMark marks.CloseBracket ∷ []) rest)
    (whole e (Take marks.CloseBracket ∷ gs) (AMark marks.CloseBracket ∷ rest) is (bracket_stops rest) (take_in marks.CloseBracket gs rest a)))

no_comma : (rest : List Value) → comes marks.Comma (AMark marks.CloseParen ∷ rest) ≡ false
unfolding comes
no_comma rest = refl

commas_stop : (es : List ExprTree) (rest : List Value) → Stops (each comma_text es ++ (AMark marks.CloseParen ∷ rest))
commas_stop [] rest = close_stops rest
commas_stop (e ∷ es) rest = comma_stops ((expr_tokens e ++ each comma_text es) ++ (AMark marks.CloseParen ∷ rest))

arguments_in : (es : List ExprTree) (gs : List Goal) (rest : List Value) → AreExprs es → Accepted gs (AMark marks.CloseParen ∷ rest) → Accepted (goals.Arguments ∷ gs) (each comma_text es ++ (AMark marks.CloseParen ∷ rest))
arguments_in [] gs rest are a = let off = no_comma rest in goes goals.Arguments [] gs (AMark marks.CloseParen ∷ rest) (AMark marks.CloseParen ∷ rest) (rw off refl) a
arguments_in (e ∷ es) gs rest are a =
    let behind = each comma_text es ++ (AMark marks.CloseParen ∷ rest) in
    let us = (expr_tokens e ++ each comma_text es) ++ (AMark marks.CloseParen ∷ rest) in
    let on = comes_here marks.Comma us in
    goes goals.Arguments (Operand ∷ Operators ∷ goals.Arguments ∷ []) gs (AMark marks.Comma ∷ us) us (rw on refl)
    (along (Operand ∷ Operators ∷ goals.Arguments ∷ gs) us (expr_tokens e ++ behind) (append_assoc (expr_tokens e) (each comma_text es) (AMark marks.CloseParen ∷ rest))
    (whole e (goals.Arguments ∷ gs) behind are.0 (commas_stop es rest) (arguments_in es gs rest are.1 a)))

prio_in : (o : Option Priority) (gs : List Goal) (rest : List Value) → IsPrio o → comes_word words.At rest ≡ false → Accepted gs rest → Accepted (goals.Prio ∷ gs) (prio_tokens o ++ rest)
prio_in o gs rest is off a = goes goals.Prio [] gs (prio_tokens o ++ rest) rest ((Reads-as (λ (x : Option Priority). []) (prio_again o is)).again rest off) a

no_at : (rest : List Value) → comes_word words.At (AMark marks.Semicolon ∷ rest) ≡ false
unfolding comes_word
no_at rest = refl

-- the end of a message
end_in : (o : Option Priority) (gs : List Goal) (rest : List Value) → IsPrio o → Accepted gs rest → Accepted (Take marks.CloseParen ∷ goals.Prio ∷ Take marks.Semicolon ∷ gs) (AMark marks.CloseParen ∷ (prio_tokens o ++ (AMark marks.Semicolon ∷ rest)))
end_in o gs rest is a =
    take_in marks.CloseParen (goals.Prio ∷ Take marks.Semicolon ∷ gs) (prio_tokens o ++ (AMark marks.Semicolon ∷ rest)) (prio_in o (Take marks.Semicolon ∷ gs) (AMark marks.Semicolon ∷ rest) is (no_at rest) (take_in marks.Semicolon gs rest a))

head_reads : (signal : List ℕ) → Reads (mark marks.Dot ⊕ name_at ⊕ mark marks.OpenParen) (AMark marks.Dot ∷ AName signal ∷ AMark marks.OpenParen ∷ []) (tt, (signal, tt)) Anything
head_reads signal = Reads-⊕ (mark_reads marks.Dot) (Reads-⊕ (name_reads signal) (mark_reads marks.OpenParen) (λ rest any. tt)) (λ rest any. tt)

message_behind : (signal : List ℕ) (us : List Value) → message_goals (AMark marks.Dot ∷ AName signal ∷ AMark marks.OpenParen ∷ us) ≡ if_message us
unfolding message_goals
message_behind signal us = rw ((head_reads signal).again us tt) refl

bare : (us : List Value) → if_message (AMark marks.CloseParen ∷ us) ≡ Some (ends_message, AMark marks.CloseParen ∷ us)
unfolding comes
bare us = refl

message_in : (signal : List ℕ) (es : List ExprTree) (o : Option Priority) (gs : List Goal) (rest : List Value) → AreExprs es → IsPrio o → Accepted gs rest → Accepted (goals.Message ∷ gs) (message_text signal es o ++ rest)
message_in signal [] o gs rest are is a =
    let us = prio_tokens o ++ (AMark marks.Semicolon ∷ rest) in
    along (goals.Message ∷ gs) (message_text signal [] o ++ rest) (AMark marks.Dot ∷ AName signal ∷ AMark marks.OpenParen ∷ AMark marks.CloseParen ∷ us) (ap (λ vs. AMark marks.Dot ∷ AName signal ∷ AMark marks.OpenParen ∷ AMark marks.CloseParen ∷ vs) (append_assoc (prio_tokens o) (AMark marks.Semicolon ∷ []) rest))
    (goes goals.Message ends_message gs (AMark marks.Dot ∷ AName signal ∷ AMark marks.OpenParen ∷ AMark marks.CloseParen ∷ us) (AMark marks.CloseParen ∷ us) (message_behind signal (AMark marks.CloseParen ∷ us) ∙ bare us) (end_in o gs rest is a))
message_in signal (e ∷ es) o gs rest are is a =
    let end = AMark marks.CloseParen ∷ (prio_tokens o ++ (AMark marks.Semicolon ∷ rest)) in
    let ended : (AMark marks.CloseParen ∷ (prio_tokens o ++ (AMark marks.Semicolon ∷ []))) ++ rest ≡ end = ap (λ vs. AMark marks.CloseParen ∷ vs) (append_assoc (prio_tokens o) (AMark marks.Semicolon ∷ []) rest) in
    let us = expr_tokens e ++ (each comma_text es ++ end) in
    let text : ((expr_tokens e ++ each comma_text es) ++ (AMark marks.CloseParen ∷ (prio_tokens o ++ (AMark marks.Semicolon ∷ [])))) ++ rest ≡ us =
    append_assoc (expr_tokens e ++ each comma_text es) (AMark marks.CloseParen ∷ (prio_tokens o ++ (AMark marks.Semicolon ∷ []))) rest
    ∙ ap (λ vs. (expr_tokens e ++ each comma_text es) ++ vs) ended ∙ append_assoc (expr_tokens e) (each comma_text es) end in
    let off : comes marks.CloseParen us ≡ false = expr_opens e 5 (each comma_text es ++ end) are.0 in
    let found : if_message us ≡ Some (Operand ∷ Operators ∷ goals.Arguments ∷ ends_message, us) = rw off refl in
    along (goals.Message ∷ gs) (message_text signal (e ∷ es) o ++ rest) (AMark marks.Dot ∷ AName signal ∷ AMark marks.OpenParen ∷ us) (ap (λ vs. AMark marks.Dot ∷ AName signal ∷ AMark marks.OpenParen ∷ vs) text)
    (goes goals.Message (Operand ∷ Operators ∷ goals.Arguments ∷ ends_message) gs (AMark marks.Dot ∷ AName signal ∷ AMark marks.OpenParen ∷ us) us (message_behind signal us ∙ found)
    (whole e (goals.Arguments ∷ Take marks.CloseParen ∷ goals.Prio ∷ Take marks.Semicolon ∷ gs) (each comma_text es ++ end) are.0 (commas_stop es (prio_tokens o ++ (AMark marks.Semicolon ∷ rest)))
    (arguments_in es (Take marks.CloseParen ∷ goals.Prio ∷ Take marks.Semicolon ∷ gs) (prio_tokens o ++ (AMark marks.Semicolon ∷ rest)) are.1 (end_in o gs rest is a))))

-- ---- statements

abbrev StmtIn : StmtTree → Type 0
StmtIn s = (gs : List Goal) (rest : List Value) → IsStmt s → comes_word words.Else rest ≡ false → Accepted (Statements ∷ gs) rest → Accepted (Statements ∷ gs) (stmt_tokens s ++ rest)

abbrev StmtsIn : Stmts → Type 0
StmtsIn ss = (gs : List Goal) (rest : List Value) → AreStmts ss → goes_on rest ≡ false → Accepted gs rest → Accepted (Statements ∷ gs) (stmts_tokens ss ++ rest)

stop_statements : (gs : List Goal) (rest : List Value) → goes_on rest ≡ false → Accepted gs rest → Accepted (Statements ∷ gs) rest
unfolding goes_on comes statements_goals
stop_statements gs [] off a = goes Statements [] gs [] [] refl a
stop_statements gs (AMark marks.CloseBrace ∷ us) off a = goes Statements [] gs (AMark marks.CloseBrace ∷ us) (AMark marks.CloseBrace ∷ us) refl a
stop_statements gs (t ∷ us) off a = absurd cc

close_ends : (rest : List Value) → goes_on (AMark marks.CloseBrace ∷ rest) ≡ false
unfolding goes_on comes
close_ends rest = refl

abbrev BlockIn : Stmts → Type 0
BlockIn ss = (gs : List Goal) (rest : List Value) → AreStmts ss → Accepted gs rest → Accepted (and_block gs) (block_tokens ss ++ rest)

block_in : (ss : Stmts) → StmtsIn ss → BlockIn ss
unfolding block_tokens
block_in ss inner gs rest are a =
    take_in marks.OpenBrace (Statements ∷ Take marks.CloseBrace ∷ gs) ((stmts_tokens ss ++ (AMark marks.CloseBrace ∷ [])) ++ rest)
    (along (Statements ∷ Take marks.CloseBrace ∷ gs) ((stmts_tokens ss ++ (AMark marks.CloseBrace ∷ [])) ++ rest) (stmts_tokens ss ++ (AMark marks.CloseBrace ∷ rest)) (append_assoc (stmts_tokens ss) (AMark marks.CloseBrace ∷ []) rest)
    (inner (Take marks.CloseBrace ∷ gs) (AMark marks.CloseBrace ∷ rest) are (close_ends rest) (take_in marks.CloseBrace gs rest a)))

branch_in : (e : ExprTree) (body : Stmts) → BlockIn body → (gs : List Goal) (rest : List Value) → IsExpr e → AreStmts body → Accepted (goals.Otherwise ∷ gs) rest → Accepted (and_branch gs) (branch_tokens (e, body) ++ rest)
unfolding branch_tokens
branch_in e body block gs rest is are a =
    let behind = block_tokens body ++ rest in
    let us = (expr_tokens e ++ (AMark marks.CloseParen ∷ block_tokens body)) ++ rest in
    take_in marks.OpenParen (Operand ∷ Operators ∷ Take marks.CloseParen ∷ and_block (goals.Otherwise ∷ gs)) us
    (along (Operand ∷ Operators ∷ Take marks.CloseParen ∷ and_block (goals.Otherwise ∷ gs)) us (expr_tokens e ++ (AMark marks.CloseParen ∷ behind)) (append_assoc (expr_tokens e) (AMark marks.CloseParen ∷ block_tokens body) rest)
    (whole e (Take marks.CloseParen ∷ and_block (goals.Otherwise ∷ gs)) (AMark marks.CloseParen ∷ behind) is (close_stops behind) (take_in marks.CloseParen (and_block (goals.Otherwise ∷ gs)) behind (block (goals.Otherwise ∷ gs) rest are a))))

abbrev OtherIn : Branches → Otherwise → Type 0
OtherIn bs o = (gs : List Goal) (rest : List Value) → AreBranches bs → IsElse o → comes_word words.Else rest ≡ false → Accepted gs rest → Accepted (goals.Otherwise ∷ gs) ((more_tokens bs ++ else_tokens o) ++ rest)

no_other_in : OtherIn no_branch no_else
unfolding otherwise_goals else_if_comes
no_other_in gs rest are is off a = goes goals.Otherwise [] gs rest rest (rw off refl) a

otherwise_else : (us : List Value) → otherwise_goals (AWord words.Else ∷ AMark marks.OpenBrace ∷ us) ≡ Some (and_block [], AMark marks.OpenBrace ∷ us)
unfolding otherwise_goals else_if_comes comes_word
otherwise_else us = refl

else_in : (body : Stmts) → BlockIn body → OtherIn no_branch (an_else body)
unfolding block_tokens
else_in body block gs rest are is off a =
    let us = (stmts_tokens body ++ (AMark marks.CloseBrace ∷ [])) ++ rest in
    goes goals.Otherwise (and_block []) gs (AWord words.Else ∷ AMark marks.OpenBrace ∷ us) (AMark marks.OpenBrace ∷ us) (otherwise_else us) (block gs rest is a)

otherwise_if : (us : List Value) → otherwise_goals (AWord words.Else ∷ AWord words.If ∷ us) ≡ Some (and_branch [], us)
unfolding otherwise_goals else_if_comes comes_word
otherwise_if us = refl

-- a condition and its block, before others
branch_text : (e : ExprTree) (body : Stmts) (bs : Branches) (o : Otherwise) (rest : List Value)
    → (AMark marks.OpenParen ∷ ((expr_tokens e ++ (AMark marks.CloseParen ∷ AMark marks.OpenBrace ∷ (stmts_tokens body ++ (AMark marks.CloseBrace ∷ more_tokens bs)))) ++ else_tokens o)) ++ rest ≡ branch_tokens (e, body) ++ ((more_tokens bs ++ else_tokens o) ++ rest)
branch_text e body bs o rest =
    ap (λ us. (us ++ else_tokens o) ++ rest) (grouped e body (more_tokens bs)) ∙ ap (λ us. us ++ rest) (append_assoc (branch_tokens (e, body)) (more_tokens bs) (else_tokens o))
    ∙ append_assoc (branch_tokens (e, body)) (more_tokens bs ++ else_tokens o) rest

else_if_in : (e : ExprTree) (body : Stmts) (bs : Branches) (o : Otherwise) → BlockIn body → OtherIn bs o → OtherIn (a_branch e body bs) o
else_if_in e body bs o block other gs rest are is off a =
    let us = branch_tokens (e, body) ++ ((more_tokens bs ++ else_tokens o) ++ rest) in
    along (goals.Otherwise ∷ gs) ((more_tokens (a_branch e body bs) ++ else_tokens o) ++ rest) (AWord words.Else ∷ AWord words.If ∷ us) (ap (λ vs. AWord words.Else ∷ AWord words.If ∷ vs) (branch_text e body bs o rest))
    (goes goals.Otherwise (and_branch []) gs (AWord words.Else ∷ AWord words.If ∷ us) us (otherwise_if us) (branch_in e body block gs ((more_tokens bs ++ else_tokens o) ++ rest) are.0 are.1 (other gs rest are.2 is off a)))

choose_in : (e : ExprTree) (body : Stmts) (bs : Branches) (o : Otherwise) → BlockIn body → OtherIn bs o → StmtIn (choose (a_branch e body bs) o)
unfolding statements_goals
choose_in e body bs o block other gs rest is off a =
    let us = branch_tokens (e, body) ++ ((more_tokens bs ++ else_tokens o) ++ rest) in
    along (Statements ∷ gs) (stmt_tokens (choose (a_branch e body bs) o) ++ rest) (AWord words.If ∷ us) (ap (λ vs. AWord words.If ∷ vs) (branch_text e body bs o rest))
    (goes Statements (and_branch (Statements ∷ [])) gs (AWord words.If ∷ us) us refl (branch_in e body block (Statements ∷ gs) ((more_tokens bs ++ else_tokens o) ++ rest) is.1.0 is.1.1 (other (Statements ∷ gs) rest is.1.2 is.2 off a)))

no_bracket : (us : List Value) → comes marks.OpenBracket (AMark marks.Semicolon ∷ us) ≡ false
unfolding comes
no_bracket us = refl

dot_no_bracket : (us : List Value) → comes marks.OpenBracket (AMark marks.Dot ∷ us) ≡ false
unfolding comes
dot_no_bracket us = refl

equals_no_bracket : (us : List Value) → comes marks.OpenBracket (AMark marks.Equals ∷ us) ≡ false
unfolding comes
equals_no_bracket us = refl

equals_no_dot : (us : List Value) → comes marks.Dot (AMark marks.Equals ∷ us) ≡ false
unfolding comes
equals_no_dot us = refl

-- "=", an expression and ";"
value_in : (e : ExprTree) (gs : List Goal) (rest : List Value) → IsExpr e → Accepted gs rest → Accepted (Take marks.Equals ∷ Operand ∷ Operators ∷ Take marks.Semicolon ∷ gs) ((AMark marks.Equals ∷ (expr_tokens e ++ (AMark marks.Semicolon ∷ []))) ++ rest)
value_in e gs rest is a =
    let us = (expr_tokens e ++ (AMark marks.Semicolon ∷ [])) ++ rest in
    take_in marks.Equals (Operand ∷ Operators ∷ Take marks.Semicolon ∷ gs) us
    (along (Operand ∷ Operators ∷ Take marks.Semicolon ∷ gs) us (expr_tokens e ++ (AMark marks.Semicolon ∷ rest)) (append_assoc (expr_tokens e) (AMark marks.Semicolon ∷ []) rest)
    (whole e (Take marks.Semicolon ∷ gs) (AMark marks.Semicolon ∷ rest) is (end_stops rest) (take_in marks.Semicolon gs rest a)))

send_in : (s : SendTree) → StmtIn (send s)
unfolding statements_goals named_goals
send_in s gs rest is off a =
    let message = message_text s.signal s.arguments s.prio in
    let us = (index_tokens s.place ++ message) ++ rest in
    let on : is_send us ≡ true = sends s.place s.signal (arguments_tokens s.arguments ++ (AMark marks.CloseParen ∷ (prio_tokens s.prio ++ (AMark marks.Semicolon ∷ [])))) rest in
    let behind = (arguments_tokens s.arguments ++ (AMark marks.CloseParen ∷ (prio_tokens s.prio ++ (AMark marks.Semicolon ∷ [])))) ++ rest in
    goes Statements (goals.Index ∷ goals.Message ∷ Statements ∷ []) gs (AName s.port ∷ us) us (rw on refl)
    (along (goals.Index ∷ goals.Message ∷ Statements ∷ gs) us (index_tokens s.place ++ (message ++ rest)) (append_assoc (index_tokens s.place) message rest)
    (index_in s.place (goals.Message ∷ Statements ∷ gs) (message ++ rest) is.0 (dot_no_bracket (AName s.signal ∷ AMark marks.OpenParen ∷ behind)) (message_in s.signal s.arguments s.prio (Statements ∷ gs) rest is.1 is.2 a)))

assign_in : (path : List (List ℕ)) (e : ExprTree) → StmtIn (assign path e)
unfolding statements_goals named_goals
assign_in [] e gs rest is off a = absurd is.0
assign_in (n ∷ ns) e gs rest is off a =
    let value = AMark marks.Equals ∷ (expr_tokens e ++ (AMark marks.Semicolon ∷ [])) in
    let us = (each part ns ++ value) ++ rest in
    let not_send : is_send us ≡ false = assigns ns (expr_tokens e ++ (AMark marks.Semicolon ∷ [])) rest in
    let grouped_so : us ≡ each part ns ++ (value ++ rest) = append_assoc (each part ns) value rest in
    let read : path_at (AName n ∷ us) ≡ Some (n ∷ ns, value ++ rest) = ap (λ vs. path_at (AName n ∷ vs)) grouped_so ∙ path_again (n ∷ ns) (value ++ rest) tt (equals_no_dot ((expr_tokens e ++ (AMark marks.Semicolon ∷ [])) ++ rest)) in
    goes Statements (Take marks.Equals ∷ Operand ∷ Operators ∷ Take marks.Semicolon ∷ Statements ∷ []) gs (AName n ∷ us) (value ++ rest) (rw (not_send, read) refl) (value_in e (Statements ∷ gs) rest is.1 a)

index_end_in : (index : Option ExprTree) (gs : List Goal) (rest : List Value) → IsIndex index → Accepted gs rest → Accepted (goals.Index ∷ Take marks.Semicolon ∷ gs) ((index_tokens index ++ (AMark marks.Semicolon ∷ [])) ++ rest)
index_end_in index gs rest is a =
    along (goals.Index ∷ Take marks.Semicolon ∷ gs) ((index_tokens index ++ (AMark marks.Semicolon ∷ [])) ++ rest) (index_tokens index ++ (AMark marks.Semicolon ∷ rest)) (append_assoc (index_tokens index) (AMark marks.Semicolon ∷ []) rest)
    (index_in index (Take marks.Semicolon ∷ gs) (AMark marks.Semicolon ∷ rest) is (no_bracket rest) (take_in marks.Semicolon gs rest a))

name_goals : (n : List ℕ) (hs : List Goal) (us : List Value) → reads_as (λ x. hs) name_at (AName n ∷ us) ≡ Some (hs, us)
unfolding name_at
name_goals n hs us = refl

frame_in : (verb : FrameVerb) (reference : List ℕ) (index : Option ExprTree) → StmtIn (frame verb reference index)
unfolding statements_goals
frame_in verbs.Incarnate reference index gs rest is off a =
    let us = (index_tokens index ++ (AMark marks.Semicolon ∷ [])) ++ rest in
    goes Statements (goals.Index ∷ Take marks.Semicolon ∷ Statements ∷ []) gs (AWord words.Incarnate ∷ AName reference ∷ us) us (name_goals reference (goals.Index ∷ Take marks.Semicolon ∷ Statements ∷ []) us) (index_end_in index (Statements ∷ gs) rest is a)
frame_in verbs.Destroy reference index gs rest is off a =
    let us = (index_tokens index ++ (AMark marks.Semicolon ∷ [])) ++ rest in
    goes Statements (goals.Index ∷ Take marks.Semicolon ∷ Statements ∷ []) gs (AWord words.Destroy ∷ AName reference ∷ us) us (name_goals reference (goals.Index ∷ Take marks.Semicolon ∷ Statements ∷ []) us) (index_end_in index (Statements ∷ gs) rest is a)
frame_in verbs.Deport reference index gs rest is off a =
    let us = (index_tokens index ++ (AMark marks.Semicolon ∷ [])) ++ rest in
    goes Statements (goals.Index ∷ Take marks.Semicolon ∷ Statements ∷ []) gs (AWord words.Deport ∷ AName reference ∷ us) us (name_goals reference (goals.Index ∷ Take marks.Semicolon ∷ Statements ∷ []) us) (index_end_in index (Statements ∷ gs) rest is a)

import_in : (reference : List ℕ) (index : Option ExprTree) (e : ExprTree) → StmtIn (import_at reference index e)
unfolding statements_goals
import_in reference index e gs rest is off a =
    let value = AMark marks.Equals ∷ (expr_tokens e ++ (AMark marks.Semicolon ∷ [])) in
    let us = (index_tokens index ++ value) ++ rest in
    let hs = goals.Index ∷ Take marks.Equals ∷ Operand ∷ Operators ∷ Take marks.Semicolon ∷ Statements ∷ [] in
    goes Statements hs gs (AWord words.Import ∷ AName reference ∷ us) us (name_goals reference hs us)
    (along (goals.Index ∷ Take marks.Equals ∷ Operand ∷ Operators ∷ Take marks.Semicolon ∷ Statements ∷ gs) us (index_tokens index ++ (value ++ rest)) (append_assoc (index_tokens index) value rest)
    (index_in index (Take marks.Equals ∷ Operand ∷ Operators ∷ Take marks.Semicolon ∷ Statements ∷ gs) (value ++ rest) is.0 (equals_no_bracket ((expr_tokens e ++ (AMark marks.Semicolon ∷ [])) ++ rest)) (value_in e (Statements ∷ gs) rest is.1 a)))

repeat_in : (n : ℕ) (body : Stmts) → BlockIn body → StmtIn (repeat n body)
unfolding statements_goals number_at block_tokens
repeat_in n body block gs rest is off a =
    let us = (stmts_tokens body ++ (AMark marks.CloseBrace ∷ [])) ++ rest in
    goes Statements (and_block (Statements ∷ [])) gs (AWord words.Repeat ∷ ANumber n ∷ AMark marks.OpenBrace ∷ us) (AMark marks.OpenBrace ∷ us) refl (block (Statements ∷ gs) rest is a)

register_in : (port service : List ℕ) → StmtIn (register port service)
unfolding statements_goals
register_in port service gs rest is off a =
    goes Statements (Statements ∷ []) gs (AWord words.Register ∷ AName port ∷ AWord words.As ∷ AName service ∷ AMark marks.Semicolon ∷ rest) rest ((Reads-as (λ (x : StmtTree). Statements ∷ []) (register_again port service)).again rest tt) a

withdraw_in : (port : List ℕ) → StmtIn (withdraw port)
unfolding statements_goals
withdraw_in port gs rest is off a =
    goes Statements (Statements ∷ []) gs (AWord words.Withdraw ∷ AName port ∷ AMark marks.Semicolon ∷ rest) rest ((Reads-as (λ (x : StmtTree). Statements ∷ []) (withdraw_again port)).again rest tt) a

more_stmts_in : (s : StmtTree) (ss : Stmts) → StmtIn s → StmtsIn ss → StmtsIn (a_stmt s ss)
more_stmts_in s ss one others gs rest are off a =
    along (Statements ∷ gs) ((stmt_tokens s ++ stmts_tokens ss) ++ rest) (stmt_tokens s ++ (stmts_tokens ss ++ rest)) (append_assoc (stmt_tokens s) (stmts_tokens ss) rest)
    (one gs (stmts_tokens ss ++ rest) are.0 (stmts_no_else ss rest are.1 off) (others gs rest are.1 off a))

mutual
  unfolding statements_goals

  stmt_in : (s : StmtTree) → StmtIn s
  stmt_in empty gs rest is off a = goes Statements (Statements ∷ []) gs (AMark marks.Semicolon ∷ rest) rest refl a
  stmt_in (assign path e) gs rest is off a = assign_in path e gs rest is off a
  stmt_in (choose no_branch o) gs rest is off a = absurd is.0
  stmt_in (choose (a_branch e body bs) o) gs rest is off a = choose_in e body bs o (block_in body (stmts_in body)) (other_in bs o (last_in o)) gs rest is off a
  stmt_in (repeat n body) gs rest is off a = repeat_in n body (block_in body (stmts_in body)) gs rest is off a
  stmt_in (send s) gs rest is off a = send_in s gs rest is off a
  stmt_in defer gs rest is off a = goes Statements (Take marks.Semicolon ∷ Statements ∷ []) gs (AWord words.Defer ∷ AMark marks.Semicolon ∷ rest) (AMark marks.Semicolon ∷ rest) refl (take_in marks.Semicolon (Statements ∷ gs) rest a)
  stmt_in recall gs rest is off a = goes Statements (Take marks.Semicolon ∷ Statements ∷ []) gs (AWord words.Recall ∷ AMark marks.Semicolon ∷ rest) (AMark marks.Semicolon ∷ rest) refl (take_in marks.Semicolon (Statements ∷ gs) rest a)
  stmt_in recall_all gs rest is off a = goes Statements (Take marks.Semicolon ∷ Statements ∷ []) gs (AWord words.RecallAll ∷ AMark marks.Semicolon ∷ rest) (AMark marks.Semicolon ∷ rest) refl (take_in marks.Semicolon (Statements ∷ gs) rest a)
  stmt_in (frame verb reference index) gs rest is off a = frame_in verb reference index gs rest is off a
  stmt_in (import_at reference index id) gs rest is off a = import_in reference index id gs rest is off a
  stmt_in (register port service) gs rest is off a = register_in port service gs rest is off a
  stmt_in (withdraw port) gs rest is off a = withdraw_in port gs rest is off a

  stmts_in : (ss : Stmts) → StmtsIn ss
  stmts_in no_stmt gs rest are off a = stop_statements gs rest off a
  stmts_in (a_stmt s ss) gs rest are off a = more_stmts_in s ss (stmt_in s) (stmts_in ss) gs rest are off a

  last_in : (o : Otherwise) → OtherIn no_branch o
  last_in no_else gs rest are is off a = no_other_in gs rest are is off a
  last_in (an_else body) gs rest are is off a = else_in body (block_in body (stmts_in body)) gs rest are is off a

  other_in : (bs : Branches) (o : Otherwise) → OtherIn no_branch o → OtherIn bs o
  other_in no_branch o last = last
  other_in (a_branch e body bs) o last = else_if_in e body bs o (block_in body (stmts_in body)) (other_in bs o last)

nothing_goes : goes_on [] ≡ false
unfolding goes_on
nothing_goes = refl

-- the tokens of a program and of a condition are accepted
pub program_accepted : (t : Stmts) → AreStmts t → Accepted (Statements ∷ []) (stmts_tokens t)
program_accepted t are = along (Statements ∷ []) (stmts_tokens t) (stmts_tokens t ++ []) (sym (append-nil (stmts_tokens t))) (stmts_in t [] [] are nothing_goes done)

pub condition_accepted : (e : ExprTree) → IsExpr e → Accepted (Operand ∷ Operators ∷ []) (expr_tokens e)
condition_accepted e is = along (Operand ∷ Operators ∷ []) (expr_tokens e) (expr_tokens e ++ []) (sym (append-nil (expr_tokens e))) (whole e [] [] is nothing_stops done)
