-- The tokens of statements are read back as themselves.
use Rattle.std.proofs.Common.{◌≡◌, ℕ, zero, suc, ◌<◌, ◌≤◌, max, true, false, List, [], ◌∷◌, ◌++◌, length, Option, Some, None, refl, sym, ap, ◌∙◌, append_assoc, length-append, arith}
use Rattle.room_kinds.specs.declared.numbers.Priority.{Priority}
use Rattle.room_lexer.specs.declared.token.Mark.TheVariants as marks
use Rattle.room_ast.specs.Tokens.{each}
use Rattle.room_tokens.specs.Reader.{◌⊕◌, reads_as, many, all_while, optional}
use Rattle.room_tokens.proofs.Readers.{Reads, Reads-⊕, Reads-as, Reads-some, Reads-none, Anything}
use Rattle.room_tokens.specs.action_tokens.Values.{Value, AWord, AName, ANumber, AMark}
use Rattle.room_tokens.specs.action_tokens.Single.{comes, comes_word, mark, word}
use Rattle.room_tokens.specs.declared.action_tokens.word.ActionWord.TheVariants as words
use Rattle.room_tokens.proofs.action_tokens.Singles.{comes_here, comes_word_here, mark_reads, word_reads, name_reads, number_reads}
use Rattle.action_program.specs.Named.{ExprTree, a_number, the_true, the_false, a_datum, the_place, the_self, an_attribute, a_paren, a_unary, a_chain, SendTree, StmtTree, empty, assign, choose, repeat, send, defer, recall, recall_all, frame, import_at, register, withdraw, Stmts, no_stmt, a_stmt, stmts_of, Branches, no_branch, a_branch, branches_of, Otherwise, no_else, an_else}
use Rattle.action_program.specs.declared.operator.UnaryOp.TheVariants as unary
use Rattle.action_program.specs.declared.operator.FrameVerb.{FrameVerb}
use Rattle.action_program.specs.declared.operator.FrameVerb.TheVariants as verbs
use Rattle.action_parse.specs.action_reading.Tokens.{part, path_tokens, expr_tokens, index_tokens, arguments_tokens, prio_word, prio_tokens, send_tokens, stmt_tokens, stmts_tokens, more_tokens, else_tokens}
use Rattle.action_parse.specs.action_reading.Written.{IsPath, IsExpr, AtLevel, IsIndex, AreExprs, IsPrio, IsSend, IsStmt, AreStmts, AreBranches, IsElse, expr_nesting, index_nesting, exprs_nesting, stmt_nesting, nesting, branches_nesting, else_nesting}
use Rattle.action_parse.specs.action_reading.ExprReading.{op_at, path_at, expression}
use Rattle.action_parse.specs.action_reading.StmtReading.{index_at, argument_at, some_arguments_at, arguments_at, prio_word_at, prio_at, is_send, send_at, assign_at, frame_at, import_behind, register_at, withdraw_at, repeat_at, branch_at, else_if_comes, else_if_at, else_of, else_at, branches_at, choose_at, named_at, statement_with, goes_on, stmts_at, block_at, block_below, statement}
use Rattle.action_parse.proofs.action_reading.ExprAgain.{Follows, many_none, many_goes, path_again, expr_back}
use Rattle.action_parse.proofs.action_reading.StmtSound.{Bracketed, sent_of, Assigned, Framed, Imported, Registered, Branched, block_tokens, branch_tokens, else_if_tokens, regroup}
use Rattle.action_parse.proofs.action_reading.StmtShorter.{some_stmt}

-- ---- what follows an expression

module _ (rest : List Value) where
  close_follows : Follows 5 (AMark marks.CloseParen ∷ rest)
  unfolding op_at comes
  close_follows = record { no_op = λ j lt. refl; no_dot = refl; no_bracket = refl }

  bracket_follows : Follows 5 (AMark marks.CloseBracket ∷ rest)
  unfolding op_at comes
  bracket_follows = record { no_op = λ j lt. refl; no_dot = refl; no_bracket = refl }

  comma_follows : Follows 5 (AMark marks.Comma ∷ rest)
  unfolding op_at comes
  comma_follows = record { no_op = λ j lt. refl; no_dot = refl; no_bracket = refl }

  end_follows : Follows 5 (AMark marks.Semicolon ∷ rest)
  unfolding op_at comes
  end_follows = record { no_op = λ j lt. refl; no_dot = refl; no_bracket = refl }

-- a whole expression is read, where it nests no deeper
expr_reads : (e : ExprTree) (depth : ℕ) → IsExpr e → expr_nesting e ≤ depth → Reads (expression depth) (expr_tokens e) e (Follows 5)
expr_reads e depth is fits = record { again = λ rest f. expr_back e 5 depth rest is fits f }

-- ---- indices, arguments and priorities

abbrev in_brackets : ExprTree → List Value
in_brackets e = (AMark marks.OpenBracket ∷ []) ++ (expr_tokens e ++ (AMark marks.CloseBracket ∷ []))

index_again : (depth : ℕ) (o : Option ExprTree) → IsIndex o → index_nesting o ≤ depth → Reads (index_at (expression depth)) (index_tokens o) o (λ rest. comes marks.OpenBracket rest ≡ false)
unfolding index_at
index_again depth None is fits = Reads-none (comes marks.OpenBracket) (reads_as (λ (x : Bracketed). x.1.0) (mark marks.OpenBracket ⊕ expression depth ⊕ mark marks.CloseBracket))
index_again depth (Some e) is fits =
    Reads-some (comes marks.OpenBracket) (λ rest. comes_here marks.OpenBracket ((expr_tokens e ++ (AMark marks.CloseBracket ∷ [])) ++ rest))
    (Reads-as (λ (x : Bracketed). x.1.0) (Reads-⊕ (mark_reads marks.OpenBracket) (Reads-⊕ (expr_reads e depth is fits) (record { again = λ rest any. (mark_reads marks.CloseBracket).again rest tt }) (λ rest any. bracket_follows rest)) (λ rest any. tt)))

argument_again : (depth : ℕ) (e : ExprTree) → IsExpr e → expr_nesting e ≤ depth → Reads (argument_at (expression depth)) (AMark marks.Comma ∷ expr_tokens e) e (Follows 5)
unfolding argument_at
argument_again depth e is fits = Reads-as (λ (x : Unit {0} × ExprTree). x.1) (Reads-⊕ (mark_reads marks.Comma) (expr_reads e depth is fits) (λ rest any. tt))

-- arguments behind the first are followed by a closing parenthesis
abbrev Closes : List Value → Type 0
Closes rest = (us : List Value) × (rest ≡ AMark marks.CloseParen ∷ us)

no_comma : (rest : List Value) → Closes rest → comes marks.Comma rest ≡ false
unfolding comes
no_comma rest c = rw c.1 refl

closes_follows : (rest : List Value) → Closes rest → Follows 5 rest
closes_follows rest c = rw c.1 (close_follows c.0)

arguments_follow : (es : List ExprTree) (rest : List Value) → Closes rest → Follows 5 (each (λ e. AMark marks.Comma ∷ expr_tokens e) es ++ rest)
arguments_follow [] rest c = closes_follows rest c
arguments_follow (e ∷ es) rest c = comma_follows ((expr_tokens e ++ each (λ x. AMark marks.Comma ∷ expr_tokens x) es) ++ rest)

more_again : (depth n : ℕ) (es : List ExprTree) (rest : List Value) → AreExprs es → exprs_nesting es ≤ depth → Closes rest → length (each (λ e. AMark marks.Comma ∷ expr_tokens e) es) < n
    → many (comes marks.Comma) (argument_at (expression depth)) n (each (λ e. AMark marks.Comma ∷ expr_tokens e) es ++ rest) ≡ Some (es, rest)
more_again depth n [] rest are fits c lt = many_none (comes marks.Comma) (argument_at (expression depth)) n rest (omega arith) (no_comma rest c)
more_again depth zero (e ∷ es) rest are fits c lt = absurd (omega arith)
more_again depth (suc n) (e ∷ es) rest are fits c lt =
    let others = each (λ x. AMark marks.Comma ∷ expr_tokens x) es in
    let one : argument_at (expression depth) (AMark marks.Comma ∷ (expr_tokens e ++ (others ++ rest))) ≡ Some (e, others ++ rest) = (argument_again depth e are.0 (omega arith)).again (others ++ rest) (arguments_follow es rest c) in
    let more = more_again depth n es rest are.1 (omega arith) c (omega (arith, length-append (expr_tokens e) others)) in
    ap (λ (us : List Value). many (comes marks.Comma) (argument_at (expression depth)) (suc n) (AMark marks.Comma ∷ us)) (append_assoc (expr_tokens e) others rest)
    ∙ many_goes (comes marks.Comma) (argument_at (expression depth)) n (AMark marks.Comma ∷ (expr_tokens e ++ (others ++ rest))) (others ++ rest) rest e es (comes_here marks.Comma (expr_tokens e ++ (others ++ rest))) one more

path_opens : (path : List (List ℕ)) (rest : List Value) → IsPath path → comes marks.CloseParen (path_tokens path ++ rest) ≡ false
unfolding comes
path_opens [] rest is = absurd is
path_opens (n ∷ ns) rest is = refl

pub expr_opens : (e : ExprTree) (k : ℕ) (rest : List Value) → AtLevel e k → comes marks.CloseParen (expr_tokens e ++ rest) ≡ false
unfolding comes
expr_opens (a_number n) k rest at = refl
expr_opens the_true k rest at = refl
expr_opens the_false k rest at = refl
expr_opens (a_datum n) k rest at = refl
expr_opens the_place k rest at = refl
expr_opens the_self k rest at = refl
expr_opens (an_attribute path) k rest at = path_opens path rest at
expr_opens (a_paren e) k rest at = refl
expr_opens (a_unary unary.Negate e) k rest at = refl
expr_opens (a_unary unary.Not e) k rest at = refl
expr_opens (a_chain e steps) k rest at = ap (comes marks.CloseParen) (append_assoc (expr_tokens e) _ rest) ∙ expr_opens e at.0 _ at.3

arguments_whole : (depth : ℕ) (e : ExprTree) (es : List ExprTree) (rest : List Value) → AreExprs (e ∷ es) → exprs_nesting (e ∷ es) ≤ depth → Closes rest → arguments_at (expression depth) ((expr_tokens e ++ each (λ (x : ExprTree). AMark marks.Comma ∷ expr_tokens x) es) ++ rest) ≡ Some (e ∷ es, rest)
unfolding arguments_at some_arguments_at all_while
arguments_whole depth e es rest are fits c =
    let us = each (λ (x : ExprTree). AMark marks.Comma ∷ expr_tokens x) es ++ rest in
    let regrouped = append_assoc (expr_tokens e) (each (λ (x : ExprTree). AMark marks.Comma ∷ expr_tokens x) es) rest in
    let off : comes marks.CloseParen (expr_tokens e ++ us) ≡ false = expr_opens e 5 us are.0 in
    let first : expression depth (expr_tokens e ++ us) ≡ Some (e, us) = (expr_reads e depth are.0 (omega arith)).again us (arguments_follow es rest c) in
    let more = more_again depth (suc (length us)) es rest are.1 (omega arith) c (omega (arith, length-append (each (λ (x : ExprTree). AMark marks.Comma ∷ expr_tokens x) es) rest)) in
    ap (arguments_at (expression depth)) regrouped ∙ rw (off, first, more) refl

arguments_again : (depth : ℕ) (es : List ExprTree) → AreExprs es → exprs_nesting es ≤ depth → Reads (arguments_at (expression depth)) (arguments_tokens es) es Closes
unfolding arguments_at
arguments_again depth [] are fits = record { again = λ rest c. let here : comes marks.CloseParen rest ≡ true = rw c.1 (comes_here marks.CloseParen c.0) in rw here refl }
arguments_again depth (e ∷ es) are fits = record { again = λ rest c. arguments_whole depth e es rest are fits c }

by_number : (n : ℕ) (rest : List Value) → 0 < n → n ≤ 5 → prio_word_at (AWord (prio_word n) ∷ rest) ≡ Some (record { 0 = n }, rest)
unfolding prio_word_at
by_number zero rest some few = absurd (omega arith)
by_number (suc zero) rest some few = refl
by_number (suc (suc zero)) rest some few = refl
by_number (suc (suc (suc zero))) rest some few = refl
by_number (suc (suc (suc (suc zero)))) rest some few = refl
by_number (suc (suc (suc (suc (suc zero))))) rest some few = refl
by_number (suc (suc (suc (suc (suc (suc n)))))) rest some few = absurd (omega arith)

pub prio_again : (o : Option Priority) → IsPrio o → Reads prio_at (prio_tokens o) o (λ rest. comes_word words.At rest ≡ false)
unfolding prio_at
prio_again None is = Reads-none (comes_word words.At) (reads_as (λ (x : Unit {0} × Priority). x.1) (word words.At ⊕ prio_word_at))
prio_again (Some p) is =
    Reads-some (comes_word words.At) (λ rest. comes_word_here words.At (AWord (prio_word p.0) ∷ rest))
    (Reads-as (λ (x : Unit {0} × Priority). x.1) (Reads-⊕ {G = λ rest. comes_word words.At rest ≡ false} (word_reads words.At) (record { again = λ rest any. by_number p.0 rest is.0 is.1 }) (λ rest any. tt)))

-- ---- statements without blocks

send_again : (depth : ℕ) (s : SendTree) → IsSend s → max (index_nesting s.place) (exprs_nesting s.arguments) ≤ depth → Reads (send_at (expression depth)) (send_tokens s) (send s) Anything
unfolding send_at comes comes_word
send_again depth s is fits =
    Reads-as sent_of
    (Reads-⊕ (name_reads s.port)
    (Reads-⊕ (index_again depth s.place is.0 (omega arith))
    (Reads-⊕ (mark_reads marks.Dot)
    (Reads-⊕ (name_reads s.signal)
    (Reads-⊕ (mark_reads marks.OpenParen)
    (Reads-⊕ (arguments_again depth s.arguments is.1 (omega arith))
    (Reads-⊕ (mark_reads marks.CloseParen)
    (Reads-⊕ (prio_again s.prio is.2) (mark_reads marks.Semicolon) (λ rest any. refl))
    (λ rest any. tt)) (λ rest any. (_, refl))) (λ rest any. tt)) (λ rest any. tt)) (λ rest any. tt)) (λ rest any. refl)) (λ rest any. tt))

path_reads : (path : List (List ℕ)) → IsPath path → Reads path_at (path_tokens path) path (λ rest. comes marks.Dot rest ≡ false)
path_reads path is = record { again = λ rest off. path_again path rest is off }

assign_again : (depth : ℕ) (path : List (List ℕ)) (e : ExprTree) → IsPath path → IsExpr e → expr_nesting e ≤ depth → Reads (assign_at (expression depth)) (stmt_tokens (assign path e)) (assign path e) Anything
unfolding assign_at comes
assign_again depth path e is_path is fits =
    Reads-as (λ (x : Assigned). assign x.0 x.1.1.0) (Reads-⊕ (path_reads path is_path) (Reads-⊕ (mark_reads marks.Equals) (Reads-⊕ (expr_reads e depth is fits) (mark_reads marks.Semicolon) (λ rest any. end_follows rest)) (λ rest any. tt)) (λ rest any. refl))

frame_again : (depth : ℕ) (verb : FrameVerb) (reference : List ℕ) (index : Option ExprTree) → IsIndex index → index_nesting index ≤ depth → Reads (frame_at (expression depth) verb) (AName reference ∷ (index_tokens index ++ (AMark marks.Semicolon ∷ []))) (frame verb reference index) Anything
unfolding frame_at comes
frame_again depth verb reference index is fits =
    Reads-as (λ (x : Framed). frame verb x.0 x.1.0) (Reads-⊕ (name_reads reference) (Reads-⊕ (index_again depth index is fits) (mark_reads marks.Semicolon) (λ rest any. refl)) (λ rest any. tt))

import_again : (depth : ℕ) (reference : List ℕ) (index : Option ExprTree) (e : ExprTree) → IsIndex index → IsExpr e → index_nesting index ≤ depth → expr_nesting e ≤ depth
    → Reads (import_behind (expression depth)) (AName reference ∷ (index_tokens index ++ (AMark marks.Equals ∷ (expr_tokens e ++ (AMark marks.Semicolon ∷ []))))) (import_at reference index e) Anything
unfolding import_behind comes
import_again depth reference index e is_index is fits_index fits =
    Reads-as (λ (x : Imported). import_at x.0 x.1.0 x.1.1.1.0)
    (Reads-⊕ (name_reads reference) (Reads-⊕ (index_again depth index is_index fits_index) (Reads-⊕ (mark_reads marks.Equals) (Reads-⊕ (expr_reads e depth is fits) (mark_reads marks.Semicolon) (λ rest any. end_follows rest)) (λ rest any. tt)) (λ rest any. refl)) (λ rest any. tt))

pub register_again : (port service : List ℕ) → Reads register_at (AName port ∷ AWord words.As ∷ AName service ∷ AMark marks.Semicolon ∷ []) (register port service) Anything
unfolding register_at
register_again port service =
    Reads-as (λ (x : Registered). register x.0 x.1.1.0) (Reads-⊕ (name_reads port) (Reads-⊕ (word_reads words.As) (Reads-⊕ (name_reads service) (mark_reads marks.Semicolon) (λ rest any. tt)) (λ rest any. tt)) (λ rest any. tt))

pub withdraw_again : (port : List ℕ) → Reads withdraw_at (AName port ∷ AMark marks.Semicolon ∷ []) (withdraw port) Anything
unfolding withdraw_at
withdraw_again port = Reads-as (λ (x : List ℕ × Unit {0}). withdraw x.0) (Reads-⊕ (name_reads port) (mark_reads marks.Semicolon) (λ rest any. tt))

pub sends : (place : Option ExprTree) (signal : List ℕ) (us rest : List Value) → is_send ((index_tokens place ++ (AMark marks.Dot ∷ AName signal ∷ AMark marks.OpenParen ∷ us)) ++ rest) ≡ true
unfolding is_send comes
sends None signal us rest = refl
sends (Some e) signal us rest = refl

pub assigns : (ns : List (List ℕ)) (us rest : List Value) → is_send ((each part ns ++ (AMark marks.Equals ∷ us)) ++ rest) ≡ false
unfolding is_send comes
assigns [] us rest = refl
assigns (n ∷ []) us rest = refl
assigns (n ∷ m ∷ ns) us rest = refl

-- ---- the claims

pub ends_else : (rest : List Value) → goes_on rest ≡ false → comes_word words.Else rest ≡ false
unfolding goes_on comes comes_word
ends_else [] h = refl
ends_else (AWord w ∷ ts) h = absurd cc
ends_else (AName n ∷ ts) h = refl
ends_else (ANumber n ∷ ts) h = refl
ends_else (AMark m ∷ ts) h = refl

abbrev StmtBack : StmtTree → Type 0
StmtBack s = (depth : ℕ) (rest : List Value) → IsStmt s → stmt_nesting s ≤ depth → comes_word words.Else rest ≡ false → statement depth (stmt_tokens s ++ rest) ≡ Some (s, rest)

pub stmt_list : Stmts → List StmtTree
stmt_list no_stmt = []
stmt_list (a_stmt s ss) = s ∷ stmt_list ss

stmt_list_again : (ss : Stmts) → stmts_of (stmt_list ss) ≡ ss
unfolding stmt_list
stmt_list_again no_stmt = refl
stmt_list_again (a_stmt s ss) = ap (a_stmt s) (stmt_list_again ss)

abbrev StmtsBack : Stmts → Type 0
StmtsBack ss = (depth n : ℕ) (rest : List Value) → AreStmts ss → nesting ss ≤ depth → goes_on rest ≡ false → length (stmts_tokens ss) < n → many goes_on (statement depth) n (stmts_tokens ss ++ rest) ≡ Some (stmt_list ss, rest)

-- a statement goes on, and doesn't begin with "else"
record Begins (ts : List Value) : Type 0 where
  on : goes_on ts ≡ true
  no_else : comes_word words.Else ts ≡ false

stmt_begins : (s : StmtTree) (us : List Value) → IsStmt s → Begins (stmt_tokens s ++ us)
unfolding goes_on comes comes_word
stmt_begins empty us is = record { on = refl; no_else = refl }
stmt_begins (assign [] e) us is = absurd is.0
stmt_begins (assign (n ∷ ns) e) us is = record { on = refl; no_else = refl }
stmt_begins (choose no_branch otherwise) us is = absurd is.0
stmt_begins (choose (a_branch e body rest) otherwise) us is = record { on = refl; no_else = refl }
stmt_begins (repeat n body) us is = record { on = refl; no_else = refl }
stmt_begins (send s) us is = record { on = refl; no_else = refl }
stmt_begins defer us is = record { on = refl; no_else = refl }
stmt_begins recall us is = record { on = refl; no_else = refl }
stmt_begins recall_all us is = record { on = refl; no_else = refl }
stmt_begins (frame verbs.Incarnate reference index) us is = record { on = refl; no_else = refl }
stmt_begins (frame verbs.Destroy reference index) us is = record { on = refl; no_else = refl }
stmt_begins (frame verbs.Deport reference index) us is = record { on = refl; no_else = refl }
stmt_begins (import_at reference index id) us is = record { on = refl; no_else = refl }
stmt_begins (register port service) us is = record { on = refl; no_else = refl }
stmt_begins (withdraw port) us is = record { on = refl; no_else = refl }

pub stmts_no_else : (ss : Stmts) (rest : List Value) → AreStmts ss → goes_on rest ≡ false → comes_word words.Else (stmts_tokens ss ++ rest) ≡ false
stmts_no_else no_stmt rest are off = ends_else rest off
stmts_no_else (a_stmt s ss) rest are off = ap (comes_word words.Else) (append_assoc (stmt_tokens s) (stmts_tokens ss) rest) ∙ (stmt_begins s (stmts_tokens ss ++ rest) are.0).no_else

no_stmts_back : StmtsBack no_stmt
unfolding stmt_list
no_stmts_back depth n rest are fits off lt = many_none goes_on (statement depth) n rest (omega arith) off

a_stmt_back : (s : StmtTree) (ss : Stmts) → StmtBack s → StmtsBack ss → StmtsBack (a_stmt s ss)
unfolding stmt_list
a_stmt_back s ss one more depth zero rest are fits off lt = absurd (omega arith)
a_stmt_back s ss one more depth (suc n) rest are fits off lt =
    let us = stmts_tokens ss ++ rest in
    let first : statement depth (stmt_tokens s ++ us) ≡ Some (s, us) = one depth us are.0 (omega arith) (stmts_no_else ss rest are.1 off) in
    let some = some_stmt s are.0 in
    let others = more depth n rest are.1 (omega arith) off (omega (arith, some, length-append (stmt_tokens s) (stmts_tokens ss))) in
    ap (many goes_on (statement depth) (suc n)) (append_assoc (stmt_tokens s) (stmts_tokens ss) rest)
    ∙ many_goes goes_on (statement depth) n (stmt_tokens s ++ us) us rest s (stmt_list ss) (stmt_begins s us are.0).on first others

stmts_reads : (ss : Stmts) → StmtsBack ss → (depth : ℕ) → AreStmts ss → nesting ss ≤ depth → Reads (stmts_at (statement depth)) (stmts_tokens ss) ss (λ rest. goes_on rest ≡ false)
unfolding stmts_at all_while
stmts_reads ss back depth are fits = record {
  again = λ rest off.
      let all : many goes_on (statement depth) (suc (length (stmts_tokens ss ++ rest))) (stmts_tokens ss ++ rest) ≡ Some (stmt_list ss, rest) = back depth (suc (length (stmts_tokens ss ++ rest))) rest are fits off (omega (arith, length-append (stmts_tokens ss) rest)) in
      rw all (ap (λ (x : Stmts). Some (x, rest)) (stmt_list_again ss));
}

close_ends : (rest : List Value) → goes_on (AMark marks.CloseBrace ∷ rest) ≡ false
unfolding goes_on comes
close_ends rest = refl

-- a block is read, where it may nest
abbrev BlockIn : Stmts → Type 0
BlockIn ss = (depth : ℕ) → AreStmts ss → suc (nesting ss) ≤ depth → Reads (block_below depth) (block_tokens ss) ss Anything

block_in : (ss : Stmts) → StmtsBack ss → BlockIn ss
unfolding block_below block_at block_tokens
block_in ss back zero are fits = absurd (omega arith)
block_in ss back (suc depth) are fits = record {
  again = λ rest any.
      (Reads-as (λ (x : Unit {0} × (Stmts × Unit {0})). x.1.0) (Reads-⊕ (mark_reads marks.OpenBrace) (Reads-⊕ (stmts_reads ss back depth are (omega arith)) (mark_reads marks.CloseBrace) (λ us a. close_ends us)) (λ us a. tt))).again rest tt;
}

-- ---- conditions with their blocks

branch_again : (depth : ℕ) (e : ExprTree) (body : Stmts) → BlockIn body → IsExpr e → AreStmts body → max (expr_nesting e) (suc (nesting body)) ≤ depth → Reads (branch_at (expression depth) (block_below depth)) (branch_tokens (e, body)) (e, body) Anything
unfolding branch_at branch_tokens
branch_again depth e body block is are fits =
    Reads-as (λ (x : Branched). (x.1.0, x.1.1.1)) (Reads-⊕ (mark_reads marks.OpenParen) (Reads-⊕ (expr_reads e depth is (omega arith)) (Reads-⊕ (mark_reads marks.CloseParen) (block depth are (omega arith)) (λ rest any. tt)) (λ rest any. close_follows (block_tokens body ++ rest))) (λ rest any. tt))

else_if_again : (depth : ℕ) (e : ExprTree) (body : Stmts) → BlockIn body → IsExpr e → AreStmts body → max (expr_nesting e) (suc (nesting body)) ≤ depth → Reads (else_if_at (expression depth) (block_below depth)) (else_if_tokens (e, body)) (e, body) Anything
unfolding else_if_at else_if_tokens
else_if_again depth e body block is are fits =
    Reads-as (λ (x : Unit {0} × (Unit {0} × (ExprTree × Stmts))). x.1.1) (Reads-⊕ (word_reads words.Else) (Reads-⊕ (word_reads words.If) (branch_again depth e body block is are fits) (λ rest any. tt)) (λ rest any. tt))

branch_list : Branches → List (ExprTree × Stmts)
branch_list no_branch = []
branch_list (a_branch e body bs) = (e, body) ∷ branch_list bs

branch_list_again : (bs : Branches) → branches_of (branch_list bs) ≡ bs
unfolding branch_list
branch_list_again no_branch = refl
branch_list_again (a_branch e body bs) = ap (a_branch e body) (branch_list_again bs)

abbrev MoreBack : Branches → Type 0
MoreBack bs = (depth n : ℕ) (rest : List Value) → AreBranches bs → branches_nesting bs ≤ depth → else_if_comes rest ≡ false → length (more_tokens bs) < n
    → many else_if_comes (else_if_at (expression depth) (block_below depth)) n (more_tokens bs ++ rest) ≡ Some (branch_list bs, rest)

no_more_back : MoreBack no_branch
unfolding branch_list
no_more_back depth n rest are fits off lt = many_none else_if_comes (else_if_at (expression depth) (block_below depth)) n rest (omega arith) off

-- the tokens of a condition and its block, before others
pub grouped : (e : ExprTree) (body : Stmts) (us : List Value) → AMark marks.OpenParen ∷ (expr_tokens e ++ (AMark marks.CloseParen ∷ AMark marks.OpenBrace ∷ (stmts_tokens body ++ (AMark marks.CloseBrace ∷ us)))) ≡ branch_tokens (e, body) ++ us
unfolding branch_tokens block_tokens
grouped e body us = ap (λ vs. AMark marks.OpenParen ∷ vs) (regroup e body us)

branch_length : (e : ExprTree) (body : Stmts) → 0 < length (branch_tokens (e, body))
unfolding branch_tokens
branch_length e body = omega arith

else_if_on : (ts : List Value) → else_if_comes (AWord words.Else ∷ AWord words.If ∷ ts) ≡ true
unfolding else_if_comes comes_word
else_if_on ts = refl

else_if_is : (b : ExprTree × Stmts) (us : List Value) → else_if_tokens b ++ us ≡ AWord words.Else ∷ AWord words.If ∷ (branch_tokens b ++ us)
unfolding else_if_tokens
else_if_is b us = refl

a_more_back : (e : ExprTree) (body : Stmts) (bs : Branches) → BlockIn body → MoreBack bs → MoreBack (a_branch e body bs)
unfolding branch_list
a_more_back e body bs block more depth zero rest are fits off lt = absurd (omega arith)
a_more_back e body bs block more depth (suc n) rest are fits off lt =
    let us = more_tokens bs ++ rest in
    let is = grouped e body (more_tokens bs) in
    let whole : more_tokens (a_branch e body bs) ++ rest ≡ AWord words.Else ∷ AWord words.If ∷ (branch_tokens (e, body) ++ us) =
    ap (λ vs. AWord words.Else ∷ AWord words.If ∷ (vs ++ rest)) is ∙ ap (λ vs. AWord words.Else ∷ AWord words.If ∷ vs) (append_assoc (branch_tokens (e, body)) (more_tokens bs) rest) in
    let one : else_if_at (expression depth) (block_below depth) (AWord words.Else ∷ AWord words.If ∷ (branch_tokens (e, body) ++ us)) ≡ Some ((e, body), us) =
    ap (else_if_at (expression depth) (block_below depth)) (sym (else_if_is (e, body) us)) ∙ (else_if_again depth e body block are.0 are.1 (omega arith)).again us tt in
    let others = more depth n rest are.2 (omega arith) off (omega (arith, ap length is, length-append (branch_tokens (e, body)) (more_tokens bs))) in
    ap (many else_if_comes (else_if_at (expression depth) (block_below depth)) (suc n)) whole
    ∙ many_goes else_if_comes (else_if_at (expression depth) (block_below depth)) n (AWord words.Else ∷ AWord words.If ∷ (branch_tokens (e, body) ++ us)) us rest (e, body) (branch_list bs) (else_if_on (branch_tokens (e, body) ++ us)) one others

-- branches from the first on
branches_again : (depth : ℕ) (e : ExprTree) (body : Stmts) (bs : Branches) → BlockIn body → MoreBack bs → IsExpr e → AreStmts body → AreBranches bs → max (max (expr_nesting e) (suc (nesting body))) (branches_nesting bs) ≤ depth
    → (rest : List Value) → else_if_comes rest ≡ false → branches_at (expression depth) (block_below depth) (branch_tokens (e, body) ++ (more_tokens bs ++ rest)) ≡ Some ((e, body) ∷ branch_list bs, rest)
unfolding branches_at all_while
branches_again depth e body bs block more is are others fits rest off =
    let us = more_tokens bs ++ rest in
    let one : branch_at (expression depth) (block_below depth) (branch_tokens (e, body) ++ us) ≡ Some ((e, body), us) = (branch_again depth e body block is are (omega arith)).again us tt in
    let all : many else_if_comes (else_if_at (expression depth) (block_below depth)) (suc (length us)) us ≡ Some (branch_list bs, rest) = more depth (suc (length us)) rest others (omega arith) off (omega (arith, length-append (more_tokens bs) rest)) in
    rw (one, all) refl

abbrev ElseBack : Otherwise → Type 0
ElseBack o = (depth : ℕ) (rest : List Value) → IsElse o → else_nesting o ≤ depth → comes_word words.Else rest ≡ false → else_at (block_below depth) (else_tokens o ++ rest) ≡ Some (o, rest)

no_else_back : ElseBack no_else
unfolding else_at optional
no_else_back depth rest is fits off = rw off refl

an_else_back : (body : Stmts) → BlockIn body → ElseBack (an_else body)
unfolding else_at optional block_tokens
an_else_back body block depth rest is fits off =
    let inner : Reads (optional (comes_word words.Else) (reads_as (λ (x : Unit {0} × Stmts). x.1) (word words.Else ⊕ block_below depth))) (AWord words.Else ∷ block_tokens body) (Some body) Anything =
    Reads-some (comes_word words.Else) (λ us. comes_word_here words.Else (block_tokens body ++ us)) (Reads-as (λ (x : Unit {0} × Stmts). x.1) (Reads-⊕ (word_reads words.Else) (block depth is fits) (λ us any. tt))) in
    (Reads-as else_of inner).again rest tt

else_off : (o : Otherwise) (rest : List Value) → comes_word words.Else rest ≡ false → else_if_comes (else_tokens o ++ rest) ≡ false
unfolding else_if_comes comes_word
else_off no_else rest off = rw off refl
else_off (an_else body) rest off = refl

choose_back : (e : ExprTree) (body : Stmts) (bs : Branches) (o : Otherwise) → BlockIn body → MoreBack bs → ElseBack o → StmtBack (choose (a_branch e body bs) o)
unfolding statement_with choose_at
choose_back e body bs o block more other depth rest is fits off =
    let us = else_tokens o ++ rest in
    let first : branches_at (expression depth) (block_below depth) (branch_tokens (e, body) ++ (more_tokens bs ++ us)) ≡ Some ((e, body) ∷ branch_list bs, us) = branches_again depth e body bs block more is.1.0 is.1.1 is.1.2 (omega arith) us (else_off o rest off) in
    let second : else_at (block_below depth) us ≡ Some (o, rest) = other depth rest is.2 (omega arith) off in
    let whole : stmt_tokens (choose (a_branch e body bs) o) ++ rest ≡ AWord words.If ∷ (branch_tokens (e, body) ++ (more_tokens bs ++ us)) =
    ap (λ vs. AWord words.If ∷ ((vs ++ else_tokens o) ++ rest)) (grouped e body (more_tokens bs))
    ∙ ap (λ vs. AWord words.If ∷ vs) (append_assoc (branch_tokens (e, body) ++ more_tokens bs) (else_tokens o) rest ∙ append_assoc (branch_tokens (e, body)) (more_tokens bs) us) in
    ap (statement depth) whole ∙ rw (first, second) (ap (λ (x : Branches). Some (choose (a_branch e body x) o, rest)) (branch_list_again bs))

-- ---- each statement

named_sends : (depth : ℕ) (s : SendTree) (rest : List Value) → IsSend s → max (index_nesting s.place) (exprs_nesting s.arguments) ≤ depth → statement depth (send_tokens s ++ rest) ≡ Some (send s, rest)
unfolding statement_with named_at
named_sends depth s rest is fits = let it = sends s.place s.signal (arguments_tokens s.arguments ++ (AMark marks.CloseParen ∷ (prio_tokens s.prio ++ (AMark marks.Semicolon ∷ [])))) rest in rw it ((send_again depth s is fits).again rest tt)

named_assigns : (depth : ℕ) (path : List (List ℕ)) (e : ExprTree) (rest : List Value) → IsPath path → IsExpr e → expr_nesting e ≤ depth → statement depth (stmt_tokens (assign path e) ++ rest) ≡ Some (assign path e, rest)
unfolding statement_with named_at
named_assigns depth [] e rest is_path is fits = absurd is_path
named_assigns depth (n ∷ ns) e rest is_path is fits = let it = assigns ns (expr_tokens e ++ (AMark marks.Semicolon ∷ [])) rest in rw it ((assign_again depth (n ∷ ns) e is_path is fits).again rest tt)

alone_back : (depth : ℕ) (s : StmtTree) (rest : List Value) → reads_as (λ x. s) (mark marks.Semicolon) (AMark marks.Semicolon ∷ rest) ≡ Some (s, rest)
alone_back depth s rest = (Reads-as (λ (x : Unit {0}). s) (mark_reads marks.Semicolon)).again rest tt

frame_back : (verb : FrameVerb) (reference : List ℕ) (index : Option ExprTree) → StmtBack (frame verb reference index)
unfolding statement_with
frame_back verbs.Incarnate reference index depth rest is fits off = (frame_again depth verbs.Incarnate reference index is fits).again rest tt
frame_back verbs.Destroy reference index depth rest is fits off = (frame_again depth verbs.Destroy reference index is fits).again rest tt
frame_back verbs.Deport reference index depth rest is fits off = (frame_again depth verbs.Deport reference index is fits).again rest tt

repeat_back : (n : ℕ) (body : Stmts) → BlockIn body → StmtBack (repeat n body)
unfolding statement_with repeat_at block_tokens
repeat_back n body block depth rest is fits off = (Reads-as (λ (x : ℕ × Stmts). repeat x.0 x.1) (Reads-⊕ (number_reads n) (block depth is fits) (λ us any. tt))).again rest tt

mutual
  unfolding statement_with

  pub stmt_back : (s : StmtTree) → StmtBack s
  stmt_back empty depth rest is fits off = refl
  stmt_back (assign path e) depth rest is fits off = named_assigns depth path e rest is.0 is.1 fits
  stmt_back (choose no_branch o) depth rest is fits off = absurd is.0
  stmt_back (choose (a_branch e body bs) o) depth rest is fits off = choose_back e body bs o (block_in body (stmts_back body)) (more_back bs) (else_back o) depth rest is fits off
  stmt_back (repeat n body) depth rest is fits off = repeat_back n body (block_in body (stmts_back body)) depth rest is fits off
  stmt_back (send s) depth rest is fits off = named_sends depth s rest is fits
  stmt_back defer depth rest is fits off = alone_back depth defer rest
  stmt_back recall depth rest is fits off = alone_back depth recall rest
  stmt_back recall_all depth rest is fits off = alone_back depth recall_all rest
  stmt_back (frame verb reference index) depth rest is fits off = frame_back verb reference index depth rest is fits off
  stmt_back (import_at reference index id) depth rest is fits off = (import_again depth reference index id is.0 is.1 (omega arith) (omega arith)).again rest tt
  stmt_back (register port service) depth rest is fits off = (register_again port service).again rest tt
  stmt_back (withdraw port) depth rest is fits off = (withdraw_again port).again rest tt

  pub stmts_back : (ss : Stmts) → StmtsBack ss
  stmts_back no_stmt = no_stmts_back
  stmts_back (a_stmt s ss) = a_stmt_back s ss (stmt_back s) (stmts_back ss)

  more_back : (bs : Branches) → MoreBack bs
  more_back no_branch = no_more_back
  more_back (a_branch e body bs) = a_more_back e body bs (block_in body (stmts_back body)) (more_back bs)

  else_back : (o : Otherwise) → ElseBack o
  else_back no_else = no_else_back
  else_back (an_else body) = an_else_back body (block_in body (stmts_back body))

-- statements are read as themselves, up to where they end
pub stmts_again : (ss : Stmts) (depth : ℕ) → AreStmts ss → nesting ss ≤ depth → Reads (stmts_at (statement depth)) (stmts_tokens ss) ss (λ rest. goes_on rest ≡ false)
stmts_again ss depth are fits = stmts_reads ss (stmts_back ss) depth are fits
