-- Statements, read from left to right.
use Rattle.std.specs.Prelude.{ℕ, zero, suc, List, [], ◌∷◌, Option, Some, None, Bool, false, not, ◌&&◌, ◌||◌, option_map, option_and_then, if◌then◌else◌}
use Rattle.room_kinds.specs.declared.numbers.Priority.{Priority}
use Rattle.room_lexer.specs.declared.token.Mark.TheVariants as marks
use Rattle.room_tokens.specs.Reader.{Reader, ◌⊕◌, reads_as, optional, all_while, to_end, rest_of}
use Rattle.room_tokens.specs.action_tokens.Values.{Value, AWord, AName, AMark, action_values}
use Rattle.room_tokens.specs.action_tokens.Single.{comes, comes_word, mark, word, name_at, number_at}
use Rattle.room_tokens.specs.declared.action_tokens.word.ActionWord.{ActionWord}
use Rattle.room_tokens.specs.declared.action_tokens.word.ActionWord.TheVariants as words
use Rattle.action_program.specs.Named.{ExprTree, StmtTree, empty, assign, choose, repeat, send, defer, recall, recall_all, frame, import_at, register, withdraw, Stmts, stmts_of, branches_of, Otherwise, no_else, an_else}
use Rattle.action_program.specs.declared.operator.FrameVerb.{FrameVerb}
use Rattle.action_program.specs.declared.operator.FrameVerb.TheVariants as verbs
use Rattle.action_parse.specs.action_reading.ExprReading.{path_at, expression}

-- [ "[" expr "]" ]
unfoldable pub index_at : Reader Value ExprTree → Reader Value (Option ExprTree)
index_at expr = optional (comes marks.OpenBracket) (reads_as (λ x. x.1.0) (mark marks.OpenBracket ⊕ expr ⊕ mark marks.CloseBracket))

-- "," expr
unfoldable pub argument_at : Reader Value ExprTree → Reader Value ExprTree
argument_at expr = reads_as (λ x. x.1) (mark marks.Comma ⊕ expr)

-- expr { "," expr }
unfoldable pub some_arguments_at : Reader Value ExprTree → Reader Value (List ExprTree)
some_arguments_at expr = reads_as (λ x. x.0 ∷ x.1) (expr ⊕ all_while (comes marks.Comma) (argument_at expr))

-- [ expr { "," expr } ], before a closing parenthesis
unfoldable pub arguments_at : Reader Value ExprTree → Reader Value (List ExprTree)
arguments_at expr ts = if comes marks.CloseParen ts then Some ([], ts) else some_arguments_at expr ts

abbrev pub prio_of : ActionWord → Option Priority
prio_of words.Panic = Some (record { 0 = 1 })
prio_of words.High = Some (record { 0 = 2 })
prio_of words.General = Some (record { 0 = 3 })
prio_of words.Low = Some (record { 0 = 4 })
prio_of words.Background = Some (record { 0 = 5 })
prio_of w = None

unfoldable pub prio_word_at : Reader Value Priority
prio_word_at (AWord w ∷ ts) = option_map (λ p. (p, ts)) (prio_of w)
prio_word_at ts = None

-- [ "at" prio ]
unfoldable pub prio_at : Reader Value (Option Priority)
prio_at = optional (comes_word words.At) (reads_as (λ x. x.1) (word words.At ⊕ prio_word_at))

-- Whether a name before these tokens begins a send: a place stands behind it, or a dot, a token and an opening parenthesis.
unfoldable pub is_send : List Value → Bool
is_send ts = comes marks.OpenBracket ts || (comes marks.Dot ts && comes marks.OpenParen (rest_of (rest_of ts)))

unfoldable pub send_at : Reader Value ExprTree → Reader Value StmtTree
send_at expr =
    reads_as (λ x. send (record { port = x.0; place = x.1.0; signal = x.1.1.1.0; arguments = x.1.1.1.1.1.0; prio = x.1.1.1.1.1.1.1.0 }))
    (name_at ⊕ index_at expr ⊕ mark marks.Dot ⊕ name_at ⊕ mark marks.OpenParen ⊕ arguments_at expr ⊕ mark marks.CloseParen ⊕ prio_at ⊕ mark marks.Semicolon)

unfoldable pub assign_at : Reader Value ExprTree → Reader Value StmtTree
assign_at expr = reads_as (λ x. assign x.0 x.1.1.0) (path_at ⊕ mark marks.Equals ⊕ expr ⊕ mark marks.Semicolon)

unfoldable pub frame_at : Reader Value ExprTree → FrameVerb → Reader Value StmtTree
frame_at expr verb = reads_as (λ x. frame verb x.0 x.1.0) (name_at ⊕ index_at expr ⊕ mark marks.Semicolon)

unfoldable pub import_behind : Reader Value ExprTree → Reader Value StmtTree
import_behind expr = reads_as (λ x. import_at x.0 x.1.0 x.1.1.1.0) (name_at ⊕ index_at expr ⊕ mark marks.Equals ⊕ expr ⊕ mark marks.Semicolon)

unfoldable pub register_at : Reader Value StmtTree
register_at = reads_as (λ x. register x.0 x.1.1.0) (name_at ⊕ word words.As ⊕ name_at ⊕ mark marks.Semicolon)

unfoldable pub withdraw_at : Reader Value StmtTree
withdraw_at = reads_as (λ x. withdraw x.0) (name_at ⊕ mark marks.Semicolon)

unfoldable pub repeat_at : Reader Value Stmts → Reader Value StmtTree
repeat_at block = reads_as (λ x. repeat x.0 x.1) (number_at ⊕ block)

-- "(" expr ")" block
unfoldable pub branch_at : Reader Value ExprTree → Reader Value Stmts → Reader Value (ExprTree × Stmts)
branch_at expr block = reads_as (λ x. (x.1.0, x.1.1.1)) (mark marks.OpenParen ⊕ expr ⊕ mark marks.CloseParen ⊕ block)

unfoldable pub else_if_comes : List Value → Bool
else_if_comes ts = comes_word words.Else ts && comes_word words.If (rest_of ts)

unfoldable pub else_if_at : Reader Value ExprTree → Reader Value Stmts → Reader Value (ExprTree × Stmts)
else_if_at expr block = reads_as (λ x. x.1.1) (word words.Else ⊕ word words.If ⊕ branch_at expr block)

abbrev pub else_of : Option Stmts → Otherwise
else_of None = no_else
else_of (Some body) = an_else body

-- [ "else" block ]
unfoldable pub else_at : Reader Value Stmts → Reader Value Otherwise
else_at block = reads_as else_of (optional (comes_word words.Else) (reads_as (λ x. x.1) (word words.Else ⊕ block)))

-- behind the first "if"
unfoldable pub branches_at : Reader Value ExprTree → Reader Value Stmts → Reader Value (List (ExprTree × Stmts))
branches_at expr block = reads_as (λ x. x.0 ∷ x.1) (branch_at expr block ⊕ all_while else_if_comes (else_if_at expr block))

unfoldable pub choose_at : Reader Value ExprTree → Reader Value Stmts → Reader Value StmtTree
choose_at expr block = reads_as (λ x. choose (branches_of x.0) x.1) (branches_at expr block ⊕ else_at block)

-- a statement that begins with a name
unfoldable pub named_at : Reader Value ExprTree → Reader Value StmtTree
named_at expr ts = if is_send (rest_of ts) then send_at expr ts else assign_at expr ts

-- A statement; its expressions and blocks are read by the given readers.
unfoldable pub statement_with : Reader Value ExprTree → Reader Value Stmts → Reader Value StmtTree
statement_with expr block (AMark marks.Semicolon ∷ ts) = Some (empty, ts)
statement_with expr block (AName n ∷ ts) = named_at expr (AName n ∷ ts)
statement_with expr block (AWord words.If ∷ ts) = choose_at expr block ts
statement_with expr block (AWord words.Repeat ∷ ts) = repeat_at block ts
statement_with expr block (AWord words.Defer ∷ ts) = reads_as (λ x. defer) (mark marks.Semicolon) ts
statement_with expr block (AWord words.Recall ∷ ts) = reads_as (λ x. recall) (mark marks.Semicolon) ts
statement_with expr block (AWord words.RecallAll ∷ ts) = reads_as (λ x. recall_all) (mark marks.Semicolon) ts
statement_with expr block (AWord words.Incarnate ∷ ts) = frame_at expr verbs.Incarnate ts
statement_with expr block (AWord words.Destroy ∷ ts) = frame_at expr verbs.Destroy ts
statement_with expr block (AWord words.Deport ∷ ts) = frame_at expr verbs.Deport ts
statement_with expr block (AWord words.Import ∷ ts) = import_behind expr ts
statement_with expr block (AWord words.Register ∷ ts) = register_at ts
statement_with expr block (AWord words.Withdraw ∷ ts) = withdraw_at ts
statement_with expr block ts = None

-- whether statements go on: neither a closing brace nor the end comes
unfoldable pub goes_on : List Value → Bool
goes_on [] = false
goes_on (t ∷ ts) = not (comes marks.CloseBrace (t ∷ ts))

unfoldable pub stmts_at : Reader Value StmtTree → Reader Value Stmts
stmts_at statement = reads_as stmts_of (all_while goes_on statement)

-- "{" { stmt } "}"
unfoldable pub block_at : Reader Value StmtTree → Reader Value Stmts
block_at statement = reads_as (λ x. x.1.0) (mark marks.OpenBrace ⊕ stmts_at statement ⊕ mark marks.CloseBrace)

-- a block in which all nests less deep than the number
unfoldable pub block_below : ℕ → Reader Value Stmts
block_below zero ts = None
block_below (suc depth) ts = block_at (statement_with (expression depth) (block_below depth)) ts

-- a statement in which blocks, parentheses and signs nest no deeper than the number
abbrev pub statement : ℕ → Reader Value StmtTree
statement depth = statement_with (expression depth) (block_below depth)

-- the program that a text has, nested no deeper than the number
unfoldable pub program_at : ℕ → List ℕ → Option Stmts
program_at depth bytes = option_and_then (to_end (stmts_at (statement depth))) (action_values bytes)

-- the condition that a text has, nested no deeper than the number
unfoldable pub condition_at : ℕ → List ℕ → Option ExprTree
condition_at depth bytes = option_and_then (to_end (expression depth)) (action_values bytes)
