-- A recogniser of programs and conditions with a stack of what is still expected (Knuth 1971), which nests without recursion.
use Rattle.std.specs.Prelude.{◌≡◌, List, [], ◌∷◌, ◌++◌, Option, Some, None, if◌then◌else◌, option_and_then}
use Rattle.room_lexer.specs.declared.token.Mark.TheVariants as marks
use Rattle.room_tokens.specs.Reader.{◌⊕◌, reads_as, rest_of}
use Rattle.room_tokens.specs.action_tokens.Values.{Value, AWord, AName, AMark}
use Rattle.room_tokens.specs.action_tokens.Single.{comes, comes_word, mark, name_at, number_at}
use Rattle.room_tokens.specs.declared.action_tokens.word.ActionWord.TheVariants as words
use Rattle.action_parse.specs.action_reading.ExprReading.{operator_comes, path_at, operand}
use Rattle.action_parse.specs.action_reading.StmtReading.{is_send, prio_at, register_at, withdraw_at, else_if_comes}
use Rattle.action_parse.specs.declared.goal.Goal.{Goal}
use Rattle.action_parse.specs.declared.goal.Goal.TheVariants.{Take, Prio, Index, Message, Operand, Operators, Arguments, Otherwise, Statements}

-- A block, and what is expected behind it.
abbrev pub and_block : List Goal → List Goal
and_block gs = Take marks.OpenBrace ∷ Statements ∷ Take marks.CloseBrace ∷ gs

-- A condition in parentheses, its block, and the rest of the chain. An expression is an operand, and then operators with their right sides.
abbrev pub and_branch : List Goal → List Goal
and_branch gs = Take marks.OpenParen ∷ Operand ∷ Operators ∷ Take marks.CloseParen ∷ and_block (Otherwise ∷ gs)

-- how a message ends
abbrev pub ends_message : List Goal
ends_message = Take marks.CloseParen ∷ Prio ∷ Take marks.Semicolon ∷ []

-- the goals in place of one, and the tokens left for them
abbrev pub Expansion : Type 0
Expansion = Option (List Goal × List Value)

abbrev pub if_message : List Value → Expansion
if_message us = if comes marks.CloseParen us then Some (ends_message, us) else Some (Operand ∷ Operators ∷ Arguments ∷ ends_message, us)

-- behind the place of a send
unfoldable pub message_goals : List Value → Expansion
message_goals ts = option_and_then (λ x. if_message x.1) ((mark marks.Dot ⊕ name_at ⊕ mark marks.OpenParen) ts)

unfoldable pub operand_goals : List Value → Expansion
operand_goals (AMark marks.OpenParen ∷ us) = Some (Operand ∷ Operators ∷ Take marks.CloseParen ∷ [], us)
operand_goals (AMark marks.Minus ∷ us) = Some (Operand ∷ [], us)
operand_goals (AMark marks.Bang ∷ us) = Some (Operand ∷ [], us)
operand_goals ts = reads_as (λ x. []) (operand 0) ts

unfoldable pub otherwise_goals : List Value → Expansion
otherwise_goals ts =
    if else_if_comes ts then Some (and_branch [], rest_of (rest_of ts)) else if comes_word words.Else ts then Some (and_block [], rest_of ts) else Some ([], ts)

-- behind a name at the beginning of a statement
unfoldable pub named_goals : List Value → Expansion
named_goals ts =
    if is_send (rest_of ts) then Some (Index ∷ Message ∷ Statements ∷ [], rest_of ts)
    else reads_as (λ x. Take marks.Equals ∷ Operand ∷ Operators ∷ Take marks.Semicolon ∷ Statements ∷ []) path_at ts

unfoldable pub statements_goals : List Value → Expansion
statements_goals [] = Some ([], [])
statements_goals (AMark marks.CloseBrace ∷ us) = Some ([], AMark marks.CloseBrace ∷ us)
statements_goals (AMark marks.Semicolon ∷ us) = Some (Statements ∷ [], us)
statements_goals (AName n ∷ us) = named_goals (AName n ∷ us)
statements_goals (AWord words.If ∷ us) = Some (and_branch (Statements ∷ []), us)
statements_goals (AWord words.Repeat ∷ us) = reads_as (λ x. and_block (Statements ∷ [])) number_at us
statements_goals (AWord words.Defer ∷ us) = Some (Take marks.Semicolon ∷ Statements ∷ [], us)
statements_goals (AWord words.Recall ∷ us) = Some (Take marks.Semicolon ∷ Statements ∷ [], us)
statements_goals (AWord words.RecallAll ∷ us) = Some (Take marks.Semicolon ∷ Statements ∷ [], us)
statements_goals (AWord words.Incarnate ∷ us) = reads_as (λ x. Index ∷ Take marks.Semicolon ∷ Statements ∷ []) name_at us
statements_goals (AWord words.Destroy ∷ us) = reads_as (λ x. Index ∷ Take marks.Semicolon ∷ Statements ∷ []) name_at us
statements_goals (AWord words.Deport ∷ us) = reads_as (λ x. Index ∷ Take marks.Semicolon ∷ Statements ∷ []) name_at us
statements_goals (AWord words.Import ∷ us) = reads_as (λ x. Index ∷ Take marks.Equals ∷ Operand ∷ Operators ∷ Take marks.Semicolon ∷ Statements ∷ []) name_at us
statements_goals (AWord words.Register ∷ us) = reads_as (λ x. Statements ∷ []) register_at us
statements_goals (AWord words.Withdraw ∷ us) = reads_as (λ x. Statements ∷ []) withdraw_at us
statements_goals ts = None

-- What a goal stands for before these tokens: the goals in its place, and the tokens left for them.
abbrev pub expand : Goal → List Value → Expansion
expand (Take m) ts = reads_as (λ x. []) (mark m) ts
expand Prio ts = reads_as (λ x. []) prio_at ts
expand Index ts = if comes marks.OpenBracket ts then Some (Operand ∷ Operators ∷ Take marks.CloseBracket ∷ [], rest_of ts) else Some ([], ts)
expand Message ts = message_goals ts
expand Operand ts = operand_goals ts
expand Operators ts = if operator_comes ts then Some (Operand ∷ Operators ∷ [], rest_of ts) else Some ([], ts)
expand Arguments ts = if comes marks.Comma ts then Some (Operand ∷ Operators ∷ Arguments ∷ [], rest_of ts) else Some ([], ts)
expand Otherwise ts = otherwise_goals ts
expand Statements ts = statements_goals ts

-- The tokens are what is expected: the first goal is expanded again and again, until nothing is expected or left.
pub data Accepted : List Goal → List Value → Type 0 where
  done : Accepted [] []
  goes : (g : Goal) (gs others : List Goal) (ts us : List Value) → expand g ts ≡ Some (gs, us) → Accepted (gs ++ others) us → Accepted (g ∷ others) ts
