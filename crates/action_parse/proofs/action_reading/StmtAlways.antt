-- What is read of statements is well formed, and nests no deeper.
use Rattle.std.proofs.Common.{◌≡◌, ℕ, zero, suc, ◌<◌, Bool, true, false, cond, List, [], ◌∷◌, Option, Some, None, arith}
use Rattle.room_lexer.specs.declared.token.Mark.TheVariants as marks
use Rattle.room_tokens.specs.Reader.{Reader, ◌⊕◌, reads_as, rest_of}
use Rattle.room_tokens.specs.action_tokens.Values.{Value, AWord, AName, AMark}
use Rattle.room_tokens.specs.action_tokens.Single.{comes, comes_word, mark, word, name_at, number_at}
use Rattle.room_tokens.specs.declared.action_tokens.word.ActionWord.TheVariants as words
use Rattle.action_program.specs.Named.{ExprTree, StmtTree, empty, assign, choose, repeat, defer, recall, recall_all, frame, import_at, register, withdraw, Stmts, stmts_of, branches_of, Otherwise}
use Rattle.action_program.specs.declared.operator.FrameVerb.{FrameVerb}
use Rattle.action_program.specs.declared.operator.FrameVerb.TheVariants as verbs
use Rattle.action_parse.specs.action_reading.Written.{IsIndex, AreExprs, HasBranch, IsStmt, AreStmts, AreBranches, IsElse, index_nesting, exprs_nesting, stmt_nesting, nesting, branches_nesting, else_nesting}
use Rattle.action_parse.specs.action_reading.ExprReading.{expression}
use Rattle.action_parse.specs.action_reading.StmtReading.{index_at, argument_at, some_arguments_at, arguments_at, is_send, send_at, assign_at, frame_at, import_behind, register_at, withdraw_at, repeat_at, branch_at, else_if_comes, else_if_at, else_of, else_at, branches_at, choose_at, named_at, statement_with, goes_on, stmts_at, block_at, block_below, statement}
use Rattle.action_parse.proofs.action_reading.Always.{Always, Each, IfThere, is_good, anything, Always-⊕, Always-as, Always-optional, Always-many}
use Rattle.action_parse.proofs.action_reading.ExprSound.{path_always, Fits, level_always, operand_always}
use Rattle.action_parse.proofs.action_reading.StmtSound.{Bracketed, sent_of, Assigned, Framed, Imported, Registered, Branched, prio_always}

abbrev pub StmtFits : ℕ → StmtTree → Type 0
StmtFits depth s = IsStmt s × (stmt_nesting s < depth)

-- a block, which nests one deeper
abbrev pub BlockFits : ℕ → Stmts → Type 0
BlockFits depth ss = AreStmts ss × (suc (nesting ss) < depth)

abbrev IndexFits : ℕ → Option ExprTree → Type 0
IndexFits depth o = IsIndex o × (index_nesting o < depth)

abbrev ArgumentsFit : ℕ → List ExprTree → Type 0
ArgumentsFit depth es = AreExprs es × (exprs_nesting es < depth)

abbrev BranchFits : ℕ → ExprTree × Stmts → Type 0
BranchFits depth b = Fits 5 depth b.0 × BlockFits depth b.1

index_fits : (depth : ℕ) (o : Option ExprTree) → IfThere (Fits 5 (suc depth)) o → IndexFits (suc depth) o
index_fits depth None h = (tt, omega arith)
index_fits depth (Some e) h = h

index_always : {p : Reader Value ExprTree} (depth : ℕ) → Always p (Fits 5 (suc depth)) → Always (index_at p) (IndexFits (suc depth))
unfolding index_at
index_always depth h = record {
  holds = λ ts z e. index_fits depth z.0 ((Always-optional (comes marks.OpenBracket) (Always-as (λ (x : Bracketed). x.1.0) (Fits 5 (suc depth)) (Always-⊕ (anything (mark marks.OpenBracket)) (Always-⊕ h (anything (mark marks.CloseBracket)))) (λ x g. g.1.0))).holds ts z e);
}

argument_always : {p : Reader Value ExprTree} (depth : ℕ) → Always p (Fits 5 depth) → Always (argument_at p) (Fits 5 depth)
unfolding argument_at
argument_always depth h = Always-as (λ (x : Unit {0} × ExprTree). x.1) (Fits 5 depth) (Always-⊕ (anything (mark marks.Comma)) h) (λ x g. g.1)

arguments_fit : (depth : ℕ) (es : List ExprTree) → Each (Fits 5 (suc depth)) es → ArgumentsFit (suc depth) es
arguments_fit depth [] h = (tt, omega arith)
arguments_fit depth (e ∷ es) h = let others = arguments_fit depth es h.1 in ((h.0.0, others.0), omega (arith, h.0.1, others.1))

some_always : {p : Reader Value ExprTree} (depth : ℕ) → Always p (Fits 5 (suc depth)) → Always (some_arguments_at p) (ArgumentsFit (suc depth))
unfolding some_arguments_at
some_always depth h = Always-as (λ (x : ExprTree × List ExprTree). x.0 ∷ x.1) (ArgumentsFit (suc depth)) (Always-⊕ h (Always-many (comes marks.Comma) (argument_always (suc depth) h))) (λ x g. arguments_fit depth (x.0 ∷ x.1) g)

arguments_hold : (depth : ℕ) (p : Reader Value ExprTree) → Always p (Fits 5 (suc depth)) → (ts : List Value) (b : Bool) (z : List ExprTree × List Value) → cond b (Some ([], ts)) (some_arguments_at p ts) ≡ Some z → ArgumentsFit (suc depth) z.0
arguments_hold depth p h ts true z e = is_good (ArgumentsFit (suc depth)) ([], ts) z (tt, omega arith) e
arguments_hold depth p h ts false z e = (some_always depth h).holds ts z e

arguments_always : {p : Reader Value ExprTree} (depth : ℕ) → Always p (Fits 5 (suc depth)) → Always (arguments_at p) (ArgumentsFit (suc depth))
unfolding arguments_at
arguments_always {p = p} depth h = record { holds = λ ts z e. arguments_hold depth p h ts (comes marks.CloseParen ts) z e }

send_always : {p : Reader Value ExprTree} (depth : ℕ) → Always p (Fits 5 (suc depth)) → Always (send_at p) (StmtFits (suc depth))
unfolding send_at
send_always depth h =
    Always-as sent_of (StmtFits (suc depth))
    (Always-⊕ (anything name_at) (Always-⊕ (index_always depth h) (Always-⊕ (anything (mark marks.Dot)) (Always-⊕ (anything name_at) (Always-⊕ (anything (mark marks.OpenParen)) (Always-⊕ (arguments_always depth h) (Always-⊕ (anything (mark marks.CloseParen)) (Always-⊕ prio_always (anything (mark marks.Semicolon))))))))))
    (λ x g. ((g.1.0.0, g.1.1.1.1.1.0.0, g.1.1.1.1.1.1.1.0), omega (arith, g.1.0.1, g.1.1.1.1.1.0.1)))

assign_always : {p : Reader Value ExprTree} (depth : ℕ) → Always p (Fits 5 (suc depth)) → Always (assign_at p) (StmtFits (suc depth))
unfolding assign_at
assign_always depth h =
    Always-as (λ (x : Assigned). assign x.0 x.1.1.0) (StmtFits (suc depth)) (Always-⊕ path_always (Always-⊕ (anything (mark marks.Equals)) (Always-⊕ h (anything (mark marks.Semicolon))))) (λ x g. ((g.0, g.1.1.0.0), g.1.1.0.1))

named_hold : (depth : ℕ) (p : Reader Value ExprTree) → Always p (Fits 5 (suc depth)) → (ts : List Value) (b : Bool) (z : StmtTree × List Value) → cond b (send_at p ts) (assign_at p ts) ≡ Some z → StmtFits (suc depth) z.0
named_hold depth p h ts true z e = (send_always depth h).holds ts z e
named_hold depth p h ts false z e = (assign_always depth h).holds ts z e

named_always : {p : Reader Value ExprTree} (depth : ℕ) → Always p (Fits 5 (suc depth)) → Always (named_at p) (StmtFits (suc depth))
unfolding named_at
named_always {p = p} depth h = record { holds = λ ts z e. named_hold depth p h ts (is_send (rest_of ts)) z e }

frame_always : {p : Reader Value ExprTree} (depth : ℕ) (verb : FrameVerb) → Always p (Fits 5 (suc depth)) → Always (frame_at p verb) (StmtFits (suc depth))
unfolding frame_at
frame_always depth verb h = Always-as (λ (x : Framed). frame verb x.0 x.1.0) (StmtFits (suc depth)) (Always-⊕ (anything name_at) (Always-⊕ (index_always depth h) (anything (mark marks.Semicolon)))) (λ x g. g.1.0)

import_always : {p : Reader Value ExprTree} (depth : ℕ) → Always p (Fits 5 (suc depth)) → Always (import_behind p) (StmtFits (suc depth))
unfolding import_behind
import_always depth h =
    Always-as (λ (x : Imported). import_at x.0 x.1.0 x.1.1.1.0) (StmtFits (suc depth)) (Always-⊕ (anything name_at) (Always-⊕ (index_always depth h) (Always-⊕ (anything (mark marks.Equals)) (Always-⊕ h (anything (mark marks.Semicolon))))))
    (λ x g. ((g.1.0.0, g.1.1.1.0.0), omega (arith, g.1.0.1, g.1.1.1.0.1)))

pub register_always : (depth : ℕ) → Always register_at (StmtFits (suc depth))
unfolding register_at
register_always depth = Always-as (λ (x : Registered). register x.0 x.1.1.0) (StmtFits (suc depth)) (anything (name_at ⊕ word words.As ⊕ name_at ⊕ mark marks.Semicolon)) (λ x g. (tt, omega arith))

pub withdraw_always : (depth : ℕ) → Always withdraw_at (StmtFits (suc depth))
unfolding withdraw_at
withdraw_always depth = Always-as (λ (x : List ℕ × Unit {0}). withdraw x.0) (StmtFits (suc depth)) (anything (name_at ⊕ mark marks.Semicolon)) (λ x g. (tt, omega arith))

repeat_always : {q : Reader Value Stmts} (depth : ℕ) → Always q (BlockFits (suc depth)) → Always (repeat_at q) (StmtFits (suc depth))
unfolding repeat_at
repeat_always depth k = Always-as (λ (x : ℕ × Stmts). repeat x.0 x.1) (StmtFits (suc depth)) (Always-⊕ (anything number_at) k) (λ x g. g.1)

branch_always : {p : Reader Value ExprTree} {q : Reader Value Stmts} (depth : ℕ) → Always p (Fits 5 depth) → Always q (BlockFits depth) → Always (branch_at p q) (BranchFits depth)
unfolding branch_at
branch_always depth h k =
    Always-as (λ (x : Branched). (x.1.0, x.1.1.1)) (BranchFits depth) (Always-⊕ (anything (mark marks.OpenParen)) (Always-⊕ h (Always-⊕ (anything (mark marks.CloseParen)) k))) (λ x g. (g.1.0, g.1.1.1))

else_if_always : {p : Reader Value ExprTree} {q : Reader Value Stmts} (depth : ℕ) → Always p (Fits 5 depth) → Always q (BlockFits depth) → Always (else_if_at p q) (BranchFits depth)
unfolding else_if_at
else_if_always depth h k = Always-as (λ (x : Unit {0} × (Unit {0} × (ExprTree × Stmts))). x.1.1) (BranchFits depth) (Always-⊕ (anything (word words.Else)) (Always-⊕ (anything (word words.If)) (branch_always depth h k))) (λ x g. g.1.1)

-- branches, of which there is one at least
abbrev BranchesFit : ℕ → List (ExprTree × Stmts) → Type 0
BranchesFit depth bs = HasBranch (branches_of bs) × AreBranches (branches_of bs) × (branches_nesting (branches_of bs) < depth)

branches_fit : (depth : ℕ) (bs : List (ExprTree × Stmts)) → Each (BranchFits (suc depth)) bs → AreBranches (branches_of bs) × (branches_nesting (branches_of bs) < suc depth)
branches_fit depth [] h = (tt, omega arith)
branches_fit depth (b ∷ bs) h =
    let others = branches_fit depth bs h.1 in ((h.0.0.0, h.0.1.0, others.0), omega (arith, h.0.0.1, h.0.1.1, others.1))

branches_always : {p : Reader Value ExprTree} {q : Reader Value Stmts} (depth : ℕ) → Always p (Fits 5 (suc depth)) → Always q (BlockFits (suc depth)) → Always (branches_at p q) (BranchesFit (suc depth))
unfolding branches_at
branches_always depth h k =
    Always-as (λ (x : (ExprTree × Stmts) × List (ExprTree × Stmts)). x.0 ∷ x.1) (BranchesFit (suc depth)) (Always-⊕ (branch_always (suc depth) h k) (Always-many else_if_comes (else_if_always (suc depth) h k)))
    (λ x g. let fit = branches_fit depth (x.0 ∷ x.1) g in (tt, fit.0, fit.1))

abbrev ElseFits : ℕ → Otherwise → Type 0
ElseFits depth o = IsElse o × (else_nesting o < depth)

else_fits : (depth : ℕ) (o : Option Stmts) → IfThere (BlockFits (suc depth)) o → ElseFits (suc depth) (else_of o)
else_fits depth None h = (tt, omega arith)
else_fits depth (Some ss) h = h

else_always : {q : Reader Value Stmts} (depth : ℕ) → Always q (BlockFits (suc depth)) → Always (else_at q) (ElseFits (suc depth))
unfolding else_at
else_always depth k =
    Always-as else_of (ElseFits (suc depth)) (Always-optional (comes_word words.Else) (Always-as (λ (x : Unit {0} × Stmts). x.1) (BlockFits (suc depth)) (Always-⊕ (anything (word words.Else)) k) (λ x g. g.1))) (else_fits depth)

choose_always : {p : Reader Value ExprTree} {q : Reader Value Stmts} (depth : ℕ) → Always p (Fits 5 (suc depth)) → Always q (BlockFits (suc depth)) → Always (choose_at p q) (StmtFits (suc depth))
unfolding choose_at
choose_always depth h k =
    Always-as (λ (x : List (ExprTree × Stmts) × Otherwise). choose (branches_of x.0) x.1) (StmtFits (suc depth)) (Always-⊕ (branches_always depth h k) (else_always depth k)) (λ x g. ((g.0.0, g.0.1, g.1.0), omega (arith, g.0.2, g.1.1)))

alone_holds : (depth : ℕ) (s : StmtTree) → StmtFits (suc depth) s → (ts : List Value) (z : StmtTree × List Value) → reads_as (λ x. s) (mark marks.Semicolon) ts ≡ Some z → StmtFits (suc depth) z.0
alone_holds depth s h ts z e = (Always-as (λ (x : Unit {0}). s) (StmtFits (suc depth)) (anything (mark marks.Semicolon)) (λ x g. h)).holds ts z e

statement_holds : (depth : ℕ) (p : Reader Value ExprTree) (q : Reader Value Stmts) → Always p (Fits 5 (suc depth)) → Always q (BlockFits (suc depth)) → (ts : List Value) (z : StmtTree × List Value) → statement_with p q ts ≡ Some z → StmtFits (suc depth) z.0
unfolding statement_with
statement_holds depth p q h k [] z e = absurd cc
statement_holds depth p q h k (AMark marks.Semicolon ∷ ts) z e = is_good (StmtFits (suc depth)) (empty, ts) z (tt, omega arith) e
statement_holds depth p q h k (AName n ∷ ts) z e = (named_always depth h).holds (AName n ∷ ts) z e
statement_holds depth p q h k (AWord words.If ∷ ts) z e = (choose_always depth h k).holds ts z e
statement_holds depth p q h k (AWord words.Repeat ∷ ts) z e = (repeat_always depth k).holds ts z e
statement_holds depth p q h k (AWord words.Defer ∷ ts) z e = alone_holds depth defer (tt, omega arith) ts z e
statement_holds depth p q h k (AWord words.Recall ∷ ts) z e = alone_holds depth recall (tt, omega arith) ts z e
statement_holds depth p q h k (AWord words.RecallAll ∷ ts) z e = alone_holds depth recall_all (tt, omega arith) ts z e
statement_holds depth p q h k (AWord words.Incarnate ∷ ts) z e = (frame_always depth verbs.Incarnate h).holds ts z e
statement_holds depth p q h k (AWord words.Destroy ∷ ts) z e = (frame_always depth verbs.Destroy h).holds ts z e
statement_holds depth p q h k (AWord words.Deport ∷ ts) z e = (frame_always depth verbs.Deport h).holds ts z e
statement_holds depth p q h k (AWord words.Import ∷ ts) z e = (import_always depth h).holds ts z e
statement_holds depth p q h k (AWord words.Register ∷ ts) z e = (register_always depth).holds ts z e
statement_holds depth p q h k (AWord words.Withdraw ∷ ts) z e = (withdraw_always depth).holds ts z e
statement_holds depth p q h k (t ∷ ts) z e = absurd cc

stmts_fit : (depth : ℕ) (ss : List StmtTree) → Each (StmtFits (suc depth)) ss → AreStmts (stmts_of ss) × (nesting (stmts_of ss) < suc depth)
stmts_fit depth [] h = (tt, omega arith)
stmts_fit depth (s ∷ ss) h = let others = stmts_fit depth ss h.1 in ((h.0.0, others.0), omega (arith, h.0.1, others.1))

abbrev pub StmtsFit : ℕ → Stmts → Type 0
StmtsFit depth ss = AreStmts ss × (nesting ss < depth)

stmts_always : {p : Reader Value StmtTree} (depth : ℕ) → Always p (StmtFits (suc depth)) → Always (stmts_at p) (StmtsFit (suc depth))
unfolding stmts_at
stmts_always depth h = Always-as stmts_of (StmtsFit (suc depth)) (Always-many goes_on h) (stmts_fit depth)

block_always : {p : Reader Value StmtTree} (depth : ℕ) → Always p (StmtFits (suc depth)) → Always (block_at p) (BlockFits (suc (suc depth)))
unfolding block_at
block_always depth h =
    Always-as (λ (x : Unit {0} × (Stmts × Unit {0})). x.1.0) (BlockFits (suc (suc depth))) (Always-⊕ (anything (mark marks.OpenBrace)) (Always-⊕ (stmts_always depth h) (anything (mark marks.CloseBrace)))) (λ x g. (g.1.0.0, omega (arith, g.1.0.1)))

pub expression_always : (depth : ℕ) → Always (expression depth) (Fits 5 (suc depth))
expression_always depth = level_always 5 (suc depth) (operand_always depth)

below_always : (depth : ℕ) → Always (block_below depth) (BlockFits (suc depth))
unfolding block_below
below_always zero = record { holds = λ ts z e. absurd cc }
below_always (suc depth) = record { holds = λ ts z e. (block_always depth (record { holds = statement_holds depth (expression depth) (block_below depth) (expression_always depth) (below_always depth) })).holds ts z e }

pub statement_always : (depth : ℕ) → Always (statement depth) (StmtFits (suc depth))
statement_always depth = record { holds = statement_holds depth (expression depth) (block_below depth) (expression_always depth) (below_always depth) }

pub program_always : (depth : ℕ) → Always (stmts_at (statement depth)) (StmtsFit (suc depth))
program_always depth = stmts_always depth (statement_always depth)
