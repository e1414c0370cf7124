-- What is accepted has the trees that are expected.
use Rattle.std.proofs.Common.{◌≡◌, ℕ, Bool, true, false, cond, List, [], ◌∷◌, ◌++◌, Option, Some, None, refl, sym, ap, ◌∙◌, subst, append_assoc, append-nil, arith}
use Rattle.std.specs.Prelude.{option_map, option_and_then, is_some, ◌&&◌}
use Rattle.room_kinds.specs.declared.numbers.Priority.{Priority}
use Rattle.room_lexer.specs.declared.token.Mark.{Mark}
use Rattle.room_lexer.specs.declared.token.Mark.TheVariants as marks
use Rattle.room_ast.specs.Tokens.{each}
use Rattle.room_tokens.specs.Reader.{Reader, ◌⊕◌, reads_as, rest_of}
use Rattle.room_tokens.proofs.Readers.{Sound-⊕}
use Rattle.room_tokens.specs.action_tokens.Values.{Value, AWord, AName, ANumber, AMark}
use Rattle.room_tokens.specs.action_tokens.Single.{comes, comes_word, mark, name_at, number_at}
use Rattle.room_tokens.specs.declared.action_tokens.word.ActionWord.{ActionWord}
use Rattle.room_tokens.specs.declared.action_tokens.word.ActionWord.TheVariants as words
use Rattle.room_tokens.proofs.action_tokens.Singles.{comes_is, comes_word_is, mark_sound, name_sound, number_sound}
use Rattle.action_program.specs.Named.{ExprTree, a_paren, a_unary, StmtTree, empty, assign, choose, repeat, send, defer, recall, recall_all, frame, import_at, Stmts, no_stmt, a_stmt, Branches, no_branch, a_branch, Otherwise, no_else, an_else}
use Rattle.action_program.specs.declared.operator.UnaryOp.TheVariants as unary
use Rattle.action_program.specs.declared.operator.BinaryOp.{BinaryOp}
use Rattle.action_program.specs.declared.operator.FrameVerb.{FrameVerb}
use Rattle.action_program.specs.declared.operator.FrameVerb.TheVariants as verbs
use Rattle.action_parse.specs.action_reading.Tokens.{operator_mark, path_tokens, expr_tokens, index_tokens, arguments_tokens, prio_tokens, verb_word, stmt_tokens, stmts_tokens, more_tokens, else_tokens}
use Rattle.action_parse.specs.action_reading.Written.{AtLevel, IsExpr, IsIndex, AreExprs, IsPrio, IsStmt, AreStmts, AreBranches, IsElse}
use Rattle.action_parse.specs.action_reading.ExprReading.{operator_of, operator_comes, path_at, operand}
use Rattle.action_parse.specs.action_reading.StmtReading.{is_send, prio_at, register_at, withdraw_at, else_if_comes}
use Rattle.action_parse.proofs.action_reading.ExprSound.{higher, path_sound, path_always, op_mark_is, operand_sound, operand_always}
use Rattle.action_parse.proofs.action_reading.StmtSound.{prio_sound, prio_always, register_takes, withdraw_takes, block_tokens, branch_tokens}
use Rattle.action_parse.proofs.action_reading.StmtAlways.{register_always, withdraw_always}
use Rattle.action_parse.proofs.action_reading.StmtAgain.{grouped}
use Rattle.action_parse.specs.declared.goal.Goal.{Goal}
use Rattle.action_parse.specs.declared.goal.Goal.TheVariants as goals
use Rattle.action_parse.specs.declared.goal.Goal.TheVariants.{Take, Prio, Index, Message, Operand, Operators, Arguments, Statements}
use Rattle.action_parse.specs.Expected.{and_block, and_branch, ends_message, if_message, message_goals, operand_goals, otherwise_goals, named_goals, statements_goals, expand, Accepted, done, goes}
use Rattle.action_parse.proofs.Grouping.{pair_text, Operands, groups}

abbrev pub comma_text : ExprTree → List Value
comma_text e = AMark marks.Comma ∷ expr_tokens e

-- what stands behind the place of a send
abbrev pub message_text : List ℕ → List ExprTree → Option Priority → List Value
message_text signal es o = AMark marks.Dot ∷ AName signal ∷ AMark marks.OpenParen ∷ (arguments_tokens es ++ (AMark marks.CloseParen ∷ (prio_tokens o ++ (AMark marks.Semicolon ∷ []))))

-- the tokens begin with a tree of the goal, and go on as claimed
abbrev Taken : Goal → (List Value → Type 0) → List Value → Type 0
Taken (goals.Take m) K ts = (rest : List Value) × (ts ≡ AMark m ∷ rest) × K rest
Taken goals.Prio K ts = (o : Option Priority) × (rest : List Value) × IsPrio o × (ts ≡ prio_tokens o ++ rest) × K rest
Taken goals.Index K ts = (o : Option ExprTree) × (rest : List Value) × IsIndex o × (ts ≡ index_tokens o ++ rest) × K rest
Taken goals.Message K ts = (signal : List ℕ) × (es : List ExprTree) × (o : Option Priority) × (rest : List Value) × AreExprs es × IsPrio o × (ts ≡ message_text signal es o ++ rest) × K rest
Taken goals.Operand K ts = (e : ExprTree) × (rest : List Value) × AtLevel e 0 × (ts ≡ expr_tokens e ++ rest) × K rest
Taken goals.Operators K ts = (ss : List (BinaryOp × ExprTree)) × (rest : List Value) × Operands ss × (ts ≡ each pair_text ss ++ rest) × K rest
Taken goals.Arguments K ts = (es : List ExprTree) × (rest : List Value) × AreExprs es × (ts ≡ each comma_text es ++ rest) × K rest
Taken goals.Otherwise K ts = (bs : Branches) × (o : Otherwise) × (rest : List Value) × AreBranches bs × IsElse o × (ts ≡ (more_tokens bs ++ else_tokens o) ++ rest) × K rest
Taken goals.Statements K ts = (ss : Stmts) × (rest : List Value) × AreStmts ss × (ts ≡ stmts_tokens ss ++ rest) × K rest

-- the tokens are trees of the goals, one after another
abbrev pub Derives : List Goal → List Value → Type 0
Derives [] ts = ts ≡ []
Derives (g ∷ gs) ts = Taken g (λ rest. Derives gs rest) ts

-- ---- goals together

abbrev ExprOf : List Goal → List Value → Type 0
ExprOf gs ts = (e : ExprTree) × (rest : List Value) × IsExpr e × (ts ≡ expr_tokens e ++ rest) × Derives gs rest

expr_of : (gs : List Goal) (ts : List Value) → Derives (Operand ∷ Operators ∷ gs) ts → ExprOf gs ts
expr_of gs ts d =
    let o = d.4 in
    let g = groups o.0 d.0 (higher d.0 0 5 (omega arith) d.2) o.2 in
    (g.0, o.1, g.1, d.3 ∙ ap (λ us. expr_tokens d.0 ++ us) o.3 ∙ sym (append_assoc (expr_tokens d.0) (each pair_text o.0) o.1) ∙ ap (λ us. us ++ o.1) (sym g.2), o.4)

abbrev BlockOf : List Goal → List Value → Type 0
BlockOf gs ts = (ss : Stmts) × (rest : List Value) × AreStmts ss × (ts ≡ block_tokens ss ++ rest) × Derives gs rest

block_of : (gs : List Goal) (ts : List Value) → Derives (and_block gs) ts → BlockOf gs ts
unfolding block_tokens
block_of gs ts d =
    let s = d.2 in
    let c = s.4 in
    (s.0, c.0, s.2, d.1 ∙ ap (λ us. AMark marks.OpenBrace ∷ us) (s.3 ∙ ap (λ us. stmts_tokens s.0 ++ us) c.1 ∙ sym (append_assoc (stmts_tokens s.0) (AMark marks.CloseBrace ∷ []) c.0)), c.2)

abbrev BranchOf : List Goal → List Value → Type 0
BranchOf gs ts =
    (e : ExprTree) × (body : Stmts) × (bs : Branches) × (o : Otherwise) × (rest : List Value) × IsExpr e × AreStmts body × AreBranches bs × IsElse o × (ts ≡ branch_tokens (e, body) ++ ((more_tokens bs ++ else_tokens o) ++ rest)) × Derives gs rest

branch_of : (gs : List Goal) (ts : List Value) → Derives (and_branch gs) ts → BranchOf gs ts
unfolding branch_tokens
branch_of gs ts d =
    let x = expr_of (Take marks.CloseParen ∷ and_block (goals.Otherwise ∷ gs)) d.0 d.2 in
    let c = x.4 in
    let b = block_of (goals.Otherwise ∷ gs) c.0 c.2 in
    let o = b.4 in
    let behind = (more_tokens o.0 ++ else_tokens o.1) ++ o.2 in
    let closed : c.0 ≡ block_tokens b.0 ++ behind = b.3 ∙ ap (λ us. block_tokens b.0 ++ us) o.5 in
    let text : ts ≡ AMark marks.OpenParen ∷ (expr_tokens x.0 ++ (AMark marks.CloseParen ∷ (block_tokens b.0 ++ behind))) = d.1 ∙ ap (λ us. AMark marks.OpenParen ∷ us) (x.3 ∙ ap (λ us. expr_tokens x.0 ++ us) (c.1 ∙ ap (λ us. AMark marks.CloseParen ∷ us) closed)) in
    (x.0, b.0, o.0, o.1, o.2, x.2, b.2, o.3, o.4, text ∙ ap (λ us. AMark marks.OpenParen ∷ us) (sym (append_assoc (expr_tokens x.0) (AMark marks.CloseParen ∷ block_tokens b.0) behind)), o.6)

-- ---- expansions

same_goals : (gs : List Goal) (x y : List Goal × List Value) → Some x ≡ Some y → Derives (y.0 ++ gs) y.1 → Derives (x.0 ++ gs) x.1
same_goals gs x y e d = let same : x ≡ y = cc in subst (λ (z : List Goal × List Value). Derives (z.0 ++ gs) z.1) (sym same) d

as_goals : {A : Type 0} (p : Reader Value A) (hs gs : List Goal) (ts : List Value) (y : List Goal × List Value) (r : Option (A × List Value)) → p ts ≡ r → option_map (λ (x : A × List Value). (hs, x.1)) r ≡ Some y → Derives (y.0 ++ gs) y.1
    → (z : A × List Value) × (p ts ≡ Some z) × Derives (hs ++ gs) z.1
as_goals p hs gs ts y None i e d = absurd cc
as_goals p hs gs ts y (Some z) i e d = (z, i, same_goals gs (hs, z.1) y e d)

take_backs : (m : Mark) (gs : List Goal) (ts : List Value) (y : List Goal × List Value) → expand (goals.Take m) ts ≡ Some y → Derives (y.0 ++ gs) y.1 → Derives (goals.Take m ∷ gs) ts
take_backs m gs ts y e d = let z = as_goals (mark m) [] gs ts y (mark m ts) refl e d in (z.0.1, (mark_sound m).takes ts z.0 z.1, z.2)

prio_backs : (gs : List Goal) (ts : List Value) (y : List Goal × List Value) → expand goals.Prio ts ≡ Some y → Derives (y.0 ++ gs) y.1 → Derives (goals.Prio ∷ gs) ts
prio_backs gs ts y e d = let z = as_goals prio_at [] gs ts y (prio_at ts) refl e d in (z.0.0, z.0.1, prio_always.holds ts z.0 z.1, prio_sound.takes ts z.0 z.1, z.2)

index_backs : (gs : List Goal) (ts : List Value) (y : List Goal × List Value) → expand goals.Index ts ≡ Some y → Derives (y.0 ++ gs) y.1 → Derives (goals.Index ∷ gs) ts
index_backs gs ts y e d = by_test (comes marks.OpenBracket ts) refl e
  where
    by_test : (b : Bool) → comes marks.OpenBracket ts ≡ b → cond b (Some (Operand ∷ Operators ∷ Take marks.CloseBracket ∷ [], rest_of ts)) (Some ([], ts)) ≡ Some y → Derives (goals.Index ∷ gs) ts
    by_test false t h = (None, ts, tt, refl, same_goals gs ([], ts) y h d)
    by_test true t h =
        let x = expr_of (Take marks.CloseBracket ∷ gs) (rest_of ts) (same_goals gs (Operand ∷ Operators ∷ Take marks.CloseBracket ∷ [], rest_of ts) y h d) in
        let c = x.4 in
        let inner : rest_of ts ≡ (expr_tokens x.0 ++ (AMark marks.CloseBracket ∷ [])) ++ c.0 = x.3 ∙ ap (λ us. expr_tokens x.0 ++ us) c.1 ∙ sym (append_assoc (expr_tokens x.0) (AMark marks.CloseBracket ∷ []) c.0) in
        (Some x.0, c.0, x.2, comes_is marks.OpenBracket ts t ∙ ap (λ us. AMark marks.OpenBracket ∷ us) inner, c.2)

abbrev EndOf : List Goal → List Value → Type 0
EndOf gs ts = (o : Option Priority) × (rest : List Value) × IsPrio o × (ts ≡ (AMark marks.CloseParen ∷ (prio_tokens o ++ (AMark marks.Semicolon ∷ []))) ++ rest) × Derives gs rest

end_of : (gs : List Goal) (ts : List Value) → Derives (Take marks.CloseParen ∷ Prio ∷ Take marks.Semicolon ∷ gs) ts → EndOf gs ts
end_of gs ts d =
    let p = d.2 in
    let s = p.4 in
    (p.0, s.0, p.2, d.1 ∙ ap (λ us. AMark marks.CloseParen ∷ us) (p.3 ∙ ap (λ us. prio_tokens p.0 ++ us) s.1 ∙ sym (append_assoc (prio_tokens p.0) (AMark marks.Semicolon ∷ []) s.0)), s.2)

message_backs : (gs : List Goal) (ts : List Value) (y : List Goal × List Value) → message_goals ts ≡ Some y → Derives (y.0 ++ gs) y.1 → Derives (goals.Message ∷ gs) ts
unfolding message_goals
message_backs gs ts y e d = by_head ((mark marks.Dot ⊕ name_at ⊕ mark marks.OpenParen) ts) refl e
  where
    head_is : (x : (Unit {0} × (List ℕ × Unit {0})) × List Value) → (mark marks.Dot ⊕ name_at ⊕ mark marks.OpenParen) ts ≡ Some x → ts ≡ AMark marks.Dot ∷ AName x.0.1.0 ∷ AMark marks.OpenParen ∷ x.1
    head_is x h = (Sound-⊕ (mark_sound marks.Dot) (Sound-⊕ name_sound (mark_sound marks.OpenParen))).takes ts x h

    by_test : (x : (Unit {0} × (List ℕ × Unit {0})) × List Value) → ts ≡ AMark marks.Dot ∷ AName x.0.1.0 ∷ AMark marks.OpenParen ∷ x.1 → (b : Bool) → cond b (Some (ends_message, x.1)) (Some (Operand ∷ Operators ∷ goals.Arguments ∷ ends_message, x.1)) ≡ Some y → Derives (goals.Message ∷ gs) ts
    by_test x h true i =
        let z = end_of gs x.1 (same_goals gs (ends_message, x.1) y i d) in
        (x.0.1.0, [], z.0, z.1, tt, z.2, h ∙ ap (λ us. AMark marks.Dot ∷ AName x.0.1.0 ∷ AMark marks.OpenParen ∷ us) z.3, z.4)
    by_test x h false i =
        let a = expr_of (goals.Arguments ∷ Take marks.CloseParen ∷ Prio ∷ Take marks.Semicolon ∷ gs) x.1 (same_goals gs (Operand ∷ Operators ∷ goals.Arguments ∷ ends_message, x.1) y i d) in
        let m = a.4 in
        let z = end_of gs m.1 m.4 in
        let end_text = AMark marks.CloseParen ∷ (prio_tokens z.0 ++ (AMark marks.Semicolon ∷ [])) in
        let inner : x.1 ≡ ((expr_tokens a.0 ++ each comma_text m.0) ++ end_text) ++ z.1 =
        a.3 ∙ ap (λ us. expr_tokens a.0 ++ us) (m.3 ∙ ap (λ us. each comma_text m.0 ++ us) z.3 ∙ sym (append_assoc (each comma_text m.0) end_text z.1))
        ∙ sym (append_assoc (expr_tokens a.0) (each comma_text m.0 ++ end_text) z.1) ∙ ap (λ us. us ++ z.1) (sym (append_assoc (expr_tokens a.0) (each comma_text m.0) end_text)) in
        (x.0.1.0, a.0 ∷ m.0, z.0, z.1, (a.2, m.2), z.2, h ∙ ap (λ us. AMark marks.Dot ∷ AName x.0.1.0 ∷ AMark marks.OpenParen ∷ us) inner, z.4)

    by_head : (r : Option ((Unit {0} × (List ℕ × Unit {0})) × List Value)) → (mark marks.Dot ⊕ name_at ⊕ mark marks.OpenParen) ts ≡ r → option_and_then (λ (x : (Unit {0} × (List ℕ × Unit {0})) × List Value). if_message x.1) r ≡ Some y → Derives (goals.Message ∷ gs) ts
    by_head None h i = absurd cc
    by_head (Some x) h i = by_test x (head_is x h) (comes marks.CloseParen x.1) i

atom_backs : (gs : List Goal) (ts : List Value) (y : List Goal × List Value) → reads_as (λ x. []) (operand 0) ts ≡ Some y → Derives (y.0 ++ gs) y.1 → Derives (goals.Operand ∷ gs) ts
atom_backs gs ts y e d =
    let z = as_goals (operand 0) [] gs ts y (operand 0 ts) refl e d in (z.0.0, z.0.1, ((operand_always 0).holds ts z.0 z.1).0, (operand_sound 0).takes ts z.0 z.1, z.2)

operand_backs : (gs : List Goal) (ts : List Value) (y : List Goal × List Value) → operand_goals ts ≡ Some y → Derives (y.0 ++ gs) y.1 → Derives (goals.Operand ∷ gs) ts
unfolding operand_goals
operand_backs gs (AMark marks.OpenParen ∷ us) y e d =
    let x = expr_of (Take marks.CloseParen ∷ gs) us (same_goals gs (Operand ∷ Operators ∷ Take marks.CloseParen ∷ [], us) y e d) in
    let c = x.4 in
    (a_paren x.0, c.0, x.2, ap (λ vs. AMark marks.OpenParen ∷ vs) (x.3 ∙ ap (λ vs. expr_tokens x.0 ++ vs) c.1 ∙ sym (append_assoc (expr_tokens x.0) (AMark marks.CloseParen ∷ []) c.0)), c.2)
operand_backs gs (AMark marks.Minus ∷ us) y e d =
    let x : Derives (Operand ∷ gs) us = same_goals gs (Operand ∷ [], us) y e d in (a_unary unary.Negate x.0, x.1, x.2, ap (λ vs. AMark marks.Minus ∷ vs) x.3, x.4)
operand_backs gs (AMark marks.Bang ∷ us) y e d =
    let x : Derives (Operand ∷ gs) us = same_goals gs (Operand ∷ [], us) y e d in (a_unary unary.Not x.0, x.1, x.2, ap (λ vs. AMark marks.Bang ∷ vs) x.3, x.4)
operand_backs gs ts y e d = atom_backs gs ts y e d

pub operator_is : (ts : List Value) → operator_comes ts ≡ true → (op : BinaryOp) × (ts ≡ AMark (operator_mark op) ∷ rest_of ts)
unfolding operator_comes
operator_is [] h = absurd cc
operator_is (AWord w ∷ ts) h = absurd cc
operator_is (AName n ∷ ts) h = absurd cc
operator_is (ANumber n ∷ ts) h = absurd cc
operator_is (AMark m ∷ ts) h = by_op (operator_of m) refl h
  where
    by_op : (o : Option BinaryOp) → operator_of m ≡ o → is_some o ≡ true → (op : BinaryOp) × (AMark m ∷ ts ≡ AMark (operator_mark op) ∷ ts)
    by_op None i e = absurd cc
    by_op (Some op) i e = (op, ap (λ (k : Mark). AMark k ∷ ts) (op_mark_is m op i))

operators_backs : (gs : List Goal) (ts : List Value) (y : List Goal × List Value) → expand goals.Operators ts ≡ Some y → Derives (y.0 ++ gs) y.1 → Derives (goals.Operators ∷ gs) ts
operators_backs gs ts y e d = by_test (operator_comes ts) refl e
  where
    by_test : (b : Bool) → operator_comes ts ≡ b → cond b (Some (Operand ∷ Operators ∷ [], rest_of ts)) (Some ([], ts)) ≡ Some y → Derives (goals.Operators ∷ gs) ts
    by_test false t h = ([], ts, tt, refl, same_goals gs ([], ts) y h d)
    by_test true t h =
        let op = operator_is ts t in
        let x : Derives (Operand ∷ Operators ∷ gs) (rest_of ts) = same_goals gs (Operand ∷ Operators ∷ [], rest_of ts) y h d in
        let o = x.4 in
        ((op.0, x.0) ∷ o.0, o.1, (x.2, o.2), op.1 ∙ ap (λ us. AMark (operator_mark op.0) ∷ us) (x.3 ∙ ap (λ us. expr_tokens x.0 ++ us) o.3 ∙ sym (append_assoc (expr_tokens x.0) (each pair_text o.0) o.1)), o.4)

arguments_backs : (gs : List Goal) (ts : List Value) (y : List Goal × List Value) → expand goals.Arguments ts ≡ Some y → Derives (y.0 ++ gs) y.1 → Derives (goals.Arguments ∷ gs) ts
arguments_backs gs ts y e d = by_test (comes marks.Comma ts) refl e
  where
    by_test : (b : Bool) → comes marks.Comma ts ≡ b → cond b (Some (Operand ∷ Operators ∷ goals.Arguments ∷ [], rest_of ts)) (Some ([], ts)) ≡ Some y → Derives (goals.Arguments ∷ gs) ts
    by_test false t h = ([], ts, tt, refl, same_goals gs ([], ts) y h d)
    by_test true t h =
        let x = expr_of (goals.Arguments ∷ gs) (rest_of ts) (same_goals gs (Operand ∷ Operators ∷ goals.Arguments ∷ [], rest_of ts) y h d) in
        let o = x.4 in
        (x.0 ∷ o.0, o.1, (x.2, o.2), comes_is marks.Comma ts t ∙ ap (λ us. AMark marks.Comma ∷ us) (x.3 ∙ ap (λ us. expr_tokens x.0 ++ us) o.3 ∙ sym (append_assoc (expr_tokens x.0) (each comma_text o.0) o.1)), o.4)

pub else_if_is : (ts : List Value) → else_if_comes ts ≡ true → ts ≡ AWord words.Else ∷ AWord words.If ∷ rest_of (rest_of ts)
unfolding else_if_comes
else_if_is ts h = by_test (comes_word words.Else ts) refl h
  where
    by_test : (b : Bool) → comes_word words.Else ts ≡ b → (b && comes_word words.If (rest_of ts)) ≡ true → ts ≡ AWord words.Else ∷ AWord words.If ∷ rest_of (rest_of ts)
    by_test false t i = absurd cc
    by_test true t i = comes_word_is words.Else ts t ∙ ap (λ us. AWord words.Else ∷ us) (comes_word_is words.If (rest_of ts) i)

-- the tokens of a branch, and what comes behind it
branch_text : (e : ExprTree) (body : Stmts) (bs : Branches) (o : Otherwise) (rest : List Value) → branch_tokens (e, body) ++ ((more_tokens bs ++ else_tokens o) ++ rest)
    ≡ (AMark marks.OpenParen ∷ ((expr_tokens e ++ (AMark marks.CloseParen ∷ AMark marks.OpenBrace ∷ (stmts_tokens body ++ (AMark marks.CloseBrace ∷ more_tokens bs)))) ++ else_tokens o)) ++ rest
branch_text e body bs o rest =
    sym (append_assoc (branch_tokens (e, body)) (more_tokens bs ++ else_tokens o) rest)
    ∙ ap (λ us. us ++ rest) (sym (append_assoc (branch_tokens (e, body)) (more_tokens bs) (else_tokens o)) ∙ ap (λ us. us ++ else_tokens o) (sym (grouped e body (more_tokens bs))))

otherwise_backs : (gs : List Goal) (ts : List Value) (y : List Goal × List Value) → otherwise_goals ts ≡ Some y → Derives (y.0 ++ gs) y.1 → Derives (goals.Otherwise ∷ gs) ts
unfolding otherwise_goals block_tokens
otherwise_backs gs ts y e d = by_test (else_if_comes ts) refl e
  where
    by_else : (b : Bool) → comes_word words.Else ts ≡ b → cond b (Some (and_block [], rest_of ts)) (Some ([], ts)) ≡ Some y → Derives (goals.Otherwise ∷ gs) ts
    by_else false t h = (no_branch, no_else, ts, tt, tt, refl, same_goals gs ([], ts) y h d)
    by_else true t h =
        let b = block_of gs (rest_of ts) (same_goals gs (and_block [], rest_of ts) y h d) in
        (no_branch, an_else b.0, b.1, tt, b.2, comes_word_is words.Else ts t ∙ ap (λ us. AWord words.Else ∷ us) b.3, b.4)

    by_test : (b : Bool) → else_if_comes ts ≡ b → cond b (Some (and_branch [], rest_of (rest_of ts))) (cond (comes_word words.Else ts) (Some (and_block [], rest_of ts)) (Some ([], ts))) ≡ Some y → Derives (goals.Otherwise ∷ gs) ts
    by_test false t h = by_else (comes_word words.Else ts) refl h
    by_test true t h =
        let x = branch_of gs (rest_of (rest_of ts)) (same_goals gs (and_branch [], rest_of (rest_of ts)) y h d) in
        (a_branch x.0 x.1 x.2, x.3, x.4, (x.5, x.6, x.7), x.8, else_if_is ts t ∙ ap (λ us. AWord words.Else ∷ AWord words.If ∷ us) (x.9 ∙ branch_text x.0 x.1 x.2 x.3 x.4), x.10)

-- ---- statements

with_stmt : (s : StmtTree) (gs : List Goal) (ts us : List Value) → IsStmt s → ts ≡ stmt_tokens s ++ us → Derives (Statements ∷ gs) us → Derives (Statements ∷ gs) ts
with_stmt s gs ts us is e d = (a_stmt s d.0, d.1, (is, d.2), e ∙ ap (λ vs. stmt_tokens s ++ vs) d.3 ∙ sym (append_assoc (stmt_tokens s) (stmts_tokens d.0) d.1), d.4)

named_backs : (gs : List Goal) (n : List ℕ) (us : List Value) (y : List Goal × List Value) → named_goals (AName n ∷ us) ≡ Some y → Derives (y.0 ++ gs) y.1 → Derives (goals.Statements ∷ gs) (AName n ∷ us)
unfolding named_goals
named_backs gs n us y e d = by_test (is_send us) e
  where
    by_test : (b : Bool) → cond b (Some (goals.Index ∷ goals.Message ∷ Statements ∷ [], us)) (reads_as (λ x. Take marks.Equals ∷ Operand ∷ Operators ∷ Take marks.Semicolon ∷ Statements ∷ []) path_at (AName n ∷ us)) ≡ Some y → Derives (goals.Statements ∷ gs) (AName n ∷ us)
    by_test true h =
        let x : Derives (goals.Index ∷ goals.Message ∷ Statements ∷ gs) us = same_goals gs (goals.Index ∷ goals.Message ∷ Statements ∷ [], us) y h d in
        let m = x.4 in
        let text : us ≡ (index_tokens x.0 ++ message_text m.0 m.1 m.2) ++ m.3 = x.3 ∙ ap (λ vs. index_tokens x.0 ++ vs) m.6 ∙ sym (append_assoc (index_tokens x.0) (message_text m.0 m.1 m.2) m.3) in
        with_stmt (send (record { port = n; place = x.0; signal = m.0; arguments = m.1; prio = m.2 })) gs (AName n ∷ us) m.3 (x.2, m.4, m.5) (ap (λ vs. AName n ∷ vs) text) m.7
    by_test false h =
        let z = as_goals path_at (Take marks.Equals ∷ Operand ∷ Operators ∷ Take marks.Semicolon ∷ Statements ∷ []) gs (AName n ∷ us) y (path_at (AName n ∷ us)) refl h d in
        let q = z.2 in
        let x = expr_of (Take marks.Semicolon ∷ Statements ∷ gs) q.0 q.2 in
        let c = x.4 in
        let path = path_tokens z.0.0 in
        let text : z.0.1 ≡ (AMark marks.Equals ∷ (expr_tokens x.0 ++ (AMark marks.Semicolon ∷ []))) ++ c.0 = q.1 ∙ ap (λ vs. AMark marks.Equals ∷ vs) (x.3 ∙ ap (λ vs. expr_tokens x.0 ++ vs) c.1 ∙ sym (append_assoc (expr_tokens x.0) (AMark marks.Semicolon ∷ []) c.0)) in
        with_stmt (assign z.0.0 x.0) gs (AName n ∷ us) c.0 (path_always.holds (AName n ∷ us) z.0 z.1, x.2)
        (path_sound.takes (AName n ∷ us) z.0 z.1 ∙ ap (λ vs. path ++ vs) text ∙ sym (append_assoc path (AMark marks.Equals ∷ (expr_tokens x.0 ++ (AMark marks.Semicolon ∷ []))) c.0)) c.2

alone_backs : (w : ActionWord) (s : StmtTree) (gs : List Goal) (us : List Value) (y : List Goal × List Value) → IsStmt s → stmt_tokens s ≡ AWord w ∷ AMark marks.Semicolon ∷ [] → Some (Take marks.Semicolon ∷ Statements ∷ [], us) ≡ Some y → Derives (y.0 ++ gs) y.1 → Derives (goals.Statements ∷ gs) (AWord w ∷ us)
alone_backs w s gs us y is t e d =
    let x : Derives (Take marks.Semicolon ∷ Statements ∷ gs) us = same_goals gs (Take marks.Semicolon ∷ Statements ∷ [], us) y e d in
    with_stmt s gs (AWord w ∷ us) x.0 is (ap (λ vs. AWord w ∷ vs) x.1 ∙ ap (λ vs. vs ++ x.0) (sym t)) x.2

frame_backs : (verb : FrameVerb) (gs : List Goal) (us : List Value) (y : List Goal × List Value) → reads_as (λ x. goals.Index ∷ Take marks.Semicolon ∷ Statements ∷ []) name_at us ≡ Some y → Derives (y.0 ++ gs) y.1 → Derives (goals.Statements ∷ gs) (AWord (verb_word verb) ∷ us)
frame_backs verb gs us y e d =
    let z = as_goals name_at (goals.Index ∷ Take marks.Semicolon ∷ Statements ∷ []) gs us y (name_at us) refl e d in
    let i = z.2 in
    let c = i.4 in
    let text : us ≡ (AName z.0.0 ∷ (index_tokens i.0 ++ (AMark marks.Semicolon ∷ []))) ++ c.0 = name_sound.takes us z.0 z.1 ∙ ap (λ vs. AName z.0.0 ∷ vs) (i.3 ∙ ap (λ vs. index_tokens i.0 ++ vs) c.1 ∙ sym (append_assoc (index_tokens i.0) (AMark marks.Semicolon ∷ []) c.0)) in
    with_stmt (frame verb z.0.0 i.0) gs (AWord (verb_word verb) ∷ us) c.0 i.2 (ap (λ vs. AWord (verb_word verb) ∷ vs) text) c.2

import_backs : (gs : List Goal) (us : List Value) (y : List Goal × List Value) → reads_as (λ x. goals.Index ∷ Take marks.Equals ∷ Operand ∷ Operators ∷ Take marks.Semicolon ∷ Statements ∷ []) name_at us ≡ Some y → Derives (y.0 ++ gs) y.1
    → Derives (goals.Statements ∷ gs) (AWord words.Import ∷ us)
import_backs gs us y e d =
    let z = as_goals name_at (goals.Index ∷ Take marks.Equals ∷ Operand ∷ Operators ∷ Take marks.Semicolon ∷ Statements ∷ []) gs us y (name_at us) refl e d in
    let i = z.2 in
    let q = i.4 in
    let x = expr_of (Take marks.Semicolon ∷ Statements ∷ gs) q.0 q.2 in
    let c = x.4 in
    let value : i.1 ≡ (AMark marks.Equals ∷ (expr_tokens x.0 ++ (AMark marks.Semicolon ∷ []))) ++ c.0 = q.1 ∙ ap (λ vs. AMark marks.Equals ∷ vs) (x.3 ∙ ap (λ vs. expr_tokens x.0 ++ vs) c.1 ∙ sym (append_assoc (expr_tokens x.0) (AMark marks.Semicolon ∷ []) c.0)) in
    let text : us ≡ (AName z.0.0 ∷ (index_tokens i.0 ++ (AMark marks.Equals ∷ (expr_tokens x.0 ++ (AMark marks.Semicolon ∷ []))))) ++ c.0 =
    name_sound.takes us z.0 z.1 ∙ ap (λ vs. AName z.0.0 ∷ vs) (i.3 ∙ ap (λ vs. index_tokens i.0 ++ vs) value ∙ sym (append_assoc (index_tokens i.0) (AMark marks.Equals ∷ (expr_tokens x.0 ++ (AMark marks.Semicolon ∷ []))) c.0)) in
    with_stmt (import_at z.0.0 i.0 x.0) gs (AWord words.Import ∷ us) c.0 (i.2, x.2) (ap (λ vs. AWord words.Import ∷ vs) text) c.2

repeat_backs : (gs : List Goal) (us : List Value) (y : List Goal × List Value) → reads_as (λ x. and_block (Statements ∷ [])) number_at us ≡ Some y → Derives (y.0 ++ gs) y.1 → Derives (goals.Statements ∷ gs) (AWord words.Repeat ∷ us)
unfolding block_tokens
repeat_backs gs us y e d =
    let z = as_goals number_at (and_block (Statements ∷ [])) gs us y (number_at us) refl e d in
    let b = block_of (Statements ∷ gs) z.0.1 z.2 in
    with_stmt (repeat z.0.0 b.0) gs (AWord words.Repeat ∷ us) b.1 b.2 (ap (λ vs. AWord words.Repeat ∷ vs) (number_sound.takes us z.0 z.1 ∙ ap (λ vs. ANumber z.0.0 ∷ vs) b.3)) b.4

if_backs : (gs : List Goal) (us : List Value) (y : List Goal × List Value) → Some (and_branch (Statements ∷ []), us) ≡ Some y → Derives (y.0 ++ gs) y.1 → Derives (goals.Statements ∷ gs) (AWord words.If ∷ us)
if_backs gs us y e d =
    let x = branch_of (Statements ∷ gs) us (same_goals gs (and_branch (Statements ∷ []), us) y e d) in
    with_stmt (choose (a_branch x.0 x.1 x.2) x.3) gs (AWord words.If ∷ us) x.4 (tt, (x.5, x.6, x.7), x.8) (ap (λ vs. AWord words.If ∷ vs) (x.9 ∙ branch_text x.0 x.1 x.2 x.3 x.4)) x.10

register_backs : (gs : List Goal) (us : List Value) (y : List Goal × List Value) → reads_as (λ x. Statements ∷ []) register_at us ≡ Some y → Derives (y.0 ++ gs) y.1 → Derives (goals.Statements ∷ gs) (AWord words.Register ∷ us)
register_backs gs us y e d =
    let z = as_goals register_at (Statements ∷ []) gs us y (register_at us) refl e d in with_stmt z.0.0 gs (AWord words.Register ∷ us) z.0.1 ((register_always 0).holds us z.0 z.1).0 (register_takes us z.0 z.1) z.2

withdraw_backs : (gs : List Goal) (us : List Value) (y : List Goal × List Value) → reads_as (λ x. Statements ∷ []) withdraw_at us ≡ Some y → Derives (y.0 ++ gs) y.1 → Derives (goals.Statements ∷ gs) (AWord words.Withdraw ∷ us)
withdraw_backs gs us y e d =
    let z = as_goals withdraw_at (Statements ∷ []) gs us y (withdraw_at us) refl e d in with_stmt z.0.0 gs (AWord words.Withdraw ∷ us) z.0.1 ((withdraw_always 0).holds us z.0 z.1).0 (withdraw_takes us z.0 z.1) z.2

statements_backs : (gs : List Goal) (ts : List Value) (y : List Goal × List Value) → statements_goals ts ≡ Some y → Derives (y.0 ++ gs) y.1 → Derives (goals.Statements ∷ gs) ts
unfolding statements_goals
statements_backs gs [] y e d = (no_stmt, [], tt, refl, same_goals gs ([], []) y e d)
statements_backs gs (AMark marks.CloseBrace ∷ us) y e d = (no_stmt, AMark marks.CloseBrace ∷ us, tt, refl, same_goals gs ([], AMark marks.CloseBrace ∷ us) y e d)
statements_backs gs (AMark marks.Semicolon ∷ us) y e d = with_stmt empty gs (AMark marks.Semicolon ∷ us) us tt refl (same_goals gs (Statements ∷ [], us) y e d)
statements_backs gs (AName n ∷ us) y e d = named_backs gs n us y e d
statements_backs gs (AWord words.If ∷ us) y e d = if_backs gs us y e d
statements_backs gs (AWord words.Repeat ∷ us) y e d = repeat_backs gs us y e d
statements_backs gs (AWord words.Defer ∷ us) y e d = alone_backs words.Defer defer gs us y tt refl e d
statements_backs gs (AWord words.Recall ∷ us) y e d = alone_backs words.Recall recall gs us y tt refl e d
statements_backs gs (AWord words.RecallAll ∷ us) y e d = alone_backs words.RecallAll recall_all gs us y tt refl e d
statements_backs gs (AWord words.Incarnate ∷ us) y e d = frame_backs verbs.Incarnate gs us y e d
statements_backs gs (AWord words.Destroy ∷ us) y e d = frame_backs verbs.Destroy gs us y e d
statements_backs gs (AWord words.Deport ∷ us) y e d = frame_backs verbs.Deport gs us y e d
statements_backs gs (AWord words.Import ∷ us) y e d = import_backs gs us y e d
statements_backs gs (AWord words.Register ∷ us) y e d = register_backs gs us y e d
statements_backs gs (AWord words.Withdraw ∷ us) y e d = withdraw_backs gs us y e d
statements_backs gs (t ∷ us) y e d = absurd cc

backs : (g : Goal) (gs : List Goal) (ts : List Value) (y : List Goal × List Value) → expand g ts ≡ Some y → Derives (y.0 ++ gs) y.1 → Derives (g ∷ gs) ts
backs (goals.Take m) gs ts y e d = take_backs m gs ts y e d
backs goals.Prio gs ts y e d = prio_backs gs ts y e d
backs goals.Index gs ts y e d = index_backs gs ts y e d
backs goals.Message gs ts y e d = message_backs gs ts y e d
backs goals.Operand gs ts y e d = operand_backs gs ts y e d
backs goals.Operators gs ts y e d = operators_backs gs ts y e d
backs goals.Arguments gs ts y e d = arguments_backs gs ts y e d
backs goals.Otherwise gs ts y e d = otherwise_backs gs ts y e d
backs goals.Statements gs ts y e d = statements_backs gs ts y e d

pub derived : {gs : List Goal} {ts : List Value} → Accepted gs ts → Derives gs ts
derived done = refl
derived (goes g gs others ts us e a) = backs g others ts (gs, us) e (derived a)

-- a text of statements alone has a program
pub program_of : (ts : List Value) → Accepted (Statements ∷ []) ts → (t : Stmts) × AreStmts t × (ts ≡ stmts_tokens t)
program_of ts a = let d : Derives (Statements ∷ []) ts = derived a in (d.0, d.2, d.3 ∙ ap (λ us. stmts_tokens d.0 ++ us) d.4 ∙ append-nil (stmts_tokens d.0))

pub condition_of : (ts : List Value) → Accepted (Operand ∷ Operators ∷ []) ts → (e : ExprTree) × IsExpr e × (ts ≡ expr_tokens e)
condition_of ts a = let x = expr_of [] ts (derived a) in (x.0, x.2, x.3 ∙ ap (λ us. expr_tokens x.0 ++ us) x.4 ∙ append-nil (expr_tokens x.0))
