-- What is read of statements has these tokens, is well formed and nests no deeper.
use Rattle.std.proofs.Common.{◌≡◌, ℕ, zero, suc, ◌<◌, ◌≤◌, Bool, true, false, cond, List, [], ◌∷◌, ◌++◌, Option, Some, None, refl, sym, ap, ◌∙◌, subst, append_assoc, arith}
use Rattle.std.specs.Prelude.{option_map}
use Rattle.room_kinds.specs.declared.numbers.Priority.{Priority}
use Rattle.room_lexer.specs.declared.token.Mark.TheVariants as marks
use Rattle.room_ast.specs.Tokens.{each, maybe}
use Rattle.room_tokens.specs.Reader.{Reader, ◌⊕◌, reads_as, all_while, rest_of}
use Rattle.room_tokens.proofs.Readers.{Sound, Sound-⊕, Sound-as, Sound-maybe, Sound-many, behind_takes, taken}
use Rattle.room_tokens.specs.action_tokens.Values.{Value, AWord, AName, ANumber, AMark}
use Rattle.room_tokens.specs.action_tokens.Single.{comes, comes_word, mark, word, name_at, number_at}
use Rattle.room_tokens.specs.declared.action_tokens.word.ActionWord.{ActionWord}
use Rattle.room_tokens.specs.declared.action_tokens.word.ActionWord.TheVariants as words
use Rattle.room_tokens.proofs.action_tokens.Singles.{mark_sound, word_sound, name_sound, number_sound}
use Rattle.action_program.specs.Named.{ExprTree, StmtTree, empty, assign, choose, repeat, send, defer, recall, recall_all, frame, import_at, register, withdraw, Stmts, stmts_of, branches_of, Otherwise}
use Rattle.action_program.specs.declared.operator.FrameVerb.{FrameVerb}
use Rattle.action_program.specs.declared.operator.FrameVerb.TheVariants as verbs
use Rattle.action_parse.specs.action_reading.Tokens.{expr_tokens, index_tokens, arguments_tokens, prio_word, prio_tokens, verb_word, stmt_tokens, stmts_tokens, first_tokens, more_tokens, else_tokens}
use Rattle.action_parse.specs.action_reading.Written.{IsPrio}
use Rattle.action_parse.specs.action_reading.ExprReading.{expression}
use Rattle.action_parse.specs.action_reading.StmtReading.{index_at, argument_at, some_arguments_at, arguments_at, prio_word_at, prio_at, is_send, send_at, assign_at, frame_at, import_behind, register_at, withdraw_at, repeat_at, branch_at, else_if_comes, else_if_at, else_of, else_at, branches_at, choose_at, named_at, statement_with, goes_on, stmts_at, block_at, block_below, statement}
use Rattle.action_parse.proofs.action_reading.Always.{Always, IfThere, anything, Always-⊕, Always-as, Always-optional}
use Rattle.action_parse.proofs.action_reading.ExprSound.{path_sound, level_sound, operand_sound}

-- ---- another value, where the values read are good

as_good_takes : {V A B : Type 0} (p : Reader V A) (s : A → List V) (G : A → Type 0) (f : A → B) (t : B → List V) → Sound p s → Always p G → ((x : A) → G x → t (f x) ≡ s x) → (ts : List V) (z : B × List V) (r : Option (A × List V)) → p ts ≡ r
    → option_map (λ (x : A × List V). (f x.0, x.1)) r ≡ Some z → ts ≡ t z.0 ++ z.1
as_good_takes p s G f t h g same ts z None i e = absurd cc
as_good_takes p s G f t h g same ts z (Some a) i e = taken t ts (f a.0, a.1) z (h.takes ts a i ∙ ap (λ us. us ++ a.1) (sym (same a.0 (g.holds ts a i)))) e

behind_good_takes : {V A B : Type 0} (w : V) (p : Reader V A) (s : A → List V) (G : A → Type 0) (f : A → B) (t : B → List V) → Sound p s → Always p G → ((x : A) → G x → t (f x) ≡ w ∷ s x) → (ts : List V) (z : B × List V) (r : Option (A × List V)) → p ts ≡ r
    → option_map (λ (x : A × List V). (f x.0, x.1)) r ≡ Some z → w ∷ ts ≡ t z.0 ++ z.1
behind_good_takes w p s G f t h g same ts z None i e = absurd cc
behind_good_takes w p s G f t h g same ts z (Some a) i e =
    taken t (w ∷ ts) (f a.0, a.1) z (ap (λ us. w ∷ us) (h.takes ts a i) ∙ ap (λ us. us ++ a.1) (sym (same a.0 (g.holds ts a i)))) e

-- ---- indices, arguments and priorities

abbrev pub Bracketed : Type 0
Bracketed = Unit {0} × (ExprTree × Unit {0})

abbrev in_brackets : ExprTree → List Value
in_brackets e = AMark marks.OpenBracket ∷ (expr_tokens e ++ (AMark marks.CloseBracket ∷ []))

pub index_sound : {p : Reader Value ExprTree} → Sound p expr_tokens → Sound (index_at p) index_tokens
unfolding index_at
index_sound h = Sound-maybe (comes marks.OpenBracket) (Sound-as (λ (x : Bracketed). x.1.0) in_brackets (Sound-⊕ (mark_sound marks.OpenBracket) (Sound-⊕ h (mark_sound marks.CloseBracket))) (λ x. refl))

pub argument_sound : {p : Reader Value ExprTree} → Sound p expr_tokens → Sound (argument_at p) (λ e. AMark marks.Comma ∷ expr_tokens e)
unfolding argument_at
argument_sound h = Sound-as (λ (x : Unit {0} × ExprTree). x.1) (λ (e : ExprTree). AMark marks.Comma ∷ expr_tokens e) (Sound-⊕ (mark_sound marks.Comma) h) (λ x. refl)

some_arguments_sound : {p : Reader Value ExprTree} → Sound p expr_tokens → Sound (some_arguments_at p) arguments_tokens
unfolding some_arguments_at
some_arguments_sound h = Sound-as (λ (x : ExprTree × List ExprTree). x.0 ∷ x.1) arguments_tokens (Sound-⊕ h (Sound-many (comes marks.Comma) (argument_sound h))) (λ x. refl)

arguments_take : (p : Reader Value ExprTree) → Sound p expr_tokens → (ts : List Value) (b : Bool) (z : List ExprTree × List Value) → cond b (Some ([], ts)) (some_arguments_at p ts) ≡ Some z → ts ≡ arguments_tokens z.0 ++ z.1
arguments_take p h ts true z e = taken arguments_tokens ts ([], ts) z refl e
arguments_take p h ts false z e = (some_arguments_sound h).takes ts z e

arguments_sound : {p : Reader Value ExprTree} → Sound p expr_tokens → Sound (arguments_at p) arguments_tokens
unfolding arguments_at
arguments_sound {p = p} h = record { takes = λ ts z e. arguments_take p h ts (comes marks.CloseParen ts) z e }

prio_word_tokens : Priority → List Value
prio_word_tokens p = AWord (prio_word p.0) ∷ []

abbrev HasWord : Priority → Type 0
HasWord p = (0 < p.0) × (p.0 ≤ 5)

record Worded (ts : List Value) (z : Priority × List Value) : Type 0 where
  takes : ts ≡ AWord (prio_word z.0.0) ∷ z.1
  has : HasWord z.0

worded : (n : ℕ) (ts : List Value) (us : List Value) (z : Priority × List Value) → ts ≡ AWord (prio_word n) ∷ us → 0 < n → n ≤ 5 → Some (record { 0 = n }, us) ≡ Some z → Worded ts z
worded n ts us z h some few e =
    let made : Priority × List Value = (record { 0 = n }, us) in
    let same : made ≡ z = cc in subst (λ (y : Priority × List Value). Worded ts y) same (record { takes = h; has = (some, few) })

prio_made : (ts : List Value) (z : Priority × List Value) → prio_word_at ts ≡ Some z → Worded ts z
unfolding prio_word_at
prio_made [] z e = absurd cc
prio_made (AWord words.Panic ∷ ts) z e = worded 1 (AWord words.Panic ∷ ts) ts z refl (omega arith) (omega arith) e
prio_made (AWord words.High ∷ ts) z e = worded 2 (AWord words.High ∷ ts) ts z refl (omega arith) (omega arith) e
prio_made (AWord words.General ∷ ts) z e = worded 3 (AWord words.General ∷ ts) ts z refl (omega arith) (omega arith) e
prio_made (AWord words.Low ∷ ts) z e = worded 4 (AWord words.Low ∷ ts) ts z refl (omega arith) (omega arith) e
prio_made (AWord words.Background ∷ ts) z e = worded 5 (AWord words.Background ∷ ts) ts z refl (omega arith) (omega arith) e
prio_made (t ∷ ts) z e = absurd cc

prio_word_sound : Sound prio_word_at prio_word_tokens
unfolding prio_word_tokens
prio_word_sound = record { takes = λ ts z e. (prio_made ts z e).takes }

pub prio_sound : Sound prio_at prio_tokens
unfolding prio_at prio_word_tokens
prio_sound = Sound-maybe (comes_word words.At) (Sound-as (λ (x : Unit {0} × Priority). x.1) (λ (p : Priority). AWord words.At ∷ AWord (prio_word p.0) ∷ []) (Sound-⊕ (word_sound words.At) prio_word_sound) (λ x. refl))

pub prio_always : Always prio_at IsPrio
unfolding prio_at
prio_always = record { holds = λ ts z e. same z.0 ((Always-optional (comes_word words.At) (Always-as (λ (x : Unit {0} × Priority). x.1) HasWord (Always-⊕ (anything (word words.At)) (record { holds = λ us y d. (prio_made us y d).has })) (λ x g. g.1))).holds ts z e) }
  where
    same : (o : Option Priority) → IfThere HasWord o → IsPrio o
    same None h = tt
    same (Some p) h = h

-- ---- statements without blocks

abbrev pub Sent : Type 0
Sent = List ℕ × (Option ExprTree × (Unit {0} × (List ℕ × (Unit {0} × (List ExprTree × (Unit {0} × (Option Priority × Unit {0})))))))

abbrev pub sent_of : Sent → StmtTree
sent_of x = send (record { port = x.0; place = x.1.0; signal = x.1.1.1.0; arguments = x.1.1.1.1.1.0; prio = x.1.1.1.1.1.1.1.0 })

send_sound : {p : Reader Value ExprTree} → Sound p expr_tokens → Sound (send_at p) stmt_tokens
unfolding send_at
send_sound h =
    Sound-as sent_of stmt_tokens
    (Sound-⊕ name_sound (Sound-⊕ (index_sound h) (Sound-⊕ (mark_sound marks.Dot) (Sound-⊕ name_sound (Sound-⊕ (mark_sound marks.OpenParen) (Sound-⊕ (arguments_sound h) (Sound-⊕ (mark_sound marks.CloseParen) (Sound-⊕ prio_sound (mark_sound marks.Semicolon)))))))))
    (λ x. refl)

abbrev pub Assigned : Type 0
Assigned = List (List ℕ) × (Unit {0} × (ExprTree × Unit {0}))

assign_sound : {p : Reader Value ExprTree} → Sound p expr_tokens → Sound (assign_at p) stmt_tokens
unfolding assign_at
assign_sound h = Sound-as (λ (x : Assigned). assign x.0 x.1.1.0) stmt_tokens (Sound-⊕ path_sound (Sound-⊕ (mark_sound marks.Equals) (Sound-⊕ h (mark_sound marks.Semicolon)))) (λ x. refl)

named_takes : (p : Reader Value ExprTree) → Sound p expr_tokens → (ts : List Value) (b : Bool) (z : StmtTree × List Value) → cond b (send_at p ts) (assign_at p ts) ≡ Some z → ts ≡ stmt_tokens z.0 ++ z.1
named_takes p h ts true z e = (send_sound h).takes ts z e
named_takes p h ts false z e = (assign_sound h).takes ts z e

named_sound : {p : Reader Value ExprTree} → Sound p expr_tokens → Sound (named_at p) stmt_tokens
unfolding named_at
named_sound {p = p} h = record { takes = λ ts z e. named_takes p h ts (is_send (rest_of ts)) z e }

abbrev pub Framed : Type 0
Framed = List ℕ × (Option ExprTree × Unit {0})

frame_takes : (p : Reader Value ExprTree) → Sound p expr_tokens → (verb : FrameVerb) (ts : List Value) (z : StmtTree × List Value) → frame_at p verb ts ≡ Some z → AWord (verb_word verb) ∷ ts ≡ stmt_tokens z.0 ++ z.1
unfolding frame_at
frame_takes p h verb ts z e =
    behind_takes (AWord (verb_word verb)) (name_at ⊕ index_at p ⊕ mark marks.Semicolon) (λ (x : Framed). AName x.0 ∷ (index_tokens x.1.0 ++ (AMark marks.Semicolon ∷ []))) (λ (x : Framed). frame verb x.0 x.1.0) stmt_tokens
    (Sound-⊕ name_sound (Sound-⊕ (index_sound h) (mark_sound marks.Semicolon))) (λ x. refl) ts z e

abbrev pub Imported : Type 0
Imported = List ℕ × (Option ExprTree × (Unit {0} × (ExprTree × Unit {0})))

import_takes : (p : Reader Value ExprTree) → Sound p expr_tokens → (ts : List Value) (z : StmtTree × List Value) → import_behind p ts ≡ Some z → AWord words.Import ∷ ts ≡ stmt_tokens z.0 ++ z.1
unfolding import_behind
import_takes p h ts z e =
    behind_takes (AWord words.Import) (name_at ⊕ index_at p ⊕ mark marks.Equals ⊕ p ⊕ mark marks.Semicolon) (λ (x : Imported). AName x.0 ∷ (index_tokens x.1.0 ++ (AMark marks.Equals ∷ (expr_tokens x.1.1.1.0 ++ (AMark marks.Semicolon ∷ [])))))
    (λ (x : Imported). import_at x.0 x.1.0 x.1.1.1.0) stmt_tokens (Sound-⊕ name_sound (Sound-⊕ (index_sound h) (Sound-⊕ (mark_sound marks.Equals) (Sound-⊕ h (mark_sound marks.Semicolon))))) (λ x. refl) ts z e

abbrev pub Registered : Type 0
Registered = List ℕ × (Unit {0} × (List ℕ × Unit {0}))

pub register_takes : (ts : List Value) (z : StmtTree × List Value) → register_at ts ≡ Some z → AWord words.Register ∷ ts ≡ stmt_tokens z.0 ++ z.1
unfolding register_at
register_takes ts z e =
    behind_takes (AWord words.Register) (name_at ⊕ word words.As ⊕ name_at ⊕ mark marks.Semicolon) (λ (x : Registered). AName x.0 ∷ AWord words.As ∷ AName x.1.1.0 ∷ AMark marks.Semicolon ∷ []) (λ (x : Registered). register x.0 x.1.1.0) stmt_tokens
    (Sound-⊕ name_sound (Sound-⊕ (word_sound words.As) (Sound-⊕ name_sound (mark_sound marks.Semicolon)))) (λ x. refl) ts z e

pub withdraw_takes : (ts : List Value) (z : StmtTree × List Value) → withdraw_at ts ≡ Some z → AWord words.Withdraw ∷ ts ≡ stmt_tokens z.0 ++ z.1
unfolding withdraw_at
withdraw_takes ts z e =
    behind_takes (AWord words.Withdraw) (name_at ⊕ mark marks.Semicolon) (λ (x : List ℕ × Unit {0}). AName x.0 ∷ AMark marks.Semicolon ∷ []) (λ (x : List ℕ × Unit {0}). withdraw x.0) stmt_tokens
    (Sound-⊕ name_sound (mark_sound marks.Semicolon)) (λ x. refl) ts z e

alone_takes : (w : ActionWord) (s : StmtTree) → stmt_tokens s ≡ AWord w ∷ AMark marks.Semicolon ∷ [] → (ts : List Value) (z : StmtTree × List Value) → reads_as (λ x. s) (mark marks.Semicolon) ts ≡ Some z → AWord w ∷ ts ≡ stmt_tokens z.0 ++ z.1
alone_takes w s h ts z e = behind_takes (AWord w) (mark marks.Semicolon) (λ (x : Unit {0}). AMark marks.Semicolon ∷ []) (λ (x : Unit {0}). s) stmt_tokens (mark_sound marks.Semicolon) (λ x. h) ts z e

-- ---- statements with blocks

unfoldable pub block_tokens : Stmts → List Value
block_tokens ss = AMark marks.OpenBrace ∷ (stmts_tokens ss ++ (AMark marks.CloseBrace ∷ []))

unfoldable pub branch_tokens : ExprTree × Stmts → List Value
branch_tokens b = AMark marks.OpenParen ∷ (expr_tokens b.0 ++ (AMark marks.CloseParen ∷ block_tokens b.1))

unfoldable pub else_if_tokens : ExprTree × Stmts → List Value
else_if_tokens b = AWord words.Else ∷ AWord words.If ∷ branch_tokens b

abbrev pub Branched : Type 0
Branched = Unit {0} × (ExprTree × (Unit {0} × Stmts))

branch_sound : {p : Reader Value ExprTree} {q : Reader Value Stmts} → Sound p expr_tokens → Sound q block_tokens → Sound (branch_at p q) branch_tokens
unfolding branch_at branch_tokens
branch_sound h k = Sound-as (λ (x : Branched). (x.1.0, x.1.1.1)) branch_tokens (Sound-⊕ (mark_sound marks.OpenParen) (Sound-⊕ h (Sound-⊕ (mark_sound marks.CloseParen) k))) (λ x. refl)

pub else_if_sound : {p : Reader Value ExprTree} {q : Reader Value Stmts} → Sound p expr_tokens → Sound q block_tokens → Sound (else_if_at p q) else_if_tokens
unfolding else_if_at else_if_tokens
else_if_sound h k = Sound-as (λ (x : Unit {0} × (Unit {0} × (ExprTree × Stmts))). x.1.1) else_if_tokens (Sound-⊕ (word_sound words.Else) (Sound-⊕ (word_sound words.If) (branch_sound h k))) (λ x. refl)

branches_tokens : List (ExprTree × Stmts) → List Value
branches_tokens [] = []
branches_tokens (b ∷ bs) = branch_tokens b ++ each else_if_tokens bs

branches_sound : {p : Reader Value ExprTree} {q : Reader Value Stmts} → Sound p expr_tokens → Sound q block_tokens → Sound (branches_at p q) branches_tokens
unfolding branches_at branches_tokens
branches_sound h k = Sound-as (λ (x : (ExprTree × Stmts) × List (ExprTree × Stmts)). x.0 ∷ x.1) branches_tokens (Sound-⊕ (branch_sound h k) (Sound-many else_if_comes (else_if_sound h k))) (λ x. refl)

abbrev IsSome : List (ExprTree × Stmts) → Type 0
IsSome [] = ⊥
IsSome (b ∷ bs) = Unit {0}

pub regroup : (e : ExprTree) (ss : Stmts) (us : List Value) → expr_tokens e ++ (AMark marks.CloseParen ∷ AMark marks.OpenBrace ∷ (stmts_tokens ss ++ (AMark marks.CloseBrace ∷ us))) ≡ (expr_tokens e ++ (AMark marks.CloseParen ∷ (AMark marks.OpenBrace ∷ (stmts_tokens ss ++ (AMark marks.CloseBrace ∷ []))))) ++ us
regroup e ss us =
    ap (λ vs. expr_tokens e ++ (AMark marks.CloseParen ∷ AMark marks.OpenBrace ∷ vs)) (sym (append_assoc (stmts_tokens ss) (AMark marks.CloseBrace ∷ []) us))
    ∙ sym (append_assoc (expr_tokens e) (AMark marks.CloseParen ∷ (AMark marks.OpenBrace ∷ (stmts_tokens ss ++ (AMark marks.CloseBrace ∷ [])))) us)

more_each : (bs : List (ExprTree × Stmts)) → more_tokens (branches_of bs) ≡ each else_if_tokens bs
unfolding else_if_tokens branch_tokens block_tokens
more_each [] = refl
more_each (b ∷ bs) = ap (λ us. AWord words.Else ∷ AWord words.If ∷ AMark marks.OpenParen ∷ us) (regroup b.0 b.1 (more_tokens (branches_of bs)) ∙ ap (λ us. (expr_tokens b.0 ++ (AMark marks.CloseParen ∷ (AMark marks.OpenBrace ∷ (stmts_tokens b.1 ++ (AMark marks.CloseBrace ∷ []))))) ++ us) (more_each bs))

first_each : (bs : List (ExprTree × Stmts)) → IsSome bs → first_tokens (branches_of bs) ≡ AWord words.If ∷ branches_tokens bs
unfolding branches_tokens branch_tokens block_tokens
first_each [] h = absurd h
first_each (b ∷ bs) h = ap (λ us. AWord words.If ∷ AMark marks.OpenParen ∷ us) (regroup b.0 b.1 (more_tokens (branches_of bs)) ∙ ap (λ us. (expr_tokens b.0 ++ (AMark marks.CloseParen ∷ (AMark marks.OpenBrace ∷ (stmts_tokens b.1 ++ (AMark marks.CloseBrace ∷ []))))) ++ us) (more_each bs))

else_sound : {q : Reader Value Stmts} → Sound q block_tokens → Sound (else_at q) else_tokens
unfolding else_at block_tokens
else_sound k =
    Sound-as else_of else_tokens (Sound-maybe (comes_word words.Else) (Sound-as (λ (x : Unit {0} × Stmts). x.1) (λ (ss : Stmts). AWord words.Else ∷ block_tokens ss) (Sound-⊕ (word_sound words.Else) k) (λ x. refl))) same
  where
    same : (o : Option Stmts) → else_tokens (else_of o) ≡ maybe (λ (ss : Stmts). AWord words.Else ∷ (AMark marks.OpenBrace ∷ (stmts_tokens ss ++ (AMark marks.CloseBrace ∷ [])))) o
    same None = refl
    same (Some ss) = refl

branches_some : (p : Reader Value ExprTree) (q : Reader Value Stmts) → Always (branches_at p q) IsSome
unfolding branches_at
branches_some p q = Always-as (λ (x : (ExprTree × Stmts) × List (ExprTree × Stmts)). x.0 ∷ x.1) IsSome (anything (branch_at p q ⊕ all_while else_if_comes (else_if_at p q))) (λ x g. tt)

choose_takes : (p : Reader Value ExprTree) (q : Reader Value Stmts) → Sound p expr_tokens → Sound q block_tokens → (ts : List Value) (z : StmtTree × List Value) → choose_at p q ts ≡ Some z → AWord words.If ∷ ts ≡ stmt_tokens z.0 ++ z.1
unfolding choose_at
choose_takes p q h k ts z e =
    behind_good_takes (AWord words.If) (branches_at p q ⊕ else_at q) (λ (x : List (ExprTree × Stmts) × Otherwise). branches_tokens x.0 ++ else_tokens x.1) (λ (x : List (ExprTree × Stmts) × Otherwise). IsSome x.0 × Unit {0})
    (λ (x : List (ExprTree × Stmts) × Otherwise). choose (branches_of x.0) x.1) stmt_tokens (Sound-⊕ (branches_sound h k) (else_sound k)) (Always-⊕ (branches_some p q) (anything (else_at q)))
    (λ x g. ap (λ us. us ++ else_tokens x.1) (first_each x.0 g.0)) ts z ((branches_at p q ⊕ else_at q) ts) refl e

repeat_takes : (q : Reader Value Stmts) → Sound q block_tokens → (ts : List Value) (z : StmtTree × List Value) → repeat_at q ts ≡ Some z → AWord words.Repeat ∷ ts ≡ stmt_tokens z.0 ++ z.1
unfolding repeat_at block_tokens
repeat_takes q k ts z e = behind_takes (AWord words.Repeat) (number_at ⊕ q) (λ (x : ℕ × Stmts). ANumber x.0 ∷ block_tokens x.1) (λ (x : ℕ × Stmts). repeat x.0 x.1) stmt_tokens (Sound-⊕ number_sound k) (λ x. refl) ts z e

statement_takes : (p : Reader Value ExprTree) (q : Reader Value Stmts) → Sound p expr_tokens → Sound q block_tokens → (ts : List Value) (z : StmtTree × List Value) → statement_with p q ts ≡ Some z → ts ≡ stmt_tokens z.0 ++ z.1
unfolding statement_with
statement_takes p q h k [] z e = absurd cc
statement_takes p q h k (AMark marks.Semicolon ∷ ts) z e = taken stmt_tokens (AMark marks.Semicolon ∷ ts) (empty, ts) z refl e
statement_takes p q h k (AName n ∷ ts) z e = (named_sound h).takes (AName n ∷ ts) z e
statement_takes p q h k (AWord words.If ∷ ts) z e = choose_takes p q h k ts z e
statement_takes p q h k (AWord words.Repeat ∷ ts) z e = repeat_takes q k ts z e
statement_takes p q h k (AWord words.Defer ∷ ts) z e = alone_takes words.Defer defer refl ts z e
statement_takes p q h k (AWord words.Recall ∷ ts) z e = alone_takes words.Recall recall refl ts z e
statement_takes p q h k (AWord words.RecallAll ∷ ts) z e = alone_takes words.RecallAll recall_all refl ts z e
statement_takes p q h k (AWord words.Incarnate ∷ ts) z e = frame_takes p h verbs.Incarnate ts z e
statement_takes p q h k (AWord words.Destroy ∷ ts) z e = frame_takes p h verbs.Destroy ts z e
statement_takes p q h k (AWord words.Deport ∷ ts) z e = frame_takes p h verbs.Deport ts z e
statement_takes p q h k (AWord words.Import ∷ ts) z e = import_takes p h ts z e
statement_takes p q h k (AWord words.Register ∷ ts) z e = register_takes ts z e
statement_takes p q h k (AWord words.Withdraw ∷ ts) z e = withdraw_takes ts z e
statement_takes p q h k (t ∷ ts) z e = absurd cc

pub stmts_each : (ss : List StmtTree) → stmts_tokens (stmts_of ss) ≡ each stmt_tokens ss
stmts_each [] = refl
stmts_each (s ∷ ss) = ap (λ us. stmt_tokens s ++ us) (stmts_each ss)

pub stmts_sound : {p : Reader Value StmtTree} → Sound p stmt_tokens → Sound (stmts_at p) stmts_tokens
unfolding stmts_at
stmts_sound h = Sound-as stmts_of stmts_tokens (Sound-many goes_on h) stmts_each

block_sound : {p : Reader Value StmtTree} → Sound p stmt_tokens → Sound (block_at p) block_tokens
unfolding block_at block_tokens
block_sound h = Sound-as (λ (x : Unit {0} × (Stmts × Unit {0})). x.1.0) block_tokens (Sound-⊕ (mark_sound marks.OpenBrace) (Sound-⊕ (stmts_sound h) (mark_sound marks.CloseBrace))) (λ x. refl)

pub expression_sound : (depth : ℕ) → Sound (expression depth) expr_tokens
expression_sound depth = level_sound 5 (operand_sound depth)

pub below_sound : (depth : ℕ) → Sound (block_below depth) block_tokens
unfolding block_below
below_sound zero = record { takes = λ ts z e. absurd cc }
below_sound (suc depth) = record { takes = λ ts z e. (block_sound (record { takes = statement_takes (expression depth) (block_below depth) (expression_sound depth) (below_sound depth) })).takes ts z e }

pub statement_sound : (depth : ℕ) → Sound (statement depth) stmt_tokens
statement_sound depth = record { takes = statement_takes (expression depth) (block_below depth) (expression_sound depth) (below_sound depth) }
