-- Steps of the recogniser.
use Rattle.std.proofs.Common.{◌≡◌, ℕ, suc, ◌+◌, ◌*◌, ◌<◌, ◌≤◌, Bool, true, false, cond, List, [], ◌∷◌, ◌++◌, length, Option, Some, None, refl, sym, ap, ◌∙◌, subst, length-append, arith}
use Rattle.std.specs.Prelude.{option_map, option_and_then, reverse, map}
use Rattle.std.proofs.lemmas.List.{reverse-append, length-reverse}
use Rattle.room_lexer.specs.declared.token.Mark.TheVariants as marks
use Rattle.room_tokens.specs.Reader.{Reader, ◌⊕◌, reads_as, rest_of}
use Rattle.room_tokens.proofs.Readers.{Sound-⊕}
use Rattle.room_tokens.specs.declared.action_tokens.token.ActionToken.{ActionToken}
use Rattle.room_tokens.specs.action_tokens.Values.{Value, AWord, AName, AMark, token_value}
use Rattle.room_tokens.specs.action_tokens.Single.{comes, comes_word, mark, name_at, number_at}
use Rattle.room_tokens.specs.declared.action_tokens.word.ActionWord.TheVariants as words
use Rattle.room_tokens.proofs.action_tokens.Singles.{comes_is, comes_word_is, mark_sound, name_sound, number_sound}
use Rattle.action_program.specs.Named.{StmtTree}
use Rattle.action_parse.specs.action_reading.Tokens.{operator_mark, path_tokens, expr_tokens, prio_tokens, stmt_tokens}
use Rattle.action_parse.specs.action_reading.ExprReading.{operator_comes, path_at, operand}
use Rattle.action_parse.specs.action_reading.StmtReading.{is_send, prio_at, register_at, withdraw_at, else_if_comes}
use Rattle.action_parse.proofs.action_reading.ExprSound.{path_sound, path_always, some_path, operand_sound}
use Rattle.action_parse.proofs.action_reading.StmtSound.{prio_sound, register_takes, withdraw_takes}
use Rattle.action_parse.proofs.action_reading.StmtAlways.{register_always, withdraw_always}
use Rattle.action_parse.proofs.action_reading.StmtShorter.{some_stmt}
use Rattle.action_parse.specs.declared.goal.Goal.{Goal}
use Rattle.action_parse.specs.declared.goal.Goal.TheVariants as goals
use Rattle.action_parse.specs.declared.goal.Goal.TheVariants.{Take, Prio, Index, Message, Operand, Operators, Arguments, Statements}
use Rattle.action_parse.specs.Expected.{and_block, and_branch, ends_message, if_message, message_goals, operand_goals, otherwise_goals, named_goals, statements_goals, expand, Accepted, done, goes}
use Rattle.action_parse.proofs.Derived.{operator_is, else_if_is}

-- ---- what is accepted

some_is : (x z : List Goal × List Value) → Some x ≡ Some z → x ≡ z
some_is x z h = cc

inverts : (g : Goal) (gs : List Goal) (ts : List Value) (y : List Goal × List Value) → expand g ts ≡ Some y → Accepted (g ∷ gs) ts → Accepted (y.0 ++ gs) y.1
inverts g gs ts y i (goes k hs others vs us e a) =
    let same : (hs, us) ≡ y = some_is (hs, us) y (sym e ∙ i) in subst (λ (z : List Goal × List Value). Accepted (z.0 ++ gs) z.1) same a

refuses : (g : Goal) (gs : List Goal) (ts : List Value) → expand g ts ≡ None → Accepted (g ∷ gs) ts → ⊥
refuses g gs ts i (goes k hs others vs us e a) = let no : Some (hs, us) ≡ None = sym e ∙ i in absurd cc

pub ended : (ts : List Value) → Accepted [] ts → ts ≡ []
ended ts done = refl

-- the same is accepted as at the beginning
abbrev pub Same : Type 0 → List Goal → List Value → Type 0
Same P gs ts = (Accepted gs ts → P) × (P → Accepted gs ts)

pub same_turn : (P : Type 0) (g : Goal) (gs hs : List Goal) (ts us : List Value) → expand g ts ≡ Some (hs, us) → Same P (g ∷ gs) ts → Same P (hs ++ gs) us
same_turn P g gs hs ts us e s = (λ a. s.0 (goes g hs gs ts us e a), λ p. inverts g gs ts (hs, us) e (s.1 p))

pub same_refused : (P : Type 0) (g : Goal) (gs : List Goal) (ts : List Value) → expand g ts ≡ None → Same P (g ∷ gs) ts → P → ⊥
same_refused P g gs ts e s p = refuses g gs ts e (s.1 p)

-- ---- each expansion leaves less

abbrev Short : List Value → List Goal × List Value → Type 0
Short ts y = 16 * length y.1 + length y.0 ≤ 16 * length ts

is_short : (ts : List Value) (x y : List Goal × List Value) → Some x ≡ Some y → Short ts x → Short ts y
is_short ts x y e h = let same : x ≡ y = cc in subst (λ (z : List Goal × List Value). Short ts z) same h

as_short : {A : Type 0} (p : Reader Value A) (hs : List Goal) (ts : List Value) (y : List Goal × List Value) (r : Option (A × List Value)) → p ts ≡ r → ((z : A × List Value) → p ts ≡ Some z → 16 * length z.1 + length hs ≤ 16 * length ts)
    → option_map (λ (x : A × List Value). (hs, x.1)) r ≡ Some y → Short ts y
as_short p hs ts y None i h e = absurd cc
as_short p hs ts y (Some z) i h e = is_short ts (hs, z.1) y e (h z i)

behind_front : (front ts us : List Value) → ts ≡ front ++ us → length ts ≡ length front + length us
behind_front front ts us e = ap length e ∙ length-append front us

one_less : (t : Value) (ts : List Value) → ts ≡ t ∷ rest_of ts → length ts ≡ suc (length (rest_of ts))
one_less t ts e = ap length e

message_short : (ts : List Value) (y : List Goal × List Value) → message_goals ts ≡ Some y → Short ts y
unfolding message_goals
message_short ts y e = by_head ((mark marks.Dot ⊕ name_at ⊕ mark marks.OpenParen) ts) refl e
  where
    by_test : (x : (Unit {0} × (List ℕ × Unit {0})) × List Value) → length ts ≡ 3 + length x.1 → (b : Bool) → cond b (Some (ends_message, x.1)) (Some (Operand ∷ Operators ∷ goals.Arguments ∷ ends_message, x.1)) ≡ Some y → Short ts y
    by_test x h true i = is_short ts (ends_message, x.1) y i (omega (arith, h))
    by_test x h false i = is_short ts (Operand ∷ Operators ∷ goals.Arguments ∷ ends_message, x.1) y i (omega (arith, h))

    by_head : (r : Option ((Unit {0} × (List ℕ × Unit {0})) × List Value)) → (mark marks.Dot ⊕ name_at ⊕ mark marks.OpenParen) ts ≡ r → option_and_then (λ (x : (Unit {0} × (List ℕ × Unit {0})) × List Value). if_message x.1) r ≡ Some y → Short ts y
    by_head None h i = absurd cc
    by_head (Some x) h i =
        by_test x (omega (arith, ap length ((Sound-⊕ (mark_sound marks.Dot) (Sound-⊕ name_sound (mark_sound marks.OpenParen))).takes ts x h))) (comes marks.CloseParen x.1) i

atom_short : (ts : List Value) (y : List Goal × List Value) → reads_as (λ x. []) (operand 0) ts ≡ Some y → Short ts y
atom_short ts y e = as_short (operand 0) [] ts y (operand 0 ts) refl (λ z i. omega (arith, behind_front (expr_tokens z.0) ts z.1 ((operand_sound 0).takes ts z i))) e

operand_short : (ts : List Value) (y : List Goal × List Value) → operand_goals ts ≡ Some y → Short ts y
unfolding operand_goals
operand_short (AMark marks.OpenParen ∷ us) y e = is_short (AMark marks.OpenParen ∷ us) (Operand ∷ Operators ∷ Take marks.CloseParen ∷ [], us) y e (omega arith)
operand_short (AMark marks.Minus ∷ us) y e = is_short (AMark marks.Minus ∷ us) (Operand ∷ [], us) y e (omega arith)
operand_short (AMark marks.Bang ∷ us) y e = is_short (AMark marks.Bang ∷ us) (Operand ∷ [], us) y e (omega arith)
operand_short ts y e = atom_short ts y e

-- goals in place of a token that a test finds
test_short : (b : Bool) (ts : List Value) (t : Value) (hs : List Goal) (y : List Goal × List Value) → (b ≡ true → ts ≡ t ∷ rest_of ts) → length hs ≤ 16 → cond b (Some (hs, rest_of ts)) (Some ([], ts)) ≡ Some y → Short ts y
test_short false ts t hs y h few e = is_short ts ([], ts) y e (omega arith)
test_short true ts t hs y h few e = is_short ts (hs, rest_of ts) y e (omega (arith, few, one_less t ts (h refl)))

operators_short : (b : Bool) (ts : List Value) (y : List Goal × List Value) → operator_comes ts ≡ b → cond b (Some (Operand ∷ Operators ∷ [], rest_of ts)) (Some ([], ts)) ≡ Some y → Short ts y
operators_short false ts y h e = is_short ts ([], ts) y e (omega arith)
operators_short true ts y h e = let op = operator_is ts h in is_short ts (Operand ∷ Operators ∷ [], rest_of ts) y e (omega (arith, one_less (AMark (operator_mark op.0)) ts op.1))

otherwise_short : (ts : List Value) (y : List Goal × List Value) → otherwise_goals ts ≡ Some y → Short ts y
unfolding otherwise_goals
otherwise_short ts y e = by_test (else_if_comes ts) refl e
  where
    by_test : (b : Bool) → else_if_comes ts ≡ b → cond b (Some (and_branch [], rest_of (rest_of ts))) (cond (comes_word words.Else ts) (Some (and_block [], rest_of ts)) (Some ([], ts))) ≡ Some y → Short ts y
    by_test false t h = test_short (comes_word words.Else ts) ts (AWord words.Else) (and_block []) y (comes_word_is words.Else ts) (omega arith) h
    by_test true t h = is_short ts (and_branch [], rest_of (rest_of ts)) y h (omega (arith, ap length (else_if_is ts t)))

named_short : (n : List ℕ) (us : List Value) (y : List Goal × List Value) → named_goals (AName n ∷ us) ≡ Some y → Short (AName n ∷ us) y
unfolding named_goals
named_short n us y e = by_test (is_send us) e
  where
    by_test : (b : Bool) → cond b (Some (goals.Index ∷ goals.Message ∷ Statements ∷ [], us)) (reads_as (λ x. Take marks.Equals ∷ Operand ∷ Operators ∷ Take marks.Semicolon ∷ Statements ∷ []) path_at (AName n ∷ us)) ≡ Some y → Short (AName n ∷ us) y
    by_test true h = is_short (AName n ∷ us) (goals.Index ∷ goals.Message ∷ Statements ∷ [], us) y h (omega arith)
    by_test false h =
        as_short path_at (Take marks.Equals ∷ Operand ∷ Operators ∷ Take marks.Semicolon ∷ Statements ∷ []) (AName n ∷ us) y (path_at (AName n ∷ us)) refl
        (λ z i. omega (arith, some_path z.0 (path_always.holds (AName n ∷ us) z i), behind_front (path_tokens z.0) (AName n ∷ us) z.1 (path_sound.takes (AName n ∷ us) z i))) h

name_short : (t : Value) (hs : List Goal) (us : List Value) (y : List Goal × List Value) → length hs ≤ 16 → reads_as (λ x. hs) name_at us ≡ Some y → Short (t ∷ us) y
name_short t hs us y few e =
    let inner : Short us y = as_short name_at hs us y (name_at us) refl (λ z i. omega (arith, few, ap length (name_sound.takes us z i))) e in omega (arith, inner)

statements_short : (ts : List Value) (y : List Goal × List Value) → statements_goals ts ≡ Some y → Short ts y
unfolding statements_goals
statements_short [] y e = is_short [] ([], []) y e (omega arith)
statements_short (AMark marks.CloseBrace ∷ us) y e = is_short (AMark marks.CloseBrace ∷ us) ([], AMark marks.CloseBrace ∷ us) y e (omega arith)
statements_short (AMark marks.Semicolon ∷ us) y e = is_short (AMark marks.Semicolon ∷ us) (Statements ∷ [], us) y e (omega arith)
statements_short (AName n ∷ us) y e = named_short n us y e
statements_short (AWord words.If ∷ us) y e = is_short (AWord words.If ∷ us) (and_branch (Statements ∷ []), us) y e (omega arith)
statements_short (AWord words.Repeat ∷ us) y e =
    let inner : Short us y = as_short number_at (and_block (Statements ∷ [])) us y (number_at us) refl (λ z i. omega (arith, ap length (number_sound.takes us z i))) e in omega (arith, inner)
statements_short (AWord words.Defer ∷ us) y e = is_short (AWord words.Defer ∷ us) (Take marks.Semicolon ∷ Statements ∷ [], us) y e (omega arith)
statements_short (AWord words.Recall ∷ us) y e = is_short (AWord words.Recall ∷ us) (Take marks.Semicolon ∷ Statements ∷ [], us) y e (omega arith)
statements_short (AWord words.RecallAll ∷ us) y e = is_short (AWord words.RecallAll ∷ us) (Take marks.Semicolon ∷ Statements ∷ [], us) y e (omega arith)
statements_short (AWord words.Incarnate ∷ us) y e = name_short (AWord words.Incarnate) (goals.Index ∷ Take marks.Semicolon ∷ Statements ∷ []) us y (omega arith) e
statements_short (AWord words.Destroy ∷ us) y e = name_short (AWord words.Destroy) (goals.Index ∷ Take marks.Semicolon ∷ Statements ∷ []) us y (omega arith) e
statements_short (AWord words.Deport ∷ us) y e = name_short (AWord words.Deport) (goals.Index ∷ Take marks.Semicolon ∷ Statements ∷ []) us y (omega arith) e
statements_short (AWord words.Import ∷ us) y e = name_short (AWord words.Import) (goals.Index ∷ Take marks.Equals ∷ Operand ∷ Operators ∷ Take marks.Semicolon ∷ Statements ∷ []) us y (omega arith) e
statements_short (AWord words.Register ∷ us) y e = as_short {A = StmtTree} (λ vs. register_at us) (Statements ∷ []) (AWord words.Register ∷ us) y (register_at us) refl
    (λ z i. omega (arith, some_stmt z.0 ((register_always 0).holds us z i).0, behind_front (stmt_tokens z.0) (AWord words.Register ∷ us) z.1 (register_takes us z i))) e
statements_short (AWord words.Withdraw ∷ us) y e = as_short {A = StmtTree} (λ vs. withdraw_at us) (Statements ∷ []) (AWord words.Withdraw ∷ us) y (withdraw_at us) refl
    (λ z i. omega (arith, some_stmt z.0 ((withdraw_always 0).holds us z i).0, behind_front (stmt_tokens z.0) (AWord words.Withdraw ∷ us) z.1 (withdraw_takes us z i))) e
statements_short (t ∷ us) y e = absurd cc

pub expand_short : (g : Goal) (ts : List Value) (y : List Goal × List Value) → expand g ts ≡ Some y → 16 * length y.1 + length y.0 ≤ 16 * length ts
expand_short (goals.Take m) ts y e = as_short (mark m) [] ts y (mark m ts) refl (λ z i. omega (arith, ap length ((mark_sound m).takes ts z i))) e
expand_short goals.Prio ts y e = as_short prio_at [] ts y (prio_at ts) refl (λ z i. omega (arith, behind_front (prio_tokens z.0) ts z.1 (prio_sound.takes ts z i))) e
expand_short goals.Index ts y e = test_short (comes marks.OpenBracket ts) ts (AMark marks.OpenBracket) (Operand ∷ Operators ∷ Take marks.CloseBracket ∷ []) y (comes_is marks.OpenBracket ts) (omega arith) e
expand_short goals.Message ts y e = message_short ts y e
expand_short goals.Operand ts y e = operand_short ts y e
expand_short goals.Operators ts y e = operators_short (operator_comes ts) ts y refl e
expand_short goals.Arguments ts y e = test_short (comes marks.Comma ts) ts (AMark marks.Comma) (Operand ∷ Operators ∷ goals.Arguments ∷ []) y (comes_is marks.Comma ts) (omega arith) e
expand_short goals.Otherwise ts y e = otherwise_short ts y e
expand_short goals.Statements ts y e = statements_short ts y e

-- ---- turns of the loop

-- a goal is taken from the stack, and others are put on it
pub turn : (P : Type 0) (old taken : List Goal) (g : Goal) (more : List Goal) (ts us : List Value) → old ≡ taken ++ g ∷ [] → expand g ts ≡ Some (reverse more, us) → Same P (reverse old) ts → Same P (reverse (taken ++ more)) us
turn P old taken g more ts us e h s =
    let top : reverse old ≡ g ∷ reverse taken = ap reverse e ∙ reverse-append taken (g ∷ []) in
    let next : reverse (taken ++ more) ≡ reverse more ++ reverse taken = reverse-append taken more in
    rw next (same_turn P g (reverse taken) (reverse more) ts us h (subst (λ (gs : List Goal). Same P gs ts) top s))

pub turn_refused : (P : Type 0) (old taken : List Goal) (g : Goal) (ts : List Value) → old ≡ taken ++ g ∷ [] → expand g ts ≡ None → Same P (reverse old) ts → P → ⊥
turn_refused P old taken g ts e h s =
    let top : reverse old ≡ g ∷ reverse taken = ap reverse e ∙ reverse-append taken (g ∷ []) in
    same_refused P g (reverse taken) ts h (subst (λ (gs : List Goal). Same P gs ts) top s)

pub turn_short : (old taken : List Goal) (g : Goal) (more : List Goal) (ts us : List Value) → old ≡ taken ++ g ∷ [] → expand g ts ≡ Some (reverse more, us) → 16 * length us + length (taken ++ more) < 16 * length ts + length old
turn_short old taken g more ts us e h = omega (arith, expand_short g ts (reverse more, us) h, length-reverse more, length-append taken more, ap length e, length-append taken (g ∷ []))

-- ---- the ends of the loop

pub starts : (expected items : List Goal) (ts : List Value) → items ≡ expected → Same (Accepted (reverse expected) ts) (reverse items) ts
starts expected items ts e = subst (λ (gs : List Goal). Same (Accepted (reverse expected) ts) (reverse gs) ts) (sym e) (λ a. a, λ a. a)

pub accepts_end : (P : Type 0) (items : List Goal) (ts : List Value) → items ≡ [] → ts ≡ [] → Same P (reverse items) ts → P
accepts_end P items ts e h s = s.0 (subst (λ (gs : List Goal). Accepted (reverse gs) ts) (sym e) (subst (λ (us : List Value). Accepted [] us) (sym h) done))

pub refuses_end : (P : Type 0) (items : List Goal) (ts us : List Value) (v : Value) → items ≡ [] → ts ≡ v ∷ us → Same P (reverse items) ts → P → ⊥
refuses_end P items ts us v e h s p =
    let nothing : ts ≡ [] = ended ts (subst (λ (gs : List Goal). Accepted (reverse gs) ts) e (s.1 p)) in
    let no : v ∷ us ≡ [] = sym h ∙ nothing in absurd cc

pub is_empty : {A : Type 0} (xs : List A) → length xs ≡ 0 → xs ≡ []
is_empty [] h = refl
is_empty (x ∷ xs) h = absurd (omega arith)

pub are_none : (bytes : List ℕ) (tokens : List ActionToken) → length tokens ≡ 0 → map (token_value bytes) tokens ≡ []
are_none bytes [] h = refl
are_none bytes (t ∷ ts) h = absurd (omega arith)
