-- The tokens of an expression are read back as itself.
use Rattle.std.proofs.Common.{◌≡◌, ℕ, zero, suc, ◌+◌, ◌-◌, ◌<◌, ◌≤◌, Bool, true, false, List, [], ◌∷◌, ◌++◌, length, Option, Some, None, refl, sym, ap, ◌∙◌, subst, append_assoc, length-append, arith}
use Rattle.std.specs.Prelude.{◌==◌, nat_le}
use Rattle.std.proofs.lemmas.Bool.{ne_eqb, eq-eqb}
use Rattle.room_lexer.specs.declared.token.Mark.TheVariants as marks
use Rattle.room_ast.specs.Tokens.{maybe}
use Rattle.room_tokens.specs.Reader.{Reader, ◌⊕◌, reads_as, many, all_while}
use Rattle.room_tokens.proofs.Readers.{Reads, Reads-⊕, Reads-as, Reads-some, Reads-none, Reads-many, Anything}
use Rattle.room_tokens.specs.action_tokens.Values.{Value, AName, ANumber, AMark}
use Rattle.room_tokens.specs.action_tokens.Single.{comes, mark, name_at, number_at}
use Rattle.room_tokens.proofs.action_tokens.Singles.{comes_here, mark_reads, name_reads}
use Rattle.action_program.specs.Named.{ExprTree, a_number, the_true, the_false, a_datum, the_place, the_self, an_attribute, a_paren, a_unary, a_chain, Steps, no_step, a_step, steps_of}
use Rattle.action_program.specs.declared.operator.UnaryOp.{UnaryOp}
use Rattle.action_program.specs.declared.operator.UnaryOp.TheVariants as unary
use Rattle.action_program.specs.declared.operator.BinaryOp.{BinaryOp}
use Rattle.action_program.specs.declared.operator.BinaryOp.TheVariants as binary
use Rattle.action_parse.specs.action_reading.Tokens.{operator_mark, part, path_tokens, expr_tokens, steps_tokens}
use Rattle.action_parse.specs.action_reading.Written.{below, IsPath, IsDatum, HasStep, AtLevel, StepsAt, expr_nesting, steps_nesting}
use Rattle.action_parse.specs.action_reading.ExprReading.{operator_of, if_below, op_at, op_comes, step_with, step_at, chain_of, level, path_at, small_number_at, datum_at, operand_with, under, operand}

-- ---- what may follow an expression of a level

pub record Follows (k : ℕ) (rest : List Value) : Type 0 where
  pub no_op : (j : ℕ) → j < k → op_at j rest ≡ None
  pub no_dot : comes marks.Dot rest ≡ false
  pub no_bracket : comes marks.OpenBracket rest ≡ false

pub lower : (j k : ℕ) (rest : List Value) → j ≤ k → Follows k rest → Follows j rest
lower j k rest le h = record { no_op = λ i lt. h.no_op i (omega arith); no_dot = h.no_dot; no_bracket = h.no_bracket }

pub operator_again : (op : BinaryOp) → operator_of (operator_mark op) ≡ Some op
operator_again binary.Or = refl
operator_again binary.And = refl
operator_again binary.Equal = refl
operator_again binary.NotEqual = refl
operator_again binary.Less = refl
operator_again binary.LessEqual = refl
operator_again binary.Greater = refl
operator_again binary.GreaterEqual = refl
operator_again binary.Add = refl
operator_again binary.Subtract = refl
operator_again binary.Multiply = refl
operator_again binary.Divide = refl
operator_again binary.Remainder = refl

pub op_here : (op : BinaryOp) (j : ℕ) (ts : List Value) → below op ≡ j → op_at j (AMark (operator_mark op) ∷ ts) ≡ Some op
unfolding op_at
op_here op j ts e = ap (if_below j) (operator_again op) ∙ (let same : (below op == j) ≡ true = eq-eqb (below op) j e in rw same refl)

op_higher : (op : BinaryOp) (j : ℕ) (ts : List Value) → j < below op → op_at j (AMark (operator_mark op) ∷ ts) ≡ None
unfolding op_at
op_higher op j ts lt = ap (if_below j) (operator_again op) ∙ (let other : (below op == j) ≡ false = ne_eqb (below op) j (λ e. omega (arith, e)) in rw other refl)

pub op_no_dot : (op : BinaryOp) (ts : List Value) → comes marks.Dot (AMark (operator_mark op) ∷ ts) ≡ false
unfolding comes
op_no_dot binary.Or ts = refl
op_no_dot binary.And ts = refl
op_no_dot binary.Equal ts = refl
op_no_dot binary.NotEqual ts = refl
op_no_dot binary.Less ts = refl
op_no_dot binary.LessEqual ts = refl
op_no_dot binary.Greater ts = refl
op_no_dot binary.GreaterEqual ts = refl
op_no_dot binary.Add ts = refl
op_no_dot binary.Subtract ts = refl
op_no_dot binary.Multiply ts = refl
op_no_dot binary.Divide ts = refl
op_no_dot binary.Remainder ts = refl

pub op_no_bracket : (op : BinaryOp) (ts : List Value) → comes marks.OpenBracket (AMark (operator_mark op) ∷ ts) ≡ false
unfolding comes
op_no_bracket binary.Or ts = refl
op_no_bracket binary.And ts = refl
op_no_bracket binary.Equal ts = refl
op_no_bracket binary.NotEqual ts = refl
op_no_bracket binary.Less ts = refl
op_no_bracket binary.LessEqual ts = refl
op_no_bracket binary.Greater ts = refl
op_no_bracket binary.GreaterEqual ts = refl
op_no_bracket binary.Add ts = refl
op_no_bracket binary.Subtract ts = refl
op_no_bracket binary.Multiply ts = refl
op_no_bracket binary.Divide ts = refl
op_no_bracket binary.Remainder ts = refl

pub steps_follow : (steps : Steps) (j : ℕ) (rest : List Value) → StepsAt steps j → Follows (suc j) rest → Follows j (steps_tokens steps ++ rest)
steps_follow no_step j rest at f = lower j (suc j) rest (omega arith) f
steps_follow (a_step op e steps) j rest at f =
    let ts = (expr_tokens e ++ steps_tokens steps) ++ rest in
    record { no_op = λ i lt. op_higher op i ts (omega (arith, at.0)); no_dot = op_no_dot op ts; no_bracket = op_no_bracket op ts }

-- ---- repetition

pub all_none : {A : Type 0} (g : List Value → Bool) (p : Reader Value A) (ts : List Value) → g ts ≡ false → all_while g p ts ≡ Some ([], ts)
unfolding all_while many
all_none g p ts off = rw off refl

pub many_none : {A : Type 0} (g : List Value → Bool) (p : Reader Value A) (n : ℕ) (ts : List Value) → 0 < n → g ts ≡ false → many g p n ts ≡ Some ([], ts)
unfolding many
many_none g p zero ts some off = absurd (omega arith)
many_none g p (suc n) ts some off = rw off refl

pub many_goes : {A : Type 0} (g : List Value → Bool) (p : Reader Value A) (n : ℕ) (ts us vs : List Value) (x : A) (xs : List A) → g ts ≡ true → p ts ≡ Some (x, us) → many g p n us ≡ Some (xs, vs) → many g p (suc n) ts ≡ Some (x ∷ xs, vs)
unfolding many
many_goes g p n ts us vs x xs on h more = rw (on, h, more) refl

-- ---- levels

level_base : (p : Reader Value ExprTree) (ts : List Value) → level 0 p ts ≡ p ts
unfolding level
level_base p ts = refl

level_pair : (k : ℕ) (p : Reader Value ExprTree) (ts us vs : List Value) (e : ExprTree) (ss : List (BinaryOp × ExprTree)) → level k p ts ≡ Some (e, us) → all_while (op_comes k) (step_at k (level k p)) us ≡ Some (ss, vs) → level (suc k) p ts ≡ Some (chain_of (e, ss), vs)
unfolding level
level_pair k p ts us vs e ss h others = rw (h, others) refl

no_op_comes : (k : ℕ) (rest : List Value) → op_at k rest ≡ None → op_comes k rest ≡ false
unfolding op_comes
no_op_comes k rest h = rw h refl

level_up : (k : ℕ) (p : Reader Value ExprTree) (ts rest : List Value) (e : ExprTree) → op_at k rest ≡ None → level k p ts ≡ Some (e, rest) → level (suc k) p ts ≡ Some (e, rest)
level_up k p ts rest e none h = level_pair k p ts rest rest e [] h (all_none (op_comes k) (step_at k (level k p)) rest (no_op_comes k rest none))

level_ups : (j k : ℕ) (p : Reader Value ExprTree) (ts rest : List Value) (e : ExprTree) → Follows (j + k) rest → level k p ts ≡ Some (e, rest) → level (j + k) p ts ≡ Some (e, rest)
level_ups zero k p ts rest e f h = let same : 0 + k ≡ k = omega arith in rw same h
level_ups (suc j) k p ts rest e f h =
    let same : suc j + k ≡ suc (j + k) = omega arith in
    let before : level (j + k) p ts ≡ Some (e, rest) = level_ups j k p ts rest e (lower (j + k) (suc j + k) rest (omega arith) f) h in
    rw same (level_up (j + k) p ts rest e (f.no_op (j + k) (omega arith)) before)

level_to : (j k : ℕ) (p : Reader Value ExprTree) (ts rest : List Value) (e : ExprTree) → j ≤ k → Follows k rest → level j p ts ≡ Some (e, rest) → level k p ts ≡ Some (e, rest)
level_to j k p ts rest e le f h =
    let same : (k - j) + j ≡ k = omega arith in
    subst (λ (i : ℕ). level i p ts ≡ Some (e, rest)) same (level_ups (k - j) j p ts rest e (lower ((k - j) + j) k rest (omega arith) f) h)

-- ---- steps

pub list_of : Steps → List (BinaryOp × ExprTree)
list_of no_step = []
list_of (a_step op e steps) = (op, e) ∷ list_of steps

list_again : (steps : Steps) → steps_of (list_of steps) ≡ steps
unfolding list_of
list_again no_step = refl
list_again (a_step op e steps) = ap (a_step op e) (list_again steps)

chain_again : (e : ExprTree) (steps : Steps) → HasStep steps → chain_of (e, list_of steps) ≡ a_chain e steps
unfolding list_of
chain_again e no_step h = absurd h
chain_again e (a_step op r steps) h = ap (a_chain e) (list_again (a_step op r steps))

step_again : (op : BinaryOp) (j : ℕ) (p : Reader Value ExprTree) (us vs : List Value) (e : ExprTree) → below op ≡ j → p us ≡ Some (e, vs) → step_at j p (AMark (operator_mark op) ∷ us) ≡ Some ((op, e), vs)
unfolding step_at
step_again op j p us vs e own h = ap (step_with p (AMark (operator_mark op) ∷ us)) (op_here op j us own) ∙ rw h refl

op_on : (op : BinaryOp) (j : ℕ) (ts : List Value) → below op ≡ j → op_comes j (AMark (operator_mark op) ∷ ts) ≡ true
unfolding op_comes
op_on op j ts own = rw (op_here op j ts own) refl

-- ---- names and numbers

part_reads : (n : List ℕ) → Reads (reads_as (λ (x : Unit {0} × List ℕ). x.1) (mark marks.Dot ⊕ name_at)) (part n) n Anything
part_reads n = Reads-as (λ (x : Unit {0} × List ℕ). x.1) (Reads-⊕ (mark_reads marks.Dot) (name_reads n) (λ rest any. tt))

pub path_again : (path : List (List ℕ)) (rest : List Value) → IsPath path → comes marks.Dot rest ≡ false → path_at (path_tokens path ++ rest) ≡ Some (path, rest)
unfolding path_at
path_again [] rest is off = absurd is
path_again (n ∷ ns) rest is off =
    let parts = Reads-many {F = Anything} (comes marks.Dot) part_reads (λ x us. (comes_here marks.Dot (AName x ∷ us), tt, omega arith)) ns in
    (Reads-as (λ (x : List ℕ × List (List ℕ)). x.0 ∷ x.1) (Reads-⊕ (name_reads n) parts (λ us any. tt))).again rest (off, tt)

small_reads : (n : ℕ) → n ≤ 63 → Reads small_number_at (ANumber n ∷ []) n Anything
unfolding small_number_at number_at
small_reads n le = record { again = λ rest any. let small : nat_le n 63 ≡ true = grind arith in rw small refl }

datum_again : (k : Option ℕ) (rest : List Value) → IsDatum k → comes marks.OpenBracket rest ≡ false → datum_at (maybe (λ n. (AMark marks.OpenBracket ∷ []) ++ ((ANumber n ∷ []) ++ (AMark marks.CloseBracket ∷ []))) k ++ rest) ≡ Some (k, rest)
unfolding datum_at
datum_again None rest is off = (Reads-none (comes marks.OpenBracket) (reads_as (λ (x : Unit {0} × (ℕ × Unit {0})). x.1.0) (mark marks.OpenBracket ⊕ small_number_at ⊕ mark marks.CloseBracket))).again rest off
datum_again (Some n) rest is off =
    (Reads-some (comes marks.OpenBracket) (λ us. comes_here marks.OpenBracket (ANumber n ∷ AMark marks.CloseBracket ∷ us))
    (Reads-as (λ (x : Unit {0} × (ℕ × Unit {0})). x.1.0) (Reads-⊕ (mark_reads marks.OpenBracket) (Reads-⊕ (small_reads n is) (mark_reads marks.CloseBracket) (λ us any. tt)) (λ us any. tt)))).again rest tt

-- ---- the claims

-- it is read whole, at each level at which it stands
abbrev Back : ExprTree → Type 0
Back e = (k depth : ℕ) (rest : List Value) → AtLevel e k → expr_nesting e ≤ depth → Follows k rest → level k (operand depth) (expr_tokens e ++ rest) ≡ Some (e, rest)

abbrev StepsBack : Steps → Type 0
StepsBack steps = (j depth n : ℕ) (rest : List Value) → StepsAt steps j → steps_nesting steps ≤ depth → Follows (suc j) rest → length (steps_tokens steps) < n
    → many (op_comes j) (step_at j (level j (operand depth))) n (steps_tokens steps ++ rest) ≡ Some (list_of steps, rest)

-- an operand
abbrev Alone : ExprTree → Type 0
Alone e = (k depth : ℕ) (rest : List Value) → AtLevel e k → expr_nesting e ≤ depth → Follows 0 rest → operand depth (expr_tokens e ++ rest) ≡ Some (e, rest)

alone_back : (e : ExprTree) → Alone e → Back e
alone_back e alone k depth rest at fits f =
    level_to 0 k (operand depth) (expr_tokens e ++ rest) rest e (omega arith) f (level_base (operand depth) (expr_tokens e ++ rest) ∙ alone k depth rest at fits (lower 0 k rest (omega arith) f))

number_alone : (n : ℕ) → Alone (a_number n)
unfolding operand_with
number_alone n k depth rest at fits f = refl

true_alone : Alone the_true
unfolding operand_with
true_alone k depth rest at fits f = refl

false_alone : Alone the_false
unfolding operand_with
false_alone k depth rest at fits f = refl

place_alone : Alone the_place
unfolding operand_with
place_alone k depth rest at fits f = refl

self_alone : Alone the_self
unfolding operand_with
self_alone k depth rest at fits f = refl

datum_alone : (n : Option ℕ) → Alone (a_datum n)
unfolding operand_with
datum_alone n k depth rest at fits f = rw (datum_again n rest at f.no_bracket) refl

path_alone : (path : List (List ℕ)) → Alone (an_attribute path)
unfolding operand_with
path_alone [] k depth rest at fits f = absurd at
path_alone (n ∷ ns) k depth rest at fits f = rw (path_again (n ∷ ns) rest tt f.no_dot) refl

close_follows : (rest : List Value) → Follows 5 (AMark marks.CloseParen ∷ rest)
unfolding op_at comes
close_follows rest = record { no_op = λ j lt. refl; no_dot = refl; no_bracket = refl }

paren_alone : (e : ExprTree) → Back e → Alone (a_paren e)
unfolding operand_with under
paren_alone e back k zero rest at fits f = absurd (omega arith)
paren_alone e back k (suc depth) rest at fits f =
    let inner : Reads (level 5 (under (suc depth))) (expr_tokens e) e (Follows 5) = record { again = λ us g. back 5 depth us at (omega arith) g } in
    (Reads-as (λ (x : ExprTree × Unit {0}). a_paren x.0) (Reads-⊕ inner (mark_reads marks.CloseParen) (λ us any. close_follows us))).again rest tt

unary_alone : (op : UnaryOp) (e : ExprTree) → Back e → Alone (a_unary op e)
unfolding operand_with under
unary_alone op e back k zero rest at fits f = absurd (omega arith)
unary_alone unary.Negate e back k (suc depth) rest at fits f =
    let inner : operand depth (expr_tokens e ++ rest) ≡ Some (e, rest) = sym (level_base (operand depth) (expr_tokens e ++ rest)) ∙ back 0 depth rest at (omega arith) f in rw inner refl
unary_alone unary.Not e back k (suc depth) rest at fits f =
    let inner : operand depth (expr_tokens e ++ rest) ≡ Some (e, rest) = sym (level_base (operand depth) (expr_tokens e ++ rest)) ∙ back 0 depth rest at (omega arith) f in rw inner refl

chain_back : (e : ExprTree) (steps : Steps) → Back e → StepsBack steps → Back (a_chain e steps)
unfolding all_while
chain_back e steps back steps_back k depth rest at fits f =
    let j = at.0 in
    let g = lower (suc j) k rest (omega (arith, at.1)) f in
    let us = steps_tokens steps ++ rest in
    let first : level j (operand depth) (expr_tokens e ++ us) ≡ Some (e, us) = back j depth us at.3 (omega arith) (steps_follow steps j rest at.4 g) in
    let others : all_while (op_comes j) (step_at j (level j (operand depth))) us ≡ Some (list_of steps, rest) = steps_back j depth (suc (length us)) rest at.4 (omega arith) g (omega (arith, length-append (steps_tokens steps) rest)) in
    let made : level (suc j) (operand depth) (expr_tokens e ++ us) ≡ Some (chain_of (e, list_of steps), rest) = level_pair j (operand depth) (expr_tokens e ++ us) us rest e (list_of steps) first others in
    let whole : level (suc j) (operand depth) ((expr_tokens e ++ steps_tokens steps) ++ rest) ≡ Some (a_chain e steps, rest) =
    ap (level (suc j) (operand depth)) (append_assoc (expr_tokens e) (steps_tokens steps) rest) ∙ made ∙ ap (λ (x : ExprTree). Some (x, rest)) (chain_again e steps at.2) in
    level_to (suc j) k (operand depth) ((expr_tokens e ++ steps_tokens steps) ++ rest) rest (a_chain e steps) (omega (arith, at.1)) f whole

no_steps_back : StepsBack no_step
unfolding list_of
no_steps_back j depth n rest at fits f lt = many_none (op_comes j) (step_at j (level j (operand depth))) n rest (omega arith) (no_op_comes j rest (f.no_op j (omega arith)))

a_step_back : (op : BinaryOp) (e : ExprTree) (steps : Steps) → Back e → StepsBack steps → StepsBack (a_step op e steps)
unfolding list_of
a_step_back op e steps back steps_back j depth zero rest at fits f lt = absurd (omega arith)
a_step_back op e steps back steps_back j depth (suc n) rest at fits f lt =
    let us = steps_tokens steps ++ rest in
    let right : level j (operand depth) (expr_tokens e ++ us) ≡ Some (e, us) = back j depth us at.1 (omega arith) (steps_follow steps j rest at.2 f) in
    let one : step_at j (level j (operand depth)) (AMark (operator_mark op) ∷ (expr_tokens e ++ us)) ≡ Some ((op, e), us) = step_again op j (level j (operand depth)) (expr_tokens e ++ us) us e at.0 right in
    let others = steps_back j depth n rest at.2 (omega arith) f (omega (arith, length-append (expr_tokens e) (steps_tokens steps))) in
    ap (λ (vs : List Value). many (op_comes j) (step_at j (level j (operand depth))) (suc n) (AMark (operator_mark op) ∷ vs)) (append_assoc (expr_tokens e) (steps_tokens steps) rest)
    ∙ many_goes (op_comes j) (step_at j (level j (operand depth))) n (AMark (operator_mark op) ∷ (expr_tokens e ++ us)) us rest (op, e) (list_of steps) (op_on op j (expr_tokens e ++ us) at.0) one others

mutual
  pub expr_back : (e : ExprTree) → Back e
  expr_back (a_number n) = alone_back (a_number n) (number_alone n)
  expr_back the_true = alone_back the_true true_alone
  expr_back the_false = alone_back the_false false_alone
  expr_back (a_datum n) = alone_back (a_datum n) (datum_alone n)
  expr_back the_place = alone_back the_place place_alone
  expr_back the_self = alone_back the_self self_alone
  expr_back (an_attribute path) = alone_back (an_attribute path) (path_alone path)
  expr_back (a_paren e) = alone_back (a_paren e) (paren_alone e (expr_back e))
  expr_back (a_unary op e) = alone_back (a_unary op e) (unary_alone op e (expr_back e))
  expr_back (a_chain e steps) = chain_back e steps (expr_back e) (steps_all_back steps)

  pub steps_all_back : (steps : Steps) → StepsBack steps
  steps_all_back no_step = no_steps_back
  steps_all_back (a_step op e steps) = a_step_back op e steps (expr_back e) (steps_all_back steps)
