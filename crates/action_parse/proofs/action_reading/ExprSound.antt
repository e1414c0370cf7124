-- What is read of expressions has these tokens, stands at this level and nests no deeper.
use Rattle.std.proofs.Common.{◌≡◌, ℕ, zero, suc, ◌<◌, ◌≤◌, ◌-◌, Bool, true, false, cond, List, [], ◌∷◌, ◌++◌, length, Option, Some, None, refl, sym, ap, ◌∙◌, subst, append-nil, length-append, arith}
use Rattle.std.specs.Prelude.{option_and_then, nat_le, ◌==◌}
use Rattle.std.proofs.lemmas.Bool.{eqb-true}
use Rattle.room_lexer.specs.declared.token.Mark.{Mark}
use Rattle.room_lexer.specs.declared.token.Mark.TheVariants as marks
use Rattle.room_ast.specs.Tokens.{each, maybe}
use Rattle.room_tokens.specs.Reader.{Reader, ◌⊕◌, reads_as, all_while, rest_of}
use Rattle.room_tokens.proofs.Readers.{Sound, Sound-⊕, Sound-as, Sound-maybe, Sound-many, behind_takes, taken}
use Rattle.room_tokens.specs.action_tokens.Values.{Value, AWord, AName, ANumber, AMark}
use Rattle.room_tokens.specs.action_tokens.Single.{comes, mark, name_at, number_at}
use Rattle.room_tokens.specs.declared.action_tokens.word.ActionWord.TheVariants as words
use Rattle.room_tokens.proofs.action_tokens.Singles.{mark_sound, name_sound, number_sound}
use Rattle.action_program.specs.Named.{ExprTree, a_number, the_true, the_false, a_datum, the_place, the_self, an_attribute, a_paren, a_unary, a_chain, steps_of}
use Rattle.action_program.specs.declared.operator.UnaryOp.TheVariants as unary
use Rattle.action_program.specs.declared.operator.BinaryOp.{BinaryOp}
use Rattle.action_program.specs.declared.operator.BinaryOp.TheVariants as binary
use Rattle.action_parse.specs.action_reading.Tokens.{operator_mark, part, path_tokens, expr_tokens, steps_tokens}
use Rattle.action_parse.specs.action_reading.Written.{below, IsPath, IsDatum, AtLevel, StepsAt, expr_nesting, steps_nesting}
use Rattle.action_parse.specs.action_reading.ExprReading.{operator_of, if_below, op_at, op_comes, step_with, step_at, chain_of, level, path_at, if_small, small_number_at, datum_at, operand_with, under, operand}
use Rattle.action_parse.proofs.action_reading.Always.{Always, Each, IfThere, is_good, anything, Always-⊕, Always-as, Always-optional, Always-many}

-- ---- names and numbers

pub part_sound : Sound (reads_as (λ (x : Unit {0} × List ℕ). x.1) (mark marks.Dot ⊕ name_at)) part
part_sound = Sound-as (λ (x : Unit {0} × List ℕ). x.1) part (Sound-⊕ (mark_sound marks.Dot) name_sound) (λ x. refl)

pub path_sound : Sound path_at path_tokens
unfolding path_at
path_sound = Sound-as (λ (x : List ℕ × List (List ℕ)). x.0 ∷ x.1) path_tokens (Sound-⊕ name_sound (Sound-many (comes marks.Dot) part_sound)) (λ x. refl)

pub path_always : Always path_at IsPath
unfolding path_at
path_always = Always-as (λ (x : List ℕ × List (List ℕ)). x.0 ∷ x.1) IsPath (anything (name_at ⊕ all_while (comes marks.Dot) (reads_as (λ (x : Unit {0} × List ℕ). x.1) (mark marks.Dot ⊕ name_at)))) (λ x g. tt)

record Small (ts : List Value) (z : ℕ × List Value) : Type 0 where
  takes : ts ≡ ANumber z.0 ∷ z.1
  small : z.0 ≤ 63

is_small : (ts : List Value) (x z : ℕ × List Value) → ts ≡ ANumber x.0 ∷ x.1 → (b : Bool) → nat_le x.0 63 ≡ b → cond {A = Option (ℕ × List Value)} b (Some x) None ≡ Some z → Small ts z
is_small ts x z h false t e = absurd cc
is_small ts x z h true t e = let same : x ≡ z = cc in subst (λ (y : ℕ × List Value). Small ts y) same (record { takes = h; small = grind arith })

small_made : (ts : List Value) (z : ℕ × List Value) (r : Option (ℕ × List Value)) → number_at ts ≡ r → option_and_then if_small r ≡ Some z → Small ts z
small_made ts z None i e = absurd cc
small_made ts z (Some x) i e = is_small ts x z (number_sound.takes ts x i) (nat_le x.0 63) refl e

small_sound : Sound small_number_at (λ n. ANumber n ∷ [])
unfolding small_number_at
small_sound = record { takes = λ ts z e. (small_made ts z (number_at ts) refl e).takes }

small_always : Always small_number_at (λ n. n ≤ 63)
unfolding small_number_at
small_always = record { holds = λ ts z e. (small_made ts z (number_at ts) refl e).small }

abbrev bracketed : ℕ → List Value
bracketed n = AMark marks.OpenBracket ∷ ANumber n ∷ AMark marks.CloseBracket ∷ []

datum_maybe : Sound datum_at (maybe bracketed)
unfolding datum_at
datum_maybe =
    Sound-maybe (comes marks.OpenBracket) (Sound-as (λ (x : Unit {0} × (ℕ × Unit {0})). x.1.0) bracketed (Sound-⊕ (mark_sound marks.OpenBracket) (Sound-⊕ small_sound (mark_sound marks.CloseBracket))) (λ x. refl))

datum_always : Always datum_at IsDatum
unfolding datum_at
datum_always = record { holds = λ ts z e. same z.0 ((Always-optional (comes marks.OpenBracket) (Always-as (λ (x : Unit {0} × (ℕ × Unit {0})). x.1.0) (λ n. n ≤ 63) (Always-⊕ (anything (mark marks.OpenBracket)) (Always-⊕ small_always (anything (mark marks.CloseBracket)))) (λ x g. g.1.0))).holds ts z e) }
  where
    same : (o : Option ℕ) → IfThere (λ n. n ≤ 63) o → IsDatum o
    same None h = tt
    same (Some n) h = h

-- ---- operators

pub step_tokens : BinaryOp × ExprTree → List Value
step_tokens s = AMark (operator_mark s.0) ∷ expr_tokens s.1

pub steps_each : (ss : List (BinaryOp × ExprTree)) → steps_tokens (steps_of ss) ≡ each step_tokens ss
unfolding step_tokens
steps_each [] = refl
steps_each (s ∷ ss) = ap (λ us. AMark (operator_mark s.0) ∷ (expr_tokens s.1 ++ us)) (steps_each ss)

chain_tokens : (x : ExprTree × List (BinaryOp × ExprTree)) → expr_tokens (chain_of x) ≡ expr_tokens x.0 ++ each step_tokens x.1
chain_tokens (e, []) = sym (append-nil (expr_tokens e))
chain_tokens (e, s ∷ ss) = ap (λ us. expr_tokens e ++ us) (steps_each (s ∷ ss))

pub op_mark_is : (m : Mark) (op : BinaryOp) → operator_of m ≡ Some op → m ≡ operator_mark op
op_mark_is marks.OrOr op e = let same : binary.Or ≡ op = cc in ap operator_mark same
op_mark_is marks.AndAnd op e = let same : binary.And ≡ op = cc in ap operator_mark same
op_mark_is marks.EqualEqual op e = let same : binary.Equal ≡ op = cc in ap operator_mark same
op_mark_is marks.NotEqual op e = let same : binary.NotEqual ≡ op = cc in ap operator_mark same
op_mark_is marks.Less op e = let same : binary.Less ≡ op = cc in ap operator_mark same
op_mark_is marks.AtMost op e = let same : binary.LessEqual ≡ op = cc in ap operator_mark same
op_mark_is marks.Greater op e = let same : binary.Greater ≡ op = cc in ap operator_mark same
op_mark_is marks.AtLeast op e = let same : binary.GreaterEqual ≡ op = cc in ap operator_mark same
op_mark_is marks.Plus op e = let same : binary.Add ≡ op = cc in ap operator_mark same
op_mark_is marks.Minus op e = let same : binary.Subtract ≡ op = cc in ap operator_mark same
op_mark_is marks.Star op e = let same : binary.Multiply ≡ op = cc in ap operator_mark same
op_mark_is marks.Slash op e = let same : binary.Divide ≡ op = cc in ap operator_mark same
op_mark_is marks.Percent op e = let same : binary.Remainder ≡ op = cc in ap operator_mark same
op_mark_is m op e = absurd cc

pub op_at_is : (k : ℕ) (ts : List Value) (op : BinaryOp) → op_at k ts ≡ Some op → (ts ≡ AMark (operator_mark op) ∷ rest_of ts) × (below op ≡ k)
unfolding op_at
op_at_is k [] op e = absurd cc
op_at_is k (AWord w ∷ ts) op e = absurd cc
op_at_is k (AName n ∷ ts) op e = absurd cc
op_at_is k (ANumber n ∷ ts) op e = absurd cc
op_at_is k (AMark m ∷ ts) op e = by_op (operator_of m) refl e
  where
    by_test : (found : BinaryOp) (t : Bool) → (below found == k) ≡ t → operator_of m ≡ Some found → cond {A = Option BinaryOp} t (Some found) None ≡ Some op → (AMark m ∷ ts ≡ AMark (operator_mark op) ∷ ts) × (below op ≡ k)
    by_test found false t h e = absurd cc
    by_test found true t h e =
        let same : found ≡ op = cc in
        subst (λ (o : BinaryOp). (AMark m ∷ ts ≡ AMark (operator_mark o) ∷ ts) × (below o ≡ k)) same (ap (λ (n : Mark). AMark n ∷ ts) (op_mark_is m found h), eqb-true _ _ t)

    by_op : (o : Option BinaryOp) → operator_of m ≡ o → if_below k o ≡ Some op → (AMark m ∷ ts ≡ AMark (operator_mark op) ∷ ts) × (below op ≡ k)
    by_op None h e = absurd cc
    by_op (Some found) h e = by_test found (below found == k) refl h e

-- ---- levels

pub higher : (e : ExprTree) (j k : ℕ) → j ≤ k → AtLevel e j → AtLevel e k
higher (a_number n) j k le h = tt
higher the_true j k le h = tt
higher the_false j k le h = tt
higher (a_datum n) j k le h = h
higher the_place j k le h = tt
higher the_self j k le h = tt
higher (an_attribute path) j k le h = h
higher (a_paren e) j k le h = h
higher (a_unary op e) j k le h = h
higher (a_chain e steps) j k le h = (h.0, omega (arith, h.1), h.2, h.3, h.4)

-- at this level, and nested less deep
abbrev pub Fits : ℕ → ℕ → ExprTree → Type 0
Fits k depth e = AtLevel e k × (expr_nesting e < depth)

abbrev pub StepFits : ℕ → ℕ → BinaryOp × ExprTree → Type 0
StepFits k depth s = (below s.0 ≡ k) × Fits k depth s.1

step_takes : (k : ℕ) (p : Reader Value ExprTree) → Sound p expr_tokens → (ts : List Value) (z : (BinaryOp × ExprTree) × List Value) (o : Option BinaryOp) → op_at k ts ≡ o → step_with p ts o ≡ Some z → ts ≡ step_tokens z.0 ++ z.1
unfolding step_tokens
step_takes k p h ts z None i e = absurd cc
step_takes k p h ts z (Some op) i e = (op_at_is k ts op i).0 ∙ behind_takes (AMark (operator_mark op)) p expr_tokens (λ (r : ExprTree). (op, r)) (λ (s : BinaryOp × ExprTree). AMark (operator_mark s.0) ∷ expr_tokens s.1) h (λ x. refl) (rest_of ts) z e

pub step_sound : {p : Reader Value ExprTree} (k : ℕ) → Sound p expr_tokens → Sound (step_at k p) step_tokens
unfolding step_at
step_sound {p = p} k h = record { takes = λ ts z e. step_takes k p h ts z (op_at k ts) refl e }

step_holds : (k depth : ℕ) (p : Reader Value ExprTree) → Always p (Fits k depth) → (ts : List Value) (z : (BinaryOp × ExprTree) × List Value) (o : Option BinaryOp) → op_at k ts ≡ o → step_with p ts o ≡ Some z → StepFits k depth z.0
step_holds k depth p h ts z None i e = absurd cc
step_holds k depth p h ts z (Some op) i e =
    (Always-as (λ (r : ExprTree). (op, r)) (StepFits k depth) h (λ x g. ((op_at_is k ts op i).1, g))).holds (rest_of ts) z e

step_always : {p : Reader Value ExprTree} (k depth : ℕ) → Always p (Fits k depth) → Always (step_at k p) (StepFits k depth)
unfolding step_at
step_always {p = p} k depth h = record { holds = λ ts z e. step_holds k depth p h ts z (op_at k ts) refl e }

pub level_sound : {p : Reader Value ExprTree} (k : ℕ) → Sound p expr_tokens → Sound (level k p) expr_tokens
unfolding level
level_sound zero h = record { takes = λ ts z e. h.takes ts z e }
level_sound (suc k) h = record {
  takes = λ ts z e. (Sound-as chain_of expr_tokens (Sound-⊕ (level_sound k h) (Sound-many (op_comes k) (step_sound k (level_sound k h)))) chain_tokens).takes ts z e;
}

steps_fit : (k depth : ℕ) (ss : List (BinaryOp × ExprTree)) → 0 < depth → Each (StepFits k depth) ss → StepsAt (steps_of ss) k × (steps_nesting (steps_of ss) < depth)
steps_fit k depth [] some h = (tt, some)
steps_fit k depth (s ∷ ss) some h =
    let others = steps_fit k depth ss some h.1 in ((h.0.0, h.0.1.0, others.0), omega (arith, h.0.1.1, others.1))

chain_fits : (k depth : ℕ) (x : ExprTree × List (BinaryOp × ExprTree)) → Fits k depth x.0 × Each (StepFits k depth) x.1 → Fits (suc k) depth (chain_of x)
chain_fits k depth (e, []) h = (higher e k (suc k) (omega arith) h.0.0, h.0.1)
chain_fits k depth (e, s ∷ ss) h =
    let steps = steps_fit k depth (s ∷ ss) (omega (arith, h.0.1)) h.1 in ((k, omega arith, tt, h.0.0, steps.0), omega (arith, h.0.1, steps.1))

pub level_always : {p : Reader Value ExprTree} (k depth : ℕ) → Always p (Fits 0 depth) → Always (level k p) (Fits k depth)
unfolding level
level_always zero depth h = record { holds = λ ts z e. h.holds ts z e }
level_always (suc k) depth h = record {
  holds = λ ts z e.
      (Always-as chain_of (Fits (suc k) depth) (Always-⊕ (level_always k depth h) (Always-many (op_comes k) (step_always k depth (level_always k depth h)))) (chain_fits k depth)).holds ts z e;
}

-- ---- operands

taken_here : (ts : List Value) (e : ExprTree) (us : List Value) (z : ExprTree × List Value) → ts ≡ expr_tokens e ++ us → Some (e, us) ≡ Some z → ts ≡ expr_tokens z.0 ++ z.1
taken_here ts e us z h i = taken expr_tokens ts (e, us) z h i

operand_takes : (p : Reader Value ExprTree) → Sound p expr_tokens → (ts : List Value) (z : ExprTree × List Value) → operand_with p ts ≡ Some z → ts ≡ expr_tokens z.0 ++ z.1
unfolding operand_with
operand_takes p h [] z e = absurd cc
operand_takes p h (ANumber n ∷ ts) z e = taken_here (ANumber n ∷ ts) (a_number n) ts z refl e
operand_takes p h (AWord words.True ∷ ts) z e = taken_here (AWord words.True ∷ ts) the_true ts z refl e
operand_takes p h (AWord words.False ∷ ts) z e = taken_here (AWord words.False ∷ ts) the_false ts z refl e
operand_takes p h (AWord words.Data ∷ ts) z e = behind_takes (AWord words.Data) datum_at (maybe bracketed) a_datum expr_tokens datum_maybe (λ x. refl) ts z e
operand_takes p h (AWord words.Place ∷ ts) z e = taken_here (AWord words.Place ∷ ts) the_place ts z refl e
operand_takes p h (AWord words.Me ∷ ts) z e = taken_here (AWord words.Me ∷ ts) the_self ts z refl e
operand_takes p h (AName n ∷ ts) z e = (Sound-as an_attribute expr_tokens path_sound (λ x. refl)).takes (AName n ∷ ts) z e
operand_takes p h (AMark marks.OpenParen ∷ ts) z e =
    behind_takes (AMark marks.OpenParen) (level 5 p ⊕ mark marks.CloseParen) (λ (x : ExprTree × Unit {0}). expr_tokens x.0 ++ (AMark marks.CloseParen ∷ [])) (λ (x : ExprTree × Unit {0}). a_paren x.0) expr_tokens
    (Sound-⊕ (level_sound 5 h) (mark_sound marks.CloseParen)) (λ x. refl) ts z e
operand_takes p h (AMark marks.Minus ∷ ts) z e = behind_takes (AMark marks.Minus) p expr_tokens (a_unary unary.Negate) expr_tokens h (λ x. refl) ts z e
operand_takes p h (AMark marks.Bang ∷ ts) z e = behind_takes (AMark marks.Bang) p expr_tokens (a_unary unary.Not) expr_tokens h (λ x. refl) ts z e
operand_takes p h (t ∷ ts) z e = absurd cc

pub under_sound : (depth : ℕ) → Sound (under depth) expr_tokens
unfolding under
under_sound zero = record { takes = λ ts z e. absurd cc }
under_sound (suc depth) = record { takes = operand_takes (under depth) (under_sound depth) }

pub operand_sound : (depth : ℕ) → Sound (operand depth) expr_tokens
operand_sound depth = record { takes = operand_takes (under depth) (under_sound depth) }

operand_holds : (depth : ℕ) (p : Reader Value ExprTree) → Always p (Fits 0 depth) → (ts : List Value) (z : ExprTree × List Value) → operand_with p ts ≡ Some z → Fits 0 (suc depth) z.0
unfolding operand_with
operand_holds depth p h [] z e = absurd cc
operand_holds depth p h (ANumber n ∷ ts) z e = is_good (Fits 0 (suc depth)) (a_number n, ts) z (tt, omega arith) e
operand_holds depth p h (AWord words.True ∷ ts) z e = is_good (Fits 0 (suc depth)) (the_true, ts) z (tt, omega arith) e
operand_holds depth p h (AWord words.False ∷ ts) z e = is_good (Fits 0 (suc depth)) (the_false, ts) z (tt, omega arith) e
operand_holds depth p h (AWord words.Data ∷ ts) z e = (Always-as a_datum (Fits 0 (suc depth)) datum_always (λ x g. (g, omega arith))).holds ts z e
operand_holds depth p h (AWord words.Place ∷ ts) z e = is_good (Fits 0 (suc depth)) (the_place, ts) z (tt, omega arith) e
operand_holds depth p h (AWord words.Me ∷ ts) z e = is_good (Fits 0 (suc depth)) (the_self, ts) z (tt, omega arith) e
operand_holds depth p h (AName n ∷ ts) z e = (Always-as an_attribute (Fits 0 (suc depth)) path_always (λ x g. (g, omega arith))).holds (AName n ∷ ts) z e
operand_holds depth p h (AMark marks.OpenParen ∷ ts) z e = (Always-as (λ (x : ExprTree × Unit {0}). a_paren x.0) (Fits 0 (suc depth)) (Always-⊕ (level_always 5 depth h) (anything (mark marks.CloseParen))) (λ x g. (g.0.0, omega (arith, g.0.1)))).holds ts z e
operand_holds depth p h (AMark marks.Minus ∷ ts) z e = (Always-as (a_unary unary.Negate) (Fits 0 (suc depth)) h (λ x g. (g.0, omega (arith, g.1)))).holds ts z e
operand_holds depth p h (AMark marks.Bang ∷ ts) z e = (Always-as (a_unary unary.Not) (Fits 0 (suc depth)) h (λ x g. (g.0, omega (arith, g.1)))).holds ts z e
operand_holds depth p h (t ∷ ts) z e = absurd cc

pub under_always : (depth : ℕ) → Always (under depth) (Fits 0 depth)
unfolding under
under_always zero = record { holds = λ ts z e. absurd cc }
under_always (suc depth) = record { holds = operand_holds depth (under depth) (under_always depth) }

pub operand_always : (depth : ℕ) → Always (operand depth) (Fits 0 (suc depth))
operand_always depth = record { holds = operand_holds depth (under depth) (under_always depth) }

-- ---- what is read takes something

pub some_path : (path : List (List ℕ)) → IsPath path → 0 < length (path_tokens path)
some_path [] h = absurd h
some_path (n ∷ ns) h = omega arith

pub some_token : (e : ExprTree) (k : ℕ) → AtLevel e k → 0 < length (expr_tokens e)
some_token (a_number n) k h = omega arith
some_token the_true k h = omega arith
some_token the_false k h = omega arith
some_token (a_datum n) k h = omega arith
some_token the_place k h = omega arith
some_token the_self k h = omega arith
some_token (an_attribute path) k h = some_path path h
some_token (a_paren e) k h = omega arith
some_token (a_unary op e) k h = omega arith
some_token (a_chain e steps) k h = omega (arith, some_token e h.0 h.3, length-append (expr_tokens e) (steps_tokens steps))

pub behind_shorter : (front ts us : List Value) → ts ≡ front ++ us → 0 < length front → length us < length ts
behind_shorter front ts us e some = omega (arith, ap length e, length-append front us)

pub step_shorter : (k depth : ℕ) (ts : List Value) (s : BinaryOp × ExprTree) (us : List Value) → step_at k (level k (operand depth)) ts ≡ Some (s, us) → length us < length ts
unfolding step_tokens
step_shorter k depth ts s us e = behind_shorter (AMark (operator_mark s.0) ∷ expr_tokens s.1) ts us ((step_sound k (level_sound k (operand_sound depth))).takes ts (s, us) e) (omega arith)

pub part_shorter : (ts : List Value) (n : List ℕ) (us : List Value) → reads_as (λ (x : Unit {0} × List ℕ). x.1) (mark marks.Dot ⊕ name_at) ts ≡ Some (n, us) → length us < length ts
part_shorter ts n us e = behind_shorter (part n) ts us (part_sound.takes ts (n, us) e) (omega arith)

none_inside : (k : ℕ) (p : Reader Value ExprTree) → ((ts : List Value) → p ts ≡ None) → (ts : List Value) → level k p ts ≡ None
unfolding level
none_inside zero p h ts = h ts
none_inside (suc k) p h ts = rw (none_inside k p h ts) refl

pub nothing_inside : (ts : List Value) → level 5 (under 0) ts ≡ None
unfolding under
nothing_inside ts = none_inside 5 (under 0) (λ us. refl) ts

-- under a parenthesis or a sign stands an operand that nests less deep
pub under_is : (depth : ℕ) → 0 < depth → under depth ≡ operand (depth - 1)
unfolding under
under_is zero some = absurd (omega arith)
under_is (suc depth) some = let less : suc depth - 1 ≡ depth = omega arith in rw less refl

pub nothing_under : (ts : List Value) → under 0 ts ≡ None
unfolding under
nothing_under ts = refl
