-- Turns of the loops of expressions.
use Rattle.std.proofs.Common.{◌≡◌, ℕ, zero, suc, ◌+◌, ◌-◌, ◌<◌, List, [], ◌∷◌, length, Option, Some, None, refl, sym, ap, ◌∙◌, arith, Bool, false}
use Rattle.std.specs.Prelude.{option_map, option_and_then}
use Rattle.room_tokens.specs.Reader.{Reader, ◌⊕◌, reads_as, many, all_while, Fails}
use Rattle.room_tokens.specs.declared.fault.ReadFault.{ReadFault}
use Rattle.room_tokens.specs.declared.fault.ReadFault.TheVariants as faults
use Rattle.room_tokens.proofs.Loop.{with_front, starts}
use Rattle.room_lexer.specs.declared.token.Mark.TheVariants as marks
use Rattle.room_tokens.specs.action_tokens.Values.{Value}
use Rattle.room_tokens.specs.action_tokens.Single.{comes, name_at}
use Rattle.action_program.specs.Named.{ExprTree}
use Rattle.action_program.specs.declared.operator.BinaryOp.{BinaryOp}
use Rattle.action_parse.specs.action_reading.ExprReading.{level, op_comes, step_at, chain_of, part_at, path_at, path_from}

one_front : {A : Type 0} (x : A) (r : Option (List A × List Value))
    → option_map (λ (z : (A × List A) × List Value). (z.0.0 ∷ z.0.1, z.1)) (option_and_then (λ (y : List A × List Value). Some ((x, y.0), y.1)) r) ≡ with_front (x ∷ []) r
one_front x None = refl
one_front x (Some y) = refl

with_none : {A : Type 0} (r : Option (List A × List Value)) → with_front [] r ≡ r
with_none None = refl
with_none (Some x) = refl

-- before the first turn, behind a first item
pub starts_behind : {A : Type 0} (first : Reader Value A) (g : List Value → Bool) (more : Reader Value A) (ts : List Value) (x : A) (rest : List Value) → first ts ≡ Some (x, rest)
    → with_front (x ∷ []) (many g more (length rest + 1) rest) ≡ reads_as (λ (x : A × List A). x.0 ∷ x.1) (first ⊕ all_while g more) ts
starts_behind {A = A} first g more ts x rest h =
    let all : many g more (length rest + 1) rest ≡ all_while g more rest = sym (with_none (many g more (length rest + 1) rest)) ∙ starts g more rest in
    rw h (ap (with_front (x ∷ [])) all ∙ sym (one_front x (all_while g more rest)))

-- ---- levels

pub level_base : (k : ℕ) (p : Reader Value ExprTree) (ts : List Value) → k ≡ 0 → level k p ts ≡ p ts
unfolding level
level_base k p ts h = rw h refl

pub level_fails : (f : ReadFault) (k : ℕ) (p : Reader Value ExprTree) (ts : List Value) → 0 < k → Fails f (level (k - 1) p ts) → Fails f (level k p ts)
unfolding level
level_fails faults.Memory k p ts some h = tt
level_fails (faults.Syntax at) zero p ts some h = absurd (omega arith)
level_fails (faults.Syntax at) (suc k) p ts some h =
    let less : suc k - 1 ≡ k = omega arith in
    let first : level k p ts ≡ None = rw less at h in
    rw first refl

pub others_fail : (f : ReadFault) (k : ℕ) (p : Reader Value ExprTree) (ts us : List Value) (e : ExprTree) → 0 < k → level (k - 1) p ts ≡ Some (e, us) → Fails f (all_while (op_comes (k - 1)) (step_at (k - 1) (level (k - 1) p)) us) → Fails f (level k p ts)
unfolding level
others_fail faults.Memory k p ts us e some h i = tt
others_fail (faults.Syntax at) zero p ts us e some h i = absurd (omega arith)
others_fail (faults.Syntax at) (suc k) p ts us e some h i =
    let less : suc k - 1 ≡ k = omega arith in
    let first : level k p ts ≡ Some (e, us) = rw less at h in
    let others : all_while (op_comes k) (step_at k (level k p)) us ≡ None = rw less at i in
    rw (first, others) refl

pub level_made : (k : ℕ) (p : Reader Value ExprTree) (ts us vs : List Value) (e : ExprTree) (ss : List (BinaryOp × ExprTree)) → 0 < k → level (k - 1) p ts ≡ Some (e, us)
    → all_while (op_comes (k - 1)) (step_at (k - 1) (level (k - 1) p)) us ≡ Some (ss, vs) → level k p ts ≡ Some (chain_of (e, ss), vs)
unfolding level
level_made zero p ts us vs e ss some h i = absurd (omega arith)
level_made (suc k) p ts us vs e ss some h i =
    let less : suc k - 1 ≡ k = omega arith in
    let first : level k p ts ≡ Some (e, us) = rw less at h in
    let others : all_while (op_comes k) (step_at k (level k p)) us ≡ Some (ss, vs) = rw less at i in
    rw (first, others) refl

-- a name behind which no dot comes is a path
pub one_part : (ts rest : List Value) (name : List ℕ) → name_at ts ≡ Some (name, rest) → comes marks.Dot rest ≡ false → path_at ts ≡ Some (name ∷ [], rest)
unfolding path_at all_while many
one_part ts rest name read ends = rw (read, ends) refl

-- a path is its first part, and those that come behind it
pub more_parts : (ts rest : List Value) (name : List ℕ) → name_at ts ≡ Some (name, rest) → path_at ts ≡ path_from name rest
unfolding path_at
more_parts ts rest name read = rw read (one_front name (all_while (comes marks.Dot) part_at rest))

-- before the first turn, behind the first part
pub starts_path : (name : List ℕ) (ts : List Value) → with_front (name ∷ []) (many (comes marks.Dot) part_at (length ts + 1) ts) ≡ path_from name ts
starts_path name ts = ap (with_front (name ∷ [])) (sym (with_none (many (comes marks.Dot) part_at (length ts + 1) ts)) ∙ starts (comes marks.Dot) part_at ts)
