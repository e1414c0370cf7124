-- What a parser's answer says of the tokens, where its reader takes what the tree's tokens are and reads them again.
use Rattle.std.proofs.Common.{◌≡◌, List, Option, Some, None, Result, Ok, Err, sym, ap, ◌∙◌}
use Rattle.std.specs.Prelude.{IfOk, ◌≢◌, ℕ}
use Rattle.room_tokens.specs.Reader.{Gives}
use Rattle.room_tokens.specs.declared.fault.ReadFault.{ReadFault}
use Rattle.room_tokens.specs.declared.fault.ReadFault.TheVariants as faults

-- what is read is what the tree's tokens are, and each tree's tokens are read
pub record Reading {V T : Type 0} (p : List V → Option T) (out : T → List V) : Type 0 where
  pub takes : (ts : List V) (t : T) → p ts ≡ Some t → ts ≡ out t
  pub again : (t : T) → p (out t) ≡ Some t

pub found : {V X T : Type 0} {p : List V → Option T} {out : T → List V} → Reading p out → (view : X → T) (r : Result X ReadFault) (ts : List V) → Gives view r (p ts) → IfOk r (λ x. out (view x) ≡ ts)
found h view (Ok x) ts e = sym (h.takes ts (view x) e)
found h view (Err e) ts given = tt

pub only : {V X T : Type 0} {p : List V → Option T} {out : T → List V} → Reading p out → (view : X → T) (r : Result X ReadFault) (ts : List V) → Gives view r (p ts) → (t : T) → out t ≡ ts → Gives view r (Some t)
only {p = p} h view (Ok x) ts given t e = sym (h.again t) ∙ ap p e ∙ given
only h view (Err faults.Memory) ts given t e = tt
only {p = p} h view (Err (faults.Syntax at)) ts given t e = sym (h.again t) ∙ ap p e ∙ given

pub none : {V X T : Type 0} {p : List V → Option T} {out : T → List V} → Reading p out → (view : X → T) (r : Result X ReadFault) (ts : List V) → Gives view r (p ts) → (at : ℕ) → r ≡ Err (faults.Syntax at) → (t : T) → out t ≢ ts
none h view (Ok x) ts given at is t e = absurd cc
none h view (Err faults.Memory) ts given at is t e = absurd cc
none {p = p} h view (Err (faults.Syntax place)) ts given at is t e = let some : Some t ≡ None = sym (h.again t) ∙ ap p e ∙ given in absurd cc

some_same : {A : Type 0} {x y : A} → Some x ≡ Some y → x ≡ y
some_same e = cc

-- no two trees have the same tokens
pub one_tree : {V T : Type 0} {p : List V → Option T} {out : T → List V} → Reading p out → (t u : T) → out t ≡ out u → t ≡ u
one_tree {p = p} h t u e = some_same (sym (h.again t) ∙ ap p e ∙ h.again u)
