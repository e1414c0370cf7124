-- A plain value is the same as itself, and as no other.
use Rattle.std.proofs.Common.{◌≡◌, ℕ, true, List, Option, Some, None, refl, ap}
use Rattle.std.proofs.lemmas.Bool.{eq-eqb, eqb-true}
use Rattle.room_ast.specs.Values.{TokenValue, spelled}
use Rattle.room_ast.specs.declared.protocol.PlainValue.{PlainValue}
use Rattle.room_ast.specs.declared.protocol.PlainValue.TheVariants as plain
use Rattle.room_tokens.specs.Single.{same_plain, string_if}

pub same_itself : (o : Option PlainValue) → same_plain o o ≡ true
same_itself None = refl
same_itself (Some (plain.Number n)) = eq-eqb n n refl
same_itself (Some (plain.Negative n)) = eq-eqb n n refl
same_itself (Some plain.True) = refl
same_itself (Some plain.False) = refl

pub same_is : (a b : Option PlainValue) → same_plain a b ≡ true → a ≡ b
same_is None None e = refl
same_is (Some (plain.Number m)) (Some (plain.Number n)) e = ap (λ (k : ℕ). Some (plain.Number k)) (eqb-true m n e)
same_is (Some (plain.Negative m)) (Some (plain.Negative n)) e = ap (λ (k : ℕ). Some (plain.Negative k)) (eqb-true m n e)
same_is (Some plain.True) (Some plain.True) e = refl
same_is (Some plain.False) (Some plain.False) e = refl
same_is a b e = absurd cc

-- the contents of a STRING are read
pub string_again : (text : List ℕ) (ts : List TokenValue) → string_if text (spelled text) ts (same_plain (spelled text) (spelled text)) ≡ Some (text, ts)
string_again text ts = rw (same_itself (spelled text)) refl
