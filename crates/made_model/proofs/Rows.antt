-- Parts of a text, one behind the other.
use Rattle.std.proofs.Common.{◌≡◌, ℕ, suc, ◌+◌, List, ◌++◌, Result, Ok, Err, ap, ◌∙◌, subst, append_assoc, arith}
use Rattle.std.specs.Prelude.{cond, is_ok, OnOk, codes, decimal}
use Rattle.std.specs.declared.alloc.AllocError.{AllocError}
use Rattle.made_model.specs.Texts.{next_of, binding_row, texts_below}

-- the text of one more number behind others
pub one_more : (text : ℕ → List ℕ) (k : ℕ) (before old now : List ℕ) → old ≡ before ++ texts_below text k → now ≡ old ++ text k → now ≡ before ++ texts_below text (k + 1)
one_more text k before old now h e =
    let next : suc k ≡ k + 1 = omega arith in
    subst (λ n. now ≡ before ++ texts_below text n) next (e ∙ (ap (λ xs. xs ++ text k) h ∙ append_assoc before (texts_below text k) (text k)))

-- two parts, two more, and a last one
pub five_parts : (old mid two now a b c d e : List ℕ) → mid ≡ old ++ (a ++ b) → two ≡ mid ++ (c ++ d) → now ≡ two ++ e → now ≡ old ++ (a ++ (b ++ (c ++ (d ++ e))))
five_parts old mid two now a b c d e p q r = rw (r, q, p) (simp append_assoc)

-- four parts behind a first one
pub four_behind : (first one two three four f a b c d : List ℕ) → first ≡ f → one ≡ first ++ a → two ≡ one ++ b → three ≡ two ++ c → four ≡ three ++ d → four ≡ f ++ (a ++ (b ++ (c ++ d)))
four_behind first one two three four f a b c d e p q r s = rw (s, r, q, p, e) (simp append_assoc)

-- the parts of a binding; the last one may not have found memory
pub binding_parts : (old mid two now : List ℕ) (n k behind : ℕ) (r : Result (Unit {0}) AllocError) → behind ≡ next_of n k → mid ≡ old ++ (codes "Binding r" ++ decimal k) → two ≡ mid ++ (codes ".right and r" ++ decimal behind)
    → now ≡ cond (is_ok r) (two ++ codes ".left\n") two → OnOk r (now ≡ old ++ binding_row n k)
binding_parts old mid two now n k behind (Ok u) is p q e =
    five_parts old mid two now (codes "Binding r") (decimal k) (codes ".right and r") (decimal (next_of n k)) (codes ".left\n") p (subst (λ j. two ≡ mid ++ (codes ".right and r" ++ decimal j)) is q) e
binding_parts old mid two now n k behind (Err u) is p q e = tt
