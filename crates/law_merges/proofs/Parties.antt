-- The entries of one party in a list of placed entries.
use Rattle.std.proofs.Common.{◌≡◌, ℕ, Bool, if◌then◌else◌, List, [], ◌∷◌, sym, ap, ◌∙◌, subst, eq-eqb, arith, ◌⊎◌, inl, inr}
use Rattle.std.proofs.lemmas.Bool.{cases_eq, ne_eqb}
use Rattle.journal.specs.declared.entry.Entry.{Entry}
use Rattle.actor_merge.specs.World.{Placed}
use Rattle.actor_merge.specs.Merge.{IsBefore, IsBeforeAll, entries_of}

pub first_here : (p : ℕ) (x : Placed) (xs : List Placed) → p ≡ x.party → entries_of p (x ∷ xs) ≡ x.entry ∷ entries_of p xs
first_here p x xs e = ap (λ (b : Bool). if b then x.entry ∷ entries_of p xs else entries_of p xs) (eq-eqb p x.party e)

pub first_other : (p : ℕ) (x : Placed) (xs : List Placed) → (p ≡ x.party → ⊥) → entries_of p (x ∷ xs) ≡ entries_of p xs
first_other p x xs n = ap (λ (b : Bool). if b then x.entry ∷ entries_of p xs else entries_of p xs) (ne_eqb p x.party n)

-- what goes before all goes before the first entry of a party
pub before_first : (y : Placed) (p : ℕ) (f : Entry) (rest : List Entry) (ys : List Placed) → IsBeforeAll y ys → entries_of p ys ≡ f ∷ rest
    → IsBefore y (record { party = p; entry = f })
before_first y p f rest [] before is = absurd cc
before_first y p f rest (z ∷ zs) before is = go (cases_eq p z.party) (λ k. before_first y p f rest zs before.1 k)
  where
    go : (p ≡ z.party) ⊎ (p ≡ z.party → ⊥) → (entries_of p zs ≡ f ∷ rest → IsBefore y (record { party = p; entry = f }))
        → IsBefore y (record { party = p; entry = f })
    go (inl own) later =
        let both : z.entry ∷ entries_of p zs ≡ f ∷ rest = sym (first_here p z zs own) ∙ is in
        let head : z.entry ≡ f = cc in
        subst (λ (k : ℕ). IsBefore y (record { party = k; entry = f })) (sym own)
        (subst (λ (g : Entry). IsBefore y (record { party = z.party; entry = g })) head before.0)
    go (inr other) later = later (sym (first_other p z zs other) ∙ is)

pub not_both : (x y : Placed) → IsBefore x y → IsBefore y x → ⊥
not_both x y a b =
    elim a [
      | inl less ↦ elim b [ inl more ↦ omega arith | inr more ↦ omega (arith, more.0) ]
      | inr less ↦ elim b [ inl more ↦ omega (arith, less.0) | inr more ↦ omega (arith, less.1, more.1) ]
    ]
