-- Two merges of the same journals are one.
use Rattle.std.proofs.Common.{◌≡◌, ℕ, List, [], ◌∷◌, drop, refl, sym, ap, ◌∙◌, ◌⊎◌, inl, inr}
use Rattle.std.proofs.lemmas.Bool.{cases_eq}
use Rattle.actor_merge.specs.World.{Placed}
use Rattle.actor_merge.specs.Merge.{IsBefore, InOrder, entries_of}
use Rattle.law_merges.proofs.Parties.{first_here, first_other, before_first, not_both}

-- each party has the same entries
abbrev pub SameEntries : List Placed → List Placed → Type 0
SameEntries xs ys = (p : ℕ) → entries_of p xs ≡ entries_of p ys

same_tail : (x y : Placed) (xs ys : List Placed) → x.party ≡ y.party → SameEntries (x ∷ xs) (y ∷ ys) → SameEntries xs ys
same_tail x y xs ys e same p = go (cases_eq p x.party)
  where
    go : (p ≡ x.party) ⊎ (p ≡ x.party → ⊥) → entries_of p xs ≡ entries_of p ys
    go (inl own) = ap (drop 1) (sym (first_here p x xs own) ∙ same p ∙ first_here p y ys (own ∙ e))
    go (inr other) = sym (first_other p x xs other) ∙ same p ∙ first_other p y ys (λ k. other (k ∙ sym e))

-- of two parties that go first in two lists with the same entries, each goes before the other
goes_before : (x y : Placed) (xs ys : List Placed) → (y.party ≡ x.party → ⊥) → InOrder (x ∷ xs) → SameEntries (x ∷ xs) (y ∷ ys) → IsBefore x y
goes_before x y xs ys apart order same =
    before_first x y.party y.entry (entries_of y.party ys) xs order.0
    (sym (first_other y.party x xs apart) ∙ same y.party ∙ first_here y.party y ys refl)

pub one_merge : (xs ys : List Placed) → InOrder xs → InOrder ys → SameEntries xs ys → xs ≡ ys
one_merge [] [] a b same = refl
one_merge [] (y ∷ ys) a b same = let none : [] ≡ y.entry ∷ entries_of y.party ys = same y.party ∙ first_here y.party y ys refl in absurd cc
one_merge (x ∷ xs) [] a b same = let none : x.entry ∷ entries_of x.party xs ≡ [] = sym (first_here x.party x xs refl) ∙ same x.party in absurd cc
one_merge (x ∷ xs) (y ∷ ys) a b same = go (cases_eq x.party y.party) (λ more. one_merge xs ys a.1 b.1 more)
  where
    go : (x.party ≡ y.party) ⊎ (x.party ≡ y.party → ⊥) → (SameEntries xs ys → xs ≡ ys) → x ∷ xs ≡ y ∷ ys
    go (inl e) rest =
        let both : x.entry ∷ entries_of x.party xs ≡ y.entry ∷ entries_of x.party ys =
        sym (first_here x.party x xs refl) ∙ same x.party ∙ first_here x.party y ys e in
        let head : x.entry ≡ y.entry = cc in
        let tail : xs ≡ ys = rest (same_tail x y xs ys e same) in
        λ i. record { party = e i; entry = head i } ∷ tail i
    go (inr apart) rest =
        absurd (not_both x y (goes_before x y xs ys (λ k. apart (sym k)) a same) (goes_before y x ys xs apart b (λ p. sym (same p))))
