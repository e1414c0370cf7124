-- The earliest stamp of parties.
use Rattle.std.proofs.Common.{◌≡◌, ℕ, zero, suc, ◌+◌, ◌<◌, ◌≤◌, nat_lt, Bool, true, false, if◌then◌else◌, Option, Some, None, refl, sym, ap, ◌∙◌, subst, ltb-true, arith, ◌⊎◌, inl, inr}
use Rattle.std.proofs.lemmas.Bool.{cases_eq, ltb-false}
use Rattle.std.proofs.lemmas.Option.{some_pair_parts, same_Some}
use Rattle.timed_runs.specs.Unseen.{earlier, earliest_of}

-- one party more
pub earliest_more : (f : ℕ → Option ℕ) (n : ℕ) → earliest_of f (n + 1) ≡ earlier (earliest_of f n) n (f n)
earliest_more f n = let next : n + 1 ≡ suc n = omega arith in ap (λ (k : ℕ). earliest_of f k) next

-- of these parties this one has the earliest stamp, and no lower one has it, too
pub record IsFirst (f : ℕ → Option ℕ) (n stamp party : ℕ) : Type 0 where
  pub there : f party ≡ Some stamp
  pub below : party < n
  pub least : (q other : ℕ) → q < n → f q ≡ Some other → (stamp < other) ⊎ ((stamp ≡ other) × (party ≤ q))

module _ (f : ℕ → Option ℕ) where
  none_more : (n : ℕ) → f n ≡ None → ((q : ℕ) → q < n → f q ≡ None) → (q : ℕ) → q < suc n → f q ≡ None
  none_more n here before q below = go (cases_eq q n)
    where
      go : (q ≡ n) ⊎ (q ≡ n → ⊥) → f q ≡ None
      go (inl e) = ap f e ∙ here
      go (inr other) = before q (omega (arith, below, other))

  some_not_none : (q stamp : ℕ) → f q ≡ Some stamp → f q ≡ None → ⊥
  some_not_none q stamp h k = let both : ◌≡◌ {A = Option ℕ} (Some stamp) None = sym h ∙ k in cc

  -- where there is none, no party has a stamp
  pub none_first : (n : ℕ) → earliest_of f n ≡ None → (q : ℕ) → q < n → f q ≡ None
  none_first zero h q below = absurd (omega (arith, below))
  none_first (suc n) h q below = go (earliest_of f n) refl (f n) refl h (λ e r s. none_first n e r s) q below
    where
      go : (o : Option (ℕ × ℕ)) → earliest_of f n ≡ o → (r : Option ℕ) → f n ≡ r → earlier o n r ≡ None
          → (earliest_of f n ≡ None → (q : ℕ) → q < n → f q ≡ None) → (q : ℕ) → q < suc n → f q ≡ None
      go None e None k h rest = none_more n k (rest e)
      go (Some first) e None k h rest = absurd cc
      go None e (Some stamp) k h rest = absurd cc
      go (Some first) e (Some stamp) k h rest = absurd (by (nat_lt stamp first.0) h)
        where
          by : (b : Bool) → (if b then Some (stamp, n) else Some first) ≡ None → ⊥
          by true h = cc
          by false h = cc

  -- the party's stamp is the first of one party more, where this one has none, or a later one
  first_stays : (n stamp party : ℕ) → IsFirst f n stamp party → ((other : ℕ) → f n ≡ Some other → stamp ≤ other) → IsFirst f (suc n) stamp party
  first_stays n stamp party i later = record {
    there = i.there;
    below = omega (arith, i.below);
    least = λ q other below h. go q other below h (cases_eq q n);
  }
    where
      go : (q other : ℕ) → q < suc n → f q ≡ Some other → (q ≡ n) ⊎ (q ≡ n → ⊥) → (stamp < other) ⊎ ((stamp ≡ other) × (party ≤ q))
      go q other below h (inl e) = order (later other (ap f (sym e) ∙ h)) (cases_eq stamp other)
        where
          order : stamp ≤ other → (stamp ≡ other) ⊎ (stamp ≡ other → ⊥) → (stamp < other) ⊎ ((stamp ≡ other) × (party ≤ q))
          order low (inl same) = inr (same, omega (arith, e, i.below))
          order low (inr apart) = inl (omega (arith, low, apart))
      go q other below h (inr apart) = i.least q other (omega (arith, below, apart)) h

  -- it is the first of one party more, where each other one has a later stamp
  first_new : (n stamp : ℕ) → f n ≡ Some stamp → ((q other : ℕ) → q < n → f q ≡ Some other → stamp < other) → IsFirst f (suc n) stamp n
  first_new n stamp here later = record {
    there = here;
    below = omega arith;
    least = λ q other below h. go q other below h (cases_eq q n);
  }
    where
      go : (q other : ℕ) → q < suc n → f q ≡ Some other → (q ≡ n) ⊎ (q ≡ n → ⊥) → (stamp < other) ⊎ ((stamp ≡ other) × (n ≤ q))
      go q other below h (inl e) = inr (same_Some stamp other (sym here ∙ ap f (sym e) ∙ h), omega (arith, e))
      go q other below h (inr apart) = inl (later q other (omega (arith, below, apart)) h)

  pub is_first : (n stamp party : ℕ) → earliest_of f n ≡ Some (stamp, party) → IsFirst f n stamp party
  is_first zero stamp party h = absurd cc
  is_first (suc n) stamp party h = go (earliest_of f n) refl (f n) refl h (λ s p e. is_first n s p e)
    where
      renamed : (s p : ℕ) → ◌≡◌ {A = Option (ℕ × ℕ)} (Some (s, p)) (Some (stamp, party)) → IsFirst f (suc n) s p → IsFirst f (suc n) stamp party
      renamed s p e i =
          let parts = some_pair_parts s stamp p party e in
          subst (λ (z : ℕ). IsFirst f (suc n) z party) parts.0 (subst (λ (z : ℕ). IsFirst f (suc n) s z) parts.1 i)

      go : (o : Option (ℕ × ℕ)) → earliest_of f n ≡ o → (r : Option ℕ) → f n ≡ r → earlier o n r ≡ Some (stamp, party)
          → ((s p : ℕ) → earliest_of f n ≡ Some (s, p) → IsFirst f n s p) → IsFirst f (suc n) stamp party
      go None e None k h rest = absurd cc
      go (Some first) e None k h rest =
          renamed first.0 first.1 h
          (first_stays n first.0 first.1 (rest first.0 first.1 e) (λ other some. absurd (some_not_none n other some k)))
      go None e (Some s) k h rest =
          renamed s n h (first_new n s k (λ q other below some. absurd (some_not_none q other some (none_first n e q below))))
      go (Some first) e (Some s) k h rest = by (nat_lt s first.0) refl h
        where
          before : IsFirst f n first.0 first.1
          before = rest first.0 first.1 e

          by : (b : Bool) → nat_lt s first.0 ≡ b → (if b then Some (s, n) else Some first) ≡ Some (stamp, party) → IsFirst f (suc n) stamp party
          by true less h =
              renamed s n h
              (first_new n s k
              (λ q other below some. elim (before.least q other below some) [
                | inl more ↦ omega (arith, ltb-true s first.0 less, more)
                | inr same ↦ omega (arith, ltb-true s first.0 less, same.0)
              ]))
          by false less h =
              renamed first.0 first.1 h
              (first_stays n first.0 first.1 before
              (λ other some. let same : s ≡ other = same_Some s other (sym k ∙ some) in omega (arith, ltb-false s first.0 less, same)))
