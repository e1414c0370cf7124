-- A list of pairs that leads from one face to another leads back, too.
use Rattle.std.proofs.Common.{◌≡◌, ◌≢◌, ◌∙◌, ℕ, ◌<◌, List, [], ◌∷◌, length, slice_index, sym, subst, inl, inr}
use Rattle.number_graphs.specs.declared.face_chains.FacePair.{FacePair}
use Rattle.number_graphs.specs.face_chains.Chains.{IsPaired, Leads, paired, passes, AreBelow, IsInvolution}
use Rattle.number_graphs.proofs.face_chains.Known.{paired_sym}

paired_below : (n : ℕ) (ps : List FacePair) (f g : ℕ) → AreBelow n ps → IsPaired ps f g → g < n
paired_below n [] f g below x = absurd x
paired_below n (p ∷ ps) f g below (inl (inl x)) = subst (λ m. m < n) x.1 below.1
paired_below n (p ∷ ps) f g below (inl (inr x)) = subst (λ m. m < n) x.0 below.0
paired_below n (p ∷ ps) f g below (inr x) = paired_below n ps f g below.2 x

module _ (across : List ℕ) (pairs : List FacePair) (inv : IsInvolution across) (below : AreBelow (length across) pairs) where
  -- with one more pair at its end
  leads_on : (f g h : ℕ) → Leads across pairs f g → slice_index across g ≢ g → IsPaired pairs (slice_index across g) h → Leads across pairs f h
  leads_on f g h (paired _ _ p) ne q = passes f g h p ne (paired (slice_index across g) h q)
  leads_on f g h (passes _ k _ p apart l) ne q = passes f k h p apart (leads_on (slice_index across k) g h l ne q)

  pub leads_back : (f h : ℕ) → Leads across pairs f h → Leads across pairs h f
  leads_back f h (paired _ _ p) = paired h f (paired_sym pairs f h p)
  leads_back f h (passes _ g _ p ne l) =
      let far : ℕ = slice_index across g in
      let back : slice_index across far ≡ g = inv.back g (paired_below (length across) pairs f g below p) in
      leads_on h far f (leads_back far h l) (λ same. ne (sym same ∙ back)) (subst (λ n. IsPaired pairs n f) (sym back) (paired_sym pairs f g p))
