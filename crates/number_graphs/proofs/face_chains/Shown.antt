-- What far ends say of the chains of pairs.
use Rattle.std.proofs.Common.{◌≡◌, ◌≢◌, ℕ, ◌<◌, List, [], ◌∷◌, length, refl, sym, ap, ◌∙◌, subst, slice_index, inl, inr}
use Rattle.number_graphs.specs.declared.face_chains.FacePair.{FacePair}
use Rattle.number_graphs.specs.face_chains.Chains.{IsPair, IsPaired, IsFree, IsMatching, AreBelow, IsInvolution, Leads, paired, passes, ShowsChains, far_ends}
use Rattle.number_graphs.proofs.face_chains.Known.{Goes, stops, ends, passes as goes_past, AreFarEnds, free_paired, goes_free}
use Rattle.number_graphs.proofs.face_chains.FarEnds.{far_ends_known}

-- a face stands in one pair at most
pair_one : (p : FacePair) (f g h : ℕ) → p.left ≢ p.right → IsPair p f g → IsPair p f h → g ≡ h
pair_one p f g h ne (inl x) (inl y) = sym x.1 ∙ y.1
pair_one p f g h ne (inl x) (inr y) = absurd (ne (x.0 ∙ sym y.1))
pair_one p f g h ne (inr x) (inl y) = absurd (ne (y.0 ∙ sym x.1))
pair_one p f g h ne (inr x) (inr y) = sym x.0 ∙ y.0

pair_free : (p : FacePair) (ps : List FacePair) (f g h : ℕ) → IsFree ps p.left → IsFree ps p.right → IsPair p f g → IsPaired ps f h → ⊥
pair_free p ps f g h free_l free_r (inl x) y = free_paired ps p.left h free_l (let Q : ℕ → Type 0 = λ n. IsPaired ps n h in subst Q (sym x.0) y)
pair_free p ps f g h free_l free_r (inr x) y = free_paired ps p.right h free_r (let Q : ℕ → Type 0 = λ n. IsPaired ps n h in subst Q (sym x.1) y)

pub paired_one : (ps : List FacePair) (f g h : ℕ) → IsMatching ps → IsPaired ps f g → IsPaired ps f h → g ≡ h
paired_one [] f g h match x y = absurd x
paired_one (p ∷ ps) f g h match (inl x) (inl y) = pair_one p f g h match.0 x y
paired_one (p ∷ ps) f g h match (inl x) (inr y) = absurd (pair_free p ps f g h match.1 match.2 x y)
paired_one (p ∷ ps) f g h match (inr x) (inl y) = absurd (pair_free p ps f h g match.1 match.2 y x)
paired_one (p ∷ ps) f g h match (inr x) (inr y) = paired_one ps f g h match.3 x y

paired_below : (n : ℕ) (ps : List FacePair) (f g : ℕ) → AreBelow n ps → IsPaired ps f g → g < n
paired_below n [] f g below x = absurd x
paired_below n (p ∷ ps) f g below (inl (inl x)) = let Q : ℕ → Type 0 = λ m. m < n in subst Q x.1 below.1
paired_below n (p ∷ ps) f g below (inl (inr x)) = let Q : ℕ → Type 0 = λ m. m < n in subst Q x.0 below.0
paired_below n (p ∷ ps) f g below (inr x) = paired_below n ps f g below.2 x

module _ (across : List ℕ) (ps : List FacePair) (inv : IsInvolution across) (match : IsMatching ps) (below : AreBelow (length across) ps) where
  -- the chain from a face goes as far as one face
  goes_one : (f u v : ℕ) → Goes across ps f u → Goes across ps f v → u ≡ v
  goes_one f u v (stops _ free) y = sym (goes_free across ps f v free y)
  goes_one f u v (ends _ _ h e) y = at_end h e v y
    where
      at_end : IsPaired ps f u → slice_index across u ≡ u → (v : ℕ) → Goes across ps f v → u ≡ v
      at_end h e v (stops _ free) = absurd (free_paired ps f u free h)
      at_end h e v (ends _ _ h' e') = paired_one ps f u v match h h'
      at_end h e v (goes_past _ g _ h' ne w) = absurd (ne (let Q : ℕ → Type 0 = λ n. slice_index across n ≡ n in subst Q (paired_one ps f u g match h h') e))
  goes_one f u v (goes_past _ g _ h ne w) y = past g h ne (λ v' z. goes_one (slice_index across g) u v' w z) v y
    where
      past : (g : ℕ) → IsPaired ps f g → slice_index across g ≢ g → ((v' : ℕ) → Goes across ps (slice_index across g) v' → u ≡ v') → (v : ℕ) → Goes across ps f v → u ≡ v
      past g h ne on v (stops _ free) = absurd (free_paired ps f g free h)
      past g h ne on v (ends _ _ h' e') = absurd (ne (let Q : ℕ → Type 0 = λ n. slice_index across n ≡ n in subst Q (paired_one ps f v g match h' h) e'))
      past g h ne on v (goes_past _ g' _ h' ne' w') = on v (let Q : ℕ → Type 0 = λ n. Goes across ps (slice_index across n) v in subst Q (paired_one ps f g' g match h' h) w')

  leads_goes : (e h : ℕ) → slice_index across h ≡ h → Leads across ps e h → Goes across ps e h
  leads_goes e h end (paired _ _ x) = ends e h x end
  leads_goes e h end (passes _ g _ x ne l) = goes_past e g h x ne (leads_goes (slice_index across g) h end l)

  goes_leads : (e h : ℕ) → slice_index across h ≡ h → h ≢ e → Goes across ps e h → Leads across ps e h
  goes_leads e h end apart (stops _ free) = absurd (apart refl)
  goes_leads e h end apart (ends _ _ x _) = paired e h x
  goes_leads e h end apart (goes_past _ g _ x ne w) =
      passes e g h x ne (goes_leads (slice_index across g) h end (λ is. ne (sym (sym (inv.back g (paired_below (length across) ps e g below x)) ∙ ap (slice_index across) (sym is) ∙ end ∙ is))) w)

  leads_paired : (e h : ℕ) → Leads across ps e h → IsFree ps e → ⊥
  leads_paired e h (paired _ _ x) free = free_paired ps e h free x
  leads_paired e h (passes _ g _ x ne l) free = free_paired ps e g free x

  known : AreFarEnds across ps (far_ends across ps)
  known = far_ends_known across ps inv match below

  chain_at : (e : ℕ) → e < length across → slice_index across e ≡ e → Goes across ps e (slice_index (far_ends across ps) e)
  chain_at e lt end = let Q : ℕ → Type 0 = λ n. Goes across ps n (slice_index (far_ends across ps) e) in subst Q end (known.chain e lt (inl end))

  pub shown : ShowsChains across ps (far_ends across ps)
  shown = record {
    leads = λ e h lt end_e end_h is apart. goes_leads e h end_h apart (let Q : ℕ → Type 0 = λ n. Goes across ps e n in subst Q is (chain_at e lt end_e));
    led = λ e h lt end_e end_h l.
        let is : slice_index (far_ends across ps) e ≡ h = goes_one e _ h (chain_at e lt end_e) (leads_goes e h end_h l) in
        (is, λ same. leads_paired e h l (known.alone e lt (inl end_e) (is ∙ same)).1);
  }

pub shown_at : (across : List ℕ) (ps : List FacePair) (far : List ℕ) → far ≡ far_ends across ps → IsInvolution across → IsMatching ps → AreBelow (length across) ps → ShowsChains across ps far
shown_at across ps far e inv match below = let Q : List ℕ → Type 0 = λ xs. ShowsChains across ps xs in subst Q (sym e) (shown across ps inv match below)
