-- One more pair: the far ends stay known.
use Rattle.std.proofs.Common.{◌≡◌, ◌≢◌, ◌⊎◌, ℕ, ◌<◌, List, length, sym, ap, ◌∙◌, subst, slice_index, inl, inr}
use Rattle.std.proofs.lemmas.Bool.{cases_eq}
use Rattle.number_graphs.specs.declared.face_chains.FacePair.{FacePair}
use Rattle.number_graphs.specs.face_chains.Chains.{IsPaired, IsFree}
use Rattle.number_graphs.proofs.face_chains.Known.{Goes, stops, ends, passes, IsTerminal, AreFarEnds, free_paired, goes_free, paired_sym}

-- two faces that no pair had are paired
pub record IsJoined (across : List ℕ) (ps more : List FacePair) (f g : ℕ) (far : List ℕ) : Type 0 where
  pub distinct : f ≢ g
  pub free_f : IsFree ps f
  pub free_g : IsFree ps g
  pub joins : IsPaired more f g
  pub grows : (y z : ℕ) → IsPaired ps y z → IsPaired more y z
  pub stays : (y : ℕ) → IsFree ps y → f ≢ y → g ≢ y → IsFree more y
  pub was : (y : ℕ) → IsFree more y → IsFree ps y × (f ≢ y) × (g ≢ y)
  pub known : AreFarEnds across ps far
  pub in_f : f < length across
  pub in_g : g < length across

pub swapped : (across : List ℕ) (ps more : List FacePair) (f g : ℕ) (far : List ℕ) → IsJoined across ps more f g far → IsJoined across ps more g f far
swapped across ps more f g far j = record {
  distinct = λ e. j.distinct (sym e);
  free_f = j.free_g;
  free_g = j.free_f;
  joins = paired_sym more f g j.joins;
  grows = j.grows;
  stays = λ y free nf ng. j.stays y free ng nf;
  was = λ y free. ((j.was y free).0, (j.was y free).2, (j.was y free).1);
  known = j.known;
  in_f = j.in_g;
  in_g = j.in_f;
}

module _ (across : List ℕ) (ps more : List FacePair) (f g : ℕ) (far : List ℕ) (joined : IsJoined across ps more f g far) where
  open joined use {distinct, free_f, free_g, joins, grows, stays, was, known, in_f, in_g}

  abbrev a : ℕ
  a = slice_index far f

  abbrev b : ℕ
  b = slice_index far g

  was_terminal : (t : ℕ) → IsTerminal across more t → IsTerminal across ps t
  was_terminal t (inl e) = inl e
  was_terminal t (inr h) = inr (was t h).0

  -- a chain that ends elsewhere stays
  pub goes_on : (y u : ℕ) → f ≢ u → g ≢ u → Goes across ps y u → Goes across more y u
  goes_on y u nf ng (stops _ free) = stops y (stays y free nf ng)
  goes_on y u nf ng (ends _ _ h e) = ends y u (grows y u h) e
  goes_on y u nf ng (passes _ h _ p ne w) = passes y h u (grows y h p) ne (goes_on (slice_index across h) u nf ng w)

  -- a chain that ended at the first face goes on from there
  glued : (y v u : ℕ) → v ≡ f → Goes across more f u → Goes across ps y v → Goes across more y u
  glued y v u e on (stops _ free) = let Q : ℕ → Type 0 = λ n. Goes across more n u in subst Q (sym e) on
  glued y v u e on (ends _ _ h end) = absurd (free_paired ps f y free_f (let Q : ℕ → Type 0 = λ n. IsPaired ps n y in subst Q e (paired_sym ps y v h)))
  glued y v u e on (passes _ h _ p ne w) = passes y h u (grows y h p) ne (glued (slice_index across h) v u e on w)

  end_of_free : (h : ℕ) → IsFree ps h → h < length across → slice_index across h ≡ h → slice_index far h ≡ h
  end_of_free h free lt e = goes_free across ps h (slice_index far h) free (let Q : ℕ → Type 0 = λ n. Goes across ps n (slice_index far h) in subst Q e (known.chain h lt (inr free)))

  -- the chain across the second face leads on from the first
  crossed : f ≢ b → Goes across more f b
  crossed nf =
      elim (cases_eq (slice_index across g) g) [
        | inl e ↦ let Q : ℕ → Type 0 = λ n. Goes across more f n in subst Q (sym (end_of_free g free_g in_g e)) (ends f g joins e)
        | inr ne ↦ passes f g b joins ne (goes_on (slice_index across g) b nf (λ e. ne (known.alone g in_g (inr free_g) (sym e)).0) (known.chain g in_g (inr free_g)))
      ]

  not_terminal : (h : ℕ) → h ≡ f ⊎ h ≡ g → IsTerminal across more h → slice_index across h ≡ h
  not_terminal h which (inl e) = e
  not_terminal h (inl e) (inr free) = absurd ((was h free).1 (sym e))
  not_terminal h (inr e) (inr free) = absurd ((was h free).2 (sym e))

  -- where the first face's far end still ends a chain, the two faces aren't the ends of one chain
  no_circle : IsTerminal across more a → f ≢ b
  no_circle ta e =
      let far_b : slice_index far b ≡ g = known.back g in_g (inr free_g) in
      let a_is : a ≡ g = ap (slice_index far) e ∙ far_b in
      let end : slice_index across g ≡ g = let Q : ℕ → Type 0 = λ n. slice_index across n ≡ n in subst Q a_is (not_terminal a (inr a_is) ta) in
      distinct (e ∙ end_of_free g free_g in_g end)

  -- the other one's far end ends a chain
  pub end_terminal : IsTerminal across more a → IsTerminal across more b
  end_terminal ta = at_b (known.terminal g in_g (inr free_g))
    where
      at_b : IsTerminal across ps b → IsTerminal across more b
      at_b (inl e) = inl e
      at_b (inr free) = elim (cases_eq g b) [ inl e ↦ inl (let Q : ℕ → Type 0 = λ n. slice_index across n ≡ n in subst Q e (known.alone g in_g (inr free_g) (sym e)).0) | inr ng ↦ inr (stays b free (no_circle ta) ng) ]

  pub end_chain : IsTerminal across more a → Goes across more (slice_index across a) b
  end_chain ta =
      let in_a : a < length across = known.within f in_f (inr free_f) in
      glued (slice_index across a) (slice_index far a) b (known.back f in_f (inr free_f)) (crossed (no_circle ta)) (known.chain a in_a (was_terminal a ta))

  pub ends_differ : a ≢ b
  ends_differ e = distinct (sym (known.back f in_f (inr free_f)) ∙ ap (slice_index far) e ∙ known.back g in_g (inr free_g))

  -- another end of a chain isn't led to the two faces, nor does it lead from them
  pub apart : (t : ℕ) → t < length across → IsTerminal across more t → t ≢ a → f ≢ slice_index far t
  apart t lt tt' na e = na (sym (known.back t lt (was_terminal t tt')) ∙ ap (slice_index far) (sym e))

  pub apart_end : (t : ℕ) → t < length across → IsTerminal across more t → t ≢ a → slice_index far t ≢ a
  apart_end t lt tt' na e =
      let is_f : t ≡ f = sym (known.back t lt (was_terminal t tt')) ∙ ap (slice_index far) e ∙ known.back f in_f (inr free_f) in
      let end : slice_index across f ≡ f = let Q : ℕ → Type 0 = λ n. slice_index across n ≡ n in subst Q is_f (not_terminal t (inl is_f) tt') in
      na (is_f ∙ sym (end_of_free f free_f in_f end))

  pub apart_free : (t : ℕ) → t < length across → t ≢ a → slice_index far t ≡ t → f ≢ t
  apart_free t lt na e is = na (sym e ∙ ap (slice_index far) (sym is))
