-- The far ends after each pair are those of the chains.
use Rattle.std.proofs.Common.{◌≡◌, ◌≢◌, ℕ, ◌<◌, List, [], ◌∷◌, length, refl, sym, ◌∙◌, subst, arith, slice_index, slice_set, inl, inr, get_or-set_same, get_or-set_other, length-set}
use Rattle.std.proofs.lemmas.Bool.{cases_eq}
use Rattle.number_graphs.specs.declared.face_chains.FacePair.{FacePair}
use Rattle.number_graphs.specs.face_chains.Chains.{IsFree, IsMatching, AreBelow, IsInvolution, far_ends, far_ends_joined}
use Rattle.number_graphs.proofs.face_chains.Known.{Goes, stops, IsTerminal, AreFarEnds}
use Rattle.number_graphs.proofs.face_chains.Joining.{IsJoined, swapped, goes_on, end_terminal, end_chain, ends_differ, apart, apart_end, apart_free}

-- two faces are the far ends of one another, and the others are as they were
pub record IsMoved (far new : List ℕ) (a b : ℕ) : Type 0 where
  pub size : length new ≡ length far
  pub at_a : slice_index new a ≡ b
  pub at_b : slice_index new b ≡ a
  pub other : (t : ℕ) → t ≢ a → t ≢ b → slice_index new t ≡ slice_index far t

moved : (far : List ℕ) (a b : ℕ) → a ≢ b → a < length far → b < length far → IsMoved far (slice_set (slice_set far a b) b a) a b
moved far a b ne in_a in_b = record {
  size = length-set (slice_set far a b) b a ∙ length-set far a b;
  at_a = get_or-set_other (slice_set far a b) b a a 0 ne ∙ get_or-set_same far a b 0 in_a;
  at_b = get_or-set_same (slice_set far a b) b a 0 (let e = length-set far a b in omega (arith, e));
  other = λ t na nb. get_or-set_other (slice_set far a b) b t a 0 nb ∙ get_or-set_other far a t b 0 na;
}

module _ (across : List ℕ) (ps more : List FacePair) (f g : ℕ) (far new : List ℕ) (j : IsJoined across ps more f g far) (m : IsMoved far new (slice_index far f) (slice_index far g)) where
  abbrev a : ℕ
  a = slice_index far f

  abbrev b : ℕ
  b = slice_index far g

  k : IsJoined across ps more g f far
  k = swapped across ps more f g far j

  each : (Q : ℕ → ℕ → Type 0) (t : ℕ) → Q a b → Q b a → (t ≢ a → t ≢ b → Q t (slice_index far t)) → Q t (slice_index new t)
  each Q t qa qb qt =
      elim (cases_eq t a) [
        | inl e ↦ let R : ℕ → Type 0 = λ n. Q n (slice_index new n) in subst R (sym e) (let S : ℕ → Type 0 = λ n. Q a n in subst S (sym m.at_a) qa)
        | inr na ↦ elim (cases_eq t b) [
          | inl e ↦ let R : ℕ → Type 0 = λ n. Q n (slice_index new n) in subst R (sym e) (let S : ℕ → Type 0 = λ n. Q b n in subst S (sym m.at_b) qb)
          | inr nb ↦ let S : ℕ → Type 0 = λ n. Q t n in subst S (sym (m.other t na nb)) (qt na nb)
        ]
      ]

  was_terminal : (t : ℕ) → IsTerminal across more t → IsTerminal across ps t
  was_terminal t (inl e) = inl e
  was_terminal t (inr h) = inr (j.was t h).0

  still : (u : ℕ) → f ≢ u → g ≢ u → IsTerminal across ps u → IsTerminal across more u
  still u nf ng (inl e) = inl e
  still u nf ng (inr free) = inr (j.stays u free nf ng)

  pub stepped : AreFarEnds across more new
  stepped = record {
    size = m.size ∙ j.known.size;
    within = λ t lt tt'. each (λ t v. t < length across → IsTerminal across more t → v < length across) t (λ _ _. j.known.within g j.in_g (inr j.free_g)) (λ _ _. j.known.within f j.in_f (inr j.free_f)) (λ na nb lt tt'. j.known.within t lt (was_terminal t tt')) lt tt';
    terminal = λ t lt tt'. each (λ t v. t < length across → IsTerminal across more t → IsTerminal across more v) t (λ _ ta. end_terminal across ps more f g far j ta) (λ _ tb. end_terminal across ps more g f far k tb)
        (λ na nb lt tt'. still (slice_index far t) (apart across ps more f g far j t lt tt' na) (apart across ps more g f far k t lt tt' nb) (j.known.terminal t lt (was_terminal t tt'))) lt tt';
    back = λ t lt tt'. each (λ t v. t < length across → IsTerminal across more t → slice_index new v ≡ t) t (λ _ _. m.at_b) (λ _ _. m.at_a)
        (λ na nb lt tt'. m.other (slice_index far t) (apart_end across ps more f g far j t lt tt' na) (apart_end across ps more g f far k t lt tt' nb) ∙ j.known.back t lt (was_terminal t tt')) lt tt';
    chain = λ t lt tt'. each (λ t v. t < length across → IsTerminal across more t → Goes across more (slice_index across t) v) t (λ _ ta. end_chain across ps more f g far j ta) (λ _ tb. end_chain across ps more g f far k tb)
        (λ na nb lt tt'. goes_on across ps more f g far j (slice_index across t) (slice_index far t) (apart across ps more f g far j t lt tt' na) (apart across ps more g f far k t lt tt' nb) (j.known.chain t lt (was_terminal t tt'))) lt tt';
    alone = λ t lt tt'. each (λ t v. t < length across → IsTerminal across more t → v ≡ t → (slice_index across t ≡ t) × IsFree more t) t (λ _ _ e. absurd (ends_differ across ps more f g far j (sym e))) (λ _ _ e. absurd (ends_differ across ps more f g far j e))
        (λ na nb lt tt' e. ((j.known.alone t lt (was_terminal t tt') e).0, j.stays t (j.known.alone t lt (was_terminal t tt') e).1 (apart_free across ps more f g far j t lt na e) (apart_free across ps more g f far k t lt nb e))) lt tt';
  }

-- before any pair, each face's far end lies across it
begun : (across : List ℕ) → IsInvolution across → AreFarEnds across [] across
begun across inv = record {
  size = refl;
  within = λ t lt tt'. inv.within t lt;
  terminal = λ t lt tt'. inr tt;
  back = λ t lt tt'. inv.back t lt;
  chain = λ t lt tt'. stops (slice_index across t) tt;
  alone = λ t lt tt' e. (e, tt);
}

pub far_ends_known : (across : List ℕ) (pairs : List FacePair) → IsInvolution across → IsMatching pairs → AreBelow (length across) pairs → AreFarEnds across pairs (far_ends across pairs)
unfolding far_ends far_ends_joined
far_ends_known across [] inv match below = begun across inv
far_ends_known across (p ∷ ps) inv match below =
    let known = far_ends_known across ps inv match.3 below.2 in
    let joined : IsJoined across ps (p ∷ ps) p.left p.right (far_ends across ps) = record {
      distinct = match.0;
      free_f = match.1;
      free_g = match.2;
      joins = inl (inl (refl, refl));
      grows = λ y z h. inr h;
      stays = λ y free nf ng. (nf, ng, free);
      was = λ y free. (free.2, free.0, free.1);
      known = known;
      in_f = below.0;
      in_g = below.1;
    } in
    let far = far_ends across ps in
    let in_a : slice_index far p.left < length across = known.within p.left below.0 (inr match.1) in
    let in_b : slice_index far p.right < length across = known.within p.right below.1 (inr match.2) in
    stepped across ps (p ∷ ps) p.left p.right far (far_ends across (p ∷ ps)) joined
    (moved far (slice_index far p.left) (slice_index far p.right) (ends_differ across ps (p ∷ ps) p.left p.right far joined) (let e = known.size in omega (arith, e, in_a)) (let e = known.size in omega (arith, e, in_b)))
