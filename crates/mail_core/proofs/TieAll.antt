-- All ends after a step of each, where the ends share nothing but what is tied.
use Rattle.std.proofs.Common.{ℕ, ◌≡◌, ◌+◌, ◌<◌, List, [], ◌∷◌, ◌++◌, length, map, set, slice_get, get_or, Some, suc, refl, ap, sym, subst, arith, append_assoc}
use Rattle.std.proofs.lemmas.List.{length_push}
use Rattle.mail_core.specs.Tied.{StaysTied}

pub at_seam : {E : Type 0} (pre : List E) (e : E) (rest : List E) → slice_get (pre ++ e ∷ rest) (length pre) ≡ Some e
at_seam [] e rest = refl
at_seam (x ∷ pre) e rest = at_seam pre e rest

pub set_seam : {E : Type 0} (pre : List E) (e e' : E) (rest : List E) → set (pre ++ e ∷ rest) (length pre) e' ≡ pre ++ e' ∷ rest
set_seam [] e e' rest = refl
set_seam (x ∷ pre) e e' rest = ap (λ l. x ∷ l) (set_seam pre e e' rest)

-- each of these ends, the first of which stands at the place k, stays tied
abbrev pub AllStay : {E : Type 0} → (Unit {0} → List E → Type 0) → ℕ → List E → List E → Type 0
AllStay tied k [] [] = Unit {0}
AllStay tied k [] (m ∷ ns) = ⊥
AllStay tied k (o ∷ os) [] = ⊥
AllStay tied k (o ∷ os) (m ∷ ns) = StaysTied tied k tt tt o m × AllStay tied (k + 1) os ns

-- so they are tied together
pub tied_all : {E : Type 0} (tied : Unit {0} → List E → Type 0) (pre olds news rest : List E) → AllStay tied (length pre) olds news → tied tt (pre ++ (olds ++ rest)) → tied tt (pre ++ (news ++ rest))
tied_all tied pre [] [] rest s t = t
tied_all tied pre [] (m ∷ ns) rest s t = absurd s
tied_all tied pre (o ∷ os) [] rest s t = absurd s
tied_all tied pre (o ∷ os) (m ∷ ns) rest s t =
    let one : tied tt (pre ++ m ∷ (os ++ rest)) = subst (tied tt) (set_seam pre o m (os ++ rest)) (s.0.again (pre ++ o ∷ (os ++ rest)) t (at_seam pre o (os ++ rest))) in
    let two : tied tt ((pre ++ m ∷ []) ++ (os ++ rest)) = subst (tied tt) (sym (append_assoc pre (m ∷ []) (os ++ rest))) one in
    subst (tied tt) (append_assoc pre (m ∷ []) (ns ++ rest)) (tied_all tied (pre ++ m ∷ []) os ns rest (subst (λ k. AllStay tied k os ns) (sym (length_push pre m)) s.1) two)

-- from a clause on each index
pub stays_from : {E S : Type 0} (tied : Unit {0} → List E → Type 0) (end_of : S → E) (k : ℕ) (seats seats' : List S) → length seats' ≡ length seats →
    ((i : ℕ) (d : S) → i < length seats → StaysTied tied (k + i) tt tt (end_of (get_or seats i d)) (end_of (get_or seats' i d))) → AllStay tied k (map end_of seats) (map end_of seats')
stays_from tied end_of k [] [] l f = tt
stays_from tied end_of k [] (m ∷ ns) l f = absurd (omega arith)
stays_from tied end_of k (o ∷ os) [] l f = absurd (omega arith)
stays_from tied end_of k (o ∷ os) (m ∷ ns) l f =
    let here : k + 0 ≡ k = omega arith in (
      subst (λ j. StaysTied tied j tt tt (end_of o) (end_of m)) here (f 0 o (omega arith)),
      stays_from tied end_of (k + 1) os ns (omega arith) (λ i d h.
          let next : k + suc i ≡ (k + 1) + i = omega arith in
          subst (λ j. StaysTied tied j tt tt (end_of (get_or os i d)) (end_of (get_or ns i d))) next (f (suc i) d (omega arith))),
    )
