-- What is taken of the classes one after another, in an order in which bases come first.
use Rattle.std.proofs.Common.{◌≡◌, ◌⊎◌, inl, inr, ℕ, zero, suc, ◌+◌, ◌<◌, ◌≤◌, Bool, true, false, nat_eq, List, [], ◌∷◌, length, map, Option, Some, None, refl, sym, ap, ◌∙◌, subst, arith}
use Rattle.std.specs.Prelude.{◌||◌, ◌&&◌, option_map, slice_get, slice_set, slice_index}
use Rattle.std.specs.List.{list_any, list_all, slice_index_or}
use Rattle.std.specs.Option.{option_map_or, option_and_then, option_to_list}
use Rattle.std.proofs.lemmas.Bool.{cases_eq, cases_lt, eq-eqb}
use Rattle.number_graphs.specs.class_containment.Containment.{has_part, IsContainmentOrder}
use Rattle.room_ast.specs.Trees.{ClassTree, ASystem, ASubsystem, AnActor, AProtocol, AData, ActorTree}
use Rattle.room_ast.specs.model_parts.Classes.{as_actor, class_name}
use Rattle.derived_classes.proofs.Lists.{none_some, some_same, mapped_length, got_within, got_past, none_past}
use Rattle.room_inherit.specs.Filling.{there_at, base_there, none_taken}
use Rattle.room_inherit.specs.Flat.{base_number, actor_at, base_in, over_base, flat_with, flat_actor}
use Rattle.room_inherit.specs.Rules.{extended, of_actor}

-- ---- classes by number

pub actor_is : (o : Option ClassTree) (a : ActorTree) → option_and_then as_actor o ≡ Some a → o ≡ Some (AnActor a)
actor_is None a e = none_some a e
actor_is (Some (ASystem s)) a e = none_some a e
actor_is (Some (ASubsystem s)) a e = none_some a e
actor_is (Some (AnActor b)) a e = ap (λ x. Some (AnActor x)) (some_same b a e)
actor_is (Some (AProtocol p)) a e = none_some a e
actor_is (Some (AData d)) a e = none_some a e

mapped_at : (f : ClassTree → List ℕ) (cs : List ClassTree) (i : ℕ) (c : ClassTree) → slice_get cs i ≡ Some c → slice_index_or (map f cs) i [] ≡ f c
mapped_at f [] i c e = none_some c e
mapped_at f (x ∷ xs) zero c e = ap f (some_same x c e)
mapped_at f (x ∷ xs) (suc i) c e = mapped_at f xs i c e

-- where the class of a number is an actor class, the number is that of a class
pub actor_within : (cs : List ClassTree) (i : ℕ) (a : ActorTree) → actor_at cs i ≡ Some a → i < length cs
actor_within cs i a here = got_within cs i (AnActor a) (actor_is (slice_get cs i) a here)

-- the class that a class extends is a part of it
base_is_part : (cs : List ClassTree) (i b : ℕ) (a : ActorTree) → actor_at cs i ≡ Some a → base_number cs a ≡ Some b → has_part (map (extended cs) cs) i b ≡ true
base_is_part cs i b a here above =
    ap (list_any (nat_eq b)) (mapped_at (extended cs) cs i (AnActor a) (actor_is (slice_get cs i) a here) ∙ ap option_to_list above) ∙ ap (λ t. t || false) (eq-eqb b b refl)

-- ---- one item of a list is set

pub set_same : {A : Type 0} (xs : List A) (i : ℕ) (v : A) → i < length xs → slice_get (slice_set xs i v) i ≡ Some v
set_same [] i v lt = absurd (omega arith)
set_same (x ∷ xs) zero v lt = refl
set_same (x ∷ xs) (suc i) v lt = set_same xs i v (omega arith)

pub set_other : {A : Type 0} (xs : List A) (i j : ℕ) (v : A) → (j ≡ i → ⊥) → slice_get (slice_set xs i v) j ≡ slice_get xs j
set_other [] i j v ne = refl
set_other (x ∷ xs) zero zero v ne = absurd (ne refl)
set_other (x ∷ xs) zero (suc j) v ne = refl
set_other (x ∷ xs) (suc i) zero v ne = refl
set_other (x ∷ xs) (suc i) (suc j) v ne = set_other xs i j v (λ e. ne (ap suc e))

pub set_length : {A : Type 0} (xs : List A) (i : ℕ) (v : A) → length (slice_set xs i v) ≡ length xs
set_length [] i v = refl
set_length (x ∷ xs) zero v = refl
set_length (x ∷ xs) (suc i) v = ap suc (set_length xs i v)

pub there_same : {T : Type 0} (xs : List (Option T)) (i : ℕ) (v : Option T) → i < length xs → there_at (slice_set xs i v) i ≡ v
there_same xs i v lt = ap (option_and_then (λ o. o)) (set_same xs i v lt)

pub there_other : {T : Type 0} (xs : List (Option T)) (i j : ℕ) (v : Option T) → (j ≡ i → ⊥) → there_at (slice_set xs i v) j ≡ there_at xs j
there_other xs i j v ne = ap (option_and_then (λ o. o)) (set_other xs i j v ne)

pub nothing_there : {T : Type 0} (cs : List ClassTree) (j : ℕ) → there_at (none_taken {T = T} cs) j ≡ None
nothing_there [] j = refl
nothing_there (c ∷ cs) zero = refl
nothing_there (c ∷ cs) (suc j) = nothing_there cs j

-- ---- an order in which bases come first

module _ (cs : List ClassTree) (order : List ℕ) (is : IsContainmentOrder (map (extended cs) cs) order) where
  -- the base of the class at a place stands at an earlier place
  pub earlier : (k i b : ℕ) (a : ActorTree) → k < length order → slice_index order k ≡ i → actor_at cs i ≡ Some a → base_number cs a ≡ Some b → b < length cs → (e : ℕ) × (e < k) × (slice_index order e ≡ b)
  earlier k i b a lt at here above within =
      is.sorted k b lt (let P : ℕ → Type 0 = λ n. has_part (map (extended cs) cs) n b ≡ true in subst P (sym at) (base_is_part cs i b a here above)) (omega (arith, mapped_length (extended cs) cs, within))

  -- how many bases are allowed for doesn't matter, once they are enough
  bases_agree : (n m k i : ℕ) (a : ActorTree) → k < length order → slice_index order k ≡ i → actor_at cs i ≡ Some a
      → ((e b : ℕ) (c : ActorTree) → e < k → slice_index order e ≡ b → actor_at cs b ≡ Some c → flat_with n cs c ≡ flat_with m cs c) → (o : Option ℕ) → base_number cs a ≡ o
      → option_map (flat_with n cs) (option_and_then (actor_at cs) o) ≡ option_map (flat_with m cs) (option_and_then (actor_at cs) o)
  bases_agree n m k i a lt at here agree None above = refl
  bases_agree n m k i a lt at here agree (Some b) above = base (actor_at cs b) refl
    where
      base : (o : Option ActorTree) → actor_at cs b ≡ o → option_map (flat_with n cs) o ≡ option_map (flat_with m cs) o
      base None there = refl
      base (Some c) there =
          let s = earlier k i b a lt at here above (actor_within cs b c there) in
          ap Some (agree s.0 b c s.1 s.2 there)

  stable : (n m k i : ℕ) (a : ActorTree) → k < length order → slice_index order k ≡ i → actor_at cs i ≡ Some a → k < n → k < m → flat_with n cs a ≡ flat_with m cs a
  stable zero m k i a lt at here kn km = absurd (omega arith)
  stable (suc n) zero k i a lt at here kn km = absurd (omega arith)
  stable (suc n) (suc m) k i a lt at here kn km =
      ap (over_base a) (bases_agree n m k i a lt at here (λ e b c less there is_c. stable n m e b c (omega (arith, less, lt)) there is_c (omega (arith, less, kn)) (omega (arith, less, km))) (base_number cs a) refl)

  -- a class is flat over its flat base
  pub unfolds : (k i : ℕ) (a : ActorTree) → k < length order → slice_index order k ≡ i → actor_at cs i ≡ Some a → flat_actor cs a ≡ over_base a (option_map (flat_actor cs) (base_in cs a))
  unfolding flat_actor
  unfolds k i a lt at here = go (length cs) refl
    where
      short : k < length cs
      short = omega (arith, lt, is.short, mapped_length (extended cs) cs)

      go : (n : ℕ) → length cs ≡ n → flat_with n cs a ≡ over_base a (option_map (flat_with n cs) (base_in cs a))
      go zero e = absurd (omega (arith, short))
      go (suc n) e =
          ap (over_base a) (bases_agree n (suc n) k i a lt at here (λ f b c less there is_c. stable n (suc n) f b c (omega (arith, less, lt)) there is_c (omega (arith, less, short, e)) (omega (arith, less, short, e))) (base_number cs a) refl)

-- ---- what is taken of the classes

pub record Way (T : Type 0) : Type 0 where
  -- what is taken of a class
  pub value : ActorTree → T
  -- whether the refinements of a class name what was taken of its base
  pub tells : T → ActorTree → Bool
  -- whether what was taken of the class of a number still has to be there, once so many places are done
  pub wanted : ℕ → ℕ → Bool

module _ {T : Type 0} (w : Way T) (cs : List ClassTree) where
  abbrev pub target : ℕ → Option T
  target i = option_map w.value (actor_at cs i)

  abbrev pub passes : ActorTree → Bool
  passes a = option_map_or (λ b. w.tells (w.value b) a) (base_in cs a) true

  -- what there is once the classes at the first k places are done
  pub record Taken (order : List ℕ) (k : ℕ) (xs : List (Option T)) : Type 0 where
    pub sized : length xs ≡ length cs
    pub there : (e j : ℕ) → e < k → slice_index order e ≡ j → w.wanted k j ≡ true → there_at xs j ≡ target j
    pub right : (j : ℕ) (x : T) → there_at xs j ≡ Some x → target j ≡ Some x
    pub passed : (e j : ℕ) (a : ActorTree) → e < k → slice_index order e ≡ j → actor_at cs j ≡ Some a → passes a ≡ true

  -- what there is once the class of one more number is done
  pub record Next (k i : ℕ) (v : T) (xs ys : List (Option T)) : Type 0 where
    pub sized : length ys ≡ length xs
    pub others : (j : ℕ) → (j ≡ i → ⊥) → w.wanted (k + 1) j ≡ true → there_at ys j ≡ there_at xs j
    pub itself : w.wanted (k + 1) i ≡ true → there_at ys i ≡ Some v
    pub only : (j : ℕ) (x : T) → there_at ys j ≡ Some x → (there_at xs j ≡ Some x) ⊎ ((j ≡ i) × (x ≡ v))

  -- what has to be there later has to be there now
  abbrev pub Falls : Type 0
  Falls = (k j : ℕ) → w.wanted (k + 1) j ≡ true → w.wanted k j ≡ true

  -- nothing is there of a class that is no actor class
  pub nothing_of : (order : List ℕ) (k j : ℕ) (xs : List (Option T)) → Taken order k xs → actor_at cs j ≡ None → there_at xs j ≡ None
  nothing_of order k j xs taken none = go (there_at xs j) refl
    where
      go : (o : Option T) → there_at xs j ≡ o → o ≡ None
      go None e = refl
      go (Some x) e = none_some x (sym (ap (option_map w.value) none) ∙ taken.right j x e)

  pub no_actor : Falls → (order : List ℕ) (k i : ℕ) (xs : List (Option T)) → Taken order k xs → slice_index order k ≡ i → actor_at cs i ≡ None → Taken order (k + 1) xs
  no_actor falls order k i xs taken at here = record {
    sized = taken.sized;
    there = λ e j lt is_j want. elim (cases_eq e k) [
      | inl same ↦
          let j_is : j ≡ i = sym is_j ∙ ap (slice_index order) same ∙ at in
          let none : actor_at cs j ≡ None = ap (actor_at cs) j_is ∙ here in
          nothing_of order k j xs taken none ∙ sym (ap (option_map w.value) none)
      | inr other ↦ taken.there e j (omega (arith, lt, other)) is_j (falls k j want)
    ];
    right = taken.right;
    passed = λ e j a lt is_j is_a. elim (cases_eq e k) [
      | inl same ↦ let j_is : j ≡ i = sym is_j ∙ ap (slice_index order) same ∙ at in none_some a (sym (ap (actor_at cs) j_is ∙ here) ∙ is_a)
      | inr other ↦ taken.passed e j a (omega (arith, lt, other)) is_j is_a
    ];
  }

  pub one_actor : Falls → (order : List ℕ) (k i : ℕ) (a : ActorTree) (v : T) (xs ys : List (Option T)) → Taken order k xs → slice_index order k ≡ i → actor_at cs i ≡ Some a → passes a ≡ true → v ≡ w.value a → Next k i v xs ys → Taken order (k + 1) ys
  one_actor falls order k i a v xs ys taken at here pass value next = record {
    sized = next.sized ∙ taken.sized;
    there = λ e j lt is_j want. elim (cases_eq j i) [
      | inl same ↦ let P : ℕ → Type 0 = λ n. w.wanted (k + 1) n ≡ true → there_at ys n ≡ target n in (subst P (sym same) (λ it. next.itself it ∙ valued)) want
      | inr other ↦ next.others j other want ∙ taken.there e j (elim (cases_eq e k) [ inl same ↦ absurd (other (sym is_j ∙ ap (slice_index order) same ∙ at)) | inr ne ↦ omega (arith, lt, ne) ]) is_j (falls k j want)
    ];
    right = λ j x e. elim (next.only j x e) [ inl before ↦ taken.right j x before | inr now ↦ ap target now.0 ∙ sym valued ∙ ap Some (sym now.1) ];
    passed = λ e j b lt is_j is_b. elim (cases_eq e k) [
      | inl same ↦
          let both : Some a ≡ Some b = sym here ∙ sym (ap (actor_at cs) (sym is_j ∙ ap (slice_index order) same ∙ at)) ∙ is_b in
          ap passes (sym (some_same a b both)) ∙ pass
      | inr ne ↦ taken.passed e j b (omega (arith, lt, ne)) is_j is_b
    ];
  }
    where
      valued : Some v ≡ target i
      valued = ap Some value ∙ sym (ap (option_map w.value) here)

  pub begun : (order : List ℕ) → Taken order 0 (none_taken cs)
  begun order = record {
    sized = mapped_length (λ (c : ClassTree). None) cs;
    there = λ e j lt is_j want. absurd (omega (arith, lt));
    right = λ j x e. none_some x (sym (nothing_there cs j) ∙ e);
    passed = λ e j a lt is_j is_a. absurd (omega (arith, lt));
  }

-- ---- the base's

module _ {T : Type 0} (w : Way T) (cs : List ClassTree) (order : List ℕ) (is : IsContainmentOrder (map (extended cs) cs) order)
    (needed : (k i b : ℕ) (a : ActorTree) → k < length order → slice_index order k ≡ i → actor_at cs i ≡ Some a → base_number cs a ≡ Some b → b < length cs → w.wanted k b ≡ true) where
  -- what is there for the base is what is taken of it
  pub base_is : (k i : ℕ) (a : ActorTree) (xs : List (Option T)) → Taken w cs order k xs → k < length order → slice_index order k ≡ i → actor_at cs i ≡ Some a → base_there (map class_name cs) xs a ≡ option_map w.value (base_in cs a)
  base_is k i a xs taken lt at here = go (base_number cs a) refl
    where
      go : (o : Option ℕ) → base_number cs a ≡ o → option_and_then (there_at xs) o ≡ option_map w.value (option_and_then (actor_at cs) o)
      go None above = refl
      go (Some b) above =
          elim (cases_lt b (length cs)) [
            | inl within ↦ let s = earlier cs order is k i b a lt at here above within in taken.there s.0 b s.1 s.2 (needed k i b a lt at here above within)
            | inr past ↦
                ap (option_and_then (λ (f : Option T). f)) (got_past xs b (omega (arith, past, taken.sized)))
                ∙ sym (ap (λ o. option_map w.value (option_and_then as_actor o)) (got_past cs b past))
          ]

  mapped_or : {A B : Type 0} (f : A → B) (p : B → Bool) (o : Option A) → option_map_or p (option_map f o) true ≡ option_map_or (λ x. p (f x)) o true
  mapped_or f p None = refl
  mapped_or f p (Some x) = refl

  pub passes_is : (k i : ℕ) (a : ActorTree) (xs : List (Option T)) → Taken w cs order k xs → k < length order → slice_index order k ≡ i → actor_at cs i ≡ Some a → option_map_or (λ x. w.tells x a) (base_there (map class_name cs) xs a) true ≡ passes w cs a
  passes_is k i a xs taken lt at here = ap (λ o. option_map_or (λ x. w.tells x a) o true) (base_is k i a xs taken lt at here) ∙ mapped_or w.value (λ x. w.tells x a) (base_in cs a)

-- ---- all of them

-- what is left of an order behind its first k numbers
pub record IsRest (order : List ℕ) (k : ℕ) (rest : List ℕ) : Type 0 where
  pub sized : length order ≡ k + length rest
  pub items : (e n : ℕ) → n ≡ k + e → slice_index order n ≡ slice_index rest e

pub whole_rest : (order : List ℕ) → IsRest order 0 order
whole_rest order = record { sized = omega arith; items = λ e n same. ap (slice_index order) (omega (arith, same)) }

pub next_rest : (order : List ℕ) (k i : ℕ) (rest : List ℕ) → IsRest order k (i ∷ rest) → IsRest order (k + 1) rest
next_rest order k i rest h = record { sized = omega (arith, h.sized); items = λ e n same. h.items (suc e) n (omega (arith, same)) }

pub rest_within : (order : List ℕ) (k i : ℕ) (rest : List ℕ) → IsRest order k (i ∷ rest) → k < length order
rest_within order k i rest h = omega (arith, h.sized)

pub rest_first : (order : List ℕ) (k i : ℕ) (rest : List ℕ) → IsRest order k (i ∷ rest) → slice_index order k ≡ i
rest_first order k i rest h = h.items 0 k (omega arith)

all_pass : (p : ClassTree → Bool) (xs : List ClassTree) → ((i : ℕ) (c : ClassTree) → slice_get xs i ≡ Some c → p c ≡ true) → list_all p xs ≡ true
all_pass p [] h = refl
all_pass p (c ∷ xs) h = ap (λ b. b && list_all p xs) (h zero c refl) ∙ all_pass p xs (λ i d e. h (suc i) d e)

pub one_fails : (p : ClassTree → Bool) (xs : List ClassTree) (i : ℕ) (c : ClassTree) → slice_get xs i ≡ Some c → p c ≡ false → list_all p xs ≡ false
one_fails p [] i c e f = none_some c e
one_fails p (x ∷ xs) zero c e f = ap (λ b. b && list_all p xs) (ap p (some_same x c e) ∙ f)
one_fails p (x ∷ xs) (suc i) c e f = ap (λ b. p x && b) (one_fails p xs i c e f) ∙ and_false (p x)
  where
    and_false : (b : Bool) → (b && false) ≡ false
    and_false true = refl
    and_false false = refl

module _ {T : Type 0} (w : Way T) (cs : List ClassTree) (order : List ℕ) (is : IsContainmentOrder (map (extended cs) cs) order) where
  -- each class stands at a place
  pub place_of : (i : ℕ) → i < length cs → (k : ℕ) × (k < length order) × (slice_index order k ≡ i)
  place_of i lt = is.whole i (omega (arith, lt, mapped_length (extended cs) cs))

  -- once all places are done, each class has passed
  pub all_passed : (xs : List (Option T)) (k : ℕ) → length order ≤ k → Taken w cs order k xs → list_all (of_actor (passes w cs)) cs ≡ true
  all_passed xs k le taken = all_pass (of_actor (passes w cs)) cs one
    where
      one : (i : ℕ) (c : ClassTree) → slice_get cs i ≡ Some c → of_actor (passes w cs) c ≡ true
      one i (ASystem s) e = refl
      one i (ASubsystem s) e = refl
      one i (AProtocol p) e = refl
      one i (AData d) e = refl
      one i (AnActor a) e = let p = place_of i (got_within cs i (AnActor a) e) in taken.passed p.0 i a (omega (arith, p.1, le)) p.2 (ap (option_and_then as_actor) e)
