-- Messages and their names, in lists.
use Rattle.std.proofs.Common.{◌≡◌, ℕ, ◌+◌, ◌≤◌, ◌==◌, Bool, true, false, if◌then◌else◌, List, [], ◌∷◌, ◌++◌, filter, cond, refl, sym, ap, ◌∙◌, eq-eqb, eqb-true, arith, ◌⊎◌, inl, inr, ⊎_elim}
use Rattle.std.specs.List.{Contains, flat_map}
use Rattle.std.proofs.lemmas.Bool.{and_parts, and_from}
use Rattle.std.proofs.lemmas.List.Elements.{Contains-append_left, Contains-append_right, Contains-append_cases, Contains-push, Contains-push_cases}
use Rattle.room_kinds.specs.declared.message.Msg.{Msg}
use Rattle.actor_world.specs.world_laws.Counting.{count, same_name, times}
use Rattle.actor_world.proofs.world_laws.Sums.{count-append}

pub nothing_in : (m : Msg) → Contains [] m → ⊥
nothing_in m h = omega (arith, h.1)

pub head_or_tail : (y : Msg) (ms : List Msg) (m : Msg) → Contains (y ∷ ms) m → (y ≡ m) ⊎ Contains ms m
head_or_tail y ms m h =
    ⊎_elim (λ a. ⊎_elim (λ none. absurd (nothing_in m none)) (λ same. inl same) (Contains-push_cases [] y m a))
    (λ b. inr b) (Contains-append_cases (y ∷ []) ms m h)

pub in_head : (m : Msg) (ms : List Msg) → Contains (m ∷ ms) m
in_head m ms = Contains-append_left (m ∷ []) ms m (Contains-push [] m)

pub in_tail : (y : Msg) (ms : List Msg) (m : Msg) → Contains ms m → Contains (y ∷ ms) m
in_tail y ms m h = Contains-append_right (y ∷ []) ms m h

pub counted : (which : Msg → Bool) (m : Msg) (ms : List Msg) → which m ≡ true → Contains ms m → 1 ≤ count which ms
counted which m [] e h = absurd (nothing_in m h)
counted which m (y ∷ ms) e h = go (counted which m ms e) (head_or_tail y ms m h)
  where
    go : (Contains ms m → 1 ≤ count which ms) → (y ≡ m) ⊎ Contains ms m → 1 ≤ (if which y then 1 else 0) + count which ms
    go ih (inl same) = rw (ap which same ∙ e) (omega arith)
    go ih (inr there) = let k = ih there in omega (arith, k)

pub found : (which : Msg → Bool) (ms : List Msg) → 1 ≤ count which ms → (m : Msg) × Contains ms m × (which m ≡ true)
found which [] h = absurd (omega (arith, h))
found which (y ∷ ms) h = go (found which ms) (which y) refl
  where
    go : (1 ≤ count which ms → (m : Msg) × Contains ms m × (which m ≡ true)) → (b : Bool) → which y ≡ b → (m : Msg) × Contains (y ∷ ms) m × (which m ≡ true)
    go ih true e = (y, in_head y ms, e)
    go ih false e =
        let k : 1 ≤ (if false then 1 else 0) + count which ms = rw e at h in
        let r = ih (omega (arith, k)) in (r.0, in_tail y ms r.0 r.1, r.2)

pub named_itself : (m : Msg) → same_name m m ≡ true
named_itself m = and_from (m.from.0 == m.from.0) (m.stamp.0 == m.stamp.0) (eq-eqb m.from.0 m.from.0 refl) (eq-eqb m.stamp.0 m.stamp.0 refl)

pub name_from : (m y : Msg) → same_name m y ≡ true → (y.from.0 ≡ m.from.0) × (y.stamp.0 ≡ m.stamp.0)
name_from m y e = let p = and_parts (y.from.0 == m.from.0) (y.stamp.0 == m.stamp.0) e in (eqb-true _ _ p.0, eqb-true _ _ p.1)

pub same_back : (m y : Msg) → same_name m y ≡ true → same_name y m ≡ true
same_back m y e =
    let p = name_from m y e in
    and_from (m.from.0 == y.from.0) (m.stamp.0 == y.stamp.0) (eq-eqb m.from.0 y.from.0 (sym p.0)) (eq-eqb m.stamp.0 y.stamp.0 (sym p.1))

-- one name stands once
pub one_of_name : (m y : Msg) (ms : List Msg) → times m ms ≤ 1 → Contains ms m → Contains ms y → same_name m y ≡ true → m ≡ y
one_of_name m y [] once a b e = absurd (nothing_in m a)
one_of_name m y (x ∷ ms) once a b e = go (λ k p q. one_of_name m y ms k p q e) (head_or_tail x ms m a) (head_or_tail x ms y b)
  where
    never : same_name m x ≡ true → 1 ≤ times m ms → ⊥
    never s k = let z : (if true then 1 else 0) + times m ms ≤ 1 = rw s at once in omega (arith, z, k)

    go : (times m ms ≤ 1 → Contains ms m → Contains ms y → m ≡ y) → (x ≡ m) ⊎ Contains ms m → (x ≡ y) ⊎ Contains ms y → m ≡ y
    go ih (inl p) (inl q) = sym p ∙ q
    go ih (inl p) (inr q) = absurd (never (ap (same_name m) p ∙ named_itself m) (counted (same_name m) y ms e q))
    go ih (inr p) (inl q) = absurd (never (ap (same_name m) q ∙ e) (counted (same_name m) m ms (named_itself m) p))
    go ih (inr p) (inr q) = ih (omega (arith, once)) p q

-- a message in two parts of a list stands there twice
pub not_twice : (m : Msg) (a b : List Msg) → times m (a ++ b) ≤ 1 → Contains a m → Contains b m → ⊥
not_twice m a b once p q =
    let k = count-append (same_name m) a b in
    let x = counted (same_name m) m a (named_itself m) p in
    let y = counted (same_name m) m b (named_itself m) q in omega (arith, once, k, x, y)

-- where no list has the message, none of them together has it
pub none_together : (which : Msg → Bool) (f : ℕ → List Msg) (q : ℕ → Bool) (ss : List ℕ) → ((s : ℕ) → q s ≡ true → count which (f s) ≡ 0)
    → count which (flat_map f (filter q ss)) ≡ 0
none_together which f q [] h = refl
none_together which f q (s ∷ ss) h = go (q s) refl (none_together which f q ss h)
  where
    go : (b : Bool) → q s ≡ b → count which (flat_map f (filter q ss)) ≡ 0
        → count which (flat_map f (cond b (s ∷ filter q ss) (filter q ss))) ≡ 0
    go true e ih = let a = count-append which (f s) (flat_map f (filter q ss)) in let k = h s e in omega (arith, a, k, ih)
    go false e ih = ih
