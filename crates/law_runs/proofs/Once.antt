-- What all controllers fetch is what the run fetches, counted controller by controller.
use Rattle.std.proofs.Common.{◌≡◌, ℕ, zero, suc, ◌+◌, ◌<◌, ◌≤◌, ◌==◌, Bool, true, false, if◌then◌else◌, List, [], ◌∷◌, refl, ap, arith, ◌⊎◌, inl, inr}
use Rattle.std.specs.List.{range_with_len, flat_map}
use Rattle.std.proofs.lemmas.Bool.{cases_eq}
use Rattle.room_kinds.specs.declared.message.Msg.{Msg}
use Rattle.actor_merge.specs.World.{Placed}
use Rattle.actor_merge.specs.Merge.{entries_of}
use Rattle.actor_world.specs.world_laws.Counting.{count, same_name, times}
use Rattle.actor_world.specs.world_laws.Whereabouts.{fetches, fetched}
use Rattle.actor_world.specs.world_laws.OnePlace.{all_fetched}
use Rattle.actor_world.proofs.world_laws.Sums.{count-append, total, total_same, total_add, total_zero, only_at, only_here, only_there}

total_past : (x k a n : ℕ) → x < a → total (only_at x k) (range_with_len a n) ≡ 0
total_past x k a zero h = refl
total_past x k a (suc n) h =
    let e = only_there x k a (λ e. omega arith) in
    let r = total_past x k (a + 1) n (omega arith) in omega (arith, e, r)

-- a number that stands at one place is added once at most
total_one_place : (x k a n : ℕ) → total (only_at x k) (range_with_len a n) ≤ k
total_one_place x k a zero = omega arith
total_one_place x k a (suc n) = go (cases_eq a x) (total_one_place x k (a + 1) n)
  where
    go : (a ≡ x) ⊎ (a ≡ x → ⊥) → total (only_at x k) (range_with_len (a + 1) n) ≤ k → only_at x k a + total (only_at x k) (range_with_len (a + 1) n) ≤ k
    go (inl same) ih =
        let here = only_here x k a same in
        let rest = total_past x k (a + 1) n (omega arith) in omega (arith, here, rest)
    go (inr other) ih = let here = only_there x k a other in omega (arith, here, ih)

count_each : (which : Msg → Bool) (f : ℕ → List Msg) (ss : List ℕ) → count which (flat_map f ss) ≡ total (λ (s : ℕ). count which (f s)) ss
count_each which f [] = refl
count_each which f (s ∷ ss) = let a = count-append which (f s) (flat_map f ss) in let b = count_each which f ss in omega (arith, a, b)

module _ (m : Msg) where
  -- how often a controller fetches the message
  abbrev by : List Placed → ℕ → ℕ
  by xs c = times m (fetched (entries_of c xs))

  one_more : (x : Placed) (xs : List Placed) (c : ℕ) → by (x ∷ xs) c ≡ only_at x.party (times m (fetches x.entry)) c + by xs c
  one_more x xs c = go (c == x.party)
    where
      go : (b : Bool) → times m (fetched (if b then x.entry ∷ entries_of c xs else entries_of c xs)) ≡ (if b then times m (fetches x.entry) else 0) + times m (fetched (entries_of c xs))
      go true = count-append (same_name m) (fetches x.entry) (fetched (entries_of c xs))
      go false = omega arith

  by_all : (xs : List Placed) (a n : ℕ) → total (by xs) (range_with_len a n) ≤ times m (all_fetched xs)
  by_all [] a n = let z = total_zero (by []) (λ c. refl) (range_with_len a n) in omega (arith, z)
  by_all (x ∷ xs) a n =
      let k = times m (fetches x.entry) in
      let s = total_same (by (x ∷ xs)) (λ (c : ℕ). only_at x.party (times m (fetches x.entry)) c + by xs c) (one_more x xs) (range_with_len a n) in
      let t = total_add (only_at x.party (times m (fetches x.entry))) (by xs) (range_with_len a n) in
      let u = total_one_place x.party (times m (fetches x.entry)) a n in
      let v = count-append (same_name m) (fetches x.entry) (all_fetched xs) in
      let ih = by_all xs a n in
      omega (arith, s, t, u, v, ih)

  -- so all controllers together fetch it no more often than the run does
  pub no_more_often : (journals : ℕ → List Msg) (xs : List Placed) (n : ℕ) → ((c : ℕ) → journals c ≡ fetched (entries_of c xs))
      → times m (flat_map journals (range_with_len 0 n)) ≤ times m (all_fetched xs)
  no_more_often journals xs n same =
      let a = count_each (same_name m) journals (range_with_len 0 n) in
      let b = total_same (λ (c : ℕ). times m (journals c)) (by xs) (λ c. ap (times m) (same c)) (range_with_len 0 n) in
      let c = by_all xs 0 n in
      omega (arith, a, b, c)

  -- nor does one of them
  pub one_party : (c : ℕ) (xs : List Placed) → times m (fetched (entries_of c xs)) ≤ times m (all_fetched xs)
  one_party c [] = omega arith
  one_party c (x ∷ xs) =
      let a = one_more x xs c in
      let b = count-append (same_name m) (fetches x.entry) (all_fetched xs) in
      let k = at_most (c == x.party) in
      let ih = one_party c xs in omega (arith, a, b, k, ih)
    where
      at_most : (b : Bool) → (if b then times m (fetches x.entry) else 0) ≤ times m (fetches x.entry)
      at_most true = omega arith
      at_most false = omega arith
