-- Lists of slots with all that is inside them, numbered in a row.
use Rattle.std.proofs.Common.{◌≡◌, ◌∙◌, ◌⊎◌, inl, inr, ℕ, zero, suc, ◌+◌, ◌<◌, ◌≤◌, List, [], ◌∷◌, ◌++◌, length, Option, Some, slice_get, sym, ap, arith}
use Rattle.std.proofs.lemmas.Option.{same_Some, slice_get_within}
use Rattle.room_wiring.specs.declared.slot.Slot.{Slot}
use Rattle.actor_duties.specs.Words.{container_number}
use Rattle.wiring_joins.proofs.slot_references.Counting.{get_either}

-- a container, if it is a slot, has a number below n
abbrev pub IsBelow : Option ℕ → ℕ → Type 0
IsBelow c n = (p : ℕ) → c ≡ Some p → p < n

-- the container of a slot is a slot with a number from p on
abbrev pub LiesFrom : ℕ → Slot → Type 0
LiesFrom p x = (q : ℕ) × (container_number x ≡ Some q) × (p ≤ q)

-- These slots have the numbers from n on. Each lies right in c, or in one of them before it; and between the two stand only slots that lie below that one.
pub record IsBlock (n : ℕ) (c : Option ℕ) (xs : List Slot) : Type 0 where
  pub stands : (i : ℕ) (x : Slot) → slice_get xs i ≡ Some x → (container_number x ≡ c) ⊎ ((p : ℕ) × (container_number x ≡ Some p) × (n ≤ p) × (p < n + i))
  pub between : (i u p : ℕ) (x y : Slot) → slice_get xs i ≡ Some x → container_number x ≡ Some p → n ≤ p → p < n + u → u < i → slice_get xs u ≡ Some y → LiesFrom p y

pub block_none : (n : ℕ) (c : Option ℕ) → IsBlock n c []
block_none n c = record { stands = λ i x e. absurd cc; between = λ i u p x y e is from to less at. absurd cc }

same_number : (o : Option ℕ) (p q : ℕ) → o ≡ Some p → o ≡ Some q → p ≡ q
same_number o p q a b = same_Some p q (sym a ∙ b)

-- two blocks in a row are one
module _ (n : ℕ) (c : Option ℕ) (xs ys : List Slot) (below : IsBelow c n) (a : IsBlock n c xs) (b : IsBlock (n + length xs) c ys) where
  both_stand : (i : ℕ) (x : Slot) → slice_get (xs ++ ys) i ≡ Some x → (container_number x ≡ c) ⊎ ((p : ℕ) × (container_number x ≡ Some p) × (n ≤ p) × (p < n + i))
  both_stand i x e = elim (get_either xs ys i x e) [
    | inl h ↦ a.stands i x h
    | inr h ↦ elim (b.stands h.0 x h.2) [
      | inl right ↦ inl right
      | inr k ↦ let at = h.1 in let from = k.2 in let to = k.3 in inr (k.0, k.1, omega (arith, from), omega (arith, at, to))
    ]
  ]

  both_between : (i u p : ℕ) (x y : Slot) → slice_get (xs ++ ys) i ≡ Some x → container_number x ≡ Some p → n ≤ p → p < n + u → u < i → slice_get (xs ++ ys) u ≡ Some y → LiesFrom p y
  both_between i u p x y e is from to less at = go (get_either xs ys i x e) (get_either xs ys u y at)
    where
      go : (slice_get xs i ≡ Some x) ⊎ ((j : ℕ) × (i ≡ length xs + j) × (slice_get ys j ≡ Some x)) → (slice_get xs u ≡ Some y) ⊎ ((j : ℕ) × (u ≡ length xs + j) × (slice_get ys j ≡ Some y)) → LiesFrom p y
      go (inl h) (inl k) = a.between i u p x y h is from to less k
      go (inl h) (inr k) = let within = slice_get_within xs i x h in let second = k.1 in absurd (omega (arith, within, second, less))
      go (inr h) k = elim (b.stands h.0 x h.2) [
        | inl right ↦ let lower = below p (sym right ∙ is) in absurd (omega (arith, lower, from))
        | inr s ↦
            let same = same_number (container_number x) s.0 p s.1 is in
            let behind = s.2 in
            elim k [
              | inl first ↦ let within = slice_get_within xs u y first in absurd (omega (arith, within, same, behind, to))
              | inr second ↦
                  let here = h.1 in
                  let there = second.1 in
                  b.between h.0 second.0 p x y h.2 is (omega (arith, same, behind)) (omega (arith, to, there)) (omega (arith, less, here, there)) second.2
            ]
      ]

  pub block_both : IsBlock n c (xs ++ ys)
  block_both = record { stands = both_stand; between = both_between }

-- a slot and a block of what is inside it are a block
module _ (n : ℕ) (c : Option ℕ) (x : Slot) (xs : List Slot) (right : container_number x ≡ c) (more : IsBlock (n + 1) (Some n) xs) where
  root_stands : (i : ℕ) (y : Slot) → slice_get (x ∷ xs) i ≡ Some y → (container_number y ≡ c) ⊎ ((p : ℕ) × (container_number y ≡ Some p) × (n ≤ p) × (p < n + i))
  root_stands zero y e = inl (ap container_number (sym (same_Some x y e)) ∙ right)
  root_stands (suc i) y e = elim (more.stands i y e) [
    | inl h ↦ inr (n, h, omega arith, omega arith)
    | inr h ↦ let from = h.2 in let to = h.3 in inr (h.0, h.1, omega (arith, from), omega (arith, to))
  ]

  -- what is inside lies from the slot on
  all_from_root : (u : ℕ) (y : Slot) → slice_get xs u ≡ Some y → LiesFrom n y
  all_from_root u y at = elim (more.stands u y at) [
    | inl h ↦ (n, h, omega arith)
    | inr h ↦ let from = h.2 in (h.0, h.1, omega (arith, from))
  ]

  root_between : (i u p : ℕ) (y z : Slot) → slice_get (x ∷ xs) i ≡ Some y → container_number y ≡ Some p → n ≤ p → p < n + u → u < i → slice_get (x ∷ xs) u ≡ Some z → LiesFrom p z
  root_between i zero p y z e is from to less at = absurd (omega (arith, from, to))
  root_between zero (suc u) p y z e is from to less at = absurd (omega (arith, less))
  root_between (suc i) (suc u) p y z e is from to less at = elim (more.stands i y e) [
    | inl h ↦
        let same = same_number (container_number y) n p h is in
        let all = all_from_root u z at in
        let lies = all.2 in
        (all.0, all.1, omega (arith, same, lies))
    | inr h ↦
        let same = same_number (container_number y) h.0 p h.1 is in
        let behind = h.2 in
        more.between i u p y z e is (omega (arith, same, behind)) (omega (arith, to)) (omega (arith, less)) at
  ]

  pub block_root : IsBlock n c (x ∷ xs)
  block_root = record { stands = root_stands; between = root_between }
