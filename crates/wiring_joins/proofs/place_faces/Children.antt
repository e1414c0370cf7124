-- The slots that stand for a reference of a container, by number.
use Rattle.std.proofs.Common.{◌≡◌, ◌∙◌, inl, inr, ℕ, zero, suc, ◌+◌, ◌<◌, Bool, true, false, cond, List, [], ◌∷◌, length, Some, slice_get, slice_index, refl, ap, arith}
use Rattle.std.proofs.lemmas.Bool.{cases_order}
use Rattle.room_wiring.specs.declared.slot.Slot.{Slot}
use Rattle.wiring_places.specs.place_rules.Parts.{is_child, children_from, children}

-- the number at k of these is that of a slot, listed from this number on, that stands for the reference
abbrev Found : ℕ → ℕ → ℕ → List Slot → List ℕ → ℕ → Type 0
Found c r n xs ns k = (j : ℕ) × (y : Slot) × (slice_index ns k ≡ n + j) × (slice_get xs j ≡ Some y) × (is_child c r y ≡ true)

module _ (c r : ℕ) where
  found_next : (n : ℕ) (x : Slot) (xs : List Slot) (ns : List ℕ) (k : ℕ) → Found c r (n + 1) xs ns k → Found c r n (x ∷ xs) ns k
  found_next n x xs ns k f = (suc f.0, f.1, f.2 ∙ omega arith, f.3, f.4)

  found_pick : (n : ℕ) (x : Slot) (xs : List Slot) (ns : List ℕ) (b : Bool) → is_child c r x ≡ b → (k : ℕ) → k < length (cond b (n ∷ ns) ns) → ((l : ℕ) → l < length ns → Found c r (n + 1) xs ns l) → Found c r n (x ∷ xs) (cond b (n ∷ ns) ns) k
  found_pick n x xs ns true e zero below more = (0, x, omega arith, refl, e)
  found_pick n x xs ns true e (suc k) below more = let f = found_next n x xs ns k (more k (omega (arith, below))) in (f.0, f.1, f.2, f.3, f.4)
  found_pick n x xs ns false e k below more = found_next n x xs ns k (more k below)

  -- each of them is the number of a slot that stands for the reference
  pub child_from : (n : ℕ) (xs : List Slot) (i : ℕ) → i < length (children_from n xs c r) → Found c r n xs (children_from n xs c r) i
  child_from n [] i lt = absurd (omega (arith, lt))
  child_from n (x ∷ xs) i lt = found_pick n x xs (children_from (n + 1) xs c r) (is_child c r x) refl i lt (λ k below. child_from (n + 1) xs k below)

  rise_pick : (n : ℕ) (ns : List ℕ) (b : Bool) → ((l : ℕ) → l < length ns → n < slice_index ns l) → (k l : ℕ) → k < l → l < length (cond b (n ∷ ns) ns) → ((k l : ℕ) → k < l → l < length ns → slice_index ns k < slice_index ns l) → slice_index (cond b (n ∷ ns) ns) k < slice_index (cond b (n ∷ ns) ns) l
  rise_pick n ns true above k zero less within more = absurd (omega (arith, less))
  rise_pick n ns true above zero (suc l) less within more = above l (omega (arith, within))
  rise_pick n ns true above (suc k) (suc l) less within more = more k l (omega (arith, less)) (omega (arith, within))
  rise_pick n ns false above k l less within more = more k l less within

  -- they rise
  pub children_rise : (n : ℕ) (xs : List Slot) (i j : ℕ) → i < j → j < length (children_from n xs c r) → slice_index (children_from n xs c r) i < slice_index (children_from n xs c r) j
  children_rise n [] i j lt below = absurd (omega (arith, below))
  children_rise n (x ∷ xs) i j lt below =
      rise_pick n (children_from (n + 1) xs c r) (is_child c r x) (λ l within. let f = child_from (n + 1) xs l within in omega (arith, f.2)) i j lt below (λ k l less within. children_rise (n + 1) xs k l less within)

-- a slot stands among them once
pub same_child : (slots : List Slot) (c r i j : ℕ) → i < length (children slots c r) → j < length (children slots c r) → slice_index (children slots c r) i ≡ slice_index (children slots c r) j → i ≡ j
same_child slots c r i j li lj e = elim (cases_order i j) [
  | inl same ↦ same
  | inr (inl less) ↦ let rise = children_rise c r 0 slots i j less lj in absurd (omega (arith, rise, e))
  | inr (inr more) ↦ let rise = children_rise c r 0 slots j i more li in absurd (omega (arith, rise, e))
]

pub child_at : (slots : List Slot) (c r i : ℕ) → i < length (children slots c r) → (x : Slot) × (slice_get slots (slice_index (children slots c r) i) ≡ Some x) × (is_child c r x ≡ true)
child_at slots c r i lt =
    let f = child_from c r 0 slots i lt in
    let is : slice_index (children slots c r) i ≡ f.0 = f.2 ∙ omega arith in
    (f.1, ap (slice_get slots) is ∙ f.3, f.4)
