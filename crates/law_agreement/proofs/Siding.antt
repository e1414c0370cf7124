-- How an import place stands to a home: by its container, and by what it holds or waits for.
use Rattle.std.proofs.Common.{◌≡◌, ℕ, ◌==◌, ◌&&◌, Bool, true, false, if◌then◌else◌, [], refl, sym, ap, ◌∙◌, eqb-true, arith}
use Rattle.std.specs.Prelude.{nat_lt}
use Rattle.std.proofs.lemmas.Bool.{and_parts, le-ltb}
use Rattle.room_kinds.specs.declared.numbers.Incarnation.{Incarnation}
use Rattle.actor_duties.specs.Words.{is_incarnation}
use Rattle.actor_duties.specs.State.{ImportPlace, Empty, Asking, Held, Leaving}
use Rattle.actor_duties.specs.Imports.{is_asking, is_held, is_leaving}
use Rattle.law_agreement.specs.Imports.{Wait, Ask, Leave, place_for}
use Rattle.law_agreement.specs.Loans.{Side, Unmade, Apart, Asks, Holds, Leaves, Over, Row, unmade, apart, over, tied_as, side_by}
use Rattle.law_agreement.proofs.Emitting.{same_incarnation, swap_incarnation}

-- what a place that asks for a home held before, and what one held that gives it back
abbrev pub was : Wait → Incarnation → ImportPlace
was Ask y = Empty
was Leave y = Held y

module _ (i h : Incarnation) where
  -- where the container doesn't live in the place's generation
  abbrev pub elsewhere : ℕ → Side
  elsewhere gen = if nat_lt gen i.generation.0 then Unmade else Over

  -- where it does
  pub side_live : (gen : ℕ) (live : Bool) (p : ImportPlace) → (live && (gen == i.generation.0)) ≡ true → side_by i h gen live p ≡ tied_as h p
  unfolding side_by
  side_live gen live p e =
      let q = and_parts live (gen == i.generation.0) e in
      let g : gen ≡ i.generation.0 = eqb-true gen i.generation.0 q.1 in
      rw (le-ltb gen i.generation.0 (omega (arith, g)), e) refl

  pub side_dead : (gen : ℕ) (live : Bool) (p : ImportPlace) → (live && (gen == i.generation.0)) ≡ false → side_by i h gen live p ≡ elsewhere gen
  unfolding side_by
  side_dead gen live p e = rw e refl

  -- a place that asks for, holds or gives back the home is of a live container
  pub side_tied : (s : Side) → (s ≡ Unmade → ⊥) → (s ≡ Over → ⊥) → (gen : ℕ) (live : Bool) (p : ImportPlace) → side_by i h gen live p ≡ s
      → ((live && (gen == i.generation.0)) ≡ true) × (tied_as h p ≡ s)
  side_tied s not_unmade not_over gen live p e = go (live && (gen == i.generation.0)) refl
    where
      neither : (b : Bool) → (if b then Unmade else Over) ≡ s → ⊥
      neither true q = not_unmade (sym q)
      neither false q = not_over (sym q)

      go : (b : Bool) → (live && (gen == i.generation.0)) ≡ b → ((live && (gen == i.generation.0)) ≡ true) × (tied_as h p ≡ s)
      go true q = (q, sym (side_live gen live p q) ∙ e)
      go false q = absurd (neither (nat_lt gen i.generation.0) (sym (side_dead gen live p q) ∙ e))

  -- what a place is to the home where it is of another
  pub other_place : (w : Wait) (y : Incarnation) → is_incarnation y h ≡ false → (tied_as h (was w y) ≡ Apart) × (tied_as h (place_for w y) ≡ Apart)
  other_place Ask y e = (refl, rw e refl)
  other_place Leave y e = (rw e refl, rw e refl)

  -- at the start
  pub first_side : (gen : ℕ) (live : Bool) → Row (side_by i h gen live Empty) [] [] 0
  unfolding side_by
  first_side gen live = go (nat_lt gen i.generation.0) (live && (gen == i.generation.0))
    where
      go : (x y : Bool) → Row (if x then Unmade else if y then Apart else Over) [] [] 0
      go true y = unmade
      go false true = apart
      go false false = over []

module _ (h : Incarnation) where
  -- a home that the place isn't tied to
  apart_home : (x y : Incarnation) → is_incarnation h x ≡ false → is_incarnation y x ≡ true → is_incarnation y h ≡ false
  apart_home x y e q = ap (λ (z : Incarnation). is_incarnation z h) (same_incarnation y x q) ∙ swap_incarnation x h ∙ e

  pub ask_other : (x : Incarnation) → is_incarnation h x ≡ false → (p : ImportPlace) → is_asking x p ≡ true → tied_as h p ≡ Apart
  ask_other x e Empty q = refl
  ask_other x e (Asking y) q = ap (λ (z : Bool). if z then Asks else Apart) (apart_home x y e q)
  ask_other x e (Held y) q = absurd cc
  ask_other x e (Leaving y) q = absurd cc

  pub hold_other : (x : Incarnation) → is_incarnation h x ≡ false → (p : ImportPlace) → is_held x p ≡ true → tied_as h p ≡ Apart
  hold_other x e Empty q = refl
  hold_other x e (Held y) q = ap (λ (z : Bool). if z then Holds else Apart) (apart_home x y e q)
  hold_other x e (Asking y) q = absurd cc
  hold_other x e (Leaving y) q = absurd cc

  pub leave_other : (x : Incarnation) → is_incarnation h x ≡ false → (p : ImportPlace) → is_leaving x p ≡ true → tied_as h p ≡ Apart
  leave_other x e Empty q = refl
  leave_other x e (Leaving y) q = ap (λ (z : Bool). if z then Leaves else Apart) (apart_home x y e q)
  leave_other x e (Asking y) q = absurd cc
  leave_other x e (Held y) q = absurd cc

  pub asks_is : (p : ImportPlace) → tied_as h p ≡ Asks → is_asking h p ≡ true
  asks_is Empty q = absurd cc
  asks_is (Asking y) q = go (is_incarnation y h) q
    where
      go : (b : Bool) → (if b then Asks else Apart) ≡ Asks → b ≡ true
      go true r = refl
      go false r = absurd cc
  asks_is (Held y) q = go (is_incarnation y h) q
    where
      go : (b : Bool) → (if b then Holds else Apart) ≡ Asks → false ≡ true
      go true r = absurd cc
      go false r = absurd cc
  asks_is (Leaving y) q = go (is_incarnation y h) q
    where
      go : (b : Bool) → (if b then Leaves else Apart) ≡ Asks → false ≡ true
      go true r = absurd cc
      go false r = absurd cc

  pub holds_is : (p : ImportPlace) → tied_as h p ≡ Holds → is_held h p ≡ true
  holds_is Empty q = absurd cc
  holds_is (Held y) q = go (is_incarnation y h) q
    where
      go : (b : Bool) → (if b then Holds else Apart) ≡ Holds → b ≡ true
      go true r = refl
      go false r = absurd cc
  holds_is (Asking y) q = go (is_incarnation y h) q
    where
      go : (b : Bool) → (if b then Asks else Apart) ≡ Holds → false ≡ true
      go true r = absurd cc
      go false r = absurd cc
  holds_is (Leaving y) q = go (is_incarnation y h) q
    where
      go : (b : Bool) → (if b then Leaves else Apart) ≡ Holds → false ≡ true
      go true r = absurd cc
      go false r = absurd cc

  pub leaves_is : (p : ImportPlace) → tied_as h p ≡ Leaves → is_leaving h p ≡ true
  leaves_is Empty q = absurd cc
  leaves_is (Leaving y) q = go (is_incarnation y h) q
    where
      go : (b : Bool) → (if b then Leaves else Apart) ≡ Leaves → b ≡ true
      go true r = refl
      go false r = absurd cc
  leaves_is (Asking y) q = go (is_incarnation y h) q
    where
      go : (b : Bool) → (if b then Asks else Apart) ≡ Leaves → false ≡ true
      go true r = absurd cc
      go false r = absurd cc
  leaves_is (Held y) q = go (is_incarnation y h) q
    where
      go : (b : Bool) → (if b then Holds else Apart) ≡ Leaves → false ≡ true
      go true r = absurd cc
      go false r = absurd cc

  pub is_asks : (p : ImportPlace) → is_asking h p ≡ true → tied_as h p ≡ Asks
  is_asks Empty q = absurd cc
  is_asks (Asking y) q = ap (λ (z : Bool). if z then Asks else Apart) q
  is_asks (Held y) q = absurd cc
  is_asks (Leaving y) q = absurd cc

  pub is_holds : (p : ImportPlace) → is_held h p ≡ true → tied_as h p ≡ Holds
  is_holds Empty q = absurd cc
  is_holds (Held y) q = ap (λ (z : Bool). if z then Holds else Apart) q
  is_holds (Asking y) q = absurd cc
  is_holds (Leaving y) q = absurd cc

  pub is_leaves : (p : ImportPlace) → is_leaving h p ≡ true → tied_as h p ≡ Leaves
  is_leaves Empty q = absurd cc
  is_leaves (Leaving y) q = ap (λ (z : Bool). if z then Leaves else Apart) q
  is_leaves (Asking y) q = absurd cc
  is_leaves (Held y) q = absurd cc

-- a place that holds the home
pub holds_held : (h : Incarnation) (p : ImportPlace) → tied_as h p ≡ Holds → p ≡ Held h
holds_held h Empty e = absurd cc
holds_held h (Asking y) e = go (is_incarnation y h) e
  where
    go : (b : Bool) → (if b then Asks else Apart) ≡ Holds → Asking y ≡ Held h
    go true q = absurd cc
    go false q = absurd cc
holds_held h (Leaving y) e = go (is_incarnation y h) e
  where
    go : (b : Bool) → (if b then Leaves else Apart) ≡ Holds → Leaving y ≡ Held h
    go true q = absurd cc
    go false q = absurd cc
holds_held h (Held y) e = go (is_incarnation y h) refl e
  where
    go : (b : Bool) → is_incarnation y h ≡ b → (if b then Holds else Apart) ≡ Holds → Held y ≡ Held h
    go true q r = ap (λ (z : Incarnation). Held z) (same_incarnation y h q)
    go false q r = absurd cc
