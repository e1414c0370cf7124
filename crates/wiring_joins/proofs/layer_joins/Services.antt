-- The way upward to a service.
use Rattle.std.proofs.Common.{◌≡◌, ℕ, ◌-◌, ◌<◌, ◌≤◌, List, suc, zero, refl, ap, ◌∙◌, subst, arith, Option, Some, None}
use Rattle.room_wiring.specs.declared.slot.Slot.{Slot}
use Rattle.wiring_plan.specs.declared.structure_plan.plan.LayerPlan.{LayerPlan}
use Rattle.wiring_plan.specs.declared.structure_plan.plan.StructurePlan.{StructurePlan}
use Rattle.wiring_places.specs.place_rules.Parts.{container_of, container_class}
use Rattle.wiring_places.specs.place_rules.Layers.{service, service_at, fitting, slot_if, parent_number, decided}

module _ (plan : StructurePlan) (slots : List Slot) (protocol : Option ℕ) where
  pub service_none : (n : ℕ) (o : Option Slot) → o ≡ None → service plan slots n protocol o ≡ None
  unfolding service
  service_none n None e = refl
  service_none n (Some x) e = absurd cc

  pub service_end : (n : ℕ) (o : Option Slot) → n ≤ 0 → service plan slots n protocol o ≡ None
  unfolding service
  service_end n None e = refl
  service_end zero (Some x) e = refl
  service_end (suc n) (Some x) e = absurd (omega arith)

  step : (n : ℕ) (x : Slot) (d : Option LayerPlan) → fitting plan (container_class plan slots (container_of x)) x.reference protocol ≡ d
      → service plan slots (suc n) protocol (Some x) ≡ decided slots (container_of x) d (service plan slots n protocol (slot_if slots (parent_number x.parent)))
  unfolding service
  step n x d e = ap (λ d'. decided slots (container_of x) d' (service plan slots n protocol (slot_if slots (parent_number x.parent)))) e

  at : (n : ℕ) (x : Slot) (d : Option LayerPlan) (o : Option Slot) → 0 < n → o ≡ Some x → fitting plan (container_class plan slots (container_of x)) x.reference protocol ≡ d
      → service plan slots n protocol o ≡ decided slots (container_of x) d (service plan slots (n - 1) protocol (slot_if slots (parent_number x.parent)))
  at zero x d o pos e f = absurd (omega arith)
  at (suc n) x d o pos e f =
      let same : n ≡ suc n - 1 = omega arith in
      let Q : ℕ → Type 0 = λ m. service plan slots (suc n) protocol o ≡ decided slots (container_of x) d (service plan slots m protocol (slot_if slots (parent_number x.parent))) in
      subst Q same (ap (service plan slots (suc n) protocol) e ∙ step n x d f)

  pub service_found : (n : ℕ) (x : Slot) (layer : LayerPlan) (o : Option Slot) → 0 < n → o ≡ Some x → fitting plan (container_class plan slots (container_of x)) x.reference protocol ≡ Some layer → service plan slots n protocol o ≡ service_at slots (container_of x) layer
  service_found n x layer o pos e f = at n x (Some layer) o pos e f

  pub service_above : (n : ℕ) (x : Slot) (o : Option Slot) → 0 < n → o ≡ Some x → fitting plan (container_class plan slots (container_of x)) x.reference protocol ≡ None → service plan slots n protocol o ≡ service plan slots (n - 1) protocol (slot_if slots (parent_number x.parent))
  service_above n x o pos e f = at n x None o pos e f
