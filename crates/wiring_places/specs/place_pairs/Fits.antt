-- What fits the widths of numbers. The children of the slots stand in a table.
use Rattle.std.specs.Prelude.{ℕ, ◌+◌, ◌^◌, ◌<◌, List, [], ◌∷◌}
use Rattle.number_graphs.specs.face_chains.Chains.{AreBelow}
use Rattle.room_wiring.specs.declared.slot.Slot.{Slot}
use Rattle.room_wiring.specs.declared.tables.PlaceSpan.{PlaceSpan}
use Rattle.wiring_plan.specs.declared.structure_plan.plan.BindingPlan.{BindingPlan}
use Rattle.wiring_plan.specs.declared.structure_plan.plan.ClassPlan.{ClassPlan}
use Rattle.wiring_plan.specs.declared.structure_plan.plan.SidePlan.{SidePlan}
use Rattle.wiring_places.specs.declared.place_rules.stretch.Stretch.{Stretch}
use Rattle.wiring_places.specs.declared.slot_children.Children.{Children}
use Rattle.wiring_places.specs.slot_children.Table.{IsTableOf}
use Rattle.wiring_places.specs.place_rules.Pairs.{side_face, stretch_pair, stretch_pairs, binding_pairs}

-- the places that a binding takes of its sides have numbers of 64 bits
pub record EndsWithin (s : Stretch) : Type 0 where
  pub left : s.left + s.count < 2 ^ 64
  pub right : s.right + s.count < 2 ^ 64

-- it is so with slots whose children the table shows
abbrev pub WithSlots : Children → (List Slot → Type 0) → Type 0
WithSlots t is_so = (slots : List Slot) × IsTableOf t slots × is_so slots

-- the face of the place at n of a side has a number of 32 bits
abbrev pub FaceFits : Children → List ℕ → List PlaceSpan → ClassPlan → ℕ → SidePlan → ℕ → Type 0
FaceFits t first_ports spans class c side n = WithSlots t (λ slots. side_face slots first_ports spans class c side n < 2 ^ 32)

-- so have the faces of the pair at k of a binding
abbrev pub PairFits : Children → List ℕ → List PlaceSpan → ClassPlan → ℕ → BindingPlan → Stretch → ℕ → Type 0
PairFits t first_ports spans class c b s k = WithSlots t (λ slots. AreBelow (2 ^ 32) (stretch_pair slots first_ports spans class c b s k ∷ []))

-- of all pairs of a binding
abbrev pub StretchFits : Children → List ℕ → List PlaceSpan → ClassPlan → ℕ → BindingPlan → Stretch → Type 0
StretchFits t first_ports spans class c b s = WithSlots t (λ slots. AreBelow (2 ^ 32) (stretch_pairs slots first_ports spans class c b s 0 s.count))

-- of the pairs of bindings
abbrev pub BindingsFit : Children → List ℕ → List PlaceSpan → ClassPlan → ℕ → List BindingPlan → List Stretch → Type 0
BindingsFit t first_ports spans class c bs ss = WithSlots t (λ slots. AreBelow (2 ^ 32) (binding_pairs slots first_ports spans class c bs ss))
