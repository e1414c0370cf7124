-- Faces by slot, port, place and side.
use Rattle.std.proofs.Common.{◌≡◌, ◌∙◌, ℕ, ◌+◌, ◌*◌, ◌<◌, List, length, slice_get, sum, sym, ap, arith}
use Rattle.std.proofs.lemmas.Option.{same_Some, slice_get_within}
use Rattle.room_wiring.specs.declared.slot.Slot.{Slot}
use Rattle.wiring_plan.specs.declared.structure_plan.plan.PortPlan.{PortPlan}
use Rattle.wiring_plan.specs.declared.structure_plan.plan.StructurePlan.{StructurePlan}
use Rattle.wiring_places.specs.declared.place_rules.place.LayerJoin.{LayerJoin}
use Rattle.wiring_places.specs.place_rules.Parts.{class_plan}
use Rattle.wiring_places.specs.place_rules.Counts.{counts, spans_from, first_ports_from, span_of}
use Rattle.number_graphs.specs.face_matchings.Offsets.{offset}
use Rattle.number_graphs.proofs.face_matchings.Places.{same_place, place_below}
use Rattle.wiring_joins.proofs.place_faces.Rows.{IsPort, port_lengths, port_length_at, own_count, row_of, count_at, span_is}

-- f is the outer (0) or the inner (1) face of place k of port p of slot s
pub record IsFace (plan : StructurePlan) (slots : List Slot) (joins : List LayerJoin) (f s p k side : ℕ) (x : Slot) (port : PortPlan) : Type 0 where
  pub at : IsPort plan slots s p x port
  pub within : k < own_count plan slots joins s x p port
  pub outer_or_inner : side < 2
  pub number : f ≡ 2 * (offset (counts plan slots joins) (row_of plan slots joins s p) + k) + side

-- two faces are of one place and side
pub record AreSame (s p k side : ℕ) (x : Slot) (port : PortPlan) (s' p' k' side' : ℕ) (x' : Slot) (port' : PortPlan) : Type 0 where
  pub slot : s ≡ s'
  pub port_number : p ≡ p'
  pub place : k ≡ k'
  pub face : side ≡ side'
  pub slot_is : x ≡ x'
  pub port_is : port ≡ port'

module _ (plan : StructurePlan) (slots : List Slot) (joins : List LayerJoin) where
  pub same_face : (f s p k side : ℕ) (x : Slot) (port : PortPlan) (s' p' k' side' : ℕ) (x' : Slot) (port' : PortPlan) → IsFace plan slots joins f s p k side x port → IsFace plan slots joins f s' p' k' side' x' port' → AreSame s p k side x port s' p' k' side' x' port'
  same_face f s p k side x port s' p' k' side' x' port' a b =
      let cs = counts plan slots joins in
      let row = row_of plan slots joins s p in
      let row' = row_of plan slots joins s' p' in
      let place : offset cs row + k ≡ offset cs row' + k' = omega (arith, a.number, b.number, a.outer_or_inner, b.outer_or_inner) in
      let face : side ≡ side' = omega (arith, a.number, b.number, a.outer_or_inner, b.outer_or_inner) in
      let both = same_place cs row row' (own_count plan slots joins s x p port) (own_count plan slots joins s' x' p' port') k k' (count_at plan slots joins s x p port a.at) (count_at plan slots joins s' x' p' port' b.at) a.within b.within place in
      let ports = same_place (port_lengths plan slots) s s' (length (class_plan plan x.class).ports) (length (class_plan plan x'.class).ports) p p' (port_length_at plan slots s x a.at.slot) (port_length_at plan slots s' x' b.at.slot) (slice_get_within (class_plan plan x.class).ports p port a.at.named) (slice_get_within (class_plan plan x'.class).ports p' port' b.at.named) both.0 in
      let slot_is : x ≡ x' = same_Some x x' (sym a.at.slot ∙ ap (slice_get slots) ports.0 ∙ b.at.slot) in
      let port_is : port ≡ port' = same_Some port port' (sym a.at.named ∙ ap (λ (z : Slot). slice_get (class_plan plan z.class).ports p) slot_is ∙ ap (slice_get (class_plan plan x'.class).ports) ports.1 ∙ b.at.named) in
      record { slot = ports.0; port_number = ports.1; place = both.1; face = face; slot_is = slot_is; port_is = port_is }

  pub face_below : (f s p k side : ℕ) (x : Slot) (port : PortPlan) → IsFace plan slots joins f s p k side x port → f < 2 * sum (counts plan slots joins)
  face_below f s p k side x port a =
      let below = place_below (counts plan slots joins) (row_of plan slots joins s p) (own_count plan slots joins s x p port) k (count_at plan slots joins s x p port a.at) a.within in
      omega (arith, below, a.number, a.outer_or_inner)

  -- a face by the span of its port
  pub face_of_span : (f s p k side : ℕ) (x : Slot) (port : PortPlan) → IsPort plan slots s p x port → k < own_count plan slots joins s x p port → side < 2 → f ≡ 2 * ((span_of (first_ports_from plan 0 slots) (spans_from 0 (counts plan slots joins)) s p).first + k) + side
      → IsFace plan slots joins f s p k side x port
  face_of_span f s p k side x port at within lt e =
      let span = span_is plan slots joins s x p port at in
      record { at = at; within = within; outer_or_inner = lt; number = omega (arith, e, span.0) }
