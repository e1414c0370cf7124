-- One more binding.
use Rattle.std.proofs.Common.{◌≡◌, ℕ, ◌+◌, ◌<◌, ◌≤◌, List, [], ◌∷◌, ◌++◌, length, drop, refl, sym, ap, ◌∙◌, arith, append_assoc, append-nil}
use Rattle.std.proofs.lemmas.List.{at_drop_more, at_drop_all}
use Rattle.std.proofs.Math.Path.{fun_ext}
use Rattle.std.specs.Prelude.{slice_index_or}
use Rattle.wiring_plan.specs.declared.structure_plan.plan.BindingPlan.{BindingPlan}
use Rattle.wiring_plan.specs.declared.structure_plan.plan.ClassPlan.{ClassPlan}
use Rattle.wiring_plan.specs.declared.structure_plan.plan.StructurePlan.{StructurePlan}
use Rattle.wiring_places.specs.declared.place_rules.stretch.Stretch.{Stretch}
use Rattle.wiring_places.specs.place_rules.Stretches.{stretch, taken_after, stretches_from, taken_from}
use Rattle.wiring_places.proofs.binding_stretches.Growing.{taken_grows}

module _ (plan : StructurePlan) (class : ClassPlan) where
  taken_next : (f g : ℕ → ℕ) (b : BindingPlan) (s : Stretch) → s ≡ stretch plan class f b → ((side : ℕ) → g side ≡ taken_after f b s.count side) → g ≡ taken_after f b (stretch plan class f b).count
  taken_next f g b s is h = fun_ext h ∙ ap (λ (x : Stretch). taken_after f b x.count) is

  pub stretches_more : (f g : ℕ → ℕ) (bs : List BindingPlan) (i : ℕ) (d : BindingPlan) (s : Stretch) (done out : List Stretch) → i < length bs → s ≡ stretch plan class f (slice_index_or bs i d) → ((side : ℕ) → g side ≡ taken_after f (slice_index_or bs i d) s.count side) → out ≡ done ++ s ∷ []
      → out ++ stretches_from plan class g (drop (i + 1) bs) ≡ done ++ stretches_from plan class f (drop i bs)
  unfolding stretches_from
  stretches_more f g bs i d s done out lt is h pushed =
      let b = slice_index_or bs i d in
      let left = stretches_from plan class g (drop (i + 1) bs) in
      let first : stretches_from plan class f (drop i bs) ≡ stretches_from plan class f (b ∷ drop (i + 1) bs) = at_drop_more (stretches_from plan class f) bs i d lt in
      let then : stretches_from plan class f (b ∷ drop (i + 1) bs) ≡ s ∷ left = ap (λ t. stretch plan class f b ∷ stretches_from plan class t (drop (i + 1) bs)) (sym (taken_next f g b s is h)) ∙ ap (λ x. x ∷ left) (sym is) in
      ap (λ xs. xs ++ left) pushed ∙ append_assoc done (s ∷ []) left ∙ ap (λ xs. done ++ xs) (sym (first ∙ then))

  pub taken_more : (f g : ℕ → ℕ) (bs : List BindingPlan) (i : ℕ) (d : BindingPlan) (s : Stretch) → i < length bs → s ≡ stretch plan class f (slice_index_or bs i d) → ((side : ℕ) → g side ≡ taken_after f (slice_index_or bs i d) s.count side) → taken_from plan class g (drop (i + 1) bs) ≡ taken_from plan class f (drop i bs)
  unfolding taken_from
  taken_more f g bs i d s lt is h = ap (λ t. taken_from plan class t (drop (i + 1) bs)) (taken_next f g (slice_index_or bs i d) s is h) ∙ sym (at_drop_more (taken_from plan class f) bs i d lt)

  -- after one more binding no more is taken than after all
  pub taken_within : (f all : ℕ → ℕ) (bs : List BindingPlan) (i : ℕ) (d : BindingPlan) (s : Stretch) (m : ℕ) → i < length bs → s ≡ stretch plan class f (slice_index_or bs i d) → taken_from plan class f (drop i bs) ≡ all → ((side : ℕ) → all side < m)
      → (side : ℕ) → taken_after f (slice_index_or bs i d) s.count side < m
  taken_within f all bs i d s m lt is same below side =
      let g = taken_after f (slice_index_or bs i d) s.count in
      let more : taken_from plan class g (drop (i + 1) bs) ≡ taken_from plan class f (drop i bs) = taken_more f g bs i d s lt is (λ other. refl) in
      let at : taken_from plan class g (drop (i + 1) bs) side ≡ all side = ap (λ (h : ℕ → ℕ). h side) (more ∙ same) in
      let grows = taken_grows plan class (drop (i + 1) bs) g side in
      omega (arith, at, grows, below side)

  pub stretches_end : (f : ℕ → ℕ) (bs : List BindingPlan) (i : ℕ) (done : List Stretch) → length bs ≤ i → done ≡ done ++ stretches_from plan class f (drop i bs)
  unfolding stretches_from
  stretches_end f bs i done e = sym (ap (λ xs. done ++ xs) (at_drop_all (stretches_from plan class f) bs i e) ∙ append-nil done)

  pub taken_end : (f : ℕ → ℕ) (bs : List BindingPlan) (i : ℕ) → length bs ≤ i → f ≡ taken_from plan class f (drop i bs)
  unfolding taken_from
  taken_end f bs i e = sym (at_drop_all (taken_from plan class f) bs i e)
