-- One more place, one more port, one more slot.
use Rattle.std.proofs.Common.{◌≡◌, ℕ, ◌+◌, ◌-◌, ◌<◌, ◌≤◌, Bool, List, [], ◌∷◌, ◌++◌, length, drop, suc, zero, refl, sym, ap, ◌∙◌, arith, append_assoc, append-nil}
use Rattle.std.proofs.lemmas.List.{at_drop_more, at_drop_all}
use Rattle.std.specs.Prelude.{slice_index, slice_index_or}
use Rattle.room_wiring.specs.declared.slot.Slot.{Slot}
use Rattle.wiring_plan.specs.declared.structure_plan.plan.PortPlan.{PortPlan}
use Rattle.wiring_plan.specs.declared.structure_plan.plan.StructurePlan.{StructurePlan}
use Rattle.wiring_places.specs.declared.place_rules.place.Place.{Place}
use Rattle.wiring_places.specs.declared.place_rules.place.Role.{Role}
use Rattle.room_kinds.specs.Structure.{is_imported}
use Rattle.wiring_places.specs.place_rules.Parts.{class_plan}
use Rattle.wiring_places.specs.place_rules.Partners.{role_of, places_of_port, places_of_ports, places_of_slots}

module _ (s p : ℕ) (role : Role) where
  abbrev here : ℕ → Place
  here k = record { slot = s; port = p; place = k; role = role }

  unrolled : (k n : ℕ) → 0 < n → places_of_port s p role k n ≡ here k ∷ places_of_port s p role (k + 1) (n - 1)
  unfolding places_of_port
  unrolled k zero pos = absurd (omega arith)
  unrolled k (suc n) pos = let same : n ≡ suc n - 1 = omega arith in ap (λ m. here k ∷ places_of_port s p role (k + 1) m) same

  none_left : (k n : ℕ) → n ≡ 0 → places_of_port s p role k n ≡ []
  unfolding places_of_port
  none_left k zero e = refl
  none_left k (suc n) e = absurd (omega arith)

  pub place_more : (k count : ℕ) (done out : List Place) → k < count → out ≡ done ++ record { slot = s; port = p; place = k; role = role } ∷ [] → out ++ places_of_port s p role (k + 1) (count - (k + 1)) ≡ done ++ places_of_port s p role k (count - k)
  place_more k count done out lt pushed =
      let left = places_of_port s p role (k + 1) (count - (k + 1)) in
      let less : (count - k) - 1 ≡ count - (k + 1) = omega arith in
      let first : places_of_port s p role k (count - k) ≡ here k ∷ left = unrolled k (count - k) (omega (arith, lt)) ∙ ap (λ m. here k ∷ places_of_port s p role (k + 1) m) less in
      ap (λ xs. xs ++ left) pushed ∙ append_assoc done (here k ∷ []) left ∙ ap (λ xs. done ++ xs) (sym first)

  pub place_end : (k count : ℕ) (done : List Place) → count ≤ k → done ++ places_of_port s p role k (count - k) ≡ done
  place_end k count done le = ap (λ xs. done ++ xs) (none_left k (count - k) (omega (arith, le))) ∙ append-nil done

module _ (imported : Bool) (s : ℕ) (counts : List ℕ) (row : ℕ) where
  pub port_more : (ports : List PortPlan) (i : ℕ) (d : PortPlan) (role : Role) (n : ℕ) (done out : List Place) → i < length ports → role ≡ role_of imported (slice_index_or ports i d).kind → n ≡ slice_index counts (row + i) → out ≡ done ++ places_of_port s i role 0 n
      → out ++ places_of_ports imported s counts row (i + 1) (drop (i + 1) ports) ≡ done ++ places_of_ports imported s counts row i (drop i ports)
  unfolding places_of_ports
  port_more ports i d role n done out lt e_role e_n pushed =
      let left = places_of_ports imported s counts row (i + 1) (drop (i + 1) ports) in
      let these = places_of_port s i role 0 n in
      let same : these ≡ places_of_port s i (role_of imported (slice_index_or ports i d).kind) 0 (slice_index counts (row + i)) = ap (λ r. places_of_port s i r 0 n) e_role ∙ ap (λ m. places_of_port s i (role_of imported (slice_index_or ports i d).kind) 0 m) e_n in
      let first : places_of_ports imported s counts row i (drop i ports) ≡ these ++ left = at_drop_more (places_of_ports imported s counts row i) ports i d lt ∙ ap (λ xs. xs ++ left) (sym same) in
      ap (λ xs. xs ++ left) pushed ∙ append_assoc done these left ∙ ap (λ xs. done ++ xs) (sym first)

  pub port_end : (ports : List PortPlan) (i : ℕ) (done : List Place) → length ports ≤ i → done ++ places_of_ports imported s counts row i (drop i ports) ≡ done
  unfolding places_of_ports
  port_end ports i done le = ap (λ xs. done ++ xs) (at_drop_all (places_of_ports imported s counts row i) ports i le) ∙ append-nil done

module _ (plan : StructurePlan) (counts : List ℕ) where
  pub slot_more : (xs : List Slot) (i row next more : ℕ) (x : Slot) (imported : Bool) (ports : List PortPlan) (done out : List Place) → i < length xs → x ≡ slice_index_or xs i x → imported ≡ is_imported x.kind → ports ≡ (class_plan plan x.class).ports → more ≡ length ports → next ≡ row + more
      → out ≡ done ++ places_of_ports imported i counts row 0 ports → out ++ places_of_slots plan counts (i + 1) next (drop (i + 1) xs) ≡ done ++ places_of_slots plan counts i row (drop i xs)
  unfolding places_of_slots
  slot_more xs i row next more x imported ports done out lt is e_imported e_ports e_more e_next pushed =
      let left = places_of_slots plan counts (i + 1) next (drop (i + 1) xs) in
      let these = places_of_ports imported i counts row 0 ports in
      let same : these ≡ places_of_ports (is_imported x.kind) i counts row 0 (class_plan plan x.class).ports = ap (λ b. places_of_ports b i counts row 0 ports) e_imported ∙ ap (λ ps. places_of_ports (is_imported x.kind) i counts row 0 ps) e_ports in
      let next_is : next ≡ row + length (class_plan plan x.class).ports = e_next ∙ ap (λ n. row + n) (e_more ∙ ap length e_ports) in
      let first : places_of_slots plan counts i row (drop i xs) ≡ these ++ left =
      at_drop_more (places_of_slots plan counts i row) xs i x lt ∙ ap (λ y. places_of_slots plan counts i row (y ∷ drop (i + 1) xs)) (sym is) ∙ ap (λ n. places_of_ports (is_imported x.kind) i counts row 0 (class_plan plan x.class).ports ++ places_of_slots plan counts (i + 1) n (drop (i + 1) xs)) (sym next_is) ∙ ap (λ ys. ys ++ left) (sym same) in
      ap (λ ys. ys ++ left) pushed ∙ append_assoc done these left ∙ ap (λ ys. done ++ ys) (sym first)

  pub slot_end : (xs : List Slot) (i row : ℕ) (done : List Place) → length xs ≤ i → done ++ places_of_slots plan counts i row (drop i xs) ≡ done
  unfolding places_of_slots
  slot_end xs i row done le = ap (λ ys. done ++ ys) (at_drop_all (places_of_slots plan counts i row) xs i le) ∙ append-nil done
