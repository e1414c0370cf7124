-- References with distinct identifiers are called apart.
use Rattle.std.proofs.Common.{◌≡◌, ◌∙◌, ℕ, zero, suc, ◌^◌, ◌<◌, ◌≤◌, false, List, [], ◌∷◌, map, Option, Some, None, refl, sym, ap, subst, arith}
use Rattle.std.specs.Prelude.{All, slice_get, is_some, unwrap_or}
use Rattle.std.proofs.lemmas.Bool.Decides.{nat_tests}
use Rattle.std.proofs.lemmas.List.Elements.{All-head, All-tail}
use Rattle.room_ast.specs.declared.actor.ActorRef.{ActorRef}
use Rattle.room_wiring.specs.WellNamed.{IsIdent}
use Rattle.name_tables.specs.name_numbers.Names.{AreDistinct}
use Rattle.room_ast.specs.model_parts.References.{reference_entry, names_of_references}
use Rattle.wiring_plan.specs.structure_plan.Parts.{count32, reference_plan}
use Rattle.wiring_plan.specs.declared.structure_plan.plan.ReferencePlan.{ReferencePlan}
use Rattle.wiring_plan.specs.wiring_classes.Parts.{named}
use Rattle.wiring_slots.specs.declared.slot_tree.names.ReferenceLabel.{ReferenceLabel}
use Rattle.wiring_slots.specs.slot_names.Names.{reference_label}
use Rattle.law_models.specs.wiring_laws.slot_paths.Labels.{IsCalled, AreCalled}
use Rattle.law_models.proofs.wiring_laws.model_paths.Names.{label_is, apart_at}

ident_at : (xs : List (List ℕ)) (i : ℕ) (x : List ℕ) → All IsIdent xs → slice_get xs i ≡ Some x → IsIdent x
ident_at [] i x h e = absurd cc
ident_at (y ∷ ys) zero x h e = let is : y ≡ x = cc in subst IsIdent is (All-head IsIdent y ys h)
ident_at (y ∷ ys) (suc i) x h e = ident_at ys i x (All-tail IsIdent y ys h) e

one_slot : (o : Option ℕ) → is_some o ≡ false → count32 (unwrap_or o 1) ≤ 1
one_slot None e = grind (arith, nat_tests)
one_slot (Some n) e = absurd cc

few_slots : (n : ℕ) → count32 n < 2 ^ 32
few_slots n = grind (arith, nat_tests)

-- a reference as code keeps it
abbrev plan_of : List (List ℕ) → ActorRef → ReferencePlan
plan_of names r = reference_plan (reference_entry names r)

abbrev called_as : List (List ℕ) → ActorRef → ReferenceLabel
called_as names r = reference_label r.name (reference_entry names r)

module _ (names : List (List ℕ)) where
  abbrev labels : List ActorRef → List ReferenceLabel
  labels rs = named reference_label (names_of_references rs) (map (reference_entry names) rs)

  abbrev plans : List ActorRef → List ReferencePlan
  plans rs = map reference_plan (map (reference_entry names) rs)

  planned : (rs : List ActorRef) (i : ℕ) (x : ReferencePlan) → slice_get (plans rs) i ≡ Some x → (r : ActorRef) × (slice_get rs i ≡ Some r) × (x ≡ plan_of names r)
  planned [] i x e = absurd cc
  planned (r ∷ rs) zero x e = (r, refl, let is : plan_of names r ≡ x = cc in sym is)
  planned (r ∷ rs) (suc i) x e = planned rs i x e

  labelled : (rs : List ActorRef) (i : ℕ) (a : ReferenceLabel) → slice_get (labels rs) i ≡ Some a → (r : ActorRef) × (slice_get rs i ≡ Some r) × (a ≡ called_as names r)
  labelled [] i a e = absurd cc
  labelled (r ∷ rs) zero a e = (r, refl, let is : called_as names r ≡ a = cc in sym is)
  labelled (r ∷ rs) (suc i) a e = labelled rs i a e

  label_at : (rs : List ActorRef) (i : ℕ) (r : ActorRef) → slice_get rs i ≡ Some r → slice_get (labels rs) i ≡ Some (called_as names r)
  label_at [] i r e = absurd cc
  label_at (q ∷ rs) zero r e = let is : q ≡ r = cc in ap (λ (x : ActorRef). Some (called_as names x)) is
  label_at (q ∷ rs) (suc i) r e = label_at rs i r e

  name_at : (rs : List ActorRef) (i : ℕ) (r : ActorRef) → slice_get rs i ≡ Some r → slice_get (names_of_references rs) i ≡ Some r.name
  name_at [] i r e = absurd cc
  name_at (q ∷ rs) zero r e = let is : q ≡ r = cc in ap (λ (x : ActorRef). Some x.name) is
  name_at (q ∷ rs) (suc i) r e = name_at rs i r e

  is_called : (r : ActorRef) → IsIdent r.name → IsCalled (called_as names r) (plan_of names r)
  is_called r ident =
      let is = label_is r.name ident in
      record {
        name = subst IsIdent (sym is) ident;
        single = λ e. one_slot r.count e;
        short = few_slots (unwrap_or r.count 1);
      }

  -- references whose names are distinct identifiers
  pub are_called : (rs : List ActorRef) → All IsIdent (names_of_references rs) → AreDistinct (names_of_references rs) → AreCalled (labels rs) (plans rs)
  are_called rs idents distinct = record { called = called; differ = differ }
    where
      called : (i : ℕ) (x : ReferencePlan) → slice_get (plans rs) i ≡ Some x → (a : ReferenceLabel) × (slice_get (labels rs) i ≡ Some a) × IsCalled a x
      called i x e =
          let p = planned rs i x e in
          let ident = ident_at (names_of_references rs) i p.0.name idents (name_at rs i p.0 p.1) in
          (called_as names p.0, label_at rs i p.0 p.1, subst (IsCalled (called_as names p.0)) (sym p.2) (is_called p.0 ident))

      differ : (i j : ℕ) (a b : ReferenceLabel) → slice_get (labels rs) i ≡ Some a → slice_get (labels rs) j ≡ Some b → a.name ≡ b.name → i ≡ j
      differ i j a b ea eb e =
          let p = labelled rs i a ea in
          let q = labelled rs j b eb in
          let first = label_is p.0.name (ident_at (names_of_references rs) i p.0.name idents (name_at rs i p.0 p.1)) in
          let second = label_is q.0.name (ident_at (names_of_references rs) j q.0.name idents (name_at rs j q.0 q.1)) in
          apart_at (names_of_references rs) distinct i j p.0.name q.0.name (name_at rs i p.0 p.1) (name_at rs j q.0 q.1)
          (sym first ∙ ap (λ (x : ReferenceLabel). x.name) (sym p.2) ∙ e ∙ ap (λ (x : ReferenceLabel). x.name) q.2 ∙ second)

-- no references at all
pub none_called : AreCalled [] []
none_called = record { called = λ i x e. absurd cc; differ = λ i j a b ea eb e. absurd cc }
