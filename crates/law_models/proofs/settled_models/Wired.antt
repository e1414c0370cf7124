-- The wiring of a model that keeps all rules and has no fault names only what it has.
use Rattle.std.proofs.Common.{◌≡◌, ◌∙◌, ℕ, ◌<◌, ◌≤◌, Bool, true, false, List, length, None, refl, sym, ap, subst, arith}
use Rattle.std.specs.Prelude.{All, nat_le}
use Rattle.std.proofs.lemmas.Bool.Decides.{nat_tests}
use Rattle.room_ast.specs.Trees.{ModelTree}
use Rattle.room_wiring.specs.Consistent.{IsConsistent}
use Rattle.room_wiring.specs.declared.tables.Tables.{Tables}
use Rattle.structure_check.specs.Rules.{first_broken}
use Rattle.structure_check.specs.List.{all_rules}
use Rattle.structure_check.specs.declared.flat_rule.FlatRule.TheVariants as rules
use Rattle.structure_check.proofs.KeptRules.{rule_kept}
use Rattle.wiring_plan.specs.structure_plan.Plans.{plan_of}
use Rattle.wiring_places.specs.place_rules.Layers.{layer_joins}
use Rattle.wiring_slots.specs.model_slots.Answers.{slots_in, wired}
use Rattle.wiring_joins.specs.joined_places.Wired.{counts_in, spans_in}
use Rattle.wiring_joins.proofs.joined_places.Counted.{places_counted}
use Rattle.binding_expand.specs.Faults.{HasNoFault}
use Rattle.binding_expand.specs.declared.fault.WiringFault.TheVariants as faults
use Rattle.binding_expand.specs.Wirings.{IsWiringOf}
use Rattle.binding_expand.specs.wiring_tables.Assembled.{assembled, AreComplete}
use Rattle.binding_expand.proofs.wiring_tables.Consistent.{assembled_consistent}

-- ---- the rules that are kept

-- ---- the tables

not_more : (n : ℕ) → (4096 < n → ⊥) → n ≤ 4096
not_more n h = pick (nat_le n 4096) refl
  where
    pick : (b : Bool) → nat_le n 4096 ≡ b → n ≤ 4096
    pick true e = grind (arith, nat_tests)
    pick false e = let more : 4096 < n = grind (arith, nat_tests) in absurd (h more)

module _ (m : ModelTree) (t : Tables) (w : IsWiringOf m t) where
  abbrev again : Tables
  again = assembled (wired m) (layer_joins (plan_of m) (slots_in m)) t.partners t.told

  is_again : t ≡ again
  unfolding spans_in counts_in
  is_again =
      ap (λ x. let a : Tables = record t { slots = x } in a) w.slots
      ∙ ap (λ x. let a : Tables = record t { slots = slots_in m; controllers = x } in a) w.controllers
      ∙ ap (λ x. let a : Tables = record t { slots = slots_in m; controllers = (wired m).controllers; classes = x } in a) w.classes
      ∙ ap (λ x. let a : Tables = record t { slots = slots_in m; controllers = (wired m).controllers; classes = (wired m).classes; first_ports = x } in a) w.first_ports
      ∙ ap (λ x. let a : Tables = record again { ports = x } in a) w.ports

  complete : AreComplete (wired m) (layer_joins (plan_of m) (slots_in m)) t.partners t.told
  unfolding counts_in
  complete = record {
    joined = w.partners.complete ∙ places_counted (plan_of m) (slots_in m);
    answered = w.told.answered;
    rows = subst (λ k. All (λ (row : List Bool). length row ≡ k) t.told) (ap length w.controllers) w.told.rows;
  }

  pub wiring_consistent : first_broken all_rules m ≡ None → HasNoFault m → IsConsistent t
  wiring_consistent keeps flawless =
      subst IsConsistent (sym is_again)
      (assembled_consistent m (layer_joins (plan_of m) (slots_in m)) t.partners t.told (rule_kept m keeps rules.KnownActors) (rule_kept m keeps rules.FewThreads)
      (not_more (length (slots_in m)) (flawless faults.TooManySlots)) complete)
