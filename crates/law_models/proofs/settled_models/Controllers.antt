-- The controllers of a model that keeps all rules: one for each thread, at most 32; and one where it has none.
use Rattle.std.proofs.Common.{◌≡◌, ℕ, ◌≤◌, Bool, true, false, cond, List, [], ◌∷◌, length, map, Option, Some, None, refl, ap, arith}
use Rattle.std.specs.Prelude.{◌&&◌, ◌==◌, nat_le, codes}
use Rattle.std.specs.List.{filter_map, list_all}
use Rattle.std.specs.Option.{option_map_or}
use Rattle.std.proofs.lemmas.Bool.Decides.{nat_tests}
use Rattle.std.proofs.lemmas.List.{length-map}
use Rattle.name_tables.specs.distinct_names.Distinct.{is_distinct}
use Rattle.name_tables.specs.name_numbers.Names.{same}
use Rattle.room_ast.specs.Trees.{ModelTree, ClassTree, ASystem, ASubsystem, AnActor, AProtocol, AData, SubsystemTree}
use Rattle.room_ast.specs.model_parts.Classes.{as_subsystem, systems, wired_name, actor_names}
use Rattle.room_wiring.specs.declared.tables.Tables.{Tables}
use Rattle.check_mappings.specs.mapping_rules.Rules.{thread_names}
use Rattle.check_bindings.specs.structure_rules.Threads.{has_few_threads, threads_are_few}
use Rattle.check_tables.specs.class_tables.Containers.{subsystem_container}
use Rattle.structure_check.specs.Rules.{first_broken}
use Rattle.structure_check.specs.List.{all_rules}
use Rattle.structure_check.specs.declared.flat_rule.FlatRule.TheVariants as rules
use Rattle.structure_check.proofs.KeptRules.{rule_kept}
use Rattle.wiring_plan.specs.structure_plan.Plans.{wired_subsystem}
use Rattle.wiring_plan.specs.structure_plan.Steps.{first_named}
use Rattle.wiring_plan.specs.wiring_classes.Labels.{label_of}
use Rattle.wiring_slots.specs.slot_names.Names.{controllers_of, nothing_wired, wired_of, wired_names}
use Rattle.wiring_slots.specs.slot_names.Wireds.{WiredTree}
use Rattle.binding_expand.specs.Wirings.{IsWiringOf}

-- a subsystem class, if there is one, has at most 32 threads
abbrev HasFew : Option SubsystemTree → Type 0
HasFew o = length (option_map_or (λ (s : SubsystemTree). thread_names s.items) o []) ≤ 32

both : (a b : Bool) → (a && b) ≡ true → (a ≡ true) × (b ≡ true)
both true b e = (refl, e)
both false b e = absurd cc

one_few : (s : SubsystemTree) → has_few_threads (ASubsystem s) ≡ true → HasFew (Some s)
one_few s h = below (length (thread_names s.items)) (both (nat_le (length (thread_names s.items)) 32) (is_distinct (thread_names s.items)) h).0
  where
    below : (n : ℕ) → nat_le n 32 ≡ true → n ≤ 32
    below n e = grind (arith, nat_tests)

first_few : (s : SubsystemTree) (rest : Option SubsystemTree) (b : Bool) → HasFew (Some s) → HasFew rest → HasFew (cond b (Some s) rest)
first_few s rest true here more = here
first_few s rest false here more = more

named_few : (name : List ℕ) (ks : List ClassTree) → list_all has_few_threads ks ≡ true → HasFew (first_named name (filter_map as_subsystem ks))
named_few name [] h = omega arith
named_few name (ASystem s ∷ ks) h = named_few name ks h
named_few name (ASubsystem s ∷ ks) h =
    let of : (has_few_threads (ASubsystem s) ≡ true) × (list_all has_few_threads ks ≡ true) = both (has_few_threads (ASubsystem s)) (list_all has_few_threads ks) h in
    first_few s (first_named name (filter_map as_subsystem ks)) (same name s.name) (one_few s of.0) (named_few name ks of.1)
named_few name (AnActor a ∷ ks) h = named_few name ks h
named_few name (AProtocol p ∷ ks) h = named_few name ks h
named_few name (AData d ∷ ks) h = named_few name ks h

wired_few : (ks : List ClassTree) → list_all has_few_threads ks ≡ true → (name : Option (List ℕ)) → HasFew (option_map_or (λ n. first_named n (filter_map as_subsystem ks)) name None)
wired_few ks h None = omega arith
wired_few ks h (Some n) = named_few n ks h

of_wired : (m : ModelTree) (o : Option SubsystemTree) → HasFew o
    → length (thread_names (option_map_or (λ (s : SubsystemTree). let w : WiredTree = record { items = s.items; container = subsystem_container (actor_names m) s } in w) o nothing_wired).items) ≤ 32
of_wired m None h = omega arith
of_wired m (Some s) h = h

-- one for each thread, or one
of_threads : (threads : List (List ℕ)) → length threads ≤ 32 → (1 ≤ length (controllers_of threads)) × (length (controllers_of threads) ≤ 32)
of_threads threads few = pick (length threads == 0) refl
  where
    pick : (b : Bool) → (length threads == 0) ≡ b → (1 ≤ length (cond b (codes "default" ∷ []) (map label_of threads))) × (length (cond b (codes "default" ∷ []) (map label_of threads)) ≤ 32)
    pick true e = (omega arith, omega arith)
    pick false e =
        let long = length-map threads label_of in
        let some : 1 ≤ length threads = grind (arith, nat_tests) in
        (omega (arith, long, some), omega (arith, long, few))

-- there is a controller, and there are few
pub controllers_few : (m : ModelTree) (t : Tables) → first_broken all_rules m ≡ None → IsWiringOf m t → (1 ≤ length t.controllers) × (length t.controllers ≤ 32)
unfolding wired_names threads_are_few
controllers_few m t keeps wiring =
    let few : list_all has_few_threads m.classes ≡ true = rule_kept m keeps rules.FewThreads in
    let counts = of_threads (thread_names (wired_of m).items) (of_wired m (wired_subsystem m) (wired_few m.classes few (wired_name (systems m)))) in
    let some : 1 ≤ length (wired_names m).controllers = counts.0 in
    let most : length (wired_names m).controllers ≤ 32 = counts.1 in
    let same = ap length wiring.controllers in
    (omega (arith, some, same), omega (arith, most, same))
