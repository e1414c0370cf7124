-- A model that keeps all rules has few actor classes, and few states in the chart of each.
use Rattle.std.proofs.Common.{◌≡◌, ℕ, ◌+◌, ◌≤◌, Bool, true, false, cond, List, [], ◌∷◌, length, None, refl, arith}
use Rattle.std.specs.Prelude.{◌&&◌, nat_le, count_by}
use Rattle.std.specs.List.{AllByRecursion, filter_map, list_all}
use Rattle.std.proofs.lemmas.Bool.Decides.{nat_tests}
use Rattle.std.proofs.lemmas.List.Sums.{sum_by-cons}
use Rattle.room_ast.specs.Trees.{ModelTree, ClassTree, ASystem, ASubsystem, AnActor, AProtocol, AData, ActorTree}
use Rattle.room_ast.specs.model_parts.Charts.{state_count}
use Rattle.room_ast.specs.model_parts.Classes.{as_actor, actors}
use Rattle.check_mappings.specs.count_rules.Counts.{is_counted, classes_are_few, parts_are_few, ports_are_few, references_are_few, states_are_few, numbers_are_few, has_few_parts}
use Rattle.structure_check.specs.List.{all_rules}
use Rattle.structure_check.specs.Rules.{first_broken}
use Rattle.structure_check.proofs.KeptRules.{all_few}

left_of : (a b : Bool) → (a && b) ≡ true → a ≡ true
left_of true b h = refl
left_of false b h = absurd cc

right_of : (a b : Bool) → (a && b) ≡ true → b ≡ true
right_of true b h = h
right_of false b h = absurd cc

few_number : (n : ℕ) → nat_le n 60000 ≡ true → n ≤ 60000
few_number n h = grind (arith, nat_tests)

-- a class more
one_more : (k : ClassTree) (ks : List ClassTree) → count_by is_counted (k ∷ ks) ≡ cond (is_counted k) 1 0 + count_by is_counted ks
one_more k ks = sum_by-cons (λ (x : ClassTree). cond (is_counted x) 1 0) k ks

actors_counted : (ks : List ClassTree) → length (filter_map as_actor ks) ≤ count_by is_counted ks
actors_counted [] = omega arith
actors_counted (ASystem s ∷ ks) = let h = actors_counted ks in let e : count_by is_counted (ASystem s ∷ ks) ≡ 0 + count_by is_counted ks = one_more (ASystem s) ks in omega (arith, h, e)
actors_counted (ASubsystem s ∷ ks) = let h = actors_counted ks in let e : count_by is_counted (ASubsystem s ∷ ks) ≡ 1 + count_by is_counted ks = one_more (ASubsystem s) ks in omega (arith, h, e)
actors_counted (AnActor a ∷ ks) = let h = actors_counted ks in let e : count_by is_counted (AnActor a ∷ ks) ≡ 1 + count_by is_counted ks = one_more (AnActor a) ks in omega (arith, h, e)
actors_counted (AProtocol p ∷ ks) = let h = actors_counted ks in let e : count_by is_counted (AProtocol p ∷ ks) ≡ 1 + count_by is_counted ks = one_more (AProtocol p) ks in omega (arith, h, e)
actors_counted (AData d ∷ ks) = let h = actors_counted ks in let e : count_by is_counted (AData d ∷ ks) ≡ 1 + count_by is_counted ks = one_more (AData d) ks in omega (arith, h, e)

few_by_parts : (m : ModelTree) → has_few_parts m ≡ true → count_by is_counted m.classes ≤ 60000
unfolding has_few_parts
few_by_parts m h = few_number (count_by is_counted m.classes) (left_of (classes_are_few m.classes) (list_all parts_are_few m.classes) (left_of (classes_are_few m.classes && list_all parts_are_few m.classes) (list_all (numbers_are_few m) (actors m)) h))

pub few_actors : (m : ModelTree) → first_broken all_rules m ≡ None → length (actors m) ≤ 60000
few_actors m h = let few = few_by_parts m (all_few m h) in let counted = actors_counted m.classes in omega (arith, few, counted)

-- ---- the states of charts

-- the chart of each class has few states
abbrev pub HaveFewStates : List ActorTree → Type 0
HaveFewStates ks = AllByRecursion (λ (a : ActorTree). state_count a ≤ 60000) ks

states_few : (a : ActorTree) → parts_are_few (AnActor a) ≡ true → state_count a ≤ 60000
states_few a h = few_number (state_count a) (right_of (ports_are_few a && references_are_few a) (states_are_few a) h)

few_in : (ks : List ClassTree) → list_all parts_are_few ks ≡ true → HaveFewStates (filter_map as_actor ks)
few_in [] h = tt
few_in (ASystem s ∷ ks) h = few_in ks (right_of (parts_are_few (ASystem s)) (list_all parts_are_few ks) h)
few_in (ASubsystem s ∷ ks) h = few_in ks (right_of (parts_are_few (ASubsystem s)) (list_all parts_are_few ks) h)
few_in (AnActor a ∷ ks) h = (states_few a (left_of (parts_are_few (AnActor a)) (list_all parts_are_few ks) h), few_in ks (right_of (parts_are_few (AnActor a)) (list_all parts_are_few ks) h))
few_in (AProtocol p ∷ ks) h = few_in ks (right_of (parts_are_few (AProtocol p)) (list_all parts_are_few ks) h)
few_in (AData d ∷ ks) h = few_in ks (right_of (parts_are_few (AData d)) (list_all parts_are_few ks) h)

states_by_parts : (m : ModelTree) → has_few_parts m ≡ true → HaveFewStates (actors m)
unfolding has_few_parts
states_by_parts m h = few_in m.classes (right_of (classes_are_few m.classes) (list_all parts_are_few m.classes) (left_of (classes_are_few m.classes && list_all parts_are_few m.classes) (list_all (numbers_are_few m) (actors m)) h))

pub few_states : (m : ModelTree) → first_broken all_rules m ≡ None → HaveFewStates (actors m)
few_states m h = states_by_parts m (all_few m h)
