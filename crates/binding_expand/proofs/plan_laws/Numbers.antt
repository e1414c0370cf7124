-- Numbers of names within the limits.
use Rattle.std.proofs.Common.{◌≡◌, ◌∙◌, ℕ, suc, ◌+◌, ◌<◌, ◌≤◌, Bool, true, false, cond, not, nat_le, ◌||◌, List, [], ◌∷◌, length, Option, Some, None, position, option_and_then, unwrap_or, filter_map, count_by, ap, arith, le-leb, lt-ltb}
use Rattle.std.specs.Prelude.{◌&&◌}
use Rattle.std.specs.List.{list_any, list_all, position_or_len}
use Rattle.std.proofs.lemmas.Bool.{and_parts}
use Rattle.std.proofs.lemmas.Bool.Decides.{nat_tests}
use Rattle.std.proofs.lemmas.Option.{cond_some, option_and_then_some}
use Rattle.std.proofs.lemmas.List.{length-map}
use Rattle.std.proofs.lemmas.List.Sums.{sum_by-cons}
use Rattle.name_tables.specs.name_numbers.Names.{same, is_among}
use Rattle.room_ast.specs.Trees.{ModelTree, ClassTree, ASystem, ASubsystem, AnActor, AProtocol, AData, ActorTree}
use Rattle.room_ast.specs.model_parts.Classes.{number_in, as_actor, actors, actor_names, actor_names_in}
use Rattle.check_mappings.specs.count_rules.Counts.{is_counted, classes_are_few, parts_are_few, numbers_are_few, has_few_parts}
use Rattle.wiring_plan.specs.structure_plan.Parts.{short, number_of}

-- a name that is among names has a number
first_below : {X : Type 0} (p : X → Bool) (xs : List X) → list_any p xs ≡ true → position_or_len p xs < length xs
first_below p [] h = absurd cc
first_below p (x ∷ xs) h = pick (p x) h (first_below p xs)
  where
    pick : (b : Bool) → (b || list_any p xs) ≡ true → (list_any p xs ≡ true → position_or_len p xs < length xs) → cond (not b) (1 + position_or_len p xs) 0 < suc (length xs)
    pick true or more = omega arith
    pick false or more = let lt = more or in omega (arith, lt)

pub number_found : (names : List (List ℕ)) (name : List ℕ) → is_among names name ≡ true → (i : ℕ) × (number_in names name ≡ Some i) × (i < length names)
number_found names name h =
    let i = position_or_len (same name) names in
    let lt = first_below (same name) names h in
    (i, ap (λ b. cond b (Some i) None) (lt-ltb i (length names) lt), lt)

-- a number within the limits fits 16 bits
pub short_is : (i : ℕ) → i ≤ 65535 → short i ≡ Some i
short_is i le = ap (λ b. cond b (Some i) None) (le-leb i 65535 le)

pub class_is : (o : Option ℕ) (i : ℕ) → o ≡ Some i → i ≤ 65535 → unwrap_or (option_and_then short o) 0 ≡ i
class_is o i e le = ap (λ p. unwrap_or (option_and_then short p) 0) e ∙ ap (λ p. unwrap_or p 0) (short_is i le)

-- the number that is kept is the name's
pub number_kept : (names : List (List ℕ)) (name : List ℕ) (n : ℕ) → number_of names name ≡ Some n → position (same name) names ≡ Some n
number_kept names name n e = option_and_then_some short (number_in names name) n e (λ i at is. at ∙ ap (λ k. Some k) (cond_some (nat_le i 65535) i n is).1)

-- ---- how many actor classes there are

actors_counted : (ks : List ClassTree) → length (filter_map as_actor ks) ≤ count_by is_counted ks
actors_counted [] = omega arith
actors_counted (ASystem s ∷ ks) = let more = actors_counted ks in let both = sum_by-cons (λ k. cond (is_counted k) 1 0) (ASystem s) ks in omega (arith, more, both)
actors_counted (ASubsystem s ∷ ks) = let more = actors_counted ks in let both = sum_by-cons (λ k. cond (is_counted k) 1 0) (ASubsystem s) ks in omega (arith, more, both)
actors_counted (AnActor a ∷ ks) = let more = actors_counted ks in let both = sum_by-cons (λ k. cond (is_counted k) 1 0) (AnActor a) ks in omega (arith, more, both)
actors_counted (AProtocol p ∷ ks) = let more = actors_counted ks in let both = sum_by-cons (λ k. cond (is_counted k) 1 0) (AProtocol p) ks in omega (arith, more, both)
actors_counted (AData d ∷ ks) = let more = actors_counted ks in let both = sum_by-cons (λ k. cond (is_counted k) 1 0) (AData d) ks in omega (arith, more, both)

few_number : (n : ℕ) → nat_le n 60000 ≡ true → n ≤ 60000
few_number n h = grind (arith, nat_tests)

-- a model within the limits has few actor classes
pub actors_few : (m : ModelTree) → has_few_parts m ≡ true → length (actors m) ≤ 60000
unfolding has_few_parts
actors_few m h =
    let few = few_number (count_by is_counted m.classes) (and_parts (classes_are_few m.classes) (list_all parts_are_few m.classes) (and_parts (classes_are_few m.classes && list_all parts_are_few m.classes) (list_all (numbers_are_few m) (actors m)) h).0).0 in
    let counted = actors_counted m.classes in
    omega (arith, few, counted)

pub names_few : (m : ModelTree) → has_few_parts m ≡ true → length (actor_names m) ≤ 60000
unfolding actor_names_in
names_few m h = let few = actors_few m h in let same_length = length-map (actors m) (λ (a : ActorTree). a.name) in omega (arith, few, same_length)
