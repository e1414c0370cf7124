-- A walk with the parts in step asks each class with its own parts.
use Rattle.std.proofs.Common.{◌≡◌, ◌∙◌, ℕ, zero, suc, ◌+◌, Bool, true, false, cond, List, [], ◌∷◌, drop, map, Option, Some, None, refl, sym, ap, subst, arith}
use Rattle.std.specs.Prelude.{◌&&◌, slice_get}
use Rattle.std.specs.List.{list_all, filter_map, cons_option}
use Rattle.std.specs.Option.{option_map_or}
use Rattle.room_ast.specs.Trees.{ModelTree, ClassTree}
use Rattle.room_ast.specs.model_parts.Classes.{as_actor, as_subsystem}
use Rattle.check_tables.specs.class_tables.Containers.{tables_of, tables_with, class_names, actor_containers, subsystem_containers}
use Rattle.check_tables.specs.declared.class_tables.container.Container.{Container}
use Rattle.check_tables.specs.declared.class_tables.tables.Tables.{Tables}
use Rattle.check_bindings.specs.binding_rules.Rules.{each_connection}
use Rattle.check_bindings.specs.binding_rules.Walks.{behind, walk, binding_holds, layer_holds, actor_holds, subsystem_holds}
use Rattle.check_bindings.specs.declared.binding_rules.rule.ConnectionRule.{ConnectionRule}

-- ---- one class, by its number

split_at : {X : Type 0} (xs : List X) (n : ℕ) (x : X) → slice_get xs n ≡ Some x → drop n xs ≡ x ∷ drop (n + 1) xs
split_at [] n x h = absurd cc
split_at {X} (y ∷ ys) zero x h = let is : y ≡ x = cc in ap (λ (z : X). z ∷ ys) is
split_at (y ∷ ys) (suc n) x h = let more : suc n + 1 ≡ suc (n + 1) = omega arith in rw more (split_at ys n x h)

none_left : {X : Type 0} (xs : List X) (n : ℕ) → slice_get xs n ≡ None → drop n xs ≡ []
none_left [] zero h = refl
none_left [] (suc n) h = refl
none_left (y ∷ ys) zero h = absurd cc
none_left (y ∷ ys) (suc n) h = none_left ys n h

module _ {Y : Type 0} (holds : Container → Y → Bool) (o : Option Y) (y : Y) (is : o ≡ Some y) (parts : List Container) (number : ℕ) where
  behind_first : (own : Container) (b : Bool) → Some own ≡ slice_get parts number → b ≡ holds own y → cond b (Some (drop (number + 1) parts)) None ≡ behind holds o (drop number parts)
  behind_first own b found test =
      let split : drop number parts ≡ own ∷ drop (number + 1) parts = split_at parts number own (sym found) in
      ap (λ (b' : Bool). cond b' (Some (drop (number + 1) parts)) None) test ∙ sym (ap (λ (o' : Option Y). behind holds o' (drop number parts)) is ∙ ap (behind holds (Some y)) split)

  pub behind_passed : (own : Container) (b : Bool) → Some own ≡ slice_get parts number → b ≡ holds own y → b ≡ true → Some (drop (number + 1) parts) ≡ behind holds o (drop number parts)
  behind_passed own b found test h = sym (ap (λ (b' : Bool). cond b' (Some (drop (number + 1) parts)) None) h) ∙ behind_first own b found test

  pub behind_failed : (own : Container) (b : Bool) → Some own ≡ slice_get parts number → b ≡ holds own y → b ≡ false → None ≡ behind holds o (drop number parts)
  behind_failed own b found test h = sym (ap (λ (b' : Bool). cond b' (Some (drop (number + 1) parts)) None) h) ∙ behind_first own b found test

  pub behind_none : None ≡ slice_get parts number → None ≡ behind holds o (drop number parts)
  behind_none h = sym (ap (λ (o' : Option Y). behind holds o' (drop number parts)) is ∙ ap (behind holds (Some y)) (none_left parts number (sym h)))

-- ---- all of them

-- a class at the front
walk_next : {X Y : Type 0} (kind : X → Option Y) (holds : Container → Y → Bool) (parts : Y → Container) (xs : List X) (o : Option Y) (ys : List Y) → walk kind holds xs (map parts ys) ≡ list_all (λ y. holds (parts y) y) ys
    → option_map_or (walk kind holds xs) (behind holds o (map parts (cons_option o ys))) false ≡ list_all (λ y. holds (parts y) y) (cons_option o ys)
walk_next kind holds parts xs None ys rest = rest
walk_next kind holds parts xs (Some y) ys rest = pick (holds (parts y) y)
  where
    pick : (b : Bool) → option_map_or (walk kind holds xs) (cond b (Some (map parts ys)) None) false ≡ (b && list_all (λ y. holds (parts y) y) ys)
    pick true = rest
    pick false = refl

pub walk_all : {X Y : Type 0} (kind : X → Option Y) (holds : Container → Y → Bool) (parts : Y → Container) (xs : List X) → walk kind holds xs (map parts (filter_map kind xs)) ≡ list_all (λ y. holds (parts y) y) (filter_map kind xs)
walk_all kind holds parts [] = refl
walk_all kind holds parts (x ∷ xs) = walk_next kind holds parts xs (kind x) (filter_map kind xs) (walk_all kind holds parts xs)

abbrev pub walks : ConnectionRule → List ClassTree → Tables → Bool
walks rule classes t = walk as_actor (actor_holds rule t.actors) classes t.actors && walk as_subsystem (subsystem_holds rule t.actors) classes t.subsystems

own_tables : (rule : ConnectionRule) (m : ModelTree) → walks rule m.classes (tables_of m) ≡ each_connection (binding_holds rule (tables_of m).actors) (layer_holds rule (tables_of m).actors) m
unfolding tables_with class_names actor_containers subsystem_containers
own_tables rule m = rw (walk_all as_actor (actor_holds rule (tables_of m).actors) _ m.classes, walk_all as_subsystem (subsystem_holds rule (tables_of m).actors) _ m.classes) refl

pub walks_are : (rule : ConnectionRule) (m : ModelTree) (t : Tables) → t ≡ tables_of m → walks rule m.classes t ≡ each_connection (binding_holds rule (tables_of m).actors) (layer_holds rule (tables_of m).actors) m
walks_are rule m t e = subst (λ (t' : Tables). walks rule m.classes t' ≡ each_connection (binding_holds rule (tables_of m).actors) (layer_holds rule (tables_of m).actors) m) (sym e) (own_tables rule m)
