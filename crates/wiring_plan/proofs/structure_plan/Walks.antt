-- A walk with the parts in step makes of each class what it makes of the class's own part.
use Rattle.std.proofs.Common.{◌≡◌, ◌∙◌, ℕ, Bool, true, false, cond, List, [], ◌∷◌, map, Option, Some, None, refl, sym, ap, subst}
use Rattle.std.specs.Prelude.{option_map, unwrap_or}
use Rattle.std.specs.List.{filter_map, cons_option}
use Rattle.std.specs.Option.{option_map_or}
use Rattle.name_tables.specs.name_numbers.Names.{same}
use Rattle.room_ast.specs.Trees.{ModelTree, ActorTree, SubsystemTree}
use Rattle.room_ast.specs.model_parts.Classes.{as_actor, as_subsystem, systems, subsystems, wired_name, actor_names, protocol_names}
use Rattle.room_ast.specs.model_parts.Ports.{structure_of}
use Rattle.check_tables.specs.class_tables.Containers.{tables_of, tables_with, class_names, actor_containers, subsystem_containers, actor_container, subsystem_container}
use Rattle.check_tables.specs.declared.class_tables.container.Container.{Container}
use Rattle.check_tables.specs.declared.class_tables.tables.Tables.{Tables}
use Rattle.wiring_plan.specs.structure_plan.Plans.{plan_of, actor_plan, subsystem_plan, no_plan}
use Rattle.wiring_plan.specs.structure_plan.Steps.{first_named, made_first, made, found_first, found}
use Rattle.wiring_plan.specs.structure_plan.Walked.{plan_in}
use Rattle.wiring_plan.specs.declared.structure_plan.plan.ClassPlan.{ClassPlan}

made_next : {X Y P : Type 0} (kind : X → Option Y) (make : Container → Y → P) (parts : Y → Container) (xs : List X) (o : Option Y) (ys : List Y) → made kind make xs (map parts ys) ≡ map (λ y. make (parts y) y) ys
    → made_first make (made kind make xs) o (map parts (cons_option o ys)) ≡ map (λ y. make (parts y) y) (cons_option o ys)
made_next kind make parts xs None ys rest = rest
made_next {X} {Y} {P} kind make parts xs (Some y) ys rest = ap (λ (ps : List P). make (parts y) y ∷ ps) rest

pub made_all : {X Y P : Type 0} (kind : X → Option Y) (make : Container → Y → P) (parts : Y → Container) (xs : List X) → made kind make xs (map parts (filter_map kind xs)) ≡ map (λ y. make (parts y) y) (filter_map kind xs)
made_all kind make parts [] = refl
made_all kind make parts (x ∷ xs) = made_next kind make parts xs (kind x) (filter_map kind xs) (made_all kind make parts xs)

found_next : {X P : Type 0} (kind : X → Option SubsystemTree) (name : List ℕ) (make : Container → SubsystemTree → P) (parts : SubsystemTree → Container) (xs : List X) (o : Option SubsystemTree) (ys : List SubsystemTree)
    → found kind name make xs (map parts ys) ≡ option_map (λ s. make (parts s) s) (first_named name ys)
    → found_first name make (found kind name make xs) o (map parts (cons_option o ys)) ≡ option_map (λ s. make (parts s) s) (first_named name (cons_option o ys))
found_next kind name make parts xs None ys rest = rest
found_next {X} {P} kind name make parts xs (Some s) ys rest = pick (same name s.name)
  where
    pick : (b : Bool) → cond b (Some (make (parts s) s)) (found kind name make xs (map parts ys)) ≡ option_map (λ s'. make (parts s') s') (cond b (Some s) (first_named name ys))
    pick true = refl
    pick false = rest

pub found_all : {X P : Type 0} (kind : X → Option SubsystemTree) (name : List ℕ) (make : Container → SubsystemTree → P) (parts : SubsystemTree → Container) (xs : List X)
    → found kind name make xs (map parts (filter_map kind xs)) ≡ option_map (λ s. make (parts s) s) (first_named name (filter_map kind xs))
found_all kind name make parts [] = refl
found_all kind name make parts (x ∷ xs) = found_next kind name make parts xs (kind x) (filter_map kind xs) (found_all kind name make parts xs)

pub or_of_map : {X P : Type 0} (f : X → P) (o : Option X) (none : P) → unwrap_or (option_map f o) none ≡ option_map_or f o none
or_of_map f None none = refl
or_of_map f (Some x) none = refl

-- the plan of the wired class, from what the walk finds under its name
wired_is : {X P : Type 0} (f : X → P) (found_by : List ℕ → Option P) (first_by : List ℕ → Option X) (none : P) → ((name : List ℕ) → found_by name ≡ option_map f (first_by name)) → (name : Option (List ℕ))
    → option_map_or (λ n. unwrap_or (found_by n) none) name none ≡ option_map_or f (option_map_or first_by name None) none
wired_is f found_by first_by none each None = refl
wired_is {X} {P} f found_by first_by none each (Some n) = ap (λ (o : Option P). unwrap_or o none) (each n) ∙ or_of_map f (first_by n) none

own_plan : (m : ModelTree) → plan_in (tables_of m).actors (tables_of m).subsystems m.classes ≡ plan_of m
unfolding plan_of tables_with class_names actor_containers subsystem_containers
own_plan m =
    let actors = (tables_of m).actors in
    let plans = made_all as_actor (λ c (a : ActorTree). actor_plan actors c (structure_of a)) (actor_container (protocol_names m) (actor_names m)) m.classes in
    let named = λ (name : List ℕ). found_all as_subsystem name (λ c (s : SubsystemTree). subsystem_plan actors c s.items) (subsystem_container (actor_names m)) m.classes in
    let wired =
    wired_is (λ (s : SubsystemTree). subsystem_plan actors (subsystem_container (actor_names m) s) s.items) (λ name. found as_subsystem name (λ c (s : SubsystemTree). subsystem_plan actors c s.items) m.classes (tables_of m).subsystems)
    (λ name. first_named name (subsystems m)) no_plan named (wired_name (systems m))
    in
    ap (λ (cs : List ClassPlan). record { classes = cs; subsystem = (plan_in actors (tables_of m).subsystems m.classes).subsystem }) plans
    ∙ ap (λ (s : ClassPlan). record { classes = (plan_of m).classes; subsystem = s }) wired

pub plan_is : (m : ModelTree) (t : Tables) → t ≡ tables_of m → plan_in t.actors t.subsystems m.classes ≡ plan_of m
plan_is m t e = subst (λ (t' : Tables). plan_in t'.actors t'.subsystems m.classes ≡ plan_of m) (sym e) (own_plan m)
