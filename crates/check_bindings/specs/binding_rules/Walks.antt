-- The rules as one walk over the classes tests them, with what each class knows of its own parts in step.
use Rattle.std.specs.Prelude.{Bool, true, false, List, [], ◌∷◌, Option, Some, None, if◌then◌else◌}
use Rattle.std.specs.Option.{option_map_or}
use Rattle.room_ast.specs.Trees.{ActorTree, SubsystemTree}
use Rattle.room_ast.specs.declared.actor.Binding.{Binding}
use Rattle.room_ast.specs.declared.actor.LayerConnection.{LayerConnection}
use Rattle.check_tables.specs.declared.class_tables.container.Container.{Container}
use Rattle.check_bindings.specs.binding_rules.Bindings.{sides_exist, sides_agree, any_places_once}
use Rattle.check_bindings.specs.binding_rules.Layers.{layer_is_known}
use Rattle.check_bindings.specs.binding_rules.Rules.{actor_passes, subsystem_passes}
use Rattle.check_bindings.specs.declared.binding_rules.rule.ConnectionRule.{ConnectionRule}
use Rattle.check_bindings.specs.declared.binding_rules.rule.ConnectionRule.TheVariants as rules

-- Whether a rule holds of a binding.
abbrev pub binding_holds : ConnectionRule → List Container → Container → Binding → Bool
binding_holds rules.SidesExist actors c b = sides_exist actors c b
binding_holds rules.SidesAgree actors c b = sides_agree actors c b
binding_holds rules.AnyPlacesOnce actors c b = any_places_once actors c b
binding_holds rules.LayersKnown actors c b = true

-- Whether a rule holds of a layer connection.
abbrev pub layer_holds : ConnectionRule → List Container → Container → LayerConnection → Bool
layer_holds rules.SidesExist actors c l = true
layer_holds rules.SidesAgree actors c l = true
layer_holds rules.AnyPlacesOnce actors c l = true
layer_holds rules.LayersKnown actors c l = layer_is_known actors c l

-- Whether a rule holds of an actor class.
abbrev pub actor_holds : ConnectionRule → List Container → Container → ActorTree → Bool
actor_holds rule actors = actor_passes (binding_holds rule actors) (layer_holds rule actors)

-- Whether a rule holds of a SubSystemClass.
abbrev pub subsystem_holds : ConnectionRule → List Container → Container → SubsystemTree → Bool
subsystem_holds rule actors = subsystem_passes (binding_holds rule actors) (layer_holds rule actors)

-- What is left of the classes' parts behind a class, if it is one of these classes, and passes with the first of the parts; none where it doesn't pass.
abbrev pub behind : {Y : Type 0} → (Container → Y → Bool) → Option Y → List Container → Option (List Container)
behind holds None parts = Some parts
behind holds (Some y) [] = None
behind holds (Some y) (c ∷ cs) = if holds c y then Some cs else None

-- Whether each of the classes that are of a kind passes, with the parts that stand in its place.
abbrev pub walk : {X Y : Type 0} → (X → Option Y) → (Container → Y → Bool) → List X → List Container → Bool
walk kind holds [] parts = true
walk kind holds (x ∷ xs) parts = option_map_or (walk kind holds xs) (behind holds (kind x) parts) false
