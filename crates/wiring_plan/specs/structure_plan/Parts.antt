-- What the parts of a class are, by number.
use Rattle.std.specs.Prelude.{ℕ, min, nat_le, List, Option, Some, None, option_map, option_and_then, slice_get, unwrap_or, if◌then◌else◌}
use Rattle.room_ast.specs.declared.actor.Binding.{Binding}
use Rattle.room_ast.specs.declared.actor.LayerConnection.{LayerConnection}
use Rattle.room_ast.specs.declared.actor.Places.{Places}
use Rattle.room_ast.specs.declared.actor.Places.TheVariants as places
use Rattle.room_ast.specs.declared.actor.Side.{Side}
use Rattle.room_ast.specs.declared.actor.Side.TheVariants as sides
use Rattle.room_ast.specs.declared.model_parts.entries.PortEntry.{PortEntry}
use Rattle.room_ast.specs.declared.model_parts.entries.ReferenceEntry.{ReferenceEntry}
use Rattle.room_ast.specs.model_parts.Classes.{number_in}
use Rattle.room_ast.specs.model_parts.References.{count_of}
use Rattle.check_tables.specs.declared.class_tables.container.Container.{Container}
use Rattle.wiring_plan.specs.declared.structure_plan.plan.SidePlan.{SidePlan}
use Rattle.wiring_plan.specs.declared.structure_plan.plan.SidePlan.TheVariants.{Own, Inner}
use Rattle.wiring_plan.specs.declared.structure_plan.plan.BindingPlan.{BindingPlan}
use Rattle.wiring_plan.specs.declared.structure_plan.plan.LayerPlan.{LayerPlan}
use Rattle.wiring_plan.specs.declared.structure_plan.plan.PlacesPlan.{PlacesPlan}
use Rattle.wiring_plan.specs.declared.structure_plan.plan.PlacesPlan.TheVariants.{One, Number, Any}
use Rattle.wiring_plan.specs.declared.structure_plan.plan.PortPlan.{PortPlan}
use Rattle.wiring_plan.specs.declared.structure_plan.plan.ReferencePlan.{ReferencePlan}

-- A number of 16 bits; none for a larger one, which no class, port or reference of a model within the limits has.
abbrev pub short : ℕ → Option ℕ
short n = if nat_le n 65535 then Some n else None

-- A count of 32 bits; the largest one for a larger one, which no reference or port of a model within the limits has.
abbrev pub count32 : ℕ → ℕ
count32 n = min n 4294967295

-- The number under which a name stands among names.
abbrev pub number_of : List (List ℕ) → List ℕ → Option ℕ
number_of names name = option_and_then short (number_in names name)

-- How many places a port has, from its brackets.
abbrev pub places_plan : Option Places → PlacesPlan
places_plan None = One
places_plan (Some (places.Number n)) = Number (count32 n)
places_plan (Some places.Any) = Any

abbrev pub port_plan : PortEntry → PortPlan
port_plan p = record { kind = p.kind; places = places_plan p.places; protocol = option_and_then short p.protocol }

-- A reference; its class is known in a model that breaks no rule.
abbrev pub reference_plan : ReferenceEntry → ReferencePlan
reference_plan r = record { class = unwrap_or (option_and_then short r.class) 0; kind = r.kind; count = count32 (count_of r) }

-- What the class of a reference, by the reference's number, knows of its ports.
abbrev pub class_behind : List Container → Container → ℕ → Option Container
class_behind actors c r = option_and_then (λ (e : ReferenceEntry). option_and_then (slice_get actors) e.class) (slice_get c.references r)

-- The number of a port in the class of a reference.
abbrev pub port_behind : List Container → Container → ℕ → List ℕ → Option ℕ
port_behind actors c r name = option_and_then (λ (k : Container). number_of k.port_names name) (class_behind actors c r)

-- The port of a reference that a side of a binding names.
abbrev pub inner_side : List Container → Container → List ℕ → ℕ → Option SidePlan
inner_side actors c port r = option_map (λ p. Inner r p) (port_behind actors c r port)

-- What a side of a binding names, if there are such names. The first arguments are the actor classes and the class that has the binding.
abbrev pub side_plan : List Container → Container → Side → Option SidePlan
side_plan actors c (sides.Own name) = option_map (λ p. Own p) (number_of c.port_names name)
side_plan actors c (sides.Inner reference port) = option_and_then (inner_side actors c port) (number_of c.reference_names reference)

-- Two sides as a binding, where both are known.
abbrev pub joined : Option SidePlan → Option SidePlan → Option BindingPlan
joined (Some left) (Some right) = Some (record { left = left; right = right })
joined (Some left) None = None
joined None right = None

abbrev pub binding_plan : List Container → Container → Binding → Option BindingPlan
binding_plan actors c b = joined (side_plan actors c b.left) (side_plan actors c b.right)

-- The service of a provider, for the access points below a reference.
abbrev pub layer_to : List Container → Container → List ℕ → ℕ → ℕ → Option LayerPlan
layer_to actors c service reference provider =
    option_map (λ s. record { reference = reference; provider = provider; service = s }) (port_behind actors c provider service)

abbrev pub layer_from : List Container → Container → LayerConnection → ℕ → Option LayerPlan
layer_from actors c l reference = option_and_then (layer_to actors c l.service reference) (number_of c.reference_names l.provider)

-- What a layer connection names, if there are such names.
abbrev pub layer_plan : List Container → Container → LayerConnection → Option LayerPlan
layer_plan actors c l = option_and_then (layer_from actors c l) (number_of c.reference_names l.reference)
