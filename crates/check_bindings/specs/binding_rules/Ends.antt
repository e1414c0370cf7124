-- What the sides of bindings name.
use Rattle.std.specs.Prelude.{Bool, true, false, List, Option, Some, None, option_and_then, if◌then◌else◌}
use Rattle.room_ast.specs.declared.actor.Places.{Places}
use Rattle.room_ast.specs.declared.actor.Places.TheVariants as places
use Rattle.room_ast.specs.declared.actor.Side.{Side}
use Rattle.room_ast.specs.declared.actor.Side.TheVariants as sides
use Rattle.room_ast.specs.model_parts.Ports.{is_interface_port, is_bound_inside, conjugated_inside}
use Rattle.room_ast.specs.model_parts.References.{is_replicated}
use Rattle.room_ast.specs.declared.model_parts.entries.PortEntry.{PortEntry}
use Rattle.room_ast.specs.declared.model_parts.entries.ReferenceEntry.{ReferenceEntry}
use Rattle.check_tables.specs.declared.class_tables.container.Container.{Container}
use Rattle.check_bindings.specs.declared.binding_rules.ends.BindingEnd.{BindingEnd}
use Rattle.check_bindings.specs.binding_rules.Parts.{port_named, reference_named, port_behind}

-- Whether a port has `[*]`.
abbrev pub is_any : Option Places → Bool
is_any None = false
is_any (Some places.Any) = true
is_any (Some (places.Number n)) = false

-- A port of the class itself, as a binding of the class sees it: a relay port, from inside, or an internal end port. Its other ports are not bound there.
abbrev pub own_end : PortEntry → Option BindingEnd
own_end p = if is_bound_inside p.kind then Some (record { protocol = p.protocol; conjugated = conjugated_inside p; any_places = is_any p.places; replicated = false }) else None

-- A port of the class of a reference, as it is declared: a port of the Interface. Its other ports are not bound from outside.
abbrev pub inner_end : Bool → PortEntry → Option BindingEnd
inner_end replicated p = if is_interface_port p.kind then Some (record { protocol = p.protocol; conjugated = p.conjugated; any_places = is_any p.places; replicated = replicated }) else None

-- What a side of a binding names, if there is such a port. The first two arguments are the actor classes and the class that has the binding.
abbrev pub end_of : List Container → Container → Side → Option BindingEnd
end_of actors c (sides.Own name) = option_and_then own_end (port_named c name)
end_of actors c (sides.Inner reference port) =
    option_and_then (λ (r : ReferenceEntry). option_and_then (inner_end (is_replicated r)) (port_behind actors r port)) (reference_named c reference)
