-- What the sides of a binding must have in common.
use Rattle.std.specs.Prelude.{ℕ, Bool, true, false, not, ◌&&◌, nat_eq, List, Option, Some, None, is_some}
use Rattle.std.specs.Option.{option_map_or}
use Rattle.room_ast.specs.declared.actor.Binding.{Binding}
use Rattle.check_tables.specs.declared.class_tables.container.Container.{Container}
use Rattle.check_bindings.specs.declared.binding_rules.ends.BindingEnd.{BindingEnd}
use Rattle.check_bindings.specs.binding_rules.Ends.{end_of}

-- Whether both are known and the same.
abbrev pub same_protocol : Option ℕ → Option ℕ → Bool
same_protocol None other = false
same_protocol (Some a) None = false
same_protocol (Some a) (Some b) = nat_eq a b

-- Whether one is conjugated and the other isn't.
abbrev pub are_opposite : Bool → Bool → Bool
are_opposite true b = not b
are_opposite false b = b

-- Two ends have one protocol and opposite directions.
abbrev pub ends_agree : BindingEnd → BindingEnd → Bool
ends_agree l r = same_protocol l.protocol r.protocol && are_opposite l.conjugated r.conjugated

-- An end with `[*]` is no port of a replicated reference.
abbrev pub is_one_port : BindingEnd → Bool
is_one_port e = not (e.any_places && e.replicated)

-- Not both ends have `[*]`.
abbrev pub one_counts : BindingEnd → BindingEnd → Bool
one_counts l r = not (l.any_places && r.any_places)

-- Whether two ends pass a test; ends that don't exist aren't asked.
abbrev pub where_both : (BindingEnd → BindingEnd → Bool) → Option BindingEnd → Option BindingEnd → Bool
where_both test None r = true
where_both test (Some l) None = true
where_both test (Some l) (Some r) = test l r

-- Each side of a binding names a relay port or an internal end port of the class itself, or an interface port of one of its references.
abbrev pub sides_exist : List Container → Container → Binding → Bool
sides_exist actors c b = is_some (end_of actors c b.left) && is_some (end_of actors c b.right)

-- The sides of a binding have one protocol and opposite directions.
abbrev pub sides_agree : List Container → Container → Binding → Bool
sides_agree actors c b = where_both ends_agree (end_of actors c b.left) (end_of actors c b.right)

-- A side with `[*]` names no replicated reference, and not both sides have `[*]`.
abbrev pub any_places_once : List Container → Container → Binding → Bool
any_places_once actors c b =
    option_map_or is_one_port (end_of actors c b.left) true && option_map_or is_one_port (end_of actors c b.right) true && where_both one_counts (end_of actors c b.left) (end_of actors c b.right)
