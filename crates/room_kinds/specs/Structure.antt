-- What the kinds of ports and of actor references say.
use Rattle.std.specs.Prelude.{Bool, true, false}
use Rattle.room_kinds.specs.declared.structure.PortKind.{PortKind}
use Rattle.room_kinds.specs.declared.structure.PortKind.TheVariants as ports
use Rattle.room_kinds.specs.declared.structure.ReferenceKind.{ReferenceKind}
use Rattle.room_kinds.specs.declared.structure.ReferenceKind.TheVariants as references

-- whether a port is an end port, at which the actor's own behaviour works
abbrev pub is_end : PortKind → Bool
is_end ports.Frame = false
is_end ports.Relay = false
is_end ports.End = true
is_end ports.Internal = true
is_end ports.Sap = false
is_end ports.Spp = false

-- whether an actor that lives elsewhere stands at a reference
abbrev pub is_imported : ReferenceKind → Bool
is_imported references.Fixed = false
is_imported references.Optional = false
is_imported references.Imported = true
