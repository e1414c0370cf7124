-- What a request to the name table does, by its kind and its numbers.
use Rattle.std.specs.Prelude.{ℕ, ℤ, pos, ◌==◌, List, [], ◌∷◌, length, Option, Some, None, if◌then◌else◌}
use Rattle.std.specs.Option.{option_map_or}
use Rattle.room_kinds.specs.declared.numbers.Endpoint.{Endpoint}
use Rattle.room_kinds.specs.declared.system.SysKind.{SysKind}
use Rattle.room_kinds.specs.declared.system.SysKind.TheVariants as kinds
use Rattle.room_wiring.specs.declared.tables.Tables.{Tables}
use Rattle.actor_duties.specs.State.{NameTable, Done}
use Rattle.actor_duties.specs.Names.{register, withdraw, same_table}

-- the name that a Register brings
abbrev pub name_in : List ℤ → Option ℕ
name_in (pos name ∷ []) = Some name
name_in _ = None

-- what the name table does at the request of a service point
abbrev pub request_done : Tables → NameTable → SysKind → Endpoint → List ℤ → Done NameTable
request_done t table kinds.Register e numbers =
    option_map_or (λ name. register t e name table) (name_in numbers) (same_table table)
request_done t table kinds.Withdraw e numbers =
    if length numbers == 0 then withdraw t e table else same_table table
request_done t table _ e numbers = same_table table
