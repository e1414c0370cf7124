-- The walk over the fields below attributes.
use Rattle.std.specs.Prelude.{ℕ, zero, suc, ◌+◌, ◌≤◌, ◌++◌, List, [], ◌∷◌, length, take, map, reverse}
use Rattle.std.specs.List.{flat_map, slice_index_or, sum_by}
use Rattle.name_tables.specs.name_numbers.Names.{names_of}
use Rattle.room_ast.specs.model_parts.Attributes.{ClassNumber}
use Rattle.room_ast.specs.declared.model_parts.entries.TypeEntry.{TypeEntry}
use Rattle.room_ast.specs.declared.model_parts.entries.TypeEntry.TheVariants as types
use Rattle.check_scopes.specs.declared.class_scopes.numbers.Pending.{Pending}
use Rattle.check_scopes.specs.declared.class_scopes.numbers.Walk.{Walk}
use Rattle.check_scopes.specs.class_scopes.Fields.{FieldView, field_view, numbers_below}
use Rattle.check_scopes.specs.class_scopes.Views.{attribute_view}

-- A field that is still to be looked at: how many classes may still be looked into, and how many names of the path stand before its own.
pub record PendingView : Type 0 where
  pub depth : ℕ
  pub before : ℕ
  pub field : FieldView

abbrev pub pending_view : Pending → PendingView
pending_view p = record { depth = p.depth; before = p.before; field = field_view p.field }

abbrev pub pending_at : ℕ → ℕ → FieldView → PendingView
pending_at depth before f = record { depth = depth; before = before; field = f }

-- A walk: the path to the field that was looked at, the fields that are still to be looked at, the next one first, and the numbers that were found.
pub record WalkView : Type 0 where
  pub path : List (List ℕ)
  pub pending : List PendingView
  pub numbers : List ClassNumber

abbrev pub walk_view : Walk → WalkView
walk_view w = record { path = names_of w.path.items; pending = reverse (map pending_view w.pending.items); numbers = map attribute_view w.numbers.items }

-- The fields of a class, if it may be looked into.
abbrev pub opened : ℕ → ℕ → List FieldView → List PendingView
opened zero before fields = []
opened (suc depth) before fields = map (pending_at depth before) fields

-- The path of a field.
abbrev pub path_to : List (List ℕ) → PendingView → List (List ℕ)
path_to path p = take p.before path ++ p.field.name ∷ []

-- A walk whose path leads to a field, which is looked at.
abbrev pub looked_at : List (List FieldView) → PendingView → TypeEntry → WalkView → WalkView
looked_at fields p (types.Number t) w = record w { numbers = w.numbers ++ record { path = w.path; kind = t; initial = p.field.initial } ∷ [] }
looked_at fields p (types.Class n) w = record w { pending = opened p.depth (length w.path) (slice_index_or fields n []) ++ w.pending }
looked_at fields p types.Unknown w = w

-- What a look at a field does, once it is taken from those that are pending.
abbrev pub step_of : List (List FieldView) → PendingView → WalkView → WalkView
step_of fields p w = looked_at fields p p.field.entry (record w { path = path_to w.path p })

-- Each pending field's path goes no further than that of the one before it, and the first one's no further than the walk's.
abbrev pub Falls : ℕ → List PendingView → Type 0
Falls n [] = Unit {0}
Falls n (p ∷ ps) = (p.before ≤ n) × Falls p.before ps

-- The numbers below a pending field.
abbrev pub numbers_at : List (List FieldView) → List (List ℕ) → PendingView → List ClassNumber
numbers_at fields path p = numbers_below p.depth fields (path_to path p) p.field.initial p.field.entry

-- The numbers that a walk finds in the end.
abbrev pub total : List (List FieldView) → WalkView → List ClassNumber
total fields w = w.numbers ++ flat_map (numbers_at fields w.path) w.pending

-- How many looks a field takes.
abbrev pub cost : ℕ → List (List FieldView) → TypeEntry → ℕ
cost depth fields (types.Number t) = 1
cost depth fields types.Unknown = 1
cost zero fields (types.Class n) = 1
cost (suc depth) fields (types.Class n) = 1 + sum_by (λ (f : FieldView). cost depth fields f.entry) (slice_index_or fields n [])

-- How many looks a walk still takes.
abbrev pub looks_left : List (List FieldView) → WalkView → ℕ
looks_left fields w = sum_by (λ (p : PendingView). cost p.depth fields p.field.entry) w.pending
