-- Flat classes, taken one after another.
use Rattle.std.specs.Prelude.{ℕ, ◌+◌, ◌-◌, nat_eq, Bool, true, false, List, [], ◌∷◌, length, map, Option, Some, None, option_map, slice_get, slice_set, if◌then◌else◌}
use Rattle.std.specs.Option.{option_and_then}
use Rattle.room_ast.specs.Trees.{ClassTree, AnActor, ActorTree}
use Rattle.room_ast.specs.Tokens.{actor_class}
use Rattle.room_ast.specs.model_parts.Classes.{number_in}
use Rattle.derived_classes.specs.Derived.{derived, refines_known}
use Rattle.room_inherit.specs.Flat.{actor_at}

-- What stands for a number, if anything does.
abbrev pub there_at : {T : Type 0} → List (Option T) → ℕ → Option T
there_at xs k = option_and_then (λ x. x) (slice_get xs k)

-- What stands for the base of a class, where these are the names of the classes.
abbrev pub base_there : {T : Type 0} → List (List ℕ) → List (Option T) → ActorTree → Option T
base_there names xs a = option_and_then (there_at xs) (option_and_then (number_in names) a.base)

-- Whether a number has no flat class yet.
abbrev pub is_vacant : Option (Option ActorTree) → Bool
is_vacant None = false
is_vacant (Some None) = true
is_vacant (Some (Some f)) = false

-- The flat classes with one more, unless the number has one.
unfoldable pub put_new : List (Option ActorTree) → ℕ → ActorTree → List (Option ActorTree)
put_new flats k f = if is_vacant (slice_get flats k) then slice_set flats k (Some f) else flats

-- The flat class of a class over its flat base; none where it refines what its base hasn't.
abbrev pub taken_over : ActorTree → Option ActorTree → Option ActorTree
taken_over own None = Some own
taken_over own (Some base) = if refines_known base own then Some (derived base own) else None

-- The flat classes with that of a class, unless it refines what isn't there.
abbrev pub with_actor : List (List ℕ) → List (Option ActorTree) → ℕ → Option ActorTree → Option (List (Option ActorTree))
with_actor names flats k None = Some flats
with_actor names flats k (Some a) = option_map (put_new flats k) (taken_over a (base_there names flats a))

abbrev pub with_class : List (List ℕ) → List ClassTree → List (Option ActorTree) → ℕ → Option (List (Option ActorTree))
with_class names classes flats k = with_actor names flats k (actor_at classes k)

-- How many tokens flat classes have.
abbrev pub counted : List (Option ActorTree) → ℕ
counted [] = 0
counted (None ∷ flats) = counted flats
counted (Some f ∷ flats) = length (actor_class f) + counted flats

-- How many tokens more make them too many for a flat model.
unfoldable pub left_beside : List (Option ActorTree) → ℕ
left_beside flats = 2000001 - counted flats

-- What taking them comes to: the flat classes, or that some class refines what its base hasn't, or that they have too many tokens.
pub data FillingTree : Type 0 where
  AllTaken : List (Option ActorTree) → FillingTree
  OneUnknown : FillingTree
  TooLarge : FillingTree

abbrev pub filled_on : (List (Option ActorTree) → FillingTree) → Option (List (Option ActorTree)) → FillingTree
filled_on next None = OneUnknown
filled_on next (Some flats) = if nat_eq (left_beside flats) 0 then TooLarge else next flats

-- The flat classes with those of these numbers.
abbrev pub filled : List (List ℕ) → List ClassTree → List ℕ → List (Option ActorTree) → FillingTree
filled names classes [] flats = AllTaken flats
filled names classes (k ∷ ks) flats = filled_on (filled names classes ks) (with_class names classes flats k)

-- Nothing yet for any class.
abbrev pub none_taken : {T : Type 0} → List ClassTree → List (Option T)
none_taken classes = map (λ c. None) classes

-- A class, or the flat class that was taken for it.
abbrev pub replaced_by : ClassTree → Option ActorTree → ClassTree
replaced_by c None = c
replaced_by c (Some f) = AnActor f

abbrev pub replaced : List ClassTree → List (Option ActorTree) → List ClassTree
replaced [] fs = []
replaced (c ∷ cs) [] = c ∷ cs
replaced (c ∷ cs) (f ∷ fs) = replaced_by c f ∷ replaced cs fs

-- The classes with a flat class in the place of the class of a number, if there is one.
abbrev pub put_at : List ClassTree → ℕ → Option ActorTree → List ClassTree
put_at cs k None = cs
put_at cs k (Some f) = slice_set cs k (AnActor f)
