-- Walks over the classes of a kind, with what each class knows of its own parts in step.
use Rattle.std.specs.Prelude.{ℕ, List, [], ◌∷◌, Option, Some, None, if◌then◌else◌}
use Rattle.name_tables.specs.name_numbers.Names.{same}
use Rattle.room_ast.specs.Trees.{SubsystemTree}
use Rattle.check_tables.specs.declared.class_tables.container.Container.{Container}

-- The first subsystem class with this name.
abbrev pub first_named : List ℕ → List SubsystemTree → Option SubsystemTree
first_named name [] = None
first_named name (s ∷ ss) = if same name s.name then Some s else first_named name ss

-- What a class that may be of a kind makes, and then what the others make.
abbrev pub made_first : {Y P : Type 0} → (Container → Y → P) → (List Container → List P) → Option Y → List Container → List P
made_first make others None parts = others parts
made_first make others (Some y) [] = []
made_first make others (Some y) (c ∷ cs) = make c y ∷ others cs

-- What the classes of a kind make, each with its part.
abbrev pub made : {X Y P : Type 0} → (X → Option Y) → (Container → Y → P) → List X → List Container → List P
made kind make [] parts = []
made kind make (x ∷ xs) parts = made_first make (made kind make xs) (kind x) parts

-- What a subsystem class makes if it has this name, and else what the others make.
abbrev pub found_first : {P : Type 0} → List ℕ → (Container → SubsystemTree → P) → (List Container → Option P) → Option SubsystemTree → List Container → Option P
found_first name make others None parts = others parts
found_first name make others (Some s) [] = None
found_first name make others (Some s) (c ∷ cs) = if same name s.name then Some (make c s) else others cs

-- What the first subsystem class with this name makes.
abbrev pub found : {X P : Type 0} → (X → Option SubsystemTree) → List ℕ → (Container → SubsystemTree → P) → List X → List Container → Option P
found kind name make [] parts = None
found kind name make (x ∷ xs) parts = found_first name make (found kind name make xs) (kind x) parts
