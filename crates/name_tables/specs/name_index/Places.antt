-- Maps from names to places in a list of names.
use Rattle.std.specs.Prelude.{◌≡◌, ℕ, ⊤, Box, List, Option, Some, None, box_value, position, if◌then◌else◌}
use Rattle.std.specs.Borrow.{Bor}
use Rattle.indexmap.specs.IndexMap.{IndexMap, get_by}
use Rattle.name_tables.specs.name_numbers.Names.{same}

-- the place that a map has for a name
abbrev pub place_in : {S : Type 0} → IndexMap (Bor (List ℕ)) ℕ S → List ℕ → Option ℕ
place_in m name = get_by (λ (k : Bor (List ℕ)). same name k.now) m

-- each name has the first place at which it stands in the list, and no other name has one
abbrev pub FindsFirst : {S : Type 0} → IndexMap (Bor (List ℕ)) ℕ S → List (List ℕ) → Type 0
FindsFirst m names = (name : List ℕ) → place_in m name ≡ position (same name) names

-- an earlier place, or else this one
abbrev pub earlier_or : Option ℕ → Option ℕ → Option ℕ
earlier_or (Some old) place = Some old
earlier_or None place = place

-- the name has the place, unless it had one, and every other name has what it had
abbrev pub NotesFirst : {S : Type 0} → IndexMap (Bor (List ℕ)) ℕ S → IndexMap (Bor (List ℕ)) ℕ S → List ℕ → ℕ → Type 0
NotesFirst old new name place = (q : List ℕ) → place_in new q ≡ earlier_or (place_in old q) (if same q name then Some place else None)

-- a table, where there is one, has the first place of each name
abbrev pub FindsByTable : {S Z : Type 0} → Option (Box (IndexMap (Bor (List ℕ)) ℕ S) Z) → List (List ℕ) → Type 0
FindsByTable None names = ⊤
FindsByTable (Some table) names = FindsFirst (box_value table) names

-- the first place at which a reference to the name stands
abbrev pub place_called : List ℕ → List (Bor (List ℕ)) → Option ℕ
place_called name refs = position (λ (r : Bor (List ℕ)). same name r.now) refs
