-- What the bindings of a class take of their sides. It is the same in each container of the class.
use Rattle.std.specs.Prelude.{ℕ, ◌+◌, ◌-◌, ◌*◌, ◌==◌, min, List, [], ◌∷◌, Option, Some, None, slice_get, if◌then◌else◌}
use Rattle.room_kinds.specs.declared.structure.PortKind.{PortKind}
use Rattle.room_kinds.specs.declared.structure.PortKind.TheVariants.{Frame, Relay, End, Internal, Sap, Spp}
use Rattle.wiring_plan.specs.declared.structure_plan.plan.SidePlan.{SidePlan}
use Rattle.wiring_plan.specs.declared.structure_plan.plan.SidePlan.TheVariants.{Own, Inner}
use Rattle.wiring_plan.specs.declared.structure_plan.plan.PlacesPlan.{PlacesPlan}
use Rattle.wiring_plan.specs.declared.structure_plan.plan.PlacesPlan.TheVariants.{One, Number, Any}
use Rattle.wiring_plan.specs.declared.structure_plan.plan.PortPlan.{PortPlan}
use Rattle.wiring_plan.specs.declared.structure_plan.plan.ReferencePlan.{ReferencePlan}
use Rattle.wiring_plan.specs.declared.structure_plan.plan.BindingPlan.{BindingPlan}
use Rattle.wiring_plan.specs.declared.structure_plan.plan.ClassPlan.{ClassPlan}
use Rattle.wiring_plan.specs.declared.structure_plan.plan.StructurePlan.{StructurePlan}
use Rattle.wiring_places.specs.declared.place_rules.stretch.Stretch.{Stretch}
use Rattle.wiring_places.specs.declared.place_rules.stretch.Supply.{Supply}
use Rattle.wiring_places.specs.declared.place_rules.stretch.Supply.TheVariants.{Limited, Growing}
use Rattle.wiring_places.specs.place_rules.Parts.{class_plan}

-- Sides of bindings by number: a port of the class itself has its own number, a port of a reference's class a number from 65,536 on.
abbrev pub side_number : SidePlan → ℕ
side_number (Own port) = port
side_number (Inner reference port) = (reference + 1) * 65536 + port

-- the places of a port at so many slots; a port `[*]` grows, and has none where it is replicated
abbrev pub supply_of_places : ℕ → PlacesPlan → Supply
supply_of_places count One = Limited count
supply_of_places count (Number n) = Limited (count * n)
supply_of_places count Any = if count == 1 then Growing else Limited 0

-- only ports with a number or none pass messages on
abbrev pub supply_of_relay : ℕ → PlacesPlan → Supply
supply_of_relay count One = Limited count
supply_of_relay count (Number n) = Limited (count * n)
supply_of_relay count Any = Limited 0

-- a port of the class itself: a relay port's inside, or an internal end port
abbrev pub own_supply_of : PortKind → PlacesPlan → Supply
own_supply_of Frame places = Limited 0
own_supply_of Relay places = supply_of_relay 1 places
own_supply_of End places = Limited 0
own_supply_of Internal places = supply_of_places 1 places
own_supply_of Sap places = Limited 0
own_supply_of Spp places = Limited 0

abbrev pub own_supply : Option PortPlan → Supply
own_supply None = Limited 0
own_supply (Some port) = own_supply_of port.kind port.places

-- an interface port of a class at so many slots
abbrev pub inner_supply_of : ℕ → PortKind → PlacesPlan → Supply
inner_supply_of count Frame places = Limited 0
inner_supply_of count Relay places = supply_of_relay count places
inner_supply_of count End places = supply_of_places count places
inner_supply_of count Internal places = Limited 0
inner_supply_of count Sap places = Limited 0
inner_supply_of count Spp places = Limited 0

abbrev pub inner_supply : ℕ → Option PortPlan → Supply
inner_supply count None = Limited 0
inner_supply count (Some port) = inner_supply_of count port.kind port.places

abbrev pub reference_supply : StructurePlan → Option ReferencePlan → ℕ → Supply
reference_supply plan None port = Limited 0
reference_supply plan (Some reference) port = inner_supply reference.count (slice_get (class_plan plan reference.class).ports port)

abbrev pub supply : StructurePlan → ClassPlan → SidePlan → Supply
supply plan class (Own port) = own_supply (slice_get class.ports port)
supply plan class (Inner reference port) = reference_supply plan (slice_get class.references reference) port

-- How many places are paired where so many were taken of each side: as many as the side with fewer free ones has. A growing side gets as many new places as the other one has free.
abbrev pub pair_count : Supply → ℕ → Supply → ℕ → ℕ
pair_count (Limited m) i (Limited n) j = min (m - i) (n - j)
pair_count (Limited m) i Growing j = m - i
pair_count Growing i (Limited n) j = n - j
pair_count Growing i Growing j = 0

-- What a binding takes, where so many places of each side, by its number, were taken by earlier ones: the first that are free. No side is paired with itself.
abbrev pub stretch : StructurePlan → ClassPlan → (ℕ → ℕ) → BindingPlan → Stretch
stretch plan class taken b =
    let left = taken (side_number b.left) in
    let right = taken (side_number b.right) in
    record {
      left = left;
      right = right;
      count = if side_number b.left == side_number b.right then 0 else pair_count (supply plan class b.left) left (supply plan class b.right) right;
    }

-- n more places of a side are taken
abbrev pub take_more : (ℕ → ℕ) → ℕ → ℕ → ℕ → ℕ
take_more taken side n other = if other == side then taken other + n else taken other

-- what is taken of each side after a binding
abbrev pub taken_after : (ℕ → ℕ) → BindingPlan → ℕ → ℕ → ℕ
taken_after taken b n = take_more (take_more taken (side_number b.left) n) (side_number b.right) n

-- what bindings take, in order
unfoldable pub stretches_from : StructurePlan → ClassPlan → (ℕ → ℕ) → List BindingPlan → List Stretch
stretches_from plan class taken [] = []
stretches_from plan class taken (b ∷ bs) = let s = stretch plan class taken b in s ∷ stretches_from plan class (taken_after taken b s.count) bs

-- how much of each side is taken after them
unfoldable pub taken_from : StructurePlan → ClassPlan → (ℕ → ℕ) → List BindingPlan → ℕ → ℕ
taken_from plan class taken [] = taken
taken_from plan class taken (b ∷ bs) = taken_from plan class (taken_after taken b (stretch plan class taken b).count) bs

-- nothing is taken yet
abbrev pub none_taken : ℕ → ℕ
none_taken side = 0

-- what the bindings of a class take
abbrev pub stretches : StructurePlan → ClassPlan → List Stretch
stretches plan class = stretches_from plan class none_taken class.bindings

-- how many places of a side the bindings of a class take together
abbrev pub all_taken : StructurePlan → ClassPlan → ℕ → ℕ
all_taken plan class = taken_from plan class none_taken class.bindings
