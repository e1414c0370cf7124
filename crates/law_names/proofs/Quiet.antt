-- Where a run is quiet at its end, registrations are settled.
use Rattle.std.proofs.Common.{◌≡◌, ℕ, ◌+◌, ◌<◌, ◌≤◌, ◌⊎◌, inl, inr, nat_le, Bool, true, false, if◌then◌else◌, List, [], ◌∷◌, flat_map, length, Option, Some, refl, sym, ap, ◌∙◌, subst, arith}
use Rattle.std.specs.Option.{option_map_or}
use Rattle.std.specs.List.{AllByRecursion, Contains}
use Rattle.std.proofs.lemmas.List.Elements.{All-from_recursion, All-contains}
use Rattle.room_kinds.specs.declared.numbers.Incarnation.{Incarnation}
use Rattle.room_kinds.specs.declared.numbers.Endpoint.{Endpoint}
use Rattle.room_kinds.specs.declared.system.SysKind.TheVariants as kinds
use Rattle.room_wiring.specs.declared.tables.Tables.{Tables}
use Rattle.actor_merge.specs.Parties.{Line}
use Rattle.actor_merge.specs.World.{World, Placed, IsQuiet, start, Runs}
use Rattle.actor_duties.specs.Words.{owner_of, whose, is_endpoint}
use Rattle.actor_duties.specs.State.{Registration, Unnamed, Asked, Registered, Leaving, User, Provider, Service, NameTable}
use Rattle.actor_duties.specs.Lives.{is_live}
use Rattle.actor_duties.specs.Names.{is_provider}
use Rattle.actor_duties.specs.Links.{point_of}
use Rattle.actor_world.specs.Behaviour.{Behaviour}
use Rattle.actor_world.specs.Body.{Body}
use Rattle.actor_world.specs.Start.{plant_of}
use Rattle.actor_world.specs.Agreed.{lives_in}
use Rattle.actor_world.specs.Directories.{IsOpen, AreOpen}
use Rattle.law_agreement.specs.Imports.{OwnersAreThere}
use Rattle.law_agreement.specs.Trails.{trail}
use Rattle.law_agreement.proofs.Agreeing.{quiet_trail}
use Rattle.law_names.specs.Registrations.{RegistersPoints, is_point_port, is_point, stage_by, asked, replied, uses, stands, IsRow, stage_in, registration_in, IsRegistered, AreSettled}
use Rattle.law_names.proofs.Standing.{self_endpoint}
use Rattle.law_names.proofs.RowRuns.{IsRowed, runs_rowed}

weaken : {X : Type 0} (P Q : X → Type 0) → ((x : X) → P x → Q x) → (xs : List X) → AllByRecursion P xs → AllByRecursion Q xs
weaken P Q f [] h = tt
weaken P Q f (x ∷ xs) h = (f x h.0, weaken P Q f xs h.1)

-- who is among the users of a service stands in the table
users_use : (us : List User) → AllByRecursion (λ (u : User). 1 ≤ uses u.at us) us
users_use [] = tt
users_use (u ∷ us) = (here, weaken (λ (v : User). 1 ≤ uses v.at us) (λ (v : User). 1 ≤ uses v.at (u ∷ us)) more us (users_use us))
  where
    here : 1 ≤ (if is_endpoint u.at u.at then 1 else 0) + uses u.at us
    here = go (is_endpoint u.at u.at) (self_endpoint u.at)
      where
        go : (b : Bool) → b ≡ true → 1 ≤ (if b then 1 else 0) + uses u.at us
        go true h = omega arith
        go false h = absurd cc

    more : (v : User) → 1 ≤ uses v.at us → 1 ≤ uses v.at (u ∷ us)
    more v h = omega (arith, h)

abbrev UsersStand : NameTable → Service → Type 0
UsersStand table s = AllByRecursion (λ (u : User). 1 ≤ stands u.at table) s.users

users_stand : (table : NameTable) → AllByRecursion (UsersStand table) table
users_stand [] = tt
users_stand (s ∷ rest) = (
  weaken (λ (u : User). 1 ≤ uses u.at s.users) (λ (u : User). 1 ≤ stands u.at (s ∷ rest)) (λ u h. omega (arith, h)) s.users (users_use s.users),
  weaken (UsersStand rest) (UsersStand (s ∷ rest)) (λ x h. weaken (λ (u : User). 1 ≤ stands u.at rest) (λ (u : User). 1 ≤ stands u.at (s ∷ rest)) (λ u k. omega (arith, k)) x.users h) rest (users_stand rest),
)

-- and so does a provider
abbrev ProviderStands : NameTable → Service → Type 0
ProviderStands table s = (p : Provider) → s.provider ≡ Some p → 1 ≤ stands p.at table

providers_stand : (table : NameTable) → AllByRecursion (ProviderStands table) table
providers_stand [] = tt
providers_stand (s ∷ rest) = (here, weaken (ProviderStands rest) (ProviderStands (s ∷ rest)) (λ x h p is. (let k = h p is in omega (arith, k))) rest (providers_stand rest))
  where
    here : (p : Provider) → s.provider ≡ Some p → 1 ≤ stands p.at (s ∷ rest)
    here p is =
        let one : is_provider p.at s ≡ true = ap (λ (o : Option Provider). option_map_or (λ (q : Provider). is_endpoint q.at p.at) o false) is ∙ self_endpoint p.at in
        let count : ◌≡◌ {A = ℕ} (if is_provider p.at s then 1 else 0) 1 = ap (λ (b : Bool). if b then 1 else 0) one in
        omega (arith, count)

user_stands : (table : NameTable) (s : Service) (u : User) → Contains table s → Contains s.users u → 1 ≤ stands u.at table
user_stands table s u there among =
    All-contains (λ (u : User). 1 ≤ stands u.at table) s.users u
    (All-from_recursion (λ (u : User). 1 ≤ stands u.at table) s.users
    (All-contains (UsersStand table) table s (All-from_recursion (UsersStand table) table (users_stand table)) there)) among

provider_stands : (table : NameTable) (s : Service) (p : Provider) → Contains table s → s.provider ≡ Some p → 1 ≤ stands p.at table
provider_stands table s p there is = All-contains (ProviderStands table) table s (All-from_recursion (ProviderStands table) table (providers_stand table)) there p is

-- a row with nothing on the way, of a live actor's point
settled_row : (made : Bool) (r : Registration) (n : ℕ) → IsRow (stage_by true true made r) [] n [] → ((r ≡ Unnamed) × (n ≡ 0)) ⊎ ((r ≡ Registered) × (n ≡ 1))
settled_row made Unnamed n h = inl (refl, h.1)
settled_row made Registered n h = inr (refl, h.1)
settled_row made Asked n (inl h) = (let q : [] ≡ kinds.Register ∷ [] = h.0 in absurd cc)
settled_row made Asked n (inr (inl h)) = (let q : ◌≡◌ {A = List ℕ} [] (0 ∷ []) = h.2 in absurd cc)
settled_row made Asked n (inr (inr h)) = (let q : ◌≡◌ {A = List ℕ} [] (8 ∷ []) = h.2 in absurd cc)
settled_row made Leaving n (inl h) = (let q : [] ≡ kinds.Withdraw ∷ [] = h.0 in absurd cc)
settled_row made Leaving n (inr h) = (let q : ◌≡◌ {A = List ℕ} [] (0 ∷ []) = h.2 in absurd cc)

-- who stands in the table then is registered
standing_row : (p q made : Bool) (r : Registration) (n : ℕ) → 1 ≤ n → IsRow (stage_by p q made r) [] n [] → (q ≡ true) × (r ≡ Registered)
standing_row false q made r n some h = absurd (omega (arith, some, h.1))
standing_row true true made r n some h = go (settled_row made r n h)
  where
    go : ((r ≡ Unnamed) × (n ≡ 0)) ⊎ ((r ≡ Registered) × (n ≡ 1)) → (true ≡ true) × (r ≡ Registered)
    go (inl k) = absurd (omega (arith, some, k.1))
    go (inr k) = (refl, k.0)
standing_row true false true r n some (inl h) = absurd (omega (arith, some, h.1))
standing_row true false true r n some (inr (inl h)) = (let q : [] ≡ kinds.Withdraw ∷ [] = h.0 in absurd cc)
standing_row true false true r n some (inr (inr h)) = (let q : [] ≡ kinds.Register ∷ (kinds.Withdraw ∷ []) = h.0 in absurd cc)
standing_row true false false r n some h = absurd (omega (arith, some, h.1))

-- what is no point doesn't stand in it
pointless_row : (q made : Bool) (r : Registration) (n : ℕ) → IsRow (stage_by false q made r) [] n [] → n ≡ 0
pointless_row q made r n h = h.1

module _ {M : Type 0} (model : Behaviour M) (clear : IsOpen model) (t : Tables) (points : RegistersPoints t model) (lines : List Line) (clear_lines : AreOpen lines) (there : OwnersAreThere t) where
  module _ (end : World (Body M)) (inv : IsRowed model clear t points lines clear_lines end) (quiet : IsQuiet (plant_of model t lines) end) where
    -- nothing is on the way
    quiet_row : (e : Endpoint) → IsRow (stage_in t end e) [] (stands e (end.controllers 0).body.table) []
    quiet_row e =
        let owner : owner_of t e.slot.0 < length t.controllers = there e.slot.0 in
        let zero : 0 < length t.controllers = omega (arith, owner) in
        subst (λ z. IsRow (stage_in t end e) z (stands e (end.controllers 0).body.table) [])
        (ap (flat_map (asked e)) (quiet_trail model t lines end quiet (owner_of t e.slot.0) 0 owner zero))
        (subst (λ z. IsRow (stage_in t end e) (flat_map (asked e) (trail end (owner_of t e.slot.0) 0)) (stands e (end.controllers 0).body.table) z)
        (ap (flat_map (replied e)) (quiet_trail model t lines end quiet 0 (owner_of t e.slot.0) zero owner)) (inv.rows e))

    registered : (e : Endpoint) → 1 ≤ stands e (end.controllers 0).body.table → IsRegistered t end e
    registered e some =
        standing_row (is_point t e) (is_live (end.controllers (owner_of t e.slot.0)).body.frame.lives (whose e))
        (nat_le e.generation.0 ((end.controllers (owner_of t e.slot.0)).body.frame.lives.generation e.slot.0)) (registration_in t end e) (stands e (end.controllers 0).body.table) some (quiet_row e)

    settled : (x : Incarnation) (p : ℕ) → lives_in t end x ≡ true
        → ((registration_in t end (point_of x p) ≡ Unnamed) × (stands (point_of x p) (end.controllers 0).body.table ≡ 0))
        ⊎ ((registration_in t end (point_of x p) ≡ Registered) × (stands (point_of x p) (end.controllers 0).body.table ≡ 1))
    settled x p lives = go (is_point_port t x.slot.0 p) refl (inv.here (owner_of t x.slot.0) x.slot.0 p)
      where
        made : Bool
        made = nat_le x.generation.0 ((end.controllers (owner_of t x.slot.0)).body.frame.lives.generation x.slot.0)

        r : Registration
        r = registration_in t end (point_of x p)

        n : ℕ
        n = stands (point_of x p) (end.controllers 0).body.table

        row : IsRow (stage_by (is_point_port t x.slot.0 p) (lives_in t end x) (nat_le x.generation.0 ((end.controllers (owner_of t x.slot.0)).body.frame.lives.generation x.slot.0))
            (registration_in t end (point_of x p))) [] (stands (point_of x p) (end.controllers 0).body.table) []
        row = quiet_row (point_of x p)

        go : (b : Bool) → is_point_port t x.slot.0 p ≡ b
            → (registration_in t end (point_of x p) ≡ Unnamed)
            ⊎ (((end.controllers (owner_of t x.slot.0)).body.frame.lives.lives x.slot.0 ≡ true) × (is_point_port t x.slot.0 p ≡ true))
            → ((registration_in t end (point_of x p) ≡ Unnamed) × (stands (point_of x p) (end.controllers 0).body.table ≡ 0))
            ⊎ ((registration_in t end (point_of x p) ≡ Registered) × (stands (point_of x p) (end.controllers 0).body.table ≡ 1))
        go true point h =
            settled_row made r n
            (subst (λ b. IsRow (stage_by true b made r) [] n []) lives (subst (λ b. IsRow (stage_by b (lives_in t end x) made r) [] n []) point row))
        go false point (inl none) = inl (none, pointless_row (lives_in t end x) made r n (subst (λ b. IsRow (stage_by b (lives_in t end x) made r) [] n []) point row))
        go false point (inr some) = (let q : true ≡ false = sym some.1 ∙ point in absurd cc)

    are_settled : AreSettled t end
    are_settled =
        record {
          users = λ s u here among. registered u.at (user_stands (end.controllers 0).body.table s u here among);
          providers = λ s p here is. registered p.at (provider_stands (end.controllers 0).body.table s p here is);
          settled = settled;
        }

  pub quiet_registrations : (xs : List Placed) (end : World (Body M)) → Runs (plant_of model t lines) (start (plant_of model t lines)) xs end
      → IsQuiet (plant_of model t lines) end → AreSettled t end
  quiet_registrations xs end r quiet = are_settled end (runs_rowed model clear t points lines clear_lines xs end r) quiet
