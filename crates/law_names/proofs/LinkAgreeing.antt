-- In a sound table what a place is joined to is what the table links it to; so where all is quiet owners and
-- table agree on links.
use Rattle.std.proofs.Common.{◌≡◌, ℕ, ◌+◌, ◌<◌, ◌≤◌, Bool, true, false, if◌then◌else◌, List, [], ◌∷◌, ◌++◌, length, Option, Some, None, refl, sym, ap, ◌∙◌, subst, arith, ◌⊎◌, inl, inr}
use Rattle.std.specs.Prelude.{◌↔◌}
use Rattle.std.specs.List.{AllByRecursion, Contains}
use Rattle.std.specs.Option.{option_map_or}
use Rattle.std.proofs.lemmas.List.Elements.{All-from_recursion, All-contains, Contains-append_right}
use Rattle.room_kinds.specs.declared.message.Msg.{Msg}
use Rattle.room_kinds.specs.declared.numbers.Endpoint.{Endpoint}
use Rattle.room_wiring.specs.declared.tables.Tables.{Tables}
use Rattle.actor_merge.specs.Parties.{Line}
use Rattle.actor_merge.specs.World.{World, IsQuiet}
use Rattle.actor_duties.specs.Words.{whose, owner_of, is_endpoint}
use Rattle.actor_duties.specs.State.{User, Provider, Service, NameTable}
use Rattle.actor_duties.specs.Names.{at_place}
use Rattle.actor_duties.specs.Peers.{or_else, link_peer}
use Rattle.actor_world.specs.Behaviour.{Behaviour}
use Rattle.actor_world.specs.Body.{Body}
use Rattle.actor_world.specs.Start.{plant_of}
use Rattle.actor_world.specs.Agreed.{lives_in, IsLinked, TableLinks}
use Rattle.law_agreement.specs.Trails.{trail, hear_all}
use Rattle.law_agreement.specs.Imports.{OwnersAreThere}
use Rattle.law_agreement.proofs.Agreeing.{quiet_trail}
use Rattle.law_names.specs.Links.{Join, joins_with, joins_of, joins, across, joined_in, table_peer, times_joined, link_heard, IsSound}
use Rattle.law_names.proofs.Standing.{same_endpoint, self_endpoint}
use Rattle.law_names.proofs.Single.{single}
use Rattle.law_names.proofs.LinkRuns.{IsLinkedSo}

-- a join is one of these
abbrev Member : Join → List Join → Type 0
Member j [] = ⊥
Member j (x ∷ xs) = (x ≡ j) ⊎ Member j xs

member_left : (j : Join) (xs ys : List Join) → Member j xs → Member j (xs ++ ys)
member_left j [] ys h = absurd h
member_left j (x ∷ xs) ys (inl e) = inl e
member_left j (x ∷ xs) ys (inr h) = inr (member_left j xs ys h)

member_right : (j : Join) (xs ys : List Join) → Member j ys → Member j (xs ++ ys)
member_right j [] ys h = h
member_right j (x ∷ xs) ys h = inr (member_right j xs ys h)

member_cases : (j : Join) (xs ys : List Join) → Member j (xs ++ ys) → Member j xs ⊎ Member j ys
member_cases j [] ys h = inr h
member_cases j (x ∷ xs) ys (inl e) = inl (inl e)
member_cases j (x ∷ xs) ys (inr h) = go (member_cases j xs ys h)
  where
    go : Member j xs ⊎ Member j ys → Member j (x ∷ xs) ⊎ Member j ys
    go (inl k) = inl (inr k)
    go (inr k) = inr k

first_of : {X : Type 0} (x : X) (xs : List X) → Contains (x ∷ xs) x
first_of x xs = (0, omega arith, refl)

later_of : {X : Type 0} (x y : X) (xs : List X) → Contains xs y → Contains (x ∷ xs) y
later_of x y xs h = Contains-append_right (x ∷ []) xs y h

all_into : {X : Type 0} (P Q : X → Type 0) → ((x : X) → P x → Q x) → (xs : List X) → AllByRecursion P xs → AllByRecursion Q xs
all_into P Q f [] h = tt
all_into P Q f (x ∷ xs) h = (f x h.0, all_into P Q f xs h.1)

module _ (a : Endpoint) where
  -- what a place is joined to is across a join
  found : (b : Endpoint) (js : List Join) → joined_in a js ≡ Some b → (j : Join) × Member j js × (across a j ≡ Some b)
  found b [] h = absurd cc
  found b (j ∷ js) h = go (across a j) refl h (found b js)
    where
      go : (o : Option Endpoint) → across a j ≡ o → or_else o (joined_in a js) ≡ Some b → (joined_in a js ≡ Some b → (i : Join) × Member i js × (across a i ≡ Some b))
          → (i : Join) × Member i (j ∷ js) × (across a i ≡ Some b)
      go None e q rest = let r = rest q in (r.0, inr r.1, r.2)
      go (Some x) e q rest = (j, inl refl, e ∙ q)

  -- a place that is a side of a join is a side of one at least
  counted : (j : Join) (b : Endpoint) (js : List Join) → Member j js → across a j ≡ Some b → 1 ≤ times_joined a js
  counted j b [] h e = absurd h
  counted j b (x ∷ js) (inl same) e =
      let one : across a x ≡ Some b = ap (across a) same ∙ e in rw one (omega arith)
  counted j b (x ∷ js) (inr h) e = let k = counted j b js h e in omega (arith, k)

  -- what is across a join is what its side is joined to, where that is a side of no other
  joined : (j : Join) (b : Endpoint) (js : List Join) → times_joined a js ≤ 1 → Member j js → across a j ≡ Some b → joined_in a js ≡ Some b
  joined j b [] h m e = absurd m
  joined j b (x ∷ js) h (inl same) e =
      let one : across a x ≡ Some b = ap (across a) same ∙ e in ap (λ (o : Option Endpoint). or_else o (joined_in a js)) one
  joined j b (x ∷ js) h (inr m) e = go (across a x) h (λ k. joined j b js k m e) (counted j b js m e)
    where
      go : (o : Option Endpoint) → option_map_or (λ (z : Endpoint). 1) o 0 + times_joined a js ≤ 1 → (times_joined a js ≤ 1 → joined_in a js ≡ Some b) → 1 ≤ times_joined a js
          → or_else o (joined_in a js) ≡ Some b
      go None q rest some = rest (omega (arith, q))
      go (Some z) q rest some = absurd (omega (arith, q, some))

-- a join of the table is one of a service
record Served (table : NameTable) (j : Join) : Type 0 where
  pub service : Service
  pub stands : Contains table service
  pub member : Member j (joins_of service.provider service.users)

served : (j : Join) (table : NameTable) → Member j (joins table) → Served table j
served j [] h = absurd h
served j (s ∷ rest) h = go (member_cases j (joins_of s.provider s.users) (joins rest) h) (served j rest)
  where
    go : Member j (joins_of s.provider s.users) ⊎ Member j (joins rest) → (Member j (joins rest) → Served rest j) → Served (s ∷ rest) j
    go (inl k) ih = record { service = s; stands = first_of s rest; member = k }
    go (inr k) ih = let r = ih k in record { service = r.service; stands = later_of s r.service rest r.stands; member = r.member }

-- and of a user
record Used (p : Endpoint) (us : List User) (j : Join) : Type 0 where
  pub at : Endpoint
  pub place : ℕ
  pub uses : Contains us (record { at = at; linked = Some place })
  pub is : j ≡ record { place = at_place p place; user = at }

used : (j : Join) (p : Endpoint) (us : List User) → Member j (joins_with p us) → Used p us j
used j p [] h = absurd h
used j p (u ∷ us) h = go u.linked refl h (used j p us)
  where
    go : (o : Option ℕ) → u.linked ≡ o → Member j (option_map_or (λ k. record { place = at_place p k; user = u.at } ∷ []) o [] ++ joins_with p us)
        → (Member j (joins_with p us) → Used p us j) → Used p (u ∷ us) j
    go None q k ih = let r = ih k in record { at = r.at; place = r.place; uses = later_of u (record { at = r.at; linked = Some r.place }) us r.uses; is = r.is }
    go (Some n) q (inl k) ih =
        let same : u ≡ record { at = u.at; linked = Some n } = ap (λ (o : Option ℕ). record { at = u.at; linked = o }) q in
        record { at = u.at; place = n; uses = subst (λ (z : User). Contains (u ∷ us) z) same (first_of u us); is = sym k }
    go (Some n) q (inr k) ih = let r = ih k in record { at = r.at; place = r.place; uses = later_of u (record { at = r.at; linked = Some r.place }) us r.uses; is = r.is }

-- a join of the table, as a link of it
record Linked (table : NameTable) (j : Join) : Type 0 where
  pub provider : Endpoint
  pub place : ℕ
  pub user : Endpoint
  pub is : j ≡ record { place = at_place provider place; user = user }
  pub links : IsLinked table provider user place

linked : (j : Join) (table : NameTable) → Member j (joins table) → Linked table j
linked j table h = go (served j table h)
  where
    go : Served table j → Linked table j
    go r = at r.service.provider refl r.member
      where
        at : (o : Option Provider) → r.service.provider ≡ o → Member j (joins_of o r.service.users) → Linked table j
        at None q k = absurd k
        at (Some p) q k =
            let z = used j p.at r.service.users k in
            record {
              provider = p.at;
              place = z.place;
              user = z.at;
              is = z.is;
              links = record { service = r.service; stands = r.stands; next = p.next; provides = q; uses = z.uses };
            }

-- a link of the table is a join of it
joined_users : (p : Endpoint) (us : List User) → AllByRecursion (λ (u : User). (k : ℕ) → u.linked ≡ Some k → Member (record { place = at_place p k; user = u.at }) (joins_with p us)) us
joined_users p [] = tt
joined_users p (u ∷ us) = (
  (λ k e. rw e (inl refl)),
  all_into (λ (v : User). (k : ℕ) → v.linked ≡ Some k → Member (record { place = at_place p k; user = v.at }) (joins_with p us))
      (λ (v : User). (k : ℕ) → v.linked ≡ Some k → Member (record { place = at_place p k; user = v.at }) (joins_with p (u ∷ us)))
      (λ v h k e. member_right (record { place = at_place p k; user = v.at }) (option_map_or (λ n. record { place = at_place p n; user = u.at } ∷ []) u.linked []) (joins_with p us) (h k e))
      us (joined_users p us),
)

joined_services : (table : NameTable) → AllByRecursion (λ (s : Service). (j : Join) → Member j (joins_of s.provider s.users) → Member j (joins table)) table
joined_services [] = tt
joined_services (s ∷ rest) = (
  (λ j h. member_left j (joins_of s.provider s.users) (joins rest) h),
  all_into (λ (x : Service). (j : Join) → Member j (joins_of x.provider x.users) → Member j (joins rest))
      (λ (x : Service). (j : Join) → Member j (joins_of x.provider x.users) → Member j (joins (s ∷ rest)))
      (λ x h j m. member_right j (joins_of s.provider s.users) (joins rest) (h j m)) rest (joined_services rest),
)

member_of : (table : NameTable) (provider user : Endpoint) (k : ℕ) → IsLinked table provider user k → Member (record { place = at_place provider k; user = user }) (joins table)
member_of table provider user k h =
    let j : Join = record { place = at_place provider k; user = user } in
    let u : User = record { at = user; linked = Some k } in
    let P : User → Type 0 = λ (v : User). (n : ℕ) → v.linked ≡ Some n → Member (record { place = at_place provider n; user = v.at }) (joins_with provider h.service.users) in
    let one : Member j (joins_with provider h.service.users) =
    All-contains P h.service.users u (All-from_recursion P h.service.users (joined_users provider h.service.users)) h.uses k refl in
    let Q : Service → Type 0 = λ (s : Service). (i : Join) → Member i (joins_of s.provider s.users) → Member i (joins table) in
    All-contains Q table h.service (All-from_recursion Q table (joined_services table)) h.stands j
    (subst (λ (o : Option Provider). Member j (joins_of o h.service.users)) (sym h.provides) one)

-- what a sound table links a place to, seen from either side
pub peers_linked : (t : Tables) (table : NameTable) → IsSound t table → (a b : Endpoint) → (table_peer table a ≡ Some b) ↔ TableLinks table a b
peers_linked t table sound a b = (forth, back)
  where
    to_link : (j : Join) → Member j (joins table) → (x : Bool) → is_endpoint j.place a ≡ x → (y : Bool) → is_endpoint j.user a ≡ y
        → (if x then Some j.user else if y then Some j.place else None) ≡ Some b → TableLinks table a b
    to_link j m true e y f q =
        let r : Linked table j = linked j table m in
        let other : j.user ≡ b = cc in
        inl (
          r.provider,
          r.place,
          sym (same_endpoint j.place a e) ∙ ap (λ (z : Join). z.place) r.is,
          subst (λ z. IsLinked table r.provider z r.place) (sym (ap (λ (z : Join). z.user) r.is) ∙ other) r.links,
        )
    to_link j m false e true f q =
        let r : Linked table j = linked j table m in
        let other : j.place ≡ b = cc in
        inr (
          r.provider,
          r.place,
          sym other ∙ ap (λ (z : Join). z.place) r.is,
          subst (λ z. IsLinked table r.provider z r.place) (sym (ap (λ (z : Join). z.user) r.is) ∙ same_endpoint j.user a f) r.links,
        )
    to_link j m false e false f q = absurd cc

    forth : table_peer table a ≡ Some b → TableLinks table a b
    forth h = let r = found a b (joins table) h in to_link r.0 r.1 (is_endpoint r.0.place a) refl (is_endpoint r.0.user a) refl r.2

    back : TableLinks table a b → table_peer table a ≡ Some b
    back (inl h) =
        let j : Join = record { place = at_place h.0 h.1; user = b } in
        joined a j b (joins table) (single a t table sound) (member_of table h.0 b h.1 h.3)
        (ap (λ (z : Bool). if z then Some b else if is_endpoint b a then Some (at_place h.0 h.1) else None) (subst (λ (z : Endpoint). is_endpoint z a ≡ true) h.2 (self_endpoint a)))
    back (inr h) =
        let j : Join = record { place = at_place h.0 h.1; user = a } in
        joined a j b (joins table) (single a t table sound) (member_of table h.0 a h.1 h.3) (go (is_endpoint (at_place h.0 h.1) a) refl)
      where
        go : (x : Bool) → is_endpoint (at_place h.0 h.1) a ≡ x → (if x then Some a else if is_endpoint a a then Some (at_place h.0 h.1) else None) ≡ Some b
        go true e = ap Some (sym (same_endpoint (at_place h.0 h.1) a e) ∙ sym h.2)
        go false e = ap (λ (z : Bool). if z then Some (at_place h.0 h.1) else None) (self_endpoint a) ∙ ap Some (sym h.2)

-- in a quiet world owners and table agree on links
pub quiet_links : {M : Type 0} (model : Behaviour M) (t : Tables) (lines : List Line) → OwnersAreThere t → (w : World (Body M)) → IsLinkedSo t w → IsQuiet (plant_of model t lines) w
    → (a b : Endpoint) → lives_in t w (whose a) ≡ true
    → (link_peer (w.controllers (owner_of t a.slot.0)).body.links a ≡ Some b) ↔ TableLinks (w.controllers 0).body.table a b
quiet_links model t lines there w inv quiet a b live =
    let d : ℕ = owner_of t a.slot.0 in
    let below : d < length t.controllers = there a.slot.0 in
    let none : trail w 0 d ≡ [] = quiet_trail model t lines w quiet 0 d (omega (arith, below)) below in
    let same : link_peer (w.controllers d).body.links a ≡ table_peer (w.controllers 0).body.table a =
    ap (λ (z : List Msg). hear_all (link_heard t d a) z (link_peer (w.controllers d).body.links a)) (sym none) ∙ inv.foretold a live in
    let both = peers_linked t (w.controllers 0).body.table inv.sound a b in
    ((λ h. both.0 (sym same ∙ h)), (λ h. same ∙ both.1 h))
