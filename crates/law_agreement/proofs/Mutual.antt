-- Peers are mutual, by the cases of the peer on both sides.
use Rattle.std.proofs.Common.{◌≡◌, ◌≢◌, ℕ, zero, suc, ◌≤◌, ◌<◌, ◌==◌, ◌&&◌, ◌||◌, nat_lt, Bool, true, false, cond, if◌then◌else◌, List, [], ◌∷◌, length, slice_index_or, slice_get, find, count_by, option_and_then, Option, Some, None, refl, sym, ap, ◌∙◌, subst, eq-eqb, eqb-true, arith, ◌⊎◌, inl, inr}
use Rattle.std.specs.List.{Contains}
use Rattle.std.specs.Option.{option_map_or}
use Rattle.std.proofs.lemmas.Bool.{and_parts, and_from}
use Rattle.std.proofs.lemmas.Bool.Decides.{nat_tests}
use Rattle.std.proofs.lemmas.Option.{same_Some}
use Rattle.std.proofs.lemmas.List.Sums.{sum_by-cons}
use Rattle.room_kinds.specs.declared.numbers.SlotId.{SlotId}
use Rattle.room_kinds.specs.declared.numbers.Incarnation.{Incarnation}
use Rattle.room_kinds.specs.declared.numbers.Endpoint.{Endpoint}
use Rattle.room_wiring.specs.declared.tables.Tables.{Tables}
use Rattle.room_wiring.specs.declared.slot.Slot.{Slot}
use Rattle.room_kinds.specs.declared.structure.ReferenceKind.{ReferenceKind as Kind}
use Rattle.room_kinds.specs.declared.structure.ReferenceKind.TheVariants as slot_kinds
use Rattle.room_wiring.specs.declared.slot.Partner.{Partner}
use Rattle.room_wiring.specs.declared.slot.Partner.TheVariants as partners
use Rattle.room_wiring.specs.declared.names.ClassNames.{ClassNames}
use Rattle.room_wiring.specs.declared.names.PortNames.{PortNames}
use Rattle.room_wiring.specs.Places.{is_told, place_count, port_count, partner_at}
use Rattle.room_wiring.specs.Slots.{slot_at, class_at, class_of}
use Rattle.actor_merge.specs.World.{World}
use Rattle.actor_duties.specs.Words.{incarnation, endpoint, whose, is_incarnation, owner_of, is_own, is_imported, is_home, is_fixed, is_optional, is_fixed_kind, is_optional_kind, is_imported_kind, is_sap, is_spp, is_sap_kind, is_spp_kind, port_at, class_number, is_end, is_joined, joined_at, container_of}
use Rattle.actor_duties.specs.State.{Lives, Frame, ImportPlace, Empty, Asking, Held, Leaving}
use Rattle.actor_duties.specs.Lives.{standing, is_live}
use Rattle.actor_duties.specs.Peers.{known, known_end, held_end, fitting_plug, end_of_partner, through_plug, peer_by, frame_peer, link_peer, or_else, peer}
use Rattle.actor_world.specs.Body.{Body}
use Rattle.actor_world.specs.Agreed.{frame_at, lives_in, place_of, plugged, has_container, TableLinks, DirectoriesAgree, ImportsAgree, LinksAgree, PeersAgree}
use Rattle.service_messages.proofs.slot_runs.RunLemmas.{not_true_false}
use Rattle.law_agreement.specs.Imports.{PlacesAreLocal, OwnersAreThere}
use Rattle.law_agreement.specs.Plugs.{PlugsFit}
use Rattle.law_agreement.specs.Mutual.{seen_as, IsMutual, IsOrderly}
use Rattle.law_agreement.proofs.Agreeing.{own_there}

-- ---- lists

-- what is found is there and passes
found : {X : Type 0} (test : X → Bool) (xs : List X) (x : X) → find test xs ≡ Some x → Contains xs x × (test x ≡ true)
found test [] x e = absurd cc
found {X} test (y ∷ ys) x e = go (test y) refl (found test ys x) e
  where
    go : (b : Bool) → test y ≡ b → (find test ys ≡ Some x → Contains ys x × (test x ≡ true)) → cond b (Some y) (find test ys) ≡ Some x
        → Contains (y ∷ ys) x × (test x ≡ true)
    go true h later k = ((0, omega arith, same_Some y x k), subst (λ z. test z ≡ true) (same_Some y x k) h)
    go false h later k = let r = later k in let lt = r.0.1 in ((suc r.0.0, omega arith, r.0.2), r.1)

-- and where one alone passes, it is found
finds : {X : Type 0} (test : X → Bool) (xs : List X) (x : X) (k : ℕ) → k < length xs → slice_index_or xs k x ≡ x → test x ≡ true
    → ((y : X) → Contains xs y → test y ≡ true → y ≡ x) → find test xs ≡ Some x
finds test [] x k lt at h only = absurd (omega arith)
finds {X} test (y ∷ ys) x zero lt at h only = rw (subst (λ z. test z ≡ true) (sym at) h) (ap (λ z. Some z) at)
finds {X} test (y ∷ ys) x (suc k) lt at h only =
    go (test y) refl (finds test ys x k (omega arith) at h (λ z there. only z (let below = there.1 in (suc there.0, omega arith, there.2))))
  where
    go : (b : Bool) → test y ≡ b → find test ys ≡ Some x → cond b (Some y) (find test ys) ≡ Some x
    go true e later = ap (λ z. Some z) (only y (0, omega arith, refl) e)
    go false e later = later

-- what is there is counted
counted_in : {X : Type 0} (test : X → Bool) (xs : List X) (x : X) (k : ℕ) → k < length xs → slice_index_or xs k x ≡ x → test x ≡ true → 1 ≤ count_by test xs
counted_in test [] x k lt at h = absurd (omega arith)
counted_in test (y ∷ ys) x zero lt at h =
    let sum = sum_by-cons (λ z. cond (test z) 1 0) y ys in
    let one : ◌≡◌ {A = ℕ} (cond (test y) 1 0) 1 = ap (λ b. cond {A = ℕ} b 1 0) (subst (λ z. test z ≡ true) (sym at) h) in
    omega (arith, sum, one)
counted_in test (y ∷ ys) x (suc k) lt at h =
    let sum = sum_by-cons (λ z. cond (test z) 1 0) y ys in
    let more = counted_in test ys x k (omega arith) at h in
    omega (arith, sum, more)

-- and what is counted is there
there_of : {X : Type 0} (test : X → Bool) (xs : List X) → 1 ≤ count_by test xs → (x : X) × Contains xs x × (test x ≡ true)
there_of test [] h = absurd (omega arith)
there_of {X} test (y ∷ ys) h = go (test y) refl (there_of test ys)
  where
    go : (b : Bool) → test y ≡ b → (1 ≤ count_by test ys → (x : X) × Contains ys x × (test x ≡ true)) → (x : X) × Contains (y ∷ ys) x × (test x ≡ true)
    go true e later = (y, (0, omega arith, refl), e)
    go false e later =
        let sum = sum_by-cons (λ z. cond (test z) 1 0) y ys in
        let none : ◌≡◌ {A = ℕ} (cond (test y) 1 0) 0 = ap (λ b. cond {A = ℕ} b 1 0) e in
        let r = later (omega (arith, sum, none)) in
        let lt = r.1.1 in
        (r.0, (suc r.1.0, omega arith, r.1.2), r.2)

-- ---- incarnations

one_incarnation : (x y : Incarnation) → is_incarnation x y ≡ true → x ≡ y
one_incarnation x y e =
    let both = and_parts (x.slot.0 == y.slot.0) (x.generation.0 == y.generation.0) e in
    ap (λ s. incarnation s x.generation.0) (eqb-true x.slot.0 y.slot.0 both.0) ∙ ap (λ g. incarnation y.slot.0 g) (eqb-true x.generation.0 y.generation.0 both.1)

itself : (x : Incarnation) → is_incarnation x x ≡ true
itself x = and_from (x.slot.0 == x.slot.0) (x.generation.0 == x.generation.0) (eq-eqb x.slot.0 x.slot.0 refl) (eq-eqb x.generation.0 x.generation.0 refl)

-- ---- partners

not_joined : (x : Partner) → is_joined x ≡ false → x ≡ partners.Nobody
not_joined partners.Nobody e = refl
not_joined (partners.End s p k) e = absurd cc
not_joined (partners.Socket s p k) e = absurd cc

-- ---- what tables say

-- a home is no imported slot
not_imported : (t : Tables) (s : ℕ) → is_home t s ≡ true → is_imported t s ≡ false
unfolding is_fixed is_optional is_imported
not_imported t s h = go (slot_at t s) h
  where
    kinds : (k : Kind) → (is_fixed_kind k || is_optional_kind k) ≡ true → is_imported_kind k ≡ false
    kinds slot_kinds.Fixed e = refl
    kinds slot_kinds.Optional e = refl
    kinds slot_kinds.Imported e = absurd cc

    go : (o : Option Slot) → (option_map_or (λ (x : Slot). is_fixed_kind x.kind) o false || option_map_or (λ (x : Slot). is_optional_kind x.kind) o false) ≡ true
        → option_map_or (λ (x : Slot). is_imported_kind x.kind) o false ≡ false
    go None e = refl
    go (Some x) e = kinds x.kind e

-- what a slot's ports are, its class alone says
class_by_number : (t : Tables) (s : ℕ) → class_of t s ≡ option_and_then (class_at t) (class_number t s)
unfolding class_of
class_by_number t s = go (slot_at t s)
  where
    go : (o : Option Slot) → option_and_then (λ (x : Slot). class_at t x.class) o ≡ option_and_then (class_at t) (option_map_or (λ (x : Slot). Some x.class) o None)
    go None = refl
    go (Some x) = refl

same_ports : (t : Tables) (i s p : ℕ) → class_number t i ≡ class_number t s → (is_sap t i p ≡ is_sap t s p) × (is_spp t i p ≡ is_spp t s p)
unfolding is_sap is_spp port_at
same_ports t i s p same =
    let one : class_of t i ≡ class_of t s = class_by_number t i ∙ ap (option_and_then (class_at t)) same ∙ sym (class_by_number t s) in (
      ap (λ (o : Option ClassNames). option_map_or (λ (x : PortNames). is_sap_kind x.kind) (option_and_then (λ (c : ClassNames). slice_get c.ports p) o) false) one,
      ap (λ (o : Option ClassNames). option_map_or (λ (x : PortNames). is_spp_kind x.kind) (option_and_then (λ (c : ClassNames). slice_get c.ports p) o) false) one,
    )

-- a joined place is of a slot that is there
joined_there : (t : Tables) (s p k : ℕ) → is_joined (joined_at t s p k) ≡ true → s < length t.slots
unfolding joined_at
joined_there t s p k h = go (nat_lt s (length t.slots)) refl h
  where
    go : (b : Bool) → nat_lt s (length t.slots) ≡ b
        → is_joined (if b && nat_lt p (port_count t s) && nat_lt k (place_count t s p) then partner_at t s p k else partners.Nobody) ≡ true → s < length t.slots
    go true e j = grind (arith, nat_tests)
    go false e j = absurd cc

-- no place behind those of the tables is joined
behind_free : (t : Tables) (s p k : ℕ) → place_count t s p ≤ k → is_joined (joined_at t s p k) ≡ false
unfolding joined_at
behind_free t s p k h =
    let past : nat_lt k (place_count t s p) ≡ false = grind (arith, nat_tests) in
    rw past (go (nat_lt s (length t.slots)) (nat_lt p (port_count t s)))
  where
    go : (a b : Bool) → is_joined (if a && b && false then partner_at t s p k else partners.Nobody) ≡ false
    go true true = refl
    go true false = refl
    go false b = refl

-- who owns a slot
own_owner : (t : Tables) (d s : ℕ) → is_own t d s ≡ true → owner_of t s ≡ d
unfolding is_own owner_of
own_owner t d s h = go (slot_at t s) h
  where
    go : (o : Option Slot) → option_map_or (λ (x : Slot). x.owner.0 == d) o false ≡ true → option_map_or (λ (x : Slot). x.owner.0) o 0 ≡ d
    go None e = absurd cc
    go (Some x) e = eqb-true x.owner.0 d e

-- ---- lives

live_parts : (l : Lives) (x : Incarnation) → is_live l x ≡ true → (l.lives x.slot.0 ≡ true) × (l.generation x.slot.0 ≡ x.generation.0)
live_parts l x h =
    let both = and_parts (l.lives x.slot.0) (l.generation x.slot.0 == x.generation.0) h in (both.0, eqb-true (l.generation x.slot.0) x.generation.0 both.1)

live_stands : (l : Lives) (x : Incarnation) → is_live l x ≡ true → standing l x.slot.0 ≡ x.generation.0
live_stands l x h = let both = live_parts l x h in ap (λ b. if b then l.generation x.slot.0 else 0) both.0 ∙ both.1

-- the end place of a generation that is known
end_known : (n s p k g : ℕ) → n ≡ g → 1 ≤ g → (if n == 0 then None else Some (endpoint s n p k)) ≡ Some (endpoint s g p k)
end_known n s p k g e some =
    let later : (n == 0) ≡ false = grind (arith, nat_tests) in
    ap (λ b. if b then None else Some (endpoint s n p k)) later ∙ ap (λ m. Some (endpoint s m p k)) e

-- of an end place that a partner is, this is known
known_is : (n s p k : ℕ) (b : Endpoint) → (if n == 0 then None else Some (endpoint s n p k)) ≡ Some b → endpoint s n p k ≡ b
known_is n s p k b e = go (n == 0) e
  where
    go : (z : Bool) → (if z then None else Some (endpoint s n p k)) ≡ Some b → endpoint s n p k ≡ b
    go true h = absurd cc
    go false h = same_Some (endpoint s n p k) b h

module _ {M : Type 0} (t : Tables) (w : World (Body M)) (wired : IsMutual t) (owners : OwnersAreThere t) (near : PlacesAreLocal t) (orderly : IsOrderly t w)
    (directories : DirectoriesAgree t w) (imports : ImportsAgree t w) (links : LinksAgree t w) where
  abbrev frame_of_party : ℕ → Frame
  frame_of_party c = (w.controllers c).body.frame

  -- the peer by all but links
  abbrev other_peer : Endpoint → Option Endpoint
  other_peer a = frame_peer t (owner_of t a.slot.0) (frame_of_party (owner_of t a.slot.0)) a

  abbrev linked_peer : Endpoint → Option Endpoint
  linked_peer a = link_peer (w.controllers (owner_of t a.slot.0)).body.links a

  -- ---- who lives is known

  -- a live actor's slot is no imported one, and its generation is 1 at least
  live_home : (x : Incarnation) → lives_in t w x ≡ true → (is_imported t x.slot.0 ≡ false) × (1 ≤ x.generation.0)
  live_home x live =
      let both = live_parts (frame_at t w x.slot.0).lives x live in
      let l = orderly.lives (owner_of t x.slot.0) in
      (not_imported t x.slot.0 (l.homes x.slot.0 both.0), subst (λ n. 1 ≤ n) both.1 (l.counted x.slot.0 both.0))

  -- a controller knows the generation of a live actor, if it owns the slot or is told of it
  knows : (x : Incarnation) (d : ℕ) → lives_in t w x ≡ true → x.slot.0 < length t.slots → d < length t.controllers
      → (d ≢ owner_of t x.slot.0 → is_told t x.slot.0 d ≡ true) → known t d (frame_of_party d) x.slot.0 ≡ x.generation.0
  unfolding known
  knows x d live there below tells = go (is_own t d x.slot.0) refl
    where
      go : (b : Bool) → is_own t d x.slot.0 ≡ b → (if b then standing (frame_of_party d).lives x.slot.0 else (frame_of_party d).told x.slot.0) ≡ x.generation.0
      go true e =
          ap (λ c. standing (frame_of_party c).lives x.slot.0) (sym (own_owner t d x.slot.0 e)) ∙ live_stands (frame_at t w x.slot.0).lives x live
      go false e =
          let other : d ≢ owner_of t x.slot.0 =
          λ same. absurd (not_true_false (is_own t d x.slot.0) (subst (λ c. is_own t c x.slot.0 ≡ true) (sym same) (own_there t x.slot.0 there)) e) in
          directories x.slot.0 d there below (tells other) ∙ live_stands (frame_at t w x.slot.0).lives x live

  -- ---- links

  table_both : (a b : Endpoint) → TableLinks (w.controllers 0).body.table a b → TableLinks (w.controllers 0).body.table b a
  table_both a b (inl h) = inr h
  table_both a b (inr h) = inl h

  -- what is linked is joined to nothing
  table_free : (b x : Endpoint) → TableLinks (w.controllers 0).body.table b x → is_joined (joined_at t b.slot.0 b.port b.place) ≡ false
  table_free b x (inl h) =
      let provider = orderly.linked.providers h.0 x h.1 h.3 in
      subst (λ (z : Endpoint). is_joined (joined_at t z.slot.0 z.port z.place) ≡ false) (sym h.2) (behind_free t h.0.slot.0 h.0.port h.1 provider.1)
  table_free b x (inr h) = (orderly.linked.users h.0 b h.1 h.3).1

  -- and stands at a service point
  table_point : (b x : Endpoint) → TableLinks (w.controllers 0).body.table b x → (is_sap t b.slot.0 b.port ≡ true) ⊎ (is_spp t b.slot.0 b.port ≡ true)
  table_point b x (inl h) =
      let provider = orderly.linked.providers h.0 x h.1 h.3 in
      inr (subst (λ (z : Endpoint). is_spp t z.slot.0 z.port ≡ true) (sym h.2) provider.0)
  table_point b x (inr h) = inl (orderly.linked.users h.0 b h.1 h.3).0

  -- a place that the table can't link has no link
  unlinked : (b : Endpoint) → lives_in t w (whose b) ≡ true → ((x : Endpoint) → TableLinks (w.controllers 0).body.table b x → ⊥) → linked_peer b ≡ None
  unlinked b live none = go (linked_peer b) refl
    where
      go : (o : Option Endpoint) → linked_peer b ≡ o → o ≡ None
      go None e = refl
      go (Some x) e = absurd (none x ((links.links b x live).0 e))

  joined_unlinked : (b : Endpoint) → lives_in t w (whose b) ≡ true → is_joined (joined_at t b.slot.0 b.port b.place) ≡ true → linked_peer b ≡ None
  joined_unlinked b live joined = unlinked b live (λ x h. not_true_false (is_joined (joined_at t b.slot.0 b.port b.place)) joined (table_free b x h))

  -- ---- joined end places

  -- the peer of what is joined to an end place of a live actor, where the actor's slot is known, is that end place
  seen_back : (a : Endpoint) (c : ℕ) → lives_in t w (whose a) ≡ true → a.slot.0 < length t.slots → c < length t.controllers
      → (c ≢ owner_of t a.slot.0 → is_told t a.slot.0 c ≡ true) → known_end t c (frame_of_party c) a.slot.0 a.port a.place ≡ Some a
  seen_back a c live there below tells =
      end_known (known t c (frame_of_party c) a.slot.0) a.slot.0 a.port a.place a.generation.0 (knows (whose a) c live there below tells) (live_home (whose a) live).1

  seen_end : (a : Endpoint) → lives_in t w (whose a) ≡ true → seen_as t a.slot.0 a.port a.place ≡ partners.End (record { 0 = a.slot.0 }) a.port a.place
  seen_end a live =
      ap (λ b. if b then partners.Socket (record { 0 = a.slot.0 }) a.port a.place else partners.End (record { 0 = a.slot.0 }) a.port a.place) (live_home (whose a) live).0

  is_joined_by : (s p k : ℕ) (x : Partner) → joined_at t s p k ≡ x → is_joined x ≡ true → is_joined (joined_at t s p k) ≡ true
  is_joined_by s p k x e h = subst (λ z. is_joined z ≡ true) (sym e) h

  by_end : (a b : Endpoint) (x : SlotId) (q j : ℕ) → lives_in t w (whose a) ≡ true → lives_in t w (whose b) ≡ true
      → joined_at t a.slot.0 a.port a.place ≡ partners.End x q j → known_end t (owner_of t a.slot.0) (frame_of_party (owner_of t a.slot.0)) x.0 q j ≡ Some b
      → (linked_peer b ≡ None) × (other_peer b ≡ Some a)
  unfolding frame_peer
  by_end a b x q j la lb e k =
      let n : ℕ = known t (owner_of t a.slot.0) (frame_of_party (owner_of t a.slot.0)) x.0 in
      let is : endpoint x.0 n q j ≡ b = known_is n x.0 q j b k in
      let back : joined_at t b.slot.0 b.port b.place ≡ partners.End (record { 0 = a.slot.0 }) a.port a.place =
      subst (λ (z : Endpoint). joined_at t z.slot.0 z.port z.place ≡ partners.End (record { 0 = a.slot.0 }) a.port a.place) is
      (wired.ends a.slot.0 a.port a.place x q j e ∙ seen_end a la) in
      let c : ℕ = owner_of t b.slot.0 in
      let slot : x.0 ≡ b.slot.0 = ap (λ (z : Endpoint). z.slot.0) is in
      let tells : (c ≢ owner_of t a.slot.0) → is_told t a.slot.0 c ≡ true =
      λ other. subst (λ z. is_told t a.slot.0 (owner_of t z) ≡ true) slot
      (wired.ends_told a.slot.0 a.port a.place x q j (live_home (whose a) la).0 e (λ same. other (ap (owner_of t) (sym slot) ∙ same))) in (
        joined_unlinked b lb (is_joined_by b.slot.0 b.port b.place _ back refl),
        ap (peer_by t c (frame_of_party c) b) back
            ∙ seen_back a c la (joined_there t a.slot.0 a.port a.place (is_joined_by a.slot.0 a.port a.place _ e refl)) (owners b.slot.0) tells,
      )

  -- ---- sockets

  -- the container of an imported slot that holds a home lives
  container_lives : (s : ℕ) (h : Incarnation) → is_imported t s ≡ true → place_of t w s ≡ Held h → (g : ℕ) × (has_container t w (incarnation s g) ≡ true)
  container_lives s h imported held =
      let in_it = wired.contained s imported in
      let c : ℕ = in_it.0 in
      let l : Lives = (frame_at t w c).lives in
      let same : owner_of t s ≡ owner_of t c = near s c imported in_it.1 in
      let live : l.lives c ≡ true = alive c in_it.1 same (l.lives c) refl in (
        l.generation c,
        subst (λ (o : Option ℕ). lives_in t w (incarnation (option_map_or (λ k. k) o 0) (l.generation c)) ≡ true) (sym in_it.1)
            (and_from (l.lives c) (l.generation c == l.generation c) live (eq-eqb (l.generation c) (l.generation c) refl)),
      )
    where
      alive : (c : ℕ) → container_of t s ≡ Some c → owner_of t s ≡ owner_of t c → (b : Bool) → (frame_at t w c).lives.lives c ≡ b → b ≡ true
      alive c is same true e = refl
      alive c is same false e =
          let empty : place_of t w s ≡ Empty = (orderly.living (owner_of t s)).places s c imported is (ap (λ d. (frame_of_party d).lives.lives c) same ∙ e) in
          absurd (let no : Empty ≡ Held h = sym empty ∙ held in cc)

  -- a home that is held has the place among its plugs
  held_plug : (s : ℕ) (h : Incarnation) → is_imported t s ≡ true → place_of t w s ≡ Held h
      → (g : ℕ) × Contains ((frame_at t w h.slot.0).plugs h.slot.0) (incarnation s g)
  held_plug s h imported held =
      let container = container_lives s h imported held in
      let i : Incarnation = incarnation s container.0 in
      let once : plugged t w i h ≡ 1 = ((imports.held i h imported container.1).0 held).1 in
      let there = there_of (is_incarnation i) ((frame_at t w h.slot.0).plugs h.slot.0) (omega (arith, once)) in
      (container.0, subst (Contains ((frame_at t w h.slot.0).plugs h.slot.0)) (sym (one_incarnation i there.0 there.2)) there.1)

  held_home : (x : ImportPlace) (q j : ℕ) (b : Endpoint) → held_end x q j ≡ Some b → (h : Incarnation) × (x ≡ Held h) × (endpoint h.slot.0 h.generation.0 q j ≡ b)
  held_home Empty q j b e = absurd cc
  held_home (Asking h) q j b e = absurd cc
  held_home (Leaving h) q j b e = absurd cc
  held_home (Held h) q j b e = (h, refl, same_Some (endpoint h.slot.0 h.generation.0 q j) b e)

  by_socket : (a b : Endpoint) (x : SlotId) (q j : ℕ) → lives_in t w (whose a) ≡ true → lives_in t w (whose b) ≡ true
      → joined_at t a.slot.0 a.port a.place ≡ partners.Socket x q j → held_end ((frame_of_party (owner_of t a.slot.0)).places x.0) q j ≡ Some b
      → (linked_peer b ≡ None) × (other_peer b ≡ Some a)
  unfolding frame_peer
  by_socket a b x q j la lb e k =
      let home = held_home ((frame_of_party (owner_of t a.slot.0)).places x.0) q j b k in
      let h : Incarnation = home.0 in
      let imported : is_imported t x.0 ≡ true = wired.imported a.slot.0 a.port a.place x q j e in
      let same : owner_of t x.0 ≡ owner_of t a.slot.0 = wired.local a.slot.0 a.port a.place x q j e in
      let held : place_of t w x.0 ≡ Held h = ap (λ c. (frame_of_party c).places x.0) same ∙ home.1 in
      let plug = held_plug x.0 h imported held in
      let i : Incarnation = incarnation x.0 plug.0 in
      let back : joined_at t x.0 q j ≡ partners.End (record { 0 = a.slot.0 }) a.port a.place = wired.sockets a.slot.0 a.port a.place x q j e ∙ seen_end a la in
      let c : ℕ = owner_of t h.slot.0 in
      let lent : PlugsFit t (frame_of_party c) = orderly.lent c in
      let fits : is_end (joined_at t x.0 q j) ≡ true = ap is_end back in
      let free : joined_at t h.slot.0 q j ≡ partners.Nobody = not_joined (joined_at t h.slot.0 q j) (lent.apart h.slot.0 q j i plug.1 fits) in
      let one : fitting_plug t ((frame_of_party c).plugs h.slot.0) q j ≡ Some i =
      finds (λ (z : Incarnation). is_end (joined_at t z.slot.0 q j)) ((frame_of_party c).plugs h.slot.0) i plug.1.0 plug.1.1 plug.1.2 fits
      (λ z there passes. lent.one h.slot.0 q j z i there plug.1 passes fits) in
      let tells : (c ≢ owner_of t a.slot.0) → is_told t a.slot.0 c ≡ true =
      λ other. wired.sockets_told a.slot.0 a.port a.place x q j c (live_home (whose a) la).0 e (owners h.slot.0) other in
      let seen : other_peer (endpoint h.slot.0 h.generation.0 q j) ≡ Some a =
      ap (peer_by t c (frame_of_party c) (endpoint h.slot.0 h.generation.0 q j)) free
      ∙ ap (through_plug t c (frame_of_party c) q j) one
      ∙ ap (end_of_partner t c (frame_of_party c)) back
      ∙ seen_back a c la (joined_there t a.slot.0 a.port a.place (is_joined_by a.slot.0 a.port a.place _ e refl)) (owners h.slot.0) tells in
      let ports = wired.ports x.0 q j imported (is_joined_by x.0 q j _ back refl) in
      let alike = same_ports t x.0 h.slot.0 q (sym (lent.lent h.slot.0 i plug.1)) in
      let slot : h.slot.0 ≡ b.slot.0 = ap (λ (z : Endpoint). z.slot.0) home.2 in
      let port : q ≡ b.port = ap (λ (z : Endpoint). z.port) home.2 in
      let no_sap : is_sap t b.slot.0 b.port ≡ false = subst (λ (z : Endpoint). is_sap t z.slot.0 z.port ≡ false) home.2 (sym alike.0 ∙ ports.0) in
      let no_spp : is_spp t b.slot.0 b.port ≡ false = subst (λ (z : Endpoint). is_spp t z.slot.0 z.port ≡ false) home.2 (sym alike.1 ∙ ports.1) in (
        unlinked b lb (λ y linked. elim (table_point b y linked) [
          | inl sap ↦ not_true_false (is_sap t b.slot.0 b.port) sap no_sap
          | inr spp ↦ not_true_false (is_spp t b.slot.0 b.port) spp no_spp
        ]),
        subst (λ (z : Endpoint). other_peer z ≡ Some a) home.2 seen,
      )

  -- ---- plugs

  plug_end : (s : ℕ) (f : Frame) (x : Partner) (b : Endpoint) → end_of_partner t s f x ≡ Some b → (y : SlotId) × (q : ℕ) × (j : ℕ) × (x ≡ partners.End y q j) × (known_end t s f y.0 q j ≡ Some b)
  plug_end s f partners.Nobody b e = absurd cc
  plug_end s f (partners.Socket y q j) b e = absurd cc
  plug_end s f (partners.End y q j) b e = (y, q, j, refl, e)

  plug_found : (s : ℕ) (f : Frame) (p k : ℕ) (o : Option Incarnation) (b : Endpoint) → through_plug t s f p k o ≡ Some b
      → (i : Incarnation) × (o ≡ Some i) × (end_of_partner t s f (joined_at t i.slot.0 p k) ≡ Some b)
  plug_found s f p k None b e = absurd cc
  plug_found s f p k (Some i) b e = (i, refl, e)

  -- a plug of a live actor is an import place that holds it
  plug_holds : (x i : Incarnation) → lives_in t w x ≡ true → Contains ((frame_at t w x.slot.0).plugs x.slot.0) i
      → (is_imported t i.slot.0 ≡ true) × (place_of t w i.slot.0 ≡ Held x)
  plug_holds x i live there =
      let some : 1 ≤ plugged t w i x = counted_in (is_incarnation i) ((frame_at t w x.slot.0).plugs x.slot.0) i there.0 there.1 there.2 (itself i) in
      let most : plugged t w i x ≤ 1 = imports.once i x in
      let place = imports.plugs i x some in
      (place.0, (imports.held i x place.0 place.1).1 (live, omega (arith, some, most)))

  by_plug : (a b : Endpoint) → lives_in t w (whose a) ≡ true → lives_in t w (whose b) ≡ true
      → through_plug t (owner_of t a.slot.0) (frame_of_party (owner_of t a.slot.0)) a.port a.place
      (fitting_plug t ((frame_of_party (owner_of t a.slot.0)).plugs a.slot.0) a.port a.place) ≡ Some b
      → (linked_peer b ≡ None) × (other_peer b ≡ Some a)
  unfolding frame_peer
  by_plug a b la lb k =
      let f : Frame = frame_of_party (owner_of t a.slot.0) in
      let plug = plug_found (owner_of t a.slot.0) f a.port a.place (fitting_plug t (f.plugs a.slot.0) a.port a.place) b k in
      let i : Incarnation = plug.0 in
      let there : Contains (f.plugs a.slot.0) i = (found (λ (z : Incarnation). is_end (joined_at t z.slot.0 a.port a.place)) (f.plugs a.slot.0) i plug.1).0 in
      let partner = plug_end (owner_of t a.slot.0) f (joined_at t i.slot.0 a.port a.place) b plug.2 in
      let x : SlotId = partner.0 in
      let q : ℕ = partner.1 in
      let j : ℕ = partner.2 in
      let n : ℕ = known t (owner_of t a.slot.0) f x.0 in
      let is : endpoint x.0 n q j ≡ b = known_is n x.0 q j b partner.4 in
      let holds = plug_holds (whose a) i la there in
      let socket : seen_as t i.slot.0 a.port a.place ≡ partners.Socket (record { 0 = i.slot.0 }) a.port a.place =
      ap (λ z. if z then partners.Socket (record { 0 = i.slot.0 }) a.port a.place else partners.End (record { 0 = i.slot.0 }) a.port a.place) holds.0 in
      let back : joined_at t x.0 q j ≡ partners.Socket (record { 0 = i.slot.0 }) a.port a.place = wired.ends i.slot.0 a.port a.place x q j partner.3 ∙ socket in
      let same : owner_of t i.slot.0 ≡ owner_of t x.0 = wired.local x.0 q j (record { 0 = i.slot.0 }) a.port a.place back in
      let held : (frame_of_party (owner_of t x.0)).places i.slot.0 ≡ Held (whose a) = ap (λ c. (frame_of_party c).places i.slot.0) (sym same) ∙ holds.1 in
      let seen : other_peer (endpoint x.0 n q j) ≡ Some a =
      ap (peer_by t (owner_of t x.0) (frame_of_party (owner_of t x.0)) (endpoint x.0 n q j)) back ∙ ap (λ z. held_end z a.port a.place) held in
      let joined : is_joined (joined_at t b.slot.0 b.port b.place) ≡ true =
      subst (λ (z : Endpoint). is_joined (joined_at t z.slot.0 z.port z.place) ≡ true) is (is_joined_by x.0 q j _ back refl) in
      (joined_unlinked b lb joined, subst (λ (z : Endpoint). other_peer z ≡ Some a) is seen)

  -- ---- all cases

  by_partner : (a b : Endpoint) (x : Partner) → lives_in t w (whose a) ≡ true → lives_in t w (whose b) ≡ true → joined_at t a.slot.0 a.port a.place ≡ x
      → peer_by t (owner_of t a.slot.0) (frame_of_party (owner_of t a.slot.0)) a x ≡ Some b → (linked_peer b ≡ None) × (other_peer b ≡ Some a)
  by_partner a b partners.Nobody la lb e k = by_plug a b la lb k
  by_partner a b (partners.End x q j) la lb e k = by_end a b x q j la lb e k
  by_partner a b (partners.Socket x q j) la lb e k = by_socket a b x q j la lb e k

  unlinked_back : (a b : Endpoint) → lives_in t w (whose a) ≡ true → lives_in t w (whose b) ≡ true → other_peer a ≡ Some b → (linked_peer b ≡ None) × (other_peer b ≡ Some a)
  unfolding frame_peer
  unlinked_back a b la lb e = by_partner a b (joined_at t a.slot.0 a.port a.place) la lb refl e

  pub peers_mutual : PeersAgree t w
  unfolding peer
  peers_mutual a b la lb e = go (linked_peer a) refl e
    where
      go : (o : Option Endpoint) → linked_peer a ≡ o → or_else o (other_peer a) ≡ Some b → or_else (linked_peer b) (other_peer b) ≡ Some a
      go (Some x) linked k =
          let is : linked_peer a ≡ Some b = linked ∙ k in
          let back : linked_peer b ≡ Some a = (links.links b a lb).1 (table_both a b ((links.links a b la).0 is)) in
          ap (λ o. or_else o (other_peer b)) back
      go None linked k =
          let back = unlinked_back a b la lb k in
          ap (λ o. or_else o (other_peer b)) back.0 ∙ back.1
