-- The sockets that a look at the partners finds are those that are joined.
use Rattle.std.proofs.Common.{◌≡◌, ◌≢◌, ◌∙◌, ℕ, Bool, true, false, List, Some, refl, sym, ap, arith}
use Rattle.std.specs.Prelude.{slice_get, ◌==◌, ◌&&◌, not}
use Rattle.std.proofs.lemmas.Bool.Decides.{nat_tests}
use Rattle.room_kinds.specs.declared.numbers.SlotId.{SlotId}
use Rattle.room_wiring.specs.declared.slot.Partner.{Partner}
use Rattle.room_wiring.specs.declared.slot.Partner.TheVariants.{Nobody, End as EndPartner, Socket as SocketPartner}
use Rattle.room_wiring.specs.declared.slot.Slot.{Slot}
use Rattle.number_graphs.specs.declared.face_chains.FacePair.{FacePair}
use Rattle.wiring_places.specs.declared.place_rules.place.Place.{Place}
use Rattle.wiring_places.specs.declared.place_rules.place.Role.{Role}
use Rattle.wiring_places.specs.declared.place_rules.place.Role.TheVariants.{Relay, End, Socket}
use Rattle.wiring_places.specs.place_rules.Partners.{is_relay_role, is_end_role, is_socket_role, partner_of_role, owner_of, is_socket_pair, is_socket_away, has_socket_pair, has_socket_away}
use Rattle.wiring_joins.specs.place_joins.Joined.{ShowsJoins}
use Rattle.wiring_joins.specs.join_laws.Sockets.{JoinsSocket, JoinsSockets, JoinsAway}
use Rattle.wiring_joins.proofs.join_laws.Looks.{found_by, fails_at}

-- a partner is the socket of this slot
record IsSocketOf (slot : ℕ) (p : Partner) : Type 0 where
  number : SlotId
  port : ℕ
  place : ℕ
  is : p ≡ SocketPartner number port place
  at : number.0 ≡ slot

-- ---- what roles say

socket_role : (r : Role) → is_socket_role r ≡ true → r ≡ Socket
socket_role Relay e = absurd cc
socket_role End e = absurd cc
socket_role Socket e = refl

end_role : (r : Role) → is_end_role r ≡ true → r ≡ End
end_role Relay e = absurd cc
end_role End e = refl
end_role Socket e = absurd cc

-- a place whose partner is a socket is joined to a socket
told_socket : (r : Role) (y : Place) (number : SlotId) (port place : ℕ) → partner_of_role r y ≡ SocketPartner number port place → (r ≡ Socket) × (y.slot ≡ number.0)
told_socket Relay y number port place e = absurd cc
told_socket End y number port place e = absurd cc
told_socket Socket y number port place e =
    let made : SlotId = record { 0 = y.slot } in
    let same : made ≡ number = cc in
    (refl, ap (λ (s : SlotId). s.0) same)

-- ---- what tests say

pair_says : (x : Place) (p : Partner) → is_socket_pair x p ≡ true → (x.role ≡ Socket) × ((slot : ℕ) × IsSocketOf slot p)
pair_says x Nobody e = absurd cc
pair_says x (EndPartner s k n) e = absurd cc
pair_says x (SocketPartner s k n) e = (socket_role x.role e, (s.0, record { number = s; port = k; place = n; is = refl; at = refl }))

both_hold : (a b : Bool) → (a && b) ≡ true → (a ≡ true) × (b ≡ true)
both_hold true b e = (refl, e)
both_hold false b e = absurd cc

owners_differ : (a b : ℕ) → not (a == b) ≡ true → a ≢ b
owners_differ a b e = grind (arith, nat_tests)

differ_is : (a b : ℕ) → a ≢ b → not (a == b) ≡ true
differ_is a b ne = grind (arith, nat_tests)

away_says : (slots : List Slot) (x : Place) (p : Partner) → is_socket_away slots x p ≡ true → (x.role ≡ End) × ((slot : ℕ) × (IsSocketOf slot p × (owner_of (slice_get slots x.slot) ≢ owner_of (slice_get slots slot))))
away_says slots x Nobody e = absurd cc
away_says slots x (EndPartner s k n) e = absurd cc
away_says slots x (SocketPartner s k n) e =
    let both = both_hold (is_end_role x.role) _ e in
    (end_role x.role both.0, (s.0, (record { number = s; port = k; place = n; is = refl; at = refl }, owners_differ _ _ both.1)))

module _ (places : List Place) (pairs : List FacePair) (ps : List Partner) (shows : ShowsJoins places pairs ps) where
  -- a place whose partner is a socket, which it is joined to
  record IsJoinedTo (role : Role) (x : Place) (slot : ℕ) : Type 0 where
    joins : JoinsSocket role places pairs
    from : joins.place ≡ x
    to : joins.socket.slot ≡ slot

  finds : (role : Role) (i slot : ℕ) (x : Place) (p : Partner) → slice_get places i ≡ Some x → slice_get ps i ≡ Some p → x.role ≡ role → is_relay_role role ≡ false → IsSocketOf slot p → IsJoinedTo role x slot
  finds role i slot x p ex ep is passes s =
      let some : slice_get ps i ≢ Some Nobody = λ none. absurd (let n : Some p ≡ Some Nobody = sym ep ∙ none in let m : SocketPartner s.number s.port s.place ≡ Nobody = sym s.is ∙ (cc) in cc) in
      let found = shows.found i x ex (ap is_relay_role is ∙ passes) some in
      let told : partner_of_role found.1.role found.1 ≡ SocketPartner s.number s.port s.place = (let n : Some p ≡ Some (partner_of_role found.1.role found.1) = sym ep ∙ found.5 in let m : partner_of_role found.1.role found.1 ≡ p = cc in m ∙ s.is) in
      let socket = told_socket found.1.role found.1 s.number s.port s.place told in
      record {
        joins = record { i = i; j = found.0; place = x; socket = found.1; place_at = ex; socket_at = found.2; place_role = is; socket_role = socket.0; joined = found.4 };
        from = refl;
        to = socket.1 ∙ s.at;
      }

  -- and a place that is joined to a socket is told it
  told_of : (role : Role) → is_relay_role role ≡ false → (joins : JoinsSocket role places pairs) → slice_get ps joins.i ≡ Some (SocketPartner (record { 0 = joins.socket.slot }) joins.socket.port joins.socket.place)
  told_of role passes joins =
      shows.joined joins.i joins.j joins.place joins.socket joins.place_at joins.socket_at (ap is_relay_role joins.place_role ∙ passes) (ap is_relay_role joins.socket_role) joins.joined
      ∙ ap (λ (r : Role). Some (partner_of_role r joins.socket)) joins.socket_role

  pub sockets_found : has_socket_pair places ps ≡ true → JoinsSockets places pairs
  sockets_found e =
      let at = found_by is_socket_pair places ps e in
      let says = pair_says at.place at.partner at.passes in
      (finds Socket at.i says.1.0 at.place at.partner at.place_at at.partner_at says.0 refl says.1.1).joins

  pub no_sockets : has_socket_pair places ps ≡ false → JoinsSockets places pairs → ⊥
  no_sockets e joins =
      let fails : is_socket_role joins.place.role ≡ false = fails_at is_socket_pair places ps joins.i joins.place _ e joins.place_at (told_of Socket refl joins) in
      let holds : is_socket_role joins.place.role ≡ true = ap is_socket_role joins.place_role in
      absurd (let no : true ≡ false = sym holds ∙ fails in cc)

  pub away_found : (slots : List Slot) → has_socket_away slots places ps ≡ true → JoinsAway slots places pairs
  away_found slots e =
      let at = found_by (is_socket_away slots) places ps e in
      let says = away_says slots at.place at.partner at.passes in
      let to = finds End at.i says.1.0 at.place at.partner at.place_at at.partner_at says.0 refl says.1.1.0 in
      record {
        joins = to.joins;
        away = λ same. says.1.1.1 (ap (λ (x : Place). owner_of (slice_get slots x.slot)) (sym to.from) ∙ same ∙ ap (λ (s : ℕ). owner_of (slice_get slots s)) to.to);
      }

  pub none_away : (slots : List Slot) → has_socket_away slots places ps ≡ false → JoinsAway slots places pairs → ⊥
  none_away slots e out =
      let fails = fails_at (is_socket_away slots) places ps out.joins.i out.joins.place _ e out.joins.place_at (told_of End refl out.joins) in
      let end : is_end_role out.joins.place.role ≡ true = ap is_end_role out.joins.place_role in
      let differ = differ_is _ _ out.away in
      let holds : is_socket_away slots out.joins.place (SocketPartner (record { 0 = out.joins.socket.slot }) out.joins.socket.port out.joins.socket.place) ≡ true = ap (λ (b : Bool). b && not (owner_of (slice_get slots out.joins.place.slot) == owner_of (slice_get slots out.joins.socket.slot))) end ∙ differ in
      absurd (let no : true ≡ false = sym holds ∙ fails in cc)
