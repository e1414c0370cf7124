-- What a turn sends on names, and what the name table takes up, was created.
use Rattle.std.proofs.Common.{◌≡◌, ℕ, ◌+◌, ◌≤◌, ◌==◌, ◌&&◌, ◌||◌, Bool, true, false, not, if◌then◌else◌, is_some, List, [], ◌∷◌, ◌++◌, map, filter, slice_get, Option, Some, None, ℤ, pos, refl, sym, ap, ◌∙◌, subst, eqb-true, arith}
use Rattle.std.specs.Option.{option_map_or}
use Rattle.std.specs.List.{AllByRecursion}
use Rattle.std.proofs.lemmas.Bool.{and_parts}
use Rattle.room_kinds.specs.declared.message.Msg.{Msg}
use Rattle.room_kinds.specs.declared.numbers.Incarnation.{Incarnation}
use Rattle.room_kinds.specs.declared.numbers.Endpoint.{Endpoint}
use Rattle.room_kinds.specs.declared.system.SysKind.{SysKind}
use Rattle.room_kinds.specs.declared.system.SysKind.TheVariants as kinds
use Rattle.room_kinds.specs.declared.command.NameCommand.{NameCommand}
use Rattle.room_kinds.specs.declared.command.NameCommand.TheVariants as names
use Rattle.room_wiring.specs.declared.tables.Tables.{Tables}
use Rattle.room_wiring.specs.Places.{place_count}
use Rattle.actor_merge.specs.Parties.{Treated}
use Rattle.actor_duties.specs.Words.{owner_of, whose, is_own, is_endpoint, is_sap, is_spp, protocol_of, joined_at, is_joined, ports_of, slots_of}
use Rattle.actor_duties.specs.State.{Lives, Links, Registration, Unnamed, Asked, Registered, Leaving, User, Provider, Service, NameTable, Done}
use Rattle.actor_duties.specs.Messages.{to_owner, coded, NameTaken}
use Rattle.actor_duties.specs.Lives.{last_of, comes_up, lives_made, lives_ended, ended_slots, goes_down}
use Rattle.actor_duties.specs.Frame.{FrameDone}
use Rattle.actor_duties.specs.Names.{name_reply_to, both_told, at_place, same_table, Linking, linked_users, linked_first, meet_with, meet, provide, use_service, unmet, in_service, register_spp, register_sap, links_ended, link_ended, user_ended, is_user, waiting, leave, unprovide, unuse, is_provider, stands_in, withdraw, register, is_name_request, table_duty_of, table_duty_from, table_duty}
use Rattle.actor_duties.specs.Links.{point_of, is_entered, register_from, register_command, withdraw_from, withdraw_command, name_request, end_of}
use Rattle.actor_world.specs.Body.{Body}
use Rattle.actor_world.specs.Turns.{all_kinds}
use Rattle.actor_world.proofs.LifeSteps.{down_parts}
use Rattle.law_agreement.proofs.Lists.{all_append, all_map, all_filter, all_passed, all_reverse}
use Rattle.actor_world.proofs.TrueTurns.{own_owner}
use Rattle.law_names.specs.Created.{asker_by, asker, hearer_by, hearer, told_of_by, told_of}
use Rattle.law_names.specs.Registrations.{is_asking_kind, is_asking, is_reply, RepliesOne}
use Rattle.law_names.proofs.Standing.{own_reply}
use Rattle.law_names.proofs.OffNames.{is_name_kind, IsOffNames, AllOffNames, links_off}
use Rattle.law_names.proofs.Naming.{LivesBy, stays, makes, ends, all_ended, IsNameWalk, IsOf, Turns, treats, hears, leads}

-- a message off names asks nobody and tells nobody
pub record NamesNobody (m : Msg) : Type 0 where
  pub asks : asker m ≡ None
  pub tells : hearer m ≡ None
  pub peers : told_of m ≡ None

pub off_nobody : (m : Msg) → IsOffNames m → NamesNobody m
off_nobody m h = record { asks = one (m.prio.0 == 0) h; tells = two (m.prio.0 == 0) h; peers = three (m.prio.0 == 0) h }
  where
    none : (o : Option SysKind) → is_name_kind o ≡ false
        → (asker_by o m.source ≡ None) × (hearer_by o m.target ≡ None) × (told_of_by o m.source ≡ None)
    none None q = (refl, refl, refl)
    none (Some kinds.Register) q = absurd cc
    none (Some kinds.Withdraw) q = absurd cc
    none (Some kinds.Bound) q = absurd cc
    none (Some kinds.Ended) q = absurd cc
    none (Some kinds.NameReply) q = absurd cc
    none (Some kind) q = (refl, refl, refl)

    one : (a : Bool) → (a && is_name_kind (slice_get all_kinds m.signal)) ≡ false → (if a then asker_by (slice_get all_kinds m.signal) m.source else None) ≡ None
    one true q = (none (slice_get all_kinds m.signal) q).0
    one false q = refl

    two : (a : Bool) → (a && is_name_kind (slice_get all_kinds m.signal)) ≡ false → (if a then hearer_by (slice_get all_kinds m.signal) m.target else None) ≡ None
    two true q = (none (slice_get all_kinds m.signal) q).1
    two false q = refl

    three : (a : Bool) → (a && is_name_kind (slice_get all_kinds m.signal)) ≡ false → (if a then told_of_by (slice_get all_kinds m.signal) m.source else None) ≡ None
    three true q = (none (slice_get all_kinds m.signal) q).2
    three false q = refl

-- what isn't a Register or a Withdraw asks nobody
pub asks_none : (m : Msg) → is_asking m ≡ false → asker m ≡ None
asks_none m h = go (m.prio.0 == 0) (slice_get all_kinds m.signal) h
  where
    go : (a : Bool) (o : Option SysKind) → (a && is_asking_kind o) ≡ false → (if a then asker_by o m.source else None) ≡ None
    go false o q = refl
    go true None q = refl
    go true (Some kinds.Register) q = absurd cc
    go true (Some kinds.Withdraw) q = absurd cc
    go true (Some kind) q = refl

module _ (t : Tables) (Q : Incarnation → Type 0) where
  -- a message that controller me sends goes where such messages go, and names what was created
  pub record IsSent (me : ℕ) (m : Msg) : Type 0 where
    pub asks : (e : Endpoint) → asker m ≡ Some e → (owner_of t e.slot.0 ≡ me) × (m.to.0 ≡ 0) × Q (whose e)
    pub tells : (e : Endpoint) → hearer m ≡ Some e → (me ≡ 0) × (owner_of t e.slot.0 ≡ m.to.0) × Q (whose e)
    pub peers : (e : Endpoint) → told_of m ≡ Some e → Q (whose e)

  abbrev pub AllSent : ℕ → List Msg → Type 0
  AllSent me ms = AllByRecursion (IsSent me) ms

  off_sent : (me : ℕ) (m : Msg) → IsOffNames m → IsSent me m
  off_sent me m h =
      let k = off_nobody m h in
      record {
        asks = λ e q. (let n : None ≡ Some e = sym k.asks ∙ q in absurd cc);
        tells = λ e q. (let n : None ≡ Some e = sym k.tells ∙ q in absurd cc);
        peers = λ e q. (let n : None ≡ Some e = sym k.peers ∙ q in absurd cc);
      }

  pub all_off_sent : (me : ℕ) (ms : List Msg) → AllOffNames ms → AllSent me ms
  all_off_sent me [] h = tt
  all_off_sent me (m ∷ ms) h = (off_sent me m h.0, all_off_sent me ms h.1)

  -- what stands in a service, and in the name table, was created
  abbrev pub ProviderIs : Option Provider → Type 0
  ProviderIs None = Unit {0}
  ProviderIs (Some p) = Q (whose p.at)

  abbrev pub UsersAre : List User → Type 0
  UsersAre us = AllByRecursion (λ (u : User). Q (whose u.at)) us

  abbrev pub ServiceIs : Service → Type 0
  ServiceIs s = ProviderIs s.provider × UsersAre s.users

  abbrev pub TableIs : NameTable → Type 0
  TableIs table = AllByRecursion ServiceIs table

  -- what the table tells a point, which asks nobody
  abbrev IsTold : Msg → Type 0
  IsTold m = IsSent 0 m × (is_asking m ≡ false) × RepliesOne m

  abbrev AllTold : List Msg → Type 0
  AllTold ms = AllByRecursion IsTold ms

  pub all_told_sent : (ms : List Msg) → AllTold ms → AllSent 0 ms
  all_told_sent [] h = tt
  all_told_sent (m ∷ ms) h = (h.0.0, all_told_sent ms h.1)

  pub all_told_ask : (ms : List Msg) → AllTold ms → AllByRecursion (λ (m : Msg). is_asking m ≡ false) ms
  all_told_ask [] h = tt
  all_told_ask (m ∷ ms) h = (h.0.1, all_told_ask ms h.1)

  pub all_told_reply : (ms : List Msg) → AllTold ms → AllByRecursion RepliesOne ms
  all_told_reply [] h = tt
  all_told_reply (m ∷ ms) h = (h.0.2, all_told_reply ms h.1)

  -- what the table tells a point of a peer
  told_sent : (peer e : Endpoint) (m : Msg) → m.to.0 ≡ owner_of t e.slot.0 → is_asking m ≡ false → hearer m ≡ Some e → told_of m ≡ Some peer
      → Q (whose peer) → Q (whose e) → RepliesOne m → IsTold m
  told_sent peer e m to plain tells of q r reply = (
    record {
      asks = λ x k. (let n : None ≡ Some x = sym (asks_none m plain) ∙ k in absurd cc);
      tells = λ x k. (let n : Some e ≡ Some x = sym tells ∙ k in let same : e ≡ x = cc in
          subst (λ (z : Endpoint). (◌≡◌ {A = ℕ} 0 0) × (owner_of t z.slot.0 ≡ m.to.0) × Q (whose z)) same (refl, sym to, r));
      peers = λ x k. (let n : Some peer ≡ Some x = sym of ∙ k in let same : peer ≡ x = cc in subst (λ (z : Endpoint). Q (whose z)) same q);
    },
    plain,
    reply,
  )

  reply_sent : (e : Endpoint) (code : ℕ) → Q (whose e) → IsTold (name_reply_to t e (pos code ∷ []))
  reply_sent e code q = told_sent e e (name_reply_to t e (pos code ∷ [])) refl refl refl refl q q (λ h. (code, own_reply t e code))

  no_reply : (m : Msg) → is_reply m ≡ false → RepliesOne m
  no_reply m none h = (let q : true ≡ false = sym h ∙ none in absurd cc)

  bound_sent : (provider : Endpoint) (k : ℕ) (user : Endpoint) → Q (whose provider) → Q (whose user) → AllTold (both_told t kinds.Bound provider k user)
  bound_sent provider k user q r = (
    told_sent user (at_place provider k) _ refl refl refl refl r q (no_reply (to_owner t 0 kinds.Bound user (at_place provider k) []) refl),
    (told_sent (at_place provider k) user _ refl refl refl refl q r (no_reply (to_owner t 0 kinds.Bound (at_place provider k) user []) refl), tt),
  )

  ended_sent : (provider : Endpoint) (k : ℕ) (user : Endpoint) → Q (whose provider) → Q (whose user) → AllTold (both_told t kinds.Ended provider k user)
  ended_sent provider k user q r = (
    told_sent user (at_place provider k) _ refl refl refl refl r q (no_reply (to_owner t 0 kinds.Ended user (at_place provider k) []) refl),
    (told_sent (at_place provider k) user _ refl refl refl refl q r (no_reply (to_owner t 0 kinds.Ended (at_place provider k) user []) refl), tt),
  )

  -- what a step of a service, and of the table, leads to
  abbrev ServiceDone : Done Service → Type 0
  ServiceDone r = ServiceIs r.now × AllTold r.sent

  abbrev TableDone : Done NameTable → Type 0
  TableDone r = TableIs r.now × AllTold r.sent

  abbrev LinkingIs : Linking → Type 0
  LinkingIs r = UsersAre r.users × AllTold r.sent

  linked_is : (provider : Endpoint) (us : List User) (next : ℕ) → Q (whose provider) → UsersAre us → LinkingIs (linked_users t provider us next)
  linked_is provider [] next q h = (tt, tt)
  linked_is provider (u ∷ us) next q h = go u.linked (λ n. linked_is provider us n q h.1)
    where
      go : (o : Option ℕ) → ((n : ℕ) → LinkingIs (linked_users t provider us n)) → LinkingIs (linked_first t provider next u o (linked_users t provider us))
      go (Some k) rest = ((h.0, (rest next).0), (rest next).1)
      go None rest = (
        (h.0, (rest (next + 1)).0),
        all_append (IsTold) (both_told t kinds.Bound provider next u.at) (linked_users t provider us (next + 1)).sent
            (bound_sent provider next u.at q h.0) (rest (next + 1)).1,
      )

  meet_is : (s : Service) → ServiceIs s → ServiceDone (meet t s)
  unfolding meet
  meet_is s h = go s.provider h.0
    where
      go : (o : Option Provider) → ProviderIs o → ServiceDone (meet_with t s o)
      go None q = (h, tt)
      go (Some p) q = (let r = linked_is p.at s.users p.next q h.1 in ((q, r.0), r.1))

  provide_is : (base : ℕ) (e : Endpoint) → Q (whose e) → (s : Service) → ServiceIs s → ServiceDone (provide t base e s)
  unfolding provide
  provide_is base e q s h = go (is_some s.provider)
    where
      go : (b : Bool) → ServiceDone (
          if b then record { now = s; sent = name_reply_to t e (coded NameTaken) ∷ [] }
          else
          let r = meet t (record s { provider = Some (record { at = e; next = base }) }) in
          record { now = r.now; sent = name_reply_to t e (pos 0 ∷ []) ∷ r.sent })
      go true = (h, (reply_sent e 8 q, tt))
      go false =
          let r = meet_is (record s { provider = Some (record { at = e; next = base }) }) (q, h.1) in
          (r.0, (reply_sent e 0 q, r.1))

  use_is : (e : Endpoint) → Q (whose e) → (s : Service) → ServiceIs s → ServiceDone (use_service t e s)
  unfolding use_service
  use_is e q s h =
      let u : User = record { at = e; linked = None } in
      let r = meet_is (record s { users = s.users ++ u ∷ [] }) (h.0, all_append (λ (u : User). Q (whose u.at)) s.users (u ∷ []) h.1 (q, tt)) in
      (r.0, (reply_sent e 0 q, r.1))

  in_service_is : (name protocol : ℕ) (step : Service → Done Service) → ((s : Service) → ServiceIs s → ServiceDone (step s)) → (table : NameTable) → TableIs table
      → TableDone (in_service name protocol step table)
  in_service_is name protocol step does [] h = (let r = does (unmet name protocol) (tt, tt) in ((r.0, tt), r.1))
  in_service_is name protocol step does (s ∷ rest) h = go ((s.name == name) && (s.protocol == protocol)) (in_service_is name protocol step does rest h.1)
    where
      go : (b : Bool) → TableDone (in_service name protocol step rest) → TableDone (
          if b
          then (let r = step s in record { now = r.now ∷ rest; sent = r.sent })
          else (let r = in_service name protocol step rest in record { now = s ∷ r.now; sent = r.sent }))
      go true k = (let r = does s h.0 in ((r.0, h.1), r.1))
      go false k = ((h.0, k.0), k.1)

  links_ended_is : (e : Endpoint) → Q (whose e) → (us : List User) → UsersAre us → AllTold (links_ended t e us)
  links_ended_is e q [] h = tt
  links_ended_is e q (u ∷ us) h =
      all_append (IsTold) (link_ended t e u) (links_ended t e us) (go u.linked) (links_ended_is e q us h.1)
    where
      go : (o : Option ℕ) → AllTold (option_map_or (λ k. both_told t kinds.Ended e k u.at) o [])
      go None = tt
      go (Some k) = ended_sent e k u.at q h.0

  waiting_are : (us : List User) → UsersAre us → UsersAre (map waiting us)
  waiting_are [] h = tt
  waiting_are (u ∷ us) h = (h.0, waiting_are us h.1)

  leave_is : (e : Endpoint) → Q (whose e) → (s : Service) → ServiceIs s → ServiceDone (leave t e s)
  leave_is e q s h = go (is_provider e s)
    where
      ends_for : (o : Option Provider) → ProviderIs o → AllTold (user_ended t e o s.users)
      ends_for None k = tt
      ends_for (Some p) k = links_ended_is p.at k (filter (is_user e) s.users) (all_filter (λ (u : User). Q (whose u.at)) (is_user e) s.users h.1)

      go : (b : Bool) → ServiceDone (if b then unprovide t e s else unuse t e s)
      go true = ((tt, waiting_are s.users h.1), links_ended_is e q s.users h.1)
      go false = ((h.0, all_filter (λ (u : User). Q (whose u.at)) (λ u. not (is_user e u)) s.users h.1), ends_for s.provider h.0)

  withdraw_is : (e : Endpoint) → Q (whose e) → (table : NameTable) → TableIs table → TableDone (withdraw t e table)
  unfolding withdraw
  withdraw_is e q [] h = (tt, (reply_sent e 9 q, tt))
  withdraw_is e q (s ∷ rest) h = go (stands_in e s) (withdraw_is e q rest h.1)
    where
      go : (b : Bool) → TableDone (withdraw t e rest) → TableDone (
          if b
          then (let r = leave t e s in record { now = r.now ∷ rest; sent = r.sent ++ name_reply_to t e (pos 0 ∷ []) ∷ [] })
          else (let r = withdraw t e rest in record { now = s ∷ r.now; sent = r.sent }))
      go true k =
          (let r = leave_is e q s h.0 in
          ((r.0, h.1), all_append (IsTold) (leave t e s).sent (name_reply_to t e (pos 0 ∷ []) ∷ []) r.1 (reply_sent e 0 q, tt)))
      go false k = ((h.0, k.0), k.1)

  register_is : (e : Endpoint) → Q (whose e) → (name : ℕ) (table : NameTable) → TableIs table → TableDone (register t e name table)
  unfolding register register_spp register_sap
  register_is e q name table h =
      go (is_spp t e.slot.0 e.port) _ _
      (in_service_is name (protocol_of t e.slot.0 e.port) (provide t (place_count t e.slot.0 e.port) e) (provide_is (place_count t e.slot.0 e.port) e q) table h)
      (in_service_is name (protocol_of t e.slot.0 e.port) (use_service t e) (use_is e q) table h)
    where
      go : (b : Bool) (x y : Done NameTable) → TableDone x → TableDone y → TableDone (if b then x else y)
      go true x y h k = h
      go false x y h k = k

  -- the duties of the name table, which are controller 0's
  pub record DutyDone (me : ℕ) (r : Done NameTable) : Type 0 where
    pub now : TableIs r.now
    pub sent : AllSent me r.sent
    pub asks : AllByRecursion (λ (m : Msg). is_asking m ≡ false) r.sent
    pub replies : AllByRecursion RepliesOne r.sent

  at_zero : (me : ℕ) (e target : Endpoint) → is_name_request t me e target ≡ true → 0 ≡ me
  at_zero me e target h =
      sym (eqb-true me 0 (and_parts (me == 0) (is_endpoint e target)
      (and_parts ((me == 0) && is_endpoint e target) (e.place == 0)
      (and_parts ((me == 0) && is_endpoint e target && (e.place == 0)) (is_sap t e.slot.0 e.port || is_spp t e.slot.0 e.port) h).0).0).0)

  requested : (me : ℕ) (e target : Endpoint) (r : Done NameTable) (table : NameTable) → TableIs table → (0 ≡ me → TableDone r)
      → (b : Bool) → is_name_request t me e target ≡ b → DutyDone me (if b then r else same_table table)
  requested me e target r table h k true is =
      let zero : 0 ≡ me = at_zero me e target is in
      let d = k zero in
      record { now = d.0; sent = subst (λ n. AllSent n r.sent) zero (all_told_sent r.sent d.1); asks = all_told_ask r.sent d.1; replies = all_told_reply r.sent d.1 }
  requested me e target r table h k false is = record { now = h; sent = tt; asks = tt; replies = tt }

  table_of_is : (me : ℕ) (table : NameTable) (k : SysKind) (e target : Endpoint) (payload : List ℤ) → TableIs table
      → ((x : Endpoint) → asker_by (Some k) (Some e) ≡ Some x → Q (whose x)) → DutyDone me (table_duty_of t me table k e target payload)
  table_of_is me table kinds.Register e target (pos name ∷ []) h q =
      requested me e target (register t e name table) table h (λ z. register_is e (q e refl) name table h) (is_name_request t me e target) refl
  table_of_is me table kinds.Withdraw e target [] h q =
      requested me e target (withdraw t e table) table h (λ z. withdraw_is e (q e refl) table h) (is_name_request t me e target) refl
  table_of_is me table _ e target _ h q = record { now = h; sent = tt; asks = tt; replies = tt }

  table_from_is : (me : ℕ) (table : NameTable) (k : SysKind) (o : Option Endpoint) (m : Msg) → TableIs table
      → ((x : Endpoint) → asker_by (Some k) o ≡ Some x → Q (whose x)) → DutyDone me (table_duty_from t me table k o m)
  table_from_is me table k None m h q = record { now = h; sent = tt; asks = tt; replies = tt }
  table_from_is me table k (Some e) m h q = table_of_is me table k e m.target m.payload h q

  pub table_is : (me : ℕ) (table : NameTable) (k : SysKind) (m : Msg) → TableIs table
      → ((x : Endpoint) → asker_by (Some k) m.source ≡ Some x → Q (whose x)) → DutyDone me (table_duty t me table k m)
  unfolding table_duty
  table_is me table k m h q = table_from_is me table k m.source m h q

  module _ (me : ℕ) where
    -- what stands here, or stood here, was created
    abbrev pub AreHere : Lives → Type 0
    AreHere l = (x : Incarnation) → is_own t me x.slot.0 ≡ true → x.generation.0 ≤ l.generation x.slot.0 → Q x

    -- what an actor here asks
    asked_sent : (x : Incarnation) (m : Msg) → owner_of t x.slot.0 ≡ me → m.to.0 ≡ 0 → (e : Endpoint) → asker m ≡ Some e → whose e ≡ x → hearer m ≡ None → told_of m ≡ None
        → Q x → IsSent me m
    asked_sent x m own to e asks is none nobody q =
        record {
          asks = λ y k. (let n : Some e ≡ Some y = sym asks ∙ k in let alike : e ≡ y = cc in let same : x ≡ whose y = sym is ∙ ap (λ (z : Endpoint). whose z) alike in
              subst (λ (z : Incarnation). (owner_of t z.slot.0 ≡ me) × (m.to.0 ≡ 0) × Q z) same (own, to, q));
          tells = λ y k. (let n : None ≡ Some y = sym none ∙ k in absurd cc);
          peers = λ y k. (let n : None ≡ Some y = sym nobody ∙ k in absurd cc);
        }

    register_from_sent : (l : Links) (x : Incarnation) (p name : ℕ) (r : Registration) → owner_of t x.slot.0 ≡ me → Q x → AllSent me (register_from me l x p name r).sent
    register_from_sent l x p name Unnamed own q = (asked_sent x _ own refl (point_of x p) refl refl refl refl q, tt)
    register_from_sent l x p name Asked own q = (off_sent me _ refl, tt)
    register_from_sent l x p name Registered own q = (off_sent me _ refl, tt)
    register_from_sent l x p name Leaving own q = (off_sent me _ refl, tt)

    withdraw_from_sent : (l : Links) (x : Incarnation) (p : ℕ) (r : Registration) → owner_of t x.slot.0 ≡ me → Q x → AllSent me (withdraw_from me l x p r).sent
    withdraw_from_sent l x p Unnamed own q = (off_sent me _ refl, tt)
    withdraw_from_sent l x p Asked own q = (off_sent me _ refl, tt)
    withdraw_from_sent l x p Registered own q = (asked_sent x _ own refl (point_of x p) refl refl refl refl q, tt)
    withdraw_from_sent l x p Leaving own q = (off_sent me _ refl, tt)

    abbrev LinksSent : Done Links → Type 0
    LinksSent r = AllSent me r.sent

    request_sent : (l : Links) (x : Incarnation) (c : NameCommand) → owner_of t x.slot.0 ≡ me → Q x → AllSent me (name_request t me l x c).sent
    unfolding register_command withdraw_command
    request_sent l x (names.Register p name) own q = go (is_sap t x.slot.0 p && is_joined (joined_at t x.slot.0 p 0)) _ _ (refl, tt) (register_from_sent l x p name (l.registrations x.slot.0 p) own q)
      where
        go : (b : Bool) (r n : Done Links) → AllOffNames r.sent → AllSent me n.sent → LinksSent (if b then r else n)
        go true r n h k = all_off_sent me r.sent h
        go false r n h k = k
    request_sent l x (names.Withdraw p) own q = withdraw_from_sent l x p (l.registrations x.slot.0 p) own q

    -- what the end of actors withdraws
    end_sent : (l : Links) (x : Incarnation) → owner_of t x.slot.0 ≡ me → Q x → AllSent me (end_of t me l x).sent
    unfolding end_of
    end_sent l x own q = all_map (IsSent me) _ (λ p. asked_sent x _ own refl (point_of x p) refl refl refl refl q) (filter (λ p. is_entered (l.registrations x.slot.0 p)) (ports_of t x.slot.0))

    all_ended_sent : (xs : List Incarnation) (l : Links) → AllByRecursion (λ (x : Incarnation). (owner_of t x.slot.0 ≡ me) × Q x) xs → AllSent me (all_ended t me xs l).sent
    all_ended_sent [] l h = tt
    all_ended_sent (x ∷ xs) l h =
        let r : Done Links = end_of t me l x in
        all_append (IsSent me) r.sent (all_ended t me xs r.now).sent (end_sent l x h.0.0 h.0.1) (all_ended_sent xs r.now h.1)

    -- one after another
    unfoldable pub SentHere : Lives → Links → List Msg → Links → Type 0
    SentHere l a ms b = AreHere l → AllSent me ms

    pub sent_here : IsNameWalk t me (λ x c. Unit {0}) SentHere
    unfolding SentHere
    sent_here =
        record {
          two = λ l a b c x y h k here. all_append (IsSent me) x y (h here) (k here);
          off = λ l a ms off here. all_off_sent me ms off;
          request = λ l a x c is ask here.
              request_sent a x c (own_owner t me x.slot.0 is.0)
              (here x is.0 (let e = eqb-true (l.generation x.slot.0) x.generation.0 (and_parts (l.lives x.slot.0) (l.generation x.slot.0 == x.generation.0) is.1).1 in omega (arith, e)));
        }

    module _ {M : Type 0} (b : Body M) (m : Msg) where
      -- what was created is only added to
      lives_rise : (d : FrameDone) → LivesBy t me b.frame.lives d → (s : ℕ) → b.frame.lives.generation s ≤ d.frame.lives.generation s
      unfolding lives_made lives_ended
      lives_rise d (stays same made ended) s = subst (λ (z : Lives). b.frame.lives.generation s ≤ z.generation s) (sym same) (omega arith)
      lives_rise d (makes o same made ended) s =
          subst (λ (z : Lives). b.frame.lives.generation s ≤ z.generation s) (sym same) (go (comes_up t me b.frame.lives o s))
        where
          go : (c : Bool) → b.frame.lives.generation s ≤ (if c then b.frame.lives.generation s + 1 else b.frame.lives.generation s)
          go true = omega arith
          go false = omega arith
      lives_rise d (ends o same made ended) s = subst (λ (z : Lives). b.frame.lives.generation s ≤ z.generation s) (sym same) (omega arith)

      gone_here : (d : FrameDone) → LivesBy t me b.frame.lives d → AreHere d.frame.lives → AllByRecursion (λ (x : Incarnation). (owner_of t x.slot.0 ≡ me) × Q x) d.ended
      unfolding ended_slots
      gone_here d (stays same made ended) here = subst (λ xs. AllByRecursion (λ (x : Incarnation). (owner_of t x.slot.0 ≡ me) × Q x) xs) (sym ended) tt
      gone_here d (makes o same made ended) here = subst (λ xs. AllByRecursion (λ (x : Incarnation). (owner_of t x.slot.0 ≡ me) × Q x) xs) (sym ended) tt
      gone_here d (ends o same made ended) here = subst (λ xs. AllByRecursion (λ (x : Incarnation). (owner_of t x.slot.0 ≡ me) × Q x) xs) (sym ended) (each (ended_slots t me b.frame.lives o) down)
        where
          each : (ss : List ℕ) → AllByRecursion (λ s. is_own t me s ≡ true) ss
              → AllByRecursion (λ (x : Incarnation). (owner_of t x.slot.0 ≡ me) × Q x) (map (last_of b.frame.lives) ss)
          each [] h = tt
          each (s ∷ ss) h =
              let rise = lives_rise d (ends o same made ended) s in
              ((own_owner t me s h.0, here (last_of b.frame.lives s) h.0 rise), each ss h.1)

          down : AllByRecursion (λ s. is_own t me s ≡ true) (ended_slots t me b.frame.lives o)
          down =
              all_reverse (λ s. is_own t me s ≡ true) (filter (goes_down t me b.frame.lives o) (slots_of t))
              (all_passed (λ s. is_own t me s ≡ true) (goes_down t me b.frame.lives o) (λ s e. (down_parts t me b.frame.lives o s e).0) (slots_of t))

      -- after a turn
      pub record TurnCreates (r : Treated (Body M)) : Type 0 where
        pub sent : AllSent me r.sent
        pub table : TableIs r.body.table

      asker_of : (kind : SysKind) → IsOf m kind → (e : Endpoint) → asker_by (Some kind) m.source ≡ Some e → asker m ≡ Some e
      asker_of kind is e q = rw (is.0, is.1) q

      pub turn_creates : (r : Treated (Body M)) → Turns t me (λ x c. Unit {0}) SentHere b m r → TableIs b.table
          → ((e : Endpoint) → asker m ≡ Some e → Q (whose e)) → AreHere r.body.frame.lives → TurnCreates r
      unfolding SentHere
      turn_creates r (treats kind test is body sent) h hand here =
          let k = table_is me b.table kind m h (λ e q. hand e (asker_of kind is e q)) in
          record {
            sent = subst (AllSent me) (sym sent) k.sent;
            table = subst (λ (z : Body M). TableIs z.table) (sym body) k.now;
          }
      turn_creates r (hears kind test is body sent) h hand here =
          record {
            sent = subst (AllSent me) (sym sent) (all_off_sent me _ (links_off t me b.links _ kind m));
            table = subst (λ (z : Body M). TableIs z.table) (sym body) h;
          }
      turn_creates r (leads d apart deals off f) h hand here =
          let there : AreHere d.frame.lives = subst AreHere f.lives here in
          record {
            sent = subst (AllSent me) (sym f.sends)
                (all_append (IsSent me) d.sent _ (all_off_sent me d.sent off)
                (all_append (IsSent me) f.asked _ (f.asks there)
                (all_append (IsSent me) (all_ended t me d.ended f.links).sent f.last
                (all_ended_sent d.ended f.links (gone_here d deals.lives there)) (all_off_sent me f.last f.off))));
            table = subst TableIs (sym f.table) h;
          }

      -- generations only rise in a turn
      pub turn_rises : (Asks : Incarnation → NameCommand → Type 0) (R : Lives → Links → List Msg → Links → Type 0) (r : Treated (Body M)) → Turns t me Asks R b m r
          → (s : ℕ) → b.frame.lives.generation s ≤ r.body.frame.lives.generation s
      turn_rises Asks R r (treats kind test is body sent) s = subst (λ (z : Body M). b.frame.lives.generation s ≤ z.frame.lives.generation s) (sym body) (omega arith)
      turn_rises Asks R r (hears kind test is body sent) s = subst (λ (z : Body M). b.frame.lives.generation s ≤ z.frame.lives.generation s) (sym body) (omega arith)
      turn_rises Asks R r (leads d apart deals off f) s =
          subst (λ (z : Lives). b.frame.lives.generation s ≤ z.generation s) (sym f.lives) (lives_rise d deals.lives s)

-- what a name table sends asks nobody, and replies one code with each NameReply
module _ (t : Tables) (me : ℕ) (table : NameTable) (k : SysKind) (m : Msg) where
  any_users : (us : List User) → UsersAre t (λ x. Unit {0}) us
  any_users [] = tt
  any_users (u ∷ us) = (tt, any_users us)

  any_provider : (o : Option Provider) → ProviderIs t (λ x. Unit {0}) o
  any_provider None = tt
  any_provider (Some p) = tt

  any_table : (table : NameTable) → TableIs t (λ x. Unit {0}) table
  any_table [] = tt
  any_table (s ∷ table) = ((any_provider s.provider, any_users s.users), any_table table)

  pub table_plain : AllByRecursion (λ (m : Msg). is_asking m ≡ false) (table_duty t me table k m).sent
  table_plain = (table_is t (λ x. Unit {0}) me table k m (any_table table) (λ x q. tt)).asks

  all_none : (ms : List Msg) → AllByRecursion (λ (m : Msg). is_asking m ≡ false) ms → AllByRecursion (λ (m : Msg). asker m ≡ None) ms
  all_none [] h = tt
  all_none (m ∷ ms) h = (asks_none m h.0, all_none ms h.1)

  pub table_asks : AllByRecursion (λ (m : Msg). asker m ≡ None) (table_duty t me table k m).sent
  table_asks = all_none (table_duty t me table k m).sent table_plain

  pub table_replies : AllByRecursion RepliesOne (table_duty t me table k m).sent
  table_replies = (table_is t (λ x. Unit {0}) me table k m (any_table table) (λ x q. tt)).replies
