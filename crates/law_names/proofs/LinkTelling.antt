-- What a place hears of the joins that the name table adds and ends.
use Rattle.std.proofs.Common.{◌≡◌, ℕ, ◌+◌, ◌≤◌, ◌==◌, ◌&&◌, ◌||◌, Bool, true, false, cond, if◌then◌else◌, List, [], ◌∷◌, ◌++◌, filter, Option, Some, None, ℤ, refl, sym, ap, ◌∙◌, subst, eq-eqb, arith}
use Rattle.std.specs.Option.{option_map_or}
use Rattle.std.specs.List.{AllByRecursion}
use Rattle.room_kinds.specs.declared.message.Msg.{Msg}
use Rattle.room_kinds.specs.declared.numbers.Endpoint.{Endpoint}
use Rattle.room_kinds.specs.declared.system.SysKind.{SysKind}
use Rattle.room_kinds.specs.declared.system.SysKind.TheVariants as kinds
use Rattle.room_wiring.specs.declared.tables.Tables.{Tables}
use Rattle.room_wiring.specs.declared.slot.Slot.{Slot}
use Rattle.room_wiring.specs.Slots.{slot_at, class_of}
use Rattle.actor_duties.specs.Words.{is_endpoint, port_at, owner_of, is_own, is_sap, is_spp}
use Rattle.actor_duties.specs.State.{User, Provider, NameTable, Done}
use Rattle.actor_duties.specs.Messages.{to_owner}
use Rattle.actor_duties.specs.Names.{at_place, name_reply_to, table_duty}
use Rattle.actor_duties.specs.Links.{is_own_point}
use Rattle.actor_duties.specs.Peers.{or_else}
use Rattle.law_agreement.specs.Trails.{is_system_to, hear_all}
use Rattle.law_agreement.proofs.Hearing.{after, after_append}
use Rattle.law_agreement.proofs.Lists.{all_append}
use Rattle.law_names.specs.Links.{Join, joins_with, joins_of, joins, across, joined_in, table_peer, times_joined, without, link_heard, IsProviderPoint, AreUserPoints, ArePoints, IsSound, IsNew}
use Rattle.law_names.proofs.Standing.{same_endpoint, self_endpoint}
use Rattle.law_names.proofs.Soundness.{stays_sound}
use Rattle.law_names.proofs.Joining.{Mixed, mix_none, mix_left, mix_right, all_told, TableStep, idle, binds, ends, table_steps}
use Rattle.law_names.proofs.Single.{single}

-- a service point
abbrev pub IsPoint : Tables → Endpoint → Type 0
IsPoint t e = (is_sap t e.slot.0 e.port || is_spp t e.slot.0 e.port) ≡ true

no_point : (t : Tables) (e : Endpoint) → slot_at t e.slot.0 ≡ None → (is_sap t e.slot.0 e.port || is_spp t e.slot.0 e.port) ≡ false
unfolding is_sap is_spp port_at class_of
no_point t e q = rw q refl

-- the slot of a service point is there, so it is its owner's
pub own_point : (t : Tables) (e : Endpoint) → IsPoint t e → is_own_point t (owner_of t e.slot.0) e ≡ true
unfolding is_own owner_of
own_point t e h = go (slot_at t e.slot.0) refl
  where
    go : (o : Option Slot) → slot_at t e.slot.0 ≡ o → is_own_point t (owner_of t e.slot.0) e ≡ true
    go None q = let z : true ≡ false = sym h ∙ no_point t e q in absurd cc
    go (Some x) q = rw (q, eq-eqb x.owner.0 x.owner.0 refl) h

-- a join of two service points
abbrev pub IsPointed : Tables → Join → Type 0
IsPointed t j = IsPoint t j.place × IsPoint t j.user

module _ (t : Tables) where
  left_or : (x y : Bool) → x ≡ true → (x || y) ≡ true
  left_or x y h = rw h refl

  right_or : (x y : Bool) → y ≡ true → (x || y) ≡ true
  right_or true y h = refl
  right_or false y h = h

  pointed_with : (p : Endpoint) (us : List User) → IsPoint t p → AreUserPoints t us → AllByRecursion (IsPointed t) (joins_with p us)
  pointed_with p [] h k = tt
  pointed_with p (u ∷ us) h k = go u.linked (pointed_with p us h k.1)
    where
      go : (o : Option ℕ) → AllByRecursion (IsPointed t) (joins_with p us)
          → AllByRecursion (IsPointed t) (option_map_or (λ n. record { place = at_place p n; user = u.at } ∷ []) o [] ++ joins_with p us)
      go None r = r
      go (Some n) r = ((h, left_or (is_sap t u.at.slot.0 u.at.port) (is_spp t u.at.slot.0 u.at.port) k.0.0), r)

  pointed_of : (o : Option Provider) (us : List User) → IsProviderPoint t o → AreUserPoints t us → AllByRecursion (IsPointed t) (joins_of o us)
  pointed_of None us h k = tt
  pointed_of (Some p) us h k = pointed_with p.at us (right_or (is_sap t p.at.slot.0 p.at.port) (is_spp t p.at.slot.0 p.at.port) h.0) k

  pub pointed : (table : NameTable) → ArePoints t table → AllByRecursion (IsPointed t) (joins table)
  pointed [] h = tt
  pointed (s ∷ rest) h = all_append (IsPointed t) (joins_of s.provider s.users) (joins rest) (pointed_of s.provider s.users h.0.0 h.0.1) (pointed rest h.1)

  left_pointed : {n r w : List Join} → Mixed n r w → AllByRecursion (IsPointed t) w → AllByRecursion (IsPointed t) n
  left_pointed mix_none h = tt
  left_pointed (mix_left j k) h = (h.0, left_pointed k h.1)
  left_pointed (mix_right j k) h = left_pointed k h.1

-- a peer is gone where it is the other side of a join that ended
abbrev pub gone : Option Endpoint → Option Endpoint → Option Endpoint
gone None o = o
gone (Some b) o = without b o

module _ (t : Tables) (a : Endpoint) where
  -- the owner of the place, and what it hears
  abbrev pub home : ℕ
  home = owner_of t a.slot.0

  abbrev pub hear : Msg → Option Endpoint → Option Endpoint
  hear = link_heard t home a

  abbrev pub told : List Msg → Option Endpoint → Option Endpoint
  told ms o = after hear home ms o

  told_more : (m : Msg) (ms : List Msg) (o : Option Endpoint) → told (m ∷ ms) o ≡ told ms (if is_system_to home m then hear m o else o)
  told_more m ms o = go (is_system_to home m)
    where
      go : (b : Bool) → hear_all hear (cond b (m ∷ filter (is_system_to home) ms) (filter (is_system_to home) ms)) o
          ≡ hear_all hear (filter (is_system_to home) ms) (if b then hear m o else o)
      go true = refl
      go false = refl

  either : (b : Bool) (o : Option Endpoint) → (if b then o else o) ≡ o
  either true o = refl
  either false o = refl

  reply_one : (e : Endpoint) (code : List ℤ) (o : Option Endpoint) → (if is_system_to home (name_reply_to t e code) then hear (name_reply_to t e code) o else o) ≡ o
  unfolding link_heard
  reply_one e code o = either (is_system_to home (name_reply_to t e code)) o

  own_at : (target : Endpoint) → IsPoint t target → is_endpoint target a ≡ true → is_own_point t home target ≡ true
  own_at target point e = subst (λ n. is_own_point t n target ≡ true) (ap (λ (z : Endpoint). owner_of t z.slot.0) (same_endpoint target a e)) (own_point t target point)

  sent_here : (target : Endpoint) → is_endpoint target a ≡ true → (home == owner_of t target.slot.0) ≡ true
  sent_here target e = eq-eqb home (owner_of t target.slot.0) (ap (λ (z : Endpoint). owner_of t z.slot.0) (sym (same_endpoint target a e)))

  elsewhere : (x y : Bool) (v o : Option Endpoint) → (if x && true then (if y && false then v else o) else o) ≡ o
  elsewhere true true v o = refl
  elsewhere true false v o = refl
  elsewhere false y v o = refl

  bound_one : (source target : Endpoint) → IsPoint t target → (o : Option Endpoint)
      → (if is_system_to home (to_owner t 0 kinds.Bound source target []) then hear (to_owner t 0 kinds.Bound source target []) o else o)
      ≡ (if is_endpoint target a then Some source else o)
  unfolding link_heard
  bound_one source target point o = go (is_endpoint target a) refl
    where
      go : (b : Bool) → is_endpoint target a ≡ b
          → (if (home == owner_of t target.slot.0) && true then (if is_own_point t home target && b then Some source else o) else o) ≡ (if b then Some source else o)
      go true e = rw (sent_here target e, own_at target point e) refl
      go false e = elsewhere (home == owner_of t target.slot.0) (is_own_point t home target) (Some source) o

  ended_one : (source target : Endpoint) → IsPoint t target → (o : Option Endpoint)
      → (if is_system_to home (to_owner t 0 kinds.Ended source target []) then hear (to_owner t 0 kinds.Ended source target []) o else o)
      ≡ (if is_endpoint target a then without source o else o)
  unfolding link_heard
  ended_one source target point o = go (is_endpoint target a) refl
    where
      go : (b : Bool) → is_endpoint target a ≡ b
          → (if (home == owner_of t target.slot.0) && true then (if is_own_point t home target && b then without source o else o) else o) ≡ (if b then without source o else o)
      go true e = rw (sent_here target e, own_at target point e) refl
      go false e = elsewhere (home == owner_of t target.slot.0) (is_own_point t home target) (without source o) o

  -- where both sides of a join are one place, they are one
  one_side : (j : Join) → is_endpoint j.place a ≡ true → is_endpoint j.user a ≡ true → j.place ≡ j.user
  one_side j h k = same_endpoint j.place a h ∙ sym (same_endpoint j.user a k)

  bound_join : (j : Join) (js : List Join) → IsPointed t j → (o : Option Endpoint)
      → told (all_told t kinds.Bound (j ∷ js)) o ≡ told (all_told t kinds.Bound js) (or_else (across a j) o)
  bound_join j js point o =
      told_more (to_owner t 0 kinds.Bound j.user j.place []) (to_owner t 0 kinds.Bound j.place j.user [] ∷ all_told t kinds.Bound js) o
      ∙ ap (told (to_owner t 0 kinds.Bound j.place j.user [] ∷ all_told t kinds.Bound js)) (bound_one j.user j.place point.0 o)
      ∙ told_more (to_owner t 0 kinds.Bound j.place j.user []) (all_told t kinds.Bound js) (if is_endpoint j.place a then Some j.user else o)
      ∙ ap (told (all_told t kinds.Bound js)) (bound_one j.place j.user point.1 (if is_endpoint j.place a then Some j.user else o))
      ∙ ap (told (all_told t kinds.Bound js)) (go (is_endpoint j.place a) refl (is_endpoint j.user a) refl)
    where
      go : (x : Bool) → is_endpoint j.place a ≡ x → (y : Bool) → is_endpoint j.user a ≡ y
          → (if y then Some j.place else (if x then Some j.user else o)) ≡ or_else (if x then Some j.user else if y then Some j.place else None) o
      go true e true f = ap Some (one_side j e f)
      go true e false f = refl
      go false e true f = refl
      go false e false f = refl

  twice : (b : Endpoint) (o : Option Endpoint) → without b (without b o) ≡ without b o
  twice b None = refl
  twice b (Some x) = go (is_endpoint x b) refl
    where
      go : (z : Bool) → is_endpoint x b ≡ z → without b (if z then None else Some x) ≡ (if z then None else Some x)
      go true e = refl
      go false e = rw e refl

  ended_join : (j : Join) (js : List Join) → IsPointed t j → (o : Option Endpoint)
      → told (all_told t kinds.Ended (j ∷ js)) o ≡ told (all_told t kinds.Ended js) (gone (across a j) o)
  ended_join j js point o =
      told_more (to_owner t 0 kinds.Ended j.user j.place []) (to_owner t 0 kinds.Ended j.place j.user [] ∷ all_told t kinds.Ended js) o
      ∙ ap (told (to_owner t 0 kinds.Ended j.place j.user [] ∷ all_told t kinds.Ended js)) (ended_one j.user j.place point.0 o)
      ∙ told_more (to_owner t 0 kinds.Ended j.place j.user []) (all_told t kinds.Ended js) (if is_endpoint j.place a then without j.user o else o)
      ∙ ap (told (all_told t kinds.Ended js)) (ended_one j.place j.user point.1 (if is_endpoint j.place a then without j.user o else o))
      ∙ ap (told (all_told t kinds.Ended js)) (go (is_endpoint j.place a) refl (is_endpoint j.user a) refl)
    where
      go : (x : Bool) → is_endpoint j.place a ≡ x → (y : Bool) → is_endpoint j.user a ≡ y
          → (if y then without j.place (if x then without j.user o else o) else (if x then without j.user o else o)) ≡ gone (if x then Some j.user else if y then Some j.place else None) o
      go true e true f = ap (λ (z : Endpoint). without z (without j.user o)) (one_side j e f) ∙ twice j.user o
      go true e false f = refl
      go false e true f = refl
      go false e false f = refl

  times_mixed : {n r w : List Join} → Mixed n r w → times_joined a n + times_joined a r ≡ times_joined a w
  times_mixed mix_none = refl
  times_mixed (mix_left j k) = let h = times_mixed k in omega (arith, h)
  times_mixed (mix_right j k) = let h = times_mixed k in omega (arith, h)

  -- where a place is a side of none of the joins
  apart : (j : Join) (js : List Join) → times_joined a (j ∷ js) ≡ 0 → (across a j ≡ None) × (times_joined a js ≡ 0)
  apart j js h = go (across a j) h
    where
      go : (o : Option Endpoint) → option_map_or (λ (x : Endpoint). 1) o 0 + times_joined a js ≡ 0 → (o ≡ None) × (times_joined a js ≡ 0)
      go None q = (refl, omega (arith, q))
      go (Some x) q = absurd (omega (arith, q))

  -- where it is a side of one at most, and of the first, it is a side of no other
  only_first : (b : Endpoint) (j : Join) (js : List Join) → across a j ≡ Some b → times_joined a (j ∷ js) ≤ 1 → times_joined a js ≡ 0
  only_first b j js e h = let k : 1 + times_joined a js ≤ 1 = rw e at h in omega (arith, k)

  later : (j : Join) (js : List Join) → times_joined a (j ∷ js) ≤ 1 → times_joined a js ≤ 1
  later j js h = omega (arith, h)

  joined_nowhere : (js : List Join) → times_joined a js ≡ 0 → joined_in a js ≡ None
  joined_nowhere [] h = refl
  joined_nowhere (j ∷ js) h = let k = apart j js h in rw k.0 (joined_nowhere js k.1)

  silent_bound : (n : List Join) → times_joined a n ≡ 0 → AllByRecursion (IsPointed t) n → (o : Option Endpoint) → told (all_told t kinds.Bound n) o ≡ o
  silent_bound [] h p o = refl
  silent_bound (j ∷ js) h p o =
      let k = apart j js h in
      bound_join j js p.0 o ∙ ap (λ (z : Option Endpoint). told (all_told t kinds.Bound js) (or_else z o)) k.0 ∙ silent_bound js k.1 p.1 o

  silent_ended : (n : List Join) → times_joined a n ≡ 0 → AllByRecursion (IsPointed t) n → (o : Option Endpoint) → told (all_told t kinds.Ended n) o ≡ o
  silent_ended [] h p o = refl
  silent_ended (j ∷ js) h p o =
      let k = apart j js h in
      ended_join j js p.0 o ∙ ap (λ (z : Option Endpoint). told (all_told t kinds.Ended js) (gone z o)) k.0 ∙ silent_ended js k.1 p.1 o

  no_part : {n r w : List Join} → Mixed n r w → times_joined a w ≡ 0 → (times_joined a n ≡ 0) × (times_joined a r ≡ 0)
  no_part k h = let z = times_mixed k in (omega (arith, h, z), omega (arith, h, z))

  -- joins that are added are heard of
  bound_mixed : {n r w : List Join} → Mixed n r w → times_joined a w ≤ 1 → AllByRecursion (IsPointed t) n
      → told (all_told t kinds.Bound n) (joined_in a r) ≡ joined_in a w
  bound_mixed mix_none h p = refl
  bound_mixed (mix_left j {n = n} {r = r} {w = w} k) h p =
      bound_join j n p.0 (joined_in a r) ∙ go (across a j) refl (bound_mixed k (later j w h) p.1)
    where
      go : (o : Option Endpoint) → across a j ≡ o → told (all_told t kinds.Bound n) (joined_in a r) ≡ joined_in a w
          → told (all_told t kinds.Bound n) (or_else o (joined_in a r)) ≡ or_else o (joined_in a w)
      go None e ih = ih
      go (Some b) e ih = silent_bound n (no_part k (only_first b j w e h)).0 p.1 (Some b)
  bound_mixed (mix_right j {n = n} {r = r} {w = w} k) h p = go (across a j) refl (bound_mixed k (later j w h) p)
    where
      go : (o : Option Endpoint) → across a j ≡ o → told (all_told t kinds.Bound n) (joined_in a r) ≡ joined_in a w
          → told (all_told t kinds.Bound n) (or_else o (joined_in a r)) ≡ or_else o (joined_in a w)
      go None e ih = ih
      go (Some b) e ih = silent_bound n (no_part k (only_first b j w e h)).0 p (Some b)

  -- joins that end are heard of
  ended_mixed : {n r w : List Join} → Mixed n r w → times_joined a w ≤ 1 → AllByRecursion (IsPointed t) n
      → told (all_told t kinds.Ended n) (joined_in a w) ≡ joined_in a r
  ended_mixed mix_none h p = refl
  ended_mixed (mix_left j {n = n} {r = r} {w = w} k) h p =
      ended_join j n p.0 (joined_in a (j ∷ w)) ∙ go (across a j) refl (ended_mixed k (later j w h) p.1)
    where
      go : (o : Option Endpoint) → across a j ≡ o → told (all_told t kinds.Ended n) (joined_in a w) ≡ joined_in a r
          → told (all_told t kinds.Ended n) (gone o (or_else o (joined_in a w))) ≡ joined_in a r
      go None e ih = ih
      go (Some b) e ih =
          let none = no_part k (only_first b j w e h) in
          ap (λ (z : Bool). told (all_told t kinds.Ended n) (if z then None else Some b)) (self_endpoint b)
          ∙ silent_ended n none.0 p.1 None ∙ sym (joined_nowhere r none.1)
  ended_mixed (mix_right j {n = n} {r = r} {w = w} k) h p = go (across a j) refl (ended_mixed k (later j w h) p)
    where
      go : (o : Option Endpoint) → across a j ≡ o → told (all_told t kinds.Ended n) (joined_in a w) ≡ joined_in a r
          → told (all_told t kinds.Ended n) (or_else o (joined_in a w)) ≡ or_else o (joined_in a r)
      go None e ih = ih
      go (Some b) e ih = silent_ended n (no_part k (only_first b j w e h)).0 p (Some b)

  step_told : (before : List Join) (sent : List Msg) (now : List Join) → TableStep t before sent now → times_joined a before ≤ 1 → times_joined a now ≤ 1
      → AllByRecursion (IsPointed t) before → AllByRecursion (IsPointed t) now → told sent (joined_in a before) ≡ joined_in a now
  step_told before sent now (idle same none) h k p q = ap (λ (z : List Msg). told z (joined_in a before)) none ∙ ap (joined_in a) (sym same)
  step_told before sent now (binds e code new mixed is) h k p q =
      ap (λ (z : List Msg). told z (joined_in a before)) is
      ∙ told_more (name_reply_to t e code) (all_told t kinds.Bound new) (joined_in a before)
      ∙ ap (told (all_told t kinds.Bound new)) (reply_one e code (joined_in a before))
      ∙ bound_mixed mixed k (left_pointed t mixed q)
  step_told before sent now (ends e code old mixed is) h k p q =
      ap (λ (z : List Msg). told z (joined_in a before)) is
      ∙ after_append hear home (all_told t kinds.Ended old) (name_reply_to t e code ∷ []) (joined_in a before)
      ∙ ap (told (name_reply_to t e code ∷ [])) (ended_mixed mixed h (left_pointed t mixed p))
      ∙ told_more (name_reply_to t e code) [] (joined_in a now)
      ∙ reply_one e code (joined_in a now)

  -- a duty of a sound table tells the owner of a place how its links change
  pub table_told : (me : ℕ) (table : NameTable) (kind : SysKind) (m : Msg) → IsNew table kind m → IsSound t table
      → told (table_duty t me table kind m).sent (table_peer table a) ≡ table_peer (table_duty t me table kind m).now a
  table_told me table kind m new sound =
      let r : Done NameTable = table_duty t me table kind m in
      let next : IsSound t r.now = stays_sound t me table kind m new sound in
      step_told (joins table) r.sent (joins r.now) (table_steps t me table kind m sound.orderly) (single a t table sound) (single a t r.now next)
      (pointed t table sound.points) (pointed t r.now next.points)
