-- What the lives of actors do to registrations: who comes up has none, and of who ends all are withdrawn.
use Rattle.std.proofs.Common.{◌≡◌, ℕ, zero, suc, ◌+◌, ◌<◌, ◌≤◌, ◌==◌, ◌&&◌, ◌||◌, ◌⊎◌, inl, inr, nat_le, Bool, true, false, not, if◌then◌else◌, cond, List, [], ◌∷◌, ◌++◌, map, filter, flat_map, length, slice_get, Option, Some, None, refl, sym, ap, ◌∙◌, subst, eqb-true, eq-eqb, append-nil, arith, get_or}
use Rattle.std.specs.Option.{option_map_or, option_and_then}
use Rattle.std.specs.List.{range_with_len}
use Rattle.std.proofs.lemmas.Bool.{eqb-false, le-leb, lt-leb, cases_lt, cases_eq}
use Rattle.std.proofs.lemmas.Option.{slice_get_cases}
use Rattle.room_kinds.specs.declared.message.Msg.{Msg}
use Rattle.room_kinds.specs.declared.numbers.Incarnation.{Incarnation}
use Rattle.room_kinds.specs.declared.numbers.Endpoint.{Endpoint}
use Rattle.room_kinds.specs.declared.system.SysKind.{SysKind}
use Rattle.room_kinds.specs.declared.system.SysKind.TheVariants as kinds
use Rattle.room_wiring.specs.declared.tables.Tables.{Tables}
use Rattle.room_wiring.specs.declared.names.ClassNames.{ClassNames}
use Rattle.room_wiring.specs.declared.names.PortNames.{PortNames}
use Rattle.room_wiring.specs.Slots.{class_of}
use Rattle.room_wiring.specs.Places.{port_count}
use Rattle.actor_duties.specs.Words.{updated, is_endpoint, is_sap, is_spp, is_sap_kind, is_spp_kind, port_at, ports_of, slots_of}
use Rattle.actor_duties.specs.State.{Lives, Links, Registration, Unnamed, Done}
use Rattle.actor_duties.specs.Messages.{system}
use Rattle.actor_duties.specs.Lives.{last_of, comes_up, lives_made, lives_ended, ended_slots, goes_down}
use Rattle.actor_duties.specs.Links.{point_of, is_entered, end_of}
use Rattle.actor_world.proofs.Slots.{own_in_range}
use Rattle.actor_world.proofs.LifeSteps.{up_parts, down_parts}
use Rattle.service_messages.proofs.slot_runs.RunLemmas.{not_true_false}
use Rattle.law_agreement.proofs.Lists.{has, has_range, has_filter, has_reverse}
use Rattle.law_agreement.proofs.Hearing.{swap_eqb}
use Rattle.law_names.specs.Registrations.{is_point_port, NotYet, Over, Now, is_point, stage_by, stage, asked, replied}
use Rattle.law_names.proofs.Naming.{all_ended}
use Rattle.law_names.proofs.Rows.{KeepsRow, keeps_none, keeps_begin, keeps_end}
use Rattle.law_names.proofs.Standing.{same_endpoint, self_endpoint, flat_append}
use Rattle.law_names.proofs.Registering.{NamesHere, RowsOn}

-- a service point has its number among the ports of its slot
point_inside : (t : Tables) (s p : ℕ) → is_point_port t s p ≡ true → p < port_count t s
unfolding is_sap is_spp port_at port_count
point_inside t s p h = go (class_of t s) h
  where
    inside : (c : ClassNames)
        → ((x : PortNames) × (p < length c.ports) × (slice_get c.ports p ≡ Some x) × (get_or c.ports p x ≡ x)) ⊎ ((length c.ports ≤ p) × (slice_get c.ports p ≡ None))
        → (option_map_or (λ (x : PortNames). is_sap_kind x.kind) (slice_get c.ports p) false || option_map_or (λ (x : PortNames). is_spp_kind x.kind) (slice_get c.ports p) false) ≡ true
        → p < length c.ports
    inside c (inl q) k = q.1
    inside c (inr q) k =
        let none : (false || false) ≡ true =
        subst (λ (o : Option PortNames). (option_map_or (λ (x : PortNames). is_sap_kind x.kind) o false || option_map_or (λ (x : PortNames). is_spp_kind x.kind) o false) ≡ true) q.1 k in
        absurd cc

    go : (o : Option ClassNames)
        → (option_map_or (λ (x : PortNames). is_sap_kind x.kind) (option_and_then (λ (c : ClassNames). slice_get c.ports p) o) false
        || option_map_or (λ (x : PortNames). is_spp_kind x.kind) (option_and_then (λ (c : ClassNames). slice_get c.ports p) o) false) ≡ true
        → p < option_map_or (λ (c : ClassNames). length c.ports) o 0
    go None k = absurd cc
    go (Some c) k = inside c (slice_get_cases c.ports p).1 k

-- a generation that is new
fresh : (p d : Bool) (last g : ℕ) → (last + 1 == g) ≡ d → KeepsRow (stage_by p false (nat_le g last) Unnamed) [] (stage_by p d (nat_le g (last + 1)) Unnamed)
fresh false d last g e = keeps_none NotYet
fresh true true last g e =
    let same : last + 1 ≡ g = eqb-true (last + 1) g e in
    subst (λ b. KeepsRow (stage_by true false b Unnamed) [] (Now Unnamed)) (sym (lt-leb g last (omega (arith, same)))) keeps_begin
fresh true false last g e =
    subst (λ b. KeepsRow (stage_by true false b Unnamed) [] (stage_by true false (nat_le g (last + 1)) Unnamed)) (sym (same (cases_lt last g)))
    (keeps_none (stage_by true false (nat_le g (last + 1)) Unnamed))
  where
    apart : last + 1 ≡ g → ⊥
    apart q = eqb-false (last + 1) g e q

    same : (last < g) ⊎ (g ≤ last) → nat_le g last ≡ nat_le g (last + 1)
    same (inl below) = lt-leb g last below ∙ sym (lt-leb g (last + 1) (higher (cases_eq (last + 1) g)))
      where
        higher : (last + 1 ≡ g) ⊎ (last + 1 ≡ g → ⊥) → last + 1 < g
        higher (inl q) = absurd (apart q)
        higher (inr q) = omega (arith, below, q)
    same (inr above) = le-leb g last above ∙ sym (le-leb g (last + 1) (omega (arith, above)))

module _ (t : Tables) (e : Endpoint) (me : ℕ) (l : Lives) (a : Links) (names_here : NamesHere t l a) where
  -- an optional slot is made
  pub made_on : (o : ℕ) → RowsOn t e l a [] (lives_made t me o l) a
  unfolding lives_made
  made_on o =
      record {
        names = λ s p. lives_on s p (names_here s p) (comes_up t me l o s);
        codes = refl;
        keeps = go (comes_up t me l o e.slot.0) refl;
      }
    where
      lives_on : (s p : ℕ) → (a.registrations s p ≡ Unnamed) ⊎ ((l.lives s ≡ true) × (is_point_port t s p ≡ true)) → (b : Bool)
          → (a.registrations s p ≡ Unnamed) ⊎ (((b || l.lives s) ≡ true) × (is_point_port t s p ≡ true))
      lives_on s p (inl none) b = inl none
      lives_on s p (inr some) true = inr (refl, some.1)
      lives_on s p (inr some) false = inr some

      new : l.lives e.slot.0 ≡ false → (a.registrations e.slot.0 e.port ≡ Unnamed) ⊎ ((l.lives e.slot.0 ≡ true) × (is_point_port t e.slot.0 e.port ≡ true))
          → KeepsRow (stage_by (is_point t e) (l.lives e.slot.0 && (l.generation e.slot.0 == e.generation.0)) (nat_le e.generation.0 (l.generation e.slot.0)) (a.registrations e.slot.0 e.port)) []
          (stage_by (is_point t e) (l.generation e.slot.0 + 1 == e.generation.0) (nat_le e.generation.0 (l.generation e.slot.0 + 1)) (a.registrations e.slot.0 e.port))
      new dead (inr some) = absurd (not_true_false (l.lives e.slot.0) some.0 dead)
      new dead (inl none) =
          subst (λ r. KeepsRow (stage_by (is_point t e) (l.lives e.slot.0 && (l.generation e.slot.0 == e.generation.0)) (nat_le e.generation.0 (l.generation e.slot.0)) r) []
          (stage_by (is_point t e) (l.generation e.slot.0 + 1 == e.generation.0) (nat_le e.generation.0 (l.generation e.slot.0 + 1)) r)) (sym none)
          (subst (λ b. KeepsRow (stage_by (is_point t e) (b && (l.generation e.slot.0 == e.generation.0)) (nat_le e.generation.0 (l.generation e.slot.0)) Unnamed) []
          (stage_by (is_point t e) (l.generation e.slot.0 + 1 == e.generation.0) (nat_le e.generation.0 (l.generation e.slot.0 + 1)) Unnamed)) (sym dead)
          (fresh (is_point t e) (l.generation e.slot.0 + 1 == e.generation.0) (l.generation e.slot.0) e.generation.0 refl))

      go : (b : Bool) → comes_up t me l o e.slot.0 ≡ b
          → KeepsRow (stage t l a e) []
          (stage_by (is_point t e) ((b || l.lives e.slot.0) && ((if b then l.generation e.slot.0 + 1 else l.generation e.slot.0) == e.generation.0))
          (nat_le e.generation.0 (if b then l.generation e.slot.0 + 1 else l.generation e.slot.0)) (a.registrations e.slot.0 e.port))
      go false is = keeps_none (stage t l a e)
      go true is = new (up_parts t me l o e.slot.0 is).1 (names_here e.slot.0 e.port)

-- what is withdrawn at the end of actors
module _ (t : Tables) (e : Endpoint) (me : ℕ) where
  abbrev Withdrawal : Incarnation → ℕ → Msg
  Withdrawal x p = system me 0 kinds.Withdraw (point_of x p) (point_of x p) []

  abbrev Asks : List Msg → List SysKind
  Asks ms = flat_map (asked e) ms

  -- whether the end of an actor withdraws this endpoint, where it is entered
  abbrev Hits : Incarnation → Bool
  Hits x = is_endpoint (point_of x e.port) e

  abbrev Entered : Registration → List SysKind
  Entered r = if is_entered r then kinds.Withdraw ∷ [] else []

  unasked : (x : Incarnation) (p : ℕ) → is_endpoint (point_of x p) e ≡ false → asked e (Withdrawal x p) ≡ []
  unasked x p apart = ap (λ (b : Bool). if b && is_endpoint (point_of x p) (point_of x p) then kinds.Withdraw ∷ [] else []) apart

  hit_port : (x : Incarnation) (p : ℕ) → is_endpoint (point_of x p) e ≡ true → p ≡ e.port
  hit_port x p h = ap (λ (z : Endpoint). z.port) (same_endpoint (point_of x p) e h)

  -- another actor withdraws nothing of it
  missed : (x : Incarnation) → Hits x ≡ false → (ps : List ℕ) → Asks (map (Withdrawal x) ps) ≡ []
  missed x apart [] = refl
  missed x apart (p ∷ ps) = ap (λ (z : List SysKind). z ++ Asks (map (Withdrawal x) ps)) (unasked x p (go (is_endpoint (point_of x p) e) refl)) ∙ missed x apart ps
    where
      go : (b : Bool) → is_endpoint (point_of x p) e ≡ b → is_endpoint (point_of x p) e ≡ false
      go false h = h
      go true h = (let port = hit_port x p h in let k : true ≡ false = sym h ∙ ap (λ n. is_endpoint (point_of x n) e) port ∙ apart in absurd cc)

  -- ports behind it, and ports that aren't it
  other_port : (x : Incarnation) (p : ℕ) → (p ≡ e.port → ⊥) → asked e (Withdrawal x p) ≡ []
  other_port x p apart = unasked x p (go (is_endpoint (point_of x p) e) refl)
    where
      go : (b : Bool) → is_endpoint (point_of x p) e ≡ b → is_endpoint (point_of x p) e ≡ false
      go false h = h
      go true h = absurd (apart (hit_port x p h))

  behind : (x : Incarnation) (g : ℕ → Bool) (n k : ℕ) → e.port < k → Asks (map (Withdrawal x) (filter g (range_with_len k n))) ≡ []
  behind x g zero k above = refl
  behind x g (suc n) k above = go (g k) (behind x g n (k + 1) (omega (arith, above)))
    where
      go : (b : Bool) → Asks (map (Withdrawal x) (filter g (range_with_len (k + 1) n))) ≡ []
          → Asks (map (Withdrawal x) (cond b (k ∷ filter g (range_with_len (k + 1) n)) (filter g (range_with_len (k + 1) n)))) ≡ []
      go true h = ap (λ (z : List SysKind). z ++ Asks (map (Withdrawal x) (filter g (range_with_len (k + 1) n)))) (other_port x k (λ q. omega (arith, above, q))) ∙ h
      go false h = h

  -- no port that isn't entered
  unentered : (x : Incarnation) (g : ℕ → Bool) → g e.port ≡ false → (ps : List ℕ) → Asks (map (Withdrawal x) (filter g ps)) ≡ []
  unentered x g none [] = refl
  unentered x g none (p ∷ ps) = go (g p) refl (unentered x g none ps)
    where
      go : (b : Bool) → g p ≡ b → Asks (map (Withdrawal x) (filter g ps)) ≡ [] → Asks (map (Withdrawal x) (cond b (p ∷ filter g ps) (filter g ps))) ≡ []
      go true is h =
          ap (λ (z : List SysKind). z ++ Asks (map (Withdrawal x) (filter g ps)))
          (other_port x p (λ q. not_true_false (g p) is (ap g q ∙ none))) ∙ h
      go false is h = h

  -- its own port once
  entered_once : (x : Incarnation) (g : ℕ → Bool) → g e.port ≡ true → Hits x ≡ true → (n k : ℕ) → k ≤ e.port → e.port < k + n
      → Asks (map (Withdrawal x) (filter g (range_with_len k n))) ≡ kinds.Withdraw ∷ []
  entered_once x g is hits zero k low high = absurd (omega (arith, low, high))
  entered_once x g is hits (suc n) k low high =
      go (cases_eq k e.port) (λ apart. entered_once x g is hits n (k + 1) (omega (arith, low, apart)) (omega (arith, high)))
    where
      later : (b : Bool) → (k ≡ e.port → ⊥) → Asks (map (Withdrawal x) (filter g (range_with_len (k + 1) n))) ≡ kinds.Withdraw ∷ []
          → Asks (map (Withdrawal x) (cond b (k ∷ filter g (range_with_len (k + 1) n)) (filter g (range_with_len (k + 1) n)))) ≡ kinds.Withdraw ∷ []
      later true apart h = ap (λ (z : List SysKind). z ++ Asks (map (Withdrawal x) (filter g (range_with_len (k + 1) n)))) (other_port x k apart) ∙ h
      later false apart h = h

      token : k ≡ e.port → asked e (Withdrawal x k) ≡ kinds.Withdraw ∷ []
      token here =
          ap (λ n. asked e (Withdrawal x n)) here
          ∙ ap (λ (b : Bool). if b && is_endpoint (point_of x e.port) (point_of x e.port) then kinds.Withdraw ∷ [] else []) hits
          ∙ ap (λ (b : Bool). if true && b then kinds.Withdraw ∷ [] else []) (self_endpoint (point_of x e.port))

      now : (b : Bool) → b ≡ true → k ≡ e.port
          → Asks (map (Withdrawal x) (cond b (k ∷ filter g (range_with_len (k + 1) n)) (filter g (range_with_len (k + 1) n)))) ≡ kinds.Withdraw ∷ []
      now false q here = absurd cc
      now true q here =
          ap (λ (z : List SysKind). z ++ Asks (map (Withdrawal x) (filter g (range_with_len (k + 1) n)))) (token here)
          ∙ ap (λ (z : List SysKind). kinds.Withdraw ∷ z) (behind x g n (k + 1) (omega (arith, here)))

      go : (k ≡ e.port) ⊎ (k ≡ e.port → ⊥) → ((k ≡ e.port → ⊥) → Asks (map (Withdrawal x) (filter g (range_with_len (k + 1) n))) ≡ kinds.Withdraw ∷ [])
          → Asks (map (Withdrawal x) (filter g (range_with_len k (suc n)))) ≡ kinds.Withdraw ∷ []
      go (inl here) rest = now (g k) (ap g here ∙ is) here
      go (inr apart) rest = later (g k) apart (rest apart)

  -- registrations are of service points alone
  abbrev PointsAlone : Links → Type 0
  PointsAlone a = (s p : ℕ) → (a.registrations s p ≡ Unnamed) ⊎ (is_point_port t s p ≡ true)

  -- what the end of one actor asks for the endpoint
  end_asks : (a : Links) (x : Incarnation) → PointsAlone a → Asks (end_of t me a x).sent ≡ (if Hits x then Entered (a.registrations e.slot.0 e.port) else [])
  unfolding end_of
  end_asks a x points = go (Hits x) refl
    where
      inside : is_entered (a.registrations x.slot.0 e.port) ≡ true → (a.registrations x.slot.0 e.port ≡ Unnamed) ⊎ (is_point_port t x.slot.0 e.port ≡ true) → e.port < port_count t x.slot.0
      inside is (inl none) = (let q : false ≡ true = sym (ap is_entered none) ∙ is in absurd cc)
      inside is (inr point) = point_inside t x.slot.0 e.port point

      its : (b : Bool) → is_entered (a.registrations x.slot.0 e.port) ≡ b → Hits x ≡ true
          → Asks (map (Withdrawal x) (filter (λ p. is_entered (a.registrations x.slot.0 p)) (range_with_len 0 (port_count t x.slot.0)))) ≡ (if b then kinds.Withdraw ∷ [] else [])
      its true is hits =
          let below = inside is (points x.slot.0 e.port) in
          entered_once x (λ p. is_entered (a.registrations x.slot.0 p)) is hits (port_count t x.slot.0) 0 (omega arith) (omega (arith, below))
      its false is hits = unentered x (λ p. is_entered (a.registrations x.slot.0 p)) is (range_with_len 0 (port_count t x.slot.0))

      go : (b : Bool) → Hits x ≡ b
          → Asks (map (Withdrawal x) (filter (λ p. is_entered (a.registrations x.slot.0 p)) (ports_of t x.slot.0))) ≡ (if b then Entered (a.registrations e.slot.0 e.port) else [])
      go true hits =
          let slot : x.slot.0 ≡ e.slot.0 = ap (λ (z : Endpoint). z.slot.0) (same_endpoint (point_of x e.port) e hits) in
          its (is_entered (a.registrations x.slot.0 e.port)) refl hits ∙ ap (λ n. Entered (a.registrations n e.port)) slot
      go false apart = missed x apart (filter (λ p. is_entered (a.registrations x.slot.0 p)) (ports_of t x.slot.0))

  end_codes : (a : Links) (x : Incarnation) → flat_map (replied e) (end_of t me a x).sent ≡ []
  unfolding end_of
  end_codes a x = each (filter (λ p. is_entered (a.registrations x.slot.0 p)) (ports_of t x.slot.0))
    where
      each : (ps : List ℕ) → flat_map (replied e) (map (λ p. system me 0 kinds.Withdraw (point_of x p) (point_of x p) []) ps) ≡ []
      each [] = refl
      each (p ∷ ps) = each ps

  end_registrations : (a : Links) (x : Incarnation) (n p : ℕ) → (end_of t me a x).now.registrations n p ≡ (if n == x.slot.0 then Unnamed else a.registrations n p)
  unfolding end_of updated
  end_registrations a x n p = go (n == x.slot.0)
    where
      go : (b : Bool) → (if b then (λ (q : ℕ). Unnamed) else a.registrations n) p ≡ (if b then Unnamed else a.registrations n p)
      go true = refl
      go false = refl

  points_after : (a : Links) (x : Incarnation) → PointsAlone a → PointsAlone (end_of t me a x).now
  points_after a x points n p = go (n == x.slot.0) refl (points n p)
    where
      go : (b : Bool) → (n == x.slot.0) ≡ b → (a.registrations n p ≡ Unnamed) ⊎ (is_point_port t n p ≡ true)
          → ((end_of t me a x).now.registrations n p ≡ Unnamed) ⊎ (is_point_port t n p ≡ true)
      go true is h = inl (end_registrations a x n p ∙ ap (λ (b : Bool). if b then Unnamed else a.registrations n p) is)
      go false is (inl none) = inl (end_registrations a x n p ∙ ap (λ (b : Bool). if b then Unnamed else a.registrations n p) is ∙ none)
      go false is (inr point) = inr point

  module _ (l : Lives) where
    -- what the actors of these slots leave, when they have ended one after another
    record Gone (ss : List ℕ) (a : Links) (r : Done Links) : Type 0 where
      pub registrations : (s p : ℕ) → r.now.registrations s p ≡ (if has s ss then Unnamed else a.registrations s p)
      pub asks : Asks r.sent ≡ (if has e.slot.0 ss && Hits (last_of l e.slot.0) then Entered (a.registrations e.slot.0 e.port) else [])
      pub codes : flat_map (replied e) r.sent ≡ []

    -- one more actor ends before them
    gone_more : (s : ℕ) (ss : List ℕ) (a : Links) → PointsAlone a
        → Gone ss (end_of t me a (last_of l s)).now (all_ended t me (map (last_of l) ss) (end_of t me a (last_of l s)).now)
        → Gone (s ∷ ss) a (all_ended t me (map (last_of l) (s ∷ ss)) a)
    gone_more s ss a points rest =
        record {
          registrations = λ n p. rest.registrations n p ∙ ap (λ (r : Registration). if has n ss then Unnamed else r) (end_registrations a x n p) ∙ both n p (n == s) (has n ss) ∙ swapped n p;
          asks = flat_append (asked e) r.sent (all_ended t me (map (last_of l) ss) r.now).sent
              ∙ ap (λ (z : List SysKind). z ++ Asks (all_ended t me (map (last_of l) ss) r.now).sent) (end_asks a x points)
              ∙ ap (λ (z : List SysKind). (if Hits x then Entered (a.registrations e.slot.0 e.port) else []) ++ z) (rest.asks ∙ left)
              ∙ sum (s == e.slot.0) refl;
          codes = flat_append (replied e) r.sent (all_ended t me (map (last_of l) ss) r.now).sent
              ∙ ap (λ (z : List ℕ). z ++ flat_map (replied e) (all_ended t me (map (last_of l) ss) r.now).sent) (end_codes a x) ∙ rest.codes;
        }
      where
        x : Incarnation
        x = last_of l s

        r : Done Links
        r = end_of t me a x

        both : (n p : ℕ) (b h : Bool) → (if h then Unnamed else (if b then Unnamed else a.registrations n p)) ≡ (if b || h then Unnamed else a.registrations n p)
        both n p true true = refl
        both n p true false = refl
        both n p false true = refl
        both n p false false = refl

        swapped : (n p : ℕ) → (if (n == s) || has n ss then Unnamed else a.registrations n p) ≡ (if (s == n) || has n ss then Unnamed else a.registrations n p)
        swapped n p = ap (λ (b : Bool). if b || has n ss then Unnamed else a.registrations n p) (swap_eqb n s)

        left : (if has e.slot.0 ss && Hits (last_of l e.slot.0) then Entered (r.now.registrations e.slot.0 e.port) else [])
            ≡ (if has e.slot.0 ss && Hits (last_of l e.slot.0) then Entered (if e.slot.0 == s then Unnamed else a.registrations e.slot.0 e.port) else [])
        left = ap (λ (z : Registration). if has e.slot.0 ss && Hits (last_of l e.slot.0) then Entered z else []) (end_registrations a x e.slot.0 e.port)

        joined : (h k : Bool) → (if h then Entered (a.registrations e.slot.0 e.port) else []) ++ (if k && h then Entered Unnamed else []) ≡ (if h then Entered (a.registrations e.slot.0 e.port) else [])
        joined true true = append-nil (Entered (a.registrations e.slot.0 e.port))
        joined true false = append-nil (Entered (a.registrations e.slot.0 e.port))
        joined false true = refl
        joined false false = refl

        sum : (b : Bool) → (s == e.slot.0) ≡ b
            → (if Hits x then Entered (a.registrations e.slot.0 e.port) else [])
            ++ (if has e.slot.0 ss && Hits (last_of l e.slot.0) then Entered (if e.slot.0 == s then Unnamed else a.registrations e.slot.0 e.port) else [])
            ≡ (if (s == e.slot.0 || has e.slot.0 ss) && Hits (last_of l e.slot.0) then Entered (a.registrations e.slot.0 e.port) else [])
        sum true is =
            let same : s ≡ e.slot.0 = eqb-true s e.slot.0 is in
            ap (λ n. (if Hits (last_of l n) then Entered (a.registrations e.slot.0 e.port) else [])
            ++ (if has e.slot.0 ss && Hits (last_of l e.slot.0) then Entered (if e.slot.0 == n then Unnamed else a.registrations e.slot.0 e.port) else [])) same
            ∙ ap (λ (b : Bool). (if Hits (last_of l e.slot.0) then Entered (a.registrations e.slot.0 e.port) else [])
            ++ (if has e.slot.0 ss && Hits (last_of l e.slot.0) then Entered (if b then Unnamed else a.registrations e.slot.0 e.port) else [])) (eq-eqb e.slot.0 e.slot.0 refl)
            ∙ joined (Hits (last_of l e.slot.0)) (has e.slot.0 ss)
            ∙ sym (ap (λ (b : Bool). if (b || has e.slot.0 ss) && Hits (last_of l e.slot.0) then Entered (a.registrations e.slot.0 e.port) else []) is)
        sum false is =
            ap (λ (b : Bool). (if b then Entered (a.registrations e.slot.0 e.port) else [])
            ++ (if has e.slot.0 ss && Hits (last_of l e.slot.0) then Entered (if e.slot.0 == s then Unnamed else a.registrations e.slot.0 e.port) else [])) (miss (Hits x) refl)
            ∙ ap (λ (b : Bool). if has e.slot.0 ss && Hits (last_of l e.slot.0) then Entered (if b then Unnamed else a.registrations e.slot.0 e.port) else []) (swap_eqb e.slot.0 s ∙ is)
            ∙ sym (ap (λ (b : Bool). if (b || has e.slot.0 ss) && Hits (last_of l e.slot.0) then Entered (a.registrations e.slot.0 e.port) else []) is)
          where
            miss : (b : Bool) → Hits x ≡ b → Hits x ≡ false
            miss false h = h
            miss true h =
                let slot : s ≡ e.slot.0 = ap (λ (z : Endpoint). z.slot.0) (same_endpoint (point_of x e.port) e h) in
                absurd (eqb-false s e.slot.0 is slot)

    all_gone : (ss : List ℕ) (a : Links) → PointsAlone a → Gone ss a (all_ended t me (map (last_of l) ss) a)
    all_gone [] a points = record { registrations = λ s p. refl; asks = refl; codes = refl }
    all_gone (s ∷ ss) a points = gone_more s ss a points (all_gone ss (end_of t me a (last_of l s)).now (points_after a (last_of l s) points))

    -- the end set of an optional slot is what goes down with it
    has_down : (o s : ℕ) → has s (ended_slots t me l o) ≡ goes_down t me l o s
    unfolding ended_slots
    has_down o s = has_reverse s (filter (goes_down t me l o) (slots_of t)) ∙ has_filter (goes_down t me l o) s (slots_of t) ∙ go (goes_down t me l o s) refl
      where
        go : (b : Bool) → goes_down t me l o s ≡ b → (b && has s (slots_of t)) ≡ b
        go false is = refl
        go true is = (let there = own_in_range t me s (down_parts t me l o s is).0 in has_range s 0 (length t.slots) (omega arith) (omega (arith, there)))

    -- what hits: its generation, and place 0
    hits_by : Hits (last_of l e.slot.0) ≡ ((l.generation e.slot.0 == e.generation.0) && (e.place == 0))
    hits_by =
        ap (λ (b : Bool). ((b && (l.generation e.slot.0 == e.generation.0)) && (e.port == e.port)) && (0 == e.place)) (eq-eqb e.slot.0 e.slot.0 refl)
        ∙ ap (λ (b : Bool). ((l.generation e.slot.0 == e.generation.0) && b) && (0 == e.place)) (eq-eqb e.port e.port refl)
        ∙ plain (l.generation e.slot.0 == e.generation.0) (0 == e.place)
        ∙ ap (λ (b : Bool). (l.generation e.slot.0 == e.generation.0) && b) (swap_eqb 0 e.place)
      where
        plain : (a b : Bool) → ((a && true) && b) ≡ (a && b)
        plain true b = refl
        plain false b = refl

    module _ (a : Links) (names_here : NamesHere t l a) (o : ℕ) where
      points_here : PointsAlone a
      points_here s p = go (names_here s p)
        where
          go : (a.registrations s p ≡ Unnamed) ⊎ ((l.lives s ≡ true) × (is_point_port t s p ≡ true)) → (a.registrations s p ≡ Unnamed) ⊎ (is_point_port t s p ≡ true)
          go (inl none) = inl none
          go (inr some) = inr some.1

      abbrev Ended : Done Links
      Ended = all_ended t me (map (last_of l) (ended_slots t me l o)) a

      -- an optional slot ends, with all that ends with it
      pub ends_on : RowsOn t e l a Ended.sent (lives_ended t me o l) Ended.now
      unfolding lives_ended
      ends_on =
          record {
            names = λ s p. left s p (goes_down t me l o s) refl;
            codes = gone.codes;
            keeps = subst (λ z. KeepsRow (stage t l a e) z (stage t (lives_ended t me o l) Ended.now e)) (sym asks)
                (subst (λ r. KeepsRow (stage t l a e) (if goes_down t me l o e.slot.0 && ((l.generation e.slot.0 == e.generation.0) && (e.place == 0)) then Entered (a.registrations e.slot.0 e.port) else [])
                (stage_by (is_point t e) ((not (goes_down t me l o e.slot.0) && l.lives e.slot.0) && (l.generation e.slot.0 == e.generation.0)) (nat_le e.generation.0 (l.generation e.slot.0)) r))
                (sym (registered e.slot.0 e.port)) (go (goes_down t me l o e.slot.0) refl));
          }
        where
          gone : Gone (ended_slots t me l o) a Ended
          gone = all_gone (ended_slots t me l o) a points_here

          registered : (s p : ℕ) → Ended.now.registrations s p ≡ (if goes_down t me l o s then Unnamed else a.registrations s p)
          registered s p = gone.registrations s p ∙ ap (λ (b : Bool). if b then Unnamed else a.registrations s p) (has_down o s)

          asks : Asks Ended.sent ≡ (if goes_down t me l o e.slot.0 && ((l.generation e.slot.0 == e.generation.0) && (e.place == 0)) then Entered (a.registrations e.slot.0 e.port) else [])
          asks =
              gone.asks
              ∙ ap (λ (b : Bool). if b && Hits (last_of l e.slot.0) then Entered (a.registrations e.slot.0 e.port) else []) (has_down o e.slot.0)
              ∙ ap (λ (b : Bool). if goes_down t me l o e.slot.0 && b then Entered (a.registrations e.slot.0 e.port) else []) hits_by

          left : (s p : ℕ) (b : Bool) → goes_down t me l o s ≡ b
              → (Ended.now.registrations s p ≡ Unnamed) ⊎ (((not (goes_down t me l o s) && l.lives s) ≡ true) × (is_point_port t s p ≡ true))
          left s p true is = inl (registered s p ∙ ap (λ (b : Bool). if b then Unnamed else a.registrations s p) is)
          left s p false is = other (names_here s p)
            where
              other : (a.registrations s p ≡ Unnamed) ⊎ ((l.lives s ≡ true) × (is_point_port t s p ≡ true))
                  → (Ended.now.registrations s p ≡ Unnamed) ⊎ (((not (goes_down t me l o s) && l.lives s) ≡ true) × (is_point_port t s p ≡ true))
              other (inl none) = inl (registered s p ∙ ap (λ (b : Bool). if b then Unnamed else a.registrations s p) is ∙ none)
              other (inr some) = inr (ap (λ (b : Bool). not b && l.lives s) is ∙ some.0, some.1)

          -- an actor of its slot goes down: of its generation, or of another one
          down : (place point same : Bool) → is_point_port t e.slot.0 e.port ≡ point → (l.generation e.slot.0 == e.generation.0) ≡ same
              → (a.registrations e.slot.0 e.port ≡ Unnamed) ⊎ ((l.lives e.slot.0 ≡ true) × (is_point_port t e.slot.0 e.port ≡ true))
              → KeepsRow (stage_by (place && point) same (nat_le e.generation.0 (l.generation e.slot.0)) (a.registrations e.slot.0 e.port))
              (if same && place then Entered (a.registrations e.slot.0 e.port) else [])
              (stage_by (place && point) false (nat_le e.generation.0 (l.generation e.slot.0)) Unnamed)
          down false point true p q h = keeps_none NotYet
          down false point false p q h = keeps_none NotYet
          down true false false p q h = keeps_none NotYet
          down true false true p q (inl none) = subst (λ r. KeepsRow NotYet (Entered r) NotYet) (sym none) (keeps_none NotYet)
          down true false true p q (inr some) = absurd (not_true_false (is_point_port t e.slot.0 e.port) some.1 p)
          down true true false p q h = other (nat_le e.generation.0 (l.generation e.slot.0))
            where
              other : (made : Bool) → KeepsRow (stage_by true false made (a.registrations e.slot.0 e.port)) [] (stage_by true false made Unnamed)
              other true = keeps_none Over
              other false = keeps_none NotYet
          down true true true p q h =
              let equal : l.generation e.slot.0 ≡ e.generation.0 = eqb-true (l.generation e.slot.0) e.generation.0 q in
              subst (λ b. KeepsRow (Now (a.registrations e.slot.0 e.port)) (Entered (a.registrations e.slot.0 e.port)) (stage_by true false b Unnamed))
              (sym (le-leb e.generation.0 (l.generation e.slot.0) (omega (arith, equal)))) (keeps_end (a.registrations e.slot.0 e.port))

          go : (b : Bool) → goes_down t me l o e.slot.0 ≡ b
              → KeepsRow (stage t l a e) (if b && ((l.generation e.slot.0 == e.generation.0) && (e.place == 0)) then Entered (a.registrations e.slot.0 e.port) else [])
              (stage_by (is_point t e) ((not b && l.lives e.slot.0) && (l.generation e.slot.0 == e.generation.0)) (nat_le e.generation.0 (l.generation e.slot.0))
              (if b then Unnamed else a.registrations e.slot.0 e.port))
          go false is = keeps_none (stage t l a e)
          go true is =
              subst (λ b. KeepsRow (stage_by (is_point t e) (b && (l.generation e.slot.0 == e.generation.0)) (nat_le e.generation.0 (l.generation e.slot.0)) (a.registrations e.slot.0 e.port))
              (if (l.generation e.slot.0 == e.generation.0) && (e.place == 0) then Entered (a.registrations e.slot.0 e.port) else [])
              (stage_by (is_point t e) false (nat_le e.generation.0 (l.generation e.slot.0)) Unnamed)) (sym (down_parts t me l o e.slot.0 is).1)
              (down (e.place == 0) (is_point_port t e.slot.0 e.port) (l.generation e.slot.0 == e.generation.0) refl refl (names_here e.slot.0 e.port))
