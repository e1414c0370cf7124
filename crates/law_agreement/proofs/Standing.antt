-- Over every run of the world: each import place and each home stand in a row.
use Rattle.std.proofs.Common.{◌≡◌, ℕ, ◌==◌, ◌&&◌, Bool, true, false, if◌then◌else◌, List, [], ◌∷◌, ◌++◌, flat_map, slice_get, Option, Some, None, ℤ, refl, sym, ap, ◌∙◌, subst, eq-eqb, eqb-true, append-nil, append_assoc, ◌⊎◌, inl, inr}
use Rattle.std.proofs.lemmas.Bool.{and_parts, ne_eqb, eqb-false}
use Rattle.std.proofs.lemmas.List.Concat.{flat_map-append}
use Rattle.room_kinds.specs.declared.message.Msg.{Msg}
use Rattle.room_kinds.specs.declared.numbers.Incarnation.{Incarnation}
use Rattle.room_kinds.specs.declared.numbers.Endpoint.{Endpoint}
use Rattle.room_kinds.specs.declared.system.SysKind.{SysKind}
use Rattle.room_kinds.specs.declared.system.SysKind.TheVariants as kinds
use Rattle.journal.specs.declared.entry.Entry.{Entry}
use Rattle.journal.specs.declared.entry.Entry.TheVariants as entry
use Rattle.room_wiring.specs.declared.tables.Tables.{Tables}
use Rattle.actor_merge.specs.Mail.{lane, event_of}
use Rattle.actor_merge.specs.Parties.{State, Line, Taken, put, stamped, next_of, fetch, turn, turned, post}
use Rattle.actor_merge.specs.World.{World, Placed, start, Runs, controller_does}
use Rattle.actor_merge.proofs.Back.{Happened, controller, environment, happened, own_of}
use Rattle.actor_duties.specs.Words.{whose, is_frame, is_incarnation, is_own, is_imported, is_home, container_of, owner_of}
use Rattle.actor_duties.specs.Lives.{is_live}
use Rattle.actor_world.specs.Behaviour.{Behaviour}
use Rattle.actor_world.specs.Body.{Body}
use Rattle.actor_world.specs.Turns.{all_kinds, treat}
use Rattle.actor_world.specs.Start.{first_frame, first_state, plant_of}
use Rattle.actor_world.specs.Directories.{IsOpen, AreOpen}
use Rattle.law_agreement.specs.Trails.{from_a, contents, system_to, trail, taken_from}
use Rattle.law_agreement.specs.Imports.{PlacesAreLocal, Loan, back_by, back_on, forth_by, forth_on, IsRouted}
use Rattle.law_agreement.specs.Loans.{Side, Row, side_of, lent_of, goes_between, kind_forth, kind_back, forth_of, back_of, IsInRow}
use Rattle.law_agreement.proofs.Hearing.{from_append}
use Rattle.law_agreement.proofs.Moving.{Ranked, next_front, kept_by, from_one, post_from, turn_from, world_after, controller_moves}
use Rattle.law_agreement.proofs.Agreeing.{environment_moves, world_then, fresh_trail}
use Rattle.law_agreement.proofs.Lending.{IsLending, hand_routed, step_lends as step_routes, start_lends as start_routes}
use Rattle.law_agreement.proofs.Keeping.{AllLend, step_lends, start_lends}
use Rattle.law_agreement.proofs.Waiting.{own_imported, own_home}
use Rattle.law_agreement.proofs.Emitting.{same_incarnation, emits, emits_system, plain_forth, plain_back}
use Rattle.law_agreement.proofs.Siding.{first_side}
use Rattle.law_agreement.proofs.Tying.{treat_hears, start_keeps, hears_row}
use Rattle.law_agreement.proofs.Plugging.{treat_takes, start_rests, takes_row, empty_lent}

-- a row by equal parts
pub same_row : (a b : Side) (x y u v : List SysKind) (n k : ℕ) → a ≡ b → x ≡ y → u ≡ v → n ≡ k → Row a x u n → Row b y v k
same_row a b x y u v n k p q r s row =
    subst (λ z. Row b y v z) s (subst (λ (z : List SysKind). Row b y z n) r (subst (λ (z : List SysKind). Row b z u n) q (subst (λ (z : Side). Row z x u n) p row)))

-- what follows the same front
same_rest : (xs ys zs : List Msg) → xs ++ ys ≡ xs ++ zs → ys ≡ zs
same_rest [] ys zs e = e
same_rest (x ∷ xs) ys zs e = same_rest xs ys zs (let q : x ∷ (xs ++ ys) ≡ x ∷ (xs ++ zs) = e in cc)

module _ (i h : Incarnation) where
  abbrev pair : Loan
  pair = record { place = i; home = h }

  -- a message of the pair is on its loan
  back_named : (s e : Endpoint) → goes_between h i (Some s) e ≡ true
      → ◌≡◌ {A = Option Loan} (Some (record { place = whose e; home = whose s })) (Some pair)
  back_named s e q =
      let p = and_parts (is_frame s && is_frame e && is_incarnation h (whose s)) (is_incarnation i (whose e)) q in
      let r = and_parts (is_frame s && is_frame e) (is_incarnation h (whose s)) p.0 in
      ap (λ (z : Incarnation). Some (record { place = z; home = whose s })) (sym (same_incarnation i (whose e) p.1))
      ∙ ap (λ (z : Incarnation). Some (record { place = i; home = z })) (sym (same_incarnation h (whose s) r.1))

  back_case : (o : Option SysKind) (s e : Endpoint) (ns : List ℤ) (z : Bool) → goes_between h i (Some s) e ≡ z
      → (◌≡◌ {A = List SysKind} (if z then kind_back o ns else []) []) ⊎ (back_by o (Some s) e ≡ Some pair)
  back_case o s e ns false q = inl refl
  back_case None s e ns true q = inl refl
  back_case (Some kinds.ImportDone) s e ns true q = inr (back_named s e q)
  back_case (Some kinds.ImportRefused) s e ns true q = inr (back_named s e q)
  back_case (Some kinds.ImportEnded) s e ns true q = inr (back_named s e q)
  back_case (Some kinds.DeportDone) s e ns true q = inr (back_named s e q)
  back_case (Some kind) s e ns true q = inl refl

  back_loan : (m : Msg) → (m.prio.0 == 0) ≡ true → (back_of i h m ≡ []) ⊎ (back_on m ≡ Some pair)
  unfolding back_of
  back_loan m zero = go m.source
    where
      go : (o : Option Endpoint)
          → ((if (m.prio.0 == 0) && goes_between h i o m.target then kind_back (slice_get all_kinds m.signal) m.payload else []) ≡ [])
          ⊎ ((if m.prio.0 == 0 then back_by (slice_get all_kinds m.signal) o m.target else None) ≡ Some pair)
      go None = inl (rw zero refl)
      go (Some s) = rw zero (back_case (slice_get all_kinds m.signal) s m.target m.payload (goes_between h i (Some s) m.target) refl)

  forth_named : (s e : Endpoint) → goes_between i h (Some s) e ≡ true
      → ◌≡◌ {A = Option Loan} (Some (record { place = whose s; home = whose e })) (Some pair)
  forth_named s e q =
      let p = and_parts (is_frame s && is_frame e && is_incarnation i (whose s)) (is_incarnation h (whose e)) q in
      let r = and_parts (is_frame s && is_frame e) (is_incarnation i (whose s)) p.0 in
      ap (λ (z : Incarnation). Some (record { place = z; home = whose e })) (sym (same_incarnation i (whose s) r.1))
      ∙ ap (λ (z : Incarnation). Some (record { place = i; home = z })) (sym (same_incarnation h (whose e) p.1))

  forth_case : (o : Option SysKind) (s e : Endpoint) (ns : List ℤ) (z : Bool) → goes_between i h (Some s) e ≡ z
      → (◌≡◌ {A = List SysKind} (if z then kind_forth o ns else []) []) ⊎ (forth_by o (Some s) e ≡ Some pair)
  forth_case o s e ns false q = inl refl
  forth_case None s e ns true q = inl refl
  forth_case (Some kinds.Import) s e ns true q = inr (forth_named s e q)
  forth_case (Some kinds.Deport) s e ns true q = inr (forth_named s e q)
  forth_case (Some kind) s e ns true q = inl refl

  forth_loan : (m : Msg) → (m.prio.0 == 0) ≡ true → (forth_of i h m ≡ []) ⊎ (forth_on m ≡ Some pair)
  unfolding forth_of
  forth_loan m zero = go m.source
    where
      go : (o : Option Endpoint)
          → ((if (m.prio.0 == 0) && goes_between i h o m.target then kind_forth (slice_get all_kinds m.signal) m.payload else []) ≡ [])
          ⊎ ((if m.prio.0 == 0 then forth_by (slice_get all_kinds m.signal) o m.target else None) ≡ Some pair)
      go None = inl (rw zero refl)
      go (Some s) = rw zero (forth_case (slice_get all_kinds m.signal) s m.target m.payload (goes_between i h (Some s) m.target) refl)

  -- a message that isn't the system's is none of the pair
  low_back : (m : Msg) → (m.prio.0 == 0) ≡ false → back_of i h m ≡ []
  unfolding back_of
  low_back m e = rw e refl

  low_forth : (m : Msg) → (m.prio.0 == 0) ≡ false → forth_of i h m ≡ []
  unfolding forth_of
  low_forth m e = rw e refl

-- what a turn takes out of a trail, by the kinds of messages
module _ {M : Type 0} (w : World (Body M)) (n : ℕ) (k : Taken) (front : next_of (w.controllers n).pending ≡ Some k) (rank : k.message.prio.0 ≡ k.priority) where
  taken_kinds : (kind : Msg → List SysKind) → ((a : ℕ) (m : Msg) → kind (stamped a 0 m) ≡ kind m)
      → ((m : Msg) → (m.prio.0 == 0) ≡ false → kind m ≡ []) → (a : ℕ)
      → ((k.message.prio.0 == 0) ≡ true → (kind k.message ≡ []) ⊎ (a ≡ k.message.from.0))
      → flat_map kind (taken_from a (Some k)) ≡ kind k.message
  taken_kinds kind plain low a routed = go (0 == k.priority) refl (a == k.message.from.0) refl
    where
      zero : (0 == k.priority) ≡ true → (k.message.prio.0 == 0) ≡ true
      zero e = eq-eqb k.message.prio.0 0 (rank ∙ sym (eqb-true 0 k.priority e))

      go : (x : Bool) → (0 == k.priority) ≡ x → (y : Bool) → (a == k.message.from.0) ≡ y
          → flat_map kind (if x then from_a a (k.message ∷ []) else []) ≡ kind k.message
      go false e y d = sym (low k.message (ne_eqb k.message.prio.0 0 (λ z. eqb-false 0 k.priority e (sym (sym rank ∙ z)))))
      go true e true d =
          ap (flat_map kind) (from_one a k.message ∙ ap (λ (z : Bool). if z then stamped a 0 k.message ∷ [] else []) d) ∙ append-nil (kind (stamped a 0 k.message)) ∙ plain a k.message
      go true e false d =
          ap (flat_map kind) (from_one a k.message ∙ ap (λ (z : Bool). if z then stamped a 0 k.message ∷ [] else []) d) ∙ sym (none (routed (zero e)))
        where
          none : (kind k.message ≡ []) ⊎ (a ≡ k.message.from.0) → kind k.message ≡ []
          none (inl q) = q
          none (inr q) = absurd (eqb-false a k.message.from.0 d q)

  -- it stood at the front of the trail
  front_of : (a b : ℕ) → (rest : List Msg) × (trail w a b ≡ (if b == n then taken_from a (next_of (w.controllers b).pending) else []) ++ rest)
  front_of a b = go (b == n) refl
    where
      after : List Msg
      after = contents a (w.lanes (lane a b 0)) ++ system_to a b (w.controllers a).outbox

      here : b ≡ n → (x : Bool) → (0 == k.priority) ≡ x
          → (rest : List Msg) × (trail w a b ≡ (if x then from_a a (k.message ∷ []) else []) ++ rest)
      here at false e = (trail w a b, refl)
      here at true e =
          let whole : (w.controllers b).pending 0 ≡ k.message ∷ k.rest =
          ap (λ z. (w.controllers z).pending 0) at ∙ ap (w.controllers n).pending (eqb-true 0 k.priority e) ∙ next_front (w.controllers n).pending k front in (
            from_a a k.rest ++ (contents a (w.lanes (lane a b 0)) ++ system_to a b (w.controllers a).outbox),
            ap (λ (z : List Msg). z ++ (contents a (w.lanes (lane a b 0)) ++ system_to a b (w.controllers a).outbox)) (ap (from_a a) whole ∙ from_append a (k.message ∷ []) k.rest)
                ∙ append_assoc (from_a a (k.message ∷ [])) (from_a a k.rest) (contents a (w.lanes (lane a b 0)) ++ system_to a b (w.controllers a).outbox),
          )

      go : (x : Bool) → (b == n) ≡ x
          → (rest : List Msg) × (trail w a b ≡ (if x then taken_from a (next_of (w.controllers b).pending) else []) ++ rest)
      go false e = (trail w a b, refl)
      go true e =
          let at : b ≡ n = eqb-true b n e in
          let same : next_of (w.controllers b).pending ≡ Some k = ap (λ z. next_of (w.controllers z).pending) at ∙ front in
          let r = here at (0 == k.priority) refl in
          (r.0, r.1 ∙ ap (λ (o : Option Taken). taken_from a o ++ r.0) (sym same))

module _ {M : Type 0} (model : Behaviour M) (clear : IsOpen model) (t : Tables) (local : PlacesAreLocal t) (lines : List Line) (clear_lines : AreOpen lines)
    (c : ℕ) (i h : Incarnation) (imported : is_imported t i.slot.0 ≡ true) (part : container_of t i.slot.0 ≡ Some c) (home : is_home t h.slot.0 ≡ true) where
  abbrev here : ℕ
  here = owner_of t i.slot.0

  abbrev there : ℕ
  there = owner_of t h.slot.0

  -- a world in which the pair stands in a row
  record Stands (w : World (Body M)) : Type 0 where
    pub routes : IsLending t w
    pub lends : AllLend model clear t lines w
    pub row : IsInRow t w c i h

  -- an event that touches no frame service and no trail
  untouched : (w v : World (Body M)) → ((n : ℕ) → (v.controllers n).body.frame ≡ (w.controllers n).body.frame)
      → ((a b : ℕ) → trail v a b ≡ trail w a b)
      → IsInRow t w c i h → IsInRow t v c i h
  untouched w v bodies trails row =
      same_row _ _ _ _ _ _ _ _ (ap (side_of c i h) (sym (bodies here))) (ap (flat_map (forth_of i h)) (sym (trails here there)))
      (ap (flat_map (back_of i h)) (sym (trails there here))) (ap (lent_of i h) (sym (bodies there))) row

  module _ (w : World (Body M)) (inv : Stands w) (n : ℕ) (e : Entry) (next : State (Body M)) (k : Taken) (front : next_of (w.controllers n).pending ≡ Some k)
      (same : next ≡ (turned (w.controllers n) k (treat model t n (w.controllers n).body k.message)).0) where
    rank : k.message.prio.0 ≡ k.priority
    rank = (subst (Ranked k.priority) (next_front (w.controllers n).pending k front) ((inv.routes.foretold.sorted n).pending k.priority)).0

    hand : (k.message.prio.0 == 0) ≡ true → IsRouted t k.message.from.0 n k.message
    hand zero = hand_routed model clear t local lines clear_lines w inv.routes n k front zero

    abbrev out_of : ℕ → ℕ → Bool → List Msg
    out_of a b z = if z then taken_from a (next_of (w.controllers b).pending) else []

    abbrev into : ℕ → ℕ → Bool → List Msg
    into a b z = if z then system_to a b (if z then next else w.controllers a).outbox else []

    -- the place's side of the turn
    place_step : (z : Bool) → (here == n) ≡ z → (forth back : List SysKind) (m : ℕ)
        → Row (side_of c i h (w.controllers here).body.frame) forth (flat_map (back_of i h) (out_of there here z) ++ back) m
        → Row (side_of c i h (if z then next else w.controllers here).body.frame) (forth ++ flat_map (forth_of i h) (into here there z)) back m
    place_step false _ forth back m r = subst (λ (x : List SysKind). Row (side_of c i h (w.controllers here).body.frame) x back m) (sym (append-nil forth)) r
    place_step true is forth back m r = at (eqb-true here n is)
      where
        at : here ≡ n → Row (side_of c i h next.body.frame) (forth ++ flat_map (forth_of i h) (system_to here there next.outbox)) back m
        at p =
            let frame : next.body.frame ≡ (treat model t n (w.controllers n).body k.message).body.frame = ap (λ (z : State (Body M)). z.body.frame) same in
            let box : next.outbox ≡ (treat model t n (w.controllers n).body k.message).sent = ap (λ (z : State (Body M)). z.outbox) same in
            let taken : flat_map (back_of i h) (taken_from there (next_of (w.controllers here).pending)) ≡ back_of i h k.message =
            ap (λ (o : Option Taken). flat_map (back_of i h) (taken_from there o)) (ap (λ z. next_of (w.controllers z).pending) p ∙ front)
            ∙ taken_kinds w n k front rank (back_of i h) (λ a m. plain_back i h a m) (λ m z. low_back i h m z) there routed in
            let step = hears_row t c i h imported part (back_of i h k.message) (w.controllers n).body.frame _ _
            (treat_hears t c i h imported part n model clear home (subst (λ z. is_own t z i.slot.0 ≡ true) p (own_imported t i.slot.0 imported)) (w.controllers n).body k.message (inv.lends n)) in
            same_row _ _ _ _ _ _ _ _ (ap (side_of c i h) (sym frame))
            (ap (λ (z : List SysKind). forth ++ z) (ap (emits (forth_of i h) there) (sym box) ∙ sym (emits_system (forth_of i h) (λ a m. plain_forth i h a m) here there next.outbox))) refl refl
            (step forth back m (same_row _ _ _ _ _ _ _ _ (ap (λ z. side_of c i h (w.controllers z).body.frame) p) refl (ap (λ (z : List SysKind). z ++ back) taken) refl r))
          where
            routed : (k.message.prio.0 == 0) ≡ true → (back_of i h k.message ≡ []) ⊎ (there ≡ k.message.from.0)
            routed zero = which (back_loan i h k.message zero)
              where
                which : (back_of i h k.message ≡ []) ⊎ (back_on k.message ≡ Some (record { place = i; home = h }))
                    → (back_of i h k.message ≡ []) ⊎ (there ≡ k.message.from.0)
                which (inl q) = inl q
                which (inr q) = inr (((hand zero).back (record { place = i; home = h }) q).home)

    -- the home's side of the turn
    home_step : (z : Bool) → (there == n) ≡ z → (a : Side) (forth back : List SysKind)
        → Row a (flat_map (forth_of i h) (out_of here there z) ++ forth) back (lent_of i h (w.controllers there).body.frame)
        → Row a forth (back ++ flat_map (back_of i h) (into there here z)) (lent_of i h (if z then next else w.controllers there).body.frame)
    home_step false _ a forth back r = subst (λ (x : List SysKind). Row a forth x (lent_of i h (w.controllers there).body.frame)) (sym (append-nil back)) r
    home_step true is a forth back r = at (eqb-true there n is)
      where
        at : there ≡ n → Row a forth (back ++ flat_map (back_of i h) (system_to there here next.outbox)) (lent_of i h next.body.frame)
        at p =
            let frame : next.body.frame ≡ (treat model t n (w.controllers n).body k.message).body.frame = ap (λ (z : State (Body M)). z.body.frame) same in
            let box : next.outbox ≡ (treat model t n (w.controllers n).body k.message).sent = ap (λ (z : State (Body M)). z.outbox) same in
            let taken : flat_map (forth_of i h) (taken_from here (next_of (w.controllers there).pending)) ≡ forth_of i h k.message =
            ap (λ (o : Option Taken). flat_map (forth_of i h) (taken_from here o)) (ap (λ z. next_of (w.controllers z).pending) p ∙ front)
            ∙ taken_kinds w n k front rank (forth_of i h) (λ a m. plain_forth i h a m) (λ m z. low_forth i h m z) here routed in
            let step = takes_row t i h (forth_of i h k.message) (w.controllers n).body.frame _ _
            (treat_takes t i h n model clear imported home (subst (λ z. is_own t z h.slot.0 ≡ true) p (own_home t h.slot.0 home)) (w.controllers n).body k.message (inv.lends n) hand) in
            same_row _ _ _ _ _ _ _ _ refl refl
            (ap (λ (z : List SysKind). back ++ z) (ap (emits (back_of i h) here) (sym box) ∙ sym (emits_system (back_of i h) (λ a m. plain_back i h a m) there here next.outbox))) (ap (lent_of i h) (sym frame))
            (step a forth back (same_row _ _ _ _ _ _ _ _ refl (ap (λ (z : List SysKind). z ++ forth) taken) refl (ap (λ z. lent_of i h (w.controllers z).body.frame) p) r))
          where
            routed : (k.message.prio.0 == 0) ≡ true → (forth_of i h k.message ≡ []) ⊎ (here ≡ k.message.from.0)
            routed zero = which (forth_loan i h k.message zero)
              where
                which : (forth_of i h k.message ≡ []) ⊎ (forth_on k.message ≡ Some (record { place = i; home = h }))
                    → (forth_of i h k.message ≡ []) ⊎ (here ≡ k.message.from.0)
                which (inl q) = inl q
                which (inr q) = inr (((hand zero).forth (record { place = i; home = h }) q).place imported)

    -- a trail before and after the turn, by the kinds of messages
    module _ (moves : (a b : ℕ) → out_of a b (b == n) ++ trail (world_after model t lines w n e next) a b ≡ trail w a b ++ into a b (a == n)) where
      rest_of : ℕ → ℕ → List Msg
      rest_of a b = (front_of w n k front rank a b).0

      before : (a b : ℕ) → trail w a b ≡ out_of a b (b == n) ++ rest_of a b
      unfolding rest_of
      before a b = (front_of w n k front rank a b).1

      after : (a b : ℕ) → trail (world_after model t lines w n e next) a b ≡ rest_of a b ++ into a b (a == n)
      after a b =
          same_rest (out_of a b (b == n)) (trail (world_after model t lines w n e next) a b) (rest_of a b ++ into a b (a == n))
          (moves a b ∙ ap (λ (z : List Msg). z ++ into a b (a == n)) (before a b) ∙ append_assoc (out_of a b (b == n)) (rest_of a b) (into a b (a == n)))

      kinds_before : (kind : Msg → List SysKind) (a b : ℕ)
          → flat_map kind (trail w a b) ≡ flat_map kind (out_of a b (b == n)) ++ flat_map kind (rest_of a b)
      kinds_before kind a b = ap (flat_map kind) (before a b) ∙ flat_map-append kind (out_of a b (b == n)) (rest_of a b)

      kinds_after : (kind : Msg → List SysKind) (a b : ℕ)
          → flat_map kind (trail (world_after model t lines w n e next) a b) ≡ flat_map kind (rest_of a b) ++ flat_map kind (into a b (a == n))
      kinds_after kind a b = ap (flat_map kind) (after a b) ∙ flat_map-append kind (rest_of a b) (into a b (a == n))

      turn_row : IsInRow t (world_after model t lines w n e next) c i h
      unfolding put
      turn_row =
          let f : Msg → List SysKind = forth_of i h in
          let g : Msg → List SysKind = back_of i h in
          let first = same_row _ _ _ _ _ _ _ _ refl (kinds_before f here there) (kinds_before g there here) refl inv.row in
          let second = place_step (here == n) refl (flat_map f (out_of here there (there == n)) ++ flat_map f (rest_of here there)) (flat_map g (rest_of there here)) _ first in
          let third = home_step (there == n) refl _ (flat_map f (rest_of here there) ++ flat_map f (into here there (here == n))) (flat_map g (rest_of there here))
          (same_row _ _ _ _ _ _ _ _ refl (append_assoc (flat_map f (out_of here there (there == n))) (flat_map f (rest_of here there)) (flat_map f (into here there (here == n)))) refl refl second) in
          same_row _ _ _ _ _ _ _ _ refl (sym (kinds_after f here there)) (sym (kinds_after g there here)) refl third

  -- each event of a controller
  controller_row : (w : World (Body M)) → Stands w → (n : ℕ) (e : Entry) (next : State (Body M))
      → controller_does (plant_of model t lines) w n (event_of e) ≡ Some (next, e)
      → IsInRow t (world_after model t lines w n e next) c i h
  unfolding turn post fetch put
  controller_row w inv n (entry.Start who state ns) next does = absurd cc
  controller_row w inv n (entry.Fetch stamp m) next does =
      let r : fetch (w.controllers n) m ≡ (next, entry.Fetch stamp m) = own_of (plant_of model t lines) w n (entry.Fetch stamp m) next does in
      untouched w (world_after model t lines w n (entry.Fetch stamp m) next)
      (kept_by (λ (z : State (Body M)). z.body.frame) w.controllers n next (sym (ap (λ (z : State (Body M) × Entry). z.0.body.frame) r)))
      (λ a b. controller_moves model t lines clear w n (entry.Fetch stamp m) next (inv.routes.foretold.sorted n) does a b ∙ append-nil (trail w a b)) inv.row
  controller_row w inv n (entry.Post stamp m) next does =
      let r = post_from model t lines n (w.controllers n) next (entry.Post stamp m) (w.controllers n).outbox does in
      untouched w (world_after model t lines w n (entry.Post stamp m) next)
      (kept_by (λ (z : State (Body M)). z.body.frame) w.controllers n next (sym (ap (λ (z : State (Body M) × Entry). z.0.body.frame) r.3)))
      (λ a b. controller_moves model t lines clear w n (entry.Post stamp m) next (inv.routes.foretold.sorted n) does a b ∙ append-nil (trail w a b)) inv.row
  controller_row w inv n (entry.Turn stamp from sent what ns) next does =
      let e : Entry = entry.Turn stamp from sent what ns in
      let r = turn_from model t lines n (w.controllers n) next e (w.controllers n).outbox (next_of (w.controllers n).pending) does in
      turn_row w inv n e next r.0 r.2 (sym (ap (λ (z : State (Body M) × Entry). z.0) r.3))
      (λ a b. controller_moves model t lines clear w n e next (inv.routes.foretold.sorted n) does a b)

  step_stands : (w : World (Body M)) (x : Placed) (next : World (Body M)) → Stands w → Happened (plant_of model t lines) w x next → Stands next
  step_stands w x next inv happens =
      record {
        routes = step_routes model clear t local lines clear_lines w x next inv.routes happens;
        lends = step_lends model clear t lines w x next inv.lends happens;
        row = go happens;
      }
    where
      go : Happened (plant_of model t lines) w x next → IsInRow t next c i h
      go (controller below v does same) = subst (λ (z : World (Body M)). IsInRow t z c i h) (sym same) (controller_row w inv x.party x.entry v does)
      go (environment is v does same) =
          subst (λ (z : World (Body M)). IsInRow t z c i h) (sym same)
          (untouched w (world_then model clear t lines clear_lines w x.party x.entry v) (λ n. refl)
          (λ a b. environment_moves model clear t lines clear_lines w x.party x.entry v does a b) inv.row)

  run_stands : (xs : List Placed) (w end : World (Body M)) → Stands w → Runs (plant_of model t lines) w xs end → Stands end
  run_stands [] w end inv r = subst Stands (sym r) inv
  run_stands (x ∷ xs) w end inv r = run_stands xs r.0 end (step_stands w x r.0 inv (happened (plant_of model t lines) w x r.0 r.2)) r.3

  first_row : IsInRow t (start (plant_of model t lines)) c i h
  first_row =
      let a : ℕ = here in
      let b : ℕ = there in
      let fresh : lent_of i h (first_frame t b) ≡ 0 = empty_lent t i h (is_live (first_frame t b).lives h) [] refl in
      let zero = same_row _ _ _ _ _ _ _ _ refl refl refl (sym fresh) (first_side i h ((first_frame t a).lives.generation c) ((first_frame t a).lives.lives c)) in
      let placed = hears_row t c i h imported part [] (first_frame t a) _ _ (start_keeps t c i h imported part a model clear) [] [] _ zero in
      let homed = takes_row t i h [] (first_frame t b) _ _ (start_rests t i h b model clear) _ _ [] placed in
      same_row _ _ _ _ _ _ _ _ refl
      (sym (ap (flat_map (forth_of i h)) (fresh_trail a b (first_state model t a).outbox) ∙ emits_system (forth_of i h) (λ x m. plain_forth i h x m) a b (first_state model t a).outbox))
      (sym (ap (flat_map (back_of i h)) (fresh_trail b a (first_state model t b).outbox) ∙ emits_system (back_of i h) (λ x m. plain_back i h x m) b a (first_state model t b).outbox))
      refl homed

  pub runs_stand : (xs : List Placed) (end : World (Body M)) → Runs (plant_of model t lines) (start (plant_of model t lines)) xs end
      → IsInRow t end c i h
  runs_stand xs end r =
      (run_stands xs (start (plant_of model t lines)) end
      (record { routes = start_routes model clear t local lines clear_lines; lends = λ n. start_lends t n model clear; row = first_row }) r).row
