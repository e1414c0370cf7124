-- What lists of messages put on the way of an import place and a home: the kinds of the pair's messages among
-- them, in order.
use Rattle.std.proofs.Common.{◌≡◌, ℕ, suc, ◌==◌, ◌&&◌, Bool, true, false, cond, if◌then◌else◌, List, [], ◌∷◌, ◌++◌, map, filter, flat_map, slice_get, Option, Some, None, ℤ, refl, sym, ap, ◌∙◌, eq-eqb, eqb-true, append-nil}
use Rattle.std.specs.Prelude.{count_by}
use Rattle.std.specs.List.{AllByRecursion}
use Rattle.std.proofs.lemmas.Bool.{and_parts}
use Rattle.std.proofs.lemmas.List.Concat.{flat_map-append}
use Rattle.room_kinds.specs.declared.message.Msg.{Msg}
use Rattle.room_kinds.specs.declared.numbers.Incarnation.{Incarnation}
use Rattle.room_kinds.specs.declared.numbers.Endpoint.{Endpoint}
use Rattle.room_kinds.specs.declared.system.SysKind.{SysKind}
use Rattle.room_kinds.specs.declared.system.SysKind.TheVariants as kinds
use Rattle.room_wiring.specs.declared.tables.Tables.{Tables}
use Rattle.actor_merge.specs.Parties.{stamped}
use Rattle.actor_duties.specs.Words.{incarnation, whose, frame_of, is_frame, is_incarnation, owner_of}
use Rattle.actor_duties.specs.Messages.{to_owner}
use Rattle.actor_duties.specs.Imports.{ended_plugs}
use Rattle.actor_world.specs.Turns.{all_kinds}
use Rattle.law_agreement.specs.Trails.{contents, system_to, is_system_to}
use Rattle.law_agreement.specs.Imports.{Wait, Ask, Leave, kind_for, forth_by, back_by}
use Rattle.law_agreement.specs.Loans.{goes_between, kind_forth, kind_back, forth_of, back_of}
use Rattle.law_agreement.proofs.OffLoan.{IsOffLoan, AllOffLoan}
use Rattle.law_agreement.proofs.Hearing.{swap_eqb}
use Rattle.law_agreement.proofs.Pairing.{times}
use Rattle.law_agreement.proofs.Counting.{count_cons}

-- incarnations with the same numbers are one
pub same_incarnation : (x y : Incarnation) → is_incarnation x y ≡ true → x ≡ y
same_incarnation x y e =
    let p = and_parts (x.slot.0 == y.slot.0) (x.generation.0 == y.generation.0) e in
    ap (λ n. incarnation n x.generation.0) (eqb-true x.slot.0 y.slot.0 p.0) ∙ ap (λ n. incarnation y.slot.0 n) (eqb-true x.generation.0 y.generation.0 p.1)

pub itself : (x : Incarnation) → is_incarnation x x ≡ true
itself x = rw (eq-eqb x.slot.0 x.slot.0 refl, eq-eqb x.generation.0 x.generation.0 refl) refl

pub swap_incarnation : (x y : Incarnation) → is_incarnation x y ≡ is_incarnation y x
swap_incarnation x y = rw (swap_eqb x.slot.0 y.slot.0, swap_eqb x.generation.0 y.generation.0) refl

-- the frame of an incarnation
pub same_frame : (e : Endpoint) (x : Incarnation) → is_frame e ≡ true → is_incarnation x (whose e) ≡ true → e ≡ frame_of x
same_frame e x f h =
    let p = and_parts (e.port == 0) (e.place == 0) f in
    let w : x ≡ whose e = same_incarnation x (whose e) h in
    ap (λ n. record e { port = n }) (eqb-true e.port 0 p.0) ∙ ap (λ n. record e { port = 0; place = n }) (eqb-true e.place 0 p.1)
    ∙ ap frame_of (sym w)

-- what these messages put on the way to controller b
abbrev pub emits : (Msg → List SysKind) → ℕ → List Msg → List SysKind
emits kind b ms = flat_map (λ (m : Msg). if is_system_to b m then kind m else []) ms

pub emits_append : (kind : Msg → List SysKind) (b : ℕ) (xs ys : List Msg) → emits kind b (xs ++ ys) ≡ emits kind b xs ++ emits kind b ys
emits_append kind b xs ys = flat_map-append (λ (m : Msg). if is_system_to b m then kind m else []) xs ys

-- it is what stands on the trail
pub emits_system : (kind : Msg → List SysKind) → ((a : ℕ) (m : Msg) → kind (stamped a 0 m) ≡ kind m) → (a b : ℕ) (ms : List Msg)
    → flat_map kind (system_to a b ms) ≡ emits kind b ms
unfolding system_to contents
emits_system kind plain a b [] = refl
emits_system kind plain a b (m ∷ ms) = go (is_system_to b m) (emits_system kind plain a b ms)
  where
    go : (z : Bool) → flat_map kind (map (stamped a 0) (filter (is_system_to b) ms)) ≡ emits kind b ms
        → flat_map kind (map (stamped a 0) (cond z (m ∷ filter (is_system_to b) ms) (filter (is_system_to b) ms))) ≡ (if z then kind m else []) ++ emits kind b ms
    go true h = ap (λ (z : List SysKind). z ++ flat_map kind (map (stamped a 0) (filter (is_system_to b) ms))) (plain a m) ∙ ap (λ (z : List SysKind). kind m ++ z) h
    go false h = h

-- messages of which none is of the pair
pub emits_none : (kind : Msg → List SysKind) (b : ℕ) (ms : List Msg) → AllByRecursion (λ (m : Msg). kind m ≡ []) ms → emits kind b ms ≡ []
emits_none kind b [] h = refl
emits_none kind b (m ∷ ms) h = go (is_system_to b m) ∙ emits_none kind b ms h.1
  where
    go : (z : Bool) → (if z then kind m else []) ++ emits kind b ms ≡ emits kind b ms
    go true = ap (λ (z : List SysKind). z ++ emits kind b ms) h.0
    go false = refl

pub emits_flat : {X : Type 0} (kind : Msg → List SysKind) (b : ℕ) (f : X → List Msg) (xs : List X)
    → emits kind b (flat_map f xs) ≡ flat_map (λ x. emits kind b (f x)) xs
emits_flat kind b f [] = refl
emits_flat kind b f (x ∷ xs) = emits_append kind b (f x) (flat_map f xs) ∙ ap (λ (z : List SysKind). emits kind b (f x) ++ z) (emits_flat kind b f xs)

abbrev if_off : Bool → List SysKind → Type 0
if_off z xs = (if z then xs else []) ≡ []

pub no_either : (z : Bool) → if_off z []
no_either true = refl
no_either false = refl

module _ (i h : Incarnation) where
  pub plain_forth : (a : ℕ) (m : Msg) → forth_of i h (stamped a 0 m) ≡ forth_of i h m
  unfolding forth_of
  plain_forth a m = refl

  pub plain_back : (a : ℕ) (m : Msg) → back_of i h (stamped a 0 m) ≡ back_of i h m
  unfolding back_of
  plain_back a m = refl

  -- a message of the pair is on its loan
  forth_known : (o : Option SysKind) (s : Option Endpoint) (e : Endpoint) (ns : List ℤ) → forth_by o s e ≡ None
      → if_off (goes_between i h s e) (kind_forth o ns)
  forth_known o None e ns q = refl
  forth_known (Some kinds.Import) (Some s) e ns q = absurd cc
  forth_known (Some kinds.Deport) (Some s) e ns q = absurd cc
  forth_known None (Some s) e ns q = no_either (goes_between i h (Some s) e)
  forth_known (Some kind) (Some s) e ns q = no_either (goes_between i h (Some s) e)

  pub off_forth : (m : Msg) → IsOffLoan m → forth_of i h m ≡ []
  unfolding forth_of
  off_forth m off = go (m.prio.0 == 0) off.0
    where
      go : (z : Bool) → (if z then forth_by (slice_get all_kinds m.signal) m.source m.target else None) ≡ None
          → (if z && goes_between i h m.source m.target then kind_forth (slice_get all_kinds m.signal) m.payload else []) ≡ []
      go true q = forth_known (slice_get all_kinds m.signal) m.source m.target m.payload q
      go false q = refl

  back_known : (o : Option SysKind) (s : Option Endpoint) (e : Endpoint) (ns : List ℤ) → back_by o s e ≡ None
      → if_off (goes_between h i s e) (kind_back o ns)
  back_known o None e ns q = refl
  back_known (Some kinds.ImportDone) (Some s) e ns q = absurd cc
  back_known (Some kinds.ImportRefused) (Some s) e ns q = absurd cc
  back_known (Some kinds.ImportEnded) (Some s) e ns q = absurd cc
  back_known (Some kinds.DeportDone) (Some s) e ns q = absurd cc
  back_known None (Some s) e ns q = no_either (goes_between h i (Some s) e)
  back_known (Some kind) (Some s) e ns q = no_either (goes_between h i (Some s) e)

  pub off_back : (m : Msg) → IsOffLoan m → back_of i h m ≡ []
  unfolding back_of
  off_back m off = go (m.prio.0 == 0) off.1
    where
      go : (z : Bool) → (if z then back_by (slice_get all_kinds m.signal) m.source m.target else None) ≡ None
          → (if z && goes_between h i m.source m.target then kind_back (slice_get all_kinds m.signal) m.payload else []) ≡ []
      go true q = back_known (slice_get all_kinds m.signal) m.source m.target m.payload q
      go false q = refl

  all_off_forth : (ms : List Msg) → AllOffLoan ms → AllByRecursion (λ (m : Msg). forth_of i h m ≡ []) ms
  all_off_forth [] off = tt
  all_off_forth (m ∷ ms) off = (off_forth m off.0, all_off_forth ms off.1)

  all_off_back : (ms : List Msg) → AllOffLoan ms → AllByRecursion (λ (m : Msg). back_of i h m ≡ []) ms
  all_off_back [] off = tt
  all_off_back (m ∷ ms) off = (off_back m off.0, all_off_back ms off.1)

  pub off_out : (b : ℕ) (ms : List Msg) → AllOffLoan ms → emits (forth_of i h) b ms ≡ []
  off_out b ms off = emits_none (forth_of i h) b ms (all_off_forth ms off)

  pub off_in : (b : ℕ) (ms : List Msg) → AllOffLoan ms → emits (back_of i h) b ms ≡ []
  off_in b ms off = emits_none (back_of i h) b ms (all_off_back ms off)

  -- what a place sends forth, to the home's owner
  pub sent_out : (t : Tables) (me : ℕ) (w : Wait) (x y : Incarnation)
      → emits (forth_of i h) (owner_of t h.slot.0) (to_owner t me (kind_for w) (frame_of x) (frame_of y) [] ∷ [])
      ≡ (if is_incarnation i x && is_incarnation h y then kind_for w ∷ [] else [])
  unfolding forth_of
  sent_out t me w x y = append-nil _ ∙ go w (is_incarnation i x) (is_incarnation h y) refl (owner_of t h.slot.0 == owner_of t y.slot.0) refl
    where
      go : (w : Wait) (p q : Bool) → is_incarnation h y ≡ q → (o : Bool) → (owner_of t h.slot.0 == owner_of t y.slot.0) ≡ o
          → (if o && (0 == 0) then (if p && q then kind_forth (slice_get all_kinds (to_owner t me (kind_for w) (frame_of x) (frame_of y) []).signal) [] else []) else []) ≡ (if p && q then kind_for w ∷ [] else [])
      go Ask true true e true f = refl
      go Leave true true e true f = refl
      go w true true e false f =
          let z : true ≡ false = sym (eq-eqb (owner_of t h.slot.0) (owner_of t y.slot.0) (ap (λ (n : Incarnation). owner_of t n.slot.0) (same_incarnation h y e))) ∙ f in absurd cc
      go w true false e true f = refl
      go w true false e false f = refl
      go w false q e true f = refl
      go w false q e false f = refl

  -- what a home that ends sends back to a plug, to the place's owner
  ended_in : (t : Tables) (me : ℕ) (x j : Incarnation)
      → emits (back_of i h) (owner_of t i.slot.0) (to_owner t me kinds.ImportEnded (frame_of x) (frame_of j) [] ∷ [])
      ≡ (if is_incarnation h x && is_incarnation i j then kinds.ImportEnded ∷ [] else [])
  unfolding back_of
  ended_in t me x j = append-nil _ ∙ go (is_incarnation h x) (is_incarnation i j) refl (owner_of t i.slot.0 == owner_of t j.slot.0) refl
    where
      go : (p q : Bool) → is_incarnation i j ≡ q → (o : Bool) → (owner_of t i.slot.0 == owner_of t j.slot.0) ≡ o
          → (if o && (0 == 0) then (if p && q then kinds.ImportEnded ∷ [] else []) else []) ≡ (if p && q then kinds.ImportEnded ∷ [] else [])
      go true true e true f = refl
      go true true e false f =
          let z : true ≡ false = sym (eq-eqb (owner_of t i.slot.0) (owner_of t j.slot.0) (ap (λ (n : Incarnation). owner_of t n.slot.0) (same_incarnation i j e))) ∙ f in absurd cc
      go true false e true f = refl
      go true false e false f = refl
      go false q e true f = refl
      go false q e false f = refl

  -- word to each plug of the home
  pub plugs_in : (t : Tables) (me : ℕ) (x : Incarnation) (plugs : List Incarnation)
      → emits (back_of i h) (owner_of t i.slot.0) (ended_plugs t me x plugs)
      ≡ (if is_incarnation h x then times (count_by (is_incarnation i) plugs) (kinds.ImportEnded ∷ []) else [])
  plugs_in t me x [] = go (is_incarnation h x)
    where
      go : (b : Bool) → [] ≡ (if b then times 0 (kinds.ImportEnded ∷ []) else [])
      go true = refl
      go false = refl
  plugs_in t me x (j ∷ js) =
      emits_append (back_of i h) (owner_of t i.slot.0) (to_owner t me kinds.ImportEnded (frame_of x) (frame_of j) [] ∷ []) (ended_plugs t me x js)
      ∙ ap (λ (z : List SysKind). z ++ emits (back_of i h) (owner_of t i.slot.0) (ended_plugs t me x js)) (ended_in t me x j)
      ∙ ap (λ (z : List SysKind). (if is_incarnation h x && is_incarnation i j then kinds.ImportEnded ∷ [] else []) ++ z) (plugs_in t me x js)
      ∙ go (is_incarnation h x) (is_incarnation i j) (count_by (is_incarnation i) js)
      ∙ ap (λ n. if is_incarnation h x then times n (kinds.ImportEnded ∷ []) else []) (sym (count_cons (is_incarnation i) j js))
    where
      go : (a b : Bool) (n : ℕ)
          → (if a && b then kinds.ImportEnded ∷ [] else []) ++ (if a then times n (kinds.ImportEnded ∷ []) else [])
          ≡ (if a then times (if b then suc n else n) (kinds.ImportEnded ∷ []) else [])
      go true true n = refl
      go true false n = refl
      go false b n = refl
