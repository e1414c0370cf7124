-- What is seen, put together one thing after another.
use Rattle.std.proofs.Common.{◌≡◌, ℕ, zero, suc, ◌+◌, ◌<◌, ◌≤◌, nat_le, Bool, true, false, List, [], ◌∷◌, ◌++◌, map, filter, take, get_or, length, slice_get, Option, Some, None, refl, sym, ap, ◌∙◌, subst, arith, append_assoc, append-nil}
use Rattle.std.specs.Option.{option_map_or}
use Rattle.std.specs.List.{flat_map, range_with_len}
use Rattle.std.proofs.lemmas.Bool.{cond-true, cond-false, le-leb, lt-leb}
use Rattle.std.proofs.lemmas.List.{take_more}
use Rattle.std.proofs.lemmas.Option.{get_or_from_slice_get, slice_get_within, slice_get-get_or, slice_get_read}
use Rattle.std.proofs.lemmas.List.Elements.{filter-append}
use Rattle.room_kinds.specs.declared.numbers.Incarnation.{Incarnation}
use Rattle.room_wiring.specs.declared.tables.Tables.{Tables}
use Rattle.room_wiring.specs.Places.{place_count}
use Rattle.actor_duties.specs.State.{Link}
use Rattle.actor_duties.specs.Words.{is_spp, places_of}
use Rattle.actor_duties.specs.Commands.{all_places}
use Rattle.actor_world.specs.Body.{Body}
use Rattle.actor_world.specs.Start.{first_state}
use Rattle.controller.specs.States.{shown_in}
use Rattle.controller.specs.declared.controller_state.ControllerState.{ControllerState}
use Rattle.controller_actors.specs.Plants.{model_of}
use Rattle.controller_actors.specs.declared.plant.Plant.{Plant}
use Rattle.room_show.specs.declared.snapshot.ControllerView.{ControllerView}
use Rattle.room_show.specs.declared.snapshot.PeerView.{PeerView}
use Rattle.room_verify.specs.Shown.{is_end_port, peer_seen, port_seen, controller_seen}
use Rattle.room_verify.specs.Showing.{actors_observer}
use Rattle.room_verify.specs.Worlds.{Stands, world_in}
use Rattle.room_verify.specs.declared.replay.Replay.{Replay}

-- ---- lists

-- one item more from the front
pub take_next : {A : Type 0} (xs : List A) (i : ℕ) (x : A) → slice_get xs i ≡ Some x → take i xs ++ x ∷ [] ≡ take (i + 1) xs
take_next {A} xs i x e =
    ap (λ (z : A). take i xs ++ z ∷ []) (sym (get_or_from_slice_get xs i x x e)) ∙ sym (take_more xs i x (slice_get_within xs i x e))

-- where no item is left, all were taken
pub take_end : {A : Type 0} (xs : List A) (i : ℕ) → slice_get xs i ≡ None → take i xs ≡ xs
take_end [] zero e = refl
take_end [] (suc i) e = refl
take_end (y ∷ xs) zero e = absurd cc
take_end {A} (y ∷ xs) (suc i) e = ap (λ (z : List A). y ∷ z) (take_end xs i e)

pub flat_append : {A B : Type 0} (f : A → List B) (xs ys : List A) → flat_map f (xs ++ ys) ≡ flat_map f xs ++ flat_map f ys
flat_append f [] ys = refl
flat_append {A} {B} f (x ∷ xs) ys = ap (λ (z : List B). f x ++ z) (flat_append f xs ys) ∙ sym (append_assoc (f x) (flat_map f xs) (flat_map f ys))

pub flat_one : {A B : Type 0} (f : A → List B) (x : A) → flat_map f (x ∷ []) ≡ f x
flat_one f x = append-nil (f x)

-- one number more
range_push : (a n : ℕ) → range_with_len a (suc n) ≡ range_with_len a n ++ (a + n) ∷ []
range_push a zero = let e : a ≡ a + 0 = omega arith in ap (λ (k : ℕ). k ∷ []) e
range_push a (suc n) =
    let e : (a + 1) + n ≡ a + suc n = omega arith in
    ap (λ (ks : List ℕ). a ∷ ks) (range_push (a + 1) n ∙ ap (λ (k : ℕ). range_with_len (a + 1) n ++ k ∷ []) e)

range_more : (n : ℕ) → range_with_len 0 (n + 1) ≡ range_with_len 0 n ++ n ∷ []
range_more n =
    let e : n + 1 ≡ suc n = omega arith in
    let z : 0 + n ≡ n = omega arith in
    ap (range_with_len 0) e ∙ range_push 0 n ∙ ap (λ (k : ℕ). range_with_len 0 n ++ k ∷ []) z

-- so much was added to what stood there, number by number
pub added_more : {B : Type 0} (f : ℕ → List B) (old now next : List B) (n : ℕ) → now ≡ old ++ flat_map f (range_with_len 0 n) → next ≡ now ++ f n
    → next ≡ old ++ flat_map f (range_with_len 0 (n + 1))
added_more {B} f old now next n before one =
    one ∙ ap (λ (z : List B). z ++ f n) before ∙ append_assoc old (flat_map f (range_with_len 0 n)) (f n)
    ∙ ap (λ (z : List B). old ++ z)
    (ap (λ (z : List B). flat_map f (range_with_len 0 n) ++ z) (sym (flat_one f n)) ∙ sym (flat_append f (range_with_len 0 n) (n ∷ []))
    ∙ ap (flat_map f) (sym (range_more n)))

-- and item by item
pub added_item : {B : Type 0} (f : ℕ → List B) (old now next : List B) (keep : ℕ → Bool) (ks : List ℕ) (i k : ℕ) → slice_get ks i ≡ Some k
    → now ≡ old ++ flat_map f (filter keep (take i ks)) → next ≡ now ++ flat_map f (filter keep (k ∷ []))
    → next ≡ old ++ flat_map f (filter keep (take (i + 1) ks))
added_item {B} f old now next keep ks i k there before one =
    let more : filter keep (take (i + 1) ks) ≡ filter keep (take i ks) ++ filter keep (k ∷ []) =
    ap (filter keep) (sym (take_next ks i k there)) ∙ filter-append keep (take i ks) (k ∷ []) in
    one ∙ ap (λ (z : List B). z ++ flat_map f (filter keep (k ∷ []))) before
    ∙ append_assoc old (flat_map f (filter keep (take i ks))) (flat_map f (filter keep (k ∷ [])))
    ∙ ap (λ (z : List B). old ++ z)
    (sym (flat_append f (filter keep (take i ks)) (filter keep (k ∷ []))) ∙ ap (flat_map f) (sym more))

-- an item that is asked for within a list is there
pub item_there : (ks : List ℕ) (i n : ℕ) → i < n → n ≡ length ks → slice_get ks i ≡ None → ⊥
item_there ks i n low is none =
    let there : slice_get ks i ≡ Some (get_or ks i 0) = slice_get-get_or ks i 0 (omega (arith, low, is)) in
    let both : ◌≡◌ {A = Option ℕ} None (Some (get_or ks i 0)) = sym none ∙ there in absurd cc

-- ---- a linked place

module _ {B : Type 0} (f : ℕ → List B) (first k : ℕ) where
  pub link_passed : k < first → (now : List B) → now ≡ now ++ flat_map f (filter (nat_le first) (k ∷ []))
  link_passed low now =
      sym (append-nil now) ∙ ap (λ (ks : List ℕ). now ++ flat_map f ks) (sym (cond-false (nat_le first k) (k ∷ []) [] (lt-leb first k low)))

  pub link_added : first ≤ k → (now next : List B) → next ≡ now ++ f k → next ≡ now ++ flat_map f (filter (nat_le first) (k ∷ []))
  link_added high now next one =
      one ∙ ap (λ (z : List B). now ++ z) (sym (flat_one f k))
      ∙ ap (λ (ks : List ℕ). now ++ flat_map f ks) (sym (cond-true (nat_le first k) (k ∷ []) [] (le-leb first k high)))

-- ---- a port

module _ {M : Type 0} (t : Tables) (me : ℕ) (b : Body M) (x : Incarnation) (p : ℕ) where
  pub no_end_port : (now : List PeerView) → is_end_port t x.slot.0 p ≡ false → now ≡ now ++ port_seen t me b x p
  unfolding port_seen
  no_end_port now none =
      sym (append-nil now)
      ∙ ap (λ (z : List PeerView). now ++ z) (sym (cond-false (is_end_port t x.slot.0 p) (flat_map (peer_seen t me b x p) (all_places t b.links x.slot.0 p)) [] none))

  port_is : is_end_port t x.slot.0 p ≡ true → port_seen t me b x p ≡ flat_map (peer_seen t me b x p) (all_places t b.links x.slot.0 p)
  unfolding port_seen
  port_is some = cond-true (is_end_port t x.slot.0 p) (flat_map (peer_seen t me b x p) (all_places t b.links x.slot.0 p)) [] some

  abbrev linked : List ℕ
  linked = map (λ (y : Link). y.place) (b.links.linked x.slot.0 p)

  pub model_port : (now next : List PeerView) → is_end_port t x.slot.0 p ≡ true → is_spp t x.slot.0 p ≡ false
      → next ≡ now ++ flat_map (peer_seen t me b x p) (places_of t x.slot.0 p) → next ≡ now ++ port_seen t me b x p
  model_port now next some no_spp one =
      let places : all_places t b.links x.slot.0 p ≡ places_of t x.slot.0 p =
      ap (λ (ks : List ℕ). places_of t x.slot.0 p ++ ks) (cond-false (is_spp t x.slot.0 p) (filter (nat_le (place_count t x.slot.0 p)) linked) [] no_spp)
      ∙ append-nil (places_of t x.slot.0 p) in
      one ∙ ap (λ (z : List PeerView). now ++ z) (ap (flat_map (peer_seen t me b x p)) (sym places) ∙ sym (port_is some))

  pub linked_port : (first : ℕ) (now mid next : List PeerView) → is_end_port t x.slot.0 p ≡ true → is_spp t x.slot.0 p ≡ true → first ≡ place_count t x.slot.0 p
      → mid ≡ now ++ flat_map (peer_seen t me b x p) (places_of t x.slot.0 p)
      → next ≡ mid ++ flat_map (peer_seen t me b x p) (filter (nat_le first) linked) → next ≡ now ++ port_seen t me b x p
  linked_port first now mid next some spp is one two =
      let places : all_places t b.links x.slot.0 p ≡ places_of t x.slot.0 p ++ filter (nat_le (place_count t x.slot.0 p)) linked =
      ap (λ (ks : List ℕ). places_of t x.slot.0 p ++ ks) (cond-true (is_spp t x.slot.0 p) (filter (nat_le (place_count t x.slot.0 p)) linked) [] spp) in
      let f = peer_seen t me b x p in
      two ∙ ap (λ (n : ℕ). mid ++ flat_map f (filter (nat_le n) linked)) is
      ∙ ap (λ (z : List PeerView). z ++ flat_map f (filter (nat_le (place_count t x.slot.0 p)) linked)) one
      ∙ append_assoc now (flat_map f (places_of t x.slot.0 p)) (flat_map f (filter (nat_le (place_count t x.slot.0 p)) linked))
      ∙ ap (λ (z : List PeerView). now ++ z)
      (sym (flat_append f (places_of t x.slot.0 p) (filter (nat_le (place_count t x.slot.0 p)) linked))
      ∙ ap (flat_map f) (sym places) ∙ sym (port_is some))

-- ---- controllers

pub controller_there : (ss now : List ControllerState) (c : ℕ) (s : ControllerState) → now ≡ ss → c < length now → s ≡ get_or now c s → slice_get ss c ≡ Some s
controller_there ss now c s same low is =
    subst (λ (z : List ControllerState). slice_get z c ≡ Some s) same (slice_get_read now (length now) c s refl low is)

-- the controller that stands at a number
pub seen_at : (plant : Plant) (r : Replay) → Stands plant r → (c : ℕ) (s : ControllerState) → slice_get r.controllers.items c ≡ Some s → (v : ControllerView)
    → v ≡ controller_seen actors_observer plant.wiring s.me.0 (shown_in plant s) → v ≡ controller_seen actors_observer plant.wiring c ((world_in plant r).controllers c)
seen_at plant r stands c s there v is =
    is ∙ ap (λ (k : ℕ). controller_seen actors_observer plant.wiring k (shown_in plant s)) (stands.each c s there).me
    ∙ ap (λ (o : Option ControllerState). controller_seen actors_observer plant.wiring c
    (option_map_or (λ (z : ControllerState). shown_in plant z) o (first_state (model_of plant) plant.wiring c))) (sym there)

-- what is seen of one controller more
pub mapped_more : {A : Type 0} (f : ℕ → A) (vs : List A) (n : ℕ) (x : A) → vs ≡ map f (range_with_len 0 n) → x ≡ f n
    → vs ++ x ∷ [] ≡ map f (range_with_len 0 (n + 1))
mapped_more {A} f vs n x before one =
    ap (λ (z : List A). z ++ x ∷ []) before ∙ ap (λ (z : A). map f (range_with_len 0 n) ++ z ∷ []) one
    ∙ sym (map_append f (range_with_len 0 n) (n ∷ [])) ∙ ap (map f) (sym (range_more n))
  where
    map_append : {A B : Type 0} (f : A → B) (xs ys : List A) → map f (xs ++ ys) ≡ map f xs ++ map f ys
    map_append f [] ys = refl
    map_append {A} {B} f (x ∷ xs) ys = ap (λ (z : List B). f x ∷ z) (map_append f xs ys)
