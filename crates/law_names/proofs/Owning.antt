-- What a turn does to the links that a controller keeps of its service points.
use Rattle.std.proofs.Common.{◌≡◌, ℕ, ◌+◌, ◌<◌, ◌≤◌, ◌==◌, ◌&&◌, ◌||◌, nat_lt, Bool, true, false, not, cond, if◌then◌else◌, List, [], ◌∷◌, ◌++◌, map, filter, find, slice_get, length, Option, Some, None, option_map, ℤ, pos, negsuc, refl, sym, ap, ◌∙◌, subst, eqb-true, eq-eqb, ltb-true, arith, ◌⊎◌, inl, inr}
use Rattle.std.specs.List.{AllByRecursion}
use Rattle.std.proofs.lemmas.Bool.{and_parts, ne_eqb, eqb-false, cases_lt, lt-ltb}
use Rattle.room_kinds.specs.declared.message.Msg.{Msg}
use Rattle.room_kinds.specs.declared.numbers.Incarnation.{Incarnation}
use Rattle.room_kinds.specs.declared.numbers.Endpoint.{Endpoint}
use Rattle.room_kinds.specs.declared.system.SysKind.{SysKind}
use Rattle.room_kinds.specs.declared.system.SysKind.TheVariants as kinds
use Rattle.room_kinds.specs.declared.command.NameCommand.{NameCommand}
use Rattle.room_kinds.specs.declared.command.NameCommand.TheVariants as names
use Rattle.room_wiring.specs.declared.tables.Tables.{Tables}
use Rattle.actor_merge.specs.Parties.{Treated}
use Rattle.actor_duties.specs.Words.{updated, whose, is_endpoint, is_own, is_sap, joined_at, is_joined, slots_of}
use Rattle.actor_duties.specs.State.{Lives, Link, Links, NameTable, Registration, Unnamed as NoName, Asked, Registered, Leaving, Done}
use Rattle.actor_duties.specs.Lives.{is_live, last_of, comes_up, is_made_with, goes_down, ended_slots, lives_made, lives_ended}
use Rattle.actor_duties.specs.Messages.{name_told, Named, NameRefused}
use Rattle.actor_duties.specs.Frame.{FrameDone}
use Rattle.actor_duties.specs.Links.{with_link, is_link, bound, unbound, updated_at, is_own_point, same_links, name_heard, replied, name_reply, links_duty_of, links_duty_from, links_duty, register_from, register_command, withdraw_from, withdraw_command, name_request, end_of}
use Rattle.actor_duties.specs.Peers.{link_at, link_peer}
use Rattle.actor_world.specs.Behaviour.{Behaviour}
use Rattle.actor_world.specs.Body.{Body}
use Rattle.actor_world.specs.Turns.{all_kinds, treat}
use Rattle.actor_world.specs.Start.{first_lives, first_links, first_state}
use Rattle.actor_world.specs.Directories.{IsOpen}
use Rattle.actor_world.proofs.Slots.{own_in_range}
use Rattle.law_agreement.proofs.Lists.{has, has_range, has_filter, has_reverse, all_append, all_map}
use Rattle.law_agreement.proofs.Hearing.{swap_eqb, AllMute, after_mute}
use Rattle.law_names.specs.Links.{table_peer, without, linked_by, link_heard, IsSound, IsNew}
use Rattle.law_names.proofs.Standing.{same_endpoint}
use Rattle.law_names.proofs.Soundness.{now_of, stays_sound}
use Rattle.law_names.proofs.LinkTelling.{home, told, table_told}
use Rattle.law_names.proofs.OffNames.{is_name_kind, IsOffNames, AllOffNames, links_off}
use Rattle.law_names.proofs.Naming.{LivesBy, stays, makes, ends, all_ended, IsNameWalk, IsOf, is_table_kind, is_links_kind, links_hear, Follows, Turns, treats, hears, leads, treat_turns, start_asks, start_lives, start_table}
use Rattle.law_names.proofs.CreatedRuns.{ask_somehow}

-- links whose places rise, from this one on
abbrev pub RiseFrom : ℕ → List Link → Type 0
RiseFrom n [] = Unit {0}
RiseFrom n (x ∷ xs) = (n ≤ x.place) × RiseFrom (x.place + 1) xs

rise_earlier : (n k : ℕ) → k ≤ n → (xs : List Link) → RiseFrom n xs → RiseFrom k xs
rise_earlier n k l [] h = tt
rise_earlier n k l (x ∷ xs) h = let low = h.0 in (omega (arith, l, low), h.1)

with_rises : (x : Link) (n : ℕ) → n ≤ x.place → (xs : List Link) → RiseFrom n xs → RiseFrom n (with_link x xs)
with_rises x n l [] h = (l, tt)
with_rises x n l (y ∷ ys) h = go (nat_lt x.place y.place) refl (x.place == y.place) refl (λ k. with_rises x (y.place + 1) k ys h.1)
  where
    go : (a : Bool) → nat_lt x.place y.place ≡ a → (b : Bool) → (x.place == y.place) ≡ b → (y.place + 1 ≤ x.place → RiseFrom (y.place + 1) (with_link x ys))
        → RiseFrom n (if a then x ∷ (y ∷ ys) else if b then x ∷ ys else y ∷ with_link x ys)
    go true e b f k = let below : x.place < y.place = ltb-true _ _ e in (l, (omega (arith, below), h.1))
    go false e true f k = let same : x.place ≡ y.place = eqb-true x.place y.place f in (l, subst (λ z. RiseFrom (z + 1) ys) (sym same) h.1)
    go false e false f k =
        let above : y.place + 1 ≤ x.place = higher (cases_lt x.place y.place) in (h.0, k above)
      where
        higher : (x.place < y.place) ⊎ (y.place ≤ x.place) → y.place + 1 ≤ x.place
        higher (inl less) = let z : true ≡ false = sym (lt-ltb _ _ less) ∙ e in absurd cc
        higher (inr more) = distinct (cases_lt y.place x.place)
          where
            distinct : (y.place < x.place) ⊎ (x.place ≤ y.place) → y.place + 1 ≤ x.place
            distinct (inl less) = omega (arith, less)
            distinct (inr less) = let same : x.place ≡ y.place = omega (arith, less, more) in absurd (eqb-false x.place y.place f same)

filter_rises : (q : Link → Bool) (n : ℕ) (xs : List Link) → RiseFrom n xs → RiseFrom n (filter q xs)
filter_rises q n [] h = tt
filter_rises q n (x ∷ xs) h = go (q x) (filter_rises q (x.place + 1) xs h.1)
  where
    go : (b : Bool) → RiseFrom (x.place + 1) (filter q xs) → RiseFrom n (cond b (x ∷ filter q xs) (filter q xs))
    go true k = (h.0, k)
    go false k = let low = h.0 in rise_earlier (x.place + 1) n (omega (arith, low)) (filter q xs) k

-- the peer at a place among these links
abbrev pub peer_at : ℕ → List Link → Option Endpoint
peer_at k xs = option_map (λ (x : Link). x.peer) (link_at k xs)

peer_found : (k : ℕ) (y : Link) (ys : List Link) → peer_at k (y ∷ ys) ≡ (if y.place == k then Some y.peer else peer_at k ys)
peer_found k y ys = go (y.place == k)
  where
    go : (b : Bool) → option_map (λ (x : Link). x.peer) (if b then Some y else find (λ (x : Link). x.place == k) ys) ≡ (if b then Some y.peer else option_map (λ (x : Link). x.peer) (find (λ (x : Link). x.place == k) ys))
    go true = refl
    go false = refl

peer_with : (x : Link) (k : ℕ) (xs : List Link) → peer_at k (with_link x xs) ≡ (if x.place == k then Some x.peer else peer_at k xs)
peer_with x k [] = peer_found k x []
peer_with x k (y ∷ ys) = go (nat_lt x.place y.place) (x.place == y.place) refl (peer_with x k ys)
  where
    replaced : x.place ≡ y.place → peer_at k (x ∷ ys) ≡ (if x.place == k then Some x.peer else peer_at k (y ∷ ys))
    replaced same = peer_found k x ys ∙ at (x.place == k) refl
      where
        at : (b : Bool) → (x.place == k) ≡ b → (if b then Some x.peer else peer_at k ys) ≡ (if b then Some x.peer else peer_at k (y ∷ ys))
        at true e = refl
        at false e = sym (peer_found k y ys ∙ ap (λ (z : Bool). if z then Some y.peer else peer_at k ys) (ap (λ (n : ℕ). n == k) (sym same) ∙ e))

    passed : (x.place == y.place) ≡ false → peer_at k (with_link x ys) ≡ (if x.place == k then Some x.peer else peer_at k ys)
        → peer_at k (y ∷ with_link x ys) ≡ (if x.place == k then Some x.peer else peer_at k (y ∷ ys))
    passed other ih =
        peer_found k y (with_link x ys)
        ∙ at (y.place == k) refl (x.place == k) refl
        ∙ ap (λ (z : Option Endpoint). if x.place == k then Some x.peer else z) (sym (peer_found k y ys))
      where
        at : (a : Bool) → (y.place == k) ≡ a → (b : Bool) → (x.place == k) ≡ b
            → (if a then Some y.peer else peer_at k (with_link x ys)) ≡ (if b then Some x.peer else (if a then Some y.peer else peer_at k ys))
        at true e true f = absurd (eqb-false x.place y.place other (eqb-true x.place k f ∙ sym (eqb-true y.place k e)))
        at true e false f = refl
        at false e true f = ih ∙ ap (λ (z : Bool). if z then Some x.peer else peer_at k ys) f
        at false e false f = ih ∙ ap (λ (z : Bool). if z then Some x.peer else peer_at k ys) f

    go : (a b : Bool) → (x.place == y.place) ≡ b → peer_at k (with_link x ys) ≡ (if x.place == k then Some x.peer else peer_at k ys)
        → peer_at k (if a then x ∷ (y ∷ ys) else if b then x ∷ ys else y ∷ with_link x ys) ≡ (if x.place == k then Some x.peer else peer_at k (y ∷ ys))
    go true b e ih = peer_found k x (y ∷ ys)
    go false true e ih = replaced (eqb-true x.place y.place e)
    go false false e ih = passed e ih

-- behind the links of a place there are no others of it
peer_behind : (k n : ℕ) → k < n → (xs : List Link) → RiseFrom n xs → peer_at k xs ≡ None
peer_behind k n l [] h = refl
peer_behind k n l (x ∷ xs) h =
    let low = h.0 in
    let other : (x.place == k) ≡ false = ne_eqb x.place k (λ e. omega (arith, l, low, e)) in
    peer_found k x xs ∙ ap (λ (z : Bool). if z then Some x.peer else peer_at k xs) other ∙ peer_behind k (x.place + 1) (omega (arith, l, low)) xs h.1

-- a link that ends is gone from its place
peer_ended : (peer : Endpoint) (own k : ℕ) (n : ℕ) (xs : List Link) → RiseFrom n xs
    → peer_at k (filter (λ x. not (is_link peer own x)) xs) ≡ (if own == k then without peer (peer_at k xs) else peer_at k xs)
peer_ended peer own k n [] h = go (own == k)
  where
    go : (b : Bool) → ◌≡◌ {A = Option Endpoint} None (if b then None else None)
    go true = refl
    go false = refl
peer_ended peer own k n (x ∷ xs) h =
    go (x.place == own) refl (is_endpoint x.peer peer) refl (peer_ended peer own k (x.place + 1) xs h.1)
  where
    rest : List Link
    rest = filter (λ x. not (is_link peer own x)) xs

    -- a link that stays
    stayed : (own ≡ k → x.place ≡ k → is_endpoint x.peer peer ≡ false)
        → peer_at k rest ≡ (if own == k then without peer (peer_at k xs) else peer_at k xs)
        → peer_at k (x ∷ rest) ≡ (if own == k then without peer (peer_at k (x ∷ xs)) else peer_at k (x ∷ xs))
    stayed kept ih =
        peer_found k x rest ∙ at (x.place == k) refl (own == k) refl
        ∙ ap (λ (z : Option Endpoint). if own == k then without peer z else z) (sym (peer_found k x xs))
      where
        at : (a : Bool) → (x.place == k) ≡ a → (b : Bool) → (own == k) ≡ b
            → (if a then Some x.peer else peer_at k rest)
            ≡ (if b then without peer (if a then Some x.peer else peer_at k xs) else (if a then Some x.peer else peer_at k xs))
        at true e true f = sym (ap (λ (z : Bool). if z then None else Some x.peer) (kept (eqb-true own k f) (eqb-true x.place k e)))
        at true e false f = refl
        at false e true f = ih ∙ ap (λ (z : Bool). if z then without peer (peer_at k xs) else peer_at k xs) f
        at false e false f = ih ∙ ap (λ (z : Bool). if z then without peer (peer_at k xs) else peer_at k xs) f

    -- a link that goes
    went : x.place ≡ own → is_endpoint x.peer peer ≡ true
        → peer_at k rest ≡ (if own == k then without peer (peer_at k xs) else peer_at k xs)
        → peer_at k rest ≡ (if own == k then without peer (peer_at k (x ∷ xs)) else peer_at k (x ∷ xs))
    went same this ih =
        ih ∙ at (own == k) refl
        ∙ ap (λ (z : Option Endpoint). if own == k then without peer z else z) (sym (peer_found k x xs))
      where
        at : (b : Bool) → (own == k) ≡ b
            → (if b then without peer (peer_at k xs) else peer_at k xs)
            ≡ (if b then without peer (if x.place == k then Some x.peer else peer_at k xs) else (if x.place == k then Some x.peer else peer_at k xs))
        at true f =
            let here : x.place ≡ k = same ∙ eqb-true own k f in
            ap (without peer) (peer_behind k (x.place + 1) (omega (arith, here)) xs h.1)
            ∙ sym (ap (λ (z : Bool). without peer (if z then Some x.peer else peer_at k xs)) (eq-eqb x.place k here)
            ∙ ap (λ (z : Bool). if z then None else Some x.peer) this)
        at false f =
            sym (ap (λ (z : Bool). if z then Some x.peer else peer_at k xs) (ap (λ (z : ℕ). z == k) same ∙ f))

    go : (a : Bool) → (x.place == own) ≡ a → (b : Bool) → is_endpoint x.peer peer ≡ b
        → peer_at k rest ≡ (if own == k then without peer (peer_at k xs) else peer_at k xs)
        → peer_at k (cond (not (a && b)) (x ∷ rest) rest) ≡ (if own == k then without peer (peer_at k (x ∷ xs)) else peer_at k (x ∷ xs))
    go true e true f ih = went (eqb-true x.place own e) f ih
    go true e false f ih = stayed (λ p q. f) ih
    go false e b f ih = stayed (λ p q. absurd (eqb-false x.place own e (q ∙ sym p))) ih

-- how the links of a controller are kept: places rise, and where nobody lives there is no link
pub record AreKept (l : Lives) (links : Links) : Type 0 where
  pub rises : (s p : ℕ) → RiseFrom 0 (links.linked s p)
  pub dead : (s p : ℕ) → l.lives s ≡ false → links.linked s p ≡ []

-- links with others at one port
updated_each : {X : Type 0} (P : ℕ → ℕ → X → Type 0) (f : ℕ → ℕ → X) (s p : ℕ) (v : X) → ((n q : ℕ) → P n q (f n q)) → P s p v → (n q : ℕ) → P n q (updated_at f s p v n q)
unfolding updated
updated_each P f s p v h k n q = go (n == s) refl (q == p) refl
  where
    at : (b : Bool) → (n == s) ≡ b → (c : Bool) → (q == p) ≡ c → P n q (if b then (λ (z : ℕ). if c then v else f s q) q else f n q)
    at true e true d = subst (λ z. P z q v) (sym (eqb-true n s e)) (subst (λ z. P s z v) (sym (eqb-true q p d)) k)
    at true e false d = subst (λ z. P n q (f z q)) (eqb-true n s e) (h n q)
    at false e c d = h n q

    go : (b : Bool) → (n == s) ≡ b → (c : Bool) → (q == p) ≡ c → P n q ((if b then (λ (z : ℕ). if z == p then v else f s z) else f n) q)
    go true e c d = rw d (at true e c d)
    go false e c d = h n q

pub updated_value : {X : Type 0} (f : ℕ → ℕ → X) (s p : ℕ) (v : X) (n q : ℕ) → updated_at f s p v n q ≡ (if (n == s) && (q == p) then v else f n q)
unfolding updated
updated_value f s p v n q = go (n == s) refl (q == p) refl
  where
    go : (b : Bool) → (n == s) ≡ b → (c : Bool) → (q == p) ≡ c → (if b then (λ (z : ℕ). if z == p then v else f s z) else f n) q ≡ (if b && c then v else f n q)
    go true e true d = rw d refl
    go true e false d = rw d (ap (λ z. f z q) (sym (eqb-true n s e)))
    go false e c d = refl

module _ (l : Links) (peer own a : Endpoint) where
  -- whether two endpoints are one place, whatever their generations
  abbrev is_there : Bool
  is_there = ((a.slot.0 == own.slot.0) && (a.port == own.port)) && (own.place == a.place)

  pub bound_peer : link_peer (bound l peer own) a ≡ (if is_there then Some peer else link_peer l a)
  unfolding link_peer bound
  bound_peer =
      ap (peer_at a.place) (updated_value l.linked own.slot.0 own.port (with_link (record { place = own.place; peer = peer }) (l.linked own.slot.0 own.port)) a.slot.0 a.port)
      ∙ go (a.slot.0 == own.slot.0) refl (a.port == own.port) refl
    where
      go : (x : Bool) → (a.slot.0 == own.slot.0) ≡ x → (y : Bool) → (a.port == own.port) ≡ y
          → peer_at a.place (if x && y then with_link (record { place = own.place; peer = peer }) (l.linked own.slot.0 own.port) else l.linked a.slot.0 a.port)
          ≡ (if (x && y) && (own.place == a.place) then Some peer else peer_at a.place (l.linked a.slot.0 a.port))
      go true e true f =
          peer_with (record { place = own.place; peer = peer }) a.place (l.linked own.slot.0 own.port)
          ∙ ap (λ (z : List Link). if own.place == a.place then Some peer else peer_at a.place z)
          (ap (λ n. l.linked n own.port) (sym (eqb-true a.slot.0 own.slot.0 e)) ∙ ap (l.linked a.slot.0) (sym (eqb-true a.port own.port f)))
      go true e false f = refl
      go false e y f = refl

  pub unbound_peer : ((s p : ℕ) → RiseFrom 0 (l.linked s p)) → link_peer (unbound l peer own) a ≡ (if is_there then without peer (link_peer l a) else link_peer l a)
  unfolding link_peer unbound
  unbound_peer rises =
      ap (peer_at a.place) (updated_value l.linked own.slot.0 own.port (filter (λ x. not (is_link peer own.place x)) (l.linked own.slot.0 own.port)) a.slot.0 a.port)
      ∙ go (a.slot.0 == own.slot.0) refl (a.port == own.port) refl
    where
      go : (x : Bool) → (a.slot.0 == own.slot.0) ≡ x → (y : Bool) → (a.port == own.port) ≡ y
          → peer_at a.place (if x && y then filter (λ x. not (is_link peer own.place x)) (l.linked own.slot.0 own.port) else l.linked a.slot.0 a.port)
          ≡ (if (x && y) && (own.place == a.place) then without peer (peer_at a.place (l.linked a.slot.0 a.port)) else peer_at a.place (l.linked a.slot.0 a.port))
      go true e true f =
          peer_ended peer own.place a.place 0 (l.linked own.slot.0 own.port) (rises own.slot.0 own.port)
          ∙ ap (λ (z : List Link). if own.place == a.place then without peer (peer_at a.place z) else peer_at a.place z)
          (ap (λ n. l.linked n own.port) (sym (eqb-true a.slot.0 own.slot.0 e)) ∙ ap (l.linked a.slot.0) (sym (eqb-true a.port own.port f)))
      go true e false f = refl
      go false e y f = refl

-- the links of actors that ended are gone
module _ (t : Tables) (me : ℕ) where
  ended_linked : (l : Lives) (s p : ℕ) (ks : List ℕ) (x : Links) → (all_ended t me (map (last_of l) ks) x).now.linked s p ≡ (if has s ks then [] else x.linked s p)
  unfolding end_of updated
  ended_linked l s p [] x = refl
  ended_linked l s p (k ∷ ks) x =
      ended_linked l s p ks (end_of t me x (last_of l k)).now
      ∙ at (has s ks) (s == k)
      ∙ ap (λ (b : Bool). if b || has s ks then [] else x.linked s p) (swap_eqb s k)
    where
      at : (h b : Bool) → (if h then [] else (if b then (λ (q : ℕ). []) else x.linked s) p) ≡ (if b || h then [] else x.linked s p)
      at true true = refl
      at true false = refl
      at false true = refl
      at false false = refl

  down_own : (l : Lives) (o s : ℕ) → goes_down t me l o s ≡ true → is_own t me s ≡ true
  unfolding goes_down
  down_own l o s e = (and_parts (is_own t me s) _ (and_parts _ (l.lives s) e).0).0

  ended_has : (l : Lives) (o s : ℕ) → has s (ended_slots t me l o) ≡ goes_down t me l o s
  unfolding ended_slots
  ended_has l o s =
      has_reverse s (filter (goes_down t me l o) (slots_of t)) ∙ has_filter (goes_down t me l o) s (slots_of t) ∙ go (goes_down t me l o s) refl
    where
      go : (b : Bool) → goes_down t me l o s ≡ b → (b && has s (slots_of t)) ≡ b
      go true e =
          let low : s < length t.slots = own_in_range t me s (down_own l o s e) in has_range s 0 (length t.slots) (omega arith) (omega (arith, low))
      go false e = refl

  -- how lives and links change together: links of what lives stay; what comes up was not there before
  record Moves (l next : Lives) (a c : Links) : Type 0 where
    pub same : (s p : ℕ) → next.lives s ≡ true → c.linked s p ≡ a.linked s p
    pub kept : AreKept l a → AreKept next c
    pub lived : (s : ℕ) → next.lives s ≡ true → ((l.lives s ≡ true) × (next.generation s ≡ l.generation s)) ⊎ ((l.lives s ≡ false) × (next.generation s ≡ l.generation s + 1))

  linked_kept : (l : Lives) (a c : Links) → c.linked ≡ a.linked → AreKept l a → AreKept l c
  linked_kept l a c e h =
      record {
        rises = λ s p. subst (λ (f : ℕ → ℕ → List Link). RiseFrom 0 (f s p)) (sym e) (h.rises s p);
        dead = λ s p q. ap (λ (f : ℕ → ℕ → List Link). f s p) e ∙ h.dead s p q;
      }

  stays_moves : (l : Lives) (a c : Links) → c.linked ≡ a.linked → Moves l l a c
  stays_moves l a c e =
      record {
        same = λ s p q. ap (λ (f : ℕ → ℕ → List Link). f s p) e;
        kept = linked_kept l a c e;
        lived = λ s q. inl (q, refl);
      }

  up_vacant : (l : Lives) (o s : ℕ) → comes_up t me l o s ≡ true → l.lives s ≡ false
  unfolding comes_up
  up_vacant l o s e = denied (l.lives s) (and_parts (is_own t me s) (not (l.lives s)) (and_parts (is_made_with t o s) (is_own t me s && not (l.lives s)) e).1).1
    where
      denied : (b : Bool) → not b ≡ true → b ≡ false
      denied true q = absurd cc
      denied false q = refl

  makes_moves : (o : ℕ) (l : Lives) (a c : Links) → c.linked ≡ a.linked → Moves l (lives_made t me o l) a c
  unfolding lives_made
  makes_moves o l a c e =
      record {
        same = λ s p q. ap (λ (f : ℕ → ℕ → List Link). f s p) e;
        kept = λ h. (let k = linked_kept l a c e h in record { rises = k.rises; dead = λ s p q. k.dead s p (before (comes_up t me l o s) (l.lives s) q) });
        lived = λ s q. up s (comes_up t me l o s) refl q;
      }
    where
      before : (x y : Bool) → (x || y) ≡ false → y ≡ false
      before true y q = absurd cc
      before false y q = q

      up : (s : ℕ) (b : Bool) → comes_up t me l o s ≡ b → (b || l.lives s) ≡ true
          → ((l.lives s ≡ true) × (◌≡◌ {A = ℕ} (if comes_up t me l o s then l.generation s + 1 else l.generation s) (l.generation s)))
          ⊎ ((l.lives s ≡ false) × (◌≡◌ {A = ℕ} (if comes_up t me l o s then l.generation s + 1 else l.generation s) (l.generation s + 1)))
      up s true f q = inr (up_vacant l o s f, ap (λ (b : Bool). if b then l.generation s + 1 else l.generation s) f)
      up s false f q = inl (q, ap (λ (b : Bool). if b then l.generation s + 1 else l.generation s) f)

  ends_moves : (o : ℕ) (l : Lives) (a c : Links) → ((s p : ℕ) → c.linked s p ≡ (if goes_down t me l o s then [] else a.linked s p)) → Moves l (lives_ended t me o l) a c
  unfolding lives_ended
  ends_moves o l a c e =
      record {
        same = λ s p q. e s p ∙ still s p (goes_down t me l o s) q;
        kept = λ h.
            record {
              rises = λ s p. subst (RiseFrom 0) (sym (e s p)) (rises s p h (goes_down t me l o s));
              dead = λ s p q. e s p ∙ none s p h (goes_down t me l o s) q;
            };
        lived = λ s q. inl (lived s (goes_down t me l o s) q, refl);
      }
    where
      still : (s p : ℕ) (b : Bool) → (not b && l.lives s) ≡ true → (if b then [] else a.linked s p) ≡ a.linked s p
      still s p true q = absurd cc
      still s p false q = refl

      rises : (s p : ℕ) → AreKept l a → (b : Bool) → RiseFrom 0 (if b then [] else a.linked s p)
      rises s p h true = tt
      rises s p h false = h.rises s p

      none : (s p : ℕ) → AreKept l a → (b : Bool) → (not b && l.lives s) ≡ false → (if b then [] else a.linked s p) ≡ []
      none s p h true q = refl
      none s p h false q = h.dead s p q

      lived : (s : ℕ) (b : Bool) → (not b && l.lives s) ≡ true → l.lives s ≡ true
      lived s true q = absurd cc
      lived s false q = q

  -- messages that no place hears
  abbrev pub IsUnheard : Msg → Type 0
  IsUnheard m = (d : ℕ) (a : Endpoint) (o : Option Endpoint) → link_heard t d a m o ≡ o

  abbrev pub AllUnheard : List Msg → Type 0
  AllUnheard ms = AllByRecursion IsUnheard ms

  off_unheard : (m : Msg) → IsOffNames m → IsUnheard m
  unfolding link_heard
  off_unheard m h d a o = go (m.prio.0 == 0) (slice_get all_kinds m.signal) h
    where
      go : (b : Bool) (k : Option SysKind) → (b && is_name_kind k) ≡ false → (if b then linked_by t d a k m.source m.target m.payload o else o) ≡ o
      go false k q = refl
      go true (Some kinds.Bound) q = absurd cc
      go true (Some kinds.Ended) q = absurd cc
      go true k q = refl

  all_off_unheard : (ms : List Msg) → AllOffNames ms → AllUnheard ms
  all_off_unheard [] h = tt
  all_off_unheard (m ∷ ms) h = (off_unheard m h.0, all_off_unheard ms h.1)

  -- what actors ask changes no links, and no place hears it
  pub Asking : Lives → Links → List Msg → Links → Type 0
  Asking l a ms c = (c.linked ≡ a.linked) × AllUnheard ms

  abbrev AsksFrom : Links → Done Links → Type 0
  AsksFrom a r = (r.now.linked ≡ a.linked) × AllUnheard r.sent

  register_asks : (l : Links) (x : Incarnation) (p name : ℕ) (r : Registration) → AsksFrom l (register_from me l x p name r)
  unfolding link_heard
  register_asks l x p name NoName = (refl, ((λ d a o. refl), tt))
  register_asks l x p name Asked = (refl, ((λ d a o. refl), tt))
  register_asks l x p name Registered = (refl, ((λ d a o. refl), tt))
  register_asks l x p name Leaving = (refl, ((λ d a o. refl), tt))

  withdraw_asks : (l : Links) (x : Incarnation) (p : ℕ) (r : Registration) → AsksFrom l (withdraw_from me l x p r)
  unfolding link_heard
  withdraw_asks l x p NoName = (refl, ((λ d a o. refl), tt))
  withdraw_asks l x p Asked = (refl, ((λ d a o. refl), tt))
  withdraw_asks l x p Registered = (refl, ((λ d a o. refl), tt))
  withdraw_asks l x p Leaving = (refl, ((λ d a o. refl), tt))

  asks_if : (l : Links) (b : Bool) (x y : Done Links) → AsksFrom l x → AsksFrom l y → AsksFrom l (if b then x else y)
  asks_if l true x y h k = h
  asks_if l false x y h k = k

  request_asks : (l : Links) (x : Incarnation) (c : NameCommand) → AsksFrom l (name_request t me l x c)
  unfolding register_command withdraw_command link_heard
  request_asks l x (names.Register p name) =
      asks_if l (is_sap t x.slot.0 p && is_joined (joined_at t x.slot.0 p 0)) _ _ (refl, ((λ d a o. refl), tt)) (register_asks l x p name (l.registrations x.slot.0 p))
  request_asks l x (names.Withdraw p) = withdraw_asks l x p (l.registrations x.slot.0 p)

  pub asking : IsNameWalk t me (λ x c. Unit {0}) Asking
  unfolding Asking
  asking =
      record {
        two = λ l a b c x y h k. (k.0 ∙ h.0, all_append IsUnheard x y h.1 k.1);
        off = λ l a ms h. (refl, all_off_unheard ms h);
        request = λ l a x c here ask. request_asks a x c;
      }

  all_mute_of : (a : Endpoint) (ms : List Msg) → AllUnheard ms → AllMute (link_heard t (home t a) a) ms
  all_mute_of a [] h = tt
  all_mute_of a (m ∷ ms) h = ((λ o. h.0 (home t a) a o), all_mute_of a ms h.1)

  pub silent_told : (a : Endpoint) (ms : List Msg) → AllUnheard ms → (o : Option Endpoint) → told t a ms o ≡ o
  silent_told a ms h o = after_mute (link_heard t (home t a) a) (home t a) ms o (all_mute_of a ms h)

  withdrawn_unheard : (xs : List Incarnation) (x : Links) → AllUnheard (all_ended t me xs x).sent
  unfolding end_of link_heard
  withdrawn_unheard [] x = tt
  withdrawn_unheard (i ∷ xs) x =
      all_append IsUnheard (end_of t me x i).sent (all_ended t me xs (end_of t me x i).now).sent (all_map IsUnheard _ (λ p d a o. refl) _)
      (withdrawn_unheard xs (end_of t me x i).now)

  module _ {M : Type 0} (b : Body M) (m : Msg) where
    -- a turn of the frame service, or of an actor
    module _ (d : FrameDone) (sent : List Msg) (next : Body M) (follows : Follows t me (λ x c. Unit {0}) Asking b d sent next) where
      follows_moves : LivesBy t me b.frame.lives d → Moves b.frame.lives next.frame.lives b.links next.links
      unfolding Asking
      follows_moves (stays lives made ended) =
          subst (λ (z : Lives). Moves b.frame.lives z b.links next.links) (sym (follows.lives ∙ lives))
          (stays_moves b.frame.lives b.links next.links (linked_same ended))
        where
          linked_same : d.ended ≡ [] → next.links.linked ≡ b.links.linked
          linked_same e = ap (λ (z : Links). z.linked) follows.after ∙ ap (λ (z : List Incarnation). (all_ended t me z follows.links).now.linked) e ∙ follows.asks.0
      follows_moves (makes o lives made ended) =
          subst (λ (z : Lives). Moves b.frame.lives z b.links next.links) (sym (follows.lives ∙ lives))
          (makes_moves o b.frame.lives b.links next.links (linked_same ended))
        where
          linked_same : d.ended ≡ [] → next.links.linked ≡ b.links.linked
          linked_same e = ap (λ (z : Links). z.linked) follows.after ∙ ap (λ (z : List Incarnation). (all_ended t me z follows.links).now.linked) e ∙ follows.asks.0
      follows_moves (ends o lives made ended) =
          subst (λ (z : Lives). Moves b.frame.lives z b.links next.links) (sym (follows.lives ∙ lives))
          (ends_moves o b.frame.lives b.links next.links (λ s p.
          ap (λ (z : Links). z.linked s p) follows.after
          ∙ ap (λ (z : List Incarnation). (all_ended t me z follows.links).now.linked s p) ended
          ∙ ended_linked b.frame.lives s p (ended_slots t me b.frame.lives o) follows.links
          ∙ ap (λ (z : Bool). if z then [] else follows.links.linked s p) (ended_has b.frame.lives o s)
          ∙ ap (λ (f : ℕ → ℕ → List Link). if goes_down t me b.frame.lives o s then [] else f s p) follows.asks.0))

      follows_unheard : AllOffNames d.sent → AllUnheard sent
      unfolding Asking
      follows_unheard off =
          subst AllUnheard (sym follows.sends)
          (all_append IsUnheard d.sent (follows.asked ++ ((all_ended t me d.ended follows.links).sent ++ follows.last)) (all_off_unheard d.sent off)
          (all_append IsUnheard follows.asked ((all_ended t me d.ended follows.links).sent ++ follows.last) follows.asks.1
          (all_append IsUnheard (all_ended t me d.ended follows.links).sent follows.last (withdrawn_unheard d.ended follows.links) (all_off_unheard follows.last follows.off))))

    -- a live place hears what is said to it
    module _ (a : Endpoint) (live : is_live b.frame.lives (whose a) ≡ true) (kept : AreKept b.frame.lives b.links) where
      -- the own place of a link is at a live actor
      abbrev lives_there : Bool
      lives_there = is_own t me m.target.slot.0 && is_live b.frame.lives (whose m.target)

      there_of : is_endpoint m.target a ≡ true → (((a.slot.0 == m.target.slot.0) && (a.port == m.target.port)) && (m.target.place == a.place)) ≡ true
      there_of e =
          let same : m.target ≡ a = same_endpoint m.target a e in
          rw (eq-eqb a.slot.0 m.target.slot.0 (ap (λ (z : Endpoint). z.slot.0) (sym same)), eq-eqb a.port m.target.port (ap (λ (z : Endpoint). z.port) (sym same)), eq-eqb m.target.place a.place (ap (λ (z : Endpoint). z.place) same)) refl

      generation_of : (x : Incarnation) → is_live b.frame.lives x ≡ true → b.frame.lives.generation x.slot.0 ≡ x.generation.0
      generation_of x e = eqb-true (b.frame.lives.generation x.slot.0) x.generation.0 (and_parts (b.frame.lives.lives x.slot.0) (b.frame.lives.generation x.slot.0 == x.generation.0) e).1

      -- at one place two live endpoints are one
      not_there : is_live b.frame.lives (whose m.target) ≡ true → is_endpoint m.target a ≡ false
          → (((a.slot.0 == m.target.slot.0) && (a.port == m.target.port)) && (m.target.place == a.place)) ≡ false
      not_there alive e = go ((((a.slot.0 == m.target.slot.0) && (a.port == m.target.port)) && (m.target.place == a.place))) refl
        where
          go : (z : Bool) → (((a.slot.0 == m.target.slot.0) && (a.port == m.target.port)) && (m.target.place == a.place)) ≡ z → z ≡ false
          go false q = refl
          go true q =
              let first = and_parts ((a.slot.0 == m.target.slot.0) && (a.port == m.target.port)) (m.target.place == a.place) q in
              let second = and_parts (a.slot.0 == m.target.slot.0) (a.port == m.target.port) first.0 in
              let slots : a.slot.0 ≡ m.target.slot.0 = eqb-true a.slot.0 m.target.slot.0 second.0 in
              let generations : m.target.generation.0 ≡ a.generation.0 =
              sym (generation_of (whose m.target) alive) ∙ ap b.frame.lives.generation (sym slots) ∙ generation_of (whose a) live in
              let one : is_endpoint m.target a ≡ true =
              rw (
                eq-eqb m.target.slot.0 a.slot.0 (sym slots),
                eq-eqb m.target.generation.0 a.generation.0 generations,
                eq-eqb m.target.port a.port (sym (eqb-true a.port m.target.port second.1)),
                first.1,
              ) refl in
              let z : true ≡ false = sym one ∙ e in absurd cc

      heard_at : (f : Links) (v : Option Endpoint)
          → link_peer f a ≡ (if ((a.slot.0 == m.target.slot.0) && (a.port == m.target.port)) && (m.target.place == a.place) then v else link_peer b.links a)
          → link_peer (now_of (if lives_there then (if is_own_point t me m.target then record { now = f; sent = [] } else same_links b.links) else same_links b.links)) a
          ≡ (if is_own_point t me m.target && is_endpoint m.target a then v else link_peer b.links a)
      heard_at f v h = go lives_there refl (is_own_point t me m.target) refl (is_endpoint m.target a) refl
        where
          go : (x : Bool) → lives_there ≡ x → (y : Bool) → is_own_point t me m.target ≡ y → (z : Bool) → is_endpoint m.target a ≡ z
              → link_peer (now_of (if x then (if y then record { now = f; sent = [] } else same_links b.links) else same_links b.links)) a
              ≡ (if y && z then v else link_peer b.links a)
          go true e false q z r = refl
          go false e false q z r = refl
          go true e true q true r = h ∙ ap (λ (w : Bool). if w then v else link_peer b.links a) (there_of r)
          go true e true q false r =
              h ∙ ap (λ (w : Bool). if w then v else link_peer b.links a) (not_there (and_parts (is_own t me m.target.slot.0) (is_live b.frame.lives (whose m.target)) e).1 r)
          go false e true q true r =
              let own : is_own t me m.target.slot.0 ≡ true = (and_parts (is_own t me m.target.slot.0) _ q).0 in
              let alive : is_live b.frame.lives (whose m.target) ≡ true = subst (λ (w : Endpoint). is_live b.frame.lives (whose w) ≡ true) (sym (same_endpoint m.target a r)) live in
              let both : lives_there ≡ true = rw (own, alive) refl in
              let w : true ≡ false = sym both ∙ e in absurd cc
          go false e true q false r = refl

      unchanged_peer : (x : Bool) (r : Done Links) → link_peer r.now a ≡ link_peer b.links a → link_peer (now_of (if x then r else same_links b.links)) a ≡ link_peer b.links a
      unchanged_peer true r h = h
      unchanged_peer false r h = refl

      reply_peer : (code : ℕ) (r : Registration) → link_peer (replied me b.links m.target code r).now a ≡ link_peer b.links a
      unfolding link_peer
      reply_peer code Asked = go (code == 0) (code == 8)
        where
          go : (x y : Bool) → link_peer (now_of (
              if x then name_heard me b.links m.target Registered (name_told me Named (whose m.target) (pos m.target.port ∷ []))
              else if y then name_heard me b.links m.target NoName (name_told me NameRefused (whose m.target) (pos m.target.port ∷ pos code ∷ []))
              else same_links b.links)) a ≡ link_peer b.links a
          go true y = refl
          go false true = refl
          go false false = refl
      reply_peer code Leaving = refl
      reply_peer code NoName = refl
      reply_peer code Registered = refl

      bound_from : (peer : Endpoint) (payload : List ℤ)
          → link_peer (now_of (if lives_there then links_duty_of t me b.links kinds.Bound peer m.target payload else same_links b.links)) a
          ≡ linked_by t me a (Some kinds.Bound) (Some peer) m.target payload (link_peer b.links a)
      bound_from peer [] = heard_at (bound b.links peer m.target) (Some peer) (bound_peer b.links peer m.target a)
      bound_from peer (n ∷ ns) = unchanged_peer lives_there (same_links b.links) refl

      ended_from : (peer : Endpoint) (payload : List ℤ)
          → link_peer (now_of (if lives_there then links_duty_of t me b.links kinds.Ended peer m.target payload else same_links b.links)) a
          ≡ linked_by t me a (Some kinds.Ended) (Some peer) m.target payload (link_peer b.links a)
      ended_from peer [] = heard_at (unbound b.links peer m.target) (without peer (link_peer b.links a)) (unbound_peer b.links peer m.target a kept.rises)
      ended_from peer (n ∷ ns) = unchanged_peer lives_there (same_links b.links) refl

      reply_from : (peer : Endpoint) (payload : List ℤ)
          → link_peer (now_of (if lives_there then links_duty_of t me b.links kinds.NameReply peer m.target payload else same_links b.links)) a ≡ link_peer b.links a
      unfolding name_reply
      reply_from peer [] = unchanged_peer lives_there (same_links b.links) refl
      reply_from peer (pos code ∷ []) =
          unchanged_peer lives_there _ (unchanged_peer (is_own_point t me m.target && is_endpoint peer m.target && (m.target.place == 0)) (name_reply me b.links m.target code)
          (reply_peer code (b.links.registrations m.target.slot.0 m.target.port)))
      reply_from peer (negsuc code ∷ []) = unchanged_peer lives_there (same_links b.links) refl
      reply_from peer (pos code ∷ (n ∷ ns)) = unchanged_peer lives_there (same_links b.links) refl
      reply_from peer (negsuc code ∷ (n ∷ ns)) = unchanged_peer lives_there (same_links b.links) refl

      hears_from : (kind : SysKind) (source : Option Endpoint) → is_links_kind kind ≡ true
          → link_peer (now_of (if lives_there then links_duty_from t me b.links kind source m else same_links b.links)) a
          ≡ linked_by t me a (Some kind) source m.target m.payload (link_peer b.links a)
      hears_from kinds.Bound None is = unchanged_peer lives_there (same_links b.links) refl
      hears_from kinds.Ended None is = unchanged_peer lives_there (same_links b.links) refl
      hears_from kinds.NameReply None is = unchanged_peer lives_there (same_links b.links) refl
      hears_from kinds.Bound (Some peer) is = bound_from peer m.payload
      hears_from kinds.Ended (Some peer) is = ended_from peer m.payload
      hears_from kinds.NameReply (Some peer) is = reply_from peer m.payload
      hears_from kind source is = absurd cc

      heard_peer : (kind : SysKind) → is_links_kind kind ≡ true → IsOf m kind → link_peer (links_hear t me b kind m).now a ≡ link_heard t me a m (link_peer b.links a)
      unfolding links_duty link_heard
      heard_peer kind is of = rw (of.0, of.1) (hears_from kind m.source is)

    -- what is heard keeps links in order
    module _ (kept : AreKept b.frame.lives b.links) where
      IsKept : Done Links → Type 0
      IsKept r = AreKept b.frame.lives r.now

      kept_if : (x : Bool) (r : Done Links) → (x ≡ true → IsKept r) → IsKept (if x then r else same_links b.links)
      unfolding IsKept
      kept_if true r h = h refl
      kept_if false r h = kept

      put_kept : (own : Endpoint) (xs : List Link) → b.frame.lives.lives own.slot.0 ≡ true → RiseFrom 0 xs
          → AreKept b.frame.lives (record b.links { linked = updated_at b.links.linked own.slot.0 own.port xs })
      put_kept own xs live rises =
          record {
            rises = updated_each (λ n q ys. RiseFrom 0 ys) b.links.linked own.slot.0 own.port xs kept.rises rises;
            dead = updated_each (λ n q ys. b.frame.lives.lives n ≡ false → ys ≡ []) b.links.linked own.slot.0 own.port xs kept.dead
                (λ q. let z : true ≡ false = sym live ∙ q in absurd cc);
          }

      reply_kept : (own : Endpoint) (code : ℕ) (r : Registration) → IsKept (replied me b.links own code r)
      unfolding IsKept
      reply_kept own code Asked = go (code == 0) (code == 8)
        where
          go : (x y : Bool) → IsKept (
              if x then name_heard me b.links own Registered (name_told me Named (whose own) (pos own.port ∷ []))
              else if y then name_heard me b.links own NoName (name_told me NameRefused (whose own) (pos own.port ∷ pos code ∷ []))
              else same_links b.links)
          go true y = record { rises = kept.rises; dead = kept.dead }
          go false true = record { rises = kept.rises; dead = kept.dead }
          go false false = kept
      reply_kept own code Leaving = record { rises = kept.rises; dead = kept.dead }
      reply_kept own code NoName = kept
      reply_kept own code Registered = kept

      of_kept : (own : Endpoint) → b.frame.lives.lives own.slot.0 ≡ true → (kind : SysKind) (peer : Endpoint) (payload : List ℤ) → IsKept (links_duty_of t me b.links kind peer own payload)
      unfolding IsKept bound unbound name_reply
      of_kept own live kinds.Bound peer [] =
          kept_if (is_own_point t me own) _ (λ q.
          put_kept own (with_link (record { place = own.place; peer = peer }) (b.links.linked own.slot.0 own.port)) live
          (with_rises (record { place = own.place; peer = peer }) 0 (omega arith) (b.links.linked own.slot.0 own.port) (kept.rises own.slot.0 own.port)))
      of_kept own live kinds.Ended peer [] =
          kept_if (is_own_point t me own) _ (λ q.
          put_kept own (filter (λ x. not (is_link peer own.place x)) (b.links.linked own.slot.0 own.port)) live
          (filter_rises (λ x. not (is_link peer own.place x)) 0 (b.links.linked own.slot.0 own.port) (kept.rises own.slot.0 own.port)))
      of_kept own live kinds.NameReply peer (pos code ∷ []) =
          kept_if (is_own_point t me own && is_endpoint peer own && (own.place == 0)) (name_reply me b.links own code) (λ q.
          reply_kept own code (b.links.registrations own.slot.0 own.port))
      of_kept own live kind peer payload = kept

      from_kept : b.frame.lives.lives m.target.slot.0 ≡ true → (kind : SysKind) (source : Option Endpoint) → IsKept (links_duty_from t me b.links kind source m)
      unfolding IsKept
      from_kept live kind None = kept
      from_kept live kind (Some peer) = of_kept m.target live kind peer m.payload

      heard_kept : (kind : SysKind) → AreKept b.frame.lives (links_hear t me b kind m).now
      unfolding links_duty IsKept
      heard_kept kind =
          kept_if (is_own t me m.target.slot.0 && is_live b.frame.lives (whose m.target)) (links_duty_from t me b.links kind m.source m) (λ e.
          from_kept (and_parts (b.frame.lives.lives m.target.slot.0) _ (and_parts (is_own t me m.target.slot.0) (is_live b.frame.lives (whose m.target)) e).1).0 kind m.source)

  table_unheard : (m : Msg) (kind : SysKind) → is_table_kind kind ≡ true → IsOf m kind → IsUnheard m
  unfolding link_heard
  table_unheard m kinds.Register is of d a o = rw (of.0, of.1) refl
  table_unheard m kinds.Withdraw is of d a o = rw (of.0, of.1) refl
  table_unheard m kind is of d a o = absurd cc

  -- what a turn does to the links here: a live place hears its message, and what comes up begins without
  pub record TurnLinks {M : Type 0} (b : Body M) (m : Msg) (r : Body M) : Type 0 where
    pub kept : AreKept r.frame.lives r.links
    pub hears : (a : Endpoint) → is_live b.frame.lives (whose a) ≡ true → is_live r.frame.lives (whose a) ≡ true → link_peer r.links a ≡ link_heard t me a m (link_peer b.links a)
    pub begins : (a : Endpoint) → is_live b.frame.lives (whose a) ≡ false → is_live r.frame.lives (whose a) ≡ true
        → (b.frame.lives.generation a.slot.0 < a.generation.0) × (link_peer r.links a ≡ None)

  module _ {M : Type 0} (b : Body M) (m : Msg) (kept : AreKept b.frame.lives b.links) where
    same_lives : (r : Body M) → AreKept r.frame.lives r.links → r.frame.lives ≡ b.frame.lives
        → ((a : Endpoint) → is_live b.frame.lives (whose a) ≡ true → link_peer r.links a ≡ link_heard t me a m (link_peer b.links a)) → TurnLinks b m r
    same_lives r keeps same h =
        record {
          kept = keeps;
          hears = λ a live now. h a live;
          begins = λ a dead now.
              let z : true ≡ false = sym now ∙ ap (λ (l : Lives). is_live l (whose a)) same ∙ dead in absurd cc;
        }

    moved_links : (r : Body M) → Moves b.frame.lives r.frame.lives b.links r.links → IsUnheard m → TurnLinks b m r
    unfolding link_peer
    moved_links r moves unheard =
        record {
          kept = moves.kept kept;
          hears = λ a live now.
              ap (peer_at a.place) (moves.same a.slot.0 a.port (lives_now a now)) ∙ sym (unheard me a (peer_at a.place (b.links.linked a.slot.0 a.port)));
          begins = λ a dead now. new a dead now (moves.lived a.slot.0 (lives_now a now));
        }
      where
        lives_now : (a : Endpoint) → is_live r.frame.lives (whose a) ≡ true → r.frame.lives.lives a.slot.0 ≡ true
        lives_now a now = (and_parts (r.frame.lives.lives a.slot.0) (r.frame.lives.generation a.slot.0 == a.generation.0) now).0

        generation_now : (a : Endpoint) → is_live r.frame.lives (whose a) ≡ true → r.frame.lives.generation a.slot.0 ≡ a.generation.0
        generation_now a now =
            eqb-true (r.frame.lives.generation a.slot.0) a.generation.0 (and_parts (r.frame.lives.lives a.slot.0) (r.frame.lives.generation a.slot.0 == a.generation.0) now).1

        new : (a : Endpoint) → is_live b.frame.lives (whose a) ≡ false → is_live r.frame.lives (whose a) ≡ true
            → ((b.frame.lives.lives a.slot.0 ≡ true) × (r.frame.lives.generation a.slot.0 ≡ b.frame.lives.generation a.slot.0))
            ⊎ ((b.frame.lives.lives a.slot.0 ≡ false) × (r.frame.lives.generation a.slot.0 ≡ b.frame.lives.generation a.slot.0 + 1))
            → (b.frame.lives.generation a.slot.0 < a.generation.0) × (peer_at a.place (r.links.linked a.slot.0 a.port) ≡ None)
        new a dead now (inl k) =
            let live : is_live b.frame.lives (whose a) ≡ true =
            rw (k.0, eq-eqb (b.frame.lives.generation a.slot.0) a.generation.0 (sym k.1 ∙ generation_now a now)) refl in
            let z : true ≡ false = sym live ∙ dead in absurd cc
        new a dead now (inr k) =
            let g = generation_now a now in
            let h = k.1 in (
              omega (arith, g, h),
              ap (peer_at a.place) (moves.same a.slot.0 a.port (lives_now a now) ∙ kept.dead a.slot.0 a.port k.0),
            )

    -- the links after a turn
    turned_links : (r : Treated (Body M)) → Turns t me (λ x c. Unit {0}) Asking b m r → TurnLinks b m r.body
    turned_links r (treats kind is of body sent) =
        same_lives r.body (subst (λ (z : Body M). AreKept z.frame.lives z.links) (sym body) kept) (ap (λ (z : Body M). z.frame.lives) body)
        (λ a live. ap (λ (z : Body M). link_peer z.links a) body ∙ sym (table_unheard m kind is of me a (link_peer b.links a)))
    turned_links r (hears kind is of body sent) =
        same_lives r.body (subst (λ (z : Body M). AreKept z.frame.lives z.links) (sym body) (heard_kept b m kept kind)) (ap (λ (z : Body M). z.frame.lives) body)
        (λ a live. ap (λ (z : Body M). link_peer z.links a) body ∙ heard_peer b m a live kept kind is of)
    turned_links r (leads d off deals sends follows) =
        moved_links r.body (follows_moves b m d r.sent r.body follows deals.lives) (off_unheard m off)

    -- the name table after a turn, and what places hear of it
    turned_table : (r : Treated (Body M)) → Turns t me (λ x c. Unit {0}) Asking b m r → ((kind : SysKind) → IsOf m kind → IsNew b.table kind m) → IsSound t b.table
        → IsSound t r.body.table × ((a : Endpoint) → told t a r.sent (table_peer b.table a) ≡ table_peer r.body.table a)
    turned_table r (treats kind is of body sent) new sound = (
      subst (λ (z : Body M). IsSound t z.table) (sym body) (stays_sound t me b.table kind m (new kind of) sound),
      (λ a.
          ap (λ (z : List Msg). told t a z (table_peer b.table a)) sent
          ∙ table_told t a me b.table kind m (new kind of) sound
          ∙ ap (λ (z : Body M). table_peer z.table a) (sym body)),
    )
    turned_table r (hears kind is of body sent) new sound = (
      subst (λ (z : Body M). IsSound t z.table) (sym body) sound,
      (λ a.
          silent_told a r.sent (subst AllUnheard (sym sent) (all_off_unheard _ (links_off t me b.links _ kind m))) (table_peer b.table a)
          ∙ ap (λ (z : Body M). table_peer z.table a) (sym body)),
    )
    turned_table r (leads d off deals sends follows) new sound = (
      subst (IsSound t) (sym follows.table) sound,
      (λ a. silent_told a r.sent (follows_unheard b m d r.sent r.body follows sends) (table_peer b.table a) ∙ ap (λ (z : NameTable). table_peer z a) (sym follows.table)),
    )

  module _ {M : Type 0} (model : Behaviour M) (clear : IsOpen model) where
    turns_so : (b : Body M) (m : Msg) → Turns t me (λ x c. Unit {0}) Asking b m (treat model t me b m)
    turns_so b m = treat_turns t me (λ x c. Unit {0}) Asking asking model clear (ask_somehow model) b m

    -- THE TURN, for links
    pub treat_links : (b : Body M) (m : Msg) → AreKept b.frame.lives b.links → TurnLinks b m (treat model t me b m).body
    treat_links b m kept = turned_links b m kept (treat model t me b m) (turns_so b m)

    -- THE TURN, for the name table
    pub treat_table : (b : Body M) (m : Msg) → AreKept b.frame.lives b.links → ((kind : SysKind) → IsOf m kind → IsNew b.table kind m) → IsSound t b.table
        → IsSound t (treat model t me b m).body.table × ((a : Endpoint) → told t a (treat model t me b m).sent (table_peer b.table a) ≡ table_peer (treat model t me b m).body.table a)
    treat_table b m kept new sound = turned_table b m kept (treat model t me b m) (turns_so b m) new sound

    -- the start: no links, an empty table, and nothing that a place hears
    pub start_kept : AreKept (first_state model t me).body.frame.lives (first_state model t me).body.links
    unfolding Asking
    start_kept =
        let asked : Asking (first_lives t me) first_links (first_state model t me).outbox (first_state model t me).body.links =
        start_asks t me (λ x c. Unit {0}) Asking asking model clear (ask_somehow model) in
        let first : AreKept (first_lives t me) first_links = record { rises = λ s p. tt; dead = λ s p q. refl } in
        subst (λ (z : Lives). AreKept z (first_state model t me).body.links) (sym (start_lives t me (λ x c. Unit {0}) Asking asking model clear (ask_somehow model)))
        (linked_kept (first_lives t me) first_links (first_state model t me).body.links asked.0 first)

    pub start_linked : (s p : ℕ) → (first_state model t me).body.links.linked s p ≡ []
    unfolding Asking
    start_linked s p =
        let asked : Asking (first_lives t me) first_links (first_state model t me).outbox (first_state model t me).body.links =
        start_asks t me (λ x c. Unit {0}) Asking asking model clear (ask_somehow model) in ap (λ (f : ℕ → ℕ → List Link). f s p) asked.0

    pub start_unheard : AllUnheard (first_state model t me).outbox
    unfolding Asking
    start_unheard =
        let asked : Asking (first_lives t me) first_links (first_state model t me).outbox (first_state model t me).body.links =
        start_asks t me (λ x c. Unit {0}) Asking asking model clear (ask_somehow model) in asked.1

    pub start_none : (first_state model t me).body.table ≡ []
    start_none = start_table t me (λ x c. Unit {0}) Asking asking model clear (ask_somehow model)
