-- Sends at several places, one after another.
use Rattle.std.proofs.Common.{◌≡◌, ℕ, zero, suc, pos, ◌+◌, ◌<◌, ◌≤◌, true, false, nat_le, nat_lt, List, [], ◌∷◌, ◌++◌, map, filter, take, get_or, length, Result, Ok, Err, OnOk, refl, sym, ap, ◌∙◌, subst, arith, append_assoc}
use Rattle.std.specs.List.{range_with_len}
use Rattle.std.proofs.lemmas.Bool.{cond-true, cond-false, le-leb, lt-leb, lt-ltb, le-ltb}
use Rattle.std.proofs.lemmas.List.{append-nil, take_more}
use Rattle.std.proofs.lemmas.List.Elements.{filter-append}
use Rattle.room_kinds.specs.declared.numbers.Incarnation.{Incarnation}
use Rattle.room_wiring.specs.declared.tables.Tables.{Tables}
use Rattle.room_wiring.specs.Places.{port_count, place_count}
use Rattle.actor_duties.specs.Words.{is_spp, places_of}
use Rattle.actor_duties.specs.State.{Frame, Links, Link}
use Rattle.actor_duties.specs.Commands.{Content, Sent, send, all_places, broadcast_places, send_each, broadcast}
use Rattle.controller_actors.specs.declared.actor_commands.output.Output.{Output}
use Rattle.controller_actors.specs.actor_commands.command_sends.Adding.{Adds}

-- nothing is said
pub Adds-none : (x : Output) → Adds (record { messages = []; notes = [] }) x x
Adds-none x = record { messages = sym (append-nil x.messages); notes = sym (append-nil x.notes); back = refl }

-- one thing after another
abbrev joined : Sent → Sent → Sent
joined a b = record { messages = a.messages ++ b.messages; notes = a.notes ++ b.notes }

Adds-joined : (a b : Sent) (x y z : Output) → Adds a x y → Adds b y z → Adds (joined a b) x z
Adds-joined a b x y z p q = record {
  messages = q.messages ∙ ap (λ m. m ++ b.messages) p.messages ∙ append_assoc x.messages a.messages b.messages;
  notes = q.notes ∙ ap (λ m. m ++ b.notes) p.notes ∙ append_assoc x.notes a.notes b.notes;
  back = q.back ∙ p.back;
}

module _ (t : Tables) (me : ℕ) (f : Frame) (l : Links) (x : Incarnation) (p : ℕ) (c : Content) where
  -- sends at places behind others
  send_each-append : (js ks : List ℕ) → send_each t me f l x p c (js ++ ks) ≡ joined (send_each t me f l x p c js) (send_each t me f l x p c ks)
  send_each-append [] ks = refl
  send_each-append (j ∷ js) ks =
      let first = send t me f l x p (pos j) c in
      let a = send_each t me f l x p c js in
      let b = send_each t me f l x p c ks in
      ap (joined first) (send_each-append js ks)
      ∙ ap (λ m. record { messages = m; notes = first.notes ++ (a.notes ++ b.notes) }) (sym (append_assoc first.messages a.messages b.messages))
      ∙ ap (λ m. record { messages = (first.messages ++ a.messages) ++ b.messages; notes = m }) (sym (append_assoc first.notes a.notes b.notes))

  pub Adds-append : (js ks : List ℕ) (u v w : Output) → Adds (send_each t me f l x p c js) u v → Adds (send_each t me f l x p c ks) v w → Adds (send_each t me f l x p c (js ++ ks)) u w
  Adds-append js ks u v w a b = subst (λ s. Adds s u w) (sym (send_each-append js ks)) (Adds-joined _ _ u v w a b)

  pub Adds-one : (k : ℕ) (u v : Output) → Adds (send t me f l x p (pos k) c) u v → Adds (send_each t me f l x p c (k ∷ [])) u v
  Adds-one k u v a =
      let s = send t me f l x p (pos k) c in
      record { messages = a.messages ∙ ap (λ m. u.messages ++ m) (sym (append-nil s.messages)); notes = a.notes ∙ ap (λ m. u.notes ++ m) (sym (append-nil s.notes)); back = a.back }

  -- a send at a linked place: before the first one nothing is sent
  pub link_passed : (first k : ℕ) (u : Output) → k < first → Adds (send_each t me f l x p c (filter (nat_le first) (k ∷ []))) u u
  link_passed first k u h =
      subst (λ ks. Adds (send_each t me f l x p c ks) u u) (sym (cond-false (nat_le first k) (k ∷ []) [] (lt-leb first k h))) (Adds-none u)

  pub link_sent : (first k at : ℕ) (u v : Output) → first ≤ k → at ≡ k → Adds (send t me f l x p (pos at) c) u v → Adds (send_each t me f l x p c (filter (nat_le first) (k ∷ []))) u v
  link_sent first k at u v h e a =
      subst (λ ks. Adds (send_each t me f l x p c ks) u v) (sym (cond-true (nat_le first k) (k ∷ []) [] (le-leb first k h)))
      (Adds-one k u v (subst (λ n. Adds (send t me f l x p (pos n) c) u v) e a))

-- one place more
pub range-push : (a n : ℕ) → range_with_len a (suc n) ≡ range_with_len a n ++ (a + n) ∷ []
range-push a zero = let e : a ≡ a + 0 = omega arith in ap (λ k. k ∷ []) e
range-push a (suc n) =
    let e : (a + 1) + n ≡ a + suc n = omega arith in
    ap (λ ks. a ∷ ks) (range-push (a + 1) n ∙ ap (λ k. range_with_len (a + 1) n ++ k ∷ []) e)

pub range-more : (n : ℕ) → range_with_len 0 (n + 1) ≡ range_with_len 0 n ++ n ∷ []
range-more n =
    let e : n + 1 ≡ suc n = omega arith in
    let z : 0 + n ≡ n = omega arith in
    ap (range_with_len 0) e ∙ range-push 0 n ∙ ap (λ k. range_with_len 0 n ++ k ∷ []) z

-- one link more
pub filter-more : (first : ℕ) (ps : List ℕ) (i : ℕ) → i < length ps
    → filter (nat_le first) (take (i + 1) ps) ≡ filter (nat_le first) (take i ps) ++ filter (nat_le first) (get_or ps i 0 ∷ [])
filter-more first ps i h = ap (filter (nat_le first)) (take_more ps i 0 h) ∙ filter-append (nat_le first) (take i ps) (get_or ps i 0 ∷ [])

-- a broadcast at a port that is there: the places of the model, and at a service provision point the linked
-- places behind them
places_there : (t : Tables) (l : Links) (s p : ℕ) → p < port_count t s → broadcast_places t l s p ≡ all_places t l s p
unfolding broadcast_places
places_there t l s p h = cond-true (nat_lt p (port_count t s)) (all_places t l s p) [] (lt-ltb p (port_count t s) h)

pub places_alone : (t : Tables) (l : Links) (s p : ℕ) → p < port_count t s → is_spp t s p ≡ false → broadcast_places t l s p ≡ places_of t s p
places_alone t l s p h e =
    places_there t l s p h
    ∙ ap (λ ks. places_of t s p ++ ks) (cond-false (is_spp t s p) (filter (nat_le (place_count t s p)) (map (λ (x : Link). x.place) (l.linked s p))) [] e)
    ∙ append-nil (places_of t s p)

pub places_and_links : (t : Tables) (l : Links) (s p : ℕ) → p < port_count t s → is_spp t s p ≡ true
    → broadcast_places t l s p ≡ places_of t s p ++ filter (nat_le (place_count t s p)) (map (λ (x : Link). x.place) (l.linked s p))
places_and_links t l s p h e =
    places_there t l s p h
    ∙ ap (λ ks. places_of t s p ++ ks) (cond-true (is_spp t s p) (filter (nat_le (place_count t s p)) (map (λ (x : Link). x.place) (l.linked s p))) [] e)

-- at a port that isn't there nothing is sent
no_places_there : (t : Tables) (l : Links) (s p : ℕ) → port_count t s ≤ p → broadcast_places t l s p ≡ []
unfolding broadcast_places
no_places_there t l s p h = cond-false (nat_lt p (port_count t s)) (all_places t l s p) [] (le-ltb p (port_count t s) h)

pub broadcast_none : (t : Tables) (me : ℕ) (f : Frame) (l : Links) (x : Incarnation) (p : ℕ) (c : Content) (u : Output) → port_count t x.slot.0 ≤ p → Adds (broadcast t me f l x p c) u u
unfolding broadcast
broadcast_none t me f l x p c u h = subst (λ ks. Adds (send_each t me f l x p c ks) u u) (sym (no_places_there t l x.slot.0 p h)) (Adds-none u)

pub broadcast_alone : (t : Tables) (me : ℕ) (f : Frame) (l : Links) (x : Incarnation) (p : ℕ) (c : Content) (u v : Output) → p < port_count t x.slot.0 → is_spp t x.slot.0 p ≡ false
    → Adds (send_each t me f l x p c (places_of t x.slot.0 p)) u v → Adds (broadcast t me f l x p c) u v
unfolding broadcast
broadcast_alone t me f l x p c u v h e a = subst (λ ks. Adds (send_each t me f l x p c ks) u v) (sym (places_alone t l x.slot.0 p h e)) a

pub broadcast_linked : (t : Tables) (me : ℕ) (f : Frame) (l : Links) (x : Incarnation) (p : ℕ) (c : Content) (first : ℕ) (u v w : Output) → p < port_count t x.slot.0 → is_spp t x.slot.0 p ≡ true
    → first ≡ place_count t x.slot.0 p
    → Adds (send_each t me f l x p c (places_of t x.slot.0 p)) u v
    → Adds (send_each t me f l x p c (filter (nat_le first) (map (λ (y : Link). y.place) (l.linked x.slot.0 p)))) v w
    → Adds (broadcast t me f l x p c) u w
unfolding broadcast
broadcast_linked t me f l x p c first u v w h e z a b =
    let links = map (λ (y : Link). y.place) (l.linked x.slot.0 p) in
    subst (λ ks. Adds (send_each t me f l x p c ks) u w) (sym (places_and_links t l x.slot.0 p h e))
    (Adds-append t me f l x p c (places_of t x.slot.0 p) (filter (nat_le (place_count t x.slot.0 p)) links) u v w a
    (subst (λ n. Adds (send_each t me f l x p c (filter (nat_le n) links)) v w) z b))

-- what follows where a call succeeds
pub OnOk-from : {E : Type 0} {P Q : Type 0} (r : Result (Unit {0}) E) → (P → Q) → OnOk r P → OnOk r Q
OnOk-from (Ok u) h p = h p
OnOk-from (Err e) h p = tt
