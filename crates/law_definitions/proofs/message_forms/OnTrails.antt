-- Lanes hold messages of their priority; so what is the system's stands on a trail, wherever it is.
use Rattle.std.proofs.Common.{◌≡◌, ℕ, ◌==◌, Bool, true, false, cond, if◌then◌else◌, List, [], ◌∷◌, ◌++◌, map, filter, drop, refl, sym, ◌∙◌, subst, eq-eqb}
use Rattle.std.specs.List.{AllByRecursion, Contains}
use Rattle.std.proofs.lemmas.List.Elements.{All-from_recursion, All-contains, Contains-append_left, Contains-append_right, Contains-push}
use Rattle.room_kinds.specs.declared.message.Msg.{Msg}
use Rattle.journal.specs.declared.entry.Entry.{Entry}
use Rattle.journal.specs.declared.entry.Entry.TheVariants as entry
use Rattle.actor_merge.specs.Mail.{Lane, lane, is_lane, event_of}
use Rattle.actor_merge.specs.Parties.{stamped}
use Rattle.actor_merge.specs.World.{World, put_lane, lanes_after}
use Rattle.actor_merge.proofs.Lanes.{is_lane-true}
use Rattle.actor_world.specs.Body.{Body}
use Rattle.law_agreement.specs.Trails.{contents, from_a, system_to, is_from, is_system_to, trail}
use Rattle.law_agreement.proofs.Lists.{all_append}
use Rattle.law_agreement.proofs.Moving.{Ranked, IsSorted}
use Rattle.law_definitions.specs.message_forms.Forms.{StandOnTrails}

-- each lane holds messages of its priority
abbrev pub LanesAreRanked : (Lane → List Msg) → Type 0
LanesAreRanked lanes = (l : Lane) → Ranked l.priority (lanes l)

put_ranked : (lanes : Lane → List Msg) (at : Lane) (ms : List Msg) → LanesAreRanked lanes → Ranked at.priority ms → LanesAreRanked (put_lane lanes at ms)
unfolding put_lane
put_ranked lanes at ms h k l = go (is_lane l at) refl
  where
    go : (b : Bool) → is_lane l at ≡ b → Ranked l.priority (if b then ms else lanes l)
    go true e = subst (λ (z : Lane). Ranked z.priority ms) (sym (is_lane-true l at e)) k
    go false e = h l

drop_ranked : (p : ℕ) (ms : List Msg) → Ranked p ms → Ranked p (drop 1 ms)
drop_ranked p [] h = tt
drop_ranked p (m ∷ ms) h = h.1

pub after_ranked : {B : Type 0} (w : World B) (c : ℕ) (e : Entry) → LanesAreRanked w.lanes → LanesAreRanked (lanes_after w c (event_of e) e)
after_ranked w c (entry.Start who state ns) h = h
after_ranked w c (entry.Turn stamp from sent what ns) h = h
after_ranked w c (entry.Fetch stamp m) h =
    let at : Lane = lane m.from.0 c m.prio.0 in put_ranked w.lanes at (drop 1 (w.lanes at)) h (drop_ranked m.prio.0 (w.lanes at) (h at))
after_ranked w c (entry.Post stamp m) h =
    let at : Lane = lane c m.to.0 m.prio.0 in
    put_ranked w.lanes at (w.lanes at ++ m ∷ []) h (all_append (λ (x : Msg). x.prio.0 ≡ m.prio.0) (w.lanes at) (m ∷ []) (h at) (refl, tt))

-- the front of a list, and what stands behind it
first : (x : Msg) (xs : List Msg) → Contains (x ∷ xs) x
first x xs = Contains-append_left (x ∷ []) xs x (Contains-push [] x)

later : (x y : Msg) (xs : List Msg) → Contains xs y → Contains (x ∷ xs) y
later x y xs h = Contains-append_right (x ∷ []) xs y h

-- what holds of all that passes a test, changed by f, holds of each before
passing : (f : Msg → Msg) (p : Msg → Bool) (Q : Msg → Type 0) (xs : List Msg) → ((y : Msg) → Contains (map f (filter p xs)) y → Q y)
    → AllByRecursion (λ y. p y ≡ true → Q (f y)) xs
passing f p Q [] h = tt
passing f p Q (x ∷ xs) h = go (p x) refl h (passing f p Q xs)
  where
    go : (b : Bool) → p x ≡ b → ((y : Msg) → Contains (map f (cond b (x ∷ filter p xs) (filter p xs))) y → Q y)
        → (((y : Msg) → Contains (map f (filter p xs)) y → Q y) → AllByRecursion (λ y. p y ≡ true → Q (f y)) xs)
        → (p x ≡ true → Q (f x)) × AllByRecursion (λ y. p y ≡ true → Q (f y)) xs
    go true e k rest = ((λ q. k (f x) (first (f x) (map f (filter p xs)))), rest (λ y c. k y (later (f x) y (map f (filter p xs)) c)))
    go false e k rest = ((λ q. (let z : true ≡ false = sym q ∙ e in absurd cc)), rest k)

-- what passes a test stands, changed by f, among all that does
among : (f : Msg → Msg) (p : Msg → Bool) (xs : List Msg) (x : Msg) → Contains xs x → p x ≡ true → Contains (map f (filter p xs)) (f x)
among f p xs x there =
    All-contains (λ y. p y ≡ true → Contains (map f (filter p xs)) (f y)) xs x
    (All-from_recursion (λ y. p y ≡ true → Contains (map f (filter p xs)) (f y)) xs (passing f p (Contains (map f (filter p xs))) xs (λ y h. h))) there

-- the same where there is no test
among_all : (f : Msg → Msg) (xs : List Msg) (x : Msg) → Contains xs x → Contains (map f xs) (f x)
among_all f xs x there =
    All-contains (λ y. Contains (map f xs) (f y)) xs x (All-from_recursion (λ y. Contains (map f xs) (f y)) xs (each (Contains (map f xs)) xs (λ y h. h))) there
  where
    each : (Q : Msg → Type 0) (xs : List Msg) → ((y : Msg) → Contains (map f xs) y → Q y) → AllByRecursion (λ y. Q (f y)) xs
    each Q [] h = tt
    each Q (x ∷ xs) h = (h (f x) (first (f x) (map f xs)), each Q xs (λ y c. h y (later (f x) y (map f xs) c)))

-- a message of a list of one priority has it
of_rank : (p : ℕ) (ms : List Msg) (m : Msg) → Ranked p ms → Contains ms m → m.prio.0 ≡ p
of_rank p ms m h there = All-contains (λ (x : Msg). x.prio.0 ≡ p) ms m (All-from_recursion (λ (x : Msg). x.prio.0 ≡ p) ms h) there

module _ {M : Type 0} (w : World (Body M)) (sorted : (c : ℕ) → IsSorted (w.controllers c)) (ranked : LanesAreRanked w.lanes) where
  on_pending : (b p : ℕ) (m : Msg) → Contains ((w.controllers b).pending p) m → m.prio.0 ≡ 0 → Contains (trail w m.from.0 b) (stamped m.from.0 0 m)
  unfolding from_a contents
  on_pending b p m there zero =
      let f : ℕ = m.from.0 in
      let rank : p ≡ 0 = sym (of_rank p ((w.controllers b).pending p) m ((sorted b).pending p) there) ∙ zero in
      let here : Contains ((w.controllers b).pending 0) m = subst (λ n. Contains ((w.controllers b).pending n) m) rank there in
      Contains-append_left (from_a f ((w.controllers b).pending 0)) (contents f (w.lanes (lane f b 0)) ++ system_to f b (w.controllers f).outbox) (stamped f 0 m)
      (among (stamped f 0) (is_from f) ((w.controllers b).pending 0) m here (eq-eqb f f refl))

  on_lane : (l : Lane) (m : Msg) → Contains (w.lanes l) m → m.prio.0 ≡ 0 → Contains (trail w l.sender l.receiver) (stamped l.sender 0 m)
  unfolding contents
  on_lane l m there zero =
      let a : ℕ = l.sender in
      let b : ℕ = l.receiver in
      let rank : l.priority ≡ 0 = sym (of_rank l.priority (w.lanes l) m (ranked l) there) ∙ zero in
      let here : Contains (w.lanes (lane a b 0)) m = subst (λ n. Contains (w.lanes (lane a b n)) m) rank there in
      Contains-append_right (from_a a ((w.controllers b).pending 0)) (contents a (w.lanes (lane a b 0)) ++ system_to a b (w.controllers a).outbox) (stamped a 0 m)
      (Contains-append_left (contents a (w.lanes (lane a b 0))) (system_to a b (w.controllers a).outbox) (stamped a 0 m)
      (among_all (stamped a 0) (w.lanes (lane a b 0)) m here))

  in_outbox : (a : ℕ) (m : Msg) → Contains (w.controllers a).outbox m → m.prio.0 ≡ 0 → Contains (trail w a m.to.0) (stamped a 0 m)
  unfolding contents system_to
  in_outbox a m there zero =
      let b : ℕ = m.to.0 in
      Contains-append_right (from_a a ((w.controllers b).pending 0)) (contents a (w.lanes (lane a b 0)) ++ system_to a b (w.controllers a).outbox) (stamped a 0 m)
      (Contains-append_right (contents a (w.lanes (lane a b 0))) (system_to a b (w.controllers a).outbox) (stamped a 0 m)
      (among (stamped a 0) (is_system_to b) (w.controllers a).outbox m there (rw (eq-eqb b b refl, eq-eqb 0 m.prio.0 (sym zero)) refl)))

  pub stand : StandOnTrails w
  stand =
      record {
        pending = on_pending;
        lanes = on_lane;
        outbox = in_outbox;
        deferred = λ a s m there.
            All-contains (λ (x : Msg). (x.prio.0 == 0) ≡ false) ((w.controllers a).body.deferred s) m
            (All-from_recursion (λ (x : Msg). (x.prio.0 == 0) ≡ false) ((w.controllers a).body.deferred s) ((sorted a).deferred s)) there;
      }
