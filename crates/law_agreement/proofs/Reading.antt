-- What is told at one controller of a slot of another, changed by what is on the trail between them, stays
-- what is so there, at every event.
use Rattle.std.proofs.Common.{◌≡◌, ℕ, ◌==◌, Bool, true, false, if◌then◌else◌, List, [], ◌∷◌, ◌++◌, Option, Some, None, refl, sym, ap, ◌∙◌, subst, eq-eqb, eqb-true}
use Rattle.std.proofs.lemmas.Bool.{ne_eqb, eqb-false}
use Rattle.room_kinds.specs.declared.message.Msg.{Msg}
use Rattle.room_kinds.specs.declared.numbers.Incarnation.{Incarnation}
use Rattle.journal.specs.declared.entry.Entry.{Entry}
use Rattle.journal.specs.declared.entry.Entry.TheVariants as entry
use Rattle.room_wiring.specs.declared.tables.Tables.{Tables}
use Rattle.actor_merge.specs.Mail.{event_of}
use Rattle.actor_merge.specs.Parties.{State, Line, Taken, put, stamped, next_of, fetch, turn, turned, post}
use Rattle.actor_merge.specs.World.{World, controller_does}
use Rattle.actor_merge.proofs.Back.{own_of}
use Rattle.actor_duties.specs.Words.{owner_of}
use Rattle.actor_world.specs.Behaviour.{Behaviour}
use Rattle.actor_world.specs.Body.{Body}
use Rattle.actor_world.specs.Turns.{treat}
use Rattle.actor_world.specs.Start.{plant_of}
use Rattle.actor_world.specs.Directories.{IsOpen}
use Rattle.law_agreement.specs.Trails.{from_a, system_to, trail, taken_from, leaves, comes, hear_all}
use Rattle.law_agreement.proofs.Lists.{all_before}
use Rattle.law_agreement.proofs.Plain.{AllPlain}
use Rattle.law_agreement.proofs.Hearing.{IsApart, AllMute, hear_append, hear_system, after, after_mute, from_append}
use Rattle.law_agreement.proofs.Telling.{IsOwned, AllOwned}
use Rattle.law_agreement.proofs.Moving.{Ranked, IsSorted, next_front, kept_by, from_one, post_from, turn_from, world_after, controller_moves}

-- what a directory or a part makes of messages: neither sender nor stamp counts, nor a message that tells of
-- no life or of another slot's
pub record IsHearing {X : Type 0} (s : ℕ) (hear : Msg → X → X) : Type 0 where
  pub unstamped : (a stamp : ℕ) (m : Msg) (x : X) → hear (stamped a stamp m) x ≡ hear m x
  pub apart : (m : Msg) (x : X) → IsApart s m → hear m x ≡ x

-- messages that tell of no life change nothing
pub unread : {X : Type 0} (s : ℕ) (hear : Msg → X → X) → IsHearing s hear → (a d : ℕ) (ms : List Msg) → AllPlain ms → (x : X) → hear_all hear (system_to a d ms) x ≡ x
unread s hear h a d ms plain x = hear_system hear d h.unstamped a ms x ∙ after_mute hear d ms x (mute ms plain)
  where
    mute : (ms : List Msg) → AllPlain ms → AllMute hear ms
    mute [] p = tt
    mute (m ∷ ms) p = let e = p.0 in ((λ x. h.apart m x (λ y k. absurd cc)), mute ms p.1)

module _ {M X : Type 0} (model : Behaviour M) (clear : IsOpen model) (t : Tables) (lines : List Line)
    (s d : ℕ) (hear : Msg → X → X) (hearing : IsHearing s hear) (here there : Body M → X) where
  -- what is told at controller d of slot s, changed by what is on its way, is what is so at the slot's owner
  abbrev pub IsRead : World (Body M) → Type 0
  IsRead w = hear_all hear (trail w (owner_of t s) d) (here (w.controllers d).body) ≡ there (w.controllers (owner_of t s)).body

  -- in a turn d hears its message, and what the owner sends tells what it did
  pub record TurnReads (w : World (Body M)) : Type 0 where
    pub hears : (m : Msg) → here (treat model t d (w.controllers d).body m).body ≡ hear m (here (w.controllers d).body)
    pub tells : (m : Msg)
        → after hear d (treat model t (owner_of t s) (w.controllers (owner_of t s)).body m).sent (there (w.controllers (owner_of t s)).body)
        ≡ there (treat model t (owner_of t s) (w.controllers (owner_of t s)).body m).body

  module _ (w : World (Body M)) (sorted : (c : ℕ) → IsSorted (w.controllers c)) (owned : (a b : ℕ) → AllOwned t a (trail w a b)) (reads : TurnReads w) (c : ℕ) where
    -- a turn takes out a message of the trail from the owner, or one that says nothing of the slot
    taken_heard : (k : Taken) → next_of (w.controllers c).pending ≡ Some k → (x : X)
        → hear_all hear (taken_from (owner_of t s) (Some k)) x ≡ hear k.message x
    taken_heard k front x = go (0 == k.priority) refl (owner_of t s == k.message.from.0) refl
      where
        whole : (w.controllers c).pending k.priority ≡ k.message ∷ k.rest
        whole = next_front (w.controllers c).pending k front

        rank : k.message.prio.0 ≡ k.priority
        rank = (subst (Ranked k.priority) whole ((sorted c).pending k.priority)).0

        one : {b : Bool} (a : ℕ) → (a == k.message.from.0) ≡ b → from_a a (k.message ∷ []) ≡ (if b then stamped a 0 k.message ∷ [] else [])
        one a e = from_one a k.message ∙ ap (λ (z : Bool). if z then stamped a 0 k.message ∷ [] else []) e

        -- what comes from f tells of slots of f
        front_owned : (0 == k.priority) ≡ true → IsOwned t k.message.from.0 k.message
        front_owned e =
            let f : ℕ = k.message.from.0 in
            let zero_list : (w.controllers c).pending 0 ≡ k.message ∷ k.rest = ap (w.controllers c).pending (eqb-true 0 k.priority e) ∙ whole in
            let all : AllOwned t f (from_a f ((w.controllers c).pending 0)) = all_before (IsOwned t f) (from_a f ((w.controllers c).pending 0)) _ (owned f c) in
            let split : from_a f ((w.controllers c).pending 0) ≡ from_a f (k.message ∷ []) ++ from_a f k.rest = ap (from_a f) zero_list ∙ from_append f (k.message ∷ []) k.rest in
            let first : AllOwned t f (from_a f (k.message ∷ [])) = all_before (IsOwned t f) (from_a f (k.message ∷ [])) (from_a f k.rest) (subst (AllOwned t f) split all) in
            (subst (AllOwned t f) (one f (eq-eqb f f refl)) first).0

        other_owner : (0 == k.priority) ≡ true → (owner_of t s == k.message.from.0) ≡ false → IsApart s k.message
        other_owner e f x q = ne_eqb x.slot.0 s (λ p. eqb-false (owner_of t s) k.message.from.0 f (sym (ap (owner_of t) p) ∙ front_owned e x q))

        not_system : (0 == k.priority) ≡ false → IsApart s k.message
        not_system e x q =
            let low : (k.message.prio.0 == 0) ≡ false = ne_eqb k.message.prio.0 0 (λ z. eqb-false 0 k.priority e (sym (sym rank ∙ z))) in
            let z : ◌≡◌ {A = Option Incarnation} None (Some x) = rw low at q in absurd cc

        go : (b : Bool) → (0 == k.priority) ≡ b → (e : Bool) → (owner_of t s == k.message.from.0) ≡ e
            → hear_all hear (if b then from_a (owner_of t s) (k.message ∷ []) else []) x ≡ hear k.message x
        go true e true f = ap (λ (z : List Msg). hear_all hear z x) (one (owner_of t s) f) ∙ hearing.unstamped (owner_of t s) 0 k.message x
        go true e false f = ap (λ (z : List Msg). hear_all hear z x) (one (owner_of t s) f) ∙ sym (hearing.apart k.message x (other_owner e f))
        go false e b f = sym (hearing.apart k.message x (not_system e))

    -- a turn: d hears what leaves the trail to it
    turn_hears : (next : State (Body M)) (k : Taken) → next_of (w.controllers c).pending ≡ Some k
        → next ≡ (turned (w.controllers c) k (treat model t c (w.controllers c).body k.message)).0
        → hear_all hear (if d == c then taken_from (owner_of t s) (next_of (w.controllers d).pending) else []) (here (w.controllers d).body)
        ≡ here (put w.controllers c next d).body
    unfolding put
    turn_hears next k front same = go (d == c) refl
      where
        heard_here : d ≡ c → here (treat model t c (w.controllers c).body k.message).body ≡ hear k.message (here (w.controllers c).body)
        heard_here e =
            subst (λ n. here (treat model t n (w.controllers n).body k.message).body ≡ hear k.message (here (w.controllers n).body)) e (reads.hears k.message)

        at_c : d ≡ c → hear_all hear (taken_from (owner_of t s) (next_of (w.controllers c).pending)) (here (w.controllers c).body) ≡ here next.body
        at_c e =
            ap (λ (o : Option Taken). hear_all hear (taken_from (owner_of t s) o) (here (w.controllers c).body)) front
            ∙ taken_heard k front (here (w.controllers c).body)
            ∙ sym (heard_here e)
            ∙ ap (λ (q : State (Body M)). here q.body) (sym same)

        go : (b : Bool) → (d == c) ≡ b
            → hear_all hear (if b then taken_from (owner_of t s) (next_of (w.controllers d).pending) else []) (here (w.controllers d).body)
            ≡ here (if b then next else w.controllers d).body
        go true e =
            subst (λ n. hear_all hear (taken_from (owner_of t s) (next_of (w.controllers n).pending)) (here (w.controllers n).body) ≡ here next.body)
            (sym (eqb-true d c e)) (at_c (eqb-true d c e))
        go false e = refl

    -- a turn: what comes into the trail from the owner tells what was done there
    turn_tells : (next : State (Body M)) (k : Taken) → next ≡ (turned (w.controllers c) k (treat model t c (w.controllers c).body k.message)).0
        → hear_all hear (if owner_of t s == c then system_to (owner_of t s) d (put w.controllers c next (owner_of t s)).outbox else []) (there (w.controllers (owner_of t s)).body)
        ≡ there (put w.controllers c next (owner_of t s)).body
    unfolding put
    turn_tells next k same = go (owner_of t s == c) refl
      where
        told : owner_of t s ≡ c
            → after hear d (treat model t c (w.controllers c).body k.message).sent (there (w.controllers c).body) ≡ there (treat model t c (w.controllers c).body k.message).body
        told e =
            subst (λ n. after hear d (treat model t n (w.controllers n).body k.message).sent (there (w.controllers n).body) ≡ there (treat model t n (w.controllers n).body k.message).body) e
            (reads.tells k.message)

        at_c : owner_of t s ≡ c → hear_all hear (system_to (owner_of t s) d next.outbox) (there (w.controllers c).body) ≡ there next.body
        at_c e =
            hear_system hear d hearing.unstamped (owner_of t s) next.outbox (there (w.controllers c).body)
            ∙ ap (λ (q : State (Body M)). after hear d q.outbox (there (w.controllers c).body)) same
            ∙ told e
            ∙ ap (λ (q : State (Body M)). there q.body) (sym same)

        go : (b : Bool) → (owner_of t s == c) ≡ b
            → hear_all hear (if b then system_to (owner_of t s) d (if b then next else w.controllers (owner_of t s)).outbox else []) (there (w.controllers (owner_of t s)).body)
            ≡ there (if b then next else w.controllers (owner_of t s)).body
        go true e =
            ap (λ n. hear_all hear (system_to (owner_of t s) d next.outbox) (there (w.controllers n).body)) (eqb-true (owner_of t s) c e)
            ∙ at_c (eqb-true (owner_of t s) c e)
        go false e = refl

    -- each event: d hears what leaves, and what comes tells what was done
    pub step_hears : (e : Entry) (next : State (Body M)) → controller_does (plant_of model t lines) w c (event_of e) ≡ Some (next, e)
        → hear_all hear (leaves w c e (owner_of t s) d) (here (w.controllers d).body) ≡ here (put w.controllers c next d).body
    unfolding turn post fetch
    step_hears (entry.Start who state ns) next h = absurd cc
    step_hears (entry.Fetch stamp m) next h =
        let q : fetch (w.controllers c) m ≡ (next, entry.Fetch stamp m) = own_of (plant_of model t lines) w c (entry.Fetch stamp m) next h in
        sym (kept_by (λ (z : State (Body M)). here z.body) w.controllers c next (sym (ap (λ (z : State (Body M) × Entry). here z.0.body) q)) d)
    step_hears (entry.Post stamp m) next h =
        let r = post_from model t lines c (w.controllers c) next (entry.Post stamp m) (w.controllers c).outbox h in
        sym (kept_by (λ (z : State (Body M)). here z.body) w.controllers c next (sym (ap (λ (z : State (Body M) × Entry). here z.0.body) r.3)) d)
    step_hears (entry.Turn stamp from sent what ns) next h =
        let r = turn_from model t lines c (w.controllers c) next (entry.Turn stamp from sent what ns) (w.controllers c).outbox (next_of (w.controllers c).pending) h in
        turn_hears next r.0 r.2 (sym (ap (λ (z : State (Body M) × Entry). z.0) r.3))

    step_tells : (e : Entry) (next : State (Body M)) → controller_does (plant_of model t lines) w c (event_of e) ≡ Some (next, e)
        → hear_all hear (comes (world_after model t lines w c e next) c e (owner_of t s) d) (there (w.controllers (owner_of t s)).body)
        ≡ there (put w.controllers c next (owner_of t s)).body
    unfolding turn post fetch
    step_tells (entry.Start who state ns) next h = absurd cc
    step_tells (entry.Fetch stamp m) next h =
        let q : fetch (w.controllers c) m ≡ (next, entry.Fetch stamp m) = own_of (plant_of model t lines) w c (entry.Fetch stamp m) next h in
        sym (kept_by (λ (z : State (Body M)). there z.body) w.controllers c next (sym (ap (λ (z : State (Body M) × Entry). there z.0.body) q)) (owner_of t s))
    step_tells (entry.Post stamp m) next h =
        let r = post_from model t lines c (w.controllers c) next (entry.Post stamp m) (w.controllers c).outbox h in
        sym (kept_by (λ (z : State (Body M)). there z.body) w.controllers c next (sym (ap (λ (z : State (Body M) × Entry). there z.0.body) r.3)) (owner_of t s))
    step_tells (entry.Turn stamp from sent what ns) next h =
        let r = turn_from model t lines c (w.controllers c) next (entry.Turn stamp from sent what ns) (w.controllers c).outbox (next_of (w.controllers c).pending) h in
        turn_tells next r.0 (sym (ap (λ (z : State (Body M) × Entry). z.0) r.3))

    pub step_reads : (e : Entry) (next : State (Body M)) → controller_does (plant_of model t lines) w c (event_of e) ≡ Some (next, e)
        → IsRead w → IsRead (world_after model t lines w c e next)
    step_reads e next h inv =
        let a : ℕ = owner_of t s in
        let x : X = here (w.controllers d).body in
        let now : List Msg = trail (world_after model t lines w c e next) a d in
        ap (hear_all hear now) (sym (step_hears e next h))
        ∙ sym (hear_append hear (leaves w c e a d) now x)
        ∙ ap (λ (z : List Msg). hear_all hear z x) (controller_moves model t lines clear w c e next (sorted c) h a d)
        ∙ hear_append hear (trail w a d) (comes (world_after model t lines w c e next) c e a d) x
        ∙ ap (hear_all hear (comes (world_after model t lines w c e next) c e a d)) inv
        ∙ step_tells e next h
