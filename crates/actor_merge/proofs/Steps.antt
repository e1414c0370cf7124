-- What the parties' own replays give to a merge.
use Rattle.std.proofs.Common.{◌≡◌, ℕ, ◌+◌, ◌≤◌, ◌==◌, Bool, true, false, if◌then◌else◌, List, [], ◌∷◌, ◌++◌, Option, Some, None, slice_get, refl, sym, ap, subst, eqb-true, eq-eqb, arith, ⊎_elim, ap₂}
use Rattle.room_kinds.specs.declared.message.Msg.{Msg}
use Rattle.journal.specs.declared.entry.Entry.{Entry}
use Rattle.journal.specs.declared.entry.Entry.TheVariants as entry
use Rattle.actor_merge.specs.Mail.{Lane, lane, is_lane, stamp_of, takes, gives, taken, given}
use Rattle.actor_merge.specs.Parties.{State, Environment, Line, Plant, fetch, post, post_front, post_line, environment_post, Does, Replays, EnvironmentReplays, begins}
use Rattle.actor_merge.specs.World.{World, Placed, caught_up, latest_of}
use Rattle.actor_merge.specs.Merge.{IsStamped, AllStamped, IsBefore, IsBeforeAll, entries_of, EnvironmentGoes}
use Rattle.actor_merge.proofs.Lanes.{is_lane-sender, is_lane-receiver}

-- what a merge takes from a lane
abbrev pub all_taken : Lane → List Placed → List Msg
all_taken l [] = []
all_taken l (x ∷ xs) = takes l x.party x.entry ++ all_taken l xs

-- what a merge gives to a lane
abbrev pub all_given : Lane → List Placed → List Msg
all_given l [] = []
all_given l (x ∷ xs) = gives l x.party x.entry ++ all_given l xs

takes_other : (l : Lane) (party : ℕ) (e : Entry) → (l.receiver == party) ≡ false → takes l party e ≡ []
takes_other l party (entry.Start who state notes) h = refl
takes_other l party (entry.Fetch stamp m) h = rw (is_lane-receiver l (lane m.from.0 party m.prio.0) h) refl
takes_other l party (entry.Turn stamp from sent did notes) h = refl
takes_other l party (entry.Post stamp m) h = refl

gives_other : (l : Lane) (party : ℕ) (e : Entry) → (l.sender == party) ≡ false → gives l party e ≡ []
gives_other l party (entry.Start who state notes) h = refl
gives_other l party (entry.Post stamp m) h = rw (is_lane-sender l (lane party m.to.0 m.prio.0) h) refl
gives_other l party (entry.Turn stamp from sent did notes) h = refl
gives_other l party (entry.Fetch stamp m) h = refl

pub all_taken-of : (l : Lane) (xs : List Placed) → all_taken l xs ≡ taken l l.receiver (entries_of l.receiver xs)
all_taken-of l [] = refl
all_taken-of l (x ∷ xs) = go (l.receiver == x.party) refl (all_taken-of l xs)
  where
    go : (b : Bool) → (l.receiver == x.party) ≡ b → all_taken l xs ≡ taken l l.receiver (entries_of l.receiver xs)
        → takes l x.party x.entry ++ all_taken l xs
        ≡ taken l l.receiver (if b then x.entry ∷ entries_of l.receiver xs else entries_of l.receiver xs)
    go true e ih = ap₂ (λ (a : List Msg) (b : List Msg). a ++ b) (ap (λ p. takes l p x.entry) (sym (eqb-true _ _ e))) ih
    go false e ih = rw (takes_other l x.party x.entry e) ih

pub all_given-of : (l : Lane) (xs : List Placed) → all_given l xs ≡ given l l.sender (entries_of l.sender xs)
all_given-of l [] = refl
all_given-of l (x ∷ xs) = go (l.sender == x.party) refl (all_given-of l xs)
  where
    go : (b : Bool) → (l.sender == x.party) ≡ b → all_given l xs ≡ given l l.sender (entries_of l.sender xs)
        → gives l x.party x.entry ++ all_given l xs
        ≡ given l l.sender (if b then x.entry ∷ entries_of l.sender xs else entries_of l.sender xs)
    go true e ih = ap₂ (λ (a : List Msg) (b : List Msg). a ++ b) (ap (λ p. gives l p x.entry) (sym (eqb-true _ _ e))) ih
    go false e ih = rw (gives_other l x.party x.entry e) ih

-- the same of all entries of a merge
abbrev pub MergeStamped : List Placed → Type 0
MergeStamped [] = Unit {0}
MergeStamped (x ∷ xs) = IsStamped x.entry × MergeStamped xs

-- the entry of an outcome
entry_or : {A : Type 0} → Entry → Option (A × Entry) → Entry
entry_or e None = e
entry_or e (Some r) = r.1

pub same_entry : {A : Type 0} {p q : A × Entry} → Some p ≡ Some q → p.1 ≡ q.1
unfolding entry_or
same_entry {p = p} h = ap (entry_or p.1) h

post_stamped : {B : Type 0} (c : ℕ) (s next : State B) (e : Entry) → post c s ≡ Some (next, e) → IsStamped e
unfolding post
post_stamped c s next e h = go s.outbox h
  where
    go : (box : List Msg) → post_front c s box ≡ Some (next, e) → IsStamped e
    go [] k = cc
    go (x ∷ xs) k = subst IsStamped (same_entry k) refl

fetch_stamped : {B : Type 0} (s next : State B) (m : Msg) (e : Entry) → fetch s m ≡ (next, e) → IsStamped e
unfolding fetch
fetch_stamped s next m e h = subst IsStamped (ap (λ r. r.1) h) (omega arith)

pub does_stamped : {B : Type 0} (plant : Plant B) (c : ℕ) (s next : State B) (e : Entry) → Does plant c s e next → IsStamped e
does_stamped plant c s next (entry.Start who state notes) h = tt
does_stamped plant c s next (entry.Post stamp m) h = post_stamped c s next (entry.Post stamp m) h
does_stamped plant c s next (entry.Turn stamp from sent did notes) h = tt
does_stamped plant c s next (entry.Fetch stamp m) h = fetch_stamped s next m (entry.Fetch stamp m) h

pub replays_stamped : {B : Type 0} (plant : Plant B) (c : ℕ) (s : State B) (es : List Entry) (end : State B) → Replays plant c s es end → AllStamped es
replays_stamped plant c s [] end h = tt
replays_stamped plant c s (e ∷ es) end h = (does_stamped plant c s h.0 e h.1, replays_stamped plant c h.0 es end h.2)

line_stamped : {B : Type 0} (plant : Plant B) (v next : Environment) (e : Entry) → environment_post plant v ≡ Some (next, e) → IsStamped e
unfolding environment_post
line_stamped plant v next e h = go (slice_get plant.lines v.posted) h
  where
    go : (o : Option Line) → post_line plant.controllers v o ≡ Some (next, e) → IsStamped e
    go None k = cc
    go (Some line) k = subst IsStamped (same_entry k) refl

pub environment_stamped : {B : Type 0} (plant : Plant B) (v : Environment) (es : List Entry) (end : Environment) → EnvironmentReplays plant v es end → AllStamped es
environment_stamped plant v [] end h = tt
environment_stamped plant v (e ∷ es) end h = (line_stamped plant v h.0 e h.1, environment_stamped plant h.0 es end h.2)

pub goes_stamped : {B : Type 0} (plant : Plant B) (w : World B) (es : List Entry) (end : Environment) → EnvironmentGoes plant w es end → AllStamped es
goes_stamped plant w [] end h = tt
goes_stamped plant w (e ∷ es) end h = environment_stamped plant (caught_up plant w) (e ∷ es) end h

-- each line is the next one
pub line_posted : {B : Type 0} (plant : Plant B) (v next : Environment) (e : Entry) → environment_post plant v ≡ Some (next, e) → next.posted ≡ v.posted + 1
unfolding environment_post
line_posted plant v next e h = go (slice_get plant.lines v.posted) h
  where
    go : (o : Option Line) → post_line plant.controllers v o ≡ Some (next, e) → next.posted ≡ v.posted + 1
    go None k = cc
    go (Some line) k = sym (ap (elim [ None ↦ 0 | Some r ↦ r.0.posted ]) k)

pub caught_up-posted : {B : Type 0} (plant : Plant B) (w : World B) → (caught_up plant w).posted ≡ w.environment.posted
unfolding caught_up
caught_up-posted plant w = go (begins plant w.environment.posted)
  where
    go : (b : Bool) → (if b then record w.environment { clock = latest_of plant w } else w.environment).posted ≡ w.environment.posted
    go true = refl
    go false = refl

pub caught_up-same : {B : Type 0} (plant : Plant B) (w : World B) → begins plant w.environment.posted ≡ false → caught_up plant w ≡ w.environment
unfolding caught_up
caught_up-same plant w h = rw h refl

pub all_stamped : (xs : List Placed) → ((party : ℕ) → AllStamped (entries_of party xs)) → MergeStamped xs
all_stamped [] h = tt
all_stamped (x ∷ xs) h = (head.0, all_stamped xs (λ p. rest p (p == x.party) (h p)))
  where
    head : AllStamped (x.entry ∷ entries_of x.party xs)
    head = rw (eq-eqb x.party x.party refl) at (h x.party)

    rest : (p : ℕ) (b : Bool) → AllStamped (if b then x.entry ∷ entries_of p xs else entries_of p xs) → AllStamped (entries_of p xs)
    rest p true k = k.1
    rest p false k = k

-- what later entries give to a lane has later stamps
abbrev pub From : ℕ → List Msg → Type 0
From bound [] = Unit {0}
From bound (m ∷ ms) = (bound ≤ m.stamp.0) × From bound ms

gives_from : (l : Lane) (x : Placed) (y : Placed) → IsBefore x y → IsStamped y.entry
    → (ms : List Msg) → From (stamp_of x.entry) ms → From (stamp_of x.entry) (gives l y.party y.entry ++ ms)
gives_from l x y before s ms h = go y.entry (⊎_elim (λ p. omega arith) (λ p. omega arith) before) s
  where
    go : (e : Entry) → stamp_of x.entry ≤ stamp_of e → IsStamped e → From (stamp_of x.entry) (gives l y.party e ++ ms)
    go (entry.Start who state notes) b k = h
    go (entry.Fetch stamp m) b k = h
    go (entry.Turn stamp from sent did notes) b k = h
    go (entry.Post stamp m) b k = inner (is_lane l (lane y.party m.to.0 m.prio.0))
      where
        inner : (t : Bool) → From (stamp_of x.entry) ((if t then m ∷ [] else []) ++ ms)
        inner true = (omega arith, h)
        inner false = h

pub given_from : (l : Lane) (x : Placed) (xs : List Placed) → IsBeforeAll x xs → MergeStamped xs → From (stamp_of x.entry) (all_given l xs)
given_from l x [] before s = tt
given_from l x (y ∷ ys) before s =
    gives_from l x y before.0 s.0 (all_given l ys) (given_from l x ys before.1 s.1)
