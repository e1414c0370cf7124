-- In a run of the world no message is fetched twice: no two posts of a party have one stamp, and lanes
-- are queues.
use Rattle.std.proofs.Common.{◌≡◌, ℕ, zero, suc, ◌+◌, ◌<◌, ◌≤◌, ◌==◌, ◌&&◌, Bool, true, false, if◌then◌else◌, List, [], ◌∷◌, ◌++◌, Option, Some, None, slice_get, refl, sym, ap, ◌∙◌, subst, eq-eqb, eqb-true, arith, ◌⊎◌, inl, inr}
use Rattle.std.proofs.lemmas.Bool.{ne_eqb, and_parts, cases_order}
use Rattle.room_kinds.specs.declared.message.Msg.{Msg}
use Rattle.journal.specs.declared.entry.Entry.{Entry}
use Rattle.journal.specs.declared.entry.Entry.TheVariants as entry
use Rattle.actor_merge.specs.Mail.{Lane, lane, is_lane, stamp_of, event_of, takes, gives, taken, given}
use Rattle.actor_merge.specs.Parties.{State, Environment, Line, Plant, stamped, post_line, environment_post, begins}
use Rattle.actor_merge.specs.World.{World, Placed, latest, latest_of, caught_up, environment_does, start, Runs}
use Rattle.actor_merge.specs.Merge.{Rising, IsStamped, AllStamped, entries_of}
use Rattle.actor_merge.proofs.Lanes.{is_lane-same, is_lane-true, is_lane-sender}
use Rattle.actor_merge.proofs.Steps.{all_taken, all_taken-of, replays_stamped}
use Rattle.actor_merge.proofs.Back.{Happened, controller, environment, happened, run_projects}
use Rattle.actor_merge.proofs.Extend.{replays_rise}
use Rattle.actor_world.specs.world_laws.Counting.{same_name, times}
use Rattle.actor_world.specs.world_laws.Whereabouts.{fetches}
use Rattle.actor_world.specs.world_laws.OnePlace.{all_fetched}
use Rattle.actor_world.proofs.world_laws.Sums.{count-append}

-- entries whose stamps rise from above a clock, each post with its stamp
abbrev pub Timed : ℕ → List Entry → Type 0
Timed k es = Rising k es × AllStamped es

timed_less : (j k : ℕ) → j ≤ k → (es : List Entry) → Timed k es → Timed j es
timed_less j k l [] h = h
timed_less j k l (e ∷ es) h = let f : k < stamp_of e = h.0.0 in ((omega (arith, f), h.0.1), h.1)

latest_no_less : {B : Type 0} (states : ℕ → State B) (clock n : ℕ) → clock ≤ latest states n clock
latest_no_less states clock zero = omega arith
latest_no_less states clock (suc n) = let ih = latest_no_less states clock n in omega (arith, ih)

-- a line's entry has a later stamp than the clock, which becomes the clock
record LineStamped (clock : ℕ) (v : Environment) (e : Entry) : Type 0 where
  later : clock < stamp_of e
  clock_is : v.clock ≡ stamp_of e
  stamped : IsStamped e

module _ {B : Type 0} (plant : Plant B) where
  caught_up_later : (w : World B) → w.environment.clock ≤ (caught_up plant w).clock
  unfolding caught_up
  caught_up_later w = go (begins plant w.environment.posted)
    where
      go : (b : Bool) → w.environment.clock ≤ (if b then record w.environment { clock = latest_of plant w } else w.environment).clock
      go true = latest_no_less w.controllers w.environment.clock plant.controllers
      go false = omega arith

  line_stamped : (u v : Environment) (e : Entry) → environment_post plant u ≡ Some (v, e) → LineStamped u.clock v e
  unfolding environment_post
  line_stamped u v e h = go (slice_get plant.lines u.posted) h
    where
      go : (o : Option Line) → post_line plant.controllers u o ≡ Some (v, e) → LineStamped u.clock v e
      go None k = absurd cc
      go (Some line) k =
          let r : Environment × Entry = (record { clock = u.clock + 1; posted = u.posted + 1 }, entry.Post (record { 0 = u.clock + 1 }) (stamped plant.controllers (u.clock + 1) line.message)) in
          let q : Environment × Entry = (v, e) in
          let p : r ≡ q = cc in
          subst (λ (z : Environment × Entry). LineStamped u.clock z.0 z.1) p (record { later = omega arith; clock_is = refl; stamped = refl })

  environment_stamped : (w : World B) (v : Environment) (e : Entry) → environment_does plant w (event_of e) ≡ Some (v, e) → LineStamped (caught_up plant w).clock v e
  environment_stamped w v (entry.Start who state notes) h = absurd cc
  environment_stamped w v (entry.Fetch stamp m) h = absurd cc
  environment_stamped w v (entry.Turn stamp from sent did notes) h = absurd cc
  environment_stamped w v (entry.Post stamp m) h = line_stamped (caught_up plant w) v (entry.Post stamp m) h

  -- the environment's entries of a run
  environment_timed : (xs : List Placed) (w end : World B) → Runs plant w xs end → Timed w.environment.clock (entries_of plant.controllers xs)
  environment_timed [] w end r = (tt, tt)
  environment_timed (x ∷ xs) w end r = go (happened plant w x r.0 r.2) (environment_timed xs r.0 end r.3)
    where
      go : Happened plant w x r.0 → Timed r.0.environment.clock (entries_of plant.controllers xs) → Timed w.environment.clock (entries_of plant.controllers (x ∷ xs))
      go (controller below s does same) ih =
          rw (ne_eqb plant.controllers x.party (λ e. omega arith)) (subst (λ (v : Environment). Timed v.clock (entries_of plant.controllers xs)) (ap (λ (z : World B). z.environment) same) ih)
      go (environment is v does same) ih =
          let l : LineStamped (caught_up plant w).clock v x.entry = environment_stamped w v x.entry does in
          let u : w.environment.clock ≤ (caught_up plant w).clock = caught_up_later w in
          let a : (caught_up plant w).clock < stamp_of x.entry = l.later in
          let clock : r.0.environment.clock ≡ stamp_of x.entry = ap (λ (z : World B). z.environment.clock) same ∙ l.clock_is in
          let rest : Timed (stamp_of x.entry) (entries_of plant.controllers xs) = subst (λ k. Timed k (entries_of plant.controllers xs)) clock ih in
          rw (eq-eqb plant.controllers x.party (sym is)) ((omega (arith, u, a), rest.0), (l.stamped, rest.1))

  -- nobody else does anything in a run
  nobody_else : (f : ℕ) → plant.controllers < f → (xs : List Placed) (w end : World B) → Runs plant w xs end → entries_of f xs ≡ []
  nobody_else f above [] w end r = refl
  nobody_else f above (x ∷ xs) w end r = go (happened plant w x r.0 r.2) (nobody_else f above xs r.0 end r.3)
    where
      go : Happened plant w x r.0 → entries_of f xs ≡ [] → entries_of f (x ∷ xs) ≡ []
      go (controller below s does same) ih = rw (ne_eqb f x.party (λ e. omega arith)) ih
      go (environment is v does same) ih = rw (ne_eqb f x.party (λ e. omega arith)) ih

  -- each party's entries of a run
  party_timed : (xs : List Placed) (w end : World B) → Runs plant w xs end → (f : ℕ) → Timed 0 (entries_of f xs)
  party_timed xs w end r f = go (cases_order f plant.controllers)
    where
      go : (f ≡ plant.controllers) ⊎ ((f < plant.controllers) ⊎ (plant.controllers < f)) → Timed 0 (entries_of f xs)
      go (inr (inl below)) =
          let p = (run_projects plant w xs end r).controllers f below in
          timed_less 0 (w.controllers f).clock (omega arith) (entries_of f xs)
          ((replays_rise plant f (w.controllers f) (entries_of f xs) (end.controllers f) p).0, replays_stamped plant f (w.controllers f) (entries_of f xs) (end.controllers f) p)
      go (inl e) = timed_less 0 w.environment.clock (omega arith) (entries_of f xs) (subst (λ n. Timed w.environment.clock (entries_of n xs)) (sym e) (environment_timed xs w end r))
      go (inr (inr above)) = rw (nobody_else f above xs w end r) (tt, tt)

-- of a party's posts at most one has the stamp of a name, and all that is given with this name is its message
data OnePost (m : Msg) (f : ℕ) (es : List Entry) : Type 0 where
  no_post : ((l : Lane) → times m (given l f es) ≡ 0) → OnePost m f es
  a_post : (at : Lane) → ((l : Lane) → times m (given l f es) ≡ (if is_lane l at then 1 else 0)) → OnePost m f es

-- later entries give nothing with an earlier stamp
none_given : (m : Msg) (f k : ℕ) → m.stamp.0 ≤ k → (l : Lane) (es : List Entry) → Timed k es → times m (given l f es) ≡ 0
none_given m f k low l [] h = refl
none_given m f k low l (e ∷ es) h =
    let step : k < stamp_of e = h.0.0 in
    let rest : times m (given l f es) ≡ 0 = none_given m f (stamp_of e) (omega (arith, low, step)) l es (h.0.1, h.1.1) in
    let here : times m (gives l f e) ≡ 0 = gives_late e step h.1.0 in
    let a = count-append (same_name m) (gives l f e) (given l f es) in
    omega (arith, rest, here, a)
  where
    gives_late : (e : Entry) → k < stamp_of e → IsStamped e → times m (gives l f e) ≡ 0
    gives_late (entry.Start who state notes) s i = refl
    gives_late (entry.Fetch stamp x) s i = refl
    gives_late (entry.Turn stamp from sent did notes) s i = refl
    gives_late (entry.Post stamp x) s i = go (is_lane l (lane f x.to.0 x.prio.0))
      where
        other : same_name m x ≡ false
        other = pick (x.from.0 == m.from.0) (x.stamp.0 == m.stamp.0) (ne_eqb x.stamp.0 m.stamp.0 (λ e. omega (arith, low, s, i, e)))
          where
            pick : (a b : Bool) → b ≡ false → (a && b) ≡ false
            pick true b h = h
            pick false b h = refl

        go : (b : Bool) → times m (if b then x ∷ [] else []) ≡ 0
        go true = rw other refl
        go false = refl

one_post : (m : Msg) (f : ℕ) (es : List Entry) (k : ℕ) → Timed k es → OnePost m f es
one_post m f [] k h = no_post (λ l. refl)
one_post m f (e ∷ es) k h = go e h.1.0 (one_post m f es (stamp_of e) (h.0.1, h.1.1)) (λ low l. none_given m f (stamp_of e) low l es (h.0.1, h.1.1))
  where
    still : (e : Entry) → ((l : Lane) → gives l f e ≡ []) → OnePost m f es → OnePost m f (e ∷ es)
    still e none (no_post z) = no_post (λ l. rw (none l) (z l))
    still e none (a_post at z) = a_post at (λ l. rw (none l) (z l))

    go : (e : Entry) → IsStamped e → OnePost m f es → (m.stamp.0 ≤ stamp_of e → (l : Lane) → times m (given l f es) ≡ 0) → OnePost m f (e ∷ es)
    go (entry.Start who state notes) i ih late = still (entry.Start who state notes) (λ l. refl) ih
    go (entry.Fetch stamp x) i ih late = still (entry.Fetch stamp x) (λ l. refl) ih
    go (entry.Turn stamp from sent did notes) i ih late = still (entry.Turn stamp from sent did notes) (λ l. refl) ih
    go (entry.Post stamp x) i ih late = named (same_name m x) refl ih
      where
        at : Lane
        at = lane f x.to.0 x.prio.0

        miss : (b : Bool) → same_name m x ≡ false → times m (if b then x ∷ [] else []) ≡ 0
        miss true e = rw e refl
        miss false e = refl

        named : (b : Bool) → same_name m x ≡ b → OnePost m f es → OnePost m f (entry.Post stamp x ∷ es)
        named true e ih =
            let s : x.stamp.0 ≡ m.stamp.0 = eqb-true x.stamp.0 m.stamp.0 (and_parts (x.from.0 == m.from.0) (x.stamp.0 == m.stamp.0) e).1 in
            a_post (lane f x.to.0 x.prio.0) (λ l.
            let z : times m (given l f es) ≡ 0 = late (omega (arith, s, i)) l in
            let a = count-append (same_name m) (gives l f (entry.Post stamp x)) (given l f es) in
            let g = hit l (is_lane l (lane f x.to.0 x.prio.0)) in
            omega (arith, z, a, g))
          where
            hit : (l : Lane) (b : Bool) → times m (if b then x ∷ [] else []) ≡ (if b then 1 else 0)
            hit l true = rw e refl
            hit l false = refl
        named false e (no_post z) = no_post (λ l.
            let a = count-append (same_name m) (gives l f (entry.Post stamp x)) (given l f es) in
            let g = miss (is_lane l (lane f x.to.0 x.prio.0)) e in
            let y = z l in omega (arith, a, g, y))
        named false e (a_post at z) = a_post at (λ l.
            let a = count-append (same_name m) (gives l f (entry.Post stamp x)) (given l f es) in
            let g = miss (is_lane l (lane f x.to.0 x.prio.0)) e in
            let y = z l in omega (arith, a, g, y))

-- a lane that the sender of a name owns
abbrev own_lane : Msg → ℕ → ℕ → Lane
own_lane m receiver priority = lane m.from.0 receiver priority

-- where no lane gives a message of a name, none is fetched
none_fetched : (m : Msg) (xs : List Placed) → ((r p : ℕ) → times m (all_taken (own_lane m r p) xs) ≡ 0) → times m (all_fetched xs) ≡ 0
none_fetched m [] h = refl
none_fetched m (x ∷ xs) h =
    let a = count-append (same_name m) (fetches x.entry) (all_fetched xs) in
    let rest : times m (all_fetched xs) ≡ 0 = none_fetched m xs (λ r p. let b = count-append (same_name m) (takes (own_lane m r p) x.party x.entry) (all_taken (own_lane m r p) xs) in let c = h r p in omega (arith, b, c)) in
    let here : times m (fetches x.entry) ≡ 0 = first x.entry (λ r p. let b = count-append (same_name m) (takes (own_lane m r p) x.party x.entry) (all_taken (own_lane m r p) xs) in let c = h r p in omega (arith, b, c)) in
    omega (arith, a, rest, here)
  where
    first : (e : Entry) → ((r p : ℕ) → times m (takes (own_lane m r p) x.party e) ≡ 0) → times m (fetches e) ≡ 0
    first (entry.Start who state notes) h = refl
    first (entry.Turn stamp from sent did notes) h = refl
    first (entry.Post stamp y) h = refl
    first (entry.Fetch stamp y) h = named (same_name m y) refl
      where
        named : (b : Bool) → same_name m y ≡ b → (if same_name m y then 1 else 0) + 0 ≡ 0
        named false e = rw e refl
        named true e =
            let f : y.from.0 ≡ m.from.0 = eqb-true y.from.0 m.from.0 (and_parts (y.from.0 == m.from.0) (y.stamp.0 == m.stamp.0) e).0 in
            let k : times m (takes (own_lane m x.party y.prio.0) x.party (entry.Fetch stamp y)) ≡ 0 = h x.party y.prio.0 in
            let i : is_lane (own_lane m x.party y.prio.0) (lane y.from.0 x.party y.prio.0) ≡ true =
            subst (λ n. is_lane (own_lane m x.party y.prio.0) (lane n x.party y.prio.0) ≡ true) (sym f) (is_lane-same (own_lane m x.party y.prio.0)) in
            let z : (if same_name m y then 1 else 0) + 0 ≡ 0 = rw i at k in z

-- where one lane alone gives messages of a name, those that are fetched are those taken from it
one_fetched : (m : Msg) (at : Lane) (xs : List Placed) → ((r p : ℕ) → is_lane (own_lane m r p) at ≡ false → times m (all_taken (own_lane m r p) xs) ≡ 0)
    → times m (all_fetched xs) ≤ times m (all_taken at xs)
one_fetched m at [] h = omega arith
one_fetched m at (x ∷ xs) h =
    let a = count-append (same_name m) (fetches x.entry) (all_fetched xs) in
    let b = count-append (same_name m) (takes at x.party x.entry) (all_taken at xs) in
    let rest : times m (all_fetched xs) ≤ times m (all_taken at xs) =
    one_fetched m at xs (λ r p i. let c = count-append (same_name m) (takes (own_lane m r p) x.party x.entry) (all_taken (own_lane m r p) xs) in let d = h r p i in omega (arith, c, d)) in
    let here : times m (fetches x.entry) ≤ times m (takes at x.party x.entry) =
    first x.entry (λ r p i. let c = count-append (same_name m) (takes (own_lane m r p) x.party x.entry) (all_taken (own_lane m r p) xs) in let d = h r p i in omega (arith, c, d)) in
    omega (arith, a, b, rest, here)
  where
    first : (e : Entry) → ((r p : ℕ) → is_lane (own_lane m r p) at ≡ false → times m (takes (own_lane m r p) x.party e) ≡ 0)
        → times m (fetches e) ≤ times m (takes at x.party e)
    first (entry.Start who state notes) h = omega arith
    first (entry.Turn stamp from sent did notes) h = omega arith
    first (entry.Post stamp y) h = omega arith
    first (entry.Fetch stamp y) h = named (same_name m y) refl
      where
        named : (b : Bool) → same_name m y ≡ b → (if same_name m y then 1 else 0) + 0 ≤ times m (if is_lane at (lane y.from.0 x.party y.prio.0) then y ∷ [] else [])
        named false e = rw e (omega arith)
        named true e =
            let f : y.from.0 ≡ m.from.0 = eqb-true y.from.0 m.from.0 (and_parts (y.from.0 == m.from.0) (y.stamp.0 == m.stamp.0) e).0 in
            let i : is_lane (own_lane m x.party y.prio.0) (lane y.from.0 x.party y.prio.0) ≡ true =
            subst (λ n. is_lane (own_lane m x.party y.prio.0) (lane n x.party y.prio.0) ≡ true) (sym f) (is_lane-same (own_lane m x.party y.prio.0)) in
            inner f i (is_lane (own_lane m x.party y.prio.0) at) refl
          where
            inner : y.from.0 ≡ m.from.0 → is_lane (own_lane m x.party y.prio.0) (lane y.from.0 x.party y.prio.0) ≡ true
                → (b : Bool) → is_lane (own_lane m x.party y.prio.0) at ≡ b
                → (if same_name m y then 1 else 0) + 0 ≤ times m (if is_lane at (lane y.from.0 x.party y.prio.0) then y ∷ [] else [])
            inner f i true l =
                let s : own_lane m x.party y.prio.0 ≡ at = is_lane-true (own_lane m x.party y.prio.0) at l in
                let j : is_lane at (lane y.from.0 x.party y.prio.0) ≡ true = subst (λ (z : Lane). is_lane z (lane y.from.0 x.party y.prio.0) ≡ true) s i in
                rw j (omega arith)
            inner f i false l =
                let k : times m (takes (own_lane m x.party y.prio.0) x.party (entry.Fetch stamp y)) ≡ 0 = h x.party y.prio.0 l in
                let z : (if same_name m y then 1 else 0) + 0 ≡ 0 = rw i at k in
                omega (arith, z)

-- no message is fetched twice in a run from the start
pub fetched_once : {B : Type 0} (plant : Plant B) (xs : List Placed) (end : World B) → Runs plant (start plant) xs end → (m : Msg) → times m (all_fetched xs) ≤ 1
fetched_once plant xs end r m = go (one_post m m.from.0 (entries_of m.from.0 xs) 0 (party_timed plant xs (start plant) end r m.from.0))
  where
    -- what is taken from a lane is no more than what is given to it
    within : (l : Lane) → l.sender ≡ m.from.0 → times m (all_taken l xs) ≤ times m (given l m.from.0 (entries_of m.from.0 xs))
    within l s =
        let p : given l l.sender (entries_of l.sender xs) ≡ taken l l.receiver (entries_of l.receiver xs) ++ end.lanes l = (run_projects plant (start plant) xs end r).lanes l in
        let a = count-append (same_name m) (taken l l.receiver (entries_of l.receiver xs)) (end.lanes l) in
        let g : times m (given l l.sender (entries_of l.sender xs)) ≡ times m (taken l l.receiver (entries_of l.receiver xs) ++ end.lanes l) = ap (times m) p in
        let t : times m (all_taken l xs) ≡ times m (taken l l.receiver (entries_of l.receiver xs)) = ap (times m) (all_taken-of l xs) in
        let f : times m (given l l.sender (entries_of l.sender xs)) ≡ times m (given l m.from.0 (entries_of m.from.0 xs)) = ap (λ n. times m (given l n (entries_of n xs))) s in
        omega (arith, a, g, t, f)

    go : OnePost m m.from.0 (entries_of m.from.0 xs) → times m (all_fetched xs) ≤ 1
    go (no_post z) =
        let n = none_fetched m xs (λ q p. let a = within (own_lane m q p) refl in let b = z (own_lane m q p) in omega (arith, a, b)) in omega (arith, n)
    go (a_post at z) = outer (m.from.0 == at.sender) refl
      where
        others : (q p : ℕ) → is_lane (own_lane m q p) at ≡ false → times m (all_taken (own_lane m q p) xs) ≡ 0
        others q p i = let a = within (own_lane m q p) refl in let b : times m (given (own_lane m q p) m.from.0 (entries_of m.from.0 xs)) ≡ 0 = z (own_lane m q p) ∙ ap (λ b. if b then 1 else 0) i in omega (arith, a, b)

        outer : (b : Bool) → (m.from.0 == at.sender) ≡ b → times m (all_fetched xs) ≤ 1
        outer true e =
            let a = one_fetched m at xs others in
            let w = within at (sym (eqb-true m.from.0 at.sender e)) in
            let g : times m (given at m.from.0 (entries_of m.from.0 xs)) ≡ 1 = z at ∙ ap (λ b. if b then 1 else 0) (is_lane-same at) in
            omega (arith, a, w, g)
        outer false e =
            let n = none_fetched m xs (λ q p. others q p (not_own q p)) in omega (arith, n)
          where
            not_own : (q p : ℕ) → is_lane (own_lane m q p) at ≡ false
            not_own q p = is_lane-sender (own_lane m q p) at e
