-- The merge of a round is a run: what is left of it always follows from the world.
use Rattle.std.proofs.Common.{◌≡◌, ℕ, zero, suc, ◌+◌, ◌<◌, ◌≤◌, ◌==◌, Bool, true, false, if◌then◌else◌, List, [], ◌∷◌, ◌++◌, drop, Option, Some, None, slice_get, length, refl, sym, ap, ◌∙◌, subst, append-nil, eqb-true, eq-eqb, lt-ltb, le-ltb, arith, append_assoc, ◌⊎◌, inl, inr, ⊎_elim}
use Rattle.std.proofs.lemmas.Bool.{cases_order, ne_eqb}
use Rattle.room_kinds.specs.declared.message.Msg.{Msg}
use Rattle.journal.specs.declared.entry.Entry.{Entry}
use Rattle.journal.specs.declared.entry.Entry.TheVariants as entry
use Rattle.actor_merge.specs.Mail.{Lane, lane, event_of, takes, gives}
use Rattle.actor_merge.specs.Parties.{State, Environment, Line, Plant, put, Taken, lowest, next_of, turn, post, post_line, environment_post, Does, Replays, EnvironmentReplays, turn_with, post_front, begins}
use Rattle.actor_merge.specs.World.{World, Placed, controller_does, environment_does, lanes_after, happens, Runs, IsQuiet, IsReady, caught_up}
use Rattle.actor_merge.specs.Merge.{AllStamped, InOrder, entries_of, IsMerge, IsRound, IsSame, EnvironmentGoes}
use Rattle.actor_merge.proofs.Lanes.{is_lane-same, fetch_step, post_step, put-same, put-other}
use Rattle.actor_merge.proofs.Steps.{all_taken, all_given, all_taken-of, all_given-of, MergeStamped, From, given_from, all_stamped, replays_stamped, goes_stamped, same_entry, line_posted, caught_up-posted, caught_up-same}

-- the rest of a round's merge follows from this world, and leads to that one
pub record Follows {B : Type 0} (plant : Plant B) (w : World B) (rest : List Placed) (after : World B) : Type 0 where
  pub controllers : (c : ℕ) → c < plant.controllers → Replays plant c (w.controllers c) (entries_of c rest) (after.controllers c)
  pub environment : EnvironmentGoes plant w (entries_of plant.controllers rest) after.environment
  pub nobody : (party : ℕ) → plant.controllers < party → entries_of party rest ≡ []
  pub lanes : (l : Lane) → w.lanes l ++ all_given l rest ≡ all_taken l rest ++ after.lanes l
  pub quiet : begins plant w.environment.posted ≡ true → (entries_of plant.controllers rest ≡ []) ⊎ IsQuiet plant w
  pub one_part : (line : ℕ) → w.environment.posted < line → line < w.environment.posted + length (entries_of plant.controllers rest) → begins plant line ≡ false
  pub ordered : InOrder rest
  pub stamped : MergeStamped rest

cancel : (t a b : List Msg) → t ++ a ≡ t ++ b → a ≡ b
cancel [] a b h = h
cancel (m ∷ t) a b h = cancel t a b cc

-- the front of a lane is what is taken next: a later entry can't have posted it
front : (content later : List Msg) (m : Msg) (rest : List Msg) (bound : ℕ)
    → m ∷ rest ≡ content ++ later → From bound later → m.stamp.0 < bound → content ≡ m ∷ drop 1 content
front [] [] m rest bound e f h = cc
front [] (y ∷ later) m rest bound e f h =
    let same : m ≡ y = cc in
    let k : m.stamp.0 ≡ y.stamp.0 = ap (λ (z : Msg). z.stamp.0) same in
    let g : bound ≤ y.stamp.0 = f.0 in
    absurd (omega arith)
front (y ∷ content) later m rest bound e f h =
    let same : y ≡ m = cc in
    ap (λ z. z ∷ content) same

shorter : (t rest before now g later end : List Msg) → t ++ now ≡ before ++ g
    → before ++ (g ++ later) ≡ (t ++ rest) ++ end → now ++ later ≡ rest ++ end
shorter t rest before now g later end h p =
    cancel t (now ++ later) (rest ++ end)
    (sym (append_assoc t now later) ∙ ap (λ (z : List Msg). z ++ later) h ∙ append_assoc before g later ∙ p ∙ append_assoc t rest end)

pub own_entries : (c : ℕ) (x : Placed) (xs : List Placed) → c ≡ x.party → entries_of c (x ∷ xs) ≡ x.entry ∷ entries_of c xs
own_entries c x xs e = rw (eq-eqb c x.party e) refl

other_entries : (c : ℕ) (x : Placed) (xs : List Placed) → (c ≡ x.party → ⊥) → entries_of c (x ∷ xs) ≡ entries_of c xs
other_entries c x xs e = rw (ne_eqb c x.party e) refl

nobody_step : (c : ℕ) (x : Placed) (xs : List Placed) → entries_of c (x ∷ xs) ≡ [] → entries_of c xs ≡ []
nobody_step c x xs h = go (c == x.party) h
  where
    go : (b : Bool) → (if b then x.entry ∷ entries_of c xs else entries_of c xs) ≡ [] → entries_of c xs ≡ []
    go true k = cc
    go false k = k

none_left : (es : List Entry) (b : Bool) → (0 < length es → b ≡ false) → b ≡ true → es ≡ []
none_left [] b h k = refl
none_left (e ∷ es) b h k = let f : b ≡ false = h (omega arith) in cc

-- no message is next where no list has one
lowest-none : (pending : ℕ → List Msg) → ((p : ℕ) → pending p ≡ []) → (at k : ℕ) → lowest pending at k ≡ None
unfolding lowest
lowest-none pending h at zero = refl
lowest-none pending h at (suc k) = rw (h at) (lowest-none pending h (at + 1) k)

module _ {B : Type 0} (plant : Plant B) where
  lane_front : (w : World B) (c : ℕ) (e : Entry) (m : Msg) (xs : List Placed) (after : World B)
      → Follows plant w (record { party = c; entry = e } ∷ xs) after
      → (stamp : ℕ) → e ≡ entry.Fetch (record { 0 = stamp }) m
      → w.lanes (lane m.from.0 c m.prio.0) ≡ m ∷ drop 1 (w.lanes (lane m.from.0 c m.prio.0))
  lane_front w c e m xs after inv stamp is =
      let at : Lane = lane m.from.0 c m.prio.0 in
      let f : Entry = entry.Fetch (record { 0 = stamp }) m in
      let inv' : Follows plant w (record { party = c; entry = f } ∷ xs) after =
      subst (λ z. Follows plant w (record { party = c; entry = z } ∷ xs) after) is inv in
      let e : w.lanes at ++ all_given at xs ≡ m ∷ (all_taken at xs ++ after.lanes at) = rw (is_lane-same at) at (inv'.lanes at) in
      front (w.lanes at) (all_given at xs) m _ stamp (sym e)
      (given_from at (record { party = c; entry = f }) xs inv'.ordered.0 inv'.stamped.1) inv'.stamped.0

  -- an event's change to a lane
  change : (w : World B) (c : ℕ) (e : Entry) (xs : List Placed) (after : World B)
      → Follows plant w (record { party = c; entry = e } ∷ xs) after
      → (l : Lane) → takes l c e ++ lanes_after w c (event_of e) e l ≡ w.lanes l ++ gives l c e
  change w c (entry.Start who state notes) xs after inv l = sym (append-nil (w.lanes l))
  change w c (entry.Fetch stamp m) xs after inv l =
      fetch_step w.lanes (lane m.from.0 c m.prio.0) l m _ (lane_front w c (entry.Fetch stamp m) m xs after inv stamp.0 refl) ∙ sym (append-nil (w.lanes l))
  change w c (entry.Turn stamp from sent did notes) xs after inv l = sym (append-nil (w.lanes l))
  change w c (entry.Post stamp m) xs after inv l = post_step w.lanes (lane c m.to.0 m.prio.0) l m

  controller_does-own : (w : World B) (c : ℕ) (e : Entry) (s : State B) (xs : List Placed) (after : World B)
      → Follows plant w (record { party = c; entry = e } ∷ xs) after
      → Does plant c (w.controllers c) e s → controller_does plant w c (event_of e) ≡ Some (s, e)
  controller_does-own w c (entry.Start who state notes) s xs after inv h = absurd h
  controller_does-own w c (entry.Fetch stamp m) s xs after inv h =
      rw (lane_front w c (entry.Fetch stamp m) m xs after inv stamp.0 refl) (ap Some h)
  controller_does-own w c (entry.Turn stamp from sent did notes) s xs after inv h = h
  controller_does-own w c (entry.Post stamp m) s xs after inv h = h

  controller_happens : (w : World B) (c : ℕ) (e : Entry) (s : State B) → c < plant.controllers
      → controller_does plant w c (event_of e) ≡ Some (s, e)
      → happens plant w c (event_of e)
      ≡ Some (record w { controllers = put w.controllers c s; lanes = lanes_after w c (event_of e) e }, e)
  unfolding happens
  controller_happens w c e s below h = rw (lt-ltb c plant.controllers below, h) refl

  environment_happens : (w : World B) (e : Entry) (v : Environment)
      → environment_does plant w (event_of e) ≡ Some (v, e)
      → happens plant w plant.controllers (event_of e)
      ≡ Some (record w { environment = v; lanes = lanes_after w plant.controllers (event_of e) e }, e)
  unfolding happens
  environment_happens w e v h =
      rw (le-ltb plant.controllers plant.controllers (omega arith), eq-eqb plant.controllers plant.controllers refl, h) refl

  states_step : (states : ℕ → State B) (s end : State B) (x : Placed) (xs : List Placed) (c : ℕ)
      → (c ≡ x.party → Replays plant c s (entries_of c xs) end)
      → Replays plant c (states c) (entries_of c (x ∷ xs)) end → Replays plant c (put states x.party s c) (entries_of c xs) end
  states_step states s end x xs c own h = go (c == x.party) refl h
    where
      go : (b : Bool) → (c == x.party) ≡ b → Replays plant c (states c) (if b then x.entry ∷ entries_of c xs else entries_of c xs) end
          → Replays plant c (put states x.party s c) (entries_of c xs) end
      go true e k =
          let at : put states x.party s c ≡ s = subst (λ p. put states p s c ≡ s) (eqb-true c x.party e) (put-same states c s) in
          subst (λ z. Replays plant c z (entries_of c xs) end) (sym at) (own (eqb-true c x.party e))
      go false e k = rw (put-other states x.party s c e) k

  -- one step of the merge
  Steps : World B → Placed → List Placed → World B → Type 0
  Steps w x xs after =
      (next : World B) × IsReady plant w x.party × (happens plant w x.party (event_of x.entry) ≡ Some (next, x.entry)) × Follows plant next xs after

  -- in a quiet world no controller does anything
  at_rest : (w : World B) (c : ℕ) (e : Entry) (s : State B) (xs : List Placed) (after : World B)
      → Follows plant w (record { party = c; entry = e } ∷ xs) after
      → IsQuiet plant w → c < plant.controllers → Does plant c (w.controllers c) e s → ⊥
  unfolding turn post
  at_rest w c (entry.Start who state notes) s xs after inv quiet below h = h
  at_rest w c (entry.Fetch stamp m) s xs after inv quiet below h =
      let e = lane_front w c (entry.Fetch stamp m) m xs after inv stamp.0 refl in
      let f = quiet.lanes (lane m.from.0 c m.prio.0) in cc
  at_rest w c (entry.Turn stamp from sent did notes) s xs after inv quiet below h =
      go (w.controllers c).outbox (next_of (w.controllers c).pending) (quiet.outbox c below)
      (lowest-none (w.controllers c).pending (λ p. quiet.pending c p below) 0 6) h
    where
      go : (box : List Msg) (next : Option Taken) → box ≡ [] → next ≡ None
          → turn_with plant c (w.controllers c) box next ≡ Some (s, entry.Turn stamp from sent did notes) → ⊥
      go [] None p q k = cc
      go [] (Some t) p q k = cc
      go (y ∷ ys) next p q k = cc
  at_rest w c (entry.Post stamp m) s xs after inv quiet below h =
      go (w.controllers c).outbox (quiet.outbox c below) h
    where
      go : (box : List Msg) → box ≡ [] → post_front c (w.controllers c) box ≡ Some (s, entry.Post stamp m) → ⊥
      go [] p k = cc
      go (y ∷ ys) p k = cc

  -- the environment's rest while a controller moves
  goes_on : (w next : World B) (es : List Entry) (end : Environment) → next.environment ≡ w.environment
      → (begins plant w.environment.posted ≡ true → es ≡ [])
      → EnvironmentGoes plant w es end → EnvironmentGoes plant next es end
  goes_on w next [] end same h k = rw same k
  goes_on w next (e ∷ es) end same h k = go (begins plant w.environment.posted) refl
    where
      go : (b : Bool) → begins plant w.environment.posted ≡ b → EnvironmentReplays plant (caught_up plant next) (e ∷ es) end
      go true t = let no_more : e ∷ es ≡ [] = h t in absurd cc
      go false t =
          let n : begins plant next.environment.posted ≡ false = rw same t in
          let path : caught_up plant w ≡ caught_up plant next = caught_up-same plant w t ∙ sym same ∙ sym (caught_up-same plant next n) in
          subst (λ v. EnvironmentReplays plant v (e ∷ es) end) path k

  controller_step : (w : World B) (x : Placed) (xs : List Placed) (after : World B)
      → Follows plant w (x ∷ xs) after → x.party < plant.controllers → Steps w x xs after
  unfolding Steps
  controller_step w x xs after inv below =
      let own : Replays plant x.party (w.controllers x.party) (x.entry ∷ entries_of x.party xs) (after.controllers x.party) =
      rw (own_entries x.party x xs refl) at (inv.controllers x.party below) in
      let next : World B = record w { controllers = put w.controllers x.party own.0; lanes = lanes_after w x.party (event_of x.entry) x.entry } in
      let others : entries_of plant.controllers (x ∷ xs) ≡ entries_of plant.controllers xs = other_entries plant.controllers x xs (λ e. omega arith) in
      let still : begins plant w.environment.posted ≡ true → entries_of plant.controllers xs ≡ [] =
      λ b. ⊎_elim (λ e. sym others ∙ e) (λ q. absurd (at_rest w x.party x.entry own.0 xs after inv q below own.1)) (inv.quiet b) in (
        next,
        (λ e b. absurd (omega arith)),
        controller_happens w x.party x.entry own.0 below (controller_does-own w x.party x.entry own.0 xs after inv own.1),
        record {
          controllers = λ c h. states_step w.controllers own.0 (after.controllers c) x xs c
              (λ e. subst (λ p. Replays plant p own.0 (entries_of p xs) (after.controllers p)) (sym e) own.2) (inv.controllers c h);
          environment = goes_on w next (entries_of plant.controllers xs) after.environment refl still (rw others at inv.environment);
          nobody = λ c h. nobody_step c x xs (inv.nobody c h);
          lanes = λ l. shorter (takes l x.party x.entry) (all_taken l xs) (w.lanes l) (next.lanes l) (gives l x.party x.entry) (all_given l xs) (after.lanes l)
              (change w x.party x.entry xs after inv l) (inv.lanes l);
          quiet = λ b. inl (still b);
          one_part = rw others at inv.one_part;
          ordered = inv.ordered.1;
          stamped = inv.stamped.1;
        },
      )

  line_posts : (w : World B) (v : Environment) (e : Entry)
      → environment_post plant (caught_up plant w) ≡ Some (v, e) → environment_does plant w (event_of e) ≡ Some (v, e)
  unfolding environment_post
  line_posts w v (entry.Post stamp m) h = h
  line_posts w v (entry.Start who state notes) h = go (slice_get plant.lines (caught_up plant w).posted) h
    where
      go : (o : Option Line) → post_line plant.controllers (caught_up plant w) o ≡ Some (v, entry.Start who state notes) → ◌≡◌ {A = Option (Environment × Entry)} None (Some (v, entry.Start who state notes))
      go None k = k
      go (Some line) k = let e = same_entry k in cc
  line_posts w v (entry.Turn stamp from sent did notes) h = go (slice_get plant.lines (caught_up plant w).posted) h
    where
      go : (o : Option Line) → post_line plant.controllers (caught_up plant w) o ≡ Some (v, entry.Turn stamp from sent did notes) → ◌≡◌ {A = Option (Environment × Entry)} None (Some (v, entry.Turn stamp from sent did notes))
      go None k = k
      go (Some line) k = let e = same_entry k in cc
  line_posts w v (entry.Fetch stamp m) h = go (slice_get plant.lines (caught_up plant w).posted) h
    where
      go : (o : Option Line) → post_line plant.controllers (caught_up plant w) o ≡ Some (v, entry.Fetch stamp m) → ◌≡◌ {A = Option (Environment × Entry)} None (Some (v, entry.Fetch stamp m))
      go None k = k
      go (Some line) k = let e = same_entry k in cc

  -- after its first line the environment goes on in the same part
  goes_after : (next : World B) (es : List Entry) (end : Environment)
      → (0 < length es → begins plant next.environment.posted ≡ false)
      → EnvironmentReplays plant next.environment es end → EnvironmentGoes plant next es end
  goes_after next [] end h k = k
  goes_after next (e ∷ es) end h k =
      subst (λ v. EnvironmentReplays plant v (e ∷ es) end) (sym (caught_up-same plant next (h (omega arith)))) k

  environment_step : (w : World B) (x : Placed) (xs : List Placed) (after : World B)
      → Follows plant w (x ∷ xs) after → plant.controllers ≡ x.party → Steps w x xs after
  unfolding Steps
  environment_step w x xs after inv same =
      let mine : entries_of plant.controllers (x ∷ xs) ≡ x.entry ∷ entries_of plant.controllers xs = own_entries plant.controllers x xs same in
      let own : EnvironmentReplays plant (caught_up plant w) (x.entry ∷ entries_of plant.controllers xs) after.environment =
      rw mine at inv.environment in
      let next : World B = record w { environment = own.0; lanes = lanes_after w x.party (event_of x.entry) x.entry } in
      let more : own.0.posted ≡ w.environment.posted + 1 = line_posted plant (caught_up plant w) own.0 x.entry own.1 ∙ ap (λ k. k + 1) (caught_up-posted plant w) in
      let line : (k : ℕ) → w.environment.posted < k → k < w.environment.posted + length (x.entry ∷ entries_of plant.controllers xs) → begins plant k ≡ false =
      rw mine at inv.one_part in
      let later : 0 < length (entries_of plant.controllers xs) → begins plant own.0.posted ≡ false =
      λ h. line own.0.posted (omega arith) (omega arith) in (
        next,
        (λ e b. ⊎_elim (λ n. let no_more : x.entry ∷ entries_of plant.controllers xs ≡ [] = sym mine ∙ n in absurd cc) (λ q. q) (inv.quiet b)),
        subst (λ (p : ℕ). happens plant w p (event_of x.entry) ≡ Some (record w { environment = own.0; lanes = lanes_after w p (event_of x.entry) x.entry }, x.entry))
            same (environment_happens w x.entry own.0 (line_posts w own.0 x.entry own.1)),
        record {
          controllers = λ c h. rw (other_entries c x xs (λ e. omega arith)) at (inv.controllers c h);
          environment = goes_after next (entries_of plant.controllers xs) after.environment later own.2;
          nobody = λ c h. nobody_step c x xs (inv.nobody c h);
          lanes = λ l. shorter (takes l x.party x.entry) (all_taken l xs) (w.lanes l) (next.lanes l) (gives l x.party x.entry) (all_given l xs) (after.lanes l)
              (change w x.party x.entry xs after inv l) (inv.lanes l);
          quiet = λ b. inl (none_left (entries_of plant.controllers xs) (begins plant own.0.posted) later b);
          one_part = λ k a b. line k (omega arith) (omega arith);
          ordered = inv.ordered.1;
          stamped = inv.stamped.1;
        },
      )

  step : (w : World B) (x : Placed) (xs : List Placed) (after : World B) → Follows plant w (x ∷ xs) after → Steps w x xs after
  step w x xs after inv = go (cases_order x.party plant.controllers)
    where
      go : (x.party ≡ plant.controllers) ⊎ ((x.party < plant.controllers) ⊎ (plant.controllers < x.party)) → Steps w x xs after
      go (inl e) = environment_step w x xs after inv (sym e)
      go (inr (inl h)) = controller_step w x xs after inv h
      go (inr (inr h)) =
          let e : x.entry ∷ entries_of x.party xs ≡ [] = rw (own_entries x.party x xs refl) at (inv.nobody x.party h) in cc

  -- in a quiet world the environment goes first
  pub first_is_line : (w : World B) (x : Placed) (xs : List Placed) (after : World B) → Follows plant w (x ∷ xs) after → IsQuiet plant w → x.party ≡ plant.controllers
  first_is_line w x xs after inv quiet = go (cases_order x.party plant.controllers)
    where
      go : (x.party ≡ plant.controllers) ⊎ ((x.party < plant.controllers) ⊎ (plant.controllers < x.party)) → x.party ≡ plant.controllers
      go (inl e) = e
      go (inr (inl h)) =
          let own : Replays plant x.party (w.controllers x.party) (x.entry ∷ entries_of x.party xs) (after.controllers x.party) =
          rw (own_entries x.party x xs refl) at (inv.controllers x.party h) in
          absurd (at_rest w x.party x.entry own.0 xs after inv quiet h own.1)
      go (inr (inr h)) =
          let e : x.entry ∷ entries_of x.party xs ≡ [] = rw (own_entries x.party x xs refl) at (inv.nobody x.party h) in cc

  pub follows_runs : (w : World B) (xs : List Placed) (after : World B) → Follows plant w xs after
      → (end : World B) × Runs plant w xs end × IsSame plant end after
  unfolding Steps
  follows_runs w [] after inv = (
    w,
    refl,
    record {
      controllers = λ c h. sym (inv.controllers c h);
      environment = sym inv.environment;
      lanes = λ l. sym (append-nil (w.lanes l)) ∙ inv.lanes l;
    },
  )
  follows_runs w (x ∷ xs) after inv =
      let s : Steps w x xs after = step w x xs after inv in
      let r = follows_runs s.0 xs after s.3 in
      (r.0, (s.0, s.1, s.2, r.1), r.2)

  pub merge_follows : (w : World B) (journals : ℕ → List Entry) (after : World B) (merge : List Placed)
      → IsRound plant w journals after → IsMerge journals merge → Follows plant w merge after
  merge_follows w journals after merge fits is =
      record {
        controllers = λ c h. rw (is.whole c) (fits.controllers c h);
        environment = rw (is.whole plant.controllers) fits.environment;
        nobody = λ c h. is.whole c ∙ fits.nobody c h;
        lanes = λ l. rw (all_taken-of l merge, all_given-of l merge, is.whole l.receiver, is.whole l.sender) (fits.lanes l);
        quiet = rw (is.whole plant.controllers) fits.quiet;
        one_part = rw (is.whole plant.controllers) fits.one_part;
        ordered = is.ordered;
        stamped = all_stamped merge (λ c. rw (is.whole c) (stamped_of c (cases_order c plant.controllers)));
      }
    where
      stamped_of : (c : ℕ) → (c ≡ plant.controllers) ⊎ ((c < plant.controllers) ⊎ (plant.controllers < c)) → AllStamped (journals c)
      stamped_of c (inl e) = rw e (goes_stamped plant w (journals plant.controllers) after.environment fits.environment)
      stamped_of c (inr (inl h)) = replays_stamped plant c (w.controllers c) (journals c) (after.controllers c) (fits.controllers c h)
      stamped_of c (inr (inr h)) = rw (fits.nobody c h) tt

  -- the law: the merge of a round is a run
  pub merged_run : (w : World B) (journals : ℕ → List Entry) (after : World B) (merge : List Placed)
      → IsRound plant w journals after → IsMerge journals merge → (end : World B) × Runs plant w merge end × IsSame plant end after
  merged_run w journals after merge fits is = follows_runs w merge after (merge_follows w journals after merge fits is)
