-- Over every replay of a controller what it has fetched adds up.
use Rattle.std.proofs.Common.{◌≡◌, ℕ, zero, suc, ◌+◌, ◌==◌, Bool, true, false, cond, if◌then◌else◌, List, [], ◌∷◌, ◌++◌, filter, Option, Some, None, refl, sym, ap, ◌∙◌, subst, eqb-true, arith, ◌⊎◌, inl, inr}
use Rattle.std.specs.List.{AllByRecursion}
use Rattle.std.proofs.lemmas.Bool.{cases_eq, ne_eqb}
use Rattle.room_kinds.specs.declared.message.Msg.{Msg}
use Rattle.room_kinds.specs.declared.numbers.Incarnation.{Incarnation}
use Rattle.journal.specs.declared.entry.Entry.{Entry}
use Rattle.journal.specs.declared.entry.Entry.TheVariants as entry
use Rattle.room_wiring.specs.declared.tables.Tables.{Tables}
use Rattle.actor_merge.specs.Parties.{State, Line, Taken, Treated, put, fetch, front_or, lowest, next_of, put_back, turn, turn_with, turned, post, post_front, stamped, Does, Replays}
use Rattle.actor_merge.proofs.Lanes.{put-same, put-other}
use Rattle.actor_duties.specs.Words.{updated, slots_of}
use Rattle.actor_world.specs.Behaviour.{Behaviour}
use Rattle.actor_world.specs.Body.{Body, Doing}
use Rattle.actor_world.specs.Turns.{doing, treat}
use Rattle.actor_world.specs.Start.{first_body, first_actors, Starting, started, all_started, starting, first_state, plant_of}
use Rattle.actor_world.specs.Life.{IsModest}
use Rattle.actor_world.proofs.LifeSteps.{IsSound}
use Rattle.actor_world.proofs.TurnLives.{Turned, treat_turned}
use Rattle.actor_world.proofs.LivesLaw.{first_told}
use Rattle.actor_world.specs.world_laws.Counting.{count, of_priority}
use Rattle.actor_world.specs.world_laws.Whereabouts.{fetches, fetched, kept, finished, lost, done_by, state_or, state_after, done_with, TellsDefers, AddsUp}
use Rattle.actor_world.proofs.world_laws.Sums.{total_same, total_zero, count-append, count_flat, count_priority}
use Rattle.actor_world.proofs.world_laws.Keeping.{Same, apply_all_none}
use Rattle.actor_world.proofs.world_laws.Turning.{HasNone, held, lost_held, rid, Accounted, treat_accounted}

-- messages of one priority
abbrev pub Ranked : ℕ → List Msg → Type 0
Ranked p ms = AllByRecursion (λ (m : Msg). m.prio.0 ≡ p) ms

ranked_append : (p : ℕ) (a b : List Msg) → Ranked p a → Ranked p b → Ranked p (a ++ b)
ranked_append p [] b h k = k
ranked_append p (m ∷ a) b h k = (h.0, ranked_append p a b h.1 k)

ranked_filter : (p : ℕ) (ms : List Msg) → Ranked p (filter (λ (m : Msg). m.prio.0 == p) ms)
ranked_filter p [] = tt
ranked_filter p (m ∷ ms) = go (m.prio.0 == p) refl (ranked_filter p ms)
  where
    go : (b : Bool) → (m.prio.0 == p) ≡ b → Ranked p (filter (λ (m : Msg). m.prio.0 == p) ms)
        → Ranked p (cond b (m ∷ filter (λ (m : Msg). m.prio.0 == p) ms) (filter (λ (m : Msg). m.prio.0 == p) ms))
    go true e ih = (eqb-true m.prio.0 p e, ih)
    go false e ih = ih

-- a message of another priority does not count
other_priority : (p : ℕ) (which : Msg → Bool) (m : Msg) → (p ≡ m.prio.0 → ⊥) → count (of_priority p which) (m ∷ []) ≡ 0
other_priority p which m n = rw (ne_eqb m.prio.0 p (λ e. n (sym e))) refl

-- the message whose turn it is stands in front of its list
lowest_front : (pending : ℕ → List Msg) (at n : ℕ) (k : Taken) → lowest pending at n ≡ Some k → pending k.priority ≡ k.message ∷ k.rest
unfolding lowest
lowest_front pending at zero k h = absurd cc
lowest_front pending at (suc n) k h = go (pending at) refl h (lowest_front pending (at + 1) n k)
  where
    go : (ms : List Msg) → pending at ≡ ms → front_or at ms (lowest pending (at + 1) n) ≡ Some k
        → (lowest pending (at + 1) n ≡ Some k → pending k.priority ≡ k.message ∷ k.rest) → pending k.priority ≡ k.message ∷ k.rest
    go [] e f ih = ih f
    go (m ∷ ms) e f ih =
        let taken : Taken = record { priority = at; message = m; rest = ms } in
        let same : taken ≡ k = cc in
        subst (λ (z : Taken). pending z.priority ≡ z.message ∷ z.rest) same e

next_front : (pending : ℕ → List Msg) (k : Taken) → next_of pending ≡ Some k → pending k.priority ≡ k.message ∷ k.rest
next_front pending k h = lowest_front pending 0 6 k h

-- a controller's state as it can be
pub record IsOrdered {M : Type 0} (t : Tables) (c : ℕ) (s : State (Body M)) : Type 0 where
  pub sound : IsSound t c s.body.frame.lives
  pub none : HasNone s.body
  pub ranked : (p : ℕ) → Ranked p (s.pending p)

-- of whatever messages of a priority one counts: how many wait or are kept
abbrev pub there : {M : Type 0} → (Msg → Bool) → ℕ → Tables → State (Body M) → ℕ
there which p t s = count (of_priority p which) (s.pending p) + held (of_priority p which) t s.body

-- what an entry fetches and what was there is what is there then and what the entry is done with
pub record Step {M : Type 0} (t : Tables) (c : ℕ) (s next : State (Body M)) (e : Entry) : Type 0 where
  pub ordered : IsOrdered t c next
  pub counts : (which : Msg → Bool) (p : ℕ)
      → count (of_priority p which) (fetches e) + there which p t s ≡ there which p t next + count (of_priority p which) (done_by t s e)

module _ {M : Type 0} (model : Behaviour M) (t : Tables) (lines : List Line) (c : ℕ) (modest : IsModest model) (tells : TellsDefers model) where
  turned_step : (s : State (Body M)) (k : Taken) → next_of s.pending ≡ Some k → IsOrdered t c s
      → Step t c s (turned s k (treat model t c s.body k.message)).0 (turned s k (treat model t c s.body k.message)).1
  unfolding put_back
  turned_step s k front h =
      let r : Treated (Body M) = treat model t c s.body k.message in
      let a : Accounted t s.body k.message r = treat_accounted model modest tells t c s.body k.message h.none h.sound in
      let z : Turned model modest t c s.body r = treat_turned model modest t c s.body k.message h.sound in
      let before : s.pending k.priority ≡ k.message ∷ k.rest = next_front s.pending k front in
      let whole : Ranked k.priority (k.message ∷ k.rest) = subst (Ranked k.priority) before (h.ranked k.priority) in
      record {
        ordered = record {
          sound = z.noted.sound;
          none = a.none;
          ranked = λ p. ranked_append p (filter (λ (m : Msg). m.prio.0 == p) r.back) (put s.pending k.priority k.rest p) (ranked_filter p r.back) (rest p whole (cases_eq p k.priority));
        };
        counts = λ which p.
            let w : Msg → Bool = of_priority p which in
            let x = count-append w (filter (λ (m : Msg). m.prio.0 == p) r.back) (put s.pending k.priority k.rest p) in
            let y = count_priority p which r.back in
            let q = taken_out which p before whole.0 (cases_eq p k.priority) in
            let b = a.counts w in
            let d = done_count w front in
            omega (arith, x, y, q, b, d);
      }
    where
      rest : (p : ℕ) → Ranked k.priority (k.message ∷ k.rest) → (p ≡ k.priority) ⊎ (p ≡ k.priority → ⊥) → Ranked p (put s.pending k.priority k.rest p)
      rest p whole (inl e) =
          subst (λ n. Ranked n (put s.pending k.priority k.rest n)) (sym e) (subst (Ranked k.priority) (sym (put-same s.pending k.priority k.rest)) whole.1)
      rest p whole (inr n) = subst (Ranked p) (sym (put-other s.pending k.priority k.rest p (ne_eqb p k.priority n))) (h.ranked p)

      -- the list that the message is taken out of has one less
      taken_out : (which : Msg → Bool) (p : ℕ) → s.pending k.priority ≡ k.message ∷ k.rest → k.message.prio.0 ≡ k.priority
          → (p ≡ k.priority) ⊎ (p ≡ k.priority → ⊥)
          → count (of_priority p which) (put s.pending k.priority k.rest p) + count (of_priority p which) (k.message ∷ []) ≡ count (of_priority p which) (s.pending p)
      taken_out which p before is (inl e) =
          let x : put s.pending k.priority k.rest p ≡ k.rest = ap (put s.pending k.priority k.rest) e ∙ put-same s.pending k.priority k.rest in
          let y : s.pending p ≡ k.message ∷ k.rest = ap s.pending e ∙ before in
          rw (x, y) (omega arith)
      taken_out which p before is (inr n) =
          let x : put s.pending k.priority k.rest p ≡ s.pending p = put-other s.pending k.priority k.rest p (ne_eqb p k.priority n) in
          let z = other_priority p which k.message (λ e. n (e ∙ is)) in
          rw x (omega (arith, z))

      done_count : (w : Msg → Bool) → next_of s.pending ≡ Some k
          → count w (done_by t s (turned s k (treat model t c s.body k.message)).1)
          ≡ count w (rid (treat model t c s.body k.message).did k.message) + lost_held w t s.body (treat model t c s.body k.message).notes
      done_count w f =
          let r : Treated (Body M) = treat model t c s.body k.message in
          let x = count-append w (finished r.did (next_of s.pending)) (lost t s.body (turned s k r).1) in
          let y : count w (lost t s.body (turned s k r).1) ≡ lost_held w t s.body r.notes = count_flat w s.body.deferred _ (slots_of t) in
          let z : count w (finished r.did (next_of s.pending)) ≡ count w (rid r.did k.message) = ap (λ o. count w (finished r.did o)) f in
          omega (arith, x, y, z)

  fetch_step : (s : State (Body M)) (m : Msg) → IsOrdered t c s → Step t c s (fetch s m).0 (fetch s m).1
  unfolding fetch
  fetch_step s m h =
      record {
        ordered = record {
          sound = h.sound;
          none = h.none;
          ranked = λ p. ranks p (cases_eq p m.prio.0);
        };
        counts = λ which p. counts which p (cases_eq p m.prio.0);
      }
    where
      more : ℕ → List Msg
      more = put s.pending m.prio.0 (s.pending m.prio.0 ++ m ∷ [])

      ranks : (p : ℕ) → (p ≡ m.prio.0) ⊎ (p ≡ m.prio.0 → ⊥) → Ranked p (put s.pending m.prio.0 (s.pending m.prio.0 ++ m ∷ []) p)
      ranks p (inl e) =
          subst (λ n. Ranked n (put s.pending m.prio.0 (s.pending m.prio.0 ++ m ∷ []) n)) (sym e)
          (subst (Ranked m.prio.0) (sym (put-same s.pending m.prio.0 (s.pending m.prio.0 ++ m ∷ [])))
          (ranked_append m.prio.0 (s.pending m.prio.0) (m ∷ []) (h.ranked m.prio.0) (refl, tt)))
      ranks p (inr n) = subst (Ranked p) (sym (put-other s.pending m.prio.0 (s.pending m.prio.0 ++ m ∷ []) p (ne_eqb p m.prio.0 n))) (h.ranked p)

      counts : (which : Msg → Bool) (p : ℕ) → (p ≡ m.prio.0) ⊎ (p ≡ m.prio.0 → ⊥)
          → count (of_priority p which) (m ∷ []) + there which p t s
          ≡ (count (of_priority p which) (put s.pending m.prio.0 (s.pending m.prio.0 ++ m ∷ []) p) + held (of_priority p which) t s.body) + 0
      counts which p (inl e) =
          let x : put s.pending m.prio.0 (s.pending m.prio.0 ++ m ∷ []) p ≡ s.pending p ++ m ∷ [] =
          ap (put s.pending m.prio.0 (s.pending m.prio.0 ++ m ∷ [])) e ∙ put-same s.pending m.prio.0 (s.pending m.prio.0 ++ m ∷ [])
          ∙ ap (λ (n : ℕ). s.pending n ++ m ∷ []) (sym e) in
          let y = count-append (of_priority p which) (s.pending p) (m ∷ []) in
          rw x (omega (arith, y))
      counts which p (inr n) =
          let x : put s.pending m.prio.0 (s.pending m.prio.0 ++ m ∷ []) p ≡ s.pending p = put-other s.pending m.prio.0 (s.pending m.prio.0 ++ m ∷ []) p (ne_eqb p m.prio.0 n) in
          let z = other_priority p which m n in
          rw x (omega (arith, z))

  -- an event that leaves body and pending lists alone
  still_step : (s next : State (Body M)) (e : Entry) → next.body ≡ s.body → next.pending ≡ s.pending → fetches e ≡ [] → done_by t s e ≡ []
      → IsOrdered t c s → Step t c s next e
  still_step s next e body pending none done h =
      record {
        ordered = record {
          sound = subst (λ (b : Body M). IsSound t c b.frame.lives) (sym body) h.sound;
          none = subst (λ (b : Body M). HasNone b) (sym body) h.none;
          ranked = λ p. subst (λ (z : ℕ → List Msg). Ranked p (z p)) (sym pending) (h.ranked p);
        };
        counts = λ which p. rw (body, pending, none, done) (omega arith);
      }

  -- one entry of a replay, and the state that it leads to
  pub does_step : (s next : State (Body M)) (e : Entry) → IsOrdered t c s → Does (plant_of model t lines) c s e next
      → (state_after (plant_of model t lines) c s e ≡ next) × Step t c s next e
  unfolding fetch turn post
  does_step s next (entry.Start who state notes) h d = absurd d
  does_step s next (entry.Fetch stamp m) h d = (ap (λ (z : State (Body M) × Entry). z.0) d, subst (λ (z : State (Body M) × Entry). Step t c s z.0 z.1) d (fetch_step s m h))
  does_step s next (entry.Post stamp m) h d = (ap (state_or s) d, go s.outbox d)
    where
      go : (box : List Msg) → post_front c s box ≡ Some (next, entry.Post stamp m) → Step t c s next (entry.Post stamp m)
      go [] k = absurd cc
      go (x ∷ xs) k =
          let r : State (Body M) × Entry = (record s { clock = s.clock + 1; outbox = xs }, entry.Post (record { 0 = s.clock + 1 }) (stamped c (s.clock + 1) x)) in
          let q : State (Body M) × Entry = (next, entry.Post stamp m) in
          let e : r ≡ q = cc in
          still_step s next (entry.Post stamp m) (sym (ap (λ (z : State (Body M) × Entry). z.0.body) e)) (sym (ap (λ (z : State (Body M) × Entry). z.0.pending) e)) refl refl h
  does_step s next (entry.Turn stamp from sent did notes) h d = (ap (state_or s) d, go s.outbox (next_of s.pending) refl d)
    where
      go : (box : List Msg) (o : Option Taken) → next_of s.pending ≡ o → turn_with (plant_of model t lines) c s box o ≡ Some (next, entry.Turn stamp from sent did notes)
          → Step t c s next (entry.Turn stamp from sent did notes)
      go [] None f k = absurd cc
      go (x ∷ xs) o f k = absurd cc
      go [] (Some taken) f k =
          let r : State (Body M) × Entry = turned s taken (treat model t c s.body taken.message) in
          let q : State (Body M) × Entry = (next, entry.Turn stamp from sent did notes) in
          let e : r ≡ q = cc in subst (λ (z : State (Body M) × Entry). Step t c s z.0 z.1) e (turned_step s taken f h)

  -- over a whole replay
  pub replay_adds : (es : List Entry) (s end : State (Body M)) → IsOrdered t c s → Replays (plant_of model t lines) c s es end
      → IsOrdered t c end
      × ((which : Msg → Bool) (p : ℕ)
      → count (of_priority p which) (fetched es) + there which p t s
      ≡ there which p t end + count (of_priority p which) (done_with (plant_of model t lines) t c s es))
  replay_adds [] s end h r = (subst (IsOrdered t c) (sym r) h, λ which p. rw r (omega arith))
  replay_adds (e ∷ es) s end h r =
      let one = does_step s r.0 e h r.1 in
      let step : Step t c s r.0 e = one.1 in
      let rest = replay_adds es r.0 end step.ordered r.2 in (
        rest.0,
        (λ which p.
            let w : Msg → Bool = of_priority p which in
            let a = step.counts which p in
            let b = rest.1 which p in
            let x = count-append w (fetches e) (fetched es) in
            let y = count-append w (done_by t s e) (done_with (plant_of model t lines) t c (state_after (plant_of model t lines) c s e) es) in
            let z : count w (done_with (plant_of model t lines) t c (state_after (plant_of model t lines) c s e) es) ≡ count w (done_with (plant_of model t lines) t c r.0 es) =
            ap (λ (q : State (Body M)). count w (done_with (plant_of model t lines) t c q es)) one.0 in
            omega (arith, a, b, x, y, z)),
      )

  -- at the start nothing is kept
  all_started_none : (xs : List Incarnation) (s : Starting M) → ((n : ℕ) → s.doing.body.deferred n ≡ []) → (n : ℕ) → (all_started model t c xs s).doing.body.deferred n ≡ []
  all_started_none [] s h n = h n
  all_started_none (x ∷ xs) s h n =
      let new = model.begin x in
      let before : Doing M = record s.doing {
        body = record s.doing.body { machines = updated s.doing.body.machines x.slot.0 (Some new.machine) };
        notes = new.notes;
        kept = false;
      } in
      let k : Same before (started model t c s x).doing = apply_all_none t c x new.commands before (h x.slot.0) in
      all_started_none xs (started model t c s x) (λ m. k.deferred m ∙ h m) n

  pub first_none : (n : ℕ) → (first_state model t c).body.deferred n ≡ []
  unfolding starting
  first_none n = all_started_none (first_actors t c) (record { doing = doing (first_body t c); entries = [] }) (λ m. refl) n

  pub first_ordered : IsOrdered t c (first_state model t c)
  first_ordered = record {
    sound = (first_told model t lines c modest).sound;
    none = λ s h. first_none s;
    ranked = λ p. tt;
  }

  -- the deferred lists of the slots that live are those of all slots
  pub kept_held : (w : Msg → Bool) (b : Body M) → HasNone b → count w (kept t b) ≡ held w t b
  kept_held w b none =
      count_flat w b.deferred b.frame.lives.lives (slots_of t) ∙ total_same _ _ (λ s. go s (b.frame.lives.lives s) refl) (slots_of t)
    where
      go : (s : ℕ) (l : Bool) → b.frame.lives.lives s ≡ l → (if b.frame.lives.lives s then count w (b.deferred s) else 0) ≡ count w (b.deferred s)
      go s true e = rw e refl
      go s false e = rw (e, none s e) refl

  first_there : (which : Msg → Bool) (p : ℕ) → there which p t (first_state model t c) ≡ 0
  first_there which p =
      let z : held (of_priority p which) t (first_state model t c).body ≡ 0 = total_zero _ (λ s. ap (count (of_priority p which)) (first_none s)) (slots_of t) in
      omega (arith, z)

  pub adds_up : (es : List Entry) (end : State (Body M)) → Replays (plant_of model t lines) c (first_state model t c) es end
      → AddsUp t (fetched es) end (done_with (plant_of model t lines) t c (first_state model t c) es)
  adds_up es end r =
      let all = replay_adds es (first_state model t c) end first_ordered r in
      record {
        counts = λ which p.
            let a = all.1 which p in
            let z = first_there which p in
            let k = kept_held (of_priority p which) end.body all.0.none in omega (arith, a, z, k);
        ranked = all.0.ranked;
        empty = all.0.none;
      }
