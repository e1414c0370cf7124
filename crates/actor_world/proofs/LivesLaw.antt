-- Over every replay of a controller each incarnation lives once.
use Rattle.std.proofs.Common.{◌≡◌, ℕ, zero, suc, ◌+◌, ◌≤◌, ◌<◌, ◌==◌, Bool, true, false, ◌&&◌, if◌then◌else◌, List, [], ◌∷◌, ◌++◌, map, filter, length, Option, Some, None, refl, sym, ap, ◌∙◌, subst, eqb-true, arith, add_assoc, append-nil, append_assoc}
use Rattle.std.specs.List.{range_with_len}
use Rattle.std.proofs.lemmas.Bool.{and_parts}
use Rattle.std.proofs.lemmas.Bool.Decides.{nat_tests}
use Rattle.room_kinds.specs.declared.message.Msg.{Msg}
use Rattle.room_kinds.specs.declared.note.Note.{Note}
use Rattle.room_kinds.specs.declared.numbers.Incarnation.{Incarnation}
use Rattle.journal.specs.declared.entry.Entry.{Entry}
use Rattle.journal.specs.declared.entry.Entry.TheVariants as entry
use Rattle.room_wiring.specs.declared.tables.Tables.{Tables}
use Rattle.actor_merge.specs.Parties.{State, Line, Taken, next_of, fetch, turn, turn_with, turned, post, post_front, stamped, Does, Replays}
use Rattle.actor_duties.specs.Words.{updated, incarnation, is_own}
use Rattle.actor_duties.specs.Lives.{is_live}
use Rattle.actor_duties.specs.State.{Lives}
use Rattle.actor_world.specs.Behaviour.{Behaviour}
use Rattle.actor_world.specs.Body.{Body}
use Rattle.actor_world.specs.Turns.{doing, treat}
use Rattle.actor_world.specs.Start.{lives_from_start, first_lives, first_body, first_actors, Starting, started, all_started, starting, first_state, start_entries, plant_of}
use Rattle.actor_world.specs.Life.{IsModest, once, creates, destroys, created, destroyed, dispatched_to, LivesOnce, born, dead, born_in, dead_in, TellsLives}
use Rattle.actor_world.proofs.Slots.{own_in_range}
use Rattle.actor_world.proofs.Counts.{at_only, born_next, born_once, dead_after, born_last, dead_last, born_none, dead_none, times, passing, passing_hit, passing_miss}
use Rattle.actor_world.proofs.Notes.{apply_all_keeps}
use Rattle.actor_world.proofs.LifeSteps.{IsSound}
use Rattle.actor_world.proofs.TurnLives.{Turned, treat_turned}

pub created-append : (x : Incarnation) (a b : List Entry) → created x (a ++ b) ≡ created x a + created x b
created-append x [] b = omega arith
created-append x (e ∷ es) b = ap (λ k. creates x e + k) (created-append x es b) ∙ sym (add_assoc (creates x e) (created x es) (created x b))

pub destroyed-append : (x : Incarnation) (a b : List Entry) → destroyed x (a ++ b) ≡ destroyed x a + destroyed x b
destroyed-append x [] b = omega arith
destroyed-append x (e ∷ es) b = ap (λ k. destroys x e + k) (destroyed-append x es b) ∙ sym (add_assoc (destroys x e) (destroyed x es) (destroyed x b))

-- a start adds one actor
start_created : (x : Incarnation) (es : List Entry) (y : Incarnation) (state : ℕ) (ns : List Note) → created x (es ++ entry.Start y state ns ∷ []) ≡ created x es + once y x
start_created x es y state ns = let a = created-append x es (entry.Start y state ns ∷ []) in omega (arith, a)

start_destroyed : (x : Incarnation) (es : List Entry) (y : Incarnation) (state : ℕ) (ns : List Note) → destroyed x (es ++ entry.Start y state ns ∷ []) ≡ destroyed x es
start_destroyed x es y state ns = let a = destroyed-append x es (entry.Start y state ns ∷ []) in omega (arith, a)

-- the entries so far say how lives stand
pub record Told (t : Tables) (c : ℕ) (es : List Entry) (l : Lives) : Type 0 where
  pub sound : IsSound t c l
  pub created : (x : Incarnation) → created x es ≡ born_in l x
  pub destroyed : (x : Incarnation) → destroyed x es ≡ dead_in l x

-- an entry that says nothing of lives
told_same : (t : Tables) (c : ℕ) (es : List Entry) (e : Entry) (l next : Lives) → Told t c es l → next ≡ l
    → ((x : Incarnation) → creates x e ≡ 0) → ((x : Incarnation) → destroys x e ≡ 0) → Told t c (es ++ e ∷ []) next
told_same t c es e l next h same creates_none destroys_none =
    subst (Told t c (es ++ e ∷ [])) (sym same) (record {
      sound = h.sound;
      created = λ x. let a = created-append x es (e ∷ []) in let b = h.created x in let k = creates_none x in omega (arith, a, b, k);
      destroyed = λ x. let a = destroyed-append x es (e ∷ []) in let b = h.destroyed x in let k = destroys_none x in omega (arith, a, b, k);
    })

-- what an entry does to lives, and whom it may be dispatched to
pub record Step {M : Type 0} (t : Tables) (c : ℕ) (s next : State (Body M)) (e : Entry) : Type 0 where
  pub told : (es : List Entry) → Told t c es s.body.frame.lives → Told t c (es ++ e ∷ []) next.body.frame.lives
  pub dispatch : (x : Incarnation) → dispatched_to e ≡ Some x
      → (x.generation.0 ≡ s.body.frame.lives.generation x.slot.0) × (s.body.frame.lives.lives x.slot.0 ≡ true)

module _ {M : Type 0} (model : Behaviour M) (t : Tables) (lines : List Line) (c : ℕ) (modest : IsModest model) where
  turned_step : (s : State (Body M)) (k : Taken) → IsSound t c s.body.frame.lives
      → Step t c s (turned s k (treat model t c s.body k.message)).0 (turned s k (treat model t c s.body k.message)).1
  turned_step s k sound =
      let h : Turned model modest t c s.body (treat model t c s.body k.message) = treat_turned model modest t c s.body k.message sound in
      record {
        told = λ es r.
            record {
              sound = h.noted.sound;
              created = λ x.
                  let a = created-append x es ((turned s k (treat model t c s.body k.message)).1 ∷ []) in
                  let b = r.created x in let d = h.noted.born x in omega (arith, a, b, d);
              destroyed = λ x.
                  let a = destroyed-append x es ((turned s k (treat model t c s.body k.message)).1 ∷ []) in
                  let b = r.destroyed x in let d = h.noted.dead x in omega (arith, a, b, d);
            };
        dispatch = λ x e. h.dispatch x e;
      }

  mail_step : (s next : State (Body M)) (e : Entry) → next.body ≡ s.body → ((x : Incarnation) → creates x e ≡ 0) → ((x : Incarnation) → destroys x e ≡ 0)
      → dispatched_to e ≡ None → Step t c s next e
  mail_step s next e same a b d =
      record {
        told = λ es r. told_same t c es e s.body.frame.lives next.body.frame.lives r (ap (λ (z : Body M). z.frame.lives) same) a b;
        dispatch = λ x f. absurd cc;
      }

  does_step : (s next : State (Body M)) (e : Entry) → IsSound t c s.body.frame.lives → Does (plant_of model t lines) c s e next → Step t c s next e
  unfolding fetch turn post
  does_step s next (entry.Start who state notes) sound h = absurd h
  does_step s next (entry.Fetch stamp m) sound h =
      mail_step s next (entry.Fetch stamp m) (sym (ap (λ (z : State (Body M) × Entry). z.0.body) h)) (λ x. refl) (λ x. refl) refl
  does_step s next (entry.Post stamp m) sound h = mail_step s next (entry.Post stamp m) (go s.outbox h) (λ x. refl) (λ x. refl) refl
    where
      go : (box : List Msg) → post_front c s box ≡ Some (next, entry.Post stamp m) → next.body ≡ s.body
      go [] k = absurd cc
      go (x ∷ xs) k =
          let r : State (Body M) × Entry = (record s { clock = s.clock + 1; outbox = xs }, entry.Post (record { 0 = s.clock + 1 }) (stamped c (s.clock + 1) x)) in
          let q : State (Body M) × Entry = (next, entry.Post stamp m) in
          let e : r ≡ q = cc in sym (ap (λ (z : State (Body M) × Entry). z.0.body) e)
  does_step s next (entry.Turn stamp from sent did notes) sound h = go s.outbox (next_of s.pending) h
    where
      go : (box : List Msg) (o : Option Taken) → turn_with (plant_of model t lines) c s box o ≡ Some (next, entry.Turn stamp from sent did notes)
          → Step t c s next (entry.Turn stamp from sent did notes)
      go [] None k = absurd cc
      go (x ∷ xs) o k = absurd cc
      go [] (Some taken) k =
          let r : State (Body M) × Entry = turned s taken (treat model t c s.body taken.message) in
          let q : State (Body M) × Entry = (next, entry.Turn stamp from sent did notes) in
          let e : r ≡ q = cc in subst (λ (z : State (Body M) × Entry). Step t c s z.0 z.1) e (turned_step s taken sound)

  -- over a whole replay
  pub replay_told : (es : List Entry) (s end : State (Body M)) (so_far : List Entry) → Told t c so_far s.body.frame.lives
      → Replays (plant_of model t lines) c s es end → Told t c (so_far ++ es) end.body.frame.lives
  replay_told [] s end so_far h r = rw (append-nil so_far) (subst (λ (z : State (Body M)). Told t c so_far z.body.frame.lives) (sym r) h)
  replay_told (e ∷ es) s end so_far h r =
      let step : Step t c s r.0 e = does_step s r.0 e h.sound r.1 in
      let rest : Told t c ((so_far ++ e ∷ []) ++ es) end.body.frame.lives = replay_told es r.0 end (so_far ++ e ∷ []) (step.told so_far h) r.2 in
      subst (λ z. Told t c z end.body.frame.lives) (append_assoc so_far (e ∷ []) es) rest

  -- the state before an entry of a replay
  split : (a : List Entry) (e : Entry) (b : List Entry) (s end : State (Body M)) → Replays (plant_of model t lines) c s (a ++ e ∷ b) end
      → (mid : State (Body M)) × (next : State (Body M)) × Replays (plant_of model t lines) c s a mid × Does (plant_of model t lines) c mid e next
  split [] e b s end r = (s, r.0, refl, r.1)
  split (x ∷ a) e b s end r =
      let q = split a e b r.0 end r.2 in (q.0, q.1, (r.0, r.1, q.2), q.3)

  -- the start tells of lives what its entries say
  started_keeps : (s : Starting M) (x : Incarnation) → (started model t c s x).doing.body.frame.lives ≡ s.doing.body.frame.lives
  started_keeps s x = (apply_all_keeps t c x None (model.begin x).commands (record s.doing {
    body = record s.doing.body { machines = updated s.doing.body.machines x.slot.0 (Some (model.begin x).machine) };
    notes = (model.begin x).notes;
    kept = false;
  })).lives

  started_created : (s : Starting M) (y x : Incarnation) → created x (started model t c s y).entries ≡ created x s.entries + once y x
  started_created s y x = start_created x s.entries y (model.state (model.begin y).machine) (started model t c s y).doing.notes

  started_destroyed : (s : Starting M) (y x : Incarnation) → destroyed x (started model t c s y).entries ≡ destroyed x s.entries
  started_destroyed s y x = start_destroyed x s.entries y (model.state (model.begin y).machine) (started model t c s y).doing.notes

  pub all_started_keeps : (xs : List Incarnation) (s : Starting M)
      → ((all_started model t c xs s).doing.body.frame.lives ≡ s.doing.body.frame.lives)
      × ((x : Incarnation) → created x (all_started model t c xs s).entries ≡ created x s.entries + times x xs)
      × ((x : Incarnation) → destroyed x (all_started model t c xs s).entries ≡ destroyed x s.entries)
  all_started_keeps [] s = (refl, (λ x. omega arith), (λ x. refl))
  all_started_keeps (y ∷ ys) s =
      let r = all_started_keeps ys (started model t c s y) in (
        r.0 ∙ started_keeps s y,
        (λ x. let a = r.1 x in let b = started_created s y x in omega (arith, a, b)),
        (λ x. r.2 x ∙ started_destroyed s y x),
      )

  first_sound : IsSound t c (first_lives t c)
  first_sound =
      record {
        own = λ s some. owned s (is_own t c s) refl some;
        created = λ s live. rw live (omega arith);
      }
    where
      owned : (s : ℕ) (b : Bool) → is_own t c s ≡ b → 1 ≤ (if is_own t c s && lives_from_start t s then 1 else 0) → is_own t c s ≡ true
      owned s true e some = e
      owned s false e some = let none : 1 ≤ 0 = rw e at some in absurd (omega arith)

  pub first_told : Told t c (start_entries model t c) (first_state model t c).body.frame.lives
  unfolding starting first_actors
  first_told =
      let begin : Starting M = record { doing = doing (first_body t c); entries = [] } in
      let k = all_started_keeps (map (λ s. incarnation s 1) (filter (λ s. is_own t c s && lives_from_start t s) (range_with_len 0 (length t.slots)))) begin in
      subst (Told t c (start_entries model t c)) (sym k.0) (record {
        sound = first_sound;
        created = λ x. k.1 x ∙ count x (lives x.slot.0) refl;
        destroyed = λ x. k.2 x ∙ none x (lives x.slot.0) refl;
      })
    where
      lives : ℕ → Bool
      lives s = is_own t c s && lives_from_start t s

      count : (x : Incarnation) (b : Bool) → (is_own t c x.slot.0 && lives_from_start t x.slot.0) ≡ b
          → 0 + times x (map (λ s. incarnation s 1) (filter (λ s. is_own t c s && lives_from_start t s) (range_with_len 0 (length t.slots))))
          ≡ born x.generation.0 (if is_own t c x.slot.0 && lives_from_start t x.slot.0 then 1 else 0)
      count x true e =
          let there : x.slot.0 < length t.slots = own_in_range t c x.slot.0 (and_parts (is_own t c x.slot.0) (lives_from_start t x.slot.0) e).0 in
          let h = passing_hit (λ s. is_own t c s && lives_from_start t s) (λ s. 1) x 0 (length t.slots) (omega arith) (omega arith) in
          let k : times x (passing (λ s. is_own t c s && lives_from_start t s) (λ s. 1) (range_with_len 0 (length t.slots))) ≡ at_only x.generation.0 1 = rw e at h in
          let n = born_next x.generation.0 0 in
          let z : born x.generation.0 0 ≡ 0 = grind (arith, nat_tests) in
          rw e (omega (arith, k, n, z))
      count x false e =
          let k : times x (passing (λ s. is_own t c s && lives_from_start t s) (λ s. 1) (range_with_len 0 (length t.slots))) ≡ 0 =
          passing_miss (λ s. is_own t c s && lives_from_start t s) (λ s. 1) x e (range_with_len 0 (length t.slots)) in
          let z : born x.generation.0 0 ≡ 0 = grind (arith, nat_tests) in
          rw e (omega (arith, k, z))

      none : (x : Incarnation) (b : Bool) → (is_own t c x.slot.0 && lives_from_start t x.slot.0) ≡ b
          → 0 ≡ dead x.generation.0 (if is_own t c x.slot.0 && lives_from_start t x.slot.0 then 1 else 0) (is_own t c x.slot.0 && lives_from_start t x.slot.0)
      none x true e = rw e (grind (arith, nat_tests))
      none x false e = rw e (grind (arith, nat_tests))

  lives_once : (x : Incarnation) (es : List Entry) (l : Lives) → Told t c es l → LivesOnce x es
  lives_once x es l h =
      let a = h.created x in let b = h.destroyed x in
      let p = born_once x.generation.0 (l.generation x.slot.0) in
      let q = dead_after x.generation.0 (l.generation x.slot.0) (l.lives x.slot.0) in
      record { once_created = omega (arith, a, p); once_destroyed = omega (arith, a, b, q) }

  -- what stands in a slot was created, and hasn't ended
  stands : (x : Incarnation) (es : List Entry) (l : Lives) → Told t c es l → x.generation.0 ≡ l.generation x.slot.0 → l.lives x.slot.0 ≡ true
      → (created x es ≡ 1) × (destroyed x es ≡ 0)
  stands x es l h g live =
      let some : 1 ≤ l.generation x.slot.0 = h.sound.created x.slot.0 live in
      let b : born (l.generation x.slot.0) (l.generation x.slot.0) ≡ 1 = born_last (l.generation x.slot.0) some in
      let d : dead (l.generation x.slot.0) (l.generation x.slot.0) true ≡ 0 = dead_last (l.generation x.slot.0) in (
        h.created x ∙ subst (λ k. born k (l.generation x.slot.0) ≡ 1) (sym g) b,
        h.destroyed x ∙ subst (λ k. dead k (l.generation x.slot.0) (l.lives x.slot.0) ≡ 0) (sym g)
            (subst (λ k. dead (l.generation x.slot.0) (l.generation x.slot.0) k ≡ 0) (sym live) d),
      )

  -- the entries so far tell lives
  tells : (x : Incarnation) (es : List Entry) (l : Lives) → Told t c es l → TellsLives t c l x es
  tells x es l h =
      record {
        once_created = h.created x;
        once_destroyed = h.destroyed x;
        living = λ live.
            let parts = and_parts (l.lives x.slot.0) (l.generation x.slot.0 == x.generation.0) live in
            stands x es l h (sym (eqb-true (l.generation x.slot.0) x.generation.0 parts.1)) parts.0;
        elsewhere = λ other. away (l.generation x.slot.0) refl other;
      }
    where
      away : (n : ℕ) → l.generation x.slot.0 ≡ n → is_own t c x.slot.0 ≡ false → (created x es ≡ 0) × (destroyed x es ≡ 0)
      away zero e other = (
        h.created x ∙ ap (λ k. born x.generation.0 k) e ∙ born_none x.generation.0,
        h.destroyed x ∙ ap (λ k. dead x.generation.0 k (l.lives x.slot.0)) e ∙ dead_none x.generation.0 (l.lives x.slot.0),
      )
      away (suc n) e other =
          let some : 1 ≤ l.generation x.slot.0 = omega arith in
          let own : is_own t c x.slot.0 ≡ true = h.sound.own x.slot.0 some in absurd cc

  pub tells_each : (es : List Entry) (s : State (Body M)) → Replays (plant_of model t lines) c (first_state model t c) es s
      → (x : Incarnation) → TellsLives t c s.body.frame.lives x (start_entries model t c ++ es)
  tells_each es s r x =
      tells x (start_entries model t c ++ es) s.body.frame.lives (replay_told es (first_state model t c) s (start_entries model t c) first_told r)

  pub once_each : (before : List Entry) (s : State (Body M)) → Replays (plant_of model t lines) c (first_state model t c) before s
      → ((x : Incarnation) → LivesOnce x (start_entries model t c ++ before))
      × ((e : Entry) (after : List Entry) (end : State (Body M)) (x : Incarnation)
      → Replays (plant_of model t lines) c (first_state model t c) (before ++ e ∷ after) end → dispatched_to e ≡ Some x
      → (created x (start_entries model t c ++ before) ≡ 1) × (destroyed x (start_entries model t c ++ before) ≡ 0))
  once_each before s r = (
    (λ x. lives_once x (start_entries model t c ++ before) s.body.frame.lives (replay_told before (first_state model t c) s (start_entries model t c) first_told r)),
    (λ e after end x q d.
        let p = split before e after (first_state model t c) end q in
        let h : Told t c (start_entries model t c ++ before) p.0.body.frame.lives = replay_told before (first_state model t c) p.0 (start_entries model t c) first_told p.2 in
        let step : Step t c p.0 p.1 e = does_step p.0 p.1 e h.sound p.3 in
        let to = step.dispatch x d in
        stands x (start_entries model t c ++ before) p.0.body.frame.lives h to.0 to.1),
  )
