-- Over every run of the world, all that is told of lives was so.
use Rattle.std.proofs.Common.{◌≡◌, ℕ, zero, suc, ◌+◌, ◌≤◌, ◌==◌, Bool, true, false, if◌then◌else◌, List, [], ◌∷◌, ◌++◌, drop, filter, length, slice_get, Option, Some, None, refl, sym, ap, ◌∙◌, subst, eqb-true, arith}
use Rattle.std.proofs.lemmas.Bool.Decides.{nat_tests}
use Rattle.room_kinds.specs.declared.message.Msg.{Msg}
use Rattle.room_kinds.specs.declared.numbers.Incarnation.{Incarnation}
use Rattle.room_kinds.specs.declared.numbers.Stamp.{Stamp}
use Rattle.journal.specs.declared.entry.Entry.{Entry}
use Rattle.journal.specs.declared.entry.Entry.TheVariants as entry
use Rattle.room_wiring.specs.declared.tables.Tables.{Tables}
use Rattle.actor_merge.specs.Mail.{Lane, lane, is_lane, event_of}
use Rattle.actor_merge.specs.Parties.{State, Environment, Line, Taken, put, front_or, lowest, next_of, put_back, fetch, turn, turn_with, turned, post, post_front, post_line, stamped, environment_post, Does}
use Rattle.actor_merge.specs.World.{World, Placed, put_lane, caught_up, controller_does, environment_does, lanes_after, Runs}
use Rattle.actor_merge.proofs.Back.{Happened, controller, environment, happened, own_of, fetch_front_from}
use Rattle.actor_merge.proofs.Steps.{same_entry}
use Rattle.actor_merge.proofs.Lanes.{put-same}
use Rattle.actor_duties.specs.Words.{incarnation, owner_of}
use Rattle.actor_duties.specs.State.{Lives}
use Rattle.actor_world.specs.Behaviour.{Behaviour}
use Rattle.actor_world.specs.Body.{Body}
use Rattle.actor_world.specs.Turns.{treat}
use Rattle.actor_world.specs.Start.{plant_of}
use Rattle.actor_world.specs.Life.{IsModest, ups, born, born_in}
use Rattle.actor_world.specs.Directories.{IsOpen, AreOpen}
use Rattle.actor_world.proofs.Counts.{born_last}
use Rattle.actor_world.proofs.LifeSteps.{IsSound}
use Rattle.actor_world.proofs.TurnLives.{Turned, treat_turned}
use Rattle.actor_world.proofs.TrueTurns.{IsTold, AllTold, told_append, told_more, told_filter, OwnBelow, TreatedFine, treat_fine}

-- a controller's state: all that it holds tells of what was created
pub record StateTold {M : Type 0} (g : ℕ → ℕ) (s : State (Body M)) : Type 0 where
  pub pending : (p : ℕ) → AllTold g (s.pending p)
  pub outbox : AllTold g s.outbox
  pub deferred : (slot : ℕ) → AllTold g (s.body.deferred slot)
  pub told : (slot : ℕ) → s.body.frame.told slot ≤ g slot

state_more : {M : Type 0} (g h : ℕ → ℕ) → ((s : ℕ) → g s ≤ h s) → (s : State (Body M)) → StateTold g s → StateTold h s
state_more g h up s k =
    record {
      pending = λ p. told_more g h up (s.pending p) (k.pending p);
      outbox = told_more g h up s.outbox k.outbox;
      deferred = λ n. told_more g h up (s.body.deferred n) (k.deferred n);
      told = λ n. let a = k.told n in let b = up n in omega arith;
    }

put_told : {A : Type 0} (P : A → Type 0) (f : ℕ → A) (at : ℕ) (v : A) → ((n : ℕ) → P (f n)) → P v → (n : ℕ) → P (put f at v n)
unfolding put
put_told P f at v h k n = go (n == at)
  where
    go : (b : Bool) → P (if b then v else f n)
    go true = k
    go false = h n

pub put_own : {A : Type 0} (P : ℕ → A → Type 0) (f : ℕ → A) (at : ℕ) (v : A) → ((n : ℕ) → P n (f n)) → P at v → (n : ℕ) → P n (put f at v n)
unfolding put
put_own P f at v h k n = go (n == at) refl
  where
    go : (b : Bool) → (n == at) ≡ b → P n (if b then v else f n)
    go true e = subst (λ z. P z v) (sym (eqb-true n at e)) k
    go false e = h n

lane_told : (g : ℕ → ℕ) (f : Lane → List Msg) (at : Lane) (v : List Msg) → ((l : Lane) → AllTold g (f l)) → AllTold g v → (l : Lane) → AllTold g (put_lane f at v l)
unfolding put_lane
lane_told g f at v h k l = go (is_lane l at)
  where
    go : (b : Bool) → AllTold g (if b then v else f l)
    go true = k
    go false = h l

back_told : (g : ℕ → ℕ) (back : List Msg) (f : ℕ → List Msg) → AllTold g back → ((p : ℕ) → AllTold g (f p)) → (p : ℕ) → AllTold g (put_back back f p)
unfolding put_back
back_told g back f h k p = told_append g (filter (λ (m : Msg). m.prio.0 == p) back) (f p) (told_filter g (λ (m : Msg). m.prio.0 == p) back h) (k p)

front_told : (g : ℕ → ℕ) (at : ℕ) (ms : List Msg) (later : Option Taken) (k : Taken) → AllTold g ms
    → (later ≡ Some k → IsTold g k.message × AllTold g k.rest) → front_or at ms later ≡ Some k → IsTold g k.message × AllTold g k.rest
front_told g at [] later k h r e = r e
front_told g at (m ∷ ms) later k h r e =
    let same : record { priority = at; message = m; rest = ms } ≡ k = cc in subst (λ (z : Taken). IsTold g z.message × AllTold g z.rest) same h

lowest_told : (g : ℕ → ℕ) (f : ℕ → List Msg) → ((p : ℕ) → AllTold g (f p)) → (n at : ℕ) (k : Taken) → lowest f at n ≡ Some k → IsTold g k.message × AllTold g k.rest
unfolding lowest
lowest_told g f h zero at k e = absurd cc
lowest_told g f h (suc n) at k e = front_told g at (f at) (lowest f (at + 1) n) k (h at) (λ q. lowest_told g f h n (at + 1) k q) e

-- what an entry takes in, and what it sends on its way
abbrev pub FetchedTold : (ℕ → ℕ) → Entry → Type 0
FetchedTold g (entry.Fetch stamp m) = IsTold g m
FetchedTold g (entry.Start who state ns) = Unit {0}
FetchedTold g (entry.Turn stamp from sent what ns) = Unit {0}
FetchedTold g (entry.Post stamp m) = Unit {0}

abbrev pub PostedTold : (ℕ → ℕ) → Entry → Type 0
PostedTold g (entry.Post stamp m) = IsTold g m
PostedTold g (entry.Start who state ns) = Unit {0}
PostedTold g (entry.Turn stamp from sent what ns) = Unit {0}
PostedTold g (entry.Fetch stamp m) = Unit {0}

-- a generation that was created stays so
born_below : (g n k : ℕ) → 1 + k ≡ born g n → g ≤ n
born_below g n k h = grind (arith, nat_tests)

grows_from : (l next : Lives) (more : Incarnation → ℕ) → ((x : Incarnation) → born_in l x + more x ≡ born_in next x) → (s : ℕ) → l.generation s ≤ next.generation s
grows_from l next more h s = go (l.generation s) refl
  where
    go : (n : ℕ) → l.generation s ≡ n → l.generation s ≤ next.generation s
    go zero e = omega arith
    go (suc n) e =
        let x : Incarnation = incarnation s (l.generation s) in
        let some : 1 ≤ l.generation s = omega arith in
        let one : born (l.generation s) (l.generation s) ≡ 1 = born_last (l.generation s) some in
        let k : born (l.generation s) (l.generation s) + more x ≡ born (l.generation s) (next.generation s) = h x in
        born_below (l.generation s) (next.generation s) (more x) (ap (λ z. z + more x) (sym one) ∙ k)

module _ {M : Type 0} (model : Behaviour M) (modest : IsModest model) (clear : IsOpen model) (t : Tables) (lines : List Line) where
  -- what one entry of a controller does: lives stay sound, and generations never fall
  pub record Lived (c : ℕ) (s next : State (Body M)) : Type 0 where
    pub sound : IsSound t c next.body.frame.lives
    pub grows : (slot : ℕ) → s.body.frame.lives.generation slot ≤ next.body.frame.lives.generation slot

  same_lived : (c : ℕ) (s next : State (Body M)) → next.body ≡ s.body → IsSound t c s.body.frame.lives → Lived c s next
  same_lived c s next same sound =
      record {
        sound = subst (λ (b : Body M). IsSound t c b.frame.lives) (sym same) sound;
        grows = λ n. subst (λ (b : Body M). s.body.frame.lives.generation n ≤ b.frame.lives.generation n) (sym same) (omega arith);
      }

  post_from : (c : ℕ) (s next : State (Body M)) (e : Entry) (box : List Msg) → post_front c s box ≡ Some (next, e)
      → (m : Msg) × (rest : List Msg) × (box ≡ m ∷ rest) × (◌≡◌ {A = State (Body M) × Entry} (record s { clock = s.clock + 1; outbox = rest }, entry.Post (record { 0 = s.clock + 1 }) (stamped c (s.clock + 1) m)) (next, e))
  post_from c s next e [] h = absurd cc
  post_from c s next e (m ∷ rest) h = (m, rest, refl, cc)

  turn_from : (c : ℕ) (s next : State (Body M)) (e : Entry) (box : List Msg) (o : Option Taken) → turn_with (plant_of model t lines) c s box o ≡ Some (next, e)
      → (k : Taken) × (o ≡ Some k) × (◌≡◌ {A = State (Body M) × Entry} (turned s k (treat model t c s.body k.message)) (next, e))
  turn_from c s next e [] None h = absurd cc
  turn_from c s next e (y ∷ ys) o h = absurd cc
  turn_from c s next e [] (Some k) h = (k, refl, cc)

  does_lived : (c : ℕ) (s next : State (Body M)) (e : Entry) → IsSound t c s.body.frame.lives → Does (plant_of model t lines) c s e next → Lived c s next
  unfolding fetch turn post
  does_lived c s next (entry.Start who state ns) sound h = absurd h
  does_lived c s next (entry.Fetch stamp m) sound h = same_lived c s next (sym (ap (λ (z : State (Body M) × Entry). z.0.body) h)) sound
  does_lived c s next (entry.Post stamp m) sound h =
      let r = post_from c s next (entry.Post stamp m) s.outbox h in same_lived c s next (sym (ap (λ (z : State (Body M) × Entry). z.0.body) r.3)) sound
  does_lived c s next (entry.Turn stamp from sent what ns) sound h =
      let r = turn_from c s next (entry.Turn stamp from sent what ns) s.outbox (next_of s.pending) h in
      let k : Turned model modest t c s.body (treat model t c s.body r.0.message) = treat_turned model modest t c s.body r.0.message sound in
      subst (λ (z : State (Body M) × Entry). Lived c s z.0) r.2 (record {
        sound = k.noted.sound;
        grows = grows_from s.body.frame.lives (treat model t c s.body r.0.message).body.frame.lives (λ x. ups x (treat model t c s.body r.0.message).notes) k.noted.born;
      })

  does_told : (c : ℕ) (g h : ℕ → ℕ) → ((n : ℕ) → g n ≤ h n) → (s next : State (Body M)) (e : Entry) → IsSound t c s.body.frame.lives → StateTold g s → FetchedTold g e
      → OwnBelow t c h next.body.frame.lives → Does (plant_of model t lines) c s e next → StateTold h next × PostedTold h e
  unfolding fetch turn post
  does_told c g h up s next (entry.Start who state ns) sound k f own d = absurd d
  does_told c g h up s next (entry.Fetch stamp m) sound k f own d =
      let q : StateTold h s = state_more g h up s k in
      let m_told : AllTold h (m ∷ []) = told_more g h up (m ∷ []) (f, tt) in (
        subst (λ (z : State (Body M) × Entry). StateTold h z.0) d (record {
          pending = put_told (AllTold h) s.pending m.prio.0 (s.pending m.prio.0 ++ m ∷ []) q.pending (told_append h (s.pending m.prio.0) (m ∷ []) (q.pending m.prio.0) m_told);
          outbox = q.outbox;
          deferred = q.deferred;
          told = q.told;
        }),
        tt,
      )
  does_told c g h up s next (entry.Post stamp m) sound k f own d =
      let q : StateTold h s = state_more g h up s k in
      let r = post_from c s next (entry.Post stamp m) s.outbox d in
      let box : AllTold h (r.0 ∷ r.1) = subst (AllTold h) r.2 q.outbox in
      subst (λ (z : State (Body M) × Entry). StateTold h z.0 × PostedTold h z.1) r.3
      (record { pending = q.pending; outbox = box.1; deferred = q.deferred; told = q.told }, box.0)
  does_told c g h up s next (entry.Turn stamp from sent what ns) sound k f own d =
      let q : StateTold h s = state_more g h up s k in
      let r = turn_from c s next (entry.Turn stamp from sent what ns) s.outbox (next_of s.pending) d in
      let taken = lowest_told h s.pending q.pending 6 0 r.0 r.1 in
      let mine : OwnBelow t c h (treat model t c s.body r.0.message).body.frame.lives =
      subst (λ (z : State (Body M) × Entry). OwnBelow t c h z.0.body.frame.lives) (sym r.2) own in
      let fine : TreatedFine h (treat model t c s.body r.0.message) = treat_fine model modest clear t c h s.body r.0.message sound q.deferred q.told taken.0 mine in (
        subst (λ (z : State (Body M) × Entry). StateTold h z.0) r.2 (record {
          pending = back_told h (treat model t c s.body r.0.message).back (put s.pending r.0.priority r.0.rest) fine.1
              (put_told (AllTold h) s.pending r.0.priority r.0.rest q.pending taken.1);
          outbox = fine.0;
          deferred = fine.2;
          told = fine.3;
        }),
        tt,
      )

-- the last generation of each slot, at its owner
abbrev pub gens : {M : Type 0} → Tables → (ℕ → State (Body M)) → ℕ → ℕ
gens t states n = (states (owner_of t n)).body.frame.lives.generation n

-- a world in which all that is told of lives was so
pub record IsTrueWorld {M : Type 0} (t : Tables) (w : World (Body M)) : Type 0 where
  pub sound : (c : ℕ) → IsSound t c (w.controllers c).body.frame.lives
  pub state : (c : ℕ) → StateTold (gens t w.controllers) (w.controllers c)
  pub lanes : (l : Lane) → AllTold (gens t w.controllers) (w.lanes l)

put_related : {A : Type 0} (R : A → A → Type 0) (f : ℕ → A) (at : ℕ) (v : A) → ((n : ℕ) → R (f n) (f n)) → R (f at) v → (n : ℕ) → R (f n) (put f at v n)
unfolding put
put_related R f at v h k n = go (n == at) refl
  where
    go : (b : Bool) → (n == at) ≡ b → R (f n) (if b then v else f n)
    go true e = subst (λ z. R (f z) v) (sym (eqb-true n at e)) k
    go false e = h n

told_drop : (g : ℕ → ℕ) (ms : List Msg) → AllTold g ms → AllTold g (drop 1 ms)
told_drop g [] h = tt
told_drop g (m ∷ ms) h = h.1

pub born_between : (g n : ℕ) → 1 ≤ g → g ≤ n → born g n ≡ 1
born_between g n h k = grind (arith, nat_tests)

module _ {M : Type 0} (model : Behaviour M) (modest : IsModest model) (clear : IsOpen model) (t : Tables) (lines : List Line) (clear_lines : AreOpen lines) where
  fetched_told : (w : World (Body M)) (c : ℕ) (e : Entry) (s : State (Body M)) → IsTrueWorld t w
      → controller_does (plant_of model t lines) w c (event_of e) ≡ Some (s, e) → FetchedTold (gens t w.controllers) e
  fetched_told w c (entry.Start who state ns) s inv h = tt
  fetched_told w c (entry.Turn stamp from sent what ns) s inv h = tt
  fetched_told w c (entry.Post stamp m) s inv h = tt
  fetched_told w c (entry.Fetch stamp m) s inv h =
      let at : Lane = lane m.from.0 c m.prio.0 in
      let f = (fetch_front_from (w.controllers c) s (w.lanes at) (entry.Fetch stamp m) m stamp.0 refl h).0 in
      (subst (AllTold (gens t w.controllers)) f (inv.lanes at)).0

  lanes_told : (h : ℕ → ℕ) (w : World (Body M)) (c : ℕ) (e : Entry) → ((l : Lane) → AllTold h (w.lanes l)) → PostedTold h e → (l : Lane) → AllTold h (lanes_after w c (event_of e) e l)
  lanes_told h w c (entry.Start who state ns) k p l = k l
  lanes_told h w c (entry.Turn stamp from sent what ns) k p l = k l
  lanes_told h w c (entry.Fetch stamp m) k p l =
      let at : Lane = lane m.from.0 c m.prio.0 in lane_told h w.lanes at (drop 1 (w.lanes at)) k (told_drop h (w.lanes at) (k at)) l
  lanes_told h w c (entry.Post stamp m) k p l =
      let at : Lane = lane c m.to.0 m.prio.0 in lane_told h w.lanes at (w.lanes at ++ m ∷ []) k (told_append h (w.lanes at) (m ∷ []) (k at) (p, tt)) l

  controller_true : (w : World (Body M)) (c : ℕ) (e : Entry) (s : State (Body M)) → IsTrueWorld t w
      → controller_does (plant_of model t lines) w c (event_of e) ≡ Some (s, e)
      → IsTrueWorld t (record w { controllers = put w.controllers c s; lanes = lanes_after w c (event_of e) e })
  controller_true w c e s inv does =
      let d : Does (plant_of model t lines) c (w.controllers c) e s = own_of (plant_of model t lines) w c e s does in
      let lived = does_lived model modest clear t lines c (w.controllers c) s e (inv.sound c) d in
      let g : ℕ → ℕ = gens t w.controllers in
      let h : ℕ → ℕ = gens t (put w.controllers c s) in
      let up : (n : ℕ) → g n ≤ h n =
      λ n. put_related (λ (a b : State (Body M)). (k : ℕ) → a.body.frame.lives.generation k ≤ b.body.frame.lives.generation k) w.controllers c s (λ k j. omega arith) lived.grows (owner_of t n) n in
      let own : OwnBelow t c h s.body.frame.lives =
      λ n q. subst (λ k. s.body.frame.lives.generation n ≤ (put w.controllers c s k).body.frame.lives.generation n) (sym q)
      (subst (λ (z : State (Body M)). s.body.frame.lives.generation n ≤ z.body.frame.lives.generation n) (sym (put-same w.controllers c s)) (omega arith)) in
      let r = does_told model modest clear t lines c g h up (w.controllers c) s e (inv.sound c) (inv.state c) (fetched_told w c e s inv does) own d in
      record {
        sound = put_own (λ k (z : State (Body M)). IsSound t k z.body.frame.lives) w.controllers c s inv.sound lived.sound;
        state = put_told (StateTold h) w.controllers c s (λ k. state_more g h up (w.controllers k) (inv.state k)) r.0;
        lanes = lanes_told h w c e (λ l. told_more g h up (w.lanes l) (inv.lanes l)) r.1;
      }

  line_told : (g : ℕ → ℕ) (v next : Environment) (stamp : Stamp) (m : Msg)
      → environment_post (plant_of model t lines) v ≡ Some (next, entry.Post stamp m) → IsTold g m
  unfolding environment_post
  line_told g v next stamp m h = go (slice_get lines v.posted) refl h
    where
      go : (o : Option Line) → slice_get lines v.posted ≡ o → post_line (length t.controllers) v o ≡ Some (next, entry.Post stamp m) → IsTold g m
      go None e k = absurd cc
      go (Some line) e k =
          let same : stamped (length t.controllers) (v.clock + 1) line.message ≡ m = (let f = same_entry k in cc) in
          let low : (line.message.prio.0 == 0) ≡ false = clear_lines v.posted line e in
          subst (IsTold g) same (λ x q. let z : ◌≡◌ {A = Option Incarnation} None (Some x) = rw low at q in absurd cc)

  environment_true : (w : World (Body M)) (c : ℕ) (e : Entry) (v : Environment) → IsTrueWorld t w
      → environment_does (plant_of model t lines) w (event_of e) ≡ Some (v, e)
      → IsTrueWorld t (record w { environment = v; lanes = lanes_after w c (event_of e) e })
  environment_true w c e v inv h = record { sound = inv.sound; state = inv.state; lanes = lanes_told (gens t w.controllers) w c e inv.lanes (posted e h) }
    where
      posted : (e : Entry) → environment_does (plant_of model t lines) w (event_of e) ≡ Some (v, e) → PostedTold (gens t w.controllers) e
      posted (entry.Start who state ns) k = tt
      posted (entry.Turn stamp from sent what ns) k = tt
      posted (entry.Fetch stamp m) k = tt
      posted (entry.Post stamp m) k = line_told (gens t w.controllers) (caught_up (plant_of model t lines) w) v stamp m k

  step_true : (w : World (Body M)) (x : Placed) (next : World (Body M)) → IsTrueWorld t w → Happened (plant_of model t lines) w x next → IsTrueWorld t next
  step_true w x next inv (controller below s does same) = subst (IsTrueWorld t) (sym same) (controller_true w x.party x.entry s inv does)
  step_true w x next inv (environment is v does same) = subst (IsTrueWorld t) (sym same) (environment_true w x.party x.entry v inv does)

  pub run_true : (xs : List Placed) (w end : World (Body M)) → IsTrueWorld t w → Runs (plant_of model t lines) w xs end → IsTrueWorld t end
  run_true [] w end inv r = subst (IsTrueWorld t) (sym r) inv
  run_true (x ∷ xs) w end inv r = run_true xs r.0 end (step_true w x r.0 inv (happened (plant_of model t lines) w x r.0 r.2)) r.3
