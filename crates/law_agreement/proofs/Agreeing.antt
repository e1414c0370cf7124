-- Over every run of the world: trails are queues, and what is told and on its way is what stands.
use Rattle.std.proofs.Common.{◌≡◌, ℕ, ◌+◌, ◌<◌, ◌≤◌, ◌==◌, ◌&&◌, Bool, true, false, if◌then◌else◌, List, [], ◌∷◌, ◌++◌, get_or, filter, length, slice_get, Option, Some, None, refl, sym, ap, ◌∙◌, subst, eq-eqb, eqb-true, append-nil, arith, ◌⊎◌, inl, inr}
use Rattle.std.specs.Option.{option_map_or}
use Rattle.std.specs.List.{Contains}
use Rattle.std.proofs.lemmas.List.Elements.{All-from_recursion, All-contains}
use Rattle.std.proofs.lemmas.Bool.{cases_lt, ne_eqb, eqb-false}
use Rattle.std.proofs.lemmas.Option.{slice_get_cases}
use Rattle.room_kinds.specs.declared.message.Msg.{Msg}
use Rattle.room_kinds.specs.declared.numbers.Incarnation.{Incarnation}
use Rattle.room_kinds.specs.declared.numbers.Stamp.{Stamp}
use Rattle.journal.specs.declared.entry.Entry.{Entry}
use Rattle.journal.specs.declared.entry.Entry.TheVariants as entry
use Rattle.room_wiring.specs.declared.tables.Tables.{Tables}
use Rattle.room_wiring.specs.declared.slot.Slot.{Slot}
use Rattle.room_wiring.specs.Places.{is_told}
use Rattle.actor_merge.specs.Mail.{Lane, lane, is_lane, event_of}
use Rattle.actor_merge.specs.Parties.{State, Environment, Line, Taken, Treated, put, stamped, next_of, put_back, fetch, turn, turned, post, post_line, environment_post, Does}
use Rattle.actor_merge.specs.World.{World, Placed, IsQuiet, start, Runs, put_lane, caught_up, controller_does, environment_does, lanes_after}
use Rattle.actor_merge.proofs.Back.{Happened, controller, environment, happened, own_of}
use Rattle.actor_merge.proofs.Lanes.{post_step}
use Rattle.actor_merge.proofs.Steps.{same_entry}
use Rattle.actor_duties.specs.Words.{is_own, owner_of}
use Rattle.actor_duties.specs.Lives.{standing}
use Rattle.actor_world.specs.Behaviour.{Behaviour}
use Rattle.actor_world.specs.Body.{Body}
use Rattle.actor_world.specs.Turns.{doing, treat}
use Rattle.actor_world.specs.Start.{lives_from_start, first_body, first_actors, Starting, started, all_started, starting, first_state, plant_of}
use Rattle.actor_world.specs.Directories.{IsOpen, AreOpen}
use Rattle.actor_world.specs.Agreed.{DirectoriesAgree}
use Rattle.law_agreement.specs.Trails.{contents, from_a, system_to, is_system_to, trail, leaves, comes, hear_all}
use Rattle.law_agreement.specs.Senders.{about}
use Rattle.law_agreement.specs.Announced.{heard, AreForetold}
use Rattle.law_agreement.proofs.Lists.{all_append, all_later, all_filter, all_passed}
use Rattle.law_agreement.proofs.Plain.{AllPlain}
use Rattle.law_agreement.proofs.Carrying.{Carries, carries_same, carries_two, apply_all_carries}
use Rattle.law_agreement.proofs.Hearing.{heard_apart, heard_stamped}
use Rattle.law_agreement.proofs.Telling.{IsOwned, AllOwned, plain_owned}
use Rattle.law_agreement.proofs.Turning.{TurnSays, treat_says}
use Rattle.law_agreement.proofs.Moving.{Ranked, IsSorted, next_front, post_from, turn_from, world_after, controller_moves}
use Rattle.law_agreement.proofs.Reading.{IsHearing, unread, TurnReads, step_reads}
use Rattle.actor_world.proofs.TrueWorld.{put_own}

-- a slot that is there is its owner's own
pub own_there : (t : Tables) (s : ℕ) → s < length t.slots → is_own t (owner_of t s) s ≡ true
unfolding is_own owner_of
own_there t s h = go (slice_get_cases t.slots s).1
  where
    go : ((x : Slot) × (s < length t.slots) × (slice_get t.slots s ≡ Some x) × (get_or t.slots s x ≡ x)) ⊎ ((length t.slots ≤ s) × (slice_get t.slots s ≡ None))
        → option_map_or (λ (x : Slot). x.owner.0 == option_map_or (λ (y : Slot). y.owner.0) (slice_get t.slots s) 0) (slice_get t.slots s) false ≡ true
    go (inl q) = rw q.2 (eq-eqb q.0.owner.0 q.0.owner.0 refl)
    go (inr q) = absurd (omega (arith, q.0))

pub put_each : {A : Type 0} (P : A → Type 0) (f : ℕ → A) (at : ℕ) (v : A) → ((n : ℕ) → P (f n)) → P v → (n : ℕ) → P (put f at v n)
unfolding put
put_each P f at v h k n = go (n == at)
  where
    go : (b : Bool) → P (if b then v else f n)
    go true = k
    go false = h n

owned_contents : (t : Tables) (a b : ℕ) (ms : List Msg) → AllOwned t a ms → AllOwned t a (contents b ms)
unfolding contents
owned_contents t a b [] h = tt
owned_contents t a b (m ∷ ms) h = (h.0, owned_contents t a b ms h.1)

owned_system : (t : Tables) (a b d : ℕ) (ms : List Msg) → AllOwned t a ms → AllOwned t a (system_to b d ms)
unfolding system_to
owned_system t a b d ms h = owned_contents t a b (filter (is_system_to d) ms) (all_filter (IsOwned t a) (is_system_to d) ms h)

-- a trail of which nothing was fetched or posted yet
pub fresh_trail : (a b : ℕ) (box : List Msg) → from_a a [] ++ (contents a [] ++ system_to a b box) ≡ system_to a b box
unfolding from_a contents
fresh_trail a b box = refl

no_system : (a b : ℕ) → system_to a b [] ≡ []
unfolding system_to contents
no_system a b = refl

-- a world as it can be: what is told and on its way is what stands
pub record IsForetold {M : Type 0} (t : Tables) (w : World (Body M)) : Type 0 where
  pub sorted : (c : ℕ) → IsSorted (w.controllers c)
  pub owned : (a b : ℕ) → AllOwned t a (trail w a b)
  pub foretold : AreForetold t w
  -- a number that is no controller's has sent nothing
  pub idle : (c : ℕ) → length t.controllers ≤ c → AllPlain (w.controllers c).outbox

module _ {M : Type 0} (model : Behaviour M) (clear : IsOpen model) (t : Tables) (lines : List Line) (clear_lines : AreOpen lines) where
  fetch_sorted : (s : State (Body M)) (m : Msg) → IsSorted s → IsSorted (fetch s m).0
  unfolding fetch
  fetch_sorted s m h =
      record {
        pending = put_own Ranked s.pending m.prio.0 (s.pending m.prio.0 ++ m ∷ []) h.pending
            (all_append (λ (x : Msg). x.prio.0 ≡ m.prio.0) (s.pending m.prio.0) (m ∷ []) (h.pending m.prio.0) (refl, tt));
        deferred = h.deferred;
      }

  turned_sorted : (c : ℕ) (s : State (Body M)) (k : Taken) → next_of s.pending ≡ Some k → IsSorted s → IsSorted (turned s k (treat model t c s.body k.message)).0
  unfolding put_back
  turned_sorted c s k front h =
      let r : Treated (Body M) = treat model t c s.body k.message in
      let z : TurnSays t c s.body k.message r = treat_says model clear t c s.body k.message h.deferred in
      let taken : Ranked k.priority (k.message ∷ k.rest) = subst (Ranked k.priority) (next_front s.pending k front) (h.pending k.priority) in
      record {
        pending = λ p.
            all_append (λ (m : Msg). m.prio.0 ≡ p) (filter (λ (m : Msg). m.prio.0 == p) r.back) (put s.pending k.priority k.rest p)
            (all_passed (λ (m : Msg). m.prio.0 ≡ p) (λ (m : Msg). m.prio.0 == p) (λ m e. eqb-true m.prio.0 p e) r.back)
            (put_own Ranked s.pending k.priority k.rest h.pending taken.1 p);
        deferred = z.says.deferred;
      }

  does_sorted : (c : ℕ) (s next : State (Body M)) (e : Entry) → IsSorted s → Does (plant_of model t lines) c s e next → IsSorted next
  unfolding turn post
  does_sorted c s next (entry.Start who state ns) h d = absurd d
  does_sorted c s next (entry.Fetch stamp m) h d = subst (λ (z : State (Body M) × Entry). IsSorted z.0) d (fetch_sorted s m h)
  does_sorted c s next (entry.Post stamp m) h d =
      let r = post_from model t lines c s next (entry.Post stamp m) s.outbox d in
      subst (λ (z : State (Body M) × Entry). IsSorted z.0) r.3 (record { pending = h.pending; deferred = h.deferred })
  does_sorted c s next (entry.Turn stamp from sent what ns) h d =
      let r = turn_from model t lines c s next (entry.Turn stamp from sent what ns) s.outbox (next_of s.pending) d in
      subst (λ (z : State (Body M) × Entry). IsSorted z.0) r.3 (turned_sorted c s r.0 r.2 h)

  -- a directory hears Announces alone, and only what is announced of the slot
  directory_hearing : (d s : ℕ) → IsHearing s (heard t d s)
  directory_hearing d s = record { unstamped = λ a stamp m n. heard_stamped t d s a stamp m n; apart = λ m n h. heard_apart t d s m n h }

  -- in a turn a directory hears its message, and what is announced of a slot is what happens there
  directory_reads : (w : World (Body M)) → ((c : ℕ) → IsSorted (w.controllers c)) → (s d : ℕ) → s < length t.slots → d < length t.controllers → is_told t s d ≡ true
      → TurnReads model clear t lines s d (heard t d s) (directory_hearing d s) (λ (b : Body M). b.frame.told s) (λ (b : Body M). standing b.frame.lives s) w
  directory_reads w sorted s d there below told =
      record {
        hears = λ m. (treat_says model clear t d (w.controllers d).body m (sorted d).deferred).told s;
        tells = λ m.
            (treat_says model clear t (owner_of t s) (w.controllers (owner_of t s)).body m (sorted (owner_of t s)).deferred).says.announced s d (own_there t s there) below told;
      }

  -- what one event of a controller does
  module _ (w : World (Body M)) (inv : IsForetold t w) (c : ℕ) where
    -- what comes into a trail tells of slots of its controller
    step_owned : (e : Entry) (next : State (Body M)) → controller_does (plant_of model t lines) w c (event_of e) ≡ Some (next, e)
        → (a b : ℕ) → AllOwned t a (comes (world_after model t lines w c e next) c e a b)
    unfolding turn put
    step_owned (entry.Start who state ns) next h a b = tt
    step_owned (entry.Fetch stamp m) next h a b = tt
    step_owned (entry.Post stamp m) next h a b = tt
    step_owned (entry.Turn stamp from sent what ns) next h a b = go (a == c) refl
      where
        sent_owned : AllOwned t c next.outbox
        sent_owned =
            let r = turn_from model t lines c (w.controllers c) next (entry.Turn stamp from sent what ns) (w.controllers c).outbox (next_of (w.controllers c).pending) h in
            let z : TurnSays t c (w.controllers c).body r.0.message (treat model t c (w.controllers c).body r.0.message) =
            treat_says model clear t c (w.controllers c).body r.0.message (inv.sorted c).deferred in
            subst (λ (q : State (Body M) × Entry). AllOwned t c q.0.outbox) r.3 z.says.owned

        go : (x : Bool) → (a == c) ≡ x → AllOwned t a (if x then system_to a b (if x then next else w.controllers a).outbox else [])
        go true e = owned_system t a a b next.outbox (subst (λ n. AllOwned t n next.outbox) (sym (eqb-true a c e)) sent_owned)
        go false e = tt

    pub controller_foretold : c < length t.controllers → (e : Entry) (next : State (Body M)) → controller_does (plant_of model t lines) w c (event_of e) ≡ Some (next, e)
        → IsForetold t (world_after model t lines w c e next)
    unfolding put
    controller_foretold below e next h =
        let moves : (a b : ℕ) → leaves w c e a b ++ trail (world_after model t lines w c e next) a b ≡ trail w a b ++ comes (world_after model t lines w c e next) c e a b =
        controller_moves model t lines clear w c e next (inv.sorted c) h in
        record {
          sorted = put_each IsSorted w.controllers c next inv.sorted (does_sorted c (w.controllers c) next e (inv.sorted c) (own_of (plant_of model t lines) w c e next h));
          owned = λ a b.
              all_later (IsOwned t a) (leaves w c e a b) (trail (world_after model t lines w c e next) a b)
              (subst (AllOwned t a) (sym (moves a b))
              (all_append (IsOwned t a) (trail w a b) (comes (world_after model t lines w c e next) c e a b) (inv.owned a b) (step_owned e next h a b)));
          foretold = λ s d there told_below told.
              step_reads model clear t lines s d (heard t d s) (directory_hearing d s) (λ (b : Body M). b.frame.told s) (λ (b : Body M). standing b.frame.lives s)
              w inv.sorted inv.owned (directory_reads w inv.sorted s d there told_below told) c e next h (inv.foretold s d there told_below told);
          idle = λ n far. put_idle n far (n == c) refl;
        }
      where
        put_idle : (n : ℕ) → length t.controllers ≤ n → (b : Bool) → (n == c) ≡ b → AllPlain (put w.controllers c next n).outbox
        put_idle n far true q = let same : n ≡ c = eqb-true n c q in absurd (omega arith)
        put_idle n far false q = rw q (inv.idle n far)

  -- the environment posts nothing into a trail
  line_open : (v next : Environment) (stamp : Stamp) (m : Msg) → environment_post (plant_of model t lines) v ≡ Some (next, entry.Post stamp m) → (m.prio.0 == 0) ≡ false
  unfolding environment_post
  line_open v next stamp m h = go (slice_get lines v.posted) refl h
    where
      go : (o : Option Line) → slice_get lines v.posted ≡ o → post_line (length t.controllers) v o ≡ Some (next, entry.Post stamp m) → (m.prio.0 == 0) ≡ false
      go None e k = absurd cc
      go (Some line) e k =
          let same : stamped (length t.controllers) (v.clock + 1) line.message ≡ m = (let f = same_entry k in cc) in
          subst (λ (z : Msg). (z.prio.0 == 0) ≡ false) same (clear_lines v.posted line e)

  -- the world after an event of the environment
  abbrev pub world_then : World (Body M) → ℕ → Entry → Environment → World (Body M)
  world_then w c e v = record w { environment = v; lanes = lanes_after w c (event_of e) e }

  other_lane : (a b c : ℕ) (m : Msg) → (m.prio.0 == 0) ≡ false → is_lane (lane a b 0) (lane c m.to.0 m.prio.0) ≡ false
  unfolding is_lane
  other_lane a b c m h =
      let low : (0 == m.prio.0) ≡ false = ne_eqb 0 m.prio.0 (λ q. eqb-false m.prio.0 0 h (sym q)) in
      rw low (go (a == c) (b == m.to.0))
    where
      go : (x y : Bool) → ((x && y) && false) ≡ false
      go true true = refl
      go true false = refl
      go false y = refl

  pub environment_moves : (w : World (Body M)) (c : ℕ) (e : Entry) (v : Environment) → environment_does (plant_of model t lines) w (event_of e) ≡ Some (v, e)
      → (a b : ℕ) → trail (world_then w c e v) a b ≡ trail w a b
  environment_moves w c (entry.Start who state ns) v h a b = absurd cc
  environment_moves w c (entry.Fetch stamp m) v h a b = absurd cc
  environment_moves w c (entry.Turn stamp from sent what ns) v h a b = absurd cc
  environment_moves w c (entry.Post stamp m) v h a b =
      let at : Lane = lane c m.to.0 m.prio.0 in
      let apart : is_lane (lane a b 0) at ≡ false = other_lane a b c m (line_open (caught_up (plant_of model t lines) w) v stamp m h) in
      let same : put_lane w.lanes at (w.lanes at ++ m ∷ []) (lane a b 0) ≡ w.lanes (lane a b 0) =
      post_step w.lanes at (lane a b 0) m ∙ ap (λ (x : Bool). w.lanes (lane a b 0) ++ (if x then m ∷ [] else [])) apart ∙ append-nil (w.lanes (lane a b 0)) in
      ap (λ (z : List Msg). from_a a ((w.controllers b).pending 0) ++ (contents a z ++ system_to a b (w.controllers a).outbox)) same

  pub environment_foretold : (w : World (Body M)) (c : ℕ) (e : Entry) (v : Environment) → IsForetold t w
      → environment_does (plant_of model t lines) w (event_of e) ≡ Some (v, e) → IsForetold t (world_then w c e v)
  environment_foretold w c e v inv h =
      record {
        sorted = inv.sorted;
        owned = λ a b. subst (AllOwned t a) (sym (environment_moves w c e v h a b)) (inv.owned a b);
        foretold = λ s d there below told.
            ap (λ (z : List Msg). hear_all (heard t d s) z ((w.controllers d).body.frame.told s)) (environment_moves w c e v h (owner_of t s) d) ∙ inv.foretold s d there below told;
        idle = inv.idle;
      }

  step_foretold : (w : World (Body M)) (x : Placed) (next : World (Body M)) → IsForetold t w → Happened (plant_of model t lines) w x next → IsForetold t next
  step_foretold w x next inv (controller below s does same) =
      subst (IsForetold t) (sym same) (controller_foretold w inv x.party below x.entry s does)
  step_foretold w x next inv (environment is v does same) = subst (IsForetold t) (sym same) (environment_foretold w x.party x.entry v inv does)

  run_foretold : (xs : List Placed) (w end : World (Body M)) → IsForetold t w → Runs (plant_of model t lines) w xs end → IsForetold t end
  run_foretold [] w end inv r = subst (IsForetold t) (sym r) inv
  run_foretold (x ∷ xs) w end inv r = run_foretold xs r.0 end (step_foretold w x r.0 inv (happened (plant_of model t lines) w x r.0 r.2)) r.3

  -- the start: initial transitions tell of no life
  all_started_carries : (c : ℕ) (xs : List Incarnation) (s : Starting M) → Carries s.doing (all_started model t c xs s).doing
  all_started_carries c [] s = carries_same s.doing
  all_started_carries c (x ∷ xs) s =
      carries_two s.doing _ _ (first x s) (all_started_carries c xs (started model t c s x))
    where
      first : (x : Incarnation) (s : Starting M) → Carries s.doing (started model t c s x).doing
      first x s =
          let k = apply_all_carries t c x None tt (model.begin x).commands (clear.begin x) _ in
          record { lives = k.lives; told = k.told; more = k.more; sent = k.sent; plain = k.plain; kept = λ h. k.kept h }

  pub first_carries : (c : ℕ) → Carries (doing (first_body t c)) (starting model t c).doing
  unfolding starting
  first_carries c = all_started_carries c (first_actors t c) (record { doing = doing (first_body t c); entries = [] })

  pub first_plain : (c : ℕ) → AllPlain (first_state model t c).outbox
  first_plain c = let k = first_carries c in subst AllPlain (sym k.sent) k.plain

  pub start_foretold : IsForetold t (start (plant_of model t lines))
  start_foretold =
      record {
        sorted = λ c. record { pending = λ p. tt; deferred = ((first_carries c).kept (tt, (λ n. tt))).1 };
        owned = λ a b.
            subst (AllOwned t a) (sym (fresh_trail a b (first_state model t a).outbox))
            (owned_system t a a b (first_state model t a).outbox (plain_owned t a (first_state model t a).outbox (first_plain a)));
        foretold = λ s d there below told.
            let o : ℕ = owner_of t s in
            let n : ℕ = (first_state model t d).body.frame.told s in
            ap (λ (z : List Msg). hear_all (heard t d s) z n) (fresh_trail o d (first_state model t o).outbox)
            ∙ unread s (heard t d s) (directory_hearing d s) o d (first_state model t o).outbox (first_plain o) n
            ∙ ap (λ (g : ℕ → ℕ). g s) (first_carries d).told
            ∙ first_told s d there told (lives_from_start t s)
            ∙ ap (λ l. standing l s) (sym (first_carries o).lives);
        idle = λ c far. first_plain c;
      }
    where
      first_told : (s d : ℕ) → s < length t.slots → is_told t s d ≡ true → (b : Bool)
          → ◌≡◌ {A = ℕ} (if is_told t s d && b then 1 else 0) (if is_own t (owner_of t s) s && b then (if is_own t (owner_of t s) s && b then 1 else 0) else 0)
      first_told s d there told true = rw (told, own_there t s there) refl
      first_told s d there told false = rw (told, own_there t s there) refl

  pub runs_foretell : (xs : List Placed) (end : World (Body M)) → Runs (plant_of model t lines) (start (plant_of model t lines)) xs end → IsForetold t end
  runs_foretell xs end r = run_foretold xs (start (plant_of model t lines)) end start_foretold r

  pub senders : (xs : List Placed) (end : World (Body M)) → Runs (plant_of model t lines) (start (plant_of model t lines)) xs end
      → (a b : ℕ) (m : Msg) (x : Incarnation) → Contains (trail end a b) m → about m ≡ Some x → owner_of t x.slot.0 ≡ a
  senders xs end r a b m x there h =
      All-contains (IsOwned t a) (trail end a b) m (All-from_recursion (IsOwned t a) (trail end a b) ((runs_foretell xs end r).owned a b)) there x h

  -- in a quiet world nothing is on its way that tells of a life
  pub quiet_unread : {X : Type 0} (s d : ℕ) (hear : Msg → X → X) → IsHearing s hear → (end : World (Body M)) → IsForetold t end → IsQuiet (plant_of model t lines) end
      → d < length t.controllers → (x : X) → hear_all hear (trail end (owner_of t s) d) x ≡ x
  quiet_unread s d hear hearing end inv quiet below x =
      let o : ℕ = owner_of t s in
      let box : List Msg = (end.controllers o).outbox in
      let empty : trail end o d ≡ system_to o d box =
      ap (λ (z : List Msg). from_a o z ++ (contents o (end.lanes (lane o d 0)) ++ system_to o d box)) (quiet.pending d 0 below)
      ∙ ap (λ (z : List Msg). from_a o [] ++ (contents o z ++ system_to o d box)) (quiet.lanes (lane o d 0))
      ∙ fresh_trail o d box in
      ap (λ (z : List Msg). hear_all hear z x) empty ∙ unread s hear hearing o d box (plain (cases_lt o (length t.controllers))) x
    where
      plain : (owner_of t s < length t.controllers) ⊎ (length t.controllers ≤ owner_of t s) → AllPlain (end.controllers (owner_of t s)).outbox
      plain (inl near) = subst AllPlain (sym (quiet.outbox (owner_of t s) near)) tt
      plain (inr far) = inv.idle (owner_of t s) far

  pub quiet_agree : (end : World (Body M)) → IsForetold t end → IsQuiet (plant_of model t lines) end → DirectoriesAgree t end
  quiet_agree end inv quiet s d there below told =
      sym (quiet_unread s d (heard t d s) (directory_hearing d s) end inv quiet below ((end.controllers d).body.frame.told s)) ∙ inv.foretold s d there below told

  -- each event of a run: what leaves a trail and then stands is what stood and then comes
  nothing_moves : (w next : World (Body M)) (e : Entry) (c : ℕ) (v : Environment) → environment_does (plant_of model t lines) w (event_of e) ≡ Some (v, e)
      → (a b : ℕ) → (leaves w c e a b ≡ []) × (comes next c e a b ≡ [])
  nothing_moves w next (entry.Start who state ns) c v h a b = (refl, refl)
  nothing_moves w next (entry.Fetch stamp m) c v h a b = (refl, refl)
  nothing_moves w next (entry.Post stamp m) c v h a b = (refl, refl)
  nothing_moves w next (entry.Turn stamp from sent what ns) c v h a b = absurd cc

  happened_moves : (w : World (Body M)) (x : Placed) (next : World (Body M)) → IsForetold t w → Happened (plant_of model t lines) w x next
      → (a b : ℕ) → leaves w x.party x.entry a b ++ trail next a b ≡ trail w a b ++ comes next x.party x.entry a b
  happened_moves w x next inv (controller below s does same) a b =
      subst (λ (z : World (Body M)). leaves w x.party x.entry a b ++ trail z a b ≡ trail w a b ++ comes z x.party x.entry a b) (sym same)
      (controller_moves model t lines clear w x.party x.entry s (inv.sorted x.party) does a b)
  happened_moves w x next inv (environment is v does same) a b =
      let none = nothing_moves w next x.entry x.party v does a b in
      ap (λ (z : List Msg). z ++ trail next a b) none.0
      ∙ subst (λ (z : World (Body M)). trail z a b ≡ trail w a b) (sym same) (environment_moves w x.party x.entry v does a b)
      ∙ sym (append-nil (trail w a b))
      ∙ ap (λ (z : List Msg). trail w a b ++ z) (sym none.1)

  pub trail_moves : (w : World (Body M)) → IsForetold t w → (x : Placed) (next : World (Body M)) → Runs (plant_of model t lines) w (x ∷ []) next
      → (a b : ℕ) → leaves w x.party x.entry a b ++ trail next a b ≡ trail w a b ++ comes next x.party x.entry a b
  trail_moves w inv x next r a b =
      happened_moves w x next inv (subst (Happened (plant_of model t lines) w x) (sym r.3) (happened (plant_of model t lines) w x r.0 r.2)) a b

pub quiet_trail : {M : Type 0} (model : Behaviour M) (t : Tables) (lines : List Line) (w : World (Body M)) → IsQuiet (plant_of model t lines) w
    → (a b : ℕ) → a < length t.controllers → b < length t.controllers → trail w a b ≡ []
quiet_trail model t lines w quiet a b here there =
    ap (λ (z : List Msg). from_a a z ++ (contents a (w.lanes (lane a b 0)) ++ system_to a b (w.controllers a).outbox)) (quiet.pending b 0 there)
    ∙ ap (λ (z : List Msg). from_a a [] ++ (contents a z ++ system_to a b (w.controllers a).outbox)) (quiet.lanes (lane a b 0))
    ∙ ap (λ (z : List Msg). from_a a [] ++ (contents a [] ++ system_to a b z)) (quiet.outbox a here)
    ∙ fresh_trail a b []
    ∙ no_system a b
