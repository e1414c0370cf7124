-- Over every run of the world: each message on a trail has the form of its kind.
use Rattle.std.proofs.Common.{◌≡◌, ℕ, ◌<◌, ◌==◌, Bool, true, false, cond, if◌then◌else◌, List, [], ◌∷◌, ◌++◌, filter, length, slice_get, Some, refl, sym, ap, ◌∙◌, subst, eq-eqb, eqb-true}
use Rattle.std.specs.List.{AllByRecursion, Contains}
use Rattle.std.proofs.lemmas.List.Elements.{All-from_recursion, All-contains}
use Rattle.std.proofs.lemmas.Bool.{and_parts}
use Rattle.room_kinds.specs.declared.message.Msg.{Msg}
use Rattle.room_kinds.specs.declared.numbers.Endpoint.{Endpoint}
use Rattle.room_kinds.specs.declared.system.SysKind.{SysKind}
use Rattle.room_kinds.specs.declared.system.SysKind.TheVariants as kinds
use Rattle.journal.specs.declared.entry.Entry.{Entry}
use Rattle.journal.specs.declared.entry.Entry.TheVariants as entry
use Rattle.room_wiring.specs.declared.tables.Tables.{Tables}
use Rattle.actor_merge.specs.Mail.{event_of}
use Rattle.actor_merge.specs.Parties.{State, Line, Taken, put, stamped, next_of, fetch, turn, post, Does}
use Rattle.actor_merge.specs.World.{World, Placed, start, Runs, controller_does}
use Rattle.actor_merge.proofs.Back.{Happened, controller, environment, happened, own_of}
use Rattle.actor_duties.specs.Words.{whose}
use Rattle.actor_duties.specs.State.{Lives}
use Rattle.actor_world.specs.Behaviour.{Behaviour}
use Rattle.actor_world.specs.Body.{Body}
use Rattle.actor_world.specs.Turns.{all_kinds, treat}
use Rattle.actor_world.specs.Start.{first_state, plant_of}
use Rattle.actor_world.specs.Directories.{IsOpen, AreOpen}
use Rattle.actor_world.proofs.LifeSteps.{IsSound, made_sound, ended_sound}
use Rattle.law_agreement.specs.Trails.{contents, from_a, system_to, is_system_to, trail, leaves, comes}
use Rattle.law_agreement.specs.Imports.{IsRouted, PlacesAreLocal}
use Rattle.law_agreement.proofs.Lists.{all_append, all_later, all_before}
use Rattle.law_agreement.proofs.Hearing.{from_append}
use Rattle.law_agreement.proofs.Living.{Stepped, stays, makes, ends, first_whole}
use Rattle.law_agreement.proofs.Turning.{TurnSays, treat_says}
use Rattle.law_agreement.proofs.Moving.{Ranked, IsSorted, next_front, from_one, post_from, turn_from, world_after, controller_moves}
use Rattle.actor_world.proofs.TrueWorld.{put_own}
use Rattle.law_agreement.proofs.Agreeing.{IsForetold, first_carries, start_foretold, controller_foretold, environment_foretold, environment_moves, fresh_trail}
use Rattle.law_agreement.proofs.Lending.{runs_route}
use Rattle.law_names.specs.Created.{NamesTheCreated, last_at}
use Rattle.law_names.proofs.CreatedRuns.{runs_named, each_named}
use Rattle.law_definitions.specs.message_forms.Forms.{FormOf, HasForm, StandOnTrails}
use Rattle.law_definitions.proofs.message_forms.Inner.{InnerOf, Inner, AllSent}
use Rattle.law_definitions.proofs.message_forms.OnTrails.{LanesAreRanked, after_ranked, stand}
use Rattle.law_definitions.proofs.message_forms.Walking.{treat_sent, start_sent}

-- a system message of its inner form, from controller a to controller b
pub record IsOnTrail (t : Tables) (a b : ℕ) (m : Msg) : Type 0 where
  pub system : m.prio.0 ≡ 0
  pub inner : Inner t a b m

abbrev AllOnTrail : Tables → ℕ → ℕ → List Msg → Type 0
AllOnTrail t a b ms = AllByRecursion (IsOnTrail t a b) ms

trail_contents : (t : Tables) (a b d : ℕ) (ms : List Msg) → AllOnTrail t a b ms → AllOnTrail t a b (contents d ms)
unfolding contents
trail_contents t a b d [] h = tt
trail_contents t a b d (m ∷ ms) h =
    let k = h.0.inner in
    (record { system = h.0.system; inner = record { kind = k.kind; is = k.is; source = k.source; comes = k.comes; form = k.form } }, trail_contents t a b d ms h.1)

-- what is sent to controller b stands on the trail there
trail_system : (t : Tables) (a b : ℕ) (ms : List Msg) → AllSent t a ms → AllOnTrail t a b (system_to a b ms)
unfolding system_to
trail_system t a b ms h = trail_contents t a b a (filter (is_system_to b) ms) (passed ms h)
  where
    passed : (ms : List Msg) → AllSent t a ms → AllOnTrail t a b (filter (is_system_to b) ms)
    passed [] h = tt
    passed (m ∷ ms) h = go (is_system_to b m) refl (passed ms h.1)
      where
        go : (z : Bool) → is_system_to b m ≡ z → AllOnTrail t a b (filter (is_system_to b) ms) → AllOnTrail t a b (cond z (m ∷ filter (is_system_to b) ms) (filter (is_system_to b) ms))
        go true e k =
            let p = and_parts (b == m.to.0) (0 == m.prio.0) e in
            let zero : m.prio.0 ≡ 0 = sym (eqb-true 0 m.prio.0 p.1) in (
              record {
                system = zero;
                inner = subst (λ n. Inner t a n m) (sym (eqb-true b m.to.0 p.0)) (h.0 (eq-eqb m.prio.0 0 zero));
              },
              k,
            )
        go false e k = k

sound_step : (t : Tables) (me : ℕ) (l next : Lives) → Stepped t me l next → IsSound t me l → IsSound t me next
sound_step t me l next (stays e) h = subst (IsSound t me) (sym e) h
sound_step t me l next (makes p optional lives e) h = subst (IsSound t me) (sym e) (made_sound t me p l h)
sound_step t me l next (ends p optional e) h = subst (IsSound t me) (sym e) (ended_sound t me p l h)

module _ {M : Type 0} (model : Behaviour M) (clear : IsOpen model) (t : Tables) (lines : List Line) (clear_lines : AreOpen lines) where
  -- a world in which all that is on its way has its inner form
  record IsFormed (w : World (Body M)) : Type 0 where
    pub foretold : IsForetold t w
    pub lanes : LanesAreRanked w.lanes
    pub sound : (c : ℕ) → IsSound t c (w.controllers c).body.frame.lives
    pub formed : (a b : ℕ) → AllOnTrail t a b (trail w a b)

  does_sound : (c : ℕ) (s next : State (Body M)) (e : Entry) → IsSorted s → IsSound t c s.body.frame.lives → Does (plant_of model t lines) c s e next
      → IsSound t c next.body.frame.lives
  unfolding fetch turn post
  does_sound c s next (entry.Start who state ns) sorted h d = absurd d
  does_sound c s next (entry.Fetch stamp m) sorted h d = subst (λ (z : State (Body M) × Entry). IsSound t c z.0.body.frame.lives) d h
  does_sound c s next (entry.Post stamp m) sorted h d =
      let r = post_from model t lines c s next (entry.Post stamp m) s.outbox d in subst (λ (z : State (Body M) × Entry). IsSound t c z.0.body.frame.lives) r.3 h
  does_sound c s next (entry.Turn stamp from sent what ns) sorted h d =
      let r = turn_from model t lines c s next (entry.Turn stamp from sent what ns) s.outbox (next_of s.pending) d in
      let z : TurnSays t c s.body r.0.message (treat model t c s.body r.0.message) = treat_says model clear t c s.body r.0.message sorted.deferred in
      subst (λ (q : State (Body M) × Entry). IsSound t c q.0.body.frame.lives) r.3
      (sound_step t c s.body.frame.lives (treat model t c s.body r.0.message).body.frame.lives z.says.stepped h)

  module _ (w : World (Body M)) (inv : IsFormed w) (c : ℕ) where
    -- the message that a turn takes out of the system's list has its form
    hand_formed : (k : Taken) → next_of (w.controllers c).pending ≡ Some k → (k.message.prio.0 == 0) ≡ true → Inner t k.message.from.0 c k.message
    hand_formed k front zero =
        let f : ℕ = k.message.from.0 in
        let whole : (w.controllers c).pending k.priority ≡ k.message ∷ k.rest = next_front (w.controllers c).pending k front in
        let rank : k.message.prio.0 ≡ k.priority = (subst (Ranked k.priority) whole ((inv.foretold.sorted c).pending k.priority)).0 in
        let first : k.priority ≡ 0 = sym rank ∙ eqb-true k.message.prio.0 0 zero in
        let list : (w.controllers c).pending 0 ≡ k.message ∷ k.rest = ap (w.controllers c).pending (sym first) ∙ whole in
        let split : from_a f ((w.controllers c).pending 0) ≡ from_a f (k.message ∷ []) ++ from_a f k.rest = ap (from_a f) list ∙ from_append f (k.message ∷ []) k.rest in
        let all : AllOnTrail t f c (from_a f ((w.controllers c).pending 0)) = all_before (IsOnTrail t f c) (from_a f ((w.controllers c).pending 0)) _ (inv.formed f c) in
        let one : from_a f (k.message ∷ []) ≡ stamped f 0 k.message ∷ [] =
        from_one f k.message ∙ ap (λ (z : Bool). if z then stamped f 0 k.message ∷ [] else []) (eq-eqb f f refl) in
        let h : IsOnTrail t f c (stamped f 0 k.message) =
        (subst (AllOnTrail t f c) one (all_before (IsOnTrail t f c) (from_a f (k.message ∷ [])) (from_a f k.rest) (subst (AllOnTrail t f c) split all))).0 in
        let n = h.inner in
        record { kind = n.kind; is = n.is; source = n.source; comes = n.comes; form = n.form }

    come_formed : (e : Entry) (next : State (Body M)) → controller_does (plant_of model t lines) w c (event_of e) ≡ Some (next, e)
        → (a b : ℕ) → AllOnTrail t a b (comes (world_after model t lines w c e next) c e a b)
    unfolding turn put
    come_formed (entry.Start who state ns) next h a b = tt
    come_formed (entry.Fetch stamp m) next h a b = tt
    come_formed (entry.Post stamp m) next h a b = tt
    come_formed (entry.Turn stamp from sent what ns) next h a b = go (a == c) refl
      where
        all : AllSent t c next.outbox
        all =
            let r = turn_from model t lines c (w.controllers c) next (entry.Turn stamp from sent what ns) (w.controllers c).outbox (next_of (w.controllers c).pending) h in
            subst (λ (q : State (Body M) × Entry). AllSent t c q.0.outbox) r.3
            (treat_sent t c model clear (w.controllers c).body r.0.message (inv.sound c) (hand_formed r.0 r.2))

        go : (x : Bool) → (a == c) ≡ x → AllOnTrail t a b (if x then system_to a b (if x then next else w.controllers a).outbox else [])
        go true e = trail_system t a b next.outbox (subst (λ n. AllSent t n next.outbox) (sym (eqb-true a c e)) all)
        go false e = tt

    controller_formed : c < length t.controllers → (e : Entry) (next : State (Body M)) → controller_does (plant_of model t lines) w c (event_of e) ≡ Some (next, e)
        → IsFormed (world_after model t lines w c e next)
    controller_formed below e next h =
        record {
          foretold = controller_foretold model clear t lines clear_lines w inv.foretold c below e next h;
          lanes = after_ranked w c e inv.lanes;
          sound = put_own (λ k (z : State (Body M)). IsSound t k z.body.frame.lives) w.controllers c next inv.sound
              (does_sound c (w.controllers c) next e (inv.foretold.sorted c) (inv.sound c) (own_of (plant_of model t lines) w c e next h));
          formed = λ a b.
              all_later (IsOnTrail t a b) (leaves w c e a b) (trail (world_after model t lines w c e next) a b)
              (subst (AllOnTrail t a b) (sym (controller_moves model t lines clear w c e next (inv.foretold.sorted c) h a b))
              (all_append (IsOnTrail t a b) (trail w a b) (comes (world_after model t lines w c e next) c e a b) (inv.formed a b) (come_formed e next h a b)));
        }

  step_formed : (w : World (Body M)) (x : Placed) (next : World (Body M)) → IsFormed w → Happened (plant_of model t lines) w x next → IsFormed next
  step_formed w x next inv (controller below s does same) = subst IsFormed (sym same) (controller_formed w inv x.party below x.entry s does)
  step_formed w x next inv (environment is v does same) =
      subst IsFormed (sym same)
      (record {
        foretold = environment_foretold model clear t lines clear_lines w x.party x.entry v inv.foretold does;
        lanes = after_ranked w x.party x.entry inv.lanes;
        sound = inv.sound;
        formed = λ a b. subst (AllOnTrail t a b) (sym (environment_moves model clear t lines clear_lines w x.party x.entry v does a b)) (inv.formed a b);
      })

  run_formed : (xs : List Placed) (w end : World (Body M)) → IsFormed w → Runs (plant_of model t lines) w xs end → IsFormed end
  run_formed [] w end inv r = subst IsFormed (sym r) inv
  run_formed (x ∷ xs) w end inv r = run_formed xs r.0 end (step_formed w x r.0 inv (happened (plant_of model t lines) w x r.0 r.2)) r.3

  start_formed : IsFormed (start (plant_of model t lines))
  start_formed =
      record {
        foretold = start_foretold model clear t lines clear_lines;
        lanes = λ l. tt;
        sound = λ c. subst (IsSound t c) (sym (first_carries model clear t lines clear_lines c).lives) (first_whole t c).sound;
        formed = λ a b.
            subst (AllOnTrail t a b) (sym (fresh_trail a b (first_state model t a).outbox)) (trail_system t a b (first_state model t a).outbox (start_sent t a model clear));
      }

  pub runs_stand : (xs : List Placed) (end : World (Body M)) → Runs (plant_of model t lines) (start (plant_of model t lines)) xs end → StandOnTrails end
  runs_stand xs end r = let inv = run_formed xs (start (plant_of model t lines)) end start_formed r in stand end inv.foretold.sorted inv.lanes

-- the inner form of a system message, and who it goes between, are its form
formed : (t : Tables) (last : ℕ → ℕ) (a b : ℕ) (m : Msg) → (m.prio.0 == 0) ≡ true → IsRouted t a b m → NamesTheCreated t last a b m
    → (kind : SysKind) → slice_get all_kinds m.signal ≡ Some kind → (x : Endpoint) → m.source ≡ Some x
    → InnerOf t a b kind x m.target m.payload → FormOf t a b kind x m.target m.payload
formed t last a b m zero routed named kinds.Create is x comes h = h
formed t last a b m zero routed named kinds.CreateDone is x comes h = h
formed t last a b m zero routed named kinds.CreateRefused is x comes h = h
formed t last a b m zero routed named kinds.Destroy is x comes h = h
formed t last a b m zero routed named kinds.DestroyDone is x comes h = h
formed t last a b m zero routed named kinds.Import is x comes h = ((h.0, routed.forth (record { place = whose x; home = whose m.target }) (rw (zero, is, comes) refl)), h.1)
formed t last a b m zero routed named kinds.ImportDone is x comes h = ((h.0, routed.back (record { place = whose m.target; home = whose x }) (rw (zero, is, comes) refl)), h.1)
formed t last a b m zero routed named kinds.ImportRefused is x comes h = ((h.0, routed.back (record { place = whose m.target; home = whose x }) (rw (zero, is, comes) refl)), h.1)
formed t last a b m zero routed named kinds.ImportEnded is x comes h = ((h.0, routed.back (record { place = whose m.target; home = whose x }) (rw (zero, is, comes) refl)), h.1)
formed t last a b m zero routed named kinds.Deport is x comes h = ((h.0, routed.forth (record { place = whose x; home = whose m.target }) (rw (zero, is, comes) refl)), h.1)
formed t last a b m zero routed named kinds.DeportDone is x comes h = ((h.0, routed.back (record { place = whose m.target; home = whose x }) (rw (zero, is, comes) refl)), h.1)
formed t last a b m zero routed named kinds.Announce is x comes h = h
formed t last a b m zero routed named kinds.Register is x comes h =
    let k = named.asks x (rw (zero, is, comes) refl) in ((k.0, k.1, h.0), h.1)
formed t last a b m zero routed named kinds.Withdraw is x comes h =
    let k = named.asks x (rw (zero, is, comes) refl) in ((k.0, k.1, h.0), h.1)
formed t last a b m zero routed named kinds.Bound is x comes h =
    let k = named.tells m.target (rw (zero, is) refl) in ((k.0, k.1), h)
formed t last a b m zero routed named kinds.Ended is x comes h =
    let k = named.tells m.target (rw (zero, is) refl) in ((k.0, k.1), h)
formed t last a b m zero routed named kinds.NameReply is x comes h =
    let k = named.tells m.target (rw (zero, is) refl) in ((k.0, k.1), h.0, h.1)
formed t last a b m zero routed named kinds.PartMake is x comes h = h
formed t last a b m zero routed named kinds.PartEnd is x comes h = h

module _ {M : Type 0} (model : Behaviour M) (clear : IsOpen model) (t : Tables) (local : PlacesAreLocal t) (lines : List Line) (clear_lines : AreOpen lines) where
  pub runs_form : (xs : List Placed) (end : World (Body M)) → Runs (plant_of model t lines) (start (plant_of model t lines)) xs end
      → (a b : ℕ) (m : Msg) → Contains (trail end a b) m → HasForm t a b m
  runs_form xs end r a b m there =
      let all : AllOnTrail t a b (trail end a b) =
      (run_formed model clear t lines clear_lines xs (start (plant_of model t lines)) end (start_formed model clear t lines clear_lines) r).formed a b in
      let here : IsOnTrail t a b m = All-contains (IsOnTrail t a b) (trail end a b) m (All-from_recursion (IsOnTrail t a b) (trail end a b) all) there in
      let n = here.inner in
      let zero : (m.prio.0 == 0) ≡ true = eq-eqb m.prio.0 0 here.system in
      record {
        system = here.system;
        kind = n.kind;
        is = n.is;
        source = n.source;
        comes = n.comes;
        form = formed t (last_at t end) a b m zero (runs_route model clear t local lines clear_lines xs end r a b m there)
            (each_named t end (runs_named model clear t lines clear_lines xs end r) a b m there) n.kind n.is n.source n.comes n.form;
      }
