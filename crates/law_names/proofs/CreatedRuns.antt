-- Over every run of the world: messages on names go where they should, and all that they and the name tables
-- name was created.
use Rattle.std.proofs.Common.{◌≡◌, ℕ, ◌<◌, ◌≤◌, ◌==◌, Bool, true, false, cond, if◌then◌else◌, List, [], ◌∷◌, ◌++◌, filter, length, Option, Some, None, refl, sym, ap, ◌∙◌, subst, eq-eqb, eqb-true, append-nil, arith}
use Rattle.std.specs.List.{AllByRecursion, Contains}
use Rattle.std.proofs.lemmas.List.Elements.{All-from_recursion, All-contains}
use Rattle.std.proofs.lemmas.Bool.{and_parts}
use Rattle.room_kinds.specs.declared.message.Msg.{Msg}
use Rattle.room_kinds.specs.declared.numbers.Incarnation.{Incarnation}
use Rattle.room_kinds.specs.declared.numbers.Endpoint.{Endpoint}
use Rattle.room_kinds.specs.declared.command.Command.{Command}
use Rattle.room_kinds.specs.declared.command.Command.TheVariants as commands
use Rattle.room_kinds.specs.declared.command.NameCommand.{NameCommand}
use Rattle.journal.specs.declared.entry.Entry.{Entry}
use Rattle.journal.specs.declared.entry.Entry.TheVariants as entry
use Rattle.room_wiring.specs.declared.tables.Tables.{Tables}
use Rattle.actor_merge.specs.Mail.{event_of}
use Rattle.actor_merge.specs.Parties.{State, Line, Taken, put, stamped, next_of, fetch, turn, turned, post}
use Rattle.actor_merge.specs.World.{World, Placed, start, Runs, controller_does}
use Rattle.actor_merge.proofs.Back.{Happened, controller, environment, happened, own_of}
use Rattle.actor_duties.specs.Words.{owner_of, whose}
use Rattle.actor_duties.specs.State.{Lives, Links, User, Provider, Service, NameTable}
use Rattle.actor_world.specs.Behaviour.{Behaviour}
use Rattle.actor_world.specs.Body.{Body}
use Rattle.actor_world.specs.Turns.{treat}
use Rattle.actor_world.specs.Start.{first_lives, first_state, plant_of}
use Rattle.actor_world.specs.Directories.{IsOpen, AreOpen}
use Rattle.law_agreement.specs.Trails.{contents, from_a, system_to, is_system_to, trail, leaves, comes}
use Rattle.law_agreement.proofs.Lists.{all_append, all_later, all_before}
use Rattle.law_agreement.proofs.Hearing.{from_append}
use Rattle.actor_world.proofs.TrueTurns.{own_owner}
use Rattle.law_agreement.proofs.Moving.{Ranked, next_front, from_one, kept_by, post_from, turn_from, world_after, controller_moves}
use Rattle.law_agreement.proofs.Agreeing.{IsForetold, start_foretold, controller_foretold, environment_foretold, environment_moves, world_then, fresh_trail}
use Rattle.law_names.specs.Asking.{AllAsk}
use Rattle.law_names.specs.Created.{asker, last_at, IsCreated, NamesTheCreated, TableIsCreated}
use Rattle.law_names.proofs.Naming.{AsksSo, Turns, treat_turns, start_asks, start_lives, start_table}
use Rattle.law_names.proofs.Creating.{AllSent, ProviderIs, UsersAre, ServiceIs, TableIs, AreHere, SentHere, sent_here, TurnCreates, turn_creates, turn_rises}

-- an incarnation was created, where these were the last generations
abbrev pub WasCreated : (ℕ → ℕ) → Incarnation → Type 0
WasCreated last x = x.generation.0 ≤ last x.slot.0

-- messages on a trail name what was created
abbrev pub AllNamed : Tables → (ℕ → ℕ) → ℕ → ℕ → List Msg → Type 0
AllNamed t last a b ms = AllByRecursion (NamesTheCreated t last a b) ms

-- more was created
abbrev Rise : (ℕ → ℕ) → (ℕ → ℕ) → Type 0
Rise last next = (s : ℕ) → last s ≤ next s

created_still : (last next : ℕ → ℕ) → Rise last next → (e : Endpoint) → IsCreated last e → IsCreated next e
created_still last next rise e h = let k = rise e.slot.0 in omega (arith, h, k)

named_still : (t : Tables) (last next : ℕ → ℕ) → Rise last next → (a b : ℕ) (ms : List Msg) → AllNamed t last a b ms → AllNamed t next a b ms
named_still t last next rise a b [] h = tt
named_still t last next rise a b (m ∷ ms) h =
    let k = h.0 in (
      record {
        asks = λ e q. (let r = k.asks e q in (r.0, r.1, created_still last next rise e r.2));
        tells = λ e q. (let r = k.tells e q in (r.0, r.1, created_still last next rise e r.2));
        peers = λ e q. created_still last next rise e (k.peers e q);
      },
      named_still t last next rise a b ms h.1,
    )

module _ (t : Tables) (last next : ℕ → ℕ) (rise : Rise last next) where
  provider_still : (o : Option Provider) → ProviderIs t (WasCreated last) o → ProviderIs t (WasCreated next) o
  provider_still None h = tt
  provider_still (Some p) h = created_still last next rise p.at h

  users_still : (us : List User) → UsersAre t (WasCreated last) us → UsersAre t (WasCreated next) us
  users_still [] h = tt
  users_still (u ∷ us) h = (created_still last next rise u.at h.0, users_still us h.1)

  table_still : (table : NameTable) → TableIs t (WasCreated last) table → TableIs t (WasCreated next) table
  table_still [] h = tt
  table_still (s ∷ table) h = ((provider_still s.provider h.0.0, users_still s.users h.0.1), table_still table h.1)

-- what is sent to controller b comes into the trail to it
named_contents : (t : Tables) (last : ℕ → ℕ) (a b : ℕ) (ms : List Msg) → AllNamed t last a b ms → AllNamed t last a b (contents a ms)
unfolding contents
named_contents t last a b [] h = tt
named_contents t last a b (m ∷ ms) h = let k = h.0 in (record { asks = k.asks; tells = k.tells; peers = k.peers }, named_contents t last a b ms h.1)

sent_named : (t : Tables) (last : ℕ → ℕ) (a b : ℕ) (ms : List Msg) → AllSent t (WasCreated last) a ms → AllNamed t last a b (system_to a b ms)
unfolding system_to
sent_named t last a b ms h = named_contents t last a b (filter (is_system_to b) ms) (passed ms h)
  where
    passed : (ms : List Msg) → AllSent t (WasCreated last) a ms → AllNamed t last a b (filter (is_system_to b) ms)
    passed [] h = tt
    passed (m ∷ ms) h = go (is_system_to b m) refl (passed ms h.1)
      where
        here : b ≡ m.to.0 → NamesTheCreated t last a b m
        here same =
            let k = h.0 in
            record {
              asks = λ e q. (let r = k.asks e q in (r.0, same ∙ r.1, r.2));
              tells = λ e q. (let r = k.tells e q in (r.0, r.1 ∙ sym same, r.2));
              peers = λ e q. k.peers e q;
            }

        go : (z : Bool) → is_system_to b m ≡ z → AllNamed t last a b (filter (is_system_to b) ms)
            → AllNamed t last a b (cond z (m ∷ filter (is_system_to b) ms) (filter (is_system_to b) ms))
        go true e k = (here (eqb-true b m.to.0 (and_parts (b == m.to.0) (0 == m.prio.0) e).0), k)
        go false e k = k

-- a world in which all messages on names, and all name tables, name what was created
pub record IsNamed {M : Type 0} (t : Tables) (w : World (Body M)) : Type 0 where
  pub foretold : IsForetold t w
  pub named : (a b : ℕ) → AllNamed t (last_at t w) a b (trail w a b)
  pub tables : (c : ℕ) → TableIs t (WasCreated (last_at t w)) (w.controllers c).body.table

-- every behaviour asks somehow
pub ask_somehow : {M : Type 0} (model : Behaviour M) → AsksSo (λ x c. Unit {0}) model
ask_somehow model = record { begin = λ x. each (model.begin x).commands; handle = λ x machine m. each (model.handle x machine m).commands }
  where
    each : (cs : List Command) → AllAsk (λ (c : NameCommand). Unit {0}) cs
    each [] = tt
    each (commands.Name c ∷ cs) = (tt, each cs)
    each (commands.Send p k signal payload prio ∷ cs) = each cs
    each (commands.Defer ∷ cs) = each cs
    each (commands.Recall ∷ cs) = each cs
    each (commands.RecallAll ∷ cs) = each cs
    each (commands.Frame c ∷ cs) = each cs

module _ {M : Type 0} (model : Behaviour M) (clear : IsOpen model) (t : Tables) (lines : List Line) (clear_lines : AreOpen lines) where
  module _ (w : World (Body M)) (inv : IsNamed t w) (c : ℕ) where
    -- the message that a turn takes out of the system's list stood on its trail
    pub hand_named : (k : Taken) → next_of (w.controllers c).pending ≡ Some k → (k.message.prio.0 == 0) ≡ true → NamesTheCreated t (last_at t w) k.message.from.0 c k.message
    hand_named k front zero =
        let f : ℕ = k.message.from.0 in
        let last : ℕ → ℕ = last_at t w in
        let whole : (w.controllers c).pending k.priority ≡ k.message ∷ k.rest = next_front (w.controllers c).pending k front in
        let rank : k.message.prio.0 ≡ k.priority = (subst (Ranked k.priority) whole ((inv.foretold.sorted c).pending k.priority)).0 in
        let first : k.priority ≡ 0 = sym rank ∙ eqb-true k.message.prio.0 0 zero in
        let list : (w.controllers c).pending 0 ≡ k.message ∷ k.rest = ap (w.controllers c).pending (sym first) ∙ whole in
        let split : from_a f ((w.controllers c).pending 0) ≡ from_a f (k.message ∷ []) ++ from_a f k.rest = ap (from_a f) list ∙ from_append f (k.message ∷ []) k.rest in
        let all : AllNamed t last f c (from_a f ((w.controllers c).pending 0)) = all_before (NamesTheCreated t last f c) (from_a f ((w.controllers c).pending 0)) _ (inv.named f c) in
        let one : from_a f (k.message ∷ []) ≡ stamped f 0 k.message ∷ [] =
        from_one f k.message ∙ ap (λ (z : Bool). if z then stamped f 0 k.message ∷ [] else []) (eq-eqb f f refl) in
        let h : NamesTheCreated t last f c (stamped f 0 k.message) =
        (subst (AllNamed t last f c) one (all_before (NamesTheCreated t last f c) (from_a f (k.message ∷ [])) (from_a f k.rest) (subst (AllNamed t last f c) split all))).0 in
        record { asks = h.asks; tells = h.tells; peers = h.peers }

    -- a turn of this controller
    module _ (e : Entry) (next : State (Body M)) (k : Taken) (front : next_of (w.controllers c).pending ≡ Some k)
        (same : next ≡ (turned (w.controllers c) k (treat model t c (w.controllers c).body k.message)).0) where
      abbrev After : World (Body M)
      After = world_after model t lines w c e next

      abbrev TurnsSo : Type 0
      TurnsSo = Turns t c (λ x c. Unit {0}) (SentHere t (WasCreated (last_at t After)) c) (w.controllers c).body k.message (treat model t c (w.controllers c).body k.message)

      turns_so : TurnsSo
      turns_so =
          treat_turns t c (λ x c. Unit {0}) (SentHere t (WasCreated (last_at t After)) c) (sent_here t (WasCreated (last_at t After)) c) model clear (ask_somehow model)
          (w.controllers c).body k.message

      after_body : next.body ≡ (treat model t c (w.controllers c).body k.message).body
      after_body = ap (λ (z : State (Body M)). z.body) same

      pub rise_after : Rise (last_at t w) (last_at t After)
      unfolding put
      rise_after s = go (owner_of t s == c) refl
        where
          go : (z : Bool) → (owner_of t s == c) ≡ z
              → (w.controllers (owner_of t s)).body.frame.lives.generation s ≤ (if z then next else w.controllers (owner_of t s)).body.frame.lives.generation s
          go true is =
              subst (λ n. (w.controllers n).body.frame.lives.generation s ≤ next.body.frame.lives.generation s) (sym (eqb-true (owner_of t s) c is))
              (subst (λ (z : Body M). (w.controllers c).body.frame.lives.generation s ≤ z.frame.lives.generation s) (sym after_body)
              (turn_rises t (WasCreated (last_at t After)) c (w.controllers c).body k.message (λ x c. Unit {0}) (SentHere t (WasCreated (last_at t After)) c) _ turns_so s))
          go false apart = omega arith

      -- what stands here was created
      here_after : AreHere t (WasCreated (last_at t After)) c (treat model t c (w.controllers c).body k.message).body.frame.lives
      unfolding put
      here_after x own below = go (owner_of t x.slot.0 == c) (eq-eqb (owner_of t x.slot.0) c (own_owner t c x.slot.0 own))
        where
          go : (z : Bool) → z ≡ true → x.generation.0 ≤ (if z then next else w.controllers (owner_of t x.slot.0)).body.frame.lives.generation x.slot.0
          go true e = subst (λ (z : Body M). x.generation.0 ≤ z.frame.lives.generation x.slot.0) (sym after_body) below
          go false e = absurd cc

      pub creates : TurnCreates t (WasCreated (last_at t After)) c (w.controllers c).body k.message (treat model t c (w.controllers c).body k.message)
      creates =
          turn_creates t (WasCreated (last_at t After)) c (w.controllers c).body k.message _ turns_so
          (table_still t (last_at t w) (last_at t After) rise_after (w.controllers c).body.table (inv.tables c)) hand here_after
        where
          hand : (x : Endpoint) → asker k.message ≡ Some x → WasCreated (last_at t After) (whose x)
          hand x q = go (k.message.prio.0 == 0) refl
            where
              go : (z : Bool) → (k.message.prio.0 == 0) ≡ z → IsCreated (last_at t After) x
              go true zero = created_still (last_at t w) (last_at t After) rise_after x ((hand_named k front zero).asks x q).2
              go false high = (let n : None ≡ Some x = rw high at q in absurd cc)

      pub turn_comes : (a b : ℕ) → AllNamed t (last_at t After) a b (if a == c then system_to a b (put w.controllers c next a).outbox else [])
      unfolding put
      turn_comes a b = go (a == c) refl
        where
          go : (x : Bool) → (a == c) ≡ x → AllNamed t (last_at t After) a b (if x then system_to a b (if x then next else w.controllers a).outbox else [])
          go true is =
              sent_named t (last_at t After) a b next.outbox
              (subst (λ n. AllSent t (WasCreated (last_at t After)) n next.outbox) (sym (eqb-true a c is))
              (subst (λ (q : State (Body M)). AllSent t (WasCreated (last_at t After)) c q.outbox) (sym same) creates.sent))
          go false is = tt

      pub turn_tables : (n : ℕ) → TableIs t (WasCreated (last_at t After)) (put w.controllers c next n).body.table
      unfolding put
      turn_tables n = go (n == c)
        where
          go : (z : Bool) → TableIs t (WasCreated (last_at t After)) (if z then next else w.controllers n).body.table
          go true = subst (λ (q : State (Body M)). TableIs t (WasCreated (last_at t After)) q.body.table) (sym same) creates.table
          go false = table_still t (last_at t w) (last_at t After) rise_after (w.controllers n).body.table (inv.tables n)

  -- an event that touches no body and no trail
  untouched : (w v : World (Body M)) → IsNamed t w → IsForetold t v → ((n : ℕ) → (v.controllers n).body ≡ (w.controllers n).body)
      → ((a b : ℕ) → trail v a b ≡ trail w a b) → IsNamed t v
  untouched w v inv foretold bodies trails =
      record {
        foretold = foretold;
        named = λ a b. subst (AllNamed t (last_at t v) a b) (sym (trails a b)) (named_still t (last_at t w) (last_at t v) rise a b (trail w a b) (inv.named a b));
        tables = λ c. subst (λ (z : Body M). TableIs t (WasCreated (last_at t v)) z.table) (sym (bodies c))
            (table_still t (last_at t w) (last_at t v) rise (w.controllers c).body.table (inv.tables c));
      }
    where
      rise : Rise (last_at t w) (last_at t v)
      rise s =
          subst (λ (z : Body M). (w.controllers (owner_of t s)).body.frame.lives.generation s ≤ z.frame.lives.generation s) (sym (bodies (owner_of t s))) (omega arith)

  controller_named : (w : World (Body M)) → IsNamed t w → (c : ℕ) → c < length t.controllers → (e : Entry) (next : State (Body M))
      → controller_does (plant_of model t lines) w c (event_of e) ≡ Some (next, e) → IsNamed t (world_after model t lines w c e next)
  unfolding turn post fetch
  controller_named w inv c below (entry.Start who state ns) next does = absurd cc
  controller_named w inv c below (entry.Fetch stamp m) next does =
      let e : Entry = entry.Fetch stamp m in
      let r : fetch (w.controllers c) m ≡ (next, e) = own_of (plant_of model t lines) w c e next does in
      untouched w (world_after model t lines w c e next) inv (controller_foretold model clear t lines clear_lines w inv.foretold c below e next does)
      (kept_by (λ (z : State (Body M)). z.body) w.controllers c next (sym (ap (λ (z : State (Body M) × Entry). z.0.body) r)))
      (λ a b. controller_moves model t lines clear w c e next (inv.foretold.sorted c) does a b ∙ append-nil (trail w a b))
  controller_named w inv c below (entry.Post stamp m) next does =
      let e : Entry = entry.Post stamp m in
      let r = post_from model t lines c (w.controllers c) next e (w.controllers c).outbox does in
      untouched w (world_after model t lines w c e next) inv (controller_foretold model clear t lines clear_lines w inv.foretold c below e next does)
      (kept_by (λ (z : State (Body M)). z.body) w.controllers c next (sym (ap (λ (z : State (Body M) × Entry). z.0.body) r.3)))
      (λ a b. controller_moves model t lines clear w c e next (inv.foretold.sorted c) does a b ∙ append-nil (trail w a b))
  controller_named w inv c below (entry.Turn stamp from sent what ns) next does =
      let e : Entry = entry.Turn stamp from sent what ns in
      let r = turn_from model t lines c (w.controllers c) next e (w.controllers c).outbox (next_of (w.controllers c).pending) does in
      let same : next ≡ (turned (w.controllers c) r.0 (treat model t c (w.controllers c).body r.0.message)).0 = sym (ap (λ (z : State (Body M) × Entry). z.0) r.3) in
      let v : World (Body M) = world_after model t lines w c e next in
      let rise : Rise (last_at t w) (last_at t v) = rise_after w inv c e next r.0 r.2 same in
      record {
        foretold = controller_foretold model clear t lines clear_lines w inv.foretold c below e next does;
        named = λ a b.
            all_later (NamesTheCreated t (last_at t v) a b) (leaves w c e a b) (trail v a b)
            (subst (AllNamed t (last_at t v) a b) (sym (controller_moves model t lines clear w c e next (inv.foretold.sorted c) does a b))
            (all_append (NamesTheCreated t (last_at t v) a b) (trail w a b) (comes v c e a b)
            (named_still t (last_at t w) (last_at t v) rise a b (trail w a b) (inv.named a b)) (turn_comes w inv c e next r.0 r.2 same a b)));
        tables = turn_tables w inv c e next r.0 r.2 same;
      }

  pub step_named : (w : World (Body M)) (x : Placed) (next : World (Body M)) → IsNamed t w → Happened (plant_of model t lines) w x next → IsNamed t next
  step_named w x next inv (controller below s does same) = subst (IsNamed t) (sym same) (controller_named w inv x.party below x.entry s does)
  step_named w x next inv (environment is v does same) =
      subst (IsNamed t) (sym same)
      (untouched w (world_then model clear t lines clear_lines w x.party x.entry v) inv
      (environment_foretold model clear t lines clear_lines w x.party x.entry v inv.foretold does) (λ n. refl)
      (λ a b. environment_moves model clear t lines clear_lines w x.party x.entry v does a b))

  run_named : (xs : List Placed) (w end : World (Body M)) → IsNamed t w → Runs (plant_of model t lines) w xs end → IsNamed t end
  run_named [] w end inv r = subst (IsNamed t) (sym r) inv
  run_named (x ∷ xs) w end inv r = run_named xs r.0 end (step_named w x r.0 inv (happened (plant_of model t lines) w x r.0 r.2)) r.3

  abbrev Started : World (Body M)
  Started = start (plant_of model t lines)

  abbrev SentAt : ℕ → Lives → Links → List Msg → Links → Type 0
  SentAt c = SentHere t (WasCreated (last_at t Started)) c

  -- what a controller sends at its start
  pub start_sent : (a : ℕ) → AllSent t (WasCreated (last_at t Started)) a (first_state model t a).outbox
  unfolding SentHere
  start_sent a =
      start_asks t a (λ x c. Unit {0}) (SentAt a) (sent_here t (WasCreated (last_at t Started)) a) model clear (ask_somehow model) here
    where
      here : AreHere t (WasCreated (last_at t Started)) a (first_lives t a)
      here x own below =
          let same : owner_of t x.slot.0 ≡ a = own_owner t a x.slot.0 own in
          let lives : (first_state model t a).body.frame.lives ≡ first_lives t a =
          start_lives t a (λ x c. Unit {0}) (SentAt a) (sent_here t (WasCreated (last_at t Started)) a) model clear (ask_somehow model) in
          subst (λ n. x.generation.0 ≤ (first_state model t n).body.frame.lives.generation x.slot.0) (sym same)
          (subst (λ (z : Lives). x.generation.0 ≤ z.generation x.slot.0) (sym lives) below)

  pub start_named : IsNamed t Started
  start_named =
      record {
        foretold = start_foretold model clear t lines clear_lines;
        named = λ a b.
            subst (AllNamed t (last_at t Started) a b) (sym (fresh_trail a b (first_state model t a).outbox))
            (sent_named t (last_at t Started) a b (first_state model t a).outbox (start_sent a));
        tables = λ c. subst (TableIs t (WasCreated (last_at t Started))) (sym (start_table t c (λ x c. Unit {0}) (SentAt c) (sent_here t (WasCreated (last_at t Started)) c) model clear (ask_somehow model))) tt;
      }

  pub runs_named : (xs : List Placed) (end : World (Body M)) → Runs (plant_of model t lines) (start (plant_of model t lines)) xs end → IsNamed t end
  runs_named xs end r = run_named xs (start (plant_of model t lines)) end start_named r

-- each message and each entry of a table by itself
pub each_named : {M : Type 0} (t : Tables) (w : World (Body M)) → IsNamed t w → (a b : ℕ) (m : Msg) → Contains (trail w a b) m → NamesTheCreated t (last_at t w) a b m
each_named t w inv a b m there =
    All-contains (NamesTheCreated t (last_at t w) a b) (trail w a b) m (All-from_recursion (NamesTheCreated t (last_at t w) a b) (trail w a b) (inv.named a b)) there

pub table_created : (t : Tables) (last : ℕ → ℕ) (table : NameTable) → TableIs t (WasCreated last) table → TableIsCreated last table
table_created t last table h =
    record {
      users = λ s u there stands.
          All-contains (λ (u : User). WasCreated last (whose u.at)) s.users u
          (All-from_recursion (λ (u : User). WasCreated last (whose u.at)) s.users (service s there).1) stands;
      providers = λ s p there is. subst (ProviderIs t (WasCreated last)) is (service s there).0;
    }
  where
    service : (s : Service) → Contains table s → ServiceIs t (WasCreated last) s
    service s there = All-contains (ServiceIs t (WasCreated last)) table s (All-from_recursion (ServiceIs t (WasCreated last)) table h) there
