-- Over every run of the world: each endpoint is in one of the rows; and at quiet registrations are settled.
use Rattle.std.proofs.Common.{◌≡◌, ℕ, ◌==◌, ◌⊎◌, inl, inr, nat_le, Bool, true, false, if◌then◌else◌, List, [], ◌∷◌, ◌++◌, flat_map, Option, Some, None, refl, sym, ap, ◌∙◌, subst, eq-eqb, eqb-true, append-nil}
use Rattle.std.specs.List.{AllByRecursion}
use Rattle.std.proofs.lemmas.Bool.{eqb-false}
use Rattle.room_kinds.specs.declared.message.Msg.{Msg}
use Rattle.room_kinds.specs.declared.numbers.Incarnation.{Incarnation}
use Rattle.room_kinds.specs.declared.numbers.Stamp.{Stamp}
use Rattle.room_kinds.specs.declared.numbers.ControllerId.{ControllerId}
use Rattle.room_kinds.specs.declared.numbers.Endpoint.{Endpoint}
use Rattle.room_kinds.specs.declared.note.Note.{Note}
use Rattle.room_kinds.specs.declared.system.SysKind.{SysKind}
use Rattle.room_kinds.specs.declared.system.SysKind.TheVariants as kinds
use Rattle.journal.specs.declared.entry.Did.{Did}
use Rattle.journal.specs.declared.entry.Entry.{Entry}
use Rattle.journal.specs.declared.entry.Entry.TheVariants as entry
use Rattle.room_wiring.specs.declared.tables.Tables.{Tables}
use Rattle.actor_merge.specs.Mail.{event_of}
use Rattle.actor_merge.specs.Parties.{State, Line, Taken, Treated, put, stamped, next_of, fetch, turn, turned, post}
use Rattle.actor_merge.specs.World.{World, Placed, start, Runs, controller_does}
use Rattle.actor_merge.proofs.Back.{Happened, controller, environment, happened, own_of}
use Rattle.actor_duties.specs.Words.{owner_of, whose, incarnation}
use Rattle.actor_duties.specs.Lives.{is_live}
use Rattle.actor_duties.specs.Links.{point_of}
use Rattle.actor_duties.specs.State.{Lives, Unnamed}
use Rattle.actor_duties.specs.Names.{table_duty}
use Rattle.actor_world.specs.Behaviour.{Behaviour}
use Rattle.actor_world.specs.Body.{Body}
use Rattle.actor_world.specs.Turns.{treat}
use Rattle.actor_world.specs.Start.{first_lives, first_links, first_state, plant_of}
use Rattle.actor_world.specs.Directories.{IsOpen, AreOpen}
use Rattle.law_agreement.specs.Trails.{system_to, is_system_to, trail, taken_from, leaves, comes}
use Rattle.law_agreement.proofs.Moving.{Ranked, next_front, kept_by, post_from, turn_from, world_after, controller_moves}
use Rattle.law_agreement.proofs.Agreeing.{put_each, environment_moves, world_then, fresh_trail}
use Rattle.law_names.specs.Created.{asker_by, asker, hearer_by, hearer, last_at, NamesTheCreated}
use Rattle.law_names.specs.Registrations.{IsOfPoint, RegistersPoints, Stage, NotYet, is_point, stage_by, stage, asked, replied, stands, IsRow, stage_in, AreInRows}
use Rattle.law_names.proofs.OffNames.{AllOffNames, links_off}
use Rattle.law_names.proofs.Naming.{AsksSo, IsOf, is_table_kind, is_links_kind, Turns, treats, hears, leads, treat_turns, start_asks, start_lives, start_table}
use Rattle.law_names.proofs.Creating.{off_nobody, AllSent, table_asks}
use Rattle.law_names.proofs.CreatedRuns.{WasCreated, IsNamed, hand_named, creates, step_named, start_sent, start_named}
use Rattle.law_names.proofs.Rows.{stage_after, row_replied, TableStep, asks_known, row_treated}
use Rattle.law_names.proofs.Standing.{flat_append, table_steps}
use Rattle.law_names.proofs.Tokens.{asked_asker, replied_hearer, asked_none, replied_none, all_asked_none, off_asked, off_replied}
use Rattle.law_names.proofs.Registering.{NamesHere, RowsOn, GoesOn, goes_on, after_all, links_names, links_hears}
use Rattle.law_names.proofs.RowTurns.{items_system, items_taken, lead_rows}

-- a message of a kind that registrations and links hear asks nobody, and one that the table treats tells nobody
asks_nobody : (m : Msg) (kind : SysKind) → is_links_kind kind ≡ true → IsOf m kind → asker m ≡ None
asks_nobody m kind test is = rw (is.0, is.1) (go kind test)
  where
    go : (kind : SysKind) → is_links_kind kind ≡ true → asker_by (Some kind) m.source ≡ None
    go kinds.Bound h = refl
    go kinds.Ended h = refl
    go kinds.NameReply h = refl
    go kind h = absurd cc

tells_nobody : (m : Msg) (kind : SysKind) → is_table_kind kind ≡ true → IsOf m kind → hearer m ≡ None
tells_nobody m kind test is = rw (is.0, is.1) (go kind test)
  where
    go : (kind : SysKind) → is_table_kind kind ≡ true → hearer_by (Some kind) m.target ≡ None
    go kinds.Register h = refl
    go kinds.Withdraw h = refl
    go kind h = absurd cc

-- replies come to an endpoint one after another
row_heard : (t : Tables) (e : Endpoint) (z : Stage) (forth : List SysKind) (n : ℕ) (codes back : List ℕ) → IsRow z forth n (codes ++ back) → IsRow (after_all t e z codes) forth n back
row_heard t e z forth n [] back h = h
row_heard t e z forth n (code ∷ codes) back h = row_heard t e (stage_after z code) forth n codes back (row_replied z forth n code (codes ++ back) h)

-- what has items for an endpoint goes where it should
module _ (t : Tables) (Q : Incarnation → Type 0) (c : ℕ) (e : Endpoint) where
  asks_go : (ms : List Msg) → AllSent t Q c ms → AllByRecursion (λ (m : Msg). (asked e m ≡ []) ⊎ ((owner_of t e.slot.0 ≡ c) × (is_system_to 0 m ≡ true))) ms
  asks_go [] h = tt
  asks_go (m ∷ ms) h = (go (asked e m) refl, asks_go ms h.1)
    where
      go : (z : List SysKind) → asked e m ≡ z → (asked e m ≡ []) ⊎ ((owner_of t e.slot.0 ≡ c) × (is_system_to 0 m ≡ true))
      go [] q = inl q
      go (kind ∷ more) q =
          let is = asked_asker e m kind more q in
          let to = h.0.asks e is.1 in
          inr (to.0, rw (eq-eqb 0 m.to.0 (sym to.1), eq-eqb 0 m.prio.0 (sym (eqb-true m.prio.0 0 is.0))) refl)

  replies_go : (ms : List Msg) → AllSent t Q c ms → AllByRecursion (λ (m : Msg). (replied e m ≡ []) ⊎ ((0 ≡ c) × (is_system_to (owner_of t e.slot.0) m ≡ true))) ms
  replies_go [] h = tt
  replies_go (m ∷ ms) h = (go (replied e m) refl, replies_go ms h.1)
    where
      go : (z : List ℕ) → replied e m ≡ z → (replied e m ≡ []) ⊎ ((0 ≡ c) × (is_system_to (owner_of t e.slot.0) m ≡ true))
      go [] q = inl q
      go (code ∷ more) q =
          let is = replied_hearer e m code more q in
          let to = h.0.tells e is.1 in
          inr (sym to.0, rw (eq-eqb (owner_of t e.slot.0) m.to.0 to.1, eq-eqb 0 m.prio.0 (sym (eqb-true m.prio.0 0 is.0))) refl)

module _ {M : Type 0} (model : Behaviour M) (clear : IsOpen model) (t : Tables) (points : RegistersPoints t model) (lines : List Line) (clear_lines : AreOpen lines) where
  -- a world in which each endpoint is in a row
  pub record IsRowed (w : World (Body M)) : Type 0 where
    pub named : IsNamed t w
    pub here : (c : ℕ) → NamesHere t (w.controllers c).body.frame.lives (w.controllers c).body.links
    pub rows : AreInRows t w

  asks_points : AsksSo (IsOfPoint t) model
  asks_points = record { begin = points.begin; handle = points.handle }

  -- a turn of controller c, which takes out k
  module _ (w : World (Body M)) (inv : IsRowed w) (c : ℕ) (stamp : Stamp) (from : ControllerId) (when : Stamp) (what : Did) (ns : List Note) (next : State (Body M)) (k : Taken)
      (front : next_of (w.controllers c).pending ≡ Some k)
      (same : next ≡ (turned (w.controllers c) k (treat model t c (w.controllers c).body k.message)).0)
      (moves : (a b : ℕ) → leaves w c (entry.Turn stamp from when what ns) a b ++ trail (world_after model t lines w c (entry.Turn stamp from when what ns) next) a b
      ≡ trail w a b ++ comes (world_after model t lines w c (entry.Turn stamp from when what ns) next) c (entry.Turn stamp from when what ns) a b) where
    abbrev Event : Entry
    Event = entry.Turn stamp from when what ns

    abbrev After : World (Body M)
    After = world_after model t lines w c (entry.Turn stamp from when what ns) next

    abbrev Before : Body M
    Before = (w.controllers c).body

    abbrev Hand : Msg
    Hand = k.message

    abbrev Result : Treated (Body M)
    Result = treat model t c (w.controllers c).body k.message

    after_body : next.body ≡ Result.body
    after_body = ap (λ (z : State (Body M)). z.body) same

    after_box : next.outbox ≡ Result.sent
    after_box = ap (λ (z : State (Body M)). z.outbox) same

    all_sent : AllSent t (WasCreated (last_at t After)) c Result.sent
    all_sent = (creates model clear t lines clear_lines w inv.named c (entry.Turn stamp from when what ns) next k front same).sent

    priority_zero : (Hand.prio.0 == 0) ≡ true → 0 ≡ k.priority
    priority_zero zero =
        let whole : (w.controllers c).pending k.priority ≡ k.message ∷ k.rest = next_front (w.controllers c).pending k front in
        let rank : k.message.prio.0 ≡ k.priority = (subst (Ranked k.priority) whole ((inv.named.foretold.sorted c).pending k.priority)).0 in
        sym (eqb-true k.message.prio.0 0 zero) ∙ rank

    hand : (Hand.prio.0 == 0) ≡ true → NamesTheCreated t (last_at t w) Hand.from.0 c Hand
    hand zero = hand_named model clear t lines clear_lines w inv.named c k front zero

    -- the items of what leaves a trail, and of what comes into it
    module _ {X : Type 0} (items : Msg → List X) (unstamped : (a s : ℕ) (m : Msg) → items (stamped a s m) ≡ items m) (a b : ℕ)
        (stood : (items Hand ≡ []) ⊎ ((a ≡ Hand.from.0) × (b ≡ c) × (0 ≡ k.priority)))
        (goes : AllByRecursion (λ (m : Msg). (items m ≡ []) ⊎ ((a ≡ c) × (is_system_to b m ≡ true))) Result.sent) where
      left : flat_map items (leaves w c (entry.Turn stamp from when what ns) a b) ≡ items Hand
      left = go (b == c) refl stood
        where
          weak : (items Hand ≡ []) ⊎ ((a ≡ Hand.from.0) × (b ≡ c) × (0 ≡ k.priority)) → (items Hand ≡ []) ⊎ ((a ≡ Hand.from.0) × (0 ≡ k.priority))
          weak (inl none) = inl none
          weak (inr h) = inr (h.0, h.2)

          go : (z : Bool) → (b == c) ≡ z → (items Hand ≡ []) ⊎ ((a ≡ Hand.from.0) × (b ≡ c) × (0 ≡ k.priority))
              → flat_map items (if z then taken_from a (next_of (w.controllers b).pending) else []) ≡ items Hand
          go true is h =
              ap (λ (o : Option Taken). flat_map items (taken_from a o)) (ap (λ n. next_of (w.controllers n).pending) (eqb-true b c is) ∙ front)
              ∙ items_taken items unstamped a k (weak h)
          go false is (inl none) = sym none
          go false is (inr h) = absurd (eqb-false b c is h.1)

      none_sent : (a ≡ c → ⊥) → (ms : List Msg) → AllByRecursion (λ (m : Msg). (items m ≡ []) ⊎ ((a ≡ c) × (is_system_to b m ≡ true))) ms → flat_map items ms ≡ []
      none_sent apart [] h = refl
      none_sent apart (m ∷ ms) h = one h.0 (none_sent apart ms h.1)
        where
          one : (items m ≡ []) ⊎ ((a ≡ c) × (is_system_to b m ≡ true)) → flat_map items ms ≡ [] → items m ++ flat_map items ms ≡ []
          one (inl none) rest = ap (λ (z : List X). z ++ flat_map items ms) none ∙ rest
          one (inr h) rest = absurd (apart h.0)

      come : flat_map items (comes After c (entry.Turn stamp from when what ns) a b) ≡ flat_map items Result.sent
      unfolding put
      come = go (a == c) refl
        where
          all_there : (ms : List Msg) → AllByRecursion (λ (m : Msg). (items m ≡ []) ⊎ ((a ≡ c) × (is_system_to b m ≡ true))) ms
              → AllByRecursion (λ (m : Msg). (items m ≡ []) ⊎ (is_system_to b m ≡ true)) ms
          all_there [] h = tt
          all_there (m ∷ ms) h = (one h.0, all_there ms h.1)
            where
              one : (items m ≡ []) ⊎ ((a ≡ c) × (is_system_to b m ≡ true)) → (items m ≡ []) ⊎ (is_system_to b m ≡ true)
              one (inl none) = inl none
              one (inr h) = inr h.1

          go : (z : Bool) → (a == c) ≡ z → flat_map items (if z then system_to a b (if z then next else w.controllers a).outbox else []) ≡ flat_map items Result.sent
          go true is = ap (λ ms. flat_map items (system_to a b ms)) after_box ∙ items_system items unstamped a b Result.sent (all_there Result.sent goes)
          go false is = sym (none_sent (λ q. eqb-false a c is q) Result.sent goes)

      balance : items Hand ++ flat_map items (trail After a b) ≡ flat_map items (trail w a b) ++ flat_map items Result.sent
      balance =
          ap (λ (z : List X). z ++ flat_map items (trail After a b)) (sym left)
          ∙ sym (flat_append items (leaves w c (entry.Turn stamp from when what ns) a b) (trail After a b))
          ∙ ap (flat_map items) (moves a b)
          ∙ flat_append items (trail w a b) (comes After c (entry.Turn stamp from when what ns) a b)
          ∙ ap (λ (z : List X). flat_map items (trail w a b) ++ z) come

    module _ (e : Endpoint) where
      abbrev Owner : ℕ
      Owner = owner_of t e.slot.0

      -- what is forth and back
      asks_stood : (asked e Hand ≡ []) ⊎ ((Owner ≡ Hand.from.0) × (0 ≡ c) × (0 ≡ k.priority))
      asks_stood = go (asked e Hand) refl
        where
          go : (z : List SysKind) → asked e Hand ≡ z → (asked e Hand ≡ []) ⊎ ((owner_of t e.slot.0 ≡ Hand.from.0) × (0 ≡ c) × (0 ≡ k.priority))
          go [] q = inl q
          go (kind ∷ more) q =
              let is = asked_asker e Hand kind more q in
              let h = (hand is.0).asks e is.1 in
              inr (h.0, sym h.1, priority_zero is.0)

      replies_stood : (replied e Hand ≡ []) ⊎ ((0 ≡ Hand.from.0) × (Owner ≡ c) × (0 ≡ k.priority))
      replies_stood = go (replied e Hand) refl
        where
          go : (z : List ℕ) → replied e Hand ≡ z → (replied e Hand ≡ []) ⊎ ((0 ≡ Hand.from.0) × (owner_of t e.slot.0 ≡ c) × (0 ≡ k.priority))
          go [] q = inl q
          go (code ∷ more) q =
              let is = replied_hearer e Hand code more q in
              let h = (hand is.0).tells e is.1 in
              inr (sym h.0, h.1, priority_zero is.0)

      abbrev Forth : World (Body M) → List SysKind
      Forth v = flat_map (asked e) (trail v (owner_of t e.slot.0) 0)

      abbrev Back : World (Body M) → List ℕ
      Back v = flat_map (replied e) (trail v 0 (owner_of t e.slot.0))

      abbrev Times : World (Body M) → ℕ
      Times v = stands e (v.controllers 0).body.table

      abbrev Asks : List SysKind
      Asks = flat_map (asked e) Result.sent

      abbrev Replies : List ℕ
      Replies = flat_map (replied e) Result.sent

      forth_balance : asked e Hand ++ Forth After ≡ Forth w ++ Asks
      forth_balance = balance (asked e) (λ a s m. refl) (owner_of t e.slot.0) 0 asks_stood (asks_go t (WasCreated (last_at t After)) c e Result.sent all_sent)

      back_balance : replied e Hand ++ Back After ≡ Back w ++ Replies
      back_balance = balance (replied e) (λ a s m. refl) 0 (owner_of t e.slot.0) replies_stood (replies_go t (WasCreated (last_at t After)) c e Result.sent all_sent)

      -- who isn't this controller's asks nothing here, and another controller replies nothing
      no_asks : (owner_of t e.slot.0 ≡ c → ⊥) → Asks ≡ []
      no_asks apart = none_sent (asked e) (λ a s m. refl) (owner_of t e.slot.0) 0 asks_stood (asks_go t (WasCreated (last_at t After)) c e Result.sent all_sent) apart Result.sent (asks_go t (WasCreated (last_at t After)) c e Result.sent all_sent)

      no_replies : (0 ≡ c → ⊥) → Replies ≡ []
      no_replies apart = none_sent (replied e) (λ a s m. refl) 0 (owner_of t e.slot.0) replies_stood (replies_go t (WasCreated (last_at t After)) c e Result.sent all_sent) apart Result.sent (replies_go t (WasCreated (last_at t After)) c e Result.sent all_sent)

      -- the stage of the endpoint by a body
      abbrev StageOf : Body M → Stage
      StageOf b = stage t b.frame.lives b.links e

      -- the row before the turn
      row : IsRow (stage_in t w e) (Forth w) (Times w) (Back w)
      row = inv.rows e

      turned_row : (z : Stage) (f : List SysKind) (n : ℕ) (b : List ℕ) → IsRow z f n b → stage_in t After e ≡ z → Forth After ≡ f → Times After ≡ n → Back After ≡ b
          → IsRow (stage_in t After e) (Forth After) (Times After) (Back After)
      turned_row z f n b h p q r s =
          subst (λ x. IsRow x (Forth After) (Times After) (Back After)) (sym p)
          (subst (λ x. IsRow z x (Times After) (Back After)) (sym q) (subst (λ x. IsRow z f x (Back After)) (sym r) (subst (λ x. IsRow z f n x) (sym s) h)))

      -- the stage after the turn: here what the turn made of it, elsewhere as it was
      stage_here : owner_of t e.slot.0 ≡ c → stage_in t After e ≡ StageOf Result.body
      unfolding put
      stage_here is = go (owner_of t e.slot.0 == c) (eq-eqb (owner_of t e.slot.0) c is)
        where
          go : (z : Bool) → z ≡ true → stage t (if z then next else w.controllers (owner_of t e.slot.0)).body.frame.lives (if z then next else w.controllers (owner_of t e.slot.0)).body.links e ≡ StageOf Result.body
          go true q = ap StageOf after_body
          go false q = absurd cc

      stage_was : owner_of t e.slot.0 ≡ c → stage_in t w e ≡ StageOf Before
      stage_was is = ap (λ n. StageOf (w.controllers n).body) is

      stage_there : (owner_of t e.slot.0 ≡ c → ⊥) → stage_in t After e ≡ stage_in t w e
      unfolding put
      stage_there apart = go (owner_of t e.slot.0 == c) refl
        where
          go : (z : Bool) → (owner_of t e.slot.0 == c) ≡ z
              → stage t (if z then next else w.controllers (owner_of t e.slot.0)).body.frame.lives (if z then next else w.controllers (owner_of t e.slot.0)).body.links e ≡ stage_in t w e
          go true q = absurd (apart (eqb-true (owner_of t e.slot.0) c q))
          go false q = refl

      -- the same of the table
      times_here : 0 ≡ c → Times After ≡ stands e Result.body.table
      unfolding put
      times_here is = go (0 == c) (eq-eqb 0 c is)
        where
          go : (z : Bool) → z ≡ true → stands e (if z then next else w.controllers 0).body.table ≡ stands e Result.body.table
          go true q = ap (λ (z : Body M). stands e z.table) after_body
          go false q = absurd cc

      times_was : 0 ≡ c → Times w ≡ stands e Before.table
      times_was is = ap (λ n. stands e (w.controllers n).body.table) is

      times_there : (0 ≡ c → ⊥) → Times After ≡ Times w
      unfolding put
      times_there apart = go (0 == c) refl
        where
          go : (z : Bool) → (0 == c) ≡ z → stands e (if z then next else w.controllers 0).body.table ≡ Times w
          go true q = absurd (apart (eqb-true 0 c q))
          go false q = refl

      -- where the table stays
      times_same : Result.body.table ≡ Before.table → Times After ≡ Times w
      times_same kept = go (0 == c) refl
        where
          go : (z : Bool) → (0 == c) ≡ z → Times After ≡ Times w
          go true q = (let is = eqb-true 0 c q in times_here is ∙ ap (stands e) kept ∙ sym (times_was is))
          go false q = times_there (λ is. eqb-false 0 c q is)

      abbrev IsAfter : Type 0
      IsAfter = IsRow (stage_in t After e) (Forth After) (Times After) (Back After)

      -- the frame service, and what actors ask
      by_owner : asked e Hand ≡ [] → replied e Hand ≡ [] → Result.body.table ≡ Before.table → RowsOn t e Before.frame.lives Before.links Result.sent Result.body.frame.lives Result.body.links → IsAfter
      by_owner unasked unreplied kept rows = go (owner_of t e.slot.0 == c) refl
        where
          forth : Forth After ≡ Forth w ++ Asks
          forth = sym (ap (λ (z : List SysKind). z ++ Forth After) unasked) ∙ forth_balance

          back : Back After ≡ Back w
          back = sym (ap (λ (z : List ℕ). z ++ Back After) unreplied) ∙ back_balance ∙ ap (λ (z : List ℕ). Back w ++ z) rows.codes ∙ append-nil (Back w)

          go : (z : Bool) → (owner_of t e.slot.0 == c) ≡ z → IsAfter
          go true q =
              let is = eqb-true (owner_of t e.slot.0) c q in
              turned_row (StageOf Result.body) (Forth w ++ Asks) (Times w) (Back w)
              (rows.keeps (Forth w) (Times w) (Back w) (subst (λ x. IsRow x (Forth w) (Times w) (Back w)) (stage_was is) row))
              (stage_here is) forth (times_same kept) back
          go false q =
              let apart : owner_of t e.slot.0 ≡ c → ⊥ = (λ is. eqb-false (owner_of t e.slot.0) c q is) in
              turned_row (stage_in t w e) (Forth w) (Times w) (Back w) row (stage_there apart)
              (forth ∙ ap (λ (z : List SysKind). Forth w ++ z) (no_asks apart) ∙ append-nil (Forth w)) (times_same kept) back

      -- registrations and links hear
      by_reply : asked e Hand ≡ [] → AllOffNames Result.sent → Result.body.table ≡ Before.table
          → (owner_of t e.slot.0 ≡ c → StageOf Result.body ≡ after_all t e (StageOf Before) (replied e Hand)) → IsAfter
      by_reply unasked off kept heard = go (owner_of t e.slot.0 == c) refl
        where
          forth : Forth After ≡ Forth w
          forth = sym (ap (λ (z : List SysKind). z ++ Forth After) unasked) ∙ forth_balance ∙ ap (λ (z : List SysKind). Forth w ++ z) (off_asked e Result.sent off) ∙ append-nil (Forth w)

          back : replied e Hand ++ Back After ≡ Back w
          back = back_balance ∙ ap (λ (z : List ℕ). Back w ++ z) (off_replied e Result.sent off) ∙ append-nil (Back w)

          unreplied : (owner_of t e.slot.0 ≡ c → ⊥) → (replied e Hand ≡ []) ⊎ ((0 ≡ Hand.from.0) × (owner_of t e.slot.0 ≡ c) × (0 ≡ k.priority)) → replied e Hand ≡ []
          unreplied apart (inl none) = none
          unreplied apart (inr h) = absurd (apart h.1)

          go : (z : Bool) → (owner_of t e.slot.0 == c) ≡ z → IsAfter
          go true q =
              let is = eqb-true (owner_of t e.slot.0) c q in
              turned_row (after_all t e (StageOf Before) (replied e Hand)) (Forth w) (Times w) (Back After)
              (row_heard t e (StageOf Before) (Forth w) (Times w) (replied e Hand) (Back After)
              (subst (λ x. IsRow (StageOf Before) (Forth w) (Times w) x) (sym back) (subst (λ x. IsRow x (Forth w) (Times w) (Back w)) (stage_was is) row)))
              (stage_here is ∙ heard is) forth (times_same kept) refl
          go false q =
              let apart : owner_of t e.slot.0 ≡ c → ⊥ = (λ is. eqb-false (owner_of t e.slot.0) c q is) in
              turned_row (stage_in t w e) (Forth w) (Times w) (Back w) row (stage_there apart) forth (times_same kept)
              (sym (ap (λ (z : List ℕ). z ++ Back After) (unreplied apart replies_stood)) ∙ back)

      -- the name table treats
      by_table : (kind : SysKind) → is_table_kind kind ≡ true → IsOf Hand kind → Result.body ≡ record Before { table = (table_duty t c Before.table kind Hand).now }
          → Result.sent ≡ (table_duty t c Before.table kind Hand).sent → IsAfter
      by_table kind test is body sends = go (0 == c) refl
        where
          unasked : Asks ≡ []
          unasked = ap (flat_map (asked e)) sends ∙ all_asked_none e (table_duty t c Before.table kind Hand).sent (table_asks t c Before.table kind Hand)

          still : stage_in t After e ≡ stage_in t w e
          still = either (owner_of t e.slot.0 == c) refl
            where
              either : (z : Bool) → (owner_of t e.slot.0 == c) ≡ z → stage_in t After e ≡ stage_in t w e
              either true q =
                  let here = eqb-true (owner_of t e.slot.0) c q in
                  stage_here here ∙ ap StageOf body ∙ sym (stage_was here)
              either false q = stage_there (λ here. eqb-false (owner_of t e.slot.0) c q here)

          forth : asked e Hand ++ Forth After ≡ Forth w
          forth = forth_balance ∙ ap (λ (z : List SysKind). Forth w ++ z) unasked ∙ append-nil (Forth w)

          back : Back After ≡ Back w ++ Replies
          back = sym (ap (λ (z : List ℕ). z ++ Back After) (replied_none e Hand (tells_nobody Hand kind test is))) ∙ back_balance

          whole : IsRow (stage_in t w e) (asked e Hand ++ Forth After) (Times w) (Back w)
          whole = subst (λ x. IsRow (stage_in t w e) x (Times w) (Back w)) (sym forth) row

          known : (a : SysKind) (more : List SysKind) → asked e Hand ≡ a ∷ more → is_point t e ≡ true
          known a more q = known_by (is_point t e) refl
            where
              known_by : (p : Bool) → is_point t e ≡ p → is_point t e ≡ true
              known_by true point = point
              known_by false point =
                  let stage_none : stage_in t w e ≡ NotYet =
                  ap (λ (b : Bool). stage_by b (is_live (w.controllers (owner_of t e.slot.0)).body.frame.lives (whose e))
                  (nat_le e.generation.0 ((w.controllers (owner_of t e.slot.0)).body.frame.lives.generation e.slot.0))
                  ((w.controllers (owner_of t e.slot.0)).body.links.registrations e.slot.0 e.port)) point in
                  absurd (asks_known a (more ++ Forth After) (Times w) (Back w)
                  (subst (λ x. IsRow x (a ∷ (more ++ Forth After)) (Times w) (Back w)) stage_none
                  (subst (λ (x : List SysKind). IsRow (stage_in t w e) (x ++ Forth After) (Times w) (Back w)) q whole)))

          away : (0 ≡ c → ⊥) → (asked e Hand ≡ []) ⊎ ((owner_of t e.slot.0 ≡ Hand.from.0) × (0 ≡ c) × (0 ≡ k.priority)) → asked e Hand ≡ []
          away apart (inl none) = none
          away apart (inr h) = absurd (apart h.1)

          go : (z : Bool) → (0 == c) ≡ z → IsAfter
          go true q =
              let zero : 0 ≡ c = eqb-true 0 c q in
              let steps : TableStep (asked e Hand) (stands e Before.table) (flat_map (replied e) (table_duty t c Before.table kind Hand).sent) (stands e (table_duty t c Before.table kind Hand).now) =
              subst (λ n. TableStep (asked e Hand) (stands e Before.table) (flat_map (replied e) (table_duty t n Before.table kind Hand).sent) (stands e (table_duty t n Before.table kind Hand).now)) zero
              (table_steps t e Before.table kind Hand test is known) in
              turned_row (stage_in t w e) (Forth After) (stands e (table_duty t c Before.table kind Hand).now) (Back w ++ flat_map (replied e) (table_duty t c Before.table kind Hand).sent)
              (row_treated (stage_in t w e) (asked e Hand) (Forth After) (stands e Before.table) (Back w) (flat_map (replied e) (table_duty t c Before.table kind Hand).sent)
              (stands e (table_duty t c Before.table kind Hand).now) (subst (λ n. IsRow (stage_in t w e) (asked e Hand ++ Forth After) n (Back w)) (times_was zero) whole) steps)
              still refl (times_here zero ∙ ap (λ (z : Body M). stands e z.table) body) (back ∙ ap (λ ms. Back w ++ flat_map (replied e) ms) sends)
          go false q =
              let apart : 0 ≡ c → ⊥ = (λ zero. eqb-false 0 c q zero) in
              turned_row (stage_in t w e) (Forth w) (Times w) (Back w) row still
              (sym (ap (λ (z : List SysKind). z ++ Forth After) (away apart asks_stood)) ∙ forth) (times_there apart)
              (back ∙ ap (λ (z : List ℕ). Back w ++ z) (no_replies apart) ∙ append-nil (Back w))

      turns : Turns t c (IsOfPoint t) (GoesOn t e) Before Hand Result
      turns = treat_turns t c (IsOfPoint t) (GoesOn t e) (goes_on t e c) model clear asks_points Before Hand

      row_after : Turns t c (IsOfPoint t) (GoesOn t e) Before Hand Result → IsAfter
      row_after (treats kind test is body sends) = by_table kind test is body sends
      row_after (hears kind test is body sends) =
          by_reply (asked_none e Hand (asks_nobody Hand kind test is)) (subst AllOffNames (sym sends) (links_off t c Before.links _ kind Hand))
          (ap (λ (z : Body M). z.table) body)
          (λ own. ap StageOf body ∙ (links_hears t e c Before.frame.lives Before.links (inv.here c) kind Hand is own).heard)
      row_after (leads d apart deals off f) =
          let nobody = off_nobody Hand apart in
          by_owner (asked_none e Hand nobody.asks) (replied_none e Hand nobody.tells) f.table
          (lead_rows t e c Before (inv.here c) d off Result.sent Result.body f deals.lives)

      names_after : Turns t c (IsOfPoint t) (GoesOn t e) Before Hand Result → NamesHere t Result.body.frame.lives Result.body.links
      names_after (treats kind test is body sends) = subst (λ (z : Body M). NamesHere t z.frame.lives z.links) (sym body) (inv.here c)
      names_after (hears kind test is body sends) =
          subst (λ (z : Body M). NamesHere t z.frame.lives z.links) (sym body) (links_names t e c Before.frame.lives Before.links (inv.here c) kind Hand)
      names_after (leads d apart deals off f) = (lead_rows t e c Before (inv.here c) d off Result.sent Result.body f deals.lives).names

      pub turn_row : IsRow (stage_in t After e) (Forth After) (Times After) (Back After)
      turn_row = row_after turns

      pub turn_here : NamesHere t Result.body.frame.lives Result.body.links
      turn_here = names_after turns

  -- an event that touches no body and no trail
  untouched : (w v : World (Body M)) → IsRowed w → IsNamed t v → ((n : ℕ) → (v.controllers n).body ≡ (w.controllers n).body)
      → ((a b : ℕ) → trail v a b ≡ trail w a b) → IsRowed v
  untouched w v inv named bodies trails =
      record {
        named = named;
        here = λ c. subst (λ (z : Body M). NamesHere t z.frame.lives z.links) (sym (bodies c)) (inv.here c);
        rows = λ e.
            subst (λ (z : Body M). IsRow (stage t z.frame.lives z.links e) (flat_map (asked e) (trail v (owner_of t e.slot.0) 0)) (stands e (v.controllers 0).body.table) (flat_map (replied e) (trail v 0 (owner_of t e.slot.0)))) (sym (bodies (owner_of t e.slot.0)))
            (subst (λ (z : Body M). IsRow (stage_in t w e) (flat_map (asked e) (trail v (owner_of t e.slot.0) 0)) (stands e z.table) (flat_map (replied e) (trail v 0 (owner_of t e.slot.0)))) (sym (bodies 0))
            (subst (λ ms. IsRow (stage_in t w e) (flat_map (asked e) ms) (stands e (w.controllers 0).body.table) (flat_map (replied e) (trail v 0 (owner_of t e.slot.0)))) (sym (trails (owner_of t e.slot.0) 0))
            (subst (λ ms. IsRow (stage_in t w e) (flat_map (asked e) (trail w (owner_of t e.slot.0) 0)) (stands e (w.controllers 0).body.table) (flat_map (replied e) ms)) (sym (trails 0 (owner_of t e.slot.0)))
            (inv.rows e))));
      }

  controller_rowed : (w : World (Body M)) → IsRowed w → (c : ℕ) (e : Entry) (next : State (Body M))
      → controller_does (plant_of model t lines) w c (event_of e) ≡ Some (next, e) → IsNamed t (world_after model t lines w c e next) → IsRowed (world_after model t lines w c e next)
  unfolding turn post fetch put
  controller_rowed w inv c (entry.Start who state ns) next does named = absurd cc
  controller_rowed w inv c (entry.Fetch stamp m) next does named =
      let e : Entry = entry.Fetch stamp m in
      let r : fetch (w.controllers c) m ≡ (next, e) = own_of (plant_of model t lines) w c e next does in
      untouched w (world_after model t lines w c e next) inv named
      (kept_by (λ (z : State (Body M)). z.body) w.controllers c next (sym (ap (λ (z : State (Body M) × Entry). z.0.body) r)))
      (λ a b. controller_moves model t lines clear w c e next (inv.named.foretold.sorted c) does a b ∙ append-nil (trail w a b))
  controller_rowed w inv c (entry.Post stamp m) next does named =
      let e : Entry = entry.Post stamp m in
      let r = post_from model t lines c (w.controllers c) next e (w.controllers c).outbox does in
      untouched w (world_after model t lines w c e next) inv named
      (kept_by (λ (z : State (Body M)). z.body) w.controllers c next (sym (ap (λ (z : State (Body M) × Entry). z.0.body) r.3)))
      (λ a b. controller_moves model t lines clear w c e next (inv.named.foretold.sorted c) does a b ∙ append-nil (trail w a b))
  controller_rowed w inv c (entry.Turn stamp from when what ns) next does named =
      let e : Entry = entry.Turn stamp from when what ns in
      let r = turn_from model t lines c (w.controllers c) next e (w.controllers c).outbox (next_of (w.controllers c).pending) does in
      let same : next ≡ (turned (w.controllers c) r.0 (treat model t c (w.controllers c).body r.0.message)).0 = sym (ap (λ (z : State (Body M) × Entry). z.0) r.3) in
      let moves = controller_moves model t lines clear w c e next (inv.named.foretold.sorted c) does in
      record {
        named = named;
        here = put_each (λ (z : State (Body M)). NamesHere t z.body.frame.lives z.body.links) w.controllers c next inv.here
            (subst (λ (z : State (Body M)). NamesHere t z.body.frame.lives z.body.links) (sym same)
            (turn_here w inv c stamp from when what ns next r.0 r.2 same (λ a b. moves a b) (point_of (incarnation 0 0) 0)));
        rows = λ x. turn_row w inv c stamp from when what ns next r.0 r.2 same (λ a b. moves a b) x;
      }

  step_rowed : (w : World (Body M)) (x : Placed) (next : World (Body M)) → IsRowed w → Happened (plant_of model t lines) w x next → IsRowed next
  step_rowed w x next inv happens = go happens (step_named model clear t lines clear_lines w x next inv.named happens)
    where
      go : Happened (plant_of model t lines) w x next → IsNamed t next → IsRowed next
      go (controller below s does same) named =
          subst IsRowed (sym same) (controller_rowed w inv x.party x.entry s does (subst (IsNamed t) same named))
      go (environment is v does same) named =
          subst IsRowed (sym same)
          (untouched w (world_then model clear t lines clear_lines w x.party x.entry v) inv (subst (IsNamed t) same named) (λ n. refl)
          (λ a b. environment_moves model clear t lines clear_lines w x.party x.entry v does a b))

  run_rowed : (xs : List Placed) (w end : World (Body M)) → IsRowed w → Runs (plant_of model t lines) w xs end → IsRowed end
  run_rowed [] w end inv r = subst IsRowed (sym r) inv
  run_rowed (x ∷ xs) w end inv r = run_rowed xs r.0 end (step_rowed w x r.0 inv (happened (plant_of model t lines) w x r.0 r.2)) r.3

  -- the start
  abbrev Started : World (Body M)
  Started = start (plant_of model t lines)

  first_rows : (e : Endpoint) (c : ℕ) → RowsOn t e (first_lives t c) first_links (first_state model t c).outbox (first_lives t c) (first_state model t c).body.links
  unfolding GoesOn
  first_rows e c = start_asks t c (IsOfPoint t) (GoesOn t e) (goes_on t e c) model clear asks_points (λ s p. inl refl)

  first_alive : (e : Endpoint) (c : ℕ) → (first_state model t c).body.frame.lives ≡ first_lives t c
  first_alive e c = start_lives t c (IsOfPoint t) (GoesOn t e) (goes_on t e c) model clear asks_points

  first_row : (p q made : Bool) → IsRow (stage_by p q made Unnamed) [] 0 []
  first_row false q made = (refl, refl, refl)
  first_row true true made = (refl, refl, refl)
  first_row true false true = inl (refl, refl)
  first_row true false false = (refl, refl, refl)

  goes_there : {X : Type 0} (items : Msg → List X) (a b c : ℕ) (ms : List Msg) → AllByRecursion (λ (m : Msg). (items m ≡ []) ⊎ ((a ≡ c) × (is_system_to b m ≡ true))) ms
      → AllByRecursion (λ (m : Msg). (items m ≡ []) ⊎ (is_system_to b m ≡ true)) ms
  goes_there items a b c [] h = tt
  goes_there {X} items a b c (m ∷ ms) h = (one h.0, goes_there items a b c ms h.1)
    where
      one : (items m ≡ []) ⊎ ((a ≡ c) × (is_system_to b m ≡ true)) → (items m ≡ []) ⊎ (is_system_to b m ≡ true)
      one (inl none) = inl none
      one (inr h) = inr h.1

  start_rowed : IsRowed Started
  start_rowed =
      record {
        named = start_named model clear t lines clear_lines;
        here = λ c.
            subst (λ (z : Lives). NamesHere t z (first_state model t c).body.links) (sym (first_alive (point_of (incarnation 0 0) 0) c))
            (first_rows (point_of (incarnation 0 0) 0) c).names;
        rows = λ e. first e (owner_of t e.slot.0) refl;
      }
    where
      forth : (e : Endpoint) (o : ℕ) → owner_of t e.slot.0 ≡ o → flat_map (asked e) (trail Started o 0) ≡ flat_map (asked e) (first_state model t o).outbox
      forth e o is =
          ap (flat_map (asked e)) (fresh_trail o 0 (first_state model t o).outbox)
          ∙ items_system (asked e) (λ a s m. refl) o 0 (first_state model t o).outbox
          (goes_there (asked e) (owner_of t e.slot.0) 0 o (first_state model t o).outbox
          (asks_go t (WasCreated (last_at t Started)) o e (first_state model t o).outbox (start_sent model clear t lines clear_lines o)))

      back : (e : Endpoint) (o : ℕ) → owner_of t e.slot.0 ≡ o → flat_map (replied e) (trail Started 0 o) ≡ []
      back e o is =
          ap (flat_map (replied e)) (fresh_trail 0 o (first_state model t 0).outbox)
          ∙ items_system (replied e) (λ a s m. refl) 0 o (first_state model t 0).outbox
          (subst (λ n. AllByRecursion (λ (m : Msg). (replied e m ≡ []) ⊎ (is_system_to n m ≡ true)) (first_state model t 0).outbox) is
          (goes_there (replied e) 0 (owner_of t e.slot.0) 0 (first_state model t 0).outbox
          (replies_go t (WasCreated (last_at t Started)) 0 e (first_state model t 0).outbox (start_sent model clear t lines clear_lines 0))))
          ∙ (first_rows e 0).codes

      table : (e : Endpoint) → stands e (first_state model t 0).body.table ≡ 0
      table e = ap (stands e) (start_table t 0 (IsOfPoint t) (GoesOn t e) (goes_on t e 0) model clear asks_points)

      first : (e : Endpoint) (o : ℕ) → owner_of t e.slot.0 ≡ o
          → IsRow (stage t (first_state model t o).body.frame.lives (first_state model t o).body.links e) (flat_map (asked e) (trail Started o 0)) (stands e (first_state model t 0).body.table) (flat_map (replied e) (trail Started 0 o))
      first e o is =
          subst (λ (z : Lives). IsRow (stage t z (first_state model t o).body.links e) (flat_map (asked e) (trail Started o 0)) (stands e (first_state model t 0).body.table) (flat_map (replied e) (trail Started 0 o))) (sym (first_alive e o))
          (subst (λ z. IsRow (stage t (first_lives t o) (first_state model t o).body.links e) z (stands e (first_state model t 0).body.table) (flat_map (replied e) (trail Started 0 o))) (sym (forth e o is))
          (subst (λ n. IsRow (stage t (first_lives t o) (first_state model t o).body.links e) (flat_map (asked e) (first_state model t o).outbox) n (flat_map (replied e) (trail Started 0 o))) (sym (table e))
          (subst (λ z. IsRow (stage t (first_lives t o) (first_state model t o).body.links e) (flat_map (asked e) (first_state model t o).outbox) 0 z) (sym (back e o is))
          ((first_rows e o).keeps [] 0 []
          (first_row (is_point t e) (is_live (first_lives t o) (whose e)) (nat_le e.generation.0 ((first_lives t o).generation e.slot.0)))))))

  pub runs_rowed : (xs : List Placed) (end : World (Body M)) → Runs (plant_of model t lines) (start (plant_of model t lines)) xs end → IsRowed end
  runs_rowed xs end r = run_rowed xs (start (plant_of model t lines)) end start_rowed r

  pub runs_keep_rows : (xs : List Placed) (end : World (Body M)) → Runs (plant_of model t lines) (start (plant_of model t lines)) xs end → AreInRows t end
  runs_keep_rows xs end r e = (runs_rowed xs end r).rows e
