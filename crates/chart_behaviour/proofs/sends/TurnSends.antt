-- Whatever holds of all that duties and commands send holds of all that a turn and a start send: the one walk over turns.
use Rattle.std.proofs.Common.{◌≡◌, ℕ, ◌==◌, ◌&&◌, Bool, true, false, not, if◌then◌else◌, List, [], ◌∷◌, slice_get, Option, Some, None, ℤ, refl}
use Rattle.std.specs.List.{AllByRecursion as Each, list_all}
use Rattle.std.proofs.lemmas.Bool.{and_parts, eqb-true}
use Rattle.room_kinds.specs.declared.message.Msg.{Msg}
use Rattle.room_kinds.specs.declared.numbers.Incarnation.{Incarnation}
use Rattle.room_kinds.specs.declared.numbers.Endpoint.{Endpoint}
use Rattle.room_kinds.specs.declared.numbers.Priority.{Priority}
use Rattle.room_kinds.specs.declared.system.SysKind.{SysKind}
use Rattle.room_kinds.specs.declared.system.SysKind.TheVariants as kinds
use Rattle.room_kinds.specs.declared.command.Command.{Command}
use Rattle.room_kinds.specs.declared.command.Command.TheVariants as commands
use Rattle.journal.specs.declared.entry.Did.TheVariants as did
use Rattle.room_wiring.specs.declared.tables.Tables.{Tables}
use Rattle.actor_merge.specs.Parties.{Treated}
use Rattle.actor_duties.specs.Words.{whose, is_own}
use Rattle.actor_duties.specs.Frame.{frame_duty, frame_request}
use Rattle.actor_duties.specs.Lives.{is_live, last_of}
use Rattle.actor_duties.specs.Links.{end_of, name_request}
use Rattle.actor_duties.specs.Commands.{Content, message}
use Rattle.actor_duties.proofs.Each.{each_both}
use Rattle.actor_duties.proofs.NameSends.{HoldsOfNames, name_request_sends, end_of_sends, links_duty_sends, table_duty_sends, send_sends, broadcast_sends}
use Rattle.actor_duties.proofs.FrameSends.{AreReceivers, HoldsOfFrame, HoldsOfLast, request_sends, frame_duty_sends}
use Rattle.actor_world.specs.Behaviour.{Behaviour}
use Rattle.actor_world.specs.Body.{Body, Doing, sent_at, apply, apply_all}
use Rattle.actor_world.specs.Turns.{all_kinds, doing, treated, begun, all_begun, gone, all_gone, closing, with_frame, links_done, duty, system_done, handled, nobody_there, dispatched, is_meant, dispatch, treat}
use Rattle.actor_world.specs.Start.{Starting, started, all_started, starting, first_actors, first_body, first_state}
use Rattle.chart_behaviour.specs.Asked.{AsksOnly}

-- the content of a command that sends
abbrev pub content : ℕ → List ℤ → Priority → Content
content signal payload prio = record { signal = signal; payload = payload; prio = prio }

-- P holds of all messages of the services, and of those that commands send which pass a test
pub record HoldsOfAll (t : Tables) (me : ℕ) (R : ℕ → Type 0) (P : Msg → Type 0) (test : Command → Bool) : Type 0 where
  pub receivers : AreReceivers t R
  pub frame : HoldsOfFrame me R P
  pub names : HoldsOfNames t me P
  pub sends : (p : ℕ) (k : Option ℤ) (signal : ℕ) (payload : List ℤ) (prio : Priority) → test (commands.Send p k signal payload prio) ≡ true
      → (source target : Endpoint) → P (message t me source target (content signal payload prio))

module _ {M : Type 0} (model : Behaviour M) (t : Tables) (me : ℕ) (R : ℕ → Type 0) (P : Msg → Type 0) (test : Command → Bool) (asks : AsksOnly test model)
    (holds : HoldsOfAll t me R P test) where
  -- P holds of what is sent so far
  abbrev SoFar : Doing M → Type 0
  SoFar d = Each P d.sent

  sends_at : (d : Doing M) (x : Incarnation) (p : ℕ) (o : Option ℤ) (c : Content) → ((source target : Endpoint) → P (message t me source target c))
      → Each P (sent_at t me d x p o c).messages
  sends_at d x p (Some k) c h = send_sends t me P c h d.body.frame d.body.links x p k
  sends_at d x p None c h = broadcast_sends t me P c h d.body.frame d.body.links x p

  -- ---- commands

  applied : (x : Incarnation) (m : Option Msg) (d : Doing M) (c : Command) → test c ≡ true → SoFar d → SoFar (apply t me x m d c)
  applied x m d (commands.Send p k signal payload prio) e h =
      each_both P d.sent (sent_at t me d x p k (content signal payload prio)).messages h
      (sends_at d x p k (content signal payload prio) (holds.sends p k signal payload prio e))
  applied x m d commands.Defer e h = h
  applied x m d commands.Recall e h = h
  applied x m d commands.RecallAll e h = h
  applied x m d (commands.Frame c) e h =
      each_both P d.sent (frame_request t me d.body.frame x c).sent h (request_sends t me R holds.receivers P holds.frame d.body.frame x c)
  applied x m d (commands.Name c) e h = each_both P d.sent (name_request t me d.body.links x c).sent h (name_request_sends t me P holds.names d.body.links x c)

  all_applied : (x : Incarnation) (m : Option Msg) (cs : List Command) (d : Doing M) → list_all test cs ≡ true → SoFar d → SoFar (apply_all t me x m cs d)
  all_applied x m [] d e h = h
  all_applied x m (c ∷ cs) d e h =
      let parts = and_parts (test c) (list_all test cs) e in all_applied x m cs (apply t me x m d c) parts.1 (applied x m d c parts.0 h)

  -- ---- actors that come up and go down

  begins : (x : Incarnation) (d : Doing M) → SoFar d → SoFar (begun model t me x d)
  begins x d h = all_applied x None (model.begin x).commands _ (asks.begin x) h

  all_begin : (xs : List Incarnation) (d : Doing M) → SoFar d → SoFar (all_begun model t me xs d)
  all_begin [] d h = h
  all_begin (x ∷ xs) d h = all_begin xs (begun model t me x d) (begins x d h)

  goes : (x : Incarnation) (d : Doing M) → SoFar d → SoFar (gone t me x d)
  goes x d h = each_both P d.sent (end_of t me d.body.links x).sent h (end_of_sends t me P holds.names d.body.links x)

  all_go : (xs : List Incarnation) (d : Doing M) → SoFar d → SoFar (all_gone t me xs d)
  all_go [] d h = h
  all_go (x ∷ xs) d h = all_go xs (gone t me x d) (goes x d h)

  closes : (d : Doing M) (o : Option Msg) → HoldsOfLast P o → SoFar d → SoFar (closing d o)
  closes d None last h = h
  closes d (Some m) last h = each_both P d.sent (m ∷ []) h (last, tt)

  -- ---- turns

  module _ (b : Body M) (m : Msg) where
    by_frame : (kind : SysKind) → R m.from.0 → SoFar (with_frame model t me b (frame_duty t me b.frame kind m))
    by_frame kind from =
        let sends = frame_duty_sends t me R holds.receivers P holds.frame m from b.frame kind in
        let r = frame_duty t me b.frame kind m in
        closes _ r.last sends.last (all_go r.ended _ (all_begin r.made _ sends.sent))

    by_links : (kind : SysKind) → SoFar (links_done t me b kind m)
    by_links kind = links_duty_sends t me P holds.names.told b.links (is_own t me m.target.slot.0 && is_live b.frame.lives (whose m.target)) kind m

    by_duty : (kind : SysKind) → R m.from.0 → SoFar (duty model t me b m kind)
    by_duty kinds.Register from = table_duty_sends t me P holds.names b.table kinds.Register m
    by_duty kinds.Withdraw from = table_duty_sends t me P holds.names b.table kinds.Withdraw m
    by_duty kinds.Bound from = by_links kinds.Bound
    by_duty kinds.Ended from = by_links kinds.Ended
    by_duty kinds.NameReply from = by_links kinds.NameReply
    by_duty kinds.Create from = by_frame kinds.Create from
    by_duty kinds.CreateDone from = by_frame kinds.CreateDone from
    by_duty kinds.CreateRefused from = by_frame kinds.CreateRefused from
    by_duty kinds.Destroy from = by_frame kinds.Destroy from
    by_duty kinds.DestroyDone from = by_frame kinds.DestroyDone from
    by_duty kinds.Import from = by_frame kinds.Import from
    by_duty kinds.ImportDone from = by_frame kinds.ImportDone from
    by_duty kinds.ImportRefused from = by_frame kinds.ImportRefused from
    by_duty kinds.ImportEnded from = by_frame kinds.ImportEnded from
    by_duty kinds.Deport from = by_frame kinds.Deport from
    by_duty kinds.DeportDone from = by_frame kinds.DeportDone from
    by_duty kinds.Announce from = by_frame kinds.Announce from
    by_duty kinds.PartMake from = by_frame kinds.PartMake from
    by_duty kinds.PartEnd from = by_frame kinds.PartEnd from

    by_system : (o : Option SysKind) → R m.from.0 → SoFar (system_done model t me b m o)
    by_system None from = tt
    by_system (Some kind) from = by_duty kind from

    -- P holds of what a turn sent
    abbrev OfTurn : Treated (Body M) → Type 0
    OfTurn r = Each P r.sent

    handles : (x : Incarnation) (machine : M) → OfTurn (handled model t me b x m machine)
    unfolding handled
    handles x machine = all_applied x (Some m) (model.handle x machine m).commands _ (asks.handle x machine m) tt

    dispatches_to : (o : Option M) → OfTurn (dispatched model t me b m o)
    dispatches_to None = tt
    dispatches_to (Some machine) = handles (last_of b.frame.lives m.target.slot.0) machine

    dispatches : OfTurn (dispatch model t me b m)
    unfolding dispatch
    dispatches = go (not (is_own t me m.target.slot.0 && b.frame.lives.lives m.target.slot.0)) (not (is_meant b.frame m))
      where
        go : (nobody stale : Bool) → OfTurn (
            if nobody then nobody_there b m
            else if stale then treated (doing b) (did.Stale (whose m.target))
            else dispatched model t me b m (b.machines m.target.slot.0))
        go true stale = tt
        go false true = tt
        go false false = dispatches_to (b.machines m.target.slot.0)

    -- a turn, whose message comes from a receiver where services reply to it
    pub turn_sends : (m.prio.0 ≡ 0 → R m.from.0) → OfTurn (treat model t me b m)
    unfolding treat
    turn_sends from = go (m.prio.0 == 0) (λ e. by_system (slice_get all_kinds m.signal) (from (eqb-true m.prio.0 0 e)))
      where
        go : (system : Bool) → (system ≡ true → SoFar (system_done model t me b m (slice_get all_kinds m.signal)))
            → OfTurn (if system then treated (system_done model t me b m (slice_get all_kinds m.signal)) did.Duty else dispatch model t me b m)
        go true h = h refl
        go false h = dispatches

  -- ---- the start

  starts : (s : Starting M) (x : Incarnation) → SoFar s.doing → SoFar (started model t me s x).doing
  starts s x h = all_applied x None (model.begin x).commands _ (asks.begin x) h

  all_start : (xs : List Incarnation) (s : Starting M) → SoFar s.doing → SoFar (all_started model t me xs s).doing
  all_start [] s h = h
  all_start (x ∷ xs) s h = all_start xs (started model t me s x) (starts s x h)

  pub start_sends : Each P (first_state model t me).outbox
  unfolding starting
  start_sends = all_start (first_actors t me) (record { doing = doing (first_body t me); entries = [] }) tt
