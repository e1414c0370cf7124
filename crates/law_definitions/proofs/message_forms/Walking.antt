-- A turn, and the start of a controller, send messages of their inner form.
use Rattle.std.proofs.Common.{◌≡◌, ℕ, ◌==◌, ◌&&◌, Bool, true, false, not, if◌then◌else◌, List, [], ◌∷◌, map, filter, slice_get, Option, Some, None, ℤ, refl}
use Rattle.std.specs.List.{AllByRecursion}
use Rattle.std.proofs.lemmas.Bool.{and_parts}
use Rattle.room_kinds.specs.declared.message.Msg.{Msg}
use Rattle.room_kinds.specs.declared.numbers.Incarnation.{Incarnation}
use Rattle.room_kinds.specs.declared.system.SysKind.{SysKind}
use Rattle.room_kinds.specs.declared.system.SysKind.TheVariants as kinds
use Rattle.room_kinds.specs.declared.command.Command.{Command}
use Rattle.room_kinds.specs.declared.command.Command.TheVariants as commands
use Rattle.journal.specs.declared.entry.Did.TheVariants as did
use Rattle.room_wiring.specs.declared.tables.Tables.{Tables}
use Rattle.actor_merge.specs.Parties.{Treated}
use Rattle.actor_duties.specs.Words.{incarnation, whose, is_own, slots_of}
use Rattle.actor_duties.specs.Lives.{last_of}
use Rattle.actor_duties.specs.Frame.{FrameDone, frame_duty, frame_request}
use Rattle.actor_duties.specs.Links.{name_request, end_of}
use Rattle.actor_duties.specs.Commands.{Content}
use Rattle.actor_world.specs.Behaviour.{Behaviour}
use Rattle.actor_world.specs.Body.{Body, Doing, sent_at, apply_all}
use Rattle.actor_world.specs.Turns.{all_kinds, doing, treated, begun, all_begun, gone, all_gone, closing, with_frame, duty, system_done, handled, nobody_there, is_meant, dispatched, dispatch, treat}
use Rattle.actor_world.specs.Start.{lives_from_start, first_body, first_actors, Starting, started, all_started, starting, first_state}
use Rattle.actor_world.specs.Directories.{SendsOpenly, IsOpen}
use Rattle.actor_world.proofs.LifeSteps.{IsSound}
use Rattle.law_agreement.proofs.Lists.{all_append, all_passed}
use Rattle.law_agreement.proofs.Walking.{IsHere, frame_duty_makes}
use Rattle.law_definitions.proofs.message_forms.Inner.{Inner, IsSent, AllSent}
use Rattle.law_definitions.proofs.message_forms.Beside.{name_sent, ended_sent, links_sent, table_sent, content_sent, broadcast_sent}
use Rattle.law_definitions.proofs.message_forms.Serving.{LastSent, DutySent, duty_sent, request_sent}

-- an actor of a slot of this controller
abbrev IsOwn : Tables → ℕ → Incarnation → Type 0
IsOwn t me x = is_own t me x.slot.0 ≡ true

module _ {M : Type 0} (t : Tables) (me : ℕ) where
  sent_at_sent : (d : Doing M) (x : Incarnation) (p : ℕ) (k : Option ℤ) (c : Content) → (c.prio.0 == 0) ≡ false → AllSent t me (sent_at t me d x p k c).messages
  sent_at_sent d x p (Some k) c h = content_sent t me d.body.frame d.body.links x p k c h
  sent_at_sent d x p None c h = broadcast_sent t me d.body.frame d.body.links x p c h

  apply_all_sent : (x : Incarnation) (m : Option Msg) (cs : List Command) → SendsOpenly cs → (d : Doing M) → IsOwn t me x → AllSent t me d.sent
      → AllSent t me (apply_all t me x m cs d).sent
  apply_all_sent x m [] clear d own h = h
  apply_all_sent x m (commands.Send p k signal payload prio ∷ cs) clear d own h =
      let c : Content = record { signal = signal; payload = payload; prio = prio } in
      apply_all_sent x m cs clear.1 _ own (all_append (IsSent t me) d.sent (sent_at t me d x p k c).messages h (sent_at_sent d x p k c clear.0))
  apply_all_sent x m (commands.Defer ∷ cs) clear d own h = apply_all_sent x m cs clear _ own h
  apply_all_sent x m (commands.Recall ∷ cs) clear d own h = apply_all_sent x m cs clear _ own h
  apply_all_sent x m (commands.RecallAll ∷ cs) clear d own h = apply_all_sent x m cs clear _ own h
  apply_all_sent x m (commands.Frame c ∷ cs) clear d own h =
      apply_all_sent x m cs clear _ own (all_append (IsSent t me) d.sent (frame_request t me d.body.frame x c).sent h (request_sent t me d.body.frame x c own))
  apply_all_sent x m (commands.Name c ∷ cs) clear d own h =
      apply_all_sent x m cs clear _ own (all_append (IsSent t me) d.sent (name_request t me d.body.links x c).sent h (name_sent t me d.body.links x c))

  module _ (model : Behaviour M) (clear : IsOpen model) where
    all_begun_sent : (xs : List Incarnation) (d : Doing M) → AllByRecursion (IsOwn t me) xs → AllSent t me d.sent → AllSent t me (all_begun model t me xs d).sent
    all_begun_sent [] d own h = h
    all_begun_sent (x ∷ xs) d own h =
        all_begun_sent xs (begun model t me x d) own.1 (apply_all_sent x None (model.begin x).commands (clear.begin x) _ own.0 h)

    all_gone_sent : (xs : List Incarnation) (d : Doing M) → AllSent t me d.sent → AllSent t me (all_gone t me xs d).sent
    all_gone_sent [] d h = h
    all_gone_sent (x ∷ xs) d h =
        all_gone_sent xs (gone t me x d) (all_append (IsSent t me) d.sent (end_of t me d.body.links x).sent h (ended_sent t me d.body.links x))

    closing_sent : (d : Doing M) (o : Option Msg) → LastSent t me o → AllSent t me d.sent → AllSent t me (closing d o).sent
    closing_sent d None k h = h
    closing_sent d (Some m) k h = all_append (IsSent t me) d.sent (m ∷ []) h (k, tt)

    frame_sent : (b : Body M) (r : FrameDone) → AllByRecursion (IsOwn t me) r.made → DutySent t me r → AllSent t me (with_frame model t me b r).sent
    frame_sent b r own h =
        closing_sent _ r.last h.last (all_gone_sent r.ended _ (all_begun_sent r.made (record (doing b) { body = record b { frame = r.frame }; sent = r.sent }) own h.sent))

    module _ (b : Body M) (m : Msg) (sound : IsSound t me b.frame.lives) where
      of_frame : Inner t m.from.0 me m → (kind : SysKind) → slice_get all_kinds m.signal ≡ Some kind
          → AllSent t me (with_frame model t me b (frame_duty t me b.frame kind m)).sent
      of_frame hand kind is =
          let r : FrameDone = frame_duty t me b.frame kind m in
          frame_sent b r (owned r.made (frame_duty_makes t me b.frame m kind).made) (duty_sent t me b.frame sound m hand kind is)
        where
          owned : (xs : List Incarnation) → AllByRecursion (IsHere t me (FrameDone.frame (frame_duty t me b.frame kind m)).lives) xs → AllByRecursion (IsOwn t me) xs
          owned [] h = tt
          owned (x ∷ xs) h = (h.0.0, owned xs h.1)

      duty_all : Inner t m.from.0 me m → (kind : SysKind) → slice_get all_kinds m.signal ≡ Some kind → AllSent t me (duty model t me b m kind).sent
      duty_all hand kinds.Register is = table_sent t me b.table kinds.Register m
      duty_all hand kinds.Withdraw is = table_sent t me b.table kinds.Withdraw m
      duty_all hand kinds.Bound is = links_sent t me b.links _ kinds.Bound m
      duty_all hand kinds.Ended is = links_sent t me b.links _ kinds.Ended m
      duty_all hand kinds.NameReply is = links_sent t me b.links _ kinds.NameReply m
      duty_all hand kinds.Create is = of_frame hand kinds.Create is
      duty_all hand kinds.CreateDone is = of_frame hand kinds.CreateDone is
      duty_all hand kinds.CreateRefused is = of_frame hand kinds.CreateRefused is
      duty_all hand kinds.Destroy is = of_frame hand kinds.Destroy is
      duty_all hand kinds.DestroyDone is = of_frame hand kinds.DestroyDone is
      duty_all hand kinds.Import is = of_frame hand kinds.Import is
      duty_all hand kinds.ImportDone is = of_frame hand kinds.ImportDone is
      duty_all hand kinds.ImportRefused is = of_frame hand kinds.ImportRefused is
      duty_all hand kinds.ImportEnded is = of_frame hand kinds.ImportEnded is
      duty_all hand kinds.Deport is = of_frame hand kinds.Deport is
      duty_all hand kinds.DeportDone is = of_frame hand kinds.DeportDone is
      duty_all hand kinds.Announce is = of_frame hand kinds.Announce is
      duty_all hand kinds.PartMake is = of_frame hand kinds.PartMake is
      duty_all hand kinds.PartEnd is = of_frame hand kinds.PartEnd is

      system_sent : Inner t m.from.0 me m → (o : Option SysKind) → slice_get all_kinds m.signal ≡ o → AllSent t me (system_done model t me b m o).sent
      system_sent hand None is = tt
      system_sent hand (Some kind) is = duty_all hand kind is

      dispatched_sent : (o : Option M) → IsOwn t me (last_of b.frame.lives m.target.slot.0) → AllSent t me (dispatched model t me b m o).sent
      unfolding handled
      dispatched_sent None own = tt
      dispatched_sent (Some machine) own =
          let x : Incarnation = last_of b.frame.lives m.target.slot.0 in
          apply_all_sent x (Some m) (model.handle x machine m).commands (clear.handle x machine m) _ own tt

      -- what is sent in a turn has its form
      abbrev TurnSent : Treated (Body M) → Type 0
      TurnSent r = AllSent t me r.sent

      dispatch_sent : AllSent t me (dispatch model t me b m).sent
      unfolding dispatch
      dispatch_sent = go (is_own t me m.target.slot.0 && b.frame.lives.lives m.target.slot.0) refl (not (is_meant b.frame m))
        where
          go : (a : Bool) → (is_own t me m.target.slot.0 && b.frame.lives.lives m.target.slot.0) ≡ a → (c : Bool) → TurnSent (
              if not a then nobody_there b m
              else if c then treated (doing b) (did.Stale (whose m.target))
              else dispatched model t me b m (b.machines m.target.slot.0))
          go false e c = tt
          go true e true = tt
          go true e false = dispatched_sent (b.machines m.target.slot.0) (and_parts (is_own t me m.target.slot.0) (b.frame.lives.lives m.target.slot.0) e).0

      pub treat_sent : ((m.prio.0 == 0) ≡ true → Inner t m.from.0 me m) → AllSent t me (treat model t me b m).sent
      unfolding treat
      treat_sent hand = go (m.prio.0 == 0) refl
        where
          go : (a : Bool) → (m.prio.0 == 0) ≡ a
              → TurnSent (if a then treated (system_done model t me b m (slice_get all_kinds m.signal)) did.Duty else dispatch model t me b m)
          go true e = system_sent (hand e) (slice_get all_kinds m.signal) refl
          go false e = dispatch_sent

    all_started_sent : (xs : List Incarnation) (s : Starting M) → AllByRecursion (IsOwn t me) xs → AllSent t me s.doing.sent → AllSent t me (all_started model t me xs s).doing.sent
    all_started_sent [] s own h = h
    all_started_sent (x ∷ xs) s own h =
        all_started_sent xs (started model t me s x) own.1 (apply_all_sent x None (model.begin x).commands (clear.begin x) _ own.0 h)

    pub start_sent : AllSent t me (first_state model t me).outbox
    unfolding starting first_actors
    start_sent =
        all_started_sent (first_actors t me) (record { doing = doing (first_body t me); entries = [] })
        (each (filter (λ s. is_own t me s && lives_from_start t s) (slots_of t))
        (all_passed (λ s. is_own t me s ≡ true) (λ s. is_own t me s && lives_from_start t s) (λ s e. (and_parts (is_own t me s) (lives_from_start t s) e).0) (slots_of t))) tt
      where
        each : (ss : List ℕ) → AllByRecursion (λ s. is_own t me s ≡ true) ss → AllByRecursion (IsOwn t me) (map (λ s. incarnation s 1) ss)
        each [] h = tt
        each (s ∷ ss) h = (h.0, each ss h.1)
