-- A turn, for the frame service, is a duty and then requests of actors that live here: whatever holds of
-- these one after another holds of the turn.
use Rattle.std.proofs.Common.{◌≡◌, ℕ, ◌==◌, ◌&&◌, ◌||◌, Bool, true, false, not, if◌then◌else◌, List, [], ◌∷◌, ◌++◌, map, filter, slice_get, Option, Some, None, ℤ, pos, ◌+◌, refl, sym, ap, ◌∙◌, subst, append-nil, append_assoc, eq-eqb}
use Rattle.std.specs.List.{AllByRecursion}
use Rattle.std.proofs.lemmas.Bool.{and_parts}
use Rattle.room_kinds.specs.declared.message.Msg.{Msg}
use Rattle.room_kinds.specs.declared.numbers.Incarnation.{Incarnation}
use Rattle.room_kinds.specs.declared.numbers.Endpoint.{Endpoint}
use Rattle.room_kinds.specs.declared.system.SysKind.{SysKind}
use Rattle.room_kinds.specs.declared.system.SysKind.TheVariants as kinds
use Rattle.room_kinds.specs.declared.command.Command.{Command}
use Rattle.room_kinds.specs.declared.command.Command.TheVariants as commands
use Rattle.room_kinds.specs.declared.command.FrameCommand.{FrameCommand}
use Rattle.room_kinds.specs.declared.command.FrameCommand.TheVariants as frames
use Rattle.journal.specs.declared.entry.Did.TheVariants as did
use Rattle.room_wiring.specs.declared.tables.Tables.{Tables}
use Rattle.actor_merge.specs.Parties.{Treated}
use Rattle.actor_duties.specs.Words.{updated, incarnation, frame_at, frame_of, whose, is_own, slots_of}
use Rattle.actor_duties.specs.State.{Lives, Frame}
use Rattle.actor_duties.specs.Lives.{is_live, last_of, answered, counts_as_live, is_made_with, comes_up, made_slots, lives_made, create, made, part_make}
use Rattle.actor_duties.specs.Messages.{reply, coded, NotHere, Occupied}
use Rattle.actor_duties.specs.Frame.{FrameDone, nothing, with_lives, end_set_ended, destroy, part_end, frame_duty_of, frame_duty_from, frame_duty, frame_request}
use Rattle.actor_duties.specs.Links.{name_request, end_of}
use Rattle.actor_duties.specs.Commands.{Content}
use Rattle.actor_world.specs.Behaviour.{Behaviour}
use Rattle.actor_world.specs.Body.{Body, Doing, sent_at, apply_all}
use Rattle.actor_world.specs.Turns.{all_kinds, doing, treated, begun, all_begun, gone, all_gone, closing, with_frame, duty, system_done, moved, handled, nobody_there, is_meant, dispatched, dispatch, treat}
use Rattle.actor_world.specs.Start.{lives_from_start, first_lives, first_frame, first_body, first_actors, Starting, started, all_started, starting, first_state}
use Rattle.actor_world.specs.Directories.{SendsOpenly, IsOpen}
use Rattle.law_agreement.proofs.Lists.{all_passed}
use Rattle.law_agreement.proofs.Duties.{by_plainly, by_number, by_natural}
use Rattle.law_agreement.proofs.OffLoan.{IsOffLoan, AllOffLoan, off_name_request, off_end_of, off_links, off_table, off_send, off_broadcast}
use Rattle.law_agreement.proofs.Carrying.{request_lives}

-- an actor that lives here
abbrev pub IsHere : Tables → ℕ → Lives → Incarnation → Type 0
IsHere t me l x = (is_own t me x.slot.0 ≡ true) × (is_live l x ≡ true)

-- what messages on no loan, and requests of actors here, do to the frame service, sending these, is so,
-- and so is one after another
pub record IsWalk (t : Tables) (me : ℕ) (R : Frame → List Msg → Frame → Type 0) : Type 0 where
  pub two : (f g h : Frame) (a b : List Msg) → R f a g → R g b h → R f (a ++ b) h
  pub off : (f : Frame) (ms : List Msg) → AllOffLoan ms → R f ms f
  pub request : (f : Frame) (x : Incarnation) (c : FrameCommand) → IsHere t me f.lives x → R f (frame_request t me f x c).sent (frame_request t me f x c).now

-- what a turn makes of a body does so
abbrev pub DoneBy : {M : Type 0} → (Frame → List Msg → Frame → Type 0) → Body M → Treated (Body M) → Type 0
DoneBy R b r = R b.frame r.sent r.body.frame

-- what closes a duty is on no loan
abbrev pub IsOffLast : Option Msg → Type 0
IsOffLast None = Unit {0}
IsOffLast (Some m) = IsOffLoan m

-- a duty after which all that it made lives here, and whose last message is on no loan
pub record Makes (t : Tables) (me : ℕ) (r : FrameDone) : Type 0 where
  pub made : AllByRecursion (IsHere t me r.frame.lives) r.made
  pub last : IsOffLast r.last

module _ (t : Tables) (me : ℕ) (f : Frame) where
  makes_none : Makes t me (nothing f)
  makes_none = record { made = tt; last = tt }

  made_here : (o : ℕ) → AllByRecursion (IsHere t me (lives_made t me o f.lives)) (map (last_of (lives_made t me o f.lives)) (made_slots t me f.lives o))
  unfolding made_slots lives_made comes_up
  made_here o =
      each (filter (comes_up t me f.lives o) (slots_of t))
      (all_passed (λ s. comes_up t me f.lives o s ≡ true) (comes_up t me f.lives o) (λ s e. e) (slots_of t))
    where
      lives : (s : ℕ) → comes_up t me f.lives o s ≡ true → IsHere t me (lives_made t me o f.lives) (last_of (lives_made t me o f.lives) s)
      lives s e =
          let own : is_own t me s ≡ true = (and_parts (is_own t me s) (not (f.lives.lives s)) (and_parts (is_made_with t o s) (is_own t me s && not (f.lives.lives s)) e).1).0 in
          (own, rw (e, eq-eqb (f.lives.generation s + 1) (f.lives.generation s + 1) refl) refl)

      each : (ss : List ℕ) → AllByRecursion (λ s. comes_up t me f.lives o s ≡ true) ss
          → AllByRecursion (IsHere t me (lives_made t me o f.lives)) (map (last_of (lives_made t me o f.lives)) ss)
      each [] h = tt
      each (s ∷ ss) h = (lives s h.0, each ss h.1)

  create_makes : (m : Msg) (o : ℕ) (x : Endpoint) → Makes t me (with_lives f (create t me f.lives m o x))
  unfolding create made part_make
  create_makes m o x = go (counts_as_live t me f.lives (whose x)) (f.lives.lives o)
    where
      go : (a b : Bool) → Makes t me (with_lives f (
          if not a then answered f.lives (reply me m kinds.CreateRefused (frame_at o 0) x (coded NotHere))
          else if b then answered f.lives (reply me m kinds.CreateRefused (frame_at o 0) x (coded Occupied))
          else made t me f.lives m o x))
      go false b = record { made = tt; last = (refl, refl) }
      go true true = record { made = tt; last = (refl, refl) }
      go true false = record { made = made_here o; last = (refl, refl) }

  part_makes : (o : ℕ) → Makes t me (with_lives f (part_make t me f.lives o))
  unfolding part_make
  part_makes o = record { made = made_here o; last = tt }

  destroy_makes : (m : Msg) (o : ℕ) (x : Endpoint) → Makes t me (destroy t me f m o x)
  unfolding destroy end_set_ended
  destroy_makes m o x = go (not (counts_as_live t me f.lives (whose x)) || not (f.lives.lives o))
    where
      go : (a : Bool) → Makes t me (
          if a then record { frame = f; sent = []; made = []; ended = []; last = Some (reply me m kinds.DestroyDone (frame_at o 0) x (coded NotHere)) }
          else end_set_ended t me f o (Some (reply me m kinds.DestroyDone (frame_of (last_of f.lives o)) x (pos 0 ∷ []))))
      go true = record { made = tt; last = (refl, refl) }
      go false = record { made = tt; last = (refl, refl) }

  part_end_makes : (o : ℕ) → Makes t me (part_end t me f o)
  unfolding part_end end_set_ended
  part_end_makes o = record { made = tt; last = tt }

  duty_of_makes : (m : Msg) (kind : SysKind) (a b : Endpoint) → Makes t me (frame_duty_of t me f m kind a b)
  duty_of_makes m kinds.Create a b = by_plainly t me f (Makes t me) makes_none _ m.payload _ (λ h. create_makes m b.slot.0 a)
  duty_of_makes m kinds.Destroy a b = by_plainly t me f (Makes t me) makes_none _ m.payload _ (λ h. destroy_makes m b.slot.0 a)
  duty_of_makes m kinds.CreateDone a b = by_plainly t me f (Makes t me) makes_none _ m.payload _ (λ h. record { made = tt; last = tt })
  duty_of_makes m kinds.CreateRefused a b = by_number t me f (Makes t me) makes_none _ m.payload _ (λ n. record { made = tt; last = tt })
  duty_of_makes m kinds.DestroyDone a b =
      by_number t me f (Makes t me) makes_none _ m.payload _ (λ n. by_natural t me f (Makes t me) makes_none n _ (λ k. record { made = tt; last = tt }))
  duty_of_makes m kinds.Import a b = by_plainly t me f (Makes t me) makes_none _ m.payload _ (λ h. record { made = tt; last = tt })
  duty_of_makes m kinds.ImportDone a b = by_plainly t me f (Makes t me) makes_none _ m.payload _ (λ h. record { made = tt; last = tt })
  duty_of_makes m kinds.ImportRefused a b = by_number t me f (Makes t me) makes_none _ m.payload _ (λ n. record { made = tt; last = tt })
  duty_of_makes m kinds.ImportEnded a b = by_plainly t me f (Makes t me) makes_none _ m.payload _ (λ h. record { made = tt; last = tt })
  duty_of_makes m kinds.Deport a b = by_plainly t me f (Makes t me) makes_none _ m.payload _ (λ h. record { made = tt; last = tt })
  duty_of_makes m kinds.DeportDone a b = by_plainly t me f (Makes t me) makes_none _ m.payload _ (λ h. record { made = tt; last = tt })
  duty_of_makes m kinds.Announce a b =
      by_number t me f (Makes t me) makes_none _ m.payload _ (λ n. by_natural t me f (Makes t me) makes_none n _ (λ k. record { made = tt; last = tt }))
  duty_of_makes m kinds.Register a b = makes_none
  duty_of_makes m kinds.Withdraw a b = makes_none
  duty_of_makes m kinds.Bound a b = makes_none
  duty_of_makes m kinds.Ended a b = makes_none
  duty_of_makes m kinds.NameReply a b = makes_none
  duty_of_makes m kinds.PartMake a b = by_plainly t me f (Makes t me) makes_none _ m.payload _ (λ h. part_makes a.slot.0)
  duty_of_makes m kinds.PartEnd a b = by_plainly t me f (Makes t me) makes_none _ m.payload _ (λ h. part_end_makes a.slot.0)

  duty_from_makes : (m : Msg) (kind : SysKind) (o : Option Endpoint) → Makes t me (frame_duty_from t me f m kind o)
  duty_from_makes m kind None = makes_none
  duty_from_makes m kind (Some a) = duty_of_makes m kind a m.target

  pub frame_duty_makes : (m : Msg) (kind : SysKind) → Makes t me (frame_duty t me f kind m)
  unfolding frame_duty
  frame_duty_makes m kind = duty_from_makes m kind m.source

module _ {M : Type 0} (t : Tables) (me : ℕ) (R : Frame → List Msg → Frame → Type 0) (walk : IsWalk t me R) where
  -- from d to e the frame service goes on so, and its lives stay
  record Walks (d e : Doing M) : Type 0 where
    pub more : List Msg
    pub sent : e.sent ≡ d.sent ++ more
    pub does : R d.body.frame more e.body.frame
    pub lives : e.body.frame.lives ≡ d.body.frame.lives

  stands : (d e : Doing M) (ms : List Msg) → e.sent ≡ d.sent ++ ms → e.body.frame ≡ d.body.frame → AllOffLoan ms → Walks d e
  stands d e ms sent same off =
      record {
        more = ms;
        sent = sent;
        does = subst (λ (z : Frame). R d.body.frame ms z) (sym same) (walk.off d.body.frame ms off);
        lives = ap (λ (z : Frame). z.lives) same;
      }

  goes_on : (d e f : Doing M) → Walks d e → Walks e f → Walks d f
  goes_on d e f h k =
      record {
        more = h.more ++ k.more;
        sent = k.sent ∙ ap (λ (z : List Msg). z ++ k.more) h.sent ∙ append_assoc d.sent h.more k.more;
        does = walk.two d.body.frame e.body.frame f.body.frame h.more k.more h.does k.does;
        lives = k.lives ∙ h.lives;
      }

  sent_off : (d : Doing M) (x : Incarnation) (p : ℕ) (k : Option ℤ) (c : Content) → (c.prio.0 == 0) ≡ false → AllOffLoan (sent_at t me d x p k c).messages
  sent_off d x p (Some k) c h = off_send t me d.body.frame d.body.links x p k c h
  sent_off d x p None c h = off_broadcast t me d.body.frame d.body.links x p c h

  apply_all_walks : (x : Incarnation) (m : Option Msg) (cs : List Command) → SendsOpenly cs → (d : Doing M) → IsHere t me d.body.frame.lives x
      → Walks d (apply_all t me x m cs d)
  apply_all_walks x m [] clear d here = stands d d [] (sym (append-nil d.sent)) refl tt
  apply_all_walks x m (commands.Send p k signal payload prio ∷ cs) clear d here =
      let c : Content = record { signal = signal; payload = payload; prio = prio } in
      goes_on d _ _ (stands d _ (sent_at t me d x p k c).messages refl refl (sent_off d x p k c clear.0)) (apply_all_walks x m cs clear.1 _ here)
  apply_all_walks x m (commands.Defer ∷ cs) clear d here =
      goes_on d _ _ (stands d _ [] (sym (append-nil d.sent)) refl tt) (apply_all_walks x m cs clear _ here)
  apply_all_walks x m (commands.Recall ∷ cs) clear d here =
      goes_on d _ _ (stands d _ [] (sym (append-nil d.sent)) refl tt) (apply_all_walks x m cs clear _ here)
  apply_all_walks x m (commands.RecallAll ∷ cs) clear d here =
      goes_on d _ _ (stands d _ [] (sym (append-nil d.sent)) refl tt) (apply_all_walks x m cs clear _ here)
  apply_all_walks x m (commands.Frame c ∷ cs) clear d here =
      let same : (frame_request t me d.body.frame x c).now.lives ≡ d.body.frame.lives = request_lives t me d.body.frame x c in
      goes_on d _ _
      (record { more = (frame_request t me d.body.frame x c).sent; sent = refl; does = walk.request d.body.frame x c here; lives = same })
      (apply_all_walks x m cs clear _ (subst (λ (z : Lives). IsHere t me z x) (sym same) here))
  apply_all_walks x m (commands.Name c ∷ cs) clear d here =
      goes_on d _ _ (stands d _ (name_request t me d.body.links x c).sent refl refl (off_name_request t me d.body.links x c)) (apply_all_walks x m cs clear _ here)

  module _ (model : Behaviour M) (clear : IsOpen model) where
    begun_walks : (x : Incarnation) (d : Doing M) → IsHere t me d.body.frame.lives x → Walks d (begun model t me x d)
    begun_walks x d here =
        let k = apply_all_walks x None (model.begin x).commands (clear.begin x) _ here in
        record { more = k.more; sent = k.sent; does = k.does; lives = k.lives }

    all_begun_walks : (xs : List Incarnation) (d : Doing M) → AllByRecursion (IsHere t me d.body.frame.lives) xs → Walks d (all_begun model t me xs d)
    all_begun_walks [] d h = stands d d [] (sym (append-nil d.sent)) refl tt
    all_begun_walks (x ∷ xs) d h =
        let first = begun_walks x d h.0 in
        goes_on d _ _ first (all_begun_walks xs (begun model t me x d)
        (subst (λ (z : Lives). AllByRecursion (IsHere t me z) xs) (sym first.lives) h.1))

    all_gone_walks : (xs : List Incarnation) (d : Doing M) → Walks d (all_gone t me xs d)
    all_gone_walks [] d = stands d d [] (sym (append-nil d.sent)) refl tt
    all_gone_walks (x ∷ xs) d =
        goes_on d _ _ (stands d (gone t me x d) (end_of t me d.body.links x).sent refl refl (off_end_of t me d.body.links x)) (all_gone_walks xs (gone t me x d))

    closing_walks : (d : Doing M) (o : Option Msg) → IsOffLast o → Walks d (closing d o)
    closing_walks d None h = stands d d [] (sym (append-nil d.sent)) refl tt
    closing_walks d (Some m) h = stands d _ (m ∷ []) refl refl (h, tt)

    -- a turn as a whole: what its message makes the frame service do at first, and then what follows
    module _ (Q : Frame → List Msg → Frame → Type 0) (on : (f g h : Frame) (a b : List Msg) → Q f a g → R g b h → Q f (a ++ b) h) where
      -- a duty of the frame service, and what follows it
      frame_walks : (b : Body M) (r : FrameDone) → Makes t me r → Q b.frame r.sent r.frame → Q b.frame (with_frame model t me b r).sent (with_frame model t me b r).body.frame
      frame_walks b r made does =
          let begins = all_begun_walks r.made (record (doing b) { body = record b { frame = r.frame }; sent = r.sent }) made.made in
          let k = goes_on _ _ _ (goes_on _ _ _ begins (all_gone_walks r.ended _)) (closing_walks _ r.last made.last) in
          subst (λ (z : List Msg). Q b.frame z (with_frame model t me b r).body.frame) (sym k.sent)
          (on b.frame r.frame (with_frame model t me b r).body.frame r.sent k.more does k.does)

      module _ (b : Body M) (m : Msg) (idle : IsOffLoan m → Q b.frame [] b.frame) where
        -- the duty of a kind is so
        abbrev pub Duty : SysKind → Type 0
        Duty kind = Q b.frame (frame_duty t me b.frame kind m).sent (frame_duty t me b.frame kind m).frame

        -- each duty of the frame service is so
        abbrev pub AreDuties : Type 0
        AreDuties = (m.prio.0 == 0) ≡ true → (kind : SysKind) → slice_get all_kinds m.signal ≡ Some kind → Duty kind

        -- a turn without a duty of the frame service
        idle_walks : (ms : List Msg) → IsOffLoan m → AllOffLoan ms → Q b.frame ms b.frame
        idle_walks ms off h = on b.frame b.frame b.frame [] ms (idle off) (walk.off b.frame ms h)

        duty_walks : (kind : SysKind) → slice_get all_kinds m.signal ≡ Some kind → (m.prio.0 == 0) ≡ true → Duty kind
            → Q b.frame (duty model t me b m kind).sent (duty model t me b m kind).body.frame
        duty_walks kinds.Register e z h = idle_walks _ (rw (z, e) (refl, refl)) (off_table t me b.table kinds.Register m)
        duty_walks kinds.Withdraw e z h = idle_walks _ (rw (z, e) (refl, refl)) (off_table t me b.table kinds.Withdraw m)
        duty_walks kinds.Bound e z h = idle_walks _ (rw (z, e) (refl, refl)) (off_links t me b.links _ kinds.Bound m)
        duty_walks kinds.Ended e z h = idle_walks _ (rw (z, e) (refl, refl)) (off_links t me b.links _ kinds.Ended m)
        duty_walks kinds.NameReply e z h = idle_walks _ (rw (z, e) (refl, refl)) (off_links t me b.links _ kinds.NameReply m)
        duty_walks kinds.Create e z h = frame_walks b _ (frame_duty_makes t me b.frame m kinds.Create) h
        duty_walks kinds.CreateDone e z h = frame_walks b _ (frame_duty_makes t me b.frame m kinds.CreateDone) h
        duty_walks kinds.CreateRefused e z h = frame_walks b _ (frame_duty_makes t me b.frame m kinds.CreateRefused) h
        duty_walks kinds.Destroy e z h = frame_walks b _ (frame_duty_makes t me b.frame m kinds.Destroy) h
        duty_walks kinds.DestroyDone e z h = frame_walks b _ (frame_duty_makes t me b.frame m kinds.DestroyDone) h
        duty_walks kinds.Import e z h = frame_walks b _ (frame_duty_makes t me b.frame m kinds.Import) h
        duty_walks kinds.ImportDone e z h = frame_walks b _ (frame_duty_makes t me b.frame m kinds.ImportDone) h
        duty_walks kinds.ImportRefused e z h = frame_walks b _ (frame_duty_makes t me b.frame m kinds.ImportRefused) h
        duty_walks kinds.ImportEnded e z h = frame_walks b _ (frame_duty_makes t me b.frame m kinds.ImportEnded) h
        duty_walks kinds.Deport e z h = frame_walks b _ (frame_duty_makes t me b.frame m kinds.Deport) h
        duty_walks kinds.DeportDone e z h = frame_walks b _ (frame_duty_makes t me b.frame m kinds.DeportDone) h
        duty_walks kinds.Announce e z h = frame_walks b _ (frame_duty_makes t me b.frame m kinds.Announce) h
        duty_walks kinds.PartMake e z h = frame_walks b _ (frame_duty_makes t me b.frame m kinds.PartMake) h
        duty_walks kinds.PartEnd e z h = frame_walks b _ (frame_duty_makes t me b.frame m kinds.PartEnd) h

        system_walks : (o : Option SysKind) → slice_get all_kinds m.signal ≡ o → (m.prio.0 == 0) ≡ true → ((kind : SysKind) → o ≡ Some kind → Duty kind)
            → Q b.frame (system_done model t me b m o).sent (system_done model t me b m o).body.frame
        system_walks None e z h = idle_walks [] (rw (z, e) (refl, refl)) tt
        system_walks (Some kind) e z h = duty_walks kind e z (h kind refl)

        -- what an actor does, after nothing of the frame service
        alone : (ms : List Msg) (g : Frame) → IsOffLoan m → R b.frame ms g → Q b.frame ms g
        alone ms g off h = on b.frame b.frame g [] ms (idle off) h

        handled_walks : (x : Incarnation) (machine : M) → IsHere t me b.frame.lives x → R b.frame (handled model t me b x m machine).sent (handled model t me b x m machine).body.frame
        unfolding handled
        handled_walks x machine here =
            let r = model.handle x machine m in
            let first : Doing M = record (doing b) { body = record b { machines = updated b.machines x.slot.0 (Some r.machine) }; notes = r.notes } in
            let k = apply_all_walks x (Some m) r.commands (clear.handle x machine m) first here in
            subst (λ (z : List Msg). R b.frame z (moved t me b x m r).body.frame) (sym k.sent) k.does

        dispatched_walks : (o : Option M) → IsHere t me b.frame.lives (last_of b.frame.lives m.target.slot.0)
            → R b.frame (dispatched model t me b m o).sent (dispatched model t me b m o).body.frame
        dispatched_walks None here = walk.off b.frame [] tt
        dispatched_walks (Some machine) here = handled_walks (last_of b.frame.lives m.target.slot.0) machine here

        dispatch_walks : R b.frame (dispatch model t me b m).sent (dispatch model t me b m).body.frame
        unfolding dispatch
        dispatch_walks = go (is_own t me m.target.slot.0 && b.frame.lives.lives m.target.slot.0) refl (not (is_meant b.frame m))
          where
            there : (is_own t me m.target.slot.0 && b.frame.lives.lives m.target.slot.0) ≡ true → IsHere t me b.frame.lives (last_of b.frame.lives m.target.slot.0)
            there e =
                let p = and_parts (is_own t me m.target.slot.0) (b.frame.lives.lives m.target.slot.0) e in
                (p.0, rw (p.1, eq-eqb (b.frame.lives.generation m.target.slot.0) (b.frame.lives.generation m.target.slot.0) refl) refl)

            go : (a : Bool) → (is_own t me m.target.slot.0 && b.frame.lives.lives m.target.slot.0) ≡ a → (c : Bool) → DoneBy R b (
                if not a then nobody_there b m
                else if c then treated (doing b) (did.Stale (whose m.target))
                else dispatched model t me b m (b.machines m.target.slot.0))
            go false e c = walk.off b.frame [] tt
            go true e true = walk.off b.frame [] tt
            go true e false = dispatched_walks (b.machines m.target.slot.0) (there e)

        -- a whole turn, by what its duty does
        pub turn_walks : AreDuties → Q b.frame (treat model t me b m).sent (treat model t me b m).body.frame
        unfolding treat
        turn_walks h = go (m.prio.0 == 0) refl
          where
            go : (a : Bool) → (m.prio.0 == 0) ≡ a
                → DoneBy Q b (if a then treated (system_done model t me b m (slice_get all_kinds m.signal)) did.Duty else dispatch model t me b m)
            go true e = system_walks (slice_get all_kinds m.signal) refl e (h e)
            go false e = alone _ _ (rw e (refl, refl)) dispatch_walks

    -- a whole turn
    pub treat_walks : (b : Body M) (m : Msg)
        → ((m.prio.0 == 0) ≡ true → (kind : SysKind) → slice_get all_kinds m.signal ≡ Some kind → R b.frame (frame_duty t me b.frame kind m).sent (frame_duty t me b.frame kind m).frame)
        → R b.frame (treat model t me b m).sent (treat model t me b m).body.frame
    treat_walks b m h = turn_walks R walk.two b m (λ off. walk.off b.frame [] tt) h

    -- the start of a controller
    all_started_walks : (xs : List Incarnation) (s : Starting M) → AllByRecursion (IsHere t me s.doing.body.frame.lives) xs → Walks s.doing (all_started model t me xs s).doing
    all_started_walks [] s h = stands s.doing s.doing [] (sym (append-nil s.doing.sent)) refl tt
    all_started_walks (x ∷ xs) s h =
        let k = apply_all_walks x None (model.begin x).commands (clear.begin x) _ h.0 in
        let first : Walks s.doing (started model t me s x).doing = record { more = k.more; sent = k.sent; does = k.does; lives = k.lives } in
        goes_on s.doing _ _ first (all_started_walks xs (started model t me s x)
        (subst (λ (z : Lives). AllByRecursion (IsHere t me z) xs) (sym first.lives) h.1))

    pub start_walks : R (first_frame t me) (first_state model t me).outbox (first_state model t me).body.frame
    unfolding starting first_actors
    start_walks =
        let k = all_started_walks (first_actors t me) (record { doing = doing (first_body t me); entries = [] }) here in
        subst (λ (z : List Msg). R (first_frame t me) z (first_state model t me).body.frame) (sym k.sent) k.does
      where
        lives : (s : ℕ) → (is_own t me s && lives_from_start t s) ≡ true → IsHere t me (first_lives t me) (incarnation s 1)
        lives s e = ((and_parts (is_own t me s) (lives_from_start t s) e).0, rw e refl)

        each : (ss : List ℕ) → AllByRecursion (λ s. IsHere t me (first_lives t me) (incarnation s 1)) ss
            → AllByRecursion (IsHere t me (first_lives t me)) (map (λ s. incarnation s 1) ss)
        each [] h = tt
        each (s ∷ ss) h = (h.0, each ss h.1)

        here : AllByRecursion (IsHere t me (first_lives t me)) (first_actors t me)
        here =
            each (filter (λ s. is_own t me s && lives_from_start t s) (slots_of t))
            (all_passed (λ s. IsHere t me (first_lives t me) (incarnation s 1)) (λ s. is_own t me s && lives_from_start t s) lives (slots_of t))
