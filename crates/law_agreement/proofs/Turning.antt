-- What a turn announces is what it does to lives, and what it takes out is what its directory hears.
use Rattle.std.proofs.Common.{◌≡◌, ℕ, ◌==◌, ◌&&◌, Bool, true, false, not, if◌then◌else◌, List, [], slice_get, Option, Some, None, refl, sym, ap, ◌∙◌, subst}
use Rattle.room_kinds.specs.declared.message.Msg.{Msg}
use Rattle.room_kinds.specs.declared.numbers.Incarnation.{Incarnation}
use Rattle.room_kinds.specs.declared.system.SysKind.{SysKind}
use Rattle.room_kinds.specs.declared.system.SysKind.TheVariants as kinds
use Rattle.journal.specs.declared.entry.Did.TheVariants as did
use Rattle.room_wiring.specs.declared.tables.Tables.{Tables}
use Rattle.actor_merge.specs.Parties.{Treated}
use Rattle.actor_duties.specs.Words.{updated, whose, is_own}
use Rattle.actor_duties.specs.State.{Lives, Links, NameTable, Done}
use Rattle.actor_duties.specs.Lives.{last_of}
use Rattle.actor_duties.specs.Frame.{FrameDone, frame_duty}
use Rattle.actor_duties.specs.Names.{table_duty}
use Rattle.actor_world.specs.Behaviour.{Behaviour}
use Rattle.actor_world.specs.Body.{Body, Doing}
use Rattle.actor_world.specs.Turns.{all_kinds, doing, treated, with_frame, with_table, with_links, duty, system_done, moved, handled, nobody_there, dispatched, is_meant, dispatch, treat}
use Rattle.actor_world.specs.Directories.{IsOpen}
use Rattle.actor_world.proofs.LifeSteps.{IsSound}
use Rattle.law_agreement.specs.Announced.{heard_of, heard}
use Rattle.law_agreement.specs.Bodies.{part_heard_of, part_heard}
use Rattle.law_agreement.proofs.Lists.{all_append}
use Rattle.law_agreement.proofs.Plain.{AllPlain, plain_table, plain_links}
use Rattle.law_agreement.proofs.Carrying.{NotSystem, KeepsOpen, apply_all_carries, frame_carries}
use Rattle.law_agreement.proofs.Hearing.{heard_plain}
use Rattle.law_agreement.proofs.Alternating.{AlternateTo, to_off, to_append, all_plain_off}
use Rattle.law_agreement.proofs.Living.{Stepped, stays}
use Rattle.law_agreement.proofs.Telling.{IsOwned, AllOwned, plain_owned, Announces, announces_plain, announces_more, TellsParts, parts_plain, parts_more, Tells, AlternatesParts}
use Rattle.law_agreement.proofs.Duties.{IsFar, frame_duty_tells, frame_duty_told, frame_duty_lives}

-- in the middle of a turn: what was sent so far tells what was done to lives
pub record Says {M : Type 0} (t : Tables) (me : ℕ) (b : Body M) (sent : List Msg) (came : List Msg) (next : Body M) : Type 0 where
  pub owned : AllOwned t me sent
  pub announced : Announces t me b.frame.lives next.frame.lives sent
  pub parts : IsSound t me b.frame.lives → TellsParts t me b.frame.lives next.frame.lives sent
  pub alternate : IsSound t me b.frame.lives → AlternatesParts t me b.frame.lives sent
  pub stepped : Stepped t me b.frame.lives next.frame.lives
  pub back : NotSystem came
  pub deferred : (n : ℕ) → NotSystem (next.deferred n)

-- what a turn makes of its message: what it tells, what its directory hears, and what a part here of another
-- controller's slot does
pub record TurnSays {M : Type 0} (t : Tables) (me : ℕ) (b : Body M) (m : Msg) (r : Treated (Body M)) : Type 0 where
  pub says : Says t me b r.sent r.back r.body
  pub told : (s : ℕ) → r.body.frame.told s ≡ heard t me s m (b.frame.told s)
  pub lives : IsSound t me b.frame.lives → (o s : ℕ) → IsFar t me o s → r.body.frame.lives.lives s ≡ part_heard t me o m (b.frame.lives.lives s)

module _ {M : Type 0} (model : Behaviour M) (clear : IsOpen model) (t : Tables) (me : ℕ) where
  -- what leaves lives alone and tells of none
  still_says : (b next : Body M) (sent came : List Msg) → next.frame.lives ≡ b.frame.lives → AllPlain sent → NotSystem came → ((n : ℕ) → NotSystem (next.deferred n))
      → Says t me b sent came next
  still_says b next sent came lives plain back deferred =
      record {
        owned = plain_owned t me sent plain;
        announced = subst (λ (z : Lives). Announces t me b.frame.lives z sent) (sym lives) (announces_plain t me b.frame.lives sent plain);
        parts = λ sound. subst (λ (z : Lives). TellsParts t me b.frame.lives z sent) (sym lives) (parts_plain t me b.frame.lives sent plain);
        alternate = λ sound o d own other. to_off t d o sent (b.frame.lives.lives o) (all_plain_off t d o sent plain);
        stepped = stays lives;
        back = back;
        deferred = deferred;
      }

  frame_says : (b : Body M) (r : FrameDone) → ((n : ℕ) → NotSystem (b.deferred n)) → Tells t me b.frame.lives r
      → Says t me b (with_frame model t me b r).sent (with_frame model t me b r).back (with_frame model t me b r).body
  frame_says b r deferred k =
      let c = frame_carries model clear t me b r k.last in
      let open_then : KeepsOpen (with_frame model t me b r) = c.kept (tt, deferred) in
      record {
        owned = subst (AllOwned t me) (sym c.sent) (all_append (IsOwned t me) r.sent c.more k.owned (plain_owned t me c.more c.plain));
        announced = subst (λ (z : Lives). Announces t me b.frame.lives z (with_frame model t me b r).sent) (sym c.lives)
            (subst (Announces t me b.frame.lives r.frame.lives) (sym c.sent)
            (announces_more t me b.frame.lives r.frame.lives r.sent c.more k.announced (λ d s. heard_plain t d s c.more c.plain)));
        parts = λ sound.
            subst (λ (z : Lives). TellsParts t me b.frame.lives z (with_frame model t me b r).sent) (sym c.lives)
            (subst (TellsParts t me b.frame.lives r.frame.lives) (sym c.sent)
            (parts_more t me b.frame.lives r.frame.lives r.sent c.more (k.parts sound) c.plain));
        alternate = λ sound o d own other.
            subst (AlternateTo t d o (b.frame.lives.lives o)) (sym c.sent)
            (to_append t d o r.sent c.more (b.frame.lives.lives o) (k.alternate sound o d own other) (all_plain_off t d o c.more c.plain));
        stepped = subst (Stepped t me b.frame.lives) (sym c.lives) k.stepped;
        back = open_then.0;
        deferred = open_then.1;
      }

  -- what a duty makes of a body, of a kind that is known
  record DutySays (b : Body M) (m : Msg) (kind : Option SysKind) (d : Doing M) : Type 0 where
    pub says : Says t me b d.sent d.back d.body
    pub told : (s : ℕ) → d.body.frame.told s ≡ heard_of t me s kind m.source m.target m.payload (b.frame.told s)
    pub lives : IsSound t me b.frame.lives → (o s : ℕ) → IsFar t me o s
        → d.body.frame.lives.lives s ≡ part_heard_of t me o kind m.source m.target m.payload (b.frame.lives.lives s)

  of_frame : (b : Body M) (m : Msg) (kind : SysKind) → ((n : ℕ) → NotSystem (b.deferred n)) → DutySays b m (Some kind) (with_frame model t me b (frame_duty t me b.frame kind m))
  of_frame b m kind deferred =
      let r : FrameDone = frame_duty t me b.frame kind m in
      let k : Tells t me b.frame.lives r = frame_duty_tells t me b.frame m kind in
      let c = frame_carries model clear t me b r k.last in
      record {
        says = frame_says b r deferred k;
        told = λ s. ap (λ (g : ℕ → ℕ). g s) c.told ∙ frame_duty_told t me b.frame s m kind;
        lives = λ sound o s far. ap (λ (z : Lives). z.lives s) c.lives ∙ frame_duty_lives t me b.frame o s far sound m kind;
      }

  -- a duty of the name table, and one of the links
  of_table : (b : Body M) (r : Done NameTable) → ((n : ℕ) → NotSystem (b.deferred n)) → AllPlain r.sent
      → Says t me b (with_table b r).sent (with_table b r).back (with_table b r).body
  of_table b r h plain = still_says b (with_table b r).body r.sent [] refl plain tt h

  of_links : (b : Body M) (r : Done Links) → ((n : ℕ) → NotSystem (b.deferred n)) → AllPlain r.sent
      → Says t me b (with_links b r).sent (with_links b r).back (with_links b r).body
  of_links b r h plain = still_says b (with_links b r).body r.sent [] refl plain tt h

  duty_says : (b : Body M) (m : Msg) → ((n : ℕ) → NotSystem (b.deferred n)) → (kind : SysKind) → DutySays b m (Some kind) (duty model t me b m kind)
  duty_says b m h kinds.Register =
      record { says = of_table b (table_duty t me b.table kinds.Register m) h (plain_table t me b.table kinds.Register m); told = λ s. refl; lives = λ sound o s far. refl }
  duty_says b m h kinds.Withdraw =
      record { says = of_table b (table_duty t me b.table kinds.Withdraw m) h (plain_table t me b.table kinds.Withdraw m); told = λ s. refl; lives = λ sound o s far. refl }
  duty_says b m h kinds.Bound = record { says = of_links b _ h (plain_links t me b.links _ kinds.Bound m); told = λ s. refl; lives = λ sound o s far. refl }
  duty_says b m h kinds.Ended = record { says = of_links b _ h (plain_links t me b.links _ kinds.Ended m); told = λ s. refl; lives = λ sound o s far. refl }
  duty_says b m h kinds.NameReply = record { says = of_links b _ h (plain_links t me b.links _ kinds.NameReply m); told = λ s. refl; lives = λ sound o s far. refl }
  duty_says b m h kinds.Create = of_frame b m kinds.Create h
  duty_says b m h kinds.CreateDone = of_frame b m kinds.CreateDone h
  duty_says b m h kinds.CreateRefused = of_frame b m kinds.CreateRefused h
  duty_says b m h kinds.Destroy = of_frame b m kinds.Destroy h
  duty_says b m h kinds.DestroyDone = of_frame b m kinds.DestroyDone h
  duty_says b m h kinds.Import = of_frame b m kinds.Import h
  duty_says b m h kinds.ImportDone = of_frame b m kinds.ImportDone h
  duty_says b m h kinds.ImportRefused = of_frame b m kinds.ImportRefused h
  duty_says b m h kinds.ImportEnded = of_frame b m kinds.ImportEnded h
  duty_says b m h kinds.Deport = of_frame b m kinds.Deport h
  duty_says b m h kinds.DeportDone = of_frame b m kinds.DeportDone h
  duty_says b m h kinds.Announce = of_frame b m kinds.Announce h
  duty_says b m h kinds.PartMake = of_frame b m kinds.PartMake h
  duty_says b m h kinds.PartEnd = of_frame b m kinds.PartEnd h

  system_says : (b : Body M) (m : Msg) → ((n : ℕ) → NotSystem (b.deferred n)) → (o : Option SysKind) → DutySays b m o (system_done model t me b m o)
  system_says b m h None = record { says = still_says b b [] [] refl tt tt h; told = λ s. refl; lives = λ sound o s far. refl }
  system_says b m h (Some kind) = duty_says b m h kind

  -- what a message of an actor makes of a body
  record ActorSays (b : Body M) (r : Treated (Body M)) : Type 0 where
    pub says : Says t me b r.sent r.back r.body
    pub told : r.body.frame.told ≡ b.frame.told
    pub lives : r.body.frame.lives ≡ b.frame.lives

  handled_says : (b : Body M) (x : Incarnation) (m : Msg) (machine : M) → ((n : ℕ) → NotSystem (b.deferred n)) → (m.prio.0 == 0) ≡ false
      → ActorSays b (handled model t me b x m machine)
  unfolding handled
  handled_says b x m machine h hand =
      let r = model.handle x machine m in
      let first : Doing M = record (doing b) { body = record b { machines = updated b.machines x.slot.0 (Some r.machine) }; notes = r.notes } in
      let c = apply_all_carries t me x (Some m) hand r.commands (clear.handle x machine m) first in
      let k = c.kept (tt, h) in
      record {
        says = still_says b (moved t me b x m r).body (moved t me b x m r).sent (moved t me b x m r).back c.lives (subst AllPlain (sym c.sent) c.plain) k.0 k.1;
        told = c.told;
        lives = c.lives;
      }

  nobody_says : (b : Body M) (m : Msg) → ((n : ℕ) → NotSystem (b.deferred n)) → ActorSays b (nobody_there b m)
  nobody_says b m h = record { says = still_says b b [] [] refl tt tt h; told = refl; lives = refl }

  dispatched_says : (b : Body M) (m : Msg) (k : Option M) → ((n : ℕ) → NotSystem (b.deferred n)) → (m.prio.0 == 0) ≡ false → ActorSays b (dispatched model t me b m k)
  dispatched_says b m None h hand = nobody_says b m h
  dispatched_says b m (Some machine) h hand = handled_says b (last_of b.frame.lives m.target.slot.0) m machine h hand

  dispatch_says : (b : Body M) (m : Msg) → ((n : ℕ) → NotSystem (b.deferred n)) → (m.prio.0 == 0) ≡ false → ActorSays b (dispatch model t me b m)
  unfolding dispatch
  dispatch_says b m h hand = go (not (is_own t me m.target.slot.0 && b.frame.lives.lives m.target.slot.0)) (not (is_meant b.frame m))
    where
      go : (a c : Bool) → ActorSays b (
          if a then nobody_there b m
          else if c then treated (doing b) (did.Stale (whose m.target))
          else dispatched model t me b m (b.machines m.target.slot.0))
      go true c = nobody_says b m h
      go false true = record { says = still_says b b [] [] refl tt tt h; told = refl; lives = refl }
      go false false = dispatched_says b m (b.machines m.target.slot.0) h hand

  -- THE TURN: what it tells is what it does to lives, and what it does to others' is what it heard
  pub treat_says : (b : Body M) (m : Msg) → ((n : ℕ) → NotSystem (b.deferred n)) → TurnSays t me b m (treat model t me b m)
  unfolding treat heard part_heard
  treat_says b m h = go (m.prio.0 == 0) refl
    where
      go : (a : Bool) → (m.prio.0 == 0) ≡ a
          → TurnSays t me b m (if a then treated (system_done model t me b m (slice_get all_kinds m.signal)) did.Duty else dispatch model t me b m)
      go true e =
          let k : DutySays b m (slice_get all_kinds m.signal) (system_done model t me b m (slice_get all_kinds m.signal)) = system_says b m h (slice_get all_kinds m.signal) in
          record { says = k.says; told = λ s. rw e (k.told s); lives = λ sound o s far. rw e (k.lives sound o s far) }
      go false e =
          let k : ActorSays b (dispatch model t me b m) = dispatch_says b m h e in
          record {
            says = k.says;
            told = λ s. rw e (ap (λ (g : ℕ → ℕ). g s) k.told);
            lives = λ sound o s far. rw e (ap (λ (z : Lives). z.lives s) k.lives);
          }
