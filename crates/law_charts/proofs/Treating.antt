-- What a turn makes of a message, of both behaviours.
use Rattle.std.proofs.Common.{◌≡◌, ℕ, ◌==◌, ◌&&◌, Bool, true, false, not, if◌then◌else◌, List, [], ◌∷◌, ◌++◌, slice_get, Option, Some, None, refl, ap, ◌∙◌}
use Rattle.room_kinds.specs.declared.message.Msg.{Msg}
use Rattle.room_kinds.specs.declared.note.Note.{Note}
use Rattle.room_kinds.specs.declared.note.Note.TheVariants as notes
use Rattle.room_kinds.specs.declared.numbers.Incarnation.{Incarnation}
use Rattle.room_kinds.specs.declared.system.SysKind.{SysKind}
use Rattle.room_kinds.specs.declared.system.SysKind.TheVariants as kinds
use Rattle.journal.specs.declared.entry.Did.{Did}
use Rattle.journal.specs.declared.entry.Did.TheVariants as did
use Rattle.room_wiring.specs.declared.tables.Tables.{Tables}
use Rattle.actor_merge.specs.Parties.{Treated}
use Rattle.actor_duties.specs.Words.{updated, whose, is_own}
use Rattle.actor_duties.specs.Lives.{last_of}
use Rattle.actor_duties.specs.Frame.{FrameDone, frame_duty}
use Rattle.actor_world.specs.Behaviour.{Behaviour, Handling}
use Rattle.actor_world.specs.Body.{Body, Doing}
use Rattle.actor_world.specs.Turns.{all_kinds, doing, treated, begun, all_begun, gone, all_gone, closing, with_frame, duty, system_done, handled_as, moved, handled, nobody_there, dispatched, is_meant, dispatch, treat}
use Rattle.law_charts.specs.Alike.{DoAlike}
use Rattle.law_charts.proofs.Doings.{Both, neither, both, Core, Work, core_of, body_of, work_of, doing_of, none, Like, Alike, updated_like, apply_all_alike}

-- a work whose actor comes up in a slot
abbrev set_up : Work → Incarnation → ℕ → List Note → Work
set_up w x state ns = record w { core = record w.core { deferred = updated w.core.deferred x.slot.0 [] }; notes = w.notes ++ (notes.Up x state ∷ ns); kept = false }

-- a work whose actor goes
abbrev gone_work : Tables → ℕ → Incarnation → Work → Work
gone_work t me x w = work_of (gone t me x (doing_of w none))

abbrev closed : Work → Option Msg → Work
closed w o = work_of (closing (doing_of w none) o)

module _ {M N : Type 0} (R : ℕ → M → N → Type 0) (one : Behaviour M) (other : Behaviour N) (alike : DoAlike R one other) (t : Tables) (me : ℕ) where
  begun_alike : (x : Incarnation) (d : Doing M) (e : Doing N) → Alike R d e → Alike R (begun one t me x d) (begun other t me x e)
  begun_alike x d e h =
      let a = one.begin x in
      let b = other.begin x in
      let same = alike.begin x in
      let state : one.state (one.begin x).machine ≡ other.state (other.begin x).machine = alike.state x.slot.0 (one.begin x).machine (other.begin x).machine same.machine in
      apply_all_alike R t me x None (one.begin x).commands (other.begin x).commands
      (record d {
        body = record d.body { machines = updated d.body.machines x.slot.0 (Some (one.begin x).machine); deferred = updated d.body.deferred x.slot.0 [] };
        notes = d.notes ++ (notes.Up x (one.state (one.begin x).machine) ∷ (one.begin x).notes);
        kept = false;
      })
      (record e {
        body = record e.body { machines = updated e.body.machines x.slot.0 (Some (other.begin x).machine); deferred = updated e.body.deferred x.slot.0 [] };
        notes = e.notes ++ (notes.Up x (other.state (other.begin x).machine) ∷ (other.begin x).notes);
        kept = false;
      })
      same.commands
      (record {
        work =
            ap (λ (w : Work). set_up w x (one.state (one.begin x).machine) (one.begin x).notes) h.work
            ∙ ap (λ (n : ℕ). set_up (work_of e) x n (one.begin x).notes) state
            ∙ ap (λ (ns : List Note). set_up (work_of e) x (other.state (other.begin x).machine) ns) same.notes;
        machines = updated_like R d.body.machines e.body.machines x.slot.0 (Some (one.begin x).machine) (Some (other.begin x).machine) h.machines (both same.machine);
      })

  all_begun_alike : (xs : List Incarnation) (d : Doing M) (e : Doing N) → Alike R d e → Alike R (all_begun one t me xs d) (all_begun other t me xs e)
  all_begun_alike [] d e h = h
  all_begun_alike (x ∷ xs) d e h = all_begun_alike xs (begun one t me x d) (begun other t me x e) (begun_alike x d e h)

  gone_alike : (x : Incarnation) (d : Doing M) (e : Doing N) → Alike R d e → Alike R (gone t me x d) (gone t me x e)
  gone_alike x d e h = record {
    work = ap (gone_work t me x) h.work;
    machines = updated_like R d.body.machines e.body.machines x.slot.0 None None h.machines neither;
  }

  all_gone_alike : (xs : List Incarnation) (d : Doing M) (e : Doing N) → Alike R d e → Alike R (all_gone t me xs d) (all_gone t me xs e)
  all_gone_alike [] d e h = h
  all_gone_alike (x ∷ xs) d e h = all_gone_alike xs (gone t me x d) (gone t me x e) (gone_alike x d e h)

  closing_alike : (o : Option Msg) (d : Doing M) (e : Doing N) → Alike R d e → Alike R (closing d o) (closing e o)
  closing_alike None d e h = h
  closing_alike (Some m) d e h = record { work = ap (λ (w : Work). closed w (Some m)) h.work; machines = h.machines }

  module _ (k : Core) (f : ℕ → Option M) (g : ℕ → Option N) (like : Like R f g) where
    frame_alike : (r : FrameDone) → Alike R (with_frame one t me (body_of k f) r) (with_frame other t me (body_of k g) r)
    frame_alike r =
        let d : Doing M = record (doing (body_of k f)) { body = record (body_of k f) { frame = r.frame }; sent = r.sent } in
        let e : Doing N = record (doing (body_of k g)) { body = record (body_of k g) { frame = r.frame }; sent = r.sent } in
        let begun = all_begun_alike r.made d e (record { work = refl; machines = like }) in
        closing_alike r.last (all_gone t me r.ended (all_begun one t me r.made d)) (all_gone t me r.ended (all_begun other t me r.made e))
        (all_gone_alike r.ended (all_begun one t me r.made d) (all_begun other t me r.made e) begun)

    duty_alike : (m : Msg) (kind : SysKind) → Alike R (duty one t me (body_of k f) m kind) (duty other t me (body_of k g) m kind)
    duty_alike m kinds.Register = record { work = refl; machines = like }
    duty_alike m kinds.Withdraw = record { work = refl; machines = like }
    duty_alike m kinds.Bound = record { work = refl; machines = like }
    duty_alike m kinds.Ended = record { work = refl; machines = like }
    duty_alike m kinds.NameReply = record { work = refl; machines = like }
    duty_alike m kinds.Create = frame_alike (frame_duty t me k.frame kinds.Create m)
    duty_alike m kinds.CreateDone = frame_alike (frame_duty t me k.frame kinds.CreateDone m)
    duty_alike m kinds.CreateRefused = frame_alike (frame_duty t me k.frame kinds.CreateRefused m)
    duty_alike m kinds.Destroy = frame_alike (frame_duty t me k.frame kinds.Destroy m)
    duty_alike m kinds.DestroyDone = frame_alike (frame_duty t me k.frame kinds.DestroyDone m)
    duty_alike m kinds.Import = frame_alike (frame_duty t me k.frame kinds.Import m)
    duty_alike m kinds.ImportDone = frame_alike (frame_duty t me k.frame kinds.ImportDone m)
    duty_alike m kinds.ImportRefused = frame_alike (frame_duty t me k.frame kinds.ImportRefused m)
    duty_alike m kinds.ImportEnded = frame_alike (frame_duty t me k.frame kinds.ImportEnded m)
    duty_alike m kinds.Deport = frame_alike (frame_duty t me k.frame kinds.Deport m)
    duty_alike m kinds.DeportDone = frame_alike (frame_duty t me k.frame kinds.DeportDone m)
    duty_alike m kinds.Announce = frame_alike (frame_duty t me k.frame kinds.Announce m)
    duty_alike m kinds.PartMake = frame_alike (frame_duty t me k.frame kinds.PartMake m)
    duty_alike m kinds.PartEnd = frame_alike (frame_duty t me k.frame kinds.PartEnd m)

    system_alike : (m : Msg) (o : Option SysKind) → Alike R (system_done one t me (body_of k f) m o) (system_done other t me (body_of k g) m o)
    system_alike m None = record { work = refl; machines = like }
    system_alike m (Some kind) = duty_alike m kind

    -- what a turn makes of its message, but for machines
    pub record TreatedAlike (a : Treated (Body M)) (b : Treated (Body N)) : Type 0 where
      pub core : core_of a.body ≡ core_of b.body
      pub machines : Like R a.body.machines b.body.machines
      pub sent : a.sent ≡ b.sent
      pub back : a.back ≡ b.back
      pub did : a.did ≡ b.did
      pub notes : a.notes ≡ b.notes

    treated_alike : (d : Doing M) (e : Doing N) (what said : Did) → Alike R d e → what ≡ said → TreatedAlike (treated d what) (treated e said)
    treated_alike d e what said h same = record {
      core = ap (λ (w : Work). w.core) h.work;
      machines = h.machines;
      sent = ap (λ (w : Work). w.sent) h.work;
      back = ap (λ (w : Work). w.back) h.work;
      did = same;
      notes = ap (λ (w : Work). w.notes) h.work;
    }

    handled_alike : (x : Incarnation) (m : Msg) (a : M) (b : N) → R x.slot.0 a b → TreatedAlike (handled one t me (body_of k f) x m a) (handled other t me (body_of k g) x m b)
    unfolding handled
    handled_alike x m a b r =
        let same = alike.handle x a b m r in
        let state : one.state (one.handle x a m).machine ≡ other.state (other.handle x b m).machine =
        alike.state x.slot.0 (one.handle x a m).machine (other.handle x b m).machine same.machine in
        treated_alike (moved t me (body_of k f) x m (one.handle x a m)) (moved t me (body_of k g) x m (other.handle x b m))
        (handled_as (one.handle x a m).result x (one.state (one.handle x a m).machine)) (handled_as (other.handle x b m).result x (other.state (other.handle x b m).machine))
        (apply_all_alike R t me x (Some m) (one.handle x a m).commands (other.handle x b m).commands
        (record (doing (body_of k f)) { body = record (body_of k f) { machines = updated f x.slot.0 (Some (one.handle x a m).machine) }; notes = (one.handle x a m).notes })
        (record (doing (body_of k g)) { body = record (body_of k g) { machines = updated g x.slot.0 (Some (other.handle x b m).machine) }; notes = (other.handle x b m).notes })
        same.commands
        (record {
          work = ap (λ (ns : List Note). record { core = k; sent = []; back = []; notes = ns; kept = false }) same.notes;
          machines = updated_like R f g x.slot.0 (Some (one.handle x a m).machine) (Some (other.handle x b m).machine) like (both same.machine);
        }))
        (ap (λ (h : Handling). handled_as h x (one.state (one.handle x a m).machine)) same.result
        ∙ ap (λ (n : ℕ). handled_as (other.handle x b m).result x n) state)

    dispatched_alike : (m : Msg) (a : Option M) (b : Option N) → Both (R m.target.slot.0) a b → TreatedAlike (dispatched one t me (body_of k f) m a) (dispatched other t me (body_of k g) m b)
    dispatched_alike m a b neither = record { core = refl; machines = like; sent = refl; back = refl; did = refl; notes = refl }
    dispatched_alike m a b (both {x} {y} r) = handled_alike (last_of k.frame.lives m.target.slot.0) m x y r

    pub treat_alike : (m : Msg) → TreatedAlike (treat one t me (body_of k f) m) (treat other t me (body_of k g) m)
    unfolding treat dispatch
    treat_alike m = go (m.prio.0 == 0) (is_own t me m.target.slot.0 && k.frame.lives.lives m.target.slot.0) (is_meant k.frame m)
      where
        go : (p a d : Bool) → TreatedAlike (
            if p then treated (system_done one t me (body_of k f) m (slice_get all_kinds m.signal)) did.Duty
            else if not a then nobody_there (body_of k f) m
            else if not d then treated (doing (body_of k f)) (did.Stale (whose m.target))
            else dispatched one t me (body_of k f) m (f m.target.slot.0)) (
            if p then treated (system_done other t me (body_of k g) m (slice_get all_kinds m.signal)) did.Duty
            else if not a then nobody_there (body_of k g) m
            else if not d then treated (doing (body_of k g)) (did.Stale (whose m.target))
            else dispatched other t me (body_of k g) m (g m.target.slot.0))
        go true a d = treated_alike (system_done one t me (body_of k f) m (slice_get all_kinds m.signal)) (system_done other t me (body_of k g) m (slice_get all_kinds m.signal)) did.Duty did.Duty
            (system_alike m (slice_get all_kinds m.signal)) refl
        go false false d = record { core = refl; machines = like; sent = refl; back = refl; did = refl; notes = refl }
        go false true false = record { core = refl; machines = like; sent = refl; back = refl; did = refl; notes = refl }
        go false true true = dispatched_alike m (f m.target.slot.0) (g m.target.slot.0) (like m.target.slot.0)
