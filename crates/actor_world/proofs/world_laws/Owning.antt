-- What a live incarnation keeps, it deferred itself.
use Rattle.std.proofs.Common.{◌≡◌, ℕ, ◌+◌, ◌≤◌, ◌==◌, Bool, true, false, not, ◌&&◌, if◌then◌else◌, List, [], ◌∷◌, slice_get, Option, Some, None, refl, sym, ap, ◌∙◌, subst, eq-eqb, arith, ◌⊎◌, inl, inr}
use Rattle.std.specs.List.{list_any}
use Rattle.std.proofs.lemmas.Bool.{cases_eq, and_parts, and_from}
use Rattle.room_kinds.specs.declared.message.Msg.{Msg}
use Rattle.room_kinds.specs.declared.numbers.Incarnation.{Incarnation}
use Rattle.room_kinds.specs.declared.system.SysKind.{SysKind}
use Rattle.journal.specs.declared.entry.Did.{Did}
use Rattle.journal.specs.declared.entry.Did.TheVariants as did
use Rattle.journal.specs.declared.entry.Entry.{Entry}
use Rattle.journal.specs.declared.entry.Entry.TheVariants as entry
use Rattle.room_wiring.specs.declared.tables.Tables.{Tables}
use Rattle.actor_merge.specs.Parties.{State, Line, Taken, Treated, next_of, fetch, turn, turn_with, turned, post, post_front, stamped, Does, Replays}
use Rattle.actor_duties.specs.Words.{updated, whose, is_own, is_incarnation}
use Rattle.actor_duties.specs.State.{Lives}
use Rattle.actor_duties.specs.Lives.{is_live, last_of}
use Rattle.actor_duties.specs.Frame.{FrameDone, frame_duty}
use Rattle.actor_world.specs.Behaviour.{Behaviour, Handling, Handled, Deferred, Unhandled}
use Rattle.actor_world.specs.Body.{Body, Doing}
use Rattle.actor_world.specs.Turns.{all_kinds, doing, treated, with_frame, with_table, with_links, duty, system_done, handled_as, moved, handled, nobody_there, dispatched, is_meant, dispatch, treat}
use Rattle.actor_world.specs.Start.{first_state, plant_of}
use Rattle.actor_world.specs.Life.{IsModest}
use Rattle.actor_world.proofs.Notes.{Keeps as KeepsLives, apply_all_keeps as apply_all_lives}
use Rattle.actor_world.proofs.LifeSteps.{IsSound}
use Rattle.actor_world.proofs.TurnLives.{frame_counts}
use Rattle.actor_world.specs.world_laws.Counting.{same_name, times}
use Rattle.actor_world.specs.world_laws.Whereabouts.{is_defer, is_kept, TellsDefers}
use Rattle.actor_world.specs.world_laws.Deferrals.{deferred_by, defers, deferrals}
use Rattle.actor_world.proofs.world_laws.Keeping.{weight, Keeps, apply_all_keeps}
use Rattle.actor_world.proofs.world_laws.Ending.{in_slot, Fits, fits, Goes, frame_goes}
use Rattle.actor_world.proofs.world_laws.Turning.{HasNone, duty_by}
use Rattle.actor_world.proofs.world_laws.Adding.{IsOrdered, Step, does_step, first_none, first_ordered}

-- how often an incarnation keeps a message, if it lives
abbrev pub keeps : {M : Type 0} → Body M → Incarnation → Msg → ℕ
keeps b x m = if is_live b.frame.lives x then times m (b.deferred x.slot.0) else 0

-- 1 where a turn says that an incarnation deferred its message, and that has this name
abbrev pub deferral : Incarnation → Msg → Did → Msg → ℕ
deferral x m what taken = if deferred_by x what && same_name m taken then 1 else 0

-- after a turn an incarnation that lives keeps what it kept, and the turn's message if it deferred that
abbrev pub Owned : {M : Type 0} → Body M → Msg → Treated (Body M) → Type 0
Owned b taken r =
    (x : Incarnation) → is_live r.body.frame.lives x ≡ true → (m : Msg) → times m (r.body.deferred x.slot.0) ≤ keeps b x m + deferral x m r.did taken

owned_plain : {M : Type 0} (b : Body M) (taken : Msg) (r : Treated (Body M)) → r.body.frame.lives ≡ b.frame.lives → r.body.deferred ≡ b.deferred → Owned b taken r
owned_plain b taken r lives deferred x live m =
    let l : is_live b.frame.lives x ≡ true = ap (λ (z : Lives). is_live z x) (sym lives) ∙ live in
    rw (deferred, l) (omega arith)

module _ {M : Type 0} (model : Behaviour M) (modest : IsModest model) (tells : TellsDefers model) (t : Tables) (me : ℕ) where
  frame_owned : (b : Body M) (taken : Msg) (r : FrameDone) → HasNone b → Fits b.frame.lives r → Owned b taken (treated (with_frame model t me b r) did.Duty)
  frame_owned b taken r none fit x live m =
      let g : Goes (doing b) (with_frame model t me b r) r.ended = frame_goes model t me b r none fit in
      let lives : is_live r.frame.lives x ≡ true = ap (λ (z : Lives). is_live z x) (sym (frame_counts model modest t me b r).0) ∙ live in
      go g lives (in_slot x.slot.0 r.ended) refl (b.frame.lives.lives x.slot.0) refl
    where
      go : Goes (doing b) (with_frame model t me b r) r.ended → is_live r.frame.lives x ≡ true
          → (q : Bool) → in_slot x.slot.0 r.ended ≡ q → (a : Bool) → b.frame.lives.lives x.slot.0 ≡ a
          → times m ((with_frame model t me b r).body.deferred x.slot.0) ≤ keeps b x m + 0
      go g lives true e a f = rw (g.goes x.slot.0 e) (omega arith)
      go g lives false e false f = rw (g.stays x.slot.0 e, none x.slot.0 f) (omega arith)
      go g lives false e true f =
          let p = and_parts (r.frame.lives.lives x.slot.0) (r.frame.lives.generation x.slot.0 == x.generation.0) lives in
          let same : (b.frame.lives.generation x.slot.0 == x.generation.0) ≡ true = ap (λ n. n == x.generation.0) (sym (fit.same x.slot.0 f)) ∙ p.1 in
          let was : is_live b.frame.lives x ≡ true = and_from (b.frame.lives.lives x.slot.0) (b.frame.lives.generation x.slot.0 == x.generation.0) f same in
          rw (g.stays x.slot.0 e, was) (omega arith)

  duty_owned : (b : Body M) (m : Msg) (kind : SysKind) → HasNone b → IsSound t me b.frame.lives → Owned b m (treated (duty model t me b m kind) did.Duty)
  duty_owned b m kind none s =
      duty_by model t me b m (λ d. Owned b m (treated d did.Duty))
      (λ k. frame_owned b m (frame_duty t me b.frame k m) none (fits t me b.frame m s k))
      (λ r. owned_plain b m (treated (with_table b r) did.Duty) refl refl)
      (λ r. owned_plain b m (treated (with_links b r) did.Duty) refl refl)
      kind

  system_owned : (b : Body M) (m : Msg) (o : Option SysKind) → HasNone b → IsSound t me b.frame.lives → Owned b m (treated (system_done model t me b m o) did.Duty)
  system_owned b m None none s = owned_plain b m (treated (doing b) did.Duty) refl refl
  system_owned b m (Some kind) none s = duty_owned b m kind none s

  said_by : (x y : Incarnation) (r : Handling) (state : ℕ) → is_incarnation y x ≡ true → deferred_by x (handled_as r y state) ≡ is_kept r
  said_by x y Handled state h = refl
  said_by x y Deferred state h = h
  said_by x y Unhandled state h = refl

  -- the actor that handles a message is the one that lives in its slot
  handled_owned : (b : Body M) (slot : ℕ) (taken : Msg) (machine : M) → Owned b taken (handled model t me b (last_of b.frame.lives slot) taken machine)
  unfolding handled
  handled_owned b slot taken machine x live m =
      let y : Incarnation = last_of b.frame.lives slot in
      let r = model.handle y machine taken in
      let first : Doing M = record (doing b) { body = record b { machines = updated b.machines slot (Some r.machine) }; notes = r.notes } in
      let last : Doing M = moved t me b y taken r in
      let k : Keeps (same_name m) taken slot (list_any is_defer r.commands) first last = apply_all_keeps (same_name m) t me y taken r.commands first in
      let lives : KeepsLives first last = apply_all_lives t me y (Some taken) r.commands first in
      let was : is_live b.frame.lives x ≡ true = ap (λ (z : Lives). is_live z x) (sym lives.lives) ∙ live in
      go k was (cases_eq x.slot.0 slot)
    where
      go : Keeps (same_name m) taken slot (list_any is_defer (model.handle (last_of b.frame.lives slot) machine taken).commands)
          (record (doing b) { body = record b { machines = updated b.machines slot (Some (model.handle (last_of b.frame.lives slot) machine taken).machine) }; notes = (model.handle (last_of b.frame.lives slot) machine taken).notes })
          (moved t me b (last_of b.frame.lives slot) taken (model.handle (last_of b.frame.lives slot) machine taken))
          → is_live b.frame.lives x ≡ true → (x.slot.0 ≡ slot) ⊎ (x.slot.0 ≡ slot → ⊥)
          → times m ((moved t me b (last_of b.frame.lives slot) taken (model.handle (last_of b.frame.lives slot) machine taken)).body.deferred x.slot.0)
          ≤ keeps b x m + deferral x m (handled_as (model.handle (last_of b.frame.lives slot) machine taken).result (last_of b.frame.lives slot)
          (model.state (model.handle (last_of b.frame.lives slot) machine taken).machine)) taken
      go k was (inl e) =
          let r = model.handle (last_of b.frame.lives slot) machine taken in
          let p = and_parts (b.frame.lives.lives x.slot.0) (b.frame.lives.generation x.slot.0 == x.generation.0) was in
          let g : (b.frame.lives.generation slot == x.generation.0) ≡ true = ap (λ n. b.frame.lives.generation n == x.generation.0) (sym e) ∙ p.1 in
          let i : is_incarnation (last_of b.frame.lives slot) x ≡ true = and_from (slot == x.slot.0) (b.frame.lives.generation slot == x.generation.0) (eq-eqb slot x.slot.0 (sym e)) g in
          let d : deferred_by x (handled_as r.result (last_of b.frame.lives slot) (model.state r.machine)) ≡ list_any is_defer r.commands =
          said_by x (last_of b.frame.lives slot) r.result (model.state r.machine) i ∙ tells (last_of b.frame.lives slot) machine taken in
          let now : times m ((moved t me b (last_of b.frame.lives slot) taken r).body.deferred x.slot.0) ≡ times m ((moved t me b (last_of b.frame.lives slot) taken r).body.deferred slot) =
          ap (λ n. times m ((moved t me b (last_of b.frame.lives slot) taken r).body.deferred n)) e in
          let old : times m (b.deferred x.slot.0) ≡ times m (b.deferred slot) = ap (λ n. times m (b.deferred n)) e in
          let w = k.counts in
          let z = weighs (list_any is_defer r.commands) (moved t me b (last_of b.frame.lives slot) taken r).kept k.kept in
          rw (was, d) (omega (arith, now, old, w, z))
        where
          weighs : (a kept : Bool) → kept ≡ a → weight kept (times m (taken ∷ [])) ≤ (if a && same_name m taken then 1 else 0)
          weighs true true h = step (same_name m taken)
            where
              step : (c : Bool) → (if c then 1 else 0) + 0 ≤ (if c then 1 else 0)
              step true = omega arith
              step false = omega arith
          weighs true false h = absurd cc
          weighs false true h = absurd cc
          weighs false false h = omega arith
      go k was (inr n) =
          let same = k.others x.slot.0 n in
          rw (was, same) (omega arith)

  dispatched_owned : (b : Body M) (m : Msg) (o : Option M) → Owned b m (dispatched model t me b m o)
  dispatched_owned b m None = owned_plain b m (nobody_there b m) refl refl
  dispatched_owned b m (Some machine) = handled_owned b m.target.slot.0 m machine

  pub treat_owned : (b : Body M) (m : Msg) → HasNone b → IsSound t me b.frame.lives → Owned b m (treat model t me b m)
  unfolding treat dispatch
  treat_owned b m none s = go (m.prio.0 == 0) (is_own t me m.target.slot.0 && b.frame.lives.lives m.target.slot.0) (is_meant b.frame m)
    where
      go : (p a d : Bool) → Owned b m (
          if p then treated (system_done model t me b m (slice_get all_kinds m.signal)) did.Duty
          else if not a then nobody_there b m
          else if not d then treated (doing b) (did.Stale (whose m.target))
          else dispatched model t me b m (b.machines m.target.slot.0))
      go true a d = system_owned b m (slice_get all_kinds m.signal) none s
      go false false d = owned_plain b m (nobody_there b m) refl refl
      go false true false = owned_plain b m (treated (doing b) (did.Stale (whose m.target))) refl refl
      go false true true = dispatched_owned b m (b.machines m.target.slot.0)

-- each live incarnation keeps a message no more often than this
abbrev pub KeepsWithin : {M : Type 0} → Body M → (Incarnation → Msg → ℕ) → Type 0
KeepsWithin b most = (x : Incarnation) → is_live b.frame.lives x ≡ true → (m : Msg) → times m (b.deferred x.slot.0) ≤ most x m

-- an entry allows as many more as it tells of
abbrev Allows : {M : Type 0} → State (Body M) → State (Body M) → Entry → Type 0
Allows s next e = (most : Incarnation → Msg → ℕ) → KeepsWithin s.body most → KeepsWithin next.body (λ x m. most x m + defers x m e)

module _ {M : Type 0} (model : Behaviour M) (t : Tables) (lines : List Line) (c : ℕ) (modest : IsModest model) (tells : TellsDefers model) where
  turned_allows : (s : State (Body M)) (k : Taken) → IsOrdered t c s
      → Allows s (turned s k (treat model t c s.body k.message)).0 (turned s k (treat model t c s.body k.message)).1
  turned_allows s k h most within x live m =
      let o : times m ((treat model t c s.body k.message).body.deferred x.slot.0) ≤ keeps s.body x m + deferral x m (treat model t c s.body k.message).did k.message =
      treat_owned model modest tells t c s.body k.message h.none h.sound x live m in
      let w : keeps s.body x m ≤ most x m = go (is_live s.body.frame.lives x) refl in
      omega (arith, o, w)
    where
      go : (b : Bool) → is_live s.body.frame.lives x ≡ b → keeps s.body x m ≤ most x m
      go true e = rw e (within x e m)
      go false e = rw e (omega arith)

  still_allows : (s next : State (Body M)) (e : Entry) → next.body ≡ s.body → Allows s next e
  still_allows s next e same most within x live m =
      let a = subst (λ (b : Body M). KeepsWithin b most) (sym same) within x live m in omega (arith, a)

  does_allows : (s next : State (Body M)) (e : Entry) → IsOrdered t c s → Does (plant_of model t lines) c s e next → Allows s next e
  unfolding fetch turn post
  does_allows s next (entry.Start who state notes) h d = absurd d
  does_allows s next (entry.Fetch stamp m) h d = still_allows s next (entry.Fetch stamp m) (sym (ap (λ (z : State (Body M) × Entry). z.0.body) d))
  does_allows s next (entry.Post stamp m) h d = go s.outbox d
    where
      go : (box : List Msg) → post_front c s box ≡ Some (next, entry.Post stamp m) → Allows s next (entry.Post stamp m)
      go [] k = absurd cc
      go (x ∷ xs) k =
          let r : State (Body M) × Entry = (record s { clock = s.clock + 1; outbox = xs }, entry.Post (record { 0 = s.clock + 1 }) (stamped c (s.clock + 1) x)) in
          let q : State (Body M) × Entry = (next, entry.Post stamp m) in
          let e : r ≡ q = cc in
          still_allows s next (entry.Post stamp m) (sym (ap (λ (z : State (Body M) × Entry). z.0.body) e))
  does_allows s next (entry.Turn stamp from sent what notes) h d = go s.outbox (next_of s.pending) d
    where
      go : (box : List Msg) (o : Option Taken) → turn_with (plant_of model t lines) c s box o ≡ Some (next, entry.Turn stamp from sent what notes)
          → Allows s next (entry.Turn stamp from sent what notes)
      go [] None k = absurd cc
      go (x ∷ xs) o k = absurd cc
      go [] (Some taken) k =
          let r : State (Body M) × Entry = turned s taken (treat model t c s.body taken.message) in
          let q : State (Body M) × Entry = (next, entry.Turn stamp from sent what notes) in
          let e : r ≡ q = cc in subst (λ (z : State (Body M) × Entry). Allows s z.0 z.1) e (turned_allows s taken h)

  replay_allows : (es : List Entry) (s end : State (Body M)) (most : Incarnation → Msg → ℕ) → IsOrdered t c s → KeepsWithin s.body most
      → Replays (plant_of model t lines) c s es end → KeepsWithin end.body (λ x m. most x m + deferrals x m es)
  replay_allows [] s end most h within r x live m =
      let a = subst (λ (z : State (Body M)). KeepsWithin z.body most) (sym r) within x live m in omega (arith, a)
  replay_allows (e ∷ es) s end most h within r x live m =
      let step : Step t c s r.0 e = (does_step model t lines c modest tells s r.0 e h r.1).1 in
      let a = replay_allows es r.0 end (λ y n. most y n + defers y n e) step.ordered (does_allows s r.0 e h r.1 most within) r.2 x live m in
      omega (arith, a)

  pub kept_by_deferrer : (es : List Entry) (end : State (Body M)) → Replays (plant_of model t lines) c (first_state model t c) es end
      → (x : Incarnation) → is_live end.body.frame.lives x ≡ true → (m : Msg) → times m (end.body.deferred x.slot.0) ≤ deferrals x m es
  kept_by_deferrer es end r x live m =
      let a = replay_allows es (first_state model t c) end (λ y n. 0) (first_ordered model t lines c modest tells)
      (λ y l n. let z : times n ((first_state model t c).body.deferred y.slot.0) ≡ 0 = ap (times n) (first_none model t lines c modest tells y.slot.0) in omega (arith, z)) r x live m in
      omega (arith, a)
