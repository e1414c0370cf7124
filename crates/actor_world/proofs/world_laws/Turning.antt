-- What a turn does to the messages that are kept for later: its account adds up.
use Rattle.std.proofs.Common.{◌≡◌, ℕ, ◌+◌, ◌==◌, ◌<◌, nat_lt, Bool, true, false, not, ◌&&◌, if◌then◌else◌, List, [], ◌∷◌, length, slice_get, Option, Some, None, refl, sym, ap, ◌∙◌, arith, ◌⊎◌, inl, inr}
use Rattle.std.proofs.lemmas.Bool.{cases_eq, and_parts}
use Rattle.std.specs.List.{list_any}
use Rattle.room_kinds.specs.declared.message.Msg.{Msg}
use Rattle.room_kinds.specs.declared.note.Note.{Note}
use Rattle.room_kinds.specs.declared.numbers.Incarnation.{Incarnation}
use Rattle.room_kinds.specs.declared.system.SysKind.{SysKind}
use Rattle.room_kinds.specs.declared.system.SysKind.TheVariants as kinds
use Rattle.journal.specs.declared.entry.Did.{Did}
use Rattle.journal.specs.declared.entry.Did.TheVariants as did
use Rattle.room_wiring.specs.declared.tables.Tables.{Tables}
use Rattle.actor_merge.specs.Parties.{Treated}
use Rattle.actor_duties.specs.Words.{updated, whose, is_own, slots_of}
use Rattle.actor_duties.specs.State.{Lives, Links, NameTable, Done}
use Rattle.actor_duties.specs.Lives.{last_of}
use Rattle.actor_duties.specs.Frame.{FrameDone, frame_duty}
use Rattle.actor_duties.specs.Names.{table_duty}
use Rattle.actor_world.specs.Behaviour.{Behaviour, Handling, Handled, Deferred, Unhandled}
use Rattle.actor_world.specs.Body.{Body, Doing}
use Rattle.actor_world.specs.Turns.{all_kinds, doing, treated, with_frame, with_table, with_links, duty, system_done, handled_as, moved, handled, nobody_there, dispatched, is_meant, dispatch, treat}
use Rattle.actor_world.specs.Life.{IsModest, downs}
use Rattle.actor_world.proofs.Slots.{own_in_range}
use Rattle.actor_world.proofs.Counts.{times}
use Rattle.actor_world.proofs.Notes.{Keeps as KeepsLives, apply_all_keeps as apply_all_lives}
use Rattle.actor_world.proofs.LifeSteps.{IsSound}
use Rattle.actor_world.proofs.TurnLives.{frame_counts}
use Rattle.actor_world.specs.world_laws.Counting.{count}
use Rattle.actor_world.specs.world_laws.Whereabouts.{is_deferred, is_kept, is_defer, TellsDefers}
use Rattle.actor_world.proofs.world_laws.Sums.{total, total_same, total_add, total_zero, only_at, only_here, only_there, total_point}
use Rattle.actor_world.proofs.world_laws.Keeping.{weight, Keeps, apply_all_keeps}
use Rattle.actor_world.proofs.world_laws.Ending.{in_slot, in_slot_times, Fits, fits, Goes, frame_goes}

-- no slot that does not live has deferred messages
abbrev pub HasNone : {M : Type 0} → Body M → Type 0
HasNone b = (s : ℕ) → b.frame.lives.lives s ≡ false → b.deferred s ≡ []

-- how many deferred messages pass a test, in all slots
abbrev pub held : {M : Type 0} → (Msg → Bool) → Tables → Body M → ℕ
held which t b = total (λ s. count which (b.deferred s)) (slots_of t)

-- whether notes say that what lives in a slot went down
abbrev pub falls : Lives → List Note → ℕ → Bool
falls l ns s = l.lives s && nat_lt 0 (downs (last_of l s) ns)

-- how many of what the slots that go down had deferred pass a test
abbrev pub lost_held : {M : Type 0} → (Msg → Bool) → Tables → Body M → List Note → ℕ
lost_held which t b ns = total (λ s. if falls b.frame.lives ns s then count which (b.deferred s) else 0) (slots_of t)

-- the message of a turn, if the turn is done with it
abbrev pub rid : Did → Msg → List Msg
rid what m = if is_deferred what then [] else m ∷ []

-- what was deferred, and the turn's message, are what is deferred then, what came back, what was lost,
-- and the turn's message if the turn is done with it
pub record Accounted {M : Type 0} (t : Tables) (b : Body M) (m : Msg) (r : Treated (Body M)) : Type 0 where
  pub none : HasNone r.body
  pub counts : (which : Msg → Bool)
      → ((held which t r.body + count which r.back) + lost_held which t b r.notes) + count which (rid r.did m)
      ≡ held which t b + count which (m ∷ [])

-- where no notes tell of an end, nothing is lost
none_lost : {M : Type 0} (which : Msg → Bool) (t : Tables) (b : Body M) (ns : List Note) → ((x : Incarnation) → downs x ns ≡ 0) → lost_held which t b ns ≡ 0
none_lost which t b ns h = total_zero _ (λ s. go s (b.frame.lives.lives s) (downs (last_of b.frame.lives s) ns) (h (last_of b.frame.lives s))) (slots_of t)
  where
    go : (s : ℕ) (a : Bool) (n : ℕ) → n ≡ 0 → (if a && nat_lt 0 n then count which (b.deferred s) else 0) ≡ 0
    go s true n e = rw e refl
    go s false n e = refl

-- a turn that leaves lives and deferred lists alone is done with its message
accounted_plain : {M : Type 0} (t : Tables) (b : Body M) (m : Msg) (r : Treated (Body M)) → HasNone b
    → r.body.frame.lives ≡ b.frame.lives → r.body.deferred ≡ b.deferred → r.back ≡ [] → ((x : Incarnation) → downs x r.notes ≡ 0) → is_deferred r.did ≡ false
    → Accounted t b m r
accounted_plain t b m r none lives deferred back downs what =
    record {
      none = λ s h. ap (λ (z : ℕ → List Msg). z s) deferred ∙ none s (ap (λ (z : Lives). z.lives s) (sym lives) ∙ h);
      counts = λ which.
          let l = none_lost which t b r.notes downs in
          rw (deferred, back, what) (omega (arith, l));
    }

-- a duty is one of the frame service, of the name table or of the links
pub duty_by : {M : Type 0} (model : Behaviour M) (t : Tables) (me : ℕ) (b : Body M) (m : Msg) (P : Doing M → Type 0)
    → ((kind : SysKind) → P (with_frame model t me b (frame_duty t me b.frame kind m)))
    → ((r : Done NameTable) → P (with_table b r)) → ((r : Done Links) → P (with_links b r))
    → (kind : SysKind) → P (duty model t me b m kind)
duty_by model t me b m P frame table links kinds.Register = table (table_duty t me b.table kinds.Register m)
duty_by model t me b m P frame table links kinds.Withdraw = table (table_duty t me b.table kinds.Withdraw m)
duty_by model t me b m P frame table links kinds.Bound = links _
duty_by model t me b m P frame table links kinds.Ended = links _
duty_by model t me b m P frame table links kinds.NameReply = links _
duty_by model t me b m P frame table links kinds.Create = frame kinds.Create
duty_by model t me b m P frame table links kinds.CreateDone = frame kinds.CreateDone
duty_by model t me b m P frame table links kinds.CreateRefused = frame kinds.CreateRefused
duty_by model t me b m P frame table links kinds.Destroy = frame kinds.Destroy
duty_by model t me b m P frame table links kinds.DestroyDone = frame kinds.DestroyDone
duty_by model t me b m P frame table links kinds.Import = frame kinds.Import
duty_by model t me b m P frame table links kinds.ImportDone = frame kinds.ImportDone
duty_by model t me b m P frame table links kinds.ImportRefused = frame kinds.ImportRefused
duty_by model t me b m P frame table links kinds.ImportEnded = frame kinds.ImportEnded
duty_by model t me b m P frame table links kinds.Deport = frame kinds.Deport
duty_by model t me b m P frame table links kinds.DeportDone = frame kinds.DeportDone
duty_by model t me b m P frame table links kinds.Announce = frame kinds.Announce
duty_by model t me b m P frame table links kinds.PartMake = frame kinds.PartMake
duty_by model t me b m P frame table links kinds.PartEnd = frame kinds.PartEnd

module _ {M : Type 0} (model : Behaviour M) (modest : IsModest model) (tells : TellsDefers model) (t : Tables) (me : ℕ) where
  -- a duty of the frame service
  frame_accounted : (b : Body M) (m : Msg) (r : FrameDone) → HasNone b → Fits b.frame.lives r
      → Accounted t b m (treated (with_frame model t me b r) did.Duty)
  frame_accounted b m r none fit =
      let d : Doing M = with_frame model t me b r in
      let g : Goes (doing b) d r.ended = frame_goes model t me b r none fit in
      let c = frame_counts model modest t me b r in
      record {
        none = λ s h. gone s g (fit.lives s (ap (λ (z : Lives). z.lives s) (sym c.0) ∙ h)) (in_slot s r.ended) refl;
        counts = λ which.
            let each : (s : ℕ) → count which (d.body.deferred s) + (if falls b.frame.lives d.notes s then count which (b.deferred s) else 0) ≡ count which (b.deferred s) =
            λ s. slot which s g (c.2 (last_of b.frame.lives s)) (b.frame.lives.lives s) refl (in_slot s r.ended) refl in
            let a = total_add (λ s. count which (d.body.deferred s)) (λ s. if falls b.frame.lives d.notes s then count which (b.deferred s) else 0) (slots_of t) in
            let e = total_same _ _ each (slots_of t) in
            rw g.back (omega (arith, a, e));
      }
    where
      gone : (s : ℕ) → Goes (doing b) (with_frame model t me b r) r.ended → (b.frame.lives.lives s ≡ false) ⊎ (in_slot s r.ended ≡ true)
          → (q : Bool) → in_slot s r.ended ≡ q → (with_frame model t me b r).body.deferred s ≡ []
      gone s g k true e = g.goes s e
      gone s g (inl h) false e = g.stays s e ∙ none s h
      gone s g (inr h) false e = absurd cc

      hits : (s : ℕ) → nat_lt 0 (times (last_of b.frame.lives s) r.ended) ≡ in_slot s r.ended
      hits s = rw fit.ended (in_slot_times b.frame.lives s fit.slots)

      slot : (which : Msg → Bool) (s : ℕ) → Goes (doing b) (with_frame model t me b r) r.ended
          → downs (last_of b.frame.lives s) (with_frame model t me b r).notes ≡ times (last_of b.frame.lives s) r.ended
          → (a : Bool) → b.frame.lives.lives s ≡ a → (q : Bool) → in_slot s r.ended ≡ q
          → count which ((with_frame model t me b r).body.deferred s)
          + (if falls b.frame.lives (with_frame model t me b r).notes s then count which (b.deferred s) else 0)
          ≡ count which (b.deferred s)
      slot which s g n true f true e =
          let z = g.goes s e in
          let k : nat_lt 0 (downs (last_of b.frame.lives s) (with_frame model t me b r).notes) ≡ true = ap (nat_lt 0) n ∙ hits s ∙ e in
          rw (z, f, k) (omega arith)
      slot which s g n true f false e =
          let z = g.stays s e in
          let k : nat_lt 0 (downs (last_of b.frame.lives s) (with_frame model t me b r).notes) ≡ false = ap (nat_lt 0) n ∙ hits s ∙ e in
          rw (z, f, k) (omega arith)
      slot which s g n false f true e =
          let z = g.goes s e in
          let y = none s f in
          rw (z, f, y) (omega arith)
      slot which s g n false f false e =
          let z = g.stays s e in
          rw (z, f) (omega arith)

  duty_accounted : (b : Body M) (m : Msg) (kind : SysKind) → HasNone b → IsSound t me b.frame.lives → Accounted t b m (treated (duty model t me b m kind) did.Duty)
  duty_accounted b m kind none s =
      duty_by model t me b m (λ d. Accounted t b m (treated d did.Duty))
      (λ k. frame_accounted b m (frame_duty t me b.frame k m) none (fits t me b.frame m s k))
      (λ r. accounted_plain t b m (treated (with_table b r) did.Duty) none refl refl refl (λ x. refl) refl)
      (λ r. accounted_plain t b m (treated (with_links b r) did.Duty) none refl refl refl (λ x. refl) refl)
      kind

  system_accounted : (b : Body M) (m : Msg) (o : Option SysKind) → HasNone b → IsSound t me b.frame.lives → Accounted t b m (treated (system_done model t me b m o) did.Duty)
  system_accounted b m None none s = accounted_plain t b m (treated (doing b) did.Duty) none refl refl refl (λ x. refl) refl
  system_accounted b m (Some kind) none s = duty_accounted b m kind none s

  said_deferred : (r : Handling) (x : Incarnation) (state : ℕ) → is_deferred (handled_as r x state) ≡ is_kept r
  said_deferred Handled x state = refl
  said_deferred Deferred x state = refl
  said_deferred Unhandled x state = refl

  -- an actor handles a message
  handled_accounted : (b : Body M) (x : Incarnation) (m : Msg) (machine : M) → HasNone b → x.slot.0 < length t.slots → b.frame.lives.lives x.slot.0 ≡ true
      → Accounted t b m (handled model t me b x m machine)
  unfolding handled
  handled_accounted b x m machine none there live =
      let r = model.handle x machine m in
      let first : Doing M = record (doing b) { body = record b { machines = updated b.machines x.slot.0 (Some r.machine) }; notes = r.notes } in
      let last : Doing M = moved t me b x m r in
      let lives : KeepsLives first last = apply_all_lives t me x (Some m) r.commands first in
      record {
        none = λ s h. others s (ap (λ (z : Lives). z.lives s) (sym lives.lives) ∙ h);
        counts = λ which.
            let k : Keeps which m x.slot.0 (list_any is_defer r.commands) first last = apply_all_keeps which t me x m r.commands first in
            let l = none_lost which t b last.notes (λ y. lives.downs y ∙ (modest.handle x machine m y).1) in
            let what : is_deferred (handled_as r.result x (model.state r.machine)) ≡ last.kept = said_deferred r.result x (model.state r.machine) ∙ tells x machine m ∙ sym k.kept in
            let here : ℕ = x.slot.0 in
            -- at each slot: what is deferred then, and at this one what was, is what was deferred, and at this one what is
            let each : (s : ℕ) → count which (last.body.deferred s) + only_at here (count which (b.deferred here)) s
            ≡ count which (b.deferred s) + only_at here (count which (last.body.deferred here)) s =
            λ s. slot which s k (cases_eq s here) in
            let a = total_add (λ s. count which (last.body.deferred s)) (only_at here (count which (b.deferred here))) (slots_of t) in
            let c = total_add (λ s. count which (b.deferred s)) (only_at here (count which (last.body.deferred here))) (slots_of t) in
            let e = total_same _ _ each (slots_of t) in
            let p = total_point here (count which (b.deferred here)) 0 (length t.slots) (omega arith) (omega arith) in
            let q = total_point here (count which (last.body.deferred here)) 0 (length t.slots) (omega arith) (omega arith) in
            let w = k.counts in
            rid_counts which m (is_deferred (handled_as r.result x (model.state r.machine))) last.kept what _ _ _ _ (omega (arith, a, c, e, p, q, w, l));
      }
    where
      others : (s : ℕ) → b.frame.lives.lives s ≡ false → (moved t me b x m (model.handle x machine m)).body.deferred s ≡ []
      others s h =
          let r = model.handle x machine m in
          let first : Doing M = record (doing b) { body = record b { machines = updated b.machines x.slot.0 (Some r.machine) }; notes = r.notes } in
          let k : Keeps (λ z. false) m x.slot.0 (list_any is_defer r.commands) first (moved t me b x m r) = apply_all_keeps (λ z. false) t me x m r.commands first in
          k.others s (λ e. let z : b.frame.lives.lives s ≡ true = ap b.frame.lives.lives e ∙ live in absurd cc) ∙ none s h

      slot : (which : Msg → Bool) (s : ℕ)
          → Keeps which m x.slot.0 (list_any is_defer (model.handle x machine m).commands)
          (record (doing b) { body = record b { machines = updated b.machines x.slot.0 (Some (model.handle x machine m).machine) }; notes = (model.handle x machine m).notes })
          (moved t me b x m (model.handle x machine m))
          → (s ≡ x.slot.0) ⊎ (s ≡ x.slot.0 → ⊥)
          → count which ((moved t me b x m (model.handle x machine m)).body.deferred s) + only_at x.slot.0 (count which (b.deferred x.slot.0)) s
          ≡ count which (b.deferred s) + only_at x.slot.0 (count which ((moved t me b x m (model.handle x machine m)).body.deferred x.slot.0)) s
      slot which s k (inl e) =
          let p = only_here x.slot.0 (count which (b.deferred x.slot.0)) s e in
          let q = only_here x.slot.0 (count which ((moved t me b x m (model.handle x machine m)).body.deferred x.slot.0)) s e in
          let u : count which (b.deferred s) ≡ count which (b.deferred x.slot.0) = ap (λ z. count which (b.deferred z)) e in
          let v : count which ((moved t me b x m (model.handle x machine m)).body.deferred s) ≡ count which ((moved t me b x m (model.handle x machine m)).body.deferred x.slot.0) =
          ap (λ z. count which ((moved t me b x m (model.handle x machine m)).body.deferred z)) e in
          omega (arith, p, q, u, v)
      slot which s k (inr n) =
          let p = only_there x.slot.0 (count which (b.deferred x.slot.0)) s n in
          let q = only_there x.slot.0 (count which ((moved t me b x m (model.handle x machine m)).body.deferred x.slot.0)) s n in
          let u : count which ((moved t me b x m (model.handle x machine m)).body.deferred s) ≡ count which (b.deferred s) = ap (count which) (k.others s n) in
          omega (arith, p, q, u)

      rid_counts : (which : Msg → Bool) (m : Msg) (handled_as kept : Bool) → handled_as ≡ kept → (after back lost before : ℕ)
          → ((after + back) + lost) ≡ before + weight kept (count which (m ∷ []))
          → ((after + back) + lost) + count which (if handled_as then [] else m ∷ []) ≡ before + count which (m ∷ [])
      rid_counts which m true true e after back lost before h = omega (arith, h)
      rid_counts which m false false e after back lost before h = omega (arith, h)
      rid_counts which m true false e after back lost before h = absurd cc
      rid_counts which m false true e after back lost before h = absurd cc

  nobody_accounted : (b : Body M) (m : Msg) → HasNone b → Accounted t b m (nobody_there b m)
  nobody_accounted b m none = accounted_plain t b m (nobody_there b m) none refl refl refl (λ x. refl) refl

  dispatched_accounted : (b : Body M) (m : Msg) (o : Option M) → HasNone b → m.target.slot.0 < length t.slots → b.frame.lives.lives m.target.slot.0 ≡ true
      → Accounted t b m (dispatched model t me b m o)
  dispatched_accounted b m None none there live = nobody_accounted b m none
  dispatched_accounted b m (Some machine) none there live = handled_accounted b (last_of b.frame.lives m.target.slot.0) m machine none there live

  dispatch_accounted : (b : Body M) (m : Msg) → HasNone b → Accounted t b m (dispatch model t me b m)
  unfolding dispatch
  dispatch_accounted b m none = go (is_own t me m.target.slot.0 && b.frame.lives.lives m.target.slot.0) refl (is_meant b.frame m)
    where
      go : (a : Bool) → (is_own t me m.target.slot.0 && b.frame.lives.lives m.target.slot.0) ≡ a → (c : Bool)
          → Accounted t b m (
          if not a then nobody_there b m
          else if not c then treated (doing b) (did.Stale (whose m.target))
          else dispatched model t me b m (b.machines m.target.slot.0))
      go false e c = nobody_accounted b m none
      go true e false = accounted_plain t b m (treated (doing b) (did.Stale (whose m.target))) none refl refl refl (λ x. refl) refl
      go true e true =
          let p = and_parts (is_own t me m.target.slot.0) (b.frame.lives.lives m.target.slot.0) e in
          dispatched_accounted b m (b.machines m.target.slot.0) none (own_in_range t me m.target.slot.0 p.0) p.1

  pub treat_accounted : (b : Body M) (m : Msg) → HasNone b → IsSound t me b.frame.lives → Accounted t b m (treat model t me b m)
  unfolding treat
  treat_accounted b m none s = go (m.prio.0 == 0)
    where
      go : (a : Bool) → Accounted t b m (
          if a then treated (system_done model t me b m (slice_get all_kinds m.signal)) did.Duty
          else dispatch model t me b m)
      go true = system_accounted b m (slice_get all_kinds m.signal) none s
      go false = dispatch_accounted b m none
