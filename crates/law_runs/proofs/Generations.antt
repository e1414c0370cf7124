-- The generation of a slot is at most one more than its owner's turns.
use Rattle.std.proofs.Common.{◌≡◌, ℕ, ◌+◌, ◌≤◌, ◌==◌, ◌&&◌, nat_lt, nat_le, Bool, true, false, not, if◌then◌else◌, List, [], ◌∷◌, ◌++◌, slice_get, Option, Some, None, refl, ap, subst, arith}
use Rattle.std.proofs.lemmas.Bool.{leb-true}
use Rattle.room_kinds.specs.declared.message.Msg.{Msg}
use Rattle.room_kinds.specs.declared.numbers.Incarnation.{Incarnation}
use Rattle.room_kinds.specs.declared.system.SysKind.{SysKind}
use Rattle.journal.specs.declared.entry.Did.TheVariants as did
use Rattle.journal.specs.declared.entry.Entry.{Entry}
use Rattle.journal.specs.declared.entry.Entry.TheVariants as entry
use Rattle.room_wiring.specs.declared.tables.Tables.{Tables}
use Rattle.actor_merge.specs.Parties.{State, Line, Taken, next_of, fetch, turn, turn_with, turned, post, post_front, stamped, Does, Replays}
use Rattle.actor_duties.specs.Frame.{frame_duty}
use Rattle.actor_duties.specs.Lives.{last_of}
use Rattle.actor_duties.specs.State.{Frame, Lives}
use Rattle.actor_duties.specs.Words.{updated, whose, is_own}
use Rattle.actor_world.specs.Behaviour.{Behaviour}
use Rattle.actor_world.specs.Body.{Body, Doing}
use Rattle.actor_world.specs.Journals.{is_turn}
use Rattle.actor_world.specs.Life.{IsModest, created, born, ReplaysTellLives}
use Rattle.actor_world.specs.Start.{lives_from_start, first_lives, first_body, first_actors, Starting, starting, first_state, start_entries, plant_of}
use Rattle.actor_world.specs.Turns.{all_kinds, doing, treated, with_frame, with_table, with_links, system_done, moved, handled, nobody_there, dispatched, is_meant, dispatch, treat}
use Rattle.actor_world.proofs.LivesLaw.{all_started_keeps}
use Rattle.actor_world.proofs.Notes.{Keeps, apply_all_keeps}
use Rattle.actor_world.proofs.TurnLives.{frame_counts}
use Rattle.actor_world.proofs.world_laws.Turning.{duty_by}
use Rattle.law_runs.specs.Turns.{turns_in}

-- a duty of the frame service raises the generation of a slot by one at most
abbrev pub DutiesRaiseByOne : Type 0
DutiesRaiseByOne = (t : Tables) (me : ℕ) (f : Frame) (kind : SysKind) (m : Msg) (s : ℕ) → (frame_duty t me f kind m).frame.lives.generation s ≤ f.lives.generation s + 1

born_below : (g last : ℕ) → 1 ≤ born g last → g ≤ last
born_below g last h = go (nat_lt 0 g) (nat_le g last) refl h
  where
    go : (a b : Bool) → nat_le g last ≡ b → 1 ≤ (if a && b then 1 else 0) → g ≤ last
    go true true e k = leb-true g last e
    go true false e k = absurd (omega (arith, k))
    go false b e k = absurd (omega (arith, k))

pub turns-append : (a b : List Entry) → turns_in (a ++ b) ≡ turns_in a + turns_in b
turns-append [] b = omega arith
turns-append (e ∷ a) b = let h = turns-append a b in omega (arith, h)

module _ {M : Type 0} (model : Behaviour M) (modest : IsModest model) (t : Tables) (raises : DutiesRaiseByOne) where
  module _ (me s : ℕ) where
    abbrev Low : Body M → Body M → Type 0
    Low b next = next.frame.lives.generation s ≤ b.frame.lives.generation s + 1

    same_low : (b next : Body M) → next.frame.lives ≡ b.frame.lives → Low b next
    same_low b next same = let k : next.frame.lives.generation s ≡ b.frame.lives.generation s = ap (λ (l : Lives). l.generation s) same in omega (arith, k)

    system_low : (b : Body M) (m : Msg) (o : Option SysKind) → Low b (system_done model t me b m o).body
    system_low b m None = same_low b b refl
    system_low b m (Some kind) =
        duty_by model t me b m (λ (d : Doing M). Low b d.body)
        (λ k.
        let same : (with_frame model t me b (frame_duty t me b.frame k m)).body.frame.lives.generation s ≡ (frame_duty t me b.frame k m).frame.lives.generation s =
        ap (λ (l : Lives). l.generation s) (frame_counts model modest t me b (frame_duty t me b.frame k m)).0 in
        let low = raises t me b.frame k m s in
        omega (arith, same, low))
        (λ r. same_low b (with_table b r).body refl)
        (λ r. same_low b (with_links b r).body refl)
        kind

    handled_low : (b : Body M) (x : Incarnation) (m : Msg) (machine : M) → Low b (handled model t me b x m machine).body
    unfolding handled
    handled_low b x m machine =
        let r = model.handle x machine m in
        let first : Doing M = record (doing b) { body = record b { machines = updated b.machines x.slot.0 (Some r.machine) }; notes = r.notes } in
        let k : Keeps first (moved t me b x m r) = apply_all_keeps t me x (Some m) r.commands first in
        same_low b (moved t me b x m r).body k.lives

    dispatched_low : (b : Body M) (m : Msg) (o : Option M) → Low b (dispatched model t me b m o).body
    dispatched_low b m None = same_low b b refl
    dispatched_low b m (Some machine) = handled_low b (last_of b.frame.lives m.target.slot.0) m machine

    treat_low : (b : Body M) (m : Msg) → Low b (treat model t me b m).body
    unfolding treat dispatch
    treat_low b m = go (m.prio.0 == 0) (is_own t me m.target.slot.0 && b.frame.lives.lives m.target.slot.0) (is_meant b.frame m)
      where
        go : (p a d : Bool) → Low b (
            if p then treated (system_done model t me b m (slice_get all_kinds m.signal)) did.Duty
            else if not a then nobody_there b m
            else if not d then treated (doing b) (did.Stale (whose m.target))
            else dispatched model t me b m (b.machines m.target.slot.0)).body
        go true a d = system_low b m (slice_get all_kinds m.signal)
        go false false d = same_low b b refl
        go false true false = same_low b b refl
        go false true true = dispatched_low b m (b.machines m.target.slot.0)

  module _ (lines : List Line) (c s : ℕ) where
    -- an entry raises it by one at most, and only where it is a turn
    step : (old next : State (Body M)) (e : Entry) → Does (plant_of model t lines) c old e next
        → next.body.frame.lives.generation s ≤ old.body.frame.lives.generation s + (if is_turn e then 1 else 0)
    unfolding fetch turn post
    step old next (entry.Start who state notes) h = absurd h
    step old next (entry.Fetch stamp m) h =
        let same : old.body.frame.lives.generation s ≡ next.body.frame.lives.generation s = ap (λ (z : State (Body M) × Entry). z.0.body.frame.lives.generation s) h in omega (arith, same)
    step old next (entry.Post stamp m) h = go old.outbox h
      where
        go : (box : List Msg) → post_front c old box ≡ Some (next, entry.Post stamp m) → next.body.frame.lives.generation s ≤ old.body.frame.lives.generation s + 0
        go [] k = absurd cc
        go (x ∷ xs) k =
            let r : State (Body M) × Entry = (record old { clock = old.clock + 1; outbox = xs }, entry.Post (record { 0 = old.clock + 1 }) (stamped c (old.clock + 1) x)) in
            let q : State (Body M) × Entry = (next, entry.Post stamp m) in
            let e : r ≡ q = cc in
            let same : old.body.frame.lives.generation s ≡ next.body.frame.lives.generation s = ap (λ (z : State (Body M) × Entry). z.0.body.frame.lives.generation s) e in omega (arith, same)
    step old next (entry.Turn stamp from sent what notes) h = go old.outbox (next_of old.pending) h
      where
        go : (box : List Msg) (o : Option Taken) → turn_with (plant_of model t lines) c old box o ≡ Some (next, entry.Turn stamp from sent what notes)
            → next.body.frame.lives.generation s ≤ old.body.frame.lives.generation s + 1
        go [] None k = absurd cc
        go (x ∷ xs) o k = absurd cc
        go [] (Some taken) k =
            let r : State (Body M) × Entry = turned old taken (treat model t c old.body taken.message) in
            let q : State (Body M) × Entry = (next, entry.Turn stamp from sent what notes) in
            let e : r ≡ q = cc in
            subst (λ (z : State (Body M) × Entry). z.0.body.frame.lives.generation s ≤ old.body.frame.lives.generation s + 1) e (treat_low c s old.body taken.message)

    replay_low : (es : List Entry) (old end : State (Body M)) → Replays (plant_of model t lines) c old es end
        → end.body.frame.lives.generation s ≤ old.body.frame.lives.generation s + turns_in es
    replay_low [] old end r = let same : end.body.frame.lives.generation s ≡ old.body.frame.lives.generation s = ap (λ (z : State (Body M)). z.body.frame.lives.generation s) r in omega (arith, same)
    replay_low (e ∷ es) old end r = let a = step old r.0 e r.1 in let b = replay_low es r.0 end r.2 in omega (arith, a, b)

    first_low : (first_state model t c).body.frame.lives.generation s ≤ 1
    unfolding starting first_actors
    first_low =
        let begin : Starting M = record { doing = doing (first_body t c); entries = [] } in
        let k = (all_started_keeps model t lines c modest (first_actors t c) begin).0 in
        let same : (first_state model t c).body.frame.lives.generation s ≡ (first_lives t c).generation s = ap (λ (l : Lives). l.generation s) k in
        let low = one (is_own t c s && lives_from_start t s) in
        omega (arith, same, low)
      where
        one : (b : Bool) → (if b then 1 else 0) ≤ 1
        one true = omega arith
        one false = omega arith

  -- so the generation of what was created is at most one more than the turns
  pub created_low : (tell : ReplaysTellLives M) (lines : List Line) (c : ℕ) (x : Incarnation) (es : List Entry) (end : State (Body M)) → Replays (plant_of model t lines) c (first_state model t c) es end
      → 1 ≤ created x (start_entries model t c ++ es) → x.generation.0 ≤ 1 + turns_in es
  created_low tell lines c x es end r some =
      let told = (tell model t lines c modest es end r x).once_created in
      let a = replay_low lines c x.slot.0 es (first_state model t c) end r in
      let b = first_low lines c x.slot.0 in
      let g = born_below x.generation.0 (end.body.frame.lives.generation x.slot.0) (omega (arith, some, told)) in
      omega (arith, a, b, g)
