-- A fetched message that had no turn waits in the pending list of its priority, and nowhere else.
use Rattle.std.proofs.Common.{◌≡◌, ℕ, ◌+◌, ◌≤◌, ◌==◌, ◌&&◌, ◌||◌, Bool, true, false, not, if◌then◌else◌, List, [], ◌∷◌, ◌++◌, Option, Some, refl, ap, ◌∙◌, subst, eq-eqb, arith}
use Rattle.std.proofs.lemmas.Bool.{and_parts, and_from, or_parts, or_from}
use Rattle.std.proofs.lemmas.List.Folds.{list_any-append}
use Rattle.room_kinds.specs.declared.message.Msg.{Msg}
use Rattle.room_kinds.specs.declared.numbers.ControllerId.{ControllerId}
use Rattle.room_kinds.specs.declared.numbers.Incarnation.{Incarnation}
use Rattle.room_kinds.specs.declared.numbers.Stamp.{Stamp}
use Rattle.journal.specs.declared.entry.Did.{Did}
use Rattle.journal.specs.declared.entry.Entry.{Entry}
use Rattle.journal.specs.declared.entry.Entry.TheVariants as entry
use Rattle.room_wiring.specs.declared.tables.Tables.{Tables}
use Rattle.actor_merge.specs.Parties.{State, Line, Plant, Taken, next_of, Does, Replays}
use Rattle.actor_duties.specs.Words.{slots_of}
use Rattle.actor_duties.specs.Lives.{is_live, last_of}
use Rattle.actor_world.specs.Behaviour.{Behaviour}
use Rattle.actor_world.specs.Body.{Body}
use Rattle.actor_world.specs.Life.{IsModest}
use Rattle.actor_world.specs.Start.{plant_of, first_state}
use Rattle.actor_world.specs.world_laws.Counting.{count, of_priority, same_name, times}
use Rattle.actor_world.specs.world_laws.Deferrals.{deferred_by, defers, deferrals, KeptByDeferrer}
use Rattle.actor_world.specs.world_laws.Whereabouts.{fetched, kept, is_deferred, finished, ends, lost, done_by, state_or, state_after, done_with, TellsDefers, FetchedAddsUp}
use Rattle.actor_world.proofs.world_laws.Sums.{count-append}
use Rattle.law_runs.specs.Turns.{is_turn_of, had_turn, is_deferral, treatments}
use Rattle.law_runs.proofs.Named.{none_together}
use Rattle.law_runs.proofs.TurnSteps.{TurnDone, turn_done}

-- who deferred a message took it
deferred_had : (x : Incarnation) (m : Msg) (es : List Entry) → had_turn m es ≡ false → deferrals x m es ≡ 0
deferred_had x m [] h = refl
deferred_had x m (e ∷ es) h =
    let p = or_parts (is_turn_of m e) (had_turn m es) h in
    let rest = deferred_had x m es p.1 in
    let here = one e p.0 in omega (arith, here, rest)
  where
    one : (e : Entry) → is_turn_of m e ≡ false → defers x m e ≡ 0
    one (entry.Start who state notes) k = refl
    one (entry.Fetch stamp y) k = refl
    one (entry.Post stamp y) k = refl
    one (entry.Turn stamp from sent what notes) k = rw k (go (deferred_by x what))
      where
        go : (b : Bool) → ◌≡◌ {A = ℕ} (if b && false then 1 else 0) 0
        go true = refl
        go false = refl

-- the state after an entry is the one that it leads to
after_is : {B : Type 0} (plant : Plant B) (c : ℕ) (s next : State B) (e : Entry) → Does plant c s e next → state_after plant c s e ≡ next
after_is plant c s next (entry.Start who state notes) h = absurd h
after_is {B} plant c s next (entry.Fetch stamp m) h = ap (λ (z : State B × Entry). z.0) h
after_is {B} plant c s next (entry.Post stamp m) h = ap (state_or s) h
after_is {B} plant c s next (entry.Turn stamp from sent what notes) h = ap (state_or s) h

finished_other : (m : Msg) (what : Did) (k : Taken) → same_name m k.message ≡ false → times m (finished what (Some k)) ≡ 0
finished_other m what k other = go (is_deferred what)
  where
    go : (b : Bool) → times m (if b then [] else k.message ∷ []) ≡ 0
    go true = refl
    go false = rw other refl

module _ {M : Type 0} (model : Behaviour M) (t : Tables) (lines : List Line) (c : ℕ) (modest : IsModest model) (tells : TellsDefers model)
    (keepers : KeptByDeferrer M) (adds : FetchedAddsUp M) where
  abbrev pub plan : Plant (Body M)
  plan = plant_of model t lines

  abbrev pub first : State (Body M)
  first = first_state model t c

  -- a live slot keeps no message that had no turn
  none_kept : (m : Msg) (es : List Entry) (s : State (Body M)) → Replays plan c first es s → had_turn m es ≡ false
      → (slot : ℕ) → s.body.frame.lives.lives slot ≡ true → times m (s.body.deferred slot) ≡ 0
  none_kept m es s r had slot live =
      let x = last_of s.body.frame.lives slot in
      let l : is_live s.body.frame.lives x ≡ true =
      and_from (s.body.frame.lives.lives slot) (s.body.frame.lives.generation slot == s.body.frame.lives.generation slot) live (eq-eqb _ _ refl) in
      let k = keepers model t lines c modest tells es s r x l m in
      let z = deferred_had x m es had in omega (arith, k, z)

  -- nor is a turn of another message done with it
  none_done : (m : Msg) (es : List Entry) (s next : State (Body M)) (e : Entry) → Replays plan c first es s → Does plan c s e next
      → had_turn m es ≡ false → is_turn_of m e ≡ false → times m (done_by t s e) ≡ 0
  none_done m es s next (entry.Start who state notes) r d had other = refl
  none_done m es s next (entry.Fetch stamp y) r d had other = refl
  none_done m es s next (entry.Post stamp y) r d had other = refl
  none_done m es s next (entry.Turn stamp from sent what notes) r d had other =
      let e = entry.Turn stamp from sent what notes in
      let done : TurnDone s next from sent = turn_done plan c s next stamp from sent what notes d in
      let name : same_name m done.taken.message ≡ false =
      ap (λ (z : ControllerId). (z.0 == m.from.0) && (done.taken.message.stamp.0 == m.stamp.0)) done.from_is
      ∙ ap (λ (z : Stamp). (from.0 == m.from.0) && (z.0 == m.stamp.0)) done.sent_is ∙ other in
      let own : times m (finished what (next_of s.pending)) ≡ 0 =
      ap (λ (z : Option Taken). times m (finished what z)) done.next_is ∙ finished_other m what done.taken name in
      let others : times m (lost t s.body (entry.Turn stamp from sent what notes)) ≡ 0 =
      none_together (same_name m) s.body.deferred (ends s.body (entry.Turn stamp from sent what notes)) (slots_of t)
      (λ slot ended. none_kept m es s r had slot (and_parts (s.body.frame.lives.lives slot) _ ended).0) in
      let both = count-append (same_name m) (finished what (next_of s.pending)) (lost t s.body (entry.Turn stamp from sent what notes)) in
      omega (arith, own, others, both)

  pub replays_more : (es : List Entry) (e : Entry) (more : List Entry) (s end : State (Body M)) → Replays plan c s es end → (next : State (Body M)) → Does plan c end e next
      → Replays plan c s (es ++ e ∷ []) next
  replays_more [] e more s end r next d = (next, subst (λ (z : State (Body M)). Does plan c z e next) r d, refl)
  replays_more (x ∷ es) e more s end r next d = (r.0, r.1, replays_more es e more r.0 end r.2 next d)

  none_done_with : (m : Msg) (more es : List Entry) (s end : State (Body M)) → Replays plan c first es s → Replays plan c s more end
      → had_turn m es ≡ false → had_turn m more ≡ false → times m (done_with plan t c s more) ≡ 0
  none_done_with m [] es s end r q had none = refl
  none_done_with m (e ∷ more) es s end r q had none =
      let p = or_parts (is_turn_of m e) (had_turn m more) none in
      let here = none_done m es s q.0 e r q.1 had p.0 in
      let so_far : had_turn m (es ++ e ∷ []) ≡ false =
      list_any-append (is_turn_of m) es (e ∷ []) ∙ or_from (had_turn m es) (is_turn_of m e || false) had (or_from (is_turn_of m e) false p.0 refl) in
      let rest : times m (done_with plan t c (state_after plan c s e) more) ≡ 0 =
      ap (λ (z : State (Body M)). times m (done_with plan t c z more)) (after_is plan c s q.0 e q.1)
      ∙ none_done_with m more (es ++ e ∷ []) q.0 end (replays_more es e [] first s r q.0 q.1) q.2 so_far p.1 in
      let both = count-append (same_name m) (done_by t s e) (done_with plan t c (state_after plan c s e) more) in
      omega (arith, here, rest, both)

  some_of : (p : ℕ) (w : Msg → Bool) (ms : List Msg) → count w ms ≡ 0 → count (of_priority p w) ms ≡ 0
  some_of p w [] h = refl
  some_of p w (m ∷ ms) h = step (w m) refl (some_of p w ms)
    where
      step : (b : Bool) → w m ≡ b → (count w ms ≡ 0 → count (of_priority p w) ms ≡ 0) → count (of_priority p w) (m ∷ ms) ≡ 0
      step true e ih = let k : (if true then 1 else 0) + count w ms ≡ 0 = rw e at h in absurd (omega (arith, k))
      step false e ih =
          let k : (if false then 1 else 0) + count w ms ≡ 0 = rw e at h in
          let z = ih (omega (arith, k)) in rw e (both (m.prio.0 == p) z)
        where
          both : (a : Bool) → count (of_priority p w) ms ≡ 0 → (if a && false then 1 else 0) + count (of_priority p w) ms ≡ 0
          both true z = omega (arith, z)
          both false z = omega (arith, z)

  -- so it waits: of its name and a priority as many wait as were fetched
  pub waits : (m : Msg) (p : ℕ) (es : List Entry) (s : State (Body M)) → Replays plan c first es s → had_turn m es ≡ false
      → count (of_priority p (same_name m)) (fetched es) ≡ count (of_priority p (same_name m)) (s.pending p)
  waits m p es s r had =
      let a = (adds model t lines c modest tells es s r).counts (same_name m) p in
      let k = none_together (same_name m) s.body.deferred s.body.frame.lives.lives (slots_of t) (λ slot live. none_kept m es s r had slot live) in
      let d = none_done_with m es [] first s refl r refl had in
      let kp = some_of p (same_name m) (kept t s.body) k in
      let dp = some_of p (same_name m) (done_with plan t c first es) d in
      omega (arith, a, kp, dp)

  -- a controller is done with a message as often as it treats it, at least
  pub treated_done : (m : Msg) (es : List Entry) (s end : State (Body M)) → Replays plan c s es end → treatments m es ≤ times m (done_with plan t c s es)
  treated_done m [] s end r = omega arith
  treated_done m (e ∷ es) s end r =
      let here = one e r.1 in
      let ih = treated_done m es r.0 end r.2 in
      let rest : times m (done_with plan t c (state_after plan c s e) es) ≡ times m (done_with plan t c r.0 es) =
      ap (λ (z : State (Body M)). times m (done_with plan t c z es)) (after_is plan c s r.0 e r.1) in
      let both = count-append (same_name m) (done_by t s e) (done_with plan t c (state_after plan c s e) es) in
      omega (arith, here, ih, rest, both)
    where
      one : (e : Entry) → Does plan c s e r.0 → (if is_turn_of m e && not (is_deferral e) then 1 else 0) ≤ times m (done_by t s e)
      one (entry.Start who state notes) d = omega arith
      one (entry.Fetch stamp y) d = omega arith
      one (entry.Post stamp y) d = omega arith
      one (entry.Turn stamp from sent what notes) d =
          let done : TurnDone s r.0 from sent = turn_done plan c s r.0 stamp from sent what notes d in
          let name : same_name m done.taken.message ≡ is_turn_of m (entry.Turn stamp from sent what notes) =
          ap (λ (z : ControllerId). (z.0 == m.from.0) && (done.taken.message.stamp.0 == m.stamp.0)) done.from_is
          ∙ ap (λ (z : Stamp). (from.0 == m.from.0) && (z.0 == m.stamp.0)) done.sent_is in
          let own : times m (finished what (next_of s.pending)) ≡ times m (finished what (Some done.taken)) =
          ap (λ (z : Option Taken). times m (finished what z)) done.next_is in
          let both = count-append (same_name m) (finished what (next_of s.pending)) (lost t s.body (entry.Turn stamp from sent what notes)) in
          let z = step done.taken (is_deferred what) (is_turn_of m (entry.Turn stamp from sent what notes)) name in
          omega (arith, own, both, z)
        where
          step : (k : Taken) (d b : Bool) → same_name m k.message ≡ b → (if b && not d then 1 else 0) ≤ times m (if d then [] else k.message ∷ [])
          step k true true e = omega arith
          step k true false e = omega arith
          step k false true e = rw e (omega arith)
          step k false false e = omega arith
