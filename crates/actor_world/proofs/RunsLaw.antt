-- Lives over every run of the world, and whom a message is dispatched to.
use Rattle.std.proofs.Common.{◌≡◌, ℕ, ◌<◌, ◌==◌, Bool, true, false, not, ◌&&◌, ◌||◌, if◌then◌else◌, List, [], ◌∷◌, ◌++◌, length, slice_get, Option, Some, None, refl, ap, ◌∙◌, subst, eqb-true, eq-eqb, inl, inr, ⊎_elim}
use Rattle.std.proofs.lemmas.Bool.{and_parts, and_from, or_cases}
use Rattle.room_kinds.specs.declared.message.Msg.{Msg}
use Rattle.room_kinds.specs.declared.note.Note.{Note}
use Rattle.room_kinds.specs.declared.numbers.Incarnation.{Incarnation}
use Rattle.room_kinds.specs.declared.numbers.Stamp.{Stamp}
use Rattle.room_kinds.specs.declared.numbers.ControllerId.{ControllerId}
use Rattle.journal.specs.declared.entry.Did.{Did}
use Rattle.journal.specs.declared.entry.Did.TheVariants as did
use Rattle.journal.specs.declared.entry.Entry.{Entry}
use Rattle.journal.specs.declared.entry.Entry.TheVariants as entry
use Rattle.room_wiring.specs.declared.tables.Tables.{Tables}
use Rattle.actor_merge.specs.Parties.{State, Line, Plant, Taken, Treated, next_of, turn, turn_with, turned, Does, Replays}
use Rattle.actor_merge.specs.World.{World, Placed, start, Runs}
use Rattle.actor_merge.specs.Merge.{entries_of}
use Rattle.actor_merge.proofs.Back.{run_projects}
use Rattle.actor_merge.proofs.Extend.{entries_append}
use Rattle.actor_merge.proofs.Law.{own_entries}
use Rattle.actor_duties.specs.Words.{whose, is_own}
use Rattle.actor_duties.specs.Lives.{last_of}
use Rattle.actor_duties.specs.State.{Lives}
use Rattle.actor_world.specs.Behaviour.{Behaviour, Handling, Handled, Deferred, Unhandled}
use Rattle.actor_world.specs.Body.{Body}
use Rattle.actor_world.specs.Turns.{all_kinds, doing, treated, system_done, handled_as, handled, nobody_there, dispatched, is_meant, dispatch, treat}
use Rattle.actor_world.specs.Start.{first_state, start_entries, plant_of}
use Rattle.actor_world.specs.Life.{IsModest, created, destroyed, actor_of, dispatched_to, LivesOnce, TellsLives, IsFor}
use Rattle.actor_world.proofs.LivesLaw.{once_each, tells_each}

-- the beginning of a run is a run
run_begins : {B : Type 0} (plant : Plant B) (w : World B) (a b : List Placed) (end : World B) → Runs plant w (a ++ b) end → (mid : World B) × Runs plant w a mid
run_begins plant w [] b end r = (w, refl)
run_begins plant w (x ∷ a) b end r = let q = run_begins plant r.0 a b end r.3 in (q.0, (r.0, r.1, r.2, q.1))

pub runs_once : {M : Type 0} (model : Behaviour M) (t : Tables) (lines : List Line) → IsModest model
    → (c : ℕ) → c < length t.controllers → (before : List Placed) (x : Incarnation)
    → ((end : World (Body M)) → Runs (plant_of model t lines) (start (plant_of model t lines)) before end
    → LivesOnce x (start_entries model t c ++ entries_of c before))
    × ((e : Entry) (after : List Placed) (end : World (Body M))
    → Runs (plant_of model t lines) (start (plant_of model t lines)) (before ++ record { party = c; entry = e } ∷ after) end
    → dispatched_to e ≡ Some x
    → (created x (start_entries model t c ++ entries_of c before) ≡ 1) × (destroyed x (start_entries model t c ++ entries_of c before) ≡ 0))
runs_once {M} model t lines modest c below before x = (
  (λ end r.
      let p = run_projects (plant_of model t lines) (start (plant_of model t lines)) before end r in
      (once_each model t lines c modest (entries_of c before) (end.controllers c) (p.controllers c below)).0 x),
  (λ e after end r d.
      let placed : Placed = record { party = c; entry = e } in
      let q = run_begins (plant_of model t lines) (start (plant_of model t lines)) before (placed ∷ after) end r in
      let p = run_projects (plant_of model t lines) (start (plant_of model t lines)) before q.0 q.1 in
      let all = run_projects (plant_of model t lines) (start (plant_of model t lines)) (before ++ placed ∷ after) end r in
      let path : entries_of c (before ++ placed ∷ after) ≡ entries_of c before ++ e ∷ entries_of c after =
      entries_append c before (placed ∷ after) ∙ ap (λ (z : List Entry). entries_of c before ++ z) (own_entries c placed after refl) in
      let whole : Replays (plant_of model t lines) c (first_state model t c) (entries_of c before ++ e ∷ entries_of c after) (end.controllers c) =
      subst (λ (z : List Entry). Replays (plant_of model t lines) c (first_state model t c) z (end.controllers c)) path (all.controllers c below) in
      (once_each model t lines c modest (entries_of c before) (q.0.controllers c) (p.controllers c below)).1 e (entries_of c after) (end.controllers c) x whole d),
)

pub runs_tell : {M : Type 0} (model : Behaviour M) (t : Tables) (lines : List Line) → IsModest model
    → (xs : List Placed) (end : World (Body M)) → Runs (plant_of model t lines) (start (plant_of model t lines)) xs end
    → (c : ℕ) → c < length t.controllers → (x : Incarnation)
    → TellsLives t c (end.controllers c).body.frame.lives x (start_entries model t c ++ entries_of c xs)
runs_tell {M} model t lines modest xs end r c below x =
    let p = run_projects (plant_of model t lines) (start (plant_of model t lines)) xs end r in
    tells_each model t lines c modest (entries_of c xs) (end.controllers c) (p.controllers c below) x

-- a turn dispatches its message to what the message is for
Meant : {M : Type 0} → Body M → Msg → Treated (Body M) → Type 0
Meant b m r = (x : Incarnation) → actor_of r.did ≡ Some x → IsFor m x b.frame.lives

is_for_last : (l : Lives) (m : Msg) → l.lives m.target.slot.0 ≡ true
    → ((m.target.generation.0 == 0) || (m.target.generation.0 == l.generation m.target.slot.0)) ≡ true → IsFor m (last_of l m.target.slot.0) l
is_for_last l m live h =
    record {
      slot = refl;
      meant = ⊎_elim (λ e. inl (eqb-true _ _ e)) (λ e. inr (eqb-true _ _ e))
          (or_cases (m.target.generation.0 == 0) (m.target.generation.0 == l.generation m.target.slot.0) h);
      lives = and_from (l.lives m.target.slot.0) (l.generation m.target.slot.0 == l.generation m.target.slot.0) live (eq-eqb _ _ refl);
    }

said_for : (r : Handling) (x y : Incarnation) (state : ℕ) → actor_of (handled_as r x state) ≡ Some y → x ≡ y
said_for Handled x y state h = cc
said_for Deferred x y state h = cc
said_for Unhandled x y state h = cc

module _ {M : Type 0} (model : Behaviour M) (t : Tables) (lines : List Line) (c : ℕ) where
  handled_meant : (b : Body M) (m : Msg) (x : Incarnation) (machine : M) → IsFor m x b.frame.lives → Meant b m (handled model t c b x m machine)
  unfolding handled Meant
  handled_meant b m x machine h y e =
      let r = model.handle x machine m in subst (λ z. IsFor m z b.frame.lives) (said_for r.result x y (model.state r.machine) e) h

  dispatched_meant : (b : Body M) (m : Msg) (o : Option M) → IsFor m (last_of b.frame.lives m.target.slot.0) b.frame.lives → Meant b m (dispatched model t c b m o)
  unfolding Meant
  dispatched_meant b m None h = λ x e. absurd cc
  dispatched_meant b m (Some machine) h = handled_meant b m (last_of b.frame.lives m.target.slot.0) machine h

  dispatch_meant : (b : Body M) (m : Msg) → Meant b m (dispatch model t c b m)
  unfolding dispatch Meant
  dispatch_meant b m = go (is_own t c m.target.slot.0 && b.frame.lives.lives m.target.slot.0) refl (is_meant b.frame m) refl
    where
      go : (a : Bool) → (is_own t c m.target.slot.0 && b.frame.lives.lives m.target.slot.0) ≡ a → (d : Bool) → is_meant b.frame m ≡ d
          → (x : Incarnation) → actor_of (
          if not a then nobody_there b m
          else if not d then treated (doing b) (did.Stale (whose m.target))
          else dispatched model t c b m (b.machines m.target.slot.0)).did ≡ Some x → IsFor m x b.frame.lives
      go false e d f x h = absurd cc
      go true e false f x h = absurd cc
      go true e true f x h =
          dispatched_meant b m (b.machines m.target.slot.0)
          (is_for_last b.frame.lives m (and_parts (is_own t c m.target.slot.0) (b.frame.lives.lives m.target.slot.0) e).1 f) x h

  treat_meant : (b : Body M) (m : Msg) → Meant b m (treat model t c b m)
  unfolding treat Meant
  treat_meant b m = go (m.prio.0 == 0)
    where
      go : (a : Bool) → (x : Incarnation) → actor_of (
          if a then treated (system_done model t c b m (slice_get all_kinds m.signal)) did.Duty
          else dispatch model t c b m).did ≡ Some x → IsFor m x b.frame.lives
      go true x h = absurd cc
      go false x h = dispatch_meant b m x h

  pub as_meant : (s next : State (Body M)) (stamp : Stamp) (from : ControllerId) (sent : Stamp) (what : Did) (ns : List Note) (x : Incarnation)
      → Does (plant_of model t lines) c s (entry.Turn stamp from sent what ns) next → actor_of what ≡ Some x
      → (k : Taken) × (next_of s.pending ≡ Some k) × (k.message.from ≡ from) × (k.message.stamp ≡ sent) × IsFor k.message x s.body.frame.lives
  unfolding turn Meant
  as_meant s next stamp from sent what ns x h d = go s.outbox (next_of s.pending) refl h
    where
      go : (box : List Msg) (o : Option Taken) → next_of s.pending ≡ o
          → turn_with (plant_of model t lines) c s box o ≡ Some (next, entry.Turn stamp from sent what ns)
          → (k : Taken) × (next_of s.pending ≡ Some k) × (k.message.from ≡ from) × (k.message.stamp ≡ sent) × IsFor k.message x s.body.frame.lives
      go [] None f k = absurd cc
      go (y ∷ ys) o f k = absurd cc
      go [] (Some taken) f k =
          let r : State (Body M) × Entry = turned s taken (treat model t c s.body taken.message) in
          let q : State (Body M) × Entry = (next, entry.Turn stamp from sent what ns) in
          let e : r ≡ q = cc in
          let same : r.1 ≡ entry.Turn stamp from sent what ns = ap (λ (z : State (Body M) × Entry). z.1) e in
          let a : taken.message.from ≡ from = cc in
          let b : taken.message.stamp ≡ sent = cc in
          let w : (treat model t c s.body taken.message).did ≡ what = cc in
          (taken, f, a, b, treat_meant s.body taken.message x (ap actor_of w ∙ d))
