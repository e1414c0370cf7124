-- Events of a controller, of both behaviours.
use Rattle.std.proofs.Common.{◌≡◌, ℕ, ◌+◌, false, List, [], ◌∷◌, ◌++◌, Option, Some, None, refl, sym, ap, ◌∙◌, subst}
use Rattle.room_kinds.specs.declared.message.Msg.{Msg}
use Rattle.room_kinds.specs.declared.note.Note.{Note}
use Rattle.room_kinds.specs.declared.numbers.Incarnation.{Incarnation}
use Rattle.journal.specs.declared.entry.Did.{Did}
use Rattle.journal.specs.declared.entry.Entry.{Entry}
use Rattle.journal.specs.declared.entry.Entry.TheVariants as entry
use Rattle.room_wiring.specs.declared.tables.Tables.{Tables}
use Rattle.actor_merge.specs.Parties.{State, Line, Taken, Treated, put, put_back, next_of, fetch, turn, turn_with, post, post_front}
use Rattle.actor_merge.specs.World.{fetch_front}
use Rattle.actor_duties.specs.Words.{updated}
use Rattle.actor_world.specs.Behaviour.{Behaviour}
use Rattle.actor_world.specs.Body.{Body, Doing, apply_all}
use Rattle.actor_world.specs.Turns.{doing, treat}
use Rattle.actor_world.specs.Start.{first_body, first_actors, Starting, started, all_started, starting, first_state, start_entries, plant_of}
use Rattle.law_charts.specs.Alike.{DoAlike}
use Rattle.law_charts.proofs.Doings.{neither, both, Core, Work, core_of, body_of, work_of, Like, Alike, updated_like, apply_all_alike}
use Rattle.law_charts.proofs.Treating.{treat_alike}

-- a state but for machines
pub record Rest : Type 0 where
  pub clock : ℕ
  pub turns : ℕ
  pub pending : ℕ → List Msg
  pub outbox : List Msg
  pub core : Core

abbrev pub rest_of : {M : Type 0} → State (Body M) → Rest
rest_of s = record { clock = s.clock; turns = s.turns; pending = s.pending; outbox = s.outbox; core = core_of s.body }

abbrev pub state_of : {M : Type 0} → Rest → (ℕ → Option M) → State (Body M)
state_of r f = record { clock = r.clock; turns = r.turns; pending = r.pending; outbox = r.outbox; body = body_of r.core f }

module _ {M N : Type 0} (R : ℕ → M → N → Type 0) where
  -- two states are one but for machines, which are related
  pub record StateAlike (s : State (Body M)) (u : State (Body N)) : Type 0 where
    pub rest : rest_of s ≡ rest_of u
    pub machines : Like R s.body.machines u.body.machines

  -- two outcomes of an event: the same entry, and states that are alike; or none
  pub data OutcomeAlike : Option (State (Body M) × Entry) → Option (State (Body N) × Entry) → Type 0 where
    no_event : OutcomeAlike None None
    an_event : {s : State (Body M)} {u : State (Body N)} {a b : Entry} → StateAlike s u → a ≡ b → OutcomeAlike (Some (s, a)) (Some (u, b))

  pub record Follows (s : State (Body M)) (e : Entry) (o : Option (State (Body N) × Entry)) : Type 0 where
    pub next : State (Body N)
    pub is : o ≡ Some (next, e)
    pub alike : StateAlike s next

  pub follows : (o : Option (State (Body M) × Entry)) (p : Option (State (Body N) × Entry)) (s : State (Body M)) (e : Entry) → OutcomeAlike o p → o ≡ Some (s, e) → Follows s e p
  follows o p s e no_event h = absurd cc
  follows o p s e (an_event {s = s'} {u} {a} {b} alike same) h =
      let x : State (Body M) × Entry = (s', a) in
      let y : State (Body M) × Entry = (s, e) in
      let z : x ≡ y = cc in
      let entries : b ≡ e = sym same ∙ ap (λ (k : State (Body M) × Entry). k.1) z in
      record {
        next = u;
        is = ap (λ (k : Entry). Some (u, k)) entries;
        alike = subst (λ (k : State (Body M)). StateAlike k u) (ap (λ (k : State (Body M) × Entry). k.0) z) alike;
      }

  pub fetch_alike : (r : Rest) (f : ℕ → Option M) (g : ℕ → Option N) → Like R f g → (ms : List Msg) → OutcomeAlike (fetch_front (state_of r f) ms) (fetch_front (state_of r g) ms)
  unfolding fetch
  fetch_alike r f g like [] = no_event
  fetch_alike r f g like (m ∷ ms) = an_event (record { rest = refl; machines = like }) refl

  pub post_alike : (c : ℕ) (r : Rest) (f : ℕ → Option M) (g : ℕ → Option N) → Like R f g → OutcomeAlike (post c (state_of r f)) (post c (state_of r g))
  unfolding post
  post_alike c r f g like = go r.outbox
    where
      go : (box : List Msg) → OutcomeAlike (post_front c (state_of r f) box) (post_front c (state_of r g) box)
      go [] = no_event
      go (m ∷ rest) = an_event (record { rest = refl; machines = like }) refl

  module _ (one : Behaviour M) (other : Behaviour N) (alike : DoAlike R one other) (t : Tables) (lines : List Line) where
    pub turn_alike : (c : ℕ) (r : Rest) (f : ℕ → Option M) (g : ℕ → Option N) → Like R f g
        → OutcomeAlike (turn (plant_of one t lines) c (state_of r f)) (turn (plant_of other t lines) c (state_of r g))
    unfolding turn
    turn_alike c r f g like = go r.outbox (next_of r.pending)
      where
        go : (box : List Msg) (o : Option Taken)
            → OutcomeAlike (turn_with (plant_of one t lines) c (state_of r f) box o) (turn_with (plant_of other t lines) c (state_of r g) box o)
        go [] None = no_event
        go (m ∷ ms) o = no_event
        go [] (Some k) =
            let a : Treated (Body M) = treat one t c (body_of r.core f) k.message in
            let b : Treated (Body N) = treat other t c (body_of r.core g) k.message in
            let h = treat_alike R one other alike t c r.core f g like k.message in
            an_event
            (record {
              rest =
                  ap (λ (z : List Msg). record { clock = r.clock + 1; turns = r.turns + 1; pending = put_back z (put r.pending k.priority k.rest); outbox = (treat one t c (body_of r.core f) k.message).sent; core = core_of (treat one t c (body_of r.core f) k.message).body }) h.back
                  ∙ ap (λ (z : List Msg). record { clock = r.clock + 1; turns = r.turns + 1; pending = put_back (treat other t c (body_of r.core g) k.message).back (put r.pending k.priority k.rest); outbox = z; core = core_of (treat one t c (body_of r.core f) k.message).body }) h.sent
                  ∙ ap (λ (z : Core). record { clock = r.clock + 1; turns = r.turns + 1; pending = put_back (treat other t c (body_of r.core g) k.message).back (put r.pending k.priority k.rest); outbox = (treat other t c (body_of r.core g) k.message).sent; core = z }) h.core;
              machines = h.machines;
            })
            (ap (λ (z : Did). entry.Turn (record { 0 = r.clock + 1 }) k.message.from k.message.stamp z (treat one t c (body_of r.core f) k.message).notes) h.did
            ∙ ap (λ (z : List Note). entry.Turn (record { 0 = r.clock + 1 }) k.message.from k.message.stamp (treat other t c (body_of r.core g) k.message).did z) h.notes)

    -- how controllers start
    record StartAlike (a : Starting M) (b : Starting N) : Type 0 where
      doings : Alike R a.doing b.doing
      entries : a.entries ≡ b.entries

    started_alike : (c : ℕ) (x : Incarnation) (a : Starting M) (b : Starting N) → StartAlike a b → StartAlike (started one t c a x) (started other t c b x)
    started_alike c x a b h =
        let same = alike.begin x in
        let state : one.state (one.begin x).machine ≡ other.state (other.begin x).machine = alike.state x.slot.0 (one.begin x).machine (other.begin x).machine same.machine in
        let d : Doing M = record a.doing {
          body = record a.doing.body { machines = updated a.doing.body.machines x.slot.0 (Some (one.begin x).machine) };
          notes = (one.begin x).notes;
          kept = false;
        } in
        let e : Doing N = record b.doing {
          body = record b.doing.body { machines = updated b.doing.body.machines x.slot.0 (Some (other.begin x).machine) };
          notes = (other.begin x).notes;
          kept = false;
        } in
        let after : Alike R (apply_all t c x None (one.begin x).commands d) (apply_all t c x None (other.begin x).commands e) =
        apply_all_alike R t c x None (one.begin x).commands (other.begin x).commands d e same.commands (record {
          work =
              ap (λ (w : Work). record w { notes = (one.begin x).notes; kept = false }) h.doings.work
              ∙ ap (λ (ns : List Note). record (work_of b.doing) { notes = ns; kept = false }) same.notes;
          machines = updated_like R a.doing.body.machines b.doing.body.machines x.slot.0 (Some (one.begin x).machine) (Some (other.begin x).machine) h.doings.machines (both same.machine);
        }) in
        let noted : (started one t c a x).doing.notes ≡ (started other t c b x).doing.notes = ap (λ (w : Work). w.notes) after.work in
        record {
          doings = after;
          entries =
              ap (λ (z : List Entry). z ++ entry.Start x (one.state (one.begin x).machine) (started one t c a x).doing.notes ∷ []) h.entries
              ∙ ap (λ (z : ℕ). b.entries ++ entry.Start x z (started one t c a x).doing.notes ∷ []) state
              ∙ ap (λ (z : List Note). b.entries ++ entry.Start x (other.state (other.begin x).machine) z ∷ []) noted;
        }

    all_started_alike : (c : ℕ) (xs : List Incarnation) (a : Starting M) (b : Starting N) → StartAlike a b → StartAlike (all_started one t c xs a) (all_started other t c xs b)
    all_started_alike c [] a b h = h
    all_started_alike c (x ∷ xs) a b h = all_started_alike c xs (started one t c a x) (started other t c b x) (started_alike c x a b h)

    starting_alike : (c : ℕ) → StartAlike (starting one t c) (starting other t c)
    unfolding starting
    starting_alike c =
        all_started_alike c (first_actors t c) (record { doing = doing (first_body t c); entries = [] }) (record { doing = doing (first_body t c); entries = [] })
        (record { doings = record { work = refl; machines = λ s. neither }; entries = refl })

    pub first_alike : (c : ℕ) → StateAlike (first_state one t c) (first_state other t c)
    first_alike c =
        let h = (starting_alike c).doings in
        record {
          rest = ap (λ (w : Work). record { clock = 0; turns = 0; pending = λ p. []; outbox = w.sent; core = w.core }) h.work;
          machines = h.machines;
        }

    pub entries_alike : (c : ℕ) → start_entries one t c ≡ start_entries other t c
    entries_alike c = (starting_alike c).entries
