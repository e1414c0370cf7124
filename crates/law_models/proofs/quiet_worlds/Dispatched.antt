-- To whom the turns of a run dispatched their messages.
use Rattle.std.proofs.Common.{◌≡◌, ℕ, ◌<◌, List, [], ◌∷◌, ◌++◌, length, Some, refl, subst}
use Rattle.room_kinds.specs.declared.note.Note.{Note}
use Rattle.room_kinds.specs.declared.numbers.ControllerId.{ControllerId}
use Rattle.room_kinds.specs.declared.numbers.Incarnation.{Incarnation}
use Rattle.room_kinds.specs.declared.numbers.Stamp.{Stamp}
use Rattle.journal.specs.declared.entry.Did.{Did}
use Rattle.journal.specs.declared.entry.Entry.TheVariants as entry
use Rattle.room_wiring.specs.declared.tables.Tables.{Tables}
use Rattle.actor_merge.specs.Merge.{entries_of}
use Rattle.actor_merge.specs.Parties.{Line, Plant, Replays}
use Rattle.actor_merge.specs.World.{World, Placed, Runs, start}
use Rattle.actor_merge.proofs.Back.{run_projects}
use Rattle.actor_merge.proofs.Law.{own_entries}
use Rattle.actor_world.specs.Behaviour.{Behaviour}
use Rattle.actor_world.specs.Body.{Body}
use Rattle.actor_world.specs.Life.{IsModest, actor_of}
use Rattle.actor_world.specs.Start.{plant_of}
use Rattle.actor_world.proofs.RunsLaw.{runs_once, as_meant}
use Rattle.law_agreement.specs.Trails.{RunsTo}
use Rattle.law_models.specs.quiet_worlds.Worlds.{WasFor}

-- a run is one run and then another
run_divides : {B : Type 0} (plant : Plant B) (w : World B) (a b : List Placed) (end : World B) → Runs plant w (a ++ b) end → (mid : World B) × Runs plant w a mid × Runs plant mid b end
run_divides plant w [] b end r = (w, refl, r)
run_divides plant w (x ∷ a) b end r = let q = run_divides plant r.0 a b end r.3 in (q.0, (r.0, r.1, r.2, q.1), q.2)

module _ {M : Type 0} (model : Behaviour M) (t : Tables) (lines : List Line) (modest : IsModest model) where
  pub was_for : (before after : List Placed) (end : World (Body M)) (c : ℕ) (stamp : Stamp) (from : ControllerId) (sent : Stamp) (what : Did) (ns : List Note) (x : Incarnation)
      → c < length t.controllers → RunsTo model t lines (before ++ record { party = c; entry = entry.Turn stamp from sent what ns } ∷ after) end
      → actor_of what ≡ Some x → WasFor model t lines before c from sent x
  was_for before after end c stamp from sent what ns x below run to =
      let placed : Placed = record { party = c; entry = entry.Turn stamp from sent what ns } in
      let divided = run_divides (plant_of model t lines) (start (plant_of model t lines)) before (placed ∷ after) end run in
      let mid : World (Body M) = divided.0 in
      let replay : Replays (plant_of model t lines) c (mid.controllers c) (entry.Turn stamp from sent what ns ∷ entries_of c after) (end.controllers c) =
      subst (λ es. Replays (plant_of model t lines) c (mid.controllers c) es (end.controllers c)) (own_entries c placed after refl)
      ((run_projects (plant_of model t lines) mid (placed ∷ after) end divided.2).controllers c below) in
      let found = as_meant model t lines c (mid.controllers c) replay.0 stamp from sent what ns x replay.1 to in
      let once = (runs_once model t lines modest c below before x).1 (entry.Turn stamp from sent what ns) after end run to in
      record {
        world = mid;
        reached = divided.1;
        taken = found.0;
        next = found.1;
        sender = found.2;
        stamp = found.3;
        meant = found.4;
        once_created = once.0;
        not_destroyed = once.1;
      }
