-- A journal is its controller's start, and then what happened.
use Rattle.std.proofs.Common.{◌≡◌, ℕ, List, [], ◌∷◌, ◌++◌, refl}
use Rattle.room_kinds.specs.declared.numbers.Incarnation.{Incarnation}
use Rattle.journal.specs.declared.entry.Entry.{Entry}
use Rattle.journal.specs.declared.entry.Entry.TheVariants as entry
use Rattle.room_wiring.specs.declared.tables.Tables.{Tables}
use Rattle.actor_world.specs.Behaviour.{Behaviour}
use Rattle.actor_world.specs.Turns.{doing}
use Rattle.actor_world.specs.Start.{first_body, first_actors, Starting, started, all_started, starting, start_entries}
use Rattle.actor_world.specs.world_laws.Whereabouts.{fetched}
use Rattle.law_runs.specs.Mail.{posted}

-- an entry is a start
abbrev pub IsStart : Entry → Type 0
IsStart (entry.Start who state notes) = Unit {0}
IsStart (entry.Fetch stamp m) = ⊥
IsStart (entry.Turn stamp from sent did notes) = ⊥
IsStart (entry.Post stamp m) = ⊥

-- all of these are
abbrev pub AllStarts : List Entry → Type 0
AllStarts [] = Unit {0}
AllStarts (e ∷ es) = IsStart e × AllStarts es

starts_push : (es : List Entry) (e : Entry) → AllStarts es → IsStart e → AllStarts (es ++ e ∷ [])
starts_push [] e h k = (k, tt)
starts_push (x ∷ es) e h k = (h.0, starts_push es e h.1 k)

module _ {M : Type 0} (model : Behaviour M) (t : Tables) (c : ℕ) where
  all_started_starts : (xs : List Incarnation) (s : Starting M) → AllStarts s.entries → AllStarts (all_started model t c xs s).entries
  all_started_starts [] s h = h
  all_started_starts (x ∷ xs) s h =
      all_started_starts xs (started model t c s x)
      (starts_push s.entries (entry.Start x (model.state (model.begin x).machine) (started model t c s x).doing.notes) h tt)

  -- a controller's journal begins with starts alone
  pub start_entries_start : AllStarts (start_entries model t c)
  unfolding starting
  start_entries_start = all_started_starts (first_actors t c) (record { doing = doing (first_body t c); entries = [] }) tt

-- a start neither fetches nor posts
pub fetched_after : (es more : List Entry) → AllStarts es → fetched (es ++ more) ≡ fetched more
fetched_after [] more h = refl
fetched_after (entry.Start who state notes ∷ es) more h = fetched_after es more h.1
fetched_after (entry.Fetch stamp m ∷ es) more h = absurd h.0
fetched_after (entry.Turn stamp from sent did notes ∷ es) more h = absurd h.0
fetched_after (entry.Post stamp m ∷ es) more h = absurd h.0

pub posted_after : (es more : List Entry) → AllStarts es → posted (es ++ more) ≡ posted more
posted_after [] more h = refl
posted_after (entry.Start who state notes ∷ es) more h = posted_after es more h.1
posted_after (entry.Fetch stamp m ∷ es) more h = absurd h.0
posted_after (entry.Turn stamp from sent did notes ∷ es) more h = absurd h.0
posted_after (entry.Post stamp m ∷ es) more h = absurd h.0
