-- Runs of plants that fit.
use Rattle.std.proofs.Common.{◌≡◌, ◌≢◌, ◌∙◌, ℕ, ◌≤◌, ◌<◌, List, [], ◌∷◌, ◌++◌, length, Contains, refl, sym, ap, subst, arith}
use Rattle.room_kinds.specs.declared.message.Msg.{Msg}
use Rattle.room_kinds.specs.declared.note.Note.{Note}
use Rattle.room_kinds.specs.declared.note.Note.TheVariants as notes
use Rattle.room_kinds.specs.declared.numbers.ControllerId.{ControllerId}
use Rattle.room_kinds.specs.declared.numbers.Incarnation.{Incarnation}
use Rattle.room_kinds.specs.declared.numbers.Stamp.{Stamp}
use Rattle.journal.specs.declared.entry.Did.{Did}
use Rattle.journal.specs.declared.entry.Entry.{Entry}
use Rattle.journal.specs.declared.entry.Entry.TheVariants as entry
use Rattle.journal.specs.declared.entry.Journals.{Journals}
use Rattle.inject_reader.specs.declared.inject_lines.accepted.Line.{Line}
use Rattle.actor_merge.specs.Parties.{Line as Posted, State, Replays}
use Rattle.actor_merge.specs.Merge.{entries_of}
use Rattle.actor_merge.specs.World.{start}
use Rattle.actor_merge.proofs.Back.{run_projects}
use Rattle.actor_duties.specs.Words.{incarnation, owner_of}
use Rattle.actor_world.specs.Behaviour.{Behaviour}
use Rattle.actor_world.specs.Body.{Body}
use Rattle.actor_world.specs.Journals.{lines_of}
use Rattle.actor_world.specs.Life.{TellsLives, created}
use Rattle.actor_world.specs.Start.{start_entries}
use Rattle.actor_world.specs.world_laws.OnePlace.{InOnePlace, InNoPlace, StandsOnce}
use Rattle.actor_world.specs.world_laws.Whereabouts.{fetched}
use Rattle.actor_world.proofs.DirectoriesLaw.{tell_created}
use Rattle.actor_world.proofs.RunsLaw.{runs_tell}
use Rattle.actor_world.proofs.world_laws.Losing.{downs_tell}
use Rattle.actor_world.proofs.world_laws.Standing.{run_stands}
use Rattle.chart_behaviour.specs.ModelCharts.{Actor}
use Rattle.controller_actors.specs.Plants.{model_of}
use Rattle.controller_actors.specs.declared.plant.Plant.{Plant}
use Rattle.model_run.specs.part_posts.Items.{items_of}
use Rattle.model_run.specs.run_ends.Runs.{journal_of, IsRun}
use Rattle.inject_reader.specs.Fitting.{LinesFit}
use Rattle.room_run.specs.fitting_plants.Plants.{IsFitting}
use Rattle.room_run.specs.fitting_plants.Runs.{running, begins_at, over_with, WasLost, Settles, FittingRunsSettle}
use Rattle.room_run.proofs.fitting_plants.Lines.{lines_open}
use Rattle.room_run.proofs.fitting_plants.Plants.{plants_fit}

module _ (plant : Plant) (lines : List Line) (fuel : ℕ) (j : Journals) (fitting : IsFitting plant) (fit : LinesFit plant.wiring lines) (run : IsRun plant lines fuel j) where
  abbrev model : Behaviour Actor
  model = model_of plant

  abbrev posted : List Posted
  posted = lines_of (items_of plant.wiring lines)

  below_n : (c : ℕ) → c < length j.controllers → c < length plant.wiring.controllers
  below_n c below = let count = run.count in omega (arith, count, below)

  -- what happened to a controller
  happened : (c : ℕ) → entries_of c run.lawful.run.merge ≡ run.lawful.events c
  happened c = run.lawful.run.is.whole c

  journal_is : (c : ℕ) → c < length j.controllers → start_entries model plant.wiring c ++ entries_of c run.lawful.run.merge ≡ journal_of j c
  journal_is c below = ap (λ es. start_entries model plant.wiring c ++ es) (happened c) ∙ sym (run.lawful.begins c (below_n c below))

  -- where it stands in the end
  ends : (c : ℕ) → c < length j.controllers → run.lawful.run.end.controllers c ≡ run.world.controllers c
  ends c below = run.lawful.run.same.controllers c (below_n c below)

  lives : (c : ℕ) → c < length j.controllers → (x : Incarnation) → TellsLives plant.wiring c (run.world.controllers c).body.frame.lives x (journal_of j c)
  lives c below x =
      subst (λ (s : State (Body Actor)). TellsLives plant.wiring c s.body.frame.lives x (journal_of j c)) (ends c below)
      (subst (TellsLives plant.wiring c (run.lawful.run.end.controllers c).body.frame.lives x) (journal_is c below)
      (runs_tell model plant.wiring posted fitting.modest run.lawful.run.merge run.lawful.run.end run.lawful.run.run c (below_n c below) x))

  directories : (d s g : ℕ) → d < length j.controllers → owner_of plant.wiring s < length j.controllers
      → (run.world.controllers d).body.frame.told s ≡ g → 1 ≤ g → created (incarnation s g) (journal_of j (owner_of plant.wiring s)) ≡ 1
  directories d s g below owned told some =
      let told_there : (run.lawful.run.end.controllers d).body.frame.told s ≡ g = ap (λ (q : State (Body Actor)). q.body.frame.told s) (ends d below) ∙ told in
      subst (λ es. created (incarnation s g) es ≡ 1) (journal_is (owner_of plant.wiring s) owned)
      (tell_created model fitting.modest fitting.sends_openly plant.wiring posted (lines_open plant.wiring lines fit) run.lawful.run.merge run.lawful.run.end run.lawful.run.run
      d s g (below_n (owner_of plant.wiring s) owned) told_there some)

  stands : StandsOnce model plant.wiring posted run.lawful.run.merge run.lawful.run.end
  stands = run_stands model plant.wiring posted fitting.modest fitting.tells_defers run.lawful.run.merge run.lawful.run.end run.lawful.run.run

  came : (c : ℕ) (m : Msg) → Contains (fetched (run.lawful.events c)) m → Contains (fetched (entries_of c run.lawful.run.merge)) m
  came c m there = subst (λ es. Contains (fetched es) m) (sym (happened c)) there

  one_place : (c : ℕ) → c < length j.controllers → (m : Msg) → Contains (fetched (run.lawful.events c)) m
      → InOnePlace plant.wiring m (run.world.controllers c) (over_with plant lines c (run.lawful.events c))
  one_place c below m there =
      subst (λ (s : State (Body Actor)). InOnePlace plant.wiring m s (over_with plant lines c (run.lawful.events c))) (ends c below)
      (subst (λ es. InOnePlace plant.wiring m (run.lawful.run.end.controllers c) (over_with plant lines c es)) (happened c)
      (stands.place c (below_n c below) m (came c m there)))

  nowhere_else : (c d : ℕ) → c < length j.controllers → d < length j.controllers → d ≢ c → (m : Msg) → Contains (fetched (run.lawful.events c)) m
      → InNoPlace plant.wiring m (run.world.controllers d) (over_with plant lines d (run.lawful.events d))
  nowhere_else c d here below other m there =
      subst (λ (s : State (Body Actor)). InNoPlace plant.wiring m s (over_with plant lines d (run.lawful.events d))) (ends d below)
      (subst (λ es. InNoPlace plant.wiring m (run.lawful.run.end.controllers d) (over_with plant lines d es)) (happened d)
      (stands.elsewhere c d (below_n d below) other m (came c m there)))

  -- a replay up to a point of it
  front : (c : ℕ) (s : State (Body Actor)) (a b : List Entry) (end : State (Body Actor)) → Replays (running plant lines) c s (a ++ b) end
      → (mid : State (Body Actor)) × Replays (running plant lines) c s a mid × Replays (running plant lines) c mid b end
  front c s [] b end h = (s, refl, h)
  front c s (e ∷ a) b end h = let r = front c h.0 a b end h.2 in (r.0, (h.0, h.1, r.1), r.2)

  lost : (c : ℕ) → c < length j.controllers
      → (before after : List Entry) (stamp : Stamp) (from : ControllerId) (sent : Stamp) (what : Did) (ns : List Note) (x : Incarnation) (n : ℕ)
      → run.lawful.events c ≡ before ++ entry.Turn stamp from sent what ns ∷ after → Contains ns (notes.Down x n) → WasLost plant lines c before x n
  lost c below before after stamp from sent what ns x n is there =
      let whole = (run_projects (running plant lines) (start (running plant lines)) run.lawful.run.merge run.lawful.run.end run.lawful.run.run).controllers c (below_n c below) in
      let split = front c (begins_at plant c) before (entry.Turn stamp from sent what ns ∷ after) (run.lawful.run.end.controllers c)
      (subst (λ es. Replays (running plant lines) c (begins_at plant c) es (run.lawful.run.end.controllers c)) (happened c ∙ is) whole) in
      let told = downs_tell model plant.wiring posted c fitting.modest fitting.tells_defers before split.0 split.2.0 stamp from sent what ns split.1 split.2.1 x n there in
      record { state = split.0; reached = split.1; lived = told.0; many = told.1 }

  pub settles : Settles plant lines fuel j run
  settles = record { lives = lives; directories = directories; one_place = one_place; nowhere_else = nowhere_else; lost = lost }

pub runs_settle : FittingRunsSettle
runs_settle plant lines fuel j fits fit run = settles plant lines fuel j (plants_fit plant fits) fit run
