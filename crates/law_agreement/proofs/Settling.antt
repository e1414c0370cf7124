-- The world that the journals of a run that is done lead to.
use Rattle.std.proofs.Common.{◌≡◌, ℕ, ◌<◌, ◌≤◌, ◌↔◌, true, subst, List, get_or, length, slice_get, Some, None, sym, ap, ◌∙◌, arith, ◌⊎◌, inl, inr}
use Rattle.std.specs.Prelude.{count_by}
use Rattle.std.specs.Option.{option_map_or}
use Rattle.std.proofs.lemmas.Option.{slice_get_cases}
use Rattle.journal.specs.declared.entry.Entry.{Entry}
use Rattle.room_kinds.specs.declared.numbers.Incarnation.{Incarnation}
use Rattle.room_wiring.specs.declared.tables.Tables.{Tables}
use Rattle.room_wiring.specs.declared.slot.Slot.{Slot}
use Rattle.room_wiring.specs.Consistent.{IsConsistent}
use Rattle.actor_merge.specs.Parties.{State, Line}
use Rattle.actor_merge.specs.World.{World, IsQuiet}
use Rattle.actor_merge.specs.Merge.{IsSame}
use Rattle.actor_merge.specs.History.{IsLawful}
use Rattle.actor_duties.specs.Words.{frame_of, whose, is_incarnation, owner_of}
use Rattle.actor_duties.specs.State.{Frame, ImportPlace, Empty, Held}
use Rattle.actor_duties.specs.Lives.{standing, is_live}
use Rattle.actor_duties.specs.Imports.{container_frame}
use Rattle.actor_world.specs.Behaviour.{Behaviour}
use Rattle.actor_world.specs.Body.{Body}
use Rattle.actor_world.specs.Start.{plant_of}
use Rattle.actor_world.specs.Directories.{IsOpen, AreOpen}
use Rattle.actor_world.specs.Agreed.{frame_at, lives_in, place_of, plugged, has_container, ImportsAgree}
use Rattle.service_messages.specs.slot_runs.Runs.{IsDepthFirst}
use Rattle.service_messages.proofs.slot_runs.RunLemmas.{contained_there}
use Rattle.law_agreement.specs.Bodies.{lives_at, OthersLiveFromStart}
use Rattle.law_agreement.specs.Settled.{LivesAgree}
use Rattle.law_agreement.specs.Imports.{PlacesAreLocal, OwnersAreThere}
use Rattle.law_agreement.specs.Held.{PlacesAreContained}
use Rattle.law_agreement.proofs.Holding.{quiet_imports}
use Rattle.law_agreement.proofs.Agreeing.{quiet_agree}
use Rattle.law_agreement.proofs.Parting.{IsWholeWorld, optional_there, runs_whole, quiet_bodies, containers_live}

-- a world that is the same to every party is as quiet
pub same_quiet : {M : Type 0} (model : Behaviour M) (t : Tables) (lines : List Line) (end w : World (Body M)) → IsSame (plant_of model t lines) end w
    → IsQuiet (plant_of model t lines) w → IsQuiet (plant_of model t lines) end
same_quiet {M} model t lines end w same quiet =
    record {
      lanes = λ l. same.lanes l ∙ quiet.lanes l;
      pending = λ c p below. ap (λ (z : State (Body M)). z.pending p) (same.controllers c below) ∙ quiet.pending c p below;
      outbox = λ c below. ap (λ (z : State (Body M)). z.outbox) (same.controllers c below) ∙ quiet.outbox c below;
    }

module _ {M : Type 0} (model : Behaviour M) (clear : IsOpen model) (t : Tables) (first : IsDepthFirst t) (lines : List Line) (clear_lines : AreOpen lines) (consistent : IsConsistent t) where
  -- each slot has an owner that is there
  owners : (s : ℕ) → s < length t.slots → owner_of t s < length t.controllers
  unfolding owner_of
  owners s there = go (slice_get_cases t.slots s).1
    where
      go : ((x : Slot) × (s < length t.slots) × (slice_get t.slots s ≡ Some x) × (get_or t.slots s x ≡ x)) ⊎ ((length t.slots ≤ s) × (slice_get t.slots s ≡ None))
          → option_map_or (λ (x : Slot). x.owner.0) (slice_get t.slots s) 0 < length t.controllers
      go (inl q) = rw q.2 (consistent.owners_known s q.0 q.2)
      go (inr q) = absurd (omega (arith, q.0))

  -- in a world that is the same to every party what lives in a slot is the same
  same_lives : (end w : World (Body M)) → IsSame (plant_of model t lines) end w → (s : ℕ) → s < length t.slots → lives_at t end s ≡ lives_at t w s
  same_lives end w same s there = ap (λ (z : State (Body M)). z.body.frame.lives.lives s) (same.controllers (owner_of t s) (owners s there))

  pub lives_agree : OthersLiveFromStart t → (events : ℕ → List Entry) (w : World (Body M)) → IsLawful (plant_of model t lines) events w → IsQuiet (plant_of model t lines) w → LivesAgree t w
  lives_agree others events w lawful quiet =
      let end : World (Body M) = lawful.end in
      let same : IsSame (plant_of model t lines) end w = lawful.same in
      let inv : IsWholeWorld t end = runs_whole model clear t first lines clear_lines lawful.merge end lawful.run in
      let still : IsQuiet (plant_of model t lines) end = same_quiet model t lines end w same quiet in
      record {
        directories = λ s d there below told.
            ap (λ (z : State (Body M)). z.body.frame.told s) (sym (same.controllers d below))
            ∙ quiet_agree model clear t lines clear_lines end inv.told still s d there below told
            ∙ ap (λ (z : State (Body M)). standing z.body.frame.lives s) (same.controllers (owner_of t s) (owners s there));
        bodies = λ o s body.
            sym (same_lives end w same s body.there)
            ∙ quiet_bodies model clear t first lines clear_lines end inv still o s body (owners s body.there)
            ∙ same_lives end w same o (optional_there t o body.optional);
        containers = λ s c opt is live.
            let there : s < length t.slots = contained_there t s c is in
            let less : c < s = first.behind s c is in
            sym (same_lives end w same c (omega arith))
            ∙ containers_live model clear t first lines clear_lines others end inv s c opt is (same_lives end w same s there ∙ live);
      }

module _ {M : Type 0} (model : Behaviour M) (clear : IsOpen model) (t : Tables) (lines : List Line) (clear_lines : AreOpen lines) (local : PlacesAreLocal t)
    (there : OwnersAreThere t) (contained : PlacesAreContained t) where
  -- what is agreed on imports in a world is agreed in one that is the same to every party
  same_imports : (end w : World (Body M)) → IsSame (plant_of model t lines) end w → ImportsAgree t end → ImportsAgree t w
  same_imports end w same a =
      record {
        settled = λ i imported live. subst (λ (p : ImportPlace). (p ≡ Empty) ⊎ ((h : Incarnation) × (p ≡ Held h))) (place i.slot.0) (a.settled i imported (has i ∙ live));
        held = λ i h imported live. held i h (a.held i h imported (has i ∙ live));
        once = λ i h. subst (λ n. n ≤ 1) (plugs i h) (a.once i h);
        plugs = λ i h few. (let r = a.plugs i h (subst (λ n. 1 ≤ n) (sym (plugs i h)) few) in (r.0, sym (has i) ∙ r.1));
      }
    where
      frame : (s : ℕ) → frame_at t end s ≡ frame_at t w s
      frame s = ap (λ (z : State (Body M)). z.body.frame) (same.controllers (owner_of t s) (there s))

      place : (i : ℕ) → place_of t end i ≡ place_of t w i
      place i = ap (λ (f : Frame). f.places i) (frame i)

      alive : (x : Incarnation) → lives_in t end x ≡ lives_in t w x
      alive x = ap (λ (f : Frame). is_live f.lives x) (frame x.slot.0)

      plugs : (i h : Incarnation) → plugged t end i h ≡ plugged t w i h
      plugs i h = ap (λ (f : Frame). count_by (is_incarnation i) (f.plugs h.slot.0)) (frame h.slot.0)

      has : (i : Incarnation) → has_container t end i ≡ has_container t w i
      has i = alive (whose (container_frame t (frame_of i)))

      held : (i h : Incarnation) → (place_of t end i.slot.0 ≡ Held h) ↔ ((lives_in t end h ≡ true) × (plugged t end i h ≡ 1))
          → (place_of t w i.slot.0 ≡ Held h) ↔ ((lives_in t w h ≡ true) × (plugged t w i h ≡ 1))
      held i h k = (
        (λ e. (let r = k.0 (place i.slot.0 ∙ e) in (sym (alive h) ∙ r.0, sym (plugs i h) ∙ r.1))),
        (λ e. sym (place i.slot.0) ∙ k.1 (alive h ∙ e.0, plugs i h ∙ e.1)),
      )

  pub lawful_imports : (events : ℕ → List Entry) (w : World (Body M)) → IsLawful (plant_of model t lines) events w → IsQuiet (plant_of model t lines) w → ImportsAgree t w
  lawful_imports events w lawful quiet =
      same_imports lawful.end w lawful.same
      (quiet_imports model clear t lines clear_lines local contained lawful.merge lawful.end lawful.run there (same_quiet model t lines lawful.end w lawful.same quiet))
