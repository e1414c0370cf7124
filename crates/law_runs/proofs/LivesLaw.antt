-- The journals of a lawful run keep lives.
use Rattle.std.proofs.Common.{◌≡◌, ℕ, ◌+◌, ◌<◌, ◌≤◌, ◌==◌, false, List, [], ◌∷◌, ◌++◌, length, Option, Some, None, refl, sym, ap, ◌∙◌, subst, append-nil, arith}
use Rattle.std.specs.Option.{option_map_or}
use Rattle.std.proofs.lemmas.Bool.{ne_eqb}
use Rattle.room_kinds.specs.declared.numbers.Incarnation.{Incarnation}
use Rattle.journal.specs.declared.entry.Entry.{Entry}
use Rattle.journal.specs.declared.entry.Entry.TheVariants as entry
use Rattle.journal.specs.declared.entry.Left.{Left}
use Rattle.room_wiring.specs.declared.tables.Tables.{Tables}
use Rattle.room_wiring.specs.declared.slot.Slot.{Slot}
use Rattle.room_wiring.specs.Slots.{slot_at}
use Rattle.actor_merge.specs.Parties.{Line, Plant, State, Replays}
use Rattle.actor_merge.specs.World.{World}
use Rattle.actor_duties.specs.Words.{owner_of, is_own}
use Rattle.actor_world.specs.Behaviour.{Behaviour}
use Rattle.actor_world.specs.Body.{Body}
use Rattle.actor_world.specs.Journals.{IsLawfulRun}
use Rattle.actor_world.specs.Life.{IsModest, created, destroyed, dispatched_to, LivesOnce, IncarnationsLiveOnce, ReplaysTellLives}
use Rattle.actor_world.specs.Start.{plant_of, first_state, start_entries}
use Rattle.law_runs.specs.Lives.{LivesAreKept}
use Rattle.law_runs.specs.Turns.{turns_in}
use Rattle.law_runs.proofs.Generations.{DutiesRaiseByOne, created_low, turns-append}
use Rattle.law_runs.proofs.Party.{happened, own, replay}
use Rattle.law_runs.proofs.Splits.{Cut, within, behind, cut}
use Rattle.law_runs.proofs.Starts.{AllStarts, start_entries_start}

-- a replay up to a point of it
pub replay_front : {B : Type 0} (plant : Plant B) (c : ℕ) (s : State B) (a b : List Entry) (end : State B) → Replays plant c s (a ++ b) end
    → (mid : State B) × Replays plant c s a mid × Replays plant c mid b end
replay_front plant c s [] b end h = (s, refl, h)
replay_front plant c s (e ∷ a) b end h = let r = replay_front plant c h.0 a b end h.2 in (r.0, (h.0, h.1, r.1), r.2)

created_front : (x : Incarnation) (a b : List Entry) → created x a ≤ created x (a ++ b)
created_front x [] b = omega arith
created_front x (e ∷ a) b = let h = created_front x a b in omega (arith, h)

starts_destroy : (x : Incarnation) (a b : List Entry) → AllStarts (a ++ b) → destroyed x a ≡ 0
starts_destroy x [] b h = refl
starts_destroy x (entry.Start who state notes ∷ a) b h = let k = starts_destroy x a b h.1 in omega (arith, k)
starts_destroy x (entry.Fetch stamp m ∷ a) b h = absurd h.0
starts_destroy x (entry.Turn stamp from sent did notes ∷ a) b h = absurd h.0
starts_destroy x (entry.Post stamp m ∷ a) b h = absurd h.0

-- nothing is dispatched by a start
no_dispatch : (a b : List Entry) (e : Entry) (x : Incarnation) → AllStarts (a ++ e ∷ b) → dispatched_to e ≡ Some x → ⊥
no_dispatch [] b (entry.Start who state notes) x h d = absurd cc
no_dispatch [] b (entry.Fetch stamp m) x h d = h.0
no_dispatch [] b (entry.Turn stamp from sent did notes) x h d = h.0
no_dispatch [] b (entry.Post stamp m) x h d = h.0
no_dispatch (y ∷ a) b e x h d = no_dispatch a b e x h.1 d

not_own : (t : Tables) (c s : ℕ) → (c ≡ owner_of t s → ⊥) → is_own t c s ≡ false
unfolding owner_of is_own
not_own t c s other = go (slot_at t s) other
  where
    go : (o : Option Slot) → (c ≡ option_map_or (λ (x : Slot). x.owner.0) o 0 → ⊥) → option_map_or (λ (x : Slot). x.owner.0 == c) o false ≡ false
    go None k = refl
    go (Some x) k = ne_eqb x.owner.0 c (λ e. k (sym e))

module _ {M : Type 0} (model : Behaviour M) (t : Tables) (lines : List Line) (fuel : ℕ) (journals : ℕ → List Entry) (left_over : List Left) (w : World (Body M))
    (lawful : IsLawfulRun model t lines fuel journals left_over w) (nobody : (party : ℕ) → length t.controllers < party → journals party ≡ [])
    (modest : IsModest model) (raises : DutiesRaiseByOne) (live : IncarnationsLiveOnce M) (tell : ReplaysTellLives M) where
  abbrev did : ℕ → List Entry
  did party = happened model t lines fuel journals left_over w lawful nobody party

  journal_is : (c : ℕ) → c < length t.controllers → journals c ≡ start_entries model t c ++ did c
  journal_is c below = own model t lines fuel journals left_over w lawful nobody c below

  replays : (c : ℕ) → c < length t.controllers → Replays (plant_of model t lines) c (first_state model t c) (did c) (lawful.run.end.controllers c)
  replays c below = replay model t lines fuel journals left_over w lawful nobody c below

  once : (c : ℕ) (x : Incarnation) (before after : List Entry) → c < length t.controllers → journals c ≡ before ++ after → LivesOnce x before
  once c x before after below is = go (cut (start_entries model t c) (did c) before after (sym (journal_is c below) ∙ is))
    where
      go : Cut (start_entries model t c) (did c) before after → LivesOnce x before
      go (within more a b) =
          let all : LivesOnce x (start_entries model t c ++ []) = (live model t lines c modest [] (first_state model t c) refl).0 x in
          let whole : created x (start_entries model t c ++ []) ≡ created x ((before ++ more) ++ []) = ap (λ (z : List Entry). created x (z ++ [])) a in
          let one = created_front x before more in
          let two = created_front x (before ++ more) [] in
          let some = all.once_created in
          let none = starts_destroy x before more (subst AllStarts a (start_entries_start model t c)) in
          record { once_created = omega (arith, whole, one, two, some); once_destroyed = omega (arith, none) }
      go (behind more a b) =
          let r = replay_front (plant_of model t lines) c (first_state model t c) more after (lawful.run.end.controllers c)
          (subst (λ (z : List Entry). Replays (plant_of model t lines) c (first_state model t c) z (lawful.run.end.controllers c)) b (replays c below)) in
          subst (LivesOnce x) (sym a) ((live model t lines c modest more r.0 r.1).0 x)

  at_owner : (c : ℕ) (x : Incarnation) → c < length t.controllers → (c ≡ owner_of t x.slot.0 → ⊥) → (created x (journals c) ≡ 0) × (destroyed x (journals c) ≡ 0)
  at_owner c x below other =
      let tells = tell model t lines c modest (did c) (lawful.run.end.controllers c) (replays c below) x in
      subst (λ (z : List Entry). (created x z ≡ 0) × (destroyed x z ≡ 0)) (sym (journal_is c below)) (tells.elsewhere (not_own t c x.slot.0 other))

  dispatched : (c : ℕ) (x : Incarnation) (before after : List Entry) (e : Entry) → c < length t.controllers → journals c ≡ before ++ e ∷ after
      → dispatched_to e ≡ Some x → (created x before ≡ 1) × (destroyed x before ≡ 0)
  dispatched c x before after e below is to = go (cut (start_entries model t c) (did c) before (e ∷ after) (sym (journal_is c below) ∙ is))
    where
      go : Cut (start_entries model t c) (did c) before (e ∷ after) → (created x before ≡ 1) × (destroyed x before ≡ 0)
      go (within [] a b) = first (did c) (sym b) (replays c below)
        where
          shape : start_entries model t c ≡ before ++ [] → start_entries model t c ++ [] ≡ before
          shape a = append-nil (start_entries model t c) ∙ a ∙ append-nil before

          first : (es : List Entry) → es ≡ e ∷ after → Replays (plant_of model t lines) c (first_state model t c) es (lawful.run.end.controllers c) → (created x before ≡ 1) × (destroyed x before ≡ 0)
          first es same r =
              let q = (live model t lines c modest [] (first_state model t c) refl).1 e after (lawful.run.end.controllers c) x
              (subst (λ (z : List Entry). Replays (plant_of model t lines) c (first_state model t c) z (lawful.run.end.controllers c)) same r) to in
              subst (λ (z : List Entry). (created x z ≡ 1) × (destroyed x z ≡ 0)) (shape a) q
      go (within (y ∷ more) a b) =
          let same : e ≡ y = cc in
          absurd (no_dispatch before more e x (subst (λ (z : Entry). AllStarts (before ++ z ∷ more)) (sym same) (subst AllStarts a (start_entries_start model t c))) to)
      go (behind more a b) =
          let q = (live model t lines c modest more (mid more b).0 (mid more b).1).1 e after (lawful.run.end.controllers c) x
          (subst (λ (z : List Entry). Replays (plant_of model t lines) c (first_state model t c) z (lawful.run.end.controllers c)) b (replays c below)) to in
          subst (λ (z : List Entry). (created x z ≡ 1) × (destroyed x z ≡ 0)) (sym a) q
        where
          mid : (more : List Entry) → did c ≡ more ++ e ∷ after → (s : State (Body M)) × Replays (plant_of model t lines) c (first_state model t c) more s
          mid more b =
              let r = replay_front (plant_of model t lines) c (first_state model t c) more (e ∷ after) (lawful.run.end.controllers c)
              (subst (λ (z : List Entry). Replays (plant_of model t lines) c (first_state model t c) z (lawful.run.end.controllers c)) b (replays c below)) in
              (r.0, r.1)

  generations : (c : ℕ) (x : Incarnation) (before after : List Entry) → c < length t.controllers → journals c ≡ before ++ after → 1 ≤ created x before
      → x.generation.0 ≤ 1 + turns_in before
  generations c x before after below is some = go (cut (start_entries model t c) (did c) before after (sym (journal_is c below) ∙ is))
    where
      go : Cut (start_entries model t c) (did c) before after → x.generation.0 ≤ 1 + turns_in before
      go (within more a b) =
          let whole : created x (start_entries model t c ++ []) ≡ created x ((before ++ more) ++ []) = ap (λ (z : List Entry). created x (z ++ [])) a in
          let one = created_front x before more in
          let two = created_front x (before ++ more) [] in
          let low : x.generation.0 ≤ 1 + 0 = created_low model modest t raises tell lines c x [] (first_state model t c) refl (omega (arith, whole, one, two, some)) in
          omega (arith, low)
      go (behind more a b) =
          let r = replay_front (plant_of model t lines) c (first_state model t c) more after (lawful.run.end.controllers c)
          (subst (λ (z : List Entry). Replays (plant_of model t lines) c (first_state model t c) z (lawful.run.end.controllers c)) b (replays c below)) in
          let low = created_low model modest t raises tell lines c x more r.0 r.1 (subst (λ (z : List Entry). 1 ≤ created x z) a some) in
          let sum = turns-append (start_entries model t c) more in
          let same : turns_in before ≡ turns_in (start_entries model t c ++ more) = ap turns_in a in
          omega (arith, low, sum, same)

  pub lives_are_kept : LivesAreKept t (length t.controllers) journals
  lives_are_kept = record { once = once; at_owner = at_owner; dispatched = dispatched; generations = generations }
