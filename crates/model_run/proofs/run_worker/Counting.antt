-- No turn is taken back: over a replay the number of turns only grows.
use Rattle.std.proofs.Common.{◌≡◌, ℕ, ◌+◌, ◌≤◌, List, [], ◌∷◌, Option, Some, None, sym, ap, arith}
use Rattle.room_kinds.specs.declared.message.Msg.{Msg}
use Rattle.journal.specs.declared.entry.Entry.{Entry}
use Rattle.journal.specs.declared.entry.Entry.TheVariants as entry
use Rattle.actor_merge.specs.Parties.{State, Plant as RunPlant, Taken, next_of, fetch, turn, turn_with, post, post_front, Does, Replays}
use Rattle.controller_actors.specs.declared.plant.Plant.{Plant}
use Rattle.controller.specs.Controllers.{Goes, run_plant, state_in}
use Rattle.controller.specs.View.{Controller}

module _ {B : Type 0} (plant : RunPlant B) (c : ℕ) where
  fetch_turns : (s next : State B) (m : Msg) (e : Entry) → fetch s m ≡ (next, e) → next.turns ≡ s.turns
  unfolding fetch
  fetch_turns s next m e h = sym (ap (λ (r : State B × Entry). r.0.turns) h)

  turn_turns : (s next : State B) (e : Entry) → turn plant c s ≡ Some (next, e) → next.turns ≡ s.turns + 1
  unfolding turn
  turn_turns s next e h = go s.outbox (next_of s.pending) h
    where
      go : (box : List Msg) (t : Option Taken) → turn_with plant c s box t ≡ Some (next, e) → next.turns ≡ s.turns + 1
      go [] None k = absurd cc
      go [] (Some t) k = sym (ap (elim [ None ↦ 0 | Some r ↦ r.0.turns ]) k)
      go (x ∷ xs) None k = absurd cc
      go (x ∷ xs) (Some t) k = absurd cc

  post_turns : (s next : State B) (e : Entry) → post c s ≡ Some (next, e) → next.turns ≡ s.turns
  unfolding post
  post_turns s next e h = go s.outbox h
    where
      go : (box : List Msg) → post_front c s box ≡ Some (next, e) → next.turns ≡ s.turns
      go [] k = absurd cc
      go (x ∷ xs) k = sym (ap (elim [ None ↦ 0 | Some r ↦ r.0.turns ]) k)

  does_turns : (s next : State B) (e : Entry) → Does plant c s e next → s.turns ≤ next.turns
  does_turns s next (entry.Start who state notes) h = absurd h
  does_turns s next (entry.Fetch stamp m) h = omega (arith, fetch_turns s next m (entry.Fetch stamp m) h)
  does_turns s next (entry.Turn stamp from sent did notes) h = omega (arith, turn_turns s next (entry.Turn stamp from sent did notes) h)
  does_turns s next (entry.Post stamp m) h = omega (arith, post_turns s next (entry.Post stamp m) h)

  replays_turns : (s : State B) (es : List Entry) (end : State B) → Replays plant c s es end → s.turns ≤ end.turns
  replays_turns s [] end h = let same : end.turns ≡ s.turns = ap (λ (z : State B). z.turns) h in omega (arith, same)
  replays_turns s (e ∷ es) end h = omega (arith, does_turns s h.0 e h.1, replays_turns h.0 es end h.2)

-- a controller goes on: it takes no turn back
pub turns_grow : (plant : Plant) (old new : Controller) (es : List Entry) → Goes plant old new es → old.mail.turns ≤ new.mail.turns
turns_grow plant old new es g = replays_turns (run_plant plant []) old.me.0 (state_in plant old) es (state_in plant new) (g.replays [])
