-- A controller's journal has as many turns as it took.
use Rattle.std.proofs.Common.{◌≡◌, ℕ, ◌+◌, if◌then◌else◌, refl, List, [], ◌∷◌, Option, Some, None, ap, arith}
use Rattle.room_kinds.specs.declared.message.Msg.{Msg}
use Rattle.journal.specs.declared.entry.Entry.{Entry}
use Rattle.journal.specs.declared.entry.Entry.TheVariants as entry
use Rattle.actor_merge.specs.Parties.{State, Plant, Taken, next_of, fetch, turn, turn_with, turned, post, post_front, stamped, Does, Replays}
use Rattle.actor_world.specs.Journals.{is_turn}
use Rattle.law_runs.specs.Turns.{turns_in}
use Rattle.law_runs.proofs.Starts.{AllStarts}

module _ {B : Type 0} (plant : Plant B) (c : ℕ) where
  one : (s next : State B) (e : Entry) → Does plant c s e next → next.turns ≡ s.turns + (if is_turn e then 1 else 0)
  unfolding fetch turn post
  one s next (entry.Start who state notes) h = absurd h
  one s next (entry.Fetch stamp m) h = let same : s.turns ≡ next.turns = ap (λ (z : State B × Entry). z.0.turns) h in omega (arith, same)
  one s next (entry.Post stamp m) h = go s.outbox h
    where
      go : (box : List Msg) → post_front c s box ≡ Some (next, entry.Post stamp m) → next.turns ≡ s.turns + 0
      go [] k = absurd cc
      go (x ∷ xs) k =
          let r : State B × Entry = (record s { clock = s.clock + 1; outbox = xs }, entry.Post (record { 0 = s.clock + 1 }) (stamped c (s.clock + 1) x)) in
          let q : State B × Entry = (next, entry.Post stamp m) in
          let e : r ≡ q = cc in
          let same : s.turns ≡ next.turns = ap (λ (z : State B × Entry). z.0.turns) e in omega (arith, same)
  one s next (entry.Turn stamp from sent what notes) h = go s.outbox (next_of s.pending) h
    where
      go : (box : List Msg) (o : Option Taken) → turn_with plant c s box o ≡ Some (next, entry.Turn stamp from sent what notes) → next.turns ≡ s.turns + 1
      go [] None k = absurd cc
      go (x ∷ xs) o k = absurd cc
      go [] (Some taken) k =
          let r : State B × Entry = turned s taken (plant.treat c s.body taken.message) in
          let q : State B × Entry = (next, entry.Turn stamp from sent what notes) in
          let e : r ≡ q = cc in
          let same : s.turns + 1 ≡ next.turns = ap (λ (z : State B × Entry). z.0.turns) e in omega (arith, same)

  pub turns_taken : (es : List Entry) (s end : State B) → Replays plant c s es end → end.turns ≡ s.turns + turns_in es
  turns_taken [] s end r = let same : end.turns ≡ s.turns = ap (λ (z : State B). z.turns) r in omega (arith, same)
  turns_taken (e ∷ es) s end r = let a = one s r.0 e r.1 in let b = turns_taken es r.0 end r.2 in omega (arith, a, b)

pub starts_turn_none : (es : List Entry) → AllStarts es → turns_in es ≡ 0
starts_turn_none [] h = refl
starts_turn_none (entry.Start who state notes ∷ es) h = let k = starts_turn_none es h.1 in omega (arith, k)
starts_turn_none (entry.Fetch stamp m ∷ es) h = absurd h.0
starts_turn_none (entry.Turn stamp from sent what notes ∷ es) h = absurd h.0
starts_turn_none (entry.Post stamp m ∷ es) h = absurd h.0
