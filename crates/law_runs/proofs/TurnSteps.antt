-- What a turn takes, whatever it makes of it.
use Rattle.std.proofs.Common.{◌≡◌, ℕ, zero, suc, ◌+◌, ◌<◌, ◌≤◌, List, [], ◌∷◌, Option, Some, None, refl, sym, ap, ◌∙◌, subst, arith, ◌⊎◌, inl, inr}
use Rattle.std.proofs.lemmas.Bool.{cases_eq}
use Rattle.room_kinds.specs.declared.message.Msg.{Msg}
use Rattle.room_kinds.specs.declared.note.Note.{Note}
use Rattle.room_kinds.specs.declared.numbers.ControllerId.{ControllerId}
use Rattle.room_kinds.specs.declared.numbers.Stamp.{Stamp}
use Rattle.journal.specs.declared.entry.Did.{Did}
use Rattle.journal.specs.declared.entry.Entry.{Entry}
use Rattle.journal.specs.declared.entry.Entry.TheVariants as entry
use Rattle.actor_merge.specs.Parties.{State, Plant, Taken, Treated, put, put_back, front_or, lowest, next_of, turn, turn_with, turned, Does}

-- the front of the first list that isn't empty
pub record IsFirst (pending : ℕ → List Msg) (k : Taken) : Type 0 where
  pub front : pending k.priority ≡ k.message ∷ k.rest
  pub none_before : (p : ℕ) → p < k.priority → pending p ≡ []

record IsFirstFrom (pending : ℕ → List Msg) (at : ℕ) (k : Taken) : Type 0 where
  from : at ≤ k.priority
  front : pending k.priority ≡ k.message ∷ k.rest
  none_before : (p : ℕ) → at ≤ p → p < k.priority → pending p ≡ []

lowest_first : (pending : ℕ → List Msg) (at n : ℕ) (k : Taken) → lowest pending at n ≡ Some k → IsFirstFrom pending at k
unfolding lowest
lowest_first pending at zero k h = absurd cc
lowest_first pending at (suc n) k h = go (pending at) refl h (lowest_first pending (at + 1) n k)
  where
    go : (ms : List Msg) → pending at ≡ ms → front_or at ms (lowest pending (at + 1) n) ≡ Some k
        → (lowest pending (at + 1) n ≡ Some k → IsFirstFrom pending (at + 1) k) → IsFirstFrom pending at k
    go [] e f ih =
        let r = ih f in
        let above = r.from in
        record {
          from = omega (arith, above);
          front = r.front;
          none_before = λ p low high. here p low high r (cases_eq p at);
        }
      where
        here : (p : ℕ) → at ≤ p → p < k.priority → IsFirstFrom pending (at + 1) k → (p ≡ at) ⊎ (p ≡ at → ⊥) → pending p ≡ []
        here p low high r (inl same) = ap pending same ∙ e
        here p low high r (inr other) = r.none_before p (omega (arith, other)) high
    go (m ∷ ms) e f ih =
        let taken : Taken = record { priority = at; message = m; rest = ms } in
        let same : taken ≡ k = cc in
        subst (IsFirstFrom pending at) same
        (record { from = omega arith; front = e; none_before = λ p low high. absurd (omega (arith, low, high)) })

pub next_first : (pending : ℕ → List Msg) (k : Taken) → next_of pending ≡ Some k → IsFirst pending k
next_first pending k h =
    let r = lowest_first pending 0 6 k h in record { front = r.front; none_before = λ p high. r.none_before p (omega arith) high }

-- a turn: the message that it takes, and how it leaves the pending lists
pub record TurnDone {B : Type 0} (s next : State B) (from : ControllerId) (sent : Stamp) : Type 0 where
  pub taken : Taken
  pub next_is : next_of s.pending ≡ Some taken
  pub from_is : taken.message.from ≡ from
  pub sent_is : taken.message.stamp ≡ sent
  pub back : List Msg
  pub pending : next.pending ≡ put_back back (put s.pending taken.priority taken.rest)

pub turn_done : {B : Type 0} (plant : Plant B) (c : ℕ) (s next : State B) (stamp : Stamp) (from : ControllerId) (sent : Stamp) (what : Did) (notes : List Note)
    → Does plant c s (entry.Turn stamp from sent what notes) next → TurnDone s next from sent
unfolding turn
turn_done {B} plant c s next stamp from sent what notes h = go s.outbox (next_of s.pending) refl h
  where
    go : (box : List Msg) (o : Option Taken) → next_of s.pending ≡ o
        → turn_with plant c s box o ≡ Some (next, entry.Turn stamp from sent what notes) → TurnDone s next from sent
    go [] None f k = absurd cc
    go (y ∷ ys) o f k = absurd cc
    go [] (Some taken) f k =
        let done : Treated B = plant.treat c s.body taken.message in
        let r : State B × Entry = turned s taken done in
        let q : State B × Entry = (next, entry.Turn stamp from sent what notes) in
        let e : r ≡ q = cc in
        let same : r.1 ≡ entry.Turn stamp from sent what notes = ap (λ (z : State B × Entry). z.1) e in
        record {
          taken = taken;
          next_is = f;
          from_is = cc;
          sent_is = cc;
          back = done.back;
          pending = sym (ap (λ (z : State B × Entry). z.0.pending) e);
        }
