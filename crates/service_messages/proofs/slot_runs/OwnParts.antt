-- Whether a controller has a part of a slot, found by going over what is made with it.
use Rattle.std.proofs.Common.{◌≡◌, ℕ, ◌<◌, ◌≤◌, Bool, true, false, length, sym, ap, ◌∙◌, arith, inl, inr}
use Rattle.std.proofs.lemmas.Bool.{and_from, and_left, and_right, cases_lt, cases_order}
use Rattle.room_wiring.specs.declared.tables.Tables.{Tables}
use Rattle.actor_duties.specs.Words.{is_own}
use Rattle.actor_duties.specs.Lives.{is_made_with, is_in_part, has_part}
use Rattle.service_messages.specs.slot_runs.Runs.{IsDepthFirst, IsRunEnd, IsNextMade}
use Rattle.service_messages.proofs.slot_runs.Made.{made_with_itself, not_made_outside}
use Rattle.service_messages.proofs.slot_runs.Searched.{found_in, none_in}

-- of what is made with o nothing below n is controller d's; n is the next that is made, or the end
pub record NonePart (t : Tables) (d o e n : ℕ) : Type 0 where
  pub within : n ≤ e
  pub made : n < e → is_made_with t o n ≡ true
  pub none : (u : ℕ) → u < n → is_in_part t d o u ≡ false

outside_part : (t : Tables) → IsDepthFirst t → (d o e u : ℕ) → IsRunEnd t o e → ((o ≤ u) × (u < e) → ⊥) → is_in_part t d o u ≡ false
outside_part t first d o e u run out = and_left (is_made_with t o u) (is_own t d u) (not_made_outside t first o e u run out)

pub part_begun : (t : Tables) → IsDepthFirst t → (d o e : ℕ) → IsRunEnd t o e → NonePart t d o e o
part_begun t first d o e run =
    let behind = run.behind in
    record {
      within = omega arith;
      made = λ _. made_with_itself t o;
      none = λ u l. outside_part t first d o e u run (λ c. let from = c.0 in omega arith);
    }

pub part_on : (t : Tables) (d o e n m : ℕ) → IsNextMade t o e n m → is_own t d n ≡ false → NonePart t d o e n → NonePart t d o e m
part_on t d o e n m next own w = record {
  within = next.within;
  made = next.made;
  none =
      λ u l. elim (cases_order u n) [
        | inl here ↦ and_right (is_made_with t o u) (is_own t d u) (ap (is_own t d) here ∙ own)
        | inr other ↦
            elim other [
              | inl before ↦ w.none u before
              | inr after ↦ and_left (is_made_with t o u) (is_own t d u) (next.none_between u after l)
            ]
      ];
}

pub part_none : (t : Tables) → IsDepthFirst t → (d o e n : ℕ) → IsRunEnd t o e → e ≤ n → NonePart t d o e n → false ≡ has_part t d o
unfolding has_part
part_none t first d o e n run l w =
    sym (none_in (is_in_part t d o) (length t.slots) (length t.slots) (omega arith) (λ u there.
    elim (cases_lt u n) [
      | inl before ↦ w.none u before
      | inr after ↦ outside_part t first d o e u run (λ c. let to = c.1 in omega arith)
    ]))

pub part_found : (t : Tables) (d o e n : ℕ) → IsRunEnd t o e → n < e → is_own t d n ≡ true → NonePart t d o e n → true ≡ has_part t d o
unfolding has_part
part_found t d o e n run l own w =
    let there = run.there in
    sym (found_in (is_in_part t d o) (length t.slots) n (omega arith) (and_from (is_made_with t o n) (is_own t d n) (w.made l) own))
