-- What making and ending do to lives, as counts of incarnations.
use Rattle.std.proofs.Common.{◌≡◌, ℕ, ◌+◌, ◌<◌, ◌≤◌, Bool, true, false, not, ◌&&◌, ◌||◌, if◌then◌else◌, List, [], map, filter, reverse, length, refl, ap, ◌∙◌, arith}
use Rattle.std.specs.List.{range_with_len}
use Rattle.std.proofs.lemmas.Bool.{and_parts}
use Rattle.room_kinds.specs.declared.numbers.Incarnation.{Incarnation}
use Rattle.room_wiring.specs.declared.tables.Tables.{Tables}
use Rattle.actor_duties.specs.Words.{is_own}
use Rattle.actor_duties.specs.State.{Lives}
use Rattle.actor_duties.specs.Lives.{is_made_with, comes_up, made_slots, is_reached, goes_down, ended_slots, lives_made, lives_ended, last_of}
use Rattle.actor_world.specs.Life.{born, dead, born_in, dead_in}
use Rattle.actor_world.proofs.Slots.{own_in_range}
use Rattle.actor_world.proofs.Counts.{at_only, born_next, dead_next, dead_ends, times, times-reverse, passing, passing_hit, passing_miss}

-- lives of a controller as they can be: only in its own slots was anything created, and what lives was
pub record IsSound (t : Tables) (c : ℕ) (l : Lives) : Type 0 where
  pub own : (s : ℕ) → 1 ≤ l.generation s → is_own t c s ≡ true
  pub created : (s : ℕ) → l.lives s ≡ true → 1 ≤ l.generation s

-- lives change by these that come up and those that go down
pub record Changes (l next : Lives) (up down : List Incarnation) : Type 0 where
  pub born : (x : Incarnation) → born_in l x + times x up ≡ born_in next x
  pub dead : (x : Incarnation) → dead_in l x + times x down ≡ dead_in next x

pub no_change : (l : Lives) → Changes l l [] []
no_change l = record { born = λ x. omega arith; dead = λ x. omega arith }

not_true : (b : Bool) → not b ≡ true → b ≡ false
not_true true h = absurd cc
not_true false h = refl

-- an actor comes up in a slot of the controller's own where nobody lived
pub up_parts : (t : Tables) (c : ℕ) (l : Lives) (o s : ℕ) → comes_up t c l o s ≡ true → (is_own t c s ≡ true) × (l.lives s ≡ false)
unfolding comes_up
up_parts t c l o s h =
    let vacant = and_parts (is_own t c s) (not (l.lives s)) (and_parts (is_made_with t o s) (is_own t c s && not (l.lives s)) h).1 in
    (vacant.0, not_true (l.lives s) vacant.1)

-- an actor goes down in a slot of the controller's own where somebody lived
pub down_parts : (t : Tables) (c : ℕ) (l : Lives) (o s : ℕ) → goes_down t c l o s ≡ true → (is_own t c s ≡ true) × (l.lives s ≡ true)
unfolding goes_down
down_parts t c l o s h =
    let both = and_parts (is_own t c s && is_reached t c l o s) (l.lives s) h in
    ((and_parts (is_own t c s) (is_reached t c l o s) both.0).0, both.1)

module _ (t : Tables) (c o : ℕ) (l : Lives) where
  pub made_sound : IsSound t c l → IsSound t c (lives_made t c o l)
  unfolding lives_made
  made_sound s =
      record {
        own = λ x some. owned x (comes_up t c l o x) refl some;
        created = λ x live. go x (comes_up t c l o x) refl live;
      }
    where
      owned : (x : ℕ) (b : Bool) → comes_up t c l o x ≡ b → 1 ≤ (if comes_up t c l o x then l.generation x + 1 else l.generation x) → is_own t c x ≡ true
      owned x true e some = (up_parts t c l o x e).0
      owned x false e some = s.own x (rw e at some)

      go : (x : ℕ) (b : Bool) → comes_up t c l o x ≡ b → (comes_up t c l o x || l.lives x) ≡ true → 1 ≤ (if comes_up t c l o x then l.generation x + 1 else l.generation x)
      go x true e live = rw e (omega arith)
      go x false e live = rw e (s.created x (rw e at live))

  pub made_changes : Changes l (lives_made t c o l) (map (last_of (lives_made t c o l)) (made_slots t c l o)) []
  unfolding lives_made made_slots
  made_changes =
      record {
        born = λ x. up x (comes_up t c l o x.slot.0) refl;
        dead = λ x. down x (comes_up t c l o x.slot.0) refl;
      }
    where
      generation : ℕ → ℕ
      generation x = if comes_up t c l o x then l.generation x + 1 else l.generation x

      up : (x : Incarnation) (b : Bool) → comes_up t c l o x.slot.0 ≡ b
          → born_in l x + times x (passing (comes_up t c l o) generation (range_with_len 0 (length t.slots)))
          ≡ born x.generation.0 (generation x.slot.0)
      up x true e =
          let there : x.slot.0 < length t.slots = own_in_range t c x.slot.0 (up_parts t c l o x.slot.0 e).0 in
          let h = passing_hit (comes_up t c l o) generation x 0 (length t.slots) (omega arith) (omega arith) in
          let k : times x (passing (comes_up t c l o) generation (range_with_len 0 (length t.slots))) ≡ at_only x.generation.0 (l.generation x.slot.0 + 1) = rw e at h in
          let n = born_next x.generation.0 (l.generation x.slot.0) in
          rw e (ap (λ z. born_in l x + z) k ∙ n)
      up x false e =
          let k : times x (passing (comes_up t c l o) generation (range_with_len 0 (length t.slots))) ≡ 0 =
          passing_miss (comes_up t c l o) generation x e (range_with_len 0 (length t.slots)) in
          rw e (omega (arith, k))

      down : (x : Incarnation) (b : Bool) → comes_up t c l o x.slot.0 ≡ b
          → dead_in l x + 0 ≡ dead x.generation.0 (generation x.slot.0) (comes_up t c l o x.slot.0 || l.lives x.slot.0)
      down x true e =
          let n = dead_next x.generation.0 (l.generation x.slot.0) in
          let vacant : l.lives x.slot.0 ≡ false = (up_parts t c l o x.slot.0 e).1 in
          rw (e, vacant) (omega (arith, n))
      down x false e = rw e (omega arith)

  pub ended_sound : IsSound t c l → IsSound t c (lives_ended t c o l)
  unfolding lives_ended
  ended_sound s =
      record {
        own = s.own;
        created = λ x live. s.created x (and_parts (not (goes_down t c l o x)) (l.lives x) live).1;
      }

  pub ended_changes : IsSound t c l → Changes l (lives_ended t c o l) [] (map (last_of l) (ended_slots t c l o))
  unfolding lives_ended ended_slots
  ended_changes s =
      record {
        born = λ x. omega arith;
        dead = λ x. down x (goes_down t c l o x.slot.0) refl;
      }
    where
      down : (x : Incarnation) (b : Bool) → goes_down t c l o x.slot.0 ≡ b
          → dead_in l x + times x (map (last_of l) (reverse (filter (goes_down t c l o) (range_with_len 0 (length t.slots)))))
          ≡ dead x.generation.0 (l.generation x.slot.0) (not (goes_down t c l o x.slot.0) && l.lives x.slot.0)
      down x true e =
          let live : l.lives x.slot.0 ≡ true = (down_parts t c l o x.slot.0 e).1 in
          let some : 1 ≤ l.generation x.slot.0 = s.created x.slot.0 live in
          let there : x.slot.0 < length t.slots = own_in_range t c x.slot.0 (s.own x.slot.0 some) in
          let r = times-reverse x (last_of l) (filter (goes_down t c l o) (range_with_len 0 (length t.slots))) in
          let h = passing_hit (goes_down t c l o) l.generation x 0 (length t.slots) (omega arith) (omega arith) in
          let k : times x (passing (goes_down t c l o) l.generation (range_with_len 0 (length t.slots))) ≡ at_only x.generation.0 (l.generation x.slot.0) = rw e at h in
          let n = dead_ends x.generation.0 (l.generation x.slot.0) some in
          rw (e, live) (ap (λ z. dead x.generation.0 (l.generation x.slot.0) true + z) (r ∙ k) ∙ n)
      down x false e =
          let r = times-reverse x (last_of l) (filter (goes_down t c l o) (range_with_len 0 (length t.slots))) in
          let k = passing_miss (goes_down t c l o) l.generation x e (range_with_len 0 (length t.slots)) in
          rw e (ap (λ z. dead_in l x + z) (r ∙ k) ∙ omega arith)
