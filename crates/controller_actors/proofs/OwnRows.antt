-- Rows of a controller's table are those of its own slots, each slot's its own.
use Rattle.std.proofs.Common.{◌≡◌, ◌≢◌, ℕ, zero, suc, ◌+◌, ◌<◌, ◌≤◌, ◌==◌, Bool, true, false, cond, List, [], ◌∷◌, ◌++◌, length, map, set, get_or, slice_index, replicate, Option, Some, None, refl, sym, ap, ◌∙◌, subst, arith, inl, inr, eqb-true, get_or-set_same, get_or-set_other}
use Rattle.std.specs.List.{count_by, range_with_len}
use Rattle.std.specs.Option.{option_map_or}
use Rattle.std.proofs.lemmas.Bool.{cases_lt, cases_eq, eq-eqb, ne_eqb}
use Rattle.std.proofs.lemmas.List.{get_or_past, get_or_read, get_or-replicate, length-replicate}
use Rattle.std.proofs.lemmas.List.FromFn.{get_or-map-range_with_len, length-map-range_with_len, map-range_with_len_more}
use Rattle.std.proofs.lemmas.List.Sums.{sum_by_push}
use Rattle.room_wiring.specs.declared.tables.Tables.{Tables as Wiring}
use Rattle.room_wiring.specs.declared.slot.Slot.{Slot}
use Rattle.room_wiring.specs.Slots.{slot_at as wiring_slot_at}
use Rattle.actor_duties.specs.Words.{is_own, owner_of}
use Rattle.actor_world.proofs.Slots.{own_in_range}
use Rattle.controller_actors.proofs.actor_commands.command_sends.Broadcasting.{range-more}
use Rattle.controller_actors.specs.Rows.{own_below, slot_rows}
use Rattle.controller_actors.specs.declared.actor_slots.actor_slot.ActorSlot.{ActorSlot}
use Rattle.controller_actors.specs.Bodies.{slot_at, vacant}

-- ---- how many slots are own

module _ (t : Wiring) (me : ℕ) where
  pub own_none : own_below t me 0 ≡ 0
  unfolding own_below
  own_none = refl

  -- one slot more
  pub own_more : (n : ℕ) → own_below t me (n + 1) ≡ own_below t me n + cond (is_own t me n) 1 0
  unfolding own_below
  own_more n = ap (count_by (is_own t me)) (range-more n) ∙ sum_by_push (λ s. cond (is_own t me s) 1 0) (range_with_len 0 n) n

  pub own_one : (n : ℕ) → is_own t me n ≡ true → own_below t me (n + 1) ≡ own_below t me n + 1
  own_one n own = own_more n ∙ ap (λ b. own_below t me n + cond b 1 0) own

  pub own_same : (n : ℕ) → is_own t me n ≡ false → own_below t me (n + 1) ≡ own_below t me n
  own_same n other = own_more n ∙ ap (λ b. own_below t me n + cond b 1 0) other ∙ omega arith

  own_next : (n : ℕ) → own_below t me (suc n) ≡ own_below t me n + cond (is_own t me n) 1 0
  own_next n = let e : suc n ≡ n + 1 = omega arith in ap (own_below t me) e ∙ own_more n

  at_most_one : (b : Bool) → cond b 1 0 ≤ 1
  at_most_one true = omega arith
  at_most_one false = omega arith

  -- no more than there are
  pub own_few : (n : ℕ) → own_below t me n ≤ n
  own_few zero = let none = own_none in omega (arith, none)
  own_few (suc n) =
      let next = own_next n in
      let before = own_few n in
      let one = at_most_one (is_own t me n) in
      omega (arith, next, before, one)

  -- an own slot counts for all behind it
  pub own_before : (s n : ℕ) → s < n → is_own t me s ≡ true → own_below t me s < own_below t me n
  own_before s zero less own = absurd (omega (arith, less))
  own_before s (suc n) less own = elim (cases_lt s n) [
    | inl l ↦
        let next = own_next n in
        let before = own_before s n l own in
        omega (arith, next, before)
    | inr past ↦
        let same : s ≡ n = omega (arith, less, past) in
        let next : own_below t me (suc n) ≡ own_below t me n + 1 = own_next n ∙ ap (λ b. own_below t me n + cond b 1 0) (subst (λ m. is_own t me m ≡ true) same own) in
        let here : own_below t me s ≡ own_below t me n = ap (own_below t me) same in
        omega (arith, next, here)
  ]

  -- own slots have rows of their own
  pub own_apart : (s n : ℕ) → is_own t me s ≡ true → is_own t me n ≡ true → n ≢ s → own_below t me n ≢ own_below t me s
  own_apart s n own also other same = elim (cases_lt s n) [
    | inl l ↦ let before = own_before s n l own in omega (arith, before, same)
    | inr past ↦
        let less : n < s = omega (arith, past, other) in
        let before = own_before n s less also in
        omega (arith, before, same)
  ]

  -- an own slot has a row
  pub own_within : (s : ℕ) → is_own t me s ≡ true → own_below t me s < own_below t me (length t.slots)
  own_within s own = own_before s (length t.slots) (own_in_range t me s own) own

  -- who owns an own slot
  pub owner_is : (s : ℕ) → is_own t me s ≡ true → owner_of t s ≡ me
  unfolding is_own owner_of
  owner_is s own = go (wiring_slot_at t s) own
    where
      go : (o : Option Slot) → option_map_or (λ (x : Slot). x.owner.0 == me) o false ≡ true → option_map_or (λ (x : Slot). x.owner.0) o 0 ≡ me
      go None h = absurd cc
      go (Some x) h = eqb-true x.owner.0 me h

-- the owners of the slots below are counted
module _ (t : Wiring) (n : ℕ) (x : Slot) (at : wiring_slot_at t n ≡ Some x) where
  pub owner_here : owner_of t n ≡ x.owner.0
  unfolding owner_of
  owner_here = ap (λ (o : Option Slot). option_map_or (λ (y : Slot). y.owner.0) o 0) at

  own_here : (k : ℕ) → is_own t k n ≡ (x.owner.0 == k)
  unfolding is_own
  own_here k = ap (λ (o : Option Slot). option_map_or (λ (y : Slot). y.owner.0 == k) o false) at

  own_counted : (k : ℕ) (b : Bool) → (x.owner.0 == k) ≡ b → own_below t k (n + 1) ≡ own_below t k n + cond b 1 0
  own_counted k b e = own_more t k n ∙ ap (λ c. own_below t k n + cond c 1 0) (own_here k ∙ e)

  -- what is read for the owner of the next slot
  pub count_read : (counts : List ℕ) (i row : ℕ) → i ≡ x.owner.0 → x.owner.0 < length counts → row ≡ get_or counts i row → row ≡ get_or counts x.owner.0 0
  count_read counts i row same known is = get_or_read counts i row (omega (arith, same, known)) is 0 ∙ ap (λ j. get_or counts j 0) same

  -- one more has its row
  pub rows_more : (rows : List ℕ) (row : ℕ) → rows ≡ map (λ s. own_below t (owner_of t s) s) (range_with_len 0 n) → row ≡ own_below t x.owner.0 n
      → rows ++ row ∷ [] ≡ map (λ s. own_below t (owner_of t s) s) (range_with_len 0 (n + 1))
  rows_more rows row before is =
      ap (λ ys. ys ++ row ∷ []) before
      ∙ ap (λ k. map (λ s. own_below t (owner_of t s) s) (range_with_len 0 n) ++ k ∷ []) (is ∙ ap (λ o. own_below t o n) (sym owner_here))
      ∙ sym (map-range_with_len_more (λ s. own_below t (owner_of t s) s) 0 n n (omega arith))

  -- one more is counted for the owner of the next slot
  pub counts_more : (counts : List ℕ) (controllers : ℕ) → length counts ≡ controllers → x.owner.0 < controllers
      → ((k : ℕ) → k < controllers → get_or counts k 0 ≡ own_below t k n)
      → (k : ℕ) → k < controllers → get_or (set counts x.owner.0 (get_or counts x.owner.0 0 + 1)) k 0 ≡ own_below t k (n + 1)
  counts_more counts controllers many known h k less = elim (cases_eq k x.owner.0) [
    | inl e ↦
        let within : x.owner.0 < length counts = omega (arith, many, known) in
        ap (λ i. get_or (set counts x.owner.0 (get_or counts x.owner.0 0 + 1)) i 0) e
        ∙ get_or-set_same counts x.owner.0 (get_or counts x.owner.0 0 + 1) 0 within
        ∙ ap (λ c. c + 1) (h x.owner.0 known)
        ∙ ap (λ i. own_below t i n + 1) (sym e)
        ∙ sym (own_counted k true (eq-eqb x.owner.0 k (sym e)))
    | inr other ↦
        get_or-set_other counts x.owner.0 k (get_or counts x.owner.0 0 + 1) 0 other
        ∙ h k less
        ∙ sym (add_zero (own_below t k n))
        ∙ sym (own_counted k false (ne_eqb x.owner.0 k (λ e. other (sym e))))
  ]
    where
      add_zero : (c : ℕ) → c + 0 ≡ c
      add_zero c = omega arith

-- the rows of all slots
module _ (t : Wiring) (rows : List ℕ) (are : rows ≡ slot_rows t) where
  pub rows_many : length rows ≡ length t.slots
  rows_many = ap length are ∙ length-map-range_with_len (λ s. own_below t (owner_of t s) s) 0 (length t.slots)

  pub row_is : (me s : ℕ) → is_own t me s ≡ true → slice_index rows s ≡ own_below t me s
  row_is me s own =
      ap (λ (ys : List ℕ). slice_index ys s) are
      ∙ get_or-map-range_with_len (λ n. own_below t (owner_of t n) n) 0 (length t.slots) s s 0 (own_in_range t me s own) (omega arith)
      ∙ ap (λ o. own_below t o s) (owner_is t me s own)

-- ---- what stands in the rows

-- an own slot has a row in a table
pub record HasRow (t : Wiring) (me : ℕ) (slots : List ActorSlot) (s : ℕ) : Type 0 where
  pub own : is_own t me s ≡ true
  pub within : own_below t me s < length slots

module _ (t : Wiring) (me : ℕ) where
  -- the table of a controller has one for each own slot
  pub has_row : (slots : List ActorSlot) (s : ℕ) → length slots ≡ own_below t me (length t.slots) → is_own t me s ≡ true → HasRow t me slots s
  has_row slots s count own =
      let within = own_within t me s own in
      record { own = own; within = omega (arith, within, count) }

  -- what stands in an own slot
  pub at_own : (slots : List ActorSlot) (s : ℕ) → is_own t me s ≡ true → slot_at t me slots s ≡ get_or slots (own_below t me s) vacant
  unfolding slot_at
  at_own slots s own = ap (λ b. cond b (get_or slots (own_below t me s) vacant) vacant) own

  -- in any other slot nobody stands
  pub at_other : (slots : List ActorSlot) (s : ℕ) → is_own t me s ≡ false → slot_at t me slots s ≡ vacant
  unfolding slot_at
  at_other slots s other = ap (λ b. cond b (get_or slots (own_below t me s) vacant) vacant) other

  -- where no row has anybody, nobody stands in any slot
  pub all_vacant : (n s : ℕ) → slot_at t me (replicate n vacant) s ≡ vacant
  all_vacant n s = go (is_own t me s) refl
    where
      row : (i : ℕ) → get_or (replicate n vacant) i vacant ≡ vacant
      row i = elim (cases_lt i n) [
        | inl l ↦ get_or-replicate n i vacant vacant l
        | inr l ↦ get_or_past (replicate n vacant) i vacant (let many = length-replicate n vacant in omega arith)
      ]

      go : (b : Bool) → is_own t me s ≡ b → slot_at t me (replicate n vacant) s ≡ vacant
      go true e = at_own (replicate n vacant) s e ∙ row (own_below t me s)
      go false e = at_other (replicate n vacant) s e

  -- a slot that is written
  pub set_same : (slots : List ActorSlot) (s : ℕ) (x : ActorSlot) → HasRow t me slots s → slot_at t me (set slots (own_below t me s) x) s ≡ x
  set_same slots s x h = at_own (set slots (own_below t me s) x) s h.own ∙ get_or-set_same slots (own_below t me s) x vacant h.within

  -- the others stay
  pub set_other : (slots : List ActorSlot) (s n : ℕ) (x : ActorSlot) → HasRow t me slots s → n ≢ s → slot_at t me (set slots (own_below t me s) x) n ≡ slot_at t me slots n
  set_other slots s n x h other = go (is_own t me n) refl
    where
      go : (b : Bool) → is_own t me n ≡ b → slot_at t me (set slots (own_below t me s) x) n ≡ slot_at t me slots n
      go true e =
          at_own (set slots (own_below t me s) x) n e
          ∙ get_or-set_other slots (own_below t me s) (own_below t me n) x vacant (own_apart t me s n h.own e other)
          ∙ sym (at_own slots n e)
      go false e = at_other (set slots (own_below t me s) x) n e ∙ sym (at_other slots n e)
