-- What is left in a world stands in order: by receiver, what is pending before what is in lanes, by priority and
-- by sender.
use Rattle.std.proofs.Common.{◌≡◌, ℕ, zero, suc, ◌+◌, ◌*◌, ◌<◌, ◌≤◌, nat_lt, Bool, true, false, if◌then◌else◌, List, [], ◌∷◌, ◌++◌, map, length, slice_index_or, refl, sym, ap, ◌∙◌, subst, lt-ltb, le-ltb, arith}
use Rattle.std.specs.List.{AllByRecursion as Each, flat_map, range_with_len}
use Rattle.std.specs.List.Sorted.{IsNonDecreasing}
use Rattle.room_kinds.specs.declared.message.Msg.{Msg}
use Rattle.room_wiring.specs.declared.tables.Tables.{Tables}
use Rattle.journal.specs.declared.entry.Left.{Left}
use Rattle.journal.specs.Fits.{sender_rank, left_rank}
use Rattle.actor_merge.specs.Mail.{lane}
use Rattle.actor_merge.specs.Parties.{Plant}
use Rattle.actor_merge.specs.World.{World}
use Rattle.actor_world.specs.Journals.{priorities, left, left_for, left_of}

-- ---- numbers that don't fall

abbrev RiseFrom : ℕ → List ℕ → Type 0
RiseFrom low [] = Unit {0}
RiseFrom low (x ∷ xs) = (low ≤ x) × RiseFrom x xs

none_below : (low : ℕ) (xs : List ℕ) → RiseFrom low xs → (i d : ℕ) → i < length xs → low ≤ slice_index_or xs i d
none_below low [] h i d b = absurd (omega (arith, b))
none_below low (x ∷ xs) h zero d b = h.0
none_below low (x ∷ xs) h (suc i) d b =
    let first : low ≤ x = h.0 in
    let later : x ≤ slice_index_or xs i d = none_below x xs h.1 i d (omega (arith, b)) in
    omega (arith, first, later)

rising_order : (low : ℕ) (xs : List ℕ) → RiseFrom low xs → IsNonDecreasing xs
rising_order low [] h i j d le b = absurd (omega arith)
rising_order low (x ∷ xs) h zero zero d le b = omega arith
rising_order low (x ∷ xs) h zero (suc j) d le b = none_below x xs h.1 j d (omega arith)
rising_order low (x ∷ xs) h (suc i) zero d le b = absurd (omega arith)
rising_order low (x ∷ xs) h (suc i) (suc j) d le b = rising_order x xs h.1 i j d (omega arith) (omega arith)

-- ---- lists that climb from one rank to another

module _ {X : Type 0} (rank : X → ℕ) where
  abbrev pub Climbs : ℕ → ℕ → List X → Type 0
  Climbs low high [] = low ≤ high
  Climbs low high (x ∷ xs) = (low ≤ rank x) × Climbs (rank x) high xs

  lower : (a b c : ℕ) (xs : List X) → a ≤ b → Climbs b c xs → Climbs a c xs
  lower a b c [] l h = let k : b ≤ c = h in omega (arith, l, k)
  lower a b c (x ∷ xs) l h = let k : b ≤ rank x = h.0 in (omega (arith, l, k), h.1)

  pub climbs_both : (a b c : ℕ) (xs ys : List X) → Climbs a b xs → Climbs b c ys → Climbs a c (xs ++ ys)
  climbs_both a b c [] ys h k = lower a b c ys h k
  climbs_both a b c (x ∷ xs) ys h k = (h.0, climbs_both (rank x) b c xs ys h.1 k)

  pub climbs_level : (a r b : ℕ) (xs : List X) → Each (λ x. rank x ≡ r) xs → a ≤ r → r ≤ b → Climbs a b xs
  climbs_level a r b [] e l k = omega (arith, l, k)
  climbs_level a r b (x ∷ xs) e l k =
      let is : rank x ≡ r = e.0 in
      (omega (arith, l, is), climbs_level (rank x) r b xs e.1 (omega (arith, is)) k)

  pub climbs_flat : (f : ℕ → List X) (b : ℕ → ℕ) (at k : ℕ) → ((i : ℕ) → at ≤ i → i < at + k → Climbs (b i) (b (i + 1)) (f i))
      → Climbs (b at) (b (at + k)) (flat_map f (range_with_len at k))
  climbs_flat f b at zero h = subst (λ z. b at ≤ b z) (let e : at ≡ at + zero = omega arith in e) (omega arith)
  climbs_flat f b at (suc k) h =
      let rest : Climbs (b (at + 1)) (b ((at + 1) + k)) (flat_map f (range_with_len (at + 1) k)) =
      climbs_flat f b (at + 1) k (λ i low high. h i (omega (arith, low)) (omega (arith, high))) in
      climbs_both (b at) (b (at + 1)) (b (at + suc k)) (f at) (flat_map f (range_with_len (at + 1) k)) (h at (omega arith) (omega arith))
      (subst (λ z. Climbs (b (at + 1)) (b z) (flat_map f (range_with_len (at + 1) k))) (let e : (at + 1) + k ≡ at + suc k = omega arith in e) rest)

  rise_of : (low high : ℕ) (xs : List X) → Climbs low high xs → RiseFrom low (map rank xs)
  rise_of low high [] h = tt
  rise_of low high (x ∷ xs) h = (h.0, rise_of (rank x) high xs h.1)

  pub climbs_order : (low high : ℕ) (xs : List X) → Climbs low high xs → IsNonDecreasing (map rank xs)
  climbs_order low high xs h = rising_order low (map rank xs) (rise_of low high xs h)

each_mapped : {X Y : Type 0} (P : X → Type 0) (Q : Y → Type 0) (f : X → Y) → ((x : X) → P x → Q (f x)) → (xs : List X) → Each P xs → Each Q (map f xs)
each_mapped P Q f h [] e = tt
each_mapped P Q f h (x ∷ xs) e = (h x e.0, each_mapped P Q f h xs e.1)

-- one more time
times_next : (k p : ℕ) → k * (p + 1) ≡ k * p + k
times_next k p = omega arith

-- ---- what is left

module _ {B : Type 0} (t : Tables) (plant : Plant B) (many : plant.controllers ≡ length t.controllers) (w : World B) where
  abbrev n : ℕ
  n = length t.controllers

  abbrev lists : ℕ
  lists = 6 * (1 + length t.controllers)

  abbrev base : ℕ → ℕ
  base c = 2 * (6 * (1 + length t.controllers)) * c

  module _ (pending : (c p : ℕ) → c < length t.controllers → Each (λ (m : Msg). m.prio.0 ≡ p) ((w.controllers c).pending p))
      (lanes : (s c p : ℕ) → Each (λ (m : Msg). (m.from.0 ≡ s) × (m.prio.0 ≡ p)) (w.lanes (lane s c p))) (c : ℕ) (below : c < length t.controllers) where
    waiting : (p : ℕ) → Climbs (left_rank t) (base c + (1 + length t.controllers) * p) (base c + (1 + length t.controllers) * (p + 1))
        (map (left c true) ((w.controllers c).pending p))
    waiting p =
        climbs_level (left_rank t) (base c + (1 + length t.controllers) * p) (base c + (1 + length t.controllers) * p + 0) (base c + (1 + length t.controllers) * (p + 1))
        (map (left c true) ((w.controllers c).pending p))
        (each_mapped (λ (m : Msg). m.prio.0 ≡ p) (λ (l : Left). left_rank t l ≡ base c + (1 + length t.controllers) * p + 0) (left c true)
        (λ m e. ap (λ (q : ℕ). base c + (1 + length t.controllers) * q + 0) e) ((w.controllers c).pending p) (pending c p below))
        (omega arith) (let z = times_next (1 + length t.controllers) p in omega (arith, z))

    abbrev level : ℕ → ℕ → ℕ
    level p r = base c + (1 + length t.controllers) * p + (lists + r)

    sent_by : (p s r : ℕ) → sender_rank t s ≡ r → Climbs (left_rank t) (level p r) (level p (r + 1)) (map (left c false) (w.lanes (lane s c p)))
    sent_by p s r is =
        climbs_level (left_rank t) (level p r) (level p r) (level p (r + 1)) (map (left c false) (w.lanes (lane s c p)))
        (each_mapped (λ (m : Msg). (m.from.0 ≡ s) × (m.prio.0 ≡ p)) (λ (l : Left). left_rank t l ≡ level p r) (left c false)
        (λ m e. ap (λ (q : ℕ). base c + (1 + length t.controllers) * q + (lists + sender_rank t m.from.0)) e.1
        ∙ ap (λ (q : ℕ). base c + (1 + length t.controllers) * p + (lists + sender_rank t q)) e.0 ∙ ap (level p) is)
        (w.lanes (lane s c p)) (lanes s c p))
        (omega arith) (omega arith)

    outside_first : sender_rank t (length t.controllers) ≡ 0
    outside_first = ap (λ (b : Bool). if b then 1 + length t.controllers else 0) (le-ltb (length t.controllers) (length t.controllers) (omega arith))

    controllers_then : (s : ℕ) → s < length t.controllers → sender_rank t s ≡ s + 1
    controllers_then s b =
        let swapped : 1 + s ≡ s + 1 = omega arith in ap (λ (z : Bool). if z then 1 + s else 0) (lt-ltb s (length t.controllers) b) ∙ swapped

    abbrev from_sender : ℕ → ℕ → List Left
    from_sender p s = map (left c false) (w.lanes (lane s c p))

    travelling : (p : ℕ) → Climbs (left_rank t) (level p 0) (level (p + 1) 0) (flat_map (from_sender p) (length t.controllers ∷ range_with_len 0 (length t.controllers)))
    travelling p =
        climbs_both (left_rank t) (level p 0) (level p 1) (level (p + 1) 0) (from_sender p (length t.controllers)) (flat_map (from_sender p) (range_with_len 0 (length t.controllers)))
        (sent_by p (length t.controllers) 0 outside_first)
        (subst (λ (z : ℕ). Climbs (left_rank t) (level p 1) z (flat_map (from_sender p) (range_with_len 0 (length t.controllers)))) ends
        (climbs_flat (left_rank t) (from_sender p) (λ (s : ℕ). level p (s + 1)) 0 (length t.controllers)
        (λ s low high. sent_by p s (s + 1) (controllers_then s (omega (arith, high))))))
      where
        ends : level p ((0 + length t.controllers) + 1) ≡ level (p + 1) 0
        ends = let z = times_next (1 + length t.controllers) p in omega (arith, z)

    abbrev all_waiting : List Left
    all_waiting = flat_map (λ p. map (left c true) ((w.controllers c).pending p)) priorities

    abbrev all_travelling : ℕ → List Left
    all_travelling k = flat_map (λ p. flat_map (λ s. map (left c false) (w.lanes (lane s c p))) (k ∷ range_with_len 0 k)) priorities

    waits : Climbs (left_rank t) (base c) (base c + lists) all_waiting
    waits =
        let low : base c + (1 + length t.controllers) * 0 ≡ base c = omega arith in
        let high : base c + (1 + length t.controllers) * (0 + 6) ≡ base c + lists = omega arith in
        subst (λ (a : ℕ). Climbs (left_rank t) a (base c + lists) all_waiting) low
        (subst (λ (a : ℕ). Climbs (left_rank t) (base c + (1 + length t.controllers) * 0) a all_waiting) high
        (climbs_flat (left_rank t) (λ p. map (left c true) ((w.controllers c).pending p)) (λ (p : ℕ). base c + (1 + length t.controllers) * p) 0 6 (λ p a b. waiting p)))

    travels : Climbs (left_rank t) (base c + lists) (base (c + 1)) (all_travelling (length t.controllers))
    travels =
        let more = times_next (2 * (6 * (1 + length t.controllers))) c in
        let low : level 0 0 ≡ base c + lists = omega arith in
        let high : level (0 + 6) 0 ≡ base (c + 1) = omega (arith, more) in
        subst (λ (a : ℕ). Climbs (left_rank t) a (base (c + 1)) (all_travelling (length t.controllers))) low
        (subst (λ (a : ℕ). Climbs (left_rank t) (level 0 0) a (all_travelling (length t.controllers))) high
        (climbs_flat (left_rank t) (λ p. flat_map (from_sender p) (length t.controllers ∷ range_with_len 0 (length t.controllers))) (λ (p : ℕ). level p 0) 0 6 (λ p a b. travelling p)))

    for_one : Climbs (left_rank t) (base c) (base (c + 1)) (left_for plant w c)
    for_one =
        subst (λ (k : ℕ). Climbs (left_rank t) (base c) (base (c + 1)) (all_waiting ++ all_travelling k)) (sym many)
        (climbs_both (left_rank t) (base c) (base c + lists) (base (c + 1)) all_waiting (all_travelling (length t.controllers)) waits travels)

  pub left_climbs : ((c p : ℕ) → c < length t.controllers → Each (λ (m : Msg). m.prio.0 ≡ p) ((w.controllers c).pending p))
      → ((s c p : ℕ) → Each (λ (m : Msg). (m.from.0 ≡ s) × (m.prio.0 ≡ p)) (w.lanes (lane s c p)))
      → IsNonDecreasing (map (left_rank t) (left_of plant w))
  left_climbs pending lanes =
      climbs_order (left_rank t) (base 0) (base (0 + plant.controllers)) (left_of plant w)
      (climbs_flat (left_rank t) (left_for plant w) base 0 plant.controllers (λ c low high. for_one pending lanes c (subst (λ (k : ℕ). c < k) many (omega (arith, high)))))
