-- What lives from the start, slot by slot.
use Rattle.std.proofs.Common.{◌≡◌, ℕ, zero, suc, ◌+◌, ◌<◌, ◌≤◌, Bool, true, false, ◌&&◌, cond, List, [], ◌∷◌, ◌++◌, map, length, get_or, Option, Some, None, refl, sym, ap, ◌∙◌, arith, inl, inr}
use Rattle.std.proofs.Math.Path.{fun_ext}
use Rattle.std.specs.List.{range_with_len}
use Rattle.std.specs.Option.{option_map_or}
use Rattle.std.proofs.lemmas.Bool.{and_left, and_right, cases_lt}
use Rattle.std.proofs.lemmas.List.{get_or_past}
use Rattle.std.proofs.lemmas.List.FromFn.{get_or-map-range_with_len, length-map-range_with_len, map-range_with_len_more}
use Rattle.std.proofs.lemmas.Option.{slice_get_past}
use Rattle.room_wiring.specs.declared.tables.Tables.{Tables}
use Rattle.room_wiring.specs.declared.slot.Slot.{Slot}
use Rattle.room_wiring.specs.Places.{is_told}
use Rattle.actor_duties.specs.Words.{is_own, is_fixed, is_fixed_kind, container_of}
use Rattle.actor_world.specs.Start.{is_fixed_up, lives_from_start}
use Rattle.service_messages.specs.slot_runs.Runs.{IsDepthFirst}
use Rattle.frame_lives.specs.declared.row.Row.{Row}
use Rattle.frame_lives.specs.Known.{Known}
use Rattle.frame_lives.specs.Shown.{no_row, row_of, shown}
use Rattle.frame_service.specs.frame_start.First.{first_known, first_row}

and_true : (b : Bool) → b && true ≡ b
and_true true = refl
and_true false = refl

-- one container up of a slot 0 there is none
no_container : (t : Tables) → IsDepthFirst t → (f : ℕ → Bool) (s : ℕ) → s ≤ 0 → option_map_or f (container_of t s) true ≡ true
no_container t first f s l = go (container_of t s) refl
  where
    go : (o : Option ℕ) → container_of t s ≡ o → option_map_or f o true ≡ true
    go None e = refl
    go (Some c) e = let less : c < s = first.behind s c e in absurd (omega arith)

-- so many containers up as a slot's number are enough
up_enough : (t : Tables) → IsDepthFirst t → (n m s : ℕ) → s ≤ n → s ≤ m → is_fixed_up t n s ≡ is_fixed_up t m s
up_enough t first zero zero s a b = refl
up_enough t first zero (suc m) s a b = sym (ap (λ x. is_fixed t s && x) (no_container t first (λ c. is_fixed_up t m c) s a) ∙ and_true (is_fixed t s))
up_enough t first (suc n) zero s a b = ap (λ x. is_fixed t s && x) (no_container t first (λ c. is_fixed_up t n c) s b) ∙ and_true (is_fixed t s)
up_enough t first (suc n) (suc m) s a b = ap (λ x. is_fixed t s && x) (go (container_of t s) refl (λ c. up_enough t first n m c))
  where
    go : (o : Option ℕ) → container_of t s ≡ o → ((c : ℕ) → c ≤ n → c ≤ m → is_fixed_up t n c ≡ is_fixed_up t m c)
        → option_map_or (λ c. is_fixed_up t n c) o true ≡ option_map_or (λ c. is_fixed_up t m c) o true
    go None e ih = refl
    go (Some c) e ih = let less : c < s = first.behind s c e in ih c (omega arith) (omega arith)

start_step : (t : Tables) → IsDepthFirst t → (s : ℕ) → s < length t.slots
    → lives_from_start t s ≡ is_fixed t s && option_map_or (λ c. lives_from_start t c) (container_of t s) true
unfolding lives_from_start
start_step t first s l = up_enough t first (length t.slots) (suc (length t.slots)) s (omega arith) (omega arith)

not_fixed_up : (t : Tables) (n s : ℕ) → is_fixed t s ≡ false → is_fixed_up t n s ≡ false
not_fixed_up t zero s h = h
not_fixed_up t (suc n) s h = and_left (is_fixed t s) (option_map_or (λ c. is_fixed_up t n c) (container_of t s) true) h

-- what isn't fixed doesn't live from the start
pub not_fixed : (t : Tables) (s : ℕ) → is_fixed t s ≡ false → false ≡ lives_from_start t s
unfolding lives_from_start
not_fixed t s h = sym (not_fixed_up t (length t.slots) s h)

-- a fixed slot at the top lives from the start
pub at_top : (t : Tables) (s : ℕ) → IsDepthFirst t → s < length t.slots → is_fixed t s ≡ true → None ≡ container_of t s → true ≡ lives_from_start t s
at_top t s first l h e =
    sym (start_step t first s l ∙ ap (λ b. b && option_map_or (λ c. lives_from_start t c) (container_of t s) true) h
    ∙ ap (λ (o : Option ℕ). option_map_or (λ c. lives_from_start t c) o true) (sym e))

-- one in a container lives from the start where the container does
pub by_container : (t : Tables) (s c : ℕ) (starts : List Bool) → IsDepthFirst t → s < length t.slots → is_fixed t s ≡ true → Some c ≡ container_of t s
    → starts ≡ map (lives_from_start t) (range_with_len 0 s) → get_or starts c false ≡ lives_from_start t s
by_container t s c starts first l h e is =
    let less : c < s = first.behind s c (sym e) in
    let whole : lives_from_start t s ≡ lives_from_start t c =
    start_step t first s l ∙ ap (λ b. b && option_map_or (λ c. lives_from_start t c) (container_of t s) true) h
    ∙ ap (λ (o : Option ℕ). option_map_or (λ c. lives_from_start t c) o true) (sym e) in
    ap (λ (bs : List Bool). get_or bs c false) is ∙ get_or-map-range_with_len (lives_from_start t) 0 s c c false less (omega arith) ∙ sym whole

-- the container's place among those before
pub container_before : (t : Tables) (s c : ℕ) (starts : List Bool) → IsDepthFirst t → Some c ≡ container_of t s → starts ≡ map (lives_from_start t) (range_with_len 0 s) → c < length starts
container_before t s c starts first e is =
    let less : c < s = first.behind s c (sym e) in
    let many : length starts ≡ s = ap length is ∙ length-map-range_with_len (lives_from_start t) 0 s in omega arith

-- the row of a slot at the start
abbrev pub row_at : Tables → ℕ → ℕ → Row
row_at t me s = first_row t me s (lives_from_start t s)

-- one more item of a list by numbers
pub one_more : {A : Type 0} (f : ℕ → A) (xs : List A) (n : ℕ) → xs ≡ map f (range_with_len 0 n) → xs ++ f n ∷ [] ≡ map f (range_with_len 0 (n + 1))
one_more {A} f xs n is = ap (λ (ys : List A). ys ++ f n ∷ []) is ∙ sym (map-range_with_len_more f 0 n n (omega arith))

past_fixed : (t : Tables) (s : ℕ) → length t.slots ≤ s → is_fixed t s ≡ false
unfolding is_fixed
past_fixed t s l = ap (λ (o : Option Slot). option_map_or (λ (x : Slot). is_fixed_kind x.kind) o false) (slice_get_past t.slots s l)

row_past : (t : Tables) (me s : ℕ) → length t.slots ≤ s → no_row ≡ row_at t me s
row_past t me s l =
    let none : false ≡ lives_from_start t s = not_fixed t s (past_fixed t s l) in
    let own : is_own t me s && false ≡ false = and_right (is_own t me s) false refl in
    let told : is_told t s me && false ≡ false = and_right (is_told t s me) false refl in
    ap (λ b. record { generation = 0; lives = b; told = 0 }) (sym own)
    ∙ ap (λ b. record { generation = cond b 1 0; lives = is_own t me s && false; told = 0 }) (sym own)
    ∙ ap (λ b. record { generation = cond (is_own t me s && false) 1 0; lives = is_own t me s && false; told = cond b 1 0 }) (sym told)
    ∙ ap (first_row t me s) none

row_is : (t : Tables) (me s : ℕ) → row_of (map (row_at t me) (range_with_len 0 (length t.slots))) s ≡ row_at t me s
row_is t me s = elim (cases_lt s (length t.slots)) [
  | inl l ↦ get_or-map-range_with_len (row_at t me) 0 (length t.slots) s s no_row l (omega arith)
  | inr l ↦
      get_or_past (map (row_at t me) (range_with_len 0 (length t.slots))) s no_row (let many = length-map-range_with_len (row_at t me) 0 (length t.slots) in omega arith)
      ∙ row_past t me s l
]

same_known : {n m : ℕ} {g h told heard : ℕ → ℕ} {a b : ℕ → Bool} → n ≡ m → g ≡ h → a ≡ b → told ≡ heard
    → ◌≡◌ {A = Known} (record { slots = n; lives = record { generation = g; lives = a }; told = told }) (record { slots = m; lives = record { generation = h; lives = b }; told = heard })
same_known e f g h = cc

-- the rows of all slots say what is known at the start
pub all_started : (t : Tables) (me n : ℕ) (rows : List Row) → n ≡ length t.slots → rows ≡ map (row_at t me) (range_with_len 0 n) → shown rows ≡ first_known t me
unfolding shown
all_started t me n rows all is =
    ap shown (is ∙ ap (λ k. map (row_at t me) (range_with_len 0 k)) all)
    ∙ same_known
    (length-map-range_with_len (row_at t me) 0 (length t.slots))
    (fun_ext (λ s. ap (λ (r : Row). r.generation) (row_is t me s)))
    (fun_ext (λ s. ap (λ (r : Row). r.lives) (row_is t me s)))
    (fun_ext (λ s. ap (λ (r : Row). r.told) (row_is t me s)))

-- one more slot
pub starts_more : (t : Tables) (n : ℕ) (xs ys : List Bool) (b : Bool) → xs ≡ map (lives_from_start t) (range_with_len 0 n) → b ≡ lives_from_start t n → ys ≡ xs ++ b ∷ []
    → ys ≡ map (lives_from_start t) (range_with_len 0 (n + 1))
starts_more t n xs ys b is same more = more ∙ ap (λ c. xs ++ c ∷ []) same ∙ one_more (lives_from_start t) xs n is

pub rows_more : (t : Tables) (me n : ℕ) (xs ys : List Row) (r : Row) (b : Bool) → xs ≡ map (row_at t me) (range_with_len 0 n) → b ≡ lives_from_start t n → r ≡ first_row t me n b → ys ≡ xs ++ r ∷ []
    → ys ≡ map (row_at t me) (range_with_len 0 (n + 1))
rows_more t me n xs ys r b is same row more = more ∙ ap (λ x. xs ++ x ∷ []) (row ∙ ap (first_row t me n) same) ∙ one_more (row_at t me) xs n is
