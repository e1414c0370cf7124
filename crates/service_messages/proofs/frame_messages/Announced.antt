-- An Announce to one controller after another.
use Rattle.std.proofs.Common.{◌≡◌, ℕ, zero, suc, ◌+◌, Bool, true, false, cond, List, [], ◌∷◌, ◌++◌, map, filter, length, ℤ, refl, sym, ap, ◌∙◌, append_assoc, arith}
use Rattle.std.specs.List.{range_with_len}
use Rattle.std.proofs.lemmas.List.{map-append}
use Rattle.std.proofs.lemmas.List.Elements.{filter-append}
use Rattle.room_kinds.specs.declared.message.Msg.{Msg}
use Rattle.room_kinds.specs.declared.numbers.Incarnation.{Incarnation}
use Rattle.room_wiring.specs.declared.tables.Tables.{Tables}
use Rattle.room_wiring.specs.Places.{is_told}
use Rattle.actor_duties.specs.Lives.{announce_to, announces, told_controllers}

-- the messages to those of the first n controllers that are told
abbrev pub announced_to : Tables → ℕ → Incarnation → ℤ → ℕ → List Msg
announced_to t me x up n = map (announce_to me x up) (filter (is_told t x.slot.0) (range_with_len 0 n))

pub range_more : (a n : ℕ) → range_with_len a (suc n) ≡ range_with_len a n ++ (a + n) ∷ []
range_more a zero = let e : a + 0 ≡ a = omega arith in rw e refl
range_more a (suc n) =
    let e : a + 1 + n ≡ a + suc n = omega arith in
    ap (λ (xs : List ℕ). a ∷ xs) (range_more (a + 1) n ∙ ap (λ k. range_with_len (a + 1) n ++ k ∷ []) e)

one_more : (t : Tables) (me : ℕ) (x : Incarnation) (up : ℤ) (n : ℕ)
    → announced_to t me x up (n + 1) ≡ announced_to t me x up n ++ map (announce_to me x up) (cond (is_told t x.slot.0 n) (n ∷ []) [])
one_more t me x up n =
    let e : n + 1 ≡ suc n = omega arith in
    let z : 0 + n ≡ n = omega arith in
    rw e
    (ap (λ (ns : List ℕ). map (announce_to me x up) (filter (is_told t x.slot.0) ns)) (range_more 0 n ∙ ap (λ k. range_with_len 0 n ++ k ∷ []) z)
    ∙ ap (map (announce_to me x up)) (filter-append (is_told t x.slot.0) (range_with_len 0 n) (n ∷ []))
    ∙ map-append (announce_to me x up) (filter (is_told t x.slot.0) (range_with_len 0 n)) (cond (is_told t x.slot.0 n) (n ∷ []) []))

pub append_nothing : (ms : List Msg) → ms ++ [] ≡ ms
append_nothing [] = refl
append_nothing (m ∷ ms) = ap (λ (more : List Msg). m ∷ more) (append_nothing ms)

-- the next controller is told
pub one_told : (t : Tables) (me : ℕ) (x : Incarnation) (up : ℤ) (n : ℕ) → is_told t x.slot.0 n ≡ true
    → announced_to t me x up (n + 1) ≡ announced_to t me x up n ++ announce_to me x up n ∷ []
one_told t me x up n h = one_more t me x up n ∙ ap (λ b. announced_to t me x up n ++ map (announce_to me x up) (cond b (n ∷ []) [])) h

-- the next controller isn't told
pub one_passed : (t : Tables) (me : ℕ) (x : Incarnation) (up : ℤ) (n : ℕ) → is_told t x.slot.0 n ≡ false → announced_to t me x up (n + 1) ≡ announced_to t me x up n
one_passed t me x up n h =
    one_more t me x up n ∙ ap (λ b. announced_to t me x up n ++ map (announce_to me x up) (cond b (n ∷ []) [])) h ∙ append_nothing (announced_to t me x up n)

-- all controllers
pub all_announced : (t : Tables) (me : ℕ) (x : Incarnation) (up : ℤ) (n : ℕ) → n ≡ length t.controllers → announces t me x up ≡ announced_to t me x up n
unfolding announces told_controllers
all_announced t me x up n h = ap (announced_to t me x up) (sym h)

pub told_on : (t : Tables) (me : ℕ) (x : Incarnation) (up : ℤ) (before out after : List Msg) (n : ℕ)
    → out ≡ before ++ announced_to t me x up n → after ≡ out ++ announce_to me x up n ∷ [] → is_told t x.slot.0 n ≡ true → after ≡ before ++ announced_to t me x up (n + 1)
told_on t me x up before out after n so_far is h =
    is ∙ ap (λ (ms : List Msg). ms ++ announce_to me x up n ∷ []) so_far ∙ append_assoc before (announced_to t me x up n) (announce_to me x up n ∷ [])
    ∙ ap (λ (ms : List Msg). before ++ ms) (sym (one_told t me x up n h))

pub passed_on : (t : Tables) (me : ℕ) (x : Incarnation) (up : ℤ) (before out : List Msg) (n : ℕ)
    → out ≡ before ++ announced_to t me x up n → is_told t x.slot.0 n ≡ false → out ≡ before ++ announced_to t me x up (n + 1)
passed_on t me x up before out n so_far h = so_far ∙ ap (λ (ms : List Msg). before ++ ms) (sym (one_passed t me x up n h))
