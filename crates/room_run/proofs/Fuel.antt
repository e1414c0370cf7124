-- Words name a fuel from 1 to 100,000.
use Rattle.std.proofs.Common.{◌≡◌, ℕ, ◌+◌, ◌-◌, ◌*◌, ◌≤◌, Bool, true, false, cond, List, [], ◌∷◌, length, refl, subst, Option, Some, None, option_map, arith, nat_lt, nat_le, codes}
use Rattle.std.specs.Prelude.{◌&&◌, ◌==◌}
use Rattle.std.specs.List.{list_all}
use Rattle.std.specs.Char.{is_ascii_digit}
use Rattle.std.proofs.lemmas.Bool.{and_parts}
use Rattle.std.proofs.lemmas.Bool.Decides.{nat_tests}
use Rattle.text_reading.specs.Numerals.{are_digits, value_from, value_of, digits_in, plain_in}
use Rattle.room_run.specs.Words.{Files, Judged, Asked, Check, Tree, Run, Verify, Show, Made, is_word, fuel_of, actors_of, run_asked, convert_asked, verify_asked, show_asked, stamp_of, usual_fuel, asked_by}

-- a number from 1 to 100,000
abbrev IsFuel : ℕ → Type 0
IsFuel fuel = (1 ≤ fuel) × (fuel ≤ 100000)

-- ---- a word

grows : (n : ℕ) (bs : List ℕ) → n ≤ value_from n bs
grows n [] = omega arith
grows n (b ∷ bs) =
    let rest : 10 * n + (b - 48) ≤ value_from (10 * n + (b - 48)) bs = grows (10 * n + (b - 48)) bs in omega (arith, rest)

chosen : {A : Type 0} (t : Bool) (x y : A) → cond t (Some x) None ≡ Some y → (t ≡ true) × (x ≡ y)
chosen true x y h = (refl, cc)
chosen false x y h = absurd cc

plain_number : (most b n : ℕ) (bs : List ℕ) → (b == 48) ≡ false → digits_in most (b ∷ bs) ≡ Some n → (1 ≤ n) × (n ≤ most)
unfolding value_of
plain_number most b n bs other h =
    let test = chosen (are_digits (b ∷ bs) && nat_le (value_of (b ∷ bs)) most) (value_of (b ∷ bs)) n h in
    let parts = and_parts (are_digits (b ∷ bs)) (nat_le (value_of (b ∷ bs)) most) test.0 in
    let digits = and_parts (nat_lt 0 (length (b ∷ bs))) (list_all is_ascii_digit (b ∷ bs)) parts.0 in
    let first = and_parts (is_ascii_digit b) (list_all is_ascii_digit bs) digits.1 in
    let large : 10 * 0 + (b - 48) ≤ value_from (10 * 0 + (b - 48)) bs = grows (10 * 0 + (b - 48)) bs in
    let is : value_from (10 * 0 + (b - 48)) bs ≡ n = test.1 in
    let small : nat_le n most ≡ true = subst (λ (z : ℕ). nat_le z most ≡ true) test.1 parts.1 in
    let digit : is_ascii_digit b ≡ true = first.0 in
    let from_one : 1 ≤ b - 48 = grind (arith, nat_tests) in
    (omega (arith, large, is, from_one), grind (arith, nat_tests))

number_named : (most n : ℕ) (word : List ℕ) → plain_in most word ≡ Some n → (1 ≤ n) × (n ≤ most)
unfolding plain_in
number_named most n [] h = absurd cc
number_named most n (b ∷ bs) h = by_test (b == 48) refl h
  where
    by_test : (t : Bool) → (b == 48) ≡ t → cond t None (digits_in most (b ∷ bs)) ≡ Some n → (1 ≤ n) × (n ≤ most)
    by_test true e h = absurd cc
    by_test false e h = plain_number most b n bs e h

-- ---- the words of a run

runs_with : (f g : Files) (m n : ℕ) → Some (Run f m) ≡ Some (Run g n) → m ≡ n
runs_with f g m n e = cc

no_run : (word : List ℕ) (o : Option ℕ) (f : Files) (n : ℕ) (checks trees makes : Bool)
    → cond checks (Some (Check word)) (cond trees (Some (Tree word)) (cond makes (option_map Made o) None)) ≡ Some (Run f n) → IsFuel n
no_run word o f n true _ _ e = absurd cc
no_run word o f n false true made e = absurd cc
no_run word None f n false false true e = absurd cc
no_run word (Some k) f n false false true e = absurd cc
no_run word o f n false false false e = absurd cc

usual_run : (model second : List ℕ) (f : Files) (n : ℕ) (run convert : Bool)
    → cond run (Some (run_asked model second usual_fuel)) (cond convert (Some (convert_asked model second)) None) ≡ Some (Run f n) → IsFuel n
usual_run model second f n true convert e =
    let is : usual_fuel ≡ n = runs_with _ f usual_fuel n e in subst IsFuel is (omega arith, omega arith)
usual_run model second f n false true e = absurd cc
usual_run model second f n false false e = absurd cc

run_with : (model second : List ℕ) (o : Option ℕ) (f : Files) (n : ℕ) (run : Bool) → ((k : ℕ) → o ≡ Some k → IsFuel k)
    → cond run (option_map (run_asked model second) o) None ≡ Some (Run f n) → IsFuel n
run_with model second None f n true named e = absurd cc
run_with model second (Some k) f n true named e = subst IsFuel (runs_with _ f k n e) (named k refl)
run_with model second o f n false named e = absurd cc

-- who asks for a verdict, or for the system at a stamp, asks for no run
judges_none : (judged : Option Asked) (f : Files) (n : ℕ) (verify : Bool) → (judged ≡ Some (Run f n) → ⊥) → cond verify judged None ≡ Some (Run f n) → IsFuel n
judges_none judged f n true other e = absurd (other e)
judges_none judged f n false other e = absurd cc

judges_with : (model injections journals : List ℕ) (o p : Option ℕ) (f : Files) (n : ℕ) (verify show : Bool)
    → cond verify (option_map (verify_asked model injections journals) o) (cond show (option_map (show_asked model injections journals) p) None) ≡ Some (Run f n)
    → IsFuel n
judges_with model injections journals None p f n true show e = absurd cc
judges_with model injections journals (Some k) p f n true show e = absurd cc
judges_with model injections journals o None f n false true e = absurd cc
judges_with model injections journals o (Some k) f n false true e = absurd cc
judges_with model injections journals o p f n false false e = absurd cc

pub fuel_asked : (words : List (List ℕ)) (f : Files) (n : ℕ) → asked_by words ≡ Some (Run f n) → IsFuel n
fuel_asked [] f n e = absurd cc
fuel_asked (a ∷ []) f n e = absurd cc
fuel_asked (a ∷ b ∷ []) f n e = no_run b (actors_of b) f n (is_word a (codes "check")) (is_word a (codes "tree")) (is_word a (codes "made")) e
fuel_asked (a ∷ b ∷ c ∷ []) f n e = usual_run b c f n (is_word a (codes "run")) (is_word a (codes "convert")) e
fuel_asked (a ∷ b ∷ c ∷ d ∷ []) f n e = judges_none (Some (verify_asked b c d usual_fuel)) f n (is_word a (codes "verify")) (λ h. cc) e
fuel_asked (a ∷ b ∷ c ∷ d ∷ x ∷ []) f n e =
    run_with b c (fuel_of x) f n (is_word a (codes "run") && is_word d (codes "--fuel")) (λ k h. number_named 100000 k x h) e
fuel_asked (a ∷ b ∷ c ∷ d ∷ x ∷ y ∷ []) f n e =
    judges_with b c d (fuel_of y) (stamp_of y) f n (is_word a (codes "verify") && is_word x (codes "--fuel"))
    (is_word a (codes "show") && is_word x (codes "--at")) e
fuel_asked (a ∷ b ∷ c ∷ d ∷ x ∷ y ∷ z ∷ more) f n e = absurd cc
