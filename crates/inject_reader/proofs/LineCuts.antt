-- Texts, cut at their first line feed.
use Rattle.std.proofs.Common.{◌≡◌, ℕ, suc, ◌+◌, ◌-◌, ◌<◌, ◌≤◌, Bool, true, false, cond, List, [], ◌∷◌, length, take, drop, not, refl, sym, ap, ◌∙◌, arith}
use Rattle.std.specs.Prelude.{◌==◌}
use Rattle.std.specs.List.{slice_split, prefix_len, position_or_len, onto_first, before_first, after_first}
use Rattle.std.specs.Str.Lines.{lines, lines_of_parts, strip_carriage_return}
use Rattle.std.proofs.lemmas.Bool.Decides.{nat_tests}
use Rattle.std.proofs.lemmas.List.{take_all, drop-drop, length-drop}
use Rattle.std.proofs.lemmas.List.Splits.{slice_split-cons_no, slice_split_first, length-slice_split}

-- a part before a line feed, and the lines behind it
ended_part : (x : List ℕ) (parts : List (List ℕ)) → 0 < length parts → lines_of_parts (x ∷ parts) ≡ strip_carriage_return x ∷ lines_of_parts parts
ended_part x [] h = absurd (omega arith)
ended_part x (y ∷ more) h = refl

first_ended : (s : List ℕ) → position_or_len (λ b. b == 10) s < length s → lines s ≡ strip_carriage_return (before_first (λ b. b == 10) s) ∷ lines (after_first (λ b. b == 10) s)
first_ended s h =
    ap lines_of_parts (slice_split_first (λ b. b == 10) s 0 h)
    ∙ ended_part (before_first (λ b. b == 10) s) (slice_split (λ b. b == 10) (after_first (λ b. b == 10) s)) (omega (arith, length-slice_split (λ b. b == 10) (after_first (λ b. b == 10) s)))

-- a text that is one part
one_part : (p : ℕ → Bool) (s : List ℕ) → position_or_len p s ≡ length s → slice_split p s ≡ s ∷ []
one_part p [] e = refl
one_part p (b ∷ s) e = by_test (p b) refl e (λ k. one_part p s k)
  where
    by_test : (t : Bool) → p b ≡ t → cond (not t) (1 + position_or_len p s) 0 ≡ suc (length s) → (position_or_len p s ≡ length s → slice_split p s ≡ s ∷ []) → slice_split p (b ∷ s) ≡ (b ∷ s) ∷ []
    by_test true at f go = absurd (omega arith)
    by_test false at f go = slice_split-cons_no p b s at ∙ ap (onto_first b) (go (omega arith))

some_line : (s : List ℕ) → 0 < length s → lines_of_parts (s ∷ []) ≡ s ∷ []
some_line [] h = absurd (omega arith)
some_line (b ∷ s) h = let kept : (length (b ∷ s) == 0) ≡ false = grind (arith, nat_tests) in rw kept refl

empty_is : (s : List ℕ) → length s ≡ 0 → s ≡ []
empty_is [] e = refl
empty_is (b ∷ s) e = absurd (omega arith)

pub no_line : (s : List ℕ) → length s ≡ 0 → lines s ≡ []
no_line s e = ap lines (empty_is s e)

-- a line with its end; n bytes stand before it
pub ended_line : (s line rest behind : List ℕ) (n : ℕ) → n ≡ prefix_len (λ b. not (b == 10)) s → line ≡ take n s → rest ≡ drop n s → 1 ≤ length rest → behind ≡ take (length rest - 1) (drop 1 rest) → lines s ≡ strip_carriage_return line ∷ lines behind
ended_line s line rest behind n n_is line_is rest_is some behind_is =
    let inside : position_or_len (λ b. b == 10) s < length s = omega (arith, ap length rest_is, length-drop n s) in
    let tail : behind ≡ after_first (λ b. b == 10) s =
    behind_is ∙ take_all (length rest - 1) (drop 1 rest) (omega (arith, length-drop 1 rest)) ∙ ap (drop 1) rest_is ∙ drop-drop 1 n s ∙ ap (λ (k : ℕ). drop (k + 1) s) n_is in
    let front : line ≡ before_first (λ b. b == 10) s = line_is ∙ ap (λ (k : ℕ). take k s) n_is in
    first_ended s inside ∙ ap (λ (x : List ℕ). strip_carriage_return x ∷ lines (after_first (λ b. b == 10) s)) (sym front)
    ∙ ap (λ (x : List ℕ). strip_carriage_return line ∷ lines x) (sym tail)

-- the last line, which lacks its end
pub last_line : (s line rest : List ℕ) (n : ℕ) → 0 < length s → n ≤ length s → n ≡ prefix_len (λ b. not (b == 10)) s → line ≡ take n s → rest ≡ drop n s → length rest < 1 → lines s ≡ line ∷ lines rest
last_line s line rest n some within n_is line_is rest_is none =
    let whole : n ≡ length s = omega (arith, ap length rest_is, length-drop n s) in
    let same : line ≡ s = line_is ∙ take_all n s (omega arith) in
    let one : lines s ≡ s ∷ [] = ap lines_of_parts (one_part (λ b. b == 10) s (sym n_is ∙ whole)) ∙ some_line s some in
    one ∙ ap (λ (x : List ℕ). x ∷ []) (sym same) ∙ ap (λ (ls : List (List ℕ)). line ∷ ls) (sym (no_line rest (omega arith)))
