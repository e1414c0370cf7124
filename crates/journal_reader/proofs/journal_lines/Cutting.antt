-- Texts, cut at a byte.
use Rattle.std.proofs.Common.{inl, inr, ◌≡◌, ℕ, Bool, true, false, cond, Option, Some, None, List, [], ◌∷◌, ◌++◌, not, refl, sym, ap, ◌∙◌, arith, subst}
use Rattle.std.specs.Prelude.{◌==◌, ◌&&◌, ◌⊎◌, fold, unwrap_or}
use Rattle.std.specs.List.{slice_split}
use Rattle.std.proofs.lemmas.Bool.{not-true, and_parts}
use Rattle.std.proofs.lemmas.Bool.Decides.{nat_tests}
use Rattle.text_reading.specs.Cuts.{cut_at}
use Rattle.room_wiring.specs.declared.tables.Tables.{Tables}
use Rattle.journal_reader.specs.declared.journal_lines.draft.Draft.{Draft}
use Rattle.journal_reader.specs.journal_lines.Numerals.{upto, past}
use Rattle.journal_reader.specs.journal_lines.Reading.{worded, taking, reading}

-- no byte is c
abbrev pub lacks : ℕ → List ℕ → Bool
lacks c [] = true
lacks c (b ∷ bs) = not (b == c) && lacks c bs

pub same_byte : (c : ℕ) → (c == c) ≡ true
same_byte c = grind (arith, nat_tests)

cut_here : (c : ℕ) (r : List ℕ) → cut_at c (c ∷ r) ≡ ([], Some r)
cut_here c r = ap (λ (t : Bool). cond {A = List ℕ × Option (List ℕ)} t ([], Some r) (c ∷ (cut_at c r).0, (cut_at c r).1)) (same_byte c)

cut_later : (c b : ℕ) (bs : List ℕ) → (b == c) ≡ false → cut_at c (b ∷ bs) ≡ (b ∷ (cut_at c bs).0, (cut_at c bs).1)
cut_later c b bs other = ap (λ (t : Bool). cond {A = List ℕ × Option (List ℕ)} t ([], Some bs) (b ∷ (cut_at c bs).0, (cut_at c bs).1)) other

cut_front : (c : ℕ) (w r : List ℕ) → lacks c w ≡ true → cut_at c (w ++ c ∷ r) ≡ (w, Some r)
cut_front c [] r h = cut_here c r
cut_front c (b ∷ bs) r h =
    let parts = and_parts (not (b == c)) (lacks c bs) h in
    cut_later c b (bs ++ c ∷ r) (not-true (b == c) parts.0) ∙ ap (λ (p : List ℕ × Option (List ℕ)). (b ∷ p.0, p.1)) (cut_front c bs r parts.1)

cut_none : (c : ℕ) (w : List ℕ) → lacks c w ≡ true → cut_at c w ≡ (w, None)
cut_none c [] h = refl
cut_none c (b ∷ bs) h =
    let parts = and_parts (not (b == c)) (lacks c bs) h in
    cut_later c b bs (not-true (b == c) parts.0) ∙ ap (λ (p : List ℕ × Option (List ℕ)). (b ∷ p.0, p.1)) (cut_none c bs parts.1)

pub upto_at : (c : ℕ) (w r : List ℕ) → lacks c w ≡ true → upto c (w ++ c ∷ r) ≡ w
upto_at c w r h = ap (λ (p : List ℕ × Option (List ℕ)). p.0) (cut_front c w r h)

pub past_at : (c : ℕ) (w r : List ℕ) → lacks c w ≡ true → past c (w ++ c ∷ r) ≡ r
past_at c w r h = ap (λ (p : List ℕ × Option (List ℕ)). unwrap_or p.1 []) (cut_front c w r h)

pub upto_all : (c : ℕ) (w : List ℕ) → lacks c w ≡ true → upto c w ≡ w
upto_all c w h = ap (λ (p : List ℕ × Option (List ℕ)). p.0) (cut_none c w h)

pub past_all : (c : ℕ) (w : List ℕ) → lacks c w ≡ true → past c w ≡ []
past_all c w h = ap (λ (p : List ℕ × Option (List ℕ)). unwrap_or p.1 []) (cut_none c w h)

pub split_at : (c : ℕ) (w r : List ℕ) → lacks c w ≡ true → slice_split (λ b. b == c) (w ++ c ∷ r) ≡ w ∷ slice_split (λ b. b == c) r
split_at c [] r h = rw (same_byte c) refl
split_at c (b ∷ bs) r h =
    let parts = and_parts (not (b == c)) (lacks c bs) h in
    let other : (b == c) ≡ false = not-true (b == c) parts.0 in
    rw (other, split_at c bs r parts.1) refl

pub split_none : (c : ℕ) (w : List ℕ) → lacks c w ≡ true → slice_split (λ b. b == c) w ≡ w ∷ []
split_none c [] h = refl
split_none c (b ∷ bs) h =
    let parts = and_parts (not (b == c)) (lacks c bs) h in
    let other : (b == c) ≡ false = not-true (b == c) parts.0 in
    rw (other, split_none c bs parts.1) refl

-- a text that has the byte c, cut at the first one
pub record CutAt (c : ℕ) (s : List ℕ) : Type 0 where
  pub front : List ℕ
  pub back : List ℕ
  pub free : lacks c front ≡ true
  pub whole : s ≡ front ++ c ∷ back

more_front : (c b : ℕ) (bs : List ℕ) → (b == c) ≡ false → CutAt c bs → CutAt c (b ∷ bs)
more_front c b bs other h = record {
  front = b ∷ h.front;
  back = h.back;
  free = rw other h.free;
  whole = ap (λ (xs : List ℕ). b ∷ xs) h.whole;
}

more_free : (c b : ℕ) (bs : List ℕ) → (b == c) ≡ false → lacks c bs ≡ true → lacks c (b ∷ bs) ≡ true
more_free c b bs other h = rw other h

pub cut_cases : (c : ℕ) (s : List ℕ) → (lacks c s ≡ true) ⊎ CutAt c s
cut_cases c [] = inl refl
cut_cases c (b ∷ bs) = by_test c b bs (b == c) refl (cut_cases c bs)
  where
    by_test : (c b : ℕ) (bs : List ℕ) (t : Bool) → (b == c) ≡ t → (lacks c bs ≡ true) ⊎ CutAt c bs → (lacks c (b ∷ bs) ≡ true) ⊎ CutAt c (b ∷ bs)
    by_test c b bs true e h = let is : b ≡ c = grind (arith, nat_tests) in inr (record { front = []; back = bs; free = refl; whole = ap (λ (x : ℕ). x ∷ bs) is })
    by_test c b bs false e (inl h) = inl (more_free c b bs e h)
    by_test c b bs false e (inr h) = inr (more_front c b bs e h)

-- ---- lines

-- a line that ends, and the lines behind it
pub line_read : (t : Tables) (d : Draft) (w r : List ℕ) → lacks 10 w ≡ true → reading t d (w ++ 10 ∷ r) ≡ reading t (taking t d w) r
unfolding reading
line_read t d w r h = ap (fold (taking t) d) (split_at 10 w r h)

-- an empty line is passed over
pub empty_line : (t : Tables) (d : Draft) → taking t d [] ≡ d
unfolding taking worded
empty_line t d = refl

-- nothing is left
pub end_read : (t : Tables) (d : Draft) → reading t d [] ≡ d
unfolding reading
end_read t d = empty_line t d

last_line : (t : Tables) (d : Draft) (w : List ℕ) → lacks 10 w ≡ true → reading t d w ≡ taking t d w
unfolding reading
last_line t d w h = ap (fold (taking t) d) (split_none 10 w h)

-- the first line, and the lines behind it
pub next_line : (t : Tables) (d : Draft) (s : List ℕ) → reading t d s ≡ reading t (taking t d (upto 10 s)) (past 10 s)
next_line t d s =
    elim (cut_cases 10 s) [
      | inl free ↦
          last_line t d s free ∙ sym (end_read t (taking t d s)) ∙ ap (λ (xs : List ℕ). reading t (taking t d s) xs) (sym (past_all 10 s free))
          ∙ ap (λ (w : List ℕ). reading t (taking t d w) (past 10 s)) (sym (upto_all 10 s free))
      | inr cut ↦
          let P : List ℕ → Type 0 = λ (x : List ℕ). reading t d x ≡ reading t (taking t d (upto 10 x)) (past 10 x) in
          let there : P (cut.front ++ 10 ∷ cut.back) =
          line_read t d cut.front cut.back cut.free ∙ ap (λ (w : List ℕ). reading t (taking t d w) cut.back) (sym (upto_at 10 cut.front cut.back cut.free))
          ∙ ap (λ (r : List ℕ). reading t (taking t d (upto 10 (cut.front ++ 10 ∷ cut.back))) r) (sym (past_at 10 cut.front cut.back cut.free)) in
          subst P (sym cut.whole) there
    ]
