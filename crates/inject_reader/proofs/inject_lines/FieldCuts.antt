-- Lines, cut at blanks.
use Rattle.std.proofs.Common.{◌≡◌, ℕ, suc, ◌+◌, ◌<◌, Bool, true, false, cond, List, [], ◌∷◌, length, take, drop, not, refl, sym, ap, ◌∙◌, arith, filter}
use Rattle.std.specs.List.{slice_split, prefix_len, onto_first}
use Rattle.std.proofs.lemmas.List.Splits.{slice_split-cons_yes, slice_split-cons_no}
use Rattle.std.proofs.lemmas.Bool.Decides.{nat_tests}
use Rattle.inject_reader.specs.inject_lines.Fields.{is_blank, has_bytes, fields}

one_more : (n : ℕ) → 1 + n ≡ suc n
one_more n = omega arith

-- a blank in front cuts off nothing
fields_blank : (b : ℕ) (s : List ℕ) → is_blank b ≡ true → fields (b ∷ s) ≡ fields s
unfolding fields
fields_blank b s h = rw (slice_split-cons_yes is_blank b s h) refl

drop_step : {A : Type 0} (x : A) (xs : List A) (n : ℕ) → drop (1 + n) (x ∷ xs) ≡ drop n xs
drop_step x xs n = ap (λ (k : ℕ). drop k (x ∷ xs)) (one_more n)

take_step : {A : Type 0} (x : A) (xs : List A) (n : ℕ) → take (1 + n) (x ∷ xs) ≡ x ∷ take n xs
take_step x xs n = ap (λ (k : ℕ). take k (x ∷ xs)) (one_more n)

pub skip_blanks : (s : List ℕ) → fields (drop (prefix_len is_blank s) s) ≡ fields s
skip_blanks [] = refl
skip_blanks (b ∷ s) = by_test b s (is_blank b) refl (skip_blanks s)
  where
    by_test : (b : ℕ) (s : List ℕ) (t : Bool) → is_blank b ≡ t → fields (drop (prefix_len is_blank s) s) ≡ fields s → fields (drop (cond t (1 + prefix_len is_blank s) 0) (b ∷ s)) ≡ fields (b ∷ s)
    by_test b s true e rest = ap fields (drop_step b s (prefix_len is_blank s)) ∙ rest ∙ sym (fields_blank b s e)
    by_test b s false e rest = refl

pub none_comes : (p : ℕ → Bool) (s : List ℕ) → prefix_len p (drop (prefix_len p s) s) ≡ 0
none_comes p [] = refl
none_comes p (b ∷ s) = by_test p b s (p b) refl (none_comes p s)
  where
    by_test : (p : ℕ → Bool) (b : ℕ) (s : List ℕ) (t : Bool) → p b ≡ t → prefix_len p (drop (prefix_len p s) s) ≡ 0 → prefix_len p (drop (cond t (1 + prefix_len p s) 0) (b ∷ s)) ≡ 0
    by_test p b s true e rest = ap (prefix_len p) (drop_step b s (prefix_len p s)) ∙ rest
    by_test p b s false e rest = ap (λ (t : Bool). cond t (1 + prefix_len p s) 0) e

-- a line, cut before its first blank
record WordCut (s : List ℕ) (n : ℕ) : Type 0 where
  more : List (List ℕ)
  split : slice_split is_blank s ≡ take n s ∷ more
  rest : fields (drop n s) ≡ filter has_bytes more

word_end : (b : ℕ) (s : List ℕ) → is_blank b ≡ true → WordCut (b ∷ s) 0
unfolding fields
word_end b s e = record {
  more = slice_split is_blank s;
  split = slice_split-cons_yes is_blank b s e;
  rest = fields_blank b s e;
}

word_more : (b : ℕ) (s : List ℕ) (n : ℕ) → is_blank b ≡ false → WordCut s n → WordCut (b ∷ s) (1 + n)
word_more b s n e w = record {
  more = w.more;
  split = slice_split-cons_no is_blank b s e ∙ ap (onto_first b) w.split ∙ ap (λ (x : List ℕ). x ∷ w.more) (sym (take_step b s n));
  rest = ap fields (drop_step b s n) ∙ w.rest;
}

word_cut : (s : List ℕ) → WordCut s (prefix_len (λ b. not (is_blank b)) s)
unfolding fields
word_cut [] = record { more = []; split = refl; rest = refl }
word_cut (b ∷ s) = by_test b s (is_blank b) refl (word_cut s)
  where
    by_test : (b : ℕ) (s : List ℕ) (t : Bool) → is_blank b ≡ t → WordCut s (prefix_len (λ b. not (is_blank b)) s) → WordCut (b ∷ s) (cond (not t) (1 + prefix_len (λ b. not (is_blank b)) s) 0)
    by_test b s true e w = word_end b s e
    by_test b s false e w = word_more b s _ e w

word_kept : (w : List ℕ) (more : List (List ℕ)) → 0 < length w → filter has_bytes (w ∷ more) ≡ w ∷ filter has_bytes more
word_kept [] more h = absurd (omega arith)
word_kept (b ∷ bs) more h = let kept : has_bytes (b ∷ bs) ≡ true = grind (arith, nat_tests) in rw kept refl

pub one_field : (bytes text word rest : List ℕ) (n : ℕ) → fields text ≡ fields bytes → n ≡ prefix_len (λ b. not (is_blank b)) text → word ≡ take n text → rest ≡ drop n text → 0 < length word → fields bytes ≡ word ∷ fields rest
unfolding fields
one_field bytes text word rest n same n_is word_is rest_is some =
    let cut = word_cut text in
    let whole : fields text ≡ take n text ∷ fields (drop n text) =
    ap (filter has_bytes) cut.split ∙ ap (λ (k : ℕ). filter has_bytes (take k text ∷ cut.more)) (sym n_is)
    ∙ word_kept (take n text) cut.more (rw (← word_is) some) ∙ ap (λ (ps : List (List ℕ)). take n text ∷ ps) (sym cut.rest)
    ∙ ap (λ (k : ℕ). take n text ∷ fields (drop k text)) (sym n_is) in
    sym same ∙ whole ∙ ap (λ (w : List ℕ). w ∷ fields (drop n text)) (sym word_is) ∙ ap (λ (r : List ℕ). word ∷ fields r) (sym rest_is)

no_byte : (s : List ℕ) → prefix_len is_blank s ≡ 0 → prefix_len (λ b. not (is_blank b)) s ≡ 0 → s ≡ []
no_byte [] e f = refl
no_byte (b ∷ s) e f = by_test (is_blank b) (prefix_len is_blank s) (prefix_len (λ b. not (is_blank b)) s) e f
  where
    by_test : (t : Bool) (n m : ℕ) → cond t (1 + n) 0 ≡ 0 → cond (not t) (1 + m) 0 ≡ 0 → b ∷ s ≡ []
    by_test true n m e f = absurd (omega arith)
    by_test false n m e f = absurd (omega arith)

pub no_field : (bytes text : List ℕ) → fields text ≡ fields bytes → prefix_len is_blank text ≡ 0 → prefix_len (λ b. not (is_blank b)) text ≡ 0 → fields bytes ≡ []
unfolding fields
no_field bytes text same e f = sym same ∙ ap fields (no_byte text e f)
