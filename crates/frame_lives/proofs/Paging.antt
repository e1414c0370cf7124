-- Rows in pages, as a list of rows.
use Rattle.std.proofs.Common.{◌≡◌, ℕ, ◌+◌, ◌<◌, ◌≤◌, Bool, true, List, [], ◌∷◌, ◌++◌, length, get_or, set, refl, sym, ap, subst, ◌∙◌, arith, inl, inr}
use Rattle.std.specs.Prelude.{slice_set}
use Rattle.std.proofs.lemmas.Bool.{cases_eq}
use Rattle.std.proofs.lemmas.List.{ext_get_or, length-set, get_or_past, get_or-set_same, get_or-set_other}
use Rattle.std.proofs.lemmas.List.FromFn.{get_or-map-range_with_len, length-map-range_with_len, map-range_with_len_more}
use Rattle.actor_duties.specs.Words.{updated}
use Rattle.frame_lives.specs.declared.row.Row.{Row}
use Rattle.frame_lives.specs.Known.{Known}
use Rattle.frame_lives.specs.Shown.{no_row, row_of, shown, with_lives, with_told, with_row}
use Rattle.frame_lives.specs.Steps.{raised, ended}
use Rattle.frame_lives.specs.Paged.{without_life, row_in, rows_in}
use Rattle.frame_lives.proofs.Rows.{updated_here, updated_else, updated_same, shown_set, row_of_lives, row_of_end, row_of_told}

-- how many rows there are
pub rows_many : (count : ℕ) (pages : List (List Row)) → length (rows_in count pages) ≡ count
rows_many count pages = length-map-range_with_len (row_in pages) 0 count

-- the row of a slot in the list of all rows
pub row_there : (count : ℕ) (pages : List (List Row)) (s : ℕ) → s < count → row_in pages s ≡ row_of (rows_in count pages) s
row_there count pages s l = sym (get_or-map-range_with_len (row_in pages) 0 count s s no_row l (omega arith))

pub no_row_there : (count : ℕ) (pages : List (List Row)) (s : ℕ) → count ≤ s → no_row ≡ row_of (rows_in count pages) s
no_row_there count pages s l =
    sym (get_or_past (rows_in count pages) s no_row (let many = rows_many count pages in omega (arith, many, l)))

-- all rows, after one was written
pub row_set : (count : ℕ) (pages after : List (List Row)) (s : ℕ) (r : Row) → s < count → row_in after ≡ updated (row_in pages) s r
    → rows_in count after ≡ slice_set (rows_in count pages) s r
row_set count pages after s r there is =
    let many = rows_many count pages in
    let still = rows_many count after in
    let set_many = length-set (rows_in count pages) s r in
    let within : s < length (rows_in count pages) = omega (arith, many, there) in
    ext_get_or no_row (rows_in count after) (slice_set (rows_in count pages) s r) (omega (arith, many, still, set_many)) (λ i l.
    let less : i < count = omega (arith, still, l) in
    sym (row_there count after i less) ∙ ap (λ (f : ℕ → Row). f i) is
    ∙ elim (cases_eq i s) [
      | inl e ↦
          updated_here (row_in pages) s i r e
          ∙ sym (ap (λ m. get_or (set (rows_in count pages) s r) m no_row) e ∙ get_or-set_same (rows_in count pages) s r no_row within)
      | inr other ↦
          updated_else (row_in pages) s i r other ∙ row_there count pages i less
          ∙ sym (get_or-set_other (rows_in count pages) s i r no_row other)
    ])

-- all rows, after one more
pub row_pushed : (count : ℕ) (pages after : List (List Row)) (r : Row) → row_in after ≡ updated (row_in pages) count r
    → rows_in (count + 1) after ≡ rows_in count pages ++ r ∷ []
row_pushed count pages after r is =
    map-range_with_len_more (row_in after) 0 count count (omega arith)
    ∙ ap (λ (x : Row). rows_in count after ++ x ∷ []) (ap (λ (f : ℕ → Row). f count) is ∙ updated_here (row_in pages) count count r refl)
    ∙ ap (λ (xs : List Row). xs ++ r ∷ []) same
  where
    same : rows_in count after ≡ rows_in count pages
    same =
        let many = rows_many count pages in
        let still = rows_many count after in
        ext_get_or no_row (rows_in count after) (rows_in count pages) (omega (arith, many, still)) (λ i l.
        let less : i < count = omega (arith, still, l) in
        sym (row_there count after i less) ∙ ap (λ (f : ℕ → Row). f i) is
        ∙ updated_else (row_in pages) count i r (λ e. omega (arith, less, e))
        ∙ row_there count pages i less)

-- a row that stands there already
pub row_stands : (pages : List (List Row)) (place : ℕ) (r : Row) → row_in pages place ≡ r → row_in pages ≡ updated (row_in pages) place r
row_stands pages place r is = sym (updated_same (row_in pages) place r (sym is))

-- what all rows say, after one was written
written_in : (count : ℕ) (pages after : List (List Row)) (s : ℕ) (r : Row) → s < (shown (rows_in count pages)).slots → row_in after ≡ updated (row_in pages) s r
    → shown (rows_in count after) ≡ with_row s r (shown (rows_in count pages))
unfolding shown
written_in count pages after s r there is =
    let many = rows_many count pages in
    ap shown (row_set count pages after s r (omega (arith, many, there)) is) ∙ shown_set (rows_in count pages) s r there

pub shown_written : (count : ℕ) (pages after : List (List Row)) (now : List Row) (s n : ℕ) (r : Row) → rows_in count pages ≡ now → s < (shown now).slots → n ≡ s
    → row_in after ≡ updated (row_in pages) n r → shown (rows_in count after) ≡ with_row s r (shown now)
shown_written count pages after now s n r view there same is =
    subst (λ (rows : List Row). shown (rows_in count after) ≡ with_row s r (shown rows)) view
    (written_in count pages after s r (subst (λ (rows : List Row). s < (shown rows).slots) (sym view) there) (is ∙ ap (λ m. updated (row_in pages) m r) same))

-- the row of a slot, as the table shows it
abbrev pub row_shown : Known → ℕ → Row
row_shown k s = record { generation = k.lives.generation s; lives = k.lives.lives s; told = k.told s }

row_in_all : (count : ℕ) (pages : List (List Row)) (s : ℕ) → s < (shown (rows_in count pages)).slots → row_in pages s ≡ row_shown (shown (rows_in count pages)) s
unfolding shown
row_in_all count pages s there = let many = rows_many count pages in row_there count pages s (omega (arith, many, there))

pub shown_row : (count : ℕ) (pages : List (List Row)) (now : List Row) (s n : ℕ) (x : Row) → rows_in count pages ≡ now → s < (shown now).slots → n ≡ s
    → x ≡ row_in pages n → x ≡ row_shown (shown now) s
shown_row count pages now s n x view there same was =
    was ∙ ap (row_in pages) same
    ∙ subst (λ (rows : List Row). row_in pages s ≡ row_shown (shown rows) s) view (row_in_all count pages s (subst (λ (rows : List Row). s < (shown rows).slots) (sym view) there))

same_row : {g h told heard : ℕ} {a b : Bool} → g ≡ h → a ≡ b → told ≡ heard
    → ◌≡◌ {A = Row} (record { generation = g; lives = a; told = told }) (record { generation = h; lives = b; told = heard })
same_row e f g = cc

-- what rows say after an actor is made
pub shown_raised : (count : ℕ) (pages after : List (List Row)) (now : List Row) (s n : ℕ) (x : Row) (g : ℕ) → rows_in count pages ≡ now → s < (shown now).slots → n ≡ s
    → x ≡ row_in pages n → g ≡ x.generation + 1 → row_in after ≡ updated (row_in pages) n (record { generation = g; lives = true; told = x.told })
    → shown (rows_in count after) ≡ with_lives (shown now) (raised s (shown now).lives)
shown_raised count pages after now s n x g view there same was next is =
    let k = shown now in
    let row = shown_row count pages now s n x view there same was in
    shown_written count pages after now s n (record { generation = g; lives = true; told = x.told }) view there same is
    ∙ ap (λ (r : Row). with_row s r k) (same_row (next ∙ ap (λ (r : Row). r.generation + 1) row) refl (ap (λ (r : Row). r.told) row))
    ∙ row_of_lives k s (k.told s) refl

-- and after the actor of a slot has ended
pub shown_ended : (count : ℕ) (pages after : List (List Row)) (now : List Row) (s n : ℕ) (x : Row) → rows_in count pages ≡ now → s < (shown now).slots → n ≡ s
    → x ≡ row_in pages n → row_in after ≡ updated (row_in pages) n (without_life x)
    → shown (rows_in count after) ≡ with_lives (shown now) (ended s (shown now).lives)
shown_ended count pages after now s n x view there same was is =
    let k = shown now in
    shown_written count pages after now s n (without_life x) view there same is
    ∙ ap (λ (r : Row). with_row s (without_life r) k) (shown_row count pages now s n x view there same was)
    ∙ row_of_end k s

-- and after another generation was told
pub shown_told : (count : ℕ) (pages after : List (List Row)) (now : List Row) (s n : ℕ) (x : Row) (g : ℕ) → rows_in count pages ≡ now → s < (shown now).slots → n ≡ s
    → x ≡ row_in pages n → row_in after ≡ updated (row_in pages) n (record x { told = g })
    → shown (rows_in count after) ≡ with_told (shown now) (updated (shown now).told s g)
shown_told count pages after now s n x g view there same was is =
    let k = shown now in
    shown_written count pages after now s n (record x { told = g }) view there same is
    ∙ ap (λ (r : Row). with_row s (record r { told = g }) k) (shown_row count pages now s n x view there same was)
    ∙ row_of_told k s (k.lives.generation s) (k.lives.lives s) g refl refl

-- where no row was written nobody lives, and nobody is told of
pub stays_ended : (count : ℕ) (pages : List (List Row)) (now : List Row) (s n : ℕ) → rows_in count pages ≡ now → s < (shown now).slots → n ≡ s → no_row ≡ row_in pages n
    → shown (rows_in count pages) ≡ with_lives (shown now) (ended s (shown now).lives)
stays_ended count pages now s n view there same none =
    shown_ended count pages pages now s n no_row view there same none (row_stands pages n no_row (sym none))

pub stays_untold : (count : ℕ) (pages : List (List Row)) (now : List Row) (s n : ℕ) → rows_in count pages ≡ now → s < (shown now).slots → n ≡ s → no_row ≡ row_in pages n
    → shown (rows_in count pages) ≡ with_told (shown now) (updated (shown now).told s 0)
stays_untold count pages now s n view there same none =
    shown_told count pages pages now s n no_row 0 view there same none (row_stands pages n no_row (sym none))
