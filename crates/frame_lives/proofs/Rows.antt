-- A row that is written.
use Rattle.std.proofs.Common.{◌≡◌, ℕ, ◌+◌, ◌<◌, Bool, true, false, cond, List, length, refl, sym, ap, ◌∙◌, eq-eqb, get_or-set_same, get_or-set_other, length-set, inl, inr}
use Rattle.std.proofs.Math.Path.{fun_ext}
use Rattle.std.specs.Prelude.{slice_set}
use Rattle.std.proofs.lemmas.Bool.{cases_eq, ne_eqb}
use Rattle.actor_duties.specs.Words.{updated}
use Rattle.frame_lives.specs.declared.row.Row.{Row}
use Rattle.frame_lives.specs.Known.{Known}
use Rattle.frame_lives.specs.Shown.{no_row, row_of, shown, with_row}
use Rattle.frame_lives.specs.Steps.{raised, ended}

-- a function that is updated, at the number
pub updated_here : {A : Type 0} (f : ℕ → A) (s n : ℕ) (a : A) → n ≡ s → updated f s a n ≡ a
unfolding updated
updated_here f s n a e = ap (λ b. cond b a (f n)) (eq-eqb n s e)

-- and elsewhere
pub updated_else : {A : Type 0} (f : ℕ → A) (s n : ℕ) (a : A) → (n ≡ s → ⊥) → updated f s a n ≡ f n
unfolding updated
updated_else f s n a e = ap (λ b. cond b a (f n)) (ne_eqb n s e)

-- an update by the value that is there changes nothing
pub updated_same : {A : Type 0} (f : ℕ → A) (s : ℕ) (a : A) → a ≡ f s → updated f s a ≡ f
updated_same f s a is = fun_ext (λ n. elim (cases_eq n s) [ inl e ↦ updated_here f s n a e ∙ is ∙ ap f (sym e) | inr other ↦ updated_else f s n a other ])

-- a list with another item at a place, as a function
row_set : {A : Type 0} (field : Row → A) (rows : List Row) (s : ℕ) (r : Row) → s < length rows
    → (λ n. field (row_of (slice_set rows s r) n)) ≡ updated (λ n. field (row_of rows n)) s (field r)
row_set {A} field rows s r l = fun_ext (λ n.
    elim (cases_eq n s) [
      | inl e ↦
          ap (λ m. field (row_of (slice_set rows s r) m)) e ∙ ap field (get_or-set_same rows s r no_row l)
          ∙ sym (updated_here (λ m. field (row_of rows m)) s n (field r) e)
      | inr other ↦ ap field (get_or-set_other rows s n r no_row other) ∙ sym (updated_else (λ m. field (row_of rows m)) s n (field r) other)
    ])

-- what rows say after a row is written
pub shown_set : (rows : List Row) (s : ℕ) (r : Row) → s < length rows → shown (slice_set rows s r) ≡ with_row s r (shown rows)
unfolding shown
shown_set rows s r l =
    same (length-set rows s r) (row_set (λ (x : Row). x.generation) rows s r l) (row_set (λ (x : Row). x.told) rows s r l) (row_set (λ (x : Row). x.lives) rows s r l)
  where
    same : {n m : ℕ} {g h told heard : ℕ → ℕ} {a b : ℕ → Bool} → n ≡ m → g ≡ h → told ≡ heard → a ≡ b
        → ◌≡◌ {A = Known} (record { slots = n; lives = record { generation = g; lives = a }; told = told }) (record { slots = m; lives = record { generation = h; lives = b }; told = heard })
    same e f g h = cc

-- a row that changes the life alone
pub row_of_lives : (k : Known) (s told : ℕ) → told ≡ k.told s
    → with_row s (record { generation = k.lives.generation s + 1; lives = true; told = told }) k ≡ record k { lives = raised s k.lives }
row_of_lives k s told e =
    ap (λ (f : ℕ → ℕ). record { slots = k.slots; lives = raised s k.lives; told = f }) (updated_same k.told s told e)

-- a row that ends the life alone
pub row_of_end : (k : Known) (s : ℕ)
    → with_row s (record { generation = k.lives.generation s; lives = false; told = k.told s }) k ≡ record k { lives = ended s k.lives }
row_of_end k s =
    ap (λ (f : ℕ → ℕ). record { slots = k.slots; lives = record { generation = updated k.lives.generation s (k.lives.generation s); lives = updated k.lives.lives s false }; told = f }) (updated_same k.told s (k.told s) refl)
    ∙ ap (λ (f : ℕ → ℕ). record { slots = k.slots; lives = record { generation = f; lives = updated k.lives.lives s false }; told = k.told }) (updated_same k.lives.generation s (k.lives.generation s) refl)

-- a row that changes the directory alone
pub row_of_told : (k : Known) (s generation : ℕ) (b : Bool) (told : ℕ) → generation ≡ k.lives.generation s → b ≡ k.lives.lives s
    → with_row s (record { generation = generation; lives = b; told = told }) k ≡ record k { told = updated k.told s told }
row_of_told k s generation b told g e =
    ap (λ (f : ℕ → Bool). record { slots = k.slots; lives = record { generation = updated k.lives.generation s generation; lives = f }; told = updated k.told s told }) (updated_same k.lives.lives s b e)
    ∙ ap (λ (f : ℕ → ℕ). record { slots = k.slots; lives = record { generation = f; lives = k.lives.lives }; told = updated k.told s told }) (updated_same k.lives.generation s generation g)
