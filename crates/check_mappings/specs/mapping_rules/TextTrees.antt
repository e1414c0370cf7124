-- Texts that go on from one another, by number.
use Rattle.std.specs.Prelude.{◌≡◌, ℕ, ◌<◌, ◌≤◌, ◌+◌, List, [], ◌∷◌, ◌++◌, All, length, get_or, map, Some, slice_get}
use Rattle.check_mappings.specs.declared.mapping_rules.text_tree.Branch.{Branch}

-- The text with a number.
abbrev pub text_in : List (List ℕ) → ℕ → List ℕ
text_in texts n = get_or texts n []

-- The texts with those of branches behind them, each of which goes on from an earlier text.
abbrev pub grown : List (List ℕ) → List Branch → List (List ℕ)
grown texts [] = texts
grown texts (b ∷ bs) = grown (texts ++ (text_in texts b.above ++ b.byte ∷ []) ∷ []) bs

-- The empty text, and those of branches.
unfoldable pub all_texts : List Branch → List (List ℕ)
all_texts bs = grown ([] ∷ []) bs

-- The branches make distinct texts, the one at a place the text with the number one above the place.
pub record IsTree (bs : List Branch) : Type 0 where
  -- there is the empty text, and one for each branch
  pub count : length (all_texts bs) ≡ length bs + 1
  pub root : text_in (all_texts bs) 0 ≡ []
  -- each branch goes on from a text before it
  pub above : (i : ℕ) (b : Branch) → slice_get bs i ≡ Some b → b.above ≤ i
  pub texts : (i : ℕ) (b : Branch) → slice_get bs i ≡ Some b → text_in (all_texts bs) (i + 1) ≡ text_in (all_texts bs) b.above ++ b.byte ∷ []
  pub distinct : (i j : ℕ) → i < length (all_texts bs) → j < length (all_texts bs) → text_in (all_texts bs) i ≡ text_in (all_texts bs) j → i ≡ j

-- The numbers of the texts stay.
pub record Keeps (old new : List (List ℕ)) : Type 0 where
  pub longer : length old ≤ length new
  pub same : (i : ℕ) → i < length old → text_in new i ≡ text_in old i

-- A text has this number afterwards, and the numbers of the texts stay.
pub record Numbers (old new : List (List ℕ)) (n : ℕ) (text : List ℕ) : Type 0 where
  pub there : n < length new
  pub is : text_in new n ≡ text
  pub keeps : Keeps old new

-- Numbers are those of these texts.
abbrev pub texts_at : List (List ℕ) → List ℕ → List (List ℕ)
texts_at texts ns = map (text_in texts) ns

-- Each of the numbers is that of a text.
abbrev pub AreKnown : List (List ℕ) → List ℕ → Type 0
AreKnown texts ns = All (λ n. n < length texts) ns

-- Texts were added, with their numbers behind those that were there.
pub record Adds (old new : List (List ℕ)) (before after : List ℕ) (added : List (List ℕ)) : Type 0 where
  pub keeps : Keeps old new
  pub known : AreKnown old before → AreKnown new after
  pub texts : AreKnown old before → texts_at new after ≡ texts_at old before ++ added
