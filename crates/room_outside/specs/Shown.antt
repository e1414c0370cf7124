-- What a shelf shows.
use Rattle.std.specs.Prelude.{◌≡◌, ◌↔◌, ℕ, ◌<◌, ◌≤◌, List, length, take, drop, Option, None}

-- the text under each name, where it is told, and how many reads of each name have failed
pub record Shown : Type 0 where
  pub text : List ℕ → Option (List ℕ)
  pub faults : List ℕ → ℕ

-- no text is told, and one count is that of every name
abbrev pub untold : ℕ → Shown
untold faults = record { text = λ _. None; faults = λ _. faults }

-- every text stays as it is, and no count of faults falls
pub record Keeps (before after : Shown) : Type 0 where
  pub texts : (name : List ℕ) → after.text name ≡ before.text name
  pub faults : (name : List ℕ) → before.faults name ≤ after.faults name

-- n bytes of the text at an offset stand at the front of a buffer; of a buffer with room, none only at the end
pub record IsReadAt (text : List ℕ) (from n : ℕ) (buffer : List ℕ) : Type 0 where
  pub bytes : take n buffer ≡ take n (drop from text)
  pub at_end : 0 < length buffer → ((n ≡ 0) ↔ (length text ≤ from))
