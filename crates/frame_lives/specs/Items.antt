-- Items by number in pages, where blanks stand for what isn't there.
use Rattle.std.specs.Prelude.{◌≡◌, ℕ, ◌/◌, ◌%◌, ◌<◌, List, [], Option, Some, None, length, slice_index_or, slice_set}
use Rattle.std.specs.Borrow.{Bor, MutBor}

module _ {T : Type 0} where
  -- what was found, or a blank
  abbrev pub item_or : T → Option (Bor T) → T
  item_or blank (Some x) = x.now
  item_or blank None = blank

  abbrev pub item_or_mut : T → Option (MutBor T) → T
  item_or_mut blank (Some x) = x.now
  item_or_mut blank None = blank

  -- the item at a place of a page
  abbrev pub item_of : T → List T → ℕ → T
  item_of blank page n = slice_index_or page n blank

  -- the page of a place, of pages of 32 items
  abbrev pub page_in : List (List T) → ℕ → List T
  page_in pages n = slice_index_or pages (n / 32) []

  -- the item at a place of pages
  abbrev pub item_in : T → List (List T) → ℕ → T
  item_in blank pages n = item_of blank (page_in pages n) (n % 32)

  -- pages with another item at a place
  abbrev pub with_item : List (List T) → ℕ → T → List (List T)
  with_item pages n item = slice_set pages (n / 32) (slice_set (page_in pages n) (n % 32) item)

  -- pages reach a place
  pub record IsThere (pages : List (List T)) (n : ℕ) : Type 0 where
    pub page : n / 32 < length pages
    pub item : n % 32 < length (page_in pages n)

  -- pages were lengthened by blanks, where they didn't reach a place yet
  pub record IsReached (blank : T) (old new : List (List T)) (n : ℕ) : Type 0 where
    pub there : IsThere new n
    pub same : (i : ℕ) → item_in blank new i ≡ item_in blank old i
