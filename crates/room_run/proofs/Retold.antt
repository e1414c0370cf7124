-- Journals that tell other lines as not posted: what happened in them is the same. So what is so of the journals
-- of a run over what lines come to is so of those that tell the numbers of the lines that were given.
use Rattle.std.proofs.Common.{ℕ, List, [], ◌∷◌, Option, None}
use Rattle.room_wiring.specs.declared.tables.Tables.{Tables}
use Rattle.journal.specs.Fits.{Fits}
use Rattle.journal.specs.declared.entry.Entry.{Entry}
use Rattle.journal.specs.declared.entry.Entry.TheVariants as entries
use Rattle.journal.specs.declared.entry.Journals.{Journals}
use Rattle.tied_journals.specs.Tied.{fetched_at, IsTiedEntry, AreTied, Tied}

pub fit_as_told : (t : Tables) (j : Journals) (numbers : List ℕ) → Fits t (record j { unposted = numbers }) → Fits t j
fit_as_told t j numbers h =
    record { journals = h.journals; entries = h.entries; environment = h.environment; left = h.left; left_in_order = h.left_in_order }

module _ (j : Journals) (numbers : List ℕ) where
  one_tied : (before : Option ℕ) (e : Entry) → IsTiedEntry (record j { unposted = numbers }) before e → IsTiedEntry j before e
  one_tied before (entries.Start who state notes) h = tt
  one_tied before (entries.Fetch stamp m) h = record { posted = h.posted; follows = h.follows }
  one_tied before (entries.Turn stamp from sent did notes) h = tt
  one_tied before (entries.Post stamp m) h = tt

  all_tied : (before : Option ℕ) (es : List Entry) → AreTied (record j { unposted = numbers }) before es → AreTied j before es
  all_tied before [] h = tt
  all_tied before (e ∷ es) h = (one_tied before e h.0, all_tied (fetched_at e) es h.1)

  pub tied_as_told : Tied (record j { unposted = numbers }) → Tied j
  tied_as_told h = record { entries = λ party. all_tied None _ (h.entries party) }
