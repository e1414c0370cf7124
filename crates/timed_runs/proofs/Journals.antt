-- The journals of controllers that stand in a list.
use Rattle.std.proofs.Common.{◌≡◌, ℕ, zero, suc, List, [], ◌∷◌, map, slice_get, slice_index_or, Some, None, refl, ap}
use Rattle.journal.specs.declared.entry.Entry.{Entry}
use Rattle.controller.specs.View.{Controller}

abbrev journal_of : Controller → List Entry
journal_of k = k.mail.journal

pub journal_there : (ks : List Controller) (c : ℕ) (k : Controller) → slice_get ks c ≡ Some k
    → slice_index_or (map (λ (x : Controller). x.mail.journal) ks) c [] ≡ k.mail.journal
journal_there [] c k h = absurd cc
journal_there (x ∷ ks) zero k h = let same : x ≡ k = cc in ap journal_of same
journal_there (x ∷ ks) (suc c) k h = journal_there ks c k h

pub no_journal : (ks : List Controller) (c at : ℕ) → slice_get ks c ≡ None
    → slice_get (slice_index_or (map (λ (x : Controller). x.mail.journal) ks) c []) at ≡ None
no_journal [] c at h = refl
no_journal (x ∷ ks) zero at h = absurd cc
no_journal (x ∷ ks) (suc c) at h = no_journal ks c at h
