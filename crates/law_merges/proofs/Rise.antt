-- Journals in which stamps rise have a merge.
use Rattle.std.proofs.Common.{◌≡◌, ℕ, zero, suc, ◌≤◌, List, [], ◌∷◌, refl, sym, ap, ◌∙◌, arith, ◌⊎◌, inl, inr, ⊎_elim}
use Rattle.std.proofs.lemmas.Bool.{cases_eq, cases_lt}
use Rattle.journal.specs.declared.entry.Entry.{Entry}
use Rattle.actor_merge.specs.Mail.{stamp_of}
use Rattle.actor_merge.specs.World.{Placed}
use Rattle.actor_merge.specs.Merge.{Rising, InOrder, entries_of, IsMerge}
use Rattle.actor_merge.proofs.Exists.{at, Later, Inserted, insert, Joined, join, Merged}
use Rattle.law_merges.specs.Merges.{Rise}
use Rattle.law_merges.proofs.Parties.{first_here, first_other}

-- entries of a party whose stamps rise from above an entry's are later than it
rising_later : (x : Placed) (ys : List Placed) (k : ℕ) → stamp_of x.entry ≤ k → Rising k (entries_of x.party ys) → Later x ys
rising_later x [] k b h = tt
rising_later x (y ∷ ys) k b h = go (cases_eq x.party y.party) (rising_later x ys)
  where
    go : (x.party ≡ y.party) ⊎ (x.party ≡ y.party → ⊥)
        → ((k : ℕ) → stamp_of x.entry ≤ k → Rising k (entries_of x.party ys) → Later x ys) → Later x (y ∷ ys)
    go (inl e) ih =
        let r : Rising k (y.entry ∷ entries_of x.party ys) = rw (first_here x.party y ys e) at h in
        ((λ f. omega (arith, r.0)), ih (stamp_of y.entry) (omega (arith, r.0)) r.1)
    go (inr n) ih = ((λ f. absurd (n f)), ih k b (rw (first_other x.party y ys n) at h))

-- a list with all of a party's risen journal at their places
join_risen : (party : ℕ) (es : List Entry) (ys : List Placed) → Rise es → InOrder ys → entries_of party ys ≡ [] → Joined party es ys
join_risen party [] ys r o none = join party [] ys 0 tt o none
join_risen party (e ∷ es) ys r o none =
    let j : Joined party es ys = join party es ys (stamp_of e) r o none in
    let later : Later (at party e) j.list = rising_later (at party e) j.list (stamp_of e) (omega arith) (rw j.own r) in
    let i : Inserted (at party e) j.list = insert (at party e) j.list j.ordered later in
    record {
      list = i.list;
      ordered = i.ordered;
      own = i.own ∙ ap (λ z. e ∷ z) j.own;
      others = λ q n. i.others q n ∙ j.others q n;
    }

merge_risen : (count : ℕ) (journals : ℕ → List Entry) → ((p : ℕ) → Rise (journals p)) → Merged count journals
merge_risen zero journals r = record { list = []; ordered = tt; below = λ q h. absurd (omega arith); beyond = λ q h. refl }
merge_risen (suc count) journals r =
    let m : Merged count journals = merge_risen count journals r in
    let j : Joined count (journals count) m.list = join_risen count (journals count) m.list (r count) m.ordered (m.beyond count (omega arith)) in
    record {
      list = j.list;
      ordered = j.ordered;
      below = λ q h. ⊎_elim (λ e. rw e j.own) (λ n. j.others q n ∙ m.below q (omega arith)) (cases_eq q count);
      beyond = λ q h. j.others q (λ e. omega arith) ∙ m.beyond q (omega arith);
    }

pub risen_merge : (count : ℕ) (journals : ℕ → List Entry) → ((p : ℕ) → Rise (journals p)) → ((p : ℕ) → count ≤ p → journals p ≡ [])
    → (merge : List Placed) × IsMerge journals merge
risen_merge count journals r none =
    let m : Merged count journals = merge_risen count journals r in (
      m.list,
      record {
        ordered = m.ordered;
        whole = λ p. ⊎_elim (λ h. m.below p h) (λ h. m.beyond p h ∙ sym (none p h)) (cases_lt p count);
      },
    )
