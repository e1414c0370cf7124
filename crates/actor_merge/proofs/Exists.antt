-- Journals whose stamps rise have a merge.
use Rattle.std.proofs.Common.{◌≡◌, ℕ, zero, suc, ◌<◌, ◌≤◌, ◌==◌, if◌then◌else◌, List, [], ◌∷◌, refl, sym, ap, ◌∙◌, eq-eqb, arith, ◌⊎◌, inl, inr, ⊎_elim}
use Rattle.std.proofs.lemmas.Bool.{cases_order, cases_eq, cases_lt, ne_eqb}
use Rattle.journal.specs.declared.entry.Entry.{Entry}
use Rattle.actor_merge.specs.Mail.{stamp_of}
use Rattle.actor_merge.specs.World.{Placed}
use Rattle.actor_merge.specs.Merge.{Rising, IsBefore, IsBeforeAll, InOrder, entries_of, IsMerge}

-- an entry of a party
abbrev pub at : ℕ → Entry → Placed
at party e = record { party = party; entry = e }

cases_before : (x y : Placed) → IsBefore x y ⊎ (IsBefore y x ⊎ ((stamp_of x.entry ≡ stamp_of y.entry) × (x.party ≡ y.party)))
cases_before x y = go (cases_order (stamp_of x.entry) (stamp_of y.entry)) (cases_order x.party y.party)
  where
    go : (stamp_of x.entry ≡ stamp_of y.entry) ⊎ ((stamp_of x.entry < stamp_of y.entry) ⊎ (stamp_of y.entry < stamp_of x.entry))
        → (x.party ≡ y.party) ⊎ ((x.party < y.party) ⊎ (y.party < x.party))
        → IsBefore x y ⊎ (IsBefore y x ⊎ ((stamp_of x.entry ≡ stamp_of y.entry) × (x.party ≡ y.party)))
    go (inr (inl h)) p = inl (inl h)
    go (inr (inr h)) p = inr (inl (inl h))
    go (inl e) (inr (inl h)) = inl (inr (e, h))
    go (inl e) (inr (inr h)) = inr (inl (inr (sym e, h)))
    go (inl e) (inl f) = inr (inr (e, f))

before_trans : (x y z : Placed) → IsBefore x y → IsBefore y z → IsBefore x z
before_trans x y z (inl h) (inl k) = inl (omega arith)
before_trans x y z (inl h) (inr k) = inl (omega arith)
before_trans x y z (inr h) (inl k) = inl (omega arith)
before_trans x y z (inr h) (inr k) = inr (omega arith, omega arith)

pub before_all : (x y : Placed) → IsBefore x y → (ys : List Placed) → IsBeforeAll y ys → IsBeforeAll x ys
before_all x y h [] k = tt
before_all x y h (z ∷ zs) k = (before_trans x y z h k.0, before_all x y h zs k.1)

-- entries of x's party stand there only with later stamps
abbrev pub Later : Placed → List Placed → Type 0
Later x [] = Unit {0}
Later x (y ∷ ys) = (x.party ≡ y.party → stamp_of x.entry < stamp_of y.entry) × Later x ys

-- a list with x at its place
pub record Inserted (x : Placed) (ys : List Placed) : Type 0 where
  pub list : List Placed
  pub ordered : InOrder list
  pub own : entries_of x.party list ≡ x.entry ∷ entries_of x.party ys
  pub others : (q : ℕ) → (q ≡ x.party → ⊥) → entries_of q list ≡ entries_of q ys
  pub later : (z : Placed) → (z.party ≡ x.party → stamp_of z.entry < stamp_of x.entry) → Later z ys → Later z list
  pub before : (z : Placed) → IsBefore z x → IsBeforeAll z ys → IsBeforeAll z list

entries_own : (q : ℕ) (x : Placed) (ys : List Placed) → q ≡ x.party → entries_of q (x ∷ ys) ≡ x.entry ∷ entries_of q ys
entries_own q x ys e = rw (eq-eqb q x.party e) refl

entries_other : (q : ℕ) (x : Placed) (ys : List Placed) → (q ≡ x.party → ⊥) → entries_of q (x ∷ ys) ≡ entries_of q ys
entries_other q x ys n = rw (ne_eqb q x.party n) refl

entries_under : (q : ℕ) (y : Placed) (xs ys : List Placed) → entries_of q xs ≡ entries_of q ys → entries_of q (y ∷ xs) ≡ entries_of q (y ∷ ys)
entries_under q y xs ys e = ap (λ z. if q == y.party then y.entry ∷ z else z) e

pub insert : (x : Placed) (ys : List Placed) → InOrder ys → Later x ys → Inserted x ys
insert x [] o l =
    record {
      list = x ∷ [];
      ordered = (tt, tt);
      own = entries_own x.party x [] refl;
      others = λ q n. entries_other q x [] n;
      later = λ z h k. (h, tt);
      before = λ z h k. (h, tt);
    }
insert x (y ∷ ys) o l = go (cases_before x y) (insert x ys o.1 l.1)
  where
    go : IsBefore x y ⊎ (IsBefore y x ⊎ ((stamp_of x.entry ≡ stamp_of y.entry) × (x.party ≡ y.party))) → Inserted x ys → Inserted x (y ∷ ys)
    go (inl h) r =
        record {
          list = x ∷ (y ∷ ys);
          ordered = ((h, before_all x y h ys o.0), o);
          own = entries_own x.party x (y ∷ ys) refl;
          others = λ q n. entries_other q x (y ∷ ys) n;
          later = λ z f k. (f, k);
          before = λ z f k. (f, k);
        }
    go (inr (inr h)) r = let k : stamp_of x.entry < stamp_of y.entry = l.0 h.1 in absurd (omega (arith, h.0))
    go (inr (inl h)) r =
        record {
          list = y ∷ r.list;
          ordered = (r.before y h o.0, r.ordered);
          own = entries_other x.party y r.list apart ∙ r.own ∙ ap (λ z. x.entry ∷ z) (sym (entries_other x.party y ys apart));
          others = λ q n. entries_under q y r.list ys (r.others q n);
          later = λ z f k. (k.0, r.later z f k.1);
          before = λ z f k. (k.0, r.before z f k.1);
        }
      where
        apart : x.party ≡ y.party → ⊥
        apart e = let k : stamp_of x.entry < stamp_of y.entry = l.0 e in ⊎_elim (λ f. omega arith) (λ f. omega (arith, f.0)) h

-- a list with all of a party's journal at their places
pub record Joined (party : ℕ) (es : List Entry) (ys : List Placed) : Type 0 where
  pub list : List Placed
  pub ordered : InOrder list
  pub own : entries_of party list ≡ es
  pub others : (q : ℕ) → (q ≡ party → ⊥) → entries_of q list ≡ entries_of q ys

later_none : (x : Placed) (ys : List Placed) → entries_of x.party ys ≡ [] → Later x ys
later_none x [] e = tt
later_none x (y ∷ ys) e = go (cases_eq x.party y.party) (later_none x ys)
  where
    go : (x.party ≡ y.party) ⊎ (x.party ≡ y.party → ⊥) → (entries_of x.party ys ≡ [] → Later x ys) → Later x (y ∷ ys)
    go (inl f) ih = let no : y.entry ∷ entries_of x.party ys ≡ [] = sym (entries_own x.party y ys f) ∙ e in absurd cc
    go (inr n) ih = ((λ f. absurd (n f)), ih (sym (entries_other x.party y ys n) ∙ e))

rising_later : (x : Placed) (ys : List Placed) (k : ℕ) → stamp_of x.entry ≤ k → Rising k (entries_of x.party ys) → Later x ys
rising_later x [] k b h = tt
rising_later x (y ∷ ys) k b h = go (cases_eq x.party y.party) (rising_later x ys)
  where
    go : (x.party ≡ y.party) ⊎ (x.party ≡ y.party → ⊥)
        → ((k : ℕ) → stamp_of x.entry ≤ k → Rising k (entries_of x.party ys) → Later x ys) → Later x (y ∷ ys)
    go (inl e) ih =
        let r : Rising k (y.entry ∷ entries_of x.party ys) = rw (entries_own x.party y ys e) at h in
        ((λ f. omega (arith, r.0)), ih (stamp_of y.entry) (omega (arith, r.0)) r.1)
    go (inr n) ih = ((λ f. absurd (n f)), ih k b (rw (entries_other x.party y ys n) at h))

later_rising : (x : Placed) (ys : List Placed) → Rising (stamp_of x.entry) (entries_of x.party ys) → Later x ys
later_rising x ys h = rising_later x ys (stamp_of x.entry) (omega arith) h

pub join : (party : ℕ) (es : List Entry) (ys : List Placed) (k : ℕ) → Rising k es → InOrder ys → entries_of party ys ≡ [] → Joined party es ys
join party [] ys k r o none = record { list = ys; ordered = o; own = none; others = λ q n. refl }
join party (e ∷ es) ys k r o none =
    let j : Joined party es ys = join party es ys (stamp_of e) r.1 o none in
    let i : Inserted (at party e) j.list = insert (at party e) j.list j.ordered (later_rising (at party e) j.list (rw j.own r.1)) in
    record {
      list = i.list;
      ordered = i.ordered;
      own = i.own ∙ ap (λ z. e ∷ z) j.own;
      others = λ q n. i.others q n ∙ j.others q n;
    }

-- the merge of the first journals
pub record Merged (count : ℕ) (journals : ℕ → List Entry) : Type 0 where
  pub list : List Placed
  pub ordered : InOrder list
  pub below : (q : ℕ) → q < count → entries_of q list ≡ journals q
  pub beyond : (q : ℕ) → count ≤ q → entries_of q list ≡ []

pub merged : (count : ℕ) (journals : ℕ → List Entry) → ((p : ℕ) → Rising 0 (journals p)) → Merged count journals
merged zero journals r = record { list = []; ordered = tt; below = λ q h. absurd (omega arith); beyond = λ q h. refl }
merged (suc count) journals r =
    let m : Merged count journals = merged count journals r in
    let j : Joined count (journals count) m.list = join count (journals count) m.list 0 (r count) m.ordered (m.beyond count (omega arith)) in
    record {
      list = j.list;
      ordered = j.ordered;
      below = λ q h. ⊎_elim (λ e. rw e j.own) (λ n. j.others q n ∙ m.below q (omega arith)) (cases_eq q count);
      beyond = λ q h. j.others q (λ e. omega arith) ∙ m.beyond q (omega arith);
    }

pub merge_exists : (count : ℕ) (journals : ℕ → List Entry) → ((p : ℕ) → Rising 0 (journals p)) → ((p : ℕ) → count ≤ p → journals p ≡ []) → (merge : List Placed) × IsMerge journals merge
merge_exists count journals r none =
    let m : Merged count journals = merged count journals r in (
      m.list,
      record {
        ordered = m.ordered;
        whole = λ p. ⊎_elim (λ h. m.below p h) (λ h. m.beyond p h ∙ sym (none p h)) (cases_lt p count);
      },
    )
