-- The search for the first fetch that is tied to no post.
use Rattle.std.proofs.Common.{◌≡◌, ℕ, ◌+◌, ◌<◌, ◌≤◌, ◌↔◌, nat_lt, Bool, true, false, List, [], ◌∷◌, ◌++◌, length, get_or, take, drop, Option, Some, None, refl, sym, ap, ◌∙◌, subst, arith, ◌⊎◌, inl, inr}
use Rattle.std.specs.Option.{MatchOption}
use Rattle.std.proofs.lemmas.Bool.{ltb-true, ltb-false}
use Rattle.std.proofs.lemmas.Option.{none-some}
use Rattle.std.proofs.lemmas.List.{take_all, get_or_past, get_or_default, take-append-drop, at_drop_more}
use Rattle.std.proofs.Math.ListN.{get_or-append}
use Rattle.std.proofs.Math.Seq.{get_or-append_seam}
use Rattle.std.proofs.Common.{length-append}
use Rattle.std.proofs.lemmas.List.Sums.{fold-append}
use Rattle.room_kinds.specs.declared.numbers.Stamp.{Stamp}
use Rattle.room_kinds.specs.declared.numbers.ControllerId.{ControllerId}
use Rattle.journal.specs.declared.entry.Entry.{Entry}
use Rattle.journal.specs.declared.entry.Journals.{Journals}
use Rattle.tied_journals.specs.Tied.{journal_of, fetched_at, IsTiedEntry, AreTied, Tied}
use Rattle.tied_journals.specs.PostTables.{journals_by_party}
use Rattle.tied_journals.proofs.TableSteps.{party_journal, take_next}
use Rattle.tied_journals.specs.Untied.{IsUntied, last_fetched, IsFirstUntiedIn, party_number, IsFirstUntied}

-- one more entry that is tied
pub tied_more : (j : Journals) (before : Option ℕ) (es : List Entry) (e : Entry)
    → AreTied j before es → IsTiedEntry j (last_fetched before es) e → AreTied j before (es ++ e ∷ [])
tied_more j before [] e are is = (is, tt)
tied_more j before (x ∷ es) e are is = (are.0, tied_more j (fetched_at x) es e are.1 is)

pub tied_step : (j : Journals) (es : List Entry) (i : ℕ) (e : Entry) → i < length es → e ≡ get_or es i e
    → AreTied j None (take i es) → IsTiedEntry j (last_fetched None (take i es)) e → AreTied j None (take (i + 1) es)
tied_step j es i e h at are is = subst (λ (x : List Entry). AreTied j None x) (sym (take_next es i e h at)) (tied_more j None (take i es) e are is)

pub fetched_step : (es : List Entry) (i : ℕ) (e : Entry) → i < length es → e ≡ get_or es i e → fetched_at e ≡ last_fetched None (take (i + 1) es)
fetched_step es i e h at =
    sym (fold-append (λ (b : Option ℕ) (x : Entry). fetched_at x) None (take i es) (e ∷ [])) ∙ ap (last_fetched None) (sym (take_next es i e h at))

-- the first entry that isn't tied
pub found_step : (j : Journals) (es : List Entry) (i : ℕ) (e : Entry) (before : Option ℕ) (stamp : Stamp) → i < length es → e ≡ get_or es i e
    → AreTied j None (take i es) → before ≡ last_fetched None (take i es) → IsUntied j before e stamp → IsFirstUntiedIn j None es stamp
found_step j es i e before stamp h at are is untied = record {
  front = take i es;
  entry = e;
  behind = drop (i + 1) es;
  stands = sym (take-append-drop i es) ∙ ap (λ (x : List Entry). take i es ++ x) (at_drop_more (λ (x : List Entry). x) es i e h ∙ ap (λ (x : Entry). x ∷ drop (i + 1) es) (sym at));
  tied = are;
  untied = subst (λ (b : Option ℕ). IsUntied j b e stamp) is untied;
}

-- all entries are tied
pub all_tied : (j : Journals) (es : List Entry) (i : ℕ) → length es ≤ i → AreTied j None (take i es) → AreTied j None es
all_tied j es i h are = subst (λ (x : List Entry). AreTied j None x) (take_all i es h) are

-- a controller's journal is that of the party with its number
pub of_controller : (j : Journals) (c : ℕ) (d : List Entry) → c < length j.controllers → get_or j.controllers c d ≡ journal_of j c
of_controller j c d h =
    get_or_default j.controllers c d [] h ∙ sym (get_or-append j.controllers (j.environment ∷ []) [] c h) ∙ party_journal j c

of_environment : (j : Journals) → j.environment ≡ journal_of j (length j.controllers)
of_environment j = sym (get_or-append_seam j.controllers j.environment [] []) ∙ party_journal j (length j.controllers)

of_nobody : (j : Journals) (p : ℕ) → length j.controllers < p → [] ≡ journal_of j p
of_nobody j p h =
    let over : length (journals_by_party j) ≤ p = omega (arith, length-append j.controllers (j.environment ∷ [])) in
    sym (get_or_past (journals_by_party j) p [] over) ∙ party_journal j p

-- the journals of these parties are tied
abbrev pub TiedBelow : Journals → ℕ → Type 0
TiedBelow j c = (p : ℕ) → p < c → AreTied j None (journal_of j p)

pub none_below : (j : Journals) → TiedBelow j 0
none_below j p h = absurd (let no : ⊥ = omega arith in no)

pub below_step : (j : Journals) (c : ℕ) (es : List Entry) → c < length j.controllers → es ≡ get_or j.controllers c es → TiedBelow j c → AreTied j None es → TiedBelow j (c + 1)
below_step j c es h at below is p lt = go (lt_or_is p c lt)
  where
    lt_or_is : (p c : ℕ) → p < c + 1 → (p < c) ⊎ (p ≡ c)
    lt_or_is p c h = pick (nat_lt p c) refl
      where
        pick : (b : Bool) → nat_lt p c ≡ b → (p < c) ⊎ (p ≡ c)
        pick true e = inl (ltb-true p c e)
        pick false e = inr (let low = ltb-false p c e in omega arith)

    go : (p < c) ⊎ (p ≡ c) → AreTied j None (journal_of j p)
    go (inl lower) = below p lower
    go (inr same) = subst (λ (n : ℕ). AreTied j None (journal_of j n)) (sym same) (subst (λ (xs : List Entry). AreTied j None xs) (at ∙ of_controller j c es h) is)

-- a controller's journal has the first one
pub first_of_controller : (j : Journals) (c : ℕ) (es : List Entry) (stamp : Stamp) → c < length j.controllers → es ≡ get_or j.controllers c es → TiedBelow j c
    → IsFirstUntiedIn j None es stamp → IsFirstUntied j (party_number c) stamp
first_of_controller j c es stamp h at below first = record {
  party = c;
  number = refl;
  first = subst (λ (xs : List Entry). IsFirstUntiedIn j None xs stamp) (at ∙ of_controller j c es h) first;
  earlier = below;
}

-- the environment's has it
pub first_of_environment : (j : Journals) (c : ℕ) (stamp : Stamp) → length j.controllers ≤ c → TiedBelow j c → IsFirstUntiedIn j None j.environment stamp → IsFirstUntied j (party_number (length j.controllers)) stamp
first_of_environment j c stamp over below first = record {
  party = length j.controllers;
  number = refl;
  first = subst (λ (es : List Entry). IsFirstUntiedIn j None es stamp) (of_environment j) first;
  earlier = λ p h. below p (omega arith);
}

-- nobody has it
pub tied_by_parties : (j : Journals) (c : ℕ) → length j.controllers ≤ c → TiedBelow j c → AreTied j None j.environment → Tied j
tied_by_parties j c over below last = record { entries = λ p. go p (nat_lt p (length j.controllers)) (nat_lt (length j.controllers) p) refl refl }
  where
    go : (p : ℕ) (a b : Bool) → nat_lt p (length j.controllers) ≡ a → nat_lt (length j.controllers) p ≡ b → AreTied j None (journal_of j p)
    go p true b e f = below p (let low = ltb-true p (length j.controllers) e in omega arith)
    go p false true e f = subst (λ (es : List Entry). AreTied j None es) (of_nobody j p (ltb-true (length j.controllers) p f)) tt
    go p false false e f =
        let is : length j.controllers ≡ p = let low = ltb-false p (length j.controllers) e in let high = ltb-false (length j.controllers) p f in omega arith in
        subst (λ (n : ℕ). AreTied j None (journal_of j n)) is (subst (λ (es : List Entry). AreTied j None es) (of_environment j) last)

-- ---- where there is an untied fetch, the journals aren't tied

entry_tied : (j : Journals) (before : Option ℕ) (front : List Entry) (e : Entry) (behind : List Entry) → AreTied j before (front ++ e ∷ behind) → IsTiedEntry j (last_fetched before front) e
entry_tied j before [] e behind are = are.0
entry_tied j before (x ∷ front) e behind are = entry_tied j (fetched_at x) front e behind are.1

untied_apart : (j : Journals) (before : Option ℕ) (e : Entry) (stamp : Stamp) → IsUntied j before e stamp → IsTiedEntry j before e → ⊥
untied_apart j before e stamp untied is = untied.untied (subst (λ (x : Entry). IsTiedEntry j before x) untied.is is)

first_apart : (j : Journals) (c : ControllerId) (stamp : Stamp) → IsFirstUntied j c stamp → Tied j → ⊥
first_apart j c stamp first tied =
    let in_journal = first.first in
    untied_apart j (last_fetched None in_journal.front) in_journal.entry stamp in_journal.untied
    (entry_tied j None in_journal.front in_journal.entry in_journal.behind (subst (λ (es : List Entry). AreTied j None es) in_journal.stands (tied.entries first.party)))

-- none is found exactly where the journals are tied
pub judged : (j : Journals) (r : Option (ControllerId × Stamp)) → MatchOption r (Tied j) (λ x. IsFirstUntied j x.0 x.1) → (r ≡ None) ↔ Tied j
judged j None tied = (λ e. tied, λ t. refl)
judged j (Some x) first = (λ e. absurd (none-some x (sym e)), λ t. absurd (first_apart j x.0 x.1 first t))
