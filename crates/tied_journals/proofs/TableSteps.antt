-- How the tables of posts come up, and what they tell.
use Rattle.std.proofs.Common.{◌≡◌, ℕ, zero, suc, ◌+◌, ◌<◌, ◌≤◌, nat_lt, Bool, true, false, cond, List, [], ◌∷◌, ◌++◌, length, get_or, take, Option, Some, None, refl, sym, ap, ◌∙◌, subst, arith, append-nil, append_assoc, length-append}
use Rattle.std.proofs.Common.{IsTrue, ◌↔◌}
use Rattle.std.proofs.lemmas.Option.{none-some}
use Rattle.std.proofs.lemmas.Bool.{ltb-true, ltb-false}
use Rattle.std.proofs.lemmas.List.{take_more, take_all, get_or_past}
use Rattle.std.proofs.lemmas.Grind.{flat_map-append}
use Rattle.std.proofs.Math.ListN.{get_or-append}
use Rattle.std.proofs.Math.Seq.{get_or-append_seam}
use Rattle.room_kinds.specs.declared.message.Msg.{Msg}
use Rattle.journal.specs.declared.entry.Entry.{Entry}
use Rattle.journal.specs.declared.entry.Journals.{Journals}
use Rattle.tied_journals.specs.declared.tables.PartyPosts.{PartyPosts}
use Rattle.tied_journals.specs.Tied.{journal_of, posted_by, posted_at}
use Rattle.tied_journals.specs.PostTables.{kept_of, with_post, with_posts, kept_at, only_of, IsTableOf, AreTablesOf, journals_by_party, only_post}

-- one more post
kept_more : (ms : List Msg) (m : Msg) → kept_of (ms ++ m ∷ []) ≡ with_post (kept_of ms) m
kept_more [] m = refl
kept_more (a ∷ []) m = refl
kept_more (a ∷ b ∷ ms) m = refl

-- more posts
kept-append : (ms ns : List Msg) → kept_of (ms ++ ns) ≡ with_posts (kept_of ms) ns
kept-append ms [] = ap kept_of (append-nil ms)
kept-append ms (n ∷ ns) =
    ap kept_of (sym (append_assoc ms (n ∷ []) ns)) ∙ kept-append (ms ++ n ∷ []) ns
    ∙ ap (λ (k : Option (Option Msg)). with_posts k ns) (kept_more ms n)

-- an entry that posts
pub post_step : (kept : Option (Option Msg)) (same : Bool) (m : Msg) → cond same (with_post kept m) kept ≡ with_posts kept (cond same (m ∷ []) [])
post_step kept true m = refl
post_step kept false m = refl

-- the items so far, and the next one
pub take_next : {A : Type 0} (xs : List A) (i : ℕ) (x : A) → i < length xs → x ≡ get_or xs i x → take (i + 1) xs ≡ take i xs ++ x ∷ []
take_next xs i x h is = take_more xs i x h ∙ ap (λ y. take i xs ++ y ∷ []) (sym is)

-- one more entry of a journal
pub table_step : (old new : PartyPosts) (es : List Entry) (i : ℕ) (e : Entry)
    → i < length es → e ≡ get_or es i e → IsTableOf old (take i es) → ((sent : ℕ) → kept_at new sent ≡ with_posts (kept_at old sent) (posted_by sent e))
    → IsTableOf new (take (i + 1) es)
table_step old new es i e h at is step sent =
    let before = posted_at sent (take i es) in
    step sent ∙ ap (λ (k : Option (Option Msg)). with_posts k (posted_by sent e)) (is sent) ∙ sym (kept-append before (posted_by sent e))
    ∙ ap (λ (xs : List Msg). kept_of (before ++ xs)) (sym (append-nil (posted_by sent e)))
    ∙ ap kept_of (sym (flat_map-append (posted_by sent) (take i es) (e ∷ [])))
    ∙ ap (λ (xs : List Entry). kept_of (posted_at sent xs)) (sym (take_next es i e h at))

-- one more journal
pub tables_more : (ps : List PartyPosts) (ess : List (List Entry)) (p : PartyPosts) (es : List Entry)
    → AreTablesOf ps ess → IsTableOf p es → AreTablesOf (ps ++ p ∷ []) (ess ++ es ∷ [])
tables_more [] [] p es are is = (is, tt)
tables_more [] (xs ∷ ess) p es are is = absurd are
tables_more (q ∷ ps) [] p es are is = absurd are
tables_more (q ∷ ps) (xs ∷ ess) p es are is = (are.0, tables_more ps ess p es are.1 is)

-- the next of the journals
pub tables_step : (ps : List PartyPosts) (ess : List (List Entry)) (i : ℕ) (es : List Entry) (p : PartyPosts)
    → i < length ess → es ≡ get_or ess i es → AreTablesOf ps (take i ess) → IsTableOf p es → AreTablesOf (ps ++ p ∷ []) (take (i + 1) ess)
tables_step ps ess i es p h at are is =
    subst (λ (x : List (List Entry)). AreTablesOf (ps ++ p ∷ []) x) (sym (take_next ess i es h at)) (tables_more ps (take i ess) p es are is)

-- all controllers' journals, and the environment's
pub tables_end : (ps : List PartyPosts) (ess : List (List Entry)) (i : ℕ) (es : List Entry) (p : PartyPosts)
    → length ess ≤ i → AreTablesOf ps (take i ess) → IsTableOf p es → AreTablesOf (ps ++ p ∷ []) (ess ++ es ∷ [])
tables_end ps ess i es p h are is = tables_more ps ess p es (subst (λ (x : List (List Entry)). AreTablesOf ps x) (take_all i ess h) are) is

-- the whole journal
pub table_end : (table : PartyPosts) (es : List Entry) (i : ℕ) → length es ≤ i → IsTableOf table (take i es) → IsTableOf table es
table_end table es i h is = subst (λ (x : List Entry). IsTableOf table x) (take_all i es h) is

-- a party's table
table_at : (ps : List PartyPosts) (ess : List (List Entry)) (k : ℕ) (d : PartyPosts) → AreTablesOf ps ess → k < length ps → IsTableOf (get_or ps k d) (get_or ess k [])
table_at [] ess k d are h = absurd (let no : ⊥ = omega arith in no)
table_at (p ∷ ps) [] k d are h = absurd are
table_at (p ∷ ps) (es ∷ ess) zero d are h = are.0
table_at (p ∷ ps) (es ∷ ess) (suc k) d are h = table_at ps ess k d are.1 (omega arith)

-- as many tables as journals
same_count : (ps : List PartyPosts) (ess : List (List Entry)) → AreTablesOf ps ess → length ps ≡ length ess
same_count [] [] are = refl
same_count [] (es ∷ ess) are = absurd are
same_count (p ∷ ps) [] are = absurd are
same_count (p ∷ ps) (es ∷ ess) are = ap suc (same_count ps ess are.1)

-- the journal of a party stands in the list of all
pub party_journal : (j : Journals) (p : ℕ) → get_or (journals_by_party j) p [] ≡ journal_of j p
party_journal j p = go (nat_lt p (length j.controllers)) (nat_lt (length j.controllers) p) refl refl
  where
    cs : List (List Entry)
    cs = j.controllers

    chosen : Bool → Bool → List Entry
    chosen a b = cond a (get_or cs p []) (cond b [] j.environment)

    go : (a b : Bool) → nat_lt p (length cs) ≡ a → nat_lt (length cs) p ≡ b → get_or (cs ++ j.environment ∷ []) p [] ≡ chosen (nat_lt p (length cs)) (nat_lt (length cs) p)
    go true b e f = get_or-append cs (j.environment ∷ []) [] p (ltb-true p (length cs) e) ∙ ap (λ (x : Bool). chosen x (nat_lt (length cs) p)) (sym e)
    go false true e f =
        let over : length (cs ++ j.environment ∷ []) ≤ p = let beyond = ltb-true (length cs) p f in omega (arith, length-append cs (j.environment ∷ [])) in
        get_or_past (cs ++ j.environment ∷ []) p [] over
        ∙ ap (λ (x : Bool). chosen x true) (sym e) ∙ ap (λ (x : Bool). chosen (nat_lt p (length cs)) x) (sym f)
    go false false e f =
        let last : p ≡ length cs = let low = ltb-false p (length cs) e in let high = ltb-false (length cs) p f in omega arith in
        ap (λ (n : ℕ). get_or (cs ++ j.environment ∷ []) n []) last ∙ get_or-append_seam cs j.environment [] []
        ∙ ap (λ (x : Bool). chosen x false) (sym e) ∙ ap (λ (x : Bool). chosen (nat_lt p (length cs)) x) (sym f)

-- what the table of a party tells
pub told_of_party : (ps : List PartyPosts) (j : Journals) (party sent : ℕ) (table : PartyPosts)
    → AreTablesOf ps (journals_by_party j) → party < length ps → table ≡ get_or ps party table → only_of (kept_at table sent) ≡ only_post j party sent
told_of_party ps j party sent table are h is =
    ap (λ (x : PartyPosts). only_of (kept_at x sent)) is
    ∙ ap only_of (table_at ps (journals_by_party j) party table are h sent)
    ∙ ap (λ (es : List Entry). only_of (kept_of (posted_at sent es))) (party_journal j party)

-- no party has this number
pub told_of_none : (ps : List PartyPosts) (j : Journals) (party sent : ℕ) → AreTablesOf ps (journals_by_party j) → length ps ≤ party → None ≡ only_post j party sent
told_of_none ps j party sent are h =
    let over : length (journals_by_party j) ≤ party = let count = same_count ps (journals_by_party j) are in omega arith in
    ap (λ (es : List Entry). only_of (kept_of (posted_at sent es))) (sym (get_or_past (journals_by_party j) party [] over) ∙ party_journal j party)

-- whether the only post, where there is one, is this message
pub kept_alone : (ms : List Msg) (p m : Msg) (same : Bool) → Some p ≡ only_of (kept_of ms) → (IsTrue same ↔ (p ≡ m)) → IsTrue same ↔ (ms ≡ m ∷ [])
kept_alone [] p m same is told = absurd (none-some p (sym is))
kept_alone (a ∷ []) p m same is told =
    let alone : p ≡ a = cc in
    (λ yes. let e : p ≡ m = told.0 yes in cc, λ e. told.1 (let h : a ≡ m = cc in alone ∙ h))
kept_alone (a ∷ b ∷ ms) p m same is told = absurd (none-some p (sym is))
