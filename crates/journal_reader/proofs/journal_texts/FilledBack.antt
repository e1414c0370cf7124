-- Outlines of tied journals, filled, are the journals.
use Rattle.std.proofs.Common.{◌≡◌, ℕ, zero, suc, ◌<◌, nat_lt, cond, Bool, true, false, List, [], ◌∷◌, ◌++◌, length, get_or, map, refl, sym, ap, ◌∙◌, subst, arith, Option, None}
use Rattle.std.specs.Prelude.{unwrap_or}
use Rattle.std.proofs.lemmas.List.{length-map}
use Rattle.room_kinds.specs.declared.message.Msg.{Msg}
use Rattle.journal.specs.declared.entry.Entry.{Entry}
use Rattle.journal.specs.declared.entry.Entry.TheVariants as entries
use Rattle.journal.specs.declared.entry.Journals.{Journals}
use Rattle.tied_journals.specs.Tied.{journal_of, posted_by, posted_at, fetched_at, IsTiedEntry, AreTied, Tied}
use Rattle.tied_journals.specs.PostTables.{kept_of, only_of}
use Rattle.tied_journals.proofs.UntiedSteps.{of_controller}
use Rattle.journal_reader.specs.journal_lines.Fetches.{outline}
use Rattle.journal_reader.specs.journal_texts.Outlines.{outlined, outlined_entries, outlined_journals}
use Rattle.journal_reader.specs.journal_texts.Filled.{filled_entry, filled_entries, filled}

-- what a journal posts is in its outline too
posts_stay_one : (sent : ℕ) (e : Entry) → posted_by sent (outlined e) ≡ posted_by sent e
posts_stay_one sent (entries.Start who state notes) = refl
posts_stay_one sent (entries.Fetch stamp m) = refl
posts_stay_one sent (entries.Turn stamp from taken did notes) = refl
posts_stay_one sent (entries.Post stamp m) = refl

posts_stay : (sent : ℕ) (es : List Entry) → posted_at sent (outlined_entries es) ≡ posted_at sent es
posts_stay sent [] = refl
posts_stay sent (e ∷ es) =
    ap (λ (x : List Msg). x ++ posted_at sent (outlined_entries es)) (posts_stay_one sent e) ∙ ap (λ (x : List Msg). posted_by sent e ++ x) (posts_stay sent es)

outlined_at : (ess : List (List Entry)) (k : ℕ) → get_or (map outlined_entries ess) k [] ≡ outlined_entries (get_or ess k [])
outlined_at [] k = refl
outlined_at (es ∷ ess) zero = refl
outlined_at (es ∷ ess) (suc k) = outlined_at ess k

-- what a party posts stays
party_posts_stay : (j : Journals) (party sent : ℕ) → posted_at sent (journal_of (outlined_journals j) party) ≡ posted_at sent (journal_of j party)
party_posts_stay j party sent =
    let n : ℕ = length j.controllers in
    let same : length (map outlined_entries j.controllers) ≡ n = length-map j.controllers outlined_entries in
    let chosen : ℕ → List Entry → List Entry = λ k es. cond (nat_lt party k) es (cond (nat_lt k party) [] j.environment) in
    ap (λ (k : ℕ). posted_at sent (chosen k (get_or (map outlined_entries j.controllers) party []))) same
    ∙ ap (λ (es : List Entry). posted_at sent (chosen n es)) (outlined_at j.controllers party)
    ∙ by_case (nat_lt party n)
  where
    by_case : (inside : Bool) → posted_at sent (cond inside (outlined_entries (get_or j.controllers party [])) (cond (nat_lt (length j.controllers) party) [] j.environment))
        ≡ posted_at sent (cond inside (get_or j.controllers party []) (cond (nat_lt (length j.controllers) party) [] j.environment))
    by_case true = posts_stay sent (get_or j.controllers party [])
    by_case false = refl

-- a tied entry, outlined and filled
entry_back : (j : Journals) (before : Option ℕ) (e : Entry) → IsTiedEntry j before e → filled_entry (outlined_journals j) (outlined e) ≡ e
entry_back j before (entries.Start who state notes) is = refl
entry_back j before (entries.Fetch stamp m) is =
    ap (λ (ms : List Msg). entries.Fetch stamp (unwrap_or (only_of (kept_of ms)) (outline m.from.0 m.to m.stamp.0))) (party_posts_stay j m.from.0 m.stamp.0 ∙ is.posted)
entry_back j before (entries.Turn stamp from sent did notes) is = refl
entry_back j before (entries.Post stamp m) is = refl

entries_back : (j : Journals) (before : Option ℕ) (es : List Entry) → AreTied j before es → filled_entries (outlined_journals j) (outlined_entries es) ≡ es
entries_back j before [] are = refl
entries_back j before (e ∷ es) are =
    ap (λ (x : Entry). x ∷ filled_entries (outlined_journals j) (outlined_entries es)) (entry_back j before e are.0)
    ∙ ap (λ (x : List Entry). e ∷ x) (entries_back j (fetched_at e) es are.1)

-- the journals of the controllers from one on
all_back : (j : Journals) (ess : List (List Entry)) → ((k : ℕ) → k < length ess → AreTied j None (get_or ess k []))
    → map (filled_entries (outlined_journals j)) (map outlined_entries ess) ≡ ess
all_back j [] each = refl
all_back j (es ∷ ess) each =
    ap (λ (x : List Entry). x ∷ map (filled_entries (outlined_journals j)) (map outlined_entries ess)) (entries_back j None es (each 0 (omega arith)))
    ∙ ap (λ (x : List (List Entry)). es ∷ x) (all_back j ess (λ k h. each (suc k) (omega arith)))

pub filled_back : (j : Journals) → Tied j → filled (outlined_journals j) ≡ j
filled_back j tied =
    ap (λ (cs : List (List Entry)). record j { controllers = cs })
    (all_back j j.controllers (λ k h. subst (λ (es : List Entry). AreTied j None es) (sym (of_controller j k [] h)) (tied.entries k)))
