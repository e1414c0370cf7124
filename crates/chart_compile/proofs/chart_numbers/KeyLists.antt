-- Keys of nodes, in the order of their numbers.
use Rattle.std.proofs.Common.{◌≡◌, ℕ, List, [], ◌∷◌, ◌++◌, sym, ap, ◌∙◌, subst, Option, Some, None, Bor}
use Rattle.std.specs.List.{cons_option}
use Rattle.std.proofs.lemmas.List.{append-nil, map-append}
use Rattle.name_tables.specs.name_numbers.Names.{names_of}
use Rattle.chart_reader.specs.chart_nodes.Steps.{StepTree}
use Rattle.chart_reader.specs.chart_nodes.Circles.{targets_of}
use Rattle.chart_compile.specs.chart_places.Groups.{picked}
use Rattle.chart_compile.proofs.chart_rows.Listing.{picked_next}
use Rattle.std.proofs.Common.{◌<◌, ◌+◌, length, get_or, take}
use Rattle.std.specs.Prelude.{slice_get}

-- the keys with that of a step behind them, if there is a step
abbrev AddsKey : Option StepTree → (old new : List (Bor (List ℕ))) → Type 0
AddsKey o old new = names_of new ≡ names_of old ++ targets_of (cons_option o [])

pub key_missing : (old : List (Bor (List ℕ))) (o : Option StepTree) → o ≡ None → names_of old ≡ names_of old ++ targets_of (cons_option o [])
key_missing old o e = subst (λ (o : Option StepTree). AddsKey o old old) (sym e) (sym (append-nil (names_of old)))

pub key_more : (old new : List (Bor (List ℕ))) (key : Bor (List ℕ)) (o : Option StepTree) (s : StepTree) → o ≡ Some s → new ≡ old ++ key ∷ [] → key.now ≡ s.target → names_of new ≡ names_of old ++ targets_of (cons_option o [])
key_more old new key o s is e k =
    subst (λ (o : Option StepTree). AddsKey o old new) (sym is)
    (ap names_of e ∙ map-append (λ (r : Bor (List ℕ)). r.now) old (key ∷ []) ∙ ap (λ (t : List ℕ). names_of old ++ t ∷ []) k)

-- one number more
pub keys_next : (steps : List StepTree) (numbers : List ℕ) (i : ℕ) (old new : List (List ℕ)) → i < length numbers → old ≡ targets_of (picked steps (take i numbers))
    → new ≡ old ++ targets_of (cons_option (slice_get steps (get_or numbers i 0)) []) → new ≡ targets_of (picked steps (take (i + 1) numbers))
keys_next steps numbers i old new h before e =
    let here = cons_option (slice_get steps (get_or numbers i 0)) [] in
    e ∙ ap (λ l. l ++ targets_of here) before ∙ sym (map-append (λ (s : StepTree). s.target) (picked steps (take i numbers)) here) ∙ ap targets_of (sym (picked_next steps numbers i h))
