-- What is lent, when actors have ended.
use Rattle.std.proofs.Common.{◌≡◌, ℕ, ◌+◌, ◌<◌, ◌≤◌, ◌==◌, ◌&&◌, ◌||◌, Bool, true, false, cond, List, [], ◌∷◌, Option, Some, None, length, get_or, drop, drop-cons, add-one, refl, sym, ap, ◌∙◌, arith, inl, inr}
use Rattle.std.proofs.Math.Path.{fun_ext}
use Rattle.std.specs.Prelude.{nat_lt}
use Rattle.std.specs.Option.{option_map_or}
use Rattle.std.proofs.lemmas.Bool.{cases_eq, cases_lt, lt-ltb, le-ltb, eq-eqb, ne_eqb, and_left, and_right}
use Rattle.room_kinds.specs.declared.numbers.Incarnation.{Incarnation}
use Rattle.room_wiring.specs.declared.tables.Tables.{Tables}
use Rattle.actor_duties.specs.Words.{updated, is_imported, is_part_of, container_of}
use Rattle.actor_duties.specs.State as rows
use Rattle.service_messages.specs.slot_runs.Runs.{IsDepthFirst, IsRunEnd}
use Rattle.service_messages.proofs.slot_runs.RunLemmas.{false_from, part_in_run, part_not_between, run_nested}
use Rattle.frame_lives.specs.Steps.{is_among}
use Rattle.frame_lives.proofs.Rows.{updated_here, updated_else}
use Rattle.frame_lives.proofs.Making.{one_below, and_true}
use Rattle.frame_service.specs.frame_imports.import_places.Lending.{Lending, is_import_of, with_places, forgotten, forgotten_where}
use Rattle.frame_service.proofs.frame_imports.import_places.Written.{same_lending}
use Rattle.frame_service.proofs.frame_endings.Back.{not_import}

-- of the import places that pass a test those below n hold nothing
abbrev pub cleared_below : (ℕ → Bool) → ℕ → (ℕ → rows.ImportPlace) → ℕ → rows.ImportPlace
cleared_below p n places i = cond (p i && nat_lt i n) rows.Empty (places i)

-- what doesn't stand behind s, in its run, is no import place of s
outside : (t : Tables) → IsDepthFirst t → (s e i : ℕ) → IsRunEnd t s e → ((s < i) × (i < e) → ⊥) → is_import_of t s i ≡ false
outside t first s e i run out = not_import t s i (false_from (is_part_of t i s) (λ h. out (part_in_run t first s e i run h)))

-- the import places of s below n hold nothing; n is the next part, or the end
pub record Clearing (t : Tables) (s e : ℕ) (old now : Lending) (n : ℕ) : Type 0 where
  pub behind : s < n
  pub within : n ≤ e
  pub cleared : now ≡ with_places old (cleared_below (is_import_of t s) n old.places)

pub clearing_begun : (t : Tables) → IsDepthFirst t → (s e : ℕ) (old : Lending) → IsRunEnd t s e → Clearing t s e old old (s + 1)
clearing_begun t first s e old run =
    let behind = run.behind in
    record {
      behind = omega arith;
      within = omega arith;
      cleared = ap (with_places old) (fun_ext (λ i. sym (ap (λ b. cond b rows.Empty (old.places i)) (none i))));
    }
  where
    none : (i : ℕ) → is_import_of t s i && nat_lt i (s + 1) ≡ false
    none i = elim (cases_lt i (s + 1)) [
      | inl before ↦ and_left (is_import_of t s i) (nat_lt i (s + 1)) (outside t first s e i run (λ c. let from = c.0 in omega arith))
      | inr after ↦ and_right (is_import_of t s i) (nat_lt i (s + 1)) (le-ltb i (s + 1) after)
    ]

clear_one : (p : ℕ → Bool) (n m : ℕ) (places : ℕ → rows.ImportPlace) → n < m → ((u : ℕ) → n < u → u < m → p u ≡ false) → (i : ℕ)
    → updated (cleared_below p n places) n (cond (p n) rows.Empty (cleared_below p n places n)) i ≡ cleared_below p m places i
clear_one p n m places behind none i = elim (cases_eq i n) [
  | inl here ↦
      updated_here (cleared_below p n places) n i (cond (p n) rows.Empty (cleared_below p n places n)) here
      ∙ ap (λ b. cond (p n) rows.Empty (cond b rows.Empty (places n))) (and_right (p n) (nat_lt n n) (le-ltb n n (omega arith)))
      ∙ ap (λ k. cond (p n) rows.Empty (places k)) (sym here)
      ∙ sym (ap (λ b. cond b rows.Empty (places i)) (step ∙ ap (λ b. cond b (p n) (p i && nat_lt i n)) (eq-eqb i n here)))
  | inr other ↦
      updated_else (cleared_below p n places) n i (cond (p n) rows.Empty (cleared_below p n places n)) other
      ∙ sym (ap (λ b. cond b rows.Empty (places i)) (step ∙ ap (λ b. cond b (p n) (p i && nat_lt i n)) (ne_eqb i n other)))
]
  where
    step : p i && nat_lt i m ≡ cond (i == n) (p n) (p i && nat_lt i n)
    step = one_below p n m i behind none

-- the next part is cleared, if it is an import place of s
pub clearing_on : (t : Tables) (s e : ℕ) (old now after : Lending) (n f : ℕ) → IsRunEnd t s e → IsRunEnd t n f → n < e
    → after ≡ with_places now (updated now.places n (cond (is_import_of t s n) rows.Empty (now.places n))) → Clearing t s e old now n → Clearing t s e old after f
clearing_on t s e old now after n f run skipped l is w =
    let behind = w.behind in
    let ends = skipped.behind in
    record {
      behind = omega arith;
      within = run_nested t s e n f run skipped behind l;
      cleared =
          is ∙ ap (λ (k : Lending). with_places k (updated k.places n (cond (is_import_of t s n) rows.Empty (k.places n)))) w.cleared
          ∙ ap (with_places old) (fun_ext (clear_one (is_import_of t s) n f old.places ends
          (λ u a b. not_import t s u (part_not_between t s n f u skipped behind a b))));
    }

-- all import places of s are cleared
pub clearing_done : (t : Tables) → IsDepthFirst t → (s e : ℕ) (old now : Lending) (n : ℕ) → IsRunEnd t s e → e ≤ n → Clearing t s e old now n
    → now ≡ with_places old (λ i. cond (is_import_of t s i) rows.Empty (old.places i))
clearing_done t first s e old now n run over w =
    w.cleared ∙ ap (with_places old) (fun_ext (λ i. ap (λ b. cond b rows.Empty (old.places i)) (all i)))
  where
    all : (i : ℕ) → is_import_of t s i && nat_lt i n ≡ is_import_of t s i
    all i = elim (cases_lt i n) [
      | inl before ↦ ap (λ b. is_import_of t s i && b) (lt-ltb i n before) ∙ and_true (is_import_of t s i)
      | inr after ↦
          let none : is_import_of t s i ≡ false = outside t first s e i run (λ c. let to = c.1 in omega arith) in
          and_left (is_import_of t s i) (nat_lt i n) none ∙ sym none
    ]

-- what one actor leaves, and then the others
where_more : (t : Tables) (x : Incarnation) (xs : List Incarnation) (l : Lending)
    → forgotten_where t (is_among (x ∷ xs)) l ≡ forgotten_where t (is_among xs) (forgotten t x.slot.0 l)
unfolding updated
where_more t x xs l =
    same_lending (fun_ext (λ i. place (is_imported t i) (container_of t i) (l.places i))) (fun_ext (λ s. plug (s == x.slot.0) (is_among xs s) (l.plugs s)))
  where
    two : (b a d : Bool) (p : rows.ImportPlace) → cond (b && (a || d)) rows.Empty p ≡ cond (b && d) rows.Empty (cond (b && a) rows.Empty p)
    two true true true p = refl
    two true true false p = refl
    two true false d p = refl
    two false a d p = refl

    nothing : (b : Bool) (p : rows.ImportPlace) → cond (b && false) rows.Empty p ≡ cond (b && false) rows.Empty (cond (b && false) rows.Empty p)
    nothing true p = refl
    nothing false p = refl

    place : (b : Bool) (o : Option ℕ) (p : rows.ImportPlace)
        → cond (b && option_map_or (is_among (x ∷ xs)) o false) rows.Empty p
        ≡ cond (b && option_map_or (is_among xs) o false) rows.Empty (cond (b && option_map_or (λ c. c == x.slot.0) o false) rows.Empty p)
    place b None p = nothing b p
    place b (Some c) p = two b (c == x.slot.0) (is_among xs c) p

    plug : (a d : Bool) (ps : List Incarnation) → cond (a || d) [] ps ≡ cond d [] (cond a [] ps)
    plug true true ps = refl
    plug true false ps = refl
    plug false d ps = refl

-- one more of these has ended
pub where_next : (t : Tables) (old before after : Lending) (xs : List Incarnation) (i : ℕ) (d : Incarnation) → i < length xs
    → after ≡ forgotten t (get_or xs i d).slot.0 before
    → forgotten_where t (is_among xs) old ≡ forgotten_where t (is_among (drop i xs)) before
    → forgotten_where t (is_among xs) old ≡ forgotten_where t (is_among (drop (i + 1) xs)) after
where_next t old before after xs i d there is so_far =
    let rest : drop i xs ≡ get_or xs i d ∷ drop (i + 1) xs = rw add-one (drop-cons xs i d there) in
    so_far ∙ ap (λ (ys : List Incarnation). forgotten_where t (is_among ys) before) rest
    ∙ where_more t (get_or xs i d) (drop (i + 1) xs) before
    ∙ ap (λ (k : Lending). forgotten_where t (is_among (drop (i + 1) xs)) k) (sym is)

-- where none has ended nothing is forgotten
pub where_none : (t : Tables) (l : Lending) → forgotten_where t (is_among []) l ≡ l
where_none t l = same_lending (fun_ext (λ i. none (is_imported t i) (container_of t i) (l.places i))) refl
  where
    none : (b : Bool) (o : Option ℕ) (p : rows.ImportPlace) → cond (b && option_map_or (is_among []) o false) rows.Empty p ≡ p
    none true None p = refl
    none true (Some c) p = refl
    none false o p = refl
