-- Refinements in groups: each group has those that begin with its name.
use Rattle.std.proofs.Common.{◌≡◌, ℕ, zero, suc, ◌+◌, ◌<◌, ◌≤◌, Bool, true, false, List, [], ◌∷◌, ◌++◌, length, map, take, get_or, Option, Some, None, Bor, refl, sym, ap, ◌∙◌, subst, append_assoc, arith}
use Rattle.std.specs.Prelude.{◌||◌, is_some, position, option_map, slice_get, slice_set, if◌then◌else◌}
use Rattle.std.specs.List.{cons_option, slice_index_or}
use Rattle.std.specs.Option.{option_and_then, option_map_or, option_to_list}
use Rattle.std.proofs.lemmas.List.{append-nil, map_push, map_more}
use Rattle.std.proofs.lemmas.List.Elements.{filter_map-append}
use Rattle.std.proofs.lemmas.List.Quantifiers.{position-Some}
use Rattle.name_tables.specs.name_numbers.Names.{same, is_among, names_of}
use Rattle.name_tables.proofs.name_index.Lists.{some_place}
use Rattle.room_ast.specs.ChartTree.{ChangeTree}
use Rattle.room_ast.specs.declared.chart.Code.{Code}
use Rattle.derived_classes.specs.Grouping.{GroupTree, no_group, first_of, first_names, gathered, gathered_at, gather, gather_all, group_of, inside_of, actions_of}
use Rattle.derived_classes.specs.Refining.{Refining, step_into, below, code_of, codes_of, added_actions}
use Rattle.derived_classes.specs.Views.{IsGrouped, code_views, refining_view, refining_views, group_view, group_views}
use Rattle.derived_classes.specs.declared.refining.grouped.Group.{Group}
use Rattle.derived_classes.specs.declared.refining.grouped.Grouped.{Grouped}
use Rattle.derived_classes.specs.declared.refining.paths.Pending.{Pending}
use Rattle.derived_classes.proofs.Lists.{none_some, some_same, mapped_length}
use Rattle.derived_classes.proofs.Seen.{same_is, same_own}

-- ---- what the code does to groups

pub gathered_set : (gs : List Group) (k : ℕ) (g h : Group) (p : Pending) → k < length gs → g ≡ get_or gs k g → group_view h ≡ gathered (group_view g) (refining_view p) → group_views (slice_set gs k h) ≡ gathered_at (group_views gs) k (refining_view p)
gathered_set [] k g h p lt here made = absurd (omega arith)
gathered_set (x ∷ xs) zero g h p lt here made = ap (λ v. v ∷ group_views xs) (made ∙ ap (λ (y : Group). gathered (group_view y) (refining_view p)) here)
gathered_set (x ∷ xs) (suc k) g h p lt here made = ap (λ vs. group_view x ∷ vs) (gathered_set xs k g h p (omega (arith, lt)) here made)

pub gathered_past : (gs : List Group) (k : ℕ) (r : Refining) → length gs ≤ k → gathered_at (group_views gs) k r ≡ group_views gs
gathered_past [] k r le = refl
gathered_past (g ∷ gs) zero r le = absurd (omega (arith, le))
gathered_past (g ∷ gs) (suc k) r le = ap (λ vs. group_view g ∷ vs) (gathered_past gs k r (omega (arith, le)))

-- ---- one refinement is added

at_same : (gs : List GroupTree) (k : ℕ) (r : Refining) → slice_get (gathered_at gs k r) k ≡ option_map (λ g. gathered g r) (slice_get gs k)
at_same [] k r = refl
at_same (g ∷ gs) zero r = refl
at_same (g ∷ gs) (suc k) r = at_same gs k r

at_other : (gs : List GroupTree) (k j : ℕ) (r : Refining) → (j ≡ k → ⊥) → slice_get (gathered_at gs k r) j ≡ slice_get gs j
at_other [] k j r ne = refl
at_other (g ∷ gs) zero zero r ne = absurd (ne refl)
at_other (g ∷ gs) zero (suc j) r ne = refl
at_other (g ∷ gs) (suc k) zero r ne = refl
at_other (g ∷ gs) (suc k) (suc j) r ne = at_other gs k j r (λ e. ne (ap suc e))

length_at : (gs : List GroupTree) (k : ℕ) (r : Refining) → length (gathered_at gs k r) ≡ length gs
length_at [] k r = refl
length_at (g ∷ gs) zero r = refl
length_at (g ∷ gs) (suc k) r = ap suc (length_at gs k r)

-- two names at one place are the same
same_place : (names : List (List ℕ)) (n m : List ℕ) (k : ℕ) → position (same n) names ≡ Some k → position (same m) names ≡ Some k → same n m ≡ true
same_place names n m k e f =
    let one : n ≡ get_or names k [] = same_is n (get_or names k []) (position-Some (same n) names k [] e).1 in
    let two : m ≡ get_or names k [] = same_is m (get_or names k []) (position-Some (same m) names k [] f).1 in
    subst (λ x. same n x ≡ true) (one ∙ sym two) (same_own n)

there : (gs : List GroupTree) (k : ℕ) → k < length gs → (g : GroupTree) × (slice_get gs k ≡ Some g)
there [] k lt = absurd (omega arith)
there (g ∷ gs) zero lt = (g, refl)
there (g ∷ gs) (suc k) lt = there gs k (omega (arith, lt))

module _ (names : List (List ℕ)) (gs : List GroupTree) (n : List ℕ) (k : ℕ) (r : Refining) (at : position (same n) names ≡ Some k) (within : k < length gs) where
  -- the group of a name, with one more refinement or not
  group_then : (name : List ℕ) → group_of names (gathered_at gs k r) name ≡ (if same n name then option_map (λ g. gathered g r) (group_of names gs name) else group_of names gs name)
  group_then name = go (same n name) refl
    where
      kept : (o : Option ℕ) → position (same name) names ≡ o → same n name ≡ false → option_and_then (slice_get (gathered_at gs k r)) o ≡ option_and_then (slice_get gs) o
      kept None e miss = refl
      kept (Some j) e miss = at_other gs k j r (λ same_at. differ (sym (same_place names n name k at (e ∙ ap Some same_at)) ∙ miss))
        where
          differ : true ≡ false → ⊥
          differ e = absurd cc

      go : (t : Bool) → same n name ≡ t → group_of names (gathered_at gs k r) name ≡ (if t then option_map (λ g. gathered g r) (group_of names gs name) else group_of names gs name)
      go true e =
          let here : position (same name) names ≡ Some k = subst (λ x. position (same x) names ≡ Some k) (same_is n name e) at in
          ap (option_and_then (slice_get (gathered_at gs k r))) here ∙ at_same gs k r ∙ sym (ap (λ o. option_map (λ g. gathered g r) (option_and_then (slice_get gs) o)) here)
      go false e = kept (position (same name) names) refl e

  inside_with : (name : List ℕ) → inside_of names (gathered_at gs k r) name ≡ inside_of names gs name ++ option_to_list (if same n name then Some r else None)
  inside_with name = ap (λ o. option_map_or (λ (g : GroupTree). g.inside) o []) (group_then name) ∙ go (same n name) refl
    where
      go : (t : Bool) → same n name ≡ t → option_map_or (λ (g : GroupTree). g.inside) (if t then option_map (λ g. gathered g r) (group_of names gs name) else group_of names gs name) [] ≡ inside_of names gs name ++ option_to_list (if t then Some r else None)
      go true e =
          let here : group_of names gs name ≡ Some (there gs k within).0 = ap (option_and_then (slice_get gs)) (subst (λ x. position (same x) names ≡ Some k) (same_is n name e) at) ∙ (there gs k within).1 in
          ap (λ o. option_map_or (λ (g : GroupTree). g.inside) (option_map (λ g. gathered g r) o) []) here ∙ sym (ap (λ o. option_map_or (λ (g : GroupTree). g.inside) o [] ++ r ∷ []) here)
      go false e = sym (append-nil (inside_of names gs name))

-- ---- all of them

-- The first names of refinements are among these.
abbrev IsAmong : List (List ℕ) → List (List ℕ) → Type 0
IsAmong names [] = Unit {0}
IsAmong names (n ∷ ns) = is_among names n ≡ true

abbrev AreAmong : List (List ℕ) → List Refining → Type 0
AreAmong names [] = Unit {0}
AreAmong names (r ∷ rs) = IsAmong names r.path × AreAmong names rs

or_true : (a : Bool) → (a || true) ≡ true
or_true true = refl
or_true false = refl

one_longer : (names path : List (List ℕ)) (x : List ℕ) → IsAmong names path → IsAmong (x ∷ names) path
one_longer names [] x is = tt
one_longer names (n ∷ ns) x is = ap (λ b. same n x || b) is ∙ or_true (same n x)

longer : (names : List (List ℕ)) (rs : List Refining) (x : List ℕ) → AreAmong names rs → AreAmong (x ∷ names) rs
longer names [] x are = tt
longer names (r ∷ rs) x (is, are) = (one_longer names r.path x is, longer names rs x are)

their_names : (rs : List Refining) → AreAmong (first_names rs) rs
their_names [] = tt
their_names (r ∷ rs) = go r.path (their_names rs)
  where
    go : (path : List (List ℕ)) → AreAmong (first_names rs) rs → IsAmong (cons_option (first_of path) (first_names rs)) path × AreAmong (cons_option (first_of path) (first_names rs)) rs
    go [] are = (tt, are)
    go (n ∷ ns) are = (ap (λ b. b || is_among (first_names rs) n) (same_own n), longer (first_names rs) rs n are)

placed : (names : List (List ℕ)) (n : List ℕ) → is_among names n ≡ true → (k : ℕ) × (position (same n) names ≡ Some k)
placed names n is = go (position (same n) names) refl (some_place (same n) names ∙ is)
  where
    go : (o : Option ℕ) → position (same n) names ≡ o → is_some o ≡ true → (k : ℕ) × (position (same n) names ≡ Some k)
    go None e some = absurd cc
    go (Some k) e some = (k, e)

one_sized : (names path : List (List ℕ)) (change : ChangeTree) (gs : List GroupTree) → length (gather names path change gs) ≡ length gs
one_sized names [] change gs = refl
one_sized names (n ∷ ns) change gs = go (position (same n) names)
  where
    go : (o : Option ℕ) → length (option_map_or (λ k. gathered_at gs k (record { path = ns; change = change })) o gs) ≡ length gs
    go None = refl
    go (Some k) = length_at gs k (record { path = ns; change = change })

gathered_is : (names : List (List ℕ)) (n : List ℕ) (ns : List (List ℕ)) (change : ChangeTree) (gs : List GroupTree) (k : ℕ) → position (same n) names ≡ Some k → gather names (n ∷ ns) change gs ≡ gathered_at gs k (record { path = ns; change = change })
gathered_is names n ns change gs k e = ap (λ o. option_map_or (λ k. gathered_at gs k (record { path = ns; change = change })) o gs) e

one_inside : (names path : List (List ℕ)) (change : ChangeTree) (gs : List GroupTree) (name : List ℕ) → length gs ≡ length names → IsAmong names path → inside_of names (gather names path change gs) name ≡ inside_of names gs name ++ option_to_list (step_into name path change)
one_inside names [] change gs name sized is = sym (append-nil (inside_of names gs name))
one_inside names (n ∷ ns) change gs name sized is =
    let at = placed names n is in
    let within : at.0 < length names = (position-Some (same n) names at.0 [] at.1).0 in
    ap (λ hs. inside_of names hs name) (gathered_is names n ns change gs at.0 at.1) ∙ inside_with names gs n at.0 (record { path = ns; change = change }) at.1 (omega (arith, sized, within)) name

one_before : {A : Type 0} (xs ys : List A) (o : Option A) → (xs ++ option_to_list o) ++ ys ≡ xs ++ cons_option o ys
one_before xs ys None = ap (λ zs. zs ++ ys) (append-nil xs)
one_before xs ys (Some x) = append_assoc xs (x ∷ []) ys

all_inside : (names : List (List ℕ)) (rs : List Refining) (gs : List GroupTree) (name : List ℕ) → length gs ≡ length names → AreAmong names rs → inside_of names (gather_all names rs gs) name ≡ inside_of names gs name ++ below name rs
all_inside names [] gs name sized are = sym (append-nil (inside_of names gs name))
all_inside names (r ∷ rs) gs name sized (is, are) =
    all_inside names rs (gather names r.path r.change gs) name (one_sized names r.path r.change gs ∙ sized) are
    ∙ ap (λ xs. xs ++ below name rs) (one_inside names r.path r.change gs name sized is) ∙ one_before (inside_of names gs name) (below name rs) (step_into name r.path r.change)

-- ---- groups that had nothing in them

none_in : (names : List (List ℕ)) (k : ℕ) → option_map_or (λ (g : GroupTree). g.inside) (slice_get (map (λ n. no_group) names) k) [] ≡ []
none_in [] k = refl
none_in (n ∷ ns) zero = refl
none_in (n ∷ ns) (suc k) = none_in ns k

pub inside_told : (names : List (List ℕ)) (rs : List Refining) (gs : List GroupTree) → names ≡ first_names rs → gs ≡ gather_all names rs (map (λ n. no_group) names) → (name : List ℕ) → inside_of names gs name ≡ below name rs
inside_told names rs gs are made name =
    ap (λ hs. inside_of names hs name) made ∙ all_inside names rs (map (λ n. no_group) names) name (mapped_length (λ n. no_group) names) (subst (λ ns. AreAmong ns rs) (sym are) (their_names rs))
    ∙ ap (λ xs. xs ++ below name rs) (go (position (same name) names))
  where
    go : (o : Option ℕ) → option_map_or (λ (g : GroupTree). g.inside) (option_and_then (slice_get (map (λ n. no_group) names)) o) [] ≡ []
    go None = refl
    go (Some k) = none_in names k

-- ---- what is added to transitions

-- Each group has what those of its refinements add that have no names left.
abbrev HaveCodes : List GroupTree → Type 0
HaveCodes [] = Unit {0}
HaveCodes (g ∷ gs) = (g.actions ≡ codes_of g.inside) × HaveCodes gs

one_code_more : (rs : List Refining) (r : Refining) → codes_of (rs ++ r ∷ []) ≡ codes_of rs ++ option_to_list (code_of r.path r.change)
one_code_more rs r = filter_map-append (λ (q : Refining). code_of q.path q.change) rs (r ∷ []) ∙ ap (λ cs. codes_of rs ++ cs) (go (code_of r.path r.change))
  where
    go : (o : Option Code) → cons_option o [] ≡ option_to_list o
    go None = refl
    go (Some c) = refl

codes_at : (gs : List GroupTree) (k : ℕ) (r : Refining) → HaveCodes gs → HaveCodes (gathered_at gs k r)
codes_at [] k r have = tt
codes_at (g ∷ gs) zero r (its, have) = (ap (λ cs. cs ++ option_to_list (code_of r.path r.change)) its ∙ sym (one_code_more g.inside r), have)
codes_at (g ∷ gs) (suc k) r (its, have) = (its, codes_at gs k r have)

codes_gathered : (names path : List (List ℕ)) (change : ChangeTree) (gs : List GroupTree) → HaveCodes gs → HaveCodes (gather names path change gs)
codes_gathered names [] change gs have = have
codes_gathered names (n ∷ ns) change gs have = go (position (same n) names)
  where
    go : (o : Option ℕ) → HaveCodes (option_map_or (λ k. gathered_at gs k (record { path = ns; change = change })) o gs)
    go None = have
    go (Some k) = codes_at gs k (record { path = ns; change = change }) have

all_codes : (names : List (List ℕ)) (rs : List Refining) (gs : List GroupTree) → HaveCodes gs → HaveCodes (gather_all names rs gs)
all_codes names [] gs have = have
all_codes names (r ∷ rs) gs have = all_codes names rs (gather names r.path r.change gs) (codes_gathered names r.path r.change gs have)

no_codes : (names : List (List ℕ)) → HaveCodes (map (λ n. no_group) names)
no_codes [] = tt
no_codes (n ∷ ns) = (refl, no_codes ns)

codes_found : (gs : List GroupTree) (k : ℕ) → HaveCodes gs → option_map_or (λ (g : GroupTree). g.actions) (slice_get gs k) [] ≡ codes_of (option_map_or (λ (g : GroupTree). g.inside) (slice_get gs k) [])
codes_found [] k have = refl
codes_found (g ∷ gs) zero (its, have) = its
codes_found (g ∷ gs) (suc k) (its, have) = codes_found gs k have

actions_inside : (names : List (List ℕ)) (gs : List GroupTree) (name : List ℕ) → HaveCodes gs → actions_of names gs name ≡ codes_of (inside_of names gs name)
actions_inside names gs name have = go (position (same name) names)
  where
    go : (o : Option ℕ) → option_map_or (λ (g : GroupTree). g.actions) (option_and_then (slice_get gs) o) [] ≡ codes_of (option_map_or (λ (g : GroupTree). g.inside) (option_and_then (slice_get gs) o) [])
    go None = refl
    go (Some k) = codes_found gs k have

pub actions_told : (names : List (List ℕ)) (rs : List Refining) (gs : List GroupTree) → names ≡ first_names rs → gs ≡ gather_all names rs (map (λ n. no_group) names) → (name : List ℕ) → actions_of names gs name ≡ added_actions name rs
actions_told names rs gs are made name =
    actions_inside names gs name (subst HaveCodes (sym made) (all_codes names rs (map (λ n. no_group) names) (no_codes names))) ∙ ap codes_of (inside_told names rs gs are made name)

-- ---- groups that are found

group_got : (gs : List Group) (k : ℕ) → slice_get (group_views gs) k ≡ option_map group_view (slice_get gs k)
group_got [] k = refl
group_got (g ∷ gs) zero = refl
group_got (g ∷ gs) (suc k) = group_got gs k

name_got : (names : List (List ℕ)) (name : List ℕ) (k : ℕ) (x : List ℕ) → position (same name) names ≡ Some k → slice_get names k ≡ Some x → x ≡ name
name_got names name k x at got = sym (same_is name x (subst (λ y. same name y ≡ true) (is_got names k x got) (position-Some (same name) names k x at).1))
  where
    is_got : (ns : List (List ℕ)) (k : ℕ) (x : List ℕ) → slice_get ns k ≡ Some x → get_or ns k x ≡ x
    is_got [] k x e = none_some x e
    is_got (n ∷ ns) zero x e = some_same n x e
    is_got (n ∷ ns) (suc k) x e = is_got ns k x e

got_at : {X : Type 0} (xs : List X) (k : ℕ) (x : X) → x ≡ slice_index_or xs k x → k < length xs → slice_get xs k ≡ Some x
got_at [] k x is lt = absurd (omega arith)
got_at (y ∷ ys) zero x is lt = ap Some (sym is)
got_at (y ∷ ys) (suc k) x is lt = got_at ys k x is (omega (arith, lt))

-- the name that stands at the place of a name is the same
pub name_found : (refs : List (Bor (List ℕ))) (names : List (List ℕ)) (name : List ℕ) (at : Option ℕ) (k : ℕ) (first : Bor (List ℕ)) → names_of refs ≡ names → at ≡ position (same name) names → at ≡ Some k → first ≡ slice_index_or refs k first → k < length refs → first.now ≡ name
name_found refs names name at k first are place is told within =
    name_got names name k first.now (sym place ∙ is) (sym (ap (λ ns. slice_get ns k) are) ∙ mapped refs k ∙ ap (option_map (λ (b : Bor (List ℕ)). b.now)) (got_at refs k first told within))
  where
    mapped : (rs : List (Bor (List ℕ))) (k : ℕ) → slice_get (names_of rs) k ≡ option_map (λ (b : Bor (List ℕ)). b.now) (slice_get rs k)
    mapped [] k = refl
    mapped (r ∷ rs) zero = refl
    mapped (r ∷ rs) (suc k) = mapped rs k

-- the group at the place of a name is its own
pub inside_found : (g : Grouped) (name : List ℕ) (at : Option ℕ) (k : ℕ) (groups : List Group) (group : Group) (seen : List Pending) → IsGrouped g → groups ≡ g.groups.items → at ≡ position (same name) g.names → at ≡ Some k → group ≡ slice_index_or groups k group → k < length groups
    → seen ≡ group.inside.items → refining_views seen ≡ below name (refining_views g.pending.now)
inside_found g name at k groups group seen grouped are place is told within same_inside =
    let there : slice_get (group_views g.groups.items) k ≡ Some (group_view group) =
    group_got g.groups.items k ∙ ap (option_map group_view) (sym (ap (λ gs. slice_get gs k) are) ∙ got_at groups k group told within) in
    ap refining_views same_inside ∙ sym (ap (λ o. option_map_or (λ (x : GroupTree). x.inside) o []) (ap (option_and_then (slice_get (group_views g.groups.items))) (sym place ∙ is) ∙ there)) ∙ grouped.inside name

-- ---- groups that are made

abbrev group_with : List Refining → List (Bor Code) → GroupTree
group_with rs cs = record { inside = rs; actions = code_views cs }

empty_group : (g : Group) → g.inside.items ≡ [] → g.actions.items ≡ [] → group_view g ≡ no_group
empty_group g none nothing = ap (λ (ps : List Pending). group_with (refining_views ps) g.actions.items) none ∙ ap (λ (cs : List (Bor Code)). group_with [] cs) nothing

one_group_more : {A : Type 0} (names : List A) (d : A) (i : ℕ) (gs hs : List Group) (g : Group) → i < length names → group_views gs ≡ map (λ n. no_group) (take i names) → hs ≡ gs ++ g ∷ [] → group_view g ≡ no_group → group_views hs ≡ map (λ n. no_group) (take (i + 1) names)
one_group_more names d i gs hs g lt before pushed none =
    ap group_views pushed ∙ map_push group_view gs g ∙ ap (λ vs. vs ++ group_view g ∷ []) before ∙ ap (λ v. map (λ n. no_group) (take i names) ++ v ∷ []) none ∙ sym (map_more (λ n. no_group) names i d lt)

pub one_empty_more : {A : Type 0} (names : List A) (d : A) (i : ℕ) (gs hs : List Group) (g : Group) → i < length names → group_views gs ≡ map (λ n. no_group) (take i names) → hs ≡ gs ++ g ∷ [] → g.inside.items ≡ [] → g.actions.items ≡ [] → group_views hs ≡ map (λ n. no_group) (take (i + 1) names)
one_empty_more names d i gs hs g lt before pushed none nothing = one_group_more names d i gs hs g lt before pushed (empty_group g none nothing)

none_of_refs : (refs : List (Bor (List ℕ))) → map (λ n. no_group) refs ≡ map (λ n. no_group) (names_of refs)
none_of_refs [] = refl
none_of_refs (r ∷ rs) = ap (λ gs. no_group ∷ gs) (none_of_refs rs)

pub all_grouped : (refs seen : List (Bor (List ℕ))) (names : List (List ℕ)) (rs : List Refining) (starts gs : List GroupTree) → names ≡ names_of refs → names_of refs ≡ first_names rs → seen ≡ refs → starts ≡ map (λ n. no_group) seen → gs ≡ gather_all names rs starts
    → ((name : List ℕ) → inside_of names gs name ≡ below name rs) × ((name : List ℕ) → actions_of names gs name ≡ added_actions name rs)
all_grouped refs seen names rs starts gs are firsts same_refs none made = (inside_told names rs gs (are ∙ firsts) all, actions_told names rs gs (are ∙ firsts) all)
  where
    all : gs ≡ gather_all names rs (map (λ n. no_group) names)
    all = made ∙ ap (gather_all names rs) (none ∙ ap (map (λ n. no_group)) same_refs ∙ none_of_refs refs ∙ sym (ap (map (λ n. no_group)) are))
