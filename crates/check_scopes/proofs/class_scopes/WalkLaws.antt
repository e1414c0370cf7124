-- What a walk finds.
use Rattle.std.proofs.Common.{◌≡◌, ℕ, zero, suc, ◌+◌, ◌<◌, ◌≤◌, List, [], ◌∷◌, ◌++◌, length, take, map, reverse, refl, sym, ap, ◌∙◌, subst, arith, append_assoc}
use Rattle.std.specs.Prelude.{ℤ}
use Rattle.std.specs.List.{flat_map, slice_index_or, sum_by}
use Rattle.std.proofs.lemmas.List.{length-append, length-take-le, take-append-le, take-take, take_all, reverse-append, map-append}
use Rattle.std.proofs.lemmas.List.Concat.{flat_map-append}
use Rattle.std.proofs.lemmas.List.Sums.{sum_by-cons, sum_by-append}
use Rattle.room_ast.specs.model_parts.Attributes.{ClassNumber}
use Rattle.room_ast.specs.declared.model_parts.entries.TypeEntry.{TypeEntry}
use Rattle.room_ast.specs.declared.model_parts.entries.TypeEntry.TheVariants as types
use Rattle.check_scopes.specs.class_scopes.Fields.{FieldView, numbers_below, numbers_of_fields}
use Rattle.check_scopes.specs.class_scopes.Walks.{PendingView, pending_at, WalkView, path_to, step_of, Falls, numbers_at, total, cost, looks_left}

-- ---- paths

falls_up : (a b : ℕ) (ps : List PendingView) → a ≤ b → Falls a ps → Falls b ps
falls_up a b [] le f = f
falls_up a b (p ∷ ps) le f = let here : p.before ≤ a = f.0 in (omega arith, f.1)

-- a cut path with one more name
grown : List (List ℕ) → ℕ → List ℕ → List (List ℕ)
grown path n name = take n path ++ name ∷ []

grown_length : (path : List (List ℕ)) (n : ℕ) (name : List ℕ) → n ≤ length path → length (take n path ++ name ∷ []) ≡ n + 1
grown_length path n name le = length-append (take n path) (name ∷ []) ∙ ap (λ k. k + 1) (length-take-le n path le)

-- the fields that wait have the paths that they had
same_path : (path : List (List ℕ)) (n : ℕ) (name : List ℕ) (p : PendingView) → n ≤ length path → p.before ≤ n → path_to (take n path ++ name ∷ []) p ≡ path_to path p
same_path path n name p le fits =
    ap (λ xs. xs ++ p.field.name ∷ []) (take-append-le p.before (take n path) (name ∷ []) (let e = length-take-le n path le in omega (arith, e)) ∙ take-take p.before n path fits)

same_rest : (fields : List (List FieldView)) (path : List (List ℕ)) (n : ℕ) (name : List ℕ) (ps : List PendingView) → n ≤ length path → Falls n ps → flat_map (numbers_at fields (take n path ++ name ∷ [])) ps ≡ flat_map (numbers_at fields path) ps
same_rest fields path n name [] le f = refl
same_rest fields path n name (p ∷ ps) le f =
    ap (λ xs. numbers_below p.depth fields xs p.field.initial p.field.entry ++ flat_map (numbers_at fields (take n path ++ name ∷ [])) ps) (same_path path n name p le f.0)
    ∙ ap (λ xs. numbers_at fields path p ++ xs) (same_rest fields path n name ps le (falls_up p.before n ps f.0 f.1))

-- ---- the fields of a class

children_fall : (d n : ℕ) (fs : List FieldView) (ps : List PendingView) → Falls n ps → Falls n (map (pending_at d n) fs ++ ps)
children_fall d n [] ps f = f
children_fall d n (g ∷ fs) ps f = (omega arith, children_fall d n fs ps f)

children_numbers : (d : ℕ) (fields : List (List FieldView)) (path : List (List ℕ)) (fs : List FieldView)
    → flat_map (numbers_at fields path) (map (pending_at d (length path)) fs) ≡ flat_map (λ (f : FieldView). numbers_below d fields (path ++ f.name ∷ []) f.initial f.entry) fs
children_numbers d fields path [] = refl
children_numbers d fields path (f ∷ fs) =
    ap (λ xs. numbers_below d fields (xs ++ f.name ∷ []) f.initial f.entry ++ flat_map (numbers_at fields path) (map (pending_at d (length path)) fs)) (take_all (length path) path (omega arith))
    ∙ ap (λ xs. numbers_below d fields (path ++ f.name ∷ []) f.initial f.entry ++ xs) (children_numbers d fields path fs)

-- ---- a step

pub record Walked (fields : List (List FieldView)) (old new : WalkView) : Type 0 where
  pub falls : Falls (length new.path) new.pending
  pub same : total fields new ≡ total fields old

module _ (fields : List (List FieldView)) (path : List (List ℕ)) (numbers : List ClassNumber) (ps : List PendingView) (before : ℕ) (name : List ℕ) (initial : ℤ) (le : before ≤ length path) (f : Falls before ps) where
  here : List (List ℕ)
  here = take before path ++ name ∷ []

  rest_here : flat_map (numbers_at fields (take before path ++ name ∷ [])) ps ≡ flat_map (numbers_at fields path) ps
  rest_here = same_rest fields path before name ps le f

  falls_here : Falls (length (take before path ++ name ∷ [])) ps
  falls_here = falls_up before (length (take before path ++ name ∷ [])) ps (let e = grown_length path before name le in omega (arith, e)) f

  stepped : (depth : ℕ) (entry : TypeEntry)
      → Walked fields (record { path = path; pending = record { depth = depth; before = before; field = record { name = name; initial = initial; entry = entry } } ∷ ps; numbers = numbers })
      (step_of fields (record { depth = depth; before = before; field = record { name = name; initial = initial; entry = entry } }) (record { path = path; pending = ps; numbers = numbers }))
  stepped zero (types.Number t) = record {
    falls = falls_here;
    same = append_assoc numbers (record { path = take before path ++ name ∷ []; kind = t; initial = initial } ∷ []) (flat_map (numbers_at fields (take before path ++ name ∷ [])) ps)
        ∙ ap (λ xs. numbers ++ (record { path = take before path ++ name ∷ []; kind = t; initial = initial } ∷ xs)) rest_here;
  }
  stepped (suc d) (types.Number t) = record {
    falls = falls_here;
    same = append_assoc numbers (record { path = take before path ++ name ∷ []; kind = t; initial = initial } ∷ []) (flat_map (numbers_at fields (take before path ++ name ∷ [])) ps)
        ∙ ap (λ xs. numbers ++ (record { path = take before path ++ name ∷ []; kind = t; initial = initial } ∷ xs)) rest_here;
  }
  stepped zero types.Unknown = record { falls = falls_here; same = ap (λ xs. numbers ++ xs) rest_here }
  stepped (suc d) types.Unknown = record { falls = falls_here; same = ap (λ xs. numbers ++ xs) rest_here }
  stepped zero (types.Class n) = record { falls = falls_here; same = ap (λ xs. numbers ++ xs) rest_here }
  stepped (suc d) (types.Class n) = record {
    falls = children_fall d (length (take before path ++ name ∷ [])) (slice_index_or fields n []) ps falls_here;
    same = ap (λ xs. numbers ++ xs)
        (flat_map-append (numbers_at fields (take before path ++ name ∷ [])) (map (pending_at d (length (take before path ++ name ∷ []))) (slice_index_or fields n [])) ps
        ∙ ap (λ xs. xs ++ flat_map (numbers_at fields (take before path ++ name ∷ [])) ps) (children_numbers d fields (take before path ++ name ∷ []) (slice_index_or fields n []))
        ∙ ap (λ xs. flat_map (λ (g : FieldView). numbers_below d fields ((take before path ++ name ∷ []) ++ g.name ∷ []) g.initial g.entry) (slice_index_or fields n []) ++ xs) rest_here);
  }

-- a field that is taken and looked at
pub walked : (fields : List (List FieldView)) (old mid new : WalkView) (p : PendingView) → old.pending ≡ p ∷ mid.pending → mid.path ≡ old.path → mid.numbers ≡ old.numbers → new ≡ step_of fields p mid → Falls (length old.path) old.pending → Walked fields old new
walked fields old mid new p pending path numbers is falls =
    let P : List PendingView → Type 0 = λ ps. Falls (length old.path) ps in
    let both : Falls (length old.path) (p ∷ mid.pending) = subst P pending falls in
    let A : List (List ℕ) → Type 0 = λ xs. p.before ≤ length xs in
    let first = stepped fields mid.path mid.numbers mid.pending p.before p.field.name p.field.initial (subst A (sym path) both.0) both.1 p.depth p.field.entry in
    let N : WalkView → Type 0 = λ w. Walked fields (record { path = mid.path; pending = p ∷ mid.pending; numbers = mid.numbers }) w in
    let second : Walked fields (record { path = mid.path; pending = p ∷ mid.pending; numbers = mid.numbers }) new = subst N (sym is) first in
    record {
      falls = second.falls;
      same = second.same ∙ ap (λ (xs : List (List ℕ)). mid.numbers ++ flat_map (numbers_at fields xs) (p ∷ mid.pending)) path ∙ ap (λ ns. ns ++ flat_map (numbers_at fields old.path) (p ∷ mid.pending)) numbers
          ∙ ap (λ ps. old.numbers ++ flat_map (numbers_at fields old.path) ps) (sym pending);
    }

-- what is taken from the end is the next one
pub popped : {X Y : Type 0} (v : X → Y) (xs ys : List X) (x : X) → xs ≡ ys ++ x ∷ [] → reverse (map v xs) ≡ v x ∷ reverse (map v ys)
popped v xs ys x e = ap (λ zs. reverse (map v zs)) e ∙ ap reverse (map-append v ys (x ∷ [])) ∙ reverse-append (map v ys) (v x ∷ [])

-- ---- the looks that are left

children_cost : (d n : ℕ) (fields : List (List FieldView)) (fs : List FieldView) → sum_by (λ (p : PendingView). cost p.depth fields p.field.entry) (map (pending_at d n) fs) ≡ sum_by (λ (f : FieldView). cost d fields f.entry) fs
children_cost d n fields [] = refl
children_cost d n fields (f ∷ fs) =
    sum_by-cons (λ (p : PendingView). cost p.depth fields p.field.entry) (pending_at d n f) (map (pending_at d n) fs) ∙ ap (λ k. cost d fields f.entry + k) (children_cost d n fields fs)
    ∙ sym (sum_by-cons (λ (g : FieldView). cost d fields g.entry) f fs)

costs : (fields : List (List FieldView)) (path : List (List ℕ)) (numbers : List ClassNumber) (ps : List PendingView) (before : ℕ) (name : List ℕ) (initial : ℤ) (depth : ℕ) (entry : TypeEntry)
    → looks_left fields (step_of fields (record { depth = depth; before = before; field = record { name = name; initial = initial; entry = entry } }) (record { path = path; pending = ps; numbers = numbers })) + 1
    ≡ cost depth fields entry + looks_left fields (record { path = path; pending = ps; numbers = numbers })
costs fields path numbers ps before name initial zero (types.Number t) = omega arith
costs fields path numbers ps before name initial (suc d) (types.Number t) = omega arith
costs fields path numbers ps before name initial zero types.Unknown = omega arith
costs fields path numbers ps before name initial (suc d) types.Unknown = omega arith
costs fields path numbers ps before name initial zero (types.Class n) = omega arith
costs fields path numbers ps before name initial (suc d) (types.Class n) =
    let sums = sum_by-append (λ (p : PendingView). cost p.depth fields p.field.entry) (map (pending_at d (length (take before path ++ name ∷ []))) (slice_index_or fields n [])) ps in
    let inner = children_cost d (length (take before path ++ name ∷ [])) fields (slice_index_or fields n []) in
    omega (arith, sums, inner)

pub fewer_looks : (fields : List (List FieldView)) (old mid new : WalkView) (p : PendingView) → old.pending ≡ p ∷ mid.pending → new ≡ step_of fields p mid → looks_left fields new < looks_left fields old
fewer_looks fields old mid new p pending is =
    let step : looks_left fields (step_of fields p mid) + 1 ≡ cost p.depth fields p.field.entry + looks_left fields mid = costs fields mid.path mid.numbers mid.pending p.before p.field.name p.field.initial p.depth p.field.entry in
    let first : looks_left fields old ≡ cost p.depth fields p.field.entry + looks_left fields mid =
    ap (sum_by (λ (q : PendingView). cost q.depth fields q.field.entry)) pending ∙ sum_by-cons (λ (q : PendingView). cost q.depth fields q.field.entry) p mid.pending in
    let last : looks_left fields new ≡ looks_left fields (step_of fields p mid) = ap (looks_left fields) is in
    omega (arith, step, first, last)

-- ---- the beginning

all_fall : (d : ℕ) (fs : List FieldView) → Falls 0 (map (pending_at d 0) fs)
all_fall d [] = tt
all_fall d (f ∷ fs) = (omega arith, all_fall d fs)

all_at : (d : ℕ) (fields : List (List FieldView)) (fs : List FieldView) → flat_map (numbers_at fields []) (map (pending_at d 0) fs) ≡ flat_map (λ (f : FieldView). numbers_below d fields (f.name ∷ []) f.initial f.entry) fs
all_at d fields [] = refl
all_at d fields (f ∷ fs) = ap (λ xs. numbers_below d fields (f.name ∷ []) f.initial f.entry ++ xs) (all_at d fields fs)

-- a walk that begins with attributes finds their numbers
pub all_numbers : (fields : List (List FieldView)) (fs : List FieldView) (d : ℕ) (w : WalkView) (found : List ClassNumber) → d ≡ length fields → w.path ≡ [] → w.numbers ≡ [] → w.pending ≡ map (pending_at d 0) fs → (Falls (length w.path) w.pending → found ≡ total fields w) → found ≡ numbers_of_fields fields fs
all_numbers fields fs d w found deep path numbers pending finds =
    let P : List (List ℕ) → Type 0 = λ xs. Falls (length xs) w.pending in
    let Q : List PendingView → Type 0 = λ ps. Falls 0 ps in
    finds (subst P (sym path) (subst Q (sym pending) (all_fall d fs))) ∙ ap (λ ns. ns ++ flat_map (numbers_at fields w.path) w.pending) numbers ∙ ap (λ (xs : List (List ℕ)). flat_map (numbers_at fields xs) w.pending) path
    ∙ ap (flat_map (numbers_at fields [])) pending ∙ all_at d fields fs ∙ ap (λ k. flat_map (λ (f : FieldView). numbers_below k fields (f.name ∷ []) f.initial f.entry) fs) deep
