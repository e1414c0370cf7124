-- Lists that loops build, seen through a view.
use Rattle.std.proofs.Common.{◌≡◌, ℕ, zero, suc, ◌-◌, ◌<◌, ◌≤◌, arith, List, [], ◌∷◌, ◌++◌, length, take, map, Option, Some, None, refl, sym, ap, ◌∙◌}
use Rattle.std.specs.Prelude.{option_map}
use Rattle.std.specs.List.{slice_index_or}
use Rattle.std.specs.Option.{option_to_list}
use Rattle.std.proofs.lemmas.List.{map-append, take-map}
use Rattle.check_scopes.specs.class_scopes.Fields.{FieldView}
use Rattle.check_scopes.specs.class_scopes.Walks.{PendingView, pending_at, opened}

-- one more item at the end
pub viewed_push : {X Y : Type 0} (v : X → Y) (xs new : List X) (x : X) → new ≡ xs ++ x ∷ [] → map v new ≡ map v xs ++ v x ∷ []
viewed_push v xs new x e = ap (map v) e ∙ map-append v xs (x ∷ [])

-- one more item at the end, if there is one
pub viewed_push_if : {X Y : Type 0} (v : X → Y) (xs new : List X) (o : Option X) → new ≡ xs ++ option_to_list o → map v new ≡ map v xs ++ option_to_list (option_map v o)
viewed_push_if v xs new (Some x) e = ap (map v) e ∙ map-append v xs (x ∷ [])
viewed_push_if v xs new None e = ap (map v) e ∙ map-append v xs []

-- what a list of lists gives at a number, seen through a view
pub viewed_get : {X Y : Type 0} (v : X → Y) (xss : List (List X)) (i : ℕ) (xs : List X) → i < length xss → xs ≡ slice_index_or xss i xs → map v xs ≡ slice_index_or (map (map v) xss) i []
viewed_get v [] i xs lt e = absurd (omega arith)
viewed_get v (ys ∷ yss) zero xs lt e = ap (map v) e
viewed_get v (ys ∷ yss) (suc i) xs lt e = viewed_get v yss i xs (omega arith) e

pub viewed_past : {X Y : Type 0} (v : X → Y) (xss : List (List X)) (i : ℕ) → length xss ≤ i → [] ≡ slice_index_or (map (map v) xss) i []
viewed_past v [] i ge = refl
viewed_past v (ys ∷ yss) zero ge = absurd (omega arith)
viewed_past v (ys ∷ yss) (suc i) ge = viewed_past v yss i (omega arith)

-- a list that is cut, with one more item at the end
pub taken_push : {X Y : Type 0} (v : X → Y) (xs mid new : List X) (n : ℕ) (x : X) → mid ≡ take n xs → new ≡ mid ++ x ∷ [] → map v new ≡ take n (map v xs) ++ v x ∷ []
taken_push v xs mid new n x e f = viewed_push v mid new x f ∙ ap (λ ys. ys ++ v x ∷ []) (ap (map v) e ∙ sym (take-map v n xs))

pub opened_none : (before : ℕ) (fields : List FieldView) (rest : List PendingView) → rest ≡ opened 0 before fields ++ rest
opened_none before fields rest = refl

pub opened_some : (depth before before' : ℕ) (fields : List FieldView) (rest new : List PendingView) → 0 < depth → before ≡ before' → new ≡ map (pending_at (depth - 1) before) fields ++ rest → new ≡ opened depth before' fields ++ rest
opened_some zero before before' fields rest new lt same e = absurd (omega arith)
opened_some (suc depth) before before' fields rest new lt same e =
    let down : suc depth - 1 ≡ depth = omega arith in
    e ∙ ap (λ d. map (pending_at d before) fields ++ rest) down ∙ ap (λ b. map (pending_at depth b) fields ++ rest) same

no_children : (depth before : ℕ) → opened depth before [] ≡ []
no_children zero before = refl
no_children (suc depth) before = refl

-- the fields of the class of a number
pub opened_at : {X : Type 0} (v : X → FieldView) (xss : List (List X)) (i : ℕ) (xs : List X) (ys : List X) (depth before : ℕ) (rest new : List PendingView) → i < length xss → xs ≡ slice_index_or xss i xs → ys ≡ xs → new ≡ opened depth before (map v ys) ++ rest → new ≡ opened depth before (slice_index_or (map (map v) xss) i []) ++ rest
opened_at v xss i xs ys depth before rest new lt e same is = is ∙ ap (λ zs. opened depth before (map v zs) ++ rest) same ∙ ap (λ fs. opened depth before fs ++ rest) (viewed_get v xss i xs lt e)

-- no fields where no class has the number
pub opened_past : {X : Type 0} (v : X → FieldView) (xss : List (List X)) (i depth before : ℕ) (rest : List PendingView) → length xss ≤ i → rest ≡ opened depth before (slice_index_or (map (map v) xss) i []) ++ rest
opened_past v xss i depth before rest ge = sym (ap (λ fs. opened depth before fs ++ rest) (sym (viewed_past v xss i ge)) ∙ ap (λ ps. ps ++ rest) (no_children depth before))
