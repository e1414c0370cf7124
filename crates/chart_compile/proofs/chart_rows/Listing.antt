-- Lists that are related one by one, as loops build them.
use Rattle.std.proofs.Common.{◌≡◌, ℕ, ◌+◌, ◌<◌, ◌≤◌, Bool, true, false, cond, List, [], ◌∷◌, ◌++◌, length, get_or, take, map, sym, ap, ◌∙◌, subst, Option, Some, None, option_map, Bor}
use Rattle.std.specs.Prelude.{slice_get}
use Rattle.std.specs.List.{filter, cons_option}
use Rattle.std.proofs.lemmas.List.{append-nil, map-append, take_all, take_more}
use Rattle.std.proofs.lemmas.List.Elements.{filter-append, filter_map-append}
use Rattle.std.proofs.lemmas.Option.{slice_get-map}
use Rattle.chart_model.specs.chart_plan.Same.{Each, none, more}
use Rattle.chart_reader.specs.chart_nodes.Steps.{StepTree}
use Rattle.chart_compile.specs.chart_places.Groups.{picked}

pub Each_push : {A B : Type 0} (R : A → B → Type 0) {xs : List A} {ys : List B} (x : A) (y : B) → Each R xs ys → R x y → Each R (xs ++ x ∷ []) (ys ++ y ∷ [])
Each_push R x y none r = more r none
Each_push R x y (more s e) r = more s (Each_push R x y e r)

-- one more item on both sides
pub each_more : {A X Y : Type 0} (R : X → Y → Type 0) (f : A → X) (old new : List A) (a : A) (ys ys' : List Y) (y : Y) → new ≡ old ++ a ∷ [] → ys' ≡ ys ++ y ∷ [] → R (f a) y → Each R (map f old) ys → Each R (map f new) ys'
each_more R f old new a ys ys' y e g r before =
    subst (λ (l : List _). Each R (map f l) ys') (sym e) (subst (λ (l : List _). Each R l ys') (sym (map-append f old (a ∷ []))) (subst (λ (l : List _). Each R (map f old ++ f a ∷ []) l) (sym g) (Each_push R (f a) y before r)))

pub each_more_plain : {A Y : Type 0} (R : A → Y → Type 0) (old new : List A) (a : A) (ys ys' : List Y) (y : Y) → new ≡ old ++ a ∷ [] → ys' ≡ ys ++ y ∷ [] → R a y → Each R old ys → Each R new ys'
each_more_plain R old new a ys ys' y e g r before = subst (λ (l : List _). Each R l ys') (sym e) (subst (λ (l : List _). Each R (old ++ a ∷ []) l) (sym g) (Each_push R a y before r))

-- the steps with some numbers, and then the one with the next number, if there is such a step
pub picked_next : (steps : List StepTree) (numbers : List ℕ) (i : ℕ) → i < length numbers → picked steps (take (i + 1) numbers) ≡ picked steps (take i numbers) ++ cons_option (slice_get steps (get_or numbers i 0)) []
picked_next steps numbers i h = ap (picked steps) (take_more numbers i 0 h) ∙ filter_map-append (λ j. slice_get steps j) (take i numbers) (get_or numbers i 0 ∷ [])

pub step_found : {A : Type 0} (v : A → StepTree) (steps : List A) (i : ℕ) (r : Option (Bor A)) (s : Bor A) → option_map (λ (s : Bor A). s.now) r ≡ slice_get steps i → r ≡ Some s → slice_get (map v steps) i ≡ Some (v s.now)
step_found v steps i r s e is = slice_get-map v steps i ∙ ap (option_map v) (sym e ∙ ap (option_map (λ (s : Bor _). s.now)) is)

pub step_missing : {A : Type 0} (v : A → StepTree) (steps : List A) (i : ℕ) (r : Option (Bor A)) → option_map (λ (s : Bor A). s.now) r ≡ slice_get steps i → r ≡ None → slice_get (map v steps) i ≡ None
step_missing v steps i r e is = slice_get-map v steps i ∙ ap (option_map v) (sym e ∙ ap (option_map (λ (s : Bor _). s.now)) is)

pub each_start : {A X Y : Type 0} (R : X → Y → Type 0) (f : A → X) (xs : List A) → xs ≡ [] → Each R (map f xs) []
each_start R f xs e = subst (λ (l : List _). Each R (map f l) []) (sym e) none

pub each_start_plain : {A Y : Type 0} (R : A → Y → Type 0) (xs : List A) → xs ≡ [] → Each R xs []
each_start_plain R xs e = subst (λ (l : List _). Each R l []) (sym e) none

pub taken_all : {A : Type 0} (xs : List A) (i : ℕ) → length xs ≤ i → take i xs ≡ xs
taken_all xs i h = take_all i xs h

pub made_more : {A B : Type 0} (v : A → B) (xs : List A) (i : ℕ) (x : A) → i < length xs → x ≡ get_or xs i x → map v (take (i + 1) xs) ≡ map v (take i xs) ++ v x ∷ []
made_more v xs i x h is = ap (map v) (take_more xs i x h ∙ ap (λ y. take i xs ++ y ∷ []) (sym is)) ∙ map-append v (take i xs) (x ∷ [])

pub taken_more : {A : Type 0} (xs : List A) (i : ℕ) (x : A) → i < length xs → x ≡ get_or xs i x → take (i + 1) xs ≡ take i xs ++ x ∷ []
taken_more xs i x h is = take_more xs i x h ∙ ap (λ y. take i xs ++ y ∷ []) (sym is)

-- one more item that passes a test, or that doesn't
pub passed_more : {A : Type 0} (p : A → Bool) (xs xs' : List A) (x : A) → xs' ≡ xs ++ x ∷ [] → p x ≡ true → filter p xs' ≡ filter p xs ++ x ∷ []
passed_more p xs xs' x e t = ap (filter p) e ∙ filter-append p xs (x ∷ []) ∙ ap (λ b. filter p xs ++ cond b (x ∷ []) []) t

pub failed_more : {A : Type 0} (p : A → Bool) (xs xs' : List A) (x : A) → xs' ≡ xs ++ x ∷ [] → p x ≡ false → filter p xs' ≡ filter p xs
failed_more p xs xs' x e t = ap (filter p) e ∙ filter-append p xs (x ∷ []) ∙ ap (λ b. filter p xs ++ cond b (x ∷ []) []) t ∙ append-nil (filter p xs)
