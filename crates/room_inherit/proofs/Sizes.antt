-- How many tokens flat classes have.
use Rattle.std.proofs.Common.{◌≡◌, ℕ, zero, suc, ◌+◌, ◌-◌, ◌≤◌, true, false, List, [], ◌∷◌, ◌++◌, length, length-append, map, Option, Some, None, refl, ap, arith}
use Rattle.std.specs.Prelude.{option_map, slice_get, slice_set}
use Rattle.std.proofs.lemmas.Bool.{lt-leb}
use Rattle.room_lexer.specs.declared.token.Mark.TheVariants as marks
use Rattle.room_ast.specs.Tokens.{each, actor_class, class_tokens, model_tokens, dotted, import_tokens, mark}
use Rattle.room_ast.specs.Trees.{ModelTree, ClassTree, ASystem, ASubsystem, AnActor, AProtocol, AData, ActorTree}
use Rattle.room_ast.specs.model_parts.Classes.{as_actor}
use Rattle.room_inherit.specs.Filling.{there_at, is_vacant, counted, left_beside, none_taken}
use Rattle.room_inherit.specs.Flat.{actor_at, flat_actor, flat_class, flat}
use Rattle.room_inherit.specs.Rules.{flat_is_small}
use Rattle.room_inherit.proofs.Taken.{AreTooLarge}

counted_put : (flats : List (Option ActorTree)) (k : ℕ) (f : ActorTree) → is_vacant (slice_get flats k) ≡ true → counted (slice_set flats k (Some f)) ≡ length (actor_class f) + counted flats
counted_put [] k f e = cc
counted_put (None ∷ flats) zero f e = refl
counted_put (Some g ∷ flats) zero f e = cc
counted_put (None ∷ flats) (suc k) f e = counted_put flats k f e
counted_put (Some g ∷ flats) (suc k) f e =
    let rest : counted (slice_set flats k (Some f)) ≡ length (actor_class f) + counted flats = counted_put flats k f e in omega (arith, rest)

-- what is left once one more is taken
pub left_put : (flats : List (Option ActorTree)) (k : ℕ) (f : ActorTree) → is_vacant (slice_get flats k) ≡ true → left_beside (slice_set flats k (Some f)) ≡ left_beside flats - length (actor_class f)
unfolding left_beside
left_put flats k f e = let more : counted (slice_set flats k (Some f)) ≡ length (actor_class f) + counted flats = counted_put flats k f e in omega (arith, more)

counted_none : (cs : List ClassTree) → counted (none_taken cs) ≡ 0
counted_none [] = refl
counted_none (c ∷ cs) = counted_none cs

pub all_left : (cs : List ClassTree) → left_beside (none_taken cs) ≡ 2000001
unfolding left_beside
all_left cs = ap (λ n. 2000001 - n) (counted_none cs)

-- ---- flat classes are among those of the flat model

of_class : (cs : List ClassTree) (c : ClassTree) (f : ActorTree) → option_map (flat_actor cs) (as_actor c) ≡ Some f → class_tokens (flat_class cs c) ≡ actor_class f
of_class cs (ASystem s) f e = cc
of_class cs (ASubsystem s) f e = cc
of_class cs (AnActor a) f e = let same : flat_actor cs a ≡ f = cc in ap actor_class same
of_class cs (AProtocol p) f e = cc
of_class cs (AData d) f e = cc

counted_within : (cs xs : List ClassTree) (flats : List (Option ActorTree)) → length flats ≡ length xs → ((i : ℕ) (f : ActorTree) → there_at flats i ≡ Some f → option_map (flat_actor cs) (actor_at xs i) ≡ Some f)
    → counted flats ≤ length (each class_tokens (map (flat_class cs) xs))
counted_within cs xs [] sized right = omega arith
counted_within cs [] (f ∷ flats) sized right = absurd (omega (arith, sized))
counted_within cs (x ∷ xs) (None ∷ flats) sized right =
    let rest : counted flats ≤ length (each class_tokens (map (flat_class cs) xs)) = counted_within cs xs flats (omega (arith, sized)) (λ i f e. right (suc i) f e) in
    omega (arith, rest, length-append (class_tokens (flat_class cs x)) (each class_tokens (map (flat_class cs) xs)))
counted_within cs (x ∷ xs) (Some f ∷ flats) sized right =
    let rest : counted flats ≤ length (each class_tokens (map (flat_class cs) xs)) = counted_within cs xs flats (omega (arith, sized)) (λ i f e. right (suc i) f e) in
    omega (arith, rest, ap length (of_class cs x f (right zero f refl)), length-append (class_tokens (flat_class cs x)) (each class_tokens (map (flat_class cs) xs)))

-- where nothing is left beside flat classes, the flat model is too large
pub is_too_large : (m : ModelTree) (flats : List (Option ActorTree)) → AreTooLarge m.classes flats → flat_is_small m ≡ false
unfolding left_beside flat_is_small
is_too_large m flats h =
    let within : counted flats ≤ length (each class_tokens (map (flat_class m.classes) m.classes)) = counted_within m.classes m.classes flats h.sized h.right in
    let many : 2000001 ≤ counted flats = omega (arith, h.none_left) in
    lt-leb (length (model_tokens (flat m))) 2000000
    (omega (
      arith,
      within,
      many,
      length-append (dotted m.name) (mark marks.OpenBrace ++ (each import_tokens m.imports ++ (each class_tokens (map (flat_class m.classes) m.classes) ++ mark marks.CloseBrace))),
      length-append (each import_tokens m.imports) (each class_tokens (map (flat_class m.classes) m.classes) ++ mark marks.CloseBrace),
      length-append (each class_tokens (map (flat_class m.classes) m.classes)) (mark marks.CloseBrace),
    ))
