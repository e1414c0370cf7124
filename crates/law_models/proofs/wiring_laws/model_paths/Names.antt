-- Identifiers and distinct names.
use Rattle.std.proofs.Common.{◌≡◌, ◌≢◌, ◌∙◌, ℕ, zero, suc, Bool, true, false, cond, List, [], ◌∷◌, ◌++◌, Some, refl, sym, ap, arith}
use Rattle.std.specs.Prelude.{nat_lt, slice_get}
use Rattle.std.specs.List.{list_all, filter_map, IsDistinct, AllByRecursion}
use Rattle.std.proofs.lemmas.Bool.{and_parts, and_from}
use Rattle.std.proofs.lemmas.Bool.Decides.{nat_tests}
use lib.Pointwise.{bytes_decides}
use Rattle.room_ast.specs.declared.actor.StructureItem.{StructureItem}
use Rattle.room_ast.specs.declared.actor.StructureItem.TheVariants as structures
use Rattle.room_wiring.specs.WellNamed.{IsIdent}
use Rattle.name_tables.specs.name_numbers.Names.{same, AreDistinct}
use Rattle.check_classes.specs.class_rules.Names.{declared_name}
use Rattle.room_ast.specs.model_parts.References.{references_in, names_of_references}
use Rattle.wiring_plan.specs.wiring_classes.Labels.{label_of}
use Rattle.law_models.proofs.wiring_laws.slot_paths.Texts.{word_byte, ident_bytes}

word_small : (b : ℕ) → word_byte b ≡ true → nat_lt b 128 ≡ true
word_small b h = grind (arith, nat_tests)

words_small : (w : List ℕ) → list_all word_byte w ≡ true → list_all (λ b. nat_lt b 128) w ≡ true
words_small [] h = refl
words_small (b ∷ bs) h =
    let parts = and_parts (word_byte b) (list_all word_byte bs) h in
    and_from (nat_lt b 128) (list_all (λ c. nat_lt c 128) bs) (word_small b parts.0) (words_small bs parts.1)

-- the label of an identifier is the identifier
pub label_is : (w : List ℕ) → IsIdent w → label_of w ≡ w
unfolding label_of
label_is w h = ap (λ (b : Bool). cond b w []) (words_small w (ident_bytes w h))

-- ---- distinct names

same_own : (a : List ℕ) → same a a ≡ true
same_own a = (bytes_decides a a).1 refl

none_at : (x : List ℕ) (xs : List (List ℕ)) (i : ℕ) (y : List ℕ) → AllByRecursion (λ z. same x z ≡ false) xs → slice_get xs i ≡ Some y → x ≢ y
none_at x [] i y h e = absurd cc
none_at x (z ∷ zs) zero y h e = λ is.
    let at : z ≡ y = cc in
    let both : true ≡ false = sym (same_own x) ∙ ap (same x) (is ∙ sym at) ∙ h.0 in
    absurd cc
none_at x (z ∷ zs) (suc i) y h e = none_at x zs i y h.1 e

-- distinct names at different places differ
pub apart_at : (xs : List (List ℕ)) → AreDistinct xs → (i j : ℕ) (x y : List ℕ) → slice_get xs i ≡ Some x → slice_get xs j ≡ Some y → x ≡ y → i ≡ j
unfolding IsDistinct
apart_at [] h i j x y ex ey e = absurd cc
apart_at (z ∷ zs) h zero zero x y ex ey e = refl
apart_at (z ∷ zs) h zero (suc j) x y ex ey e = let at : z ≡ x = cc in absurd (none_at z zs j y h.0 ey (at ∙ e))
apart_at (z ∷ zs) h (suc i) zero x y ex ey e = let at : z ≡ y = cc in absurd (none_at z zs i x h.0 ex (at ∙ sym e))
apart_at (z ∷ zs) h (suc i) (suc j) x y ex ey e = ap suc (apart_at zs h.1 i j x y ex ey e)

pub right_part : (xs ys : List (List ℕ)) → AreDistinct (xs ++ ys) → AreDistinct ys
unfolding IsDistinct
right_part [] ys h = h
right_part (x ∷ xs) ys h = right_part xs ys h.1

-- what holds of the names of all parts holds of those of the references
references_all : (P : List ℕ → Type 0) (is : List StructureItem) → AllByRecursion P (filter_map declared_name is) → AllByRecursion P (names_of_references (references_in is))
references_all P [] h = tt
references_all P (structures.Usercode u ∷ is) h = references_all P is h
references_all P (structures.External e ∷ is) h = references_all P is h
references_all P (structures.Port p ∷ is) h = references_all P is h.1
references_all P (structures.Access s ∷ is) h = references_all P is h.1
references_all P (structures.Implementation i ∷ is) h = references_all P is h
references_all P (structures.Attribute a ∷ is) h = references_all P is h.1
references_all P (structures.Reference r ∷ is) h = (h.0, references_all P is h.1)
references_all P (structures.Binding b ∷ is) h = references_all P is h
references_all P (structures.Layer l ∷ is) h = references_all P is h

-- where the names of all parts are distinct, those of the references are
pub references_distinct : (is : List StructureItem) → AreDistinct (filter_map declared_name is) → AreDistinct (names_of_references (references_in is))
unfolding IsDistinct
references_distinct [] h = tt
references_distinct (structures.Usercode u ∷ is) h = references_distinct is h
references_distinct (structures.External e ∷ is) h = references_distinct is h
references_distinct (structures.Port p ∷ is) h = references_distinct is h.1
references_distinct (structures.Access s ∷ is) h = references_distinct is h.1
references_distinct (structures.Implementation i ∷ is) h = references_distinct is h
references_distinct (structures.Attribute a ∷ is) h = references_distinct is h.1
references_distinct (structures.Reference r ∷ is) h = (references_all (λ y. same r.name y ≡ false) is h.0, references_distinct is h.1)
references_distinct (structures.Binding b ∷ is) h = references_distinct is h
references_distinct (structures.Layer l ∷ is) h = references_distinct is h
