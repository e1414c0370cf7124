-- Orders of classes in which bases come first, and the flat classes that are taken in them.
use Rattle.std.proofs.Common.{◌≡◌, ℕ, Bool, true, false, List, length, map, Option, Some, None, refl, sym, ap, ◌∙◌, subst}
use Rattle.std.specs.Prelude.{not}
use Rattle.std.specs.Global.{Vec}
use Rattle.number_graphs.specs.class_containment.Containment.{IsContainmentOrder}
use Rattle.number_graphs.specs.class_containment.Walks.{Orders}
use Rattle.number_graphs.proofs.class_containment.Searching.{test_of}
use Rattle.room_ast.specs.Trees.{ModelTree, ClassTree}
use Rattle.room_ast.specs.model_parts.Classes.{class_name}
use Rattle.room_inherit.specs.Filling.{FillingTree, filled, none_taken}
use Rattle.room_inherit.specs.Flattening.{OrdersBases, FillsModel}
use Rattle.room_inherit.specs.Judging.{HasLastUses, judged}
use Rattle.room_inherit.specs.Rules.{extended, none_extends_itself, refinements_are_known}
use Rattle.room_inherit.specs.Views.{filling_view}
use Rattle.room_inherit.specs.declared.filling.Filling.{Filling}
use Rattle.room_inherit.specs.declared.filling.Filling.TheVariants as fillings
use Rattle.room_inherit.proofs.Judged.{judges_rightly}
use Rattle.room_inherit.proofs.Sizes.{is_too_large}
use Rattle.room_inherit.proofs.Taken.{FillsRightly, fills_rightly}

ordered : (m : ModelTree) (order : Option (Vec ℕ)) → Orders (map (extended m.classes) m.classes) order → OrdersBases m order
unfolding none_extends_itself
ordered m None h = ap not (sym (test_of (map (extended m.classes) m.classes) None true h refl))
ordered m (Some order) h = (ap not (sym (test_of (map (extended m.classes) m.classes) (Some order) false h refl)), h.0)

pub orders_bases : (m : ModelTree) (parts : List (List ℕ)) (order : Option (Vec ℕ)) → parts ≡ map (extended m.classes) m.classes → Orders parts order → OrdersBases m order
orders_bases m parts order e h = let P : List (List ℕ) → Type 0 = λ ps. Orders ps order in ordered m order (subst P e h)

filled_model : (m : ModelTree) (found : Filling) → FillsRightly m.classes (filling_view found) → FillsModel m found
unfolding refinements_are_known
filled_model m (fillings.Flats flats) h = h
filled_model m fillings.Unknown h = h
filled_model m fillings.TooMany h = is_too_large m h.0 h.1

pub fills_model : (m : ModelTree) (names : List (List ℕ)) (order : List ℕ) (found : Filling) → names ≡ map class_name m.classes → IsContainmentOrder (map (extended m.classes) m.classes) order → filling_view found ≡ filled names m.classes order (none_taken m.classes)
    → FillsModel m found
fills_model m names order found e is f =
    let P : FillingTree → Type 0 = λ o. FillsRightly m.classes o in
    filled_model m found (subst P (sym (f ∙ ap (λ ns. filled ns m.classes order (none_taken m.classes)) e)) (fills_rightly m.classes order is))

pub judges_model : (m : ModelTree) (names : List (List ℕ)) (classes : List ClassTree) (order last seen : List ℕ) (known : Bool) → names ≡ map class_name m.classes → classes ≡ m.classes → seen ≡ last → IsContainmentOrder (map (extended m.classes) m.classes) order
    → HasLastUses names classes order (length order) last → known ≡ judged names classes seen 0 order (none_taken classes) → known ≡ refinements_are_known m
unfolding refinements_are_known
judges_model m names classes order last seen known e f g is uses h =
    let P : List (List ℕ) → Type 0 = λ ns. HasLastUses ns m.classes order (length order) last in
    let Q : List ClassTree → Type 0 = λ cs. HasLastUses names cs order (length order) last in
    h ∙ ap (λ ns. judged ns classes seen 0 order (none_taken classes)) e ∙ ap (λ cs. judged (map class_name m.classes) cs seen 0 order (none_taken cs)) f
    ∙ ap (λ ls. judged (map class_name m.classes) m.classes ls 0 order (none_taken m.classes)) g ∙ judges_rightly m.classes order is last (subst P e (subst Q f uses))
