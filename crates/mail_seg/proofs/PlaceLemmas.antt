-- One pass of a list after a step.
use Rattle.std.proofs.Common.{◌≡◌, ℕ, ◌<◌, List, length, set, map, get_or, sym, ap, ◌∙◌}
use Rattle.std.proofs.lemmas.List.{map-set, get_or-map, set-get_or}
use Rattle.mail_seg.specs.declared.shared_box.BoxPass.{BoxPass}
use Rattle.mail_seg.specs.Sides.{side}
use Rattle.mail_seg.specs.Ends.{side_at, no_side}

pub side_at-here : (outlets : List BoxPass) (at : ℕ) (b : BoxPass) → at < length outlets → b ≡ get_or outlets at b → side_at (map side outlets) at ≡ side b
side_at-here outlets at b h e = get_or-map side outlets at b no_side h ∙ ap side (sym e)

pub map-set_same : {X Y : Type 0} (f : X → Y) (xs : List X) (at : ℕ) (x y : X) → x ≡ get_or xs at x → f y ≡ f x → map f (set xs at y) ≡ map f xs
map-set_same f xs at x y e g = map-set f xs at y ∙ ap (λ z. set (map f xs) at z) g ∙ sym (map-set f xs at x) ∙ ap (λ z. map f (set xs at z)) e ∙ ap (map f) (set-get_or xs at x)

pub ruleset place_steps = (map-set, side_at-here, map-set_same)
