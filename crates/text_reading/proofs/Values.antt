-- Values of digits, up to a greatest one.
use Rattle.std.proofs.Common.{◌≡◌, ℕ, ◌+◌, ◌-◌, ◌*◌, ◌<◌, ◌≤◌, min, List, [], ◌∷◌, length, get_or, drop, sym, ap, ◌∙◌, arith}
use Rattle.std.proofs.lemmas.List.{at_drop_more, at_drop_all}
use Rattle.text_reading.specs.Numerals.{value_from}

step_capped : (cap n d : ℕ) → min (10 * n + d) cap ≡ min (10 * min n cap + d) cap
step_capped cap n d = omega arith

-- a value may be cut off early
capped : (cap n : ℕ) (ds : List ℕ) → min (value_from n ds) cap ≡ min (value_from (min n cap) ds) cap
capped cap n [] = omega arith
capped cap n (d ∷ ds) =
    capped cap (10 * n + (d - 48)) ds ∙ ap (λ (k : ℕ). min (value_from k ds) cap) (step_capped cap n (d - 48))
    ∙ sym (capped cap (10 * min n cap + (d - 48)) ds)

pub value_goes_on : (cap n new i whole : ℕ) (ds : List ℕ) → i < length ds → min (value_from n (drop i ds)) cap ≡ whole → new ≡ min (10 * n + (get_or ds i 0 - 48)) cap → min (value_from new (drop (i + 1) ds)) cap ≡ whole
value_goes_on cap n new i whole ds lt h new_is =
    let d = get_or ds i 0 in
    ap (λ (k : ℕ). min (value_from k (drop (i + 1) ds)) cap) new_is ∙ sym (capped cap (10 * n + (d - 48)) (drop (i + 1) ds))
    ∙ sym (ap (λ (v : ℕ). min v cap) (at_drop_more (value_from n) ds i 0 lt)) ∙ h

pub value_ends : (cap n i whole : ℕ) (ds : List ℕ) → length ds ≤ i → n ≤ cap → min (value_from n (drop i ds)) cap ≡ whole → n ≡ whole
value_ends cap n i whole ds past small h =
    let own : n ≡ min n cap = omega arith in
    own ∙ sym (ap (λ (v : ℕ). min v cap) (at_drop_all (value_from n) ds i past)) ∙ h
