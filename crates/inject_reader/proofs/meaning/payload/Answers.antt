use Rattle.std.proofs.Common.{◌≡◌, ℕ, ◌+◌, ◌<◌, List, [], ◌∷◌, ◌++◌, length, take, min, get_or, ap, sym, ◌∙◌, arith, rules, ℤ, w64}
use Rattle.std.specs.List.{zip}
use mir.Val.{SFits}
use Rattle.std.proofs.lemmas.Int.{to_z-of_z}
use Rattle.std.proofs.lemmas.List.{take_more, take_all, get_or-map, length-map, length_push}
use Rattle.std.proofs.lemmas.Slice.Zip.{zip_turn, zip_end, length-zip, get_or-zip}
use Rattle.std.proofs.lemmas.Bool.Decides.{nat_tests}
use Rattle.room_kinds.specs.declared.number_type.NumberType.{NumberType}
use Rattle.room_kinds.specs.Reduction.{reduced}
use Rattle.inject_reader.specs.Meaning.{reduced_all, payload_meant}
use Rattle.inject_reader.proofs.meaning.payload.Goals as goal

length_reduced : (types : List NumberType) (zs : List ℤ) → length (reduced_all types zs) ≡ min (length types) (length zs)
length_reduced types zs = length-map (zip types zs) (λ (p : NumberType × ℤ). reduced p.0 p.1) ∙ length-zip types zs

-- one more number
reduced_more : (types : List NumberType) (zs : List ℤ) (n : ℕ) (k : NumberType) (z : ℤ) → n < length types → n < length zs → k ≡ get_or types n k → z ≡ get_or zs n z → take (n + 1) (reduced_all types zs) ≡ take n (reduced_all types zs) ++ reduced k z ∷ []
reduced_more types zs n k z a b p q =
    let step : NumberType × ℤ → ℤ = λ p. reduced p.0 p.1 in
    let inside : n < length (reduced_all types zs) = omega (arith, length_reduced types zs) in
    let here : n < length (zip types zs) = omega (arith, length-zip types zs) in
    let pair : (get_or types n k, get_or zs n z) ≡ (k, z) = cc (p, q) in
    let value : get_or (reduced_all types zs) n (reduced k z) ≡ reduced k z = get_or-map step (zip types zs) n (k, z) (reduced k z) here ∙ ap step (get_or-zip types zs n (k, z) a b ∙ pair) in
    take_more (reduced_all types zs) n (reduced k z) inside ∙ ap (λ (x : ℤ). take n (reduced_all types zs) ++ x ∷ []) value

pub loop-kind-preserved : goal.loop-kind-preserved
loop-kind-preserved c =
    let turn = zip_turn c.args.types.now c.args.numbers.now c.loop-kind.yielded c.into_iter-kind-iterator.result c.loop-kind.kind-iterator c.next.new.self c.next.result (cc) (cc) c.loop-kind.yielded_by (c.in-Some.kind, c.in-Some.number) c.in-Some.is c.next.ensures.steps in
    let fits : SFits w64 c.reduce.result = search rules in
    let read : SFits w64 c.in-Some.number.now = search rules in
    c.in_ok-push.ensures.ok
    ∙ ap (λ (z : ℤ). c.loop-kind.payload ++ z ∷ []) (to_z-of_z w64 c.reduce.result fits ∙ c.reduce.ensures ∙ ap (λ (z : ℤ). reduced c.in-Some.kind.now z) (to_z-of_z w64 c.in-Some.number.now read))
    ∙ ap (λ (zs : List ℤ). zs ++ reduced c.in-Some.kind.now c.in-Some.number.now ∷ []) c.loop-kind.invariant
    ∙ sym (reduced_more c.args.types.now c.args.numbers.now (length c.loop-kind.yielded) c.in-Some.kind.now c.in-Some.number.now turn.0 turn.1 (turn.2 c.in-Some.kind.now) (turn.3 c.in-Some.number.now))
    ∙ ap (λ (n : ℕ). take n (reduced_all c.args.types.now c.args.numbers.now)) (sym (length_push c.loop-kind.yielded (c.in-Some.kind, c.in-Some.number)))

pub returns : goal.returns
unfolding payload_meant
returns c =
    let end = zip_end c.args.types.now c.args.numbers.now c.loop-kind.yielded c.into_iter-kind-iterator.result c.loop-kind.kind-iterator c.next.new.self c.next.result (cc) (cc) c.loop-kind.yielded_by c.in-None.is c.next.ensures.steps in
    let all = take_all (length c.loop-kind.yielded) (reduced_all c.args.types.now c.args.numbers.now) (omega (arith, length_reduced c.args.types.now c.args.numbers.now)) in
    grind (arith, nat_tests)
