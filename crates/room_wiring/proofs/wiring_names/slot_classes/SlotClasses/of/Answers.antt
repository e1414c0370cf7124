use Rattle.std.proofs.Common.{◌≡◌, ℕ, ◌+◌, List, ◌++◌, ◌∷◌, [], length, subst, sym, ap, ◌∙◌, arith}
use Rattle.std.proofs.lemmas.List.{length-append}
use Rattle.room_wiring.proofs.wiring_names.SlotClasses.{FindsBelow, finds_next, finds_all}
use Rattle.room_wiring.proofs.wiring_names.slot_classes.SlotClasses.of.Goals as goal

pub loop-s-preserved : goal.loop-s-preserved
loop-s-preserved c =
    let t = c.args.wiring.now in
    let h = c.loop-s.invariant in
    let place = c.in_ok-place.place in
    let slot = c.slot.result.now in
    let pushed : c.push.new.self ≡ c.loop-s.places ++ place ∷ [] = c.in_ok-push.ensures.ok in
    let long : length c.push.new.self ≡ c.loop-s.s + 1 = ap length pushed ∙ omega (arith, length-append c.loop-s.places (place ∷ []), h.1) in
    let known = c.slot.ensures.consistent.classes_known c.loop-s.s slot c.slot.ensures.slot in
    let next = finds_next t c.loop-s.places c.loop-s.classes c.note_class.new.classes c.loop-s.s place slot h.1 c.slot.ensures.slot known c.in_ok-place.ensures.goes_on c.in_ok-place.ensures.found h.2 in
    (c.in_ok-place.ensures.numbers, long, subst (λ (places : List ℕ). FindsBelow t places c.note_class.new.classes (c.loop-s.s + 1)) (sym pushed) next)

pub returns : goal.returns
returns c =
    let t = c.args.wiring.now in
    let h = c.loop-s.invariant in
    let most : c.loop-s.s ≡ length t.slots = omega (arith, c.loop-s-test.false, c.loop-s.auto.s-end, c.slot_count-s-end.ensures.count) in
    finds_all t c.loop-s.places c.loop-s.classes (h.1 ∙ most) (subst (FindsBelow t c.loop-s.places c.loop-s.classes) most h.2)
