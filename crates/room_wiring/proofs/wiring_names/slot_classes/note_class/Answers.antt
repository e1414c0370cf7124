use Rattle.std.proofs.Common.{◌≡◌, ℕ, ◌++◌, ◌∷◌, [], Some, sym, subst, ap, ◌∙◌, arith}
use Rattle.std.specs.Prelude.{option_map}
use Rattle.std.proofs.lemmas.Bool.Decides.{nat_tests}
use Rattle.room_wiring.specs.declared.wiring_names.class_names.ClassNumbers.{ClassNumbers}
use Rattle.room_wiring.specs.wiring_names.Tables.{numbers_of_class}
use Rattle.room_wiring.specs.wiring_names.Index.{AreNumbersOf}
use Rattle.room_wiring.proofs.wiring_names.SlotClasses.{found_at, numbers_next, numbers_stay}
use Rattle.room_wiring.proofs.wiring_names.slot_classes.note_class.Goals as goal

pub returns-in_ok-push-clause-found : goal.returns-in_ok-push-clause-found
returns-in_ok-push-clause-found c =
    let t = c.args.wiring.now in
    let k = c.in_ok-place.ensures.stored in
    let is : k.0 ≡ c.args.class = grind (arith, nat_tests, k.2) in
    let next : AreNumbersOf t c.insert_full.new.self.keys (c.args.classes.now ++ c.in_ok-numbers.numbers ∷ []) =
    numbers_next t c.args.seen.now.keys c.insert_full.new.self.keys c.args.classes.now c.in_ok-numbers.numbers c.args.class c.in_ok-place.is_new c.requires.numbers c.in_ok-place.ensures.added c.if-is_new.true c.in_ok-place.ensures.keys
    (sym (ap (option_map numbers_of_class) c.class.ensures.class ∙ ap (λ (n : ClassNumbers). Some n) (sym c.in_ok-numbers.ensures))) in
    let after : AreNumbersOf t c.insert_full.new.self.keys c.push.new.self = subst (AreNumbersOf t c.insert_full.new.self.keys) (sym c.in_ok-push.ensures.ok) next in
    found_at t c.insert_full.new.self.keys c.push.new.self c.in_ok-place.place c.args.class after (k.1 ∙ ap (λ (x : ℕ). Some x) is)

pub returns-else-is_new-clause-found : goal.returns-else-is_new-clause-found
returns-else-is_new-clause-found c =
    let t = c.args.wiring.now in
    let k = c.in_ok-place.ensures.stored in
    let is : k.0 ≡ c.args.class = grind (arith, nat_tests, k.2) in
    let after : AreNumbersOf t c.insert_full.new.self.keys c.args.classes.now =
    numbers_stay t c.args.seen.now.keys c.insert_full.new.self.keys c.args.classes.now c.args.class c.in_ok-place.is_new c.requires.numbers c.in_ok-place.ensures.added c.if-is_new.false c.in_ok-place.ensures.keys in
    found_at t c.insert_full.new.self.keys c.args.classes.now c.in_ok-place.place c.args.class after (k.1 ∙ ap (λ (x : ℕ). Some x) is)
