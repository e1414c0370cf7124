use Rattle.std.proofs.Common.{◌≡◌, ◌+◌, ◌++◌, [], ◌∷◌, length, map, refl, sym, ap, ◌∙◌, arith, append_assoc, append-nil}
use Rattle.std.proofs.lemmas.List.{map_push, length_push}
use Rattle.model_run.proofs.run_loop.ListFacts.{empty_list}
use Rattle.model_run.proofs.joined_round.SeatLaw.{numbers_push, sits, end_in}
use Rattle.model_run.proofs.joined_round.seats.seated.Goals as goal

pub loop-number-preserved : goal.loop-number-preserved
loop-number-preserved g c =
    let i = c.loop-number.invariant in
    let seats = c.loop-number.seats.items in
    let ks : c.loop-number.controllers.items ≡ c.in-Some.controller ∷ c.pop_front.new.self.items = c.in-Some.ensures.items in
    let es : c.loop-number.ends.items ≡ c.in-Some-pop_front.end ∷ c.pop_front-in-loop-number.new.self.items = c.in-Some-pop_front.ensures.items in
    let pushed = c.in_ok-push.ensures.items in
    record {
      seats = ap length pushed ∙ length_push seats _ ∙ ap (λ k. k + 1) i.seats;
      left = omega (arith, i.left, ap length ks);
      ends_left = omega (arith, i.ends_left, ap length es);
      controllers =
          ap (λ xs. map sits xs ++ c.pop_front.new.self.items) pushed
          ∙ ap (λ xs. xs ++ c.pop_front.new.self.items) (map_push sits seats _)
          ∙ append_assoc (map sits seats) (c.in-Some.controller ∷ []) c.pop_front.new.self.items
          ∙ ap (λ xs. map sits seats ++ xs) (sym ks) ∙ i.controllers;
      ends =
          ap (λ xs. map end_in xs ++ c.pop_front-in-loop-number.new.self.items) pushed
          ∙ ap (λ xs. xs ++ c.pop_front-in-loop-number.new.self.items) (map_push end_in seats _)
          ∙ append_assoc (map end_in seats) (c.in-Some-pop_front.end ∷ []) c.pop_front-in-loop-number.new.self.items
          ∙ ap (λ xs. map end_in seats ++ xs) (sym es) ∙ i.ends;
      numbers = numbers_push seats c.push.new.self.items _ c.loop-number.number pushed i.seats i.numbers refl;
    }

pub returns : goal.returns
returns g c =
    let i = c.loop-number.invariant in
    let seats = c.loop-number.seats.items in
    let no_controllers : length c.loop-number.controllers.items ≡ 0 = omega arith in
    let no_ends : length c.loop-number.ends.items ≡ 0 = omega arith in
    record {
      controllers = sym (append-nil (map sits seats)) ∙ ap (λ xs. map sits seats ++ xs) (sym (empty_list c.loop-number.controllers.items no_controllers)) ∙ i.controllers;
      ends_are = sym (append-nil (map end_in seats)) ∙ ap (λ xs. map end_in seats ++ xs) (sym (empty_list c.loop-number.ends.items no_ends)) ∙ i.ends;
      numbers = λ k d h. i.numbers k d (omega (arith, i.seats, h));
    }
