use Rattle.std.proofs.Common.{Vec, Global, ◌≡◌, ◌++◌, [], ◌∷◌, List, length, map, ap, sym, ◌∙◌, subst, take, drop}
use lib.Seq.{take-append_seam}
use denote.Param.Send.{sendable}
use Rattle.controller.specs.View.{Controller}
use Rattle.model_run.specs.declared.joined_round.seat.Seat.{Seat}
use Rattle.model_run.specs.joined_round.Joined.{HaveWorked}
use Rattle.model_run.specs.joined_round.Seats.{AreSeated, Each, HasWorked}
use Rattle.model_run.proofs.joined_round.SeatLaw.{sits, end_in, can_sit, have_worked, tied_after}
use Rattle.model_run.proofs.joined_round.Shared.{plant_sync}
use Rattle.model_run.proofs.joined_round.at_once.work_at_once.Goals as goal

pub work_halves-requires-sync-P : goal.work_halves-requires-sync-P
work_halves-requires-sync-P g c κs within = search (sendable, plant_sync)

pub work_halves-requires-after_bounds : goal.work_halves-requires-after_bounds
work_halves-requires-after_bounds g c κs within =
    rw c.as_mut_slice.ensures.value (can_sit g.M.Mail.log g.M.Mail.tied (g.met.M.Mail g.world.𝓛 g.world.𝓜 g.world.𝓡 ((λ s x. x), (λ x. x), (λ x. x), λ x. x)).in_order c.args.plant.now c.args.controllers.now.items c.requires.stand
    c.args.ends.items c.pop.new.self.items c.in-Some.environment c.in-Some.ensures.items c.requires.count c.requires.tied c.in_ok-seats.seats.items
    (subst (λ (v : Vec Controller Global). AreSeated v.items c.pop.new.self.items c.in_ok-seats.seats.items) c.replace-idle.ensures.value c.in_ok-seats.ensures))

pub returns-clause-worked : goal.returns-clause-worked
returns-clause-worked g c =
    let seats = c.in_ok-seats.seats.items in
    let after = c.work_halves.new.seats in
    let works = c.in_ok-work_halves.ensures in
    let worked : Each (HasWorked g.M.Mail.log g.M.Mail.tied c.args.plant.now) seats after =
    subst (λ (xs : List (Seat _)). Each (HasWorked g.M.Mail.log g.M.Mail.tied c.args.plant.now) xs after) c.as_mut_slice.ensures.value works in
    let all : take c.in_ok-seats.seats.len (after ++ drop (length after) seats) ≡ after =
    ap (λ k. take k (after ++ drop (length after) seats)) (sym (works.count ∙ c.as_mut_slice.ensures.len)) ∙ take-append_seam after (drop (length after) seats) in
    let whole : c.push.new.self.items ≡ map end_in after ++ c.in-Some.environment ∷ [] =
    c.in_ok-push.ensures.items ∙ ap (λ es. es ++ c.in-Some.environment ∷ []) (c.in_ok-worked.ensures.ends ∙ ap (map end_in) all) in
    let olds = c.args.controllers.now.items in
    let logs = map g.M.Mail.log c.args.ends.items in
    let controllers : c.in_ok-worked.worked.items ≡ map sits after = c.in_ok-worked.ensures.controllers ∙ ap (map sits) all in
    subst (λ (ks : List Controller). HaveWorked c.args.plant.now olds logs ks (map g.M.Mail.log c.push.new.self.items)) (sym controllers)
    (subst (λ (es : List _). HaveWorked c.args.plant.now olds logs (map sits after) (map g.M.Mail.log es)) (sym whole)
    (have_worked g.M.Mail.log g.M.Mail.tied (g.met.M.Mail g.world.𝓛 g.world.𝓜 g.world.𝓡 ((λ s x. x), (λ x. x), (λ x. x), λ x. x)).in_order c.args.plant.now c.args.controllers.now.items c.requires.stand
    c.args.ends.items c.pop.new.self.items c.in-Some.environment c.in-Some.ensures.items c.requires.count c.requires.tied c.in_ok-seats.seats.items
    (subst (λ (v : Vec Controller Global). AreSeated v.items c.pop.new.self.items c.in_ok-seats.seats.items) c.replace-idle.ensures.value c.in_ok-seats.ensures) after worked))

pub returns-clause-tied : goal.returns-clause-tied
returns-clause-tied g c =
    let seats = c.in_ok-seats.seats.items in
    let after = c.work_halves.new.seats in
    let works = c.in_ok-work_halves.ensures in
    let worked : Each (HasWorked g.M.Mail.log g.M.Mail.tied c.args.plant.now) seats after =
    subst (λ (xs : List (Seat _)). Each (HasWorked g.M.Mail.log g.M.Mail.tied c.args.plant.now) xs after) c.as_mut_slice.ensures.value works in
    let all : take c.in_ok-seats.seats.len (after ++ drop (length after) seats) ≡ after =
    ap (λ k. take k (after ++ drop (length after) seats)) (sym (works.count ∙ c.as_mut_slice.ensures.len)) ∙ take-append_seam after (drop (length after) seats) in
    let whole : c.push.new.self.items ≡ map end_in after ++ c.in-Some.environment ∷ [] =
    c.in_ok-push.ensures.items ∙ ap (λ es. es ++ c.in-Some.environment ∷ []) (c.in_ok-worked.ensures.ends ∙ ap (map end_in) all) in
    subst (λ (es : List _). g.M.Mail.tied tt es) (sym whole)
    (tied_after g.M.Mail.log g.M.Mail.tied (g.met.M.Mail g.world.𝓛 g.world.𝓜 g.world.𝓡 ((λ s x. x), (λ x. x), (λ x. x), λ x. x)).in_order c.args.plant.now c.args.controllers.now.items c.requires.stand
    c.args.ends.items c.pop.new.self.items c.in-Some.environment c.in-Some.ensures.items c.requires.count c.requires.tied c.in_ok-seats.seats.items
    (subst (λ (v : Vec Controller Global). AreSeated v.items c.pop.new.self.items c.in_ok-seats.seats.items) c.replace-idle.ensures.value c.in_ok-seats.ensures) after worked)
