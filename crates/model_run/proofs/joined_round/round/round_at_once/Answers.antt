use Rattle.std.proofs.Common.{◌≡◌, map, length, arith}
use Rattle.std.proofs.lemmas.List.{length-map}
use Rattle.model_run.proofs.joined_round.JoinLaw.{ok_so, round_of, worked_of, in_order_of}
use Rattle.model_run.proofs.joined_round.PriorityLaw.{all_worked}
use Rattle.model_run.proofs.joined_round.round.round_at_once.Goals as goal

pub join_all-requires-clause-in_order : goal.join_all-requires-clause-in_order
join_all-requires-clause-in_order g c =
    let w = c.in_ok-after.ensures.worked in
    in_order_of c.args.plant.now c.args.controllers.now.items c.work_at_once.new.controllers.items (map g.M.Mail.log c.args.ends.items) (map g.M.Mail.log c.in_ok-after.after.items) w.steps w.count c.requires.stand.me

pub join_all-requires-clause-posted : goal.join_all-requires-clause-posted
join_all-requires-clause-posted g c =
    let w = c.in_ok-after.ensures.worked in
    worked_of c.args.plant.now c.args.controllers.now.items c.work_at_once.new.controllers.items (map g.M.Mail.log c.args.ends.items) (map g.M.Mail.log c.in_ok-after.after.items) w.steps w.count

pub join_all-requires-clause-count : goal.join_all-requires-clause-count
join_all-requires-clause-count g c =
    let w = c.in_ok-after.ensures.worked in
    let olds : length (map g.M.Mail.log c.args.ends.items) ≡ length c.args.ends.items = length-map c.args.ends.items g.M.Mail.log in
    let news : length (map g.M.Mail.log c.in_ok-after.after.items) ≡ length c.in_ok-after.after.items = length-map c.in_ok-after.after.items g.M.Mail.log in
    omega (arith, w.parties, w.count, c.requires.count, c.requires.stand.count)

pub join_all-requires-clause-by_priority : goal.join_all-requires-clause-by_priority
join_all-requires-clause-by_priority g c =
    all_worked c.args.plant.now c.args.controllers.now.items c.work_at_once.new.controllers.items (map g.M.Mail.log c.args.ends.items) (map g.M.Mail.log c.in_ok-after.after.items) c.in_ok-after.ensures.worked c.requires.by_priority

pub returns : goal.returns
returns g c =
    ok_so c.join_all.result _
    (round_of c.args.plant.now c.args.controllers.now.items c.work_at_once.new.controllers.items c.join_all.new.controllers.items (map g.M.Mail.log c.args.ends.items) (map g.M.Mail.log c.in_ok-after.after.items)
    c.requires.stand c.in_ok-after.ensures.worked)
    c.join_all.ensures
