use Rattle.std.proofs.Common.{◌≡◌, ◌+◌, ◌<◌, ℕ, length, map, set, slice_get, Some, refl, sym, ap, ◌≤◌, ◌∙◌, subst, arith}
use Rattle.std.proofs.lemmas.List.{length-set, length-map}
use Rattle.std.proofs.lemmas.Option.{slice_get_read}
use Rattle.mail_core.proofs.Tied.{IsTied-at, tied-again}
use Rattle.model_run.specs.run_rounds.OneByOne.{StepsBelow}
use Rattle.model_run.specs.joined_round.Joined.{WorkedAt, seat}
use Rattle.model_run.proofs.joined_round.JoinLaw.{work_step}
use Rattle.model_run.proofs.joined_round.workers.work_in_order.Goals as goal

pub loop-number-preserved : goal.loop-number-preserved
loop-number-preserved g c =
    let plant = c.args.plant.now in
    let log = g.M.Mail.log in
    let i = c.from-place.result in
    let here : i ≡ c.loop-number.number = omega arith in
    let olds = c.args.controllers.now.items in
    let before = c.args.ends.now.items in
    let ks = c.loop-number.controllers.items in
    let ends = c.loop-number.ends.items in
    let in_ks : i < length ks = omega arith in
    let in_ends : i < length ends = omega arith in
    let stands : slice_get ends i ≡ Some c.index_mut-in-loop-number.result.now = slice_get_read ends (length ends) i c.index_mut-in-loop-number.result.now refl in_ends c.index_mut-in-loop-number.ensures.value in
    let so_far : StepsBelow (WorkedAt plant) i (seat olds (map log before)) (seat ks (map log ends)) =
    subst (λ (j : ℕ). StepsBelow (WorkedAt plant) j (seat olds (map log before)) (seat ks (map log ends))) (sym here) c.loop-number.invariant.steps in
    record {
      steps = subst (λ (j : ℕ). StepsBelow (WorkedAt plant) (j + 1) (seat olds (map log before)) (seat (set ks i c.work.new.controller) (map log (set ends i c.work.new.end)))) here
          (work_step plant log olds ks before ends i c.index_mut.result.now c.work.new.controller c.index_mut-in-loop-number.result.now c.work.new.end
          so_far c.index_mut.ensures.value c.index_mut-in-loop-number.ensures.value in_ks in_ends c.in_ok-work.ensures.ok c.work.ensures.of);
      count = length-set ks i c.work.new.controller ∙ c.loop-number.invariant.count;
      ends = length-set ends i c.work.new.end ∙ c.loop-number.invariant.ends;
      tied = tied-again log g.met.M.Mail.in_order i c.loop-number.invariant.tied stands c.work.ensures.tied;
      end = c.loop-number.invariant.end;
    }

pub work-requires-clause-of : goal.work-requires-clause-of
work-requires-clause-of g c =
    let i = c.from-place.result in
    let here : i ≡ c.loop-number.number = c.from-place.ensures in
    let ks = c.loop-number.controllers.items in
    let ends = c.loop-number.ends.items in
    let k = c.index_mut.result.now in
    let e = c.index_mut-in-loop-number.result.now in
    let in_ks : i < length ks = omega arith in
    let in_ends : i < length ends = omega arith in
    let at_k : slice_get ks i ≡ Some k = slice_get_read ks (length ks) i k refl in_ks c.index_mut.ensures.value in
    let at_e : slice_get ends i ≡ Some e = slice_get_read ends (length ends) i e refl in_ends c.index_mut-in-loop-number.ensures.value in
    let since : c.loop-number.number ≤ i = omega (arith, here) in
    let was : slice_get c.args.controllers.now.items i ≡ Some k = sym (ap (λ x. x.0) (c.loop-number.invariant.steps.above i since)) ∙ at_k in
    let order = g.met.M.Mail.in_order c.loop-number.office ends i e c.loop-number.invariant.tied at_e in
    c.requires.stand.of i k was

pub work-requires-clause-party : goal.work-requires-clause-party
work-requires-clause-party g c =
    let i = c.from-place.result in
    let here : i ≡ c.loop-number.number = c.from-place.ensures in
    let ks = c.loop-number.controllers.items in
    let ends = c.loop-number.ends.items in
    let k = c.index_mut.result.now in
    let e = c.index_mut-in-loop-number.result.now in
    let in_ks : i < length ks = omega arith in
    let in_ends : i < length ends = omega arith in
    let at_k : slice_get ks i ≡ Some k = slice_get_read ks (length ks) i k refl in_ks c.index_mut.ensures.value in
    let at_e : slice_get ends i ≡ Some e = slice_get_read ends (length ends) i e refl in_ends c.index_mut-in-loop-number.ensures.value in
    let since : c.loop-number.number ≤ i = omega (arith, here) in
    let was : slice_get c.args.controllers.now.items i ≡ Some k = sym (ap (λ x. x.0) (c.loop-number.invariant.steps.above i since)) ∙ at_k in
    let order = g.met.M.Mail.in_order c.loop-number.office ends i e c.loop-number.invariant.tied at_e in
    order.0 ∙ sym (c.requires.stand.me i k was)

pub work-requires-clause-parties : goal.work-requires-clause-parties
work-requires-clause-parties g c =
    let i = c.from-place.result in
    let here : i ≡ c.loop-number.number = c.from-place.ensures in
    let ks = c.loop-number.controllers.items in
    let ends = c.loop-number.ends.items in
    let k = c.index_mut.result.now in
    let e = c.index_mut-in-loop-number.result.now in
    let in_ks : i < length ks = omega arith in
    let in_ends : i < length ends = omega arith in
    let at_k : slice_get ks i ≡ Some k = slice_get_read ks (length ks) i k refl in_ks c.index_mut.ensures.value in
    let at_e : slice_get ends i ≡ Some e = slice_get_read ends (length ends) i e refl in_ends c.index_mut-in-loop-number.ensures.value in
    let since : c.loop-number.number ≤ i = omega (arith, here) in
    let was : slice_get c.args.controllers.now.items i ≡ Some k = sym (ap (λ x. x.0) (c.loop-number.invariant.steps.above i since)) ∙ at_k in
    let order = g.met.M.Mail.in_order c.loop-number.office ends i e c.loop-number.invariant.tied at_e in
    order.1 ∙ c.loop-number.invariant.ends ∙ c.requires.count

pub work-requires-clause-tied : goal.work-requires-clause-tied
work-requires-clause-tied g c =
    let i = c.from-place.result in
    let here : i ≡ c.loop-number.number = c.from-place.ensures in
    let ks = c.loop-number.controllers.items in
    let ends = c.loop-number.ends.items in
    let k = c.index_mut.result.now in
    let e = c.index_mut-in-loop-number.result.now in
    let in_ks : i < length ks = omega arith in
    let in_ends : i < length ends = omega arith in
    let at_k : slice_get ks i ≡ Some k = slice_get_read ks (length ks) i k refl in_ks c.index_mut.ensures.value in
    let at_e : slice_get ends i ≡ Some e = slice_get_read ends (length ends) i e refl in_ends c.index_mut-in-loop-number.ensures.value in
    let since : c.loop-number.number ≤ i = omega (arith, here) in
    let was : slice_get c.args.controllers.now.items i ≡ Some k = sym (ap (λ x. x.0) (c.loop-number.invariant.steps.above i since)) ∙ at_k in
    let order = g.met.M.Mail.in_order c.loop-number.office ends i e c.loop-number.invariant.tied at_e in
    IsTied-at g.M.Mail.log g.met.M.Mail.in_order i c.loop-number.invariant.tied at_e

pub returns-clause-worked : goal.returns-clause-worked
returns-clause-worked g c =
    let plant = c.args.plant.now in
    let log = g.M.Mail.log in
    let olds = c.args.controllers.now.items in
    let before = c.args.ends.now.items in
    let ks = c.loop-number.controllers.items in
    let ends = c.loop-number.ends.items in
    let all : c.loop-number.number ≡ length olds = omega arith in
    record {
      steps = subst (λ (n : ℕ). StepsBelow (WorkedAt plant) n (seat olds (map log before)) (seat ks (map log ends))) all c.loop-number.invariant.steps;
      count = c.loop-number.invariant.count;
      parties = length-map ends log ∙ c.loop-number.invariant.ends ∙ sym (length-map before log);
    }
