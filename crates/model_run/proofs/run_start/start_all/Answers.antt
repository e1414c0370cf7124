use Rattle.std.proofs.Common.{◌≡◌, ◌+◌, List, [], ◌∷◌, ◌++◌, length, sym, ap, subst, arith}
use Rattle.std.proofs.lemmas.List.{length_push}
use Rattle.controller.specs.View.{Controller}
use Rattle.model_run.specs.run_start.Begun.{AllBegun}
use Rattle.model_run.proofs.run_start.StartLaw.{begun_more, starts_run}
use Rattle.model_run.proofs.run_start.start_all.Goals as goal

pub loop-me-preserved : goal.loop-me-preserved
loop-me-preserved c =
    let ks = c.loop-me.controllers.items in
    let new : Controller = c.in_ok-controller.controller in
    let items : c.push.new.self.items ≡ ks ++ new ∷ [] = c.in_ok-push.ensures.items in
    let long : length (ks ++ new ∷ []) ≡ length ks + 1 = length_push ks new in
    let same : length c.push.new.self.items ≡ length (ks ++ new ∷ []) = ap (λ (z : List Controller). length z) items in
    record {
      begun = subst (λ (z : List Controller). AllBegun c.args.plant.now c.args.fuel z) (sym items)
          (begun_more c.args.plant.now c.args.fuel ks _ new c.loop-me.invariant.begun (sym c.loop-me.invariant.count) c.in_ok-controller.ensures.begins c.in_ok-controller.ensures.of);
      count = omega arith;
      end = c.loop-me.invariant.end;
    }

pub returns : goal.returns
returns c =
    let count : length c.loop-me.controllers.items ≡ length c.args.plant.now.wiring.controllers = omega arith in
    starts_run c.args.plant.now c.args.fuel c.loop-me.controllers.items c.loop-me.invariant.begun count
