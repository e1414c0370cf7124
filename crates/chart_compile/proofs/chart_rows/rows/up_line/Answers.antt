use Rattle.std.proofs.Common.{◌≡◌, ◌++◌, ◌∷◌, ◌∙◌, [], ap, subst}
use Rattle.chart_model.specs.Named.{outward}
use Rattle.chart_compile.specs.chart_parts.Parts.{HaveShortNumbers}
use Rattle.chart_compile.proofs.chart_rows.Lines.{line_done, line_more, line_start, nothing_left}
use Rattle.chart_compile.proofs.chart_rows.rows.up_line.Goals as goal

pub outward-init : goal.outward-init
outward-init c = (
  c.requires.1,
  line_start c.args.states.now c.in_ok-own.own c.push.new.self.items c.args.owner.now c.args.name.now (c.in_ok-push.ensures.items ∙ ap (λ l. l ++ c.in_ok-own.own ∷ []) c.new-up.ensures.items) c.in_ok-own.ensures,
)

pub outward-preserved : goal.outward-preserved
outward-preserved c =
    let rest : c.outward.rest.now ≡ c.in-Some.outer.now ∷ c.in-Some.others.now = cc (c.in-Some.ensures.cases.0) in
    let numbers = subst (HaveShortNumbers c.args.states.now) rest c.outward.invariant.0 in (
      numbers.1,
      line_more c.args.states.now c.in_ok-next.next c.outward.up.items c.push-in-Some.new.self.items (outward (c.args.name.now ∷ c.args.owner.now)) c.outward.rest.now c.in-Some.others.now c.in-Some.outer.now rest c.in_ok-push-2.ensures.items c.in_ok-next.ensures c.outward.invariant.1,
    )

pub returns : goal.returns
returns c = line_done c.args.states.now c.outward.up.items (outward (c.args.name.now ∷ c.args.owner.now)) c.outward.rest.now (nothing_left c.outward.rest.now c.in_default.ensures.cases) c.outward.invariant.1
