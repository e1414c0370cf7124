use Rattle.std.proofs.lemmas.Result.{IfOk-weaker}
use Rattle.mail_seg.proofs.MakeLemmas.{EndsTo-fresh, EndsTo-tied}
use Rattle.mail_seg.proofs.make.all_ends.Goals as goal

pub returns-clause-fresh : goal.returns-clause-fresh
returns-clause-fresh c = IfOk-weaker c.ends_of.result _ _ (λ ends all. EndsTo-fresh c.args.parties _ ends.items all) c.ends_of.ensures

pub returns-clause-tied : goal.returns-clause-tied
returns-clause-tied c = IfOk-weaker c.ends_of.result _ _ (λ ends all. EndsTo-tied c.args.parties _ ends.items c.in_ok-rows.ensures all) c.ends_of.ensures
