-- Where a run of a model is done, all controllers agree on which actors live.
use Rattle.chart_behaviour.proofs.Charts.{are_open}
use Rattle.chart_behaviour.specs.ModelCharts.{behaviour_of}
use Rattle.law_agreement.proofs.Settling.{lives_agree}
use Rattle.law_models.specs.settled_models.Agreeing.{ModelRunsAgree}
use Rattle.law_models.proofs.settled_models.Kept.{model_others_live}
use Rattle.law_models.proofs.settled_models.Models.{models_open}
use Rattle.law_models.proofs.settled_models.Wired.{wiring_consistent}

pub model_agrees : ModelRunsAgree
model_agrees m t charts classes lines keeps wiring flawless has compiled clear order fuel journals left_over unposted w run done =
    lives_agree (behaviour_of t classes) (are_open t classes (λ k v e. let shown = compiled k v e in models_open m charts has k shown.0 v shown.1 shown.2)) t
    order lines clear (wiring_consistent m t wiring keeps flawless) (model_others_live m t keeps wiring.slots) run.events w run.run done.quiet
