-- Where a run of a model is done, all controllers agree.
use Rattle.chart_behaviour.proofs.Charts.{are_open}
use Rattle.chart_behaviour.specs.ModelCharts.{behaviour_of}
use Rattle.law_names.proofs.AllAgreed.{lawful_agreed}
use Rattle.law_models.specs.settled_models.Agreed.{ModelsRegisterPoints, ModelRunsAreAgreed}
use Rattle.law_models.proofs.settled_models.Models.{models_open}
use Rattle.law_models.proofs.settled_models.Owners.{owners_there, places_local}
use Rattle.law_models.proofs.settled_models.Mutual.{model_mutual}
use Rattle.law_models.proofs.settled_models.Registers.{registers_points}

pub models_register : ModelsRegisterPoints
models_register m t charts classes keeps wiring flawless has compiled = registers_points m t charts classes keeps wiring flawless has compiled

pub model_agreed : ModelRunsAreAgreed
model_agreed m t charts classes lines keeps wiring flawless has compiled clear order fuel journals left_over unposted w run done =
    lawful_agreed (behaviour_of t classes) t lines
    (record {
      clear = are_open t classes (λ k v e. let shown = compiled k v e in models_open m charts has k shown.0 v shown.1 shown.2);
      clear_lines = clear;
      points = registers_points m t charts classes keeps wiring flawless has compiled;
      first = order;
      owners = owners_there m t keeps wiring flawless;
      local = places_local m t wiring.slots;
      partners = model_mutual m t keeps wiring flawless;
    })
    run.events w run.run done.quiet
