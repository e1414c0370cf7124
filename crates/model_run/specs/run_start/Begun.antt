-- Controllers that have just started.
use Rattle.std.specs.Prelude.{◌≡◌, ℕ, List, slice_get, Some}
use Rattle.controller_actors.specs.declared.plant.Plant.{Plant}
use Rattle.controller.specs.Controllers.{IsOf, Begins}
use Rattle.controller.specs.View.{Controller}

-- the first controllers have started, each with so much fuel
pub record AllBegun (plant : Plant) (fuel : ℕ) (ks : List Controller) : Type 0 where
  pub me : (c : ℕ) (k : Controller) → slice_get ks c ≡ Some k → k.me.0 ≡ c
  pub begins : (c : ℕ) (k : Controller) → slice_get ks c ≡ Some k → Begins plant k.me fuel k
  pub of : (c : ℕ) (k : Controller) → slice_get ks c ≡ Some k → IsOf plant k
