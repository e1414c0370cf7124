use Rattle.std.proofs.Common.{◌≡◌, Bool, true, false, if◌then◌else◌, refl}
use Rattle.actor_world.specs.Behaviour.{Handled, Deferred}
use Rattle.actor_world.specs.world_laws.Whereabouts.{is_kept}
use Rattle.actor_world.proofs.world_laws.Computing.{computing}
use Rattle.actor_world.proofs.world_laws.worked_example.Goals as goal

-- what is said is what is told
says : (b : Bool) → is_kept (if b then Deferred else Handled) ≡ b
says true = refl
says false = refl

pub returns : goal.returns
unfolding computing
returns c =
    record {
      modest = record { begin = λ x y. (refl, refl); handle = λ x n m y. (refl, refl) };
      tells = λ x n m. says _;
      two_deferred = record { pending = refl; deferred = refl; over = refl };
      one_recalled = record { pending = refl; deferred = refl; over = refl };
      both_lost = record { pending = refl; deferred = refl; over = refl };
    }
