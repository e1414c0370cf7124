-- Controllers that stand in a list, and the clock of an environment that catches up with theirs.
use Rattle.std.proofs.Common.{◌≡◌, ℕ, zero, suc, max, ◌+◌, ◌<◌, List, [], ◌∷◌, length, slice_get, Option, Some, refl, sym, ap, ◌∙◌, arith}
use Rattle.std.specs.Option.{option_map_or}
use Rattle.actor_merge.specs.Parties.{State}
use Rattle.actor_merge.specs.World.{latest}
use Rattle.actor_world.specs.Body.{Body}
use Rattle.actor_world.specs.Start.{first_state}
use Rattle.chart_behaviour.specs.ModelCharts.{Actor}
use Rattle.controller_mail.specs.MailState.{EnvironmentState}
use Rattle.controller_actors.specs.Plants.{model_of}
use Rattle.controller_actors.specs.declared.plant.Plant.{Plant}
use Rattle.controller.specs.Controllers.{state_in, state_at}
use Rattle.controller.specs.View.{Controller}

pub some_at : {X : Type 0} (xs : List X) (c : ℕ) → c < length xs → (x : X) × (slice_get xs c ≡ Some x)
some_at [] c h = absurd (omega arith)
some_at (x ∷ xs) zero h = (x, refl)
some_at (x ∷ xs) (suc c) h = some_at xs c (omega arith)

pub state_is : (plant : Plant) (ks : List Controller) (c : ℕ) (k : Controller) → slice_get ks c ≡ Some k → state_at plant ks c ≡ state_in plant k
state_is plant ks c k at = ap (λ (o : Option Controller). option_map_or (λ (z : Controller). state_in plant z) o (first_state (model_of plant) plant.wiring c)) at

-- the greatest clock of one controller more
latest_more : {B : Type 0} (states : ℕ → State B) (c clock : ℕ) → latest states (c + 1) clock ≡ max (states c).clock (latest states c clock)
latest_more states c clock = let next : c + 1 ≡ suc c = omega arith in ap (λ (z : ℕ). latest states z clock) next

abbrev with_clock : EnvironmentState → ℕ → EnvironmentState
with_clock env clock = record env { clock = clock }

-- the environment's clock is at least that of one controller more
pub one_caught_up : (plant : Plant) (ks : List Controller) (c : ℕ) (k : Controller) (first old new : EnvironmentState) (clock : ℕ) → slice_get ks c ≡ Some k → clock ≡ k.mail.clock
    → old ≡ record first { clock = latest (state_at plant ks) c first.clock } → new ≡ record old { clock = max clock old.clock }
    → new ≡ record first { clock = latest (state_at plant ks) (c + 1) first.clock }
one_caught_up plant ks c k first old new clock at is before after =
    let now : clock ≡ (state_at plant ks c).clock = is ∙ ap (λ (s : State (Body Actor)). s.clock) (sym (state_is plant ks c k at)) in
    let greatest : max clock (latest (state_at plant ks) c first.clock) ≡ latest (state_at plant ks) (c + 1) first.clock =
    ap (λ (t : ℕ). max t (latest (state_at plant ks) c first.clock)) now ∙ sym (latest_more (state_at plant ks) c first.clock) in
    after ∙ ap (λ (z : EnvironmentState). with_clock z (max clock z.clock)) before ∙ ap (λ (t : ℕ). with_clock first t) greatest
