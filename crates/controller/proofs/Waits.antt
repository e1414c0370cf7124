-- What waits in a controller's mail goes to controllers that there are.
use Rattle.std.proofs.Common.{◌≡◌, ℕ, ◌+◌, ◌-◌, ◌<◌, List, [], length, All, sym, ap, subst, arith}
use Rattle.std.proofs.lemmas.List.Elements.{All-weaker}
use Rattle.room_kinds.specs.declared.message.Msg.{Msg}
use Rattle.journal.specs.declared.entry.Entry.{Entry}
use Rattle.actor_merge.specs.Parties.{State, Treated}
use Rattle.actor_world.specs.Body.{Body}
use Rattle.actor_world.specs.Turns.{treat}
use Rattle.actor_world.specs.Start.{first_state}
use Rattle.chart_behaviour.specs.Asked.{AsksOnly}
use Rattle.chart_behaviour.specs.ModelCharts.{Actor}
use Rattle.chart_behaviour.proofs.Charts.{asks_only}
use Rattle.controller_mail.specs.MailState.{MailState, TurnDone, HasPriority, IsForActors, with_body}
use Rattle.controller_mail.specs.Laws.{first_mail}
use Rattle.controller_mail.specs.Steps.{TakesNext, EndsTurn}
use Rattle.controller_mail.specs.Within.{AreWithin, WaitsWithin}
use Rattle.controller_mail.proofs.Waiting.{take_waits, end_waits}
use Rattle.chart_behaviour.specs.sends.Sends.{is_ranked}
use Rattle.chart_behaviour.proofs.sends.Turning.{turns_send_within, starts_send_within}
use Rattle.controller_actors.specs.Plants.{model_of}
use Rattle.controller_actors.specs.declared.plant.Plant.{Plant}

-- the actors of a plant send at the six priorities
ranked : (plant : Plant) → AsksOnly is_ranked (model_of plant)
ranked plant = asks_only plant.wiring plant.tables.items is_ranked plant.fits.ranked

-- all parties but the last are controllers
pub but_last : (parties n : ℕ) → parties ≡ n + 1 → parties - 1 ≡ n
but_last parties n e = omega (arith, e)

-- what comes back has a priority
pub back_ranks : (back : List Msg) → All IsForActors back → All HasPriority back
back_ranks back all = All-weaker IsForActors HasPriority (λ m h. h.1) back all

-- at the start
pub start_waits : (plant : Plant) (me : ℕ) (sent : List Msg) (entries : List Entry) (body : Body Actor) (k : MailState) → me < length plant.wiring.controllers
    → first_state (model_of plant) plant.wiring me ≡ record { clock = 0; turns = 0; pending = λ p. []; outbox = sent; body = body } → k ≡ first_mail sent entries
    → WaitsWithin (length plant.wiring.controllers) k
start_waits plant me sent entries body k mine state is =
    subst (WaitsWithin (length plant.wiring.controllers)) (sym is) (record {
      system = tt;
      outbox = subst (AreWithin (length plant.wiring.controllers)) (ap (λ (s : State (Body Actor)). s.outbox) state)
          (starts_send_within (model_of plant) plant.wiring me (ranked plant) plant.fits.owners mine);
    })

-- after a turn
pub turn_waits : (plant : Plant) (me : ℕ) (old mid new : MailState) (m : Msg) (done : TurnDone) (before after : Body Actor) → me < length plant.wiring.controllers → TakesNext old mid m
    → EndsTurn mid new m.from m.stamp done → treat (model_of plant) plant.wiring me before m ≡ with_body done after → All IsForActors done.back
    → WaitsWithin (length plant.wiring.controllers) old → WaitsWithin (length plant.wiring.controllers) new
turn_waits plant me old mid new m done before after mine takes ends treated back waits =
    let n = length plant.wiring.controllers in
    let taken = take_waits n old mid m takes waits in
    end_waits n mid new m.from m.stamp done ends back
    (subst (AreWithin n) (ap (λ (r : Treated (Body Actor)). r.sent) treated)
    (turns_send_within (model_of plant) plant.wiring me before m (ranked plant) plant.fits.owners mine taken.0))
    taken.1
