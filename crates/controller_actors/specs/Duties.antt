-- What a turn makes of a message of priority 0.
use Rattle.std.specs.Prelude.{◌≡◌, ℕ, List, All}
use Rattle.room_kinds.specs.declared.message.Msg.{Msg}
use Rattle.room_kinds.specs.declared.system.SysKind.{SysKind}
use Rattle.room_kinds.specs.declared.system.SysKind.TheVariants as kinds
use Rattle.journal.specs.declared.entry.Did.TheVariants as did
use Rattle.actor_world.specs.Body.{Doing}
use Rattle.actor_world.specs.Turns.{all_begun, all_gone, closing, doing, duty, treated}
use Rattle.chart_behaviour.specs.ModelCharts.{Actor}
use Rattle.frame_lives.specs.declared.done.DutyDone.{DutyDone}
use Rattle.controller_mail.specs.MailState.{IsForActors, with_body}
use Rattle.controller_mail.specs.declared.mail_queues.TurnResult.{TurnResult}
use Rattle.controller_actors.specs.declared.plant.Plant.{Plant}
use Rattle.controller_actors.specs.declared.actors.Actors.{Actors}
use Rattle.controller_actors.specs.declared.duties.Service.{Service}
use Rattle.controller_actors.specs.declared.duties.Service.TheVariants as services
use Rattle.controller_actors.specs.Plants.{model_of}
use Rattle.controller_actors.specs.Bodies.{IsWell, body_of, done_of}

-- whose duty a system message of this kind is
abbrev pub service_of : SysKind → Service
service_of kinds.Register = services.NameTable
service_of kinds.Withdraw = services.NameTable
service_of kinds.Bound = services.Links
service_of kinds.Ended = services.Links
service_of kinds.NameReply = services.Links
service_of kinds.Create = services.Frame
service_of kinds.CreateDone = services.Frame
service_of kinds.CreateRefused = services.Frame
service_of kinds.Destroy = services.Frame
service_of kinds.DestroyDone = services.Frame
service_of kinds.Import = services.Frame
service_of kinds.ImportDone = services.Frame
service_of kinds.ImportRefused = services.Frame
service_of kinds.ImportEnded = services.Frame
service_of kinds.Deport = services.Frame
service_of kinds.DeportDone = services.Frame
service_of kinds.Announce = services.Frame
service_of kinds.PartMake = services.Frame
service_of kinds.PartEnd = services.Frame

-- a duty of this kind was done
pub record HasDuty (plant : Plant) (me : ℕ) (m : Msg) (kind : SysKind) (old new : Actors) (done : TurnResult) : Type 0 where
  pub turn : treated (duty (model_of plant) plant.wiring me (body_of plant me old) m kind) did.Duty ≡ with_body (done_of done) (body_of plant me new)
  pub well : IsWell plant me new
  pub back : All IsForActors done.back

-- what is left after a duty of the frame service, once these messages were sent: those that were made
-- come up, those that ended go down, and the last message is sent
abbrev pub finishing : Plant → ℕ → DutyDone → Doing Actor → Doing Actor
finishing plant me left d =
    closing (all_gone plant.wiring me left.ended (all_begun (model_of plant) plant.wiring me left.made d)) left.last

-- that was done
pub record Finishes (plant : Plant) (me : ℕ) (left : DutyDone) (sent : List Msg) (old new : Actors) (done : TurnResult) : Type 0 where
  pub turn : treated (finishing plant me left (record (doing (body_of plant me old)) { sent = sent })) did.Duty ≡ with_body (done_of done) (body_of plant me new)
  pub well : IsWell plant me new
  pub back : All IsForActors done.back
