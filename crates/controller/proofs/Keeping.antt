-- A controller that keeps the entries of its state, and stays one of its plant.
use Rattle.std.proofs.Common.{◌≡◌, ℕ, ◌+◌, ◌<◌, Bool, true, false, List, [], ◌∷◌, ◌++◌, length, Result, Ok, Err, OnErr, refl, sym, ap, ◌∙◌, subst}
use Rattle.room_kinds.specs.declared.numbers.ControllerId.{ControllerId}
use Rattle.room_kinds.specs.declared.message.Msg.{Msg}
use Rattle.journal.specs.declared.entry.Entry.{Entry}
use Rattle.actor_merge.specs.Parties.{State}
use Rattle.actor_world.specs.Journals.{is_turn}
use Rattle.controller_mail.specs.MailState.{MailState, TurnDone}
use Rattle.controller_mail.specs.Queues.{Queues, TakesOut, alone, end_turn}
use Rattle.controller_mail.specs.Within.{WaitsWithin}
use Rattle.controller_actors.specs.declared.plant.Plant.{Plant}
use Rattle.controller.specs.Controllers.{IsOf}
use Rattle.controller.specs.Calls.{Turns, took_one}
use Rattle.controller.specs.States.{Makes, TakesTurn, mail_with, shown_in}
use Rattle.controller.specs.View.{Controller}
use Rattle.controller.specs.declared.controller_state.ControllerState.{ControllerState}

-- a controller with this state, and with this journal
abbrev pub kept : ControllerState → List Entry → ℕ → Bool → Controller
kept s journal fuel failed = record { me = s.me; fuel = fuel; failed = failed; mail = mail_with s journal; actors = s.actors }

-- a controller with this state and this mail
abbrev remaining : ControllerState → ℕ → Bool → MailState → Controller
remaining s fuel failed mail = record { me = s.me; fuel = fuel; failed = failed; mail = mail; actors = s.actors }

-- a journal says nothing of what waits
pub waits_kept : (n : ℕ) (s : ControllerState) (js ks : List Entry) → WaitsWithin n (mail_with s js) → WaitsWithin n (mail_with s ks)
waits_kept n s js ks w = record { system = w.system; outbox = w.outbox }

-- a turn whose entry is kept
pub turn_kept : (plant : Plant) (old new : ControllerState) (js js' : List Entry) (fuel : ℕ) (failed : Bool) (e : Entry) → failed ≡ false → js' ≡ js ++ e ∷ [] → Makes plant old new e
    → TakesTurn (length plant.wiring.controllers) old new e → Turns plant (kept old js fuel failed) (kept new js' fuel failed) true
turn_kept plant old new js js' fuel failed e works is makes turn =
    took_one e refl turn.is
    (record {
      me = makes.me;
      fuel = refl;
      works = works;
      journal = is;
      replays = λ lines. (shown_in plant new, makes.does lines, refl);
    })
    turn.counted

-- only the mail of a state changed
pub kept_others : (old new : ControllerState) (js js' : List Entry) (fuel : ℕ) (failed : Bool) → new ≡ record old { mail = new.mail }
    → kept new js' fuel failed ≡ record (kept old js fuel failed) { mail = mail_with new js' }
kept_others old new js js' fuel failed is = ap (λ (x : ControllerState). remaining x fuel failed (mail_with new js')) is

-- nothing changed
pub kept_same : (old new : ControllerState) (js js' : List Entry) (fuel : ℕ) (failed : Bool) → new ≡ old → js' ≡ js → kept new js' fuel failed ≡ kept old js fuel failed
kept_same old new js js' fuel failed same is = ap (λ (x : ControllerState). kept x js' fuel failed) same ∙ ap (λ (es : List Entry). kept old es fuel failed) is

-- a controller that is as it was has only its mail changed
pub others_of_same : (old new : Controller) → new ≡ old → new ≡ record old { mail = new.mail }
others_of_same old new same = subst (λ (k : Controller). k ≡ record old { mail = k.mail }) (sym same) refl

-- only the mail of a controller changed
pub of_mail : (plant : Plant) (old new : Controller) → new ≡ record old { mail = new.mail } → IsOf plant old → (old.failed ≡ false → WaitsWithin (length plant.wiring.controllers) new.mail) → IsOf plant new
of_mail plant old new is of waits = subst (λ (k : Controller). IsOf plant k) (sym is) (record { me = of.me; well = of.well; waits = waits })

-- a controller has failed
pub of_failed : (plant : Plant) (old mid new : Controller) → mid.me ≡ old.me → new ≡ record mid { failed = true } → IsOf plant old → IsOf plant new
of_failed plant old mid new me is of = record {
  me = subst (λ (c : ControllerId). c.0 < length plant.wiring.controllers) (sym (ap (λ (k : Controller). k.me) is ∙ me)) of.me;
  well = λ works. absurd (no works);
  waits = λ works. absurd (no works);
}
  where
    no : new.failed ≡ false → ⊥
    no works = let both : true ≡ false = sym (ap (λ (k : Controller). k.failed) is) ∙ works in cc

-- what holds anyway holds after a refusal
pub on_err : {T E P : Type 0} (r : Result T E) → P → OnErr r P
on_err (Ok x) h = tt
on_err (Err e) h = h

-- ---- the queues at the end of a turn

pub turn_is : (mid new : Queues) (m : Msg) (done : TurnDone) (e : Entry) → end_turn (alone mid) m.from m.stamp done ≡ (alone new, e) → is_turn e ≡ true
unfolding end_turn
turn_is mid new m done e is = sym (ap (λ (r : State (Unit {0}) × Entry). is_turn r.1) is)

pub turn_counted : (old mid new : Queues) (m : Msg) (done : TurnDone) (e : Entry) → TakesOut old mid m → end_turn (alone mid) m.from m.stamp done ≡ (alone new, e) → new.turns ≡ old.turns + 1
unfolding end_turn
turn_counted old mid new m done e takes is =
    sym (ap (λ (r : State (Unit {0}) × Entry). r.0.turns) is) ∙ ap (λ (q : Queues). q.turns + 1) takes.others
