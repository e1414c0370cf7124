-- Commands keep messages at their priorities: what an actor keeps, and what comes back, are messages that
-- were kept before, and the message in hand.
use Rattle.std.proofs.Common.{◌≡◌, ℕ, Bool, true, false, List, [], ◌∷◌, All, Option, Some, None, refl, sym, ap, ◌∙◌, subst}
use Rattle.std.proofs.lemmas.List.Elements.{All-nil, All-cons, All-push, All-head, All-tail, All-append}
use Rattle.room_kinds.specs.declared.message.Msg.{Msg}
use Rattle.room_kinds.specs.declared.command.Command.{Command}
use Rattle.room_kinds.specs.declared.command.Command.TheVariants as commands
use Rattle.room_kinds.specs.declared.numbers.Incarnation.{Incarnation}
use Rattle.room_wiring.specs.declared.tables.Tables.{Tables}
use Rattle.actor_duties.specs.Words.{updated}
use Rattle.actor_duties.specs.State.{Frame, Links}
use Rattle.actor_duties.specs.Commands.{Kept, defer, recall, recall_all}
use Rattle.actor_world.specs.Body.{Body, Doing, apply, apply_all}
use Rattle.actor_world.proofs.Notes.{apply_all_keeps}
use Rattle.chart_behaviour.specs.ModelCharts.{Actor}
use Rattle.controller_mail.specs.MailState.{IsForActors}
use Rattle.frame_lives.proofs.Rows.{updated_here}
use Rattle.controller_actors.specs.actor_commands.Doings.{Doing as CodeDoing, doing_on, AppliesAll}

-- the message in hand, if there is one
abbrev pub InHand : Option Msg → Type 0
InHand None = Unit {0}
InHand (Some m) = IsForActors m

record Ranks (k : Kept) : Type 0 where
  deferred : All IsForActors k.deferred
  back : All IsForActors k.back

none : All IsForActors []
none = All-nil IsForActors

deferred_ranks : (kept : Bool) (m : Option Msg) (ds : List Msg) → InHand m → All IsForActors ds → Ranks (defer kept m ds)
unfolding defer
deferred_ranks true m ds h all = record { deferred = all; back = none }
deferred_ranks false (Some m) ds h all = record { deferred = All-push IsForActors ds m all h; back = none }
deferred_ranks false None ds h all = record { deferred = all; back = none }

recalled_ranks : (ds : List Msg) → All IsForActors ds → Ranks (recall ds)
unfolding recall
recalled_ranks [] all = record { deferred = none; back = none }
recalled_ranks (m ∷ ms) all = record { deferred = All-tail IsForActors m ms all; back = All-cons IsForActors m [] (All-head IsForActors m ms all) none }

all_ranks : (ds : List Msg) → All IsForActors ds → Ranks (recall_all ds)
unfolding recall_all
all_ranks ds all = record { deferred = none; back = all }

-- some body
abbrev some_body : Frame → Links → Body Actor
some_body f l = record { frame = f; links = l; table = []; machines = λ s. None; deferred = λ s. [] }

module _ (t : Tables) (me : ℕ) (x : Incarnation) (m : Option Msg) (hand : InHand m) where
  written : (f : ℕ → List Msg) (ds : List Msg) → All IsForActors ds → All IsForActors (updated f x.slot.0 ds x.slot.0)
  written f ds h = subst (λ ms. All IsForActors ms) (sym (updated_here f x.slot.0 x.slot.0 ds refl)) h

  deferred_keep : (c : Command) (d : Doing Actor) → All IsForActors (d.body.deferred x.slot.0) → All IsForActors ((apply t me x m d c).body.deferred x.slot.0)
  deferred_keep (commands.Send p k signal payload prio) d h = h
  deferred_keep commands.Defer d h = written d.body.deferred _ (deferred_ranks d.kept m (d.body.deferred x.slot.0) hand h).deferred
  deferred_keep commands.Recall d h = written d.body.deferred _ (recalled_ranks (d.body.deferred x.slot.0) h).deferred
  deferred_keep commands.RecallAll d h = written d.body.deferred _ (all_ranks (d.body.deferred x.slot.0) h).deferred
  deferred_keep (commands.Frame c) d h = h
  deferred_keep (commands.Name c) d h = h

  back_keep : (c : Command) (d : Doing Actor) → All IsForActors (d.body.deferred x.slot.0) → All IsForActors d.back → All IsForActors (apply t me x m d c).back
  back_keep (commands.Send p k signal payload prio) d h b = b
  back_keep commands.Defer d h b = All-append IsForActors _ d.back (deferred_ranks d.kept m (d.body.deferred x.slot.0) hand h).back b
  back_keep commands.Recall d h b = All-append IsForActors _ d.back (recalled_ranks (d.body.deferred x.slot.0) h).back b
  back_keep commands.RecallAll d h b = All-append IsForActors _ d.back (all_ranks (d.body.deferred x.slot.0) h).back b
  back_keep (commands.Frame c) d h b = b
  back_keep (commands.Name c) d h b = b

  all_deferred_keep : (cs : List Command) (d : Doing Actor) → All IsForActors (d.body.deferred x.slot.0) → All IsForActors ((apply_all t me x m cs d).body.deferred x.slot.0)
  all_deferred_keep [] d h = h
  all_deferred_keep (c ∷ cs) d h = all_deferred_keep cs (apply t me x m d c) (deferred_keep c d h)

  all_back_keep : (cs : List Command) (d : Doing Actor) → All IsForActors (d.body.deferred x.slot.0) → All IsForActors d.back → All IsForActors (apply_all t me x m cs d).back
  all_back_keep [] d h b = b
  all_back_keep (c ∷ cs) d h b = all_back_keep cs (apply t me x m d c) (deferred_keep c d h) (back_keep c d h b)

  module _ (f : Frame) (l : Links) (f' : Frame) (l' : Links) (cs : List Command) (old new : CodeDoing) (applied : AppliesAll t me f l f' l' x m cs old new) where
    -- commands leave the lives as they were
    pub lives_stay : f'.lives ≡ f.lives
    lives_stay = ap (λ (d : Doing Actor). d.body.frame.lives) (sym (applied.on (some_body f l))) ∙ (apply_all_keeps t me x m cs (doing_on f l (some_body f l) x.slot.0 old)).lives

    -- what is kept after commands
    pub kept_ranks : All IsForActors old.deferred → All IsForActors new.deferred
    kept_ranks h =
        subst (λ ms. All IsForActors ms)
        (ap (λ (d : Doing Actor). d.body.deferred x.slot.0) (applied.on (some_body f l)) ∙ updated_here (λ s. []) x.slot.0 x.slot.0 new.deferred refl)
        (all_deferred_keep cs (doing_on f l (some_body f l) x.slot.0 old) (written (λ s. []) old.deferred h))

    -- what comes back
    pub back_ranks : All IsForActors old.deferred → All IsForActors old.output.back → All IsForActors new.output.back
    back_ranks h b =
        subst (λ ms. All IsForActors ms) (ap (λ (d : Doing Actor). d.back) (applied.on (some_body f l)))
        (all_back_keep cs (doing_on f l (some_body f l) x.slot.0 old) (written (λ s. []) old.deferred h) b)
