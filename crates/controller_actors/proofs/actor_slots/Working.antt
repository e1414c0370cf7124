-- A turn and a start of the actor of a slot: what its machine did, and then its commands.
use Rattle.std.proofs.Common.{◌≡◌, ℕ, Bool, false, List, [], ◌∷◌, ◌++◌, All, Option, Some, None, refl, sym, ap, ◌∙◌, subst}
use Rattle.std.proofs.lemmas.List.Elements.{All-nil}
use Rattle.room_kinds.specs.declared.message.Msg.{Msg}
use Rattle.room_kinds.specs.declared.note.Note.{Note}
use Rattle.room_kinds.specs.declared.note.Note.TheVariants as notes
use Rattle.room_kinds.specs.declared.command.Command.{Command}
use Rattle.room_kinds.specs.declared.numbers.Incarnation.{Incarnation}
use Rattle.room_wiring.specs.declared.tables.Tables.{Tables as Wiring}
use Rattle.journal.specs.declared.entry.Did.{Did}
use Rattle.actor_duties.specs.Words.{updated}
use Rattle.actor_duties.specs.State.{Frame, Links}
use Rattle.actor_world.specs.Behaviour.{Begun}
use Rattle.actor_world.specs.Body.{Body, Doing as WorldDoing, apply_all}
use Rattle.actor_world.specs.Turns.{handled_as, treated}
use Rattle.chart_run.specs.declared.chart_tables.tables.Tables.{Tables}
use Rattle.chart_run.specs.Machines.{result_view}
use Rattle.chart_behaviour.specs.ModelCharts.{Actor, begins, handles, handling_of, state_number}
use Rattle.controller_actors.specs.declared.actor_commands.output.Output.{Output}
use Rattle.controller_mail.specs.MailState.{IsForActors}
use Rattle.controller_mail.specs.declared.mail_queues.TurnResult.{TurnResult}
use Rattle.controller_actors.specs.actor_commands.Doings.{Doing, doing_on}
use Rattle.controller_actors.proofs.actor_commands.Steps.{updated_twice}
use Rattle.controller_actors.specs.declared.actor_slots.occupant.Occupant.{Occupant}
use Rattle.controller_actors.specs.declared.actor_slots.occupant.Occupant.TheVariants as occupants
use Rattle.controller_actors.specs.declared.actor_slots.occupant.Reaction.{Reaction}
use Rattle.controller_actors.specs.declared.actor_slots.occupant.Beginning.{Beginning}
use Rattle.controller_actors.specs.declared.actor_slots.actor_slot.ActorSlot.{ActorSlot}
use Rattle.controller_actors.specs.actor_slots.Occupants.{HasTables, IsOf, Reacts, Begins, actor_of, actor_in}
use Rattle.controller_actors.specs.actor_slots.Slots.{SlotFits, SlotTurns, SlotBegins, SlotComesUp, Works, slot_body, treated_on, turned, entered, risen}
use Rattle.controller_actors.proofs.actor_slots.Priorities.{kept_ranks, back_ranks, lives_stay}
use Rattle.controller_actors.proofs.actor_slots.Occupying.{chartless_begins}

module _ (t : Wiring) (me : ℕ) (f : Frame) (l : Links) (f' : Frame) (l' : Links) (x : Incarnation) where
  -- another function for the machines of a body
  machines_on : (b : Body Actor) (old : ActorSlot) (now : Option Actor) (machines : ℕ → Option Actor) → machines ≡ updated b.machines x.slot.0 now
      → (sent back : List Msg) (notes : List Note) (kept : Bool)
      → ◌≡◌ {A = WorldDoing Actor}
      (record { body = record (slot_body f l b x.slot.0 old) { machines = machines }; sent = sent; back = back; notes = notes; kept = kept })
      (doing_on f l (record b { machines = updated b.machines x.slot.0 now }) x.slot.0 (record { deferred = old.deferred; output = record { messages = sent; notes = notes; back = back }; kept = kept }))
  machines_on b old now machines e sent back notes kept =
      ap (λ (g : ℕ → Option Actor). record { body = record (slot_body f l b x.slot.0 old) { machines = g }; sent = sent; back = back; notes = notes; kept = kept }) e

  -- the machine of a slot, and then the actor's commands
  applied_on : (b : Body Actor) (m : Option Msg) (cs : List Command) (old mid new : ActorSlot) (actor : Actor) (first last : Output)
      → actor_in mid.occupant ≡ Some actor → mid.deferred ≡ old.deferred → (w : Works t me f l f' l' x m cs mid new first last)
      → apply_all t me x m cs (record {
        body = record (slot_body f l b x.slot.0 old) { machines = updated (updated b.machines x.slot.0 (actor_in old.occupant)) x.slot.0 (Some actor) };
        sent = first.messages;
        back = first.back;
        notes = first.notes;
        kept = false;
      })
      ≡ record { body = slot_body f' l' b x.slot.0 new; sent = last.messages; back = last.back; notes = last.notes; kept = w.applied.kept }
  applied_on b m cs old mid new actor first last stands same w =
      let now = actor_in mid.occupant in
      ap (apply_all t me x m cs)
      (machines_on b old now _ (updated_twice b.machines x.slot.0 (actor_in old.occupant) (Some actor) ∙ ap (updated b.machines x.slot.0) (sym stands)) first.messages first.back first.notes false)
      ∙ ap (λ (ds : List Msg). apply_all t me x m cs (doing_on f l (record b { machines = updated b.machines x.slot.0 now }) x.slot.0 (record { deferred = ds; output = first; kept = false }))) (sym same)
      ∙ w.applied.all.on (record b { machines = updated b.machines x.slot.0 now })
      ∙ ap (λ (s : Occupant). record {
        body = record b { frame = f'; links = l'; machines = updated b.machines x.slot.0 (actor_in s); deferred = updated b.deferred x.slot.0 new.deferred };
        sent = last.messages;
        back = last.back;
        notes = last.notes;
        kept = w.applied.kept;
      }) (sym w.occupant)

  -- a message
  module _ (m : Msg) (o : Option Tables) (old mid new : ActorSlot) (r : Reaction) (done : TurnResult) (h : Reacts m o old.occupant mid.occupant r) (same : mid.deferred ≡ old.deferred)
      (w : Works t me f l f' l' x (Some m) r.outcome.effects.commands mid new (record { messages = []; notes = r.outcome.effects.notes; back = [] }) (record { messages = done.sent; notes = done.notes; back = done.back }))
      (did : done.did ≡ handled_as (handling_of (result_view r.outcome.result)) x r.state) where
    turn_on : IsOf x old.occupant → (b : Body Actor)
        → turned t me (slot_body f l b x.slot.0 old) x m (handles x m o (actor_of old.occupant)) ≡ treated_on done (slot_body f' l' b x.slot.0 new)
    turn_on of b =
        let result = handling_of (result_view r.outcome.result) in
        ap (turned t me (slot_body f l b x.slot.0 old) x m) (h.handled x of)
        ∙ ap (λ (d : WorldDoing Actor). treated d (handled_as result x (state_number (actor_of mid.occupant))))
        (applied_on b (Some m) r.outcome.effects.commands old mid new (actor_of mid.occupant) (record { messages = []; notes = r.outcome.effects.notes; back = [] }) (record { messages = done.sent; notes = done.notes; back = done.back }) h.stands same w)
        ∙ ap (λ (d : Did). record { body = slot_body f' l' b x.slot.0 new; sent = done.sent; back = done.back; did = d; notes = done.notes })
        (ap (handled_as result x) (sym h.state) ∙ sym did)

    pub turns : SlotFits x o old → IsForActors m → SlotTurns t me f l f' l' x m o old new done
    turns fits prio =
        let first : Doing = record { deferred = mid.deferred; output = record { messages = []; notes = r.outcome.effects.notes; back = [] }; kept = false } in
        let last : Doing = record { deferred = new.deferred; output = record { messages = done.sent; notes = done.notes; back = done.back }; kept = w.applied.kept } in
        let kept : All IsForActors mid.deferred = subst (λ (ms : List Msg). All IsForActors ms) (sym same) fits.kept in
        record {
          stood = h.stood;
          turn = turn_on fits.of;
          lives = lives_stay t me x (Some m) prio f l f' l' r.outcome.effects.commands first last w.applied.all;
          fits = record {
            of = subst (λ (s : Occupant). IsOf x s) (sym w.occupant) (h.me x fits.of);
            tables = subst (λ (s : Occupant). HasTables o s) (sym w.occupant) h.fits;
            kept = kept_ranks t me x (Some m) prio f l f' l' r.outcome.effects.commands first last w.applied.all kept;
          };
          back = back_ranks t me x (Some m) prio f l f' l' r.outcome.effects.commands first last w.applied.all kept (All-nil IsForActors);
        }

  -- a start
  module _ (o : Option Tables) (old mid new : ActorSlot) (r : Beginning) (first last : Output) (h : Begins x o r) (occupant : mid.occupant ≡ r.occupant) (same : mid.deferred ≡ old.deferred)
      (w : Works t me f l f' l' x None r.effects.commands mid new (record { messages = first.messages; notes = r.effects.notes; back = first.back }) last) where
    start_on : (b : Body Actor) (notes : List Note) (held : Bool)
        → entered t me x (begins x o) (record { body = slot_body f l b x.slot.0 old; sent = first.messages; back = first.back; notes = notes; kept = held })
        ≡ record { body = slot_body f' l' b x.slot.0 new; sent = last.messages; back = last.back; notes = last.notes; kept = w.applied.kept }
    start_on b notes held =
        ap (λ (a : Begun Actor). entered t me x a (record { body = slot_body f l b x.slot.0 old; sent = first.messages; back = first.back; notes = notes; kept = held })) h.began
        ∙ applied_on b None r.effects.commands old mid new (actor_of r.occupant) (record { messages = first.messages; notes = r.effects.notes; back = first.back }) last
        (ap actor_in occupant ∙ h.stands) same w

    pub starts : All IsForActors old.deferred → SlotBegins t me f l f' l' x o old new first last r.state
    starts kept =
        let from : Doing = record { deferred = mid.deferred; output = record { messages = first.messages; notes = r.effects.notes; back = first.back }; kept = false } in
        let to : Doing = record { deferred = new.deferred; output = last; kept = w.applied.kept } in
        let now : new.occupant ≡ r.occupant = w.occupant ∙ occupant in
        record {
          kept = w.applied.kept;
          doing = start_on;
          lives = lives_stay t me x None tt f l f' l' r.effects.commands from to w.applied.all;
          state = h.state ∙ ap (λ (a : Begun Actor). state_number a.machine) (sym h.began);
          fits = record {
            of = subst (λ (s : Occupant). IsOf x s) (sym now) h.me;
            tables = subst (λ (s : Occupant). HasTables o s) (sym now) h.fits;
            kept = kept_ranks t me x None tt f l f' l' r.effects.commands from to w.applied.all (subst (λ (ms : List Msg). All IsForActors ms) (sym same) kept);
          };
        }

  -- an actor that comes up
  module _ (o : Option Tables) (old mid new : ActorSlot) (r : Beginning) (first last : Output) (h : Begins x o r) (occupant : mid.occupant ≡ r.occupant) (none : mid.deferred ≡ [])
      (told : List Note) (w : Works t me f l f' l' x None r.effects.commands mid new (record { messages = first.messages; notes = told; back = first.back }) last)
      (up : told ≡ first.notes ++ notes.Up x r.state ∷ r.effects.notes) where
    -- a slot where another actor stands, and nothing is kept
    over : (b : Body Actor) (actor : Option Actor)
        → ◌≡◌ {A = Body Actor}
        (record (slot_body f l b x.slot.0 old) { machines = updated (updated b.machines x.slot.0 (actor_in old.occupant)) x.slot.0 actor; deferred = updated (updated b.deferred x.slot.0 old.deferred) x.slot.0 [] })
        (record b { frame = f; links = l; machines = updated b.machines x.slot.0 actor; deferred = updated b.deferred x.slot.0 [] })
    over b actor =
        ap (λ (g : ℕ → Option Actor). record (slot_body f l b x.slot.0 old) { machines = g; deferred = updated (updated b.deferred x.slot.0 old.deferred) x.slot.0 [] }) (updated_twice b.machines x.slot.0 (actor_in old.occupant) actor)
        ∙ ap (λ (g : ℕ → List Msg). record (slot_body f l b x.slot.0 old) { machines = updated b.machines x.slot.0 actor; deferred = g }) (updated_twice b.deferred x.slot.0 old.deferred [])

    up_on : (b : Body Actor) (held : Bool)
        → risen t me x (begins x o) (record { body = slot_body f l b x.slot.0 old; sent = first.messages; back = first.back; notes = first.notes; kept = held })
        ≡ record { body = slot_body f' l' b x.slot.0 new; sent = last.messages; back = last.back; notes = last.notes; kept = w.applied.kept }
    up_on b held =
        let state : notes.Up x (state_number (actor_of r.occupant)) ≡ notes.Up x r.state = ap (notes.Up x) (sym h.state) in
        ap (λ (a : Begun Actor). risen t me x a (record { body = slot_body f l b x.slot.0 old; sent = first.messages; back = first.back; notes = first.notes; kept = held })) h.began
        ∙ ap (λ (c : Body Actor). apply_all t me x None r.effects.commands (record { body = c; sent = first.messages; back = first.back; notes = first.notes ++ (notes.Up x (state_number (actor_of r.occupant)) ∷ r.effects.notes); kept = false }))
        (over b (Some (actor_of r.occupant)))
        ∙ ap (λ (n : Note). apply_all t me x None r.effects.commands (record { body = record b { frame = f; links = l; machines = updated b.machines x.slot.0 (Some (actor_of r.occupant)); deferred = updated b.deferred x.slot.0 [] }; sent = first.messages; back = first.back; notes = first.notes ++ (n ∷ r.effects.notes); kept = false })) state
        ∙ ap (λ (ns : List Note). apply_all t me x None r.effects.commands (record { body = record b { frame = f; links = l; machines = updated b.machines x.slot.0 (Some (actor_of r.occupant)); deferred = updated b.deferred x.slot.0 [] }; sent = first.messages; back = first.back; notes = ns; kept = false })) (sym up)
        ∙ ap (λ (a : Option Actor). apply_all t me x None r.effects.commands (record { body = record b { frame = f; links = l; machines = updated b.machines x.slot.0 a; deferred = updated b.deferred x.slot.0 [] }; sent = first.messages; back = first.back; notes = told; kept = false }))
        (sym (ap actor_in occupant ∙ h.stands))
        ∙ ap (λ (ds : List Msg). apply_all t me x None r.effects.commands (record { body = record b { frame = f; links = l; machines = updated b.machines x.slot.0 (actor_in mid.occupant); deferred = updated b.deferred x.slot.0 ds }; sent = first.messages; back = first.back; notes = told; kept = false })) (sym none)
        ∙ w.applied.all.on (record b { machines = updated b.machines x.slot.0 (actor_in mid.occupant) })
        ∙ ap (λ (s : Occupant). record {
          body = record b { frame = f'; links = l'; machines = updated b.machines x.slot.0 (actor_in s); deferred = updated b.deferred x.slot.0 new.deferred };
          sent = last.messages;
          back = last.back;
          notes = last.notes;
          kept = w.applied.kept;
        }) (sym w.occupant)

    pub comes_up : SlotComesUp t me f l f' l' x o old new first last
    comes_up =
        let from : Doing = record { deferred = mid.deferred; output = record { messages = first.messages; notes = told; back = first.back }; kept = false } in
        let to : Doing = record { deferred = new.deferred; output = last; kept = w.applied.kept } in
        let now : new.occupant ≡ r.occupant = w.occupant ∙ occupant in
        let kept : All IsForActors mid.deferred = subst (λ (ms : List Msg). All IsForActors ms) (sym none) (All-nil IsForActors) in
        record {
          kept = w.applied.kept;
          doing = up_on;
          lives = lives_stay t me x None tt f l f' l' r.effects.commands from to w.applied.all;
          fits = record {
            of = subst (λ (s : Occupant). IsOf x s) (sym now) h.me;
            tables = subst (λ (s : Occupant). HasTables o s) (sym now) h.fits;
            kept = kept_ranks t me x None tt f l f' l' r.effects.commands from to w.applied.all kept;
          };
          back = λ all. back_ranks t me x None tt f l f' l' r.effects.commands from to w.applied.all kept all;
        }

-- an actor whose class has no chart comes up
pub comes_up_without_chart : (t : Wiring) (me : ℕ) (f : Frame) (l : Links) (x : Incarnation) (old new : ActorSlot) (first : Output) (told : List Note)
    → new ≡ record { occupant = occupants.Chartless; deferred = [] } → told ≡ first.notes ++ notes.Up x 65535 ∷ []
    → SlotComesUp t me f l f l x None old new first (record { messages = first.messages; notes = told; back = first.back })
comes_up_without_chart t me f l x old new first told now up =
    let r : Beginning = record { occupant = occupants.Chartless; state = 65535; effects = record { notes = []; commands = [] } } in
    comes_up t me f l f l x None old new new r first (record { messages = first.messages; notes = told; back = first.back }) (chartless_begins x) (ap (λ (s : ActorSlot). s.occupant) now) (ap (λ (s : ActorSlot). s.deferred) now) told
    (record {
      occupant = refl;
      applied = record { kept = false; all = record { on = λ b. refl } };
    })
    up
