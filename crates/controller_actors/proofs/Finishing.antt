-- Duties of the frame service, with what is left to do after them.
use Rattle.std.proofs.Common.{◌≡◌, ℕ, zero, suc, ◌+◌, ◌==◌, Bool, true, false, List, [], ◌∷◌, ◌++◌, length, slice_get, All, Option, Some, None, refl, sym, ap, ◌∙◌, subst, arith}
use Rattle.std.specs.List.{list_any}
use Rattle.std.proofs.lemmas.List.Elements.{All-nil}
use Rattle.std.proofs.lemmas.Bool.{eq-eqb}
use Rattle.room_kinds.specs.declared.message.Msg.{Msg}
use Rattle.room_kinds.specs.declared.numbers.Incarnation.{Incarnation}
use Rattle.room_kinds.specs.declared.system.SysKind.{SysKind}
use Rattle.room_kinds.specs.declared.system.SysKind.TheVariants as kinds
use Rattle.room_kinds.specs.Kinds.{number_of}
use Rattle.room_kinds.specs.Names.{kind_at}
use Rattle.journal.specs.declared.entry.Did.TheVariants as did
use Rattle.actor_duties.specs.State.{Frame, Lives, NameTable}
use Rattle.actor_duties.specs.Lives.{last_of}
use Rattle.actor_duties.specs.Frame.{FrameDone, frame_duty}
use Rattle.actor_world.specs.Behaviour.{Behaviour}
use Rattle.actor_world.specs.Body.{Body, Doing}
use Rattle.actor_world.specs.Turns.{all_kinds, all_begun, all_gone, closing, doing, duty, system_done, treat, treated, with_frame}
use Rattle.chart_run.specs.declared.chart_tables.tables.Tables.{Tables as ChartTables}
use Rattle.chart_behaviour.specs.ModelCharts.{Actor, tables_at}
use Rattle.frame_lives.specs.declared.done.DutyDone.{DutyDone}
use Rattle.frame_service.specs.State.{frame_in}
use Rattle.frame_service.specs.declared.state.FrameState.{FrameState}
use Rattle.frame_service.specs.Done.{IsDone}
use Rattle.layer_service.specs.layer_links.Kept.{links_of}
use Rattle.controller_mail.specs.MailState.{IsForActors, with_body}
use Rattle.controller_mail.specs.declared.mail_queues.TurnResult.{TurnResult}
use Rattle.controller_actors.specs.declared.actor_slots.occupant.Occupant.{Occupant}
use Rattle.controller_actors.specs.declared.actor_slots.occupant.Occupant.TheVariants as occupants
use Rattle.controller_actors.specs.declared.actor_slots.actor_slot.ActorSlot.{ActorSlot}
use Rattle.controller_actors.specs.declared.actor_commands.output.Output.{Output}
use Rattle.controller_actors.specs.declared.plant.Plant.{Plant}
use Rattle.controller_actors.specs.declared.actors.Actors.{Actors}
use Rattle.controller_actors.specs.declared.duties.Service.TheVariants as services
use Rattle.controller_actors.specs.Served.{links_in}
use Rattle.controller_actors.specs.actor_slots.Occupants.{HasTables, IsOf}
use Rattle.controller_actors.specs.actor_slots.Slots.{SlotFits}
use Rattle.controller_actors.specs.Plants.{model_of}
use Rattle.controller_actors.specs.Bodies.{AreEmpty, HasSlots, IsWell, body_of, done_of, is_in, lives_of, slot_at}
use Rattle.controller_actors.specs.Steps.{Closes, IsLast, IsOwn, Moves, doing_of}
use Rattle.controller_actors.specs.Duties.{Finishes, HasDuty, finishing, service_of}
use Rattle.controller_actors.proofs.DutyFacts.{Facts, facts}
use Rattle.controller_actors.proofs.Moving.{then_moves}
use Rattle.controller_actors.proofs.Turning.{treat_duty}

-- ---- what is left to do

module _ (p : Plant) (me : ℕ) where
  closed : (a : Actors) (x y : Output) (last : Option Msg) (kept : Bool) → Closes x y last → closing (doing_of p me a x kept) last ≡ doing_of p me a y kept
  closed a x y None kept h =
      same x y h.messages h.back h.notes
    where
      same : (x y : Output) → y.messages ≡ x.messages → y.back ≡ x.back → y.notes ≡ x.notes → doing_of p me a x kept ≡ doing_of p me a y kept
      same x y e f g = cc
  closed a x y (Some m) kept h = same x y h.messages h.back h.notes
    where
      same : (x y : Output) → y.messages ≡ x.messages ++ m ∷ [] → y.back ≡ x.back → y.notes ≡ x.notes
          → closing (doing_of p me a x kept) (Some m) ≡ doing_of p me a y kept
      same x y e f g = cc

  pub finishes : (left : DutyDone) (sent : List Msg) (old mid new : Actors) (first one two last : Output) (done : TurnResult)
      → first.messages ≡ sent → first.notes ≡ [] → first.back ≡ []
      → Moves (all_begun (model_of p) p.wiring me left.made) p me old first mid one → Moves (all_gone p.wiring me left.ended) p me mid one new two
      → Closes two last left.last
      → done ≡ record { sent = last.messages; back = last.back; did = did.Duty; notes = last.notes }
      → AreEmpty p me [] new → Finishes p me left sent old new done
  finishes left sent old mid new first one two last done is told back h k c d empty =
      let both = then_moves p me (all_begun (model_of p) p.wiring me left.made) (all_gone p.wiring me left.ended) old mid new first one two h k in
      let start : record (doing (body_of p me old)) { sent = sent } ≡ doing_of p me old first false = begins is told back in
      let kept = (both.on false).0 in
      record {
        turn =
            ap (λ (w : Doing Actor). treated (closing (all_gone p.wiring me left.ended (all_begun (model_of p) p.wiring me left.made w)) left.last) did.Duty) start
            ∙ ap (λ (w : Doing Actor). treated (closing w left.last) did.Duty) (both.on false).1
            ∙ ap (λ (w : Doing Actor). treated w did.Duty) (closed new two last left.last kept c)
            ∙ ap (λ (x : TurnResult). with_body (done_of x) (body_of p me new)) (sym d);
        well = record { has_slots = both.has_slots; empty = empty };
        back =
            subst (λ (x : TurnResult). All IsForActors x.back) (sym d)
            (subst (λ (ms : List Msg). All IsForActors ms) (sym c.back) (both.back (subst (λ (ms : List Msg). All IsForActors ms) (sym back) (All-nil IsForActors))));
      }
    where
      begins : first.messages ≡ sent → first.notes ≡ [] → first.back ≡ [] → record (doing (body_of p me old)) { sent = sent } ≡ doing_of p me old first false
      begins e f g = cc

-- ---- after a duty of the frame service

-- nobody fits everywhere
nobody_fits : (x : Incarnation) (o : Option ChartTables) (actor_slot : ActorSlot) → actor_slot.occupant ≡ occupants.Nobody → All IsForActors actor_slot.deferred → SlotFits x o actor_slot
nobody_fits x o actor_slot e kept = record {
  of = subst (λ (s : Occupant). IsOf x s) (sym e) tt;
  tables = subst (λ (s : Occupant). HasTables o s) (sym e) tt;
  kept = kept;
}

module _ (p : Plant) (me : ℕ) (m : Msg) (kind : SysKind) (old mid : Actors) (sent : List Msg) (left : DutyDone) (well : IsWell p me old)
    (slots : mid.slots ≡ old.slots) (links : mid.services.links ≡ old.services.links) (table : mid.table ≡ old.table)
    (h : IsDone p.wiring old.services.frame mid.services.frame (frame_duty p.wiring me (frame_in old.services.frame) kind m) [] sent left) where
  abbrev row : FrameDone
  row = frame_duty p.wiring me (frame_in old.services.frame) kind m

  known : Facts p.wiring me (lives_of old) row
  known = facts p.wiring me (frame_in old.services.frame) m kind

  lives : lives_of mid ≡ row.frame.lives
  lives = ap (λ (f : Frame). f.lives) h.frame

  left_slots : (s : ℕ) → slot_at p.wiring me mid.slots.items s ≡ slot_at p.wiring me old.slots.items s
  left_slots s = ap (λ v. slot_at p.wiring me v.items s) slots

  fits_at : (s : ℕ) (b : Bool) → (lives_of old).lives s ≡ b → SlotFits (last_of row.frame.lives s) (tables_at p.wiring p.tables.items s) (slot_at p.wiring me old.slots.items s)
  fits_at s true live =
      subst (λ (g : ℕ). SlotFits (record { slot = record { 0 = s }; generation = record { 0 = g } }) (tables_at p.wiring p.tables.items s) (slot_at p.wiring me old.slots.items s))
      (sym (known.living s live)) (well.has_slots.each s)
  fits_at s false dead = nobody_fits _ _ _ (well.empty s dead refl) (well.has_slots.each s).kept

  pub duty_has_slots : HasSlots p me mid
  duty_has_slots = record {
    serves = record { fits = h.fits; owner = ap (λ c. c.0) h.me ∙ well.has_slots.serves.owner };
    each = λ s.
        subst (λ (l : Lives). SlotFits (last_of l s) (tables_at p.wiring p.tables.items s) (slot_at p.wiring me mid.slots.items s)) (sym lives)
        (subst (λ (x : ActorSlot). SlotFits (last_of row.frame.lives s) (tables_at p.wiring p.tables.items s) x) (sym (left_slots s)) (fits_at s ((lives_of old).lives s) refl));
    count = ap (λ v. length v.items) slots ∙ well.has_slots.count;
  }

  pub duty_empty : AreEmpty p me left.ended mid
  duty_empty = λ s dead out.
      let gone : row.frame.lives.lives s ≡ false = sym (ap (λ (l : Lives). l.lives s) lives) ∙ dead in
      let not_ended : list_any (is_in s) row.ended ≡ false = sym (ap (λ (d : DutyDone). list_any (is_in s) d.ended) h.done) ∙ out in
      ap (λ (x : ActorSlot). x.occupant) (left_slots s) ∙ well.empty s (known.still s gone not_ended) refl

  pub duty_made : All (IsLast p.wiring me (lives_of mid)) left.made
  duty_made =
      subst (λ (l : Lives). All (IsLast p.wiring me l) left.made) (sym lives)
      (subst (λ (d : DutyDone). All (IsLast p.wiring me row.frame.lives) d.made) (sym h.done) known.comes)

  pub duty_ended : All (IsOwn p.wiring me) left.ended
  duty_ended = subst (λ (d : DutyDone). All (IsOwn p.wiring me) d.ended) (sym h.done) known.goes

  is_frame : (model : Behaviour Actor) (b : Body Actor) (k : SysKind) → service_of k ≡ services.Frame → duty model p.wiring me b m k ≡ with_frame model p.wiring me b (frame_duty p.wiring me b.frame k m)
  is_frame model b kinds.Register e = absurd cc
  is_frame model b kinds.Withdraw e = absurd cc
  is_frame model b kinds.Bound e = absurd cc
  is_frame model b kinds.Ended e = absurd cc
  is_frame model b kinds.NameReply e = absurd cc
  is_frame model b kinds.Create e = refl
  is_frame model b kinds.CreateDone e = refl
  is_frame model b kinds.CreateRefused e = refl
  is_frame model b kinds.Destroy e = refl
  is_frame model b kinds.DestroyDone e = refl
  is_frame model b kinds.Import e = refl
  is_frame model b kinds.ImportDone e = refl
  is_frame model b kinds.ImportRefused e = refl
  is_frame model b kinds.ImportEnded e = refl
  is_frame model b kinds.Deport e = refl
  is_frame model b kinds.DeportDone e = refl
  is_frame model b kinds.Announce e = refl
  is_frame model b kinds.PartMake e = refl
  is_frame model b kinds.PartEnd e = refl

  -- the state from which the rest is done
  begun_from : record (doing (body_of p me old)) { body = record (body_of p me old) { frame = row.frame }; sent = row.sent }
      ≡ record (doing (body_of p me mid)) { sent = sent }
  unfolding body_of
  begun_from =
      ap (λ (f : Frame). record (doing (body_of p me old)) { body = record (body_of p me old) { frame = f }; sent = row.sent }) (sym h.frame)
      ∙ ap (λ (ms : List Msg). record (doing (body_of p me old)) { body = record (body_of p me old) { frame = frame_in mid.services.frame }; sent = ms }) (sym h.sent)
      ∙ ap (λ v. record (doing (body_of p me old)) { body = record (body_of p me old) { frame = frame_in mid.services.frame; links = links_of v }; sent = sent }) (sym links)
      ∙ ap (λ (v : NameTable). record (doing (body_of p me old)) { body = record (body_of p me old) { frame = frame_in mid.services.frame; links = links_in mid.services; table = v }; sent = sent }) (sym table)
      ∙ ap (λ v. record (doing (body_of p me old)) { body = body_of p me (record mid { slots = v }); sent = sent }) (sym slots)

  pub has_duty : (new : Actors) (done : TurnResult) → service_of kind ≡ services.Frame → Finishes p me left sent mid new done → HasDuty p me m kind old new done
  unfolding body_of
  has_duty new done e f = record {
    turn =
        ap (λ (w : Doing Actor). treated w did.Duty) (is_frame (model_of p) (body_of p me old) kind e)
        ∙ ap (λ (w : Doing Actor). treated (closing (all_gone p.wiring me row.ended (all_begun (model_of p) p.wiring me row.made w)) row.last) did.Duty) begun_from
        ∙ ap (λ (d : DutyDone). treated (finishing p me d (record (doing (body_of p me mid)) { sent = sent })) did.Duty) (sym h.done)
        ∙ f.turn;
    well = f.well;
    back = f.back;
  }

-- what came of the duty
module _ (p : Plant) (me : ℕ) (m : Msg) (kind : SysKind) (old : FrameState) (new : FrameState) (before out : List Msg) (left : DutyDone) where
  pub own_done : old.me.0 ≡ me → before ≡ [] → IsDone p.wiring old new (frame_duty p.wiring old.me.0 (frame_in old) kind m) before out left
      → IsDone p.wiring old new (frame_duty p.wiring me (frame_in old) kind m) [] out left
  own_done owner none h =
      subst (λ (ms : List Msg). IsDone p.wiring old new (frame_duty p.wiring me (frame_in old) kind m) ms out left) none
      (subst (λ (n : ℕ). IsDone p.wiring old new (frame_duty p.wiring n (frame_in old) kind m) before out left) owner h)

-- ---- kinds by their numbers

-- kinds in order of their numbers, from this one on
abbrev AreFrom : ℕ → List SysKind → Type 0
AreFrom i [] = Unit {0}
AreFrom i (k ∷ ks) = (number_of k ≡ i) × AreFrom (suc i) ks

number_in : (i : ℕ) (ks : List SysKind) → AreFrom i ks → (n : ℕ) (k : SysKind) → slice_get ks n ≡ Some k → number_of k ≡ i + n
number_in i [] are n k h = absurd cc
number_in i (x ∷ xs) are zero k h = let same : x ≡ k = cc in let first = are.0 in subst (λ y. number_of y ≡ i + 0) same (omega (arith, first))
number_in i (x ∷ xs) are (suc n) k h = let rest = number_in (suc i) xs are.1 n k h in omega (arith, rest)

-- the number of the kind that is found
pub kind_number : (n : ℕ) (k : SysKind) → kind_at n ≡ Some k → number_of k ≡ n
unfolding kind_at
kind_number n k h =
    let found = number_in 0 all_kinds (refl, (refl, (refl, (refl, (refl, (refl, (refl, (refl, (refl, (refl, (refl, (refl, (refl, (refl, (refl, (refl, (refl, (refl, (refl, tt))))))))))))))))))) n k h in
    omega (arith, found)

module _ (p : Plant) (me : ℕ) (m : Msg) (old : Actors) (prio : m.prio.0 ≡ 0) where
  prio_test : (m.prio.0 == 0) ≡ true
  prio_test = eq-eqb m.prio.0 0 prio

  at_kind : (o : Option SysKind) → o ≡ kind_at m.signal → treat (model_of p) p.wiring me (body_of p me old) m ≡ treated (system_done (model_of p) p.wiring me (body_of p me old) m o) did.Duty
  unfolding kind_at
  at_kind o is =
      treat_duty (model_of p) p.wiring me (body_of p me old) m prio_test
      ∙ ap (λ (k : Option SysKind). treated (system_done (model_of p) p.wiring me (body_of p me old) m k) did.Duty) (sym is)

  pub treats_none : (done : TurnResult) → None ≡ kind_at m.signal → done ≡ record { sent = []; back = []; did = did.Duty; notes = [] }
      → treat (model_of p) p.wiring me (body_of p me old) m ≡ with_body (done_of done) (body_of p me old)
  treats_none done none is = at_kind None none ∙ ap (λ (d : TurnResult). with_body (done_of d) (body_of p me old)) (sym is)

  pub treats_duty : (new : Actors) (done : TurnResult) (kind : SysKind) → Some kind ≡ kind_at m.signal → HasDuty p me m kind old new done
      → treat (model_of p) p.wiring me (body_of p me old) m ≡ with_body (done_of done) (body_of p me new)
  treats_duty new done kind is h = at_kind (Some kind) is ∙ h.turn
