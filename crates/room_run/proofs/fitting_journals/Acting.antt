-- Actors that stand at states of their classes, through turns and starts.
use Rattle.std.proofs.Common.{◌≡◌, ℕ, zero, suc, ◌+◌, ◌<◌, ◌≤◌, ◌==◌, ◌&&◌, ◌||◌, Bool, true, false, not, if◌then◌else◌, List, [], ◌∷◌, ◌++◌, map, filter, reverse, length, Option, Some, None, IfSome, slice_get, refl, sym, subst, eqb-true, append_assoc, arith, ℤ, pos, negsuc, cond}
use Rattle.std.specs.List.{AllByRecursion as Each, list_all, range_with_len}
use Rattle.std.proofs.lemmas.Bool.{and_parts}
use Rattle.std.proofs.lemmas.List.{reverse-append}
use Rattle.std.proofs.lemmas.Option.{same_Some}
use Rattle.room_kinds.specs.declared.message.Msg.{Msg}
use Rattle.room_kinds.specs.declared.note.Note.{Note}
use Rattle.room_kinds.specs.declared.note.Note.TheVariants as notes
use Rattle.room_kinds.specs.declared.numbers.Endpoint.{Endpoint}
use Rattle.room_kinds.specs.declared.numbers.Incarnation.{Incarnation}
use Rattle.room_kinds.specs.declared.system.SysKind.{SysKind}
use Rattle.room_kinds.specs.declared.system.SysKind.TheVariants as kinds
use Rattle.room_wiring.specs.declared.tables.Tables.{Tables}
use Rattle.journal.specs.Fits.{FitsState, FitsStanding, FitsNotes}
use Rattle.journal.specs.Lines.{is_duty, speaker_of}
use Rattle.journal.specs.declared.entry.Did.TheVariants as did
use Rattle.journal.specs.declared.entry.Entry.{Entry}
use Rattle.journal.specs.declared.entry.Entry.TheVariants as entry
use Rattle.actor_merge.specs.Parties.{State, Line, Taken, Treated, next_of, fetch, turn, turn_with, post, post_front, Does, Replays}
use Rattle.actor_duties.specs.Messages.{reply, coded, NotHere, Occupied}
use Rattle.actor_duties.specs.Words.{updated, incarnation, frame_at, frame_of, whose, slots_of, is_own}
use Rattle.actor_duties.specs.State.{Lives, Frame}
use Rattle.actor_duties.specs.Lives.{last_of, counts_as_live, made_slots, lives_made, ended_slots, comes_up, goes_down, Lived, answered, part_make, made, create}
use Rattle.actor_duties.specs.Frame.{FrameDone, nothing, plainly, with_number, of_natural, end_set_ended, destroy, part_end, frame_duty_of, frame_duty_from, frame_duty}
use Rattle.actor_world.proofs.Slots.{own_in_range}
use Rattle.actor_world.specs.Behaviour.{Behaviour, Handling, Handled, Deferred, Unhandled}
use Rattle.actor_world.specs.Body.{Body, Doing, apply_all}
use Rattle.actor_world.specs.Turns.{all_kinds, doing, treated, begun, all_begun, gone, all_gone, closing, with_frame, duty, system_done, handled_as, nobody_there, handled, dispatched, is_meant, dispatch, treat}
use Rattle.actor_world.specs.Start.{lives_from_start, first_body, first_actors, Starting, started, all_started, starting, start_entries, first_state, plant_of}
use Rattle.chart_behaviour.specs.chart_asks.Laws.{is_zero}
use Rattle.law_charts.proofs.Doings.{apply_all_machines}
use Rattle.room_run.specs.fitting_journals.Actors.{FitsActor, TellsOfActors}
use Rattle.room_run.proofs.fitting_journals.Speaking.{Speaks, speaks_on, up_speaks, fits_both, said_zeros, AsksAt, all_applied}

-- ---- slots

-- these actors may stand in slots of the wiring
abbrev pub AreThere : Tables → List Incarnation → Type 0
AreThere t xs = Each (λ (x : Incarnation). x.slot.0 < length t.slots) xs

abbrev pub Below : ℕ → List ℕ → Type 0
Below k ss = Each (λ (s : ℕ). s < k) ss

pub numbers_below : (k low n : ℕ) → low + n ≤ k → Below k (range_with_len low n)
numbers_below k low zero h = tt
numbers_below k low (suc n) h = (omega (arith, h), numbers_below k (low + 1) n (omega (arith, h)))

pub slots_below : (t : Tables) → Below (length t.slots) (slots_of t)
slots_below t = numbers_below (length t.slots) 0 (length t.slots) (omega arith)

pub filter_below : (k : ℕ) (test : ℕ → Bool) (ss : List ℕ) → Below k ss → Below k (filter test ss)
filter_below k test [] h = tt
filter_below k test (s ∷ ss) h = go (test s) (filter_below k test ss h.1)
  where
    go : (b : Bool) → Below k (filter test ss) → Below k (cond b (s ∷ filter test ss) (filter test ss))
    go true rest = (h.0, rest)
    go false rest = rest

both_below : (k : ℕ) (a b : List ℕ) → Below k a → Below k b → Below k (a ++ b)
both_below k [] b h m = m
both_below k (s ∷ a) b h m = (h.0, both_below k a b h.1 m)

reverse_below : (k : ℕ) (ss : List ℕ) → Below k ss → Below k (reverse ss)
reverse_below k [] h = tt
reverse_below k (s ∷ ss) h = subst (Below k) (sym (reverse-append (s ∷ []) ss)) (both_below k (reverse ss) (s ∷ []) (reverse_below k ss h.1) (h.0, tt))

pub last_there : (t : Tables) (l : Lives) (ss : List ℕ) → Below (length t.slots) ss → AreThere t (map (last_of l) ss)
last_there t l [] h = tt
last_there t l (s ∷ ss) h = (h.0, last_there t l ss h.1)

pub first_there : (t : Tables) (ss : List ℕ) → Below (length t.slots) ss → AreThere t (map (λ s. incarnation s 1) ss)
first_there t [] h = tt
first_there t (s ∷ ss) h = (h.0, first_there t ss h.1)

-- what a duty of the frame service makes and ends is there
pub record FrameThere (t : Tables) (r : FrameDone) : Type 0 where
  pub made : AreThere t r.made
  pub ended : AreThere t r.ended

pub record LivedThere (t : Tables) (r : Lived) : Type 0 where
  pub made : AreThere t r.made
  pub ended : AreThere t r.ended

module _ (t : Tables) (me : ℕ) where
  nothing_there : (f : Frame) → FrameThere t (nothing f)
  nothing_there f = record { made = tt; ended = tt }

  pub made_below : (l : Lives) (o : ℕ) → Below (length t.slots) (made_slots t me l o)
  unfolding made_slots
  made_below l o = filter_below (length t.slots) (comes_up t me l o) (slots_of t) (slots_below t)

  pub ended_below : (l : Lives) (o : ℕ) → Below (length t.slots) (ended_slots t me l o)
  unfolding ended_slots
  ended_below l o =
      reverse_below (length t.slots) (filter (goes_down t me l o) (slots_of t)) (filter_below (length t.slots) (goes_down t me l o) (slots_of t) (slots_below t))

  pub part_there : (l : Lives) (o : ℕ) → LivedThere t (part_make t me l o)
  unfolding part_make
  part_there l o = record { made = last_there t (lives_made t me o l) (made_slots t me l o) (made_below l o); ended = tt }

  made_there : (l : Lives) (m : Msg) (o : ℕ) (x : Endpoint) → LivedThere t (made t me l m o x)
  unfolding made
  made_there l m o x = record { made = (part_there l o).made; ended = (part_there l o).ended }

  create_there : (l : Lives) (m : Msg) (o : ℕ) (x : Endpoint) → LivedThere t (create t me l m o x)
  unfolding create
  create_there l m o x = go (not (counts_as_live t me l (whose x))) (l.lives o)
    where
      go : (a b : Bool) → LivedThere t (
          if a then answered l (reply me m kinds.CreateRefused (frame_at o 0) x (coded NotHere))
          else if b then answered l (reply me m kinds.CreateRefused (frame_at o 0) x (coded Occupied))
          else made t me l m o x)
      go true b = record { made = tt; ended = tt }
      go false true = record { made = tt; ended = tt }
      go false false = made_there l m o x

  end_there : (f : Frame) (o : ℕ) (last : Option Msg) → FrameThere t (end_set_ended t me f o last)
  unfolding end_set_ended
  end_there f o last = record { made = tt; ended = last_there t f.lives (ended_slots t me f.lives o) (ended_below f.lives o) }

  destroy_there : (f : Frame) (m : Msg) (o : ℕ) (x : Endpoint) → FrameThere t (destroy t me f m o x)
  unfolding destroy
  destroy_there f m o x = go (not (counts_as_live t me f.lives (whose x)) || not (f.lives.lives o))
    where
      go : (a : Bool) → FrameThere t (
          if a then record { frame = f; sent = []; made = []; ended = []; last = Some (reply me m kinds.DestroyDone (frame_at o 0) x (coded NotHere)) }
          else end_set_ended t me f o (Some (reply me m kinds.DestroyDone (frame_of (last_of f.lives o)) x (pos 0 ∷ []))))
      go true = record { made = tt; ended = tt }
      go false = end_there f o _

  plainly_there : (f : Frame) (fits : Bool) (payload : List ℤ) (done : FrameDone) → FrameThere t done → FrameThere t (plainly f fits payload done)
  plainly_there f true [] done h = h
  plainly_there f false [] done h = nothing_there f
  plainly_there f fits (n ∷ ns) done h = nothing_there f

  number_there : (f : Frame) (fits : Bool) (payload : List ℤ) (done : ℤ → FrameDone) → ((n : ℤ) → FrameThere t (done n)) → FrameThere t (with_number f fits payload done)
  number_there f fits [] done h = nothing_there f
  number_there f true (n ∷ []) done h = h n
  number_there f false (n ∷ []) done h = nothing_there f
  number_there f fits (n ∷ (k ∷ ns)) done h = nothing_there f

  natural_there : (f : Frame) (n : ℤ) (done : ℕ → FrameDone) → ((k : ℕ) → FrameThere t (done k)) → FrameThere t (of_natural f n done)
  natural_there f (pos n) done h = h n
  natural_there f (negsuc n) done h = nothing_there f

  frame_duty_of_there : (f : Frame) (m : Msg) (kind : SysKind) (a b : Endpoint) → FrameThere t (frame_duty_of t me f m kind a b)
  unfolding part_end
  frame_duty_of_there f m kinds.Create x o =
      plainly_there f _ m.payload _ (let r = create_there f.lives m o.slot.0 x in record { made = r.made; ended = r.ended })
  frame_duty_of_there f m kinds.Destroy x o = plainly_there f _ m.payload _ (destroy_there f m o.slot.0 x)
  frame_duty_of_there f m kinds.CreateDone a b = plainly_there f _ m.payload _ (record { made = tt; ended = tt })
  frame_duty_of_there f m kinds.CreateRefused a b = number_there f _ m.payload _ (λ n. record { made = tt; ended = tt })
  frame_duty_of_there f m kinds.DestroyDone a b = number_there f _ m.payload _ (λ n. natural_there f n _ (λ k. record { made = tt; ended = tt }))
  frame_duty_of_there f m kinds.Import a b = plainly_there f _ m.payload _ (record { made = tt; ended = tt })
  frame_duty_of_there f m kinds.ImportDone a b = plainly_there f _ m.payload _ (record { made = tt; ended = tt })
  frame_duty_of_there f m kinds.ImportRefused a b = number_there f _ m.payload _ (λ n. record { made = tt; ended = tt })
  frame_duty_of_there f m kinds.ImportEnded a b = plainly_there f _ m.payload _ (record { made = tt; ended = tt })
  frame_duty_of_there f m kinds.Deport a b = plainly_there f _ m.payload _ (record { made = tt; ended = tt })
  frame_duty_of_there f m kinds.DeportDone a b = plainly_there f _ m.payload _ (record { made = tt; ended = tt })
  frame_duty_of_there f m kinds.Announce a b = number_there f _ m.payload _ (λ n. natural_there f n _ (λ k. record { made = tt; ended = tt }))
  frame_duty_of_there f m kinds.Register a b = nothing_there f
  frame_duty_of_there f m kinds.Withdraw a b = nothing_there f
  frame_duty_of_there f m kinds.Bound a b = nothing_there f
  frame_duty_of_there f m kinds.Ended a b = nothing_there f
  frame_duty_of_there f m kinds.NameReply a b = nothing_there f
  frame_duty_of_there f m kinds.PartMake a b =
      plainly_there f _ m.payload _ (let r = part_there f.lives a.slot.0 in record { made = r.made; ended = r.ended })
  frame_duty_of_there f m kinds.PartEnd a b = plainly_there f _ m.payload _ (end_there f a.slot.0 None)

  frame_duty_from_there : (f : Frame) (m : Msg) (kind : SysKind) (o : Option Endpoint) → FrameThere t (frame_duty_from t me f m kind o)
  frame_duty_from_there f m kind None = nothing_there f
  frame_duty_from_there f m kind (Some a) = frame_duty_of_there f m kind a m.target

  pub frame_duty_there : (f : Frame) (kind : SysKind) (m : Msg) → FrameThere t (frame_duty t me f kind m)
  unfolding frame_duty
  frame_duty_there f kind m = frame_duty_from_there f m kind m.source

-- ---- actors

-- A behaviour whose actors stand where a fact holds of their machines: it begins and stays so, and their states
-- are then those of their classes. What they note is that a divisor was 0, and what they send goes by ports of
-- their classes.
pub record StandsWell {M : Type 0} (t : Tables) (P : ℕ → M → Type 0) (model : Behaviour M) : Type 0 where
  pub begin : (x : Incarnation) → P x.slot.0 (model.begin x).machine
  pub handle : (x : Incarnation) (machine : M) (m : Msg) → P x.slot.0 machine → P x.slot.0 (model.handle x machine m).machine
  pub state : (s : ℕ) (machine : M) → s < length t.slots → P s machine → FitsState t s (model.state machine)
  pub begin_notes : (x : Incarnation) → list_all is_zero (model.begin x).notes ≡ true
  pub handle_notes : (x : Incarnation) (machine : M) (m : Msg) → list_all is_zero (model.handle x machine m).notes ≡ true
  pub begin_asks : (x : Incarnation) → Each (AsksAt t x.slot.0) (model.begin x).commands
  pub handle_asks : (x : Incarnation) (machine : M) (m : Msg) → Each (AsksAt t x.slot.0) (model.handle x machine m).commands

module _ {M : Type 0} (t : Tables) (P : ℕ → M → Type 0) (model : Behaviour M) (well : StandsWell t P model) (me : ℕ) where
  -- the fact holds of each machine
  abbrev Machines : (ℕ → Option M) → Type 0
  Machines f = (s : ℕ) → IfSome (f s) (P s)

  put_machine : (f : ℕ → Option M) (at : ℕ) (o : Option M) → Machines f → IfSome o (P at) → Machines (updated f at o)
  unfolding updated
  put_machine f at o h k s = go (s == at) refl
    where
      go : (b : Bool) → (s == at) ≡ b → IfSome (if b then o else f s) (P s)
      go true e = subst (λ (n : ℕ). IfSome o (P n)) (sym (eqb-true s at e)) k
      go false e = h s

  stands : (x : Incarnation) (machine : M) → x.slot.0 < length t.slots → P x.slot.0 machine → FitsStanding t x (model.state machine)
  stands x machine there h = record { actor = record { slot = there }; stands = well.state x.slot.0 machine there h }

  -- ---- duties

  record Well (d : Doing M) : Type 0 where
    machines : Machines d.body.machines
    notes : FitsNotes t true None d.notes

  begun_well : (x : Incarnation) (d : Doing M) → x.slot.0 < length t.slots → Well d → Well (begun model t me x d)
  begun_well x d there h =
      let new = model.begin x in
      let up : List Note = notes.Up x (model.state (model.begin x).machine) ∷ [] in
      let e : Doing M = record d {
        body = record d.body {
          machines = updated d.body.machines x.slot.0 (Some (model.begin x).machine);
          deferred = updated d.body.deferred x.slot.0 [];
        };
        notes = d.notes ++ (notes.Up x (model.state (model.begin x).machine) ∷ (model.begin x).notes);
        kept = false;
      } in
      let first : Speaks t true None x (d.notes ++ up) =
      up_speaks t None d.notes x (model.state (model.begin x).machine) h.notes (stands x (model.begin x).machine there (well.begin x)) in
      let says : Speaks t true None x (d.notes ++ (notes.Up x (model.state (model.begin x).machine) ∷ (model.begin x).notes)) =
      subst (Speaks t true None x) (append_assoc d.notes up (model.begin x).notes)
      (speaks_on t true x there None (d.notes ++ up) (model.begin x).notes first (said_zeros t x (model.begin x).notes (well.begin_notes x))) in
      record {
        machines = subst Machines (sym (apply_all_machines t me x None (model.begin x).commands e))
            (put_machine d.body.machines x.slot.0 (Some (model.begin x).machine) h.machines (well.begin x));
        notes = (all_applied t me x true there None None (model.begin x).commands e (well.begin_asks x) says).fit;
      }

  all_begun_well : (xs : List Incarnation) (d : Doing M) → AreThere t xs → Well d → Well (all_begun model t me xs d)
  all_begun_well [] d there h = h
  all_begun_well (x ∷ xs) d there h = all_begun_well xs (begun model t me x d) there.1 (begun_well x d there.0 h)

  gone_well : (x : Incarnation) (d : Doing M) → x.slot.0 < length t.slots → Well d → Well (gone t me x d)
  gone_well x d there h = record {
    machines = put_machine d.body.machines x.slot.0 None h.machines tt;
    notes = fits_both t true None d.notes (notes.Down x (length (d.body.deferred x.slot.0)) ∷ []) h.notes (record { slot = there }, tt);
  }

  all_gone_well : (xs : List Incarnation) (d : Doing M) → AreThere t xs → Well d → Well (all_gone t me xs d)
  all_gone_well [] d there h = h
  all_gone_well (x ∷ xs) d there h = all_gone_well xs (gone t me x d) there.1 (gone_well x d there.0 h)

  closing_well : (d : Doing M) (o : Option Msg) → Well d → Well (closing d o)
  closing_well d None h = h
  closing_well d (Some m) h = record { machines = h.machines; notes = h.notes }

  with_frame_well : (b : Body M) (r : FrameDone) → Machines b.machines → FrameThere t r → Well (with_frame model t me b r)
  with_frame_well b r h there =
      closing_well _ r.last (all_gone_well r.ended _ there.ended (all_begun_well r.made _ there.made (record { machines = h; notes = tt })))

  framed_well : (b : Body M) (m : Msg) (kind : SysKind) → Machines b.machines → Well (with_frame model t me b (frame_duty t me b.frame kind m))
  framed_well b m kind h = with_frame_well b (frame_duty t me b.frame kind m) h (frame_duty_there t me b.frame kind m)

  duty_well : (b : Body M) (m : Msg) (kind : SysKind) → Machines b.machines → Well (duty model t me b m kind)
  duty_well b m kinds.Register h = record { machines = h; notes = tt }
  duty_well b m kinds.Withdraw h = record { machines = h; notes = tt }
  duty_well b m kinds.Bound h = record { machines = h; notes = tt }
  duty_well b m kinds.Ended h = record { machines = h; notes = tt }
  duty_well b m kinds.NameReply h = record { machines = h; notes = tt }
  duty_well b m kinds.Create h = framed_well b m kinds.Create h
  duty_well b m kinds.CreateDone h = framed_well b m kinds.CreateDone h
  duty_well b m kinds.CreateRefused h = framed_well b m kinds.CreateRefused h
  duty_well b m kinds.Destroy h = framed_well b m kinds.Destroy h
  duty_well b m kinds.DestroyDone h = framed_well b m kinds.DestroyDone h
  duty_well b m kinds.Import h = framed_well b m kinds.Import h
  duty_well b m kinds.ImportDone h = framed_well b m kinds.ImportDone h
  duty_well b m kinds.ImportRefused h = framed_well b m kinds.ImportRefused h
  duty_well b m kinds.ImportEnded h = framed_well b m kinds.ImportEnded h
  duty_well b m kinds.Deport h = framed_well b m kinds.Deport h
  duty_well b m kinds.DeportDone h = framed_well b m kinds.DeportDone h
  duty_well b m kinds.Announce h = framed_well b m kinds.Announce h
  duty_well b m kinds.PartMake h = framed_well b m kinds.PartMake h
  duty_well b m kinds.PartEnd h = framed_well b m kinds.PartEnd h

  system_well : (b : Body M) (m : Msg) (o : Option SysKind) → Machines b.machines → Well (system_done model t me b m o)
  system_well b m None h = record { machines = h; notes = tt }
  system_well b m (Some kind) h = duty_well b m kind h

  -- ---- turns

  -- what a turn tells of actors is so of the wiring
  record TreatedWell (r : Treated (Body M)) : Type 0 where
    machines : Machines r.body.machines
    actor : FitsActor t r.did
    notes : FitsNotes t (is_duty r.did) (speaker_of r.did) r.notes

  told_as : (h : Handling) (x : Incarnation) (state : ℕ) (ns : List Note) → FitsStanding t x state → FitsNotes t false (Some x.slot) ns
      → FitsActor t (handled_as h x state) × FitsNotes t (is_duty (handled_as h x state)) (speaker_of (handled_as h x state)) ns
  told_as Handled x state ns s n = (s, n)
  told_as Deferred x state ns s n = (s, n)
  told_as Unhandled x state ns s n = (s, n)

  handled_well : (b : Body M) (x : Incarnation) (m : Msg) (machine : M) → x.slot.0 < length t.slots → Machines b.machines → P x.slot.0 machine
      → TreatedWell (handled model t me b x m machine)
  unfolding handled
  handled_well b x m machine there h p =
      let r = model.handle x machine m in
      let after : P x.slot.0 (model.handle x machine m).machine = well.handle x machine m p in
      let e : Doing M = record (doing b) {
        body = record b { machines = updated b.machines x.slot.0 (Some (model.handle x machine m).machine) };
        notes = (model.handle x machine m).notes;
      } in
      let nobody : Speaks t false (Some x.slot) x [] = record { fit = tt; speaker = refl } in
      let says : Speaks t false (Some x.slot) x (model.handle x machine m).notes =
      speaks_on t false x there (Some x.slot) [] (model.handle x machine m).notes nobody (said_zeros t x (model.handle x machine m).notes (well.handle_notes x machine m)) in
      let told = told_as (model.handle x machine m).result x (model.state (model.handle x machine m).machine)
      (apply_all t me x (Some m) (model.handle x machine m).commands e).notes
      (stands x (model.handle x machine m).machine there after)
      (all_applied t me x false there (Some x.slot) (Some m) (model.handle x machine m).commands e (well.handle_asks x machine m) says).fit in
      record {
        machines = subst Machines (sym (apply_all_machines t me x (Some m) (model.handle x machine m).commands e))
            (put_machine b.machines x.slot.0 (Some (model.handle x machine m).machine) h after);
        actor = told.0;
        notes = told.1;
      }

  dispatched_well : (b : Body M) (m : Msg) (o : Option M) → m.target.slot.0 < length t.slots → Machines b.machines → IfSome o (P m.target.slot.0)
      → TreatedWell (dispatched model t me b m o)
  dispatched_well b m None there h p = record { machines = h; actor = tt; notes = tt }
  dispatched_well b m (Some machine) there h p = handled_well b (last_of b.frame.lives m.target.slot.0) m machine there h p

  dispatch_well : (b : Body M) (m : Msg) → Machines b.machines → TreatedWell (dispatch model t me b m)
  unfolding dispatch
  dispatch_well b m h = go (is_own t me m.target.slot.0 && b.frame.lives.lives m.target.slot.0) refl (not (is_meant b.frame m))
    where
      within : (is_own t me m.target.slot.0 && b.frame.lives.lives m.target.slot.0) ≡ true → m.target.slot.0 < length t.slots
      within e = own_in_range t me m.target.slot.0 (and_parts (is_own t me m.target.slot.0) (b.frame.lives.lives m.target.slot.0) e).0

      go : (x : Bool) → (is_own t me m.target.slot.0 && b.frame.lives.lives m.target.slot.0) ≡ x → (y : Bool) → TreatedWell (
          if not x then nobody_there b m
          else if y then treated (doing b) (did.Stale (whose m.target))
          else dispatched model t me b m (b.machines m.target.slot.0))
      go false e y = record { machines = h; actor = tt; notes = tt }
      go true e true = record { machines = h; actor = record { slot = within e }; notes = tt }
      go true e false = dispatched_well b m (b.machines m.target.slot.0) (within e) h (h m.target.slot.0)

  treat_well : (b : Body M) (m : Msg) → Machines b.machines → TreatedWell (treat model t me b m)
  unfolding treat
  treat_well b m h = go (m.prio.0 == 0)
    where
      go : (x : Bool)
          → TreatedWell (if x then treated (system_done model t me b m (slice_get all_kinds m.signal)) did.Duty else dispatch model t me b m)
      go true = let done = system_well b m (slice_get all_kinds m.signal) h in record { machines = done.machines; actor = tt; notes = done.notes }
      go false = dispatch_well b m h

  -- ---- a controller

  abbrev StepWell : State (Body M) × Entry → Type 0
  StepWell r = TellsOfActors t r.1 × Machines r.0.body.machines

  module _ (lines : List Line) where
    turn_well : (s : State (Body M)) (r : State (Body M) × Entry) → Machines s.body.machines → turn (plant_of model t lines) me s ≡ Some r → StepWell r
    unfolding turn
    turn_well s r h e = go s.outbox (next_of s.pending) e
      where
        go : (box : List Msg) (o : Option Taken) → turn_with (plant_of model t lines) me s box o ≡ Some r → StepWell r
        go [] None k = absurd cc
        go [] (Some taken) k =
            let done = treat_well s.body taken.message h in subst StepWell (same_Some _ r k) ((done.actor, done.notes), done.machines)
        go (m ∷ ms) o k = absurd cc

    post_well : (s : State (Body M)) (r : State (Body M) × Entry) → Machines s.body.machines → post me s ≡ Some r → StepWell r
    unfolding post
    post_well s r h e = go s.outbox e
      where
        go : (box : List Msg) → post_front me s box ≡ Some r → StepWell r
        go [] k = absurd cc
        go (m ∷ rest) k = subst StepWell (same_Some _ r k) (tt, h)

    fetch_well : (s : State (Body M)) (m : Msg) (r : State (Body M) × Entry) → Machines s.body.machines → fetch s m ≡ r → StepWell r
    unfolding fetch
    fetch_well s m r h e = subst StepWell e (tt, h)

    step_well : (s next : State (Body M)) (e : Entry) → Does (plant_of model t lines) me s e next → Machines s.body.machines → StepWell (next, e)
    step_well s next (entry.Start who state ns) d h = absurd d
    step_well s next (entry.Fetch stamp m) d h = fetch_well s m (next, entry.Fetch stamp m) h d
    step_well s next (entry.Turn stamp from sent what ns) d h = turn_well s (next, entry.Turn stamp from sent what ns) h d
    step_well s next (entry.Post stamp m) d h = post_well s (next, entry.Post stamp m) h d

    replay_well : (es : List Entry) (s end : State (Body M)) → Replays (plant_of model t lines) me s es end → Machines s.body.machines → Each (TellsOfActors t) es
    replay_well [] s end r h = tt
    replay_well (e ∷ es) s end r h = let step = step_well s r.0 e r.1 h in (step.0, replay_well es r.0 end r.2 step.1)

  -- ---- starts

  record StartWell (s : Starting M) : Type 0 where
    machines : Machines s.doing.body.machines
    entries : Each (TellsOfActors t) s.entries

  each_push : (es : List Entry) (e : Entry) → Each (TellsOfActors t) es → TellsOfActors t e → Each (TellsOfActors t) (es ++ e ∷ [])
  each_push [] e h k = (k, tt)
  each_push (x ∷ es) e h k = (h.0, each_push es e h.1 k)

  started_well : (s : Starting M) (x : Incarnation) → x.slot.0 < length t.slots → StartWell s → StartWell (started model t me s x)
  started_well s x there h =
      let e : Doing M = record s.doing {
        body = record s.doing.body { machines = updated s.doing.body.machines x.slot.0 (Some (model.begin x).machine) };
        notes = (model.begin x).notes;
        kept = false;
      } in
      let nobody : Speaks t false (Some x.slot) x [] = record { fit = tt; speaker = refl } in
      let says : Speaks t false (Some x.slot) x (model.begin x).notes =
      speaks_on t false x there (Some x.slot) [] (model.begin x).notes nobody (said_zeros t x (model.begin x).notes (well.begin_notes x)) in
      record {
        machines = subst Machines (sym (apply_all_machines t me x None (model.begin x).commands e))
            (put_machine s.doing.body.machines x.slot.0 (Some (model.begin x).machine) h.machines (well.begin x));
        entries = each_push s.entries (entry.Start x (model.state (model.begin x).machine) (started model t me s x).doing.notes) h.entries (
          stands x (model.begin x).machine there (well.begin x),
          (all_applied t me x false there (Some x.slot) None (model.begin x).commands e (well.begin_asks x) says).fit,
        );
      }

  all_started_well : (xs : List Incarnation) (s : Starting M) → AreThere t xs → StartWell s → StartWell (all_started model t me xs s)
  all_started_well [] s there h = h
  all_started_well (x ∷ xs) s there h = all_started_well xs (started model t me s x) there.1 (started_well s x there.0 h)

  pub first_actors_there : AreThere t (first_actors t me)
  unfolding first_actors
  first_actors_there =
      first_there t (filter (λ s. is_own t me s && lives_from_start t s) (slots_of t))
      (filter_below (length t.slots) (λ s. is_own t me s && lives_from_start t s) (slots_of t) (slots_below t))

  starting_well : StartWell (starting model t me)
  unfolding starting
  starting_well =
      all_started_well (first_actors t me) (record { doing = doing (first_body t me); entries = [] }) first_actors_there
      (record { machines = λ s. tt; entries = tt })

  -- what a controller's start tells, and then what happens to it
  pub start_tells : Each (TellsOfActors t) (start_entries model t me)
  start_tells = starting_well.entries

  pub replay_tells : (lines : List Line) (es : List Entry) (end : State (Body M)) → Replays (plant_of model t lines) me (first_state model t me) es end
      → Each (TellsOfActors t) es
  replay_tells lines es end r = replay_well lines es (first_state model t me) end r starting_well.machines
