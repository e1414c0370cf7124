-- A turn announces only what was created, if what it takes in does.
use Rattle.std.proofs.Common.{◌≡◌, ℕ, ◌≤◌, ◌==◌, Bool, true, false, not, cond, ◌&&◌, ◌||◌, if◌then◌else◌, List, [], ◌∷◌, ◌++◌, map, flat_map, filter, length, slice_get, Option, Some, None, ℤ, pos, negsuc, refl, sym, ◌∙◌, subst, eqb-true, arith}
use mathlib.Core.List.{reverse_aux}
use Rattle.std.specs.Option.{option_map_or}
use Rattle.std.proofs.lemmas.Bool.{and_parts}
use Rattle.room_kinds.specs.declared.message.Msg.{Msg}
use Rattle.room_kinds.specs.declared.numbers.Incarnation.{Incarnation}
use Rattle.room_kinds.specs.declared.numbers.Endpoint.{Endpoint}
use Rattle.room_kinds.specs.declared.system.SysKind.{SysKind}
use Rattle.room_kinds.specs.declared.system.SysKind.TheVariants as kinds
use Rattle.room_kinds.specs.declared.command.Command.{Command}
use Rattle.room_kinds.specs.declared.command.Command.TheVariants as commands
use Rattle.room_kinds.specs.declared.command.FrameCommand.{FrameCommand}
use Rattle.room_kinds.specs.declared.command.FrameCommand.TheVariants as frames
use Rattle.journal.specs.declared.entry.Did.TheVariants as did
use Rattle.room_wiring.specs.declared.tables.Tables.{Tables}
use Rattle.room_wiring.specs.declared.slot.Slot.{Slot}
use Rattle.room_wiring.specs.Slots.{slot_at}
use Rattle.actor_merge.specs.Parties.{Treated}
use Rattle.actor_duties.specs.Words.{updated, slots_of, incarnation, frame_at, frame_of, whose, is_own, owner_of, is_optional, is_frame, is_part_of}
use Rattle.actor_duties.specs.State.{Lives, Frame}
use Rattle.actor_duties.specs.Messages.{reply, coded, NotHere, Occupied}
use Rattle.actor_duties.specs.Lives.{answered, announce_to, counts_as_live, create, made, part_make, lives_made, lives_ended, last_of, announces, parts_told, told_controllers, made_slots, ended_slots, announce, goes_down, comes_up}
use Rattle.actor_duties.specs.Imports.{imported_parts, given_back, ended_plugs}
use Rattle.actor_duties.specs.Frame.{end_messages, part_ends, frame_ended, end_set_ended, FrameDone, only_sends, plainly, with_number, of_natural, with_lives, destroy, part_end, is_request, frame_duty, frame_duty_of, frame_duty_from, frame_request}
use Rattle.actor_duties.specs.Links.{name_request, end_of}
use Rattle.actor_duties.specs.Commands.{Content, Kept, defer, recall, recall_all}
use Rattle.actor_world.specs.Behaviour.{Behaviour}
use Rattle.actor_world.specs.Body.{Body, Doing, sent_at, apply_all}
use Rattle.actor_world.specs.Turns.{all_kinds, doing, treated, begun, all_begun, gone, all_gone, closing, with_frame, duty, system_done, handled_as, handled, nobody_there, dispatched, is_meant, dispatch, treat}
use Rattle.actor_world.specs.Life.{IsModest}
use Rattle.actor_world.specs.Directories.{SendsOpenly, IsOpen}
use Rattle.actor_world.proofs.LifeSteps.{IsSound, up_parts, down_parts}
use Rattle.actor_world.proofs.TurnLives.{frame_counts}
use Rattle.actor_world.proofs.Silent.{announced_by, announced, AllSilent, silent_create_done, silent_create_refused, silent_destroy_done, silent_import, silent_import_done, silent_import_refused, silent_import_ended, silent_deport, silent_deport_done, silent_ended_plugs, silent_given_back, silent_part_makes, silent_part_ends, silent_request, silent_name_request, silent_end_of, silent_links, silent_table, silent_send, silent_broadcast}

-- what a message announces was created, by these last generations of slots
abbrev pub IsTold : (ℕ → ℕ) → Msg → Type 0
IsTold g m = (x : Incarnation) → announced m ≡ Some x → x.generation.0 ≤ g x.slot.0

-- the same of all of these messages
abbrev pub AllTold : (ℕ → ℕ) → List Msg → Type 0
AllTold g [] = Unit {0}
AllTold g (m ∷ ms) = IsTold g m × AllTold g ms

pub told_silent : (g : ℕ → ℕ) (ms : List Msg) → AllSilent ms → AllTold g ms
told_silent g [] h = tt
told_silent g (m ∷ ms) h = let e = h.0 in ((λ x k. absurd cc), told_silent g ms h.1)

pub told_append : (g : ℕ → ℕ) (a b : List Msg) → AllTold g a → AllTold g b → AllTold g (a ++ b)
told_append g [] b h k = k
told_append g (m ∷ a) b h k = (h.0, told_append g a b h.1 k)

pub told_more : (g h : ℕ → ℕ) → ((s : ℕ) → g s ≤ h s) → (ms : List Msg) → AllTold g ms → AllTold h ms
told_more g h up [] k = tt
told_more g h up (m ∷ ms) k = ((λ x e. let a = k.0 x e in let b = up x.slot.0 in omega arith), told_more g h up ms k.1)

pub told_filter : (g : ℕ → ℕ) (p : Msg → Bool) (ms : List Msg) → AllTold g ms → AllTold g (filter p ms)
told_filter g p [] h = tt
told_filter g p (m ∷ ms) h = go (p m) (told_filter g p ms h.1)
  where
    go : (b : Bool) → AllTold g (filter p ms) → AllTold g (cond b (m ∷ filter p ms) (filter p ms))
    go true k = (h.0, k)
    go false k = k

-- a controller's state in the middle of a turn is fine: all that it sends, gives back and keeps
-- announces what was created, and its directory tells that
pub record IsFine {M : Type 0} (g : ℕ → ℕ) (d : Doing M) : Type 0 where
  pub sent : AllTold g d.sent
  pub back : AllTold g d.back
  pub deferred : (s : ℕ) → AllTold g (d.body.deferred s)
  pub told : (s : ℕ) → d.body.frame.told s ≤ g s

put_told : (g : ℕ → ℕ) (f : ℕ → List Msg) (at : ℕ) (ms : List Msg) → ((s : ℕ) → AllTold g (f s)) → AllTold g ms → (s : ℕ) → AllTold g (updated f at ms s)
unfolding updated
put_told g f at ms h k s = go (s == at)
  where
    go : (b : Bool) → AllTold g (if b then ms else f s)
    go true = k
    go false = h s

-- the message in hand, if there is one
abbrev pub HandTold : (ℕ → ℕ) → Option Msg → Type 0
HandTold g None = Unit {0}
HandTold g (Some m) = IsTold g m

defer_told : (g : ℕ → ℕ) (b : Bool) (m : Option Msg) (d : List Msg) → HandTold g m → AllTold g d → AllTold g (defer b m d).deferred × AllTold g (defer b m d).back
unfolding defer
defer_told g true m d h k = (k, tt)
defer_told g false (Some m) d h k = (told_append g d (m ∷ []) k (h, tt), tt)
defer_told g false None d h k = (k, tt)

recall_told : (g : ℕ → ℕ) (d : List Msg) → AllTold g d → AllTold g (recall d).deferred × AllTold g (recall d).back
unfolding recall
recall_told g [] h = (tt, tt)
recall_told g (m ∷ ms) h = (h.1, (h.0, tt))

recall_all_told : (g : ℕ → ℕ) (d : List Msg) → AllTold g d → AllTold g (recall_all d).deferred × AllTold g (recall_all d).back
unfolding recall_all
recall_all_told g d h = (tt, h)

pub request_told : (t : Tables) (me : ℕ) (f : Frame) (x : Incarnation) (c : FrameCommand) → (frame_request t me f x c).now.told ≡ f.told
request_told t me f x (frames.Incarnate reference index) = refl
request_told t me f x (frames.Destroy reference index) = refl
request_told t me f x (frames.Import reference index id) = refl
request_told t me f x (frames.Deport reference index) = refl

sent_at_silent : {M : Type 0} (t : Tables) (me : ℕ) (d : Doing M) (x : Incarnation) (p : ℕ) (k : Option ℤ) (c : Content) → (c.prio.0 == 0) ≡ false → AllSilent (sent_at t me d x p k c).messages
sent_at_silent t me d x p (Some k) c h = silent_send t me d.body.frame d.body.links x p k c h
sent_at_silent t me d x p None c h = silent_broadcast t me d.body.frame d.body.links x p c h

keeping_fine : {M : Type 0} (g : ℕ → ℕ) (d : Doing M) (slot : ℕ) (k : Kept) → IsFine g d → AllTold g k.deferred → AllTold g k.back
    → ((s : ℕ) → AllTold g (updated d.body.deferred slot k.deferred s)) × AllTold g (k.back ++ d.back)
keeping_fine g d slot k h a b = (put_told g d.body.deferred slot k.deferred h.deferred a, told_append g k.back d.back b h.back)

pub apply_all_fine : {M : Type 0} (g : ℕ → ℕ) (t : Tables) (me : ℕ) (x : Incarnation) (m : Option Msg) → HandTold g m → (cs : List Command) → SendsOpenly cs → (d : Doing M)
    → IsFine g d → IsFine g (apply_all t me x m cs d)
apply_all_fine g t me x m hand [] clear d h = h
apply_all_fine g t me x m hand (commands.Send p k signal payload prio ∷ cs) clear d h =
    let c : Content = record { signal = signal; payload = payload; prio = prio } in
    apply_all_fine g t me x m hand cs clear.1 _ (record {
      sent = told_append g d.sent (sent_at t me d x p k c).messages h.sent (told_silent g _ (sent_at_silent t me d x p k c clear.0));
      back = h.back;
      deferred = h.deferred;
      told = h.told;
    })
apply_all_fine g t me x m hand (commands.Defer ∷ cs) clear d h =
    let k = defer_told g d.kept m (d.body.deferred x.slot.0) hand (h.deferred x.slot.0) in
    let r = keeping_fine g d x.slot.0 (defer d.kept m (d.body.deferred x.slot.0)) h k.0 k.1 in
    apply_all_fine g t me x m hand cs clear _ (record { sent = h.sent; back = r.1; deferred = r.0; told = h.told })
apply_all_fine g t me x m hand (commands.Recall ∷ cs) clear d h =
    let k = recall_told g (d.body.deferred x.slot.0) (h.deferred x.slot.0) in
    let r = keeping_fine g d x.slot.0 (recall (d.body.deferred x.slot.0)) h k.0 k.1 in
    apply_all_fine g t me x m hand cs clear _ (record { sent = h.sent; back = r.1; deferred = r.0; told = h.told })
apply_all_fine g t me x m hand (commands.RecallAll ∷ cs) clear d h =
    let k = recall_all_told g (d.body.deferred x.slot.0) (h.deferred x.slot.0) in
    let r = keeping_fine g d x.slot.0 (recall_all (d.body.deferred x.slot.0)) h k.0 k.1 in
    apply_all_fine g t me x m hand cs clear _ (record { sent = h.sent; back = r.1; deferred = r.0; told = h.told })
apply_all_fine g t me x m hand (commands.Frame c ∷ cs) clear d h =
    apply_all_fine g t me x m hand cs clear _ (record {
      sent = told_append g d.sent (frame_request t me d.body.frame x c).sent h.sent (told_silent g _ (silent_request t me d.body.frame x c));
      back = h.back;
      deferred = h.deferred;
      told = λ s. subst (λ (f : ℕ → ℕ). f s ≤ g s) (sym (request_told t me d.body.frame x c)) (h.told s);
    })
apply_all_fine g t me x m hand (commands.Name c ∷ cs) clear d h =
    apply_all_fine g t me x m hand cs clear _ (record {
      sent = told_append g d.sent (name_request t me d.body.links x c).sent h.sent (told_silent g _ (silent_name_request t me d.body.links x c));
      back = h.back;
      deferred = h.deferred;
      told = h.told;
    })

-- a message that closes a duty announces nothing
abbrev pub IsSilentLast : Option Msg → Type 0
IsSilentLast None = Unit {0}
IsSilentLast (Some m) = announced m ≡ None

-- a duty of the frame service is fine
pub record FrameFine (g : ℕ → ℕ) (r : FrameDone) : Type 0 where
  pub sent : AllTold g r.sent
  pub last : IsSilentLast r.last
  pub told : (s : ℕ) → r.frame.told s ≤ g s

pub own_owner : (t : Tables) (me s : ℕ) → is_own t me s ≡ true → owner_of t s ≡ me
unfolding is_own owner_of
own_owner t me s h = go (slot_at t s) h
  where
    go : (o : Option Slot) → option_map_or (λ (x : Slot). x.owner.0 == me) o false ≡ true → option_map_or (λ (x : Slot). x.owner.0) o 0 ≡ me
    go None k = absurd cc
    go (Some x) k = eqb-true x.owner.0 me k

-- Announces of an incarnation whose generation was created
announces_told : (g : ℕ → ℕ) (t : Tables) (me : ℕ) (x : Incarnation) (up : ℤ) → x.generation.0 ≤ g x.slot.0 → AllTold g (announces t me x up)
unfolding announces
announces_told g t me x up h = go (told_controllers t x.slot.0)
  where
    go : (ds : List ℕ) → AllTold g (map (announce_to me x up) ds)
    go [] = tt
    go (d ∷ ds) = ((λ y e. let same : whose (frame_of x) ≡ y = cc in subst (λ (z : Incarnation). z.generation.0 ≤ g z.slot.0) same h), go ds)

-- each of these slots passes a test
abbrev pub Pass : (ℕ → Type 0) → List ℕ → Type 0
Pass p [] = Unit {0}
Pass p (s ∷ ss) = p s × Pass p ss

pass_filter : (q : ℕ → Bool) (p : ℕ → Type 0) → ((s : ℕ) → q s ≡ true → p s) → (ss : List ℕ) → Pass p (filter q ss)
pass_filter q p h [] = tt
pass_filter q p h (s ∷ ss) = go (q s) refl (pass_filter q p h ss)
  where
    go : (b : Bool) → q s ≡ b → Pass p (filter q ss) → Pass p (cond b (s ∷ filter q ss) (filter q ss))
    go true e k = (h s e, k)
    go false e k = k

pass_onto : (p : ℕ → Type 0) (ss acc : List ℕ) → Pass p ss → Pass p acc → Pass p (reverse_aux ss acc)
pass_onto p [] acc h k = k
pass_onto p (s ∷ ss) acc h k = pass_onto p ss (s ∷ acc) h.1 (h.0, k)

made_told : (g : ℕ → ℕ) (t : Tables) (me : ℕ) (l : Lives) (ss : List ℕ) → Pass (λ s. l.generation s ≤ g s) ss
    → AllTold g (flat_map (λ (i : Incarnation). announces t me i (pos 1)) (map (last_of l) ss))
made_told g t me l [] h = tt
made_told g t me l (s ∷ ss) h =
    told_append g (announces t me (last_of l s) (pos 1)) _ (announces_told g t me (last_of l s) (pos 1) h.0) (made_told g t me l ss h.1)

given_back_told : (g : ℕ → ℕ) (t : Tables) (me n : ℕ) (f : Frame) (is : List ℕ) → AllTold g (flat_map (λ i. given_back t me (incarnation i n) (f.places i)) is)
given_back_told g t me n f [] = tt
given_back_told g t me n f (i ∷ is) =
    told_append g (given_back t me (incarnation i n) (f.places i)) _ (told_silent g _ (silent_given_back t me (incarnation i n) (f.places i))) (given_back_told g t me n f is)

end_told : (g : ℕ → ℕ) (t : Tables) (me : ℕ) (f : Frame) (s : ℕ) → f.lives.generation s ≤ g s → AllTold g (end_messages t me f s)
unfolding end_messages
end_told g t me f s h =
    told_append g (ended_plugs t me (last_of f.lives s) (f.plugs s)) _ (told_silent g _ (silent_ended_plugs t me (last_of f.lives s) (f.plugs s)))
    (told_append g _ (announces t me (last_of f.lives s) (pos 0))
    (given_back_told g t me (f.lives.generation s) f (imported_parts t s))
    (announces_told g t me (last_of f.lives s) (pos 0) h))

ended_told : (g : ℕ → ℕ) (t : Tables) (me : ℕ) (f : Frame) (ss : List ℕ) → Pass (λ s. f.lives.generation s ≤ g s) ss → AllTold g (flat_map (end_messages t me f) ss)
ended_told g t me f [] h = tt
ended_told g t me f (s ∷ ss) h = told_append g (end_messages t me f s) _ (end_told g t me f s h.0) (ended_told g t me f ss h.1)

-- the last generations of a controller's own slots
abbrev pub OwnBelow : Tables → ℕ → (ℕ → ℕ) → Lives → Type 0
OwnBelow t me g l = (s : ℕ) → owner_of t s ≡ me → l.generation s ≤ g s

-- a duty is fine where the last generations after it are those that count
abbrev pub Fine : Tables → ℕ → (ℕ → ℕ) → FrameDone → Type 0
Fine t me g r = OwnBelow t me g r.frame.lives → FrameFine g r

module _ (t : Tables) (me : ℕ) (g : ℕ → ℕ) (f : Frame) (before : (s : ℕ) → f.told s ≤ g s) (sound : IsSound t me f.lives) where
  only_fine : (sent : List Msg) → AllSilent sent → Fine t me g (only_sends f sent)
  only_fine sent h own = record { sent = told_silent g sent h; last = tt; told = before }

  plainly_fine : (fits : Bool) (payload : List ℤ) (r : FrameDone) → (fits ≡ true → Fine t me g r) → Fine t me g (plainly f fits payload r)
  plainly_fine true [] r h = h refl
  plainly_fine false [] r h = only_fine [] tt
  plainly_fine fits (n ∷ ns) r h = only_fine [] tt

  number_fine : (fits : Bool) (payload : List ℤ) (r : ℤ → FrameDone) → ((n : ℤ) → Fine t me g (r n)) → Fine t me g (with_number f fits payload r)
  number_fine fits [] r h = only_fine [] tt
  number_fine true (n ∷ []) r h = h n
  number_fine false (n ∷ []) r h = only_fine [] tt
  number_fine fits (n ∷ (k ∷ ns)) r h = only_fine [] tt

  natural_fine : (n : ℤ) (r : ℕ → FrameDone) → ((n : ℕ) → Fine t me g (r n)) → Fine t me g (of_natural f n r)
  natural_fine (pos n) r h = h n
  natural_fine (negsuc n) r h = only_fine [] tt

  made_here : (o : ℕ) → OwnBelow t me g (lives_made t me o f.lives)
      → AllTold g (flat_map (λ (i : Incarnation). announces t me i (pos 1)) (map (last_of (lives_made t me o f.lives)) (made_slots t me f.lives o)))
  unfolding made_slots
  made_here o h =
      made_told g t me (lives_made t me o f.lives) (made_slots t me f.lives o)
      (pass_filter (comes_up t me f.lives o) (λ s. (lives_made t me o f.lives).generation s ≤ g s)
      (λ s e. h s (own_owner t me s (up_parts t me f.lives o s e).0))
      (slots_of t))

  part_fine : (o : ℕ) → Fine t me g (with_lives f (part_make t me f.lives o))
  unfolding part_make
  part_fine o = λ h. record { sent = made_here o h; last = tt; told = before }

  create_fine : (m : Msg) (o : ℕ) (x : Endpoint) → Fine t me g (with_lives f (create t me f.lives m o x))
  unfolding create made part_make
  create_fine m o x = go (not (counts_as_live t me f.lives (whose x))) (f.lives.lives o)
    where
      go : (a b : Bool) → Fine t me g (with_lives f (
          if a then answered f.lives (reply me m kinds.CreateRefused (frame_at o 0) x (coded NotHere))
          else if b then answered f.lives (reply me m kinds.CreateRefused (frame_at o 0) x (coded Occupied))
          else made t me f.lives m o x))
      go true b = λ h. record { sent = tt; last = refl; told = before }
      go false true = λ h. record { sent = tt; last = refl; told = before }
      go false false = λ h.
          record {
            sent = told_append g _ (parts_told t me kinds.PartMake (last_of (lives_made t me o f.lives) o)) (made_here o h)
                (told_silent g _ (silent_part_makes t me (last_of (lives_made t me o f.lives) o)));
            last = refl;
            told = before;
          }

  end_set_fine : (o : ℕ) (last : Option Msg) → IsSilentLast last → Fine t me g (end_set_ended t me f o last)
  unfolding end_set_ended frame_ended ended_slots lives_ended
  end_set_fine o last silent = λ h.
      record {
        sent = told_append g _ (flat_map (part_ends t me f) (ended_slots t me f.lives o))
            (ended_told g t me f (ended_slots t me f.lives o)
            (pass_onto (λ s. f.lives.generation s ≤ g s) (filter (goes_down t me f.lives o) (slots_of t)) []
            (pass_filter (goes_down t me f.lives o) (λ s. f.lives.generation s ≤ g s)
            (λ s e. h s (own_owner t me s (down_parts t me f.lives o s e).0)) (slots_of t)) tt))
            (told_silent g _ (silent_part_ends t me f (ended_slots t me f.lives o)));
        last = silent;
        told = before;
      }

  destroy_fine : (m : Msg) (o : ℕ) (x : Endpoint) → Fine t me g (destroy t me f m o x)
  unfolding destroy
  destroy_fine m o x = go (not (counts_as_live t me f.lives (whose x)) || not (f.lives.lives o))
    where
      done : Option Msg
      done = Some (reply me m kinds.DestroyDone (frame_of (last_of f.lives o)) x (pos 0 ∷ []))

      go : (a : Bool) → Fine t me g (
          if a then record { frame = f; sent = []; made = []; ended = []; last = Some (reply me m kinds.DestroyDone (frame_at o 0) x (coded NotHere)) }
          else end_set_ended t me f o done)
      go true = λ h. record { sent = tt; last = refl; told = before }
      go false = end_set_fine o done refl

  part_end_fine : (o : ℕ) → Fine t me g (part_end t me f o)
  unfolding part_end
  part_end_fine o = end_set_fine o None tt

  put_below : (s n : ℕ) → n ≤ g s → (x : ℕ) → updated f.told s n x ≤ g x
  unfolding updated
  put_below s n h x = go (x == s) refl
    where
      go : (b : Bool) → (x == s) ≡ b → (if b then n else f.told x) ≤ g x
      go true e = subst (λ z. n ≤ g z) (sym (eqb-true x s e)) h
      go false e = before x

  announce_fine : (x : Incarnation) (up : ℕ) → x.generation.0 ≤ g x.slot.0 → (s : ℕ) → announce f.told x up s ≤ g s
  unfolding announce
  announce_fine x up h s = go (up == 1) (up == 0)
    where
      go : (a b : Bool) → (if a then updated f.told x.slot.0 x.generation.0 else if b then updated f.told x.slot.0 0 else f.told) s ≤ g s
      go true b = put_below x.slot.0 x.generation.0 h s
      go false true = put_below x.slot.0 0 (omega arith) s
      go false false = before s

  duty_of_fine : (m : Msg) (kind : SysKind) (a b : Endpoint) → ((x : Incarnation) → announced_by (Some kind) (Some a) ≡ Some x → x.generation.0 ≤ g x.slot.0)
      → Fine t me g (frame_duty_of t me f m kind a b)
  duty_of_fine m kinds.Create x o s = plainly_fine (is_request t me x o) m.payload _ (λ h. create_fine m o.slot.0 x)
  duty_of_fine m kinds.Destroy x o s = plainly_fine (is_request t me x o) m.payload _ (λ h. destroy_fine m o.slot.0 x)
  duty_of_fine m kinds.CreateDone a b s = plainly_fine _ m.payload _ (λ h. only_fine _ (silent_create_done t me a b))
  duty_of_fine m kinds.CreateRefused a b s = number_fine _ m.payload _ (λ n. only_fine _ (silent_create_refused t me a b n))
  duty_of_fine m kinds.DestroyDone a b s = number_fine _ m.payload _ (λ n. natural_fine n _ (λ k. only_fine _ (silent_destroy_done t me a b k)))
  duty_of_fine m kinds.Import a b s = plainly_fine _ m.payload _ (λ h own. record { sent = told_silent g _ (silent_import t me f.lives f.plugs m a b); last = tt; told = before })
  duty_of_fine m kinds.ImportDone a b s = plainly_fine _ m.payload _ (λ h own. record { sent = told_silent g _ (silent_import_done t me f.lives f.places a b); last = tt; told = before })
  duty_of_fine m kinds.ImportRefused a b s = number_fine _ m.payload _ (λ n own. record { sent = told_silent g _ (silent_import_refused t me f.lives f.places a b n); last = tt; told = before })
  duty_of_fine m kinds.ImportEnded a b s = plainly_fine _ m.payload _ (λ h own. record { sent = told_silent g _ (silent_import_ended t me f.lives f.places a b); last = tt; told = before })
  duty_of_fine m kinds.Deport a b s = plainly_fine _ m.payload _ (λ h own. record { sent = told_silent g _ (silent_deport t me f.lives f.plugs m a b); last = tt; told = before })
  duty_of_fine m kinds.DeportDone a b s = plainly_fine _ m.payload _ (λ h own. record { sent = told_silent g _ (silent_deport_done t me f.lives f.places a b); last = tt; told = before })
  duty_of_fine m kinds.Announce a b s =
      number_fine _ m.payload _ (λ n. natural_fine n _ (λ k own. record { sent = tt; last = tt; told = announce_fine (whose a) k (s (whose a) refl) }))
  duty_of_fine m kinds.Register a b s = only_fine [] tt
  duty_of_fine m kinds.Withdraw a b s = only_fine [] tt
  duty_of_fine m kinds.Bound a b s = only_fine [] tt
  duty_of_fine m kinds.Ended a b s = only_fine [] tt
  duty_of_fine m kinds.NameReply a b s = only_fine [] tt
  duty_of_fine m kinds.PartMake a b s = plainly_fine _ m.payload _ (λ h. part_fine a.slot.0)
  duty_of_fine m kinds.PartEnd a b s = plainly_fine _ m.payload _ (λ h. part_end_fine a.slot.0)

  duty_from_fine : (m : Msg) (kind : SysKind) (o : Option Endpoint) → ((x : Incarnation) → announced_by (Some kind) o ≡ Some x → x.generation.0 ≤ g x.slot.0)
      → Fine t me g (frame_duty_from t me f m kind o)
  duty_from_fine m kind None s = only_fine [] tt
  duty_from_fine m kind (Some a) s = duty_of_fine m kind a m.target s

  pub frame_duty_fine : (m : Msg) (kind : SysKind) → ((x : Incarnation) → announced_by (Some kind) m.source ≡ Some x → x.generation.0 ≤ g x.slot.0)
      → Fine t me g (frame_duty t me f kind m)
  unfolding frame_duty
  frame_duty_fine m kind s = duty_from_fine m kind m.source s

module _ {M : Type 0} (model : Behaviour M) (clear : IsOpen model) (t : Tables) (me : ℕ) (g : ℕ → ℕ) where
  begun_fine : (x : Incarnation) (d : Doing M) → IsFine g d → IsFine g (begun model t me x d)
  begun_fine x d h =
      apply_all_fine g t me x None tt (model.begin x).commands (clear.begin x) _
      (record { sent = h.sent; back = h.back; deferred = put_told g d.body.deferred x.slot.0 [] h.deferred tt; told = h.told })

  all_begun_fine : (xs : List Incarnation) (d : Doing M) → IsFine g d → IsFine g (all_begun model t me xs d)
  all_begun_fine [] d h = h
  all_begun_fine (x ∷ xs) d h = all_begun_fine xs (begun model t me x d) (begun_fine x d h)

  gone_fine : (x : Incarnation) (d : Doing M) → IsFine g d → IsFine g (gone t me x d)
  gone_fine x d h =
      record {
        sent = told_append g d.sent (end_of t me d.body.links x).sent h.sent (told_silent g _ (silent_end_of t me d.body.links x));
        back = h.back;
        deferred = put_told g d.body.deferred x.slot.0 [] h.deferred tt;
        told = h.told;
      }

  all_gone_fine : (xs : List Incarnation) (d : Doing M) → IsFine g d → IsFine g (all_gone t me xs d)
  all_gone_fine [] d h = h
  all_gone_fine (x ∷ xs) d h = all_gone_fine xs (gone t me x d) (gone_fine x d h)

  closing_fine : (d : Doing M) (o : Option Msg) → IsFine g d → IsSilentLast o → IsFine g (closing d o)
  closing_fine d None h k = h
  closing_fine d (Some m) h k = record { sent = told_append g d.sent (m ∷ []) h.sent (told_silent g (m ∷ []) (k, tt)); back = h.back; deferred = h.deferred; told = h.told }

  with_frame_fine : (b : Body M) (r : FrameDone) → ((s : ℕ) → AllTold g (b.deferred s)) → FrameFine g r → IsFine g (with_frame model t me b r)
  with_frame_fine b r h k =
      closing_fine _ r.last (all_gone_fine r.ended _ (all_begun_fine r.made _ (record { sent = k.sent; back = tt; deferred = h; told = k.told }))) k.last

-- the result of a turn is fine
abbrev pub TreatedFine : {M : Type 0} → (ℕ → ℕ) → Treated (Body M) → Type 0
TreatedFine g r = AllTold g r.sent × AllTold g r.back × ((s : ℕ) → AllTold g (r.body.deferred s)) × ((s : ℕ) → r.body.frame.told s ≤ g s)

module _ {M : Type 0} (model : Behaviour M) (modest : IsModest model) (clear : IsOpen model) (t : Tables) (me : ℕ) (g : ℕ → ℕ) where
  frame_fine : (b : Body M) (m : Msg) → IsSound t me b.frame.lives → (kind : SysKind) → ((s : ℕ) → AllTold g (b.deferred s)) → ((s : ℕ) → b.frame.told s ≤ g s)
      → ((x : Incarnation) → announced_by (Some kind) m.source ≡ Some x → x.generation.0 ≤ g x.slot.0)
      → OwnBelow t me g (with_frame model t me b (frame_duty t me b.frame kind m)).body.frame.lives → IsFine g (with_frame model t me b (frame_duty t me b.frame kind m))
  frame_fine b m sound kind deferred told handled_as own =
      let r : FrameDone = frame_duty t me b.frame kind m in
      let same = (frame_counts model modest t me b r).0 in
      with_frame_fine model clear t me g b r deferred
      (frame_duty_fine t me g b.frame told sound m kind handled_as (subst (OwnBelow t me g) same own))

  duty_fine : (b : Body M) (m : Msg) → IsSound t me b.frame.lives → (kind : SysKind) → ((s : ℕ) → AllTold g (b.deferred s)) → ((s : ℕ) → b.frame.told s ≤ g s)
      → ((x : Incarnation) → announced_by (Some kind) m.source ≡ Some x → x.generation.0 ≤ g x.slot.0)
      → OwnBelow t me g (duty model t me b m kind).body.frame.lives → IsFine g (duty model t me b m kind)
  duty_fine b m sound kinds.Register d o s h = record { sent = told_silent g _ (silent_table t me b.table kinds.Register m); back = tt; deferred = d; told = o }
  duty_fine b m sound kinds.Withdraw d o s h = record { sent = told_silent g _ (silent_table t me b.table kinds.Withdraw m); back = tt; deferred = d; told = o }
  duty_fine b m sound kinds.Bound d o s h = record { sent = told_silent g _ (silent_links t me b.links _ kinds.Bound m); back = tt; deferred = d; told = o }
  duty_fine b m sound kinds.Ended d o s h = record { sent = told_silent g _ (silent_links t me b.links _ kinds.Ended m); back = tt; deferred = d; told = o }
  duty_fine b m sound kinds.NameReply d o s h = record { sent = told_silent g _ (silent_links t me b.links _ kinds.NameReply m); back = tt; deferred = d; told = o }
  duty_fine b m sound kinds.Create d o s h = frame_fine b m sound kinds.Create d o s h
  duty_fine b m sound kinds.CreateDone d o s h = frame_fine b m sound kinds.CreateDone d o s h
  duty_fine b m sound kinds.CreateRefused d o s h = frame_fine b m sound kinds.CreateRefused d o s h
  duty_fine b m sound kinds.Destroy d o s h = frame_fine b m sound kinds.Destroy d o s h
  duty_fine b m sound kinds.DestroyDone d o s h = frame_fine b m sound kinds.DestroyDone d o s h
  duty_fine b m sound kinds.Import d o s h = frame_fine b m sound kinds.Import d o s h
  duty_fine b m sound kinds.ImportDone d o s h = frame_fine b m sound kinds.ImportDone d o s h
  duty_fine b m sound kinds.ImportRefused d o s h = frame_fine b m sound kinds.ImportRefused d o s h
  duty_fine b m sound kinds.ImportEnded d o s h = frame_fine b m sound kinds.ImportEnded d o s h
  duty_fine b m sound kinds.Deport d o s h = frame_fine b m sound kinds.Deport d o s h
  duty_fine b m sound kinds.DeportDone d o s h = frame_fine b m sound kinds.DeportDone d o s h
  duty_fine b m sound kinds.Announce d o s h = frame_fine b m sound kinds.Announce d o s h
  duty_fine b m sound kinds.PartMake d o s h = frame_fine b m sound kinds.PartMake d o s h
  duty_fine b m sound kinds.PartEnd d o s h = frame_fine b m sound kinds.PartEnd d o s h

  system_fine : (b : Body M) (m : Msg) → IsSound t me b.frame.lives → (o : Option SysKind) → ((s : ℕ) → AllTold g (b.deferred s)) → ((s : ℕ) → b.frame.told s ≤ g s)
      → ((x : Incarnation) → announced_by o m.source ≡ Some x → x.generation.0 ≤ g x.slot.0)
      → OwnBelow t me g (system_done model t me b m o).body.frame.lives → IsFine g (system_done model t me b m o)
  system_fine b m sound None d o s h = record { sent = tt; back = tt; deferred = d; told = o }
  system_fine b m sound (Some kind) d o s h = duty_fine b m sound kind d o s h

  nobody_fine : (b : Body M) (m : Msg) → ((s : ℕ) → AllTold g (b.deferred s)) → ((s : ℕ) → b.frame.told s ≤ g s) → TreatedFine g (nobody_there b m)
  nobody_fine b m d o = (tt, tt, d, o)

  handled_fine : (b : Body M) (x : Incarnation) (m : Msg) (machine : M) → ((s : ℕ) → AllTold g (b.deferred s)) → ((s : ℕ) → b.frame.told s ≤ g s) → IsTold g m
      → TreatedFine g (handled model t me b x m machine)
  unfolding handled
  handled_fine b x m machine d o h =
      let r = model.handle x machine m in
      let first : Doing M = record (doing b) { body = record b { machines = updated b.machines x.slot.0 (Some r.machine) }; notes = r.notes } in
      let k : IsFine g (apply_all t me x (Some m) r.commands first) =
      apply_all_fine g t me x (Some m) h r.commands (clear.handle x machine m) first (record { sent = tt; back = tt; deferred = d; told = o }) in
      (k.sent, k.back, k.deferred, k.told)

  dispatched_fine : (b : Body M) (m : Msg) (k : Option M) → ((s : ℕ) → AllTold g (b.deferred s)) → ((s : ℕ) → b.frame.told s ≤ g s) → IsTold g m
      → TreatedFine g (dispatched model t me b m k)
  dispatched_fine b m None d o h = nobody_fine b m d o
  dispatched_fine b m (Some machine) d o h = handled_fine b (last_of b.frame.lives m.target.slot.0) m machine d o h

  dispatch_fine : (b : Body M) (m : Msg) → ((s : ℕ) → AllTold g (b.deferred s)) → ((s : ℕ) → b.frame.told s ≤ g s) → IsTold g m → TreatedFine g (dispatch model t me b m)
  unfolding dispatch
  dispatch_fine b m d o h = go (not (is_own t me m.target.slot.0 && b.frame.lives.lives m.target.slot.0)) (not (is_meant b.frame m))
    where
      go : (a c : Bool) → TreatedFine g (
          if a then nobody_there b m
          else if c then treated (doing b) (did.Stale (whose m.target))
          else dispatched model t me b m (b.machines m.target.slot.0))
      go true c = nobody_fine b m d o
      go false true = (tt, tt, d, o)
      go false false = dispatched_fine b m (b.machines m.target.slot.0) d o h

  pub treat_fine : (b : Body M) (m : Msg) → IsSound t me b.frame.lives → ((s : ℕ) → AllTold g (b.deferred s)) → ((s : ℕ) → b.frame.told s ≤ g s) → IsTold g m
      → OwnBelow t me g (treat model t me b m).body.frame.lives → TreatedFine g (treat model t me b m)
  unfolding treat
  treat_fine b m sound d o h own = go (m.prio.0 == 0) refl own
    where
      go : (a : Bool) → (m.prio.0 == 0) ≡ a
          → OwnBelow t me g (if a then treated (system_done model t me b m (slice_get all_kinds m.signal)) did.Duty else dispatch model t me b m).body.frame.lives
          → TreatedFine g (if a then treated (system_done model t me b m (slice_get all_kinds m.signal)) did.Duty else dispatch model t me b m)
      go true e k =
          let r : IsFine g (system_done model t me b m (slice_get all_kinds m.signal)) =
          system_fine b m sound (slice_get all_kinds m.signal) d o (λ x q. h x (rw e q)) k in
          (r.sent, r.back, r.deferred, r.told)
      go false e k = dispatch_fine b m d o h
