-- What a turn does to lives is what its notes say.
use Rattle.std.proofs.Common.{◌≡◌, ℕ, ◌+◌, ◌==◌, Bool, true, false, not, ◌&&◌, ◌||◌, if◌then◌else◌, List, [], ◌∷◌, ◌++◌, map, flat_map, length, slice_get, Option, Some, None, ℤ, pos, negsuc, refl, sym, ap, ◌∙◌, subst, arith}
use Rattle.std.proofs.lemmas.Bool.{and_parts}
use Rattle.room_kinds.specs.declared.message.Msg.{Msg}
use Rattle.room_kinds.specs.declared.note.Note.{Note}
use Rattle.room_kinds.specs.declared.note.Note.TheVariants as notes
use Rattle.room_kinds.specs.declared.numbers.Incarnation.{Incarnation}
use Rattle.room_kinds.specs.declared.numbers.Endpoint.{Endpoint}
use Rattle.room_kinds.specs.declared.system.SysKind.{SysKind}
use Rattle.room_kinds.specs.declared.system.SysKind.TheVariants as kinds
use Rattle.journal.specs.declared.entry.Did.TheVariants as did
use Rattle.room_wiring.specs.declared.tables.Tables.{Tables}
use Rattle.actor_merge.specs.Parties.{Treated}
use Rattle.actor_duties.specs.Messages.{reply, coded, NotHere, Occupied}
use Rattle.actor_duties.specs.Words.{updated, frame_at, frame_of, whose, is_own, is_optional, is_frame, is_part_of}
use Rattle.actor_duties.specs.State.{Lives, Frame}
use Rattle.actor_duties.specs.Lives.{answered, counts_as_live, create, made, part_make, last_of}
use Rattle.actor_duties.specs.Frame.{frame_ended, end_set_ended, FrameDone, plainly, with_number, of_natural, with_lives, destroy, part_end, is_request, frame_duty, frame_duty_of, frame_duty_from}
use Rattle.actor_world.specs.Behaviour.{Behaviour, Handling, Handled, Deferred, Unhandled}
use Rattle.actor_world.specs.Body.{Body, Doing}
use Rattle.actor_world.specs.Turns.{all_kinds, doing, treated, begun, all_begun, gone, all_gone, closing, with_frame, duty, system_done, handled_as, moved, handled, nobody_there, dispatched, is_meant, dispatch, treat}
use Rattle.actor_world.specs.Life.{IsModest, ups, downs, actor_of, born_in, dead_in}
use Rattle.actor_world.proofs.Counts.{times}
use Rattle.actor_world.proofs.Notes.{ups-append, downs-append, IsPlain, plain_none, Keeps, apply_all_keeps}
use Rattle.actor_world.proofs.LifeSteps.{IsSound, Changes, no_change, made_sound, made_changes, ended_sound, ended_changes}

-- from sound lives a duty of the frame service leads to sound lives, by what it made and ended
abbrev pub Moves : Tables → ℕ → Lives → FrameDone → Type 0
Moves t me l r = IsSound t me l → IsSound t me r.frame.lives × Changes l r.frame.lives r.made r.ended

moves_plainly : (t : Tables) (me : ℕ) (f : Frame) (fits : Bool) (payload : List ℤ) (r : FrameDone) → (fits ≡ true → Moves t me f.lives r) → Moves t me f.lives (plainly f fits payload r)
moves_plainly t me f true [] r h = h refl
moves_plainly t me f false [] r h = λ s. (s, no_change f.lives)
moves_plainly t me f fits (n ∷ ns) r h = λ s. (s, no_change f.lives)

moves_number : (t : Tables) (me : ℕ) (f : Frame) (fits : Bool) (payload : List ℤ) (r : ℤ → FrameDone) → ((n : ℤ) → Moves t me f.lives (r n)) → Moves t me f.lives (with_number f fits payload r)
moves_number t me f fits [] r h = λ s. (s, no_change f.lives)
moves_number t me f true (n ∷ []) r h = h n
moves_number t me f false (n ∷ []) r h = λ s. (s, no_change f.lives)
moves_number t me f fits (n ∷ (k ∷ ns)) r h = λ s. (s, no_change f.lives)

moves_natural : (t : Tables) (me : ℕ) (f : Frame) (n : ℤ) (r : ℕ → FrameDone) → ((n : ℕ) → Moves t me f.lives (r n)) → Moves t me f.lives (of_natural f n r)
moves_natural t me f (pos n) r h = h n
moves_natural t me f (negsuc n) r h = λ s. (s, no_change f.lives)

moves_create : (t : Tables) (me : ℕ) (f : Frame) (m : Msg) (o : ℕ) (x : Endpoint) → Moves t me f.lives (with_lives f (create t me f.lives m o x))
unfolding create made part_make
moves_create t me f m o x = go (not (counts_as_live t me f.lives (whose x))) (f.lives.lives o)
  where
    go : (a b : Bool)
        → Moves t me f.lives (with_lives f (
        if a then answered f.lives (reply me m kinds.CreateRefused (frame_at o 0) x (coded NotHere))
        else if b then answered f.lives (reply me m kinds.CreateRefused (frame_at o 0) x (coded Occupied))
        else made t me f.lives m o x))
    go true b = λ s. (s, no_change f.lives)
    go false true = λ s. (s, no_change f.lives)
    go false false = λ s. (made_sound t me o f.lives s, made_changes t me o f.lives)

moves_part : (t : Tables) (me : ℕ) (f : Frame) (o : ℕ) → Moves t me f.lives (with_lives f (part_make t me f.lives o))
unfolding part_make
moves_part t me f o = λ s. (made_sound t me o f.lives s, made_changes t me o f.lives)

moves_end : (t : Tables) (me : ℕ) (f : Frame) (o : ℕ) (last : Option Msg) → Moves t me f.lives (end_set_ended t me f o last)
unfolding end_set_ended frame_ended
moves_end t me f o last = λ s. (ended_sound t me o f.lives s, ended_changes t me o f.lives s)

moves_destroy : (t : Tables) (me : ℕ) (f : Frame) (m : Msg) (o : ℕ) (x : Endpoint) → Moves t me f.lives (destroy t me f m o x)
unfolding destroy
moves_destroy t me f m o x = go (not (counts_as_live t me f.lives (whose x)) || not (f.lives.lives o))
  where
    done : Option Msg
    done = Some (reply me m kinds.DestroyDone (frame_of (last_of f.lives o)) x (pos 0 ∷ []))

    go : (a : Bool) → Moves t me f.lives (
        if a then record { frame = f; sent = []; made = []; ended = []; last = Some (reply me m kinds.DestroyDone (frame_at o 0) x (coded NotHere)) }
        else end_set_ended t me f o done)
    go true = λ s. (s, no_change f.lives)
    go false = moves_end t me f o done

moves_part_end : (t : Tables) (me : ℕ) (f : Frame) (o : ℕ) → Moves t me f.lives (part_end t me f o)
unfolding part_end
moves_part_end t me f o = moves_end t me f o None

moves_of : (t : Tables) (me : ℕ) (f : Frame) (m : Msg) → (kind : SysKind) (a b : Endpoint) → Moves t me f.lives (frame_duty_of t me f m kind a b)
moves_of t me f m kinds.Create x o = moves_plainly t me f (is_request t me x o) m.payload _ (λ h. moves_create t me f m o.slot.0 x)
moves_of t me f m kinds.Destroy x o = moves_plainly t me f (is_request t me x o) m.payload _ (λ h. moves_destroy t me f m o.slot.0 x)
moves_of t me f m kinds.CreateDone a b = moves_plainly t me f _ m.payload _ (λ h. (λ s. (s, no_change f.lives)))
moves_of t me f m kinds.CreateRefused a b = moves_number t me f _ m.payload _ (λ n. (λ s. (s, no_change f.lives)))
moves_of t me f m kinds.DestroyDone a b = moves_number t me f _ m.payload _ (λ n. moves_natural t me f n _ (λ k. (λ s. (s, no_change f.lives))))
moves_of t me f m kinds.Import a b = moves_plainly t me f _ m.payload _ (λ h. (λ s. (s, no_change f.lives)))
moves_of t me f m kinds.ImportDone a b = moves_plainly t me f _ m.payload _ (λ h. (λ s. (s, no_change f.lives)))
moves_of t me f m kinds.ImportRefused a b = moves_number t me f _ m.payload _ (λ n. (λ s. (s, no_change f.lives)))
moves_of t me f m kinds.ImportEnded a b = moves_plainly t me f _ m.payload _ (λ h. (λ s. (s, no_change f.lives)))
moves_of t me f m kinds.Deport a b = moves_plainly t me f _ m.payload _ (λ h. (λ s. (s, no_change f.lives)))
moves_of t me f m kinds.DeportDone a b = moves_plainly t me f _ m.payload _ (λ h. (λ s. (s, no_change f.lives)))
moves_of t me f m kinds.Announce a b = moves_number t me f _ m.payload _ (λ n. moves_natural t me f n _ (λ k. (λ s. (s, no_change f.lives))))
moves_of t me f m kinds.Register a b = λ s. (s, no_change f.lives)
moves_of t me f m kinds.Withdraw a b = λ s. (s, no_change f.lives)
moves_of t me f m kinds.Bound a b = λ s. (s, no_change f.lives)
moves_of t me f m kinds.Ended a b = λ s. (s, no_change f.lives)
moves_of t me f m kinds.NameReply a b = λ s. (s, no_change f.lives)
moves_of t me f m kinds.PartMake a b = moves_plainly t me f _ m.payload _ (λ h. moves_part t me f a.slot.0)
moves_of t me f m kinds.PartEnd a b = moves_plainly t me f _ m.payload _ (λ h. moves_part_end t me f a.slot.0)

moves_from : (t : Tables) (me : ℕ) (f : Frame) (m : Msg) → (kind : SysKind) (o : Option Endpoint) → Moves t me f.lives (frame_duty_from t me f m kind o)
moves_from t me f m kind None = λ s. (s, no_change f.lives)
moves_from t me f m kind (Some a) = moves_of t me f m kind a m.target

pub moves : (t : Tables) (me : ℕ) (f : Frame) (m : Msg) → (kind : SysKind) → Moves t me f.lives (frame_duty t me f kind m)
unfolding frame_duty
moves t me f m kind = moves_from t me f m kind m.source

-- lives change as the notes say, and stay sound
pub record Noted (t : Tables) (me : ℕ) (l next : Lives) (ns : List Note) : Type 0 where
  pub sound : IsSound t me next
  pub born : (x : Incarnation) → born_in l x + ups x ns ≡ born_in next x
  pub dead : (x : Incarnation) → dead_in l x + downs x ns ≡ dead_in next x

noted_plain : (t : Tables) (me : ℕ) (l next : Lives) (ns : List Note) → IsSound t me l → next ≡ l → IsPlain ns → Noted t me l next ns
noted_plain t me l next ns s same p =
    record {
      sound = subst (IsSound t me) (sym same) s;
      born = λ x. rw same (let h = p.ups x in omega (arith, h));
      dead = λ x. rw same (let h = p.downs x in omega (arith, h));
    }

-- something is done: lives stay, and so many incarnations are noted up and down
record Counts {M : Type 0} (d e : Doing M) (up down : List Incarnation) : Type 0 where
  pub lives : e.body.frame.lives ≡ d.body.frame.lives
  pub ups : (x : Incarnation) → ups x e.notes ≡ ups x d.notes + times x up
  pub downs : (x : Incarnation) → downs x e.notes ≡ downs x d.notes + times x down

module _ {M : Type 0} (model : Behaviour M) (modest : IsModest model) (t : Tables) (me : ℕ) where
  begun_counts : (x : Incarnation) (d : Doing M) → Counts d (begun model t me x d) (x ∷ []) []
  begun_counts x d =
      let new = model.begin x in
      let before : Doing M = record d {
        body = record d.body { machines = updated d.body.machines x.slot.0 (Some new.machine); deferred = updated d.body.deferred x.slot.0 [] };
        notes = d.notes ++ (notes.Up x (model.state new.machine) ∷ new.notes);
        kept = false;
      } in
      let k : Keeps before (begun model t me x d) = apply_all_keeps t me x None new.commands before in
      record {
        lives = k.lives;
        ups = λ y.
            let a = k.ups y in
            let b = ups-append y d.notes (notes.Up x (model.state new.machine) ∷ new.notes) in
            let c = (modest.begin x y).0 in omega (arith, a, b, c);
        downs = λ y.
            let a = k.downs y in
            let b = downs-append y d.notes (notes.Up x (model.state new.machine) ∷ new.notes) in
            let c = (modest.begin x y).1 in omega (arith, a, b, c);
      }

  all_begun_counts : (xs : List Incarnation) (d : Doing M) → Counts d (all_begun model t me xs d) xs []
  all_begun_counts [] d = record { lives = refl; ups = λ y. omega arith; downs = λ y. omega arith }
  all_begun_counts (x ∷ xs) d =
      let a : Counts d (begun model t me x d) (x ∷ []) [] = begun_counts x d in
      let b : Counts (begun model t me x d) (all_begun model t me xs (begun model t me x d)) xs [] = all_begun_counts xs (begun model t me x d) in
      record {
        lives = b.lives ∙ a.lives;
        ups = λ y. let h = a.ups y in let k = b.ups y in omega (arith, h, k);
        downs = λ y. let h = a.downs y in let k = b.downs y in omega (arith, h, k);
      }

  gone_counts : (x : Incarnation) (d : Doing M) → Counts d (gone t me x d) [] (x ∷ [])
  gone_counts x d =
      record {
        lives = refl;
        ups = λ y. let b = ups-append y d.notes (notes.Down x (length (d.body.deferred x.slot.0)) ∷ []) in omega (arith, b);
        downs = λ y. let b = downs-append y d.notes (notes.Down x (length (d.body.deferred x.slot.0)) ∷ []) in omega (arith, b);
      }

  all_gone_counts : (xs : List Incarnation) (d : Doing M) → Counts d (all_gone t me xs d) [] xs
  all_gone_counts [] d = record { lives = refl; ups = λ y. omega arith; downs = λ y. omega arith }
  all_gone_counts (x ∷ xs) d =
      let a : Counts d (gone t me x d) [] (x ∷ []) = gone_counts x d in
      let b : Counts (gone t me x d) (all_gone t me xs (gone t me x d)) [] xs = all_gone_counts xs (gone t me x d) in
      record {
        lives = b.lives ∙ a.lives;
        ups = λ y. let h = a.ups y in let k = b.ups y in omega (arith, h, k);
        downs = λ y. let h = a.downs y in let k = b.downs y in omega (arith, h, k);
      }

  closing_counts : (d : Doing M) (o : Option Msg) → Counts d (closing d o) [] []
  closing_counts d None = record { lives = refl; ups = λ y. omega arith; downs = λ y. omega arith }
  closing_counts d (Some m) = record { lives = refl; ups = λ y. omega arith; downs = λ y. omega arith }

  -- a duty of the frame service notes what it made and ended
  pub frame_counts : (b : Body M) (r : FrameDone)
      → ((with_frame model t me b r).body.frame.lives ≡ r.frame.lives)
      × ((x : Incarnation) → ups x (with_frame model t me b r).notes ≡ times x r.made)
      × ((x : Incarnation) → downs x (with_frame model t me b r).notes ≡ times x r.ended)
  frame_counts b r =
      let first : Doing M = record (doing b) { body = record b { frame = r.frame }; sent = r.sent } in
      let second : Doing M = all_begun model t me r.made first in
      let third : Doing M = all_gone t me r.ended second in
      let h : Counts first second r.made [] = all_begun_counts r.made first in
      let k : Counts second third [] r.ended = all_gone_counts r.ended second in
      let l : Counts third (closing third r.last) [] [] = closing_counts third r.last in (
        l.lives ∙ k.lives ∙ h.lives,
        (λ x. let p = h.ups x in let q = k.ups x in let s = l.ups x in omega (arith, p, q, s)),
        (λ x. let p = h.downs x in let q = k.downs x in let s = l.downs x in omega (arith, p, q, s)),
      )

  frame_noted : (b : Body M) (r : FrameDone) → IsSound t me b.frame.lives → Moves t me b.frame.lives r
      → Noted t me b.frame.lives (with_frame model t me b r).body.frame.lives (with_frame model t me b r).notes
  frame_noted b r s m =
      let c = frame_counts b r in
      let z = m s in
      record {
        sound = subst (IsSound t me) (sym c.0) z.0;
        born = λ x. rw c.0 (ap (λ k. born_in b.frame.lives x + k) (c.1 x) ∙ z.1.born x);
        dead = λ x. rw c.0 (ap (λ k. dead_in b.frame.lives x + k) (c.2 x) ∙ z.1.dead x);
      }

  duty_noted : (b : Body M) (m : Msg) (kind : SysKind) → IsSound t me b.frame.lives
      → Noted t me b.frame.lives (duty model t me b m kind).body.frame.lives (duty model t me b m kind).notes
  duty_noted b m kinds.Register s = noted_plain t me b.frame.lives b.frame.lives [] s refl plain_none
  duty_noted b m kinds.Withdraw s = noted_plain t me b.frame.lives b.frame.lives [] s refl plain_none
  duty_noted b m kinds.Bound s = noted_plain t me b.frame.lives b.frame.lives [] s refl plain_none
  duty_noted b m kinds.Ended s = noted_plain t me b.frame.lives b.frame.lives [] s refl plain_none
  duty_noted b m kinds.NameReply s = noted_plain t me b.frame.lives b.frame.lives [] s refl plain_none
  duty_noted b m kinds.Create s = frame_noted b (frame_duty t me b.frame kinds.Create m) s (moves t me b.frame m kinds.Create)
  duty_noted b m kinds.CreateDone s = frame_noted b (frame_duty t me b.frame kinds.CreateDone m) s (moves t me b.frame m kinds.CreateDone)
  duty_noted b m kinds.CreateRefused s = frame_noted b (frame_duty t me b.frame kinds.CreateRefused m) s (moves t me b.frame m kinds.CreateRefused)
  duty_noted b m kinds.Destroy s = frame_noted b (frame_duty t me b.frame kinds.Destroy m) s (moves t me b.frame m kinds.Destroy)
  duty_noted b m kinds.DestroyDone s = frame_noted b (frame_duty t me b.frame kinds.DestroyDone m) s (moves t me b.frame m kinds.DestroyDone)
  duty_noted b m kinds.Import s = frame_noted b (frame_duty t me b.frame kinds.Import m) s (moves t me b.frame m kinds.Import)
  duty_noted b m kinds.ImportDone s = frame_noted b (frame_duty t me b.frame kinds.ImportDone m) s (moves t me b.frame m kinds.ImportDone)
  duty_noted b m kinds.ImportRefused s = frame_noted b (frame_duty t me b.frame kinds.ImportRefused m) s (moves t me b.frame m kinds.ImportRefused)
  duty_noted b m kinds.ImportEnded s = frame_noted b (frame_duty t me b.frame kinds.ImportEnded m) s (moves t me b.frame m kinds.ImportEnded)
  duty_noted b m kinds.Deport s = frame_noted b (frame_duty t me b.frame kinds.Deport m) s (moves t me b.frame m kinds.Deport)
  duty_noted b m kinds.DeportDone s = frame_noted b (frame_duty t me b.frame kinds.DeportDone m) s (moves t me b.frame m kinds.DeportDone)
  duty_noted b m kinds.Announce s = frame_noted b (frame_duty t me b.frame kinds.Announce m) s (moves t me b.frame m kinds.Announce)
  duty_noted b m kinds.PartMake s = frame_noted b (frame_duty t me b.frame kinds.PartMake m) s (moves t me b.frame m kinds.PartMake)
  duty_noted b m kinds.PartEnd s = frame_noted b (frame_duty t me b.frame kinds.PartEnd m) s (moves t me b.frame m kinds.PartEnd)

  system_noted : (b : Body M) (m : Msg) (o : Option SysKind) → IsSound t me b.frame.lives
      → Noted t me b.frame.lives (system_done model t me b m o).body.frame.lives (system_done model t me b m o).notes
  system_noted b m None s = noted_plain t me b.frame.lives b.frame.lives [] s refl plain_none
  system_noted b m (Some kind) s = duty_noted b m kind s

  -- what a turn does: lives as its notes say, and a dispatch to what lives
  pub record Turned (b : Body M) (r : Treated (Body M)) : Type 0 where
    pub noted : Noted t me b.frame.lives r.body.frame.lives r.notes
    pub dispatch : (x : Incarnation) → actor_of r.did ≡ Some x → (x.generation.0 ≡ b.frame.lives.generation x.slot.0) × (b.frame.lives.lives x.slot.0 ≡ true)

  nobody_turned : (b : Body M) (m : Msg) → IsSound t me b.frame.lives → Turned b (nobody_there b m)
  nobody_turned b m s = record { noted = noted_plain t me b.frame.lives b.frame.lives [] s refl plain_none; dispatch = λ x e. absurd cc }

  said_to : (r : Handling) (x y : Incarnation) (state : ℕ) → actor_of (handled_as r x state) ≡ Some y → x ≡ y
  said_to Handled x y state h = cc
  said_to Deferred x y state h = cc
  said_to Unhandled x y state h = cc

  handled_turned : (b : Body M) (x : Incarnation) (m : Msg) (machine : M) → IsSound t me b.frame.lives
      → x.generation.0 ≡ b.frame.lives.generation x.slot.0 → b.frame.lives.lives x.slot.0 ≡ true → Turned b (handled model t me b x m machine)
  unfolding handled
  handled_turned b x m machine s g live =
      let r = model.handle x machine m in
      let first : Doing M = record (doing b) { body = record b { machines = updated b.machines x.slot.0 (Some r.machine) }; notes = r.notes } in
      let k : Keeps first (moved t me b x m r) = apply_all_keeps t me x (Some m) r.commands first in
      record {
        noted = noted_plain t me b.frame.lives (moved t me b x m r).body.frame.lives (moved t me b x m r).notes s k.lives
            (record { ups = λ y. k.ups y ∙ (modest.handle x machine m y).0; downs = λ y. k.downs y ∙ (modest.handle x machine m y).1 });
        dispatch = λ y e.
            subst (λ z. (z.generation.0 ≡ b.frame.lives.generation z.slot.0) × (b.frame.lives.lives z.slot.0 ≡ true))
            (said_to r.result x y (model.state r.machine) e) (g, live);
      }

  dispatched_turned : (b : Body M) (m : Msg) (o : Option M) → IsSound t me b.frame.lives → b.frame.lives.lives m.target.slot.0 ≡ true → Turned b (dispatched model t me b m o)
  dispatched_turned b m None s live = nobody_turned b m s
  dispatched_turned b m (Some machine) s live = handled_turned b (last_of b.frame.lives m.target.slot.0) m machine s refl live

  dispatch_turned : (b : Body M) (m : Msg) → IsSound t me b.frame.lives → Turned b (dispatch model t me b m)
  unfolding dispatch
  dispatch_turned b m s = go (is_own t me m.target.slot.0 && b.frame.lives.lives m.target.slot.0) refl (is_meant b.frame m)
    where
      go : (a : Bool) → (is_own t me m.target.slot.0 && b.frame.lives.lives m.target.slot.0) ≡ a → (c : Bool)
          → Turned b (
          if not a then nobody_there b m
          else if not c then treated (doing b) (did.Stale (whose m.target))
          else dispatched model t me b m (b.machines m.target.slot.0))
      go false e c = nobody_turned b m s
      go true e false = record { noted = noted_plain t me b.frame.lives b.frame.lives [] s refl plain_none; dispatch = λ x h. absurd cc }
      go true e true = dispatched_turned b m (b.machines m.target.slot.0) s (and_parts (is_own t me m.target.slot.0) (b.frame.lives.lives m.target.slot.0) e).1

  pub treat_turned : (b : Body M) (m : Msg) → IsSound t me b.frame.lives → Turned b (treat model t me b m)
  unfolding treat
  treat_turned b m s = go (m.prio.0 == 0)
    where
      go : (a : Bool) → Turned b (
          if a then treated (system_done model t me b m (slice_get all_kinds m.signal)) did.Duty
          else dispatch model t me b m)
      go true = record { noted = system_noted b m (slice_get all_kinds m.signal) s; dispatch = λ x e. absurd cc }
      go false = dispatch_turned b m s
