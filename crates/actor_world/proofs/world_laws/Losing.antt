-- The notes of an end tell how many messages are lost.
use Rattle.std.proofs.Common.{◌≡◌, ℕ, ◌≤◌, ◌==◌, nat_lt, Bool, true, false, not, ◌&&◌, if◌then◌else◌, List, [], ◌∷◌, ◌++◌, map, length, slice_get, Option, Some, None, refl, sym, ap, ◌∙◌, subst, eq-eqb, arith, append-nil}
use Rattle.std.specs.List.{AllByRecursion, Contains}
use Rattle.std.proofs.lemmas.List.Elements.{All-from_recursion, All-contains}
use Rattle.std.proofs.lemmas.Bool.{or_left, or_right}
use Rattle.room_kinds.specs.declared.message.Msg.{Msg}
use Rattle.room_kinds.specs.declared.note.Note.{Note}
use Rattle.room_kinds.specs.declared.note.Note.TheVariants as notes
use Rattle.room_kinds.specs.declared.command.Command.{Command}
use Rattle.room_kinds.specs.declared.command.Command.TheVariants as commands
use Rattle.room_kinds.specs.declared.numbers.Incarnation.{Incarnation}
use Rattle.room_kinds.specs.declared.numbers.Stamp.{Stamp}
use Rattle.room_kinds.specs.declared.numbers.ControllerId.{ControllerId}
use Rattle.room_kinds.specs.declared.system.SysKind.{SysKind}
use Rattle.journal.specs.declared.entry.Did.{Did}
use Rattle.journal.specs.declared.entry.Did.TheVariants as did
use Rattle.journal.specs.declared.entry.Entry.{Entry}
use Rattle.journal.specs.declared.entry.Entry.TheVariants as entry
use Rattle.room_wiring.specs.declared.tables.Tables.{Tables}
use Rattle.actor_merge.specs.Parties.{State, Line, Taken, next_of, turn, turn_with, turned, Does, Replays}
use Rattle.actor_duties.specs.Words.{updated, whose, is_own}
use Rattle.actor_duties.specs.State.{Lives}
use Rattle.actor_duties.specs.Lives.{is_live, last_of}
use Rattle.actor_duties.specs.Frame.{FrameDone, frame_duty}
use Rattle.actor_world.specs.Behaviour.{Behaviour}
use Rattle.actor_world.specs.Body.{Body, Doing, apply, apply_all}
use Rattle.actor_world.specs.Turns.{all_kinds, doing, treated, begun, all_begun, gone, all_gone, closing, with_frame, duty, system_done, handled, nobody_there, dispatched, is_meant, dispatch, treat}
use Rattle.actor_world.specs.Start.{first_state, plant_of}
use Rattle.actor_world.specs.Life.{IsModest, once, downs}
use Rattle.actor_world.proofs.Counts.{times}
use Rattle.actor_world.proofs.LifeSteps.{IsSound}
use Rattle.actor_world.proofs.Notes.{Keeps as KeepsLives, apply_keeps as apply_lives}
use Rattle.actor_world.specs.world_laws.Whereabouts.{TellsDefers}
use Rattle.actor_world.proofs.world_laws.Keeping.{Same, updated_there}
use Rattle.actor_world.proofs.world_laws.Ending.{in_slot, in_slot_times, Fits, fits, none_kept_new, all_begun_same}
use Rattle.actor_world.proofs.world_laws.Turning.{HasNone, duty_by}
use Rattle.actor_world.proofs.world_laws.Adding.{IsOrdered, replay_adds, first_ordered}

-- what a note of an end says holds
abbrev pub SaysOf : (Incarnation → ℕ → Type 0) → Note → Type 0
SaysOf P (notes.Down x n) = P x n
SaysOf P (notes.Up x state) = Unit {0}
SaysOf P notes.Zero = Unit {0}
SaysOf P notes.NoMessage = Unit {0}
SaysOf P (notes.Unbound port place) = Unit {0}
SaysOf P (notes.Recall count) = Unit {0}

abbrev pub Says : (Incarnation → ℕ → Type 0) → List Note → Type 0
Says P ns = AllByRecursion (SaysOf P) ns

says_append : (P : Incarnation → ℕ → Type 0) (a b : List Note) → Says P a → Says P b → Says P (a ++ b)
says_append P [] b h k = k
says_append P (n ∷ a) b h k = (h.0, says_append P a b h.1 k)

once_itself : (x : Incarnation) → once x x ≡ 1
once_itself x = rw (eq-eqb x.slot.0 x.slot.0 refl, eq-eqb x.generation.0 x.generation.0 refl) refl

-- notes that tell of no end say what one likes
says_none : (P : Incarnation → ℕ → Type 0) (ns : List Note) → ((x : Incarnation) → downs x ns ≡ 0) → Says P ns
says_none P [] h = tt
says_none P (notes.Down x n ∷ ns) h = let k = h x in let o = once_itself x in absurd (omega (arith, k, o))
says_none P (notes.Up x state ∷ ns) h = (tt, says_none P ns h)
says_none P (notes.Zero ∷ ns) h = (tt, says_none P ns h)
says_none P (notes.NoMessage ∷ ns) h = (tt, says_none P ns h)
says_none P (notes.Unbound port place ∷ ns) h = (tt, says_none P ns h)
says_none P (notes.Recall count ∷ ns) h = (tt, says_none P ns h)

-- something is done that notes more, but of no end
pub record Adds {M : Type 0} (d e : Doing M) : Type 0 where
  pub more : List Note
  pub notes : e.notes ≡ d.notes ++ more
  pub none : (x : Incarnation) → downs x more ≡ 0

adds_nothing : {M : Type 0} (d e : Doing M) → e.notes ≡ d.notes → Adds d e
adds_nothing d e h = record { more = []; notes = h ∙ sym (append-nil d.notes); none = λ x. refl }

module _ {M : Type 0} (t : Tables) (me : ℕ) (x : Incarnation) (m : Option Msg) where
  -- the same doing with no note so far
  abbrev bare : Doing M → Doing M
  bare d = record d { notes = [] }

  noted_more : (d : Doing M) (c : Command) → (apply t me x m d c).notes ≡ d.notes ++ (apply t me x m (bare d) c).notes → Adds d (apply t me x m d c)
  noted_more d c h =
      let k : KeepsLives (bare d) (apply t me x m (bare d) c) = apply_lives t me x m (bare d) c in
      record { more = (apply t me x m (bare d) c).notes; notes = h; none = k.downs }

  apply_adds : (d : Doing M) (c : Command) → Adds d (apply t me x m d c)
  apply_adds d (commands.Send p (Some k) signal payload prio) = noted_more d (commands.Send p (Some k) signal payload prio) refl
  apply_adds d (commands.Send p None signal payload prio) = noted_more d (commands.Send p None signal payload prio) refl
  apply_adds d commands.Defer = noted_more d commands.Defer refl
  apply_adds d commands.Recall = noted_more d commands.Recall refl
  apply_adds d commands.RecallAll = noted_more d commands.RecallAll refl
  apply_adds d (commands.Frame c) = adds_nothing d (apply t me x m d (commands.Frame c)) refl
  apply_adds d (commands.Name c) = adds_nothing d (apply t me x m d (commands.Name c)) refl

  says_apply_all : (P : Incarnation → ℕ → Type 0) (cs : List Command) (d : Doing M) → Says P d.notes → Says P (apply_all t me x m cs d).notes
  says_apply_all P [] d h = h
  says_apply_all P (c ∷ cs) d h =
      let a : Adds d (apply t me x m d c) = apply_adds d c in
      says_apply_all P cs (apply t me x m d c) (subst (Says P) (sym a.notes) (says_append P d.notes a.more h (says_none P a.more a.none)))

-- an incarnation that lived, and how many messages it had deferred
abbrev pub WasLost : {M : Type 0} → Body M → Incarnation → ℕ → Type 0
WasLost b x n = (is_live b.frame.lives x ≡ true) × (n ≡ length (b.deferred x.slot.0))

-- no two of these incarnations are in one slot
abbrev Apart : List Incarnation → Type 0
Apart [] = Unit {0}
Apart (x ∷ xs) = (in_slot x.slot.0 xs ≡ false) × Apart xs

-- these incarnations live
abbrev AreLive : Lives → List Incarnation → Type 0
AreLive l [] = Unit {0}
AreLive l (x ∷ xs) = (is_live l x ≡ true) × AreLive l xs

module _ {M : Type 0} (model : Behaviour M) (modest : IsModest model) (t : Tables) (me : ℕ) (b : Body M) where
  says_begun : (P : Incarnation → ℕ → Type 0) (x : Incarnation) (d : Doing M) → Says P d.notes → Says P (begun model t me x d).notes
  says_begun P x d h =
      let new = model.begin x in
      let before : Doing M = record d {
        body = record d.body { machines = updated d.body.machines x.slot.0 (Some new.machine); deferred = updated d.body.deferred x.slot.0 [] };
        notes = d.notes ++ (notes.Up x (model.state new.machine) ∷ new.notes);
        kept = false;
      } in
      says_apply_all t me x None P new.commands before
      (says_append P d.notes (notes.Up x (model.state new.machine) ∷ new.notes) h (tt, says_none P new.notes (λ y. (modest.begin x y).1)))

  says_all_begun : (P : Incarnation → ℕ → Type 0) (xs : List Incarnation) (d : Doing M) → Says P d.notes → Says P (all_begun model t me xs d).notes
  says_all_begun P [] d h = h
  says_all_begun P (x ∷ xs) d h = says_all_begun P xs (begun model t me x d) (says_begun P x d h)

  says_all_gone : (xs : List Incarnation) (d : Doing M) → Apart xs → AreLive b.frame.lives xs → ((s : ℕ) → in_slot s xs ≡ true → d.body.deferred s ≡ b.deferred s)
      → Says (WasLost b) d.notes → Says (WasLost b) (all_gone t me xs d).notes
  says_all_gone [] d apart live same h = h
  says_all_gone (x ∷ xs) d apart live same h =
      says_all_gone xs (gone t me x d) apart.1 live.1
      (λ s i. updated_there d.body.deferred x.slot.0 [] s (λ e. other s i e) ∙ same s (or_right (s == x.slot.0) (in_slot s xs) i))
      (says_append (WasLost b) d.notes (notes.Down x (length (d.body.deferred x.slot.0)) ∷ []) h
      ((live.0, ap (λ (z : List Msg). length z) (same x.slot.0 (or_left (x.slot.0 == x.slot.0) (in_slot x.slot.0 xs) (eq-eqb x.slot.0 x.slot.0 refl)))), tt))
    where
      other : (s : ℕ) → in_slot s xs ≡ true → s ≡ x.slot.0 → ⊥
      other s i e = let k : in_slot s xs ≡ false = ap (λ z. in_slot z xs) e ∙ apart.0 in absurd cc

  says_closing : (P : Incarnation → ℕ → Type 0) (d : Doing M) (o : Option Msg) → Says P d.notes → Says P (closing d o).notes
  says_closing P d None h = h
  says_closing P d (Some m) h = h

  -- of what is in some slots, where each is there once at most, no two are in one slot
  apart_by_times : (l : Lives) (ss : List ℕ) → ((x : Incarnation) → times x (map (last_of l) ss) ≤ 1) → Apart (map (last_of l) ss)
  apart_by_times l [] h = tt
  apart_by_times l (a ∷ ss) h =
      let here = h (last_of l a) in
      let o = once_itself (last_of l a) in
      let none : times (last_of l a) (map (last_of l) ss) ≡ 0 = omega (arith, here, o) in
      (sym (in_slot_times l a ss) ∙ zero_not none, apart_by_times l ss (λ x. let k = h x in omega (arith, k)))
    where
      zero_not : {n : ℕ} → n ≡ 0 → nat_lt 0 n ≡ false
      zero_not e = rw e refl

  live_by_times : (l : Lives) (ss : List ℕ) → ((x : Incarnation) → 1 ≤ times x (map (last_of l) ss) → is_live l x ≡ true) → AreLive l (map (last_of l) ss)
  live_by_times l [] h = tt
  live_by_times l (a ∷ ss) h =
      let o = once_itself (last_of l a) in
      (h (last_of l a) (omega (arith, o)), live_by_times l ss (λ x k. h x (omega (arith, k))))

  says_frame : (r : FrameDone) → HasNone b → Fits b.frame.lives r → Says (WasLost b) (with_frame model t me b r).notes
  says_frame r none fit =
      let first : Doing M = record (doing b) { body = record b { frame = r.frame }; sent = r.sent } in
      let second : Doing M = all_begun model t me r.made first in
      let h : Same first second = all_begun_same model t me r.made first (none_kept_new first.body b.frame.lives none r.made fit.made) in
      says_closing (WasLost b) (all_gone t me r.ended second) r.last
      (says_all_gone r.ended second
      (subst Apart (sym fit.ended) (apart_by_times b.frame.lives fit.slots (λ x. subst (λ xs. times x xs ≤ 1) fit.ended (fit.once x))))
      (subst (AreLive b.frame.lives) (sym fit.ended) (live_by_times b.frame.lives fit.slots (λ x k. fit.live x (subst (λ xs. 1 ≤ times x xs) (sym fit.ended) k))))
      (λ s i. h.deferred s)
      (says_all_begun (WasLost b) r.made first tt))

module _ {M : Type 0} (model : Behaviour M) (modest : IsModest model) (t : Tables) (me : ℕ) (b : Body M) (none : HasNone b) (sound : IsSound t me b.frame.lives) where
  says_duty : (m : Msg) (kind : SysKind) → Says (WasLost b) (duty model t me b m kind).notes
  says_duty m kind =
      duty_by model t me b m (λ d. Says (WasLost b) d.notes) (λ k. says_frame model modest t me b (frame_duty t me b.frame k m) none (fits t me b.frame m sound k)) (λ r. tt) (λ r. tt) kind

  says_system : (m : Msg) (o : Option SysKind) → Says (WasLost b) (system_done model t me b m o).notes
  says_system m None = tt
  says_system m (Some kind) = says_duty m kind

  says_handled : (x : Incarnation) (m : Msg) (machine : M) → Says (WasLost b) (handled model t me b x m machine).notes
  unfolding handled
  says_handled x m machine =
      let r = model.handle x machine m in
      says_apply_all t me x (Some m) (WasLost b) r.commands (record (doing b) { body = record b { machines = updated b.machines x.slot.0 (Some r.machine) }; notes = r.notes })
      (says_none (WasLost b) r.notes (λ y. (modest.handle x machine m y).1))

  says_dispatched : (m : Msg) (o : Option M) → Says (WasLost b) (dispatched model t me b m o).notes
  says_dispatched m None = tt
  says_dispatched m (Some machine) = says_handled (last_of b.frame.lives m.target.slot.0) m machine

  says_treat : (m : Msg) → Says (WasLost b) (treat model t me b m).notes
  unfolding treat dispatch
  says_treat m = go (m.prio.0 == 0) (is_own t me m.target.slot.0 && b.frame.lives.lives m.target.slot.0) (is_meant b.frame m)
    where
      go : (p a d : Bool) → Says (WasLost b) (
          if p then treated (system_done model t me b m (slice_get all_kinds m.signal)) did.Duty
          else if not a then nobody_there b m
          else if not d then treated (doing b) (did.Stale (whose m.target))
          else dispatched model t me b m (b.machines m.target.slot.0)).notes
      go true a d = says_system m (slice_get all_kinds m.signal)
      go false false d = tt
      go false true false = tt
      go false true true = says_dispatched m (b.machines m.target.slot.0)

module _ {M : Type 0} (model : Behaviour M) (t : Tables) (lines : List Line) (c : ℕ) (modest : IsModest model) (tells : TellsDefers model) where
  turn_says : (s next : State (Body M)) (stamp : Stamp) (from : ControllerId) (sent : Stamp) (what : Did) (ns : List Note) → IsOrdered t c s
      → Does (plant_of model t lines) c s (entry.Turn stamp from sent what ns) next → Says (WasLost s.body) ns
  unfolding turn
  turn_says s next stamp from sent what ns h d = go s.outbox (next_of s.pending) d
    where
      notes_of : Entry → List Note
      notes_of (entry.Turn stamp from sent what ns) = ns
      notes_of (entry.Start who state ns) = []
      notes_of (entry.Fetch stamp m) = []
      notes_of (entry.Post stamp m) = []

      go : (box : List Msg) (o : Option Taken) → turn_with (plant_of model t lines) c s box o ≡ Some (next, entry.Turn stamp from sent what ns) → Says (WasLost s.body) ns
      go [] None k = absurd cc
      go (x ∷ xs) o k = absurd cc
      go [] (Some taken) k =
          let r : State (Body M) × Entry = turned s taken (treat model t c s.body taken.message) in
          let q : State (Body M) × Entry = (next, entry.Turn stamp from sent what ns) in
          let e : r ≡ q = cc in
          subst (λ (z : State (Body M) × Entry). Says (WasLost s.body) (notes_of z.1)) e (says_treat model modest t c s.body h.none h.sound taken.message)

  pub downs_tell : (before : List Entry) (s next : State (Body M)) (stamp : Stamp) (from : ControllerId) (sent : Stamp) (what : Did) (ns : List Note)
      → Replays (plant_of model t lines) c (first_state model t c) before s → Does (plant_of model t lines) c s (entry.Turn stamp from sent what ns) next
      → (x : Incarnation) (n : ℕ) → Contains ns (notes.Down x n)
      → (is_live s.body.frame.lives x ≡ true) × (n ≡ length (s.body.deferred x.slot.0))
  downs_tell before s next stamp from sent what ns r d x n there =
      let h : IsOrdered t c s = (replay_adds model t lines c modest tells before (first_state model t c) s (first_ordered model t lines c modest tells) r).0 in
      All-contains (SaysOf (WasLost s.body)) ns (notes.Down x n)
      (All-from_recursion (SaysOf (WasLost s.body)) ns (turn_says s next stamp from sent what ns h d)) there
