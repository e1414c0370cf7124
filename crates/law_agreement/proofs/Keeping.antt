-- Over every run of the world: only a live container has import places that aren't empty, and only live
-- actors have plugs.
use Rattle.std.proofs.Common.{◌≡◌, ℕ, ◌==◌, ◌&&◌, ◌||◌, Bool, true, false, not, if◌then◌else◌, List, [], ◌∷◌, ◌++◌, filter, Option, Some, None, ℤ, pos, refl, sym, ap, ◌∙◌, subst, eqb-true}
use Rattle.std.specs.List.{AllByRecursion}
use Rattle.std.specs.Option.{option_map_or}
use Rattle.std.proofs.lemmas.Bool.{and_parts}
use Rattle.std.proofs.lemmas.List.Elements.{All-from_recursion, All-contains}
use Rattle.room_kinds.specs.declared.message.Msg.{Msg}
use Rattle.room_kinds.specs.declared.numbers.Incarnation.{Incarnation}
use Rattle.room_kinds.specs.declared.numbers.Endpoint.{Endpoint}
use Rattle.room_kinds.specs.declared.system.SysKind.{SysKind}
use Rattle.room_kinds.specs.declared.system.SysKind.TheVariants as kinds
use Rattle.room_kinds.specs.declared.command.FrameCommand.{FrameCommand}
use Rattle.room_kinds.specs.declared.command.FrameCommand.TheVariants as frames
use Rattle.journal.specs.declared.entry.Entry.{Entry}
use Rattle.journal.specs.declared.entry.Entry.TheVariants as entry
use Rattle.room_wiring.specs.declared.tables.Tables.{Tables}
use Rattle.actor_merge.specs.Parties.{State, Line, next_of, fetch, turn, post, Does}
use Rattle.actor_merge.specs.World.{World, Placed, start, Runs}
use Rattle.actor_merge.proofs.Back.{Happened, controller, environment, happened, own_of}
use Rattle.actor_duties.specs.Words.{updated, frame_at, frame_of, whose, is_incarnation, is_frame, is_own, is_home, is_imported, container_of, part_at, of_id, class_number}
use Rattle.actor_duties.specs.State.{Lives, Frame, ImportPlace, Empty, Asking, Held, Leaving, Done}
use Rattle.actor_duties.specs.Messages.{Code, reply, coded, StaleId, WrongClass, PortTaken, NotHere, Occupied}
use Rattle.actor_duties.specs.Lives.{is_live, last_of, answered, counts_as_live, comes_up, lives_made, lives_ended, goes_down, create, made, part_make}
use Rattle.actor_duties.specs.Imports.{is_container_live, is_port_taken, heard, import, import_done, import_refused, import_ended, deport, deport_done}
use Rattle.actor_duties.specs.Frame.{FrameDone, with_lives, end_set_ended, frame_ended, is_place_ended, destroy, part_end, is_forth, is_back, frame_duty_of, frame_duty_from, frame_duty, is_same_class, busy_code, import_code, import_with, import_into, import_command, deport_from, deport_of, deport_command, frame_request}
use Rattle.actor_world.specs.Behaviour.{Behaviour}
use Rattle.actor_world.specs.Body.{Body}
use Rattle.actor_world.specs.Turns.{treat}
use Rattle.actor_world.specs.Start.{first_frame, first_state, plant_of}
use Rattle.actor_world.specs.Directories.{IsOpen}
use Rattle.service_messages.proofs.slot_runs.RunLemmas.{not_true_false}
use Rattle.law_agreement.specs.Imports.{home_of, LendsToTheLiving}
use Rattle.law_agreement.proofs.Lists.{all_append, all_filter}
use Rattle.law_agreement.proofs.Duties.{by_plainly, by_number, by_natural}
use Rattle.law_agreement.proofs.Moving.{post_from, turn_from}
use Rattle.law_agreement.proofs.Agreeing.{put_each}
use Rattle.law_agreement.proofs.Walking.{IsHere, IsWalk, treat_walks, start_walks}
use Rattle.law_agreement.proofs.Routing.{part_of_at}

-- import places that aren't empty are of live containers, and of homes
pub record AreTied (t : Tables) (l : Lives) (places : ℕ → ImportPlace) : Type 0 where
  pub empty : (i c : ℕ) → is_imported t i ≡ true → container_of t i ≡ Some c → l.lives c ≡ false → places i ≡ Empty
  pub homes : (i : ℕ) (h : Incarnation) → home_of (places i) ≡ Some h → is_home t h.slot.0 ≡ true

-- plugs of a slot are import places, and the slot is one of homes
abbrev pub ArePlugs : Tables → ℕ → List Incarnation → Type 0
ArePlugs t s plugs = AllByRecursion (λ (i : Incarnation). (is_imported t i.slot.0 ≡ true) × (is_home t s ≡ true)) plugs

-- only live actors have plugs
pub record ArePlugged (t : Tables) (l : Lives) (plugs : ℕ → List Incarnation) : Type 0 where
  pub none : (s : ℕ) → l.lives s ≡ false → plugs s ≡ []
  pub places : (s : ℕ) → ArePlugs t s (plugs s)

pub record LendsSo (t : Tables) (f : Frame) : Type 0 where
  pub tied : AreTied t f.lives f.places
  pub plugged : ArePlugged t f.lives f.plugs

-- at the start nothing is lent
pub first_lends : (t : Tables) (me : ℕ) → LendsSo t (first_frame t me)
first_lends t me =
    record {
      tied = record { empty = λ i c imported part dead. refl; homes = λ i h e. absurd cc };
      plugged = record { none = λ s dead. refl; places = λ s. tt };
    }

module _ (t : Tables) (me : ℕ) where
  -- what lives goes on to live
  GoOn : Lives → Lives → Type 0
  GoOn l now = (s : ℕ) → now.lives s ≡ false → l.lives s ≡ false

  lends_on : (f : Frame) (now : Lives) → GoOn f.lives now → LendsSo t f → LendsSo t (record f { lives = now })
  unfolding GoOn
  lends_on f now on h =
      record {
        tied = record { empty = λ i c imported part dead. h.tied.empty i c imported part (on c dead); homes = h.tied.homes };
        plugged = record { none = λ s dead. h.plugged.none s (on s dead); places = h.plugged.places };
      }

  -- one place changes
  place_tied : (l : Lives) (places : ℕ → ImportPlace) (at : ℕ) (next : ImportPlace)
      → ((c : ℕ) → is_imported t at ≡ true → container_of t at ≡ Some c → l.lives c ≡ false → next ≡ Empty)
      → ((h : Incarnation) → home_of next ≡ Some h → is_home t h.slot.0 ≡ true)
      → AreTied t l places → AreTied t l (updated places at next)
  unfolding updated
  place_tied l places at next empty home h =
      record { empty = λ i c imported part dead. one i c imported part dead (i == at) refl; homes = λ i x e. two i x (i == at) refl e }
    where
      one : (i c : ℕ) → is_imported t i ≡ true → container_of t i ≡ Some c → l.lives c ≡ false → (b : Bool) → (i == at) ≡ b
          → ◌≡◌ {A = ImportPlace} (if b then next else places i) Empty
      one i c imported part dead true e =
          let same : i ≡ at = eqb-true i at e in
          empty c (subst (λ n. is_imported t n ≡ true) same imported) (subst (λ n. container_of t n ≡ Some c) same part) dead
      one i c imported part dead false e = h.empty i c imported part dead

      two : (i : ℕ) (x : Incarnation) (b : Bool) → (i == at) ≡ b → home_of (if b then next else places i) ≡ Some x → is_home t x.slot.0 ≡ true
      two i x true e q = home x q
      two i x false e q = h.homes i x q

  -- the commands
  abbrev pub DoneTied : Lives → Done (ℕ → ImportPlace) → Type 0
  DoneTied l r = AreTied t l r.now

  is_home_by : (places : ℕ → ImportPlace) (i : ℕ) (h : Incarnation) → import_code t places i (Some h) ≡ None → is_home t h.slot.0 ≡ true
  is_home_by places i h e = go (is_home t h.slot.0) e
    where
      go : (b : Bool)
          → (if not b then Some StaleId
          else if not (is_same_class (class_number t i) (class_number t h.slot.0)) then Some WrongClass
          else busy_code (places i)) ≡ None
          → b ≡ true
      go true q = refl
      go false q = absurd cc

  module _ (l : Lives) (places : ℕ → ImportPlace) (x : Incarnation) (reference : ℕ) (index : ℤ) (lives : l.lives x.slot.0 ≡ true) (h : AreTied t l places) where
    container : (i c : ℕ) → container_of t i ≡ Some x.slot.0 → container_of t i ≡ Some c → l.lives c ≡ false → ⊥
    container i c part other dead =
        let same : x.slot.0 ≡ c = (let q : Some x.slot.0 ≡ Some c = sym part ∙ other in cc) in
        not_true_false (l.lives c) (subst (λ n. l.lives n ≡ true) same lives) dead

    import_with_tied : (i : ℕ) → container_of t i ≡ Some x.slot.0 → (o : Option Incarnation) (code : Option Code) → import_code t places i o ≡ code
        → AreTied t l (import_with t me places x reference index i o code).now
    import_with_tied i part o (Some code) e = h
    import_with_tied i part None None e = h
    import_with_tied i part (Some y) None e =
        place_tied l places i (Asking y) (λ c imported other dead. absurd (container i c part other dead))
        (λ z q. (let same : y ≡ z = cc in subst (λ (n : Incarnation). is_home t n.slot.0 ≡ true) same (is_home_by places i y e))) h

    import_into_tied : (id : ℤ) (o : Option ℕ) → ((i : ℕ) → o ≡ Some i → container_of t i ≡ Some x.slot.0)
        → AreTied t l (import_into t me places x reference index id o).now
    import_into_tied id None part = h
    import_into_tied id (Some i) part = import_with_tied i (part i refl) (of_id id) (import_code t places i (of_id id)) refl

    deport_from_tied : (i : ℕ) → container_of t i ≡ Some x.slot.0 → (p : ImportPlace) → places i ≡ p
        → AreTied t l (deport_from t me places x reference index i p).now
    deport_from_tied i part Empty e = h
    deport_from_tied i part (Asking y) e = h
    deport_from_tied i part (Leaving y) e = h
    deport_from_tied i part (Held y) e =
        place_tied l places i (Leaving y) (λ c imported other dead. absurd (container i c part other dead))
        (λ z q. (let same : y ≡ z = cc in h.homes i z (ap home_of e ∙ ap (λ (n : Incarnation). Some n) same))) h

    deport_of_tied : (o : Option ℕ) → ((i : ℕ) → o ≡ Some i → container_of t i ≡ Some x.slot.0)
        → AreTied t l (deport_of t me places x reference index o).now
    deport_of_tied None part = h
    deport_of_tied (Some i) part = deport_from_tied i (part i refl) (places i) refl

  pub request_lends : (f : Frame) (x : Incarnation) (c : FrameCommand) → IsHere t me f.lives x → LendsSo t f → LendsSo t (frame_request t me f x c).now
  unfolding import_command deport_command
  request_lends f x (frames.Incarnate reference index) here h = h
  request_lends f x (frames.Destroy reference index) here h = h
  request_lends f x (frames.Import reference index id) here h =
      let lives : f.lives.lives x.slot.0 ≡ true = (and_parts (f.lives.lives x.slot.0) (f.lives.generation x.slot.0 == x.generation.0) here.1).0 in
      record {
        tied = import_into_tied f.lives f.places x reference index lives h.tied id (part_at t x.slot.0 reference index) (λ i e. part_of_at t x.slot.0 reference index i e);
        plugged = h.plugged;
      }
  request_lends f x (frames.Deport reference index) here h =
      let lives : f.lives.lives x.slot.0 ≡ true = (and_parts (f.lives.lives x.slot.0) (f.lives.generation x.slot.0 == x.generation.0) here.1).0 in
      record {
        tied = deport_of_tied f.lives f.places x reference index lives h.tied (part_at t x.slot.0 reference index) (λ i e. part_of_at t x.slot.0 reference index i e);
        plugged = h.plugged;
      }

  -- a place that hears an answer
  heard_tied : (l : Lives) (places : ℕ → ImportPlace) (i : Endpoint) (fits : Bool) (next : ImportPlace) (m : Msg)
      → ((h : Incarnation) → home_of next ≡ Some h → is_home t h.slot.0 ≡ true) → AreTied t l places
      → AreTied t l (heard t l places i fits next m).now
  heard_tied l places i fits next m home h = go (is_container_live t l i && fits) refl
    where
      alive : (is_container_live t l i && fits) ≡ true → (c : ℕ) → container_of t i.slot.0 ≡ Some c → l.lives c ≡ false → next ≡ Empty
      alive e c part dead =
          let live : l.lives (option_map_or (λ k. k) (container_of t i.slot.0) 0) ≡ true =
          (and_parts (l.lives (option_map_or (λ k. k) (container_of t i.slot.0) 0)) _ (and_parts (is_container_live t l i) fits e).0).0 in
          absurd (not_true_false (l.lives c) (subst (λ (o : Option ℕ). l.lives (option_map_or (λ k. k) o 0) ≡ true) part live) dead)

      go : (b : Bool) → (is_container_live t l i && fits) ≡ b
          → DoneTied l (if b then record { now = updated places i.slot.0 next; sent = m ∷ [] } else record { now = places; sent = [] })
      go true e = place_tied l places i.slot.0 next (λ c imported part dead. alive e c part dead) home h
      go false e = h

  -- an answer from a home
  back_home : (h i : Endpoint) → is_back t me h i ≡ true → is_home t h.slot.0 ≡ true
  back_home h i e =
      let a = and_parts (is_frame i && is_frame h && is_imported t i.slot.0 && is_home t h.slot.0) (is_own t me i.slot.0) e in
      (and_parts (is_frame i && is_frame h && is_imported t i.slot.0) (is_home t h.slot.0) a.0).1

  -- a message to a home
  forth_form : (i h : Endpoint) → is_forth t me i h ≡ true → (is_imported t i.slot.0 ≡ true) × (is_home t h.slot.0 ≡ true)
  forth_form i h e =
      let a = and_parts (is_frame i && is_frame h && is_imported t i.slot.0 && is_home t h.slot.0) (is_own t me h.slot.0) e in
      let b = and_parts (is_frame i && is_frame h && is_imported t i.slot.0) (is_home t h.slot.0) a.0 in
      ((and_parts (is_frame i && is_frame h) (is_imported t i.slot.0) b.0).1, b.1)

  -- the plugs of one slot change
  plugs_put : (l : Lives) (plugs : ℕ → List Incarnation) (at : ℕ) (next : List Incarnation) → l.lives at ≡ true → ArePlugs t at next
      → ArePlugged t l plugs → ArePlugged t l (updated plugs at next)
  unfolding updated
  plugs_put l plugs at next lives new h =
      record { none = λ s dead. one s dead (s == at) refl; places = λ s. two s (s == at) refl }
    where
      one : (s : ℕ) → l.lives s ≡ false → (b : Bool) → (s == at) ≡ b → ◌≡◌ {A = List Incarnation} (if b then next else plugs s) []
      one s dead true e = absurd (not_true_false (l.lives s) (subst (λ n. l.lives n ≡ true) (sym (eqb-true s at e)) lives) dead)
      one s dead false e = h.none s dead

      two : (s : ℕ) (b : Bool) → (s == at) ≡ b → ArePlugs t s (if b then next else plugs s)
      two s true e = subst (λ n. ArePlugs t n next) (sym (eqb-true s at e)) new
      two s false e = h.places s

  abbrev pub DonePlugged : Lives → Done (ℕ → List Incarnation) → Type 0
  DonePlugged l r = ArePlugged t l r.now

  live_slot : (l : Lives) (h : Endpoint) → is_live l (whose h) ≡ true → l.lives h.slot.0 ≡ true
  live_slot l h e = (and_parts (l.lives h.slot.0) (l.generation h.slot.0 == h.generation.0) e).0

  import_plugged : (l : Lives) (plugs : ℕ → List Incarnation) (m : Msg) (i h : Endpoint) → is_forth t me i h ≡ true → ArePlugged t l plugs
      → ArePlugged t l (import t me l plugs m i h).now
  unfolding import
  import_plugged l plugs m i h form k = go (is_live l (whose h)) refl (is_port_taken t (plugs h.slot.0) (whose i) (whose h))
    where
      go : (a : Bool) → is_live l (whose h) ≡ a → (b : Bool) → DonePlugged l (
          if not a then record { now = plugs; sent = reply me m kinds.ImportRefused h i (coded StaleId) ∷ [] }
          else if b then record { now = plugs; sent = reply me m kinds.ImportRefused h i (coded PortTaken) ∷ [] }
          else record {
            now = updated plugs h.slot.0 (plugs h.slot.0 ++ whose i ∷ []);
            sent = reply me m kinds.ImportDone h i [] ∷ [];
          })
      go false e b = k
      go true e true = k
      go true e false =
          plugs_put l plugs h.slot.0 (plugs h.slot.0 ++ whose i ∷ []) (live_slot l h e)
          (all_append (λ (i : Incarnation). (is_imported t i.slot.0 ≡ true) × (is_home t h.slot.0 ≡ true)) (plugs h.slot.0) (whose i ∷ []) (k.places h.slot.0) (forth_form i h form, tt)) k

  deport_plugged : (l : Lives) (plugs : ℕ → List Incarnation) (m : Msg) (i h : Endpoint) → ArePlugged t l plugs → ArePlugged t l (deport me l plugs m i h).now
  unfolding deport
  deport_plugged l plugs m i h k = go (is_live l (whose h)) refl
    where
      go : (a : Bool) → is_live l (whose h) ≡ a
          → ArePlugged t l (if a then updated plugs h.slot.0 (filter (λ (q : Incarnation). not (is_incarnation q (whose i))) (plugs h.slot.0)) else plugs)
      go true e =
          plugs_put l plugs h.slot.0 (filter (λ (q : Incarnation). not (is_incarnation q (whose i))) (plugs h.slot.0)) (live_slot l h e)
          (all_filter (λ (i : Incarnation). (is_imported t i.slot.0 ≡ true) × (is_home t h.slot.0 ≡ true)) (λ (q : Incarnation). not (is_incarnation q (whose i))) (plugs h.slot.0) (k.places h.slot.0)) k
      go false e = k

  -- an end
  frame_ended_lends : (f : Frame) (o : ℕ) → LendsSo t f → LendsSo t (frame_ended t me o f)
  unfolding frame_ended lives_ended
  frame_ended_lends f o h =
      record {
        tied = record {
          empty = λ i c imported part dead.
              gone i c imported part (goes_down t me f.lives o c) refl (f.lives.lives c) refl dead (is_place_ended t me f.lives o i) refl;
          homes = λ i x e. kept i x (is_place_ended t me f.lives o i) e;
        };
        plugged = record {
          none = λ s dead. unplugged s (goes_down t me f.lives o s) (f.lives.lives s) refl dead;
          places = λ s. left s (goes_down t me f.lives o s);
        };
      }
    where
      gone : (i c : ℕ) → is_imported t i ≡ true → container_of t i ≡ Some c → (b : Bool) → goes_down t me f.lives o c ≡ b → (d : Bool) → f.lives.lives c ≡ d
          → (not b && d) ≡ false → (e : Bool) → is_place_ended t me f.lives o i ≡ e → ◌≡◌ {A = ImportPlace} (if e then Empty else f.places i) Empty
      gone i c imported part b p d q dead true r = refl
      gone i c imported part true p d q dead false r =
          let ended : is_place_ended t me f.lives o i ≡ true = rw (imported, part, p) refl in absurd (not_true_false (is_place_ended t me f.lives o i) ended r)
      gone i c imported part false p false q dead false r = h.tied.empty i c imported part q
      gone i c imported part false p true q dead false r = absurd cc

      kept : (i : ℕ) (x : Incarnation) (b : Bool) → home_of (if b then Empty else f.places i) ≡ Some x → is_home t x.slot.0 ≡ true
      kept i x true e = absurd cc
      kept i x false e = h.tied.homes i x e

      unplugged : (s : ℕ) (b d : Bool) → f.lives.lives s ≡ d → (not b && d) ≡ false → ◌≡◌ {A = List Incarnation} (if b then [] else f.plugs s) []
      unplugged s true d q dead = refl
      unplugged s false false q dead = h.plugged.none s q
      unplugged s false true q dead = absurd cc

      left : (s : ℕ) (b : Bool) → ArePlugs t s (if b then [] else f.plugs s)
      left s true = tt
      left s false = h.plugged.places s

  module _ (f : Frame) (m : Msg) where
    -- after a duty
    abbrev pub Lent : FrameDone → Type 0
    Lent r = LendsSo t f → LendsSo t r.frame

    none_lent : LendsSo t f → LendsSo t f
    none_lent h = h

    made_on : (o : ℕ) → GoOn f.lives (lives_made t me o f.lives)
    unfolding GoOn lives_made
    made_on o s dead = go (comes_up t me f.lives o s) dead
      where
        go : (b : Bool) → (b || f.lives.lives s) ≡ false → f.lives.lives s ≡ false
        go true e = absurd cc
        go false e = e

    part_lent : (o : ℕ) → LendsSo t f → LendsSo t (with_lives f (part_make t me f.lives o)).frame
    unfolding part_make
    part_lent o h = lends_on f (lives_made t me o f.lives) (made_on o) h

    create_lent : (o : ℕ) (x : Endpoint) → LendsSo t f → LendsSo t (with_lives f (create t me f.lives m o x)).frame
    unfolding create made part_make
    create_lent o x h = go (counts_as_live t me f.lives (whose x)) (f.lives.lives o) h
      where
        go : (a b : Bool) → Lent (with_lives f (
            if not a then answered f.lives (reply me m kinds.CreateRefused (frame_at o 0) x (coded NotHere))
            else if b then answered f.lives (reply me m kinds.CreateRefused (frame_at o 0) x (coded Occupied))
            else made t me f.lives m o x))
        go false b h = h
        go true true h = h
        go true false h = lends_on f (lives_made t me o f.lives) (made_on o) h

    end_set_lent : (o : ℕ) (last : Option Msg) → LendsSo t f → LendsSo t (end_set_ended t me f o last).frame
    unfolding end_set_ended
    end_set_lent o last h = frame_ended_lends f o h

    destroy_lent : (o : ℕ) (x : Endpoint) → LendsSo t f → LendsSo t (destroy t me f m o x).frame
    unfolding destroy
    destroy_lent o x h = go (not (counts_as_live t me f.lives (whose x)) || not (f.lives.lives o)) h
      where
        done : Option Msg
        done = Some (reply me m kinds.DestroyDone (frame_of (last_of f.lives o)) x (pos 0 ∷ []))

        go : (a : Bool) → Lent (
            if a then record { frame = f; sent = []; made = []; ended = []; last = Some (reply me m kinds.DestroyDone (frame_at o 0) x (coded NotHere)) }
            else end_set_ended t me f o done)
        go true h = h
        go false h = end_set_lent o done h

    part_end_lent : (o : ℕ) → LendsSo t f → LendsSo t (part_end t me f o).frame
    unfolding part_end
    part_end_lent o h = end_set_lent o None h

    nobody : (h : Incarnation) → home_of Empty ≡ Some h → is_home t h.slot.0 ≡ true
    nobody h e = absurd cc

    done_lent : (h i : Endpoint) → is_back t me h i ≡ true → LendsSo t f → AreTied t f.lives (import_done t me f.lives f.places h i).now
    unfolding import_done
    done_lent h i form k =
        heard_tied f.lives f.places i _ (Held (whose h)) _
        (λ x e. (let same : whose h ≡ x = cc in subst (λ (n : Incarnation). is_home t n.slot.0 ≡ true) same (back_home h i form))) k.tied

    refused_lent : (h i : Endpoint) (code : ℤ) → LendsSo t f → AreTied t f.lives (import_refused t me f.lives f.places h i code).now
    unfolding import_refused
    refused_lent h i code k = heard_tied f.lives f.places i _ Empty _ nobody k.tied

    ended_lent : (h i : Endpoint) → LendsSo t f → AreTied t f.lives (import_ended t me f.lives f.places h i).now
    unfolding import_ended
    ended_lent h i k = heard_tied f.lives f.places i _ Empty _ nobody k.tied

    deported_lent : (h i : Endpoint) → LendsSo t f → AreTied t f.lives (deport_done t me f.lives f.places h i).now
    unfolding deport_done
    deported_lent h i k = heard_tied f.lives f.places i _ Empty _ nobody k.tied

    duty_of_lent : (kind : SysKind) (a b : Endpoint) → Lent (frame_duty_of t me f m kind a b)
    duty_of_lent kinds.Create a b = by_plainly t me f Lent none_lent _ m.payload _ (λ e h. create_lent b.slot.0 a h)
    duty_of_lent kinds.Destroy a b = by_plainly t me f Lent none_lent _ m.payload _ (λ e h. destroy_lent b.slot.0 a h)
    duty_of_lent kinds.CreateDone a b = by_plainly t me f Lent none_lent _ m.payload _ (λ e h. h)
    duty_of_lent kinds.CreateRefused a b = by_number t me f Lent none_lent _ m.payload _ (λ n h. h)
    duty_of_lent kinds.DestroyDone a b = by_number t me f Lent none_lent _ m.payload _ (λ n. by_natural t me f Lent none_lent n _ (λ k h. h))
    duty_of_lent kinds.Import a b =
        by_plainly t me f Lent none_lent (is_forth t me a b) m.payload _
        (λ e h. record { tied = h.tied; plugged = import_plugged f.lives f.plugs m a b e h.plugged })
    duty_of_lent kinds.Deport a b =
        by_plainly t me f Lent none_lent (is_forth t me a b) m.payload _
        (λ e h. record { tied = h.tied; plugged = deport_plugged f.lives f.plugs m a b h.plugged })
    duty_of_lent kinds.ImportDone a b =
        by_plainly t me f Lent none_lent (is_back t me a b) m.payload _ (λ e h. record { tied = done_lent a b e h; plugged = h.plugged })
    duty_of_lent kinds.ImportRefused a b =
        by_number t me f Lent none_lent _ m.payload _ (λ n h. record { tied = refused_lent a b n h; plugged = h.plugged })
    duty_of_lent kinds.ImportEnded a b =
        by_plainly t me f Lent none_lent _ m.payload _ (λ e h. record { tied = ended_lent a b h; plugged = h.plugged })
    duty_of_lent kinds.DeportDone a b =
        by_plainly t me f Lent none_lent _ m.payload _ (λ e h. record { tied = deported_lent a b h; plugged = h.plugged })
    duty_of_lent kinds.Announce a b =
        by_number t me f Lent none_lent _ m.payload _ (λ n. by_natural t me f Lent none_lent n _ (λ k h. record { tied = h.tied; plugged = h.plugged }))
    duty_of_lent kinds.Register a b = none_lent
    duty_of_lent kinds.Withdraw a b = none_lent
    duty_of_lent kinds.Bound a b = none_lent
    duty_of_lent kinds.Ended a b = none_lent
    duty_of_lent kinds.NameReply a b = none_lent
    duty_of_lent kinds.PartMake a b = by_plainly t me f Lent none_lent _ m.payload _ (λ e h. part_lent a.slot.0 h)
    duty_of_lent kinds.PartEnd a b = by_plainly t me f Lent none_lent _ m.payload _ (λ e h. part_end_lent a.slot.0 h)

    duty_from_lent : (kind : SysKind) (o : Option Endpoint) → Lent (frame_duty_from t me f m kind o)
    duty_from_lent kind None = none_lent
    duty_from_lent kind (Some a) = duty_of_lent kind a m.target

    pub duty_lent : (kind : SysKind) → Lent (frame_duty t me f kind m)
    unfolding frame_duty
    duty_lent kind = duty_from_lent kind m.source

  -- over a turn
  Lends : Frame → List Msg → Frame → Type 0
  Lends f ms g = LendsSo t f → LendsSo t g

  lending : IsWalk t me Lends
  unfolding Lends
  lending =
      record {
        two = λ f g h a b p q k. q (p k);
        off = λ f ms p k. k;
        request = λ f x c here k. request_lends f x c here k;
      }

  module _ {M : Type 0} (model : Behaviour M) (clear : IsOpen model) where
    pub treat_lends : (b : Body M) (m : Msg) → LendsSo t b.frame → LendsSo t (treat model t me b m).body.frame
    unfolding Lends
    treat_lends b m h = treat_walks t me Lends lending model clear b m (λ zero kind is. duty_lent b.frame m kind) h

    pub start_lends : LendsSo t (first_state model t me).body.frame
    unfolding Lends
    start_lends = start_walks t me Lends lending model clear (first_lends t me)

module _ {M : Type 0} (model : Behaviour M) (clear : IsOpen model) (t : Tables) (lines : List Line) where
  -- an event of a controller
  pub does_lends : (c : ℕ) (s next : State (Body M)) (e : Entry) → LendsSo t s.body.frame → Does (plant_of model t lines) c s e next → LendsSo t next.body.frame
  unfolding turn post fetch
  does_lends c s next (entry.Start who state ns) h d = absurd d
  does_lends c s next (entry.Fetch stamp m) h d = subst (λ (z : State (Body M) × Entry). LendsSo t z.0.body.frame) d h
  does_lends c s next (entry.Post stamp m) h d =
      let r = post_from model t lines c s next (entry.Post stamp m) s.outbox d in
      subst (λ (z : State (Body M) × Entry). LendsSo t z.0.body.frame) r.3 h
  does_lends c s next (entry.Turn stamp from sent what ns) h d =
      let r = turn_from model t lines c s next (entry.Turn stamp from sent what ns) s.outbox (next_of s.pending) d in
      subst (λ (z : State (Body M) × Entry). LendsSo t z.0.body.frame) r.3 (treat_lends t c model clear s.body r.0.message h)

  -- all controllers lend so
  abbrev pub AllLend : World (Body M) → Type 0
  AllLend w = (c : ℕ) → LendsSo t (w.controllers c).body.frame

  pub step_lends : (w : World (Body M)) (x : Placed) (next : World (Body M)) → AllLend w → Happened (plant_of model t lines) w x next → AllLend next
  step_lends w x next h (controller below s does same) =
      subst AllLend (sym same)
      (put_each (λ (z : State (Body M)). LendsSo t z.body.frame) w.controllers x.party s h
      (does_lends x.party (w.controllers x.party) s x.entry (h x.party) (own_of (plant_of model t lines) w x.party x.entry s does)))
  step_lends w x next h (environment is v does same) = subst AllLend (sym same) h

  run_lends : (xs : List Placed) (w end : World (Body M)) → AllLend w → Runs (plant_of model t lines) w xs end → AllLend end
  run_lends [] w end h r = subst AllLend (sym r) h
  run_lends (x ∷ xs) w end h r = run_lends xs r.0 end (step_lends w x r.0 h (happened (plant_of model t lines) w x r.0 r.2)) r.3

  pub runs_lend_so : (xs : List Placed) (end : World (Body M)) → Runs (plant_of model t lines) (start (plant_of model t lines)) xs end → AllLend end
  runs_lend_so xs end r = run_lends xs (start (plant_of model t lines)) end (λ c. start_lends t c model clear) r

  pub living_alone : (f : Frame) → LendsSo t f → LendsToTheLiving t f
  living_alone f h =
      record {
        places = h.tied.empty;
        homes = h.tied.homes;
        plugs = h.plugged.none;
        plugged = λ s i there.
            All-contains (λ (i : Incarnation). (is_imported t i.slot.0 ≡ true) × (is_home t s ≡ true)) (f.plugs s) i
            (All-from_recursion (λ (i : Incarnation). (is_imported t i.slot.0 ≡ true) × (is_home t s ≡ true)) (f.plugs s) (h.plugged.places s)) there;
      }
