-- What is sent on a loan goes between the controllers of its place and its home.
use Rattle.std.proofs.Common.{◌≡◌, ℕ, ◌==◌, ◌&&◌, ◌||◌, Bool, true, false, not, if◌then◌else◌, List, [], ◌∷◌, ◌++◌, filter, flat_map, cond, ◌<◌, ◌≤◌, ◌⊎◌, inl, inr, get_or, length, arith, slice_get, Option, Some, None, ℤ, pos, negsuc, refl, sym, ap, ◌∙◌, subst, eqb-true}
use Rattle.std.specs.List.{AllByRecursion}
use Rattle.std.specs.Option.{option_map_or, option_and_then}
use Rattle.std.specs.List.{position_or_len}
use Rattle.std.proofs.lemmas.Bool.{and_parts, cases_lt, lt-ltb, le-ltb}
use Rattle.std.proofs.lemmas.List.Sums.{passes_at_first}
use Rattle.std.proofs.lemmas.Option.{slice_get_cases}
use Rattle.room_wiring.specs.declared.slot.Slot.{Slot}
use Rattle.room_wiring.specs.Slots.{slot_at}
use Rattle.room_kinds.specs.declared.message.Msg.{Msg}
use Rattle.room_kinds.specs.declared.numbers.Incarnation.{Incarnation}
use Rattle.room_kinds.specs.declared.numbers.Endpoint.{Endpoint}
use Rattle.room_kinds.specs.declared.system.SysKind.{SysKind}
use Rattle.room_kinds.specs.declared.system.SysKind.TheVariants as kinds
use Rattle.room_kinds.specs.declared.command.FrameCommand.{FrameCommand}
use Rattle.room_kinds.specs.declared.command.FrameCommand.TheVariants as frames
use Rattle.room_wiring.specs.declared.tables.Tables.{Tables}
use Rattle.actor_duties.specs.Words.{updated, is_slot_for, container_number, frame_at, frame_of, whose, incarnation, is_frame, is_own, is_home, is_imported, is_part_of, container_of, owner_of, part_at, of_id, slots_of}
use Rattle.actor_duties.specs.State.{Lives, Frame, ImportPlace, Empty, Asking, Held, Leaving, Done}
use Rattle.actor_duties.specs.Messages.{Code, to_owner, reply, coded, StaleId, PortTaken, NotHere}
use Rattle.actor_duties.specs.Lives.{is_live, last_of, ended_slots, goes_down, is_reached, announces, counts_as_live}
use Rattle.actor_duties.specs.Imports.{tied_home, is_port_taken, import, deport, imported_parts, ended_plugs, given_back}
use Rattle.actor_duties.specs.Frame.{frame_duty_of, frame_duty_from, frame_duty, destroy, part_end, FrameDone, nothing, end_messages, part_ends, end_set_ended, is_forth, incarnate, destroy_command, import_code, import_with, import_into, import_command, deport_from, deport_of, deport_command, frame_request}
use Rattle.law_agreement.specs.Imports.{Loan, forth_by, forth_on, back_on, IsBetween, IsRouted, PlacesAreLocal}
use Rattle.law_agreement.proofs.Lists.{all_append, all_map, all_flat, all_passed, all_reverse}
use Rattle.law_agreement.proofs.OffLoan.{IsOffLoan, AllOffLoan, off_asked, off_announces, off_part_ends, off_part_make, off_create, off_create_done, off_create_refused, off_destroy_done, off_import_done, off_import_refused, off_import_ended, off_deport_done}
use Rattle.actor_world.proofs.TrueTurns.{own_owner}
use Rattle.law_agreement.proofs.Walking.{IsWalk, treat_walks, start_walks}
use Rattle.law_agreement.proofs.Duties.{by_plainly, by_number, by_natural}
use Rattle.actor_world.specs.Behaviour.{Behaviour}
use Rattle.actor_world.specs.Body.{Body}
use Rattle.actor_world.specs.Turns.{treat}
use Rattle.actor_world.specs.Start.{first_state}
use Rattle.actor_world.specs.Directories.{IsOpen}

-- a message of controller me goes where it is to
abbrev pub IsSentRight : Tables → ℕ → Msg → Type 0
IsSentRight t me m = IsRouted t me m.to.0 m

abbrev pub AllRight : Tables → ℕ → List Msg → Type 0
AllRight t me ms = AllByRecursion (IsSentRight t me) ms

pub off_routed : (t : Tables) (a b : ℕ) (m : Msg) → IsOffLoan m → IsRouted t a b m
off_routed t a b m h = record { forth = λ x e. (let f = h.0 in absurd cc); back = λ x e. (let f = h.1 in absurd cc) }

pub all_off : (t : Tables) (me : ℕ) (ms : List Msg) → AllOffLoan ms → AllRight t me ms
all_off t me [] h = tt
all_off t me (m ∷ ms) h = (off_routed t me m.to.0 m h.0, all_off t me ms h.1)

-- the part of a container that an action names is a part of it
pub part_of_at : (t : Tables) (c reference : ℕ) (index : ℤ) (i : ℕ) → part_at t c reference index ≡ Some i → container_of t i ≡ Some c
unfolding part_at container_of
part_of_at t c reference (negsuc k) i h = absurd cc
part_of_at t c reference (pos k) i h = go (cases_lt first (length t.slots))
  where
    first : ℕ
    first = position_or_len (is_slot_for c reference k) t.slots

    found : (x : Slot) → is_slot_for c reference k x ≡ true → container_number x ≡ Some c
    found x e = named (container_number x) (and_parts _ _ (and_parts _ _ e).0).0
      where
        named : (o : Option ℕ) → option_map_or (λ p. p == c) o false ≡ true → o ≡ Some c
        named None q = absurd cc
        named (Some p) q = ap (λ n. Some n) (eqb-true p c q)

    stands : first < length t.slots
        → ((x : Slot) × (first < length t.slots) × (slice_get t.slots first ≡ Some x) × (get_or t.slots first x ≡ x)) ⊎ ((length t.slots ≤ first) × (slice_get t.slots first ≡ None))
        → option_and_then container_number (slice_get t.slots first) ≡ Some c
    stands below (inr q) = absurd (omega (arith, q.0))
    stands below (inl q) =
        rw q.2 (found q.0 (subst (λ (z : Slot). is_slot_for c reference k z ≡ true) q.3 (passes_at_first (is_slot_for c reference k) t.slots q.0 below)))

    go : (first < length t.slots) ⊎ (length t.slots ≤ first) → option_and_then container_number (slot_at t i) ≡ Some c
    go (inl below) =
        let same : first ≡ i = (let e = lt-ltb first (length t.slots) below in let q : cond true (Some first) None ≡ Some i = subst (λ b. cond b (Some first) None ≡ Some i) e h in cc) in
        ap (λ n. option_and_then container_number (slice_get t.slots n)) (sym same) ∙ stands below (slice_get_cases t.slots first).1
    go (inr far) = let q : cond false (Some first) None ≡ Some i = subst (λ b. cond b (Some first) None ≡ Some i) (le-ltb first (length t.slots) far) h in absurd cc

module _ (t : Tables) (local : PlacesAreLocal t) (me : ℕ) where
  -- an Import or a Deport of an import place here, to the owner of the home
  forth_right : (m : Msg) (i h : Incarnation) → forth_on m ≡ Some (record { place = i; home = h }) → back_on m ≡ None → m.to.0 ≡ owner_of t h.slot.0
      → (is_imported t i.slot.0 ≡ true → owner_of t i.slot.0 ≡ me) → IsSentRight t me m
  forth_right m i h forth back to own =
      let at : IsBetween t me m.to.0 (record { place = i; home = h }) = record { place = own; home = sym to } in
      record {
        forth = λ x e. (let same : record { place = i; home = h } ≡ x = cc in subst (IsBetween t me m.to.0) same at);
        back = λ x e. absurd cc;
      }

  -- an answer of a home here
  back_right : (m : Msg) (i h : Incarnation) → back_on m ≡ Some (record { place = i; home = h }) → forth_on m ≡ None → owner_of t h.slot.0 ≡ me
      → (is_imported t i.slot.0 ≡ true → owner_of t i.slot.0 ≡ m.to.0) → IsSentRight t me m
  back_right m i h back forth own to =
      let at : IsBetween t m.to.0 me (record { place = i; home = h }) = record { place = to; home = own } in
      record {
        forth = λ x e. absurd cc;
        back = λ x e. (let same : record { place = i; home = h } ≡ x = cc in subst (IsBetween t m.to.0 me) same at);
      }

  -- an imported part of a container here is here
  part_here : (i c : ℕ) → is_part_of t i c ≡ true → owner_of t c ≡ me → is_imported t i ≡ true → owner_of t i ≡ me
  part_here i c part own imported = go (container_of t i) refl part
    where
      go : (o : Option ℕ) → container_of t i ≡ o → option_map_or (λ p. p == c) o false ≡ true → owner_of t i ≡ me
      go None e h = absurd cc
      go (Some p) e h = local i p imported e ∙ ap (owner_of t) (eqb-true p c h) ∙ own

  forth_parts : (i h : Endpoint) → is_forth t me i h ≡ true → (is_imported t i.slot.0 ≡ true) × (is_own t me h.slot.0 ≡ true)
  forth_parts i h e =
      let a = and_parts (is_frame i && is_frame h && is_imported t i.slot.0 && is_home t h.slot.0) (is_own t me h.slot.0) e in
      let b = and_parts (is_frame i && is_frame h && is_imported t i.slot.0) (is_home t h.slot.0) a.0 in
      ((and_parts (is_frame i && is_frame h) (is_imported t i.slot.0) b.0).1, a.1)

  -- what a row sends is sent right
  abbrev pub DoneRight : {C : Type 0} → Done C → Type 0
  DoneRight r = AllRight t me r.sent

  -- what a duty sends is sent right
  abbrev pub DutyRight : FrameDone → Type 0
  DutyRight r = AllRight t me r.sent

  import_right : (l : Lives) (plugs : ℕ → List Incarnation) (m : Msg) (i h : Endpoint) → owner_of t h.slot.0 ≡ me
      → (is_imported t i.slot.0 ≡ true → owner_of t i.slot.0 ≡ m.from.0) → AllRight t me (import t me l plugs m i h).sent
  unfolding import
  import_right l plugs m i h own from = go (is_live l (whose h)) (is_port_taken t (plugs h.slot.0) (whose i) (whose h))
    where
      go : (a b : Bool) → DoneRight {C = ℕ → List Incarnation} (
          if not a then record { now = plugs; sent = reply me m kinds.ImportRefused h i (coded StaleId) ∷ [] }
          else if b then record { now = plugs; sent = reply me m kinds.ImportRefused h i (coded PortTaken) ∷ [] }
          else record {
            now = updated plugs h.slot.0 (plugs h.slot.0 ++ whose i ∷ []);
            sent = reply me m kinds.ImportDone h i [] ∷ [];
          })
      go false b = (back_right _ (whose i) (whose h) refl refl own from, tt)
      go true true = (back_right _ (whose i) (whose h) refl refl own from, tt)
      go true false = (back_right _ (whose i) (whose h) refl refl own from, tt)

  deport_right : (l : Lives) (plugs : ℕ → List Incarnation) (m : Msg) (i h : Endpoint) → owner_of t h.slot.0 ≡ me
      → (is_imported t i.slot.0 ≡ true → owner_of t i.slot.0 ≡ m.from.0) → AllRight t me (deport me l plugs m i h).sent
  unfolding deport
  deport_right l plugs m i h own from = (back_right _ (whose i) (whose h) refl refl own from, tt)

  -- the commands
  import_with_right : (places : ℕ → ImportPlace) (x : Incarnation) (reference : ℕ) (index : ℤ) (i : ℕ) (o : Option Incarnation) (code : Option Code)
      → (is_imported t i ≡ true → owner_of t i ≡ me) → AllRight t me (import_with t me places x reference index i o code).sent
  import_with_right places x reference index i o (Some code) own = (off_routed t me _ _ (refl, refl), tt)
  import_with_right places x reference index i None None own = (off_routed t me _ _ (refl, refl), tt)
  import_with_right places x reference index i (Some h) None own =
      (forth_right _ (whose (frame_at i x.generation.0)) (whose (frame_of h)) refl refl refl own, tt)

  import_into_right : (places : ℕ → ImportPlace) (x : Incarnation) (reference : ℕ) (index id : ℤ) (o : Option ℕ)
      → ((i : ℕ) → o ≡ Some i → is_imported t i ≡ true → owner_of t i ≡ me) → AllRight t me (import_into t me places x reference index id o).sent
  import_into_right places x reference index id None own = (off_routed t me _ _ (refl, refl), tt)
  import_into_right places x reference index id (Some i) own =
      import_with_right places x reference index i (of_id id) (import_code t places i (of_id id)) (own i refl)

  deport_from_right : (places : ℕ → ImportPlace) (x : Incarnation) (reference : ℕ) (index : ℤ) (i : ℕ) (place : ImportPlace)
      → (is_imported t i ≡ true → owner_of t i ≡ me) → AllRight t me (deport_from t me places x reference index i place).sent
  deport_from_right places x reference index i Empty own = (off_routed t me _ _ (refl, refl), tt)
  deport_from_right places x reference index i (Asking h) own = (off_routed t me _ _ (refl, refl), tt)
  deport_from_right places x reference index i (Leaving h) own = (off_routed t me _ _ (refl, refl), tt)
  deport_from_right places x reference index i (Held h) own =
      (forth_right _ (whose (frame_at i x.generation.0)) (whose (frame_of h)) refl refl refl own, tt)

  deport_of_right : (places : ℕ → ImportPlace) (x : Incarnation) (reference : ℕ) (index : ℤ) (o : Option ℕ)
      → ((i : ℕ) → o ≡ Some i → is_imported t i ≡ true → owner_of t i ≡ me) → AllRight t me (deport_of t me places x reference index o).sent
  deport_of_right places x reference index None own = (off_routed t me _ _ (refl, refl), tt)
  deport_of_right places x reference index (Some i) own = deport_from_right places x reference index i (places i) (own i refl)

  request_right : (f : Frame) (x : Incarnation) (c : FrameCommand) → owner_of t x.slot.0 ≡ me → AllRight t me (frame_request t me f x c).sent
  unfolding incarnate destroy_command import_command deport_command
  request_right f x (frames.Incarnate reference index) own =
      all_off t me (incarnate t me x reference index ∷ []) ((off_asked t me x reference index (part_at t x.slot.0 reference index)).0, tt)
  request_right f x (frames.Destroy reference index) own =
      all_off t me (destroy_command t me x reference index ∷ []) ((off_asked t me x reference index (part_at t x.slot.0 reference index)).1, tt)
  request_right f x (frames.Import reference index id) own =
      import_into_right f.places x reference index id (part_at t x.slot.0 reference index)
      (λ i e imported. local i x.slot.0 imported (part_of_at t x.slot.0 reference index i e) ∙ own)
  request_right f x (frames.Deport reference index) own =
      deport_of_right f.places x reference index (part_at t x.slot.0 reference index)
      (λ i e imported. local i x.slot.0 imported (part_of_at t x.slot.0 reference index i e) ∙ own)

  -- an end
  ended_plugs_right : (x : Incarnation) (plugs : List Incarnation) → owner_of t x.slot.0 ≡ me → AllRight t me (ended_plugs t me x plugs)
  ended_plugs_right x plugs own =
      all_map (IsSentRight t me) (λ (i : Incarnation). to_owner t me kinds.ImportEnded (frame_of x) (frame_of i) [])
      (λ i. back_right _ (whose (frame_of i)) (whose (frame_of x)) refl refl own (λ imported. refl)) plugs

  given_back_right : (i : Incarnation) (place : ImportPlace) → (is_imported t i.slot.0 ≡ true → owner_of t i.slot.0 ≡ me) → AllRight t me (given_back t me i place)
  given_back_right i place own = go (tied_home place)
    where
      go : (o : Option Incarnation) → AllRight t me (option_map_or (λ (h : Incarnation). to_owner t me kinds.Deport (frame_of i) (frame_of h) [] ∷ []) o [])
      go None = tt
      go (Some h) = (forth_right _ (whose (frame_of i)) (whose (frame_of h)) refl refl refl own, tt)

  end_right : (f : Frame) (s : ℕ) → owner_of t s ≡ me → AllRight t me (end_messages t me f s)
  unfolding end_messages
  end_right f s own =
      let x : Incarnation = last_of f.lives s in
      let backs : List Msg = flat_map (λ i. given_back t me (incarnation i x.generation.0) (f.places i)) (imported_parts t s) in
      all_append (IsSentRight t me) (ended_plugs t me x (f.plugs s)) (backs ++ announces t me x (pos 0)) (ended_plugs_right x (f.plugs s) own)
      (all_append (IsSentRight t me) backs (announces t me x (pos 0))
      (all_flat (IsSentRight t me) (λ i. is_part_of t i s ≡ true) (λ i. given_back t me (incarnation i x.generation.0) (f.places i))
      (λ i part. given_back_right (incarnation i x.generation.0) (f.places i) (λ imported. part_here i s part own imported)) (imported_parts t s)
      (all_passed (λ i. is_part_of t i s ≡ true) (λ i. is_imported t i && is_part_of t i s) (λ i e. (and_parts (is_imported t i) (is_part_of t i s) e).1) (slots_of t)))
      (all_off t me _ (off_announces t me x (pos 0))))

  ends_right : (f : Frame) (o : ℕ) → AllRight t me (flat_map (end_messages t me f) (ended_slots t me f.lives o))
  unfolding ended_slots goes_down
  ends_right f o =
      all_flat (IsSentRight t me) (λ s. owner_of t s ≡ me) (end_messages t me f) (end_right f) (ended_slots t me f.lives o)
      (all_reverse (λ s. owner_of t s ≡ me) (filter (goes_down t me f.lives o) (slots_of t))
      (all_passed (λ s. owner_of t s ≡ me) (goes_down t me f.lives o) (λ s e. down s e) (slots_of t)))
    where
      down : (s : ℕ) → (is_own t me s && is_reached t me f.lives o s && f.lives.lives s) ≡ true → owner_of t s ≡ me
      down s e = own_owner t me s (and_parts (is_own t me s) (is_reached t me f.lives o s) (and_parts (is_own t me s && is_reached t me f.lives o s) (f.lives.lives s) e).0).0

  end_set_right : (f : Frame) (o : ℕ) (last : Option Msg) → AllRight t me (end_set_ended t me f o last).sent
  unfolding end_set_ended
  end_set_right f o last =
      all_append (IsSentRight t me) (flat_map (end_messages t me f) (ended_slots t me f.lives o)) (flat_map (part_ends t me f) (ended_slots t me f.lives o))
      (ends_right f o) (all_off t me _ (off_part_ends t me f (ended_slots t me f.lives o)))

  destroy_right : (f : Frame) (m : Msg) (o : ℕ) (x : Endpoint) → AllRight t me (destroy t me f m o x).sent
  unfolding destroy
  destroy_right f m o x = go (not (counts_as_live t me f.lives (whose x)) || not (f.lives.lives o))
    where
      done : Option Msg
      done = Some (reply me m kinds.DestroyDone (frame_of (last_of f.lives o)) x (pos 0 ∷ []))

      go : (a : Bool) → DutyRight (
          if a then record { frame = f; sent = []; made = []; ended = []; last = Some (reply me m kinds.DestroyDone (frame_at o 0) x (coded NotHere)) }
          else end_set_ended t me f o done)
      go true = tt
      go false = end_set_right f o done

  part_end_right : (f : Frame) (o : ℕ) → AllRight t me (part_end t me f o).sent
  unfolding part_end
  part_end_right f o = end_set_right f o None

  module _ (f : Frame) (m : Msg) where
    none_right : AllRight t me (nothing f).sent
    none_right = tt

    duty_of_right : (kind : SysKind) (a b : Endpoint) → ((x : Loan) → forth_by (Some kind) (Some a) b ≡ Some x → IsBetween t m.from.0 me x)
        → AllRight t me (frame_duty_of t me f m kind a b).sent
    duty_of_right kinds.Create a b hand = by_plainly t me f DutyRight none_right _ m.payload _ (λ h. all_off t me _ (off_create t me f.lives m b.slot.0 a))
    duty_of_right kinds.Destroy a b hand = by_plainly t me f DutyRight none_right _ m.payload _ (λ h. destroy_right f m b.slot.0 a)
    duty_of_right kinds.CreateDone a b hand = by_plainly t me f DutyRight none_right _ m.payload _ (λ h. all_off t me _ (off_create_done t me a b))
    duty_of_right kinds.CreateRefused a b hand = by_number t me f DutyRight none_right _ m.payload _ (λ n. all_off t me _ (off_create_refused t me a b n))
    duty_of_right kinds.DestroyDone a b hand =
        by_number t me f DutyRight none_right _ m.payload _ (λ n. by_natural t me f DutyRight none_right n _ (λ k. all_off t me _ (off_destroy_done t me a b k)))
    duty_of_right kinds.Import a b hand =
        by_plainly t me f DutyRight none_right (is_forth t me a b) m.payload _
        (λ h. import_right f.lives f.plugs m a b (own_owner t me b.slot.0 (forth_parts a b h).1) (hand (record { place = whose a; home = whose b }) refl).place)
    duty_of_right kinds.Deport a b hand =
        by_plainly t me f DutyRight none_right (is_forth t me a b) m.payload _
        (λ h. deport_right f.lives f.plugs m a b (own_owner t me b.slot.0 (forth_parts a b h).1) (hand (record { place = whose a; home = whose b }) refl).place)
    duty_of_right kinds.ImportDone a b hand = by_plainly t me f DutyRight none_right _ m.payload _ (λ h. all_off t me _ (off_import_done t me f.lives f.places a b))
    duty_of_right kinds.ImportRefused a b hand = by_number t me f DutyRight none_right _ m.payload _ (λ n. all_off t me _ (off_import_refused t me f.lives f.places a b n))
    duty_of_right kinds.ImportEnded a b hand = by_plainly t me f DutyRight none_right _ m.payload _ (λ h. all_off t me _ (off_import_ended t me f.lives f.places a b))
    duty_of_right kinds.DeportDone a b hand = by_plainly t me f DutyRight none_right _ m.payload _ (λ h. all_off t me _ (off_deport_done t me f.lives f.places a b))
    duty_of_right kinds.Announce a b hand =
        by_number t me f DutyRight none_right _ m.payload _ (λ n. by_natural t me f DutyRight none_right n _ (λ k. tt))
    duty_of_right kinds.Register a b hand = tt
    duty_of_right kinds.Withdraw a b hand = tt
    duty_of_right kinds.Bound a b hand = tt
    duty_of_right kinds.Ended a b hand = tt
    duty_of_right kinds.NameReply a b hand = tt
    duty_of_right kinds.PartMake a b hand = by_plainly t me f DutyRight none_right _ m.payload _ (λ h. all_off t me _ (off_part_make t me f.lives a.slot.0))
    duty_of_right kinds.PartEnd a b hand = by_plainly t me f DutyRight none_right _ m.payload _ (λ h. part_end_right f a.slot.0)

    duty_right : (kind : SysKind) → ((x : Loan) → forth_by (Some kind) m.source m.target ≡ Some x → IsBetween t m.from.0 me x)
        → AllRight t me (frame_duty t me f kind m).sent
    unfolding frame_duty
    duty_right kind hand = go m.source hand
      where
        go : (o : Option Endpoint) → ((x : Loan) → forth_by (Some kind) o m.target ≡ Some x → IsBetween t m.from.0 me x)
            → AllRight t me (frame_duty_from t me f m kind o).sent
        go None h = tt
        go (Some a) h = duty_of_right kind a m.target h

  -- what is sent in a turn is sent right
  Rightly : Frame → List Msg → Frame → Type 0
  Rightly f ms g = AllRight t me ms

  rightly : IsWalk t me Rightly
  unfolding Rightly
  rightly =
      record {
        two = λ f g h a b p q. all_append (IsSentRight t me) a b p q;
        off = λ f ms p. all_off t me ms p;
        request = λ f x c here. request_right f x c (own_owner t me x.slot.0 here.0);
      }

  module _ {M : Type 0} (model : Behaviour M) (clear : IsOpen model) where
    pub treat_right : (b : Body M) (m : Msg) → ((m.prio.0 == 0) ≡ true → IsRouted t m.from.0 me m) → AllRight t me (treat model t me b m).sent
    unfolding Rightly
    treat_right b m hand =
        treat_walks t me Rightly rightly model clear b m
        (λ zero kind is. duty_right b.frame m kind (λ x e. (hand zero).forth x (rw (zero, is) e)))

    pub start_right : AllRight t me (first_state model t me).outbox
    unfolding Rightly
    start_right = start_walks t me Rightly rightly model clear
