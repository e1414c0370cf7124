-- The plugs of a home fit: what each event does to the plugs and import places of a controller.
use Rattle.std.proofs.Common.{◌≡◌, ℕ, zero, suc, ◌+◌, ◌<◌, ◌≤◌, ◌==◌, ◌&&◌, ◌||◌, Bool, true, false, not, cond, if◌then◌else◌, List, [], ◌∷◌, ◌++◌, filter, flat_map, length, slice_get, Option, Some, None, ℤ, pos, refl, sym, ap, ◌∙◌, subst, eq-eqb, eqb-true, arith, ◌⊎◌, inl, inr}
use Rattle.std.specs.Prelude.{nat_lt}
use Rattle.std.specs.List.{AllByRecursion, Contains, list_any, range_with_len}
use Rattle.std.proofs.lemmas.Bool.{and_parts, cases_eq, cases_lt, le-ltb}
use Rattle.std.proofs.lemmas.List.Elements.{All-from_recursion, All-contains}
use Rattle.room_kinds.specs.declared.message.Msg.{Msg}
use Rattle.room_kinds.specs.declared.numbers.Incarnation.{Incarnation}
use Rattle.room_kinds.specs.declared.numbers.Endpoint.{Endpoint}
use Rattle.room_kinds.specs.declared.system.SysKind.{SysKind}
use Rattle.room_kinds.specs.declared.system.SysKind.TheVariants as kinds
use Rattle.room_kinds.specs.declared.command.FrameCommand.{FrameCommand}
use Rattle.room_kinds.specs.declared.command.FrameCommand.TheVariants as frames
use Rattle.room_wiring.specs.declared.tables.Tables.{Tables}
use Rattle.journal.specs.declared.entry.Entry.{Entry}
use Rattle.journal.specs.declared.entry.Entry.TheVariants as entry
use Rattle.actor_merge.specs.Mail.{event_of}
use Rattle.actor_merge.specs.Parties.{State, Line, Taken, put, stamped, next_of, fetch, turn, post}
use Rattle.actor_merge.specs.World.{World, Placed, start, Runs, controller_does}
use Rattle.actor_merge.proofs.Back.{Happened, controller, environment, happened, own_of}
use Rattle.room_wiring.specs.declared.slot.Partner.TheVariants as partners
use Rattle.room_wiring.specs.Places.{port_count, place_count, partner_at}
use Rattle.actor_duties.specs.Words.{updated, incarnation, whose, frame_at, frame_of, is_incarnation, joined_at, is_end, is_joined, places_of, class_number, is_home, part_at, of_id}
use Rattle.actor_duties.specs.State.{Lives, Frame, ImportPlace, Empty, Asking, Held, Leaving, Done}
use Rattle.actor_duties.specs.Messages.{Code, to_owner, reply, coded, StaleId, WrongClass, PortTaken, NotHere}
use Rattle.actor_duties.specs.Lives.{is_live, last_of, counts_as_live, goes_down, ended_slots, announces}
use Rattle.actor_duties.specs.Imports.{is_container_live, is_asking, is_taken_at, is_port_taken, heard, import, import_done, import_refused, import_ended, deport, deport_done, imported_parts, ended_plugs, given_back}
use Rattle.actor_duties.specs.Frame.{FrameDone, nothing, end_messages, part_ends, incarnate, destroy_command, end_set_ended, frame_ended, is_place_ended, destroy, part_end, frame_duty_of, frame_duty_from, frame_duty, is_same_class, busy_code, import_code, import_with, import_into, import_command, deport_from, deport_of, deport_command, frame_request}
use Rattle.actor_world.specs.Behaviour.{Behaviour}
use Rattle.actor_world.specs.Body.{Body}
use Rattle.actor_world.specs.Turns.{all_kinds, treat}
use Rattle.actor_world.specs.Start.{first_frame, first_state, plant_of}
use Rattle.actor_world.specs.Directories.{IsOpen, AreOpen}
use Rattle.service_messages.proofs.slot_runs.RunLemmas.{not_true_false}
use Rattle.law_agreement.specs.Trails.{from_a, contents, system_to, is_system_to, trail, leaves, comes}
use Rattle.law_agreement.specs.Imports.{home_of, Loan, forth_by}
use Rattle.law_agreement.specs.Plugs.{PlugsFit}
use Rattle.law_agreement.proofs.Lists.{all_append, all_later, all_before, all_filter, all_flat, all_map, all_unit}
use Rattle.law_agreement.proofs.Hearing.{from_append}
use Rattle.law_agreement.proofs.Moving.{Ranked, next_front, from_one, post_from, turn_from, world_after, controller_moves}
use Rattle.law_agreement.proofs.Agreeing.{put_each, IsForetold, start_foretold, controller_foretold, environment_foretold, environment_moves, fresh_trail}
use Rattle.law_agreement.proofs.OffLoan.{IsOffLoan, AllOffLoan, off_asked, off_announces, off_part_ends, off_part_make, off_create, off_create_done, off_create_refused, off_destroy_done, off_import_done, off_import_refused, off_import_ended, off_deport_done}
use Rattle.law_agreement.proofs.Duties.{by_plainly, by_number, by_natural}
use Rattle.law_agreement.proofs.Walking.{IsWalk, treat_walks, start_walks}
use Rattle.law_agreement.proofs.Emitting.{same_incarnation}

-- an incarnation stands in a list
abbrev pub In : Incarnation → List Incarnation → Type 0
In x [] = ⊥
In x (y ∷ ys) = (y ≡ x) ⊎ In x ys

in_cases : (x : Incarnation) (a b : List Incarnation) → In x (a ++ b) → In x a ⊎ In x b
in_cases x [] b h = inr h
in_cases x (y ∷ a) b (inl e) = inl (inl e)
in_cases x (y ∷ a) b (inr h) = go (in_cases x a b h)
  where
    go : In x a ⊎ In x b → In x (y ∷ a) ⊎ In x b
    go (inl k) = inl (inr k)
    go (inr k) = inr k

in_filter : (x : Incarnation) (q : Incarnation → Bool) (xs : List Incarnation) → In x (filter q xs) → In x xs
in_filter x q [] h = h
in_filter x q (y ∷ ys) h = go (q y) h (in_filter x q ys)
  where
    go : (b : Bool) → In x (cond b (y ∷ filter q ys) (filter q ys)) → (In x (filter q ys) → In x ys) → In x (y ∷ ys)
    go true (inl e) rest = inl e
    go true (inr k) rest = inr (rest k)
    go false k rest = inr (rest k)

all_weaker : {X : Type 0} (P Q : X → Type 0) → ((x : X) → P x → Q x) → (xs : List X) → AllByRecursion P xs → AllByRecursion Q xs
all_weaker P Q f [] h = tt
all_weaker P Q f (x ∷ xs) h = (f x h.0, all_weaker P Q f xs h.1)

all_in : (xs : List Incarnation) → AllByRecursion (λ (x : Incarnation). In x xs) xs
all_in [] = tt
all_in (y ∷ ys) = (inl refl, all_weaker (λ (x : Incarnation). In x ys) (λ (x : Incarnation). In x (y ∷ ys)) (λ x h. inr h) ys (all_in ys))

contains_in : (xs : List Incarnation) (x : Incarnation) → Contains xs x → In x xs
contains_in xs x there = All-contains (λ (y : Incarnation). In y xs) xs x (All-from_recursion (λ (y : Incarnation). In y xs) xs (all_in xs)) there

-- where no element passes, none passes
neither : (a b : Bool) → (a || b) ≡ false → (a ≡ false) × (b ≡ false)
neither true b e = absurd cc
neither false b e = (refl, e)

any_in : (f : Incarnation → Bool) (xs : List Incarnation) (x : Incarnation) → In x xs → list_any f xs ≡ false → f x ≡ false
any_in f [] x h e = absurd h
any_in f (y ∷ ys) x (inl s) e = ap f (sym s) ∙ (neither (f y) (list_any f ys) e).0
any_in f (y ∷ ys) x (inr h) e = any_in f ys x h (neither (f y) (list_any f ys) e).1

any_range : (f : ℕ → Bool) (n a k : ℕ) → a ≤ n → n < a + k → list_any f (range_with_len a k) ≡ false → f n ≡ false
any_range f n a zero l m e = absurd (omega (arith, l, m))
any_range f n a (suc k) l m e = go (cases_eq a n) (any_range f n (a + 1) k)
  where
    parts : (f a ≡ false) × (list_any f (range_with_len (a + 1) k) ≡ false)
    parts = neither (f a) (list_any f (range_with_len (a + 1) k)) e

    go : (a ≡ n) ⊎ (a ≡ n → ⊥) → (a + 1 ≤ n → n < (a + 1) + k → list_any f (range_with_len (a + 1) k) ≡ false → f n ≡ false) → f n ≡ false
    go (inl s) rest = ap f (sym s) ∙ (neither (f a) (list_any f (range_with_len (a + 1) k)) e).0
    go (inr s) rest = rest (omega (arith, l, s)) (omega (arith, m)) (neither (f a) (list_any f (range_with_len (a + 1) k)) e).1

below : (a b : ℕ) → nat_lt a b ≡ true → a < b
below a b e = go (cases_lt a b)
  where
    go : (a < b) ⊎ (b ≤ a) → a < b
    go (inl l) = l
    go (inr l) = absurd (not_true_false (nat_lt a b) e (le-ltb a b l))

module _ (t : Tables) where
  abbrev Ends : Incarnation → ℕ → ℕ → Type 0
  Ends i p k = is_end (joined_at t i.slot.0 p k) ≡ true

  -- a place that is joined to an end place is there
  ends_there : (i : Incarnation) (p k : ℕ) → Ends i p k → (p < port_count t i.slot.0) × (k < place_count t i.slot.0 p)
  unfolding joined_at
  ends_there i p k e = go (nat_lt i.slot.0 (length t.slots)) (nat_lt p (port_count t i.slot.0)) refl (nat_lt k (place_count t i.slot.0 p)) refl e
    where
      go : (x y : Bool) → nat_lt p (port_count t i.slot.0) ≡ y → (z : Bool) → nat_lt k (place_count t i.slot.0 p) ≡ z
          → is_end (if (x && y) && z then partner_at t i.slot.0 p k else partners.Nobody) ≡ true → (p < port_count t i.slot.0) × (k < place_count t i.slot.0 p)
      go true true a true b q = (below p (port_count t i.slot.0) a, below k (place_count t i.slot.0 p) b)
      go false y a z b q = absurd cc
      go true false a z b q = absurd cc
      go true true a false b q = absurd cc

  -- where no port is taken no place is
  not_taken : (plugs : List Incarnation) (i h : Incarnation) → is_port_taken t plugs i h ≡ false → (p k : ℕ) → Ends i p k
      → is_taken_at t plugs i h p k ≡ false
  unfolding is_port_taken
  not_taken plugs i h free p k e =
      let r = ends_there i p k e in
      any_range (is_taken_at t plugs i h p) k 0 (place_count t i.slot.0 p) (omega arith) (let l = r.1 in omega (arith, l))
      (any_range (λ n. list_any (is_taken_at t plugs i h n) (places_of t i.slot.0 n)) p 0 (port_count t i.slot.0) (omega arith) (let l = r.0 in omega (arith, l)) free)

  -- an Import asks for a home of the imported slot's class
  abbrev asks_by : Option SysKind → Option Endpoint → Endpoint → Option Loan
  asks_by (Some kinds.Import) (Some i) h = Some (record { place = whose i; home = whose h })
  asks_by _ _ _ = None

  abbrev asks_on : Msg → Option Loan
  asks_on m = if m.prio.0 == 0 then asks_by (slice_get all_kinds m.signal) m.source m.target else None

  abbrev HasClass : Msg → Type 0
  HasClass m = (x : Loan) → asks_on m ≡ Some x → class_number t x.home.slot.0 ≡ class_number t x.place.slot.0

  abbrev AllClassed : List Msg → Type 0
  AllClassed ms = AllByRecursion HasClass ms

  asks_forth : (o : Option SysKind) (s : Option Endpoint) (e : Endpoint) (x : Loan) → asks_by o s e ≡ Some x → forth_by o s e ≡ Some x
  asks_forth (Some kinds.Import) (Some i) e x q = q
  asks_forth (Some kinds.Import) None e x q = absurd cc
  asks_forth None s e x q = absurd cc
  asks_forth (Some kind) s e x q = absurd cc

  off_classed : (m : Msg) → IsOffLoan m → HasClass m
  off_classed m off x e = go (m.prio.0 == 0) off.0 e
    where
      go : (z : Bool) → (if z then forth_by (slice_get all_kinds m.signal) m.source m.target else None) ≡ None
          → (if z then asks_by (slice_get all_kinds m.signal) m.source m.target else None) ≡ Some x → class_number t x.home.slot.0 ≡ class_number t x.place.slot.0
      go false p q = absurd cc
      go true p q = (let r : ◌≡◌ {A = Option Loan} None (Some x) = sym p ∙ asks_forth (slice_get all_kinds m.signal) m.source m.target x q in absurd cc)

  -- the plugs of slot s fit
  record FitsAt (s : ℕ) (xs : List Incarnation) : Type 0 where
    pub one : (p k : ℕ) (a b : Incarnation) → In a xs → In b xs → Ends a p k → Ends b p k → a ≡ b
    pub apart : (p k : ℕ) (a : Incarnation) → In a xs → Ends a p k → is_joined (joined_at t s p k) ≡ false
    pub lent : (i : Incarnation) → In i xs → class_number t s ≡ class_number t i.slot.0

  fits_none : (s : ℕ) → FitsAt s []
  fits_none s = record { one = λ p k a b x y d e. absurd x; apart = λ p k a x d. absurd x; lent = λ i x. absurd x }

  fits_filter : (s : ℕ) (q : Incarnation → Bool) (xs : List Incarnation) → FitsAt s xs → FitsAt s (filter q xs)
  fits_filter s q xs h =
      record {
        one = λ p k a b x y d e. h.one p k a b (in_filter a q xs x) (in_filter b q xs y) d e;
        apart = λ p k a x d. h.apart p k a (in_filter a q xs x) d;
        lent = λ i x. h.lent i (in_filter i q xs x);
      }

  fits_more : (xs : List Incarnation) (i h : Incarnation) → is_port_taken t xs i h ≡ false
      → class_number t h.slot.0 ≡ class_number t i.slot.0 → FitsAt h.slot.0 xs
      → FitsAt h.slot.0 (xs ++ i ∷ [])
  fits_more xs i h free class k =
      record {
        one = λ p n a b x y d e. one p n a b (in_cases a xs (i ∷ []) x) (in_cases b xs (i ∷ []) y) d e;
        apart = λ p n a x d. alone p n a (in_cases a xs (i ∷ []) x) d;
        lent = λ j x. kind j (in_cases j xs (i ∷ []) x);
      }
    where
      parts : (p n : ℕ) → Ends i p n
          → (is_joined (joined_at t h.slot.0 p n) ≡ false)
          × (list_any (λ (q : Incarnation). not (is_incarnation q i) && is_end (joined_at t q.slot.0 p n)) xs ≡ false)
      parts p n e =
          neither (is_joined (joined_at t h.slot.0 p n)) (list_any (λ (q : Incarnation). not (is_incarnation q i) && is_end (joined_at t q.slot.0 p n)) xs)
          (ap (λ (z : Bool). z && (is_joined (joined_at t h.slot.0 p n) || list_any (λ (q : Incarnation). not (is_incarnation q i) && is_end (joined_at t q.slot.0 p n)) xs)) (sym e)
          ∙ not_taken xs i h free p n e)

      it : (p n : ℕ) (q : Incarnation) → In q xs → Ends i p n → Ends q p n → q ≡ i
      it p n q x e d =
          go (is_incarnation q i) refl
          (any_in (λ (z : Incarnation). not (is_incarnation z i) && is_end (joined_at t z.slot.0 p n)) xs q x (parts p n e).1)
        where
          go : (z : Bool) → is_incarnation q i ≡ z → (not (is_incarnation q i) && is_end (joined_at t q.slot.0 p n)) ≡ false → q ≡ i
          go true s f = same_incarnation q i s
          go false s f =
              absurd (not_true_false (is_end (joined_at t q.slot.0 p n)) d
              (ap (λ (z : Bool). not z && is_end (joined_at t q.slot.0 p n)) (sym s) ∙ f))

      one : (p n : ℕ) (a b : Incarnation) → In a xs ⊎ In a (i ∷ []) → In b xs ⊎ In b (i ∷ []) → Ends a p n → Ends b p n → a ≡ b
      one p n a b (inl x) (inl y) d e = k.one p n a b x y d e
      one p n a b (inl x) (inr (inl s)) d e = it p n a x (subst (λ (z : Incarnation). Ends z p n) (sym s) e) d ∙ s
      one p n a b (inr (inl s)) (inl y) d e = sym (it p n b y (subst (λ (z : Incarnation). Ends z p n) (sym s) d) e ∙ s)
      one p n a b (inr (inl s)) (inr (inl r)) d e = sym s ∙ r
      one p n a b (inr (inr x)) y d e = absurd x
      one p n a b x (inr (inr y)) d e = absurd y

      alone : (p n : ℕ) (a : Incarnation) → In a xs ⊎ In a (i ∷ []) → Ends a p n → is_joined (joined_at t h.slot.0 p n) ≡ false
      alone p n a (inl x) d = k.apart p n a x d
      alone p n a (inr (inl s)) d = (parts p n (subst (λ (z : Incarnation). Ends z p n) (sym s) d)).0
      alone p n a (inr (inr x)) d = absurd x

      kind : (j : Incarnation) → In j xs ⊎ In j (i ∷ []) → class_number t h.slot.0 ≡ class_number t j.slot.0
      kind j (inl x) = k.lent j x
      kind j (inr (inl s)) = class ∙ ap (λ (z : Incarnation). class_number t z.slot.0) s
      kind j (inr (inr x)) = absurd x

  -- the plugs of one slot change
  fits_put : (plugs : ℕ → List Incarnation) (at : ℕ) (next : List Incarnation) → FitsAt at next → ((s : ℕ) → FitsAt s (plugs s)) → (s : ℕ)
      → FitsAt s (updated plugs at next s)
  unfolding updated
  fits_put plugs at next new h s = go (s == at) refl
    where
      go : (b : Bool) → (s == at) ≡ b → FitsAt s (if b then next else plugs s)
      go true e = subst (λ n. FitsAt n next) (sym (eqb-true s at e)) new
      go false e = h s

  -- a place is tied to what is of its class
  abbrev TiedAt : ℕ → ImportPlace → Type 0
  TiedAt i p = (h : Incarnation) → home_of p ≡ Some h → class_number t h.slot.0 ≡ class_number t i

  tied_put : (places : ℕ → ImportPlace) (at : ℕ) (next : ImportPlace) → TiedAt at next → ((i : ℕ) → TiedAt i (places i)) → (i : ℕ)
      → TiedAt i (updated places at next i)
  unfolding updated
  tied_put places at next new h i = go (i == at) refl
    where
      go : (b : Bool) → (i == at) ≡ b → TiedAt i (if b then next else places i)
      go true e = subst (λ n. TiedAt n next) (sym (eqb-true i at e)) new
      go false e = h i

  tied_empty : (i : ℕ) → TiedAt i Empty
  tied_empty i h e = absurd cc

  tied_to : (i : ℕ) (y : Incarnation) (p : ImportPlace) → home_of p ≡ Some y → class_number t y.slot.0 ≡ class_number t i → TiedAt i p
  tied_to i y p e c h q =
      let one : Some y ≡ Some h = sym e ∙ q in
      let same : y ≡ h = cc in
      subst (λ (z : Incarnation). class_number t z.slot.0 ≡ class_number t i) same c

  -- what a controller keeps of imports fits
  record FitsSo (f : Frame) : Type 0 where
    pub plugs : (s : ℕ) → FitsAt s (f.plugs s)
    pub tied : (i : ℕ) → TiedAt i (f.places i)

  first_fits : (me : ℕ) → FitsSo (first_frame t me)
  first_fits me = record { plugs = fits_none; tied = tied_empty }

  -- an import that no code refuses is of the class
  class_by : (places : ℕ → ImportPlace) (i : ℕ) (h : Incarnation) → import_code t places i (Some h) ≡ None
      → class_number t h.slot.0 ≡ class_number t i
  class_by places i h e = go (is_home t h.slot.0) (is_same_class (class_number t i) (class_number t h.slot.0)) refl e
    where
      same : (a b : Option ℕ) → is_same_class a b ≡ true → b ≡ a
      same (Some a) (Some b) q = ap (λ n. Some n) (sym (eqb-true a b q))
      same None b q = absurd cc
      same (Some a) None q = absurd cc

      go : (a b : Bool) → is_same_class (class_number t i) (class_number t h.slot.0) ≡ b
          → (if not a then Some StaleId else if not b then Some WrongClass else busy_code (places i)) ≡ None → class_number t h.slot.0 ≡ class_number t i
      go false b d q = absurd cc
      go true false d q = absurd cc
      go true true d q = same (class_number t i) (class_number t h.slot.0) d

  module _ (me : ℕ) where
    -- the commands
    module _ (f : Frame) (x : Incarnation) (reference : ℕ) (index : ℤ) (h : FitsSo f) where
      abbrev AskedFits : Done (ℕ → ImportPlace) → Type 0
      AskedFits r = (i : ℕ) → TiedAt i (r.now i)

      import_with_fits : (j : ℕ) (o : Option Incarnation) (code : Option Code) → import_code t f.places j o ≡ code
          → AskedFits (import_with t me f.places x reference index j o code)
      import_with_fits j o (Some code) e = h.tied
      import_with_fits j None None e = h.tied
      import_with_fits j (Some y) None e = tied_put f.places j (Asking y) (tied_to j y (Asking y) refl (class_by f.places j y e)) h.tied

      import_into_fits : (id : ℤ) (o : Option ℕ) → AskedFits (import_into t me f.places x reference index id o)
      import_into_fits id None = h.tied
      import_into_fits id (Some j) = import_with_fits j (of_id id) (import_code t f.places j (of_id id)) refl

      deport_from_fits : (j : ℕ) (p : ImportPlace) → f.places j ≡ p → AskedFits (deport_from t me f.places x reference index j p)
      deport_from_fits j Empty e = h.tied
      deport_from_fits j (Asking y) e = h.tied
      deport_from_fits j (Leaving y) e = h.tied
      deport_from_fits j (Held y) e = tied_put f.places j (Leaving y) (tied_to j y (Leaving y) refl (h.tied j y (ap home_of e))) h.tied

      deport_of_fits : (o : Option ℕ) → AskedFits (deport_of t me f.places x reference index o)
      deport_of_fits None = h.tied
      deport_of_fits (Some j) = deport_from_fits j (f.places j) refl

    request_fits : (f : Frame) (x : Incarnation) (c : FrameCommand) → FitsSo f → FitsSo (frame_request t me f x c).now
    unfolding import_command deport_command
    request_fits f x (frames.Incarnate reference index) h = h
    request_fits f x (frames.Destroy reference index) h = h
    request_fits f x (frames.Import reference index id) h = record { plugs = h.plugs; tied = import_into_fits f x reference index h id (part_at t x.slot.0 reference index) }
    request_fits f x (frames.Deport reference index) h = record { plugs = h.plugs; tied = deport_of_fits f x reference index h (part_at t x.slot.0 reference index) }

    -- the duties
    module _ (f : Frame) (m : Msg) where
      abbrev Fits : FrameDone → Type 0
      Fits r = FitsSo f → FitsSo r.frame

      none_fits : FitsSo f → FitsSo f
      none_fits h = h

      lives_fits : (l : Lives) → FitsSo f → FitsSo (record f { lives = l })
      lives_fits l h = record { plugs = h.plugs; tied = h.tied }

      ended_fits : (o : ℕ) → FitsSo f → FitsSo (frame_ended t me o f)
      unfolding frame_ended
      ended_fits o h =
          record {
            plugs = λ s. left s (goes_down t me f.lives o s);
            tied = λ i. kept i (is_place_ended t me f.lives o i);
          }
        where
          left : (s : ℕ) (b : Bool) → FitsAt s (if b then [] else f.plugs s)
          left s true = fits_none s
          left s false = h.plugs s

          kept : (i : ℕ) (b : Bool) → TiedAt i (if b then Empty else f.places i)
          kept i true = tied_empty i
          kept i false = h.tied i

      destroy_fits : (o : ℕ) (x : Endpoint) → Fits (destroy t me f m o x)
      unfolding destroy end_set_ended
      destroy_fits o x = go (not (counts_as_live t me f.lives (whose x)) || not (f.lives.lives o))
        where
          go : (a : Bool) → Fits (
              if a then record { frame = f; sent = []; made = []; ended = []; last = Some (reply me m kinds.DestroyDone (frame_at o 0) x (coded NotHere)) }
              else end_set_ended t me f o (Some (reply me m kinds.DestroyDone (frame_of (last_of f.lives o)) x (pos 0 ∷ []))))
          go true h = h
          go false h = ended_fits o h

      part_end_fits : (o : ℕ) → Fits (part_end t me f o)
      unfolding part_end end_set_ended
      part_end_fits o h = ended_fits o h

      abbrev PlugFits : Done (ℕ → List Incarnation) → Type 0
      PlugFits r = (s : ℕ) → FitsAt s (r.now s)

      import_fits : (i h : Endpoint) → class_number t h.slot.0 ≡ class_number t i.slot.0 → FitsSo f → PlugFits (import t me f.lives f.plugs m i h)
      unfolding import
      import_fits i h class k = go (is_live f.lives (whose h)) (is_port_taken t (f.plugs h.slot.0) (whose i) (whose h)) refl
        where
          go : (a b : Bool) → is_port_taken t (f.plugs h.slot.0) (whose i) (whose h) ≡ b → PlugFits (
              if not a then record { now = f.plugs; sent = reply me m kinds.ImportRefused h i (coded StaleId) ∷ [] }
              else if b then record { now = f.plugs; sent = reply me m kinds.ImportRefused h i (coded PortTaken) ∷ [] }
              else record {
                now = updated f.plugs h.slot.0 (f.plugs h.slot.0 ++ whose i ∷ []);
                sent = reply me m kinds.ImportDone h i [] ∷ [];
              })
          go false b e = k.plugs
          go true true e = k.plugs
          go true false e =
              fits_put f.plugs h.slot.0 (f.plugs h.slot.0 ++ whose i ∷ []) (fits_more (f.plugs h.slot.0) (whose i) (whose h) e class (k.plugs h.slot.0)) k.plugs

      deport_fits : (i h : Endpoint) → FitsSo f → PlugFits (deport me f.lives f.plugs m i h)
      unfolding deport
      deport_fits i h k = go (is_live f.lives (whose h))
        where
          go : (a : Bool) → (s : ℕ)
              → FitsAt s ((if a then updated f.plugs h.slot.0 (filter (λ (q : Incarnation). not (is_incarnation q (whose i))) (f.plugs h.slot.0)) else f.plugs) s)
          go true = fits_put f.plugs h.slot.0 _ (fits_filter h.slot.0 (λ (q : Incarnation). not (is_incarnation q (whose i))) (f.plugs h.slot.0) (k.plugs h.slot.0)) k.plugs
          go false = k.plugs

      -- a place that hears an answer
      abbrev PlaceFits : Done (ℕ → ImportPlace) → Type 0
      PlaceFits r = (i : ℕ) → TiedAt i (r.now i)

      heard_fits : (i : Endpoint) (fits : Bool) (next : ImportPlace) (n : Msg) → (fits ≡ true → TiedAt i.slot.0 next) → FitsSo f
          → PlaceFits (heard t f.lives f.places i fits next n)
      heard_fits i fits next n new h = go (is_container_live t f.lives i && fits) refl
        where
          go : (b : Bool) → (is_container_live t f.lives i && fits) ≡ b
              → PlaceFits (if b then record { now = updated f.places i.slot.0 next; sent = n ∷ [] } else record { now = f.places; sent = [] })
          go true e = tied_put f.places i.slot.0 next (new (and_parts (is_container_live t f.lives i) fits e).1) h.tied
          go false e = h.tied

      done_fits : (h i : Endpoint) → FitsSo f → PlaceFits (import_done t me f.lives f.places h i)
      unfolding import_done
      done_fits h i k = heard_fits i _ (Held (whose h)) _ (λ e. asked (f.places i.slot.0) refl e) k
        where
          asked : (p : ImportPlace) → f.places i.slot.0 ≡ p → is_asking (whose h) p ≡ true → TiedAt i.slot.0 (Held (whose h))
          asked Empty q e = absurd cc
          asked (Held y) q e = absurd cc
          asked (Leaving y) q e = absurd cc
          asked (Asking y) q e =
              tied_to i.slot.0 (whose h) (Held (whose h)) refl
              (ap (λ (z : Incarnation). class_number t z.slot.0) (sym (same_incarnation y (whose h) e)) ∙ k.tied i.slot.0 y (ap home_of q))

      refused_fits : (h i : Endpoint) (code : ℤ) → FitsSo f → PlaceFits (import_refused t me f.lives f.places h i code)
      unfolding import_refused
      refused_fits h i code k = heard_fits i _ Empty _ (λ e. tied_empty i.slot.0) k

      gone_fits : (h i : Endpoint) → FitsSo f → PlaceFits (import_ended t me f.lives f.places h i)
      unfolding import_ended
      gone_fits h i k = heard_fits i _ Empty _ (λ e. tied_empty i.slot.0) k

      freed_fits : (h i : Endpoint) → FitsSo f → PlaceFits (deport_done t me f.lives f.places h i)
      unfolding deport_done
      freed_fits h i k = heard_fits i _ Empty _ (λ e. tied_empty i.slot.0) k

      duty_of_fits : (kind : SysKind) (a b : Endpoint) → (kind ≡ kinds.Import → class_number t b.slot.0 ≡ class_number t a.slot.0)
          → Fits (frame_duty_of t me f m kind a b)
      duty_of_fits kinds.Create a b class = by_plainly t me f Fits none_fits _ m.payload _ (λ e h. lives_fits _ h)
      duty_of_fits kinds.Destroy a b class = by_plainly t me f Fits none_fits _ m.payload _ (λ e h. destroy_fits b.slot.0 a h)
      duty_of_fits kinds.CreateDone a b class = by_plainly t me f Fits none_fits _ m.payload _ (λ e h. h)
      duty_of_fits kinds.CreateRefused a b class = by_number t me f Fits none_fits _ m.payload _ (λ n h. h)
      duty_of_fits kinds.DestroyDone a b class = by_number t me f Fits none_fits _ m.payload _ (λ n. by_natural t me f Fits none_fits n _ (λ k h. h))
      duty_of_fits kinds.Import a b class = by_plainly t me f Fits none_fits _ m.payload _ (λ e h. record { plugs = import_fits a b (class refl) h; tied = h.tied })
      duty_of_fits kinds.Deport a b class = by_plainly t me f Fits none_fits _ m.payload _ (λ e h. record { plugs = deport_fits a b h; tied = h.tied })
      duty_of_fits kinds.ImportDone a b class = by_plainly t me f Fits none_fits _ m.payload _ (λ e h. record { plugs = h.plugs; tied = done_fits a b h })
      duty_of_fits kinds.ImportRefused a b class = by_number t me f Fits none_fits _ m.payload _ (λ n h. record { plugs = h.plugs; tied = refused_fits a b n h })
      duty_of_fits kinds.ImportEnded a b class = by_plainly t me f Fits none_fits _ m.payload _ (λ e h. record { plugs = h.plugs; tied = gone_fits a b h })
      duty_of_fits kinds.DeportDone a b class = by_plainly t me f Fits none_fits _ m.payload _ (λ e h. record { plugs = h.plugs; tied = freed_fits a b h })
      duty_of_fits kinds.Announce a b class =
          by_number t me f Fits none_fits _ m.payload _ (λ n. by_natural t me f Fits none_fits n _ (λ k h. record { plugs = h.plugs; tied = h.tied }))
      duty_of_fits kinds.Register a b class = none_fits
      duty_of_fits kinds.Withdraw a b class = none_fits
      duty_of_fits kinds.Bound a b class = none_fits
      duty_of_fits kinds.Ended a b class = none_fits
      duty_of_fits kinds.NameReply a b class = none_fits
      duty_of_fits kinds.PartMake a b class = by_plainly t me f Fits none_fits _ m.payload _ (λ e h. lives_fits _ h)
      duty_of_fits kinds.PartEnd a b class = by_plainly t me f Fits none_fits _ m.payload _ (λ e h. part_end_fits a.slot.0 h)

      duty_from_fits : (kind : SysKind) (o : Option Endpoint)
          → ((x : Loan) → asks_by (Some kind) o m.target ≡ Some x → class_number t x.home.slot.0 ≡ class_number t x.place.slot.0)
          → Fits (frame_duty_from t me f m kind o)
      duty_from_fits kind None hand = none_fits
      duty_from_fits kind (Some a) hand =
          duty_of_fits kind a m.target (λ e. hand (record { place = whose a; home = whose m.target }) (ap (λ (z : SysKind). asks_by (Some z) (Some a) m.target) e))

      duty_fits : (kind : SysKind)
          → ((x : Loan) → asks_by (Some kind) m.source m.target ≡ Some x → class_number t x.home.slot.0 ≡ class_number t x.place.slot.0)
          → Fits (frame_duty t me f kind m)
      unfolding frame_duty
      duty_fits kind hand = duty_from_fits kind m.source hand

    -- over a turn
    FitsOn : Frame → List Msg → Frame → Type 0
    FitsOn f ms g = FitsSo f → FitsSo g

    fitting : IsWalk t me FitsOn
    unfolding FitsOn
    fitting =
        record {
          two = λ f g h a b p q k. q (p k);
          off = λ f ms p k. k;
          request = λ f x c here k. request_fits f x c k;
        }

    -- what a controller sends asks for homes of the class
    all_off_classed : (ms : List Msg) → AllOffLoan ms → AllClassed ms
    all_off_classed [] h = tt
    all_off_classed (m ∷ ms) h = (off_classed m h.0, all_off_classed ms h.1)

    module _ (places : ℕ → ImportPlace) (x : Incarnation) (reference : ℕ) (index : ℤ) where
      import_with_classed : (j : ℕ) (o : Option Incarnation) (code : Option Code) → import_code t places j o ≡ code
          → AllClassed (import_with t me places x reference index j o code).sent
      import_with_classed j o (Some code) e = ((λ z q. absurd cc), tt)
      import_with_classed j None None e = ((λ z q. absurd cc), tt)
      import_with_classed j (Some y) None e = (
        (λ z q. (let same : record { place = whose (frame_at j x.generation.0); home = whose (frame_of y) } ≡ z = cc in
            subst (λ (l : Loan). class_number t l.home.slot.0 ≡ class_number t l.place.slot.0) same (class_by places j y e))),
        tt,
      )

      import_into_classed : (id : ℤ) (o : Option ℕ) → AllClassed (import_into t me places x reference index id o).sent
      import_into_classed id None = ((λ z q. absurd cc), tt)
      import_into_classed id (Some j) = import_with_classed j (of_id id) (import_code t places j (of_id id)) refl

      deport_from_classed : (j : ℕ) (p : ImportPlace) → AllClassed (deport_from t me places x reference index j p).sent
      deport_from_classed j Empty = ((λ z q. absurd cc), tt)
      deport_from_classed j (Asking y) = ((λ z q. absurd cc), tt)
      deport_from_classed j (Leaving y) = ((λ z q. absurd cc), tt)
      deport_from_classed j (Held y) = ((λ z q. absurd cc), tt)

      deport_of_classed : (o : Option ℕ) → AllClassed (deport_of t me places x reference index o).sent
      deport_of_classed None = ((λ z q. absurd cc), tt)
      deport_of_classed (Some j) = deport_from_classed j (places j)

    request_classed : (f : Frame) (x : Incarnation) (c : FrameCommand) → AllClassed (frame_request t me f x c).sent
    unfolding import_command deport_command incarnate destroy_command
    request_classed f x (frames.Incarnate reference index) = (off_classed (incarnate t me x reference index) (off_asked t me x reference index (part_at t x.slot.0 reference index)).0, tt)
    request_classed f x (frames.Destroy reference index) = (off_classed (destroy_command t me x reference index) (off_asked t me x reference index (part_at t x.slot.0 reference index)).1, tt)
    request_classed f x (frames.Import reference index id) = import_into_classed f.places x reference index id (part_at t x.slot.0 reference index)
    request_classed f x (frames.Deport reference index) = deport_of_classed f.places x reference index (part_at t x.slot.0 reference index)

    module _ (f : Frame) (m : Msg) where
      abbrev DutyClassed : FrameDone → Type 0
      DutyClassed r = AllClassed r.sent

      given_classed : (x : Incarnation) (p : ImportPlace) → AllClassed (given_back t me x p)
      given_classed x Empty = tt
      given_classed x (Asking y) = ((λ z q. absurd cc), tt)
      given_classed x (Held y) = ((λ z q. absurd cc), tt)
      given_classed x (Leaving y) = tt

      end_classed : (s : ℕ) → AllClassed (end_messages t me f s)
      unfolding end_messages
      end_classed s =
          let x : Incarnation = last_of f.lives s in
          let backs : List Msg = flat_map (λ j. given_back t me (incarnation j x.generation.0) (f.places j)) (imported_parts t s) in
          all_append HasClass (ended_plugs t me x (f.plugs s)) (backs ++ announces t me x (pos 0))
          (all_map HasClass (λ (j : Incarnation). to_owner t me kinds.ImportEnded (frame_of x) (frame_of j) []) (λ j z q. absurd cc) (f.plugs s))
          (all_append HasClass backs (announces t me x (pos 0))
          (all_flat HasClass (λ (j : ℕ). Unit {0}) (λ j. given_back t me (incarnation j x.generation.0) (f.places j)) (λ j u. given_classed (incarnation j x.generation.0) (f.places j)) (imported_parts t s) (all_unit (imported_parts t s)))
          (all_off_classed _ (off_announces t me x (pos 0))))

      end_set_classed : (o : ℕ) (last : Option Msg) → AllClassed (end_set_ended t me f o last).sent
      unfolding end_set_ended
      end_set_classed o last =
          all_append HasClass (flat_map (end_messages t me f) (ended_slots t me f.lives o)) (flat_map (part_ends t me f) (ended_slots t me f.lives o))
          (all_flat HasClass (λ (s : ℕ). Unit {0}) (end_messages t me f) (λ s u. end_classed s) (ended_slots t me f.lives o) (all_unit (ended_slots t me f.lives o)))
          (all_off_classed _ (off_part_ends t me f (ended_slots t me f.lives o)))

      destroy_classed : (o : ℕ) (x : Endpoint) → AllClassed (destroy t me f m o x).sent
      unfolding destroy
      destroy_classed o x = go (not (counts_as_live t me f.lives (whose x)) || not (f.lives.lives o))
        where
          go : (a : Bool) → DutyClassed (
              if a then record { frame = f; sent = []; made = []; ended = []; last = Some (reply me m kinds.DestroyDone (frame_at o 0) x (coded NotHere)) }
              else end_set_ended t me f o (Some (reply me m kinds.DestroyDone (frame_of (last_of f.lives o)) x (pos 0 ∷ []))))
          go true = tt
          go false = end_set_classed o _

      part_end_classed : (o : ℕ) → AllClassed (part_end t me f o).sent
      unfolding part_end
      part_end_classed o = end_set_classed o None

      abbrev PluggedClassed : Done (ℕ → List Incarnation) → Type 0
      PluggedClassed r = AllClassed r.sent

      import_classed : (i h : Endpoint) → AllClassed (import t me f.lives f.plugs m i h).sent
      unfolding import
      import_classed i h = go (is_live f.lives (whose h)) (is_port_taken t (f.plugs h.slot.0) (whose i) (whose h))
        where
          go : (a b : Bool) → PluggedClassed (
              if not a then record { now = f.plugs; sent = reply me m kinds.ImportRefused h i (coded StaleId) ∷ [] }
              else if b then record { now = f.plugs; sent = reply me m kinds.ImportRefused h i (coded PortTaken) ∷ [] }
              else record { now = updated f.plugs h.slot.0 (f.plugs h.slot.0 ++ whose i ∷ []); sent = reply me m kinds.ImportDone h i [] ∷ [] })
          go false b = ((λ z q. absurd cc), tt)
          go true true = ((λ z q. absurd cc), tt)
          go true false = ((λ z q. absurd cc), tt)

      deport_classed : (i h : Endpoint) → AllClassed (deport me f.lives f.plugs m i h).sent
      unfolding deport
      deport_classed i h = ((λ z q. absurd cc), tt)

      none_classed : AllClassed (nothing f).sent
      none_classed = tt

      duty_of_classed : (kind : SysKind) (a b : Endpoint) → AllClassed (frame_duty_of t me f m kind a b).sent
      duty_of_classed kinds.Create a b = by_plainly t me f DutyClassed none_classed _ m.payload _ (λ e. all_off_classed _ (off_create t me f.lives m b.slot.0 a))
      duty_of_classed kinds.Destroy a b = by_plainly t me f DutyClassed none_classed _ m.payload _ (λ e. destroy_classed b.slot.0 a)
      duty_of_classed kinds.CreateDone a b = by_plainly t me f DutyClassed none_classed _ m.payload _ (λ e. all_off_classed _ (off_create_done t me a b))
      duty_of_classed kinds.CreateRefused a b = by_number t me f DutyClassed none_classed _ m.payload _ (λ n. all_off_classed _ (off_create_refused t me a b n))
      duty_of_classed kinds.DestroyDone a b =
          by_number t me f DutyClassed none_classed _ m.payload _ (λ n. by_natural t me f DutyClassed none_classed n _ (λ k. all_off_classed _ (off_destroy_done t me a b k)))
      duty_of_classed kinds.Import a b = by_plainly t me f DutyClassed none_classed _ m.payload _ (λ e. import_classed a b)
      duty_of_classed kinds.Deport a b = by_plainly t me f DutyClassed none_classed _ m.payload _ (λ e. deport_classed a b)
      duty_of_classed kinds.ImportDone a b = by_plainly t me f DutyClassed none_classed _ m.payload _ (λ e. all_off_classed _ (off_import_done t me f.lives f.places a b))
      duty_of_classed kinds.ImportRefused a b = by_number t me f DutyClassed none_classed _ m.payload _ (λ n. all_off_classed _ (off_import_refused t me f.lives f.places a b n))
      duty_of_classed kinds.ImportEnded a b = by_plainly t me f DutyClassed none_classed _ m.payload _ (λ e. all_off_classed _ (off_import_ended t me f.lives f.places a b))
      duty_of_classed kinds.DeportDone a b = by_plainly t me f DutyClassed none_classed _ m.payload _ (λ e. all_off_classed _ (off_deport_done t me f.lives f.places a b))
      duty_of_classed kinds.Announce a b = by_number t me f DutyClassed none_classed _ m.payload _ (λ n. by_natural t me f DutyClassed none_classed n _ (λ k. tt))
      duty_of_classed kinds.Register a b = tt
      duty_of_classed kinds.Withdraw a b = tt
      duty_of_classed kinds.Bound a b = tt
      duty_of_classed kinds.Ended a b = tt
      duty_of_classed kinds.NameReply a b = tt
      duty_of_classed kinds.PartMake a b = by_plainly t me f DutyClassed none_classed _ m.payload _ (λ e. all_off_classed _ (off_part_make t me f.lives a.slot.0))
      duty_of_classed kinds.PartEnd a b = by_plainly t me f DutyClassed none_classed _ m.payload _ (λ e. part_end_classed a.slot.0)

      duty_classed : (kind : SysKind) → AllClassed (frame_duty t me f kind m).sent
      unfolding frame_duty
      duty_classed kind = go m.source
        where
          go : (o : Option Endpoint) → AllClassed (frame_duty_from t me f m kind o).sent
          go None = tt
          go (Some a) = duty_of_classed kind a m.target

    ClassedOn : Frame → List Msg → Frame → Type 0
    ClassedOn f ms g = AllClassed ms

    classing : IsWalk t me ClassedOn
    unfolding ClassedOn
    classing =
        record {
          two = λ f g h a b p q. all_append HasClass a b p q;
          off = λ f ms p. all_off_classed ms p;
          request = λ f x c here. request_classed f x c;
        }

    module _ {M : Type 0} (model : Behaviour M) (clear : IsOpen model) where
      treat_fits : (b : Body M) (m : Msg) → ((m.prio.0 == 0) ≡ true → HasClass m) → FitsSo b.frame → FitsSo (treat model t me b m).body.frame
      unfolding FitsOn
      treat_fits b m hand h =
          treat_walks t me FitsOn fitting model clear b m (λ zero kind is. duty_fits b.frame m kind (λ x e. hand zero x (rw (zero, is) e))) h

      start_fits : FitsSo (first_state model t me).body.frame
      unfolding FitsOn
      start_fits = start_walks t me FitsOn fitting model clear (first_fits me)

      treat_classed : (b : Body M) (m : Msg) → AllClassed (treat model t me b m).sent
      unfolding ClassedOn
      treat_classed b m = treat_walks t me ClassedOn classing model clear b m (λ zero kind is. duty_classed b.frame m kind)

      start_classed : AllClassed (first_state model t me).outbox
      unfolding ClassedOn
      start_classed = start_walks t me ClassedOn classing model clear

  -- what is sent, as it stands on trails
  classed_contents : (d : ℕ) (ms : List Msg) → AllClassed ms → AllClassed (contents d ms)
  unfolding contents
  classed_contents d [] h = tt
  classed_contents d (m ∷ ms) h = (h.0, classed_contents d ms h.1)

  classed_system : (a b : ℕ) (ms : List Msg) → AllClassed ms → AllClassed (system_to a b ms)
  unfolding system_to
  classed_system a b ms h = classed_contents a (filter (is_system_to b) ms) (all_filter HasClass (is_system_to b) ms h)

  -- a world in which all fits
  record IsFitting {M : Type 0} (w : World (Body M)) : Type 0 where
    pub foretold : IsForetold t w
    pub classed : (a b : ℕ) → AllClassed (trail w a b)
    pub fits : (n : ℕ) → FitsSo (w.controllers n).body.frame

  module _ {M : Type 0} (model : Behaviour M) (clear : IsOpen model) (lines : List Line) (clear_lines : AreOpen lines) where
    module _ (w : World (Body M)) (inv : IsFitting w) (c : ℕ) where
      -- the message that a turn takes out of the system's list
      hand_classed : (k : Taken) → next_of (w.controllers c).pending ≡ Some k → (k.message.prio.0 == 0) ≡ true → HasClass k.message
      hand_classed k front first_rank =
          let f : ℕ = k.message.from.0 in
          let whole : (w.controllers c).pending k.priority ≡ k.message ∷ k.rest = next_front (w.controllers c).pending k front in
          let rank : k.message.prio.0 ≡ k.priority = (subst (Ranked k.priority) whole ((inv.foretold.sorted c).pending k.priority)).0 in
          let first : k.priority ≡ 0 = sym rank ∙ eqb-true k.message.prio.0 0 first_rank in
          let list : (w.controllers c).pending 0 ≡ k.message ∷ k.rest = ap (w.controllers c).pending (sym first) ∙ whole in
          let split : from_a f ((w.controllers c).pending 0) ≡ from_a f (k.message ∷ []) ++ from_a f k.rest = ap (from_a f) list ∙ from_append f (k.message ∷ []) k.rest in
          let all : AllClassed (from_a f ((w.controllers c).pending 0)) = all_before HasClass (from_a f ((w.controllers c).pending 0)) _ (inv.classed f c) in
          let one : from_a f (k.message ∷ []) ≡ stamped f 0 k.message ∷ [] =
          from_one f k.message ∙ ap (λ (z : Bool). if z then stamped f 0 k.message ∷ [] else []) (eq-eqb f f refl) in
          (subst AllClassed one (all_before HasClass (from_a f (k.message ∷ [])) (from_a f k.rest) (subst AllClassed split all))).0

      step_classed : (e : Entry) (next : State (Body M)) → controller_does (plant_of model t lines) w c (event_of e) ≡ Some (next, e)
          → (a b : ℕ) → AllClassed (comes (world_after model t lines w c e next) c e a b)
      unfolding turn put
      step_classed (entry.Start who state ns) next h a b = tt
      step_classed (entry.Fetch stamp m) next h a b = tt
      step_classed (entry.Post stamp m) next h a b = tt
      step_classed (entry.Turn stamp from sent what ns) next h a b = go (a == c)
        where
          sent_classed : AllClassed next.outbox
          sent_classed =
              let r = turn_from model t lines c (w.controllers c) next (entry.Turn stamp from sent what ns) (w.controllers c).outbox (next_of (w.controllers c).pending) h in
              subst (λ (q : State (Body M) × Entry). AllClassed q.0.outbox) r.3 (treat_classed c model clear (w.controllers c).body r.0.message)

          go : (x : Bool) → AllClassed (if x then system_to a b (if x then next else w.controllers a).outbox else [])
          go true = classed_system a b next.outbox sent_classed
          go false = tt

      does_fits : (e : Entry) (next : State (Body M)) → controller_does (plant_of model t lines) w c (event_of e) ≡ Some (next, e)
          → FitsSo next.body.frame
      unfolding turn post fetch
      does_fits (entry.Start who state ns) next h = absurd cc
      does_fits (entry.Fetch stamp m) next h =
          let q : fetch (w.controllers c) m ≡ (next, entry.Fetch stamp m) = own_of (plant_of model t lines) w c (entry.Fetch stamp m) next h in
          subst (λ (z : State (Body M) × Entry). FitsSo z.0.body.frame) q (inv.fits c)
      does_fits (entry.Post stamp m) next h =
          let r = post_from model t lines c (w.controllers c) next (entry.Post stamp m) (w.controllers c).outbox h in
          subst (λ (z : State (Body M) × Entry). FitsSo z.0.body.frame) r.3 (inv.fits c)
      does_fits (entry.Turn stamp from sent what ns) next h =
          let r = turn_from model t lines c (w.controllers c) next (entry.Turn stamp from sent what ns) (w.controllers c).outbox (next_of (w.controllers c).pending) h in
          subst (λ (z : State (Body M) × Entry). FitsSo z.0.body.frame) r.3
          (treat_fits c model clear (w.controllers c).body r.0.message (λ zero. hand_classed r.0 r.2 zero) (inv.fits c))

      controller_fits : c < length t.controllers → (e : Entry) (next : State (Body M))
          → controller_does (plant_of model t lines) w c (event_of e) ≡ Some (next, e)
          → IsFitting (world_after model t lines w c e next)
      controller_fits below e next h =
          record {
            foretold = controller_foretold model clear t lines clear_lines w inv.foretold c below e next h;
            classed = λ a b.
                all_later HasClass (leaves w c e a b) (trail (world_after model t lines w c e next) a b)
                (subst AllClassed (sym (controller_moves model t lines clear w c e next (inv.foretold.sorted c) h a b))
                (all_append HasClass (trail w a b) (comes (world_after model t lines w c e next) c e a b) (inv.classed a b) (step_classed e next h a b)));
            fits = put_each (λ (z : State (Body M)). FitsSo z.body.frame) w.controllers c next inv.fits (does_fits e next h);
          }

    step_fits : (w : World (Body M)) (x : Placed) (next : World (Body M)) → IsFitting w → Happened (plant_of model t lines) w x next → IsFitting next
    step_fits w x next inv (controller below s does same) = subst IsFitting (sym same) (controller_fits w inv x.party below x.entry s does)
    step_fits w x next inv (environment is v does same) =
        subst IsFitting (sym same)
        (record {
          foretold = environment_foretold model clear t lines clear_lines w x.party x.entry v inv.foretold does;
          classed = λ a b. subst AllClassed (sym (environment_moves model clear t lines clear_lines w x.party x.entry v does a b)) (inv.classed a b);
          fits = inv.fits;
        })

    run_fits : (xs : List Placed) (w end : World (Body M)) → IsFitting w → Runs (plant_of model t lines) w xs end → IsFitting end
    run_fits [] w end inv r = subst IsFitting (sym r) inv
    run_fits (x ∷ xs) w end inv r = run_fits xs r.0 end (step_fits w x r.0 inv (happened (plant_of model t lines) w x r.0 r.2)) r.3

    world_fits : IsFitting (start (plant_of model t lines))
    world_fits =
        record {
          foretold = start_foretold model clear t lines clear_lines;
          classed = λ a b.
              subst AllClassed (sym (fresh_trail a b (first_state model t a).outbox))
              (classed_system a b (first_state model t a).outbox (start_classed a model clear));
          fits = λ n. start_fits n model clear;
        }

    pub runs_fit : (xs : List Placed) (end : World (Body M)) → Runs (plant_of model t lines) (start (plant_of model t lines)) xs end
        → (c : ℕ) → PlugsFit t (end.controllers c).body.frame
    runs_fit xs end r c =
        let f : Frame = (end.controllers c).body.frame in
        let h : FitsSo f = (run_fits xs (start (plant_of model t lines)) end world_fits r).fits c in
        record {
          one = λ s p k a b x y d e. (h.plugs s).one p k a b (contains_in (f.plugs s) a x) (contains_in (f.plugs s) b y) d e;
          apart = λ s p k a x d. (h.plugs s).apart p k a (contains_in (f.plugs s) a x) d;
          tied = h.tied;
          lent = λ s i x. (h.plugs s).lent i (contains_in (f.plugs s) i x);
        }
