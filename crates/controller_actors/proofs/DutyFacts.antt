-- What a duty of the frame service does to lives: what lives keeps its generation, what goes down is told
-- as ended, and what is told as made lives.
use Rattle.std.proofs.Common.{◌≡◌, ℕ, zero, suc, ◌+◌, ◌<◌, ◌≤◌, Bool, true, false, not, cond, ◌&&◌, ◌||◌, if◌then◌else◌, List, [], ◌∷◌, map, filter, reverse, length, All, Option, Some, None, ℤ, pos, negsuc, refl, sym, ap, ◌∙◌, subst, arith, inl, inr}
use mathlib.Core.List.{reverse_aux}
use Rattle.std.specs.List.{list_any, range_with_len}
use Rattle.std.proofs.lemmas.Bool.{cases_lt, eq-eqb}
use Rattle.std.proofs.lemmas.List.Elements.{All-nil, All-cons, All-head, All-tail}
use Rattle.room_kinds.specs.declared.message.Msg.{Msg}
use Rattle.room_kinds.specs.declared.numbers.Incarnation.{Incarnation}
use Rattle.room_kinds.specs.declared.numbers.Endpoint.{Endpoint}
use Rattle.room_kinds.specs.declared.system.SysKind.{SysKind}
use Rattle.room_kinds.specs.declared.system.SysKind.TheVariants as kinds
use Rattle.room_wiring.specs.declared.tables.Tables.{Tables}
use Rattle.actor_duties.specs.Messages.{reply, coded, NotHere, Occupied}
use Rattle.actor_duties.specs.Words.{frame_at, frame_of, whose}
use Rattle.actor_duties.specs.State.{Lives, Frame}
use Rattle.actor_duties.specs.Lives.{answered, comes_up, counts_as_live, create, ended_slots, goes_down, last_of, lives_ended, lives_made, made, made_slots, part_make}
use Rattle.actor_duties.specs.Frame.{FrameDone, destroy, end_set_ended, frame_duty, frame_duty_from, frame_duty_of, frame_ended, of_natural, part_end, plainly, with_lives, with_number}
use Rattle.actor_world.proofs.LifeSteps.{up_parts, down_parts}
use Rattle.actor_world.proofs.Slots.{own_in_range}
use Rattle.controller_actors.specs.Bodies.{is_in}
use Rattle.controller_actors.specs.Steps.{IsLast, IsOwn}

pub record Facts (t : Tables) (me : ℕ) (l : Lives) (r : FrameDone) : Type 0 where
  pub living : (s : ℕ) → l.lives s ≡ true → r.frame.lives.generation s ≡ l.generation s
  pub still : (s : ℕ) → r.frame.lives.lives s ≡ false → list_any (is_in s) r.ended ≡ false → l.lives s ≡ false
  pub comes : All (IsLast t me r.frame.lives) r.made
  pub goes : All (IsOwn t me) r.ended

-- ---- lists

or_false : (b : Bool) → (b || false) ≡ b
or_false true = refl
or_false false = refl

or_swap : (a b c : Bool) → (b || (a || c)) ≡ ((a || b) || c)
or_swap true true c = refl
or_swap true false c = refl
or_swap false true c = refl
or_swap false false c = refl

or_second : (a b : Bool) → b ≡ true → (a || b) ≡ true
or_second true b h = refl
or_second false b h = h

module _ (p : Incarnation → Bool) (f : ℕ → Incarnation) where
  any_onto : (ss acc : List ℕ) → list_any p (map f (reverse_aux ss acc)) ≡ (list_any p (map f ss) || list_any p (map f acc))
  any_onto [] acc = refl
  any_onto (s ∷ ss) acc = any_onto ss (s ∷ acc) ∙ or_swap (p (f s)) (list_any p (map f ss)) (list_any p (map f acc))

  any_reverse : (ss : List ℕ) → list_any p (map f (reverse ss)) ≡ list_any p (map f ss)
  any_reverse ss = any_onto ss [] ∙ or_false (list_any p (map f ss))

  module _ (q : ℕ → Bool) where
    any_here : (a : ℕ) (rest : List ℕ) → q a ≡ true → p (f a) ≡ true → list_any p (map f (filter q (a ∷ rest))) ≡ true
    any_here a rest h k =
        ap (λ b. list_any p (map f (cond b (a ∷ filter q rest) (filter q rest)))) h ∙ ap (λ b. b || list_any p (map f (filter q rest))) k

    any_later : (a : ℕ) (rest : List ℕ) (b : Bool) → list_any p (map f (filter q rest)) ≡ true → list_any p (map f (cond b (a ∷ filter q rest) (filter q rest))) ≡ true
    any_later a rest true h = or_second (p (f a)) (list_any p (map f (filter q rest))) h
    any_later a rest false h = h

    any_picked : (s : ℕ) → q s ≡ true → p (f s) ≡ true → (n a : ℕ) → a ≤ s → s < a + n → list_any p (map f (filter q (range_with_len a n))) ≡ true
    any_picked s h k zero a low high = absurd (omega (arith, low, high))
    any_picked s h k (suc n) a low high = elim (cases_lt a s) [
      | inl below ↦ any_later a (range_with_len (a + 1) n) (q a) (any_picked s h k n (a + 1) (omega (arith, below)) (omega (arith, high)))
      | inr above ↦
          let e : s ≡ a = omega (arith, low, above) in
          any_here a (range_with_len (a + 1) n) (subst (λ b. q b ≡ true) e h) (subst (λ b. p (f b) ≡ true) e k)
    ]

-- all of what is picked from a list, as it is or the other way round
module _ (P : Incarnation → Type 0) (f : ℕ → Incarnation) where
  all_map : (ss : List ℕ) → All (λ s. P (f s)) ss → All P (map f ss)
  all_map [] h = All-nil P
  all_map (s ∷ ss) h = All-cons P (f s) (map f ss) (All-head (λ s. P (f s)) s ss h) (all_map ss (All-tail (λ s. P (f s)) s ss h))

all_filter : (Q : ℕ → Type 0) (q : ℕ → Bool) → ((s : ℕ) → q s ≡ true → Q s) → (ss : List ℕ) → All Q (filter q ss)
all_filter Q q h [] = All-nil Q
all_filter Q q h (s ∷ ss) = go (q s) refl (all_filter Q q h ss)
  where
    go : (b : Bool) → q s ≡ b → All Q (filter q ss) → All Q (cond b (s ∷ filter q ss) (filter q ss))
    go true e rest = All-cons Q s (filter q ss) (h s e) rest
    go false e rest = rest

all_onto : (Q : ℕ → Type 0) (ss acc : List ℕ) → All Q ss → All Q acc → All Q (reverse_aux ss acc)
all_onto Q [] acc h k = k
all_onto Q (s ∷ ss) acc h k = all_onto Q ss (s ∷ acc) (All-tail Q s ss h) (All-cons Q s acc (All-head Q s ss h) k)

-- ---- duties by their kind

module _ (t : Tables) (me : ℕ) where
  none : (f : Frame) (g : Frame) (sent : List Msg) (last : Option Msg) → g.lives ≡ f.lives
      → Facts t me f.lives (record { frame = g; sent = sent; made = []; ended = []; last = last })
  none f g sent last same = record {
    living = λ s h. ap (λ (l : Lives). l.generation s) same;
    still = λ s dead out. sym (ap (λ (l : Lives). l.lives s) same) ∙ dead;
    comes = All-nil _;
    goes = All-nil _;
  }

  plain : (f : Frame) (fits : Bool) (payload : List ℤ) (r : FrameDone) → Facts t me f.lives r → Facts t me f.lives (plainly f fits payload r)
  plain f true [] r h = h
  plain f false [] r h = none f f [] None refl
  plain f fits (n ∷ ns) r h = none f f [] None refl

  number : (f : Frame) (fits : Bool) (payload : List ℤ) (r : ℤ → FrameDone) → ((n : ℤ) → Facts t me f.lives (r n)) → Facts t me f.lives (with_number f fits payload r)
  number f fits [] r h = none f f [] None refl
  number f true (n ∷ []) r h = h n
  number f false (n ∷ []) r h = none f f [] None refl
  number f fits (n ∷ (k ∷ ns)) r h = none f f [] None refl

  natural : (f : Frame) (n : ℤ) (r : ℕ → FrameDone) → ((n : ℕ) → Facts t me f.lives (r n)) → Facts t me f.lives (of_natural f n r)
  natural f (pos n) r h = h n
  natural f (negsuc n) r h = none f f [] None refl

  -- what comes up
  module _ (l : Lives) (o : ℕ) where
    up_living : (s : ℕ) → l.lives s ≡ true → (lives_made t me o l).generation s ≡ l.generation s
    unfolding lives_made
    up_living s live = go (comes_up t me l o s) refl
      where
        go : (b : Bool) → comes_up t me l o s ≡ b → (if b then l.generation s + 1 else l.generation s) ≡ l.generation s
        go true e = absurd (let no : true ≡ false = sym live ∙ (up_parts t me l o s e).1 in cc)
        go false e = refl

    up_still : (s : ℕ) → (lives_made t me o l).lives s ≡ false → l.lives s ≡ false
    unfolding lives_made
    up_still s dead = go (comes_up t me l o s) (l.lives s) dead
      where
        go : (a b : Bool) → (a || b) ≡ false → b ≡ false
        go true b h = absurd cc
        go false b h = h

    up_comes : All (IsLast t me (lives_made t me o l)) (map (last_of (lives_made t me o l)) (made_slots t me l o))
    unfolding lives_made made_slots
    up_comes =
        all_map (IsLast t me (lives_made t me o l)) (last_of (lives_made t me o l)) (made_slots t me l o)
        (all_filter (λ s. IsLast t me (lives_made t me o l) (last_of (lives_made t me o l) s)) (comes_up t me l o)
        (λ s e. record {
          own = (up_parts t me l o s e).0;
          last = refl;
          live = ap (λ b. b || l.lives s) e;
        }) (range_with_len 0 (length t.slots)))

  part : (f : Frame) (o : ℕ) → Facts t me f.lives (with_lives f (part_make t me f.lives o))
  unfolding part_make
  part f o = record {
    living = up_living f.lives o;
    still = λ s dead out. up_still f.lives o s dead;
    comes = up_comes f.lives o;
    goes = All-nil _;
  }

  creation : (f : Frame) (m : Msg) (o : ℕ) (x : Endpoint) → Facts t me f.lives (with_lives f (create t me f.lives m o x))
  unfolding create made part_make
  creation f m o x = go (not (counts_as_live t me f.lives (whose x))) (f.lives.lives o)
    where
      go : (a b : Bool)
          → Facts t me f.lives (with_lives f (
          if a then answered f.lives (reply me m kinds.CreateRefused (frame_at o 0) x (coded NotHere))
          else if b then answered f.lives (reply me m kinds.CreateRefused (frame_at o 0) x (coded Occupied))
          else made t me f.lives m o x))
      go true b = none f f [] _ refl
      go false true = none f f [] _ refl
      go false false = record {
        living = up_living f.lives o;
        still = λ s dead out. up_still f.lives o s dead;
        comes = up_comes f.lives o;
        goes = All-nil _;
      }

  -- what goes down
  module _ (l : Lives) (o : ℕ) where
    down_goes : All (IsOwn t me) (map (last_of l) (ended_slots t me l o))
    unfolding ended_slots
    down_goes =
        all_map (IsOwn t me) (last_of l) (ended_slots t me l o)
        (all_onto (λ s. IsOwn t me (last_of l s)) (filter (goes_down t me l o) (range_with_len 0 (length t.slots))) []
        (all_filter (λ s. IsOwn t me (last_of l s)) (goes_down t me l o) (λ s e. (down_parts t me l o s e).0) (range_with_len 0 (length t.slots)))
        (All-nil _))

    down_still : (s : ℕ) → (lives_ended t me o l).lives s ≡ false → list_any (is_in s) (map (last_of l) (ended_slots t me l o)) ≡ false → l.lives s ≡ false
    unfolding lives_ended ended_slots
    down_still s dead out = go (goes_down t me l o s) refl dead
      where
        go : (b : Bool) → goes_down t me l o s ≡ b → (not b && l.lives s) ≡ false → l.lives s ≡ false
        go false e h = h
        go true e h =
            let there : s < length t.slots = own_in_range t me s (down_parts t me l o s e).0 in
            let any : list_any (is_in s) (map (last_of l) (reverse (filter (goes_down t me l o) (range_with_len 0 (length t.slots))))) ≡ true =
            any_reverse (is_in s) (last_of l) (filter (goes_down t me l o) (range_with_len 0 (length t.slots)))
            ∙ any_picked (is_in s) (last_of l) (goes_down t me l o) s e (eq-eqb s s refl) (length t.slots) 0 (omega arith) (omega (arith, there)) in
            absurd (let no : true ≡ false = sym any ∙ out in cc)

  end_set : (f : Frame) (o : ℕ) (last : Option Msg) → Facts t me f.lives (end_set_ended t me f o last)
  unfolding end_set_ended frame_ended lives_ended
  end_set f o last = record {
    living = λ s h. refl;
    still = down_still f.lives o;
    comes = All-nil _;
    goes = down_goes f.lives o;
  }

  destruction : (f : Frame) (m : Msg) (o : ℕ) (x : Endpoint) → Facts t me f.lives (destroy t me f m o x)
  unfolding destroy
  destruction f m o x = go (not (counts_as_live t me f.lives (whose x)) || not (f.lives.lives o))
    where
      done : Option Msg
      done = Some (reply me m kinds.DestroyDone (frame_of (last_of f.lives o)) x (pos 0 ∷ []))

      go : (a : Bool) → Facts t me f.lives (
          if a then record { frame = f; sent = []; made = []; ended = []; last = Some (reply me m kinds.DestroyDone (frame_at o 0) x (coded NotHere)) }
          else end_set_ended t me f o done)
      go true = none f f [] _ refl
      go false = end_set f o done

  part_ended : (f : Frame) (o : ℕ) → Facts t me f.lives (part_end t me f o)
  unfolding part_end
  part_ended f o = end_set f o None

  facts_of : (f : Frame) (m : Msg) → (kind : SysKind) (a b : Endpoint) → Facts t me f.lives (frame_duty_of t me f m kind a b)
  facts_of f m kinds.Create x o = plain f _ m.payload _ (creation f m o.slot.0 x)
  facts_of f m kinds.Destroy x o = plain f _ m.payload _ (destruction f m o.slot.0 x)
  facts_of f m kinds.CreateDone a b = plain f _ m.payload _ (none f f _ None refl)
  facts_of f m kinds.CreateRefused a b = number f _ m.payload _ (λ n. none f f _ None refl)
  facts_of f m kinds.DestroyDone a b = number f _ m.payload _ (λ n. natural f n _ (λ k. none f f _ None refl))
  facts_of f m kinds.Import a b = plain f _ m.payload _ (none f _ _ None refl)
  facts_of f m kinds.ImportDone a b = plain f _ m.payload _ (none f _ _ None refl)
  facts_of f m kinds.ImportRefused a b = number f _ m.payload _ (λ n. none f _ _ None refl)
  facts_of f m kinds.ImportEnded a b = plain f _ m.payload _ (none f _ _ None refl)
  facts_of f m kinds.Deport a b = plain f _ m.payload _ (none f _ _ None refl)
  facts_of f m kinds.DeportDone a b = plain f _ m.payload _ (none f _ _ None refl)
  facts_of f m kinds.Announce a b = number f _ m.payload _ (λ n. natural f n _ (λ k. none f _ _ None refl))
  facts_of f m kinds.Register a b = none f f [] None refl
  facts_of f m kinds.Withdraw a b = none f f [] None refl
  facts_of f m kinds.Bound a b = none f f [] None refl
  facts_of f m kinds.Ended a b = none f f [] None refl
  facts_of f m kinds.NameReply a b = none f f [] None refl
  facts_of f m kinds.PartMake a b = plain f _ m.payload _ (part f a.slot.0)
  facts_of f m kinds.PartEnd a b = plain f _ m.payload _ (part_ended f a.slot.0)

  facts_from : (f : Frame) (m : Msg) → (kind : SysKind) (o : Option Endpoint) → Facts t me f.lives (frame_duty_from t me f m kind o)
  facts_from f m kind None = none f f [] None refl
  facts_from f m kind (Some a) = facts_of f m kind a m.target

  pub facts : (f : Frame) (m : Msg) → (kind : SysKind) → Facts t me f.lives (frame_duty t me f kind m)
  unfolding frame_duty
  facts f m kind = facts_from f m kind m.source
