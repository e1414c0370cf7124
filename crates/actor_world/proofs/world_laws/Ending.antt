-- What making and ending actors do to deferred lists: those of what is made were empty, and those of
-- what ends are lost.
use Rattle.std.proofs.Common.{◌≡◌, ℕ, ◌+◌, ◌==◌, ◌<◌, ◌≤◌, nat_lt, Bool, true, false, not, ◌&&◌, ◌||◌, if◌then◌else◌, cond, List, [], ◌∷◌, ◌++◌, map, filter, flat_map, reverse, length, Option, Some, None, ℤ, pos, negsuc, refl, sym, ap, ◌∙◌, eq-eqb, eqb-true, arith, ◌⊎◌, inl, inr}
use Rattle.std.specs.List.{range_with_len}
use Rattle.std.proofs.lemmas.Bool.{cases_eq, ne_eqb, or_left}
use Rattle.std.proofs.lemmas.Bool.Decides.{nat_tests}
use Rattle.room_kinds.specs.declared.message.Msg.{Msg}
use Rattle.room_kinds.specs.declared.note.Note.TheVariants as notes
use Rattle.room_kinds.specs.declared.numbers.Incarnation.{Incarnation}
use Rattle.room_kinds.specs.declared.numbers.Endpoint.{Endpoint}
use Rattle.room_kinds.specs.declared.system.SysKind.{SysKind}
use Rattle.room_kinds.specs.declared.system.SysKind.TheVariants as kinds
use Rattle.room_wiring.specs.declared.tables.Tables.{Tables}
use Rattle.actor_duties.specs.Messages.{reply, coded, NotHere, Occupied}
use Rattle.actor_duties.specs.Words.{updated, frame_at, frame_of, whose, slots_of}
use Rattle.actor_duties.specs.State.{Lives, Frame}
use Rattle.actor_duties.specs.Lives.{is_live, answered, ended_slots, counts_as_live, create, made, part_make, made_slots, last_of, comes_up, goes_down, lives_made, lives_ended}
use Rattle.actor_duties.specs.Frame.{frame_ended, end_set_ended, FrameDone, plainly, with_number, of_natural, with_lives, destroy, part_end, is_request, frame_duty, frame_duty_of, frame_duty_from}
use Rattle.actor_world.specs.Behaviour.{Behaviour}
use Rattle.actor_world.specs.Body.{Body, Doing}
use Rattle.actor_world.specs.Turns.{doing, begun, all_begun, gone, all_gone, closing, with_frame}
use Rattle.actor_world.proofs.Slots.{own_in_range}
use Rattle.actor_world.proofs.Counts.{times, times-reverse, passing, passing_hit, passing_miss}
use Rattle.actor_world.proofs.LifeSteps.{IsSound, up_parts, down_parts}
use Rattle.actor_world.proofs.world_laws.Keeping.{updated_here, updated_there, updated_same, Same, same_itself, same_two, apply_all_none}

-- whether one of these incarnations is in a slot
abbrev pub in_slot : ℕ → List Incarnation → Bool
in_slot s [] = false
in_slot s (x ∷ xs) = (s == x.slot.0) || in_slot s xs

-- these incarnations are in slots that do not live
abbrev pub AreNew : Lives → List Incarnation → Type 0
AreNew l [] = Unit {0}
AreNew l (x ∷ xs) = (l.lives x.slot.0 ≡ false) × AreNew l xs

-- what a duty of the frame service makes is in slots that did not live, what it ends stood in its slots,
-- and a slot lives no more only where that was ended
pub record Fits (l : Lives) (r : FrameDone) : Type 0 where
  pub made : AreNew l r.made
  pub slots : List ℕ
  pub ended : r.ended ≡ map (last_of l) slots
  pub lives : (s : ℕ) → r.frame.lives.lives s ≡ false → (l.lives s ≡ false) ⊎ (in_slot s r.ended ≡ true)
  -- it ends what lives, and nothing twice
  pub live : (x : Incarnation) → 1 ≤ times x r.ended → is_live l x ≡ true
  pub once : (x : Incarnation) → times x r.ended ≤ 1
  -- a slot that lives keeps its generation
  pub same : (s : ℕ) → l.lives s ≡ true → r.frame.lives.generation s ≡ l.generation s

-- a duty that makes and ends nothing, and leaves lives alone
abbrev calm : (f : Frame) (sent : List Msg) (last : Option Msg) → FrameDone
calm f sent last = record { frame = f; sent = sent; made = []; ended = []; last = last }

fits_calm : (l : Lives) (f : Frame) (sent : List Msg) (last : Option Msg) → f.lives ≡ l → Fits l (calm f sent last)
fits_calm l f sent last h = record {
  made = tt;
  slots = [];
  ended = refl;
  lives = λ s e. inl (ap (λ (z : Lives). z.lives s) (sym h) ∙ e);
  live = λ x k. absurd (omega (arith, k));
  once = λ x. omega arith;
  same = λ s e. ap (λ (z : Lives). z.generation s) h;
}

fits_plainly : (f : Frame) (b : Bool) (payload : List ℤ) (r : FrameDone) → (b ≡ true → Fits f.lives r) → Fits f.lives (plainly f b payload r)
fits_plainly f true [] r h = h refl
fits_plainly f false [] r h = fits_calm f.lives f [] None refl
fits_plainly f b (n ∷ ns) r h = fits_calm f.lives f [] None refl

fits_number : (f : Frame) (b : Bool) (payload : List ℤ) (r : ℤ → FrameDone) → ((n : ℤ) → Fits f.lives (r n)) → Fits f.lives (with_number f b payload r)
fits_number f b [] r h = fits_calm f.lives f [] None refl
fits_number f true (n ∷ []) r h = h n
fits_number f false (n ∷ []) r h = fits_calm f.lives f [] None refl
fits_number f b (n ∷ (k ∷ ns)) r h = fits_calm f.lives f [] None refl

fits_natural : (f : Frame) (n : ℤ) (r : ℕ → FrameDone) → ((n : ℕ) → Fits f.lives (r n)) → Fits f.lives (of_natural f n r)
fits_natural f (pos n) r h = h n
fits_natural f (negsuc n) r h = fits_calm f.lives f [] None refl

-- the slots that pass a test, where none that passes lives
new_passing : (l : Lives) (q : ℕ → Bool) (f : ℕ → ℕ) → ((s : ℕ) → q s ≡ true → l.lives s ≡ false) → (ss : List ℕ) → AreNew l (passing q f ss)
new_passing l q f h [] = tt
new_passing l q f h (s ∷ ss) = go (q s) refl (new_passing l q f h ss)
  where
    go : (b : Bool) → q s ≡ b → AreNew l (passing q f ss)
        → AreNew l (map (λ s. record { slot = record { 0 = s }; generation = record { 0 = f s } }) (cond b (s ∷ filter q ss) (filter q ss)))
    go true e ih = (h s e, ih)
    go false e ih = ih

lives_or : (a b : Bool) → (a || b) ≡ false → b ≡ false
lives_or true b h = absurd cc
lives_or false b h = h

fits_part : (t : Tables) (me : ℕ) (f : Frame) (o : ℕ) (sent : List Msg) (last : Option Msg)
    → Fits f.lives (with_lives f (record (part_make t me f.lives o) { sent = sent; last = last }))
unfolding part_make made_slots lives_made
fits_part t me f o sent last = record {
  made = new_passing f.lives (comes_up t me f.lives o) (λ s. if comes_up t me f.lives o s then f.lives.generation s + 1 else f.lives.generation s) (λ s w. (up_parts t me f.lives o s w).1) (slots_of t);
  slots = [];
  ended = refl;
  lives = λ s h. inl (lives_or (comes_up t me f.lives o s) (f.lives.lives s) h);
  live = λ x k. absurd (omega (arith, k));
  once = λ x. omega arith;
  same = λ s k. kept_generation s k (comes_up t me f.lives o s) refl;
}
  where
    kept_generation : (s : ℕ) → f.lives.lives s ≡ true → (w : Bool) → comes_up t me f.lives o s ≡ w
        → (if comes_up t me f.lives o s then f.lives.generation s + 1 else f.lives.generation s) ≡ f.lives.generation s
    kept_generation s k false d = rw d refl
    kept_generation s k true d = let z : f.lives.lives s ≡ false = (up_parts t me f.lives o s d).1 in absurd cc

fits_create : (t : Tables) (me : ℕ) (f : Frame) (m : Msg) (o : ℕ) (x : Endpoint) → Fits f.lives (with_lives f (create t me f.lives m o x))
unfolding create made
fits_create t me f m o x = go (not (counts_as_live t me f.lives (whose x))) (f.lives.lives o)
  where
    go : (a b : Bool)
        → Fits f.lives (with_lives f (
        if a then answered f.lives (reply me m kinds.CreateRefused (frame_at o 0) x (coded NotHere))
        else if b then answered f.lives (reply me m kinds.CreateRefused (frame_at o 0) x (coded Occupied))
        else made t me f.lives m o x))
    go true b = fits_calm f.lives f [] (Some (reply me m kinds.CreateRefused (frame_at o 0) x (coded NotHere))) refl
    go false true = fits_calm f.lives f [] (Some (reply me m kinds.CreateRefused (frame_at o 0) x (coded Occupied))) refl
    go false false = fits_part t me f o _ _

positive : (n : ℕ) → nat_lt 0 (1 + n) ≡ true
positive n = grind (arith, nat_tests)

zero_more : (n : ℕ) → 0 + n ≡ n
zero_more n = omega arith

-- to be among what stood in some slots is to be in one of them
pub in_slot_times : (l : Lives) (s : ℕ) (ss : List ℕ) → nat_lt 0 (times (last_of l s) (map (last_of l) ss)) ≡ in_slot s (map (last_of l) ss)
in_slot_times l s [] = refl
in_slot_times l s (a ∷ ss) = go (cases_eq s a) (in_slot_times l s ss)
  where
    go : (s ≡ a) ⊎ (s ≡ a → ⊥) → nat_lt 0 (times (last_of l s) (map (last_of l) ss)) ≡ in_slot s (map (last_of l) ss)
        → nat_lt 0 (times (last_of l s) (map (last_of l) (a ∷ ss))) ≡ in_slot s (map (last_of l) (a ∷ ss))
    go (inl e) ih = rw (eq-eqb s a e, eq-eqb a s (sym e), eq-eqb (l.generation a) (l.generation s) (ap l.generation (sym e))) (positive (times (last_of l s) (map (last_of l) ss)))
    go (inr n) ih = rw (ne_eqb s a n, ne_eqb a s (λ e. n (sym e))) (ap (nat_lt 0) (zero_more (times (last_of l s) (map (last_of l) ss))) ∙ ih)

fits_end : (t : Tables) (me : ℕ) (f : Frame) (o : ℕ) (last : Option Msg) → Fits f.lives (end_set_ended t me f o last)
unfolding end_set_ended frame_ended lives_ended ended_slots
fits_end t me f o last = record {
  made = tt;
  slots = ended_slots t me f.lives o;
  ended = refl;
  lives = λ s h. pick s h (goes_down t me f.lives o s) refl;
  live = λ x k. ended_live x k (is_live f.lives x) refl (goes_down t me f.lives o x.slot.0) refl;
  once = λ x. ended_once x (is_live f.lives x) refl (goes_down t me f.lives o x.slot.0) refl;
  same = λ s k. refl;
}
  where
    falls : ℕ → Bool
    falls = goes_down t me f.lives o

    -- how often something is ended: once, if it goes down
    ended_times : (x : Incarnation) (b : Bool) → is_live f.lives x ≡ b → (w : Bool) → falls x.slot.0 ≡ w
        → times x (map (last_of f.lives) (reverse (filter falls (range_with_len 0 (length t.slots))))) ≡ (if w && b then 1 else 0)
    ended_times x b e true d =
        let parts = down_parts t me f.lives o x.slot.0 d in
        let there : x.slot.0 < length t.slots = own_in_range t me x.slot.0 parts.0 in
        let r = times-reverse x (last_of f.lives) (filter falls (range_with_len 0 (length t.slots))) in
        let k = passing_hit falls f.lives.generation x 0 (length t.slots) (omega arith) (omega arith) in
        let q = ap (λ c. c && (f.lives.generation x.slot.0 == x.generation.0)) (sym parts.1) ∙ e in
        r ∙ k ∙ ap (λ c. if c then 1 else 0) (ap (λ c. c && (f.lives.generation x.slot.0 == x.generation.0)) d ∙ q)
    ended_times x b e false d =
        let r = times-reverse x (last_of f.lives) (filter falls (range_with_len 0 (length t.slots))) in
        r ∙ passing_miss falls f.lives.generation x d (range_with_len 0 (length t.slots))

    ended_live : (x : Incarnation) → 1 ≤ times x (map (last_of f.lives) (reverse (filter falls (range_with_len 0 (length t.slots)))))
        → (b : Bool) → is_live f.lives x ≡ b → (w : Bool) → falls x.slot.0 ≡ w → is_live f.lives x ≡ true
    ended_live x k true e w d = e
    ended_live x k false e true d = let n = ended_times x false e true d in absurd (omega (arith, n, k))
    ended_live x k false e false d = let n = ended_times x false e false d in absurd (omega (arith, n, k))

    ended_once : (x : Incarnation) (b : Bool) → is_live f.lives x ≡ b → (w : Bool) → falls x.slot.0 ≡ w
        → times x (map (last_of f.lives) (reverse (filter falls (range_with_len 0 (length t.slots))))) ≤ 1
    ended_once x true e true d = let n = ended_times x true e true d in omega (arith, n)
    ended_once x true e false d = let n = ended_times x true e false d in omega (arith, n)
    ended_once x false e true d = let n = ended_times x false e true d in omega (arith, n)
    ended_once x false e false d = let n = ended_times x false e false d in omega (arith, n)

    pick : (s : ℕ) → (not (falls s) && f.lives.lives s) ≡ false → (w : Bool) → falls s ≡ w
        → (f.lives.lives s ≡ false) ⊎ (in_slot s (map (last_of f.lives) (ended_slots t me f.lives o)) ≡ true)
    pick s h false d = inl (ap (λ w. not w && f.lives.lives s) (sym d) ∙ h)
    pick s h true d =
        let parts = down_parts t me f.lives o s d in
        let there : s < length t.slots = own_in_range t me s parts.0 in
        let r = times-reverse (last_of f.lives s) (last_of f.lives) (filter falls (range_with_len 0 (length t.slots))) in
        let k = passing_hit falls f.lives.generation (last_of f.lives s) 0 (length t.slots) (omega arith) (omega arith) in
        let q : (if (falls s && (f.lives.generation s == f.lives.generation s)) then 1 else 0) ≡ 1 =
        rw (d, eq-eqb (f.lives.generation s) (f.lives.generation s) refl) refl in
        let n : times (last_of f.lives s) (map (last_of f.lives) (ended_slots t me f.lives o)) ≡ 1 = r ∙ k ∙ q in
        inr (sym (in_slot_times f.lives s (ended_slots t me f.lives o)) ∙ ap (nat_lt 0) n)

fits_destroy : (t : Tables) (me : ℕ) (f : Frame) (m : Msg) (o : ℕ) (x : Endpoint) → Fits f.lives (destroy t me f m o x)
unfolding destroy
fits_destroy t me f m o x = go (not (counts_as_live t me f.lives (whose x)) || not (f.lives.lives o))
  where
    done : Option Msg
    done = Some (reply me m kinds.DestroyDone (frame_of (last_of f.lives o)) x (pos 0 ∷ []))

    go : (a : Bool) → Fits f.lives (
        if a then record { frame = f; sent = []; made = []; ended = []; last = Some (reply me m kinds.DestroyDone (frame_at o 0) x (coded NotHere)) }
        else end_set_ended t me f o done)
    go true = fits_calm f.lives f [] (Some (reply me m kinds.DestroyDone (frame_at o 0) x (coded NotHere))) refl
    go false = fits_end t me f o done

fits_part_end : (t : Tables) (me : ℕ) (f : Frame) (o : ℕ) → Fits f.lives (part_end t me f o)
unfolding part_end
fits_part_end t me f o = fits_end t me f o None

fits_of : (t : Tables) (me : ℕ) (f : Frame) (m : Msg) → IsSound t me f.lives → (kind : SysKind) (a b : Endpoint) → Fits f.lives (frame_duty_of t me f m kind a b)
fits_of t me f m sound kinds.Create x o = fits_plainly f (is_request t me x o) m.payload _ (λ h. fits_create t me f m o.slot.0 x)
fits_of t me f m sound kinds.Destroy x o = fits_plainly f (is_request t me x o) m.payload _ (λ h. fits_destroy t me f m o.slot.0 x)
fits_of t me f m sound kinds.CreateDone a b = fits_plainly f _ m.payload _ (λ h. fits_calm f.lives _ _ None refl)
fits_of t me f m sound kinds.CreateRefused a b = fits_number f _ m.payload _ (λ n. fits_calm f.lives _ _ None refl)
fits_of t me f m sound kinds.DestroyDone a b = fits_number f _ m.payload _ (λ n. fits_natural f n _ (λ k. fits_calm f.lives _ _ None refl))
fits_of t me f m sound kinds.Import a b = fits_plainly f _ m.payload _ (λ h. fits_calm f.lives _ _ None refl)
fits_of t me f m sound kinds.ImportDone a b = fits_plainly f _ m.payload _ (λ h. fits_calm f.lives _ _ None refl)
fits_of t me f m sound kinds.ImportRefused a b = fits_number f _ m.payload _ (λ n. fits_calm f.lives _ _ None refl)
fits_of t me f m sound kinds.ImportEnded a b = fits_plainly f _ m.payload _ (λ h. fits_calm f.lives _ _ None refl)
fits_of t me f m sound kinds.Deport a b = fits_plainly f _ m.payload _ (λ h. fits_calm f.lives _ _ None refl)
fits_of t me f m sound kinds.DeportDone a b = fits_plainly f _ m.payload _ (λ h. fits_calm f.lives _ _ None refl)
fits_of t me f m sound kinds.Announce a b = fits_number f _ m.payload _ (λ n. fits_natural f n _ (λ k. fits_calm f.lives _ _ None refl))
fits_of t me f m sound kinds.Register a b = fits_calm f.lives f [] None refl
fits_of t me f m sound kinds.Withdraw a b = fits_calm f.lives f [] None refl
fits_of t me f m sound kinds.Bound a b = fits_calm f.lives f [] None refl
fits_of t me f m sound kinds.Ended a b = fits_calm f.lives f [] None refl
fits_of t me f m sound kinds.NameReply a b = fits_calm f.lives f [] None refl
fits_of t me f m sound kinds.PartMake a b = fits_plainly f _ m.payload _ (λ h. fits_part t me f a.slot.0 _ _)
fits_of t me f m sound kinds.PartEnd a b = fits_plainly f _ m.payload _ (λ h. fits_part_end t me f a.slot.0)

fits_from : (t : Tables) (me : ℕ) (f : Frame) (m : Msg) → IsSound t me f.lives → (kind : SysKind) (o : Option Endpoint) → Fits f.lives (frame_duty_from t me f m kind o)
fits_from t me f m sound kind None = fits_calm f.lives f [] None refl
fits_from t me f m sound kind (Some a) = fits_of t me f m sound kind a m.target

pub fits : (t : Tables) (me : ℕ) (f : Frame) (m : Msg) → IsSound t me f.lives → (kind : SysKind) → Fits f.lives (frame_duty t me f kind m)
unfolding frame_duty
fits t me f m sound kind = fits_from t me f m sound kind m.source

-- the deferred lists of these incarnations' slots are empty
abbrev pub NoneKept : {M : Type 0} → Body M → List Incarnation → Type 0
NoneKept b [] = Unit {0}
NoneKept b (x ∷ xs) = (b.deferred x.slot.0 ≡ []) × NoneKept b xs

none_kept_same : {M : Type 0} (b d : Body M) → ((s : ℕ) → d.deferred s ≡ b.deferred s) → (xs : List Incarnation) → NoneKept b xs → NoneKept d xs
none_kept_same b d h [] k = tt
none_kept_same b d h (x ∷ xs) k = (h x.slot.0 ∙ k.0, none_kept_same b d h xs k.1)

pub none_kept_new : {M : Type 0} (b : Body M) (l : Lives) → ((s : ℕ) → l.lives s ≡ false → b.deferred s ≡ []) → (xs : List Incarnation) → AreNew l xs → NoneKept b xs
none_kept_new b l h [] k = tt
none_kept_new b l h (x ∷ xs) k = (h x.slot.0 k.0, none_kept_new b l h xs k.1)

-- the deferred lists of what is gone are empty, and the others are as they were
pub record Goes {M : Type 0} (d e : Doing M) (xs : List Incarnation) : Type 0 where
  pub stays : (s : ℕ) → in_slot s xs ≡ false → e.body.deferred s ≡ d.body.deferred s
  pub goes : (s : ℕ) → in_slot s xs ≡ true → e.body.deferred s ≡ []
  pub back : e.back ≡ d.back

module _ {M : Type 0} (model : Behaviour M) (t : Tables) (me : ℕ) where
  begun_same : (x : Incarnation) (d : Doing M) → d.body.deferred x.slot.0 ≡ [] → Same d (begun model t me x d)
  begun_same x d h =
      let new = model.begin x in
      let before : Doing M = record d {
        body = record d.body { machines = updated d.body.machines x.slot.0 (Some new.machine); deferred = updated d.body.deferred x.slot.0 [] };
        notes = d.notes ++ (notes.Up x (model.state new.machine) ∷ new.notes);
        kept = false;
      } in
      let first : Same d before = record { deferred = λ s. updated_same d.body.deferred x.slot.0 [] (sym h) s; back = refl } in
      same_two d before (begun model t me x d) first (apply_all_none t me x new.commands before (updated_here d.body.deferred x.slot.0 [] x.slot.0 refl))

  pub all_begun_same : (xs : List Incarnation) (d : Doing M) → NoneKept d.body xs → Same d (all_begun model t me xs d)
  all_begun_same [] d h = same_itself d
  all_begun_same (x ∷ xs) d h =
      let one : Same d (begun model t me x d) = begun_same x d h.0 in
      same_two d (begun model t me x d) (all_begun model t me xs (begun model t me x d)) one
      (all_begun_same xs (begun model t me x d) (none_kept_same d.body (begun model t me x d).body one.deferred xs h.1))

  all_gone_goes : (xs : List Incarnation) (d : Doing M) → Goes d (all_gone t me xs d) xs
  all_gone_goes [] d = record { stays = λ s h. refl; goes = λ s h. absurd cc; back = refl }
  all_gone_goes (x ∷ xs) d =
      let rest : Goes (gone t me x d) (all_gone t me xs (gone t me x d)) xs = all_gone_goes xs (gone t me x d) in
      record {
        stays = λ s h. rest.stays s (lives_or (s == x.slot.0) (in_slot s xs) h) ∙ updated_there d.body.deferred x.slot.0 [] s (λ e. apart s h e);
        goes = λ s h. pick s h (in_slot s xs) refl rest;
        back = rest.back;
      }
    where
      apart : (s : ℕ) → ((s == x.slot.0) || in_slot s xs) ≡ false → s ≡ x.slot.0 → ⊥
      apart s h e = let k : ((s == x.slot.0) || in_slot s xs) ≡ true = or_left (s == x.slot.0) (in_slot s xs) (eq-eqb s x.slot.0 e) in absurd cc

      pick : (s : ℕ) → ((s == x.slot.0) || in_slot s xs) ≡ true → (b : Bool) → in_slot s xs ≡ b
          → Goes (gone t me x d) (all_gone t me xs (gone t me x d)) xs → (all_gone t me xs (gone t me x d)).body.deferred s ≡ []
      pick s h true e rest = rest.goes s e
      pick s h false e rest = rest.stays s e ∙ updated_here d.body.deferred x.slot.0 [] s (eqb-true s x.slot.0 (first (s == x.slot.0) (in_slot s xs) e h))
        where
          first : (a b : Bool) → b ≡ false → (a || b) ≡ true → a ≡ true
          first true b e h = refl
          first false b e h = absurd cc

  closing_same : (d : Doing M) (o : Option Msg) → Same d (closing d o)
  closing_same d None = same_itself d
  closing_same d (Some m) = record { deferred = λ s. refl; back = refl }

  -- a duty of the frame service empties the deferred lists of what it ends alone, and nothing comes back
  pub frame_goes : (b : Body M) (r : FrameDone) → ((s : ℕ) → b.frame.lives.lives s ≡ false → b.deferred s ≡ []) → Fits b.frame.lives r
      → Goes (doing b) (with_frame model t me b r) r.ended
  frame_goes b r empty fit =
      let first : Doing M = record (doing b) { body = record b { frame = r.frame }; sent = r.sent } in
      let second : Doing M = all_begun model t me r.made first in
      let third : Doing M = all_gone t me r.ended second in
      let h : Same first second = all_begun_same r.made first (none_kept_new first.body b.frame.lives empty r.made fit.made) in
      let k : Goes second third r.ended = all_gone_goes r.ended second in
      let l : Same third (closing third r.last) = closing_same third r.last in
      record {
        stays = λ s e. l.deferred s ∙ k.stays s e ∙ h.deferred s;
        goes = λ s e. l.deferred s ∙ k.goes s e;
        back = l.back ∙ k.back ∙ h.back;
      }
