-- What a duty of the frame service tells is what it does to lives, and what it does to parts of others is
-- what it heard.
use Rattle.std.proofs.Common.{◌≡◌, ℕ, ◌+◌, ◌<◌, ◌≤◌, ◌==◌, ◌&&◌, ◌||◌, Bool, true, false, not, if◌then◌else◌, List, [], ◌∷◌, ◌++◌, map, filter, flat_map, reverse, length, Option, Some, None, ℤ, pos, refl, sym, ap, ◌∙◌, subst, eqb-true, eq-eqb, append_assoc, arith}
use Rattle.std.specs.List.{AllByRecursion}
use Rattle.std.specs.Option.{option_map_or}
use Rattle.std.proofs.lemmas.Bool.{ne_eqb, eqb-false}
use Rattle.room_kinds.specs.declared.message.Msg.{Msg}
use Rattle.room_kinds.specs.declared.numbers.Incarnation.{Incarnation}
use Rattle.room_kinds.specs.declared.system.SysKind.TheVariants as kinds
use Rattle.room_wiring.specs.declared.tables.Tables.{Tables}
use Rattle.room_wiring.specs.Places.{is_told}
use Rattle.actor_duties.specs.Words.{slots_of, incarnation, frame_of, whose, is_own, owner_of, is_optional}
use Rattle.actor_duties.specs.State.{Lives, Frame}
use Rattle.actor_duties.specs.Lives.{standing, announce_to, lives_made, lives_ended, last_of, announces, parts_told, told_controllers, made_slots, ended_slots, goes_down, comes_up, is_made_with, part_told_to, part_controllers}
use Rattle.actor_duties.specs.Imports.{imported_parts, given_back, ended_plugs}
use Rattle.actor_duties.specs.Frame.{end_messages, part_ends, FrameDone}
use Rattle.actor_world.proofs.Slots.{own_in_range}
use Rattle.actor_world.proofs.LifeSteps.{IsSound, up_parts, down_parts}
use Rattle.service_messages.proofs.slot_runs.RunLemmas.{false_from, not_true_false}
use Rattle.law_agreement.specs.Announced.{told_by, heard}
use Rattle.law_agreement.specs.Bodies.{part_heard}
use Rattle.law_agreement.proofs.Lists.{all_append, all_passed, all_reverse, all_flat, all_map, all_unit, flat_after_map, has, has_filter, has_range, has_reverse}
use Rattle.law_agreement.specs.Senders.{about}
use Rattle.law_agreement.proofs.Plain.{AllPlain, plain_append, plain_ended_plugs, plain_given_back}
use Rattle.law_agreement.proofs.Carrying.{IsPlainLast}
use Rattle.law_agreement.proofs.Hearing.{and_true, IsMute, AllMute, after, after_append, after_mute, slots_after, heard_plain, announces_after, announces_mute, parts_unheard, part_plain, announces_unheard, parts_mute, HasOther, makes_after, ends_after}
use Rattle.law_agreement.proofs.Alternating.{often_reverse, often_filter, often_range, IsOff, AllOff, all_plain_off, announces_off, parts_off, AlternateTo, to_off, off_append, blocks_alternate, makes_alternate, ends_alternate}
use Rattle.law_agreement.proofs.Below.{made_itself, made_once}
use Rattle.law_agreement.proofs.Living.{Stepped, made_lives, made_stays}
use Rattle.actor_world.proofs.TrueTurns.{own_owner}

-- what a message tells of is a slot of this controller
abbrev pub IsOwned : Tables → ℕ → Msg → Type 0
IsOwned t a m = (x : Incarnation) → about m ≡ Some x → owner_of t x.slot.0 ≡ a

abbrev pub AllOwned : Tables → ℕ → List Msg → Type 0
AllOwned t a ms = AllByRecursion (IsOwned t a) ms

pub plain_owned : (t : Tables) (a : ℕ) (ms : List Msg) → AllPlain ms → AllOwned t a ms
plain_owned t a [] h = tt
plain_owned t a (m ∷ ms) h = let e = h.0 in ((λ x k. absurd cc), plain_owned t a ms h.1)

-- a slot has one owner
pub other_owner : (t : Tables) (me d s : ℕ) → is_own t me s ≡ true → (d == me) ≡ false → is_own t d s ≡ false
other_owner t me d s own other =
    false_from (is_own t d s) (λ h. eqb-false d me other (sym (own_owner t d s h) ∙ own_owner t me s own))

-- at each controller d that is told of an own slot s: what is announced to it changes what stood in the
-- slot to what stands
abbrev pub Announces : Tables → ℕ → Lives → Lives → List Msg → Type 0
Announces t me l next ms =
    (s d : ℕ) → is_own t me s ≡ true → d < length t.controllers → is_told t s d ≡ true
    → after (heard t d s) d ms (standing l s) ≡ standing next s

-- at each other controller d that has a part of an own optional slot o: what it is told changes whether the
-- slot lived to whether it lives
abbrev pub TellsParts : Tables → ℕ → Lives → Lives → List Msg → Type 0
TellsParts t me l next ms =
    (o d : ℕ) → is_own t me o ≡ true → HasOther t d o me → after (part_heard t d o) d ms (l.lives o) ≡ next.lives o

pub announces_plain : (t : Tables) (me : ℕ) (l : Lives) (ms : List Msg) → AllPlain ms → Announces t me l l ms
announces_plain t me l ms h s d own below told = after_mute (heard t d s) d ms (standing l s) (heard_plain t d s ms h)

pub announces_more : (t : Tables) (me : ℕ) (l next : Lives) (a b : List Msg) → Announces t me l next a → ((d s : ℕ) → AllMute (heard t d s) b) → Announces t me l next (a ++ b)
announces_more t me l next a b h k s d own below told =
    after_append (heard t d s) d a b (standing l s) ∙ after_mute (heard t d s) d b (after (heard t d s) d a (standing l s)) (k d s) ∙ h s d own below told

pub parts_plain : (t : Tables) (me : ℕ) (l : Lives) (ms : List Msg) → AllPlain ms → TellsParts t me l l ms
parts_plain t me l ms h o d own other = after_mute (part_heard t d o) d ms (l.lives o) (part_plain t d o ms h)

pub parts_more : (t : Tables) (me : ℕ) (l next : Lives) (a b : List Msg) → TellsParts t me l next a → AllPlain b → TellsParts t me l next (a ++ b)
parts_more t me l next a b h k o d own other =
    after_append (part_heard t d o) d a b (l.lives o) ∙ after_mute (part_heard t d o) d b (after (part_heard t d o) d a (l.lives o)) (part_plain t d o b k) ∙ h o d own other

-- and what it is told of the slot's parts alternates
abbrev pub AlternatesParts : Tables → ℕ → Lives → List Msg → Type 0
AlternatesParts t me l ms = (o d : ℕ) → is_own t me o ≡ true → HasOther t d o me → AlternateTo t d o (l.lives o) ms

-- a duty of the frame service tells what it does
pub record Tells (t : Tables) (me : ℕ) (l : Lives) (r : FrameDone) : Type 0 where
  pub last : IsPlainLast r.last
  pub owned : AllOwned t me r.sent
  pub announced : Announces t me l r.frame.lives r.sent
  pub parts : IsSound t me l → TellsParts t me l r.frame.lives r.sent
  pub alternate : IsSound t me l → AlternatesParts t me l r.sent
  pub stepped : Stepped t me l r.frame.lives

module _ (t : Tables) (me : ℕ) where
  announces_owned : (x : Incarnation) (up : ℤ) → is_own t me x.slot.0 ≡ true → AllOwned t me (announces t me x up)
  unfolding announces
  announces_owned x up h =
      all_map (IsOwned t me) (announce_to me x up)
      (λ d y e. let same : whose (frame_of x) ≡ y = cc in subst (λ (z : Incarnation). owner_of t z.slot.0 ≡ me) same (own_owner t me x.slot.0 h)) (told_controllers t x.slot.0)

  pub parts_owned : (x : Incarnation) → is_own t me x.slot.0 ≡ true → AllOwned t me (parts_told t me kinds.PartMake x) × AllOwned t me (parts_told t me kinds.PartEnd x)
  unfolding parts_told
  parts_owned x h = (
    all_map (IsOwned t me) (part_told_to me kinds.PartMake x) (λ d y e. owner y cc) (part_controllers t me x.slot.0),
    all_map (IsOwned t me) (part_told_to me kinds.PartEnd x) (λ d y e. owner y cc) (part_controllers t me x.slot.0),
  )
    where
      owner : (y : Incarnation) → whose (frame_of x) ≡ y → owner_of t y.slot.0 ≡ me
      owner y same = subst (λ (z : Incarnation). owner_of t z.slot.0 ≡ me) same (own_owner t me x.slot.0 h)

  has_slot : (p : ℕ → Bool) (s : ℕ) → is_own t me s ≡ true → has s (filter p (slots_of t)) ≡ p s
  has_slot p s own =
      has_filter p s (slots_of t)
      ∙ ap (λ (b : Bool). p s && b) (let there = own_in_range t me s own in has_range s 0 (length t.slots) (omega arith) (omega arith))
      ∙ and_true (p s)

  -- what an Announce of what stands in slot s tells of it
  tells_up : (s g n : ℕ) → told_by s (incarnation s g) 1 n ≡ g
  tells_up s g n = rw (eq-eqb s s refl) refl

  tells_down : (s g n : ℕ) → told_by s (incarnation s g) 0 n ≡ 0
  tells_down s g n = rw (eq-eqb s s refl) refl

  -- what comes up is announced
  pub made_announced : (l : Lives) (o : ℕ)
      → Announces t me l (lives_made t me o l) (flat_map (λ (i : Incarnation). announces t me i (pos 1)) (map (last_of (lives_made t me o l)) (made_slots t me l o)))
  unfolding made_slots lives_made
  made_announced l o s d own below told =
      ap (λ (z : List Msg). after (heard t d s) d z (standing l s)) (flat_after_map (λ (i : Incarnation). announces t me i (pos 1)) (last_of (lives_made t me o l)) (filter (comes_up t me l o) (slots_of t)))
      ∙ slots_after (heard t d s) d s (λ k. announces t me (last_of (lives_made t me o l) k) (pos 1)) ((lives_made t me o l).generation s)
      (λ k e. announces_mute t d s me (last_of (lives_made t me o l) k) (pos 1) e)
      (filter (comes_up t me l o) (slots_of t))
      (λ h n. announces_after t d s me (last_of (lives_made t me o l) s) 1 ((lives_made t me o l).generation s) below told (λ n. tells_up s ((lives_made t me o l).generation s) n) n)
      (standing l s)
      ∙ ap (λ (b : Bool). if b then (lives_made t me o l).generation s else standing l s) (has_slot (comes_up t me l o) s own)
      ∙ stands (comes_up t me l o s) (l.lives s)
    where
      stands : (b a : Bool)
          → (if b then (if b then l.generation s + 1 else l.generation s) else if a then l.generation s else 0)
          ≡ (if b || a then (if b then l.generation s + 1 else l.generation s) else 0)
      stands true a = refl
      stands false a = refl

  pub made_owned : (l : Lives) (o : ℕ)
      → AllOwned t me (flat_map (λ (i : Incarnation). announces t me i (pos 1)) (map (last_of (lives_made t me o l)) (made_slots t me l o)))
  unfolding made_slots
  made_owned l o =
      subst (AllOwned t me) (sym (flat_after_map (λ (i : Incarnation). announces t me i (pos 1)) (last_of (lives_made t me o l)) (filter (comes_up t me l o) (slots_of t))))
      (all_flat (IsOwned t me) (λ k. is_own t me k ≡ true) (λ k. announces t me (last_of (lives_made t me o l) k) (pos 1))
      (λ k e. announces_owned (last_of (lives_made t me o l) k) (pos 1) e) (filter (comes_up t me l o) (slots_of t))
      (all_passed (λ k. is_own t me k ≡ true) (comes_up t me l o) (λ k e. (up_parts t me l o k e).0) (slots_of t)))

  -- the Announces of what comes up say nothing of parts
  made_unheard : (d p : ℕ) (is : List Incarnation) → AllMute (part_heard t d p) (flat_map (λ (i : Incarnation). announces t me i (pos 1)) is)
  made_unheard d p [] = tt
  made_unheard d p (i ∷ is) = all_append (IsMute (part_heard t d p)) (announces t me i (pos 1)) _ (announces_unheard t d p me i (pos 1)) (made_unheard d p is)

  given_back_plain : (n : ℕ) (f : Frame) (is : List ℕ) → AllPlain (flat_map (λ i. given_back t me (incarnation i n) (f.places i)) is)
  given_back_plain n f [] = tt
  given_back_plain n f (i ∷ is) = plain_append _ _ (plain_given_back t me (incarnation i n) (f.places i)) (given_back_plain n f is)

  -- the end of an actor is announced last
  end_parts : (f : Frame) (k : ℕ) → (before : List Msg) × AllPlain before × (end_messages t me f k ≡ before ++ announces t me (last_of f.lives k) (pos 0))
  unfolding end_messages
  end_parts f k =
      let x : Incarnation = last_of f.lives k in
      let plugs : List Msg = ended_plugs t me x (f.plugs k) in
      let back : List Msg = flat_map (λ i. given_back t me (incarnation i x.generation.0) (f.places i)) (imported_parts t k) in (
        plugs ++ back,
        plain_append plugs back (plain_ended_plugs t me x (f.plugs k)) (given_back_plain x.generation.0 f (imported_parts t k)),
        sym (append_assoc plugs back (announces t me x (pos 0))),
      )

  end_owned : (f : Frame) (k : ℕ) → is_own t me k ≡ true → AllOwned t me (end_messages t me f k)
  end_owned f k own =
      let e = end_parts f k in
      subst (AllOwned t me) (sym e.2)
      (all_append (IsOwned t me) e.0 (announces t me (last_of f.lives k) (pos 0)) (plain_owned t me e.0 e.1) (announces_owned (last_of f.lives k) (pos 0) own))

  end_mute : (f : Frame) (d s k : ℕ) → (k == s) ≡ false → AllMute (heard t d s) (end_messages t me f k)
  end_mute f d s k h =
      let e = end_parts f k in
      subst (AllMute (heard t d s)) (sym e.2)
      (all_append (IsMute (heard t d s)) e.0 (announces t me (last_of f.lives k) (pos 0)) (heard_plain t d s e.0 e.1) (announces_mute t d s me (last_of f.lives k) (pos 0) h))

  end_unheard : (f : Frame) (d o k : ℕ) → AllMute (part_heard t d o) (end_messages t me f k)
  end_unheard f d o k =
      let e = end_parts f k in
      subst (AllMute (part_heard t d o)) (sym e.2)
      (all_append (IsMute (part_heard t d o)) e.0 (announces t me (last_of f.lives k) (pos 0)) (part_plain t d o e.0 e.1) (announces_unheard t d o me (last_of f.lives k) (pos 0)))

  end_after : (f : Frame) (s d : ℕ) → d < length t.controllers → is_told t s d ≡ true → (n : ℕ) → after (heard t d s) d (end_messages t me f s) n ≡ 0
  end_after f s d below told n =
      let e = end_parts f s in
      ap (λ (z : List Msg). after (heard t d s) d z n) e.2
      ∙ after_append (heard t d s) d e.0 (announces t me (last_of f.lives s) (pos 0)) n
      ∙ announces_after t d s me (last_of f.lives s) 0 0 below told (λ n. tells_down s (f.lives.generation s) n) (after (heard t d s) d e.0 n)

  -- what goes down is announced
  pub ended_announced : (f : Frame) (o : ℕ) → Announces t me f.lives (lives_ended t me o f.lives) (flat_map (end_messages t me f) (ended_slots t me f.lives o))
  unfolding ended_slots lives_ended
  ended_announced f o s d own below told =
      slots_after (heard t d s) d s (end_messages t me f) 0 (λ k e. end_mute f d s k e)
      (reverse (filter (goes_down t me f.lives o) (slots_of t))) (λ h. end_after f s d below told) (standing f.lives s)
      ∙ ap (λ (b : Bool). if b then 0 else standing f.lives s) (has_reverse s (filter (goes_down t me f.lives o) (slots_of t)) ∙ has_slot (goes_down t me f.lives o) s own)
      ∙ stands (goes_down t me f.lives o s) (f.lives.lives s)
    where
      stands : (b a : Bool) → (if b then 0 else if a then f.lives.generation s else 0) ≡ (if not b && a then f.lives.generation s else 0)
      stands true a = refl
      stands false a = refl

  ended_own : (l : Lives) (o : ℕ) → AllByRecursion (λ k. is_own t me k ≡ true) (ended_slots t me l o)
  unfolding ended_slots
  ended_own l o =
      all_reverse (λ k. is_own t me k ≡ true) (filter (goes_down t me l o) (slots_of t))
      (all_passed (λ k. is_own t me k ≡ true) (goes_down t me l o) (λ k e. (down_parts t me l o k e).0) (slots_of t))

  pub ended_owned : (f : Frame) (o : ℕ) → AllOwned t me (flat_map (end_messages t me f) (ended_slots t me f.lives o))
  ended_owned f o =
      all_flat (IsOwned t me) (λ k. is_own t me k ≡ true) (end_messages t me f) (λ k e. end_owned f k e) (ended_slots t me f.lives o) (ended_own f.lives o)

  -- what the end of an actor tells the other parts
  part_ends_mute : {X : Type 0} (hear : Msg → X → X) (f : Frame) (k : ℕ) → AllMute hear (parts_told t me kinds.PartEnd (last_of f.lives k)) → AllMute hear (part_ends t me f k)
  unfolding part_ends
  part_ends_mute hear f k h = go (is_optional t k)
    where
      go : (b : Bool) → AllMute hear (if b then parts_told t me kinds.PartEnd (last_of f.lives k) else [])
      go true = h
      go false = tt

  part_ends_owned : (f : Frame) (k : ℕ) → is_own t me k ≡ true → AllOwned t me (part_ends t me f k)
  unfolding part_ends
  part_ends_owned f k own = go (is_optional t k)
    where
      go : (b : Bool) → AllOwned t me (if b then parts_told t me kinds.PartEnd (last_of f.lives k) else [])
      go true = (parts_owned (last_of f.lives k) own).1
      go false = tt

  part_ends_after : (f : Frame) (d o : ℕ) → HasOther t d o me → (f.lives.generation o == 0) ≡ false → (b : Bool) → after (part_heard t d o) d (part_ends t me f o) b ≡ false
  unfolding part_ends
  part_ends_after f d o other some b =
      ap (λ (z : Bool). after (part_heard t d o) d (if z then parts_told t me kinds.PartEnd (last_of f.lives o) else []) b) other.optional
      ∙ ends_after t d o me (last_of f.lives o) other refl some b

  -- a slot that goes down had a generation
  down_some : (l : Lives) (o s : ℕ) → IsSound t me l → goes_down t me l o s ≡ true → (l.generation s == 0) ≡ false
  down_some l o s sound h =
      let created : 1 ≤ l.generation s = sound.created s (down_parts t me l o s h).1 in ne_eqb (l.generation s) 0 (λ e. omega arith)

  pub ended_parts : (f : Frame) (p : ℕ) → IsSound t me f.lives
      → TellsParts t me f.lives (lives_ended t me p f.lives) (flat_map (end_messages t me f) (ended_slots t me f.lives p) ++ flat_map (part_ends t me f) (ended_slots t me f.lives p))
  unfolding ended_slots lives_ended
  ended_parts f p sound o d own other =
      let down : List ℕ = reverse (filter (goes_down t me f.lives p) (slots_of t)) in
      let there : has o down ≡ goes_down t me f.lives p o = has_reverse o (filter (goes_down t me f.lives p) (slots_of t)) ∙ has_slot (goes_down t me f.lives p) o own in
      let unheard : AllMute (part_heard t d o) (flat_map (end_messages t me f) down) =
      all_flat (IsMute (part_heard t d o)) (λ k. Unit {0}) (end_messages t me f) (λ k e. end_unheard f d o k) down (all_unit down) in
      after_append (part_heard t d o) d (flat_map (end_messages t me f) down) (flat_map (part_ends t me f) down) (f.lives.lives o)
      ∙ ap (after (part_heard t d o) d (flat_map (part_ends t me f) down)) (after_mute (part_heard t d o) d (flat_map (end_messages t me f) down) (f.lives.lives o) unheard)
      ∙ slots_after (part_heard t d o) d o (part_ends t me f) false
      (λ k e. part_ends_mute (part_heard t d o) f k (parts_mute t d o me (last_of f.lives k) e).1)
      down (λ h. part_ends_after f d o other (down_some f.lives p o sound (sym there ∙ h))) (f.lives.lives o)
      ∙ ap (λ (b : Bool). if b then false else f.lives.lives o) there
      ∙ stands (goes_down t me f.lives p o) (f.lives.lives o)
    where
      stands : (b a : Bool) → (if b then false else a) ≡ (not b && a)
      stands true a = refl
      stands false a = refl

  pub ended_parts_owned : (f : Frame) (p : ℕ) → AllOwned t me (flat_map (part_ends t me f) (ended_slots t me f.lives p))
  ended_parts_owned f p =
      all_flat (IsOwned t me) (λ k. is_own t me k ≡ true) (part_ends t me f) (λ k e. part_ends_owned f k e) (ended_slots t me f.lives p) (ended_own f.lives p)

  pub ended_parts_unheard : (f : Frame) (d s : ℕ) (ks : List ℕ) → AllMute (heard t d s) (flat_map (part_ends t me f) ks)
  ended_parts_unheard f d s ks =
      all_flat (IsMute (heard t d s)) (λ k. Unit {0}) (part_ends t me f) (λ k e. part_ends_mute (heard t d s) f k (parts_unheard t d s me (last_of f.lives k)).1) ks (all_unit ks)

  -- the first generation of what comes up isn't 0
  made_some : (l : Lives) (o : ℕ) → is_own t me o ≡ true → l.lives o ≡ false → ((lives_made t me o l).generation o == 0) ≡ false
  unfolding lives_made comes_up
  made_some l o own dead = rw (made_itself t o, own, dead) (ne_eqb (l.generation o + 1) 0 (λ e. omega arith))

  -- what is made of its own optional slot is told to the other parts
  pub made_parts : (l : Lives) (p : ℕ) → is_optional t p ≡ true → is_own t me p ≡ true → l.lives p ≡ false
      → TellsParts t me l (lives_made t me p l) (flat_map (λ (i : Incarnation). announces t me i (pos 1)) (map (last_of (lives_made t me p l)) (made_slots t me l p)) ++ parts_told t me kinds.PartMake (last_of (lives_made t me p l) p))
  made_parts l p opt own dead o d mine other =
      let new : List Incarnation = map (last_of (lives_made t me p l)) (made_slots t me l p) in
      let told : List Msg = parts_told t me kinds.PartMake (last_of (lives_made t me p l) p) in
      after_append (part_heard t d o) d (flat_map (λ (i : Incarnation). announces t me i (pos 1)) new) told (l.lives o)
      ∙ ap (after (part_heard t d o) d told) (after_mute (part_heard t d o) d (flat_map (λ (i : Incarnation). announces t me i (pos 1)) new) (l.lives o) (made_unheard d o new))
      ∙ go (p == o) refl
    where
      go : (b : Bool) → (p == o) ≡ b
          → after (part_heard t d o) d (parts_told t me kinds.PartMake (last_of (lives_made t me p l) p)) (l.lives o) ≡ (lives_made t me p l).lives o
      go true e =
          makes_after t d o me (last_of (lives_made t me p l) p) other (eqb-true p o e) (made_some l p own dead) (l.lives o)
          ∙ sym (made_lives t me l p o (subst (λ z. is_made_with t p z ≡ true) (eqb-true p o e) (made_itself t p)) mine)
      go false e =
          after_mute (part_heard t d o) d (parts_told t me kinds.PartMake (last_of (lives_made t me p l) p)) (l.lives o) (parts_mute t d o me (last_of (lives_made t me p l) p) e).0
          ∙ sym (made_stays t me l p o (made_once t p o o opt other.optional e (made_itself t o)))

  -- a part of another's slot is made without a message on parts
  pub part_made_parts : (l : Lives) (p : ℕ) → is_optional t p ≡ true → is_own t me p ≡ false
      → TellsParts t me l (lives_made t me p l) (flat_map (λ (i : Incarnation). announces t me i (pos 1)) (map (last_of (lives_made t me p l)) (made_slots t me l p)))
  part_made_parts l p opt foreign o d mine other =
      let new : List Incarnation = map (last_of (lives_made t me p l)) (made_slots t me l p) in
      let differ : (p == o) ≡ false = ne_eqb p o (λ e. not_true_false (is_own t me o) mine (subst (λ z. is_own t me z ≡ false) e foreign)) in
      after_mute (part_heard t d o) d (flat_map (λ (i : Incarnation). announces t me i (pos 1)) new) (l.lives o) (made_unheard d o new)
      ∙ sym (made_stays t me l p o (made_once t p o o opt other.optional differ (made_itself t o)))

  -- what duties tell of parts alternates
  made_off : (d o : ℕ) (is : List Incarnation) → AllOff t d o (flat_map (λ (i : Incarnation). announces t me i (pos 1)) is)
  made_off d o [] = tt
  made_off d o (i ∷ is) = all_append (IsOff t d o) (announces t me i (pos 1)) _ (announces_off t d o me i (pos 1)) (made_off d o is)

  pub made_alternate : (l : Lives) (p : ℕ) → is_own t me p ≡ true → l.lives p ≡ false
      → AlternatesParts t me l (flat_map (λ (i : Incarnation). announces t me i (pos 1)) (map (last_of (lives_made t me p l)) (made_slots t me l p)) ++ parts_told t me kinds.PartMake (last_of (lives_made t me p l) p))
  made_alternate l p own dead o d mine other =
      off_append t d o (flat_map (λ (i : Incarnation). announces t me i (pos 1)) (map (last_of (lives_made t me p l)) (made_slots t me l p)))
      (parts_told t me kinds.PartMake (last_of (lives_made t me p l) p)) (l.lives o) (made_off d o (map (last_of (lives_made t me p l)) (made_slots t me l p)))
      (go (p == o) refl)
    where
      go : (b : Bool) → (p == o) ≡ b → AlternateTo t d o (l.lives o) (parts_told t me kinds.PartMake (last_of (lives_made t me p l) p))
      go true e =
          let same : p ≡ o = eqb-true p o e in
          subst (λ z. AlternateTo t d o z (parts_told t me kinds.PartMake (last_of (lives_made t me p l) p))) (sym (ap l.lives (sym same) ∙ dead))
          (makes_alternate t d o me (last_of (lives_made t me p l) p) other same (made_some l p own dead))
      go false e = to_off t d o (parts_told t me kinds.PartMake (last_of (lives_made t me p l) p)) (l.lives o) (parts_off t d o me (last_of (lives_made t me p l) p) e).0

  pub part_made_alternate : (l : Lives) (p : ℕ)
      → AlternatesParts t me l (flat_map (λ (i : Incarnation). announces t me i (pos 1)) (map (last_of (lives_made t me p l)) (made_slots t me l p)))
  part_made_alternate l p o d mine other =
      to_off t d o (flat_map (λ (i : Incarnation). announces t me i (pos 1)) (map (last_of (lives_made t me p l)) (made_slots t me l p))) (l.lives o)
      (made_off d o (map (last_of (lives_made t me p l)) (made_slots t me l p)))

  end_off : (f : Frame) (d o k : ℕ) → AllOff t d o (end_messages t me f k)
  end_off f d o k =
      let e = end_parts f k in
      subst (AllOff t d o) (sym e.2)
      (all_append (IsOff t d o) e.0 (announces t me (last_of f.lives k) (pos 0)) (all_plain_off t d o e.0 e.1) (announces_off t d o me (last_of f.lives k) (pos 0)))

  part_ends_off : (f : Frame) (d o k : ℕ) → (k == o) ≡ false → AllOff t d o (part_ends t me f k)
  unfolding part_ends
  part_ends_off f d o k h = go (is_optional t k)
    where
      go : (b : Bool) → AllOff t d o (if b then parts_told t me kinds.PartEnd (last_of f.lives k) else [])
      go true = (parts_off t d o me (last_of f.lives k) h).1
      go false = tt

  part_ends_alternate : (f : Frame) (d o : ℕ) → HasOther t d o me → (f.lives.generation o == 0) ≡ false → f.lives.lives o ≡ true → AlternateTo t d o (f.lives.lives o) (part_ends t me f o)
  unfolding part_ends
  part_ends_alternate f d o other some live =
      subst (λ z. AlternateTo t d o z (if is_optional t o then parts_told t me kinds.PartEnd (last_of f.lives o) else [])) (sym live)
      (subst (λ (z : Bool). AlternateTo t d o true (if z then parts_told t me kinds.PartEnd (last_of f.lives o) else [])) (sym other.optional)
      (ends_alternate t d o me (last_of f.lives o) other refl some))

  pub ended_alternate : (f : Frame) (p : ℕ) → IsSound t me f.lives
      → AlternatesParts t me f.lives (flat_map (end_messages t me f) (ended_slots t me f.lives p) ++ flat_map (part_ends t me f) (ended_slots t me f.lives p))
  unfolding ended_slots
  ended_alternate f p sound o d own other =
      let ks : List ℕ = filter (goes_down t me f.lives p) (slots_of t) in
      let down : List ℕ = reverse ks in
      let there : has o down ≡ goes_down t me f.lives p o = has_reverse o ks ∙ has_slot (goes_down t me f.lives p) o own in
      let a = often_reverse o ks in
      let b = often_filter o (goes_down t me f.lives p) (slots_of t) in
      let c = often_range o 0 (length t.slots) in
      off_append t d o (flat_map (end_messages t me f) down) (flat_map (part_ends t me f) down) (f.lives.lives o)
      (all_flat (IsOff t d o) (λ k. Unit {0}) (end_messages t me f) (λ k e. end_off f d o k) down (all_unit down))
      (blocks_alternate t d o (part_ends t me f) (λ k e. part_ends_off f d o k e) (f.lives.lives o) down (omega (arith, a, b, c))
      (λ h. part_ends_alternate f d o other (down_some f.lives p o sound (sym there ∙ h)) (down_parts t me f.lives p o (sym there ∙ h)).1))
