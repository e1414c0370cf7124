-- What lists of messages tell: of a slot to a directory, and of an optional slot to its parts.
use Rattle.std.proofs.Common.{◌≡◌, ℕ, ◌<◌, ◌==◌, ◌&&◌, ◌||◌, Bool, true, false, not, cond, if◌then◌else◌, List, [], ◌∷◌, ◌++◌, map, filter, flat_map, slice_get, length, Option, Some, None, ℤ, pos, negsuc, refl, sym, ap, ◌∙◌, subst, eq-eqb, eqb-true, arith}
use Rattle.std.specs.List.{AllByRecursion, range_with_len}
use Rattle.std.proofs.lemmas.Bool.{ne_eqb, eqb-false, or_right}
use Rattle.std.proofs.lemmas.List.Elements.{filter-append}
use Rattle.std.proofs.lemmas.List.{map-append}
use Rattle.room_kinds.specs.declared.message.Msg.{Msg}
use Rattle.room_kinds.specs.declared.numbers.Incarnation.{Incarnation}
use Rattle.room_kinds.specs.declared.numbers.Endpoint.{Endpoint}
use Rattle.room_kinds.specs.declared.system.SysKind.{SysKind}
use Rattle.room_kinds.specs.declared.system.SysKind.TheVariants as kinds
use Rattle.room_wiring.specs.declared.tables.Tables.{Tables}
use Rattle.room_wiring.specs.Places.{is_told}
use Rattle.actor_merge.specs.Parties.{stamped}
use Rattle.actor_duties.specs.Words.{whose, frame_of, is_own, is_optional}
use Rattle.actor_duties.specs.Lives.{announce_to, announces, told_controllers, has_part, part_controllers, part_told_to, parts_told}
use Rattle.actor_duties.specs.Frame.{is_announced, is_part_told}
use Rattle.actor_world.specs.Turns.{all_kinds}
use Rattle.law_agreement.specs.Trails.{contents, from_a, is_from, system_to, is_system_to, hear_all}
use Rattle.law_agreement.specs.Announced.{told_by, told_if, heard_of, heard}
use Rattle.law_agreement.specs.Bodies.{part_if, part_heard_of, part_heard}
use Rattle.law_agreement.specs.Senders.{about, about_by}
use Rattle.law_agreement.proofs.Plain.{AllPlain}
use Rattle.law_agreement.proofs.Lists.{has, has_filter, has_range}

-- a message doesn't tell of the life of what is in slot s
abbrev pub IsApart : ℕ → Msg → Type 0
IsApart s m = (x : Incarnation) → about m ≡ Some x → (x.slot.0 == s) ≡ false

pub contents_append : (a : ℕ) (xs ys : List Msg) → contents a (xs ++ ys) ≡ contents a xs ++ contents a ys
unfolding contents
contents_append a xs ys = map-append (stamped a 0) xs ys

pub from_append : (a : ℕ) (xs ys : List Msg) → from_a a (xs ++ ys) ≡ from_a a xs ++ from_a a ys
unfolding from_a
from_append a xs ys = ap (contents a) (filter-append (is_from a) xs ys) ∙ contents_append a (filter (is_from a) xs) (filter (is_from a) ys)

pub swap_eqb : (a b : ℕ) → (a == b) ≡ (b == a)
swap_eqb a b = go (a == b) refl
  where
    go : (c : Bool) → (a == b) ≡ c → c ≡ (b == a)
    go true e = sym (eq-eqb b a (sym (eqb-true a b e)))
    go false e = sym (ne_eqb b a (λ q. eqb-false a b e (sym q)))

pub and_true : (b : Bool) → (b && true) ≡ b
and_true true = refl
and_true false = refl

-- a message from a duty to controller k is a system message to d where k is d
pub system_at : (d k : ℕ) → ((d == k) && (0 == 0)) ≡ (k == d)
system_at d k = and_true (d == k) ∙ swap_eqb d k

module _ {X : Type 0} (hear : Msg → X → X) where
  pub hear_append : (a b : List Msg) (x : X) → hear_all hear (a ++ b) x ≡ hear_all hear b (hear_all hear a x)
  hear_append [] b x = refl
  hear_append (m ∷ a) b x = hear_append a b (hear m x)

  hear_contents : ((a stamp : ℕ) (m : Msg) (x : X) → hear (stamped a stamp m) x ≡ hear m x) → (a : ℕ) (ms : List Msg) (x : X)
      → hear_all hear (contents a ms) x ≡ hear_all hear ms x
  unfolding contents
  hear_contents h a [] x = refl
  hear_contents h a (m ∷ ms) x = ap (hear_all hear (map (stamped a 0) ms)) (h a 0 m x) ∙ hear_contents h a ms (hear m x)

  -- messages that change nothing
  abbrev pub IsMute : Msg → Type 0
  IsMute m = (x : X) → hear m x ≡ x

  abbrev pub AllMute : List Msg → Type 0
  AllMute ms = AllByRecursion IsMute ms

  pub all_mute : {A : Type 0} (f : A → Msg) → ((a : A) → IsMute (f a)) → (xs : List A) → AllMute (map f xs)
  all_mute f h [] = tt
  all_mute f h (a ∷ xs) = (h a, all_mute f h xs)

  module _ (d : ℕ) where
    -- what is told after what a list sends to controller d
    abbrev pub after : List Msg → X → X
    after ms x = hear_all hear (filter (is_system_to d) ms) x

    pub hear_system : ((a stamp : ℕ) (m : Msg) (x : X) → hear (stamped a stamp m) x ≡ hear m x) → (a : ℕ) (ms : List Msg) (x : X)
        → hear_all hear (system_to a d ms) x ≡ after ms x
    unfolding system_to
    hear_system h a ms x = hear_contents h a (filter (is_system_to d) ms) x

    pub after_append : (a b : List Msg) (x : X) → after (a ++ b) x ≡ after b (after a x)
    after_append a b x =
        ap (λ (z : List Msg). hear_all hear z x) (filter-append (is_system_to d) a b)
        ∙ hear_append (filter (is_system_to d) a) (filter (is_system_to d) b) x

    -- one message after another
    after_more : (m : Msg) (ms : List Msg) (x : X) → after (m ∷ ms) x ≡ after ms (if is_system_to d m then hear m x else x)
    after_more m ms x = go (is_system_to d m)
      where
        go : (b : Bool) → hear_all hear (cond b (m ∷ filter (is_system_to d) ms) (filter (is_system_to d) ms)) x
            ≡ hear_all hear (filter (is_system_to d) ms) (if b then hear m x else x)
        go true = refl
        go false = refl

    pub after_mute : (ms : List Msg) (x : X) → AllMute ms → after ms x ≡ x
    after_mute [] x h = refl
    after_mute (m ∷ ms) x h = after_more m ms x ∙ ap (after ms) (go (is_system_to d m)) ∙ after_mute ms x h.1
      where
        go : (b : Bool) → (if b then hear m x else x) ≡ x
        go true = h.0 x
        go false = refl

    -- a message to each of these controllers, which tells one thing, whatever was told before
    pub each_after : (f : ℕ → Msg) (v : X) → ((k : ℕ) → is_system_to d (f k) ≡ (k == d)) → ((k : ℕ) (x : X) → hear (f k) x ≡ v) → (ks : List ℕ) (x : X)
        → after (map f ks) x ≡ (if has d ks then v else x)
    each_after f v to same [] x = refl
    each_after f v to same (k ∷ ks) x =
        after_more (f k) (map f ks) x ∙ ap (λ (b : Bool). after (map f ks) (if b then hear (f k) x else x)) (to k)
        ∙ go (k == d) (λ y. each_after f v to same ks y)
      where
        both : (b : Bool) → (if b then v else v) ≡ v
        both true = refl
        both false = refl

        go : (b : Bool) → ((y : X) → after (map f ks) y ≡ (if has d ks then v else y))
            → after (map f ks) (if b then hear (f k) x else x) ≡ (if b || has d ks then v else x)
        go true rest = ap (after (map f ks)) (same k x) ∙ rest v ∙ both (has d ks)
        go false rest = rest x

    -- messages slot by slot, where those of other slots change nothing, and those of s tell one thing
    pub slots_after : (s : ℕ) (f : ℕ → List Msg) (v : X) → ((k : ℕ) → (k == s) ≡ false → AllMute (f k)) → (ks : List ℕ)
        → (has s ks ≡ true → (x : X) → after (f s) x ≡ v) → (x : X) → after (flat_map f ks) x ≡ (if has s ks then v else x)
    slots_after s f v others [] own x = refl
    slots_after s f v others (k ∷ ks) own x =
        after_append (f k) (flat_map f ks) x
        ∙ go (k == s) refl (λ y. slots_after s f v others ks (λ h. own (or_right (k == s) (has s ks) h)) y)
      where
        both : (b : Bool) → (if b then v else v) ≡ v
        both true = refl
        both false = refl

        go : (b : Bool) → (k == s) ≡ b → ((y : X) → after (flat_map f ks) y ≡ (if has s ks then v else y))
            → after (flat_map f ks) (after (f k) x) ≡ (if b || has s ks then v else x)
        go true e rest =
            ap (after (flat_map f ks)) (ap (λ (z : ℕ). after (f z) x) (eqb-true k s e) ∙ own (rw e refl) x) ∙ rest v ∙ both (has s ks)
        go false e rest = ap (after (flat_map f ks)) (after_mute (f k) x (others k e)) ∙ rest x

-- what a directory hears of slot s
module _ (t : Tables) (d s : ℕ) where
  told_if_other : (fits : Bool) (x : Incarnation) (numbers : List ℤ) (n : ℕ) → (x.slot.0 == s) ≡ false → told_if fits s x numbers n ≡ n
  told_if_other false x numbers n e = refl
  told_if_other true x [] n e = refl
  told_if_other true x (pos up ∷ []) n e = rw e refl
  told_if_other true x (negsuc up ∷ []) n e = refl
  told_if_other true x (pos up ∷ (k ∷ ks)) n e = refl
  told_if_other true x (negsuc up ∷ (k ∷ ks)) n e = refl

  pub heard_apart : (m : Msg) (n : ℕ) → IsApart s m → heard t d s m n ≡ n
  unfolding heard
  heard_apart m n h = go (m.prio.0 == 0) (slice_get all_kinds m.signal) m.source h
    where
      go : (b : Bool) (k : Option SysKind) (o : Option Endpoint)
          → ((x : Incarnation) → (if b then about_by k o else None) ≡ Some x → (x.slot.0 == s) ≡ false)
          → (if b then heard_of t d s k o m.target m.payload n else n) ≡ n
      go false k o f = refl
      go true (Some kinds.Announce) (Some x) f = told_if_other (is_announced t d x m.target) (whose x) m.payload n (f (whose x) refl)
      go true k o f = refl

  pub heard_stamped : (a stamp : ℕ) (m : Msg) (n : ℕ) → heard t d s (stamped a stamp m) n ≡ heard t d s m n
  unfolding heard
  heard_stamped a stamp m n = refl

  pub heard_plain : (ms : List Msg) → AllPlain ms → AllMute (heard t d s) ms
  heard_plain [] h = tt
  heard_plain (m ∷ ms) h = let e = h.0 in ((λ n. heard_apart m n (λ x k. absurd cc)), heard_plain ms h.1)

  -- an incarnation that says of itself is of the form of an Announce where its slot is told
  announced_self : (x : Incarnation) → is_told t x.slot.0 d ≡ true → is_announced t d (frame_of x) (frame_of x) ≡ true
  announced_self x h = rw (eq-eqb x.slot.0 x.slot.0 refl, eq-eqb x.generation.0 x.generation.0 refl, h) refl

  heard_announce : (me : ℕ) (x : Incarnation) (up k n : ℕ) → is_told t x.slot.0 d ≡ true
      → heard t d s (announce_to me x (pos up) k) n ≡ told_by s x up n
  unfolding heard
  heard_announce me x up k n h = ap (λ b. told_if b s x (pos up ∷ []) n) (announced_self x h)

  -- what an incarnation's Announces tell of its slot
  pub announces_after : (me : ℕ) (x : Incarnation) (up v : ℕ) → d < length t.controllers → is_told t x.slot.0 d ≡ true → ((n : ℕ) → told_by s x up n ≡ v) → (n : ℕ)
      → after (heard t d s) d (announces t me x (pos up)) n ≡ v
  unfolding announces told_controllers
  announces_after me x up v below h same n =
      each_after (heard t d s) d (announce_to me x (pos up)) v (λ k. system_at d k) (λ k n. heard_announce me x up k n h ∙ same n)
      (filter (is_told t x.slot.0) (range_with_len 0 (length t.controllers))) n
      ∙ ap (λ (b : Bool). if b then v else n) there
    where
      there : has d (filter (is_told t x.slot.0) (range_with_len 0 (length t.controllers))) ≡ true
      there =
          has_filter (is_told t x.slot.0) d (range_with_len 0 (length t.controllers))
          ∙ ap (λ (b : Bool). b && has d (range_with_len 0 (length t.controllers))) h ∙ has_range d 0 (length t.controllers) (omega arith) (omega arith)

  -- what another incarnation's Announces tell of the slot
  pub announces_mute : (me : ℕ) (x : Incarnation) (up : ℤ) → (x.slot.0 == s) ≡ false → AllMute (heard t d s) (announces t me x up)
  unfolding announces
  announces_mute me x up h =
      all_mute (heard t d s) (announce_to me x up)
      (λ k n. heard_apart (announce_to me x up k) n
      (λ y e. let same : whose (frame_of x) ≡ y = cc in subst (λ (z : Incarnation). (z.slot.0 == s) ≡ false) same h))
      (told_controllers t x.slot.0)

  -- parts are no matter of directories
  pub parts_unheard : (me : ℕ) (x : Incarnation) → AllMute (heard t d s) (parts_told t me kinds.PartMake x) × AllMute (heard t d s) (parts_told t me kinds.PartEnd x)
  unfolding parts_told heard
  parts_unheard me x = (
    all_mute (heard t d s) (part_told_to me kinds.PartMake x) (λ k n. refl) (part_controllers t me x.slot.0),
    all_mute (heard t d s) (part_told_to me kinds.PartEnd x) (λ k n. refl) (part_controllers t me x.slot.0),
  )

-- what a part of the optional slot o hears
module _ (t : Tables) (d o : ℕ) where
  pub part_if_other : (fits : Bool) (x : Incarnation) (now : Bool) (numbers : List ℤ) (b : Bool) → (x.slot.0 == o) ≡ false → part_if fits o x now numbers b ≡ b
  part_if_other false x now numbers b e = refl
  part_if_other true x now [] b e = rw e refl
  part_if_other true x now (n ∷ ns) b e = refl

  pub part_apart : (m : Msg) (b : Bool) → IsApart o m → part_heard t d o m b ≡ b
  unfolding part_heard
  part_apart m b h = go (m.prio.0 == 0) (slice_get all_kinds m.signal) m.source h
    where
      go : (a : Bool) (k : Option SysKind) (y : Option Endpoint)
          → ((x : Incarnation) → (if a then about_by k y else None) ≡ Some x → (x.slot.0 == o) ≡ false)
          → (if a then part_heard_of t d o k y m.target m.payload b else b) ≡ b
      go false k y f = refl
      go true (Some kinds.PartMake) (Some x) f = part_if_other (is_part_told t d x m.target) (whose x) true m.payload b (f (whose x) refl)
      go true (Some kinds.PartEnd) (Some x) f = part_if_other (is_part_told t d x m.target) (whose x) false m.payload b (f (whose x) refl)
      go true k y f = refl

  pub part_stamped : (a stamp : ℕ) (m : Msg) (b : Bool) → part_heard t d o (stamped a stamp m) b ≡ part_heard t d o m b
  unfolding part_heard
  part_stamped a stamp m b = refl

  pub part_plain : (ms : List Msg) → AllPlain ms → AllMute (part_heard t d o) ms
  part_plain [] h = tt
  part_plain (m ∷ ms) h = let e = h.0 in ((λ b. part_apart m b (λ x k. absurd cc)), part_plain ms h.1)

  -- Announces are no matter of parts
  pub announces_unheard : (me : ℕ) (x : Incarnation) (up : ℤ) → AllMute (part_heard t d o) (announces t me x up)
  unfolding announces part_heard
  announces_unheard me x up = all_mute (part_heard t d o) (announce_to me x up) (λ k b. refl) (told_controllers t x.slot.0)

  -- parts of another slot
  pub parts_mute : (me : ℕ) (x : Incarnation) → (x.slot.0 == o) ≡ false
      → AllMute (part_heard t d o) (parts_told t me kinds.PartMake x) × AllMute (part_heard t d o) (parts_told t me kinds.PartEnd x)
  unfolding parts_told
  parts_mute me x h = (
    all_mute (part_heard t d o) (part_told_to me kinds.PartMake x) (λ k b. part_apart (part_told_to me kinds.PartMake x k) b (λ y e. other y cc)) (part_controllers t me x.slot.0),
    all_mute (part_heard t d o) (part_told_to me kinds.PartEnd x) (λ k b. part_apart (part_told_to me kinds.PartEnd x k) b (λ y e. other y cc)) (part_controllers t me x.slot.0),
  )
    where
      other : (y : Incarnation) → whose (frame_of x) ≡ y → (y.slot.0 == o) ≡ false
      other y same = subst (λ (z : Incarnation). (z.slot.0 == o) ≡ false) same h

  -- an incarnation's messages on its parts are of their form at another controller that has one
  pub record HasOther (me : ℕ) : Type 0 where
    pub optional : is_optional t o ≡ true
    pub foreign : is_own t d o ≡ false
    pub other : (d == me) ≡ false
    pub below : d < length t.controllers
    pub part : has_part t d o ≡ true

  pub part_self : (me : ℕ) (x : Incarnation) → HasOther me → x.slot.0 ≡ o → (x.generation.0 == 0) ≡ false → is_part_told t d (frame_of x) (frame_of x) ≡ true
  part_self me x h same some =
      let optional : is_optional t x.slot.0 ≡ true = subst (λ z. is_optional t z ≡ true) (sym same) h.optional in
      let foreign : is_own t d x.slot.0 ≡ false = subst (λ z. is_own t d z ≡ false) (sym same) h.foreign in
      let part : has_part t d x.slot.0 ≡ true = subst (λ z. has_part t d z ≡ true) (sym same) h.part in
      rw (eq-eqb x.slot.0 x.slot.0 refl, eq-eqb x.generation.0 x.generation.0 refl, some, optional, foreign, part) refl

  there : (me : ℕ) → HasOther me → has d (part_controllers t me o) ≡ true
  unfolding part_controllers
  there me h =
      has_filter (λ k. not (k == me) && has_part t k o) d (range_with_len 0 (length t.controllers))
      ∙ rw (h.other, h.part) (let below = h.below in has_range d 0 (length t.controllers) (omega arith) (omega arith))

  pub told_now : (x : Incarnation) (now : Bool) (b : Bool) → x.slot.0 ≡ o → is_part_told t d (frame_of x) (frame_of x) ≡ true
      → part_if (is_part_told t d (frame_of x) (frame_of x)) o x now [] b ≡ now
  told_now x now b same form = ap (λ z. part_if z o x now [] b) form ∙ rw (eq-eqb x.slot.0 o same) refl

  pub makes_after : (me : ℕ) (x : Incarnation) → HasOther me → x.slot.0 ≡ o → (x.generation.0 == 0) ≡ false → (b : Bool)
      → after (part_heard t d o) d (parts_told t me kinds.PartMake x) b ≡ true
  unfolding parts_told part_heard
  makes_after me x h same some b =
      each_after (part_heard t d o) d (part_told_to me kinds.PartMake x) true (λ k. system_at d k)
      (λ k y. told_now x true y same (part_self me x h same some)) (part_controllers t me x.slot.0) b
      ∙ ap (λ (z : Bool). if z then true else b) (ap (λ z. has d (part_controllers t me z)) same ∙ there me h)

  pub ends_after : (me : ℕ) (x : Incarnation) → HasOther me → x.slot.0 ≡ o → (x.generation.0 == 0) ≡ false → (b : Bool)
      → after (part_heard t d o) d (parts_told t me kinds.PartEnd x) b ≡ false
  unfolding parts_told part_heard
  ends_after me x h same some b =
      each_after (part_heard t d o) d (part_told_to me kinds.PartEnd x) false (λ k. system_at d k)
      (λ k y. told_now x false y same (part_self me x h same some)) (part_controllers t me x.slot.0) b
      ∙ ap (λ (z : Bool). if z then false else b) (ap (λ z. has d (part_controllers t me z)) same ∙ there me h)
