-- Messages on a part alternate: each changes whether the part lives.
use Rattle.std.proofs.Common.{◌≡◌, ℕ, zero, suc, ◌+◌, ◌<◌, ◌≤◌, ◌==◌, ◌&&◌, ◌||◌, Bool, true, false, not, cond, if◌then◌else◌, List, [], ◌∷◌, ◌++◌, map, filter, flat_map, reverse, slice_get, length, Option, Some, None, ℤ, refl, sym, ap, ◌∙◌, subst, eqb-true, arith}
use mathlib.Core.List.{reverse_aux}
use Rattle.std.specs.List.{AllByRecursion, range_with_len}
use Rattle.std.proofs.lemmas.Bool.{ne_eqb}
use Rattle.std.proofs.lemmas.List.Elements.{filter-append}
use Rattle.room_kinds.specs.declared.message.Msg.{Msg}
use Rattle.room_kinds.specs.declared.numbers.Incarnation.{Incarnation}
use Rattle.room_kinds.specs.declared.numbers.Endpoint.{Endpoint}
use Rattle.room_kinds.specs.declared.system.SysKind.{SysKind}
use Rattle.room_kinds.specs.declared.system.SysKind.TheVariants as kinds
use Rattle.room_wiring.specs.declared.tables.Tables.{Tables}
use Rattle.actor_duties.specs.Words.{whose}
use Rattle.actor_duties.specs.Lives.{announce_to, announces, told_controllers, part_controllers, part_told_to, parts_told, has_part}
use Rattle.actor_duties.specs.Frame.{is_part_told}
use Rattle.actor_world.specs.Turns.{all_kinds}
use Rattle.law_agreement.specs.Trails.{contents, system_to, is_system_to, hear_all}
use Rattle.law_agreement.specs.Senders.{about, about_by}
use Rattle.law_agreement.specs.Bodies.{part_heard_of, part_heard, is_on, is_on_part, Alternate}
use Rattle.law_agreement.proofs.Plain.{AllPlain}
use Rattle.law_agreement.proofs.Lists.{all_append, all_filter, all_map, has}
use Rattle.law_agreement.proofs.Hearing.{system_at, part_if_other, HasOther, part_self, told_now}

-- how often a number stands in a list
abbrev pub often : ℕ → List ℕ → ℕ
often n [] = 0
often n (k ∷ ks) = if k == n then 1 + often n ks else often n ks

pub none_often : (n : ℕ) (ks : List ℕ) → often n ks ≡ 0 → has n ks ≡ false
none_often n [] h = refl
none_often n (k ∷ ks) h = go (k == n) refl h (λ e. none_often n ks e)
  where
    go : (b : Bool) → (k == n) ≡ b → (if b then 1 + often n ks else often n ks) ≡ 0 → (often n ks ≡ 0 → has n ks ≡ false) → (b || has n ks) ≡ false
    go true e h ih = absurd (omega arith)
    go false e h ih = ih h

often_below : (n a k : ℕ) → n < a → often n (range_with_len a k) ≡ 0
often_below n a zero h = refl
often_below n a (suc k) h = rw (ne_eqb a n (λ e. omega arith)) (often_below n (a + 1) k (omega arith))

pub often_range : (n a k : ℕ) → often n (range_with_len a k) ≤ 1
often_range n a zero = omega arith
often_range n a (suc k) = go (a == n) refl (often_range n (a + 1) k)
  where
    go : (b : Bool) → (a == n) ≡ b → often n (range_with_len (a + 1) k) ≤ 1
        → (if b then 1 + often n (range_with_len (a + 1) k) else often n (range_with_len (a + 1) k)) ≤ 1
    go true e ih =
        let same : a ≡ n = eqb-true a n e in
        let none : often n (range_with_len (a + 1) k) ≡ 0 = often_below n (a + 1) k (omega arith) in omega (arith, none)
    go false e ih = ih

pub often_filter : (n : ℕ) (p : ℕ → Bool) (ks : List ℕ) → often n (filter p ks) ≤ often n ks
often_filter n p [] = omega arith
often_filter n p (k ∷ ks) = go (p k) (k == n) (often_filter n p ks)
  where
    one : (a : Bool) → often n (filter p ks) ≤ often n ks → (if a then 1 + often n (filter p ks) else often n (filter p ks)) ≤ (if a then 1 + often n ks else often n ks)
    one true ih = omega (arith, ih)
    one false ih = ih

    less : (a : Bool) → often n (filter p ks) ≤ often n ks → often n (filter p ks) ≤ (if a then 1 + often n ks else often n ks)
    less true ih = omega (arith, ih)
    less false ih = ih

    go : (b a : Bool) → often n (filter p ks) ≤ often n ks → often n (cond b (k ∷ filter p ks) (filter p ks)) ≤ (if k == n then 1 + often n ks else often n ks)
    go true a ih = one (k == n) ih
    go false a ih = less (k == n) ih

often_onto : (n : ℕ) (ks acc : List ℕ) → often n (reverse_aux ks acc) ≡ often n ks + often n acc
often_onto n [] acc = omega arith
often_onto n (k ∷ ks) acc = often_onto n ks (k ∷ acc) ∙ go (k == n)
  where
    go : (b : Bool) → often n ks + (if b then 1 + often n acc else often n acc) ≡ (if b then 1 + often n ks else often n ks) + often n acc
    go true = omega arith
    go false = refl

pub often_reverse : (n : ℕ) (ks : List ℕ) → often n (reverse ks) ≡ often n ks
often_reverse n ks = often_onto n ks [] ∙ omega arith

module _ (t : Tables) (d o : ℕ) where
  -- a message that isn't on the part
  abbrev pub IsOff : Msg → Type 0
  IsOff m = is_on_part o m ≡ false

  abbrev pub AllOff : List Msg → Type 0
  AllOff ms = AllByRecursion IsOff ms

  -- such a message leaves the part as it is
  pub off_same : (m : Msg) (b : Bool) → IsOff m → part_heard t d o m b ≡ b
  unfolding part_heard
  off_same m b h = go (m.prio.0 == 0) (slice_get all_kinds m.signal) m.source h
    where
      go : (a : Bool) (k : Option SysKind) (y : Option Endpoint) → (if a then is_on o k y else false) ≡ false
          → (if a then part_heard_of t d o k y m.target m.payload b else b) ≡ b
      go false k y f = refl
      go true (Some kinds.PartMake) (Some x) f = part_if_other t d o (is_part_told t d x m.target) (whose x) true m.payload b f
      go true (Some kinds.PartEnd) (Some x) f = part_if_other t d o (is_part_told t d x m.target) (whose x) false m.payload b f
      go true k y f = refl

  plain_off : (m : Msg) → about m ≡ None → IsOff m
  plain_off m h = go (m.prio.0 == 0) (slice_get all_kinds m.signal) m.source h
    where
      go : (a : Bool) (k : Option SysKind) (y : Option Endpoint) → (if a then about_by k y else None) ≡ None → (if a then is_on o k y else false) ≡ false
      go false k y f = refl
      go true (Some kinds.PartMake) (Some x) f = absurd cc
      go true (Some kinds.PartEnd) (Some x) f = absurd cc
      go true k y f = refl

  pub all_plain_off : (ms : List Msg) → AllPlain ms → AllOff ms
  all_plain_off [] h = tt
  all_plain_off (m ∷ ms) h = (plain_off m h.0, all_plain_off ms h.1)

  pub announces_off : (me : ℕ) (x : Incarnation) (up : ℤ) → AllOff (announces t me x up)
  unfolding announces
  announces_off me x up = all_map IsOff (announce_to me x up) (λ k. refl) (told_controllers t x.slot.0)

  pub parts_off : (me : ℕ) (x : Incarnation) → (x.slot.0 == o) ≡ false → AllOff (parts_told t me kinds.PartMake x) × AllOff (parts_told t me kinds.PartEnd x)
  unfolding parts_told
  parts_off me x h = (
    all_map IsOff (part_told_to me kinds.PartMake x) (λ k. h) (part_controllers t me x.slot.0),
    all_map IsOff (part_told_to me kinds.PartEnd x) (λ k. h) (part_controllers t me x.slot.0),
  )

  pub alternate_off : (ms : List Msg) (b : Bool) → AllOff ms → Alternate t d o b ms
  alternate_off [] b h = tt
  alternate_off (m ∷ ms) b h = let e = h.0 in ((λ q. absurd cc), alternate_off ms (part_heard t d o m b) h.1)

  hear_off : (ms : List Msg) (b : Bool) → AllOff ms → hear_all (part_heard t d o) ms b ≡ b
  hear_off [] b h = refl
  hear_off (m ∷ ms) b h = ap (hear_all (part_heard t d o) ms) (off_same m b h.0) ∙ hear_off ms b h.1

  pub alternate_append : (a b : List Msg) (x : Bool) → Alternate t d o x a → Alternate t d o (hear_all (part_heard t d o) a x) b → Alternate t d o x (a ++ b)
  alternate_append [] b x h k = k
  alternate_append (m ∷ a) b x h k = (h.0, alternate_append a b (part_heard t d o m x) h.1 k)

  pub alternate_later : (a b : List Msg) (x : Bool) → Alternate t d o x (a ++ b) → Alternate t d o (hear_all (part_heard t d o) a x) b
  alternate_later [] b x h = h
  alternate_later (m ∷ a) b x h = alternate_later a b (part_heard t d o m x) h.1

  -- messages on a part that alternate tell whether it lived before, by whether it lives after
  pub one_life : (ms : List Msg) (a b : Bool) → Alternate t d o a ms → Alternate t d o b ms → hear_all (part_heard t d o) ms a ≡ hear_all (part_heard t d o) ms b → a ≡ b
  one_life [] a b h k e = e
  one_life (m ∷ ms) a b h k e = go (is_on_part o m) refl (one_life ms (part_heard t d o m a) (part_heard t d o m b) h.1 k.1 e)
    where
      not_same : (x y : Bool) → not x ≡ not y → x ≡ y
      not_same true true q = refl
      not_same false false q = refl
      not_same true false q = sym q
      not_same false true q = sym q

      go : (c : Bool) → is_on_part o m ≡ c → part_heard t d o m a ≡ part_heard t d o m b → a ≡ b
      go true q same = not_same a b (sym (h.0 q) ∙ same ∙ k.0 q)
      go false q same = sym (off_same m a q) ∙ same ∙ off_same m b q

  -- what a list sends to controller d
  abbrev pub AlternateTo : Bool → List Msg → Type 0
  AlternateTo b ms = Alternate t d o b (filter (is_system_to d) ms)

  pub to_off : (ms : List Msg) (b : Bool) → AllOff ms → AlternateTo b ms
  to_off ms b h = alternate_off (filter (is_system_to d) ms) b (all_filter IsOff (is_system_to d) ms h)

  pub to_append : (a b : List Msg) (x : Bool) → AlternateTo x a → AllOff b → AlternateTo x (a ++ b)
  to_append a b x h k =
      subst (Alternate t d o x) (sym (filter-append (is_system_to d) a b))
      (alternate_append (filter (is_system_to d) a) (filter (is_system_to d) b) x h (to_off b (hear_all (part_heard t d o) (filter (is_system_to d) a) x) k))

  pub off_append : (a b : List Msg) (x : Bool) → AllOff a → AlternateTo x b → AlternateTo x (a ++ b)
  off_append a b x h k =
      let off : AllOff (filter (is_system_to d) a) = all_filter IsOff (is_system_to d) a h in
      subst (Alternate t d o x) (sym (filter-append (is_system_to d) a b))
      (alternate_append (filter (is_system_to d) a) (filter (is_system_to d) b) x (alternate_off (filter (is_system_to d) a) x off)
      (subst (λ z. Alternate t d o z (filter (is_system_to d) b)) (sym (hear_off (filter (is_system_to d) a) x off)) k))

  none_sent : (f : ℕ → Msg) → ((k : ℕ) → is_system_to d (f k) ≡ (k == d)) → (ks : List ℕ) → has d ks ≡ false → filter (is_system_to d) (map f ks) ≡ []
  none_sent f to [] h = refl
  none_sent f to (k ∷ ks) h = go (k == d) (to k) h (λ e. none_sent f to ks e)
    where
      go : (c : Bool) → is_system_to d (f k) ≡ c → (c || has d ks) ≡ false → (has d ks ≡ false → filter (is_system_to d) (map f ks) ≡ [])
          → filter (is_system_to d) (f k ∷ map f ks) ≡ []
      go true e q ih = absurd cc
      go false e q ih = rw e (ih q)

  -- one message at most to each controller, which changes whether the part lives
  each_alternates : (f : ℕ → Msg) (v : Bool) → ((k : ℕ) → is_system_to d (f k) ≡ (k == d)) → ((k : ℕ) (b : Bool) → part_heard t d o (f k) b ≡ v)
      → (ks : List ℕ) → often d ks ≤ 1 → (b : Bool) → v ≡ not b → AlternateTo b (map f ks)
  each_alternates f v to same [] few b change = tt
  each_alternates f v to same (k ∷ ks) few b change =
      subst (λ z. Alternate t d o b (cond z (f k ∷ filter (is_system_to d) (map f ks)) (filter (is_system_to d) (map f ks)))) (sym (to k))
      (go (k == d) few (λ e. each_alternates f v to same ks e b change))
    where
      go : (c : Bool) → (if c then 1 + often d ks else often d ks) ≤ 1 → (often d ks ≤ 1 → AlternateTo b (map f ks))
          → Alternate t d o b (cond c (f k ∷ filter (is_system_to d) (map f ks)) (filter (is_system_to d) (map f ks)))
      go true e ih =
          let none : often d ks ≡ 0 = omega (arith, e) in
          ((λ q. same k b ∙ change), subst (Alternate t d o (part_heard t d o (f k) b)) (sym (none_sent f to ks (none_often d ks none))) tt)
      go false e ih = ih e

  blocks_off : (f : ℕ → List Msg) → ((k : ℕ) → (k == o) ≡ false → AllOff (f k)) → (ks : List ℕ) → has o ks ≡ false → AllOff (flat_map f ks)
  blocks_off f others [] h = tt
  blocks_off f others (k ∷ ks) h = go (k == o) refl h (λ e. blocks_off f others ks e)
    where
      go : (c : Bool) → (k == o) ≡ c → (c || has o ks) ≡ false → (has o ks ≡ false → AllOff (flat_map f ks)) → AllOff (f k ++ flat_map f ks)
      go true e q ih = absurd cc
      go false e q ih = all_append IsOff (f k) (flat_map f ks) (others k e) (ih q)

  -- messages slot by slot, of which those of o alternate, once at most
  pub blocks_alternate : (f : ℕ → List Msg) → ((k : ℕ) → (k == o) ≡ false → AllOff (f k)) → (b : Bool) → (ks : List ℕ) → often o ks ≤ 1
      → (has o ks ≡ true → AlternateTo b (f o)) → AlternateTo b (flat_map f ks)
  blocks_alternate f others b [] few own = tt
  blocks_alternate f others b (k ∷ ks) few own = go (k == o) refl few own (λ e q. blocks_alternate f others b ks e q)
    where
      go : (c : Bool) → (k == o) ≡ c → (if c then 1 + often o ks else often o ks) ≤ 1 → ((c || has o ks) ≡ true → AlternateTo b (f o))
          → (often o ks ≤ 1 → (has o ks ≡ true → AlternateTo b (f o)) → AlternateTo b (flat_map f ks)) → AlternateTo b (f k ++ flat_map f ks)
      go true e less q ih =
          let none : often o ks ≡ 0 = omega (arith, less) in
          to_append (f k) (flat_map f ks) b (subst (λ z. AlternateTo b (f z)) (sym (eqb-true k o e)) (q refl)) (blocks_off f others ks (none_often o ks none))
      go false e less q ih = off_append (f k) (flat_map f ks) b (others k e) (ih less q)

  few_parts : (me x : ℕ) → often d (part_controllers t me x) ≤ 1
  unfolding part_controllers
  few_parts me x =
      let a = often_filter d (λ k. not (k == me) && has_part t k x) (range_with_len 0 (length t.controllers)) in
      let b = often_range d 0 (length t.controllers) in omega (arith, a, b)

  pub makes_alternate : (me : ℕ) (x : Incarnation) → HasOther t d o me → x.slot.0 ≡ o → (x.generation.0 == 0) ≡ false → AlternateTo false (parts_told t me kinds.PartMake x)
  unfolding parts_told part_heard
  makes_alternate me x h same some =
      each_alternates (part_told_to me kinds.PartMake x) true (λ k. system_at d k)
      (λ k y. told_now t d o x true y same (part_self t d o me x h same some)) (part_controllers t me x.slot.0) (few_parts me x.slot.0) false refl

  pub ends_alternate : (me : ℕ) (x : Incarnation) → HasOther t d o me → x.slot.0 ≡ o → (x.generation.0 == 0) ≡ false → AlternateTo true (parts_told t me kinds.PartEnd x)
  unfolding parts_told part_heard
  ends_alternate me x h same some =
      each_alternates (part_told_to me kinds.PartEnd x) false (λ k. system_at d k)
      (λ k y. told_now t d o x false y same (part_self t d o me x h same some)) (part_controllers t me x.slot.0) (few_parts me x.slot.0) true refl

  pub alternate_contents : (a : ℕ) (ms : List Msg) (b : Bool) → Alternate t d o b ms → Alternate t d o b (contents a ms)
  unfolding contents part_heard
  alternate_contents a [] b h = tt
  alternate_contents a (m ∷ ms) b h = (h.0, alternate_contents a ms (part_heard t d o m b) h.1)

  pub alternate_system : (a : ℕ) (ms : List Msg) (b : Bool) → AlternateTo b ms → Alternate t d o b (system_to a d ms)
  unfolding system_to
  alternate_system a ms b h = alternate_contents a (filter (is_system_to d) ms) b h
