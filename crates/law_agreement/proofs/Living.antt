-- What holds of the lives of one controller at every moment.
use Rattle.std.proofs.Common.{◌≡◌, ℕ, zero, suc, ◌≤◌, ◌==◌, ◌&&◌, ◌||◌, Bool, true, false, not, if◌then◌else◌, length, Some, refl, sym, ap, ◌∙◌, subst, eqb-true, arith, ◌⊎◌, inl, inr}
use Rattle.std.specs.Option.{option_map_or}
use Rattle.std.proofs.lemmas.Bool.{and_parts, and_from, or_cases}
use Rattle.room_wiring.specs.declared.tables.Tables.{Tables}
use Rattle.actor_duties.specs.Words.{is_own, is_fixed, is_optional, is_home, container_of}
use Rattle.actor_duties.specs.State.{Lives}
use Rattle.actor_duties.specs.Lives.{is_made_within, is_made_with, comes_up, is_reached, ends_by, goes_down, lives_made, lives_ended}
use Rattle.actor_world.specs.Start.{is_fixed_up, lives_from_start, first_lives}
use Rattle.actor_world.proofs.LifeSteps.{IsSound, made_sound, ended_sound}
use Rattle.service_messages.specs.slot_runs.Runs.{IsDepthFirst}
use Rattle.service_messages.proofs.slot_runs.RunLemmas.{false_from, not_true_false}
use Rattle.frame_lives.proofs.Reached.{reached_part}
use Rattle.law_agreement.proofs.Below.{not_fixed, made_itself, made_once, first_not_made, top_reached, down_reached, first_not_reached}

-- how a duty changes lives: not at all, or an optional slot is made or ends here; one that the controller
-- owns is made in a live container, if it owns the container too
pub data Stepped (t : Tables) (me : ℕ) (l next : Lives) : Type 0 where
  stays : next ≡ l → Stepped t me l next
  makes : (p : ℕ) → is_optional t p ≡ true
      → ((c : ℕ) → is_own t me p ≡ true → container_of t p ≡ Some c → is_own t me c ≡ true → l.lives c ≡ true)
      → next ≡ lives_made t me p l → Stepped t me l next
  ends : (p : ℕ) → is_optional t p ≡ true → next ≡ lives_ended t me p l → Stepped t me l next

-- the lives of a controller as they can be
pub record IsWhole (t : Tables) (me : ℕ) (l : Lives) : Type 0 where
  pub sound : IsSound t me l
  -- what a controller owns of the body of its own optional slot lives with the slot
  pub bodies : (o s : ℕ) → is_optional t o ≡ true → is_own t me o ≡ true → is_own t me s ≡ true → is_made_with t o s ≡ true → l.lives s ≡ l.lives o
  -- what lives from the start lives
  pub firsts : (s : ℕ) → is_own t me s ≡ true → lives_from_start t s ≡ true → l.lives s ≡ true
  -- a live optional slot has a live container, if the controller owns it
  pub containers : (s c : ℕ) → is_own t me s ≡ true → is_own t me c ≡ true → is_optional t s ≡ true → container_of t s ≡ Some c → l.lives s ≡ true → l.lives c ≡ true
  -- only fixed and optional slots live
  pub homes : (s : ℕ) → l.lives s ≡ true → is_home t s ≡ true

fixed_home : (t : Tables) (s : ℕ) → is_fixed t s ≡ true → is_home t s ≡ true
fixed_home t s h = ap (λ b. b || is_optional t s) h

optional_home : (t : Tables) (s : ℕ) → is_optional t s ≡ true → is_home t s ≡ true
optional_home t s h = go (is_fixed t s) (is_optional t s) h
  where
    go : (a b : Bool) → b ≡ true → (a || b) ≡ true
    go true b e = refl
    go false b e = e

-- what is made with an optional slot is fixed, or is that slot
made_home : (t : Tables) (o s : ℕ) → is_optional t o ≡ true → is_made_with t o s ≡ true → is_home t s ≡ true
unfolding is_made_with
made_home t o s opt made = go (length t.slots) made
  where
    here : (s == o) ≡ true → is_home t s ≡ true
    here e = optional_home t s (subst (λ n. is_optional t n ≡ true) (sym (eqb-true s o e)) opt)

    go : (up : ℕ) → is_made_within t o up s ≡ true → is_home t s ≡ true
    go zero e = here e
    go (suc up) e = elim (or_cases (s == o) (is_fixed t s && option_map_or (λ c. is_made_within t o up c) (container_of t s) false) e) [
      | inl same ↦ here same
      | inr fixed ↦ fixed_home t s (and_parts (is_fixed t s) (option_map_or (λ c. is_made_within t o up c) (container_of t s) false) fixed).0
    ]

-- what lives from the start is fixed
from_start_home : (t : Tables) (s : ℕ) → lives_from_start t s ≡ true → is_home t s ≡ true
unfolding lives_from_start
from_start_home t s h = fixed_home t s (go (length t.slots) h)
  where
    go : (up : ℕ) → is_fixed_up t up s ≡ true → is_fixed t s ≡ true
    go zero e = e
    go (suc up) e = (and_parts (is_fixed t s) (option_map_or (λ c. is_fixed_up t up c) (container_of t s) true) e).0

-- at a controller that doesn't own a slot, nobody lives there
pub not_own_dead : (t : Tables) (me : ℕ) (l : Lives) (s : ℕ) → IsSound t me l → is_own t me s ≡ false → l.lives s ≡ false
not_own_dead t me l s sound other =
    false_from (l.lives s) (λ live. not_true_false (is_own t me s) (sound.own s (sound.created s live)) other)

module _ (t : Tables) (me : ℕ) (l : Lives) where
  -- what is made with slot p and owned here lives then
  pub made_lives : (p s : ℕ) → is_made_with t p s ≡ true → is_own t me s ≡ true → (lives_made t me p l).lives s ≡ true
  unfolding lives_made comes_up
  made_lives p s made own = rw (made, own) (go (l.lives s))
    where
      go : (b : Bool) → (not b || b) ≡ true
      go true = refl
      go false = refl

  -- all else stays as it was
  pub made_stays : (p s : ℕ) → is_made_with t p s ≡ false → (lives_made t me p l).lives s ≡ l.lives s
  unfolding lives_made comes_up
  made_stays p s made = rw made refl

  pub ended_dead : (p s : ℕ) → is_own t me s ≡ true → is_reached t me l p s ≡ true → (lives_ended t me p l).lives s ≡ false
  unfolding lives_ended goes_down
  ended_dead p s own reached = rw (own, reached) (go (l.lives s))
    where
      go : (b : Bool) → (not b && b) ≡ false
      go true = refl
      go false = refl

  -- who lives after an end lived before it
  ended_lived : (p s : ℕ) → (lives_ended t me p l).lives s ≡ true → l.lives s ≡ true
  unfolding lives_ended
  ended_lived p s live = (and_parts (not (goes_down t me l p s)) (l.lives s) live).1

  pub ended_stays : (p s : ℕ) → is_reached t me l p s ≡ false → (lives_ended t me p l).lives s ≡ l.lives s
  unfolding lives_ended goes_down
  ended_stays p s reached = rw reached (go (is_own t me s) (l.lives s))
    where
      go : (a b : Bool) → (not ((a && false) && b) && b) ≡ b
      go true b = refl
      go false b = refl

module _ (t : Tables) (first : IsDepthFirst t) (me : ℕ) (l : Lives) (h : IsWhole t me l) where
  -- whether two slots are one
  one_or_other : (p o : ℕ) → ((p == o) ≡ true) ⊎ ((p == o) ≡ false)
  one_or_other p o = go (p == o) refl
    where
      go : (b : Bool) → (p == o) ≡ b → ((p == o) ≡ true) ⊎ ((p == o) ≡ false)
      go true e = inl e
      go false e = inr e

  reached_or_not : (p s : ℕ) → (is_reached t me l p s ≡ true) ⊎ (is_reached t me l p s ≡ false)
  reached_or_not p s = go (is_reached t me l p s) refl
    where
      go : (b : Bool) → is_reached t me l p s ≡ b → (is_reached t me l p s ≡ true) ⊎ (is_reached t me l p s ≡ false)
      go true e = inl e
      go false e = inr e

  made_whole : (p : ℕ) → is_optional t p ≡ true
      → ((c : ℕ) → is_own t me p ≡ true → container_of t p ≡ Some c → is_own t me c ≡ true → l.lives c ≡ true)
      → IsWhole t me (lives_made t me p l)
  made_whole p opt container =
      record {
        sound = made_sound t me p l h.sound;
        bodies = λ o s a b own made. body o s a b own made (one_or_other p o);
        firsts = λ s own f. made_stays t me l p s (first_not_made t p s opt f) ∙ h.firsts s own f;
        containers = λ s c own other a is live. holds s c own other a is live (one_or_other p s);
        homes = λ s live. home s live (is_made_with t p s) refl;
      }
    where
      home : (s : ℕ) → (lives_made t me p l).lives s ≡ true → (b : Bool) → is_made_with t p s ≡ b → is_home t s ≡ true
      home s live true e = made_home t p s opt e
      home s live false e = h.homes s (sym (made_stays t me l p s e) ∙ live)

      body : (o s : ℕ) → is_optional t o ≡ true → is_own t me o ≡ true → is_own t me s ≡ true → is_made_with t o s ≡ true
          → ((p == o) ≡ true) ⊎ ((p == o) ≡ false) → (lives_made t me p l).lives s ≡ (lives_made t me p l).lives o
      body o s a b own made (inl e) =
          let same : o ≡ p = sym (eqb-true p o e) in
          made_lives t me l p s (subst (λ z. is_made_with t z s ≡ true) same made) own
          ∙ sym (made_lives t me l p o (subst (λ z. is_made_with t z o ≡ true) same (made_itself t o)) b)
      body o s a b own made (inr e) =
          made_stays t me l p s (made_once t p o s opt a e made) ∙ h.bodies o s a b own made ∙ sym (made_stays t me l p o (made_once t p o o opt a e (made_itself t o)))

      -- what lived before lives
      more : (c : ℕ) → l.lives c ≡ true → (lives_made t me p l).lives c ≡ true
      more c live = go (is_made_with t p c) refl
        where
          go : (b : Bool) → is_made_with t p c ≡ b → (lives_made t me p l).lives c ≡ true
          go true e = made_lives t me l p c e (h.sound.own c (h.sound.created c live))
          go false e = made_stays t me l p c e ∙ live

      holds : (s c : ℕ) → is_own t me s ≡ true → is_own t me c ≡ true → is_optional t s ≡ true → container_of t s ≡ Some c → (lives_made t me p l).lives s ≡ true
          → ((p == s) ≡ true) ⊎ ((p == s) ≡ false) → (lives_made t me p l).lives c ≡ true
      holds s c own other a is live (inl e) =
          let same : s ≡ p = sym (eqb-true p s e) in
          more c (container c (subst (λ z. is_own t me z ≡ true) same own) (subst (λ z. container_of t z ≡ Some c) same is) other)
      holds s c own other a is live (inr e) =
          more c (h.containers s c own other a is (sym (made_stays t me l p s (made_once t p s s opt a e (made_itself t s))) ∙ live))

  ended_whole : (p : ℕ) → is_optional t p ≡ true → IsWhole t me (lives_ended t me p l)
  ended_whole p opt =
      record {
        sound = ended_sound t me p l h.sound;
        bodies = λ o s a b own made. body o s a b own made (reached_or_not p o);
        firsts = λ s own f. ended_stays t me l p s (first_not_reached t me l p s opt f) ∙ h.firsts s own f;
        containers = λ s c own other a is live. holds s c own other a is live (reached_or_not p s);
        homes = λ s live. h.homes s (ended_lived t me l p s live);
      }
    where
      body : (o s : ℕ) → is_optional t o ≡ true → is_own t me o ≡ true → is_own t me s ≡ true → is_made_with t o s ≡ true
          → (is_reached t me l p o ≡ true) ⊎ (is_reached t me l p o ≡ false) → (lives_ended t me p l).lives s ≡ (lives_ended t me p l).lives o
      body o s a b own made (inl e) = ended_dead t me l p s own (down_reached t me l first p o s made e) ∙ sym (ended_dead t me l p o b e)
      body o s a b own made (inr e) =
          let s_not : is_reached t me l p s ≡ false =
          false_from (is_reached t me l p s) (λ k. not_true_false (is_reached t me l p o) (top_reached t me l p o s opt made k) e) in
          ended_stays t me l p s s_not ∙ h.bodies o s a b own made ∙ sym (ended_stays t me l p o e)

      ends_with : (s c : ℕ) → is_optional t s ≡ true → l.lives s ≡ true → is_own t me c ≡ true → ends_by t me l s c ≡ true
      ends_with s c a live own = rw (not_fixed t s a, a, live, own) refl

      holds : (s c : ℕ) → is_own t me s ≡ true → is_own t me c ≡ true → is_optional t s ≡ true → container_of t s ≡ Some c → (lives_ended t me p l).lives s ≡ true
          → (is_reached t me l p s ≡ true) ⊎ (is_reached t me l p s ≡ false) → (lives_ended t me p l).lives c ≡ true
      holds s c own other a is live (inl e) = absurd (not_true_false ((lives_ended t me p l).lives s) live (ended_dead t me l p s own e))
      holds s c own other a is live (inr e) =
          let lived : l.lives s ≡ true = sym (ended_stays t me l p s e) ∙ live in
          let c_not : is_reached t me l p c ≡ false =
          false_from (is_reached t me l p c) (λ k.
          not_true_false (is_reached t me l p s) (reached_part t first me l p s c is (ends_with s c a lived other) k) e) in
          ended_stays t me l p c c_not ∙ h.containers s c own other a is lived

  pub step_whole : (next : Lives) → Stepped t me l next → IsWhole t me next
  step_whole next (stays e) = subst (IsWhole t me) (sym e) h
  step_whole next (makes p opt container e) = subst (IsWhole t me) (sym e) (made_whole p opt container)
  step_whole next (ends p opt e) = subst (IsWhole t me) (sym e) (ended_whole p opt)

and_false : (b : Bool) → (b && false) ≡ false
and_false true = refl
and_false false = refl

first_owned : (t : Tables) (me s : ℕ) (b : Bool) → (is_own t me s && lives_from_start t s) ≡ b → 1 ≤ (if b then 1 else 0) → is_own t me s ≡ true
first_owned t me s true e k = (and_parts (is_own t me s) (lives_from_start t s) e).0
first_owned t me s false e k = absurd (omega arith)

-- the lives at the start are so
pub first_whole : (t : Tables) (me : ℕ) → IsWhole t me (first_lives t me)
first_whole t me =
    record {
      sound = record { own = λ s h. first_owned t me s (is_own t me s && lives_from_start t s) refl h; created = created };
      bodies = λ o s a b own made.
          none s (false_from (lives_from_start t s) (λ f. not_true_false (is_made_with t o s) made (first_not_made t o s a f)))
          ∙ sym (none o (false_from (lives_from_start t o) (λ f. not_true_false (is_made_with t o o) (made_itself t o) (first_not_made t o o a f))));
      firsts = λ s own f. and_from (is_own t me s) (lives_from_start t s) own f;
      containers = λ s c own other a is live.
          absurd (not_true_false (is_made_with t s s) (made_itself t s) (first_not_made t s s a (and_parts (is_own t me s) (lives_from_start t s) live).1));
      homes = λ s live. from_start_home t s (and_parts (is_own t me s) (lives_from_start t s) live).1;
    }
  where
    none : (s : ℕ) → lives_from_start t s ≡ false → (is_own t me s && lives_from_start t s) ≡ false
    none s f = rw f (and_false (is_own t me s))

    created : (s : ℕ) → (is_own t me s && lives_from_start t s) ≡ true → 1 ≤ (if is_own t me s && lives_from_start t s then 1 else 0)
    created s h = rw h (omega arith)
