-- What is made with an optional slot, and what its end reaches.
use Rattle.std.proofs.Common.{◌≡◌, ℕ, zero, suc, ◌==◌, ◌&&◌, true, false, length, Option, Some, None, refl, sym, ◌∙◌, subst, eq-eqb, eqb-true, arith, ⊎_elim}
use Rattle.std.specs.Option.{option_map_or}
use Rattle.std.proofs.lemmas.Bool.{and_parts, and_from, or_cases, or_left, or_right, ne_eqb, eqb-false}
use Rattle.room_kinds.specs.declared.structure.ReferenceKind.{ReferenceKind as Kind}
use Rattle.room_kinds.specs.declared.structure.ReferenceKind.TheVariants as reference_kinds
use Rattle.room_wiring.specs.declared.tables.Tables.{Tables}
use Rattle.room_wiring.specs.declared.slot.Slot.{Slot}
use Rattle.room_wiring.specs.Slots.{slot_at}
use Rattle.actor_duties.specs.Words.{is_own, is_fixed, is_fixed_kind, is_optional, is_optional_kind, container_of}
use Rattle.actor_duties.specs.State.{Lives}
use Rattle.actor_duties.specs.Lives.{is_made_within, is_made_with, ends_by, is_reached_within, is_reached}
use Rattle.actor_world.specs.Start.{is_fixed_up, lives_from_start}
use Rattle.service_messages.specs.slot_runs.Runs.{IsDepthFirst}
use Rattle.service_messages.proofs.slot_runs.RunLemmas.{held_true, held_from, false_from, same_some, not_true_false}
use Rattle.frame_lives.proofs.Reached.{reached_part}

module _ (t : Tables) where
  -- an optional slot isn't fixed
  pub not_fixed : (s : ℕ) → is_optional t s ≡ true → is_fixed t s ≡ false
  unfolding is_optional is_fixed
  not_fixed s h = go (slot_at t s) h
    where
      kind : (k : Kind) → is_optional_kind k ≡ true → is_fixed_kind k ≡ false
      kind reference_kinds.Fixed e = absurd cc
      kind reference_kinds.Optional e = refl
      kind reference_kinds.Imported e = refl

      go : (o : Option Slot) → option_map_or (λ (x : Slot). is_optional_kind x.kind) o false ≡ true → option_map_or (λ (x : Slot). is_fixed_kind x.kind) o false ≡ false
      go None e = absurd cc
      go (Some x) e = kind x.kind e

  -- a fixed slot is no optional one
  pub apart : (s p : ℕ) → is_fixed t s ≡ true → is_optional t p ≡ true → (s == p) ≡ false
  apart s p f o = ne_eqb s p (λ e. not_true_false (is_fixed t s) f (subst (λ z. is_fixed t z ≡ false) (sym e) (not_fixed p o)))

  -- made with o: it is o, or fixed in one that is
  pub data MadeBy (o up s : ℕ) : Type 0 where
    itself : s ≡ o → MadeBy o up s
    inside : (c k : ℕ) → up ≡ suc k → is_fixed t s ≡ true → container_of t s ≡ Some c → is_made_within t o k c ≡ true → MadeBy o up s

  pub made_by : (o up s : ℕ) → is_made_within t o up s ≡ true → MadeBy o up s
  made_by o zero s h = itself (eqb-true s o h)
  made_by o (suc k) s h = ⊎_elim
      (λ e. itself (eqb-true s o e))
      (λ e.
      let p = and_parts (is_fixed t s) (option_map_or (λ c. is_made_within t o k c) (container_of t s) false) e in
      let c = held_true (λ c. is_made_within t o k c) (container_of t s) p.1 in
      inside c.0 k refl p.0 c.1 c.2)
      (or_cases (s == o) (is_fixed t s && option_map_or (λ c. is_made_within t o k c) (container_of t s) false) h)

  pub made_itself : (o : ℕ) → is_made_with t o o ≡ true
  unfolding is_made_with
  made_itself o = go (length t.slots)
    where
      go : (n : ℕ) → is_made_within t o n o ≡ true
      go zero = eq-eqb o o refl
      go (suc n) = or_left (o == o) (is_fixed t o && option_map_or (λ c. is_made_within t o n c) (container_of t o) false) (eq-eqb o o refl)

  -- a slot is made with one optional slot at most
  made_once_within : (p o : ℕ) → is_optional t p ≡ true → is_optional t o ≡ true → (p ≡ o → ⊥) → (n m s : ℕ) → is_made_within t o m s ≡ true → is_made_within t p n s ≡ true → ⊥
  made_once_within p o a b differ zero m s h k =
      let same : s ≡ p = eqb-true s p k in
      go (made_by o m s h)
    where
      go : MadeBy o m s → ⊥
      go (itself e) = differ (sym (eqb-true s p k) ∙ e)
      go (inside c j up f is h2) = not_true_false (is_fixed t s) f (subst (λ z. is_fixed t z ≡ false) (sym (eqb-true s p k)) (not_fixed p a))
  made_once_within p o a b differ (suc n) m s h k = go (made_by o m s h) (made_by p (suc n) s k) (λ j c. made_once_within p o a b differ n j c)
    where
      go : MadeBy o m s → MadeBy p (suc n) s → ((j c : ℕ) → is_made_within t o j c ≡ true → is_made_within t p n c ≡ true → ⊥) → ⊥
      go (itself e) (itself f) ih = differ (sym f ∙ e)
      go (itself e) (inside c j up f is h2) ih = not_true_false (is_fixed t s) f (subst (λ z. is_fixed t z ≡ false) (sym e) (not_fixed o b))
      go (inside c j up f is h2) (itself e) ih = not_true_false (is_fixed t s) f (subst (λ z. is_fixed t z ≡ false) (sym e) (not_fixed p a))
      go (inside c j up f is h2) (inside d i u g it h3) ih =
          let same : d ≡ c = same_some t s d c it is in
          let less : i ≡ n = omega arith in
          ih j c h2 (subst (λ z. is_made_within t p n z ≡ true) same (subst (λ z. is_made_within t p z d ≡ true) less h3))

  pub made_once : (p o s : ℕ) → is_optional t p ≡ true → is_optional t o ≡ true → (p == o) ≡ false → is_made_with t o s ≡ true → is_made_with t p s ≡ false
  unfolding is_made_with
  made_once p o s a b differ h =
      false_from (is_made_within t p (length t.slots) s) (λ k. made_once_within p o a b (eqb-false p o differ) (length t.slots) (length t.slots) s h k)

  -- what is fixed up to the top is made with no optional slot
  fixed_not_made : (o : ℕ) → is_optional t o ≡ true → (n s : ℕ) → is_made_within t o n s ≡ true → is_fixed_up t n s ≡ true → ⊥
  fixed_not_made o b zero s h f = not_true_false (is_fixed t s) f (subst (λ z. is_fixed t z ≡ false) (sym (eqb-true s o h)) (not_fixed o b))
  fixed_not_made o b (suc n) s h f = go (made_by o (suc n) s h) (λ c. fixed_not_made o b n c)
    where
      parts : (is_fixed t s ≡ true) × (option_map_or (λ c. is_fixed_up t n c) (container_of t s) true ≡ true)
      parts = and_parts (is_fixed t s) (option_map_or (λ c. is_fixed_up t n c) (container_of t s) true) f

      go : MadeBy o (suc n) s → ((c : ℕ) → is_made_within t o n c ≡ true → is_fixed_up t n c ≡ true → ⊥) → ⊥
      go (itself e) ih = not_true_false (is_fixed t s) parts.0 (subst (λ z. is_fixed t z ≡ false) (sym e) (not_fixed o b))
      go (inside c j up g is h2) ih =
          let less : j ≡ n = omega arith in
          ih c (subst (λ z. is_made_within t o z c ≡ true) less h2) (rw is at parts.1)

  pub first_not_made : (o s : ℕ) → is_optional t o ≡ true → lives_from_start t s ≡ true → is_made_with t o s ≡ false
  unfolding is_made_with lives_from_start
  first_not_made o s b f = false_from (is_made_within t o (length t.slots) s) (λ h. fixed_not_made o b (length t.slots) s h f)

  module _ (me : ℕ) (l : Lives) where
    -- reached from p: it is p, or ends with its container, which is reached
    pub data ReachedBy (p up s : ℕ) : Type 0 where
      origin : s ≡ p → ReachedBy p up s
      through : (c k : ℕ) → up ≡ suc k → container_of t s ≡ Some c → ends_by t me l s c ≡ true → is_reached_within t me l p k c ≡ true → ReachedBy p up s

    reached_by : (p up s : ℕ) → is_reached_within t me l p up s ≡ true → ReachedBy p up s
    reached_by p zero s h = origin (eqb-true s p h)
    reached_by p (suc k) s h = ⊎_elim
        (λ e. origin (eqb-true s p e))
        (λ e.
        let c = held_true (λ c. ends_by t me l s c && is_reached_within t me l p k c) (container_of t s) e in
        let q = and_parts (ends_by t me l s c.0) (is_reached_within t me l p k c.0) c.2 in
        through c.0 k refl c.1 q.0 q.1)
        (or_cases (s == p) (option_map_or (λ c. ends_by t me l s c && is_reached_within t me l p k c) (container_of t s) false) h)

    ends_fixed : (s c : ℕ) → is_fixed t s ≡ true → ends_by t me l s c ≡ true
    ends_fixed s c f = or_left (is_fixed t s) (is_optional t s && l.lives s && is_own t me c) f

    itself_within : (p n : ℕ) → is_reached_within t me l p n p ≡ true
    itself_within p zero = eq-eqb p p refl
    itself_within p (suc k) =
        or_left (p == p) (option_map_or (λ c. ends_by t me l p c && is_reached_within t me l p k c) (container_of t p) false) (eq-eqb p p refl)

    -- more looks find no less
    reached_more : (p n s : ℕ) → is_reached_within t me l p n s ≡ true → is_reached_within t me l p (suc n) s ≡ true
    reached_more p zero s h =
        or_left (s == p) (option_map_or (λ c. ends_by t me l s c && is_reached_within t me l p zero c) (container_of t s) false) h
    reached_more p (suc n) s h = go (reached_by p (suc n) s h) (λ c. reached_more p n c)
      where
        go : ReachedBy p (suc n) s → ((c : ℕ) → is_reached_within t me l p n c ≡ true → is_reached_within t me l p (suc n) c ≡ true) → is_reached_within t me l p (suc (suc n)) s ≡ true
        go (origin e) ih =
            or_left (s == p) (option_map_or (λ c. ends_by t me l s c && is_reached_within t me l p (suc n) c) (container_of t s) false) (eq-eqb s p e)
        go (through c k up is ends h2) ih =
            let less : k ≡ n = omega arith in
            or_right (s == p) (option_map_or (λ c. ends_by t me l s c && is_reached_within t me l p (suc n) c) (container_of t s) false)
            (held_from (λ c. ends_by t me l s c && is_reached_within t me l p (suc n) c) (container_of t s) c false is
            (and_from (ends_by t me l s c) (is_reached_within t me l p (suc n) c) ends (ih c (subst (λ z. is_reached_within t me l p z c ≡ true) less h2))))

    -- the end of an optional slot reaches its body
    body_within : (o n s : ℕ) → is_made_within t o n s ≡ true → is_reached_within t me l o n s ≡ true
    body_within o zero s h = h
    body_within o (suc n) s h = go (made_by o (suc n) s h) (λ c. body_within o n c)
      where
        go : MadeBy o (suc n) s → ((c : ℕ) → is_made_within t o n c ≡ true → is_reached_within t me l o n c ≡ true) → is_reached_within t me l o (suc n) s ≡ true
        go (itself e) ih = subst (λ z. is_reached_within t me l o (suc n) z ≡ true) (sym e) (itself_within o (suc n))
        go (inside c k up f is h2) ih =
            let less : k ≡ n = omega arith in
            or_right (s == o) (option_map_or (λ c. ends_by t me l s c && is_reached_within t me l o n c) (container_of t s) false)
            (held_from (λ c. ends_by t me l s c && is_reached_within t me l o n c) (container_of t s) c false is
            (and_from (ends_by t me l s c) (is_reached_within t me l o n c) (ends_fixed s c f) (ih c (subst (λ z. is_made_within t o z c ≡ true) less h2))))

    pub body_reached : (o s : ℕ) → is_made_with t o s ≡ true → is_reached t me l o s ≡ true
    unfolding is_made_with is_reached
    body_reached o s h = body_within o (length t.slots) s h

    -- where the end of an optional slot reaches what is in a body, it reaches the slot of that body
    top_within : (p o : ℕ) → is_optional t p ≡ true → (m n s : ℕ) → is_made_within t o m s ≡ true → is_reached_within t me l p n s ≡ true → is_reached_within t me l p n o ≡ true
    top_within p o a zero n s h k = subst (λ z. is_reached_within t me l p n z ≡ true) (eqb-true s o h) k
    top_within p o a (suc m) n s h k = go n k (made_by o (suc m) s h) (reached_by p n s k) (λ i c. top_within p o a m i c)
      where
        go : (n : ℕ) → is_reached_within t me l p n s ≡ true → MadeBy o (suc m) s → ReachedBy p n s
            → ((i c : ℕ) → is_made_within t o m c ≡ true → is_reached_within t me l p i c ≡ true → is_reached_within t me l p i o ≡ true)
            → is_reached_within t me l p n o ≡ true
        go n k (itself e) r ih = subst (λ z. is_reached_within t me l p n z ≡ true) e k
        go n k (inside c j up f is h2) (origin e) ih =
            absurd (not_true_false (is_fixed t s) f (subst (λ z. is_fixed t z ≡ false) (sym e) (not_fixed p a)))
        go zero k (inside c j up f is h2) (through d i u it ends h3) ih = absurd (omega arith)
        go (suc n) k (inside c j up f is h2) (through d i u it ends h3) ih =
            let same : d ≡ c = same_some t s d c it is in
            let less : j ≡ m = omega arith in
            let fewer : i ≡ n = omega arith in
            reached_more p n o
            (ih n c (subst (λ z. is_made_within t o z c ≡ true) less h2)
            (subst (λ z. is_reached_within t me l p n z ≡ true) same (subst (λ z. is_reached_within t me l p z d ≡ true) fewer h3)))

    pub top_reached : (p o s : ℕ) → is_optional t p ≡ true → is_made_with t o s ≡ true → is_reached t me l p s ≡ true → is_reached t me l p o ≡ true
    unfolding is_made_with is_reached
    top_reached p o s a h k = top_within p o a (length t.slots) (length t.slots) s h k

    -- where it reaches the slot of a body, it reaches the body
    down_within : IsDepthFirst t → (p o : ℕ) → is_reached t me l p o ≡ true → (n s : ℕ) → is_made_within t o n s ≡ true → is_reached t me l p s ≡ true
    down_within first p o k zero s h = subst (λ z. is_reached t me l p z ≡ true) (sym (eqb-true s o h)) k
    down_within first p o k (suc n) s h = go (made_by o (suc n) s h) (λ c. down_within first p o k n c)
      where
        go : MadeBy o (suc n) s → ((c : ℕ) → is_made_within t o n c ≡ true → is_reached t me l p c ≡ true) → is_reached t me l p s ≡ true
        go (itself e) ih = subst (λ z. is_reached t me l p z ≡ true) (sym e) k
        go (inside c j up f is h2) ih =
            let less : j ≡ n = omega arith in
            reached_part t first me l p s c is (ends_fixed s c f) (ih c (subst (λ z. is_made_within t o z c ≡ true) less h2))

    pub down_reached : IsDepthFirst t → (p o s : ℕ) → is_made_with t o s ≡ true → is_reached t me l p o ≡ true → is_reached t me l p s ≡ true
    unfolding is_made_with
    down_reached first p o s h k = down_within first p o k (length t.slots) s h

    -- at a controller where an optional slot doesn't live, the end of another doesn't reach it
    other_not_reached : (p o : ℕ) → is_optional t o ≡ true → (p ≡ o → ⊥) → l.lives o ≡ false → (n : ℕ) → is_reached_within t me l p n o ≡ true → ⊥
    other_not_reached p o b differ dead n h = go (reached_by p n o h)
      where
        go : ReachedBy p n o → ⊥
        go (origin e) = differ (sym e)
        go (through c k up is ends h2) = ⊎_elim
            (λ f. not_true_false (is_fixed t o) f (not_fixed o b))
            (λ f. not_true_false (l.lives o) (and_parts (is_optional t o) (l.lives o) (and_parts (is_optional t o && l.lives o) (is_own t me c) f).0).1 dead)
            (or_cases (is_fixed t o) ((is_optional t o && l.lives o) && is_own t me c) ends)

    pub not_reached : (p o s : ℕ) → is_optional t p ≡ true → is_optional t o ≡ true → (p == o) ≡ false → is_made_with t o s ≡ true → l.lives o ≡ false
        → is_reached t me l p s ≡ false
    unfolding is_reached
    not_reached p o s a b differ made dead =
        false_from (is_reached_within t me l p (length t.slots) s)
        (λ k. other_not_reached p o b (eqb-false p o differ) dead (length t.slots) (top_reached p o s a made k))

    -- the end of an optional slot reaches nothing that is fixed up to the top
    first_within : (p : ℕ) → is_optional t p ≡ true → (n s : ℕ) → is_fixed_up t n s ≡ true → is_reached_within t me l p n s ≡ true → ⊥
    first_within p a zero s f h = not_true_false (s == p) h (apart s p f a)
    first_within p a (suc n) s f h = go (reached_by p (suc n) s h) (λ c. first_within p a n c)
      where
        parts : (is_fixed t s ≡ true) × (option_map_or (λ c. is_fixed_up t n c) (container_of t s) true ≡ true)
        parts = and_parts (is_fixed t s) (option_map_or (λ c. is_fixed_up t n c) (container_of t s) true) f

        go : ReachedBy p (suc n) s → ((c : ℕ) → is_fixed_up t n c ≡ true → is_reached_within t me l p n c ≡ true → ⊥) → ⊥
        go (origin e) ih = eqb-false s p (apart s p parts.0 a) e
        go (through c k up is ends h2) ih =
            let less : k ≡ n = omega arith in
            ih c (rw is at parts.1) (subst (λ z. is_reached_within t me l p z c ≡ true) less h2)

    pub first_not_reached : (p s : ℕ) → is_optional t p ≡ true → lives_from_start t s ≡ true → is_reached t me l p s ≡ false
    unfolding lives_from_start is_reached
    first_not_reached p s a f = false_from (is_reached_within t me l p (length t.slots) s) (λ h. first_within p a (length t.slots) s f h)
