-- Messages fetched in the order of a poll, seen lane by lane.
use Rattle.std.proofs.Common.{◌≡◌, ℕ, zero, suc, ◌+◌, ◌-◌, ◌<◌, ◌≤◌, ◌⊎◌, inl, inr, Bool, true, false, if◌then◌else◌, List, [], ◌∷◌, ◌++◌, refl, sym, ap, ◌∙◌, subst, arith, append_assoc, append-nil}
use Rattle.std.proofs.lemmas.Bool.{cases_eq, cases_lt}
use Rattle.room_kinds.specs.declared.message.Msg.{Msg}
use Rattle.journal.specs.declared.entry.Entry.{Entry}
use Rattle.mail_core.specs.Lanes.{IsFor, AllFor}
use Rattle.mail_core.specs.SetUp.{of_controllers, at_priority, priorities, in_poll_order}
use Rattle.actor_merge.specs.Mail.{Lane, lane, is_lane, takes, taken}
use Rattle.actor_merge.proofs.Lanes.{is_lane-true, is_lane-same}
use Rattle.model_run.specs.run_rounds.Rounds.{Fetched}

-- the messages of one lane to controller c
abbrev pub pick : ℕ → ℕ → ℕ → List Msg → List Msg
pick s c p [] = []
pick s c p (m ∷ ms) = (if is_lane (lane s c p) (lane m.from.0 c m.prio.0) then m ∷ [] else []) ++ pick s c p ms

pub taken_fetched : (s c p : ℕ) (ms : List Msg) (es : List Entry) → Fetched ms es → taken (lane s c p) c es ≡ pick s c p ms
taken_fetched s c p [] [] h = refl
taken_fetched s c p [] (e ∷ es) h = absurd h
taken_fetched s c p (m ∷ ms) [] h = absurd h
taken_fetched s c p (m ∷ ms) (e ∷ es) h =
    subst (λ (z : Entry). takes (lane s c p) c z ++ taken (lane s c p) c es ≡ pick s c p (m ∷ ms)) (sym h.0.1)
    (ap (λ (z : List Msg). (if is_lane (lane s c p) (lane m.from.0 c m.prio.0) then m ∷ [] else []) ++ z) (taken_fetched s c p ms es h.1))

module _ (s c p : ℕ) where
  pick-append : (a b : List Msg) → pick s c p (a ++ b) ≡ pick s c p a ++ pick s c p b
  pick-append [] b = refl
  pick-append (m ∷ a) b =
      let head = if is_lane (lane s c p) (lane m.from.0 c m.prio.0) then m ∷ [] else [] in
      ap (λ (z : List Msg). head ++ z) (pick-append a b) ∙ sym (append_assoc head (pick s c p a) (pick s c p b))

  own_lane : (m : Msg) → IsFor s c p m → is_lane (lane s c p) (lane m.from.0 c m.prio.0) ≡ true
  own_lane m h =
      ap (λ (a : ℕ). is_lane (lane s c p) (lane a c m.prio.0)) h.from
      ∙ ap (λ (b : ℕ). is_lane (lane s c p) (lane s c b)) h.prio ∙ is_lane-same (lane s c p)

  -- a lane's own messages
  pick-same : (ms : List Msg) → AllFor s c p ms → pick s c p ms ≡ ms
  pick-same [] h = refl
  pick-same (m ∷ ms) h = rw (own_lane m h.0) (ap (λ (z : List Msg). m ∷ z) (pick-same ms h.1))

  other_lane : (t q : ℕ) (m : Msg) → IsFor t c q m → ((s ≡ t) × (p ≡ q) → ⊥) → is_lane (lane s c p) (lane m.from.0 c m.prio.0) ≡ false
  other_lane t q m h differ = go (is_lane (lane s c p) (lane m.from.0 c m.prio.0)) refl
    where
      go : (b : Bool) → is_lane (lane s c p) (lane m.from.0 c m.prio.0) ≡ b → b ≡ false
      go true e =
          let same = is_lane-true (lane s c p) (lane m.from.0 c m.prio.0) e in
          absurd (differ (ap (λ (l : Lane). l.sender) same ∙ h.from, ap (λ (l : Lane). l.priority) same ∙ h.prio))
      go false e = refl

  -- another lane's messages
  pick-other : (t q : ℕ) (ms : List Msg) → AllFor t c q ms → ((s ≡ t) × (p ≡ q) → ⊥) → pick s c p ms ≡ []
  pick-other t q [] h differ = refl
  pick-other t q (m ∷ ms) h differ = rw (other_lane t q m h.0 differ) (pick-other t q ms h.1 differ)

  append_nothing : (a b : List Msg) → pick s c p a ≡ [] → pick s c p b ≡ [] → pick s c p (a ++ b) ≡ []
  append_nothing a b h k = pick-append a b ∙ ap (λ (z : List Msg). z ++ pick s c p b) h ∙ k

  append_front : (a b ms : List Msg) → pick s c p a ≡ ms → pick s c p b ≡ [] → pick s c p (a ++ b) ≡ ms
  append_front a b ms h k = pick-append a b ∙ ap (λ (z : List Msg). pick s c p a ++ z) k ∙ append-nil (pick s c p a) ∙ h

  append_behind : (a b ms : List Msg) → pick s c p a ≡ [] → pick s c p b ≡ ms → pick s c p (a ++ b) ≡ ms
  append_behind a b ms h k = pick-append a b ∙ ap (λ (z : List Msg). z ++ pick s c p b) h ∙ k

  controllers_miss : (g : ℕ → List Msg) (k : ℕ) → ((j : ℕ) → j < k → pick s c p (g j) ≡ []) → pick s c p (of_controllers g k) ≡ []
  controllers_miss g zero h = refl
  controllers_miss g (suc k) h = append_nothing (of_controllers g k) (g k) (controllers_miss g k (λ j b. h j (omega arith))) (h k (omega arith))

  controllers_hit : (g : ℕ → List Msg) (k : ℕ) → s < k → ((j : ℕ) → j < k → (j ≡ s → ⊥) → pick s c p (g j) ≡ [])
      → pick s c p (of_controllers g k) ≡ pick s c p (g s)
  controllers_hit g zero b h = absurd (omega arith)
  controllers_hit g (suc k) b h = elim (cases_eq s k) [
    | inl same ↦ append_behind (of_controllers g k) (g k) (pick s c p (g s))
        (controllers_miss g k (λ j below. h j (omega arith) (λ e. absurd (omega arith))))
        (ap (λ (j : ℕ). pick s c p (g j)) (sym same))
    | inr other ↦ append_front (of_controllers g k) (g k) (pick s c p (g s))
        (controllers_hit g k (omega arith) (λ j below differ. h j (omega arith) differ))
        (h k (omega arith) (λ e. other (sym e)))
  ]

  priority_miss : (n : ℕ) (g : ℕ → List Msg) → 0 < n → ((j : ℕ) → j < n → pick s c p (g j) ≡ []) → pick s c p (at_priority n g) ≡ []
  priority_miss n g some h = append_nothing (g (n - 1)) (of_controllers g (n - 1)) (h (n - 1) (omega arith)) (controllers_miss g (n - 1) (λ j b. h j (omega arith)))

  priority_hit : (n : ℕ) (g : ℕ → List Msg) → s < n → ((j : ℕ) → j < n → (j ≡ s → ⊥) → pick s c p (g j) ≡ []) → pick s c p (at_priority n g) ≡ pick s c p (g s)
  priority_hit n g b h = elim (cases_eq s (n - 1)) [
    | inl last ↦ append_front (g (n - 1)) (of_controllers g (n - 1)) (pick s c p (g s))
        (ap (λ (j : ℕ). pick s c p (g j)) (sym last))
        (controllers_miss g (n - 1) (λ j below. h j (omega arith) (λ e. absurd (omega arith))))
    | inr other ↦ append_behind (g (n - 1)) (of_controllers g (n - 1)) (pick s c p (g s))
        (h (n - 1) (omega arith) (λ e. other (sym e)))
        (controllers_hit g (n - 1) (omega arith) (λ j below differ. h j (omega arith) differ))
  ]

  module _ (n : ℕ) (f : ℕ → ℕ → List Msg) (some : 0 < n) where
    -- where no lane's messages are of this lane
    all_miss : ((t q : ℕ) → t < n → q < 6 → pick s c p (f t q) ≡ []) → (k : ℕ) → k ≤ 6 → pick s c p (priorities n f k) ≡ []
    all_miss h zero b = refl
    all_miss h (suc k) b =
        append_nothing (priorities n f k) (at_priority n (λ t. f t (5 - k))) (all_miss h k (omega arith))
        (priority_miss n (λ t. f t (5 - k)) some (λ j below. h j (5 - k) below (omega arith)))

    pub order_misses : ((t q : ℕ) → t < n → q < 6 → AllFor t c q (f t q)) → (n ≤ s) ⊎ (6 ≤ p) → pick s c p (in_poll_order n f) ≡ []
    unfolding in_poll_order
    order_misses h o =
        all_miss (λ t q a b. pick-other t q (f t q) (h t q a b) (λ e. elim o [ inl far ↦ absurd (omega (arith, e.0)) | inr low ↦ absurd (omega (arith, e.1)) ])) 6 (omega arith)

    module _ (h : (t q : ℕ) → t < n → q < 6 → AllFor t c q (f t q)) (b : s < n) (d : p < 6) where
      another : (q : ℕ) → q < 6 → (p ≡ q → ⊥) → pick s c p (at_priority n (λ t. f t q)) ≡ []
      another q below differ = priority_miss n (λ t. f t q) some (λ j in_range. pick-other j q (f j q) (h j q in_range below) (λ e. differ e.1))

      here : (q : ℕ) → p ≡ q → pick s c p (at_priority n (λ t. f t q)) ≡ f s p
      here q same =
          subst (λ (z : ℕ). pick s c p (at_priority n (λ t. f t z)) ≡ f s p) same
          (priority_hit n (λ t. f t p) b (λ j in_range differ. pick-other j p (f j p) (h j p in_range d) (λ e. differ (sym e.0)))
          ∙ pick-same (f s p) (h s p b d))

      before : (k : ℕ) → k + p < 6 → pick s c p (priorities n f k) ≡ []
      before zero low = refl
      before (suc k) low =
          append_nothing (priorities n f k) (at_priority n (λ t. f t (5 - k))) (before k (omega arith))
          (another (5 - k) (omega arith) (λ e. absurd (omega arith)))

      from_there : (k : ℕ) → k ≤ 6 → 6 ≤ k + p → pick s c p (priorities n f k) ≡ f s p
      from_there zero top high = absurd (omega arith)
      from_there (suc k) top high = elim (cases_lt (k + p) 6) [
        | inl low ↦ append_behind (priorities n f k) (at_priority n (λ t. f t (5 - k))) (f s p) (before k low) (here (5 - k) (omega arith))
        | inr past ↦ append_front (priorities n f k) (at_priority n (λ t. f t (5 - k))) (f s p) (from_there k (omega arith) past)
            (another (5 - k) (omega arith) (λ e. absurd (omega arith)))
      ]

      -- the messages of a lane among those of all lanes
      pub order_picks : pick s c p (in_poll_order n f) ≡ f s p
      unfolding in_poll_order
      order_picks = from_there 6 (omega arith) (omega arith)
