-- Steps of the lanes of an office and of what the ends did.
use Rattle.std.proofs.Common.{ℕ, ◌+◌, ◌*◌, ◌^◌, ◌<◌, ◌≡◌, ◌≢◌, ◌⊎◌, inl, inr, List, [], ◌∷◌, ◌++◌, length, set, Some, None, refl, sym, ap, subst, ◌∙◌, arith, append_assoc}
use Rattle.std.proofs.lemmas.Grind.{common_steps}
use Rattle.std.proofs.lemmas.Bool.{cases_eq}
use Rattle.std.proofs.lemmas.Nat.{same_from_place, row_fits}
use Rattle.std.proofs.lemmas.List.{get_or-set_same, get_or-set_other, length-set, length_push}
use Rattle.room_kinds.specs.declared.message.Msg.{Msg}
use Rattle.mail_core.specs.EndLog.{EndLog, gained, posting, taking}
use Rattle.mail_core.specs.Lanes.{lane_number, lane_of, log_at, IsFor, AllFor, LanesMatch}

-- a lane is within the office
pub lane_number-below : (n s r p : ℕ) → s < n → r < n → p < 6 → lane_number n s r p < (n * n) * 6
lane_number-below n s r p a b c = omega (arith, row_fits r n n n b (omega arith))

-- two lanes with one number are one lane
pub same_lane : (n s r p s' r' p' : ℕ) → s < n → s' < n → p < 6 → p' < 6 → lane_number n s r p ≡ lane_number n s' r' p' → (r ≡ r') × (s ≡ s') × (p ≡ p')
same_lane n s r p s' r' p' a a' b b' e =
    let x = same_from_place (r * n + s) p (r' * n + s') p' 6 b b' e in
    let y = same_from_place r s r' s' n a a' x.0 in
    (y.0, y.1, x.1)

-- a lane after a change of one
pub lane_of-set_same : (n s r p : ℕ) (lanes : List (List Msg)) (ms : List Msg) → s < n → r < n → p < 6 → length lanes ≡ (n * n) * 6 → lane_of (set lanes (lane_number n s r p) ms) n s r p ≡ ms
lane_of-set_same n s r p lanes ms a b c l = get_or-set_same lanes (lane_number n s r p) ms [] (rw l (lane_number-below n s r p a b c))

pub AllFor-push : (s r p : ℕ) (ms : List Msg) (m : Msg) → AllFor s r p ms → IsFor s r p m → AllFor s r p (ms ++ m ∷ [])
AllFor-push s r p [] m a i = (i, tt)
AllFor-push s r p (x ∷ ms) m a i = (a.0, AllFor-push s r p ms m a.1 i)

-- another lane stays
pub lane_of-set_other : (n s r p s' r' p' : ℕ) (lanes : List (List Msg)) (ms : List Msg) → s < n → s' < n → p < 6 → p' < 6 → ((r ≡ r') × (s ≡ s') × (p ≡ p') → ⊥) → lane_of (set lanes (lane_number n s r p) ms) n s' r' p' ≡ lane_of lanes n s' r' p'
lane_of-set_other n s r p s' r' p' lanes ms a a' b b' other =
    get_or-set_other lanes (lane_number n s r p) (lane_number n s' r' p') ms [] (λ e. other (same_lane n s r p s' r' p' a a' b b' (sym e)))

pub gained-same : (f : ℕ → ℕ → List Msg) (k p k' p' : ℕ) (m : Msg) → k' ≡ k → p' ≡ p → gained f k p m k' p' ≡ f k' p' ++ m ∷ []
gained-same f k p k' p' m e g = grind (arith, common_steps)

pub gained-other : (f : ℕ → ℕ → List Msg) (k p k' p' : ℕ) (m : Msg) → ((k' ≡ k) × (p' ≡ p) → ⊥) → gained f k p m k' p' ≡ f k' p'
gained-other f k p k' p' m other = grind (arith, common_steps)

pub log_at-set_same : (logs : List EndLog) (s : ℕ) (l : EndLog) → s < length logs → log_at (set logs s l) s ≡ l
log_at-set_same logs s l h = get_or-set_same logs s l _ h

pub log_at-set_other : (logs : List EndLog) (s k : ℕ) (l : EndLog) → k ≢ s → log_at (set logs s l) k ≡ log_at logs k
log_at-set_other logs s k l h = get_or-set_other logs s k l _ h

-- what a change of one log keeps of each
pub kept_of_each : {X : Type 0} (f : EndLog → X) (logs : List EndLog) (s k : ℕ) (l : EndLog) → s < length logs → f l ≡ f (log_at logs s) → f (log_at (set logs s l) k) ≡ f (log_at logs k)
kept_of_each f logs s k l h e = elim (cases_eq k s) [
  | inl same ↦ subst (λ j. f (log_at (set logs s l) j) ≡ f (log_at logs j)) (sym same) (ap f (log_at-set_same logs s l h) ∙ e)
  | inr other ↦ ap f (log_at-set_other logs s k l other)
]

-- is it this lane?
pub cases_lane : (s r p s' r' p' : ℕ) → ((r ≡ r') × (s ≡ s') × (p ≡ p')) ⊎ ((r ≡ r') × (s ≡ s') × (p ≡ p') → ⊥)
cases_lane s r p s' r' p' = elim (cases_eq r r') [
  | inr differs ↦ inr (λ h. differs h.0)
  | inl rs ↦ elim (cases_eq s s') [
    | inr differs ↦ inr (λ h. differs h.1)
    | inl ss ↦ elim (cases_eq p p') [ inr differs ↦ inr (λ h. differs h.2) | inl ps ↦ inl (rs, ss, ps) ]
  ]
]

pub at_lane : (P : ℕ → ℕ → ℕ → Type 0) (s r p s' r' p' : ℕ) → (r ≡ r') × (s ≡ s') × (p ≡ p') → P s r p → P s' r' p'
at_lane P s r p s' r' p' (e, f, g) x = subst (λ a. P a r' p') f (subst (λ b. P s b p') e (subst (λ c. P s r c) g x))

-- what is posted after a post, in each lane
pub posted-same : (logs : List EndLog) (s r p : ℕ) (m : Msg) → s < length logs → IsFor s r p m → (log_at (set logs s (posting (log_at logs s) m)) s).posted r p ≡ (log_at logs s).posted r p ++ m ∷ []
unfolding posting
posted-same logs s r p m h i = ap (λ l. l.posted r p) (log_at-set_same logs s (posting (log_at logs s) m) h) ∙ gained-same (log_at logs s).posted m.to.0 m.prio.0 r p m (sym i.to) (sym i.prio)

pub posted-other : (logs : List EndLog) (s r p s' r' p' : ℕ) (m : Msg) → s < length logs → IsFor s r p m → ((r ≡ r') × (s ≡ s') × (p ≡ p') → ⊥) → (log_at (set logs s (posting (log_at logs s) m)) s').posted r' p' ≡ (log_at logs s').posted r' p'
unfolding posting
posted-other logs s r p s' r' p' m h i other = elim (cases_eq s' s) [
  | inl same ↦ subst (λ j. (log_at (set logs s (posting (log_at logs s) m)) j).posted r' p' ≡ (log_at logs j).posted r' p') (sym same)
      (ap (λ l. l.posted r' p') (log_at-set_same logs s (posting (log_at logs s) m) h) ∙ gained-other (log_at logs s).posted m.to.0 m.prio.0 r' p' m
      (λ (e, g). other (sym i.to ∙ sym e, sym same, sym i.prio ∙ sym g)))
  | inr differs ↦ ap (λ l. l.posted r' p') (log_at-set_other logs s s' (posting (log_at logs s) m) differs)
]

-- a post keeps what is kept
pub LanesMatch-post : (n s r p : ℕ) (lanes : List (List Msg)) (logs : List EndLog) (m : Msg) → LanesMatch n lanes logs → s < n → r < n → p < 6 → IsFor s r p m →
    length ((log_at logs s).posted r p) + 1 < 2 ^ 63 →
    LanesMatch n (set lanes (lane_number n s r p) (lane_of lanes n s r p ++ m ∷ [])) (set logs s (posting (log_at logs s) m))
unfolding posting
LanesMatch-post n s r p lanes logs m k a b c i short =
    let here : s < length logs = rw k.all_ends a in
    let logs' = set logs s (posting (log_at logs s) m) in
    let lanes' = set lanes (lane_number n s r p) (lane_of lanes n s r p ++ m ∷ []) in
    record {
      all_ends = length-set logs s _ ∙ k.all_ends;
      all_lanes = length-set lanes _ _ ∙ k.all_lanes;
      party = λ j h. kept_of_each (λ l. l.party) logs s j (posting (log_at logs s) m) here refl ∙ k.party j h;
      parties = λ j h. kept_of_each (λ l. l.parties) logs s j (posting (log_at logs s) m) here refl ∙ k.parties j h;
      kept = λ s' r' p' a' b' c'.
          let took : (log_at logs' r').taken ≡ (log_at logs r').taken = kept_of_each (λ l. l.taken) logs s r' (posting (log_at logs s) m) here refl in
          elim (cases_lane s r p s' r' p') [
            | inl same ↦ ap (λ f. f s' p' ++ lane_of lanes' n s' r' p') took
                ∙ at_lane (λ x y z. (log_at logs y).taken x z ++ lane_of lanes' n x y z ≡ (log_at logs' x).posted y z) s r p s' r' p' same
                (ap (λ ms. (log_at logs r).taken s p ++ ms) (lane_of-set_same n s r p lanes (lane_of lanes n s r p ++ m ∷ []) a b c k.all_lanes)
                ∙ sym (append_assoc ((log_at logs r).taken s p) (lane_of lanes n s r p) (m ∷ []))
                ∙ ap (λ ms. ms ++ m ∷ []) (k.kept s r p a b c)
                ∙ sym (posted-same logs s r p m here i))
            | inr other ↦ ap (λ f. f s' p' ++ lane_of lanes' n s' r' p') took
                ∙ ap (λ ms. (log_at logs r').taken s' p' ++ ms) (lane_of-set_other n s r p s' r' p' lanes (lane_of lanes n s r p ++ m ∷ []) a a' c c' other)
                ∙ k.kept s' r' p' a' b' c'
                ∙ sym (posted-other logs s r p s' r' p' m here i other)
          ];
      for_lane = λ s' r' p' a' b' c'. elim (cases_lane s r p s' r' p') [
        | inl same ↦ at_lane (λ x y z. AllFor x y z (lane_of lanes' n x y z)) s r p s' r' p' same
            (subst (λ ms. AllFor s r p ms) (sym (lane_of-set_same n s r p lanes (lane_of lanes n s r p ++ m ∷ []) a b c k.all_lanes))
            (AllFor-push s r p (lane_of lanes n s r p) m (k.for_lane s r p a b c) i))
        | inr other ↦ subst (λ ms. AllFor s' r' p' ms) (sym (lane_of-set_other n s r p s' r' p' lanes (lane_of lanes n s r p ++ m ∷ []) a a' c c' other)) (k.for_lane s' r' p' a' b' c')
      ];
      short = λ s' r' p' a' b' c'. elim (cases_lane s r p s' r' p') [
        | inl same ↦ at_lane (λ x y z. length ((log_at logs' x).posted y z) < 2 ^ 63) s r p s' r' p' same
            (subst (λ ms. length ms < 2 ^ 63) (sym (posted-same logs s r p m here i))
            (omega (arith, short, length_push ((log_at logs s).posted r p) m)))
        | inr other ↦ subst (λ ms. length ms < 2 ^ 63) (sym (posted-other logs s r p s' r' p' m here i other)) (k.short s' r' p' a' b' c')
      ];
    }

-- what is taken after a message of a lane was taken
pub taken-same : (logs : List EndLog) (s r p b : ℕ) (m : Msg) → r < length logs → IsFor s r p m → (log_at (set logs r (taking (log_at logs r) b (Some m))) r).taken s p ≡ (log_at logs r).taken s p ++ m ∷ []
unfolding taking
taken-same logs s r p b m h i =
    ap (λ l. l.taken s p) (log_at-set_same logs r (taking (log_at logs r) b (Some m)) h) ∙ gained-same (log_at logs r).taken m.from.0 m.prio.0 s p m (sym i.from) (sym i.prio)

pub taken-other : (logs : List EndLog) (s r p b s' r' p' : ℕ) (m : Msg) → r < length logs → IsFor s r p m → ((r ≡ r') × (s ≡ s') × (p ≡ p') → ⊥) → (log_at (set logs r (taking (log_at logs r) b (Some m))) r').taken s' p' ≡ (log_at logs r').taken s' p'
unfolding taking
taken-other logs s r p b s' r' p' m h i other = elim (cases_eq r' r) [
  | inl same ↦ subst (λ j. (log_at (set logs r (taking (log_at logs r) b (Some m))) j).taken s' p' ≡ (log_at logs j).taken s' p') (sym same)
      (ap (λ l. l.taken s' p') (log_at-set_same logs r (taking (log_at logs r) b (Some m)) h) ∙ gained-other (log_at logs r).taken m.from.0 m.prio.0 s' p' m
      (λ (e, g). other (sym same, sym i.from ∙ sym e, sym i.prio ∙ sym g)))
  | inr differs ↦ ap (λ l. l.taken s' p') (log_at-set_other logs r r' (taking (log_at logs r) b (Some m)) differs)
]

-- a message that is taken moves from the lane to what was taken
pub LanesMatch-take : (n s r p b : ℕ) (lanes : List (List Msg)) (logs : List EndLog) (m : Msg) (rest : List Msg) → LanesMatch n lanes logs → s < n → r < n → p < 6 →
    lane_of lanes n s r p ≡ m ∷ rest →
    LanesMatch n (set lanes (lane_number n s r p) rest) (set logs r (taking (log_at logs r) b (Some m)))
unfolding taking
LanesMatch-take n s r p b lanes logs m rest k u v w front =
    let here : r < length logs = rw k.all_ends v in
    let step = taking (log_at logs r) b (Some m) in
    let logs' = set logs r step in
    let lanes' = set lanes (lane_number n s r p) rest in
    let all : AllFor s r p (m ∷ rest) = subst (λ ms. AllFor s r p ms) front (k.for_lane s r p u v w) in
    record {
      all_ends = length-set logs r _ ∙ k.all_ends;
      all_lanes = length-set lanes _ _ ∙ k.all_lanes;
      party = λ j h. kept_of_each (λ l. l.party) logs r j step here refl ∙ k.party j h;
      parties = λ j h. kept_of_each (λ l. l.parties) logs r j step here refl ∙ k.parties j h;
      kept = λ s' r' p' u' v' w'.
          let post : (log_at logs' s').posted ≡ (log_at logs s').posted = kept_of_each (λ l. l.posted) logs r s' step here refl in
          elim (cases_lane s r p s' r' p') [
            | inl same ↦ at_lane (λ x y z. (log_at logs' y).taken x z ++ lane_of lanes' n x y z ≡ (log_at logs x).posted y z) s r p s' r' p' same
                (ap (λ ms. (log_at logs' r).taken s p ++ ms) (lane_of-set_same n s r p lanes rest u v w k.all_lanes)
                ∙ ap (λ ms. ms ++ rest) (taken-same logs s r p b m here all.0)
                ∙ append_assoc ((log_at logs r).taken s p) (m ∷ []) rest
                ∙ ap (λ ms. (log_at logs r).taken s p ++ ms) (sym front)
                ∙ k.kept s r p u v w)
                ∙ ap (λ f. f r' p') (sym post)
            | inr other ↦ ap (λ ms. (log_at logs' r').taken s' p' ++ ms) (lane_of-set_other n s r p s' r' p' lanes rest u u' w w' other)
                ∙ ap (λ ms. ms ++ lane_of lanes n s' r' p') (taken-other logs s r p b s' r' p' m here all.0 other)
                ∙ k.kept s' r' p' u' v' w'
                ∙ ap (λ f. f r' p') (sym post)
          ];
      for_lane = λ s' r' p' u' v' w'. elim (cases_lane s r p s' r' p') [
        | inl same ↦ at_lane (λ x y z. AllFor x y z (lane_of lanes' n x y z)) s r p s' r' p' same
            (subst (λ ms. AllFor s r p ms) (sym (lane_of-set_same n s r p lanes rest u v w k.all_lanes)) all.1)
        | inr other ↦ subst (λ ms. AllFor s' r' p' ms) (sym (lane_of-set_other n s r p s' r' p' lanes rest u u' w w' other)) (k.for_lane s' r' p' u' v' w')
      ];
      short = λ s' r' p' u' v' w'.
          let post : (log_at logs' s').posted ≡ (log_at logs s').posted = kept_of_each (λ l. l.posted) logs r s' step here refl in
          subst (λ f. length (f r' p') < 2 ^ 63) (sym post) (k.short s' r' p' u' v' w');
    }

-- a look that finds nothing keeps what is kept
pub LanesMatch-look : (n r b : ℕ) (lanes : List (List Msg)) (logs : List EndLog) → LanesMatch n lanes logs → r < n → LanesMatch n lanes (set logs r (taking (log_at logs r) b None))
unfolding taking
LanesMatch-look n r b lanes logs k v =
    let here : r < length logs = rw k.all_ends v in
    let step = taking (log_at logs r) b None in
    let logs' = set logs r step in
    record {
      all_ends = length-set logs r _ ∙ k.all_ends;
      all_lanes = k.all_lanes;
      party = λ j h. kept_of_each (λ l. l.party) logs r j step here refl ∙ k.party j h;
      parties = λ j h. kept_of_each (λ l. l.parties) logs r j step here refl ∙ k.parties j h;
      kept = λ s' r' p' u' v' w'.
          let post : (log_at logs' s').posted ≡ (log_at logs s').posted = kept_of_each (λ l. l.posted) logs r s' step here refl in
          let took : (log_at logs' r').taken ≡ (log_at logs r').taken = kept_of_each (λ l. l.taken) logs r r' step here refl in
          ap (λ f. f s' p' ++ lane_of lanes n s' r' p') took ∙ k.kept s' r' p' u' v' w' ∙ ap (λ f. f r' p') (sym post);
      for_lane = k.for_lane;
      short = λ s' r' p' u' v' w'.
          let post : (log_at logs' s').posted ≡ (log_at logs s').posted = kept_of_each (λ l. l.posted) logs r s' step here refl in
          subst (λ f. length (f r' p') < 2 ^ 63) (sym post) (k.short s' r' p' u' v' w');
    }

pub ruleset lane_numbers = (lane_number-below, lane_of-set_same)
