-- What the parties do in a round is a round of the world.
use Rattle.std.proofs.Common.{◌≡◌, ℕ, ◌+◌, ◌<◌, ◌≤◌, ◌⊎◌, inl, inr, List, [], ◌∷◌, ◌++◌, slice_index_or, refl, sym, ap, ◌∙◌, subst, arith, append-nil}
use Rattle.std.proofs.lemmas.Bool.{cases_lt, cases_order}
use Rattle.std.proofs.lemmas.Option.{get_or_from_slice_get}
use Rattle.room_kinds.specs.declared.message.Msg.{Msg}
use Rattle.journal.specs.declared.entry.Entry.{Entry}
use Rattle.mail_core.specs.EndLog.{EndLog}
use Rattle.mail_core.specs.Lanes.{AllFor, log_at}
use Rattle.mail_core.specs.SetUp.{in_poll_order}
use Rattle.actor_merge.specs.Mail.{Lane, lane, taken, given}
use Rattle.actor_merge.specs.Parties.{State, Environment, Plant}
use Rattle.actor_merge.specs.World.{World, caught_up}
use Rattle.actor_merge.specs.Merge.{EnvironmentGoes, IsRound}
use Rattle.actor_merge.proofs.Rounds.{taken-append, given-append}
use Rattle.model_run.specs.run_rounds.Rounds.{Joins, AreParts, Fetched}
use Rattle.model_run.proofs.run_rounds.LaneLists.{given_outside, taken_outside, fetched_give, turns_give, turns_take, given_for, AllFor-back, PostsFrom, replays_from, lines_from_environment, lines_take}
use Rattle.model_run.proofs.run_rounds.PollOrder.{taken_fetched, order_misses, order_picks}

module _ {B : Type 0} (plant : Plant B) where
  goes_from : (w : World B) (es : List Entry) (end : Environment) → EnvironmentGoes plant w es end → PostsFrom plant.controllers es
  goes_from w [] end h = tt
  goes_from w (e ∷ es) end h = lines_from_environment plant (caught_up plant w) (e ∷ es) end h

  goes_take : (l : Lane) (party : ℕ) (w : World B) (es : List Entry) (end : Environment) → EnvironmentGoes plant w es end → taken l party es ≡ []
  goes_take l party w [] end h = refl
  goes_take l party w (e ∷ es) end h = lines_take plant l party (caught_up plant w) (e ∷ es) end h

  -- what a controller gives in a round, it gives as it works
  joins_give : {c : ℕ} {s end : State B} {log : EndLog} {left : List Msg} {es : List Entry} → Joins plant c s end log left es → (r p : ℕ) → given (lane c r p) c es ≡ log.posted r p
  joins_give {c = c} j r p =
      let l = lane c r p in
      ap (λ (z : List Entry). given l c z) j.is ∙ given-append l c j.works (j.fetches ++ j.turned)
      ∙ ap (λ (z : List Msg). given l c j.works ++ z)
      (given-append l c j.fetches j.turned ∙ rw (fetched_give l c _ j.fetches j.fetched, turns_give l c j.turned j.turns) refl)
      ∙ append-nil (given l c j.works) ∙ sym (j.did.posted r p)

  -- what it takes is what its end took, and what it fetches
  joins_take : {c : ℕ} {s end : State B} {log : EndLog} {left : List Msg} {es : List Entry} → (j : Joins plant c s end log left es) → (l : Lane)
      → taken l c es ≡ taken l c j.works ++ taken l c j.fetches
  joins_take {c = c} j l =
      ap (λ (z : List Entry). taken l c z) j.is ∙ taken-append l c j.works (j.fetches ++ j.turned)
      ∙ ap (λ (z : List Msg). taken l c j.works ++ z)
      (taken-append l c j.fetches j.turned ∙ ap (λ (z : List Msg). taken l c j.fetches ++ z) (turns_take l c j.turned j.turns) ∙ append-nil (taken l c j.fetches))

  module _ (w after : World B) (es : ℕ → List Entry) (logs : List EndLog) (answer : List (List Msg)) (parts : AreParts plant w after es logs answer) where
    -- who posts carries its number
    from_party : (s : ℕ) → s < plant.controllers + 1 → PostsFrom s (es s)
    from_party s h = elim (cases_lt s plant.controllers) [
      | inl below ↦ replays_from plant s (w.controllers s) (es s) (after.controllers s) (parts.controllers s below).replays
      | inr past ↦ subst (λ (z : ℕ). PostsFrom z (es z)) (let e : plant.controllers ≡ s = omega arith in e) (goes_from w (es plant.controllers) after.environment parts.environment)
    ]

    gives_posted : (s r p : ℕ) → s < plant.controllers + 1 → given (lane s r p) s (es s) ≡ (log_at logs s).posted r p
    gives_posted s r p h = elim (cases_lt s plant.controllers) [
      | inl below ↦ joins_give (parts.controllers s below) r p
      | inr past ↦ subst (λ (z : ℕ). given (lane z r p) z (es z) ≡ (log_at logs z).posted r p) (let e : plant.controllers ≡ s = omega arith in e) (sym (parts.did.posted r p))
    ]

    kept : (s r p : ℕ) → s < plant.controllers + 1 → r < plant.controllers → p < 6 → (log_at logs r).taken s p ++ parts.left.left s r p ≡ (log_at logs s).posted r p
    kept s r p a b d = parts.left.kept s r p (omega (arith, parts.parties)) (omega (arith, parts.parties)) d

    -- what is left of a lane are its messages
    left_for_lane : (s r p : ℕ) → s < plant.controllers + 1 → r < plant.controllers → p < 6 → AllFor s r p (parts.left.left s r p)
    left_for_lane s r p a b d =
        AllFor-back s r p ((log_at logs r).taken s p) (parts.left.left s r p)
        (subst (λ (z : List Msg). AllFor s r p z) (gives_posted s r p a ∙ sym (kept s r p a b d)) (given_for s r p (es s) (from_party s a)))

    -- what is fetched of what is left
    in_order : (r : ℕ) → r < plant.controllers → slice_index_or answer r [] ≡ in_poll_order (plant.controllers + 1) (λ s p. parts.left.left s r p)
    in_order r b =
        get_or_from_slice_get answer r _ [] (parts.left.order r (omega (arith, parts.parties)))
        ∙ ap (λ (n : ℕ). in_poll_order n (λ s p. parts.left.left s r p)) parts.parties

    fetches_order : (r : ℕ) (b : r < plant.controllers) → Fetched (in_poll_order (plant.controllers + 1) (λ s p. parts.left.left s r p)) (parts.controllers r b).fetches
    fetches_order r b = subst (λ (z : List Msg). Fetched z (parts.controllers r b).fetches) (in_order r b) (parts.controllers r b).fetched

    left_taken : (s r p : ℕ) → s < plant.controllers + 1 → (b : r < plant.controllers) → p < 6 → taken (lane s r p) r (parts.controllers r b).fetches ≡ parts.left.left s r p
    left_taken s r p a b d =
        taken_fetched s r p _ (parts.controllers r b).fetches (fetches_order r b)
        ∙ order_picks s r p (plant.controllers + 1) (λ t q. parts.left.left t r q) (omega arith) (λ t q x y. left_for_lane t r q x b y) a d

    -- all that goes into a lane in a round is taken out of it
    pub works_even : (s r p : ℕ) → s < plant.controllers + 1 → (b : r < plant.controllers) → p < 6
        → (log_at logs s).posted r p ≡ taken (lane s r p) r (parts.controllers r b).works ++ taken (lane s r p) r (parts.controllers r b).fetches
    works_even s r p a b d =
        sym (kept s r p a b d)
        ∙ ap (λ (z : List Msg). z ++ parts.left.left s r p) ((parts.controllers r b).did.took s p)
        ∙ ap (λ (z : List Msg). taken (lane s r p) r (parts.controllers r b).works ++ z) (sym (left_taken s r p a b d))

    lane_even : (s r p : ℕ) → s < plant.controllers + 1 → (b : r < plant.controllers) → p < 6 → given (lane s r p) s (es s) ≡ taken (lane s r p) r (es r)
    lane_even s r p a b d = gives_posted s r p a ∙ works_even s r p a b d ∙ sym (joins_take (parts.controllers r b) (lane s r p))

    -- a lane that isn't there
    gives_none : (l : Lane) → (plant.controllers < l.sender) ⊎ ((plant.controllers ≤ l.receiver) ⊎ (6 ≤ l.priority)) → given l l.sender (es l.sender) ≡ []
    gives_none l (inl far) = rw (parts.nobody l.sender far) refl
    gives_none l (inr o) = given_outside l plant.controllers l.sender (es l.sender) (parts.within l.sender) o

    left_misses : (s r p : ℕ) (b : r < plant.controllers) → (plant.controllers < s) ⊎ (6 ≤ p) → taken (lane s r p) r (parts.controllers r b).fetches ≡ []
    left_misses s r p b o =
        taken_fetched s r p _ (parts.controllers r b).fetches (fetches_order r b)
        ∙ order_misses s r p (plant.controllers + 1) (λ t q. parts.left.left t r q) (omega arith) (λ t q x y. left_for_lane t r q x b y)
        (elim o [ inl far ↦ inl (omega arith) | inr low ↦ inr low ])

    takes_none_of : (s r p : ℕ) (b : r < plant.controllers) → (plant.controllers < s) ⊎ (6 ≤ p) → taken (lane s r p) r (es r) ≡ []
    takes_none_of s r p b o =
        joins_take (parts.controllers r b) (lane s r p)
        ∙ rw (taken_outside (lane s r p) plant.controllers r (parts.controllers r b).works (parts.controllers r b).within o, left_misses s r p b o) refl

    takes_none : (l : Lane) → (plant.controllers < l.sender) ⊎ ((plant.controllers ≤ l.receiver) ⊎ (6 ≤ l.priority)) → taken l l.receiver (es l.receiver) ≡ []
    takes_none l o = elim (cases_order l.receiver plant.controllers) [
      | inl here ↦ subst (λ (z : ℕ). taken l z (es z) ≡ []) (sym here) (goes_take l plant.controllers w (es plant.controllers) after.environment parts.environment)
      | inr other ↦ elim other [
        | inl below ↦ takes_none_of l.sender l.receiver l.priority below (elim o [
          | inl far ↦ inl far
          | inr more ↦ elim more [ inl past ↦ absurd (omega arith) | inr low ↦ inr low ]
        ])
        | inr past ↦ rw (parts.nobody l.receiver past) refl
      ]
    ]

    even : (l : Lane) → given l l.sender (es l.sender) ≡ taken l l.receiver (es l.receiver)
    even l = elim (cases_lt plant.controllers l.sender) [
      | inl far ↦ gives_none l (inl far) ∙ sym (takes_none l (inl far))
      | inr near ↦ elim (cases_lt l.receiver plant.controllers) [
        | inl below ↦ elim (cases_lt l.priority 6) [
          | inl in_range ↦ lane_even l.sender l.receiver l.priority (omega arith) below in_range
          | inr low ↦ gives_none l (inr (inr low)) ∙ sym (takes_none l (inr (inr low)))
        ]
        | inr past ↦ gives_none l (inr (inl past)) ∙ sym (takes_none l (inr (inl past)))
      ]
    ]

    pub parts_round : IsRound plant w es after
    parts_round = record {
      controllers = λ c h. (parts.controllers c h).replays;
      environment = parts.environment;
      nobody = parts.nobody;
      lanes = λ l.
          ap (λ (z : List Msg). z ++ given l l.sender (es l.sender)) (parts.empty_before l) ∙ even l
          ∙ sym (append-nil (taken l l.receiver (es l.receiver)))
          ∙ ap (λ (z : List Msg). taken l l.receiver (es l.receiver) ++ z) (sym (parts.empty_after l));
      quiet = parts.quiet;
      one_part = parts.one_part;
    }

    -- what a controller posted to itself before its last turn of the round, it fetched
    pub own_even : (c p : ℕ) → (b : c < plant.controllers) → p < 6
        → given (lane c c p) c ((parts.controllers c b).works ++ (parts.controllers c b).fetches) ≡ taken (lane c c p) c ((parts.controllers c b).works ++ (parts.controllers c b).fetches)
    own_even c p b d =
        let j = parts.controllers c b in
        let l = lane c c p in
        given-append l c j.works j.fetches
        ∙ ap (λ (z : List Msg). given l c j.works ++ z) (fetched_give l c _ j.fetches j.fetched)
        ∙ append-nil (given l c j.works) ∙ sym (j.did.posted c p)
        ∙ works_even c c p (omega arith) b d
        ∙ sym (taken-append l c j.works j.fetches)
