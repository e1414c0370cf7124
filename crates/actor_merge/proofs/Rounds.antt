-- A history goes on round by round.
use Rattle.std.proofs.Common.{◌≡◌, ℕ, ◌+◌, ◌<◌, Bool, true, false, List, [], ◌∷◌, ◌++◌, length, refl, sym, ap, ◌∙◌, subst, append-nil, append_assoc, length-append, arith, ◌⊎◌, inl, inr, ⊎_elim}
use Rattle.std.proofs.lemmas.Bool.{cases_order}
use Rattle.room_kinds.specs.declared.message.Msg.{Msg}
use Rattle.journal.specs.declared.entry.Entry.{Entry}
use Rattle.actor_merge.specs.Mail.{Lane, takes, gives, taken, given}
use Rattle.actor_merge.specs.Parties.{State, Environment, Plant, Replays, EnvironmentReplays, begins}
use Rattle.actor_merge.specs.World.{World, start, IsQuiet, caught_up}
use Rattle.actor_merge.specs.Merge.{EnvironmentGoes, IsRound}
use Rattle.actor_merge.specs.History.{IsLawful, IsHistory}
use Rattle.actor_merge.proofs.Steps.{line_posted, caught_up-posted, caught_up-same}
use Rattle.actor_merge.proofs.Extend.{part_extends, start_lawful}

pub taken-append : (l : Lane) (p : ℕ) (a b : List Entry) → taken l p (a ++ b) ≡ taken l p a ++ taken l p b
taken-append l p [] b = refl
taken-append l p (e ∷ es) b = ap (λ (z : List Msg). takes l p e ++ z) (taken-append l p es b) ∙ sym (append_assoc (takes l p e) (taken l p es) (taken l p b))

pub given-append : (l : Lane) (p : ℕ) (a b : List Entry) → given l p (a ++ b) ≡ given l p a ++ given l p b
given-append l p [] b = refl
given-append l p (e ∷ es) b = ap (λ (z : List Msg). gives l p e ++ z) (given-append l p es b) ∙ sym (append_assoc (gives l p e) (given l p es) (given l p b))

-- two equations of a lane, one after the other
pub lane_joins : (old g1 t1 mid g2 t2 end : List Msg) → old ++ g1 ≡ t1 ++ mid → mid ++ g2 ≡ t2 ++ end → old ++ (g1 ++ g2) ≡ (t1 ++ t2) ++ end
lane_joins old g1 t1 mid g2 t2 end h k =
    sym (append_assoc old g1 g2) ∙ ap (λ (z : List Msg). z ++ g2) h ∙ append_assoc t1 mid g2
    ∙ ap (λ (z : List Msg). t1 ++ z) k ∙ sym (append_assoc t1 t2 end)

cases_empty : (es : List Entry) → (es ≡ []) ⊎ (0 < length es)
cases_empty [] = inl refl
cases_empty (e ∷ es) = inr (omega arith)

module _ {B : Type 0} (plant : Plant B) where
  pub replays_append : (c : ℕ) (s mid end : State B) (a b : List Entry) → Replays plant c s a mid → Replays plant c mid b end → Replays plant c s (a ++ b) end
  replays_append c s mid end [] b h k = subst (λ z. Replays plant c z b end) h k
  replays_append c s mid end (e ∷ es) b h k = (h.0, h.1, replays_append c h.0 mid end es b h.2 k)

  pub lines_append : (s mid end : Environment) (a b : List Entry) → EnvironmentReplays plant s a mid → EnvironmentReplays plant mid b end → EnvironmentReplays plant s (a ++ b) end
  lines_append s mid end [] b h k = subst (λ z. EnvironmentReplays plant z b end) h k
  lines_append s mid end (e ∷ es) b h k = (h.0, h.1, lines_append h.0 mid end es b h.2 k)

  -- so many entries, so many lines
  lines_posted : (v : Environment) (es : List Entry) (end : Environment) → EnvironmentReplays plant v es end → end.posted ≡ v.posted + length es
  lines_posted v [] end h = ap (λ (z : Environment). z.posted) h ∙ omega arith
  lines_posted v (e ∷ es) end h =
      let one : h.0.posted ≡ v.posted + 1 = line_posted plant v h.0 e h.1 in
      let rest : end.posted ≡ h.0.posted + length es = lines_posted h.0 es end h.2 in omega arith

  goes_posted : (w : World B) (es : List Entry) (end : Environment) → EnvironmentGoes plant w es end → end.posted ≡ w.environment.posted + length es
  goes_posted w [] end h = ap (λ (z : Environment). z.posted) h ∙ omega arith
  goes_posted w (e ∷ es) end h = lines_posted (caught_up plant w) (e ∷ es) end h ∙ ap (λ k. k + length (e ∷ es)) (caught_up-posted plant w)

  -- where no part begins the environment goes on as it is
  goes_replays : (w : World B) (es : List Entry) (end : Environment) → (0 < length es → begins plant w.environment.posted ≡ false)
      → EnvironmentGoes plant w es end → EnvironmentReplays plant w.environment es end
  goes_replays w [] end b h = h
  goes_replays w (e ∷ es) end b h = subst (λ z. EnvironmentReplays plant z (e ∷ es) end) (caught_up-same plant w (b (omega arith))) h

  replays_go : (w : World B) (es : List Entry) (end : Environment) → (0 < length es → begins plant w.environment.posted ≡ false)
      → EnvironmentReplays plant w.environment es end → EnvironmentGoes plant w es end
  replays_go w [] end b h = h
  replays_go w (e ∷ es) end b h = subst (λ z. EnvironmentReplays plant z (e ∷ es) end) (sym (caught_up-same plant w (b (omega arith)))) h

  -- the environment's entries of two rounds of one part
  goes_append : (w mid : World B) (a b : List Entry) (end : Environment) → (0 < length b → begins plant mid.environment.posted ≡ false)
      → EnvironmentGoes plant w a mid.environment → EnvironmentGoes plant mid b end → EnvironmentGoes plant w (a ++ b) end
  goes_append w mid [] b end same h k =
      let at : mid.environment ≡ w.environment = h in
      let there : EnvironmentReplays plant w.environment b end = subst (λ z. EnvironmentReplays plant z b end) at (goes_replays mid b end same k) in
      replays_go w b end (λ l. subst (λ (z : Environment). begins plant z.posted ≡ false) at (same l)) there
  goes_append w mid (e ∷ es) b end same h k =
      lines_append (caught_up plant w) mid.environment end (e ∷ es) b h (goes_replays mid b end same k)

  -- two rounds of one part are one round
  pub rounds_join : (w mid after : World B) (first second : ℕ → List Entry)
      → IsRound plant w first mid → IsRound plant mid second after
      → (0 < length (second plant.controllers) → begins plant mid.environment.posted ≡ false)
      → IsRound plant w (λ p. first p ++ second p) after
  rounds_join w mid after first second r s same =
      record {
        controllers = λ c h. replays_append c (w.controllers c) (mid.controllers c) (after.controllers c) (first c) (second c) (r.controllers c h) (s.controllers c h);
        environment = goes_append w mid (first plant.controllers) (second plant.controllers) after.environment same r.environment s.environment;
        nobody = λ p h. rw (r.nobody p h, s.nobody p h) refl;
        lanes = λ l. rw (given-append l l.sender (first l.sender) (second l.sender), taken-append l l.receiver (first l.receiver) (second l.receiver))
            (lane_joins (w.lanes l) (given l l.sender (first l.sender)) (taken l l.receiver (first l.receiver)) (mid.lanes l)
            (given l l.sender (second l.sender)) (taken l l.receiver (second l.receiver)) (after.lanes l) (r.lanes l) (s.lanes l));
        quiet = λ b. ⊎_elim (λ e. still b e) (λ q. inr q) (r.quiet b);
        one_part = λ line above below. go line above below (cases_order line mid.environment.posted);
      }
    where
      posted : mid.environment.posted ≡ w.environment.posted + length (first plant.controllers)
      posted = goes_posted w (first plant.controllers) mid.environment r.environment

      lengths : length (first plant.controllers ++ second plant.controllers) ≡ length (first plant.controllers) + length (second plant.controllers)
      lengths = length-append (first plant.controllers) (second plant.controllers)

      still : begins plant w.environment.posted ≡ true → first plant.controllers ≡ []
          → (first plant.controllers ++ second plant.controllers ≡ []) ⊎ IsQuiet plant w
      still b e = inl (⊎_elim (λ f. rw e f) (λ l. absurd (clash l)) (cases_empty (second plant.controllers)))
        where
          clash : 0 < length (second plant.controllers) → ⊥
          clash l =
              let at : mid.environment.posted ≡ w.environment.posted = posted ∙ rw e (omega arith) in
              let f : begins plant w.environment.posted ≡ false = subst (λ k. begins plant k ≡ false) at (same l) in cc

      go : (line : ℕ) → w.environment.posted < line → line < w.environment.posted + length (first plant.controllers ++ second plant.controllers)
          → (line ≡ mid.environment.posted) ⊎ ((line < mid.environment.posted) ⊎ (mid.environment.posted < line)) → begins plant line ≡ false
      go line above below (inl e) =
          let l : 0 < length (second plant.controllers) = omega (arith, posted, lengths) in
          subst (λ k. begins plant k ≡ false) (sym e) (same l)
      go line above below (inr (inl h)) = r.one_part line above (omega (arith, posted))
      go line above below (inr (inr h)) = s.one_part line h (omega (arith, posted, lengths))

  pub history_lawful : (journals : ℕ → List Entry) (w : World B) → IsHistory plant journals w → IsLawful plant journals w
  history_lawful journals w h =
      let l : IsLawful plant (λ p. h.before p ++ h.part p) w = part_extends plant h.before h.part h.began w h.lawful h.round h.first in
      record {
        merge = l.merge;
        is = record { ordered = l.is.ordered; whole = λ p. l.is.whole p ∙ sym (h.whole p) };
        end = l.end;
        run = l.run;
        same = l.same;
        bound = l.bound;
      }

  -- nothing was done
  pub no_round : (w : World B) → IsRound plant w (λ p. []) w
  no_round w =
      record {
        controllers = λ c h. refl;
        environment = refl;
        nobody = λ p h. refl;
        lanes = λ l. append-nil (w.lanes l);
        quiet = λ b. inl refl;
        one_part = λ line above below. absurd (omega arith);
      }

  pub start_history : IsHistory plant (λ p. []) (start plant)
  start_history =
      record {
        before = λ p. [];
        began = start plant;
        lawful = start_lawful plant;
        part = λ p. [];
        round = no_round (start plant);
        whole = λ p. refl;
        first = inr (λ p. refl);
      }

  -- the round goes on in its part
  same_part : (journals more : ℕ → List Entry) (w after : World B) (h : IsHistory plant journals w) → IsRound plant w more after
      → (0 < length (more plant.controllers) → begins plant w.environment.posted ≡ false) → IsHistory plant (λ p. journals p ++ more p) after
  same_part journals more w after h round same =
      record {
        before = h.before;
        began = h.began;
        lawful = h.lawful;
        part = λ p. h.part p ++ more p;
        round = rounds_join h.began w after h.part more h.round round same;
        whole = λ p. ap (λ (z : List Entry). z ++ more p) (h.whole p) ∙ append_assoc (h.before p) (h.part p) (more p);
        first = h.first;
      }

  -- the round begins a part
  next_part : (journals more : ℕ → List Entry) (w after : World B) → IsHistory plant journals w → IsRound plant w more after
      → begins plant w.environment.posted ≡ true → IsQuiet plant w → IsHistory plant (λ p. journals p ++ more p) after
  next_part journals more w after h round b q =
      record {
        before = journals;
        began = w;
        lawful = history_lawful journals w h;
        part = more;
        round = round;
        whole = λ p. refl;
        first = inl (b, q);
      }

  pub history_more : (journals more : ℕ → List Entry) (w after : World B)
      → IsHistory plant journals w → IsRound plant w more after → IsHistory plant (λ p. journals p ++ more p) after
  history_more journals more w after h round = go (begins plant w.environment.posted) refl
    where
      go : (b : Bool) → begins plant w.environment.posted ≡ b → IsHistory plant (λ p. journals p ++ more p) after
      go false e = same_part journals more w after h round (λ l. e)
      go true e = ⊎_elim
          (λ none. same_part journals more w after h round (λ l. absurd (omega (arith, ap (λ (z : List Entry). length z) none))))
          (λ q. next_part journals more w after h round e q) (round.quiet e)
