-- What the environment posts are its lines, one after another.
use Rattle.std.proofs.Common.{◌≡◌, ℕ, zero, suc, ◌+◌, List, [], ◌∷◌, ◌++◌, map, drop, ◌<◌, Option, Some, None, slice_get, refl, sym, ap, ◌∙◌, subst, eq-eqb, arith}
use Rattle.std.specs.List.{AllByRecursion}
use Rattle.std.proofs.lemmas.Bool.{ne_eqb}
use Rattle.room_kinds.specs.declared.message.Msg.{Msg}
use Rattle.journal.specs.declared.entry.Entry.{Entry}
use Rattle.journal.specs.declared.entry.Entry.TheVariants as entry
use Rattle.actor_merge.specs.Mail.{event_of}
use Rattle.actor_merge.specs.Parties.{Environment, Line, Plant, stamped, post_line, environment_post}
use Rattle.actor_merge.specs.World.{World, Placed, caught_up, environment_does, Runs}
use Rattle.actor_merge.specs.Merge.{entries_of}
use Rattle.actor_merge.proofs.Back.{Happened, controller, environment, happened}
use Rattle.actor_merge.proofs.Steps.{caught_up-posted}
use Rattle.law_runs.specs.Mail.{posted}

dropped : {X : Type 0} (xs : List X) (at : ℕ) (x : X) → slice_get xs at ≡ Some x → drop at xs ≡ x ∷ drop (suc at) xs
dropped [] at x h = absurd cc
dropped {X} (y ∷ xs) zero x h = let same : y ≡ x = cc in ap (λ (z : X). z ∷ xs) same
dropped (y ∷ xs) (suc at) x h = dropped xs at x h

-- an entry posts a line
pub record IsLine {B : Type 0} (plant : Plant B) (at : ℕ) (e : Entry) : Type 0 where
  pub line : Line
  pub stamp : ℕ
  pub there : slice_get plant.lines at ≡ Some line
  pub is : e ≡ entry.Post (record { 0 = stamp }) (stamped plant.controllers stamp line.message)

-- these entries post the lines from this one on to that one
abbrev pub PostsLines : {B : Type 0} → Plant B → ℕ → List Entry → ℕ → Type 0
PostsLines plant at [] end = end ≡ at
PostsLines plant at (e ∷ es) end = IsLine plant at e × PostsLines plant (at + 1) es end

module _ {B : Type 0} (plant : Plant B) where
  record PostsOne (u v : Environment) (e : Entry) : Type 0 where
    line : IsLine plant u.posted e
    next : v.posted ≡ u.posted + 1

  posts_one : (u v : Environment) (e : Entry) → environment_post plant u ≡ Some (v, e) → PostsOne u v e
  unfolding environment_post
  posts_one u v e h = go (slice_get plant.lines u.posted) refl h
    where
      go : (o : Option Line) → slice_get plant.lines u.posted ≡ o → post_line plant.controllers u o ≡ Some (v, e) → PostsOne u v e
      go None is k = absurd cc
      go (Some line) is k =
          let r : Environment × Entry = (record { clock = u.clock + 1; posted = u.posted + 1 }, entry.Post (record { 0 = u.clock + 1 }) (stamped plant.controllers (u.clock + 1) line.message)) in
          let q : Environment × Entry = (v, e) in
          let p : r ≡ q = cc in
          subst (λ (z : Environment × Entry). PostsOne u z.0 z.1) p
          (record { line = record { line = line; stamp = u.clock + 1; there = is; is = refl }; next = refl })

  does_one : (w : World B) (v : Environment) (e : Entry) → environment_does plant w (event_of e) ≡ Some (v, e) → PostsOne (caught_up plant w) v e
  does_one w v (entry.Start who state notes) h = absurd cc
  does_one w v (entry.Fetch stamp m) h = absurd cc
  does_one w v (entry.Turn stamp from sent did notes) h = absurd cc
  does_one w v (entry.Post stamp m) h = posts_one (caught_up plant w) v (entry.Post stamp m) h

  -- the environment's entries of a run
  pub environment_posts : (xs : List Placed) (w end : World B) → Runs plant w xs end → PostsLines plant w.environment.posted (entries_of plant.controllers xs) end.environment.posted
  environment_posts [] w end r = ap (λ (z : World B). z.environment.posted) r
  environment_posts (x ∷ xs) w end r = go (happened plant w x r.0 r.2) (environment_posts xs r.0 end r.3)
    where
      go : Happened plant w x r.0 → PostsLines plant r.0.environment.posted (entries_of plant.controllers xs) end.environment.posted
          → PostsLines plant w.environment.posted (entries_of plant.controllers (x ∷ xs)) end.environment.posted
      go (controller below s does same) ih =
          rw (ne_eqb plant.controllers x.party (λ e. omega arith))
          (subst (λ (n : ℕ). PostsLines plant n (entries_of plant.controllers xs) end.environment.posted) (ap (λ (z : World B). z.environment.posted) same) ih)
      go (environment is v does same) ih =
          let one = does_one w v x.entry does in
          let at : (caught_up plant w).posted ≡ w.environment.posted = caught_up-posted plant w in
          let next : r.0.environment.posted ≡ w.environment.posted + 1 = ap (λ (z : World B). z.environment.posted) same ∙ one.next ∙ ap (λ (n : ℕ). n + 1) at in
          rw (eq-eqb plant.controllers x.party (sym is)) (
            subst (λ (n : ℕ). IsLine plant n x.entry) at one.line,
            subst (λ (n : ℕ). PostsLines plant n (entries_of plant.controllers xs) end.environment.posted) next ih,
          )

  -- nobody else does anything in a run
  pub nobody_else : (f : ℕ) → plant.controllers < f → (xs : List Placed) (w end : World B) → Runs plant w xs end → entries_of f xs ≡ []
  nobody_else f above [] w end r = refl
  nobody_else f above (x ∷ xs) w end r = go (happened plant w x r.0 r.2) (nobody_else f above xs r.0 end r.3)
    where
      go : Happened plant w x r.0 → entries_of f xs ≡ [] → entries_of f (x ∷ xs) ≡ []
      go (controller below s does same) ih = rw (ne_eqb f x.party (λ e. omega arith)) ih
      go (environment is v does same) ih = rw (ne_eqb f x.party (λ e. omega arith)) ih

  -- what they say, whoever posts them and whenever
  module _ {X : Type 0} (f : Msg → X) (stays : (party stamp : ℕ) (m : Msg) → f (stamped party stamp m) ≡ f m) where
    pub said : (es : List Entry) (at end : ℕ) → PostsLines plant at es end
        → map f (posted es) ++ map (λ (l : Line). f l.message) (drop end plant.lines) ≡ map (λ (l : Line). f l.message) (drop at plant.lines)
    said [] at end h = ap (λ (n : ℕ). map (λ (l : Line). f l.message) (drop n plant.lines)) h
    said (e ∷ es) at end h =
        let one : suc at ≡ at + 1 = omega arith in
        let rest = said es (at + 1) end h.1 in
        let first : drop at plant.lines ≡ h.0.line ∷ drop (at + 1) plant.lines =
        dropped plant.lines at h.0.line h.0.there ∙ ap (λ (n : ℕ). h.0.line ∷ drop n plant.lines) one in
        let here : posted (e ∷ es) ≡ stamped plant.controllers h.0.stamp h.0.line.message ∷ posted es = ap (λ (z : Entry). posted (z ∷ es)) h.0.is in
        ap (λ (z : List Msg). map f z ++ map (λ (l : Line). f l.message) (drop end plant.lines)) here
        ∙ ap (λ (z : X). z ∷ (map f (posted es) ++ map (λ (l : Line). f l.message) (drop end plant.lines))) (stays plant.controllers h.0.stamp h.0.line.message)
        ∙ ap (λ (z : List X). f h.0.line.message ∷ z) rest
        ∙ sym (ap (map (λ (l : Line). f l.message)) first)

  -- they are posts, each of the environment and with its entry's stamp
  pub all_posts : (Q : Entry → Type 0) → ((stamp : ℕ) (m : Msg) → Q (entry.Post (record { 0 = stamp }) (stamped plant.controllers stamp m)))
      → (es : List Entry) (at end : ℕ) → PostsLines plant at es end → AllByRecursion Q es
  all_posts Q h [] at end k = tt
  all_posts Q h (e ∷ es) at end k = (subst Q (sym k.0.is) (h k.0.stamp k.0.line.message), all_posts Q h es (at + 1) end k.1)
