-- A run so far goes on by a round.
use Rattle.std.proofs.Common.{◌≡◌, ℕ, ◌+◌, ◌<◌, ◌≤◌, ◌⊎◌, inl, inr, true, false, List, [], ◌∷◌, ◌++◌, length, slice_get, slice_index_or, Option, Some, refl, sym, ap, ◌∙◌, subst, arith, append_assoc}
use Rattle.std.proofs.lemmas.Bool.{cases_lt}
use Rattle.std.proofs.lemmas.Option.{slice_get_within}
use Rattle.room_kinds.specs.declared.numbers.ControllerId.{ControllerId}
use Rattle.room_kinds.specs.declared.message.Msg.{Msg}
use Rattle.journal.specs.declared.entry.Entry.{Entry}
use Rattle.mail_core.specs.EndLog.{EndLog, fresh}
use Rattle.mail_core.specs.Lanes.{log_at}
use Rattle.actor_merge.specs.Mail.{lane}
use Rattle.actor_merge.specs.Parties.{State, Environment, Line, Replays, begins}
use Rattle.actor_merge.specs.World.{World, IsQuiet}
use Rattle.actor_merge.specs.Merge.{EnvironmentGoes}
use Rattle.actor_merge.proofs.Rounds.{history_more}
use Rattle.actor_world.specs.Body.{Body}
use Rattle.actor_world.specs.Journals.{Item, lines_of}
use Rattle.actor_world.specs.Start.{start_entries}
use Rattle.chart_behaviour.specs.ModelCharts.{Actor}
use Rattle.model_run.specs.run_rounds.Rounds.{EndDid, Joins, AreParts, OnlyTurns}
use Rattle.model_run.specs.run_rounds.Prompts.{PromptFrom, OwnFetched, EndsAs}
use Rattle.model_run.proofs.run_rounds.Choose.{chosen, chosen_holds, chosen_past}
use Rattle.model_run.proofs.run_rounds.LaneLists.{turns_give, turns_take, posts_append, turns_post, fetches_post}
use Rattle.model_run.proofs.run_rounds.PromptLists.{no_turns_prompt, prompt_append, ends_fresh, own_append, may_turn_even}
use Rattle.model_run.proofs.run_rounds.PolledLists.{fetched_no_turns}
use Rattle.model_run.proofs.run_rounds.RoundLaw.{parts_round, own_even}
use Rattle.controller_actors.specs.Plants.{model_of}
use Rattle.controller_actors.specs.declared.plant.Plant.{Plant}
use Rattle.controller.specs.Controllers.{IsOf, Goes, EndGoes, run_plant, state_in, state_at}
use Rattle.controller.specs.Calls.{PostsWithin}
use Rattle.controller.specs.View.{Controller}
use Rattle.controller.proofs.Going.{goes_then}
use Rattle.controller.proofs.Standing.{some_at, state_is}
use Rattle.model_run.proofs.run_worker.WorkLaw.{fetched_of}
use Rattle.model_run.specs.joined_round.Joined.{Joined, RoundDone}
use Rattle.model_run.specs.run_so_far.SoFar.{world_of, whole, IsSound, RunSoFar, EndsPosted, EnvironmentPosts}
use Rattle.model_run.proofs.joined_round.JoinLaw.{same_there}

turns_even : (c : ℕ) (es : List Entry) → OnlyTurns es → OwnFetched c es
turns_even c es h = record { all = λ p b. turns_give (lane c c p) c es h ∙ sym (turns_take (lane c c p) c es h) }

-- turns after which nothing is posted
turns_prompt : (c : ℕ) (before es : List Entry) → OwnFetched c before → OnlyTurns es → PromptFrom c before es
turns_prompt c before [] h o = tt
turns_prompt c before (e ∷ es) h o =
    (λ t. may_turn_even c before h, turns_prompt c (before ++ e ∷ []) es (own_append c before (e ∷ []) h (turns_even c (e ∷ []) (o.0, tt))) o.1)

module _ (plant : Plant) where
  module _ (gone : List Item) (fuel : ℕ) (ks news : List Controller) (v after : Environment) (posts es : List Entry) (logs logs' : List EndLog) (answer : List (List Msg))
      (r : RunSoFar plant gone fuel ks v posts) (ends : EndsPosted (length plant.wiring.controllers) logs es)
      (env : (rest : List Item) → EnvironmentPosts plant (lines_of (gone ++ rest)) (world_of plant ks v) es after) (done : RoundDone plant ks news logs logs' answer) where
    abbrev n : ℕ
    n = length plant.wiring.controllers

    abbrev old_world : World (Body Actor)
    old_world = world_of plant ks v

    abbrev new_world : World (Body Actor)
    new_world = world_of plant news after

    -- what a controller did in the round
    record At (c : ℕ) (x : List Entry) : Type 0 where
      old : Controller
      new : Controller
      was : slice_get ks c ≡ Some old
      is : slice_get news c ≡ Some new
      joined : Joined plant old new (log_at logs c) (log_at logs' c) (slice_index_or answer c [])
      goes : Goes plant old new x
      parts : x ≡ joined.works.did.entries ++ (joined.fetches.entries ++ joined.turn.entries)
      prompt : (before : List Entry) → OwnFetched c before → PromptFrom c before joined.works.did.entries

    at_of : (c : ℕ) → c < length plant.wiring.controllers → (x : List Entry) × At c x
    at_of c b =
        let o = some_at ks c (omega (arith, r.stand.count)) in
        let k = o.0 in
        let e = done.each c b k o.1 in
        let j = e.2 in
        let works = j.works.did.entries in
        let x = works ++ (j.fetches.entries ++ j.turn.entries) in
        let goes : Goes plant k e.0 x = goes_then j.works.did.goes (goes_then j.fetches.goes j.turn.goes) in
        let me : k.me.0 ≡ c = r.stand.me c k o.1 in
        let prompt : (before : List Entry) → EndsAs c before (fresh (length plant.wiring.controllers + 1) c) → PromptFrom c before works =
        subst (λ (z : EndLog). (before : List Entry) → EndsAs c before z → PromptFrom c before works) (ends.controllers c b)
        (subst (λ (z : ℕ). (before : List Entry) → EndsAs z before (log_at logs c) → PromptFrom z before works) me j.works.did.prompt) in (
          x,
          record {
            old = k;
            new = e.0;
            was = o.1;
            is = e.1;
            joined = j;
            goes = goes;
            parts = refl;
            prompt = λ before h. prompt before (ends_fresh c before (fresh (length plant.wiring.controllers + 1) c) h (λ p. refl) (λ p. refl));
          },
        )

    -- the same as the world has it, whatever lines the environment posts
    joins_of : (lines : List Line) (c : ℕ) → c < length plant.wiring.controllers → (x : List Entry) → At c x
        → Joins (run_plant plant lines) c (state_at plant ks c) (state_at plant news c) (log_at logs' c) (slice_index_or answer c []) x
    joins_of lines c b x a =
        let j = a.joined in
        let me : a.old.me.0 ≡ c = r.stand.me c a.old a.was in
        let end : EndGoes c (fresh (length plant.wiring.controllers + 1) c) (log_at logs' c) j.works.did.entries =
        subst (λ (z : EndLog). EndGoes c z (log_at logs' c) j.works.did.entries) (ends.controllers c b)
        (subst (λ (z : ℕ). EndGoes z (log_at logs c) (log_at logs' c) j.works.did.entries) me j.works.did.end) in
        let replays : Replays (run_plant plant lines) c (state_in plant a.old) x (state_in plant a.new) =
        subst (λ (z : ℕ). Replays (run_plant plant lines) z (state_in plant a.old) x (state_in plant a.new)) me (a.goes.replays lines) in
        record {
          works = j.works.did.entries;
          fetches = j.fetches.entries;
          turned = j.turn.entries;
          is = a.parts;
          replays = subst (λ (z : State (Body Actor)). Replays (run_plant plant lines) c z x (state_at plant news c)) (sym (state_is plant ks c a.old a.was))
              (subst (λ (z : State (Body Actor)). Replays (run_plant plant lines) c (state_in plant a.old) x z) (sym (state_is plant news c a.new a.is)) replays);
          did = record { posted = end.posted; took = end.took };
          within = j.works.did.within;
          fetched = fetched_of (slice_index_or answer c []) j.fetches.entries j.fetches.fetches;
          turns = j.turn.only;
        }

    abbrev HasEntries : ℕ → List Entry → Type 0
    HasEntries p x = (p < n → At p x) × (p ≡ n → x ≡ es)

    have : (p : ℕ) → p < n + 1 → (x : List Entry) × HasEntries p x
    have p h = elim (cases_lt p n) [
      | inl below ↦ let a = at_of p below in (a.0, (λ b. a.1, λ e. absurd (omega arith)))
      | inr past ↦ (es, (λ b. absurd (omega arith), λ e. refl))
    ]

    -- the entries of each party in the round
    abbrev more : ℕ → List Entry
    more p = chosen (n + 1) HasEntries [] have p

    more_at : (c : ℕ) → c < n → At c (more c)
    more_at c b = (chosen_holds (n + 1) HasEntries [] have c (omega arith)).0 b

    more_environment : more n ≡ es
    more_environment = (chosen_holds (n + 1) HasEntries [] have n (omega arith)).1 refl

    more_past : (p : ℕ) → n < p → more p ≡ []
    more_past p h = chosen_past (n + 1) HasEntries [] have p (omega arith)

    end_did : EndDid n (log_at logs' n) es
    end_did = subst (λ (z : EndLog). EndDid n z es) (sym (done.others n (omega arith))) ends.environment

    -- the lines, where these items come after those so far
    abbrev with_rest : List Item → List Line
    with_rest rest = lines_of (gone ++ rest)

    -- what was posted in the round goes to controllers that there are
    posts_of : (c : ℕ) (x : List Entry) → At c x → PostsWithin n x
    posts_of c x a =
        let j = a.joined in
        let left : List Msg = slice_index_or answer c [] in
        let fetched : PostsWithin n j.fetches.entries = fetches_post n left j.fetches.entries (fetched_of left j.fetches.entries j.fetches.fetches) in
        let turned : PostsWithin n j.turn.entries = turns_post n j.turn.entries j.turn.only in
        subst (λ (z : List Entry). PostsWithin n z) (sym a.parts)
        (posts_append n j.works.did.entries (j.fetches.entries ++ j.turn.entries) j.works.did.posts (posts_append n j.fetches.entries j.turn.entries fetched turned))

    more_within : (p : ℕ) → PostsWithin n (more p)
    more_within p = elim (cases_lt p n) [
      | inl below ↦ posts_of p (more p) (more_at p below)
      | inr past ↦ elim (cases_lt n p) [
        | inl above ↦ subst (λ (z : List Entry). PostsWithin n z) (sym (more_past p above)) tt
        | inr here ↦
            let same : n ≡ p = omega arith in
            subst (λ (z : ℕ). PostsWithin n (more z)) same (subst (λ (z : List Entry). PostsWithin n z) (sym more_environment) ends.within)
      ]
    ]

    parts : (rest : List Item) → AreParts (run_plant plant (with_rest rest)) old_world new_world more logs' answer
    parts rest = record {
      parties = done.parties ∙ ends.count;
      left = done.left;
      controllers = λ c h. joins_of (with_rest rest) c h (more c) (more_at c h);
      environment = subst (λ (z : List Entry). EnvironmentGoes (run_plant plant (with_rest rest)) old_world z after) (sym more_environment) (env rest).goes;
      did = subst (λ (z : List Entry). EndDid n (log_at logs' n) z) (sym more_environment) end_did;
      nobody = more_past;
      within = more_within;
      quiet = subst (λ (z : List Entry). begins (run_plant plant (with_rest rest)) v.posted ≡ true → (z ≡ []) ⊎ IsQuiet (run_plant plant (with_rest rest)) old_world)
          (sym more_environment) (env rest).quiet;
      one_part = subst (λ (z : List Entry). (line : ℕ) → v.posted < line → line < v.posted + length z → begins (run_plant plant (with_rest rest)) line ≡ false)
          (sym more_environment) (env rest).one_part;
      empty_before = λ l. refl;
      empty_after = λ l. refl;
    }

    -- a controller after the round
    there : (c : ℕ) (k : Controller) → slice_get news c ≡ Some k → (b : c < n) × ((more_at c b).new ≡ k)
    there c k at =
        let below : c < n = omega (arith, slice_get_within news c k at, done.count, r.stand.count) in
        (below, same_there (slice_get news c) (more_at c below).new k (more_at c below).is at)

    module _ (c : ℕ) (b : c < n) where
      abbrev a : At c (more c)
      a = more_at c b

      me_stays : a.new.me.0 ≡ c
      me_stays = ap (λ (i : ControllerId). i.0) a.goes.me ∙ r.stand.me c a.old a.was

      fuel_stays : a.new.fuel ≡ fuel
      fuel_stays = a.goes.fuel ∙ r.fuel_is c a.old a.was

      keeps_fuel : a.new.mail.turns ≤ fuel
      keeps_fuel =
          let had : a.old.fuel ≡ fuel = r.fuel_is c a.old a.was in
          let took : a.old.mail.turns ≤ fuel = r.fuelled c a.old a.was in
          let one : a.joined.worked.mail.turns ≤ a.old.fuel = a.joined.works.did.fuelled (omega arith) in
          let f1 : a.joined.worked.fuel ≡ a.old.fuel = a.joined.works.did.goes.fuel in
          let f2 : a.joined.fetched.fuel ≡ a.joined.worked.fuel = a.joined.fetches.goes.fuel in
          let same : a.joined.fetched.mail.turns ≡ a.joined.worked.mail.turns = a.joined.fetches.turns in
          let two : a.new.mail.turns ≤ a.joined.fetched.fuel = a.joined.turn.fuelled (omega arith) in
          omega arith

      journal_grows : a.new.mail.journal ≡ start_entries (model_of plant) plant.wiring c ++ (r.events c ++ more c)
      journal_grows =
          a.goes.journal ∙ ap (λ (z : List Entry). z ++ more c) (r.journals c a.old a.was)
          ∙ append_assoc (start_entries (model_of plant) plant.wiring c) (r.events c) (more c)

      abbrev worked : List Entry
      worked = a.joined.works.did.entries

      abbrev fetched : List Entry
      fetched = a.joined.fetches.entries

      abbrev turned : List Entry
      turned = a.joined.turn.entries

      module _ (even : OwnFetched c (whole plant r.events c)) where
        abbrev before : List Entry
        before = whole plant r.events c

        evened : OwnFetched c ((before ++ worked) ++ fetched)
        unfolding parts joins_of
        evened =
            subst (λ (z : List Entry). OwnFetched c z) (sym (append_assoc before worked fetched))
            (own_append c before (worked ++ fetched) even
            (record { all = λ p d. own_even (run_plant plant (with_rest [])) old_world new_world more logs' answer (parts []) c p b d }))

        all_of_it : ((before ++ worked) ++ fetched) ++ turned ≡ start_entries (model_of plant) plant.wiring c ++ (r.events c ++ more c)
        all_of_it =
            append_assoc (before ++ worked) fetched turned
            ∙ append_assoc before worked (fetched ++ turned)
            ∙ ap (λ (z : List Entry). before ++ z) (sym a.parts)
            ∙ append_assoc (start_entries (model_of plant) plant.wiring c) (r.events c) (more c)

        even_after : OwnFetched c (start_entries (model_of plant) plant.wiring c ++ (r.events c ++ more c))
        even_after =
            subst (λ (z : List Entry). OwnFetched c z) all_of_it
            (own_append c ((before ++ worked) ++ fetched) turned evened (turns_even c turned a.joined.turn.only))

        prompt_more : PromptFrom c before (worked ++ (fetched ++ turned))
        prompt_more =
            prompt_append c before worked (fetched ++ turned) (a.prompt before even)
            (prompt_append c (before ++ worked) fetched turned
            (no_turns_prompt c (before ++ worked) fetched
            (fetched_no_turns (slice_index_or answer c []) fetched (fetched_of (slice_index_or answer c []) fetched a.joined.fetches.fetches)))
            (turns_prompt c ((before ++ worked) ++ fetched) turned evened a.joined.turn.only))

        prompt_after : PromptFrom c [] before → PromptFrom c [] (start_entries (model_of plant) plant.wiring c ++ (r.events c ++ more c))
        prompt_after h =
            subst (λ (z : List Entry). PromptFrom c [] z) (append_assoc (start_entries (model_of plant) plant.wiring c) (r.events c) (more c))
            (prompt_append c [] before (more c) h (subst (λ (z : List Entry). PromptFrom c before z) (sym a.parts) prompt_more))

    sound_after : (rest : List Item) → IsSound plant (with_rest rest) (λ p. r.events p ++ more p) new_world
    sound_after rest =
        let s = r.sound rest in
        record {
          history = history_more (run_plant plant (with_rest rest)) r.events more old_world new_world s.history
              (parts_round (run_plant plant (with_rest rest)) old_world new_world more logs' answer (parts rest));
          prompt = λ c b. prompt_after c b (s.even c b) (s.prompt c b);
          even = λ c b. even_after c b (s.even c b);
        }

    pub so_far : RunSoFar plant gone fuel news after (posts ++ es)
    so_far = record {
      stand = record {
        count = done.count ∙ r.stand.count;
        me = λ c k at. let t = there c k at in subst (λ (z : Controller). z.me.0 ≡ c) t.1 (me_stays c t.0);
        of = λ c k at. let t = there c k at in subst (λ (z : Controller). IsOf plant z) t.1 (more_at c t.0).joined.of;
      };
      fuel_is = λ c k at. let t = there c k at in subst (λ (z : Controller). z.fuel ≡ fuel) t.1 (fuel_stays c t.0);
      fuelled = λ c k at. let t = there c k at in subst (λ (z : Controller). z.mail.turns ≤ fuel) t.1 (keeps_fuel c t.0);
      events = λ p. r.events p ++ more p;
      journals = λ c k at. let t = there c k at in
          subst (λ (z : Controller). z.mail.journal ≡ start_entries (model_of plant) plant.wiring c ++ (r.events c ++ more c)) t.1 (journal_grows c t.0);
      posted = ap (λ (z : List Entry). z ++ more n) r.posted ∙ ap (λ (z : List Entry). posts ++ z) more_environment;
      nobody = λ p h. ap (λ (z : List Entry). z ++ more p) (r.nobody p h) ∙ more_past p h;
      within = λ p. posts_append n (r.events p) (more p) (r.within p) (more_within p);
      sound = sound_after;
    }

  -- what holds whatever comes after some items holds after more of them
  pub so_far_more : (gone more : List Item) (fuel : ℕ) (ks : List Controller) (v : Environment) (posts : List Entry) → RunSoFar plant gone fuel ks v posts → RunSoFar plant (gone ++ more) fuel ks v posts
  so_far_more gone more fuel ks v posts r = record {
    stand = r.stand;
    fuel_is = r.fuel_is;
    fuelled = r.fuelled;
    events = r.events;
    journals = r.journals;
    posted = r.posted;
    nobody = r.nobody;
    within = r.within;
    sound = λ rest.
        subst (λ (z : List Item). IsSound plant (lines_of z) r.events (world_of plant ks v)) (sym (append_assoc gone more rest)) (r.sound (more ++ rest));
  }
