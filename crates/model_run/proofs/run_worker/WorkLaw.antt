-- What posts, a poll and a turn are together.
use Rattle.std.proofs.Common.{◌≡◌, ℕ, ◌+◌, ◌<◌, ◌≤◌, Bool, true, false, List, [], ◌∷◌, ◌++◌, length, Some, None, Result, Ok, Err, IfOk, OnOk, All, refl, sym, ap, ◌∙◌, subst, arith}
use Rattle.std.proofs.lemmas.List.Elements.{All-head, All-tail}
use Rattle.room_kinds.specs.declared.numbers.ControllerId.{ControllerId}
use Rattle.room_kinds.specs.declared.message.Msg.{Msg}
use Rattle.journal.specs.declared.entry.Entry.{Entry}
use Rattle.journal.specs.declared.entry.Entry.TheVariants as entry
use Rattle.mail_core.specs.EndLog.{EndLog}
use Rattle.actor_merge.specs.Mail.{lane}
use Rattle.actor_merge.specs.Parties.{State, Plant as RunPlant, post, post_front, Does, Replays}
use Rattle.actor_world.specs.Journals.{is_turn}
use Rattle.model_run.specs.run_rounds.Rounds.{IsFetchWithin, FetchesWithin, Fetched, OnlyTurns}
use Rattle.model_run.specs.run_rounds.Prompts.{PromptFrom, EndsAs}
use Rattle.model_run.proofs.run_rounds.LaneLists.{turns_give, turns_take, posts_append, turns_post, fetches_post}
use Rattle.model_run.proofs.run_rounds.PromptLists.{NoTurns, no_turns_prompt, prompt_append, prompt_turn, ends_more, may_turn}
use Rattle.model_run.proofs.run_rounds.PolledLists.{polled_within, fetched_within, fetched_no_turns, within_append}
use Rattle.controller_actors.specs.declared.plant.Plant.{Plant}
use Rattle.controller.specs.Controllers.{Goes, EndGoes, run_plant, state_in}
use Rattle.controller.specs.Calls.{is_post, PostsWithin, AreFetches, no_fetches, one_more, PostsAll, Polls, Turns, took_one, took_none}
use Rattle.controller.specs.View.{Controller}
use Rattle.model_run.specs.run_worker.Works.{Counted, Did, Works}
use Rattle.controller.proofs.Going.{goes_then, end_goes_then, end_goes_still}

-- what follows from each answer of a call that ends well
pub each_ok : {T E P : Type 0} {Q : T → Type 0} (r : Result T E) → ((x : T) → Q x → P) → IfOk r Q → OnOk r P
each_ok (Ok x) f h = f x h
each_ok (Err e) f h = tt

-- the same where what follows is of the answer too
pub each_if_ok : {T E : Type 0} {P Q : T → Type 0} (r : Result T E) → ((x : T) → Q x → P x) → IfOk r Q → IfOk r P
each_if_ok (Ok x) f h = f x h
each_if_ok (Err e) f h = tt

-- each of these entries posts
abbrev pub OnlyPosts : List Entry → Type 0
OnlyPosts [] = Unit {0}
OnlyPosts (e ∷ es) = (is_post e ≡ true) × OnlyPosts es

only_posts : (es : List Entry) → All (λ (e : Entry). is_post e ≡ true) es → OnlyPosts es
only_posts [] h = tt
only_posts (e ∷ es) h = (All-head (λ (x : Entry). is_post x ≡ true) e es h, only_posts es (All-tail (λ (x : Entry). is_post x ≡ true) e es h))

post_is_no_turn : (e : Entry) → is_post e ≡ true → is_turn e ≡ false
post_is_no_turn (entry.Start who state notes) h = refl
post_is_no_turn (entry.Fetch stamp m) h = refl
post_is_no_turn (entry.Turn stamp from sent did notes) h = absurd cc
post_is_no_turn (entry.Post stamp m) h = refl

posts_no_turns : (es : List Entry) → OnlyPosts es → NoTurns es
posts_no_turns [] h = tt
posts_no_turns (e ∷ es) h = (post_is_no_turn e h.0, posts_no_turns es h.1)

post_is_within : (n : ℕ) (e : Entry) → is_post e ≡ true → IsFetchWithin n e
post_is_within n (entry.Start who state notes) h = tt
post_is_within n (entry.Fetch stamp m) h = absurd cc
post_is_within n (entry.Turn stamp from sent did notes) h = tt
post_is_within n (entry.Post stamp m) h = tt

posts_within : (n : ℕ) (es : List Entry) → OnlyPosts es → FetchesWithin n es
posts_within n [] h = tt
posts_within n (e ∷ es) h = (post_is_within n e h.0, posts_within n es h.1)

turn_is_within : (n : ℕ) (e : Entry) → is_turn e ≡ true → IsFetchWithin n e
turn_is_within n (entry.Start who state notes) h = tt
turn_is_within n (entry.Fetch stamp m) h = absurd cc
turn_is_within n (entry.Turn stamp from sent did notes) h = tt
turn_is_within n (entry.Post stamp m) h = tt

pub fetched_of : (ms : List Msg) (es : List Entry) → AreFetches ms es → Fetched ms es
fetched_of ms es no_fetches = tt
fetched_of ms es (one_more {ms = ms'} {es = es'} e m here rest) = (here, fetched_of ms' es' rest)

module _ {B : Type 0} (plant : RunPlant B) (c : ℕ) where
  post_keeps_turns : (s next : State B) (e : Entry) → post c s ≡ Some (next, e) → next.turns ≡ s.turns
  unfolding post
  post_keeps_turns s next e h = go s.outbox h
    where
      go : (box : List Msg) → post_front c s box ≡ Some (next, e) → next.turns ≡ s.turns
      go [] k = cc
      go (x ∷ xs) k = sym (ap (elim [ None ↦ 0 | Some r ↦ r.0.turns ]) k)

  does_post : (s next : State B) (e : Entry) → is_post e ≡ true → Does plant c s e next → next.turns ≡ s.turns
  does_post s next (entry.Start who state notes) p h = absurd h
  does_post s next (entry.Fetch stamp m) p h = absurd cc
  does_post s next (entry.Turn stamp from sent did notes) p h = absurd cc
  does_post s next (entry.Post stamp m) p h = post_keeps_turns s next (entry.Post stamp m) h

  -- posts take no turn
  posts_keep_turns : (s : State B) (es : List Entry) (end : State B) → OnlyPosts es → Replays plant c s es end → end.turns ≡ s.turns
  posts_keep_turns s [] end p h = ap (λ (z : State B). z.turns) h
  posts_keep_turns s (e ∷ es) end p h = posts_keep_turns h.0 es end p.1 h.2 ∙ does_post s h.0 e p.0 h.1

module _ (plant : Plant) where
  pub did_then : (a b c : Controller) (x y z : EndLog) → Did plant a b x y → Did plant b c y z → Did plant a c x z
  did_then a b c x y z d f =
      let me : b.me ≡ a.me = d.goes.me in
      let end : EndGoes a.me.0 y z f.entries = subst (λ (i : ControllerId). EndGoes i.0 y z f.entries) me f.end in
      let prompt : (before : List Entry) → EndsAs a.me.0 before y → PromptFrom a.me.0 before f.entries =
      subst (λ (i : ControllerId). (before : List Entry) → EndsAs i.0 before y → PromptFrom i.0 before f.entries) me f.prompt in
      record {
        entries = d.entries ++ f.entries;
        goes = goes_then d.goes f.goes;
        end = end_goes_then d.end end;
        within = within_append (length plant.wiring.controllers) d.entries f.entries d.within f.within;
        posts = posts_append (length plant.wiring.controllers) d.entries f.entries d.posts f.posts;
        prompt = λ before h. prompt_append a.me.0 before d.entries f.entries (d.prompt before h)
            (prompt (before ++ d.entries) (ends_more a.me.0 before d.entries x y h (λ p. d.end.posted a.me.0 p) (λ p. d.end.took a.me.0 p)));
        fuelled = λ h.
            let one : b.mail.turns ≤ a.fuel = d.fuelled h in
            let fuel : b.fuel ≡ a.fuel = d.goes.fuel in
            let two : b.mail.turns ≤ b.fuel → c.mail.turns ≤ b.fuel = f.fuelled in
            let last : c.mail.turns ≤ b.fuel = two (omega arith) in
            omega arith;
      }

  pub posts_turns : (old new : Controller) (log log' : EndLog) → PostsAll plant old new log log' → new.mail.turns ≡ old.mail.turns
  posts_turns old new log log' p =
      posts_keep_turns (run_plant plant []) old.me.0 (state_in plant old) p.entries (state_in plant new) (only_posts p.entries p.posts) (p.goes.replays [])

  pub posts_did : (old new : Controller) (log log' : EndLog) → PostsAll plant old new log log' → Works plant old new log log'
  posts_did old new log log' p =
      let only = only_posts p.entries p.posts in
      let turns : new.mail.turns ≡ old.mail.turns = posts_turns old new log log' p in
      record {
        did = record {
          entries = p.entries;
          goes = p.goes;
          end = p.end;
          within = posts_within (length plant.wiring.controllers) p.entries only;
          posts = p.within;
          prompt = λ before h. no_turns_prompt old.me.0 before p.entries (posts_no_turns p.entries only);
          fuelled = λ h. omega arith;
        };
        posted = p.empty;
      }

  module _ (in_box : ℕ → ℕ → ℕ → ℕ → Type 0) (boxes : ℕ) (old mid : Controller) (log log' : EndLog) (count : ℕ) (parties : log.parties ≡ length plant.wiring.controllers + 1) (p : Polls plant in_box boxes old mid log log' count) where
    polls_within : FetchesWithin (length plant.wiring.controllers) p.entries
    polls_within =
        let gave = (polled_within in_box boxes log log' p.gave p.looks).1 in
        fetched_within (length plant.wiring.controllers) p.gave p.entries (rw parties at gave) (fetched_of p.gave p.entries p.fetches)

    polls_post : PostsWithin (length plant.wiring.controllers) p.entries
    polls_post = fetches_post (length plant.wiring.controllers) p.gave p.entries (fetched_of p.gave p.entries p.fetches)

    polls_prompt : (before : List Entry) → PromptFrom old.me.0 before p.entries
    polls_prompt before = no_turns_prompt old.me.0 before p.entries (fetched_no_turns p.gave p.entries (fetched_of p.gave p.entries p.fetches))

    -- a poll
    pub polls_did : Did plant old mid log log'
    polls_did = record {
      entries = p.entries;
      goes = p.goes;
      end = p.end;
      within = polls_within;
      posts = polls_post;
      prompt = λ before h. polls_prompt before;
      fuelled = λ h. let same : mid.mail.turns ≡ old.mail.turns = p.turns in omega arith;
    }

  -- a poll and a turn
  with_turn : (in_box : ℕ → ℕ → ℕ → ℕ → Type 0) (boxes : ℕ) (old mid new : Controller) (log log' : EndLog) (count : ℕ) (e : Entry)
      → log.parties ≡ length plant.wiring.controllers + 1 → old.mail.turns < old.fuel → Polls plant in_box boxes old mid log log' count
      → is_turn e ≡ true → Goes plant mid new (e ∷ []) → new.mail.turns ≡ mid.mail.turns + 1 → Did plant old new log log'
  with_turn in_box boxes old mid new log log' count e parties fuel p is goes more =
      let only : OnlyTurns (e ∷ []) = (is, tt) in
      let c = old.me.0 in
      let end : EndGoes c log' log' (e ∷ []) = end_goes_still (λ r q. turns_give (lane c r q) c (e ∷ []) only) (λ s q. turns_take (lane s c q) c (e ∷ []) only) in
      record {
        entries = p.entries ++ e ∷ [];
        goes = goes_then p.goes goes;
        end = end_goes_then p.end end;
        within = within_append (length plant.wiring.controllers) p.entries (e ∷ []) (polls_within in_box boxes old mid log log' count parties p) (turn_is_within (length plant.wiring.controllers) e is, tt);
        posts = posts_append (length plant.wiring.controllers) p.entries (e ∷ []) (polls_post in_box boxes old mid log log' count parties p) (turns_post (length plant.wiring.controllers) (e ∷ []) only);
        prompt = λ before h.
            prompt_append c before p.entries (e ∷ []) (polls_prompt in_box boxes old mid log log' count parties p before)
            (prompt_turn c (before ++ p.entries) e
            (may_turn c before p.entries log' (ends_more c before p.entries log log' h (λ q. p.end.posted c q) (λ q. p.end.took c q)) p.prompt));
        fuelled = λ h. let same : mid.mail.turns ≡ old.mail.turns = p.turns in omega arith;
      }

  pub step_did : (in_box : ℕ → ℕ → ℕ → ℕ → Type 0) (boxes : ℕ) (old mid new : Controller) (log log' : EndLog) (count : ℕ) (took : Bool)
      → log.parties ≡ length plant.wiring.controllers + 1 → old.mail.turns < old.fuel → Polls plant in_box boxes old mid log log' count → Turns plant mid new took
      → Did plant old new log log'
  step_did in_box boxes old mid new log log' count took parties fuel p (took_one e t is goes more) = with_turn in_box boxes old mid new log log' count e parties fuel p is goes more
  step_did in_box boxes old mid new log log' count took parties fuel p (took_none t none same) =
      subst (λ (z : Controller). Did plant old z log log') (sym same) (polls_did in_box boxes old mid log log' count parties p)

  -- the turns are counted
  pub turn_counted : (old mid new : Controller) (took : Bool) → mid.mail.turns ≡ old.mail.turns → Turns plant mid new took → Counted took old new
  turn_counted old mid new took polled (took_one e t is goes more) = subst (λ (b : Bool). Counted b old new) (sym t) (more ∙ ap (λ (n : ℕ). n + 1) polled)
  turn_counted old mid new took polled (took_none t none same) =
      subst (λ (b : Bool). Counted b old new) (sym t) (ap (λ (k : Controller). k.mail.turns) same ∙ polled)

  pub works_then : (a b c : Controller) (x y z : EndLog) → Did plant a b x y → Works plant b c y z → Works plant a c x z
  works_then a b c x y z d w = record { did = did_then a b c x y z d w.did; posted = w.posted }
