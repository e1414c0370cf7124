-- What a controller does is events of its own.
use Rattle.std.proofs.Common.{◌≡◌, ℕ, ◌+◌, ◌==◌, max, true, false, cond, if◌then◌else◌, List, [], ◌∷◌, ◌++◌, map, length, inl, inr, refl, sym, ap, ◌∙◌, subst, arith, append-nil}
use Rattle.std.proofs.lemmas.Bool.{cases_Bool}
use Rattle.std.proofs.lemmas.List.Elements.{All-map}
use Rattle.room_kinds.specs.declared.message.Msg.{Msg}
use Rattle.room_kinds.specs.declared.numbers.ControllerId.{ControllerId}
use Rattle.journal.specs.declared.entry.Entry.{Entry}
use Rattle.mail_core.specs.EndLog.{EndLog, posting_all}
use Rattle.mail_core.specs.Takes.{PollsBoxes}
use Rattle.actor_merge.specs.Mail.{taken}
use Rattle.actor_merge.specs.Parties.{Replays}
use Rattle.actor_world.specs.Journals.{fetches_since}
use Rattle.controller_mail.specs.MailState.{state_of}
use Rattle.controller_mail.specs.Within.{AreWithin}
use Rattle.controller_mail.specs.controller_moves.Moves.{FetchesEach, PostsFrom, PollsInto, count_at}
use Rattle.controller_mail.proofs.controller_moves.Looked.{Took, Took-boxes}
use Rattle.controller_mail.proofs.controller_moves.Prompt.{count_at-cons}
use Rattle.controller_mail.proofs.controller_moves.Replayed.{posted_as, fetched_at, fetch_entries, PostsEach-journal, PostsEach-replays, posted-given, posts-take_nothing, posting_all-same, FetchesEach-journal, FetchesEach-replays, FetchesEach-turns, FetchesEach-outbox, taken-of, fetches-give_nothing}
use Rattle.controller_actors.specs.Bodies.{body_of}
use Rattle.controller_actors.specs.declared.plant.Plant.{Plant}
use Rattle.controller.specs.Controllers.{Goes, EndGoes, run_plant, state_in}
use Rattle.controller.specs.Calls.{is_post, AreFetches, no_fetches, one_more, PostsAll, PostsWithin, Polls, FetchesLeft}
use Rattle.controller.specs.View.{Controller}

-- only the mail changed
pub record SameActors (old new : Controller) : Type 0 where
  pub me : new.me ≡ old.me
  pub fuel : new.fuel ≡ old.fuel
  pub works : new.failed ≡ false
  pub actors : new.actors ≡ old.actors

-- so it is where the controller worked
pub same_actors : (old new : Controller) → new ≡ record old { mail = new.mail } → old.failed ≡ false → SameActors old new
same_actors old new is works = record {
  me = ap (λ (k : Controller). k.me) is;
  fuel = ap (λ (k : Controller). k.fuel) is;
  works = ap (λ (k : Controller). k.failed) is ∙ works;
  actors = ap (λ (k : Controller). k.actors) is;
}

-- entries that a mail did by itself
goes_by_mail : (plant : Plant) (old new : Controller) (es : List Entry) → SameActors old new → new.mail.journal ≡ old.mail.journal ++ es
    → ((lines : List _) → Replays (run_plant plant lines) old.me.0 (state_in plant old) es (state_of new.mail (body_of plant old.me.0 old.actors)))
    → Goes plant old new es
goes_by_mail plant old new es same journal replays =
    let body : body_of plant old.me.0 old.actors ≡ body_of plant new.me.0 new.actors =
    ap (λ (c : ControllerId). body_of plant c.0 old.actors) (sym same.me) ∙ ap (body_of plant new.me.0) (sym same.actors) in
    record {
      me = same.me;
      fuel = same.fuel;
      works = same.works;
      journal = journal;
      replays = λ lines. subst (λ b. Replays (run_plant plant lines) old.me.0 (state_in plant old) es (state_of new.mail b)) body (replays lines);
    }

-- an end that posted these messages
end_posts : (c : ℕ) (log log' : EndLog) (ms : List Msg) → log' ≡ posting_all log ms → EndGoes c log log' (map posted_as ms)
end_posts c log log' ms e =
    let same = posting_all-same log ms in
    subst (λ x. EndGoes c log x (map posted_as ms)) (sym e) (record {
      party = same.0;
      parties = same.1;
      posted = λ r p. posted-given c r p log ms;
      took = λ s p. ap (λ f. f s p) same.2 ∙ sym (append-nil (log.taken s p)) ∙ ap (λ z. log.taken s p ++ z) (sym (posts-take_nothing c s p ms));
    })

-- an end that took these messages
pub end_took : (c clock : ℕ) (log log' : EndLog) (ms : List Msg) → Took log log' ms → EndGoes c log log' (fetch_entries clock ms)
end_took c clock log log' ms took = record {
  party = took.party;
  parties = took.parties;
  posted = λ r p. ap (λ f. f r p) took.posted ∙ sym (append-nil (log.posted r p)) ∙ ap (λ z. log.posted r p ++ z) (sym (fetches-give_nothing c r p clock ms));
  took = λ s p. took.taken s p ∙ ap (λ z. log.taken s p ++ z) (sym (taken-of c s p clock ms));
}

-- an end whose boxes gave these messages
pub end_takes : (c clock k : ℕ) (in_box : ℕ → ℕ → ℕ → ℕ → Type 0) (log log' : EndLog) (ms : List Msg) → PollsBoxes in_box k log log' ms → EndGoes c log log' (fetch_entries clock ms)
end_takes c clock k in_box log log' ms looks = end_took c clock log log' ms (Took-boxes in_box k log log' ms looks)

-- the entries of posts that go to controllers do
posts_within : (n : ℕ) (ms : List Msg) → AreWithin n ms → PostsWithin n (map posted_as ms)
posts_within n [] h = tt
posts_within n (m ∷ ms) h = (h.0, posts_within n ms h.1)

-- all of the outbox was posted
pub posts_all : (plant : Plant) (old new : Controller) (log log' : EndLog) (controllers : ℕ) → SameActors old new → controllers ≡ length plant.wiring.controllers
    → PostsFrom old.me.0 controllers old.mail new.mail log log' → new.mail.outbox ≡ [] → PostsAll plant old new log log'
posts_all plant old new log log' controllers same count f empty = record {
  entries = map posted_as f.messages;
  goes = goes_by_mail plant old new (map posted_as f.messages) same (PostsEach-journal old.me.0 old.mail new.mail f.messages f.posts)
      (λ lines. PostsEach-replays (run_plant plant lines) old.me.0 old.mail new.mail f.messages (body_of plant old.me.0 old.actors) f.posts);
  end = end_posts old.me.0 log log' f.messages f.logged;
  posts = All-map (λ e. is_post e ≡ true) posted_as f.messages (λ k d h. refl);
  within = posts_within (length plant.wiring.controllers) f.messages (subst (λ n. AreWithin n f.messages) count f.within);
  empty = empty;
}

are_fetches : (clock : ℕ) (ms : List Msg) → AreFetches ms (fetch_entries clock ms)
are_fetches clock [] = no_fetches
are_fetches clock (m ∷ ms) = one_more (fetched_at clock m) m (_, refl) (are_fetches (max clock m.stamp.0 + 1) ms)

goes_by_fetches : (plant : Plant) (old new : Controller) (ms : List Msg) → SameActors old new → FetchesEach old.mail ms new.mail → Goes plant old new (fetch_entries old.mail.clock ms)
goes_by_fetches plant old new ms same f =
    goes_by_mail plant old new (fetch_entries old.mail.clock ms) same (FetchesEach-journal old.mail new.mail ms f)
    (λ lines. FetchesEach-replays (run_plant plant lines) old.me.0 old.mail new.mail ms (body_of plant old.me.0 old.actors) f)

-- these messages were fetched
pub fetches_left : (plant : Plant) (old new : Controller) (ms : List Msg) → SameActors old new → FetchesEach old.mail ms new.mail → FetchesLeft plant old new ms
fetches_left plant old new ms same f = record {
  entries = fetch_entries old.mail.clock ms;
  goes = goes_by_fetches plant old new ms same f;
  fetches = are_fetches old.mail.clock ms;
  outbox = FetchesEach-outbox old.mail new.mail ms f;
  turns = FetchesEach-turns old.mail new.mail ms f;
}

-- fetches are counted as their messages are
fetches-count : (p k clock : ℕ) (ms : List Msg) → fetches_since p k (fetch_entries clock ms) ≡ k + count_at p ms
fetches-count p k clock [] = omega arith
fetches-count p k clock (m ∷ ms) =
    let later = max clock m.stamp.0 + 1 in
    let sum = count_at-cons p m ms in
    elim (cases_Bool (m.prio.0 == p)) [
      | inl here ↦
          let one : ◌≡◌ {A = ℕ} (cond (m.prio.0 == p) 1 0) 1 = ap (λ b. cond b 1 0) here in
          let rest = fetches-count p (k + 1) later ms in
          ap (λ b. fetches_since p (if b then k + 1 else k) (fetch_entries later ms)) here ∙ omega (arith, rest, sum, one)
      | inr other ↦
          let none : ◌≡◌ {A = ℕ} (cond (m.prio.0 == p) 1 0) 0 = ap (λ b. cond b 1 0) other in
          let rest = fetches-count p k later ms in
          ap (λ b. fetches_since p (if b then k + 1 else k) (fetch_entries later ms)) other ∙ omega (arith, rest, sum, none)
    ]

-- boxes were polled, and what they gave was fetched
pub polls : (in_box : ℕ → ℕ → ℕ → ℕ → Type 0) (boxes : ℕ) (plant : Plant) (old new : Controller) (log log' : EndLog) (count : ℕ) → SameActors old new → log.party ≡ old.me.0
    → PollsInto in_box boxes old.mail new.mail log log' count → Polls plant in_box boxes old new log log' count
polls in_box boxes plant old new log log' count same party q =
    let es = fetch_entries old.mail.clock q.gave in
    record {
      gave = q.gave;
      entries = es;
      goes = goes_by_fetches plant old new q.gave same q.fetches;
      end = end_takes old.me.0 old.mail.clock boxes in_box log log' q.gave q.looks;
      fetches = are_fetches old.mail.clock q.gave;
      counted = q.counted;
      looks = q.looks;
      prompt = λ p within. elim (q.prompt p within) [
        | inl taken ↦ inl (subst (λ c. log'.posted c p ≡ log'.taken c p) party taken)
        | inr many ↦ inr (omega (arith, many, fetches-count p 0 old.mail.clock q.gave))
      ];
      outbox = FetchesEach-outbox old.mail new.mail q.gave q.fetches;
      turns = FetchesEach-turns old.mail new.mail q.gave q.fetches;
    }
