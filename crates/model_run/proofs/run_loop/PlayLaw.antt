-- How a run goes on, round by round and part by part, up to its end.
use Rattle.std.proofs.Common.{◌≡◌, ℕ, ◌+◌, ◌<◌, ◌≤◌, ◌==◌, nat_le, not, ◌||◌, inl, inr, true, false, List, [], ◌++◌, length, drop, slice_get, Some, refl, sym, ap, ◌∙◌, subst, arith, append_assoc, append-nil, eqb-true, leb-true}
use Rattle.std.specs.List.{list_any, list_all}
use Rattle.std.proofs.lemmas.Bool.{cases_lt}
use Rattle.std.proofs.lemmas.List.{map-append}
use Rattle.room_kinds.specs.declared.message.Msg.{Msg}
use Rattle.journal.specs.declared.entry.Entry.{Entry}
use Rattle.inject_reader.specs.declared.inject_lines.accepted.Line.{Line}
use Rattle.mail_core.specs.EndLog.{EndLog}
use Rattle.mail_core.specs.SetUp.{AreFresh}
use Rattle.actor_merge.specs.Parties.{State, Environment, Line as RunLine, Plant as RunPlant}
use Rattle.actor_merge.specs.World.{World, IsQuiet, latest, latest_of}
use Rattle.actor_world.specs.Body.{Body}
use Rattle.actor_world.specs.Journals.{Item, lines_of, last_part}
use Rattle.chart_behaviour.specs.ModelCharts.{Actor}
use Rattle.controller_mail.specs.MailState.{EnvironmentState, environment_of}
use Rattle.controller_actors.specs.declared.plant.Plant.{Plant}
use Rattle.controller.specs.Controllers.{run_plant, state_at}
use Rattle.controller.proofs.Standing.{some_at, state_is}
use Rattle.controller.specs.View.{Controller}
use Rattle.model_run.specs.run_rounds.LineParts.{CutAt, GoneTo, PostsPart}
use Rattle.model_run.proofs.run_rounds.LinesLaw.{cut_start, posts_one_part, last_after, goes_on, goes_on_quiet, goes_later}
use Rattle.model_run.specs.joined_round.Joined.{AllStand, RoundDone}
use Rattle.model_run.specs.run_so_far.SoFar.{world_of, RunSoFar, EndsPosted, EnvironmentPosts}
use Rattle.model_run.proofs.run_so_far.GoesOn.{so_far, so_far_more}
use Rattle.model_run.specs.part_source.Parts.{IsPart, AreSettles}
use Rattle.model_run.specs.part_posts.Items.{item_of, items_of}
use Rattle.model_run.proofs.part_posts.PostLaw.{all_gone}
use Rattle.model_run.specs.run_ends.Ends.{waits, IsAtEnd}
use Rattle.model_run.specs.run_loop.Plays.{MayPost, BeforePart, InPart, rests, PartPosted}
use Rattle.model_run.specs.run_loop.Plays.MayPost.{same_part, later_part}
use Rattle.model_run.proofs.run_loop.Skipping.{gone_settles}
use Rattle.model_run.proofs.run_loop.ListFacts.{both_left, both_right, either_then, all_true, all_false, found, empty_list, none_pending}

-- where nothing is posted
nothing_posted : (n : ℕ) (logs : List EndLog) → AreFresh (n + 1) logs → EndsPosted n logs []
nothing_posted n logs f = record {
  count = f.count;
  controllers = λ c h. f.each c (omega arith);
  environment = record {
    posted = λ r p. ap (λ (z : EndLog). z.posted r p) (f.each n (omega arith));
    took = λ s p. ap (λ (z : EndLog). z.taken s p) (f.each n (omega arith));
  };
  within = tt;
  above = tt;
}

pub rests_outbox : (fuel : ℕ) (k : Controller) → rests fuel k ≡ true → k.mail.outbox ≡ []
rests_outbox fuel k h = empty_list k.mail.outbox (eqb-true (length k.mail.outbox) 0 (both_left (length k.mail.outbox == 0) (not (waits k) || nat_le fuel k.mail.turns) h))

rests_spent : (fuel : ℕ) (k : Controller) → rests fuel k ≡ true → waits k ≡ true → fuel ≤ k.mail.turns
rests_spent fuel k h w =
    leb-true fuel k.mail.turns
    (either_then (waits k) (nat_le fuel k.mail.turns) (both_right (length k.mail.outbox == 0) (not (waits k) || nat_le fuel k.mail.turns) h) w)

abbrev clocked : Environment → ℕ → Environment
clocked v clock = record v { clock = clock }

module _ (plant : Plant) (fuel : ℕ) where
  abbrev run : List RunLine → RunPlant (Body Actor)
  run lines = run_plant plant lines

  -- before the first part
  pub before_first : (part : List Line) (ks : List Controller) → IsPart part → RunSoFar plant [] fuel ks (record { clock = 0; posted = 0 }) []
      → BeforePart plant (items_of plant.wiring part) part fuel ks (record { clock = 0; journal = [] })
  before_first part ks of s = record {
    v = record { clock = 0; posted = 0 };
    gone = [];
    is = refl;
    of = of;
    so_far = s;
    part = 1;
    cut = λ rest. cut_start rest;
    may = same_part refl (λ rest. refl);
  }

  nothing_goes : (lines : List RunLine) (w : World (Body Actor)) → EnvironmentPosts plant lines w [] w.environment
  nothing_goes lines w = record { goes = refl; quiet = λ b. inl refl; one_part = λ line a b. absurd (omega arith) }

  -- a round without posts
  pub quiet_on : (gone : List Item) (ks : List Controller) (env : EnvironmentState) (logs : List EndLog) → InPart plant gone fuel ks env → AreFresh (length plant.wiring.controllers + 1) logs
      → (news : List Controller) (logs' : List EndLog) (answer : List (List Msg)) → RoundDone plant ks news logs logs' answer → InPart plant gone fuel news env
  quiet_on gone ks env logs s fresh_ends news logs' answer done = record {
    so_far = subst (λ (z : List Entry). RunSoFar plant gone fuel news (environment_of env) z) (append-nil env.journal)
        (so_far plant gone fuel ks news (environment_of env) (environment_of env) env.journal [] logs logs' answer s.so_far
        (nothing_posted (length plant.wiring.controllers) logs fresh_ends) (λ rest. nothing_goes (lines_of (gone ++ rest)) (world_of plant ks (environment_of env))) done);
    part = s.part;
    cut = s.cut;
    last = s.last;
  }

  module _ (all : List Item) (lines : List Line) (ks : List Controller) (old new : EnvironmentState) (logs : List EndLog) (b : BeforePart plant all lines fuel ks old) (posted : PartPosted plant lines old new logs) where
    abbrev w : World (Body Actor)
    w = world_of plant ks b.v

    abbrev es : List Entry
    es = posted.part.entries

    abbrev items : List Item
    items = items_of plant.wiring lines

    -- the whole text, where these items come behind the part
    abbrev text : List Item → List Item
    text rest = b.gone ++ (items ++ rest)

    abbrev plan : List Item → RunPlant (Body Actor)
    plan rest = run_plant plant (lines_of (text rest))

    posts : (rest : List Item) → PostsPart (plan rest) (environment_of old) (environment_of new) es b.part × CutAt (text rest) (drop (length lines) items ++ rest) (length new.journal) b.part
    posts rest = posted.part.posts (text rest) rest b.part (b.cut (items ++ rest))

    -- the posts are those of the world
    record Went (rest : List Item) : Type 0 where
      goes : EnvironmentPosts plant (lines_of (text rest)) w es (environment_of new)
      last : last_part (lines_of (text rest)) (length new.journal) ≡ b.part

    went_same : (rest : List Item) → environment_of old ≡ b.v → last_part (lines_of (text rest)) b.v.posted ≡ b.part → Went rest
    went_same rest same last =
        let p : PostsPart (plan rest) b.v (environment_of new) es b.part = subst (λ (z : Environment). PostsPart (plan rest) z (environment_of new) es b.part) same (posts rest).0 in
        record {
          goes = record {
            goes = goes_on (plan rest) w (environment_of new) b.part es p last;
            quiet = goes_on_quiet (plan rest) w (environment_of new) b.part es p last;
            one_part = posts_one_part (plan rest) b.v (environment_of new) es b.part p;
          };
          last = elim (cases_lt 0 (length es)) [
            | inl some ↦ last_after (plan rest) b.v (environment_of new) es b.part p some
            | inr none ↦
                let count : length new.journal ≡ b.v.posted + length es = p.count in
                let still : b.v.posted ≡ length new.journal = omega arith in
                subst (λ (z : ℕ). last_part (lines_of (text rest)) z ≡ b.part) still last
          ];
        }

    some_posted : 0 < length lines → 0 < length es
    some_posted some = omega (arith, posted.part.count)

    went_later : (rest : List Item) → environment_of old ≡ record b.v { clock = latest_of (plan rest) w } → last_part (lines_of (text rest)) b.v.posted < b.part → 0 < length lines
        → IsQuiet (plan rest) w → Went rest
    went_later rest caught last some quiet =
        let start : Environment = record b.v { clock = latest_of (plan rest) w } in
        let p : PostsPart (plan rest) start (environment_of new) es b.part = subst (λ (z : Environment). PostsPart (plan rest) z (environment_of new) es b.part) caught (posts rest).0 in
        record {
          goes = record {
            goes = goes_later (plan rest) w (environment_of new) b.part es p (some_posted some) last;
            quiet = λ begins. inr quiet;
            one_part = posts_one_part (plan rest) start (environment_of new) es b.part p;
          };
          last = last_after (plan rest) start (environment_of new) es b.part p (some_posted some);
        }

    went : MayPost plant b.gone lines ks old b.v b.part → (rest : List Item) → Went rest
    went (same_part same last) rest = went_same rest same (last (items ++ rest))
    went (later_part caught last some quiet) rest = went_later rest caught (last (items ++ rest)) some (quiet (lines_of (text rest)))

    grouped : (rest : List Item) → text rest ≡ (b.gone ++ items) ++ rest
    grouped rest = sym (append_assoc b.gone items rest)

    cut_after : (rest : List Item) → CutAt ((b.gone ++ items) ++ rest) rest (length new.journal) b.part
    cut_after rest =
        subst (λ (z : List Item). CutAt z rest (length new.journal) b.part) (grouped rest)
        (subst (λ (z : List Item). CutAt (text rest) (z ++ rest) (length new.journal) b.part) (all_gone plant lines) (posts rest).1)

    -- the first round of a part
    pub post_on : (news : List Controller) (logs' : List EndLog) (answer : List (List Msg)) → RoundDone plant ks news logs logs' answer → InPart plant all fuel news new
    post_on news logs' answer done =
        let now : List Item = b.gone ++ items in
        let before : RunSoFar plant now fuel ks b.v old.journal = so_far_more plant b.gone items fuel ks b.v old.journal b.so_far in
        let goes : (rest : List Item) → EnvironmentPosts plant (lines_of (now ++ rest)) w es (environment_of new) =
        λ rest. subst (λ (z : List Item). EnvironmentPosts plant (lines_of z) w es (environment_of new)) (grouped rest) (went b.may rest).goes in
        subst (λ (z : List Item). InPart plant z fuel news new) (sym b.is)
        (record {
          so_far = subst (λ (z : List Entry). RunSoFar plant now fuel news (environment_of new) z) (sym posted.part.journal)
              (so_far plant now fuel ks news b.v (environment_of new) old.journal es logs logs' answer before posted.ends goes done);
          part = b.part;
          cut = cut_after;
          last = λ rest. subst (λ (z : List Item). last_part (lines_of z) (length new.journal) ≡ b.part) (grouped rest) (went b.may rest).last;
        })

  quiet_now : (lines : List RunLine) (ks : List Controller) (v : Environment) → AllStand plant ks → list_all (rests fuel) ks ≡ true → list_any waits ks ≡ false → IsQuiet (run lines) (world_of plant ks v)
  quiet_now lines ks v stand rest none = record {
    lanes = λ l. refl;
    pending = λ c p h.
        let o = some_at ks c (omega (arith, stand.count)) in
        ap (λ (s : State (Body Actor)). s.pending p) (state_is plant ks c o.0 o.1) ∙ none_pending o.0.mail.pending (all_false waits ks none c o.0 o.1) p;
    outbox = λ c h.
        let o = some_at ks c (omega (arith, stand.count)) in
        ap (λ (s : State (Body Actor)). s.outbox) (state_is plant ks c o.0 o.1) ∙ rests_outbox fuel o.0 (all_true (rests fuel) ks rest c o.0 o.1);
  }

  module _ (gone : List Item) (ks : List Controller) (env : EnvironmentState) (s : InPart plant gone fuel ks env) (rest : list_all (rests fuel) ks ≡ true) where
    outboxes : (c : ℕ) (k : Controller) → slice_get ks c ≡ Some k → k.mail.outbox ≡ []
    outboxes c k h = rests_outbox fuel k (all_true (rests fuel) ks rest c k h)

    -- a message waits, and all that wait are spent
    pub ends_spent : list_any waits ks ≡ true → IsAtEnd plant gone fuel ks env false
    ends_spent some =
        let f = found waits ks some in
        record {
          v = environment_of env;
          posted = refl;
          so_far = s.so_far;
          part = s.part;
          cut = s.cut;
          outboxes = outboxes;
          quiet = λ e. absurd cc;
          last = λ e more. sym (s.last more);
          spent = λ e c k h waiting. rests_spent fuel k (all_true (rests fuel) ks rest c k h) waiting;
          busy = λ e. (f.place, f.item, f.there, f.holds);
        }

    module _ (none : list_any waits ks ≡ false) (before after part : List Line) (same : gone ≡ items_of plant.wiring before) (settles : List Line) (are : AreSettles settles) where
      abbrev more : List Item
      more = items_of plant.wiring settles

      abbrev now : List Item
      now = gone ++ more

      cut_now : GoneTo now (length env.journal) (s.part + length settles)
      cut_now = gone_settles plant.wiring settles are gone (length env.journal) s.part s.cut

      so_far_now : RunSoFar plant now fuel ks (environment_of env) env.journal
      so_far_now = so_far_more plant gone more fuel ks (environment_of env) env.journal s.so_far

      -- the items of all lines, up to the end of the part
      all_items : after ≡ before ++ (settles ++ part) → items_of plant.wiring after ≡ now ++ items_of plant.wiring part
      all_items is =
          let item : Line → Item = λ l. item_of plant.wiring l.number l.what in
          ap (λ (z : List Line). items_of plant.wiring z) is
          ∙ map-append item before (settles ++ part)
          ∙ ap (λ (z : List Item). items_of plant.wiring before ++ z) (map-append item settles part)
          ∙ sym (append_assoc (items_of plant.wiring before) more (items_of plant.wiring part))
          ∙ ap (λ (z : List Item). (z ++ more) ++ items_of plant.wiring part) (sym same)

      -- nothing waits, and no part is left
      pub ends_done : after ≡ before ++ (settles ++ part) → part ≡ [] → IsAtEnd plant (items_of plant.wiring after) fuel ks env true
      ends_done is over =
          let all : items_of plant.wiring after ≡ now = all_items is ∙ ap (λ (z : List Line). now ++ items_of plant.wiring z) over ∙ append-nil now in
          subst (λ (z : List Item). IsAtEnd plant z fuel ks env true) (sym all)
          (record {
            v = environment_of env;
            posted = refl;
            so_far = so_far_now;
            part = s.part + length settles;
            cut = cut_now;
            outboxes = outboxes;
            quiet = λ e c k h. all_false waits ks none c k h;
            last = λ e. absurd cc;
            spent = λ e. absurd cc;
            busy = λ e. absurd cc;
          })

      last_now : 0 < length settles → (more' : List Item) → last_part (lines_of (now ++ more')) (length env.journal) < s.part + length settles
      last_now some more' =
          let was : last_part (lines_of (gone ++ (more ++ more'))) (length env.journal) ≡ s.part = s.last (more ++ more') in
          let is : last_part (lines_of (now ++ more')) (length env.journal) ≡ s.part = ap (λ (z : List Item). last_part (lines_of z) (length env.journal)) (append_assoc gone more more') ∙ was in
          omega arith

      -- the environment's clock catches up
      pub before_next : (new : EnvironmentState) → after ≡ before ++ (settles ++ part) → IsPart part → 0 < length settles → 0 < length part
          → new ≡ record env { clock = latest (state_at plant ks) (length ks) env.clock } → BeforePart plant (items_of plant.wiring after) part fuel ks new
      before_next new is of some begins e =
          let caught : EnvironmentState = record env { clock = latest (state_at plant ks) (length ks) env.clock } in
          let clock : environment_of caught ≡ record (environment_of env) { clock = latest (state_at plant ks) (length plant.wiring.controllers) env.clock } =
          ap (λ (n : ℕ). clocked (environment_of env) (latest (state_at plant ks) n env.clock)) s.so_far.stand.count in
          subst (λ (z : EnvironmentState). BeforePart plant (items_of plant.wiring after) part fuel ks z) (sym e)
          (record {
            v = environment_of env;
            gone = now;
            is = all_items is;
            of = of;
            so_far = so_far_now;
            part = s.part + length settles;
            cut = cut_now;
            may = later_part clock (last_now some) begins (λ lines. quiet_now lines ks (environment_of env) s.so_far.stand rest none);
          })
