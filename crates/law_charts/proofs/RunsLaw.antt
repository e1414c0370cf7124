-- A run of the one behaviour is a run of the other.
use Rattle.std.proofs.Common.{◌≡◌, ℕ, zero, suc, ◌+◌, ◌<◌, ◌≤◌, Bool, true, false, List, [], ◌∷◌, ◌++◌, map, length, refl, sym, ap, ◌∙◌, subst, arith}
use Rattle.std.specs.List.{flat_map, range_with_len}
use Rattle.room_kinds.specs.declared.message.Msg.{Msg}
use Rattle.journal.specs.declared.entry.Entry.{Entry}
use Rattle.journal.specs.declared.entry.Left.{Left}
use Rattle.room_wiring.specs.declared.tables.Tables.{Tables}
use Rattle.actor_merge.specs.History.{AllAtMost, IsLawful}
use Rattle.actor_merge.specs.Mail.{lane}
use Rattle.actor_merge.specs.Parties.{Environment, Line}
use Rattle.actor_merge.specs.World.{World, start}
use Rattle.actor_world.specs.Behaviour.{Behaviour}
use Rattle.actor_world.specs.Body.{Body}
use Rattle.actor_world.specs.Journals.{Item, left, left_for, left_of, priorities, last_part, unposted_from, HasMessage, in_lane, in_pending, in_outbox, IsDone, IsStopped, IsEnded}
use Rattle.actor_world.specs.Start.{plant_of}
use Rattle.law_charts.specs.Alike.{DoAlike, IsRunOf}
use Rattle.law_charts.proofs.Events.{Rest, rest_of, entries_alike}
use Rattle.law_charts.proofs.Worlds.{Match, match_of, quiet_match, quiet_back, latest_of_match, RunAlike, run_alike, start_alike}

flat_same : {X Y : Type 0} (f g : X → List Y) → ((x : X) → f x ≡ g x) → (xs : List X) → flat_map f xs ≡ flat_map g xs
flat_same f g h [] = refl
flat_same {X} {Y} f g h (x ∷ xs) = ap (λ (z : List Y). z ++ flat_map f xs) (h x) ∙ ap (λ (z : List Y). g x ++ z) (flat_same f g h xs)

flat_within : (f g : ℕ → List Left) (a n : ℕ) → ((c : ℕ) → a ≤ c → c < a + n → f c ≡ g c) → flat_map f (range_with_len a n) ≡ flat_map g (range_with_len a n)
flat_within f g a zero h = refl
flat_within f g a (suc n) h =
    ap (λ (z : List Left). z ++ flat_map f (range_with_len (a + 1) n)) (h a (omega arith) (omega arith))
    ∙ ap (λ (z : List Left). g a ++ z) (flat_within f g (a + 1) n (λ c low high. h c (omega (arith, low)) (omega (arith, high))))

module _ {M N : Type 0} (R : ℕ → M → N → Type 0) (one : Behaviour M) (other : Behaviour N) (alike : DoAlike R one other) (t : Tables) (lines : List Line) (items : List Item) (fuel : ℕ)
    (journals : ℕ → List Entry) (left_over : List Left) (unposted : List ℕ) (done : Bool) (run : IsRunOf one t lines items fuel journals left_over unposted done) where
  abbrev w : World (Body M)
  w = run.world

  abbrev legal : IsLawful (plant_of one t lines) run.lawful.events run.world
  legal = run.lawful.run

  ran : RunAlike R one other alike t lines (start (plant_of other t lines)) legal.merge legal.end
  ran = run_alike R one other alike t lines legal.merge (start (plant_of one t lines)) (start (plant_of other t lines)) legal.end (start_alike R one other alike t lines) legal.run

  module _ (v : World (Body N)) (match : Match R one other alike t lines run.world v) where
    turns_same : (c : ℕ) → c < length t.controllers → (run.world.controllers c).turns ≡ (v.controllers c).turns
    turns_same c below = ap (λ (r : Rest). r.turns) (match.controllers c below)

    left_for_same : (c : ℕ) → c < length t.controllers → left_for (plant_of one t lines) run.world c ≡ left_for (plant_of other t lines) v c
    left_for_same c below =
        let lanes = flat_same
        (λ (p : ℕ). flat_map (λ (s : ℕ). map (left c false) (run.world.lanes (lane s c p))) (length t.controllers ∷ range_with_len 0 (length t.controllers)))
        (λ (p : ℕ). flat_map (λ (s : ℕ). map (left c false) (v.lanes (lane s c p))) (length t.controllers ∷ range_with_len 0 (length t.controllers)))
        (λ p. flat_same (λ (s : ℕ). map (left c false) (run.world.lanes (lane s c p))) (λ (s : ℕ). map (left c false) (v.lanes (lane s c p)))
        (λ s. ap (map (left c false)) (match.lanes (lane s c p))) (length t.controllers ∷ range_with_len 0 (length t.controllers)))
        priorities in
        ap (λ (r : Rest). flat_map (λ (p : ℕ). map (left c true) (r.pending p)) priorities
        ++ flat_map (λ (p : ℕ). flat_map (λ (s : ℕ). map (left c false) (run.world.lanes (lane s c p))) (length t.controllers ∷ range_with_len 0 (length t.controllers))) priorities) (match.controllers c below)
        ∙ ap (λ (z : List Left). flat_map (λ (p : ℕ). map (left c true) ((v.controllers c).pending p)) priorities ++ z) lanes

    left_same : left_of (plant_of one t lines) run.world ≡ left_of (plant_of other t lines) v
    left_same =
        flat_within (left_for (plant_of one t lines) run.world) (left_for (plant_of other t lines) v) 0 (length t.controllers)
        (λ c low high. left_for_same c (omega (arith, high)))

    spent_back : (c : ℕ) → c < length t.controllers → HasMessage v c → HasMessage run.world c
    spent_back c below (in_lane sender priority h) = in_lane sender priority (subst (λ (z : List Msg). 0 < length z) (sym (match.lanes (lane sender c priority))) h)
    spent_back c below (in_pending priority h) = in_pending priority (subst (λ (r : Rest). 0 < length (r.pending priority)) (sym (match.controllers c below)) h)
    spent_back c below (in_outbox h) = in_outbox (subst (λ (r : Rest). 0 < length r.outbox) (sym (match.controllers c below)) h)

    posted_same : run.world.environment.posted ≡ v.environment.posted
    posted_same = ap (λ (e : Environment). e.posted) match.environment

    is_done : IsDone (plant_of one t lines) run.world left_over unposted → IsDone (plant_of other t lines) v left_over unposted
    is_done d = record {
      quiet = quiet_match R one other alike t lines run.world v match d.quiet;
      all_posted = sym posted_same ∙ d.all_posted;
      none_left = d.none_left;
      none_unposted = d.none_unposted;
    }

    is_stopped : IsStopped (plant_of one t lines) items fuel run.world unposted → IsStopped (plant_of other t lines) items fuel v unposted
    is_stopped d = record {
      busy = λ q. d.busy (quiet_back R one other alike t lines run.world v match q);
      spent = λ c below h. subst (λ (k : ℕ). fuel ≤ k) (turns_same c below) (d.spent c below (spent_back c below h));
      part_posted = λ line l there low.
          subst (λ (k : ℕ). line < k) posted_same (d.part_posted line l there (subst (λ (k : ℕ). l.part ≤ last_part lines k) (sym posted_same) low));
      unposted_is = d.unposted_is ∙ ap (λ (k : ℕ). unposted_from (last_part lines k) items) posted_same;
    }

    ended : IsEnded (plant_of other t lines) items fuel v left_over unposted done
    ended = record {
      posted = λ c below. ap (λ (r : Rest). r.outbox) (sym (match.controllers c below)) ∙ run.ended.posted c below;
      is_done = λ e. is_done (run.ended.is_done e);
      is_stopped = λ e. is_stopped (run.ended.is_stopped e);
    }

  match : Match R one other alike t lines run.world ran.last
  match =
      let m = match_of R one other alike t lines legal.end ran.last ran.are in
      record {
        controllers = λ c below. ap rest_of (sym (legal.same.controllers c below)) ∙ m.controllers c below;
        environment = sym legal.same.environment ∙ m.environment;
        lanes = λ l. sym (legal.same.lanes l) ∙ m.lanes l;
      }

  lawful : IsLawful (plant_of other t lines) run.lawful.events ran.last
  lawful = record {
    merge = legal.merge;
    is = legal.is;
    end = ran.last;
    run = ran.runs;
    same = record { controllers = λ c below. refl; environment = refl; lanes = λ l. refl };
    bound = subst (λ (k : ℕ). AllAtMost k legal.merge) (latest_of_match R one other alike t lines run.world ran.last match) legal.bound;
  }

  pub same_run : IsRunOf other t lines items fuel journals left_over unposted done
  same_run = record {
    world = ran.last;
    lawful = record {
      events = run.lawful.events;
      begins = λ c below. run.lawful.begins c below ∙ ap (λ (z : List Entry). z ++ run.lawful.events c) (entries_alike R one other alike t lines c);
      environment = run.lawful.environment;
      run = lawful;
      fuelled = λ c below. subst (λ (k : ℕ). k ≤ fuel) (turns_same ran.last match c below) (run.lawful.fuelled c below);
      left_is = run.lawful.left_is ∙ left_same ran.last match;
    };
    ended = ended ran.last match;
  }
