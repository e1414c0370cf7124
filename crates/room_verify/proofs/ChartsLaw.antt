-- The verdict over the tables of a plant is the one over the charts that they show: two behaviours that do the same have the
-- same verdicts.
use Rattle.std.proofs.Common.{◌≡◌, ℕ, zero, suc, ◌+◌, ◌<◌, ◌≤◌, Bool, true, false, List, [], ◌∷◌, ◌++◌, map, length, Option, refl, sym, ap, ◌∙◌, subst, arith}
use Rattle.std.specs.List.{flat_map, range_with_len}
use Rattle.room_kinds.specs.declared.message.Msg.{Msg}
use Rattle.journal.specs.declared.entry.Entry.{Entry}
use Rattle.journal.specs.declared.entry.Left.{Left}
use Rattle.journal.specs.declared.entry.Journals.{Journals}
use Rattle.room_wiring.specs.declared.tables.Tables.{Tables}
use Rattle.actor_merge.specs.Mail.{lane}
use Rattle.actor_merge.specs.Parties.{Environment, Line}
use Rattle.actor_merge.specs.World.{World, Placed, start, Runs}
use Rattle.actor_world.specs.Behaviour.{Behaviour}
use Rattle.actor_world.specs.Body.{Body}
use Rattle.actor_world.specs.Journals.{Item, lines_of, left, left_for, left_of, priorities, last_part, unposted_from, HasMessage, in_lane, in_pending, in_outbox, IsEnded}
use Rattle.actor_world.specs.Start.{plant_of}
use Rattle.law_charts.specs.Alike.{DoAlike}
use Rattle.law_charts.proofs.Doings.{Both, neither, both}
use Rattle.law_charts.proofs.Events.{Rest, entries_alike}
use Rattle.law_charts.proofs.RunsLaw.{same_run}
use Rattle.law_charts.proofs.Worlds.{Match, match_of, quiet_match, quiet_back, WorldAlike, RunAlike, run_alike, start_alike}
use Rattle.model_run.specs.run_ends.Runs.{journal_of}
use Rattle.room_verify.specs.Steps.{HasStarts, Reaches, IsRefused}
use Rattle.room_verify.specs.Verdicts.{LeadsTo, Leaves, KeepsToFuel, IsVerdict, out_of_order, wrong_start, refused, wrong_left, beyond_fuel, not_ended, not_prompt, lawful}
use Rattle.room_verify.specs.declared.verdict.Verdict.{Verdict}

-- ---- the other way round

flip_both : {A C : Type 0} (R : A → C → Type 0) (a : Option A) (b : Option C) → Both R a b → Both (λ (y : C) (x : A). R x y) b a
flip_both R a b neither = neither
flip_both R a b (both r) = both r

module _ {M N : Type 0} (R : ℕ → M → N → Type 0) (one : Behaviour M) (other : Behaviour N) (alike : DoAlike R one other) where
  abbrev back : ℕ → N → M → Type 0
  back = λ s y x. R s x y

  pub flip : DoAlike (λ s y x. R s x y) other one
  flip = record {
    begin = λ x. let b = alike.begin x in record { machine = b.machine; notes = sym b.notes; commands = sym b.commands };
    handle = λ x y m msg r.
        let h = alike.handle x m y msg r in
        record { machine = h.machine; result = sym h.result; notes = sym h.notes; commands = sym h.commands };
    state = λ slot y m r. sym (alike.state slot m y r);
  }

  flip_world : (t : Tables) (lines : List Line) (w : World (Body M)) (v : World (Body N)) → WorldAlike R one other alike t lines w v
      → WorldAlike (λ s y x. R s x y) other one flip t lines v w
  flip_world t lines w v h = record {
    controllers = λ c.
        let s = h.controllers c in
        record { rest = sym s.rest; machines = λ slot. flip_both (R slot) ((w.controllers c).body.machines slot) ((v.controllers c).body.machines slot) (s.machines slot) };
    environment = sym h.environment;
    lanes = λ l. sym (h.lanes l);
  }

-- ---- what is seen of worlds that are alike

flat_same : {X Y : Type 0} (f g : X → List Y) → ((x : X) → f x ≡ g x) → (xs : List X) → flat_map f xs ≡ flat_map g xs
flat_same f g h [] = refl
flat_same {X} {Y} f g h (x ∷ xs) = ap (λ (z : List Y). z ++ flat_map f xs) (h x) ∙ ap (λ (z : List Y). g x ++ z) (flat_same f g h xs)

flat_within : (f g : ℕ → List Left) (a n : ℕ) → ((c : ℕ) → a ≤ c → c < a + n → f c ≡ g c) → flat_map f (range_with_len a n) ≡ flat_map g (range_with_len a n)
flat_within f g a zero h = refl
flat_within f g a (suc n) h =
    ap (λ (z : List Left). z ++ flat_map f (range_with_len (a + 1) n)) (h a (omega arith) (omega arith))
    ∙ ap (λ (z : List Left). g a ++ z) (flat_within f g (a + 1) n (λ c low high. h c (omega (arith, low)) (omega (arith, high))))

module _ {M N : Type 0} (R : ℕ → M → N → Type 0) (one : Behaviour M) (other : Behaviour N) (alike : DoAlike R one other) (t : Tables) (items : List Item) (fuel : ℕ)
    (w : World (Body M)) (v : World (Body N)) (match : Match R one other alike t (lines_of items) w v) where
  abbrev lines : List Line
  lines = lines_of items

  turns_same : (c : ℕ) → c < length t.controllers → (w.controllers c).turns ≡ (v.controllers c).turns
  turns_same c below = ap (λ (r : Rest). r.turns) (match.controllers c below)

  left_for_same : (c : ℕ) → c < length t.controllers → left_for (plant_of one t (lines_of items)) w c ≡ left_for (plant_of other t (lines_of items)) v c
  left_for_same c below =
      let lanes = flat_same
      (λ (p : ℕ). flat_map (λ (s : ℕ). map (left c false) (w.lanes (lane s c p))) (length t.controllers ∷ range_with_len 0 (length t.controllers)))
      (λ (p : ℕ). flat_map (λ (s : ℕ). map (left c false) (v.lanes (lane s c p))) (length t.controllers ∷ range_with_len 0 (length t.controllers)))
      (λ p. flat_same (λ (s : ℕ). map (left c false) (w.lanes (lane s c p))) (λ (s : ℕ). map (left c false) (v.lanes (lane s c p)))
      (λ s. ap (map (left c false)) (match.lanes (lane s c p))) (length t.controllers ∷ range_with_len 0 (length t.controllers)))
      priorities in
      ap (λ (r : Rest). flat_map (λ (p : ℕ). map (left c true) (r.pending p)) priorities
      ++ flat_map (λ (p : ℕ). flat_map (λ (s : ℕ). map (left c false) (w.lanes (lane s c p))) (length t.controllers ∷ range_with_len 0 (length t.controllers))) priorities) (match.controllers c below)
      ∙ ap (λ (z : List Left). flat_map (λ (p : ℕ). map (left c true) ((v.controllers c).pending p)) priorities ++ z) lanes

  pub left_alike : left_of (plant_of one t (lines_of items)) w ≡ left_of (plant_of other t (lines_of items)) v
  left_alike =
      flat_within (left_for (plant_of one t (lines_of items)) w) (left_for (plant_of other t (lines_of items)) v) 0 (length t.controllers)
      (λ c low high. left_for_same c (omega (arith, high)))

  spent_back : (c : ℕ) → c < length t.controllers → HasMessage v c → HasMessage w c
  spent_back c below (in_lane sender priority h) = in_lane sender priority (subst (λ (z : List Msg). 0 < length z) (sym (match.lanes (lane sender c priority))) h)
  spent_back c below (in_pending priority h) = in_pending priority (subst (λ (r : Rest). 0 < length (r.pending priority)) (sym (match.controllers c below)) h)
  spent_back c below (in_outbox h) = in_outbox (subst (λ (r : Rest). 0 < length r.outbox) (sym (match.controllers c below)) h)

  posted_same : w.environment.posted ≡ v.environment.posted
  posted_same = ap (λ (e : Environment). e.posted) match.environment

  pub ended_alike : (left_over : List Left) (unposted : List ℕ) (done : Bool) → IsEnded (plant_of one t (lines_of items)) items fuel w left_over unposted done
      → IsEnded (plant_of other t (lines_of items)) items fuel v left_over unposted done
  ended_alike left_over unposted done h = record {
    posted = λ c below. ap (λ (r : Rest). r.outbox) (sym (match.controllers c below)) ∙ h.posted c below;
    is_done = λ e.
        let d = h.is_done e in
        record {
          quiet = quiet_match R one other alike t (lines_of items) w v match d.quiet;
          all_posted = sym posted_same ∙ d.all_posted;
          none_left = d.none_left;
          none_unposted = d.none_unposted;
        };
    is_stopped = λ e.
        let d = h.is_stopped e in
        record {
          busy = λ q. d.busy (quiet_back R one other alike t (lines_of items) w v match q);
          spent = λ c below has. subst (λ (k : ℕ). fuel ≤ k) (turns_same c below) (d.spent c below (spent_back c below has));
          part_posted = λ line l there low.
              subst (λ (k : ℕ). line < k) posted_same (d.part_posted line l there (subst (λ (k : ℕ). l.part ≤ last_part (lines_of items) k) (sym posted_same) low));
          unposted_is = d.unposted_is ∙ ap (λ (k : ℕ). unposted_from (last_part (lines_of items) k) items) posted_same;
        };
  }

-- ---- verdicts

module _ {M N : Type 0} (R : ℕ → M → N → Type 0) (one : Behaviour M) (other : Behaviour N) (alike : DoAlike R one other) (t : Tables) (items : List Item) (fuel : ℕ) (j : Journals) where
  starts_alike : (c : ℕ) → HasStarts one t c (journal_of j c) → HasStarts other t c (journal_of j c)
  starts_alike c h = record {
    after = h.after;
    is = h.is ∙ ap (λ (z : List Entry). z ++ h.after) (entries_alike R one other alike t (lines_of items) c);
    only = h.only;
  }

  starts_back : (c : ℕ) → HasStarts other t c (journal_of j c) → HasStarts one t c (journal_of j c)
  starts_back c h = record {
    after = h.after;
    is = h.is ∙ ap (λ (z : List Entry). z ++ h.after) (sym (entries_alike R one other alike t (lines_of items) c));
    only = h.only;
  }

  -- the journals lead to a world that is alike
  pub record ReachesAlike (front behind : List Placed) (w : World (Body M)) : Type 0 where
    pub v : World (Body N)
    pub reaches : Reaches other t (lines_of items) j front behind v
    pub are : WorldAlike R one other alike t (lines_of items) w v

  pub reaches_alike : (front behind : List Placed) (w : World (Body M)) → Reaches one t (lines_of items) j front behind w → ReachesAlike front behind w
  reaches_alike front behind w h =
      let ran : RunAlike R one other alike t (lines_of items) (start (plant_of other t (lines_of items))) front w =
      run_alike R one other alike t (lines_of items) front (start (plant_of one t (lines_of items))) (start (plant_of other t (lines_of items))) w
      (start_alike R one other alike t (lines_of items)) h.run in
      record {
        v = ran.last;
        reaches = record { ordered = h.ordered; started = λ c below. starts_alike c (h.started c below); is = h.is; run = ran.runs };
        are = ran.are;
      }

  refused_alike : (w : World (Body M)) (v : World (Body N)) (party : ℕ) (e : Entry) → WorldAlike R one other alike t (lines_of items) w v
      → IsRefused (plant_of one t (lines_of items)) w party e → IsRefused (plant_of other t (lines_of items)) v party e
  refused_alike w v party e are refusal next s =
      let there : Runs (plant_of other t (lines_of items)) v (record { party = party; entry = e } ∷ []) next = (next, s.ready, s.does, refl) in
      let ran = run_alike (λ s y x. R s x y) other one (flip R one other alike) t (lines_of items) (record { party = party; entry = e } ∷ []) v w next
      (flip_world R one other alike t (lines_of items) w v are) there in
      let r = ran.runs in
      refusal r.0 (record { ready = r.1; does = r.2 })

  leads_alike : (w : World (Body M)) (h : LeadsTo one t items fuel j w) → LeadsTo other t items fuel j (reaches_alike h.merge [] w h.reaches).v
  leads_alike w h = record { merge = h.merge; reaches = (reaches_alike h.merge [] w h.reaches).reaches }

  abbrev there : (w : World (Body M)) → LeadsTo one t items fuel j w → World (Body N)
  there w h = (reaches_alike h.merge [] w h.reaches).v

  matched : (w : World (Body M)) (h : LeadsTo one t items fuel j w) → Match R one other alike t (lines_of items) w (reaches_alike h.merge [] w h.reaches).v
  matched w h = match_of R one other alike t (lines_of items) w (reaches_alike h.merge [] w h.reaches).v (reaches_alike h.merge [] w h.reaches).are

  leaves_alike : (w : World (Body M)) (h : Leaves one t items fuel j w) → Leaves other t items fuel j (there w h.leads)
  leaves_alike w h = record {
    leads = leads_alike w h.leads;
    left = h.left ∙ left_alike R one other alike t items fuel w (there w h.leads) (matched w h.leads);
  }

  keeps_alike : (w : World (Body M)) (h : KeepsToFuel one t items fuel j w) → KeepsToFuel other t items fuel j (there w h.leaves.leads)
  keeps_alike w h = record {
    leaves = leaves_alike w h.leaves;
    fuelled = λ c below.
        subst (λ (k : ℕ). k ≤ fuel) (turns_same R one other alike t items fuel w (there w h.leaves.leads) (matched w h.leaves.leads) c below) (h.fuelled c below);
  }

  pub verdict_alike : (v : Verdict) → IsVerdict one t items fuel j v → IsVerdict other t items fuel j v
  verdict_alike v (out_of_order party low faulty lower) = out_of_order party low faulty lower
  verdict_alike v (wrong_start c below faulty rise lower) =
      wrong_start c below (λ h. faulty (starts_back c.0 h)) rise (λ k low. starts_alike k (lower k low))
  verdict_alike v (refused party stamp e front behind w stamped reaches refusal) =
      let a = reaches_alike front (record { party = party.0; entry = e } ∷ behind) w reaches in
      refused party stamp e front behind a.v stamped a.reaches (refused_alike w a.v party.0 e a.are refusal)
  verdict_alike v (wrong_left w leads faulty) =
      wrong_left (there w leads) (leads_alike w leads)
      (λ same. faulty (same ∙ sym (left_alike R one other alike t items fuel w (there w leads) (matched w leads))))
  verdict_alike v (beyond_fuel c w below leaves more lower) =
      let same = turns_same R one other alike t items fuel w (there w leaves.leads) (matched w leaves.leads) in
      beyond_fuel c (there w leaves.leads) below (leaves_alike w leaves) (subst (λ (k : ℕ). fuel < k) (same c.0 below) more)
      (λ k low. subst (λ (z : ℕ). z ≤ fuel) (same k (omega (arith, low, below))) (lower k low))
  verdict_alike v (not_ended w keeps faulty) =
      let x = there w keeps.leaves.leads in
      let a = (reaches_alike keeps.leaves.leads.merge [] w keeps.leaves.leads.reaches).are in
      not_ended x (keeps_alike w keeps)
      (λ h. faulty
      (ended_alike (λ s y m. R s m y) other one (flip R one other alike) t items fuel x w
      (match_of (λ s y m. R s m y) other one (flip R one other alike) t (lines_of items) x w (flip_world R one other alike t (lines_of items) w x a))
      j.left j.unposted j.done h))
  verdict_alike v (not_prompt c stamp before after e w below stamped ends at turn faulty prompt lower) =
      let leads = ends.keeps.leaves.leads in
      not_prompt c stamp before after e (there w leads) below stamped
      (record {
        keeps = keeps_alike w ends.keeps;
        ended = ended_alike R one other alike t items fuel w (there w leads) (matched w leads) j.left j.unposted j.done ends.ended;
      })
      at turn faulty prompt lower
  verdict_alike v (lawful h) =
      lawful (record {
        count = h.count;
        run = same_run R one other alike t (lines_of items) items fuel (journal_of j) j.left j.unposted j.done h.run;
        prompt = h.prompt;
      })
