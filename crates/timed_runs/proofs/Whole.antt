-- A timed run, from what a run over a source of timed lines answers.
use Rattle.std.proofs.Common.{◌≡◌, ℕ, zero, suc, Bool, true, false, List, [], ◌∷◌, ◌++◌, length, drop, Option, refl, sym, ap, ◌∙◌, subst, arith, append-nil}
use Rattle.std.specs.List.{AllByRecursion}
use Rattle.std.proofs.lemmas.List.{length-append}
use Rattle.journal.specs.declared.entry.Journals.{Journals}
use Rattle.room_wiring.specs.declared.tables.Tables.{Tables}
use Rattle.inject_reader.specs.declared.inject_lines.accepted.Line.{Line}
use Rattle.inject_reader.specs.Fitting.{LinesFit}
use Rattle.actor_merge.specs.World.{Placed}
use Rattle.actor_merge.specs.Merge.{entries_of}
use Rattle.actor_merge.proofs.Extend.{entries_append}
use Rattle.controller_actors.specs.declared.plant.Plant.{Plant}
use Rattle.model_run.specs.part_source.Calls.{Seen, seen_in, Grew, StoodQuiet, Asked, never, once_more}
use Rattle.model_run.specs.run_ends.Runs.{IsRun, MayBeLeft, RanThrough}
use Rattle.model_run.specs.run_ends.Runs.MayBeLeft.{nothing}
use Rattle.model_run.proofs.part_source.CallsLaw.{grew_then, grew_none}
use Rattle.room_timer.specs.Expansion.{IsExpansion, Expands, beginning}
use Rattle.room_timer.specs.Laws.{IsPlain}
use Rattle.model_run.specs.fixed_lines.Fixed.{message_line}
use Rattle.model_run.proofs.fixed_lines.FixedLaw.{behind as ends_behind}
use Rattle.room_timer.proofs.Once.{plain}
use Rattle.timed_runs.specs.Passed.{messages_in_front}
use Rattle.timed_runs.specs.Timed.{numbers_of, IsTimedRun}
use Rattle.timed_runs.specs.Walks.{Walk, given_by, standing, Walks, Begins, Goes, Stood}
use Rattle.timed_runs.proofs.Ending.{NoMore, AreLeft, are_left, none_resumes}
use Rattle.timed_runs.proofs.Fitting.{expands_fit}
use Rattle.timed_runs.proofs.Passing.{none_in_front}
use Rattle.timed_runs.proofs.Path.{stands, Stands, follows_of, behind_of, at_start, goes_there}
use Rattle.timed_runs.proofs.Sourcing.{ends_again}
use Rattle.timed_runs.proofs.Runs.{messages_both, all_posts, is_merge}
use Rattle.timed_runs.proofs.Walking.{Resumes}

no_numbers : (lines : List Line) → numbers_of lines ≡ [] → lines ≡ []
no_numbers [] h = refl
no_numbers (l ∷ lines) h = absurd cc

plain_behind : (k : ℕ) (lines : List Line) → AllByRecursion IsPlain lines → AllByRecursion IsPlain (drop k lines)
plain_behind zero lines h = h
plain_behind (suc k) [] h = tt
plain_behind (suc k) (l ∷ lines) h = plain_behind k lines h.1

-- where it stands, the next line isn't a message
ends_there : (plant : Plant) (lines : List Line) (fuel : ℕ) (first now : Walk) (js : Seen) → Asked Goes (Stood plant fuel) first now js → Begins plant.wiring lines first
    → messages_in_front (drop now.to now.lines) ≡ 0
ends_there plant lines fuel first now js (never _) b =
    ap (λ (ls : List Line). messages_in_front (drop first.to ls)) b.lines_are ∙ ap (λ (k : ℕ). messages_in_front (drop k lines)) b.to ∙ ends_behind message_line lines
ends_there plant lines fuel first now js (once_more mid _ before _ a stood goes more) b =
    ends_again mid now before goes.0 goes.1 (ends_there plant lines fuel first mid before a b)

module _ (plant : Plant) (lines : List Line) (fuel : ℕ) (j : Journals) (all : List Line) (run : IsRun plant all fuel (record j { unposted = [] })) where
  -- from one call to the next
  step : (mid now : Walk) (before js : Seen) (more : Bool) (rest : List Line) → messages_in_front (drop mid.to mid.lines) ≡ 0
      → StoodQuiet plant (given_by mid) fuel before → Walks mid.wiring mid before now more → all ≡ given_by now ++ rest
      → messages_in_front rest ≡ 0 → Grew before js → Grew js (seen_in j)
      → ((behind : List Line) → all ≡ given_by mid ++ behind → messages_in_front behind ≡ 0 → Grew before (seen_in j) → Stands plant lines fuel j all run mid before)
      → Stands plant lines fuel j all run now js
  step mid now before js more rest none stood walks is ends grew onward earlier =
      let f = follows_of mid.wiring mid now before more walks none in
      let whole : Grew before (seen_in j) = grew_then before js (seen_in j) grew onward in
      let there : Stands plant lines fuel j all run mid before =
      earlier (f.follows.settles ++ (now.part ++ rest)) (behind_of all rest mid now more f is)
      (none_in_front (given_by mid) rest (standing now more) f ends) whole in
      goes_there plant lines fuel j all run mid now before more rest there stood
      (subst (λ (t : Tables). Walks t mid before now more) there.wiring walks) none is ends whole js grew

  -- at each call the walk stands in the run
  pub stands_there : (first now : Walk) (js : Seen) → Asked Goes (Stood plant fuel) first now js → Begins plant.wiring lines first
      → (rest : List Line) → all ≡ given_by now ++ rest → messages_in_front rest ≡ 0 → Grew js (seen_in j) → Stands plant lines fuel j all run now js
  stands_there first now js (never _) begins rest is ends grew = at_start plant lines fuel j all run first js begins
  stands_there first now js (once_more mid _ before _ a stood goes more) begins rest is ends grew =
      step mid now before js goes.0 rest (ends_there plant lines fuel first mid before a begins) stood goes.1 is ends more grew
      (λ behind all_is none_ahead before_grew. stands_there first mid before a begins behind all_is none_ahead before_grew)

-- what the rest of the lines comes to, where a run has ended
record Final (t : Tables) (lines : List Line) (j : Journals) (merge : List Placed) (given behind : List Line) : Type 0 where
  xs : List Line
  left : List Line
  may : MayBeLeft j.done xs
  expands : Expands t j.done (beginning merge) lines (given ++ xs) left
  left_is : left ≡ behind
  over : j.done ≡ true → left ≡ []
  plain_is : AllByRecursion IsPlain lines → xs ≡ left

module _ (plant : Plant) (lines : List Line) (fuel : ℕ) (j : Journals) (first end : Walk) (begins : Begins plant.wiring lines first)
    (asked : Asked Goes (Stood plant fuel) first end (seen_in j))
    (ran : RanThrough plant (given_by end) (numbers_of (drop end.to end.lines)) fuel j) where
  run : IsRun plant (given_by end) fuel (record j { unposted = [] })
  run = subst (λ (z : List Line). IsRun plant z fuel (record j { unposted = [] })) (append-nil (given_by end)) (ran.runs [] nothing)

  there : Stands plant lines fuel j (given_by end) run end (seen_in j)
  there = stands_there plant lines fuel j (given_by end) run first end (seen_in j) asked begins [] (sym (append-nil (given_by end))) refl (grew_none (seen_in j))

  no_more : NoMore plant.wiring (stands there.back end)
  no_more =
      let posts = all_posts plant (given_by end) fuel (record j { unposted = [] }) run refl in
      let both = ap (entries_of (length plant.wiring.controllers)) there.whole ∙ entries_append (length plant.wiring.controllers) there.front there.back in
      omega (
        arith,
        posts,
        ap length both,
        length-append (entries_of (length plant.wiring.controllers) there.front) (entries_of (length plant.wiring.controllers) there.back),
        there.sent,
        there.part,
        messages_both end.gone end.part,
      )

  behind_is : drop end.to end.lines ≡ drop end.to lines
  behind_is = ap (λ (ls : List Line). drop end.to ls) there.lines_are

  ends : messages_in_front (drop end.to lines) ≡ 0
  ends = ap messages_in_front (sym behind_is) ∙ ends_there plant lines fuel first end (seen_in j) asked begins

  final : Final plant.wiring lines j run.lawful.run.merge (given_by end) (drop end.to lines)
  final = go j.done refl
    where
      go : (d : Bool) → j.done ≡ d → Final plant.wiring lines j run.lawful.run.merge (given_by end) (drop end.to lines)
      go true e =
          let none : drop end.to lines ≡ [] = sym behind_is ∙ no_numbers (drop end.to end.lines) (ran.whole e) in
          record {
            xs = [];
            left = [];
            may = nothing;
            expands = there.path [] []
                (subst (λ (ls : List Line). Resumes plant.wiring j.done (stands there.back end) end.left ls [] []) (sym none)
                (none_resumes plant.wiring j.done (stands there.back end) end.left));
            left_is = sym none;
            over = λ d. refl;
            plain_is = λ h. refl;
          }
      go false e =
          let rest : AreLeft plant.wiring (stands there.back end) end.left (drop end.to lines) =
          are_left plant.wiring (stands there.back end) end.left (drop end.to lines) no_more ends in
          record {
            xs = rest.xs;
            left = drop end.to lines;
            may = subst (λ (d : Bool). MayBeLeft d rest.xs) (sym e) rest.may;
            expands = there.path rest.xs (drop end.to lines)
                (subst (λ (d : Bool). Resumes plant.wiring d (stands there.back end) end.left (drop end.to lines) rest.xs (drop end.to lines)) (sym e) rest.resumes);
            left_is = refl;
            over = λ d. let both : true ≡ false = sym d ∙ e in absurd cc;
            plain_is = λ h.
                plain plant.wiring false (stands there.back end) (drop end.to lines) rest.xs (drop end.to lines) (plain_behind end.to lines h)
                (subst (λ (hand : Option ℕ). Resumes plant.wiring false (stands there.back end) hand (drop end.to lines) rest.xs (drop end.to lines)) (there.fresh h) rest.resumes);
          }

  told : j.unposted ≡ numbers_of final.left
  told = ran.unposted ∙ ap numbers_of behind_is ∙ ap numbers_of (sym final.left_is)

  expansion_is : IsExpansion plant.wiring lines j (given_by end ++ final.xs) final.left
  expansion_is = record {
    merge = run.lawful.run.merge;
    is = is_merge plant (given_by end) fuel (record j { unposted = [] }) run;
    expands = final.expands;
  }

  pub timed : LinesFit plant.wiring lines → IsTimedRun plant lines fuel j
  timed fit = record {
    expansion = given_by end ++ final.xs;
    left = final.left;
    is = expansion_is;
    fits = expands_fit plant.wiring j.done (beginning run.lawful.run.merge) lines (given_by end ++ final.xs) final.left fit tt final.expands;
    unposted_of_it = numbers_of final.xs;
    run = ran.runs final.xs final.may;
    unposted = told;
    whole = final.over;
  }

  pub plain_run : AllByRecursion IsPlain lines → IsRun plant lines fuel j
  plain_run h =
      let whole : given_by end ++ final.xs ≡ lines =
      plain plant.wiring j.done (beginning run.lawful.run.merge) lines (given_by end ++ final.xs) final.left h final.expands in
      let numbers : numbers_of final.xs ≡ j.unposted = ap numbers_of (final.plain_is h) ∙ sym told in
      subst (λ (z : List Line). IsRun plant z fuel j) whole
      (subst (λ (z : List ℕ). IsRun plant (given_by end ++ final.xs) fuel (record j { unposted = z })) numbers (ran.runs final.xs final.may))
