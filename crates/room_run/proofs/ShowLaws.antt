-- Of what a run printed each stamp is shown.
use Rattle.std.proofs.Common.{◌≡◌, ℕ, ◌<◌, ◌≤◌, List, [], ◌∷◌, ◌++◌, refl, sym, ap, subst, arith, inl, inr, ◌⊎◌}
use Rattle.std.specs.List.{AllByRecursion}
use Rattle.std.proofs.lemmas.Bool.{cases_order}
use Rattle.room_outside.specs.Shown.{Shown}
use Rattle.room_wiring.specs.declared.tables.Tables.{Tables}
use Rattle.inject_reader.specs.declared.inject_lines.accepted.Line.{Line}
use Rattle.journal.specs.declared.entry.Journals.{Journals}
use Rattle.actor_merge.specs.Mail.{stamp_of}
use Rattle.actor_merge.specs.Merge.{InOrder, IsBefore, IsBeforeAll, IsMerge}
use Rattle.actor_merge.specs.Parties.{Plant as RunPlant}
use Rattle.actor_merge.specs.World.{Placed, Runs, start}
use Rattle.actor_world.specs.Behaviour.{Behaviour}
use Rattle.actor_world.specs.Body.{Body}
use Rattle.actor_world.specs.Journals.{Item, lines_of}
use Rattle.actor_world.specs.Start.{plant_of}
use Rattle.controller_actors.specs.Plants.{model_of}
use Rattle.controller_actors.specs.declared.plant.Plant.{Plant}
use Rattle.model_run.specs.part_posts.Items.{items_of}
use Rattle.room_show.specs.Text.{snapshot_text}
use Rattle.room_show.specs.declared.snapshot.Snapshot.{Snapshot}
use Rattle.room_verify.specs.Shown.{IsShown, Observer, shown}
use Rattle.room_verify.specs.Showing.{actors_observer}
use Rattle.room_verify.specs.Steps.{happened}
use Rattle.room_verify.specs.Verdicts.{IsLawful}
use Rattle.room_verify.specs.declared.verdict.Verdict.{Verdict}
use Rattle.room_verify.proofs.AloneLaw.{all_rise, all_started, merge_is, run_split}
use Rattle.room_verify.proofs.SeenLaw.{shown_by_charts}
use Rattle.room_run.specs.Words.{Judged, Show, asked_by}
use Rattle.room_run.specs.Causes.{AreGiven, IsJudged, IsSeen}
use Rattle.room_run.specs.Outcome.{Answers, says_shown}
use Rattle.room_run.specs.OneAnswer.{AreRead}
use Rattle.room_run.specs.Snapshots.{PrintedRunsAreShown}
use Rattle.room_run.specs.declared.status.Status.TheVariants as statuses
use Rattle.room_run.proofs.AnswerLaws.{calls_have_one_answer}
use Rattle.room_run.proofs.PrintedLaws.{printed_is_judged}
use Rattle.room_run.proofs.ShowLemmas.{seen}

-- ---- a merge, cut at a stamp

not_earlier : (x y : Placed) → IsBefore x y → stamp_of x.entry ≤ stamp_of y.entry
not_earlier x y (inl less) = omega (arith, less)
not_earlier x y (inr same) = omega (arith, same.0)

all_behind : (at : ℕ) (x : Placed) (ys : List Placed) → IsBeforeAll x ys → at < stamp_of x.entry → AllByRecursion (λ (y : Placed). at < stamp_of y.entry) ys
all_behind at x [] before high = tt
all_behind at x (y ∷ ys) before high =
    let more = not_earlier x y before.0 in (omega (arith, more, high), all_behind at x ys before.1 high)

record IsCut (at : ℕ) (xs : List Placed) : Type 0 where
  front : List Placed
  behind : List Placed
  whole : xs ≡ front ++ behind
  low : AllByRecursion (λ (x : Placed). stamp_of x.entry ≤ at) front
  high : AllByRecursion (λ (x : Placed). at < stamp_of x.entry) behind

cut_at : (at : ℕ) (xs : List Placed) → InOrder xs → IsCut at xs
cut_at at [] order = record { front = []; behind = []; whole = refl; low = tt; high = tt }
cut_at at (x ∷ xs) order = go (cases_order (stamp_of x.entry) at) (cut_at at xs order.1)
  where
    here : stamp_of x.entry ≤ at → IsCut at xs → IsCut at (x ∷ xs)
    here up rest = record {
      front = x ∷ rest.front;
      behind = rest.behind;
      whole = ap (λ (z : List Placed). x ∷ z) rest.whole;
      low = (up, rest.low);
      high = rest.high;
    }

    go : (stamp_of x.entry ≡ at) ⊎ ((stamp_of x.entry < at) ⊎ (at < stamp_of x.entry)) → IsCut at xs → IsCut at (x ∷ xs)
    go (inl same) rest = here (omega (arith, same)) rest
    go (inr (inl less)) rest = here (omega (arith, less)) rest
    go (inr (inr later)) rest = record { front = []; behind = x ∷ xs; whole = refl; low = tt; high = (later, all_behind at x xs order.0 later) }

-- lawful journals have a snapshot at each stamp
module _ {M : Type 0} (model : Behaviour M) (t : Tables) (items : List Item) (fuel : ℕ) (j : Journals) (is : IsLawful model t items fuel j) (at : ℕ) (o : Observer M) where
  lawful_shown : (snapshot : Snapshot) × IsShown model t items j at o snapshot
  lawful_shown =
      let p : RunPlant (Body M) = plant_of model t (lines_of items) in
      let legal = is.run.lawful.run in
      let cut = cut_at at legal.merge legal.is.ordered in
      let parts = run_split p (start p) legal.end cut.front cut.behind (subst (λ (z : List Placed). Runs p (start p) z legal.end) cut.whole legal.run) in (
        shown o t parts.0 at,
        record {
          front = cut.front;
          behind = cut.behind;
          w = parts.0;
          reaches = record {
            ordered = all_rise model t items fuel j is;
            started = all_started model t items fuel j is;
            is = subst (λ (z : List Placed). IsMerge (happened j) z) cut.whole (merge_is model t items fuel j is);
            run = parts.1;
          };
          low = cut.low;
          high = cut.high;
          is = refl;
        },
      )

-- what is judged is given
given_to_judge : (shelf : Shown) (files : Judged) (fuel : ℕ) (plant : Plant) (lines : List Line) (j : Journals) (v : Verdict) → IsJudged shelf files fuel plant lines j v
    → AreGiven shelf files plant lines j
given_to_judge shelf files fuel plant lines j v h = record {
  texts = h.texts;
  journals_read = h.journals_read;
  plant_fits = h.plant_fits;
  lines_fit = h.lines_fit;
  fits = h.fits;
}

pub printed_runs_are_shown : PrintedRunsAreShown
printed_runs_are_shown ran run fuel plant lines j timed still short before after words files at asked tells =
    let whole = (timed.untimed still).run in
    let is : IsLawful (model_of plant) plant.wiring (items_of plant.wiring lines) fuel j =
    record { count = whole.count; run = record { world = whole.world; lawful = whole.lawful; ended = whole.ended }; prompt = whole.prompt } in
    let there = lawful_shown (model_of plant) plant.wiring (items_of plant.wiring lines) fuel j is at actors_observer in
    let given = given_to_judge before files fuel plant lines j _ (printed_is_judged ran run fuel plant lines j timed still short before files tells) in
    let is_seen : IsSeen before files at plant lines j there.0 = seen shown_by_charts before files plant lines j at there.0 given there.1 in
    let answers : Answers before words (snapshot_text plant.wiring there.0) statuses.Done = says_shown files at plant lines j there.0 asked is_seen refl refl in (
      (there.0, is_seen, answers),
      λ read why cause.
          (calls_have_one_answer before after words (subst (AreRead before after) (sym asked) read)).answered why (snapshot_text plant.wiring there.0) statuses.Done cause answers,
    )
