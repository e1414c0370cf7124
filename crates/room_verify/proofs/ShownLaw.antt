-- At a stamp of journals one snapshot is shown, or a verdict is told, and a run leads to what is shown at its end.
use Rattle.std.proofs.Common.{◌≡◌, ℕ, ◌<◌, ◌≤◌, List, [], ◌∷◌, ◌++◌, refl, sym, ap, ◌∙◌, subst, arith}
use Rattle.std.specs.List.{AllByRecursion}
use Rattle.journal.specs.declared.entry.Journals.{Journals}
use Rattle.room_wiring.specs.declared.tables.Tables.{Tables}
use Rattle.inject_reader.specs.declared.inject_lines.accepted.Line.{Line as InjectedLine}
use Rattle.actor_merge.specs.Mail.{stamp_of}
use Rattle.actor_merge.specs.Parties.{Plant as RunPlant}
use Rattle.actor_merge.specs.World.{World, Placed, start, Runs}
use Rattle.actor_world.specs.Behaviour.{Behaviour}
use Rattle.actor_world.specs.Body.{Body}
use Rattle.actor_world.specs.Journals.{Item, lines_of}
use Rattle.actor_world.specs.Start.{plant_of}
use Rattle.chart_behaviour.specs.ModelCharts.{Actor}
use Rattle.controller_actors.specs.Plants.{model_of}
use Rattle.controller_actors.specs.declared.plant.Plant.{Plant}
use Rattle.actor_merge.specs.Merge.{IsMerge}
use Rattle.law_merges.proofs.Bounds.{one_end, run_bounded}
use Rattle.model_run.specs.part_posts.Items.{items_of}
use Rattle.model_run.specs.run_ends.Runs.{IsRun}
use Rattle.room_show.specs.declared.snapshot.Snapshot.{Snapshot}
use Rattle.room_verify.specs.Shown.{Observer, shown, IsShown, IsEarly}
use Rattle.room_verify.specs.Showing.{actors_observer}
use Rattle.room_verify.specs.Steps.{happened}
use Rattle.room_verify.specs.Verdicts.{IsLawful, IsVerdict, LeadsTo, out_of_order, wrong_start, refused, wrong_left, beyond_fuel, not_ended, not_prompt, lawful}
use Rattle.room_verify.specs.declared.verdict.Verdict.{Verdict}
use Rattle.room_verify.proofs.AloneLaw.{at_end, left_at, turns_at, ended_at}
use Rattle.room_verify.proofs.OneVerdict.{taken, merges_same}

-- ---- a list cut at a stamp

abbrev Low : ℕ → List Placed → Type 0
Low at xs = AllByRecursion (λ (x : Placed). stamp_of x.entry ≤ at) xs

abbrev High : ℕ → List Placed → Type 0
High at xs = AllByRecursion (λ (x : Placed). at < stamp_of x.entry) xs

-- two cuts of a list at one stamp are one
cut_same : (at : ℕ) (a b c d : List Placed) → a ++ b ≡ c ++ d → Low at a → High at b → Low at c → High at d → a ≡ c
cut_same at [] b [] d e la hb lc hd = refl
cut_same at [] [] (x ∷ c) d e la hb lc hd = absurd cc
cut_same at [] (y ∷ b) (x ∷ c) d e la hb lc hd =
    let head : y ≡ x = cc in
    let high : at < stamp_of x.entry = subst (λ (z : Placed). at < stamp_of z.entry) head hb.0 in
    let low = lc.0 in
    absurd (omega (arith, high, low))
cut_same at (x ∷ a) b [] [] e la hb lc hd = absurd cc
cut_same at (x ∷ a) b [] (y ∷ d) e la hb lc hd =
    let head : x ≡ y = cc in
    let low : stamp_of y.entry ≤ at = subst (λ (z : Placed). stamp_of z.entry ≤ at) head la.0 in
    let high = hd.0 in
    absurd (omega (arith, high, low))
cut_same at (x ∷ a) b (y ∷ c) d e la hb lc hd =
    let head : x ≡ y = cc in
    let tail : a ++ b ≡ c ++ d = cc in
    ap (λ (z : List Placed). x ∷ z) (cut_same at a b c d tail la.1 hb lc.1 hd) ∙ ap (λ (z : Placed). z ∷ c) head

-- an item up to the stamp stands in front of the cut
in_front : (at : ℕ) (a b front behind : List Placed) (x : Placed) → a ++ b ≡ front ++ x ∷ behind → High at b → stamp_of x.entry ≤ at
    → (more : List Placed) × (a ≡ front ++ x ∷ more)
in_front at [] [] [] behind x e hb low = absurd cc
in_front at [] (y ∷ b) [] behind x e hb low =
    let head : y ≡ x = cc in
    let high : at < stamp_of x.entry = subst (λ (z : Placed). at < stamp_of z.entry) head hb.0 in
    absurd (omega (arith, high, low))
in_front at (y ∷ a) b [] behind x e hb low = let head : y ≡ x = cc in (a, ap (λ (z : Placed). z ∷ a) head)
in_front at [] [] (z ∷ front) behind x e hb low = absurd cc
in_front at [] (y ∷ b) (z ∷ front) behind x e hb low =
    let tail : b ≡ front ++ x ∷ behind = cc in
    let there = in_front at [] b front behind x tail hb.1 low in
    absurd (no_front front x there.0 there.1)
  where
    no_front : (xs : List Placed) (x : Placed) (ys : List Placed) → [] ≡ xs ++ x ∷ ys → ⊥
    no_front [] x ys e = absurd cc
    no_front (z ∷ xs) x ys e = absurd cc
in_front at (y ∷ a) b (z ∷ front) behind x e hb low =
    let head : y ≡ z = cc in
    let tail : a ++ b ≡ front ++ x ∷ behind = cc in
    let rest = in_front at a b front behind x tail hb low in
    (rest.0, ap (λ (k : List Placed). y ∷ k) rest.1 ∙ ap (λ (k : Placed). k ∷ (front ++ x ∷ rest.0)) head)

module _ {M : Type 0} (model : Behaviour M) (t : Tables) (items : List Item) (j : Journals) (at : ℕ) (o : Observer M) where
  abbrev p : RunPlant (Body M)
  p = plant_of model t (lines_of items)

  pub one_shown : (a b : Snapshot) → IsShown model t items j at o a → IsShown model t items j at o b → a ≡ b
  one_shown a b h k =
      let whole : h.front ++ h.behind ≡ k.front ++ k.behind = merges_same model t items 0 j (h.front ++ h.behind) (k.front ++ k.behind) h.reaches.is k.reaches.is in
      let fronts : h.front ≡ k.front = cut_same at h.front h.behind k.front k.behind whole h.low h.high k.low k.high in
      let worlds : h.w ≡ k.w =
      one_end p (start p) k.front h.w k.w (subst (λ (z : List Placed). Runs p (start p) z h.w) fronts h.reaches.run) k.reaches.run in
      h.is ∙ ap (λ (w : World (Body M)). shown o t w at) worlds ∙ sym k.is

  pub shown_alone : (snapshot : Snapshot) (v : Verdict) → IsShown model t items j at o snapshot → IsEarly at v → IsVerdict model t items 0 j v → ⊥
  shown_alone snapshot v h early (out_of_order party low faulty lower) = faulty (h.reaches.ordered party.0)
  shown_alone snapshot v h early (wrong_start c below faulty rise lower) = faulty (h.reaches.started c.0 below)
  shown_alone snapshot v h early (refused party stamp e front behind w stamped reaches refusal) =
      let x : Placed = record { party = party.0; entry = e } in
      let whole : h.front ++ h.behind ≡ front ++ x ∷ behind = merges_same model t items 0 j (h.front ++ h.behind) (front ++ x ∷ behind) h.reaches.is reaches.is in
      let there = in_front at h.front h.behind front behind x whole h.high (omega (arith, early, stamped)) in
      taken model t items 0 j front behind there.0 x w h.w reaches.run refusal h.front there.1 h.reaches.run
  shown_alone snapshot v h early (wrong_left w leads faulty) = absurd early
  shown_alone snapshot v h early (beyond_fuel c w below leaves more lower) = absurd early
  shown_alone snapshot v h early (not_ended w keeps faulty) = absurd early
  shown_alone snapshot v h early (not_prompt c stamp before after e w below stamped ends there turn faulty prompt lower) = absurd early
  shown_alone snapshot v h early (lawful is) = absurd early

-- a run whose world is the one at which the merge of its journals ends
pub run_shown : (plant : Plant) (lines : List InjectedLine) (fuel : ℕ) (j : Journals) (at : ℕ) (snapshot : Snapshot)
    → (h : IsShown (model_of plant) plant.wiring (items_of plant.wiring lines) j at actors_observer snapshot) → h.behind ≡ []
    → IsRun plant lines fuel j → (run : IsRun plant lines fuel j) × (run.world ≡ h.w)
run_shown plant lines fuel j at snapshot h none run =
    let model : Behaviour Actor = model_of plant in
    let t : Tables = plant.wiring in
    let items : List Item = items_of plant.wiring lines in
    let p : RunPlant (Body Actor) = plant_of model t (lines_of items) in
    let is : IsLawful model t items fuel j =
    record { count = run.count; run = record { world = run.world; lawful = run.lawful; ended = run.ended }; prompt = run.prompt } in
    let leads : LeadsTo model t items fuel j h.w =
    record {
      merge = h.front;
      reaches = record {
        ordered = h.reaches.ordered;
        started = h.reaches.started;
        is = subst (λ (z : List Placed). IsMerge (happened j) (h.front ++ z)) none h.reaches.is;
        run = h.reaches.run;
      };
    } in
    let end = at_end model t items fuel j is h.w leads in
    let legal = run.lawful.run in
    let ran : Runs p (start p) legal.merge h.w = subst (λ (z : World (Body Actor)). Runs p (start p) legal.merge z) (sym end) legal.run in (
      record {
        world = h.w;
        count = run.count;
        lawful = record {
          events = run.lawful.events;
          begins = run.lawful.begins;
          environment = run.lawful.environment;
          run = record {
            merge = legal.merge;
            is = legal.is;
            end = h.w;
            run = ran;
            same = record { controllers = λ c below. refl; environment = refl; lanes = λ l. refl };
            bound = run_bounded p (start p) legal.merge h.w ran;
          };
          fuelled = turns_at model t items fuel j is h.w end;
          left_is = left_at model t items fuel j is h.w end;
        };
        prompt = run.prompt;
        ended = ended_at model t items fuel j is h.w end;
      },
      refl,
    )
