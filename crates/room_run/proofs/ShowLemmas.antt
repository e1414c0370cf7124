-- From what three texts give to the system at a stamp.
use Rattle.std.proofs.Common.{◌≡◌, ℕ, true, List, [], Option, Some, None, IfSome, sym, subst}
use Rattle.room_outside.specs.Shown.{Shown}
use Rattle.journal.specs.declared.entry.Journals.{Journals}
use Rattle.inject_reader.specs.declared.inject_lines.accepted.Line.{Line}
use Rattle.chart_model.specs.Chart.{Chart}
use Rattle.controller_actors.specs.Plants.{model_of}
use Rattle.controller_actors.specs.declared.plant.Plant.{Plant}
use Rattle.law_charts.specs.Charts.{ShowCharts, behaviour_by_charts}
use Rattle.model_run.specs.part_posts.Items.{items_of}
use Rattle.room_show.specs.declared.snapshot.Snapshot.{Snapshot}
use Rattle.room_verify.specs.Laws.{VerdictsAreByCharts}
use Rattle.room_verify.specs.Shown.{IsShown, IsUnshown}
use Rattle.room_verify.specs.Showing.{ShowsAreByCharts, actors_observer, charts_observer}
use Rattle.room_verify.specs.declared.verdict.Verdict.{Verdict}
use Rattle.room_verify.proofs.ShownLaw.{run_shown}
use Rattle.room_run.specs.Words.{Judged}
use Rattle.room_run.specs.Models.{IsModel, IsSoundText}
use Rattle.room_run.specs.Agreement.{AllAgree}
use Rattle.room_run.specs.ShownPeers.{ArePeersMutual}
use Rattle.room_run.specs.Causes.{AreGiven, IsSeen, IsUnseen}
use Rattle.room_run.specs.Judging.{AreJudged}
use Rattle.room_run.specs.declared.verify.Judgement.{Judgement}
use Rattle.room_run.proofs.PeersLaw.{peers_mutual}
use Rattle.room_run.proofs.fitting_plants.Worlds.{quiet_worlds_agree}
use Rattle.room_run.proofs.settled.Runs.{runs_agree}

pub are_given : (shelf : Shown) (files : Judged) (it : Judgement) → AreJudged shelf files it → AreGiven shelf files it.plant it.lines.items it.journals
are_given shelf files it h = record {
  texts = h.texts;
  journals_read = h.journals_read;
  plant_fits = h.plant_fits;
  lines_fit = h.lines_fit;
  fits = h.fits;
}

-- what is shown is that of the model whose text is told
shown_by_model : ShowsAreByCharts → (o : Option (List ℕ)) (p : Plant) (lines : List Line) (j : Journals) (at : ℕ) (snapshot : Snapshot) → IfSome o (λ text. IsModel text p)
    → IsShown (model_of p) p.wiring (items_of p.wiring lines) j at actors_observer snapshot
    → IfSome o (λ text. (charts : List (Option Chart)) × IsSoundText text p.wiring charts
    × IsShown (behaviour_by_charts p.wiring charts) p.wiring (items_of p.wiring lines) j at charts_observer snapshot)
shown_by_model law None p lines j at snapshot h s = tt
shown_by_model law (Some text) p lines j at snapshot h s = (h.charts, h.is, law p h.charts lines j at snapshot h.tables s)

pub seen : ShowsAreByCharts → (shelf : Shown) (files : Judged) (p : Plant) (lines : List Line) (j : Journals) (at : ℕ) (snapshot : Snapshot) → AreGiven shelf files p lines j
    → IsShown (model_of p) p.wiring (items_of p.wiring lines) j at actors_observer snapshot → IsSeen shelf files at p lines j snapshot
seen law shelf files p lines j at snapshot h s = record {
  given = h;
  shown_is = s;
  by_own_charts = law p h.plant_fits.charts lines j at snapshot h.plant_fits.tables s;
  by_charts = shown_by_model law (shelf.text files.run.model) p lines j at snapshot h.texts.model_accepted s;
  agreed = quiet_worlds_agree p lines h.plant_fits h.lines_fit s.front s.w s.reaches.run;
  agreed_at_end = λ fuel run done none.
      let ended = run_shown p lines fuel j at snapshot s none run in
      subst (AllAgree p.wiring) ended.1 (runs_agree p lines fuel j h.plant_fits h.lines_fit ended.0 done);
  each_others = λ all. subst (ArePeersMutual p.wiring s.w) (sym s.is) (peers_mutual actors_observer p.wiring s.w at all.agreed.peers);
}

-- a verdict that is told in its place
unshown_by : VerdictsAreByCharts → (p : Plant) (charts : List (Option Chart)) (lines : List Line) (j : Journals) (at : ℕ) (v : Verdict) → ShowCharts p.tables.items charts
    → IsUnshown (model_of p) p.wiring (items_of p.wiring lines) j at v
    → IsUnshown (behaviour_by_charts p.wiring charts) p.wiring (items_of p.wiring lines) j at v
unshown_by law p charts lines j at v tables u = record { early = u.early; is = λ fuel. law p charts lines fuel j v tables (u.is fuel) }

unshown_by_model : VerdictsAreByCharts → (o : Option (List ℕ)) (p : Plant) (lines : List Line) (j : Journals) (at : ℕ) (v : Verdict) → IfSome o (λ text. IsModel text p)
    → IsUnshown (model_of p) p.wiring (items_of p.wiring lines) j at v
    → IfSome o (λ text. (charts : List (Option Chart)) × IsSoundText text p.wiring charts
    × IsUnshown (behaviour_by_charts p.wiring charts) p.wiring (items_of p.wiring lines) j at v)
unshown_by_model law None p lines j at v h u = tt
unshown_by_model law (Some text) p lines j at v h u = (h.charts, h.is, unshown_by law p h.charts lines j at v h.tables u)

pub unseen : VerdictsAreByCharts → (shelf : Shown) (files : Judged) (p : Plant) (lines : List Line) (j : Journals) (at : ℕ) (v : Verdict) → AreGiven shelf files p lines j
    → IsUnshown (model_of p) p.wiring (items_of p.wiring lines) j at v → IsUnseen shelf files at p lines j v
unseen law shelf files p lines j at v h u = record {
  given = h;
  unshown = u;
  by_own_charts = unshown_by law p h.plant_fits.charts lines j at v h.plant_fits.tables u;
  by_charts = unshown_by_model law (shelf.text files.run.model) p lines j at v h.texts.model_accepted u;
}
