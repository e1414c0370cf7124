-- A made model's texts, as those of files.
use Rattle.std.proofs.Common.{◌≡◌, ℕ, List, refl, ap, subst}
use Rattle.journal.specs.declared.entry.Journals.{Journals}
use Rattle.inject_reader.specs.declared.inject_lines.accepted.Advances.TheVariants.{Taken}
use Rattle.inject_reader.specs.declared.inject_lines.accepted.Line.{Line}
use Rattle.controller_actors.specs.declared.plant.Plant.{Plant}
use Rattle.made_model.specs.Texts.{model_text, injections_text}
use Rattle.made_model.specs.Counts.{counts_of}
use Rattle.made_model.specs.declared.counts.Counts.{Counts}
use Rattle.made_model.specs.declared.summary.Summary.{Summary}
use Rattle.room_run.specs.Words.{usual_fuel}
use Rattle.room_run.specs.MadeShelf.{made_files, made_shelf}
use Rattle.room_run.specs.Models.{IsModel}
use Rattle.room_run.specs.Finished.{HasRun, Summarizes}
use Rattle.room_run.specs.Causes.{IsInjections, no_text, model_long, model_refused, injections_long, bad_line, injections_no_memory, faulty_line, no_memory_for_lines, RunCauses, of_model, of_injections, PlantCauses, long_model, unfit_model, InjectedCauses, long_injections, unfit_lines}
use Rattle.room_run.specs.declared.refusal.Refusal.{Refusal}

model_cause : (actors : ℕ) (why : Refusal) → PlantCauses (model_text actors) why → RunCauses (made_shelf actors) (made_shelf actors) made_files why
model_cause actors why (long_model h) = of_model (no_text (model_long h))
model_cause actors why (unfit_model fault h) = of_model (model_refused fault h)

lines_cause : (actors : ℕ) (p : Plant) (why : Refusal) → IsModel (model_text actors) p → InjectedCauses p.wiring (injections_text actors) why → RunCauses (made_shelf actors) (made_shelf actors) made_files why
lines_cause actors p why model (long_injections h is) = of_injections p model (injections_long h is)
lines_cause actors p _ model (unfit_lines (faulty_line number fault h)) = of_injections p model (bad_line number fault h refl)
lines_cause actors p _ model (unfit_lines no_memory_for_lines) = of_injections p model (injections_no_memory refl)

-- the text of the model is refused
pub made_refused : (actors : ℕ) (model : List ℕ) (why : Refusal) → model ≡ model_text actors → PlantCauses model why → RunCauses (made_shelf actors) (made_shelf actors) made_files why
made_refused actors model why is h = model_cause actors why (subst (λ text. PlantCauses text why) is h)

-- the text of the injections is refused
pub made_lines_refused : (actors : ℕ) (model injections : List ℕ) (p : Plant) (why : Refusal) → model ≡ model_text actors → injections ≡ injections_text actors → IsModel model p → InjectedCauses p.wiring injections why
    → RunCauses (made_shelf actors) (made_shelf actors) made_files why
made_lines_refused actors model injections p why is are h causes =
    lines_cause actors p why (subst (λ text. IsModel text p) is h) (subst (λ text. InjectedCauses p.wiring text why) are causes)

-- both were accepted, and the run has ended
pub summarized : (actors : ℕ) (model injections : List ℕ) (p : Plant) (lines : List Line) (j : Journals) (counts : Counts) → model ≡ model_text actors → injections ≡ injections_text actors
    → IsModel model p → IsInjections Taken p.wiring injections lines → HasRun p lines usual_fuel j → counts ≡ counts_of j → Summarizes actors (record { actors = actors; counts = counts; done = j.done })
summarized actors model injections p lines j counts is are h read run counted = record {
  plant = p;
  lines = lines;
  journals = j;
  texts = record { model_accepted = subst (λ text. IsModel text p) is h; lines_accepted = subst (λ text. IsInjections Taken p.wiring text lines) are read };
  run = run;
  is = ap (summary actors j) counted;
}
  where
    summary : ℕ → Journals → Counts → Summary
    summary n js c = record { actors = n; counts = c; done = js.done }
