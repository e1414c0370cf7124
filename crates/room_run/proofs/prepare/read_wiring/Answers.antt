use Rattle.std.proofs.Common.{subst, ℕ, List, map, option_map}
use Rattle.chart_trees.specs.chart_graphs.Views.{chart_view}
use Rattle.room_run.specs.Models.{SoundCauses}
use Rattle.room_run.specs.Causes.{no_text}
use Rattle.room_run.proofs.CauseLemmas.{cause_found}
use Rattle.room_run.proofs.JournalLaws.{text_well_named}
use Rattle.room_run.proofs.prepare.read_wiring.Goals as goal

pub returns-in-Err-clause-err : goal.returns-in-Err-clause-err
returns-in-Err-clause-err g c = no_text c.in-Err.ensures.err

pub returns-clause-err : goal.returns-clause-err
returns-clause-err g c =
    let fault = c.in-Err-sound_model.fault in
    cause_found (g.S.Shelf.shown c.args.shelf.now) (g.S.Shelf.shown c.read_text.new.shelf) c.args.name.now c.in-Ok.text.items fault c.in-Ok.ensures.ok
    (subst (λ (text : List ℕ). SoundCauses text fault) c.as_slice.ensures.value c.in-Err-sound_model.ensures.err)

pub returns-in-Ok-sound_model-clause-named : goal.returns-in-Ok-sound_model-clause-named
returns-in-Ok-sound_model-clause-named g c =
    text_well_named c.as_slice.result.now c.in-Ok-sound_model.sound.wiring (map (option_map chart_view) c.in-Ok-sound_model.sound.charts.items) c.in-Ok-sound_model.ensures.ok
