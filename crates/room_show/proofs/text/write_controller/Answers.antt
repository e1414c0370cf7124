use Rattle.std.proofs.Common.{◌++◌}
use Rattle.std.proofs.lemmas.Result.{err_from_is_err_and}
use Rattle.room_outside.proofs.line_text.OutputLemmas.{puts_second, breaks_first, breaks_second}
use Rattle.room_show.specs.Lines.{controller_line}
use Rattle.room_show.specs.Text.{actors_text, places_text, controller_text}
use Rattle.room_show.proofs.text.write_controller.Goals as goal

pub returns-in_err-write_controller_line : goal.returns-in_err-write_controller_line
unfolding controller_text
returns-in_err-write_controller_line g c =
    let p = err_from_is_err_and c.from_residual.result c.from_residual.ensures.1 in
    let t = c.args.wiring.now in
    let v = c.args.view.now in
    let title = controller_line c.args.c v.clock.0 v.turns in
    rw p.1 (breaks_first _ _ title (actors_text t v.actors ++ places_text t v.places) c.in_err-write_controller_line.ensures)

pub returns-in_err-write_actors : goal.returns-in_err-write_actors
unfolding controller_text
returns-in_err-write_actors g c =
    let p = err_from_is_err_and c.from_residual-in_err-write_actors.result c.from_residual-in_err-write_actors.ensures.1 in
    let t = c.args.wiring.now in
    let v = c.args.view.now in
    let title = controller_line c.args.c v.clock.0 v.turns in
    let actors = actors_text t v.actors in
    let places = places_text t v.places in
    rw p.1 (breaks_second _ _ _ title (actors ++ places) c.in_ok-write_controller_line.ensures (breaks_first _ _ actors places (rw c.as_slice.ensures at c.in_err-write_actors.ensures)))

pub returns : goal.returns
unfolding controller_text
returns g c =
    let t = c.args.wiring.now in
    let v = c.args.view.now in
    let title = controller_line c.args.c v.clock.0 v.turns in
    let actors = actors_text t v.actors in
    let places = places_text t v.places in
    puts_second _ _ _ _ title (actors ++ places) c.in_ok-write_controller_line.ensures
    (puts_second _ _ _ _ actors places (rw c.as_slice.ensures at c.in_ok-write_actors.ensures) (rw c.as_slice-2.ensures at c.write_places.ensures))
