use Rattle.std.proofs.Common.{◌≡◌, ℕ, ◌++◌, Option, ℤ, ap, ◌∙◌}
use Rattle.std.proofs.lemmas.Int.{to_z-of_z}
use mir.Syntax.{w64}
use Rattle.std.specs.Prelude.{option_map}
use Rattle.room_kinds.specs.declared.numbers.Incarnation.{Incarnation}
use Rattle.actor_duties.specs.State.{ImportPlace, Done}
use Rattle.actor_duties.specs.Words.{of_id}
use Rattle.actor_duties.specs.Frame.{import_code, import_with}
use Rattle.service_messages.specs.Shown.{code_of}
use Rattle.frame_service.specs.frame_imports.import_places.Lending.{lending, with_places}
use Rattle.frame_service.specs.frame_imports.Homes.{home_there}
use Rattle.frame_service.proofs.frame_imports.Requests.{through_home}
use Rattle.frame_service.proofs.frame_imports.commands.import_into.Goals as goal

pub returns-clause-now : goal.returns-clause-now
returns-clause-now c =
    let t = c.args.site.now.wiring.now in
    let me = c.args.site.now.me.0 in
    let places = (lending c.args.imports.now).places in
    let x = c.args.asked.actor in
    let r = c.args.asked.reference in
    let z = c.args.asked.index in
    let i = c.args.slot.0 in
    let home = c.home_of-home.result in
    let is : import_with t me places x r z i home (option_map code_of c.import_code-code.result) ≡ import_with t me places x r z i (of_id c.args.id) (import_code t places i (of_id c.args.id)) =
    ap (import_with t me places x r z i home) c.import_code-code.ensures
    ∙ ap (λ (h : Option Incarnation). import_with t me places x r z i h (import_code t places i h)) (c.home_of-home.ensures ∙ ap (λ (v : ℤ). home_there t (of_id v)) (to_z-of_z w64 c.args.id c.ranges.id))
    ∙ through_home t me places x r z i (of_id c.args.id) in
    c.in_ok-import_with.ensures.now ∙ ap (λ (d : Done (ℕ → ImportPlace)). with_places (lending c.args.imports.now) d.now) is

pub returns-clause-sent : goal.returns-clause-sent
returns-clause-sent c =
    let t = c.args.site.now.wiring.now in
    let me = c.args.site.now.me.0 in
    let places = (lending c.args.imports.now).places in
    let x = c.args.asked.actor in
    let r = c.args.asked.reference in
    let z = c.args.asked.index in
    let i = c.args.slot.0 in
    let home = c.home_of-home.result in
    let is : import_with t me places x r z i home (option_map code_of c.import_code-code.result) ≡ import_with t me places x r z i (of_id c.args.id) (import_code t places i (of_id c.args.id)) =
    ap (import_with t me places x r z i home) c.import_code-code.ensures
    ∙ ap (λ (h : Option Incarnation). import_with t me places x r z i h (import_code t places i h)) (c.home_of-home.ensures ∙ ap (λ (v : ℤ). home_there t (of_id v)) (to_z-of_z w64 c.args.id c.ranges.id))
    ∙ through_home t me places x r z i (of_id c.args.id) in
    c.in_ok-import_with.ensures.sent ∙ ap (λ (d : Done (ℕ → ImportPlace)). c.args.out.now ++ d.sent) is
