use Rattle.std.proofs.Common.{ℕ, List, ◌++◌, sym, ap, subst, ◌∙◌, ◌<◌}
use Rattle.std.specs.Prelude.{All}
use Rattle.std.specs.List.{flat_map}
use Rattle.room_kinds.specs.declared.numbers.Incarnation.{Incarnation}
use Rattle.frame_lives.specs.Shown.{shown, with_lives}
use Rattle.frame_lives.specs.Steps.{is_among, lives_without}
use Rattle.frame_service.specs.frame_imports.import_places.Lending.{lending, forgotten_where}
use Rattle.frame_service.specs.frame_endings.Ends.{end_sends, part_sends}
use Rattle.frame_service.proofs.frame_endings.EndSet.{ended_there, set_ended}
use Rattle.frame_service.proofs.state.FrameState.end_set.Goals as goal

pub ending-requires : goal.ending-requires
ending-requires c = record { site = record { order = c.requires.fits.order; runs = c.requires.fits.runs }; there = c.requires.there }

pub returns : goal.returns
returns c =
    let t = c.args.wiring.now in
    let s = c.args.self.now in
    let me = s.me.0 in
    let places = (lending s.imports).places in
    let plugs = (lending s.imports).plugs in
    set_ended t s c.end_all.new.self c.end_all-2.new.self c.args.slot.0 c.args.out.now c.end_actors.new.out c.end_parts.new.out c.in_ok-ended.ended
    c.requires.fits c.in_ok-ended.ensures
    (c.in_ok-end_actors.ensures ∙ ap (λ (xs : List Incarnation). c.args.out.now ++ flat_map (end_sends t me places plugs) xs) c.as_slice-actors.ensures)
    (c.in_ok-end_parts.ensures ∙ ap (λ (xs : List Incarnation). c.end_actors.new.out ++ flat_map (part_sends t me) xs) c.as_slice-actors.ensures)
    (c.end_all.ensures ∙ ap (λ (xs : List Incarnation). with_lives (shown s.lives) (lives_without xs (shown s.lives).lives)) c.as_slice-actors.ensures)
    (c.end_all-2.ensures ∙ ap (λ (xs : List Incarnation). forgotten_where t (is_among xs) (lending s.imports)) c.as_slice-actors.ensures)

pub end_actors-requires-clause-there : goal.end_actors-requires-clause-there
end_actors-requires-clause-there c =
    ended_there c.args.wiring.now c.args.self.now.me.0 (shown c.args.self.now.lives).lives c.args.slot.0 c.as_slice-actors.result.now
    (c.as_slice-actors.ensures ∙ c.in_ok-ended.ensures)

pub end_parts-requires-clause-there : goal.end_parts-requires-clause-there
end_parts-requires-clause-there c =
    ended_there c.args.wiring.now c.args.self.now.me.0 (shown c.args.self.now.lives).lives c.args.slot.0 c.as_slice-actors.result.now
    (c.as_slice-actors.ensures ∙ c.in_ok-ended.ensures)

pub end_all-requires : goal.end_all-requires
end_all-requires c =
    subst (λ (n : ℕ). All (λ (x : Incarnation). x.slot.0 < n) c.as_slice-actors.result.now) (sym c.requires.fits.lives)
    (ended_there c.args.wiring.now c.args.self.now.me.0 (shown c.args.self.now.lives).lives c.args.slot.0 c.as_slice-actors.result.now
    (c.as_slice-actors.ensures ∙ c.in_ok-ended.ensures))

pub end_all-requires-2-clause-there : goal.end_all-requires-2-clause-there
end_all-requires-2-clause-there c =
    ended_there c.args.wiring.now c.args.self.now.me.0 (shown c.args.self.now.lives).lives c.args.slot.0 c.as_slice-actors.result.now
    (c.as_slice-actors.ensures ∙ c.in_ok-ended.ensures)

pub end_actors-requires-clause-site : goal.end_actors-requires-clause-site
end_actors-requires-clause-site c = record { order = c.requires.fits.order; runs = c.requires.fits.runs }

pub end_parts-requires-clause-site : goal.end_parts-requires-clause-site
end_parts-requires-clause-site c = record { order = c.requires.fits.order; runs = c.requires.fits.runs }
