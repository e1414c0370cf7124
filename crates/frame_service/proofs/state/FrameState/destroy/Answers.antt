use Rattle.std.proofs.Common.{ℤ, SFits, w64, rules, ap, ◌∙◌, ◌++◌, ◌∷◌, []}
use Rattle.std.proofs.lemmas.Int.{to_z-of_z}
use Rattle.actor_duties.specs.Frame.{destroy_command}
use Rattle.frame_service.proofs.DutyLemmas.{only_requested}
use Rattle.frame_service.proofs.state.FrameState.destroy.Goals as goal

pub destroy-requires : goal.destroy-requires
destroy-requires c = record { site = record { order = c.requires.fits.order; runs = c.requires.fits.runs }; there = c.requires.there }

pub returns : goal.returns
returns c =
    let s = c.args.self.now in
    let fits : SFits w64 c.args.asked.index = search rules in
    let same = to_z-of_z w64 c.args.asked.index fits in
    only_requested c.args.wiring.now s (destroy_command c.args.wiring.now s.me.0 c.args.asked.actor c.args.asked.reference c.args.asked.index) c.args.out.now c.destroy.new.out c.requires.fits
    (c.in_ok-destroy.ensures ∙ ap (λ (z : ℤ). c.args.out.now ++ destroy_command c.args.wiring.now s.me.0 c.args.asked.actor c.args.asked.reference z ∷ []) same)
