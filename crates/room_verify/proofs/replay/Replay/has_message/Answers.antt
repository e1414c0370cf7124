use Rattle.std.proofs.Common.{◌≡◌, Some, length, slice_get, refl, sym, ◌∙◌}
use Rattle.std.proofs.lemmas.Option.{slice_get_read}
use Rattle.room_verify.proofs.EndedLaw.{kept_here, none_kept_here}
use Rattle.room_verify.proofs.replay.Replay.has_message.Goals as goal

pub returns-then-keeps_messages : goal.returns-then-keeps_messages
returns-then-keeps_messages c = λ plant stands.
    let all = c.args.self.now.controllers.items in
    let at : slice_get all c.args.c ≡ Some c.index.result.now = slice_get_read all (length all) c.args.c c.index.result.now refl c.requires.within c.index.ensures in
    ((λ done. kept_here plant c.args.self.now stands c.args.c c.index.result.now at (sym c.keeps_messages.ensures ∙ c.if-keeps_messages.true)), (λ has. refl))

pub returns : goal.returns
returns c = λ plant stands.
    let all = c.args.self.now.controllers.items in
    let at : slice_get all c.args.c ≡ Some c.index.result.now = slice_get_read all (length all) c.args.c c.index.result.now refl c.requires.within c.index.ensures in
    none_kept_here plant c.args.self.now stands c.args.c c.index.result.now at c.is_empty_to.result c.is_empty_to.ensures (sym c.keeps_messages.ensures ∙ c.if-keeps_messages.false)
