use Rattle.std.proofs.Common.{List, [], ◌∷◌, ◌++◌, refl, sym, ap, ◌∙◌}
use Rattle.room_kinds.specs.declared.note.Note.{Note}
use Rattle.room_kinds.specs.declared.numbers.Incarnation.{Incarnation}
use Rattle.journal.specs.declared.entry.Entry.TheVariants as entry
use Rattle.controller_actors.proofs.Beginnings.{starts_in}
use Rattle.controller_actors.proofs.start.Starting.start_in.Goals as goal

pub returns : goal.returns
returns c =
    let old = c.args.self.now in
    let last = c.begin.new.output in
    let state = c.in_ok-state.state in
    starts_in c.args.plant.now c.args.me.0 c.args.who.slot.0 old _ last state c.in_ok-state.ensures refl refl
    (c.in_ok-push.ensures.ok
    ∙ ap (λ (told : List Note). old.entries ++ entry.Start c.args.who state told ∷ []) c.replace-notes.ensures.value
    ∙ ap (λ (x : Incarnation). old.entries ++ entry.Start x state last.notes ∷ []) (sym c.requires.last.last))
