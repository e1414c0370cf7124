use Rattle.std.proofs.Common.{◌≡◌, ◌+◌, true, ap, refl, ◌∙◌}
use Rattle.actor_duties.specs.Words.{incarnation}
use Rattle.frame_lives.specs.declared.row.Row.{Row}
use Rattle.frame_lives.proofs.Paging.{shown_row, shown_raised}
use Rattle.frame_lives.proofs.slot_lives.SlotLives.raise.Goals as goal

pub returns-clause-actor : goal.returns-clause-actor
returns-clause-actor c =
    let x = c.in_ok-row.row.now in
    let next : c.in-Some.generation ≡ x.generation + 1 = c.in-Some.ensures.1 in
    let row = shown_row c.self.inside.count c.self.inside.rows c.args.self.now c.args.slot.0 c.from.result x c.self.view_is c.requires c.from.ensures c.in_ok-row.ensures.value in
    ap (incarnation c.args.slot.0) (next ∙ ap (λ (r : Row). r.generation + 1) row)

pub returns-clause-now : goal.returns-clause-now
returns-clause-now c =
    let x = c.in_ok-row.row.now in
    let g = c.in-Some.generation in
    let next : g ≡ x.generation + 1 = c.in-Some.ensures.1 in
    let after : Row = record { generation = g; lives = true; told = x.told } in
    shown_raised c.self.inside.count c.self.inside.rows (c.reach.follows.lender after) c.args.self.now c.args.slot.0 c.from.result x g c.self.view_is c.requires c.from.ensures
    c.in_ok-row.ensures.value next (c.reach.follows.holds after (rw c.in_ok-row.was refl))
