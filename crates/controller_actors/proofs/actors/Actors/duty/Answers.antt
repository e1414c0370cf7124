use Rattle.std.proofs.Common.{sym, ◌∙◌}
use Rattle.controller_actors.proofs.Finishing.{kind_number, treats_none, treats_duty}
use Rattle.controller_actors.proofs.actors.Actors.duty.Goals as goal

pub returns-in_default-clause-treated : goal.returns-in_default-clause-treated
returns-in_default-clause-treated c =
    treats_none c.args.plant.now c.args.me.0 c.args.m.now c.args.self.now c.requires.prio c.passed_over.result (sym c.in_default.is ∙ c.from_number.ensures.kind) c.passed_over.ensures

pub frame_duty-requires-clause-kind : goal.frame_duty-requires-clause-kind
frame_duty-requires-clause-kind c = kind_number c.args.m.now.signal c.in-Some.kind (sym c.from_number.ensures.kind ∙ c.in-Some.is)

pub returns-in_ok-done-in-Frame-clause-treated : goal.returns-in_ok-done-in-Frame-clause-treated
returns-in_ok-done-in-Frame-clause-treated c =
    treats_duty c.args.plant.now c.args.me.0 c.args.m.now c.args.self.now c.requires.prio c.frame_duty.new.self c.in_ok-done-in-Frame.done c.in-Some.kind
    (sym c.in-Some.is ∙ c.from_number.ensures.kind) c.in_ok-done-in-Frame.ensures

pub returns-in_ok-done-in-NameTable-clause-treated : goal.returns-in_ok-done-in-NameTable-clause-treated
returns-in_ok-done-in-NameTable-clause-treated c =
    treats_duty c.args.plant.now c.args.me.0 c.args.m.now c.args.self.now c.requires.prio c.table_duty.new.self c.in_ok-done-in-NameTable.done c.in-Some.kind
    (sym c.in-Some.is ∙ c.from_number.ensures.kind) c.in_ok-done-in-NameTable.ensures

pub returns-in_ok-done-in-Links-clause-treated : goal.returns-in_ok-done-in-Links-clause-treated
returns-in_ok-done-in-Links-clause-treated c =
    treats_duty c.args.plant.now c.args.me.0 c.args.m.now c.args.self.now c.requires.prio c.links_duty.new.self c.in_ok-done-in-Links.done c.in-Some.kind
    (sym c.in-Some.is ∙ c.from_number.ensures.kind) c.in_ok-done-in-Links.ensures
