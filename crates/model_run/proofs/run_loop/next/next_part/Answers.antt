use Rattle.std.proofs.Common.{◌≡◌, false, true, not, Bool, List, length, refl, sym, ap, ◌∙◌, subst}
use Rattle.std.specs.List.{list_any}
use Rattle.actor_merge.specs.World.{latest}
use Rattle.controller_mail.specs.MailState.{EnvironmentState}
use Rattle.controller.specs.Controllers.{state_at}
use Rattle.controller.specs.View.{Controller}
use Rattle.model_run.specs.part_posts.Items.{items_of}
use Rattle.model_run.specs.part_source.Calls.{seen, StoodQuiet, MayAsk, asked}
use Rattle.model_run.specs.part_source.Parts.{NextPart}
use Rattle.model_run.specs.run_ends.Ends.{waits, IsAtEnd}
use Rattle.model_run.proofs.part_source.CallsLaw.{grew_none, grew_same, asks_none}
use Rattle.model_run.proofs.run_loop.PlayLaw.{ends_spent, ends_done, before_next}
use Rattle.model_run.proofs.run_loop.QuietLaw.{stood_quiet}
use Rattle.model_run.proofs.run_loop.next.next_part.Goals as goal

pub returns-then-someone_waits-clause-stands : goal.returns-then-someone_waits-clause-stands
returns-then-someone_waits-clause-stands g c =
    let plant = c.args.plant.now in
    let run = c.args.run.now in
    let gone = items_of plant.wiring (g.S.PartSource.given c.args.source.now) in
    let some : list_any waits run.controllers.items ≡ true = sym c.someone_waits.ensures ∙ c.if-someone_waits.true in
    record {
      before = λ e. absurd cc;
      over = λ e. record {
        at_end = subst (λ (z : Bool). IsAtEnd plant gone c.args.fuel run.controllers.items run.environment z) (sym (ap not some))
            (ends_spent plant c.args.fuel gone run.controllers.items run.environment c.requires.within c.requires.stopped some);
        whole = λ f. absurd cc;
      };
    }

pub returns-then-someone_waits-clause-asks : goal.returns-then-someone_waits-clause-asks
returns-then-someone_waits-clause-asks g c = asks_none g.S.PartSource.goes_on (λ s js. StoodQuiet c.args.plant.now (g.S.PartSource.given s) c.args.fuel js) c.args.source.now (seen c.args.run.now.controllers.items c.args.run.now.environment)

pub returns-then-not-more-clause-stands : goal.returns-then-not-more-clause-stands
returns-then-not-more-clause-stands g c =
    let plant = c.args.plant.now in
    let run = c.args.run.now in
    let before = g.S.PartSource.given c.args.source.now in
    let after = g.S.PartSource.given c.next_part.new.self in
    let part = g.S.PartSource.stands_at c.next_part.new.self in
    let none : list_any waits run.controllers.items ≡ false = sym c.someone_waits.ensures ∙ c.if-someone_waits.false in
    let next : NextPart before after part c.in_ok-more.more = c.in_ok-more.ensures.next in
    record {
      before = λ e. absurd cc;
      over = λ e. record {
        at_end = subst (λ (z : Bool). IsAtEnd plant (items_of plant.wiring after) c.args.fuel run.controllers.items run.environment z) (sym (ap not none))
            (ends_done plant c.args.fuel (items_of plant.wiring before) run.controllers.items run.environment c.requires.within c.requires.stopped none
            before after part refl next.settles next.are next.is (next.over c.if-not-more.true));
        whole = λ f. c.in_ok-more.ensures.over c.if-not-more.true;
      };
    }

pub returns-then-not-more-clause-asks : goal.returns-then-not-more-clause-asks
returns-then-not-more-clause-asks g c =
    let run = c.args.run.now in
    let ks = run.controllers.items in
    let none : list_any waits ks ≡ false = sym c.someone_waits.ensures ∙ c.if-someone_waits.false in
    let quiet = stood_quiet c.args.plant.now c.args.fuel (g.S.PartSource.given c.args.source.now) ks run.environment c.requires.within c.requires.stopped none in
    let saw : MayAsk g.S.PartSource.goes_on (λ s js. StoodQuiet c.args.plant.now (g.S.PartSource.given s) c.args.fuel js) c.args.source.now (seen ks run.environment) c.next_part.new.self =
    asked c.next_part.new.self quiet
    (subst (λ (z : List Controller). g.S.PartSource.goes_on c.args.source.now (seen z run.environment) c.next_part.new.self) c.as_slice.ensures.value c.in_ok-more.ensures.goes_on) in
    record { may = saw; grew = grew_none (seen ks run.environment) }

pub returns-then-not-more-clause-fits : goal.returns-then-not-more-clause-fits
returns-then-not-more-clause-fits g c = c.in_ok-more.ensures.fits c.args.plant.now.wiring

pub returns-clause-fits : goal.returns-clause-fits
returns-clause-fits g c = c.in_ok-more.ensures.fits c.args.plant.now.wiring

pub returns-clause-stands : goal.returns-clause-stands
returns-clause-stands g c =
    let plant = c.args.plant.now in
    let run = c.args.run.now in
    let before = g.S.PartSource.given c.args.source.now in
    let after = g.S.PartSource.given c.next_part.new.self in
    let part = g.S.PartSource.stands_at c.next_part.new.self in
    let none : list_any waits run.controllers.items ≡ false = sym c.someone_waits.ensures ∙ c.if-someone_waits.false in
    let next : NextPart before after part c.in_ok-more.more = c.in_ok-more.ensures.next in
    record {
      before = λ e. before_next plant c.args.fuel (items_of plant.wiring before) run.controllers.items run.environment c.requires.within c.requires.stopped none
          before after part refl next.settles next.are c.catch_up.new.self next.is next.of (next.ends c.if-not-more.false) (next.begins c.if-not-more.false)
          (subst (λ (ks : List Controller). c.catch_up.new.self ≡ record run.environment { clock = latest (state_at plant ks) (length ks) run.environment.clock })
          c.as_slice-2.ensures.value (c.catch_up.ensures plant));
      over = λ e. absurd cc;
    }

pub returns-clause-asks : goal.returns-clause-asks
returns-clause-asks g c =
    let run = c.args.run.now in
    let ks = run.controllers.items in
    let none : list_any waits ks ≡ false = sym c.someone_waits.ensures ∙ c.if-someone_waits.false in
    let quiet = stood_quiet c.args.plant.now c.args.fuel (g.S.PartSource.given c.args.source.now) ks run.environment c.requires.within c.requires.stopped none in
    let saw : MayAsk g.S.PartSource.goes_on (λ s js. StoodQuiet c.args.plant.now (g.S.PartSource.given s) c.args.fuel js) c.args.source.now (seen ks run.environment) c.next_part.new.self =
    asked c.next_part.new.self quiet
    (subst (λ (z : List Controller). g.S.PartSource.goes_on c.args.source.now (seen z run.environment) c.next_part.new.self) c.as_slice.ensures.value c.in_ok-more.ensures.goes_on) in
    let clock : c.catch_up.new.self ≡ record run.environment { clock = latest (state_at c.args.plant.now c.as_slice-2.result.now) (length c.as_slice-2.result.now) run.environment.clock } = c.catch_up.ensures c.args.plant.now in
    let journal : c.catch_up.new.self.journal ≡ run.environment.journal = ap (λ (z : EnvironmentState). z.journal) clock in
    record { may = saw; grew = grew_same ks run.environment c.catch_up.new.self journal }

pub returns-clause-stays : goal.returns-clause-stays
returns-clause-stays g c =
    let run = c.args.run.now in
    let clock : c.catch_up.new.self ≡ record run.environment { clock = latest (state_at c.args.plant.now c.as_slice-2.result.now) (length c.as_slice-2.result.now) run.environment.clock } = c.catch_up.ensures c.args.plant.now in
    record { controllers = refl; journal = ap (λ (z : EnvironmentState). z.journal) clock; in_part = refl }
