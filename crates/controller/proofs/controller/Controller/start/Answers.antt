use Rattle.controller.proofs.controller.Controller.start.Goals as goal

pub returns-clause-of : goal.returns-clause-of
returns-clause-of c =
    let of = c.in_ok-begun.ensures.of in
    let waits = c.in_ok-begun.ensures.waits in
    record {
      me = of.me;
      well = λ works. of.well;
      waits = λ works. record { system = waits.system; outbox = waits.outbox };
    }
