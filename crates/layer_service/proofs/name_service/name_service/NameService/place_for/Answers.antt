use Rattle.std.proofs.Common.{◌≡◌, sym, ◌∙◌}
use Rattle.std.specs.Prelude.{position, None}
use Rattle.layer_service.specs.name_service.Services.{is_called}
use Rattle.layer_service.proofs.name_service.Table.{found, made}
use Rattle.layer_service.proofs.name_service.name_service.NameService.place_for.Goals as goal

pub returns-in-Some : goal.returns-in-Some
returns-in-Some c = found c.args.name c.args.protocol c.args.self.now c.in-Some.place (sym c.in-Some.ensures)

pub returns : goal.returns
returns c =
    let none : position (is_called c.args.name c.args.protocol) c.args.self.now ≡ None = sym c.place_of.ensures ∙ c.in_default.is in
    rw (c.in_ok-place.ensures.now, c.in_ok-place.ensures.place) (made c.args.name c.args.protocol c.args.self.now none)
