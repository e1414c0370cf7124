use Rattle.std.proofs.Common.{◌∙◌, ap, position, ℕ, List, Option, Bor}
use Rattle.name_tables.specs.name_numbers.Names.{same, names_of}
use Rattle.name_tables.proofs.name_index.Lists.{called_place}
use Rattle.name_tables.proofs.name_index.NameIndex.place_of.Goals as goal

pub returns-in-None : goal.returns-in-None
returns-in-None c =
    let at : List (Bor (List ℕ)) → Option ℕ = λ refs. position (same c.args.name.now) (names_of refs) in
    c.place_among.ensures ∙ called_place c.args.name.now c.as_slice.result.now ∙ ap at c.as_slice.ensures.value ∙ ap (position (same c.args.name.now)) c.self.view_is
