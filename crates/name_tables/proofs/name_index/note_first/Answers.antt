use Rattle.std.proofs.Common.{ℕ, List, Bor, sym, ◌∙◌}
use Rattle.name_tables.specs.name_index.Places.{place_in}
use Rattle.name_tables.proofs.name_index.Lists.{note_new}
use Rattle.name_tables.proofs.name_index.note_first.Goals as goal

abbrev at : List ℕ → Bor (List ℕ)
at name = record { ref_ptr = (0, 0); now = name }

pub returns-in_ok-insert : goal.returns-in_ok-insert
returns-in_ok-insert c =
    note_new (place_in c.args.first.now) (place_in c.insert.new.self) c.args.name.now c.args.place (λ q. c.in_ok-insert.ensures.updates.0 (at q)) (sym c.contains_key.ensures ∙ c.if-not-contains_key.true)
