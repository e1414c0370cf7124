-- In the wiring of a model that keeps all rules an optional slot below another optional slot is owned by
-- the controller of its container, since no mapped path may end there; so the container of one that
-- another controller owns lives from the start.
use Rattle.std.specs.Prelude.{◌≡◌, None}
use Rattle.room_ast.specs.Trees.{ModelTree}
use Rattle.room_wiring.specs.declared.tables.Tables.{Tables}
use Rattle.structure_check.specs.List.{all_rules}
use Rattle.structure_check.specs.Rules.{first_broken}
use Rattle.wiring_slots.specs.model_slots.Answers.{slots_in}
use Rattle.law_agreement.specs.Bodies.{OthersLiveFromStart}

-- over every model that keeps all rules, and tables with its slots
abbrev pub OthersLive : Type 0
OthersLive = (m : ModelTree) (t : Tables) → first_broken all_rules m ≡ None → t.slots ≡ slots_in m → OthersLiveFromStart t
