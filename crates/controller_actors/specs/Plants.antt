-- The plants on which controllers run, and what their actors do.
use Rattle.actor_world.specs.Behaviour.{Behaviour}
use Rattle.chart_behaviour.specs.ModelCharts.{Actor, behaviour_of}
use Rattle.controller_actors.specs.PlantParts.{AreOfPlant}
use Rattle.controller_actors.specs.declared.plant.Plant.{Plant}

-- what the actors of a plant do
abbrev pub model_of : Plant → Behaviour Actor
model_of p = behaviour_of p.wiring p.tables.items

-- a plant on which controllers run, as each is
abbrev pub IsPlant : Plant → Type 0
IsPlant p = AreOfPlant p.wiring p.tables.items
