use Rattle.room_run.proofs.model_plants.plants.plant_of.Goals as goal

pub new-requires : goal.new-requires
new-requires c = (c.requires.plant c.in_ok-tables.tables.items c.in_ok-tables.ensures).order
