-- Worlds of plants that fit.
use Rattle.controller_actors.specs.declared.plant.Plant.{Plant}
use Rattle.model_run.specs.part_posts.Items.{items_of}
use Rattle.actor_world.specs.Journals.{lines_of}
use Rattle.law_models.specs.quiet_worlds.Worlds.{HasModel}
use Rattle.law_models.proofs.quiet_worlds.Worlds.{worlds_stand, quiet_lives, quiet_all}
use Rattle.room_run.specs.fitting_plants.Plants.{PlantFits}
use Rattle.room_run.specs.fitting_plants.Worlds.{FittingWorldsStand, QuietFittingWorldsAgree}
use Rattle.room_run.proofs.fitting_plants.Lines.{lines_open}
use Rattle.room_run.proofs.settled.Compiled.{all_compiled}

has_model : (plant : Plant) → PlantFits plant → HasModel plant.wiring plant.tables.items
has_model plant fits = record {
  model = fits.model;
  keeps = fits.keeps;
  wired = fits.wired;
  flawless = fits.flawless;
  charts = fits.charts;
  faultless = fits.faultless;
  compiled = all_compiled plant.tables.items fits.charts fits.tables;
}

pub worlds_stand_so : FittingWorldsStand
worlds_stand_so plant lines fits fit xs w run =
    worlds_stand plant.wiring plant.tables.items (lines_of (items_of plant.wiring lines)) (has_model plant fits) (lines_open plant.wiring lines fit) xs w run

pub quiet_worlds_agree : QuietFittingWorldsAgree
quiet_worlds_agree plant lines fits fit xs w run quiet = record {
  lives = quiet_lives plant.wiring plant.tables.items (lines_of (items_of plant.wiring lines)) (has_model plant fits) (lines_open plant.wiring lines fit) xs w run quiet;
  agreed = quiet_all plant.wiring plant.tables.items (lines_of (items_of plant.wiring lines)) (has_model plant fits) (lines_open plant.wiring lines fit) xs w run quiet;
}
