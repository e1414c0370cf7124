-- What is so of each world that a run of a model leads to, and what is agreed where it is quiet.
use Rattle.std.proofs.Common.{List, Option, subst}
use Rattle.room_wiring.specs.declared.tables.Tables.{Tables}
use Rattle.chart_run.specs.declared.chart_tables.tables.Tables.{Tables as ChartTables}
use Rattle.chart_behaviour.specs.ModelCharts.{Actor, behaviour_of}
use Rattle.chart_behaviour.proofs.Charts.{are_modest, are_open}
use Rattle.chart_behaviour.proofs.chart_defers.Defers.{tell_defers}
use Rattle.actor_merge.specs.Parties.{Line}
use Rattle.actor_world.specs.Behaviour.{Behaviour}
use Rattle.actor_world.specs.Directories.{IsOpen, AreOpen}
use Rattle.actor_world.proofs.DirectoriesLaw.{tell_created}
use Rattle.actor_world.proofs.RunsLaw.{runs_tell}
use Rattle.actor_world.proofs.world_laws.Standing.{run_stands}
use Rattle.law_agreement.specs.Imports.{OwnersAreThere}
use Rattle.law_agreement.proofs.Agreeing.{quiet_agree}
use Rattle.law_agreement.proofs.Parting.{IsWholeWorld, runs_whole, quiet_bodies, containers_live}
use Rattle.law_agreement.specs.Trails.{RunsTo}
use Rattle.service_messages.specs.slot_runs.Runs.{IsDepthFirst}
use Rattle.law_names.specs.Agreed.{Settles}
use Rattle.law_names.proofs.AllAgreed.{quiet_agreed}
use Rattle.law_models.specs.quiet_worlds.Worlds.{HasModel, ModelWorldsStand, QuietModelWorldsAgree, QuietModelWorldsAreAgreed}
use Rattle.law_models.proofs.quiet_worlds.Dispatched.{was_for}
use Rattle.law_models.proofs.settled_models.Kept.{model_others_live}
use Rattle.law_models.proofs.settled_models.Models.{models_open}
use Rattle.law_models.proofs.settled_models.Mutual.{model_mutual}
use Rattle.law_models.proofs.settled_models.Owners.{owners_there, places_local}
use Rattle.law_models.proofs.settled_models.Registers.{registers_points}
use Rattle.law_models.proofs.wiring_laws.wiring_order.Ordered.{model_depth_first}

module _ (t : Tables) (classes : List (Option ChartTables)) (lines : List Line) (h : HasModel t classes) (open_lines : AreOpen lines) where
  abbrev actors : Behaviour Actor
  actors = behaviour_of t classes

  owners : OwnersAreThere t
  owners = owners_there h.model t h.keeps h.wired h.flawless

  sends_openly : IsOpen actors
  sends_openly = are_open t classes (λ k v e. let shown = h.compiled k v e in models_open h.model h.charts h.faultless k shown.0 v shown.1 shown.2)

  pub settles : Settles actors t lines
  settles = record {
    clear = sends_openly;
    clear_lines = open_lines;
    points = registers_points h.model t h.charts classes h.keeps h.wired h.flawless h.faultless h.compiled;
    first = model_depth_first h.model t h.wired.slots;
    owners = owners;
    local = places_local h.model t h.wired.slots;
    partners = model_mutual h.model t h.keeps h.wired h.flawless;
  }

pub worlds_stand : ModelWorldsStand
worlds_stand t classes lines h open_lines xs w run = record {
  lives = λ c below x. runs_tell (behaviour_of t classes) t lines (are_modest t classes) xs w run c below x;
  dispatches = λ before after c stamp from sent what ns x below same to.
      was_for (behaviour_of t classes) t lines (are_modest t classes) before after w c stamp from sent what ns x below
      (subst (λ ys. RunsTo (behaviour_of t classes) t lines ys w) same run) to;
  directories = λ d s g told some.
      tell_created (behaviour_of t classes) (are_modest t classes) (sends_openly t classes lines h open_lines) t lines open_lines xs w run
      d s g (owners t classes lines h open_lines s) told some;
  places = (run_stands (behaviour_of t classes) t lines (are_modest t classes) (tell_defers t classes) xs w run);
}

pub quiet_lives : QuietModelWorldsAgree
quiet_lives t classes lines h open_lines xs w run quiet =
    let actors : Behaviour Actor = behaviour_of t classes in
    let clear : IsOpen actors = sends_openly t classes lines h open_lines in
    let first : IsDepthFirst t = model_depth_first h.model t h.wired.slots in
    let inv : IsWholeWorld t w = runs_whole actors clear t first lines open_lines xs w run in
    record {
      directories = quiet_agree actors clear t lines open_lines w inv.told quiet;
      bodies = λ o s body. quiet_bodies actors clear t first lines open_lines w inv quiet o s body (owners t classes lines h open_lines s);
      containers = containers_live actors clear t first lines open_lines (model_others_live h.model t h.keeps h.wired.slots) w inv;
    }

pub quiet_all : QuietModelWorldsAreAgreed
quiet_all t classes lines h open_lines xs w run quiet = quiet_agreed (behaviour_of t classes) t lines (settles t classes lines h open_lines) xs w run quiet
