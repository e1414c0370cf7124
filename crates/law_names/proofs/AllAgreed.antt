-- Where all is quiet, all controllers agree.
use Rattle.std.proofs.Common.{ℕ, List}
use Rattle.journal.specs.declared.entry.Entry.{Entry}
use Rattle.room_wiring.specs.declared.tables.Tables.{Tables}
use Rattle.actor_merge.specs.Parties.{Line}
use Rattle.actor_merge.specs.World.{World, Placed, IsQuiet}
use Rattle.actor_merge.specs.History.{IsLawful}
use Rattle.actor_world.specs.Behaviour.{Behaviour}
use Rattle.actor_world.specs.Body.{Body}
use Rattle.actor_world.specs.Start.{plant_of}
use Rattle.actor_world.specs.Agreed.{DirectoriesAgree, ImportsAgree, LinksAgree, IsAgreed}
use Rattle.law_agreement.specs.Trails.{RunsTo}
use Rattle.law_agreement.specs.Mutual.{IsOrderly}
use Rattle.law_agreement.proofs.Agreeing.{runs_foretell, quiet_agree}
use Rattle.law_agreement.proofs.Parting.{runs_whole}
use Rattle.law_agreement.proofs.Keeping.{runs_lend_so, living_alone}
use Rattle.law_agreement.proofs.Fitting.{runs_fit}
use Rattle.law_agreement.proofs.Holding.{quiet_imports}
use Rattle.law_agreement.proofs.Settling.{same_quiet}
use Rattle.law_agreement.proofs.Mutual.{peers_mutual}
use Rattle.law_agreement.proofs.Alike.{agreed_alike}
use Rattle.law_names.specs.Agreed.{Settles}
use Rattle.law_names.proofs.LinkLaws.{runs_sound, names_agree}
use Rattle.law_names.proofs.Quiet.{quiet_registrations}
use Rattle.law_names.proofs.Unjoined.{runs_unnamed}
use Rattle.law_names.proofs.FreePlaces.{links_free}

module _ {M : Type 0} (model : Behaviour M) (t : Tables) (lines : List Line) (h : Settles model t lines) where
  module _ (xs : List Placed) (end : World (Body M)) (r : RunsTo model t lines xs end) (quiet : IsQuiet (plant_of model t lines) end) where
    orderly : IsOrderly t end
    orderly =
        record {
          lives = λ c.
              let whole = (runs_whole model h.clear t h.first lines h.clear_lines xs end r).whole c in
              record { homes = whole.homes; counted = whole.sound.created };
          living = λ c. living_alone model h.clear t lines (end.controllers c).body.frame (runs_lend_so model h.clear t lines xs end r c);
          lent = λ c. runs_fit t model h.clear lines h.clear_lines xs end r c;
          linked =
              links_free t end (runs_sound model t lines h.clear h.clear_lines h.points xs end r)
              (quiet_registrations model h.clear t h.points lines h.clear_lines h.owners xs end r quiet)
              (runs_unnamed model h.clear t lines xs end r);
        }

    pub quiet_agreed : IsAgreed t end
    quiet_agreed =
        let directories : DirectoriesAgree t end = quiet_agree model h.clear t lines h.clear_lines end (runs_foretell model h.clear t lines h.clear_lines xs end r) quiet in
        let imports : ImportsAgree t end = quiet_imports model h.clear t lines h.clear_lines h.local h.partners.contained xs end r h.owners quiet in
        let links : LinksAgree t end = names_agree model t lines h.clear h.clear_lines h.points h.owners xs end r quiet in
        record {
          directories = directories;
          imports = imports;
          links = links;
          peers = peers_mutual t end h.partners h.owners h.local orderly directories imports links;
        }

  pub lawful_agreed : (events : ℕ → List Entry) (w : World (Body M)) → IsLawful (plant_of model t lines) events w → IsQuiet (plant_of model t lines) w → IsAgreed t w
  lawful_agreed events w lawful quiet =
      agreed_alike t h.owners lawful.end w lawful.same.controllers
      (quiet_agreed lawful.merge lawful.end lawful.run (same_quiet model t lines lawful.end w lawful.same quiet))
