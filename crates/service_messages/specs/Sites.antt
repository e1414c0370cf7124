-- Where a service stands.
use Rattle.service_messages.specs.declared.site.Site.{Site}
use Rattle.service_messages.specs.slot_runs.Runs.{IsDepthFirst, AreRunEnds}

-- the slots of a wiring are numbered depth first, and its runs end where they are said to
pub record IsSite (s : Site) : Type 0 where
  pub order : IsDepthFirst s.wiring.now
  pub runs : AreRunEnds s.wiring.now s.runs.now
