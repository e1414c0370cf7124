-- A world in which all controllers agree: on which actors live, what directories tell of them, which imports
-- hold, who is linked by name, and who is whose peer.
use Rattle.room_wiring.specs.declared.tables.Tables.{Tables}
use Rattle.actor_merge.specs.World.{World}
use Rattle.actor_world.specs.Agreed.{IsAgreed}
use Rattle.actor_world.specs.Body.{Body}
use Rattle.chart_behaviour.specs.ModelCharts.{Actor}
use Rattle.law_agreement.specs.Settled.{LivesAgree}

pub record AllAgree (t : Tables) (w : World (Body Actor)) : Type 0 where
  pub lives : LivesAgree t w
  pub agreed : IsAgreed t w
