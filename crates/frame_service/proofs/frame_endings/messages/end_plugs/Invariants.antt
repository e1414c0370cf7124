use Rattle.std.proofs.Common.{◌≡◌, ◌++◌, drop}
use Rattle.actor_duties.specs.Imports.{ended_plugs}
use Rattle.frame_service.proofs.frame_endings.messages.end_plugs.Given as goal

abbrev pub invariant-loop-plug : goal.invariant-loop-plug
invariant-loop-plug l = l.initial.out ++ ended_plugs l.site.wiring.now l.site.me.0 l.actor l.plugs ≡ l.out ++ ended_plugs l.site.wiring.now l.site.me.0 l.actor (drop l.plug-index l.plugs)
