use Rattle.check_scopes.proofs.class_scopes.ScopeLaws.{all_made}
use Rattle.check_scopes.proofs.class_scopes.scopes.scopes_by.Goals as goal

pub returns : goal.returns
returns c = all_made _ _ c.loop-classes.classes.now c.loop-classes.containers.now c.loop-classes.scopes.items _ c.in_default.len_below c.loop-classes.invariant.0
