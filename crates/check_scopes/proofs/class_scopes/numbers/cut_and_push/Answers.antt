use Rattle.std.proofs.Common.{ℕ, List, Bor}
use Rattle.check_scopes.proofs.class_scopes.Lists.{taken_push}
use Rattle.check_scopes.proofs.class_scopes.numbers.cut_and_push.Goals as goal

pub returns : goal.returns
returns c = taken_push (λ (r : Bor (List ℕ)). r.now) c.args.path.now.items c.truncate.new.self.items c.push.new.self.items c.args.before c.args.name c.truncate.ensures.items c.in_ok-push.ensures.items
