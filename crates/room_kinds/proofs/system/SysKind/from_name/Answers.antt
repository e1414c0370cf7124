use Rattle.std.proofs.Common.{rules, ◌∙◌}
use Rattle.std.specs.Prelude.{nat_eq}
use Rattle.std.proofs.lemmas.Iterator.{YieldsList-from_slice}
use Rattle.std.proofs.lemmas.Iterator.Search.{find_from_yields_List}
use borrow.Author.Tests.{tests}
use lib.Pointwise.{pointwise}
use Rattle.room_kinds.specs.Names.{all_kinds, name_of, kind_named}
use Rattle.room_kinds.proofs.KindNames.{name_back}
use Rattle.room_kinds.proofs.system.SysKind.from_name.Goals as goal

pub returns-clause-kind : goal.returns-clause-kind
unfolding kind_named
returns-clause-kind c = c.copied.ensures ∙ find_from_yields_List (λ kind. pointwise nat_eq (name_of kind) c.args.name.now) _ _ _ c.find.ensures.ran (YieldsList-from_slice all_kinds cc) (λ x b q k. search (rules, tests))

pub returns-clause-back : goal.returns-clause-back
returns-clause-back c kind h = returns-clause-kind c ∙ name_back kind _ h
