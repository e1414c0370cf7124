use Rattle.std.proofs.Common.{◌≡◌, ◌≤◌, ◌++◌, ◌∷◌, [], ℕ, List, length, ap, sym, subst, ◌∙◌}
use Rattle.action_lang.specs.action_check.ServiceNames.{texts, number_of}
use Rattle.action_lang.proofs.action_check.Known.{added_last}
use Rattle.action_lang.proofs.action_check.names.add.Goals as goal

pub returns-clause-added : goal.returns-clause-added
returns-clause-added c =
    let keys = c.args.known.now.keys in
    let name = c.in_ok-name.name in
    let e : name.items ≡ c.args.name.now = c.in_ok-name.ensures.items in
    let new : length (texts keys) ≤ number_of (texts keys) name.items = subst (λ (n : List ℕ). length (texts keys) ≤ number_of (texts keys) n) (sym e) c.requires in
    ap texts c.in_ok-insert.ensures.keys ∙ added_last keys name new ∙ ap (λ (n : List ℕ). texts keys ++ n ∷ []) e
