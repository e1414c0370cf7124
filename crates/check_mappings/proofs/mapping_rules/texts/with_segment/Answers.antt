use Rattle.std.proofs.Common.{ℕ, List, [], ◌∷◌, ◌++◌, decimal}
use Rattle.std.specs.Option.{option_map_or}
use Rattle.std.proofs.lemmas.Result.{IfOk-weaker}
use Rattle.check_mappings.specs.mapping_rules.Rules.{further}
use Rattle.check_mappings.specs.mapping_rules.TextTrees.{text_in, Numbers}
use Rattle.check_mappings.proofs.mapping_rules.Paths.{segment_made}
use Rattle.check_mappings.proofs.mapping_rules.texts.with_segment.Goals as goal

pub returns : goal.returns
returns c =
    let rest : List ℕ = option_map_or (λ i. 58 ∷ decimal i) c.args.segment.now.index [] in
    IfOk-weaker c.with_index.result (λ n. Numbers c.longer_by.new.self c.with_index.new.texts n (text_in c.longer_by.new.self c.in_ok-name.name ++ rest)) (λ n. Numbers c.args.texts.now c.with_index.new.texts n (text_in c.args.texts.now c.args.text ++ further c.args.segment.now))
    (λ n h. rw (← c.as_bytes.ensures) (segment_made (text_in c.args.texts.now c.args.text) c.as_bytes.result.now rest c.in_ok-slash.ensures c.in_ok-name.ensures h)) c.with_index.ensures
