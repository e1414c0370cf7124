-- What is known of tokens and trees that were read from a text.
use Rattle.std.specs.Prelude.{◌≡◌, ℕ, List, Some, None}
use Rattle.room_lexer.specs.declared.token.Token.{Token}
use Rattle.room_ast.specs.Trees.{ModelTree, model_view}
use Rattle.room_ast.specs.Tokens.{model_tokens}
use Rattle.room_tokens.specs.Single.{values}
use Rattle.room_tokens.specs.token_names.Names.{HasNames}
use Rattle.structure_check.specs.Rules.{first_broken, IsLowest}
use Rattle.structure_check.specs.List.{all_rules, rule_of}
use Rattle.structure_check.specs.declared.flat_rule.FlatRule.{FlatRule}
use Rattle.structure_check.specs.Classes.{HasClasses}
use Rattle.structure_check.specs.declared.checked_model.Checked.{Checked}
use Rattle.room_wiring.specs.declared.tables.Tables.{Tables}
use Rattle.binding_expand.specs.Faults.{IsLowestFault}
use Rattle.binding_expand.specs.declared.fault.WiringFault.{WiringFault}
use Rattle.chart_reader.specs.model_charts.Charts.{HasFaultyChart}
use Rattle.chart_reader.specs.declared.fault.ChartFault.{ChartFault}
use Rattle.room_run.specs.Models.{HasTokens, IsWritten, HasTree, IsGoodWiring}
use Rattle.room_run.specs.declared.model_fault.ModelFault.{ModelFault}
use Rattle.room_run.specs.declared.model_fault.ModelFault.TheVariants as faults

-- the text has these tokens and no others, and their names are names of the language
pub record HasItsTokens (text : List ℕ) (tokens : List Token) : Type 0 where
  pub has : HasTokens text tokens
  pub only : (others : List Token) → HasTokens text others → others ≡ tokens
  pub names : HasNames (values text tokens)

-- the text is written so and not otherwise, and its names are names of the language
pub record IsWrittenOnce (text : List ℕ) (written : ModelTree) : Type 0 where
  pub is : IsWritten text written
  pub only : (other : ModelTree) → IsWritten text other → other ≡ written
  pub names : HasNames (model_tokens written)

-- the text has this tree and no other, and its names are names of the language
pub record HasItsTree (text : List ℕ) (tree : ModelTree) : Type 0 where
  pub has : HasTree text tree
  pub only : (other : ModelTree) → HasTree text other → other ≡ tree
  pub names : HasNames (model_tokens tree)

-- the tree keeps all rules, and this is what was kept of it when they were checked
pub record IsCheckedFor (tree : ModelTree) (checked : Checked) : Type 0 where
  pub keeps : first_broken all_rules tree ≡ None
  pub model : model_view checked.model.now ≡ tree
  pub classes : HasClasses checked

-- why the charts of a tree may be refused: the first that has a fault, or want of memory
pub data ChartCauses (tree : ModelTree) : ModelFault → Type 0 where
  first_faulty : (class : List ℕ) (fault : ChartFault) → HasFaultyChart tree class fault → ChartCauses tree (faults.Chart class fault)
  no_memory_for_charts : ChartCauses tree faults.Memory

-- why a tree may be refused: the lowest rule that it breaks; where it keeps all rules, the lowest fault of its wiring; where it has a wiring, the first chart that has a fault; or want of memory
pub data TreeCauses (tree : ModelTree) : ModelFault → Type 0 where
  breaks : (rule : FlatRule) → IsLowest all_rules tree (Some (rule_of rule).number) → TreeCauses tree (faults.Rule rule)
  miswired : (fault : WiringFault) → first_broken all_rules tree ≡ None → IsLowestFault tree fault → TreeCauses tree (faults.Wiring fault)
  faulty : {why : ModelFault} (wiring : Tables) → first_broken all_rules tree ≡ None → IsGoodWiring tree wiring → ChartCauses tree why → TreeCauses tree why
  no_memory_for_tree : TreeCauses tree faults.Memory
