-- Which texts are those of models that keep all rules and whose wiring and charts have no fault, as what they run, and why others don't.
-- `IsModel`: the text is that of a model which runs as this plant. It is short enough, it has
-- tokens, a tree has their values and breaks none of the rules on bases; with its bases' parts in each
-- actor class, the tree keeps all other rules, it has a wiring without a fault and charts; and the plant
-- has its wiring, and for each actor class the tables that show its chart.
use Rattle.std.specs.Prelude.{◌≡◌, ℕ, ◌<◌, ◌≤◌, List, [], length, Option, Some, None}
use Rattle.room_lexer.specs.Cut.{Piece, CutTo, placed, FailsAt}
use Rattle.room_lexer.specs.declared.piece.Cause.{Cause}
use Rattle.room_lexer.specs.declared.token.Token.{Token}
use Rattle.room_ast.specs.Trees.{ModelTree}
use Rattle.room_ast.specs.Tokens.{model_tokens}
use Rattle.room_tokens.specs.Single.{values}
use Rattle.room_parser.specs.Parsed.{HasNoModel}
use Rattle.room_inherit.specs.Flat.{flat}
use Rattle.room_inherit.specs.Rules.{lowest_broken}
use Rattle.room_inherit.specs.BaseRules.{number_of as number_of_base}
use Rattle.room_inherit.specs.declared.base_rule.BaseRule.{BaseRule}
use Rattle.structure_check.specs.Rules.{first_broken, IsLowest}
use Rattle.structure_check.specs.List.{all_rules, rule_of}
use Rattle.structure_check.specs.declared.flat_rule.FlatRule.{FlatRule}
use Rattle.chart_model.specs.Chart.{Chart}
use Rattle.chart_reader.specs.model_charts.Charts.{HasCharts, HasFaultyChart}
use Rattle.chart_reader.specs.declared.fault.ChartFault.{ChartFault}
use Rattle.room_wiring.specs.declared.tables.Tables.{Tables}
use Rattle.binding_expand.specs.Wirings.{IsWiringOf}
use Rattle.binding_expand.specs.Faults.{HasNoFault, IsLowestFault}
use Rattle.binding_expand.specs.declared.fault.WiringFault.{WiringFault}
use Rattle.law_charts.specs.Charts.{ShowCharts}
use Rattle.controller_actors.specs.declared.plant.Plant.{Plant}
use Rattle.room_run.specs.declared.model_fault.ModelFault.{ModelFault}
use Rattle.room_run.specs.declared.model_fault.ModelFault.TheVariants as faults

-- the most bytes of a text
abbrev pub most_bytes : ℕ
most_bytes = 1048576

-- the text is cut into pieces, and these are the tokens among them
pub record HasTokens (text : List ℕ) (tokens : List Token) : Type 0 where
  pub pieces : List Piece
  pub cut : CutTo text pieces []
  pub placed : tokens ≡ placed 0 pieces

-- the text is written so: its tokens have the values of this tree
pub record IsWritten (text : List ℕ) (written : ModelTree) : Type 0 where
  pub tokens : List Token
  pub cut : HasTokens text tokens
  pub spelled : model_tokens written ≡ values text tokens

-- the tree of the text: what is written breaks none of the rules on bases, and this is the same with each
-- actor class replaced by its flat one, which has all that it has from its bases
pub record HasTree (text : List ℕ) (tree : ModelTree) : Type 0 where
  pub written : ModelTree
  pub is : IsWritten text written
  pub allowed : lowest_broken written ≡ None
  pub flat_is : tree ≡ flat written

-- this is the wiring of this model, which has no fault
pub record IsGoodWiring (tree : ModelTree) (wiring : Tables) : Type 0 where
  pub wired : IsWiringOf tree wiring
  pub flawless : HasNoFault tree

-- the tree is that of a model which keeps all rules, this is its wiring, which has no fault, and these are the charts of its actor classes, none of which has a fault
pub record IsSoundTree (tree : ModelTree) (wiring : Tables) (charts : List (Option Chart)) : Type 0 where
  pub keeps : first_broken all_rules tree ≡ None
  pub wired : IsGoodWiring tree wiring
  pub faultless : HasCharts tree charts

-- the text is that of such a model, with this wiring and these charts
pub record IsSoundText (text : List ℕ) (wiring : Tables) (charts : List (Option Chart)) : Type 0 where
  pub short : length text ≤ most_bytes
  pub tree : ModelTree
  pub read : HasTree text tree
  pub sound : IsSoundTree tree wiring charts

-- the text is that of a model which keeps all rules and whose charts have no fault, and this is its wiring
pub record IsSound (text : List ℕ) (wiring : Tables) : Type 0 where
  pub charts : List (Option Chart)
  pub is : IsSoundText text wiring charts

-- the text is that of such a model; the plant has its wiring, and for each actor class the tables that show its chart
pub record IsModel (text : List ℕ) (plant : Plant) : Type 0 where
  pub charts : List (Option Chart)
  pub is : IsSoundText text plant.wiring charts
  pub tables : ShowCharts plant.tables.items charts

-- the text can't be cut at this byte of it, before which it can
pub record IsUncut (text : List ℕ) (offset : ℕ) : Type 0 where
  pub short : length text ≤ most_bytes
  pub within : offset < length text
  pub cause : Cause
  pub fails : FailsAt cause offset text

-- the text has tokens, and no tree has their values
pub record HasNoTree (text : List ℕ) : Type 0 where
  pub short : length text ≤ most_bytes
  pub tokens : List Token
  pub cut : HasTokens text tokens
  pub none : HasNoModel (values text tokens)

-- what is written breaks this rule on bases, and none of a lower number; these rules are told before all others
pub record BreaksBaseRule (text : List ℕ) (rule : BaseRule) : Type 0 where
  pub short : length text ≤ most_bytes
  pub written : ModelTree
  pub is : IsWritten text written
  pub lowest : lowest_broken written ≡ Some (number_of_base rule)

-- the text has a tree that breaks this rule, and none of a lower number
pub record BreaksRule (text : List ℕ) (rule : FlatRule) : Type 0 where
  pub short : length text ≤ most_bytes
  pub tree : ModelTree
  pub read : HasTree text tree
  pub lowest : IsLowest all_rules tree (Some (rule_of rule).number)

-- the text has a tree that keeps all rules, and this is the lowest fault of its wiring
pub record HasBadWiring (text : List ℕ) (fault : WiringFault) : Type 0 where
  pub short : length text ≤ most_bytes
  pub tree : ModelTree
  pub read : HasTree text tree
  pub keeps : first_broken all_rules tree ≡ None
  pub lowest : IsLowestFault tree fault

-- the text has a tree that keeps all rules and has a wiring, and the actor class of this name is the first whose chart has a fault, of which this is the lowest
pub record HasBadChart (text : List ℕ) (class : List ℕ) (fault : ChartFault) : Type 0 where
  pub short : length text ≤ most_bytes
  pub tree : ModelTree
  pub read : HasTree text tree
  pub keeps : first_broken all_rules tree ≡ None
  pub wiring : Tables
  pub wired : IsGoodWiring tree wiring
  pub first : HasFaultyChart tree class fault

-- Why a text may be refused as that of a model which keeps all rules and whose wiring and charts have
-- no fault. The order is: the cut, the tree, the rules on bases, the other rules, each in order of their
-- numbers, the wiring, the charts of the actor classes in order of declaration.
pub data SoundCauses (text : List ℕ) : ModelFault → Type 0 where
  uncut : (offset : ℕ) → IsUncut text offset → SoundCauses text (faults.Byte offset)
  no_tree : (line : ℕ) → HasNoTree text → SoundCauses text (faults.Syntax line)
  breaks_base_rule : (rule : BaseRule) → BreaksBaseRule text rule → SoundCauses text (faults.Bases rule)
  breaks_rule : (rule : FlatRule) → BreaksRule text rule → SoundCauses text (faults.Rule rule)
  bad_wiring : (fault : WiringFault) → HasBadWiring text fault → SoundCauses text (faults.Wiring fault)
  bad_chart : (class : List ℕ) (fault : ChartFault) → HasBadChart text class fault → SoundCauses text (faults.Chart class fault)
  no_memory : SoundCauses text faults.Memory
