-- What was read from a text, and what it says of the text.
use Rattle.std.proofs.Common.{◌≡◌, ℕ, ◌≤◌, List, [], length, Option, Some, None, Result, Ok, Err, refl, sym, ap, ◌∙◌, subst, arith}
use Rattle.room_lexer.specs.Cut.{Piece, CutTo, placed, FailsAt}
use Rattle.room_lexer.specs.Cutting.{Gives, tokens as lexed, fault_at}
use Rattle.room_lexer.specs.declared.piece.Cause.{Cause}
use Rattle.room_lexer.specs.declared.piece.Cause.TheVariants.{BadByte, OpenString, OpenComment, NumberTooLarge}
use Rattle.room_lexer.specs.declared.fault.LexFault.{LexFault}
use Rattle.room_lexer.specs.declared.token.Token.{Token}
use Rattle.room_ast.specs.Trees.{ModelTree}
use Rattle.room_ast.specs.Tokens.{model_tokens}
use Rattle.room_inherit.specs.Flat.{flat}
use Rattle.room_inherit.specs.Flattening.{IsFlattened}
use Rattle.room_inherit.specs.Rules.{lowest_broken}
use Rattle.room_inherit.specs.BaseRules.{number_of as number_of_base}
use Rattle.room_inherit.specs.declared.base_rule.BaseRule.{BaseRule}
use Rattle.room_inherit.specs.declared.fault.InheritFault.{InheritFault}
use Rattle.room_inherit.specs.declared.fault.InheritFault.TheVariants as bases
use Rattle.room_inherit.proofs.NamesLaw.{names_stay}
use Rattle.room_tokens.specs.Single.{values}
use Rattle.room_tokens.specs.token_names.Names.{HasNames}
use Rattle.room_tokens.proofs.token_names.NamesLaw.{named as tokens_named}
use Rattle.room_ast.specs.Values.{TokenValue}
use Rattle.room_parser.specs.Parsed.{HasNoModel, IsOnlyModel, IsParsed}
use Rattle.room_parser.specs.declared.fault.ParseFault.{ParseFault}
use Rattle.room_parser.specs.declared.fault.ParseFault.TheVariants as parsing
use Rattle.law_charts.specs.Charts.{ShowCharts}
use Rattle.law_models.proofs.wiring_laws.wiring_order.Ordered.{model_depth_first}
use Rattle.law_models.proofs.wiring_laws.ports_numbered.Numbered.{checked_numbered}
use Rattle.chart_run.specs.declared.chart_tables.tables.Tables.{Tables as ChartTables}
use Rattle.controller_actors.specs.PlantParts.{AreOfPlant}
use Rattle.law_models.proofs.settled_models.Models.{models_ranked}
use Rattle.law_models.proofs.settled_models.Wired.{wiring_consistent}
use Rattle.law_models.proofs.settled_models.Controllers.{controllers_few}
use Rattle.room_run.proofs.model_plants.Tabled.{all_sound}
use Rattle.room_run.proofs.settled.Compiled.{all_compiled}
use Rattle.structure_check.specs.Rules.{first_broken, IsLowest}
use Rattle.structure_check.specs.List.{rule_of, all_rules}
use Rattle.structure_check.specs.declared.flat_rule.FlatRule.{FlatRule}
use Rattle.structure_check.specs.Checks.{TellsLowest}
use Rattle.structure_check.specs.declared.fault.CheckFault.{CheckFault}
use Rattle.structure_check.specs.declared.fault.CheckFault.TheVariants as check_faults
use Rattle.chart_model.specs.Chart.{Chart}
use Rattle.chart_reader.specs.declared.fault.ChartFault.{ChartFault}
use Rattle.chart_reader.specs.model_charts.Charts.{HasFaultyChart}
use Rattle.chart_reader.specs.model_charts.Reads.{ReadsCharts}
use Rattle.chart_reader.specs.declared.model_charts.fault.ChartsFault.{ChartsFault}
use Rattle.chart_reader.specs.declared.model_charts.fault.ChartsFault.TheVariants as chart_faults
use Rattle.room_wiring.specs.declared.tables.Tables.{Tables}
use Rattle.binding_expand.specs.Answers.{Expands}
use Rattle.binding_expand.specs.Faults.{IsLowestFault}
use Rattle.binding_expand.specs.declared.fault.WiringFault.{WiringFault}
use Rattle.binding_expand.specs.declared.fault.ExpandFault.{ExpandFault}
use Rattle.binding_expand.specs.declared.fault.ExpandFault.TheVariants as expand_faults
use Rattle.room_run.proofs.OneCut.{fails_within}
use Rattle.room_run.specs.Models.{most_bytes, IsSoundTree, IsSoundText, IsGoodWiring, SoundCauses, uncut, no_tree, breaks_base_rule, breaks_rule, bad_wiring, bad_chart, no_memory}
use Rattle.room_run.specs.Reading.{HasItsTokens, IsWrittenOnce, HasItsTree, ChartCauses, first_faulty, no_memory_for_charts, TreeCauses, breaks, miswired, faulty, no_memory_for_tree}
use Rattle.room_run.specs.declared.model_fault.ModelFault.{ModelFault}
use Rattle.room_run.specs.declared.model_fault.ModelFault.TheVariants as faults

-- ---- tokens

ok_is : (ts us : List Token) → ◌≡◌ {A = Result (List Token) LexFault} (Ok ts) (Ok us) → ts ≡ us
ok_is ts us e = cc

-- the tokens of a cut, of which no other cut has others
pub tokens_found : (text : List ℕ) (tokens : List Token) (ps : List Piece) → CutTo text ps [] → tokens ≡ placed 0 ps → ((qs : List Piece) → CutTo text qs [] → ◌≡◌ {A = Result (List Token) LexFault} (Ok (placed 0 qs)) (Ok tokens)) → HasItsTokens text tokens
tokens_found text tokens ps cut is only = record {
  has = record { pieces = ps; cut = cut; placed = is };
  only = λ others h. h.placed ∙ ok_is (placed 0 h.pieces) tokens (only h.pieces h.cut);
  names = subst (λ ts. HasNames (values text ts)) (sym is) (tokens_named text ps cut);
}

-- a fault that was returned is the one that is read
fault_read : (e : LexFault) (cause : Cause) (offset : ℕ) (read : Result (List Token) LexFault) → e ≡ fault_at cause offset → Gives (Err e) read
    → read ≡ Err (fault_at cause offset)
fault_read e cause offset read is h = by_cause cause (subst (λ (z : LexFault). Gives (Err z) read) is h)
  where
    by_cause : (c : Cause) → Gives (Err (fault_at c offset)) read → read ≡ Err (fault_at c offset)
    by_cause BadByte k = k
    by_cause OpenString k = k
    by_cause OpenComment k = k
    by_cause NumberTooLarge k = k

pub cut_fails : (text : List ℕ) (cause : Cause) (offset : ℕ) (e : LexFault) → length text ≤ most_bytes → e ≡ fault_at cause offset → Gives (Err e) (lexed text)
    → FailsAt cause offset text → SoundCauses text (faults.Byte offset)
cut_fails text cause offset e short is read fails =
    uncut offset (record { short = short; within = fails_within text cause offset (fault_read e cause offset (lexed text) is read); cause = cause; fails = fails })

-- ---- the tree

-- the one tree of the tokens is what is written in the text
pub tree_found : (text : List ℕ) (tokens : List Token) (tree : ModelTree) → HasItsTokens text tokens → IsOnlyModel (values text tokens) tree → IsWrittenOnce text tree
tree_found text tokens tree h one = record {
  is = record { tokens = tokens; cut = h.has; spelled = one.tokens };
  only = λ other k. one.only other (k.spelled ∙ ap (values text) (h.only k.tokens k.cut));
  names = subst HasNames (sym one.tokens) h.names;
}

-- what is written in the text has one tree without bases
pub tree_flat : (text : List ℕ) (written tree : ModelTree) → IsWrittenOnce text written → lowest_broken written ≡ None → tree ≡ flat written → HasItsTree text tree
tree_flat text written tree h allowed is = record {
  has = record { written = written; is = h.is; allowed = allowed; flat_is = is };
  only = λ other k. k.flat_is ∙ ap flat (h.only k.written k.is) ∙ sym is;
  names = subst (λ (m : ModelTree). HasNames (model_tokens m)) (sym is) (names_stay written h.names);
}

-- the lowest rule on bases that is broken was told
pub base_rule_told : (text : List ℕ) (written : ModelTree) (rule : BaseRule) (e : InheritFault) → length text ≤ most_bytes → IsWrittenOnce text written → IsFlattened written (Err e) → e ≡ bases.Rule rule → SoundCauses text (faults.Bases rule)
base_rule_told text written rule (bases.Rule r) short h told is =
    let same : r ≡ rule = cc in
    breaks_base_rule rule (record { short = short; written = written; is = h.is; lowest = subst (λ (z : BaseRule). lowest_broken written ≡ Some (number_of_base z)) same told })
base_rule_told text written rule bases.Memory short h told is = absurd cc

parsed_none : (ts : List TokenValue) (line : ℕ) (e : ParseFault) → IsParsed ts (Err e) → e ≡ parsing.Syntax line → HasNoModel ts
parsed_none ts line (parsing.Syntax other) h is = h
parsed_none ts line parsing.Memory h is = absurd cc

-- the text has no tree
pub no_model : (text : List ℕ) (tokens : List Token) (line : ℕ) (e : ParseFault) → length text ≤ most_bytes → HasItsTokens text tokens → IsParsed (values text tokens) (Err e) → e ≡ parsing.Syntax line → SoundCauses text (faults.Syntax line)
no_model text tokens line e short h parsed is = no_tree line (record { short = short; tokens = tokens; cut = h.has; none = parsed_none (values text tokens) line e parsed is })

-- ---- the rules

rule_lowest : (m : ModelTree) (r : FlatRule) (e : CheckFault) → TellsLowest m (Err e) → e ≡ check_faults.Rule r → IsLowest all_rules m (Some (rule_of r).number)
rule_lowest m r (check_faults.Rule x) h is = let same : x ≡ r = cc in subst (λ (z : FlatRule). IsLowest all_rules m (Some (rule_of z).number)) same h
rule_lowest m r check_faults.Memory h is = absurd cc

-- the lowest rule that is broken was told
pub rule_told : (m : ModelTree) (r : FlatRule) (e : CheckFault) → TellsLowest m (Err e) → e ≡ check_faults.Rule r → TreeCauses m (faults.Rule r)
rule_told m r e h is = breaks r (rule_lowest m r e h is)

-- ---- the wiring

-- what is answered of the wiring
pub wiring_kept : (m : ModelTree) (w : Tables) → Expands m (Ok w) → IsGoodWiring m w
wiring_kept m w h = record { wired = h.0; flawless = h.1 }

-- the lowest fault of the wiring was told
pub wiring_told : (m : ModelTree) (fault : WiringFault) (e : ExpandFault) → first_broken all_rules m ≡ None → Expands m (Err e) → e ≡ expand_faults.Wiring fault → TreeCauses m (faults.Wiring fault)
wiring_told m fault (expand_faults.Wiring f) keeps h is = let same : f ≡ fault = cc in miswired fault keeps (subst (IsLowestFault m) same h)
wiring_told m fault expand_faults.Memory keeps h is = absurd cc

-- ---- the charts

chart_first : (m : ModelTree) (class : List ℕ) (fault : ChartFault) (e : ChartsFault) → ReadsCharts m (Err e) → e ≡ chart_faults.Chart class fault → HasFaultyChart m class fault
chart_first m class fault (chart_faults.Chart c f) h is =
    let same : c ≡ class = cc in let kind : f ≡ fault = cc in
    subst (λ d. HasFaultyChart m d fault) same (subst (λ x. HasFaultyChart m c x) kind h)
chart_first m class fault chart_faults.Memory h is = absurd cc

-- the first class whose chart has a fault was told
pub chart_told : (m : ModelTree) (class : List ℕ) (fault : ChartFault) (e : ChartsFault) → ReadsCharts m (Err e) → e ≡ chart_faults.Chart class fault → ChartCauses m (faults.Chart class fault)
chart_told m class fault e h is = first_faulty class fault (chart_first m class fault e h is)

-- ---- the tree

chart_cause : (text : List ℕ) (tree : ModelTree) (wiring : Tables) {why : ModelFault} → length text ≤ most_bytes → HasItsTree text tree → first_broken all_rules tree ≡ None → IsGoodWiring tree wiring → ChartCauses tree why → SoundCauses text why
chart_cause text tree wiring short h keeps wired (first_faulty class fault e) =
    bad_chart class fault (record { short = short; tree = tree; read = h.has; keeps = keeps; wiring = wiring; wired = wired; first = e })
chart_cause text tree wiring short h keeps wired no_memory_for_charts = no_memory

-- the tree of a text is refused for the same cause as the text
pub tree_cause : (text : List ℕ) (tree : ModelTree) {why : ModelFault} → length text ≤ most_bytes → HasItsTree text tree → TreeCauses tree why → SoundCauses text why
tree_cause text tree short h (breaks r e) = breaks_rule r (record { short = short; tree = tree; read = h.has; lowest = e })
tree_cause text tree short h (miswired fault keeps e) =
    bad_wiring fault (record { short = short; tree = tree; read = h.has; keeps = keeps; lowest = e })
tree_cause text tree short h (faulty wiring keeps wired e) = chart_cause text tree wiring short h keeps wired e
tree_cause text tree short h no_memory_for_tree = no_memory

-- ---- the model

pub text_sound : (text : List ℕ) (tree : ModelTree) (wiring : Tables) (charts : List (Option Chart)) → length text ≤ most_bytes → HasItsTree text tree → IsSoundTree tree wiring charts → IsSoundText text wiring charts
text_sound text tree wiring charts short h sound = record { short = short; tree = tree; read = h.has; sound = sound }

-- tables that show the charts of a sound text make a plant with its wiring
pub plant_parts : (text : List ℕ) (wiring : Tables) (charts : List (Option Chart)) (tables : List (Option ChartTables)) → IsSoundText text wiring charts → ShowCharts tables charts → AreOfPlant wiring tables
plant_parts text wiring charts tables is shown =
    let controllers = controllers_few is.tree wiring is.sound.keeps is.sound.wired.wired in record {
      some_controller = controllers.0;
      few_controllers = omega (arith, controllers.1);
      sound = λ class v at. all_sound tables charts shown class v at;
      order = model_depth_first is.tree wiring is.sound.wired.wired.slots;
      ports = checked_numbered is.tree wiring is.sound.keeps is.sound.wired.wired.classes;
      owners = (wiring_consistent is.tree wiring is.sound.wired.wired is.sound.keeps is.sound.wired.flawless).owners_known;
      ranked = λ class v at.
          let one = all_compiled tables charts shown class v at in models_ranked is.tree charts is.sound.faultless class one.0 v one.1 one.2;
    }
