-- The grammar of states and graphs, read from left to right.
use Rattle.std.specs.Prelude.{ℕ, zero, suc, List, length, Option, Some, None}
use Rattle.std.specs.Global.{Vec}
use Rattle.room_lexer.specs.declared.token.Mark.TheVariants as marks
use Rattle.room_lexer.specs.declared.word.Word.{Word}
use Rattle.room_lexer.specs.declared.word.Word.TheVariants as words
use Rattle.room_ast.specs.Values.{TokenValue}
use Rattle.room_ast.specs.ChartTree.{GraphItemTree, AState, AChoice, APoint, ATransition, ARefinement, OfState, OfTransition, StateTree, StateOf, BodyTree, BodyParts, body_of, SubgraphTree, no_subgraph, subgraph, GraphItems, items_of, graph_view}
use Rattle.room_ast.specs.declared.chart.GraphItem.{GraphItem}
use Rattle.room_tokens.specs.Reader.{Reader, ◌⊕◌, ◌▹◌, ◌◃◌, reads_as, optional, all_while}
use Rattle.room_tokens.specs.Single.{comes, comes_word, mark, word, name_at, word_here, before_close}
use Rattle.structure_parser.specs.value_parser.Names.{dotted_at}
use Rattle.room_parser.specs.chart_parser.Codes.{word_code_at, transition_at, choice_point_at, point_at}

-- ---- what the code's trees are seen as

abbrev pub subgraph_view : Option (Vec GraphItem) → SubgraphTree
subgraph_view None = no_subgraph
subgraph_view (Some v) = subgraph (graph_view v.items)

-- ---- the grammar

abbrev pub subgraph_from : Option GraphItems → SubgraphTree
subgraph_from None = no_subgraph
subgraph_from (Some is) = subgraph is

-- [ "subgraph" "{" graph "}" ], where closed reads a graph and the brace behind it
unfoldable pub subgraph_at : Reader TokenValue GraphItems → Reader TokenValue SubgraphTree
subgraph_at closed = reads_as subgraph_from (optional (comes_word words.Subgraph) (word words.Subgraph ▹ mark marks.OpenBrace ▹ closed))

-- "{" [ "entry" code ] [ "exit" code ] [ "subgraph" "{" graph "}" ] "}"
unfoldable pub body_at : Reader TokenValue GraphItems → Reader TokenValue BodyParts
body_at closed =
    reads_as (λ x. record { entry = x.0; exit = x.1.0; subgraph = x.1.1 })
    (mark marks.OpenBrace ▹ optional (comes_word words.Entry) (word_code_at words.Entry) ⊕ optional (comes_word words.Exit) (word_code_at words.Exit) ⊕ subgraph_at closed ◃ mark marks.CloseBrace)

unfoldable pub body_if_at : Reader TokenValue GraphItems → Reader TokenValue BodyTree
body_if_at closed = reads_as body_of (optional (comes marks.OpenBrace) (body_at closed))

-- "State" name [ body ]
unfoldable pub state_at : Reader TokenValue GraphItems → Reader TokenValue StateTree
state_at closed = reads_as (λ x. StateOf x.0 x.1) (word words.State ▹ name_at ⊕ body_if_at closed)

-- "RefinedState" dotted body
unfoldable pub refined_state_at : Reader TokenValue GraphItems → Reader TokenValue GraphItemTree
refined_state_at closed = reads_as (λ x. ARefinement x.0 (OfState x.1.entry x.1.exit x.1.subgraph)) (word words.RefinedState ▹ dotted_at ⊕ body_at closed)

-- "RefinedTransition" dotted "{" "action" code "}"
unfoldable pub refined_transition_at : Reader TokenValue GraphItemTree
refined_transition_at = reads_as (λ x. ARefinement x.0 (OfTransition x.1)) (word words.RefinedTransition ▹ dotted_at ⊕ mark marks.OpenBrace ▹ word_code_at words.Action ◃ mark marks.CloseBrace)

-- the item of a graph that begins with a word
abbrev pub item_from : Reader TokenValue GraphItems → Option Word → Reader TokenValue GraphItemTree
item_from closed (Some words.State) ts = reads_as AState (state_at closed) ts
item_from closed (Some words.ChoicePoint) ts = reads_as AChoice choice_point_at ts
item_from closed (Some words.TransitionPoint) ts = reads_as APoint point_at ts
item_from closed (Some words.EntryPoint) ts = reads_as APoint point_at ts
item_from closed (Some words.ExitPoint) ts = reads_as APoint point_at ts
item_from closed (Some words.Transition) ts = reads_as ATransition transition_at ts
item_from closed (Some words.RefinedState) ts = refined_state_at closed ts
item_from closed (Some words.RefinedTransition) ts = refined_transition_at ts
item_from closed w ts = None

-- state | choice | point | transition | refstate | reftrans
unfoldable pub item_with : Reader TokenValue GraphItems → Reader TokenValue GraphItemTree
item_with closed ts = item_from closed (word_here ts) ts

-- a graph and the closing brace behind it
unfoldable pub closed_at : Reader TokenValue GraphItemTree → Reader TokenValue GraphItems
closed_at one = reads_as items_of (all_while before_close one ◃ mark marks.CloseBrace)

-- a graph and the closing brace behind it, with graphs nested no deeper than the number
unfoldable pub graph_below : ℕ → Reader TokenValue GraphItems
graph_below zero ts = None
graph_below (suc depth) ts = closed_at (item_with (graph_below depth)) ts

-- an item with graphs nested no deeper than the number
abbrev pub item_to : ℕ → Reader TokenValue GraphItemTree
item_to depth = item_with (graph_below depth)

-- a graph and the closing brace behind it. No more graphs are nested than tokens are left.
unfoldable pub graph_at : Reader TokenValue GraphItems
graph_at ts = closed_at (item_to (length ts)) ts

-- "StateMachine" "{" graph "}"
unfoldable pub machine_at : Reader TokenValue GraphItems
machine_at = word words.StateMachine ▹ mark marks.OpenBrace ▹ graph_at
