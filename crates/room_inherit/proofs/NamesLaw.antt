-- The names in a model without bases are names of the language where those of the model are.
use Rattle.std.proofs.Common.{ℕ, zero, suc, Bool, true, false, List, [], ◌∷◌, ◌++◌, map, Option, Some, None, option_map, slice_get, length, if◌then◌else◌}
use Rattle.std.specs.List.{cons_option}
use Rattle.std.specs.Option.{option_and_then}
use Rattle.room_lexer.specs.declared.token.Mark.TheVariants as marks
use Rattle.room_lexer.specs.declared.word.Word.{Word}
use Rattle.room_lexer.specs.declared.word.Word.TheVariants as words
use Rattle.name_tables.specs.name_numbers.Names.{same, is_among}
use Rattle.room_ast.specs.ChartTree.{GraphItemTree, AState, AChoice, APoint, ATransition, ARefinement, ChangeTree, OfState, OfTransition, StateTree, StateOf, BodyTree, no_body, body, SubgraphTree, no_subgraph, subgraph, GraphItems, no_items, item}
use Rattle.room_ast.specs.Tokens.{mark, name, each, maybe, word_if, dotted, import_tokens, triggers, source, target, transition_body, transition, code_text, code_tokens, word_code, in_body, graph_item, state_tokens, body_tokens, refinement_tokens, subgraph_tokens, graph_tokens, interface_item, interface, structure_item, structure, machine, behavior, extends, actor_class, class_tokens, model_tokens}
use Rattle.room_ast.specs.Trees.{BehaviorTree, ActorTree, ClassTree, ASystem, ASubsystem, AnActor, AProtocol, AData, ModelTree}
use Rattle.room_ast.specs.Values.{TokenValue, AWord, AName, ANumber, AString, ABlock, AMark}
use Rattle.room_ast.specs.declared.actor.InterfaceItem.{InterfaceItem}
use Rattle.room_ast.specs.declared.actor.StructureItem.{StructureItem}
use Rattle.room_ast.specs.declared.chart.Code.{Code}
use Rattle.room_ast.specs.declared.chart.Code.TheVariants as code
use Rattle.room_ast.specs.declared.chart.CodeText.{CodeText}
use Rattle.room_ast.specs.declared.chart.CodeText.TheVariants as texts
use Rattle.room_ast.specs.declared.chart.Transition.{Transition}
use Rattle.room_ast.specs.declared.chart.TransitionBody.{TransitionBody}
use Rattle.room_ast.specs.declared.model.Dotted.{Dotted}
use Rattle.room_ast.specs.model_parts.Classes.{as_actor}
use Rattle.room_tokens.specs.token_names.Names.{HasNames}
use Rattle.room_tokens.proofs.token_names.Parts.{HasNames-append as split}
use Rattle.derived_classes.specs.Codes.{joined_if}
use Rattle.derived_classes.specs.Derived.{joined_items, derived_machine, derived_behavior, derived}
use Rattle.room_inherit.specs.Flat.{base_number, base_in, over_base, flat_with, flat_actor, flat_class, flat}
use Rattle.derived_classes.specs.Refining.{Refining, refinements, other_items, followed_by, step_into, below, meant_for, change_of_state, own_changes, joined_subgraph, new_body, widened, all_widened, acting_also, all_acting, actions_for, refined_transition, with_state, refined_items, refined_item, refined_state, refined_body, refined_subgraph, refined}

-- ---- lists of tokens

join : (xs ys : List TokenValue) → HasNames xs → HasNames ys → HasNames (xs ++ ys)
join [] ys h k = k
join (AName n ∷ xs) ys h k = (h.0, join xs ys h.1 k)
join (AWord w ∷ xs) ys h k = join xs ys h k
join (ANumber n ∷ xs) ys h k = join xs ys h k
join (AString t v ∷ xs) ys h k = join xs ys h k
join (ABlock t ∷ xs) ys h k = join xs ys h k
join (AMark m ∷ xs) ys h k = join xs ys h k

each_joined : {A : Type 0} (out : A → List TokenValue) (xs ys : List A) → HasNames (each out xs) → HasNames (each out ys) → HasNames (each out (xs ++ ys))
each_joined out [] ys h k = k
each_joined out (x ∷ xs) ys h k =
    let both = split (out x) (each out xs) h in join (out x) (each out (xs ++ ys)) both.0 (each_joined out xs ys both.1 k)

-- ---- codes have no names

text_named : (t : CodeText) → HasNames (code_text t)
text_named (texts.Str s) = tt
text_named (texts.Block s) = tt

texts_named : (ts : List CodeText) → HasNames (each code_text ts)
texts_named [] = tt
texts_named (t ∷ ts) = join (code_text t) (each code_text ts) (text_named t) (texts_named ts)

code_named : (c : Code) → HasNames (code_tokens c)
code_named (code.Texts ts) = join (each code_text ts) (mark marks.CloseBrace) (texts_named ts) tt
code_named (code.Single t) = text_named t

code_if_named : (w : Word) (c : Option Code) → HasNames (maybe (word_code w) c)
code_if_named w None = tt
code_if_named w (Some c) = code_named c

-- ---- bodies of states

in_body_named : (entry exit : Option Code) (sub : List TokenValue) → HasNames sub → HasNames (in_body entry exit sub)
in_body_named entry exit sub h =
    join (maybe (word_code words.Entry) entry) (maybe (word_code words.Exit) exit ++ (sub ++ mark marks.CloseBrace)) (code_if_named words.Entry entry)
    (join (maybe (word_code words.Exit) exit) (sub ++ mark marks.CloseBrace) (code_if_named words.Exit exit) (join sub (mark marks.CloseBrace) h tt))

named_in_body : (entry exit : Option Code) (sub : List TokenValue) → HasNames (in_body entry exit sub) → HasNames sub
named_in_body entry exit sub h =
    let behind = split (maybe (word_code words.Entry) entry) (maybe (word_code words.Exit) exit ++ (sub ++ mark marks.CloseBrace)) h in
    let inner = split (maybe (word_code words.Exit) exit) (sub ++ mark marks.CloseBrace) behind.1 in
    (split sub (mark marks.CloseBrace) inner.1).0

-- ---- graphs

followed_named : (is js : GraphItems) → HasNames (graph_tokens is) → HasNames (graph_tokens js) → HasNames (graph_tokens (followed_by is js))
followed_named no_items js h k = k
followed_named (item i is) js h k =
    let both = split (graph_item i) (graph_tokens is) h in
    join (graph_item i) (graph_tokens (followed_by is js)) both.0 (followed_named is js both.1 k)

in_braces : (is : GraphItems) → HasNames (graph_tokens is) → HasNames (subgraph_tokens (subgraph is))
in_braces is h = join (graph_tokens is) (mark marks.CloseBrace) h tt

out_of_braces : (is : GraphItems) → HasNames (subgraph_tokens (subgraph is)) → HasNames (graph_tokens is)
out_of_braces is h = (split (graph_tokens is) (mark marks.CloseBrace) h).0

joined_subgraph_named : (s r : SubgraphTree) → HasNames (subgraph_tokens s) → HasNames (subgraph_tokens r) → HasNames (subgraph_tokens (joined_subgraph s r))
joined_subgraph_named no_subgraph r h k = k
joined_subgraph_named (subgraph is) no_subgraph h k = h
joined_subgraph_named (subgraph is) (subgraph js) h k = in_braces (followed_by is js) (followed_named is js (out_of_braces is h) (out_of_braces js k))

-- ---- what refinements add

abbrev ChangeNamed : ChangeTree → Type 0
ChangeNamed (OfState entry exit sub) = HasNames (subgraph_tokens sub)
ChangeNamed (OfTransition c) = Unit {0}

abbrev AddedNamed : List ChangeTree → Type 0
AddedNamed [] = Unit {0}
AddedNamed (change ∷ changes) = ChangeNamed change × AddedNamed changes

abbrev AllNamed : List Refining → Type 0
AllNamed [] = Unit {0}
AllNamed (r ∷ rs) = ChangeNamed r.change × AllNamed rs

abbrev OneNamed : Option Refining → Type 0
OneNamed None = Unit {0}
OneNamed (Some r) = ChangeNamed r.change

one_if : (b : Bool) (r : Refining) → ChangeNamed r.change → OneNamed (if b then Some r else None)
one_if true r h = h
one_if false r h = tt

stepped_named : (n : List ℕ) (path : List (List ℕ)) (change : ChangeTree) → ChangeNamed change → OneNamed (step_into n path change)
stepped_named n [] change h = tt
stepped_named n (first ∷ others) change h = one_if (same first n) (record { path = others; change = change }) h

more_named : (r : Option Refining) (rs : List Refining) → OneNamed r → AllNamed rs → AllNamed (cons_option r rs)
more_named None rs h k = k
more_named (Some r) rs h k = (h, k)

below_named : (n : List ℕ) (rs : List Refining) → AllNamed rs → AllNamed (below n rs)
below_named n [] h = tt
below_named n (r ∷ rs) h = more_named (step_into n r.path r.change) (below n rs) (stepped_named n r.path r.change h.0) (below_named n rs h.1)

all_if : (b : Bool) (rs : List Refining) → AllNamed rs → AllNamed (if b then [] else rs)
all_if true rs h = tt
all_if false rs h = h

meant_named : (earlier : List (List ℕ)) (n : List ℕ) (rs : List Refining) → AllNamed rs → AllNamed (meant_for earlier n rs)
meant_named earlier n rs h = all_if (is_among earlier n) (below n rs) (below_named n rs h)

of_state_named : (path : List (List ℕ)) (change : ChangeTree) (others : List ChangeTree) → ChangeNamed change → AddedNamed others → AddedNamed (cons_option (change_of_state path change) others)
of_state_named [] (OfState entry exit sub) others h k = (h, k)
of_state_named [] (OfTransition c) others h k = k
of_state_named (n ∷ ns) change others h k = k

own_named : (rs : List Refining) → AllNamed rs → AddedNamed (own_changes rs)
own_named [] h = tt
own_named (r ∷ rs) h = of_state_named r.path r.change (own_changes rs) h.0 (own_named rs h.1)

new_body_named : (entry exit : Option Code) (sub : SubgraphTree) → HasNames (subgraph_tokens sub) → HasNames (body_tokens (new_body entry exit sub))
new_body_named None None no_subgraph h = tt
new_body_named None None (subgraph is) h = in_body_named None None (subgraph_tokens (subgraph is)) h
new_body_named None (Some x) sub h = in_body_named None (Some x) (subgraph_tokens sub) h
new_body_named (Some e) exit sub h = in_body_named (Some e) exit (subgraph_tokens sub) h

widened_named : (change : ChangeTree) (b : BodyTree) → ChangeNamed change → HasNames (body_tokens b) → HasNames (body_tokens (widened change b))
widened_named (OfTransition c) b h k = k
widened_named (OfState entry exit sub) no_body h k = new_body_named entry exit sub h
widened_named (OfState entry exit sub) (body e x s) h k =
    in_body_named (joined_if e entry) (joined_if exit x) (subgraph_tokens (joined_subgraph s sub)) (joined_subgraph_named s sub (named_in_body e x (subgraph_tokens s) k) h)

all_widened_named : (changes : List ChangeTree) (b : BodyTree) → AddedNamed changes → HasNames (body_tokens b) → HasNames (body_tokens (all_widened changes b))
all_widened_named [] b h k = k
all_widened_named (change ∷ changes) b h k = all_widened_named changes (widened change b) h.1 (widened_named change b h.0 k)

-- ---- transitions

abbrev action_word : Option Code → List TokenValue
action_word c = maybe (word_code words.Action) c

with_action : (b : TransitionBody) (c : Option Code) → HasNames (transition_body b) → HasNames (transition_body (record b { action = c }))
with_action b c h =
    let behind = split (maybe triggers b.triggers) (maybe (word_code words.Cond) b.condition ++ (action_word b.action ++ mark marks.CloseBrace)) h in
    join (maybe triggers b.triggers) (maybe (word_code words.Cond) b.condition ++ (action_word c ++ mark marks.CloseBrace)) behind.0
    (join (maybe (word_code words.Cond) b.condition) (action_word c ++ mark marks.CloseBrace) (code_if_named words.Cond b.condition)
    (join (action_word c) (mark marks.CloseBrace) (code_if_named words.Action c) tt))

acting_named : (c : Code) (b : Option TransitionBody) → HasNames (maybe transition_body b) → HasNames (maybe transition_body (acting_also c b))
acting_named c None h = join (word_code words.Action c) (mark marks.CloseBrace) (code_named c) tt
acting_named c (Some b) h = with_action b (joined_if b.action (Some c)) h

all_acting_named : (cs : List Code) (b : Option TransitionBody) → HasNames (maybe transition_body b) → HasNames (maybe transition_body (all_acting cs b))
all_acting_named [] b h = h
all_acting_named (c ∷ cs) b h = all_acting_named cs (acting_also c b) (acting_named c b h)

transition_named : (rs : List Refining) (t : Transition) → HasNames (transition t) → HasNames (transition (refined_transition rs t))
transition_named rs t h =
    let next = all_acting (actions_for t.name rs) t.body in
    let named = split (maybe name t.name) (mark marks.Colon ++ (source t.source ++ (mark marks.Arrow ++ (target t.target ++ maybe transition_body t.body)))) h in
    let from = split (source t.source) (mark marks.Arrow ++ (target t.target ++ maybe transition_body t.body)) named.1 in
    let to = split (target t.target) (maybe transition_body t.body) from.1 in
    join (maybe name t.name) (mark marks.Colon ++ (source t.source ++ (mark marks.Arrow ++ (target t.target ++ maybe transition_body next)))) named.0
    (join (source t.source) (mark marks.Arrow ++ (target t.target ++ maybe transition_body next)) from.0
    (join (target t.target) (maybe transition_body next) to.0 (all_acting_named (actions_for t.name rs) t.body to.1)))

-- ---- refined graphs

mutual
  items_named : (g : GraphItems) (earlier : List (List ℕ)) (rs : List Refining) → AllNamed rs → HasNames (graph_tokens g) → HasNames (graph_tokens (refined_items g earlier rs))
  items_named no_items earlier rs h k = tt
  items_named (item i is) earlier rs h k =
      let both = split (graph_item i) (graph_tokens is) k in
      join (graph_item (refined_item i earlier rs)) (graph_tokens (refined_items is (with_state i earlier) rs)) (item_named i earlier rs h both.0)
      (items_named is (with_state i earlier) rs h both.1)

  item_named : (i : GraphItemTree) (earlier : List (List ℕ)) (rs : List Refining) → AllNamed rs → HasNames (graph_item i) → HasNames (graph_item (refined_item i earlier rs))
  item_named (AState s) earlier rs h k = state_named s earlier rs h k
  item_named (AChoice c) earlier rs h k = k
  item_named (APoint p) earlier rs h k = k
  item_named (ATransition t) earlier rs h k = transition_named rs t k
  item_named (ARefinement path change) earlier rs h k = k

  state_named : (s : StateTree) (earlier : List (List ℕ)) (rs : List Refining) → AllNamed rs → HasNames (state_tokens s) → HasNames (state_tokens (refined_state s earlier rs))
  state_named (StateOf n b) earlier rs h k = (k.0, body_named b (meant_for earlier n rs) (meant_named earlier n rs h) k.1)

  body_named : (b : BodyTree) (rs : List Refining) → AllNamed rs → HasNames (body_tokens b) → HasNames (body_tokens (refined_body b rs))
  body_named no_body rs h k = all_widened_named (own_changes rs) no_body (own_named rs h) k
  body_named (body e x s) rs h k =
      all_widened_named (own_changes rs) (body e x (refined_subgraph s rs)) (own_named rs h)
      (in_body_named e x (subgraph_tokens (refined_subgraph s rs)) (inside_named s rs h (named_in_body e x (subgraph_tokens s) k)))

  inside_named : (s : SubgraphTree) (rs : List Refining) → AllNamed rs → HasNames (subgraph_tokens s) → HasNames (subgraph_tokens (refined_subgraph s rs))
  inside_named no_subgraph rs h k = tt
  inside_named (subgraph is) rs h k = in_braces (refined_items is [] rs) (items_named is [] rs h (out_of_braces is k))

-- ---- the two parts of a class's own graph

others_named : (g : GraphItems) → HasNames (graph_tokens g) → HasNames (graph_tokens (other_items g))
others_named no_items h = tt
others_named (item (AState s) is) h =
    let both = split (graph_item (AState s)) (graph_tokens is) h in join (graph_item (AState s)) (graph_tokens (other_items is)) both.0 (others_named is both.1)
others_named (item (AChoice c) is) h =
    let both = split (graph_item (AChoice c)) (graph_tokens is) h in join (graph_item (AChoice c)) (graph_tokens (other_items is)) both.0 (others_named is both.1)
others_named (item (APoint p) is) h =
    let both = split (graph_item (APoint p)) (graph_tokens is) h in join (graph_item (APoint p)) (graph_tokens (other_items is)) both.0 (others_named is both.1)
others_named (item (ATransition t) is) h =
    let both = split (graph_item (ATransition t)) (graph_tokens is) h in join (graph_item (ATransition t)) (graph_tokens (other_items is)) both.0 (others_named is both.1)
others_named (item (ARefinement path change) is) h = others_named is (split (graph_item (ARefinement path change)) (graph_tokens is) h).1

change_named : (path : Dotted) (change : ChangeTree) → HasNames (refinement_tokens path change) → ChangeNamed change
change_named path (OfState entry exit sub) h = named_in_body entry exit (subgraph_tokens sub) (split (dotted path) (in_body entry exit (subgraph_tokens sub)) h).1
change_named path (OfTransition c) h = tt

refinements_named : (g : GraphItems) → HasNames (graph_tokens g) → AllNamed (refinements g)
refinements_named no_items h = tt
refinements_named (item (AState s) is) h = refinements_named is (split (graph_item (AState s)) (graph_tokens is) h).1
refinements_named (item (AChoice c) is) h = refinements_named is (split (graph_item (AChoice c)) (graph_tokens is) h).1
refinements_named (item (APoint p) is) h = refinements_named is (split (graph_item (APoint p)) (graph_tokens is) h).1
refinements_named (item (ATransition t) is) h = refinements_named is (split (graph_item (ATransition t)) (graph_tokens is) h).1
refinements_named (item (ARefinement path change) is) h =
    let both = split (graph_item (ARefinement path change)) (graph_tokens is) h in (change_named path change both.0, refinements_named is both.1)

-- ---- machines and behaviors

abbrev MachineNamed : Option GraphItems → Type 0
MachineNamed None = Unit {0}
MachineNamed (Some g) = HasNames (graph_tokens g)

machine_named : (base own : Option GraphItems) → MachineNamed base → MachineNamed own → MachineNamed (derived_machine base own)
machine_named None None h k = tt
machine_named None (Some own) h k = others_named own k
machine_named (Some base) None h k = h
machine_named (Some base) (Some own) h k =
    followed_named (refined (refinements own) base) (other_items own) (items_named base [] (refinements own) (refinements_named own k) h) (others_named own k)

of_machine : (g : Option GraphItems) → HasNames (maybe machine g) → MachineNamed g
of_machine None h = tt
of_machine (Some g) h = (split (graph_tokens g) (mark marks.CloseBrace) h).0

to_machine : (g : Option GraphItems) → MachineNamed g → HasNames (maybe machine g)
to_machine None h = tt
to_machine (Some g) h = join (graph_tokens g) (mark marks.CloseBrace) h tt

of_behavior : (b : BehaviorTree) → HasNames (behavior b) → MachineNamed b.machine
of_behavior b h = of_machine b.machine (split (maybe machine b.machine) (mark marks.CloseBrace) h).0

to_behavior : (g : Option GraphItems) → MachineNamed g → HasNames (behavior (record { machine = g }))
to_behavior g h = join (maybe machine g) (mark marks.CloseBrace) (to_machine g h) tt

behavior_named : (base own : Option BehaviorTree) → HasNames (maybe behavior base) → HasNames (maybe behavior own) → HasNames (maybe behavior (derived_behavior base own))
behavior_named None None h k = tt
behavior_named None (Some own) h k = to_behavior (derived_machine None own.machine) (machine_named None own.machine tt (of_behavior own k))
behavior_named (Some base) None h k = h
behavior_named (Some base) (Some own) h k =
    to_behavior (derived_machine base.machine own.machine) (machine_named base.machine own.machine (of_behavior base h) (of_behavior own k))

-- ---- the items of a class

of_braces : {A : Type 0} (out : A → List TokenValue) (xs : List A) → HasNames (each out xs ++ mark marks.CloseBrace) → HasNames (each out xs)
of_braces out xs h = (split (each out xs) (mark marks.CloseBrace) h).0

interface_named : (base own : Option (List InterfaceItem)) → HasNames (maybe interface base) → HasNames (maybe interface own) → HasNames (maybe interface (joined_items base own))
interface_named None own h k = k
interface_named (Some xs) None h k = h
interface_named (Some xs) (Some ys) h k =
    join (each interface_item (xs ++ ys)) (mark marks.CloseBrace) (each_joined interface_item xs ys (of_braces interface_item xs h) (of_braces interface_item ys k)) tt

structure_named : (base own : Option (List StructureItem)) → HasNames (maybe structure base) → HasNames (maybe structure own) → HasNames (maybe structure (joined_items base own))
structure_named None own h k = k
structure_named (Some xs) None h k = h
structure_named (Some xs) (Some ys) h k =
    join (each structure_item (xs ++ ys)) (mark marks.CloseBrace) (each_joined structure_item xs ys (of_braces structure_item xs h) (of_braces structure_item ys k)) tt

-- ---- classes

-- the parts of a class have names of the language
record PartsNamed (a : ActorTree) : Type 0 where
  name : HasNames (name a.name)
  interface : HasNames (maybe interface a.interface)
  structure : HasNames (maybe structure a.structure)
  behavior : HasNames (maybe behavior a.behavior)

abbrev behind_brace : ActorTree → List TokenValue
behind_brace a = maybe interface a.interface ++ (maybe structure a.structure ++ (maybe behavior a.behavior ++ mark marks.CloseBrace))

abbrev behind_name : ActorTree → List TokenValue
behind_name a = maybe extends a.base ++ (mark marks.OpenBrace ++ behind_brace a)

abbrev behind_words : ActorTree → List TokenValue
behind_words a = name a.name ++ behind_name a

behind_driven : (driven : Bool) (ts : List TokenValue) → HasNames (word_if words.EventDriven driven ++ ts) → HasNames ts
behind_driven true ts h = h
behind_driven false ts h = h

driven_named : (driven : Bool) (ts : List TokenValue) → HasNames ts → HasNames (word_if words.EventDriven driven ++ ts)
driven_named true ts h = h
driven_named false ts h = h

parts_named : (a : ActorTree) → HasNames (actor_class a) → PartsNamed a
parts_named a h =
    let words = split (name a.name) (behind_name a) (behind_driven a.event_driven (AWord words.ActorClass ∷ behind_words a) h) in
    let based = split (maybe extends a.base) (mark marks.OpenBrace ++ behind_brace a) words.1 in
    let faced = split (maybe interface a.interface) (maybe structure a.structure ++ (maybe behavior a.behavior ++ mark marks.CloseBrace)) based.1 in
    let built = split (maybe structure a.structure) (maybe behavior a.behavior ++ mark marks.CloseBrace) faced.1 in
    record { name = words.0; interface = faced.0; structure = built.0; behavior = (split (maybe behavior a.behavior) (mark marks.CloseBrace) built.1).0 }

class_named : (a : ActorTree) → HasNames (maybe extends a.base) → PartsNamed a → HasNames (actor_class a)
class_named a based h =
    driven_named a.event_driven (AWord words.ActorClass ∷ behind_words a)
    (join (name a.name) (behind_name a) h.name
    (join (maybe extends a.base) (mark marks.OpenBrace ++ behind_brace a) based
    (join (maybe interface a.interface) (maybe structure a.structure ++ (maybe behavior a.behavior ++ mark marks.CloseBrace)) h.interface
    (join (maybe structure a.structure) (maybe behavior a.behavior ++ mark marks.CloseBrace) h.structure
    (join (maybe behavior a.behavior) (mark marks.CloseBrace) h.behavior tt)))))

derived_named : (base own : ActorTree) → HasNames (actor_class base) → HasNames (actor_class own) → HasNames (actor_class (derived base own))
derived_named base own h k =
    let of_base = parts_named base h in
    let of_own = parts_named own k in
    class_named (derived base own) tt (record {
      name = of_own.name;
      interface = interface_named base.interface own.interface of_base.interface of_own.interface;
      structure = structure_named base.structure own.structure of_base.structure of_own.structure;
      behavior = behavior_named base.behavior own.behavior of_base.behavior of_own.behavior;
    })

-- ---- the classes of a model

abbrev ActorNamed : Option ActorTree → Type 0
ActorNamed None = Unit {0}
ActorNamed (Some a) = HasNames (actor_class a)

actor_named : (c : ClassTree) → HasNames (class_tokens c) → ActorNamed (as_actor c)
actor_named (ASystem s) h = tt
actor_named (ASubsystem s) h = tt
actor_named (AnActor a) h = h
actor_named (AProtocol p) h = tt
actor_named (AData d) h = tt

actor_at_named : (classes : List ClassTree) (k : ℕ) → HasNames (each class_tokens classes) → ActorNamed (option_and_then as_actor (slice_get classes k))
actor_at_named [] k h = tt
actor_at_named (c ∷ classes) zero h = actor_named c (split (class_tokens c) (each class_tokens classes) h).0
actor_at_named (c ∷ classes) (suc k) h = actor_at_named classes k (split (class_tokens c) (each class_tokens classes) h).1

base_named : (classes : List ClassTree) (at : Option ℕ) → HasNames (each class_tokens classes) → ActorNamed (option_and_then (λ k. option_and_then as_actor (slice_get classes k)) at)
base_named classes None h = tt
base_named classes (Some k) h = actor_at_named classes k h

over_named : (f : ActorTree → ActorTree) (a : ActorTree) (base : Option ActorTree) → ((b : ActorTree) → HasNames (actor_class b) → HasNames (actor_class (f b))) → HasNames (actor_class a) → ActorNamed base
    → HasNames (actor_class (over_base a (option_map f base)))
over_named f a None keeps h b = h
over_named f a (Some base) keeps h b = derived_named (f base) a (keeps base b) h

flat_named : (n : ℕ) (classes : List ClassTree) (a : ActorTree) → HasNames (each class_tokens classes) → HasNames (actor_class a) → HasNames (actor_class (flat_with n classes a))
flat_named zero classes a h k = k
flat_named (suc n) classes a h k =
    over_named (flat_with n classes) a (base_in classes a) (λ b kb. flat_named n classes b h kb) k (base_named classes (base_number classes a) h)

flat_class_named : (classes : List ClassTree) (c : ClassTree) → HasNames (each class_tokens classes) → HasNames (class_tokens c) → HasNames (class_tokens (flat_class classes c))
unfolding flat_actor
flat_class_named classes (ASystem s) h k = k
flat_class_named classes (ASubsystem s) h k = k
flat_class_named classes (AnActor a) h k = flat_named (length classes) classes a h k
flat_class_named classes (AProtocol p) h k = k
flat_class_named classes (AData d) h k = k

classes_named : (classes cs : List ClassTree) → HasNames (each class_tokens classes) → HasNames (each class_tokens cs) → HasNames (each class_tokens (map (flat_class classes) cs))
classes_named classes [] h k = tt
classes_named classes (c ∷ cs) h k =
    let both = split (class_tokens c) (each class_tokens cs) k in
    join (class_tokens (flat_class classes c)) (each class_tokens (map (flat_class classes) cs)) (flat_class_named classes c h both.0) (classes_named classes cs h both.1)

-- the model without bases has no names but those of the model
pub names_stay : (m : ModelTree) → HasNames (model_tokens m) → HasNames (model_tokens (flat m))
names_stay m h =
    let rest = each import_tokens m.imports ++ (each class_tokens m.classes ++ mark marks.CloseBrace) in
    let named = split (dotted m.name) (mark marks.OpenBrace ++ rest) h in
    let imported = split (each import_tokens m.imports) (each class_tokens m.classes ++ mark marks.CloseBrace) named.1 in
    let classes = (split (each class_tokens m.classes) (mark marks.CloseBrace) imported.1).0 in
    join (dotted m.name) (mark marks.OpenBrace ++ (each import_tokens m.imports ++ (each class_tokens (map (flat_class m.classes) m.classes) ++ mark marks.CloseBrace))) named.0
    (join (each import_tokens m.imports) (each class_tokens (map (flat_class m.classes) m.classes) ++ mark marks.CloseBrace) imported.0
    (join (each class_tokens (map (flat_class m.classes) m.classes)) (mark marks.CloseBrace) (classes_named m.classes m.classes classes classes) tt))
