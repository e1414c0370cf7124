-- States and graphs are read as their tokens are written, and nothing else is.
use Rattle.std.proofs.Common.{◌≡◌, ℕ, zero, suc, ◌+◌, ◌<◌, ◌≤◌, Bool, true, false, List, [], ◌∷◌, ◌++◌, length, Option, Some, None, refl, sym, ap, ◌∙◌, subst, append_assoc, length-append, arith}
use Rattle.room_lexer.specs.declared.token.Mark.TheVariants as marks
use Rattle.room_lexer.specs.declared.word.Word.{Word}
use Rattle.room_lexer.specs.declared.word.Word.TheVariants as words
use Rattle.room_ast.specs.Values.{TokenValue, AWord, AName, ANumber, AMark}
use Rattle.room_ast.specs.Tokens.{each, maybe, word_code, dotted, choice_point, point, point_word, transition, in_body, graph_item, state_tokens, body_tokens, subgraph_tokens, graph_tokens, machine}
use Rattle.room_ast.specs.ChartTree.{GraphItemTree, AState, AChoice, APoint, ATransition, ARefinement, OfState, OfTransition, StateTree, StateOf, BodyTree, no_body, body, BodyParts, body_of, SubgraphTree, no_subgraph, subgraph, GraphItems, no_items, item, items_of}
use Rattle.room_ast.specs.declared.chart.Code.{Code}
use Rattle.room_ast.specs.declared.chart.PointKind.{PointKind}
use Rattle.room_ast.specs.declared.model.Dotted.{Dotted}
use Rattle.room_ast.specs.declared.chart.PointKind.TheVariants as points
use Rattle.room_tokens.specs.Reader.{Reader, reads_as, optional, many, all_while}
use Rattle.room_tokens.specs.Single.{comes, comes_word, before_close, word_here}
use Rattle.room_tokens.proofs.Readers.{Sound, Reads, Sound-⊕, Reads-⊕, Sound-as, Reads-as, Sound-maybe, Reads-some, Reads-none, Sound-many, Anything}
use Rattle.room_tokens.proofs.Singles.{mark_sound, word_sound, name_sound, mark_reads, word_reads, name_reads, comes_is, comes_word_here}
use Rattle.room_tokens.proofs.Exact.{Exact, sound, reads, mark_exact, word_exact, Exact-behind, Exact-maybe, Sound-behind, Sound-before, Reads-behind, Reads-before, case_takes, case_again}
use Rattle.structure_parser.proofs.value_parser.ExactNames.{dotted_exact}
use Rattle.room_parser.specs.chart_parser.Codes.{word_code_at, point_at}
use Rattle.room_parser.specs.chart_parser.Graphs.{subgraph_from, subgraph_at, body_at, body_if_at, state_at, refined_state_at, refined_transition_at, item_from, item_with, closed_at, graph_below, item_to, graph_at, machine_at}
use Rattle.room_parser.proofs.chart_parser.ExactCodes.{word_code_exact, transition_exact, choice_point_exact, point_exact, EndsItem}

-- ---- what is taken

graph_tokens-of : (is : List GraphItemTree) → graph_tokens (items_of is) ≡ each graph_item is
graph_tokens-of [] = refl
graph_tokens-of (i ∷ is) = ap (λ (us : List TokenValue). graph_item i ++ us) (graph_tokens-of is)

-- a graph and the closing brace behind it
abbrev closed_tokens : GraphItems → List TokenValue
closed_tokens is = graph_tokens is ++ AMark marks.CloseBrace ∷ []

closed_sound : (one : Reader TokenValue GraphItemTree) → Sound one graph_item → Sound (closed_at one) closed_tokens
unfolding closed_at
closed_sound one h =
    Sound-as items_of closed_tokens (Sound-before (Sound-many before_close h) (mark_sound marks.CloseBrace)) (λ is. ap (λ (us : List TokenValue). us ++ AMark marks.CloseBrace ∷ []) (graph_tokens-of is))

subgraph_same : (o : Option GraphItems) → subgraph_tokens (subgraph_from o) ≡ maybe (λ is. AWord words.Subgraph ∷ AMark marks.OpenBrace ∷ closed_tokens is) o
subgraph_same None = refl
subgraph_same (Some is) = refl

subgraph_sound : (closed : Reader TokenValue GraphItems) → Sound closed closed_tokens → Sound (subgraph_at closed) subgraph_tokens
unfolding subgraph_at
subgraph_sound closed h = Sound-as subgraph_from subgraph_tokens (Sound-maybe (comes_word words.Subgraph) (Sound-behind (word_sound words.Subgraph) (Sound-behind (mark_sound marks.OpenBrace) h))) subgraph_same

abbrev parts_tokens : BodyParts → List TokenValue
parts_tokens b = in_body b.entry b.exit (subgraph_tokens b.subgraph)

body_sound : (closed : Reader TokenValue GraphItems) → Sound closed closed_tokens → Sound (body_at closed) parts_tokens
unfolding body_at
body_sound closed h =
    Sound-as _ parts_tokens
    (Sound-behind (mark_sound marks.OpenBrace) (Sound-⊕ (Sound-maybe (comes_word words.Entry) (sound (word_code_exact words.Entry))) (Sound-⊕ (Sound-maybe (comes_word words.Exit) (sound (word_code_exact words.Exit)))
    (Sound-before (subgraph_sound closed h) (mark_sound marks.CloseBrace))))) (λ x. refl)

body_if_same : (o : Option BodyParts) → body_tokens (body_of o) ≡ maybe parts_tokens o
body_if_same None = refl
body_if_same (Some b) = refl

body_if_sound : (closed : Reader TokenValue GraphItems) → Sound closed closed_tokens → Sound (body_if_at closed) body_tokens
unfolding body_if_at
body_if_sound closed h = Sound-as body_of body_tokens (Sound-maybe (comes marks.OpenBrace) (body_sound closed h)) body_if_same

state_sound : (closed : Reader TokenValue GraphItems) → Sound closed closed_tokens → Sound (state_at closed) state_tokens
unfolding state_at
state_sound closed h = Sound-as _ state_tokens (Sound-behind (word_sound words.State) (Sound-⊕ name_sound (body_if_sound closed h))) (λ x. refl)

refined_state_sound : (closed : Reader TokenValue GraphItems) → Sound closed closed_tokens → Sound (refined_state_at closed) graph_item
unfolding refined_state_at
refined_state_sound closed h = Sound-as _ graph_item (Sound-behind (word_sound words.RefinedState) (Sound-⊕ (sound dotted_exact) (body_sound closed h))) (λ x. refl)

refined_transition_sound : Sound refined_transition_at graph_item
unfolding refined_transition_at
refined_transition_sound =
    Sound-as _ graph_item
    (Sound-behind (word_sound words.RefinedTransition) (Sound-⊕ (sound dotted_exact) (Sound-behind (mark_sound marks.OpenBrace) (Sound-before (sound (word_code_exact words.Action)) (mark_sound marks.CloseBrace))))) (λ x. refl)

item_takes : (closed : Reader TokenValue GraphItems) → Sound closed closed_tokens → (w : Option Word) (ts : List TokenValue) (z : GraphItemTree × List TokenValue) → item_from closed w ts ≡ Some z → ts ≡ graph_item z.0 ++ z.1
item_takes closed h (Some words.State) ts z e = (Sound-as AState graph_item (state_sound closed h) (λ s. refl)).takes ts z e
item_takes closed h (Some words.ChoicePoint) ts z e = case_takes AChoice graph_item choice_point_exact (λ x. refl) ts z e
item_takes closed h (Some words.TransitionPoint) ts z e = case_takes APoint graph_item point_exact (λ x. refl) ts z e
item_takes closed h (Some words.EntryPoint) ts z e = case_takes APoint graph_item point_exact (λ x. refl) ts z e
item_takes closed h (Some words.ExitPoint) ts z e = case_takes APoint graph_item point_exact (λ x. refl) ts z e
item_takes closed h (Some words.Transition) ts z e = case_takes ATransition graph_item transition_exact (λ x. refl) ts z e
item_takes closed h (Some words.RefinedState) ts z e = (refined_state_sound closed h).takes ts z e
item_takes closed h (Some words.RefinedTransition) ts z e = refined_transition_sound.takes ts z e
item_takes closed h w ts z e = absurd cc

item_sound : (closed : Reader TokenValue GraphItems) → Sound closed closed_tokens → Sound (item_with closed) graph_item
unfolding item_with
item_sound closed h = record { takes = λ ts z e. item_takes closed h (word_here ts) ts z e }

below_sound : (depth : ℕ) → Sound (graph_below depth) closed_tokens
unfolding graph_below
below_sound zero = record { takes = λ ts z e. absurd cc }
below_sound (suc depth) = record { takes = λ ts z e. (closed_sound (item_to depth) (item_sound (graph_below depth) (below_sound depth))).takes ts z e }

-- ---- what is read again

abbrev NoBrace : List TokenValue → Type 0
NoBrace rest = comes marks.OpenBrace rest ≡ false

abbrev NoSubgraph : List TokenValue → Type 0
NoSubgraph rest = comes_word words.Subgraph rest ≡ false

no_subgraph_reads : (closed : Reader TokenValue GraphItems) → Reads (subgraph_at closed) [] no_subgraph NoSubgraph
unfolding subgraph_at
no_subgraph_reads closed = Reads-as subgraph_from (Reads-none (comes_word words.Subgraph) _)

some_subgraph_reads : (closed : Reader TokenValue GraphItems) (is : GraphItems) → Reads closed (closed_tokens is) is Anything → Reads (subgraph_at closed) (subgraph_tokens (subgraph is)) (subgraph is) Anything
unfolding subgraph_at comes_word
some_subgraph_reads closed is h = Reads-as subgraph_from (Reads-some (comes_word words.Subgraph) (λ rest. refl) (Reads-behind (word_reads words.Subgraph) (Reads-behind (mark_reads marks.OpenBrace) h)))

no_entry : (x : Option Code) (s : SubgraphTree) (rest : List TokenValue) → comes_word words.Entry ((maybe (word_code words.Exit) x ++ (subgraph_tokens s ++ AMark marks.CloseBrace ∷ [])) ++ rest) ≡ false
unfolding comes_word
no_entry None no_subgraph rest = refl
no_entry None (subgraph is) rest = refl
no_entry (Some c) s rest = refl

no_exit : (s : SubgraphTree) (rest : List TokenValue) → comes_word words.Exit ((subgraph_tokens s ++ AMark marks.CloseBrace ∷ []) ++ rest) ≡ false
unfolding comes_word
no_exit no_subgraph rest = refl
no_exit (subgraph is) rest = refl

code_if_reads : (w : Word) (o : Option Code) → Reads (optional (comes_word w) (word_code_at w)) (maybe (word_code w) o) o (λ rest. (comes_word w rest ≡ false) × Anything rest)
code_if_reads w o = reads (Exact-maybe (comes_word w) (word_code_exact w) (λ c rest. comes_word_here w _)) o

abbrev parts : Option Code → Option Code → SubgraphTree → BodyParts
parts e x s = record { entry = e; exit = x; subgraph = s }

body_reads : (closed : Reader TokenValue GraphItems) (e x : Option Code) (s : SubgraphTree) (F : List TokenValue → Type 0) → Reads (subgraph_at closed) (subgraph_tokens s) s F → ((rest : List TokenValue) → F (AMark marks.CloseBrace ∷ rest))
    → Reads (body_at closed) (parts_tokens (parts e x s)) (parts e x s) Anything
unfolding body_at
body_reads closed e x s F h closes =
    Reads-as (λ (y : Option Code × (Option Code × SubgraphTree)). parts y.0 y.1.0 y.1.1)
    (Reads-behind (mark_reads marks.OpenBrace)
    (Reads-⊕ (code_if_reads words.Entry e) (Reads-⊕ (code_if_reads words.Exit x) (Reads-before h (mark_reads marks.CloseBrace) closes) (λ rest any. (no_exit s rest, tt))) (λ rest any. (no_entry x s rest, tt))))

plain_body_reads : (closed : Reader TokenValue GraphItems) (e x : Option Code) → Reads (body_at closed) (parts_tokens (parts e x no_subgraph)) (parts e x no_subgraph) Anything
unfolding comes_word
plain_body_reads closed e x = body_reads closed e x no_subgraph NoSubgraph (no_subgraph_reads closed) (λ us. refl)

graph_body_reads : (closed : Reader TokenValue GraphItems) (e x : Option Code) (is : GraphItems) → Reads closed (closed_tokens is) is Anything → Reads (body_at closed) (parts_tokens (parts e x (subgraph is))) (parts e x (subgraph is)) Anything
graph_body_reads closed e x is h = body_reads closed e x (subgraph is) Anything (some_subgraph_reads closed is h) (λ us. tt)

state_reads : (n : List ℕ) (closed : Reader TokenValue GraphItems) (b : BodyTree) (F : List TokenValue → Type 0) → Reads (body_if_at closed) (body_tokens b) b F → Reads (state_at closed) (state_tokens (StateOf n b)) (StateOf n b) F
unfolding state_at
state_reads n closed b F h = Reads-as (λ (x : List ℕ × BodyTree). StateOf x.0 x.1) (Reads-behind (word_reads words.State) (Reads-⊕ (name_reads n) h (λ rest any. tt)))

no_body_reads : (closed : Reader TokenValue GraphItems) → Reads (body_if_at closed) [] no_body NoBrace
unfolding body_if_at
no_body_reads closed = Reads-as body_of (Reads-none (comes marks.OpenBrace) _)

some_body_reads : (closed : Reader TokenValue GraphItems) (e x : Option Code) (s : SubgraphTree) → Reads (body_at closed) (parts_tokens (parts e x s)) (parts e x s) Anything → Reads (body_if_at closed) (body_tokens (body e x s)) (body e x s) Anything
unfolding body_if_at comes
some_body_reads closed e x s h = Reads-as body_of (Reads-some (comes marks.OpenBrace) (λ rest. refl) h)

refined_state_reads : (d : Dotted) (closed : Reader TokenValue GraphItems) (e x : Option Code) (s : SubgraphTree) → Reads (body_at closed) (parts_tokens (parts e x s)) (parts e x s) Anything
    → Reads (refined_state_at closed) (graph_item (ARefinement d (OfState e x s))) (ARefinement d (OfState e x s)) Anything
unfolding refined_state_at comes
refined_state_reads d closed e x s h =
    Reads-as (λ (y : Dotted × BodyParts). ARefinement y.0 (OfState y.1.entry y.1.exit y.1.subgraph)) (Reads-behind (word_reads words.RefinedState) (Reads-⊕ (reads dotted_exact d) h (λ rest any. refl)))

refined_transition_reads : (d : Dotted) (c : Code) → Reads refined_transition_at (graph_item (ARefinement d (OfTransition c))) (ARefinement d (OfTransition c)) Anything
unfolding refined_transition_at comes
refined_transition_reads d c =
    Reads-as (λ (y : Dotted × Code). ARefinement y.0 (OfTransition y.1))
    (Reads-behind (word_reads words.RefinedTransition)
    (Reads-⊕ (reads dotted_exact d) (Reads-behind (mark_reads marks.OpenBrace) (Reads-before (reads (word_code_exact words.Action) c) (mark_reads marks.CloseBrace) (λ rest. tt))) (λ rest any. refl)))

abbrev list_of : GraphItems → List GraphItemTree
list_of no_items = []
list_of (item i is) = i ∷ list_of is

items_of-list_of : (is : GraphItems) → items_of (list_of is) ≡ is
items_of-list_of no_items = refl
items_of-list_of (item i is) = ap (item i) (items_of-list_of is)

-- the items are read with any number of turns that is enough
abbrev ManyAgain : GraphItems → ℕ → Type 0
ManyAgain is depth = (n : ℕ) (rest : List TokenValue) → length (graph_tokens is) < n → comes marks.CloseBrace rest ≡ true → many before_close (item_to depth) n (graph_tokens is ++ rest) ≡ Some (list_of is, rest)

all_reads : (is : GraphItems) (depth : ℕ) → ManyAgain is depth → Reads (all_while before_close (item_to depth)) (graph_tokens is) (list_of is) (λ rest. comes marks.CloseBrace rest ≡ true)
unfolding all_while
all_reads is depth h = record { again = λ rest closes. h (suc (length (graph_tokens is ++ rest))) rest (omega (arith, length-append (graph_tokens is) rest)) closes }

closed_reads : (is : GraphItems) (depth : ℕ) → ManyAgain is depth → Reads (closed_at (item_to depth)) (closed_tokens is) is Anything
unfolding closed_at comes
closed_reads is depth h =
    subst (λ (js : GraphItems). Reads (closed_at (item_to depth)) (closed_tokens is) js Anything) (items_of-list_of is) (Reads-as items_of (Reads-before (all_reads is depth h) (mark_reads marks.CloseBrace) (λ rest. refl)))

below_reads : (is : GraphItems) (depth : ℕ) → ManyAgain is depth → Reads (graph_below (suc depth)) (closed_tokens is) is Anything
unfolding graph_below
below_reads is depth h = record { again = λ rest any. (closed_reads is depth h).again rest tt }

turn_again : (p : Reader TokenValue GraphItemTree) (n : ℕ) (i : GraphItemTree) (is : List GraphItemTree) (ts us rest : List TokenValue) → before_close ts ≡ true → p ts ≡ Some (i, us) → many before_close p n us ≡ Some (is, rest) → many before_close p (suc n) ts ≡ Some (i ∷ is, rest)
unfolding many
turn_again p n i is ts us rest on first others = rw (on, first, others) refl

ends_at : (p : Reader TokenValue GraphItemTree) (n : ℕ) (rest : List TokenValue) → comes marks.CloseBrace rest ≡ true → many before_close p (suc n) rest ≡ Some ([], rest)
unfolding many before_close
ends_at p n rest closes = rw closes refl

-- an item begins with a word
goes_on : (i : GraphItemTree) (rest : List TokenValue) → before_close (graph_item i ++ rest) ≡ true
unfolding before_close comes
goes_on (AState (StateOf n b)) rest = refl
goes_on (AChoice c) rest = refl
goes_on (APoint p) rest = refl
goes_on (ATransition t) rest = refl
goes_on (ARefinement d (OfState e x s)) rest = refl
goes_on (ARefinement d (OfTransition c)) rest = refl

item_ends : (i : GraphItemTree) (rest : List TokenValue) → EndsItem (graph_item i ++ rest)
unfolding comes comes_word
item_ends (AState (StateOf n b)) rest = record { no_of = refl; no_brace = refl }
item_ends (AChoice c) rest = record { no_of = refl; no_brace = refl }
item_ends (APoint p) rest = point_ends p.kind _
  where
    point_ends : (k : PointKind) (us : List TokenValue) → EndsItem (AWord (point_word k) ∷ us)
    point_ends points.Transition us = record { no_of = refl; no_brace = refl }
    point_ends points.Entry us = record { no_of = refl; no_brace = refl }
    point_ends points.Exit us = record { no_of = refl; no_brace = refl }
item_ends (ATransition t) rest = record { no_of = refl; no_brace = refl }
item_ends (ARefinement d (OfState e x s)) rest = record { no_of = refl; no_brace = refl }
item_ends (ARefinement d (OfTransition c)) rest = record { no_of = refl; no_brace = refl }

close_ends : (rest : List TokenValue) → comes marks.CloseBrace rest ≡ true → EndsItem rest
unfolding comes comes_word
close_ends rest h = rw (comes_is marks.CloseBrace rest h) (record { no_of = refl; no_brace = refl })

graph_ends : (is : GraphItems) (rest : List TokenValue) → comes marks.CloseBrace rest ≡ true → EndsItem (graph_tokens is ++ rest)
graph_ends no_items rest closes = close_ends rest closes
graph_ends (item i is) rest closes = rw (append_assoc (graph_item i) (graph_tokens is) rest) (item_ends i (graph_tokens is ++ rest))

some_token : (i : GraphItemTree) → 0 < length (graph_item i)
some_token (AState (StateOf n b)) = omega arith
some_token (AChoice c) = omega arith
some_token (APoint p) = omega arith
some_token (ATransition t) = omega arith
some_token (ARefinement d (OfState e x s)) = omega arith
some_token (ARefinement d (OfTransition c)) = omega arith

in_body_fits : (e x : Option Code) (is : GraphItems) → length (graph_tokens is) ≤ length (parts_tokens (parts e x (subgraph is)))
in_body_fits e x is =
    let exits = maybe (word_code words.Exit) x in
    let graph = AWord words.Subgraph ∷ AMark marks.OpenBrace ∷ closed_tokens is in
    let end = AMark marks.CloseBrace ∷ [] in
    omega (arith, length-append (maybe (word_code words.Entry) e) (exits ++ (graph ++ end)), length-append exits (graph ++ end), length-append graph end, length-append (graph_tokens is) end)

inside_fits : (n : List ℕ) (e x : Option Code) (is : GraphItems) (depth : ℕ) → length (graph_item (AState (StateOf n (body e x (subgraph is))))) ≤ suc depth → length (graph_tokens is) ≤ depth
inside_fits n e x is depth fits = omega (arith, in_body_fits e x is)

refined_fits : (d : Dotted) (e x : Option Code) (is : GraphItems) (depth : ℕ) → length (graph_item (ARefinement d (OfState e x (subgraph is)))) ≤ suc depth → length (graph_tokens is) ≤ depth
refined_fits d e x is depth fits = omega (arith, in_body_fits e x is, length-append (dotted d) (parts_tokens (parts e x (subgraph is))))

state_item : (closed : Reader TokenValue GraphItems) (n : List ℕ) (b : BodyTree) (F : List TokenValue → Type 0) → Reads (body_if_at closed) (body_tokens b) b F → (rest : List TokenValue) → F rest → item_with closed (graph_item (AState (StateOf n b)) ++ rest) ≡ Some (AState (StateOf n b), rest)
unfolding item_with word_here
state_item closed n b F h rest may = (Reads-as AState (state_reads n closed b F h)).again rest may

point_item : (closed : Reader TokenValue GraphItems) (k : PointKind) (us : List TokenValue) → item_with closed (AWord (point_word k) ∷ us) ≡ reads_as APoint point_at (AWord (point_word k) ∷ us)
unfolding item_with word_here
point_item closed points.Transition us = refl
point_item closed points.Entry us = refl
point_item closed points.Exit us = refl

mutual
  unfolding item_with word_here comes_word

  pub item_again : (i : GraphItemTree) (depth : ℕ) (rest : List TokenValue) → length (graph_item i) ≤ depth → EndsItem rest → item_to depth (graph_item i ++ rest) ≡ Some (i, rest)
  item_again (AChoice c) depth rest fits ends = case_again AChoice choice_point_exact c rest tt
  item_again (APoint p) depth rest fits ends = point_item (graph_below depth) p.kind _ ∙ case_again APoint point_exact p rest tt
  item_again (ATransition t) depth rest fits ends = case_again ATransition transition_exact t rest ends
  item_again (AState (StateOf n no_body)) depth rest fits ends = state_item (graph_below depth) n no_body NoBrace (no_body_reads (graph_below depth)) rest ends.no_brace
  item_again (AState (StateOf n (body e x no_subgraph))) depth rest fits ends =
      state_item (graph_below depth) n (body e x no_subgraph) Anything (some_body_reads (graph_below depth) e x no_subgraph (plain_body_reads (graph_below depth) e x)) rest tt
  item_again (AState (StateOf n (body e x (subgraph is)))) zero rest fits ends = absurd (omega arith)
  item_again (AState (StateOf n (body e x (subgraph is)))) (suc depth) rest fits ends =
      let closed = graph_below (suc depth) in
      let inside = below_reads is depth (λ m us turns closes. graph_again is depth m us (inside_fits n e x is depth fits) turns closes) in
      state_item closed n (body e x (subgraph is)) Anything (some_body_reads closed e x (subgraph is) (graph_body_reads closed e x is inside)) rest tt
  item_again (ARefinement d (OfState e x no_subgraph)) depth rest fits ends =
      (refined_state_reads d (graph_below depth) e x no_subgraph (plain_body_reads (graph_below depth) e x)).again rest tt
  item_again (ARefinement d (OfState e x (subgraph is))) zero rest fits ends = absurd (omega arith)
  item_again (ARefinement d (OfState e x (subgraph is))) (suc depth) rest fits ends =
      let closed = graph_below (suc depth) in
      let inside = below_reads is depth (λ m us turns closes. graph_again is depth m us (refined_fits d e x is depth fits) turns closes) in
      (refined_state_reads d closed e x (subgraph is) (graph_body_reads closed e x is inside)).again rest tt
  item_again (ARefinement d (OfTransition c)) depth rest fits ends = (refined_transition_reads d c).again rest tt

  pub graph_again : (is : GraphItems) (depth n : ℕ) (rest : List TokenValue) → length (graph_tokens is) ≤ depth → length (graph_tokens is) < n → comes marks.CloseBrace rest ≡ true
      → many before_close (item_to depth) n (graph_tokens is ++ rest) ≡ Some (list_of is, rest)
  graph_again no_items depth zero rest fits turns closes = absurd (omega arith)
  graph_again no_items depth (suc n) rest fits turns closes = ends_at (item_to depth) n rest closes
  graph_again (item i is) depth zero rest fits turns closes = absurd (omega arith)
  graph_again (item i is) depth (suc n) rest fits turns closes =
      let parts = length-append (graph_item i) (graph_tokens is) in
      let after = graph_tokens is ++ rest in
      ap (many before_close (item_to depth) (suc n)) (append_assoc (graph_item i) (graph_tokens is) rest)
      ∙ turn_again (item_to depth) n i (list_of is) (graph_item i ++ after) after rest (goes_on i after)
      (item_again i depth after (omega (arith, parts)) (graph_ends is rest closes))
      (graph_again is depth n rest (omega (arith, parts)) (omega (arith, parts, some_token i)) closes)

graph_exact : Exact graph_at closed_tokens Anything
unfolding graph_at
graph_exact = record {
  takes = λ ts z e. (closed_sound (item_to (length ts)) (item_sound (graph_below (length ts)) (below_sound (length ts)))).takes ts z e;
  again = λ is rest any.
      let depth = length (closed_tokens is ++ rest) in
      let fits : length (graph_tokens is) ≤ depth = omega (arith, length-append (closed_tokens is) rest, length-append (graph_tokens is) (AMark marks.CloseBrace ∷ [])) in
      (closed_reads is depth (λ m us turns closes. graph_again is depth m us fits turns closes)).again rest tt;
}

pub machine_exact : Exact machine_at machine Anything
unfolding machine_at
machine_exact = Exact-behind (word_exact words.StateMachine) (Exact-behind (mark_exact marks.OpenBrace) graph_exact)
