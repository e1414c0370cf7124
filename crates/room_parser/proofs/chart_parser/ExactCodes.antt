-- Code, triggers and transitions are read as their tokens are written, and nothing else is.
use Rattle.std.proofs.Common.{◌≡◌, ℕ, ◌<◌, Bool, true, false, List, [], ◌∷◌, ◌++◌, length, Option, Some, None, refl, ap, ◌∙◌, arith}
use Rattle.room_lexer.specs.declared.token.Mark.TheVariants as marks
use Rattle.room_lexer.specs.declared.word.Word.{Word}
use Rattle.room_lexer.specs.declared.word.Word.TheVariants as words
use Rattle.room_ast.specs.Values.{TokenValue, AWord, AName, ANumber, AString, ABlock, AMark}
use Rattle.room_ast.specs.Tokens.{each, maybe, name, code_text, code_tokens, word_code, event_message, event, bar_event, trigger, or_trigger, triggers, target, source, transition_body, transition, choice_point, point_word, point}
use Rattle.room_ast.specs.declared.chart.Code.{Code}
use Rattle.room_ast.specs.declared.chart.Code.TheVariants as codes
use Rattle.room_ast.specs.declared.chart.CodeText.{CodeText}
use Rattle.room_ast.specs.declared.chart.CodeText.TheVariants as texts
use Rattle.room_ast.specs.declared.chart.EventMessage.{EventMessage}
use Rattle.room_ast.specs.declared.chart.EventMessage.TheVariants as messages
use Rattle.room_ast.specs.declared.chart.PointKind.{PointKind}
use Rattle.room_ast.specs.declared.chart.PointKind.TheVariants as points
use Rattle.room_ast.specs.declared.chart.Source.{Source}
use Rattle.room_ast.specs.declared.chart.Source.TheVariants as sources
use Rattle.room_ast.specs.declared.chart.Target.{Target}
use Rattle.room_ast.specs.declared.chart.Target.TheVariants as targets
use Rattle.room_ast.specs.declared.chart.TransitionBody.{TransitionBody}
use Rattle.room_tokens.specs.Reader.{Reader, ◌⊕◌, ◌▹◌, optional}
use Rattle.room_tokens.specs.Single.{comes, comes_word, comes_name, comes_string, before_close, word, name_at}
use Rattle.room_tokens.proofs.Readers.{taken, Anything}
use Rattle.room_tokens.proofs.Exact.{Exact, mark_exact, word_exact, name_exact, string_exact, block_exact, Exact-then, Exact-⊕, Exact-behind, Exact-before, Exact-as, Exact-maybe, Exact-many, Exact-braces, Exact-where, Exact-word, case_takes, case_again, either_takes}
use Rattle.room_parser.specs.chart_parser.Codes.{code_text_at, code_at, word_code_at, event_message_at, event_at, bar_event_at, trigger_at, or_trigger_at, triggers_at, named_from, named_at, target_at, source_at, transition_body_at, transition_at, choice_point_at, point_kind_of, point_at}

-- ---- code

code_text_takes : (ts : List TokenValue) (z : CodeText × List TokenValue) → code_text_at ts ≡ Some z → ts ≡ code_text z.0 ++ z.1
unfolding code_text_at
code_text_takes ts z e = either_takes (comes_string ts) _ _ (Some z) (case_takes texts.Str code_text string_exact (λ x. refl) ts z) (case_takes texts.Block code_text block_exact (λ x. refl) ts z) e

code_text_again : (t : CodeText) (rest : List TokenValue) → Unit {0} → code_text_at (code_text t ++ rest) ≡ Some (t, rest)
unfolding code_text_at comes_string
code_text_again (texts.Str text) rest any = case_again texts.Str string_exact text rest tt
code_text_again (texts.Block text) rest any = case_again texts.Block block_exact text rest tt

code_text_exact : Exact code_text_at code_text Anything
code_text_exact = record { takes = code_text_takes; again = code_text_again }

text_begins : (t : CodeText) (rest : List TokenValue) → (before_close (code_text t ++ rest) ≡ true) × Anything (code_text t ++ rest) × (0 < length (code_text t))
unfolding before_close comes
text_begins (texts.Str text) rest = (refl, tt, omega arith)
text_begins (texts.Block text) rest = (refl, tt, omega arith)

code_takes : (ts : List TokenValue) (z : Code × List TokenValue) → code_at ts ≡ Some z → ts ≡ code_tokens z.0 ++ z.1
unfolding code_at
code_takes ts z e =
    either_takes (comes marks.OpenBrace ts) _ _ (Some z) (case_takes codes.Texts code_tokens (Exact-braces code_text_exact text_begins (λ rest. tt)) (λ x. refl) ts z) (case_takes codes.Single code_tokens code_text_exact (λ x. refl) ts z) e

code_again : (c : Code) (rest : List TokenValue) → Unit {0} → code_at (code_tokens c ++ rest) ≡ Some (c, rest)
unfolding code_at comes
code_again (codes.Texts ts) rest any = case_again codes.Texts (Exact-braces code_text_exact text_begins (λ rest. tt)) ts rest tt
code_again (codes.Single (texts.Str text)) rest any = case_again codes.Single code_text_exact (texts.Str text) rest tt
code_again (codes.Single (texts.Block text)) rest any = case_again codes.Single code_text_exact (texts.Block text) rest tt

code_exact : Exact code_at code_tokens Anything
code_exact = record { takes = code_takes; again = code_again }

pub word_code_exact : (w : Word) → Exact (word_code_at w) (word_code w) Anything
unfolding word_code_at
word_code_exact w = Exact-behind (word_exact w) code_exact

-- ---- triggers

message_takes : (ts : List TokenValue) (z : EventMessage × List TokenValue) → event_message_at ts ≡ Some z → ts ≡ event_message z.0 ++ z.1
unfolding event_message_at
message_takes (AName n ∷ ts) z e = taken event_message (AName n ∷ ts) (messages.Named n, ts) z refl e
message_takes (AWord words.Imported ∷ ts) z e = taken event_message (AWord words.Imported ∷ ts) (messages.Imported, ts) z refl e
message_takes ts z e = absurd cc

message_again : (p : EventMessage) (rest : List TokenValue) → Unit {0} → event_message_at (event_message p ++ rest) ≡ Some (p, rest)
unfolding event_message_at
message_again (messages.Named n) rest any = refl
message_again messages.Imported rest any = refl

message_exact : Exact event_message_at event_message Anything
message_exact = record { takes = message_takes; again = message_again }

event_exact : Exact event_at event Anything
unfolding event_at
event_exact = Exact-as _ (λ e. (e.message, e.port)) event (Exact-then message_exact (Exact-behind (mark_exact marks.Colon) name_exact)) (λ x. refl) (λ y. refl)

bar_event_exact : Exact bar_event_at bar_event Anything
unfolding bar_event_at
bar_event_exact = Exact-behind (mark_exact marks.Bar) event_exact

-- what comes behind the events
no_bar : (g : Option Code) (rest : List TokenValue) → comes marks.Bar ((maybe (word_code words.Guard) g ++ AMark marks.Greater ∷ []) ++ rest) ≡ false
unfolding comes
no_bar None rest = refl
no_bar (Some c) rest = refl

trigger_exact : Exact trigger_at trigger Anything
unfolding trigger_at comes comes_word
trigger_exact =
    Exact-as _ (λ t. (t.first, (t.others, t.guard))) trigger
    (Exact-behind (mark_exact marks.Less) (Exact-then event_exact
    (Exact-⊕ (Exact-many (comes marks.Bar) bar_event_exact (λ e rest. (refl, tt, omega arith)))
    (Exact-before (Exact-maybe (comes_word words.Guard) (word_code_exact words.Guard) (λ c rest. refl)) (mark_exact marks.Greater) (λ rest. (refl, tt)))
    (λ g rest any. (no_bar g rest, tt))))) (λ x. refl) (λ y. refl)

or_trigger_exact : Exact or_trigger_at or_trigger Anything
unfolding or_trigger_at
or_trigger_exact = Exact-behind (word_exact words.Or) trigger_exact

triggers_exact : Exact triggers_at triggers Anything
unfolding triggers_at comes_word
triggers_exact =
    Exact-as _ (λ t. (t.first, t.others)) triggers
    (Exact-behind (word_exact words.Triggers) (Exact-behind (mark_exact marks.OpenBrace) (Exact-then trigger_exact
    (Exact-before (Exact-many (comes_word words.Or) or_trigger_exact (λ t rest. (refl, tt, omega arith))) (mark_exact marks.CloseBrace) (λ rest. (refl, tt)))))) (λ x. refl) (λ y. refl)

-- ---- where transitions begin and lead

abbrev NoOf : List TokenValue → Type 0
NoOf rest = comes_word words.Of rest ≡ false

abbrev of_name : List ℕ → List TokenValue
of_name n = AWord words.Of ∷ AName n ∷ []

pair_exact : Exact (name_at ⊕ optional (comes_word words.Of) (word words.Of ▹ name_at)) (λ x. AName x.0 ∷ maybe of_name x.1) NoOf
unfolding comes_word
pair_exact = Exact-then name_exact (Exact-where (Exact-maybe (comes_word words.Of) (Exact-behind (word_exact words.Of) name_exact) (λ n rest. refl)) (λ rest ends. (ends, tt)))

named_same : (x : List ℕ × Option (List ℕ)) → target (named_from x) ≡ AName x.0 ∷ maybe of_name x.1
named_same (n, None) = refl
named_same (p, Some s) = refl

target_takes : (ts : List TokenValue) (z : Target × List TokenValue) → target_at ts ≡ Some z → ts ≡ target z.0 ++ z.1
unfolding target_at named_at
target_takes ts z e =
    either_takes (comes_word words.Cp ts) _ _ (Some z) (case_takes targets.Choice target (Exact-behind (word_exact words.Cp) name_exact) (λ x. refl) ts z)
    (λ f. either_takes (comes_word words.My ts) _ _ (Some z) (case_takes targets.My target (Exact-behind (word_exact words.My) name_exact) (λ x. refl) ts z) (case_takes named_from target pair_exact named_same ts z) f) e

target_again : (t : Target) (rest : List TokenValue) → NoOf rest → target_at (target t ++ rest) ≡ Some (t, rest)
unfolding target_at named_at comes_word
target_again (targets.Bare n) rest ends = case_again named_from pair_exact (n, None) rest ends
target_again (targets.Choice n) rest ends = case_again targets.Choice (Exact-behind (word_exact words.Cp) name_exact) n rest tt
target_again (targets.My n) rest ends = case_again targets.My (Exact-behind (word_exact words.My) name_exact) n rest tt
target_again (targets.Of p s) rest ends = case_again named_from pair_exact (p, Some s) rest ends

target_exact : Exact target_at target NoOf
target_exact = record { takes = target_takes; again = target_again }

source_takes : (ts : List TokenValue) (z : Source × List TokenValue) → source_at ts ≡ Some z → ts ≡ source z.0 ++ z.1
unfolding source_at
source_takes ts z e =
    either_takes (comes_word words.Initial ts) _ _ (Some z) (case_takes (λ (x : Unit {0}). sources.Initial) source (word_exact words.Initial) (λ x. refl) ts z) (case_takes sources.At source target_exact (λ x. refl) ts z) e

source_again : (s : Source) (rest : List TokenValue) → NoOf rest → source_at (source s ++ rest) ≡ Some (s, rest)
unfolding source_at comes_word
source_again sources.Initial rest ends = case_again (λ (x : Unit {0}). sources.Initial) (word_exact words.Initial) tt rest tt
source_again (sources.At (targets.Bare n)) rest ends = case_again sources.At target_exact (targets.Bare n) rest ends
source_again (sources.At (targets.Choice n)) rest ends = case_again sources.At target_exact (targets.Choice n) rest ends
source_again (sources.At (targets.My n)) rest ends = case_again sources.At target_exact (targets.My n) rest ends
source_again (sources.At (targets.Of p s)) rest ends = case_again sources.At target_exact (targets.Of p s) rest ends

source_exact : Exact source_at source NoOf
source_exact = record { takes = source_takes; again = source_again }

-- ---- transitions

no_triggers : (c a : Option Code) (rest : List TokenValue) → comes_word words.Triggers ((maybe (word_code words.Cond) c ++ (maybe (word_code words.Action) a ++ AMark marks.CloseBrace ∷ [])) ++ rest) ≡ false
unfolding comes_word
no_triggers None None rest = refl
no_triggers None (Some a) rest = refl
no_triggers (Some c) a rest = refl

no_cond : (a : Option Code) (rest : List TokenValue) → comes_word words.Cond ((maybe (word_code words.Action) a ++ AMark marks.CloseBrace ∷ []) ++ rest) ≡ false
unfolding comes_word
no_cond None rest = refl
no_cond (Some a) rest = refl

body_exact : Exact transition_body_at transition_body Anything
unfolding transition_body_at comes_word
body_exact =
    Exact-as _ (λ b. (b.triggers, (b.condition, b.action))) transition_body
    (Exact-behind (mark_exact marks.OpenBrace)
    (Exact-⊕ (Exact-maybe (comes_word words.Triggers) triggers_exact (λ t rest. refl))
    (Exact-⊕ (Exact-maybe (comes_word words.Cond) (word_code_exact words.Cond) (λ c rest. refl))
    (Exact-before (Exact-maybe (comes_word words.Action) (word_code_exact words.Action) (λ c rest. refl)) (mark_exact marks.CloseBrace) (λ rest. (refl, tt)))
    (λ a rest any. (no_cond a rest, tt)))
    (λ y rest any. (no_triggers y.0 y.1 rest, tt)))) (λ x. refl) (λ y. refl)

-- what may follow an item of a graph: neither what goes on a target nor a body
pub record EndsItem (rest : List TokenValue) : Type 0 where
  pub no_of : comes_word words.Of rest ≡ false
  pub no_brace : comes marks.OpenBrace rest ≡ false

body_no_of : (b : Option TransitionBody) (rest : List TokenValue) → EndsItem rest → NoOf (maybe transition_body b ++ rest)
unfolding comes_word
body_no_of None rest ends = ends.no_of
body_no_of (Some b) rest ends = refl

pub transition_exact : Exact transition_at transition EndsItem
unfolding transition_at comes comes_name comes_word
transition_exact =
    Exact-as _ (λ t. (t.name, (t.source, (t.target, t.body)))) transition
    (Exact-behind (word_exact words.Transition)
    (Exact-⊕ (Exact-maybe comes_name name_exact (λ n rest. refl))
    (Exact-behind (mark_exact marks.Colon)
    (Exact-⊕ source_exact
    (Exact-behind (mark_exact marks.Arrow)
    (Exact-⊕ target_exact (Exact-where (Exact-maybe (comes marks.OpenBrace) body_exact (λ b rest. refl)) (λ rest ends. (ends.no_brace, tt)))
    (λ b rest ends. body_no_of b rest ends)))
    (λ y rest ends. refl)))
    (λ y rest ends. (refl, tt)))) (λ x. refl) (λ y. refl)

-- ---- choice points and points

pub choice_point_exact : Exact choice_point_at choice_point Anything
unfolding choice_point_at
choice_point_exact = Exact-as _ (λ c. c.name) choice_point (Exact-behind (word_exact words.ChoicePoint) name_exact) (λ x. refl) (λ y. refl)

some_is : {A : Type 0} (x y : A) → Some x ≡ Some y → x ≡ y
some_is x y e = cc

kind_told : (w : Option Word) (k : PointKind) → point_kind_of w ≡ Some k → w ≡ Some (point_word k)
kind_told (Some words.TransitionPoint) k e = ap (λ (j : PointKind). Some (point_word j)) (some_is points.Transition k e)
kind_told (Some words.EntryPoint) k e = ap (λ (j : PointKind). Some (point_word j)) (some_is points.Entry k e)
kind_told (Some words.ExitPoint) k e = ap (λ (j : PointKind). Some (point_word j)) (some_is points.Exit k e)
kind_told w k e = absurd cc

kind_back : (k : PointKind) → point_kind_of (Some (point_word k)) ≡ Some k
kind_back points.Transition = refl
kind_back points.Entry = refl
kind_back points.Exit = refl

pub point_exact : Exact point_at point Anything
unfolding point_at
point_exact = Exact-as _ (λ p. (p.kind, p.name)) point (Exact-then (Exact-word point_kind_of point_word kind_told kind_back) name_exact) (λ x. refl) (λ y. refl)
