-- Protocol classes and data classes are read as their tokens are written, and nothing else is.
use Rattle.std.proofs.Common.{◌≡◌, ℕ, ◌<◌, true, false, List, [], ◌∷◌, ◌++◌, length, Option, Some, None, refl, ◌∙◌, arith}
use Rattle.room_lexer.specs.declared.token.Mark.TheVariants as marks
use Rattle.room_lexer.specs.declared.word.Word.{Word}
use Rattle.room_lexer.specs.declared.word.Word.TheVariants as words
use Rattle.room_ast.specs.Values.{TokenValue, AWord, AName, AMark}
use Rattle.room_ast.specs.Tokens.{maybe, braces, parameter, message, incoming, outgoing, section, attribute, word_if, protocol_class, data_item, data_class}
use Rattle.room_ast.specs.declared.protocol.Attribute.{Attribute}
use Rattle.room_ast.specs.declared.protocol.DataItem.{DataItem}
use Rattle.room_ast.specs.declared.protocol.DataItem.TheVariants as fields
use Rattle.room_ast.specs.declared.protocol.Message.{Message}
use Rattle.room_ast.specs.declared.protocol.Parameter.{Parameter}
use Rattle.room_ast.specs.declared.protocol.Parameter.TheVariants as parameters
use Rattle.room_ast.specs.declared.protocol.UsercodeSection.{UsercodeSection}
use Rattle.room_ast.specs.declared.protocol.UsercodeSection.TheVariants as sections
use Rattle.room_tokens.specs.Reader.{reads_as}
use Rattle.room_tokens.specs.Single.{comes, comes_word, comes_name, before_close, word_here}
use Rattle.room_tokens.proofs.Readers.{Anything}
use Rattle.room_tokens.proofs.Exact.{Exact, mark_exact, word_exact, name_exact, Exact-then, Exact-⊕, Exact-behind, Exact-before, Exact-as, Exact-maybe, Exact-many, Exact-flag, Exact-braces, Exact-where, case_takes, case_again}
use Rattle.structure_parser.specs.value_parser.Values.{usercode_comes, usercode_at, attribute_at}
use Rattle.structure_parser.specs.value_parser.Protocols.{typed_at, parameter_from, parameter_at, message_at, messages_at, protocol_at, data_item_from, data_item_at, data_class_at}
use Rattle.structure_parser.proofs.value_parser.ExactValues.{attribute_exact, NoValue, usercode_exact, usercode_here}

-- ---- messages

abbrev colon_name : List ℕ → List TokenValue
colon_name n = AMark marks.Colon ∷ AName n ∷ []

abbrev typed : List ℕ × Option (List ℕ) → List TokenValue
typed x = AName x.0 ∷ maybe colon_name x.1

typed_exact : Exact typed_at typed (λ rest. comes marks.Colon rest ≡ false)
unfolding typed_at comes
typed_exact = Exact-then name_exact (Exact-where (Exact-maybe (comes marks.Colon) (Exact-behind (mark_exact marks.Colon) name_exact) (λ n rest. refl)) (λ rest no. (no, tt)))

abbrev in_parens : Option (List ℕ × Option (List ℕ)) → List TokenValue
in_parens x = AMark marks.OpenParen ∷ (maybe typed x ++ AMark marks.CloseParen ∷ [])

parameter_same : (x : Option (Option (List ℕ × Option (List ℕ)))) → parameter (parameter_from x) ≡ maybe in_parens x
parameter_same None = refl
parameter_same (Some None) = refl
parameter_same (Some (Some (n, None))) = refl
parameter_same (Some (Some (n, Some t))) = refl

abbrev parts_of : Parameter → Option (Option (List ℕ × Option (List ℕ)))
parts_of parameters.Absent = None
parts_of parameters.Empty = Some None
parts_of (parameters.Typed t) = Some (Some (t, None))
parts_of (parameters.Labelled label t) = Some (Some (label, Some t))

parameter_back : (p : Parameter) → parameter_from (parts_of p) ≡ p
parameter_back parameters.Absent = refl
parameter_back parameters.Empty = refl
parameter_back (parameters.Typed t) = refl
parameter_back (parameters.Labelled label t) = refl

abbrev NoParens : List TokenValue → Type 0
NoParens rest = comes marks.OpenParen rest ≡ false

parameter_exact : Exact parameter_at parameter NoParens
unfolding parameter_at comes comes_name
parameter_exact =
    Exact-as parameter_from parts_of parameter
    (Exact-where (Exact-maybe (comes marks.OpenParen) (Exact-behind (mark_exact marks.OpenParen) (Exact-before (Exact-maybe comes_name typed_exact (λ x rest. refl)) (mark_exact marks.CloseParen) (λ rest. (refl, refl)))) (λ x rest. refl)) (λ rest no. (no, tt)))
    parameter_same parameter_back

message_exact : Exact message_at message NoParens
unfolding message_at
message_exact = Exact-as _ (λ m. (m.name, m.parameter)) message (Exact-behind (word_exact words.Message) (Exact-then name_exact parameter_exact)) (λ x. refl) (λ y. refl)

messages_exact : (w : Word) → Exact (messages_at w) (λ ms. AWord w ∷ braces message ms) Anything
unfolding messages_at before_close comes
messages_exact w = Exact-behind (word_exact w) (Exact-braces message_exact (λ m rest. (refl, refl, omega arith)) (λ rest. refl))

-- ---- protocol classes

-- what comes behind usercode
no_usercode : (i o : Option (List Message)) (rest : List TokenValue) → usercode_comes ((maybe incoming i ++ (maybe outgoing o ++ AMark marks.CloseBrace ∷ [])) ++ rest) ≡ false
unfolding usercode_comes word_here
no_usercode None None rest = refl
no_usercode None (Some o) rest = refl
no_usercode (Some i) o rest = refl

-- what comes behind incoming messages
no_incoming : (o : Option (List Message)) (rest : List TokenValue) → comes_word words.Incoming ((maybe outgoing o ++ AMark marks.CloseBrace ∷ []) ++ rest) ≡ false
unfolding comes_word
no_incoming None rest = refl
no_incoming (Some o) rest = refl

usercode_begins : (s : UsercodeSection) (us rest : List TokenValue) → usercode_comes (AWord (section s) ∷ us ++ rest) ≡ true
usercode_begins s us rest = usercode_here s (us ++ rest)

pub protocol_exact : Exact protocol_at protocol_class Anything
unfolding protocol_at comes_word
protocol_exact =
    Exact-as _ (λ p. (p.event_driven, (p.name, (p.usercodes, (p.incoming, p.outgoing))))) protocol_class
    (Exact-⊕ (Exact-flag (comes_word words.EventDriven) (word_if words.EventDriven) (word_exact words.EventDriven) refl refl (λ rest. refl))
    (Exact-behind (word_exact words.ProtocolClass) (Exact-then name_exact (Exact-behind (mark_exact marks.OpenBrace)
    (Exact-⊕ (Exact-many usercode_comes usercode_exact (λ u rest. (usercode_here u.section _, tt, omega arith)))
    (Exact-⊕ (Exact-maybe (comes_word words.Incoming) (messages_exact words.Incoming) (λ ms rest. refl))
    (Exact-before (Exact-maybe (comes_word words.Outgoing) (messages_exact words.Outgoing) (λ ms rest. refl)) (mark_exact marks.CloseBrace) (λ rest. (refl, tt)))
    (λ o rest any. (no_incoming o rest, tt)))
    (λ y rest any. (no_usercode y.0 y.1 rest, tt))))))
    (λ y rest any. (refl, tt))) (λ x. refl) (λ y. refl)

-- ---- data classes

data_item_takes : (w : Option Word) (ts : List TokenValue) (z : DataItem × List TokenValue) → data_item_from w ts ≡ Some z → ts ≡ data_item z.0 ++ z.1
data_item_takes (Some words.Attribute) ts z e = case_takes fields.Attribute data_item attribute_exact (λ a. refl) ts z e
data_item_takes (Some words.Usercode) ts z e = case_takes fields.Usercode data_item usercode_exact (λ u. refl) ts z e
data_item_takes (Some words.Usercode1) ts z e = case_takes fields.Usercode data_item usercode_exact (λ u. refl) ts z e
data_item_takes (Some words.Usercode2) ts z e = case_takes fields.Usercode data_item usercode_exact (λ u. refl) ts z e
data_item_takes (Some words.Usercode3) ts z e = case_takes fields.Usercode data_item usercode_exact (λ u. refl) ts z e
data_item_takes w ts z e = absurd cc

usercode_item : (s : UsercodeSection) (ts : List TokenValue) → data_item_at (AWord (section s) ∷ ts) ≡ reads_as fields.Usercode usercode_at (AWord (section s) ∷ ts)
unfolding data_item_at word_here
usercode_item sections.Plain ts = refl
usercode_item sections.First ts = refl
usercode_item sections.Second ts = refl
usercode_item sections.Third ts = refl

attribute_item : (a : Attribute) (rest : List TokenValue) → data_item_at (attribute a ++ rest) ≡ reads_as fields.Attribute attribute_at (attribute a ++ rest)
unfolding data_item_at word_here
attribute_item a rest = refl

data_item_again : (i : DataItem) (rest : List TokenValue) → NoValue rest → data_item_at (data_item i ++ rest) ≡ Some (i, rest)
data_item_again (fields.Attribute a) rest ends = attribute_item a rest ∙ case_again fields.Attribute attribute_exact a rest ends
data_item_again (fields.Usercode u) rest ends = usercode_item u.section _ ∙ case_again fields.Usercode usercode_exact u rest tt

data_item_exact : Exact data_item_at data_item NoValue
unfolding data_item_at
data_item_exact = record { takes = λ ts z e. data_item_takes (word_here ts) ts z e; again = data_item_again }

data_item_begins : (i : DataItem) (rest : List TokenValue) → (before_close (data_item i ++ rest) ≡ true) × NoValue (data_item i ++ rest) × (0 < length (data_item i))
unfolding before_close comes
data_item_begins (fields.Attribute a) rest = (refl, refl, omega arith)
data_item_begins (fields.Usercode u) rest = (refl, refl, omega arith)

pub data_class_exact : Exact data_class_at data_class Anything
unfolding data_class_at comes
data_class_exact =
    Exact-as _ (λ d. (d.name, d.items)) data_class
    (Exact-behind (word_exact words.DataClass) (Exact-then name_exact (Exact-braces data_item_exact data_item_begins (λ rest. refl)))) (λ x. refl) (λ y. refl)
