-- Values, attributes and usercode are read as their tokens are written, and nothing else is.
use Rattle.std.proofs.Common.{◌≡◌, ℕ, true, false, List, [], ◌∷◌, ◌++◌, Option, Some, None, refl, ap, arith}
use Rattle.std.specs.Prelude.{option_map, option_and_then}
use Rattle.room_lexer.specs.declared.token.Mark.TheVariants as marks
use Rattle.room_lexer.specs.declared.word.Word.{Word}
use Rattle.room_lexer.specs.declared.word.Word.TheVariants as words
use Rattle.room_ast.specs.Values.{TokenValue, AWord, ANumber, AString, AMark}
use Rattle.room_ast.specs.Tokens.{value_tokens, equals_value, attribute, section, empty_string, usercode, string}
use Rattle.room_ast.specs.declared.protocol.EmptyString.{EmptyString}
use Rattle.room_ast.specs.declared.protocol.PlainValue.TheVariants as plain
use Rattle.room_ast.specs.declared.protocol.UsercodeSection.{UsercodeSection}
use Rattle.room_ast.specs.declared.protocol.UsercodeSection.TheVariants as sections
use Rattle.room_ast.specs.declared.protocol.Value.{Value}
use Rattle.room_ast.specs.declared.protocol.Value.TheVariants as values
use Rattle.room_tokens.specs.Reader.{rest_of}
use Rattle.room_tokens.specs.Single.{comes, before_close, word_here, string_at}
use Rattle.room_tokens.proofs.Readers.{taken, Anything}
use Rattle.room_tokens.proofs.Singles.{word_here_is}
use Rattle.room_tokens.proofs.Exact.{Exact, mark_exact, word_exact, name_exact, number_exact, string_exact, Exact-then, Exact-behind, Exact-as, Exact-maybe, Exact-braces, Exact-where, case_again}
use Rattle.room_tokens.proofs.Readers.{behind_takes}
use Rattle.room_tokens.proofs.Singles.{number_sound}
use Rattle.structure_parser.specs.value_parser.Values.{value_at, equals_value_at, attribute_at, section_of, section_at, usercode_comes, empty_if, empty_string_at, usercode_at}

-- ---- values

value_takes : (ts : List TokenValue) (z : Value × List TokenValue) → value_at ts ≡ Some z → ts ≡ value_tokens z.0 ++ z.1
unfolding value_at
value_takes (ANumber n ∷ ts) z e = taken value_tokens (ANumber n ∷ ts) (values.Plain (plain.Number n), ts) z refl e
value_takes (AMark marks.Minus ∷ ts) z e = behind_takes (AMark marks.Minus) _ _ (λ n. values.Plain (plain.Negative n)) value_tokens number_sound (λ n. refl) ts z e
value_takes (AWord words.True ∷ ts) z e = taken value_tokens (AWord words.True ∷ ts) (values.Plain plain.True, ts) z refl e
value_takes (AWord words.False ∷ ts) z e = taken value_tokens (AWord words.False ∷ ts) (values.Plain plain.False, ts) z refl e
value_takes (AString text (Some v) ∷ ts) z e = taken value_tokens (AString text (Some v) ∷ ts) (values.Quoted text v, ts) z refl e
value_takes ts z e = absurd cc

value_again : (v : Value) (rest : List TokenValue) → Unit {0} → value_at (value_tokens v ++ rest) ≡ Some (v, rest)
unfolding value_at
value_again (values.Plain (plain.Number n)) rest any = refl
value_again (values.Plain (plain.Negative n)) rest any = case_again (λ n. values.Plain (plain.Negative n)) number_exact n rest tt
value_again (values.Plain plain.True) rest any = refl
value_again (values.Plain plain.False) rest any = refl
value_again (values.Quoted text v) rest any = refl

pub value_exact : Exact value_at value_tokens Anything
value_exact = record { takes = value_takes; again = value_again }

equals_value_exact : Exact equals_value_at equals_value Anything
unfolding equals_value_at
equals_value_exact = Exact-behind (mark_exact marks.Equals) value_exact

abbrev pub NoValue : List TokenValue → Type 0
NoValue rest = comes marks.Equals rest ≡ false

pub attribute_exact : Exact attribute_at attribute NoValue
unfolding attribute_at comes
attribute_exact =
    Exact-as _ (λ a. (a.name, (a.type_name, a.value))) attribute
    (Exact-behind (word_exact words.Attribute) (Exact-then name_exact (Exact-behind (mark_exact marks.Colon) (Exact-then name_exact
    (Exact-where (Exact-maybe (comes marks.Equals) equals_value_exact (λ v rest. refl)) (λ rest no. (no, tt))))))) (λ x. refl) (λ y. refl)

-- ---- usercode

some_is : {A : Type 0} (x y : A) → Some x ≡ Some y → x ≡ y
some_is x y e = cc

section_word : (w : Option Word) (s : UsercodeSection) → section_of w ≡ Some s → w ≡ Some (section s)
section_word (Some words.Usercode) s e = ap (λ (t : UsercodeSection). Some (section t)) (some_is sections.Plain s e)
section_word (Some words.Usercode1) s e = ap (λ (t : UsercodeSection). Some (section t)) (some_is sections.First s e)
section_word (Some words.Usercode2) s e = ap (λ (t : UsercodeSection). Some (section t)) (some_is sections.Second s e)
section_word (Some words.Usercode3) s e = ap (λ (t : UsercodeSection). Some (section t)) (some_is sections.Third s e)
section_word w s e = absurd cc

section_taken : (ts : List TokenValue) (o : Option UsercodeSection) → section_of (word_here ts) ≡ o → (z : UsercodeSection × List TokenValue) → option_map (λ (s : UsercodeSection). (s, rest_of ts)) o ≡ Some z → ts ≡ AWord (section z.0) ∷ z.1
section_taken ts None h z e = absurd cc
section_taken ts (Some s) h z e = taken (λ (t : UsercodeSection). AWord (section t) ∷ []) ts (s, rest_of ts) z (word_here_is (section s) ts (section_word (word_here ts) s h)) e

section_again : (s : UsercodeSection) (rest : List TokenValue) → Unit {0} → section_at (AWord (section s) ∷ rest) ≡ Some (s, rest)
unfolding section_at word_here
section_again sections.Plain rest any = refl
section_again sections.First rest any = refl
section_again sections.Second rest any = refl
section_again sections.Third rest any = refl

section_exact : Exact section_at (λ s. AWord (section s) ∷ []) Anything
unfolding section_at
section_exact = record { takes = λ ts z e. section_taken ts (section_of (word_here ts)) refl z e; again = section_again }

empty_taken : (ts : List TokenValue) (r : Option (List ℕ × List TokenValue)) → string_at ts ≡ r → (z : EmptyString × List TokenValue) → option_and_then empty_if r ≡ Some z → ts ≡ string [] ++ z.1
empty_taken ts None h z e = absurd cc
empty_taken ts (Some ([], us)) h z e = taken empty_string ts (record {}, us) z (string_exact.takes ts ([], us) h) e
empty_taken ts (Some (b ∷ bs, us)) h z e = absurd cc

empty_string_exact : Exact empty_string_at empty_string Anything
unfolding empty_string_at
empty_string_exact = record {
  takes = λ ts z e. empty_taken ts (string_at ts) refl z e;
  again = λ s rest any. ap (λ (r : Option (List ℕ × List TokenValue)). option_and_then empty_if r) (string_exact.again [] rest tt);
}

pub usercode_exact : Exact usercode_at usercode Anything
unfolding usercode_at before_close comes
usercode_exact =
    Exact-as _ (λ u. (u.section, u.strings)) usercode (Exact-then section_exact (Exact-braces empty_string_exact (λ s rest. (refl, tt, omega arith)) (λ rest. tt))) (λ x. refl) (λ y. refl)

pub usercode_here : (s : UsercodeSection) (rest : List TokenValue) → usercode_comes (AWord (section s) ∷ rest) ≡ true
unfolding usercode_comes word_here
usercode_here sections.Plain rest = refl
usercode_here sections.First rest = refl
usercode_here sections.Second rest = refl
usercode_here sections.Third rest = refl
