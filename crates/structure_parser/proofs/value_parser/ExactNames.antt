-- Names joined by dots and imports are read as their tokens are written, and nothing else is.
use Rattle.std.proofs.Common.{◌≡◌, ℕ, Bool, true, false, List, ◌∷◌, ◌++◌, Option, Some, None, refl, arith}
use Rattle.room_lexer.specs.declared.token.Mark.TheVariants as marks
use Rattle.room_lexer.specs.declared.word.Word.TheVariants as words
use Rattle.room_ast.specs.Values.{TokenValue, AMark}
use Rattle.room_ast.specs.Tokens.{maybe, dot_name, dotted, all_if, word_if, import_source, import_tokens}
use Rattle.room_ast.specs.declared.model.ImportSource.{ImportSource}
use Rattle.room_tokens.specs.Single.{comes, comes_word, comes_string}
use Rattle.room_tokens.proofs.Readers.{Anything}
use Rattle.room_tokens.proofs.Exact.{Exact, mark_exact, word_exact, name_exact, string_exact, Exact-then, Exact-⊕, Exact-behind, Exact-as, Exact-many, Exact-maybe, Exact-flag, Exact-where}
use Rattle.structure_parser.specs.value_parser.Names.{dot_name_at, dotted_at, goes_on_in_path, path_at, all_at, source_at, source_comes, import_at}

pub dot_name_exact : Exact dot_name_at dot_name Anything
unfolding dot_name_at
dot_name_exact = Exact-behind (mark_exact marks.Dot) name_exact

abbrev pub NoDot : List TokenValue → Type 0
NoDot rest = comes marks.Dot rest ≡ false

pub dotted_exact : Exact dotted_at dotted NoDot
unfolding dotted_at comes
dotted_exact =
    Exact-as _ (λ d. (d.first, d.others)) dotted
    (Exact-then name_exact (Exact-where (Exact-many (comes marks.Dot) dot_name_exact (λ n rest. (refl, tt, omega arith))) (λ rest no. (no, tt)))) (λ x. refl) (λ y. refl)

-- no further name comes: neither a dot, nor a dot with a name behind it
abbrev EndsPath : List TokenValue → Type 0
EndsPath rest = goes_on_in_path rest ≡ false

path_exact : Exact path_at dotted EndsPath
unfolding path_at goes_on_in_path comes
path_exact =
    Exact-as _ (λ d. (d.first, d.others)) dotted
    (Exact-then name_exact (Exact-where (Exact-many goes_on_in_path dot_name_exact (λ n rest. (refl, tt, omega arith))) (λ rest no. (no, tt)))) (λ x. refl) (λ y. refl)

all_exact : Exact all_at all_if NoDot
unfolding all_at comes
all_exact = Exact-where (Exact-flag (comes marks.Dot) all_if (Exact-behind (mark_exact marks.Dot) (mark_exact marks.Star)) refl refl (λ rest. refl)) (λ rest no. (no, tt))

source_exact : Exact source_at import_source Anything
unfolding source_at comes_word
source_exact =
    Exact-as _ (λ s. (s.has_word, s.text)) import_source
    (Exact-⊕ (Exact-flag (comes_word words.From) (word_if words.From) (word_exact words.From) refl refl (λ rest. refl)) string_exact (λ text rest any. (refl, tt))) (λ x. refl) (λ y. refl)

source_here : (b : Bool) (text : List ℕ) (rest : List TokenValue) → source_comes (import_source (record { has_word = b; text = text }) ++ rest) ≡ true
unfolding source_comes comes_word comes_string
source_here true text rest = refl
source_here false text rest = refl

-- an import may be followed by what is neither a dot nor where it comes from
pub record EndsImport (rest : List TokenValue) : Type 0 where
  pub no_dot : comes marks.Dot rest ≡ false
  pub no_source : source_comes rest ≡ false

source_no_dot : (b : Bool) (text : List ℕ) (rest : List TokenValue) → comes marks.Dot (import_source (record { has_word = b; text = text }) ++ rest) ≡ false
unfolding comes
source_no_dot true text rest = refl
source_no_dot false text rest = refl

source_if_no_dot : (o : Option ImportSource) (rest : List TokenValue) → EndsImport rest → comes marks.Dot (maybe import_source o ++ rest) ≡ false
source_if_no_dot None rest ends = ends.no_dot
source_if_no_dot (Some s) rest ends = source_no_dot s.has_word s.text rest

star_ends : (us : List TokenValue) → goes_on_in_path (AMark marks.Dot ∷ AMark marks.Star ∷ us) ≡ false
unfolding goes_on_in_path comes
star_ends us = refl

all_ends_path : (b : Bool) (o : Option ImportSource) (rest : List TokenValue) → EndsImport rest → goes_on_in_path ((all_if b ++ maybe import_source o) ++ rest) ≡ false
unfolding goes_on_in_path
all_ends_path true o rest ends = star_ends (maybe import_source o ++ rest)
all_ends_path false o rest ends = rw (source_if_no_dot o rest ends) refl

pub import_exact : Exact import_at import_tokens EndsImport
unfolding import_at
import_exact =
    Exact-as _ (λ i. (i.path, (i.all, i.source))) import_tokens
    (Exact-behind (word_exact words.Import)
    (Exact-⊕ path_exact
    (Exact-⊕ all_exact (Exact-where (Exact-maybe source_comes source_exact (λ s rest. source_here s.has_word s.text rest)) (λ rest ends. (ends.no_source, tt)))
    (λ o rest ends. source_if_no_dot o rest ends))
    (λ y rest ends. all_ends_path y.0 y.1 rest ends))) (λ x. refl) (λ y. refl)
