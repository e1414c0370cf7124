-- Ports and services are read as their tokens are written, and nothing else is.
use Rattle.std.proofs.Common.{◌≡◌, true, List, [], ◌∷◌, ◌++◌, Some, refl}
use Rattle.room_lexer.specs.declared.token.Mark.TheVariants as marks
use Rattle.room_lexer.specs.declared.word.Word.TheVariants as words
use Rattle.room_ast.specs.Values.{TokenValue, ANumber, AMark}
use Rattle.room_ast.specs.Tokens.{word_if, places_tokens, port, external_port, provision, access, implementation}
use Rattle.room_ast.specs.declared.actor.Places.{Places}
use Rattle.room_ast.specs.declared.actor.Places.TheVariants as places
use Rattle.room_tokens.specs.Single.{comes, comes_word}
use Rattle.room_tokens.proofs.Readers.{taken, Anything}
use Rattle.room_tokens.proofs.Exact.{Exact, mark_exact, word_exact, name_exact, Exact-then, Exact-⊕, Exact-behind, Exact-before, Exact-as, Exact-maybe, Exact-flag, Exact-out}
use Rattle.structure_parser.specs.Ports.{place_count_at, places_at, port_at, external_port_at, provision_at, access_at, implementation_at}

abbrev count_tokens : Places → List TokenValue
count_tokens (places.Number n) = ANumber n ∷ []
count_tokens places.Any = AMark marks.Star ∷ []

count_takes : (ts : List TokenValue) (z : Places × List TokenValue) → place_count_at ts ≡ Some z → ts ≡ count_tokens z.0 ++ z.1
unfolding place_count_at
count_takes (ANumber n ∷ ts) z e = taken count_tokens (ANumber n ∷ ts) (places.Number n, ts) z refl e
count_takes (AMark marks.Star ∷ ts) z e = taken count_tokens (AMark marks.Star ∷ ts) (places.Any, ts) z refl e
count_takes ts z e = absurd cc

count_again : (x : Places) (rest : List TokenValue) → Unit {0} → place_count_at (count_tokens x ++ rest) ≡ Some (x, rest)
unfolding place_count_at
count_again (places.Number n) rest any = refl
count_again places.Any rest any = refl

count_exact : Exact place_count_at count_tokens Anything
count_exact = record { takes = count_takes; again = count_again }

in_brackets : (x : Places) → places_tokens x ≡ AMark marks.OpenBracket ∷ (count_tokens x ++ AMark marks.CloseBracket ∷ [])
in_brackets (places.Number n) = refl
in_brackets places.Any = refl

places_exact : Exact places_at places_tokens Anything
unfolding places_at
places_exact = Exact-out places_tokens (Exact-behind (mark_exact marks.OpenBracket) (Exact-before count_exact (mark_exact marks.CloseBracket) (λ rest. tt))) in_brackets

places_here : (x : Places) (rest : List TokenValue) → comes marks.OpenBracket (places_tokens x ++ rest) ≡ true
unfolding comes
places_here (places.Number n) rest = refl
places_here places.Any rest = refl

pub port_exact : Exact port_at port Anything
unfolding port_at comes_word comes
port_exact =
    Exact-as _ (λ p. (p.conjugated, (p.name, (p.places, p.protocol)))) port
    (Exact-⊕ (Exact-flag (comes_word words.Conjugated) (word_if words.Conjugated) (word_exact words.Conjugated) refl refl (λ rest. refl))
    (Exact-behind (word_exact words.Port) (Exact-then name_exact
    (Exact-⊕ (Exact-maybe (comes marks.OpenBracket) places_exact places_here) (Exact-behind (mark_exact marks.Colon) name_exact) (λ y rest any. (refl, tt)))))
    (λ y rest any. (refl, tt))) (λ x. refl) (λ y. refl)

pub external_port_exact : Exact external_port_at external_port Anything
unfolding external_port_at
external_port_exact = Exact-as _ (λ e. e.name) external_port (Exact-behind (word_exact words.External) (Exact-behind (word_exact words.Port) name_exact)) (λ x. refl) (λ y. refl)

pub provision_exact : Exact provision_at provision Anything
unfolding provision_at
provision_exact = Exact-as _ (λ s. (s.name, s.protocol)) provision (Exact-behind (word_exact words.Spp) (Exact-then name_exact (Exact-behind (mark_exact marks.Colon) name_exact))) (λ x. refl) (λ y. refl)

pub access_exact : Exact access_at access Anything
unfolding access_at
access_exact = Exact-as _ (λ s. (s.name, s.protocol)) access (Exact-behind (word_exact words.Sap) (Exact-then name_exact (Exact-behind (mark_exact marks.Colon) name_exact))) (λ x. refl) (λ y. refl)

pub implementation_exact : Exact implementation_at implementation Anything
unfolding implementation_at
implementation_exact = Exact-as _ (λ i. i.name) implementation (Exact-behind (word_exact words.ServiceImplementation) (Exact-behind (word_exact words.Of) name_exact)) (λ x. refl) (λ y. refl)
