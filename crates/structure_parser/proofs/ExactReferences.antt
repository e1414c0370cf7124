-- Actor references, bindings, layer connections and threads are read as their tokens are written, and nothing else is.
use Rattle.std.proofs.Common.{◌≡◌, ℕ, false, List, [], ◌∷◌, Option, Some, None, refl, ap}
use Rattle.room_lexer.specs.declared.token.Mark.TheVariants as marks
use Rattle.room_lexer.specs.declared.word.Word.{Word}
use Rattle.room_lexer.specs.declared.word.Word.TheVariants as words
use Rattle.room_kinds.specs.declared.structure.ReferenceKind.{ReferenceKind}
use Rattle.room_kinds.specs.declared.structure.ReferenceKind.TheVariants as kinds
use Rattle.room_ast.specs.Values.{TokenValue, AWord, AName, AMark}
use Rattle.room_ast.specs.Tokens.{maybe, ref_kind, in_brackets, actor_ref, side, binding, layer, thread}
use Rattle.room_ast.specs.declared.actor.Side.{Side}
use Rattle.room_ast.specs.declared.actor.Side.TheVariants as sides
use Rattle.room_tokens.specs.Single.{comes, word_here, comes_as}
use Rattle.room_tokens.proofs.Readers.{Anything}
use Rattle.room_tokens.proofs.Exact.{Exact, mark_exact, word_exact, name_exact, number_exact, Exact-then, Exact-⊕, Exact-behind, Exact-before, Exact-as, Exact-maybe, Exact-out, Exact-where, Exact-word, comes_as_here}
use Rattle.structure_parser.specs.References.{kind_of, kind_at, count_at, actor_ref_at, side_from, side_at, binding_at, layer_at, thread_at}

-- ---- actor references

abbrev kind_word : ReferenceKind → Word
kind_word kinds.Fixed = words.Fixed
kind_word kinds.Optional = words.Optional
kind_word kinds.Imported = words.Imported

some_is : {A : Type 0} (x y : A) → Some x ≡ Some y → x ≡ y
some_is x y e = cc

kind_told : (w : Option Word) (k : ReferenceKind) → kind_of w ≡ Some k → w ≡ Some (kind_word k)
kind_told (Some words.Fixed) k e = ap (λ (j : ReferenceKind). Some (kind_word j)) (some_is kinds.Fixed k e)
kind_told (Some words.Optional) k e = ap (λ (j : ReferenceKind). Some (kind_word j)) (some_is kinds.Optional k e)
kind_told (Some words.Imported) k e = ap (λ (j : ReferenceKind). Some (kind_word j)) (some_is kinds.Imported k e)
kind_told w k e = absurd cc

kind_back : (k : ReferenceKind) → kind_of (Some (kind_word k)) ≡ Some k
kind_back kinds.Fixed = refl
kind_back kinds.Optional = refl
kind_back kinds.Imported = refl

kind_tokens : (k : Option ReferenceKind) → maybe ref_kind k ≡ maybe (λ j. AWord (kind_word j) ∷ []) k
kind_tokens None = refl
kind_tokens (Some kinds.Fixed) = refl
kind_tokens (Some kinds.Optional) = refl
kind_tokens (Some kinds.Imported) = refl

abbrev NoKind : List TokenValue → Type 0
NoKind rest = comes_as kind_of rest ≡ false

kind_exact : Exact kind_at (maybe ref_kind) NoKind
unfolding kind_at
kind_exact =
    Exact-out (maybe ref_kind)
    (Exact-where (Exact-maybe (comes_as kind_of) (Exact-word kind_of kind_word kind_told kind_back) (λ k rest. comes_as_here kind_of kind_word kind_back k rest)) (λ rest ends. (ends, tt)))
    kind_tokens

count_exact : Exact count_at in_brackets Anything
unfolding count_at
count_exact = Exact-behind (mark_exact marks.OpenBracket) (Exact-before number_exact (mark_exact marks.CloseBracket) (λ rest. tt))

pub actor_ref_exact : Exact actor_ref_at actor_ref Anything
unfolding actor_ref_at comes comes_as word_here
actor_ref_exact =
    Exact-as _ (λ r. (r.kind, (r.name, (r.count, r.class)))) actor_ref
    (Exact-⊕ kind_exact
    (Exact-behind (word_exact words.ActorRef) (Exact-then name_exact
    (Exact-⊕ (Exact-maybe (comes marks.OpenBracket) count_exact (λ n rest. refl)) (Exact-behind (mark_exact marks.Colon) name_exact) (λ y rest any. (refl, tt)))))
    (λ y rest any. refl)) (λ x. refl) (λ y. refl)

-- ---- bindings

abbrev dot_name : List ℕ → List TokenValue
dot_name n = AMark marks.Dot ∷ AName n ∷ []

side_same : (x : List ℕ × Option (List ℕ)) → side (side_from x) ≡ AName x.0 ∷ maybe dot_name x.1
side_same (n, None) = refl
side_same (n, Some m) = refl

abbrev side_parts : Side → List ℕ × Option (List ℕ)
side_parts (sides.Own own) = (own, None)
side_parts (sides.Inner reference inner) = (reference, Some inner)

side_back : (s : Side) → side_from (side_parts s) ≡ s
side_back (sides.Own own) = refl
side_back (sides.Inner reference inner) = refl

abbrev pub NoDot : List TokenValue → Type 0
NoDot rest = comes marks.Dot rest ≡ false

side_exact : Exact side_at side NoDot
unfolding side_at comes
side_exact =
    Exact-as side_from side_parts side
    (Exact-then name_exact (Exact-where (Exact-maybe (comes marks.Dot) (Exact-behind (mark_exact marks.Dot) name_exact) (λ n rest. refl)) (λ rest ends. (ends, tt)))) side_same side_back

pub binding_exact : Exact binding_at binding NoDot
unfolding binding_at comes
binding_exact = Exact-as _ (λ b. (b.left, b.right)) binding (Exact-behind (word_exact words.Binding) (Exact-⊕ side_exact (Exact-behind (word_exact words.And) side_exact) (λ y rest ends. refl))) (λ x. refl) (λ y. refl)

pub layer_exact : Exact layer_at layer Anything
unfolding layer_at
layer_exact =
    Exact-as _ (λ l. (l.reference, (l.provider, l.service))) layer
    (Exact-behind (word_exact words.LayerConnection) (Exact-behind (word_exact words.Ref) (Exact-then name_exact (Exact-behind (word_exact words.SatisfiedBy) (Exact-then name_exact (Exact-behind (mark_exact marks.Dot) name_exact))))))
    (λ x. refl) (λ y. refl)

pub thread_exact : Exact thread_at thread Anything
unfolding thread_at
thread_exact = Exact-as _ (λ t. t.name) thread (Exact-behind (word_exact words.LogicalThread) name_exact) (λ x. refl) (λ y. refl)
