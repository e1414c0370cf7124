-- Subsystem classes and the logical system are read as their tokens are written, and nothing else is.
use Rattle.std.proofs.Common.{◌≡◌, false, List, ◌∷◌, ◌++◌, Option, Some, None, refl, ◌∙◌, arith}
use Rattle.room_lexer.specs.declared.token.Mark.TheVariants as marks
use Rattle.room_lexer.specs.declared.word.Word.{Word}
use Rattle.room_lexer.specs.declared.word.Word.TheVariants as words
use Rattle.room_kinds.specs.declared.structure.ReferenceKind.{ReferenceKind}
use Rattle.room_kinds.specs.declared.structure.ReferenceKind.TheVariants as kinds
use Rattle.room_ast.specs.Values.{TokenValue, AWord}
use Rattle.room_ast.specs.MappingTree.{MappingTree, MappingOf}
use Rattle.room_ast.specs.Tokens.{maybe, ref_kind, thread, mapping_tokens, subsystem_item, subsystem, subsystem_ref, system}
use Rattle.room_ast.specs.Trees.{SubsystemItemTree, AReference, ABinding, ALayer, AThread, AMapping}
use Rattle.room_tokens.specs.Reader.{reads_as}
use Rattle.room_tokens.specs.Single.{comes, before_close, word_here}
use Rattle.room_tokens.proofs.Readers.{Anything}
use Rattle.room_tokens.proofs.Exact.{Exact, mark_exact, word_exact, name_exact, Exact-then, Exact-behind, Exact-as, Exact-braces, Exact-items, Begins, word_begins, case_takes, case_again}
use Rattle.structure_parser.specs.References.{actor_ref_at}
use Rattle.structure_parser.specs.Mappings.{mapping_at, subsystem_item_from, subsystem_item_at, subsystem_at, subsystem_ref_at, system_at}
use Rattle.structure_parser.proofs.ExactReferences.{actor_ref_exact, binding_exact, layer_exact, thread_exact}
use Rattle.structure_parser.proofs.ExactMappings.{mapping_exact}

-- what may follow an item: neither what goes on a binding's side nor what nests mappings
pub record EndsItem (rest : List TokenValue) : Type 0 where
  pub no_dot : comes marks.Dot rest ≡ false
  pub no_brace : comes marks.OpenBrace rest ≡ false

item_takes : (w : Option Word) (ts : List TokenValue) (z : SubsystemItemTree × List TokenValue) → subsystem_item_from w ts ≡ Some z → ts ≡ subsystem_item z.0 ++ z.1
item_takes (Some words.ActorRef) ts z e = case_takes AReference subsystem_item actor_ref_exact (λ x. refl) ts z e
item_takes (Some words.Fixed) ts z e = case_takes AReference subsystem_item actor_ref_exact (λ x. refl) ts z e
item_takes (Some words.Optional) ts z e = case_takes AReference subsystem_item actor_ref_exact (λ x. refl) ts z e
item_takes (Some words.Imported) ts z e = case_takes AReference subsystem_item actor_ref_exact (λ x. refl) ts z e
item_takes (Some words.Binding) ts z e = case_takes ABinding subsystem_item binding_exact (λ x. refl) ts z e
item_takes (Some words.LayerConnection) ts z e = case_takes ALayer subsystem_item layer_exact (λ x. refl) ts z e
item_takes (Some words.LogicalThread) ts z e = case_takes AThread subsystem_item thread_exact (λ x. refl) ts z e
item_takes (Some words.ActorInstanceMapping) ts z e = case_takes AMapping subsystem_item mapping_exact (λ x. refl) ts z e
item_takes w ts z e = absurd cc

reference_item : (k : Option ReferenceKind) (us rest : List TokenValue) → subsystem_item_at ((maybe ref_kind k ++ AWord words.ActorRef ∷ us) ++ rest) ≡ reads_as AReference actor_ref_at ((maybe ref_kind k ++ AWord words.ActorRef ∷ us) ++ rest)
unfolding subsystem_item_at word_here
reference_item None us rest = refl
reference_item (Some kinds.Fixed) us rest = refl
reference_item (Some kinds.Optional) us rest = refl
reference_item (Some kinds.Imported) us rest = refl

mapping_item : (m : MappingTree) (rest : List TokenValue) → subsystem_item_at (mapping_tokens m ++ rest) ≡ reads_as AMapping mapping_at (mapping_tokens m ++ rest)
unfolding subsystem_item_at word_here
mapping_item (MappingOf path thread nested) rest = refl

item_again : (i : SubsystemItemTree) (rest : List TokenValue) → EndsItem rest → subsystem_item_at (subsystem_item i ++ rest) ≡ Some (i, rest)
unfolding subsystem_item_at word_here
item_again (AReference r) rest ends = reference_item r.kind _ rest ∙ case_again AReference actor_ref_exact r rest tt
item_again (ABinding b) rest ends = case_again ABinding binding_exact b rest ends.no_dot
item_again (ALayer l) rest ends = case_again ALayer layer_exact l rest tt
item_again (AThread t) rest ends = case_again AThread thread_exact t rest tt
item_again (AMapping m) rest ends = mapping_item m rest ∙ case_again AMapping mapping_exact m rest ends.no_brace

item_exact : Exact subsystem_item_at subsystem_item EndsItem
unfolding subsystem_item_at
item_exact = record { takes = λ ts z e. item_takes (word_here ts) ts z e; again = item_again }

follows : (w : Word) (us : List TokenValue) → EndsItem (AWord w ∷ us)
unfolding comes
follows w us = record { no_dot = refl; no_brace = refl }

begins : (w : Word) (us rest : List TokenValue) → Begins EndsItem (AWord w ∷ us) rest
begins w us rest = word_begins w us rest (follows w (us ++ rest))

reference_begins : (k : Option ReferenceKind) (us rest : List TokenValue) → Begins EndsItem (maybe ref_kind k ++ AWord words.ActorRef ∷ us) rest
reference_begins None us rest = begins words.ActorRef us rest
reference_begins (Some kinds.Fixed) us rest = begins words.Fixed _ rest
reference_begins (Some kinds.Optional) us rest = begins words.Optional _ rest
reference_begins (Some kinds.Imported) us rest = begins words.Imported _ rest

item_begins : (i : SubsystemItemTree) (rest : List TokenValue) → Begins EndsItem (subsystem_item i) rest
item_begins (AReference r) rest = reference_begins r.kind _ rest
item_begins (ABinding b) rest = begins words.Binding _ rest
item_begins (ALayer l) rest = begins words.LayerConnection _ rest
item_begins (AThread t) rest = begins words.LogicalThread _ rest
item_begins (AMapping (MappingOf path thread nested)) rest = begins words.ActorInstanceMapping _ rest

pub subsystem_exact : Exact subsystem_at subsystem Anything
unfolding subsystem_at comes
subsystem_exact =
    Exact-as _ (λ s. (s.name, s.items)) subsystem
    (Exact-behind (word_exact words.SubSystemClass) (Exact-then name_exact (Exact-items item_exact item_begins (λ rest. record { no_dot = refl; no_brace = refl })))) (λ x. refl) (λ y. refl)

subsystem_ref_exact : Exact subsystem_ref_at subsystem_ref Anything
unfolding subsystem_ref_at
subsystem_ref_exact = Exact-as _ (λ r. (r.name, r.class)) subsystem_ref (Exact-behind (word_exact words.SubSystemRef) (Exact-then name_exact (Exact-behind (mark_exact marks.Colon) name_exact))) (λ x. refl) (λ y. refl)

pub system_exact : Exact system_at system Anything
unfolding system_at before_close comes
system_exact =
    Exact-as _ (λ s. (s.name, s.references)) system
    (Exact-behind (word_exact words.LogicalSystem) (Exact-then name_exact (Exact-braces subsystem_ref_exact (λ r rest. (refl, tt, omega arith)) (λ rest. tt)))) (λ x. refl) (λ y. refl)
