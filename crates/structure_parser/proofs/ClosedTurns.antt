-- One turn of the loop that reads mappings up to a closing brace.
use Rattle.std.proofs.Common.{◌≡◌, ℕ, suc, true, false, List, [], ◌∷◌, ◌++◌, map, reverse, Option, Some, None, refl, sym, ap, ◌∙◌, append-nil}
use Rattle.std.specs.Prelude.{option_and_then, length}
use Rattle.std.proofs.lemmas.List.{map_push, reverse-append}
use Rattle.room_lexer.specs.declared.token.Mark.TheVariants as marks
use Rattle.room_ast.specs.Values.{TokenValue}
use Rattle.room_ast.specs.MappingTree.{MappingTree, MappingOf, no_braces}
use Rattle.room_ast.specs.declared.system.MappingPath.{MappingPath}
use Rattle.room_tokens.specs.Reader.{Fails, rest_of}
use Rattle.room_tokens.specs.Single.{comes, before_close}
use Rattle.room_tokens.specs.declared.fault.ReadFault.{ReadFault}
use Rattle.room_tokens.specs.declared.fault.ReadFault.TheVariants as faults
use Rattle.structure_parser.specs.declared.mapping.OpenMapping.{OpenMapping}
use Rattle.structure_parser.specs.Mappings.{head_at, Frame, behind_head, filled, closed_in, closed_at, frame_view, frames_view}

abbrev Read : Type 0
Read = Option (List MappingTree × List TokenValue)

pub frames_push : (os : List OpenMapping) (o : OpenMapping) → frames_view (os ++ o ∷ []) ≡ frame_view o ∷ frames_view os
frames_push os o = ap (λ (fs : List Frame). reverse fs) (map_push frame_view os o) ∙ reverse-append (map frame_view os) (frame_view o ∷ [])

turn : (n : ℕ) (frames : List Frame) (found : List MappingTree) (ts : List TokenValue) → before_close ts ≡ true → closed_in (suc n) frames found ts ≡ option_and_then (behind_head (closed_in n) frames found) (head_at ts)
unfolding closed_in
turn n [] found ts on = rw on refl
turn n (f ∷ frames) found ts on = rw on refl

-- a mapping with braces
pub opens : (k n : ℕ) (frames : List Frame) (found : List MappingTree) (ts : List TokenValue) (path : MappingPath) (thread : List ℕ) (us : List TokenValue) (total : Read) → k ≡ suc n → before_close ts ≡ true → head_at ts ≡ Some ((path, thread), us) → comes marks.OpenBrace us ≡ true
    → closed_in k frames found ts ≡ total → closed_in n (record { path = path; thread = thread; before = found } ∷ frames) [] (rest_of us) ≡ total
opens k n frames found ts path thread us total is on head braces so_far =
    let one : option_and_then (behind_head (closed_in n) frames found) (head_at ts) ≡ closed_in n (record { path = path; thread = thread; before = found } ∷ frames) [] (rest_of us) = rw (head, braces) refl in
    sym one ∙ sym (turn n frames found ts on) ∙ ap (λ (m : ℕ). closed_in m frames found ts) (sym is) ∙ so_far

-- a mapping without braces
pub plain : (k n : ℕ) (frames : List Frame) (found : List MappingTree) (ts : List TokenValue) (path : MappingPath) (thread : List ℕ) (us : List TokenValue) (total : Read) → k ≡ suc n → before_close ts ≡ true → head_at ts ≡ Some ((path, thread), us) → comes marks.OpenBrace us ≡ false
    → closed_in k frames found ts ≡ total → closed_in n frames (found ++ MappingOf path thread no_braces ∷ []) us ≡ total
plain k n frames found ts path thread us total is on head braces so_far =
    let one : option_and_then (behind_head (closed_in n) frames found) (head_at ts) ≡ closed_in n frames (found ++ MappingOf path thread no_braces ∷ []) us = rw (head, braces) refl in
    sym one ∙ sym (turn n frames found ts on) ∙ ap (λ (m : ℕ). closed_in m frames found ts) (sym is) ∙ so_far

-- no mapping
pub fails : (e : ReadFault) (k n : ℕ) (frames : List Frame) (found : List MappingTree) (ts : List TokenValue) (total : Read) → k ≡ suc n → before_close ts ≡ true → Fails e (head_at ts) → closed_in k frames found ts ≡ total → Fails e total
fails faults.Memory k n frames found ts total is on none so_far = tt
fails (faults.Syntax place) k n frames found ts total is on none so_far =
    let one : option_and_then (behind_head (closed_in n) frames found) (head_at ts) ≡ None = rw none refl in
    sym so_far ∙ ap (λ (m : ℕ). closed_in m frames found ts) is ∙ turn n frames found ts on ∙ one

close_turn : (n : ℕ) (f : Frame) (frames : List Frame) (found : List MappingTree) (ts : List TokenValue) → before_close ts ≡ false → closed_in (suc n) (f ∷ frames) found ts ≡ closed_in n frames (f.before ++ filled f found ∷ []) (rest_of ts)
unfolding closed_in
close_turn n f frames found ts off = rw off refl

-- the braces of the innermost frame close
pub closes : (k n : ℕ) (f : Frame) (frames : List Frame) (found : List MappingTree) (ts : List TokenValue) (total : Read) → k ≡ suc n → before_close ts ≡ false → closed_in k (f ∷ frames) found ts ≡ total
    → closed_in n frames (f.before ++ filled f found ∷ []) (rest_of ts) ≡ total
closes k n f frames found ts total is off so_far = sym (close_turn n f frames found ts off) ∙ ap (λ (m : ℕ). closed_in m (f ∷ frames) found ts) (sym is) ∙ so_far

last_turn : (n : ℕ) (found : List MappingTree) (ts : List TokenValue) → before_close ts ≡ false → closed_in (suc n) [] found ts ≡ Some (found, rest_of ts)
unfolding closed_in
last_turn n found ts off = rw off refl

-- the outermost braces close
pub done : (k n : ℕ) (found : List MappingTree) (ts : List TokenValue) (total : Read) → k ≡ suc n → before_close ts ≡ false → closed_in k [] found ts ≡ total → total ≡ Some (found, rest_of ts)
done k n found ts total is off so_far = sym so_far ∙ ap (λ (m : ℕ). closed_in m [] found ts) is ∙ last_turn n found ts off

-- no turn is left
pub exhausted : (k : ℕ) (frames : List Frame) (found : List MappingTree) (ts : List TokenValue) (total : Read) → k ≡ 0 → closed_in k frames found ts ≡ total → total ≡ None
unfolding closed_in
exhausted k frames found ts total is so_far = sym so_far ∙ ap (λ (m : ℕ). closed_in m frames found ts) is

-- before the first turn
pub starts : (ts : List TokenValue) → closed_in (length ts) [] [] ts ≡ closed_at ts
unfolding closed_at
starts ts = refl

-- the last frame of the vector is the innermost
pub frames_pop : (os rest : List OpenMapping) (o : OpenMapping) → os ≡ rest ++ o ∷ [] → frames_view os ≡ frame_view o ∷ frames_view rest
frames_pop os rest o e = ap frames_view e ∙ frames_push rest o

-- no frame is left
pub no_frames : (os rest : List OpenMapping) → os ≡ rest ++ [] → rest ≡ [] → frames_view os ≡ []
no_frames os rest e none = ap frames_view (e ∙ append-nil rest ∙ none)
