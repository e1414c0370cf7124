-- Mappings are read as their tokens are written, and nothing else is.
use Rattle.std.proofs.Common.{◌≡◌, ℕ, zero, suc, ◌+◌, ◌≤◌, Bool, true, false, cond, List, [], ◌∷◌, ◌++◌, length, Option, Some, None, refl, sym, ap, ◌∙◌, append_assoc, append-nil, length-append, arith}
use Rattle.std.specs.Prelude.{option_and_then}
use Rattle.room_lexer.specs.declared.token.Mark.TheVariants as marks
use Rattle.room_lexer.specs.declared.word.Word.TheVariants as words
use Rattle.room_ast.specs.Values.{TokenValue, AWord, AName, AMark}
use Rattle.room_ast.specs.Tokens.{each, maybe, segment, slash_if, slash_segment, mapping_path, mapping_tokens, nested_tokens, mappings_tokens}
use Rattle.room_ast.specs.MappingTree.{MappingTree, MappingOf, NestedTree, no_braces, in_braces, Mappings, no_mappings, mapping, mappings_of}
use Rattle.room_ast.specs.declared.system.MappingPath.{MappingPath}
use Rattle.room_ast.specs.declared.system.Segment.{Segment}
use Rattle.room_tokens.specs.Reader.{rest_of}
use Rattle.room_tokens.specs.Single.{comes, before_close}
use Rattle.room_tokens.proofs.Readers.{Anything}
use Rattle.room_tokens.proofs.Singles.{comes_is, comes_here}
use Rattle.room_tokens.proofs.Exact.{Exact, mark_exact, word_exact, name_exact, number_exact, Exact-then, Exact-⊕, Exact-behind, Exact-as, Exact-maybe, Exact-many, Exact-flag, Exact-where}
use Rattle.structure_parser.specs.Mappings.{segment_at, slash_segment_at, path_at, head_at, Frame, behind_head, filled, closed_in, closed_at, nested_from, nested_at, mapping_at}

some_is : {A : Type 0} (x y : A) → Some x ≡ Some y → x ≡ y
some_is x y e = cc

-- ---- paths

abbrev NoColon : List TokenValue → Type 0
NoColon rest = comes marks.Colon rest ≡ false

segment_exact : Exact segment_at segment NoColon
unfolding segment_at comes
segment_exact =
    Exact-as _ (λ s. (s.name, s.index)) segment
    (Exact-then name_exact (Exact-where (Exact-maybe (comes marks.Colon) (Exact-behind (mark_exact marks.Colon) number_exact) (λ n rest. refl)) (λ rest ends. (ends, tt)))) (λ x. refl) (λ y. refl)

slash_segment_exact : Exact slash_segment_at slash_segment NoColon
unfolding slash_segment_at
slash_segment_exact = Exact-behind (mark_exact marks.Slash) segment_exact

-- what comes behind a segment of a path
segments_no_colon : (ss : List Segment) (rest : List TokenValue) → NoColon rest → NoColon (each slash_segment ss ++ rest)
unfolding comes
segments_no_colon [] rest ends = ends
segments_no_colon (s ∷ ss) rest ends = refl

path_exact : Exact path_at mapping_path (λ rest. (comes marks.Slash rest ≡ false) × NoColon rest)
unfolding path_at comes
path_exact =
    Exact-as _ (λ p. (p.has_slash, (p.first, p.others))) mapping_path
    (Exact-⊕ (Exact-flag (comes marks.Slash) slash_if (mark_exact marks.Slash) refl refl (λ rest. refl))
    (Exact-⊕ segment_exact (Exact-many (comes marks.Slash) slash_segment_exact (λ s rest. (refl, refl, omega arith))) (λ ss rest ends. segments_no_colon ss rest ends.1))
    (λ y rest ends. (refl, tt))) (λ x. refl) (λ y. refl)

-- ---- what is taken

abbrev head_tokens : MappingPath × List ℕ → List TokenValue
head_tokens h = AWord words.ActorInstanceMapping ∷ (mapping_path h.0 ++ (AMark marks.Arrow ∷ AName h.1 ∷ []))

head_exact : Exact head_at head_tokens Anything
unfolding head_at comes
head_exact = Exact-behind (word_exact words.ActorInstanceMapping) (Exact-⊕ path_exact (Exact-behind (mark_exact marks.Arrow) name_exact) (λ y rest any. (refl, refl)))

mappings_tokens-of : (ms : List MappingTree) → mappings_tokens (mappings_of ms) ≡ each mapping_tokens ms
mappings_tokens-of [] = refl
mappings_tokens-of (m ∷ ms) = ap (λ (us : List TokenValue). mapping_tokens m ++ us) (mappings_tokens-of ms)

each-append : (xs ys : List MappingTree) → each mapping_tokens (xs ++ ys) ≡ each mapping_tokens xs ++ each mapping_tokens ys
each-append [] ys = refl
each-append (x ∷ xs) ys = ap (λ (us : List TokenValue). mapping_tokens x ++ us) (each-append xs ys) ∙ sym (append_assoc (mapping_tokens x) (each mapping_tokens xs) (each mapping_tokens ys))

-- mappings and one more
each-push : (xs : List MappingTree) (y : MappingTree) (rest : List TokenValue) → each mapping_tokens (xs ++ y ∷ []) ++ rest ≡ each mapping_tokens xs ++ (mapping_tokens y ++ rest)
each-push xs y rest =
    ap (λ (us : List TokenValue). us ++ rest) (each-append xs (y ∷ []) ∙ ap (λ (us : List TokenValue). each mapping_tokens xs ++ us) (append-nil (mapping_tokens y))) ∙ append_assoc (each mapping_tokens xs) (mapping_tokens y) rest

abbrev open_tokens : Frame → List TokenValue
open_tokens f = each mapping_tokens f.before ++ (head_tokens (f.path, f.thread) ++ AMark marks.OpenBrace ∷ [])

-- the tokens of frames, the innermost of which is the first
abbrev opened : List Frame → List TokenValue
opened [] = []
opened (f ∷ fs) = opened fs ++ open_tokens f

-- a mapping with braces
filled_tokens : (f : Frame) (found : List MappingTree) (rest : List TokenValue) → mapping_tokens (filled f found) ++ rest ≡ (head_tokens (f.path, f.thread) ++ AMark marks.OpenBrace ∷ []) ++ (each mapping_tokens found ++ AMark marks.CloseBrace ∷ rest)
filled_tokens f found rest =
    let path = mapping_path f.path in
    let arrow = AMark marks.Arrow ∷ AName f.thread ∷ [] in
    let inner = each mapping_tokens found in
    let close = AMark marks.CloseBrace ∷ [] in
    let known : mappings_tokens (mappings_of found) ≡ inner = mappings_tokens-of found in
    let one : (path ++ (arrow ++ (AMark marks.OpenBrace ∷ (inner ++ close)))) ++ rest ≡ ((path ++ arrow) ++ AMark marks.OpenBrace ∷ []) ++ (inner ++ (close ++ rest)) = simp append_assoc in
    ap (λ (us : List TokenValue). (AWord words.ActorInstanceMapping ∷ (path ++ (arrow ++ (AMark marks.OpenBrace ∷ (us ++ close))))) ++ rest) known ∙ ap (λ (us : List TokenValue). AWord words.ActorInstanceMapping ∷ us) one

-- what closed_in answers has the tokens of the frames, of what was found before and those that were left
abbrev Takes : (List Frame → List MappingTree → List TokenValue → Option (List MappingTree × List TokenValue)) → Type 0
Takes go =
    (frames : List Frame) (found : List MappingTree) (ts : List TokenValue) (z : List MappingTree × List TokenValue) → go frames found ts ≡ Some z → opened frames ++ (each mapping_tokens found ++ ts) ≡ each mapping_tokens z.0 ++ AMark marks.CloseBrace ∷ z.1

brace_takes : (go : List Frame → List MappingTree → List TokenValue → Option (List MappingTree × List TokenValue)) → Takes go → (frames : List Frame) (found : List MappingTree) (h : MappingPath × List ℕ) (us : List TokenValue) (b : Bool) → comes marks.OpenBrace us ≡ b
    → (z : List MappingTree × List TokenValue) → cond b (go (record { path = h.0; thread = h.1; before = found } ∷ frames) [] (rest_of us)) (go frames (found ++ MappingOf h.0 h.1 no_braces ∷ []) us) ≡ Some z
    → opened frames ++ (each mapping_tokens found ++ (head_tokens h ++ us)) ≡ each mapping_tokens z.0 ++ AMark marks.CloseBrace ∷ z.1
brace_takes go takes frames found h us true is z e =
    let frame : Frame = record { path = h.0; thread = h.1; before = found } in
    let known = comes_is marks.OpenBrace us is in
    let inner = takes (frame ∷ frames) [] (rest_of us) z e in
    let same : opened frames ++ (each mapping_tokens found ++ (head_tokens h ++ (AMark marks.OpenBrace ∷ rest_of us))) ≡ (opened frames ++ (each mapping_tokens found ++ (head_tokens h ++ AMark marks.OpenBrace ∷ []))) ++ rest_of us = simp append_assoc in
    ap (λ (vs : List TokenValue). opened frames ++ (each mapping_tokens found ++ (head_tokens h ++ vs))) known ∙ same ∙ inner
brace_takes go takes frames found h us false is z e =
    ap (λ (vs : List TokenValue). opened frames ++ vs) (sym (each-push found (MappingOf h.0 h.1 no_braces) us)) ∙ takes frames (found ++ MappingOf h.0 h.1 no_braces ∷ []) us z e

head_takes : (go : List Frame → List MappingTree → List TokenValue → Option (List MappingTree × List TokenValue)) → Takes go → (frames : List Frame) (found : List MappingTree) (ts : List TokenValue) (o : Option ((MappingPath × List ℕ) × List TokenValue)) → head_at ts ≡ o
    → (z : List MappingTree × List TokenValue) → option_and_then (behind_head go frames found) o ≡ Some z → opened frames ++ (each mapping_tokens found ++ ts) ≡ each mapping_tokens z.0 ++ AMark marks.CloseBrace ∷ z.1
head_takes go takes frames found ts None is z e = absurd cc
head_takes go takes frames found ts (Some (h, us)) is z e =
    ap (λ (vs : List TokenValue). opened frames ++ (each mapping_tokens found ++ vs)) (head_exact.takes ts (h, us) is) ∙ brace_takes go takes frames found h us (comes marks.OpenBrace us) refl z e

closes_is : (ts : List TokenValue) → before_close ts ≡ false → ts ≡ AMark marks.CloseBrace ∷ rest_of ts
unfolding before_close
closes_is ts h = closes (comes marks.CloseBrace ts) refl h
  where
    closes : (b : Bool) → comes marks.CloseBrace ts ≡ b → cond b false true ≡ false → ts ≡ AMark marks.CloseBrace ∷ rest_of ts
    closes true is e = comes_is marks.CloseBrace ts is
    closes false is e = absurd cc

last_takes : (go : List Frame → List MappingTree → List TokenValue → Option (List MappingTree × List TokenValue)) → Takes go → (found : List MappingTree) (ts : List TokenValue) (b : Bool) → before_close ts ≡ b → (z : List MappingTree × List TokenValue)
    → cond b (option_and_then (behind_head go [] found) (head_at ts)) (Some (found, rest_of ts)) ≡ Some z → each mapping_tokens found ++ ts ≡ each mapping_tokens z.0 ++ AMark marks.CloseBrace ∷ z.1
last_takes go takes found ts true is z e = head_takes go takes [] found ts (head_at ts) refl z e
last_takes go takes found ts false is z e =
    let same : (found, rest_of ts) ≡ z = some_is (found, rest_of ts) z e in
    ap (λ (us : List TokenValue). each mapping_tokens found ++ us) (closes_is ts is) ∙ ap (λ (y : List MappingTree × List TokenValue). each mapping_tokens y.0 ++ AMark marks.CloseBrace ∷ y.1) same

frame_takes : (go : List Frame → List MappingTree → List TokenValue → Option (List MappingTree × List TokenValue)) → Takes go → (f : Frame) (frames : List Frame) (found : List MappingTree) (ts : List TokenValue) (b : Bool) → before_close ts ≡ b
    → (z : List MappingTree × List TokenValue) → cond b (option_and_then (behind_head go (f ∷ frames) found) (head_at ts)) (go frames (f.before ++ filled f found ∷ []) (rest_of ts)) ≡ Some z
    → (opened frames ++ open_tokens f) ++ (each mapping_tokens found ++ ts) ≡ each mapping_tokens z.0 ++ AMark marks.CloseBrace ∷ z.1
frame_takes go takes f frames found ts true is z e = head_takes go takes (f ∷ frames) found ts (head_at ts) refl z e
frame_takes go takes f frames found ts false is z e =
    let head = head_tokens (f.path, f.thread) ++ AMark marks.OpenBrace ∷ [] in
    let inner = each mapping_tokens found in
    let outer = each mapping_tokens f.before in
    let after = rest_of ts in
    let regroup : (opened frames ++ (outer ++ head)) ++ (inner ++ AMark marks.CloseBrace ∷ after) ≡ opened frames ++ (outer ++ (head ++ (inner ++ AMark marks.CloseBrace ∷ after))) =
    append_assoc (opened frames) (outer ++ head) (inner ++ AMark marks.CloseBrace ∷ after) ∙ ap (λ (us : List TokenValue). opened frames ++ us) (append_assoc outer head (inner ++ AMark marks.CloseBrace ∷ after)) in
    ap (λ (us : List TokenValue). (opened frames ++ (outer ++ head)) ++ (inner ++ us)) (closes_is ts is)
    ∙ regroup
    ∙ ap (λ (us : List TokenValue). opened frames ++ (outer ++ us)) (sym (filled_tokens f found after))
    ∙ ap (λ (us : List TokenValue). opened frames ++ us) (sym (each-push f.before (filled f found) after))
    ∙ takes frames (f.before ++ filled f found ∷ []) after z e

closed_in_takes : (n : ℕ) → Takes (closed_in n)
unfolding closed_in
closed_in_takes zero frames found ts z e = absurd cc
closed_in_takes (suc n) [] found ts z e = last_takes (closed_in n) (closed_in_takes n) found ts (before_close ts) refl z e
closed_in_takes (suc n) (f ∷ frames) found ts z e = frame_takes (closed_in n) (closed_in_takes n) f frames found ts (before_close ts) refl z e

-- what stands behind an opening brace
abbrev closed_tokens : List MappingTree → List TokenValue
closed_tokens ms = each mapping_tokens ms ++ AMark marks.CloseBrace ∷ []

closed_takes : (ts : List TokenValue) (z : List MappingTree × List TokenValue) → closed_at ts ≡ Some z → ts ≡ closed_tokens z.0 ++ z.1
unfolding closed_at
closed_takes ts z e = closed_in_takes (length ts) [] [] ts z e ∙ sym (append_assoc (each mapping_tokens z.0) (AMark marks.CloseBrace ∷ []) z.1)

-- ---- what is read again

abbrev pub NoBrace : List TokenValue → Type 0
NoBrace rest = comes marks.OpenBrace rest ≡ false

abbrev list_of : Mappings → List MappingTree
list_of no_mappings = []
list_of (mapping m ms) = m ∷ list_of ms

mappings_of-list_of : (ms : Mappings) → mappings_of (list_of ms) ≡ ms
mappings_of-list_of no_mappings = refl
mappings_of-list_of (mapping m ms) = ap (mapping m) (mappings_of-list_of ms)

-- one turn at a mapping, with frames or without
turn : (n : ℕ) (frames : List Frame) (found : List MappingTree) (ts : List TokenValue) → before_close ts ≡ true → closed_in (suc n) frames found ts ≡ option_and_then (behind_head (closed_in n) frames found) (head_at ts)
unfolding closed_in
turn n [] found ts on = rw on refl
turn n (f ∷ frames) found ts on = rw on refl

plain_turn : (n : ℕ) (frames : List Frame) (found : List MappingTree) (h : MappingPath × List ℕ) (rest : List TokenValue) → NoBrace rest
    → closed_in (suc n) frames found (head_tokens h ++ rest) ≡ closed_in n frames (found ++ MappingOf h.0 h.1 no_braces ∷ []) rest
unfolding before_close comes
plain_turn n frames found h rest plain = turn n frames found (head_tokens h ++ rest) refl ∙ rw (head_exact.again h rest tt, plain) refl

open_turn : (n : ℕ) (frames : List Frame) (found : List MappingTree) (h : MappingPath × List ℕ) (rest : List TokenValue)
    → closed_in (suc n) frames found (head_tokens h ++ (AMark marks.OpenBrace ∷ rest)) ≡ closed_in n (record { path = h.0; thread = h.1; before = found } ∷ frames) [] rest
unfolding before_close comes
open_turn n frames found h rest = turn n frames found (head_tokens h ++ (AMark marks.OpenBrace ∷ rest)) refl ∙ rw (head_exact.again h (AMark marks.OpenBrace ∷ rest) tt) refl

close_turn : (n : ℕ) (f : Frame) (frames : List Frame) (found : List MappingTree) (rest : List TokenValue) → closed_in (suc n) (f ∷ frames) found (AMark marks.CloseBrace ∷ rest) ≡ closed_in n frames (f.before ++ filled f found ∷ []) rest
unfolding closed_in before_close comes
close_turn n f frames found rest = refl

last_turn : (n : ℕ) (found : List MappingTree) (rest : List TokenValue) → closed_in (suc n) [] found (AMark marks.CloseBrace ∷ rest) ≡ Some (found, rest)
unfolding closed_in before_close comes
last_turn n found rest = refl

close_not_open : (rest : List TokenValue) → comes marks.CloseBrace rest ≡ true → NoBrace rest
unfolding comes
close_not_open rest h = rw (comes_is marks.CloseBrace rest h) refl

no_brace_behind : (ms : Mappings) (rest : List TokenValue) → comes marks.CloseBrace rest ≡ true → NoBrace (mappings_tokens ms ++ rest)
unfolding comes
no_brace_behind no_mappings rest closes = close_not_open rest closes
no_brace_behind (mapping (MappingOf path thread nested) ms) rest closes = refl

-- the tokens of a mapping with braces, from its head on
open_again : (path : MappingPath) (thread : List ℕ) (ms : Mappings) (rest : List TokenValue)
    → mapping_tokens (MappingOf path thread (in_braces ms)) ++ rest ≡ head_tokens (path, thread) ++ (AMark marks.OpenBrace ∷ (mappings_tokens ms ++ (AMark marks.CloseBrace ∷ rest)))
open_again path thread ms rest =
    let inner = mappings_tokens ms in
    let close = AMark marks.CloseBrace ∷ [] in
    let arrow = AMark marks.Arrow ∷ AName thread ∷ [] in
    let one : (mapping_path path ++ (arrow ++ (AMark marks.OpenBrace ∷ (inner ++ close)))) ++ rest ≡ (mapping_path path ++ arrow) ++ (AMark marks.OpenBrace ∷ (inner ++ (close ++ rest))) = simp append_assoc in
    ap (λ (us : List TokenValue). AWord words.ActorInstanceMapping ∷ us) one

open_length : (path : MappingPath) (thread : List ℕ) (ms : Mappings) (k n : ℕ) → length (mapping_tokens (MappingOf path thread (in_braces ms))) + k ≤ suc n → length (mappings_tokens ms) + suc k ≤ n
open_length path thread ms k n fits =
    omega (arith, length-append (mapping_path path) (AMark marks.Arrow ∷ AName thread ∷ AMark marks.OpenBrace ∷ (mappings_tokens ms ++ AMark marks.CloseBrace ∷ [])), length-append (mappings_tokens ms) (AMark marks.CloseBrace ∷ []))

-- the braces of a frame close
closes_frame : (path : MappingPath) (thread : List ℕ) (ms : Mappings) (k : ℕ) (frames : List Frame) (found : List MappingTree) (rest : List TokenValue) (z : Option (List MappingTree × List TokenValue))
    → ((j : ℕ) → k ≤ j → closed_in j frames (found ++ MappingOf path thread (in_braces ms) ∷ []) rest ≡ z) → (j : ℕ) → suc k ≤ j
    → closed_in j (record { path = path; thread = thread; before = found } ∷ frames) (list_of ms) (AMark marks.CloseBrace ∷ rest) ≡ z
closes_frame path thread ms k frames found rest z goes zero enough = absurd (omega arith)
closes_frame path thread ms k frames found rest z goes (suc j) enough =
    close_turn j (record { path = path; thread = thread; before = found }) frames (list_of ms) rest
    ∙ ap (λ (ns : Mappings). closed_in j frames (found ++ MappingOf path thread (in_braces ns) ∷ []) rest) (mappings_of-list_of ms) ∙ goes j (omega arith)

list_of-mappings_of : (ms : List MappingTree) → list_of (mappings_of ms) ≡ ms
list_of-mappings_of [] = refl
list_of-mappings_of (m ∷ ms) = ap (λ (ns : List MappingTree). m ∷ ns) (list_of-mappings_of ms)

-- the outermost braces close
last_closes : (ms : List MappingTree) (rest : List TokenValue) (j : ℕ) → 1 ≤ j → closed_in j [] (list_of (mappings_of ms)) (AMark marks.CloseBrace ∷ rest) ≡ Some (ms, rest)
last_closes ms rest zero some = absurd (omega arith)
last_closes ms rest (suc j) some = last_turn j (list_of (mappings_of ms)) rest ∙ ap (λ (ns : List MappingTree). Some (ns, rest)) (list_of-mappings_of ms)

-- what is behind a mapping is read with any number of turns that is enough
mutual
  mapping_again : (m : MappingTree) (n k : ℕ) (frames : List Frame) (found : List MappingTree) (rest : List TokenValue) (z : Option (List MappingTree × List TokenValue)) → NoBrace rest → length (mapping_tokens m) + k ≤ n
      → ((j : ℕ) → k ≤ j → closed_in j frames (found ++ m ∷ []) rest ≡ z) → closed_in n frames found (mapping_tokens m ++ rest) ≡ z
  mapping_again (MappingOf path thread no_braces) zero k frames found rest z plain fits goes = absurd (omega arith)
  mapping_again (MappingOf path thread no_braces) (suc n) k frames found rest z plain fits goes = plain_turn n frames found (path, thread) rest plain ∙ goes n (omega arith)
  mapping_again (MappingOf path thread (in_braces ms)) zero k frames found rest z plain fits goes = absurd (omega arith)
  mapping_again (MappingOf path thread (in_braces ms)) (suc n) k frames found rest z plain fits goes =
      let frame : Frame = record { path = path; thread = thread; before = found } in
      ap (closed_in (suc n) frames found) (open_again path thread ms rest)
      ∙ open_turn n frames found (path, thread) (mappings_tokens ms ++ (AMark marks.CloseBrace ∷ rest))
      ∙ mappings_again ms n (suc k) (frame ∷ frames) [] (AMark marks.CloseBrace ∷ rest) z (comes_here marks.CloseBrace rest) (open_length path thread ms k n fits)
      (λ j enough. closes_frame path thread ms k frames found rest z goes j enough)

  mappings_again : (ms : Mappings) (n k : ℕ) (frames : List Frame) (found : List MappingTree) (rest : List TokenValue) (z : Option (List MappingTree × List TokenValue)) → comes marks.CloseBrace rest ≡ true → length (mappings_tokens ms) + k ≤ n
      → ((j : ℕ) → k ≤ j → closed_in j frames (found ++ list_of ms) rest ≡ z) → closed_in n frames found (mappings_tokens ms ++ rest) ≡ z
  mappings_again no_mappings n k frames found rest z closes fits goes = ap (λ (xs : List MappingTree). closed_in n frames xs rest) (sym (append-nil found)) ∙ goes n (omega arith)
  mappings_again (mapping m ms) n k frames found rest z closes fits goes =
      let parts = length-append (mapping_tokens m) (mappings_tokens ms) in
      ap (closed_in n frames found) (append_assoc (mapping_tokens m) (mappings_tokens ms) rest)
      ∙ mapping_again m n (length (mappings_tokens ms) + k) frames found (mappings_tokens ms ++ rest) z (no_brace_behind ms rest closes) (omega (arith, parts))
      (λ j enough. mappings_again ms j k frames (found ++ m ∷ []) rest z closes enough (λ i few. ap (λ (xs : List MappingTree). closed_in i frames xs rest) (append_assoc found (m ∷ []) (list_of ms)) ∙ goes i few))

closed_again : (ms : List MappingTree) (rest : List TokenValue) → closed_at (closed_tokens ms ++ rest) ≡ Some (ms, rest)
unfolding closed_at
closed_again ms rest =
    let all = mappings_of ms in
    let text : closed_tokens ms ++ rest ≡ mappings_tokens all ++ (AMark marks.CloseBrace ∷ rest) = append_assoc (each mapping_tokens ms) (AMark marks.CloseBrace ∷ []) rest ∙ ap (λ (us : List TokenValue). us ++ (AMark marks.CloseBrace ∷ rest)) (sym (mappings_tokens-of ms)) in
    let enough : length (mappings_tokens all) + 1 ≤ length (closed_tokens ms ++ rest) = omega (arith, ap length text, length-append (mappings_tokens all) (AMark marks.CloseBrace ∷ rest)) in
    ap (closed_in (length (closed_tokens ms ++ rest)) [] []) text
    ∙ mappings_again all (length (closed_tokens ms ++ rest)) 1 [] [] (AMark marks.CloseBrace ∷ rest) (Some (ms, rest)) (comes_here marks.CloseBrace rest) enough (λ j some. last_closes ms rest j some)

closed_exact : Exact closed_at closed_tokens Anything
closed_exact = record { takes = closed_takes; again = λ ms rest any. closed_again ms rest }

-- ---- whole mappings

nested_same : (o : Option (List MappingTree)) → nested_tokens (nested_from o) ≡ maybe (λ ms. AMark marks.OpenBrace ∷ closed_tokens ms) o
nested_same None = refl
nested_same (Some ms) = ap (λ (us : List TokenValue). AMark marks.OpenBrace ∷ (us ++ AMark marks.CloseBrace ∷ [])) (mappings_tokens-of ms)

abbrev nested_list : NestedTree → Option (List MappingTree)
nested_list no_braces = None
nested_list (in_braces ms) = Some (list_of ms)

nested_back : (t : NestedTree) → nested_from (nested_list t) ≡ t
nested_back no_braces = refl
nested_back (in_braces ms) = ap in_braces (mappings_of-list_of ms)

nested_exact : Exact nested_at nested_tokens NoBrace
unfolding nested_at comes
nested_exact =
    Exact-as nested_from nested_list nested_tokens
    (Exact-where (Exact-maybe (comes marks.OpenBrace) (Exact-behind (mark_exact marks.OpenBrace) closed_exact) (λ ms rest. refl)) (λ rest ends. (ends, tt))) nested_same nested_back

head_nested : (path : MappingPath) (thread : List ℕ) (nested : NestedTree) → mapping_tokens (MappingOf path thread nested) ≡ head_tokens (path, thread) ++ nested_tokens nested
head_nested path thread nested = ap (λ (us : List TokenValue). AWord words.ActorInstanceMapping ∷ us) (sym (append_assoc (mapping_path path) (AMark marks.Arrow ∷ AName thread ∷ []) (nested_tokens nested)))

abbrev mapping_parts : MappingTree → (MappingPath × List ℕ) × NestedTree
mapping_parts (MappingOf path thread nested) = ((path, thread), nested)

mapping_back : (m : MappingTree) → MappingOf (mapping_parts m).0.0 (mapping_parts m).0.1 (mapping_parts m).1 ≡ m
mapping_back (MappingOf path thread nested) = refl

pub mapping_exact : Exact mapping_at mapping_tokens NoBrace
unfolding mapping_at
mapping_exact = Exact-as _ mapping_parts mapping_tokens (Exact-then head_exact nested_exact) (λ x. head_nested x.0.0 x.0.1 x.1) mapping_back
