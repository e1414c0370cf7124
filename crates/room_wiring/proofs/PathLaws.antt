-- Paths that end with pieces, each behind an earlier path.
use Rattle.std.proofs.Common.{◌≡◌, ◌∙◌, ℕ, zero, suc, ◌+◌, ◌*◌, ◌%◌, ◌^◌, ◌<◌, ◌≤◌, List, [], ◌∷◌, ◌++◌, Option, Some, None, length, append_assoc, length-append, refl, sym, ap, subst, arith}
use Rattle.std.specs.Prelude.{slice_get, IfSome}
use Rattle.std.specs.List.{slice_index_or}
use Rattle.std.specs.Prelude.{take, drop, nat_eq, Bool, true, false}
use Rattle.std.specs.Bool.{Decides}
use Rattle.std.proofs.lemmas.List.{take-append-drop, append_cancel_right}
use Rattle.std.proofs.Math.Seq.{drop-append_seam}
use Rattle.std.proofs.lemmas.Slice.Eq.{bytes_eq-Decides}
use lib.Pointwise.{pointwise}
use Rattle.std.proofs.lemmas.List.{length_push}
use Rattle.room_wiring.specs.declared.paths.Piece.{Piece}
use Rattle.room_wiring.specs.Paths.{path_at, path_of, paths_with, paths_of, hash_behind, hash_of, IsPiece, ArePieces, IsLast, Ends}

-- ---- places in a list
at_front : {A : Type 0} (xs ys : List A) (n : ℕ) (d : A) → n < length xs → slice_index_or (xs ++ ys) n d ≡ slice_index_or xs n d
at_front [] ys n d h = absurd (omega (arith, h))
at_front (x ∷ xs) ys zero d h = refl
at_front (x ∷ xs) ys (suc n) d h = at_front xs ys n d (omega (arith, h))

at_seam : {A : Type 0} (xs : List A) (y d : A) → slice_index_or (xs ++ y ∷ []) (length xs) d ≡ y
at_seam [] y d = refl
at_seam (x ∷ xs) y d = at_seam xs y d

same_Some : {A : Type 0} (x y : A) → Some x ≡ Some y → x ≡ y
same_Some x y e = cc

none_some : {A : Type 0} (x : A) → None ≡ Some x → ⊥
none_some x e = cc

-- ---- one more piece
pub paths_more : (paths : List (List ℕ)) (ps : List Piece) (p : Piece) → paths_with paths (ps ++ p ∷ []) ≡ paths_with paths ps ++ path_of (paths_with paths ps) p ∷ []
unfolding paths_with
paths_more paths [] p = refl
paths_more paths (q ∷ qs) p = paths_more (paths ++ path_of paths q ∷ []) qs p

pub pieces_more : (paths : List (List ℕ)) (ps : List Piece) (p : Piece) → ArePieces paths ps → IsPiece (paths_with paths ps) p → ArePieces paths (ps ++ p ∷ [])
unfolding paths_with ArePieces
pieces_more paths [] p h is = (is, tt)
pieces_more paths (q ∷ qs) p h is = (h.0, pieces_more (paths ++ path_of paths q ∷ []) qs p h.1 is)

pub paths_count : (paths : List (List ℕ)) (ps : List Piece) → length (paths_with paths ps) ≡ length paths + length ps
unfolding paths_with
paths_count paths [] = omega arith
paths_count paths (p ∷ ps) =
    let more = paths_count (paths ++ path_of paths p ∷ []) ps in
    let one = length_push paths (path_of paths p) in
    omega (arith, more, one)

-- the paths before stay as they are
kept : (paths : List (List ℕ)) (ps : List Piece) (n : ℕ) → n < length paths → slice_index_or (paths_with paths ps) n [] ≡ slice_index_or paths n []
unfolding paths_with
kept paths [] n h = refl
kept paths (p ∷ ps) n h =
    let one = length_push paths (path_of paths p) in
    kept (paths ++ path_of paths p ∷ []) ps n (omega (arith, h, one)) ∙ at_front paths (path_of paths p ∷ []) n [] h

kept_before : (paths : List (List ℕ)) (ps : List Piece) (before : Option ℕ) → IfSome before (λ n. n < length paths) → path_at (paths_with paths ps) before ≡ path_at paths before
kept_before paths ps None h = refl
kept_before paths ps (Some n) h = kept paths ps n h

-- ---- a piece by its number
-- what is known of the piece with this number
pub record Known (whole : List (List ℕ)) (n : ℕ) (p : Piece) : Type 0 where
  pub path : slice_index_or whole n [] ≡ path_of whole p
  pub behind : IfSome p.before (λ k. k < n)
  pub hash : p.hash ≡ hash_of (slice_index_or whole n [])

known_here : (paths : List (List ℕ)) (p : Piece) (ps : List Piece) → IsPiece paths p → Known (paths_with paths (p ∷ ps)) (length paths) p
unfolding paths_with
known_here paths p ps is =
    let next = paths ++ path_of paths p ∷ [] in
    let one = length_push paths (path_of paths p) in
    let here : slice_index_or (paths_with next ps) (length paths) [] ≡ path_of paths p = kept next ps (length paths) (omega (arith, one)) ∙ at_seam paths (path_of paths p) [] in
    record {
      path = here ∙ ap (λ (front : List ℕ). front ++ p.text.items) (sym (kept_before paths (p ∷ ps) p.before is.behind));
      behind = is.behind;
      hash = is.hash ∙ ap hash_of (sym here);
    }

known_at : (paths : List (List ℕ)) (ps : List Piece) (i : ℕ) (p : Piece) (n : ℕ) → ArePieces paths ps → slice_get ps i ≡ Some p → n ≡ length paths + i → Known (paths_with paths ps) n p
unfolding paths_with ArePieces
known_at paths [] i p n h e is = absurd (none_some p e)
known_at paths (q ∷ qs) zero p n h e is =
    let same : q ≡ p = same_Some q p e in
    let at : length paths ≡ n = omega (arith, is) in
    subst (λ k. Known (paths_with paths (q ∷ qs)) k p) at (subst (λ (x : Piece). Known (paths_with paths (q ∷ qs)) (length paths) x) same (known_here paths q qs h.0))
known_at paths (q ∷ qs) (suc i) p n h e is =
    let one = length_push paths (path_of paths q) in
    known_at (paths ++ path_of paths q ∷ []) qs i p n h.1 e (omega (arith, is, one))

pub piece_known : (ps : List Piece) (n : ℕ) (p : Piece) → ArePieces [] ps → slice_get ps n ≡ Some p → Known (paths_of ps) n p
piece_known ps n p h e = known_at [] ps n p n h e (omega arith)

-- ---- hashes
pub hash_append : (h : ℕ) (xs ys : List ℕ) → hash_behind h (xs ++ ys) ≡ hash_behind (hash_behind h xs) ys
unfolding hash_behind
hash_append h [] ys = refl
hash_append h (x ∷ xs) ys = hash_append ((h * 1099511628211 + x) % 2 ^ 64) xs ys

-- ---- what the functions answer
got : {A : Type 0} (xs : List A) (n : ℕ) (d : A) → n < length xs → slice_get xs n ≡ Some (slice_index_or xs n d)
got [] n d h = absurd (omega (arith, h))
got (x ∷ xs) zero d h = refl
got (x ∷ xs) (suc n) d h = got xs n d (omega (arith, h))

past : {A : Type 0} (xs : List A) (n : ℕ) → None ≡ slice_get xs n → length xs ≤ n
past [] n h = omega arith
past (x ∷ xs) zero h = absurd (none_some x h)
past (x ∷ xs) (suc n) h = let more = past xs n h in omega (arith, more)

past_end : {A : Type 0} (xs : List A) (n : ℕ) {d : A} → length xs ≤ n → slice_index_or xs n d ≡ d
past_end [] n h = refl
past_end (x ∷ xs) zero h = absurd (omega (arith, h))
past_end (x ∷ xs) (suc n) h = past_end xs n (omega (arith, h))

within_of : {A : Type 0} (xs : List A) (n : ℕ) (x : A) → slice_get xs n ≡ Some x → n < length xs
within_of [] n x h = absurd (none_some x h)
within_of (y ∷ ys) zero x h = omega arith
within_of (y ∷ ys) (suc n) x h = let more = within_of ys n x h in omega (arith, more)

count_of : (ps : List Piece) → length (paths_of ps) ≡ length ps
count_of ps = let e = paths_count [] ps in omega (arith, e)

-- the piece at a place
pub piece_at : (ps : List Piece) (n : ℕ) (p : Piece) → ArePieces [] ps → n < length ps → p ≡ slice_index_or ps n p → Known (paths_of ps) n p
piece_at ps n p h there is = piece_known ps n p h (got ps n p there ∙ ap (λ (q : Piece). Some q) (sym is))

-- the path at a place
pub path_there : (ps : List Piece) (n : ℕ) → n < length (paths_of ps) → slice_get (paths_of ps) n ≡ Some (slice_index_or (paths_of ps) n [])
path_there ps n h = got (paths_of ps) n [] h

pub piece_there : (ps : List Piece) (n : ℕ) → n < length (paths_of ps) → n < length ps
piece_there ps n h = let e = count_of ps in omega (arith, e, h)

earlier : (before : Option ℕ) (n m : ℕ) → n < m → IfSome before (λ k. k < n) → IfSome before (λ k. k < m)
earlier None n m h b = tt
earlier (Some k) n m h b = omega (arith, h, b)

-- the last piece of the path with a number
last_known : (whole : List (List ℕ)) (n : ℕ) (p : Piece) → n < length whole → Known whole n p → IsLast whole (Some n) (Some p)
last_known whole n p h k = (h, k.path, record { behind = earlier p.before n (length whole) h k.behind; hash = k.hash ∙ ap hash_of k.path })

pub last_at : (ps : List Piece) (n : ℕ) (got : Option Piece) → ArePieces [] ps → got ≡ slice_get ps n → IsLast (paths_of ps) (Some n) got
last_at ps n None h is = beyond_paths
  where
    size : length ps ≤ n
    size = past ps n is

    beyond_paths : slice_index_or (paths_of ps) n [] ≡ []
    beyond_paths = let e = count_of ps in past_end (paths_of ps) n (omega (arith, e, size))
last_at ps n (Some p) h is =
    let e = count_of ps in
    let within = within_of ps n p (sym is) in
    last_known (paths_of ps) n p (omega (arith, e, within)) (piece_known ps n p h (sym is))

hashed : (paths : List (List ℕ)) (before : Option ℕ) (last p : Piece) (end : List ℕ) → IsLast paths before (Some last) → p.hash ≡ hash_behind last.hash end
    → path_of paths p ≡ path_at paths before ++ end → p.hash ≡ hash_of (path_of paths p)
hashed paths before last p end is hash path =
    hash ∙ ap (λ h. hash_behind h end) (is.2.hash ∙ ap hash_of (sym is.1)) ∙ sym (hash_append 0 (path_at paths before) end) ∙ ap hash_of (sym path)

-- the bytes behind the last piece, in one piece with it
pub joined_on : (paths : List (List ℕ)) (before : Option ℕ) (last p : Piece) (end : List ℕ) → IsLast paths before (Some last)
    → p.before ≡ last.before → p.text.items ≡ last.text.items ++ end → p.hash ≡ hash_behind last.hash end → Ends paths (path_at paths before) end p
joined_on paths before last p end is same text hash =
    let path : path_of paths p ≡ path_at paths before ++ end =
    ap (λ (o : Option ℕ). path_at paths o ++ p.text.items) same
    ∙ ap (λ (t : List ℕ). path_at paths last.before ++ t) text
    ∙ sym (append_assoc (path_at paths last.before) last.text.items end)
    ∙ ap (λ (front : List ℕ). front ++ end) (sym is.1)
    in
    record {
      path = path;
      piece = record {
        behind = subst (λ (o : Option ℕ). IfSome o (λ n. n < length paths)) (sym same) is.2.behind;
        hash = hashed paths before last p end is hash path;
      };
    }

-- and in a piece of their own
pub alone_on : (paths : List (List ℕ)) (before : Option ℕ) (last p : Piece) (end : List ℕ) → IsLast paths before (Some last)
    → p.before ≡ before → p.text.items ≡ end → p.hash ≡ hash_behind last.hash end → Ends paths (path_at paths before) end p
alone_on paths before last p end is same text hash =
    let path : path_of paths p ≡ path_at paths before ++ end =
    ap (λ (o : Option ℕ). path_at paths o ++ p.text.items) same ∙ ap (λ (t : List ℕ). path_at paths before ++ t) text
    in
    record {
      path = path;
      piece = record {
        behind = subst (λ (o : Option ℕ). IfSome o (λ n. n < length paths)) (sym same) is.0;
        hash = hashed paths before last p end is hash path;
      };
    }

-- bytes behind nothing
pub first_piece : (paths : List (List ℕ)) (before : Option ℕ) (p : Piece) (end : List ℕ) → IsLast paths before None
    → p.before ≡ None → p.text.items ≡ end → p.hash ≡ hash_behind 0 end → Ends paths (path_at paths before) end p
first_piece paths before p end is same text hash =
    let whole : path_of paths p ≡ end = ap (λ (o : Option ℕ). path_at paths o ++ p.text.items) same ∙ text in
    record {
      path = whole ∙ ap (λ (front : List ℕ). front ++ end) (sym is);
      piece = record {
        behind = subst (λ (o : Option ℕ). IfSome o (λ n. n < length paths)) (sym same) tt;
        hash = hash ∙ ap hash_of (sym whole);
      };
    }

-- ---- whether a path has some bytes
same_Bool : (p q : Bool) {A B : Type 0} → Decides p A → Decides q B → (A → B) → (B → A) → p ≡ q
same_Bool true q p_is q_is on back = sym (q_is.1 (on (p_is.0 refl)))
same_Bool false true p_is q_is on back = p_is.1 (back (q_is.0 refl))
same_Bool false false p_is q_is on back = refl

cut_here : (cut : ℕ) (front back bytes : List ℕ) → front ≡ take cut bytes → back ≡ drop cut bytes → bytes ≡ front ++ back
cut_here cut front back bytes f b = sym (take-append-drop cut bytes) ∙ ap (λ (xs : List ℕ). xs ++ drop cut bytes) (sym f) ∙ ap (λ (ys : List ℕ). front ++ ys) (sym b)

-- the bytes end as the path does
pub ends_alike : (path a t front back bytes : List ℕ) (cut : ℕ) (r : Bool) → path ≡ a ++ t → front ≡ take cut bytes → back ≡ drop cut bytes → pointwise nat_eq back t ≡ true
    → r ≡ pointwise nat_eq a front → r ≡ pointwise nat_eq path bytes
ends_alike path a t front back bytes cut r is f b same told =
    let back_is : back ≡ t = (bytes_eq-Decides back t).0 same in
    let bytes_are : bytes ≡ front ++ t = cut_here cut front back bytes f b ∙ ap (λ (ys : List ℕ). front ++ ys) back_is in
    told
    ∙ same_Bool (pointwise nat_eq a front) (pointwise nat_eq (a ++ t) (front ++ t)) (bytes_eq-Decides a front) (bytes_eq-Decides (a ++ t) (front ++ t))
    (λ e. ap (λ (xs : List ℕ). xs ++ t) e) (λ e. append_cancel_right a front t e)
    ∙ ap (λ (xs : List ℕ). pointwise nat_eq xs (front ++ t)) (sym is) ∙ ap (λ (ys : List ℕ). pointwise nat_eq path ys) (sym bytes_are)

-- they don't
pub ends_apart : (path a t front back bytes : List ℕ) (cut : ℕ) → path ≡ a ++ t → front ≡ take cut bytes → back ≡ drop cut bytes → length back ≡ length t → pointwise nat_eq back t ≡ false
    → false ≡ pointwise nat_eq path bytes
ends_apart path a t front back bytes cut is f b long differ = go (pointwise nat_eq path bytes) refl
  where
    go : (p : Bool) → pointwise nat_eq path bytes ≡ p → false ≡ p
    go false e = refl
    go true e =
        let whole : a ++ t ≡ front ++ back = sym is ∙ (bytes_eq-Decides path bytes).0 e ∙ cut_here cut front back bytes f b in
        let size = ap length whole in
        let fronts : length a ≡ length front = omega (arith, size, long, length-append a t, length-append front back) in
        let ends : t ≡ back = sym (drop-append_seam a t) ∙ ap (drop (length a)) whole ∙ ap (λ n. drop n (front ++ back)) fronts ∙ drop-append_seam front back in
        sym differ ∙ (bytes_eq-Decides back t).1 (sym ends)
