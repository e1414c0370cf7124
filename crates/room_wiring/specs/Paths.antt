-- Paths in pieces: each ends with a piece of its own, behind an earlier path.
use Rattle.std.specs.Prelude.{◌≡◌, ℕ, ◌+◌, ◌*◌, ◌%◌, ◌^◌, ◌<◌, List, [], ◌∷◌, ◌++◌, length, Option, Some, None, IfSome}
use Rattle.std.specs.List.{slice_index_or}
use Rattle.room_wiring.specs.declared.paths.Piece.{Piece}

-- the path with a number; nothing where there is none
abbrev pub path_at : List (List ℕ) → Option ℕ → List ℕ
path_at paths None = []
path_at paths (Some n) = slice_index_or paths n []

-- the path that ends with a piece, behind one of these
abbrev pub path_of : List (List ℕ) → Piece → List ℕ
path_of paths p = path_at paths p.before ++ p.text.items

-- these paths, and one that ends with each of the pieces
unfoldable pub paths_with : List (List ℕ) → List Piece → List (List ℕ)
paths_with paths [] = paths
paths_with paths (p ∷ ps) = paths_with (paths ++ path_of paths p ∷ []) ps

-- the paths that end with these pieces
abbrev pub paths_of : List Piece → List (List ℕ)
paths_of pieces = paths_with [] pieces

-- the hash of some bytes, behind others with this hash
unfoldable pub hash_behind : ℕ → List ℕ → ℕ
hash_behind h [] = h
hash_behind h (b ∷ bs) = hash_behind ((h * 1099511628211 + b) % 2 ^ 64) bs

-- the hash of a path
abbrev pub hash_of : List ℕ → ℕ
hash_of path = hash_behind 0 path

-- a piece stands behind one of these paths, if it doesn't begin a path, and tells the hash of its path
pub record IsPiece (paths : List (List ℕ)) (p : Piece) : Type 0 where
  pub behind : IfSome p.before (λ n. n < length paths)
  pub hash : p.hash ≡ hash_of (path_of paths p)

-- each piece stands behind these paths, or one of those that end with an earlier piece
unfoldable pub ArePieces : List (List ℕ) → List Piece → Type 0
ArePieces paths [] = Unit {0}
ArePieces paths (p ∷ ps) = IsPiece paths p × ArePieces (paths ++ path_of paths p ∷ []) ps

-- this piece ends the path with this number; where there is none, that path is empty
abbrev pub IsLast : List (List ℕ) → Option ℕ → Option Piece → Type 0
IsLast paths number None = path_at paths number ≡ []
IsLast paths number (Some p) = IfSome number (λ n. n < length paths) × (path_at paths number ≡ path_of paths p) × IsPiece paths p

-- a piece ends the path that has these bytes behind this front
pub record Ends (paths : List (List ℕ)) (front bytes : List ℕ) (p : Piece) : Type 0 where
  pub path : path_of paths p ≡ front ++ bytes
  pub piece : IsPiece paths p
