-- The tokens of a text have names.
use Rattle.std.proofs.Common.{◌≡◌, ℕ, ◌+◌, ◌-◌, List, [], ◌∷◌, ◌++◌, length, take, drop, Some, None, refl, sym, ap, ◌∙◌, subst, arith}
use Rattle.std.proofs.Math.Seq.{take-append_seam, drop-append_seam}
use Rattle.std.proofs.lemmas.List.{drop-drop}
use Rattle.room_lexer.specs.Cut.{Piece, CutTo, placed, IsToken, IsPiece}
use Rattle.room_lexer.specs.Cutting.{tokens_of}
use Rattle.room_lexer.specs.declared.piece.Kind.{Kind}
use Rattle.room_lexer.specs.declared.piece.Kind.TheVariants as pieces
use Rattle.room_lexer.specs.declared.token.Token.{Token}
use Rattle.room_lexer.specs.declared.token.TokenKind.{TokenKind}
use Rattle.room_lexer.specs.declared.token.TokenKind.TheVariants as kinds
use Rattle.room_ast.specs.Values.{TokenValue}
use Rattle.room_tokens.specs.Single.{values, value_of_kind}
use Rattle.room_tokens.specs.token_names.Names.{HasNames}

-- a token that is a name has one
one_named : (k : TokenKind) (text : List ℕ) (ts : List TokenValue) → IsToken k text → HasNames ts → HasNames (value_of_kind k text ∷ ts)
one_named (kinds.Ident None) text ts is h = (record { identifier = is.0; free = is.1 }, h)
one_named (kinds.Ident (Some w)) text ts is h = h
one_named (kinds.Number n) text ts is h = h
one_named kinds.Str text ts is h = h
one_named kinds.Block text ts is h = h
one_named (kinds.Mark m) text ts is h = h

-- the text of a token that stands at a place
text_there : (whole : List ℕ) (at : ℕ) (text after : List ℕ) → drop at whole ≡ text ++ after → take (at + length text - at) (drop at whole) ≡ text
text_there whole at text after e =
    let n : at + length text - at ≡ length text = omega arith in
    rw (e, n) (take-append_seam text after)

-- what is behind it
behind_there : (whole : List ℕ) (at : ℕ) (text after : List ℕ) → drop at whole ≡ text ++ after → drop (at + length text) whole ≡ after
behind_there whole at text after e = sym (drop-drop (length text) at whole) ∙ ap (drop (length text)) e ∙ drop-append_seam text after

-- a piece, and tokens behind it
piece_named : (k : Kind) (text whole : List ℕ) (at : ℕ) (others : List Token) → IsPiece k text → take (at + length text - at) (drop at whole) ≡ text → HasNames (values whole others) → HasNames (values whole (tokens_of k at (at + length text) ++ others))
piece_named (pieces.Token k) text whole at others is there h = subst (λ t. HasNames (value_of_kind k t ∷ values whole others)) (sym there) (one_named k text (values whole others) is h)
piece_named pieces.Blank text whole at others is there h = h
piece_named pieces.LineComment text whole at others is there h = h
piece_named pieces.BlockComment text whole at others is there h = h
piece_named pieces.Documentation text whole at others is there h = h

named_from : (whole : List ℕ) (at : ℕ) (bytes : List ℕ) (ps : List Piece) → drop at whole ≡ bytes → CutTo bytes ps [] → HasNames (values whole (placed at ps))
named_from whole at bytes [] e h = tt
named_from whole at bytes (p ∷ ps) e h =
    let there : drop at whole ≡ p.text ++ h.0 = e ∙ h.1 in
    piece_named p.kind p.text whole at (placed (at + length p.text) ps) h.2 (text_there whole at p.text h.0 there) (named_from whole (at + length p.text) h.0 ps (behind_there whole at p.text h.0 there) h.5)

-- the tokens of a text have names
pub named : (bytes : List ℕ) (ps : List Piece) → CutTo bytes ps [] → HasNames (values bytes (placed 0 ps))
named bytes ps h = named_from bytes 0 bytes ps refl h
