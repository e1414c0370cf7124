-- Lists of token values, part by part.
use Rattle.std.proofs.Common.{List, [], ◌∷◌, ◌++◌}
use Rattle.room_ast.specs.Values.{TokenValue, AWord, AName, ANumber, AString, ABlock, AMark}
use Rattle.room_tokens.specs.token_names.Names.{HasNames}

-- two parts of a list with names have names
pub HasNames-append : (xs ys : List TokenValue) → HasNames (xs ++ ys) → HasNames xs × HasNames ys
HasNames-append [] ys h = (tt, h)
HasNames-append (AName n ∷ xs) ys h = let p = HasNames-append xs ys h.1 in ((h.0, p.0), p.1)
HasNames-append (AWord w ∷ xs) ys h = HasNames-append xs ys h
HasNames-append (ANumber n ∷ xs) ys h = HasNames-append xs ys h
HasNames-append (AString t v ∷ xs) ys h = HasNames-append xs ys h
HasNames-append (ABlock t ∷ xs) ys h = HasNames-append xs ys h
HasNames-append (AMark m ∷ xs) ys h = HasNames-append xs ys h
