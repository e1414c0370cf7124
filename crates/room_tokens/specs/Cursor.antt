-- What is left to read of tokens, whatever their language is.
use Rattle.std.specs.Prelude.{ℕ, ◌-◌, List, [], ◌∷◌, map, length, take, drop}
use Rattle.room_tokens.specs.declared.rest.Rest.{Rest}

-- the values of what is left to read
abbrev pub left_of : {T V : Type 0} → (List ℕ → T → V) → Rest T → List V
left_of value r = map (value r.bytes.now) r.tokens.now

-- where it begins: at the first token, or at the end of the bytes
abbrev pub place_from : {T : Type 0} → (T → ℕ × ℕ) → List ℕ → List T → ℕ
place_from span bytes [] = length bytes
place_from span bytes (t ∷ ts) = (span t).0

-- the bytes from a place up to another
abbrev pub between : List ℕ → ℕ × ℕ → List ℕ
between bytes span = take (span.1 - span.0) (drop span.0 bytes)
