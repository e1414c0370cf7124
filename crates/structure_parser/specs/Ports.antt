-- The grammar of ports and services, read from left to right.
use Rattle.std.specs.Prelude.{◌∷◌, Some, None}
use Rattle.room_lexer.specs.declared.token.Mark.TheVariants as marks
use Rattle.room_lexer.specs.declared.word.Word.TheVariants as words
use Rattle.room_ast.specs.Values.{TokenValue, ANumber, AMark}
use Rattle.room_ast.specs.declared.actor.ExternalPort.{ExternalPort}
use Rattle.room_ast.specs.declared.actor.Places.{Places}
use Rattle.room_ast.specs.declared.actor.Places.TheVariants as places
use Rattle.room_ast.specs.declared.actor.Port.{Port}
use Rattle.room_ast.specs.declared.actor.ServiceAccess.{ServiceAccess}
use Rattle.room_ast.specs.declared.actor.ServiceImplementation.{ServiceImplementation}
use Rattle.room_ast.specs.declared.actor.ServiceProvision.{ServiceProvision}
use Rattle.room_tokens.specs.Reader.{Reader, ◌⊕◌, ◌▹◌, ◌◃◌, reads_as, optional, flag}
use Rattle.room_tokens.specs.Single.{comes, comes_word, mark, word, name_at}

-- NUMBER | "*"
unfoldable pub place_count_at : Reader TokenValue Places
place_count_at (ANumber n ∷ ts) = Some (places.Number n, ts)
place_count_at (AMark marks.Star ∷ ts) = Some (places.Any, ts)
place_count_at ts = None

-- "[" ( NUMBER | "*" ) "]"
unfoldable pub places_at : Reader TokenValue Places
places_at = mark marks.OpenBracket ▹ place_count_at ◃ mark marks.CloseBracket

-- [ "conjugated" ] "Port" name [ "[" ( NUMBER | "*" ) "]" ] ":" name
unfoldable pub port_at : Reader TokenValue Port
port_at =
    reads_as (λ x. record { conjugated = x.0; name = x.1.0; places = x.1.1.0; protocol = x.1.1.1 })
    (flag (comes_word words.Conjugated) (word words.Conjugated) ⊕ word words.Port ▹ name_at ⊕ optional (comes marks.OpenBracket) places_at ⊕ mark marks.Colon ▹ name_at)

-- "external" "Port" name
unfoldable pub external_port_at : Reader TokenValue ExternalPort
external_port_at = reads_as (λ x. record { name = x }) (word words.External ▹ word words.Port ▹ name_at)

-- "SPP" name ":" name
unfoldable pub provision_at : Reader TokenValue ServiceProvision
provision_at = reads_as (λ x. record { name = x.0; protocol = x.1 }) (word words.Spp ▹ name_at ⊕ mark marks.Colon ▹ name_at)

-- "SAP" name ":" name
unfoldable pub access_at : Reader TokenValue ServiceAccess
access_at = reads_as (λ x. record { name = x.0; protocol = x.1 }) (word words.Sap ▹ name_at ⊕ mark marks.Colon ▹ name_at)

-- "ServiceImplementation" "of" name
unfoldable pub implementation_at : Reader TokenValue ServiceImplementation
implementation_at = reads_as (λ x. record { name = x }) (word words.ServiceImplementation ▹ word words.Of ▹ name_at)
