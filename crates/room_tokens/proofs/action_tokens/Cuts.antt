-- The values of tokens that are cut one by one.
use Rattle.std.proofs.Common.{◌≡◌, List, [], ◌∷◌, ◌++◌, Option, Some, None, Result, Ok, Err, ℕ, refl, sym, ap, ◌∙◌}
use Rattle.std.specs.Prelude.{option_map, option_and_then}
use Rattle.room_lexer.specs.Cutting.{map_ok}
use Rattle.room_lexer.specs.declared.token.Token.{Token}
use Rattle.room_lexer.specs.declared.fault.LexFault.{LexFault}
use Rattle.room_tokens.specs.action_tokens.Values.{Value, value_of, values_of, values_if, with_first}
use Rattle.room_tokens.specs.Reader.{Fails}
use Rattle.room_tokens.specs.declared.fault.ReadFault.{ReadFault}
use Rattle.room_tokens.specs.declared.fault.ReadFault.TheVariants as faults

-- some values, and then others, if both are there
abbrev both : Option (List Value) → Option (List Value) → Option (List Value)
both some others = option_and_then (λ vs. option_map (λ ws. vs ++ ws) others) some

none_before : (r : Option (List Value)) → r ≡ both (Some []) r
none_before None = refl
none_before (Some ws) = refl

behind : (v : Option Value) (a b : Option (List Value)) → option_and_then (λ x. with_first x (both a b)) v ≡ both (option_and_then (λ x. with_first x a) v) b
behind None a b = refl
behind (Some v) None b = refl
behind (Some v) (Some vs) None = refl
behind (Some v) (Some vs) (Some ws) = refl

values_append : (bytes : List ℕ) (ts us : List Token) → values_of bytes (ts ++ us) ≡ both (values_of bytes ts) (values_of bytes us)
values_append bytes [] us = none_before (values_of bytes us)
values_append bytes (t ∷ ts) us =
    ap (λ r. option_and_then (λ v. with_first v r) (value_of bytes t)) (values_append bytes ts us)
    ∙ behind (value_of bytes t) (values_of bytes ts) (values_of bytes us)

-- the values of tokens, and then of more of them
pub values_more : (bytes : List ℕ) (ts us : List Token) (vs : List Value) → values_of bytes ts ≡ Some vs
    → values_of bytes (ts ++ us) ≡ option_map (λ ws. vs ++ ws) (values_of bytes us)
values_more bytes ts us vs e = values_append bytes ts us ∙ ap (λ r. both r (values_of bytes us)) e

-- where the text has no tokens, it has no values
pub no_cut : (bytes : List ℕ) (r : Result (List Token) LexFault) (e : LexFault) → r ≡ Err e → values_if bytes r ≡ None
no_cut bytes r e is = rw is refl

-- where it has tokens, it has their values
pub all_cut : (bytes : List ℕ) (r : Result (List Token) LexFault) (ts : List Token) (vs : List Value) → r ≡ Ok ts → values_of bytes ts ≡ Some vs → values_if bytes r ≡ Some vs
all_cut bytes r ts vs is are = rw is are

no_map : (vs : List Value) (r : Option (List Value)) → option_map (λ ws. vs ++ ws) r ≡ None → r ≡ None
no_map vs None e = refl
no_map vs (Some ws) e = absurd cc

-- a token without a value leaves a text without values
none_behind : (bytes : List ℕ) (ts us : List Token) (vs : List Value) (r : Result (List Token) LexFault)
    → values_of bytes ts ≡ Some vs → values_of bytes us ≡ None → values_if bytes (map_ok (λ more. (ts ++ us) ++ more) r) ≡ None
none_behind bytes ts us vs (Err e) is none = refl
none_behind bytes ts us vs (Ok more) is none =
    values_append bytes (ts ++ us) more
    ∙ ap (λ r. both r (values_of bytes more)) (values_more bytes ts us vs is ∙ ap (option_map (λ ws. vs ++ ws)) none)

-- what is refused at a token has no values
pub no_value : (f : ReadFault) (bytes : List ℕ) (ts us : List Token) (vs : List Value) (r total : Result (List Token) LexFault)
    → values_of bytes ts ≡ Some vs
    → Fails f (option_map (λ ws. vs ++ ws) (values_of bytes us))
    → map_ok (λ more. (ts ++ us) ++ more) r ≡ total
    → Fails f (values_if bytes total)
no_value faults.Memory bytes ts us vs r total is none cut = tt
no_value (faults.Syntax at) bytes ts us vs r total is none cut = ap (values_if bytes) (sym cut) ∙ none_behind bytes ts us vs r is (no_map vs (values_of bytes us) none)
