-- The duties of the name table by the kind of the message.
use Rattle.std.proofs.Common.{◌≡◌, ℕ, suc, Bool, true, false, cond, List, [], ◌∷◌, length, ℤ, pos, negsuc, refl, sym, ap, ◌∙◌, arith}
use Rattle.std.specs.Prelude.{◌==◌}
use Rattle.std.proofs.lemmas.Bool.Decides.{nat_tests}
use Rattle.room_kinds.specs.declared.numbers.Endpoint.{Endpoint}
use Rattle.room_kinds.specs.declared.system.SysKind.{SysKind}
use Rattle.room_kinds.specs.declared.system.SysKind.TheVariants as kinds
use Rattle.room_wiring.specs.declared.tables.Tables.{Tables}
use Rattle.actor_duties.specs.State.{NameTable}
use Rattle.actor_duties.specs.Names.{withdraw, same_table, is_name_request, table_duty_of}
use Rattle.layer_service.specs.name_service.Asking.{request_done}

-- nothing is done, whatever a test says
nothing : (b : Bool) (table : NameTable) → same_table table ≡ cond b (same_table table) (same_table table)
nothing true table = refl
nothing false table = refl

not_empty : (n : ℕ) → (suc n == 0) ≡ false
not_empty n = grind (arith, nat_tests)

-- a duty of the name table is that of a request
pub duty_requested : (t : Tables) (me : ℕ) (table : NameTable) (kind : SysKind) (e target : Endpoint) (numbers : List ℤ)
    → table_duty_of t me table kind e target numbers
    ≡ cond (is_name_request t me e target) (request_done t table kind e numbers) (same_table table)
duty_requested t me table kinds.Register e target [] = nothing (is_name_request t me e target) table
duty_requested t me table kinds.Register e target (pos name ∷ []) = refl
duty_requested t me table kinds.Register e target (negsuc n ∷ []) = nothing (is_name_request t me e target) table
duty_requested t me table kinds.Register e target (pos n ∷ k ∷ ns) = nothing (is_name_request t me e target) table
duty_requested t me table kinds.Register e target (negsuc n ∷ k ∷ ns) = nothing (is_name_request t me e target) table
duty_requested t me table kinds.Withdraw e target [] = refl
duty_requested t me table kinds.Withdraw e target (n ∷ ns) =
    nothing (is_name_request t me e target) table
    ∙ sym (ap (λ (b : Bool). cond (is_name_request t me e target) (cond b (withdraw t e table) (same_table table)) (same_table table)) (not_empty (length ns)))
duty_requested t me table _ e target numbers = nothing (is_name_request t me e target) table

-- a request of another kind
pub other_request : (t : Tables) (table : NameTable) (kind : SysKind) (e : Endpoint) (numbers : List ℤ)
    → (kind ≡ kinds.Register → ⊥) → (kind ≡ kinds.Withdraw → ⊥) → request_done t table kind e numbers ≡ same_table table
other_request t table kinds.Register e numbers a b = absurd (a refl)
other_request t table kinds.Withdraw e numbers a b = absurd (b refl)
other_request t table _ e numbers a b = refl
