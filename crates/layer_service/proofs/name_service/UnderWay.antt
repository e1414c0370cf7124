-- Users linked one after another.
use Rattle.std.proofs.Common.{◌≡◌, ℕ, ◌+◌, List, [], ◌∷◌, ◌++◌, Option, Some, None, sym, ap, ◌∙◌, append_assoc}
use Rattle.room_kinds.specs.declared.message.Msg.{Msg}
use Rattle.room_kinds.specs.declared.numbers.Endpoint.{Endpoint}
use Rattle.room_kinds.specs.declared.system.SysKind.TheVariants as kinds
use Rattle.room_wiring.specs.declared.tables.Tables.{Tables}
use Rattle.actor_duties.specs.State.{User}
use Rattle.actor_duties.specs.Names.{Linking, linked_first, linked_users, both_told}

-- the users done so far, those that are left, the place of the next link and the messages so far give
-- the whole
pub record IsUnderWay (t : Tables) (p : Endpoint) (whole : Linking) (before : List Msg) (done rest : List User) (place : ℕ) (out : List Msg) : Type 0 where
  pub users : whole.users ≡ done ++ (linked_users t p rest place).users
  pub next : whole.next ≡ (linked_users t p rest place).next
  pub sent : before ++ whole.sent ≡ out ++ (linked_users t p rest place).sent

-- a user that is linked stays as it is
pub pass_linked : (t : Tables) (p : Endpoint) (whole : Linking) (before : List Msg) (done rest : List User) (place : ℕ) (out : List Msg) (u : User) (k : ℕ)
    → u.linked ≡ Some k → IsUnderWay t p whole before done (u ∷ rest) place out → IsUnderWay t p whole before (done ++ u ∷ []) rest place out
pass_linked t p whole before done rest place out u k e w =
    let first : linked_users t p (u ∷ rest) place ≡ linked_first t p place u (Some k) (linked_users t p rest) = ap (λ (o : Option ℕ). linked_first t p place u o (linked_users t p rest)) e in
    record {
      users = w.users ∙ ap (λ (r : Linking). done ++ r.users) first ∙ sym (append_assoc done (u ∷ []) (linked_users t p rest place).users);
      next = w.next ∙ ap (λ (r : Linking). r.next) first;
      sent = w.sent ∙ ap (λ (r : Linking). out ++ r.sent) first;
    }

-- a user that waits is linked
pub link_waiting : (t : Tables) (p : Endpoint) (whole : Linking) (before : List Msg) (done rest : List User) (place : ℕ) (out : List Msg) (u : User)
    → u.linked ≡ None → IsUnderWay t p whole before done (u ∷ rest) place out
    → IsUnderWay t p whole before (done ++ record { at = u.at; linked = Some place } ∷ []) rest (place + 1) (out ++ both_told t kinds.Bound p place u.at)
link_waiting t p whole before done rest place out u e w =
    let now : User = record { at = u.at; linked = Some place } in
    let first : linked_users t p (u ∷ rest) place ≡ linked_first t p place u None (linked_users t p rest) = ap (λ (o : Option ℕ). linked_first t p place u o (linked_users t p rest)) e in
    record {
      users = w.users ∙ ap (λ (r : Linking). done ++ r.users) first ∙ sym (append_assoc done (now ∷ []) (linked_users t p rest (place + 1)).users);
      next = w.next ∙ ap (λ (r : Linking). r.next) first;
      sent = w.sent ∙ ap (λ (r : Linking). out ++ r.sent) first ∙ sym (append_assoc out (both_told t kinds.Bound p place u.at) (linked_users t p rest (place + 1)).sent);
    }
