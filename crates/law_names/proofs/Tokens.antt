-- What messages ask for an endpoint, and reply to it, one after another.
use Rattle.std.proofs.Common.{◌≡◌, ℕ, ◌==◌, ◌&&◌, Bool, true, false, if◌then◌else◌, List, [], ◌∷◌, ◌++◌, flat_map, slice_get, Option, Some, None, ℤ, pos, refl, sym, ap, ◌∙◌}
use Rattle.std.specs.List.{AllByRecursion}
use Rattle.room_kinds.specs.declared.message.Msg.{Msg}
use Rattle.room_kinds.specs.declared.numbers.Endpoint.{Endpoint}
use Rattle.room_kinds.specs.declared.system.SysKind.{SysKind}
use Rattle.room_kinds.specs.declared.system.SysKind.TheVariants as kinds
use Rattle.actor_duties.specs.Words.{is_endpoint}
use Rattle.actor_world.specs.Turns.{all_kinds}
use Rattle.law_names.specs.Created.{asker_by, asker, hearer_by, hearer}
use Rattle.law_names.specs.Registrations.{asked_by, asked, replied_by, replied}
use Rattle.law_names.proofs.OffNames.{AllOffNames}
use Rattle.law_names.proofs.Creating.{off_nobody}
use Rattle.law_names.proofs.Standing.{same_endpoint}

module _ (e : Endpoint) where
  -- who asks for an endpoint is the endpoint
  asker_is : (o : Option SysKind) (source : Option Endpoint) (target : Endpoint) (payload : List ℤ) (k : SysKind) (more : List SysKind)
      → asked_by e o source target payload ≡ k ∷ more → asker_by o source ≡ Some e
  asker_is (Some kinds.Register) (Some x) target (pos name ∷ []) k more h = go (is_endpoint x e) refl h
    where
      go : (a : Bool) → is_endpoint x e ≡ a → (if a && is_endpoint x target then kinds.Register ∷ [] else []) ≡ k ∷ more → Some x ≡ Some e
      go true is q = ap (λ (z : Endpoint). Some z) (same_endpoint x e is)
      go false is q = absurd cc
  asker_is (Some kinds.Withdraw) (Some x) target [] k more h = go (is_endpoint x e) refl h
    where
      go : (a : Bool) → is_endpoint x e ≡ a → (if a && is_endpoint x target then kinds.Withdraw ∷ [] else []) ≡ k ∷ more → Some x ≡ Some e
      go true is q = ap (λ (z : Endpoint). Some z) (same_endpoint x e is)
      go false is q = absurd cc
  asker_is o source target payload k more h = absurd cc

  pub asked_asker : (m : Msg) (k : SysKind) (more : List SysKind) → asked e m ≡ k ∷ more → ((m.prio.0 == 0) ≡ true) × (asker m ≡ Some e)
  asked_asker m k more h = go (m.prio.0 == 0) refl h
    where
      go : (a : Bool) → (m.prio.0 == 0) ≡ a → (if a then asked_by e (slice_get all_kinds m.signal) m.source m.target m.payload else []) ≡ k ∷ more
          → ((m.prio.0 == 0) ≡ true) × ((if m.prio.0 == 0 then asker_by (slice_get all_kinds m.signal) m.source else None) ≡ Some e)
      go true zero q = (zero, rw zero (asker_is (slice_get all_kinds m.signal) m.source m.target m.payload k more q))
      go false zero q = absurd cc

  -- who is replied to is the endpoint
  hearer_is : (o : Option SysKind) (source : Option Endpoint) (target : Endpoint) (payload : List ℤ) (code : ℕ) (more : List ℕ)
      → replied_by e o source target payload ≡ code ∷ more → hearer_by o target ≡ Some e
  hearer_is (Some kinds.NameReply) (Some x) target (pos n ∷ []) code more h = go (is_endpoint target e) refl h
    where
      go : (a : Bool) → is_endpoint target e ≡ a → ◌≡◌ {A = List ℕ} (if a && is_endpoint x target then n ∷ [] else []) (code ∷ more) → Some target ≡ Some e
      go true is q = ap (λ (z : Endpoint). Some z) (same_endpoint target e is)
      go false is q = absurd cc
  hearer_is o source target payload code more h = absurd cc

  pub target_is : (o : Option SysKind) (source : Option Endpoint) (target : Endpoint) (payload : List ℤ) (code : ℕ) (more : List ℕ)
      → replied_by e o source target payload ≡ code ∷ more → target ≡ e
  target_is (Some kinds.NameReply) (Some x) target (pos n ∷ []) code more h = go (is_endpoint target e) refl h
    where
      go : (a : Bool) → is_endpoint target e ≡ a → ◌≡◌ {A = List ℕ} (if a && is_endpoint x target then n ∷ [] else []) (code ∷ more) → target ≡ e
      go true is q = same_endpoint target e is
      go false is q = absurd cc
  target_is o source target payload code more h = absurd cc

  pub replied_hearer : (m : Msg) (code : ℕ) (more : List ℕ) → replied e m ≡ code ∷ more → ((m.prio.0 == 0) ≡ true) × (hearer m ≡ Some e)
  replied_hearer m code more h = go (m.prio.0 == 0) refl h
    where
      go : (a : Bool) → (m.prio.0 == 0) ≡ a → (if a then replied_by e (slice_get all_kinds m.signal) m.source m.target m.payload else []) ≡ code ∷ more
          → ((m.prio.0 == 0) ≡ true) × ((if m.prio.0 == 0 then hearer_by (slice_get all_kinds m.signal) m.target else None) ≡ Some e)
      go true zero q = (zero, rw zero (hearer_is (slice_get all_kinds m.signal) m.source m.target m.payload code more q))
      go false zero q = absurd cc

  -- a message by which nobody asks, or nobody hears
  pub asked_none : (m : Msg) → asker m ≡ None → asked e m ≡ []
  asked_none m h = go (asked e m) refl
    where
      go : (z : List SysKind) → asked e m ≡ z → z ≡ []
      go [] q = refl
      go (k ∷ more) q = (let n : None ≡ Some e = sym h ∙ (asked_asker m k more q).1 in absurd cc)

  pub replied_none : (m : Msg) → hearer m ≡ None → replied e m ≡ []
  replied_none m h = go (replied e m) refl
    where
      go : (z : List ℕ) → replied e m ≡ z → z ≡ []
      go [] q = refl
      go (code ∷ more) q = (let n : None ≡ Some e = sym h ∙ (replied_hearer m code more q).1 in absurd cc)

  pub all_asked_none : (ms : List Msg) → AllByRecursion (λ (m : Msg). asker m ≡ None) ms → flat_map (asked e) ms ≡ []
  all_asked_none [] h = refl
  all_asked_none (m ∷ ms) h = ap (λ (z : List SysKind). z ++ flat_map (asked e) ms) (asked_none m h.0) ∙ all_asked_none ms h.1

  pub off_asked : (ms : List Msg) → AllOffNames ms → flat_map (asked e) ms ≡ []
  off_asked [] h = refl
  off_asked (m ∷ ms) h = ap (λ (z : List SysKind). z ++ flat_map (asked e) ms) (asked_none m (off_nobody m h.0).asks) ∙ off_asked ms h.1

  pub off_replied : (ms : List Msg) → AllOffNames ms → flat_map (replied e) ms ≡ []
  off_replied [] h = refl
  off_replied (m ∷ ms) h = ap (λ (z : List ℕ). z ++ flat_map (replied e) ms) (replied_none m (off_nobody m h.0).tells) ∙ off_replied ms h.1
