-- A look at places and their partners.
use Rattle.std.proofs.Common.{◌≡◌, ◌∙◌, ℕ, zero, suc, ◌+◌, Bool, true, false, List, [], ◌∷◌, Some, refl, sym, ap}
use Rattle.std.specs.Prelude.{slice_get, slice_index, ◌||◌, ◌==◌, ◌/◌, if◌then◌else◌}
use Rattle.room_wiring.specs.declared.slot.Partner.{Partner}
use Rattle.room_wiring.specs.declared.slot.Partner.TheVariants.{Nobody}
use Rattle.wiring_places.specs.declared.place_rules.place.Place.{Place}
use Rattle.wiring_places.specs.place_rules.Partners.{any_joined, is_relay_role, partner_of, partner_at_end, partners, partners_from}

-- a place and its partner that pass a test
pub record Passes (test : Place → Partner → Bool) (places : List Place) (ps : List Partner) : Type 0 where
  pub i : ℕ
  pub place : Place
  pub partner : Partner
  pub place_at : slice_get places i ≡ Some place
  pub partner_at : slice_get ps i ≡ Some partner
  pub passes : test place partner ≡ true

module _ (test : Place → Partner → Bool) where
  here_or_later : (x : Place) (xs : List Place) (p : Partner) (ps : List Partner) (b : Bool) → (any_joined test xs ps ≡ true → Passes test xs ps) → test x p ≡ b → (b || any_joined test xs ps) ≡ true → Passes test (x ∷ xs) (p ∷ ps)
  here_or_later x xs p ps true later h e = record { i = 0; place = x; partner = p; place_at = refl; partner_at = refl; passes = h }
  here_or_later x xs p ps false later h e =
      let found = later e in
      record { i = suc found.i; place = found.place; partner = found.partner; place_at = found.place_at; partner_at = found.partner_at; passes = found.passes }

  -- where some pass, these do
  pub found_by : (places : List Place) (ps : List Partner) → any_joined test places ps ≡ true → Passes test places ps
  found_by [] ps e = absurd cc
  found_by (x ∷ xs) [] e = absurd cc
  found_by (x ∷ xs) (p ∷ ps) e = here_or_later x xs p ps (test x p) (found_by xs ps) refl e

  left_fails : (a b : Bool) → (a || b) ≡ false → a ≡ false
  left_fails true b e = absurd cc
  left_fails false b e = refl

  right_fails : (a b : Bool) → (a || b) ≡ false → b ≡ false
  right_fails true b e = absurd cc
  right_fails false b e = e

  -- where none pass, none at any place does
  pub fails_at : (places : List Place) (ps : List Partner) (i : ℕ) (x : Place) (p : Partner) → any_joined test places ps ≡ false → slice_get places i ≡ Some x → slice_get ps i ≡ Some p → test x p ≡ false
  fails_at [] ps i x p e ex ep = absurd cc
  fails_at (y ∷ ys) [] i x p e ex ep = absurd cc
  fails_at (y ∷ ys) (q ∷ qs) zero x p e ex ep =
      let same : y ≡ x = cc in
      let too : q ≡ p = cc in
      ap (λ (z : Place). test z p) (sym same) ∙ ap (λ (r : Partner). test y r) (sym too) ∙ left_fails (test y q) (any_joined test ys qs) e
  fails_at (y ∷ ys) (q ∷ qs) (suc i) x p e ex ep = fails_at ys qs i x p (right_fails (test y q) (any_joined test ys qs) e) ex ep

-- a place that passes messages on has nobody at its end
relay_alone : (all : List Place) (far : List ℕ) (face : ℕ) (x : Place) → is_relay_role x.role ≡ true → partner_at_end all far face x ≡ Nobody
relay_alone all far face x relay = ap (λ b. if b then Nobody else (if slice_index far face == face then Nobody else partner_of (slice_get all (slice_index far face / 2)))) relay

told_nobody : (all : List Place) (far : List ℕ) (face : ℕ) (xs : List Place) (i : ℕ) (x : Place) → slice_get xs i ≡ Some x → is_relay_role x.role ≡ true → slice_get (partners_from all far face xs) i ≡ Some Nobody
unfolding partners_from
told_nobody all far face [] i x e relay = absurd cc
told_nobody all far face (y ∷ ys) zero x e relay =
    let same : y ≡ x = cc in
    ap (λ (p : Partner). Some p) (relay_alone all far face y (ap (λ (z : Place). is_relay_role z.role) same ∙ relay))
told_nobody all far face (y ∷ ys) (suc i) x e relay = told_nobody all far (face + 2) ys i x e relay

pub relay_told : (places : List Place) (far : List ℕ) (i : ℕ) (x : Place) → slice_get places i ≡ Some x → is_relay_role x.role ≡ true → slice_get (partners places far) i ≡ Some Nobody
relay_told places far i x e relay = told_nobody places far 0 places i x e relay
