-- Partners are exactly the joined places.
use Rattle.std.proofs.Common.{◌≡◌, ◌≢◌, ◌⊎◌, ℕ, ◌+◌, ◌*◌, ◌/◌, ◌%◌, ◌<◌, Bool, true, false, List, [], ◌∷◌, length, suc, zero, refl, sym, ap, ◌∙◌, subst, arith, Option, Some, None, slice_index, inl, inr}
use Rattle.std.specs.Prelude.{slice_get, ◌==◌, if◌then◌else◌}
use Rattle.std.proofs.lemmas.Bool.{cases_eq}
use Rattle.std.proofs.lemmas.Bool.Decides.{nat_tests}
use Rattle.room_wiring.specs.declared.slot.Partner.{Partner}
use Rattle.room_wiring.specs.declared.slot.Partner.TheVariants.{Nobody}
use Rattle.number_graphs.specs.declared.face_chains.FacePair.{FacePair}
use Rattle.number_graphs.specs.face_chains.Chains.{IsPaired, Leads, paired, passes, ShowsChains}
use Rattle.wiring_places.specs.declared.place_rules.place.Place.{Place}
use Rattle.wiring_places.specs.declared.place_rules.place.Role.{Role}
use Rattle.wiring_places.specs.declared.place_rules.place.Role.TheVariants.{Relay, End, Socket}
use Rattle.wiring_places.specs.place_rules.Partners.{is_relay_role, across_places, across_from, partner_of_role, partner_of, partner_at_end, partners, partners_from}
use Rattle.wiring_joins.specs.place_joins.Joined.{IsJoined, PairsInnerFacesOfRelays, ShowsJoins}

-- what lies across the outer face of a place that passes nothing on
across_at : (face : ℕ) (xs : List Place) (i : ℕ) (x : Place) → slice_get xs i ≡ Some x → is_relay_role x.role ≡ false → slice_index (across_from face xs) (2 * i) ≡ face + 2 * i
unfolding across_from
across_at face [] i x e r = absurd cc
across_at face (y ∷ ys) zero x e r =
    let same : y ≡ x = cc in
    let out : is_relay_role y.role ≡ false = ap (λ (z : Place). is_relay_role z.role) same ∙ r in
    let here : (if is_relay_role y.role then face + 1 else face) ≡ face = ap (λ b. if b then face + 1 else face) out in
    let at : slice_index (across_from face (y ∷ ys)) 0 ≡ face + 0 = here ∙ omega arith in
    let two : 0 ≡ 2 * 0 = omega arith in
    let Q : ℕ → Type 0 = λ n. slice_index (across_from face (y ∷ ys)) n ≡ face + n in subst Q two at
across_at face (y ∷ ys) (suc i) x e r =
    let two : suc (suc (2 * i)) ≡ 2 * suc i = omega arith in
    let on : slice_index (across_from (face + 2) ys) (2 * i) ≡ (face + 2) + 2 * i = across_at (face + 2) ys i x e r in
    let at : slice_index (across_from face (y ∷ ys)) (suc (suc (2 * i))) ≡ face + suc (suc (2 * i)) = on ∙ omega arith in
    let Q : ℕ → Type 0 = λ n. slice_index (across_from face (y ∷ ys)) n ≡ face + n in subst Q two at

-- its inner face lies across itself, too
across_inner : (face : ℕ) (xs : List Place) (i : ℕ) (x : Place) → slice_get xs i ≡ Some x → is_relay_role x.role ≡ false → slice_index (across_from face xs) (2 * i + 1) ≡ face + (2 * i + 1)
unfolding across_from
across_inner face [] i x e r = absurd cc
across_inner face (y ∷ ys) zero x e r =
    let same : y ≡ x = cc in
    let out : is_relay_role y.role ≡ false = ap (λ (z : Place). is_relay_role z.role) same ∙ r in
    let here : (if is_relay_role y.role then face else face + 1) ≡ face + 1 = ap (λ b. if b then face else face + 1) out in
    let two : 1 ≡ 2 * 0 + 1 = omega arith in
    let Q : ℕ → Type 0 = λ n. slice_index (across_from face (y ∷ ys)) n ≡ face + n in subst Q two here
across_inner face (y ∷ ys) (suc i) x e r =
    let two : suc (suc (2 * i + 1)) ≡ 2 * suc i + 1 = omega arith in
    let on : slice_index (across_from (face + 2) ys) (2 * i + 1) ≡ (face + 2) + (2 * i + 1) = across_inner (face + 2) ys i x e r in
    let at : slice_index (across_from face (y ∷ ys)) (suc (suc (2 * i + 1))) ≡ face + suc (suc (2 * i + 1)) = on ∙ omega arith in
    let Q : ℕ → Type 0 = λ n. slice_index (across_from face (y ∷ ys)) n ≡ face + n in subst Q two at

faces_long : (face : ℕ) (xs : List Place) → length (across_from face xs) ≡ 2 * length xs
unfolding across_from
faces_long face [] = refl
faces_long face (x ∷ xs) = let h = faces_long (face + 2) xs in omega (arith, h)

get_below : (xs : List Place) (i : ℕ) (x : Place) → slice_get xs i ≡ Some x → i < length xs
get_below [] i x e = absurd cc
get_below (y ∷ ys) zero x e = omega arith
get_below (y ∷ ys) (suc i) x e = let h = get_below ys i x e in omega (arith, h)

partner_at : (all : List Place) (far : List ℕ) (face : ℕ) (xs : List Place) (i : ℕ) (x : Place) → slice_get xs i ≡ Some x → slice_get (partners_from all far face xs) i ≡ Some (partner_at_end all far (face + 2 * i) x)
unfolding partners_from
partner_at all far face [] i x e = absurd cc
partner_at all far face (y ∷ ys) zero x e = let same : y ≡ x = cc in let two : face ≡ face + 2 * 0 = omega arith in ap (λ (z : Place). Some (partner_at_end all far face z)) same ∙ ap (λ n. Some (partner_at_end all far n x)) two
partner_at all far face (y ∷ ys) (suc i) x e = let two : (face + 2) + 2 * i ≡ face + 2 * suc i = omega arith in partner_at all far (face + 2) ys i x e ∙ ap (λ n. Some (partner_at_end all far n x)) two

module _ (places : List Place) (pairs : List FacePair) (far : List ℕ) (shows : ShowsChains (across_places places) pairs far) (inner : PairsInnerFacesOfRelays places pairs) where
  outer : (i : ℕ) (x : Place) → slice_get places i ≡ Some x → is_relay_role x.role ≡ false → slice_index (across_places places) (2 * i) ≡ 2 * i
  outer i x e r = let z : 0 + 2 * i ≡ 2 * i = omega arith in across_at 0 places i x e r ∙ z

  inside : (i : ℕ) (x : Place) → slice_get places i ≡ Some x → is_relay_role x.role ≡ false → slice_index (across_places places) (2 * i + 1) ≡ 2 * i + 1
  inside i x e r = let z : 0 + (2 * i + 1) ≡ 2 * i + 1 = omega arith in across_inner 0 places i x e r ∙ z

  below : (i : ℕ) (x : Place) → slice_get places i ≡ Some x → 2 * i < length (across_places places)
  below i x e = let h = get_below places i x e in let l = faces_long 0 places in omega (arith, h, l)

  told : (i : ℕ) (x : Place) → slice_get places i ≡ Some x → slice_get (partners places far) i ≡ Some (partner_at_end places far (2 * i) x)
  told i x e = let z : 0 + 2 * i ≡ 2 * i = omega arith in partner_at places far 0 places i x e ∙ ap (λ n. Some (partner_at_end places far n x)) z

  other_end : (face : ℕ) (x : Place) → is_relay_role x.role ≡ false → (slice_index far face == face) ≡ false → partner_at_end places far face x ≡ partner_of (slice_get places (slice_index far face / 2))
  other_end face x r e = ap (λ b. if b then Nobody else (if slice_index far face == face then Nobody else partner_of (slice_get places (slice_index far face / 2)))) r ∙ ap (λ b. if b then Nobody else partner_of (slice_get places (slice_index far face / 2))) e

  no_end : (face : ℕ) (x : Place) → is_relay_role x.role ≡ false → (slice_index far face == face) ≡ true → partner_at_end places far face x ≡ Nobody
  no_end face x r e = ap (λ b. if b then Nobody else (if slice_index far face == face then Nobody else partner_of (slice_get places (slice_index far face / 2)))) r ∙ ap (λ b. if b then Nobody else partner_of (slice_get places (slice_index far face / 2))) e

  pub joined_partner : (i j : ℕ) (x y : Place) → slice_get places i ≡ Some x → slice_get places j ≡ Some y → is_relay_role x.role ≡ false → is_relay_role y.role ≡ false → IsJoined places pairs i j → slice_get (partners places far) i ≡ Some (partner_of_role y.role y)
  joined_partner i j x y ex ey rx ry l =
      let led = shows.led (2 * i) (2 * j) (below i x ex) (outer i x ex rx) (outer j y ey ry) l in
      let end_is : slice_index far (2 * i) ≡ 2 * j = led.0 in
      let apart : (slice_index far (2 * i) == 2 * i) ≡ false = ap (λ n. n == 2 * i) end_is ∙ (let ne : 2 * j ≢ 2 * i = led.1 in grind (arith, nat_tests)) in
      let half : slice_index far (2 * i) / 2 ≡ j = ap (λ n. n / 2) end_is ∙ omega arith in
      told i x ex ∙ ap (λ p. Some p) (other_end (2 * i) x rx apart ∙ ap (λ n. partner_of (slice_get places n)) half ∙ ap partner_of ey)

  last_pair : (f h : ℕ) → Leads (across_places places) pairs f h → (g : ℕ) × IsPaired pairs g h
  last_pair f h (paired _ _ p) = (f, p)
  last_pair f h (passes _ g _ p ne l) = last_pair (slice_index (across_places places) g) h l

  bool_cases : (b : Bool) → (b ≡ true) ⊎ (b ≡ false)
  bool_cases true = inl refl
  bool_cases false = inr refl

  relay_joins_nobody : (r : Role) (y : Place) → is_relay_role r ≡ true → partner_of_role r y ≡ Nobody
  relay_joins_nobody Relay y e = refl
  relay_joins_nobody End y e = absurd cc
  relay_joins_nobody Socket y e = absurd cc

  Found : ℕ → Type 0
  Found i = (j : ℕ) × (y : Place) × (slice_get places j ≡ Some y) × (is_relay_role y.role ≡ false) × IsJoined places pairs i j × (slice_get (partners places far) i ≡ Some (partner_of_role y.role y))

  at_place : (i : ℕ) (x : Place) (j : ℕ) (y : Place) → slice_get places i ≡ Some x → is_relay_role x.role ≡ false → (slice_index far (2 * i) == 2 * i) ≡ false → slice_get places j ≡ Some y → is_relay_role y.role ≡ false → slice_index far (2 * i) / 2 ≡ j
      → (slice_index far (2 * i) ≡ 2 * j) ⊎ (slice_index far (2 * i) ≡ 2 * j + 1) → Found i
  unfolding Found
  at_place i x j y ex rx apart ey ry half (inl even) =
      let ne : 2 * j ≢ 2 * i = (let a : (2 * j == 2 * i) ≡ false = ap (λ n. n == 2 * i) (sym even) ∙ apart in grind (arith, nat_tests)) in
      (j, y, ey, ry, shows.leads (2 * i) (2 * j) (below i x ex) (outer i x ex rx) (outer j y ey ry) even ne, told i x ex ∙ ap (λ p. Some p) (other_end (2 * i) x rx apart ∙ ap (λ n. partner_of (slice_get places n)) half ∙ ap partner_of ey))
  at_place i x j y ex rx apart ey ry half (inr odd) =
      let ne : 2 * j + 1 ≢ 2 * i = omega arith in
      let l = shows.leads (2 * i) (2 * j + 1) (below i x ex) (outer i x ex rx) (inside j y ey ry) odd ne in
      let p = last_pair (2 * i) (2 * j + 1) l in
      absurd (inner p.0 j p.1 (inside j y ey ry))

  halves : (e : ℕ) → (e ≡ 2 * (e / 2)) ⊎ (e ≡ 2 * (e / 2) + 1)
  halves e = elim (cases_eq (e % 2) 0) [ inl even ↦ inl (omega (arith, even)) | inr odd ↦ inr (omega (arith, odd)) ]

  nobody : (i : ℕ) (x : Place) → slice_get places i ≡ Some x → slice_get (partners places far) i ≢ Some Nobody → partner_at_end places far (2 * i) x ≡ Nobody → Found i
  nobody i x ex nn e = absurd (nn (told i x ex ∙ ap (λ p. Some p) e))

  at_end : (i : ℕ) (x : Place) (o : Option Place) → slice_get places i ≡ Some x → is_relay_role x.role ≡ false → slice_get (partners places far) i ≢ Some Nobody → (slice_index far (2 * i) == 2 * i) ≡ false → slice_get places (slice_index far (2 * i) / 2) ≡ o → Found i
  at_end i x None ex rx nn apart eo = nobody i x ex nn (other_end (2 * i) x rx apart ∙ ap partner_of eo)
  at_end i x (Some y) ex rx nn apart eo =
      elim (bool_cases (is_relay_role y.role)) [
        | inl relay ↦ nobody i x ex nn (other_end (2 * i) x rx apart ∙ ap partner_of eo ∙ relay_joins_nobody y.role y relay)
        | inr ry ↦ at_place i x (slice_index far (2 * i) / 2) y ex rx apart eo ry refl (halves (slice_index far (2 * i)))
      ]

  found_partner : (i : ℕ) (x : Place) → slice_get places i ≡ Some x → is_relay_role x.role ≡ false → slice_get (partners places far) i ≢ Some Nobody → Found i
  found_partner i x ex rx nn =
      elim (bool_cases (slice_index far (2 * i) == 2 * i)) [
        | inl same ↦ nobody i x ex nn (no_end (2 * i) x rx same)
        | inr apart ↦ at_end i x (slice_get places (slice_index far (2 * i) / 2)) ex rx nn apart refl
      ]

  pub shows_joins : ShowsJoins places pairs (partners places far)
  unfolding Found
  shows_joins = record { joined = joined_partner; found = found_partner }

pub shows_joins_at : (places : List Place) (far : List ℕ) (row : List Partner) → row ≡ partners places far → (pairs : List FacePair) → ShowsChains (across_places places) pairs far → PairsInnerFacesOfRelays places pairs → ShowsJoins places pairs row
shows_joins_at places far row e pairs shows inner = let Q : List Partner → Type 0 = λ ps. ShowsJoins places pairs ps in subst Q (sym e) (shows_joins places pairs far shows inner)
