-- One more place.
use Rattle.std.proofs.Common.{◌≡◌, ℕ, ◌+◌, ◌<◌, ◌≤◌, Bool, true, false, List, [], ◌∷◌, ◌++◌, length, drop, ◌||◌, sym, ap, ◌∙◌, arith, append_assoc, append-nil}
use Rattle.std.proofs.lemmas.List.{at_drop_more, at_drop_all}
use Rattle.std.specs.Prelude.{slice_index_or, if◌then◌else◌}
use Rattle.room_wiring.specs.declared.slot.Partner.{Partner}
use Rattle.wiring_places.specs.declared.place_rules.place.Place.{Place}
use Rattle.wiring_places.specs.place_rules.Partners.{is_relay_role, across_from, partner_at_end, partners_from, any_joined}

pub across_more : (places : List Place) (i : ℕ) (d : Place) (face inner a b next : ℕ) (done one out : List ℕ) → i < length places → inner ≡ face + 1 → a ≡ (if is_relay_role (slice_index_or places i d).role then inner else face) → b ≡ (if is_relay_role (slice_index_or places i d).role then face else inner) → next ≡ face + 2
    → one ≡ done ++ a ∷ [] → out ≡ one ++ b ∷ [] → out ++ across_from next (drop (i + 1) places) ≡ done ++ across_from face (drop i places)
unfolding across_from
across_more places i d face inner a b next done one out lt ei ea eb en first second =
    let left = across_from next (drop (i + 1) places) in
    let relay = is_relay_role (slice_index_or places i d).role in
    let a_is : a ≡ (if relay then face + 1 else face) = ea ∙ ap (λ n. if relay then n else face) ei in
    let b_is : b ≡ (if relay then face else face + 1) = eb ∙ ap (λ n. if relay then face else n) ei in
    let here : across_from face (drop i places) ≡ a ∷ b ∷ left =
    at_drop_more (across_from face) places i d lt ∙ ap (λ n. (if relay then face + 1 else face) ∷ (if relay then face else face + 1) ∷ across_from n (drop (i + 1) places)) (sym en) ∙ ap (λ n. n ∷ (if relay then face else face + 1) ∷ left) (sym a_is) ∙ ap (λ n. a ∷ n ∷ left) (sym b_is) in
    ap (λ xs. xs ++ left) (second ∙ ap (λ xs. xs ++ b ∷ []) first) ∙ append_assoc (done ++ a ∷ []) (b ∷ []) left ∙ append_assoc done (a ∷ []) (b ∷ left) ∙ ap (λ xs. done ++ xs) (sym here)

pub across_end : (places : List Place) (i face : ℕ) (done : List ℕ) → length places ≤ i → done ++ across_from face (drop i places) ≡ done
unfolding across_from
across_end places i face done le = ap (λ xs. done ++ xs) (at_drop_all (across_from face) places i le) ∙ append-nil done

pub partners_more : (all : List Place) (far : List ℕ) (places : List Place) (i : ℕ) (d : Place) (face next : ℕ) (p : Partner) (done out : List Partner) → i < length places → p ≡ partner_at_end all far face (slice_index_or places i d) → next ≡ face + 2 → out ≡ done ++ p ∷ []
    → out ++ partners_from all far next (drop (i + 1) places) ≡ done ++ partners_from all far face (drop i places)
unfolding partners_from
partners_more all far places i d face next p done out lt ep en pushed =
    let left = partners_from all far next (drop (i + 1) places) in
    let x = slice_index_or places i d in
    let here : partners_from all far face (drop i places) ≡ p ∷ left =
    at_drop_more (partners_from all far face) places i d lt ∙ ap (λ n. partner_at_end all far face x ∷ partners_from all far n (drop (i + 1) places)) (sym en) ∙ ap (λ q. q ∷ left) (sym ep) in
    ap (λ xs. xs ++ left) pushed ∙ append_assoc done (p ∷ []) left ∙ ap (λ xs. done ++ xs) (sym here)

pub partners_end : (all : List Place) (far : List ℕ) (places : List Place) (i face : ℕ) (done : List Partner) → length places ≤ i → done ++ partners_from all far face (drop i places) ≡ done
unfolding partners_from
partners_end all far places i face done le = ap (λ xs. done ++ xs) (at_drop_all (partners_from all far face) places i le) ∙ append-nil done

pub any_more : (test : Place → Partner → Bool) (places : List Place) (ps : List Partner) (i : ℕ) (d : Place) (e : Partner) → i < length places → i < length ps → any_joined test (drop i places) (drop i ps) ≡ (test (slice_index_or places i d) (slice_index_or ps i e) || any_joined test (drop (i + 1) places) (drop (i + 1) ps))
any_more test places ps i d e lp lq = at_drop_more (λ xs. any_joined test xs (drop i ps)) places i d lp ∙ at_drop_more (λ ys. any_joined test (slice_index_or places i d ∷ drop (i + 1) places) ys) ps i e lq

pub any_here : (test : Place → Partner → Bool) (places : List Place) (ps : List Partner) (i : ℕ) (d : Place) (e : Partner) → length places ≡ length ps → i < length places → test (slice_index_or places i d) (slice_index_or ps i e) ≡ true → any_joined test (drop i places) (drop i ps) ≡ true
any_here test places ps i d e size lt is = any_more test places ps i d e lt (omega (arith, size, lt)) ∙ ap (λ b. b || any_joined test (drop (i + 1) places) (drop (i + 1) ps)) is

pub any_next : (test : Place → Partner → Bool) (places : List Place) (ps : List Partner) (i : ℕ) (d : Place) (e : Partner) → length places ≡ length ps → i < length places → test (slice_index_or places i d) (slice_index_or ps i e) ≡ false → any_joined test (drop (i + 1) places) (drop (i + 1) ps) ≡ any_joined test (drop i places) (drop i ps)
any_next test places ps i d e size lt is = sym (any_more test places ps i d e lt (omega (arith, size, lt)) ∙ ap (λ b. b || any_joined test (drop (i + 1) places) (drop (i + 1) ps)) is)

pub any_end : (test : Place → Partner → Bool) (places : List Place) (ps : List Partner) (i : ℕ) → length places ≤ i → any_joined test (drop i places) (drop i ps) ≡ false
any_end test places ps i le = at_drop_all (λ xs. any_joined test xs (drop i ps)) places i le
