-- Two wirings of a model are the same.
use Rattle.std.proofs.Common.{◌≡◌, ◌≢◌, ◌∙◌, ◌⊎◌, inl, inr, ℕ, ◌<◌, ◌≤◌, Bool, true, false, List, [], length, Option, Some, None, refl, sym, ap, subst, arith}
use Rattle.std.specs.Prelude.{slice_get, slice_index_or}
use Rattle.std.proofs.lemmas.Bool.{cases_lt}
use Rattle.room_ast.specs.Trees.{ModelTree}
use Rattle.number_graphs.specs.declared.face_chains.FacePair.{FacePair}
use Rattle.room_wiring.specs.declared.slot.Partner.{Partner}
use Rattle.room_wiring.specs.declared.slot.Partner.TheVariants.{Nobody, End, Socket}
use Rattle.room_wiring.specs.declared.slot.Slot.{Slot}
use Rattle.room_wiring.specs.declared.names.ClassNames.{ClassNames}
use Rattle.room_wiring.specs.declared.tables.PlaceSpan.{PlaceSpan}
use Rattle.room_wiring.specs.declared.tables.Tables.{Tables}
use Rattle.wiring_slots.specs.model_slots.Answers.{slots_in}
use Rattle.wiring_places.specs.declared.place_rules.place.Place.{Place}
use Rattle.wiring_places.specs.place_rules.Partners.{is_relay_role}
use Rattle.wiring_joins.specs.tellings.Told.{SaysWhoIsTold}
use Rattle.binding_expand.specs.Wirings.{places_of, pairs_of, ArePartnersOf, IsWiringOf}
use Rattle.binding_expand.proofs.one_wiring.Lists.{same_list, past, ended, got, at_place}

-- ---- partners

none_is_some : (o : Option Partner) → o ≡ None → o ≢ Some Nobody
none_is_some o e h = let n : ◌≡◌ {A = Option Partner} None (Some Nobody) = sym e ∙ h in absurd cc

module _ (places : List Place) (pairs : List FacePair) where
  -- a partner that isn't nobody is told by all
  told_by_both : (ps qs : List Partner) (i : ℕ) (x : Place) → ArePartnersOf places pairs ps → ArePartnersOf places pairs qs → slice_get places i ≡ Some x → is_relay_role x.role ≡ false → slice_get ps i ≢ Some Nobody
      → slice_get ps i ≡ slice_get qs i
  told_by_both ps qs i x p q e out some =
      let f = p.joined.found i x e out some in
      f.5 ∙ sym (q.joined.joined i f.0 x f.1 e f.2 out f.3 f.4)

  module _ (ps qs : List Partner) (p : ArePartnersOf places pairs ps) (q : ArePartnersOf places pairs qs) (i : ℕ) (x : Place) (e : slice_get places i ≡ Some x) where
    other_told : (o : Option Partner) → slice_get ps i ≡ Some Nobody → is_relay_role x.role ≡ false → slice_get qs i ≡ o → slice_get ps i ≡ slice_get qs i
    other_told None nobody out is = sym (told_by_both qs ps i x q p e out (none_is_some (slice_get qs i) is))
    other_told (Some Nobody) nobody out is = nobody ∙ sym is
    other_told (Some (End s k n)) nobody out is = sym (told_by_both qs ps i x q p e out (λ h. let n : Some (End s k n) ≡ Some Nobody = sym is ∙ h in absurd cc))
    other_told (Some (Socket s k n)) nobody out is = sym (told_by_both qs ps i x q p e out (λ h. let n : Some (Socket s k n) ≡ Some Nobody = sym is ∙ h in absurd cc))

    first_told : (o : Option Partner) → is_relay_role x.role ≡ false → slice_get ps i ≡ o → slice_get ps i ≡ slice_get qs i
    first_told None out is = told_by_both ps qs i x p q e out (none_is_some (slice_get ps i) is)
    first_told (Some Nobody) out is = other_told (slice_get qs i) is out refl
    first_told (Some (End s k n)) out is = told_by_both ps qs i x p q e out (λ h. let n : Some (End s k n) ≡ Some Nobody = sym is ∙ h in absurd cc)
    first_told (Some (Socket s k n)) out is = told_by_both ps qs i x p q e out (λ h. let n : Some (Socket s k n) ≡ Some Nobody = sym is ∙ h in absurd cc)

    same_at : (b : Bool) → is_relay_role x.role ≡ b → slice_get ps i ≡ slice_get qs i
    same_at true relay = p.relays i x e relay ∙ sym (q.relays i x e relay)
    same_at false out = first_told (slice_get ps i) out refl

  same_partner : (ps qs : List Partner) → ArePartnersOf places pairs ps → ArePartnersOf places pairs qs → (i : ℕ) (o : Option Place) → slice_get places i ≡ o → slice_get ps i ≡ slice_get qs i
  same_partner ps qs p q i None e =
      let end = ended places i e in
      past ps i (omega (arith, end, p.complete)) ∙ sym (past qs i (omega (arith, end, q.complete)))
  same_partner ps qs p q i (Some x) e = same_at ps qs p q i x e (is_relay_role x.role) refl

  same_partners : (ps qs : List Partner) → ArePartnersOf places pairs ps → ArePartnersOf places pairs qs → ps ≡ qs
  same_partners ps qs p q = same_list ps qs (λ i. same_partner ps qs p q i (slice_get places i) refl)

-- ---- who is told

module _ (slots : List Slot) (places : List Place) (partners : List Partner) (controllers : ℕ) (a b : List (List Bool)) (says : SaysWhoIsTold slots places partners controllers a) (also : SaysWhoIsTold slots places partners controllers b) where
  same_answer : (s d : ℕ) → s < length slots → (d < controllers) ⊎ (controllers ≤ d) → slice_get (slice_index_or a s []) d ≡ slice_get (slice_index_or b s []) d
  same_answer s d lt (inl within) =
      let here : length (slice_index_or a s []) ≡ controllers = at_place (λ (row : List Bool). length row ≡ controllers) a s [] says.rows (omega (arith, says.answered)) in
      let there : length (slice_index_or b s []) ≡ controllers = at_place (λ (row : List Bool). length row ≡ controllers) b s [] also.rows (omega (arith, also.answered)) in
      got (slice_index_or a s []) d false (omega (arith, here)) ∙ ap (λ (x : Bool). Some x) (says.answers s d lt within ∙ sym (also.answers s d lt within)) ∙ sym (got (slice_index_or b s []) d false (omega (arith, there)))
  same_answer s d lt (inr beyond) =
      let here : length (slice_index_or a s []) ≡ controllers = at_place (λ (row : List Bool). length row ≡ controllers) a s [] says.rows (omega (arith, says.answered)) in
      let there : length (slice_index_or b s []) ≡ controllers = at_place (λ (row : List Bool). length row ≡ controllers) b s [] also.rows (omega (arith, also.answered)) in
      past (slice_index_or a s []) d (omega (arith, here)) ∙ sym (past (slice_index_or b s []) d (omega (arith, there)))

  same_row : (s : ℕ) → (s < length slots) ⊎ (length slots ≤ s) → slice_get a s ≡ slice_get b s
  same_row s (inl lt) =
      got a s [] (omega (arith, says.answered)) ∙ ap (λ (row : List Bool). Some row) (same_list (slice_index_or a s []) (slice_index_or b s []) (λ d. same_answer s d lt (cases_lt d controllers))) ∙ sym (got b s [] (omega (arith, also.answered)))
  same_row s (inr beyond) = past a s (omega (arith, says.answered)) ∙ sym (past b s (omega (arith, also.answered)))

  same_told : a ≡ b
  same_told = same_list a b (λ s. same_row s (cases_lt s (length slots)))

-- ---- tables

abbrev tables : List Slot → List (List ℕ) → List ClassNames → List ℕ → List PlaceSpan → List Partner → List (List Bool) → Tables
tables slots controllers classes first_ports ports partners told = record { slots = slots; controllers = controllers; classes = classes; first_ports = first_ports; ports = ports; partners = partners; told = told }

same_tables : (t u : Tables) → t.slots ≡ u.slots → t.controllers ≡ u.controllers → t.classes ≡ u.classes → t.first_ports ≡ u.first_ports → t.ports ≡ u.ports → t.partners ≡ u.partners → t.told ≡ u.told → t ≡ u
same_tables t u slots controllers classes first_ports ports partners told =
    ap (λ (x : List Slot). tables x t.controllers t.classes t.first_ports t.ports t.partners t.told) slots ∙ ap (λ (x : List (List ℕ)). tables u.slots x t.classes t.first_ports t.ports t.partners t.told) controllers
    ∙ ap (λ (x : List ClassNames). tables u.slots u.controllers x t.first_ports t.ports t.partners t.told) classes ∙ ap (λ (x : List ℕ). tables u.slots u.controllers u.classes x t.ports t.partners t.told) first_ports
    ∙ ap (λ (x : List PlaceSpan). tables u.slots u.controllers u.classes u.first_ports x t.partners t.told) ports ∙ ap (λ (x : List Partner). tables u.slots u.controllers u.classes u.first_ports u.ports x t.told) partners
    ∙ ap (λ (x : List (List Bool)). tables u.slots u.controllers u.classes u.first_ports u.ports u.partners x) told

pub same_wiring : (m : ModelTree) (t u : Tables) → IsWiringOf m t → IsWiringOf m u → t ≡ u
same_wiring m t u a b =
    let controllers = a.controllers ∙ sym b.controllers in
    let partners = same_partners (places_of m) (pairs_of m) t.partners u.partners a.partners b.partners in
    let by_partners = subst (λ (ps : List Partner). SaysWhoIsTold (slots_in m) (places_of m) ps (length t.controllers) t.told) partners a.told in
    let by_controllers = subst (λ (cs : List (List ℕ)). SaysWhoIsTold (slots_in m) (places_of m) u.partners (length cs) t.told) controllers by_partners in
    let told = same_told (slots_in m) (places_of m) u.partners (length u.controllers) t.told u.told by_controllers b.told in
    same_tables t u (a.slots ∙ sym b.slots) controllers (a.classes ∙ sym b.classes) (a.first_ports ∙ sym b.first_ports) (a.ports ∙ sym b.ports) partners told
