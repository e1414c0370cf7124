-- In a quiet world all controllers agree on imports: what the rows of the pairs come to where nothing is on
-- its way.
use Rattle.std.proofs.Common.{◌≡◌, ℕ, suc, ◌<◌, ◌≤◌, ◌==◌, ◌&&◌, Bool, true, false, if◌then◌else◌, List, [], ◌∷◌, flat_map, Option, Some, refl, sym, ap, ◌∙◌, subst, eq-eqb, arith, ◌⊎◌, inl, inr}
use Rattle.std.specs.Prelude.{count_by}
use Rattle.std.specs.Option.{option_map_or}
use Rattle.std.specs.List.{AllByRecursion}
use Rattle.std.proofs.lemmas.Bool.{cases_lt}
use Rattle.room_kinds.specs.declared.numbers.Incarnation.{Incarnation}
use Rattle.room_wiring.specs.declared.tables.Tables.{Tables}
use Rattle.actor_merge.specs.Parties.{Line}
use Rattle.actor_merge.specs.World.{World, Placed, IsQuiet, start, Runs}
use Rattle.actor_duties.specs.Words.{incarnation, is_incarnation, is_imported, is_home, container_of, owner_of}
use Rattle.actor_duties.specs.State.{Frame, Held}
use Rattle.actor_duties.specs.Lives.{is_live, last_of}
use Rattle.actor_world.specs.Behaviour.{Behaviour}
use Rattle.actor_world.specs.Body.{Body}
use Rattle.actor_world.specs.Start.{plant_of}
use Rattle.actor_world.specs.Directories.{IsOpen, AreOpen}
use Rattle.actor_world.specs.Agreed.{frame_at, lives_in, place_of, plugged, has_container, ImportsAgree}
use Rattle.law_agreement.specs.Imports.{home_of, PlacesAreLocal, OwnersAreThere}
use Rattle.law_agreement.specs.Held.{PlacesAreContained}
use Rattle.law_agreement.specs.Loans.{Side, Apart, Holds, Row, tied_as, side_of, lent_by, lent_of, forth_of, back_of, IsInRow}
use Rattle.law_agreement.proofs.Agreeing.{quiet_trail}
use Rattle.law_agreement.proofs.Waiting.{quiet_places}
use Rattle.law_agreement.proofs.Keeping.{LendsSo, runs_lend_so}
use Rattle.law_agreement.proofs.Pairing.{row_once, row_quiet_plugged, row_quiet_held}
use Rattle.law_agreement.proofs.Counting.{count_cons}
use Rattle.law_agreement.proofs.Emitting.{same_incarnation, itself}
use Rattle.law_agreement.proofs.Siding.{side_live, side_tied, holds_held}
use Rattle.law_agreement.proofs.Standing.{same_row, runs_stand}

-- what is counted in a list has what all of the list have
counted : (P : Incarnation → Type 0) (i : Incarnation) (xs : List Incarnation) → AllByRecursion P xs → 1 ≤ count_by (is_incarnation i) xs → P i
counted P i [] all h = absurd (omega (arith, h))
counted P i (x ∷ xs) all h = go (is_incarnation i x) refl (counted P i xs all.1)
  where
    go : (b : Bool) → is_incarnation i x ≡ b → (1 ≤ count_by (is_incarnation i) xs → P i) → P i
    go true e rest = subst P (sym (same_incarnation i x e)) all.0
    go false e rest =
        let c : count_by (is_incarnation i) (x ∷ xs) ≡ count_by (is_incarnation i) xs =
        count_cons (is_incarnation i) x xs ∙ ap (λ (z : Bool). if z then suc (count_by (is_incarnation i) xs) else count_by (is_incarnation i) xs) e in
        rest (subst (λ n. 1 ≤ n) c h)

-- a home that lives has as many plugs as are counted; one that doesn't has none
lent_live : (i : Incarnation) (b : Bool) (plugs : List Incarnation) → b ≡ true → lent_by i b plugs ≡ count_by (is_incarnation i) plugs
unfolding lent_by
lent_live i b plugs e = rw e refl

lent_one : (i : Incarnation) (b : Bool) (plugs : List Incarnation) → lent_by i b plugs ≡ 1 → (b ≡ true) × (count_by (is_incarnation i) plugs ≡ 1)
unfolding lent_by
lent_one i true plugs e = (refl, e)
lent_one i false plugs e = absurd (let q : 0 ≡ 1 = e in omega (arith, q))

module _ {M : Type 0} (model : Behaviour M) (clear : IsOpen model) (t : Tables) (lines : List Line) (clear_lines : AreOpen lines) (local : PlacesAreLocal t)
    (contained : PlacesAreContained t) (xs : List Placed) (end : World (Body M)) (run : Runs (plant_of model t lines) (start (plant_of model t lines)) xs end) where
  lends : (s : ℕ) → LendsSo t (frame_at t end s)
  lends s = runs_lend_so model clear t lines xs end run (owner_of t s)

  row_of : (c : ℕ) (i h : Incarnation) → is_imported t i.slot.0 ≡ true → container_of t i.slot.0 ≡ Some c → is_home t h.slot.0 ≡ true
      → IsInRow t end c i h
  row_of c i h imported part home = runs_stand model clear t local lines clear_lines c i h imported part home xs end run

  -- who has plugs lives, and a plug is an import place
  plugs_of : (i h : Incarnation) → 1 ≤ plugged t end i h
      → ((frame_at t end h.slot.0).lives.lives h.slot.0 ≡ true) × (is_imported t i.slot.0 ≡ true) × (is_home t h.slot.0 ≡ true)
  plugs_of i h few = go ((frame_at t end h.slot.0).lives.lives h.slot.0) refl
    where
      f : Frame
      f = frame_at t end h.slot.0

      known : (is_imported t i.slot.0 ≡ true) × (is_home t h.slot.0 ≡ true)
      known =
          counted (λ (x : Incarnation). (is_imported t x.slot.0 ≡ true) × (is_home t h.slot.0 ≡ true)) i ((frame_at t end h.slot.0).plugs h.slot.0)
          ((lends h.slot.0).plugged.places h.slot.0) few

      go : (b : Bool) → (frame_at t end h.slot.0).lives.lives h.slot.0 ≡ b
          → ((frame_at t end h.slot.0).lives.lives h.slot.0 ≡ true) × (is_imported t i.slot.0 ≡ true) × (is_home t h.slot.0 ≡ true)
      go true e = (e, known.0, known.1)
      go false e =
          let none : (frame_at t end h.slot.0).plugs h.slot.0 ≡ [] = (lends h.slot.0).plugged.none h.slot.0 e in
          let zero_many : 1 ≤ count_by (is_incarnation i) [] = subst (λ (z : List Incarnation). 1 ≤ count_by (is_incarnation i) z) none few in
          absurd (omega (arith, zero_many))

  -- the incarnation that stands in a slot
  abbrev standing_in : ℕ → Incarnation
  standing_in s = last_of (frame_at t end s).lives s

  lives_standing : (s : ℕ) → (frame_at t end s).lives.lives s ≡ true → is_live (frame_at t end s).lives (standing_in s) ≡ true
  lives_standing s e = rw (e, eq-eqb ((frame_at t end s).lives.generation s) ((frame_at t end s).lives.generation s) refl) refl

  lent_standing : (i : Incarnation) (s : ℕ) → (frame_at t end s).lives.lives s ≡ true
      → lent_of i (standing_in s) (frame_at t end s) ≡ count_by (is_incarnation i) ((frame_at t end s).plugs s)
  lent_standing i s e = lent_live i (is_live (frame_at t end s).lives (standing_in s)) ((frame_at t end s).plugs s) (lives_standing s e)

  -- no place is twice among the plugs of a home
  pub once : (i h : Incarnation) → plugged t end i h ≤ 1
  once i h = go (cases_lt 0 (plugged t end i h))
    where
      go : (0 < plugged t end i h) ⊎ (plugged t end i h ≤ 0) → plugged t end i h ≤ 1
      go (inr l) = omega (arith, l)
      go (inl l) =
          let p = plugs_of i h (omega (arith, l)) in
          let c = contained i.slot.0 p.1 in
          subst (λ n. n ≤ 1) (lent_standing i h.slot.0 p.0) (row_once (row_of c.0 i (standing_in h.slot.0) p.1 c.1 p.2))

  -- whether the container of an import place lives, at the place's owner
  container_lives : (i : Incarnation) (c : ℕ) → is_imported t i.slot.0 ≡ true → container_of t i.slot.0 ≡ Some c
      → has_container t end i ≡ ((frame_at t end i.slot.0).lives.lives c && ((frame_at t end i.slot.0).lives.generation c == i.generation.0))
  container_lives i c imported part =
      ap (λ (o : Option ℕ). is_live (frame_at t end (option_map_or (λ k. k) o 0)).lives (incarnation (option_map_or (λ k. k) o 0) i.generation.0)) part
      ∙ ap (λ n. (end.controllers n).body.frame.lives.lives c && ((end.controllers n).body.frame.lives.generation c == i.generation.0)) (sym (local i.slot.0 c imported part))

  module _ (there : OwnersAreThere t) (quiet : IsQuiet (plant_of model t lines) end) where
    quiet_row : (c : ℕ) (i h : Incarnation) → is_imported t i.slot.0 ≡ true → container_of t i.slot.0 ≡ Some c → is_home t h.slot.0 ≡ true
        → Row (side_of c i h (frame_at t end i.slot.0)) [] [] (lent_of i h (frame_at t end h.slot.0))
    quiet_row c i h imported part home =
        same_row _ _ _ _ _ _ _ _ refl
        (ap (flat_map (forth_of i h)) (quiet_trail model t lines end quiet (owner_of t i.slot.0) (owner_of t h.slot.0) (there i.slot.0) (there h.slot.0)))
        (ap (flat_map (back_of i h)) (quiet_trail model t lines end quiet (owner_of t h.slot.0) (owner_of t i.slot.0) (there h.slot.0) (there i.slot.0))) refl
        (row_of c i h imported part home)

    -- a place among the plugs of a home that stands is of a live container, and holds the home
    plugged_holds : (i h : Incarnation) (c : ℕ) → is_imported t i.slot.0 ≡ true → container_of t i.slot.0 ≡ Some c → is_home t h.slot.0 ≡ true
        → 1 ≤ lent_of i h (frame_at t end h.slot.0) → (has_container t end i ≡ true) × (place_of t end i.slot.0 ≡ Held h)
    plugged_holds i h c imported part home few =
        let f : Frame = frame_at t end i.slot.0 in
        let r = side_tied i h Holds (λ q. absurd cc) (λ q. absurd cc) (f.lives.generation c) (f.lives.lives c) (f.places i.slot.0) (row_quiet_plugged (quiet_row c i h imported part home) few) in
        (container_lives i c imported part ∙ r.0, holds_held h (f.places i.slot.0) r.1)

    -- a place of a live container that holds a home is among the home's plugs
    held_plugged : (i h : Incarnation) → is_imported t i.slot.0 ≡ true → has_container t end i ≡ true → place_of t end i.slot.0 ≡ Held h
        → (lives_in t end h ≡ true) × (plugged t end i h ≡ 1)
    held_plugged i h imported live held =
        let f : Frame = frame_at t end i.slot.0 in
        let c = contained i.slot.0 imported in
        let home : is_home t h.slot.0 ≡ true = (lends i.slot.0).tied.homes i.slot.0 h (ap home_of held) in
        let alive : (f.lives.lives c.0 && (f.lives.generation c.0 == i.generation.0)) ≡ true = sym (container_lives i c.0 imported c.1) ∙ live in
        let side : side_of c.0 i h f ≡ Holds =
        side_live i h (f.lives.generation c.0) (f.lives.lives c.0) (f.places i.slot.0) alive ∙ ap (tied_as h) held ∙ ap (λ (z : Bool). if z then Holds else Apart) (itself h) in
        lent_one i (is_live (frame_at t end h.slot.0).lives h) ((frame_at t end h.slot.0).plugs h.slot.0)
        (row_quiet_held (subst (λ (z : Side). Row z [] [] (lent_of i h (frame_at t end h.slot.0))) side (quiet_row c.0 i h imported c.1 home)))

    lone_plugged : (i h : Incarnation) → is_imported t i.slot.0 ≡ true → (lives_in t end h ≡ true) × (plugged t end i h ≡ 1)
        → place_of t end i.slot.0 ≡ Held h
    lone_plugged i h imported lone =
        let few : 1 ≤ plugged t end i h = (let e = lone.1 in omega (arith, e)) in
        let p = plugs_of i h few in
        let c = contained i.slot.0 imported in
        let n : lent_of i h (frame_at t end h.slot.0) ≡ plugged t end i h =
        lent_live i (is_live (frame_at t end h.slot.0).lives h) ((frame_at t end h.slot.0).plugs h.slot.0) lone.0 in
        (plugged_holds i h c.0 imported c.1 p.2 (subst (λ k. 1 ≤ k) (sym n) few)).1

    plugs_place : (i h : Incarnation) → 1 ≤ plugged t end i h → (is_imported t i.slot.0 ≡ true) × (has_container t end i ≡ true)
    plugs_place i h few =
        let p = plugs_of i h few in
        let c = contained i.slot.0 p.1 in
        (p.1, (plugged_holds i (standing_in h.slot.0) c.0 p.1 c.1 p.2 (subst (λ k. 1 ≤ k) (sym (lent_standing i h.slot.0 p.0)) few)).0)

    pub quiet_imports : ImportsAgree t end
    quiet_imports =
        record {
          settled = λ i imported live. (let c = contained i.slot.0 imported in quiet_places model clear t lines clear_lines there xs end run quiet i.slot.0 c.0 imported c.1);
          held = λ i h imported live. (held_plugged i h imported live, lone_plugged i h imported);
          once = once;
          plugs = plugs_place;
        }
