-- Tables of what is lent that are written at a slot.
use Rattle.std.proofs.Common.{◌≡◌, ℕ, false, cond, List, [], refl, sym, ap, ◌∙◌, inl, inr}
use Rattle.std.specs.Prelude.{if◌then◌else◌}
use Rattle.std.proofs.Math.Path.{fun_ext}
use Rattle.std.proofs.lemmas.Bool.{cases_eq}
use Rattle.room_kinds.specs.declared.numbers.Incarnation.{Incarnation}
use Rattle.room_wiring.specs.declared.tables.Tables.{Tables}
use Rattle.actor_duties.specs.Words.{updated}
use Rattle.actor_duties.specs.State as rows
use Rattle.frame_lives.specs.Items.{item_in}
use Rattle.frame_lives.proofs.Rows.{updated_here, updated_else, updated_same}
use Rattle.frame_service.specs.declared.frame_imports.import_places.place.ImportPlace.{ImportPlace}
use Rattle.frame_service.specs.declared.frame_imports.import_places.place.ImportPlace.TheVariants as variants
use Rattle.frame_service.specs.frame_imports.import_places.Places.{place_of}
use Rattle.frame_service.specs.frame_imports.import_places.Lending.{Kept, Lending, lending, with_places, with_plugs, is_import_of}

-- what another function makes of an updated one
mapped : {A B : Type 0} (h : A → B) (f : ℕ → A) (s : ℕ) (a : A) → (λ n. h (updated f s a n)) ≡ updated (λ n. h (f n)) s (h a)
mapped h f s a = fun_ext (λ n.
    elim (cases_eq n s) [
      | inl e ↦ ap h (updated_here f s n a e) ∙ sym (updated_here (λ m. h (f m)) s n (h a) e)
      | inr other ↦ ap h (updated_else f s n a other) ∙ sym (updated_else (λ m. h (f m)) s n (h a) other)
    ])

pub same_lending : {f g : ℕ → rows.ImportPlace} {h k : ℕ → List Incarnation} → f ≡ g → h ≡ k
    → ◌≡◌ {A = Lending} (record { places = f; plugs = h }) (record { places = g; plugs = k })
same_lending f h = cc

-- an import place is written
pub place_written : (k : Kept) (places after : List (List ImportPlace)) (plugs : List (List (List Incarnation))) (s n : ℕ) (p : ImportPlace)
    → ◌≡◌ {A = Kept} (record { places = places; plugs = plugs }) k → n ≡ s → item_in variants.Empty after ≡ updated (item_in variants.Empty places) n p
    → lending (record { places = after; plugs = plugs }) ≡ with_places (lending k) (updated (lending k).places s (place_of p))
unfolding lending
place_written k places after plugs s n p is same put =
    same_lending (ap (λ (f : ℕ → ImportPlace). λ m. place_of (f m)) put ∙ mapped place_of (item_in variants.Empty places) n p) refl
    ∙ ap (λ (m : ℕ). with_places (lending (record { places = places; plugs = plugs })) (updated (lending (record { places = places; plugs = plugs })).places m (place_of p))) same
    ∙ ap (λ (k : Kept). with_places (lending k) (updated (lending k).places s (place_of p))) is

-- an import place stays
pub place_kept : (t : Tables) (c s : ℕ) (l : Lending) → is_import_of t c s ≡ false
    → l ≡ with_places l (updated l.places s (if is_import_of t c s then rows.Empty else l.places s))
place_kept t c s l other =
    ap (with_places l) (sym (updated_same l.places s (if is_import_of t c s then rows.Empty else l.places s) (ap (λ b. cond b rows.Empty (l.places s)) other)))

-- the plugs of a slot are changed
pub plugs_changed : (k : Kept) (places : List (List ImportPlace)) (plugs after : List (List (List Incarnation))) (s n : ℕ) (read next : List Incarnation) (change : List Incarnation → List Incarnation)
    → ◌≡◌ {A = Kept} (record { places = places; plugs = plugs }) k → n ≡ s → read ≡ item_in [] plugs n → next ≡ change read → item_in [] after ≡ updated (item_in [] plugs) n next
    → lending (record { places = places; plugs = after }) ≡ with_plugs (lending k) (updated (lending k).plugs s (change ((lending k).plugs s)))
unfolding lending
plugs_changed k places plugs after s n read next change is same was changed put =
    same_lending refl (put ∙ ap (updated (item_in [] plugs) n) (changed ∙ ap change was))
    ∙ ap (λ (m : ℕ). with_plugs (lending (record { places = places; plugs = plugs })) (updated (lending (record { places = places; plugs = plugs })).plugs m (change ((lending (record { places = places; plugs = plugs })).plugs m)))) same
    ∙ ap (λ (k : Kept). with_plugs (lending k) (updated (lending k).plugs s (change ((lending k).plugs s)))) is
