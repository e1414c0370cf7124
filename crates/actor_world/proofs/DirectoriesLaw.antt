-- Directories tell of what was created.
use Rattle.std.proofs.Common.{◌≡◌, ℕ, zero, suc, ◌≤◌, ◌<◌, ◌==◌, Bool, true, false, ◌&&◌, if◌then◌else◌, List, [], ◌∷◌, ◌++◌, length, Option, Some, None, refl, ap, ◌∙◌, eq-eqb, arith}
use Rattle.std.specs.Option.{option_map_or}
use Rattle.std.proofs.lemmas.Bool.{and_parts}
use Rattle.room_kinds.specs.declared.numbers.Incarnation.{Incarnation}
use Rattle.room_wiring.specs.declared.tables.Tables.{Tables}
use Rattle.room_wiring.specs.declared.slot.Slot.{Slot}
use Rattle.room_wiring.specs.Slots.{slot_at}
use Rattle.room_wiring.specs.Places.{is_told}
use Rattle.actor_merge.specs.Parties.{Line}
use Rattle.actor_merge.specs.World.{World, Placed, start, Runs}
use Rattle.actor_merge.specs.Merge.{entries_of}
use Rattle.actor_merge.proofs.Back.{run_projects}
use Rattle.actor_duties.specs.Words.{incarnation, is_own, owner_of, is_fixed, is_fixed_kind, container_of}
use Rattle.actor_world.specs.Behaviour.{Behaviour}
use Rattle.actor_world.specs.Body.{Body}
use Rattle.actor_world.specs.Turns.{doing}
use Rattle.actor_world.specs.Start.{is_fixed_up, lives_from_start, first_body, first_actors, Starting, started, all_started, starting, first_state, start_entries, plant_of}
use Rattle.actor_world.specs.Life.{IsModest, created}
use Rattle.actor_world.specs.Directories.{IsOpen, AreOpen}
use Rattle.actor_world.proofs.LivesLaw.{Told, replay_told, first_told, all_started_keeps}
use Rattle.actor_world.proofs.TrueTurns.{IsFine, apply_all_fine}
use Rattle.actor_world.proofs.TrueWorld.{gens, IsTrueWorld, run_true, born_between}

fixed_up : (t : Tables) (n s : ℕ) → is_fixed_up t n s ≡ true → is_fixed t s ≡ true
fixed_up t zero s h = h
fixed_up t (suc n) s h = (and_parts (is_fixed t s) (option_map_or (λ c. is_fixed_up t n c) (container_of t s) true) h).0

-- a slot that is there is its owner's own
own_of_fixed : (t : Tables) (s : ℕ) → is_fixed t s ≡ true → is_own t (owner_of t s) s ≡ true
unfolding is_fixed is_own owner_of
own_of_fixed t s h = go (slot_at t s) h
  where
    go : (o : Option Slot) → option_map_or (λ (x : Slot). is_fixed_kind x.kind) o false ≡ true
        → option_map_or (λ (x : Slot). x.owner.0 == option_map_or (λ (y : Slot). y.owner.0) o 0) o false ≡ true
    go None k = absurd cc
    go (Some x) k = eq-eqb x.owner.0 x.owner.0 refl

module _ {M : Type 0} (model : Behaviour M) (modest : IsModest model) (clear : IsOpen model) (t : Tables) (lines : List Line) (clear_lines : AreOpen lines) where
  all_started_fine : (g : ℕ → ℕ) (c : ℕ) (xs : List Incarnation) (s : Starting M) → IsFine g s.doing → IsFine g (all_started model t c xs s).doing
  all_started_fine g c [] s h = h
  all_started_fine g c (x ∷ xs) s h =
      all_started_fine g c xs (started model t c s x)
      (apply_all_fine g t c x None tt (model.begin x).commands (clear.begin x) _ (record { sent = h.sent; back = h.back; deferred = h.deferred; told = h.told }))

  -- the last generation of a slot at the start
  first_gen : (n : ℕ) → gens t (first_state model t) n ≡ (if is_own t (owner_of t n) n && lives_from_start t n then 1 else 0)
  unfolding starting
  first_gen n =
      ap (λ l. l.generation n)
      (all_started_keeps model t lines (owner_of t n) modest (first_actors t (owner_of t n)) (record { doing = doing (first_body t (owner_of t n)); entries = [] })).0

  first_told_below : (c n : ℕ) → (if is_told t n c && lives_from_start t n then 1 else 0) ≤ gens t (first_state model t) n
  unfolding lives_from_start
  first_told_below c n = rw (first_gen n) (go (lives_from_start t n) refl (is_told t n c))
    where
      go : (b : Bool) → lives_from_start t n ≡ b → (a : Bool) → (if a && lives_from_start t n then 1 else 0) ≤ (if is_own t (owner_of t n) n && lives_from_start t n then 1 else 0)
      go false e true = rw e (omega arith)
      go false e false = omega arith
      go true e true = rw (own_of_fixed t n (fixed_up t (length t.slots) n e), e) (omega arith)
      go true e false = omega arith

  start_true : IsTrueWorld t (start (plant_of model t lines))
  unfolding starting
  start_true =
      record {
        sound = λ c. (first_told model t lines c modest).sound;
        state = λ c.
            let k : IsFine (gens t (first_state model t)) (all_started model t c (first_actors t c) (record { doing = doing (first_body t c); entries = [] })).doing =
            all_started_fine (gens t (first_state model t)) c (first_actors t c) (record { doing = doing (first_body t c); entries = [] })
            (record { sent = tt; back = tt; deferred = λ s. tt; told = first_told_below c }) in
            record { pending = λ p. tt; outbox = k.sent; deferred = k.deferred; told = k.told };
        lanes = λ l. tt;
      }

  pub tell_created : (xs : List Placed) (end : World (Body M)) → Runs (plant_of model t lines) (start (plant_of model t lines)) xs end
      → (d s g : ℕ) → owner_of t s < length t.controllers → (end.controllers d).body.frame.told s ≡ g → 1 ≤ g
      → created (incarnation s g) (start_entries model t (owner_of t s) ++ entries_of (owner_of t s) xs) ≡ 1
  tell_created xs end r d s g below tells some =
      let inv : IsTrueWorld t end = run_true model modest clear t lines clear_lines xs (start (plant_of model t lines)) end start_true r in
      let told : (end.controllers d).body.frame.told s ≤ gens t end.controllers s = (inv.state d).told s in
      let p = run_projects (plant_of model t lines) (start (plant_of model t lines)) xs end r in
      let h : Told t (owner_of t s) (start_entries model t (owner_of t s) ++ entries_of (owner_of t s) xs) (end.controllers (owner_of t s)).body.frame.lives =
      replay_told model t lines (owner_of t s) modest (entries_of (owner_of t s) xs) (first_state model t (owner_of t s)) (end.controllers (owner_of t s))
      (start_entries model t (owner_of t s)) (first_told model t lines (owner_of t s) modest) (p.controllers (owner_of t s) below) in
      h.created (incarnation s g) ∙ born_between g (gens t end.controllers s) some (omega arith)
