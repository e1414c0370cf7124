-- The laws on links: registrations are in their rows, so what registers is new.
use Rattle.std.proofs.Common.{◌≡◌, ℕ, ◌==◌, ◌||◌, Bool, true, false, if◌then◌else◌, List, [], ◌∷◌, ◌++◌, flat_map, slice_get, Option, Some, None, ℤ, pos, refl, sym, ap, ◌∙◌, subst, inl, inr}
use Rattle.std.specs.List.{AllByRecursion, Contains, list_any}
use Rattle.std.proofs.lemmas.List.Elements.{All-from_recursion, All-contains}
use Rattle.room_kinds.specs.declared.message.Msg.{Msg}
use Rattle.room_kinds.specs.declared.numbers.Endpoint.{Endpoint}
use Rattle.room_kinds.specs.declared.system.SysKind.{SysKind}
use Rattle.room_kinds.specs.declared.system.SysKind.TheVariants as kinds
use Rattle.room_wiring.specs.declared.tables.Tables.{Tables}
use Rattle.actor_merge.specs.Parties.{Line}
use Rattle.actor_merge.specs.World.{World, Placed, start, Runs}
use Rattle.actor_duties.specs.Words.{owner_of, is_endpoint}
use Rattle.actor_duties.specs.State.{Unnamed, Asked, Registered, Leaving}
use Rattle.actor_world.specs.Behaviour.{Behaviour}
use Rattle.actor_world.specs.Body.{Body}
use Rattle.actor_world.specs.Turns.{all_kinds}
use Rattle.actor_world.specs.Start.{plant_of}
use Rattle.actor_world.specs.Directories.{IsOpen, AreOpen}
use Rattle.law_agreement.specs.Trails.{trail}
use Rattle.law_names.specs.Created.{asker_by, asker}
use Rattle.law_names.specs.Registrations.{RegistersPoints, Stage, NotYet, Over, Now, IsRow, asked_by, asked, replied, stands, stage_in, AreInRows, AreSettled}
use Rattle.law_names.specs.Links.{registers_by, registers, RegistersAreNew, RunsKeepTablesSound, RunsForetellLinks, QuietLinksAgree, QuietNamesAgree}
use Rattle.law_names.proofs.CreatedRuns.{IsNamed, runs_named, each_named}
use Rattle.law_names.proofs.Standing.{self_endpoint}
use Rattle.law_names.proofs.RowRuns.{runs_keep_rows}
use Rattle.law_names.proofs.Quiet.{quiet_registrations}
use Rattle.law_names.proofs.LinkRuns.{IsLinkedSo, runs_linked_so}
use Rattle.law_names.proofs.LinkAgreeing.{quiet_links}

-- whether a kind is Register
abbrev is_register : SysKind → Bool
is_register kinds.Register = true
is_register _ = false

abbrev has_register : List SysKind → Bool
has_register ks = list_any is_register ks

none_left : (x y : List SysKind) → has_register (x ++ y) ≡ false → (has_register x ≡ false) × (has_register y ≡ false)
none_left [] y h = (refl, h)
none_left (k ∷ x) y h = go (is_register k) h (none_left x y)
  where
    go : (b : Bool) → (b || has_register (x ++ y)) ≡ false → (has_register (x ++ y) ≡ false → (has_register x ≡ false) × (has_register y ≡ false))
        → ((b || has_register x) ≡ false) × (has_register y ≡ false)
    go true q ih = absurd cc
    go false q ih = ih q

module _ (e : Endpoint) where
  none_asked : (ms : List Msg) → has_register (flat_map (asked e) ms) ≡ false → AllByRecursion (λ (m : Msg). has_register (asked e m) ≡ false) ms
  none_asked [] h = tt
  none_asked (m ∷ ms) h = let k = none_left (asked e m) (flat_map (asked e) ms) h in (k.0, none_asked ms k.1)

  -- what registers an endpoint asks for it
  asks_register : (m : Msg) → registers m ≡ Some e → (has_register (asked e m) ≡ true) × (asker m ≡ Some e)
  asks_register m h = go (m.prio.0 == 0) (slice_get all_kinds m.signal) m.source m.payload h
    where
      of : (x : Endpoint) (name : ℕ) (b : Bool) → is_endpoint x m.target ≡ b → (if b then Some x else None) ≡ Some e
          → (has_register (asked_by e (Some kinds.Register) (Some x) m.target (pos name ∷ [])) ≡ true) × (asker_by (Some kinds.Register) (Some x) ≡ Some e)
      of x name true q r =
          let same : x ≡ e = cc in
          let one : is_endpoint x e ≡ true = subst (λ (z : Endpoint). is_endpoint x z ≡ true) same (self_endpoint x) in (rw (one, q) refl, ap Some same)
      of x name false q r = absurd cc

      go : (b : Bool) (k : Option SysKind) (o : Option Endpoint) (numbers : List ℤ) → (if b then registers_by k o m.target numbers else None) ≡ Some e
          → (has_register (if b then asked_by e k o m.target numbers else []) ≡ true) × ((if b then asker_by k o else None) ≡ Some e)
      go false k o numbers q = absurd cc
      go true (Some kinds.Register) (Some x) (pos name ∷ []) q = of x name (is_endpoint x m.target) refl q
      go true k o numbers q = absurd cc

-- who asks to be registered doesn't stand in the table
row_new : (s : Stage) (forth : List SysKind) (n : ℕ) (back : List ℕ) → IsRow s forth n back → has_register forth ≡ true → n ≡ 0
row_new NotYet forth n back h some = h.1
row_new (Now Unnamed) forth n back h some = h.1
row_new (Now Asked) forth n back (inl h) some = h.1
row_new (Now Asked) forth n back (inr (inl h)) some = let z : false ≡ true = ap has_register (sym h.0) ∙ some in absurd cc
row_new (Now Asked) forth n back (inr (inr h)) some = h.1
row_new (Now Registered) forth n back h some = let z : false ≡ true = ap has_register (sym h.0) ∙ some in absurd cc
row_new (Now Leaving) forth n back (inl h) some = let z : false ≡ true = ap has_register (sym h.0) ∙ some in absurd cc
row_new (Now Leaving) forth n back (inr h) some = h.1
row_new Over forth n back (inl h) some = h.1
row_new Over forth n back (inr (inl h)) some = let z : false ≡ true = ap has_register (sym h.0) ∙ some in absurd cc
row_new Over forth n back (inr (inr h)) some = h.1

-- where all are in their rows, what registers is new
new_in_rows : {M : Type 0} (t : Tables) (w : World (Body M)) → IsNamed t w → AreInRows t w → RegistersAreNew w
new_in_rows t w named rows a m e there h =
    let asks = asks_register e m h in
    let from : owner_of t e.slot.0 ≡ a = ((each_named t w named a 0 m there).asks e asks.1).0 in
    let forth : List SysKind = flat_map (asked e) (trail w (owner_of t e.slot.0) 0) in
    let back : List ℕ = flat_map (replied e) (trail w 0 (owner_of t e.slot.0)) in
    let at : Contains (trail w (owner_of t e.slot.0) 0) m = subst (λ n. Contains (trail w n 0) m) (sym from) there in
    row_new (stage_in t w e) forth (stands e (w.controllers 0).body.table) back (rows e) (some (has_register forth) refl at asks.0)
  where
    some : (b : Bool) → has_register (flat_map (asked e) (trail w (owner_of t e.slot.0) 0)) ≡ b → Contains (trail w (owner_of t e.slot.0) 0) m → has_register (asked e m) ≡ true
        → has_register (flat_map (asked e) (trail w (owner_of t e.slot.0) 0)) ≡ true
    some true q at one = q
    some false q at one =
        let P : Msg → Type 0 = λ (x : Msg). has_register (asked e x) ≡ false in
        let none : has_register (asked e m) ≡ false =
        All-contains P (trail w (owner_of t e.slot.0) 0) m (All-from_recursion P (trail w (owner_of t e.slot.0) 0) (none_asked e (trail w (owner_of t e.slot.0) 0) q)) at in
        let z : true ≡ false = sym one ∙ none in absurd cc

linked_so : {M : Type 0} (model : Behaviour M) (t : Tables) (lines : List Line) (clear : IsOpen model) (clear_lines : AreOpen lines) → RegistersPoints t model
    → (xs : List Placed) (end : World (Body M)) → Runs (plant_of model t lines) (start (plant_of model t lines)) xs end → IsLinkedSo t end
linked_so model t lines clear clear_lines points xs end r =
    runs_linked_so model clear t lines clear_lines
    (λ ys w s.
    new_in_rows t w (runs_named model clear t lines clear_lines ys w s) (λ e. runs_keep_rows model clear t points lines clear_lines ys w s e)) xs end r

pub runs_sound : {M : Type 0} → RunsKeepTablesSound M
runs_sound model t lines clear clear_lines points xs end r = (linked_so model t lines clear clear_lines points xs end r).sound

pub runs_foretell : {M : Type 0} → RunsForetellLinks M
runs_foretell model t lines clear clear_lines points xs end r =
    let inv : IsLinkedSo t end = linked_so model t lines clear clear_lines points xs end r in (inv.foretold, (λ c s p dead. (inv.kept c).dead s p dead))

pub quiet_agree : {M : Type 0} → QuietLinksAgree M
quiet_agree model t lines clear clear_lines points there xs end r quiet a b live =
    quiet_links model t lines there end (linked_so model t lines clear clear_lines points xs end r) quiet a b live

pub names_agree : {M : Type 0} → QuietNamesAgree M
names_agree model t lines clear clear_lines points there xs end r quiet =
    let settled : AreSettled t end = quiet_registrations model clear t points lines clear_lines there xs end r quiet in
    record {
      links = λ a b live. quiet_agree model t lines clear clear_lines points there xs end r quiet a b live;
      users = λ s u stands among. (settled.users s u stands among).0;
      providers = λ s p stands is. (settled.providers s p stands is).0;
    }
