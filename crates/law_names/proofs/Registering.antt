-- What the owner of a service point does to its registration: actors ask and are replied to, come up and end.
use Rattle.std.proofs.Common.{◌≡◌, ℕ, ◌==◌, ◌&&◌, ◌||◌, ◌⊎◌, inl, inr, nat_le, Bool, true, false, if◌then◌else◌, List, [], ◌∷◌, ◌++◌, flat_map, slice_get, Option, Some, None, ℤ, pos, refl, sym, ap, ◌∙◌, subst, eqb-true, eq-eqb, append-nil}
use Rattle.std.specs.Option.{option_map_or, option_and_then}
use Rattle.std.proofs.lemmas.Bool.{and_parts}
use Rattle.room_kinds.specs.declared.message.Msg.{Msg}
use Rattle.room_kinds.specs.declared.numbers.Incarnation.{Incarnation}
use Rattle.room_kinds.specs.declared.numbers.Endpoint.{Endpoint}
use Rattle.room_kinds.specs.declared.system.SysKind.{SysKind}
use Rattle.room_kinds.specs.declared.system.SysKind.TheVariants as kinds
use Rattle.room_kinds.specs.declared.command.NameCommand.{NameCommand}
use Rattle.room_kinds.specs.declared.command.NameCommand.TheVariants as names
use Rattle.room_wiring.specs.declared.tables.Tables.{Tables}
use Rattle.room_wiring.specs.declared.slot.Slot.{Slot}
use Rattle.room_wiring.specs.declared.names.ClassNames.{ClassNames}
use Rattle.room_wiring.specs.declared.names.PortNames.{PortNames}
use Rattle.room_wiring.specs.Slots.{slot_at, class_at, class_of}
use Rattle.actor_duties.specs.Words.{updated, whose, owner_of, is_own, is_endpoint, is_sap, is_spp, is_sap_kind, is_spp_kind, port_at, joined_at, is_joined}
use Rattle.actor_duties.specs.State.{Lives, Links, Registration, Unnamed, Asked, Registered, Leaving, Done}
use Rattle.actor_duties.specs.Messages.{system, name_told, Code, PortTaken, Busy, NameTaken, NotRegistered, Named, NameRefused}
use Rattle.actor_duties.specs.Lives.{is_live}
use Rattle.actor_duties.specs.Links.{updated_at, same_links, point_of, name_refused, name_asked, register_from, register_command, withdraw_from, withdraw_command, name_request, name_heard, replied as replied_with, name_reply, is_own_point, bound, unbound, links_duty_of, links_duty_from, links_duty}
use Rattle.law_agreement.proofs.Walking.{IsHere}
use Rattle.law_names.specs.Registrations.{is_point_port, IsOfPoint, Stage, NotYet, Over, Now, is_point, stage_by, stage, asked, replied_by, replied}
use Rattle.law_names.proofs.OffNames.{AllOffNames}
use Rattle.law_names.proofs.Naming.{IsNameWalk, IsOf}
use Rattle.law_names.proofs.Rows.{KeepsRow, keeps_two, keeps_same, keeps_asked, keeps_leaving, asked_after, after_reply, stage_after}
use Rattle.law_names.proofs.Standing.{same_endpoint, self_endpoint, flat_append}
use Rattle.law_names.proofs.Tokens.{target_is, off_asked, off_replied}

-- a value at a pair of numbers
pub updated_is : {A : Type 0} (f : ℕ → ℕ → A) (s p : ℕ) (v : A) (n k : ℕ) → updated_at f s p v n k ≡ (if (n == s) && (k == p) then v else f n k)
unfolding updated
updated_is f s p v n k = go (n == s) refl (k == p)
  where
    go : (a : Bool) → (n == s) ≡ a → (b : Bool) → (if a then (λ (q : ℕ). if q == p then v else f s q) else f n) k ≡ (if a && (k == p) then v else f n k)
    go true is b = ap (λ z. if k == p then v else f z k) (sym (eqb-true n s is))
    go false is b = refl

-- registrations are of ports that are service points, of actors that live
abbrev pub NamesHere : Tables → Lives → Links → Type 0
NamesHere t l a = (s p : ℕ) → (a.registrations s p ≡ Unnamed) ⊎ ((l.lives s ≡ true) × (is_point_port t s p ≡ true))

module _ (t : Tables) where
  -- one registration changes
  names_put : (l : Lives) (a : Links) (s p : ℕ) (next : Registration) → l.lives s ≡ true → is_point_port t s p ≡ true → NamesHere t l a
      → NamesHere t l (record a { registrations = updated_at a.registrations s p next })
  names_put l a s p next lives point h n k =
      go ((n == s) && (k == p)) refl (updated_is a.registrations s p next n k)
    where
      go : (b : Bool) → ((n == s) && (k == p)) ≡ b → updated_at a.registrations s p next n k ≡ (if (n == s) && (k == p) then next else a.registrations n k)
          → (updated_at a.registrations s p next n k ≡ Unnamed) ⊎ ((l.lives n ≡ true) × (is_point_port t n k ≡ true))
      go true is q =
          let both = and_parts (n == s) (k == p) is in
          let slot : n ≡ s = eqb-true n s both.0 in
          let port : k ≡ p = eqb-true k p both.1 in
          inr (ap l.lives slot ∙ lives, ap (λ z. is_point_port t z k) slot ∙ ap (is_point_port t s) port ∙ point)
      go false is q = other (h n k)
        where
          other : (a.registrations n k ≡ Unnamed) ⊎ ((l.lives n ≡ true) × (is_point_port t n k ≡ true))
              → (updated_at a.registrations s p next n k ≡ Unnamed) ⊎ ((l.lives n ≡ true) × (is_point_port t n k ≡ true))
          other (inl none) = inl (q ∙ ap (λ (b : Bool). if b then next else a.registrations n k) is ∙ none)
          other (inr some) = inr some

  -- a change at another point of a live actor is none to this one
  stage_apart : (l : Lives) (y e : Endpoint) → (y.place == 0) ≡ true → is_live l (whose y) ≡ true → is_endpoint y e ≡ false → (made : Bool) (r next : Registration)
      → stage_by (is_point t e) (is_live l (whose e)) made (if (e.slot.0 == y.slot.0) && (e.port == y.port) then next else r)
      ≡ stage_by (is_point t e) (is_live l (whose e)) made r
  stage_apart l y e place live apart made r next = go (is_point t e) refl (is_live l (whose e)) refl made ((e.slot.0 == y.slot.0) && (e.port == y.port)) refl
    where
      one : is_point t e ≡ true → is_live l (whose e) ≡ true → ((e.slot.0 == y.slot.0) && (e.port == y.port)) ≡ true → is_endpoint y e ≡ true
      one point there same =
          let both = and_parts (e.slot.0 == y.slot.0) (e.port == y.port) same in
          let slot : y.slot.0 ≡ e.slot.0 = sym (eqb-true e.slot.0 y.slot.0 both.0) in
          let port : y.port ≡ e.port = sym (eqb-true e.port y.port both.1) in
          let mine : l.generation y.slot.0 ≡ y.generation.0 = eqb-true _ _ (and_parts (l.lives y.slot.0) (l.generation y.slot.0 == y.generation.0) live).1 in
          let its : l.generation e.slot.0 ≡ e.generation.0 = eqb-true _ _ (and_parts (l.lives e.slot.0) (l.generation e.slot.0 == e.generation.0) there).1 in
          let generation : y.generation.0 ≡ e.generation.0 = sym mine ∙ ap l.generation slot ∙ its in
          let zero_place : e.place ≡ 0 = eqb-true e.place 0 (and_parts (e.place == 0) (is_point_port t e.slot.0 e.port) point).0 in
          let at : y.place ≡ e.place = eqb-true y.place 0 place ∙ sym zero_place in
          rw (eq-eqb y.slot.0 e.slot.0 slot, eq-eqb y.generation.0 e.generation.0 generation, eq-eqb y.port e.port port, eq-eqb y.place e.place at) refl

      go : (p : Bool) → is_point t e ≡ p → (q : Bool) → is_live l (whose e) ≡ q → (made z : Bool) → ((e.slot.0 == y.slot.0) && (e.port == y.port)) ≡ z
          → stage_by p q made (if z then next else r) ≡ stage_by p q made r
      go false point q there made z same = refl
      go true point false there true z same = refl
      go true point false there false z same = refl
      go true point true there made false same = refl
      go true point true there made true same = (let k : true ≡ false = sym (one point there same) ∙ apart in absurd cc)

  -- a service point is its owner's
  pub point_own : (s p : ℕ) → is_point_port t s p ≡ true → is_own t (owner_of t s) s ≡ true
  unfolding is_sap is_spp port_at class_of is_own owner_of
  point_own s p h = go (slot_at t s) h
    where
      go : (o : Option Slot)
          → (option_map_or (λ (x : PortNames). is_sap_kind x.kind) (option_and_then (λ (c : ClassNames). slice_get c.ports p) (option_and_then (λ (x : Slot). class_at t x.class) o)) false
          || option_map_or (λ (x : PortNames). is_spp_kind x.kind) (option_and_then (λ (c : ClassNames). slice_get c.ports p) (option_and_then (λ (x : Slot). class_at t x.class) o)) false) ≡ true
          → option_map_or (λ (x : Slot). x.owner.0 == option_map_or (λ (y : Slot). y.owner.0) o 0) o false ≡ true
      go None k = absurd cc
      go (Some x) k = eq-eqb x.owner.0 x.owner.0 refl

  module _ (e : Endpoint) where
    -- from one moment to another, asking these, an endpoint of this owner stays in a row
    pub record RowsOn (l : Lives) (a : Links) (ms : List Msg) (next : Lives) (b : Links) : Type 0 where
      pub names : NamesHere t next b
      pub codes : flat_map (replied e) ms ≡ []
      pub keeps : KeepsRow (stage t l a e) (flat_map (asked e) ms) (stage t next b e)

    pub rows_two : (l : Lives) (a : Links) (x : List Msg) (k : Lives) (b : Links) (y : List Msg) (n : Lives) (c : Links) → RowsOn l a x k b → RowsOn k b y n c → RowsOn l a (x ++ y) n c
    rows_two l a x k b y n c p q =
        record {
          names = q.names;
          codes = flat_append (replied e) x y ∙ ap (λ (z : List ℕ). z ++ flat_map (replied e) y) p.codes ∙ q.codes;
          keeps = subst (λ z. KeepsRow (stage t l a e) z (stage t n c e)) (sym (flat_append (asked e) x y))
              (keeps_two (stage t l a e) (stage t k b e) (stage t n c e) (flat_map (asked e) x) (flat_map (asked e) y) p.keeps q.keeps);
        }

    -- nothing is asked, and the stage is the same
    pub rows_still : (l : Lives) (a : Links) (ms : List Msg) (next : Lives) (b : Links) → NamesHere t next b → AllOffNames ms → stage t l a e ≡ stage t next b e → RowsOn l a ms next b
    rows_still l a ms next b names off same =
        record {
          names = names;
          codes = off_replied e ms off;
          keeps = subst (λ z. KeepsRow (stage t l a e) z (stage t next b e)) (sym (off_asked e ms off)) (keeps_same (stage t l a e) (stage t next b e) same);
        }

    module _ (me : ℕ) (l : Lives) (a : Links) (x : Incarnation) (here : IsHere t me l x) (names_here : NamesHere t l a) where
      lives_there : l.lives x.slot.0 ≡ true
      lives_there = (and_parts (l.lives x.slot.0) (l.generation x.slot.0 == x.generation.0) here.1).0

      -- an actor here asks for a point of its own
      asks_on : (p : ℕ) (old next : Registration) (kind : SysKind) (payload : List ℤ) → a.registrations x.slot.0 p ≡ old → is_point_port t x.slot.0 p ≡ true
          → KeepsRow (Now old) (kind ∷ []) (Now next)
          → asked e (system me 0 kind (point_of x p) (point_of x p) payload) ≡ (if is_endpoint (point_of x p) e && is_endpoint (point_of x p) (point_of x p) then kind ∷ [] else [])
          → replied e (system me 0 kind (point_of x p) (point_of x p) payload) ≡ []
          → RowsOn l a (name_asked me a x p next kind payload).sent l (name_asked me a x p next kind payload).now
      asks_on p old next kind payload is point keeps token none =
          record {
            names = names_put l a x.slot.0 p next lives_there point names_here;
            codes = ap (λ (z : List ℕ). z ++ []) none;
            keeps = subst (λ z. KeepsRow (stage t l a e) z (stage t l now e)) (sym (append-nil (asked e m) ∙ token)) (go (is_endpoint (point_of x p) e) refl);
          }
        where
          m : Msg
          m = system me 0 kind (point_of x p) (point_of x p) payload

          now : Links
          now = record a { registrations = updated_at a.registrations x.slot.0 p next }

          own : (k : Links) (r : Registration) → k.registrations x.slot.0 p ≡ r → stage t l k (point_of x p) ≡ Now r
          own k r q =
              ap (λ (b : Bool). stage_by b (is_live l x) (nat_le x.generation.0 (l.generation x.slot.0)) (k.registrations x.slot.0 p)) point
              ∙ ap (λ (b : Bool). stage_by true b (nat_le x.generation.0 (l.generation x.slot.0)) (k.registrations x.slot.0 p)) here.1
              ∙ ap (λ (z : Registration). Now z) q

          changed : updated_at a.registrations x.slot.0 p next x.slot.0 p ≡ next
          changed = updated_is a.registrations x.slot.0 p next x.slot.0 p ∙ rw (eq-eqb x.slot.0 x.slot.0 refl, eq-eqb p p refl) refl

          go : (b : Bool) → is_endpoint (point_of x p) e ≡ b
              → KeepsRow (stage t l a e) (if is_endpoint (point_of x p) e && is_endpoint (point_of x p) (point_of x p) then kind ∷ [] else []) (stage t l now e)
          go true same =
              subst (λ (z : Endpoint). KeepsRow (stage t l a z) (if is_endpoint (point_of x p) z && is_endpoint (point_of x p) (point_of x p) then kind ∷ [] else []) (stage t l now z)) (same_endpoint (point_of x p) e same)
              (subst (λ b. KeepsRow (stage t l a (point_of x p)) (if b && b then kind ∷ [] else []) (stage t l now (point_of x p))) (sym (self_endpoint (point_of x p)))
              (subst (λ (z : Stage). KeepsRow z (kind ∷ []) (stage t l now (point_of x p))) (sym (own a old is))
              (subst (λ (z : Stage). KeepsRow (Now old) (kind ∷ []) z) (sym (own now next changed)) keeps)))
          go false apart =
              subst (λ b. KeepsRow (stage t l a e) (if b && is_endpoint (point_of x p) (point_of x p) then kind ∷ [] else []) (stage t l now e)) (sym apart)
              (keeps_same (stage t l a e) (stage t l now e) (sym (
              ap (λ (z : Registration). stage_by (is_point t e) (is_live l (whose e)) (nat_le e.generation.0 (l.generation e.slot.0)) z) (updated_is a.registrations x.slot.0 p next e.slot.0 e.port)
              ∙ stage_apart l (point_of x p) e refl here.1 apart (nat_le e.generation.0 (l.generation e.slot.0)) (a.registrations e.slot.0 e.port) next)))

      abbrev AsksOn : Done Links → Type 0
      AsksOn r = RowsOn l a r.sent l r.now

      refused_on : (p : ℕ) (code : Code) → AsksOn (name_refused me a x p code)
      refused_on p code = rows_still l a _ l a names_here (refl, tt) refl

      register_on : (p name : ℕ) → is_point_port t x.slot.0 p ≡ true → (r : Registration) → a.registrations x.slot.0 p ≡ r → AsksOn (register_from me a x p name r)
      register_on p name point Unnamed is = asks_on p Unnamed Asked kinds.Register (pos name ∷ []) is point keeps_asked refl refl
      register_on p name point Asked is = refused_on p Busy
      register_on p name point Leaving is = refused_on p Busy
      register_on p name point Registered is = refused_on p NameTaken

      withdraw_on : (p : ℕ) (r : Registration) → a.registrations x.slot.0 p ≡ r → AsksOn (withdraw_from me a x p r)
      withdraw_on p Unnamed is = refused_on p NotRegistered
      withdraw_on p Asked is = refused_on p Busy
      withdraw_on p Leaving is = refused_on p Busy
      withdraw_on p Registered is = go (names_here x.slot.0 p)
        where
          go : (a.registrations x.slot.0 p ≡ Unnamed) ⊎ ((l.lives x.slot.0 ≡ true) × (is_point_port t x.slot.0 p ≡ true)) → AsksOn (withdraw_from me a x p Registered)
          go (inl none) = (let q : Registered ≡ Unnamed = sym is ∙ none in absurd cc)
          go (inr some) = asks_on p Registered Leaving kinds.Withdraw [] is some.1 keeps_leaving refl refl

      request_on : (c : NameCommand) → IsOfPoint t x c → AsksOn (name_request t me a x c)
      unfolding register_command withdraw_command
      request_on (names.Register p name) point =
          go (is_sap t x.slot.0 p && is_joined (joined_at t x.slot.0 p 0)) (register_on p name point (a.registrations x.slot.0 p) refl)
        where
          go : (b : Bool) → AsksOn (register_from me a x p name (a.registrations x.slot.0 p)) → AsksOn (if b then name_refused me a x p PortTaken else register_from me a x p name (a.registrations x.slot.0 p))
          go true k = refused_on p PortTaken
          go false k = k
      request_on (names.Withdraw p) point = withdraw_on p (a.registrations x.slot.0 p) refl

    -- one request after another
    unfoldable pub GoesOn : Lives → Links → List Msg → Links → Type 0
    GoesOn l a ms b = NamesHere t l a → RowsOn l a ms l b

    pub goes_on : (me : ℕ) → IsNameWalk t me (IsOfPoint t) GoesOn
    unfolding GoesOn
    goes_on me =
        record {
          two = λ l a b c x y h k here. (let p = h here in rows_two l a x l b y l c p (k p.names));
          off = λ l a ms off here. rows_still l a ms l a here off refl;
          request = λ l a x c is ask here. request_on me l a x is here c ask;
        }

    -- the stage after replies, one after another
    abbrev pub after_all : Stage → List ℕ → Stage
    after_all z [] = z
    after_all z (code ∷ codes) = after_all (stage_after z code) codes

    not_yet : (codes : List ℕ) → NotYet ≡ after_all NotYet codes
    not_yet [] = refl
    not_yet (code ∷ codes) = not_yet codes

    is_over : (codes : List ℕ) → Over ≡ after_all Over codes
    is_over [] = refl
    is_over (code ∷ codes) = is_over codes

    -- who isn't there hears nothing
    unheard : (p q made : Bool) (r : Registration) (codes : List ℕ) → (p ≡ false) ⊎ (q ≡ false) → stage_by p q made r ≡ after_all (stage_by p q made r) codes
    unheard false q made r codes h = not_yet codes
    unheard true true made r codes (inl h) = absurd cc
    unheard true true made r codes (inr h) = absurd cc
    unheard true false true r codes h = is_over codes
    unheard true false false r codes h = not_yet codes

    module _ (me : ℕ) (l : Lives) (a : Links) (names_here : NamesHere t l a) where
      -- after a message with these codes for the endpoint
      pub record HearsOn (codes : List ℕ) (r : Done Links) : Type 0 where
        pub names : NamesHere t l r.now
        pub heard : stage t l r.now e ≡ after_all (stage t l a e) codes

      same_hears : HearsOn [] (same_links a)
      same_hears = record { names = names_here; heard = refl }

      dead_hears : (codes : List ℕ) → (is_point t e ≡ false) ⊎ (is_live l (whose e) ≡ false) → HearsOn codes (same_links a)
      dead_hears codes h =
          record {
            names = names_here;
            heard = unheard (is_point t e) (is_live l (whose e)) (nat_le e.generation.0 (l.generation e.slot.0)) (a.registrations e.slot.0 e.port) codes h;
          }

      -- a point of a live actor here is replied to
      module _ (y : Endpoint) (code : ℕ) (point : is_point_port t y.slot.0 y.port ≡ true) (place : (y.place == 0) ≡ true) (live : is_live l (whose y) ≡ true) where
        abbrev CodesFor : List ℕ
        CodesFor = if is_endpoint y e then code ∷ [] else []

        own_stage : (k : Links) (r : Registration) → k.registrations y.slot.0 y.port ≡ r → stage t l k y ≡ Now r
        own_stage k r q =
            ap (λ (b : Bool). stage_by (b && is_point_port t y.slot.0 y.port) (is_live l (whose y)) (nat_le y.generation.0 (l.generation y.slot.0)) (k.registrations y.slot.0 y.port)) place
            ∙ ap (λ (b : Bool). stage_by b (is_live l (whose y)) (nat_le y.generation.0 (l.generation y.slot.0)) (k.registrations y.slot.0 y.port)) point
            ∙ ap (λ (b : Bool). stage_by true b (nat_le y.generation.0 (l.generation y.slot.0)) (k.registrations y.slot.0 y.port)) live
            ∙ ap (λ (z : Registration). Now z) q

        put_hears : (r next : Registration) (m : Msg) → a.registrations y.slot.0 y.port ≡ r → after_reply r code ≡ next → HearsOn CodesFor (name_heard me a y next m)
        put_hears r next m is same =
            record {
              names = names_put l a y.slot.0 y.port next (and_parts (l.lives y.slot.0) (l.generation y.slot.0 == y.generation.0) live).0 point names_here;
              heard = go (is_endpoint y e) refl;
            }
          where
            now : Links
            now = record a { registrations = updated_at a.registrations y.slot.0 y.port next }

            changed : updated_at a.registrations y.slot.0 y.port next y.slot.0 y.port ≡ next
            changed = updated_is a.registrations y.slot.0 y.port next y.slot.0 y.port ∙ rw (eq-eqb y.slot.0 y.slot.0 refl, eq-eqb y.port y.port refl) refl

            own : stage t l now y ≡ stage_after (stage t l a y) code
            own = own_stage now next changed ∙ sym (ap (λ (z : Stage). stage_after z code) (own_stage a r is) ∙ ap (λ (z : Registration). Now z) same)

            go : (b : Bool) → is_endpoint y e ≡ b → stage t l now e ≡ after_all (stage t l a e) (if b then code ∷ [] else [])
            go true one = subst (λ (z : Endpoint). stage t l now z ≡ stage_after (stage t l a z) code) (same_endpoint y e one) own
            go false apart =
                ap (λ (z : Registration). stage_by (is_point t e) (is_live l (whose e)) (nat_le e.generation.0 (l.generation e.slot.0)) z) (updated_is a.registrations y.slot.0 y.port next e.slot.0 e.port)
                ∙ stage_apart l y e place live apart (nat_le e.generation.0 (l.generation e.slot.0)) (a.registrations e.slot.0 e.port) next

        stays_hears : (r : Registration) → a.registrations y.slot.0 y.port ≡ r → after_reply r code ≡ r → HearsOn CodesFor (same_links a)
        stays_hears r is same = record { names = names_here; heard = go (is_endpoint y e) refl }
          where
            go : (b : Bool) → is_endpoint y e ≡ b → stage t l a e ≡ after_all (stage t l a e) (if b then code ∷ [] else [])
            go true one =
                subst (λ (z : Endpoint). stage t l a z ≡ stage_after (stage t l a z) code) (same_endpoint y e one)
                (own_stage a r is ∙ sym (ap (λ (z : Stage). stage_after z code) (own_stage a r is) ∙ ap (λ (z : Registration). Now z) same))
            go false apart = refl

        abbrev ReplyHears : Done Links → Type 0
        ReplyHears r = HearsOn CodesFor r

        reply_hears : (r : Registration) → a.registrations y.slot.0 y.port ≡ r → ReplyHears (replied_with me a y code r)
        reply_hears Unnamed is = stays_hears Unnamed is refl
        reply_hears Registered is = stays_hears Registered is refl
        reply_hears Leaving is = put_hears Leaving Unnamed _ is refl
        reply_hears Asked is = go (code == 0) refl (code == 8) refl
          where
            go : (p : Bool) → (code == 0) ≡ p → (q : Bool) → (code == 8) ≡ q → ReplyHears (
                if p then name_heard me a y Registered (name_told me Named (whose y) (pos y.port ∷ []))
                else if q then name_heard me a y Unnamed (name_told me NameRefused (whose y) (pos y.port ∷ pos code ∷ []))
                else same_links a)
            go true p q other = put_hears Asked Registered _ is (ap (λ (b : Bool). asked_after b (code == 8)) p)
            go false p true q = put_hears Asked Unnamed _ is (ap (λ (b : Bool). asked_after b (code == 8)) p ∙ ap (λ (b : Bool). asked_after false b) q)
            go false p false q = stays_hears Asked is (ap (λ (b : Bool). asked_after b (code == 8)) p ∙ ap (λ (b : Bool). asked_after false b) q)

      links_if : (codes : List ℕ) (b : Bool) (x y : Done Links) → HearsOn codes x → HearsOn codes y → HearsOn codes (if b then x else y)
      links_if codes true x y h k = h
      links_if codes false x y h k = k

      -- a NameReply to a target of this owner's that lives
      name_hears : (x y : Endpoint) (code : ℕ) → is_own t me y.slot.0 ≡ true → is_live l (whose y) ≡ true
          → HearsOn (if is_endpoint y e && is_endpoint x y then code ∷ [] else []) (if is_own_point t me y && is_endpoint x y && (y.place == 0) then name_reply me a y code else same_links a)
      unfolding name_reply
      name_hears x y code own live =
          go (is_point_port t y.slot.0 y.port) refl (is_endpoint x y) (y.place == 0) refl (is_own t me y.slot.0) own
        where
          none : (b c : Bool) → (b ≡ true → is_point t y ≡ false) → is_endpoint y e ≡ b → HearsOn (if b && c then code ∷ [] else []) (same_links a)
          none true c k same = dead_hears _ (inl (sym (ap (is_point t) (same_endpoint y e same)) ∙ k refl))
          none false c k same = same_hears

          codes : (b : Bool) → (if b && true then code ∷ [] else []) ≡ (if b then code ∷ [] else [])
          codes true = refl
          codes false = refl

          nothing : (b : Bool) → (if b && false then code ∷ [] else []) ≡ []
          nothing true = refl
          nothing false = refl

          go : (p : Bool) → is_point_port t y.slot.0 y.port ≡ p → (c d : Bool) → (y.place == 0) ≡ d → (o : Bool) → o ≡ true
              → HearsOn (if is_endpoint y e && c then code ∷ [] else []) (if ((o && p) && c) && d then name_reply me a y code else same_links a)
          go p point c d place false o = absurd cc
          go true point true true place true o =
              subst (λ z. HearsOn z (name_reply me a y code)) (sym (codes (is_endpoint y e)))
              (reply_hears y code point place live (a.registrations y.slot.0 y.port) refl)
          go true point false d place true o = subst (λ z. HearsOn z (same_links a)) (sym (nothing (is_endpoint y e))) same_hears
          go true point true false place true o =
              none (is_endpoint y e) true (λ q. ap (λ (b : Bool). b && is_point_port t y.slot.0 y.port) place) refl
          go false point c d place true o =
              none (is_endpoint y e) c (λ q. flat (y.place == 0) point) refl
            where
              flat : (b : Bool) → is_point_port t y.slot.0 y.port ≡ false → (b && is_point_port t y.slot.0 y.port) ≡ false
              flat true k = k
              flat false k = refl

      hears_of : (kind : SysKind) (x y : Endpoint) (payload : List ℤ) → is_own t me y.slot.0 ≡ true → is_live l (whose y) ≡ true
          → HearsOn (replied_by e (Some kind) (Some x) y payload) (links_duty_of t me a kind x y payload)
      unfolding bound unbound
      hears_of kinds.Bound x y [] own live = links_if [] (is_own_point t me y) _ _ (record { names = names_here; heard = refl }) same_hears
      hears_of kinds.Ended x y [] own live = links_if [] (is_own_point t me y) _ _ (record { names = names_here; heard = refl }) same_hears
      hears_of kinds.NameReply x y (pos code ∷ []) own live = name_hears x y code own live
      hears_of _ x y _ own live = same_hears

      hears_from : (kind : SysKind) (o : Option Endpoint) (m : Msg) → is_own t me m.target.slot.0 ≡ true → is_live l (whose m.target) ≡ true
          → HearsOn (replied_by e (Some kind) o m.target m.payload) (links_duty_from t me a kind o m)
      hears_from kinds.NameReply None m own live = same_hears
      hears_from kind None m own live = same_hears
      hears_from kind (Some x) m own live = hears_of kind x m.target m.payload own live

      -- registrations stay those of points of live actors
      pub links_names : (kind : SysKind) (m : Msg) → NamesHere t l (links_duty t me a (is_own t me m.target.slot.0 && is_live l (whose m.target)) kind m).now
      unfolding links_duty
      links_names kind m = go (is_own t me m.target.slot.0) refl (is_live l (whose m.target)) refl
        where
          go : (o : Bool) → is_own t me m.target.slot.0 ≡ o → (q : Bool) → is_live l (whose m.target) ≡ q
              → NamesHere t l (Done.now (if o && q then links_duty_from t me a kind m.source m else same_links a))
          go true here true live = (hears_from kind m.source m here live).names
          go true here false live = names_here
          go false here q live = names_here

      -- where its own point is replied to, or another one
      pub links_hears : (kind : SysKind) (m : Msg) → IsOf m kind → owner_of t e.slot.0 ≡ me
          → HearsOn (replied e m) (links_duty t me a (is_own t me m.target.slot.0 && is_live l (whose m.target)) kind m)
      unfolding links_duty
      links_hears kind m is own =
          subst (λ z. HearsOn z (if is_own t me m.target.slot.0 && is_live l (whose m.target) then links_duty_from t me a kind m.source m else same_links a)) (sym same)
          (go (is_own t me m.target.slot.0) refl (is_live l (whose m.target)) refl)
        where
          same : replied e m ≡ replied_by e (Some kind) m.source m.target m.payload
          same = rw (is.0, is.1) refl

          away : (codes : List ℕ) → replied_by e (Some kind) m.source m.target m.payload ≡ codes → (is_own t me m.target.slot.0 && is_live l (whose m.target)) ≡ false
              → HearsOn codes (same_links a)
          away [] q none = same_hears
          away (code ∷ more) q none = dead_hears (code ∷ more) (dead (is_point t e) refl)
            where
              target : m.target ≡ e
              target = target_is e (Some kind) m.source m.target m.payload code more q

              dead : (p : Bool) → is_point t e ≡ p → (is_point t e ≡ false) ⊎ (is_live l (whose e) ≡ false)
              dead false point = inl point
              dead true point =
                  let mine : is_own t me e.slot.0 ≡ true =
                  subst (λ n. is_own t n e.slot.0 ≡ true) own (point_own e.slot.0 e.port (and_parts (e.place == 0) (is_point_port t e.slot.0 e.port) point).1) in
                  let both : (is_own t me e.slot.0 && is_live l (whose e)) ≡ false = subst (λ (z : Endpoint). (is_own t me z.slot.0 && is_live l (whose z)) ≡ false) target none in
                  inr (ap (λ (b : Bool). b && is_live l (whose e)) (sym mine) ∙ both)

          go : (o : Bool) → is_own t me m.target.slot.0 ≡ o → (q : Bool) → is_live l (whose m.target) ≡ q
              → HearsOn (replied_by e (Some kind) m.source m.target m.payload) (if o && q then links_duty_from t me a kind m.source m else same_links a)
          go true here true live = hears_from kind m.source m here live
          go true here false live = away _ refl (ap (λ (b : Bool). b && is_live l (whose m.target)) here ∙ live)
          go false here q live = away _ refl (ap (λ (b : Bool). b && is_live l (whose m.target)) here)
