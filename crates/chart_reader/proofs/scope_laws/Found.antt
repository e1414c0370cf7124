-- What is found in two scopes that are seen alike.
use Rattle.std.proofs.Common.{◌≡◌, ℕ, ◌+◌, Bool, true, false, cond, List, [], ◌∷◌, length, map, Option, Some, refl, sym, ap, ◌∙◌}
use Rattle.std.specs.Prelude.{option_map}
use Rattle.std.proofs.lemmas.List.{length-map}
use Rattle.room_ast.specs.declared.scope.Scope.{Scope}
use Rattle.room_ast.specs.declared.scope.ScopePort.{ScopePort}
use Rattle.room_ast.specs.declared.scope.ScopeSignal.{ScopeSignal}
use Rattle.room_ast.specs.Found.{same_name, same_path, found_at, found_attribute, found_port, found_reference, found_sent, found_received}
use Rattle.room_ast.specs.model_parts.Attributes.{ClassNumber}
use Rattle.check_scopes.specs.class_scopes.Views.{SignalView, PortView, ReferenceView, ScopeView, attribute_view, signal_view, port_view, reference_view, scope_view}

-- ---- looking in lists that are seen alike

-- a number, and what is seen of an item
abbrev pub seen : {A V : Type 0} → (A → V) → ℕ × A → ℕ × V
seen v x = (x.0, v x.1)

-- two answers are seen alike
abbrev pub Alike : {A V : Type 0} → (A → V) → Option (ℕ × A) → Option (ℕ × A) → Type 0
Alike v o p = option_map (seen v) o ≡ option_map (seen v) p

-- what depends on what is seen is the same
pub through : {A V X : Type 0} (v : A → V) (f : Option (ℕ × A) → X) (g : Option (ℕ × V) → X) (o p : Option (ℕ × A)) → ((q : Option (ℕ × A)) → f q ≡ g (option_map (seen v) q)) → Alike v o p → f o ≡ f p
through v f g o p by alike = by o ∙ ap g alike ∙ sym (by p)

found_seen : {A V : Type 0} (v : A → V) (p : V → Bool) (k : ℕ) (xs : List A) → option_map (seen v) (found_at (λ x. p (v x)) k xs) ≡ found_at p k (map v xs)
found_seen v p k [] = refl
found_seen v p k (x ∷ xs) = by_test (p (v x)) (found_seen v p (k + 1) xs)
  where
    by_test : (b : Bool) → option_map (seen v) (found_at (λ y. p (v y)) (k + 1) xs) ≡ found_at p (k + 1) (map v xs) → option_map (seen v) (cond b (Some (k, x)) (found_at (λ y. p (v y)) (k + 1) xs)) ≡ cond b (Some (k, v x)) (found_at p (k + 1) (map v xs))
    by_test true h = refl
    by_test false h = h

found_alike : {A V : Type 0} (v : A → V) (p : V → Bool) (k : ℕ) (xs ys : List A) → map v xs ≡ map v ys → Alike v (found_at (λ x. p (v x)) k xs) (found_at (λ x. p (v x)) k ys)
found_alike v p k xs ys e = found_seen v p k xs ∙ ap (found_at p k) e ∙ sym (found_seen v p k ys)

module _ (s t : Scope) (e : scope_view s ≡ scope_view t) where
  pub attributes_alike : (path : List (List ℕ)) → Alike attribute_view (found_attribute s path) (found_attribute t path)
  attributes_alike path = found_alike attribute_view (λ (a : ClassNumber). same_path a.path path) 0 s.attributes.items t.attributes.items (ap (λ (w : ScopeView). w.attributes) e)

  pub ports_alike : (name : List ℕ) → Alike port_view (found_port s name) (found_port t name)
  ports_alike name = found_alike port_view (λ (p : PortView). same_name p.name name) 0 s.ports.items t.ports.items (ap (λ (w : ScopeView). w.ports) e)

  pub references_alike : (name : List ℕ) → Alike reference_view (found_reference s name) (found_reference t name)
  references_alike name = found_alike reference_view (λ (r : ReferenceView). same_name r.name name) 0 s.references.items t.references.items (ap (λ (w : ScopeView). w.references) e)

-- ---- messages at a port

-- the message of a name that goes out at a port, as it is seen
abbrev pub sent_in : PortView → List ℕ → Option (ℕ × SignalView)
sent_in p name = cond p.conjugated (found_at (λ (x : SignalView). same_name x.name name) 0 p.incoming) (found_at (λ (x : SignalView). same_name x.name name) (length p.incoming) p.outgoing)

-- and the one that comes in
abbrev pub received_in : PortView → List ℕ → Option (ℕ × SignalView)
received_in p name = cond p.conjugated (found_at (λ (x : SignalView). same_name x.name name) (length p.incoming) p.outgoing) (found_at (λ (x : SignalView). same_name x.name name) 0 p.incoming)

by_sides : (b : Bool) (x y : Option (ℕ × ScopeSignal)) (u w : Option (ℕ × SignalView)) → option_map (seen signal_view) x ≡ u → option_map (seen signal_view) y ≡ w → option_map (seen signal_view) (cond b x y) ≡ cond b u w
by_sides true x y u w h k = h
by_sides false x y u w h k = k

incoming_seen : (p : ScopePort) (name : List ℕ) → option_map (seen signal_view) (found_at (λ (x : ScopeSignal). same_name x.name name) 0 p.incoming) ≡ found_at (λ (x : SignalView). same_name x.name name) 0 (map signal_view p.incoming)
incoming_seen p name = found_seen signal_view (λ (x : SignalView). same_name x.name name) 0 p.incoming

outgoing_seen : (p : ScopePort) (name : List ℕ) → option_map (seen signal_view) (found_at (λ (x : ScopeSignal). same_name x.name name) (length p.incoming) p.outgoing) ≡ found_at (λ (x : SignalView). same_name x.name name) (length (map signal_view p.incoming)) (map signal_view p.outgoing)
outgoing_seen p name =
    found_seen signal_view (λ (x : SignalView). same_name x.name name) (length p.incoming) p.outgoing
    ∙ ap (λ k. found_at (λ (x : SignalView). same_name x.name name) k (map signal_view p.outgoing)) (sym (length-map p.incoming signal_view))

pub sent_seen : (p : ScopePort) (name : List ℕ) → option_map (seen signal_view) (found_sent p name) ≡ sent_in (port_view p) name
sent_seen p name = by_sides p.conjugated _ _ _ _ (incoming_seen p name) (outgoing_seen p name)

pub received_seen : (p : ScopePort) (name : List ℕ) → option_map (seen signal_view) (found_received p name) ≡ received_in (port_view p) name
received_seen p name = by_sides p.conjugated _ _ _ _ (outgoing_seen p name) (incoming_seen p name)
