-- What actions see of a class of a model is what its wiring names of the class.
use Rattle.std.proofs.Common.{◌≡◌, ◌∙◌, ℕ, zero, suc, Bool, true, false, cond, List, [], ◌∷◌, map, zip, Option, Some, None, option_map, option_and_then, unwrap_or, slice_get, refl, sym, ap, subst}
use Rattle.std.proofs.lemmas.Option.{same_Some, slice_get-map}
use Rattle.room_ast.specs.Trees.{ModelTree, ActorTree}
use Rattle.room_ast.specs.declared.actor.ActorRef.{ActorRef}
use Rattle.room_ast.specs.declared.scope.Scope.{Scope}
use Rattle.room_ast.specs.declared.scope.ScopePort.{ScopePort}
use Rattle.room_ast.specs.declared.scope.ScopeReference.{ScopeReference}
use Rattle.room_ast.specs.declared.scope.ScopeSignal.{ScopeSignal}
use Rattle.room_ast.specs.declared.model_parts.entries.PortEntry.{PortEntry}
use Rattle.room_ast.specs.model_parts.Classes.{actor_names, protocol_names}
use Rattle.room_ast.specs.model_parts.Ports.{ports_of, port_names}
use Rattle.room_ast.specs.model_parts.References.{references_of, reference_entry}
use Rattle.room_wiring.specs.declared.names.PortNames.{PortNames}
use Rattle.room_wiring.specs.declared.names.RefNames.{RefNames}
use Rattle.room_wiring.specs.declared.names.SignalNames.{SignalNames}
use Rattle.check_scopes.specs.declared.class_scopes.signals.Signals.{Signals}
use Rattle.check_scopes.specs.declared.class_scopes.signals.SignalTable.{SignalTable}
use Rattle.check_scopes.specs.class_scopes.Scopes as scopes
use Rattle.check_scopes.specs.class_scopes.Scopes.{scope_of, port_with, reference_of}
use Rattle.check_scopes.specs.class_scopes.Signals.{model_signals, is_frame, signals_at, map_signals, map_table}
use Rattle.check_scopes.specs.class_scopes.Views.{SignalView, PortView, ReferenceView, ScopeView, signal_view, port_view, reference_view, scope_view}
use Rattle.wiring_plan.specs.wiring_classes.Classes.{labelled_signals, ports_in, references_in, class_names}
use Rattle.wiring_plan.specs.wiring_classes.Parts.{labelled, port_names_of, reference_names_of, named}
use Rattle.law_models.proofs.class_laws.Scopes.{as_wired, IsPortOf, IsScopeOf}
use Rattle.binding_expand.proofs.plan_laws.Services.{mapped_some}

-- ---- lists

map_twice : {X Y Z : Type 0} (f : X → Y) (g : Y → Z) (xs : List X) → map g (map f xs) ≡ map (λ x. g (f x)) xs
map_twice f g [] = refl
map_twice f g (x ∷ xs) = ap (λ ys. g (f x) ∷ ys) (map_twice f g xs)

-- what names and entries make in two ways
zipped_at : {X Y Z : Type 0} (f : List ℕ → X → Y) (g : List ℕ × X → Z) (ns : List (List ℕ)) (xs : List X) (k : ℕ) (z : Z)
    → slice_get (map g (zip ns xs)) k ≡ Some z → (n : List ℕ) × (x : X) × (slice_get (named f ns xs) k ≡ Some (f n x)) × (g (n, x) ≡ z)
zipped_at f g [] xs k z e = absurd cc
zipped_at f g (n ∷ ns) [] k z e = absurd cc
zipped_at f g (n ∷ ns) (x ∷ xs) zero z e = (n, x, refl, same_Some (g (n, x)) z e)
zipped_at f g (n ∷ ns) (x ∷ xs) (suc k) z e = zipped_at f g ns xs k z e

named_at : {X Y Z : Type 0} (f : List ℕ → X → Y) (name : Z → List ℕ) (entry : Z → X) (zs : List Z) (k : ℕ) (z : Z)
    → slice_get zs k ≡ Some z → slice_get (named f (map name zs) (map entry zs)) k ≡ Some (f (name z) (entry z))
named_at f name entry [] k z e = absurd cc
named_at f name entry (y ∷ ys) zero z e = ap (λ q. Some (f (name q) (entry q))) (same_Some y z e)
named_at f name entry (y ∷ ys) (suc k) z e = named_at f name entry ys k z e

-- ---- messages of ports

unwrapped : {X Y : Type 0} (f : X → Y) (o : Option X) (d : X) → unwrap_or (option_map f o) (f d) ≡ f (unwrap_or o d)
unwrapped f None d = refl
unwrapped f (Some x) d = refl

signals_mapped : {S T : Type 0} (f : S → T) (t : SignalTable S) (p : PortEntry) → signals_at (map_table f t) p ≡ map_signals f (signals_at t p)
signals_mapped {S} {T} f t p = by_kind (is_frame p.kind)
  where
    by_protocol : (q : Option ℕ) → unwrap_or (option_and_then (slice_get (map (map_signals f) t.protocols)) q) (map_signals f t.none)
        ≡ map_signals f (unwrap_or (option_and_then (slice_get t.protocols) q) t.none)
    by_protocol None = refl
    by_protocol (Some i) =
        ap (λ (o : Option (Signals T)). unwrap_or o (map_signals f t.none)) (slice_get-map (map_signals f) t.protocols i) ∙ unwrapped (map_signals f) (slice_get t.protocols i) t.none

    by_kind : (b : Bool) → cond b (map_signals f t.frame) (unwrap_or (option_and_then (slice_get (map (map_signals f) t.protocols)) p.protocol) (map_signals f t.none))
        ≡ map_signals f (cond b t.frame (unwrap_or (option_and_then (slice_get t.protocols) p.protocol) t.none))
    by_kind true = refl
    by_kind false = by_protocol p.protocol

-- ---- a class

module _ (m : ModelTree) (a : ActorTree) (scope : Scope) (seen : scope_view scope ≡ scope_of m a) where
  ports_seen : map port_view scope.ports.items ≡ scopes.ports_in (model_signals m) (port_names a) (ports_of (protocol_names m) a)
  unfolding scope_of
  ports_seen = ap (λ (v : ScopeView). v.ports) seen

  references_seen : map reference_view scope.references.items ≡ map reference_of (references_of a)
  unfolding scope_of
  references_seen = ap (λ (v : ScopeView). v.references) seen

  ports_are : (class_names m a).ports ≡ named (port_names_of (protocol_names m) (map_table labelled (model_signals m))) (port_names a) (ports_of (protocol_names m) a)
  unfolding class_names ports_in labelled_signals
  ports_are = refl

  references_are : (class_names m a).references
      ≡ named reference_names_of (map (λ (r : ActorRef). r.name) (references_of a)) (map (reference_entry (actor_names m)) (references_of a))
  unfolding class_names references_in
  references_are = refl

  messages_are : (v w : List SignalView) (ss : List ScopeSignal) (xs : List SignalNames) → xs ≡ map labelled v → v ≡ w → w ≡ map signal_view ss → xs ≡ map as_wired ss
  messages_are v w ss xs is same seen_as = is ∙ ap (map labelled) (same ∙ seen_as) ∙ map_twice signal_view labelled ss

  port_fits : (k : ℕ) (p : ScopePort) → slice_get scope.ports.items k ≡ Some p → (x : PortNames) × (slice_get (class_names m a).ports k ≡ Some x) × IsPortOf p x
  port_fits k p at =
      let viewed : slice_get (map port_view scope.ports.items) k ≡ Some (port_view p) = slice_get-map port_view scope.ports.items k ∙ ap (option_map port_view) at in
      let made = zipped_at (port_names_of (protocol_names m) (map_table labelled (model_signals m))) (λ (x : List ℕ × PortEntry). port_with x.0 x.1 (signals_at (model_signals m) x.1))
      (port_names a) (ports_of (protocol_names m) a) k (port_view p) (subst (λ vs. slice_get vs k ≡ Some (port_view p)) ports_seen viewed) in
      let entry = made.1 in
      let x = port_names_of (protocol_names m) (map_table labelled (model_signals m)) made.0 entry in
      let mapped = signals_mapped labelled (model_signals m) entry in (
        x,
        subst (λ ps. slice_get ps k ≡ Some x) (sym ports_are) made.2,
        record {
          kind = sym (ap (λ (v : PortView). v.kind) made.3);
          conjugated = sym (ap (λ (v : PortView). v.conjugated) made.3);
          incoming = messages_are (signals_at (model_signals m) entry).incoming (port_view p).incoming p.incoming x.incoming
              (ap (λ (s : Signals SignalNames). s.incoming) mapped) (ap (λ (v : PortView). v.incoming) made.3) refl;
          outgoing = messages_are (signals_at (model_signals m) entry).outgoing (port_view p).outgoing p.outgoing x.outgoing
              (ap (λ (s : Signals SignalNames). s.outgoing) mapped) (ap (λ (v : PortView). v.outgoing) made.3) refl;
        },
      )

  reference_fits : (k : ℕ) (r : ScopeReference) → slice_get scope.references.items k ≡ Some r
      → (x : RefNames) × (slice_get (class_names m a).references k ≡ Some x) × (r.kind ≡ x.kind)
  reference_fits k r at =
      let viewed : slice_get (map reference_view scope.references.items) k ≡ Some (reference_view r) = slice_get-map reference_view scope.references.items k ∙ ap (option_map reference_view) at in
      let found = mapped_some reference_of (slice_get (references_of a) k) (reference_view r)
      (sym (slice_get-map reference_of (references_of a) k) ∙ subst (λ vs. slice_get vs k ≡ Some (reference_view r)) references_seen viewed) in
      let x = reference_names_of found.0.name (reference_entry (actor_names m) found.0) in (
        x,
        subst (λ rs. slice_get rs k ≡ Some x) (sym references_are) (named_at reference_names_of (λ (q : ActorRef). q.name) (reference_entry (actor_names m)) (references_of a) k found.0 found.1),
        sym (ap (λ (v : ReferenceView). v.kind) found.2),
      )

  pub scope_fits : IsScopeOf scope (class_names m a)
  scope_fits = record { ports = port_fits; references = reference_fits }
