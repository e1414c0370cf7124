-- A world whose controllers are in the states of another one's is agreed where the other is.
use Rattle.std.proofs.Common.{◌≡◌, ℕ, ◌≤◌, ◌<◌, inl, inr, length, count_by, sym, ap, ◌∙◌, subst, arith}
use Rattle.std.specs.List.{Contains}
use Rattle.room_kinds.specs.declared.numbers.Incarnation.{Incarnation}
use Rattle.room_kinds.specs.declared.numbers.Endpoint.{Endpoint}
use Rattle.room_wiring.specs.declared.tables.Tables.{Tables}
use Rattle.actor_merge.specs.Parties.{State}
use Rattle.actor_merge.specs.World.{World}
use Rattle.actor_duties.specs.Words.{whose, frame_of, is_incarnation, owner_of}
use Rattle.actor_duties.specs.State.{Frame, NameTable}
use Rattle.actor_duties.specs.Lives.{standing, is_live}
use Rattle.actor_duties.specs.Imports.{container_frame}
use Rattle.actor_duties.specs.Peers.{peer, link_peer}
use Rattle.actor_world.specs.Body.{Body}
use Rattle.actor_world.specs.Agreed.{frame_at, lives_in, place_of, plugged, has_container, TableLinks, ImportsAgree, LinksAgree, peer_in, IsAgreed}
use Rattle.law_agreement.specs.Imports.{OwnersAreThere}

module _ {M : Type 0} (t : Tables) (owners : OwnersAreThere t) (v w : World (Body M)) (same : (c : ℕ) → c < length t.controllers → v.controllers c ≡ w.controllers c) where
  frame_same : (s : ℕ) → frame_at t v s ≡ frame_at t w s
  frame_same s = ap (λ (z : State (Body M)). z.body.frame) (same (owner_of t s) (owners s))

  lives_same : (x : Incarnation) → lives_in t v x ≡ lives_in t w x
  lives_same x = ap (λ (f : Frame). is_live f.lives x) (frame_same x.slot.0)

  place_same : (i : ℕ) → place_of t v i ≡ place_of t w i
  place_same i = ap (λ (f : Frame). f.places i) (frame_same i)

  plugged_same : (i h : Incarnation) → plugged t v i h ≡ plugged t w i h
  plugged_same i h = ap (λ (f : Frame). count_by (is_incarnation i) (f.plugs h.slot.0)) (frame_same h.slot.0)

  container_same : (i : Incarnation) → has_container t v i ≡ has_container t w i
  container_same i = lives_same (whose (container_frame t (frame_of i)))

  linked_same : (a : Endpoint) → link_peer (v.controllers (owner_of t a.slot.0)).body.links a ≡ link_peer (w.controllers (owner_of t a.slot.0)).body.links a
  linked_same a = ap (λ (z : State (Body M)). link_peer z.body.links a) (same (owner_of t a.slot.0) (owners a.slot.0))

  table_same : (v.controllers 0).body.table ≡ (w.controllers 0).body.table
  table_same = let some = owners 0 in ap (λ (z : State (Body M)). z.body.table) (same 0 (omega arith))

  peer_same : (a : Endpoint) → peer_in t v a ≡ peer_in t w a
  peer_same a = ap (λ (z : State (Body M)). peer t (owner_of t a.slot.0) z.body.frame z.body.links a) (same (owner_of t a.slot.0) (owners a.slot.0))

  imports_same : ImportsAgree t v → ImportsAgree t w
  imports_same h =
      record {
        settled = λ i imported has. elim (h.settled i imported (container_same i ∙ has)) [
          | inl empty ↦ inl (sym (place_same i.slot.0) ∙ empty)
          | inr held ↦ inr (held.0, sym (place_same i.slot.0) ∙ held.1)
        ];
        held = λ i x imported has.
            let both = h.held i x imported (container_same i ∙ has) in (
              λ e. let k = both.0 (place_same i.slot.0 ∙ e) in (sym (lives_same x) ∙ k.0, sym (plugged_same i x) ∙ k.1),
              λ k. sym (place_same i.slot.0) ∙ both.1 (lives_same x ∙ k.0, plugged_same i x ∙ k.1),
            );
        once = λ i x. subst (λ n. n ≤ 1) (plugged_same i x) (h.once i x);
        plugs = λ i x some. let k = h.plugs i x (subst (λ n. 1 ≤ n) (sym (plugged_same i x)) some) in (k.0, sym (container_same i) ∙ k.1);
      }

  links_same : LinksAgree t v → LinksAgree t w
  links_same h =
      record {
        links = λ a b live.
            let both = h.links a b (lives_same (whose a) ∙ live) in (
              λ e. subst (λ (z : NameTable). TableLinks z a b) table_same (both.0 (linked_same a ∙ e)),
              λ k. sym (linked_same a) ∙ both.1 (subst (λ (z : NameTable). TableLinks z a b) (sym table_same) k),
            );
        users = λ s u there among. sym (lives_same (whose u.at)) ∙ h.users s u (subst (λ (z : NameTable). Contains z s) (sym table_same) there) among;
        providers = λ s p there is. sym (lives_same (whose p.at)) ∙ h.providers s p (subst (λ (z : NameTable). Contains z s) (sym table_same) there) is;
      }

  pub agreed_alike : IsAgreed t v → IsAgreed t w
  agreed_alike h =
      record {
        directories = λ s d there below told.
            ap (λ (z : State (Body M)). z.body.frame.told s) (sym (same d below)) ∙ h.directories s d there below told
            ∙ ap (λ (f : Frame). standing f.lives s) (frame_same s);
        imports = imports_same h.imports;
        links = links_same h.links;
        peers = λ a b la lb e. sym (peer_same b) ∙ h.peers a b (lives_same (whose a) ∙ la) (lives_same (whose b) ∙ lb) (peer_same a ∙ e);
      }
