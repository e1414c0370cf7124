-- What is seen of a slot is what the body of the world's definitions has there.
use Rattle.std.proofs.Common.{◌≡◌, ℕ, ◌<◌, ◌≤◌, List, length, map, slice_get, slice_index, Some, None, option_map, sym, ap, ◌∙◌, arith}
use Rattle.std.proofs.lemmas.List.{length-map}
use Rattle.std.proofs.lemmas.Option.{slice_get-get_or, slice_get_past}
use Rattle.actor_duties.specs.State.{Link}
use Rattle.chart_behaviour.specs.ModelCharts.{state_number}
use Rattle.controller_actors.specs.declared.actor_slots.actor_slot.ActorSlot.{ActorSlot}
use Rattle.controller_actors.specs.declared.actors.Actors.{Actors}
use Rattle.controller_actors.specs.declared.plant.Plant.{Plant}
use Rattle.controller_actors.specs.actor_slots.Occupants.{actor_in}
use Rattle.controller_actors.specs.Bodies.{body_of, slot_at}
use Rattle.controller_actors.specs.Seen.{attributes_of}

module _ (p : Plant) (me : ℕ) (a : Actors) (s : ℕ) (y : ActorSlot) (is : y ≡ slot_at p.wiring me a.slots.items s) where
  pub state_seen : option_map state_number (actor_in y.occupant) ≡ option_map state_number ((body_of p me a).machines s)
  unfolding body_of
  state_seen = ap (λ (z : ActorSlot). option_map state_number (actor_in z.occupant)) is

  pub attributes_seen : option_map attributes_of (actor_in y.occupant) ≡ option_map attributes_of ((body_of p me a).machines s)
  unfolding body_of
  attributes_seen = ap (λ (z : ActorSlot). option_map attributes_of (actor_in z.occupant)) is

  pub deferred_seen : (i : ℕ) → slice_get y.deferred i ≡ slice_get ((body_of p me a).deferred s) i
  unfolding body_of
  deferred_seen i = ap (λ (z : ActorSlot). slice_get z.deferred i) is

abbrev places : List Link → List ℕ
places links = map (λ (x : Link). x.place) links

pub link_seen : (links : List Link) (index place : ℕ) → index < length links → place ≡ slice_index (places links) index → Some place ≡ slice_get (places links) index
link_seen links index place inside is =
    ap Some is ∙ sym (slice_get-get_or (places links) index 0 (omega (arith, inside, length-map links (λ (x : Link). x.place))))

pub no_link_seen : (links : List Link) (index : ℕ) → length links ≤ index → None ≡ slice_get (places links) index
no_link_seen links index past = sym (slice_get_past (places links) index (omega (arith, past, length-map links (λ (x : Link). x.place))))
