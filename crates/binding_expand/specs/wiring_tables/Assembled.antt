-- The tables of a wiring, from the slots of a model and what their places are joined to.
use Rattle.std.specs.Prelude.{◌≡◌, ℕ, Bool, List, length, All}
use Rattle.std.specs.List.{sum}
use Rattle.room_wiring.specs.declared.tables.Tables.{Tables}
use Rattle.room_wiring.specs.declared.slot.Partner.{Partner}
use Rattle.wiring_places.specs.declared.place_rules.place.LayerJoin.{LayerJoin}
use Rattle.wiring_places.specs.place_rules.Counts.{counts, spans_from, first_ports_from}
use Rattle.wiring_slots.specs.declared.model_slots.slots.WiredSlots.{WiredSlots}

-- How many places each port of each slot has.
abbrev pub counts_in : WiredSlots → List LayerJoin → List ℕ
counts_in w joins = counts w.plan w.slots joins

-- The tables with these partners of the places and these answers on who is told.
abbrev pub assembled : WiredSlots → List LayerJoin → List Partner → List (List Bool) → Tables
assembled w joins partners told = record {
  slots = w.slots;
  controllers = w.controllers;
  classes = w.classes;
  first_ports = first_ports_from w.plan 0 w.slots;
  ports = spans_from 0 (counts_in w joins);
  partners = partners;
  told = told;
}

-- Each place has a partner, and each slot an answer for each controller.
pub record AreComplete (w : WiredSlots) (joins : List LayerJoin) (partners : List Partner) (told : List (List Bool)) : Type 0 where
  pub joined : length partners ≡ sum (counts_in w joins)
  pub answered : length told ≡ length w.slots
  pub rows : All (λ (row : List Bool). length row ≡ length w.controllers) told
