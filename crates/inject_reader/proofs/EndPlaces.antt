-- What an injection text can name has end places.
use Rattle.std.proofs.Common.{◌≡◌, true, [], ◌∷◌, refl}
use Rattle.room_kinds.specs.Structure.{is_end}
use Rattle.room_kinds.specs.declared.structure.PortKind.{PortKind}
use Rattle.room_kinds.specs.declared.structure.PortKind.TheVariants as ports
use Rattle.room_wiring.specs.declared.tables.Tables.{Tables}
use Rattle.inject_reader.specs.declared.inject_lines.accepted.What.{What}
use Rattle.inject_reader.specs.declared.inject_lines.accepted.What.TheVariants as whats
use Rattle.inject_reader.specs.Fitting.{FitsWhat, has_end_places, WhatFits, ReadLinesFit}

end_place : (kind : PortKind) → is_end kind ≡ true → has_end_places kind ≡ true
end_place ports.Frame h = absurd cc
end_place ports.Relay h = absurd cc
end_place ports.End h = refl
end_place ports.Internal h = refl
end_place ports.Sap h = absurd cc
end_place ports.Spp h = absurd cc

one_fits : (t : Tables) (w : What) → FitsWhat t w → WhatFits t w
one_fits t whats.Settle h = tt
one_fits t (whats.Advance time) h = tt
one_fits t (whats.Message target signal payload prio) h = record {
  port = h.port;
  target_fits = record {
    slot = h.target_fits.slot;
    port_is = h.target_fits.port_is;
    kind = end_place h.port.kind h.target_fits.end;
    place = h.target_fits.place;
    whoever = h.target_fits.whoever;
  };
  signal_fits = h.signal_fits;
  least = h.least;
  most = h.most;
}

pub read_fit : ReadLinesFit
read_fit t [] h = tt
read_fit t (x ∷ lines) h = (one_fits t x.what h.0, read_fit t lines h.1)
