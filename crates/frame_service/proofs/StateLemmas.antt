-- States of a frame service of which a part is changed.
use Rattle.std.proofs.Common.{◌≡◌, ℕ, ◌<◌, length, List, ap, ◌∙◌}
use Rattle.room_wiring.specs.declared.tables.Tables.{Tables}
use Rattle.actor_world.specs.Start.{first_frame}
use Rattle.service_messages.specs.slot_runs.Runs.{IsDepthFirst, AreRunEnds}
use Rattle.frame_lives.specs.declared.row.Row.{Row}
use Rattle.frame_lives.specs.Known.{Known}
use Rattle.frame_lives.specs.Shown.{shown}
use Rattle.frame_service.specs.frame_imports.frame_peers.Parts.{frame_by}
use Rattle.frame_service.specs.frame_start.First.{first_known}
use Rattle.frame_service.specs.frame_imports.import_places.Lending.{Kept, Lending, lending, nothing_lent}
use Rattle.frame_service.specs.declared.state.FrameState.{FrameState}
use Rattle.frame_service.specs.State.{frame_in, IsFrameOf}

-- other lives, with as many rows
pub lives_fit : (t : Tables) (s : FrameState) (rows : List Row) → IsFrameOf t s → (shown rows).slots ≡ (shown s.lives).slots → IsFrameOf t (record s { lives = rows })
lives_fit t s rows fits is = record { order = fits.order; me = fits.me; runs = fits.runs; lives = is ∙ fits.lives }

-- other tables of what is lent
pub imports_fit : (t : Tables) (s : FrameState) (k : Kept) → IsFrameOf t s → IsFrameOf t (record s { imports = k })
imports_fit t s k fits = record { order = fits.order; me = fits.me; runs = fits.runs; lives = fits.lives }

-- the state at the start fits its wiring
pub start_fits : (t : Tables) (s : FrameState) → IsDepthFirst t → s.me.0 < length t.controllers → AreRunEnds t s.runs → shown s.lives ≡ first_known t s.me.0
    → IsFrameOf t s
start_fits t s order me runs lives = record {
  order = order;
  me = me;
  runs = runs;
  lives = ap (λ (k : Known). k.slots) lives;
}

-- and is that of the definitions
pub start_frame : (t : Tables) (s : FrameState) (me : ℕ) → shown s.lives ≡ first_known t me → lending s.imports ≡ nothing_lent → frame_in s ≡ first_frame t me
unfolding frame_in
start_frame t s me lives imports =
    ap (λ (k : Known). frame_by k (lending s.imports).places (lending s.imports).plugs) lives
    ∙ ap (λ (l : Lending). frame_by (first_known t me) l.places l.plugs) imports
