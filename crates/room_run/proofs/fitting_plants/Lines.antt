-- Lines that fit send nothing at the system level.
use Rattle.std.proofs.Common.{◌≡◌, ℕ, zero, suc, ◌≤◌, ◌==◌, false, List, [], ◌∷◌, subst, arith, ◌+◌}
use Rattle.std.proofs.lemmas.Bool.{ne_eqb}
use Rattle.std.specs.List.{AllByRecursion}
use Rattle.room_wiring.specs.declared.tables.Tables.{Tables}
use Rattle.inject_reader.specs.declared.inject_lines.accepted.Line.{Line as Accepted}
use Rattle.inject_reader.specs.declared.inject_lines.accepted.What.{What}
use Rattle.inject_reader.specs.declared.inject_lines.accepted.What.TheVariants as whats
use Rattle.inject_reader.specs.Fitting.{WhatFits, LinesFit}
use Rattle.actor_merge.specs.Parties.{Line}
use Rattle.actor_world.specs.Journals.{lines_from, lines_of}
use Rattle.actor_world.specs.Directories.{AreOpen}
use Rattle.model_run.specs.part_posts.Items.{item_of, items_of}

-- none of these is at the system level
abbrev AllOpen : List Line → Type 0
AllOpen ls = AllByRecursion (λ (l : Line). (l.message.prio.0 == 0) ≡ false) ls

open_at : (ls : List Line) → AllOpen ls → AreOpen ls
open_at [] h i l e = absurd cc
open_at (x ∷ ls) h zero l e =
    let same : x ≡ l = cc in subst (λ (z : Line). (z.message.prio.0 == 0) ≡ false) same h.0
open_at (x ∷ ls) h (suc i) l e = open_at ls h.1 i l e

all_open : (t : Tables) (lines : List Accepted) (part : ℕ) → LinesFit t lines → AllOpen (lines_from part (items_of t lines))
all_open t [] part h = tt
all_open t (x ∷ lines) part h = go x.what h.0 (λ p. all_open t lines p h.1)
  where
    go : (w : What) → WhatFits t w → ((p : ℕ) → AllOpen (lines_from p (items_of t lines))) → AllOpen (lines_from part (item_of t x.number w ∷ items_of t lines))
    go whats.Settle f rest = rest (part + 1)
    go (whats.Advance time) f rest = rest (part + 1)
    go (whats.Message target signal payload prio) f rest =
        let least : 1 ≤ prio.0 = f.least in (ne_eqb prio.0 0 (λ e. omega arith), rest part)

pub lines_open : (t : Tables) (lines : List Accepted) → LinesFit t lines → AreOpen (lines_of (items_of t lines))
lines_open t lines h = open_at (lines_of (items_of t lines)) (all_open t lines 1 h)
