-- Lines that name what a wiring has, and some of them.
use Rattle.std.proofs.Common.{◌≡◌, ℕ, ℤ, zero, suc, ◌<◌, List, [], ◌∷◌, take, drop, length, slice_get, get_or, Some, ap, ◌∙◌, subst, arith}
use Rattle.std.proofs.lemmas.Option.{slice_get_within}
use Rattle.room_kinds.specs.declared.numbers.Endpoint.{Endpoint}
use Rattle.room_kinds.specs.declared.numbers.Priority.{Priority}
use Rattle.room_wiring.specs.declared.tables.Tables.{Tables}
use Rattle.inject_reader.specs.Fitting.{MessageFits, WhatFits, LinesFit}
use Rattle.inject_reader.specs.declared.inject_lines.accepted.Line.{Line}
use Rattle.inject_reader.specs.declared.inject_lines.accepted.What.{What}
use Rattle.inject_reader.specs.declared.inject_lines.accepted.What.TheVariants as whats
use Rattle.model_run.proofs.part_posts.PostLaw.{line_there}

pub fit_take : (t : Tables) (n : ℕ) (lines : List Line) → LinesFit t lines → LinesFit t (take n lines)
fit_take t zero [] h = tt
fit_take t zero (l ∷ lines) h = tt
fit_take t (suc n) [] h = tt
fit_take t (suc n) (l ∷ lines) h = (h.0, fit_take t n lines h.1)

pub fit_drop : (t : Tables) (n : ℕ) (lines : List Line) → LinesFit t lines → LinesFit t (drop n lines)
fit_drop t zero [] h = h
fit_drop t zero (l ∷ lines) h = h
fit_drop t (suc n) [] h = tt
fit_drop t (suc n) (l ∷ lines) h = fit_drop t n lines h.1

-- each of them does
fit_at : (t : Tables) (lines : List Line) (at : ℕ) (l : Line) → LinesFit t lines → slice_get lines at ≡ Some l → WhatFits t l.what
fit_at t [] at l h e = absurd (omega (arith, slice_get_within [] at l e))
fit_at t (x ∷ lines) zero l h e = let same : x ≡ l = cc in subst (λ (z : Line). WhatFits t z.what) same h.0
fit_at t (x ∷ lines) (suc at) l h e = fit_at t lines at l h.1 e

-- the line that was read asks for a message that fits
pub message_fits : (t : Tables) (lines : List Line) (at : ℕ) (x : Line) (target : Endpoint) (signal : ℕ) (payload : List ℤ) (prio : Priority)
    → x ≡ get_or lines at x → at < length lines → (get_or lines at x).what ≡ whats.Message target signal payload prio → LinesFit t lines
    → MessageFits t target signal payload prio.0
message_fits t lines at x target signal payload prio e h is fit =
    subst (λ (w : What). WhatFits t w) (ap (λ (l : Line). l.what) e ∙ is) (fit_at t lines at x fit (line_there lines at x e h))

-- a message that fits goes to a slot that is there
pub slot_there : (t : Tables) (target : Endpoint) (signal : ℕ) (payload : List ℤ) (prio : ℕ) → MessageFits t target signal payload prio → target.slot.0 < length t.slots
slot_there t target signal payload prio f = slice_get_within t.slots target.slot.0 f.target_fits.slot.slot f.target_fits.slot.slot_is
