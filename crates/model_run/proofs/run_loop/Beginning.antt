-- How the first round of a part begins.
use Rattle.std.proofs.Common.{◌≡◌, ℕ, ◌+◌, ◌<◌, Bool, true, false, if◌then◌else◌, List, ◌++◌, length, ap, ◌∙◌, arith}
use Rattle.std.proofs.lemmas.List.{length-append}
use Rattle.journal.specs.declared.entry.Entry.{Entry}
use Rattle.inject_reader.specs.declared.inject_lines.accepted.Line.{Line}
use Rattle.model_run.specs.declared.run_loop.state.Run.{Run}
use Rattle.model_run.specs.run_loop.Runs.{StaysAtPart, BeginsPart, RoundBegins}
use Rattle.model_run.specs.run_loop.Runs.RoundBegins.{part_begins}

-- lines were posted, with an entry for each
pub more_entries : (old new entries : List Entry) (lines given : List Line) → new ≡ old ++ entries → length entries ≡ length lines → lines ≡ given → length new ≡ length old + length given
more_entries old new entries lines given is count same = omega (arith, ap (λ (z : List Entry). length z) is, length-append old entries, count, ap (λ (z : List Line). length z) same)

abbrev unposted : Bool → ℕ
unposted b = if b then 0 else 1

-- the first part
pub first_part : (fuel : ℕ) (lines : List Line) (old new : Run) → old.in_part ≡ false → BeginsPart lines old new → RoundBegins fuel old new
first_part fuel lines old new before b =
    let one : (if old.in_part then 0 else 1) ≡ 1 = ap unposted before in
    let none : (if new.in_part then 0 else 1) ≡ 0 = ap unposted b.in_part in
    part_begins b.controllers (omega (arith, one, none, b.posted, b.counted))

-- a later one, which has lines
pub later_part : (fuel : ℕ) (lines : List Line) (old mid new : Run) → old.in_part ≡ true → StaysAtPart old mid → 0 < length lines → BeginsPart lines mid new → RoundBegins fuel old new
later_part fuel lines old mid new within s some b =
    let before : (if old.in_part then 0 else 1) ≡ 0 = ap unposted within in
    let none : (if new.in_part then 0 else 1) ≡ 0 = ap unposted b.in_part in
    let same : length mid.environment.journal ≡ length old.environment.journal = ap (λ (z : List Entry). length z) s.journal in
    part_begins (b.controllers ∙ s.controllers) (omega (arith, before, none, same, b.posted, b.counted, some))
