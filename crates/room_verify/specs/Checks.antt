-- What is checked of journals besides their entries.
use Rattle.std.specs.Prelude.{◌≡◌, ℕ, ◌<◌, nat_lt, Bool, true, false, List, [], ◌∷◌, ◌++◌, Option, Some, None}
use Rattle.std.specs.List.{AllByRecursion}
use Rattle.room_kinds.specs.declared.numbers.ControllerId.{ControllerId}
use Rattle.journal.specs.declared.entry.Entry.{Entry}
use Rattle.journal.specs.declared.entry.Journals.{Journals}
use Rattle.inject_reader.specs.declared.inject_lines.accepted.Line.{Line}
use Rattle.law_merges.specs.Merges.{Rise}
use Rattle.law_runs.specs.Stamps.{is_event}
use Rattle.model_run.specs.part_source.Parts.{is_message}
use Rattle.room_verify.specs.Steps.{happened}

-- the lowest of so many numbers for which this doesn't hold, or none, where it holds for each
abbrev pub LowestWithout : (ℕ → Type 0) → ℕ → Option ControllerId → Type 0
LowestWithout P count None = (k : ℕ) → k < count → P k
LowestWithout P count (Some c) = (c.0 < count) × (P c.0 → ⊥) × ((lower : ℕ) → lower < c.0 → P lower)

-- whether a stamp is later than the last one, if there is any
abbrev pub is_later : Option ℕ → ℕ → Bool
is_later None stamp = true
is_later (Some before) stamp = nat_lt before stamp

-- what happened to a party is stamped in order
abbrev pub IsInOrder : Journals → ℕ → Type 0
IsInOrder j party = Rise (happened j party)

-- entries begin with these, and behind them no start stands
pub record BeginsWithStarts (starts journal : List Entry) : Type 0 where
  pub after : List Entry
  pub is : journal ≡ starts ++ after
  pub only : AllByRecursion (λ (e : Entry). is_event e ≡ true) after

-- the first of these lines asks for no message, or there is none
abbrev pub EndsHere : List Line → Type 0
EndsHere [] = Unit {0}
EndsHere (l ∷ lines) = is_message l.what ≡ false
