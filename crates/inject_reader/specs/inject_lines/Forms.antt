-- The forms of a line.
use Rattle.std.specs.Prelude.{ℕ, List, [], ◌∷◌, ◌&&◌, if◌then◌else◌, Option, Some, None, option_map, option_and_then, codes, ℤ}
use Rattle.name_tables.specs.name_numbers.Names.{same}
use Rattle.room_wiring.specs.WellNamed.{is_ident}
use Rattle.text_reading.specs.Cuts.{cut_at}
use Rattle.text_reading.specs.Numerals.{are_digits, number_in, plain_in}
use Rattle.inject_reader.specs.inject_lines.Texts.{is_path}
use Rattle.inject_reader.specs.inject_lines.Fields.{fields}

-- the path of a slot, the name of a port and the digits of a place; no digits where no place is written
pub record TargetForm : Type 0 where
  pub path : List ℕ
  pub port : List ℕ
  pub place : List ℕ

-- numbers and a priority
pub record LoadForm : Type 0 where
  pub numbers : List ℤ
  pub prio : ℕ

-- a message: its target, its signal, its numbers and its priority
pub record MessageForm : Type 0 where
  pub target : TargetForm
  pub signal : List ℕ
  pub load : LoadForm

-- what a line of a known form says
pub data LineForm : Type 0 where
  Settle : LineForm
  Advance : ℕ → LineForm
  Message : MessageForm → LineForm

-- digits and then `]` at the end
abbrev pub place_at : List ℕ × Option (List ℕ) → Option (List ℕ)
place_at (digits, Some []) = if are_digits digits then Some digits else None
place_at (digits, Some (b ∷ bs)) = None
place_at (digits, None) = None

-- the place in brackets, or none
abbrev pub place_in : Option (List ℕ) → Option (List ℕ)
place_in None = Some []
place_in (Some text) = place_at (cut_at 93 text)

-- `<port>[<place>]` behind a path
abbrev pub target_at : List ℕ → List ℕ × Option (List ℕ) → Option TargetForm
target_at path (port, bracket) = if is_path path && is_ident port then option_map (λ place. record { path = path; port = port; place = place }) (place_in bracket) else None

-- `<path>.<port>[<place>]`; the place may be missing
unfoldable pub target_in : List ℕ → Option TargetForm
target_in text = option_and_then (λ behind. target_at (cut_at 46 text).0 (cut_at 91 behind)) (cut_at 46 text).1

-- the number of a priority
unfoldable pub priority_in : List ℕ → Option ℕ
priority_in word =
    if same word (codes "panic") then Some 1 else
    (if same word (codes "high") then Some 2 else
    (if same word (codes "general") then Some 3 else
    (if same word (codes "low") then Some 4 else
    (if same word (codes "background") then Some 5 else None))))

-- one word alone, a priority
abbrev pub priority_of : List (List ℕ) → Option ℕ
priority_of [] = None
priority_of (word ∷ []) = priority_in word
priority_of (word ∷ other ∷ more) = None

-- numbers at a priority
abbrev pub loaded : List ℤ → ℕ → LoadForm
loaded numbers prio = record { numbers = numbers; prio = prio }

-- one more number in front
abbrev pub with_number : ℤ → LoadForm → LoadForm
with_number z l = record { numbers = z ∷ l.numbers; prio = l.prio }

-- numbers, and then perhaps `at` and a priority; the general one where none is written
abbrev pub load_in : List (List ℕ) → Option LoadForm
load_in [] = Some (loaded [] 3)
load_in (word ∷ words) =
    if same word (codes "at") then option_map (loaded []) (priority_of words) else
    option_and_then (λ z. option_map (with_number z) (load_in words)) (number_in word)

-- a message of these words
abbrev pub message_in : List ℕ → List ℕ → List (List ℕ) → Option LineForm
message_in target signal words =
    if is_ident signal then option_and_then (λ t. option_map (λ l. Message (record { target = t; signal = signal; load = l })) (load_in words)) (target_in target) else None

-- `settle`
abbrev pub settle_in : List ℕ → Option LineForm
settle_in word = if same word (codes "settle") then Some Settle else None

-- a time to move on by, from 1 to 2,147,483,647
abbrev pub time_in : List ℕ → Option ℕ
time_in text = plain_in 2147483647 text

-- a time and nothing behind it
abbrev pub advance_in : List ℕ → List (List ℕ) → Option LineForm
advance_in time [] = option_map Advance (time_in time)
advance_in time (word ∷ words) = None

-- `advance` and what stands behind it, or a message of these words
abbrev pub longer_in : List ℕ → List ℕ → List (List ℕ) → Option LineForm
longer_in first second words = if same first (codes "advance") then advance_in second words else message_in first second words

-- `settle`, `advance <time>`, or `<path>.<port>[<place>] <signal> <numbers> at <prio>`
abbrev pub form_of : List (List ℕ) → Option LineForm
form_of [] = None
form_of (word ∷ []) = settle_in word
form_of (first ∷ second ∷ words) = longer_in first second words

-- the form of a line, if it has one
unfoldable pub form_in : List ℕ → Option LineForm
form_in line = form_of (fields line)
