-- The text of journals has at least a byte for each event that it tells.
use Rattle.std.proofs.Common.{◌≡◌, ℕ, zero, suc, ◌+◌, ◌<◌, ◌≤◌, ◌==◌, Bool, true, false, if◌then◌else◌, List, [], ◌∷◌, ◌++◌, length, slice_index_or, refl, length-append, arith, eq-eqb, ◌⊎◌, inl, inr}
use Rattle.std.specs.Prelude.{codes, decimal}
use Rattle.std.specs.List.{AllByRecursion as Each, concat, flat_map}
use Rattle.std.proofs.lemmas.Bool.{cases_eq}
use Rattle.room_kinds.specs.declared.message.Msg.{Msg}
use Rattle.room_kinds.specs.declared.note.Note.{Note}
use Rattle.room_kinds.specs.declared.numbers.ControllerId.{ControllerId}
use Rattle.room_kinds.specs.declared.numbers.Stamp.{Stamp}
use Rattle.room_wiring.specs.declared.tables.Tables.{Tables}
use Rattle.room_outside.specs.line_text.Lines.{line}
use Rattle.journal.specs.declared.entry.Did.{Did}
use Rattle.journal.specs.declared.entry.Entry.{Entry}
use Rattle.journal.specs.declared.entry.Entry.TheVariants as entry
use Rattle.journal.specs.declared.entry.Journals.{Journals}
use Rattle.journal.specs.Names.{party_text}
use Rattle.journal.specs.Lines.{message_parts, did_parts, turn_parts, turn_line, fetch_line, post_line, note_lines, is_duty, speaker_of, entry_text}
use Rattle.journal.specs.Text.{title_of, journal_text}
use Rattle.tied_journals.specs.Text.{sent_parts, fetches_end, tied_fetch_text, tied_entries_text, tied_journal_text, tied_controller_text, tied_controllers_text, below_text, rest_text, tied_text_of}
use Rattle.actor_merge.specs.World.{Placed}
use Rattle.actor_merge.specs.Merge.{entries_of}
use Rattle.law_runs.proofs.run_texts.Rows.{told}

-- ---- texts

line_some : (parts : List (List ℕ)) → 1 ≤ length (line parts)
line_some parts = omega (arith, length-append (concat parts) (10 ∷ []))

front_some : (a b : List ℕ) → 1 ≤ length a → 1 ≤ length (a ++ b)
front_some a b h = omega (arith, h, length-append a b)

back_some : (a b : List ℕ) → 1 ≤ length b → 1 ≤ length (a ++ b)
back_some a b h = omega (arith, h, length-append a b)

behind : (a b : List ℕ) (k : ℕ) → k ≤ length b → k ≤ length (a ++ b)
behind a b k h = omega (arith, h, length-append a b)

one_more : (a b : List ℕ) (k : ℕ) → 1 ≤ length a → k ≤ length b → suc k ≤ length (a ++ b)
one_more a b k some h = omega (arith, some, h, length-append a b)

-- what the journals of controllers tell
abbrev pub told_by_all : Tables → List (List Entry) → ℕ
told_by_all t [] = 0
told_by_all t (es ∷ ess) = length (told t es) + told_by_all t ess

module _ (t : Tables) where
  fetch_some : (begun : Bool) (stamp : ℕ) (m : Msg) → 1 ≤ length (tied_fetch_text t begun stamp m)
  fetch_some true stamp m = omega arith
  fetch_some false stamp m = back_some (decimal stamp) (codes " fetch" ++ concat (sent_parts t m)) (omega arith)

  fetch_line_some : (stamp : ℕ) (m : Msg) → 1 ≤ length (fetch_line t stamp m)
  fetch_line_some stamp m = line_some (decimal stamp ∷ codes " fetch " ∷ party_text t m.from.0 ∷ codes "@" ∷ decimal m.stamp.0 ∷ codes " " ∷ message_parts t m)

  post_some : (stamp : ℕ) (m : Msg) → 1 ≤ length (post_line t stamp m)
  post_some stamp m = line_some (decimal stamp ∷ codes " post " ∷ decimal m.to.0 ∷ codes " " ∷ message_parts t m)

  turn_some : (stamp : Stamp) (from : ControllerId) (sent : Stamp) (did : Did) (ns : List Note) → 1 ≤ length (entry_text t (entry.Turn stamp from sent did ns))
  turn_some stamp from sent did ns =
      front_some (turn_line t stamp.0 from.0 sent.0 did) (note_lines t (is_duty did) (speaker_of did) ns)
      (line_some (turn_parts t stamp.0 from.0 sent.0 ++ did_parts t did))

  entries_long : (es : List Entry) (begun : Bool) → length (told t es) ≤ length (tied_entries_text t begun es)
  entries_long [] begun = omega arith
  entries_long (entry.Start who state ns ∷ es) begun =
      behind (fetches_end begun ++ entry_text t (entry.Start who state ns)) (tied_entries_text t false es) (length (told t es)) (entries_long es false)
  entries_long (entry.Fetch stamp m ∷ es) begun =
      one_more (tied_fetch_text t begun stamp.0 m) (tied_entries_text t true es) (length (told t es)) (fetch_some begun stamp.0 m) (entries_long es true)
  entries_long (entry.Turn stamp from sent did ns ∷ es) begun =
      one_more (fetches_end begun ++ entry_text t (entry.Turn stamp from sent did ns)) (tied_entries_text t false es) (length (told t es))
      (back_some (fetches_end begun) (entry_text t (entry.Turn stamp from sent did ns)) (turn_some stamp from sent did ns)) (entries_long es false)
  entries_long (entry.Post stamp m ∷ es) begun =
      one_more (fetches_end begun ++ entry_text t (entry.Post stamp m)) (tied_entries_text t false es) (length (told t es))
      (back_some (fetches_end begun) (entry_text t (entry.Post stamp m)) (post_some stamp.0 m)) (entries_long es false)

  journal_long : (es : List Entry) → length (told t es) ≤ length (journal_text t es)
  unfolding journal_text
  journal_long [] = omega arith
  journal_long (entry.Start who state ns ∷ es) =
      behind (entry_text t (entry.Start who state ns)) (flat_map (entry_text t) es) (length (told t es)) (journal_long es)
  journal_long (entry.Fetch stamp m ∷ es) =
      one_more (entry_text t (entry.Fetch stamp m)) (flat_map (entry_text t) es) (length (told t es)) (fetch_line_some stamp.0 m) (journal_long es)
  journal_long (entry.Turn stamp from sent did ns ∷ es) =
      one_more (entry_text t (entry.Turn stamp from sent did ns)) (flat_map (entry_text t) es) (length (told t es)) (turn_some stamp from sent did ns)
      (journal_long es)
  journal_long (entry.Post stamp m ∷ es) =
      one_more (entry_text t (entry.Post stamp m)) (flat_map (entry_text t) es) (length (told t es)) (post_some stamp.0 m) (journal_long es)

  controllers_long : (ess : List (List Entry)) (c : ℕ) → told_by_all t ess ≤ length (tied_controllers_text t c ess)
  unfolding tied_controller_text tied_journal_text
  controllers_long [] c = omega arith
  controllers_long (es ∷ ess) c =
      let own = behind (title_of t c) (tied_entries_text t false es) (length (told t es)) (entries_long es false) in
      let more = controllers_long ess (suc c) in
      omega (arith, own, more, length-append (title_of t c ++ tied_entries_text t false es) (tied_controllers_text t (suc c) ess))

  -- all that the journals tell
  pub text_long : (j : Journals) → told_by_all t j.controllers + length (told t j.environment) ≤ length (tied_text_of t j)
  unfolding tied_text_of rest_text
  text_long j =
      let inside = controllers_long j.controllers 0 in
      let outside = journal_long j.environment in
      let text : List ℕ = journal_text t j.environment ++ below_text t j in
      let first = length-append (journal_text t j.environment) (below_text t j) in
      let rest = length-append (line (codes "environment" ∷ [])) text in
      let both = length-append (tied_controllers_text t 0 j.controllers) (line (codes "environment" ∷ []) ++ text) in
      let whole = length-append (line (codes "room-journal 2" ∷ [])) (tied_controllers_text t 0 j.controllers ++ (line (codes "environment" ∷ []) ++ text)) in
      omega (arith, inside, outside, first, rest, both, whole)

-- ---- sums

-- the sum over the numbers below this one
abbrev pub sum_below : (ℕ → ℕ) → ℕ → ℕ
sum_below f zero = 0
sum_below f (suc k) = f k + sum_below f k

sum_less : (f g : ℕ → ℕ) (k : ℕ) → ((p : ℕ) → f p ≤ g p) → sum_below f k ≤ sum_below g k
sum_less f g zero h = omega arith
sum_less f g (suc k) h = let here = h k in let more = sum_less f g k h in omega (arith, here, more)

pub sum_less_below : (f g : ℕ → ℕ) (k : ℕ) → ((p : ℕ) → p < k → f p ≤ g p) → sum_below f k ≤ sum_below g k
sum_less_below f g zero h = omega arith
sum_less_below f g (suc k) h =
    let here = h k (omega arith) in
    let more = sum_less_below f g k (λ p below. h p (omega (arith, below))) in omega (arith, here, more)

sum_first : (f : ℕ → ℕ) (k : ℕ) → sum_below f (suc k) ≡ f 0 + sum_below (λ (c : ℕ). f (suc c)) k
sum_first f zero = refl
sum_first f (suc k) = let ih = sum_first f k in omega (arith, ih)

pub told_by_each : (t : Tables) (ess : List (List Entry)) → sum_below (λ (c : ℕ). length (told t (slice_index_or ess c []))) (length ess) ≤ told_by_all t ess
told_by_each t [] = omega arith
told_by_each t (es ∷ ess) =
    let first = sum_first (λ (c : ℕ). length (told t (slice_index_or (es ∷ ess) c []))) (length ess) in
    let more = told_by_each t ess in
    omega (arith, first, more)

-- ---- merges

-- whether all of these are entries of parties below this number
abbrev pub PartiesBelow : ℕ → List Placed → Type 0
PartiesBelow k xs = Each (λ (x : Placed). x.party < k) xs

abbrev entries_many : List Placed → ℕ → ℕ
entries_many xs p = length (entries_of p xs)

no_fewer : (x : Placed) (xs : List Placed) (p : ℕ) → entries_many xs p ≤ entries_many (x ∷ xs) p
no_fewer x xs p = go (p == x.party)
  where
    go : (b : Bool) → length (entries_of p xs) ≤ length (if b then x.entry ∷ entries_of p xs else entries_of p xs)
    go true = omega arith
    go false = omega arith

own_more : (x : Placed) (xs : List Placed) (p : ℕ) → p ≡ x.party → suc (entries_many xs p) ≤ entries_many (x ∷ xs) p
own_more x xs p own = rw (eq-eqb p x.party own) (omega arith)

one_more_entry : (x : Placed) (xs : List Placed) (k : ℕ) → x.party < k → suc (sum_below (entries_many xs) k) ≤ sum_below (entries_many (x ∷ xs)) k
one_more_entry x xs zero below = absurd (omega (arith, below))
one_more_entry x xs (suc k) below = go (cases_eq k x.party) (λ inner. one_more_entry x xs k inner)
  where
    go : (k ≡ x.party) ⊎ (k ≡ x.party → ⊥) → (x.party < k → suc (sum_below (entries_many xs) k) ≤ sum_below (entries_many (x ∷ xs)) k)
        → suc (entries_many xs k + sum_below (entries_many xs) k) ≤ entries_many (x ∷ xs) k + sum_below (entries_many (x ∷ xs)) k
    go (inl own) later =
        let here = own_more x xs k own in
        let more = sum_less (entries_many xs) (entries_many (x ∷ xs)) k (no_fewer x xs) in omega (arith, here, more)
    go (inr other) later =
        let here = no_fewer x xs k in
        let more = later (omega (arith, below, other)) in omega (arith, here, more)

-- the parties of a merge have all its entries
pub all_entries : (xs : List Placed) (k : ℕ) → PartiesBelow k xs → length xs ≤ sum_below (entries_many xs) k
all_entries [] k h = omega arith
all_entries (x ∷ xs) k h =
    let ih = all_entries xs k h.1 in
    let more = one_more_entry x xs k h.0 in omega (arith, ih, more)
