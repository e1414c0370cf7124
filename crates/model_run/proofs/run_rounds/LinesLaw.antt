-- How the posting of lines goes on, part by part.
use Rattle.std.proofs.Common.{◌≡◌, ℕ, zero, suc, ◌+◌, ◌-◌, ◌<◌, ◌≤◌, ◌⊎◌, inl, inr, true, false, List, [], ◌∷◌, ◌++◌, length, map, slice_get, nat_le, Some, refl, sym, ap, ◌∙◌, subst, arith, append_assoc, append-nil, length-append}
use Rattle.std.specs.Option.{option_map_or}
use Rattle.std.proofs.lemmas.Bool.{eq-eqb, ne_eqb, cases_lt}
use Rattle.std.proofs.lemmas.Bool.Decides.{nat_tests}
use Rattle.std.proofs.lemmas.Option.{slice_get_within}
use Rattle.room_kinds.specs.declared.message.Msg.{Msg}
use Rattle.journal.specs.declared.entry.Entry.{Entry}
use Rattle.mail_core.proofs.TieAll.{at_seam}
use Rattle.actor_merge.specs.Parties.{Plant, Line, Environment, EnvironmentReplays, part_of, part_before, begins}
use Rattle.actor_merge.specs.World.{World, IsQuiet, caught_up, latest_of}
use Rattle.actor_merge.specs.Merge.{EnvironmentGoes}
use Rattle.actor_merge.proofs.Steps.{caught_up-same}
use Rattle.actor_world.specs.Journals.{Item, Message, Settle, lines_from, lines_of, unposted_from, number_of, last_part}
use Rattle.model_run.specs.run_rounds.LineParts.{CutAt, EndsPart, PostsPart}

pub cut_start : (items : List Item) → CutAt items items 0 1
cut_start items = record { front = []; count = refl; lines = refl; unposted = λ more. refl }

-- one message further
pub cut_message : (items rest : List Item) (posted q number : ℕ) (m : Msg) → CutAt items (Message number m ∷ rest) posted q → CutAt items rest (posted + 1) q
cut_message items rest posted q number m c =
    let line : Line = record { part = q; message = m } in
    record {
      front = c.front ++ line ∷ [];
      count = length-append c.front (line ∷ []) ∙ omega (arith, c.count);
      lines = c.lines ∙ sym (append_assoc c.front (line ∷ []) (lines_from q rest));
      unposted = c.unposted;
    }

two_more : (more : ℕ) (number : ℕ) (rest : List Item) → unposted_from (1 + (more + 1)) (Settle number ∷ rest) ≡ unposted_from (1 + more) rest
two_more more number rest =
    let far : (1 + (more + 1)) - 1 ≡ 1 + more = omega arith in
    let no : nat_le (1 + (more + 1)) 1 ≡ false = grind (arith, nat_tests) in
    rw no (ap (λ (z : ℕ). unposted_from z rest) far)

-- one `settle` further
pub cut_settle : (items rest : List Item) (posted q number : ℕ) → CutAt items (Settle number ∷ rest) posted q → CutAt items rest posted (q + 1)
cut_settle items rest posted q number c = record {
  front = c.front;
  count = c.count;
  lines = c.lines;
  unposted = λ more.
      let same : (q + 1) + more ≡ q + (more + 1) = omega arith in
      ap (λ (z : ℕ). unposted_from z items) same ∙ c.unposted (more + 1) ∙ two_more more number rest;
}

-- the line that is posted next
pub line_at : (items rest : List Item) (posted q number : ℕ) (m : Msg) → CutAt items (Message number m ∷ rest) posted q
    → slice_get (lines_of items) posted ≡ Some (record { part = q; message = m })
line_at items rest posted q number m c =
    let line : Line = record { part = q; message = m } in
    subst (λ (z : ℕ). slice_get (lines_of items) z ≡ Some line) c.count
    (ap (λ (z : List Line). slice_get z (length c.front)) c.lines ∙ at_seam c.front line (lines_from q rest))

-- all lines were posted
pub all_posted : (items : List Item) (posted q : ℕ) → CutAt items [] posted q → posted ≡ length (lines_of items)
all_posted items posted q c = sym c.count ∙ ap (λ (z : List Line). length z) (sym (append-nil c.front) ∙ sym c.lines)

behind : (front back : List Line) (line : ℕ) (l : Line) → slice_get (front ++ back) line ≡ Some l → length front ≤ line → (j : ℕ) × (slice_get back j ≡ Some l)
behind [] back line l h b = (line, h)
behind (x ∷ front) back zero l h b = absurd (omega arith)
behind (x ∷ front) back (suc k) l h b = behind front back k l h (omega arith)

part_of_some : (x l : Line) → Some x ≡ Some l → x.part ≡ l.part
part_of_some x l h = ap (λ o. option_map_or (λ (z : Line). z.part) o 0) h

parts_from : (q : ℕ) (items : List Item) (k : ℕ) (l : Line) → slice_get (lines_from q items) k ≡ Some l → q ≤ l.part
parts_from q [] k l h = absurd (omega (arith, slice_get_within [] k l h))
parts_from q (Message number m ∷ items) zero l h = omega (arith, part_of_some (record { part = q; message = m }) l h)
parts_from q (Message number m ∷ items) (suc k) l h = parts_from q items k l h
parts_from q (Settle number ∷ items) k l h = omega (arith, parts_from (q + 1) items k l h)

-- at the end of a part all lines of the parts so far were posted
pub part_posted : (items rest : List Item) (posted q : ℕ) → CutAt items rest posted q → EndsPart rest → (line : ℕ) (l : Line) → slice_get (lines_of items) line ≡ Some l → l.part ≤ q → line < posted
part_posted items [] posted q c ends line l h low =
    let within : line < length (lines_of items) = slice_get_within (lines_of items) line l h in
    omega (arith, all_posted items posted q c)
part_posted items (Message number m ∷ rest) posted q c ends line l h low = absurd ends
part_posted items (Settle number ∷ rest) posted q c ends line l h low = elim (cases_lt line posted) [
  | inl below ↦ below
  | inr past ↦
      let at = behind c.front (lines_from (q + 1) rest) line l (subst (λ (z : List Line). slice_get z line ≡ Some l) c.lines h) (omega (arith, c.count)) in
      absurd (omega (arith, parts_from (q + 1) rest at.0 l at.1))
]

-- and the rest is unposted
pub rest_unposted : (items rest : List Item) (posted q : ℕ) → CutAt items rest posted q → EndsPart rest → unposted_from q items ≡ map number_of rest
rest_unposted items rest posted q c ends =
    let same : q ≡ q + 0 = omega arith in
    ap (λ (z : ℕ). unposted_from z items) same ∙ c.unposted 0 ∙ first rest ends
  where
    first : (r : List Item) → EndsPart r → unposted_from 1 r ≡ map number_of r
    first [] e = refl
    first (Message number m ∷ r) e = absurd e
    first (Settle number ∷ r) e = refl

module _ {B : Type 0} (plant : Plant B) where
  pub part_before-last : (line : ℕ) → part_before plant line ≡ last_part plant.lines line
  part_before-last zero = refl
  part_before-last (suc line) = refl

  pub begins-same : (line q : ℕ) → part_of plant line ≡ q → part_before plant line ≡ q → begins plant line ≡ false
  unfolding begins
  begins-same line q h k = rw (eq-eqb (part_of plant line) (part_before plant line) (h ∙ sym k)) refl

  pub begins-later : (line q : ℕ) → part_of plant line ≡ q → part_before plant line < q → begins plant line ≡ true
  unfolding begins
  begins-later line q h k = rw (ne_eqb (part_of plant line) (part_before plant line) (λ e. absurd (omega (arith, h, k, e)))) refl

  pub caught_up-later : (w : World B) → begins plant w.environment.posted ≡ true → caught_up plant w ≡ record w.environment { clock = latest_of plant w }
  unfolding caught_up
  caught_up-later w h = rw h refl

  pub posts_nothing : (v : Environment) (q : ℕ) → PostsPart plant v v [] q
  posts_nothing v q = record { replays = refl; count = omega arith; same_part = λ line a b. absurd (omega arith) }

  pub posts_more : (old mid new : Environment) (es : List Entry) (e : Entry) (q : ℕ) → PostsPart plant old mid es q → EnvironmentReplays plant old (es ++ e ∷ []) new
      → new.posted ≡ mid.posted + 1 → part_of plant mid.posted ≡ q → PostsPart plant old new (es ++ e ∷ []) q
  posts_more old mid new es e q p replays next here = record {
    replays = replays;
    count = omega (arith, length-append es (e ∷ []), next, p.count);
    same_part = λ line a b. elim (cases_lt line (old.posted + length es)) [
      | inl below ↦ p.same_part line a below
      | inr past ↦
          let at : mid.posted ≡ line = omega (arith, length-append es (e ∷ []), p.count) in
          subst (λ (z : ℕ). part_of plant z ≡ q) at here
    ];
  }

  -- what is posted at once is of one part
  pub posts_one_part : (old new : Environment) (es : List Entry) (q : ℕ) → PostsPart plant old new es q → (line : ℕ) → old.posted < line → line < old.posted + length es → begins plant line ≡ false
  posts_one_part old new es q p zero a b = absurd (omega arith)
  posts_one_part old new es q p (suc line) a b = begins-same (suc line) q (p.same_part (suc line) (omega arith) b) (p.same_part line (omega arith) (omega arith))

  -- the part of the last line
  pub last_after : (old new : Environment) (es : List Entry) (q : ℕ) → PostsPart plant old new es q → 0 < length es → last_part plant.lines new.posted ≡ q
  last_after old new es q p some = at new.posted refl
    where
      at : (n : ℕ) → n ≡ new.posted → last_part plant.lines n ≡ q
      at zero e = absurd (omega (arith, p.count))
      at (suc line) e = p.same_part line (omega (arith, p.count)) (omega (arith, p.count))

  module _ (w : World B) (end : Environment) (q : ℕ) where
    first_of_them : (old : Environment) (e : Entry) (es : List Entry) → PostsPart plant old end (e ∷ es) q → part_of plant old.posted ≡ q
    first_of_them old e es p = p.same_part old.posted (omega arith) (omega arith)

    -- lines of the part that goes on
    pub goes_on : (es : List Entry) → PostsPart plant w.environment end es q → last_part plant.lines w.environment.posted ≡ q → EnvironmentGoes plant w es end
    goes_on [] p last = p.replays
    goes_on (e ∷ es) p last =
        let same = begins-same w.environment.posted q (first_of_them w.environment e es p) (part_before-last w.environment.posted ∙ last) in
        subst (λ (z : Environment). EnvironmentReplays plant z (e ∷ es) end) (sym (caught_up-same plant w same)) p.replays

    pub goes_on_quiet : (es : List Entry) → PostsPart plant w.environment end es q → last_part plant.lines w.environment.posted ≡ q
        → begins plant w.environment.posted ≡ true → (es ≡ []) ⊎ IsQuiet plant w
    goes_on_quiet [] p last b = inl refl
    goes_on_quiet (e ∷ es) p last b =
        let same = begins-same w.environment.posted q (first_of_them w.environment e es p) (part_before-last w.environment.posted ∙ last) in
        absurd cc

    -- lines of a later part
    pub goes_later : (es : List Entry) → PostsPart plant (record w.environment { clock = latest_of plant w }) end es q → 0 < length es
        → last_part plant.lines w.environment.posted < q → EnvironmentGoes plant w es end
    goes_later [] p some last = absurd (omega arith)
    goes_later (e ∷ es) p some last =
        let later = begins-later w.environment.posted q (first_of_them (record w.environment { clock = latest_of plant w }) e es p)
        (let low : part_before plant w.environment.posted < q = omega (arith, part_before-last w.environment.posted, last) in low) in
        subst (λ (z : Environment). EnvironmentReplays plant z (e ∷ es) end) (sym (caught_up-later w later)) p.replays
