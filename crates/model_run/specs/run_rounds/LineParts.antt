-- How far the lines of an injection text were posted.
-- `CutAt`: how far the lines were posted, and in which part. `GoneTo`: the same of the items so far,
-- whatever items come after them. `PostsPart`: entries of the environment post lines of one part.
use Rattle.std.specs.Prelude.{◌≡◌, ℕ, ◌+◌, ◌<◌, ◌≤◌, List, [], ◌∷◌, ◌++◌, length}
use Rattle.journal.specs.declared.entry.Entry.{Entry}
use Rattle.actor_merge.specs.Parties.{Plant, Line, Environment, EnvironmentReplays, part_of}
use Rattle.actor_world.specs.Journals.{Item, Message, Settle, lines_from, lines_of, unposted_from}

-- before these items, the first of which is in part q, so many lines stand in the text
pub record CutAt (items rest : List Item) (posted q : ℕ) : Type 0 where
  pub front : List Line
  pub count : length front ≡ posted
  pub lines : lines_of items ≡ front ++ lines_from q rest
  pub unposted : (more : ℕ) → unposted_from (q + more) items ≡ unposted_from (1 + more) rest

-- of these items so many lines were posted, and what comes after them, whatever it is, begins in part q
abbrev pub GoneTo : List Item → ℕ → ℕ → Type 0
GoneTo gone posted q = (rest : List Item) → CutAt (gone ++ rest) rest posted q

-- the items begin with the end of a part, or there are none
abbrev pub EndsPart : List Item → Type 0
EndsPart [] = Unit {0}
EndsPart (Message number m ∷ items) = ⊥
EndsPart (Settle number ∷ items) = Unit {0}

-- these entries of the environment post its next lines, all of part q
pub record PostsPart {B : Type 0} (plant : Plant B) (old new : Environment) (es : List Entry) (q : ℕ) : Type 0 where
  pub replays : EnvironmentReplays plant old es new
  pub count : new.posted ≡ old.posted + length es
  pub same_part : (line : ℕ) → old.posted ≤ line → line < old.posted + length es → part_of plant line ≡ q
