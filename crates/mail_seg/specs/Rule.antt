-- Of each party: what was taken of its messages and then what the queue holds of them is what it posted. One pass posts for a party, and one pass takes.
use Rattle.std.specs.Prelude.{ℕ, ◌+◌, ◌<◌, ◌≤◌, ◌≡◌, ◌==◌, if◌then◌else◌, true, false, List, [], ◌∷◌, ◌++◌}
use mathlib.Core.Option.{some}
use lib.ListN.{get_elem?}
use Rattle.mail_seg.specs.declared.contents.Contents.{Contents}
use Rattle.mail_seg.specs.declared.rule.Posted.{Posted}
use Rattle.mail_seg.specs.declared.rule.PassView.{PassView}

-- those of one party
abbrev pub of_party : ℕ → List Contents → List Contents
of_party s [] = []
of_party s (x ∷ xs) = if x.from.0 == s then x ∷ of_party s xs else of_party s xs

-- the view of a pass that posts for a party and takes nothing
abbrev pub poster : ℕ → PassView
poster s = record { posts = record { party = s; list = [] } ∷ []; takes = false; next = 0; got = [] }

-- a pass was split off for the next party
abbrev pub past_next : PassView → PassView
past_next v = record v { next = v.next + 1 }

-- the pass posts for the next party
abbrev pub keeping_next : PassView → PassView
keeping_next v = record v { posts = record { party = v.next; list = [] } ∷ v.posts; next = v.next + 1 }

abbrev pub taking_in : PassView → PassView → PassView
taking_in v w = record v { posts = v.posts ++ w.posts }

abbrev pub spent : PassView
spent = record { posts = []; takes = false; next = 0; got = [] }

-- a pass posts for the first party of its list
abbrev pub posted_more : List Posted → Contents → List Posted
posted_more [] x = []
posted_more (p ∷ ps) x = record p { list = p.list ++ x ∷ [] } ∷ ps

abbrev pub pushing : PassView → Contents → PassView
pushing v x = record v { posts = posted_more v.posts x }

abbrev pub popping : PassView → Contents → PassView
popping v x = record v { got = v.got ++ x ∷ [] }

-- this pass posts for these parties, and they are below a number
abbrev pub Owns : (ℕ → ℕ) → (ℕ → List Contents) → ℕ → List Posted → Type 0
Owns writer sent port [] = Unit {0}
Owns writer sent port (p ∷ ps) = (writer p.party ≡ port) × (p.list ≡ sent p.party) × Owns writer sent port ps

abbrev pub AreBelow : ℕ → List Posted → Type 0
AreBelow n [] = Unit {0}
AreBelow n (p ∷ ps) = (p.party < n) × AreBelow n ps

-- a pass that takes has what was taken, and the parties for which no pass was split off yet, which posted nothing
pub record IsReader (reader : ℕ) (writer : ℕ → ℕ) (sent : ℕ → List Contents) (got : List Contents) (port : ℕ) (v : PassView) : Type 0 where
  pub port_is : port ≡ reader
  pub got_is : v.got ≡ got
  pub below : AreBelow v.next v.posts
  pub rest : (s : ℕ) → v.next ≤ s → (writer s ≡ port) × (sent s ≡ [])

abbrev pub Fits : ℕ → (ℕ → ℕ) → (ℕ → List Contents) → List Contents → ℕ → PassView → Type 0
Fits reader writer sent got port v = Owns writer sent port v.posts × (v.takes ≡ true → IsReader reader writer sent got port v)

pub record IsInOrder (items : List Contents) (views : List PassView) : Type 0 where
  pub reader : ℕ
  pub writer : ℕ → ℕ
  pub sent : ℕ → List Contents
  pub got : List Contents
  pub order : (s : ℕ) → of_party s (got ++ items) ≡ sent s
  pub fits : (port : ℕ) (v : PassView) → get_elem? views port ≡ some v → Fits reader writer sent got port v

-- of each party for which the pass posts, all that it posted is taken
abbrev pub TakenOf : List Contents → List Posted → Type 0
TakenOf got [] = Unit {0}
TakenOf got (p ∷ ps) = (of_party p.party got ≡ p.list) × TakenOf got ps

-- a pop gives a message of a party that has a pass
abbrev pub Popped : PassView → Contents → PassView → Type 0
Popped v x w = (w ≡ popping v x) × (x.from.0 < v.next)

-- a pass has taken all: all that was posted by the parties for which it posts, and nothing of those for which no pass
-- was split off
pub record TookAll (v : PassView) : Type 0 where
  pub all : TakenOf v.got v.posts
  pub none : (s : ℕ) → v.next ≤ s → of_party s v.got ≡ []

-- what a pass that takes knows of a queue that holds nothing
abbrev pub AllTaken : PassView → List Contents → Type 0
AllTaken v items = v.takes ≡ true → items ≡ [] → TookAll v
