use Rattle.std.proofs.Common.{◌≡◌, ℕ, ◌+◌, ◌-◌, ◌*◌, ◌<◌, ◌≤◌, length}
use Rattle.view_causes.proofs.search.Search.+seek.Given as goal

-- a list is halved so often at most
abbrev pub decreases-seek : goal.decreases-seek
decreases-seek g l = l.halves
