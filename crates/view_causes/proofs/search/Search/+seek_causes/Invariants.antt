use Rattle.std.proofs.Common.{◌≡◌, ℕ, ◌+◌, ◌-◌, ◌*◌, ◌<◌, ◌≤◌, length}
use Rattle.view_causes.proofs.search.Search.+seek_causes.Given as goal

-- a list is halved so often at most
abbrev pub decreases-seek_causes : goal.decreases-seek_causes
decreases-seek_causes g l = l.halves
