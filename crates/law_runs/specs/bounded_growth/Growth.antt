-- How far the numbers of a name table have come.
use Rattle.std.specs.Prelude.{ℕ, ◌+◌, ◌≤◌, Bool, not, is_some, filter, List, [], ◌∷◌, length, Option, Some, None}
use Rattle.actor_duties.specs.State.{User, Provider, Service, NameTable}

-- whether a user is not linked
abbrev pub is_waiting : User → Bool
is_waiting u = not (is_some u.linked)

-- how many users are not linked
abbrev pub waiting_count : List User → ℕ
waiting_count users = length (filter is_waiting users)

-- a provider's next place, with one for each user that waits, is at most so far
abbrev pub HasCome : ℕ → Option Provider → List User → Type 0
HasCome most None users = Unit {0}
HasCome most (Some p) users = p.next + waiting_count users ≤ most

-- a service after n registrations, where a provider has at most b static places
abbrev pub IsGrown : ℕ → ℕ → Service → Type 0
IsGrown b n s = (length s.users ≤ n) × HasCome (b + n) s.provider s.users

-- a name table after n registrations
abbrev pub AreGrown : ℕ → ℕ → NameTable → Type 0
AreGrown b n [] = Unit {0}
AreGrown b n (s ∷ table) = IsGrown b n s × AreGrown b n table
