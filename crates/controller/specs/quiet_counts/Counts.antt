-- Counts of entries.
use Rattle.std.specs.Prelude.{ℕ, ◌+◌, ◌==◌, ◌||◌, not, Bool, false, List, length}
use Rattle.std.specs.List.{sum_by, count_by, list_any}
use Rattle.journal.specs.declared.entry.Entry.{Entry}
use Rattle.journal.specs.declared.entry.Entry.TheVariants as entry
use Rattle.controller_mail.specs.MailState.{EnvironmentState, has_messages}
use Rattle.controller.specs.Calls.{is_post, is_fetch}
use Rattle.controller.specs.View.{Controller}
use Rattle.controller.specs.declared.quiet_counts.counted.Counted.{Counted}
use Rattle.controller.specs.declared.quiet_counts.counted.Counted.TheVariants.{Posts, PostsTo, Fetches}

-- an entry posts to this controller
abbrev pub is_post_to : ℕ → Entry → Bool
is_post_to c (entry.Post stamp m) = m.to.0 == c
is_post_to c (entry.Fetch stamp m) = false
is_post_to c (entry.Turn stamp from sent did notes) = false
is_post_to c (entry.Start who state notes) = false

abbrev pub is_counted : Counted → Entry → Bool
is_counted Posts e = is_post e
is_counted (PostsTo c) e = is_post_to c.0 e
is_counted Fetches e = is_fetch e

-- how many entries in the journals of these controllers and of the environment are counted
abbrev pub counted_in_all : Counted → List Controller → EnvironmentState → ℕ
counted_in_all which ks env = count_by (is_counted which) env.journal + sum_by (λ (k : Controller). count_by (is_counted which) k.mail.journal) ks

-- a message waits for a turn of the controller, or to be posted by it
abbrev pub keeps_messages : Controller → Bool
keeps_messages k = list_any has_messages k.mail.pending || not (length k.mail.outbox == 0)
