-- The summary of a run of the made model.
use Rattle.std.specs.Prelude.{ℕ, List, [], ◌∷◌, ◌++◌, Bool, if◌then◌else◌, codes, decimal}
use Rattle.room_outside.specs.line_text.Lines.{line}
use Rattle.journal.specs.declared.entry.Journals.{Journals}
use Rattle.made_model.specs.Counts.{counts_of}
use Rattle.made_model.specs.declared.summary.Summary.{Summary}

-- what is told of the journals of a run of so many actors
abbrev pub summary_of : ℕ → Journals → Summary
summary_of actors journals = record { actors = actors; counts = counts_of journals; done = journals.done }

-- how a run ended
abbrev pub end_word : Bool → List ℕ
end_word done = if done then codes "done" else codes "spent"

-- eight lines: how many actors were made, the four controllers, the slots, one for each actor, and then these texts
abbrev pub lines_of : List ℕ → List ℕ → List ℕ → List ℕ → List ℕ → List ℕ → List ℕ
lines_of actors posts fetches handled unhandled end =
    line (codes "made " ∷ actors ∷ [])
    ++ (line (codes "controllers 4" ∷ [])
    ++ (line (codes "slots " ∷ actors ∷ [])
    ++ (line (codes "posts " ∷ posts ∷ [])
    ++ (line (codes "fetches " ∷ fetches ∷ [])
    ++ (line (codes "handled " ∷ handled ∷ [])
    ++ (line (codes "unhandled " ∷ unhandled ∷ [])
    ++ line (end ∷ [])))))))

-- what a summary tells: numbers in decimal digits, the posts of the environment with the others, and how the run ended
unfoldable pub summary_text : Summary → List ℕ
summary_text s = lines_of (decimal s.actors) (decimal s.counts.posts) (decimal s.counts.fetches) (decimal s.counts.handled) (decimal s.counts.unhandled) (end_word s.done)
