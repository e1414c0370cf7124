-- What a source was asked, seen through what it shows.
use Rattle.model_run.specs.part_source.Calls.{Seen, Asked, never, once_more}

pub asked_map : {S X : Type 0} (f : S → X) (goes_on : X → Seen → X → Type 0) (stood : X → Seen → Type 0) (start now : S) (js : Seen)
    → Asked (λ (old : S) (seen : Seen) (new : S). goes_on (f old) seen (f new)) (λ (s : S) (seen : Seen). stood (f s) seen) start now js
    → Asked goes_on stood (f start) (f now) js
asked_map f goes_on stood start now js (never js') = never js
asked_map f goes_on stood start now js (once_more mid now' before js' a s h g) =
    once_more (f mid) (f now) before js (asked_map f goes_on stood start mid before a) s h g
