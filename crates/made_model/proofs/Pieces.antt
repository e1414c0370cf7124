-- Lines in one piece.
use Rattle.std.proofs.Common.{◌≡◌, ℕ, List, [], ◌∷◌, append_assoc}
use Rattle.std.specs.Prelude.{codes}
use Rattle.room_outside.specs.line_text.Lines.{line}
use Rattle.made_model.specs.Summaries.{lines_of}

-- the lines of a summary
pub in_one_piece : (actors posts fetches handled unhandled end : List ℕ)
    → line (codes "made " ∷ actors ∷ codes "\ncontrollers 4\nslots " ∷ actors ∷ codes "\nposts " ∷ posts ∷ codes "\nfetches " ∷ fetches ∷ codes "\nhandled " ∷ handled ∷ codes "\nunhandled " ∷ unhandled ∷ codes "\n" ∷ end ∷ [])
    ≡ lines_of actors posts fetches handled unhandled end
in_one_piece actors posts fetches handled unhandled end = simp append_assoc
