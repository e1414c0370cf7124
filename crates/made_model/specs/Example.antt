-- The texts of a ring of two, written out.
use Rattle.std.specs.Prelude.{◌≡◌, ℕ, List, ◌++◌, codes}
use Rattle.made_model.specs.Texts.{front, model_text, injections_text}

-- the rows of the model
abbrev pub rows_of_two : List ℕ
rows_of_two =
    codes "ActorRef r0: Node\n"
    ++ codes "ActorRef r1: Node\n"
    ++ codes "Binding r0.right and r1.left\n"
    ++ codes "Binding r1.right and r0.left\n"
    ++ codes "ActorInstanceMapping r0 -> t0\n"
    ++ codes "ActorInstanceMapping r1 -> t1\n"

abbrev pub TextsOfTwo : Type 0
TextsOfTwo = (model_text 2 ≡ front ++ rows_of_two ++ codes "}\n}\n") × (injections_text 2 ≡ codes "r0.go kick 7\n" ++ codes "r1.go kick 7\n")
