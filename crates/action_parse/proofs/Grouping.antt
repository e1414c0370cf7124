-- Operands with operators between them are an expression's tokens.
use Rattle.std.proofs.Common.{◌≡◌, ℕ, ◌<◌, List, [], ◌∷◌, ◌++◌, refl, sym, ap, ◌∙◌, append_assoc, append-nil, arith, inl, inr}
use Rattle.std.proofs.lemmas.Bool.{cases_lt}
use Rattle.room_ast.specs.Tokens.{each}
use Rattle.room_tokens.specs.action_tokens.Values.{Value, AMark}
use Rattle.action_program.specs.Named.{ExprTree, a_number, the_true, the_false, a_datum, the_place, the_self, an_attribute, a_paren, a_unary, a_chain, Steps, no_step, a_step}
use Rattle.action_program.specs.declared.operator.BinaryOp.{BinaryOp}
use Rattle.action_program.specs.declared.operator.BinaryOp.TheVariants as binary
use Rattle.action_parse.specs.action_reading.Tokens.{operator_mark, expr_tokens, steps_tokens}
use Rattle.action_parse.specs.action_reading.Written.{below, HasStep, AtLevel, StepsAt}
use Rattle.action_parse.proofs.action_reading.ExprSound.{higher}

-- an operator and its right side
abbrev pub step_text : BinaryOp → ExprTree → List Value
step_text op r = AMark (operator_mark op) ∷ expr_tokens r

-- an expression of a level with these tokens
abbrev pub Grouped : ℕ → List Value → Type 0
Grouped k text = (e : ExprTree) × AtLevel e k × (expr_tokens e ≡ text)

-- what an operator is added to, if it stands below the operator's level
on_top : (e : ExprTree) (k : ℕ) (op : BinaryOp) (r : ExprTree) → AtLevel e (below op) → below op < k → AtLevel r 0 → Grouped k (expr_tokens e ++ step_text op r)
on_top e k op r at lt right =
    (a_chain e (a_step op r no_step), (below op, lt, tt, at, (refl, higher r 0 (below op) (omega arith) right, tt)), ap (λ us. expr_tokens e ++ (AMark (operator_mark op) ∷ us)) (append-nil (expr_tokens r)))

-- one step more
more_steps : (steps : Steps) (op : BinaryOp) (r : ExprTree) → Steps
more_steps no_step op r = a_step op r no_step
more_steps (a_step o x steps) op r = a_step o x (more_steps steps op r)

more_has : (steps : Steps) (op : BinaryOp) (r : ExprTree) → HasStep (more_steps steps op r)
unfolding more_steps
more_has no_step op r = tt
more_has (a_step o x steps) op r = tt

more_at : (steps : Steps) (j : ℕ) (op : BinaryOp) (r : ExprTree) → StepsAt steps j → below op ≡ j → AtLevel r 0 → StepsAt (more_steps steps op r) j
unfolding more_steps
more_at no_step j op r at own right = (own, higher r 0 j (omega arith) right, tt)
more_at (a_step o x steps) j op r at own right = (at.0, at.1, more_at steps j op r at.2 own right)

more_text : (steps : Steps) (op : BinaryOp) (r : ExprTree) → steps_tokens (more_steps steps op r) ≡ steps_tokens steps ++ step_text op r
unfolding more_steps
more_text no_step op r = ap (λ us. AMark (operator_mark op) ∷ us) (append-nil (expr_tokens r))
more_text (a_step o x steps) op r = ap (λ us. AMark (operator_mark o) ∷ us) (ap (λ us. expr_tokens x ++ us) (more_text steps op r) ∙ sym (append_assoc (expr_tokens x) (steps_tokens steps) (step_text op r)))

abbrev GroupedSteps : ℕ → List Value → Type 0
GroupedSteps j text = (steps : Steps) × HasStep steps × StepsAt steps j × (steps_tokens steps ≡ text)

add_same : (e : ExprTree) (steps : Steps) (j k : ℕ) (op : BinaryOp) (r : ExprTree) → j < k → AtLevel e j → StepsAt steps j → below op ≡ j → AtLevel r 0 → Grouped k ((expr_tokens e ++ steps_tokens steps) ++ step_text op r)
add_same e steps j k op r lt at_e at_steps own right =
    (a_chain e (more_steps steps op r), (j, lt, more_has steps op r, at_e, more_at steps j op r at_steps own right), ap (λ us. expr_tokens e ++ us) (more_text steps op r) ∙ sym (append_assoc (expr_tokens e) (steps_tokens steps) (step_text op r)))

add_last : (e : ExprTree) (steps : Steps) (j k : ℕ) (op : BinaryOp) (r : ExprTree) → j < k → AtLevel e j → GroupedSteps j (steps_tokens steps ++ step_text op r) → Grouped k ((expr_tokens e ++ steps_tokens steps) ++ step_text op r)
add_last e steps j k op r lt at_e g =
    (a_chain e g.0, (j, lt, g.1, at_e, g.2), ap (λ us. expr_tokens e ++ us) g.3 ∙ sym (append_assoc (expr_tokens e) (steps_tokens steps) (step_text op r)))

last_here : (o : BinaryOp) (x : ExprTree) (j : ℕ) (op : BinaryOp) (r : ExprTree) → below o ≡ j → Grouped j (expr_tokens x ++ step_text op r) → GroupedSteps j ((AMark (operator_mark o) ∷ (expr_tokens x ++ [])) ++ step_text op r)
last_here o x j op r own g =
    (a_step o g.0 no_step, tt, (own, g.1, tt), ap (λ us. AMark (operator_mark o) ∷ us) (append-nil (expr_tokens g.0) ∙ g.2 ∙ ap (λ us. us ++ step_text op r) (sym (append-nil (expr_tokens x)))))

last_there : (o : BinaryOp) (x : ExprTree) (steps : Steps) (j : ℕ) (op : BinaryOp) (r : ExprTree) → below o ≡ j → AtLevel x j → GroupedSteps j (steps_tokens steps ++ step_text op r) → GroupedSteps j ((AMark (operator_mark o) ∷ (expr_tokens x ++ steps_tokens steps)) ++ step_text op r)
last_there o x steps j op r own at g =
    (a_step o x g.0, tt, (own, at, g.2), ap (λ us. AMark (operator_mark o) ∷ us) (ap (λ us. expr_tokens x ++ us) g.3 ∙ sym (append_assoc (expr_tokens x) (steps_tokens steps) (step_text op r))))

-- an operator and its right side more
mutual
  pub adds : (e : ExprTree) (k : ℕ) (op : BinaryOp) (r : ExprTree) → AtLevel e k → below op < k → AtLevel r 0 → Grouped k (expr_tokens e ++ step_text op r)
  adds (a_number n) k op r at lt right = on_top (a_number n) k op r tt lt right
  adds the_true k op r at lt right = on_top the_true k op r tt lt right
  adds the_false k op r at lt right = on_top the_false k op r tt lt right
  adds (a_datum n) k op r at lt right = on_top (a_datum n) k op r at lt right
  adds the_place k op r at lt right = on_top the_place k op r tt lt right
  adds the_self k op r at lt right = on_top the_self k op r tt lt right
  adds (an_attribute path) k op r at lt right = on_top (an_attribute path) k op r at lt right
  adds (a_paren e) k op r at lt right = on_top (a_paren e) k op r at lt right
  adds (a_unary o e) k op r at lt right = on_top (a_unary o e) k op r at lt right
  adds (a_chain e steps) k op r at lt right =
      elim (cases_lt at.0 (below op)) [
        | inl lower ↦ on_top (a_chain e steps) k op r (at.0, lower, at.2, at.3, at.4) lt right
        | inr ge ↦ elim (cases_lt (below op) at.0) [
          | inl inner ↦ add_last e steps at.0 k op r at.1 at.3 (adds_steps steps at.0 op r at.2 at.4 inner right)
          | inr le ↦ add_same e steps at.0 k op r at.1 at.3 at.4 (omega (arith, ge, le)) right
        ]
      ]

  adds_steps : (steps : Steps) (j : ℕ) (op : BinaryOp) (r : ExprTree) → HasStep steps → StepsAt steps j → below op < j → AtLevel r 0 → GroupedSteps j (steps_tokens steps ++ step_text op r)
  adds_steps no_step j op r has at lt right = absurd has
  adds_steps (a_step o x no_step) j op r has at lt right = last_here o x j op r at.0 (adds x j op r at.1 lt right)
  adds_steps (a_step o x (a_step p y steps)) j op r has at lt right = last_there o x (a_step p y steps) j op r at.0 at.1 (adds_steps (a_step p y steps) j op r tt at.2 lt right)

below_five : (op : BinaryOp) → below op < 5
below_five binary.Or = omega arith
below_five binary.And = omega arith
below_five binary.Equal = omega arith
below_five binary.NotEqual = omega arith
below_five binary.Less = omega arith
below_five binary.LessEqual = omega arith
below_five binary.Greater = omega arith
below_five binary.GreaterEqual = omega arith
below_five binary.Add = omega arith
below_five binary.Subtract = omega arith
below_five binary.Multiply = omega arith
below_five binary.Divide = omega arith
below_five binary.Remainder = omega arith

abbrev pub Operands : List (BinaryOp × ExprTree) → Type 0
Operands [] = Unit {0}
Operands (s ∷ ss) = AtLevel s.1 0 × Operands ss

abbrev pub pair_text : BinaryOp × ExprTree → List Value
pair_text s = step_text s.0 s.1

-- all of them
pub groups : (ss : List (BinaryOp × ExprTree)) (e : ExprTree) → AtLevel e 5 → Operands ss → Grouped 5 (expr_tokens e ++ each pair_text ss)
groups [] e at are = (e, at, sym (append-nil (expr_tokens e)))
groups (s ∷ ss) e at are =
    let one = adds e 5 s.0 s.1 at (below_five s.0) are.0 in
    let all = groups ss one.0 one.1 are.1 in
    (all.0, all.1, all.2 ∙ ap (λ us. us ++ each pair_text ss) one.2 ∙ append_assoc (expr_tokens e) (pair_text s) (each pair_text ss))
