-- What a turn does to the row of an endpoint, at its owner, in the name table and on the trails.
use Rattle.std.proofs.Common.{◌≡◌, ℕ, ◌==◌, ◌⊎◌, inl, inr, Bool, true, false, if◌then◌else◌, cond, List, [], ◌∷◌, ◌++◌, map, filter, flat_map, Some, refl, sym, ap, ◌∙◌, subst, eq-eqb, append-nil}
use Rattle.std.specs.List.{AllByRecursion}
use Rattle.room_kinds.specs.declared.message.Msg.{Msg}
use Rattle.room_kinds.specs.declared.numbers.Incarnation.{Incarnation}
use Rattle.room_kinds.specs.declared.numbers.Endpoint.{Endpoint}
use Rattle.room_wiring.specs.declared.tables.Tables.{Tables}
use Rattle.actor_merge.specs.Parties.{Taken, stamped}
use Rattle.actor_duties.specs.State.{Lives, Links}
use Rattle.actor_duties.specs.Lives.{last_of, ended_slots, lives_ended}
use Rattle.actor_duties.specs.Frame.{FrameDone}
use Rattle.actor_world.specs.Body.{Body}
use Rattle.law_agreement.specs.Trails.{contents, from_a, system_to, is_system_to, taken_from}
use Rattle.law_agreement.proofs.Moving.{from_one}
use Rattle.law_names.specs.Registrations.{IsOfPoint, stage}
use Rattle.law_names.proofs.OffNames.{AllOffNames}
use Rattle.law_names.proofs.Naming.{LivesBy, stays, makes, ends, all_ended, Follows}
use Rattle.law_names.proofs.Registering.{NamesHere, RowsOn, rows_two, rows_still, GoesOn}
use Rattle.law_names.proofs.Ending.{made_on, ends_on}

-- of each message some items, which its stamp and sender don't change
module _ {X : Type 0} (items : Msg → List X) (unstamped : (a stamp : ℕ) (m : Msg) → items (stamped a stamp m) ≡ items m) where
  items_contents : (a : ℕ) (ms : List Msg) → flat_map items (contents a ms) ≡ flat_map items ms
  unfolding contents
  items_contents a [] = refl
  items_contents a (m ∷ ms) =
      ap (λ (z : List X). z ++ flat_map items (map (stamped a 0) ms)) (unstamped a 0 m) ∙ ap (λ (z : List X). items m ++ z) (items_contents a ms)

  -- what is sent to a controller, where all that has items goes there
  pub items_system : (a b : ℕ) (ms : List Msg) → AllByRecursion (λ (m : Msg). (items m ≡ []) ⊎ (is_system_to b m ≡ true)) ms
      → flat_map items (system_to a b ms) ≡ flat_map items ms
  unfolding system_to
  items_system a b ms h = items_contents a (filter (is_system_to b) ms) ∙ passed ms h
    where
      passed : (ms : List Msg) → AllByRecursion (λ (m : Msg). (items m ≡ []) ⊎ (is_system_to b m ≡ true)) ms → flat_map items (filter (is_system_to b) ms) ≡ flat_map items ms
      passed [] h = refl
      passed (m ∷ ms) h = go (is_system_to b m) refl h.0 (passed ms h.1)
        where
          go : (z : Bool) → is_system_to b m ≡ z → (items m ≡ []) ⊎ (is_system_to b m ≡ true) → flat_map items (filter (is_system_to b) ms) ≡ flat_map items ms
              → flat_map items (cond z (m ∷ filter (is_system_to b) ms) (filter (is_system_to b) ms)) ≡ items m ++ flat_map items ms
          go true is q k = ap (λ (z : List X). items m ++ z) k
          go false is (inl none) k = k ∙ sym (ap (λ (z : List X). z ++ flat_map items ms) none)
          go false is (inr to) k = (let q : true ≡ false = sym to ∙ is in absurd cc)

  -- what a turn takes out of a trail, where what has items stood on it
  pub items_taken : (a : ℕ) (k : Taken) → (items k.message ≡ []) ⊎ ((a ≡ k.message.from.0) × (0 ≡ k.priority)) → flat_map items (taken_from a (Some k)) ≡ items k.message
  items_taken a k (inr h) =
      ap (λ (b : Bool). flat_map items (if b then from_a a (k.message ∷ []) else [])) (eq-eqb 0 k.priority h.1)
      ∙ ap (flat_map items) (from_one a k.message)
      ∙ ap (λ (b : Bool). flat_map items (if b then stamped a 0 k.message ∷ [] else [])) (eq-eqb a k.message.from.0 h.0)
      ∙ append-nil (items (stamped a 0 k.message)) ∙ unstamped a 0 k.message
  items_taken a k (inl none) = go (0 == k.priority) ∙ sym none
    where
      one : (b : Bool) → flat_map items (if b then stamped a 0 k.message ∷ [] else []) ≡ []
      one true = append-nil (items (stamped a 0 k.message)) ∙ unstamped a 0 k.message ∙ none
      one false = refl

      go : (b : Bool) → flat_map items (if b then from_a a (k.message ∷ []) else []) ≡ []
      go true = ap (flat_map items) (from_one a k.message) ∙ one (a == k.message.from.0)
      go false = refl

-- a duty of the frame service and what follows it keep an endpoint of this controller in a row
module _ {M : Type 0} (t : Tables) (e : Endpoint) (me : ℕ) (b : Body M) (names_here : NamesHere t b.frame.lives b.links) where
  module _ (d : FrameDone) (off : AllOffNames d.sent) (sent : List Msg) (next : Body M) (f : Follows t me (IsOfPoint t) (GoesOn t e) b d sent next) where
    -- what has led to these lives, and then all that follows
    finish : (ms : List Msg) (k : Links) → sent ≡ d.sent ++ ms → RowsOn t e b.frame.lives b.links ms d.frame.lives k → next.links ≡ k
        → RowsOn t e b.frame.lives b.links sent next.frame.lives next.links
    finish ms k sends rows after =
        subst (λ z. RowsOn t e b.frame.lives b.links z next.frame.lives next.links) (sym sends)
        (subst (λ (z : Lives). RowsOn t e b.frame.lives b.links (d.sent ++ ms) z next.links) (sym f.lives)
        (subst (λ (z : Links). RowsOn t e b.frame.lives b.links (d.sent ++ ms) d.frame.lives z) (sym after)
        (rows_two t e b.frame.lives b.links d.sent b.frame.lives b.links ms d.frame.lives k
        (rows_still t e b.frame.lives b.links d.sent b.frame.lives b.links names_here off refl) rows)))

    -- the last message
    closed : (ms : List Msg) (k : Links) → RowsOn t e b.frame.lives b.links ms d.frame.lives k → RowsOn t e b.frame.lives b.links (ms ++ f.last) d.frame.lives k
    closed ms k rows =
        rows_two t e b.frame.lives b.links ms d.frame.lives k f.last d.frame.lives k rows
        (rows_still t e d.frame.lives k f.last d.frame.lives k rows.names f.off refl)

    -- none ended
    asked_rows : d.ended ≡ [] → RowsOn t e b.frame.lives b.links [] d.frame.lives b.links → RowsOn t e b.frame.lives b.links sent next.frame.lives next.links
    unfolding GoesOn
    asked_rows none first =
        let asks = f.asks first.names in
        finish (f.asked ++ f.last) f.links
        (f.sends ∙ ap (λ xs. d.sent ++ (f.asked ++ ((all_ended t me xs f.links).sent ++ f.last))) none)
        (closed f.asked f.links (rows_two t e b.frame.lives b.links [] d.frame.lives b.links f.asked d.frame.lives f.links first asks))
        (f.after ∙ ap (λ xs. (all_ended t me xs f.links).now) none)

    -- none came up
    ended_rows : (o : ℕ) → d.frame.lives ≡ lives_ended t me o b.frame.lives → d.ended ≡ map (last_of b.frame.lives) (ended_slots t me b.frame.lives o)
        → f.asked ≡ [] → f.links ≡ b.links → RowsOn t e b.frame.lives b.links sent next.frame.lives next.links
    ended_rows o same ended none still =
        let xs : List Incarnation = map (last_of b.frame.lives) (ended_slots t me b.frame.lives o) in
        finish ((all_ended t me xs b.links).sent ++ f.last) (all_ended t me xs b.links).now
        (f.sends ∙ ap (λ (z : List Msg). d.sent ++ (z ++ ((all_ended t me d.ended f.links).sent ++ f.last))) none
        ∙ ap (λ (z : Links). d.sent ++ ((all_ended t me d.ended z).sent ++ f.last)) still
        ∙ ap (λ zs. d.sent ++ ((all_ended t me zs b.links).sent ++ f.last)) ended)
        (closed (all_ended t me xs b.links).sent (all_ended t me xs b.links).now
        (subst (λ (z : Lives). RowsOn t e b.frame.lives b.links (all_ended t me xs b.links).sent z (all_ended t me xs b.links).now) (sym same)
        (ends_on t e me b.frame.lives b.links names_here o)))
        (f.after ∙ ap (λ (z : Links). (all_ended t me d.ended z).now) still ∙ ap (λ zs. (all_ended t me zs b.links).now) ended)

    none_rows : d.ended ≡ [] → (o : ℕ) → d.frame.lives ≡ lives_ended t me o b.frame.lives → RowsOn t e b.frame.lives b.links [] (lives_ended t me o b.frame.lives) b.links
        → RowsOn t e b.frame.lives b.links sent next.frame.lives next.links
    none_rows none o same rows = asked_rows none (subst (λ (z : Lives). RowsOn t e b.frame.lives b.links [] z b.links) (sym same) rows)

    pub lead_rows : LivesBy t me b.frame.lives d → RowsOn t e b.frame.lives b.links sent next.frame.lives next.links
    lead_rows (stays same made none) =
        asked_rows none (rows_still t e b.frame.lives b.links [] d.frame.lives b.links
        (subst (λ (z : Lives). NamesHere t z b.links) (sym same) names_here) tt (ap (λ (z : Lives). stage t z b.links e) (sym same)))
    lead_rows (makes o same made none) =
        asked_rows none (subst (λ (z : Lives). RowsOn t e b.frame.lives b.links [] z b.links) (sym same) (made_on t e me b.frame.lives b.links names_here o))
    lead_rows (ends o same made ended) = go f.alone
      where
        go : (d.ended ≡ []) ⊎ ((f.asked ≡ []) × (f.links ≡ b.links)) → RowsOn t e b.frame.lives b.links sent next.frame.lives next.links
        go (inr h) = ended_rows o same ended h.0 h.1
        go (inl none) =
            let xs : List Incarnation = map (last_of b.frame.lives) (ended_slots t me b.frame.lives o) in
            none_rows none o same
            (subst (λ zs. RowsOn t e b.frame.lives b.links (all_ended t me zs b.links).sent (lives_ended t me o b.frame.lives) (all_ended t me zs b.links).now) (sym ended ∙ none)
            (ends_on t e me b.frame.lives b.links names_here o))
