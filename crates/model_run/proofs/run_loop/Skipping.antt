-- One `settle` after another.
use Rattle.std.proofs.Common.{◌≡◌, ℕ, ◌+◌, false, List, [], ◌∷◌, ◌++◌, length, refl, sym, subst, arith, append_assoc, append-nil}
use Rattle.std.specs.List.{AllByRecursion}
use Rattle.std.proofs.lemmas.List.Elements.{recursion_from_All}
use Rattle.room_wiring.specs.declared.tables.Tables.{Tables}
use Rattle.inject_reader.specs.declared.inject_lines.accepted.Line.{Line}
use Rattle.inject_reader.specs.declared.inject_lines.accepted.What.{What}
use Rattle.inject_reader.specs.declared.inject_lines.accepted.What.TheVariants as whats
use Rattle.actor_world.specs.Journals.{Item, Settle}
use Rattle.model_run.specs.run_rounds.LineParts.{CutAt, GoneTo}
use Rattle.model_run.proofs.run_rounds.LinesLaw.{cut_settle}
use Rattle.model_run.specs.part_source.Parts.{is_message, AreSettles}
use Rattle.model_run.specs.part_posts.Items.{item_of, items_of}

-- the item of a `settle`
pub settle_item : (t : Tables) (number : ℕ) (what : What) → is_message what ≡ false → item_of t number what ≡ Settle number
settle_item t number whats.Settle h = refl
settle_item t number (whats.Advance time) h = refl
settle_item t number (whats.Message target signal payload prio) h = absurd cc

-- one `settle` more
gone_settle : (gone : List Item) (posted q number : ℕ) → GoneTo gone posted q → GoneTo (gone ++ Settle number ∷ []) posted (q + 1)
gone_settle gone posted q number g rest =
    subst (λ (z : List Item). CutAt z rest posted (q + 1)) (sym (append_assoc gone (Settle number ∷ []) rest))
    (cut_settle (gone ++ Settle number ∷ rest) rest posted q number (g (Settle number ∷ rest)))

gone_rec : (t : Tables) (settles : List Line) → AllByRecursion (λ (l : Line). is_message l.what ≡ false) settles → (gone : List Item) (posted q : ℕ)
    → GoneTo gone posted q → GoneTo (gone ++ items_of t settles) posted (q + length settles)
gone_rec t [] h gone posted q g =
    let same : q ≡ q + 0 = omega arith in
    subst (λ (z : ℕ). GoneTo (gone ++ []) posted z) same (subst (λ (z : List Item). GoneTo z posted q) (sym (append-nil gone)) g)
gone_rec t (l ∷ settles) h gone posted q g =
    let item : item_of t l.number l.what ≡ Settle l.number = settle_item t l.number l.what h.0 in
    let one : GoneTo (gone ++ item_of t l.number l.what ∷ []) posted (q + 1) =
    subst (λ (z : Item). GoneTo (gone ++ z ∷ []) posted (q + 1)) (sym item) (gone_settle gone posted q l.number g) in
    let same : (q + 1) + length settles ≡ q + length (l ∷ settles) = omega arith in
    subst (λ (z : ℕ). GoneTo (gone ++ items_of t (l ∷ settles)) posted z) same
    (subst (λ (z : List Item). GoneTo z posted ((q + 1) + length settles)) (append_assoc gone (item_of t l.number l.what ∷ []) (items_of t settles))
    (gone_rec t settles h.1 (gone ++ item_of t l.number l.what ∷ []) posted (q + 1) one))

-- behind `settle` lines
pub gone_settles : (t : Tables) (settles : List Line) → AreSettles settles → (gone : List Item) (posted q : ℕ) → GoneTo gone posted q → GoneTo (gone ++ items_of t settles) posted (q + length settles)
gone_settles t settles h gone posted q g = gone_rec t settles (recursion_from_All (λ (l : Line). is_message l.what ≡ false) settles h) gone posted q g
