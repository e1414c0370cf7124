-- A chain over numbered nodes, each of which leads to lower ones.
use Rattle.std.proofs.Common.{◌≡◌, ℕ, suc, zero, ◌+◌, ◌<◌, ◌≤◌, Bool, true, false, cond, List, [], ◌∷◌, Option, Some, None, length, sym, ◌∙◌, ap, refl, arith, subst}
use Rattle.std.specs.List.{AllByRecursion}
use Rattle.action_program.specs.declared.moment.Moment.{Moment}
use Rattle.action_program.specs.Meaning.{Ran}
use Rattle.chart_model.specs.chart_plan.Plan.{Kind, Simple, Border, Choice, Entry, Exit}
use Rattle.chart_model.specs.chart_plan.Handling.{Memory, Next, Ends, Goes, holds, first_of, or_default, chosen, enter, arrive, border, follow, segments, chain, runs}
use Rattle.chart_model.specs.Acting.{acting}
use Rattle.chart_run.specs.chart_tables.Tables.{ArrowTree, plan, arrow_view, Follows, LeadsLower, IsSound}
use Rattle.chart_run.specs.chart_tables.Minds.{Becomes, Gives, memory_of, next_of, arrow_holds, arrow_chosen}
use Rattle.chart_run.specs.declared.chart_tables.chain.Step.{Step}
use Rattle.chart_run.specs.declared.chart_tables.chain.Step.TheVariants as steps
use Rattle.chart_run.specs.declared.chart_tables.mind.Mind.{Mind}
use Rattle.chart_run.specs.declared.chart_tables.tables.Arrow.{Arrow}
use Rattle.chart_run.specs.declared.chart_tables.tables.Tables.{Tables}

-- ---- what follows a node

-- what goes on after the node n meets P
abbrev NextIn : (ArrowTree → Type 0) → Next ℕ ArrowTree → Type 0
NextIn P (Ends s) = Unit {0}
NextIn P (Goes t) = P t

abbrev FoundIn : (ArrowTree → Type 0) → Option ArrowTree → Type 0
FoundIn P None = Unit {0}
FoundIn P (Some t) = P t

module _ (try : ArrowTree → Memory ℕ Ran → Bool × Memory ℕ Ran) (P : ArrowTree → Type 0) where
  found : (t : ArrowTree) (b : Bool) (m : Memory ℕ Ran) (rest : Option ArrowTree × Memory ℕ Ran) → P t → FoundIn P rest.0 → FoundIn P (cond b (Some t, m) rest).0
  found t true m rest h k = h
  found t false m rest h k = k

  first_in : (ts : List ArrowTree) (m : Memory ℕ Ran) → AllByRecursion P ts → FoundIn P (first_of try ts m).0
  unfolding first_of
  first_in [] m h = tt
  first_in (t ∷ ts) m h = found t (try t m).0 (try t m).1 (first_of try ts (try t m).1) h.0 (first_in ts (try t m).1 h.1)

  defaulted : (d : ArrowTree) (r : Option ArrowTree × Memory ℕ Ran) → FoundIn P r.0 → P d → P (or_default d r).0
  defaulted d (None, m) a b = b
  defaulted d (Some t, m) a b = a

module _ (v : Tables) (at : Moment) (began : Option ℕ) (n : ℕ) where
  border_in : (P : ArrowTree → Type 0) (s : ℕ) (t : ArrowTree) (m : Memory ℕ Ran) (r : Option ℕ) → P t → NextIn P (border (plan v) (acting at) s t m r).0
  unfolding border
  border_in P s t m None h = h
  border_in P s t m (Some leaf) h = tt

  arrive_in : (k : Kind ℕ ArrowTree) (m : Memory ℕ Ran) → LeadsLower (length v.nodes.items) n k → NextIn (Follows (length v.nodes.items) n) (arrive (plan v) (acting at) began k m).0
  unfolding arrive chosen
  arrive_in (Simple s) m h = tt
  arrive_in (Border s t) m h = border_in (Follows (length v.nodes.items) n) s t (enter (plan v) (acting at) s m) (m.past s) h
  arrive_in (Choice ts d) m h =
      let P : ArrowTree → Type 0 = Follows (length v.nodes.items) n in
      let try : ArrowTree → Memory ℕ Ran → Bool × Memory ℕ Ran = λ t now. holds (acting at) t.condition now in
      defaulted try P d (first_of try ts m) (first_in try P ts m h.0) h.1
  arrive_in (Entry s t) m h = h
  arrive_in (Exit s t) m h = h

-- ---- the count of segments is enough

module _ (v : Tables) (at : Moment) (sound : IsSound v) (began : Option ℕ) where
  -- from a transition on
  abbrev from : ArrowTree → Memory ℕ Ran → Next ℕ ArrowTree × Memory ℕ Ran
  from t m = arrive (plan v) (acting at) began ((plan v).node t.target) (runs (acting at) t.action m)

  from_in : (t : ArrowTree) (m : Memory ℕ Ran) → NextIn (Follows (length v.nodes.items) t.target) (from t m).0
  from_in t m = arrive_in v at began t.target ((plan v).node t.target) (runs (acting at) t.action m) (sound.lower t.target)

  followed : (n k : ℕ) (x : Next ℕ ArrowTree × Memory ℕ Ran) → NextIn (Follows (length v.nodes.items) k) x.0
      → ((t : ArrowTree) (m : Memory ℕ Ran) → Follows (length v.nodes.items) k t → segments (plan v) (acting at) n began t m ≡ segments (plan v) (acting at) (suc n) began t m)
      → follow (plan v) (acting at) (segments (plan v) (acting at) n began) x ≡ follow (plan v) (acting at) (segments (plan v) (acting at) (suc n) began) x
  unfolding follow
  followed n k (Ends s, m) h rest = refl
  followed n k (Goes t, m) h rest = rest t m h

  one_more : (n : ℕ) (t : ArrowTree) (m : Memory ℕ Ran) → t.target < n → segments (plan v) (acting at) n began t m ≡ segments (plan v) (acting at) (suc n) began t m
  unfolding segments
  one_more zero t m l = absurd (omega arith)
  one_more (suc n) t m l = followed n t.target (from t m) (from_in t m) (λ u now f. one_more n u now (let a : u.target < t.target = f.lower in omega arith))

  -- a chain is a segment, and the chain of what follows it
  chain_rule : (t : ArrowTree) (m : Memory ℕ Ran) → chain (plan v) (acting at) began t m ≡ follow (plan v) (acting at) (chain (plan v) (acting at) began) (from t m)
  unfolding chain segments
  chain_rule t m = followed (length v.nodes.items) t.target (from t m) (from_in t m) (λ u now f. one_more (length v.nodes.items) u now f.known)

-- ---- the loop

-- the chain of t goes on as that of the first transition
pub record Going (v : Tables) (at : Moment) (began : Option ℕ) (t₀ t : ArrowTree) (first now : Mind) : Type 0 where
  pub seen : chain (plan v) (acting at) began t (memory_of now) ≡ chain (plan v) (acting at) began t₀ (memory_of first)
  pub size : length now.past.items ≡ length first.past.items

pub chain_start : (v : Tables) (at : Moment) (began : Option ℕ) (t : ArrowTree) (m : Mind) → Going v at began t t m m
chain_start v at began t m = record { seen = refl; size = refl }

module _ (v : Tables) (at : Moment) (began : Option ℕ) (t₀ t : ArrowTree) (first now mid next : Mind) (r : Step) (sound : IsSound v) (going : Going v at began t₀ t first now)
    (ran : Becomes now mid (runs (acting at) t.action (memory_of now))) (went : Gives mid next (next_of r) (arrive (plan v) (acting at) began ((plan v).node t.target) (memory_of mid))) where
  went_from : (next_of r, memory_of next) ≡ from v at sound began t (memory_of now)
  went_from = went.seen ∙ ap (arrive (plan v) (acting at) began ((plan v).node t.target)) ran.seen

  went_rule : chain (plan v) (acting at) began t (memory_of now) ≡ follow (plan v) (acting at) (chain (plan v) (acting at) began) (next_of r, memory_of next)
  went_rule = chain_rule v at sound began t (memory_of now) ∙ ap (follow (plan v) (acting at) (chain (plan v) (acting at) began)) (sym went_from)

  pub chain_ends : (s : ℕ) → r ≡ steps.Ends s → Gives first next (Some s) (chain (plan v) (acting at) began t₀ (memory_of first))
  unfolding follow
  chain_ends s e = record {
    seen = sym (went_rule ∙ ap (λ r. follow (plan v) (acting at) (chain (plan v) (acting at) began) (next_of r, memory_of next)) e) ∙ going.seen;
    size = went.size ∙ ran.size ∙ going.size;
  }

  pub chain_goes : (u : Arrow) (b : _) → r ≡ steps.Goes b → b.now ≡ u → Going v at began t₀ (arrow_view u) first next
  unfolding follow
  chain_goes u b e q = record {
    seen = ap (λ x. chain (plan v) (acting at) began (arrow_view x) (memory_of next)) (sym q) ∙ sym (went_rule ∙ ap (λ r. follow (plan v) (acting at) (chain (plan v) (acting at) began) (next_of r, memory_of next)) e) ∙ going.seen;
    size = went.size ∙ ran.size ∙ going.size;
  }

  pub chain_lower : (b : _) → r ≡ steps.Goes b → b.now.target < t.target
  chain_lower b e =
      let N : Next ℕ ArrowTree → Type 0 = NextIn (Follows (length v.nodes.items) t.target) in
      (subst N (sym (ap (λ x. x.0) went_from) ∙ ap next_of e) (from_in v at sound began t (memory_of now))).lower

-- ---- cases of a node

-- a border is entered, and then left to its history or its initial transition
pub enters_border : (v : Tables) (at : Moment) (began : Option ℕ) (s : ℕ) (t : ArrowTree) (old mid new : Mind) (r : Next ℕ ArrowTree) → Becomes old mid (enter (plan v) (acting at) s (memory_of old))
    → Gives mid new r (border (plan v) (acting at) s t (memory_of mid) ((memory_of mid).past s)) → Gives old new r (arrive (plan v) (acting at) began (Border s t) (memory_of old))
unfolding arrive enter runs
enters_border v at began s t old mid new r b g = record {
  seen = g.seen ∙ ap (λ m. border (plan v) (acting at) s t m (m.past s)) b.seen;
  size = g.size ∙ b.size;
}

pub chooses : (v : Tables) (at : Moment) (began : Option ℕ) (ts : List ArrowTree) (d t : ArrowTree) (old new : Mind) → Gives old new t (arrow_chosen at d ts (memory_of old)) → Gives old new (Goes t) (arrive (plan v) (acting at) began (Choice ts d) (memory_of old))
unfolding arrive chosen arrow_chosen arrow_holds
chooses v at began ts d t old new g = record { seen = ap (λ x. (Goes x.0, x.1)) g.seen; size = g.size }
