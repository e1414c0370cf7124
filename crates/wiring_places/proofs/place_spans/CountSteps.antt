-- One more port; one more join.
use Rattle.std.proofs.Common.{◌≡◌, ℕ, ◌+◌, ◌<◌, ◌≤◌, Bool, List, [], ◌∷◌, ◌++◌, length, drop, refl, sym, ap, ◌∙◌, append_assoc, append-nil, arith, sum, take, cond, true, false, add-zero}
use Rattle.std.proofs.lemmas.List.{at_drop_more, at_drop_all}
use Rattle.std.specs.Prelude.{slice_index_or, ◌==◌, if◌then◌else◌}
use Rattle.std.proofs.lemmas.List.Sums.{count_by-le-length, sum_by-cons, sum_by_more}
use Rattle.std.proofs.lemmas.List.{length-take-le, take_all}
use Rattle.wiring_plan.specs.declared.structure_plan.plan.PortPlan.{PortPlan}
use Rattle.wiring_places.specs.declared.place_rules.place.LayerJoin.{LayerJoin}
use Rattle.wiring_places.specs.place_rules.Counts.{port_count, counts_of_ports, served_at, service_key}

module _ (outside inside served : ℕ → ℕ) (s : ℕ) (imported : Bool) (reference : ℕ) where
  pub counts_more : (ports : List PortPlan) (i : ℕ) (d : PortPlan) (done out : List ℕ) → i < length ports → out ≡ done ++ port_count outside inside served s imported reference i (slice_index_or ports i d) ∷ []
      → out ++ counts_of_ports outside inside served s imported reference (i + 1) (drop (i + 1) ports) ≡ done ++ counts_of_ports outside inside served s imported reference i (drop i ports)
  unfolding counts_of_ports
  counts_more ports i d done out lt e =
      let n = port_count outside inside served s imported reference i (slice_index_or ports i d) in
      let left = counts_of_ports outside inside served s imported reference (i + 1) (drop (i + 1) ports) in
      let first : counts_of_ports outside inside served s imported reference i (drop i ports) ≡ n ∷ left = at_drop_more (counts_of_ports outside inside served s imported reference i) ports i d lt in
      ap (λ xs. xs ++ left) e ∙ append_assoc done (n ∷ []) left ∙ ap (λ xs. done ++ xs) (sym first)

  -- the count of one more port is one of those that are left
  pub counts_few : (ports : List PortPlan) (i m count : ℕ) (d : PortPlan) → i < length ports → count ≡ port_count outside inside served s imported reference i (slice_index_or ports i d) → sum (counts_of_ports outside inside served s imported reference i (drop i ports)) < m
      → (count < m) × (sum (counts_of_ports outside inside served s imported reference (i + 1) (drop (i + 1) ports)) < m)
  unfolding counts_of_ports
  counts_few ports i m count d lt is few =
      let n = port_count outside inside served s imported reference i (slice_index_or ports i d) in
      let left = counts_of_ports outside inside served s imported reference (i + 1) (drop (i + 1) ports) in
      let first : sum (counts_of_ports outside inside served s imported reference i (drop i ports)) ≡ sum (n ∷ left) = at_drop_more (λ ps. sum (counts_of_ports outside inside served s imported reference i ps)) ports i d lt in
      let both = sum_by-cons (λ (k : ℕ). k) n left in
      (omega (arith, is, first, both, few), omega (arith, first, both, few))

  pub counts_end : (ports : List PortPlan) (i : ℕ) (done : List ℕ) → length ports ≤ i → done ++ counts_of_ports outside inside served s imported reference i (drop i ports) ≡ done
  unfolding counts_of_ports
  counts_end ports i done le = ap (λ xs. done ++ xs) (at_drop_all (counts_of_ports outside inside served s imported reference i) ports i le) ∙ append-nil done

added : (a : ℕ) (b : Bool) → (if b then a + 1 else a) ≡ a + cond b 1 0
added a true = refl
added a false = sym (add-zero a)

pub served_more : (joins : List LayerJoin) (i key : ℕ) (d : LayerJoin) (side a next : ℕ) → i < length joins → side ≡ service_key (slice_index_or joins i d).spp_slot (slice_index_or joins i d).spp → a ≡ served_at (take i joins) key → next ≡ (if key == side then a + 1 else a) → next ≡ served_at (take (i + 1) joins) key
served_more joins i key d side a next lt is known e =
    let p : LayerJoin → Bool = λ (j : LayerJoin). key == service_key j.spp_slot j.spp in
    let more : served_at (take (i + 1) joins) key ≡ served_at (take i joins) key + cond (p (slice_index_or joins i d)) 1 0 = sum_by_more (λ (j : LayerJoin). cond (p j) 1 0) joins i d lt in
    e ∙ added a (key == side) ∙ ap (λ k. a + cond (key == k) 1 0) is ∙ ap (λ n. n + cond (p (slice_index_or joins i d)) 1 0) known ∙ sym more

-- no more service access points are joined to a port than there are
pub served_few : (joins : List LayerJoin) (i key a : ℕ) → i ≤ length joins → a ≡ served_at (take i joins) key → a ≤ i
served_few joins i key a le known =
    let most = count_by-le-length (λ (j : LayerJoin). key == service_key j.spp_slot j.spp) (take i joins) in
    let long = length-take-le i joins le in
    omega (arith, known, most, long)

pub served_end : (joins : List LayerJoin) (i key : ℕ) → length joins ≤ i → served_at (take i joins) key ≡ served_at joins key
served_end joins i key le = ap (λ js. served_at js key) (take_all i joins le)
