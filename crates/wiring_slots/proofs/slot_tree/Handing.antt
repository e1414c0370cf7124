-- Each slot gets its trails from the lists by reference and by index.
use Rattle.std.proofs.Common.{◌≡◌, ◌∙◌, ℕ, ◌+◌, ◌<◌, Bool, true, false, nat_eq, List, [], ◌∷◌, Option, Some, None, length, map, set, get_or, drop, refl, sym, ap, arith}
use Rattle.std.specs.List.{filter_map, cons_option, range_with_len}
use Rattle.std.proofs.lemmas.List.{drop_more, drop-drop, drop-set-lt, length-drop}
use Rattle.std.proofs.lemmas.List.FromFn.{get_or-map-range_with_len, length-map-range_with_len}
use Rattle.wiring_plan.specs.declared.structure_plan.plan.ReferencePlan.{ReferencePlan}
use Rattle.wiring_slots.specs.declared.slot_tree.children.Container.{Container}
use Rattle.wiring_slots.specs.declared.slot_tree.children.Waiting.{Waiting}
use Rattle.wiring_slots.specs.declared.slot_tree.names.MappingPlan.{MappingPlan}
use Rattle.wiring_slots.specs.declared.slot_tree.names.StepPlan.{StepPlan}
use Rattle.wiring_slots.specs.declared.slot_tree.owners.Trail.{Trail}
use Rattle.wiring_slots.specs.slot_tree.Owners.{next_step, goes_on, trails_at}
use Rattle.wiring_slots.specs.slot_tree.WaitingSlots.{waiting_with, waiting_at}
use Rattle.wiring_slots.specs.slot_tree.Leading.{through, trails_through, by_reference, by_index}

module _ (mappings : List MappingPlan) (r : ℕ) where
  -- a trail leads to a slot of a reference where it goes on with it
  led_first : (i : ℕ) (t : Trail) (ts us : List Trail) (o : Option StepPlan) → next_step mappings t ≡ o → filter_map (goes_on mappings r i) ts ≡ filter_map (goes_on mappings r i) us
      → filter_map (goes_on mappings r i) (t ∷ ts) ≡ filter_map (goes_on mappings r i) (cons_option (through mappings r t) us)
  led_first i t ts us None e rest = rw e rest
  led_first i t ts us (Some s) e rest = split (nat_eq s.reference r) refl
    where
      split : (b : Bool) → nat_eq s.reference r ≡ b → filter_map (goes_on mappings r i) (t ∷ ts) ≡ filter_map (goes_on mappings r i) (cons_option (through mappings r t) us)
      split true own =
          let same : through mappings r t ≡ Some t = rw (e, own) refl in
          rw same (ap (λ (ys : List Trail). cons_option (goes_on mappings r i t) ys) rest)
      split false own =
          let none : through mappings r t ≡ None = rw (e, own) refl in
          let stops : goes_on mappings r i t ≡ None = rw (e, own) refl in
          rw (none, stops) rest

  led_through : (i : ℕ) (ts : List Trail) → filter_map (goes_on mappings r i) ts ≡ filter_map (goes_on mappings r i) (trails_through mappings ts r)
  led_through i [] = refl
  led_through i (t ∷ ts) = led_first i t ts (trails_through mappings ts r) (next_step mappings t) refl (led_through i ts)

  -- the list of an index has the container's trails that lead to the slot
  pub handed : (n i : ℕ) (trails ts : List Trail) (lists : List (List Trail)) (l d : List Trail) → ts ≡ trails_through mappings trails r → drop i lists ≡ drop i (by_index mappings r n ts) → i < n
      → l ≡ get_or lists i d → (i < length lists) → l ≡ trails_at mappings r i trails
  unfolding by_index trails_at
  handed n i trails ts lists l d are rest lt is inside =
      let all : List (List Trail) = map (λ (k : ℕ). filter_map (goes_on mappings r k) ts) (range_with_len 0 n) in
      let long = length-map-range_with_len (λ (k : ℕ). filter_map (goes_on mappings r k) ts) 0 n in
      let one = sym (drop_more lists i d inside) ∙ rest ∙ drop_more all i d (omega (arith, long)) in
      let head : get_or lists i d ≡ get_or all i d = cc in
      is ∙ head ∙ get_or-map-range_with_len (λ (k : ℕ). filter_map (goes_on mappings r k) ts) 0 n i i d lt (omega arith)
      ∙ ap (λ (xs : List Trail). filter_map (goes_on mappings r i) xs) are ∙ sym (led_through i trails)

  -- there is a list for each index
  pub inside_lists : (n i : ℕ) (ts : List Trail) (lists : List (List Trail)) → drop i lists ≡ drop i (by_index mappings r n ts) → i < n → i < length lists
  unfolding by_index
  inside_lists n i ts lists rest lt =
      let long = length-map-range_with_len (λ (k : ℕ). trails_at mappings r k ts) 0 n in
      let size = ap length rest in
      let a = length-drop i lists in
      let b = length-drop i (map (λ (k : ℕ). trails_at mappings r k ts) (range_with_len 0 n)) in
      omega (arith, long, size, a, b)

-- taking one list leaves those behind it
pub left_behind : {X : Type 0} (lists all : List X) (i : ℕ) (x : X) → drop i lists ≡ drop i all → drop (i + 1) (set lists i x) ≡ drop (i + 1) all
left_behind {X} lists all i x rest = drop-set-lt (i + 1) lists i x (omega arith) ∙ sym (drop-drop 1 i lists) ∙ ap (λ (xs : List X). drop 1 xs) rest ∙ drop-drop 1 i all

-- a slot with the trails that lead to it
pub waiting_is : (mappings : List MappingPlan) (c : Container) (number : ℕ) (r : ReferencePlan) (index : ℕ) (trails : List Trail) (w : Waiting)
    → w ≡ waiting_with mappings c number r index trails → trails ≡ trails_at mappings number index c.trails → w ≡ waiting_at mappings c number r index
unfolding waiting_at
waiting_is mappings c number r index trails w is led = is ∙ ap (λ (ts : List Trail). waiting_with mappings c number r index ts) led

-- there is a list for each reference
pub length-by_reference : (mappings : List MappingPlan) (n : ℕ) (trails : List Trail) → length (by_reference mappings n trails) ≡ n
unfolding by_reference
length-by_reference mappings n trails = length-map-range_with_len (trails_through mappings trails) 0 n

-- the list of a reference
pub referred : (mappings : List MappingPlan) (n i : ℕ) (trails d : List Trail) → i < n → get_or (by_reference mappings n trails) i d ≡ trails_through mappings trails i
unfolding by_reference
referred mappings n i trails d lt = get_or-map-range_with_len (trails_through mappings trails) 0 n i i d lt (omega arith)
