-- The loops that read the texts of mapped paths.
use Rattle.std.proofs.Common.{◌≡◌, ℕ, ◌+◌, ◌<◌, List, [], ◌∷◌, ◌++◌, length, get_or, map, take, sym, ◌∙◌, ap, subst, append_assoc, append-nil}
use Rattle.std.specs.List.{flat_map}
use Rattle.std.proofs.lemmas.List.{take_more, map-append}
use Rattle.room_ast.specs.MappingTree.{MappingTree, mapping_view, mappings_of}
use Rattle.room_ast.specs.Trees.{SubsystemItemTree, subsystem_item_view}
use Rattle.room_ast.specs.declared.system.Mapping.{Mapping}
use Rattle.room_ast.specs.declared.system.Segment.{Segment}
use Rattle.room_ast.specs.declared.system.SubsystemItem.{SubsystemItem}
use Rattle.check_mappings.specs.mapping_rules.Rules.{further, texts_of, all_texts, item_texts, mapped_texts}
use Rattle.check_mappings.specs.mapping_rules.TextTrees.{text_in, Numbers, Adds}
use Rattle.check_mappings.proofs.mapping_rules.TextTrees.{numbers_on, adds_on}

-- one item more, and what it makes
made_more : {X Y : Type 0} (f : X → List Y) (xs : List X) (i : ℕ) (x : X) → i < length xs → x ≡ get_or xs i x → flat_map f (take (i + 1) xs) ≡ flat_map f (take i xs) ++ f x
made_more f xs i x l is = ap (flat_map f) (take_more xs i x l ∙ ap (λ y. take i xs ++ y ∷ []) (sym is)) ∙ pushed f (take i xs) x
  where
    pushed : {X Y : Type 0} (f : X → List Y) (xs : List X) (x : X) → flat_map f (xs ++ x ∷ []) ≡ flat_map f xs ++ f x
    pushed f [] x = append-nil (f x)
    pushed f (y ∷ ys) x = ap (λ r. f y ++ r) (pushed f ys x) ∙ sym (append_assoc (f y) (flat_map f ys) (f x))

-- a segment that goes on: `/`, its name and what follows it
pub segment_made : {a b c d : List (List ℕ)} {m n k : ℕ} (t name rest : List ℕ) → Numbers a b m (t ++ 47 ∷ []) → Numbers b c n (text_in b m ++ name) → Numbers c d k (text_in c n ++ rest) → Numbers a d k (t ++ 47 ∷ (name ++ rest))
segment_made t name rest p q r =
    let whole : Numbers _ _ _ (((t ++ 47 ∷ []) ++ name) ++ rest) = numbers_on rest (numbers_on name p q) r in
    record { there = whole.there; is = whole.is ∙ append_assoc (t ++ 47 ∷ []) name rest ∙ append_assoc t (47 ∷ []) (name ++ rest); keeps = whole.keeps }

-- one segment more
pub path_next : {a b c : List (List ℕ)} {m n : ℕ} (t : List ℕ) (first : Segment) (segments : List Segment) (i : ℕ) (s : Segment) → i < length segments → s ≡ get_or segments i s
    → Numbers a b m (t ++ flat_map further (first ∷ take i segments)) → Numbers b c n (text_in b m ++ further s) → Numbers a c n (t ++ flat_map further (first ∷ take (i + 1) segments))
path_next t first segments i s l is p q =
    let r : Numbers _ _ _ ((t ++ flat_map further (first ∷ take i segments)) ++ further s) = numbers_on (further s) p q in
    let more : flat_map further (first ∷ take i segments) ++ further s ≡ flat_map further (first ∷ take (i + 1) segments) =
    append_assoc (further first) (flat_map further (take i segments)) (further s) ∙ ap (λ x. further first ++ x) (sym (made_more further segments i s l is)) in
    record { there = r.there; is = r.is ∙ append_assoc t (flat_map further (first ∷ take i segments)) (further s) ∙ ap (λ x. t ++ x) more; keeps = r.keeps }

all_more : (t : List ℕ) (ms : List MappingTree) (m : MappingTree) → all_texts t (mappings_of (ms ++ m ∷ [])) ≡ all_texts t (mappings_of ms) ++ texts_of t m
all_more t [] m = append-nil (texts_of t m)
all_more t (n ∷ ms) m = ap (λ r. texts_of t n ++ r) (all_more t ms m) ∙ sym (append_assoc (texts_of t n) (all_texts t (mappings_of ms)) (texts_of t m))

-- one mapping more
pub adds_next : {a b c : List (List ℕ)} {x y z : List ℕ} (before : ℕ) (items : List Mapping) (i : ℕ) (m : Mapping) → before < length a → i < length items → m ≡ get_or items i m
    → Adds a b x y (all_texts (text_in a before) (mappings_of (map mapping_view (take i items)))) → Adds b c y z (texts_of (text_in b before) (mapping_view m))
    → Adds a c x z (all_texts (text_in a before) (mappings_of (map mapping_view (take (i + 1) items))))
adds_next {a} {b} {c} {x} {y} {z} before items i m known l is p q =
    let r : Adds a c x z (all_texts (text_in a before) (mappings_of (map mapping_view (take i items))) ++ texts_of (text_in a before) (mapping_view m)) =
    adds_on p (subst (λ t. Adds b c y z (texts_of t (mapping_view m))) (p.keeps.same before known) q) in
    let taken : map mapping_view (take (i + 1) items) ≡ map mapping_view (take i items) ++ mapping_view m ∷ [] =
    ap (map mapping_view) (take_more items i m l ∙ ap (λ w. take i items ++ w ∷ []) (sym is)) ∙ map-append mapping_view (take i items) (m ∷ []) in
    subst (Adds a c x z) (sym (ap (λ w. all_texts (text_in a before) (mappings_of w)) taken ∙ all_more (text_in a before) (map mapping_view (take i items)) (mapping_view m))) r

-- one item of a subsystem more
pub items_next : {a b c : List (List ℕ)} {x y z : List ℕ} (items : List SubsystemItem) (i : ℕ) (item : SubsystemItem) → i < length items → item ≡ get_or items i item
    → Adds a b x y (mapped_texts (map subsystem_item_view (take i items))) → Adds b c y z (item_texts (subsystem_item_view item)) → Adds a c x z (mapped_texts (map subsystem_item_view (take (i + 1) items)))
items_next {a} {b} {c} {x} {y} {z} items i item l is p q =
    let taken : map subsystem_item_view (take (i + 1) items) ≡ map subsystem_item_view (take i items) ++ subsystem_item_view item ∷ [] =
    ap (map subsystem_item_view) (take_more items i item l ∙ ap (λ w. take i items ++ w ∷ []) (sym is)) ∙ map-append subsystem_item_view (take i items) (item ∷ []) in
    subst (Adds a c x z) (sym (ap mapped_texts taken ∙ more (map subsystem_item_view (take i items)) (subsystem_item_view item))) (adds_on p q)
  where
    more : (xs : List SubsystemItemTree) (w : SubsystemItemTree) → mapped_texts (xs ++ w ∷ []) ≡ mapped_texts xs ++ item_texts w
    more [] w = append-nil (item_texts w)
    more (v ∷ xs) w = ap (λ r. item_texts v ++ r) (more xs w) ∙ sym (append_assoc (item_texts v) (mapped_texts xs) (item_texts w))
