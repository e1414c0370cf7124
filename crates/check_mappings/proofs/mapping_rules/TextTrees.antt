-- Texts that go on from one another.
use Rattle.std.proofs.Common.{◌≡◌, ◌⊎◌, inl, inr, ℕ, zero, suc, ◌+◌, ◌<◌, ◌≤◌, Bool, true, false, cond, not, List, [], ◌∷◌, ◌++◌, length, get_or, map, take, drop, ◌≢◌, Some, refl, sym, ◌∙◌, ap, subst, arith, length-append, append_assoc, append-nil}
use Rattle.std.specs.Prelude.{◌||◌, ◌&&◌, slice_get, nat_eq}
use Rattle.std.specs.List.{list_any, All}
use Rattle.std.proofs.lemmas.List.{get_or_append_left, get_or-append-add, take_more, take_all, map-append, take-append-drop}
use Rattle.std.proofs.lemmas.List.Elements.{All-nil, All-cons, All-head, All-tail, All-push, All-get_or, All-take}
use Rattle.std.proofs.lemmas.Bool.{not-true, not-false, and_parts, and_from, eqb-true, eq-eqb}
use Rattle.std.proofs.lemmas.Bool.Decides.{eqb_tells}
use Rattle.std.proofs.lemmas.Option.{slice_get_within, slice_get-get_or}
use Rattle.indexmap.specs.IndexSet.{insert_key}
use lib.Pointwise.{bytes_decides}
use Rattle.name_tables.specs.name_numbers.Names.{same, is_among, AreDistinct}
use Rattle.name_tables.specs.distinct_names.Distinct.{is_distinct}
use Rattle.name_tables.proofs.name_numbers.Lists.{distinct_none, distinct_push, twice}
use Rattle.name_tables.proofs.distinct_names.Laws.{test_of, fact_of}
use Rattle.check_mappings.specs.mapping_rules.TextTrees.{text_in, texts_at, grown, all_texts, IsTree, Keeps, Numbers, AreKnown, Adds}
use Rattle.check_mappings.specs.declared.mapping_rules.text_tree.Branch.{Branch}

pub no_branches : IsTree []
unfolding all_texts
no_branches = record { count = refl; root = refl; above = λ i b e. absurd cc; texts = λ i b e. absurd cc; distinct = λ i j p q e. omega arith }

pub root_alone : all_texts [] ≡ [] ∷ []
unfolding all_texts
root_alone = refl

-- ---- one branch more

text_of : List (List ℕ) → Branch → List ℕ
text_of texts b = text_in texts b.above ++ b.byte ∷ []

grown_more : (texts : List (List ℕ)) (bs : List Branch) (b : Branch) → grown texts (bs ++ b ∷ []) ≡ grown texts bs ++ (text_in (grown texts bs) b.above ++ b.byte ∷ []) ∷ []
grown_more texts [] b = refl
grown_more texts (c ∷ bs) b = grown_more (texts ++ (text_in texts c.above ++ c.byte ∷ []) ∷ []) bs b

more : (bs : List Branch) (b : Branch) → all_texts (bs ++ b ∷ []) ≡ all_texts bs ++ (text_in (all_texts bs) b.above ++ b.byte ∷ []) ∷ []
unfolding all_texts
more bs b = grown_more ([] ∷ []) bs b

-- an item of a list with one more at its end
pushed : {A : Type 0} (xs : List A) (y : A) (i : ℕ) (x : A) → slice_get (xs ++ y ∷ []) i ≡ Some x → ((i < length xs) × (slice_get xs i ≡ Some x)) ⊎ ((i ≡ length xs) × (y ≡ x))
pushed [] y zero x e = inr (refl, let s : y ≡ x = cc in s)
pushed [] y (suc i) x e = absurd cc
pushed (z ∷ xs) y zero x e = inl (omega arith, e)
pushed (z ∷ xs) y (suc i) x e = elim (pushed xs y i x e) [ inl h ↦ inl (omega arith, h.1) | inr h ↦ inr (ap suc h.0, h.1) ]

-- two texts with one last byte each that are the same
last_same : (xs ys : List ℕ) (x y : ℕ) → xs ++ x ∷ [] ≡ ys ++ y ∷ [] → (xs ≡ ys) × (x ≡ y)
last_same [] [] x y e = (refl, let s : x ≡ y = cc in s)
last_same [] (z ∷ ys) x y e = absurd (omega (arith, ap length e, length-append ys (y ∷ [])))
last_same (z ∷ xs) [] x y e = absurd (omega (arith, ap length e, length-append xs (x ∷ [])))
last_same (z ∷ xs) (w ∷ ys) x y e =
    let tails : xs ++ x ∷ [] ≡ ys ++ y ∷ [] = cc in
    let heads : z ≡ w = cc in
    let r : (xs ≡ ys) × (x ≡ y) = last_same xs ys x y tails in
    (ap (λ h. h ∷ xs) heads ∙ ap (λ t. w ∷ t) r.0, r.1)

not_empty : (xs : List ℕ) (x : ℕ) → [] ≡ xs ++ x ∷ [] → ⊥
not_empty xs x e = omega (arith, ap length e, length-append xs (x ∷ []))

module _ (texts : List (List ℕ)) (t : List ℕ) where
  before : (i : ℕ) → i < length texts → text_in (texts ++ t ∷ []) i ≡ text_in texts i
  before i l = get_or_append_left texts (t ∷ []) [] i l

  behind : text_in (texts ++ t ∷ []) (length texts) ≡ t
  behind = ap (λ n. text_in (texts ++ t ∷ []) n) (omega arith) ∙ get_or-append-add texts (t ∷ []) 0 []

module _ (bs : List Branch) (b : Branch) (tree : IsTree bs) (known : b.above < length (all_texts bs)) (fresh : (i : ℕ) → slice_get bs i ≡ Some b → ⊥) where
  texts : List (List ℕ)
  texts = all_texts bs

  longer_texts : List (List ℕ)
  longer_texts = all_texts bs ++ (text_in (all_texts bs) b.above ++ b.byte ∷ []) ∷ []

  count_more : length (all_texts bs ++ (text_in (all_texts bs) b.above ++ b.byte ∷ []) ∷ []) ≡ length (all_texts bs) + 1
  count_more = length-append (all_texts bs) ((text_in (all_texts bs) b.above ++ b.byte ∷ []) ∷ [])

  -- no earlier text is the new one
  apart : (j : ℕ) → j < length (all_texts bs) → text_in (all_texts bs) j ≡ text_in (all_texts bs) b.above ++ b.byte ∷ [] → ⊥
  apart zero l e = not_empty (text_in (all_texts bs) b.above) b.byte (sym tree.root ∙ e)
  apart (suc j) l e =
      let within : j < length bs = omega (arith, tree.count) in
      let c : Branch = get_or bs j b in
      let at : slice_get bs j ≡ Some c = slice_get-get_or bs j b within in
      let above_c : c.above ≤ j = tree.above j c at in
      let is : text_in (all_texts bs) c.above ++ c.byte ∷ [] ≡ text_in (all_texts bs) b.above ++ b.byte ∷ [] = sym (tree.texts j c at) ∙ ap (text_in (all_texts bs)) (omega arith) ∙ e in
      let parts : (text_in (all_texts bs) c.above ≡ text_in (all_texts bs) b.above) × (c.byte ≡ b.byte) = last_same (text_in (all_texts bs) c.above) (text_in (all_texts bs) b.above) c.byte b.byte is in
      let one : c.above ≡ b.above = tree.distinct c.above b.above (omega (arith, tree.count)) known parts.0 in
      let branch : c ≡ b = ap (λ a. record { above = a; byte = c.byte }) one ∙ ap (λ y. record { above = b.above; byte = y }) parts.1 in
      fresh j (at ∙ ap Some branch)

  module _ (t : List ℕ) (is : t ≡ text_in (all_texts bs) b.above ++ b.byte ∷ []) (all : List (List ℕ)) (all_is : all ≡ all_texts bs ++ t ∷ []) where
    old : (i : ℕ) → i < length (all_texts bs) → text_in all i ≡ text_in (all_texts bs) i
    old i l = ap (λ xs. text_in xs i) all_is ∙ before (all_texts bs) t i l

    new : text_in all (length (all_texts bs)) ≡ t
    new = ap (λ xs. text_in xs (length (all_texts bs))) all_is ∙ behind (all_texts bs) t

    longer : length all ≡ length (all_texts bs) + 1
    longer = ap length all_is ∙ length-append (all_texts bs) (t ∷ [])

    tree_texts : (i : ℕ) (c : Branch) → slice_get (bs ++ b ∷ []) i ≡ Some c → text_in all (i + 1) ≡ text_in all c.above ++ c.byte ∷ []
    tree_texts i c e =
        elim (pushed bs b i c e) [
          | inl h ↦
              let low : c.above ≤ i = tree.above i c h.1 in
              old (i + 1) (omega (arith, tree.count, h.0)) ∙ tree.texts i c h.1 ∙ ap (λ x. x ++ c.byte ∷ []) (sym (old c.above (omega (arith, tree.count, h.0, low))))
          | inr h ↦
              ap (text_in all) (omega (arith, tree.count, h.0)) ∙ new ∙ is ∙ ap (λ x. x ++ b.byte ∷ []) (sym (old b.above known)) ∙ ap (λ (x : Branch). text_in all x.above ++ x.byte ∷ []) h.1
        ]

    tree_above : (i : ℕ) (c : Branch) → slice_get (bs ++ b ∷ []) i ≡ Some c → c.above ≤ i
    tree_above i c e = elim (pushed bs b i c e) [ inl h ↦ tree.above i c h.1 | inr h ↦ let same : b.above ≡ c.above = ap (λ (x : Branch). x.above) h.1 in omega (arith, tree.count, h.0, known, same) ]

    split : (n i : ℕ) → i < n + 1 → (i < n) ⊎ (i ≡ n)
    split n i l = grind arith

    tree_distinct : (i j : ℕ) → i < length all → j < length all → text_in all i ≡ text_in all j → i ≡ j
    tree_distinct i j p q e =
        elim (split (length (all_texts bs)) i (omega (arith, longer, p))) [
          | inl x ↦
              elim (split (length (all_texts bs)) j (omega (arith, longer, q))) [
                | inl y ↦ tree.distinct i j x y (sym (old i x) ∙ e ∙ old j y)
                | inr y ↦ absurd (apart i x (sym (old i x) ∙ e ∙ ap (text_in all) y ∙ new ∙ is))
              ]
          | inr x ↦
              elim (split (length (all_texts bs)) j (omega (arith, longer, q))) [
                | inl y ↦ absurd (apart j y (sym (old j y) ∙ sym e ∙ ap (text_in all) x ∙ new ∙ is))
                | inr y ↦ x ∙ sym y
              ]
        ]

  pub tree_more : IsTree (bs ++ b ∷ [])
  tree_more =
      let t : List ℕ = text_in (all_texts bs) b.above ++ b.byte ∷ [] in
      let is : all_texts (bs ++ b ∷ []) ≡ all_texts bs ++ t ∷ [] = more bs b in
      record {
        count = longer t refl (all_texts (bs ++ b ∷ [])) is ∙ ap (λ n. n + 1) tree.count ∙ ap (λ n. n + 1) (sym (length-append bs (b ∷ [])));
        root = old t refl (all_texts (bs ++ b ∷ [])) is 0 (omega (arith, tree.count)) ∙ tree.root;
        above = tree_above t refl (all_texts (bs ++ b ∷ [])) is;
        texts = tree_texts t refl (all_texts (bs ++ b ∷ [])) is;
        distinct = tree_distinct t refl (all_texts (bs ++ b ∷ [])) is;
      }

  pub keeps_more : Keeps (all_texts bs) (all_texts (bs ++ b ∷ []))
  keeps_more =
      let t : List ℕ = text_in (all_texts bs) b.above ++ b.byte ∷ [] in
      record { longer = omega (arith, longer t refl (all_texts (bs ++ b ∷ [])) (more bs b)); same = old t refl (all_texts (bs ++ b ∷ [])) (more bs b) }

-- ---- a branch that is put in, where it isn't there

-- whether two branches are the same
abbrev is_branch : Branch → Branch → Bool
is_branch b c = nat_eq b.above c.above && nat_eq b.byte c.byte

is_branch_same : (b c : Branch) → is_branch b c ≡ true → b ≡ c
is_branch_same b c e =
    let parts : (nat_eq b.above c.above ≡ true) × (nat_eq b.byte c.byte ≡ true) = and_parts (nat_eq b.above c.above) (nat_eq b.byte c.byte) e in
    ap (λ a. record { above = a; byte = b.byte }) (eqb-true b.above c.above parts.0) ∙ ap (λ y. record { above = c.above; byte = y }) (eqb-true b.byte c.byte parts.1)

is_branch_own : (b : Branch) → is_branch b b ≡ true
is_branch_own b = and_from (nat_eq b.above b.above) (nat_eq b.byte b.byte) (eq-eqb b.above b.above refl) (eq-eqb b.byte b.byte refl)

any_there : (b : Branch) (bs : List Branch) (i : ℕ) → slice_get bs i ≡ Some b → list_any (is_branch b) bs ≡ true
any_there b [] i e = absurd cc
any_there b (c ∷ bs) zero e = let s : c ≡ b = cc in ap (λ (x : Branch). is_branch b x || list_any (is_branch b) bs) s ∙ ap (λ x. x || list_any (is_branch b) bs) (is_branch_own b)
any_there b (c ∷ bs) (suc i) e = or_right (is_branch b c) (list_any (is_branch b) bs) (any_there b bs i e)
  where
    or_right : (p q : Bool) → q ≡ true → (p || q) ≡ true
    or_right true q h = refl
    or_right false q h = h

pub keeps_all : (texts : List (List ℕ)) → Keeps texts texts
keeps_all texts = record { longer = omega arith; same = λ i l. refl }

module _ (bs later : List Branch) (b : Branch) (tree : IsTree bs) (known : b.above < length (all_texts bs)) (put : later ≡ insert_key is_branch bs b) where
  put_in : (found : Bool) → list_any (is_branch b) bs ≡ found → IsTree later × Keeps (all_texts bs) (all_texts later)
  put_in true e = let stays : later ≡ bs = put ∙ ap (λ x. cond x bs (bs ++ b ∷ [])) e in (subst IsTree (sym stays) tree, subst (λ x. Keeps (all_texts bs) (all_texts x)) (sym stays) (keeps_all (all_texts bs)))
  put_in false e =
      let grows : later ≡ bs ++ b ∷ [] = put ∙ ap (λ x. cond x bs (bs ++ b ∷ [])) e in
      let fresh : (i : ℕ) → slice_get bs i ≡ Some b → ⊥ = λ i s. (let there : list_any (is_branch b) bs ≡ true = any_there b bs i s in cc) in
      (subst IsTree (sym grows) (tree_more bs b tree known fresh), subst (λ x. Keeps (all_texts bs) (all_texts x)) (sym grows) (keeps_more bs b tree known fresh))

  pub is_tree : IsTree later
  is_tree = (put_in (list_any (is_branch b) bs) refl).0

  pub is_numbered : (n : ℕ) (k : Branch) → slice_get later n ≡ Some k → is_branch b k ≡ true → Numbers (all_texts bs) (all_texts later) (n + 1) (text_in (all_texts bs) b.above ++ b.byte ∷ [])
  is_numbered n k at e =
      let r : IsTree later × Keeps (all_texts bs) (all_texts later) = put_in (list_any (is_branch b) bs) refl in
      let there : slice_get later n ≡ Some b = at ∙ ap Some (sym (is_branch_same b k e)) in
      let within : n < length later = slice_get_within later n b there in
      record { there = omega (arith, r.0.count, within); is = r.0.texts n b there ∙ ap (λ x. x ++ b.byte ∷ []) (r.1.same b.above known); keeps = r.1 }

-- ---- texts that go on

pub keeps_on : {a b c : List (List ℕ)} → Keeps a b → Keeps b c → Keeps a c
keeps_on p q = record { longer = omega (arith, p.longer, q.longer); same = λ i l. q.same i (omega (arith, p.longer, l)) ∙ p.same i l }

-- a text goes on by two pieces
pub numbers_on : {a b c : List (List ℕ)} {m n : ℕ} {t : List ℕ} (u : List ℕ) → Numbers a b m t → Numbers b c n (text_in b m ++ u) → Numbers a c n (t ++ u)
numbers_on u p q = record { there = q.there; is = q.is ∙ ap (λ x. x ++ u) p.is; keeps = keeps_on p.keeps q.keeps }

-- ---- distinct texts

-- the numbers up to the i-th, whose texts are distinct
pub record Seen (texts : List (List ℕ)) (ns : List ℕ) (i : ℕ) (seen : List ℕ) : Type 0 where
  pub are : seen ≡ take i ns
  pub distinct : AreDistinct (map (text_in texts) (take i ns))

pub seen_none : (all : List (List ℕ)) (ns seen : List ℕ) → seen ≡ [] → Seen all ns 0 seen
seen_none all ns seen none = record { are = none; distinct = distinct_none }

module _ (texts : List (List ℕ)) (one : (i j : ℕ) → i < length texts → j < length texts → text_in texts i ≡ text_in texts j → i ≡ j) where
  same_text : (i j : ℕ) → i < length texts → j < length texts → same (text_in texts i) (text_in texts j) ≡ nat_eq i j
  same_text i j p q = elim (eqb_tells i j) [ inl h ↦ ap (λ k. same (text_in texts i) (text_in texts k)) (sym h.1) ∙ (bytes_decides (text_in texts i) (text_in texts i)).1 refl ∙ sym h.0 | inr h ↦ differ (same (text_in texts i) (text_in texts j)) refl h.1 ∙ sym h.0 ]
    where
      differ : (b : Bool) → same (text_in texts i) (text_in texts j) ≡ b → i ≢ j → b ≡ false
      differ true e n = absurd (n (one i j p q ((bytes_decides (text_in texts i) (text_in texts j)).0 e)))
      differ false e n = refl

  among : (n : ℕ) (ns : List ℕ) → n < length texts → All (λ m. m < length texts) ns → is_among (map (text_in texts) ns) (text_in texts n) ≡ list_any (nat_eq n) ns
  among n [] l h = refl
  among n (m ∷ ns) l h =
      ap (λ b. b || is_among (map (text_in texts) ns) (text_in texts n)) (same_text n m l (All-head (λ m. m < length texts) m ns h)) ∙ ap (λ b. nat_eq n m || b) (among n ns l (All-tail (λ m. m < length texts) m ns h))

  module _ (ns : List ℕ) (i : ℕ) (seen : List ℕ) (n : ℕ) (all : All (λ m. m < length texts) ns) (so_far : Seen texts ns i seen) (l : i < length ns) (is : n ≡ get_or ns i 0) where
    known : n < length texts
    known = subst (λ m. m < length texts) (sym is) (All-get_or (λ m. m < length texts) ns i 0 l all)

    found : is_among (map (text_in texts) (take i ns)) (text_in texts n) ≡ list_any (nat_eq n) seen
    found = among n (take i ns) known (All-take (λ m. m < length texts) i ns all) ∙ ap (list_any (nat_eq n)) (sym so_far.are)

    taken : take (i + 1) ns ≡ take i ns ++ n ∷ []
    taken = take_more ns i 0 l ∙ ap (λ m. take i ns ++ m ∷ []) (sym is)

    mapped : map (text_in texts) (take (i + 1) ns) ≡ map (text_in texts) (take i ns) ++ text_in texts n ∷ []
    mapped = ap (map (text_in texts)) taken ∙ map-append (text_in texts) (take i ns) (n ∷ [])

    pub seen_more : (b : Bool) (later : List ℕ) → b ≡ not (list_any (nat_eq n) seen) → b ≡ true → later ≡ insert_key nat_eq seen n → Seen texts ns (i + 1) later
    seen_more b later fresh e put =
        let other : list_any (nat_eq n) seen ≡ false = not-true _ (sym fresh ∙ e) in
        record { are = put ∙ ap (λ x. cond x seen (seen ++ n ∷ [])) other ∙ ap (λ x. x ++ n ∷ []) so_far.are ∙ sym taken; distinct = subst AreDistinct (sym mapped) (distinct_push (map (text_in texts) (take i ns)) (text_in texts n) so_far.distinct (found ∙ other)) }

    parted : map (text_in texts) ns ≡ map (text_in texts) (take i ns) ++ text_in texts n ∷ map (text_in texts) (drop (i + 1) ns)
    parted =
        ap (map (text_in texts)) (sym (take-append-drop (i + 1) ns)) ∙ map-append (text_in texts) (take (i + 1) ns) (drop (i + 1) ns) ∙ ap (λ x. x ++ map (text_in texts) (drop (i + 1) ns)) mapped
        ∙ append_assoc (map (text_in texts) (take i ns)) (text_in texts n ∷ []) (map (text_in texts) (drop (i + 1) ns))

    pub seen_twice : (b : Bool) → b ≡ not (list_any (nat_eq n) seen) → b ≡ false → false ≡ is_distinct (map (text_in texts) ns)
    seen_twice b old e = differs (is_distinct (map (text_in texts) ns)) refl
      where
        there : is_among (map (text_in texts) (take i ns)) (text_in texts n) ≡ true
        there = found ∙ not-false _ (sym old ∙ e)

        differs : (x : Bool) → is_distinct (map (text_in texts) ns) ≡ x → false ≡ x
        differs true d = absurd (twice (map (text_in texts) (take i ns)) (text_in texts n) (map (text_in texts) (drop (i + 1) ns)) there (subst AreDistinct parted (fact_of (map (text_in texts) ns) d)))
        differs false d = refl

  pub seen_all : (ns : List ℕ) (i : ℕ) (seen : List ℕ) → Seen texts ns i seen → length ns ≤ i → true ≡ is_distinct (map (text_in texts) ns)
  seen_all ns i seen so_far l = sym (test_of (map (text_in texts) ns) (subst (λ x. AreDistinct (map (text_in texts) x)) (take_all i ns l) so_far.distinct))

-- ---- numbers that are added

pub adds_none : (all : List (List ℕ)) (ns : List ℕ) → Adds all all ns ns []
adds_none all ns = record { keeps = keeps_all all; known = λ h. h; texts = λ h. sym (append-nil (texts_at all ns)) }

-- numbers that are known stay those of their texts
kept : (old later : List (List ℕ)) → Keeps old later → (ns : List ℕ) → AreKnown old ns → AreKnown later ns × (texts_at later ns ≡ texts_at old ns)
kept old later k [] h = (All-nil (λ n. n < length later), refl)
kept old later k (n ∷ ns) h =
    let first : n < length old = All-head (λ m. m < length old) n ns h in
    let rest : AreKnown later ns × (texts_at later ns ≡ texts_at old ns) = kept old later k ns (All-tail (λ m. m < length old) n ns h) in
    (All-cons (λ m. m < length later) n ns (omega (arith, k.longer, first)) rest.0, ap (λ x. text_in later n ∷ x) rest.1 ∙ ap (λ x. x ∷ texts_at old ns) (k.same n first))

pub adds_on : {a b c : List (List ℕ)} {x y z : List ℕ} {u v : List (List ℕ)} → Adds a b x y u → Adds b c y z v → Adds a c x z (u ++ v)
adds_on {a = a} {x = x} {u = u} {v = v} p q = record {
  keeps = keeps_on p.keeps q.keeps;
  known = λ h. q.known (p.known h);
  texts = λ h. q.texts (p.known h) ∙ ap (λ t. t ++ v) (p.texts h) ∙ append_assoc (texts_at a x) u v;
}

-- the texts grow first, and then numbers are added
pub adds_after : {a b c : List (List ℕ)} {x y : List ℕ} {u : List (List ℕ)} → Keeps a b → Adds b c x y u → Adds a c x y u
adds_after {a = a} {b = b} {x = x} {u = u} k p = record {
  keeps = keeps_on k p.keeps;
  known = λ h. p.known (kept a b k x h).0;
  texts = λ h. p.texts (kept a b k x h).0 ∙ ap (λ t. t ++ u) (kept a b k x h).1;
}

-- one number more
pub adds_one : {a b c : List (List ℕ)} {x y : List ℕ} {u : List (List ℕ)} (n : ℕ) (t : List ℕ) → Numbers a b n t → Adds b c x y u → Adds a c x (y ++ n ∷ []) (u ++ t ∷ [])
adds_one {a = a} {b = b} {c = c} {x = x} {y = y} {u = u} n t p q =
    let whole : Adds a c x y u = adds_after p.keeps q in
    record {
      keeps = whole.keeps;
      known = λ h. All-push (λ m. m < length c) y n (whole.known h) (omega (arith, q.keeps.longer, p.there));
      texts = λ h.
          map-append (text_in c) y (n ∷ []) ∙ ap (λ r. r ++ text_in c n ∷ []) (whole.texts h) ∙ append_assoc (texts_at a x) u (text_in c n ∷ [])
          ∙ ap (λ r. texts_at a x ++ (u ++ r ∷ [])) (q.keeps.same n p.there ∙ p.is);
    }
