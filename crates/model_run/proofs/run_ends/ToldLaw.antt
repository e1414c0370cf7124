-- Lists of controllers, of what waits for them, and of lines.
use Rattle.std.proofs.Common.{◌≡◌, ℕ, zero, suc, ◌+◌, ◌<◌, ◌||◌, Bool, true, false, not, List, [], ◌∷◌, ◌++◌, length, map, reverse, slice_get, slice_index_or, Some, refl, sym, ap, ◌∙◌, subst, arith, append_assoc}
use Rattle.std.specs.List.{list_any, range_with_len, flat_map}
use Rattle.std.proofs.lemmas.Bool.{ne_eqb, true≢false}
use Rattle.std.proofs.lemmas.List.{map-append, reverse-append}
use Rattle.std.proofs.lemmas.Option.{slice_get_within}
use Rattle.room_kinds.specs.declared.message.Msg.{Msg}
use Rattle.room_wiring.specs.declared.tables.Tables.{Tables}
use Rattle.journal.specs.declared.entry.Entry.{Entry}
use Rattle.journal.specs.declared.entry.Left.{Left}
use Rattle.inject_reader.specs.declared.inject_lines.accepted.Line.{Line}
use Rattle.inject_reader.specs.declared.inject_lines.accepted.What.{What}
use Rattle.inject_reader.specs.declared.inject_lines.accepted.What.TheVariants as whats
use Rattle.actor_world.specs.Journals.{left, priorities, number_of}
use Rattle.controller_mail.specs.MailState.{pending_of, messages_in, has_messages}
use Rattle.controller.specs.View.{Controller}
use Rattle.model_run.specs.part_posts.Items.{item_of, items_of}
use Rattle.model_run.specs.run_ends.Told.{journals_in, left_from, HasSixLists, AllHaveSix, AreTold}

-- a place in a mapped list
pub map_at : {X Y : Type 0} (f : X → Y) (xs : List X) (c : ℕ) (x : X) (d : Y) → slice_get xs c ≡ Some x → slice_index_or (map f xs) c d ≡ f x
map_at f [] c x d h = absurd (omega (arith, slice_get_within [] c x h))
map_at f (y ∷ xs) zero x d h = let same : y ≡ x = cc in ap f same
map_at f (y ∷ xs) (suc c) x d h = map_at f xs c x d h

pub six_at : (ks : List Controller) (c : ℕ) (k : Controller) → AllHaveSix ks → slice_get ks c ≡ Some k → HasSixLists k
six_at [] c k h at = absurd (omega (arith, slice_get_within [] c k at))
six_at (x ∷ ks) zero k h at = let same : x ≡ k = cc in subst HasSixLists same h.0
six_at (x ∷ ks) (suc c) k h at = six_at ks c k h.1 at

-- whether messages wait
has_some : (m : Msg) (ms : List Msg) → has_messages (m ∷ ms) ≡ true
has_some m ms = ap not (ne_eqb (length (m ∷ ms)) 0 (λ z. absurd (omega (arith, z))))

some_there : (m : Msg) (ms : List Msg) (lists : List (List Msg)) → list_any has_messages ((m ∷ ms) ∷ lists) ≡ true
some_there m ms lists = ap (λ (b : Bool). b || list_any has_messages lists) (has_some m ms)

pub none_waits : (lists : List (List Msg)) → list_any has_messages lists ≡ false → (p : ℕ) → pending_of lists p ≡ []
none_waits [] h p = refl
none_waits ([] ∷ lists) h zero = refl
none_waits ([] ∷ lists) h (suc p) = none_waits lists h p
none_waits ((m ∷ ms) ∷ lists) h p = absurd (true≢false (sym (some_there m ms lists) ∙ h))

pub none_in : (lists : List (List Msg)) → list_any has_messages lists ≡ false → messages_in lists ≡ []
none_in [] h = refl
none_in ([] ∷ lists) h = none_in lists h
none_in ((m ∷ ms) ∷ lists) h = absurd (true≢false (sym (some_there m ms lists) ∙ h))

pub all_empty : (lists : List (List Msg)) → ((p : ℕ) → pending_of lists p ≡ []) → list_any has_messages lists ≡ false
all_empty [] h = refl
all_empty ([] ∷ lists) h = all_empty lists (λ p. h (suc p))
all_empty ((m ∷ ms) ∷ lists) h = let none : m ∷ ms ≡ [] = h 0 in absurd cc

is_true : (b : Bool) → (b ≡ false → ⊥) → b ≡ true
is_true true h = refl
is_true false h = absurd (h refl)

pub some_waits : (lists : List (List Msg)) (p : ℕ) → 0 < length (pending_of lists p) → list_any has_messages lists ≡ true
some_waits lists p h =
    is_true (list_any has_messages lists) (λ none.
    let empty : length (pending_of lists p) ≡ 0 = ap (λ (z : List Msg). length z) (none_waits lists none p) in
    absurd (omega arith))

-- what waits, by priority
map_messages : (g : Msg → Left) (lists : List (List Msg)) → map g (messages_in lists) ≡ flat_map (λ (ms : List Msg). map g ms) lists
map_messages g [] = refl
map_messages g (ms ∷ lists) = map-append g ms (messages_in lists) ∙ ap (λ (z : List Left). map g ms ++ z) (map_messages g lists)

in_six : (g : Msg → Left) (lists : List (List Msg)) → length lists ≡ 6 → flat_map (λ (p : ℕ). map g (pending_of lists p)) priorities ≡ flat_map (λ (ms : List Msg). map g ms) lists
in_six g [] h = absurd (omega arith)
in_six g (a ∷ []) h = absurd (omega arith)
in_six g (a ∷ b ∷ []) h = absurd (omega arith)
in_six g (a ∷ b ∷ c ∷ []) h = absurd (omega arith)
in_six g (a ∷ b ∷ c ∷ d ∷ []) h = absurd (omega arith)
in_six g (a ∷ b ∷ c ∷ d ∷ e ∷ []) h = absurd (omega arith)
in_six g (a ∷ b ∷ c ∷ d ∷ e ∷ f ∷ []) h = refl
in_six g (a ∷ b ∷ c ∷ d ∷ e ∷ f ∷ x ∷ lists) h = absurd (omega arith)

pub six_lists : (g : Msg → Left) (lists : List (List Msg)) → length lists ≡ 6 → flat_map (λ (p : ℕ). map g (pending_of lists p)) priorities ≡ map g (messages_in lists)
six_lists g lists h = in_six g lists h ∙ sym (map_messages g lists)

pub flat_nothing : (f : ℕ → List Left) (xs : List ℕ) → ((x : ℕ) → f x ≡ []) → flat_map f xs ≡ []
flat_nothing f [] h = refl
flat_nothing f (x ∷ xs) h = ap (λ (z : List Left). z ++ flat_map f xs) (h x) ∙ flat_nothing f xs h

-- what waits for each controller
pub left_rows : (f : ℕ → List Left) (c : ℕ) (ks : List Controller)
    → ((i : ℕ) (k : Controller) → slice_get ks i ≡ Some k → f (c + i) ≡ map (left (c + i) true) (messages_in k.mail.pending))
    → flat_map f (range_with_len c (length ks)) ≡ left_from c ks
left_rows f c [] h = refl
left_rows f c (k ∷ ks) h =
    let start : c + 0 ≡ c = omega arith in
    let here : f c ≡ map (left c true) (messages_in k.mail.pending) = subst (λ (z : ℕ). f z ≡ map (left z true) (messages_in k.mail.pending)) start (h 0 k refl) in
    let there : flat_map f (range_with_len (c + 1) (length ks)) ≡ left_from (c + 1) ks = left_rows f (c + 1) ks (λ i x at.
    let same : c + suc i ≡ (c + 1) + i = omega arith in
    subst (λ (z : ℕ). f z ≡ map (left z true) (messages_in x.mail.pending)) same (h (suc i) x at)) in
    ap (λ (z : List Left). z ++ flat_map f (range_with_len (c + 1) (length ks))) here
    ∙ ap (λ (z : List Left). map (left c true) (messages_in k.mail.pending) ++ z) there

pub none_left : (c : ℕ) (ks : List Controller) → ((i : ℕ) (k : Controller) → slice_get ks i ≡ Some k → list_any has_messages k.mail.pending ≡ false) → left_from c ks ≡ []
none_left c [] h = refl
none_left c (k ∷ ks) h =
    ap (λ (z : List Msg). map (left c true) z ++ left_from (c + 1) ks) (none_in k.mail.pending (h 0 k refl)) ∙ none_left (c + 1) ks (λ i x at. h (suc i) x at)

-- the numbers of lines
number_is : (t : Tables) (n : ℕ) (w : What) → number_of (item_of t n w) ≡ n
number_is t n whats.Settle = refl
number_is t n (whats.Advance time) = refl
number_is t n (whats.Message target signal payload prio) = refl

-- the numbers of items are those of their lines
pub map_numbers : (t : Tables) (lines : List Line) → map number_of (items_of t lines) ≡ map (λ (l : Line). l.number) lines
map_numbers t [] = refl
map_numbers t (l ∷ lines) =
    ap (λ (z : ℕ). z ∷ map number_of (items_of t lines)) (number_is t l.number l.what) ∙ ap (λ (z : List ℕ). l.number ∷ z) (map_numbers t lines)

-- one controller more has told
pub told_more : (c : ℕ) (ks : List Controller) (k : Controller) (rest : List Controller) (js : List (List Entry)) (ls more : List Left)
    → AreTold c ks (k ∷ rest) js ls → length k.mail.pending ≡ 6 → more ≡ map (left c true) (messages_in k.mail.pending)
    → AreTold (c + 1) ks rest (js ++ k.mail.journal ∷ []) (ls ++ more)
told_more c ks k rest js ls more t six is = record {
  count = omega (arith, t.count);
  journals_are = append_assoc js (k.mail.journal ∷ []) (journals_in rest) ∙ t.journals_are;
  left_is = append_assoc ls more (left_from (c + 1) rest) ∙ ap (λ (z : List Left). ls ++ (z ++ left_from (c + 1) rest)) is ∙ t.left_is;
  six = λ h. t.six (six, h);
}

-- the last of a list in reverse comes first
pub reverse_last : {X : Type 0} (xs : List X) (x : X) → reverse (xs ++ x ∷ []) ≡ x ∷ reverse xs
reverse_last xs x = reverse-append xs (x ∷ [])
