-- Points by slot and port, of which one is written.
use Rattle.std.proofs.Common.{◌≡◌, ◌≢◌, ℕ, zero, suc, ◌<◌, ◌≤◌, Bool, true, false, cond, List, [], ◌∷◌, ◌++◌, length, get_or, set, ◌⊎◌, inl, inr, refl, sym, ap, ◌∙◌, arith}
use Rattle.std.proofs.Common.{get_or-set_other}
use Rattle.std.specs.Prelude.{slice_set, ◌==◌}
use Rattle.std.proofs.Math.Path.{fun_ext}
use Rattle.std.proofs.lemmas.Grind.{get_or-set_at}
use Rattle.std.proofs.lemmas.List.{get_or_past, length-set}
use Rattle.std.proofs.lemmas.Bool.{cases_eq, eq-eqb, ne_eqb}
use Rattle.actor_duties.specs.State as rows
use Rattle.actor_duties.specs.Words.{updated}
use Rattle.actor_duties.specs.Links.{updated_at}
use Rattle.layer_service.specs.layer_links.Kept.{PointState, unnamed, point_at, points_of, point_in, links_by, links_of, no_links, cleared, IsListed}

-- a function that is given the value that it has
pub updated_same : {A : Type 0} (f : ℕ → A) (at : ℕ) → updated f at (f at) ≡ f
unfolding updated
updated_same f at = fun_ext (λ n. go n (cases_eq n at))
  where
    go : (n : ℕ) → (n ≡ at) ⊎ (n ≢ at) → cond (n == at) (f at) (f n) ≡ f n
    go n (inl same) = ap (λ (b : Bool). cond b (f at) (f n)) (eq-eqb n at same) ∙ ap f (sym same)
    go n (inr other) = ap (λ (b : Bool). cond b (f at) (f n)) (ne_eqb n at other)

-- a field of what a function with another value gives
pub field_updated : {A B : Type 0} (h : A → B) (f : ℕ → A) (at : ℕ) (v : A) → (λ n. h (updated f at v n)) ≡ updated (λ n. h (f n)) at (h v)
unfolding updated
field_updated h f at v = fun_ext (λ n. go n (n == at))
  where
    go : (n : ℕ) (b : Bool) → h (cond b v (f n)) ≡ cond b (h v) (h (f n))
    go n true = refl
    go n false = refl

-- a list that is written at a place, as a function
pub written : {A : Type 0} (d : A) (xs : List A) (i : ℕ) (v : A) → i < length xs → (λ n. get_or (set xs i v) n d) ≡ updated (λ n. get_or xs n d) i v
unfolding updated
written {A = A} d xs i v lt = fun_ext (λ n. go n (cases_eq n i))
  where
    go : (n : ℕ) → (n ≡ i) ⊎ (n ≢ i) → get_or (set xs i v) n d ≡ cond (n == i) v (get_or xs n d)
    go n (inl same) = get_or-set_at xs i n v d same lt ∙ ap (λ (b : Bool). cond b v (get_or xs n d)) (sym (eq-eqb n i same))
    go n (inr other) = get_or-set_other xs i n v d other ∙ ap (λ (b : Bool). cond b v (get_or xs n d)) (sym (ne_eqb n i other))

-- a list with one more default at its end, as a function
pub lengthened : {A : Type 0} (d : A) (xs : List A) → ◌≡◌ {A = ℕ → A} (λ n. get_or (xs ++ d ∷ []) n d) (λ n. get_or xs n d)
lengthened {A = A} d xs = fun_ext (λ n. at d xs n)
  where
    at : (d : A) (ys : List A) (n : ℕ) → get_or (ys ++ d ∷ []) n d ≡ get_or ys n d
    at d [] zero = refl
    at d [] (suc n) = refl
    at d (y ∷ ys) zero = refl
    at d (y ∷ ys) (suc n) = at d ys n

-- one more slot without points
pub slot_listed : (slots : List (List PointState)) → points_of (slots ++ [] ∷ []) ≡ points_of slots
unfolding points_of
slot_listed slots = lengthened [] slots

-- one more port that was never named
pub port_listed : (points : List PointState) → point_at (points ++ unnamed ∷ []) ≡ point_at points
unfolding point_at
port_listed points = lengthened unnamed points

-- a slot whose points are written
pub points_written : (slots : List (List PointState)) (s : ℕ) (points : List PointState) → s < length slots → point_in (slice_set slots s points) ≡ updated (point_in slots) s (point_at points)
unfolding points_of point_in
points_written slots s points lt = ap (λ (f : ℕ → List PointState). λ n. point_at (f n)) (written [] slots s points lt) ∙ field_updated point_at (points_of slots) s points

-- a port that is written
pub point_written : (slots : List (List PointState)) (s p : ℕ) (v : PointState) → IsListed slots s p
    → point_in (slice_set slots s (slice_set (points_of slots s) p v)) ≡ updated_at (point_in slots) s p v
unfolding point_at point_in
point_written slots s p v listed = points_written slots s (slice_set (points_of slots s) p v) listed.slot ∙ ap (updated (point_in slots) s) (written unnamed (points_of slots s) p v listed.port)

-- a slot whose points are the same ones, in a list that is longer
pub points_same : (slots : List (List PointState)) (s : ℕ) (points : List PointState) → s < length slots → point_at points ≡ point_at (points_of slots s) → point_in (slice_set slots s points) ≡ point_in slots
unfolding point_in
points_same slots s points lt same = points_written slots s points lt ∙ ap (updated (point_in slots) s) same ∙ updated_same (point_in slots) s

-- a field at one point
field_updated_at : {A B : Type 0} (h : A → B) (f : ℕ → ℕ → A) (s p : ℕ) (v : A) → (λ a b. h (updated_at f s p v a b)) ≡ updated_at (λ a b. h (f a b)) s p (h v)
field_updated_at {A = A} {B = B} h f s p v =
    field_updated (λ (g : ℕ → A). λ b. h (g b)) f s (updated (f s) p v)
    ∙ ap (updated (λ a. λ b. h (f a b)) s) (field_updated h (f s) p v)

updated_at_same : {A : Type 0} (f : ℕ → ℕ → A) (s p : ℕ) → updated_at f s p (f s p) ≡ f
updated_at_same f s p = ap (updated f s) (updated_same (f s) p) ∙ updated_same f s

-- registrations and links
links : (ℕ → ℕ → rows.Registration) → (ℕ → ℕ → List rows.Link) → rows.Links
links r l = record { registrations = r; linked = l }

-- a registration is written
pub registration_written : (f : ℕ → ℕ → PointState) (s p : ℕ) (next : rows.Registration)
    → links_by (updated_at f s p (record (f s p) { registration = next })) ≡ record (links_by f) { registrations = updated_at (links_by f).registrations s p next }
unfolding links_by links
registration_written f s p next =
    let v : PointState = record (f s p) { registration = next } in
    ap (λ (r : ℕ → ℕ → rows.Registration). links r (λ a b. (updated_at f s p v a b).linked)) (field_updated_at (λ (x : PointState). x.registration) f s p v)
    ∙ ap (links (updated_at (λ a b. (f a b).registration) s p next))
    (field_updated_at (λ (x : PointState). x.linked) f s p v ∙ updated_at_same (λ a b. (f a b).linked) s p)

-- the links of a point are written
pub links_written : (f : ℕ → ℕ → PointState) (s p : ℕ) (next : List rows.Link)
    → links_by (updated_at f s p (record (f s p) { linked = next })) ≡ record (links_by f) { linked = updated_at (links_by f).linked s p next }
unfolding links_by links
links_written f s p next =
    let v : PointState = record (f s p) { linked = next } in
    ap (λ (r : ℕ → ℕ → rows.Registration). links r (λ a b. (updated_at f s p v a b).linked))
    (field_updated_at (λ (x : PointState). x.registration) f s p v ∙ updated_at_same (λ a b. (f a b).registration) s p)
    ∙ ap (links (λ a b. (f a b).registration)) (field_updated_at (λ (x : PointState). x.linked) f s p v)

-- nothing is listed
pub nothing_listed : links_of [] ≡ no_links
unfolding links_by point_in points_of point_at
nothing_listed = refl

-- an actor's registration, or its links, where one point is written
pub set_at : (slots : List (List PointState)) (s p : ℕ) (next : rows.Registration) → IsListed slots s p
    → links_of (slice_set slots s (slice_set (points_of slots s) p (record (point_in slots s p) { registration = next })))
    ≡ record (links_of slots) { registrations = updated_at (links_of slots).registrations s p next }
set_at slots s p next listed =
    ap links_by (point_written slots s p (record (point_in slots s p) { registration = next }) listed) ∙ registration_written (point_in slots) s p next

pub links_at : (slots : List (List PointState)) (s p : ℕ) (next : List rows.Link) → IsListed slots s p
    → links_of (slice_set slots s (slice_set (points_of slots s) p (record (point_in slots s p) { linked = next })))
    ≡ record (links_of slots) { linked = updated_at (links_of slots).linked s p next }
links_at slots s p next listed =
    ap links_by (point_written slots s p (record (point_in slots s p) { linked = next }) listed) ∙ links_written (point_in slots) s p next

-- no port of a slot was named
abbrev none_named : ℕ → PointState
none_named port = unnamed

cleared_by : (f : ℕ → ℕ → PointState) (s : ℕ) → links_by (updated f s none_named) ≡ cleared (links_by f) s
unfolding links_by links
cleared_by f s =
    ap (λ (r : ℕ → ℕ → rows.Registration). links r (λ a b. (updated f s none_named a b).linked)) (field_updated (λ (g : ℕ → PointState). λ b. (g b).registration) f s none_named)
    ∙ ap (links (updated (λ a. λ b. (f a b).registration) s (λ b. rows.Unnamed))) (field_updated (λ (g : ℕ → PointState). λ b. (g b).linked) f s none_named)

-- a slot whose points go
pub cleared_at : (slots : List (List PointState)) (s : ℕ) → s < length slots → links_of (slice_set slots s []) ≡ cleared (links_of slots) s
unfolding point_at
cleared_at slots s lt = ap links_by (points_written slots s [] lt) ∙ cleared_by (point_in slots) s

-- a slot that isn't listed
pub cleared_beyond : (slots : List (List PointState)) (s : ℕ) → length slots ≤ s → links_of slots ≡ cleared (links_of slots) s
unfolding point_in points_of point_at
cleared_beyond slots s past =
    let none : point_in slots s ≡ none_named = ap point_at (get_or_past slots s [] past) in
    ap links_by (sym (updated_same (point_in slots) s) ∙ ap (updated (point_in slots) s) none) ∙ cleared_by (point_in slots) s

-- the points of a slot, as they are read
pub read_points : (slots : List (List PointState)) (s : ℕ) (points : List PointState) → s < length slots → points ≡ get_or slots s points → points ≡ points_of slots s
unfolding points_of
read_points slots s points lt is = is ∙ same slots s lt points []
  where
    same : (slots : List (List PointState)) (s : ℕ) → s < length slots → (a b : List PointState) → get_or slots s a ≡ get_or slots s b
    same [] s lt a b = absurd (omega arith)
    same (x ∷ xs) zero lt a b = refl
    same (x ∷ xs) (suc s) lt a b = same xs s (omega arith) a b

-- where one function gives the points of two lists, what is kept of each port is the same
pub points_known : (a b : List (List PointState)) → points_of a ≡ points_of b → point_in a ≡ point_in b
unfolding point_in
points_known a b same = ap (λ (f : ℕ → List PointState). λ n. point_at (f n)) same

-- a port is listed in the points of a slot
pub listed_port : (slots : List (List PointState)) (s p : ℕ) (new : List PointState) → s < length slots → p < length new → IsListed (slice_set slots s new) s p
unfolding points_of
listed_port slots s p new lt listed =
    let there : points_of (slice_set slots s new) s ≡ new = get_or-set_at slots s s new [] refl lt in record {
      slot = rw length-set lt;
      port = rw there listed;
    }

-- where ports are listed in a slot, what is kept stays
pub kept_ports : (old slots : List (List PointState)) (s : ℕ) (points new : List PointState)
    → points_of slots ≡ points_of old → s < length slots → points ≡ get_or slots s points → point_at new ≡ point_at points → point_in (slice_set slots s new) ≡ point_in old
kept_ports old slots s points new known lt is same =
    points_same slots s new lt (same ∙ ap point_at (read_points slots s points lt is)) ∙ points_known slots old known

-- a listed port is one of the points that are read
pub port_there : (slots : List (List PointState)) (s p : ℕ) (points : List PointState) → IsListed slots s p → points ≡ get_or slots s points → p < length points
port_there slots s p points listed is = rw (read_points slots s points listed.slot is) listed.port

-- the registration of a listed port is written
pub registered_at : (old slots : List (List PointState)) (s p : ℕ) (points new : List PointState) (next : rows.Registration)
    → point_in slots ≡ point_in old → IsListed slots s p → points ≡ get_or slots s points → new ≡ slice_set points p (record (point_at points p) { registration = next })
    → links_of (slice_set slots s new) ≡ record (links_of old) { registrations = updated_at (links_of old).registrations s p next }
unfolding point_in
registered_at old slots s p points new next known listed is done =
    let whole : points ≡ points_of slots s = read_points slots s points listed.slot is in
    ap (λ (x : List PointState). links_of (slice_set slots s x)) (done ∙ ap (λ (x : List PointState). slice_set x p (record (point_at x p) { registration = next })) whole)
    ∙ set_at slots s p next listed
    ∙ ap (λ (f : ℕ → ℕ → PointState). record (links_by f) { registrations = updated_at (links_by f).registrations s p next }) known

-- the links of a listed port become others
pub relinked_at : (old slots : List (List PointState)) (s p : ℕ) (points new : List PointState) (step : List rows.Link → List rows.Link)
    → point_in slots ≡ point_in old → IsListed slots s p → points ≡ get_or slots s points → new ≡ slice_set points p (record (point_at points p) { linked = step (point_at points p).linked })
    → links_of (slice_set slots s new) ≡ record (links_of old) { linked = updated_at (links_of old).linked s p (step ((links_of old).linked s p)) }
unfolding point_in links_by
relinked_at old slots s p points new step known listed is done =
    let whole : points ≡ points_of slots s = read_points slots s points listed.slot is in
    ap (λ (x : List PointState). links_of (slice_set slots s x)) (done ∙ ap (λ (x : List PointState). slice_set x p (record (point_at x p) { linked = step (point_at x p).linked })) whole)
    ∙ links_at slots s p (step (point_in slots s p).linked) listed
    ∙ ap (λ (f : ℕ → ℕ → PointState). record (links_by f) { linked = updated_at (links_by f).linked s p (step (f s p).linked) }) known
