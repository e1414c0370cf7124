-- The numbers of bases.
use Rattle.std.proofs.Common.{◌≡◌, ℕ, zero, suc, ◌≤◌, Bool, true, List, [], ◌∷◌, ◌++◌, length, map, Option, Some, None, refl, sym, ap, ◌∙◌, arith}
use Rattle.std.specs.Prelude.{is_some, option_map, slice_get, slice_set, if◌then◌else◌}
use Rattle.std.specs.Option.{option_and_then, option_to_list}
use Rattle.room_ast.specs.Trees.{ClassTree, ASystem, ASubsystem, AnActor, AProtocol, AData, ActorTree, actor_view, class_view}
use Rattle.room_ast.specs.declared.actor.ActorClass.{ActorClass}
use Rattle.room_ast.specs.declared.model.Class.{Class}
use Rattle.room_ast.specs.model_parts.Classes.{as_actor, class_name, number_in}
use Rattle.room_inherit.specs.Filling.{there_at, base_there, put_new, taken_over, with_actor, with_class, put_at, replaced_by, replaced}
use Rattle.room_inherit.specs.Flat.{number_above, actor_at}
use Rattle.room_inherit.specs.Views.{flat_views}
use Rattle.room_inherit.specs.Rules.{extended, of_actor, has_known_base}

-- the number of the class that a class extends, by the names of all classes
abbrev pub above_in : List (List ℕ) → ClassTree → Option ℕ
above_in names c = option_and_then (number_in names) (option_and_then (λ (a : ActorTree). a.base) (as_actor c))

above : (classes : List ClassTree) (c : ClassTree) → above_in (map class_name classes) c ≡ number_above classes c
above classes (ASystem s) = refl
above classes (ASubsystem s) = refl
above classes (AnActor a) = refl
above classes (AProtocol p) = refl
above classes (AData d) = refl

each_extended : (classes : List ClassTree) (cs : List Class) → map (λ c. option_to_list (above_in (map class_name classes) (class_view c))) cs ≡ map (extended classes) (map class_view cs)
each_extended classes [] = refl
each_extended classes (c ∷ cs) =
    ap (λ o. option_to_list o ∷ map (λ d. option_to_list (above_in (map class_name classes) (class_view d))) cs) (above classes (class_view c)) ∙ ap (λ ns. extended classes (class_view c) ∷ ns) (each_extended classes cs)

pub all_extended : (classes : List ClassTree) (names : List (List ℕ)) (cs : List Class) (v : List (List ℕ)) → names ≡ map class_name classes → v ≡ map (λ c. option_to_list (above_in names (class_view c))) cs → v ≡ map (extended classes) (map class_view cs)
all_extended classes names cs v e f = f ∙ ap (λ ns. map (λ c. option_to_list (above_in ns (class_view c))) cs) e ∙ each_extended classes cs

-- whether a base names an actor class, as it is looked up
known_in : (classes : List ClassTree) (c : ClassTree) →
    (if is_some (option_and_then (λ (a : ActorTree). a.base) (as_actor c)) then is_some (option_and_then (actor_at classes) (above_in (map class_name classes) c)) else true) ≡ of_actor (has_known_base classes) c
known_in classes (ASystem s) = refl
known_in classes (ASubsystem s) = refl
known_in classes (AnActor a) = refl
known_in classes (AProtocol p) = refl
known_in classes (AData d) = refl

pub known_base : (classes : List ClassTree) (names : List (List ℕ)) (c : ClassTree) (b : Bool) → names ≡ map class_name classes
    → b ≡ (if is_some (option_and_then (λ (a : ActorTree). a.base) (as_actor c)) then is_some (option_and_then (actor_at classes) (above_in names c)) else true) → b ≡ of_actor (has_known_base classes) c
known_base classes names c b e f =
    f ∙ ap (λ ns. if is_some (option_and_then (λ (a : ActorTree). a.base) (as_actor c)) then is_some (option_and_then (actor_at classes) (above_in ns c)) else true) e ∙ known_in classes c

-- ---- items of lists that are seen through a view

pub class_got : (cs : List Class) (k : ℕ) → slice_get (map class_view cs) k ≡ option_map class_view (slice_get cs k)
class_got [] k = refl
class_got (c ∷ cs) zero = refl
class_got (c ∷ cs) (suc k) = class_got cs k

pub flat_got : (fs : List (Option ActorClass)) (k : ℕ) → slice_get (flat_views fs) k ≡ option_map (λ (f : Option ActorClass). option_map actor_view f) (slice_get fs k)
flat_got [] k = refl
flat_got (f ∷ fs) zero = refl
flat_got (f ∷ fs) (suc k) = flat_got fs k

pub flat_set : (fs : List (Option ActorClass)) (k : ℕ) (f : Option ActorClass) → flat_views (slice_set fs k f) ≡ slice_set (flat_views fs) k (option_map actor_view f)
flat_set [] k f = refl
flat_set (g ∷ fs) zero f = refl
flat_set (g ∷ fs) (suc k) f = ap (λ gs. option_map actor_view g ∷ gs) (flat_set fs k f)

pub flat_past : (fs : List (Option ActorClass)) (k : ℕ) (f : Option ActorTree) → length fs ≤ k → slice_set (flat_views fs) k f ≡ flat_views fs
flat_past [] k f le = refl
flat_past (g ∷ fs) zero f le = absurd (omega arith)
flat_past (g ∷ fs) (suc k) f le = ap (λ gs. option_map actor_view g ∷ gs) (flat_past fs k f (omega arith))

pub class_set : (cs : List Class) (k : ℕ) (c : Class) → map class_view (slice_set cs k c) ≡ slice_set (map class_view cs) k (class_view c)
class_set [] k c = refl
class_set (d ∷ cs) zero c = refl
class_set (d ∷ cs) (suc k) c = ap (λ ds. class_view d ∷ ds) (class_set cs k c)

pub class_past : (cs : List Class) (k : ℕ) (c : ClassTree) → length cs ≤ k → slice_set (map class_view cs) k c ≡ map class_view cs
class_past [] k c le = refl
class_past (d ∷ cs) zero c le = absurd (omega arith)
class_past (d ∷ cs) (suc k) c le = ap (λ ds. class_view d ∷ ds) (class_past cs k c (omega arith))

-- ---- flat classes in the places of classes

replaced_none : (cs : List ClassTree) → replaced cs [] ≡ cs
replaced_none [] = refl
replaced_none (c ∷ cs) = refl

put_next : (c : ClassTree) (cs : List ClassTree) (k : ℕ) (f : Option ActorTree) → put_at (c ∷ cs) (suc k) f ≡ c ∷ put_at cs k f
put_next c cs k None = refl
put_next c cs k (Some f) = refl

-- the last flat class, put in its place first
trees_last : (cs : List ClassTree) (fs : List (Option ActorTree)) (f : Option ActorTree) → replaced cs (fs ++ f ∷ []) ≡ replaced (put_at cs (length fs) f) fs
trees_last [] [] None = refl
trees_last [] [] (Some f) = refl
trees_last [] (g ∷ fs) None = refl
trees_last [] (g ∷ fs) (Some f) = refl
trees_last (c ∷ cs) [] None = ap (λ ds. c ∷ ds) (replaced_none cs)
trees_last (c ∷ cs) [] (Some f) = ap (λ ds. AnActor f ∷ ds) (replaced_none cs)
trees_last (c ∷ cs) (g ∷ fs) f = ap (λ ds. replaced_by c g ∷ ds) (trees_last cs fs f) ∙ ap (λ ds. replaced ds (g ∷ fs)) (sym (put_next c cs (length fs) f))

views_push : (fs : List (Option ActorClass)) (f : Option ActorClass) → flat_views (fs ++ f ∷ []) ≡ flat_views fs ++ option_map actor_view f ∷ []
views_push [] f = refl
views_push (g ∷ fs) f = ap (λ gs. option_map actor_view g ∷ gs) (views_push fs f)

views_length : (fs : List (Option ActorClass)) → length (flat_views fs) ≡ length fs
views_length [] = refl
views_length (g ∷ fs) = ap suc (views_length fs)

pub replaced_last : (cs : List ClassTree) (fs gs : List (Option ActorClass)) (f : Option ActorClass) → fs ≡ gs ++ f ∷ [] → replaced cs (flat_views fs) ≡ replaced (put_at cs (length gs) (option_map actor_view f)) (flat_views gs)
replaced_last cs fs gs f e =
    ap (λ hs. replaced cs (flat_views hs)) e ∙ ap (replaced cs) (views_push gs f) ∙ trees_last cs (flat_views gs) (option_map actor_view f)
    ∙ ap (λ n. replaced (put_at cs n (option_map actor_view f)) (flat_views gs)) (views_length gs)

-- where none is left
pub replaced_done : (cs : List ClassTree) (fs : List (Option ActorClass)) → fs ≡ [] → replaced cs (flat_views fs) ≡ cs
replaced_done cs fs e = ap (λ gs. replaced cs (flat_views gs)) e ∙ replaced_none cs

-- ---- one more flat class

pub taken_there : (names : List (List ℕ)) (cs : List ClassTree) (flats seen : List (Option ActorClass)) (k : ℕ) (own : ActorTree) (at : Option ℕ) (base : Option ActorTree) (taken : Option ActorClass) (flat : ActorClass) (next : List (Option ActorTree)) → Some own ≡ actor_at cs k
    → at ≡ option_and_then (number_in names) own.base → base ≡ option_and_then (there_at (flat_views seen)) at → seen ≡ flats → option_map actor_view taken ≡ taken_over own base → taken ≡ Some flat → next ≡ put_new (flat_views flats) k (actor_view flat)
    → with_class names cs (flat_views flats) k ≡ Some next
taken_there names cs flats seen k own at base taken flat next here above below same over is put =
    ap (with_actor names (flat_views flats) k) (sym here)
    ∙ ap (λ (b : Option ActorTree). option_map (put_new (flat_views flats) k) (taken_over own b)) (sym based)
    ∙ ap (option_map (put_new (flat_views flats) k)) (sym over ∙ ap (option_map actor_view) is)
    ∙ ap Some (sym put)
  where
    based : base ≡ base_there names (flat_views flats) own
    based = below ∙ ap (λ fs. option_and_then (there_at (flat_views fs)) at) same ∙ ap (option_and_then (there_at (flat_views flats))) above
