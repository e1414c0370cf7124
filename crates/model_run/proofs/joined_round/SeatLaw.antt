-- Controllers in their seats, before and after the workers.
use Rattle.std.proofs.Common.{inl, inr, ◌≡◌, ℕ, zero, suc, ◌+◌, ◌<◌, ◌≤◌, List, [], ◌∷◌, ◌++◌, length, map, get_or, slice_get, Some, None, refl, sym, ap, ◌∙◌, subst, arith}
use Rattle.std.proofs.lemmas.Bool.{cases_eq}
use Rattle.std.proofs.lemmas.List.{length_push, length-map, map-append, get_or_push, get_or_append_left, get_or-append_right}
use Rattle.std.proofs.lemmas.Option.{slice_get_within, get_or_from_slice_get, slice_get-get_or}
use Rattle.mail_core.specs.EndLog.{EndLog, fresh}
use Rattle.mail_core.specs.Lanes.{log_at}
use Rattle.mail_core.specs.Tied.{StaysTied}
use Rattle.mail_core.proofs.Tied.{IsTied-at, log_at-map}
use Rattle.mail_core.proofs.TieAll.{tied_all, stays_from}
use Rattle.controller_actors.specs.declared.plant.Plant.{Plant}
use Rattle.controller.specs.View.{Controller}
use Rattle.model_run.specs.declared.joined_round.seat.Seat.{Seat}
use Rattle.model_run.specs.run_worker.Works.{Works}
use Rattle.model_run.specs.joined_round.Joined.{AllStand, WorkedAt, HaveWorked, seat}
use Rattle.model_run.specs.joined_round.Seats.{Each, CanWork, HasWorked, AreSeated}
use Rattle.controller.proofs.Standing.{some_at}
use Rattle.model_run.proofs.joined_round.JoinLaw.{same_there}

front_at : {X : Type 0} (xs ys : List X) (c : ℕ) (x : X) → slice_get xs c ≡ Some x → slice_get (xs ++ ys) c ≡ Some x
front_at [] ys c x h = absurd cc
front_at (y ∷ xs) ys zero x h = h
front_at (y ∷ xs) ys (suc c) x h = front_at xs ys c x h

map_at : {X Y : Type 0} (f : X → Y) (xs : List X) (c : ℕ) (x : X) → slice_get xs c ≡ Some x → slice_get (map f xs) c ≡ Some (f x)
map_at f [] c x h = absurd cc
map_at f (y ∷ xs) zero x h = ap (elim [ None ↦ None | Some z ↦ Some (f z) ]) h
map_at f (y ∷ xs) (suc c) x h = map_at f xs c x h

none_at : {X : Type 0} (xs : List X) (c : ℕ) → length xs ≤ c → slice_get xs c ≡ None
none_at [] c h = refl
none_at (x ∷ xs) zero h = absurd (omega arith)
none_at (x ∷ xs) (suc c) h = none_at xs c (omega arith)

each_at : {S : Type 0} (R : S → S → Type 0) (xs ys : List S) → Each R xs ys → (c : ℕ) (x : S) → slice_get xs c ≡ Some x → (y : S) × (slice_get ys c ≡ Some y) × R x y
each_at R xs ys e c x at =
    let inside : c < length xs = slice_get_within xs c x at in
    let o = some_at ys c (omega (arith, e.count)) in
    let old : get_or xs c x ≡ x = get_or_from_slice_get xs c x x at in
    let new : get_or ys c x ≡ o.0 = get_or_from_slice_get ys c o.0 x o.1 in
    (o.0, o.1, subst (λ (z : _). R x z) new (subst (λ (z : _). R z (get_or ys c x)) old (e.each c x inside)))

-- one seat more
pub numbers_push : {E : Type 0} (seats seats' : List (Seat E)) (s : Seat E) (k : ℕ) → seats' ≡ seats ++ s ∷ [] → length seats ≡ k → ((i : ℕ) (d : Seat E) → i < k → (get_or seats i d).number ≡ i)
    → s.number ≡ k → (i : ℕ) (d : Seat E) → i < k + 1 → (get_or seats' i d).number ≡ i
numbers_push {E} seats seats' s k e l each one i d h = rw e (elim (cases_eq i k) [
  | inl same ↦
      let new : get_or (seats ++ s ∷ []) i d ≡ s = get_or_push seats s d i (l ∙ sym same) in
      ap (λ (z : Seat E). z.number) new ∙ one ∙ sym same
  | inr other ↦
      let inside : i < length seats = omega arith in
      let old : get_or (seats ++ s ∷ []) i d ≡ get_or seats i d = get_or_append_left seats (s ∷ []) d i inside in
      ap (λ (z : Seat E). z.number) old ∙ each i d (omega arith)
])

abbrev pub sits : {E : Type 0} → Seat E → Controller
sits s = s.controller

abbrev pub end_in : {E : Type 0} → Seat E → E
end_in s = s.end

module _ {E : Type 0} (log : E → EndLog) (tied : Unit {0} → List E → Type 0)
    (in_order : (office : Unit {0}) (ends : List E) (k : ℕ) (e : E) → tied office ends → slice_get ends k ≡ Some e → ((log e).party ≡ k) × ((log e).parties ≡ length ends))
    (plant : Plant) (ks : List Controller) (stand : AllStand plant ks) (all ends : List E) (env : E) (split : all ≡ ends ++ env ∷ [])
    (count : length all ≡ length plant.wiring.controllers + 1) (t : tied tt all) (seats : List (Seat E)) (seated : AreSeated ks ends seats) where
  at_end : (i : ℕ) (s : Seat E) → slice_get seats i ≡ Some s → slice_get all i ≡ Some s.end
  at_end i s h =
      subst (λ (es : List E). slice_get es i ≡ Some s.end) (sym split)
      (front_at ends (env ∷ []) i s.end (subst (λ (es : List E). slice_get es i ≡ Some s.end) seated.ends_are (map_at end_in seats i s h)))

  at_controller : (i : ℕ) (s : Seat E) → slice_get seats i ≡ Some s → slice_get ks i ≡ Some s.controller
  at_controller i s h = subst (λ (xs : List Controller). slice_get xs i ≡ Some s.controller) seated.controllers (map_at sits seats i s h)

  seat_count : length seats ≡ length ks
  seat_count = sym (length-map seats sits) ∙ ap length seated.controllers

  end_count : length seats ≡ length ends
  end_count = sym (length-map seats end_in) ∙ ap length seated.ends_are

  pub can_sit : (i : ℕ) (d : Seat E) → i < length seats → CanWork log tied plant (get_or seats i d)
  can_sit i d h =
      let s : Seat E = get_or seats i d in
      let here : slice_get seats i ≡ Some s = slice_get-get_or seats i d h in
      let order = in_order tt all i s.end t (at_end i s here) in
      let me : s.controller.me.0 ≡ i = stand.me i s.controller (at_controller i s here) in
      record {
        of = stand.of i s.controller (at_controller i s here);
        number = seated.numbers i d h ∙ sym me;
        party = order.0 ∙ sym me;
        parties = order.1 ∙ count;
        together = IsTied-at log in_order i t (at_end i s here);
      }

  module _ (after : List (Seat E)) (worked : Each (HasWorked log tied plant) seats after) where
    abbrev logs' : List EndLog
    logs' = map log (map end_in after ++ env ∷ [])

    below : (c : ℕ) → c < length ks → WorkedAt plant c (seat ks (map log all) c) (seat (map sits after) logs' c)
    below c h k at =
        let o = some_at seats c (omega (arith, seat_count)) in
        let w = each_at (HasWorked log tied plant) seats after worked c o.0 o.1 in
        let same : o.0.controller ≡ k = same_there (slice_get ks c) o.0.controller k (at_controller c o.0 o.1) at in
        let was : log_at (map log all) c ≡ log o.0.end = log_at-map log all c o.0.end (at_end c o.0 o.1) in
        let is : log_at logs' c ≡ log w.0.end = log_at-map log (map end_in after ++ env ∷ []) c w.0.end (front_at (map end_in after) (env ∷ []) c w.0.end (map_at end_in after c w.0 w.1)) in
        let works : Works plant o.0.controller w.0.controller (log_at (map log all) c) (log_at logs' c) = rw (was, is) w.2.works in
        (w.0.controller, map_at sits after c w.0 w.1, (subst (λ (z : Controller). Works plant z w.0.controller (log_at (map log all) c) (log_at logs' c)) same works, w.2.of))

    after_count : length (map end_in after) ≡ length ends
    after_count = length-map after end_in ∙ worked.count ∙ end_count

    pub sat_logs : length logs' ≡ length (map log all)
    sat_logs =
        let new : length logs' ≡ length (map end_in after ++ env ∷ []) = length-map (map end_in after ++ env ∷ []) log in
        let old : length (map log all) ≡ length (ends ++ env ∷ []) = length-map all log ∙ ap length split in
        let more : length (map end_in after ++ env ∷ []) ≡ length (map end_in after) + 1 = length_push (map end_in after) env in
        let less : length (ends ++ env ∷ []) ≡ length ends + 1 = length_push ends env in
        omega (arith, after_count)

    log_above : (c : ℕ) → length ks ≤ c → log_at logs' c ≡ log_at (map log all) c
    log_above c h =
        let n : length ends ≤ c = omega (arith, end_count, seat_count) in
        let new : logs' ≡ map log (map end_in after) ++ log env ∷ [] = map-append log (map end_in after) (env ∷ []) in
        let old : map log all ≡ map log ends ++ log env ∷ [] = ap (map log) split ∙ map-append log ends (env ∷ []) in
        let one : length (map log (map end_in after)) ≡ length ends = length-map (map end_in after) log ∙ after_count in
        let two : length (map log ends) ≡ length ends = length-map ends log in
        ap (λ (z : List EndLog). log_at z c) new
        ∙ (get_or-append_right (map log (map end_in after)) (log env ∷ []) (length ends) c (fresh 0 0) one n
        ∙ sym (get_or-append_right (map log ends) (log env ∷ []) (length ends) c (fresh 0 0) two n))
        ∙ ap (λ (z : List EndLog). log_at z c) (sym old)

    above : (c : ℕ) → length ks ≤ c → seat (map sits after) logs' c ≡ seat ks (map log all) c
    above c h =
        let none : slice_get (map sits after) c ≡ None = none_at (map sits after) c (omega (arith, length-map after sits, worked.count, seat_count)) in
        let none_before : slice_get ks c ≡ None = none_at ks c h in
        let both : slice_get (map sits after) c ≡ slice_get ks c = none ∙ sym none_before in
        let same : log_at logs' c ≡ log_at (map log all) c = log_above c h in
        λ j. (both j, same j)

    pub have_worked : HaveWorked plant ks (map log all) (map sits after) logs'
    have_worked = record {
      steps = record { below = below; above = above };
      count = length-map after sits ∙ worked.count ∙ seat_count;
      parties = sat_logs;
    }

    pub tied_after : tied tt (map end_in after ++ env ∷ [])
    tied_after =
        tied_all tied [] (map end_in seats) (map end_in after) (env ∷ [])
        (stays_from tied end_in 0 seats after worked.count (λ i d h.
        let s : Seat E = get_or seats i d in
        let order : (log s.end).party ≡ i = (in_order tt all i s.end t (at_end i s (slice_get-get_or seats i d h))).0 in
        let here : (log s.end).party ≡ 0 + i = order ∙ omega arith in
        subst (λ (j : ℕ). StaysTied tied j tt tt s.end (get_or after i d).end) here (worked.each i d h).stays))
        (subst (tied tt) (split ∙ ap (λ (es : List E). es ++ env ∷ []) (sym seated.ends_are)) t)
