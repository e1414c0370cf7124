-- The lanes at the close, one after another.
use Rattle.std.proofs.Common.{◌≡◌, ℕ, ◌+◌, ◌*◌, ◌-◌, ◌<◌, inl, inr, List, [], ◌++◌, length, map, slice_get, Option, Some, None, sym, ap, subst, refl, ◌∙◌, arith, true, append_assoc}
use Rattle.std.proofs.Common.{Result, Ok, Err, IfOk}
use Rattle.std.specs.Global.{Vec}
use Rattle.std.proofs.lemmas.Bool.{cases_eq}
use Rattle.std.proofs.lemmas.List.{get_or-map, length-map, map_push, append-nil}
use Rattle.std.proofs.lemmas.Option.{get_or_from_slice_get, none-some, same_Some}
use Rattle.room_kinds.specs.declared.message.Msg.{Msg}
use Rattle.mail_core.specs.EndLog.{EndLog, fresh}
use Rattle.mail_core.specs.Lanes.{log_at}
use Rattle.mail_core.specs.SetUp.{in_poll_order, IsLeft}
use Rattle.mail_lanes.specs.declared.ends.MailLanes.{MailLanes}
use Rattle.mail_lanes.specs.Lanes.{OutLane, InLane, out_at, in_at}
use Rattle.mail_lanes.specs.Wires.{OutWire, InWire, IsInOf, IsOutOf, out_wire, in_wire}
use Rattle.mail_lanes.specs.Parts.{in_wire_of, out_wire_of}
use Rattle.mail_lanes.specs.Ends.{outs_of, ins_of, wiring_of, log_of, taken_in, posted_at, taken_at, AreTied, Joined}
use Rattle.mail_lanes.specs.Made.{row_at, tab_at}
use Rattle.mail_lanes.specs.Settle.{CanSettle, left_in, out_of, in_of, left_at, CanAt, SettledAt, IsTable, Same}
use Rattle.mail_lanes.proofs.EndLemmas.{by_six-within}
use Rattle.mail_lanes.proofs.SetUpLemmas.{out_wire-row, in_wire-tab, some_within}

pub Same-refl : {n : ℕ} {P : ℕ → ℕ → ℕ → Type 0} {rows : List (List OutLane)} {tabs : List (List (Option InLane))} → IsTable n rows tabs → Same n P rows rows tabs tabs
Same-refl t = record { table = t; outs = λ s r p a b c h. refl; ins = λ s r p a b c h. refl }

-- one change after another
pub Same-step : {n : ℕ} {P Q : ℕ → ℕ → ℕ → Type 0} (R : ℕ → ℕ → ℕ → Type 0) {rows rows' rows'' : List (List OutLane)} {tabs tabs' tabs'' : List (List (Option InLane))} →
    Same n P rows rows' tabs tabs' → Same n Q rows' rows'' tabs' tabs'' → ((s r p : ℕ) → s < n → r + 1 < n → p < 6 → R s r p → P s r p × Q s r p) → Same n R rows rows'' tabs tabs''
Same-step R x y both = record {
  table = y.table;
  outs = λ s r p a b c h. let k = both s r p a b c h in y.outs s r p a b c k.1 ∙ x.outs s r p a b c k.0;
  ins = λ s r p a b c h. let k = both s r p a b c h in y.ins s r p a b c k.1 ∙ x.ins s r p a b c k.0;
}

-- what is said of a lane that is as it was
pub carried : {n : ℕ} {P : ℕ → ℕ → ℕ → Type 0} {rows rows' : List (List OutLane)} {tabs tabs' : List (List (Option InLane))} (F : OutLane → Option InLane → Type 0) (s r p : ℕ) → Same n P rows rows' tabs tabs' → s < n → r + 1 < n → p < 6 → P s r p →
    F (out_of rows tabs s r p) (in_of rows tabs s r p) → F (out_of rows' tabs' s r p) (in_of rows' tabs' s r p)
carried {rows = rows} {rows' = rows'} {tabs = tabs} {tabs' = tabs'} F s r p x a b c h f =
    subst (λ o. F o (in_of rows' tabs' s r p)) (sym (x.outs s r p a b c h)) (subst (λ i. F (out_of rows tabs s r p) i) (sym (x.ins s r p a b c h)) f)

pub carried_back : {n : ℕ} {P : ℕ → ℕ → ℕ → Type 0} {rows rows' : List (List OutLane)} {tabs tabs' : List (List (Option InLane))} (F : OutLane → Option InLane → Type 0) (s r p : ℕ) → Same n P rows rows' tabs tabs' → s < n → r + 1 < n → p < 6 → P s r p →
    F (out_of rows' tabs' s r p) (in_of rows' tabs' s r p) → F (out_of rows tabs s r p) (in_of rows tabs s r p)
carried_back {rows = rows} {rows' = rows'} {tabs = tabs} {tabs' = tabs'} F s r p x a b c h f =
    subst (λ o. F o (in_of rows tabs s r p)) (x.outs s r p a b c h) (subst (λ i. F (out_of rows' tabs' s r p) i) (x.ins s r p a b c h) f)

pub left_stays : {n : ℕ} {P : ℕ → ℕ → ℕ → Type 0} {rows rows' : List (List OutLane)} {tabs tabs' : List (List (Option InLane))} (s r p : ℕ) → Same n P rows rows' tabs tabs' → s < n → r + 1 < n → p < 6 → P s r p → left_at rows' tabs' s r p ≡ left_at rows tabs s r p
left_stays {rows = rows} {tabs = tabs} s r p x a b c h = carried (λ o i. left_in o i ≡ left_at rows tabs s r p) s r p x a b c h refl

pub ruleset close_steps = (Same-refl)

pub ruleset apart_steps = (map_push, append-nil, append_assoc)

can_settle : (s r p : ℕ) (o : OutWire) (i : Option InWire) → IsOutOf s r p o → IsInOf s r p i → Joined o i → CanSettle o i
can_settle s r p o None out into joined = absurd (none-some (s, r, p) into)
can_settle s r p o (Some i) out into joined =
    let triple : ◌≡◌ {A = ℕ × ℕ × ℕ} (i.from, i.to, i.prio) (s, r, p) = same_Some _ _ into in
    (joined, ap (λ x. x.0) triple ∙ sym out.0, ap (λ x. x.1) triple ∙ sym out.1, ap (λ x. x.2) triple ∙ sym out.2)

taken_in-any : (s r p : ℕ) (o o' : OutLane) (i : Option InLane) → IsInOf s r p (in_wire_of i) → taken_in o i ≡ taken_in o' i
taken_in-any s r p o o' None w = absurd (none-some (s, r, p) w)
taken_in-any s r p o o' (Some i) w = refl

own_settle : (o : OutWire) (i : Option InWire) → o.takes ≡ true → i ≡ None → CanSettle o i
own_settle o i takes none = subst (λ x. CanSettle o x) (sym none) takes

-- the lanes of tied ends can be settled
module _ (ends : List MailLanes) (t : AreTied tt ends) where
  abbrev n : ℕ
  n = length ends

  abbrev rows : List (List OutLane)
  rows = map outs_of ends

  abbrev tabs : List (List (Option InLane))
  tabs = map ins_of ends

  end_at : (k : ℕ) → k < n → (e : MailLanes) × (slice_get ends k ≡ Some e) × (row_at rows k ≡ outs_of e) × (tab_at tabs k ≡ ins_of e) × (log_at (map log_of ends) k ≡ log_of e)
  end_at k h =
      elim (slice_get ends k) as (λ o. slice_get ends k ≡ o → (e : MailLanes) × (slice_get ends k ≡ Some e) × (row_at rows k ≡ outs_of e) × (tab_at tabs k ≡ ins_of e) × (log_at (map log_of ends) k ≡ log_of e)) [
        | None ↦ λ x. absurd (some_within ends k h x)
        | Some e ↦ λ x.
            let is = get_or_from_slice_get ends k e e x in
            (e, x, get_or-map outs_of ends k e [] h ∙ ap outs_of is, get_or-map ins_of ends k e [] h ∙ ap ins_of is, get_or-map log_of ends k e (fresh 0 0) h ∙ ap log_of is)
      ] refl

  out_len : (e : MailLanes) → length (outs_of e) + 6 ≡ e.parties * 6
  out_len e = ap (λ m. m + 6) (sym (length-map (outs_of e) out_wire_of)) ∙ e.wired.all_outs

  -- the end of a controller
  receives : (k : ℕ) (e : MailLanes) → slice_get ends k ≡ Some e → k + 1 < n → e.party + 1 < e.parties
  receives k e at h = let place = t.place k e at in omega (arith, h, place.0, place.1)

  in_len : (e : MailLanes) → e.party + 1 < e.parties → length (ins_of e) ≡ e.parties * 6
  in_len e me = sym (length-map (ins_of e) in_wire_of) ∙ e.wired.all_ins me

  pub table_of : IsTable n rows tabs
  table_of = record {
    row_count = length-map ends outs_of;
    tab_count = length-map ends ins_of;
    out_count = λ k h. let x = end_at k h in ap (λ os. length os + 6) x.2 ∙ out_len x.0 ∙ ap (λ m. m * 6) (t.place k x.0 x.1).1;
    in_count = λ k h. let x = end_at k (omega arith) in ap length x.3 ∙ in_len x.0 (receives k x.0 x.1 h) ∙ ap (λ m. m * 6) (t.place k x.0 x.1).1;
  }

  -- the two ends of a lane, as they are wired
  out_is : (s r p : ℕ) (e : MailLanes) → slice_get ends s ≡ Some e → row_at rows s ≡ outs_of e → r + 1 < n → p < 6 → (out_of rows tabs s r p).wire ≡ out_wire (wiring_of e) r p
  out_is s r p e at is b c =
      let place = t.place s e at in
      ap (λ os. (out_at os (r * 6 + p)).wire) is ∙ sym (out_wire-row e.party e.parties r p (outs_of e) (ins_of e) (out_len e) (rw place.1 b) c)

  in_is : (s r p : ℕ) (e : MailLanes) → slice_get ends r ≡ Some e → tab_at tabs r ≡ ins_of e → r + 1 < n → s < n → p < 6 → in_wire_of (in_of rows tabs s r p) ≡ in_wire (wiring_of e) s p
  in_is s r p e at is h b c =
      let place = t.place r e at in
      ap (λ is. in_wire_of (in_at is (s * 6 + p))) is ∙ sym (in_wire-tab e.party e.parties s p (outs_of e) (ins_of e) (in_len e (receives r e at h)) (rw place.1 b) c)

  pub can_all : (s r p : ℕ) → s < n → r + 1 < n → p < 6 → CanAt rows tabs s r p
  can_all s r p a b c =
      let x = end_at s a in
      let y = end_at r (omega (arith, b)) in
      let place_x = t.place s x.0 x.1 in
      let place_y = t.place r y.0 y.1 in
      let o = out_is s r p x.0 x.1 x.2 b c in
      let me = receives r y.0 y.1 b in
      let i = in_is s r p y.0 y.1 y.3 b a c in
      let out : IsOutOf s r p (out_wire (wiring_of x.0) r p) = subst (λ k. IsOutOf k r p (out_wire (wiring_of x.0) r p)) place_x.0 (x.0.wired.outs r p (rw place_x.1 b) c) in
      elim (cases_eq s r) [
        | inl same ↦
            let e = x.0 in
            let own : e.party ≡ r = place_x.0 ∙ same in
            let mine : e.party + 1 < e.parties = receives s e x.1 (omega (arith, b, same)) in
            let takes : (out_wire (wiring_of e) r p).takes ≡ true = subst (λ k. (out_wire (wiring_of e) k p).takes ≡ true) own (e.wired.own_out p mine c) in
            let both : y.0 ≡ e = same_Some _ _ (sym y.1 ∙ ap (slice_get ends) (sym same) ∙ x.1) in
            let none : in_wire (wiring_of y.0) s p ≡ None = subst (λ z. in_wire (wiring_of z) s p ≡ None) (sym both) (subst (λ k. in_wire (wiring_of e) k p ≡ None) place_x.0 (e.wired.own_in p mine c)) in
            own_settle _ _ (ap (λ (w : OutWire). w.takes) o ∙ takes) (i ∙ none)
        | inr other ↦
            let into : IsInOf s r p (in_wire (wiring_of y.0) s p) = subst (λ k. IsInOf s k p (in_wire (wiring_of y.0) s p)) place_y.0 (y.0.wired.ins s p me (rw place_y.1 a) c (λ z. other (z ∙ place_y.0))) in
            let joined = t.joined s r p x.0 y.0 x.1 y.1 b c other in
            subst (λ w. CanSettle w (in_wire_of (in_of rows tabs s r p))) (sym o) (subst (λ w. CanSettle (out_wire (wiring_of x.0) r p) w) (sym i) (can_settle s r p _ _ out into joined))
      ]

  -- what was taken of a lane, by its receiver's end
  taken_is : (s r p : ℕ) → s < n → r + 1 < n → p < 6 → (log_at (map log_of ends) r).taken s p ≡ taken_in (out_of rows tabs s r p) (in_of rows tabs s r p)
  taken_is s r p a b c =
      let x = end_at s a in
      let y = end_at r (omega (arith, b)) in
      let place_y = t.place r y.0 y.1 in
      let plain : (log_at (map log_of ends) r).taken s p ≡ taken_at (outs_of y.0) (ins_of y.0) (s * 6 + p) = ap (λ (l : EndLog). l.taken s p) y.4 ∙ by_six-within (taken_at (outs_of y.0) (ins_of y.0)) s p c in
      let ins : in_at (ins_of y.0) (s * 6 + p) ≡ in_of rows tabs s r p = ap (λ is. in_at is (s * 6 + p)) (sym y.3) in
      elim (cases_eq s r) [
        | inl same ↦
            let outs : out_at (outs_of y.0) (s * 6 + p) ≡ out_of rows tabs s r p = ap (λ os. out_at os (s * 6 + p)) (sym y.2) ∙ ap (λ k. out_at (row_at rows k) (s * 6 + p)) (sym same) ∙ ap (λ k. out_at (row_at rows s) (k * 6 + p)) same in
            plain ∙ ap (λ o. taken_in o (in_at (ins_of y.0) (s * 6 + p))) outs ∙ ap (taken_in (out_of rows tabs s r p)) ins
        | inr other ↦
            let into : IsInOf s r p (in_wire_of (in_of rows tabs s r p)) = subst (IsInOf s r p) (sym (in_is s r p y.0 y.1 y.3 b a c)) (subst (λ k. IsInOf s k p (in_wire (wiring_of y.0) s p)) place_y.0 (y.0.wired.ins s p (receives r y.0 y.1 b) (rw place_y.1 a) c (λ z. other (z ∙ place_y.0)))) in
            plain ∙ ap (taken_in (out_at (outs_of y.0) (s * 6 + p))) ins ∙ taken_in-any s r p (out_at (outs_of y.0) (s * 6 + p)) (out_of rows tabs s r p) (in_of rows tabs s r p) into
      ]

  posted_is : (s r p : ℕ) → s < n → p < 6 → (log_at (map log_of ends) s).posted r p ≡ (out_of rows tabs s r p).posted
  posted_is s r p a c =
      let x = end_at s a in
      ap (λ (l : EndLog). l.posted r p) x.4 ∙ by_six-within (posted_at (outs_of x.0)) r p c ∙ ap (λ os. (out_at os (r * 6 + p)).posted) (sym x.2)

  pub left_all : (answer : List (List Msg)) → length answer + 1 ≡ n → ((r : ℕ) → r + 1 < n → slice_get answer r ≡ Some (in_poll_order n (λ s p. left_at rows tabs s r p))) →
      ((s r p : ℕ) → s < n → r + 1 < n → p < 6 → SettledAt rows tabs s r p) → IsLeft (map log_of ends) answer
  left_all answer count order settled =
      let l = length-map ends log_of in
      record {
        left = λ s r p. left_at rows tabs s r p;
        kept = λ s r p a b c.
            let a' : s < n = rw (← l) a in
            let b' : r + 1 < n = rw (← l) b in
            ap (λ ms. ms ++ left_at rows tabs s r p) (taken_is s r p a' b' c) ∙ settled s r p a' b' c ∙ sym (posted_is s r p a' c);
        count = count ∙ sym l;
        order = subst (λ m. (r : ℕ) → r + 1 < m → slice_get answer r ≡ Some (in_poll_order m (λ s p. left_at rows tabs s r p))) (sym l) order;
      }

-- what the tables answer is what is left of the ends
pub answered : {E : Type 0} (ends : List MailLanes) (t : AreTied tt ends) (n : ℕ) (rows : List (List OutLane)) (tabs : List (List (Option InLane))) (r : Result (Vec (Vec Msg)) E) →
    n ≡ length ends → rows ≡ map outs_of ends → tabs ≡ map ins_of ends →
    IfOk r (λ v. length v.items + 1 ≡ n) →
    IfOk r (λ v. (r : ℕ) → r + 1 < n → slice_get (map (λ x. x.items) v.items) r ≡ Some (in_poll_order n (λ s p. left_at rows tabs s r p))) →
    IfOk r (λ _. (s r p : ℕ) → s < n → r + 1 < n → p < 6 → SettledAt rows tabs s r p) →
    IfOk r (λ left. IsLeft (map log_of ends) (map (λ v. v.items) left.items))
answered ends t n _ _ (Err x) e f g count order settled = tt
answered ends t n _ tabs (Ok v) e f g count order settled =
    left_all ends t (map (λ x. x.items) v.items) (ap (λ m. m + 1) (length-map v.items (λ x. x.items)) ∙ count ∙ e)
    (subst (λ m. (r : ℕ) → r + 1 < m → slice_get (map (λ x. x.items) v.items) r ≡ Some (in_poll_order m (λ s p. left_at (map outs_of ends) (map ins_of ends) s r p))) e
    (subst (λ ts. (r : ℕ) → r + 1 < n → slice_get (map (λ x. x.items) v.items) r ≡ Some (in_poll_order n (λ s p. left_at (map outs_of ends) ts s r p))) g
    (subst (λ os. (r : ℕ) → r + 1 < n → slice_get (map (λ x. x.items) v.items) r ≡ Some (in_poll_order n (λ s p. left_at os tabs s r p))) f order)))
    (subst (λ m. (s r p : ℕ) → s < m → r + 1 < m → p < 6 → SettledAt (map outs_of ends) (map ins_of ends) s r p) e
    (subst (λ ts. (s r p : ℕ) → s < n → r + 1 < n → p < 6 → SettledAt (map outs_of ends) ts s r p) g
    (subst (λ os. (s r p : ℕ) → s < n → r + 1 < n → p < 6 → SettledAt os tabs s r p) f settled)))
