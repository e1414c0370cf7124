-- The ends of one set-up after a step of one.
use Rattle.std.proofs.Common.{◌≡◌, ℕ, ◌<◌, inl, inr, List, length, set, get_or, slice_get, Some, sym, ap, refl, ◌∙◌, arith}
use Rattle.std.proofs.lemmas.Bool.{cases_eq}
use Rattle.std.proofs.lemmas.List.{length-set, get_or-set_same, get_or-set_other}
use Rattle.std.proofs.lemmas.Option.{slice_get_within, slice_get-get_or, get_or_from_slice_get}
use Rattle.mail_core.specs.Tied.{StaysTied}
use Rattle.mail_seg.specs.declared.ends.MailSeg.{MailSeg}
use Rattle.mail_seg.specs.Wires.{wire_at}
use Rattle.mail_seg.specs.Ends.{wiring_of, AreTied}

-- what stands at a place, in the list with one end replaced, has the wiring of what stood there
back : (ends : List MailSeg) (p k : ℕ) (e e' x : MailSeg) → slice_get ends p ≡ Some e → wiring_of e' ≡ wiring_of e → slice_get (set ends p e') k ≡ Some x →
    (y : MailSeg) × (slice_get ends k ≡ Some y) × (wiring_of x ≡ wiring_of y)
back ends p k e e' x at same there =
    let within : k < length ends = let h = slice_get_within (set ends p e') k x there in omega (arith, h, length-set ends p e') in
    let is : get_or (set ends p e') k x ≡ x = get_or_from_slice_get (set ends p e') k x x there in
    elim (cases_eq k p) [
      | inl here ↦
          let new : x ≡ e' = sym is ∙ ap (λ j. get_or (set ends p e') j x) here ∙ get_or-set_same ends p e' x (slice_get_within ends p e at) in
          (e, ap (slice_get ends) here ∙ at, ap wiring_of new ∙ same)
      | inr other ↦
          let old : get_or ends k x ≡ x = sym (get_or-set_other ends p k e' x other) ∙ is in
          (x, slice_get-get_or ends k x within ∙ ap Some old, refl)
    ]

-- a step keeps the wiring of its end
pub StaysTied-wired : {p : ℕ} {o o' : Unit {0}} {e e' : MailSeg} → wiring_of e' ≡ wiring_of e → StaysTied AreTied p o o' e e'
StaysTied-wired {p = p} {e = e} {e' = e'} same = record {
  again = λ ends t at. record {
    place = λ k x there.
        let old = back ends p k e e' x at same there in
        let stood = t.place k old.0 old.1 in
        (ap (λ w. w.party) old.2 ∙ stood.0, ap (λ w. w.parties) old.2 ∙ stood.1 ∙ sym (length-set ends p e'));
    one_queue = λ s t' r b a c from to inside low.
        let old_a = back ends p s e e' a at same from in
        let old_c = back ends p t' e e' c at same to in
        ap (λ w. (wire_at w r b).queue) old_a.2
        ∙ t.one_queue s t' r b old_a.0 old_c.0 old_a.1 old_c.1 (rw length-set at inside) low
        ∙ ap (λ w. (wire_at w r b).queue) (sym old_c.2);
  };
}

pub ruleset tied_steps = (StaysTied-wired)
