use Rattle.std.proofs.Common.{◌≡◌, List, ℕ, [], map, ap, sym, ◌∙◌}
use Rattle.std.proofs.lemmas.List.{map-append}
use Rattle.room_wiring.specs.declared.names.SignalNames.{SignalNames}
use Rattle.room_wiring.specs.wiring_names.Lookup.{numbering, numbered}
use Rattle.room_wiring.proofs.wiring_names.Fresh.{numbering-append}
use Rattle.room_wiring.proofs.wiring_names.class_names.signals_of_port.Goals as goal

abbrev called : SignalNames → List ℕ
called s = s.name

pub returns : goal.returns
unfolding numbered
returns c =
    let port = c.args.port.now in
    let first : c.add_all.new.numbers ≡ numbering [] (map called port.incoming) =
    c.in_ok-add_all.ensures ∙ ap (λ ns. numbering ns (map called c.as_slice.result.now)) c.new-numbers.ensures ∙ ap (λ (xs : List SignalNames). numbering [] (map called xs)) c.as_slice.ensures in
    c.in_ok-add_all-2.ensures ∙ ap (λ ns. numbering ns (map called c.as_slice-2.result.now)) first
    ∙ ap (λ (xs : List SignalNames). numbering (numbering [] (map called port.incoming)) (map called xs)) c.as_slice-2.ensures
    ∙ sym (numbering-append [] (map called port.incoming) (map called port.outgoing)) ∙ ap (numbering []) (sym (map-append called port.incoming port.outgoing))
