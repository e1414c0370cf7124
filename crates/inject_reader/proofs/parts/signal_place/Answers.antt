use Rattle.std.proofs.Common.{sym, ◌∙◌}
use Rattle.name_tables.specs.name_numbers.Names.{same}
use Rattle.room_wiring.specs.declared.names.SignalNames.{SignalNames}
use Rattle.inject_reader.proofs.GuessLemmas.{guess_right}
use Rattle.inject_reader.proofs.parts.signal_place.Goals as goal

pub returns-then-has_signal : goal.returns-then-has_signal
returns-then-has_signal c =
    sym (guess_right (λ (x : SignalNames). same x.name c.args.name.now) c.args.signals.now c.args.guess c.requires (sym c.has_signal.ensures ∙ c.if-has_signal.true))
