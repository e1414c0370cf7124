-- Lines that are all known, as a source of parts.
use Rattle.std.specs.Prelude.{not, Bool}
use Rattle.inject_reader.specs.declared.inject_lines.accepted.Line.{Line}
use Rattle.model_run.specs.part_source.Parts.{is_message}

abbrev pub message_line : Line → Bool
message_line l = is_message l.what

abbrev pub settle_line : Line → Bool
settle_line l = not (is_message l.what)
