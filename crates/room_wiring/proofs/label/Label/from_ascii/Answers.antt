use Rattle.std.specs.Str.{IsUtf8}
use Rattle.std.proofs.lemmas.Str.{IsUtf8-from_ascii}
use Rattle.room_wiring.proofs.label.Label.from_ascii.Goals as goal

pub unwrap-text-requires : goal.unwrap-text-requires
unwrap-text-requires c =
    let text : IsUtf8 c.args.bytes.now = IsUtf8-from_ascii c.args.bytes.now c.requires in
    c.from_utf8.ensures.succeeds (rw c.in_ok-bytes.ensures.items text)
