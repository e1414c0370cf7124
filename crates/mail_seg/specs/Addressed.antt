-- What a queue carries of a message: all but its receiver and its priority.
use Rattle.std.specs.Prelude.{ℕ}
use Rattle.room_kinds.specs.declared.message.Msg.{Msg}
use Rattle.mail_seg.specs.declared.contents.Contents.{Contents}

-- the message of contents that go to this receiver at this priority
abbrev pub addressed : ℕ → ℕ → Contents → Msg
addressed r p c = record {
  from = c.from;
  to = record { 0 = r };
  prio = record { 0 = p };
  stamp = c.stamp;
  source = c.source;
  target = c.target;
  signal = c.signal;
  payload = c.payload;
}
